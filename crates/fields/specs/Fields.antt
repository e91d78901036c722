-- A field as the code answers it, and how its test is made after its bytes are taken. Assumes nothing.
use Rattle.std.specs.Prelude.{ℕ, suc, ◌+◌, ◌≤◌, ◌<◌, ◌≡◌, refl, Bool, List, length, leb, ltb, Float, Result, Ok, Err, ◌^◌}
use Rattle.std.proofs.Common.{◌∙◌, le-leb, arith}
use Rattle.std.proofs.Math.Path.{sym, ap}
use Rattle.std.proofs.Math.Bool.{true, false, cond}
use Rattle.std.proofs.lemmas.Bool.{lt-leb}
use Rattle.std.proofs.lemmas.Bool.Decides.{nat_tests}
use Rattle.std.proofs.lemmas.Result.{err_from_is_err_and}
use Rattle.std.specs.Result.{IsErrAnd}
use Rattle.rules.specs.declared.Misread.{Misread}
use Rattle.rules.specs.Words.{stretch}
use Rattle.rules.specs.Lent.{Entry}
use Rattle.rules.specs.Bytes.{number_in, float_of}
use Rattle.rules.specs.Model.{Field, misread, says, and_then, field, float_at, child_good}
use Rattle.rules.specs.Model as Model
use Rattle.lemmas.specs.Lists.{is_true}
use Rattle.lemmas.specs.Fields.{goes_on, field-met}
use Rattle.node_entries.specs.declared.NodeEntry.{NodeEntry}
use Rattle.fields.specs.declared.Header.{Header}

-- a test in code makes of each number what passes does
pub record Tests (post : ℕ → Bool → Type 0) (passes : ℕ → Bool) : Type 0 where
  pub met : (x : ℕ) (b : Bool) → x < 2 ^ 64 → post x b → b ≡ passes x

-- ---- as the code answers

-- what a field says, and the place of the next one
abbrev pub Read : Type 0 → Type 0
Read A = Result (A × ℕ) Misread

-- what a field says, as the code has it
abbrev pub read_as : {A B : Type 0} → (A → B) → Field A → Read B
read_as f (misread m) = Err m
read_as f (says x at) = Ok (f x, at)

-- an equation of two answers
abbrev pub Read-is : {A : Type 0} → Read A → Read A → Type 0
Read-is r s = r ≡ s

-- a number
abbrev pub number_field : Field ℕ → Read ℕ
number_field f = read_as (λ x. x) f

-- a header
abbrev pub header_of : Model.Header → Header
header_of h = record { features = h.features; trees = h.trees }

-- as a field says it
abbrev pub header_field : Field Model.Header → Read Header
header_field f = read_as header_of f

-- a node
abbrev pub node_entry : Entry → NodeEntry
node_entry e = record { value = e.value; feature = e.feature; threshold = e.threshold; score = e.score; truechild = e.true_child; falsechild = e.false_child }

-- as a field says it
abbrev pub node_field : Field Entry → Read NodeEntry
node_field f = read_as node_entry f

-- the number that k bytes say, before it is tested
unfoldable pub taken : List ℕ → ℕ → ℕ → Read ℕ
taken bs k at = cond (leb (at + k) (length bs)) (Ok (number_in (stretch at k bs), at + k)) (Err (record { number = 14; place = at }))

-- a split after its child, with its value as it is read
unfoldable pub split_from : List ℕ → ℕ → Float → ℕ → ℕ → Field Entry
split_from bs features value y at =
    and_then (field bs 2 16 (λ j. ltb j features) at) (λ j at.
    and_then (float_at bs at) (λ t at.
    and_then (float_at bs at) (λ s at.
    says (record { value = value; feature = j; threshold = float_of t; score = float_of s; true_child = y; false_child = suc y }) at)))

-- ---- one field, then the next

module _ {A B : Type 0} (h : A → B) (f : Field A) where
  -- what was said, where the code has b
  pub record Said (b : B) (next : ℕ) : Type 0 where
    pub what : A
    pub said : f ≡ says what next
    pub is : h what ≡ b

  pub said_as : {b : B} {next : ℕ} → Read-is (Ok (b, next)) (read_as h f) → Said b next
  said_as {b} {next} e = go f refl e
    where
      go : (g : Field A) → f ≡ g → Read-is (Ok (b, next)) (read_as h g) → Said b next
      go (misread m) q e = cc
      go (says x at) q e =
          let p : ◌≡◌ {A = B × ℕ} (h x, at) (b, next) = cc in
          record { what = x; said = q ∙ (λ i. says x (p i).1); is = λ i. (p i).0 }

  pub is-misread : {m : Misread} → Read-is (Err m) (read_as h f) → f ≡ misread m
  is-misread {m} e = go f e
    where
      go : (g : Field A) → Read-is (Err m) (read_as h g) → g ≡ misread m
      go (misread l) e = let p : l ≡ m = cc in ap misread p
      go (says x at) e = cc

-- a number is what the code has
pub said-is : {f : Field ℕ} {x next : ℕ} → Read-is (Ok (x, next)) (number_field f) → f ≡ says x next
said-is {f} {x} {next} e = let s = said_as (λ y. y) f e in s.said ∙ ap (λ y. says y next) s.is

-- what the code has, as the rules have it
abbrev pub header_from : Header → Model.Header
header_from r = record { features = r.features; trees = r.trees }

abbrev pub entry_from : NodeEntry → Entry
entry_from r = record { value = r.value; feature = r.feature; threshold = r.threshold; score = r.score; true_child = r.truechild; false_child = r.falsechild }

pub header-said : {f : Field Model.Header} {r : Header} {next : ℕ} → Read-is (Ok (r, next)) (header_field f) → f ≡ says (header_from r) next
header-said {f} {r} {next} e = let s = said_as header_of f e in s.said ∙ ap (λ x. says (header_from x) next) s.is

pub stops_at : {A B : Type 0} {f : Field A} {m : Misread} (g : A → ℕ → Field B) → f ≡ misread m → and_then f g ≡ misread m
unfolding and_then
stops_at g h = ap (λ f. and_then f g) h

module _ {A B : Type 0} (f : Field ℕ) (g : ℕ → ℕ → Field A) (h : A → B) where
  pub stops : {m : Misread} → Read-is (Err m) (number_field f) → Read-is (Err m) (read_as h (and_then f g))
  stops e = sym (ap (read_as h) (stops_at g (is-misread (λ y. y) f e)))

  pub goes : {x next : ℕ} {r : Read B} → Read-is (Ok (x, next)) (number_field f) → r ≡ read_as h (g x next) → r ≡ read_as h (and_then f g)
  goes e k = k ∙ sym (ap (read_as h) (goes_on g (said-is e)))

-- the exit of a `?`
pub left_by : {A E : Type 0} {m : E} (r : Result A E) → IsErrAnd r (λ e. e ≡ m) → r ≡ Err m
left_by r h = let p = err_from_is_err_and r h in p.1 ∙ ap Err p.2

-- ---- the bytes first, then the test

module _ (bs : List ℕ) (k at : ℕ) where
  -- by whether the bytes are there
  abbrev if_long : ℕ → Bool → Read ℕ
  if_long n long = cond long (Ok (n, at + k)) (Err (record { number = 14; place = at }))

  pub taken-long : {n : ℕ} → n ≡ number_in (stretch at k bs) → at + k ≤ length bs → Read-is (Ok (n, at + k)) (taken bs k at)
  unfolding taken
  taken-long e h = λ i. if_long (e i) (sym (le-leb (at + k) (length bs) h) i)

  pub taken-short : length bs < at + k → Read-is (Err (record { number = 14; place = at })) (taken bs k at)
  unfolding taken
  taken-short h = sym (ap (if_long (number_in (stretch at k bs))) (lt-leb (at + k) (length bs) h))

-- what is taken, tested
abbrev pub tested : (ℕ → Bool) → ℕ → ℕ → Read ℕ → Read ℕ
tested passes n at (Err m) = Err m
tested passes n at (Ok (x, next)) = cond (passes x) (Ok (x, next)) (Err (record { number = n; place = at }))

module _ (bs : List ℕ) (k n : ℕ) (passes : ℕ → Bool) (at : ℕ) where
  pub field-tested : number_field (field bs k n passes at) ≡ tested passes n at (taken bs k at)
  unfolding taken field
  field-tested = go (leb (at + k) (length bs))
    where
      said : ℕ
      said = number_in (stretch at k bs)

      met : (good : Bool) → number_field (cond good (says said (at + k)) (Model.wrong n at)) ≡ cond good (Ok (said, at + k)) (Err (record { number = n; place = at }))
      met true = refl
      met false = refl

      go : (long : Bool)
          → number_field (cond long (cond (passes said) (says said (at + k)) (Model.wrong n at)) (Model.wrong 14 at))
          ≡ tested passes n at (cond long (Ok (said, at + k)) (Err (record { number = 14; place = at })))
      go true = met (passes said)
      go false = refl

  pub misread-so : {m : Misread} → Read-is (Err m) (taken bs k at) → Read-is (Err m) (number_field (field bs k n passes at))
  misread-so e = ap (tested passes n at) e ∙ sym field-tested

  pub said-so : {x next : ℕ} → Read-is (Ok (x, next)) (taken bs k at) → passes x ≡ true → Read-is (Ok (x, next)) (number_field (field bs k n passes at))
  said-so {x} {next} e p = sym (ap (λ b. cond b (Ok (x, next)) (Err (record { number = n; place = at }))) p) ∙ ap (tested passes n at) e ∙ sym field-tested

  pub failed-so : {x next : ℕ} → Read-is (Ok (x, next)) (taken bs k at) → passes x ≡ false → Read-is (Err (record { number = n; place = at })) (number_field (field bs k n passes at))
  failed-so {x} {next} e p = sym (ap (λ b. cond b (Ok (x, next)) (Err (record { number = n; place = at }))) p) ∙ ap (tested passes n at) e ∙ sym field-tested

  -- a number that is said has passed its test
  pub passed-so : {x next : ℕ} → Read-is (Ok (x, next)) (number_field (field bs k n passes at)) → passes x ≡ true
  passed-so e = is_true _ (field-met bs k n passes at _ _ (said-is e)).passed

-- a child that is there has the next one inside
pub child-inside : (n k y : ℕ) → child_good n k y ≡ true → (y ≡ 0 → ⊥) → suc y < n
unfolding child_good
child-inside n k y h some = grind (arith, nat_tests)
