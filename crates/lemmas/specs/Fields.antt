-- The fields of a file, one at a time: how a field ends, what follows it, and that it says what was written where it lies. Assumes nothing.
use Rattle.std.specs.Prelude.{ℕ, ◌+◌, ◌^◌, ◌<◌, ◌≤◌, ◌≡◌, Bool, true, false, cond, List, [], ◌∷◌, ◌++◌, length, drop, T, leb, Float}
use Rattle.std.proofs.Common.{add-zero, arith, sym, ◌∙◌, subst, length-drop, length-take-le, le-leb, leb-true}
use Rattle.std.proofs.Math.Path.{refl, ap}
use Rattle.std.specs.Float.{binary64}
use Rattle.std.specs.Float.Ieee.{fits}
use Rattle.std.proofs.lemmas.Bool.{lt-leb}
use Rattle.rules.specs.Words.{stretch}
use Rattle.rules.specs.Bytes.{bytes_of, number_in, float_bytes, good_pattern, float_of}
use Rattle.rules.specs.Model.{Field, misread, says, wrong, and_then, field, float_at, before}
use Rattle.lemmas.specs.Lists.{is_true, Every, every_take, every_drop}
use Rattle.lemmas.specs.ByteNumbers.{Byte, bytes-long, number-back, bytes_back, number-below, pattern_of, pattern-below, pattern-good, pattern-back}
use Rattle.lemmas.specs.Lies.{Lies, lies-front, lies-rest, lies-both, after_both}

-- ---- how a field ends

module _ (bs : List ℕ) (k n : ℕ) (passes : ℕ → Bool) (at : ℕ) where
  -- by whether the file is long enough, and whether the number passes
  abbrev ends : Bool → Bool → Field ℕ
  ends long good = cond long (cond good (says (number_in (stretch at k bs)) (at + k)) (wrong n at)) (wrong 14 at)

  field-ends : field bs k n passes at ≡ ends (leb (at + k) (length bs)) (passes (number_in (stretch at k bs)))
  unfolding field
  field-ends = refl

  pub field-short : length bs < at + k → field bs k n passes at ≡ wrong 14 at
  field-short h = field-ends ∙ ap (λ b. ends b (passes (number_in (stretch at k bs)))) (lt-leb (at + k) (length bs) h)

  pub field-fails : at + k ≤ length bs → passes (number_in (stretch at k bs)) ≡ false → field bs k n passes at ≡ wrong n at
  field-fails h q = field-ends ∙ λ i. ends (le-leb (at + k) (length bs) h i) (q i)

  pub field-says : at + k ≤ length bs → passes (number_in (stretch at k bs)) ≡ true → field bs k n passes at ≡ says (number_in (stretch at k bs)) (at + k)
  field-says h q = field-ends ∙ λ i. ends (le-leb (at + k) (length bs) h i) (q i)

-- ---- what follows

-- no field that is misread says something
abbrev Spoke : {A : Type 0} → Field A → Type 0
Spoke (misread m) = ⊥
Spoke (says a at) = Unit {0}

pub no_says : {A B : Type 0} {m : _} {a : A} {at : ℕ} → ◌≡◌ {A = Field A} (misread m) (says a at) → B
no_says h = absurd (subst Spoke (sym h) tt)

pub says_first : {A : Type 0} {a b : A} {at end : ℕ} → ◌≡◌ {A = Field A} (says a at) (says b end) → a ≡ b
says_first {A} {a} {b} {at} {end} h = ap first h
  where
    first : Field A → A
    first (misread m) = a
    first (says x p) = x

pub says-next : {A : Type 0} {a b : A} {at end : ℕ} → ◌≡◌ {A = Field A} (says a at) (says b end) → at ≡ end
says-next {A} {a} {b} {at} {end} h = ap next h
  where
    next : Field A → ℕ
    next (misread m) = at
    next (says x p) = p

module _ {A B : Type 0} where
  -- where the whole says something, so does its first part
  pub record Parts (f : Field A) (g : A → ℕ → Field B) (b : B) (end : ℕ) : Type 0 where
    pub said : A
    pub mid : ℕ
    pub one : f ≡ says said mid
    pub two : g said mid ≡ says b end

  pub parts : (f : Field A) (g : A → ℕ → Field B) (b : B) (end : ℕ) → and_then f g ≡ says b end → Parts f g b end
  unfolding and_then
  parts (misread m) g b end h = no_says h
  parts (says a at) g b end h = record { said = a; mid = at; one = refl; two = h }

  pub goes_on : {f : Field A} {a : A} {at : ℕ} (g : A → ℕ → Field B) → f ≡ says a at → and_then f g ≡ g a at
  unfolding and_then
  goes_on g h = ap (λ f. and_then f g) h

-- ---- what is written is read: where x lies, f says a, and the next field comes right after x

module _ (bs : List ℕ) where
  abbrev pub Reads : {A : Type 0} → (ℕ → Field A) → List ℕ → A → Type 0
  Reads f x a = (at : ℕ) → Lies bs at x → f at ≡ says a (at + length x)

  pub reads_then : {A B : Type 0} (f : ℕ → Field A) (g : A → ℕ → Field B) (x y : List ℕ) (a : A) (b : B) → Reads f x a → Reads (g a) y b → Reads (λ at. and_then (f at) g) (x ++ y) b
  reads_then f g x y a b h k at l = goes_on g (h at (lies-front bs at x y l)) ∙ k (at + length x) (lies-rest bs at x y l) ∙ ap (says b) (after_both bs at x y)

  -- and nothing after it
  pub reads-last : {A B : Type 0} (f : ℕ → Field A) (make : A → B) (x : List ℕ) (a : A) → Reads f x a → Reads (λ at. and_then (f at) (λ c next. says (make c) next)) x (make a)
  reads-last f make x a h at l = goes_on (λ c next. says (make c) next) (h at l)

  pub reads_nothing : {A : Type 0} (a : A) → Reads (says a) [] a
  reads_nothing a at l = ap (says a) (sym (add-zero at))

  pub reads_before : {A : Type 0} (e : A) (f : ℕ → Field (List A)) (x : List ℕ) (es : List A) → Reads f x es → Reads (λ at. before e (f at)) x (e ∷ es)
  unfolding before
  reads_before e f x es h = reads-last f (λ l. e ∷ l) x es h

  pub field-written : (k n : ℕ) (passes : ℕ → Bool) (v : ℕ) → v < 256 ^ k → T (passes v) → Reads (field bs k n passes) (bytes_of k v) v
  field-written k n passes v below passed at l =
      field-says bs k n passes at (subst (λ m. at + m ≤ length bs) (bytes-long k v) l.inside) (ap passes number ∙ is_true (passes v) passed)
      ∙ (λ i. says (number i) (at + sym (bytes-long k v) i))
    where
      number : number_in (stretch at k bs) ≡ v
      number = ap number_in (ap (λ m. stretch at m bs) (sym (bytes-long k v)) ∙ l.there) ∙ number-back k v below

  pub float-written : (x : Float) → T (fits binary64 x) → Reads (float_at bs) (float_bytes x) (pattern_of x)
  unfolding float_at float_bytes
  float-written x fit = field-written 8 16 good_pattern (pattern_of x) (pattern-below x fit) (pattern-good x fit)

-- ---- what is read is written: x lies where the field began, and the next one comes right after it

pub record Found (bs : List ℕ) (at : ℕ) (x : List ℕ) (end : ℕ) : Type 0 where
  pub lies : Lies bs at x
  pub ends : end ≡ at + length x

pub found-then : (bs : List ℕ) (at : ℕ) (x : List ℕ) (mid : ℕ) (y : List ℕ) (end : ℕ) → Found bs at x mid → Found bs mid y end → Found bs at (x ++ y) end
found-then bs at x mid y end h k =
    record {
      lies = lies-both bs at x y h.lies (subst (λ m. Lies bs m y) h.ends k.lies);
      ends = k.ends ∙ ap (λ m. m + length y) h.ends ∙ after_both bs at x y;
    }

module _ (bs : List ℕ) (k n : ℕ) (passes : ℕ → Bool) (at v end : ℕ) where
  pub record Met : Type 0 where
    pub passed : T (passes v)
    pub inside : at + k ≤ length bs
    pub number : v ≡ number_in (stretch at k bs)
    pub next : end ≡ at + k

  pub field-met : field bs k n passes at ≡ says v end → Met
  field-met h = go (leb (at + k) (length bs)) (passes number) refl refl (sym (field-ends bs k n passes at) ∙ h)
    where
      number : ℕ
      number = number_in (stretch at k bs)

      go : (long good : Bool) → leb (at + k) (length bs) ≡ long → passes number ≡ good → ends bs k n passes at long good ≡ says v end → Met
      go true true l p h =
          record {
            passed = subst (λ m. T (passes m)) (says_first h) (subst T (sym p) tt);
            inside = leb-true (at + k) (length bs) l;
            number = sym (says_first h);
            next = sym (says-next h);
          }
      go true false l p h = no_says h
      go false good l p h = no_says h

  module _ (are : Every Byte bs) (m : Met) where
    bytes-met : Every Byte (stretch at k bs)
    bytes-met = every_take Byte k (drop at bs) (every_drop Byte at bs are)

    long-met : length (stretch at k bs) ≡ k
    long-met = length-take-le k (drop at bs) (subst (λ l. k ≤ l) (sym (length-drop at bs)) (omega (arith, m.inside)))

    pub met-below : v < 256 ^ k
    met-below = subst (λ w. w < 256 ^ k) (sym m.number) (subst (λ l. number_in (stretch at k bs) < 256 ^ l) long-met (number-below (stretch at k bs) bytes-met))

    met-bytes : bytes_of k v ≡ stretch at k bs
    met-bytes = (λ i. bytes_of (sym long-met i) (m.number i)) ∙ bytes_back (stretch at k bs) bytes-met

    pub met-found : Found bs at (bytes_of k v) end
    met-found =
        record {
          lies = record { inside = subst (λ l. at + l ≤ length bs) (sym (bytes-long k v)) m.inside; there = ap (λ l. stretch at l bs) (bytes-long k v) ∙ sym met-bytes };
          ends = m.next ∙ ap (λ l. at + l) (sym (bytes-long k v));
        }

pub float-met : (bs : List ℕ) (at v end : ℕ) → float_at bs at ≡ says v end → Met bs 8 16 good_pattern at v end
unfolding float_at
float-met bs at v end h = field-met bs 8 16 good_pattern at v end h

pub float-found : (bs : List ℕ) (at v end : ℕ) → Every Byte bs → Met bs 8 16 good_pattern at v end → Found bs at (float_bytes (float_of v)) end
unfolding float_bytes
float-found bs at v end are m =
    subst (λ w. Found bs at (bytes_of 8 w) end) (sym (pattern-back v (met-below bs 8 16 good_pattern at v end are m) m.passed)) (met-found bs 8 16 good_pattern at v end are m)
