-- Chains of tests, as code makes them: the first that fails decides. How a call ends by its verdict, and what a shape in range says. Assumes nothing.
use Rattle.std.specs.Prelude.{ℕ, zero, suc, ◌*◌, ◌≤◌, ◌≡◌, refl, Bool, true, false, ◌&&◌, List, [], ◌∷◌, ◌++◌, length, leb, Float, Ok, Err}
use Rattle.std.proofs.Common.{mul-le-mul, ap, ◌∙◌, subst}
use Rattle.std.proofs.Math.Path.{sym}
use Rattle.std.proofs.Math.Bool.{cond}
use Rattle.std.proofs.Math.Dec.{T, leb→le}
use Rattle.std.specs.Float.Ieee.Fits.{and_l, and_r}
use Rattle.rules.specs.declared.Shape.{Shape}
use Rattle.rules.specs.declared.Refusal.{Refusal}
use Rattle.rules.specs.Results.{Checked}
use Rattle.rules.specs.Lent.{unweighted}
use Rattle.rules.specs.Reading.{reads}
use Rattle.rules.specs.Checks.{Test, test, checked, number_of, first_failed, within, rows_in, features_in, shape_in}

-- ---- bools

pub and_both : (a b : Bool) → (a && b) ≡ true → (a ≡ true) × (b ≡ true)
and_both true b h = (refl, h)
and_both false true h = (h, refl)
and_both false false h = (h, h)

-- ---- lists of tests

module _ (t : Test) (ts : List Test) where
  pub goes_on : {c : Checked} → t.passes ≡ true → c ≡ checked ts → c ≡ checked (t ∷ ts)
  unfolding checked
  goes_on h e = e ∙ sym (ap (λ z. cond z (checked ts) (Err t.tells)) h)

  pub stops : t.passes ≡ false → Err t.tells ≡ checked (t ∷ ts)
  unfolding checked
  stops h = sym (ap (λ z. cond z (checked ts) (Err t.tells)) h)

pub none_left : (Ok tt) ≡ checked []
unfolding checked
none_left = refl

-- by numbers alone
module _ (n : ℕ) (b : Bool) (ts : List Test) where
  pub passes : {r : ℕ} → b ≡ true → r ≡ first_failed ts → r ≡ first_failed (test n b ∷ ts)
  passes h e = e ∙ ap number_of (goes_on (test n b) ts h refl)

  pub fails : b ≡ false → n ≡ first_failed (test n b ∷ ts)
  fails h = ap number_of (stops (test n b) ts h)

pub none-failed : 0 ≡ first_failed []
none-failed = ap number_of none_left

-- one list of tests after another
abbrev pub and_then : Checked → Checked → Checked
and_then (Ok _) c = c
and_then (Err r) c = Err r

pub checked-append : (us vs : List Test) → checked (us ++ vs) ≡ and_then (checked us) (checked vs)
unfolding checked
checked-append [] vs = refl
checked-append (t ∷ us) vs = go t.passes (checked-append us vs)
  where
    go : (b : Bool) → checked (us ++ vs) ≡ and_then (checked us) (checked vs)
        → cond b (checked (us ++ vs)) (Err t.tells) ≡ and_then (cond b (checked us) (Err t.tells)) (checked vs)
    go true e = e
    go false e = refl

module _ (us vs : List Test) where
  pub all-go-on : {c : Checked} → checked us ≡ Ok tt → c ≡ checked vs → c ≡ checked (us ++ vs)
  all-go-on h e = e ∙ sym (checked-append us vs ∙ ap (λ z. and_then z (checked vs)) h)

  pub all-stop : (r : Refusal) → checked us ≡ Err r → Err r ≡ checked (us ++ vs)
  all-stop r h = sym (checked-append us vs ∙ ap (λ z. and_then z (checked vs)) h)

-- ---- how a reader ends: done, or refused with its result room as it was

pub reads-done : {n m : ℕ} {new told : List Float} (old : List Float) → n ≡ m → n ≡ 0 → told ≡ new → record { answer = Ok tt; rooms = told } ≡ reads m new old
unfolding reads
reads-done old e h t = λ i. reads ((sym h ∙ e) i) (t i) old

pub reads-refused : (n : ℕ) {m : ℕ} (new old : List Float) → n ≡ m → (n ≡ 0 → ⊥) → record { answer = Err n; rooms = old } ≡ reads m new old
unfolding reads
reads-refused zero new old e h = absurd (h refl)
reads-refused (suc n) new old e h = ap (λ m. reads m new old) e

-- ---- an empty slice says that there are no weights

pub some-weights : (ws : List Float) → (length ws ≡ 0 → ⊥) → unweighted ws ≡ false
unfolding unweighted
some-weights [] h = absurd (h refl)
some-weights (w ∷ ws) h = refl

-- ---- ranges

pub within-top : (top n : ℕ) → within top n ≡ true → n ≤ top
unfolding within
within-top top n h = leb→le n top (and_r (leb 1 n) (leb n top) (subst T (sym h) tt))

module _ (S : Shape) (h : shape_in S ≡ true) where
  pub rows-low : S.rows ≤ 65535
  unfolding within
  rows-low = leb→le S.rows 65535 (and_r (leb 1 S.rows) (leb S.rows 65535) (and_l (rows_in S.rows) (features_in S.features) (subst T (sym h) tt)))

  pub features-low : S.features ≤ 1024
  unfolding within
  features-low = leb→le S.features 1024 (and_r (leb 1 S.features) (leb S.features 1024) (and_r (rows_in S.rows) (features_in S.features) (subst T (sym h) tt)))

  pub cells_low : S.rows * S.features ≤ 67107840
  cells_low = mul-le-mul rows-low features-low

  pub entries-low : S.features * S.rows ≤ 67107840
  entries-low = mul-le-mul features-low rows-low
