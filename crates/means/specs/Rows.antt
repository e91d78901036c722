-- A result room, rewritten from its front on: each of the first places by its row's number and by what stood there. Assumes nothing.
use Prim.Native.Nat.{ℕ, zero, suc, ◌+◌, ◌<◌, ◌≤◌}
use Rattle.std.proofs.Common.{not-suc-le-zero, le_of_suc-le-suc, zero-add, add-zero, add-one, ◌∙◌, subst, length-set}
use native.Mathlib.Omega.{arith}
use Rattle.std.specs.Prelude.{◌≡◌, length, get_or, Float}
use Rattle.std.proofs.Math.Path.{refl, sym, ap}
use mathlib.Core.List.{List, [], ◌∷◌, map}
use Rattle.std.proofs.Math.ListN.{set}
use Rattle.std.specs.Float.{nan}
use Rattle.rules.specs.Words.{from, filled}

-- the n places from row a on
unfoldable pub rewritten : (ℕ → Float → Float) → ℕ → ℕ → List Float → List Float
rewritten f a n [] = []
rewritten f a zero (x ∷ l) = x ∷ l
rewritten f a (suc n) (x ∷ l) = f a x ∷ rewritten f (suc a) n l

module _ (f : ℕ → Float → Float) where
  none-rewritten : (a : ℕ) (l : List Float) → rewritten f a 0 l ≡ l
  unfolding rewritten
  none-rewritten a [] = refl
  none-rewritten a (x ∷ l) = refl

  pub length-rewritten : (a n : ℕ) (l : List Float) → length (rewritten f a n l) ≡ length l
  unfolding rewritten
  length-rewritten a n [] = refl
  length-rewritten a zero (x ∷ l) = refl
  length-rewritten a (suc n) (x ∷ l) = ap suc (length-rewritten (suc a) n l)

  stands : (a n : ℕ) (l : List Float) → get_or (rewritten f a n l) n nan ≡ get_or l n nan
  unfolding rewritten
  stands a n [] = refl
  stands a zero (x ∷ l) = refl
  stands a (suc n) (x ∷ l) = stands (suc a) n l

  set_next : (a n : ℕ) (l : List Float) → n < length l → set (rewritten f a n l) n (f (a + n) (get_or l n nan)) ≡ rewritten f a (suc n) l
  unfolding rewritten
  set_next a n [] h = absurd (not-suc-le-zero h)
  set_next a zero (x ∷ l) h = (λ i. f (add-zero a i) x ∷ sym (none-rewritten (suc a) l) i)
  set_next a (suc n) (x ∷ l) h =
      ap (λ v. f a x ∷ set (rewritten f (suc a) n l) n v) (ap (λ k. f k (get_or l n nan)) (shift a n)) ∙ ap (λ r. f a x ∷ r) (set_next (suc a) n l (le_of_suc-le-suc h))
    where
      shift : (a n : ℕ) → a + suc n ≡ suc a + n
      shift a n = omega arith

  -- ---- a loop over the rows

  pub record Written (old : List Float) (i : ℕ) (room : List Float) : Type 0 where
    pub long : length room ≡ length old
    pub exact : room ≡ rewritten f 0 i old

  pub row_first : (old : List Float) → Written old 0 old
  row_first old = record { long = refl; exact = sym (none-rewritten 0 old) }

  pub row_next : (old room : List Float) (i : ℕ) (v : Float) → i < length old → Written old i room → v ≡ f i (get_or room i nan) → Written old (i + 1) (set room i v)
  row_next old room i v h w e = record { long = ap length step ∙ length-rewritten 0 (i + 1) old; exact = step }
    where
      step : set room i v ≡ rewritten f 0 (i + 1) old
      step =
          (λ r. set (w.exact r) i ((e ∙ ap (λ l. f i (get_or l i nan)) w.exact ∙ ap (f i) (stands 0 i old) ∙ ap (λ k. f k (get_or old i nan)) (sym (zero-add i))) r))
          ∙ set_next 0 i old h ∙ ap (λ k. rewritten f 0 k old) (sym (add-one i))

  -- ---- a loop over some of the rows

  -- a room whose places before i are rewritten has become one whose places before j are
  pub record Further (i j : ℕ) (room new : List Float) : Type 0 where
    pub long : length new ≡ length room
    pub goes : (old : List Float) → Written old i room → Written old j new

  pub further-none : (i : ℕ) (room : List Float) → Further i i room room
  further-none i room = record { long = refl; goes = λ old w. w }

  pub further-next : (i j : ℕ) (room new : List Float) (v : Float) → j < length room → Further i j room new → v ≡ f j (get_or new j nan) → Further i (j + 1) room (set new j v)
  further-next i j room new v h g e =
      record {
        long = length-set new j v ∙ g.long;
        goes = λ old w. row_next old new j v (subst (λ n. j < n) w.long h) (g.goes old w) e;
      }

  pub further-last : (i j n : ℕ) (room new : List Float) → j ≤ n → n ≤ j → Further i j room new → Further i n room new
  further-last i j n room new h g w = subst (λ m. Further i m room new) (same j n h g) w
    where
      same : (j n : ℕ) → j ≤ n → n ≤ j → j ≡ n
      same j n h g = omega arith

  pub further-on : (i j k : ℕ) (room new last : List Float) → Further i j room new → Further j k new last → Further i k room last
  further-on i j k room new last g h = record { long = h.long ∙ g.long; goes = λ old w. h.goes old (g.goes old w) }

  pub further-all : (old new : List Float) (n : ℕ) → Further 0 n old new → new ≡ rewritten f 0 n old
  further-all old new n g = (g.goes old (row_first old)).exact

-- ---- a loop over six places

-- n of the six places from i on have become what w says, by their number among the six and by what stood there
pub record Laid (w : ℕ → Float → Float) (i n : ℕ) (room new : List Float) : Type 0 where
  pub within : n ≤ 6
  pub long : length new ≡ length room
  pub goes : (f : ℕ → Float → Float) → ((k : ℕ) (x : Float) → k < 6 → w k x ≡ f (i + k) x) → Further f i (i + n) room new

module _ (w : ℕ → Float → Float) (i : ℕ) (room : List Float) where
  pub lay-next : (n : ℕ) (new : List Float) (v : Float) → n < 6 → i + 6 ≤ length room → Laid w i n room new → v ≡ w n (get_or new (i + n) nan)
      → Laid w i (n + 1) room (set new (i + n) v)
  lay-next n new v h g l e =
      record {
        within = omega arith;
        long = length-set new (i + n) v ∙ l.long;
        goes = λ f s. subst (λ j. Further f i j room (set new (i + n) v)) (up i n) (further-next f i (i + n) room new v (omega arith) (l.goes f s) (e ∙ s n _ h));
      }
    where
      up : (i n : ℕ) → i + n + 1 ≡ i + (n + 1)
      up i n = omega arith

  pub lay-last : (n : ℕ) (new : List Float) → 6 ≤ n → Laid w i n room new → Laid w i 6 room new
  lay-last n new h l = subst (λ m. Laid w i m room new) (same n h l.within) l
    where
      same : (n : ℕ) → 6 ≤ n → n ≤ 6 → n ≡ 6
      same n h g = omega arith

-- twice over the same rows
pub rewritten-twice : (f g : ℕ → Float → Float) (a n : ℕ) (l : List Float) → rewritten f a n (rewritten g a n l) ≡ rewritten (λ k x. f k (g k x)) a n l
unfolding rewritten
rewritten-twice f g a n [] = refl
rewritten-twice f g a zero (x ∷ l) = refl
rewritten-twice f g a (suc n) (x ∷ l) = ap (λ r. f a (g a x) ∷ r) (rewritten-twice f g (suc a) n l)

pub rewritten-same : (f g : ℕ → Float → Float) (a n : ℕ) (l : List Float) → ((k : ℕ) (x : Float) → f k x ≡ g k x) → rewritten f a n l ≡ rewritten g a n l
rewritten-same f g a n l e = λ i. rewritten (λ k x. e k x i) a n l

pub rewritten-kept : (a n : ℕ) (l : List Float) → rewritten (λ k x. x) a n l ≡ l
unfolding rewritten
rewritten-kept a n [] = refl
rewritten-kept a zero (x ∷ l) = refl
rewritten-kept a (suc n) (x ∷ l) = ap (λ r. x ∷ r) (rewritten-kept (suc a) n l)

-- where nothing of what stood there is left
pub rewritten-all : (f : ℕ → Float) (a n : ℕ) (l : List Float) → length l ≡ n → rewritten (λ k x. f k) a n l ≡ map f (from a n)
unfolding rewritten from
rewritten-all f a zero [] h = refl
rewritten-all f a zero (x ∷ l) h = absurd (no (length l) h)
  where
    no : (n : ℕ) → suc n ≡ 0 → ⊥
    no n h = omega arith
rewritten-all f a (suc n) [] h = absurd (no n h)
  where
    no : (n : ℕ) → 0 ≡ suc n → ⊥
    no n h = omega arith
rewritten-all f a (suc n) (x ∷ l) h = ap (λ r. f a ∷ r) (rewritten-all f (suc a) n l (same (length l) n h))
  where
    same : (m n : ℕ) → suc m ≡ suc n → m ≡ n
    same m n h = omega arith

-- one value at every place
pub rewritten-filled : (y : Float) (a n : ℕ) (l : List Float) → length l ≡ n → rewritten (λ k x. y) a n l ≡ filled y l
unfolding rewritten
rewritten-filled y a n [] h = refl
rewritten-filled y a zero (x ∷ l) h = absurd (no (length l) h)
  where
    no : (n : ℕ) → suc n ≡ 0 → ⊥
    no n h = omega arith
rewritten-filled y a (suc n) (x ∷ l) h = ap (λ r. y ∷ r) (rewritten-filled y (suc a) n l (same (length l) n h))
  where
    same : (m n : ℕ) → suc m ≡ suc n → m ≡ n
    same m n h = omega arith
