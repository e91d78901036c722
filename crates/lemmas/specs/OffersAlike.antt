-- What features offer a node does not hang on how the entries of its columns are named: columns of rows, and columns of all that growth learns of these rows, offer the same.
-- Assumes nothing.
use Rattle.std.specs.Prelude.{ℕ, ◌+◌, ◌≡◌, Bool, ◌&&◌, ◌||◌, get_or, drop, Float}
use Rattle.std.proofs.Math.Path.{refl, ap}
use Rattle.std.proofs.Common.{◌∙◌}
use Rattle.std.proofs.Math.Bool.{not, cond}
use mathlib.Core.List.{List, [], ◌∷◌, map}
use Rattle.std.proofs.Math.ListN.{length}
use Rattle.std.proofs.Math.Dec.{leb}
use Rattle.std.specs.Float.{nan}
use Rattle.std.specs.Float.Ieee.{lt, le, eq}
use Rattle.rules.specs.declared.Splitter.{Splitter}
use Rattle.rules.specs.declared.Splitter.TheVariants.{Best, Random}
use Rattle.rules.specs.Words.{keep, total}
use Rattle.lemmas.specs.Lists.{Every, every-imp, keep-map, keep_same, total-map}
use Rattle.lemmas.specs.Offers.{cuts_from, cuts_along, cuts_at, last_of, spread, Offers, offers_of, offered, draws_of}

module _ {A B : Type 0} (count : A → ℕ) (leaf : ℕ) (f : B → A) where
  from-map : (value : A → Float) (k : ℕ) (x : B) (l : List B) → cuts_from value count leaf k (f x) (map f l) ≡ cuts_from (λ y. value (f y)) (λ y. count (f y)) leaf k x l
  unfolding cuts_from
  from-map value k x [] = refl
  from-map value k x (y ∷ l) =
      λ i. (not (eq (value (f y)) (value (f x))) && (leb leaf k && leb leaf (total-map count f (y ∷ l) i))) || from-map value (k + count (f y)) y l i

  along-map : (value : A → Float) (l : List B) → cuts_along value count leaf (map f l) ≡ cuts_along (λ y. value (f y)) (λ y. count (f y)) leaf l
  unfolding cuts_along
  along-map value [] = refl
  along-map value (x ∷ l) = from-map value (count (f x)) x l

  at_map : (value : A → Float) (l : List B) (t : Float) → cuts_at value count leaf (map f l) t ≡ cuts_at (λ y. value (f y)) (λ y. count (f y)) leaf l t
  unfolding cuts_at
  at_map value l t = λ i. leb leaf (side (λ x. le (value x) t) i) && leb leaf (side (λ x. not (le (value x) t)) i)
    where
      side : (p : A → Bool) → total count (keep p (map f l)) ≡ total (λ y. count (f y)) (keep (λ y. p (f y)) l)
      side p = ap (total count) (keep-map p f l) ∙ total-map count f (keep (λ y. p (f y)) l)

  last-map : (x : B) (l : List B) → last_of (f x) (map f l) ≡ f (last_of x l)
  unfolding last_of
  last-map x [] = refl
  last-map x (y ∷ l) = last-map y l

  spread-map : (value : A → Float) (l : List B) → spread value (map f l) ≡ spread (λ y. value (f y)) l
  unfolding spread
  spread-map value [] = refl
  spread-map value (x ∷ l) = ap (λ y. lt (value (f x)) (value y)) (last-map x l)

-- two that offer the same for feature j
record Alike (o o' : Offers) (j : ℕ) : Type 0 where
  place : o.place j ≡ o'.place j
  draws : o.draws j ≡ o'.draws j
  parts : (t : Float) → o.parts j t ≡ o'.parts j t

module _ (o o' : Offers) where
  offered-same : (splitter : Splitter) (ts : List Float) (js : List ℕ) → Every (Alike o o') js → offered o splitter ts js ≡ offered o' splitter ts js
  unfolding offered
  offered-same Best ts [] h = refl
  offered-same Best ts (j ∷ js) h = λ i. h.0.place i || offered-same Best ts js h.1 i
  offered-same Random ts [] h = refl
  offered-same Random ts (j ∷ js) h =
      λ i. cond (h.0.draws i) (h.0.parts (get_or ts 0 nan) i || offered-same Random (drop 1 ts) js h.1 i) (offered-same Random ts js h.1 i)

  draws-same : (splitter : Splitter) (js : List ℕ) → Every (Alike o o') js → draws_of o splitter js ≡ draws_of o' splitter js
  unfolding draws_of
  draws-same Best js h = refl
  draws-same Random js h = ap length (keep_same o.draws o'.draws js (every-imp _ _ (λ j a. a.draws) js h))

module _ {A B : Type 0} (value : ℕ → A → Float) (count : A → ℕ) (leaf : ℕ) (column : ℕ → List A) (f : B → A) (column' : ℕ → List B) where
  alike-map : (j : ℕ) → column j ≡ map f (column' j) → Alike (offers_of value count leaf column) (offers_of (λ j x. value j (f x)) (λ x. count (f x)) leaf column') j
  alike-map j e =
      record {
        place = ap (cuts_along (value j) count leaf) e ∙ along-map count leaf f (value j) (column' j);
        draws = ap (spread (value j)) e ∙ spread-map count leaf f (value j) (column' j);
        parts = λ t. ap (λ l. cuts_at (value j) count leaf l t) e ∙ at_map count leaf f (value j) (column' j) t;
      }

  pub offers-map : (splitter : Splitter) (ts : List Float) (js : List ℕ) → Every (λ j. column j ≡ map f (column' j)) js
      → offered (offers_of value count leaf column) splitter ts js ≡ offered (offers_of (λ j x. value j (f x)) (λ x. count (f x)) leaf column') splitter ts js
  offers-map splitter ts js h = offered-same _ _ splitter ts js (every-imp _ _ alike-map js h)

  pub draws-map : (splitter : Splitter) (js : List ℕ) → Every (λ j. column j ≡ map f (column' j)) js
      → draws_of (offers_of value count leaf column) splitter js ≡ draws_of (offers_of (λ j x. value j (f x)) (λ x. count (f x)) leaf column') splitter js
  draws-map splitter js h = draws-same _ _ splitter js (every-imp _ _ alike-map js h)
