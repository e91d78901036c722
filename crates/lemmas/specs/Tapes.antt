-- A growth looks at no more of its tapes than it uses: over any tapes that begin with the words and thresholds that it used, it grows the same and leaves what lies beyond.
-- It holds because a search takes the words of one permutation of the features or none, and a threshold is judged by itself. Assumes nothing.
use Rattle.std.specs.Prelude.{ℕ, ◌-◌, ◌≡◌, Bool, ◌&&◌, length, drop, T, Float}
use Rattle.std.proofs.Common.{arith, sym, ap, ◌∙◌, length-append, take-append-drop, take_at, drop_at}
use Rattle.std.proofs.Math.Path.{refl, subst}
use Rattle.std.proofs.Math.Bool.{true, false}
use mathlib.Core.List.{List, [], ◌∷◌, ◌++◌, append_assoc}
use Rattle.std.proofs.Math.ListN.{take}
use Rattle.std.specs.Float.Ieee.{le, lt}
use Rattle.rules.specs.declared.Params.{Params}
use Rattle.rules.specs.Words.{each_once}
use Rattle.rules.specs.Draws.{Out, bad, ok, Tapes, take_words, take_threshold, next_threshold, tape}
use Rattle.rules.specs.Search.{NodeRows, search}
use Rattle.rules.specs.Growth.{State, from_root}
use Rattle.lemmas.specs.Once.{once-length}
use Rattle.lemmas.specs.Outs.{Then}
use Rattle.lemmas.specs.Follows.{Follows, Gives, search-follows, state_with, growth-follows}

-- l begins with the first n entries of k
abbrev pub Begins : {A : Type 0} → ℕ → List A → List A → Type 0
Begins n k l = take n l ≡ take n k

-- how much was used of l where b is left
abbrev pub used : {A : Type 0} → List A → List A → ℕ
used l b = length l - length b

abbrev pub growth : Params → NodeRows → Tapes → Out (State Tapes)
growth P root d = from_root P (search (tape P.features) P) root d

-- growth came from d to s: over all tapes that begin with what it used of d it comes to s too, and leaves what lies beyond
abbrev pub Again : Params → NodeRows → Tapes → State Tapes → Type 0
Again P root d s =
    (ws : List ℕ) (ts : List Float) → Begins (used d.words s.left.words) d.words ws → Begins (used d.thresholds s.left.thresholds) d.thresholds ts
    → growth P root (record { words = ws; thresholds = ts; searches = d.searches })
    ≡ ok (state_with s (record { words = drop (used d.words s.left.words) ws; thresholds = drop (used d.thresholds s.left.thresholds) ts; searches = s.left.searches }))

-- ---- two lists that begin alike

module _ {A : Type 0} where
  -- l and l' begin alike; beyond that they are b and b'
  abbrev Shares : List A → List A → List A → List A → Type 0
  Shares b b' l l' = (a : List A) × (l ≡ a ++ b) × (l' ≡ a ++ b')

  shares-more : {b b' l l' : List A} (a : List A) → Shares b b' l l' → Shares b b' (a ++ l) (a ++ l')
  shares-more {b} {b'} a (c, p, q) = (a ++ c, ap (λ x. a ++ x) p ∙ sym (append_assoc a c b), ap (λ x. a ++ x) q ∙ sym (append_assoc a c b'))

  -- so where b is left of l, and k begins with what was used of it
  shares-used : (b k l l' : List A) → Shares b (drop (used l b) k) l l' → Begins (used l b) l k → l' ≡ k
  shares-used b k l l' (a, p, q) begins =
      let first : take (used l b) k ≡ a = begins ∙ (λ i. take (used l b) (p i)) ∙ take_at a b (used l b) (omega (arith, ap length p, length-append a b)) in
      q ∙ ap (λ x. x ++ drop (used l b) k) (sym first) ∙ take-append-drop (used l b) k

-- ---- each draw is given again, whatever lies beyond

-- tapes that begin alike; beyond that they are these
record Alike (rest rest' d d' : Tapes) : Type 0 where
  words : Shares rest.words rest'.words d.words d'.words
  thresholds : Shares rest.thresholds rest'.thresholds d.thresholds d'.thresholds
  searches : d.searches ≡ d'.searches

words-again : (n : ℕ) (ws : List ℕ) → each_once n ws ≡ true → (u : Tapes) → (tape n).shuffle (record { words = ws ++ u.words; thresholds = u.thresholds; searches = u.searches }) ≡ ok (ws, u)
unfolding tape take_words
words-again n ws once u =
    let all : length ws ≡ n = once-length n ws (subst T (sym once) tt) in
    rw (take_at ws u.words n all, once, take_at ws u.words n all, drop_at ws u.words n all)

module _ (n : ℕ) (rest rest' : Tapes) where
  -- a search's words are all of a permutation or none
  shuffles : (d : Tapes) → Gives (Alike rest rest') d ((tape n).shuffle d) (λ u. (tape n).shuffle u)
  unfolding tape take_words
  shuffles d = go (each_once n (take n d.words)) refl
    where
      go : (b : Bool) → each_once n (take n d.words) ≡ b → Gives (Alike rest rest') d (take_words b n d) (λ u. (tape n).shuffle u)
      go false once = tt
      go true once =
          λ u q. (
            record { words = take n d.words ++ u.words; thresholds = u.thresholds; searches = u.searches },
            record {
              words = subst (λ l. Shares rest.words rest'.words l (take n d.words ++ u.words)) (take-append-drop n d.words) (shares-more (take n d.words) q.words);
              thresholds = q.thresholds;
              searches = q.searches;
            },
            words-again n (take n d.words) once u,
          )

  -- a threshold is judged by itself
  thresholds : (d : Tapes) (lowest highest : Float) → Gives (Alike rest rest') d ((tape n).threshold d lowest highest) (λ u. (tape n).threshold u lowest highest)
  unfolding tape next_threshold take_threshold
  thresholds d lowest highest = next d.thresholds refl
    where
      taken : (b : Bool) (t : Float) (l : List Float) → (le lowest t && lt t highest) ≡ b → d.thresholds ≡ t ∷ l
          → Gives (Alike rest rest') d (take_threshold b t l d) (λ u. (tape n).threshold u lowest highest)
      taken false t l fair e = tt
      taken true t l fair e =
          λ u q. (
            record { words = u.words; thresholds = t ∷ u.thresholds; searches = u.searches },
            record {
              words = q.words;
              thresholds = subst (λ k. Shares rest.thresholds rest'.thresholds k (t ∷ u.thresholds)) (sym e) (shares-more (t ∷ []) q.thresholds);
              searches = q.searches;
            },
            rw fair,
          )

      next : (l : List Float) → d.thresholds ≡ l → Gives (Alike rest rest') d (next_threshold l lowest highest d) (λ u. (tape n).threshold u lowest highest)
      next [] e = tt
      next (t ∷ l) e = taken (le lowest t && lt t highest) t l refl e

  counts : (d u : Tapes) → Alike rest rest' ((tape n).done d) u → (u' : Tapes) × Alike rest rest' d u' × ((tape n).done u' ≡ u)
  unfolding tape
  counts d u q = (
    record { words = u.words; thresholds = u.thresholds; searches = d.searches },
    record { words = q.words; thresholds = q.thresholds; searches = refl },
    λ i. record { words = u.words; thresholds = u.thresholds; searches = q.searches i },
  )

-- ---- of a whole growth

pub growth-again : (P : Params) (root : NodeRows) (d : Tapes) → Then (growth P root d) (Again P root d)
growth-again P root d =
    go (growth P root d)
    (λ rest rest'. let n = P.features in growth-follows P _ _ _ (search-follows P _ _ _ (shuffles n rest rest') (thresholds n rest rest') (counts n rest rest')) root d)
  where
    go : (m : Out (State Tapes)) → ((rest rest' : Tapes) → Follows (Alike rest rest') d m (λ s. s.left) (growth P root) state_with) → Then m (Again P root d)
    go (bad n) h = tt
    go (ok s) h =
        λ ws ts b b'.
        let rest : Tapes = record { words = drop (used d.words s.left.words) ws; thresholds = drop (used d.thresholds s.left.thresholds) ts; searches = s.left.searches } in
        let (u, q, e) = h s.left rest rest (record { words = ([], refl, refl); thresholds = ([], refl, refl); searches = refl }) in
        ap (growth P root) (λ i. record { words = sym (shares-used _ ws _ _ q.words b) i; thresholds = sym (shares-used _ ts _ _ q.thresholds b') i; searches = q.searches i })
        ∙ e
