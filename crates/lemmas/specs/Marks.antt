-- Marks of the numbers met so far, for loops that ask whether a list has each number below n once. Assumes nothing.
use Rattle.std.specs.Prelude.{ℕ, ◌+◌, ◌<◌, ◌≤◌, ◌≡◌, refl, Bool, true, false, ◌&&◌, ◌||◌, length, get_or, set, drop, eqb}
use Rattle.std.proofs.Common.{lt_of_lt_of_le, arith, ap, ◌∙◌, get_or-set_same, get_or-set_other, eq-eqb, eqb-true}
use Rattle.std.proofs.Math.Path.{sym}
use mathlib.Core.List.{List, [], ◌∷◌}
use Rattle.std.proofs.lemmas.Bool.{eqb-false}
use Rattle.rules.specs.Words.{member, fresh, each_once}
use Rattle.lemmas.specs.Scans.{fresh-goes, fresh-out, fresh-twice, fresh-ends}

-- one number more behind, and its mark
pub mark-more : (n : ℕ) (seen : List Bool) (behind : List ℕ) (k : ℕ) → ((r : ℕ) → r < n → get_or seen r false ≡ member r behind) → n ≤ length seen → k < n
    → (r : ℕ) → r < n → get_or (set seen k true) r false ≡ member r (k ∷ behind)
unfolding member
mark-more n seen behind k marks room b r g = go (eqb r k) refl
  where
    go : (t : Bool) → eqb r k ≡ t → get_or (set seen k true) r false ≡ (eqb r k || member r behind)
    go true t =
        ap (λ j. get_or (set seen k true) j false) (eqb-true r k t) ∙ get_or-set_same seen k true false (lt_of_lt_of_le b room)
        ∙ sym (ap (λ z. z || member r behind) t)
    go false t = get_or-set_other seen k r true false (eqb-false r k t) ∙ marks r g ∙ sym (ap (λ z. z || member r behind) t)

module _ (n : ℕ) (l : List ℕ) where
  -- at place i: what is left to ask is what was asked, and the marks are the numbers behind
  pub record Met (seen : List Bool) (i : ℕ) : Type 0 where
    pub behind : List ℕ
    pub within : i ≤ length l
    pub left : fresh n [] l ≡ fresh n behind (drop i l)
    pub marks : (r : ℕ) → r < n → get_or seen r false ≡ member r behind

  pub met-first : (seen : List Bool) → ((r : ℕ) → r < n → get_or seen r false ≡ false) → Met seen 0
  unfolding member
  met-first seen clear = record { behind = []; within = omega arith; left = refl; marks = clear }

  whole : {b : Bool} → length l ≡ n → b ≡ fresh n [] l → b ≡ each_once n l
  unfolding each_once
  whole long e = e ∙ sym (ap (λ z. z && fresh n [] l) (eq-eqb (length l) n long))

  module _ (seen : List Bool) (i : ℕ) (m : Met seen i) where
    module _ (h : i < length l) where
      pub met_next : n ≤ length seen → get_or l i 0 < n → get_or seen (get_or l i 0) false ≡ false → Met (set seen (get_or l i 0) true) (i + 1)
      met_next room b e =
          record {
            behind = get_or l i 0 ∷ m.behind;
            within = omega arith;
            left = fresh-goes n l m.behind i h m.left b (sym (m.marks (get_or l i 0) b) ∙ e);
            marks = mark-more n seen m.behind (get_or l i 0) m.marks room b;
          }

      pub met-out : length l ≡ n → n ≤ get_or l i 0 → false ≡ each_once n l
      met-out long b = whole long (fresh-out n l m.behind i h m.left b)

      pub met-twice : length l ≡ n → get_or l i 0 < n → get_or seen (get_or l i 0) false ≡ true → false ≡ each_once n l
      met-twice long b e = whole long (fresh-twice n l m.behind i h m.left b (sym (m.marks (get_or l i 0) b) ∙ e))

    pub met-last : length l ≡ n → length l ≤ i → true ≡ each_once n l
    met-last long h = whole long (fresh-ends n l m.behind i h m.left)
