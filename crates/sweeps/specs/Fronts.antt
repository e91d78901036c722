-- Lists whose front a loop writes, and what is kept of one more entry. Assumes nothing.
use Rattle.std.specs.Prelude.{ℕ, ◌+◌, ◌<◌, ◌≤◌, ◌≡◌, Bool, true, false, not, List, [], ◌∷◌, ◌++◌, length, get_or, set, drop}
use Rattle.std.proofs.Common.{le_refl, add-zero, add-one, arith, ◌∙◌, append-nil, length-append, drop-set-lt, get_or-drop, drop-drop}
use Rattle.std.proofs.Math.Path.{sym, ap}
use Rattle.std.proofs.Math.ListN.{take}
use Rattle.std.proofs.Math.Seq.{take-suc, take-suc-set, take-set-le}
use Rattle.rules.specs.Words.{keep, put_if}
use Rattle.lemmas.specs.Lists.{keep_append, total-sides, length-total}
use Rattle.sweeps.specs.Swept.{fails, parted}

-- the next entry x of l₀ is written into l just past those kept, and stays if it is kept
module _ {A : Type 0} (p : A → Bool) (l₀ l : List A) (i w : ℕ) (d x : A) (same : x ≡ get_or l₀ i d) (h : i < length l₀) (e : take w l ≡ keep p (take i l₀)) where
  one_more : keep p (take (i + 1) l₀) ≡ take w l ++ put_if (p x) x []
  unfolding keep
  one_more = rw (add-one, take-suc l₀ i d) (keep_append p (take i l₀) (get_or l₀ i d ∷ [])) ∙ (λ z. sym e z ++ put_if (p (sym same z)) (sym same z) [])

  pub front_kept : w < length l → p x ≡ true → take (w + 1) (set l w x) ≡ keep p (take (i + 1) l₀)
  unfolding put_if
  front_kept g t = ap (λ n. take n (set l w x)) (add-one w) ∙ take-suc-set l w x g ∙ ap (λ b. take w l ++ put_if b x []) (sym t) ∙ sym one_more

  pub front-left : p x ≡ false → take w (set l w x) ≡ keep p (take (i + 1) l₀)
  unfolding put_if
  front-left t = take-set-le w l w x (le_refl w) ∙ sym (append-nil (take w l)) ∙ ap (λ b. take w l ++ put_if b x []) (sym t) ∙ sym one_more

-- what passes and what does not make up the list
pub keep-both : {A : Type 0} (p : A → Bool) (l : List A) → length (keep p l) + length (keep (λ x. not (p x)) l) ≡ length l
keep-both p l =
    (λ i. sym (length-total (keep p l)) i + sym (length-total (keep (λ x. not (p x)) l)) i) ∙ total-sides (λ x. 1) p l ∙ length-total l

pub parted-long : (p : ℕ → Bool) (l : List ℕ) → length (parted p l) ≡ length l
parted-long p l = length-append (keep p l) (keep (fails p) l) ∙ keep-both p l

-- what such a write leaves from i on
pub rest_more : {A : Type 0} (l l₀ : List A) (w i : ℕ) (x : A) → w ≤ i → drop i l ≡ drop i l₀ → drop (i + 1) (set l w x) ≡ drop (i + 1) l₀
rest_more {A} l l₀ w i x h e =
    drop-set-lt (i + 1) l w x (omega arith) ∙ sym (drop-drop 1 i l) ∙ ap (λ (k : List A). drop 1 k) e ∙ drop-drop 1 i l₀

-- lists that agree from i on agree at i
pub head-same : {A : Type 0} (l l₀ : List A) (i : ℕ) (d : A) → drop i l ≡ drop i l₀ → get_or l i d ≡ get_or l₀ i d
head-same {A} l l₀ i d e =
    ap (λ (k : ℕ). get_or l k d) (sym (add-zero i)) ∙ sym (get_or-drop i l 0 d) ∙ ap (λ (k : List A). get_or k 0 d) e ∙ get_or-drop i l₀ 0 d ∙ ap (λ (k : ℕ). get_or l₀ k d) (add-zero i)
