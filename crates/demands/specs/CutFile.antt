-- A file that was cut short, or that has more behind it. Wherever a good file is cut, its front is refused by 14: what is told is that it ends early, and never something else. A good file with
-- more behind it is refused by 17, at the first byte too many. So of two good files neither is the front of the other. Assumes nothing.
use Prim.Native.Nat.{ℕ, zero, suc, ◌+◌, ◌<◌, ◌≤◌}
use Rattle.std.proofs.Common.{arith, sym, ap, ◌∙◌, subst, length-append, length-drop, take-append-drop, length-take-le, leb-true, leb-false, eqb-true, ne_eqb}
use Rattle.std.specs.Prelude.{◌≡◌, Bool, cond, List, ◌++◌, length, take, drop, leb, eqb}
use Rattle.std.proofs.Math.Path.{refl}
use Rattle.std.proofs.Math.Bool.{true, false}
use Rattle.std.proofs.lemmas.List.{take-append-le, drop-append-le}
use Rattle.std.proofs.Math.Dec.{ltb}
use Rattle.rules.specs.Words.{stretch}
use Rattle.rules.specs.Lent.{Entry, leaf_entry}
use Rattle.rules.specs.Checks.{features_in, trees_in}
use Rattle.rules.specs.Bytes.{number_in, good_pattern, float_of}
use Rattle.rules.specs.Model.{mark, Field, misread, says, wrong, and_then, field, float_at, Header, header_in, child_good, split_at, node_at, before, nodes_at, count_good, trees_at, Model, model_in}
use Rattle.lemmas.specs.Fields.{no_says, says-next, parts, field-short, field-fails, field-says}
use Rattle.lemmas.specs.FileRead.{header_read, trees-read}

-- ---- the statements

abbrev pub CutShort : Type 0
CutShort = (bs : List ℕ) (M : Model) (end n : ℕ) → model_in bs ≡ says M end → n < length bs → (at : ℕ) × (model_in (take n bs) ≡ wrong 14 at)

abbrev pub MoreBehind : Type 0
MoreBehind = (bs more : List ℕ) (M : Model) (end : ℕ) → model_in bs ≡ says M end → 0 < length more → model_in (bs ++ more) ≡ wrong 17 (length bs)

-- ---- what is read of a front is read of the whole, or the front ends early

-- of the front, of the whole
pub data Alike {A : Type 0} (f g : Field A) : Type 0 where
  early : (at : ℕ) → f ≡ wrong 14 at → Alike f g
  same : f ≡ g → Alike f g

alike_then : {A B : Type 0} (f g : Field A) (j k : A → ℕ → Field B) → Alike f g → ((a : A) (at : ℕ) → Alike (j a at) (k a at)) → Alike (and_then f j) (and_then g k)
unfolding and_then
alike_then f g j k (early at e) h = early at (ap (λ z. and_then z j) e)
alike_then (misread m) g j k (same e) h = same (ap (λ z. and_then z k) e)
alike_then (says a at) g j k (same e) h = subst (λ z. Alike (j a at) (and_then z k)) e (h a at)

alike-before : {A : Type 0} (e : A) (f g : Field (List A)) → Alike f g → Alike (before e f) (before e g)
unfolding before
alike-before e f g h = alike_then f g _ _ h (λ l at. same refl)

module _ (bs more : List ℕ) where
  stretch-same : (at k : ℕ) → at + k ≤ length bs → stretch at k (bs ++ more) ≡ stretch at k bs
  stretch-same at k h =
      ap (take k) (drop-append-le at bs more (omega (arith, h)))
      ∙ take-append-le k (drop at bs) more (subst (λ n. k ≤ n) (sym (length-drop at bs)) (omega (arith, h)))

  alike-field : (k n : ℕ) (passes : ℕ → Bool) (at : ℕ) → Alike (field bs k n passes at) (field (bs ++ more) k n passes at)
  alike-field k n passes at = go (leb (at + k) (length bs)) refl
    where
      go : (b : Bool) → leb (at + k) (length bs) ≡ b → Alike (field bs k n passes at) (field (bs ++ more) k n passes at)
      go false q = early at (field-short bs k n passes at (leb-false (at + k) (length bs) q))
      go true q = same (good (passes number) refl)
        where
          here : at + k ≤ length bs
          here = leb-true (at + k) (length bs) q

          there : at + k ≤ length (bs ++ more)
          there = omega (arith, here, length-append bs more)

          number : ℕ
          number = number_in (stretch at k bs)

          alike : number_in (stretch at k (bs ++ more)) ≡ number
          alike = ap number_in (stretch-same at k here)

          good : (b : Bool) → passes number ≡ b → field bs k n passes at ≡ field (bs ++ more) k n passes at
          good true p = field-says bs k n passes at here p ∙ sym (field-says (bs ++ more) k n passes at there (ap passes alike ∙ p) ∙ ap (λ v. says v (at + k)) alike)
          good false p = field-fails bs k n passes at here p ∙ sym (field-fails (bs ++ more) k n passes at there (ap passes alike ∙ p))

  alike-float : (at : ℕ) → Alike (float_at bs at) (float_at (bs ++ more) at)
  unfolding float_at
  alike-float at = alike-field 8 16 good_pattern at

  alike-header : Alike (header_in bs) (header_in (bs ++ more))
  unfolding header_in
  alike-header =
      alike_then _ _ _ _ (alike-field 3 15 (eqb (number_in mark)) 0) (λ m a.
      alike_then _ _ _ _ (alike-field 2 15 (eqb 1) a) (λ v b.
      alike_then _ _ _ _ (alike-field 2 16 features_in b) (λ f c.
      alike_then _ _ _ _ (alike-field 2 16 trees_in c) (λ t d. same refl))))

  alike-split : (features v y at : ℕ) → Alike (split_at bs features v y at) (split_at (bs ++ more) features v y at)
  unfolding split_at
  alike-split features v y at =
      alike_then _ _ _ _ (alike-field 2 16 (λ j. ltb j features) at) (λ j a.
      alike_then _ _ _ _ (alike-float a) (λ t b.
      alike_then _ _ _ _ (alike-float b) (λ s c. same refl)))

  alike-node : (features n k at : ℕ) → Alike (node_at bs features n k at) (node_at (bs ++ more) features n k at)
  unfolding node_at
  alike-node features n k at =
      alike_then _ _ _ _ (alike-float at) (λ v a. alike_then _ _ _ _ (alike-field 4 16 (child_good n k) a) (λ y b. go v y b (eqb y 0)))
    where
      go : (v y b : ℕ) (z : Bool) → Alike (cond z (says (leaf_entry (float_of v)) b) (split_at bs features v y b)) (cond z (says (leaf_entry (float_of v)) b) (split_at (bs ++ more) features v y b))
      go v y b true = same refl
      go v y b false = alike-split features v y b

  alike-nodes : (features n k m at : ℕ) → Alike (nodes_at bs features n k m at) (nodes_at (bs ++ more) features n k m at)
  unfolding nodes_at
  alike-nodes features n k zero at = same refl
  alike-nodes features n k (suc m) at = alike_then _ _ _ _ (alike-node features n k at) (λ e a. alike-before e _ _ (alike-nodes features n (suc k) m a))

  alike-trees : (features sofar m at : ℕ) → Alike (trees_at bs features sofar m at) (trees_at (bs ++ more) features sofar m at)
  unfolding trees_at
  alike-trees features sofar zero at = same refl
  alike-trees features sofar (suc m) at =
      alike_then _ _ _ _ (alike-field 4 16 (count_good sofar) at) (λ n a.
      alike_then _ _ _ _ (alike-nodes features n 0 n a) (λ es b. alike-before es _ _ (alike-trees features (sofar + n) m b)))

-- ---- what a file says before it is asked whether bytes are left over

abbrev spoken : List ℕ → Field Model
spoken bs = and_then (header_in bs) (λ h at. and_then (trees_at bs h.features 0 h.trees at) (λ ts b. says (record { features = h.features; trees = ts }) b))

abbrev at_end : List ℕ → Model → ℕ → Field Model
at_end bs M at = cond (eqb at (length bs)) (says M at) (wrong 17 at)

model_is : (bs : List ℕ) → model_in bs ≡ and_then (spoken bs) (at_end bs)
unfolding model_in and_then
model_is bs = header (header_in bs)
  where
    trees : (features : ℕ) (f : Field (List (List Entry)))
        → and_then f (λ ts at. at_end bs (record { features = features; trees = ts }) at) ≡ and_then (and_then f (λ ts b. says (record { features = features; trees = ts }) b)) (at_end bs)
    trees features (misread m) = refl
    trees features (says ts at) = refl

    header : (f : Field Header)
        → and_then f (λ h at. and_then (trees_at bs h.features 0 h.trees at) (λ ts b. at_end bs (record { features = h.features; trees = ts }) b))
        ≡ and_then (and_then f (λ h at. and_then (trees_at bs h.features 0 h.trees at) (λ ts b. says (record { features = h.features; trees = ts }) b))) (at_end bs)
    header (misread m) = refl
    header (says h at) = trees h.features (trees_at bs h.features 0 h.trees at)

alike-spoken : (bs more : List ℕ) → Alike (spoken bs) (spoken (bs ++ more))
alike-spoken bs more =
    alike_then _ _ _ _ (alike-header bs more) (λ h a. alike_then _ _ _ _ (alike-trees bs more h.features 0 h.trees a) (λ ts b. same refl))

spoken-inside : (bs : List ℕ) (M : Model) (end : ℕ) → spoken bs ≡ says M end → end ≤ length bs
spoken-inside bs M end e =
    let p = parts _ _ M end e in
    let q = parts _ _ M end p.two in
    subst (λ z. z ≤ length bs) (says-next q.two)
    (trees-read bs p.said.features 0 p.said.trees p.mid q.said q.mid (header_read bs p.said p.mid p.one).inside q.one).inside

-- a good file has spoken to its end
pub record Spoken (bs : List ℕ) : Type 0 where
  pub model : Model
  pub whole : spoken bs ≡ says model (length bs)

has-spoken : (bs : List ℕ) (M : Model) (end : ℕ) → model_in bs ≡ says M end → Spoken bs
has-spoken bs M end e =
    let p = parts (spoken bs) (at_end bs) M end (sym (model_is bs) ∙ e) in
    go p.said p.mid p.one (eqb p.mid (length bs)) refl p.two
  where
    go : (N : Model) (mid : ℕ) → spoken bs ≡ says N mid → (b : Bool) → eqb mid (length bs) ≡ b → cond b (says N mid) (wrong 17 mid) ≡ says M end → Spoken bs
    go N mid s true q h = record { model = N; whole = s ∙ ap (says N) (eqb-true mid (length bs) q) }
    go N mid s false q h = no_says h

-- ---- cut short

pub cut_short : CutShort
unfolding and_then
cut_short bs M end n e h = go (alike-spoken (take n bs) (drop n bs))
  where
    s : Spoken bs
    s = has-spoken bs M end e

    go : Alike (spoken (take n bs)) (spoken (take n bs ++ drop n bs)) → (at : ℕ) × (model_in (take n bs) ≡ wrong 14 at)
    go (early at q) = (at, model_is (take n bs) ∙ ap (λ f. and_then f (at_end (take n bs))) q)
    go (same q) = absurd (past (length bs) n (length (take n bs)) h (length-take-le n bs (omega (arith, h)))
        (spoken-inside (take n bs) s.model (length bs) (q ∙ ap spoken (take-append-drop n bs) ∙ s.whole)))
      where
        past : (l n m : ℕ) → n < l → m ≡ n → l ≤ m → ⊥
        past l n m a b c = omega arith

-- ---- more behind

pub more-behind : MoreBehind
unfolding and_then
more-behind bs more M end e h = go (alike-spoken bs more)
  where
    s : Spoken bs
    s = has-spoken bs M end e

    apart : (l m t : ℕ) → 0 < m → t ≡ l + m → l ≡ t → ⊥
    apart l m t a b c = omega arith

    go : Alike (spoken bs) (spoken (bs ++ more)) → model_in (bs ++ more) ≡ wrong 17 (length bs)
    go (early at q) = no_says (sym q ∙ s.whole)
    go (same q) =
        model_is (bs ++ more) ∙ ap (λ f. and_then f (at_end (bs ++ more))) (sym q ∙ s.whole)
        ∙ ap (λ b. cond b (says s.model (length bs)) (wrong 17 (length bs)))
        (ne_eqb (length bs) (length (bs ++ more)) (apart (length bs) (length more) (length (bs ++ more)) h (length-append bs more)))
