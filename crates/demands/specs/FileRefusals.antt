-- What a refusal of a model file says. The reader of files refuses by 14 to 17, or by 6 if the file is good and has no room, and leaves every room as it was. It tells zeros but for the number
-- and the place: by 14 at the start of a field that runs past the end, so that fewer than 8 bytes are left; by 15, 16 and 17 at a byte of the file; by 6 at 0. An answer is told as number 0.
-- The size and the writer tell no bytes where they refuse. The writer needs as many bytes as the size that is told, and no more. Assumes nothing.
use Prim.Native.Nat.{ℕ, zero, suc, ◌+◌, ◌<◌, ◌≤◌}
use Rattle.std.proofs.Common.{arith, sym, ap, ◌∙◌, subst, inl, inr, Ok, Err}
use Rattle.std.specs.Prelude.{◌≡◌, ◌⊎◌, Bool, cond, List, [], ◌∷◌, T, eqb}
use Rattle.std.proofs.Math.Path.{refl}
use Rattle.std.proofs.Math.Bool.{true, false}
use Rattle.std.proofs.Math.ListN.{length}
use Rattle.std.proofs.Math.Dec.{leb, ltb}
use borrow.Author.Tests.{leb-true, leb-false, eqb-false}
use Rattle.rules.specs.declared.Misread.{Misread}
use Rattle.rules.specs.declared.Sizes.{Sizes}
use Rattle.rules.specs.Results.{ModelReply, SizeReply}
use Rattle.rules.specs.Words.{member, stretch, front}
use Rattle.rules.specs.Lent.{Entry, Outcome, outcome_of, leaf_entry}
use Rattle.rules.specs.Checks.{Test, features_in, trees_in}
use Rattle.rules.specs.Table.{ForestTable, trees_of}
use Rattle.rules.specs.Bytes.{number_in, good_pattern, float_of}
use Rattle.rules.specs.Model.{mark, Field, misread, says, wrong, and_then, field, float_at, header_in, child_good, split_at, node_at, before, nodes_at, count_good, trees_at, Model, model_in}
use Rattle.rules.specs.Model.{file_of, model_size, write_model, TableRooms, rooms_enough, filled_by, sizes_of, reading, read_model}
use Rattle.rules.specs.Answers.{size_told, model_told}
use Rattle.lemmas.specs.ModelCalls.{size-answered, write_done, write-short}
use Rattle.demands.specs.Refusals.{SizeBy, check-refused, reader-refused}

-- ---- the statements

-- what number n at a place of a file says
pub record Place (bs : List ℕ) (n at : ℕ) : Type 0 where
  pub known : T (member n (14 ∷ 15 ∷ 16 ∷ 17 ∷ []))
  pub within : at ≤ length bs
  pub short : n ≡ 14 → length bs < at + 8
  pub there : (n ≡ 14 → ⊥) → at < length bs

-- the file is misread
abbrev pub Misreads : List ℕ → Misread → Type 0
Misreads bs m = (model_in bs ≡ misread m) × Place bs m.number m.place

-- or it is good, and the rooms are too short
pub record NoRoom (bs : List ℕ) (R : TableRooms) (m : Misread) : Type 0 where
  pub model : Model
  pub end : ℕ
  pub good : model_in bs ≡ says model end
  pub short : rooms_enough model.trees R ≡ false
  pub number : m.number ≡ 6
  pub place : m.place ≡ 0

abbrev pub FileRefused : Type 0
FileRefused = (bs : List ℕ) (R : TableRooms) (m : Misread) → (read_model bs R).answer ≡ Err m → ((read_model bs R).rooms ≡ R) × (Misreads bs m ⊎ NoRoom bs R m)

pub record FileApart (a : ModelReply) : Type 0 where
  pub refused : (m : Misread) → a ≡ Err m → (1 ≤ m.number) × (model_told a ≡ record { number = m.number; place = m.place; features = 0; trees = 0; nodes = 0 })
  pub read : (s : Sizes) → a ≡ Ok s → model_told a ≡ record { number = 0; place = 0; features = s.features; trees = s.trees; nodes = s.nodes }

abbrev pub FilesApart : Type 0
FilesApart = (bs : List ℕ) (R : TableRooms) → FileApart (read_model bs R).answer

-- of the size and of the writer
pub record SizeApart (a : SizeReply) : Type 0 where
  pub refused : (n : ℕ) → a ≡ Err n → (1 ≤ n) × (size_told a ≡ record { number = n; bytes = 0 })
  pub bytes : (n : ℕ) → a ≡ Ok n → size_told a ≡ record { number = 0; bytes = n }

abbrev pub SizesApart : Type 0
SizesApart = (features : ℕ) (F : ForestTable) → SizeApart (model_size features F) × ((out : List ℕ) → SizeApart (write_model features F out).answer)

-- the size that is told is what the writer needs
pub record SizeIsRoom (features : ℕ) (F : ForestTable) (n : ℕ) : Type 0 where
  pub enough : (out : List ℕ) → n ≤ length out → write_model features F out ≡ outcome_of (Ok n) (front (file_of features (trees_of F)) out)
  pub short : (out : List ℕ) → length out < n → write_model features F out ≡ outcome_of (Err 6) out

abbrev pub SizesAreRooms : Type 0
SizesAreRooms = (features : ℕ) (F : ForestTable) (n : ℕ) → model_size features F ≡ Ok n → SizeIsRoom features F n

-- ---- every field is refused where it begins

module _ (bs : List ℕ) where
  abbrev Sane : {A : Type 0} → Field A → Type 0
  Sane (misread m) = Place bs m.number m.place
  Sane (says a at) = at ≤ length bs

  sane-then : {A B : Type 0} (f : Field A) (g : A → ℕ → Field B) → Sane f → ((a : A) (at : ℕ) → at ≤ length bs → Sane (g a at)) → Sane (and_then f g)
  unfolding and_then
  sane-then (misread m) g h k = h
  sane-then (says a at) g h k = k a at h

  sane-before : {A : Type 0} (e : A) (f : Field (List A)) → Sane f → Sane (before e f)
  unfolding before
  sane-before e f h = sane-then f (λ l at. says (e ∷ l) at) h (λ l at b. b)

  sane-field : (k n : ℕ) (passes : ℕ → Bool) (at : ℕ) → 1 ≤ k → k ≤ 8 → T (member n (14 ∷ 15 ∷ 16 ∷ 17 ∷ [])) → (n ≡ 14 → ⊥) → at ≤ length bs → Sane (field bs k n passes at)
  unfolding field member
  sane-field k n passes at low high known other l = go (leb (at + k) (length bs)) (passes (number_in (stretch at k bs))) refl
    where
      go : (long good : Bool) → leb (at + k) (length bs) ≡ long → Sane (cond long (cond good (says (number_in (stretch at k bs)) (at + k)) (wrong n at)) (wrong 14 at))
      go true true q = leb-true (at + k) (length bs) q
      go true false q =
          let in-file : at + k ≤ length bs = leb-true (at + k) (length bs) q in
          record { known = known; within = l; short = λ e. absurd (other e); there = λ e. omega (arith, in-file, low) }
      go false good q =
          let past : length bs < at + k = leb-false (at + k) (length bs) q in
          record { known = tt; within = l; short = λ e. omega (arith, past, high); there = λ e. absurd (e refl) }

  sane-sixteen : (k : ℕ) (passes : ℕ → Bool) (at : ℕ) → 1 ≤ k → k ≤ 8 → at ≤ length bs → Sane (field bs k 16 passes at)
  unfolding member
  sane-sixteen k passes at low high l = sane-field k 16 passes at low high tt (eqb-false 16 14 refl) l

  sane-fifteen : (k : ℕ) (passes : ℕ → Bool) (at : ℕ) → 1 ≤ k → k ≤ 8 → at ≤ length bs → Sane (field bs k 15 passes at)
  unfolding member
  sane-fifteen k passes at low high l = sane-field k 15 passes at low high tt (eqb-false 15 14 refl) l

  sane-float : (at : ℕ) → at ≤ length bs → Sane (float_at bs at)
  unfolding float_at
  sane-float at l = sane-sixteen 8 good_pattern at (omega arith) (omega arith) l

  sane-header : Sane (header_in bs)
  unfolding header_in
  sane-header =
      sane-then _ _ (sane-fifteen 3 (eqb (number_in mark)) 0 (omega arith) (omega arith) (omega arith)) (λ m a la.
      sane-then _ _ (sane-fifteen 2 (eqb 1) a (omega arith) (omega arith) la) (λ v b lb.
      sane-then _ _ (sane-sixteen 2 features_in b (omega arith) (omega arith) lb) (λ f c lc.
      sane-then _ _ (sane-sixteen 2 trees_in c (omega arith) (omega arith) lc) (λ t d ld. ld))))

  sane-split : (features v y at : ℕ) → at ≤ length bs → Sane (split_at bs features v y at)
  unfolding split_at
  sane-split features v y at l =
      sane-then _ _ (sane-sixteen 2 (λ j. ltb j features) at (omega arith) (omega arith) l) (λ j a la.
      sane-then _ _ (sane-float a la) (λ t b lb.
      sane-then _ _ (sane-float b lb) (λ s c lc. lc)))

  sane-node : (features n k at : ℕ) → at ≤ length bs → Sane (node_at bs features n k at)
  unfolding node_at
  sane-node features n k at l =
      sane-then _ _ (sane-float at l) (λ v a la.
      sane-then _ _ (sane-sixteen 4 (child_good n k) a (omega arith) (omega arith) la) (λ y b lb. go v y b lb (eqb y 0)))
    where
      go : (v y b : ℕ) → b ≤ length bs → (z : Bool) → Sane (cond z (says (leaf_entry (float_of v)) b) (split_at bs features v y b))
      go v y b lb true = lb
      go v y b lb false = sane-split features v y b lb

  sane-nodes : (features n k m at : ℕ) → at ≤ length bs → Sane (nodes_at bs features n k m at)
  unfolding nodes_at
  sane-nodes features n k zero at l = l
  sane-nodes features n k (suc m) at l = sane-then _ _ (sane-node features n k at l) (λ e a la. sane-before e _ (sane-nodes features n (suc k) m a la))

  sane-trees : (features sofar m at : ℕ) → at ≤ length bs → Sane (trees_at bs features sofar m at)
  unfolding trees_at
  sane-trees features sofar zero at l = l
  sane-trees features sofar (suc m) at l =
      sane-then _ _ (sane-sixteen 4 (count_good sofar) at (omega arith) (omega arith) l) (λ n a la.
      sane-then _ _ (sane-nodes features n 0 n a la) (λ es b lb. sane-before es _ (sane-trees features (sofar + n) m b lb)))

  sane-model : Sane (model_in bs)
  unfolding model_in member
  sane-model = sane-then _ _ sane-header (λ h a la. sane-then _ _ (sane-trees h.features 0 h.trees a la) (λ ts b lb. go h.features ts b lb (eqb b (length bs)) refl))
    where
      below : (a b : ℕ) → a ≤ b → (a ≡ b → ⊥) → a < b
      below a b l d = omega (arith, l, d)

      go : (features : ℕ) (ts : List (List Entry)) (b : ℕ) → b ≤ length bs → (z : Bool) → eqb b (length bs) ≡ z
          → Sane {A = Model} (cond z (says (record { features = features; trees = ts }) b) (wrong 17 b))
      go features ts b lb true q = lb
      go features ts b lb false q =
          record { known = tt; within = lb; short = λ e. absurd (eqb-false 17 14 refl e); there = λ e. below b (length bs) lb (eqb-false b (length bs) q) }

-- ---- the reader of files

abbrev misread_in : Misread → ModelReply → Misread
misread_in m (Err k) = k
misread_in m (Ok s) = m

abbrev IsRefused : ModelReply → Type 0
IsRefused (Err m) = Unit {0}
IsRefused (Ok s) = ⊥

pub file-refused : FileRefused
unfolding read_model reading
file-refused bs R m h = go (model_in bs) refl h
  where
    go : (f : Field Model) → model_in bs ≡ f → (reading f R).answer ≡ Err m → ((reading f R).rooms ≡ R) × (Misreads bs m ⊎ NoRoom bs R m)
    go (misread k) q h =
        let e : k ≡ m = ap (misread_in m) h in
        (refl, inl (q ∙ ap misread e, subst (λ w. Place bs w.number w.place) e (subst (Sane bs) q (sane-model bs))))
    go (says M end) q h = room (rooms_enough M.trees R) refl h
      where
        done : Outcome ModelReply TableRooms
        done = outcome_of (Ok (sizes_of M)) (filled_by M.trees R)

        none : Outcome ModelReply TableRooms
        none = outcome_of (Err (record { number = 6; place = 0 })) R

        room : (b : Bool) → rooms_enough M.trees R ≡ b → (cond b done none).answer ≡ Err m → ((cond b done none).rooms ≡ R) × (Misreads bs m ⊎ NoRoom bs R m)
        room true e h = absurd (subst IsRefused (sym h) tt)
        room false e h =
            let k = ap (misread_in m) h in
            (refl, inr (record { model = M; end = end; good = q; short = e; number = sym (ap (λ w. w.number) k); place = sym (ap (λ w. w.place) k) }))

pub files-apart : FilesApart
unfolding member
files-apart bs R =
    record {
      refused = λ m h. (above m (file-refused bs R m h).1, ap model_told h);
      read = λ s h. ap model_told h;
    }
  where
    some : (n : ℕ) → T (member n (14 ∷ 15 ∷ 16 ∷ 17 ∷ [])) → 1 ≤ n
    some zero t = absurd t
    some (suc n) t = omega arith

    above : (m : Misread) → Misreads bs m ⊎ NoRoom bs R m → 1 ≤ m.number
    above m (inl w) = some m.number w.1.known
    above m (inr r) = omega (arith, r.number)

-- ---- the writer

pub sizes-are-rooms : SizesAreRooms
sizes-are-rooms features F n h =
    let (p, e) = size-answered features F n h in
    record {
      enough = λ out l. write_done features F p out (subst (λ m. m ≤ length out) e l) ∙ ap (λ m. outcome_of (Ok m) (front (file_of features (trees_of F)) out)) (sym e);
      short = λ out l. write-short features F p out (subst (λ m. length out < m) e l);
    }

pub sizes-apart : SizesApart
sizes-apart features F = (
  apart _ (model_size features F) (check-refused.size features F),
  (λ out. apart _ (write_model features F out).answer (reader-refused.model features F out).0),
)
  where
    apart : (ts : List Test) (a : SizeReply) → SizeBy ts a → SizeApart a
    apart ts a by = record { refused = λ n h. ((subst (SizeBy ts) h by).1, ap size_told h); bytes = λ n h. ap size_told h }
