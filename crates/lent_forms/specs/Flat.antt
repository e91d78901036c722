-- The list of waiting nodes and the two flat columns that growth is lent agree. `flat l` has entry by entry what l has, and loses nothing of it (`unflat`).
-- A pop gives the node that growth reads off the columns (`pop-agrees`), which is the first of the waiting nodes of the definition (`taken-agree`). Both have as
-- many places, and are zero together (`places-agree`, `zeroed-agrees`). What a push does to both is in proofs/, Pushes.
-- Assumes nothing.
use Rattle.std.specs.Prelude.{ℕ, zero, suc, ◌-◌, ◌<◌, ◌≤◌, min, ◌≡◌, refl, ◌&&◌, cond, List, [], ◌∷◌, map, length, get_or, set, replicate, ltb, leb, Float, Some, None}
use Rattle.std.proofs.Math.Nat.{min-eq_left}
use Rattle.std.proofs.Common.{le_refl, sym, ap, ◌∙◌, lt→ltb, le→leb}
use Rattle.std.proofs.lemmas.List.{length-map}
use Rattle.rules.specs.Words.{nought}
use Rattle.rules.specs.Lent.{WaitingRoom, waiting_room}
use Rattle.lemmas.specs.Lists.{is_true}
use Rattle.node_entries.specs.declared.WaitingNode.{WaitingNode}
use Rattle.node_entries.specs.Entries.{wholes_of, reals_of, waiting_in, waiting_at}
use Rattle.node_growth.specs.Rooms.{Ground, waiting_of, waiting_list}
use Rattle.lent_forms.specs.declared.Waiting.{Waiting}
use Rattle.lent_forms.specs.WaitingList.{no_entry, popped, listed}

-- ---- the list as columns

-- a node as growth has it, with the totals' fields among its own; and back
abbrev pub apart : Waiting → WaitingNode
apart w =
    record {
      node = w.node;
      start = w.start;
      end = w.end;
      level = w.level;
      rows = w.rows;
      feature = w.feature;
      sum = w.totals.sum;
      mass = w.totals.mass;
      cut = w.threshold;
    }

-- and back
abbrev pub together : WaitingNode → Waiting
together w =
    record {
      node = w.node;
      start = w.start;
      end = w.end;
      level = w.level;
      rows = w.rows;
      feature = w.feature;
      totals = record { sum = w.sum; mass = w.mass };
      threshold = w.cut;
    }

-- the column of whole numbers
abbrev pub wholes_in : List Waiting → List (List ℕ)
wholes_in l = map (λ w. wholes_of (apart w)) l

-- the column of reals
abbrev pub reals_in : List Waiting → List (List Float)
reals_in l = map (λ w. reals_of (apart w)) l

-- both columns
abbrev pub flat : List Waiting → WaitingRoom
flat l = record { wholes = wholes_in l; reals = reals_in l }

-- what growth's push leaves of the columns
abbrev pub pushed_flat : WaitingRoom → ℕ → WaitingNode → WaitingRoom
pushed_flat s n w = record { wholes = set s.wholes n (wholes_of w); reals = set s.reals n (reals_of w) }

-- the list that columns come of
abbrev pub unflat : List (List ℕ) → List (List Float) → List Waiting
unflat [] rs = []
unflat (w ∷ ws) [] = []
unflat (w ∷ ws) (r ∷ rs) = together (waiting_in w r) ∷ unflat ws rs

-- ---- nothing is lost

pub unflat-flat : (l : List Waiting) → unflat (wholes_in l) (reals_in l) ≡ l
unflat-flat [] = refl
unflat-flat (w ∷ l) = ap (λ t. w ∷ t) (unflat-flat l)

-- ---- places, and zero

pub places-agree : (l : List Waiting) → waiting_room.places (flat l) ≡ listed.places l
places-agree l =
    ap (λ k. min k (length (reals_in l))) (length-map l (λ w. wholes_of (apart w)))
    ∙ ap (min (length l)) (length-map l (λ w. reals_of (apart w)))
    ∙ min-eq_left (le_refl (length l))

pub zeroed-agrees : (l : List Waiting) → waiting_room.zeroed (flat l) ≡ flat (listed.zeroed l)
zeroed-agrees [] = refl
zeroed-agrees (w ∷ l) = ap (λ (s : WaitingRoom). record { wholes = replicate 6 0 ∷ s.wholes; reals = replicate 3 nought ∷ s.reals }) (zeroed-agrees l)

-- ---- a place written

pub map-set : {A B : Type 0} (f : A → B) (l : List A) (n : ℕ) (x : A) → map f (set l n x) ≡ set (map f l) n (f x)
map-set f [] n x = refl
map-set f (y ∷ l) zero x = refl
map-set f (y ∷ l) (suc n) x = ap (λ t. f y ∷ t) (map-set f l n x)

-- ---- a pop

read-agrees : (l : List Waiting) (m : ℕ) → waiting_at (wholes_in l) (reals_in l) m ≡ apart (get_or l m no_entry)
read-agrees [] m = refl
read-agrees (w ∷ l) zero = refl
read-agrees (w ∷ l) (suc m) = read-agrees l m

-- where one of n nodes waits, the one that growth reads at n - 1
pub pop-agrees : (l : List Waiting) (n : ℕ) → 0 < n → n ≤ length l → popped l n ≡ Some (together (waiting_at (wholes_in l) (reals_in l) (n - 1)))
pop-agrees l n g h =
    ap (λ c. cond (c && leb n (length l)) (Some (get_or l (n - 1) no_entry)) None) (is_true (ltb 0 n) (lt→ltb 0 n g))
    ∙ ap (λ c. cond c (Some (get_or l (n - 1) no_entry)) None) (is_true (leb n (length l)) (le→leb n (length l) h))
    ∙ ap (λ e. Some (together e)) (sym (read-agrees l (n - 1)))

-- ---- what the list stands for

-- the one that is taken off the list is their first
pub taken-agree : (g : Ground) (l : List Waiting) (m : ℕ) → waiting_list g (wholes_in l) (reals_in l) (suc m) ≡ waiting_of g (apart (get_or l m no_entry)) ∷ waiting_list g (wholes_in l) (reals_in l) m
taken-agree g l m = ap (λ e. waiting_of g e ∷ waiting_list g (wholes_in l) (reals_in l) m) (read-agrees l m)
