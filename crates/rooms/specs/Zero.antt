-- Rooms filled with zero look at lengths alone. Assumes nothing.
use Rattle.std.proofs.Common.{arith, ap}
use Rattle.std.specs.Prelude.{◌≡◌, refl, false, List, [], ◌∷◌, length, replicate}
use Rattle.rules.specs.Words.{nought, filled}
use Rattle.rules.specs.Lent.{Columns, Behind, Reports, Work, WaitingRoom, waiting_room, zero_columns, zero_behind, zero_reports, zero_work}

pub filled-same : {A : Type 0} (x : A) (l l' : List A) → length l' ≡ length l → filled x l' ≡ filled x l
filled-same x [] [] e = refl
filled-same x [] (y ∷ l') e = absurd (omega arith)
filled-same x (z ∷ l) [] e = absurd (omega arith)
filled-same x (z ∷ l) (y ∷ l') e = ap (λ t. x ∷ t) (filled-same x l l' (omega arith))

-- node columns as long as others are
pub record NodesLong (c c' : Columns) : Type 0 where
  pub value : length c'.value ≡ length c.value
  pub feature : length c'.feature ≡ length c.feature
  pub threshold : length c'.threshold ≡ length c.threshold
  pub score : length c'.score ≡ length c.score
  pub truechild : length c'.true_child ≡ length c.true_child
  pub falsechild : length c'.false_child ≡ length c.false_child

-- the two beside them
pub record BehindLong (b b' : Behind) : Type 0 where
  pub count : length b'.count ≡ length b.count
  pub mass : length b'.mass ≡ length b.mass

-- the work room
pub record WorkLong (w w' : Work WaitingRoom) : Type 0 where
  pub order : length w'.order ≡ length w.order
  pub scratch : length w'.scratch ≡ length w.scratch
  pub flags : length w'.flags ≡ length w.flags
  pub wholes : length w'.waiting.wholes ≡ length w.waiting.wholes
  pub reals : length w'.waiting.reals ≡ length w.waiting.reals

pub nodes-zero : (c c' : Columns) → NodesLong c c' → zero_columns c' ≡ zero_columns c
nodes-zero c c' h = λ i.
    record {
      value = filled-same nought c.value c'.value h.value i;
      feature = filled-same 0 c.feature c'.feature h.feature i;
      threshold = filled-same nought c.threshold c'.threshold h.threshold i;
      score = filled-same nought c.score c'.score h.score i;
      true_child = filled-same 0 c.true_child c'.true_child h.truechild i;
      false_child = filled-same 0 c.false_child c'.false_child h.falsechild i;
    }

pub behind-zero : (b b' : Behind) → BehindLong b b' → zero_behind b' ≡ zero_behind b
behind-zero b b' h = λ i. record { count = filled-same 0 b.count b'.count h.count i; mass = filled-same nought b.mass b'.mass h.mass i }

pub work-zero : (w w' : Work WaitingRoom) → WorkLong w w' → zero_work waiting_room w' ≡ zero_work waiting_room w
work-zero w w' h = λ i.
    record {
      order = filled-same 0 w.order w'.order h.order i;
      scratch = filled-same 0 w.scratch w'.scratch h.scratch i;
      flags = filled-same false w.flags w'.flags h.flags i;
      waiting = record {
        wholes = filled-same (replicate 6 0) w.waiting.wholes w'.waiting.wholes h.wholes i;
        reals = filled-same (replicate 3 nought) w.waiting.reals w'.waiting.reals h.reals i;
      };
    }

-- a forest's report columns
pub record ReportsKept (p p' : Reports) : Type 0 where
  pub nodes : length p'.nodes ≡ length p.nodes
  pub depth : length p'.depth ≡ length p.depth
  pub mass : length p'.mass ≡ length p.mass
  pub searches : length p'.searches ≡ length p.searches
  pub words : length p'.words ≡ length p.words
  pub thresholds : length p'.thresholds ≡ length p.thresholds

pub reports-zero : (p p' : Reports) → ReportsKept p p' → zero_reports p' ≡ zero_reports p
reports-zero p p' h = λ i.
    record {
      nodes = filled-same 0 p.nodes p'.nodes h.nodes i;
      depth = filled-same 0 p.depth p'.depth h.depth i;
      mass = filled-same nought p.mass p'.mass h.mass i;
      searches = filled-same 0 p.searches p'.searches h.searches i;
      words = filled-same 0 p.words p'.words h.words i;
      thresholds = filled-same 0 p.thresholds p'.thresholds h.thresholds i;
    }
