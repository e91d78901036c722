-- What the passed checks say of the lent rooms. Assumes nothing.
use Rattle.std.specs.Prelude.{ℕ, suc, ◌*◌, ◌≤◌, min, max, List, [], ◌∷◌, length, get_or, T, leb}
use Rattle.std.proofs.Common.{arith, leb→le}
use Rattle.rules.specs.declared.Shape.{Shape}
use Rattle.rules.specs.Lent.{Work, WaitingRoom, waiting_room}
use Rattle.rules.specs.Checks.{work_enough}
use Rattle.lemmas.specs.Lists.{Every}
use Rattle.lemmas.specs.Passed.{and4}

-- what holds at every place holds of every entry
pub every-each : {A : Type 0} (Q : A → Type 0) (l : List A) (d : A) → ((i : ℕ) → Q (get_or l i d)) → Every Q l
every-each Q [] d h = tt
every-each Q (x ∷ l) d h = (h 0, every-each Q l d (λ i. h (suc i)))

-- ---- the work room that the checks ask

-- long enough for a fit of that shape
pub record WorkRoom (S : Shape) (w : Work WaitingRoom) : Type 0 where
  pub order : S.features * S.rows ≤ length w.order
  pub scratch : S.rows ≤ length w.scratch
  pub flags : S.rows ≤ length w.flags
  pub wholes : S.rows ≤ length w.waiting.wholes
  pub reals : S.rows ≤ length w.waiting.reals

pub work-room : (S : Shape) (w : Work WaitingRoom) → T (work_enough waiting_room S w) → WorkRoom S w
unfolding work_enough
work-room S w h =
    let (o, s, f, p) = and4 (leb (S.features * S.rows) (length w.order)) (leb S.rows (length w.scratch))
    (leb (max S.rows S.features) (length w.flags)) (leb S.rows (waiting_room.places w.waiting)) h in
    record {
      order = leb→le _ _ o;
      scratch = leb→le _ _ s;
      flags = rows_of S.rows S.features (length w.flags) (leb→le _ _ f);
      wholes = first S.rows (length w.waiting.wholes) (length w.waiting.reals) (leb→le _ _ p);
      reals = second S.rows (length w.waiting.wholes) (length w.waiting.reals) (leb→le _ _ p);
    }
  where
    rows_of : (r f n : ℕ) → max r f ≤ n → r ≤ n
    rows_of r f n h = omega arith

    first : (r a b : ℕ) → r ≤ min a b → r ≤ a
    first r a b h = omega arith

    second : (r a b : ℕ) → r ≤ min a b → r ≤ b
    second r a b h = omega arith
