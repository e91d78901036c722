-- How the first test that fails decides, and the tests behind refusals 1, 2, 3, 4 and 6. Those of 11 to 13 are in Listing, of 7 in Draws, of 8 in Table, of 9, 10 and 18 in OutOfBag.
use Rattle.std.specs.Prelude.{ℕ, zero, suc, ◌-◌, ◌*◌, max, Bool, not, ◌&&◌, ◌||◌, cond, List, [], ◌∷◌, length, get_or, leb, eqb, Float, Ok, Err}
use Rattle.std.specs.Float.Ieee.{lt}
use Rattle.std.specs.Float.Ieee.Scale.{finite}
use Rattle.rules.specs.declared.Shape.{Shape}
use Rattle.rules.specs.declared.Refusal.{Refusal}
use Rattle.rules.specs.Results.{Checked, Reply}
use Rattle.rules.specs.Words.{nought, every, along}
use Rattle.rules.specs.Lent.{Given, OneTree, Reports, WaitingForm, Work, unweighted, kept_rows}

-- R3.1: a test, with what its failing tells
pub record Test : Type 0 where
  pub tells : Refusal
  pub passes : Bool

-- R3.1: most tell a number alone
abbrev pub numbered : ℕ → Refusal
numbered n = record { number = n; part = 0; place = 0; row = 0 }

-- R3.1
abbrev pub test : ℕ → Bool → Test
test n b = record { tells = numbered n; passes = b }

-- R3.1: the first that fails decides
unfoldable pub checked : List Test → Checked
checked [] = Ok tt
checked (t ∷ ts) = cond t.passes (checked ts) (Err t.tells)

-- R3.2: for a call that tells a number alone; 0 says that none fails
abbrev pub number_of : Checked → ℕ
number_of (Ok _) = 0
number_of (Err r) = r.number

-- R3.2
abbrev pub first_failed : List Test → ℕ
first_failed ts = number_of (checked ts)

-- R3.2: the answer of a call that only checks tables
unfoldable pub replies : ℕ → Reply
replies zero = Ok tt
replies (suc n) = Err (suc n)

-- ---- 1

-- R3.6
unfoldable pub within : ℕ → ℕ → Bool
within top n = leb 1 n && leb n top

-- R3.6
abbrev pub rows_in : ℕ → Bool
rows_in n = within 65535 n

-- R3.6
abbrev pub features_in : ℕ → Bool
features_in n = within 1024 n

-- R3.6
abbrev pub trees_in : ℕ → Bool
trees_in n = within 1024 n

-- R3.6
abbrev pub shape_in : Shape → Bool
shape_in S = rows_in S.rows && features_in S.features

-- ---- 2

-- R3.7
abbrev pub values_long : Shape → List Float → Bool
values_long S xs = eqb (length xs) (S.rows * S.features)

-- R3.7
abbrev pub listings_long : Shape → List ℕ → Bool
listings_long S ls = eqb (length ls) (S.features * S.rows)

-- R3.7
unfoldable pub lengths : Shape → ℕ → Given → Bool
lengths S trees G =
    values_long S G.inputs.values && (eqb (length G.inputs.targets) S.rows
    && ((unweighted G.weights || eqb (length G.weights) S.rows) && (eqb (length G.counts) (trees * S.rows)
    && listings_long S G.inputs.listings)))

-- R3.8: how a tape of so many draws may be divided among the trees
unfoldable pub good_tape_starts : ℕ → ℕ → List ℕ → Bool
good_tape_starts trees tape starts =
    eqb (length starts) (suc trees) && (eqb (get_or starts 0 1) 0 && (along leb starts && eqb (get_or starts trees (suc tape)) tape))

-- ---- 3

-- R3.9
unfoldable pub good_weight : Float → Bool
good_weight w = finite w && not (lt w nought)

-- R3.9
unfoldable pub numbers_good : Given → Bool
numbers_good G = every finite G.inputs.values && (every finite G.inputs.targets && every good_weight G.weights)

-- ---- 4

-- R3.10
unfoldable pub counts_good : Given → Bool
counts_good G = every (λ c. leb c 65535) G.counts

-- R3.10: in a forest with weights
unfoldable pub counts_one : Given → Bool
counts_one G = unweighted G.weights || every (λ c. eqb c 1) G.counts

-- ---- 6

-- R3.11: the node room that a tree needs
unfoldable pub room_for : OneTree → ℕ
room_for F = max 1 (2 * length (kept_rows F) - 1)

-- R3.12
unfoldable pub work_enough : {W : Type 0} → WaitingForm W → Shape → Work W → Bool
work_enough K S w =
    leb (S.features * S.rows) (length w.order) && (leb S.rows (length w.scratch)
    && (leb (max S.rows S.features) (length w.flags) && leb S.rows (K.places w.waiting)))

-- R3.13
unfoldable pub reports_exact : ℕ → Reports → Bool
reports_exact trees c =
    eqb (length c.nodes) trees && (eqb (length c.depth) trees && (eqb (length c.mass) trees
    && (eqb (length c.searches) trees && (eqb (length c.words) trees && eqb (length c.thresholds) trees))))
