-- The calls of the rehearsal table, the rooms that are lent to them, and what they leave: written out to the last float, so that a wrong one differs at once.
-- Definitions only. Assumes nothing.
use Rattle.std.specs.Prelude.{ℕ, Bool, true, false, List, [], ◌∷◌, ◌++◌, map, length, replicate, pos, negsuc, Float, Ok, Err, None, Option}
use Rattle.std.specs.Float.{nan, fin, binary64}
use Rattle.std.specs.Float.Ieee.{add, sub, mul, div, lt, le, eq, is_nan, of_int, of_bits}
use Rattle.rules.specs.declared.Splitter.TheVariants.{Best}
use Rattle.rules.specs.declared.Height.{Height}
use Rattle.rules.specs.declared.Height.TheVariants.{Midpoint}
use Rattle.rules.specs.declared.Scale.{Scale}
use Rattle.rules.specs.Results.{TreeAnswer, ForestAnswer, Reply, ErrorReply}
use Rattle.rules.specs.declared.Refusal.{Refusal}
use Rattle.rules.specs.Words.{float, from, put_if, keep, every, along_from, along, joined, total, member, fresh, each_once}
use Rattle.rules.specs.Totals.{take_in, less, value_of, massless, gap, proxy, score}
use Rattle.rules.specs.Threshold.{midpoint, threshold_between}
use Rattle.rules.specs.Lent.{Given, Columns, Behind, behind_of, WaitingRoom, waiting_room, Work, TreeRooms, ForestRooms, Outcome, values_at, listing_at, unweighted, entries_at, kept, kept_rows, cell, count_in, mass_in, kept_in}
use Rattle.rules.specs.Checks.{checked, within, lengths, good_tape_starts, good_weight, numbers_good, counts_good, counts_one, room_for, work_enough, reports_exact}
use Rattle.rules.specs.Listing.{falls, lacking_from, lowest_lacking, tests_from, column_tests, order_tests}
use Rattle.rules.specs.Draws.{bind, take_words, take_threshold, next_threshold, tape}
use Rattle.rules.specs.Search.{at, totals_of, goes_true, better, judge, candidate_at, step, sweep, best_in, final, drawn, draw_in, random_in, try_one, try_all, search}
use Rattle.rules.specs.Growth.{child, leaf_of, splitting, split_of, with_children, searchable, joins, runs, search_if, expand, grow, grow_all, from_root}
use Rattle.rules.specs.Fit.{listing, element_in, element, column, root, tree_of, grow_from, fit, entry_of, entries, limit_of, params_of, TreeCall, one_tree_of, grown_tree, tree_tests, tree_done, tree_ends, fit_tree}
use Rattle.rules.specs.Table.{is_leaf, good_entry, good_from, good_tree, tree_in, starts_good, tree_at, trees_of, good_forest}
use Rattle.rules.specs.Reading.{onto, walked, leaf_value, reads, add_trees, mean_of, scored, add_scores, sum_from, divided_if, normalised, scores_of, scaled, tree_importance_tests, tree_importances}
use Rattle.rules.specs.Forest.{ForestCall, squares, tried_of, part, one_tree_at, each_tree, with_tree, next_tree, grow_trees, grown_forest, starts_from, forest_entries, forest_nodes, tapes_good, rooms_good, forest_tests, forest_done, forest_ends, fit_forest}
use Rattle.rules.specs.OutOfBag.{out_trees, out_of_bag_mean, out_tests, out_of_bag_means, square_off, add_squares, rows_with_mean, figure, error_tests, errs, out_of_bag_error}
use Rattle.rules.specs.declared.FitError.{FitError}

-- ---- a call of the table, and what it leaves

pub data Call : Type 0 where
  fits : TreeCall → TreeRooms WaitingRoom → Call
  -- the fit of a tree, then its importances
  weighs : Scale → TreeCall → TreeRooms WaitingRoom → List Float → Call
  -- the fit of a forest, then its out-of-bag means with the fit's own counts and features, then their error with the fit's own targets
  bags : ForestCall → ForestRooms WaitingRoom → List Float → Call

pub data Seen : Type 0 where
  fitted : Outcome TreeAnswer (TreeRooms WaitingRoom) → Seen
  read : Outcome Reply (List Float) → Seen
  bagged : Outcome ForestAnswer (ForestRooms WaitingRoom) → Outcome Reply (List Float) → ErrorReply → Seen

unfoldable pub run : Call → Seen
unfolding from put_if keep every along_from along joined total member fresh each_once take_in less value_of massless gap proxy score midpoint threshold_between values_at cell listing_at
    unweighted entries_at checked within lengths good_tape_starts good_weight numbers_good counts_good counts_one count_in mass_in kept_in kept kept_rows room_for work_enough reports_exact
    falls lacking_from lowest_lacking tests_from column_tests order_tests bind take_words take_threshold next_threshold tape at totals_of goes_true better judge candidate_at step sweep best_in final drawn draw_in
    random_in try_one try_all search child leaf_of splitting split_of with_children searchable joins runs search_if expand grow grow_all from_root listing element_in element column
    root tree_of grow_from fit entry_of entries limit_of params_of one_tree_of grown_tree tree_tests tree_done tree_ends fit_tree is_leaf good_entry good_from good_tree tree_in starts_good
    tree_at trees_of good_forest onto walked leaf_value reads add_trees mean_of scored add_scores sum_from divided_if normalised scores_of scaled tree_importance_tests tree_importances
    squares tried_of part one_tree_at each_tree with_tree next_tree grow_trees grown_forest starts_from forest_entries forest_nodes tapes_good rooms_good forest_tests forest_done forest_ends fit_forest
    out_trees out_of_bag_mean out_tests out_of_bag_means square_off add_squares rows_with_mean figure error_tests errs out_of_bag_error add sub mul div lt le eq is_nan of_int of_bits
run (fits C R) = fitted (fit_tree waiting_room C R)
run (weighs by C R out) = read (tree_importances C.shape.features by (fit_tree waiting_room C R).rooms.nodes out)
run (bags C R out) =
    let F = fit_forest waiting_room C R in
    let M = out_of_bag_means C.shape C.given.inputs.values C.given.counts (record { trees = C.trees; nodes = F.rooms.nodes; starts = F.rooms.starts }) out in
    bagged F M (out_of_bag_error C.shape.rows C.given.inputs.targets M.rooms)

-- ---- the table's calls

abbrev pub floats : List ℕ → List Float
floats l = map float l

-- one feature, four rows
abbrev pub given : List ℕ → List Float → List ℕ → List ℕ → Given
given xs ys counts listing = record { inputs = record { values = floats xs; targets = ys; listings = listing }; weights = []; counts = counts }

abbrev pub rise : List ℕ
rise = 1 ∷ 2 ∷ 3 ∷ 4 ∷ []

abbrev pub flats : List Float
flats = floats (0 ∷ 0 ∷ 10 ∷ 10 ∷ [])

abbrev pub ones : List ℕ
ones = 1 ∷ 1 ∷ 1 ∷ 1 ∷ []

abbrev pub sorted : List ℕ
sorted = 0 ∷ 1 ∷ 2 ∷ 3 ∷ []

abbrev pub plain : Given
plain = given rise flats ones sorted

-- rows of -0, +0, 1 and 2, with the listing given
abbrev pub zeros : List ℕ → Given
zeros listing =
    record { inputs = record { values = of_bits binary64 0x8000_0000_0000_0000 ∷ floats (0 ∷ 1 ∷ 2 ∷ []); targets = flats; listings = listing }; weights = []; counts = ones }

-- P8's: the second row is left out
abbrev pub sampled : List Float → Given
sampled ys = given rise ys (2 ∷ 0 ∷ 1 ∷ 1 ∷ []) sorted

abbrev pub deep : List Float
deep = float 0 ∷ of_int binary64 (negsuc 999) ∷ float 10 ∷ float 10 ∷ []

-- choice words all 0 and enough of them, best splitter, one feature tried
abbrev pub words : List ℕ
words = replicate 7 0

abbrev pub tree_by : Height → Option ℕ → ℕ → ℕ → Given → TreeCall
tree_by height depth leaf split G =
    record {
      shape = record { rows = 4; features = 1 };
      settings = record { depth = depth; leaf = leaf; split = split; splitter = Best; height = height };
      tried = 1;
      given = G;
      words = words;
      thresholds = [];
    }

abbrev pub tree : Option ℕ → ℕ → ℕ → Given → TreeCall
tree depth leaf split G = tree_by Midpoint depth leaf split G

-- P1's, with another listing
abbrev pub listed : List ℕ → TreeCall
listed listing = tree None 1 2 (given rise flats ones listing)

abbrev pub forest : Given → ForestCall
forest G =
    record {
      shape = record { rows = 4; features = 1 };
      trees = 1;
      settings = record { depth = None; leaf = 1; split = 2; splitter = Best; height = Midpoint };
      tried = None;
      given = G;
      words = words;
      thresholds = [];
      word_starts = 0 ∷ 7 ∷ [];
      threshold_starts = 0 ∷ 0 ∷ [];
    }

-- floats written out: an odd whole number, or 0, times a power of two
abbrev pub times : ℕ → ℕ → Float
times m k = fin false m (pos k)

abbrev pub half : ℕ → Float
half m = fin false m (negsuc 0)

abbrev pub f0 : Float
f0 = times 0 0

abbrev pub f1 : Float
f1 = times 1 0

abbrev pub f2 : Float
f2 = times 1 1

abbrev pub f4 : Float
f4 = times 1 2

abbrev pub f5 : Float
f5 = times 5 0

abbrev pub f10 : Float
f10 = times 5 1

abbrev pub f100 : Float
f100 = times 25 2

-- weights of 2, 1/2, 1 and 0, the second row counted twice
abbrev pub weighted : Given
weighted =
    record {
      inputs = record { values = floats rise; targets = flats; listings = sorted };
      weights = float 2 ∷ half 1 ∷ float 1 ∷ float 0 ∷ [];
      counts = 1 ∷ 2 ∷ 1 ∷ 1 ∷ [];
    }

-- rooms with nines in them
abbrev pub nines : ℕ → List ℕ
nines n = replicate n 9

abbrev pub nine_floats : ℕ → List Float
nine_floats n = replicate n (times 9 0)

abbrev pub room : ℕ → Columns
room n = record { value = nine_floats n; feature = nines n; threshold = nine_floats n; score = nine_floats n; true_child = nines n; false_child = nines n }

-- with k, b and x at every place
abbrev pub work : ℕ → Bool → Float → Work WaitingRoom
work k b x =
    record {
      order = replicate 4 k;
      scratch = replicate 4 k;
      flags = replicate 4 b;
      waiting = record { wholes = replicate 4 (replicate 6 k); reals = replicate 4 (replicate 3 x) };
    }

-- six columns of n places, counts of k and masses of m
abbrev pub lent_of : ℕ → ℕ → ℕ → TreeRooms WaitingRoom
lent_of n k m = record { nodes = room n; behind = behind_of (nines k) (nine_floats m); work = work 9 true (times 9 0) }

abbrev pub lent : ℕ → TreeRooms WaitingRoom
lent n = lent_of n n n

abbrev pub lent_all : ℕ → ForestRooms WaitingRoom
lent_all n =
    record {
      nodes = room n;
      behind = behind_of (nines n) (nine_floats n);
      starts = nines 2;
      reports = record { nodes = nines 1; depth = nines 1; mass = nine_floats 1; searches = nines 1; words = nines 1; thresholds = nines 1 };
      work = work 9 true (times 9 0);
    }

-- ---- what they leave

-- values, thresholds, scores and children of the nodes, then k places as they were
abbrev pub nodes : List Float → List Float → List Float → List ℕ → List ℕ → ℕ → Columns
nodes vs ts ss trues falses k =
    record {
      value = vs ++ nine_floats k;
      feature = replicate (length vs) 0 ++ nines k;
      threshold = ts ++ nine_floats k;
      score = ss ++ nine_floats k;
      true_child = trues ++ nines k;
      false_child = falses ++ nines k;
    }

-- counts and masses beside them
abbrev pub beside : List ℕ → List Float → ℕ → Behind
beside ks ms k = behind_of (ks ++ nines k) (ms ++ nine_floats k)

-- P1's seven nodes, with the thresholds of the first three
abbrev pub seven_at : List Float → ℕ → Columns
seven_at ts k =
    nodes (f5 ∷ f0 ∷ f10 ∷ f10 ∷ f10 ∷ f0 ∷ f0 ∷ []) (ts ++ replicate 4 f0)
    (f100 ∷ f0 ∷ f0 ∷ f0 ∷ f0 ∷ f0 ∷ f0 ∷ []) (1 ∷ 5 ∷ 3 ∷ 0 ∷ 0 ∷ 0 ∷ 0 ∷ []) (2 ∷ 6 ∷ 4 ∷ 0 ∷ 0 ∷ 0 ∷ 0 ∷ []) k

abbrev pub seven : ℕ → Columns
seven k = seven_at (half 5 ∷ half 3 ∷ half 7 ∷ []) k

abbrev pub seven_beside : ℕ → Behind
seven_beside k = beside (4 ∷ 2 ∷ 2 ∷ 1 ∷ 1 ∷ 1 ∷ 1 ∷ []) (f4 ∷ f2 ∷ f2 ∷ replicate 4 f1) k

-- P8's five, with the thresholds of the first and the third, then k places as they were
abbrev pub five_at : Float → Float → ℕ → Columns
five_at first third k =
    nodes (f5 ∷ f0 ∷ f10 ∷ f10 ∷ f10 ∷ []) (first ∷ f0 ∷ third ∷ f0 ∷ f0 ∷ []) (f100 ∷ f0 ∷ f0 ∷ f0 ∷ f0 ∷ []) (1 ∷ 0 ∷ 3 ∷ 0 ∷ 0 ∷ []) (2 ∷ 0 ∷ 4 ∷ 0 ∷ 0 ∷ []) k

abbrev pub five : Columns
five = five_at f2 (half 7) 0

abbrev pub five_weighted : Columns
five_weighted =
    nodes (half 5 ∷ f0 ∷ f10 ∷ f0 ∷ f0 ∷ []) (half 5 ∷ half 3 ∷ f0 ∷ f0 ∷ f0 ∷ []) (times 75 0 ∷ f0 ∷ f0 ∷ f0 ∷ f0 ∷ []) (1 ∷ 3 ∷ 0 ∷ 0 ∷ 0 ∷ []) (2 ∷ 4 ∷ 0 ∷ 0 ∷ 0 ∷ []) 1

abbrev pub five_beside : ℕ → Behind
five_beside k = beside (4 ∷ 2 ∷ 2 ∷ 1 ∷ 1 ∷ []) (f4 ∷ f2 ∷ f2 ∷ f1 ∷ f1 ∷ []) k

abbrev pub three : Columns
three = nodes (f5 ∷ f0 ∷ f10 ∷ []) (half 5 ∷ f0 ∷ f0 ∷ []) (f100 ∷ f0 ∷ f0 ∷ []) (1 ∷ 0 ∷ 0 ∷ []) (2 ∷ 0 ∷ 0 ∷ []) 4

abbrev pub three_beside : Behind
three_beside = beside (4 ∷ 2 ∷ 2 ∷ []) (f4 ∷ f2 ∷ f2 ∷ []) 4

abbrev pub lone : Float → ℕ → Columns
lone v k = nodes (v ∷ []) (f0 ∷ []) (f0 ∷ []) (0 ∷ []) (0 ∷ []) k

-- node count, depth, root mass and searches; a choice word a search, and no thresholds
abbrev pub says : ℕ → ℕ → Float → ℕ → Columns → Behind → Seen
says n depth mass searches c b =
    fitted (record {
      answer = Ok (record { nodes = n; depth = depth; mass = mass; searches = searches; words = searches; thresholds = 0 });
      rooms = record { nodes = c; behind = b; work = work 0 false f0 };
    })

-- P1's rows in one leaf
abbrev pub one_leaf : ℕ → Seen
one_leaf searches = says 1 0 f4 searches (lone f5 6) (beside (4 ∷ []) (f4 ∷ []) 6)

-- refused, and all as it was
abbrev pub no : Refusal → TreeRooms WaitingRoom → Seen
no r R = fitted (record { answer = Err (FitError.Refused r); rooms = R })

abbrev pub results : List Float → Outcome Reply (List Float)
results l = record { answer = Ok tt; rooms = l }

-- a forest of one tree that takes three words, with the means for the rows that it leaves out, and their error
abbrev pub one_tree : ℕ → Columns → Behind → List Float → ErrorReply → Seen
one_tree n c b means error =
    bagged (record {
      answer = Ok tt;
      rooms = record {
        nodes = c;
        behind = b;
        starts = 0 ∷ n ∷ [];
        reports = record { nodes = n ∷ []; depth = 3 ∷ []; mass = f4 ∷ []; searches = 3 ∷ []; words = 3 ∷ []; thresholds = 0 ∷ [] };
        work = work 0 false f0;
      };
    })
    (results means)
    error

-- P8's: the second row alone has a mean
abbrev pub bag_of_p8 : Float → Seen
bag_of_p8 error = one_tree 5 five (five_beside 0) (nan ∷ f0 ∷ nan ∷ nan ∷ []) (Ok (record { error = error; rows = 1 }))
