-- What a fit that answers has passed, grown and written. Assumes nothing.
use Rattle.std.specs.Prelude.{ℕ, zero, suc, ◌+◌, ◌<◌, ◌≤◌, ◌≡◌, List, [], ◌∷◌, ◌++◌, map, length, get_or, Ok, Err}
use Rattle.std.proofs.Math.Nat.{le_trans}
use Rattle.std.proofs.Common.{zero-add, add-zero, not-suc-le-zero, le_of_suc-le-suc, arith, sym, ◌∙◌, length-append}
use Rattle.std.proofs.Math.Path.{refl, ap, subst}
use Rattle.std.proofs.Math.ListN.{length-map}
use Rattle.rules.specs.declared.Report.{Report}
use Rattle.rules.specs.Results.{Checked, TreeAnswer, ForestAnswer}
use Rattle.rules.specs.Words.{from, front, total}
use Rattle.rules.specs.Lent.{Data, OneTree, WaitingForm, TreeRooms, ForestRooms, shortest_of_eight, write_entries, write_reports, zero_work}
use Rattle.rules.specs.Checks.{checked, room_for}
use Rattle.rules.specs.Draws.{Out, bad, ok}
use Rattle.rules.specs.Fit.{Tree, fit, entries, write_behind, params_of, TreeCall, one_tree_of, grown_tree, tree_tests, tree_done, tree_ends, fit_tree}
use Rattle.rules.specs.Forest.{ForestCall, one_tree_at, each_tree, Forest, stopped, grown_all, with_tree, next_tree, grow_trees, grown_forest, starts_from, forest_entries, forest_nodes, forest_tests, forest_done, forest_ends, fit_forest}
use Rattle.lemmas.specs.Lists.{Every, every-all, every_map, length_from}
use Rattle.lemmas.specs.Outs.{Then, then-of}
use Rattle.lemmas.specs.Root.{Listed, fit-nodes}
use Rattle.lemmas.specs.Passed.{ForestPassed, tree-passed, forest-passed, tree-framed, forest-framed, Binary64, listed-right}
use Rattle.lemmas.specs.Tables.{length-entries}
use Rattle.rules.specs.declared.FitError.{FitError}

-- ---- one tree

abbrev IsGrown : TreeAnswer → Type 0
IsGrown (Err (FitError.Refused n)) = ⊥
IsGrown (Err (FitError.BadDraw d)) = ⊥
IsGrown (Ok r) = Unit {0}

abbrev pub report_or : Report → TreeAnswer → Report
report_or d (Err (FitError.Refused n)) = d
report_or d (Err (FitError.BadDraw x)) = d
report_or d (Ok r) = r

module _ {W : Type 0} (K : WaitingForm W) where
  pub record TreeAnswered (C : TreeCall) (R : TreeRooms W) (r : Report) : Type 0 where
    pub passed : checked (tree_tests K C R) ≡ Ok tt
    pub tree : Tree
    pub grew : fit (one_tree_of C) C.given.inputs ≡ ok tree
    pub reported : tree.report ≡ r
    pub after : (fit_tree K C R).rooms ≡ record { nodes = write_entries (entries tree.nodes) R.nodes; behind = write_behind tree.nodes R.behind; work = zero_work K R.work }

  pub tree-answered : (C : TreeCall) (R : TreeRooms W) (r : Report) → (fit_tree K C R).answer ≡ Ok r → TreeAnswered C R r
  unfolding fit_tree tree_ends tree_done grown_tree
  tree-answered C R r h = go (checked (tree_tests K C R)) refl (fit (one_tree_of C) C.given.inputs) refl h
    where
      go : (k : Checked) → checked (tree_tests K C R) ≡ k → (o : Out Tree) → fit (one_tree_of C) C.given.inputs ≡ o → (tree_ends K k o R).answer ≡ Ok r → TreeAnswered C R r
      go (Ok _) q (bad s) e h = absurd (subst IsGrown (sym h) tt)
      go (Ok _) q (ok t) e h = record { passed = q; tree = t; grew = e; reported = ap (report_or r) h; after = λ i. (tree_ends K (q i) (e i) R).rooms }
      go (Err r₀) q o e h = absurd (subst IsGrown (sym h) tt)

  -- its listings were in order
  pub tree-listed : (C : TreeCall) (R : TreeRooms W) → Binary64 C.given.inputs.values → checked (tree_tests K C R) ≡ Ok tt
      → Listed (one_tree_of C) C.given.inputs × (0 < (one_tree_of C).params.features)
  unfolding one_tree_of params_of
  tree-listed C R held q =
      let p = (tree-passed K C R q).passed in
      (listed-right C.shape 1 C.given p (one_tree_of C) (tree-framed C p) held, p.some_features)

-- ---- a forest

-- each frame grew its tree
abbrev pub Grew : List OneTree → Data → List Tree → Type 0
Grew [] D [] = Unit {0}
Grew [] D (t ∷ ts) = ⊥
Grew (F ∷ Fs) D [] = ⊥
Grew (F ∷ Fs) D (t ∷ ts) = (fit F D ≡ ok t) × Grew Fs D ts

abbrev GrewAll : List OneTree → Data → Forest → Type 0
GrewAll Fs D (stopped d) = Unit {0}
GrewAll Fs D (grown_all ts) = Grew Fs D ts

trees-grew : (k : ℕ) (Fs : List OneTree) (D : Data) → GrewAll Fs D (grow_trees k Fs D)
unfolding grow_trees next_tree with_tree
trees-grew k [] D = tt
trees-grew k (F ∷ Fs) D = go (fit F D) refl (grow_trees (suc k) Fs D) (trees-grew (suc k) Fs D)
  where
    go : (o : Out Tree) → fit F D ≡ o → (f : Forest) → GrewAll Fs D f → GrewAll (F ∷ Fs) D (next_tree k o f)
    go (bad s) e f h = tt
    go (ok t) e (stopped d) h = tt
    go (ok t) e (grown_all ts) h = (e, h)

pub grew-length : (Fs : List OneTree) (D : Data) (ts : List Tree) → Grew Fs D ts → length ts ≡ length Fs
grew-length [] D [] g = refl
grew-length [] D (t ∷ ts) g = absurd g
grew-length (F ∷ Fs) D [] g = absurd g
grew-length (F ∷ Fs) D (t ∷ ts) g = ap suc (grew-length Fs D ts g.1)

-- a fit among them, and where its tree is found in any column of the trees
pub record GrewAt (o : Out Tree) (ts : List Tree) (t : ℕ) : Type 1 where
  pub tree : Tree
  pub grew : o ≡ ok tree
  pub at : {A : Type 0} (f : Tree → A) (x : List A) (d : A) → get_or (map f ts ++ x) t d ≡ f tree

pub grew-at : (F : ℕ → OneTree) (D : Data) (k n : ℕ) (ts : List Tree) → Grew (map F (from k n)) D ts → (t : ℕ) → t < n → GrewAt (fit (F (k + t)) D) ts t
unfolding from
grew-at F D k zero ts g t h = absurd (not-suc-le-zero h)
grew-at F D k (suc n) [] g t h = absurd g
grew-at F D k (suc n) (x ∷ ts) g zero h = record { tree = x; grew = ap (λ j. fit (F j) D) (add-zero k) ∙ g.0; at = λ f r d. refl }
grew-at F D k (suc n) (x ∷ ts) g (suc t) h =
    let u = grew-at F D (suc k) n ts g.1 t (le_of_suc-le-suc h) in
    record { tree = u.tree; grew = ap (λ j. fit (F j) D) (shift k t) ∙ u.grew; at = u.at }
  where
    shift : (k t : ℕ) → k + suc t ≡ suc k + t
    shift k t = omega arith

-- what holds of each fit holds of each tree
pub grew-each : (Q : Tree → Type 0) (Fs : List OneTree) (D : Data) (ts : List Tree) → Grew Fs D ts → Every (λ F. Then (fit F D) Q) Fs → Every Q ts
grew-each Q [] D [] g h = tt
grew-each Q [] D (t ∷ ts) g h = absurd g
grew-each Q (F ∷ Fs) D [] g h = absurd g
grew-each Q (F ∷ Fs) D (t ∷ ts) g h = (then-of Q (fit F D) t g.0 h.0, grew-each Q Fs D ts g.1 h.1)

-- all the nodes of a forest
grew-room : (Fs : List OneTree) (D : Data) (ts : List Tree) → Grew Fs D ts → Every (λ F. Then (fit F D) (λ t. length t.nodes ≤ room_for F)) Fs → length (forest_entries ts) ≤ total room_for Fs
unfolding forest_entries total
grew-room [] D [] g h = omega arith
grew-room [] D (t ∷ ts) g h = absurd g
grew-room (F ∷ Fs) D [] g h = absurd g
grew-room (F ∷ Fs) D (t ∷ ts) g h =
    sum (length (entries t.nodes ++ forest_entries ts)) (length (entries t.nodes)) (length t.nodes) (length (forest_entries ts)) (room_for F) (total room_for Fs)
    (length-append (entries t.nodes) (forest_entries ts)) (length-entries t.nodes) (then-of (λ t. length t.nodes ≤ room_for F) (fit F D) t g.0 h.0) (grew-room Fs D ts g.1 h.1)
  where
    sum : (t a a' b x y : ℕ) → t ≡ a + b → a ≡ a' → a' ≤ x → b ≤ y → t ≤ x + y
    sum t a a' b x y h₁ h₂ h₃ h₄ = omega arith

abbrev ForestGrown : ForestAnswer → Type 0
ForestGrown (Err (FitError.Refused n)) = ⊥
ForestGrown (Err (FitError.BadDraw d)) = ⊥
ForestGrown (Ok _) = Unit {0}

module _ {W : Type 0} (K : WaitingForm W) where
  pub record ForestAnswered (C : ForestCall) (R : ForestRooms W) : Type 0 where
    pub passed : checked (forest_tests K C R) ≡ Ok tt
    pub trees : List Tree
    pub grew : Grew (each_tree C) C.given.inputs trees
    pub after : (fit_forest K C R).rooms ≡ record {
      nodes = write_entries (forest_entries trees) R.nodes;
      behind = write_behind (forest_nodes trees) R.behind;
      starts = front (starts_from 0 trees) R.starts;
      reports = write_reports (map (λ (t : Tree). t.report) trees) R.reports;
      work = zero_work K R.work;
    }

  pub forest-answered : (C : ForestCall) (R : ForestRooms W) → (fit_forest K C R).answer ≡ Ok tt → ForestAnswered C R
  unfolding fit_forest forest_ends forest_done grown_forest
  forest-answered C R h = go (checked (forest_tests K C R)) refl (grow_trees 0 (each_tree C) C.given.inputs) refl h
    where
      go : (k : Checked) → checked (forest_tests K C R) ≡ k → (f : Forest) → grow_trees 0 (each_tree C) C.given.inputs ≡ f → (forest_ends K k f R).answer ≡ Ok tt → ForestAnswered C R
      go (Ok _) q (stopped d) e h = absurd (subst ForestGrown (sym h) tt)
      go (Ok _) q (grown_all ts) e h =
          record { passed = q; trees = ts; grew = subst (GrewAll (each_tree C) C.given.inputs) e (trees-grew 0 (each_tree C) C.given.inputs); after = λ i. (forest_ends K (q i) (e i) R).rooms }
      go (Err r₀) q f e h = absurd (subst ForestGrown (sym h) tt)

  module _ (C : ForestCall) (R : ForestRooms W) (a : ForestAnswered C R) where
    pub forest-right : ForestPassed K C R
    forest-right = forest-passed K C R a.passed

    pub trees-length : length a.trees ≡ C.trees
    unfolding each_tree
    trees-length = grew-length (each_tree C) C.given.inputs a.trees a.grew ∙ length-map (from 0 C.trees) (one_tree_at C) ∙ length_from 0 C.trees

    -- tree t of it
    pub tree-at : (t : ℕ) → t < C.trees → GrewAt (fit (one_tree_at C t) C.given.inputs) a.trees t
    unfolding each_tree
    tree-at t h = subst (λ k. GrewAt (fit (one_tree_at C k) C.given.inputs) a.trees t) (zero-add t) (grew-at (one_tree_at C) C.given.inputs 0 C.trees a.trees a.grew t h)

    -- what holds of every fit of these listings holds of each tree
    pub trees-each : (Q : Tree → Type 0) → Binary64 C.given.inputs.values
        → ((t : ℕ) → Listed (one_tree_at C t) C.given.inputs → Then (fit (one_tree_at C t) C.given.inputs) Q) → Every Q a.trees
    unfolding each_tree
    trees-each Q held h =
        let p = forest-right.passed in
        grew-each Q (each_tree C) C.given.inputs a.trees a.grew
        (every_map _ (one_tree_at C) (from 0 C.trees)
        (every-all _ (λ t. h t (listed-right C.shape C.trees C.given p (one_tree_at C t) (forest-framed C p t) held)) (from 0 C.trees)))

    -- the node room is enough for all the trees together
    pub forest-room : Binary64 C.given.inputs.values → length (forest_entries a.trees) ≤ shortest_of_eight R.nodes R.behind
    unfolding each_tree one_tree_at params_of
    forest-room held =
        let p = forest-right.passed in
        le_trans
        (grew-room (each_tree C) C.given.inputs a.trees a.grew
        (every_map _ (one_tree_at C) (from 0 C.trees)
        (every-all _ (λ t. fit-nodes (one_tree_at C t) C.given.inputs
        (listed-right C.shape C.trees C.given p (one_tree_at C t) (forest-framed C p t) held) p.some_features) (from 0 C.trees))))
        forest-right.room
