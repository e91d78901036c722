-- Why a node is a leaf. A node of a tree that a fit leaves is a leaf exactly where growth had a reason to stop there: nothing is kept, the depth limit stopped it, its count is below the
-- least split, or no feature that its search tried offered a cut that leaves the least leaf on both sides. For the best splitter a cut is a place of the feature's column where the value
-- differs from the one before; for the random splitter it is the threshold drawn for that feature. So a leaf is there for one of these reasons only, and where none holds there is a split,
-- at a feature that its search tried. That nothing is kept is the reason of the root alone. All of it is said by what a caller has: the table that is left with its counts, and what was
-- passed in; for nodes are searched in the order of their numbers, each search with the choice words and thresholds that follow those of the one before. As many searches and thresholds are
-- reported as these come to. It holds of every tree of every fit that answers, under both splitters and at both heights, because once a search holds a candidate it goes on holding one.
-- Assumes nothing.
use Prim.Native.Nat.{ℕ, zero, suc, ◌+◌, ◌-◌, ◌*◌, ◌<◌, ◌≤◌, min}
use Rattle.std.proofs.Math.Nat.{add-zero}
use Rattle.std.proofs.Common.{zero-add, zero-mul, suc-mul, add-one, arith, ◌∙◌, true≢false, drop-drop, lt→ltb}
use Rattle.std.specs.Prelude.{◌≡◌, Bool, ◌&&◌, List, [], ◌∷◌, ◌++◌, map, take, T, ltb, leb}
use Rattle.std.proofs.Math.Path.{refl, sym, ap, subst}
use Rattle.std.proofs.Math.Bool.{true, false, not, cond}
use Rattle.std.proofs.Math.ListN.{length, get_or, drop, length-append, length-drop, get_or-map}
use Rattle.rules.specs.declared.Params.{Params}
use Rattle.rules.specs.declared.Cut.{Cut}
use Rattle.rules.specs.declared.Kind.{Kind}
use Rattle.rules.specs.declared.Kind.TheVariants.{Leaf, Split}
use Rattle.rules.specs.Words.{from, put_if, keep, total, member, stretch}
use Rattle.rules.specs.Lent.{Data, OneTree, Entry, cell, count_in}
use Rattle.rules.specs.Draws.{Tapes}
use Rattle.rules.specs.Search.{Element, at, Found, no_cut, cut_found}
use Rattle.rules.specs.Growth.{TreeNode, State, searchable}
use Rattle.rules.specs.Fit.{element_in, element, tree_of, entry_of}
use Rattle.rules.specs.Table.{is_leaf}
use Rattle.rules.specs.Reading.{no_entry}
use Rattle.lemmas.specs.Lists.{is_true, Every, every-imp, keep_append, total-append, from_more}
use Rattle.lemmas.specs.Nodes.{no_node, kind_at, count_at}
use Rattle.lemmas.specs.Cuts.{FoundIs}
use Rattle.lemmas.specs.Offers.{Offers, offers_of, offered, draws_of, tried_of, node_offers, is_cut, Searched, search-offers}
use Rattle.lemmas.specs.OffersAlike.{offers-map, draws-map}
use Rattle.lemmas.specs.Root.{Listed}
use Rattle.lemmas.specs.Tables.{length-entries}
use Rattle.lemmas.specs.Passes.{level_in}
use Rattle.lemmas.specs.Met.{Met, asked, Gave}
use Rattle.lemmas.specs.Settled.{uncut-leaf, forked, count-met, cut-splits}
use Rattle.lemmas.specs.Reached.{leaf-written, split-written, split-inner, level-met}
use Rattle.lemmas.specs.FitHistory.{chooses, Grown, rows_at, stands_at, good-at, least_at, column-rows}
use Rattle.demands.specs.TreesLeft.{Left, OfEveryTree, left_of, of-every-tree}

-- ---- the statements

-- the count beside node k
abbrev pub count_of : Left → ℕ → ℕ
count_of L k = get_or L.counts k 0

-- node k is searched: something is kept in it, its level is below the limit, and its count reaches the least split
abbrev pub is_searched : OneTree → Left → ℕ → Bool
is_searched F L k = ltb 0 (count_of L k) && (ltb (level_in L.entries k) F.params.limit && leb F.params.split (count_of L k))

-- the nodes before node k that are searched
abbrev pub searched_to : OneTree → Left → ℕ → List ℕ
searched_to F L k = keep (is_searched F L) (from 0 k)

-- the features that the search of node k tries: of its own choice words the first
abbrev pub tried_at : OneTree → Left → ℕ → List ℕ
tried_at F L k = take (min F.params.tried F.params.features) (stretch (length (searched_to F L k) * F.params.features) F.params.features F.words)

-- what each feature offers in node k: by the kept rows that pass through it, in the order of its listing
abbrev pub offers_at : OneTree → Data → Left → ℕ → Offers
offers_at F D L k = offers_of (λ j i. cell F.params.features D.values j i) (count_in F.counts) F.params.leaf (λ j. rows_at F D L.entries k j)

-- how many thresholds the search of node k draws, and how many are drawn before it
abbrev pub draws_at : OneTree → Data → Left → ℕ → ℕ
draws_at F D L k = draws_of (offers_at F D L k) F.params.splitter (tried_at F L k)

abbrev pub drawn_to : OneTree → Data → Left → ℕ → ℕ
drawn_to F D L k = total (draws_at F D L) (searched_to F L k)

-- some feature that the search of node k tries offers a cut
abbrev pub is_offered : OneTree → Data → Left → ℕ → Bool
is_offered F D L k = offered (offers_at F D L k) F.params.splitter (drop (drawn_to F D L k) F.thresholds) (tried_at F L k)

pub data Reason : Type 0 where
  nothing_kept : Reason
  at_the_limit : Reason
  below_least_split : Reason
  no_cut_offered : Reason
  -- none of these
  cut_offered : Reason

-- the first that holds, by whether something is kept, the level is below the limit, the count reaches the least split, and a cut is offered
abbrev pub reason_by : Bool → Bool → Bool → Bool → Reason
reason_by some low many offers = cond some (cond low (cond many (cond offers cut_offered no_cut_offered) below_least_split) at_the_limit) nothing_kept

-- of node k
unfoldable pub reason_at : OneTree → Data → Left → ℕ → Reason
reason_at F D L k = reason_by (ltb 0 (count_of L k)) (ltb (level_in L.entries k) F.params.limit) (leb F.params.split (count_of L k)) (is_offered F D L k)

-- each but the last makes a leaf
abbrev pub stops : Reason → Bool
stops nothing_kept = true
stops at_the_limit = true
stops below_least_split = true
stops no_cut_offered = true
stops cut_offered = false

-- a leaf has a reason, a split has none; and that nothing is kept is the root's alone
abbrev pub LeafByReason : OneTree → Data → Left → Type 0
LeafByReason F D L = (k : ℕ) → k < length L.entries → (is_leaf (get_or L.entries k no_entry) ≡ stops (reason_at F D L k)) × (reason_at F D L k ≡ nothing_kept → k ≡ 0)

-- a split is at a feature that its search tried
abbrev pub SplitAtTried : OneTree → Data → Left → Type 0
SplitAtTried F D L = (k : ℕ) → k < length L.entries → is_leaf (get_or L.entries k no_entry) ≡ false → member (get_or L.entries k no_entry).feature (tried_at F L k) ≡ true

-- the searches and the thresholds that are reported
pub record DrawsTold (F : OneTree) (D : Data) (L : Left) : Type 0 where
  pub searches : L.report.searches ≡ length (searched_to F L (length L.entries))
  pub thresholds : L.report.thresholds ≡ drawn_to F D L (length L.entries)

-- ---- reasons

stops-by : (some low many offers : Bool) → not ((some && (low && many)) && offers) ≡ stops (reason_by some low many offers)
stops-by true true true true = refl
stops-by true true true false = refl
stops-by true true false offers = refl
stops-by true false many offers = refl
stops-by false low many offers = refl

-- where something is kept, that is not the reason
something : (some low many offers : Bool) → some ≡ true → reason_by some low many offers ≡ nothing_kept → ◌≡◌ {A = ℕ} 0 1
something true true true true t e = cc
something true true true false t e = cc
something true true false offers t e = cc
something true false many offers t e = cc
something false low many offers t e = cc

-- ---- one node more

module _ (p : ℕ → Bool) (k : ℕ) where
  kept_more : {A : Type 0} (f : List ℕ → A) (g : Bool → A) → ((b : Bool) → f (keep p (from 0 k) ++ put_if b k []) ≡ g b) → f (keep p (from 0 (suc k))) ≡ g (p k)
  unfolding keep
  kept_more f g h = ap f (ap (keep p) (from_more 0 k ∙ ap (λ m. from 0 k ++ (m ∷ [])) (zero-add k)) ∙ keep_append p (from 0 k) (k ∷ [])) ∙ h (p k)

  length_more : length (keep p (from 0 (suc k))) ≡ length (keep p (from 0 k)) + cond (p k) 1 0
  unfolding put_if
  length_more = kept_more length (λ b. length (keep p (from 0 k)) + cond b 1 0) (λ b. length-append (keep p (from 0 k)) (put_if b k []) ∙ ap (λ m. length (keep p (from 0 k)) + m) (one b))
    where
      one : (b : Bool) → length (put_if b k []) ≡ cond b 1 0
      one true = refl
      one false = refl

  total-more : (f : ℕ → ℕ) → total f (keep p (from 0 (suc k))) ≡ total f (keep p (from 0 k)) + cond (p k) (f k) 0
  unfolding put_if total
  total-more f = kept_more (total f) (λ b. total f (keep p (from 0 k)) + cond b (f k) 0) (λ b. total-append f (keep p (from 0 k)) (put_if b k []) ∙ ap (λ m. total f (keep p (from 0 k)) + m) (one b))
    where
      one : (b : Bool) → total f (put_if b k []) ≡ cond b (f k) 0
      one true = add-zero (f k)
      one false = refl

-- ---- of every tree

module _ (F : OneTree) (D : Data) (l : Listed F D) (some : 0 < F.params.features) (s : State Tapes) (g : Grown F D s) where
  abbrev P : Params
  P = F.params

  abbrev left : Left
  left = left_of F D s

  abbrev met : ℕ → Met Tapes
  met = g.met

  count-is : (k : ℕ) → count_of left k ≡ count_at s.nodes k
  count-is k = get_or-map (λ (n : TreeNode). n.count) s.nodes k no_node

  -- a node that is not the root is never empty
  filled : (k : ℕ) → k < length s.nodes → 0 < k → ltb 0 (count_of left k) ≡ true
  filled k h up = is_true _ (lt→ltb 0 (count_of left k) (subst (λ n. 0 < n) (sym (count-is k)) (least_at l g k h up).0))

  -- what growth asks of a node is what the table says
  asked_is : (k : ℕ) → k < length s.nodes → asked P k (met k) ≡ is_searched F left k
  unfolding searchable
  asked_is k h = go k refl
    where
      counted : (met k).rows.count ≡ count_of left k
      counted = sym (count-is k ∙ count-met g k h)

      same : searchable P (met k).level (met k).rows ≡ (ltb (level_in left.entries k) P.limit && leb P.split (count_of left k))
      same = λ i. ltb (sym (level-met g (stands_at l g) k h) i) P.limit && leb P.split (counted i)

      go : (m : ℕ) → k ≡ m → asked P m (met k) ≡ (ltb 0 (count_of left k) && (ltb (level_in left.entries k) P.limit && leb P.split (count_of left k)))
      go zero q = λ i. ltb 0 (counted i) && same i
      go (suc m) q = same ∙ ap (λ b. b && (ltb (level_in left.entries k) P.limit && leb P.split (count_of left k))) (sym (filled k h (omega (arith, q))))

  -- what is left of the tapes before node k
  record Ledger (k : ℕ) (d : Tapes) : Type 0 where
    words : d.words ≡ drop (length (searched_to F left k) * P.features) F.words
    thresholds : d.thresholds ≡ drop (drawn_to F D left k) F.thresholds
    searches : d.searches ≡ length (searched_to F left k)
    within : drawn_to F D left k ≤ length F.thresholds

  module _ (k : ℕ) (h : k < length s.nodes) where
    -- its search, if it has one
    gave : Gave (chooses P) (is_searched F left k) (met k)
    gave = subst (λ b. Gave (chooses P) b (met k)) (asked_is k h) (g.known k h).gave

    searched : is_searched F left k ≡ true → Searched P (met k).rows (met k).before (met k).found (met k).after
    searched q =
        search-offers P (met k).rows (good-at l g k h).sound (met k).before (met k).found (met k).after (subst (λ b. Gave (chooses P) b (met k)) q gave)

    -- the columns that it searches are the listings
    columns : is_searched F left k ≡ true → Every (λ j. get_or (met k).rows.columns j [] ≡ map (element F D) (rows_at F D left.entries k j)) (tried_of P (met k).before.words)
    columns q = every-imp _ _ (λ j b. column-rows l g k h j b) (tried_of P (met k).before.words) (searched q).known

    module _ (t : Ledger k (met k).before) where
      tried-is : tried_of P (met k).before.words ≡ tried_at F left k
      tried-is = ap (tried_of P) t.words

      cut-is : is_searched F left k ≡ true → is_cut (met k).found ≡ is_offered F D left k
      unfolding at element element_in cell
      cut-is q =
          (searched q).found
          ∙ offers-map at (λ (e : Element). e.count) P.leaf (λ j. get_or (met k).rows.columns j []) (element F D) (rows_at F D left.entries k) P.splitter _ _ (columns q)
          ∙ (λ i. offered (offers_at F D left k) P.splitter (t.thresholds i) (tried-is i))

      draws-are : is_searched F left k ≡ true → draws_of (node_offers P (met k).rows) P.splitter (tried_of P (met k).before.words) ≡ draws_at F D left k
      unfolding at element element_in cell
      draws-are q =
          draws-map at (λ (e : Element). e.count) P.leaf (λ j. get_or (met k).rows.columns j []) (element F D) (rows_at F D left.entries k) P.splitter _ (columns q)
          ∙ ap (draws_of (offers_at F D left k) P.splitter) tried-is

      ledger-after : Ledger (suc k) (met k).after
      ledger-after = go (is_searched F left k) refl
        where
          n : ℕ
          n = length (searched_to F left k)

          number : (b : Bool) → is_searched F left k ≡ b → length (searched_to F left (suc k)) ≡ n + cond b 1 0
          number b q = length_more (is_searched F left) k ∙ ap (λ c. n + cond c 1 0) q

          drawn : (b : Bool) → is_searched F left k ≡ b → drawn_to F D left (suc k) ≡ drawn_to F D left k + cond b (draws_at F D left k) 0
          drawn b q = total-more (is_searched F left) k (draws_at F D left) ∙ ap (λ c. drawn_to F D left k + cond c (draws_at F D left k) 0) q

          go : (b : Bool) → is_searched F left k ≡ b → Ledger (suc k) (met k).after
          go false q =
              let e : (met k).after ≡ (met k).before = (subst (λ b. Gave (chooses P) b (met k)) q gave).1 in
              record {
                words = ap (λ (d : Tapes). d.words) e ∙ t.words ∙ ap (λ m. drop (m * P.features) F.words) (sym (number false q ∙ add-zero n));
                thresholds = ap (λ (d : Tapes). d.thresholds) e ∙ t.thresholds ∙ ap (λ m. drop m F.thresholds) (sym (drawn false q ∙ add-zero (drawn_to F D left k)));
                searches = ap (λ (d : Tapes). d.searches) e ∙ t.searches ∙ sym (number false q ∙ add-zero n);
                within = omega (arith, drawn false q, t.within);
              }
          go true q =
              let x = searched q in
              record {
                words = x.words ∙ ap (drop P.features) t.words ∙ drop-drop P.features (n * P.features) F.words
                    ∙ ap (λ m. drop m F.words) (sym (ap (λ m. m * P.features) (number true q ∙ add-one n) ∙ suc-mul n P.features));
                thresholds = x.thresholds ∙ (λ i. drop (draws-are q i) (t.thresholds i)) ∙ drop-drop (draws_at F D left k) (drawn_to F D left k) F.thresholds
                    ∙ ap (λ m. drop m F.thresholds) (sym (drawn true q));
                searches = x.searches ∙ ap suc t.searches ∙ sym (number true q ∙ add-one n);
                within = omega (arith, drawn true q, t.within, x.enough, draws-are q, ap length t.thresholds ∙ length-drop (drawn_to F D left k) F.thresholds);
              }

  ledger : (k : ℕ) → k < length s.nodes → Ledger k (met k).before
  unfolding keep from total
  ledger zero h =
      let e = g.start in
      record {
        words = ap (λ (d : Tapes). d.words) e ∙ ap (λ m. drop m F.words) (sym (zero-mul P.features));
        thresholds = ap (λ (d : Tapes). d.thresholds) e;
        searches = ap (λ (d : Tapes). d.searches) e;
        within = omega arith;
      }
  ledger (suc k) h =
      let b : k < length s.nodes = omega (arith, h) in
      subst (Ledger (suc k)) (sym (g.next k h)) (ledger-after k b (ledger k b))

  -- ---- leaves and reasons

  -- a leaf is a node whose search found nothing, if it had one
  leaf-is : (k : ℕ) → k < length s.nodes → is_leaf (get_or left.entries k no_entry) ≡ not (is_cut (met k).found)
  leaf-is k h = go (met k).found refl
    where
      go : (x : Found) → (met k).found ≡ x → is_leaf (get_or left.entries k no_entry) ≡ not (is_cut x)
      go no_cut q = leaf-written g (stands_at l g) k h (uncut-leaf g k h q)
      go (cut_found c) q = split-inner g (stands_at l g) k h _ (cut-splits g k h c q).kind

  -- one that is searched found what was offered
  found-is : (k : ℕ) → k < length s.nodes → is_cut (met k).found ≡ (is_searched F left k && is_offered F D left k)
  found-is k h = go (is_searched F left k) refl
    where
      go : (b : Bool) → is_searched F left k ≡ b → is_cut (met k).found ≡ (b && is_offered F D left k)
      go false q = ap is_cut (subst (λ b. Gave (chooses P) b (met k)) q (gave k h)).0
      go true q = cut-is k h (ledger k h) q

  grown-reason : LeafByReason F D left
  unfolding reason_at
  grown-reason k b = (leaf-is k h ∙ ap not (found-is k h) ∙ stops-by keeps low many offers, λ q. only k refl q)
    where
      h : k < length s.nodes
      h = subst (λ n. k < n) (length-entries s.nodes) b

      keeps : Bool
      keeps = ltb 0 (count_of left k)

      low : Bool
      low = ltb (level_in left.entries k) P.limit

      many : Bool
      many = leb P.split (count_of left k)

      offers : Bool
      offers = is_offered F D left k

      only : (m : ℕ) → k ≡ m → reason_by keeps low many offers ≡ nothing_kept → k ≡ 0
      only zero e q = e
      only (suc m) e q = absurd (omega (arith, something keeps low many offers (filled k h (omega (arith, e))) q))

  grown-tried : SplitAtTried F D left
  unfolding entry_of
  grown-tried k b inner = go (kind_at s.nodes k) refl
    where
      h : k < length s.nodes
      h = subst (λ n. k < n) (length-entries s.nodes) b

      -- a node that found a cut was searched
      among : (x : Bool) → is_searched F left k ≡ x → (c : Cut) → (met k).found ≡ cut_found c → T (member c.feature (tried_at F left k))
      among false q c e = let none : (met k).found ≡ no_cut = (subst (λ x. Gave (chooses P) x (met k)) q (gave k h)).0 in let z : ◌≡◌ {A = ℕ} 0 1 = cc in absurd (omega arith)
      among true q c e =
          subst (λ js. T (member c.feature js)) (tried-is k h (ledger k h))
          (subst (FoundIs (λ d. T (member d.feature (tried_of P (met k).before.words)))) e (searched k h q).among)

      go : (z : Kind) → kind_at s.nodes k ≡ z → member (get_or left.entries k no_entry).feature (tried_at F left k) ≡ true
      go Leaf e = absurd (true≢false (sym (leaf-written g (stands_at l g) k h e) ∙ inner))
      go (Split fork) e =
          ap (λ (x : Entry). member x.feature (tried_at F left k)) (split-written g (stands_at l g) k h fork e)
          ∙ is_true _ (among (is_searched F left k) refl fork.cut (forked g k h fork e).found)

  -- after the last node
  ledger-end : Ledger (length s.nodes) s.left
  ledger-end = go (length s.nodes) refl g.some
    where
      go : (n : ℕ) → length s.nodes ≡ n → 0 < n → Ledger (length s.nodes) s.left
      go zero e h = absurd (omega (arith, h))
      go (suc m) e h =
          let b : m < length s.nodes = omega (arith, e) in
          subst (λ n. Ledger n s.left) (sym e) (subst (Ledger (suc m)) (g.last m (sym e)) (ledger-after m b (ledger m b)))

  grown-told : DrawsTold F D left
  unfolding tree_of
  grown-told =
      subst (λ n. (s.left.searches ≡ length (searched_to F left n)) × (length F.thresholds - length s.left.thresholds ≡ drawn_to F D left n) → DrawsTold F D left) (length-entries s.nodes)
      (λ q. record { searches = q.0; thresholds = q.1 })
      (ledger-end.searches, used)
    where
      used : length F.thresholds - length s.left.thresholds ≡ drawn_to F D left (length s.nodes)
      used = omega (arith, ledger-end.within, ap length ledger-end.thresholds ∙ length-drop (drawn_to F D left (length s.nodes)) F.thresholds)

pub leaf-by-reason : OfEveryTree LeafByReason
leaf-by-reason = of-every-tree LeafByReason grown-reason

pub split-at-tried : OfEveryTree SplitAtTried
split-at-tried = of-every-tree SplitAtTried grown-tried

pub draws-told : OfEveryTree DrawsTold
draws-told = of-every-tree DrawsTold grown-told
