-- A node in the work columns: its columns by its stretch, what a split leaves of them and of those below, and what a good node gives the code. Assumes nothing.
use Rattle.std.specs.Prelude.{ℕ, zero, suc, ◌+◌, ◌-◌, ◌*◌, ◌<◌, ◌≤◌, ◌≡◌, refl, Bool, true, false, not, List, [], ◌∷◌, map, length, get_or, T, Float, Some, None, Ok, Err}
use Rattle.std.proofs.Common.{le_refl, le_trans, zero-add, arith, sym, ap, ◌∙◌, subst, length-take}
use Rattle.std.proofs.lemmas.Simd.{map-map}
use Rattle.std.proofs.lemmas.List.{length-map}
use Rattle.std.specs.Float.Ieee.{le}
use Rattle.floats.specs.Order.{stays_out}
use Rattle.rules.specs.declared.Params.{Params}
use Rattle.rules.specs.declared.Cut.{Cut}
use Rattle.rules.specs.Results.{Held}
use Rattle.rules.specs.Fit.{element_in}
use Rattle.rules.specs.Search.{Element, Column, at, goes_true, tally, totals_of, side_of}
use Rattle.rules.specs.Growth.{child}
use Rattle.rules.specs.Words.{keep, put_if, total, from}
use Rattle.rules.specs.Totals.{empty}
use Rattle.lemmas.specs.Lists.{is_false, Every, every-at, every-imp, map_same, keep-none, keep-map, keep-short, get_d-from, from-below}
use Rattle.lemmas.specs.Heights.{Rising}
use Rattle.lemmas.specs.Cuts.{Good}
use Rattle.lemmas.specs.Work.{part, columns_at}
use Rattle.work_columns.specs.Columns.{Cleft}
use Rattle.work_columns.specs.Split.{Alike, goes}
use Rattle.work_columns.specs.Stretches.{part-every}
use Rattle.criterion.specs.declared.Side.{Side}
use Rattle.criterion.specs.Sides.{side_on}
use Rattle.search.specs.Flat.{Search, Tables, Shaped, element_of, Sorted, RowsFor, RowsAfter, NodeAsks}
use Rattle.node_entries.specs.declared.WaitingNode.{WaitingNode}
use Rattle.node_entries.specs.Entries.{waiting_at}
use Rattle.node_growth.specs.Rooms.{Ground, cut_of, split_rows, count_of, truly, node_rows, waiting_of, waiting_list, Laid, BelowTo, RowsUnder, HeldIn, RowsTo, FoundIn}

-- the same over other work columns
abbrev pub with_order : Ground → List ℕ → Ground
with_order g order = record { rows = g.rows; features = g.features; tables = g.tables; order = order }

-- ---- columns, one by one

pub cols-alike : (el : ℕ → Element) (rows features : ℕ) (order' order : List ℕ) (a e : ℕ) → ((k : ℕ) → k < features → part rows k a e order' ≡ part rows k a e order)
    → columns_at el rows features a e order' ≡ columns_at el rows features a e order
unfolding columns_at
cols-alike el rows features order' order a e h =
    map_same _ _ (from 0 features) (every-imp _ _ (λ k u. ap (map el) (h k (omega arith))) (from 0 features) (from-below 0 features))

-- one side of every column, as rows and as elements
side-columns : (el : ℕ → Element) (c : Cut) (b : Bool → Bool) (n : ℕ) (old new : ℕ → List ℕ) → ((k : ℕ) → k < n → new k ≡ keep (λ r. b (goes_true c (el r))) (old k))
    → map (λ k. map el (new k)) (from 0 n) ≡ map (side_of b c) (map (λ k. map el (old k)) (from 0 n))
side-columns el c b n old new h =
    map_same _ _ (from 0 n) (every-imp _ _ (λ k u. ap (map el) (h k (omega arith)) ∙ sym (keep-map (λ e. b (goes_true c e)) el (old k))) (from 0 n) (from-below 0 n))
    ∙ sym (map-map (side_of b c) (λ k. map el (old k)) (from 0 n))

-- a node's column k
pub column-at : (g : Ground) (a e k : ℕ) → k < g.features
    → map (element_of g.features g.tables) (part g.rows k a e g.order) ≡ get_or (columns_at (element_of g.features g.tables) g.rows g.features a e g.order) k []
unfolding columns_at
column-at g a e k h = sym (get_d-from mine 0 g.features k [] h ∙ ap mine (zero-add k))
  where
    mine : ℕ → Column
    mine j = map (element_of g.features g.tables) (part g.rows j a e g.order)

-- a side of a split is the definition's child
pub child-rows : (g : Ground) (e : WaitingNode) (order' : List ℕ) (b : Bool → Bool) (a' e' : ℕ) (h : Side) → e.feature < g.features
    → ((k : ℕ) → k < g.features → part g.rows k a' e' order' ≡ keep (λ r. b (goes_true (cut_of e) (element_of g.features g.tables r))) (part g.rows k e.start e.end g.order))
    → h ≡ side_on (side_of b (cut_of e) (map (element_of g.features g.tables) (part g.rows e.feature e.start e.end g.order)))
    → node_rows (with_order g order') a' e' h ≡ child b (waiting_of g e)
unfolding child columns_at
child-rows g e order' b a' e' h hj hp eh = λ i.
    record {
      columns = side-columns el (cut_of e) b g.features (λ k. part g.rows k e.start e.end g.order) (λ k. part g.rows k a' e' order') hp i;
      totals = (ap (λ (z : Side). z.totals) eh ∙ ap (λ z. totals_of empty (side_of b (cut_of e) z)) mine) i;
      count = (ap (λ (z : Side). z.count) eh ∙ ap (λ z. tally (side_of b (cut_of e) z)) mine) i;
    }
  where
    el : ℕ → Element
    el = element_of g.features g.tables

    mine : map el (part g.rows e.feature e.start e.end g.order) ≡ get_or (columns_at el g.rows g.features e.start e.end g.order) e.feature []
    mine = column-at g e.start e.end e.feature hj

-- what lies below the split stretch is as it was
pub below-still : (g : Ground) (order' : List ℕ) (a : ℕ) → ((k b f : ℕ) → b ≤ f → f ≤ a → part g.rows k b f order' ≡ part g.rows k b f g.order)
    → (wholes : List (List ℕ)) (reals : List (List Float)) (high m : ℕ) → high ≤ a → Laid g wholes reals high m → waiting_list (with_order g order') wholes reals m ≡ waiting_list g wholes reals m
below-still g order' a beside wholes reals high zero hh l = refl
below-still g order' a beside wholes reals high (suc m) hh l =
    (λ i.
    record {
      number = x.node;
      level = x.level;
      node = record {
        columns = cols-alike (element_of g.features g.tables) g.rows g.features order' g.order x.start x.end (λ k u. still k) i;
        totals = record { sum = x.sum; mass = x.mass };
        count = count_of g (still x.feature i);
      };
      cut = cut_of x;
    } ∷ waiting_list (with_order g order') wholes reals m)
    ∙ ap (λ z. waiting_of g x ∷ z) (below-still g order' a beside wholes reals x.start m (le_trans l.1 (le_trans l.2 hh)) l.3)
  where
    x : WaitingNode
    x = waiting_at wholes reals m

    still : (k : ℕ) → part g.rows k x.start x.end order' ≡ part g.rows k x.start x.end g.order
    still k = beside k x.start x.end l.1 (le_trans l.2 hh)

pub laid-still : (g : Ground) (order' : List ℕ) (a : ℕ) → ((k b f : ℕ) → b ≤ f → f ≤ a → part g.rows k b f order' ≡ part g.rows k b f g.order)
    → (wholes : List (List ℕ)) (reals : List (List Float)) (high m : ℕ) → high ≤ a → Laid g wholes reals high m → Laid (with_order g order') wholes reals high m
laid-still g order' a beside wholes reals high zero hh l = tt
laid-still g order' a beside wholes reals high (suc m) hh l = (
  l.0,
  l.1,
  l.2,
  laid-still g order' a beside wholes reals x.start m (le_trans l.1 (le_trans l.2 hh)) l.3,
  record { rows = l.4.rows ∙ ap (truly g (cut_of x)) still; small = subst (λ r. count_of g r < 4294967296) still l.4.small },
)
  where
    x : WaitingNode
    x = waiting_at wholes reals m

    still : split_rows g x ≡ part g.rows x.feature x.start x.end order'
    still = sym (beside x.feature x.start x.end l.1 (le_trans l.2 hh))

-- ---- what a good node gives the code

level-sum : (f : ℕ) (t : Tables) (g : ℕ → ℕ) (l : List ℕ) → total (λ x. g x.row) (keep (λ x. true) (map (element_of f t) l)) ≡ total g l
unfolding total keep put_if element_in
level-sum f t g [] = refl
level-sum f t g (x ∷ l) = ap (λ n. g x + n) (level-sum f t g l)

-- where values never fall, the rows that go true stand first
rising-cleft : (el : ℕ → Element) (c : Cut) (l : List ℕ) → Rising c.feature (map el l) → (n : ℕ) → n ≡ length (keep (goes el c) l) → Cleft (goes el c) l n
unfolding goes_true keep put_if
rising-cleft el c [] r zero e = record { within = le_refl 0; passed = tt; others = tt }
rising-cleft el c [] r (suc n) e = absurd (omega (arith, e))
rising-cleft el c (x ∷ l) r n e = go n (goes el c x) refl e (rising-cleft el c l r.1)
  where
    after : (l : List ℕ) → T (not (goes el c x)) → Every (λ y. T (le (at c.feature (el x)) (at c.feature y))) (map el l) → Every (λ k. goes el c k ≡ false) l
    after [] out h = tt
    after (y ∷ l) out h = (is_false _ (stays_out (at c.feature (el x)) _ _ out h.0), after l out h.1)

    go : (n : ℕ) (b : Bool) → goes el c x ≡ b → n ≡ length (put_if b x (keep (goes el c) l)) → ((m : ℕ) → m ≡ length (keep (goes el c) l) → Cleft (goes el c) l m) → Cleft (goes el c) (x ∷ l) n
    go zero true q e ih = absurd (omega (arith, e))
    go (suc n) true q e ih =
        let k = ih n (let f : n ≡ length (keep (goes el c) l) = omega (arith, e) in f) in
        record { within = let w = k.within in omega (arith, w); passed = (q, k.passed); others = k.others }
    go n false q e ih =
        let out = after l (subst (λ b. T (not b)) (sym q) tt) r.0 in
        subst (Cleft (goes el c) (x ∷ l)) (sym (e ∙ ap length (keep-none (goes el c) l out))) (record { within = omega arith; passed = tt; others = (q, out) })

module _ (g : Ground) (P : Params) (sm : g.features ≡ P.features) (a e : ℕ) (q : Side) (gd : Good P (node_rows g a e q)) where
  pub good-alike : (i j : ℕ) → i < g.features → j < g.features → Alike (part g.rows i a e g.order) (part g.rows j a e g.order)
  good-alike i j hi hj f =
      sym (level-sum g.features g.tables f (part g.rows i a e g.order))
      ∙ ap (λ z. total (λ x. f x.row) (keep (λ x. true) z)) (column-at g a e i hi)
      ∙ gd.level i j (subst (λ n. i < n) sm hi) (subst (λ n. j < n) sm hj) (λ x. f x.row) (λ x. true)
      ∙ sym (ap (λ z. total (λ x. f x.row) (keep (λ x. true) z)) (column-at g a e j hj))
      ∙ level-sum g.features g.tables f (part g.rows j a e g.order)

  good-room : (k : ℕ) → k < g.features → q.count ≡ count_of g (part g.rows k a e g.order)
  good-room k h = (gd.sound k (subst (λ n. k < n) sm h)).counted ∙ ap tally (sym (column-at g a e k h))

  good-sorted : (k : ℕ) → k < g.features → Sorted k (map (element_of g.features g.tables) (part g.rows k a e g.order))
  good-sorted k h = let s = gd.sound k (subst (λ n. k < n) sm h) in subst (Sorted k) (sym (column-at g a e k h)) (s.values, s.rising)

  pub good-cleft : (c : Cut) → c.feature < g.features → (n : ℕ) → n ≡ truly g c (part g.rows c.feature a e g.order)
      → Cleft (goes (element_of g.features g.tables) c) (part g.rows c.feature a e g.order) n
  good-cleft c h n s = rising-cleft (element_of g.features g.tables) c (part g.rows c.feature a e g.order) (good-sorted c.feature h).1 n s

  pub good-asks : Shaped g.rows g.features g.tables → length g.order ≡ g.features * g.rows → (n : ℕ) → e ≤ n → BelowTo g n → a ≤ e → e ≤ g.rows
      → NodeAsks g.rows g.features a e g.tables g.order q.count
  good-asks sh lg n en bl h k =
      record {
        shape = sh;
        long = lg;
        ordered = h;
        high = k;
        below = λ j l i u. every-at (λ r. r < g.rows) (part g.rows j a e g.order) 0 i (part-every (λ r. r < g.rows) g.rows j 0 n a e g.order (omega arith) en h (bl j l)) u;
        room = good-room;
        sorted = good-sorted;
      }

pub part-short : (rows : ℕ) (order : List ℕ) (a e k : ℕ) → length (part rows k a e order) ≤ e - a
part-short rows order a e k = simp length-take (omega arith)

-- ---- what a search finds in a node's columns

module _ (g : Ground) (a e : ℕ) (q : Side) (n : NodeAsks g.rows g.features a e g.tables g.order q.count) where
  held_in : (h : Held) (m : ℕ) → RowsFor g.features (node_rows g a e q) h m → HeldIn g a e q h m
  held_in None m r = tt
  held_in (Some (c, p)) m r = (
    n.room c.feature r.0,
    r.1 ∙ ap (λ es. length (keep (goes_true c) es)) (sym (column-at g a e c.feature r.0))
        ∙ ap length (keep-map (goes_true c) (element_of g.features g.tables) rows) ∙ length-map (keep (goes (element_of g.features g.tables) c) rows) (element_of g.features g.tables),
  )
    where
      rows : List ℕ
      rows = part g.rows c.feature a e g.order

  pub held_for : (f : ℕ) → g.features ≡ f → (h : Held) (m : ℕ) → RowsFor f (node_rows g a e q) h m → HeldIn g a e q h m
  held_for f sm h m r = held_in h m (subst (λ k. RowsFor k (node_rows g a e q) h m) (sym sm) r)

  pub found_in : (f : ℕ) → g.features ≡ f → (r : Search) → RowsAfter f (node_rows g a e q) r → FoundIn g a e q r
  found_in f sm (Err b) h = tt
  found_in f sm (Ok (c, d)) h = held_for f sm c.held c.rows h

pub held-short : (g : Ground) (a e : ℕ) (q : Side) (h : Held) (m : ℕ) → HeldIn g a e q h m → RowsUnder e h m
held-short g a e q None m k = tt
held-short g a e q (Some (c, p)) m k =
    omega (arith, k.1, keep-short (goes (element_of g.features g.tables) c) (part g.rows c.feature a e g.order), part-short g.rows g.order a e c.feature)

pub found-short : (g : Ground) (a e : ℕ) (q : Side) (r : Search) → FoundIn g a e q r → RowsTo e r
found-short g a e q (Err b) k = tt
found-short g a e q (Ok (h, d)) k = held-short g a e q h.held h.rows k

-- ---- rows of a stretch

pub ones-map : (el : ℕ → Element) (l : List ℕ) → total (λ x. 1) (map el l) ≡ length l
unfolding total
ones-map el [] = refl
ones-map el (x ∷ l) = let h = ones-map el l in omega (arith, h)

some-row : (el : ℕ → Element) (p : Element → Bool) (l : List ℕ) → 0 < total (λ x. 1) (keep p (map el l)) → 0 < length l
unfolding keep total
some-row el p [] h = h
some-row el p (x ∷ l) h = omega arith

-- a stretch from which something is kept has rows
pub rows_of : (rows : ℕ) (order : List ℕ) (a e k : ℕ) (el : ℕ → Element) (p : Element → Bool) → 0 < total (λ x. 1) (keep p (map el (part rows k a e order))) → a < e
rows_of rows order a e k el p h =
    let s = some_of el p (part rows k a e order) h in
    let q = part-short rows order a e k in
    omega (arith, s, q)
  where
    some_of : (el : ℕ → Element) (p : Element → Bool) (l : List ℕ) → 0 < total (λ x. 1) (keep p (map el l)) → 0 < length l
    some_of = some-row
