-- The waiting list by the code's steps. Assumes nothing.
use Rattle.std.specs.Prelude.{ℕ, zero, suc, ◌+◌, ◌<◌, ◌≤◌, ◌≡◌, refl, true, false, List, [], ◌∷◌, ◌++◌, length, get_or, set, Float, Some, None, Ok, Err}
use Rattle.std.proofs.Common.{le_trans, arith, add-one, sym, ◌∙◌, get_or-set_same, get_or-set_other}
use Rattle.std.proofs.Math.Nat.{le_refl}
use Rattle.std.proofs.Math.Path.{ap, subst}
use Rattle.rules.specs.declared.Params.{Params}
use Rattle.rules.specs.declared.Cut.{Cut}
use Rattle.rules.specs.Search.{NodeRows, Found, search}
use Rattle.rules.specs.Growth.{Waiting, joins, searchable, search_if}
use Rattle.rules.specs.Draws.{Out, ok, bind, Tapes, tape}
use Rattle.lemmas.specs.Outs.{bind-through}
use Rattle.candidates.specs.declared.Candidate.{Candidate}
use Rattle.candidates.specs.Held.{bare}
use Rattle.search.specs.declared.Drawn.{Drawn}
use Rattle.search.specs.declared.BadDraw.{BadDraw}
use Rattle.search.specs.Flat.{Search, draws_at, Fair, Searched}
use Rattle.node_entries.specs.declared.WaitingNode.{WaitingNode}
use Rattle.node_entries.specs.Entries.{wholes_of, reals_of, waiting_in, waiting_at}
use Rattle.node_growth.specs.declared.Stand.{Stand}
use Rattle.node_growth.specs.declared.Stretch.{Stretch}
use Rattle.node_growth.specs.Rooms.{Ground, node_rows, waiting_of, waiting_list, Sized, Laid, Step, FoundIn, HeldDone, PushDone, ChildDone}

waiting_kept : (wholes : List (List ℕ)) (reals : List (List Float)) (n i : ℕ) (w : List ℕ) (r : List Float) → i < n → waiting_at (set wholes n w) (set reals n r) i ≡ waiting_at wholes reals i
waiting_kept wholes reals n i w r h =
    ap (λ z. waiting_in z (get_or (set reals n r) i [])) (get_or-set_other wholes n i w [] (other i n h)) ∙ ap (waiting_in (get_or wholes i [])) (get_or-set_other reals n i r [] (other i n h))
  where
    other : (i n : ℕ) → i < n → i ≡ n → ⊥
    other i n h e = omega arith

pub list-kept : (g : Ground) (wholes : List (List ℕ)) (reals : List (List Float)) (n m : ℕ) (w : List ℕ) (r : List Float) → m ≤ n
    → waiting_list g (set wholes n w) (set reals n r) m ≡ waiting_list g wholes reals m
list-kept g wholes reals n zero w r h = refl
list-kept g wholes reals n (suc m) w r h =
    ap (λ z. waiting_of g z ∷ waiting_list g (set wholes n w) (set reals n r) m) (waiting_kept wholes reals n m w r h)
    ∙ ap (λ z. waiting_of g (waiting_at wholes reals m) ∷ z) (list-kept g wholes reals n m w r (less m n h))
  where
    less : (m n : ℕ) → suc m ≤ n → m ≤ n
    less m n h = omega arith

waiting-new : (wholes : List (List ℕ)) (reals : List (List Float)) (n : ℕ) (w : WaitingNode) → n < length wholes → n < length reals
    → waiting_at (set wholes n (wholes_of w)) (set reals n (reals_of w)) n ≡ w
waiting-new wholes reals n w h g =
    ap (λ z. waiting_in z (get_or (set reals n (reals_of w)) n [])) (get_or-set_same wholes n (wholes_of w) [] h) ∙ ap (waiting_in (wholes_of w)) (get_or-set_same reals n (reals_of w) [] g)

pub list-new : (g : Ground) (wholes : List (List ℕ)) (reals : List (List Float)) (n : ℕ) (w : WaitingNode) → n < length wholes → n < length reals
    → waiting_list g (set wholes n (wholes_of w)) (set reals n (reals_of w)) (n + 1) ≡ waiting_of g w ∷ waiting_list g wholes reals n
list-new g wholes reals n w h k =
    ap (waiting_list g (set wholes n (wholes_of w)) (set reals n (reals_of w))) (add-one n)
    ∙ ap (λ z. waiting_of g z ∷ waiting_list g (set wholes n (wholes_of w)) (set reals n (reals_of w)) n) (waiting-new wholes reals n w h k)
    ∙ ap (λ z. waiting_of g w ∷ z) (list-kept g wholes reals n n (wholes_of w) (reals_of w) (le_refl n))

laid_kept : (g : Ground) (wholes : List (List ℕ)) (reals : List (List Float)) (n m high : ℕ) (w : List ℕ) (r : List Float) → m ≤ n → Laid g wholes reals high m
    → Laid g (set wholes n w) (set reals n r) high m
laid_kept g wholes reals n zero high w r h l = tt
laid_kept g wholes reals n (suc m) high w r h l =
    subst (λ (z : WaitingNode). (m ≤ z.start) × (z.start ≤ z.end) × (z.end ≤ high) × Laid g (set wholes n w) (set reals n r) z.start m × Sized g z)
    (sym (waiting_kept wholes reals n m w r h))
    (l.0, l.1, l.2, laid_kept g wholes reals n m (waiting_at wholes reals m).start w r (less m n h) l.3, l.4)
  where
    less : (m n : ℕ) → suc m ≤ n → m ≤ n
    less m n h = omega arith

pub laid_more : (g : Ground) (wholes : List (List ℕ)) (reals : List (List Float)) (n low high : ℕ) → low ≤ high → Laid g wholes reals low n → Laid g wholes reals high n
laid_more g wholes reals zero low high h l = tt
laid_more g wholes reals (suc m) low high h l = (l.0, l.1, le_trans l.2 h, l.3, l.4)

laid-new : (g : Ground) (wholes : List (List ℕ)) (reals : List (List Float)) (n low : ℕ) (w : WaitingNode) → n < length wholes → n < length reals → Laid g wholes reals low n
    → n ≤ w.start → low ≤ w.start → w.start ≤ w.end → Sized g w
    → Laid g (set wholes n (wholes_of w)) (set reals n (reals_of w)) w.end (n + 1)
laid-new g wholes reals n low w h k l a b c z =
    subst (Laid g (set wholes n (wholes_of w)) (set reals n (reals_of w)) w.end) (sym (add-one n))
    (subst (λ (z : WaitingNode). (n ≤ z.start) × (z.start ≤ z.end) × (z.end ≤ w.end) × Laid g (set wholes n (wholes_of w)) (set reals n (reals_of w))
    z.start n × Sized g z) (sym (waiting-new wholes reals n w h k))
    (a, c, le_refl w.end, laid_kept g wholes reals n n w.start (wholes_of w) (reals_of w) (le_refl n) (laid_more g wholes reals n low w.start b l), z))

module _ (wholes : List (List ℕ)) (reals : List (List Float)) (n : ℕ) (c : Stretch) (d : Drawn) where
  pub push-uncut : (h : Candidate) → h.held ≡ None → HeldDone wholes reals wholes reals n c h d (record { waiting = n; drawn = d })
  unfolding joins
  push-uncut h eh =
      subst (λ z. HeldDone wholes reals wholes reals n c (record { held = z; rows = h.rows }) d (record { waiting = n; drawn = d })) (sym eh)
      (record { same = λ g f. refl; laid = λ g low f l x y z. laid_more g wholes reals n low c.to (le_trans y z) l; most = omega arith; drawn = refl })

  abbrev new_waiting : Cut → ℕ → WaitingNode
  new_waiting t m =
      record {
        node = c.node;
        start = c.from;
        end = c.to;
        level = c.level;
        rows = m;
        feature = t.feature;
        sum = c.side.totals.sum;
        mass = c.side.totals.mass;
        cut = t.threshold;
      }

  pub push-cut : n < length wholes → n < length reals → c.side.count < 4294967296 → (h : Candidate) {t : Cut} {p : Float} → h.held ≡ Some (t, p)
      → {wholes' : List (List ℕ)} {reals' : List (List Float)}
      → wholes' ≡ set wholes n (wholes_of (new_waiting t h.rows)) → reals' ≡ set reals n (reals_of (new_waiting t h.rows))
      → HeldDone wholes reals wholes' reals' n c h d (record { waiting = n + 1; drawn = d })
  unfolding joins
  push-cut hw hr few h {t} {p} eh {wholes'} {reals'} ew er =
      subst (λ z. HeldDone wholes reals wholes' reals' n c (record { held = z; rows = h.rows }) d (record { waiting = n + 1; drawn = d })) (sym eh)
      (subst (λ z. HeldDone wholes reals z reals' n c held d (record { waiting = n + 1; drawn = d })) (sym ew)
      (subst (λ z. HeldDone wholes reals (set wholes n (wholes_of w)) z n c held d (record { waiting = n + 1; drawn = d })) (sym er)
      (record {
        same = λ g f.
            ap (λ m. record {
              number = c.node;
              level = c.level;
              node = node_rows g c.from c.to (record { totals = c.side.totals; count = m });
              cut = t;
            } ∷ waiting_list g wholes reals n) f.0
            ∙ sym (list-new g wholes reals n w hw hr);
        laid = λ g low f l x y z. laid-new g wholes reals n low w hw hr l x y z (record { rows = f.1; small = subst (λ m. m < 4294967296) f.0 few });
        most = le_refl (n + 1);
        drawn = refl;
      })))
    where
      w : WaitingNode
      w = new_waiting t h.rows

      held : Candidate
      held = record { held = Some (t, p); rows = h.rows }

  pub push-bad : {r : Search} {b : BadDraw} → r ≡ Err b → PushDone wholes reals wholes reals n c d r (Err (record { search = d.searches }))
  unfolding bind
  push-bad h =
      subst (λ z. PushDone wholes reals wholes reals n c d z (Err (record { search = d.searches }))) (sym h)
      (record { same = λ g W M f. refl; laid = λ g low f l x y z. tt; most = tt; fair = λ W f. tt })

  pub push-goes : {r : Search} {h : Candidate} {e : Drawn} → r ≡ Ok (h, e) → {wholes' : List (List ℕ)} {reals' : List (List Float)} {s : Stand} → HeldDone wholes reals wholes' reals' n c h e s
      → PushDone wholes reals wholes' reals' n c d r (Ok s)
  unfolding bind
  push-goes er {wholes'} {reals'} {s} hd =
      subst (λ z. PushDone wholes reals wholes' reals' n c d z (Ok s)) (sym er)
      (record {
        same = λ g W M f i. ok (hd.same g f i, draws_at W M (sym hd.drawn i));
        laid = hd.laid;
        most = hd.most;
        fair = λ W f. subst (Fair W) (sym hd.drawn) f;
      })

-- ---- a child is searched

module _ (g : Ground) (P : Params) (W : List ℕ) (M : List Float) (wholes : List (List ℕ)) (reals : List (List Float)) (c : Stretch) (s : Stand) where
  abbrev asked : NodeRows
  asked = node_rows g c.from c.to c.side

  pub ask-not : searchable P c.level (bare c.side) ≡ false → Fair W s.drawn → ChildDone g P W M wholes reals wholes reals c s (Ok s)
  unfolding searchable search_if bind
  ask-not h f =
      record {
        same = ap (λ b. bind (search_if P (search (tape P.features) P) b c.node c.level asked (draws_at W M s.drawn)) (λ o. ok (o.0 ++ waiting_list g wholes reals s.waiting, o.1))) h;
        laid = λ low l x y z. laid_more g wholes reals s.waiting low c.to (le_trans y z) l;
        most = omega arith;
        fair = f;
      }

  join : Found × Tapes → List Waiting × Tapes
  join o = (joins c.node c.level asked o.0, o.1)

  next : List Waiting × Tapes → Out (List Waiting × Tapes)
  next o = ok (o.0 ++ waiting_list g wholes reals s.waiting, o.1)

  -- a child that is searched, by what its search means
  sought-is : searchable P c.level (bare c.side) ≡ true → {m : Out (Found × Tapes)} → m ≡ search (tape P.features) P (draws_at W M s.drawn) asked
      → bind (search_if P (search (tape P.features) P) (searchable P c.level asked) c.node c.level asked (draws_at W M s.drawn)) next
      ≡ bind m (λ o. ok (joins c.node c.level asked o.0 ++ waiting_list g wholes reals s.waiting, o.1))
  unfolding searchable search_if join next
  sought-is h e =
      ap (λ b. bind (search_if P (search (tape P.features) P) b c.node c.level asked (draws_at W M s.drawn)) (λ o. ok (o.0 ++ waiting_list g wholes reals s.waiting, o.1))) h
      ∙ bind-through (search (tape P.features) P (draws_at W M s.drawn) asked) join next
      ∙ ap (λ m. bind m (λ o. ok (joins c.node c.level asked o.0 ++ waiting_list g wholes reals s.waiting, o.1))) (sym e)

  pub ask-goes : searchable P c.level (bare c.side) ≡ true → {r : Search} → Searched P W M asked s.drawn r → FoundIn g c.from c.to c.side r
      → {wholes' : List (List ℕ)} {reals' : List (List Float)} {t : Step} → PushDone wholes reals wholes' reals' s.waiting c s.drawn r t
      → ChildDone g P W M wholes reals wholes' reals' c s t
  unfolding next
  ask-goes h sd fi pd =
      record {
        same = sought-is h sd.same ∙ pd.same g W M fi;
        laid = λ low l x y z. pd.laid g low fi l x y z;
        most = pd.most;
        fair = pd.fair W sd.fair;
      }
