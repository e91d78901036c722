-- `sweeps::sweep` meets its contract: what was begun has gone on to the rows passed, and from i on the stretch is as it was. Assumes nothing.
use Rattle.std.proofs.Common.{arith, ◌≡◌, refl, ap, ◌∙◌, subst, Bool, true, false, not, List, ℕ, ◌≤◌, ◌<◌, ◌-◌, ◌+◌, length, length-set, length-drop, get_or, set, take, drop, get_or-drop}
use Rattle.lemmas.specs.Lists.{Every, every-at}
use Rattle.sweeps.specs.Swept.{flagged, fails, Begun, SweepDone}
use Rattle.sweeps.specs.Fronts.{front_kept, front-left, rest_more, head-same}
use Rattle.sweeps.proofs.sweep.Invariants.{Passed}
use Rattle.sweeps.proofs.sweep.Goals as goal
use Rattle.sweeps.proofs.sweep.Goals.{then-t, else-t}

module _ (p : ℕ → Bool) (before col scratch : List ℕ) (i w : ℕ) (b : Begun p before col scratch i w) (h : i < length before) (r : length before ≤ length scratch) where
  same : get_or col i 0 ≡ get_or before i 0
  same = head-same col before i 0 b.rest

  abbrev col' : List ℕ
  col' = set col w (get_or col i 0)

  abbrev scratch' : List ℕ
  scratch' = set scratch (i - w) (get_or col i 0)

  kept-turn : p (get_or col i 0) ≡ true → Begun p before col' scratch' (i + 1) (w + 1)
  kept-turn t =
      let e : i + 1 - (w + 1) ≡ i - w = omega arith in
      record {
        within = omega arith;
        few = omega (arith, b.few);
        long = length-set col w _ ∙ b.long;
        passed = front_kept p before col i w 0 _ same h b.passed (omega (arith, b.few, b.long)) t;
        others = ap (λ n. take n scratch') e ∙ front-left (fails p) before scratch i (i - w) 0 _ same h b.others (ap not t);
        rest = rest_more col before w i _ b.few b.rest;
      }

  left-turn : p (get_or col i 0) ≡ false → Begun p before col' scratch' (i + 1) w
  left-turn t =
      let e : i + 1 - w ≡ i - w + 1 = omega (arith, b.few) in
      record {
        within = omega arith;
        few = omega (arith, b.few);
        long = length-set col w _ ∙ b.long;
        passed = front-left p before col i w 0 _ same h b.passed t;
        others = ap (λ n. take n scratch') e ∙ front_kept (fails p) before scratch i (i - w) 0 _ same h b.others (omega arith) (ap not t);
        rest = rest_more col before w i _ b.few b.rest;
      }

module _ (col₀ scratch₀ : List ℕ) (flags : List Bool) (start found : ℕ) (col scratch : List ℕ) (w i : ℕ) (s : Passed col₀ scratch₀ flags start found col scratch w i) where
  more : (v : ℕ) → v ≤ i + 1 → i < length col₀ → length col₀ ≤ length scratch
      → ((before : List ℕ) → Begun (flagged flags) before col scratch i w → i < length before → length before ≤ length scratch
      → Begun (flagged flags) before (set col w (get_or col i 0)) (set scratch (i - w) (get_or col i 0)) (i + 1) v)
      → Passed col₀ scratch₀ flags start found (set col w (get_or col i 0)) (set scratch (i - w) (get_or col i 0)) v (i + 1)
  more v few h room turn =
      record {
        few = few;
        rest = rest_more col col₀ w i _ s.few s.rest;
        going = λ before q. turn before (s.going before q) (omega (arith, q.long)) (omega (arith, q.long));
      }

  swept : i ≤ length col₀ → length col₀ ≤ i → SweepDone (flagged flags) col₀ scratch₀ start found col scratch w
  swept within h =
      record {
        within = omega (arith, s.few, within);
        done = λ before q. subst (λ n. Begun (flagged flags) before col scratch n w) (let e : i ≡ length before = omega (arith, q.long) in e) (s.going before q);
      }

flag-of : (flags a i : ℕ) (l : List ℕ) → Every (λ r. r < flags) (drop a l) → a ≤ i → i < length l → get_or l i 0 < flags
flag-of flags a i l q h k =
    let e : a + (i - a) ≡ i = omega arith in
    let n : i - a < length (drop a l) = omega (arith, length-drop a l) in
    subst (λ x. x < flags) (get_or-drop a l (i - a) 0 ∙ ap (λ j. get_or l j 0) e) (every-at _ (drop a l) 0 (i - a) q n)

pub loop-i-init : goal.loop-i-init
loop-i-init c = record { few = c.requires.few; rest = refl; going = λ before b. b }

pub bounds-flags-e : goal.bounds-flags-e
bounds-flags-e c =
    let col = c.args.col.now in
    let e = head-same c.loop-i.col col c.loop-i.i 0 c.loop-i.invariant.rest in
    omega (arith, e, flag-of (length c.args.flags.now) c.args.start c.loop-i.i col c.requires.below (omega arith) (omega arith))

pub loop-i-preserved : goal.loop-i-preserved
loop-i-preserved c =
    let s = c.loop-i.invariant in
    let h : c.loop-i.i < length c.args.col.now = omega arith in
    let room : length c.args.col.now ≤ length c.loop-i.scratch = omega (arith, c.requires.room) in
    elim c.if-t.branch [
      | then-t u ↦ rw u.w-is (more _ _ _ _ _ _ _ _ _ s _ (omega (arith, s.few)) h room (λ before b k l. kept-turn _ before _ _ _ _ b k l u.if-t.true))
      | else-t u ↦ rw u.w-is (more _ _ _ _ _ _ _ _ _ s _ (omega (arith, s.few)) h room (λ before b k l. left-turn _ before _ _ _ _ b k l u.if-t.false))
    ]

pub returns : goal.returns
returns c =
    swept _ _ _ _ _ _ _ _ _ c.loop-i.invariant (omega arith) (omega arith)
