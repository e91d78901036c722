-- What passed tests say to the predictions of one tree, and how their call answers by its tests. Assumes nothing.
use Rattle.std.proofs.Common.{arith, eqb-true, ap, ◌∙◌, subst, sym}
use Rattle.std.specs.Prelude.{ℕ, ◌*◌, ◌≤◌, ◌≡◌, refl, List, length, eqb, Float, Ok, Err}
use Rattle.rules.specs.declared.Shape.{Shape}
use Rattle.rules.specs.Lent.{Columns, outcome_of, shortest, entries_at}
use Rattle.rules.specs.Checks.{first_failed, replies, shape_in, values_long}
use Rattle.rules.specs.Table.{good_tree, tree_in}
use Rattle.rules.specs.Reading.{predict_tests, predict_tree}
use Rattle.lemmas.specs.Lists.{is_true}
use Rattle.lemmas.specs.Passed.{past}
use Rattle.lemmas.specs.Tests.{rows-low, reads-done, reads-refused}
use Rattle.tables.specs.Laws.{told-none, told-number, told-some}
use Rattle.walks.specs.Walks.{features-some}
use Rattle.predict.specs.Front.{Predictable, foretold}

module _ (S : Shape) (xs : List Float) (c : Columns) (out : List Float) where
  pub predict-passed : Ok tt ≡ replies (first_failed (predict_tests S xs c out)) → Predictable S.features xs c out × (length out ≡ S.rows)
  unfolding predict_tests tree_in
  predict-passed e =
      let h = told-none _ e in
      let (a, h₁) = past 0 (shape_in S) _ h in
      let (b, h₂) = past 1 (values_long S xs) _ h₁ in
      let (r, h₃) = past 5 (eqb (length out) S.rows) _ h₂ in
      let (g, h₄) = past 7 (good_tree S.features (entries_at c 0 (shortest c))) _ h₃ in
      let rows = eqb-true _ _ (is_true _ r) in (
        record {
          tree = record { inside = omega arith; good = is_true _ g };
          some = features-some S (is_true _ a);
          few = subst (λ n. n ≤ 65535) (sym rows) (rows-low S (is_true _ a));
          long = subst (λ n. length xs ≡ n * S.features) (sym rows) (eqb-true _ _ (is_true _ b));
          room = refl;
        },
        rows,
      )

  pub predict-refused : {n : ℕ} → Err n ≡ replies (first_failed (predict_tests S xs c out)) → outcome_of (Err n) out ≡ predict_tree S xs c out
  unfolding predict_tree
  predict-refused e = let n = told-number _ e in subst (λ m. outcome_of (Err m) out ≡ predict_tree S xs c out) n (reads-refused _ _ out refl (told-some _ e))

  pub predict-done : Ok tt ≡ replies (first_failed (predict_tests S xs c out)) → (new : List Float) → new ≡ foretold S.features xs c (length out)
      → outcome_of (Ok tt) new ≡ predict_tree S xs c out
  unfolding predict_tree
  predict-done e new h = reads-done out refl (told-none _ e) (h ∙ ap (foretold S.features xs c) (predict-passed e).1)
