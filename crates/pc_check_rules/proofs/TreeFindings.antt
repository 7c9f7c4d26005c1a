-- What is found of a proof is a verdict on its lines, and says whether it shows an end.
use Rattle.std.proofs.Common.{◌≡◌, ℕ, ◌+◌, ℤ, Bool, List, [], All, Option, None, Result, Ok, Err, refl, sym, subst}
use Rattle.std.proofs.lemmas.List.Elements.{All-nil}
use Rattle.std.specs.Prelude.{◌↔◌, IsTrue}
use Rattle.pc_num.specs.declared.Frac.{Frac}
use Rattle.pc_model.specs.declared.query.Agg.{Agg}
use Rattle.pc_model.specs.declared.query.Agg.TheVariants.{Count, Sum, Min, Max, Avg}
use Rattle.pc_model.specs.declared.tree.Tree.{Tree}
use Rattle.pc_model.specs.Aggregate.{Ratio}
use Rattle.pc_program_bound.specs.declared.program.Program.{Program}
use Rattle.pc_program_bound.specs.SplitTrees.{tree_of}
use Rattle.pc_proof.specs.declared.answer.Proof.TheVariants as proofs
use Rattle.pc_proof.specs.Setting.{Setting}
use Rattle.pc_proof.specs.Table.{ratio_of, bound_for}
use Rattle.pc_proof.specs.Demands.{Placed, Holds, tree_demands, Judges}
use Rattle.pc_check_rules.specs.declared.extreme.Extreme.{Extreme}
use Rattle.pc_check_rules.specs.declared.extreme.Extreme.TheVariants.{Low, High}
use Rattle.pc_check_rules.specs.declared.scene.Scene.{Scene}
use Rattle.pc_check_rules.specs.declared.halt.Halt.{Halt}
use Rattle.pc_check_rules.specs.Halts.{Finds}
use Rattle.pc_check_rules.specs.Walk.{IsTreeFinding}
use Rattle.pc_check_rules.specs.Scene.{HasMeasure, IsSceneOf}
use Rattle.pc_check_rules.specs.Programs.{table_program}
use Rattle.pc_check_rules.specs.Shown.{IsSmall, counted, EndAt, RatioAt, ValuesAt}
use Rattle.pc_check_rules.specs.Findings.{end_trees, IsShown, ShowsEnd, IsEndFinding, IsTreeShown, IsRatioShown, IsUnnamed, IsVerdict}
use Rattle.pc_check_rules.proofs.Verdicts.{proves-from_demands}
use Rattle.pc_check_rules.proofs.EndsShown.{end_tree}
use Rattle.pc_check_rules.proofs.RatiosShown.{by_values, by_ratio}

pub both_ways : {A B C : Type 0} → (A ↔ B) → (B ↔ C) → A ↔ C
both_ways first second = (λ a. second.0 (first.0 a), λ c. first.1 (second.1 c))

-- what is found of a tree of a program is a verdict on that of the rules
pub verdict_of : (s : Setting) (line : ℕ) (t : Tree) (p table : Program) (result : Result (Option ℤ) Halt) → p ≡ table → IsTreeFinding line p t.nodes result → IsVerdict s line table t result
verdict_of s line t p table result is found = proved result (subst (λ q. IsTreeFinding line q t.nodes result) is found s)
  where
    proved : (r : Result (Option ℤ) Halt) → Finds s (tree_demands line table t) (λ most. most ≡ bound_for table t) r → IsVerdict s line table t r
    proved (Ok most) bounded = (bounded.0, (proves-from_demands s line table table.floor table.cap (tree_of t.nodes) bounded.0, bounded.1))
    proved (Err halt) broken = broken

measured_in : (scene : Scene) (s : Setting) → IsSceneOf scene s → HasMeasure scene.agg s.question.query.column
measured_in scene s of_scene = subst (λ agg. HasMeasure agg s.question.query.column) of_scene.agg_is of_scene.measured

-- of a tree that is to show an end
pub end_of_tree : (scene : Scene) (s : Setting) → IsSceneOf scene s → (extreme : Extreme) (v : Ratio) (at : ℕ) (t : Tree) (most : Option ℤ) (shown : Bool)
    → IsVerdict s at (table_program extreme s scene.agg v) t (Ok most)
    → (IsTrue shown ↔ (IsSmall most × EndAt extreme scene.agg scene.seen v (counted most)))
    → IsTreeShown extreme s at scene.agg v t (Ok shown)
end_of_tree scene s of_scene extreme v at t most shown held decides =
    (held.0, both_ways decides (end_tree s scene.seen of_scene.comes_to v t most extreme scene.agg (measured_in scene s of_scene) held.1))

-- of a tree at a ratio
pub end_of_ratio : (scene : Scene) (s : Setting) → IsSceneOf scene s → scene.agg ≡ Avg → (extreme : Extreme) (v : Ratio) (ratio : Frac) (at : ℕ) (t : Tree) (most : Option ℤ) (shown : Bool)
    → IsVerdict s at (table_program extreme s Avg (ratio_of ratio)) t (Ok most)
    → (IsTrue shown ↔ (IsSmall most × RatioAt extreme scene.cells.now scene.seen v (ratio_of ratio) (counted most)))
    → IsRatioShown extreme s at v ratio t (Ok shown)
end_of_ratio scene s of_scene average extreme v ratio at t most shown held decides =
    let measured : HasMeasure Avg s.question.query.column = subst (λ agg. HasMeasure agg s.question.query.column) average (measured_in scene s of_scene) in
    (held.0, both_ways decides (by_ratio s scene.seen of_scene.comes_to scene.cells.now of_scene.cells_are v ratio t most measured extreme held.1))

-- ---- an end with any proof

module _ (s : Setting) (line : ℕ) (value : Frac) where
  values_lines : (extreme : Extreme) (agg : Agg) → end_trees extreme s line agg value proofs.Values ≡ []
  values_lines High Count = refl
  values_lines High Sum = refl
  values_lines High Min = refl
  values_lines High Max = refl
  values_lines High Avg = refl
  values_lines Low Count = refl
  values_lines Low Sum = refl
  values_lines Low Min = refl
  values_lines Low Max = refl
  values_lines Low Avg = refl

  lines_of_tree : (extreme : Extreme) (agg : Agg) (t : Tree) → end_trees extreme s line agg value (proofs.Tree t) ≡ tree_demands (line + 1) (table_program extreme s agg (ratio_of value)) t
  lines_of_tree High Count t = refl
  lines_of_tree High Sum t = refl
  lines_of_tree High Min t = refl
  lines_of_tree High Max t = refl
  lines_of_tree High Avg t = refl
  lines_of_tree Low Count t = refl
  lines_of_tree Low Sum t = refl
  lines_of_tree Low Min t = refl
  lines_of_tree Low Max t = refl
  lines_of_tree Low Avg t = refl

  none_broken : (lines : List Placed) → lines ≡ [] → Judges s lines None
  none_broken lines empty = subst (λ (each : List Placed). All (Holds s) each) (sym empty) (All-nil (Holds s))

  module _ (scene : Scene) (of_scene : IsSceneOf scene s) (extreme : Extreme) where
    pub end_of_values : (shown : Bool) → (IsTrue shown ↔ ValuesAt extreme scene.agg scene.cells.now scene.seen (ratio_of value)) → IsEndFinding extreme s line scene.agg value proofs.Values (Ok shown)
    end_of_values shown decides = (
      none_broken (end_trees extreme s line scene.agg value proofs.Values) (values_lines extreme scene.agg),
      both_ways decides (by_values s scene.seen of_scene.comes_to scene.cells.now of_scene.cells_are extreme scene.agg (ratio_of value) (measured_in scene s of_scene)),
    )

  pub end_by_tree : (extreme : Extreme) (agg : Agg) (t : Tree) (result : Result Bool Halt) → IsTreeShown extreme s (line + 1) agg (ratio_of value) t result
      → IsEndFinding extreme s line agg value (proofs.Tree t) result
  end_by_tree extreme agg t result shown =
      subst (λ (lines : List Placed). IsShown s lines (ShowsEnd extreme s agg (ratio_of value) (proofs.Tree t)) result) (sym (lines_of_tree extreme agg t)) shown

  pub end_by_ratio : (extreme : Extreme) (agg : Agg) (ratio : Frac) (t : Tree) (result : Result Bool Halt) → agg ≡ Avg → IsRatioShown extreme s (line + 1) (ratio_of value) ratio t result
      → IsEndFinding extreme s line agg value (proofs.At ratio t) result
  end_by_ratio extreme agg ratio t result average shown =
      subst (λ each. IsEndFinding extreme s line each value (proofs.At ratio t) result) (sym average) (by_extreme extreme shown)
    where
      by_extreme : (end : Extreme) → IsRatioShown end s (line + 1) (ratio_of value) ratio t result → IsEndFinding end s line Avg value (proofs.At ratio t) result
      by_extreme High h = h
      by_extreme Low h = h

  -- a tree at a ratio that the rules do not name
  pub end_unnamed : (extreme : Extreme) (agg : Agg) (ratio : Frac) (t : Tree) (result : Result Bool Halt) → (agg ≡ Avg → ⊥) → IsUnnamed s (line + 1) t result
      → IsEndFinding extreme s line agg value (proofs.At ratio t) result
  end_unnamed High Count ratio t result other found = found
  end_unnamed High Sum ratio t result other found = found
  end_unnamed High Min ratio t result other found = found
  end_unnamed High Max ratio t result other found = found
  end_unnamed Low Count ratio t result other found = found
  end_unnamed Low Sum ratio t result other found = found
  end_unnamed Low Min ratio t result other found = found
  end_unnamed Low Max ratio t result other found = found
  end_unnamed extreme Avg ratio t result other found = absurd (other refl)
