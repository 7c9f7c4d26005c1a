-- What a question that is asked has in common with the query's own cells.
use Rattle.std.proofs.Common.{◌≡◌, ℕ, pos, ◌+ℤ◌, true, cond, List, map, Option, Some, IfSome, refl, sym, ap, subst, ◌∙◌, true≢false}
use Rattle.pc_model.specs.declared.schema.Schema.{Schema}
use Rattle.pc_model.specs.declared.row.Row.{Row}
use Rattle.pc_model.specs.declared.area.Area.{Area}
use Rattle.pc_model.specs.declared.constraint.Constraint.{Constraint}
use Rattle.pc_model.specs.declared.tree.CutNode.{CutNode}
use Rattle.pc_model.specs.declared.query.Agg.{Agg}
use Rattle.pc_model.specs.declared.query.Agg.TheVariants.{Count, Sum, Min, Max, Avg}
use Rattle.pc_model.specs.declared.query.Query.{Query}
use Rattle.pc_model.specs.declared.query.Folded.{Folded}
use Rattle.pc_model.specs.Membership.{is_in}
use Rattle.pc_model.specs.WellFormed.{IsWellFormed}
use Rattle.pc_model.specs.Aggregate.{whole, asked, int_sum}
use Rattle.pc_model.specs.Right.{value_for, always_has_value}
use Rattle.pc_model.specs.Cells.{IsSettledTree}
use Rattle.pc_proof.proofs.RowSums.{int_sum-same}
use Rattle.pc_proof.specs.Setting.{Setting, area_of, seen_count, seen_sum}
use Rattle.pc_proof.specs.Unbroken.{IsWellPosed}
use Rattle.pc_proof.proofs.Ends.{sum_asks_numbers}
use Rattle.pc_proof.proofs.Groups.{keeps_area}
use Rattle.pc_proof.proofs.Seen.{keeps, value-count, value-sum}
use Rattle.pc_branch_licences.specs.Totals.{seen_value}
use Rattle.pc_agg_search.specs.Asked.{Asking, asked_as, setting_for}
use Rattle.pc_agg_search.specs.Ends.{adds}
use Rattle.pc_agg.specs.Observed.{folded_value}

some_sum : (column : Option ℕ) (named : ℕ) (P : Type 0) → column ≡ Some named → IfSome column (λ _. P) → P
some_sum column named P is known = (rw is at known)

module _ (schema : Schema) (constraints : List Constraint) (query : Query) (seen : Folded) (nodes : List CutNode) (formed : IsWellFormed schema) (asking : Asking schema constraints query seen) where
  abbrev s : Setting
  s = setting_for schema constraints query seen nodes asking

  pub tree_for : IsSettledTree schema constraints query.chosen nodes → IsSettledTree schema constraints (area_of s.question) nodes
  tree_for tree = subst (λ (area : Area). IsSettledTree schema constraints area nodes) (sym asking.area) tree

  pub posed : IsWellPosed s.question
  posed = record { formed = formed; query = asking.well }

  keeps_chosen : (row : Row) → keeps s.question row ≡ is_in query.chosen row
  keeps_chosen row = keeps_area s.question posed row ∙ ap (λ (area : Area). is_in area row) asking.area

  -- the aggregate
  pub value_is : (agg : Agg) (lost : List Row) → query.agg ≡ agg → always_has_value agg ≡ true →
      value_for s.question lost ≡ Some (whole (seen_value agg s +ℤ int_sum (map (adds agg query) lost)))
  value_is Count lost is always =
      value-count s.question lost is
      ∙ ap (λ n. Some (whole (seen_count s.question +ℤ n)))
      (int_sum-same (λ row. cond (keeps s.question row) (pos 1) (pos 0)) (adds Count query) lost (λ row. ap (λ test. cond test (pos 1) (pos 0)) (keeps_chosen row)))
  value_is Sum lost is always =
      value-sum s.question lost is
      ∙ ap (λ n. Some (whole (seen_sum s.question +ℤ n)))
      (int_sum-same (λ row. cond (keeps s.question row) (asked query row) (pos 0)) (adds Sum query) lost (λ row. ap (λ test. cond test (asked query row) (pos 0)) (keeps_chosen row)))
  value_is Min lost is always = absurd (true≢false (sym always))
  value_is Max lost is always = absurd (true≢false (sym always))
  value_is Avg lost is always = absurd (true≢false (sym always))

  -- what the observed rows come to
  pub folded_is : (agg : Agg) → query.agg ≡ agg → folded_value agg seen ≡ seen_value agg s
  folded_is Count is = sym asking.comes_to.count
  folded_is Sum is =
      let asks = sum_asks_numbers schema (asked_as query asking.wide asking.group) asking.well is in
      sym (some_sum query.column asks.column (seen_sum s.question ≡ seen.sum) asks.column_is asking.comes_to.sum)
  folded_is Min is = refl
  folded_is Max is = refl
  folded_is Avg is = refl
