-- What the ends of both sides make of a settled answer.
use Rattle.std.proofs.Common.{◌≡◌, ℕ, true, List, Option, Some, None, sym, subst}
use Rattle.std.specs.Prelude.{IfSome}
use Rattle.pc_model.specs.declared.schema.Schema.{Schema}
use Rattle.pc_model.specs.declared.constraint.Constraint.{Constraint}
use Rattle.pc_model.specs.declared.tree.CutNode.{CutNode}
use Rattle.pc_model.specs.declared.query.Agg.TheVariants.{Avg}
use Rattle.pc_model.specs.declared.query.Query.{Query}
use Rattle.pc_model.specs.declared.query.Folded.{Folded}
use Rattle.pc_model.specs.Accepted.{AreConstraints}
use Rattle.pc_agg_search.specs.Easy.{IsEasy}
use Rattle.pc_model.specs.WellFormed.{IsWellFormed}
use Rattle.pc_model.specs.Cells.{IsSettledTree}
use Rattle.pc_proof.specs.declared.answer.Answer.{Answer}
use Rattle.pc_proof.specs.declared.answer.End.{End}
use Rattle.pc_proof.specs.declared.answer.Relation.{Relation}
use Rattle.pc_proof.specs.declared.answer.Lack.{Lack}
use Rattle.pc_proof.specs.Setting.{Setting}
use Rattle.pc_agg_search.specs.declared.extreme.Extreme.TheVariants.{Low, High}
use Rattle.pc_agg_search.specs.Asked.{Asking, setting_for}
use Rattle.pc_agg_search.specs.Settings.{unseen}
use Rattle.pc_agg.specs.Owed.{Owes, OwesSettled, answer_of}
use Rattle.pc_avg.specs.Averages.{has_ends, both, IsShortEnd}
use Rattle.pc_avg.specs.Ends.{IsEndIfAny, IsEndSurely}
use Rattle.pc_avg.proofs.OwesAverages.{owes_average, no_outermost}
use Rattle.pc_avg.proofs.SideShort.{short_end}

module _ (schema : Schema) (constraints : List Constraint) (query : Query) (seen : Folded) (nodes : List CutNode) (formed : IsWellFormed schema) (limited : AreConstraints schema constraints)
    (tree : IsSettledTree schema constraints query.chosen nodes) (budget : ℕ) (asking : Asking schema constraints query seen) (agg_is : query.agg ≡ Avg) (relation : Relation) (lack : Lack) (found : List (List ℕ))
    (settled : OwesSettled (setting_for schema constraints query seen nodes asking) budget relation lack found) (has : has_ends relation lack ≡ true) where
  abbrev u : Setting
  u = unseen schema constraints query nodes

  abbrev s : Setting
  s = setting_for schema constraints query seen nodes asking

  abbrev with_any : Option (End × End) → Answer
  with_any ends = record { relation = relation; lack = lack; ends = ends }

  by_both : (low high : Option End) → IsEndIfAny u seen budget Low found low → IsEndIfAny u seen budget High found high →
      (IsEasy schema constraints → IsEndSurely u seen Low found low) → (IsEasy schema constraints → IsEndSurely u seen High found high) → Owes s budget (with_any (both low high))
  by_both None high low_is high_is low_sure high_sure =
      absurd (no_outermost schema constraints query seen nodes formed limited tree budget asking agg_is relation lack found settled has Low low_is)
  by_both (Some low) None low_is high_is low_sure high_sure =
      absurd (no_outermost schema constraints query seen nodes formed limited tree budget asking agg_is relation lack found settled has High high_is)
  by_both (Some low) (Some high) low_is high_is low_sure high_sure =
      owes_average schema constraints query seen nodes formed limited tree budget asking agg_is relation lack found settled has low high low_is high_is (λ nested. (low_sure nested, high_sure nested))

  -- the answer with both ends in it
  pub owes_both_ends : (answer : Answer) (low high : Option End) (ends : Option (End × End)) → answer ≡ answer_of relation lack → ends ≡ both low high → IsEndIfAny u seen budget Low found low →
      IsEndIfAny u seen budget High found high → (IsEasy schema constraints → IsEndSurely u seen Low found low) → (IsEasy schema constraints → IsEndSurely u seen High found high) →
      Owes s budget (record { relation = answer.relation; lack = answer.lack; ends = ends })
  owes_both_ends answer low high ends answer_is ends_are low_is high_is low_sure high_sure =
      subst (λ (a : Answer). Owes s budget (record { relation = a.relation; lack = a.lack; ends = ends })) (sym answer_is)
      (subst (λ (e : Option (End × End)). Owes s budget (with_any e)) (sym ends_are) (by_both low high low_is high_is low_sure high_sure))

pub short_ends : (u : Setting) (seen : Folded) (budget : ℕ) (found : List (List ℕ)) (low high : Option End) (ends : Option (End × End)) → ends ≡ both low high → IsEndIfAny u seen budget Low found low →
    IsEndIfAny u seen budget High found high → IfSome ends (λ e. IsShortEnd e.0 × IsShortEnd e.1)
short_ends u seen budget found low high ends ends_are low_is high_is = subst (λ (e : Option (End × End)). IfSome e (λ x. IsShortEnd x.0 × IsShortEnd x.1)) (sym ends_are) (by_both low high low_is high_is)
  where
    by_both : (a b : Option End) → IsEndIfAny u seen budget Low found a → IsEndIfAny u seen budget High found b → IfSome (both a b) (λ x. IsShortEnd x.0 × IsShortEnd x.1)
    by_both None b first second = tt
    by_both (Some a) None first second = tt
    by_both (Some a) (Some b) first second = (short_end u seen budget Low found a first, short_end u seen budget High found b second)
