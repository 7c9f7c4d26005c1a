-- What the calls that answer a query owe to whoever asks.
use Rattle.std.specs.Prelude.{ℕ, List, All, IfOk, Result}
use Rattle.pc_model.specs.declared.schema.Schema.{Schema}
use Rattle.pc_model.specs.declared.constraint.Constraint.{Constraint}
use Rattle.pc_model.specs.declared.query.Query.{Query}
use Rattle.pc_model.specs.declared.query.Folded.{Folded}
use Rattle.pc_num.specs.declared.memory.Memory.{Memory}
use Rattle.pc_cells.specs.declared.cells.Cells.{Cells}
use Rattle.pc_proof.specs.declared.answer.Answer.{Answer}
use Rattle.pc_branch_licences.specs.Pools.{AreLawful}
use Rattle.pc_agg_search.specs.declared.problem.Problem.{Problem}
use Rattle.pc_agg_search.specs.Asked.{Asking, setting_for}
use Rattle.pc_agg_search.specs.Posing.{AskingOf, answered_setting}
use Rattle.pc_agg_search.specs.Settings.{unseen}
use Rattle.pc_agg.specs.declared.settling.Settled.{Settled}
use Rattle.pc_agg.specs.Owed.{Owes, OwesSettled}
use Rattle.pc_agg.specs.ShownRows.{RelationShown, LackShown, HasShownRows}

-- to each question that the call is an answer to
abbrev pub OwesCall : Schema → Folded → List Constraint → Cells → Query → ℕ → Result Answer Memory → Type 0
OwesCall schema seen constraints cells query budget result =
    IfOk result (λ answer. (asking : Asking schema constraints query seen) → Owes (setting_for schema constraints query seen cells.tree.nodes asking) budget answer)

abbrev pub OwesSettling : Schema → Folded → List Constraint → Cells → Query → ℕ → Settled → Type 0
OwesSettling schema seen constraints cells query budget settled =
    (asking : Asking schema constraints query seen) →
    OwesSettled (setting_for schema constraints query seen cells.tree.nodes asking) budget settled.relation settled.lack settled.found

-- the rows of the runs of an answer, and of what is settled
abbrev pub ShowsRows : Schema → List Constraint → Cells → Query → Answer → Type 0
ShowsRows schema constraints cells query answer = HasShownRows (unseen schema constraints query cells.tree.nodes) answer

abbrev pub SettlesRows : Schema → List Constraint → Cells → Query → Settled → Type 0
SettlesRows schema constraints cells query settled =
    RelationShown (unseen schema constraints query cells.tree.nodes) settled.relation
    × LackShown (unseen schema constraints query cells.tree.nodes) settled.lack

-- what was found is counts of some lost rows
abbrev pub AreFound : Schema → List Constraint → Cells → Query → List (List ℕ) → Type 0
AreFound schema constraints cells query found = All (AreLawful (unseen schema constraints query cells.tree.nodes)) found

abbrev pub OwesProblem : Problem → Folded → Answer → Type 0
OwesProblem p seen answer = (asking : AskingOf p seen) → Owes (answered_setting p seen asking) p.nodes answer
