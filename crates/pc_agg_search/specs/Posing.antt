-- What stands right under the calls that answer a query: a problem, and what the observed rows come to.
use Rattle.std.specs.Prelude.{◌≡◌, ◌≤◌, ◌^◌, nat_abs, None}
use Rattle.pc_model.specs.declared.query.Folded.{Folded}
use Rattle.pc_model.specs.Accepted.{IsQuery}
use Rattle.pc_proof.specs.Setting.{Setting}
use Rattle.pc_agg_search.specs.declared.problem.Problem.{Problem}
use Rattle.pc_agg_search.specs.Asked.{Asking, setting_for}
use Rattle.pc_agg_search.specs.Problem.{IsPosed}

pub record IsAsked (p : Problem) (seen : Folded) : Type 0 where
  pub posed : IsPosed p
  pub well : IsQuery p.schema.now p.query.now
  pub ungrouped : p.query.now.group ≡ None
  pub few_seen : seen.count ≤ 1_000_000
  pub small_seen : nat_abs seen.sum ≤ 2 ^ 83

-- a question that the answer is to, and what the answer is judged by there
abbrev pub AskingOf : Problem → Folded → Type 0
AskingOf p seen = Asking p.schema.now p.constraints.now p.query.now seen

abbrev pub answered_setting : (p : Problem) (seen : Folded) → AskingOf p seen → Setting
answered_setting p seen asking = setting_for p.schema.now p.constraints.now p.query.now seen p.cells.now.tree.nodes asking
