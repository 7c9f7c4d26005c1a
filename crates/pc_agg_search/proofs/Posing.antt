-- What the calls that answer a query are asked, as a problem.
use Rattle.pc_model.specs.declared.query.Folded.{Folded}
use Rattle.pc_agg_search.specs.declared.problem.Problem.{Problem}
use Rattle.pc_agg_search.specs.Asked.{AreAsked}
use Rattle.pc_agg_search.specs.Posing.{IsAsked}

pub asked : (p : Problem) (seen : Folded) → AreAsked p.schema.now seen p.constraints.now p.cells.now p.query.now p.nodes → IsAsked p seen
asked p seen are = record {
  posed = record { formed = are.formed; limited = are.limited; found = are.found; nodes = (are.some_nodes, are.few_nodes) };
  well = are.well;
  ungrouped = are.ungrouped;
  few_seen = are.few_seen;
  small_seen = are.small_seen;
}
