use Rattle.std.proofs.Common.{IsSomeAnd, None, map, sym, ap, subst, ◌∙◌}
use Rattle.std.proofs.lemmas.Result.{IfOk-weaker}
use Rattle.pc_model.specs.declared.query.Query.{Query}
use Rattle.pc_model.specs.Accepted.{IsColumnWhere, IsNumeric}
use Rattle.pc_model.specs.Aggregate.{asked as asked_of, kept}
use Rattle.pc_model.specs.Cells.{IsSettledTree}
use Rattle.pc_quantile.proofs.Bounding.{small_numbers}
use Rattle.pc_quantile.proofs.bounds.bound_quantile.Goals as goal

pub bound-requires : goal.bound-requires
bound-requires c =
    let found = c.in_ok-cells.ensures.found in
    let numbers = c.as_slice.ensures ∙ c.in_ok-seen.ensures.numbers in
    record {
      measured = record {
        posed = record {
          formed = c.requires.well_formed;
          limited = c.requires.constraints;
          found = record { tree = found.settled; listed = found.cells; filled = found.filled; numbers = found.numbers };
          nodes = c.requires.nodes;
        };
        query = c.in_ok-query.ensures;
        numbers = subst (λ (query : Query). IsSomeAnd query.column (IsColumnWhere IsNumeric c.args.schema.now)) (sym c.in_ok-query.ensures) c.requires.asked.numeric;
        chosen = c.requires.asked.chosen;
        some = c.requires.asked.some;
        most = c.requires.asked.most;
        few = c.requires.asked.few;
        few_seen = rw c.as_slice.ensures c.in_ok-seen.ensures.few;
        small_seen = rw numbers (small_numbers c.args.schema.now c.in_ok-query.query c.args.rows.now c.requires.well_formed c.requires.observed);
      };
    }

pub returns : goal.returns
returns c = record {
  owes =
      IfOk-weaker c.bound.result _ _
      (λ answer owed. record {
        nodes = c.in_ok-cells.cells.tree.nodes;
        tree = subst (λ (query : Query). IsSettledTree c.args.schema.now c.args.constraints.now query.chosen c.in_ok-cells.cells.tree.nodes) c.in_ok-query.ensures c.in_ok-cells.ensures.found.settled;
        owed = owed c.args.rows.now (ap (λ (query : Query). map (asked_of query) (kept query None c.args.rows.now)) (sym c.in_ok-query.ensures) ∙ sym c.in_ok-seen.ensures.numbers ∙ sym c.as_slice.ensures);
      })
      c.bound.ensures.owed;
}
