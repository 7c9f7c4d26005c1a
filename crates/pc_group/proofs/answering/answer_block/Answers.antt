use Rattle.std.proofs.Common.{◌≡◌, sym, subst}
use Rattle.std.proofs.lemmas.Result.{IfOk-weaker}
use Rattle.pc_model.specs.declared.query.Agg.TheVariants.{Avg}
use Rattle.pc_model.specs.declared.query.Query.{Query}
use Rattle.pc_model.specs.Boxes.{IsAreaOf}
use Rattle.pc_agg_search.specs.Asked.{Asking, setting_for}
use Rattle.pc_agg.specs.Owed.{Owes}
use Rattle.pc_avg.specs.Averages.{HasShortEnds}
use Rattle.pc_group.specs.Answers.{AnswersWanted}
use Rattle.pc_group.proofs.Narrowed.{query_for_is}
use Rattle.pc_group.proofs.Owing.{answers_wanted, are_asked}
use Rattle.pc_group.proofs.Telling.{block_more}
use Rattle.pc_group.proofs.answering.answer_block.Goals as goal

pub cells-requires-clause-asked : goal.cells-requires-clause-asked
cells-requires-clause-asked c = record {
  well_formed = c.requires.scope.formed;
  few = c.requires.scope.limited.few;
  servable = c.requires.scope.limited.servable;
  area =
      subst (λ (q : Query). IsAreaOf c.args.scope.now.schema.now q.chosen) (sym c.in_ok-asked.ensures)
      (query_for_is c.args.scope.now.schema.now c.args.query.now c.args.name c.requires.allowed c.requires.asked).chosen;
}

pub answer_of-requires-clause-asked : goal.answer_of-requires-clause-asked
answer_of-requires-clause-asked c =
    let found = c.in_ok-cells.ensures.found in
    are_asked c.args.scope.now.schema.now c.args.seen.now c.args.scope.now.constraints.now c.in_ok-cells.cells c.args.query.now c.in_ok-asked.asked c.args.name c.args.scope.now.nodes c.in_ok-asked.ensures c.requires.scope.formed c.requires.scope.limited c.requires.asked c.requires.allowed
    (record { tree = found.settled; listed = found.cells; filled = found.filled; numbers = found.numbers }) c.requires.few_seen c.requires.small_seen c.requires.scope.budget

pub returns : goal.returns
returns c =
    let schema = c.args.scope.now.schema.now in
    let constraints = c.args.scope.now.constraints.now in
    let query = c.args.query.now in
    let seen = c.args.seen.now in
    let nodes = c.in_ok-cells.cells.tree.nodes in
    let answer = c.in_ok-answer.answer in
    let owes = subst (λ (q : Query). (asking : Asking schema constraints q seen) → Owes (setting_for schema constraints q seen nodes asking) c.args.scope.now.nodes answer) c.in_ok-asked.ensures c.in_ok-answer.ensures.owes in
    let short = subst (λ (q : Query). q.agg ≡ Avg → HasShortEnds answer) c.in_ok-asked.ensures c.in_ok-answer.ensures.short in
    IfOk-weaker c.with_block.result _ _
    (λ more has observed fold blocks each.
    block_more (AnswersWanted c.args.scope.now.nodes schema observed constraints) c.args.scope.now.shared.now.nodes blocks (record { query = query; name = c.args.name }) nodes answer c.args.written more has
    (answers_wanted c.args.scope.now.nodes schema observed constraints query c.args.name nodes answer c.requires.scope.formed c.requires.scope.limited c.requires.asked c.requires.named c.requires.allowed seen fold owes short c.args.written.last) c.in_ok-cells.ensures.same each)
    c.with_block.ensures
