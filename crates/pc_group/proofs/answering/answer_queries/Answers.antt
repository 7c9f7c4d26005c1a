use Rattle.std.proofs.Common.{List, ap, sym, subst, arith}
use Rattle.pc_model.specs.Accepted.{IsQuery}
use Rattle.pc_group.specs.declared.blocks.Written.{Written}
use Rattle.pc_group.specs.Answers.{AnswersWanted}
use Rattle.pc_group.specs.Wanted.{Wanted}
use Rattle.pc_group.specs.Written.{AreBlocksOf}
use Rattle.pc_group.proofs.Areas.{divided_of, none_wanted, wanted_more, wanted_whole}
use Rattle.pc_group.proofs.Telling.{no_blocks}
use Rattle.pc_group.proofs.answering.answer_queries.Goals as goal

pub loop-query-init : goal.loop-query-init
loop-query-init c =
    let answers = AnswersWanted c.args.nodes c.args.schema.now c.args.rows.now c.args.constraints.now in
    let start = c.nothing-written.result in
    let none = no_blocks answers c.args.shared.now.nodes start (ap (λ (w : Written). w.blocks) c.nothing-written.ensures) (ap (λ (w : Written). w.last) c.nothing-written.ensures) in
    subst (λ (blocks : List Wanted). AreBlocksOf answers c.args.shared.now.nodes blocks start) (none_wanted c.args.schema.now) none

pub answer_query-requires-clause-asked : goal.answer_query-requires-clause-asked
answer_query-requires-clause-asked c = subst (IsQuery c.args.schema.now) (sym c.query-item.is) (c.requires.asked c.loop-query.query-index c.query-item.result c.loop-query-test.true)

pub answer_query-requires-clause-divided : goal.answer_query-requires-clause-divided
answer_query-requires-clause-divided c = divided_of c.args.schema.now c.args.constraints.now c.args.shared.now.nodes c.args.queries.now c.loop-query.query-index c.query-item.result c.loop-query-test.true c.query-item.is c.requires.divided

pub loop-query-preserved : goal.loop-query-preserved
loop-query-preserved c =
    let answers = AnswersWanted c.args.nodes c.args.schema.now c.args.rows.now c.args.constraints.now in
    subst (λ (blocks : List Wanted). AreBlocksOf answers c.args.shared.now.nodes blocks c.in_ok-written.written) (sym (wanted_more c.args.schema.now c.args.queries.now c.loop-query.query-index c.query-item.result c.loop-query-test.true c.query-item.is))
    (c.in_ok-written.ensures _ c.loop-query.invariant)

pub returns : goal.returns
returns c =
    let answers = AnswersWanted c.args.nodes c.args.schema.now c.args.rows.now c.args.constraints.now in
    subst (λ (blocks : List Wanted). AreBlocksOf answers c.args.shared.now.nodes blocks c.loop-query.written) (wanted_whole c.args.schema.now c.args.queries.now c.loop-query.query-index (omega (arith, c.loop-query-test.false))) c.loop-query.invariant
