use Rattle.std.proofs.Common.{take}
use Rattle.pc_group.specs.Answers.{AnswersWanted}
use Rattle.pc_group.specs.Wanted.{wanted}
use Rattle.pc_group.specs.Written.{AreBlocksOf}
use Rattle.pc_group.proofs.answering.answer_queries.Given as goal

abbrev pub invariant-loop-query : goal.invariant-loop-query
invariant-loop-query l = AreBlocksOf (AnswersWanted l.nodes l.schema l.rows l.constraints) l.shared.nodes (wanted l.schema (take l.query-index l.queries)) l.written
