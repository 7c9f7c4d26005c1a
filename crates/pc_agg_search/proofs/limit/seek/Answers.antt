use Rattle.std.proofs.Common.{subst}
use Rattle.pc_branch.proofs.Widths.{HasFitWidth-small}
use Rattle.pc_agg_search.specs.Limits.{IsSought, IsClosed}
use Rattle.pc_agg_search.proofs.limit.seek.Goals as goal

pub solve-requires-clause-width : goal.solve-requires-clause-width
solve-requires-clause-width c = HasFitWidth-small c.in_ok-program.program c.in_ok-program.ensures.is_program c.in_ok-program.ensures.small

pub returns-clause-sought : goal.returns-clause-sought
returns-clause-sought c = subst (λ p. IsSought p c.args.problem.now.nodes c.sought_of.result) c.in_ok-program.ensures.program c.sought_of.ensures.sought

pub returns-clause-nested : goal.returns-clause-nested
returns-clause-nested c =
    λ nested.
    subst (λ p. IsClosed p c.sought_of.result) c.in_ok-program.ensures.program (c.sought_of.ensures.decided (c.in_ok-outcome.ensures.nested (c.in_ok-program.ensures.nested nested)))
