use Rattle.std.proofs.Common.{ap, subst}
use Rattle.pc_agg_search.specs.Limits.{IsLimit, IsReached}
use Rattle.pc_agg_search.specs.Problem.{gained_program, setting_of}
use Rattle.pc_agg_search.proofs.Empty.{void_tree}
use Rattle.pc_agg.proofs.aim.aim_at.Goals as goal

pub returns-in-Within-clause-aimed : goal.returns-in-Within-clause-aimed
returns-in-Within-clause-aimed c =
    let is = ap (gained_program c.args.problem.now) c.in_ok-targets.ensures.gains in
    record {
      limit = subst (λ p. IsLimit p c.args.problem.now.nodes c.in-Within.limit) is (rw c.in-Within.is at c.in_ok-limit.ensures.sought);
      picked = c.in_ok-targets.ensures.picks;
    }

pub returns-in-Within-clause-nested : goal.returns-in-Within-clause-nested
returns-in-Within-clause-nested c =
    let is = ap (gained_program c.args.problem.now) c.in_ok-targets.ensures.gains in
    λ easy. subst (λ p. IsReached p c.in-Within.limit.most c.in-Within.limit.found) is (rw c.in-Within.is at (c.in_ok-limit.ensures.nested easy))

pub returns-in-Nothing-clause-aimed : goal.returns-in-Nothing-clause-aimed
returns-in-Nothing-clause-aimed c =
    void_tree (setting_of c.args.problem.now) c.in_ok-targets.targets.gains c.args.problem.now.nodes c.in-Nothing.tree (rw c.in-Nothing.is at c.in_ok-limit.ensures.sought)
