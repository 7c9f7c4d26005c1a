use Rattle.pc_branch.proofs.solving.solve.Goals as goal

pub returns-then-has_one_bits-clause-outcome : goal.returns-then-has_one_bits-clause-outcome
returns-then-has_one_bits-clause-outcome c = c.in_one_leaf.ensures.outcome c.args.p.now c.in_ok-greedy.ensures.solved

pub returns-then-is_nested-clause-outcome : goal.returns-then-is_nested-clause-outcome
returns-then-is_nested-clause-outcome c = c.in_one_leaf-then-is_nested.ensures.outcome c.args.p.now c.in_ok-solve_nested.ensures.solved
