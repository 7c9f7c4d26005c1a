use Rattle.pc_simplex_short.proofs.Sizes.{negated_small}
use Rattle.pc_simplex_short.specs.Kept.{IsWithin}
use Rattle.std.proofs.Common.{All, sym, subst}
use Rattle.pc_simplex_short.proofs.row.negate_if.Goals as goal

pub returns-then-test-clause-small : goal.returns-then-test-clause-small
returns-then-test-clause-small c = subst (All (IsWithin 50)) (sym c.negate.ensures) (negated_small c.args.numbers.now c.requires)
