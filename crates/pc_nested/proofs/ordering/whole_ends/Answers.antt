use Rattle.std.proofs.Common.{subst, sym}
use Rattle.pc_nested.specs.Narrowed.{places_of}
use Rattle.pc_nested.specs.Sized.{ArePast}
use Rattle.pc_nested.proofs.Sizes.{ArePast-none}
use Rattle.pc_nested.proofs.ordering.whole_ends.Goals as goal

pub returns-clause-past : goal.returns-clause-past
returns-clause-past c = subst (λ steps. ArePast c.args.p.now (places_of steps) 0 0) (sym c.new.ensures) (ArePast-none c.args.p.now)
