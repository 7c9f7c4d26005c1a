use Rattle.pc_witness.proofs.Allocations.{allocation-possible}
use Rattle.pc_witness.proofs.laws.allocations_are_possible.Goals as goal

pub returns : goal.returns
returns c = λ schema constraints chosen classes gain floors caps picks counts each allocated.
    allocation-possible schema constraints chosen classes picks each gain floors caps counts allocated
