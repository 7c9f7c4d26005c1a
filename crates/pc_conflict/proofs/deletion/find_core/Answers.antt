use Rattle.std.proofs.Common.{◌≡◌, ◌+◌, ℕ, suc, subst, arith}
use Rattle.std.proofs.lemmas.Slice.Zip.{AllZip-long}
use Rattle.pc_conflict.specs.Deleting.{IsDeletion, IsFoundAt}
use Rattle.pc_conflict.specs.Testing.{IsStepped}
use Rattle.pc_conflict.proofs.Steps.{begins}
use Rattle.pc_conflict.proofs.deletion.find_core.Goals as goal

pub loop-place-init : goal.loop-place-init
loop-place-init c = begins c.args.schema.now c.args.constraints.now c.requires.contrary _ c.new.ensures c.new-2.ensures

pub loop-place-preserved : goal.loop-place-preserved
loop-place-preserved c =
    let place = c.loop-place.place in
    let next : suc place ≡ place + 1 = omega arith in
    subst (λ (n : ℕ). IsDeletion c.args.schema.now c.args.constraints.now n c.in-Next.next) next
    (subst (IsStepped c.args.schema.now c.args.constraints.now c.args.nodes (suc place)) c.in-Next.is c.in_ok-next.ensures.stepped)

pub core_of-requires-clause-even : goal.core_of-requires-clause-even
core_of-requires-clause-even c =
    AllZip-long (IsFoundAt c.args.schema.now c.args.constraints.now c.loop-place.deletion.members) c.loop-place.deletion.members c.loop-place.deletion.found c.loop-place.invariant.each
