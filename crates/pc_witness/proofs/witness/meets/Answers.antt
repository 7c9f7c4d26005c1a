-- Both tests pass exactly where the runs stand for a possible list.
use Rattle.std.proofs.Common.{◌≡◌, ◌&&◌, Bool, true, false}
use Rattle.pc_witness.proofs.Checks.{decides}
use Rattle.pc_witness.proofs.witness.meets.Goals as goal

both : (first second s r : Bool) → s ≡ first → s ≡ true → r ≡ second → r ≡ (first && second)
both true second s r is passed rest = rest
both false second s r is passed rest = cc

first_fails : (first second s : Bool) → s ≡ first → s ≡ false → s ≡ (first && second)
first_fails true second s is failed = cc
first_fails false second s is failed = is

pub returns-then-are_allowed : goal.returns-then-are_allowed
returns-then-are_allowed c =
    decides c.args.schema.now c.args.constraints.now c.args.runs.now c.are_met.result
    (both _ _ c.are_allowed.result c.are_met.result c.are_allowed.ensures c.if-are_allowed.true c.are_met.ensures)

pub returns-else-are_allowed : goal.returns-else-are_allowed
returns-else-are_allowed c =
    decides c.args.schema.now c.args.constraints.now c.args.runs.now c.are_allowed.result
    (first_fails _ _ c.are_allowed.result c.are_allowed.ensures c.if-are_allowed.false)
