use Rattle.std.proofs.Common.{ℕ, ◌<◌, ◌≤◌, ◌^◌, length, subst, arith}
use Rattle.std.specs.Prelude.{nat_abs}
use Rattle.pc_program_bound.specs.Sums.{int_at}
use Rattle.pc_program_bound.specs.Allocation.{cells_of}
use Rattle.pc_nested.proofs.Shared.{IsNested-from}
use Rattle.pc_nested.proofs.conditions.is_nested.Goals as goal

pub returns : goal.returns
returns c =
    let few : cells_of c.args.p.now ≤ 40 = omega (arith, c.if-len-gt40.false, c.len.ensures) in
    let small = subst (λ gains. (i : ℕ) → i < length gains → nat_abs (int_at gains i) < 2 ^ 87) c.as_slice.ensures (c.are_small.ensures.0 c.if-not-are_small.false) in
    (λ e. IsNested-from c.args.p.now c.requires.program few small (c.are_nested_pairs.ensures.0 e), λ nested. c.are_nested_pairs.ensures.1 nested.pairs)
