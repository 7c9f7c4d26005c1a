use Rattle.std.proofs.Common.{rules, ◌≡◌, of_z, to_z, w64}
use Rattle.std.specs.Int.{int_max, int_min}
use Rattle.pc_desk_schema.proofs.Wider.{wider_span}
use Rattle.pc_desk_schema.proofs.numbers.wider.Goals as goal

pub returns-clause-is_span : goal.returns-clause-is_span
returns-clause-is_span c =
    let low : to_z w64 (of_z w64 c.min.result) ≡ int_min c.args.ends.low c.args.number = search rules in
    let high : to_z w64 (of_z w64 c.max.result) ≡ int_max c.args.ends.high c.args.number = search rules in
    rw (low, high) (wider_span c.args.ends c.args.number c.requires.span c.requires.small)
