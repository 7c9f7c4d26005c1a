use Rattle.std.proofs.Common.{◌≡◌, ◌*ℤ◌, ◌^◌, pos, FitsSigned, rules, ap₂, ◌∙◌}
use Rattle.std.specs.Int.{w128}
use Rattle.std.proofs.lemmas.Int.{to_z-of_z, fits_signed_from_abs}
use Rattle.pc_num.proofs.Signed.{as_passed, passed}
use Rattle.pc_report.proofs.Units.{den_is_small}
use Rattle.pc_report.proofs.value.den_in_column.Goals as goal
use Rattle.pc_report.proofs.value.den_in_column.Goals.{After-power_of_ten}

product : (c : After-power_of_ten) → as_passed c.args.den *ℤ as_passed c.power_of_ten.result ≡ c.args.den *ℤ pos (10 ^ c.args.scale)
product c =
    let power_fits : FitsSigned w128 c.power_of_ten.result = search rules in
    ap₂ (λ a b. a *ℤ b) (to_z-of_z w128 c.args.den c.ranges.den) (to_z-of_z w128 c.power_of_ten.result power_fits ∙ c.power_of_ten.ensures)

pub overflow_mul-result : goal.overflow_mul-result
overflow_mul-result c =
    rw (product c) (fits_signed_from_abs w128 _ (den_is_small c.args.den c.args.scale c.requires.above c.requires.small c.requires.few).1)

pub returns : goal.returns
returns c =
    rw (product c) (passed _ (den_is_small c.args.den c.args.scale c.requires.above c.requires.small c.requires.few).1)
