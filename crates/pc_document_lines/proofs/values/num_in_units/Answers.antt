use Rattle.std.proofs.Common.{◌≡◌, ◌*ℤ◌, ◌^◌, pos, FitsSigned, rules, ap₂, ◌∙◌}
use Rattle.std.specs.Int.{w128}
use Rattle.std.proofs.lemmas.Int.{to_z-of_z, fits_signed_from_abs}
use Rattle.pc_num.proofs.Signed.{as_passed, passed}
use Rattle.pc_document_lines.proofs.ValuesRead.{units_fit}
use Rattle.pc_document_lines.proofs.values.num_in_units.Goals as goal
use Rattle.pc_document_lines.proofs.values.num_in_units.Goals.{After-power_of_ten}

product : (c : After-power_of_ten) → as_passed c.args.num *ℤ as_passed c.power_of_ten.result ≡ c.args.num *ℤ pos (10 ^ c.args.scale)
product c =
    let power_fits : FitsSigned w128 c.power_of_ten.result = search rules in
    ap₂ (λ a b. a *ℤ b) (to_z-of_z w128 c.args.num c.ranges.num) (to_z-of_z w128 c.power_of_ten.result power_fits ∙ c.power_of_ten.ensures)

pub overflow_mul-result : goal.overflow_mul-result
overflow_mul-result c = rw (product c) (fits_signed_from_abs w128 _ (units_fit c.args.num c.args.scale c.requires.small c.requires.few))

pub returns : goal.returns
returns c = rw (product c) (passed _ (units_fit c.args.num c.args.scale c.requires.small c.requires.few))
