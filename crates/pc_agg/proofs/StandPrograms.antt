-- The programs of a stand are those that the statement of its end and its licence name.
use Rattle.std.proofs.Common.{◌≡◌, ℤ, sym}
use Rattle.pc_model.specs.Aggregate.{whole}
use Rattle.pc_program_bound.specs.declared.program.Program.{Program}
use Rattle.pc_proof.specs.Setting.{Setting, counting, program_for, program_without}
use Rattle.pc_branch_licences.specs.Licensed.{upto_low, from_high, under_high, over_low}
use Rattle.pc_agg_search.specs.declared.extreme.Extreme.{Extreme}
use Rattle.pc_agg_search.specs.declared.extreme.Extreme.TheVariants.{Low, High}
use Rattle.pc_agg_search.specs.Ends.{signed}
use Rattle.pc_agg.specs.Extremes.{agg_of, test_at}
use Rattle.pc_agg.specs.Rungs.{rung_program}
use Rattle.pc_agg.specs.Stands.{shown_by}
use Rattle.pc_agg.proofs.Ending.{program_at}
use Rattle.pc_agg.proofs.Neighbours.{low_min_is, high_max_is, high_min_is, low_max_is, upto_low_is, from_high_is, under_high_is, over_low_is}

-- the program of the licence of an end at a number
abbrev pub left_program : Setting → Extreme → Extreme → ℤ → Program
left_program s Low Low n = program_for s (counting (upto_low s n))
left_program s Low High n = program_without s (under_high s n)
left_program s High High n = program_for s (counting (from_high s n))
left_program s High Low n = program_without s (over_low s n)

pub shown_is : (s : Setting) (far extreme : Extreme) (key : ℤ) → shown_by s extreme (test_at far extreme) key ≡ program_at extreme s (agg_of far) (whole (signed extreme key))
shown_is s Low Low key = sym (low_min_is s key)
shown_is s Low High key = sym (high_min_is s key)
shown_is s High High key = sym (high_max_is s key)
shown_is s High Low key = sym (low_max_is s key)

pub left_is : (s : Setting) (far extreme : Extreme) (key : ℤ) → rung_program s extreme (test_at far extreme) key ≡ left_program s far extreme (signed extreme key)
left_is s Low Low key = sym (upto_low_is s key)
left_is s Low High key = sym (under_high_is s key)
left_is s High High key = sym (from_high_is s key)
left_is s High Low key = sym (over_low_is s key)
