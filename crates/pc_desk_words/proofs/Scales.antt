-- The factor that a text spells.
use Rattle.std.proofs.Common.{◌≡◌, ℤ, pos, ◌&&◌, Bool, true, false, List, ℕ, Result, Ok, Err, Some, None, IfSome, int_le, unsigned_abs, refl, arith}
use Rattle.std.proofs.lemmas.Int.{ints}
use Rattle.std.specs.Prelude.{option_and_then, if◌then◌else◌}
use Rattle.std.specs.Result.{result_ok}
use Rattle.pc_num.specs.Scaled.{scaled_of}
use Rattle.pc_num.specs.declared.scaled.NumFault.{NumFault}
use Rattle.pc_desk_words.specs.Words.{scale_of, scale_within, IsScale}

within_is : (number : ℤ) → IfSome (scale_within number) IsScale
within_is number = by (int_le (pos 1) number && int_le number (pos 1_000_000_000_000)) refl
  where
    by : (b : Bool) → (int_le (pos 1) number && int_le number (pos 1_000_000_000_000)) ≡ b → IfSome (if b then Some (unsigned_abs number) else None) IsScale
    by false b = tt
    by true b = record { some = grind (arith, ints, b); few = grind (arith, ints, b) }

read_is : (read : Result ℤ NumFault) → IfSome (option_and_then scale_within (result_ok read)) IsScale
read_is (Ok number) = within_is number
read_is (Err fault) = tt

-- what a text spells is a factor
pub is_scale : (text : List ℕ) → IfSome (scale_of text) IsScale
unfolding scale_of
is_scale text = read_is (scaled_of 6 text)
