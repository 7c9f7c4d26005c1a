-- The text of a small number is read as that number.
use Rattle.std.proofs.Common.{◌≡◌, ℕ, ℤ, Ok, refl}
use Rattle.pc_num.specs.Put.{scaled_text}
use Rattle.pc_num.proofs.ReadBack.{reads_back}
use Rattle.pc_model.specs.Numbers.{number_of}
use Rattle.pc_model.specs.WellFormed.{IsSmall}

pub number_again : (scale : ℕ) (number : ℤ) → IsSmall number → number_of scale (scaled_text number scale) ≡ Ok number
number_again scale number small = rw (reads_back number scale small) refl
