-- Places past the bits of a set of names.
use Rattle.std.proofs.Common.{◌≡◌, ℕ, ◌<◌, ◌≤◌, ◌^◌, false, ℤ, pos, negsuc, ◌≤ℤ◌, refl, arith}
use Rattle.std.proofs.lemmas.Int.{ints}
use Rattle.std.proofs.lemmas.Nat.Bits.{bit_at_above}
use Rattle.pc_model.specs.Places.{is_place_of}

pub past_the_bits : (bits : ℕ) (number : ℤ) → bits < 2 ^ 128 → pos 128 ≤ℤ number → is_place_of bits number ≡ false
past_the_bits bits (pos place) small past = let far : 128 ≤ place = omega (arith, ints) in rw (bit_at_above bits 128 place small far) refl
past_the_bits bits (negsuc below) small past = refl
