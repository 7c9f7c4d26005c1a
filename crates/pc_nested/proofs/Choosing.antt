-- One cell, and one cut of its ends undone.
use Rattle.std.proofs.Common.{◌≡◌, ℕ, ◌∙◌, arith}
use Rattle.std.specs.Prelude.{ℤ, ◌<ℤ◌}
use Rattle.std.specs.Int.{int_max, int_min}
use Rattle.std.proofs.lemmas.Int.{ints, clamps, by_lt_z}
use Rattle.pc_nested.specs.Filled.{IsChosen}

-- what is chosen below a lowered end is chosen below the end before, at a price that bars what was barred
pub chosen_below : (gain : ℤ) (low high : ℕ) (b x : ℤ) (lowered count : ℕ) → IsChosen gain low high b lowered → IsChosen gain low lowered x count
    → IsChosen gain low high (int_max b x) count
chosen_below gain low high b x lowered count cut chosen = record {
  above = chosen.above;
  below = let few = chosen.below in let most = cut.below in omega (arith, few, most);
  full = λ less. chosen.full (omega (arith, ints, clamps, less)) ∙ cut.full (omega (arith, ints, clamps, less));
  empty = λ more. by_lt_z gain x (λ h. chosen.empty h) (λ h. squeezed (cut.empty (omega (arith, ints, clamps, more, h))));
}
  where
    squeezed : lowered ≡ low → count ≡ low
    squeezed e = let few = chosen.above in let most = chosen.below in omega (arith, e, few, most)

-- below that price it is the lowered end
pub barred_all : (gain : ℤ) (low high : ℕ) (b x : ℤ) (lowered count : ℕ) → IsChosen gain low high b lowered → IsChosen gain low lowered x count → x <ℤ b
    → count ≡ lowered
barred_all gain low high b x lowered count cut chosen less =
    by_lt_z x gain (λ h. chosen.full h) (λ h. squeezed (cut.empty (omega (arith, ints, less, h))))
  where
    squeezed : lowered ≡ low → count ≡ lowered
    squeezed e = let few = chosen.above in let most = chosen.below in omega (arith, e, few, most)

-- the same of a raised end
pub chosen_above : (gain : ℤ) (low high : ℕ) (a x : ℤ) (raised count : ℕ) → IsChosen gain low high a raised → IsChosen gain raised high x count
    → IsChosen gain low high (int_min a x) count
chosen_above gain low high a x raised count cut chosen = record {
  above = let few = chosen.above in let least = cut.above in omega (arith, few, least);
  below = chosen.below;
  full = λ less. by_lt_z x gain (λ h. chosen.full h) (λ h. squeezed (cut.full (omega (arith, ints, clamps, less, h))));
  empty = λ more. chosen.empty (omega (arith, ints, clamps, more)) ∙ cut.empty (omega (arith, ints, clamps, more));
}
  where
    squeezed : raised ≡ high → count ≡ high
    squeezed e = let few = chosen.above in let most = chosen.below in omega (arith, e, few, most)

pub forced_all : (gain : ℤ) (low high : ℕ) (a x : ℤ) (raised count : ℕ) → IsChosen gain low high a raised → IsChosen gain raised high x count → a <ℤ x
    → count ≡ raised
forced_all gain low high a x raised count cut chosen more =
    by_lt_z gain x (λ h. chosen.empty h) (λ h. squeezed (cut.full (omega (arith, ints, more, h))))
  where
    squeezed : raised ≡ high → count ≡ raised
    squeezed e = let few = chosen.above in let most = chosen.below in omega (arith, e, few, most)
