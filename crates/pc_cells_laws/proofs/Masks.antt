-- The mask of a row: its bits, its size, and that its bits determine it.
use Rattle.std.proofs.Common.{◌≡◌, ℕ, zero, suc, ◌+◌, ◌*◌, ◌/◌, ◌%◌, ◌^◌, ◌<◌, ◌==◌, ◌||◌, cond, Bool, true, false, List, [], ◌∷◌, length, get_or, refl, sym, ap, ◌∙◌, true≢false, arith, pow-suc}
use Rattle.std.specs.List.{list_any}
use Rattle.std.proofs.lemmas.Nat.Bits.{bit_at-suc, bit_at_lowest}
use Rattle.pc_model.specs.declared.row.Row.{Row}
use Rattle.pc_model.specs.declared.constraint.Constraint.{Constraint}
use Rattle.pc_model.specs.Membership.{is_under}
use Rattle.pc_model.specs.Places.{has_bit}
use Rattle.pc_model.specs.Possible.{is_covered}
use Rattle.pc_model.specs.Cells.{bits_by, mask_of}

-- ---- the bits of a number, and of its half

lowest_bit : (n : ℕ) → has_bit n 0 ≡ (n % 2 == 1)
lowest_bit n = ap (λ x. x == 1) (bit_at_lowest n)

pub later_bit : (n place : ℕ) → has_bit n (suc place) ≡ has_bit (n / 2) place
later_bit n place = ap (λ x. x == 1) (bit_at-suc n place)

half_joined : (bit : Bool) (n : ℕ) → (cond bit 1 0 + 2 * n) / 2 ≡ n
half_joined true n = omega arith
half_joined false n = omega arith

odd_joined : (bit : Bool) (n : ℕ) → ((cond bit 1 0 + 2 * n) % 2 == 1) ≡ bit
odd_joined true n = let odd : (1 + 2 * n) % 2 ≡ 1 = omega arith in rw odd refl
odd_joined false n = let even : (0 + 2 * n) % 2 ≡ 0 = omega arith in rw even refl

odd_is : (n : ℕ) (bit : Bool) → (n % 2 == 1) ≡ bit → cond bit 1 0 ≡ n % 2
odd_is n bit e = by_rest (n % 2) (omega arith) e
  where
    by_rest : (rest : ℕ) → rest < 2 → (rest == 1) ≡ bit → cond bit 1 0 ≡ rest
    by_rest zero small f = rw (sym f) refl
    by_rest (suc zero) small f = rw (sym f) refl
    by_rest (suc (suc rest)) small f = absurd (omega arith)

-- ---- the constraints that pass a test

pub bit_small : (bit : Bool) → cond bit 1 0 < 2
bit_small true = omega arith
bit_small false = omega arith

module _ (test : Constraint → Bool) where
  pub bits_by-bit : (cs : List Constraint) (place : ℕ) (d : Constraint) → place < length cs → has_bit (bits_by test cs) place ≡ test (get_or cs place d)
  bits_by-bit [] place d within = absurd (omega arith)
  bits_by-bit (c ∷ cs) zero d within = lowest_bit (bits_by test (c ∷ cs)) ∙ odd_joined (test c) (bits_by test cs)
  bits_by-bit (c ∷ cs) (suc place) d within =
      later_bit (bits_by test (c ∷ cs)) place ∙ ap (λ n. has_bit n place) (half_joined (test c) (bits_by test cs)) ∙ bits_by-bit cs place d (omega arith)

  pub bits_by-small : (cs : List Constraint) → bits_by test cs < 2 ^ length cs
  bits_by-small [] = omega arith
  bits_by-small (c ∷ cs) = omega (arith, pow-suc 2 (length cs), bits_by-small cs, bit_small (test c))

  -- a number of that size with these bits is the one
  pub bits_by-is : (cs : List Constraint) (mask : ℕ) → mask < 2 ^ length cs →
      ((place : ℕ) (d : Constraint) → place < length cs → has_bit mask place ≡ test (get_or cs place d)) → bits_by test cs ≡ mask
  bits_by-is [] mask small bits = omega arith
  bits_by-is (c ∷ cs) mask small bits =
      let later = bits_by-is cs (mask / 2) (omega (arith, pow-suc 2 (length cs))) (λ place d within. sym (later_bit mask place) ∙ bits (suc place) d (omega arith)) in
      omega (arith, later, odd_is mask (test c) (sym (lowest_bit mask) ∙ bits 0 c (omega arith)))

  -- some constraint passes if and only if there is a bit
  pub bits_by-some : (cs : List Constraint) → list_any test cs ≡ true → 0 < bits_by test cs
  bits_by-some [] passed = absurd (true≢false (sym passed))
  bits_by-some (c ∷ cs) passed = by_first (test c) passed (bits_by-some cs)
    where
      by_first : (bit : Bool) → (bit || list_any test cs) ≡ true → (list_any test cs ≡ true → 0 < bits_by test cs) → 0 < cond bit 1 0 + 2 * bits_by test cs
      by_first true h later = omega arith
      by_first false h later = omega (arith, later h)

  pub passed-from_bits : (cs : List Constraint) → 0 < bits_by test cs → list_any test cs ≡ true
  passed-from_bits [] some = absurd (omega arith)
  passed-from_bits (c ∷ cs) some = by_first (test c) some (passed-from_bits cs)
    where
      by_first : (bit : Bool) → 0 < cond bit 1 0 + 2 * bits_by test cs → (0 < bits_by test cs → list_any test cs ≡ true) → (bit || list_any test cs) ≡ true
      by_first true h later = refl
      by_first false h later = later (omega arith)

-- ---- the mask of a row

module _ (cs : List Constraint) (row : Row) where
  abbrev speaks : Constraint → Bool
  speaks c = is_under cs c row

  pub mask_of-bit : (place : ℕ) (d : Constraint) → place < length cs → has_bit (mask_of cs row) place ≡ is_under cs (get_or cs place d) row
  mask_of-bit place d within = bits_by-bit speaks cs place d within

  pub mask_of-small : mask_of cs row < 2 ^ length cs
  mask_of-small = bits_by-small speaks cs

  -- a number of that size with these bits is the mask
  pub mask_of-is : (mask : ℕ) → mask < 2 ^ length cs →
      ((place : ℕ) (d : Constraint) → place < length cs → has_bit mask place ≡ is_under cs (get_or cs place d) row) → mask_of cs row ≡ mask
  mask_of-is mask small bits = bits_by-is speaks cs mask small bits

  -- a constraint speaks of the row if and only if its mask is not empty
  pub mask_of-some : is_covered cs row ≡ true → 0 < mask_of cs row
  mask_of-some covered = bits_by-some speaks cs covered

  pub covered-from_mask : 0 < mask_of cs row → is_covered cs row ≡ true
  covered-from_mask some = passed-from_bits speaks cs some
