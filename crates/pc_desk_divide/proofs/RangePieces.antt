-- The ranges that numbers are cut into.
use Rattle.std.proofs.Common.{◌≡◌, ◌∙◌, ℕ, zero, suc, ◌+◌, ◌*◌, ◌/◌, ◌<◌, ◌≤◌, int_lt, Bool, true, false, ℤ, pos, ◌+ℤ◌, ◌-ℤ◌, ◌≤ℤ◌, ◌<ℤ◌, All, refl, sym, ap, subst, arith}
use Rattle.std.specs.Prelude.{AllPairs}
use Rattle.std.specs.List.{list_any}
use Rattle.std.proofs.lemmas.Bool.{and_from}
use Rattle.std.proofs.lemmas.Int.{ints}
use Rattle.std.proofs.lemmas.List.Folds.{list_any_at}
use Rattle.std.proofs.lemmas.List.FromFn.{get_or-map-range_with_len, length-map-range_with_len}
use Rattle.std.proofs.lemmas.Nat.{le-div, mul-le}
use Rattle.std.proofs.Math.Nat.{div-mul-le_self, mul-div_cancel_left, zero-div, zero-mul}
use Rattle.pc_model.specs.declared.region.Side.{Side}
use Rattle.pc_model.specs.Membership.{holds}
use Rattle.pc_model.specs.Regions.{is_span_in}
use Rattle.pc_model.proofs.Between.{between_from, between_parts, test_from_le}
use Rattle.pc_desk_divide.specs.Pieces.{range_at, range_start, ranges_with}
use Rattle.pc_desk_divide.proofs.CutLists.{ShareNoNumber}
use Rattle.pc_desk_divide.proofs.EqualRanges.{grow}
use Rattle.pc_desk_divide.proofs.Starts.{steps_within}

starts_rise : (i j w c : ℕ) → 0 < c → i ≤ j → i * w / c ≤ j * w / c
starts_rise i j w c some before =
    let here : i * w / c * c ≤ i * w = div-mul-le_self (i * w) c in
    let more : i * w ≤ j * w = mul-le i w j w before (omega arith) in
    le-div (i * w / c) (j * w) c some (omega (arith, here, more))

module _ (low high : ℤ) (w c : ℕ) (some : 0 < c) (few : c ≤ w) (ends : low +ℤ pos w ≡ high +ℤ pos 1) where
  range_is : (least greatest : ℤ) (k : ℕ) → least ≤ℤ low → high ≤ℤ greatest → k < c → is_span_in least greatest (range_at low w c k) ≡ true
  range_is least greatest k above below there =
      let share : 1 ≤ w / c = le-div 1 w c some (omega (arith, few)) in
      let step = (grow k w c some).0 in
      let most = steps_within (k + 1) w c some (omega (arith, there)) in
      and_from _ _ (test_from_le least (range_start low w c k) (omega (arith, ints, above)))
      (and_from _ _ (test_from_le (range_start low w c k) (range_start low w c (k + 1) -ℤ pos 1) (omega (arith, ints, share, step)))
      (test_from_le (range_start low w c (k + 1) -ℤ pos 1) greatest (omega (arith, ints, most, ends, below))))

  ranges_apart_at : (i j : ℕ) → i < j → ShareNoNumber (range_at low w c i) (range_at low w c j)
  unfolding holds
  ranges_apart_at i j before n first second =
      let rise = starts_rise (i + 1) j w c some (omega (arith, before)) in
      let p = between_parts (range_start low w c i) (range_start low w c (i + 1) -ℤ pos 1) n first in
      let q = between_parts (range_start low w c j) (range_start low w c (j + 1) -ℤ pos 1) n second in
      absurd (omega (arith, ints, rise, p.1, q.0))

  pub ranges_are : (least greatest : ℤ) → least ≤ℤ low → high ≤ℤ greatest → All (λ (piece : Side). is_span_in least greatest piece ≡ true) (ranges_with low w c)
  ranges_are least greatest above below = λ i d there.
      let count = length-map-range_with_len (range_at low w c) 0 c in
      rw (get_or-map-range_with_len (range_at low w c) 0 c i i d (omega (arith, there, count)) (omega arith)) (range_is least greatest i above below (omega (arith, there, count)))

  pub ranges_apart : AllPairs ShareNoNumber (ranges_with low w c)
  ranges_apart = λ i j d before inside.
      let count = length-map-range_with_len (range_at low w c) 0 c in
      rw (get_or-map-range_with_len (range_at low w c) 0 c i i d (omega (arith, before, inside, count)) (omega arith), get_or-map-range_with_len (range_at low w c) 0 c j j d (omega (arith, inside, count)) (omega arith))
      (ranges_apart_at i j before)

  -- a number from low on that lies before a start is in a range before it
  range_of : (n : ℤ) → low ≤ℤ n → (m : ℕ) → m ≤ c → n <ℤ range_start low w c m → (k : ℕ) × (k < m) × (holds (range_at low w c k) n ≡ true)
  unfolding holds
  range_of n above zero there below = absurd (omega (arith, ints, above, below, nothing))
    where
      nothing : 0 * w / c ≡ 0
      nothing = ap (λ n. n / c) (zero-mul w) ∙ zero-div c
  range_of n above (suc m) there below = by_test (int_lt n (range_start low w c m)) refl (range_of n above m (omega (arith, there)))
    where
      by_test : (test : Bool) → int_lt n (range_start low w c m) ≡ test → (n <ℤ range_start low w c m → (k : ℕ) × (k < m) × (holds (range_at low w c k) n ≡ true)) → (k : ℕ) × (k < suc m) × (holds (range_at low w c k) n ≡ true)
      by_test true e before = let found = before (grind (arith, ints, e)) in (found.0, omega (arith, found.1), found.2)
      by_test false e before =
          let from : range_start low w c m ≤ℤ n = grind (arith, ints, e) in
          let next : m + 1 ≡ suc m = omega arith in
          let under : n <ℤ range_start low w c (m + 1) = subst (λ k. n <ℤ range_start low w c k) (sym next) below in
          (m, omega arith, between_from (range_start low w c m) (range_start low w c (m + 1) -ℤ pos 1) n from (omega (arith, ints, under)))

  pub ranges_cover : (n : ℤ) → low ≤ℤ n → n ≤ℤ high → list_any (λ (piece : Side). holds piece n) (ranges_with low w c) ≡ true
  ranges_cover n above below =
      let whole : c * w / c ≡ w = mul-div_cancel_left w some in
      let found = range_of n above c (omega arith) (omega (arith, ints, below, ends, whole)) in
      let count = length-map-range_with_len (range_at low w c) 0 c in
      list_any_at (λ (piece : Side). holds piece n) (ranges_with low w c) found.0 (range_at low w c 0) (omega (arith, found.1, count))
      (rw (get_or-map-range_with_len (range_at low w c) 0 c found.0 found.0 (range_at low w c 0) found.1 (omega arith)) found.2)
