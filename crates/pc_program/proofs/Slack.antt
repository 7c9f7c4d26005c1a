-- What is reached under a multiplier: by a full cell, by an empty one, and by any count where nothing is left of the gain.
use Rattle.std.proofs.Common.{◌≡◌, ℕ, ◌+◌, ◌-◌, ◌<◌, ◌≤◌, ◌⊎◌, inl, inr, Bool, true, false, refl, ap, arith, cond}
use Rattle.std.specs.Prelude.{ℤ, pos, ◌-ℤ◌, ◌*ℤ◌, ◌≤ℤ◌, ◌<ℤ◌, int_lt}
use Rattle.std.specs.Int.{int_max}
use Rattle.std.proofs.lemmas.Int.{ints, clamps, to_z-of_z}
use Rattle.pc_program_bound.proofs.Ring.{mul_mono, mul_anti}
use Rattle.pc_program.specs.Sharing.{IsReached, IsSharedOut}
use Rattle.pc_program.specs.declared.sharing.Supply.{Supply}
use Rattle.pc_program.specs.declared.sharing.Shared.{Shared}

pub reached-full : (gain by : ℤ) (cap : ℕ) → by ≤ℤ gain → IsReached gain cap cap by
reached-full gain by cap rises =
    let more : ((gain -ℤ by) *ℤ pos 0) ≤ℤ ((gain -ℤ by) *ℤ pos cap) = mul_mono (gain -ℤ by) (pos 0) (pos cap) (omega (arith, ints)) (omega (arith, ints)) in
    greater ((gain -ℤ by) *ℤ pos 0) ((gain -ℤ by) *ℤ pos cap) more
  where
    greater : (x y : ℤ) → x ≤ℤ y → y ≡ int_max x y
    greater x y below = omega (arith, ints, clamps)

pub reached-none : (gain by : ℤ) (cap : ℕ) → gain ≤ℤ by → IsReached gain cap 0 by
reached-none gain by cap falls =
    let less : ((gain -ℤ by) *ℤ pos cap) ≤ℤ ((gain -ℤ by) *ℤ pos 0) = mul_anti (gain -ℤ by) (pos 0) (pos cap) (omega (arith, ints)) (omega (arith, ints)) in
    greater ((gain -ℤ by) *ℤ pos 0) ((gain -ℤ by) *ℤ pos cap) less
  where
    greater : (x y : ℤ) → y ≤ℤ x → x ≡ int_max x y
    greater x y below = omega (arith, ints, clamps)

pub reached-free : (gain : ℤ) (cap count : ℕ) → IsReached gain cap count gain
reached-free gain cap count = rw (none gain) (nothing count cap)
  where
    none : (x : ℤ) → x -ℤ x ≡ pos 0
    none x = omega (arith, ints)

    nothing : (m n : ℕ) → pos 0 *ℤ pos m ≡ int_max (pos 0 *ℤ pos 0) (pos 0 *ℤ pos n)
    nothing m n = omega (arith, ints, clamps)

-- the total at the end that the multiplier's sign asks for
pub total-wanted : (by : ℤ) (least most total : ℕ) → total ≡ cond (int_lt (pos 0) by) most least → by *ℤ pos total ≡ by *ℤ pos (cond (int_lt (pos 0) by) most least)
total-wanted by least most total e = ap (λ n. by *ℤ pos n) e

pub wanted-sign : (by : ℤ) (least most end : ℕ) → end ≡ cond (int_lt (pos 0) by) most least → ((pos 0 <ℤ by) × (end ≡ most)) ⊎ ((by ≤ℤ pos 0) × (end ≡ least))
wanted-sign by least most end e = by_test (int_lt (pos 0) by) refl e
  where
    by_test : (test : Bool) → int_lt (pos 0) by ≡ test → end ≡ cond test most least → ((pos 0 <ℤ by) × (end ≡ most)) ⊎ ((by ≤ℤ pos 0) × (end ≡ least))
    by_test true is same = inl (omega (arith, ints), same)
    by_test false is same = inr (omega (arith, ints), same)

wanted-within : (by : ℤ) (least most end : ℕ) → least ≤ most → end ≡ cond (int_lt (pos 0) by) most least → (least ≤ end) × (end ≤ most)
wanted-within by least most end ordered e = let sign = wanted-sign by least most end e in (omega (arith, sign), omega (arith, sign))

-- a multiplier of 0 takes nothing
pub total-none : (least most total : ℕ) → pos 0 *ℤ pos total ≡ pos 0 *ℤ pos (cond (int_lt (pos 0) (pos 0)) most least)
total-none least most total = omega (arith, ints)

pub IsSharedOut-by_first : (least most end : ℕ) (a b : Supply) → least ≤ most → b.gain ≤ℤ a.gain → end ≡ cond (int_lt (pos 0) a.gain) most least → end ≤ a.cap
    → IsSharedOut least most a b (record { first = end; second = 0; by = a.gain })
IsSharedOut-by_first least most end a b ordered falls is inside =
    let within = wanted-within a.gain least most end ordered is in
    record {
      first_inside = inside;
      second_inside = omega arith;
      enough = omega (arith, within);
      not_more = omega (arith, within);
      first_reached = reached-free a.gain a.cap end;
      second_reached = reached-none b.gain a.gain b.cap falls;
      total_reached = total-wanted a.gain least most (end + 0) (omega arith);
      by_is = inr (inl refl);
    }

pub IsSharedOut-by_second : (least most end : ℕ) (a b : Supply) → least ≤ most → b.gain ≤ℤ a.gain → end ≡ cond (int_lt (pos 0) b.gain) most least → a.cap ≤ end
    → end - a.cap ≤ b.cap → IsSharedOut least most a b (record { first = a.cap; second = end - a.cap; by = b.gain })
IsSharedOut-by_second least most end a b ordered falls is full inside =
    let within = wanted-within b.gain least most end ordered is in
    record {
      first_inside = omega arith;
      second_inside = inside;
      enough = omega (arith, within);
      not_more = omega (arith, within);
      first_reached = reached-full a.gain b.gain a.cap falls;
      second_reached = reached-free b.gain b.cap (end - a.cap);
      total_reached = total-wanted b.gain least most (a.cap + (end - a.cap)) (omega arith);
      by_is = inr (inr refl);
    }

-- the first cell full and the second one empty
pub IsSharedOut-one : (least most end first : ℕ) (a b : Supply) → first ≡ cond (int_lt (pos 0) a.gain) most least → end ≡ cond (int_lt (pos 0) b.gain) most least → least ≤ most
    → b.gain ≤ℤ a.gain → a.cap < first → end < a.cap → IsSharedOut least most a b (record { first = a.cap; second = 0; by = pos 0 })
IsSharedOut-one least most end first a b first_is end_is ordered falls more less =
    let of_first = wanted-sign a.gain least most first first_is in
    let of_end = wanted-sign b.gain least most end end_is in
    record {
      first_inside = omega arith;
      second_inside = omega arith;
      enough = omega (arith, of_end);
      not_more = omega (arith, of_first);
      first_reached = reached-full a.gain (pos 0) a.cap (omega (arith, ints, of_first, of_end));
      second_reached = reached-none b.gain (pos 0) b.cap (omega (arith, ints, of_first, of_end));
      total_reached = total-none least most (a.cap + 0);
      by_is = inl refl;
    }

-- both full
pub IsSharedOut-full : (least most end : ℕ) (a b : Supply) → end ≡ cond (int_lt (pos 0) b.gain) most least → least ≤ a.cap + b.cap
    → b.gain ≤ℤ a.gain → b.cap < end - a.cap → IsSharedOut least most a b (record { first = a.cap; second = b.cap; by = pos 0 })
IsSharedOut-full least most end a b end_is enough falls more =
    let of_end = wanted-sign b.gain least most end end_is in
    record {
      first_inside = omega arith;
      second_inside = omega arith;
      enough = enough;
      not_more = omega (arith, of_end);
      first_reached = reached-full a.gain (pos 0) a.cap (omega (arith, ints, of_end));
      second_reached = reached-full b.gain (pos 0) b.cap (omega (arith, ints, of_end));
      total_reached = total-none least most (a.cap + b.cap);
      by_is = inl refl;
    }

-- the cells in the other order
pub IsSharedOut-turned : (least most : ℕ) (a b : Supply) (s : Shared) (by : ℤ) → by ≡ s.by → IsSharedOut least most b a s
    → IsSharedOut least most a b (record { first = s.second; second = s.first; by = by })
IsSharedOut-turned least most a b s by e shared = rw e (record {
  first_inside = shared.second_inside;
  second_inside = shared.first_inside;
  enough = omega (arith, shared.enough);
  not_more = omega (arith, shared.not_more);
  first_reached = shared.second_reached;
  second_reached = shared.first_reached;
  total_reached = in_turn (s.second + s.first) (omega arith);
  by_is = swap shared.by_is;
})
  where
    in_turn : (total : ℕ) → total ≡ s.first + s.second → s.by *ℤ pos total ≡ s.by *ℤ pos (cond (int_lt (pos 0) s.by) most least)
    in_turn total e = rw e shared.total_reached

    swap : (s.by ≡ pos 0) ⊎ ((s.by ≡ b.gain) ⊎ (s.by ≡ a.gain)) → (s.by ≡ pos 0) ⊎ ((s.by ≡ a.gain) ⊎ (s.by ≡ b.gain))
    swap (inl e) = inl e
    swap (inr (inl e)) = inr (inr e)
    swap (inr (inr e)) = inr (inl e)

pub ruleset turned = (IsSharedOut-turned, to_z-of_z)

pub ruleset shares = (IsSharedOut-by_first, IsSharedOut-by_second, IsSharedOut-one, IsSharedOut-full)
