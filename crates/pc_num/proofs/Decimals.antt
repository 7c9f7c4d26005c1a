-- The decimals that are written so far, and those that are left.
use Rattle.std.proofs.Common.{◌≡◌, ◌≤◌, ◌<◌, ℕ, zero, suc, ◌+◌, ◌-◌, ◌/◌, ◌%◌, ◌^◌, List, [], ◌∷◌, ◌++◌, arith, append_assoc}
use Rattle.std.proofs.lemmas.List.{append-nil}
use Rattle.std.proofs.Math.Nat.{one-le-pow}
use Rattle.pc_num.specs.Put.{decimals_of}

pub power_positive : (k : ℕ) → 0 < 10 ^ k
power_positive k = one-le-pow k 10 (omega arith)

pub decimals_pushed : (items : List ℕ) (left n : ℕ) → 0 < left → (items ++ ((48 + n / 10 ^ (left - 1) % 10) ∷ [])) ++ decimals_of (left - 1) n ≡ items ++ decimals_of left n
unfolding decimals_of
decimals_pushed items zero n h = absurd (omega arith)
decimals_pushed items (suc left) n h =
    let one_less : suc left - 1 ≡ left = omega arith in
    rw one_less (append_assoc items ((48 + n / 10 ^ left % 10) ∷ []) (decimals_of left n))

pub decimals_done : (items : List ℕ) (left n : ℕ) → left ≤ 0 → items ++ decimals_of left n ≡ items
unfolding decimals_of
decimals_done items zero n h = append-nil items
decimals_done items (suc left) n h = absurd (omega arith)

pub ruleset decimals_steps = (decimals_pushed, decimals_done)
