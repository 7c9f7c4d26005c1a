-- States after some draws, and the numbers that they give.
use Rattle.std.proofs.Common.{◌≡◌, ◌∙◌, ℕ, zero, suc, ◌+◌, ◌<◌, ◌/◌, ◌^◌, refl, ap, arith}
use Rattle.std.proofs.lemmas.Nat.{mod_below}
use Rattle.pc_gen.specs.Draws.{next_state, after, draw}

pub after_after : (m n state : ℕ) → after m (after n state) ≡ after (m + n) state
unfolding after
after_after m zero state = let same : m ≡ m + 0 = omega arith in ap (λ k. after k state) same
after_after m (suc n) state =
    let same : suc (m + n) ≡ m + suc n = omega arith in
    after_after m n (next_state state) ∙ ap (λ k. after k state) same

pub after_none : (state : ℕ) → after 0 state ≡ state
unfolding after
after_none state = refl

-- some draws, and then more
pub and_then : (m n state between end : ℕ) → between ≡ after n state → end ≡ after m between → end ≡ after (m + n) state
and_then m n state between end first second = second ∙ ap (after m) first ∙ after_after m n state

pub draw_below : (k state : ℕ) → 0 < k → draw k state < k
unfolding draw
draw_below k state above = mod_below (next_state state / 2 ^ 33) k above
