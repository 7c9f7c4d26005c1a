-- Numbers drawn one after the other from a state below 2 ^ 64.
use Rattle.std.specs.Prelude.{ℕ, zero, suc, ◌+◌, ◌*◌, ◌/◌, ◌%◌, ◌^◌}

-- the state after one draw
unfoldable pub next_state : ℕ → ℕ
next_state state = (state * 6364136223846793005 + 1442695040888963407) % 2 ^ 64

-- the state after so many draws
unfoldable pub after : ℕ → ℕ → ℕ
after zero state = state
after (suc draws) state = after draws (next_state state)

-- the number below k that the next draw gives: the upper bits of the state after it, as the lower ones soon repeat
unfoldable pub draw : ℕ → ℕ → ℕ
draw k state = (next_state state / 2 ^ 33) % k
