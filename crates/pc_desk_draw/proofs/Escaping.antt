-- The bytes that are written so far, and those that are left.
use Rattle.std.proofs.Common.{◌≡◌, ℕ, suc, ◌+◌, ◌<◌, ◌≤◌, List, ◌++◌, length, get_or, drop, add-one, drop-cons, append_assoc}
use Rattle.std.proofs.lemmas.List.{append-nil, drop_all}
use Rattle.pc_desk_draw.specs.Escapes.{escaped_after, escaped_byte}

module _ (text out : List ℕ) (i first second : ℕ) where
  pub escaped_step : i < length text → (out ++ escaped_byte first second (get_or text i 0)) ++ escaped_after second (get_or text i 0) (drop (i + 1) text) ≡ out ++ escaped_after first second (drop i text)
  unfolding escaped_after
  escaped_step inside =
      let byte = get_or text i 0 in
      rw (add-one, drop-cons text i 0 inside) (append_assoc out (escaped_byte first second byte) (escaped_after second byte (drop (suc i) text)))

  pub escaped_end : length text ≤ i → out ++ escaped_after first second (drop i text) ≡ out
  unfolding escaped_after
  escaped_end end = rw (drop_all i text end) (append-nil out)

pub ruleset steps = (escaped_step, escaped_end)
