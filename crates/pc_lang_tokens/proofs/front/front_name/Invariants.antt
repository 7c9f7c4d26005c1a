use Rattle.std.proofs.Common.{ℕ, List, ◌≤◌, length}
use Rattle.pc_lang_tokens.specs.Front.{IsFront}
use Rattle.pc_lang_tokens.proofs.front.front_name.Given as goal

abbrev pub invariant-loop-len : goal.invariant-loop-len
invariant-loop-len l = record {
  within : l.len ≤ length l.bytes;
  longest : (name : List ℕ) (len : ℕ) → IsFront l.bytes name len → len ≤ l.len;
}

abbrev pub decreases-loop-len : goal.decreases-loop-len
decreases-loop-len l = l.len
