use Rattle.std.proofs.Common.{◌≡◌, ℕ, ◌<◌, false, get_or}
use Rattle.pc_lang_tokens.specs.Lexing.{is_blank}
use Rattle.pc_desk_fault.proofs.words.word_len.Given as goal

abbrev pub invariant-loop-place : goal.invariant-loop-place
invariant-loop-place l = (k : ℕ) → k < l.place → is_blank (get_or l.text k 0) ≡ false
