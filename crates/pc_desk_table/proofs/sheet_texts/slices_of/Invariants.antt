use Rattle.std.proofs.Common.{◌≡◌, Bor, List, ℕ, map, take}
use Rattle.pc_desk_table.proofs.sheet_texts.slices_of.Given as goal

abbrev pub invariant-loop-text : goal.invariant-loop-text
invariant-loop-text l = map (λ (slice : Bor (List ℕ)). slice.now) l.slices.items ≡ take l.text-index l.texts
