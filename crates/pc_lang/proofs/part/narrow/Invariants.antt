use Rattle.std.proofs.Common.{◌≡◌, take, drop}
use Rattle.pc_lang.specs.Parts.{narrowed}
use Rattle.pc_lang.proofs.Narrowing.{after}
use Rattle.pc_lang.proofs.part.narrow.Given as goal

-- what is left decides
abbrev pub invariant-loop-place : goal.invariant-loop-place
invariant-loop-place l = record {
  same : l.sides ≡ l.fn.sides;
  left : narrowed l.columns l.atom l.sides.items ≡ after (take l.place l.sides.items) (narrowed (drop l.place l.columns) l.atom (drop l.place l.sides.items));
}
