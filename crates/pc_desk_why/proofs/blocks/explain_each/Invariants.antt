use Rattle.std.proofs.Common.{take}
use Rattle.std.specs.List.{AllZip}
use Rattle.pc_proof.specs.declared.document.Block.{Block}
use Rattle.pc_group.specs.Wanted.{wanted_as}
use Rattle.pc_desk_why.specs.declared.explained.Explained.{Explained}
use Rattle.pc_desk_why.specs.Explained.{ExplainsBlock}
use Rattle.pc_desk_why.specs.Scopes.{ground_in}
use Rattle.pc_desk_why.proofs.blocks.explain_each.Given as goal

abbrev pub invariant-loop-place : goal.invariant-loop-place
invariant-loop-place l = AllZip (λ (b : Block) (told : Explained). ExplainsBlock (ground_in l.scope) (wanted_as l.query b.name) told) (take l.place l.blocks) l.all.items
