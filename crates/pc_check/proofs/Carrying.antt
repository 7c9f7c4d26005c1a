-- What is carried from block to block of a document.
use Rattle.std.proofs.Common.{ℕ, List, Option, IfSome}
use Rattle.pc_model.specs.declared.tree.CutNode.{CutNode}
use Rattle.pc_proof.specs.declared.document.Block.{Block}
use Rattle.pc_check.specs.declared.asked.Asked.{Asked}
use Rattle.pc_check.specs.declared.observed.Seen.{Seen}
use Rattle.pc_check.specs.declared.premises.Premises.{Premises}
use Rattle.pc_check.specs.Blocks.{IsAskedOver}
use Rattle.pc_check.specs.Premises.{case_of}
use Rattle.pc_check.specs.Seen.{IsSeen}
use Rattle.pc_check.proofs.DocumentSteps.{IsAt}

-- the blocks so far, and of the last of them what was kept over its tree, and what the observed rows came to
pub record IsCarrying (premises : Premises) (blocks : List Block) (place line : ℕ) (before : Option (List CutNode)) (kept : Option Asked) (last : Option Seen) : Type 0 where
  pub at_block : IsAt (case_of premises) blocks place line before
  pub kept_over : IfSome before (λ list. IfSome kept (IsAskedOver premises list))
  pub seen : IfSome last (IsSeen premises.rows.now)
