-- What reports say, case after case.
use Rattle.std.specs.Prelude.{ℕ, List, [], ◌∷◌}
use Rattle.std.specs.List.{AllZip}
use Rattle.pc_rows.specs.declared.case.Case.{Case}
use Rattle.pc_proof.specs.declared.document.Block.{Block}
use Rattle.pc_run.specs.Replies.{SaysReport, SaysReports}

-- the blocks of the report of each case
unfoldable pub blocks_said : (nodes : ℕ) (cases : List Case) (texts : List (List ℕ)) → AllZip (SaysReport nodes) cases texts → List (List Block)
blocks_said nodes [] [] each = []
blocks_said nodes [] (text ∷ texts) each = []
blocks_said nodes (case ∷ cases) [] each = []
blocks_said nodes (case ∷ cases) (text ∷ texts) each = each.0.document.blocks ∷ blocks_said nodes cases texts each.1

abbrev pub said_by : {nodes : ℕ} {cases : List Case} {text : List ℕ} → SaysReports nodes cases text → List (List Block)
said_by {nodes} {cases} {text} says = blocks_said nodes cases says.texts says.each
