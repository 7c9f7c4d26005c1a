-- The lines of a refusal, from what is told below the first of them.
use Rattle.std.proofs.Common.{◌≡◌, ℕ, ◌-◌, List, [], ◌++◌, get_or}
use Rattle.pc_model.specs.declared.fault.Fault.{Fault}
use Rattle.pc_files.specs.declared.kept.Kept.{Kept}
use Rattle.pc_files.specs.Texts.{malformed_line}
use Rattle.pc_desk_fault.specs.Explained.{IsExplained}
use Rattle.pc_desk_run.specs.Texts.{AreRefusedLines, Named, place_text}

pub are_lines : (named : Named) (kept : Kept) (fault : Fault) (below text : List ℕ) → IsExplained kept.schema fault kept.last (get_or named.queries (fault.place - 1) []) below →
    text ≡ malformed_line fault ++ (place_text named fault.file fault.place ++ below) → AreRefusedLines named kept fault text
are_lines named kept fault below text explains told = record { below = below; explains = explains; told = told }

pub ruleset explains = (are_lines)
