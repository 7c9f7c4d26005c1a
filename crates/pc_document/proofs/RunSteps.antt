-- Runs, line by line.
use Rattle.std.proofs.Common.{◌≡◌, ℕ, true, false, List, [], ◌∷◌, ◌++◌, Some, None, Ok, Err}
use Rattle.pc_model.specs.declared.schema.Schema.{Schema}
use Rattle.pc_model.specs.declared.row.Run.{Run}
use Rattle.pc_document_format.specs.Formats.{Lines, after_items, read_line}
use Rattle.pc_document_format.proofs.Loops.{many_none, many_over, line_more, line_refused}
use Rattle.pc_document_lines.specs.TokenLines.{read_run, begins_run}
use Rattle.pc_document.specs.Reading.{read_runs}

-- a line of a run
pub run_more : (schema : Schema) (before : List Run) (lines : Lines) (line : List ℕ) (rest : Lines) (run : Run) → lines ≡ line ∷ rest → begins_run line ≡ true → Some run ≡ read_run schema line
    → after_items before (read_runs schema lines) ≡ after_items (before ++ run ∷ []) (read_runs schema rest)
unfolding read_runs
run_more schema = line_more begins_run (read_run schema)

-- a line that begins as one and is none
pub run_refused : (schema : Schema) (before : List Run) (lines : Lines) (line : List ℕ) (rest : Lines) → lines ≡ line ∷ rest → begins_run line ≡ true → None ≡ read_run schema line
    → after_items before (read_runs schema lines) ≡ Err lines
unfolding read_runs
run_refused schema = line_refused begins_run (read_run schema)

-- another line, and none
pub run_over : (schema : Schema) (before : List Run) (lines : Lines) (line : List ℕ) (rest : Lines) → lines ≡ line ∷ rest → begins_run line ≡ false → after_items before (read_runs schema lines) ≡ Ok (before, lines)
unfolding read_runs
run_over schema = many_over begins_run (read_line (read_run schema))

pub no_run : (schema : Schema) (before : List Run) (lines : Lines) → lines ≡ [] → after_items before (read_runs schema lines) ≡ Ok (before, lines)
unfolding read_runs
no_run schema = many_none begins_run (read_line (read_run schema))

pub ruleset steps = (run_more, run_refused, run_over, no_run)
