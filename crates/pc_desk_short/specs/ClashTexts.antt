-- What is told of a clash, line by line.
use Rattle.std.specs.Prelude.{ℕ, codes, decimal, List, [], ◌∷◌, ◌++◌, flat_map, slice_get}
use Rattle.std.specs.List.{concat}
use Rattle.pc_model.specs.declared.constraint.Constraint.{Constraint}
use Rattle.pc_model.specs.declared.row.Run.{Run}
use Rattle.pc_model.specs.declared.schema.Schema.{Schema}
use Rattle.pc_report.specs.RunLines.{fields_text}
use Rattle.pc_conflict.specs.declared.conflict.Conflict.{Conflict}
use Rattle.pc_conflict.specs.declared.conflict.Conflict.TheVariants.{Possible, Core, Undecided}
use Rattle.pc_desk_table.specs.Texts.{shown}
use Rattle.pc_desk_short.specs.declared.clash.Clash.{Clash}
use Rattle.pc_desk_short.specs.declared.clash.Clash.TheVariants as clashes
use Rattle.pc_desk_short.specs.declared.clash_line.ClashLine.{ClashLine}
use Rattle.pc_desk_short.specs.declared.shortage.Shortage.{Shortage}
use Rattle.pc_desk_short.specs.ShortTexts.{name_in, needs_text, rooms_text}

-- ---- runs

-- how often a row is lost, and its fields
unfoldable pub run_text : Schema → Run → List ℕ
run_text schema run =
    concat (decimal run.times ∷ codes " of (" ∷ fields_text schema.columns run.row.cells ∷ codes ")" ∷ [])

-- each with a semicolon and a space before it
unfoldable pub next_runs_text : Schema → List Run → List ℕ
next_runs_text schema runs = flat_map (λ run. codes "; " ++ run_text schema run) runs

abbrev pub runs_text : Schema → List Run → List ℕ
runs_text schema [] = codes "no row"
runs_text schema (run ∷ runs) = run_text schema run ++ next_runs_text schema runs

-- ---- lines

-- the name of the constraint at a place
abbrev pub member_text : List Constraint → ℕ → List ℕ
member_text constraints member = shown (name_in (slice_get constraints member))

-- the runs that are possible for the others
abbrev pub without_text : Schema → List Run → List ℕ
without_text schema runs = shown (codes "possible without it: " ++ runs_text schema runs)

unfoldable pub member_line : Schema → List Constraint → ℕ → List Run → ClashLine
member_line schema constraints member runs = record {
  under = member_text constraints member;
  held = without_text schema runs;
}

-- a line for each member that has runs
unfoldable pub member_lines : Schema → List Constraint → List ℕ → List (List Run) → List ClashLine
member_lines schema constraints [] lists = []
member_lines schema constraints (member ∷ members) [] = []
member_lines schema constraints (member ∷ members) (runs ∷ lists) =
    member_line schema constraints member runs ∷ member_lines schema constraints members lists

-- what is needed, and what there is room for
abbrev pub short_line : List Constraint → Shortage → ClashLine
short_line constraints shortage = record {
  under = needs_text constraints shortage;
  held = rooms_text constraints shortage;
}

abbrev pub open_line : ClashLine
open_line = record {
  under = [];
  held = codes "the constraints contradict each other, and which of them do was not found out";
}

abbrev pub conflict_lines : Schema → List Constraint → Conflict → List ClashLine
conflict_lines schema constraints (Possible runs) = open_line ∷ []
conflict_lines schema constraints (Core members without) = member_lines schema constraints members without
conflict_lines schema constraints (Undecided tested) = open_line ∷ []

abbrev pub clash_lines : Schema → List Constraint → Clash → List ClashLine
clash_lines schema constraints (clashes.Short shortage) = short_line constraints shortage ∷ []
clash_lines schema constraints (clashes.Conflict conflict) = conflict_lines schema constraints conflict
