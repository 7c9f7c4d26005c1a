-- The text of which constraints contradict each other.
use Rattle.std.specs.Prelude.{codes, ℕ, List, [], ◌∷◌, ◌++◌, Option, Some, None, flat_map, slice_get}
use Rattle.std.specs.List.{concat}
use Rattle.pc_model.specs.declared.schema.Schema.{Schema}
use Rattle.pc_model.specs.declared.row.Run.{Run}
use Rattle.pc_model.specs.declared.constraint.When.{When}
use Rattle.pc_model.specs.declared.constraint.When.TheVariants.{Boxes, Outside}
use Rattle.pc_model.specs.declared.constraint.Constraint.{Constraint}
use Rattle.pc_lang_tokens.specs.Spelling.{name_text}
use Rattle.pc_report.specs.Report.{line_break, titled_text}
use Rattle.pc_conflict.specs.declared.conflict.Conflict.{Conflict}
use Rattle.pc_conflict.specs.declared.conflict.Conflict.TheVariants.{Possible, Core, Undecided}

-- the name of a constraint; one of the rows outside has none
abbrev pub rule_name : When → List ℕ → List ℕ
rule_name (Boxes area) name = name_text name
rule_name Outside name = codes "outside"

abbrev pub rule_text : Option Constraint → List ℕ
rule_text None = []
rule_text (Some constraint) = rule_name constraint.when constraint.name

-- .. of the constraint at a place
abbrev pub rule_at : List Constraint → ℕ → List ℕ
rule_at constraints place = rule_text (slice_get constraints place)

-- the names of the constraints at these places, each with a comma and a space before it
unfoldable pub next_rules_text : List Constraint → List ℕ → List ℕ
next_rules_text constraints places = flat_map (λ place. codes ", " ++ rule_at constraints place) places

-- the same with no comma before the first
abbrev pub rules_text : List Constraint → List ℕ → List ℕ
rules_text constraints [] = []
rules_text constraints (place ∷ places) = rule_at constraints place ++ next_rules_text constraints places

-- the name of a member, and the runs of a list that is possible for the others
unfoldable pub without_text : Schema → List Constraint → ℕ → List Run → List ℕ
without_text schema constraints member runs = titled_text schema (codes "without " ++ rule_at constraints member) runs

-- the same for each member that has runs
unfoldable pub withouts_text : Schema → List Constraint → List ℕ → List (List Run) → List ℕ
withouts_text schema constraints [] lists = []
withouts_text schema constraints (member ∷ members) [] = []
withouts_text schema constraints (member ∷ members) (runs ∷ lists) = without_text schema constraints member runs ++ withouts_text schema constraints members lists

unfoldable pub core_text : Schema → List Constraint → List ℕ → List (List Run) → List ℕ
core_text schema constraints members without =
    concat (codes "conflict " ∷ rules_text constraints members ∷ line_break ∷ withouts_text schema constraints members without ∷ [])

unfoldable pub undecided_text : List Constraint → List ℕ → List ℕ
undecided_text constraints tested = concat (codes "conflict undecided" ∷ line_break ∷ codes "tested " ∷ rules_text constraints tested ∷ line_break ∷ [])

abbrev pub conflict_text : Schema → List Constraint → Conflict → List ℕ
conflict_text schema constraints (Possible runs) = titled_text schema (codes "conflict none") runs
conflict_text schema constraints (Core members without) = core_text schema constraints members without
conflict_text schema constraints (Undecided tested) = undecided_text constraints tested
