-- The rows of a parse: one for `--nodes` and one for the plain words, in the order of their first use.
use Rattle.std.proofs.Common.{◌≡◌, ◌∙◌, Bool, true, false, List, [], ◌∷◌, ◌++◌, Option, Some, None, codes, refl, ap}
use Rattle.std.specs.Prelude.{is_some, unwrap_or, fold, if◌then◌else◌}
use Rattle.clap.specs.Walk.{Row, Rule, Text, all_of, first_of, has_row, reading_by, used, with_default}
use Rattle.clap.specs.declared.parser.matches.ValueSource.TheVariants.{CommandLine}
use Rattle.pc_run_words.specs.Parsers.{nodes_rule, plain_rule, rules_for}
use Rattle.clap.specs.Simple.{filled, filled_from, with_index}

-- the rules as they are built
abbrev pub built_rules : Bool → List Rule
built_rules has_nodes = filled_from 1 (rules_for has_nodes)

abbrev pub nodes_built : Rule
nodes_built = filled nodes_rule

abbrev pub plain_built : Rule
plain_built = with_index 1 (filled plain_rule)

abbrev pub nodes_row : Text → Row
nodes_row word = record { id = codes "nodes"; values = word ∷ []; count = None; source = Some CommandLine; reading = reading_by nodes_built }

abbrev pub plain_row : Text → List Text → Row
plain_row word words = record { id = codes "words"; values = word ∷ words; count = None; source = Some CommandLine; reading = reading_by plain_built }

abbrev pub rows_with : Option Text → List Text → Bool → List Row
rows_with None [] nodes_first = []
rows_with None (word ∷ words) nodes_first = plain_row word words ∷ []
rows_with (Some known) [] nodes_first = nodes_row known ∷ []
rows_with (Some known) (word ∷ words) true = nodes_row known ∷ plain_row word words ∷ []
rows_with (Some known) (word ∷ words) false = plain_row word words ∷ nodes_row known ∷ []

pub plain_used : (known : Option Text) (words : List Text) (nodes_first : Bool) (word : Text)
    → (first : Bool) × (used plain_built (word ∷ []) (rows_with known words nodes_first) ≡ rows_with known (words ++ word ∷ []) first)
plain_used None [] first word = (true, refl)
plain_used None (other ∷ words) first word = (true, refl)
plain_used (Some known) [] first word = (true, refl)
plain_used (Some known) (other ∷ words) true word = (true, refl)
plain_used (Some known) (other ∷ words) false word = (false, refl)

pub nodes_used : (words : List Text) (nodes_first : Bool) (word : Text)
    → (first : Bool) × (used nodes_built (word ∷ []) (rows_with None words nodes_first) ≡ rows_with (Some word) words first)
nodes_used [] first word = (true, refl)
nodes_used (other ∷ words) first word = (false, refl)

pub has_nodes_row : (known : Option Text) (words : List Text) (nodes_first : Bool) → has_row (codes "nodes") (rows_with known words nodes_first) ≡ is_some known
has_nodes_row None [] first = refl
has_nodes_row None (other ∷ words) first = refl
has_nodes_row (Some known) [] first = refl
has_nodes_row (Some known) (other ∷ words) true = refl
has_nodes_row (Some known) (other ∷ words) false = refl

pub value_of_rows : (known : Option Text) (words : List Text) (nodes_first : Bool) → first_of (codes "nodes") (rows_with known words nodes_first) ≡ known
value_of_rows None [] first = refl
value_of_rows None (other ∷ words) first = refl
value_of_rows (Some known) [] first = refl
value_of_rows (Some known) (other ∷ words) true = refl
value_of_rows (Some known) (other ∷ words) false = refl

pub plain_of_rows : (known : Option Text) (words : List Text) (nodes_first : Bool) → unwrap_or (all_of (codes "words") (rows_with known words nodes_first)) [] ≡ words
plain_of_rows None [] first = refl
plain_of_rows None (other ∷ words) first = refl
plain_of_rows (Some known) [] first = refl
plain_of_rows (Some known) (other ∷ words) true = refl
plain_of_rows (Some known) (other ∷ words) false = refl

either : {X : Type 0} (test : Bool) (x : X) → (if test then x else x) ≡ x
either true x = refl
either false x = refl

-- no argument has a default
pub finished_rows : (has_nodes : Bool) (rows : List Row) → fold with_default rows (built_rules has_nodes) ≡ rows
finished_rows true rows =
    ap (λ now. with_default now plain_built) (either (has_row (codes "nodes") rows) rows) ∙ either (has_row (codes "words") rows) rows
finished_rows false rows = either (has_row (codes "words") rows) rows
