-- The text of a statement.
use Rattle.std.specs.Prelude.{ℕ, ◌+◌, List, [], ◌∷◌, ◌++◌, codes, decimal, flat_map, map}
use Rattle.pc_model.specs.declared.constraint.Constraint.{Constraint}
use Rattle.pc_model.specs.declared.region.Region.{Region}
use Rattle.pc_model.specs.declared.region.Side.{Side}
use Rattle.pc_model.specs.declared.schema.Column.{Column}
use Rattle.pc_model.specs.declared.schema.Schema.{Schema}
use Rattle.pc_desk_sql.specs.Claims.{claim_text}
use Rattle.pc_desk_sql.specs.Readings.{placed, readings}
use Rattle.pc_desk_sql.specs.Statement.{Line, Statement, line_of, statement_of}
use Rattle.pc_desk_sql.specs.Tests.{Clause, Known, NoneOf, OneOf, Test, box_of, none_named, test_of}
use Rattle.pc_desk_sql.specs.Texts.{listed, name_text, string_text, surrounded, with_before}

-- ---- conditions

unfoldable pub test_text : List ℕ → Test → List ℕ
test_text name test = surrounded (codes "v.") (name_text name) (claim_text test)

-- .. of a side of a column
unfoldable pub side_text : Column → Side → List ℕ
side_text column side = test_text column.name (test_of column.kind side)

-- each test of the column at its place
unfoldable pub test_texts : List Column → List Test → List (List ℕ)
test_texts [] tests = []
test_texts (column ∷ columns) [] = []
test_texts (column ∷ columns) (test ∷ tests) = test_text column.name test ∷ test_texts columns tests

unfoldable pub box_text : List Column → List Test → List ℕ
box_text columns tests = listed (codes "1 = 1") (codes " AND ") (test_texts columns tests)

-- the texts of boxes, and those of clauses
unfoldable pub any_text : List (List ℕ) → List ℕ
any_text texts = listed (codes "1 = 0") (codes "\n      OR ") texts

unfoldable pub all_text : List (List ℕ) → List ℕ
all_text texts = listed (codes "1 = 1") (codes "\n      AND ") texts

abbrev pub clause_text : List Column → Clause → List ℕ
clause_text columns (OneOf boxes) = surrounded (codes "(") (any_text (map (box_text columns) boxes)) (codes ")")
clause_text columns (NoneOf boxes) = surrounded (codes "NOT (") (any_text (map (box_text columns) boxes)) (codes ")")

abbrev pub condition_text : List Column → List Clause → List ℕ
condition_text columns clauses = all_text (map (clause_text columns) clauses)

-- the tests of a box of the language, and that a field is a value of its column
abbrev pub region_text : List Column → Region → List ℕ
region_text columns region = box_text columns (box_of columns region)

abbrev pub none_texts : List Column → Constraint → List (List ℕ)
none_texts columns c = map (clause_text columns) (none_named columns c.when)

abbrev pub known_text : Column → List ℕ
known_text column = test_text column.name Known

-- ---- lines of the answer

-- how many rows meet a condition
unfoldable pub count_text : List ℕ → List ℕ
count_text condition = surrounded (codes "COUNT(CASE WHEN ") condition (codes " THEN 1 END)")

abbrev pub counts_text : List Column → Line → List (List ℕ)
counts_text columns line = count_text (condition_text columns line.under) ∷ count_text (condition_text columns line.broken) ∷ []

-- the answers are in the order of the first field, which is not shown
unfoldable pub line_fields : List Column → ℕ → Line → List (List ℕ)
line_fields columns number line =
    decimal number ∷ string_text line.name ∷ counts_text columns line ++ decimal line.least ∷ decimal line.most ∷ []

abbrev pub from_values : List ℕ
from_values = codes "\n  FROM \"(values)\" AS v"

unfoldable pub line_text : List Column → ℕ → Line → List ℕ
line_text columns place line =
    surrounded (codes "SELECT ") (listed [] (codes ",\n    ") (line_fields columns (place + 1) line)) from_values

-- .. of a constraint among these
unfoldable pub constraint_text : List Column → List Constraint → ℕ → Constraint → List ℕ
constraint_text columns constraints place c = line_text columns place (line_of columns constraints c)

abbrev pub own_head : List ℕ
own_head = codes "SELECT 0 AS \"place\", '(schema)' AS \"constraint\", COUNT(*) AS \"rows\",\n    COUNT(CASE WHEN "

abbrev pub own_limits : List ℕ
own_limits = codes "CAST(NULL AS BIGINT) AS \"least\", CAST(NULL AS BIGINT) AS \"most\""

unfoldable pub own_tail : List ℕ
own_tail = surrounded (codes " THEN NULL ELSE 1 END) AS \"broken\",\n    ") own_limits from_values

-- the number of all rows, and of those that fail a test
unfoldable pub own_text : List Column → List Test → List ℕ
own_text columns own = surrounded own_head (box_text columns own) own_tail

-- ---- the whole

abbrev pub shown_fields : List ℕ
shown_fields = codes "\nSELECT a.\"constraint\", a.\"rows\", a.\"broken\", a.\"least\", a.\"most\",\n  CASE WHEN "

-- the first line is within where nothing is broken
abbrev pub shown_within : List ℕ
shown_within = codes "a.\"least\" IS NULL AND a.\"broken\" = 0 OR a.\"rows\" BETWEEN a.\"least\" AND a.\"most\""

abbrev pub shown_word : List ℕ
shown_word = codes " THEN 'yes' ELSE 'no' END AS \"within\"\nFROM (\n  "

unfoldable pub shown_text : List ℕ
shown_text = surrounded shown_fields shown_within shown_word

abbrev pub between_lines : List ℕ
between_lines = codes "\n  UNION ALL\n  "

unfoldable pub lines_text : Statement → List ℕ
lines_text statement =
    own_text statement.columns statement.own
    ++ flat_map (with_before between_lines) (placed (line_text statement.columns) 0 statement.lines)

-- inner tables, then what is shown, of these lines
unfoldable pub joined_text : List ℕ → List ℕ → List ℕ → List ℕ
joined_text tables shown lines = surrounded (codes "WITH ") (tables ++ shown ++ lines) (codes "\n) AS a\nORDER BY a.\"place\";\n")

unfoldable pub spelled : List ℕ → Statement → List ℕ
spelled table statement = joined_text (readings statement.columns table) shown_text (lines_text statement)

-- what `pc_desk sql` writes
unfoldable pub sql_text : Schema → List Constraint → List ℕ → List ℕ
sql_text schema constraints table = spelled table (statement_of schema constraints)
