-- How the fields of a table are read, from one inner table to the next: as texts, whole numbers, and values of their columns.
use Rattle.std.specs.Prelude.{ℕ, ◌+◌, ◌-◌, List, [], ◌∷◌, ◌++◌, codes, decimal}
use Rattle.std.specs.List.{concat}
use Rattle.pc_model.specs.declared.schema.Column.{Column}
use Rattle.pc_model.specs.declared.schema.Kind.{Kind}
use Rattle.pc_model.specs.declared.schema.Kind.TheVariants.{Int, Dec, Cat}
use Rattle.pc_desk_sql.specs.Claims.{claim_text}
use Rattle.pc_desk_sql.specs.Tests.{Among, Test, Within}
use Rattle.pc_desk_sql.specs.Texts.{listed, name_text, surrounded, table_text}

-- a number of a place after a text
unfoldable pub numbered : List ℕ → ℕ → List ℕ
numbered before place = before ++ decimal place

-- ---- texts: a field of numbers without the spaces around it, and what follows its sign and its first digits

unfoldable pub trimmed_text : List ℕ → List ℕ
trimmed_text name = surrounded (codes "TRIM(CAST(t.") (name_text name) (codes " AS TEXT))")

unfoldable pub rest_text : List ℕ → List ℕ
rest_text name = surrounded (codes ",\n    LTRIM(") (trimmed_text name) (codes ", '+-0123456789')")

unfoldable pub number_field : ℕ → List ℕ → List ℕ
number_field place name = trimmed_text name ++ numbered (codes " AS c") place ++ rest_text name ++ numbered (codes " AS r") place

-- what is joined with a text has no collation of a column's own, so that names are compared byte by byte
unfoldable pub name_field : ℕ → List ℕ → List ℕ
name_field place name = surrounded (codes "CAST(t.") (name_text name) (codes " AS TEXT) || ''") ++ numbered (codes " AS c") place

abbrev pub field_for : ℕ → List ℕ → Kind → List ℕ
field_for place name (Int low high) = number_field place name
field_for place name (Dec scale low high) = number_field place name
field_for place name (Cat names) = name_field place name

unfoldable pub field_text : ℕ → Column → List ℕ
field_text place column = field_for place column.name column.kind

-- ---- whole numbers in units of the last place

-- a sign in front alone
unfoldable pub sign_test : ℕ → List ℕ
sign_test place =
    concat (codes "f.c" ∷ decimal place ∷ codes " NOT LIKE '_%+%' AND f.c" ∷ decimal place ∷ codes " NOT LIKE '_%-%'" ∷ [])

-- a digit or more behind it
unfoldable pub digit_test : ℕ → List ℕ
digit_test place = concat (codes "LTRIM(f.c" ∷ decimal place ∷ codes ", '+-') <> f.r" ∷ decimal place ∷ [])

-- then nothing, or a point and a digit or more
unfoldable pub point_test : ℕ → List ℕ
point_test place =
    concat
    (codes "(f.r" ∷ decimal place ∷ codes " = '' OR f.r" ∷ decimal place ∷ codes " LIKE '._%' AND LTRIM(SUBSTR(f.r"
    ∷ decimal place ∷ codes ", 2), '0123456789') = '')" ∷ [])

-- past the last place 0 alone
unfoldable pub scale_test : ℕ → ℕ → List ℕ
scale_test place past = concat (codes "RTRIM(SUBSTR(f.r" ∷ decimal place ∷ codes ", " ∷ decimal past ∷ codes "), '0') = ''" ∷ [])

-- few enough digits before the point
unfoldable pub size_test : ℕ → ℕ → List ℕ
size_test place digits =
    concat
    (codes "LENGTH(LTRIM(f.c" ∷ decimal place ∷ codes ", '+-0')) - LENGTH(f.r" ∷ decimal place ∷ codes ") <= "
    ∷ decimal digits ∷ [])

-- the digits before the point
unfoldable pub front_text : ℕ → List ℕ
front_text place =
    concat
    (codes " THEN CAST(SUBSTR(f.c" ∷ decimal place ∷ codes ", 1, LENGTH(f.c" ∷ decimal place ∷ codes ") - LENGTH(f.r"
    ∷ decimal place ∷ codes "))" ∷ [])

-- .. and behind them as many decimals as the column has
unfoldable pub digits_text : ℕ → ℕ → List ℕ
digits_text place scale =
    concat
    (codes " || SUBSTR(SUBSTR(f.r" ∷ decimal place ∷ codes ", 2) || '000000', 1, " ∷ decimal scale ∷ codes ") AS BIGINT) END AS c"
    ∷ decimal place ∷ [])

abbrev pub number_tests : ℕ → ℕ → List (List ℕ)
number_tests place scale =
    sign_test place ∷ digit_test place ∷ point_test place ∷ scale_test place (scale + 2) ∷ size_test place (16 - scale) ∷ []

unfoldable pub number_text : ℕ → ℕ → List ℕ
number_text place scale =
    surrounded
    (codes "CASE WHEN ") (listed [] (codes "\n    AND ") (number_tests place scale)) (front_text place ++ digits_text place scale)

unfoldable pub kept_text : ℕ → List ℕ
kept_text place = concat (codes "f.c" ∷ decimal place ∷ codes " AS c" ∷ decimal place ∷ [])

abbrev pub number_for : ℕ → Kind → List ℕ
number_for place (Int low high) = number_text place 0
number_for place (Dec scale low high) = number_text place scale
number_for place (Cat names) = kept_text place

unfoldable pub number_of_column : ℕ → Column → List ℕ
number_of_column place column = number_for place column.kind

-- ---- values of their columns

-- the numbers or the names of a column
abbrev pub domain_test : Kind → Test
domain_test (Int low high) = Within low high
domain_test (Dec scale low high) = Within low high
domain_test (Cat names) = Among names

unfoldable pub case_text : ℕ → Kind → List ℕ
case_text place kind =
    numbered (codes "CASE WHEN n.c") place ++ claim_text (domain_test kind) ++ numbered (codes " THEN n.c") place

unfoldable pub value_text : ℕ → Column → List ℕ
value_text place column = case_text place column.kind ++ codes " END AS " ++ name_text column.name

-- ---- one after another

-- a text of each item with its place, where the first has this place
unfoldable pub placed : {X : Type 0} → (ℕ → X → List ℕ) → ℕ → List X → List (List ℕ)
placed text place [] = []
placed text place (item ∷ items) = text place item ∷ placed text (place + 1) items

-- an inner table of columns
unfoldable pub table_of : List ℕ → List (List ℕ) → List ℕ → List ℕ
table_of name columns from =
    concat
    (codes "\"(" ∷ name ∷ codes ")\" AS (\n  SELECT " ∷ listed [] (codes ",\n    ") columns ∷ codes "\n  FROM " ∷ from
    ∷ codes "\n)" ∷ [])

unfoldable pub fields_table : List Column → List ℕ → List ℕ
fields_table columns table =
    table_of (codes "fields") (placed field_text 0 columns) (surrounded [] (table_text table) (codes " AS t"))

unfoldable pub numbers_table : List Column → List ℕ
numbers_table columns = table_of (codes "numbers") (placed number_of_column 0 columns) (codes "\"(fields)\" AS f")

unfoldable pub values_table : List Column → List ℕ
values_table columns = table_of (codes "values") (placed value_text 0 columns) (codes "\"(numbers)\" AS n")

unfoldable pub readings : List Column → List ℕ → List ℕ
readings columns table = listed [] (codes ",\n") (fields_table columns table ∷ numbers_table columns ∷ values_table columns ∷ [])
