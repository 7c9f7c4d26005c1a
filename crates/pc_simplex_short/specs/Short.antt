-- Rows in short form: a row is mixed of the first rows, so one number for each constraint and the value say all of it.
use Rattle.std.specs.Prelude.{ℕ, ◌==◌, not, ℤ, pos, neg_ℤ, ◌+ℤ◌, ◌-ℤ◌, ◌*ℤ◌, Bool, false, cond, List, [], ◌∷◌, ◌++◌, map, slice_index_or, slice_set}
use Rattle.std.specs.Int.{int_div_euclid}
use Rattle.pc_program_bound.specs.Sums.{int_at}
use Rattle.pc_simplex_tableau.specs.Numbers.{table, primitive, combined, is_zero}
use Rattle.pc_simplex_tableau.specs.Tableau.{TableauRow, Tableau, Columns, freed_aim}
use Rattle.pc_simplex_tableau.specs.Conditions.{aim_alone, row_in}

-- what the steps of a phase leave as it is: its columns, the constraints of each column by number, what each column gains, a
-- number that no gain exceeds, and how many constraints there are
pub record ShortSetting : Type 0 where
  pub columns : Columns
  pub places : List (List ℕ)
  pub gains : List ℤ
  pub top : ℕ
  pub constraints : ℕ

-- ---- what a short row spells

-- the sum of a row's numbers at some places
unfoldable pub mix : List ℕ → List ℤ → ℤ
mix [] numbers = pos 0
mix (j ∷ places) numbers = int_at numbers j +ℤ mix places numbers

abbrev pub signed : Bool → ℤ → ℤ
signed test x = cond test (neg_ℤ x) x

abbrev pub places_of : ShortSetting → ℕ → List ℕ
places_of f k = slice_index_or f.places k []

-- the number of a row at a column
abbrev pub entry : ShortSetting → List Bool → List ℤ → ℕ → ℤ
entry f turned numbers k = signed (slice_index_or turned k false) (mix (places_of f k) numbers)

-- a short row has a number for each constraint and then its value
abbrev pub spelled_numbers : ShortSetting → List Bool → List ℤ → List ℤ
spelled_numbers f turned numbers = table f.columns.count (entry f turned numbers) ++ int_at numbers f.constraints ∷ []

abbrev pub spelled_row : ShortSetting → List Bool → TableauRow → TableauRow
spelled_row f turned row = record { numbers = spelled_numbers f turned row.numbers; basic = row.basic }

-- the number of the objective row at a column: so many times its gain, and what the constraints give
abbrev pub aim_entry : ShortSetting → List Bool → ℤ → List ℤ → ℕ → ℤ
aim_entry f turned weight aim k = signed (slice_index_or turned k false) (weight *ℤ int_at f.gains k +ℤ mix (places_of f k) aim)

abbrev pub spelled_aim : ShortSetting → List Bool → ℤ → List ℤ → List ℤ
spelled_aim f turned weight aim = table f.columns.count (aim_entry f turned weight aim)

-- the tableau that short rows, and an objective row with a number for each constraint, stand for
abbrev pub spelled : ShortSetting → Tableau → Tableau
spelled f t = record {
  rows = map (spelled_row f t.turned) t.rows;
  turned = t.turned;
  aim = spelled_aim f t.turned t.weight t.aim;
  weight = t.weight;
}

-- ---- the steps on short rows

abbrev pub quotients : ℤ → List ℤ → List ℤ
quotients d row = map (λ a. int_div_euclid a d) row

abbrev pub flipped : List Bool → ℕ → List Bool
flipped turned c = slice_set turned c (not (slice_index_or turned c false))

-- the row whose column c, where its entry is e, is turned, whose range is u
abbrev pub lowered : ShortSetting → ℕ → ℤ → List ℤ → List ℤ
lowered f u e numbers = slice_set numbers f.constraints (int_at numbers f.constraints -ℤ e *ℤ pos u)

abbrev pub turned_short : ShortSetting → List Bool → ℕ → ℕ → TableauRow → TableauRow
turned_short f turned c u row = record {
  numbers = cond (row.basic == c) (map neg_ℤ (lowered f u (entry f turned row.numbers c) row.numbers)) (lowered f u (entry f turned row.numbers c) row.numbers);
  basic = row.basic;
}

-- the row freed of column c by another
abbrev pub freed_short : ShortSetting → List Bool → ℕ → List ℤ → TableauRow → TableauRow
freed_short f turned c other row =
    cond (is_zero (entry f turned row.numbers c)) row (record row {
      numbers = primitive (combined (entry f turned other c) row.numbers (entry f turned row.numbers c) other);
    })

-- the rows after a pivot at column c in row r
abbrev pub pivoted_short : ShortSetting → List Bool → ℕ → ℕ → List TableauRow → List TableauRow
pivoted_short f turned c r rows =
    slice_set (map (freed_short f turned c (row_in rows r).numbers) rows) r (record { numbers = (row_in rows r).numbers; basic = c })

-- the objective row, as it is spelled, freed of column c by a short row
abbrev pub aim_from : ShortSetting → ℕ → List Bool → List ℤ → ℤ → List ℤ → Tableau
aim_from f c turned numbers weight aim = freed_aim c (spelled_numbers f turned numbers) (aim_alone (spelled_aim f turned weight aim) weight)
