-- What the steps keep of a tableau's lengths and numbers, and what they ask of them.
use Rattle.std.specs.Prelude.{◌≡◌, ◌<◌, ◌≤◌, ℕ, ◌+◌, ◌&&◌, ◌-ℤ◌, ◌*ℤ◌, ℤ, pos, Bool, List, [], ◌∷◌, map, length, slice_index_or, slice_set, All}
use Rattle.std.specs.Int.{int_div_euclid}
use Rattle.pc_program_bound.specs.Sums.{int_at}
use Rattle.pc_program_bound.specs.Bound.{IsFit}
use Rattle.pc_simplex_tableau.specs.Numbers.{common, combined, does_fit}
use Rattle.pc_simplex_tableau.specs.Tableau.{TableauRow, Tableau, Columns, no_row, freed_row}

-- a row has an entry for each column and a value
pub record IsSizedRow (f : Columns) (row : TableauRow) : Type 0 where
  pub numbers : length row.numbers ≡ f.count + 1
  pub basic : row.basic < f.count

pub record IsSized (f : Columns) (t : Tableau) : Type 0 where
  pub ranges : length f.ranges ≤ f.count
  pub rows : All (IsSizedRow f) t.rows
  pub turned : length t.turned ≡ f.count
  pub aim : length t.aim ≡ f.count

abbrev pub IsFitRow : TableauRow → Type 0
IsFitRow row = All IsFit row.numbers

pub record AreFitNumbers (t : Tableau) : Type 0 where
  pub rows : All IsFitRow t.rows
  pub aim : All IsFit t.aim
  pub weight : IsFit t.weight

-- the numbers of a row fit where a column of that range is turned
abbrev pub does_turned_row_fit : Columns → ℕ → ℕ → TableauRow → Bool
does_turned_row_fit f c u row = does_fit (int_at row.numbers c *ℤ pos u) && does_fit (int_at row.numbers f.count -ℤ int_at row.numbers c *ℤ pos u)

-- rows that are as long as another
abbrev pub AreAsLong : List ℤ → List TableauRow → Type 0
AreAsLong other = All (λ row. length row.numbers ≡ length other)

abbrev pub row_in : List TableauRow → ℕ → TableauRow
row_in rows r = slice_index_or rows r no_row

-- the rows after a pivot at column c in row r
abbrev pub pivoted_rows : ℕ → ℕ → List TableauRow → List TableauRow
pivoted_rows c r rows = slice_set (map (freed_row c (row_in rows r).numbers) rows) r (record { numbers = (row_in rows r).numbers; basic = c })

abbrev pub divided : ℕ → ℤ → ℤ
divided g a = int_div_euclid a (pos g)

-- the objective row and its weight after it is combined with another row
abbrev pub freed_entries : ℤ → List ℤ → ℤ → List ℤ → ℤ → List ℤ
freed_entries p aim t other weight = map (divided (common ((p *ℤ weight) ∷ combined p aim t other))) (combined p aim t other)

abbrev pub freed_weight : ℤ → List ℤ → ℤ → List ℤ → ℤ → ℤ
freed_weight p aim t other weight = divided (common ((p *ℤ weight) ∷ combined p aim t other)) (p *ℤ weight)

-- a tableau without rows
abbrev pub aim_alone : List ℤ → ℤ → Tableau
aim_alone aim weight = record { rows = []; turned = []; aim = aim; weight = weight }
