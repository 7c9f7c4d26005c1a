-- The program of the counts of rows in the cells of classes.
use Rattle.std.specs.Prelude.{ℕ, ◌/◌, min, ℤ, List, [], ◌∷◌, map, count_by, unwrap_or, if◌then◌else◌}
use Rattle.std.specs.List.{reduce}
use Rattle.pc_model.specs.declared.row.Row.{Row}
use Rattle.pc_model.specs.declared.area.Area.{Area}
use Rattle.pc_model.specs.declared.constraint.Constraint.{Constraint}
use Rattle.pc_model.specs.Places.{has_bit}
use Rattle.pc_model.specs.Cells.{Class, class_of, is_class}
use Rattle.pc_program_bound.specs.declared.program.Program.{Program}

-- the constraints of a mask
abbrev pub members : ℕ → List Constraint → List Constraint
members mask [] = []
members mask (c ∷ cs) = if has_bit mask 0 then c ∷ members (mask / 2) cs else members (mask / 2) cs

-- the most rows that a cell can have: the least `most` of its constraints
abbrev pub cap_of : List Constraint → Class → ℕ
cap_of constraints class = unwrap_or (reduce min (map (λ (c : Constraint). c.most) (members class.mask constraints))) 0

-- the program of the counts of rows in the cells, with these gains
abbrev pub program_with : List Constraint → List Class → List ℤ → Program
program_with constraints classes gains = record {
  masks = map (λ (class : Class). class.mask) classes;
  least = map (λ (c : Constraint). c.least) constraints;
  most = map (λ (c : Constraint). c.most) constraints;
  floor = map (λ (class : Class). 0) classes;
  cap = map (cap_of constraints) classes;
  gain = gains;
}

-- the same with the gain of each class
abbrev pub program_of : List Constraint → List Class → (Class → ℤ) → Program
program_of constraints classes gain = program_with constraints classes (map gain classes)

-- how many of the rows are in the cell
abbrev pub count_in : List Constraint → Area → List Row → Class → ℕ
count_in constraints chosen rows class = count_by (λ row. is_class (class_of constraints chosen row) class) rows

-- how many of the rows are in each cell
abbrev pub counts_of : List Constraint → Area → List Class → List Row → List ℕ
counts_of constraints chosen classes rows = map (count_in constraints chosen rows) classes
