-- The rows of counts with one row of each cell: they are possible, and the counts are worth what the rows gain.
use Rattle.std.proofs.Common.{◌≡◌, ℕ, zero, suc, ◌<◌, ◌≤◌, ℤ, Bool, true, false, cond, ◌&&◌, List, [], ◌∷◌, length, map, get_or, All, refl, sym, ap, ◌∙◌, true≢false, arith}
use Rattle.std.specs.List.{AllZip}
use Rattle.std.proofs.lemmas.List.{get_or-map, length-map}
use Rattle.std.proofs.lemmas.List.Elements.{All-nil, All-cons}
use Rattle.pc_model.specs.declared.row.Row.{Row}
use Rattle.pc_model.specs.declared.row.Run.{Run}
use Rattle.pc_model.specs.Cells.{Class}
use Rattle.pc_model.specs.Right.{ArePossible}
use Rattle.pc_model.specs.Runs.{rows_of, runs_from}
use Rattle.pc_program_bound.specs.Sums.{nat_at}
use Rattle.pc_program_bound.specs.Allocation.{cells_of, IsAllocation, worth}
use Rattle.pc_program_bound.specs.CellPrograms.{cap_of}
use Rattle.pc_program_bound.proofs.CellPlaces.{no_class, cell_inside, cap_is}
use Rattle.pc_witness.proofs.Allocations.{allocation-possible}
use Rattle.pc_witness.proofs.Checks.{All-rows_of}
use Rattle.pc_witness.proofs.RunsFrom.{All-runs_from}
use Rattle.pc_witness.proofs.Worth.{worth_of-rows}
use Rattle.pc_witness.proofs.Zipped.{All-from_zip}
use Rattle.pc_proof.specs.Setting.{Setting, area_of, cells, open_cap, program_for, program_without}
use Rattle.pc_proof.specs.Table.{none}
use Rattle.pc_proof.specs.Unbroken.{IsWellPosed}
use Rattle.pc_proof.proofs.Gains.{gains_of}
use Rattle.pc_proof.proofs.Groups.{keeps_area}
use Rattle.pc_proof.proofs.Seen.{keeps}
use Rattle.pc_branch_licences.specs.Picked.{IsOfCell, AreOfCells}
use Rattle.pc_branch_licences.specs.Pools.{AreLawful}

-- ---- all picks

-- what holds of each pick holds of all rows
pub each_made : (s : Setting) (R : Class → Row → Type 0) (P : Row → Type 0) → ((class : Class) (row : Row) → R class row → P row) → (picks : List Row) (counts : List ℕ) →
    AllZip R (cells s) picks → All P (rows_of (runs_from picks counts))
each_made s R P so picks counts picked = All-rows_of P (runs_from picks counts) (All-runs_from P picks counts (All-from_zip R P so (cells s) picks picked))

module _ (s : Setting) (picks : List Row) (counts : List ℕ) (of_cells : AreOfCells s picks) (lawful : AreLawful s counts) where
  pub made_possible : ArePossible s.question (runs_from picks counts)
  made_possible =
      let p = program_for s none in
      let possible = allocation-possible s.question.schema s.question.constraints (area_of s.question) (cells s) picks of_cells none p.floor p.cap counts lawful in
      record { each_stands = possible.0; are_possible = possible.1 }

  pub made_worth : (gain : Class → ℤ) → worth (program_for s gain) counts ≡ gains_of s gain (rows_of (runs_from picks counts))
  made_worth gain = worth_of-rows s.question.schema s.question.constraints (area_of s.question) (cells s) gain picks counts of_cells lawful.sized

-- ---- those that counts use

-- what holds of the pick of each cell that has room for a row holds of the row of each run
used_runs : (R : Class → Row → Type 0) (cap : Class → ℕ) (P : Row → Type 0) → ((class : Class) (row : Row) (n : ℕ) → R class row → suc n ≤ cap class → P row) →
    (classes : List Class) (picks : List Row) (counts : List ℕ) → AllZip R classes picks → ((i : ℕ) → i < length classes → nat_at counts i ≤ nat_at (map cap classes) i) →
    All (λ (run : Run). P run.row) (runs_from picks counts)
used_runs R cap P so [] [] counts picked fits = All-nil (λ (run : Run). P run.row)
used_runs R cap P so [] (row ∷ picks) counts picked fits = absurd picked
used_runs R cap P so (class ∷ classes) [] counts picked fits = absurd picked
used_runs R cap P so (class ∷ classes) (row ∷ picks) [] picked fits = All-nil (λ (run : Run). P run.row)
used_runs R cap P so (class ∷ classes) (row ∷ picks) (zero ∷ counts) picked fits = used_runs R cap P so classes picks counts picked.1 (λ i inside. fits (suc i) (omega arith))
used_runs R cap P so (class ∷ classes) (row ∷ picks) (suc n ∷ counts) picked fits =
    All-cons (λ (run : Run). P run.row) (record { times = suc n; row = row }) (runs_from picks counts) (so class row n picked.0 (fits 0 (omega arith)))
    (used_runs R cap P so classes picks counts picked.1 (λ i inside. fits (suc i) (omega arith)))

-- a chosen cell that has room for a row is not closed
not_shut : (chosen closed : Bool) (n cap : ℕ) → suc n ≤ cond (chosen && closed) 0 cap → chosen ≡ true → closed ≡ false
not_shut chosen false n cap fits is = refl
not_shut true true n cap fits is = absurd (omega arith)
not_shut false true n cap fits is = absurd (true≢false (sym is))

open_less : (shut : Bool) (cap : ℕ) → cond shut 0 cap ≤ cap
open_less true cap = omega arith
open_less false cap = omega arith

module _ (s : Setting) (closed : Class → Bool) (counts : List ℕ)
    (allocated : IsAllocation (program_without s closed) (program_without s closed).floor (program_without s closed).cap counts) where
  -- counts with none in closed cells are lawful
  pub open_lawful : AreLawful s counts
  open_lawful = record { sized = allocated.sized; within = within_caps; met = allocated.met }
    where
      within_caps : (i : ℕ) → i < cells_of (program_for s none) → (nat_at (program_for s none).floor i ≤ nat_at counts i) × (nat_at counts i ≤ nat_at (program_for s none).cap i)
      within_caps i below =
          let there = cell_inside s.question.constraints (cells s) (map none (cells s)) i below in
          let class = get_or (cells s) i no_class in
          let fits = allocated.within i below in
          let cap = cap_is s.question.constraints (cells s) (map none (cells s)) i there in
          let left = get_or-map (open_cap s closed) (cells s) i no_class 0 there in
          let less = open_less (class.chosen && closed class) (cap_of s.question.constraints class) in
          (fits.0, omega (arith, fits.1, cap, left, less))

  -- what holds of the picks of open cells holds of the rows that the query keeps
  pub open_made : IsWellPosed s.question → (R : Class → Row → Type 0) (P : Row → Type 0) → ((class : Class) (row : Row) → R class row → IsOfCell s class row) →
      ((class : Class) (row : Row) → R class row → closed class ≡ false → P row) → (picks : List Row) → AllZip R (cells s) picks →
      All (λ (row : Row). keeps s.question row ≡ true → P row) (rows_of (runs_from picks counts))
  open_made posed R P of_cell so picks picked =
      All-rows_of (λ (row : Row). keeps s.question row ≡ true → P row) (runs_from picks counts)
      (used_runs R (open_cap s closed) (λ (row : Row). keeps s.question row ≡ true → P row) used (cells s) picks counts picked
      (λ i inside. (allocated.within i (omega (arith, inside, length-map (cells s) (λ (class : Class). class.mask)))).1))
    where
      used : (class : Class) (row : Row) (n : ℕ) → R class row → suc n ≤ open_cap s closed class → keeps s.question row ≡ true → P row
      used class row n pick fits kept =
          so class row pick
          (not_shut class.chosen (closed class) n (cap_of s.question.constraints class) fits
          (sym (ap (λ (c : Class). c.chosen) (of_cell class row pick).of_class) ∙ sym (keeps_area s.question posed row) ∙ kept))
