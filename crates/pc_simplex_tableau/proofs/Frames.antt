-- The columns of both phases are those of the program and its box.
use Rattle.std.proofs.Common.{◌≡◌, ℕ, ◌+◌, ◌-◌, ◌<◌, ◌++◌, List, length, refl, ap, sym, ◌∙◌, arith, Option}
use Rattle.std.proofs.lemmas.List.{length-append, get_or_append_left, get_or-append-add}
use Rattle.pc_program_bound.specs.declared.program.Program.{Program}
use Rattle.pc_program_bound.specs.Sums.{nat_at}
use Rattle.pc_program_bound.specs.Allocation.{cells_of, constraints_of}
use Rattle.pc_simplex_tableau.specs.Numbers.{table}
use Rattle.pc_simplex_tableau.specs.Relaxation.{columns_of, slack_range, ranges_of, IsFrame}
use Rattle.pc_simplex_tableau.proofs.Listed.{length-table, at-table}

pub IsFrame-ranges : (p : Program) (floors caps : List ℕ) (helper : Option ℕ)
    → IsFrame p floors caps (record { ranges = ranges_of p floors caps; count = columns_of p; helper = helper })
IsFrame-ranges p floors caps helper = record {
  cells = λ i lt. get_or_append_left cells slacks 0 i (within i lt) ∙ at-table (cells_of p) room i 0 lt;
  slacks = λ j lt. ap (λ n. nat_at (cells ++ slacks) (n + j)) (sym long) ∙ get_or-append-add cells slacks j 0 ∙ at-table (constraints_of p) (slack_range p) j 0 lt;
  ranges = length-append cells slacks ∙ sums long (length-table (constraints_of p) (slack_range p));
  count = refl;
}
  where
    room : ℕ → ℕ
    room i = nat_at caps i - nat_at floors i

    cells : List ℕ
    cells = table (cells_of p) room

    slacks : List ℕ
    slacks = table (constraints_of p) (slack_range p)

    long : length cells ≡ cells_of p
    long = length-table (cells_of p) room

    within : (i : ℕ) → i < cells_of p → i < length cells
    within i lt = omega (arith, lt, long)

    sums : {a b c d : ℕ} → a ≡ b → c ≡ d → a + c ≡ b + d
    sums e h = omega (arith, e, h)
