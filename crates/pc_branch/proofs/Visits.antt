-- What a box says whose steps end in a point.
use Rattle.std.proofs.Common.{◌≡◌, ◌<◌, ℕ, List, Some, refl, sym, ◌∙◌, subst, arith}
use Rattle.std.specs.Prelude.{ℤ, pos, ◌≤ℤ◌, ◌*ℤ◌}
use Rattle.std.specs.Int.{int_div_euclid}
use Rattle.std.proofs.lemmas.Int.{ints}
use Rattle.pc_num.specs.declared.Frac.{Frac}
use Rattle.pc_model.specs.declared.tree.Mult.{Mult}
use Rattle.pc_program_bound.specs.declared.program.Program.{Program}
use Rattle.pc_program_bound.specs.Sums.{nat_at}
use Rattle.pc_program_bound.specs.Allocation.{cells_of, IsProgram, IsBox}
use Rattle.pc_program_bound.specs.Bound.{bound_of}
use Rattle.pc_program_bound.proofs.Ring.{le-div_euclid}
use Rattle.pc_simplex.specs.Vertices.{count_at, IsVertex}
use Rattle.pc_branch.specs.Licence.{IsWhole}
use Rattle.pc_branch.specs.Ends.{whole_counts}
use Rattle.pc_branch.specs.declared.visited.Known.TheVariants as knowns
use Rattle.pc_branch.specs.declared.visit.Visit.{Visit}
use Rattle.pc_branch.specs.Visits.{HasCounts}
use Rattle.pc_branch.proofs.Parts.{div_mono}
use Rattle.pc_branch.proofs.Points.{floor-under, cap-over, exact-div, whole-allowed, whole-worth}

module _ (p : Program) (floors caps : List ℕ) (point : List Frac) (mult : Mult) (v : IsVertex p floors caps point mult) where
  module _ (cell : ℕ) (inside : cell < cells_of p) where
    pub quotient-least : pos 0 ≤ℤ int_div_euclid (count_at point cell).num (count_at point cell).den
    quotient-least =
        let positive = v.positive cell in
        let within = v.relaxed.within cell inside in
        let under = floor-under (count_at point cell).num (count_at point cell).den v.den (nat_at v.counts cell) positive v.relaxed.positive (v.counted cell inside) 0 (omega arith) in
        le-div_euclid (pos 0) (count_at point cell).num (count_at point cell).den (omega (arith, ints, positive)) under

    pub quotient-most : IsProgram p → IsBox p floors caps → int_div_euclid (count_at point cell).num (count_at point cell).den ≤ℤ pos 1_000_000_000
    quotient-most program box =
        let positive = v.positive cell in
        let within = v.relaxed.within cell inside in
        let over = cap-over (count_at point cell).num (count_at point cell).den v.den (nat_at v.counts cell) positive v.relaxed.positive (v.counted cell inside) (nat_at caps cell) within.1 in
        let most = div_mono (count_at point cell).num ((count_at point cell).den *ℤ pos (nat_at caps cell)) (count_at point cell).den positive over in
        let exact = exact-div (count_at point cell).den (pos (nat_at caps cell)) ((count_at point cell).den *ℤ pos (nat_at caps cell)) positive refl in
        let small = program.small_cap cell inside in
        let end = (box.inside cell inside).2 in
        omega (arith, ints, most, exact, small, end)

  pub whole_has_counts : (visit : Visit) (counts : List ℕ) (bound : ℤ) → IsWhole point → counts ≡ whole_counts point → bound ≡ bound_of p floors caps mult
      → visit ≡ record { node = record { known = knowns.Whole; mult = mult; bound = bound }; counts = Some counts } → HasCounts p floors caps visit
  whole_has_counts visit counts bound whole counted bounded is =
      subst (HasCounts p floors caps) (sym is) (rw counted (whole-allowed p floors caps point mult v whole, whole-worth p floors caps point mult v whole ∙ sym bounded))
