-- What the steps of a box end in, from its first rows on.
use Rattle.std.proofs.Common.{◌≡◌, ℕ, pos, ◌*ℤ◌, ◌<ℤ◌, int_lt, ◌==◌, Bool, true, false, cond, List, [], length, Option, Some, None, refl, subst}
use Rattle.pc_model.specs.declared.tree.Mult.{Mult}
use Rattle.pc_program_bound.specs.declared.program.Program.{Program}
use Rattle.pc_program_bound.specs.Allocation.{constraints_of, worth, IsRelaxed, IsBox, IsProgram}
use Rattle.pc_program_bound.specs.Bound.{raw_bound, without_gain}
use Rattle.pc_simplex_tableau.specs.declared.step.Step.{Step}
use Rattle.pc_simplex_tableau.specs.Numbers.{first_below}
use Rattle.pc_simplex_tableau.specs.Tableau.{Tableau, Columns, WholeRun, ended, wide, stalled, run, entering}
use Rattle.pc_simplex_tableau.specs.Relaxation.{left_of, one_at, phase_one, phase_two, first_tableau, with_gains, freed, does_freed_fit, has_helper, multiplier, multipliers, Ending, at_vertex, at_void, at_wide, at_stall, phase_two_from, phase_one_from, ending}
use Rattle.pc_simplex_tableau.specs.Standing.{IsStanding, gain_one, gain_two}
use Rattle.pc_simplex_tableau.proofs.Counted.{HasCounts, HasCounts-vertex}
use Rattle.pc_simplex_tableau.proofs.Frames.{IsFrame-ranges}
use Rattle.pc_simplex_tableau.proofs.Listed.{length-table}
use Rattle.pc_simplex_tableau.proofs.Shorts.{void_at_once}
use Rattle.pc_simplex_tableau.proofs.Start.{IsStanding-start}
use Rattle.pc_simplex_tableau.proofs.StartSecond.{IsStanding-second}
use Rattle.pc_simplex_tableau.proofs.Steps.{IsEnded-run}
use Rattle.pc_simplex_tableau.proofs.Voids.{void_of-helper}

module _ (p : Program) (floors caps : List ℕ) (program : IsProgram p) (box : IsBox p floors caps) where
  abbrev one : Columns
  one = phase_one p floors caps

  abbrev two : Columns
  two = phase_two p floors caps

  abbrev Stands : Tableau → Type 0
  Stands t = IsStanding p floors (gain_two p) two t × (entering two t ≡ None)

  abbrev HasNone : Mult → Type 0
  HasNone mult = (length mult.by ≡ constraints_of p) × (mult.den ≡ pos 1) × (raw_bound (without_gain p) floors caps mult <ℤ pos 0)

  -- what an ending shows
  abbrev Shows : Ending → Type 0
  Shows (at_vertex steps t) = Stands t
  Shows (at_void steps mult) = HasNone mult
  Shows (at_wide steps) = Unit
  Shows (at_stall steps) = Unit

  second_run : (left : ℕ) (steps : List Step) (t : Tableau) → IsStanding p floors (gain_two p) two t → (found : WholeRun) → run two left steps t ≡ found →
      Shows (elim found [ ended left steps t ↦ at_vertex steps t | wide steps ↦ at_wide steps | stalled steps ↦ at_stall steps ])
  second_run left steps t standing (ended rest taken after) e = IsEnded-run p floors (gain_two p) two left steps t rest taken after standing e
  second_run left steps t standing (wide taken) e = tt
  second_run left steps t standing (stalled taken) e = tt

  second : (left : ℕ) (steps : List Step) (t : Tableau) → IsStanding p floors (gain_two p) two (freed (with_gains p t)) → (fit : Bool) →
      Shows (elim fit [
        | false ↦ at_wide steps
        | true ↦ elim (run two left steps (freed (with_gains p t))) [ ended left steps t ↦ at_vertex steps t | wide steps ↦ at_wide steps | stalled steps ↦ at_stall steps ]
      ])
  second left steps t standing true = second_run left steps (freed (with_gains p t)) standing (run two left steps (freed (with_gains p t))) refl
  second left steps t standing false = tt

  after_first : (left : ℕ) (steps : List Step) (t : Tableau) → IsStanding p floors (gain_one p floors) one t → entering one t ≡ None → (has : Bool) → has_helper one t ≡ has →
      Shows (elim has [ true ↦ at_void steps (multipliers p t (pos 1)) | false ↦ phase_two_from p floors caps left steps t ])
  after_first left steps t standing over true e =
      (length-table (constraints_of p) (multiplier p t), refl, void_of-helper p floors caps t program box standing over e)
  after_first left steps t standing over false e = second left steps t (IsStanding-second p floors caps t standing e) (does_freed_fit (with_gains p t))

  first_run : (t : Tableau) → IsStanding p floors (gain_one p floors) one t → (found : WholeRun) → run one 20_000 [] t ≡ found →
      Shows (elim found [
        | ended left steps t ↦ elim (has_helper one t) [ true ↦ at_void steps (multipliers p t (pos 1)) | false ↦ phase_two_from p floors caps left steps t ]
        | wide steps ↦ at_wide steps
        | stalled steps ↦ at_stall steps
      ])
  first_run t standing (ended left taken after) e =
      let end = IsEnded-run p floors (gain_one p floors) one 20_000 [] t left taken after standing e in
      after_first left taken after end.0 end.1 (has_helper one after) refl
  first_run t standing (wide taken) e = tt
  first_run t standing (stalled taken) e = tt

  first : IsStanding p floors (gain_one p floors) one (freed (first_tableau p floors caps)) → (fit : Bool) →
      Shows (elim fit [
        | false ↦ at_wide []
        | true ↦ elim (run one 20_000 [] (freed (first_tableau p floors caps))) [
          | ended left steps t ↦ elim (has_helper one t) [ true ↦ at_void steps (multipliers p t (pos 1)) | false ↦ phase_two_from p floors caps left steps t ]
          | wide steps ↦ at_wide steps
          | stalled steps ↦ at_stall steps
        ]
      ])
  first standing true = first_run (freed (first_tableau p floors caps)) standing (run one 20_000 [] (freed (first_tableau p floors caps))) refl
  first standing false = tt

  at_start : (short : Option ℕ) → first_below (constraints_of p) (λ j. int_lt (left_of p floors j) (pos 0)) ≡ short →
      Shows (elim short [ Some j ↦ at_void [] (one_at p j) | None ↦ phase_one_from p floors caps (first_tableau p floors caps) ])
  at_start (Some j) e = (length-table (constraints_of p) (λ k. cond (k == j) (pos 1) (pos 0)), refl, void_at_once p floors caps j box e)
  at_start None e = first (IsStanding-start p floors caps e) (does_freed_fit (first_tableau p floors caps))

  shown : Shows (ending p floors caps)
  shown = at_start (first_below (constraints_of p) (λ j. int_lt (left_of p floors j) (pos 0))) refl

pub vertex_stands : (p : Program) (floors caps : List ℕ) (steps : List Step) (t : Tableau) → IsProgram p → IsBox p floors caps → ending p floors caps ≡ at_vertex steps t →
    IsStanding p floors (gain_two p) (phase_two p floors caps) t × (entering (phase_two p floors caps) t ≡ None)
vertex_stands p floors caps steps t program box e = subst (Shows p floors caps program box) e (shown p floors caps program box)

pub vertex_counts : (p : Program) (floors caps : List ℕ) (steps : List Step) (t : Tableau) → IsProgram p → IsBox p floors caps → ending p floors caps ≡ at_vertex steps t →
    HasCounts p floors caps t
vertex_counts p floors caps steps t program box e =
    let end = vertex_stands p floors caps steps t program box e in
    HasCounts-vertex p floors caps (phase_two p floors caps) t program box (IsFrame-ranges p floors caps (Some 0)) refl end.0 end.1

pub vertex_of : (p : Program) (floors caps : List ℕ) (steps : List Step) (t : Tableau) → IsProgram p → IsBox p floors caps → ending p floors caps ≡ at_vertex steps t →
    (d : ℕ) × (counts : List ℕ) × IsRelaxed p floors caps d counts × (t.weight *ℤ worth p counts ≡ pos d *ℤ raw_bound p floors caps (multipliers p t t.weight))
vertex_of p floors caps steps t program box e =
    let there = vertex_counts p floors caps steps t program box e in
    (there.den, there.counts, there.relaxed, there.greatest)

pub void_shows : (p : Program) (floors caps : List ℕ) (steps : List Step) (mult : Mult) → IsProgram p → IsBox p floors caps → ending p floors caps ≡ at_void steps mult →
    (length mult.by ≡ constraints_of p) × (mult.den ≡ pos 1) × (raw_bound (without_gain p) floors caps mult <ℤ pos 0)
void_shows p floors caps steps mult program box e = subst (Shows p floors caps program box) e (shown p floors caps program box)

pub void_of : (p : Program) (floors caps : List ℕ) (steps : List Step) (mult : Mult) → IsProgram p → IsBox p floors caps → ending p floors caps ≡ at_void steps mult → raw_bound (without_gain p) floors caps mult <ℤ pos 0
void_of p floors caps steps mult program box e = (void_shows p floors caps steps mult program box e).2
