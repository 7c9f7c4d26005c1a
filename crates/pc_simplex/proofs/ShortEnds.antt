-- What the second phase in short form ends in is what the definition says.
use Rattle.std.proofs.Common.{◌≡◌, ℕ, true, false, List, Option, Some, None, IfSome, ap, sym, ◌∙◌}
use Rattle.pc_program_bound.specs.declared.program.Program.{Program}
use Rattle.pc_simplex_tableau.specs.declared.step.Step.{Step}
use Rattle.pc_simplex_tableau.specs.Tableau.{Tableau, run}
use Rattle.pc_simplex_tableau.specs.Relaxation.{Ending, at_wide, phase_two, phase_two_from, with_gains, freed}
use Rattle.pc_simplex.specs.Phases.{ending_by}
use Rattle.pc_simplex.specs.Shorts.{IsEndingFrom}

pub ending_from : (p : Program) (floors caps : List ℕ) (left : ℕ) (steps : List Step) (t : Tableau) (e : Ending)
    → IsEndingFrom (phase_two p floors caps) left steps (with_gains p t) e → e ≡ phase_two_from p floors caps left steps t
ending_from p floors caps left steps t e h =
    h.1 ∙ ap (λ b. elim b [ false ↦ at_wide steps | true ↦ ending_by (run (phase_two p floors caps) left steps (freed (with_gains p t))) ]) (sym h.0)

pub some-weaker : {A : Type 0} (o : Option A) (P Q : A → Type 0) → ((x : A) → P x → Q x) → IfSome o P → IfSome o Q
some-weaker None P Q f h = h
some-weaker (Some x) P Q f h = f x h
