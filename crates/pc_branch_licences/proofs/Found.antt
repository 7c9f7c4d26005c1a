-- What holds of all counts that were found holds of the counts of the runs that an answer shows.
use Rattle.std.proofs.Common.{ℕ, List, get_or}
use Rattle.std.specs.Prelude.{ℤ}
use Rattle.std.proofs.lemmas.List.Elements.{All-contains}
use Rattle.pc_program_bound.specs.declared.program.Program.{Program}
use Rattle.pc_program_bound.specs.Allocation.{IsAllocation}
use Rattle.pc_proof.specs.declared.answer.Answer.{Answer}
use Rattle.pc_proof.specs.Setting.{Setting}
use Rattle.pc_branch_licences.specs.Licensed.{IsSpent}
use Rattle.pc_branch_licences.specs.Pools.{ShownFrom, HoldsNone}
use Rattle.pc_branch_licences.specs.Shown.{counts_of_runs, shown_runs}
use Rattle.pc_branch_licences.specs.Wanted.{Wanted, Has, LeavesOpen}

pub shown-found : (s : Setting) (budget : ℕ) (answer : Answer) (found : List (List ℕ)) (p : Program) (e : ℤ) (wanted : Wanted) → LeavesOpen p budget e wanted →
    ShownFrom s found answer → HoldsNone found p wanted → IsSpent s budget answer p e wanted
shown-found s budget answer found p e wanted left shown none = record {
  left = left;
  found = λ place d inside.
      All-contains (λ counts. IsAllocation p p.floor p.cap counts → Has p wanted counts → ⊥) found (counts_of_runs s (get_or (shown_runs answer) place d)) none
      (shown place d inside);
}
