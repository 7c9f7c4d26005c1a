-- What the programs of a block have found, beside what its answer shows.
use Rattle.std.specs.Prelude.{ℕ, List, All, Contains}
use Rattle.pc_program_bound.specs.declared.program.Program.{Program}
use Rattle.pc_program_bound.specs.Allocation.{IsAllocation}
use Rattle.pc_proof.specs.declared.answer.Answer.{Answer}
use Rattle.pc_proof.specs.Setting.{Setting, program_for}
use Rattle.pc_proof.specs.Table.{none}
use Rattle.pc_branch_licences.specs.Wanted.{Wanted, Has}
use Rattle.pc_branch_licences.specs.Shown.{shown_runs, counts_of_runs}

-- counts that the constraints allow
abbrev pub AreLawful : Setting → List ℕ → Type 0
AreLawful s counts = IsAllocation (program_for s none) (program_for s none).floor (program_for s none).cap counts

-- the counts of each list of runs that the answer shows are among those that were found
abbrev pub ShownFrom : Setting → List (List ℕ) → Answer → Type 0
ShownFrom s found answer = All (λ runs. Contains found (counts_of_runs s runs)) (shown_runs answer)

-- none of those that were found is an allocation of the program with wanted counts
abbrev pub HoldsNone : List (List ℕ) → Program → Wanted → Type 0
HoldsNone found p wanted = All (λ counts. IsAllocation p p.floor p.cap counts → Has p wanted counts → ⊥) found
