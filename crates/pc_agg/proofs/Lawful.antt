-- Counts that the constraints allow, of programs that differ in gains and caps alone.
use Rattle.std.proofs.Common.{◌≡◌, ℕ, ℤ, List, [], get_or, take, All, Any, Some, ap, subst, ◌∙◌}
use Rattle.std.specs.Prelude.{slice_index_or}
use Rattle.std.proofs.lemmas.List.{get_or_default, get_or_read}
use Rattle.pc_model.specs.declared.row.Row.{Row}
use Rattle.pc_model.specs.declared.row.Run.{Run}
use Rattle.pc_model.specs.Runs.{runs_from}
use Rattle.pc_program_bound.specs.declared.program.Program.{Program}
use Rattle.pc_model.specs.Cells.{Class}
use Rattle.pc_proof.specs.Setting.{Setting, program_for}
use Rattle.pc_branch_licences.specs.Pools.{AreLawful}
use Rattle.pc_agg_search.specs.declared.want.Want.{Want}
use Rattle.pc_agg_search.specs.Wants.{IsFound, IsMet, IsPlaceOf}
use Rattle.pc_agg.specs.Marks.{AreOfFirst}

pub lawful_met : (u : Setting) (gain : Class → ℤ) (found : List (List ℕ)) → All (AreLawful u) found → All (IsMet (program_for u gain)) found
lawful_met u gain found lawful place d inside = let own = lawful place d inside in record { sized = own.sized; met = own.met }

-- wanted counts at a place, and the runs that were made of them
pub some_listed : (p q : Program) (want : Want) (picks : List Row) (found : List (List ℕ)) (place : ℕ) (runs : List Run) → p ≡ q → IsPlaceOf (IsFound p want) found (Some place) →
    runs ≡ runs_from picks (slice_index_or found place []) → Any (λ counts. IsFound q want counts × (runs ≡ runs_from picks counts)) found
some_listed p q want picks found place runs same there is =
    (place, slice_index_or found place [], there.0, get_or_default found place (slice_index_or found place []) [] there.0, (subst (λ r. IsFound r want (slice_index_or found place [])) same there.1, is))

-- none before them is wanted
pub first_listed : (p q : Program) (want : Want) (picks : List Row) (found : List (List ℕ)) (place : ℕ) (runs : List Run) → p ≡ q → IsPlaceOf (IsFound p want) found (Some place) →
    runs ≡ runs_from picks (slice_index_or found place []) → AreOfFirst (IsFound q want) picks found runs
first_listed p q want picks found place runs same there is =
    (place, there.0, is, subst (λ r. All (λ counts. IsFound r want counts → ⊥) (take place found)) same there.2)

-- the runs that were made of the counts at a place
pub are_of_first : (P : List ℕ → Type 0) (picks : List Row) (found : List (List ℕ)) (place : ℕ) (counts : List ℕ) (runs : List Run) → IsPlaceOf P found (Some place) → counts ≡ get_or found place counts →
    runs ≡ runs_from picks counts → AreOfFirst P picks found runs
are_of_first P picks found place counts runs there is made =
    (place, there.0, made ∙ ap (runs_from picks) (get_or_read found place counts there.0 is []), there.2)
