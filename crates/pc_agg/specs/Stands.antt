-- Where the end of a least or a greatest number stands, and what shows it.
use Rattle.std.specs.Prelude.{◌≡◌, ⊤, ℕ, ◌-◌, ◌≤◌, ◌^◌, ◌==◌, nat_abs, ℤ, pos, ◌≤ℤ◌, ◌<ℤ◌, int_lt, int_le, Bool, true, false, ◌&&◌, ◌⊎◌, List, length, ◌++◌, All, Any, Option, Some, None, IfSome, is_some}
use Rattle.std.specs.List.{AllZip}
use Rattle.pc_model.specs.declared.row.Row.{Row}
use Rattle.pc_model.specs.declared.tree.Tree.{Tree}
use Rattle.pc_model.specs.Runs.{runs_from}
use Rattle.pc_program_bound.specs.declared.program.Program.{Program}
use Rattle.pc_program_bound.specs.Sums.{int_at}
use Rattle.pc_program_bound.specs.Allocation.{IsProgram}
use Rattle.pc_branch.specs.Ends.{HasSmallGains}
use Rattle.pc_proof.specs.declared.answer.Proof.{Proof}
use Rattle.pc_proof.specs.declared.answer.Proof.TheVariants as proofs
use Rattle.pc_proof.specs.declared.answer.Mark.{Mark}
use Rattle.pc_proof.specs.declared.answer.Mark.TheVariants as marks
use Rattle.pc_proof.specs.declared.answer.End.{End}
use Rattle.pc_proof.specs.Setting.{Setting, cells, counting, program_for, program_without}
use Rattle.pc_proof.specs.Table.{one}
use Rattle.pc_branch_licences.specs.Pools.{AreLawful}
use Rattle.pc_agg_search.specs.declared.extreme.Extreme.{Extreme}
use Rattle.pc_agg.specs.declared.climb.Standing.{Standing}
use Rattle.pc_agg.specs.declared.ladder.Ladder.{Ladder}
use Rattle.pc_agg.specs.declared.ladder.Test.{Test}
use Rattle.pc_agg.specs.declared.ladder.Test.TheVariants.{Reach, Avoid}
use Rattle.pc_agg_search.specs.declared.want.Want.{Want}
use Rattle.pc_agg_search.specs.declared.want.Want.TheVariants as wants
use Rattle.pc_agg.specs.declared.stand.Stand.{Stand}
use Rattle.pc_agg.specs.declared.stand.Stood.{Stood}
use Rattle.pc_agg.specs.declared.stand.Stood.TheVariants as stoods
use Rattle.pc_agg.specs.Marks.{ShowsFirst}
use Rattle.pc_agg_search.specs.Ends.{signed}
use Rattle.pc_agg_search.specs.Fitting.{IsVoidTree}
use Rattle.pc_agg_search.specs.Flat.{flat_tree}
use Rattle.pc_agg_search.specs.Wants.{want_for}
use Rattle.pc_agg_search.specs.Keys.{key_of, IsAtEnd}
use Rattle.pc_agg.specs.Rungs.{reaches, avoids, IsKey, rung_program}
use Rattle.pc_agg_search.specs.Wants.{FallsShort, IsDoubt, IsFound}

-- the programs that show that no list passes a key, and that each list with a value comes up to it
abbrev pub passing : Setting → Extreme → ℤ → Program
passing s extreme key = program_for s (counting (λ class. int_lt key (key_of s extreme class)))

abbrev pub falling_short : Setting → Extreme → ℤ → Program
falling_short s extreme key = program_without s (λ class. int_le (key_of s extreme class) key)

abbrev pub shown_by : Setting → Extreme → Test → ℤ → Program
shown_by s extreme Reach key = passing s extreme key
shown_by s extreme Avoid key = falling_short s extreme key

abbrev pub want_at : Test → Bool → Want
want_at Reach observed = wants.Gaining
want_at Avoid observed = want_for observed

-- a tree shows the end, or at a near end an observed row
abbrev pub IsProved : Setting → ℕ → Extreme → Test → Option ℤ → ℤ → Proof → Type 0
IsProved s budget extreme test seen key (proofs.Tree tree) = FallsShort (shown_by s extreme test key) (want_at test (is_some seen)) budget tree
IsProved s budget extreme Avoid seen key proofs.Rows = seen ≡ Some key
IsProved s budget extreme Reach seen key proofs.Rows = ⊥
IsProved s budget extreme test seen key (proofs.At r t) = ⊥
IsProved s budget extreme test seen key proofs.Values = ⊥

abbrev pub IsBeside : Test → Option ℤ → ℤ → Type 0
IsBeside Reach seen key = IfSome seen (λ m. m ≤ℤ key)
IsBeside Avoid seen key = IfSome seen (λ m. key ≤ℤ m)

-- the key is that of a chosen cell, beyond what was observed, and rows of such cells are wanted
pub record IsBeyond (s : Setting) (budget : ℕ) (extreme : Extreme) (seen : Option ℤ) (found : List (List ℕ)) (stand : Stand) : Type 0 where
  pub of_cell : IsKey s extreme stand.key
  pub beyond : IfSome seen (λ m. m <ℤ stand.key)
  pub program_is : stand.program ≡ reaches s extreme stand.key
  pub want_is : stand.want ≡ wants.Gaining
  pub doubt : IsDoubt (reaches s extreme stand.key) wants.Gaining budget found

-- an observed row has the key, and any list is wanted
pub record IsObservedKey (s : Setting) (seen : Option ℤ) (stand : Stand) : Type 0 where
  pub observed : seen ≡ Some stand.key
  pub program_is : stand.program ≡ program_for s one
  pub want_is : stand.want ≡ wants.Any

-- the key is that of a chosen cell or of an observed row, and lists without rows that fall short of it are wanted
pub record IsNear (s : Setting) (budget : ℕ) (extreme : Extreme) (seen : Option ℤ) (found : List (List ℕ)) (stand : Stand) : Type 0 where
  pub of_cell : IsKey s extreme stand.key ⊎ (seen ≡ Some stand.key)
  pub program_is : stand.program ≡ avoids s extreme stand.key
  pub want_is : stand.want ≡ want_for (is_some seen)
  pub doubt : IsDoubt (avoids s extreme stand.key) (want_for (is_some seen)) budget found

abbrev pub IsWanted : Setting → ℕ → Extreme → Test → Option ℤ → List (List ℕ) → Stand → Type 0
IsWanted s budget extreme Reach seen found stand = IsBeyond s budget extreme seen found stand ⊎ IsObservedKey s seen stand
IsWanted s budget extreme Avoid seen found stand = IsNear s budget extreme seen found stand

pub record IsStand (s : Setting) (budget : ℕ) (extreme : Extreme) (test : Test) (seen : Option ℤ) (found : List (List ℕ)) (stand : Stand) : Type 0 where
  pub proved : IsProved s budget extreme test seen stand.key stand.proof
  pub beside : IsBeside test seen stand.key
  pub wanted : IsWanted s budget extreme test seen found stand
  pub program : IsProgram stand.program
  pub small : HasSmallGains stand.program
  pub few : nat_abs stand.key ≤ 2 ^ 63
  pub picked : AllZip (IsAtEnd s extreme) (cells s) stand.picks

-- what was found before, and what the searches of the end found
pub record IsStoodAt (s : Setting) (budget : ℕ) (extreme : Extreme) (test : Test) (seen : Option ℤ) (before : List (List ℕ)) (stand : Stand) (found : List (List ℕ)) : Type 0 where
  pub more : List (List ℕ)
  pub grown : found ≡ before ++ more
  pub lawful : All (AreLawful s) more
  pub stand_is : IsStand s budget extreme test seen found stand

abbrev pub IsStood : Setting → ℕ → Extreme → Test → Option ℤ → List (List ℕ) → Stood → Type 0
IsStood s budget extreme test seen before (stoods.At on) = IsStoodAt s budget extreme test seen before on.stand on.found
IsStood s budget extreme test seen before (stoods.Empty tree) = IsVoidTree s budget tree

-- no search was cut short, and some list was found
abbrev pub IsStoodSurely : Stood → Type 0
IsStoodSurely (stoods.At on) = Any (IsFound on.stand.program on.stand.want) on.found
IsStoodSurely (stoods.Empty tree) = ⊤

-- ---- the stand on a rung

-- at a far end the last rung is that of an observed row, where there is one
abbrev pub is_observed : Test → Bool → Bool → Bool
is_observed Reach observed last = observed && last
is_observed Avoid observed last = false

-- the tree of the rung before, or what shows the first rung
abbrev pub proof_of : ℕ → Test → Bool → Option Tree → Proof
proof_of constraints test observed (Some tree) = proofs.Tree tree
proof_of constraints Reach observed None = proofs.Tree (flat_tree constraints)
proof_of constraints Avoid true None = proofs.Rows
proof_of constraints Avoid false None = proofs.Tree (flat_tree constraints)

abbrev pub AttainsBy : Setting → Extreme → Test → Bool → ℤ → Program → Want → Bool → Type 0
AttainsBy s extreme test observed key p want true = (p ≡ program_for s one) × (want ≡ wants.Any)
AttainsBy s extreme test observed key p want false = (p ≡ rung_program s extreme test key) × (want ≡ want_at test observed)

-- the program whose wanted counts attain the end on a rung
pub record IsAttaining (s : Setting) (ladder : Ladder) (observed : Bool) (place : ℕ) (p : Program) (want : Want) : Type 0 where
  pub by : AttainsBy s ladder.extreme ladder.test observed (int_at ladder.rungs place) p want (is_observed ladder.test observed (length ladder.rungs - place == 1))
  pub program : IsProgram p
  pub small : HasSmallGains p

pub record IsStoodOn (s : Setting) (constraints : ℕ) (ladder : Ladder) (observed : Bool) (standing : Standing) (picks : List Row) (stand : Stand) (found : List (List ℕ)) : Type 0 where
  pub found_is : found ≡ standing.found
  pub key_is : stand.key ≡ int_at ladder.rungs standing.place
  pub proof_is : stand.proof ≡ proof_of constraints ladder.test observed standing.tree
  pub attaining : IsAttaining s ladder observed standing.place stand.program stand.want
  pub picks_are : stand.picks ≡ picks

-- ---- the end that a stand gives

-- the runs of wanted counts; or none of those that were found are wanted
abbrev pub IsMarkedBy : Stand → List (List ℕ) → Mark → Type 0
IsMarkedBy stand found (marks.Exact runs) = Any (λ counts. IsFound stand.program stand.want counts × (runs ≡ runs_from stand.picks counts)) found
IsMarkedBy stand found marks.Outer = All (λ counts. IsFound stand.program stand.want counts → ⊥) found

pub record IsEndAt (extreme : Extreme) (stand : Stand) (found : List (List ℕ)) (end : End) : Type 0 where
  pub value : end.value ≡ record { num = signed extreme stand.key; den = pos 1 }
  pub marked : IsMarkedBy stand found end.mark
  pub first : ShowsFirst (IsFound stand.program stand.want) stand.picks found end.mark
  pub proof : end.proof ≡ stand.proof
