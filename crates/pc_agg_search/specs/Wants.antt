-- Counts that are looked for, and what a search says of them.
use Rattle.std.specs.Prelude.{◌≡◌, ℕ, ℤ, pos, neg_ℤ, ◌≤ℤ◌, ◌<ℤ◌, ◌<◌, ◌⊎◌, ⊤, Bool, true, false, List, length, ◌++◌, take, All, Any, Option, None, MatchOption, slice_index_or, []}
use Rattle.pc_model.specs.declared.tree.Tree.{Tree}
use Rattle.pc_program_bound.specs.declared.program.Program.{Program}
use Rattle.pc_program_bound.specs.Sums.{nat_at}
use Rattle.pc_program_bound.specs.Allocation.{IsAllocation, cells_of, constraints_of, total, worth}
use Rattle.pc_program_bound.specs.SplitTrees.{Proves, IsInPreorder, bound_by, tree_of}
use Rattle.pc_branch.specs.Licence.{IsSearchTree}
use Rattle.pc_branch.specs.Outcome.{AreFitLeaves, splits_of}
use Rattle.pc_proof.specs.Setting.{Setting, on_chosen, program_for}
use Rattle.pc_proof.specs.Table.{one, minus_one}
use Rattle.pc_branch_licences.specs.Wanted.{Wanted, LeavesOpen}
use Rattle.pc_branch_licences.specs.Wanted as wanted
use Rattle.pc_agg_search.specs.declared.want.Want.{Want}
use Rattle.pc_agg_search.specs.declared.want.Want.TheVariants as wants
use Rattle.pc_agg_search.specs.declared.probes.ProbeVerdict.{ProbeVerdict}
use Rattle.pc_agg_search.specs.declared.probes.ProbeVerdict.TheVariants as verdicts
use Rattle.pc_agg_search.specs.declared.probes.Probed.{Probed}
use Rattle.pc_agg_search.specs.Limits.{IsEmpty}

abbrev pub wanted_of : Want → Wanted
wanted_of wants.Any = wanted.any
wanted_of wants.Gaining = wanted.some
wanted_of wants.Without = wanted.without
wanted_of (wants.From least) = wanted.from least

-- such counts have this worth
abbrev pub Reaches : Want → ℤ → Type 0
Reaches wants.Any n = ⊤
Reaches wants.Gaining n = pos 1 ≤ℤ n
Reaches wants.Without n = pos 0 ≤ℤ n
Reaches (wants.From least) n = least ≤ℤ n

-- no such counts have a worth within this bound
abbrev pub IsUnder : Want → ℤ → Type 0
IsUnder wants.Any k = ⊥
IsUnder wants.Gaining k = k ≤ℤ pos 0
IsUnder wants.Without k = k ≤ℤ neg_ℤ (pos 1)
IsUnder (wants.From least) k = k <ℤ least

-- the counts are allowed, and looked for
abbrev pub IsFound : Program → Want → List ℕ → Type 0
IsFound p want counts = IsAllocation p p.floor p.cap counts × Reaches want (worth p counts)

-- the place of the first counts that have it, or none of them has
abbrev pub IsPlaceOf : (List ℕ → Type 0) → List (List ℕ) → Option ℕ → Type 0
IsPlaceOf P found place =
    MatchOption place (All (λ counts. P counts → ⊥) found) (λ k. (k < length found) × P (slice_index_or found k []) × All (λ counts. P counts → ⊥) (take k found))

-- each constraint allows the counts, whatever the cells hold
pub record IsMet (p : Program) (counts : List ℕ) : Type 0 where
  pub sized : length counts ≡ cells_of p
  pub met : (j : ℕ) → j < constraints_of p → (pos (nat_at p.least j) ≤ℤ total p counts j) × (total p counts j ≤ℤ pos (nat_at p.most j))

-- such counts were found, or the budget is spent and they may be there
abbrev pub IsDoubt : Program → Want → ℕ → List (List ℕ) → Type 0
IsDoubt p want budget found = Any (IsFound p want) found ⊎ ((e : ℤ) × LeavesOpen p budget e (wanted_of want) × Reaches want e)

-- a search tree that shows that no allocation is looked for
pub record FallsShort (p : Program) (want : Want) (budget : ℕ) (tree : Tree) : Type 0 where
  pub preorder : IsInPreorder tree.nodes
  pub proves : Proves p p.floor p.cap (tree_of tree.nodes)
  pub under : MatchOption (bound_by p p.floor p.cap (tree_of tree.nodes)) ⊤ (IsUnder want)
  pub search : IsSearchTree p budget None (splits_of (tree_of tree.nodes))
  pub fits : AreFitLeaves (tree_of tree.nodes)

abbrev pub IsVerdict : Program → Want → ℕ → List (List ℕ) → ProbeVerdict → Type 0
IsVerdict p want budget found (verdicts.Empty tree) = IsEmpty p budget tree
IsVerdict p want budget found (verdicts.Short tree) = FallsShort p want budget tree
IsVerdict p want budget found verdicts.Open = IsDoubt p want budget found

-- what was found before, and what the search found
pub record IsProbed (p : Program) (want : Want) (budget : ℕ) (before : List (List ℕ)) (probed : Probed) : Type 0 where
  pub more : List (List ℕ)
  pub grown : probed.found ≡ before ++ more
  pub allowed : All (IsAllocation p p.floor p.cap) more
  pub verdict : IsVerdict p want budget probed.found probed.verdict

-- the search was not cut short
abbrev pub IsSure : Program → Want → Probed → Type 0
IsSure p want probed = sure_of probed.verdict
  where
    sure_of : ProbeVerdict → Type 0
    sure_of (verdicts.Empty tree) = ⊤
    sure_of (verdicts.Short tree) = ⊤
    sure_of verdicts.Open = Any (IsFound p want) probed.found

-- where rows were observed each list gives a value, and else those with a chosen row
abbrev pub want_for : Bool → Want
want_for true = wants.Any
want_for false = wants.Gaining

-- the programs that count the chosen rows, and of which the fewest
abbrev pub most_chosen : Setting → Program
most_chosen s = program_for s (on_chosen one)

abbrev pub fewest_chosen : Setting → Program
fewest_chosen s = program_for s (on_chosen minus_one)
