-- What the programs of all rows and of the chosen ones say of the relation and of the lack.
use Rattle.std.specs.Prelude.{◌≡◌, ⊤, ℕ, ◌<◌, pos, neg_ℤ, ◌≤ℤ◌, Bool, true, false, List, [], ◌++◌, length, All, Any}
use Rattle.pc_model.specs.declared.tree.Tree.{Tree}
use Rattle.pc_model.specs.Cells.{Class}
use Rattle.pc_proof.specs.declared.answer.NeverBy.TheVariants as nevers
use Rattle.pc_proof.specs.Setting.{Setting, cells}
use Rattle.pc_proof.specs.Table.{Shows, ShowsImpossible}
use Rattle.pc_branch_licences.specs.Pools.{AreLawful}
use Rattle.pc_agg.specs.declared.grounds.Lacking.{Lacking}
use Rattle.pc_agg.specs.declared.grounds.Lacking.TheVariants as lackings
use Rattle.pc_agg.specs.declared.grounds.Grounds.{Grounds}
use Rattle.pc_agg.specs.declared.grounds.Grounded.{Grounded}
use Rattle.pc_agg.specs.declared.grounds.Grounded.TheVariants as grounds
use Rattle.pc_agg_search.specs.declared.want.Want.TheVariants as wants
use Rattle.pc_agg.specs.Settling.{IsUnlisted, IsOfCells}
use Rattle.pc_agg_search.specs.Fitting.{IsSmallTree}
use Rattle.pc_agg_search.specs.Wants.{want_for, most_chosen, fewest_chosen, IsDoubt, IsFound}

-- where nothing was found, both totals were cut short and do not cross
abbrev pub IsUnlistedIfNone : Setting → ℕ → List (List ℕ) → Type 0
IsUnlistedIfNone s budget found = found ≡ [] → IsUnlisted s budget []

-- rows were observed, or some cell is chosen
abbrev pub HasValues : Setting → Bool → Type 0
HasValues s true = ⊤
HasValues s false = Any (λ (class : Class). class.chosen ≡ true) (cells s)

-- no list lacks a value, or one that does was found or may be there
abbrev pub IsLacking : Setting → Bool → ℕ → List (List ℕ) → Lacking → Type 0
IsLacking s observed budget found (lackings.Never nevers.Rows) = observed ≡ true
IsLacking s observed budget found (lackings.Never (nevers.Tree t)) = (observed ≡ false) × Shows (fewest_chosen s) t (λ k. k ≤ℤ neg_ℤ (pos 1)) × IsSmallTree budget t
IsLacking s observed budget found lackings.Open = (observed ≡ false) × IsDoubt (fewest_chosen s) wants.Without budget found

pub record AreGrounds (s : Setting) (observed : Bool) (budget : ℕ) (grounds : Grounds) : Type 0 where
  pub some : HasValues s observed
  pub lawful : All (AreLawful s) grounds.found
  pub totals : IsUnlistedIfNone s budget grounds.found
  pub lacking_is : IsLacking s observed budget grounds.found grounds.lacking
  pub doubt : IsDoubt (most_chosen s) (want_for observed) budget grounds.found

-- no list gives a value
pub record AreAlways (s : Setting) (observed : Bool) (budget : ℕ) (tree : Tree) (found : List (List ℕ)) : Type 0 where
  pub unseen : observed ≡ false
  pub lawful : All (AreLawful s) found
  pub totals : IsUnlistedIfNone s budget found
  pub shows : Shows (most_chosen s) tree (λ k. k ≤ℤ pos 0)
  pub small : IsSmallTree budget tree

abbrev pub IsGrounded : Setting → Bool → ℕ → Grounded → Type 0
IsGrounded s observed budget (grounds.Impossible why) = ShowsImpossible s why × IsOfCells budget why
IsGrounded s observed budget (grounds.Always tree found) = AreAlways s observed budget tree found
IsGrounded s observed budget (grounds.Open left) = AreGrounds s observed budget left

-- what was found before stands first in what was found
abbrev pub IsKept : List (List ℕ) → Grounded → Type 0
IsKept before (grounds.Impossible why) = ⊤
IsKept before (grounds.Always tree found) = (more : List (List ℕ)) × (found ≡ before ++ more)
IsKept before (grounds.Open left) = (more : List (List ℕ)) × (left.found ≡ before ++ more)

-- ---- no search was cut short

abbrev pub IsLackingSurely : Setting → List (List ℕ) → Lacking → Type 0
IsLackingSurely s found (lackings.Never by') = ⊤
IsLackingSurely s found lackings.Open = Any (IsFound (fewest_chosen s) wants.Without) found

pub record AreGroundsSurely (s : Setting) (observed : Bool) (grounds : Grounds) : Type 0 where
  pub listed : 0 < length grounds.found
  pub lacking_surely : IsLackingSurely s grounds.found grounds.lacking
  pub found_some : Any (IsFound (most_chosen s) (want_for observed)) grounds.found

abbrev pub IsGroundedSurely : Setting → Bool → Grounded → Type 0
IsGroundedSurely s observed (grounds.Impossible why) = ⊤
IsGroundedSurely s observed (grounds.Always tree found) = 0 < length found
IsGroundedSurely s observed (grounds.Open left) = AreGroundsSurely s observed left
