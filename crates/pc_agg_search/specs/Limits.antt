-- What a search says of a program: the most that its allocations can be worth, with what shows it, or that it has none.
use Rattle.std.specs.Prelude.{◌≡◌, ℕ, ◌≤◌, ◌*◌, ◌^◌, ◌⊎◌, ⊤, ℤ, pos, ◌*ℤ◌, ◌≤ℤ◌, nat_abs, List, [], ◌∷◌, Option, Some, None, IfSome, IsSomeAnd, MatchOption}
use Rattle.pc_model.specs.declared.tree.Tree.{Tree}
use Rattle.pc_program_bound.specs.declared.program.Program.{Program}
use Rattle.pc_program_bound.specs.Sums.{sum_below, nat_at, int_at}
use Rattle.pc_program_bound.specs.Allocation.{cells_of, IsAllocation, worth}
use Rattle.pc_program_bound.specs.SplitTrees.{Proves, IsInPreorder, bound_by, tree_of}
use Rattle.pc_branch.specs.Ends.{HasSmallGains}
use Rattle.pc_branch.specs.Licence.{IsSearchTree, IsLicence, HoldsWholePoints}
use Rattle.pc_branch.specs.Outcome.{IsMost, AreFitLeaves, splits_of}
use Rattle.pc_agg_search.specs.declared.limit.Limit.{Limit}
use Rattle.pc_agg_search.specs.declared.limit.Sought.{Sought}
use Rattle.pc_agg_search.specs.declared.limit.Sought.TheVariants.{Within, Nothing}

-- the most that a row can gain: over an average of at most 201,000,000 rows whose numbers are at most 10^15 in size, the number
-- times the rows and the sum
abbrev pub greatest_gain : ℕ
greatest_gain = 402 * 10 ^ 21

-- the sizes of all gains, each as often as its cell can have rows
abbrev pub greatest_worth : Program → ℤ
greatest_worth p = sum_below (cells_of p) (λ i. pos (nat_abs (int_at p.gain i)) *ℤ pos (nat_at p.cap i))

-- what was found is worth the most
abbrev pub IsReached : Program → ℤ → Option (List ℕ) → Type 0
IsReached p most found = IsSomeAnd found (λ counts. worth p counts ≡ most)

-- the budget is spent: the tree's splits are a licence, and whole points at its leaves are worth no more than what was found
pub record IsCutShort (p : Program) (budget : ℕ) (most : ℤ) (found : Option (List ℕ)) (tree : Tree) : Type 0 where
  pub licence : IsLicence p budget most (splits_of (tree_of tree.nodes))
  pub whole : HoldsWholePoints p found p.floor p.cap (splits_of (tree_of tree.nodes))

pub record IsLimit (p : Program) (budget : ℕ) (limit : Limit) : Type 0 where
  pub program : limit.program ≡ p
  pub gains : HasSmallGains p
  pub preorder : IsInPreorder limit.tree.nodes
  pub proves : Proves p p.floor p.cap (tree_of limit.tree.nodes)
  pub within : MatchOption (bound_by p p.floor p.cap (tree_of limit.tree.nodes)) ⊤ (λ k. k ≤ℤ limit.most)
  pub most : IsMost p limit.most
  pub small : nat_abs limit.most ≤ 10 ^ 37
  pub gained : pos (nat_abs limit.most) ≤ℤ greatest_worth p
  pub search : IsSearchTree p budget None (splits_of (tree_of limit.tree.nodes))
  pub fits : AreFitLeaves (tree_of limit.tree.nodes)
  pub allowed : IfSome limit.found (IsAllocation p p.floor p.cap)
  pub why : IsReached p limit.most limit.found ⊎ IsCutShort p budget limit.most limit.found limit.tree

-- each leaf of the tree, which is a search tree, is void
pub record IsEmpty (p : Program) (budget : ℕ) (tree : Tree) : Type 0 where
  pub preorder : IsInPreorder tree.nodes
  pub proves : Proves p p.floor p.cap (tree_of tree.nodes)
  pub none : bound_by p p.floor p.cap (tree_of tree.nodes) ≡ None
  pub search : IsSearchTree p budget None (splits_of (tree_of tree.nodes))
  pub fits : AreFitLeaves (tree_of tree.nodes)

abbrev pub IsSought : Program → ℕ → Sought → Type 0
IsSought p budget (Within limit) = IsLimit p budget limit
IsSought p budget (Nothing tree) = IsEmpty p budget tree

-- nothing is left open
abbrev pub IsClosed : Program → Sought → Type 0
IsClosed p (Within limit) = IsReached p limit.most limit.found
IsClosed p (Nothing tree) = ⊤

-- what one search found
abbrev pub found_of : Option (List ℕ) → List (List ℕ)
found_of None = []
found_of (Some counts) = counts ∷ []
