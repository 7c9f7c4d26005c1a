-- Which counts a search is made for, and that the leaves of a licence end in none of them.
use Rattle.std.specs.Prelude.{◌≡◌, ℕ, ℤ, pos, ◌≤ℤ◌, ◌<ℤ◌, List, Option, None, IfSome, ⊤}
use Rattle.pc_num.specs.declared.Frac.{Frac}
use Rattle.pc_model.specs.declared.tree.Mult.{Mult}
use Rattle.pc_program_bound.specs.declared.program.Program.{Program}
use Rattle.pc_program_bound.specs.Allocation.{worth}
use Rattle.pc_program_bound.specs.SplitTrees.{less_caps, more_floors}
use Rattle.pc_simplex_tableau.specs.Point.{vertex, IsRelaxation}
use Rattle.pc_branch.specs.Licence.{Splits, leaf, split, IsWhole, IsLicence}
use Rattle.pc_branch.specs.Ends.{whole_counts}

-- any counts, none, those worth 1 or more, those worth 0, those worth so much or more
pub data Wanted : Type 0 where
  any : Wanted
  nothing : Wanted
  some : Wanted
  without : Wanted
  from : ℤ → Wanted

abbrev pub Has : Program → Wanted → List ℕ → Type 0
Has p any counts = ⊤
Has p nothing counts = ⊥
Has p some counts = pos 1 ≤ℤ worth p counts
Has p without counts = worth p counts ≡ pos 0
Has p (from least) counts = least ≤ℤ worth p counts

-- what was found is not wanted, nor is what is worth no more
abbrev pub IsShort : Program → Wanted → Option (List ℕ) → Type 0
IsShort p any found = found ≡ None
IsShort p nothing found = ⊤
IsShort p some found = IfSome found (λ best. worth p best ≤ℤ pos 0)
IsShort p without found = IfSome found (λ best. worth p best <ℤ pos 0)
IsShort p (from least) found = IfSome found (λ best. worth p best <ℤ least)

-- at no leaf do the steps end in a whole point of wanted counts
abbrev pub EndsInNone : Program → Wanted → List ℕ → List ℕ → Splits → Type 0
EndsInNone p wanted floors caps leaf =
    (point : List Frac) (mult : Mult) → IsRelaxation p floors caps (vertex point mult) → IsWhole point → Has p wanted (whole_counts point) → ⊥
EndsInNone p wanted floors caps (split cell at less more) =
    EndsInNone p wanted floors (less_caps caps cell at) less × EndsInNone p wanted (more_floors floors cell at) caps more

-- the budget is spent at the program with this bound, and no leaf ends in what is wanted
pub record LeavesOpen (p : Program) (budget : ℕ) (e : ℤ) (wanted : Wanted) : Type 0 where
  pub tree : Splits
  pub licence : IsLicence p budget e tree
  pub leaves : EndsInNone p wanted p.floor p.cap tree
