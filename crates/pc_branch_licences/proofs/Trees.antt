-- What a licence's tree says without the value that it is for, and that its whole points are not wanted where what was found is not.
use Rattle.std.proofs.Common.{◌≡◌, ℕ, List, Option, Some, None, MatchOption, sym, arith}
use Rattle.std.specs.Prelude.{ℤ, ◌≤ℤ◌}
use Rattle.std.proofs.lemmas.Int.{ints}
use Rattle.std.proofs.lemmas.Option.{none-some}
use Rattle.pc_program_bound.specs.declared.program.Program.{Program}
use Rattle.pc_program_bound.specs.Allocation.{IsProgram, IsBox, worth}
use Rattle.pc_program_bound.specs.Bound.{bound_of}
use Rattle.pc_program_bound.specs.SplitTrees.{less_caps, more_floors}
use Rattle.pc_program_bound.proofs.WalkParts.{whole_box, less_box, more_box}
use Rattle.pc_simplex.proofs.Vertices.{IsVertex-point}
use Rattle.pc_branch.specs.Ends.{whole_counts}
use Rattle.pc_branch.specs.Licence.{Splits, leaf, split, AreSplitNodes, IsSearchTree, IsLicence, HoldsWholePoints}
use Rattle.pc_branch.proofs.Points.{whole-worth}
use Rattle.pc_branch_licences.specs.Wanted.{Wanted, any, nothing, some, without, from, Has, IsShort, EndsInNone, LeavesOpen}

-- ---- a tree for no value

splits-free : (p : Program) (e : ℤ) (tree : Splits) (floors caps : List ℕ) → AreSplitNodes p (Some e) floors caps tree → AreSplitNodes p None floors caps tree
splits-free p e leaf floors caps splits = tt
splits-free p e (split cell at less more) floors caps splits = (
  (
    splits.0.0,
    splits.0.1,
    record {
      inside = splits.0.2.inside;
      less = splits.0.2.less;
      more = splits.0.2.more;
      relaxed = splits.0.2.relaxed;
      parted = splits.0.2.parted;
      worthy = tt;
    },
  ),
  splits-free p e less floors (less_caps caps cell at) splits.1,
  splits-free p e more (more_floors floors cell at) caps splits.2,
)

pub search-free : (p : Program) (budget : ℕ) (e : ℤ) (tree : Splits) → IsSearchTree p budget (Some e) tree → IsSearchTree p budget None tree
search-free p budget e tree search = record { few = search.few; splits = splits-free p e tree p.floor p.cap search.splits }

-- ---- whole points

-- counts that are worth no more than what was found
not-wanted : (p : Program) (wanted : Wanted) (found : Option (List ℕ)) (counts : List ℕ) (most : ℤ) → worth p counts ≡ most →
    MatchOption found ⊥ (λ best. most ≤ℤ worth p best) → IsShort p wanted found → Has p wanted counts → ⊥
not-wanted p wanted None counts most is held short has = held
not-wanted p any (Some best) counts most is held short has = none-some best (sym short)
not-wanted p nothing (Some best) counts most is held short has = has
not-wanted p some (Some best) counts most is held short has = omega (arith, ints, is, held, short, has)
not-wanted p without (Some best) counts most is held short has = omega (arith, ints, is, held, short, has)
not-wanted p (from least) (Some best) counts most is held short has = omega (arith, ints, is, held, short, has)

module _ (p : Program) (program : IsProgram p) (e : ℤ) (found : Option (List ℕ)) (wanted : Wanted) (short : IsShort p wanted found) where
  leaves-short : (tree : Splits) (floors caps : List ℕ) → IsBox p floors caps → AreSplitNodes p (Some e) floors caps tree → HoldsWholePoints p found floors caps tree →
      EndsInNone p wanted floors caps tree
  leaves-short leaf floors caps box splits holds = λ point mult relaxed whole has.
      not-wanted p wanted found (whole_counts point) (bound_of p floors caps mult)
      (whole-worth p floors caps point mult (IsVertex-point p floors caps program box point mult relaxed) whole) (holds point mult relaxed whole) short has
  leaves-short (split cell at less more) floors caps box splits holds = (
    leaves-short less floors (less_caps caps cell at) (less_box p floors caps cell at box splits.0.2.less splits.0.2.more) splits.1 holds.0,
    leaves-short more (more_floors floors cell at) caps (more_box p floors caps cell at box splits.0.2.less splits.0.2.more) splits.2 holds.1,
  )

pub licence-open : (p : Program) (budget : ℕ) (e : ℤ) (found : Option (List ℕ)) (wanted : Wanted) (tree : Splits) → IsProgram p → IsLicence p budget e tree →
    HoldsWholePoints p found p.floor p.cap tree → IsShort p wanted found → LeavesOpen p budget e wanted
licence-open p budget e found wanted tree program licence holds short = record {
  tree = tree;
  licence = licence;
  leaves = leaves-short p program e found wanted short tree p.floor p.cap (whole_box p program) licence.search.splits holds;
}
