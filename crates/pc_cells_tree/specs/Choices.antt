-- Which cut is made along the open faces of a box: there is one for each column with such a face, and of these the first that passes through the fewest predicates.
use Rattle.std.specs.Prelude.{◌≡◌, ℕ, zero, suc, ◌+◌, ◌<◌, ◌≤◌, nat_le, ◌==◌, ◌&&◌, not, cond, Bool, false, List, length, Option, Some, None, MatchOption, ⊤, slice_get, bit_and}
use Rattle.std.specs.List.{list_any}
use Rattle.pc_model.specs.declared.region.Side.{Side}
use Rattle.pc_model.specs.declared.region.Side.TheVariants.{Span, Names}
use Rattle.pc_model.specs.declared.region.Region.{Region}
use Rattle.pc_model.specs.declared.constraint.When.{When}
use Rattle.pc_model.specs.declared.constraint.When.TheVariants.{Boxes, Outside}
use Rattle.pc_model.specs.declared.constraint.Constraint.{Constraint}
use Rattle.pc_model.specs.declared.tree.Cut.{Cut}
use Rattle.pc_model.specs.declared.tree.Cut.TheVariants.{At, Among}
use Rattle.pc_model.specs.CutTrees.{side_at}
use Rattle.pc_box.specs.Cuts.{divides_found}
use Rattle.pc_box.specs.Sides.{regions_meet}
use Rattle.pc_cells_tree.specs.declared.choice.Candidate.{Candidate}
use Rattle.pc_cells_tree.specs.declared.known.Known.{Known}
use Rattle.pc_cells_tree.specs.Knowing.{is_open}
use Rattle.pc_cells_tree.specs.Stances.{side_cut}

-- ---- through how many predicates a cut passes

-- some of the names are in a set, and some are not
abbrev pub is_parted : ℕ → ℕ → Bool
is_parted bits names = not (bit_and names bits == 0) && not (bit_and names bits == names)

-- .. of the names that two sides share
unfoldable pub is_shared_parted : ℕ → Option Side → Option Side → Bool
is_shared_parted bits None other = false
is_shared_parted bits (Some (Span low high)) other = false
is_shared_parted bits (Some (Names held)) None = false
is_shared_parted bits (Some (Names held)) (Some (Span low high)) = false
is_shared_parted bits (Some (Names held)) (Some (Names others)) = is_parted bits (bit_and held others)

-- what a box and a region share lies on both hands of the cut, as far as the column of the cut tells
unfoldable pub is_split : Region → Region → Cut → Bool
is_split part region (At column at) = divides_found (At column at) (slice_get region.sides column)
is_split part region (Among column bits) = is_shared_parted bits (slice_get part.sides column) (slice_get region.sides column)

-- the cut of a box passes through a region that the box meets
abbrev pub is_passed_box : Region → Cut → Region → Bool
is_passed_box part cut region = is_split part region cut && regions_meet part region

-- .. through a box of the area that a predicate names; what is outside names none
abbrev pub is_passed_when : Region → Cut → When → Bool
is_passed_when part cut (Boxes area) = list_any (is_passed_box part cut) area.boxes
is_passed_when part cut Outside = false

abbrev pub is_passed_found : Region → Cut → Option Constraint → Bool
is_passed_found part cut None = false
is_passed_found part cut (Some c) = is_passed_when part cut c.when

-- .. through the predicate at a place, of which nothing is known
abbrev pub is_passed : Region → List Constraint → Known → Cut → ℕ → Bool
is_passed part constraints known cut place = is_open known place && is_passed_found part cut (slice_get constraints place)

-- how many of the numbers below n pass a test
unfoldable pub count_below : (ℕ → Bool) → ℕ → ℕ
count_below test zero = 0
count_below test (suc n) = count_below test n + cond (test n) 1 0

abbrev pub passed_by : Region → List Constraint → Known → Cut → ℕ
passed_by part constraints known cut = count_below (is_passed part constraints known cut) (length constraints)

-- the number beside a cut, if there is one, is that of the predicates
abbrev pub IsCounted : Region → List Constraint → Known → Candidate → Type 0
IsCounted part constraints known candidate = MatchOption candidate.passed ⊤ (λ passed. passed ≡ passed_by part constraints known candidate.cut)

-- of two cuts the one that passes through fewer, and the first of equals
abbrev pub fewer_of : (Cut → ℕ) → Cut → Cut → Cut
fewer_of passed best cut = cond (nat_le (passed best) (passed cut)) best cut

-- ---- the cut that is made

-- the cut along the open faces of a column
abbrev pub cut_at : Region → Region → ℕ → Option Cut
cut_at part region column = side_cut column (side_at part column) (side_at region column)

-- of the cuts of the first n columns the one that passes through the fewest, and of equals the first
pub record IsFewest (cut_of : ℕ → Option Cut) (passed : Cut → ℕ) (n : ℕ) (cut : Cut) : Type 0 where
  pub column : ℕ
  pub there : column < n
  pub own : cut_of column ≡ Some cut
  pub fewest : (k : ℕ) (other : Cut) → k < n → cut_of k ≡ Some other → passed cut ≤ passed other
  pub first : (k : ℕ) (other : Cut) → k < column → cut_of k ≡ Some other → passed cut < passed other

abbrev pub IsChosen : Region → Region → List Constraint → Known → Cut → Type 0
IsChosen part region constraints known cut = IsFewest (cut_at part region) (passed_by part constraints known) (length part.sides) cut
