-- How a box stands to a region and to an area, its open faces, and the cuts along them.
use Rattle.std.specs.Prelude.{◌≡◌, ℕ, ◌+◌, ◌<◌, ℤ, pos, ◌-ℤ◌, int_lt, nat_lt, ◌==◌, cond, if◌then◌else◌, true, false, List, [], ◌∷◌, length, drop, slice_index_or, All, Any, Option, Some, None, MatchOption}
use Rattle.pc_model.specs.declared.region.Side.{Side}
use Rattle.pc_model.specs.declared.region.Side.TheVariants.{Span, Names}
use Rattle.pc_model.specs.declared.region.Region.{Region}
use Rattle.pc_model.specs.declared.area.Area.{Area}
use Rattle.pc_model.specs.declared.tree.Cut.{Cut}
use Rattle.pc_model.specs.declared.tree.Cut.TheVariants.{At, Among}
use Rattle.pc_model.specs.CutTrees.{IsInside, IsApart, IsInsideArea, IsApartFromArea, side_at}
use Rattle.pc_model.specs.Places.{places_outside}
use Rattle.pc_box.specs.Sides.{regions_meet, region_within}
use Rattle.pc_cells_tree.specs.declared.choice.Candidate.{Candidate}
use Rattle.pc_cells_tree.specs.declared.stance.Stance.{Stance}
use Rattle.pc_cells_tree.specs.declared.stance.Stance.TheVariants.{Inside, Apart, Across}
use Rattle.pc_cells_tree.specs.declared.area_stance.AreaStance.{AreaStance}
use Rattle.pc_cells_tree.specs.declared.area_stance.AreaStance.TheVariants as areas

-- a schema has at most so many columns
abbrev pub column_limit : ℕ
column_limit = 12

-- ---- open faces

-- at how many of its ends a side reaches beyond another; a set does so once
unfoldable pub side_faces : Side → Side → ℕ
side_faces (Span low high) (Span other_low other_high) = cond (int_lt low other_low) 1 0 + cond (int_lt other_high high) 1 0
side_faces (Span low high) (Names bits) = 0
side_faces (Names bits) (Span low high) = 0
side_faces (Names bits) (Names other_bits) = cond (places_outside bits other_bits == 0) 0 1

abbrev pub faces_of : List Side → List Side → ℕ
faces_of [] others = 0
faces_of (side ∷ sides) [] = 0
faces_of (side ∷ sides) (other ∷ others) = side_faces side other + faces_of sides others

-- the open faces of a box: the ends and the sets along which it reaches beyond a region
abbrev pub open_faces : Region → Region → ℕ
open_faces part region = faces_of part.sides region.sides

-- ---- cuts along a region

-- the cut below the other span, or the one above it, if the span reaches that far
abbrev pub span_cut : ℕ → ℤ → ℤ → ℤ → ℤ → Option Cut
span_cut column low high other_low other_high =
    if int_lt low other_low then Some (At column (other_low -ℤ pos 1)) else (if int_lt other_high high then Some (At column other_high) else None)

-- the cut between the names that are in the other set and those that are not, if there are any
abbrev pub set_cut : ℕ → ℕ → ℕ → Option Cut
set_cut column bits other = if places_outside bits other == 0 then None else Some (Among column other)

unfoldable pub side_cut : ℕ → Side → Side → Option Cut
side_cut column (Span low high) (Span other_low other_high) = span_cut column low high other_low other_high
side_cut column (Span low high) (Names bits) = None
side_cut column (Names bits) (Span low high) = None
side_cut column (Names bits) (Names other_bits) = set_cut column bits other_bits

-- the cut is along an open face
abbrev pub IsAlong : Region → Region → Cut → Type 0
IsAlong part region cut = (column : ℕ) × (column < length part.sides) × (side_cut column (side_at part column) (side_at region column) ≡ Some cut)

-- .. or no face of the box is open
abbrev pub IsCandidateFor : Region → Region → Option Candidate → Type 0
IsCandidateFor part region best = MatchOption best (region_within part region ≡ true) (λ (candidate : Candidate). IsAlong part region candidate.cut)

-- ---- a box and a region

-- some rows of the box are in the region and some are not
pub record IsAcross (part region : Region) : Type 0 where
  pub not_inside : IsInside part region → ⊥
  pub not_apart : IsApart part region → ⊥

-- .. and the cut is along one of its open faces
pub record IsCutThrough (part region : Region) (cut : Cut) : Type 0 where
  pub across : IsAcross part region
  pub along : IsAlong part region cut

abbrev pub IsStance : Region → Region → Stance → Type 0
IsStance part region Inside = IsInside part region
IsStance part region Apart = IsApart part region
IsStance part region (Across faces) = IsAcross part region

-- how a box that meets the region stands, by its open faces
abbrev pub stance_of : ℕ → Stance
stance_of faces = if faces == 0 then Inside else Across faces

-- the open faces of a box that meets the region
abbrev pub HasMet : Region → Region → Option ℕ → Type 0
HasMet part region None = regions_meet part region ≡ false
HasMet part region (Some faces) = (regions_meet part region ≡ true) × (faces ≡ open_faces part region)

-- ---- a box and an area

abbrev pub no_box : Region
no_box = record { sides = [] }

abbrev pub box_in : List Region → ℕ → Region
box_in boxes place = slice_index_or boxes place no_box

-- some rows of the box are in the box at a place and some are not, and no box has them all
pub record IsAcrossAt (part : Region) (boxes : List Region) (place : ℕ) : Type 0 where
  pub there : place < length boxes
  pub across : IsAcross part (box_in boxes place)
  pub not_inside : Any (IsInside part) boxes → ⊥

-- the cut is along an open face to a box of the area that the box crosses, and no box has all its rows
pub record IsCutThroughArea (part : Region) (area : Area) (cut : Cut) : Type 0 where
  pub not_inside : IsInsideArea part area → ⊥
  pub through : Any (λ (region : Region). IsCutThrough part region cut) area.boxes

abbrev pub IsAreaStance : Region → Area → AreaStance → Type 0
IsAreaStance part area areas.Inside = IsInsideArea part area
IsAreaStance part area areas.Apart = IsApartFromArea part area
IsAreaStance part area (areas.Across place faces) = IsAcrossAt part area.boxes place

-- what the boxes from a place on say
abbrev pub IsStanceFrom : Region → List Region → ℕ → AreaStance → Type 0
IsStanceFrom part boxes from areas.Inside = Any (IsInside part) boxes
IsStanceFrom part boxes from areas.Apart = All (IsApart part) (drop from boxes)
IsStanceFrom part boxes from (areas.Across place faces) = (place < length boxes) × IsAcross part (box_in boxes place) × (Any (IsInside part) (drop from boxes) → ⊥)

-- with one before them that is crossed: of two the one with fewer open faces is kept, and the first of equals
abbrev pub IsWithBox : ℕ → ℕ → AreaStance → AreaStance → Type 0
IsWithBox place faces areas.Inside with_it = with_it ≡ areas.Inside
IsWithBox place faces areas.Apart with_it = with_it ≡ areas.Across place faces
IsWithBox place faces (areas.Across other few) with_it = with_it ≡ cond (nat_lt few faces) (areas.Across other few) (areas.Across place faces)
