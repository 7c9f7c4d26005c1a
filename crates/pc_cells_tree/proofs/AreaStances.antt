-- How a box stands to the boxes of an area, from the last one to the first.
use Rattle.std.proofs.Common.{◌≡◌, ℕ, ◌+◌, ◌<◌, ◌≤◌, nat_lt, List, length, get_or, drop, sym, subst, All, Any}
use Rattle.std.proofs.lemmas.Bool.{cond_both}
use Rattle.std.proofs.lemmas.List.{drop_all, get_or_default}
use Rattle.std.proofs.lemmas.List.Elements.{All-nil}
use Rattle.pc_model.specs.declared.region.Region.{Region}
use Rattle.pc_model.specs.declared.area.Area.{Area}
use Rattle.pc_model.specs.declared.constraint.When.{When}
use Rattle.pc_model.specs.declared.constraint.When.TheVariants.{Boxes, Outside}
use Rattle.pc_model.specs.declared.constraint.Constraint.{Constraint}
use Rattle.pc_model.specs.CutTrees.{IsInside, IsApart, IsApartFromArea}
use Rattle.pc_model.specs.Cells.{IsInsideNamed, IsApartFromNamed, IsInsideWhen, IsApartFromWhen}
use Rattle.pc_box.specs.Boxes.{AreAlike, IsBox}
use Rattle.pc_box.proofs.Likeness.{AreAlike-turned, AreAlike-through}
use Rattle.pc_box.proofs.Rows.{row_of_box}
use Rattle.pc_cells_tree.specs.declared.stance.Stance.{Stance}
use Rattle.pc_cells_tree.specs.declared.stance.Stance.TheVariants.{Inside, Apart, Across}
use Rattle.pc_cells_tree.specs.declared.area_stance.AreaStance.{AreaStance}
use Rattle.pc_cells_tree.specs.declared.area_stance.AreaStance.TheVariants as areas
use Rattle.pc_cells_tree.specs.Stances.{IsAcross, IsStance, no_box, IsAcrossAt, IsAreaStance, IsStanceFrom, IsWithBox}
use Rattle.pc_cells_tree.proofs.Lists.{any_at, all_from, none_from}

-- ---- a box that has rows

pub filled_by : (part other : Region) → AreAlike part other → IsBox part
filled_by part other alike = AreAlike-through part other part alike (AreAlike-turned part other alike)

pub both_ways : (part region : Region) → IsBox part → IsInside part region → IsApart part region → ⊥
both_ways part region filled inside apart = let found = row_of_box part filled in apart found.0 found.1 (inside found.0 found.1)

-- a box that is apart from all is in none
pub apart_none : (part : Region) (boxes : List Region) → IsBox part → All (IsApart part) boxes → Any (IsInside part) boxes → ⊥
apart_none part boxes filled apart (k, region, there, is, inside) = both_ways part region filled inside (subst (IsApart part) is (apart k region there))

pub both_ways_named : (part : Region) (when : When) → IsBox part → IsInsideNamed part when → IsApartFromNamed part when → ⊥
both_ways_named part (Boxes area) filled inside apart = apart_none part area.boxes filled apart inside
both_ways_named part Outside filled inside apart = absurd inside

pub both_ways_when : (all : List Constraint) (part : Region) (when : When) → IsBox part → IsInsideWhen all part when → IsApartFromWhen all part when → ⊥
both_ways_when all part (Boxes area) filled inside apart = apart_none part area.boxes filled apart inside
both_ways_when all part Outside filled inside (k, c, there, is, named) =
    both_ways_named part c.when filled named (subst (λ (other : Constraint). IsApartFromNamed part other.when) is (inside k c there))

-- one that crosses a box is not apart from all
pub not_beside : (part : Region) (area : Area) (place : ℕ) → IsAcrossAt part area.boxes place → IsApartFromArea part area → ⊥
not_beside part area place across apart = across.across.not_apart (apart place no_box across.there)

-- ---- at a place

module _ (part : Region) (boxes : List Region) (place : ℕ) (d : Region) (there : place < length boxes) where
  pub stance-inside : (stance : Stance) → IsStance part (get_or boxes place d) stance → stance ≡ Inside → IsStanceFrom part boxes place areas.Inside
  stance-inside stance says e = any_at (IsInside part) boxes place d there (subst (IsStance part (get_or boxes place d)) e says)

  filled : All (AreAlike part) boxes → IsBox part
  filled alike = filled_by part (get_or boxes place d) (alike place d there)

  passed : (later : AreaStance) → All (AreAlike part) boxes → IsApart part (get_or boxes place d) → IsStanceFrom part boxes (place + 1) later → IsStanceFrom part boxes place later
  passed areas.Inside alike apart found = found
  passed areas.Apart alike apart found = all_from (IsApart part) boxes place d there apart found
  passed (areas.Across other faces) alike apart found =
      (found.0, found.1, none_from (IsInside part) boxes place d there (λ inside. both_ways part (get_or boxes place d) (filled alike) inside apart) found.2)

  pub stance-apart : (stance : Stance) (later : AreaStance) → All (AreAlike part) boxes → IsStance part (get_or boxes place d) stance → stance ≡ Apart →
      IsStanceFrom part boxes (place + 1) later → IsStanceFrom part boxes place later
  stance-apart stance later alike says e found = passed later alike (subst (IsStance part (get_or boxes place d)) e says) found

  here : (faces : ℕ) → IsAcross part (get_or boxes place d) → (Any (IsInside part) (drop (place + 1) boxes) → ⊥) → IsStanceFrom part boxes place (areas.Across place faces)
  here faces across later =
      (there, subst (IsAcross part) (get_or_default boxes place d no_box there) across, none_from (IsInside part) boxes place d there across.not_inside later)

  crossed : (faces : ℕ) (later after : AreaStance) → All (AreAlike part) boxes → IsAcross part (get_or boxes place d) → IsWithBox place faces later after →
      IsStanceFrom part boxes (place + 1) later → IsStanceFrom part boxes place after
  crossed faces areas.Inside after alike across gives found = subst (IsStanceFrom part boxes place) (sym gives) found
  crossed faces areas.Apart after alike across gives found =
      subst (IsStanceFrom part boxes place) (sym gives) (here faces across (apart_none part (drop (place + 1) boxes) (filled alike) found))
  crossed faces (areas.Across other few) after alike across gives found =
      subst (IsStanceFrom part boxes place) (sym gives)
      (cond_both (nat_lt few faces) (areas.Across other few) (areas.Across place faces) (IsStanceFrom part boxes place)
      (λ kept. (found.0, found.1, none_from (IsInside part) boxes place d there across.not_inside found.2)) (λ new. here faces across found.2))

  pub stance-across : (stance : Stance) (faces : ℕ) (later after : AreaStance) → All (AreAlike part) boxes → IsStance part (get_or boxes place d) stance → stance ≡ Across faces →
      IsWithBox place faces later after → IsStanceFrom part boxes (place + 1) later → IsStanceFrom part boxes place after
  stance-across stance faces later after alike says e gives found = crossed faces later after alike (subst (IsStance part (get_or boxes place d)) e says) gives found

pub ruleset steps = (stance-inside, stance-apart, stance-across)

-- ---- all boxes

pub stance-none : (part : Region) (boxes : List Region) (place : ℕ) → length boxes ≤ place → IsStanceFrom part boxes place areas.Apart
stance-none part boxes place past = rw (drop_all place boxes past) (All-nil (IsApart part))

pub ruleset rounds = (stance-none)

by_all : (part : Region) (area : Area) (stance : AreaStance) → IsStanceFrom part area.boxes 0 stance → IsAreaStance part area stance
by_all part area areas.Inside says = says
by_all part area areas.Apart says = says
by_all part area (areas.Across place faces) says = record { there = says.0; across = says.1; not_inside = says.2 }

pub stance-area : (part : Region) (area : Area) (boxes : List Region) (stance : AreaStance) → boxes ≡ area.boxes → IsStanceFrom part boxes 0 stance → IsAreaStance part area stance
stance-area part area boxes stance e says = by_all part area stance (subst (λ all. IsStanceFrom part all 0 stance) e says)

pub ruleset whole = (stance-area)
