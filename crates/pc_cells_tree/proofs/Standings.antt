-- How a box stands to one predicate, and to what is outside every area, from the last constraint to the first.
use Rattle.std.proofs.Common.{◌≡◌, ℕ, ◌+◌, ◌<◌, ◌≤◌, List, Some, length, get_or, sym, subst, All}
use Rattle.std.proofs.lemmas.Bool.{cond_both}
use Rattle.std.proofs.lemmas.List.{drop_all, get_or_default}
use Rattle.std.proofs.lemmas.List.Elements.{All-nil}
use Rattle.pc_model.specs.declared.region.Region.{Region}
use Rattle.pc_model.specs.declared.area.Area.{Area}
use Rattle.pc_model.specs.declared.constraint.When.TheVariants.{Boxes, Outside}
use Rattle.pc_model.specs.declared.constraint.Constraint.{Constraint}
use Rattle.pc_model.specs.Cells.{IsInsideNamed, IsApartFromNamed, IsInsideWhen, IsApartFromWhen}
use Rattle.pc_box.specs.Boxes.{IsAlikeToArea, IsAlikeToWhen, IsAlikeTo}
use Rattle.pc_cells_tree.specs.declared.area_stance.AreaStance.{AreaStance}
use Rattle.pc_cells_tree.specs.declared.area_stance.AreaStance.TheVariants as areas
use Rattle.pc_cells_tree.specs.declared.standing.Crossing.{Crossing}
use Rattle.pc_cells_tree.specs.declared.standing.Standing.{Standing}
use Rattle.pc_cells_tree.specs.declared.standing.Standing.TheVariants.{OfAll, OfNone, Open}
use Rattle.pc_cells_tree.specs.Stances.{IsAcrossAt, IsAreaStance}
use Rattle.pc_cells_tree.specs.Standings.{is_before, IsAcrossWhen, IsCrossing, IsStanding, IsStandingAt, IsBeside, IsNamedIn, IsOutsideFrom, IsWithArea}
use Rattle.pc_cells_tree.proofs.AreaStances.{not_beside}
use Rattle.pc_cells_tree.proofs.Lists.{any_at, all_from}

outside_is : (all : List Constraint) (part : Region) (c : Constraint) (standing : Standing) → c.when ≡ Outside → IsOutsideFrom all part 0 standing → IsStanding all part c standing
outside_is all part c OfAll e found = subst (IsInsideWhen all part) (sym e) found
outside_is all part c OfNone e found = subst (IsApartFromWhen all part) (sym e) found
outside_is all part c (Open crossing) e found = record { is_crossing = found.0; not_all = λ inside. found.1 (subst (IsInsideWhen all part) e inside) }

module _ (part : Region) (cs : List Constraint) (place : ℕ) (d : Constraint) (there : place < length cs) where
  abbrev this : Constraint
  this = get_or cs place d

  at_each : (standing : Standing) → IsStanding cs part this standing → IsStandingAt cs part place standing
  at_each standing says = λ c. subst (λ (other : Constraint). IsStanding cs part other standing) (get_or_default cs place d c there) says

  pub stands-outside : (standing : Standing) → this.when ≡ Outside → IsOutsideFrom cs part 0 standing → IsStandingAt cs part place standing
  stands-outside standing e found = at_each standing (outside_is cs part this standing e found)

  passed : (later : Standing) → IsBeside part this → IsOutsideFrom cs part (place + 1) later → IsOutsideFrom cs part place later
  passed OfAll beside found = all_from (IsBeside part) cs place d there beside found
  passed OfNone beside found = found
  passed (Open crossing) beside found = found

  pub outside-outside : (later : Standing) → this.when ≡ Outside → IsOutsideFrom cs part (place + 1) later → IsOutsideFrom cs part place later
  outside-outside later e found = passed later (subst (IsApartFromNamed part) (sym e) tt) found

  -- ---- a predicate that names an area

  module _ (area : Area) (names : this.when ≡ Boxes area) where
    pub area_alike : All (IsAlikeTo part) cs → IsAlikeToArea part area
    area_alike alike = subst (IsAlikeToWhen part) names (alike place d there).when

    abbrev crossing_at : ℕ → ℕ → Crossing
    crossing_at box_place faces = record { place = place; box_place = Some box_place; faces = faces }

    crossing_here : (box_place faces : ℕ) → IsAcrossAt part area.boxes box_place → IsCrossing cs part (crossing_at box_place faces)
    crossing_here box_place faces across = record {
      there = there;
      crossed = λ c. subst (λ (other : Constraint). IsAcrossWhen part other.when box_place) (get_or_default cs place d c there) (subst (λ when. IsAcrossWhen part when box_place) (sym names) across);
    }

    module _ (stance : AreaStance) (says : IsAreaStance part area stance) where
      pub stands-inside : stance ≡ areas.Inside → IsStandingAt cs part place OfAll
      stands-inside e = at_each OfAll (subst (IsInsideWhen cs part) (sym names) (subst (IsAreaStance part area) e says))

      pub stands-apart : stance ≡ areas.Apart → IsStandingAt cs part place OfNone
      stands-apart e = at_each OfNone (subst (IsApartFromWhen cs part) (sym names) (subst (IsAreaStance part area) e says))

      pub stands-across : (box_place faces : ℕ) → stance ≡ areas.Across box_place faces → IsStandingAt cs part place (Open (crossing_at box_place faces))
      stands-across box_place faces e =
          let across : IsAcrossAt part area.boxes box_place = subst (IsAreaStance part area) e says in
          at_each (Open (crossing_at box_place faces)) (record { is_crossing = crossing_here box_place faces across; not_all = λ inside. across.not_inside (subst (IsInsideWhen cs part) names inside) })

      -- what is outside

      pub outside-inside : stance ≡ areas.Inside → IsOutsideFrom cs part place OfNone
      outside-inside e = any_at (IsNamedIn part) cs place d there (subst (IsInsideNamed part) (sym names) (subst (IsAreaStance part area) e says))

      pub outside-apart : (later : Standing) → stance ≡ areas.Apart → IsOutsideFrom cs part (place + 1) later → IsOutsideFrom cs part place later
      outside-apart later e found = passed later (subst (IsApartFromNamed part) (sym names) (subst (IsAreaStance part area) e says)) found

      open_here : (box_place faces : ℕ) → IsAcrossAt part area.boxes box_place → IsOutsideFrom cs part place (Open (crossing_at box_place faces))
      open_here box_place faces across =
          (crossing_here box_place faces across, λ beside. not_beside part area box_place across (subst (IsApartFromNamed part) names (beside place d there)))

      crossed : (box_place faces : ℕ) (later after : Standing) → IsAcrossAt part area.boxes box_place → IsWithArea (crossing_at box_place faces) later after →
          IsOutsideFrom cs part (place + 1) later → IsOutsideFrom cs part place after
      crossed box_place faces OfAll after across gives found = subst (IsOutsideFrom cs part place) (sym gives) (open_here box_place faces across)
      crossed box_place faces OfNone after across gives found = subst (IsOutsideFrom cs part place) (sym gives) found
      crossed box_place faces (Open other) after across gives found =
          let new = crossing_at box_place faces in
          subst (IsOutsideFrom cs part place) (sym gives)
          (cond_both (is_before other new) other new (λ kept. IsOutsideFrom cs part place (Open kept)) (λ e. found) (λ e. open_here box_place faces across))

      pub outside-across : (box_place faces : ℕ) (later after : Standing) → stance ≡ areas.Across box_place faces → IsWithArea (crossing_at box_place faces) later after →
          IsOutsideFrom cs part (place + 1) later → IsOutsideFrom cs part place after
      outside-across box_place faces later after e gives found = crossed box_place faces later after (subst (IsAreaStance part area) e says) gives found

pub ruleset one = (area_alike, stands-outside, stands-inside, stands-apart, stands-across)

pub ruleset steps = (area_alike, outside-outside, outside-inside, outside-apart, outside-across)

-- ---- all constraints

pub outside-none : (part : Region) (cs : List Constraint) (place : ℕ) → length cs ≤ place → IsOutsideFrom cs part place OfAll
outside-none part cs place past = rw (drop_all place cs past) (All-nil (IsBeside part))

pub ruleset rounds = (outside-none)
