-- Areas of one box, and that one constraint at most is outside.
use Rattle.std.proofs.Common.{◌≡◌, ℕ, ◌||◌, Bool, true, false, List, [], ◌<◌, length, get_or, refl, sym, ◌∙◌, arith}
use Rattle.std.proofs.lemmas.List.Elements.{All-cons}
use Rattle.pc_model.specs.declared.schema.Schema.{Schema}
use Rattle.pc_model.specs.declared.row.Row.{Row}
use Rattle.pc_model.specs.declared.region.Region.{Region}
use Rattle.pc_model.specs.declared.constraint.When.{When}
use Rattle.pc_model.specs.declared.constraint.When.TheVariants.{Boxes, Outside}
use Rattle.pc_model.specs.declared.constraint.Constraint.{Constraint}
use Rattle.pc_model.specs.Accepted.{AreConstraints, IsNameFor, IsOutside, HasLoneOutside}
use Rattle.pc_model.specs.Boxes.{IsAreaOf}
use Rattle.pc_model.specs.Membership.{has, in_domain, is_in}
use Rattle.pc_model.specs.Regions.{is_region_of, one_box, whole_area, whole_region}
use Rattle.pc_model.specs.WellFormed.{IsWellFormed}
use Rattle.pc_model.proofs.WholeDomain.{in_whole, whole_is_region}

or_nothing : (x : Bool) → (x || false) ≡ x
or_nothing true = refl
or_nothing false = refl

pub in_one_box : (box : Region) (row : Row) → is_in (one_box box) row ≡ has box row
in_one_box box row = or_nothing (has box row)

pub in_whole_area : (schema : Schema) (row : Row) → is_in (whole_area schema) row ≡ in_domain schema row
in_whole_area schema row = in_one_box (whole_region schema) row ∙ in_whole schema row

pub one_box_is_area : (schema : Schema) (box : Region) → is_region_of schema box ≡ true → IsAreaOf schema (one_box box)
one_box_is_area schema box is_region = record {
  some = omega arith;
  few = omega arith;
  each = All-cons (λ (b : Region). is_region_of schema b ≡ true) box [] is_region (λ k d inside. absurd (omega arith));
}

pub whole_is_area : (schema : Schema) → IsWellFormed schema → IsAreaOf schema (whole_area schema)
whole_is_area schema formed = one_box_is_area schema (whole_region schema) (whole_is_region schema formed)

nameless : (when : When) (name : List ℕ) → IsNameFor when name → IsOutside when → name ≡ []
nameless (Boxes area) name named outside = absurd outside
nameless Outside name named outside = named

-- an outside constraint has no name, and two of them would have the same
pub lone_outside : (schema : Schema) (constraints : List Constraint) → AreConstraints schema constraints → HasLoneOutside constraints
lone_outside schema constraints accepted = λ i j d before inside first second.
    let unnamed : (place : ℕ) → place < length constraints → IsOutside (get_or constraints place d).when → (get_or constraints place d).name ≡ [] =
    λ place there outside.
    nameless (get_or constraints place d).when (get_or constraints place d).name (accepted.named place d there) outside in
    accepted.own_names i j d before inside (unnamed i (omega arith) first ∙ sym (unnamed j inside second))
