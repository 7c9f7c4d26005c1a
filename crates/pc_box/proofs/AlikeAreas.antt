-- Areas and constraints of one schema have the columns of its boxes.
use Rattle.std.proofs.Common.{◌≡◌, true, List, All}
use Rattle.pc_model.specs.declared.schema.Schema.{Schema}
use Rattle.pc_model.specs.declared.region.Region.{Region}
use Rattle.pc_model.specs.declared.area.Area.{Area}
use Rattle.pc_model.specs.declared.constraint.When.{When}
use Rattle.pc_model.specs.declared.constraint.When.TheVariants.{Boxes, Outside}
use Rattle.pc_model.specs.declared.constraint.Constraint.{Constraint}
use Rattle.pc_model.specs.Boxes.{IsAreaOf, IsWhenOf, IsServable}
use Rattle.pc_model.specs.Regions.{is_region_of}
use Rattle.pc_box.specs.Boxes.{AreAlike, IsAlikeToArea, IsAlikeToWhen, IsAlikeTo}
use Rattle.pc_box.proofs.Likeness.{AreAlike-turned, AreAlike-through}
use Rattle.pc_box.proofs.Schemas.{AreAlike-from_schema}

module _ (schema : Schema) (part : Region) (of_schema : is_region_of schema part ≡ true) where
  pub IsAlikeToArea-from_schema : (area : Area) → IsAreaOf schema area → IsAlikeToArea part area
  IsAlikeToArea-from_schema area is_area = λ k d inside. AreAlike-from_schema schema part _ of_schema (is_area.each k d inside)

  IsAlikeToWhen-from_schema : (when : When) → IsWhenOf schema when → IsAlikeToWhen part when
  IsAlikeToWhen-from_schema (Boxes area) is_when = IsAlikeToArea-from_schema area is_when
  IsAlikeToWhen-from_schema Outside is_when = is_when

  pub IsAlikeTo-from_schema : (c : Constraint) → IsServable schema c → IsAlikeTo part c
  IsAlikeTo-from_schema c servable = record {
    when = IsAlikeToWhen-from_schema c.when servable.when_area;
    values = AreAlike-from_schema schema part c.values of_schema servable.value_region;
  }

  pub all_alike-from_schema : (constraints : List Constraint) → All (IsServable schema) constraints → All (IsAlikeTo part) constraints
  all_alike-from_schema constraints servable = λ k d inside. IsAlikeTo-from_schema _ (servable k d inside)

-- a box that is alike to another has the columns that it has
module _ (part piece : Region) (alike : AreAlike part piece) where
  pub IsAlikeToArea-through : (area : Area) → IsAlikeToArea part area → IsAlikeToArea piece area
  IsAlikeToArea-through area fits = λ k d inside. AreAlike-through piece part _ (AreAlike-turned part piece alike) (fits k d inside)

  IsAlikeToWhen-through : (when : When) → IsAlikeToWhen part when → IsAlikeToWhen piece when
  IsAlikeToWhen-through (Boxes area) fits = IsAlikeToArea-through area fits
  IsAlikeToWhen-through Outside fits = fits

  pub IsAlikeTo-through : (c : Constraint) → IsAlikeTo part c → IsAlikeTo piece c
  IsAlikeTo-through c fits = record {
    when = IsAlikeToWhen-through c.when fits.when;
    values = AreAlike-through piece part c.values (AreAlike-turned part piece alike) fits.values;
  }

  pub all_alike-through : (constraints : List Constraint) → All (IsAlikeTo part) constraints → All (IsAlikeTo piece) constraints
  all_alike-through constraints fits = λ k d inside. IsAlikeTo-through _ (fits k d inside)
