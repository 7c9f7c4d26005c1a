-- The texts of clauses and of boxes, one by one.
use Rattle.std.proofs.Common.{◌≡◌, ◌∙◌, List, [], ◌∷◌, ◌++◌, map, refl, sym, ap}
use Rattle.std.specs.Prelude.{flat_map}
use Rattle.std.proofs.lemmas.List.{map-append}
use Rattle.pc_model.specs.declared.constraint.Constraint.{Constraint}
use Rattle.pc_model.specs.declared.region.Region.{Region}
use Rattle.pc_model.specs.declared.schema.Column.{Column}
use Rattle.pc_desk_sql.specs.Spelled.{box_text, clause_text, none_texts, region_text}
use Rattle.pc_desk_sql.specs.Tests.{OneOf, box_of, known, none_named, outside_of}

pub boxes_of_regions : (columns : List Column) (boxes : List Region) → map (box_text columns) (map (box_of columns) boxes) ≡ map (region_text columns) boxes
boxes_of_regions columns [] = refl
boxes_of_regions columns (region ∷ boxes) = ap (λ rest. region_text columns region ∷ rest) (boxes_of_regions columns boxes)

outside_clauses : (columns : List Column) (constraints : List Constraint) → map (clause_text columns) (flat_map (λ (c : Constraint). none_named columns c.when) constraints) ≡ flat_map (none_texts columns) constraints
outside_clauses columns [] = refl
outside_clauses columns (c ∷ constraints) =
    map-append (clause_text columns) (none_named columns c.when) (flat_map (λ (c : Constraint). none_named columns c.when) constraints)
    ∙ ap (λ rest. none_texts columns c ++ rest) (outside_clauses columns constraints)

pub outside_is : (columns : List Column) (constraints : List Constraint) → (clause_text columns (OneOf (known columns ∷ [])) ∷ []) ++ flat_map (none_texts columns) constraints ≡ map (clause_text columns) (outside_of columns constraints)
outside_is columns constraints = ap (λ rest. clause_text columns (OneOf (known columns ∷ [])) ∷ rest) (sym (outside_clauses columns constraints))
