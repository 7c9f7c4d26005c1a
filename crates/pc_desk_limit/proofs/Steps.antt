-- As far as loops have come.
use Rattle.std.proofs.Common.{◌≡◌, ◌∙◌, ℕ, ◌+◌, ◌<◌, ◌≤◌, List, [], ◌∷◌, ◌++◌, filter, get_or, length, take, drop, refl, sym, ap, append_assoc, append-nil, add-one, drop-cons}
use Rattle.std.proofs.lemmas.List.{take_more, take_all, drop_all}
use Rattle.std.proofs.lemmas.List.Elements.{filter_more}
use Rattle.std.proofs.lemmas.Grind.{flat_map-append}
use Rattle.pc_model.specs.declared.region.Region.{Region}
use Rattle.pc_model.specs.declared.constraint.Constraint.{Constraint}
use Rattle.pc_model.specs.declared.schema.Schema.{Schema}
use Rattle.pc_model.specs.Boxes.{box_limit}
use Rattle.pc_desk_limit.specs.Closing.{boxes_of, has_room, named_boxes, opened_boxes}
use Rattle.pc_desk_limit.specs.Lines.{closing_line, closing_lines}

-- ---- boxes

pub copies_more : (boxes regions : List Region) (place : ℕ) (d : Region) → place < length regions →
    (boxes ++ take place regions) ++ get_or regions place d ∷ [] ≡ boxes ++ take (place + 1) regions
copies_more boxes regions place d here = rw (take_more regions place d here) (append_assoc boxes (take place regions) (get_or regions place d ∷ []))

pub copies_all : (boxes regions : List Region) (place : ℕ) → length regions ≤ place → boxes ++ take place regions ≡ boxes ++ regions
copies_all boxes regions place past = rw (take_all place regions past) refl

pub ruleset copy_steps = (copies_more, copies_all)

nothing_more : {X : Type 0} (xs : List X) → xs ++ [] ≡ xs
nothing_more xs = append-nil xs

pub named_more : (constraints : List Constraint) (place : ℕ) (d : Constraint) → place < length constraints →
    named_boxes (take place constraints) ++ boxes_of (get_or constraints place d).when ≡ named_boxes (take (place + 1) constraints)
named_more constraints place d here =
    ap (λ (more : List Region). named_boxes (take place constraints) ++ more) (sym (nothing_more (boxes_of (get_or constraints place d).when)))
    ∙ sym (ap named_boxes (take_more constraints place d here)
    ∙ flat_map-append (λ (c : Constraint). boxes_of c.when) (take place constraints) (get_or constraints place d ∷ []))

pub named_all : (constraints : List Constraint) (place : ℕ) → length constraints ≤ place → named_boxes (take place constraints) ≡ named_boxes constraints
named_all constraints place past = rw (take_all place constraints past) refl

pub ruleset named_steps = (named_more, named_all)

pub opened_more : (limits : List Constraint) (place : ℕ) (d : Constraint) → place < length limits →
    opened_boxes (take place limits) ++ opened_boxes (get_or limits place d ∷ []) ≡ opened_boxes (take (place + 1) limits)
opened_more limits place d here =
    sym (ap named_boxes (filter_more has_room limits place d here)
    ∙ flat_map-append (λ (c : Constraint). boxes_of c.when) (filter has_room (take place limits)) (filter has_room (get_or limits place d ∷ [])))

pub opened_all : (limits : List Constraint) (place : ℕ) → length limits ≤ place → opened_boxes (take place limits) ≡ opened_boxes limits
opened_all limits place past = rw (take_all place limits past) refl

pub ruleset opened_steps = (opened_more, opened_all)

-- ---- lines

pub line_more : (schema : Schema) (lines : List Constraint) (names : List (List ℕ)) (place : ℕ) (d : List ℕ) (box : Region) (boxes : List Region) →
    place < length names →
    (lines ++ closing_line schema (get_or names place d) (take box_limit (box ∷ boxes)) ∷ [])
    ++ closing_lines schema (drop (place + 1) names) (drop box_limit (box ∷ boxes))
    ≡ lines ++ closing_lines schema (drop place names) (box ∷ boxes)
line_more schema lines names place d box boxes here =
    rw (add-one, drop-cons names place d here) (append_assoc lines _ _)

pub lines_all : (schema : Schema) (lines : List Constraint) (names : List (List ℕ)) (place : ℕ) (boxes : List Region) → length names ≤ place →
    lines ++ closing_lines schema (drop place names) boxes ≡ lines
lines_all schema lines names place boxes past = rw (drop_all place names past) (append-nil lines)

pub ruleset line_steps = (line_more, lines_all)
