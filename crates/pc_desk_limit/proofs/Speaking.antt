-- Constraints of boxes: of which rows they speak, whichever list they stand in.
use Rattle.std.proofs.Common.{◌≡◌, ◌∙◌, ◌≤◌, ℕ, ◌||◌, ◌&&◌, not, Bool, true, false, List, [], ◌∷◌, All, filter, get_or, refl, sym, ap₂, subst, true≢false, cond}
use Rattle.std.specs.List.{list_any}
use Rattle.std.proofs.lemmas.List.Elements.{All-nil, All-head, All-tail, All-append, All-filter}
use Rattle.std.proofs.lemmas.List.Folds.{list_any-append}
use Rattle.pc_model.specs.declared.constraint.Constraint.{Constraint}
use Rattle.pc_model.specs.declared.constraint.When.{When}
use Rattle.pc_model.specs.declared.constraint.When.TheVariants.{Boxes, Outside}
use Rattle.pc_model.specs.declared.region.Region.{Region}
use Rattle.pc_model.specs.declared.row.Row.{Row}
use Rattle.pc_model.specs.declared.schema.Schema.{Schema}
use Rattle.pc_model.specs.Boxes.{IsServable, IsWhenOf}
use Rattle.pc_model.specs.Membership.{has, is_meant, is_named, is_named_by_some, is_under}
use Rattle.pc_model.specs.Possible.{Meets}
use Rattle.pc_model.specs.Regions.{is_region_of}
use Rattle.pc_desk_limit.specs.Closing.{AreRegions, boxes_of, closing_boxes, has_room, is_opened, is_opened_by_some, named_boxes, opened_boxes}
use Rattle.pc_desk_limit.specs.Limiting.{NoneIsOutside, is_outside}
use Rattle.pc_desk_limit.proofs.Left.{closed_held, held_by, in_some}
use Rattle.pc_desk_limit.proofs.Quantified.{any_from_count, counted_alike, one_if}

meant_named : (constraints : List Constraint) (when : When) (row : Row) → is_outside when ≡ false → is_meant constraints when row ≡ is_named when row
meant_named constraints (Boxes area) row boxed = refl
meant_named constraints Outside row boxed = absurd (true≢false boxed)

pub named_under : (constraints : List Constraint) (c : Constraint) (row : Row) → is_outside c.when ≡ false → is_under constraints c row ≡ is_named c.when row
named_under constraints c row boxed = meant_named constraints c.when row boxed

pub covered_named : (all constraints : List Constraint) (row : Row) → NoneIsOutside constraints →
    list_any (λ (c : Constraint). is_under all c row) constraints ≡ is_named_by_some constraints row
covered_named all [] row none = refl
covered_named all (c ∷ constraints) row none =
    ap₂ (λ (x y : Bool). x || y)
    (named_under all c row (All-head (λ (other : Constraint). is_outside other.when ≡ false) c constraints none))
    (covered_named all constraints row (All-tail (λ (other : Constraint). is_outside other.when ≡ false) c constraints none))

meets_alike : (some others : List Constraint) (c : Constraint) (rows : List Row) → is_outside c.when ≡ false → Meets some c rows → Meets others c rows
meets_alike some others c rows boxed meets =
    let same : (row : Row) → is_under some c row ≡ is_under others c row = λ row. named_under some c row boxed ∙ sym (named_under others c row boxed) in
    let count = counted_alike (is_under some c) (is_under others c) rows same in
    record {
      in_values = λ place d here under. meets.in_values place d here (same (get_or rows place d) ∙ under);
      enough = subst (λ (n : ℕ). c.least ≤ n) count meets.enough;
      not_more = subst (λ (n : ℕ). n ≤ c.most) count meets.not_more;
    }

-- what each meets in one list it meets in another
pub all_meet_alike : (some others constraints : List Constraint) (rows : List Row) → NoneIsOutside constraints →
    All (λ (c : Constraint). Meets some c rows) constraints → All (λ (c : Constraint). Meets others c rows) constraints
all_meet_alike some others constraints rows none meet = λ place d here.
    meets_alike some others (get_or constraints place d) rows (none place d here) (meet place d here)

-- ---- their boxes

boxes_in : (when : When) (row : Row) → is_named when row ≡ in_some (boxes_of when) row
boxes_in (Boxes area) row = refl
boxes_in Outside row = refl

named_in : (constraints : List Constraint) (row : Row) → is_named_by_some constraints row ≡ in_some (named_boxes constraints) row
named_in [] row = refl
named_in (c ∷ constraints) row =
    ap₂ (λ (x y : Bool). x || y) (boxes_in c.when row) (named_in constraints row)
    ∙ sym (list_any-append (λ (box : Region). has box row) (boxes_of c.when) (named_boxes constraints))

opened_in : (limits : List Constraint) (row : Row) → is_opened_by_some limits row ≡ in_some (opened_boxes limits) row
opened_in [] row = refl
opened_in (c ∷ limits) row = by_room (has_room c) (opened_in limits row)
  where
    by_room : (room : Bool) → is_opened_by_some limits row ≡ in_some (opened_boxes limits) row →
        ((room && is_named c.when row) || is_opened_by_some limits row) ≡ in_some (named_boxes (cond room (c ∷ filter has_room limits) (filter has_room limits))) row
    by_room true later =
        ap₂ (λ (x y : Bool). x || y) (boxes_in c.when row) later
        ∙ sym (list_any-append (λ (box : Region). has box row) (boxes_of c.when) (opened_boxes limits))
    by_room false later = later

module _ (schema : Schema) where
  regions_of : (when : When) → IsWhenOf schema when → AreRegions schema (boxes_of when)
  regions_of (Boxes area) is = is.each
  regions_of Outside is = All-nil (λ (box : Region). is_region_of schema box ≡ true)

  pub named_regions : (constraints : List Constraint) → All (IsServable schema) constraints → AreRegions schema (named_boxes constraints)
  named_regions [] servable = All-nil (λ (box : Region). is_region_of schema box ≡ true)
  named_regions (c ∷ constraints) servable =
      All-append (λ (box : Region). is_region_of schema box ≡ true) (boxes_of c.when) (named_boxes constraints)
      (regions_of c.when (All-head (IsServable schema) c constraints servable).when_area)
      (named_regions constraints (All-tail (IsServable schema) c constraints servable))

  pub opened_regions : (limits : List Constraint) → All (IsServable schema) limits → AreRegions schema (opened_boxes limits)
  opened_regions limits servable = named_regions (filter has_room limits) (All-filter has_room (IsServable schema) limits servable)

  -- a row is in one box that is closed where a limit with room names it and no constraint does, and else in none
  pub closing_held : (constraints limits : List Constraint) (row : Row) → All (IsServable schema) constraints → All (IsServable schema) limits →
      held_by (closing_boxes constraints limits) row ≡ one_if (is_opened constraints limits row)
  closing_held constraints limits row servable servable_limits =
      closed_held schema (named_boxes constraints) (named_regions constraints servable) [] (opened_boxes limits) row false
      (All-nil (λ (box : Region). is_region_of schema box ≡ true)) (opened_regions limits servable_limits) refl
      ∙ ap₂ (λ (x y : Bool). one_if (x && not y)) (sym (opened_in limits row)) (sym (named_in constraints row))

  pub closing_in : (constraints limits : List Constraint) (row : Row) → All (IsServable schema) constraints → All (IsServable schema) limits →
      in_some (closing_boxes constraints limits) row ≡ is_opened constraints limits row
  closing_in constraints limits row servable servable_limits =
      any_from_count (λ (box : Region). has box row) (closing_boxes constraints limits) (is_opened constraints limits row)
      (closing_held constraints limits row servable servable_limits)
