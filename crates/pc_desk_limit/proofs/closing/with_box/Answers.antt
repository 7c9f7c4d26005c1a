use Rattle.std.proofs.Common.{◌≡◌, ◌∙◌, [], ◌∷◌, ◌++◌, List, ap, ap₂, sym, subst, true}
use Rattle.std.proofs.lemmas.List.Elements.{All-append}
use Rattle.pc_model.specs.declared.region.Region.{Region}
use Rattle.pc_model.specs.Regions.{is_region_of}
use Rattle.pc_desk_limit.specs.Closing.{AreRegions, left_of}
use Rattle.pc_desk_limit.proofs.Quantified.{all_first, all_second}
use Rattle.pc_desk_limit.proofs.Left.{left_regions}
use Rattle.pc_desk_limit.proofs.closing.with_box.Goals as goal

pub left_of-requires : goal.left_of-requires
left_of-requires c =
    let schema = c.requires.one_schema.0 in
    let region = c.args.region.now in
    let named = c.args.named.now in
    let left_is : c.in_ok-left.left ≡ region ∷ [] = rw c.new.ensures at c.in_ok-left.ensures in
    record {
      one_schema = (
        schema,
        subst (λ (left : List Region). AreRegions schema (left ++ named)) (sym left_is)
            (all_first (λ (box : Region). is_region_of schema box ≡ true) (region ∷ named) c.args.closed c.requires.one_schema.1),
      );
    }

pub left_of-requires-2 : goal.left_of-requires-2
left_of-requires-2 c =
    let schema = c.requires.one_schema.0 in
    let region = c.args.region.now in
    let named = c.args.named.now in
    let closed = c.args.closed in
    let is_region = λ (box : Region). is_region_of schema box ≡ true in
    let left_is : c.in_ok-left.left ≡ region ∷ [] = rw c.new.ensures at c.in_ok-left.ensures in
    let left_of_is : c.in_ok-left-2.left ≡ left_of (region ∷ []) named = c.in_ok-left-2.ensures ∙ ap (λ (left : List Region). left_of left named) left_is in
    let front = all_first is_region (region ∷ named) closed c.requires.one_schema.1 in
    let back = all_second is_region (region ∷ named) closed c.requires.one_schema.1 in
    let regions = All-append is_region (left_of (region ∷ []) named) closed
    (left_regions schema (region ∷ []) named (all_first is_region (region ∷ []) named front) (all_second is_region (region ∷ []) named front)) back in
    record {
      one_schema = (schema, subst (AreRegions schema) (sym (ap₂ (λ (xs ys : List Region). xs ++ ys) left_of_is c.as_slice.ensures)) regions);
    }
