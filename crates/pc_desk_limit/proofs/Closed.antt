-- What limits come to, by the number of lines.
use Rattle.std.proofs.Common.{◌≡◌, ◌≢◌, ◌↔◌, ◌∙◌, ℕ, ◌+◌, ◌*◌, ◌≤◌, nat_lt, Bool, true, false, List, [], ◌++◌, All, AllPairs, get_or, length, refl, sym, ap, subst, arith, append_assoc, length-append, ltb-true, if◌then◌else◌}
use Rattle.std.proofs.lemmas.Bool.{ltb-false}
use Rattle.std.proofs.lemmas.Grind.{div_ceil_times}
use Rattle.std.proofs.lemmas.List.Elements.{All-append, All-nil}
use Rattle.pc_model.specs.declared.constraint.Constraint.{Constraint}
use Rattle.pc_model.specs.declared.region.Region.{Region}
use Rattle.pc_model.specs.declared.row.Row.{Row}
use Rattle.pc_model.specs.declared.schema.Schema.{Schema}
use Rattle.pc_model.specs.Accepted.{AreConstraints, IsNameFor, constraint_limit, frequency_limit}
use Rattle.pc_model.specs.Boxes.{IsServable, box_limit}
use Rattle.pc_model.specs.Membership.{is_named_by_some}
use Rattle.pc_model.specs.Possible.{IsPossible}
use Rattle.pc_model.specs.Regions.{is_region_of}
use Rattle.pc_model.specs.Texts.{IsName}
use Rattle.pc_model.specs.WellFormed.{IsWellFormed}
use Rattle.pc_model.proofs.WholeDomain.{whole_is_region}
use Rattle.pc_desk_limit.specs.declared.limiting.Limiting.TheVariants.{Written, TooMany}
use Rattle.pc_desk_limit.specs.Closing.{AreRegions, closing_boxes, is_opened, named_boxes, opened_boxes}
use Rattle.pc_desk_limit.specs.Limiting.{IsClosed, IsLimiting, IsPossibleWithin, IsShut, NoneIsOutside, closing_of, is_outside, written_of}
use Rattle.pc_desk_limit.specs.Lines.{closing_line, free_names, lines_for}
use Rattle.pc_desk_limit.proofs.ClosingLines.{lines_apart, lines_each, lines_few, lines_in}
use Rattle.pc_desk_limit.proofs.Law.{limits_close}
use Rattle.pc_desk_limit.proofs.Left.{closed_regions, held_by}
use Rattle.pc_desk_limit.proofs.Names.{IsFresh, enough_free, free_are_different, free_are_fresh, free_are_names}
use Rattle.pc_desk_limit.proofs.Quantified.{all_first, all_second, one_if, pairs_append}
use Rattle.pc_desk_limit.proofs.Speaking.{closing_held, closing_in, named_regions, opened_regions}

-- the closing boxes are of the schema
pub closing_regions : (schema : Schema) (constraints limits : List Constraint) → AreConstraints schema (constraints ++ limits) →
    AreRegions schema (closing_boxes constraints limits)
closing_regions schema constraints limits accepted =
    closed_regions schema (named_boxes constraints)
    (named_regions schema constraints (all_first (IsServable schema) constraints limits accepted.servable)) [] (opened_boxes limits)
    (All-nil _) (opened_regions schema limits (all_second (IsServable schema) constraints limits accepted.servable))

module _ (schema : Schema) (constraints limits : List Constraint)
    (formed : IsWellFormed schema) (accepted : AreConstraints schema (constraints ++ limits)) (boxed : NoneIsOutside (constraints ++ limits)) where
  abbrev all : List Constraint
  all = constraints ++ limits

  abbrev names : List (List ℕ)
  names = free_names all

  abbrev boxes : List Region
  boxes = closing_boxes constraints limits

  abbrev closing : List Constraint
  closing = closing_of schema constraints limits

  servable : All (IsServable schema) constraints
  servable = all_first (IsServable schema) constraints limits accepted.servable

  limits_servable : All (IsServable schema) limits
  limits_servable = all_second (IsServable schema) constraints limits accepted.servable

  regions : AreRegions schema boxes
  regions = closing_regions schema constraints limits accepted

  -- what holds of every line that closes boxes
  each_line : (P : Constraint → Type 0) →
      ((name : List ℕ) (some : List Region) → IsName name → 1 ≤ length some → length some ≤ box_limit → AreRegions schema some → P (closing_line schema name some)) →
      All P closing
  each_line P holds = lines_each schema IsName P holds names boxes (free_are_names all) regions

  shut : All IsShut closing
  shut = each_line IsShut (λ name some is first few are. (refl, refl))

  closing_boxed : NoneIsOutside closing
  closing_boxed = each_line (λ (c : Constraint). is_outside c.when ≡ false) (λ name some is first few are. refl)

  module _ (room : length all + lines_for boxes ≤ constraint_limit) where
    enough : length boxes ≤ length names * box_limit
    enough =
        let rounded : length boxes ≤ lines_for boxes * box_limit = (div_ceil_times (length boxes) box_limit (omega arith)).0 in
        fits (length boxes) (lines_for boxes) (length names) (length all) rounded (enough_free all) room
      where
        fits : (count lines free taken : ℕ) → count ≤ lines * box_limit → constraint_limit ≤ free + taken → taken + lines ≤ constraint_limit →
            count ≤ free * box_limit
        fits count lines free taken rounded many few = omega arith

    closes : (row : Row) → is_named_by_some closing row ≡ is_opened constraints limits row
    closes row = lines_in schema names boxes row enough ∙ closing_in schema constraints limits row servable limits_servable

    few : length (all ++ closing) ≤ constraint_limit
    few =
        let long = length-append all closing in
        let lines : length closing ≤ lines_for boxes = lines_few schema names boxes in
        fits (length (all ++ closing)) (length all) (length closing) (lines_for boxes) long lines room
      where
        fits : (both first second lines : ℕ) → both ≡ first + second → second ≤ lines → first + lines ≤ constraint_limit → both ≤ constraint_limit
        fits both first second lines long less fit = omega arith

    own_names : AllPairs (λ (a b : Constraint). a.name ≢ b.name) (all ++ closing)
    own_names = pairs_append (λ (a b : Constraint). a.name ≢ b.name) all closing accepted.own_names
        (lines_apart schema names boxes (free_are_different all) regions)
        (λ place d here. lines_each schema (IsFresh all) (λ (c : Constraint). (get_or all place d).name ≢ c.name)
        (λ name some fresh first less are. fresh place d here) names boxes (free_are_fresh all) regions)

    are_accepted : AreConstraints schema (all ++ closing)
    are_accepted = record {
      few = few;
      servable = All-append (IsServable schema) all closing accepted.servable (each_line (IsServable schema) (λ name some is first less are. record {
        when_area = record { some = first; few = less; each = are };
        value_region = whole_is_region schema formed;
        ordered = omega arith;
      }));
      small = All-append (λ (c : Constraint). c.most ≤ frequency_limit) all closing accepted.small
          (each_line (λ (c : Constraint). c.most ≤ frequency_limit) (λ name some is first less are. omega arith));
      named = All-append (λ (c : Constraint). IsNameFor c.when c.name) all closing accepted.named
          (each_line (λ (c : Constraint). IsNameFor c.when c.name) (λ name some is first less are. is));
      own_names = own_names;
    }

    abbrev IsBoxed : Constraint → Type 0
    IsBoxed c = is_outside c.when ≡ false

    is_closed : IsClosed schema constraints limits (all ++ closing)
    is_closed = record {
      closing = closing;
      file = append_assoc constraints limits closing;
      lines = refl;
      each = shut;
      accepted = are_accepted;
      closed = λ rows. subst (λ (written : List Constraint). IsPossible schema written rows ↔ IsPossibleWithin schema constraints limits rows)
          (sym (append_assoc constraints limits closing))
          (limits_close schema constraints limits closing
          (all_first IsBoxed constraints limits boxed) (all_second IsBoxed constraints limits boxed) closing_boxed shut closes rows);
    }

  pub limiting : IsLimiting schema constraints limits (written_of schema all boxes)
  limiting = by_length (nat_lt constraint_limit (length all + lines_for boxes)) refl
    where
      by_length : (test : Bool) → nat_lt constraint_limit (length all + lines_for boxes) ≡ test →
          IsLimiting schema constraints limits (if test then TooMany (length all + lines_for boxes) else Written (all ++ closing))
      by_length true e = (ltb-true constraint_limit (length all + lines_for boxes) e, ap (λ (n : ℕ). n + lines_for boxes) (length-append constraints limits))
      by_length false e = is_closed (ltb-false constraint_limit (length all + lines_for boxes) e)

-- the boxes from which limits take what is closed are of the schema
pub are_of_one : (schema : Schema) (constraints limits : List Constraint) → AreConstraints schema (constraints ++ limits) →
    AreRegions schema (named_boxes constraints ++ opened_boxes limits)
are_of_one schema constraints limits accepted =
    All-append (λ (box : Region). is_region_of schema box ≡ true) (named_boxes constraints) (opened_boxes limits)
    (named_regions schema constraints (all_first (IsServable schema) constraints limits accepted.servable))
    (opened_regions schema limits (all_second (IsServable schema) constraints limits accepted.servable))

-- each row that limits would open is in one closing box, and no other row is in any
pub closing_rows : (schema : Schema) (constraints limits : List Constraint) (row : Row) → AreConstraints schema (constraints ++ limits) →
    held_by (closing_boxes constraints limits) row ≡ one_if (is_opened constraints limits row)
closing_rows schema constraints limits row accepted =
    closing_held schema constraints limits row (all_first (IsServable schema) constraints limits accepted.servable)
    (all_second (IsServable schema) constraints limits accepted.servable)
