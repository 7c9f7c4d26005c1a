-- Classes that are the same, and what a settled leaf says of the class of its rows.
use Rattle.std.proofs.Common.{◌≡◌, ℕ, ◌==◌, cond, not, Bool, true, false, List, get_or, inl, inr, refl, sym, ap₂, subst, true≢false, arith, eqb-true}
use Rattle.std.proofs.lemmas.Bool.{and_parts, and_from, eq-eqb, false_from_ne_true}
use Rattle.std.proofs.lemmas.List.Elements.{All-contains}
use Rattle.std.proofs.lemmas.List.Folds.{Any-from_list_any}
use Rattle.pc_model.specs.declared.schema.Schema.{Schema}
use Rattle.pc_model.specs.declared.row.Row.{Row}
use Rattle.pc_model.specs.declared.region.Region.{Region}
use Rattle.pc_model.specs.declared.area.Area.{Area}
use Rattle.pc_model.specs.declared.constraint.Constraint.{Constraint}
use Rattle.pc_model.specs.declared.tree.LeafMark.{LeafMark}
use Rattle.pc_model.specs.declared.tree.LeafMark.TheVariants as marks
use Rattle.pc_model.specs.Membership.{has, in_domain, is_in, is_under}
use Rattle.pc_model.specs.Places.{has_bit}
use Rattle.pc_model.specs.Cells.{Class, class_of, mask_of, IsLawful, IsRowOf, IsUnder, IsSettledAs, IsSettledAt, IsSettledSide, IsSettledClass, IsBarren, SpeaksOfNone, is_class, is_mark_of}
use Rattle.pc_cells_laws.proofs.Predicates.{in-from_inside, out-from_apart, meant-from_inside, meant-from_apart}
use Rattle.pc_cells_laws.proofs.Masks.{mask_of-is, covered-from_mask}

-- ---- classes that are the same

same_sides : (x y : Bool) → cond x y (not y) ≡ true → x ≡ y
same_sides true true h = refl
same_sides true false h = absurd (true≢false (sym h))
same_sides false true h = absurd (true≢false (sym h))
same_sides false false h = refl

side_itself : (x : Bool) → cond x x (not x) ≡ true
side_itself true = refl
side_itself false = refl

class-from_parts : (a b : Class) → a.mask ≡ b.mask → a.chosen ≡ b.chosen → a ≡ b
class-from_parts a b same_mask same_side = ap₂ (λ mask chosen. record { mask = mask; chosen = chosen }) same_mask same_side

pub is_class-same : (a b : Class) → is_class a b ≡ true → a ≡ b
is_class-same a b h =
    let p = and_parts (a.mask == b.mask) (cond a.chosen b.chosen (not b.chosen)) h in
    class-from_parts a b (eqb-true a.mask b.mask p.0) (same_sides a.chosen b.chosen p.1)

pub is_class-itself : (a : Class) → is_class a a ≡ true
is_class-itself a = and_from (a.mask == a.mask) (cond a.chosen a.chosen (not a.chosen)) (eq-eqb a.mask a.mask refl) (side_itself a.chosen)

pub is_class-from_same : (a b : Class) → a ≡ b → is_class a b ≡ true
is_class-from_same a b same = subst (λ other. is_class a other ≡ true) same (is_class-itself a)

pub is_class-turned : (a b : Class) → is_class a b ≡ true → is_class b a ≡ true
is_class-turned a b h = is_class-from_same b a (sym (is_class-same a b h))

-- ---- what a settled leaf says of its rows

-- each bit of the mask is that of the row
settled_bit : (cs : List Constraint) (box : Region) (mask place : ℕ) (c : Constraint) (row : Row) → IsSettledAt cs box mask place c → has box row ≡ true → has_bit mask place ≡ is_under cs c row
settled_bit cs box mask place c row settled held = by_bit (has_bit mask place) settled
  where
    by_bit : (bit : Bool) → cond bit (IsUnder cs box c) (SpeaksOfNone cs box c) → bit ≡ is_under cs c row
    by_bit true under = sym (meant-from_inside box row held cs c.when under.when)
    by_bit false apart = sym (false_from_ne_true (is_under cs c row) (meant-from_apart box row held cs c.when apart))

settled_values : (cs : List Constraint) (box : Region) (mask place : ℕ) (c : Constraint) (row : Row) → IsSettledAt cs box mask place c → has box row ≡ true → is_under cs c row ≡ true →
    has c.values row ≡ true
settled_values cs box mask place c row settled held spoken = by_bit (has_bit mask place) settled
  where
    by_bit : (bit : Bool) → cond bit (IsUnder cs box c) (SpeaksOfNone cs box c) → has c.values row ≡ true
    by_bit true under = under.values row held
    by_bit false apart = absurd (meant-from_apart box row held cs c.when apart spoken)

settled_side : (chosen : Area) (box : Region) (side : Bool) (row : Row) → IsSettledSide box chosen side → has box row ≡ true → is_in chosen row ≡ side
settled_side chosen box true row inside held = in-from_inside box row held chosen inside
settled_side chosen box false row apart held = false_from_ne_true (is_in chosen row) (out-from_apart box row held chosen apart)

module _ (constraints : List Constraint) (chosen : Area) (box : Region) where
  settled_mask : (mask : ℕ) (side : Bool) (row : Row) → IsSettledClass constraints chosen box mask side → has box row ≡ true → mask_of constraints row ≡ mask
  settled_mask mask side row settled held =
      mask_of-is constraints row mask settled.short (λ place d within. settled_bit constraints box mask place (get_or constraints place d) row (settled.each place d within) held)

  class-of_settled : (mask : ℕ) (side : Bool) (row : Row) → IsSettledClass constraints chosen box mask side → has box row ≡ true →
      class_of constraints chosen row ≡ record { mask = mask; chosen = side }
  class-of_settled mask side row settled held =
      class-from_parts (class_of constraints chosen row) (record { mask = mask; chosen = side }) (settled_mask mask side row settled held)
      (settled_side chosen box side row settled.side held)

  barren_row : (row : Row) → IsBarren constraints box → has box row ≡ true → IsLawful constraints row → ⊥
  barren_row row (inl some) held lawful =
      some.4.1 row held (All-contains (λ (c : Constraint). is_under constraints c row ≡ true → has c.values row ≡ true) constraints some.1 lawful.kept (some.0, some.2, some.3)
      (meant-from_inside box row held constraints some.1.when some.4.0))
  barren_row row (inr none) held lawful =
      let found = Any-from_list_any (λ (c : Constraint). is_under constraints c row) constraints lawful.covered in
      meant-from_apart box row held constraints found.1.when
      (All-contains (SpeaksOfNone constraints box) constraints found.1 none (found.0, found.2, found.3)) found.4

  -- a row of a settled leaf that can be lost is of the class of the leaf
  pub settled_class : (mark : LeafMark) (row : Row) → IsSettledAs constraints chosen box mark → has box row ≡ true → IsLawful constraints row →
      is_mark_of (class_of constraints chosen row) mark ≡ true
  settled_class marks.Barren row settled held lawful = absurd (barren_row row settled held lawful)
  settled_class (marks.Class mask side) row settled held lawful =
      is_class-from_same (class_of constraints chosen row) (record { mask = mask; chosen = side }) (class-of_settled mask side row settled held)

  -- each row of a settled leaf with a class can be lost
  pub row_of_settled : (schema : Schema) (mask : ℕ) (side : Bool) (row : Row) → IsSettledClass constraints chosen box mask side → in_domain schema row ≡ true → has box row ≡ true →
      IsRowOf schema constraints chosen (record { mask = mask; chosen = side }) row
  row_of_settled schema mask side row settled allowed held = record {
    allowed = allowed;
    lawful = record {
      covered = covered-from_mask constraints row (omega (arith, settled_mask mask side row settled held, settled.some));
      kept = λ place d within spoken. settled_values constraints box mask place (get_or constraints place d) row (settled.each place d within) held spoken;
    };
    of_class = class-of_settled mask side row settled held;
  }

  -- the same of any mark of the class
  pub row_of_mark : (schema : Schema) (class : Class) (mark : LeafMark) (row : Row) → IsSettledAs constraints chosen box mark → is_mark_of class mark ≡ true →
      in_domain schema row ≡ true → has box row ≡ true → IsRowOf schema constraints chosen class row
  row_of_mark schema class marks.Barren row settled marked allowed held = absurd (true≢false (sym marked))
  row_of_mark schema class (marks.Class mask side) row settled marked allowed held =
      subst (λ other. IsRowOf schema constraints chosen other row) (sym (is_class-same class (record { mask = mask; chosen = side }) marked))
      (row_of_settled schema mask side row settled allowed held)
