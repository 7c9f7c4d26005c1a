-- Constraints that open rows beside others, by the classes that are open.
use Rattle.std.proofs.Common.{◌≡◌, ◌∙◌, ◌↔◌, ◌⊎◌, ℕ, zero, suc, ◌+◌, ◌<◌, ◌≤◌, ◌==◌, ◌&&◌, ◌||◌, not, cond, Bool, true, false, List, [], ◌∷◌, ◌++◌, All, Contains, count_by, get_or, length, inl, inr, refl, sym, ap, ap₂, subst, arith, eqb-true, true≢false}
use Rattle.std.specs.List.{list_any}
use Rattle.std.proofs.lemmas.Bool.{and_from}
use Rattle.std.proofs.lemmas.List.{get_or_append_left, length-append}
use Rattle.std.proofs.Math.Seq.{get_or-append_seam}
use Rattle.std.proofs.lemmas.List.Elements.{All-head, All-tail}
use Rattle.pc_model.specs.declared.constraint.Constraint.{Constraint}
use Rattle.pc_model.specs.declared.row.Row.{Row}
use Rattle.pc_model.specs.declared.schema.Schema.{Schema}
use Rattle.pc_model.specs.Cells.{mask_of}
use Rattle.pc_model.specs.Places.{has_bit}
use Rattle.pc_model.proofs.Tallies.{count_by-skips}
use Rattle.pc_box.proofs.Rows.{row_of_box}
use Rattle.pc_desk_try.specs.declared.opening.Opening.{Opening}
use Rattle.pc_desk_try.specs.Beside.{AreBeside, Crosses, HasRowFor, IsAlone, OpensBeside, SpeaksAlone, crosses, crosses_some, has_both, has_class, has_second, is_alone, is_as_alone, opens_beside, truths_below}
use Rattle.pc_desk_try.specs.Openings.{AreOpenings, CanBeLost, IsOpening, opens_to}

-- ---- one place more

pub alone_more : (k place mask : ℕ) → is_alone (k + 1) place mask ≡ is_alone k place mask && is_as_alone place mask k
alone_more k place mask = let next : k + 1 ≡ suc k = omega arith in ap (λ count. is_alone count place mask) next

pub crosses_more : (openings : List Opening) (place k : ℕ) → crosses_some openings place (k + 1) ≡ crosses_some openings place k || crosses openings place k
crosses_more openings place k = let next : k + 1 ≡ suc k = omega arith in ap (λ count. crosses_some openings place count) next

pub truths_more : (openings : List Opening) (count k : ℕ) → truths_below openings count (k + 1) ≡ truths_below openings count k ++ opens_beside openings count k ∷ []
truths_more openings count k = let next : k + 1 ≡ suc k = omega arith in ap (λ places. truths_below openings count places) next

-- ---- conjunctions and disjunctions

both_of : (a b : Bool) → (a && b) ≡ true → (a ≡ true) × (b ≡ true)
both_of true b e = (refl, e)
both_of false b e = absurd (true≢false (sym e))

one_of : (a b : Bool) → (a || b) ≡ true → (a ≡ true) ⊎ (b ≡ true)
one_of true b e = inl refl
one_of false b e = inr e

or_first : (a b : Bool) → a ≡ true → (a || b) ≡ true
or_first true b e = refl
or_first false b e = absurd (true≢false (sym e))

or_second : (a b : Bool) → b ≡ true → (a || b) ≡ true
or_second true b e = refl
or_second false b e = e

-- ---- a test of classes is one of rows

module _ (schema : Schema) (constraints : List Constraint) (test : ℕ → Bool) where
  row_of_class : (opening : Opening) → IsOpening schema constraints opening → test opening.mask ≡ true → HasRowFor schema constraints test
  row_of_class opening is passes =
      let found = row_of_box opening.region is.filled in
      let within = is.rows found.0 found.1 in
      let same : opening.mask ≡ mask_of constraints found.0 = eqb-true opening.mask (mask_of constraints found.0) within.1 in
      record { row = found.0; lost = within.0; passes = ap test (sym same) ∙ passes }

  class_has_row : (openings : List Opening) → All (IsOpening schema constraints) openings → has_class test openings ≡ true → HasRowFor schema constraints test
  class_has_row [] each some = absurd (true≢false (sym some))
  class_has_row (opening ∷ openings) each some =
      by (class_has_row openings (All-tail (IsOpening schema constraints) opening openings each)) (one_of (test opening.mask) (has_class test openings) some)
    where
      by : (has_class test openings ≡ true → HasRowFor schema constraints test) → (test opening.mask ≡ true) ⊎ (has_class test openings ≡ true) → HasRowFor schema constraints test
      by rest (inl here) = row_of_class opening (All-head (IsOpening schema constraints) opening openings each) here
      by rest (inr later) = rest later

  class_found : (openings : List Opening) (row : Row) → test (mask_of constraints row) ≡ true → count_by (opens_to constraints row) openings ≡ 1 → has_class test openings ≡ true
  class_found [] row passes one = absurd (omega (arith, one))
  class_found (opening ∷ openings) row passes one = by (class_found openings row passes) (opens_to constraints row opening) refl
    where
      by : (count_by (opens_to constraints row) openings ≡ 1 → has_class test openings ≡ true) → (here : Bool) → opens_to constraints row opening ≡ here → has_class test (opening ∷ openings) ≡ true
      by later true here =
          let same : opening.mask ≡ mask_of constraints row = eqb-true opening.mask (mask_of constraints row) here in
          or_first (test opening.mask) (has_class test openings) (ap test same ∙ passes)
      by later false here =
          let rest : count_by (opens_to constraints row) openings ≡ 1 = sym (count_by-skips (opens_to constraints row) opening openings here) ∙ one in
          or_second (test opening.mask) (has_class test openings) (later rest)

  row_has_class : (openings : List Opening) → AreOpenings schema constraints openings → HasRowFor schema constraints test → has_class test openings ≡ true
  row_has_class openings are found = class_found openings found.row found.passes (are.one found.row found.lost)

-- ---- just one bit

bit_is : (same bit : Bool) → cond same bit (not bit) ≡ true → bit ≡ same
bit_is true true e = refl
bit_is true false e = absurd (true≢false (sym e))
bit_is false true e = absurd (true≢false (sym e))
bit_is false false e = refl

bit_as : (same bit : Bool) → bit ≡ same → cond same bit (not bit) ≡ true
bit_as true true e = refl
bit_as true false e = absurd (true≢false (sym e))
bit_as false true e = absurd (true≢false e)
bit_as false false e = refl

alone_is : (count place mask : ℕ) → is_alone count place mask ≡ true → IsAlone count place mask
alone_is zero place mask e k below = absurd (omega (arith, below))
alone_is (suc count) place mask e k below =
    let both = both_of (is_alone count place mask) (is_as_alone place mask count) e in
    by (alone_is count place mask both.0 k) both.1 (k == count) refl
  where
    by : (k < count → has_bit mask k ≡ (k == place)) → is_as_alone place mask count ≡ true → (last : Bool) → (k == count) ≡ last → has_bit mask k ≡ (k == place)
    by earlier here true last =
        let same : k ≡ count = eqb-true k count last in
        ap (has_bit mask) same ∙ bit_is (count == place) (has_bit mask count) here ∙ ap (λ (n : ℕ). n == place) (sym same)
    by earlier here false last =
        let before : k < count = grind (arith, last, below) in
        earlier before

is_alone_of : (count place mask : ℕ) → IsAlone count place mask → is_alone count place mask ≡ true
is_alone_of zero place mask alone = refl
is_alone_of (suc count) place mask alone =
    and_from _ _ (is_alone_of count place mask (λ k below. alone k (omega (arith, below))))
    (bit_as (count == place) (has_bit mask count) (alone count (omega arith)))

-- ---- some other constraint

abbrev CrossesAt : List Opening → ℕ → ℕ → Type 0
CrossesAt openings place count = (other : ℕ) × (other < count) × (crosses openings place other ≡ true)

crossed_by : (openings : List Opening) (place count : ℕ) → crosses_some openings place count ≡ true → CrossesAt openings place count
crossed_by openings place zero e = absurd (true≢false (sym e))
crossed_by openings place (suc count) e = by (crossed_by openings place count) (one_of (crosses_some openings place count) (crosses openings place count) e)
  where
    by : (crosses_some openings place count ≡ true → CrossesAt openings place count) → (crosses_some openings place count ≡ true) ⊎ (crosses openings place count ≡ true) → CrossesAt openings place (suc count)
    by earlier (inl before) = let found = earlier before in let inside = found.1 in (found.0, omega (arith, inside), found.2)
    by earlier (inr here) = (count, omega arith, here)

crosses_by : (openings : List Opening) (place count other : ℕ) → other < count → crosses openings place other ≡ true → crosses_some openings place count ≡ true
crosses_by openings place zero other inside e = absurd (omega (arith, inside))
crosses_by openings place (suc count) other inside e = by (λ before. crosses_by openings place count other before e) (other == count) refl
  where
    by : (other < count → crosses_some openings place count ≡ true) → (last : Bool) → (other == count) ≡ last → crosses_some openings place (suc count) ≡ true
    by earlier true last = or_second (crosses_some openings place count) (crosses openings place count) (ap (crosses openings place) (sym (eqb-true other count last)) ∙ e)
    by earlier false last =
        let before : other < count = grind (arith, last, inside) in
        or_first (crosses_some openings place count) (crosses openings place count) (earlier before)

-- ---- constraint by constraint

module _ (schema : Schema) (constraints : List Constraint) (openings : List Opening) (are : AreOpenings schema constraints openings) where
  abbrev count : ℕ
  count = length constraints

  speaks_alone : (place : ℕ) → has_class (is_alone count place) openings ≡ true → SpeaksAlone schema constraints place
  speaks_alone place e =
      let found = class_has_row schema constraints (is_alone count place) openings are.each e in
      record { row = found.row; lost = found.lost; alone = alone_is count place (mask_of constraints found.row) found.passes }

  alone_spoken : (place : ℕ) → SpeaksAlone schema constraints place → has_class (is_alone count place) openings ≡ true
  alone_spoken place found =
      row_has_class schema constraints (is_alone count place) openings are
      (record { row = found.row; lost = found.lost; passes = is_alone_of count place (mask_of constraints found.row) found.alone })

  does_cross : (place : ℕ) → crosses_some openings place count ≡ true → Crosses schema constraints place
  does_cross place e =
      let found = crossed_by openings place count e in
      let two = both_of (has_class (has_both place found.0) openings) (has_class (has_second place found.0) openings) found.2 in
      record {
        other = found.0;
        inside = found.1;
        both = class_has_row schema constraints (has_both place found.0) openings are.each two.0;
        beyond = class_has_row schema constraints (has_second place found.0) openings are.each two.1;
      }

  crossing_found : (place : ℕ) → Crosses schema constraints place → crosses_some openings place count ≡ true
  crossing_found place crossing =
      crosses_by openings place count crossing.other crossing.inside
      (and_from _ _ (row_has_class schema constraints (has_both place crossing.other) openings are crossing.both)
      (row_has_class schema constraints (has_second place crossing.other) openings are crossing.beyond))

  opens_here : (place : ℕ) → opens_beside openings count place ≡ true ↔ OpensBeside schema constraints place
  opens_here place = (
    λ e. let two = both_of (has_class (is_alone count place) openings) (crosses_some openings place count) e in (speaks_alone place two.0, does_cross place two.1),
    λ opens. and_from _ _ (alone_spoken place opens.0) (crossing_found place opens.1),
  )

  truths_many : (places : ℕ) → length (truths_below openings count places) ≡ places
  truths_many zero = refl
  truths_many (suc places) =
      let before = truths_many places in
      let joined = length-append (truths_below openings count places) (opens_beside openings count places ∷ []) in
      omega (arith, joined, before)

  truth_at : (places place : ℕ) → place < places → get_or (truths_below openings count places) place false ≡ opens_beside openings count place
  truth_at zero place inside = absurd (omega (arith, inside))
  truth_at (suc places) place inside = by (truth_at places place) (place == places) refl
    where
      many : length (truths_below openings count places) ≡ places
      many = truths_many places

      by : (place < places → get_or (truths_below openings count places) place false ≡ opens_beside openings count place) → (last : Bool) → (place == places) ≡ last → get_or (truths_below openings count (suc places)) place false ≡ opens_beside openings count place
      by earlier true last =
          let same : place ≡ places = eqb-true place places last in
          ap (λ (n : ℕ). get_or (truths_below openings count (suc places)) n false) (same ∙ sym many)
          ∙ get_or-append_seam (truths_below openings count places) (opens_beside openings count places) [] false ∙ ap (opens_beside openings count) (sym same)
      by earlier false last =
          let before : place < places = grind (arith, last, inside) in
          let within : place < length (truths_below openings count places) = omega (arith, before, many) in
          get_or_append_left (truths_below openings count places) (opens_beside openings count places ∷ []) false place within ∙ earlier before

  pub are_beside : AreBeside schema constraints (truths_below openings count count)
  are_beside = record {
    many = truths_many count;
    each = λ place inside. (
      λ e. (opens_here place).0 (sym (truth_at count place inside) ∙ e),
      λ opens. truth_at count place inside ∙ (opens_here place).1 opens,
    );
  }
