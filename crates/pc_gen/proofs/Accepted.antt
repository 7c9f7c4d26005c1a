-- The constraints of generated cases are those of their schema.
use Rattle.std.proofs.Common.{◌≡◌, ◌≢◌, ℕ, zero, suc, ◌+◌, ◌*◌, ◌^◌, ◌<◌, ◌≤◌, ◌&&◌, nat_le, nat_lt, int_le, Bool, true, false, ℤ, pos, ◌≤ℤ◌, List, [], ◌∷◌, ◌++◌, length, map, filter, fold, drop, min, max, All, AllPairs, codes, decimal, refl, ap, arith, inl, inr, if◌then◌else◌}
use Rattle.std.specs.List.{list_all}
use Rattle.std.specs.Int.{int_min, int_max}
use Rattle.std.proofs.lemmas.Bool.{and_from, lt-ltb}
use Rattle.std.proofs.lemmas.Bool.Decides.{nat_tests}
use Rattle.std.proofs.lemmas.Fmt.{decimal_digit, decimal_injective}
use Rattle.std.proofs.lemmas.Int.{ints, fold-int_min_bounds, fold-int_max_bounds, fold-int_min_reached, fold-int_max_reached}
use Rattle.std.proofs.lemmas.List.Elements.{All-head, All-tail, All-filter, All-map, All-contains}
use Rattle.std.proofs.lemmas.List.Kept.{AllPairs-cons}
use Rattle.std.proofs.lemmas.List.Sums.{length-filter, count_by-le-length}
use Rattle.pc_model.specs.declared.row.Row.{Row}
use Rattle.pc_model.specs.declared.region.Side.{Side}
use Rattle.pc_model.specs.declared.region.Side.TheVariants.{Span, Names}
use Rattle.pc_model.specs.declared.region.Region.{Region}
use Rattle.pc_model.specs.declared.constraint.Constraint.{Constraint}
use Rattle.pc_model.specs.Accepted.{AreConstraints, IsNameFor}
use Rattle.pc_model.specs.Boxes.{IsServable}
use Rattle.pc_model.specs.Membership.{has}
use Rattle.pc_model.specs.Regions.{is_region_of, is_side_of, is_span_in, whole_side}
use Rattle.pc_model.specs.Texts.{IsName}
use Rattle.pc_model.proofs.Between.{between_parts, test_from_le}
use Rattle.pc_model.proofs.Areas.{one_box_is_area}
use Rattle.pc_model.proofs.WholeDomain.{whole_is_region}
use Rattle.pc_gen.specs.Draws.{after, draw}
use Rattle.pc_gen.specs.Generated.{after_rows, branch_kind, day_kind, drawn_branches, drawn_constraint, drawn_constraints, drawn_prices, drawn_span, drawn_when, generated_constraints, generated_schema, hidden_rows, is_odd, price_kind, price_of, region_of, span_over, values_over, when_draws}
use Rattle.pc_gen.proofs.DrawnConstraints.{each_drawn, length_constraints}
use Rattle.pc_gen.proofs.DrawnRows.{length_rows, rows_allowed}
use Rattle.pc_model.proofs.PlainNames.{is_plain, plain_name}
use Rattle.pc_gen.proofs.Possible.{IsOfDomain, sale_of, priced}
use Rattle.pc_gen.proofs.Stepping.{draw_below}
use Rattle.pc_gen.proofs.Tables.{schema_formed}

-- ---- regions

region_is : (a b c : Side) → is_side_of branch_kind a ≡ true → is_side_of day_kind b ≡ true → is_side_of price_kind c ≡ true → is_region_of generated_schema (region_of a b c) ≡ true
unfolding is_region_of
region_is a b c first second third =
    and_from (is_side_of branch_kind a) (is_side_of day_kind b && (is_side_of price_kind c && true)) first
    (and_from (is_side_of day_kind b) (is_side_of price_kind c && true) second (and_from (is_side_of price_kind c) true third refl))

one_branch : (place : ℕ) → place < 4 → is_side_of branch_kind (Names (2 ^ place)) ≡ true
one_branch zero few = refl
one_branch (suc zero) few = refl
one_branch (suc (suc zero)) few = refl
one_branch (suc (suc (suc zero))) few = refl
one_branch (suc (suc (suc (suc place)))) few = absurd (omega arith)

branches_are : (place : ℕ) (test : Bool) → nat_lt place 4 ≡ test → is_side_of branch_kind (if test then Names (2 ^ place) else whole_side branch_kind) ≡ true
branches_are place true e = one_branch place (grind (arith, nat_tests, e))
branches_are place false e = refl

span_is : (low high a b : ℤ) → low ≤ℤ a → a ≤ℤ b → b ≤ℤ high → is_span_in low high (Span a b) ≡ true
span_is low high a b from ordered to =
    and_from (int_le low a) (int_le a b && int_le b high) (test_from_le low a from)
    (and_from (int_le a b) (int_le b high) (test_from_le a b ordered) (test_from_le b high to))

span_over_is : (low high a b : ℕ) → low ≤ a → low ≤ b → a ≤ high → b ≤ high → is_span_in (pos low) (pos high) (span_over a b) ≡ true
span_over_is low high a b first second third fourth =
    span_is (pos low) (pos high) (pos (min a b)) (pos (max a b)) (omega (arith, ints)) (omega (arith, ints)) (omega (arith, ints))

days_are : (state : ℕ) → is_side_of day_kind (drawn_span 1 31 state) ≡ true
days_are state =
    let first = draw_below 31 state (omega arith) in
    let second = draw_below 31 (after 1 state) (omega arith) in
    span_over_is 1 31 (1 + draw 31 state) (1 + draw 31 (after 1 state)) (omega arith) (omega arith) (omega arith) (omega arith)

prices_are : (state : ℕ) (test : Bool) → is_side_of price_kind (if test then drawn_span 0 100001 state else whole_side price_kind) ≡ true
prices_are state true =
    let first = draw_below 100001 state (omega arith) in
    let second = draw_below 100001 (after 1 state) (omega arith) in
    span_over_is 0 100000 (0 + draw 100001 state) (0 + draw 100001 (after 1 state)) (omega arith) (omega arith) (omega arith) (omega arith)
prices_are state false = refl

when_is : (number state : ℕ) → is_region_of generated_schema (drawn_when number state) ≡ true
when_is number state =
    region_is (drawn_branches state) (drawn_span 1 31 (after 1 state)) (drawn_prices number (after 3 state))
    (branches_are (draw 5 state) (nat_lt (draw 5 state) 4) refl) (days_are (after 1 state)) (prices_are (after 3 state) (is_odd number))

-- ---- values

abbrev IsPrice : ℤ → Type 0
IsPrice price = (pos 0 ≤ℤ price) × (price ≤ℤ pos 100000)

is_price : (found : Row) → IsOfDomain found → IsPrice (price_of found)
is_price found allowed =
    let s = sale_of found allowed in
    rw (priced found s) (between_parts (pos 0) (pos 100000) s.price s.price_in)

values_are : (prices : List ℤ) → All IsPrice prices → is_region_of generated_schema (values_over prices) ≡ true
values_are [] all = whole_is_region generated_schema schema_formed
values_are (price ∷ prices) all =
    let low = fold int_min price prices in
    let high = fold int_max price prices in
    let least = fold-int_min_bounds price prices (fold int_min price prices) refl in
    let greatest = fold-int_max_bounds price prices (fold int_max price prices) refl in
    let first = All-head IsPrice price prices all in
    let from : pos 0 ≤ℤ fold int_min price prices = elim (fold-int_min_reached price prices (fold int_min price prices) refl) [
      | inl same ↦ rw same first.0
      | inr inside ↦ (All-contains IsPrice prices (fold int_min price prices) (All-tail IsPrice price prices all) inside).0
    ] in
    let to : fold int_max price prices ≤ℤ pos 100000 = elim (fold-int_max_reached price prices (fold int_max price prices) refl) [
      | inl same ↦ rw same first.1
      | inr inside ↦ (All-contains IsPrice prices (fold int_max price prices) (All-tail IsPrice price prices all) inside).1
    ] in
    let least_first = least.0 in
    let greatest_first = greatest.0 in
    region_is (whole_side branch_kind) (whole_side day_kind) (Span (fold int_min price prices) (fold int_max price prices)) refl refl
    (span_is (pos 0) (pos 100000) (fold int_min price prices) (fold int_max price prices) from (omega (arith, ints)) to)

-- ---- the constraint of a number

inside_few : (when : Region) (hidden : List Row) → length (filter (has when) hidden) ≤ length hidden
inside_few when hidden = omega (arith, length-filter (has when) hidden, count_by-le-length (has when) hidden)

servable : (hidden : List Row) → All IsOfDomain hidden → (number state : ℕ) → IsServable generated_schema (drawn_constraint hidden number state)
servable hidden allowed number state =
    let inside = filter (has (drawn_when number state)) hidden in
    record {
      when_area = one_box_is_area generated_schema (drawn_when number state) (when_is number state);
      value_region = values_are (map price_of (filter (has (drawn_when number state)) hidden)) (All-map IsPrice price_of (filter (has (drawn_when number state)) hidden)
          (λ k d here. is_price _ (All-filter (has (drawn_when number state)) IsOfDomain hidden allowed k d here)));
      ordered = omega arith;
    }

small : (hidden : List Row) → length hidden ≤ 10000 → (number state : ℕ) → (drawn_constraint hidden number state).most ≤ 10000000
small hidden few number state =
    let within = inside_few (drawn_when number state) hidden in
    let more = draw_below 3 (after 1 (after (when_draws number) state)) (omega arith) in
    omega arith

-- ---- names

abbrev name_of : ℕ → List ℕ
name_of number = codes "g" ++ decimal number

digit_plain : (number : ℕ) → number < 10 → list_all is_plain (103 ∷ (48 + number) ∷ []) ≡ true
digit_plain number few =
    let low : nat_le 32 (48 + number) ≡ true = grind (arith, nat_tests) in
    let high : nat_lt (48 + number) 127 ≡ true = lt-ltb (48 + number) 127 (omega arith) in
    and_from (is_plain (48 + number)) true (and_from (nat_le 32 (48 + number)) (nat_lt (48 + number) 127) low high) refl

named : (number : ℕ) → number < 10 → IsName (name_of number)
named number few = rw (decimal_digit number few) (plain_name (103 ∷ (48 + number) ∷ []) (digit_plain number few) (omega arith) (omega arith))

other_name : (a b : ℕ) → a < b → b < 10 → name_of a ≢ name_of b
other_name a b before few same =
    let equal : a ≡ b = decimal_injective a b (omega arith) (omega arith) (ap (drop 1) same) in
    absurd (omega arith)

own_names : (hidden : List Row) (more number state : ℕ) → number + more ≤ 10 → AllPairs (λ (a b : Constraint). a.name ≢ b.name) (drawn_constraints hidden more number state)
unfolding drawn_constraints
own_names hidden zero number state few = λ i j d before inside. absurd (omega arith)
own_names hidden (suc more) number state few =
    AllPairs-cons (λ (a b : Constraint). a.name ≢ b.name) (drawn_constraint hidden number state) (drawn_constraints hidden more (number + 1) (after (when_draws number + 2) state))
    (each_drawn hidden (λ (c : Constraint). name_of number ≢ c.name) (number + 1) 10 (λ k s from to. other_name number k (omega arith) to) more (number + 1) (after (when_draws number + 2) state) (omega arith) (omega arith))
    (own_names hidden more (number + 1) (after (when_draws number + 2) state) (omega arith))

-- ---- all of them

accepted : (hidden : List Row) (state : ℕ) → All IsOfDomain hidden → length hidden ≤ 10000 → AreConstraints generated_schema (drawn_constraints hidden 8 0 state)
accepted hidden state allowed few = record {
  few = rw (length_constraints hidden 8 0 state) (omega arith);
  servable = each_drawn hidden (IsServable generated_schema) 0 8 (λ k s from to. servable hidden allowed k s) 8 0 state (omega arith) (omega arith);
  small = each_drawn hidden (λ (c : Constraint). c.most ≤ 10000000) 0 8 (λ k s from to. small hidden few k s) 8 0 state (omega arith) (omega arith);
  named = each_drawn hidden (λ (c : Constraint). IsNameFor c.when c.name) 0 8 (λ k s from to. named k (omega arith)) 8 0 state (omega arith) (omega arith);
  own_names = own_names hidden 8 0 state (omega arith);
}

pub constraints_accepted : (seed size : ℕ) → size ≤ 1000 → AreConstraints generated_schema (generated_constraints seed size)
constraints_accepted seed size few =
    accepted (hidden_rows seed size) (after_rows (10 * size) (after_rows (100 * size) seed)) (rows_allowed (10 * size) (after_rows (100 * size) seed))
    (rw (length_rows (10 * size) (after_rows (100 * size) seed)) (omega arith))

pub eight_constraints : (seed size : ℕ) → length (generated_constraints seed size) ≡ 8
eight_constraints seed size = length_constraints (hidden_rows seed size) 8 0 (after_rows (10 * size) (after_rows (100 * size) seed))
