-- The hidden rows in some predicate are a possible list of lost rows.
use Rattle.std.proofs.Common.{◌≡◌, ◌∙◌, ℕ, ◌+◌, ◌*◌, ◌&&◌, Bool, true, false, ℤ, pos, ◌≤ℤ◌, List, [], ◌∷◌, length, get_or, map, filter, fold, count_by, All, refl, ap, sym, true≢false, arith}
use Rattle.std.specs.Cmp.Lexicographic.{pointwise}
use Rattle.std.specs.Int.{int_min, int_max}
use Rattle.std.specs.List.{AllPass}
use Rattle.std.proofs.lemmas.Bool.{and_parts, and_from}
use Rattle.std.proofs.lemmas.Int.{fold-int_min_bounds, fold-int_max_bounds}
use Rattle.std.proofs.lemmas.List.Elements.{All-nil, All-cons, All-filter, filter_agree, filter_passes}
use Rattle.std.proofs.lemmas.List.Folds.{list_any_at}
use Rattle.std.proofs.lemmas.List.Sums.{length-filter}
use Rattle.pc_model.specs.declared.schema.Schema.{Schema}
use Rattle.pc_model.specs.declared.row.Row.{Row}
use Rattle.pc_model.specs.declared.region.Side.{Side}
use Rattle.pc_model.specs.declared.region.Side.TheVariants.{Span}
use Rattle.pc_model.specs.declared.region.Region.{Region}
use Rattle.pc_model.specs.declared.constraint.Constraint.{Constraint}
use Rattle.pc_model.specs.Membership.{has, holds, in_domain, is_between, is_under}
use Rattle.pc_model.specs.Possible.{IsPossible, Meets, is_covered}
use Rattle.pc_model.specs.Regions.{whole_side}
use Rattle.pc_model.proofs.Between.{between_from}
use Rattle.pc_model.proofs.WholeDomain.{in_whole}
use Rattle.pc_model.proofs.Areas.{in_one_box}
use Rattle.pc_gen.specs.Generated.{after_rows, branch_kind, constraint_over, day_kind, drawn_constraints, generated_constraints, generated_schema, hidden_rows, price_kind, price_of, region_of, values_over}
use Rattle.pc_gen.proofs.DrawnConstraints.{each_drawn}
use Rattle.pc_gen.proofs.DrawnRows.{rows_allowed}
use Rattle.pc_gen.proofs.Lists.{as_many, before_map, if_kept}

-- ---- rows of the domain

abbrev pub IsOfDomain : Row → Type 0
IsOfDomain found = in_domain generated_schema found ≡ true

abbrev branches : Side
branches = whole_side branch_kind

abbrev days : Side
days = whole_side day_kind

-- three numbers, each in its column's domain
pub record IsSale (cells : List ℤ) : Type 0 where
  pub branch : ℤ
  pub day : ℤ
  pub price : ℤ
  pub is : cells ≡ branch ∷ day ∷ price ∷ []
  pub branch_in : holds branches branch ≡ true
  pub day_in : holds days day ≡ true
  pub price_in : is_between (pos 0) (pos 100000) price ≡ true

sale : (cells : List ℤ) → pointwise holds (branches ∷ days ∷ whole_side price_kind ∷ []) cells ≡ true → IsSale cells
unfolding holds
sale [] h = absurd (true≢false (sym h))
sale (branch ∷ []) h = absurd (true≢false (sym (and_parts (holds branches branch) false h).1))
sale (branch ∷ day ∷ []) h =
    let first = and_parts (holds branches branch) (holds days day && false) h in
    absurd (true≢false (sym (and_parts (holds days day) false first.1).1))
sale (branch ∷ day ∷ price ∷ []) h =
    let first = and_parts (holds branches branch) (holds days day && (is_between (pos 0) (pos 100000) price && true)) h in
    let second = and_parts (holds days day) (is_between (pos 0) (pos 100000) price && true) first.1 in
    let third = and_parts (is_between (pos 0) (pos 100000) price) true second.1 in
    record { branch = branch; day = day; price = price; is = refl; branch_in = first.0; day_in = second.0; price_in = third.0 }
sale (branch ∷ day ∷ price ∷ other ∷ more) h =
    let first = and_parts (holds branches branch) (holds days day && (is_between (pos 0) (pos 100000) price && false)) h in
    let second = and_parts (holds days day) (is_between (pos 0) (pos 100000) price && false) first.1 in
    absurd (true≢false (sym (and_parts (is_between (pos 0) (pos 100000) price) false second.1).1))

pub sale_of : (found : Row) → IsOfDomain found → IsSale found.cells
unfolding has
sale_of found allowed = sale found.cells (in_whole generated_schema found ∙ allowed)

-- ---- values

sale_in_range : (cells : List ℤ) (low high : ℤ) (s : IsSale cells) → low ≤ℤ s.price → s.price ≤ℤ high → pointwise holds (branches ∷ days ∷ Span low high ∷ []) cells ≡ true
unfolding holds
sale_in_range cells low high s above below =
    rw s.is (and_from (holds branches s.branch) (holds days s.day && (is_between low high s.price && true)) s.branch_in
    (and_from (holds days s.day) (is_between low high s.price && true) s.day_in
    (and_from (is_between low high s.price) true (between_from low high s.price above below) refl)))

pub priced : (found : Row) (s : IsSale found.cells) → price_of found ≡ s.price
priced found s = rw s.is refl

in_range : (found : Row) (low high : ℤ) → IsOfDomain found → low ≤ℤ price_of found → price_of found ≤ℤ high → has (region_of branches days (Span low high)) found ≡ true
unfolding has
in_range found low high allowed above below =
    let s = sale_of found allowed in
    let same = priced found s in
    sale_in_range found.cells low high s (rw same at above) (rw same at below)

-- rows of the domain are in the values that are made of their prices
rows_in_values : (rows : List Row) → All (λ found. IsOfDomain found → has (values_over (map price_of rows)) found ≡ true) rows
rows_in_values [] = All-nil (λ (found : Row). IsOfDomain found → has (values_over []) found ≡ true)
rows_in_values (first ∷ rows) =
    let prices = map price_of rows in
    let least = fold-int_min_bounds (price_of first) (map price_of rows) (fold int_min (price_of first) (map price_of rows)) refl in
    let greatest = fold-int_max_bounds (price_of first) (map price_of rows) (fold int_max (price_of first) (map price_of rows)) refl in
    let above = before_map price_of (λ x. fold int_min (price_of first) (map price_of rows) ≤ℤ x) rows least.1 in
    let below = before_map price_of (λ x. x ≤ℤ fold int_max (price_of first) (map price_of rows)) rows greatest.1 in
    All-cons (λ (found : Row). IsOfDomain found → has (values_over (map price_of (first ∷ rows))) found ≡ true) first rows
    (λ allowed. in_range first (fold int_min (price_of first) (map price_of rows)) (fold int_max (price_of first) (map price_of rows)) allowed least.0 greatest.0)
    (λ k d inside allowed. in_range (get_or rows k d) (fold int_min (price_of first) (map price_of rows)) (fold int_max (price_of first) (map price_of rows)) allowed (above k d inside) (below k d inside))

-- ---- constraints

meets : (all : List Constraint) (hidden : List Row) (number : ℕ) (when : Region) (state : ℕ) → All IsOfDomain hidden →
    Meets all (constraint_over number when (filter (has when) hidden) state) hidden
meets all hidden number when state allowed =
    let speaks : Row → Bool = is_under all (constraint_over number when (filter (has when) hidden) state) in
    let counted : length (filter (has when) hidden) ≡ count_by speaks hidden =
    ap (λ (rows : List Row). length rows) (sym (filter_agree speaks (has when) (in_one_box when) hidden)) ∙ length-filter speaks hidden in
    let kept = if_kept (has when) (λ (found : Row). IsOfDomain found → has (values_over (map price_of (filter (has when) hidden))) found ≡ true) hidden (rows_in_values (filter (has when) hidden)) in
    record {
      in_values = λ k d here under. kept k d here (sym (in_one_box when (get_or hidden k d)) ∙ under) (allowed k d here);
      enough = omega (arith, counted);
      not_more = omega (arith, counted);
    }

all_meet : (all : List Constraint) (hidden : List Row) (more number state : ℕ) → All IsOfDomain hidden → All (λ c. Meets all c hidden) (drawn_constraints hidden more number state)
all_meet all hidden more number state allowed =
    each_drawn hidden (λ c. Meets all c hidden) 0 (number + more) (λ k s from to. meets all hidden k _ _ allowed) more number state (omega arith) (omega arith)

-- what keeps a constraint keeps it without the rows that no constraint covers
still_meets : (c : Constraint) (constraints : List Constraint) (rows : List Row) → ((found : Row) → is_under constraints c found ≡ true → is_covered constraints found ≡ true) →
    Meets constraints c rows → Meets constraints c (filter (is_covered constraints) rows)
still_meets c constraints rows covers met =
    let same = as_many (is_under constraints c) (is_covered constraints) covers rows in
    record {
      in_values = All-filter (is_covered constraints) (λ (found : Row). is_under constraints c found ≡ true → has c.values found ≡ true) rows met.in_values;
      enough = rw same met.enough;
      not_more = rw same met.not_more;
    }

covered_are_possible : (schema : Schema) (constraints : List Constraint) (rows : List Row) → AllPass (in_domain schema) rows → All (λ c. Meets constraints c rows) constraints →
    IsPossible schema constraints (filter (is_covered constraints) rows)
covered_are_possible schema constraints rows allowed met = record {
  allowed = All-filter (is_covered constraints) (λ (found : Row). in_domain schema found ≡ true) rows allowed;
  covered = filter_passes (is_covered constraints) rows;
  meets = λ k d inside. still_meets (get_or constraints k d) constraints rows
      (λ found under. list_any_at (λ (c : Constraint). is_under constraints c found) constraints k d inside under) (met k d inside);
}

pub hidden_are_possible : (seed size : ℕ) → IsPossible generated_schema (generated_constraints seed size) (filter (is_covered (generated_constraints seed size)) (hidden_rows seed size))
hidden_are_possible seed size =
    let allowed = rows_allowed (10 * size) (after_rows (100 * size) seed) in
    covered_are_possible generated_schema (generated_constraints seed size) (hidden_rows seed size) allowed
    (all_meet (generated_constraints seed size) (hidden_rows seed size) 8 0 (after_rows (10 * size) (after_rows (100 * size) seed)) allowed)
