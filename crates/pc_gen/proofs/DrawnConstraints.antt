-- Constraints that are drawn one after the other, as the code makes them and as the definition says.
use Rattle.std.proofs.Common.{◌≡◌, ◌∙◌, ℕ, zero, suc, ◌+◌, ◌-◌, ◌<◌, ◌≤◌, ◌&&◌, true, ℤ, List, [], ◌∷◌, ◌++◌, length, map, filter, Option, Some, None, All, refl, ap, sym, subst, arith}
use Rattle.std.specs.List.{reduce}
use Rattle.std.specs.Int.{int_min, int_max}
use Rattle.std.proofs.Math.Bool.{and-true}
use Rattle.std.proofs.Math.Path.{ap₂}
use Rattle.std.proofs.lemmas.List.{append_assoc, append-nil}
use Rattle.std.proofs.lemmas.List.Elements.{All-nil, All-cons, filter_agree}
use Rattle.pc_model.specs.declared.row.Row.{Row}
use Rattle.pc_model.specs.declared.region.Side.{Side}
use Rattle.pc_model.specs.declared.region.Region.{Region}
use Rattle.pc_model.specs.declared.area.Area.{Area}
use Rattle.pc_model.specs.declared.constraint.Constraint.{Constraint}
use Rattle.pc_model.specs.Regions.{one_box}
use Rattle.pc_model.proofs.Areas.{in_one_box}
use Rattle.pc_model.specs.declared.query.Agg.TheVariants.{Count}
use Rattle.pc_model.specs.declared.query.Query.{Query}
use Rattle.pc_model.specs.declared.query.Folded.{Folded}
use Rattle.pc_model.specs.Aggregate.{kept}
use Rattle.pc_model.specs.Folds.{IsFold, best_at}
use Rattle.pc_model.specs.Membership.{has, is_in}
use Rattle.pc_gen.specs.Draws.{after}
use Rattle.pc_gen.specs.Folded.{constraint_by, priced_region}
use Rattle.pc_gen.specs.Generated.{constraint_over, drawn_branches, drawn_constraint, drawn_constraints, drawn_prices, drawn_span, drawn_when, price_column, price_draws, price_of, region_of, values_over, when_draws}
use Rattle.pc_gen.proofs.Stepping.{and_then}

-- ---- one of them

pub when_is : (number state second third : ℕ) (branches days prices : Side) → branches ≡ drawn_branches state → second ≡ after 1 state → days ≡ drawn_span 1 31 second → third ≡ after 2 second → prices ≡ drawn_prices number third → region_of branches days prices ≡ drawn_when number state
when_is number state second third branches days prices branches_are second_is days_are third_is prices_are =
    ap (λ side. region_of side days prices) branches_are
    ∙ ap (λ side. region_of (drawn_branches state) side prices) (days_are ∙ ap (drawn_span 1 31) second_is)
    ∙ ap (region_of (drawn_branches state) (drawn_span 1 31 (after 1 state))) (prices_are ∙ ap (drawn_prices number) (and_then 2 1 state second third second_is third_is))

turned : (a b : ℕ) → a + b ≡ b + a
turned a b = omega arith

pub after_when : (number state second third last : ℕ) → second ≡ after 1 state → third ≡ after 2 second → last ≡ after (price_draws number) third → last ≡ after (when_draws number) state
after_when number state second third last second_is third_is last_is =
    and_then (price_draws number) 3 state third last (and_then 2 1 state second third second_is third_is) last_is
    ∙ ap (λ n. after n state) (turned (price_draws number) 3)

pub after_constraint : (number state second last : ℕ) → second ≡ after (when_draws number) state → last ≡ after 2 second → last ≡ after (when_draws number + 2) state
after_constraint number state second last second_is last_is =
    and_then 2 (when_draws number) state second last second_is last_is ∙ ap (λ n. after n state) (turned 2 (when_draws number))

priced_is : (prices : List ℤ) → priced_region (reduce int_min prices) (reduce int_max prices) ≡ values_over prices
priced_is [] = refl
priced_is (price ∷ prices) = refl

-- the query whose fold tells of the rows in an area
abbrev pub query_in : Area → Query
query_in area = record { agg = Count; column = Some price_column; chosen = area; group = None }

kept_are : (when : Region) (hidden : List Row) → kept (query_in (one_box when)) None hidden ≡ filter (has when) hidden
kept_are when hidden = filter_agree (λ found. is_in (one_box when) found && true) (has when) (λ found. and-true (is_in (one_box when) found) ∙ in_one_box when found) hidden

by_rows : (number : ℕ) (when : Region) (rows : List Row) (state count : ℕ) (least greatest : Option ℤ) → count ≡ length rows → least ≡ reduce int_min (map price_of rows) → greatest ≡ reduce int_max (map price_of rows) → constraint_by number (one_box when) count least greatest state ≡ constraint_over number when rows state
by_rows number when rows state count least greatest count_is least_is greatest_is =
    ap (λ n. constraint_by number (one_box when) n least greatest state) count_is
    ∙ ap₂ (λ low high. constraint_by number (one_box when) (length rows) low high state) least_is greatest_is
    ∙ ap (λ (values : Region). record (constraint_over number when rows state) { values = values }) (priced_is (map price_of rows))

pub drawn_is : (hidden : List Row) (number state later : ℕ) (when : Region) (area : Area) (folded : Folded) → when ≡ drawn_when number state → area ≡ one_box when →
    later ≡ after (when_draws number) state → IsFold (query_in area) None hidden folded → constraint_by number area folded.count folded.least folded.greatest later ≡ drawn_constraint hidden number state
drawn_is hidden number state later when area folded when_is area_is later_is given =
    let fold : IsFold (query_in (one_box when)) None hidden folded = subst (λ (found : Area). IsFold (query_in found) None hidden folded) area_is given in
    let inside = kept_are when hidden in
    ap (λ (found : Area). constraint_by number found folded.count folded.least folded.greatest later) area_is
    ∙ by_rows number when (filter (has when) hidden) later folded.count folded.least folded.greatest
    (fold.count ∙ ap (λ (rows : List Row). length rows) inside) (fold.least ∙ ap (best_at int_min (Some price_column)) inside) (fold.greatest ∙ ap (best_at int_max (Some price_column)) inside)
    ∙ ap₂ (λ w s. constraint_over number w (filter (has w) hidden) s) when_is later_is

-- ---- as far as a loop has come

pub constraints_step : (made : List Constraint) (hidden : List Row) (number state later : ℕ) (c : Constraint) → number < 8 → c ≡ drawn_constraint hidden number state → later ≡ after (when_draws number + 2) state →
    (made ++ c ∷ []) ++ drawn_constraints hidden (8 - (number + 1)) (number + 1) later ≡ made ++ drawn_constraints hidden (8 - number) number state
unfolding drawn_constraints
constraints_step made hidden number state later c few c_is later_is =
    let left : 8 - number ≡ suc (8 - (number + 1)) = omega arith in
    append_assoc made (c ∷ []) (drawn_constraints hidden (8 - (number + 1)) (number + 1) later)
    ∙ ap (λ rest. made ++ rest) (ap₂ (λ x s. x ∷ drawn_constraints hidden (8 - (number + 1)) (number + 1) s) c_is later_is
    ∙ ap (λ more. drawn_constraints hidden more number state) (sym left))

pub constraints_end : (made : List Constraint) (hidden : List Row) (number state : ℕ) → 8 ≤ number → made ++ drawn_constraints hidden (8 - number) number state ≡ made
unfolding drawn_constraints
constraints_end made hidden number state past =
    let left : 8 - number ≡ 0 = omega arith in
    ap (λ more. made ++ drawn_constraints hidden more number state) left ∙ append-nil made

-- ---- all of them

pub length_constraints : (hidden : List Row) (more number state : ℕ) → length (drawn_constraints hidden more number state) ≡ more
unfolding drawn_constraints
length_constraints hidden zero number state = refl
length_constraints hidden (suc more) number state = ap suc (length_constraints hidden more (number + 1) (after (when_draws number + 2) state))

-- what holds of the constraint of each number between two holds of those that are drawn
pub each_drawn : (hidden : List Row) (P : Constraint → Type 0) (first last : ℕ) → ((number state : ℕ) → first ≤ number → number < last → P (drawn_constraint hidden number state)) → (more number state : ℕ) → first ≤ number → number + more ≤ last → All P (drawn_constraints hidden more number state)
unfolding drawn_constraints
each_drawn hidden P first last shown zero number state from to = All-nil P
each_drawn hidden P first last shown (suc more) number state from to =
    All-cons P (drawn_constraint hidden number state) (drawn_constraints hidden more (number + 1) (after (when_draws number + 2) state))
    (shown number state from (omega arith))
    (each_drawn hidden P first last shown more (number + 1) (after (when_draws number + 2) state) (omega arith) (omega arith))
