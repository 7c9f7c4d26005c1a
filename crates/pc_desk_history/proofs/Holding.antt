-- The values that are drafted hold the rows that they are drafted from.
use Rattle.std.proofs.Common.{◌≡◌, ◌∙◌, ℕ, suc, ◌+◌, Bool, true, false, if◌then◌else◌, ℤ, pos, List, [], ◌∷◌, get_or, Option, Some, None, IfSome, refl, sym, ap, arith, true≢false}
use Rattle.std.specs.Cmp.Lexicographic.{pointwise}
use Rattle.std.proofs.lemmas.Bool.{and_from, and_parts}
use Rattle.pc_model.specs.declared.row.Row.{Row}
use Rattle.pc_model.specs.declared.schema.Kind.{Kind}
use Rattle.pc_model.specs.declared.schema.Kind.TheVariants.{Int, Dec, Cat}
use Rattle.pc_model.specs.declared.schema.Column.{Column}
use Rattle.pc_model.specs.declared.schema.Schema.{Schema}
use Rattle.pc_model.specs.Aggregate.{number_at}
use Rattle.pc_model.specs.Membership.{allows, has, holds, in_domain, is_between}
use Rattle.pc_model.specs.Regions.{whole_side}
use Rattle.pc_model.proofs.Between.{between_from, between_parts}
use Rattle.pc_model.proofs.WholeDomain.{domain_holds}
use Rattle.pc_desk_history.specs.declared.extent.Extent.{Extent}
use Rattle.pc_desk_history.specs.declared.wish.Wish.{Wish}
use Rattle.pc_desk_history.specs.Draft.{is_fixed, ranged_side, side_of, side_within, sides_from, values_of}
use Rattle.pc_desk_history.specs.Periods.{extent_of}
use Rattle.pc_desk_history.specs.Widening.{lowered, raised}
use Rattle.pc_desk_history.proofs.Extents.{IsInside, lowered_below, raised_above}

-- ---- one side

span_holds : (percent : ℕ) (low high number : ℤ) (extent : Option Extent) → is_between low high number ≡ true → IfSome extent (IsInside number) → holds (side_within percent low high extent) number ≡ true
unfolding holds
span_holds percent low high number None allowed inside = allowed
span_holds percent low high number (Some extent) allowed inside =
    let parts = between_parts low high number allowed in
    between_from (lowered percent low extent.low) (raised percent high extent.high) number
    (lowered_below percent low extent.low number parts.0 inside.low) (raised_above percent high extent.high number parts.1 inside.high)

ranged_holds : (percent : ℕ) (kind : Kind) (number : ℤ) (extent : Option Extent) → allows kind number ≡ true → holds (whole_side kind) number ≡ true → IfSome extent (IsInside number) →
    holds (ranged_side percent kind extent) number ≡ true
unfolding allows
ranged_holds percent (Int low high) number extent allowed whole inside = span_holds percent low high number extent allowed inside
ranged_holds percent (Dec scale low high) number extent allowed whole inside = span_holds percent low high number extent allowed inside
ranged_holds percent (Cat names) number extent allowed whole inside = whole

whole_holds : (c : Column) (number : ℤ) → allows c.kind number ≡ true → holds (whole_side c.kind) number ≡ true
whole_holds c number allowed =
    (and_parts (holds (whole_side c.kind) number) true (domain_holds (c ∷ []) (number ∷ []) ∙ and_from (allows c.kind number) true allowed refl)).0

side_holds : (wish : Wish) (inside : List Row) (column : ℕ) (c : Column) (number : ℤ) → allows c.kind number ≡ true → IfSome (extent_of column inside) (IsInside number) →
    holds (side_of wish inside column c.kind) number ≡ true
side_holds wish inside column c number allowed held = by_test (is_fixed wish column)
  where
    by_test : (test : Bool) → holds (if test then whole_side c.kind else ranged_side wish.widen c.kind (extent_of column inside)) number ≡ true
    by_test true = whole_holds c number allowed
    by_test false = ranged_holds wish.widen c.kind number (extent_of column inside) allowed (whole_holds c number allowed) held

-- ---- all sides

sides_hold : (wish : Wish) (inside : List Row) (row : Row) → ((column : ℕ) → IfSome (extent_of column inside) (IsInside (number_at row column))) →
    (column : ℕ) (columns : List Column) (cells : List ℤ) → ((place : ℕ) → get_or cells place (pos 0) ≡ number_at row (column + place)) →
    pointwise (λ (c : Column). allows c.kind) columns cells ≡ true → pointwise holds (sides_from wish inside column columns) cells ≡ true
unfolding sides_from
sides_hold wish inside row held column [] [] same allowed = refl
sides_hold wish inside row held column [] (number ∷ cells) same allowed = absurd (true≢false (sym allowed))
sides_hold wish inside row held column (c ∷ columns) [] same allowed = absurd (true≢false (sym allowed))
sides_hold wish inside row held column (c ∷ columns) (number ∷ cells) same allowed =
    let parts = and_parts (allows c.kind number) (pointwise (λ (d : Column). allows d.kind) columns cells) allowed in
    let here : column + 0 ≡ column = omega arith in
    let is : number ≡ number_at row column = same 0 ∙ ap (number_at row) here in
    and_from (holds (side_of wish inside column c.kind) number) (pointwise holds (sides_from wish inside (column + 1) columns) cells)
    (side_holds wish inside column c number parts.0 (rw is (held column)))
    (sides_hold wish inside row held (column + 1) columns cells
    (λ place. let next : column + suc place ≡ column + 1 + place = omega arith in same (suc place) ∙ ap (number_at row) next)
    parts.1)

pub values_hold : (schema : Schema) (wish : Wish) (inside : List Row) (row : Row) → in_domain schema row ≡ true → ((column : ℕ) → IfSome (extent_of column inside) (IsInside (number_at row column))) →
    has (values_of schema wish inside) row ≡ true
unfolding has in_domain
values_hold schema wish inside row allowed held =
    sides_hold wish inside row held 0 schema.columns row.cells (λ place. let same : place ≡ 0 + place = omega arith in ap (number_at row) same) allowed
