-- No draft is tighter, where nothing is widened and no number of lost rows is given.
use Rattle.std.proofs.Common.{◌≡◌, ◌∙◌, ℕ, zero, suc, ◌+◌, ◌≤◌, not, Bool, true, false, if◌then◌else◌, ℤ, ◌≤ℤ◌, List, [], ◌∷◌, All, get_or, length, Option, Some, None, IfSome, IsSomeAnd, is_some, option_map, slice_get, refl, sym, ap, subst, arith, true≢false}
use Rattle.std.specs.Ordering.{int_eq}
use Rattle.std.specs.Prelude.{fold}
use Rattle.std.specs.List.{AllPass, list_any}
use Rattle.std.proofs.lemmas.Bool.{and_parts, or_left}
use Rattle.std.proofs.lemmas.Bool.Decides.{Decides-int_eq}
use Rattle.std.proofs.lemmas.List.Elements.{All-head, All-tail}
use Rattle.pc_model.specs.declared.area.Area.{Area}
use Rattle.pc_model.specs.declared.row.Row.{Row}
use Rattle.pc_model.specs.declared.schema.Kind.{Kind}
use Rattle.pc_model.specs.declared.schema.Kind.TheVariants.{Int, Dec, Cat}
use Rattle.pc_model.specs.declared.schema.Column.{Column}
use Rattle.pc_model.specs.declared.schema.Schema.{Schema}
use Rattle.pc_model.specs.Aggregate.{number_at}
use Rattle.pc_model.specs.Membership.{in_domain, is_in}
use Rattle.pc_model.specs.Regions.{whole_side}
use Rattle.pc_desk_history.specs.declared.numbers.Numbers.{Numbers}
use Rattle.pc_desk_history.specs.declared.extent.Extent.{Extent}
use Rattle.pc_desk_history.specs.declared.wish.Wish.{Wish}
use Rattle.pc_desk_history.specs.Draft.{IsColumnIn, counts_gaps, drafted_cell, from_none, is_fixed, numbers_of, numbers_over, or_none, ranged_side, side_of, side_within, sides_from, values_of}
use Rattle.pc_desk_history.specs.Laws.{AreTight, AreWithin, EachPeriod, IsNoWider, IsTight}
use Rattle.pc_desk_history.specs.Periods.{count_in, extent_of, is_gapped, is_of, period_of, periods_of, rows_in}
use Rattle.pc_desk_history.proofs.Around.{IsAround, over_known, with_one_more}
use Rattle.pc_desk_history.proofs.Extents.{IsWithinEnds, extent_within, high_end_kept, low_end_kept, no_part}
use Rattle.pc_desk_history.proofs.Gaps.{all_periods, is_listed_of, is_unlisted_of}
use Rattle.pc_desk_history.proofs.Sifted.{none_counted}
use Rattle.pc_desk_history.proofs.Unlisted.{each_is_period, has_unlisted}
use Rattle.pc_desk_history.proofs.Within.{AreChosen, cells_chosen}

-- ---- numbers

module _ (f g : ℤ → ℕ) where
  over_least : (least : ℕ) (before : Option Numbers) (periods : List ℤ) → All (λ p. least ≤ f p) periods → IfSome before (λ m. least ≤ m.least) →
      IfSome (fold (with_one_more f g None) before periods) (λ m. least ≤ m.least)
  over_least least before [] each so_far = so_far
  over_least least before (period ∷ periods) each so_far =
      over_least least (with_one_more f g None before period) periods (All-tail (λ p. least ≤ f p) period periods each)
      (one_more before (All-head (λ p. least ≤ f p) period periods each) so_far)
    where
      one_more : (numbers : Option Numbers) → least ≤ f period → IfSome numbers (λ m. least ≤ m.least) → IfSome (with_one_more f g None numbers period) (λ m. least ≤ m.least)
      one_more None here so_far = here
      one_more (Some numbers) here so_far = omega (arith, here, so_far)

  over_most : (most : ℕ) (before : Option Numbers) (periods : List ℤ) → All (λ p. f p ≤ most) periods → IfSome before (λ m. m.most ≤ most) →
      IfSome (fold (with_one_more f g None) before periods) (λ m. m.most ≤ most)
  over_most most before [] each so_far = so_far
  over_most most before (period ∷ periods) each so_far =
      over_most most (with_one_more f g None before period) periods (All-tail (λ p. f p ≤ most) period periods each)
      (one_more before (All-head (λ p. f p ≤ most) period periods each) so_far)
    where
      one_more : (numbers : Option Numbers) → f period ≤ most → IfSome numbers (λ m. m.most ≤ most) → IfSome (with_one_more f g None numbers period) (λ m. m.most ≤ most)
      one_more None here so_far = here
      one_more (Some numbers) here so_far = omega (arith, here, so_far)

some_least : (least count : ℕ) (numbers : Option Numbers) → IsSomeAnd numbers (IsAround count) → IfSome numbers (λ m. least ≤ m.least) → least ≤ (or_none numbers).least
some_least least count None some under = absurd some
some_least least count (Some numbers) some under = under

any_most : (most : ℕ) (numbers : Option Numbers) → IfSome numbers (λ m. m.most ≤ most) → (or_none numbers).most ≤ most
any_most most None over = omega arith
any_most most (Some numbers) over = over

same_most : (gapped : Bool) (numbers : Numbers) → (from_none gapped numbers).most ≡ numbers.most
same_most true numbers = refl
same_most false numbers = refl

module _ (schema : Schema) (wish : Wish) (chosen inside : List Row) (plain : wish.widen ≡ 0) (known : wish.lost ≡ None) (there : IsColumnIn schema wish.per) where
  abbrev before_gaps : Option Numbers
  before_gaps = numbers_over wish chosen inside (periods_of wish.per chosen)

  -- what holds of each period holds of each that is listed
  each_listed : (P : ℤ → Type 0) → EachPeriod schema wish chosen P → All P (periods_of wish.per chosen)
  each_listed P each = all_periods wish.per P chosen (λ k d inside_it. each (period_of wish.per (get_or chosen k d)) (each_is_period schema wish.per chosen there k d inside_it))

  tight_most : (most : ℕ) → EachPeriod schema wish chosen (λ period. count_in wish.per inside period ≤ most) → (numbers_of schema wish chosen inside).most ≤ most
  tight_most most each =
      let numbers = from_none (counts_gaps schema wish chosen) (or_none before_gaps) in
      let part = no_part wish.widen numbers.most plain in
      let same = same_most (counts_gaps schema wish chosen) (or_none before_gaps) in
      let within = any_most most before_gaps over in
      omega (arith, part, same, within)
    where
      over : IfSome before_gaps (λ m. m.most ≤ most)
      over = subst (λ lost. IfSome (fold (with_one_more (count_in wish.per inside) (count_in wish.per chosen) lost) None (periods_of wish.per chosen)) (λ m. m.most ≤ most)) (sym known)
          (over_most (count_in wish.per inside) (count_in wish.per chosen) most None (periods_of wish.per chosen) (each_listed (λ p. count_in wish.per inside p ≤ most) each) tt)

  module _ (some : 1 ≤ length chosen) (none : (period : ℤ) → list_any (is_of wish.per period) chosen ≡ false → count_in wish.per inside period ≡ 0) where
    first_listed : (rows : List Row) → 1 ≤ length rows → (period : ℤ) × (list_any (int_eq period) (periods_of wish.per rows) ≡ true)
    first_listed [] few = absurd (omega (arith, few))
    first_listed (row ∷ rows) few =
        let period = period_of wish.per row in
        (period, is_listed_of wish.per (row ∷ rows) period (or_left (is_of wish.per period row) (list_any (is_of wish.per period) rows) ((Decides-int_eq period period).1 refl)))

    tight_least : (least : ℕ) → EachPeriod schema wish chosen (λ period. least ≤ count_in wish.per inside period) → least ≤ (numbers_of schema wish chosen inside).least
    tight_least least each =
        let numbers = from_none (counts_gaps schema wish chosen) (or_none before_gaps) in
        let part = no_part wish.widen numbers.least plain in
        let under = by_gaps (counts_gaps schema wish chosen) refl in
        omega (arith, part, under)
      where
        under_each : IfSome before_gaps (λ m. least ≤ m.least)
        under_each = subst (λ lost. IfSome (fold (with_one_more (count_in wish.per inside) (count_in wish.per chosen) lost) None (periods_of wish.per chosen)) (λ m. least ≤ m.least)) (sym known)
            (over_least (count_in wish.per inside) (count_in wish.per chosen) least None (periods_of wish.per chosen) (each_listed (λ p. least ≤ count_in wish.per inside p) each) tt)

        by_gaps : (gapped : Bool) → counts_gaps schema wish chosen ≡ gapped → least ≤ (from_none gapped (or_none before_gaps)).least
        by_gaps true e =
            let gap = (and_parts (not (is_some wish.lost)) (is_gapped schema wish.per chosen) e).1 in
            let out = has_unlisted schema wish.per chosen gap in
            let has_none = none out.0 (is_unlisted_of wish.per chosen out.0 out.2) in
            let under = each out.0 out.1 in
            omega (arith, under, has_none)
        by_gaps false e =
            let listed = first_listed chosen some in
            some_least least (count_in wish.per inside listed.0) before_gaps
            (over_known (count_in wish.per inside) (count_in wish.per chosen) wish.lost (periods_of wish.per chosen) listed.0 known listed.1)
            under_each

-- ---- values

sides_at : (wish : Wish) (inside : List Row) (column : ℕ) (columns : List Column) (place : ℕ) →
    slice_get (sides_from wish inside column columns) place ≡ option_map (λ (c : Column). side_of wish inside (column + place) c.kind) (slice_get columns place)
unfolding sides_from
sides_at wish inside column [] place = refl
sides_at wish inside column (c ∷ columns) zero = let same : column ≡ column + 0 = omega arith in ap (λ (n : ℕ). Some (side_of wish inside n c.kind)) same
sides_at wish inside column (c ∷ columns) (suc place) =
    let same : column + 1 + place ≡ column + suc place = omega arith in
    sides_at wish inside (column + 1) columns place ∙ ap (λ (n : ℕ). option_map (λ (d : Column). side_of wish inside n d.kind) (slice_get columns place)) same

module _ (wish : Wish) (inside : List Row) (column : ℕ) (low high : ℤ) (plain : wish.widen ≡ 0) (free : is_fixed wish column ≡ false) where
  no_wider_within : (least greatest : ℤ) (extent : Option Extent) → IsSomeAnd extent (IsWithinEnds low high) → IsNoWider low high (Some (side_within wish.widen least greatest extent))
  no_wider_within least greatest None ends = absurd ends
  no_wider_within least greatest (Some extent) ends =
      (low_end_kept wish.widen least low extent.low plain ends.low_end, high_end_kept wish.widen greatest high extent.high plain ends.high_end)

  no_wider_for : (kind : Kind) → IsSomeAnd (extent_of column inside) (IsWithinEnds low high) → IsNoWider low high (Some (ranged_side wish.widen kind (extent_of column inside)))
  no_wider_for (Int least greatest) ends = no_wider_within least greatest (extent_of column inside) ends
  no_wider_for (Dec scale least greatest) ends = no_wider_within least greatest (extent_of column inside) ends
  no_wider_for (Cat names) ends = tt

  no_wider_side : (kind : Kind) (fixed : Bool) → is_fixed wish column ≡ fixed → IsSomeAnd (extent_of column inside) (IsWithinEnds low high) →
      IsNoWider low high (Some (if fixed then whole_side kind else ranged_side wish.widen kind (extent_of column inside)))
  no_wider_side kind true e ends = absurd (true≢false (sym e ∙ free))
  no_wider_side kind false e ends = no_wider_for kind ends

  no_wider_at : (named : Option Column) → IsSomeAnd (extent_of column inside) (IsWithinEnds low high) → IsNoWider low high (option_map (λ (c : Column). side_of wish inside column c.kind) named)
  no_wider_at None ends = tt
  no_wider_at (Some c) ends = no_wider_side c.kind (is_fixed wish column) refl ends

tight_side : (schema : Schema) (wish : Wish) (inside : List Row) (column : ℕ) (low high : ℤ) → wish.widen ≡ 0 → is_fixed wish column ≡ false → 1 ≤ length inside →
    All (λ row. (low ≤ℤ number_at row column) × (number_at row column ≤ℤ high)) inside → IsNoWider low high (slice_get (values_of schema wish inside).sides column)
tight_side schema wish inside column low high plain free some each =
    let same : 0 + column ≡ column = omega arith in
    let at = sides_at wish inside 0 schema.columns column ∙ ap (λ (n : ℕ). option_map (λ (c : Column). side_of wish inside n c.kind) (slice_get schema.columns column)) same in
    subst (IsNoWider low high) (sym at) (no_wider_at wish inside column low high plain free (slice_get schema.columns column) (extent_within column inside low high each some))

-- ---- cells

pub drafted_tight : (schema : Schema) (rows : List Row) (chosen : Area) (cells : List Area) (wish : Wish) →
    AllPass (in_domain schema) rows → AreWithin schema chosen cells → IsColumnIn schema wish.per → 1 ≤ length (rows_in chosen rows) → wish.widen ≡ 0 → wish.lost ≡ None →
    AreTight schema rows chosen cells wish
drafted_tight schema rows chosen cells wish allowed within there some plain known number k d inside = of_cell (get_or cells k d) (cells_chosen schema rows chosen cells allowed within k d inside)
  where
    of_cell : (cell : Area) → AreChosen rows chosen cell → IsTight schema wish (rows_in chosen rows) (rows_in cell rows) (drafted_cell schema wish rows chosen number cell)
    of_cell cell are_chosen = record {
      least =
          tight_least schema wish (rows_in chosen rows) (rows_in cell rows) plain known there some
          (λ period. none_counted (is_in cell) (is_in chosen) (is_of wish.per period) rows are_chosen);
      most = tight_most schema wish (rows_in chosen rows) (rows_in cell rows) plain known there;
      sides = λ column low high free filled each. tight_side schema wish (rows_in cell rows) column low high plain free filled each;
    }
