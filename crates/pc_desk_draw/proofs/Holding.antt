-- The axis of a picture holds all numbers of its blocks.
use Rattle.std.proofs.Common.{◌≡◌, ℕ, ◌^◌, ◌≤◌, ◌*◌, ℤ, pos, ◌-ℤ◌, ◌<ℤ◌, ◌≤ℤ◌, unsigned_abs, Bool, true, false, List, [], ◌∷◌, refl, arith, lit≤, Option, Some, None}
use Rattle.std.specs.List.{All}
use Rattle.std.specs.Prelude.{⊤, IfSome, get_or, int_lt, nat_lt, if◌then◌else◌}
use Rattle.std.proofs.lemmas.Bool.Decides.{leb_tells}
use Rattle.std.proofs.lemmas.Int.{clamps, ints}
use Rattle.std.proofs.lemmas.List.Elements.{All-cons, All-nil}
use Rattle.pc_desk_table.specs.declared.entry.Entry.{Entry}
use Rattle.pc_desk_table.specs.declared.entry.Range.{Range}
use Rattle.pc_desk_table.specs.declared.entry.Value.{Value}
use Rattle.pc_desk_draw.specs.declared.axis.Axis.{Axis}
use Rattle.pc_desk_draw.specs.declared.span.Span.{Span}
use Rattle.pc_desk_draw.specs.Axes.{IsDrawn, IsSmall, IsStepFor, axis_between, axis_of, from_zero, step_for, stretched}
use Rattle.pc_desk_draw.proofs.Placing.{stepped_on, stepped_small}
use Rattle.pc_desk_draw.proofs.Stepping.{step_is}
use Rattle.pc_desk_draw.specs.Numbers.{block_span, bounds_of, drawn, hull, observed_number, ordered, point, range_span, span_of}
use Rattle.pc_desk_draw.specs.Places.{Holds, HoldsNumber, HoldsSpan, IsBlockOn, IsSpanOn}

-- a span that lies within another
abbrev pub Within : Option Span → Option Span → Type 0
Within bounds None = ⊤
Within None (Some span) = ⊥
Within (Some bounds) (Some span) = (bounds.low ≤ℤ span.low) × (span.high ≤ℤ bounds.high)

pub wider : (one bounds span : Option Span) → Within bounds span → Within (hull one bounds) span
wider one bounds None holds = tt
wider one None (Some span) holds = absurd holds
wider None (Some bounds) (Some span) holds = holds
wider (Some one) (Some bounds) (Some span) holds =
    let low = holds.0 in
    let high = holds.1 in
    (omega (arith, ints, clamps, low), omega (arith, ints, clamps, high))

pub own : (one bounds : Option Span) → Within (hull one bounds) one
own None bounds = tt
own (Some one) None = (omega (arith, ints), omega (arith, ints))
own (Some one) (Some bounds) = (omega (arith, ints, clamps), omega (arith, ints, clamps))

second : (one other : Option Span) → Within (hull one other) other
second None None = tt
second None (Some other) = (omega (arith, ints), omega (arith, ints))
second (Some one) None = tt
second (Some one) (Some other) = (omega (arith, ints, clamps), omega (arith, ints, clamps))

pub through : (outer inner span : Option Span) → Within outer inner → Within inner span → Within outer span
through outer inner None wide narrow = tt
through outer None (Some span) wide narrow = absurd narrow
through None (Some inner) (Some span) wide narrow = absurd wide
through (Some outer) (Some inner) (Some span) wide narrow =
    let a = wide.0 in let b = wide.1 in let c = narrow.0 in let d = narrow.1 in
    (omega (arith, ints, a, c), omega (arith, ints, b, d))

-- ---- what is drawn is small and in its order

abbrev pub IsShown : Option Span → Type 0
IsShown None = ⊤
IsShown (Some span) = IsDrawn span

abbrev pub IsShownNumber : Option ℤ → Type 0
IsShownNumber None = ⊤
IsShownNumber (Some number) = unsigned_abs number ≤ 10 ^ 38

drawn_by : (number : ℤ) (test : Bool) → nat_lt (10 ^ 38) (unsigned_abs number) ≡ test → IsShownNumber (if test then None else Some number)
drawn_by number true is = tt
drawn_by number false is = grind (arith, leb_tells, is)

pub drawn_is : (number : Option ℤ) → IsShownNumber (drawn number)
drawn_is None = tt
drawn_is (Some number) = drawn_by number (nat_lt (10 ^ 38) (unsigned_abs number)) refl

ordered_by : (low high : ℤ) (test : Bool) → int_lt high low ≡ test → unsigned_abs low ≤ 10 ^ 38 → unsigned_abs high ≤ 10 ^ 38 → IsShown (if test then None else Some (record { low = low; high = high }))
ordered_by low high true is low_small high_small = tt
ordered_by low high false is low_small high_small = record { low = low_small; order = grind (arith, ints, is); high = high_small }

ordered_is : (low high : Option ℤ) → IsShownNumber low → IsShownNumber high → IsShown (ordered low high)
ordered_is None high a b = tt
ordered_is (Some low) None a b = tt
ordered_is (Some low) (Some high) a b = ordered_by low high (int_lt high low) refl a b

span_is : (range : Range) → IsShown (span_of range)
unfolding span_of
span_is range = ordered_is (drawn range.low.value.millionths) (drawn range.high.value.millionths) (drawn_is range.low.value.millionths) (drawn_is range.high.value.millionths)

range_is : (range : Option Range) → IsShown (range_span range)
range_is None = tt
range_is (Some range) = span_is range

observed_is : (observed : Option Value) → IsShownNumber (observed_number observed)
observed_is None = tt
observed_is (Some value) = drawn_is value.millionths

point_is : (number : Option ℤ) → IsShownNumber number → IsShown (point number)
point_is None small = tt
point_is (Some number) small = record { low = small; order = omega (arith, ints); high = small }

pub hull_is : (one other : Option Span) → IsShown one → IsShown other → IsShown (hull one other)
hull_is None other a b = b
hull_is (Some one) None a b = a
hull_is (Some one) (Some other) a b =
    let l = a.low in let m = b.low in let o = a.order in let p = b.order in let h = a.high in let i = b.high in
    record { low = omega (arith, ints, clamps, l, m); order = omega (arith, ints, clamps, o, p); high = omega (arith, ints, clamps, h, i) }

block_is : (entry : Entry) → IsShown (block_span entry)
block_is entry =
    hull_is (range_span entry.range) (point (observed_number entry.observed)) (range_is entry.range)
    (point_is (observed_number entry.observed) (observed_is entry.observed))

pub bounds_are : (entries : List Entry) → IsShown (bounds_of entries)
unfolding bounds_of
bounds_are [] = tt
bounds_are (entry ∷ rest) = hull_is (block_span entry) (bounds_of rest) (block_is entry) (bounds_are rest)

within_bounds : (entries : List Entry) → All (λ entry. Within (bounds_of entries) (block_span entry)) entries
unfolding bounds_of
within_bounds [] = All-nil (λ entry. Within None (block_span entry))
within_bounds (entry ∷ rest) =
    All-cons (λ one. Within (hull (block_span entry) (bounds_of rest)) (block_span one)) entry rest
    (own (block_span entry) (bounds_of rest))
    (λ k d inside. wider (block_span entry) (bounds_of rest) (block_span (get_or rest k d)) (within_bounds rest k d inside))

-- ---- from the bounds to the axis

pub range_on : (axis : Axis) (bounds : Span) (span : Option Span) → IsSpanOn axis bounds → IsShown span → Within (Some bounds) span → HoldsSpan axis span
range_on axis bounds None on shown within = tt
range_on axis bounds (Some span) on shown within =
    let a = on.low in let b = on.high in let c = within.0 in let d = within.1 in
    record { low = omega (arith, ints, a, c); order = shown.order; high = omega (arith, ints, b, d) }

number_on : (axis : Axis) (bounds : Span) (number : Option ℤ) → IsSpanOn axis bounds → Within (Some bounds) (point number) → HoldsNumber axis number
number_on axis bounds None on within = tt
number_on axis bounds (Some number) on within =
    let a = on.low in let b = on.high in let c = within.0 in let d = within.1 in
    record { low = omega (arith, ints, a, c); high = omega (arith, ints, b, d) }

block_on : (axis : Axis) (bounds : Span) (entry : Entry) → IsSpanOn axis bounds → Within (Some bounds) (block_span entry) → IsBlockOn axis entry
block_on axis bounds entry on within =
    let range = range_span entry.range in
    let observed = observed_number entry.observed in
    record {
      range = range_on axis bounds range on (range_is entry.range) (through (Some bounds) (block_span entry) range within (own range (point observed)));
      observed = number_on axis bounds observed on (through (Some bounds) (block_span entry) (point observed) within (second range (point observed)));
    }

-- ---- one number alone, on an axis of some length

pub record IsStretched (span wider : Span) : Type 0 where
  pub drawn : IsDrawn wider
  pub some : wider.low <ℤ wider.high
  pub low : wider.low ≤ℤ span.low
  pub high : span.high ≤ℤ wider.high

abbrev positive : ℤ → Bool → Span
positive number test = if test then record { low = pos 0; high = number } else record { low = pos 0; high = pos 1_000_000 }

abbrev negative : ℤ → Bool → Bool → Span
negative number test further = if test then record { low = number; high = pos 0 } else positive number further

by_zero : (span : Span) (test further : Bool) → IsDrawn span → span.high ≤ℤ span.low → int_lt span.low (pos 0) ≡ test → int_lt (pos 0) span.low ≡ further
    → IsStretched span (negative span.low test further)
by_zero span true further drawn one below above =
    let small = drawn.low in
    record { drawn = record { low = small; order = grind (arith, ints, below); high = lit≤ tt }; some = grind (arith, ints, below); low = omega (arith, ints); high = grind (arith, ints, below, one) }
by_zero span false true drawn one below above =
    let small = drawn.low in
    record { drawn = record { low = lit≤ tt; order = grind (arith, ints, above); high = small }; some = grind (arith, ints, above); low = grind (arith, ints, above); high = one }
by_zero span false false drawn one below above =
    let least : pos 0 ≤ℤ span.low = grind (arith, ints, below) in
    let most : span.low ≤ℤ pos 0 = grind (arith, ints, above) in
    record { drawn = record { low = lit≤ tt; order = omega (arith, ints); high = omega (arith, ints) }; some = omega (arith, ints); low = least; high = omega (arith, ints, one, most) }

by_order : (span : Span) (test : Bool) → IsDrawn span → int_lt span.low span.high ≡ test → IsStretched span (if test then span else from_zero span.low)
by_order span true drawn is = record { drawn = drawn; some = grind (arith, ints, is); low = omega (arith, ints); high = omega (arith, ints) }
by_order span false drawn is = by_zero span (int_lt span.low (pos 0)) (int_lt (pos 0) span.low) drawn (grind (arith, ints, is)) refl refl

pub stretched_is : (span : Span) → IsDrawn span → IsStretched span (stretched span)
stretched_is span drawn = by_order span (int_lt span.low span.high) drawn refl

pub length_small : (span : Span) → IsDrawn span → unsigned_abs (span.high -ℤ span.low) ≤ 2 * 10 ^ 38
length_small span drawn = let a = drawn.low in let b = drawn.high in omega (arith, ints, a, b)

pub fits_step : (span : Span) (far step : ℕ) → IsDrawn span → far ≡ unsigned_abs (span.high -ℤ span.low) → step ≡ step_for far → IsStepFor (unsigned_abs (span.high -ℤ span.low)) step
fits_step span far step drawn apart is = rw (is, apart) (step_is (unsigned_abs (span.high -ℤ span.low)) (length_small span drawn))

pub ruleset sizes = (length_small, step_is)

pub axis_small : (span : Span) → IsDrawn span → IsSmall (axis_of span)
unfolding axis_of
axis_small span drawn =
    let wide = stretched_is span drawn in
    let wider = stretched span in
    stepped_small (step_for (unsigned_abs (wider.high -ℤ wider.low))) wider wide.drawn wide.some
    (step_is (unsigned_abs (wider.high -ℤ wider.low)) (length_small wider wide.drawn))

pub axis_holds : (span : Span) → IsDrawn span → IsSpanOn (axis_of span) span
unfolding axis_of
axis_holds span drawn =
    let wide = stretched_is span drawn in
    let wider = stretched span in
    let on = stepped_on (step_for (unsigned_abs (wider.high -ℤ wider.low))) wider wide.drawn wide.some
    (step_is (unsigned_abs (wider.high -ℤ wider.low)) (length_small wider wide.drawn)) in
    let a = wide.low in let b = wide.high in let c = on.low in let d = on.high in
    record { low = omega (arith, ints, a, c); order = drawn.order; high = omega (arith, ints, b, d) }

held_by : (entries : List Entry) (bounds : Option Span) → IsShown bounds → All (λ entry. Within bounds (block_span entry)) entries → All (Holds (axis_between bounds)) entries
held_by entries None shown within = λ k d inside. tt
held_by entries (Some bounds) shown within = λ k d inside. block_on (axis_of bounds) bounds (get_or entries k d) (axis_holds bounds shown) (within k d inside)

pub all_held : (entries : List Entry) → All (Holds (axis_between (bounds_of entries))) entries
all_held entries = held_by entries (bounds_of entries) (bounds_are entries) (within_bounds entries)

pub small_by : (bounds : Option Span) → IsShown bounds → IfSome (axis_between bounds) IsSmall
small_by None shown = tt
small_by (Some bounds) shown = axis_small bounds shown

pub all_small : (entries : List Entry) → IfSome (axis_between (bounds_of entries)) IsSmall
all_small entries = small_by (bounds_of entries) (bounds_are entries)

pub drawn_if : (bounds : Option Span) → IsShown bounds → IfSome bounds IsDrawn
drawn_if None shown = tt
drawn_if (Some bounds) shown = shown

pub bounds_drawn : (entries : List Entry) → IfSome (bounds_of entries) IsDrawn
bounds_drawn entries = drawn_if (bounds_of entries) (bounds_are entries)

pub ruleset held = (all_held, all_small, bounds_drawn)
