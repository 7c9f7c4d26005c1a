-- Lists that stand one after the other in one list.
use Rattle.std.specs.Prelude.{ℕ, ◌≤◌, ◌+◌, List, take, drop}
use Rattle.pc_simplex_short.specs.declared.places.Span.{Span}

-- the list that stands at a span
abbrev pub part : List ℕ → Span → List ℕ
part all span = take span.count (drop span.from all)

-- a span that ends within the first n
abbrev pub IsSpan : ℕ → Span → Type 0
IsSpan n span = span.from + span.count ≤ n
