-- The bounds of a picture, as far as a loop has come, and that they hold all of its numbers.
use Rattle.std.proofs.Common.{◌≡◌, ℕ, suc, ◌+◌, ◌<◌, ◌≤◌, ℤ, List, length, get_or, drop, add-one, drop-cons, refl, arith, Option, Some, None}
use Rattle.std.specs.Int.{int_max, int_min}
use Rattle.std.proofs.lemmas.Int.{clamps, ints}
use Rattle.std.proofs.lemmas.List.{drop_all}
use Rattle.pc_desk_table.specs.declared.entry.Entry.{Entry}
use Rattle.pc_desk_draw.specs.declared.span.Span.{Span}
use Rattle.pc_desk_draw.specs.Numbers.{block_span, bounds_of, hull}

min_again : (a b c : ℤ) → int_min (int_min a b) c ≡ int_min a (int_min b c)
min_again a b c = omega (arith, ints, clamps)

max_again : (a b c : ℤ) → int_max (int_max a b) c ≡ int_max a (int_max b c)
max_again a b c = omega (arith, ints, clamps)

pub hull_none : (one : Option Span) → hull one None ≡ one
hull_none None = refl
hull_none (Some one) = refl

pub hull_again : (a b c : Option Span) → hull (hull a b) c ≡ hull a (hull b c)
hull_again None b c = refl
hull_again (Some a) None c = refl
hull_again (Some a) (Some b) None = refl
hull_again (Some a) (Some b) (Some c) = rw (min_again a.low b.low c.low, max_again a.high b.high c.high) refl

module _ (entries : List Entry) (i : ℕ) (bounds : Option Span) where
  pub hull_step : (entry : Entry) → entry ≡ get_or entries i entry → i < length entries → hull (hull bounds (block_span entry)) (bounds_of (drop (i + 1) entries)) ≡ hull bounds (bounds_of (drop i entries))
  unfolding bounds_of
  hull_step entry is inside = rw (add-one, drop-cons entries i entry inside, ← is) (hull_again bounds (block_span entry) (bounds_of (drop (suc i) entries)))

  pub hull_end : length entries ≤ i → hull bounds (bounds_of (drop i entries)) ≡ bounds
  unfolding bounds_of
  hull_end end = rw (drop_all i entries end) (hull_none bounds)

pub ruleset steps = (hull_step, hull_end)
