-- The total of parts so far, and of those that are left; and what segments between totals say.
use Rattle.std.proofs.Common.{◌≡◌, ℕ, ◌+◌, ◌<◌, ◌≤◌, ℤ, List, length, get_or, drop, Option, refl}
use Rattle.std.proofs.lemmas.List.{drop_all, drop_more}
use Rattle.pc_desk_parts.specs.declared.part.Part.{Part}
use Rattle.pc_desk_why.specs.Bars.{total_after, total_of}

pub total_step : (parts : List Part) (i : ℕ) (total : Option ℤ) (part : Part) → i < length parts →
    total_of (total_after total (get_or parts i part).adds) (drop (i + 1) parts) ≡ total_of total (drop i parts)
unfolding total_of
total_step parts i total part inside = rw (drop_more parts i part inside) refl

pub total_past : (parts : List Part) (i : ℕ) (total : Option ℤ) → length parts ≤ i → total_of total (drop i parts) ≡ total
unfolding total_of
total_past parts i total past = rw (drop_all i parts past) refl

pub ruleset steps = (total_step, total_past)
