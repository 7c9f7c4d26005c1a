-- The parts of observed rows.
use Rattle.std.specs.Prelude.{ℕ, ℤ, pos, ◌==◌, if◌then◌else◌, List, [], ◌∷◌, ◌++◌, count_by, Option, Some, None}
use Rattle.pc_num.specs.declared.fraction.Frac.{Frac}
use Rattle.pc_model.specs.declared.query.Agg.{Agg}
use Rattle.pc_model.specs.declared.query.Agg.TheVariants.{Count, Sum, Min, Max, Avg}
use Rattle.pc_model.specs.declared.query.Folded.{Folded}
use Rattle.pc_desk_parts.specs.declared.asked.Asked.{Asked}
use Rattle.pc_desk_parts.specs.declared.asked.Reached.{Reached}
use Rattle.pc_desk_parts.specs.declared.asked.Seen.{Seen}
use Rattle.pc_desk_parts.specs.declared.asked.Seen.TheVariants as seens
use Rattle.pc_desk_parts.specs.declared.part.Adds.{Adds}
use Rattle.pc_desk_parts.specs.declared.part.Adds.TheVariants.{Nothing, Amount, Stands}
use Rattle.pc_desk_parts.specs.declared.part.Part.{Part}
use Rattle.pc_desk_parts.specs.declared.stands.Stand.{Stand}
use Rattle.pc_desk_parts.specs.declared.stands.Stand.TheVariants.{Below, At, Above}
use Rattle.pc_desk_parts.specs.Stands.{is_at, is_stand, stand_to}

abbrev pub observed_part : ℕ → Option ℤ → Adds → Part
observed_part rows value adds = record { rows = rows; value = value; adds = adds; under = None; held = [] }

-- where rows add: all of them together
abbrev pub added_part : ℕ → ℤ → List Part
added_part count amount = observed_part count None (Amount amount) ∷ []

-- where rows are the end: one whose number it is, if there is one
abbrev pub number_part : Frac → Option ℤ → List Part
number_part value None = []
number_part value (Some number) =
    if is_at (stand_to value number) then observed_part 1 (Some number) Nothing ∷ [] else []

abbrev pub folded_parts : Agg → Frac → Folded → List Part
folded_parts Count value folded = added_part folded.count (pos folded.count)
folded_parts Sum value folded = added_part folded.count folded.sum
folded_parts Min value folded = number_part value folded.least
folded_parts Max value folded = number_part value folded.greatest
folded_parts Avg value folded = added_part folded.count folded.sum

-- how many numbers stand so
abbrev pub count_at : Frac → Stand → List ℤ → ℕ
count_at value stand numbers = count_by (λ (number : ℤ). is_stand stand (stand_to value number)) numbers

abbrev pub standing_part : Stand → ℕ → List Part
standing_part stand count = if count == 0 then [] else observed_part count None (Stands stand) ∷ []

-- of a quantile: those below the end, at it and above it
abbrev pub standing_parts : Frac → List ℤ → List Part
standing_parts value numbers =
    standing_part Below (count_at value Below numbers)
    ++ standing_part At (count_at value At numbers)
    ++ standing_part Above (count_at value Above numbers)

abbrev pub seen_parts : Agg → Frac → Seen → List Part
seen_parts agg value (seens.Folded folded) = folded_parts agg value folded
seen_parts agg value (seens.Numbers numbers) = standing_parts value numbers.now

abbrev pub observed_parts : Asked → Reached → List Part
observed_parts ask reached = seen_parts ask.query.now.agg reached.value ask.seen
