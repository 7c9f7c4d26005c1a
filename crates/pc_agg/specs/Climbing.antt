-- The rungs among which an end stands, as halving leaves them.
use Rattle.std.specs.Prelude.{◌≡◌, ⊤, ◌⊎◌, ℕ, zero, suc, ◌+◌, ◌-◌, ◌*◌, ◌/◌, ◌<◌, ◌≤◌, List, length, ◌++◌, All, Any, Option, Some, None}
use Rattle.pc_model.specs.declared.tree.Tree.{Tree}
use Rattle.pc_proof.specs.Setting.{Setting}
use Rattle.pc_branch_licences.specs.Pools.{AreLawful}
use Rattle.pc_agg.specs.declared.ladder.Test.{Test}
use Rattle.pc_agg.specs.declared.ladder.Test.TheVariants.{Reach, Avoid}
use Rattle.pc_agg.specs.declared.ladder.Ladder.{Ladder}
use Rattle.pc_agg.specs.declared.climb.Climbed.{Climbed}
use Rattle.pc_agg.specs.declared.climb.Climbed.TheVariants as climbs
use Rattle.pc_agg.specs.declared.climb.Span.{Span}
use Rattle.pc_agg.specs.declared.climb.Halved.{Halved}
use Rattle.pc_agg.specs.declared.climb.Halved.TheVariants as halves
use Rattle.pc_agg_search.specs.declared.probes.ProbeVerdict.{ProbeVerdict}
use Rattle.pc_agg_search.specs.declared.probes.ProbeVerdict.TheVariants as verdicts
use Rattle.pc_agg_search.specs.declared.probes.Probed.{Probed}
use Rattle.pc_agg_search.specs.declared.want.Want.{Want}
use Rattle.pc_agg_search.specs.Fitting.{IsVoidTree}
use Rattle.pc_agg.specs.Rungs.{program_at, IsStep}
use Rattle.pc_agg_search.specs.Wants.{IsDoubt, IsFound, IsProbed}

-- the rungs before the first are shown not to be ends, and the last, unless it is that of the ladder, is in doubt
pub record IsSpan (s : Setting) (budget : ℕ) (ladder : Ladder) (want : Want) (found : List (List ℕ)) (span : Span) : Type 0 where
  pub ordered : span.from ≤ span.to
  pub inside : span.to < length ladder.rungs
  pub more : List (List ℕ)
  pub grown : span.found ≡ found ++ more
  pub lawful : All (AreLawful s) more
  pub step : IsStep s budget ladder want span.from span.tree
  pub doubt : suc span.to < length ladder.rungs → IsDoubt (program_at s ladder span.to) want budget span.found

abbrev pub IsSureSpan : Setting → Ladder → Want → Span → Type 0
IsSureSpan s ladder want span = suc span.to < length ladder.rungs → Any (IsFound (program_at s ladder span.to) want) span.found

-- fewer rungs, the last at most half as far from the first, or a tree that shows that there is no list
abbrev pub IsHalved : Setting → ℕ → Ladder → Want → List (List ℕ) → Span → Halved → Type 0
IsHalved s budget ladder want found old (halves.Within span) =
    IsSpan s budget ladder want found span × (span.to - span.from < old.to - old.from) × (2 * (span.to - span.from) ≤ old.to - old.from)
IsHalved s budget ladder want found old (halves.Empty tree) = IsVoidTree s budget tree

abbrev pub IsSureHalf : Setting → Ladder → Want → Halved → Type 0
IsSureHalf s ladder want (halves.Within span) = IsSureSpan s ladder want span
IsSureHalf s ladder want (halves.Empty tree) = ⊤

-- ---- a step

abbrev pub above : ℕ → ℕ → Tree → List (List ℕ) → Span
above middle to shown found = record { from = middle + 1; to = to; tree = Some shown; found = found }

-- that nothing is allowed shows that there is no list only where no cell is closed
abbrev pub if_empty : Test → Span → Tree → Halved
if_empty Reach past shown = halves.Empty shown
if_empty Avoid past shown = halves.Within past

abbrev pub narrowed : Test → ℕ → ℕ → ℕ → Option Tree → List (List ℕ) → ProbeVerdict → Halved
narrowed test from to middle tree found (verdicts.Empty shown) = if_empty test (above middle to shown found) shown
narrowed test from to middle tree found (verdicts.Short shown) = halves.Within (above middle to shown found)
narrowed test from to middle tree found verdicts.Open = halves.Within (record { from = from; to = middle; tree = tree; found = found })

-- ---- how many tests there are

-- all rungs of the ladder, over what was found before
abbrev pub whole_span : Ladder → List (List ℕ) → Span
whole_span ladder found = record { from = 0; to = length ladder.rungs - 1; tree = None; found = found }

abbrev pub middle_of : Span → ℕ
middle_of span = span.from + (span.to - span.from) / 2

-- what one search, of the program of the rung in the middle, leaves of the rungs
abbrev pub IsTested : Setting → ℕ → Ladder → Want → Span → Halved → Type 0
IsTested s budget ladder want span halved =
    (probed : Probed) × IsProbed (program_at s ladder (middle_of span)) want budget span.found probed
    × (halved ≡ narrowed ladder.test span.from span.to (middle_of span) span.tree probed.found probed.verdict)

-- the end stands on the only rung that is left
abbrev pub IsLast : Span → Climbed → Type 0
IsLast span climbed =
    (span.to ≤ span.from) × (climbed ≡ climbs.At (record { place = span.from; tree = span.tree; found = span.found }))

-- so does what a test leaves lead on
abbrev pub GoesOn : (Span → Type 0) → Climbed → Halved → Type 0
GoesOn Leads climbed (halves.Within span) = Leads span
GoesOn Leads climbed (halves.Empty tree) = climbed ≡ climbs.Empty tree

-- at most so many tests, one after the other, lead there
abbrev pub LeadsTo : Setting → ℕ → Ladder → Want → ℕ → Span → Climbed → Type 0
LeadsTo s budget ladder want zero span climbed = IsLast span climbed
LeadsTo s budget ladder want (suc tests) span climbed =
    IsLast span climbed
    ⊎ ((halved : Halved) × IsTested s budget ladder want span halved × GoesOn (λ next. LeadsTo s budget ladder want tests next climbed) climbed halved)
