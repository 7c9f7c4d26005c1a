-- What the private calls say of a setting and a budget, over a problem.
use Rattle.std.specs.Prelude.{Bool, ℕ, ◌≤◌, ◌^◌, ℤ, List, length, Any, Option, is_some}
use Rattle.pc_proof.specs.Setting.{program_for}
use Rattle.pc_agg_search.specs.declared.extreme.Extreme.{Extreme}
use Rattle.pc_agg_search.specs.declared.problem.Problem.{Problem}
use Rattle.pc_agg_search.specs.declared.want.Want.{Want}
use Rattle.pc_agg_search.specs.Problem.{setting_of}
use Rattle.pc_agg_search.specs.Wants.{most_chosen, want_for, IsDoubt, IsFound}
use Rattle.pc_agg.specs.declared.aim.Aim.{Aim}
use Rattle.pc_agg.specs.declared.aim.Aimed.{Aimed}
use Rattle.pc_agg.specs.declared.aim.Aims.{Aims}
use Rattle.pc_agg.specs.declared.aim.BothAimed.{BothAimed}
use Rattle.pc_agg.specs.declared.climb.Climbed.{Climbed}
use Rattle.pc_agg.specs.declared.climb.Halved.{Halved}
use Rattle.pc_agg.specs.declared.climb.Span.{Span}
use Rattle.pc_agg.specs.declared.extremes.Pair.{Pair}
use Rattle.pc_agg.specs.declared.grounds.Grounded.{Grounded}
use Rattle.pc_agg.specs.declared.ladder.Ladder.{Ladder}
use Rattle.pc_agg.specs.declared.ladder.Test.{Test}
use Rattle.pc_agg.specs.declared.settling.Total.{Total}
use Rattle.pc_agg.specs.declared.stand.Stood.{Stood}
use Rattle.pc_agg.specs.Climbing.{whole_span, IsHalved, IsSpan, IsSureHalf, IsSureSpan, IsTested, LeadsTo}
use Rattle.pc_agg.specs.Extremes.{IsPair}
use Rattle.pc_agg.specs.Grounds.{IsGrounded, IsGroundedSurely}
use Rattle.pc_agg.specs.Marks.{AreAimed, AreAimedReached, AreAims, AreAimsReached, IsAim, IsAimed, IsAimReached}
use Rattle.pc_agg.specs.Rungs.{IsClimbed, IsClimbedSurely}
use Rattle.pc_agg.specs.Settling.{IsTotal}
use Rattle.pc_agg.specs.Stands.{IsStood}

-- ---- the ends of a count or a sum

abbrev pub IsAimOf : Problem → Extreme → Aim → Type 0
IsAimOf p extreme aim = IsAim (setting_of p) p.query.now.agg p.nodes extreme aim

abbrev pub IsAimedAt : Problem → Extreme → Aimed → Type 0
IsAimedAt p extreme aimed = IsAimed (setting_of p) p.query.now.agg p.nodes extreme aimed

abbrev pub IsAimReachedAt : Problem → Extreme → Aimed → Type 0
IsAimReachedAt p extreme aimed = IsAimReached (setting_of p) p.query.now.agg extreme aimed

abbrev pub AreAimsOf : Problem → Aims → Type 0
AreAimsOf p aims = AreAims (setting_of p) p.query.now.agg p.nodes aims

abbrev pub AreAimsReachedOf : Problem → Aims → Type 0
AreAimsReachedOf p aims = AreAimsReached (setting_of p) p.query.now.agg aims

abbrev pub AreAimedAt : Problem → BothAimed → Type 0
AreAimedAt p aimed = AreAimed (setting_of p) p.query.now.agg p.nodes aimed

abbrev pub AreAimedReachedAt : Problem → BothAimed → Type 0
AreAimedReachedAt p aimed = AreAimedReached (setting_of p) p.query.now.agg aimed

abbrev pub IsTotalAt : Problem → ℤ → Total → Type 0
IsTotalAt p gain total = IsTotal (setting_of p) p.nodes (program_for (setting_of p) (λ _. gain)) total

-- ---- those of a least or a greatest number

-- some counts with a value were found or may be there, where the rows that were observed have a number or none
abbrev pub MayHaveValue : Problem → Option ℤ → List (List ℕ) → Type 0
MayHaveValue p number found = IsDoubt (most_chosen (setting_of p)) (want_for (is_some number)) p.nodes found

abbrev pub HaveValue : Problem → Option ℤ → List (List ℕ) → Type 0
HaveValue p number found = Any (IsFound (most_chosen (setting_of p)) (want_for (is_some number))) found

abbrev pub IsPairAt : Problem → Extreme → Option ℤ → List (List ℕ) → Pair → Type 0
IsPairAt p far number found pair = IsPair (setting_of p) p.nodes far number found pair

abbrev pub IsStoodOf : Problem → Extreme → Test → Option ℤ → List (List ℕ) → Stood → Type 0
IsStoodOf p extreme test seen found stood = IsStood (setting_of p) p.nodes extreme test seen found stood

abbrev pub IsGroundedAt : Problem → Bool → Grounded → Type 0
IsGroundedAt p observed grounded = IsGrounded (setting_of p) observed p.nodes grounded

abbrev pub IsGroundedSurelyAt : Problem → Bool → Grounded → Type 0
IsGroundedSurelyAt p observed grounded = IsGroundedSurely (setting_of p) observed grounded

-- ---- the rungs of such an end

abbrev pub IsClimbedTo : Problem → Ladder → Want → List (List ℕ) → Climbed → Type 0
IsClimbedTo p ladder want found climbed = IsClimbed (setting_of p) p.nodes ladder want found climbed

abbrev pub IsClimbedSurelyTo : Problem → Ladder → Want → Climbed → Type 0
IsClimbedSurelyTo p ladder want climbed = IsClimbedSurely (setting_of p) ladder want climbed

-- whatever was found before
abbrev pub HalvesSpan : Problem → Ladder → Want → Span → Halved → Type 0
HalvesSpan p ladder want span halved =
    (found : List (List ℕ)) → IsSpan (setting_of p) p.nodes ladder want found span → IsHalved (setting_of p) p.nodes ladder want found span halved

abbrev pub HalvesSurely : Problem → Ladder → Want → Span → Halved → Type 0
HalvesSurely p ladder want span halved = IsSureSpan (setting_of p) ladder want span → IsSureHalf (setting_of p) ladder want halved

abbrev pub TestsMiddle : Problem → Ladder → Want → Span → Halved → Type 0
TestsMiddle p ladder want span halved = IsTested (setting_of p) p.nodes ladder want span halved

-- as many tests lead there as halve the rungs down to one: the logarithm of their number, rounded up
abbrev pub IsClimbedWithin : Problem → Ladder → Want → List (List ℕ) → Climbed → Type 0
IsClimbedWithin p ladder want found climbed =
    (tests : ℕ) → length ladder.rungs ≤ 2 ^ tests → LeadsTo (setting_of p) p.nodes ladder want tests (whole_span ladder found) climbed
