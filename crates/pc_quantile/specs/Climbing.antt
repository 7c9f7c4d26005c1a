-- Where an end of a quantile stands among its candidates, as halving leaves them.
use Rattle.std.specs.Prelude.{◌≡◌, ⊤, ◌⊎◌, ℕ, suc, ◌-◌, ◌*◌, ◌<◌, ◌≤◌, ℤ, ◌<ℤ◌, nat_abs, List, ◌++◌, length, All, Any, Contains}
use Rattle.std.specs.List.{AllZip}
use Rattle.pc_num.specs.Scaled.{greatest_size}
use Rattle.pc_model.specs.declared.row.Row.{Row}
use Rattle.pc_program_bound.specs.declared.program.Program.{Program}
use Rattle.pc_program_bound.specs.Allocation.{IsProgram}
use Rattle.pc_program_bound.specs.Sums.{int_at}
use Rattle.pc_branch.specs.Ends.{HasSmallGains}
use Rattle.pc_proof.specs.Setting.{Setting, cells}
use Rattle.pc_branch_licences.specs.Pools.{AreLawful}
use Rattle.pc_agg_search.specs.declared.extreme.Extreme.{Extreme}
use Rattle.pc_agg_search.specs.declared.want.Want.{Want}
use Rattle.pc_agg_search.specs.declared.want.Want.TheVariants as wants
use Rattle.pc_agg_search.specs.Ends.{signed}
use Rattle.pc_agg_search.specs.Keys.{IsAtEnd}
use Rattle.pc_agg_search.specs.Wants.{IsDoubt, IsFound, most_chosen, want_for}
use Rattle.pc_quantile.specs.declared.climb.Climbed.{Climbed}
use Rattle.pc_quantile.specs.declared.climb.Climbed.TheVariants as climbs
use Rattle.pc_quantile.specs.declared.climb.Halved.{Halved}
use Rattle.pc_quantile.specs.declared.climb.Halved.TheVariants as halves
use Rattle.pc_quantile.specs.declared.climb.Span.{Span}
use Rattle.pc_quantile.specs.declared.climb.Standing.{Standing}
use Rattle.pc_quantile.specs.declared.measure.Measure.{Measure}
use Rattle.pc_lang.specs.declared.quantile.Quantile.{Quantile}
use Rattle.pc_quantile.specs.declared.stand.Stand.{Stand}
use Rattle.pc_quantile.specs.declared.stand.Stood.{Stood}
use Rattle.pc_quantile.specs.declared.stand.Stood.TheVariants as stoods
use Rattle.pc_quantile.specs.Measure.{cells_for, has_numbers}
use Rattle.pc_quantile.specs.Past.{IsBounded, IsCandidateBeside, least_past, program_past}

-- ---- the rungs: keys of candidates, turned at a low end so that a greater key is farther out

-- each key once, the greatest first, and each is that of a candidate
pub record AreRungs (s : Setting) (seen : List ℤ) (extreme : Extreme) (rungs : List ℤ) : Type 0 where
  pub falling : (place : ℕ) → suc place < length rungs → int_at rungs (suc place) <ℤ int_at rungs place
  pub from : All (λ key. IsCandidateBeside s seen extreme (signed extreme key)) rungs
  pub each : (number : ℤ) → IsCandidateBeside s seen extreme number → Contains rungs (signed extreme number)
  pub small : All (λ key. nat_abs key ≤ greatest_size) rungs

abbrev pub number_on : Extreme → List ℤ → ℕ → ℤ
number_on extreme rungs place = signed extreme (int_at rungs place)

-- no counts pass the rung; it is not asked of the first
abbrev pub IsHeldAt : Setting → List ℤ → Extreme → Quantile → List ℤ → ℕ → Type 0
IsHeldAt s seen extreme asked rungs place = (place ≡ 0) ⊎ IsBounded s seen extreme asked (number_on extreme rungs place)

-- the counts that pass the next rung
abbrev pub program_after : Setting → Extreme → Quantile → List ℤ → ℕ → Program
program_after s extreme asked rungs place = program_past s extreme asked (number_on extreme rungs (suc place))

abbrev pub want_after : List ℤ → Extreme → Quantile → List ℤ → ℕ → Want
want_after seen extreme asked rungs place = wants.From (least_past extreme asked (number_on extreme rungs (suc place)) seen)

-- such counts were found, or the budget is spent and they may be there
abbrev pub MayStandOn : Setting → ℕ → List ℤ → Extreme → Quantile → List ℤ → List (List ℕ) → ℕ → Type 0
MayStandOn s budget seen extreme asked rungs found place = IsDoubt (program_after s extreme asked rungs place) (want_after seen extreme asked rungs place) budget found

abbrev pub StandsOn : Setting → List ℤ → Extreme → Quantile → List ℤ → List (List ℕ) → ℕ → Type 0
StandsOn s seen extreme asked rungs found place = Any (IsFound (program_after s extreme asked rungs place) (want_after seen extreme asked rungs place)) found

-- the cells allow no counts at all
abbrev pub AllowsNone : Setting → Type 0
AllowsNone s = (counts : List ℕ) → AreLawful s counts → ⊥

-- ---- halving

pub record IsSpan (s : Setting) (budget : ℕ) (seen : List ℤ) (extreme : Extreme) (asked : Quantile) (rungs : List ℤ) (found : List (List ℕ)) (span : Span) : Type 0 where
  pub ordered : span.from ≤ span.to
  pub inside : span.to < length rungs
  pub more : List (List ℕ)
  pub grown : span.found ≡ found ++ more
  pub lawful : All (AreLawful s) more
  pub held : IsHeldAt s seen extreme asked rungs span.from
  pub doubt : suc span.to < length rungs → MayStandOn s budget seen extreme asked rungs span.found span.to

abbrev pub IsSureSpan : Setting → List ℤ → Extreme → Quantile → List ℤ → Span → Type 0
IsSureSpan s seen extreme asked rungs span = suc span.to < length rungs → StandsOn s seen extreme asked rungs span.found span.to

-- fewer rungs, the last at most half as far from the first, or that no list is possible
abbrev pub IsHalved : Setting → ℕ → List ℤ → Extreme → Quantile → List ℤ → List (List ℕ) → Span → Halved → Type 0
IsHalved s budget seen extreme asked rungs found old (halves.Within span) =
    IsSpan s budget seen extreme asked rungs found span × (span.to - span.from < old.to - old.from) × (2 * (span.to - span.from) ≤ old.to - old.from)
IsHalved s budget seen extreme asked rungs found old halves.Empty = AllowsNone s

abbrev pub IsSureHalf : Setting → List ℤ → Extreme → Quantile → List ℤ → Halved → Type 0
IsSureHalf s seen extreme asked rungs (halves.Within span) = IsSureSpan s seen extreme asked rungs span
IsSureHalf s seen extreme asked rungs halves.Empty = ⊤

-- ---- the rung that is left

pub record IsStanding (s : Setting) (budget : ℕ) (seen : List ℤ) (extreme : Extreme) (asked : Quantile) (rungs : List ℤ) (found : List (List ℕ)) (standing : Standing) : Type 0 where
  pub inside : standing.place < length rungs
  pub more : List (List ℕ)
  pub grown : standing.found ≡ found ++ more
  pub lawful : All (AreLawful s) more
  pub held : IsHeldAt s seen extreme asked rungs standing.place
  pub doubt : suc standing.place < length rungs → MayStandOn s budget seen extreme asked rungs standing.found standing.place

abbrev pub IsClimbed : Setting → ℕ → List ℤ → Extreme → Quantile → List ℤ → List (List ℕ) → Climbed → Type 0
IsClimbed s budget seen extreme asked rungs found (climbs.At standing) = IsStanding s budget seen extreme asked rungs found standing
IsClimbed s budget seen extreme asked rungs found climbs.Empty = AllowsNone s

abbrev pub IsClimbedSurely : Setting → List ℤ → Extreme → Quantile → List ℤ → Climbed → Type 0
IsClimbedSurely s seen extreme asked rungs (climbs.At standing) = suc standing.place < length rungs → StandsOn s seen extreme asked rungs standing.found standing.place
IsClimbedSurely s seen extreme asked rungs climbs.Empty = ⊤

-- ---- where the end stands

-- the counts that have it: those that pass the next rung, or on the last one those with a value
abbrev pub AreWanted : Setting → List ℤ → Extreme → Quantile → List ℤ → ℕ → Program → Want → Type 0
AreWanted s seen extreme asked rungs place p want =
    ((suc place < length rungs) × (p ≡ program_after s extreme asked rungs place) × (want ≡ want_after seen extreme asked rungs place))
    ⊎ ((suc place ≡ length rungs) × (p ≡ most_chosen s) × (want ≡ want_for (has_numbers seen)))

pub record IsStand (s : Setting) (budget : ℕ) (seen : List ℤ) (extreme : Extreme) (asked : Quantile) (found : List (List ℕ)) (stand : Stand) : Type 0 where
  pub rungs : List ℤ
  pub are_rungs : AreRungs s seen extreme rungs
  pub place : ℕ
  pub inside : place < length rungs
  pub key_is : stand.key ≡ int_at rungs place
  pub held : IsHeldAt s seen extreme asked rungs place
  pub wanted : AreWanted s seen extreme asked rungs place stand.program stand.want
  pub doubt : IsDoubt stand.program stand.want budget found
  pub program : IsProgram stand.program
  pub small : HasSmallGains stand.program
  pub picked : AllZip (IsAtEnd s extreme) (cells s) stand.picks

pub record IsStoodAt (s : Setting) (budget : ℕ) (seen : List ℤ) (extreme : Extreme) (asked : Quantile) (before : List (List ℕ)) (stand : Stand) (found : List (List ℕ)) : Type 0 where
  pub more : List (List ℕ)
  pub grown : found ≡ before ++ more
  pub lawful : All (AreLawful s) more
  pub stand_is : IsStand s budget seen extreme asked found stand

abbrev pub IsStood : Setting → ℕ → List ℤ → Extreme → Quantile → List (List ℕ) → Stood → Type 0
IsStood s budget seen extreme asked before (stoods.At on) = IsStoodAt s budget seen extreme asked before on.stand on.found
IsStood s budget seen extreme asked before stoods.Empty = AllowsNone s

-- no search was cut short
abbrev pub IsStoodSurely : Stood → Type 0
IsStoodSurely (stoods.At on) = Any (IsFound on.stand.program on.stand.want) on.found
IsStoodSurely stoods.Empty = ⊤

-- ---- the same of a measure

abbrev pub AreRungsOf : Measure → Extreme → List ℤ → Type 0
AreRungsOf m extreme rungs = AreRungs (cells_for m) m.seen.now extreme rungs

abbrev pub HalvesSpan : Measure → Extreme → List ℤ → Span → Halved → Type 0
HalvesSpan m extreme rungs span halved =
    (found : List (List ℕ)) → IsSpan (cells_for m) m.problem.nodes m.seen.now extreme m.asked.now rungs found span →
    IsHalved (cells_for m) m.problem.nodes m.seen.now extreme m.asked.now rungs found span halved

abbrev pub HalvesSurely : Measure → Extreme → List ℤ → Span → Halved → Type 0
HalvesSurely m extreme rungs span halved =
    IsSureSpan (cells_for m) m.seen.now extreme m.asked.now rungs span → IsSureHalf (cells_for m) m.seen.now extreme m.asked.now rungs halved

abbrev pub IsClimbedTo : Measure → Extreme → List ℤ → List (List ℕ) → Climbed → Type 0
IsClimbedTo m extreme rungs found climbed = IsClimbed (cells_for m) m.problem.nodes m.seen.now extreme m.asked.now rungs found climbed

abbrev pub IsClimbedSurelyTo : Measure → Extreme → List ℤ → Climbed → Type 0
IsClimbedSurelyTo m extreme rungs climbed = IsClimbedSurely (cells_for m) m.seen.now extreme m.asked.now rungs climbed

abbrev pub IsStoodOf : Measure → Extreme → List (List ℕ) → Stood → Type 0
IsStoodOf m extreme found stood = IsStood (cells_for m) m.problem.nodes m.seen.now extreme m.asked.now found stood

abbrev pub MayHaveValue : Measure → List (List ℕ) → Type 0
MayHaveValue m found = IsDoubt (most_chosen (cells_for m)) (want_for (has_numbers m.seen.now)) m.problem.nodes found

abbrev pub HaveValue : Measure → List (List ℕ) → Type 0
HaveValue m found = Any (IsFound (most_chosen (cells_for m)) (want_for (has_numbers m.seen.now))) found

-- a stand on a rung, with these rows
pub record IsStoodOn (m : Measure) (extreme : Extreme) (rungs : List ℤ) (place : ℕ) (picks : List Row) (stand : Stand) : Type 0 where
  pub key_is : stand.key ≡ int_at rungs place
  pub wanted : AreWanted (cells_for m) m.seen.now extreme m.asked.now rungs place stand.program stand.want
  pub program : IsProgram stand.program
  pub small : HasSmallGains stand.program
  pub picks_are : stand.picks ≡ picks
