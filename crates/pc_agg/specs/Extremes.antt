-- Both ends of a least or a greatest number, and the answer that they give.
use Rattle.std.specs.Prelude.{◌≡◌, ⊤, ℕ, ◌≤◌, ◌^◌, ℤ, nat_abs, ◌⊎◌, Bool, true, false, cond, int_lt, List, [], ◌∷◌, ◌++◌, length, All, Any, Option, Some, None, option_map}
use Rattle.pc_model.specs.declared.row.Row.{Row}
use Rattle.pc_model.specs.declared.query.Agg.{Agg}
use Rattle.pc_model.specs.declared.query.Agg.TheVariants.{Min, Max}
use Rattle.pc_model.specs.declared.query.Folded.{Folded}
use Rattle.pc_model.specs.Runs.{runs_from}
use Rattle.pc_program_bound.specs.Allocation.{IsProgram, cells_of}
use Rattle.pc_branch.specs.Ends.{HasSmallGains}
use Rattle.pc_proof.specs.declared.answer.AlwaysBy.{AlwaysBy}
use Rattle.pc_proof.specs.declared.answer.AlwaysBy.TheVariants as alwayses
use Rattle.pc_proof.specs.declared.answer.Why.TheVariants as whys
use Rattle.pc_proof.specs.declared.answer.Relation.{Relation}
use Rattle.pc_proof.specs.declared.answer.Relation.TheVariants as relations
use Rattle.pc_proof.specs.declared.answer.Lack.{Lack}
use Rattle.pc_proof.specs.declared.answer.Lack.TheVariants as lacks
use Rattle.pc_proof.specs.declared.answer.End.{End}
use Rattle.pc_proof.specs.declared.answer.Answer.{Answer}
use Rattle.pc_proof.specs.Setting.{Setting}
use Rattle.pc_branch_licences.specs.Pools.{AreLawful}
use Rattle.pc_agg_search.specs.declared.extreme.Extreme.{Extreme}
use Rattle.pc_agg_search.specs.declared.extreme.Extreme.TheVariants.{Low, High}
use Rattle.pc_agg.specs.declared.extremes.Pair.{Pair}
use Rattle.pc_agg.specs.declared.extremes.Pair.TheVariants as pairs
use Rattle.pc_agg.specs.declared.grounds.Grounded.{Grounded}
use Rattle.pc_agg.specs.declared.grounds.Grounded.TheVariants as grounded
use Rattle.pc_agg.specs.declared.grounds.Lacking.{Lacking}
use Rattle.pc_agg.specs.declared.grounds.Lacking.TheVariants as lackings
use Rattle.pc_agg.specs.declared.ladder.Test.{Test}
use Rattle.pc_agg.specs.declared.ladder.Test.TheVariants.{Reach, Avoid}
use Rattle.pc_agg.specs.declared.settling.Settled.{Settled}
use Rattle.pc_agg.specs.declared.stand.Stand.{Stand}
use Rattle.pc_agg.specs.declared.stand.Stood.{Stood}
use Rattle.pc_agg.specs.declared.stand.Stood.TheVariants as stoods
use Rattle.pc_agg_search.specs.declared.want.Want.TheVariants as wants
use Rattle.pc_agg.specs.Answered.{impossible_by, bounded_by}
use Rattle.pc_agg.specs.Marks.{AreOfFirst}
use Rattle.pc_agg_search.specs.Ends.{signed}
use Rattle.pc_agg_search.specs.Fitting.{IsVoidTree}
use Rattle.pc_agg_search.specs.Wants.{fewest_chosen, most_chosen}
use Rattle.pc_agg.specs.Settling.{AreRowsOfCells}
use Rattle.pc_agg.specs.ShownRows.{IsShownRow}
use Rattle.pc_agg.specs.Stands.{IsStand, IsEndAt}
use Rattle.pc_agg_search.specs.Wants.{IsFound, IsMet}

-- the far end of a least number is the low one, of a greatest the high one
abbrev pub agg_of : Extreme → Agg
agg_of Low = Min
agg_of High = Max

abbrev pub seen_number : Folded → Extreme → Option ℤ
seen_number seen Low = seen.least
seen_number seen High = seen.greatest

abbrev pub test_at : Extreme → Extreme → Test
test_at Low Low = Reach
test_at Low High = Avoid
test_at High Low = Avoid
test_at High High = Reach

abbrev pub key_at : Extreme → Option ℤ → Option ℤ
key_at extreme number = option_map (signed extreme) number

-- both ends, over what was found before and by the searches of the ends
pub record AreStands (s : Setting) (budget : ℕ) (far : Extreme) (number : Option ℤ) (before : List (List ℕ)) (low high : Stand) (found : List (List ℕ)) : Type 0 where
  pub more : List (List ℕ)
  pub grown : found ≡ before ++ more
  pub lawful : All (AreLawful s) more
  pub low_stands : IsStand s budget Low (test_at far Low) (key_at Low number) found low
  pub high_stands : IsStand s budget High (test_at far High) (key_at High number) found high

abbrev pub IsPair : Setting → ℕ → Extreme → Option ℤ → List (List ℕ) → Pair → Type 0
IsPair s budget far number before (pairs.At low high found) = AreStands s budget far number before low high found
IsPair s budget far number before (pairs.Empty tree) = IsVoidTree s budget tree

-- the low end, with what the search of the high one came to
abbrev pub pair_at : Stand → Stood → Pair
pair_at low (stoods.At on) = pairs.At low on.stand on.found
pair_at low (stoods.Empty tree) = pairs.Empty tree

abbrev pub IsPairSurely : Pair → Type 0
IsPairSurely (pairs.At low high found) = Any (IsFound low.program low.want) found × Any (IsFound high.program high.want) found
IsPairSurely (pairs.Empty tree) = ⊤

-- ---- the answer

-- a list of the first counts that were found
abbrev pub relation_from : List Row → List (List ℕ) → Relation
relation_from picks [] = relations.Undecided
relation_from picks (counts ∷ more) = relations.Possible (runs_from picks counts)

-- lists of both kinds, or one kind was not found
abbrev pub IsOpenLack : Setting → List Row → List (List ℕ) → Lack → Type 0
IsOpenLack s picks found (lacks.Sometimes without given) =
    Any (λ counts. IsFound (fewest_chosen s) wants.Without counts × (without ≡ runs_from picks counts)) found
    × Any (λ counts. IsFound (most_chosen s) wants.Gaining counts × (given ≡ runs_from picks counts)) found
    × AreOfFirst (IsFound (fewest_chosen s) wants.Without) picks found without
    × AreOfFirst (IsFound (most_chosen s) wants.Gaining) picks found given
IsOpenLack s picks found lacks.Undecided =
    All (λ counts. IsFound (fewest_chosen s) wants.Without counts → ⊥) found ⊎ All (λ counts. IsFound (most_chosen s) wants.Gaining counts → ⊥) found
IsOpenLack s picks found lacks.Silent = ⊥
IsOpenLack s picks found (lacks.Never by') = ⊥
IsOpenLack s picks found (lacks.Always by') = ⊥

abbrev pub IsLackFrom : Setting → List Row → List (List ℕ) → Lacking → Lack → Type 0
IsLackFrom s picks found (lackings.Never by') lack = lack ≡ lacks.Never by'
IsLackFrom s picks found lackings.Open lack = IsOpenLack s picks found lack

abbrev pub always_as : Relation → AlwaysBy → Answer
always_as relation by' = record { relation = relation; lack = lacks.Always by'; ends = None }

-- ends that cross leave nothing possible where rows were observed, and else no list with a value
abbrev pub crossed : Bool → Relation → End → End → Answer
crossed true relation low high = impossible_by (whys.Ends (bounded_by low) (bounded_by high))
crossed false relation low high = always_as relation (alwayses.Ends (bounded_by low) (bounded_by high))

abbrev pub judged : Bool → Relation → Lack → End → End → Answer
judged observed relation lack low high =
    cond (int_lt high.value.num low.value.num)
    (crossed observed relation low high)
    (record { relation = relation; lack = lack; ends = Some (low, high) })

-- what an end needs of its stand and of what was found
pub record CanStand (stand : Stand) (found : List (List ℕ)) : Type 0 where
  pub program : IsProgram stand.program
  pub gains : HasSmallGains stand.program
  pub met : All (IsMet stand.program) found
  pub picked : length stand.picks ≡ cells_of stand.program
  pub small : nat_abs stand.key ≤ 2 ^ 63

pub record IsJudgedOver (observed : Bool) (settled : Settled) (low high : Stand) (answer : Answer) : Type 0 where
  pub low_end : End
  pub high_end : End
  pub low_is : IsEndAt Low low settled.found low_end
  pub high_is : IsEndAt High high settled.found high_end
  pub answer_is : answer ≡ judged observed settled.relation settled.lack low_end high_end

pub record IsJudged (s : Setting) (observed : Bool) (lacking : Lacking) (low high : Stand) (found : List (List ℕ)) (answer : Answer) : Type 0 where
  pub low_end : End
  pub high_end : End
  pub lack : Lack
  pub low_is : IsEndAt Low low found low_end
  pub high_is : IsEndAt High high found high_end
  pub lack_is : IsLackFrom s low.picks found lacking lack
  pub answer_is : answer ≡ judged observed (relation_from low.picks found) lack low_end high_end

-- ---- what is settled

-- what was found is lawful
abbrev pub HasLawful : Setting → Grounded → Type 0
HasLawful s (grounded.Impossible why) = ⊤
HasLawful s (grounded.Always tree found) = All (AreLawful s) found
HasLawful s (grounded.Open grounds) = All (AreLawful s) grounds.found

pub record IsSettledOver (s : Setting) (found : List (List ℕ)) (settled : Settled) : Type 0 where
  pub picks : List Row
  pub rows : AreRowsOfCells s picks
  pub shown : All (IsShownRow s None Low) picks
  pub relation_is : settled.relation ≡ relation_from picks found
  pub found_is : settled.found ≡ found

abbrev pub IsSettledFrom : Setting → Grounded → Settled → Type 0
IsSettledFrom s (grounded.Impossible why) settled = settled ≡ record { relation = relations.Impossible why; lack = lacks.Silent; found = [] }
IsSettledFrom s (grounded.Always tree found) settled = IsSettledOver s found settled × (settled.lack ≡ lacks.Always (alwayses.Tree tree))
IsSettledFrom s (grounded.Open grounds) settled =
    (over : IsSettledOver s grounds.found settled) × IsLackFrom s over.picks grounds.found grounds.lacking settled.lack
