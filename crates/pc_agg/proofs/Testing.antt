-- How many tests an end takes, as far as a loop of them has come.
use Rattle.std.proofs.Common.{◌≡◌, ℕ, zero, suc, ◌-◌, ◌*◌, ◌<◌, ◌≤◌, ◌^◌, inl, inr, List, length, pow-suc, refl, arith}
use Rattle.pc_model.specs.declared.tree.Tree.{Tree}
use Rattle.pc_proof.specs.Setting.{Setting}
use Rattle.pc_agg.specs.declared.climb.Climbed.{Climbed}
use Rattle.pc_agg.specs.declared.climb.Climbed.TheVariants as climbs
use Rattle.pc_agg.specs.declared.climb.Halved.{Halved}
use Rattle.pc_agg.specs.declared.climb.Halved.TheVariants as halves
use Rattle.pc_agg.specs.declared.climb.Span.{Span}
use Rattle.pc_agg.specs.declared.ladder.Ladder.{Ladder}
use Rattle.pc_agg_search.specs.declared.want.Want.{Want}
use Rattle.pc_agg.specs.Climbing.{whole_span, IsLast, IsTested, LeadsTo}

-- half of what takes one test more
half_few : (rest next tests : ℕ) → rest < 2 ^ suc tests → 2 * next ≤ rest → next < 2 ^ tests
half_few rest next tests few half = let twice = pow-suc 2 tests in omega (arith, few, half, twice)

none_left : (rest : ℕ) → rest < 2 ^ 0 → rest ≤ 0
none_left rest few = omega (arith, few)

module _ (s : Setting) (budget : ℕ) (ladder : Ladder) (want : Want) (found : List (List ℕ)) where
  abbrev Leads : ℕ → Span → Climbed → Type 0
  Leads tests span climbed = LeadsTo s budget ladder want tests span climbed

  -- with the tests that are left, what is left leads where all of them lead
  abbrev IsOnTheWay : ℕ → Span → Type 0
  IsOnTheWay tests span = (left : ℕ) × (span.to - span.from < 2 ^ left) × ((climbed : Climbed) → Leads left span climbed → Leads tests (whole_span ladder found) climbed)

  abbrev pub AreOnTheWay : Span → Type 0
  AreOnTheWay span = (tests : ℕ) → length ladder.rungs ≤ 2 ^ tests → IsOnTheWay tests span

  pub none_tested : 0 < length ladder.rungs → AreOnTheWay (whole_span ladder found)
  none_tested some tests enough = (tests, omega (arith, some, enough), λ climbed leads. leads)

  -- one test of what is left
  module _ (span : Span) (several : span.from < span.to) (halved : Halved) (tested : IsTested s budget ladder want span halved) where
    narrower_on : (tests : ℕ) (next : Span) → halved ≡ halves.Within next → 2 * (next.to - next.from) ≤ span.to - span.from → IsOnTheWay tests span → IsOnTheWay tests next
    narrower_on tests next is half on_way = by_left on_way.0 on_way.1 on_way.2
      where
        by_left : (left : ℕ) → span.to - span.from < 2 ^ left → ((climbed : Climbed) → Leads left span climbed → Leads tests (whole_span ladder found) climbed) → IsOnTheWay tests next
        by_left zero few on = absurd (omega (arith, several, none_left (span.to - span.from) few))
        by_left (suc left) few on =
            (left, half_few (span.to - span.from) (next.to - next.from) left few half, λ climbed leads. on climbed (inr (halves.Within next, rw is at tested, leads)))

    pub on_the_way : (next : Span) → halved ≡ halves.Within next → 2 * (next.to - next.from) ≤ span.to - span.from → AreOnTheWay span → AreOnTheWay next
    on_the_way next is half on tests enough = narrower_on tests next is half (on tests enough)

    empty_on : (tests : ℕ) (tree : Tree) → halved ≡ halves.Empty tree → IsOnTheWay tests span → Leads tests (whole_span ladder found) (climbs.Empty tree)
    empty_on tests tree is on_way = by_left on_way.0 on_way.1 on_way.2
      where
        by_left : (left : ℕ) → span.to - span.from < 2 ^ left → ((climbed : Climbed) → Leads left span climbed → Leads tests (whole_span ladder found) climbed) → Leads tests (whole_span ladder found) (climbs.Empty tree)
        by_left zero few on = absurd (omega (arith, several, none_left (span.to - span.from) few))
        by_left (suc left) few on = on (climbs.Empty tree) (inr (halves.Empty tree, rw is at tested, refl))

    pub found_empty : (tree : Tree) → halved ≡ halves.Empty tree → AreOnTheWay span → (tests : ℕ) → length ladder.rungs ≤ 2 ^ tests → Leads tests (whole_span ladder found) (climbs.Empty tree)
    found_empty tree is on tests enough = empty_on tests tree is (on tests enough)

  -- no test is left to make
  last_by : (left : ℕ) (span : Span) (climbed : Climbed) → IsLast span climbed → Leads left span climbed
  last_by zero span climbed last = last
  last_by (suc left) span climbed last = inl last

  pub found_last : (span : Span) (climbed : Climbed) → IsLast span climbed → AreOnTheWay span → (tests : ℕ) → length ladder.rungs ≤ 2 ^ tests → Leads tests (whole_span ladder found) climbed
  found_last span climbed last on tests enough = let way = on tests enough in way.2 climbed (last_by way.0 span climbed last)
