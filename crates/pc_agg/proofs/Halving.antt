-- What a test of the rung in the middle leaves of a span.
use Rattle.std.proofs.Common.{◌≡◌, ℕ, suc, ◌+◌, ◌-◌, ◌/◌, ◌<◌, ◌≤◌, ℤ, Bool, true, false, cond, ◌&&◌, inl, inr, List, length, ◌++◌, map, get_or, All, Any, MatchOption, refl, sym, ap, subst, ◌∙◌, arith}
use Rattle.std.specs.Prelude.{⊤, int_le, int_lt}
use Rattle.std.proofs.lemmas.List.{append_assoc, length-map, length-append, get_or-map, get_or_append_left}
use Rattle.std.proofs.lemmas.List.Elements.{All-append, All-weaker}
use Rattle.pc_model.specs.declared.tree.Tree.{Tree}
use Rattle.pc_model.specs.Cells.{Class}
use Rattle.pc_program_bound.specs.declared.program.Program.{Program}
use Rattle.pc_program_bound.specs.Sums.{nat_at, int_at}
use Rattle.pc_program_bound.specs.Allocation.{IsAllocation}
use Rattle.pc_program_bound.specs.CellPrograms.{cap_of}
use Rattle.pc_program_bound.proofs.CellPlaces.{no_class}
use Rattle.pc_proof.specs.Setting.{Setting, cells, counting, open_cap}
use Rattle.pc_agg_search.specs.Fitting.{IsVoidTree}
use Rattle.pc_branch_licences.specs.Pools.{AreLawful}
use Rattle.pc_agg_search.specs.declared.extreme.Extreme.{Extreme}
use Rattle.pc_agg.specs.declared.ladder.Test.{Test}
use Rattle.pc_agg.specs.declared.ladder.Test.TheVariants.{Reach, Avoid}
use Rattle.pc_agg.specs.declared.ladder.Ladder.{Ladder}
use Rattle.pc_agg.specs.declared.climb.Span.{Span}
use Rattle.pc_agg_search.specs.declared.probes.Probed.{Probed}
use Rattle.pc_agg_search.specs.declared.probes.ProbeVerdict.{ProbeVerdict}
use Rattle.pc_agg_search.specs.declared.probes.ProbeVerdict.TheVariants as verdicts
use Rattle.pc_agg_search.specs.declared.want.Want.{Want}
use Rattle.pc_agg.specs.Climbing.{above, if_empty, narrowed, IsSpan, IsHalved, IsSureSpan, IsSureHalf}
use Rattle.pc_agg_search.specs.Limits.{IsEmpty}
use Rattle.pc_agg_search.specs.Keys.{key_of}
use Rattle.pc_agg.specs.declared.climb.Climbed.TheVariants as climbs
use Rattle.pc_agg.specs.Rungs.{reaches, rung_program, program_at, IsClimbedSurely, IsStanding}
use Rattle.pc_agg_search.specs.Wants.{IsDoubt, IsFound, IsMet, IsProbed, IsSure, IsUnder, IsVerdict, FallsShort}
use Rattle.pc_agg_search.proofs.Empty.{void_tree}

-- ---- what was found stays found

any_grown : {X : Type 0} (P : X → Type 0) (xs ys : List X) → Any P xs → Any P (xs ++ ys)
any_grown P xs ys any =
    (any.0, any.1, omega (arith, any.2, length-append xs ys), get_or_append_left xs ys any.1 any.0 any.2 ∙ any.3, any.4)

doubt_grown : (p : Program) (want : Want) (budget : ℕ) (found more : List (List ℕ)) → IsDoubt p want budget found → IsDoubt p want budget (found ++ more)
doubt_grown p want budget found more (inl any) = inl (any_grown (IsFound p want) found more any)
doubt_grown p want budget found more (inr spent) = inr spent

short_of_empty : (p : Program) (want : Want) (budget : ℕ) (tree : Tree) → IsEmpty p budget tree → FallsShort p want budget tree
short_of_empty p want budget tree empty = record {
  preorder = empty.preorder;
  proves = empty.proves;
  under = subst (λ o. MatchOption o ⊤ (IsUnder want)) (sym empty.none) tt;
  search = empty.search;
  fits = empty.fits;
}

-- ---- counts of a rung's program are lawful, and lawful ones meet its constraints

cap_within : (closed : Bool) (cap : ℕ) → cond closed 0 cap ≤ cap
cap_within true cap = omega arith
cap_within false cap = omega arith

module _ (s : Setting) where
  open_within : (closed : Class → Bool) (i : ℕ) → i < length (cells s) → nat_at (map (open_cap s closed) (cells s)) i ≤ nat_at (map (cap_of s.question.constraints) (cells s)) i
  open_within closed i inside =
      let class = get_or (cells s) i no_class in
      let opened = get_or-map (open_cap s closed) (cells s) i no_class 0 inside in
      let whole = get_or-map (cap_of s.question.constraints) (cells s) i no_class 0 inside in
      omega (arith, opened, whole, cap_within (class.chosen && closed class) (cap_of s.question.constraints class))

  met_by : (extreme : Extreme) (test : Test) (key : ℤ) (counts : List ℕ) → AreLawful s counts → IsMet (rung_program s extreme test key) counts
  met_by extreme Reach key counts lawful = record { sized = lawful.sized; met = lawful.met }
  met_by extreme Avoid key counts lawful = record { sized = lawful.sized; met = lawful.met }

  lawful_by : (extreme : Extreme) (test : Test) (key : ℤ) (counts : List ℕ) → IsAllocation (rung_program s extreme test key) (rung_program s extreme test key).floor (rung_program s extreme test key).cap counts → AreLawful s counts
  lawful_by extreme Reach key counts allowed = record { sized = allowed.sized; within = allowed.within; met = allowed.met }
  lawful_by extreme Avoid key counts allowed = record {
    sized = allowed.sized;
    within = λ i inside.
        let there : i < length (cells s) = omega (arith, inside, length-map (cells s) (λ (class : Class). class.mask)) in
        let own = allowed.within i inside in
        (own.0, omega (arith, own.1, open_within (λ class. int_lt (key_of s extreme class) key) i there));
    met = allowed.met;
  }

  none_by : (extreme : Extreme) (key : ℤ) (budget : ℕ) (tree : Tree) → IsEmpty (reaches s extreme key) budget tree → IsVoidTree s budget tree
  none_by extreme key budget tree empty = void_tree s (map (counting (λ class. int_le key (key_of s extreme class))) (cells s)) budget tree empty

  module _ (budget : ℕ) (ladder : Ladder) (want : Want) where
    pub all_met : (place : ℕ) (found : List (List ℕ)) → All (AreLawful s) found → All (IsMet (program_at s ladder place)) found
    all_met place found lawful = All-weaker (AreLawful s) (IsMet (program_at s ladder place)) (met_by ladder.extreme ladder.test (int_at ladder.rungs place)) found lawful

    -- ---- a step

    module _ (found : List (List ℕ)) (span : Span) (middle : ℕ) (is : IsSpan s budget ladder want found span) (from : span.from ≤ middle) (to : middle < span.to)
        (half : middle ≡ span.from + (span.to - span.from) / 2) where
      abbrev Middle : Program
      Middle = program_at s ladder middle

      module _ (after more : List (List ℕ)) (grown : after ≡ span.found ++ more) (allowed : All (IsAllocation Middle Middle.floor Middle.cap) more) where
        all_grown : after ≡ found ++ (is.more ++ more)
        all_grown = grown ∙ ap (λ list. list ++ more) is.grown ∙ append_assoc found is.more more

        all_lawful : All (AreLawful s) (is.more ++ more)
        all_lawful = All-append (AreLawful s) is.more more is.lawful
            (All-weaker (IsAllocation Middle Middle.floor Middle.cap) (AreLawful s) (lawful_by ladder.extreme ladder.test (int_at ladder.rungs middle)) more allowed)

        past_it : (tree : Tree) → FallsShort Middle want budget tree → IsSpan s budget ladder want found (above middle span.to tree after)
        past_it tree short = record {
          ordered = omega (arith, to);
          inside = is.inside;
          more = is.more ++ more;
          grown = all_grown;
          lawful = all_lawful;
          step = (middle, omega arith, short);
          doubt = λ below. subst (IsDoubt (program_at s ladder span.to) want budget) (sym grown) (doubt_grown (program_at s ladder span.to) want budget span.found more (is.doubt below));
        }

        up_to_it : IsDoubt Middle want budget after → IsSpan s budget ladder want found (record { from = span.from; to = middle; tree = span.tree; found = after })
        up_to_it doubt = record {
          ordered = from;
          inside = omega (arith, to, is.inside);
          more = is.more ++ more;
          grown = all_grown;
          lawful = all_lawful;
          step = is.step;
          doubt = λ _. doubt;
        }

        -- by the test of the ladder
        by_empty : (test : Test) → ladder.test ≡ test → (tree : Tree) → IsEmpty Middle budget tree → IsHalved s budget ladder want found span (if_empty test (above middle span.to tree after) tree)
        by_empty Reach is_test tree empty = none_by ladder.extreme (int_at ladder.rungs middle) budget tree
            (subst (λ test. IsEmpty (rung_program s ladder.extreme test (int_at ladder.rungs middle)) budget tree) is_test empty)
        by_empty Avoid is_test tree empty = (past_it tree (short_of_empty Middle want budget tree empty), omega (arith, from, to), omega (arith, from, to, half))

        by_verdict : (verdict : ProbeVerdict) → IsVerdict Middle want budget after verdict → IsHalved s budget ladder want found span (narrowed ladder.test span.from span.to middle span.tree after verdict)
        by_verdict (verdicts.Empty tree) empty = by_empty ladder.test refl tree empty
        by_verdict (verdicts.Short tree) short = (past_it tree short, omega (arith, from, to), omega (arith, from, to, half))
        by_verdict verdicts.Open doubt = (up_to_it doubt, omega (arith, from, to), omega (arith, from, to, half))

      pub is_halved : (probed : Probed) → IsProbed Middle want budget span.found probed → IsHalved s budget ladder want found span (narrowed ladder.test span.from span.to middle span.tree probed.found probed.verdict)
      is_halved probed are = by_verdict probed.found are.more are.grown are.allowed probed.verdict are.verdict

    -- ---- where no search is cut short

    sure_past : (span : Span) (middle : ℕ) (after more : List (List ℕ)) (tree : Tree) → after ≡ span.found ++ more → IsSureSpan s ladder want span → IsSureSpan s ladder want (above middle span.to tree after)
    sure_past span middle after more tree grown sure below =
        subst (Any (IsFound (program_at s ladder span.to) want)) (sym grown) (any_grown (IsFound (program_at s ladder span.to) want) span.found more (sure below))

    sure_empty : (test : Test) (past : Span) (tree : Tree) → IsSureSpan s ladder want past → IsSureHalf s ladder want (if_empty test past tree)
    sure_empty Reach past tree sure = tt
    sure_empty Avoid past tree sure = sure

    sure_by : (span : Span) (middle : ℕ) (after more : List (List ℕ)) (verdict : ProbeVerdict) → after ≡ span.found ++ more → IsSure (program_at s ladder middle) want (record { verdict = verdict; found = after }) → IsSureSpan s ladder want span
        → IsSureHalf s ladder want (narrowed ladder.test span.from span.to middle span.tree after verdict)
    sure_by span middle after more (verdicts.Empty tree) grown found sure = sure_empty ladder.test (above middle span.to tree after) tree (sure_past span middle after more tree grown sure)
    sure_by span middle after more (verdicts.Short tree) grown found sure = sure_past span middle after more tree grown sure
    sure_by span middle after more verdicts.Open grown found sure = λ _. found

    pub is_sure_half : (span : Span) (middle : ℕ) (probed : Probed) → IsProbed (program_at s ladder middle) want budget span.found probed → IsSure (program_at s ladder middle) want probed → IsSureSpan s ladder want span
        → IsSureHalf s ladder want (narrowed ladder.test span.from span.to middle span.tree probed.found probed.verdict)
    is_sure_half span middle probed are sure_probe sure = sure_by span middle probed.found are.more probed.verdict are.grown sure_probe sure

    -- ---- one rung is left

    module _ (span : Span) (closed : span.to ≤ span.from) where
      pub last_standing : (found : List (List ℕ)) → IsSpan s budget ladder want found span → IsStanding s budget ladder want found (record { place = span.from; tree = span.tree; found = span.found })
      last_standing found is =
          let same : span.to ≡ span.from = omega (arith, closed, is.ordered) in
          record {
            inside = omega (arith, is.ordered, is.inside);
            more = is.more;
            grown = is.grown;
            lawful = is.lawful;
            step = is.step;
            doubt = subst (λ place. suc place < length ladder.rungs → IsDoubt (program_at s ladder place) want budget span.found) same is.doubt;
          }

      pub last_sure : span.from ≤ span.to → IsSureSpan s ladder want span → IsClimbedSurely s ladder want (climbs.At (record { place = span.from; tree = span.tree; found = span.found }))
      last_sure ordered sure =
          let same : span.to ≡ span.from = omega (arith, closed, ordered) in
          subst (λ place. suc place < length ladder.rungs → Any (IsFound (program_at s ladder place) want) span.found) same sure
