-- What a test of the rung after the one in the middle leaves of a span.
use Rattle.std.proofs.Common.{◌≡◌, ℕ, suc, ◌+◌, ◌-◌, ◌/◌, ◌<◌, ◌≤◌, ℤ, pos, ◌+ℤ◌, ◌-ℤ◌, ◌≤ℤ◌, inr, List, length, ◌++◌, All, Any, Option, Some, None, MatchOption, sym, ap, subst, ◌∙◌, arith}
use Rattle.std.specs.Prelude.{⊤}
use Rattle.std.proofs.lemmas.Int.{ints}
use Rattle.std.proofs.lemmas.List.{append_assoc}
use Rattle.std.proofs.lemmas.List.Elements.{All-append, All-weaker}
use Rattle.pc_model.specs.declared.tree.Tree.{Tree}
use Rattle.pc_model.specs.Cells.{Class}
use Rattle.pc_program_bound.specs.declared.program.Program.{Program}
use Rattle.pc_program_bound.specs.Allocation.{IsAllocation, worth}
use Rattle.pc_program_bound.specs.SplitTrees.{IsWithin, bound_by, tree_of}
use Rattle.pc_program_bound.proofs.TreeBounds.{tree-bounds}
use Rattle.pc_proof.specs.Setting.{Setting, on_chosen, program_for}
use Rattle.pc_branch_licences.specs.Pools.{AreLawful}
use Rattle.pc_agg_search.specs.declared.extreme.Extreme.{Extreme}
use Rattle.pc_agg_search.specs.declared.probes.Probed.{Probed}
use Rattle.pc_agg_search.specs.declared.probes.ProbeVerdict.{ProbeVerdict}
use Rattle.pc_agg_search.specs.declared.probes.ProbeVerdict.TheVariants as verdicts
use Rattle.pc_agg_search.specs.declared.want.Want.{Want}
use Rattle.pc_agg_search.specs.declared.want.Want.TheVariants as wants
use Rattle.pc_agg_search.specs.Limits.{IsEmpty}
use Rattle.pc_agg_search.specs.Wants.{IsDoubt, IsFound, IsMet, IsProbed, IsSure, IsUnder, IsVerdict, FallsShort}
use Rattle.pc_agg.proofs.Lacks.{any_grown, doubt_grown}
use Rattle.pc_quantile.specs.declared.climb.Span.{Span}
use Rattle.pc_lang.specs.declared.quantile.Quantile.{Quantile}
use Rattle.pc_quantile.specs.Climbing.{AllowsNone, IsHalved, IsSpan, IsStanding, IsSureHalf, IsSureSpan, MayStandOn, StandsOn, number_on, program_after, want_after}
use Rattle.pc_quantile.specs.Halving.{halved}
use Rattle.pc_quantile.specs.Past.{IsBounded, gain_past, program_past, sum_past}

-- ---- what a program of the cells allows is lawful, and lawful counts are allowed

module _ (s : Setting) (gain : Class → ℤ) where
  met_by : (counts : List ℕ) → AreLawful s counts → IsMet (program_for s gain) counts
  met_by counts lawful = record { sized = lawful.sized; met = lawful.met }

  pub all_met : (found : List (List ℕ)) → All (AreLawful s) found → All (IsMet (program_for s gain)) found
  all_met found lawful = All-weaker (AreLawful s) (IsMet (program_for s gain)) met_by found lawful

  allowed_by : (counts : List ℕ) → AreLawful s counts → IsAllocation (program_for s gain) (program_for s gain).floor (program_for s gain).cap counts
  allowed_by counts lawful = record { sized = lawful.sized; within = lawful.within; met = lawful.met }

  lawful_by : (counts : List ℕ) → IsAllocation (program_for s gain) (program_for s gain).floor (program_for s gain).cap counts → AreLawful s counts
  lawful_by counts allowed = record { sized = allowed.sized; within = allowed.within; met = allowed.met }

  all_lawful : (found : List (List ℕ)) → All (IsAllocation (program_for s gain) (program_for s gain).floor (program_for s gain).cap) found → All (AreLawful s) found
  all_lawful found allowed = All-weaker (IsAllocation (program_for s gain) (program_for s gain).floor (program_for s gain).cap) (AreLawful s) lawful_by found allowed

  -- a tree of void leaves leaves no counts
  none_by : (budget : ℕ) (tree : Tree) → IsEmpty (program_for s gain) budget tree → AllowsNone s
  none_by budget tree empty counts lawful =
      let p = program_for s gain in
      subst (IsWithin (worth p counts)) empty.none (tree-bounds p p.floor p.cap counts (tree_of tree.nodes) empty.proves (allowed_by counts lawful))

-- ---- a tree that falls short bounds all counts

under : (sum worth : ℤ) (most : Option ℤ) → IsWithin worth most → MatchOption most ⊤ (IsUnder (wants.From (pos 1 -ℤ sum))) → (sum +ℤ worth) ≤ℤ pos 0
under sum worth None within short = absurd within
under sum worth (Some k) within short = omega (arith, ints, within, short)

module _ (s : Setting) (budget : ℕ) (seen : List ℤ) (extreme : Extreme) (asked : Quantile) where
  pub bounded_by : (v : ℤ) (tree : Tree) → FallsShort (program_past s extreme asked v) (wants.From (pos 1 -ℤ sum_past extreme asked v seen)) budget tree → IsBounded s seen extreme asked v
  bounded_by v tree short counts allowed =
      let p = program_past s extreme asked v in
      under (sum_past extreme asked v seen) (worth p counts) (bound_by p p.floor p.cap (tree_of tree.nodes)) (tree-bounds p p.floor p.cap counts (tree_of tree.nodes) short.proves allowed) short.under

  module _ (rungs : List ℤ) where
    -- ---- a step

    module _ (found : List (List ℕ)) (span : Span) (middle : ℕ) (is : IsSpan s budget seen extreme asked rungs found span) (from : span.from ≤ middle) (to : middle < span.to)
        (half : middle ≡ span.from + (span.to - span.from) / 2) where
      abbrev After : Program
      After = program_after s extreme asked rungs middle

      abbrev wanted : Want
      wanted = want_after seen extreme asked rungs middle

      abbrev gain : Class → ℤ
      gain = on_chosen (gain_past s extreme asked (number_on extreme rungs (suc middle)))

      module _ (after more : List (List ℕ)) (grown : after ≡ span.found ++ more) (allowed : All (IsAllocation After After.floor After.cap) more) where
        all_grown : after ≡ found ++ (is.more ++ more)
        all_grown = grown ∙ ap (λ list. list ++ more) is.grown ∙ append_assoc found is.more more

        both_lawful : All (AreLawful s) (is.more ++ more)
        both_lawful = All-append (AreLawful s) is.more more is.lawful (all_lawful s gain more allowed)

        past_it : (tree : Tree) → FallsShort After wanted budget tree → IsSpan s budget seen extreme asked rungs found (record { from = middle + 1; to = span.to; found = after })
        past_it tree short = record {
          ordered = omega (arith, to);
          inside = is.inside;
          more = is.more ++ more;
          grown = all_grown;
          lawful = both_lawful;
          held = inr (let next : suc middle ≡ middle + 1 = omega arith in subst (λ n. IsBounded s seen extreme asked (number_on extreme rungs n)) next (bounded_by (number_on extreme rungs (suc middle)) tree short));
          doubt = λ below. subst (IsDoubt (program_after s extreme asked rungs span.to) (want_after seen extreme asked rungs span.to) budget) (sym grown)
              (doubt_grown (program_after s extreme asked rungs span.to) (want_after seen extreme asked rungs span.to) budget span.found more (is.doubt below));
        }

        up_to_it : IsDoubt After wanted budget after → IsSpan s budget seen extreme asked rungs found (record { from = span.from; to = middle; found = after })
        up_to_it doubt = record {
          ordered = from;
          inside = omega (arith, to, is.inside);
          more = is.more ++ more;
          grown = all_grown;
          lawful = both_lawful;
          held = is.held;
          doubt = λ _. doubt;
        }

        by_verdict : (verdict : ProbeVerdict) → IsVerdict After wanted budget after verdict → IsHalved s budget seen extreme asked rungs found span (halved span.from span.to middle after verdict)
        by_verdict (verdicts.Empty tree) empty = none_by s gain budget tree empty
        by_verdict (verdicts.Short tree) short = (past_it tree short, omega (arith, from, to), omega (arith, from, to, half))
        by_verdict verdicts.Open doubt = (up_to_it doubt, omega (arith, from, to), omega (arith, from, to, half))

      pub is_halved : (probed : Probed) → IsProbed After wanted budget span.found probed → IsHalved s budget seen extreme asked rungs found span (halved span.from span.to middle probed.found probed.verdict)
      is_halved probed are = by_verdict probed.found are.more are.grown are.allowed probed.verdict are.verdict

    -- ---- where no search is cut short

    sure_past : (span : Span) (after more : List (List ℕ)) → after ≡ span.found ++ more → IsSureSpan s seen extreme asked rungs span → suc span.to < length rungs → StandsOn s seen extreme asked rungs after span.to
    sure_past span after more grown sure below =
        let Stands = IsFound (program_after s extreme asked rungs span.to) (want_after seen extreme asked rungs span.to) in
        subst (Any Stands) (sym grown) (any_grown Stands span.found more (sure below))

    sure_by : (span : Span) (middle : ℕ) (after more : List (List ℕ)) (verdict : ProbeVerdict) → after ≡ span.found ++ more →
        IsSure (program_after s extreme asked rungs middle) (want_after seen extreme asked rungs middle) (record { verdict = verdict; found = after }) → IsSureSpan s seen extreme asked rungs span
        → IsSureHalf s seen extreme asked rungs (halved span.from span.to middle after verdict)
    sure_by span middle after more (verdicts.Empty tree) grown found sure = tt
    sure_by span middle after more (verdicts.Short tree) grown found sure = sure_past span after more grown sure
    sure_by span middle after more verdicts.Open grown found sure = λ _. found

    pub is_sure_half : (span : Span) (middle : ℕ) (probed : Probed) →
        IsProbed (program_after s extreme asked rungs middle) (want_after seen extreme asked rungs middle) budget span.found probed →
        IsSure (program_after s extreme asked rungs middle) (want_after seen extreme asked rungs middle) probed → IsSureSpan s seen extreme asked rungs span
        → IsSureHalf s seen extreme asked rungs (halved span.from span.to middle probed.found probed.verdict)
    is_sure_half span middle probed are sure_probe sure = sure_by span middle probed.found are.more probed.verdict are.grown sure_probe sure

    -- ---- one rung is left

    pub last_standing : (span : Span) → span.to ≤ span.from → (found : List (List ℕ)) → IsSpan s budget seen extreme asked rungs found span →
        IsStanding s budget seen extreme asked rungs found (record { place = span.from; found = span.found })
    last_standing span closed found is =
        let same : span.to ≡ span.from = omega (arith, closed, is.ordered) in
        record {
          inside = omega (arith, is.ordered, is.inside);
          more = is.more;
          grown = is.grown;
          lawful = is.lawful;
          held = is.held;
          doubt = subst (λ place. suc place < length rungs → MayStandOn s budget seen extreme asked rungs span.found place) same is.doubt;
        }

    pub last_surely : (span : Span) → span.to ≤ span.from → span.from ≤ span.to → IsSureSpan s seen extreme asked rungs span → suc span.from < length rungs → StandsOn s seen extreme asked rungs span.found span.from
    last_surely span closed ordered sure =
        let same : span.to ≡ span.from = omega (arith, closed, ordered) in
        subst (λ place. suc place < length rungs → StandsOn s seen extreme asked rungs span.found place) same sure
