-- What an answer to a quantile is made of owes what it must.
use Rattle.std.proofs.Common.{◌≡◌, ℕ, ◌<◌, ◌≤◌, ℤ, neg_ℤ, ◌≤ℤ◌, ◌<ℤ◌, Bool, true, false, cond, ◌||◌, List, [], ◌∷◌, ◌++◌, length, All, Any, Contains, Option, Some, None, IfSome, IsSome, IsNone, refl, sym, ap, ap₂, subst, ◌∙◌, true≢false, arith}
use Rattle.std.specs.Prelude.{int_le}
use Rattle.std.proofs.lemmas.Int.{ints}
use Rattle.std.proofs.lemmas.List.{length-append}
use Rattle.std.proofs.lemmas.List.Elements.{All-append, All-cons, All-head, All-nil}
use Rattle.pc_model.specs.declared.schema.Schema.{Schema}
use Rattle.pc_model.specs.declared.row.Row.{Row}
use Rattle.pc_model.specs.declared.row.Run.{Run}
use Rattle.pc_model.specs.declared.constraint.Constraint.{Constraint}
use Rattle.pc_model.specs.declared.tree.CutNode.{CutNode}
use Rattle.pc_model.specs.Accepted.{AreConstraints}
use Rattle.pc_model.specs.Cells.{IsSettledTree}
use Rattle.pc_model.specs.Right.{IsPossibleFor, IsRightRelation, value_for}
use Rattle.pc_model.specs.Right as plain
use Rattle.pc_model.specs.Runs.{rows_of, runs_from}
use Rattle.pc_model.specs.WellFormed.{IsWellFormed}
use Rattle.pc_proof.specs.declared.answer.Answer.{Answer}
use Rattle.pc_proof.specs.declared.answer.Lack.{Lack}
use Rattle.pc_proof.specs.declared.answer.Lack.TheVariants as said
use Rattle.pc_proof.specs.Setting.{Setting, area_of, seen_numbers}
use Rattle.pc_proof.specs.Table.{none}
use Rattle.pc_proof.specs.Unbroken.{HoldsLack, IsDecided, plain_end, plain_lack, plain_mark, plain_relation}
use Rattle.pc_proof.proofs.Lacks.{none_from}
use Rattle.pc_proof.proofs.PossibleRows.{rows_are_allocation}
use Rattle.pc_proof.proofs.Seen.{lost_numbers, numbers_split}
use Rattle.pc_proof.proofs.Shown.{never_holds}
use Rattle.pc_branch_licences.specs.Licensed.{IfOuter, IsSettledLack, LicensedLack, LicensedRelation}
use Rattle.pc_branch_licences.specs.Pools.{AreLawful, ShownFrom}
use Rattle.pc_branch_licences.specs.Shown.{counts_of_runs, runs_of_lack, runs_of_mark, runs_of_relation}
use Rattle.pc_agg.specs.Extremes.{relation_from}
use Rattle.pc_agg.specs.Grounds.{IsUnlistedIfNone}
use Rattle.pc_agg.specs.Settling.{AreRowsOfCells}
use Rattle.pc_agg.proofs.Attained.{counted_runs}
use Rattle.pc_agg.proofs.Owing.{IsLackDone, both_totals}
use Rattle.pc_agg_search.specs.declared.extreme.Extreme.TheVariants.{Low, High}
use Rattle.pc_agg_search.specs.Easy.{IsEasy}
use Rattle.pc_agg_search.specs.Settings.{unseen}
use Rattle.pc_agg_search.specs.Wants.{IsFound}
use Rattle.pc_quantile.specs.declared.answer.QuantileAnswer.{QuantileAnswer}
use Rattle.pc_quantile.specs.declared.answer.QuantileEnd.{QuantileEnd}
use Rattle.pc_quantile.specs.declared.answer.QuantileLack.{QuantileLack}
use Rattle.pc_quantile.specs.declared.answer.QuantileRelation.{QuantileRelation}
use Rattle.pc_lang.specs.declared.quantile.Quantile.{Quantile}
use Rattle.pc_quantile.specs.declared.stand.Stand.{Stand}
use Rattle.pc_quantile.specs.Answered.{IsEndAt, always_as, crossed, impossible, judged, told_lack, told_relation}
use Rattle.pc_quantile.specs.Climbing.{AllowsNone, IsStand}
use Rattle.pc_quantile.specs.Gains.{lost_counts}
use Rattle.pc_quantile.specs.Licensed.{IsOwed, LicensedEnd}
use Rattle.pc_quantile.specs.Measure.{has_numbers}
use Rattle.pc_lang.specs.Quantiles.{IsQuantile}
use Rattle.pc_quantile.specs.Measured.{least_of, numbers_of, quantile_of}
use Rattle.pc_quantile.specs.Right.{IsRightLack, IsRightMark}
use Rattle.pc_quantile.specs.Shown.{shown, shown_end, shown_lack, shown_relation}
use Rattle.pc_quantile.proofs.Attained.{asking, folded, is_asked, possible, s}
use Rattle.pc_quantile.proofs.Marked.{held, mark_exact, mark_licensed, mark_outer, mark_right, mark_there}
use Rattle.pc_quantile.proofs.Passed.{seen_some}
use Rattle.pc_quantile.proofs.Shares.{there_is_one}
use Rattle.pc_quantile.proofs.There.{with_least}

module _ (schema : Schema) (observed : List Row) (constraints : List Constraint) (asked : Quantile) (nodes : List CutNode) (formed : IsWellFormed schema) (limited : AreConstraints schema constraints)
    (well : IsQuantile schema asked) (tree : IsSettledTree schema constraints asked.chosen nodes) (budget : ℕ) where
  abbrev u : Setting
  u = unseen schema constraints (least_of asked) nodes

  abbrev here : Setting
  here = s schema observed constraints asked nodes formed limited well tree

  -- ---- no list

  abbrev pub NoList : Type 0
  NoList = (lost : List Row) → IsPossibleFor here.question lost → ⊥

  pub no_counts : AllowsNone u → NoList
  no_counts allows lost is_possible = allows (lost_counts here lost) (rows_are_allocation schema constraints (area_of here.question) nodes none lost formed tree is_possible)

  pub owed_impossible : NoList → IsOwed here asked budget impossible
  owed_impossible nothing = record {
    right = record { relation = nothing; lack = tt; said = refl; absent = refl; ends = tt };
    licensed = record { relation = tt; lack = tt; low = tt; high = tt };
    sharp = λ nested. (record { decided = tt; ends = tt }, tt);
    ordered = tt;
  }

  -- where the rows have no least number, they have no quantile
  pub no_quantile : (lost : List Row) → IsNone (value_for here.question lost) → IsNone (quantile_of here.question asked lost)
  no_quantile lost none =
      none_from (quantile_of here.question asked lost) (λ some. by_value (value_for here.question lost) none ((with_least here asked lost (is_asked schema observed constraints asked nodes formed limited well tree)).0 some))
    where
      by_value : {X : Type 0} (o : Option X) → IsNone o → IsSome o → ⊥
      by_value None none some = true≢false (sym some)
      by_value (Some x) none some = true≢false none

  -- ---- the relation that what was found makes

  module _ (found : List (List ℕ)) (lawful : All (AreLawful u) found) (totals : IsUnlistedIfNone u budget found) (picks : List Row) (rows : AreRowsOfCells u picks) where
    abbrev IsThere : List Run → Type 0
    IsThere runs = Contains found (counts_of_runs here runs)

    abbrev told : QuantileRelation
    told = told_relation (relation_from picks found)

    told_right : IsRightRelation here.question (plain_relation (shown_relation told))
    told_right = by_list found lawful
      where
        by_list : (list : List (List ℕ)) → All (AreLawful u) list → IsRightRelation here.question (plain_relation (shown_relation (told_relation (relation_from picks list))))
        by_list [] own = tt
        by_list (counts ∷ more) own = possible schema observed constraints asked nodes formed limited well tree picks rows counts (All-head (AreLawful u) counts more own)

    told_there : All IsThere (runs_of_relation (shown_relation told))
    told_there = by_list found lawful (λ counts there. there)
      where
        by_list : (list : List (List ℕ)) → All (AreLawful u) list → ((counts : List ℕ) → Contains list counts → Contains found counts) → All IsThere (runs_of_relation (shown_relation (told_relation (relation_from picks list))))
        by_list [] own inside = All-nil IsThere
        by_list (counts ∷ more) own inside =
            let counted = counted_runs schema constraints (least_of asked) (folded schema observed constraints asked nodes formed limited well tree) nodes formed
            (asking schema observed constraints asked nodes formed limited well tree) picks counts rows (All-head (AreLawful u) counts more own) in
            All-cons IsThere (runs_from picks counts) [] (subst (Contains found) (sym counted) (inside counts (0, omega arith, refl))) (All-nil IsThere)

    told_licensed : (answer : Answer) → ShownFrom here found answer → LicensedRelation here budget answer (shown_relation told)
    told_licensed answer from = by_list found totals from
      where
        by_list : (list : List (List ℕ)) → IsUnlistedIfNone u budget list → ShownFrom here list answer → LicensedRelation here budget answer (shown_relation (told_relation (relation_from picks list)))
        by_list [] unlisted nothing =
            both_totals schema constraints (least_of asked) (folded schema observed constraints asked nodes formed limited well tree) nodes formed limited tree budget
            (asking schema observed constraints asked nodes formed limited well tree) [] answer (unlisted refl) nothing
        by_list (counts ∷ more) unlisted some = tt

    told_may : plain.is_impossible (plain_relation (shown_relation told)) ≡ false
    told_may = by_list found
      where
        by_list : (list : List (List ℕ)) → plain.is_impossible (plain_relation (shown_relation (told_relation (relation_from picks list)))) ≡ false
        by_list [] = refl
        by_list (counts ∷ more) = refl

    told_decided : 0 < length found → IsDecided (shown_relation told)
    told_decided some = by_list found some
      where
        by_list : (list : List (List ℕ)) → 0 < length list → IsDecided (shown_relation (told_relation (relation_from picks list)))
        by_list [] none = absurd (omega (arith, none))
        by_list (counts ∷ more) some = tt

    -- ---- no list has a row

    pub owed_always : ((lost : List Row) → IsPossibleFor here.question lost → IsNone (quantile_of here.question asked lost)) → (IsEasy schema constraints → 0 < length found) → IsOwed here asked budget (always_as told)
    owed_always never sure = record {
      right = record { relation = told_right; lack = never; said = sym told_may; absent = sym (or_true (plain.is_impossible (plain_relation (shown_relation told)))); ends = tt };
      licensed = record {
        relation = told_licensed (shown (always_as told)) (All-append IsThere (runs_of_relation (shown_relation told) ++ []) [] (All-append IsThere (runs_of_relation (shown_relation told)) [] told_there (All-nil IsThere)) (All-nil IsThere));
        lack = tt;
        low = tt;
        high = tt;
      };
      sharp = λ nested. (record { decided = told_decided (sure nested); ends = tt }, tt);
      ordered = tt;
    }
      where
        or_true : (b : Bool) → (b || true) ≡ true
        or_true true = refl
        or_true false = refl

    -- ---- both ends

    module _ (few_seen : length (seen_numbers here.question) ≤ 1_000_000) (lack : Lack) (done : IsLackDone here budget found lack) (low high : Stand)
        (low_stands : IsStand u budget (seen_numbers here.question) Low asked found low) (high_stands : IsStand u budget (seen_numbers here.question) High asked found high) (low_end high_end : QuantileEnd)
        (low_is : IsEndAt Low low found low_end) (high_is : IsEndAt High high found high_end) where
      abbrev lacks : QuantileLack
      lacks = told_lack lack

      abbrev answer : QuantileAnswer
      answer = record { relation = told; lack = lacks; ends = Some (low_end, high_end) }

      lack_right : (l : Lack) → HoldsLack here l → plain.is_always (plain_lack l) ≡ false → IsRightLack here.question asked (plain_lack (shown_lack (told_lack l)))
      lack_right said.Silent holds given = tt
      lack_right (said.Never by') holds given =
          λ lost is_possible.
          let is_there = is_asked schema observed constraints asked nodes formed limited well tree in
          (with_least here asked lost is_there).1 (never_holds here is_there.posed tree lost is_possible by' holds)
      lack_right (said.Sometimes without with') holds given =
          (holds.0.by, no_quantile (rows_of without) holds.0.none, holds.1.by, (with_least here asked (rows_of with') (is_asked schema observed constraints asked nodes formed limited well tree)).1 holds.1.some)
      lack_right (said.Always by') holds given = absurd (true≢false given)
      lack_right said.Undecided holds given = tt

      lack_licensed : (shows : Answer) (l : Lack) → LicensedLack here budget shows l → LicensedLack here budget shows (shown_lack (told_lack l))
      lack_licensed shows said.Silent is = tt
      lack_licensed shows (said.Never by') is = tt
      lack_licensed shows (said.Sometimes without with') is = tt
      lack_licensed shows (said.Always by') is = tt
      lack_licensed shows said.Undecided is = is

      lack_settled : (l : Lack) → IsSettledLack l → IsSettledLack (shown_lack (told_lack l))
      lack_settled said.Silent is = tt
      lack_settled (said.Never by') is = tt
      lack_settled (said.Sometimes without with') is = tt
      lack_settled (said.Always by') is = tt
      lack_settled said.Undecided is = is

      lack_there : (l : Lack) → All IsThere (runs_of_lack l) → All IsThere (runs_of_lack (shown_lack (told_lack l)))
      lack_there said.Silent there = there
      lack_there (said.Never by') there = there
      lack_there (said.Sometimes without with') there = there
      lack_there (said.Always by') there = there
      lack_there said.Undecided there = there

      not_silent : (l : Lack) → plain.is_silent (plain_lack l) ≡ false → plain.is_silent (plain_lack (shown_lack (told_lack l))) ≡ false
      not_silent said.Silent given = given
      not_silent (said.Never by') given = refl
      not_silent (said.Sometimes without with') given = refl
      not_silent (said.Always by') given = refl
      not_silent said.Undecided given = refl

      not_always : (l : Lack) → plain.is_always (plain_lack l) ≡ false → plain.is_always (plain_lack (shown_lack (told_lack l))) ≡ false
      not_always said.Silent given = refl
      not_always (said.Never by') given = refl
      not_always (said.Sometimes without with') given = refl
      not_always (said.Always by') given = given
      not_always said.Undecided given = refl

      all_there : ShownFrom here found (shown answer)
      all_there =
          All-append IsThere (runs_of_relation (shown_relation told) ++ runs_of_lack (shown_lack lacks)) (runs_of_mark low_end.mark ++ runs_of_mark high_end.mark)
          (All-append IsThere (runs_of_relation (shown_relation told)) (runs_of_lack (shown_lack lacks)) told_there (lack_there lack done.from))
          (All-append IsThere (runs_of_mark low_end.mark) (runs_of_mark high_end.mark)
          (mark_there schema observed constraints asked nodes formed limited well tree budget found lawful totals few_seen Low low low_stands low_end.mark low_is.marked)
          (mark_there schema observed constraints asked nodes formed limited well tree budget found lawful totals few_seen High high high_stands high_end.mark high_is.marked))

      -- an undecided relation has nothing that was found
      may_stand : (end : QuantileEnd) → (found ≡ [] → plain.is_outer (plain_mark end.mark) ≡ true) → plain.MayStand (plain_relation (shown_relation told)) (plain_end (shown_end end))
      may_stand end outer = by_list found outer
        where
          by_list : (list : List (List ℕ)) → (list ≡ [] → plain.is_outer (plain_mark end.mark) ≡ true) → plain.MayStand (plain_relation (shown_relation (told_relation (relation_from picks list)))) (plain_end (shown_end end))
          by_list [] is_outer = is_outer refl
          by_list (counts ∷ more) is_outer = tt

      between : (lost : List Row) → IsPossibleFor here.question lost → IfSome (quantile_of here.question asked lost) (λ v. (low_end.value ≤ℤ v) × (v ≤ℤ high_end.value))
      between lost is_possible =
          both_of (quantile_of here.question asked lost) (held schema observed constraints asked nodes formed limited well tree budget found lawful totals few_seen Low low low_stands lost is_possible)
          (held schema observed constraints asked nodes formed limited well tree budget found lawful totals few_seen High high high_stands lost is_possible)
        where
          both_of : (o : Option ℤ) → IfSome o (λ w. neg_ℤ w ≤ℤ low.key) → IfSome o (λ w. w ≤ℤ high.key) → IfSome o (λ v. (low_end.value ≤ℤ v) × (v ≤ℤ high_end.value))
          both_of None first second = tt
          both_of (Some v) first second = (omega (arith, ints, low_is.value, first), omega (arith, ints, high_is.value, second))

      abbrev AreSure : Type 0
      AreSure = IsEasy schema constraints → (0 < length found) × Any (IsFound low.program low.want) found × Any (IsFound high.program high.want) found × IsSettledLack lack

      owed_ends : low_end.value ≤ℤ high_end.value → AreSure → IsOwed here asked budget answer
      owed_ends in_order sure = record {
        ordered = in_order;
        right = record {
          relation = told_right;
          lack = lack_right lack done.holds done.given;
          said = not_silent lack done.silent ∙ sym told_may;
          absent = sym (ap₂ ◌||◌ told_may (not_always lack done.given));
          ends = record {
            least = low_end.value;
            greatest = high_end.value;
            contains = between;
            low_end = record {
              value = refl;
              mark = subst (λ n. IsRightMark here.question asked n (plain_mark low_end.mark)) (sym low_is.value)
                  (mark_right schema observed constraints asked nodes formed limited well tree budget found lawful totals few_seen Low low low_stands low_end.mark low_is.marked);
              stands = may_stand low_end (mark_outer schema observed constraints asked nodes formed limited well tree budget found lawful totals few_seen Low low low_stands low_end.mark low_is.marked);
            };
            high_end = record {
              value = refl;
              mark = subst (λ n. IsRightMark here.question asked n (plain_mark high_end.mark)) (sym high_is.value)
                  (mark_right schema observed constraints asked nodes formed limited well tree budget found lawful totals few_seen High high high_stands high_end.mark high_is.marked);
              stands = may_stand high_end (mark_outer schema observed constraints asked nodes formed limited well tree budget found lawful totals few_seen High high high_stands high_end.mark high_is.marked);
            };
          };
        };
        licensed = record {
          relation = told_licensed (shown answer) all_there;
          lack = lack_licensed (shown answer) lack (done.licensed (shown answer) all_there);
          low = subst (λ n. IfOuter low_end.mark (LicensedEnd here asked budget (shown answer) Low n)) (sym low_is.value)
              (mark_licensed schema observed constraints asked nodes formed limited well tree budget found lawful totals few_seen Low low low_stands (shown answer) all_there low_end.mark low_is.marked);
          high = subst (λ n. IfOuter high_end.mark (LicensedEnd here asked budget (shown answer) High n)) (sym high_is.value)
              (mark_licensed schema observed constraints asked nodes formed limited well tree budget found lawful totals few_seen High high high_stands (shown answer) all_there high_end.mark high_is.marked);
        };
        sharp = λ nested.
            let all = sure nested in (
              record {
                decided = told_decided all.0;
                ends = (
                  mark_exact schema observed constraints asked nodes formed limited well tree budget found lawful totals few_seen Low low low_stands low_end.mark low_is.marked all.1,
                  mark_exact schema observed constraints asked nodes formed limited well tree budget found lawful totals few_seen High high high_stands high_end.mark high_is.marked all.2,
                );
              },
              lack_settled lack all.3,
            );
      }

      -- ends that cross leave no list a quantile
      none_between : high_end.value <ℤ low_end.value → (lost : List Row) → IsPossibleFor here.question lost → IsNone (quantile_of here.question asked lost)
      none_between crossing lost is_possible = by_value (quantile_of here.question asked lost) (between lost is_possible)
        where
          by_value : (o : Option ℤ) → IfSome o (λ v. (low_end.value ≤ℤ v) × (v ≤ℤ high_end.value)) → IsNone o
          by_value None inside = refl
          by_value (Some v) inside = absurd (omega (arith, ints, crossing, inside.0, inside.1))

      owed_crossed : (side : Bool) → has_numbers (seen_numbers here.question) ≡ side → high_end.value <ℤ low_end.value → AreSure → IsOwed here asked budget (crossed side told)
      owed_crossed true some crossing sure = owed_impossible (λ lost is_possible. no_value (quantile_of here.question asked lost) (none_between crossing lost is_possible) (there lost))
        where
          no_value : (o : Option ℤ) → IsNone o → IsSome o → ⊥
          no_value None none some' = true≢false (sym some')
          no_value (Some x) none some' = true≢false none

          there : (lost : List Row) → IsSome (quantile_of here.question asked lost)
          there lost =
              let split = ap length (numbers_split here.question lost) ∙ length-append (seen_numbers here.question) (lost_numbers here.question lost) in
              there_is_one asked.p asked.q (numbers_of here.question lost) well.some well.most (omega (arith, split, seen_some (seen_numbers here.question) some))
      owed_crossed false none crossing sure = owed_always (none_between crossing) (λ nested. (sure nested).0)

      pub owed_judged : AreSure → IsOwed here asked budget (judged (has_numbers (seen_numbers here.question)) told lacks low_end high_end)
      owed_judged sure = by_test (int_le low_end.value high_end.value) refl
        where
          by_test : (test : Bool) → int_le low_end.value high_end.value ≡ test → IsOwed here asked budget (cond test answer (crossed (has_numbers (seen_numbers here.question)) told))
          by_test true e = owed_ends (omega (arith, ints, e)) sure
          by_test false e = owed_crossed (has_numbers (seen_numbers here.question)) refl (omega (arith, ints, e)) sure
