-- A settled relation and lack over what was found for them and for both ends of an average.
use Rattle.std.proofs.Common.{◌≡◌, ℕ, ◌<◌, ℤ, pos, neg_ℤ, ◌*ℤ◌, ◌≤ℤ◌, Bool, true, false, cond, not, ◌&&◌, ◌⊎◌, inl, inr, List, [], ◌++◌, length, get_or, All, Any, Contains, refl, sym, ap, ap₂, subst, ◌∙◌, true≢false, arith}
use Rattle.std.specs.Prelude.{◌||◌}
use Rattle.std.proofs.lemmas.Int.{ints}
use Rattle.std.proofs.lemmas.List.{length-map, get_or-map}
use Rattle.std.proofs.lemmas.List.Elements.{All-append, All-contains, All-head, All-nil, Contains-append_left}
use Rattle.pc_model.specs.declared.row.Run.{Run}
use Rattle.pc_model.specs.declared.query.Agg.TheVariants.{Avg}
use Rattle.pc_model.specs.Cells.{Class}
use Rattle.pc_model.specs.Right.{always_has_value}
use Rattle.pc_model.specs.Right as plain
use Rattle.pc_program_bound.specs.declared.program.Program.{Program}
use Rattle.pc_program_bound.specs.Allocation.{IsAllocation, cells_of, worth}
use Rattle.pc_program_bound.specs.Sums.{nat_at, int_at}
use Rattle.pc_program_bound.proofs.CellPlaces.{no_class}
use Rattle.pc_program_bound.proofs.SumBelow.{sum_below-same, sum_below-scale}
use Rattle.pc_simplex_tableau.proofs.Products.{minus_one-mul}
use Rattle.pc_proof.specs.declared.answer.Answer.{Answer}
use Rattle.pc_proof.specs.declared.answer.Relation.{Relation}
use Rattle.pc_proof.specs.declared.answer.Relation.TheVariants as relations
use Rattle.pc_proof.specs.declared.answer.Lack.{Lack}
use Rattle.pc_proof.specs.declared.answer.Lack.TheVariants as lacks
use Rattle.pc_proof.specs.Setting.{Setting, cells, on_chosen, program_for, seen_count}
use Rattle.pc_proof.specs.Table.{one, minus_one}
use Rattle.pc_proof.specs.Unbroken.{plain_relation, plain_lack}
use Rattle.pc_proof.proofs.Parts.{All-front, All-back}
use Rattle.pc_branch_licences.specs.Licensed.{IsSpent, MayHave, MayGive, BothTotals, LicensedRelation, LicensedLack}
use Rattle.pc_branch_licences.specs.Pools.{ShownFrom, HoldsNone}
use Rattle.pc_branch_licences.specs.Shown.{runs_of_relation, runs_of_lack, counts_of_runs}
use Rattle.pc_branch_licences.specs.Wanted.{any, some, without, Has, LeavesOpen}
use Rattle.pc_branch_licences.proofs.Found.{shown-found}
use Rattle.pc_agg_search.specs.Wants.{most_chosen, fewest_chosen}
use Rattle.pc_agg.specs.Owed.{OwesSettled, answer_of, HasEnds, IsGiving, MayGiveOne, LeavesLack}
use Rattle.pc_agg.proofs.Owing.{IsRelationDone, IsLackDone, none_among}
use Rattle.pc_avg.specs.Averages.{has_ends}

pub ends_of : (relation : Relation) (lack : Lack) → has_ends relation lack ≡ true → HasEnds relation lack
ends_of relation lack has = by_tests (plain.is_impossible (plain_relation relation)) (plain.is_always (plain_lack lack)) has
  where
    by_tests : (a b : Bool) → (not a && not b) ≡ true → (a ≡ false) × (b ≡ false)
    by_tests false false e = (refl, refl)
    by_tests true b e = absurd (true≢false (sym e))
    by_tests false true e = absurd (true≢false (sym e))

-- ---- the fewest chosen rows are the most, turned

minus_chosen : (chosen : Bool) (n : ℤ) → cond chosen (neg_ℤ (pos 1)) (pos 0) *ℤ n ≡ neg_ℤ (pos 1) *ℤ (cond chosen (pos 1) (pos 0) *ℤ n)
minus_chosen true n = omega (arith, ints)
minus_chosen false n = omega (arith, ints)

pub fewest_is : (s : Setting) (counts : List ℕ) → worth (fewest_chosen s) counts ≡ neg_ℤ (worth (most_chosen s) counts)
fewest_is s counts =
    let most : ℕ → ℤ = λ i. int_at (most_chosen s).gain i *ℤ pos (nat_at counts i) in
    sum_below-same (cells_of (most_chosen s)) (λ i. int_at (fewest_chosen s).gain i *ℤ pos (nat_at counts i)) (λ i. neg_ℤ (pos 1) *ℤ most i)
    (λ i inside.
    let there : i < length (cells s) = omega (arith, inside, length-map (cells s) (λ (class : Class). class.mask)) in
    ap₂ (λ a b. a *ℤ b) (get_or-map (on_chosen minus_one) (cells s) i no_class (pos 0) there) refl
    ∙ minus_chosen (get_or (cells s) i no_class).chosen (pos (nat_at counts i))
    ∙ ap (λ a. neg_ℤ (pos 1) *ℤ (a *ℤ pos (nat_at counts i))) (sym (get_or-map (on_chosen one) (cells s) i no_class (pos 0) there)))
    ∙ sum_below-scale (neg_ℤ (pos 1)) (cells_of (most_chosen s)) most ∙ minus_one-mul (worth (most_chosen s) counts)

module _ (s : Setting) (budget : ℕ) (relation : Relation) (lack : Lack) (found : List (List ℕ)) (settled : OwesSettled s budget relation lack found) (agg_is : s.question.query.agg ≡ Avg) (has : HasEnds relation lack)
    (more : List (List ℕ)) (giving : All (IsGiving s) more) (none_more : All (λ counts. IsGiving s counts → ⊥) found → more ≡ []) where
  abbrev all : List (List ℕ)
  all = found ++ more

  abbrev IsThere : List Run → Type 0
  IsThere runs = Contains all (counts_of_runs s runs)

  lacks_value : always_has_value s.question.query.agg ≡ false
  lacks_value = ap always_has_value agg_is

  -- ---- what was found for them

  settled_front : All (λ runs. Contains found (counts_of_runs s runs)) (runs_of_relation relation ++ runs_of_lack lack)
  settled_front = All-front (λ runs. Contains found (counts_of_runs s runs)) (runs_of_relation relation ++ runs_of_lack lack) [] settled.shown

  pub relation_found : All (λ runs. Contains found (counts_of_runs s runs)) (runs_of_relation relation)
  relation_found = All-front (λ runs. Contains found (counts_of_runs s runs)) (runs_of_relation relation) (runs_of_lack lack) settled_front

  pub lack_found : All (λ runs. Contains found (counts_of_runs s runs)) (runs_of_lack lack)
  lack_found = All-back (λ runs. Contains found (counts_of_runs s runs)) (runs_of_relation relation) (runs_of_lack lack) settled_front

  there : (list : List (List Run)) → All (λ runs. Contains found (counts_of_runs s runs)) list → All IsThere list
  there list each place d inside = Contains-append_left found more (counts_of_runs s (get_or list place d)) (each place d inside)

  none_at_all : found ≡ [] → all ≡ []
  none_at_all none =
      ap₂ (λ (a b : List (List ℕ)). a ++ b) none (none_more (subst (All (λ counts. IsGiving s counts → ⊥)) (sym none) (All-nil (λ counts. IsGiving s counts → ⊥))))

  -- ---- nothing was found

  totals_again : (answer : Answer) → found ≡ [] → ShownFrom s all answer → BothTotals s budget (answer_of relation lack) → BothTotals s budget answer
  totals_again answer none from totals =
      let unshown = λ (p : Program). none_among s answer all (none_at_all none) from (λ runs. IsAllocation p p.floor p.cap (counts_of_runs s runs) → Has p any (counts_of_runs s runs) → ⊥) in
      record {
        most = totals.most;
        fewest = totals.fewest;
        by_most = record { left = totals.by_most.left; found = unshown (program_for s one) };
        by_fewest = record { left = totals.by_fewest.left; found = unshown (program_for s minus_one) };
      }

  totals_for : (answer : Answer) → found ≡ [] → ShownFrom s all answer → BothTotals s budget answer
  totals_for answer none from = totals_again answer none from (by_relation relation has.0 relation_found settled.licensed.relation)
    where
      by_relation : (r : Relation) → plain.is_impossible (plain_relation r) ≡ false → All (λ runs. Contains found (counts_of_runs s runs)) (runs_of_relation r) →
          LicensedRelation s budget (answer_of relation lack) r → BothTotals s budget (answer_of relation lack)
      by_relation (relations.Possible runs) may own licensed =
          let here = subst (λ (l : List (List ℕ)). Contains l (counts_of_runs s runs)) none (All-head (λ r. Contains found (counts_of_runs s r)) runs [] own) in
          absurd (omega (arith, here.1))
      by_relation (relations.Impossible why) may own licensed = absurd (true≢false may)
      by_relation relations.Undecided may own licensed = licensed.0

  -- ---- no counts that were found give a value

  abbrev Away : Type 0
  Away = All (λ counts. IsGiving s counts → ⊥) found

  some_away : Away → seen_count s.question ≡ pos 0 → HoldsNone all (most_chosen s) some
  some_away away zero =
      subst (λ l. HoldsNone (found ++ l) (most_chosen s) some) (sym (none_more away))
      (All-append (λ counts. IsAllocation (most_chosen s) (most_chosen s).floor (most_chosen s).cap counts → Has (most_chosen s) some counts → ⊥) found []
      (λ place d inside allowed has'. away place d inside (omega (arith, ints, zero, has')))
      (All-nil (λ counts. IsAllocation (most_chosen s) (most_chosen s).floor (most_chosen s).cap counts → Has (most_chosen s) some counts → ⊥)))

  may_have : (answer : Answer) → ShownFrom s all answer → Away → seen_count s.question ≡ pos 0 → (e : ℤ) → LeavesOpen (most_chosen s) budget e some → pos 1 ≤ℤ e → MayHave s budget answer (program_for s (on_chosen one))
  may_have answer from away zero e left most = (e, shown-found s budget answer all (most_chosen s) e some left from (some_away away zero), most)

  not_any : Away → Any (IsGiving s) found → ⊥
  not_any away given = All-contains (λ counts. IsGiving s counts → ⊥) found given.1 away (given.0, given.2, given.3) given.4

  pub may_give : (answer : Answer) → ShownFrom s all answer → Away → MayGive s budget answer
  may_give answer from away = by_gives (settled.gives lacks_value has)
    where
      by_gives : MayGiveOne s budget found → MayGive s budget answer
      by_gives (inl given) = absurd (not_any away given)
      by_gives (inr (inl observed)) = inr (observed.0, totals_for answer observed.1 from)
      by_gives (inr (inr left)) = inl (left.0, may_have answer from away left.0 left.1 left.2 left.3)

  -- ---- the relation

  pub relation_done : IsRelationDone s budget all relation
  unfolding totals_again
  relation_done = record {
    holds = settled.relation_holds;
    from = there (runs_of_relation relation) relation_found;
    licensed = λ answer from. by_relation relation settled.undecided settled.licensed.relation answer from;
    searched = settled.searched.relation;
    fits = settled.fits.0;
    undecided = λ is. none_at_all (settled.undecided is);
  }
    where
      by_relation : (r : Relation) → (r ≡ relations.Undecided → found ≡ []) → LicensedRelation s budget (answer_of relation lack) r → (answer : Answer) → ShownFrom s all answer → LicensedRelation s budget answer r
      by_relation (relations.Possible runs) none licensed answer from = tt
      by_relation (relations.Impossible why) none licensed answer from = tt
      by_relation relations.Undecided none licensed answer from = (totals_again answer (none refl) from licensed.0, licensed.1)

  -- ---- the lack

  without_away : seen_count s.question ≡ pos 0 → All (λ counts. pos 0 ≤ℤ worth (fewest_chosen s) counts → ⊥) found → HoldsNone all (fewest_chosen s) without
  without_away zero away =
      All-append (λ counts. IsAllocation (fewest_chosen s) (fewest_chosen s).floor (fewest_chosen s).cap counts → Has (fewest_chosen s) without counts → ⊥) found more
      (λ place d inside allowed has'. away place d inside (omega (arith, ints, has')))
      (λ place d inside allowed has'.
      let given = giving place d inside in
      let turned = fewest_is s (get_or more place d) in
      omega (arith, ints, given, zero, turned, has'))

  lack_licensed : (answer : Answer) → ShownFrom s all answer → (l : Lack) → (l ≡ lacks.Undecided → LeavesLack s budget found) → LicensedLack s budget answer l
  lack_licensed answer from lacks.Silent left = tt
  lack_licensed answer from (lacks.Never by') left = tt
  lack_licensed answer from (lacks.Sometimes none given) left = tt
  lack_licensed answer from (lacks.Always by') left = tt
  lack_licensed answer from lacks.Undecided left = let leaves = left refl in (leaves.0, by_leaves leaves.0 leaves.1)
    where
      by_leaves : seen_count s.question ≡ pos 0 →
          (All (λ counts. pos 0 ≤ℤ worth (fewest_chosen s) counts → ⊥) found × (e : ℤ) × LeavesOpen (fewest_chosen s) budget e without × (pos 0 ≤ℤ e)) ⊎ Away →
          ((e : ℤ) × IsSpent s budget answer (program_for s (on_chosen minus_one)) e without × (pos 0 ≤ℤ e)) ⊎ MayHave s budget answer (program_for s (on_chosen one))
      by_leaves zero (inl left_open) =
          inl (left_open.1, shown-found s budget answer all (fewest_chosen s) left_open.1 without left_open.2 from (without_away zero left_open.0), left_open.3)
      by_leaves zero (inr away) = inr (by_gives (settled.gives lacks_value has))
        where
          by_gives : MayGiveOne s budget found → MayHave s budget answer (program_for s (on_chosen one))
          by_gives (inl given) = absurd (not_any away given)
          by_gives (inr (inl observed)) = absurd (omega (arith, ints, zero, observed.0))
          by_gives (inr (inr left)) = may_have answer from away zero left.1 left.2 left.3

  pub lack_done : IsLackDone s budget all lack
  lack_done = record {
    holds = settled.lack_holds;
    silent = settled.silent ∙ ap₂ ◌||◌ lacks_value has.0 ∙ sym lacks_value;
    given = has.1;
    from = there (runs_of_lack lack) lack_found;
    licensed = λ answer from. lack_licensed answer from lack settled.open_lack;
    searched = settled.searched.lack;
    fits = settled.fits.1;
  }
