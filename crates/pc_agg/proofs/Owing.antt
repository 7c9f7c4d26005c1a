-- Answers over a settled relation and two ends owe what they must.
use Rattle.std.proofs.Common.{◌≡◌, ℕ, Bool, true, false, ◌&&◌, cond, inl, List, [], ◌++◌, get_or, All, Any, Contains, Some, None, refl, sym, ap, ap₂, subst, ◌∙◌, true≢false, arith}
use Rattle.std.specs.Prelude.{◌||◌, ◌≤◌, ◌^◌, nat_abs, int_lt}
use Rattle.std.proofs.lemmas.Bool.{and_parts}
use Rattle.std.proofs.lemmas.Int.{ints}
use Rattle.std.proofs.lemmas.List.Elements.{All-append, All-cons, All-head, All-nil, All-contains}
use Rattle.pc_model.specs.declared.schema.Schema.{Schema}
use Rattle.pc_model.specs.declared.row.Run.{Run}
use Rattle.pc_model.specs.declared.constraint.Constraint.{Constraint}
use Rattle.pc_model.specs.declared.tree.CutNode.{CutNode}
use Rattle.pc_model.specs.declared.query.Query.{Query}
use Rattle.pc_model.specs.declared.query.Folded.{Folded}
use Rattle.pc_model.specs.Accepted.{AreConstraints}
use Rattle.pc_model.specs.Aggregate.{IsAtMost}
use Rattle.pc_model.specs.WellFormed.{IsWellFormed}
use Rattle.pc_agg_search.specs.Easy.{IsEasy}
use Rattle.pc_model.specs.Cells.{IsSettledTree, AreSettled}
use Rattle.pc_model.specs.Right.{ArePossible, always_has_value}
use Rattle.pc_model.specs.Runs.{rows_of}
use Rattle.pc_model.specs.Right as plain
use Rattle.pc_proof.specs.declared.answer.Why.{Why}
use Rattle.pc_proof.specs.declared.answer.Why.TheVariants as whys
use Rattle.pc_proof.specs.declared.answer.Relation.{Relation}
use Rattle.pc_proof.specs.declared.answer.Relation.TheVariants as relations
use Rattle.pc_proof.specs.declared.answer.AlwaysBy.{AlwaysBy}
use Rattle.pc_proof.specs.declared.answer.Lack.{Lack}
use Rattle.pc_proof.specs.declared.answer.Lack.TheVariants as lacks
use Rattle.pc_proof.specs.declared.answer.Mark.{Mark}
use Rattle.pc_proof.specs.declared.answer.Mark.TheVariants as marks
use Rattle.pc_proof.specs.declared.answer.End.{End}
use Rattle.pc_proof.specs.declared.answer.Answer.{Answer}
use Rattle.pc_program_bound.specs.declared.program.Program.{Program}
use Rattle.pc_program_bound.specs.Allocation.{IsAllocation}
use Rattle.pc_proof.specs.Setting.{Setting, area_of, leaves, program_for}
use Rattle.pc_proof.specs.Table.{ratio_of, one, minus_one, EndsCross, HasValue, ShowsAlways, ShowsImpossible}
use Rattle.pc_proof.specs.Unbroken.{HoldsRelation, HoldsLack, HasForm, IsUnbroken, IsDecided, IsExact, MayStand, plain_relation, plain_lack}
use Rattle.pc_branch_licences.specs.Licensed.{LicensedRelation, LicensedLack, IfOuter, IsSettledLack}
use Rattle.pc_branch_licences.specs.Pools.{AreLawful, ShownFrom}
use Rattle.pc_branch_licences.specs.Searched.{WhySearched, AlwaysSearched, RelationSearched, LackSearched}
use Rattle.pc_branch_licences.specs.Wanted.{any, Has}
use Rattle.pc_branch_licences.specs.Shown.{runs_of_mark, runs_of_relation, runs_of_lack, shown_runs, counts_of_runs, IsShown}
use Rattle.pc_agg.specs.declared.aim.Aim.{Aim}
use Rattle.pc_agg.specs.declared.settling.Settled.{Settled}
use Rattle.pc_agg_search.specs.declared.extreme.Extreme.TheVariants.{Low, High}
use Rattle.pc_agg.specs.Answered.{impossible_by, answer_between, bounded_by, is_open, IsAnswer, IsBetween}
use Rattle.pc_agg_search.specs.Asked.{Asking, setting_for}
use Rattle.pc_agg_search.specs.Ends.{program_towards}
use Rattle.pc_agg_search.specs.Fitting.{AreObserved, IsFitBounded, IsFitWhy, IsFitAlways, IsFitRelation, IsFitLack}
use Rattle.pc_agg_search.specs.Limits.{IsReached}
use Rattle.pc_agg.specs.Marks.{IsAim, IsAmong}
use Rattle.pc_agg.specs.Owed.{Owes, OwesSettled, answer_of, HasEnds, CanGive, IsGiving, MayGiveOne, LeavesLack}
use Rattle.pc_agg_search.specs.Settings.{unseen}
use Rattle.pc_agg.specs.Settling.{IsListed, IsUnlisted, IsOfCells, IsRelation, IsSettled}
use Rattle.pc_proof.proofs.Lacks.{always_some}
use Rattle.pc_proof.proofs.Seen.{all_numbers}
use Rattle.pc_proof.proofs.Shown.{given_ends}
use Rattle.pc_agg_search.proofs.FormedAnswers.{formed_relation, formed_lack, formed_answer}
use Rattle.pc_agg.proofs.Attained.{lawful_runs, counted_runs}
use Rattle.pc_agg.proofs.Ending.{IsEndDone, IsDone, end_done, end_exact}
use Rattle.pc_agg.proofs.Questions.{posed, tree_for}

-- nothing shown has counts in an empty list
pub none_among : (s : Setting) (answer : Answer) (found : List (List ℕ)) → found ≡ [] → ShownFrom s found answer → (P : List Run → Type 0) → All P (shown_runs answer)
none_among s answer found none from P place d inside =
    let there = subst (λ l. Contains l (counts_of_runs s (get_or (shown_runs answer) place d))) none (from place d inside) in
    absurd (omega (arith, there.1))

-- a lack that is not that no list gives a value: it breaks no rule, and its lists were found
pub record IsLackDone (s : Setting) (budget : ℕ) (found : List (List ℕ)) (lack : Lack) : Type 0 where
  pub holds : HoldsLack s lack
  pub silent : plain.is_silent (plain_lack lack) ≡ always_has_value s.question.query.agg
  pub given : plain.is_always (plain_lack lack) ≡ false
  pub from : All (λ runs. Contains found (counts_of_runs s runs)) (runs_of_lack lack)
  pub licensed : (answer : Answer) → ShownFrom s found answer → LicensedLack s budget answer lack
  pub searched : LackSearched s budget lack
  pub fits : IsFitLack s.question.query.agg lack

-- a relation that breaks no rule, whose lists were found
pub record IsRelationDone (s : Setting) (budget : ℕ) (found : List (List ℕ)) (relation : Relation) : Type 0 where
  pub holds : HoldsRelation s relation
  pub from : All (λ runs. Contains found (counts_of_runs s runs)) (runs_of_relation relation)
  pub licensed : (answer : Answer) → ShownFrom s found answer → LicensedRelation s budget answer relation
  pub searched : RelationSearched s budget relation
  pub fits : IsFitRelation s.question.query.agg relation
  pub undecided : relation ≡ relations.Undecided → found ≡ []

or_true : (b : Bool) → (b || true) ≡ true
or_true true = refl
or_true false = refl

or_false : (b : Bool) → (b || false) ≡ b
or_false true = refl
or_false false = refl

module _ (schema : Schema) (constraints : List Constraint) (query : Query) (seen : Folded) (nodes : List CutNode) (formed : IsWellFormed schema) (limited : AreConstraints schema constraints)
    (tree : IsSettledTree schema constraints query.chosen nodes) (budget : ℕ) (asking : Asking schema constraints query seen) where
  abbrev u : Setting
  u = unseen schema constraints query nodes

  abbrev s : Setting
  s = setting_for schema constraints query seen nodes asking

  tree_at : IsSettledTree schema constraints (area_of s.question) nodes
  tree_at = tree_for schema constraints query seen nodes formed asking tree

  -- ---- what is settled

  -- what shows that nothing is possible does not look at observed rows, but for ends
  listed_runs : (found : List (List ℕ)) (runs : List Run) → All (AreLawful u) found → IsListed u found runs → ArePossible s.question runs × Contains found (counts_of_runs s runs)
  listed_runs found runs lawful listed =
      let own = All-contains (AreLawful u) found listed.counts lawful listed.there in
      let possible = lawful_runs schema constraints query seen nodes formed asking listed.picks listed.counts listed.rows own in
      let counted = counted_runs schema constraints query seen nodes formed asking listed.picks listed.counts listed.rows own in
      (subst (ArePossible s.question) (sym listed.runs_are) possible, subst (Contains found) (sym (ap (counts_of_runs s) listed.runs_are ∙ counted)) listed.there)

  relation_from : (found : List (List ℕ)) (relation : Relation) → All (AreLawful u) found → IsRelation u budget found relation → All (λ runs. Contains found (counts_of_runs s runs)) (runs_of_relation relation)
  relation_from found (relations.Possible runs) lawful is = All-cons (λ r. Contains found (counts_of_runs s r)) runs [] (listed_runs found runs lawful is).1 (All-nil (λ r. Contains found (counts_of_runs s r)))
  relation_from found (relations.Impossible why) lawful is = All-nil (λ r. Contains found (counts_of_runs s r))
  relation_from found relations.Undecided lawful is = All-nil (λ r. Contains found (counts_of_runs s r))

  pub both_totals : (found : List (List ℕ)) (answer : Answer) → IsUnlisted u budget found → ShownFrom s found answer → LicensedRelation s budget answer relations.Undecided
  both_totals found answer unlisted from =
      let nothing_shown = λ (p : Program). none_among s answer found unlisted.none from (λ runs. IsAllocation p p.floor p.cap (counts_of_runs s runs) → Has p any (counts_of_runs s runs) → ⊥) in (
        record {
          most = unlisted.most;
          fewest = unlisted.fewest;
          by_most = record { left = unlisted.by_most; found = nothing_shown (program_for s one) };
          by_fewest = record { left = unlisted.by_fewest; found = nothing_shown (program_for s minus_one) };
        },
        unlisted.meet,
      )

  relation_licensed : (found : List (List ℕ)) (relation : Relation) (answer : Answer) → IsRelation u budget found relation → ShownFrom s found answer → LicensedRelation s budget answer relation
  relation_licensed found (relations.Possible runs) answer is from = tt
  relation_licensed found (relations.Impossible why) answer is from = tt
  relation_licensed found relations.Undecided answer is from = both_totals found answer is from

  pub impossible_here : (why : Why) → ShowsImpossible u why → IsOfCells budget why → ShowsImpossible s why
  impossible_here (whys.Void t) shows of = shows
  impossible_here (whys.Cross t v) shows of = shows
  impossible_here (whys.Ends low high) shows of = absurd of

  pub why_searched : (why : Why) → IsOfCells budget why → WhySearched s budget why
  why_searched (whys.Void t) of = of.few
  why_searched (whys.Cross t v) of = (of.0.few, of.1.few)
  why_searched (whys.Ends low high) of = absurd of

  relation_holds : (found : List (List ℕ)) (relation : Relation) → All (AreLawful u) found → IsRelation u budget found relation → HoldsRelation s relation
  relation_holds found (relations.Possible runs) lawful is = (listed_runs found runs lawful is).0
  relation_holds found (relations.Impossible why) lawful is = impossible_here why is.0 is.1
  relation_holds found relations.Undecided lawful is = tt

  nothing_found : (found : List (List ℕ)) (relation : Relation) → IsRelation u budget found relation → relation ≡ relations.Undecided → found ≡ []
  nothing_found found relation is undecided = (subst (IsRelation u budget found) undecided is).none

  abbrev IsThere : List (List ℕ) → List Run → Type 0
  IsThere found runs = Contains found (counts_of_runs s runs)

  shown_settled : (found : List (List ℕ)) (relation : Relation) (lack : Lack) → All (AreLawful u) found → IsRelation u budget found relation → All (IsThere found) (runs_of_lack lack) →
      ShownFrom s found (answer_of relation lack)
  shown_settled found relation lack lawful is lack_from =
      All-append (IsThere found) (runs_of_relation relation ++ runs_of_lack lack) []
      (All-append (IsThere found) (runs_of_relation relation) (runs_of_lack lack) (relation_from found relation lawful is) lack_from)
      (All-nil (IsThere found))

  relation_searched : (found : List (List ℕ)) (relation : Relation) → IsRelation u budget found relation → RelationSearched s budget relation
  relation_searched found (relations.Possible runs) is = tt
  relation_searched found (relations.Impossible why) is = why_searched why is.1
  relation_searched found relations.Undecided is = tt

  pub fit_of_cells : (why : Why) → IsOfCells budget why → IsFitWhy query.agg why
  fit_of_cells (whys.Void t) of = of.fits
  fit_of_cells (whys.Cross t v) of = (of.0.fits, of.1.fits)
  fit_of_cells (whys.Ends low high) of = absurd of

  relation_fits : (found : List (List ℕ)) (relation : Relation) → IsRelation u budget found relation → IsFitRelation query.agg relation
  relation_fits found (relations.Possible runs) is = tt
  relation_fits found (relations.Impossible why) is = fit_of_cells why is.1
  relation_fits found relations.Undecided is = tt

  pub settled_with : (found : List (List ℕ)) (relation : Relation) (lack : Lack) → All (AreLawful u) found → IsRelation u budget found relation →
      plain.is_silent (plain_lack lack) ≡ (always_has_value query.agg || plain.is_impossible (plain_relation relation)) → HoldsLack s lack → LackSearched s budget lack → IsFitLack query.agg lack → All (IsThere found) (runs_of_lack lack) →
      ((answer : Answer) → ShownFrom s found answer → LicensedLack s budget answer lack) → (IsEasy schema constraints → IsDecided relation × IsSettledLack lack) →
      (always_has_value query.agg ≡ false → HasEnds relation lack → CanGive s × MayGiveOne s budget found) → (lack ≡ lacks.Undecided → LeavesLack s budget found) →
      (IsEasy schema constraints → always_has_value query.agg ≡ false → HasEnds relation lack → Any (IsGiving s) found) → OwesSettled s budget relation lack found
  settled_with found relation lack lawful is silent lack_holds lack_searched lack_fits lack_from lack_licensed decided gives open_lack surely =
      let shown = shown_settled found relation lack lawful is lack_from in
      record {
        relation_holds = relation_holds found relation lawful is;
        lack_holds = lack_holds;
        silent = silent;
        licensed = record {
          relation = relation_licensed found relation (answer_of relation lack) is shown;
          lack = lack_licensed (answer_of relation lack) shown;
          low = tt;
          high = tt;
          low_unshown = tt;
          high_unshown = tt;
        };
        searched = record { relation = relation_searched found relation is; lack = lack_searched; low = tt; high = tt };
        fits = (relation_fits found relation is, lack_fits);
        formed = (
          formed_relation s formed limited tree_at relation (relation_holds found relation lawful is) (relation_fits found relation is),
          formed_lack s formed limited tree_at lack lack_holds lack_fits,
        );
        lawful = lawful;
        shown = shown;
        undecided = nothing_found found relation is;
        sharp = decided;
        can_give = λ no ends. (gives no ends).0;
        gives = λ no ends. (gives no ends).1;
        open_lack = open_lack;
        surely_gives = surely;
      }

  silent_left : (found : List (List ℕ)) → lacks.Silent ≡ lacks.Undecided → LeavesLack s budget found
  silent_left found same = absurd (true≢false (ap (λ lack. plain.is_silent (plain_lack lack)) same))

  settled_as : (found : List (List ℕ)) (relation : Relation) → always_has_value query.agg ≡ true → All (AreLawful u) found → IsRelation u budget found relation → (IsEasy schema constraints → IsDecided relation) →
      OwesSettled s budget relation lacks.Silent found
  settled_as found relation always lawful is decided =
      settled_with found relation lacks.Silent lawful is (sym (ap (λ test. test || plain.is_impossible (plain_relation relation)) always)) tt tt tt (All-nil (IsThere found)) (λ answer from. tt)
      (λ nested. (decided nested, tt)) (λ no ends. absurd (true≢false (sym always ∙ no))) (silent_left found) (λ nested no ends. absurd (true≢false (sym always ∙ no)))

  pub owes_settled : (settled : Settled) → always_has_value query.agg ≡ true → IsSettled u budget settled → (IsEasy schema constraints → IsDecided settled.relation) → OwesSettled s budget settled.relation settled.lack settled.found
  owes_settled settled always is decided =
      subst (λ lack. OwesSettled s budget settled.relation lack settled.found) (sym is.lack) (settled_as settled.found settled.relation always is.lawful is.relation decided)

  -- nothing is possible, whatever the aggregate
  pub settled_impossible : (why : Why) → ShowsImpossible u why → IsOfCells budget why → OwesSettled s budget (relations.Impossible why) lacks.Silent []
  settled_impossible why shows of =
      settled_with [] (relations.Impossible why) lacks.Silent (All-nil (AreLawful u)) (shows, of) (sym (or_true (always_has_value query.agg))) tt tt tt (All-nil (IsThere [])) (λ answer from. tt) (λ nested. (tt, tt))
      (λ no ends. absurd (true≢false ends.0)) (silent_left []) (λ nested no ends. absurd (true≢false ends.0))

  relation_done : (found : List (List ℕ)) (relation : Relation) → All (AreLawful u) found → IsRelation u budget found relation → IsRelationDone s budget found relation
  relation_done found relation lawful is = record {
    holds = relation_holds found relation lawful is;
    from = relation_from found relation lawful is;
    licensed = λ answer from. relation_licensed found relation answer is from;
    searched = relation_searched found relation is;
    fits = relation_fits found relation is;
    undecided = nothing_found found relation is;
  }

  -- ---- no list

  settled_here : AreSettled constraints (area_of s.question) (leaves s)
  settled_here = tree_at.settled

  impossible_form : (why : Why) → HasForm s (impossible_by why)
  impossible_form why = record {
    named = asking.named;
    preorder = tree.preorder;
    silent = sym (or_true (always_has_value query.agg));
    absent = refl;
    low = tt;
    high = tt;
  }

  impossible_unbroken : (why : Why) → ShowsImpossible s why → IsUnbroken s (impossible_by why)
  impossible_unbroken why shows = record { allowed = asking.allowed; proper = tree.proper; settled = settled_here; relation = shows; lack = tt; low = tt; high = tt }

  pub owes_impossible : (why : Why) → ShowsImpossible s why → WhySearched s budget why → (AreObserved s → IsFitWhy query.agg why) → Owes s budget (impossible_by why)
  owes_impossible why shows searched fits = record {
    form = impossible_form why;
    unbroken = impossible_unbroken why shows;
    licensed = record { relation = tt; lack = tt; low = tt; high = tt; low_unshown = tt; high_unshown = tt };
    searched = record { relation = searched; lack = tt; low = tt; high = tt };
    formed = λ seen_rows. formed_answer s formed limited tree_at (impossible_by why) (impossible_form why) (impossible_unbroken why shows) (record { relation = fits seen_rows; lack = tt; ends = tt });
    sharp = λ nested. (record { decided = tt; ends = tt }, tt);
    ordered = tt;
  }

  -- ---- both ends

  -- ---- the lack beside a relation that may hold

  pub silent_done : (found : List (List ℕ)) → always_has_value query.agg ≡ true → IsLackDone s budget found lacks.Silent
  silent_done found always = record { holds = tt; silent = sym always; given = refl; from = All-nil (IsThere found); licensed = λ answer from. tt; searched = tt; fits = tt }

  -- ---- no list gives a value

  abbrev always_as : Relation → AlwaysBy → Answer
  always_as relation by' = record { relation = relation; lack = lacks.Always by'; ends = None }

  pub owes_always : (found : List (List ℕ)) (relation : Relation) (by' : AlwaysBy) → All (AreLawful u) found → plain.is_impossible (plain_relation relation) ≡ false → IsRelation u budget found relation →
      always_has_value query.agg ≡ false → ShowsAlways s by' → AlwaysSearched s budget by' → (AreObserved s → IsFitAlways query.agg by') → (IsEasy schema constraints → IsDecided relation) → Owes s budget (always_as relation by')
  owes_always found relation by' lawful may is lacks_value shows searched fits decided = record {
    form = form;
    unbroken = unbroken;
    licensed = record {
      relation = relation_licensed found relation (always_as relation by') is (shown_settled found relation (lacks.Always by') lawful is (All-nil (IsThere found)));
      lack = tt;
      low = tt;
      high = tt;
      low_unshown = tt;
      high_unshown = tt;
    };
    searched = record { relation = relation_searched found relation is; lack = searched; low = tt; high = tt };
    formed = λ seen_rows. formed_answer s formed limited tree_at (always_as relation by') form unbroken (record { relation = relation_fits found relation is; lack = fits seen_rows; ends = tt });
    sharp = λ nested. (record { decided = decided nested; ends = tt }, tt);
    ordered = tt;
  }
    where
      form : HasForm s (always_as relation by')
      form = record {
        named = asking.named;
        preorder = tree.preorder;
        silent = sym (ap₂ ◌||◌ lacks_value may);
        absent = sym (or_true (plain.is_impossible (plain_relation relation)));
        low = tt;
        high = tt;
      }

      unbroken : IsUnbroken s (always_as relation by')
      unbroken = record { allowed = asking.allowed; proper = tree.proper; settled = settled_here; relation = relation_holds found relation lawful is; lack = shows; low = tt; high = tt }

  -- ---- both ends

  module _ (found : List (List ℕ)) (low high : End) (low_end : IsEndDone Low s budget query.agg found low) (high_end : IsEndDone High s budget query.agg found high) where
    abbrev with_ends : Relation → Lack → Answer
    with_ends relation lack = record { relation = relation; lack = lack; ends = Some (low, high) }

    shown_from : (relation : Relation) (lack : Lack) → IsRelationDone s budget found relation → IsLackDone s budget found lack → ShownFrom s found (with_ends relation lack)
    shown_from relation lack is done =
        All-append (IsThere found) (runs_of_relation relation ++ runs_of_lack lack) (runs_of_mark low.mark ++ runs_of_mark high.mark)
        (All-append (IsThere found) (runs_of_relation relation) (runs_of_lack lack) is.from done.from)
        (All-append (IsThere found) (runs_of_mark low.mark) (runs_of_mark high.mark) low_end.from high_end.from)

    -- an exact end shows runs, whose counts were found
    stands : (relation : Relation) (end : End) → IsRelationDone s budget found relation → All (IsThere found) (runs_of_mark end.mark) → MayStand relation end
    stands (relations.Possible runs) end is from = tt
    stands (relations.Impossible why) end is from = tt
    stands relations.Undecided end is from = by_mark end.mark from
      where
        by_mark : (mark : Mark) → All (IsThere found) (runs_of_mark mark) → MayStand relations.Undecided (record { value = end.value; mark = mark; proof = end.proof })
        by_mark marks.Outer from = refl
        by_mark (marks.Exact runs) from =
            let there = subst (λ l. Contains l (counts_of_runs s runs)) (is.undecided refl) (All-head (IsThere found) runs [] from) in
            absurd (omega (arith, there.1))

    -- the answer with these ends, which do not cross, and of which nothing shown attains an outer one
    pub owes_ends : (relation : Relation) (lack : Lack) → plain.is_impossible (plain_relation relation) ≡ false → IsRelationDone s budget found relation → IsLackDone s budget found lack →
        IsAtMost (ratio_of low.value) (ratio_of high.value) →
        IfOuter low.mark (IsShown s (with_ends relation lack) (ratio_of low.value) → ⊥) → IfOuter high.mark (IsShown s (with_ends relation lack) (ratio_of high.value) → ⊥) →
        (IsEasy schema constraints → IsDecided relation × IsExact low.mark × IsExact high.mark × IsSettledLack lack) → Owes s budget (with_ends relation lack)
    owes_ends relation lack may is done ordered low_unshown high_unshown decided =
        let shown = shown_from relation lack is done in
        record {
          form = form;
          unbroken = unbroken;
          licensed = record {
            relation = is.licensed (with_ends relation lack) shown;
            lack = done.licensed (with_ends relation lack) shown;
            low = low_end.licensed (with_ends relation lack) shown;
            high = high_end.licensed (with_ends relation lack) shown;
            low_unshown = low_unshown;
            high_unshown = high_unshown;
          };
          searched = record { relation = is.searched; lack = done.searched; low = low_end.searched; high = high_end.searched };
          formed = λ seen_rows. formed_answer s formed limited tree_at (with_ends relation lack) form unbroken (record { relation = is.fits; lack = done.fits; ends = (low_end.fits seen_rows, high_end.fits seen_rows) });
          sharp = λ nested. let all = decided nested in (record { decided = all.0; ends = (all.1, all.2) }, all.3);
          ordered = ordered;
        }
      where
        form : HasForm s (with_ends relation lack)
        form = record {
          named = asking.named;
          preorder = tree.preorder;
          silent = done.silent ∙ sym (ap (λ test. always_has_value query.agg || test) may ∙ or_false (always_has_value query.agg));
          absent = sym (ap₂ ◌||◌ may done.given);
          low = low_end.formed;
          high = high_end.formed;
        }

        unbroken : IsUnbroken s (with_ends relation lack)
        unbroken = record {
          allowed = asking.allowed;
          proper = tree.proper;
          settled = settled_here;
          relation = is.holds;
          lack = done.holds;
          low = (low_end.holds, stands relation low is low_end.from);
          high = (high_end.holds, stands relation high is high_end.from);
        }

  module _ (found : List (List ℕ)) (lawful : All (AreLawful u) found) (low high : End) (low_done : IsDone Low s budget query.agg found low) (high_done : IsDone High s budget query.agg found high) where
    abbrev both_ends : Relation → Lack → Answer
    both_ends relation lack = record { relation = relation; lack = lack; ends = Some (low, high) }

    -- ends that do not cross
    in_order : int_lt high.value.num low.value.num ≡ false → IsAtMost (ratio_of low.value) (ratio_of high.value)
    in_order apart = rw (low_done.is_whole, high_done.is_whole) (omega (arith, ints, apart))

    pub owes_both : (relation : Relation) (lack : Lack) → plain.is_impossible (plain_relation relation) ≡ false → IsRelation u budget found relation → IsLackDone s budget found lack →
        int_lt high.value.num low.value.num ≡ false → (IsEasy schema constraints → IsDecided relation × IsExact low.mark × IsExact high.mark × IsSettledLack lack) → Owes s budget (both_ends relation lack)
    owes_both relation lack may is done apart decided =
        let related = relation_done found relation lawful is in
        let shown = shown_from found low high low_done.base high_done.base relation lack related done in
        owes_ends found low high low_done.base high_done.base relation lack may related done (in_order apart) (low_done.unshown (both_ends relation lack) shown) (high_done.unshown (both_ends relation lack) shown) decided

    -- ends that cross
    pub do_cross : int_lt high.value.num low.value.num ≡ true → EndsCross s (bounded_by low) (bounded_by high)
    do_cross crossed = record { low_holds = low_done.base.shows; high_holds = high_done.base.shows; above = not_at_most; formed = (low_done.base.formed, high_done.base.formed) }
      where
        not_at_most : IsAtMost (ratio_of low.value) (ratio_of high.value) → ⊥
        not_at_most less = omega (arith, ints, (rw (low_done.is_whole, high_done.is_whole) at less), crossed)

    pub both_fit : AreObserved s → IsFitBounded query.agg (bounded_by low) × IsFitBounded query.agg (bounded_by high)
    both_fit seen_rows =
        let first = low_done.base.fits seen_rows in
        let second = high_done.base.fits seen_rows in
        (record { value = first.value; proof = first.proof }, record { value = second.value; proof = second.proof })

    -- leave nothing possible where each list has a value
    pub crossing : HasValue s.question → int_lt high.value.num low.value.num ≡ true → Owes s budget (impossible_by (whys.Ends (bounded_by low) (bounded_by high)))
    crossing valued crossed = owes_impossible (whys.Ends (bounded_by low) (bounded_by high)) (do_cross crossed, valued) (low_done.base.searched, high_done.base.searched) both_fit

    -- where a list is there its value lies between the ends
    never_crossed : always_has_value query.agg ≡ true → (runs : List Run) → ArePossible s.question runs → (test : Bool) → int_lt high.value.num low.value.num ≡ test → int_lt high.value.num low.value.num ≡ false
    never_crossed always runs possible false apart = apart
    never_crossed always runs possible true crossed =
        absurd (given_ends s (rows_of runs) (bounded_by low) (bounded_by high) (posed schema constraints query seen nodes formed asking) tree_at possible.are_possible
        (always_some query.agg (all_numbers s.question (rows_of runs)) always) (do_cross crossed))

    are_apart : (relation : Relation) → always_has_value query.agg ≡ true → plain.is_impossible (plain_relation relation) ≡ false → IsRelation u budget found relation →
        (is_open relation && int_lt high.value.num low.value.num) ≡ false → int_lt high.value.num low.value.num ≡ false
    are_apart (relations.Possible runs) always may is e = never_crossed always runs (listed_runs found runs lawful is).0 (int_lt high.value.num low.value.num) refl
    are_apart (relations.Impossible why) always may is e = absurd (true≢false may)
    are_apart relations.Undecided always may is e = e

    pub owes_between : (relation : Relation) → always_has_value query.agg ≡ true → plain.is_impossible (plain_relation relation) ≡ false → IsRelation u budget found relation →
        (IsEasy schema constraints → IsDecided relation × IsExact low.mark × IsExact high.mark) → Owes s budget (answer_between relation low high)
    owes_between relation always may is decided = by_test (is_open relation && int_lt high.value.num low.value.num) refl
      where
        by_test : (test : Bool) → (is_open relation && int_lt high.value.num low.value.num) ≡ test →
            Owes s budget (cond test (impossible_by (whys.Ends (bounded_by low) (bounded_by high))) (both_ends relation lacks.Silent))
        by_test true e = crossing (inl always) (and_parts (is_open relation) (int_lt high.value.num low.value.num) e).1
        by_test false e = owes_both relation lacks.Silent may is (silent_done found always) (are_apart relation always may is e) (λ nested. let all = decided nested in (all.0, all.1, all.2, tt))

  -- ---- an answer of a count or a sum

  module _ (few_seen : seen.count ≤ 1_000_000) (small_seen : nat_abs seen.sum ≤ 2 ^ 83) (always : always_has_value query.agg ≡ true) (settled : Settled) (is : IsSettled u budget settled) (low high : Aim) (is_low : IsAim u query.agg budget Low low) (is_high : IsAim u query.agg budget High high)
      (low_among : IsAmong settled.found low.limit) (high_among : IsAmong settled.found high.limit)
      (decided : IsEasy schema constraints → IsDecided settled.relation × IsReached (program_towards u query.agg Low) low.limit.most low.limit.found × IsReached (program_towards u query.agg High) high.limit.most high.limit.found) where
    owes_from : (relation : Relation) (answer : Answer) → settled.relation ≡ relation → plain.is_impossible (plain_relation relation) ≡ false → IsBetween seen query.agg relation settled.found low high answer → Owes s budget answer
    owes_from relation answer same may between =
        let low_done = end_done schema constraints query seen nodes formed limited tree always budget settled.found is.lawful asking few_seen small_seen Low low is_low low_among between.low_end between.low_is in
        let high_done = end_done schema constraints query seen nodes formed limited tree always budget settled.found is.lawful asking few_seen small_seen High high is_high high_among between.high_end between.high_is in
        subst (Owes s budget) (sym between.answer_is)
        (owes_between settled.found is.lawful between.low_end between.high_end low_done high_done relation always may (subst (IsRelation u budget settled.found) same is.relation)
        (λ nested.
        let all = decided nested in (
          subst IsDecided same all.0,
          end_exact schema constraints query seen nodes formed limited tree always budget settled.found is.lawful asking few_seen small_seen Low low is_low low_among between.low_end between.low_is all.1,
          end_exact schema constraints query seen nodes formed limited tree always budget settled.found is.lawful asking few_seen small_seen High high is_high high_among between.high_end between.high_is all.2,
        )))

    owes_as : (relation : Relation) (answer : Answer) → settled.relation ≡ relation → IsAnswer seen query.agg relation settled.found low high answer → Owes s budget answer
    owes_as (relations.Possible runs) answer same answers = owes_from (relations.Possible runs) answer same refl answers
    owes_as (relations.Impossible why) answer same answers =
        let shown = subst (IsRelation u budget settled.found) same is.relation in
        subst (Owes s budget) (sym answers) (owes_impossible why (impossible_here why shown.0 shown.1) (why_searched why shown.1) (λ seen_rows. fit_of_cells why shown.1))
    owes_as relations.Undecided answer same answers = owes_from relations.Undecided answer same refl answers

    pub owes : (answer : Answer) → IsAnswer seen query.agg settled.relation settled.found low high answer → Owes s budget answer
    owes answer answers = owes_as settled.relation answer refl answers
