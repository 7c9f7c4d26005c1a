-- Answers over both ends of a least or a greatest number owe what they must.
use Rattle.std.proofs.Common.{◌≡◌, ℕ, ℤ, ◌<◌, Bool, true, false, cond, inl, inr, List, ◌++◌, length, All, Any, Option, Some, refl, sym, ap, subst, ◌∙◌, arith}
use Rattle.std.specs.Prelude.{int_lt, is_some, IsSomeAnd}
use Rattle.std.proofs.lemmas.List.{length-append, length-map}
use Rattle.std.proofs.lemmas.Slice.Zip.{AllZip-long}
use Rattle.std.proofs.lemmas.List.Elements.{All-append}
use Rattle.pc_model.specs.declared.schema.Schema.{Schema}
use Rattle.pc_model.specs.declared.row.Row.{Row}
use Rattle.pc_model.specs.declared.constraint.Constraint.{Constraint}
use Rattle.pc_model.specs.declared.query.Query.{Query}
use Rattle.pc_model.specs.declared.query.Folded.{Folded}
use Rattle.pc_model.specs.declared.tree.CutNode.{CutNode}
use Rattle.pc_model.specs.declared.tree.Tree.{Tree}
use Rattle.pc_model.specs.Accepted.{AreConstraints, IsQuery, IsNumeric, IsColumnWhere, Measures}
use Rattle.pc_agg_search.specs.Easy.{IsEasy}
use Rattle.pc_model.specs.WellFormed.{IsWellFormed}
use Rattle.pc_model.specs.Cells.{Class, IsRowOf, IsSettledTree, leaves_in, classes_of}
use Rattle.pc_model.specs.Right.{always_has_value}
use Rattle.pc_program_bound.specs.declared.program.Program.{Program}
use Rattle.pc_program_bound.specs.Allocation.{cells_of}
use Rattle.pc_cells.specs.declared.cells.Cell.{Cell}
use Rattle.pc_cells.specs.Found.{cell_of}
use Rattle.pc_cells.specs.Found.{cells_of as cells_of_leaves}
use Rattle.pc_witness.proofs.Zipped.{AllZip-weaker}
use Rattle.pc_proof.specs.declared.answer.AlwaysBy.TheVariants as alwayses
use Rattle.pc_proof.specs.declared.answer.Answer.{Answer}
use Rattle.pc_proof.specs.Setting.{Setting, cells}
use Rattle.pc_proof.specs.Table.{IsExtreme}
use Rattle.pc_branch_licences.specs.Licensed.{IsSettledLack}
use Rattle.pc_branch_licences.specs.Pools.{AreLawful}
use Rattle.pc_agg_search.specs.declared.extreme.Extreme.{Extreme}
use Rattle.pc_agg_search.specs.declared.extreme.Extreme.TheVariants.{Low, High}
use Rattle.pc_agg.specs.declared.grounds.Grounds.{Grounds}
use Rattle.pc_agg.specs.declared.ladder.Test.{Test}
use Rattle.pc_agg.specs.declared.ladder.Test.TheVariants.{Reach, Avoid}
use Rattle.pc_agg.specs.declared.stand.Stand.{Stand}
use Rattle.pc_agg.specs.Answered.{bounded_by}
use Rattle.pc_agg_search.specs.Asked.{Asking, setting_for}
use Rattle.pc_agg.specs.Extremes.{agg_of, seen_number, test_at, key_at, relation_from, always_as, crossed, AreStands, CanStand, IsJudged}
use Rattle.pc_agg_search.specs.Wants.{want_for, most_chosen}
use Rattle.pc_agg.specs.Grounds.{AreGrounds, AreAlways, AreGroundsSurely, IsLacking, IsLackingSurely, IsUnlistedIfNone}
use Rattle.pc_agg.specs.Owed.{Owes}
use Rattle.pc_agg_search.specs.Settings.{unseen}
use Rattle.pc_agg.specs.Settling.{AreRowsOfCells}
use Rattle.pc_agg_search.specs.Keys.{IsAtEnd}
use Rattle.pc_agg.specs.Stands.{IsWanted, IsStand}
use Rattle.pc_agg_search.specs.Wants.{IsFound, IsDoubt, IsMet}
use Rattle.pc_agg.proofs.Ending.{IsDone}
use Rattle.pc_agg.proofs.Lacks.{any_grown, doubt_grown, unlisted_grown, lacking_grown, surely_grown, relation_is, relation_may, relation_decided, IsObserving, lack_done, lack_settled}
use Rattle.pc_agg.proofs.Owing.{IsLackDone, owes_always, owes_both, both_fit, crossing, do_cross}
use Rattle.pc_agg.proofs.SeenNumbers.{observed_some, observed_none}
use Rattle.pc_agg.proofs.StandEnds.{stand_done, stand_exact}

-- ---- least and greatest numbers

pub lacks_value : (far : Extreme) → always_has_value (agg_of far) ≡ false
lacks_value Low = refl
lacks_value High = refl

-- such a query asks for numbers of a column
pub numbers_of : (schema : Schema) (query : Query) (far : Extreme) → query.agg ≡ agg_of far → IsQuery schema query → IsSomeAnd query.column (IsColumnWhere IsNumeric schema)
numbers_of schema query far is well = by_far far (subst (λ agg. Measures schema agg query.column) is well.measured)
  where
    by_far : (far : Extreme) → Measures schema (agg_of far) query.column → IsSomeAnd query.column (IsColumnWhere IsNumeric schema)
    by_far Low measured = measured
    by_far High measured = measured

pub cells_counted : (schema : Schema) (nodes : List CutNode) (list : List Cell) → list ≡ cells_of_leaves (leaves_in schema nodes) → length (classes_of (leaves_in schema nodes)) ≡ length list
cells_counted schema nodes list are = sym (ap length are ∙ length-map (classes_of (leaves_in schema nodes)) (cell_of (leaves_in schema nodes)))

is_extreme : (far : Extreme) → IsExtreme (agg_of far)
is_extreme Low = inl refl
is_extreme High = inr refl

more_found : (found more : List (List ℕ)) → 0 < length found → 0 < length (found ++ more)
more_found found more some = omega (arith, some, length-append found more)

module _ (schema : Schema) (constraints : List Constraint) (query : Query) (seen : Folded) (nodes : List CutNode) (formed : IsWellFormed schema) (limited : AreConstraints schema constraints)
    (tree : IsSettledTree schema constraints query.chosen nodes) (budget : ℕ) (asking : Asking schema constraints query seen) where
  abbrev u : Setting
  u = unseen schema constraints query nodes

  abbrev s : Setting
  s = setting_for schema constraints query seen nodes asking

  -- ---- no list gives a value

  pub owes_none : (observed : Bool) (by_tree : Tree) (found : List (List ℕ)) (picks : List Row) (answer : Answer) → always_has_value query.agg ≡ false → IsObserving s observed → AreRowsOfCells u picks →
      AreAlways u observed budget by_tree found → (IsEasy schema constraints → 0 < length found) → answer ≡ always_as (relation_from picks found) (alwayses.Tree by_tree) → Owes s budget answer
  owes_none observed by_tree found picks answer lacks observing rows always sure is =
      subst (Owes s budget) (sym is)
      (owes_always schema constraints query seen nodes formed limited tree budget asking found (relation_from picks found) (alwayses.Tree by_tree) always.lawful (relation_may picks found)
      (relation_is u budget picks found rows always.totals) lacks (observing.none always.unseen, always.shows) always.small.few (λ seen_rows. always.small.fits) (λ nested. relation_decided picks found (sure nested)))

  -- ---- both ends

  module _ (IsNumbered : ℕ → Type 0) (numbered : IsSomeAnd query.column IsNumbered) (far : Extreme) (agg_is : query.agg ≡ agg_of far) where
    lacks : always_has_value query.agg ≡ false
    lacks = ap always_has_value agg_is ∙ lacks_value far

    abbrev observed : Bool
    observed = is_some (seen_number seen far)

    pub observing : IsObserving s observed
    observing = record {
      some = observed_some schema constraints query seen nodes asking IsNumbered numbered far;
      none = observed_none schema constraints query seen nodes asking IsNumbered numbered far;
    }

    module _ (grounds : Grounds) (are : AreGrounds u observed budget grounds) (low high : Stand) (found : List (List ℕ)) (stands : AreStands u budget far (seen_number seen far) grounds.found low high found) where
      lawful : All (AreLawful u) found
      lawful = subst (All (AreLawful u)) (sym stands.grown) (All-append (AreLawful u) grounds.found stands.more are.lawful stands.lawful)

      totals : IsUnlistedIfNone u budget found
      totals = subst (IsUnlistedIfNone u budget) (sym stands.grown) (unlisted_grown u budget grounds.found stands.more are.totals)

      rows : AreRowsOfCells u low.picks
      rows = AllZip-weaker (IsAtEnd u Low) (IsRowOf schema constraints query.chosen) (λ class row at. at.of_cell) (cells u) low.picks stands.low_stands.picked

      module _ (answer : Answer) (is : IsJudged u observed grounds.lacking low high found answer)
          (sure : IsEasy schema constraints → AreGroundsSurely u observed grounds × Any (IsFound low.program low.want) found × Any (IsFound high.program high.want) found) where
        low_done : IsDone Low s budget query.agg found is.low_end
        low_done =
            stand_done schema constraints query seen nodes formed limited tree budget asking IsNumbered numbered far agg_is found lawful totals Low low stands.low_stands is.low_end is.low_is

        high_done : IsDone High s budget query.agg found is.high_end
        high_done =
            stand_done schema constraints query seen nodes formed limited tree budget asking IsNumbered numbered far agg_is found lawful totals High high stands.high_stands is.high_end is.high_is

        lack_is : IsLackDone s budget found is.lack
        lack_is =
            lack_done schema constraints query seen nodes formed tree budget asking lacks observed observing low.picks rows found lawful grounds.lacking is.lack
            (subst (λ l. IsLacking u observed budget l grounds.lacking) (sym stands.grown) (lacking_grown u observed budget grounds.found stands.more grounds.lacking are.lacking_is))
            (subst (IsDoubt (most_chosen u) (want_for observed) budget) (sym stands.grown) (doubt_grown (most_chosen u) (want_for observed) budget grounds.found stands.more are.doubt))
            is.lack_is

        listed : IsEasy schema constraints → 0 < length found
        listed nested = subst (λ l. 0 < length l) (sym stands.grown) (more_found grounds.found stands.more (sure nested).0.listed)

        lack_sure : IsEasy schema constraints → IsSettledLack is.lack
        lack_sure nested =
            let own = (sure nested).0 in
            lack_settled u observed budget low.picks found grounds.lacking is.lack
            (subst (λ l. IsLacking u observed budget l grounds.lacking) (sym stands.grown) (lacking_grown u observed budget grounds.found stands.more grounds.lacking are.lacking_is))
            (subst (λ l. IsLackingSurely u l grounds.lacking) (sym stands.grown) (surely_grown u grounds.found stands.more grounds.lacking own.lacking_surely))
            (subst (Any (IsFound (most_chosen u) (want_for observed))) (sym stands.grown) (any_grown (IsFound (most_chosen u) (want_for observed)) grounds.found stands.more own.found_some)) is.lack_is

        crosses : (test : Bool) → observed ≡ test → int_lt is.high_end.value.num is.low_end.value.num ≡ true → Owes s budget (crossed test (relation_from low.picks found) is.low_end is.high_end)
        crosses true some crossed' =
            crossing schema constraints query seen nodes formed limited tree budget asking found lawful is.low_end is.high_end low_done high_done (inr (observing.some some)) crossed'
        crosses false none crossed' =
            owes_always schema constraints query seen nodes formed limited tree budget asking found (relation_from low.picks found) (alwayses.Ends (bounded_by is.low_end) (bounded_by is.high_end)) lawful
            (relation_may low.picks found) (relation_is u budget low.picks found rows totals) lacks (
              observing.none none,
              do_cross schema constraints query seen nodes formed limited tree budget asking found lawful is.low_end is.high_end low_done high_done crossed',
              subst IsExtreme (sym agg_is) (is_extreme far),
            ) (low_done.base.searched, high_done.base.searched)
            (both_fit schema constraints query seen nodes formed limited tree budget asking found lawful is.low_end is.high_end low_done high_done) (λ nested. relation_decided low.picks found (listed nested))

        by_test : (test : Bool) → int_lt is.high_end.value.num is.low_end.value.num ≡ test →
            Owes s budget (cond test (crossed observed (relation_from low.picks found) is.low_end is.high_end) (record { relation = relation_from low.picks found; lack = is.lack; ends = Some (is.low_end, is.high_end) }))
        by_test true e = crosses observed refl e
        by_test false e =
            owes_both schema constraints query seen nodes formed limited tree budget asking found lawful is.low_end is.high_end low_done high_done (relation_from low.picks found) is.lack
            (relation_may low.picks found) (relation_is u budget low.picks found rows totals) lack_is e
            (λ nested.
            let all = sure nested in (
              relation_decided low.picks found (listed nested),
              stand_exact low found is.low_end.mark is.low_is.marked all.1,
              stand_exact high found is.high_end.mark is.high_is.marked all.2,
              lack_sure nested,
            ))

        pub owes_judged : Owes s budget answer
        owes_judged = subst (Owes s budget) (sym is.answer_is) (by_test (int_lt is.high_end.value.num is.low_end.value.num) refl)

-- ---- what the ends hand to the answer

module _ (u : Setting) (budget : ℕ) (far : Extreme) (number : Option ℤ) (before : List (List ℕ)) (low high : Stand) (found : List (List ℕ)) (stands : AreStands u budget far number before low high found)
    (own : All (AreLawful u) before) where
  pub lawful_both_ends : All (AreLawful u) found
  lawful_both_ends = subst (All (AreLawful u)) (sym stands.grown) (All-append (AreLawful u) before stands.more own stands.lawful)

  -- the program of a stand has the masks and the frequencies of all others
  can_stand : (extreme : Extreme) (test : Test) (seen : Option ℤ) (stand : Stand) → IsStand u budget extreme test seen found stand → CanStand stand found
  can_stand extreme test seen stand is = record {
    program = is.program;
    gains = is.small;
    met = met_by test is.wanted;
    picked = AllZip-long (IsAtEnd u extreme) (cells u) stand.picks is.picked ∙ sym (sized_by test is.wanted);
    small = is.few;
  }
    where
      IsMetBy : Program → Type 0
      IsMetBy p = All (IsMet p) found

      met_by : (test : Test) → IsWanted u budget extreme test seen found stand → All (IsMet stand.program) found
      met_by Reach (inl beyond) = subst IsMetBy (sym beyond.program_is) (λ place d inside. let counts = lawful_both_ends place d inside in record { sized = counts.sized; met = counts.met })
      met_by Reach (inr observed) = subst IsMetBy (sym observed.program_is) (λ place d inside. let counts = lawful_both_ends place d inside in record { sized = counts.sized; met = counts.met })
      met_by Avoid near = subst IsMetBy (sym near.program_is) (λ place d inside. let counts = lawful_both_ends place d inside in record { sized = counts.sized; met = counts.met })

      sized_by : (test : Test) → IsWanted u budget extreme test seen found stand → cells_of stand.program ≡ length (cells u)
      sized_by Reach (inl beyond) = ap cells_of beyond.program_is ∙ length-map (cells u) (λ (class : Class). class.mask)
      sized_by Reach (inr observed) = ap cells_of observed.program_is ∙ length-map (cells u) (λ (class : Class). class.mask)
      sized_by Avoid near = ap cells_of near.program_is ∙ length-map (cells u) (λ (class : Class). class.mask)

  pub can_low : CanStand low found
  can_low = can_stand Low (test_at far Low) (key_at Low number) low stands.low_stands

  pub can_high : CanStand high found
  can_high = can_stand High (test_at far High) (key_at High number) high stands.high_stands

  pub sized_low : length low.picks ≡ length (cells u)
  sized_low = AllZip-long (IsAtEnd u Low) (cells u) low.picks stands.low_stands.picked
