-- The runs of an end that stands attain it, and where it stays outer nothing that is shown does.
use Rattle.std.proofs.Common.{◌≡◌, ℕ, ℤ, pos, neg_ℤ, ◌<ℤ◌, ◌≤ℤ◌, Bool, true, false, inl, inr, ◌⊎◌, List, Option, Some, None, refl, sym, ap, subst, ◌∙◌, true≢false, arith}
use Rattle.std.specs.Prelude.{IfSome, IsSomeAnd, is_some}
use Rattle.std.specs.List.{AllZip}
use Rattle.std.proofs.lemmas.Int.{ints}
use Rattle.pc_model.specs.declared.schema.Schema.{Schema}
use Rattle.pc_model.specs.declared.row.Row.{Row}
use Rattle.pc_model.specs.declared.area.Area.{Area}
use Rattle.pc_model.specs.declared.row.Run.{Run}
use Rattle.pc_model.specs.declared.constraint.Constraint.{Constraint}
use Rattle.pc_model.specs.declared.query.Query.{Query}
use Rattle.pc_model.specs.declared.query.Folded.{Folded}
use Rattle.pc_model.specs.declared.tree.CutNode.{CutNode}
use Rattle.pc_model.specs.Aggregate.{asked, whole}
use Rattle.pc_model.specs.WellFormed.{IsWellFormed}
use Rattle.pc_model.specs.Cells.{Class, IsRowOf, IsSettledTree}
use Rattle.pc_model.specs.Right.{IsAttained}
use Rattle.pc_model.specs.Runs.{runs_from}
use Rattle.pc_program_bound.specs.Allocation.{worth}
use Rattle.pc_witness.proofs.Zipped.{AllZip-weaker}
use Rattle.pc_proof.specs.declared.answer.Proof.{Proof}
use Rattle.pc_proof.specs.Setting.{Setting, area_of, cells, seen_count, seen_least, seen_greatest}
use Rattle.pc_proof.specs.Table.{HasRatio}
use Rattle.pc_branch_licences.specs.Picked.{AreOfCells, AreLowest, AreHighest, IsLowest, IsHighest, IsOfCell}
use Rattle.pc_branch_licences.specs.Pools.{AreLawful}
use Rattle.pc_branch_licences.specs.Shown.{counts_of_runs}
use Rattle.pc_branch_licences.proofs.Attaining.{far-min_low, far-max_high, near-min_high, near-max_low, observed-min_low, observed-max_high}
use Rattle.pc_branch_licences.proofs.Reached.{attained-min_low, attained-max_high, attained-min_high, attained-max_low}
use Rattle.pc_agg_search.specs.declared.extreme.Extreme.{Extreme}
use Rattle.pc_agg_search.specs.declared.extreme.Extreme.TheVariants.{Low, High}
use Rattle.pc_agg.specs.declared.ladder.Test.{Test}
use Rattle.pc_agg.specs.declared.ladder.Test.TheVariants.{Reach, Avoid}
use Rattle.pc_agg_search.specs.Asked.{Asking, setting_for}
use Rattle.pc_agg_search.specs.Ends.{signed}
use Rattle.pc_agg.specs.Extremes.{agg_of, seen_number, test_at, key_at}
use Rattle.pc_agg_search.specs.Wants.{want_for}
use Rattle.pc_agg_search.specs.Settings.{unseen}
use Rattle.pc_agg_search.specs.Keys.{IsAtEnd}
use Rattle.pc_agg_search.specs.Wants.{Reaches, IsFound}
use Rattle.pc_agg.proofs.Ending.{ShowsEnd}
use Rattle.pc_agg.proofs.Questions.{posed, tree_for}
use Rattle.pc_agg.proofs.SeenNumbers.{number_of_key, least_is, greatest_is, observed_some, observed_none}
use Rattle.pc_agg.proofs.StandPrograms.{left_program}

-- ---- a key beside what was observed

pub within_key : (number : Option ℤ) (key : ℤ) → IfSome (key_at High number) (λ m. key ≤ℤ m) → IfSome number (λ m. key ≤ℤ m)
within_key None key beside = tt
within_key (Some m) key beside = beside

pub over_key : (number : Option ℤ) (key : ℤ) → IfSome (key_at Low number) (λ m. key ≤ℤ m) → IfSome number (λ m. m ≤ℤ neg_ℤ key)
over_key None key beside = tt
over_key (Some m) key beside = omega (arith, ints, beside)

pub under_key : (number : Option ℤ) (key : ℤ) → IfSome (key_at Low number) (λ m. m <ℤ key) → IfSome number (λ m. neg_ℤ key <ℤ m)
under_key None key beyond = tt
under_key (Some m) key beyond = omega (arith, ints, beyond)

pub past_key : (number : Option ℤ) (key : ℤ) → IfSome (key_at High number) (λ m. m <ℤ key) → IfSome number (λ m. m <ℤ key)
past_key None key beyond = tt
past_key (Some m) key beyond = beyond

turned_back : (n m : ℤ) → neg_ℤ n ≡ neg_ℤ m → n ≡ m
turned_back n m same = omega (arith, ints, same)

abbrev is_reach : Test → Bool
is_reach Reach = true
is_reach Avoid = false

pub reach_avoid : Reach ≡ Avoid → ⊥
reach_avoid same = true≢false (ap is_reach same)

module _ (schema : Schema) (constraints : List Constraint) (query : Query) (seen : Folded) (nodes : List CutNode) (formed : IsWellFormed schema) (tree : IsSettledTree schema constraints query.chosen nodes)
    (asking : Asking schema constraints query seen) (IsNumbered : ℕ → Type 0) (numbered : IsSomeAnd query.column IsNumbered) where
  abbrev u : Setting
  u = unseen schema constraints query nodes

  abbrev s : Setting
  s = setting_for schema constraints query seen nodes asking

  tree_at : IsSettledTree schema constraints (area_of s.question) nodes
  tree_at = tree_for schema constraints query seen nodes formed asking tree

  least : seen_least s.question ≡ seen.least
  least = least_is schema constraints query seen nodes asking IsNumbered numbered

  greatest : seen_greatest s.question ≡ seen.greatest
  greatest = greatest_is schema constraints query seen nodes asking IsNumbered numbered

  -- ---- rows of the cells

  cell_here : (class : Class) (row : Row) → IsRowOf schema constraints query.chosen class row → IsOfCell s class row
  cell_here class row of = subst (λ (area : Area). IsRowOf schema constraints area class row) (sym asking.area) of

  lowest_of : (picks : List Row) → AllZip (IsAtEnd u Low) (cells u) picks → AreLowest s picks
  lowest_of picks picked =
      AllZip-weaker (IsAtEnd u Low) (IsLowest s) (λ class row at. record { of_cell = cell_here class row at.of_cell; number = turned_back (asked query row) _ at.number }) (cells u) picks picked

  highest_of : (picks : List Row) → AllZip (IsAtEnd u High) (cells u) picks → AreHighest s picks
  highest_of picks picked = AllZip-weaker (IsAtEnd u High) (IsHighest s) (λ class row at. record { of_cell = cell_here class row at.of_cell; number = at.number }) (cells u) picks picked

  pub cells_of_picks : (extreme : Extreme) (picks : List Row) → AllZip (IsAtEnd u extreme) (cells u) picks → AreOfCells s picks
  cells_of_picks extreme picks picked = AllZip-weaker (IsAtEnd u extreme) (IsOfCell s) (λ class row at. cell_here class row at.of_cell) (cells u) picks picked

  -- ---- wanted counts attain the end

  -- a far end, beyond what was observed
  pub beyond_attained : (far : Extreme) (key : ℤ) (proof : Proof) (picks : List Row) (counts : List ℕ) → query.agg ≡ agg_of far → HasRatio proof → ShowsEnd far s (agg_of far) (whole (signed far key)) proof →
      AllZip (IsAtEnd u far) (cells u) picks → AreLawful u counts → pos 1 ≤ℤ worth (left_program s far far (signed far key)) counts → IsAttained s.question (whole (signed far key)) (runs_from picks counts)
  beyond_attained Low key proof picks counts is ratio shows picked lawful gains =
      far-min_low s (neg_ℤ key) proof picks counts (posed schema constraints query seen nodes formed asking) tree_at is ratio shows (lowest_of picks picked) lawful gains
  beyond_attained High key proof picks counts is ratio shows picked lawful gains =
      far-max_high s key proof picks counts (posed schema constraints query seen nodes formed asking) tree_at is ratio shows (highest_of picks picked) lawful gains

  -- a far end that is the observed number
  pub observed_attained : (far : Extreme) (key : ℤ) (proof : Proof) (picks : List Row) (counts : List ℕ) → query.agg ≡ agg_of far → HasRatio proof → key_at far (seen_number seen far) ≡ Some key →
      ShowsEnd far s (agg_of far) (whole (signed far key)) proof → AllZip (IsAtEnd u far) (cells u) picks → AreLawful u counts → IsAttained s.question (whole (signed far key)) (runs_from picks counts)
  observed_attained Low key proof picks counts is ratio observed shows picked lawful =
      observed-min_low s (neg_ℤ key) proof picks counts (posed schema constraints query seen nodes formed asking) tree_at is (least ∙ number_of_key Low seen.least key observed) ratio shows
      (cells_of_picks Low picks picked) lawful
  observed_attained High key proof picks counts is ratio observed shows picked lawful =
      observed-max_high s key proof picks counts (posed schema constraints query seen nodes formed asking) tree_at is (greatest ∙ number_of_key High seen.greatest key observed) ratio shows
      (cells_of_picks High picks picked) lawful

  -- a near end
  has_value : (far : Extreme) (observed : Bool) (n : ℤ) → is_some (seen_number seen far) ≡ observed → Reaches (want_for observed) n → (pos 0 <ℤ seen_count s.question) ⊎ (pos 1 ≤ℤ n)
  has_value far true n is reaches = inl (observed_some schema constraints query seen nodes asking IsNumbered numbered far is)
  has_value far false n is reaches = inr reaches

  pub near_attained : (far extreme : Extreme) (key : ℤ) (proof : Proof) (picks : List Row) (counts : List ℕ) → test_at far extreme ≡ Avoid → query.agg ≡ agg_of far → HasRatio proof →
      IfSome (key_at extreme (seen_number seen far)) (λ m. key ≤ℤ m) → ShowsEnd extreme s (agg_of far) (whole (signed extreme key)) proof → AllZip (IsAtEnd u extreme) (cells u) picks →
      IsFound (left_program s far extreme (signed extreme key)) (want_for (is_some (seen_number seen far))) counts → IsAttained s.question (whole (signed extreme key)) (runs_from picks counts)
  near_attained Low High key proof picks counts near is ratio beside shows picked found =
      near-min_high s key proof picks counts (posed schema constraints query seen nodes formed asking) tree_at is
      (subst (λ o. IfSome o (λ m. key ≤ℤ m)) (sym least) (within_key seen.least key beside)) ratio shows (highest_of picks picked) found.0
      (has_value Low (is_some seen.least) _ refl found.1)
  near_attained High Low key proof picks counts near is ratio beside shows picked found =
      near-max_low s (neg_ℤ key) proof picks counts (posed schema constraints query seen nodes formed asking) tree_at is
      (subst (λ o. IfSome o (λ m. m ≤ℤ neg_ℤ key)) (sym greatest) (over_key seen.greatest key beside)) ratio shows (lowest_of picks picked) found.0
      (has_value High (is_some seen.greatest) _ refl found.1)
  near_attained Low Low key proof picks counts near is ratio beside shows picked found = absurd (reach_avoid near)
  near_attained High High key proof picks counts near is ratio beside shows picked found = absurd (reach_avoid near)

  -- ---- runs that attain the end have wanted counts

  pub beyond_wanted : (far : Extreme) (key : ℤ) (runs : List Run) → query.agg ≡ agg_of far → IfSome (key_at far (seen_number seen far)) (λ m. m <ℤ key) → IsAttained s.question (whole (signed far key)) runs →
      pos 1 ≤ℤ worth (left_program s far far (signed far key)) (counts_of_runs s runs)
  beyond_wanted Low key runs is beyond attains =
      attained-min_low s (neg_ℤ key) runs (posed schema constraints query seen nodes formed asking) tree_at is (subst (λ o. IfSome o (λ m. neg_ℤ key <ℤ m)) (sym least) (under_key seen.least key beyond)) attains
  beyond_wanted High key runs is beyond attains =
      attained-max_high s key runs (posed schema constraints query seen nodes formed asking) tree_at is (subst (λ o. IfSome o (λ m. m <ℤ key)) (sym greatest) (past_key seen.greatest key beyond)) attains

  wanted_worth : (far : Extreme) (observed : Bool) (n : ℤ) → is_some (seen_number seen far) ≡ observed → (seen_count s.question ≡ pos 0 → pos 1 ≤ℤ n) → Reaches (want_for observed) n
  wanted_worth far true n is some = tt
  wanted_worth far false n is some = some (observed_none schema constraints query seen nodes asking IsNumbered numbered far is)

  pub near_wanted : (far extreme : Extreme) (key : ℤ) (runs : List Run) → test_at far extreme ≡ Avoid → query.agg ≡ agg_of far → IsAttained s.question (whole (signed extreme key)) runs →
      IsFound (left_program s far extreme (signed extreme key)) (want_for (is_some (seen_number seen far))) (counts_of_runs s runs)
  near_wanted Low High key runs near is attains =
      let wanted = attained-min_high s key runs (posed schema constraints query seen nodes formed asking) tree_at is attains in
      (wanted.0, wanted_worth Low (is_some seen.least) _ refl wanted.1)
  near_wanted High Low key runs near is attains =
      let wanted = attained-max_low s (neg_ℤ key) runs (posed schema constraints query seen nodes formed asking) tree_at is attains in
      (wanted.0, wanted_worth High (is_some seen.greatest) _ refl wanted.1)
  near_wanted Low Low key runs near is attains = absurd (reach_avoid near)
  near_wanted High High key runs near is attains = absurd (reach_avoid near)
