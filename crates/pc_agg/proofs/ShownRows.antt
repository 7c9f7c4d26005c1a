-- The runs of counts have the rows that are shown.
use Rattle.std.proofs.Common.{◌≡◌, ℕ, ℤ, ◌+ℤ◌, Bool, true, false, int_lt, inl, inr, List, [], ◌∷◌, map, All, Option, Some, None, sym, subst}
use Rattle.std.specs.List.{AllZip}
use Rattle.std.proofs.lemmas.Bool.{cond_both}
use Rattle.std.proofs.lemmas.List.Elements.{All-cons, All-nil}
use Rattle.pc_model.specs.declared.row.Row.{Row}
use Rattle.pc_model.specs.declared.row.Run.{Run}
use Rattle.pc_model.specs.declared.query.Agg.{Agg}
use Rattle.pc_model.specs.declared.query.Folded.{Folded}
use Rattle.pc_model.specs.Runs.{runs_from}
use Rattle.pc_model.specs.WellFormed.{IsWellFormed}
use Rattle.pc_model.specs.Cells.{Class, class_of, IsSettledTree, boxes_of, classes_of}
use Rattle.pc_cells_laws.proofs.SettledTrees.{rows_of_tree}
use Rattle.pc_program_bound.specs.Allocation.{worth}
use Rattle.pc_witness.proofs.RunsFrom.{All-runs_from}
use Rattle.pc_witness.proofs.Zipped.{All-from_zip}
use Rattle.pc_proof.specs.declared.answer.AlwaysBy.{AlwaysBy}
use Rattle.pc_proof.specs.declared.answer.AlwaysBy.TheVariants as alwayses
use Rattle.pc_proof.specs.declared.answer.Why.{Why}
use Rattle.pc_proof.specs.declared.answer.Why.TheVariants.{Ends}
use Rattle.pc_proof.specs.declared.answer.Relation.{Relation}
use Rattle.pc_proof.specs.declared.answer.Relation.TheVariants as relations
use Rattle.pc_proof.specs.declared.answer.Lack.{Lack}
use Rattle.pc_proof.specs.declared.answer.Lack.TheVariants as lacks
use Rattle.pc_proof.specs.declared.answer.Mark.{Mark}
use Rattle.pc_proof.specs.declared.answer.Mark.TheVariants as marks
use Rattle.pc_proof.specs.declared.answer.End.{End}
use Rattle.pc_proof.specs.declared.answer.Answer.{Answer}
use Rattle.pc_proof.specs.Setting.{Setting, cells, leaves}
use Rattle.pc_cells.specs.declared.cells.Cell.{Cell}
use Rattle.pc_cells.specs.Found.{cell_of, cells_of}
use Rattle.pc_agg_search.specs.declared.extreme.Extreme.{Extreme}
use Rattle.pc_agg_search.specs.declared.extreme.Extreme.TheVariants.{Low, High}
use Rattle.pc_agg_search.specs.Ends.{signed, IsPick}
use Rattle.pc_agg_search.specs.FirstRows.{IsFirstRow}
use Rattle.pc_agg_search.specs.Keys.{IsAtEnd}
use Rattle.pc_agg_search.specs.Targets.{IsPickIn, AreRowsIn}
use Rattle.pc_agg_search.specs.Wants.{fewest_chosen, most_chosen, IsFound}
use Rattle.pc_agg_search.specs.declared.want.Want.TheVariants as wants
use Rattle.pc_agg_search.proofs.FirstRows.{in_some}
use Rattle.pc_agg.specs.declared.aim.Aim.{Aim}
use Rattle.pc_agg.specs.declared.grounds.Grounded.{Grounded}
use Rattle.pc_agg.specs.declared.grounds.Grounded.TheVariants as grounded
use Rattle.pc_agg.specs.declared.grounds.Lacking.{Lacking}
use Rattle.pc_agg.specs.declared.grounds.Lacking.TheVariants as lackings
use Rattle.pc_agg.specs.declared.settling.Settled.{Settled}
use Rattle.pc_agg.specs.declared.stand.Stand.{Stand}
use Rattle.pc_agg.specs.Answered.{bounded_by, impossible_by, IsAnswer}
use Rattle.pc_agg.specs.Extremes.{always_as, crossed, relation_from, AreStands, IsJudged, IsLackFrom, IsOpenLack, IsSettledFrom}
use Rattle.pc_agg.specs.Marks.{AreOfFirst, IsEndOf, ShowsFirst}
use Rattle.pc_agg.specs.Observed.{folded_value}
use Rattle.pc_agg.specs.ShownRows.{IsShownRow, AreShownRows, AreShownLow, RelationShown, LackShown, MarkShown, HasShownRows}

module _ (s : Setting) where
  -- ---- one row of each cell

  abbrev IsShownIn : Option ℕ → Extreme → Class → Row → Type 0
  IsShownIn column extreme class row = IsFirstRow column extreme (boxes_of (leaves s) class) row

  of_class : (column : Option ℕ) (extreme : Extreme) (class : Class) (row : Row) → class_of s.question.constraints s.question.query.chosen row ≡ class → IsShownIn column extreme class row → IsShownRow s column extreme row
  of_class column extreme class row same shown = subst (λ (c : Class). IsShownIn column extreme c row) (sym same) shown

  pub picks_shown : (agg : Agg) (extreme : Extreme) (picks : List Row) → AllZip (IsPick s agg extreme) (cells s) picks → All (IsShownRow s s.question.query.column extreme) picks
  picks_shown agg extreme picks picked =
      All-from_zip (IsPick s agg extreme) (IsShownRow s s.question.query.column extreme)
      (λ class row pick. of_class s.question.query.column extreme class row pick.of_cell.of_class pick.shown) (cells s) picks picked

  pub ends_shown : (extreme : Extreme) (picks : List Row) → AllZip (IsAtEnd s extreme) (cells s) picks → All (IsShownRow s s.question.query.column extreme) picks
  ends_shown extreme picks picked =
      All-from_zip (IsAtEnd s extreme) (IsShownRow s s.question.query.column extreme)
      (λ class row at. of_class s.question.query.column extreme class row at.of_cell.of_class at.shown) (cells s) picks picked

  module _ (formed : IsWellFormed s.question.schema) (tree : IsSettledTree s.question.schema s.question.constraints s.question.query.chosen s.nodes) where
    each_shown : (classes : List Class) (picks : List Row) → AllZip (IsPickIn None Low) (map (cell_of (leaves s)) classes) picks → All (IsShownRow s None Low) picks
    each_shown [] [] picked = All-nil (IsShownRow s None Low)
    each_shown [] (row ∷ picks) picked = absurd picked
    each_shown (class ∷ classes) [] picked = absurd picked
    each_shown (class ∷ classes) (row ∷ picks) picked =
        let boxes = boxes_of (leaves s) class in
        let own = (rows_of_tree s.question.schema s.question.constraints s.question.query.chosen s.nodes formed tree class row).1 (in_some None Low boxes row picked.0) in
        All-cons (IsShownRow s None Low) row picks (of_class None Low class row own.of_class picked.0) (each_shown classes picks picked.1)

    pub rows_shown : (found : List Cell) (picks : List Row) → found ≡ cells_of (leaves s) → AreRowsIn found picks → All (IsShownRow s None Low) picks
    rows_shown found picks is picked = each_shown (classes_of (leaves s)) picks (subst (λ (l : List Cell). AreRowsIn l picks) is picked)

  -- ---- runs of them

  module _ (column : Option ℕ) (extreme : Extreme) (picks : List Row) (shown : All (IsShownRow s column extreme) picks) where
    pub runs_shown : (counts : List ℕ) → AreShownRows s column extreme (runs_from picks counts)
    runs_shown counts = All-runs_from (IsShownRow s column extreme) picks counts shown

    of_first : (P : List ℕ → Type 0) (found : List (List ℕ)) (runs : List Run) → AreOfFirst P picks found runs → AreShownRows s column extreme runs
    of_first P found runs first = subst (AreShownRows s column extreme) (sym first.2) (runs_shown _)

  pub mark_shown : (P : List ℕ → Type 0) (extreme : Extreme) (picks : List Row) (found : List (List ℕ)) (mark : Mark) → All (IsShownRow s s.question.query.column extreme) picks → ShowsFirst P picks found mark → MarkShown s extreme mark
  mark_shown P extreme picks found (marks.Exact runs) shown first = of_first s.question.query.column extreme picks shown P found runs first
  mark_shown P extreme picks found marks.Outer shown first = tt

  -- by the rows of the low end, or by those of the first leaves
  abbrev ArePicksLow : List Row → Type 0
  ArePicksLow picks = (counts : List ℕ) → AreShownLow s (runs_from picks counts)

  pub low_picks : (picks : List Row) → All (IsShownRow s s.question.query.column Low) picks → ArePicksLow picks
  low_picks picks shown counts = inl (runs_shown s.question.query.column Low picks shown counts)

  pub first_picks : (picks : List Row) → All (IsShownRow s None Low) picks → ArePicksLow picks
  first_picks picks shown counts = inr (runs_shown None Low picks shown counts)

  pub relation_shown : (picks : List Row) (found : List (List ℕ)) → ArePicksLow picks → RelationShown s (relation_from picks found)
  relation_shown picks [] low = tt
  relation_shown picks (counts ∷ more) low = low counts

  low_first : (P : List ℕ → Type 0) (picks : List Row) (found : List (List ℕ)) (runs : List Run) → ArePicksLow picks → AreOfFirst P picks found runs → AreShownLow s runs
  low_first P picks found runs low first = subst (AreShownLow s) (sym first.2) (low _)

  open_lack_shown : (picks : List Row) (found : List (List ℕ)) (lack : Lack) → ArePicksLow picks → IsOpenLack s picks found lack → LackShown s lack
  open_lack_shown picks found (lacks.Sometimes without given) low is = (
    low_first (IsFound (fewest_chosen s) wants.Without) picks found without low is.2,
    low_first (IsFound (most_chosen s) wants.Gaining) picks found given low is.3,
  )
  open_lack_shown picks found lacks.Undecided low is = tt
  open_lack_shown picks found lacks.Silent low is = tt
  open_lack_shown picks found (lacks.Never by') low is = tt
  open_lack_shown picks found (lacks.Always by') low is = tt

  pub lack_shown : (picks : List Row) (found : List (List ℕ)) (lacking : Lacking) (lack : Lack) → ArePicksLow picks → IsLackFrom s picks found lacking lack → LackShown s lack
  lack_shown picks found (lackings.Never by') lack low is = subst (LackShown s) (sym is) tt
  lack_shown picks found lackings.Open lack low is = open_lack_shown picks found lack low is

  -- ---- answers

  pub impossible_shown : (why : Why) → HasShownRows s (impossible_by why)
  impossible_shown why = record { relation = tt; lack = tt; low = tt; high = tt }

  pub always_shown : (relation : Relation) (by' : AlwaysBy) → RelationShown s relation → HasShownRows s (always_as relation by')
  always_shown relation by' shown = record { relation = shown; lack = tt; low = tt; high = tt }

  both_shown : (relation : Relation) (lack : Lack) (low high : End) → RelationShown s relation → LackShown s lack → MarkShown s Low low.mark → MarkShown s High high.mark →
      HasShownRows s (record { relation = relation; lack = lack; ends = Some (low, high) })
  both_shown relation lack low high relation_is lack_is low_is high_is = record { relation = relation_is; lack = lack_is; low = low_is; high = high_is }

  -- of a count or a sum
  aim_shown : (extreme : Extreme) (aim : Aim) (found : List (List ℕ)) (number : ℤ) (end : End) → All (IsShownRow s s.question.query.column extreme) aim.picks → IsEndOf aim.limit aim.picks found number end → MarkShown s extreme end.mark
  aim_shown extreme aim found number end shown is = mark_shown (λ counts. worth aim.limit.program counts ≡ aim.limit.most) extreme aim.picks found end.mark shown is.first

  pub answer_shown : (seen : Folded) (agg : Agg) (relation : Relation) (found : List (List ℕ)) (low high : Aim) (answer : Answer) → RelationShown s relation
      → All (IsShownRow s s.question.query.column Low) low.picks → All (IsShownRow s s.question.query.column High) high.picks
      → IsAnswer seen agg relation found low high answer → HasShownRows s answer
  answer_shown seen agg (relations.Impossible why) found low high answer shown low_rows high_rows is = subst (HasShownRows s) (sym is) (impossible_shown why)
  answer_shown seen agg (relations.Possible runs) found low high answer shown low_rows high_rows is =
      subst (HasShownRows s) (sym is.answer_is)
      (both_shown (relations.Possible runs) lacks.Silent is.low_end is.high_end shown tt
      (aim_shown Low low found (folded_value agg seen +ℤ signed Low low.limit.most) is.low_end low_rows is.low_is)
      (aim_shown High high found (folded_value agg seen +ℤ signed High high.limit.most) is.high_end high_rows is.high_is))
  answer_shown seen agg relations.Undecided found low high answer shown low_rows high_rows is =
      subst (HasShownRows s) (sym is.answer_is)
      (cond_both (int_lt is.high_end.value.num is.low_end.value.num) (impossible_by (Ends (bounded_by is.low_end) (bounded_by is.high_end)))
      (record { relation = relations.Undecided; lack = lacks.Silent; ends = Some (is.low_end, is.high_end) }) (HasShownRows s)
      (λ crossed'. impossible_shown (Ends (bounded_by is.low_end) (bounded_by is.high_end)))
      (λ apart. both_shown relations.Undecided lacks.Silent is.low_end is.high_end tt tt
      (aim_shown Low low found (folded_value agg seen +ℤ signed Low low.limit.most) is.low_end low_rows is.low_is)
      (aim_shown High high found (folded_value agg seen +ℤ signed High high.limit.most) is.high_end high_rows is.high_is)))

  -- of a least or a greatest number
  crossed_shown : (observed : Bool) (relation : Relation) (low high : End) → RelationShown s relation → HasShownRows s (crossed observed relation low high)
  crossed_shown true relation low high shown = impossible_shown (Ends (bounded_by low) (bounded_by high))
  crossed_shown false relation low high shown = always_shown relation (alwayses.Ends (bounded_by low) (bounded_by high)) shown

  pub judged_shown : (budget : ℕ) (far : Extreme) (number : Option ℤ) (observed : Bool) (lacking : Lacking) (before : List (List ℕ)) (low high : Stand) (found : List (List ℕ)) (answer : Answer)
      → AreStands s budget far number before low high found → IsJudged s observed lacking low high found answer → HasShownRows s answer
  judged_shown budget far number observed lacking before low high found answer stands is =
      let low_rows = ends_shown Low low.picks stands.low_stands.picked in
      let high_rows = ends_shown High high.picks stands.high_stands.picked in
      let below = low_picks low.picks low_rows in
      let shown = relation_shown low.picks found below in
      subst (HasShownRows s) (sym is.answer_is)
      (cond_both (int_lt is.high_end.value.num is.low_end.value.num) (crossed observed (relation_from low.picks found) is.low_end is.high_end)
      (record { relation = relation_from low.picks found; lack = is.lack; ends = Some (is.low_end, is.high_end) }) (HasShownRows s)
      (λ crossed'. crossed_shown observed (relation_from low.picks found) is.low_end is.high_end shown)
      (λ apart. both_shown (relation_from low.picks found) is.lack is.low_end is.high_end shown (lack_shown low.picks found lacking is.lack below is.lack_is)
      (mark_shown (IsFound low.program low.want) Low low.picks found is.low_end.mark low_rows is.low_is.first)
      (mark_shown (IsFound high.program high.want) High high.picks found is.high_end.mark high_rows is.high_is.first)))

  -- what is settled
  pub settled_shown : (ground : Grounded) (settled : Settled) → IsSettledFrom s ground settled → RelationShown s settled.relation × LackShown s settled.lack
  settled_shown (grounded.Impossible why) settled from = subst (λ (x : Settled). RelationShown s x.relation × LackShown s x.lack) (sym from) (tt, tt)
  settled_shown (grounded.Always tree found) settled from =
      let over = from.0 in
      (subst (RelationShown s) (sym over.relation_is) (relation_shown over.picks found (first_picks over.picks over.shown)), subst (LackShown s) (sym from.1) tt)
  settled_shown (grounded.Open grounds) settled from =
      let over = from.0 in
      let below = first_picks over.picks over.shown in (
        subst (RelationShown s) (sym over.relation_is) (relation_shown over.picks grounds.found below),
        lack_shown over.picks grounds.found grounds.lacking settled.lack below from.1,
      )
