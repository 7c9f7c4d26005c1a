-- The outermost numbers of both sides do not cross.
use Rattle.std.proofs.Common.{◌≡◌, ℤ, neg_ℤ, ◌≤ℤ◌, true, List, [], ◌∷◌, get_or, All, Some, IfSome, inl, inr, ◌⊎◌, sym, subst, ◌∙◌, arith}
use Rattle.std.specs.List.{AllZip, reduce}
use Rattle.std.specs.Int.{int_min, int_max}
use Rattle.std.proofs.lemmas.Int.{ints}
use Rattle.std.proofs.lemmas.List.Elements.{All-cons, All-contains, All-head, All-nil}
use Rattle.std.proofs.lemmas.Option.{none-some}
use Rattle.pc_model.specs.declared.schema.Schema.{Schema}
use Rattle.pc_model.specs.declared.row.Row.{Row}
use Rattle.pc_model.specs.declared.region.Region.{Region}
use Rattle.pc_model.specs.declared.constraint.Constraint.{Constraint}
use Rattle.pc_model.specs.declared.tree.CutNode.{CutNode}
use Rattle.pc_model.specs.declared.query.Agg.TheVariants.{Avg}
use Rattle.pc_model.specs.declared.query.Query.{Query}
use Rattle.pc_model.specs.declared.query.Folded.{Folded}
use Rattle.pc_model.specs.WellFormed.{IsWellFormed}
use Rattle.pc_model.specs.CutTrees.{shape_of, side_at}
use Rattle.pc_model.specs.Cells.{Class, IsRowOf, IsSettledTree, IsSpanned, boxes_of, leaves_in}
use Rattle.pc_cells_laws.proofs.Cells.{boxes_of-all}
use Rattle.pc_cells_laws.proofs.SettledTrees.{rows_of_tree}
use Rattle.pc_cells_laws.proofs.Spans.{spanned_leaf, above_least, below_greatest}
use Rattle.pc_cells_laws.proofs.TreesDomain.{domain_regions}
use Rattle.pc_proof.specs.Setting.{Setting, cells, low_in, high_in, seen_numbers}
use Rattle.pc_proof.proofs.Ends.{AsksNumbers, asks_numbers}
use Rattle.pc_proof.proofs.Numbers.{all_from_least, all_from_greatest}
use Rattle.pc_agg_search.specs.declared.extreme.Extreme.{Extreme}
use Rattle.pc_agg_search.specs.declared.extreme.Extreme.TheVariants.{Low, High}
use Rattle.pc_agg_search.specs.Asked.{Asking, asked_as, setting_for}
use Rattle.pc_agg_search.specs.Keys.{key_of, IsAtEnd}
use Rattle.pc_agg_search.specs.Settings.{unseen}
use Rattle.pc_avg.specs.declared.sides.Side.{Side}
use Rattle.pc_avg.specs.Sides.{observed_key, IsChosenKey, IsOutermost, IsOutermostKey, IsSide}
use Rattle.pc_avg.proofs.SideNumbers.{least_seen, greatest_seen, turned_is}

-- the least of some numbers is within what all of them are within
least_under : (xs : List ℤ) (least most : ℤ) → reduce int_min xs ≡ Some least → IfSome (reduce int_max xs) (λ m. m ≤ℤ most) → least ≤ℤ most
least_under [] least most is under = absurd (none-some least is)
least_under (x ∷ xs) least most is under =
    let itself : IfSome (reduce int_min (x ∷ xs)) (λ m. least ≤ℤ m) = subst (λ o. IfSome o (λ m. least ≤ℤ m)) (sym is) (omega (arith, ints)) in
    let over = All-head (λ n. least ≤ℤ n) x xs (all_from_least (λ n. least ≤ℤ n) (x ∷ xs) (λ a b below from. omega (arith, ints, below, from)) itself) in
    let within = All-head (λ n. n ≤ℤ most) x xs (all_from_greatest (λ n. n ≤ℤ most) (x ∷ xs) (λ a b below from. omega (arith, ints, below, from)) under) in
    omega (arith, ints, over, within)

module _ (schema : Schema) (constraints : List Constraint) (query : Query) (seen : Folded) (nodes : List CutNode) (formed : IsWellFormed schema) (tree : IsSettledTree schema constraints query.chosen nodes)
    (asking : Asking schema constraints query seen) (agg_is : query.agg ≡ Avg) where
  abbrev u : Setting
  u = unseen schema constraints query nodes

  abbrev s : Setting
  s = setting_for schema constraints query seen nodes asking

  asks : AsksNumbers schema (asked_as query asking.wide asking.group)
  asks = asks_numbers schema (asked_as query asking.wide asking.group) Avg asking.well agg_is tt

  -- ---- of a cell

  abbrev IsOrdered : Class → Type 0
  IsOrdered class = low_in u class ≤ℤ high_in u class

  -- the number of a row lies between
  row_between : (class : Class) (row : Row) → IsRowOf schema constraints query.chosen class row → IsOrdered class
  row_between class row of =
      let column = asks.column in
      let boxes = boxes_of (leaves_in schema nodes) class in
      let spans : All (λ (box : Region). IsSpanned (side_at box column)) boxes =
      boxes_of-all (λ (box : Region). IsSpanned (side_at box column)) (leaves_in schema nodes) class
      (λ place d inside.
      spanned_leaf schema (get_or (leaves_in schema nodes) place d).region column asks.numeric (domain_regions schema (shape_of nodes) tree.proper formed place d inside)) in
      let found = (rows_of_tree schema constraints query.chosen nodes formed tree class row).0 of in
      let above = above_least column boxes spans row found in
      let below = below_greatest column boxes spans row found in
      rw asks.column_is (omega (arith, ints, above, below))

  each_ordered : (extreme : Extreme) (classes : List Class) (picks : List Row) → AllZip (IsAtEnd u extreme) classes picks → All IsOrdered classes
  each_ordered extreme [] [] picked = All-nil IsOrdered
  each_ordered extreme [] (row ∷ picks) picked = absurd picked
  each_ordered extreme (class ∷ classes) [] picked = absurd picked
  each_ordered extreme (class ∷ classes) (row ∷ picks) picked =
      All-cons IsOrdered class classes (row_between class row picked.0.of_cell) (each_ordered extreme classes picks picked.1)

  -- ---- of both sides

  pub outermost_order : (low high : Side) → IsSide u seen Low low → IsSide u seen High high → (least most : ℤ) → low.outermost ≡ Some least → high.outermost ≡ Some most → neg_ℤ least ≤ℤ most
  outermost_order low high low_is high_is least most least_is most_is = by_key first.of_cell
    where
      first : IsOutermostKey u Low (observed_key seen Low) least
      first = subst (IsOutermost u Low (observed_key seen Low)) least_is low_is.outermost

      second : IsOutermostKey u High (observed_key seen High) most
      second = subst (IsOutermost u High (observed_key seen High)) most_is high_is.outermost

      by_key : IsChosenKey u Low least ⊎ (observed_key seen Low ≡ Some least) → neg_ℤ least ≤ℤ most
      by_key (inl found) =
          let own = All-contains IsOrdered (cells u) found.1 (each_ordered Low (cells u) low.picks low_is.picked) (found.0, found.2, found.3) in
          let under = All-contains (λ (class : Class). class.chosen ≡ true → key_of u High class ≤ℤ most) (cells u) found.1 second.chosen (found.0, found.2, found.3) found.4.0 in
          omega (arith, ints, own, under, found.4.1)
      by_key (inr is) =
          least_under (seen_numbers s.question) (neg_ℤ least) most (least_seen schema constraints query seen nodes asking agg_is ∙ turned_is seen.least least is)
          (subst (λ o. IfSome o (λ m. m ≤ℤ most)) (sym (greatest_seen schema constraints query seen nodes asking agg_is)) second.seen)
