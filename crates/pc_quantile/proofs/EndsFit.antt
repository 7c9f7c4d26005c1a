-- The numbers at which an end of a right and licensed answer stands are no greater than those of the schema.
use Rattle.std.proofs.Common.{◌≡◌, ℕ, zero, suc, ◌≤◌, ◌++◌, ℤ, pos, true, true≢false, List, [], ◌∷◌, All, Option, Some, None, IfSome, inl, inr, map, sym, subst, arith, filter, slice_index_or}
use Rattle.std.specs.Prelude.{nat_abs, unwrap_or}
use Rattle.std.specs.Cmp.Lexicographic.{pointwise}
use Rattle.std.specs.List.{AllPass}
use Rattle.std.proofs.lemmas.Bool.{and_parts}
use Rattle.std.proofs.lemmas.Int.{ints}
use Rattle.std.proofs.lemmas.List.Elements.{All-append, All-contains, All-filter, All-head, All-map, All-tail, All-weaker}
use Rattle.pc_num.specs.Scaled.{greatest_size}
use Rattle.pc_model.specs.declared.schema.Kind.{Kind}
use Rattle.pc_model.specs.declared.schema.Kind.TheVariants.{Int, Dec, Cat}
use Rattle.pc_model.specs.declared.schema.Column.{Column}
use Rattle.pc_model.specs.declared.schema.Schema.{Schema}
use Rattle.pc_model.specs.declared.region.Side.{Side}
use Rattle.pc_model.specs.declared.region.Side.TheVariants.{Names, Span}
use Rattle.pc_model.specs.declared.region.Region.{Region}
use Rattle.pc_model.specs.declared.row.Row.{Row}
use Rattle.pc_model.specs.declared.row.Run.{Run}
use Rattle.pc_model.specs.declared.constraint.Constraint.{Constraint}
use Rattle.pc_model.specs.declared.tree.CutNode.{CutNode}
use Rattle.pc_model.specs.declared.tree.Leaf.{Leaf}
use Rattle.pc_model.specs.Cells.{Class, IsSettledTree, boxes_of, high_at, high_of, is_leaf_of, leaves_in, low_at, low_of}
use Rattle.pc_model.specs.CutTrees.{shape_of, side_at}
use Rattle.pc_model.specs.Membership.{in_domain}
use Rattle.pc_model.specs.Regions.{is_region_of, is_side_of}
use Rattle.pc_model.specs.Runs.{rows_of}
use Rattle.pc_model.specs.WellFormed.{IsColumn, IsKind, IsSmall, IsWellFormed}
use Rattle.pc_cells_laws.proofs.TreesDomain.{domain_regions}
use Rattle.pc_proof.specs.Setting.{Setting, seen_numbers}
use Rattle.pc_proof.proofs.Numbers.{greatest_keeps, least_keeps}
use Rattle.pc_agg_search.specs.declared.extreme.Extreme.{Extreme}
use Rattle.pc_agg_search.specs.declared.extreme.Extreme.TheVariants.{High, Low}
use Rattle.pc_lang.specs.declared.quantile.Quantile.{Quantile}
use Rattle.pc_lang.proofs.SidesAgain.{ends_small}
use Rattle.pc_quantile.specs.Licensed.{IsCandidateAt, question_of}
use Rattle.pc_quantile.specs.Measured.{least_of, numbers_of}
use Rattle.pc_quantile.specs.Past.{end_in}
use Rattle.pc_quantile.specs.Right.{HasQuantile}
use Rattle.pc_quantile.proofs.Bounding.{small_numbers}
use Rattle.pc_quantile.proofs.Shares.{quantile_keeps}

-- ---- the ends of a side

record HasSmallEnds (side : Side) : Type 0 where
  low : IsSmall (low_of side)
  high : IsSmall (high_of side)

no_number : (bits : ℕ) → HasSmallEnds (Names bits)
no_number bits = record { low = omega arith; high = omega arith }

side_small : (kind : Kind) (side : Side) → IsKind kind → is_side_of kind side ≡ true → HasSmallEnds side
side_small kind (Names bits) is of = no_number bits
side_small (Int low high) (Span from to) is of = let both = ends_small low high from to is of in record { low = both.0; high = both.1 }
side_small (Dec scale low high) (Span from to) is of = let both = ends_small low high from to is.1 of in record { low = both.0; high = both.1 }
side_small (Cat names) (Span from to) is of = absurd (true≢false (sym of))

sides_small : (columns : List Column) (sides : List Side) (column : ℕ) → All IsColumn columns → pointwise (λ (c : Column). is_side_of c.kind) columns sides ≡ true → HasSmallEnds (slice_index_or sides column (Names 0))
sides_small columns [] column are of = no_number 0
sides_small [] (side ∷ sides) column are of = absurd (true≢false (sym of))
sides_small (c ∷ columns) (side ∷ sides) zero are of =
    side_small c.kind side (All-head IsColumn c columns are).kind (and_parts (is_side_of c.kind side) (pointwise (λ (x : Column). is_side_of x.kind) columns sides) of).0
sides_small (c ∷ columns) (side ∷ sides) (suc column) are of =
    sides_small columns sides column (All-tail IsColumn c columns are) (and_parts (is_side_of c.kind side) (pointwise (λ (x : Column). is_side_of x.kind) columns sides) of).1

box_small : (schema : Schema) (box : Region) (column : ℕ) → IsWellFormed schema → is_region_of schema box ≡ true → HasSmallEnds (side_at box column)
unfolding is_region_of
box_small schema box column formed of = sides_small schema.columns box.sides column formed.columns.all of

-- ---- the ends of a cell

found_or_none : (found : Option ℤ) → IfSome found IsSmall → IsSmall (unwrap_or found (pos 0))
found_or_none None small = omega arith
found_or_none (Some number) small = small

module _ (schema : Schema) (constraints : List Constraint) (asked : Quantile) (nodes : List CutNode) (formed : IsWellFormed schema) (tree : IsSettledTree schema constraints asked.chosen nodes) where
  boxes_small : (column : ℕ) (class : Class) → All (λ (box : Region). HasSmallEnds (side_at box column)) (boxes_of (leaves_in schema nodes) class)
  boxes_small column class =
      All-map (λ (box : Region). HasSmallEnds (side_at box column)) (λ (leaf : Leaf). leaf.region)
      (filter (is_leaf_of class) (leaves_in schema nodes))
      (All-filter (is_leaf_of class) (λ (leaf : Leaf). HasSmallEnds (side_at leaf.region column)) (leaves_in schema nodes)
      (All-weaker (λ (leaf : Leaf). is_region_of schema leaf.region ≡ true) (λ (leaf : Leaf). HasSmallEnds (side_at leaf.region column))
      (λ leaf of. box_small schema leaf.region column formed of) (leaves_in schema nodes) (domain_regions schema (shape_of nodes) tree.proper formed)))

  module _ (observed : List Row) where
    abbrev s : Setting
    s = record { question = question_of schema observed constraints asked; nodes = nodes }

    end_small : (extreme : Extreme) (class : Class) → IsSmall (end_in s extreme class)
    end_small Low class =
        found_or_none _ (least_keeps IsSmall (map (low_at asked.column) (boxes_of (leaves_in schema nodes) class))
        (All-map IsSmall (low_at asked.column) (boxes_of (leaves_in schema nodes) class)
        (All-weaker (λ (box : Region). HasSmallEnds (side_at box asked.column)) (λ (box : Region). IsSmall (low_at asked.column box)) (λ box has. has.low) (boxes_of (leaves_in schema nodes) class) (boxes_small asked.column class))))
    end_small High class =
        found_or_none _ (greatest_keeps IsSmall (map (high_at asked.column) (boxes_of (leaves_in schema nodes) class))
        (All-map IsSmall (high_at asked.column) (boxes_of (leaves_in schema nodes) class)
        (All-weaker (λ (box : Region). HasSmallEnds (side_at box asked.column)) (λ (box : Region). IsSmall (high_at asked.column box)) (λ box has. has.high) (boxes_of (leaves_in schema nodes) class) (boxes_small asked.column class))))

    -- ---- numbers of rows

    small_turned : (n : ℤ) → nat_abs n ≤ greatest_size → IsSmall n
    small_turned n small = omega (arith, ints, small)

    module _ (seen : AllPass (in_domain schema) observed) where
      pub candidate_small : (extreme : Extreme) (number : ℤ) → IsCandidateAt s extreme number → IsSmall number
      candidate_small extreme number (inl of_cell) = subst IsSmall of_cell.is (end_small extreme of_cell.class)
      candidate_small extreme number (inr own) =
          small_turned number (All-contains (λ n. nat_abs n ≤ greatest_size) (seen_numbers s.question) number (small_numbers schema (least_of asked) observed formed seen) own)

      -- what a possible list attains is a number of a row
      pub attained_small : (number : ℤ) (runs : List Run) → HasQuantile s.question asked number runs → IsSmall number
      attained_small number runs has =
          let all = small_numbers schema (least_of asked) (observed ++ rows_of runs) formed
          (All-append (λ row. in_domain schema row ≡ true) observed (rows_of runs) seen has.by.are_possible.allowed) in
          small_turned number
          (subst (λ (found : Option ℤ). IfSome found (λ n. nat_abs n ≤ greatest_size)) has.has
          (quantile_keeps (λ n. nat_abs n ≤ greatest_size) asked.p asked.q (numbers_of s.question (rows_of runs)) all))
