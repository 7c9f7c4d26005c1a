-- Small documents, line by line, and the numbers of a worked average.
use Rattle.std.specs.Prelude.{ℕ, ℤ, pos, neg_ℤ, List, [], ◌∷◌, map, Option, Some, None, true}
use Rattle.pc_num.specs.declared.Frac.{Frac}
use Rattle.pc_model.specs.declared.schema.Schema.{Schema}
use Rattle.pc_model.specs.declared.schema.Kind.TheVariants as kinds
use Rattle.pc_model.specs.declared.row.Row.{Row}
use Rattle.pc_model.specs.declared.row.Run.{Run}
use Rattle.pc_model.specs.declared.region.Side.TheVariants as sides
use Rattle.pc_model.specs.declared.constraint.When.TheVariants.{Boxes}
use Rattle.pc_model.specs.declared.constraint.Constraint.{Constraint}
use Rattle.pc_model.specs.declared.tree.Cut.TheVariants as cuts
use Rattle.pc_model.specs.declared.tree.CutNode.{CutNode}
use Rattle.pc_model.specs.declared.tree.CutNode.TheVariants as cut_nodes
use Rattle.pc_model.specs.declared.tree.LeafMark.TheVariants as leaf_marks
use Rattle.pc_model.specs.declared.tree.Mult.{Mult}
use Rattle.pc_model.specs.declared.tree.Tree.{Tree}
use Rattle.pc_model.specs.declared.tree.TreeNode.TheVariants as tree_nodes
use Rattle.pc_model.specs.declared.query.Agg.{Agg}
use Rattle.pc_model.specs.declared.query.Agg.TheVariants.{Count, Avg}
use Rattle.pc_model.specs.Aggregate.{Ratio}
use Rattle.pc_model.specs.Right.{Question}
use Rattle.pc_model.specs.Regions.{one_box, whole_area}
use Rattle.pc_proof.specs.declared.answer.Proof.{Proof}
use Rattle.pc_proof.specs.declared.answer.Proof.TheVariants as proofs
use Rattle.pc_proof.specs.declared.answer.Bounded.{Bounded}
use Rattle.pc_proof.specs.declared.answer.Why.{Why}
use Rattle.pc_proof.specs.declared.answer.Why.TheVariants as whys
use Rattle.pc_proof.specs.declared.answer.NeverBy.TheVariants as nevers
use Rattle.pc_proof.specs.declared.answer.AlwaysBy.{AlwaysBy}
use Rattle.pc_proof.specs.declared.answer.AlwaysBy.TheVariants as alwayses
use Rattle.pc_proof.specs.declared.answer.Relation.TheVariants as relations
use Rattle.pc_proof.specs.declared.answer.Lack.TheVariants as lacks
use Rattle.pc_proof.specs.declared.answer.Mark.TheVariants as marks
use Rattle.pc_proof.specs.declared.answer.End.{End}
use Rattle.pc_proof.specs.declared.answer.Answer.{Answer}
use Rattle.pc_proof.specs.Setting.{Setting}
use Rattle.pc_proof.specs.declared.document.Block.{Block}
use Rattle.pc_proof.specs.declared.document.BlockTree.TheVariants as trees
use Rattle.pc_proof.specs.Demands.{Placed}
use Rattle.pc_proof.specs.Documents.{Premises}

-- the line and the rule of each demand
abbrev pub places : List Placed → List (ℕ × ℕ)
places demands = map (λ (d : Placed). (d.line, d.rule)) demands

-- ---- a shop: a branch, a day and a price, of which two rows were observed

abbrev pub shop : Schema
shop = record {
  columns =
      record { name = 98 ∷ []; kind = kinds.Cat ((67 ∷ []) ∷ (78 ∷ []) ∷ (84 ∷ []) ∷ []) }
      ∷ record { name = 100 ∷ []; kind = kinds.Int (pos 1) (pos 31) }
      ∷ record { name = 112 ∷ []; kind = kinds.Dec 2 (pos 0) (pos 100000) }
      ∷ [];
}

abbrev row : ℕ → ℕ → ℕ → Row
row branch day price = record { cells = pos branch ∷ pos day ∷ pos price ∷ [] }

-- a Chicago row costs 149.99 at most, and up to five are lost
abbrev chicago : Constraint
chicago = record {
  name = 99 ∷ [];
  when = Boxes (one_box (record { sides = sides.Names 1 ∷ sides.Span (pos 1) (pos 31) ∷ sides.Span (pos 0) (pos 100000) ∷ [] }));
  values = record { sides = sides.Names 7 ∷ sides.Span (pos 1) (pos 31) ∷ sides.Span (pos 0) (pos 14999) ∷ [] };
  least = 0;
  most = 5;
}

abbrev pub two_rows : List Row
two_rows = row 0 3 10000 ∷ row 1 5 5000 ∷ []

abbrev pub question : Agg → List Row → Option ℕ → Option ℕ → Question
question agg observed group name = record {
  schema = shop;
  observed = observed;
  constraints = chicago ∷ [];
  query = record { agg = agg; column = Some 2; chosen = whole_area shop; group = group };
  name = name;
}

-- the five nodes of the shop's tree, and a tree of one leaf
abbrev pub shop_tree : List CutNode
shop_tree =
    cut_nodes.Inner (cuts.Among 0 1) 1 4 ∷ cut_nodes.Inner (cuts.At 2 (pos 14999)) 2 3 ∷ cut_nodes.Leaf (leaf_marks.Class 1 true)
    ∷ cut_nodes.Leaf leaf_marks.Barren ∷ cut_nodes.Leaf leaf_marks.Barren ∷ []

abbrev pub one_leaf : List CutNode
one_leaf = cut_nodes.Leaf (leaf_marks.Class 1 true) ∷ []

abbrev pub no_cell : List CutNode
no_cell = cut_nodes.Leaf leaf_marks.Barren ∷ []

abbrev pub case_of : Agg → List CutNode → Setting
case_of agg nodes = record { question = question agg two_rows None None; nodes = nodes }

abbrev pub grouped : Agg → List CutNode → Setting
grouped agg nodes = record { question = question agg two_rows (Some 0) (Some 0); nodes = nodes }

-- ---- trees of one line and of three

abbrev over : ℤ → Mult
over m = record { by = m ∷ []; den = pos 1 }

abbrev pub bound_line : ℤ → Tree
bound_line m = record { nodes = tree_nodes.Bound (over m) ∷ [] }

abbrev pub split_lines : Tree
split_lines = record { nodes = tree_nodes.Split 0 2 1 2 ∷ tree_nodes.Bound (over (pos 0)) ∷ tree_nodes.Void (over (neg_ℤ (pos 1))) ∷ [] }

-- ---- ends

abbrev pub number : ℤ → Frac
number n = record { num = n; den = pos 1 }

abbrev pub outer_end : ℤ → Proof → End
outer_end n proof = record { value = number n; mark = marks.Outer; proof = proof }

abbrev pub exact_end : ℤ → List Run → Proof → End
exact_end n runs proof = record { value = number n; mark = marks.Exact runs; proof = proof }

abbrev bounded : ℤ → Bounded
bounded n = record { value = number n; proof = proofs.Tree (bound_line (pos 0)) }

abbrev run_line : ℕ → ℕ → List Run
run_line times price = record { times = times; row = row 0 1 price } ∷ []

-- ---- answers

-- low 150.00, high 899.95 by five rows
abbrev pub shop_answer : Answer
shop_answer = record {
  relation = relations.Possible [];
  lack = lacks.Silent;
  ends = Some (exact_end (pos 15000) [] (proofs.Tree (bound_line (pos 0))), exact_end (pos 89995) (run_line 5 14999) (proofs.Tree (bound_line (pos 14999))));
}

-- none never by rows, low by tree, high by rows
abbrev pub seen_answer : Answer
seen_answer = record {
  relation = relations.Possible [];
  lack = lacks.Never nevers.Rows;
  ends = Some (outer_end (pos 0) (proofs.Tree (bound_line (pos 0))), exact_end (pos 5000) [] proofs.Rows);
}

-- none never by tree, low by values, high by a tree of three lines at a ratio
abbrev pub ratio_answer : Answer
ratio_answer = record {
  relation = relations.Possible [];
  lack = lacks.Never (nevers.Tree (bound_line (pos 0)));
  ends = Some (outer_end (pos 0) proofs.Values, outer_end (pos 12999) (proofs.At (number (pos 12800)) split_lines));
}

abbrev pub impossible : Why → Answer
impossible why = record { relation = relations.Impossible why; lack = lacks.Silent; ends = None }

abbrev pub by_void : Answer
by_void = impossible (whys.Void split_lines)

abbrev pub by_cross : Answer
by_cross = impossible (whys.Cross (bound_line (pos 0)) split_lines)

abbrev pub by_ends : Answer
by_ends = impossible (whys.Ends (bounded (pos 200)) (bounded (pos 100)))

abbrev pub always : AlwaysBy → Answer
always by' = record { relation = relations.Possible []; lack = lacks.Always by'; ends = None }

abbrev pub always_by_tree : Answer
always_by_tree = always (alwayses.Tree (bound_line (pos 0)))

abbrev pub always_by_ends : Answer
always_by_ends = always (alwayses.Ends (bounded (pos 200)) (bounded (pos 100)))

abbrev by_values : Option (End × End)
by_values = Some (outer_end (pos 0) proofs.Values, outer_end (pos 14999) proofs.Values)

-- one run without a value and two with one
abbrev pub sometimes : Answer
sometimes = record {
  relation = relations.Possible [];
  lack = lacks.Sometimes (run_line 1 1) (record { times = 1; row = row 0 1 2 } ∷ run_line 1 3);
  ends = by_values;
}

abbrev pub undecided : Answer
undecided = record { relation = relations.Undecided; lack = lacks.Undecided; ends = by_values }

-- ---- documents

abbrev pub premises : Premises
premises = record { schema = shop; observed = two_rows; constraints = chicago ∷ [] }

-- a block of a grouped count whose tree is that of the block before
abbrev pub same_block : Block
same_block = record { query = (question Count two_rows (Some 0) (Some 0)).query; name = Some 0; tree = trees.Same; answer = by_void }

-- ---- the average at two ratios that are not the best, 38401/3 and 6601/3 in hundredths

abbrev pub average : List Row → List CutNode → Setting
average observed nodes = record { question = question Avg observed None None; nodes = nodes }

abbrev pub ratio : ℤ → ℤ → Ratio
ratio num den = record { num = num; den = den }

abbrev pub high_ratio : Ratio
high_ratio = ratio (pos 38401) (pos 3)

abbrev pub low_ratio : Ratio
low_ratio = ratio (pos 6601) (pos 3)
