-- Inner nodes stay as a tree is cut on.
use Rattle.std.proofs.Common.{List, refl, sym, subst, ◌∙◌, arith}
use Rattle.pc_model.specs.declared.schema.Schema.{Schema}
use Rattle.pc_model.specs.declared.constraint.Constraint.{Constraint}
use Rattle.pc_model.specs.declared.region.Region.{Region}
use Rattle.pc_model.specs.declared.area.Area.{Area}
use Rattle.pc_model.specs.declared.tree.CutNode.{CutNode}
use Rattle.pc_model.specs.declared.tree.CutNode.TheVariants as forms
use Rattle.pc_cells_tree.specs.Linked.{IsTree, IsDone, HasKept, IsInnerNode, KeepsInner, box_at, node_at}

inner_done : (constraints : List Constraint) (chosen : Area) (box : Region) (node : CutNode) → IsInnerNode node → IsDone constraints chosen box node
inner_done constraints chosen box (forms.Leaf mark) inner = absurd inner
inner_done constraints chosen box (forms.Inner cut first second) inner = tt

pub keeps_itself : (nodes : List CutNode) → KeepsInner nodes nodes
keeps_itself nodes = record { longer = omega arith; same = λ k inside inner. refl }

pub keeps_inner : (schema : Schema) (constraints : List Constraint) (chosen : Area) (before after : List CutNode) → IsTree schema before → HasKept schema constraints chosen before after → KeepsInner before after
keeps_inner schema constraints chosen before after tree kept = record {
  longer = kept.longer;
  same = λ k inside inner. kept.same tree.0 tree.1 k inside (inner_done constraints chosen (box_at tree.0 k) (node_at before k) inner);
}

pub keeps_on : (a b c : List CutNode) → KeepsInner a b → KeepsInner b c → KeepsInner a c
keeps_on a b c first second = record {
  longer = omega (arith, first.longer, second.longer);
  same = λ k inside inner.
      let kept = first.same k inside inner in
      second.same k (omega (arith, inside, first.longer)) (subst IsInnerNode (sym kept) inner) ∙ kept;
}
