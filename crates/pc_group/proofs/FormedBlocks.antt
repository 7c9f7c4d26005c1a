-- Blocks in form.
use Rattle.std.proofs.Common.{◌≡◌, ℕ, zero, suc, true, true≢false, pos, List, [], ◌∷◌, length, All, Option, Some, None, sym, subst, ltb-true}
use Rattle.std.specs.Prelude.{slice_get, slice_index_or, IfSome, IsSomeAnd}
use Rattle.std.specs.Cmp.Lexicographic.{pointwise}
use Rattle.std.specs.List.{AllZip, AllPass}
use Rattle.std.proofs.lemmas.Bool.{and_parts}
use Rattle.std.proofs.lemmas.List.Elements.{All-nil, All-cons, All-head, All-tail}
use Rattle.std.proofs.lemmas.List.Folds.{Any-from_list_any}
use Rattle.std.proofs.lemmas.Option.{same_Some}
use Rattle.pc_model.specs.declared.schema.Kind.{Kind}
use Rattle.pc_model.specs.declared.schema.Kind.TheVariants.{Int, Dec, Cat}
use Rattle.pc_model.specs.declared.schema.Column.{Column}
use Rattle.pc_model.specs.declared.schema.Schema.{Schema}
use Rattle.pc_model.specs.declared.row.Row.{Row}
use Rattle.pc_model.specs.declared.region.Side.{Side}
use Rattle.pc_model.specs.declared.region.Side.TheVariants.{Names}
use Rattle.pc_model.specs.declared.region.Region.{Region}
use Rattle.pc_model.specs.declared.area.Area.{Area}
use Rattle.pc_model.specs.declared.constraint.Constraint.{Constraint}
use Rattle.pc_model.specs.declared.query.Query.{Query}
use Rattle.pc_model.specs.declared.tree.CutNode.{CutNode}
use Rattle.pc_model.specs.Accepted.{AreConstraints, IsQuery, HasNames, IsColumnWhere}
use Rattle.pc_model.specs.Boxes.{IsAreaOf}
use Rattle.pc_model.specs.CutTrees.{shape_of}
use Rattle.pc_model.specs.Membership.{holds, allows, in_domain}
use Rattle.pc_model.specs.Regions.{is_side_of, is_region_of}
use Rattle.pc_model.specs.WellFormed.{IsWellFormed}
use Rattle.pc_model.proofs.Regions.{side_inside}
use Rattle.pc_cells_tree.specs.Walking.{HasCutsAt}
use Rattle.pc_proof.specs.declared.answer.Answer.{Answer}
use Rattle.pc_proof.specs.declared.document.Block.{Block}
use Rattle.pc_proof.specs.declared.document.BlockTree.{BlockTree}
use Rattle.pc_proof.specs.declared.document.BlockTree.TheVariants as trees
use Rattle.pc_proof.specs.Documents.{nodes_after}
use Rattle.pc_proof.specs.Form.{IsFormedAnswer, IsFormedBlock, IsFormedBlockTree, IsFormedCutTree, IsGroupName, IsNameOf}
use Rattle.pc_proof.specs.Setting.{allows_name, area_of}
use Rattle.pc_proof.specs.Unbroken.{AllowsName, HasForm, IsUnbroken}
use Rattle.pc_agg_search.specs.Settings.{question_in, setting_in}
use Rattle.pc_group.specs.Answers.{AnswersWanted}
use Rattle.pc_cells_tree.specs.Owned.{HasOwnCuts}
use Rattle.pc_group.specs.Trees.{Told, AreOfTree, HasOwnShape, told, told_after, told_with}
use Rattle.pc_group.specs.Wanted.{Wanted}
use Rattle.pc_group.proofs.FormedCuts.{own_shape, tree_formed}

-- ---- names

name_below : (kind : Kind) (place : ℕ) → HasNames kind → allows kind (pos place) ≡ true → IsNameOf place kind
unfolding allows
name_below (Int low high) place has allowed = has
name_below (Dec scale low high) place has allowed = has
name_below (Cat names) place has allowed = ltb-true place (length names) allowed

name_at : (columns : List Column) (sides : List Side) (column place : ℕ) → pointwise (λ (c : Column). is_side_of c.kind) columns sides ≡ true → IsSomeAnd (slice_get columns column) (λ (c : Column). HasNames c.kind) →
    holds (slice_index_or sides column (Names 0)) (pos place) ≡ true → IsSomeAnd (slice_get columns column) (λ (c : Column). IsNameOf place c.kind)
name_at [] sides column place h has held = absurd has
name_at (c ∷ columns) [] column place h has held = absurd (true≢false (sym h))
name_at (c ∷ columns) (s ∷ sides) zero place h has held =
    let parts = and_parts (is_side_of c.kind s) (pointwise (λ (x : Column). is_side_of x.kind) columns sides) h in
    name_below c.kind place has (side_inside c.kind s (pos place) parts.0 held)
name_at (c ∷ columns) (s ∷ sides) (suc column) place h has held =
    name_at columns sides column place (and_parts (is_side_of c.kind s) (pointwise (λ (x : Column). is_side_of x.kind) columns sides) h).1 has held

group_at : (schema : Schema) (box : Region) (column place : ℕ) → is_region_of schema box ≡ true → IsColumnWhere HasNames schema column → allows_name column place box ≡ true →
    IsSomeAnd (slice_get schema.columns column) (λ (c : Column). IsNameOf place c.kind)
unfolding is_region_of
group_at schema box column place h has held = name_at schema.columns box.sides column place h has held

group_named : (schema : Schema) (chosen : Area) (group name : Option ℕ) → IsAreaOf schema chosen → IfSome group (IsColumnWhere HasNames schema) → AllowsName chosen group name → IsGroupName schema group name
group_named schema chosen None name h has allowed = tt
group_named schema chosen (Some column) None h has allowed = tt
group_named schema chosen (Some column) (Some place) h has allowed =
    let found = Any-from_list_any (allows_name column place) chosen.boxes allowed in
    group_at schema found.1 column place (subst (λ (box : Region). is_region_of schema box ≡ true) found.3 (h.each found.0 found.1 found.2)) has found.4

-- ---- a block

tree_says : (schema : Schema) (nodes : List CutNode) (before : Option (List CutNode)) (tree : BlockTree) → IsFormedCutTree schema (record { nodes = nodes }) → nodes_after before tree ≡ Some nodes → IsFormedBlockTree schema tree
tree_says schema nodes before trees.Same formed says = tt
tree_says schema nodes before (trees.Own t) formed says = subst (λ (list : List CutNode). IsFormedCutTree schema (record { nodes = list })) (sym (same_Some t.nodes nodes says)) formed

pub block_formed : (schema : Schema) (observed : List Row) (constraints : List Constraint) (query : Query) (name : Option ℕ) (nodes : List CutNode) (answer : Answer) → IsWellFormed schema → AreConstraints schema constraints → IsQuery schema query →
    HasForm (setting_in schema observed constraints query name nodes) answer → IsUnbroken (setting_in schema observed constraints query name nodes) answer → IsFormedAnswer schema query.agg answer → HasOwnShape schema (shape_of nodes) →
    (before : Option (List CutNode)) (tree : BlockTree) → nodes_after before tree ≡ Some nodes → IsFormedBlock schema (record { query = query; name = name; tree = tree; answer = answer })
block_formed schema observed constraints query name nodes answer formed limited well form unbroken answered own before tree says = record {
  query = well;
  named = form.named;
  name = group_named schema query.chosen query.group name well.chosen well.grouped unbroken.allowed;
  tree = tree_says schema nodes before tree
      (tree_formed schema formed constraints limited.few (area_of (question_in schema observed constraints query name)) nodes
      (record { preorder = form.preorder; proper = unbroken.proper; settled = unbroken.settled }) own) says;
  answer = answered;
}

-- ---- blocks as they are told

all_told_with : (P : Block → Type 0) (block : Block) (nodes : Option (List CutNode)) (later : Option (List CutNode) → List Told) → All (λ (t : Told). P t.block) (told_with block nodes later) → P block × All (λ (t : Told). P t.block) (later nodes)
all_told_with P block None later each = (All-head (λ (t : Told). P t.block) (record { block = block; nodes = [] }) (later None) each, All-tail (λ (t : Told). P t.block) (record { block = block; nodes = [] }) (later None) each)
all_told_with P block (Some nodes) later each = (All-head (λ (t : Told). P t.block) (record { block = block; nodes = nodes }) (later (Some nodes)) each, All-tail (λ (t : Told). P t.block) (record { block = block; nodes = nodes }) (later (Some nodes)) each)

-- what holds of each block as it is told holds of each block
pub all_blocks : (P : Block → Type 0) (blocks : List Block) (before : Option (List CutNode)) → All (λ (t : Told). P t.block) (told_after blocks before) → All P blocks
unfolding told_after
all_blocks P [] before each = All-nil P
all_blocks P (block ∷ blocks) before each =
    let parts = all_told_with P block (nodes_after before block.tree) (told_after blocks) each in
    All-cons P block blocks parts.0 (all_blocks P blocks (nodes_after before block.tree) parts.1)

-- ---- blocks over one tree

module _ (budget : ℕ) (schema : Schema) (observed : List Row) (constraints : List Constraint) (shared : List CutNode) (seen : AllPass (in_domain schema) observed) (own : HasOwnCuts schema shared) where
  each_formed : (ws : List Wanted) (ts : List Told) → AllZip (AnswersWanted budget schema observed constraints) ws ts → AreOfTree shared ts → All (λ (t : Told). IsFormedBlock schema t.block) ts
  each_formed [] [] answers cuts = All-nil (λ (t : Told). IsFormedBlock schema t.block)
  each_formed [] (t ∷ ts) answers cuts = absurd answers
  each_formed (w ∷ ws) [] answers cuts = absurd answers
  each_formed (w ∷ ws) (t ∷ ts) answers cuts =
      let cut = All-head (λ (t : Told). HasCutsAt shared 0 (shape_of t.nodes)) t ts cuts in
      All-cons (λ (t : Told). IsFormedBlock schema t.block) t ts (answers.0.formed seen (own_shape schema shared 0 (shape_of t.nodes) own cut))
      (each_formed ws ts answers.1 (All-tail (λ (t : Told). HasCutsAt shared 0 (shape_of t.nodes)) t ts cuts))

  pub all_formed : (ws : List Wanted) (blocks : List Block) → AllZip (AnswersWanted budget schema observed constraints) ws (told blocks) → AreOfTree shared (told blocks) → All (IsFormedBlock schema) blocks
  all_formed ws blocks answers cuts = all_blocks (IsFormedBlock schema) blocks None (each_formed ws (told blocks) answers cuts)
