-- Parts of lines stand in a text where those before them end, and so do the lines of trees.
use Rattle.std.proofs.Common.{◌≡◌, ℕ, ◌+◌, List, [], ◌∷◌, ◌++◌, length, All, refl, sym, ap, ◌∙◌, subst, arith, append_assoc}
use Rattle.std.specs.Prelude.{codes}
use Rattle.std.proofs.lemmas.List.{length-append}
use Rattle.std.proofs.lemmas.List.Elements.{All-nil, All-cons, All-append}
use Rattle.pc_model.specs.declared.region.Region.{Region}
use Rattle.pc_model.specs.declared.tree.TreeNode.{TreeNode}
use Rattle.pc_model.specs.declared.tree.TreeNode.TheVariants as nodes
use Rattle.pc_model.specs.declared.tree.CutNode.{CutNode}
use Rattle.pc_model.specs.declared.tree.CutNode.TheVariants as cut_nodes
use Rattle.pc_model.specs.declared.tree.CutTree.{CutTree}
use Rattle.pc_model.specs.declared.tree.Tree.{Tree}
use Rattle.pc_model.specs.declared.schema.Schema.{Schema}
use Rattle.pc_model.specs.CutTrees.{CutShape, leaf, inner, first_part, second_part}
use Rattle.pc_model.specs.CutTrees as cuts
use Rattle.pc_cells_laws.proofs.Trees as cells
use Rattle.pc_program_bound.specs.declared.program.Program.{Program}
use Rattle.pc_program_bound.specs.SplitTrees.{SplitTree, bound, void, split, size_of, nodes_from, tree_of, less_caps, more_floors}
use Rattle.pc_proof.specs.declared.document.BlockTree.TheVariants as trees
use Rattle.pc_proof.specs.declared.document.Block.{Block}
use Rattle.pc_proof.specs.Form.{IsFormedTree}
use Rattle.pc_proof.specs.Demands.{Placed, proper, settled, splits, bounds, voids, cut_demands, split_demands, tree_demands, at_line}
use Rattle.pc_document_format.specs.Formats.{Lines, nodes_text}
use Rattle.pc_document_lines.specs.NodeLines.{node_text, bare}
use Rattle.pc_document_lines.specs.TokenLines.{cut_node_text, bare_cut}
use Rattle.pc_document.specs.DocumentLines.{tree_lines}
use Rattle.pc_document.specs.Statements.{StandIn, IsInPlace, tree_line}
use Rattle.pc_document.proofs.Counting.{nodes_counted}

-- ---- parts of lines

module _ (text : Lines) where
  pub front : (line : ℕ) (a b : Lines) → StandIn text line (a ++ b) → StandIn text line a
  front line a b is = record {
    before = is.before;
    after = b ++ is.after;
    parts = is.parts ∙ ap (λ rest. is.before ++ rest) (append_assoc a b is.after);
    line_is = is.line_is;
  }

  pub back : (line : ℕ) (a b : Lines) → StandIn text line (a ++ b) → StandIn text (line + length a) b
  back line a b is = record {
    before = is.before ++ a;
    after = is.after;
    parts = is.parts ∙ ap (λ rest. is.before ++ rest) (append_assoc a b is.after) ∙ sym (append_assoc is.before a (b ++ is.after));
    line_is = let at = is.line_is in let long = length-append is.before a in omega (arith, at, long);
  }

  pub at : (line other : ℕ) (a : Lines) → line ≡ other → StandIn text line a → StandIn text other a
  at line other a same is = subst (λ k. StandIn text k a) same is

  pub first : (line : ℕ) (x : List ℕ) (b : Lines) → StandIn text line (x ∷ b) → StandIn text line (x ∷ [])
  first line x b is = front line (x ∷ []) b is

  pub rest : (line : ℕ) (x : List ℕ) (b : Lines) → StandIn text line (x ∷ b) → StandIn text (line + 1) b
  rest line x b is = back line (x ∷ []) b is

-- ---- nodes

-- the lines of nodes and of further nodes
nodes_joined : {A : Type 0} (text : A → List ℕ) (xs ys : List A) → nodes_text text (xs ++ ys) ≡ nodes_text text xs ++ nodes_text text ys
nodes_joined text [] ys = refl
nodes_joined text (x ∷ xs) ys = ap (λ more. text x ∷ more) (nodes_joined text xs ys)

pub length-nodes : (t : SplitTree) (k : ℕ) → length (nodes_from k t) ≡ size_of t
length-nodes (bound m) k = refl
length-nodes (void m) k = refl
length-nodes (split cell at t u) k =
    let both = length-append (nodes_from (k + 1) t) (nodes_from (k + 1 + size_of t) u) in
    let one = length-nodes t (k + 1) in
    let two = length-nodes u (k + 1 + size_of t) in
    omega (arith, both, one, two)

-- under the line of a node stand those of two trees
module _ {A : Type 0} (text : Lines) (spelled : A → List ℕ) (line size : ℕ) (x : A) (xs ys : List A) (long : length xs ≡ size) (is : StandIn text line (nodes_text spelled (x ∷ xs ++ ys))) where
  under : StandIn text (line + 1) (nodes_text spelled xs ++ nodes_text spelled ys)
  under = subst (StandIn text (line + 1)) (nodes_joined spelled xs ys) (rest text line (spelled x) (nodes_text spelled (xs ++ ys)) is)

  pub first_nodes : StandIn text (line + 1) (nodes_text spelled xs)
  first_nodes = front text (line + 1) (nodes_text spelled xs) (nodes_text spelled ys) under

  pub second_nodes : StandIn text (line + 1 + size) (nodes_text spelled ys)
  second_nodes =
      let many = nodes_counted spelled xs in
      at text (line + 1 + length (nodes_text spelled xs)) (line + 1 + size) (nodes_text spelled ys) (omega (arith, many, long)) (back text (line + 1) (nodes_text spelled xs) (nodes_text spelled ys) under)

-- ---- trees

module _ (schema : Schema) (b : Block) (text : Lines) where
  abbrev Fits : Placed → Type 0
  Fits = IsInPlace schema b text

  abbrev node_line : TreeNode → List ℕ
  node_line node = node_text (bare node)

  splits_fit : (line k : ℕ) (p : Program) (floors caps : List ℕ) (t : SplitTree) → StandIn text line (nodes_text node_line (nodes_from k t)) → All Fits (split_demands line p floors caps t)
  splits_fit line k p floors caps (bound m) is =
      All-cons Fits (record { line = line; rule = 8; demand = bounds p m }) [] (record { lines = node_text (nodes.Bound m) ∷ []; is = refl; there = is }) (All-nil Fits)
  splits_fit line k p floors caps (void m) is =
      All-cons Fits (record { line = line; rule = 8; demand = voids p floors caps m }) [] (record { lines = node_text (nodes.Void m) ∷ []; is = refl; there = is }) (All-nil Fits)
  splits_fit line k p floors caps (split cell at t u) is =
      let one = split_demands (line + 1) p floors (less_caps caps cell at) t in
      let two = split_demands (line + 1 + size_of t) p (more_floors floors cell at) caps u in
      let node = nodes.Split cell at (k + 1) (k + 1 + size_of t) in
      let xs = nodes_from (k + 1) t in
      let ys = nodes_from (k + 1 + size_of t) u in
      All-cons Fits (record { line = line; rule = 7; demand = splits p floors caps cell at }) (one ++ two)
      (record { lines = node_text (nodes.Split cell at 0 0) ∷ []; is = refl; there = first text line (node_line node) (nodes_text node_line (xs ++ ys)) is })
      (All-append Fits one two
      (splits_fit (line + 1) (k + 1) p floors (less_caps caps cell at) t (first_nodes text node_line line (size_of t) node xs ys (length-nodes t (k + 1)) is))
      (splits_fit (line + 1 + size_of t) (k + 1 + size_of t) p (more_floors floors cell at) caps u (second_nodes text node_line line (size_of t) node xs ys (length-nodes t (k + 1)) is)))

  pub tree_fits : (line : ℕ) (p : Program) (t : Tree) → IsFormedTree t → StandIn text line (tree_lines t) → All Fits (tree_demands line p t)
  tree_fits line p t formed is = splits_fit line 0 p p.floor p.cap (tree_of t.nodes) (subst (λ xs. StandIn text line (nodes_text node_line xs)) formed.preorder is)

  -- ---- trees of cuts

  abbrev cut_line : CutNode → List ℕ
  cut_line node = cut_node_text schema (bare_cut node)

  module _ (t : CutTree) (own : b.tree ≡ trees.Own t) where
    -- a line of the block's own tree
    own_line : (line : List ℕ) → line ∷ [] ≡ tree_line b.tree line
    own_line line = ap (λ tree. tree_line tree line) (sym own)

    pub cuts_fit : (line k : ℕ) (box : Region) (shape : CutShape) → StandIn text line (nodes_text cut_line (cuts.nodes_from k shape)) → All Fits (cut_demands line box shape)
    cuts_fit line k box (leaf mark) is =
        All-cons Fits (record { line = line; rule = 4; demand = settled box mark }) []
        (record { lines = cut_node_text schema (cut_nodes.Leaf mark) ∷ []; is = own_line (cut_node_text schema (cut_nodes.Leaf mark)); there = is }) (All-nil Fits)
    cuts_fit line k box (inner cut t u) is =
        let one = cut_demands (line + 1) (first_part box cut) t in
        let two = cut_demands (line + 1 + cuts.size_of t) (second_part box cut) u in
        let node = cut_nodes.Inner cut (k + 1) (k + 1 + cuts.size_of t) in
        let xs = cuts.nodes_from (k + 1) t in
        let ys = cuts.nodes_from (k + 1 + cuts.size_of t) u in
        let long = cells.length-nodes t (k + 1) in
        All-cons Fits (record { line = line; rule = 3; demand = proper box cut }) (one ++ two)
        (record {
          lines = cut_node_text schema (cut_nodes.Inner cut 0 0) ∷ [];
          is = own_line (cut_node_text schema (cut_nodes.Inner cut 0 0));
          there = first text line (cut_line node) (nodes_text cut_line (xs ++ ys)) is;
        })
        (All-append Fits one two
        (cuts_fit (line + 1) (k + 1) (first_part box cut) t (first_nodes text cut_line line (cuts.size_of t) node xs ys long is))
        (cuts_fit (line + 1 + cuts.size_of t) (k + 1 + cuts.size_of t) (second_part box cut) u (second_nodes text cut_line line (cuts.size_of t) node xs ys long is)))

  module _ (same : b.tree ≡ trees.Same) (line : ℕ) (is : StandIn text line (codes "tree same" ∷ [])) where
    -- all demands on the tree of the block before are in the one line that names it
    abbrev FitsThere : Placed → Type 0
    FitsThere d = Fits (at_line line d)

    same_line : (node : List ℕ) → codes "tree same" ∷ [] ≡ tree_line b.tree node
    same_line node = ap (λ tree. tree_line tree node) (sym same)

    pub same_fits : (from : ℕ) (box : Region) (shape : CutShape) → All FitsThere (cut_demands from box shape)
    same_fits from box (leaf mark) =
        All-cons FitsThere (record { line = from; rule = 4; demand = settled box mark }) []
        (record { lines = codes "tree same" ∷ []; is = same_line (cut_node_text schema (cut_nodes.Leaf mark)); there = is }) (All-nil FitsThere)
    same_fits from box (inner cut t u) =
        let one = cut_demands (from + 1) (first_part box cut) t in
        let two = cut_demands (from + 1 + cuts.size_of t) (second_part box cut) u in
        All-cons FitsThere (record { line = from; rule = 3; demand = proper box cut }) (one ++ two)
        (record { lines = codes "tree same" ∷ []; is = same_line (cut_node_text schema (cut_nodes.Inner cut 0 0)); there = is })
        (All-append FitsThere one two
        (same_fits (from + 1) (first_part box cut) t)
        (same_fits (from + 1 + cuts.size_of t) (second_part box cut) u))
