-- The places of the parts of nodes in preorder are those of the tree that they spell.
use Rattle.std.proofs.Common.{◌≡◌, ℕ, zero, suc, ◌+◌, true, false, List, [], ◌∷◌, ◌++◌, map, length, refl, sym, ap, ◌∙◌, arith, append_assoc}
use Rattle.std.proofs.lemmas.List.{append-nil}
use Rattle.pc_model.specs.declared.schema.Schema.{Schema}
use Rattle.pc_model.specs.declared.tree.Cut.{Cut}
use Rattle.pc_model.specs.declared.tree.CutNode.{CutNode}
use Rattle.pc_model.specs.declared.tree.CutNode.TheVariants as nodes
use Rattle.pc_model.specs.CutTrees.{CutShape, leaf, inner, size_of, nodes_from, joined, shapes_of, first_of_shapes, shape_of}
use Rattle.pc_document_lines.specs.TokenLines.{is_inner, IsBareCut}
use Rattle.pc_document_format.specs.Formats.{AreTrees}
use Rattle.pc_document.specs.Spans.{Trees, span, placed_cut, placed_cuts_from}

-- the nodes of trees one after another, and how many the first so many have
abbrev forest_from : ℕ → List CutShape → List CutNode
forest_from k [] = []
forest_from k (t ∷ ts) = nodes_from k t ++ forest_from (k + size_of t) ts

abbrev sizes : ℕ → List CutShape → ℕ
sizes zero ts = 0
sizes (suc j) [] = 0
sizes (suc j) (t ∷ ts) = size_of t + sizes j ts

-- what so many trees spell
record AreSpelledBy (n : ℕ) (xs : List CutNode) (ts : List CutShape) : Type 0 where
  many : length ts ≡ n
  spans : (j : ℕ) → span j (map is_inner xs) ≡ sizes j ts
  places : (k : ℕ) → placed_cuts_from k xs ≡ forest_from k ts

none_spelled : AreSpelledBy 0 [] []
unfolding span placed_cuts_from
none_spelled = record { many = refl; spans = spans; places = λ k. refl }
  where
    spans : (j : ℕ) → span j [] ≡ sizes j []
    spans zero = refl
    spans (suc j) = refl

-- a leaf before them
leaf_spelled : (node : CutNode) (t : CutShape) (n : ℕ) (xs : List CutNode) (ts : List CutShape) → is_inner node ≡ false → size_of t ≡ 1 → ((k : ℕ) → nodes_from k t ≡ node ∷ [])
    → ((first second : ℕ) → placed_cut first second node ≡ node) → AreSpelledBy n xs ts → AreSpelledBy (suc n) (node ∷ xs) (t ∷ ts)
unfolding span placed_cuts_from
leaf_spelled node t n xs ts bare one alone kept s = record {
  many = ap suc s.many;
  spans = spans;
  places = λ k.
      let here = kept (k + 1) (k + 1 + span 1 (map is_inner xs)) in
      let later = s.places (k + 1) in
      let listed = alone k in
      rw (here, later, listed, one) refl;
}
  where
    spans : (j : ℕ) → span j (map is_inner (node ∷ xs)) ≡ sizes j (t ∷ ts)
    spans zero = refl
    spans (suc j) = let later = s.spans j in rw (bare, one, later) refl

-- two trees made one
inner_spelled : (node : CutNode) (whole t u : CutShape) (n : ℕ) (xs : List CutNode) (ts : List CutShape) → is_inner node ≡ true → size_of whole ≡ 1 + size_of t + size_of u
    → ((k : ℕ) → nodes_from k whole ≡ placed_cut (k + 1) (k + 1 + size_of t) node ∷ nodes_from (k + 1) t ++ nodes_from (k + 1 + size_of t) u)
    → AreSpelledBy (suc (suc n)) xs (t ∷ u ∷ ts) → AreSpelledBy (suc n) (node ∷ xs) (whole ∷ ts)
unfolding span placed_cuts_from
inner_spelled node whole t u n xs ts split size spelled s = record {
  many = let long = s.many in omega arith;
  spans = spans;
  places = places;
}
  where
    spans : (j : ℕ) → span j (map is_inner (node ∷ xs)) ≡ sizes j (whole ∷ ts)
    spans zero = refl
    spans (suc j) = let later = s.spans (suc (suc j)) in rw (split, size, later) (omega arith)

    places : (k : ℕ) → placed_cuts_from k (node ∷ xs) ≡ forest_from k (whole ∷ ts)
    places k =
        let later = s.places (k + 1) in
        let first : span 1 (map is_inner xs) ≡ size_of t = s.spans 1 ∙ omega arith in
        let here = spelled k in
        let after : k + size_of whole ≡ k + 1 + size_of t + size_of u = let is_size = size in omega arith in
        let apart = append_assoc (nodes_from (k + 1) t) (nodes_from (k + 1 + size_of t) u) (forest_from (k + 1 + size_of t + size_of u) ts) in
        rw (later, first, here, after) (ap (λ (rest : List CutNode). placed_cut (k + 1) (k + 1 + size_of t) node ∷ rest) (sym apart))

cut_spelled : (cut : Cut) (first second n : ℕ) (xs : List CutNode) (ts : List CutShape) → AreSpelledBy (suc (suc n)) xs ts → AreSpelledBy (suc n) (nodes.Inner cut first second ∷ xs) (joined cut ts)
cut_spelled cut first second n xs [] s = absurd (omega (arith, s.many))
cut_spelled cut first second n xs (t ∷ []) s = absurd (omega (arith, s.many))
cut_spelled cut first second n xs (t ∷ u ∷ ts) s = inner_spelled (nodes.Inner cut first second) (inner cut t u) t u n xs ts refl refl (λ k. refl) s

are_spelled : (xs : List CutNode) (n : ℕ) → Trees n (map is_inner xs) → AreSpelledBy n xs (shapes_of xs)
unfolding AreTrees
are_spelled [] zero trees = none_spelled
are_spelled [] (suc n) trees = absurd trees
are_spelled (node ∷ xs) zero trees = absurd trees
are_spelled (nodes.Leaf mark ∷ xs) (suc n) trees = leaf_spelled (nodes.Leaf mark) (leaf mark) n xs (shapes_of xs) refl refl (λ k. refl) (λ first second. refl) (are_spelled xs n trees.1)
are_spelled (nodes.Inner cut first second ∷ xs) (suc n) trees = cut_spelled cut first second n xs (shapes_of xs) (are_spelled xs (suc (suc n)) trees.1)

only_tree : (xs : List CutNode) (ts : List CutShape) → AreSpelledBy 1 xs ts → placed_cuts_from 0 xs ≡ nodes_from 0 (first_of_shapes ts)
only_tree xs [] s = absurd (omega (arith, s.many))
only_tree xs (t ∷ []) s = s.places 0 ∙ append-nil (nodes_from 0 t)
only_tree xs (t ∷ u ∷ ts) s = absurd (omega (arith, s.many))

-- which nodes have two parts tells the trees
pub cut_flags_of : (schema : Schema) (xs : List CutNode) (n : ℕ) → AreTrees (IsBareCut schema) is_inner n xs → Trees n (map is_inner xs)
unfolding AreTrees
cut_flags_of schema [] zero trees = trees
cut_flags_of schema [] (suc n) trees = absurd trees
cut_flags_of schema (x ∷ xs) zero trees = absurd trees
cut_flags_of schema (x ∷ xs) (suc n) trees = (tt, cut_flags_of schema xs _ trees.1)

-- the nodes of one tree have the places of its parts
pub placed_cuts_spelled : (schema : Schema) (xs : List CutNode) → AreTrees (IsBareCut schema) is_inner 1 xs → placed_cuts_from 0 xs ≡ nodes_from 0 (shape_of xs)
placed_cuts_spelled schema xs trees = only_tree xs (shapes_of xs) (are_spelled xs 1 (cut_flags_of schema xs 1 trees))
