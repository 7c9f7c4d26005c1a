-- The lines of trees ask what is asked of the trees.
use Rattle.std.proofs.Common.{ℕ, ◌+◌, List, [], All}
use Rattle.std.proofs.lemmas.List.Elements.{All-nil, All-cons, All-head, All-append}
use Rattle.pc_model.specs.declared.region.Region.{Region}
use Rattle.pc_model.specs.declared.tree.Cut.{Cut}
use Rattle.pc_model.specs.declared.tree.Leaf.{Leaf}
use Rattle.pc_model.specs.declared.tree.LeafMark.{LeafMark}
use Rattle.pc_model.specs.declared.tree.Tree.{Tree}
use Rattle.pc_model.specs.CutTrees.{CutShape, leaf, inner, first_part, second_part, leaves_of, HasProperCuts}
use Rattle.pc_model.specs.CutTrees as cuts
use Rattle.pc_model.specs.Cells.{IsSettled}
use Rattle.pc_program_bound.specs.declared.program.Program.{Program}
use Rattle.pc_program_bound.specs.SplitTrees.{SplitTree, bound, void, split, size_of, tree_of, less_caps, more_floors, Proves}
use Rattle.pc_proof.specs.Setting.{Setting, area_of}
use Rattle.pc_proof.specs.Demands.{Placed, Holds, proper, settled, splits, bounds, voids, cut_demands, split_demands, tree_demands}
use Rattle.pc_proof.proofs.Parts.{All-front, All-back, one-holds, the-one, parts-hold, the-parts}

module _ (s : Setting) where
  -- ---- trees of cuts

  abbrev IsFit : Leaf → Type 0
  IsFit = IsSettled s.question.constraints (area_of s.question)

  abbrev leaf_line : ℕ → Region → LeafMark → Placed
  leaf_line line box mark = record { line = line; rule = 4; demand = settled box mark }

  abbrev cut_line : ℕ → Region → Cut → Placed
  cut_line line box cut = record { line = line; rule = 3; demand = proper box cut }

  abbrev first_cuts : ℕ → Region → Cut → CutShape → List Placed
  first_cuts line box cut t = cut_demands (line + 1) (first_part box cut) t

  abbrev second_cuts : ℕ → Region → Cut → CutShape → CutShape → List Placed
  second_cuts line box cut t u = cut_demands (line + 1 + cuts.size_of t) (second_part box cut) u

  pub proper-from_demands : (line : ℕ) (box : Region) (t : CutShape) → All (Holds s) (cut_demands line box t) → HasProperCuts box t
  proper-from_demands line box (leaf mark) all = tt
  proper-from_demands line box (inner cut t u) all =
      let parts = the-parts s (cut_line line box cut) (first_cuts line box cut t) (second_cuts line box cut t u) all in
      (parts.0, proper-from_demands (line + 1) (first_part box cut) t parts.1, proper-from_demands (line + 1 + cuts.size_of t) (second_part box cut) u parts.2)

  pub settled-from_demands : (line : ℕ) (box : Region) (t : CutShape) → All (Holds s) (cut_demands line box t) → All IsFit (leaves_of box t)
  settled-from_demands line box (leaf mark) all =
      All-cons IsFit (record { region = box; mark = mark }) [] (the-one s (leaf_line line box mark) all) (All-nil IsFit)
  settled-from_demands line box (inner cut t u) all =
      let parts = the-parts s (cut_line line box cut) (first_cuts line box cut t) (second_cuts line box cut t u) all in
      All-append IsFit (leaves_of (first_part box cut) t) (leaves_of (second_part box cut) u)
      (settled-from_demands (line + 1) (first_part box cut) t parts.1)
      (settled-from_demands (line + 1 + cuts.size_of t) (second_part box cut) u parts.2)

  pub demands-from_cuts : (line : ℕ) (box : Region) (t : CutShape) → HasProperCuts box t → All IsFit (leaves_of box t) → All (Holds s) (cut_demands line box t)
  demands-from_cuts line box (leaf mark) cut fit =
      one-holds s (leaf_line line box mark) (All-head IsFit (record { region = box; mark = mark }) [] fit)
  demands-from_cuts line box (inner cut t u) proper_cuts fit =
      parts-hold s (cut_line line box cut) (first_cuts line box cut t) (second_cuts line box cut t u) proper_cuts.0
      (demands-from_cuts (line + 1) (first_part box cut) t proper_cuts.1
      (All-front IsFit (leaves_of (first_part box cut) t) (leaves_of (second_part box cut) u) fit))
      (demands-from_cuts (line + 1 + cuts.size_of t) (second_part box cut) u proper_cuts.2
      (All-back IsFit (leaves_of (first_part box cut) t) (leaves_of (second_part box cut) u) fit))

  -- ---- search trees

  pub demands-from_splits : (line : ℕ) (p : Program) (floors caps : List ℕ) (t : SplitTree) → Proves p floors caps t → All (Holds s) (split_demands line p floors caps t)
  demands-from_splits line p floors caps (bound m) proves = one-holds s (record { line = line; rule = 8; demand = bounds p m }) proves
  demands-from_splits line p floors caps (void m) proves = one-holds s (record { line = line; rule = 8; demand = voids p floors caps m }) proves
  demands-from_splits line p floors caps (split cell at t u) proves =
      parts-hold s (record { line = line; rule = 7; demand = splits p floors caps cell at })
      (split_demands (line + 1) p floors (less_caps caps cell at) t)
      (split_demands (line + 1 + size_of t) p (more_floors floors cell at) caps u)
      (proves.0, proves.1, proves.2)
      (demands-from_splits (line + 1) p floors (less_caps caps cell at) t proves.3)
      (demands-from_splits (line + 1 + size_of t) p (more_floors floors cell at) caps u proves.4)

  pub demands-from_tree : (line : ℕ) (p : Program) (t : Tree) → Proves p p.floor p.cap (tree_of t.nodes) → All (Holds s) (tree_demands line p t)
  demands-from_tree line p t proves = demands-from_splits line p p.floor p.cap (tree_of t.nodes) proves
