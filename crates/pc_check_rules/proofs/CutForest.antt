-- The trees of cuts that a walk still has before it, each with its box, and the verdict on their lines.
use Rattle.std.proofs.Common.{◌≡◌, ℕ, ◌+◌, List, [], ◌∷◌, ◌++◌, length, All, Option, Some, ap, ◌∙◌, sym, subst, arith, append_assoc}
use Rattle.std.proofs.lemmas.List.Elements.{All-cons, All-head, All-tail}
use Rattle.pc_model.specs.declared.region.Region.{Region}
use Rattle.pc_model.specs.declared.area.Area.{Area}
use Rattle.pc_model.specs.declared.constraint.Constraint.{Constraint}
use Rattle.pc_model.specs.declared.tree.Cut.{Cut}
use Rattle.pc_model.specs.declared.tree.LeafMark.{LeafMark}
use Rattle.pc_model.specs.declared.tree.Leaf.{Leaf}
use Rattle.pc_model.specs.declared.tree.CutNode.{CutNode}
use Rattle.pc_model.specs.declared.tree.CutNode.TheVariants as nodes
use Rattle.pc_model.specs.CutTrees.{CutShape, leaf, inner, size_of, nodes_from, leaves_of, first_part, second_part, IsProper}
use Rattle.pc_model.specs.Cells.{IsSettledAs}
use Rattle.pc_proof.specs.Setting.{Setting, area_of}
use Rattle.pc_proof.specs.Demands.{Placed, proper, settled, cut_demands, Judges}
use Rattle.pc_check_rules.specs.CutLines.{IsComparable}
use Rattle.pc_check_rules.specs.Cuts.{IsAsked, rule_of_cut, IsKept}
use Rattle.pc_check_rules.proofs.Comparable.{first_comparable, second_comparable}
use Rattle.pc_check_rules.proofs.Verdicts.{judges-further, judges-here}

-- ---- what is left

abbrev pub nodes_left : ℕ → List CutShape → List CutNode
nodes_left k [] = []
nodes_left k (t ∷ ts) = nodes_from k t ++ nodes_left (k + size_of t) ts

abbrev pub demands_left : ℕ → List Region → List CutShape → List Placed
demands_left line [] trees = []
demands_left line (part ∷ parts) [] = []
demands_left line (part ∷ parts) (t ∷ ts) = cut_demands line part t ++ demands_left (line + size_of t) parts ts

abbrev pub leaves_left : List Region → List CutShape → List Leaf
leaves_left [] trees = []
leaves_left (part ∷ parts) [] = []
leaves_left (part ∷ parts) (t ∷ ts) = leaves_of part t ++ leaves_left parts ts

-- a verdict on the first demands is that on the others too
abbrev pub Decide : List Constraint → Area → List Placed → List Placed → Type 0
Decide constraints area first others = (s : Setting) → IsAsked constraints area s → (verdict : Option (ℕ × ℕ)) → Judges s first verdict → Judges s others verdict

-- the open boxes, the next one first, have the trees of the nodes that are left; the verdict on these is that on the whole
pub record IsCutWalk (constraints : List Constraint) (area : Area) (whole : List Placed) (all : List Leaf) (left : List CutNode) (place line : ℕ) (parts : List Region) (so_far : List Leaf) : Type 0 where
  pub trees : List CutShape
  pub long : length trees ≡ length parts
  pub left_are : left ≡ nodes_left place trees
  pub decides : Decide constraints area (demands_left line parts trees) whole
  pub gathered : all ≡ so_far ++ leaves_left parts trees
  pub boxes : All (IsComparable constraints area) parts

-- a leaf of a question that is asked is settled as the mark says
pub holds_leaf : (constraints : List Constraint) (area : Area) (part : Region) (mark : LeafMark) (s : Setting) → IsAsked constraints area s → IsSettledAs constraints area part mark
    → IsSettledAs s.question.constraints (area_of s.question) part mark
holds_leaf constraints area part mark s asked held =
    subst (λ (cs : List Constraint). IsSettledAs cs (area_of s.question) part mark) (sym asked.constraints_are)
    (subst (λ (a : Area). IsSettledAs constraints a part mark) (sym asked.area_is) held)

pub leaf_holds : (constraints : List Constraint) (area : Area) (part : Region) (mark : LeafMark) (s : Setting) → IsAsked constraints area s
    → IsSettledAs s.question.constraints (area_of s.question) part mark → IsSettledAs constraints area part mark
leaf_holds constraints area part mark s asked held =
    subst (λ (a : Area). IsSettledAs constraints a part mark) asked.area_is
    (subst (λ (cs : List Constraint). IsSettledAs cs (area_of s.question) part mark) asked.constraints_are held)

-- ---- one line

module _ (constraints : List Constraint) (area : Area) (whole : List Placed) (all : List Leaf) (rest : List CutNode) (place line : ℕ) (part : Region) (parts : List Region) (so_far : List Leaf) where
  abbrev pub Continues : List Region → List Leaf → Type 0
  Continues open_parts found = IsCutWalk constraints area whole all rest (place + 1) (line + 1) open_parts found

  abbrev pub IsBefore : CutNode → List CutShape → Type 0
  IsBefore node trees = (length trees ≡ length (part ∷ parts)) × (node ∷ rest ≡ nodes_left place trees) × Decide constraints area (demands_left line (part ∷ parts) trees) whole
      × (all ≡ so_far ++ leaves_left (part ∷ parts) trees)

  -- the nodes after a cut
  abbrev pub behind : Cut → CutShape → CutShape → List CutShape → List CutNode
  behind cut t u ts = (nodes_from (place + 1) t ++ nodes_from (place + 1 + size_of t) u) ++ nodes_left (place + size_of (inner cut t u)) ts

  abbrev pub cut_node : Cut → CutShape → CutNode
  cut_node cut t = nodes.Inner cut (place + 1) (place + 1 + size_of t)

  pub at_leaf : (mark : LeafMark) (trees : List CutShape) → IsBefore (nodes.Leaf mark) trees → All (IsComparable constraints area) (part ∷ parts) → IsSettledAs constraints area part mark
      → Continues parts (so_far ++ record { region = part; mark = mark } ∷ [])
  at_leaf mark [] before boxes held = absurd (omega (arith, before.0))
  at_leaf mark (leaf own ∷ ts) before boxes held =
      let same : nodes.Leaf mark ∷ rest ≡ nodes.Leaf own ∷ nodes_left (place + 1) ts = before.1 in
      let is_own : mark ≡ own = cc in
      let later : rest ≡ nodes_left (place + 1) ts = cc in
      let here : Placed = record { line = line; rule = 4; demand = settled part own } in
      record {
        trees = ts;
        long = omega (arith, before.0);
        left_are = later;
        decides = λ s asked verdict judged. before.2 s asked verdict
            (judges-further s here (demands_left (line + 1) parts ts) verdict (holds_leaf constraints area part own s asked (subst (IsSettledAs constraints area part) is_own held)) judged);
        gathered = before.3 ∙ sym (append_assoc so_far (record { region = part; mark = own } ∷ []) (leaves_left parts ts))
            ∙ ap (λ (m : LeafMark). (so_far ++ record { region = part; mark = m } ∷ []) ++ leaves_left parts ts) (sym is_own);
        boxes = All-tail (IsComparable constraints area) part parts boxes;
      }
  at_leaf mark (inner cut t u ∷ ts) before boxes held =
      let same : nodes.Leaf mark ∷ rest ≡ cut_node cut t ∷ behind cut t u ts = before.1 in absurd cc

  in_parts : (cut : Cut) (t u : CutShape) (ts : List CutShape) → length ts ≡ length parts → rest ≡ behind cut t u ts
      → Decide constraints area (demands_left line (part ∷ parts) (inner cut t u ∷ ts)) whole → all ≡ so_far ++ leaves_left (part ∷ parts) (inner cut t u ∷ ts)
      → All (IsComparable constraints area) (part ∷ parts) → IsProper part cut → Continues (first_part part cut ∷ second_part part cut ∷ parts) so_far
  in_parts cut t u ts long left decides gathered boxes held =
      let first = first_part part cut in
      let second = second_part part cut in
      let fits = All-head (IsComparable constraints area) part parts boxes in
      let first_lines = cut_demands (line + 1) first t in
      let second_lines = cut_demands (line + 1 + size_of t) second u in
      let last_lines = demands_left (line + size_of (inner cut t u)) parts ts in
      let here : Placed = record { line = line; rule = 3; demand = proper part cut } in
      let numbers : place + size_of (inner cut t u) ≡ place + 1 + size_of t + size_of u = omega arith in
      let lines : line + size_of (inner cut t u) ≡ line + 1 + size_of t + size_of u = omega arith in
      let joined : (first_lines ++ second_lines) ++ last_lines ≡ demands_left (line + 1) (first ∷ second ∷ parts) (t ∷ u ∷ ts)
      = append_assoc first_lines second_lines last_lines ∙ ap (λ k. first_lines ++ (second_lines ++ demands_left k parts ts)) lines in
      record {
        trees = t ∷ u ∷ ts;
        long = omega (arith, long);
        left_are = left ∙ append_assoc (nodes_from (place + 1) t) (nodes_from (place + 1 + size_of t) u) (nodes_left (place + size_of (inner cut t u)) ts)
            ∙ ap (λ k. nodes_from (place + 1) t ++ (nodes_from (place + 1 + size_of t) u ++ nodes_left k ts)) numbers;
        decides = λ s asked verdict judged. decides s asked verdict
            (judges-further s here ((first_lines ++ second_lines) ++ last_lines) verdict held (subst (λ (ds : List Placed). Judges s ds verdict) (sym joined) judged));
        gathered = gathered ∙ ap (λ (found : List Leaf). so_far ++ found) (append_assoc (leaves_of first t) (leaves_of second u) (leaves_left parts ts));
        boxes = All-cons (IsComparable constraints area) first (second ∷ parts) (first_comparable constraints area part cut fits held)
            (All-cons (IsComparable constraints area) second parts (second_comparable constraints area part cut fits held) (All-tail (IsComparable constraints area) part parts boxes));
      }

  pub at_cut : (cut : Cut) (one two : ℕ) (trees : List CutShape) → IsBefore (nodes.Inner cut one two) trees → All (IsComparable constraints area) (part ∷ parts) → IsProper part cut
      → Continues (first_part part cut ∷ second_part part cut ∷ parts) so_far
  at_cut cut one two [] before boxes held = absurd (omega (arith, before.0))
  at_cut cut one two (leaf own ∷ ts) before boxes held =
      let same : nodes.Inner cut one two ∷ rest ≡ nodes.Leaf own ∷ nodes_left (place + 1) ts = before.1 in absurd cc
  at_cut cut one two (inner own t u ∷ ts) before boxes held =
      let same : nodes.Inner cut one two ∷ rest ≡ cut_node own t ∷ behind own t u ts = before.1 in
      let is_own : cut ≡ own = cc in
      let later : rest ≡ behind own t u ts = cc in
      let long : length ts ≡ length parts = omega (arith, before.0) in
      subst (λ (x : Cut). Continues (first_part part x ∷ second_part part x ∷ parts) so_far) (sym is_own)
      (in_parts own t u ts long later before.2 before.3 boxes (subst (IsProper part) is_own held))

  -- a line that breaks its rule is the first one
  pub broken_line : (node : CutNode) (trees : List CutShape) → IsBefore node trees → (IsKept constraints area part node → ⊥) → (s : Setting) → IsAsked constraints area s
      → Judges s whole (Some (line, rule_of_cut node))
  broken_line node [] before broken s asked = absurd (omega (arith, before.0))
  broken_line (nodes.Leaf mark) (leaf own ∷ ts) before broken s asked =
      let same : nodes.Leaf mark ∷ rest ≡ nodes.Leaf own ∷ nodes_left (place + 1) ts = before.1 in
      let is_own : mark ≡ own = cc in
      before.2 s asked (Some (line, 4)) (judges-here s (record { line = line; rule = 4; demand = settled part own }) (demands_left (line + 1) parts ts)
      (λ held. broken (subst (IsSettledAs constraints area part) (sym is_own) (leaf_holds constraints area part own s asked held))))
  broken_line (nodes.Leaf mark) (inner cut t u ∷ ts) before broken s asked =
      let same : nodes.Leaf mark ∷ rest ≡ cut_node cut t ∷ behind cut t u ts = before.1 in absurd cc
  broken_line (nodes.Inner cut one two) (leaf own ∷ ts) before broken s asked =
      let same : nodes.Inner cut one two ∷ rest ≡ nodes.Leaf own ∷ nodes_left (place + 1) ts = before.1 in absurd cc
  broken_line (nodes.Inner cut one two) (inner own t u ∷ ts) before broken s asked =
      let same : nodes.Inner cut one two ∷ rest ≡ cut_node own t ∷ behind own t u ts = before.1 in
      let is_own : cut ≡ own = cc in
      let first_lines = cut_demands (line + 1) (first_part part own) t in
      let second_lines = cut_demands (line + 1 + size_of t) (second_part part own) u in
      before.2 s asked (Some (line, 3)) (judges-here s (record { line = line; rule = 3; demand = proper part own }) ((first_lines ++ second_lines) ++ demands_left (line + size_of (inner own t u)) parts ts)
      (λ held. broken (subst (IsProper part) (sym is_own) held)))
