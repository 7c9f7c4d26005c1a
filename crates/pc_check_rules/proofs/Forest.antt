-- The trees that a walk still has before it, each with its box, and the verdict on their lines.
use Rattle.std.proofs.Common.{◌≡◌, ℕ, ◌+◌, ℤ, List, [], ◌∷◌, ◌++◌, length, All, Option, Some, None, refl, ap, ◌∙◌, sym, subst, arith, append_assoc}
use Rattle.std.specs.Int.{int_max}
use Rattle.std.proofs.lemmas.Int.{ints, clamps}
use Rattle.std.proofs.lemmas.List.Elements.{All-cons, All-head, All-tail}
use Rattle.pc_model.specs.declared.tree.Mult.{Mult}
use Rattle.pc_model.specs.declared.tree.TreeNode.{TreeNode}
use Rattle.pc_model.specs.declared.tree.TreeNode.TheVariants as nodes
use Rattle.pc_program_bound.specs.declared.program.Program.{Program}
use Rattle.pc_program_bound.specs.Bound.{bound_of, IsMultiplier, IsVoid}
use Rattle.pc_program_bound.specs.SplitTrees.{SplitTree, bound, void, split, size_of, nodes_from, less_caps, more_floors, greater, bound_by}
use Rattle.pc_proof.specs.Setting.{Setting}
use Rattle.pc_proof.specs.Demands.{Placed, Holds, splits, bounds, voids, split_demands, Judges}
use Rattle.pc_check_rules.specs.declared.tree_line.Corner.{Corner}
use Rattle.pc_check_rules.specs.declared.tree_line.Finding.TheVariants as found
use Rattle.pc_check_rules.specs.Lines.{IsOpen, Divides, IsFinding}
use Rattle.pc_check_rules.specs.Walk.{less_part, more_part, rule_number}
use Rattle.pc_check_rules.proofs.Corners.{less-open, more-open}
use Rattle.pc_check_rules.proofs.Verdicts.{judges-further, judges-here}

-- ---- what is left

abbrev pub nodes_left : ℕ → List SplitTree → List TreeNode
nodes_left k [] = []
nodes_left k (t ∷ ts) = nodes_from k t ++ nodes_left (k + size_of t) ts

abbrev pub demands_left : ℕ → Program → List Corner → List SplitTree → List Placed
demands_left line p [] trees = []
demands_left line p (corner ∷ corners) [] = []
demands_left line p (corner ∷ corners) (t ∷ ts) = split_demands line p corner.floors corner.caps t ++ demands_left (line + size_of t) p corners ts

abbrev pub bound_left : Program → List Corner → List SplitTree → Option ℤ
bound_left p [] trees = None
bound_left p (corner ∷ corners) [] = None
bound_left p (corner ∷ corners) (t ∷ ts) = greater (bound_by p corner.floors corner.caps t) (bound_left p corners ts)

-- a verdict on the first demands is that on the others too
abbrev pub Decide : List Placed → List Placed → Type 0
Decide first others = (s : Setting) (verdict : Option (ℕ × ℕ)) → Judges s first verdict → Judges s others verdict

-- the open boxes, the next one first, have the trees of the nodes that are left; the verdict on these is that on the whole
pub record IsWalking (p : Program) (whole : List Placed) (most : Option ℤ) (left : List TreeNode) (place line : ℕ) (corners : List Corner) (so_far : Option ℤ) : Type 0 where
  pub trees : List SplitTree
  pub long : length trees ≡ length corners
  pub left_are : left ≡ nodes_left place trees
  pub decides : Decide (demands_left line p corners trees) whole
  pub bounded : most ≡ greater so_far (bound_left p corners trees)
  pub boxes : All (IsOpen p) corners

-- ---- the greater of bounds

pub greater-none : (a : Option ℤ) → greater a None ≡ a
greater-none None = refl
greater-none (Some x) = refl

greater-assoc : (a b c : Option ℤ) → greater (greater a b) c ≡ greater a (greater b c)
greater-assoc None b c = refl
greater-assoc (Some x) None c = refl
greater-assoc (Some x) (Some y) None = refl
greater-assoc (Some x) (Some y) (Some z) =
    let same : int_max (int_max x y) z ≡ int_max x (int_max y z) = omega (arith, ints, clamps) in ap Some same

-- ---- one line

module _ (p : Program) (whole : List Placed) (most : Option ℤ) (rest : List TreeNode) (place line : ℕ) (corner : Corner) (corners : List Corner) (so_far : Option ℤ) where
  abbrev pub Continues : List Corner → Option ℤ → Type 0
  Continues open_corners bound_so_far = IsWalking p whole most rest (place + 1) (line + 1) open_corners bound_so_far

  abbrev pub ContinuesWith : Option ℤ → Type 0
  ContinuesWith b = Continues corners (greater so_far b)

  after_leaf : (ts : List SplitTree) (d : Placed) (b : Option ℤ) → length ts ≡ length corners → rest ≡ nodes_left (place + 1) ts → ((s : Setting) → Holds s d)
      → Decide (d ∷ demands_left (line + 1) p corners ts) whole → most ≡ greater so_far (greater b (bound_left p corners ts)) → All (IsOpen p) (corner ∷ corners)
      → ContinuesWith b
  after_leaf ts d b long left held decides bounded boxes = record {
    trees = ts;
    long = long;
    left_are = left;
    decides = λ s verdict judged. decides s verdict (judges-further s d (demands_left (line + 1) p corners ts) verdict (held s) judged);
    bounded = bounded ∙ sym (greater-assoc so_far b (bound_left p corners ts));
    boxes = All-tail (IsOpen p) corner corners boxes;
  }

  abbrev pub IsBefore : TreeNode → List SplitTree → Type 0
  IsBefore node trees = (length trees ≡ length (corner ∷ corners)) × (node ∷ rest ≡ nodes_left place trees) × Decide (demands_left line p (corner ∷ corners) trees) whole
      × (most ≡ greater so_far (bound_left p (corner ∷ corners) trees))

  -- the first tree is the leaf or the split of the first node
  pub at_bound : (m : Mult) (trees : List SplitTree) → IsBefore (nodes.Bound m) trees → All (IsOpen p) (corner ∷ corners) → IsMultiplier p m → ContinuesWith (Some (bound_of p corner.floors corner.caps m))
  at_bound m [] before boxes held = absurd (omega (arith, before.0))
  at_bound m (bound n ∷ ts) before boxes held =
      let same : nodes.Bound m ∷ rest ≡ nodes.Bound n ∷ nodes_left (place + 1) ts = before.1 in
      let own : m ≡ n = cc in
      let later : rest ≡ nodes_left (place + 1) ts = cc in
      let long : length ts ≡ length corners = omega (arith, before.0) in
      subst (λ (k : Mult). ContinuesWith (Some (bound_of p corner.floors corner.caps k))) (sym own)
      (after_leaf ts (record { line = line; rule = 8; demand = bounds p n }) (Some (bound_of p corner.floors corner.caps n)) long later (λ s. subst (IsMultiplier p) own held) before.2 before.3 boxes)
  at_bound m (void n ∷ ts) before boxes held =
      let same : nodes.Bound m ∷ rest ≡ nodes.Void n ∷ nodes_left (place + 1) ts = before.1 in absurd cc
  at_bound m (split cell at t u ∷ ts) before boxes held =
      let same : nodes.Bound m ∷ rest ≡ nodes.Split cell at (place + 1) (place + 1 + size_of t) ∷ ((nodes_from (place + 1) t ++ nodes_from (place + 1 + size_of t) u) ++ nodes_left (place + size_of (split cell at t u)) ts) = before.1 in absurd cc

  pub at_void : (m : Mult) (trees : List SplitTree) → IsBefore (nodes.Void m) trees → All (IsOpen p) (corner ∷ corners) → IsVoid p corner.floors corner.caps m → ContinuesWith None
  at_void m [] before boxes held = absurd (omega (arith, before.0))
  at_void m (void n ∷ ts) before boxes held =
      let same : nodes.Void m ∷ rest ≡ nodes.Void n ∷ nodes_left (place + 1) ts = before.1 in
      let own : m ≡ n = cc in
      let later : rest ≡ nodes_left (place + 1) ts = cc in
      let long : length ts ≡ length corners = omega (arith, before.0) in
      after_leaf ts (record { line = line; rule = 8; demand = voids p corner.floors corner.caps n }) None long later (λ s. subst (IsVoid p corner.floors corner.caps) own held) before.2 before.3 boxes
  at_void m (bound n ∷ ts) before boxes held =
      let same : nodes.Void m ∷ rest ≡ nodes.Bound n ∷ nodes_left (place + 1) ts = before.1 in absurd cc
  at_void m (split cell at t u ∷ ts) before boxes held =
      let same : nodes.Void m ∷ rest ≡ nodes.Split cell at (place + 1) (place + 1 + size_of t) ∷ ((nodes_from (place + 1) t ++ nodes_from (place + 1 + size_of t) u) ++ nodes_left (place + size_of (split cell at t u)) ts) = before.1 in absurd cc

  -- the trees of the two parts of a split, and their lines
  in_parts : (cell at : ℕ) (t u : SplitTree) (ts : List SplitTree) → length ts ≡ length corners
      → rest ≡ (nodes_from (place + 1) t ++ nodes_from (place + 1 + size_of t) u) ++ nodes_left (place + size_of (split cell at t u)) ts
      → Decide (demands_left line p (corner ∷ corners) (split cell at t u ∷ ts)) whole → most ≡ greater so_far (bound_left p (corner ∷ corners) (split cell at t u ∷ ts))
      → All (IsOpen p) (corner ∷ corners) → Divides p corner cell at → Continues (less_part corner cell at ∷ more_part corner cell at ∷ corners) so_far
  in_parts cell at t u ts long left decides bounded boxes held =
      let less = less_part corner cell at in
      let more = more_part corner cell at in
      let open_box = All-head (IsOpen p) corner corners boxes in
      let first = split_demands (line + 1) p less.floors less.caps t in
      let second = split_demands (line + 1 + size_of t) p more.floors more.caps u in
      let here : Placed = record { line = line; rule = 7; demand = splits p corner.floors corner.caps cell at } in
      let numbers : place + size_of (split cell at t u) ≡ place + 1 + size_of t + size_of u = omega arith in
      let lines : line + size_of (split cell at t u) ≡ line + 1 + size_of t + size_of u = omega arith in
      let joined : (first ++ second) ++ demands_left (line + size_of (split cell at t u)) p corners ts ≡ demands_left (line + 1) p (less ∷ more ∷ corners) (t ∷ u ∷ ts)
      = append_assoc first second (demands_left (line + size_of (split cell at t u)) p corners ts) ∙ ap (λ k. first ++ (second ++ demands_left k p corners ts)) lines in
      record {
        trees = t ∷ u ∷ ts;
        long = omega (arith, long);
        left_are = left ∙ append_assoc (nodes_from (place + 1) t) (nodes_from (place + 1 + size_of t) u) (nodes_left (place + size_of (split cell at t u)) ts)
            ∙ ap (λ k. nodes_from (place + 1) t ++ (nodes_from (place + 1 + size_of t) u ++ nodes_left k ts)) numbers;
        decides = λ s verdict judged. decides s verdict
            (judges-further s here ((first ++ second) ++ demands_left (line + size_of (split cell at t u)) p corners ts) verdict held
            (subst (λ (ds : List Placed). Judges s ds verdict) (sym joined) judged));
        bounded = bounded ∙ ap (greater so_far) (greater-assoc (bound_by p less.floors less.caps t) (bound_by p more.floors more.caps u) (bound_left p corners ts));
        boxes = All-cons (IsOpen p) less (more ∷ corners) (less-open p corner cell at open_box held)
            (All-cons (IsOpen p) more corners (more-open p corner cell at open_box held) (All-tail (IsOpen p) corner corners boxes));
      }

  pub at_split : (cell at less more : ℕ) (trees : List SplitTree) → IsBefore (nodes.Split cell at less more) trees → All (IsOpen p) (corner ∷ corners) → Divides p corner cell at
      → Continues (less_part corner cell at ∷ more_part corner cell at ∷ corners) so_far
  at_split cell at less more [] before boxes held = absurd (omega (arith, before.0))
  at_split cell at less more (bound n ∷ ts) before boxes held =
      let same : nodes.Split cell at less more ∷ rest ≡ nodes.Bound n ∷ nodes_left (place + 1) ts = before.1 in absurd cc
  at_split cell at less more (void n ∷ ts) before boxes held =
      let same : nodes.Split cell at less more ∷ rest ≡ nodes.Void n ∷ nodes_left (place + 1) ts = before.1 in absurd cc
  at_split cell at less more (split c a t u ∷ ts) before boxes held =
      let same : nodes.Split cell at less more ∷ rest ≡ nodes.Split c a (place + 1) (place + 1 + size_of t) ∷ ((nodes_from (place + 1) t ++ nodes_from (place + 1 + size_of t) u) ++ nodes_left (place + size_of (split c a t u)) ts) = before.1 in
      let own_cell : cell ≡ c = cc in
      let own_at : at ≡ a = cc in
      let later : rest ≡ (nodes_from (place + 1) t ++ nodes_from (place + 1 + size_of t) u) ++ nodes_left (place + size_of (split c a t u)) ts = cc in
      let long : length ts ≡ length corners = omega (arith, before.0) in
      let divides : Divides p corner c a = subst (λ x. Divides p corner x a) own_cell (subst (λ x. Divides p corner cell x) own_at held) in
      let entered = in_parts c a t u ts long later before.2 before.3 boxes divides in
      subst (λ x. Continues (less_part corner x at ∷ more_part corner x at ∷ corners) so_far) (sym own_cell)
      (subst (λ x. Continues (less_part corner c x ∷ more_part corner c x ∷ corners) so_far) (sym own_at) entered)

  -- a line that breaks its rule is the first one
  pub broken_line : (node : TreeNode) (trees : List SplitTree) → IsBefore node trees → IsFinding p corner node found.Broken → (s : Setting) → Judges s whole (Some (line, rule_number node))
  broken_line node [] before broken s = absurd (omega (arith, before.0))
  broken_line (nodes.Bound m) (bound n ∷ ts) before broken s =
      let same : nodes.Bound m ∷ rest ≡ nodes.Bound n ∷ nodes_left (place + 1) ts = before.1 in
      let own : m ≡ n = cc in
      before.2 s (Some (line, 8)) (judges-here s (record { line = line; rule = 8; demand = bounds p n }) (demands_left (line + 1) p corners ts) (λ held. broken (subst (IsMultiplier p) (sym own) held)))
  broken_line (nodes.Bound m) (void n ∷ ts) before broken s =
      let same : nodes.Bound m ∷ rest ≡ nodes.Void n ∷ nodes_left (place + 1) ts = before.1 in absurd cc
  broken_line (nodes.Bound m) (split cell at t u ∷ ts) before broken s =
      let same : nodes.Bound m ∷ rest ≡ nodes.Split cell at (place + 1) (place + 1 + size_of t) ∷ ((nodes_from (place + 1) t ++ nodes_from (place + 1 + size_of t) u) ++ nodes_left (place + size_of (split cell at t u)) ts) = before.1 in absurd cc
  broken_line (nodes.Void m) (void n ∷ ts) before broken s =
      let same : nodes.Void m ∷ rest ≡ nodes.Void n ∷ nodes_left (place + 1) ts = before.1 in
      let own : m ≡ n = cc in
      before.2 s (Some (line, 8)) (judges-here s (record { line = line; rule = 8; demand = voids p corner.floors corner.caps n }) (demands_left (line + 1) p corners ts) (λ held. broken (subst (IsVoid p corner.floors corner.caps) (sym own) held)))
  broken_line (nodes.Void m) (bound n ∷ ts) before broken s =
      let same : nodes.Void m ∷ rest ≡ nodes.Bound n ∷ nodes_left (place + 1) ts = before.1 in absurd cc
  broken_line (nodes.Void m) (split cell at t u ∷ ts) before broken s =
      let same : nodes.Void m ∷ rest ≡ nodes.Split cell at (place + 1) (place + 1 + size_of t) ∷ ((nodes_from (place + 1) t ++ nodes_from (place + 1 + size_of t) u) ++ nodes_left (place + size_of (split cell at t u)) ts) = before.1 in absurd cc
  broken_line (nodes.Split cell at less more) (bound n ∷ ts) before broken s =
      let same : nodes.Split cell at less more ∷ rest ≡ nodes.Bound n ∷ nodes_left (place + 1) ts = before.1 in absurd cc
  broken_line (nodes.Split cell at less more) (void n ∷ ts) before broken s =
      let same : nodes.Split cell at less more ∷ rest ≡ nodes.Void n ∷ nodes_left (place + 1) ts = before.1 in absurd cc
  broken_line (nodes.Split cell at less more) (split c a t u ∷ ts) before broken s =
      let later = (nodes_from (place + 1) t ++ nodes_from (place + 1 + size_of t) u) ++ nodes_left (place + size_of (split c a t u)) ts in
      let same : nodes.Split cell at less more ∷ rest ≡ nodes.Split c a (place + 1) (place + 1 + size_of t) ∷ later = before.1 in
      let own_cell : cell ≡ c = cc in
      let own_at : at ≡ a = cc in
      let first = split_demands (line + 1) p corner.floors (less_caps corner.caps c a) t in
      let second = split_demands (line + 1 + size_of t) p (more_floors corner.floors c a) corner.caps u in
      before.2 s (Some (line, 7)) (judges-here s (record { line = line; rule = 7; demand = splits p corner.floors corner.caps c a }) ((first ++ second) ++ demands_left (line + size_of (split c a t u)) p corners ts)
      (λ held. broken (subst (λ x. Divides p corner x at) (sym own_cell) (subst (λ x. Divides p corner c x) (sym own_at) held))))
