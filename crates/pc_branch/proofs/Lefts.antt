-- What a search shows that leaves something open.
use Rattle.std.proofs.Common.{◌≡◌, ℕ, ◌+◌, ◌<◌, List, Option, Some, None, MatchOption, sym, ap, subst, ◌∙◌, arith, ◌⊎◌, inl, inr}
use Rattle.std.specs.Prelude.{ℤ, ◌≤ℤ◌, ◌<ℤ◌}
use Rattle.pc_num.specs.declared.Frac.{Frac}
use Rattle.pc_model.specs.declared.tree.Mult.{Mult}
use Rattle.pc_program_bound.specs.declared.program.Program.{Program}
use Rattle.pc_program_bound.specs.Allocation.{IsBox, IsProgram, IsAllocation, worth}
use Rattle.pc_program_bound.specs.Bound.{bound_of, HasFitWidth}
use Rattle.pc_program_bound.specs.SplitTrees.{less_caps, more_floors}
use Rattle.pc_simplex_tableau.specs.Point.{Relaxation, vertex, void, wide, stalled, IsRelaxation}
use Rattle.pc_simplex.proofs.Vertices.{one_relaxation}
use Rattle.pc_frontier.specs.Frontier.{Seen}
use Rattle.pc_frontier.specs.Boxes.{Grown, leaf, split, IsLeaf, HasLeaf}
use Rattle.pc_branch.specs.Licence.{IsWhole, IsStuck, IsOpen, fractional, too_wide, too_long, HasOpen, HoldsWholePoints, no_multipliers, first_bound, nodes_of}
use Rattle.pc_branch.specs.Outcome.{splits_of, AreInherited, IsSpent}
use Rattle.pc_branch.specs.Searching.{IsHeldAs, IsSearching, IsFound}
use Rattle.pc_branch.specs.Ends.{IsLeft}
use Rattle.pc_branch.specs.declared.visited.Known.{Known}
use Rattle.pc_branch.specs.declared.visited.Known.TheVariants as knowns
use Rattle.pc_branch.specs.declared.visited.Visited.{Visited}
use Rattle.pc_branch.specs.Grown.{visited_at, IsKnownAs, IsVisited, IsParted, IsStuckKnown, leaf_as, proof_of}
use Rattle.pc_branch.proofs.Leaves.{IsLeafAt, IsSplitPlace, from_start}
use Rattle.pc_branch.proofs.Proofs.{IsProofTree-search, nodes_of-search}
use Rattle.pc_branch.proofs.Levels.{IsMost-search, bound_by-at_most}

-- ---- a leaf: what its relaxation is, no other is

module _ (p : Program) (program : IsProgram p) (floors caps : List ℕ) (box : IsBox p floors caps) where
  -- a box has one relaxation
  vertex-not_stuck : (point : List Frac) (mult : Mult) → IsRelaxation p floors caps (vertex point mult) → (r : Relaxation) → IsRelaxation p floors caps r → IsStuck r → ⊥
  vertex-not_stuck point mult h r there stuck = subst IsStuck (one_relaxation p floors caps program box r (vertex point mult) there h) stuck

  void-not_stuck : (mult : Mult) → IsRelaxation p floors caps (void mult) → (r : Relaxation) → IsRelaxation p floors caps r → IsStuck r → ⊥
  void-not_stuck mult h r there stuck = subst IsStuck (one_relaxation p floors caps program box r (void mult) there h) stuck

  void-no_vertex : (point : List Frac) (mult other : Mult) → IsRelaxation p floors caps (void other) → IsRelaxation p floors caps (vertex point mult) → ⊥
  void-no_vertex point mult other h there = let e = one_relaxation p floors caps program box (void other) (vertex point mult) h there in cc

  same_point : (a b : List Frac) (m n : Mult) → IsRelaxation p floors caps (vertex a m) → IsRelaxation p floors caps (vertex b n) → a ≡ b
  same_point a b m n h k = let e = one_relaxation p floors caps program box (vertex a m) (vertex b n) h k in cc

  same_mult : (a b : List Frac) (m n : Mult) → IsRelaxation p floors caps (vertex a m) → IsRelaxation p floors caps (vertex b n) → m ≡ n
  same_mult a b m n h k = let e = one_relaxation p floors caps program box (vertex a m) (vertex b n) h k in cc

  leaf_as-inherits : (above : Mult) (limit : ℤ) (known : Known) (mult : Mult) (bound : ℤ) → IsKnownAs p above limit floors caps known mult bound
      → AreInherited p above floors caps (leaf_as known mult)
  leaf_as-inherits above limit knowns.Nothing mult bound h = void-not_stuck mult h
  leaf_as-inherits above limit knowns.Whole mult bound h = λ r there stuck. absurd (vertex-not_stuck h.point mult h.relaxed r there stuck)
  leaf_as-inherits above limit (knowns.Parted cell at) mult bound h = λ r there stuck. absurd (vertex-not_stuck h.point mult h.relaxed r there stuck)
  leaf_as-inherits above limit knowns.Stuck mult bound h = λ r there stuck. h.mult_is

  leaf_as-holds : (found : Option (List ℕ)) (above : Mult) (limit : ℤ) (known : Known) (mult : Mult) (bound : ℤ) → IsKnownAs p above limit floors caps known mult bound
      → IsHeldAs p found known bound → HoldsWholePoints p found floors caps (splits_of (leaf_as known mult))
  leaf_as-holds found above limit knowns.Nothing mult bound h held = λ point other there is_whole. absurd (void-no_vertex point other mult h there)
  leaf_as-holds found above limit knowns.Whole mult bound h held = λ point other there is_whole.
      subst (λ (x : ℤ). MatchOption found ⊥ (λ counts. x ≤ℤ worth p counts))
      (h.bound_is ∙ ap (bound_of p floors caps) (same_mult h.point point mult other h.relaxed there)) held
  leaf_as-holds found above limit (knowns.Parted cell at) mult bound h held = λ point other there is_whole.
      absurd (h.parted.parted (subst IsWhole (same_point point h.point other mult there h.relaxed) is_whole cell))
  leaf_as-holds found above limit knowns.Stuck mult bound h held = λ point other there is_whole. absurd (vertex-not_stuck point other there h.relaxation h.relaxed h.stuck)

-- ---- the open leaf

-- why the leaf was left, and its bound
left_open : (p : Program) (spent : Type 0) (above : Mult) (limit : ℤ) (floors caps : List ℕ) (e : ℤ) (known : Known) (mult : Mult) (bound : ℤ)
    → IsKnownAs p above limit floors caps known mult bound → bound ≡ e → IsStuckKnown known ⊎ (IsParted known × spent) → IsOpen p spent limit floors caps e
left_open p spent above limit floors caps e (knowns.Parted cell at) mult bound h is why = elim why [
  | inl stuck ↦ absurd stuck
  | inr parted ↦ fractional h.point mult h.relaxed (λ is_whole. h.parted.parted (is_whole cell)) parted.1 (sym is ∙ h.bound_is)
]
left_open p spent above limit floors caps e knowns.Stuck mult bound h is why = stuck_open h.relaxation h.relaxed h.stuck
  where
    stuck_open : (r : Relaxation) → IsRelaxation p floors caps r → IsStuck r → IsOpen p spent limit floors caps e
    stuck_open (wide steps) there stuck = too_wide steps there (sym is ∙ h.bound_is)
    stuck_open (stalled steps) there stuck = too_long steps there (sym is ∙ h.bound_is)
    stuck_open (vertex point by) there stuck = absurd stuck
    stuck_open (void by) there stuck = absurd stuck
left_open p spent above limit floors caps e knowns.Nothing mult bound h is why = elim why [ inl stuck ↦ absurd stuck | inr parted ↦ absurd parted.0 ]
left_open p spent above limit floors caps e knowns.Whole mult bound h is why = elim why [ inl stuck ↦ absurd stuck | inr parted ↦ absurd parted.0 ]

leaf_as-open : (p : Program) (spent : Type 0) (limit e : ℤ) (floors caps : List ℕ) (known : Known) (mult : Mult) → IsOpen p spent limit floors caps e
    → HasOpen p spent e limit floors caps (splits_of (leaf_as known mult))
leaf_as-open p spent limit e floors caps knowns.Nothing mult h = h
leaf_as-open p spent limit e floors caps knowns.Whole mult h = h
leaf_as-open p spent limit e floors caps (knowns.Parted cell at) mult h = h
leaf_as-open p spent limit e floors caps knowns.Stuck mult h = h

-- ---- a search

module _ (p : Program) (budget : ℕ) (f : Seen) (visited : List Visited) (found : Option (List ℕ)) (halted : Option ℤ) (hand : List ℕ) (e : ℤ)
    (s : IsSearching p budget f visited found halted hand e) (program : IsProgram p) (width : HasFitWidth p (no_multipliers p)) where
  leaf-inherits : (above : Mult) (limit : ℤ) (floors caps : List ℕ) (n : ℕ) → IsLeafAt p f.nodes visited above limit floors caps n
      → AreInherited p above floors caps (proof_of visited (leaf n))
  leaf-inherits above limit floors caps n h =
      let v = visited_at visited n in
      leaf_as-inherits p program floors caps h.box above limit v.known v.mult v.bound h.says.known

  split-inherits : (above : Mult) (limit : ℤ) (floors caps : List ℕ) (n cell at : ℕ) (t u : Grown) → IsSplitPlace p f.nodes visited floors caps n cell at
      → AreInherited p (visited_at visited n).mult floors (less_caps caps cell at) (proof_of visited t)
      → AreInherited p (visited_at visited n).mult (more_floors floors cell at) caps (proof_of visited u)
      → AreInherited p above floors caps (proof_of visited (split n cell at t u))
  split-inherits above limit floors caps n cell at t u h less more = (h.parting.point, (visited_at visited n).mult, h.parting.relaxed, less, more)

  tree-inherits : AreInherited p (no_multipliers p) p.floor p.cap (proof_of visited s.tree)
  tree-inherits =
      from_start p f.nodes visited program (λ above limit floors caps g. AreInherited p above floors caps (proof_of visited g)) leaf-inherits split-inherits
      s.tree width s.grown s.is_tree.grown

  leaf-holds : (above : Mult) (limit : ℤ) (floors caps : List ℕ) (n : ℕ) → IsLeafAt p f.nodes visited above limit floors caps n
      → HoldsWholePoints p found floors caps (splits_of (proof_of visited (leaf n)))
  leaf-holds above limit floors caps n h =
      let v = visited_at visited n in
      leaf_as-holds p program floors caps h.box found above limit v.known v.mult v.bound h.says.known (s.leaves n h.there).held

  split-holds : (above : Mult) (limit : ℤ) (floors caps : List ℕ) (n cell at : ℕ) (t u : Grown) → IsSplitPlace p f.nodes visited floors caps n cell at
      → HoldsWholePoints p found floors (less_caps caps cell at) (splits_of (proof_of visited t))
      → HoldsWholePoints p found (more_floors floors cell at) caps (splits_of (proof_of visited u))
      → HoldsWholePoints p found floors caps (splits_of (proof_of visited (split n cell at t u)))
  split-holds above limit floors caps n cell at t u h less more = (less, more)

  tree-holds : HoldsWholePoints p found p.floor p.cap (splits_of (proof_of visited s.tree))
  tree-holds =
      from_start p f.nodes visited program (λ above limit floors caps g. HoldsWholePoints p found floors caps (splits_of (proof_of visited g))) leaf-holds split-holds
      s.tree width s.grown s.is_tree.grown

  module _ (spent : Type 0) (n : ℕ) (is : (visited_at visited n).bound ≡ e)
      (why : IsStuckKnown (visited_at visited n).known ⊎ (IsParted (visited_at visited n).known × spent)) where
    -- the leaf n is open wherever it stands
    abbrev IsLeftAt : ℤ → List ℕ → List ℕ → Grown → Type 0
    IsLeftAt limit floors caps g = HasLeaf n g → HasOpen p spent e limit floors caps (splits_of (proof_of visited g))

    leaf-left : (above : Mult) (limit : ℤ) (floors caps : List ℕ) (k : ℕ) → IsLeafAt p f.nodes visited above limit floors caps k → IsLeftAt limit floors caps (leaf k)
    leaf-left above limit floors caps k h same =
        let v = visited_at visited n in
        let says = subst (λ (k : ℕ). IsVisited p above limit floors caps (visited_at visited k)) same h.says in
        subst (λ (k : ℕ). HasOpen p spent e limit floors caps (splits_of (proof_of visited (leaf k)))) (sym same)
        (leaf_as-open p spent limit e floors caps v.known v.mult (left_open p spent above limit floors caps e v.known v.mult v.bound says.known is why))

    split-left : (above : Mult) (limit : ℤ) (floors caps : List ℕ) (k cell at : ℕ) (t u : Grown) → IsSplitPlace p f.nodes visited floors caps k cell at
        → IsLeftAt (visited_at visited k).bound floors (less_caps caps cell at) t → IsLeftAt (visited_at visited k).bound (more_floors floors cell at) caps u
        → IsLeftAt limit floors caps (split k cell at t u)
    split-left above limit floors caps k cell at t u h less more there =
        let m = (visited_at visited k).mult in (
          h.parting.point,
          m,
          h.parting.relaxed,
          elim there [
            | inl one ↦ inl (subst (λ (b : ℤ). HasOpen p spent e b floors (less_caps caps cell at) (splits_of (proof_of visited t))) h.parting.bound_is (less one))
            | inr other ↦ inr (subst (λ (b : ℤ). HasOpen p spent e b (more_floors floors cell at) caps (splits_of (proof_of visited u))) h.parting.bound_is (more other))
          ],
        )

    tree-left : IsLeaf f.nodes n → HasOpen p spent e (first_bound p) p.floor p.cap (splits_of (proof_of visited s.tree))
    tree-left there =
        from_start p f.nodes visited program (λ above limit floors caps g. IsLeftAt limit floors caps g) leaf-left split-left
        s.tree width s.grown s.is_tree.grown (s.is_tree.leaves n there)

  -- where the room is too small for two more nodes, so is the budget for the tree
  few_left : f.room < 2 → budget < nodes_of (splits_of (proof_of visited s.tree)) + 2
  few_left few =
      let sized = nodes_of-search p budget f visited found halted hand e s program width in
      let room = s.room in
      omega (arith, sized, room)

  why_left : (n : ℕ) → IsStuckKnown (visited_at visited n).known ⊎ (IsParted (visited_at visited n).known × (f.room < 2))
      → IsStuckKnown (visited_at visited n).known ⊎ (IsParted (visited_at visited n).known × (budget < nodes_of (splits_of (proof_of visited s.tree)) + 2))
  why_left n why = elim why [ inl stuck ↦ inl stuck | inr parted ↦ inr (parted.0, few_left parted.1) ]

below_level : (p : Program) (e : ℤ) (found : Option (List ℕ)) → IsFound p e found → MatchOption found (Unit {0}) (λ counts. worth p counts <ℤ e)
    → MatchOption found (Unit {0}) (λ counts. IsAllocation p p.floor p.cap counts × (worth p counts <ℤ e))
below_level p e None h k = tt
below_level p e (Some counts) h k = (h.0, k)

pub search_left : (p : Program) (budget : ℕ) (f : Seen) (visited : List Visited) (found : Option (List ℕ)) (halted : Option ℤ) (hand : List ℕ) (e : ℤ)
    (s : IsSearching p budget f visited found halted hand e) (n : ℕ) → IsProgram p → HasFitWidth p (no_multipliers p) → IsLeft f visited e n
    → MatchOption found (Unit {0}) (λ counts. worth p counts <ℤ e) → IsSpent p budget e found (proof_of visited s.tree)
search_left p budget f visited found halted hand e s n program width left below =
    let shown = IsProofTree-search p budget f visited found halted hand e s program width (Some e) s.splits in
    record {
      most = IsMost-search p budget f visited found halted hand e s program width;
      shown = shown;
      licence = record {
        search = shown.search;
        open_leaf = tree-left p budget f visited found halted hand e s program width (budget < nodes_of (splits_of (proof_of visited s.tree)) + 2) n left.bound
            (why_left p budget f visited found halted hand e s program width n left.why) left.leaf;
      };
      within = bound_by-at_most p budget f visited found halted hand e s program width;
      allowed = below_level p e found s.allowed below;
      inherited = tree-inherits p budget f visited found halted hand e s program width;
      whole = tree-holds p budget f visited found halted hand e s program width;
    }
