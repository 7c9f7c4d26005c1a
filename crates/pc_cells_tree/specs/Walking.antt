-- A walk over a tree that marks its leaves and numbers its nodes in preorder.
use Rattle.std.specs.Prelude.{◌≡◌, ℕ, ◌*◌, ◌^◌, ◌<◌, true, List, [], ◌∷◌, ◌++◌, length, All, sum_by}
use Rattle.pc_model.specs.declared.region.Region.{Region}
use Rattle.pc_model.specs.declared.area.Area.{Area}
use Rattle.pc_model.specs.declared.constraint.Constraint.{Constraint}
use Rattle.pc_model.specs.declared.tree.Cut.{Cut}
use Rattle.pc_model.specs.declared.tree.LeafMark.TheVariants.{Barren}
use Rattle.pc_model.specs.declared.tree.CutNode.{CutNode}
use Rattle.pc_model.specs.declared.tree.CutNode.TheVariants as forms
use Rattle.pc_model.specs.CutTrees.{CutShape, leaf, inner, shape_of, first_part, second_part}
use Rattle.pc_cells_tree.specs.declared.growth.Growth.{Growth}
use Rattle.pc_cells_tree.specs.declared.known.Known.{Known}
use Rattle.pc_cells_tree.specs.declared.walk.Turn.{Turn}
use Rattle.pc_cells_tree.specs.declared.walk.Task.{Task}
use Rattle.pc_cells_tree.specs.declared.walk.Task.TheVariants.{Visit, Close}
use Rattle.pc_cells_tree.specs.declared.walk.Walk.{Walk}
use Rattle.pc_cells_tree.specs.Decisions.{IsComparable}
use Rattle.pc_cells_tree.specs.Growing.{HasGrown, with_place, with_inner}
use Rattle.pc_cells_tree.specs.Knowing.{IsKnown}
use Rattle.pc_cells_tree.specs.Linked.{node_at, is_leaf_node, box_at, AreBoxesOf, AreDoneBelow}
use Rattle.pc_cells_tree.specs.Rooms.{room}

-- a tree has the cuts of the nodes that are linked to that number
abbrev pub HasCutsAt : List CutNode → ℕ → CutShape → Type 0
HasCutsAt nodes k (leaf mark) = is_leaf_node (node_at nodes k) ≡ true
HasCutsAt nodes k (inner cut t u) = (first : ℕ) × (second : ℕ) × (node_at nodes k ≡ forms.Inner cut first second) × HasCutsAt nodes first t × HasCutsAt nodes second u

-- nodes in preorder have the cuts of a tree whose root is its first node
abbrev pub HasCutsOf : List CutNode → List CutNode → Type 0
HasCutsOf nodes written = HasCutsAt nodes 0 (shape_of written)

-- a tree without its marks
abbrev pub bare : CutShape → CutShape
bare (leaf mark) = leaf Barren
bare (inner cut t u) = inner cut (bare t) (bare u)

-- ---- what is done

-- what grew is the tree at a number, with marks
pub record HasWalked (nodes : List CutNode) (constraints : List Constraint) (chosen : Area) (k : ℕ) (part : Region) (before after : Growth) : Type 0 where
  pub grown : HasGrown constraints chosen part before after
  pub same : HasCutsAt nodes k grown.shape

-- ---- what is still to be done

abbrev pub turn_of : ℕ → Region → Known → Turn
turn_of number part known = record { number = number; part = part; known = known }

abbrev pub Does : List CutNode → List Constraint → Area → Task → Growth → Growth → Type 0
Does nodes constraints chosen (Visit turn) before after = HasWalked nodes constraints chosen turn.number turn.part before after
Does nodes constraints chosen (Close place cut) before after = after ≡ with_inner before place cut

-- the tasks lead from one to the other, the last of them first
abbrev pub Leads : List CutNode → List Constraint → Area → List Task → Growth → Growth → Type 0
Leads nodes constraints chosen [] before after = before ≡ after
Leads nodes constraints chosen (task ∷ tasks) before after = (middle : Growth) × Leads nodes constraints chosen tasks before middle × Does nodes constraints chosen task middle after

-- a number of a tree whose leaves can be marked, and its box
pub record IsVisit (nodes : List CutNode) (constraints : List Constraint) (chosen : Area) (number : ℕ) (part : Region) : Type 0 where
  pub whole : Region
  pub boxes : List Region
  pub boxes_are : AreBoxesOf whole nodes boxes
  pub done : AreDoneBelow constraints chosen nodes boxes (length nodes)
  pub there : number < length nodes
  pub part_is : part ≡ box_at boxes number
  pub comparable : IsComparable constraints chosen part

-- a task where so many nodes have grown
abbrev pub IsTask : List CutNode → List Constraint → Area → ℕ → Task → Type 0
IsTask nodes constraints chosen grown (Visit turn) = IsVisit nodes constraints chosen turn.number turn.part × IsKnown constraints turn.part turn.known
IsTask nodes constraints chosen grown (Close place cut) = place < grown

abbrev pub AreTasks : List CutNode → List Constraint → Area → Walk → Type 0
AreTasks nodes constraints chosen walk = All (IsTask nodes constraints chosen (length walk.growth.nodes)) walk.tasks.items

-- the two parts of a box have less room than the box
abbrev pub effort : Task → ℕ
effort (Visit turn) = 2 ^ (2 * room turn.part)
effort (Close place cut) = 1

abbrev pub efforts : List Task → ℕ
efforts tasks = sum_by effort tasks

-- ---- one task, which is the next one

-- the task is done, or others stand in its place that do it with less effort
pub record IsStep (nodes : List CutNode) (constraints : List Constraint) (chosen : Area) (task : Task) (before after : Walk) : Type 0 where
  pub tasks : AreTasks nodes constraints chosen before → AreTasks nodes constraints chosen after
  pub leads : (end : Growth) → Leads nodes constraints chosen after.tasks.items after.growth end → Leads nodes constraints chosen (before.tasks.items ++ task ∷ []) before.growth end
  pub less : efforts after.tasks.items < efforts (before.tasks.items ++ task ∷ [])

-- a place is kept for a cut, which comes between its parts
pub record IsOpened (at : Cut) (part : Region) (known : Known) (first second : ℕ) (before after : Walk) : Type 0 where
  pub growth : after.growth ≡ with_place before.growth
  pub tasks : after.tasks.items ≡ ((before.tasks.items ++ Visit (turn_of second (second_part part at) known) ∷ []) ++ Close (length before.growth.nodes) at ∷ []) ++ Visit (turn_of first (first_part part at) known) ∷ []

-- ---- a walk over a whole tree

abbrev pub nothing : Growth
nothing = record { nodes = []; leaves = [] }

-- the tasks that are left end with the whole tree
pub record IsUnderWay (nodes : List CutNode) (constraints : List Constraint) (chosen : Area) (whole : Region) (walk : Walk) : Type 0 where
  pub tasks : AreTasks nodes constraints chosen walk
  pub leads : (end : Growth) → Leads nodes constraints chosen walk.tasks.items walk.growth end → HasWalked nodes constraints chosen 0 whole nothing end
