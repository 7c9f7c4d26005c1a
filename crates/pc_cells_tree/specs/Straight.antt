-- A tree that is grown straight away, each box asked once: what is still to be done, and where it leads.
use Rattle.std.specs.Prelude.{◌≡◌, ℕ, ◌*◌, ◌^◌, ◌<◌, ⊤, List, [], ◌∷◌, ◌++◌, length, All, sum_by}
use Rattle.pc_model.specs.declared.region.Region.{Region}
use Rattle.pc_model.specs.declared.area.Area.{Area}
use Rattle.pc_model.specs.declared.constraint.Constraint.{Constraint}
use Rattle.pc_model.specs.declared.tree.Cut.{Cut}
use Rattle.pc_model.specs.CutTrees.{CutShape, leaf, inner, first_part, second_part}
use Rattle.pc_cells_tree.specs.declared.growth.Growth.{Growth}
use Rattle.pc_cells_tree.specs.declared.known.Known.{Known}
use Rattle.pc_cells_tree.specs.declared.grow.Job.{Job}
use Rattle.pc_cells_tree.specs.declared.grow.Job.TheVariants.{Grow, Close}
use Rattle.pc_cells_tree.specs.declared.grow.Work.{Work}
use Rattle.pc_cells_tree.specs.Decisions.{IsComparable, IsNeeded}
use Rattle.pc_cells_tree.specs.Growing.{HasGrown, with_place, with_inner}
use Rattle.pc_cells_tree.specs.Knowing.{IsKnown}
use Rattle.pc_cells_tree.specs.Rooms.{room}
use Rattle.pc_cells_tree.specs.Walking.{nothing}

-- each cut divides a box that no mark fits
abbrev pub AreNeeded : List Constraint → Area → Region → CutShape → Type 0
AreNeeded constraints chosen box (leaf mark) = ⊤
AreNeeded constraints chosen box (inner cut t u) =
    IsNeeded constraints chosen box cut × AreNeeded constraints chosen (first_part box cut) t × AreNeeded constraints chosen (second_part box cut) u

-- what grew is a tree of which each cut was needed
pub record HasSprouted (constraints : List Constraint) (chosen : Area) (part : Region) (before after : Growth) : Type 0 where
  pub grown : HasGrown constraints chosen part before after
  pub needed : AreNeeded constraints chosen part grown.shape

abbrev pub Does : List Constraint → Area → Job → Growth → Growth → Type 0
Does constraints chosen (Grow part known) before after = HasSprouted constraints chosen part before after
Does constraints chosen (Close place cut) before after = after ≡ with_inner before place cut

-- the jobs lead from one to the other, the last of them first
abbrev pub Leads : List Constraint → Area → List Job → Growth → Growth → Type 0
Leads constraints chosen [] before after = before ≡ after
Leads constraints chosen (job ∷ jobs) before after = (middle : Growth) × Leads constraints chosen jobs before middle × Does constraints chosen job middle after

-- a job where so many nodes have grown
abbrev pub IsJob : List Constraint → Area → ℕ → Job → Type 0
IsJob constraints chosen grown (Grow part known) = IsComparable constraints chosen part × IsKnown constraints part known
IsJob constraints chosen grown (Close place cut) = place < grown

abbrev pub AreJobs : List Constraint → Area → Work → Type 0
AreJobs constraints chosen work = All (IsJob constraints chosen (length work.growth.nodes)) work.jobs.items

-- the two parts of a box have less room than the box
abbrev pub effort : Job → ℕ
effort (Grow part known) = 2 ^ (2 * room part)
effort (Close place cut) = 1

abbrev pub efforts : List Job → ℕ
efforts jobs = sum_by effort jobs

-- the job is done, or others stand in its place that do it with less effort
pub record IsDoing (constraints : List Constraint) (chosen : Area) (job : Job) (before after : Work) : Type 0 where
  pub jobs : AreJobs constraints chosen before → AreJobs constraints chosen after
  pub leads : (end : Growth) → Leads constraints chosen after.jobs.items after.growth end → Leads constraints chosen (before.jobs.items ++ job ∷ []) before.growth end
  pub less : efforts after.jobs.items < efforts (before.jobs.items ++ job ∷ [])

-- a place is kept for a cut, which comes between its parts
pub record IsOpened (at : Cut) (part : Region) (known : Known) (before after : Work) : Type 0 where
  pub growth : after.growth ≡ with_place before.growth
  pub jobs : after.jobs.items ≡ ((before.jobs.items ++ Grow (second_part part at) known ∷ []) ++ Close (length before.growth.nodes) at ∷ []) ++ Grow (first_part part at) known ∷ []

-- the jobs that are left end with the whole tree
pub record IsThriving (constraints : List Constraint) (chosen : Area) (whole : Region) (work : Work) : Type 0 where
  pub jobs : AreJobs constraints chosen work
  pub leads : (end : Growth) → Leads constraints chosen work.jobs.items work.growth end → HasSprouted constraints chosen whole nothing end
