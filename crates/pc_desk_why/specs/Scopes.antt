-- What answers are explained over, and what parts need of what is asked.
use Rattle.std.specs.Prelude.{⊤, pos, ◌<ℤ◌, List, Option, None, IfSome}
use Rattle.pc_model.specs.declared.constraint.Constraint.{Constraint}
use Rattle.pc_model.specs.declared.query.Query.{Query}
use Rattle.pc_model.specs.declared.schema.Schema.{Schema}
use Rattle.pc_model.specs.declared.tree.CutNode.{CutNode}
use Rattle.pc_model.specs.Accepted.{AreConstraints, IsQuery}
use Rattle.pc_model.specs.Possible.{IsPossible}
use Rattle.pc_model.specs.Right.{End, Mark, exact, outer}
use Rattle.pc_model.specs.Runs.{AreRuns, rows_of}
use Rattle.pc_model.specs.WellFormed.{IsWellFormed}
use Rattle.pc_proof.specs.declared.document.Block.{Block}
use Rattle.pc_group.specs.Answers.{AnswersWanted}
use Rattle.pc_group.specs.Trees.{AreDividedFor}
use Rattle.pc_group.specs.Wanted.{wanted_as, wanted_by}
use Rattle.pc_desk_answers.specs.declared.question.Question.{Question}
use Rattle.pc_desk_answers.specs.declared.question.Question.TheVariants.{Plain, Share}
use Rattle.pc_desk_answers.specs.Blocks.{Ground}
use Rattle.pc_desk_parts.specs.declared.asked.Asked.{Asked as Ask}
use Rattle.pc_desk_why.specs.declared.explaining.Scope.{Scope}

abbrev pub ground_in : Scope → Ground
ground_in scope = record { schema = scope.schema.now; rows = scope.rows.now; constraints = scope.constraints.now; nodes = scope.nodes; line = None }

-- the tree is divided for the blocks that a question asks; a quantile asks none
abbrev pub IsDivided : Schema → List Constraint → List CutNode → Question → Type 0
IsDivided schema constraints nodes (Plain query) = AreDividedFor schema constraints nodes (wanted_by schema query)
IsDivided schema constraints nodes (Share asked) = ⊤

-- by some tree, the block answers the query, for the name that it is of
pub record IsAnswered (ground : Ground) (query : Query) (b : Block) : Type 0 where
  pub nodes : List CutNode
  pub answers : AnswersWanted ground.nodes ground.schema ground.rows ground.constraints (wanted_as query b.name) (record { block = b; nodes = nodes })

-- ---- what parts need

pub record IsAskable (ask : Ask) : Type 0 where
  pub schema : IsWellFormed ask.schema.now
  pub constraints : AreConstraints ask.schema.now ask.constraints.now
  pub query : IsQuery ask.schema.now ask.query.now

-- the rows that reach an exact end are possible
abbrev pub MayReach : Ask → Mark → Type 0
MayReach ask (exact runs) = AreRuns runs × IsPossible ask.schema.now ask.constraints.now (rows_of runs)
MayReach ask outer = ⊤

pub record IsReachable (ask : Ask) (end : End) : Type 0 where
  pub positive : pos 0 <ℤ end.value.den
  pub rows : MayReach ask end.mark

abbrev pub AreReachable : Ask → Option (End × End) → Type 0
AreReachable ask ends = IfSome ends (λ both. IsReachable ask both.0 × IsReachable ask both.1)
