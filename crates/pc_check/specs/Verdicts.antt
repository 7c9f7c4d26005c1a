-- The verdict on a document, and what is found of the parts of a block.
use Rattle.std.specs.Prelude.{◌≡◌, ℕ, ◌+◌, List, [], ◌∷◌, ◌++◌, Option, None, Result, is_none}
use Rattle.pc_model.specs.declared.query.Query.{Query}
use Rattle.pc_model.specs.declared.tree.CutNode.{CutNode}
use Rattle.pc_model.specs.declared.row.Run.{Run}
use Rattle.pc_model.specs.Possible.{IsPossible}
use Rattle.pc_model.specs.Runs.{rows_of}
use Rattle.pc_model.specs.Right.{Question}
use Rattle.pc_proof.specs.declared.answer.Answer.{Answer}
use Rattle.pc_proof.specs.declared.document.Block.{Block}
use Rattle.pc_proof.specs.Setting.{Setting, area_of}
use Rattle.pc_proof.specs.Unbroken.{AllowsName, IsWellPosed}
use Rattle.pc_proof.specs.Demands.{Demand, Placed, possible_runs, relation_demands, relation_lines, lack_demands, lack_lines, ends_demands, ends_lines}
use Rattle.pc_proof.specs.Documents.{Premises, AreUnbroken, IsFirstBrokenIn}
use Rattle.pc_check_rules.specs.declared.halt.Halt.{Halt}
use Rattle.pc_check_rules.specs.Halts.{Finds, Gives}
use Rattle.pc_check_rules.specs.Scene.{IsSceneOf}
use Rattle.pc_check.specs.declared.verdict.Verdict.{Verdict}
use Rattle.pc_check.specs.declared.verdict.Verdict.TheVariants as verdicts
use Rattle.pc_check.specs.declared.matter.Matter.{Matter}

-- ---- a document

-- a document has no tree before its first block, and its first query stands in the second line
abbrev pub IsVerdictOn : Premises → List Block → Verdict → Type 0
IsVerdictOn case blocks verdicts.Yes = AreUnbroken case None blocks
IsVerdictOn case blocks (verdicts.No line rule) = IsFirstBrokenIn case None 2 line rule blocks

-- what is found of blocks, of which the first query stands in this line, behind the nodes of a tree
abbrev pub IsFoundFrom : Premises → Option (List CutNode) → ℕ → List Block → Result (Unit {0}) Halt → Type 0
IsFoundFrom case before line blocks result = Gives (λ kept. AreUnbroken case before blocks) (λ at rule. IsFirstBrokenIn case before line at rule blocks) result

abbrev pub IsFound : Premises → List Block → Result (Unit {0}) Halt → Type 0
IsFound case blocks result = IsFoundFrom case None 2 blocks result

-- ---- demands

abbrev pub placed : ℕ → ℕ → Demand → Placed
placed line rule demand = record { line = line; rule = rule; demand = demand }

-- runs that stand in this line are possible, and give what is said
abbrev pub runs_demands : ℕ → List Run → (List Run → Demand) → List Placed
runs_demands line runs given = placed line 5 (possible_runs runs) ∷ placed line 6 (given runs) ∷ []

-- none of them is broken, or a first one is
abbrev pub Keeps : Setting → List Placed → Result (Unit {0}) Halt → Type 0
Keeps s demands result = Finds s demands (λ kept. Unit {0}) result

-- ---- a block

-- the question without a group, over the part of its area that its name keeps
abbrev pub asked_of : Question → Query
asked_of q = record { agg = q.query.agg; column = q.query.column; chosen = area_of q; group = None }

-- a setting of this schema, query and scene, whose question is one that is asked
pub record IsMatterOf (matter : Matter) (s : Setting) : Type 0 where
  pub schema_is : s.question.schema ≡ matter.schema.now
  pub asked_is : asked_of s.question ≡ matter.asked.now
  pub scene : IsSceneOf matter.scene s
  pub posed : IsWellPosed s.question
  pub named : is_none s.question.name ≡ is_none s.question.query.group
  pub allowed : AllowsName s.question.query.chosen s.question.query.group s.question.name

-- the rows of the runs are possible lost rows
abbrev pub ArePossibleIn : Matter → List Run → Type 0
ArePossibleIn matter runs = IsPossible matter.schema.now matter.scene.constraints.now (rows_of runs)

-- what is found of demands in each of these settings
abbrev pub KeepsIn : Matter → (Setting → List Placed) → Result (Unit {0}) Halt → Type 0
KeepsIn matter demands result = (s : Setting) → IsMatterOf matter s → Keeps s (demands s) result

-- of an answer whose relation stands in this line
abbrev pub answer_demands : Setting → ℕ → Answer → List Placed
answer_demands s line answer =
    relation_demands s line answer.relation answer.ends
    ++ (lack_demands s (line + relation_lines answer.relation) answer.lack
    ++ ends_demands s (line + relation_lines answer.relation + lack_lines answer.lack) answer.ends)

abbrev pub answer_count : Answer → ℕ
answer_count answer = relation_lines answer.relation + lack_lines answer.lack + ends_lines answer.ends
