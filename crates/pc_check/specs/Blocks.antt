-- What is found of one block of a document, and of the lines of its tree.
use Rattle.std.specs.Prelude.{◌≡◌, ℕ, ⊤, List, [], Option, Some, None, Result, Ok, Err, unwrap_or, All}
use Rattle.pc_model.specs.declared.area.Area.{Area}
use Rattle.pc_model.specs.declared.query.Query.{Query}
use Rattle.pc_model.specs.declared.tree.CutNode.{CutNode}
use Rattle.pc_model.specs.declared.tree.Leaf.{Leaf}
use Rattle.pc_model.specs.Cells.{leaves_in}
use Rattle.pc_proof.specs.declared.document.Block.{Block}
use Rattle.pc_proof.specs.declared.document.BlockTree.{BlockTree}
use Rattle.pc_proof.specs.declared.document.BlockTree.TheVariants as trees
use Rattle.pc_proof.specs.Setting.{Setting, narrowed}
use Rattle.pc_proof.specs.Demands.{Placed, Holds, TreeLines, block_demands, cells_demands, treeless_demands}
use Rattle.pc_proof.specs.Documents.{Premises as Case, lines_of, setting_of}
use Rattle.pc_check_rules.specs.declared.cells.GatheredCell.{GatheredCell}
use Rattle.pc_check_rules.specs.Cells.{cells_from}
use Rattle.pc_check_rules.specs.declared.halt.Halt.{Halt}
use Rattle.pc_check_rules.specs.declared.halt.Halt.TheVariants as halts
use Rattle.pc_check_rules.specs.Cuts.{IsAsked}
use Rattle.pc_check_rules.specs.Halts.{Finds}
use Rattle.pc_check.specs.declared.asked.Asked.{Asked}
use Rattle.pc_check.specs.declared.premises.Premises.{Premises}
use Rattle.pc_check.specs.Verdicts.{Keeps, answer_demands}

-- ---- a block

abbrev pub demands_on : Setting → ℕ → Block → List Placed
demands_on s line block = block_demands (lines_of block.tree) s line block.answer

-- the part of the block's area that its name keeps
abbrev pub area_for : Block → Area
area_for block = narrowed block.query.chosen block.query.group block.name

-- its question without the group, over that part
abbrev pub asked_for : Block → Query
asked_for block = record { agg = block.query.agg; column = block.query.column; chosen = area_for block; group = None }

-- a tree of its own has these nodes
abbrev pub HasNodes : BlockTree → List CutNode → Type 0
HasNodes (trees.Own tree) list = tree.nodes ≡ list
HasNodes trees.Same list = ⊤

-- what is found of a block, also of one that names a tree before where there is none
abbrev pub FindsIn : Case → ℕ → Block → Option (List CutNode) → Result (Unit {0}) Halt → Type 0
FindsIn case line block None result = Keeps (setting_of case block []) (treeless_demands line block.name) result
FindsIn case line block (Some nodes) result = Keeps (setting_of case block nodes) (demands_on (setting_of case block nodes) line block) result

-- what is found of the answer of a block, over each tree with these cells
abbrev pub KeepsOver : Case → ℕ → Block → List GatheredCell → Result (Unit {0}) Halt → Type 0
KeepsOver case line block cells result =
    (nodes : List CutNode) → cells ≡ cells_from (unwrap_or block.query.column 0) (leaves_in case.schema nodes)
    → Keeps (setting_of case block nodes) (answer_demands (setting_of case block nodes) line block.answer) result

-- ---- the lines of its tree

-- a setting of this schema and tree, whose question has these constraints and this area
pub record IsSettingOf (premises : Premises) (area : Area) (list : List CutNode) (s : Setting) : Type 0 where
  pub schema_is : s.question.schema ≡ premises.schema.now
  pub asked : IsAsked premises.constraints.now area s
  pub nodes_are : s.nodes ≡ list

-- what is found of the lines of the tree, the first of which says whose tree it is, and the leaves
abbrev pub IsTreeFinding : TreeLines → ℕ → Premises → Area → List CutNode → Result (List Leaf) Halt → Type 0
IsTreeFinding kind line premises area list result =
    (s : Setting) → IsSettingOf premises area list s → Finds s (cells_demands kind s line) (λ leaves. leaves ≡ leaves_in premises.schema.now list) result

-- what is broken in any line, as broken in this one
abbrev pub moved_to : ℕ → Halt → Halt
moved_to line (halts.Broken at rule) = halts.Broken line rule
moved_to line halts.Memory = halts.Memory

-- ---- what is kept for the next block

-- no line of this tree breaks its rule over the asked area, and the cells are those of its leaves
pub record IsAskedOver (premises : Premises) (list : List CutNode) (asked : Asked) : Type 0 where
  pub held : (s : Setting) → IsSettingOf premises asked.query.chosen list s → (kind : TreeLines) (line : ℕ) → All (Holds s) (cells_demands kind s line)
  pub cells_are : asked.cells ≡ cells_from (unwrap_or asked.query.column 0) (leaves_in premises.schema.now list)

-- what is found, without what is kept
abbrev pub cleared : Result Asked Halt → Result (Unit {0}) Halt
cleared (Ok asked) = Ok tt
cleared (Err halt) = Err halt

-- what is found of the lines of the tree for a query over this area
abbrev pub IsAskedFinding : TreeLines → ℕ → Premises → Area → List CutNode → Result Asked Halt → Type 0
IsAskedFinding kind line premises area list result = (s : Setting) → IsSettingOf premises area list s → Keeps s (cells_demands kind s line) (cleared result)

-- two queries have the same cells over a tree
pub record DivideAlike (query other : Query) : Type 0 where
  pub column : query.column ≡ other.column
  pub chosen : query.chosen ≡ other.chosen

-- a tree of its own does away with what was kept
abbrev pub kept_for : Option Asked → BlockTree → Option Asked
kept_for before (trees.Own tree) = None
kept_for before trees.Same = before
