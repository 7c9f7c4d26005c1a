-- What is found of a document by its blocks: what is left decides.
use Rattle.std.proofs.Common.{◌≡◌, ℕ, ◌+◌, ◌<◌, ◌^◌, List, [], ◌∷◌, length, drop, get_or, Option, Some, None, IfSome, Result, Ok, Err, inl, inr, refl, sym, ap, ◌∙◌, subst, arith}
use Rattle.std.proofs.lemmas.List.{drop_more}
use Rattle.pc_model.specs.declared.schema.Schema.{Schema}
use Rattle.pc_model.specs.declared.tree.CutNode.{CutNode}
use Rattle.pc_model.specs.CutTrees.{IsInPreorder}
use Rattle.pc_proof.specs.declared.document.Block.{Block}
use Rattle.pc_proof.specs.declared.document.BlockTree.{BlockTree}
use Rattle.pc_proof.specs.declared.document.BlockTree.TheVariants as trees
use Rattle.pc_proof.specs.Counts.{block_count, blocks_count}
use Rattle.pc_proof.specs.Demands.{Placed, Holds, IsFirstBroken, name_demands, front_lines, tree_before}
use Rattle.pc_proof.specs.Documents.{Premises, AreUnbroken, IsFirstBrokenIn, broken_with, lines_of, nodes_after, setting_of, unbroken_with}
use Rattle.pc_proof.specs.Form.{IsFormedBlockTree}
use Rattle.pc_proof.specs.Unbroken.{IsUnbroken}
use Rattle.pc_proof.proofs.BlockLines.{demands-are_rules}
use Rattle.pc_proof.proofs.Parts.{All-back, the-one}
use Rattle.pc_check_rules.specs.declared.halt.Halt.{Halt}
use Rattle.pc_check_rules.specs.Halts.{HaltsAs}
use Rattle.pc_check_rules.proofs.Verdicts.{halts_as}
use Rattle.pc_check.specs.Blocks.{FindsIn, HasNodes, demands_on}
use Rattle.pc_check.specs.Verdicts.{IsFound, IsFoundFrom}
use Rattle.pc_check.proofs.BlockParts.{next_line_is}

-- ---- the nodes of the tree before

pub has_nodes : (before : Option (List CutNode)) (tree : BlockTree) → IfSome (nodes_after before tree) (HasNodes tree)
has_nodes before (trees.Own tree) = refl
has_nodes None trees.Same = tt
has_nodes (Some nodes) trees.Same = tt

pub in_preorder : (schema : Schema) (before : Option (List CutNode)) (tree : BlockTree) → IsFormedBlockTree schema tree → IfSome before IsInPreorder → IfSome (nodes_after before tree) IsInPreorder
in_preorder schema before (trees.Own tree) formed ordered = formed.preorder
in_preorder schema before trees.Same formed ordered = ordered

-- ---- one block

module _ (case : Premises) (block : Block) (rest : List Block) (line : ℕ) where
  abbrev FirstLater : ℕ → ℕ → List CutNode → ℕ → Type 0
  FirstLater at rule nodes next = IsFirstBrokenIn case (Some nodes) next at rule rest

  abbrev demands_with : List CutNode → List Placed
  demands_with nodes = demands_on (setting_of case block nodes) line block

  broken_here : (nodes : Option (List CutNode)) (halt : Halt) → FindsIn case line block nodes (Err halt) → HaltsAs (λ at rule. broken_with case block line at rule nodes (FirstLater at rule)) halt
  broken_here None halt found = found
  broken_here (Some nodes) halt found =
      halts_as (λ at rule. IsFirstBroken (setting_of case block nodes) at rule (demands_with nodes)) (λ at rule. broken_with case block line at rule (Some nodes) (FirstLater at rule))
      (λ at rule first. inl first) halt found

  -- without a tree there is a demand that does not hold
  no_tree : (kept : Unit {0}) → FindsIn case line block None (Ok kept) → ⊥
  no_tree kept all =
      let s = setting_of case block [] in
      let lacking : Placed = record { line = line + front_lines block.name; rule = 2; demand = tree_before } in
      the-one s lacking (All-back (Holds s) (name_demands line block.name) (lacking ∷ []) all.0)

  broken_later : (nodes : Option (List CutNode)) (kept : Unit {0}) → IfSome nodes IsInPreorder → IfSome nodes (HasNodes block.tree) → FindsIn case line block nodes (Ok kept)
      → (at rule : ℕ) → IsFirstBrokenIn case nodes (line + block_count block) at rule rest → broken_with case block line at rule nodes (FirstLater at rule)
  broken_later None kept ordered has found at rule later = absurd (no_tree kept found)
  broken_later (Some nodes) kept ordered has found at rule later =
      inr (found.0, subst (FirstLater at rule nodes) (sym (next_line_is (setting_of case block nodes) block line has ordered refl)) later)

  unbroken_later : (nodes : Option (List CutNode)) (kept : Unit {0}) → FindsIn case line block nodes (Ok kept) → AreUnbroken case nodes rest
      → unbroken_with nodes (λ nodes. IsUnbroken (setting_of case block nodes) block.answer × AreUnbroken case (Some nodes) rest)
  unbroken_later None kept found later = absurd (no_tree kept found)
  unbroken_later (Some nodes) kept found later = ((demands-are_rules (lines_of block.tree) (setting_of case block nodes) line block.answer).0 found.0, later)

  pub passed_on : (before : Option (List CutNode)) (kept : Unit {0}) (result : Result (Unit {0}) Halt) → IfSome (nodes_after before block.tree) IsInPreorder
      → FindsIn case line block (nodes_after before block.tree) (Ok kept) → IsFoundFrom case (nodes_after before block.tree) (line + block_count block) rest result
      → IsFoundFrom case before line (block ∷ rest) result
  passed_on before kept (Ok whole) ordered found later = unbroken_later (nodes_after before block.tree) kept found later
  passed_on before kept (Err halt) ordered found later =
      let nodes = nodes_after before block.tree in
      halts_as (λ at rule. IsFirstBrokenIn case nodes (line + block_count block) at rule rest) (λ at rule. broken_with case block line at rule nodes (FirstLater at rule))
      (broken_later nodes kept ordered (has_nodes before block.tree) found) halt later

-- ---- the blocks so far

-- the lines that are left are few, and what is found of what is left is found of the whole
module _ (case : Premises) (blocks : List Block) where
  pub record IsAt (place line : ℕ) (before : Option (List CutNode)) : Type 0 where
    pub few : line + blocks_count (drop place blocks) < 2 ^ 64
    pub ordered : IfSome before IsInPreorder
    pub decides : (result : Result (Unit {0}) Halt) → IsFoundFrom case before line (drop place blocks) result → IsFound case blocks result

  module _ (place line : ℕ) (before : Option (List CutNode)) (block other : Block) (there : place < length blocks) (is : block ≡ get_or blocks place other) (at_place : IsAt place line before) where
    abbrev left : List Block
    left = drop (place + 1) blocks

    left_are : drop place blocks ≡ block ∷ left
    left_are = drop_more blocks place other there ∙ ap (λ (b : Block). b ∷ left) (sym is)

    from_left : (result : Result (Unit {0}) Halt) → IsFoundFrom case before line (block ∷ left) result → IsFound case blocks result
    from_left result found = at_place.decides result (subst (λ (each : List Block). IsFoundFrom case before line each result) (sym left_are) found)

    pub stop_here : (halt : Halt) → FindsIn case line block (nodes_after before block.tree) (Err halt) → IsFound case blocks (Err halt)
    stop_here halt found = from_left (Err halt) (broken_here case block left line (nodes_after before block.tree) halt found)

    pub go_on : (kept : Unit {0}) → IfSome (nodes_after before block.tree) IsInPreorder → FindsIn case line block (nodes_after before block.tree) (Ok kept)
        → IsAt (place + 1) (line + block_count block) (nodes_after before block.tree)
    go_on kept ordered found = record {
      few = let count = ap blocks_count left_are in let few = at_place.few in omega (arith, count, few);
      ordered = ordered;
      decides = λ result later. from_left result (passed_on case block left line before kept result ordered found later);
    }
