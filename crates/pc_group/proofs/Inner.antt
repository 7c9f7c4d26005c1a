-- Leaves that can be marked for an area stay so as a tree is cut on for others.
use Rattle.std.proofs.Common.{◌≡◌, ℕ, ◌+◌, ◌<◌, List, length, get_or, take, All, subst}
use Rattle.std.proofs.lemmas.List.Elements.{All-more, All-weaker}
use Rattle.pc_model.specs.declared.schema.Schema.{Schema}
use Rattle.pc_model.specs.declared.constraint.Constraint.{Constraint}
use Rattle.pc_model.specs.declared.area.Area.{Area}
use Rattle.pc_model.specs.declared.tree.CutNode.{CutNode}
use Rattle.pc_group.specs.Trees.{AreDividedFor}
use Rattle.pc_group.specs.Wanted.{Wanted, area_of}
use Rattle.pc_cells_tree.specs.Linked.{IsTree, IsDividedFor, KeepsInner}
use Rattle.pc_cells_tree.proofs.TreeLaws.{kept_stays_divided}

-- an area more that a tree is divided for
pub divided_more : (schema : Schema) (constraints : List Constraint) (areas : List Area) (i : ℕ) (area : Area) (before after : List CutNode) → i < length areas → area ≡ get_or areas i area →
    IsTree schema before → KeepsInner before after → IsDividedFor schema constraints area after →
    All (λ (r : Area). IsDividedFor schema constraints r before) (take i areas) → All (λ (r : Area). IsDividedFor schema constraints r after) (take (i + 1) areas)
divided_more schema constraints areas i area before after inside is tree kept divided earlier =
    let P = λ (r : Area). IsDividedFor schema constraints r after in
    let still = All-weaker (λ (r : Area). IsDividedFor schema constraints r before) P (λ r h. kept_stays_divided schema constraints r before after tree kept h) (take i areas) earlier in
    All-more P areas i area inside still (subst P is divided)

-- blocks that a tree was divided for
pub still_divided : (schema : Schema) (constraints : List Constraint) (before after : List CutNode) → IsTree schema before → KeepsInner before after →
    (blocks : List Wanted) → AreDividedFor schema constraints before blocks → AreDividedFor schema constraints after blocks
still_divided schema constraints before after tree kept blocks divided =
    All-weaker (λ (w : Wanted). IsDividedFor schema constraints (area_of w) before) (λ (w : Wanted). IsDividedFor schema constraints (area_of w) after)
    (λ w h. kept_stays_divided schema constraints (area_of w) before after tree kept h) blocks divided
