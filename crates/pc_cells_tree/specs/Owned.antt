-- Trees of cuts of names that a schema has.
use Rattle.std.specs.Prelude.{ℕ, ◌<◌, ◌^◌, ⊤, List, length, IfSome, slice_get}
use Rattle.pc_model.specs.declared.schema.Kind.{Kind}
use Rattle.pc_model.specs.declared.schema.Kind.TheVariants.{Int, Dec, Cat}
use Rattle.pc_model.specs.declared.schema.Column.{Column}
use Rattle.pc_model.specs.declared.schema.Schema.{Schema}
use Rattle.pc_model.specs.declared.tree.Cut.{Cut}
use Rattle.pc_model.specs.declared.tree.Cut.TheVariants.{At, Among}
use Rattle.pc_model.specs.declared.tree.CutNode.{CutNode}
use Rattle.pc_model.specs.declared.tree.CutNode.TheVariants as forms
use Rattle.pc_model.specs.CutTrees.{column_of}
use Rattle.pc_cells_tree.specs.Linked.{node_at}

-- the bits of a cut are of names of its column
abbrev pub HasBitsOf : Cut → Kind → Type 0
HasBitsOf cut (Int low high) = ⊤
HasBitsOf cut (Dec scale low high) = ⊤
HasBitsOf (At column at) (Cat names) = ⊤
HasBitsOf (Among column bits) (Cat names) = bits < 2 ^ length names

abbrev pub HasOwnBits : Schema → Cut → Type 0
HasOwnBits schema cut = IfSome (slice_get schema.columns (column_of cut)) (λ (column : Column). HasBitsOf cut column.kind)

abbrev pub IsOwnNode : Schema → CutNode → Type 0
IsOwnNode schema (forms.Leaf mark) = ⊤
IsOwnNode schema (forms.Inner cut first second) = HasOwnBits schema cut

-- those of each cut are
abbrev pub HasOwnCuts : Schema → List CutNode → Type 0
HasOwnCuts schema nodes = (k : ℕ) → IsOwnNode schema (node_at nodes k)
