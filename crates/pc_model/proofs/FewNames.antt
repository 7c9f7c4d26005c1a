-- The names of a well-formed column fit the bits of a side.
use Rattle.std.proofs.Common.{List, get_or}
use Rattle.pc_model.specs.declared.schema.Kind.{Kind}
use Rattle.pc_model.specs.declared.schema.Kind.TheVariants.{Int, Dec, Cat}
use Rattle.pc_model.specs.declared.schema.Column.{Column}
use Rattle.pc_model.specs.WellFormed.{AreColumns, HasFewNames, HaveFewNames, IsKind}

few_names : (kind : Kind) → IsKind kind → HasFewNames kind
few_names (Int low high) is = tt
few_names (Dec scale low high) is = tt
few_names (Cat names) is = is.few

pub have_few_names : (columns : List Column) → AreColumns columns → HaveFewNames columns
have_few_names columns are k d inside = few_names (get_or columns k d).kind (are.all k d inside).kind
