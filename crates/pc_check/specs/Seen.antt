-- What was made of the observed rows for a question.
use Rattle.std.specs.Prelude.{◌≡◌, ◌≤◌, ℕ, List, Option}
use Rattle.pc_model.specs.declared.query.Query.{Query}
use Rattle.pc_model.specs.declared.query.Folded.{Folded}
use Rattle.pc_model.specs.declared.row.Row.{Row}
use Rattle.pc_model.specs.Folds.{IsFold}
use Rattle.pc_rows.specs.Stored.{row_limit}
use Rattle.pc_check.specs.declared.observed.Seen.{Seen}

-- the fold of these rows for a query and a name
pub record IsSeenFor (query : Query) (name : Option ℕ) (rows : List Row) (folded : Folded) : Type 0 where
  pub folded_is : IsFold query name rows folded
  pub few : folded.count ≤ row_limit

-- .. for the question that stands beside it
abbrev pub IsSeen : List Row → Seen → Type 0
IsSeen rows seen = IsSeenFor seen.query.now seen.name rows seen.folded

-- two queries keep the same rows for a name, and have the same column
pub record AskAlike (query other : Query) : Type 0 where
  pub column : query.column ≡ other.column
  pub chosen : query.chosen ≡ other.chosen
  pub group : query.group ≡ other.group
