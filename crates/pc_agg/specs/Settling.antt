-- What settles a relation: a list that was found, that there is none, or both totals whose searches were cut short.
use Rattle.std.specs.Prelude.{◌≡◌, ℕ, ℤ, pos, neg_ℤ, ◌<◌, ◌<ℤ◌, int_lt, cond, List, [], ◌++◌, length, All, Contains, Some, None, slice_index_or}
use Rattle.std.specs.List.{AllZip}
use Rattle.pc_model.specs.declared.row.Row.{Row}
use Rattle.pc_model.specs.declared.row.Run.{Run}
use Rattle.pc_model.specs.Runs.{runs_from}
use Rattle.pc_model.specs.Cells.{Class, IsRowOf}
use Rattle.pc_program_bound.specs.declared.program.Program.{Program}
use Rattle.pc_proof.specs.declared.answer.Relation.{Relation}
use Rattle.pc_proof.specs.declared.answer.Relation.TheVariants as relations
use Rattle.pc_proof.specs.declared.answer.Lack.TheVariants as lacks
use Rattle.pc_proof.specs.declared.answer.Why.{Why}
use Rattle.pc_proof.specs.declared.answer.Why.TheVariants as whys
use Rattle.pc_proof.specs.Setting.{Setting, cells, program_for}
use Rattle.pc_proof.specs.Table.{one, minus_one, ShowsImpossible}
use Rattle.pc_proof.specs.Unbroken.{IsDecided}
use Rattle.pc_branch_licences.specs.Pools.{AreLawful}
use Rattle.pc_branch_licences.specs.Wanted.{any, LeavesOpen}
use Rattle.pc_agg.specs.declared.aim.Aims.{Aims}
use Rattle.pc_agg.specs.declared.settling.Settled.{Settled}
use Rattle.pc_agg.specs.declared.settling.Total.{Total}
use Rattle.pc_agg.specs.declared.settling.Total.TheVariants as totals
use Rattle.pc_agg_search.specs.declared.limit.Limit.{Limit}
use Rattle.pc_agg_search.specs.Fitting.{IsSmallTree}
use Rattle.pc_agg_search.specs.Limits.{found_of, IsLimit}
use Rattle.pc_agg.specs.ShownRows.{RelationShown}

-- a row of each cell
abbrev pub AreRowsOfCells : Setting → List Row → Type 0
AreRowsOfCells s picks = AllZip (IsRowOf s.question.schema s.question.constraints s.question.query.chosen) (cells s) picks

-- the runs are of counts that were found
pub record IsListed (s : Setting) (found : List (List ℕ)) (runs : List Run) : Type 0 where
  pub picks : List Row
  pub counts : List ℕ
  pub rows : AreRowsOfCells s picks
  pub there : Contains found counts
  pub runs_are : runs ≡ runs_from picks counts

-- nothing was found, the searches for the most and the fewest rows were cut short, and their bounds do not cross
pub record IsUnlisted (s : Setting) (budget : ℕ) (found : List (List ℕ)) : Type 0 where
  pub none : found ≡ []
  pub most : ℤ
  pub fewest : ℤ
  pub by_most : LeavesOpen (program_for s one) budget most any
  pub by_fewest : LeavesOpen (program_for s minus_one) budget fewest any
  pub meet : most <ℤ neg_ℤ fewest → ⊥

-- what shows that nothing is possible looks at no observed rows, and its trees fit and are within the budget
abbrev pub IsOfCells : ℕ → Why → Type 0
IsOfCells budget (whys.Void t) = IsSmallTree budget t
IsOfCells budget (whys.Cross t u) = IsSmallTree budget t × IsSmallTree budget u
IsOfCells budget (whys.Ends low high) = ⊥

abbrev pub IsRelation : Setting → ℕ → List (List ℕ) → Relation → Type 0
IsRelation s budget found (relations.Possible runs) = IsListed s found runs
IsRelation s budget found (relations.Impossible why) = ShowsImpossible s why × IsOfCells budget why
IsRelation s budget found relations.Undecided = IsUnlisted s budget found

pub record IsSettled (s : Setting) (budget : ℕ) (settled : Settled) : Type 0 where
  pub relation : IsRelation s budget settled.found settled.relation
  pub lack : settled.lack ≡ lacks.Silent
  pub lawful : All (AreLawful s) settled.found
  pub shown : RelationShown s settled.relation

-- a total settles the relation, or is left with its bound and tree, and nothing was found
pub record IsLeftOpen (p : Program) (budget : ℕ) (limit : Limit) : Type 0 where
  pub limit_is : IsLimit p budget limit
  pub left : LeavesOpen p budget limit.most any

-- a limit of a program of the cells
abbrev pub IsLimitOfGain : Setting → ℕ → Limit → Type 0
IsLimitOfGain s budget limit = (gain : Class → ℤ) × IsLimit (program_for s gain) budget limit

-- nothing was found under limits of programs that count lost rows, and they do not cross
pub record AreOpenTotals (low high : Limit) : Type 0 where
  pub none_low : low.found ≡ None
  pub none_high : high.found ≡ None
  pub apart : high.most <ℤ neg_ℤ low.most → ⊥
  pub lows : All (λ g. g ≡ neg_ℤ (pos 1)) low.program.gain
  pub highs : All (λ g. g ≡ pos 1) high.program.gain

-- what is settled was found by the search of this limit, or the limit is left
abbrev pub IsTotalOf : Setting → Limit → Total → Type 0
IsTotalOf s limit (totals.Settled settled) =
    (counts : List ℕ) × (limit.found ≡ Some counts) × ((budget : ℕ) → IsSettled s budget settled) × IsDecided settled.relation
IsTotalOf s limit (totals.Open left) = (limit.found ≡ None) × (left ≡ limit)

abbrev pub IsTotal : Setting → ℕ → Program → Total → Type 0
IsTotal s budget p (totals.Settled settled) = IsSettled s budget settled
IsTotal s budget p (totals.Open limit) = IsLeftOpen p budget limit

abbrev pub IsTotalDecided : Total → Type 0
IsTotalDecided (totals.Settled settled) = IsDecided settled.relation
IsTotalDecided (totals.Open limit) = ⊥

-- a list with the first of these counts, by a row of each cell
abbrev pub listed : List Row → List (List ℕ) → Settled
listed picks found = record { relation = relations.Possible (runs_from picks (slice_index_or found 0 [])); lack = lacks.Silent; found = found }

-- what the searches of both ends found, the low end's first
abbrev pub found_by : Aims → List (List ℕ)
found_by aims = found_of aims.low.limit.found ++ found_of aims.high.limit.found

-- where they found something, the first of it settles the relation, by the rows of the low end
abbrev pub IsListedByLow : Aims → Settled → Type 0
IsListedByLow aims settled = 0 < length (found_by aims) → settled ≡ listed aims.low.picks (found_by aims)

abbrev pub impossible : Why → Settled
impossible why = record { relation = relations.Impossible why; lack = lacks.Silent; found = [] }

-- of two limits under which nothing was found: the most rows are fewer than the fewest, or neither is known
abbrev pub left_open : Limit → Limit → Settled
left_open most fewest =
    cond (int_lt most.most (neg_ℤ fewest.most))
    (record { relation = relations.Impossible (whys.Cross most.tree fewest.tree); lack = lacks.Silent; found = [] })
    (record { relation = relations.Undecided; lack = lacks.Silent; found = [] })

-- what the search for the fewest rows settles, or both limits
abbrev pub settled_after : Limit → Total → Settled
settled_after most (totals.Settled settled) = settled
settled_after most (totals.Open fewest) = left_open most fewest
