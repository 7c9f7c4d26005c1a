-- What an edit leaves is a session again.
use Rattle.std.proofs.Common.{◌≡◌, ℕ, true, true≢false, List, [], ◌∷◌, length, All, Result, Ok, Err, OnErr, sym, ap, subst, ◌∙◌}
use Rattle.std.specs.Prelude.{IfOk, OnOk}
use Rattle.std.specs.List.{AllPass}
use lib.Pointwise.{pointwise_long}
use Rattle.pc_num.specs.declared.memory.Memory.{Memory}
use Rattle.pc_model.specs.declared.schema.Column.{Column}
use Rattle.pc_model.specs.declared.schema.Schema.{Schema}
use Rattle.pc_model.specs.declared.constraint.Constraint.{Constraint}
use Rattle.pc_model.specs.declared.row.Row.{Row}
use Rattle.pc_model.specs.declared.area.Area.{Area}
use Rattle.pc_model.specs.declared.tree.CutNode.{CutNode}
use Rattle.pc_model.specs.declared.tree.CutNode.TheVariants as forms
use Rattle.pc_model.specs.declared.tree.LeafMark.TheVariants.{Barren}
use Rattle.pc_model.specs.Accepted.{AreConstraints}
use Rattle.pc_model.specs.Membership.{allows, in_domain}
use Rattle.pc_model.specs.Regions.{whole_area}
use Rattle.pc_model.specs.WellFormed.{IsWellFormed}
use Rattle.pc_model.proofs.Areas.{whole_is_area}
use Rattle.pc_cells_tree.specs.Linked.{CanBeDivided, HasNeededCuts, is_leaf_node}
use Rattle.pc_session.specs.declared.session.Session.{Session}
use Rattle.pc_session.specs.Sessions.{IsHeldOver, IsSession, IsTreeFor}

-- ---- rows

-- a row of the domain has one number for each column
wide : (schema : Schema) (row : Row) → in_domain schema row ≡ true → length schema.columns ≡ length row.cells
unfolding in_domain
wide schema row allowed = pointwise_long (λ (column : Column). allows column.kind) schema.columns row.cells allowed

-- so rows of one domain are equally long
pub all_wide : (schema : Schema) (rows : List Row) (row : Row) → AllPass (in_domain schema) rows → in_domain schema row ≡ true → All (λ (other : Row). length other.cells ≡ length row.cells) rows
all_wide schema rows row seen allowed = λ place d inside. sym (wide schema _ (seen place d inside)) ∙ wide schema row allowed

pub with_rows : (session : Session) (rows : List Row) → IsSession session → AllPass (in_domain session.schema) rows → IsSession (record session { rows = rows })
with_rows session rows is seen = record { well_formed = is.well_formed; few_names = is.few_names; seen = seen; accepted = is.accepted; kept = is.kept }

-- ---- constraints

pub can_be_divided : (schema : Schema) (constraints held : List Constraint) (whole : Area) → IsWellFormed schema → AreConstraints schema constraints → held ≡ constraints → whole ≡ whole_area schema → CanBeDivided schema held whole
can_be_divided schema constraints held whole formed accepted same is = rw (same, is) record { well_formed = formed; few = accepted.few; servable = accepted.servable; area = whole_is_area schema formed }

module _ (constraints : List Constraint) (before after : Session) (cuts : ℕ) (over : IsHeldOver constraints before after cuts) where
  tree_for : IsSession before → IsTreeFor before.schema constraints after.tree.nodes
  tree_for is = record { tree = over.cut_on.tree; divided = over.cut_on.divided; own = over.own is.kept.own }

  pub with_constraints : IsSession before → AreConstraints before.schema constraints → IsSession after
  with_constraints is accepted = rw (over.schema, over.rows, over.held) record {
    well_formed = is.well_formed;
    few_names = is.few_names;
    seen = is.seen;
    accepted = accepted;
    kept = tree_for is;
  }

-- so it is where there may have been no memory for it
pub with_constraints_or_as_before : (constraints : List Constraint) (before after : Session) (result : Result ℕ Memory) → IfOk result (IsHeldOver constraints before after) → OnErr result (after ≡ before) → IsSession before → AreConstraints before.schema constraints → IsSession after
with_constraints_or_as_before constraints before after (Ok cuts) over same is accepted = with_constraints constraints before after cuts over is accepted
with_constraints_or_as_before constraints before after (Err memory) over same is accepted = subst IsSession (sym same) is

-- ---- cuts

-- a tree that is not cut has no cut more
no_cuts : (schema : Schema) (constraints : List Constraint) (chosen : Area) (nodes : List CutNode) → HasNeededCuts schema constraints chosen nodes nodes
no_cuts schema constraints chosen nodes boxes is k cut first second leaf inner = absurd (true≢false (sym leaf ∙ ap is_leaf_node inner))

abbrev HasNeeded : Session → Session → Type 0
HasNeeded before after = HasNeededCuts before.schema after.constraints (whole_area before.schema) before.tree.nodes after.tree.nodes

pub none_as_before : (before after : Session) → after.tree ≡ before.tree → HasNeeded before after
none_as_before before after same = rw same (no_cuts before.schema after.constraints (whole_area before.schema) before.tree.nodes)

pub needed_by_row : (before after : Session) (rows : List Row) (result : Result ℕ Memory) → OnOk result (after ≡ record before { rows = rows }) → OnErr result (after ≡ before) → HasNeeded before after
needed_by_row before after rows (Ok cuts) done same = none_as_before before after (ap (λ (s : Session). s.tree) done)
needed_by_row before after rows (Err memory) done same = none_as_before before after (ap (λ (s : Session). s.tree) same)

pub needed_by_rule : (constraints : List Constraint) (before after : Session) (result : Result ℕ Memory) → IfOk result (IsHeldOver constraints before after) → OnErr result (after ≡ before) → HasNeeded before after
needed_by_rule constraints before after (Ok cuts) over same = rw over.held over.cut_on.needed
needed_by_rule constraints before after (Err memory) over same = none_as_before before after (ap (λ (s : Session). s.tree) same)

-- the first tree is cut for the whole domain
pub needed_at_first : (schema : Schema) (constraints held : List Constraint) (whole : Area) (before after : List CutNode) → held ≡ constraints → whole ≡ whole_area schema → before ≡ forms.Leaf Barren ∷ [] →
    HasNeededCuts schema held whole before after → HasNeededCuts schema constraints (whole_area schema) (forms.Leaf Barren ∷ []) after
needed_at_first schema constraints held whole before after same is one needed =
    subst (λ (nodes : List CutNode). HasNeededCuts schema constraints (whole_area schema) nodes after) one
    (subst (λ (area : Area). HasNeededCuts schema constraints area before after) is
    (subst (λ (some : List Constraint). HasNeededCuts schema some whole before after) same needed))
