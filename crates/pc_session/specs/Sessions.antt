-- What a session keeps, and what an edit makes of it.
use Rattle.std.specs.Prelude.{◌≡◌, ℕ, ⊤, List}
use Rattle.std.specs.List.{AllPass}
use Rattle.pc_model.specs.declared.schema.Schema.{Schema}
use Rattle.pc_model.specs.declared.constraint.Constraint.{Constraint}
use Rattle.pc_model.specs.declared.tree.CutNode.{CutNode}
use Rattle.pc_model.specs.Accepted.{AreConstraints}
use Rattle.pc_model.specs.Membership.{in_domain}
use Rattle.pc_model.specs.Regions.{whole_area}
use Rattle.pc_model.specs.WellFormed.{IsWellFormed, HaveFewNames}
use Rattle.pc_cells_tree.specs.Linked.{IsTree, IsCutOn, IsDividedFor, IsSimple, KeepsInner}
use Rattle.pc_cells_tree.specs.Owned.{HasOwnCuts}
use Rattle.pc_session.specs.declared.line.Edit.{Edit}
use Rattle.pc_session.specs.declared.line.Edit.TheVariants.{AddRow, DropRow, AddRule, DropRule}
use Rattle.pc_session.specs.declared.session.Session.{Session}
use Rattle.pc_session.specs.Edited.{Held}

-- the plain lists of a session
abbrev pub held_by : Session → Held
held_by session = record { rows = session.rows; constraints = session.constraints }

-- a tree of proper cuts, each of whose leaves can be marked as settled for the constraints and the whole domain; the bits
-- of its cuts are of names, so that documents over it are in form
pub record IsTreeFor (schema : Schema) (constraints : List Constraint) (nodes : List CutNode) : Type 0 where
  pub tree : IsTree schema nodes
  pub divided : IsDividedFor schema constraints (whole_area schema) nodes
  pub own : HasOwnCuts schema nodes

-- what was read is well-formed, and the tree is one for the constraints
pub record IsSession (session : Session) : Type 0 where
  pub well_formed : IsWellFormed session.schema
  pub few_names : HaveFewNames session.schema.columns
  pub seen : AllPass (in_domain session.schema) session.rows
  pub accepted : AreConstraints session.schema session.constraints
  pub kept : IsTreeFor session.schema session.constraints session.tree.nodes

-- an edit of the rows leaves the constraints as they are
abbrev pub IsOfRows : Edit → Type 0
IsOfRows (AddRow row) = ⊤
IsOfRows (DropRow at) = ⊤
IsOfRows (AddRule c) = ⊥
IsOfRows (DropRule at) = ⊥

-- an edit that adds a constraint over one box, or on the rows outside
abbrev pub AddsOneBox : Edit → Type 0
AddsOneBox (AddRow row) = ⊥
AddsOneBox (DropRow at) = ⊥
AddsOneBox (AddRule c) = IsSimple c.when
AddsOneBox (DropRule at) = ⊥

-- the constraints are held instead, over the tree that was cut on for them
pub record IsHeldOver (constraints : List Constraint) (before after : Session) (cuts : ℕ) : Type 0 where
  pub schema : after.schema ≡ before.schema
  pub rows : after.rows ≡ before.rows
  pub held : after.constraints ≡ constraints
  pub cut_on : IsCutOn before.schema constraints (whole_area before.schema) before.tree.nodes after.tree.nodes cuts
  pub inner : KeepsInner before.tree.nodes after.tree.nodes
  pub own : HasOwnCuts before.schema before.tree.nodes → HasOwnCuts before.schema after.tree.nodes
