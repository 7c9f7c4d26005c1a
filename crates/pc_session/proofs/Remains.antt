-- What is held stays well-formed when a row or a constraint is added or taken out.
use Rattle.std.proofs.Common.{◌≡◌, ◌≢◌, ℕ, suc, ◌<◌, ◌≤◌, true, List, [], ◌∷◌, length, take, drop, All, refl, arith}
use Rattle.std.specs.List.{AllPass, remove}
use Rattle.std.proofs.lemmas.List.{length-append}
use Rattle.std.proofs.lemmas.List.Edits.{length-remove}
use Rattle.std.proofs.lemmas.List.Elements.{All-nil, All-cons, All-append, All-drop, All-push, All-take}
use Rattle.std.proofs.lemmas.List.Quantifiers.{all_pairs_remove}
use Rattle.pc_model.specs.declared.schema.Schema.{Schema}
use Rattle.pc_model.specs.declared.row.Row.{Row}
use Rattle.pc_model.specs.declared.constraint.Constraint.{Constraint}
use Rattle.pc_model.specs.Accepted.{AreConstraints, IsNameFor, IsQuery, frequency_limit}
use Rattle.pc_model.specs.Boxes.{IsServable}
use Rattle.pc_model.specs.Membership.{in_domain}
use Rattle.pc_session.specs.declared.line.Edit.{Edit}
use Rattle.pc_session.specs.declared.line.Edit.TheVariants.{AddRow, DropRow, AddRule, DropRule}
use Rattle.pc_session.specs.declared.line.Line.{Line}
use Rattle.pc_session.specs.declared.line.Line.TheVariants.{Edits, Asks}
use Rattle.pc_session.specs.Edited.{Held, CanEdit, CanFollow, CanFollowAll, after_line, case_at, cases_of, edited, held_after}
use Rattle.pc_session.specs.HeldWell.{IsAskedWell, IsHeldWell}

all_but_one : {X : Type 0} (P : X → Type 0) (xs : List X) (at : ℕ) → All P xs → All P (remove xs at)
all_but_one P xs at all = All-append P (take at xs) (drop (suc at) xs) (All-take P at xs all) (All-drop P (suc at) xs all)

-- rows without one of them
pub row_less : (schema : Schema) (rows : List Row) (at : ℕ) → AllPass (in_domain schema) rows → AllPass (in_domain schema) (remove rows at)
row_less schema rows at seen = all_but_one (λ (r : Row). in_domain schema r ≡ true) rows at seen

-- constraints without one of them
pub fewer_constraints : (schema : Schema) (constraints : List Constraint) (at : ℕ) → at < length constraints → AreConstraints schema constraints → AreConstraints schema (remove constraints at)
fewer_constraints schema constraints at inside are = record {
  few = omega (arith, length-remove constraints at inside, are.few);
  servable = all_but_one (IsServable schema) constraints at are.servable;
  small = all_but_one (λ (c : Constraint). c.most ≤ frequency_limit) constraints at are.small;
  named = all_but_one (λ (c : Constraint). IsNameFor c.when c.name) constraints at are.named;
  own_names = all_pairs_remove (λ (a b : Constraint). a.name ≢ b.name) constraints at inside are.own_names;
}

pub edit_keeps : (schema : Schema) (held : Held) (edit : Edit) → IsHeldWell schema held → CanEdit schema held edit → IsHeldWell schema (edited held edit)
edit_keeps schema held (AddRow row) well can = record {
  few = omega (arith, can.0, length-append held.rows (row ∷ []));
  seen = All-push (λ (r : Row). in_domain schema r ≡ true) held.rows row well.seen can.1;
  accepted = well.accepted;
}
edit_keeps schema held (DropRow at) well can = record {
  few = omega (arith, length-remove held.rows at can, well.few);
  seen = row_less schema held.rows at well.seen;
  accepted = well.accepted;
}
edit_keeps schema held (AddRule c) well can = record { few = well.few; seen = well.seen; accepted = can }
edit_keeps schema held (DropRule at) well can = record { few = well.few; seen = well.seen; accepted = fewer_constraints schema held.constraints at can well.accepted }

line_keeps : (schema : Schema) (held : Held) (line : Line) → IsHeldWell schema held → CanFollow schema held line → IsHeldWell schema (after_line held line)
line_keeps schema held (Edits edit) well can = edit_keeps schema held edit well can
line_keeps schema held (Asks query) well can = well

pub lines_keep : (schema : Schema) (held : Held) (lines : List Line) → IsHeldWell schema held → CanFollowAll schema held lines → IsHeldWell schema (held_after held lines)
unfolding held_after CanFollowAll
lines_keep schema held [] well can = well
lines_keep schema held (line ∷ lines) well can = lines_keep schema (after_line held line) lines (line_keeps schema held line well can.0) can.1

case_well : (schema : Schema) (held : Held) (line : Line) → IsHeldWell schema held → CanFollow schema held line → All (IsAskedWell schema) (case_at schema held line)
case_well schema held (Edits edit) well can = All-nil (IsAskedWell schema)
case_well schema held (Asks query) well can =
    All-cons (IsAskedWell schema) (record { schema = schema; rows = held.rows; constraints = held.constraints; queries = query ∷ [] }) []
    (record { schema_is = refl; seen = well.seen; accepted = well.accepted; queries = All-cons (IsQuery schema) query [] can (All-nil (IsQuery schema)) }) (All-nil (IsAskedWell schema))

pub cases_well : (schema : Schema) (held : Held) (lines : List Line) → IsHeldWell schema held → CanFollowAll schema held lines → All (IsAskedWell schema) (cases_of schema held lines)
unfolding cases_of CanFollowAll
cases_well schema held [] well can = All-nil (IsAskedWell schema)
cases_well schema held (line ∷ lines) well can =
    All-append (IsAskedWell schema) (case_at schema held line) (cases_of schema (after_line held line) lines) (case_well schema held line well can.0)
    (cases_well schema (after_line held line) lines (line_keeps schema held line well can.0) can.1)
