use Rattle.std.proofs.Common.{[], ◌∷◌, ◌++◌, sym, ap, subst}
use Rattle.std.specs.List.{remove}
use Rattle.pc_session.specs.declared.session.Session.{Session}
use Rattle.pc_session.specs.Sessions.{IsSession}
use Rattle.pc_session.proofs.Holding.{needed_by_row, needed_by_rule, none_as_before, with_constraints_or_as_before, with_rows}
use Rattle.pc_session.proofs.Remains.{fewer_constraints, row_less}
use Rattle.pc_session.proofs.session.Session.edit.Goals as goal

pub returns-in-DropRow-clause-session : goal.returns-in-DropRow-clause-session
returns-in-DropRow-clause-session c =
    let self = c.args.self.now in
    let at = c.in-DropRow.at in
    subst IsSession (sym c.drop_row.ensures.done) (with_rows self (remove self.rows at) c.requires.session (row_less self.schema self.rows at c.requires.session.seen))

pub returns-in-DropRule-clause-session : goal.returns-in-DropRule-clause-session
returns-in-DropRule-clause-session c =
    let self = c.args.self.now in
    let at = c.in-DropRule.at in
    let can = rw c.in-DropRule.is at c.requires.can in
    with_constraints_or_as_before (remove self.constraints at) self c.drop_rule.new.self c.drop_rule.result c.drop_rule.ensures.done c.drop_rule.ensures.memory c.requires.session
    (fewer_constraints self.schema self.constraints at can c.requires.session.accepted)

pub returns-in-AddRow-clause-needed : goal.returns-in-AddRow-clause-needed
returns-in-AddRow-clause-needed c =
    let self = c.args.self.now in
    needed_by_row self c.add_row.new.self (self.rows ++ c.in-AddRow.row ∷ []) c.add_row.result c.add_row.ensures.done c.add_row.ensures.memory

pub returns-in-DropRow-clause-needed : goal.returns-in-DropRow-clause-needed
returns-in-DropRow-clause-needed c = none_as_before c.args.self.now c.drop_row.new.self (ap (λ (s : Session). s.tree) c.drop_row.ensures.done)

pub returns-in-AddRule-clause-needed : goal.returns-in-AddRule-clause-needed
returns-in-AddRule-clause-needed c =
    let self = c.args.self.now in
    needed_by_rule (self.constraints ++ c.in-AddRule.constraint ∷ []) self c.add_rule.new.self c.add_rule.result c.add_rule.ensures.done c.add_rule.ensures.memory

pub returns-in-DropRule-clause-needed : goal.returns-in-DropRule-clause-needed
returns-in-DropRule-clause-needed c =
    let self = c.args.self.now in
    needed_by_rule (remove self.constraints c.in-DropRule.at) self c.drop_rule.new.self c.drop_rule.result c.drop_rule.ensures.done c.drop_rule.ensures.memory
