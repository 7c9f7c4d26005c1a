use Rattle.std.proofs.Common.{map, set, ap, subst, sym, ◌∙◌, refl}
use Rattle.pc_simplex_tableau.specs.Tableau.{TableauRow, no_row}
use Rattle.pc_simplex_tableau.specs.Conditions.{row_in}
use Rattle.pc_simplex_tableau.proofs.Pivoting.{IsSplit, own_row}
use Rattle.pc_simplex_short.specs.Short.{freed_short}
use Rattle.pc_simplex_short.specs.Kept.{IsShortRow, IsSmallRow}
use Rattle.pc_simplex_short.proofs.Replaced.{replaced, replaced_all, others_all}
use Rattle.pc_simplex_short.proofs.rows.pivot.Goals as goal

pub returns-clause-pivoted : goal.returns-clause-pivoted
returns-clause-pivoted c true_result =
    let rows = c.args.rows.now in
    let f = c.args.setting.now in
    let turned = c.args.turned.now in
    let before = c.split_at_mut-before.result.0.now in
    let back = c.split_at_mut-before.result.1.now in
    let own = c.split_at_mut-own.result.0.now in
    let after = c.split_at_mut-own.result.1.now in
    let split : IsSplit rows before back own after c.args.at =
    record {
      within = c.requires.at;
      before_is = c.split_at_mut-before.ensures.front;
      back_is = c.split_at_mut-before.ensures.back;
      own_is = c.split_at_mut-own.ensures.front;
      after_is = c.split_at_mut-own.ensures.back;
    } in
    let same = ap (λ (row : TableauRow). row.numbers) (own_row rows before back own after c.args.at split _ c.index-own-0.result c.own.view_is) in
    let numbers = c.as_slice.ensures.value ∙ same in
    let again = c.as_slice-2.ensures.value ∙ same in
    let made = rw numbers at (c.if-not-free_all.ensures.freed refl) in
    let left = rw again at (c.if-not-free_all-2.ensures.freed refl) in
    replaced rows before back own after c.args.at split (freed_short f turned c.args.column (row_in rows c.args.at).numbers)
    c.free_all.new.rows c.free_all-2.new.rows _ made left
    ∙ ap (λ l. set (map (freed_short f turned c.args.column (row_in rows c.args.at).numbers) rows) c.args.at (record { numbers = l; basic = c.args.column })) same

pub returns-clause-short : goal.returns-clause-short
returns-clause-short c true_result =
    let rows = c.args.rows.now in
    let f = c.args.setting.now in
    let before = c.split_at_mut-before.result.0.now in
    let back = c.split_at_mut-before.result.1.now in
    let own = c.split_at_mut-own.result.0.now in
    let after = c.split_at_mut-own.result.1.now in
    let split : IsSplit rows before back own after c.args.at =
    record {
      within = c.requires.at;
      before_is = c.split_at_mut-before.ensures.front;
      back_is = c.split_at_mut-before.ensures.back;
      own_is = c.split_at_mut-own.ensures.front;
      after_is = c.split_at_mut-own.ensures.back;
    } in
    let same = own_row rows before back own after c.args.at split _ c.index-own-0.result c.own.view_is in
    let short = subst (IsShortRow f) (sym same) (c.requires.short c.args.at no_row c.requires.at) in
    replaced_all rows before back own after c.args.at split (IsShortRow f) c.free_all.new.rows c.free_all-2.new.rows _
    (c.if-not-free_all.ensures.short refl) (record { numbers = short.numbers; basic = c.requires.column; small = short.small }) (c.if-not-free_all-2.ensures.short refl)

pub returns-then-not-free_all-clause-given : goal.returns-then-not-free_all-clause-given
returns-then-not-free_all-clause-given c small =
    let rows = c.args.rows.now in
    let f = c.args.setting.now in
    let turned = c.args.turned.now in
    let before = c.split_at_mut-before.result.0.now in
    let back = c.split_at_mut-before.result.1.now in
    let own = c.split_at_mut-own.result.0.now in
    let after = c.split_at_mut-own.result.1.now in
    let split : IsSplit rows before back own after c.args.at =
    record {
      within = c.requires.at;
      before_is = c.split_at_mut-before.ensures.front;
      back_is = c.split_at_mut-before.ensures.back;
      own_is = c.split_at_mut-own.ensures.front;
      after_is = c.split_at_mut-own.ensures.back;
    } in
    let same = ap (λ (row : TableauRow). row.numbers) (own_row rows before back own after c.args.at split _ c.index-own-0.result c.own.view_is) in
    let given = rw (c.as_slice.ensures.value ∙ same) at c.if-not-free_all.ensures.given in
    given (others_all rows before back own after c.args.at split IsSmallRow (freed_short f turned c.args.column (row_in rows c.args.at).numbers) _ small).0

pub returns-then-not-free_all-2-clause-given : goal.returns-then-not-free_all-2-clause-given
returns-then-not-free_all-2-clause-given c small =
    let rows = c.args.rows.now in
    let f = c.args.setting.now in
    let turned = c.args.turned.now in
    let before = c.split_at_mut-before.result.0.now in
    let back = c.split_at_mut-before.result.1.now in
    let own = c.split_at_mut-own.result.0.now in
    let after = c.split_at_mut-own.result.1.now in
    let split : IsSplit rows before back own after c.args.at =
    record {
      within = c.requires.at;
      before_is = c.split_at_mut-before.ensures.front;
      back_is = c.split_at_mut-before.ensures.back;
      own_is = c.split_at_mut-own.ensures.front;
      after_is = c.split_at_mut-own.ensures.back;
    } in
    let same = ap (λ (row : TableauRow). row.numbers) (own_row rows before back own after c.args.at split _ c.index-own-0.result c.own.view_is) in
    let given = rw (c.as_slice-2.ensures.value ∙ same) at c.if-not-free_all-2.ensures.given in
    given (others_all rows before back own after c.args.at split IsSmallRow (freed_short f turned c.args.column (row_in rows c.args.at).numbers) _ small).1
