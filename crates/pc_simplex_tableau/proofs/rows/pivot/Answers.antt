use Rattle.std.proofs.Common.{◌≡◌, ◌&&◌, ap, sym, ◌∙◌, refl}
use Rattle.std.specs.List.{list_all}
use Rattle.pc_simplex_tableau.specs.Tableau.{TableauRow, no_row, does_freed_row_fit}
use Rattle.pc_simplex_tableau.proofs.Pivoting.{IsSplit, both, own_row, fits_split, pivoted_split, fits_joined}
use Rattle.pc_simplex_tableau.proofs.rows.pivot.Goals as goal

pub returns-then-not-free_all-clause-value : goal.returns-then-not-free_all-clause-value
returns-then-not-free_all-clause-value c =
    let rows = c.args.rows.now in
    let before = c.split_at_mut-before.result.0.now in
    let back = c.split_at_mut-before.result.1.now in
    let own = c.split_at_mut-own.result.0.now in
    let after = c.split_at_mut-own.result.1.now in
    let split : IsSplit rows before back own after c.args.at =
    record {
      within = c.requires.at;
      before_is = c.split_at_mut-before.ensures.front;
      back_is = c.split_at_mut-before.ensures.back;
      own_is = c.split_at_mut-own.ensures.front;
      after_is = c.split_at_mut-own.ensures.back;
    } in
    let same = ap (λ (row : TableauRow). row.numbers) (own_row rows before back own after c.args.at split _ c.index-own-0.result c.own.view_is) in
    let numbers = c.as_slice.ensures.value ∙ same in
    let first = c.if-not-free_all.ensures.value in
    ap (λ b. b && list_all (does_freed_row_fit c.args.column c.as_slice.result.now) after) first ∙ sym (fits_split rows before back own after c.args.at split c.args.column c.as_slice.result.now numbers)

pub returns-then-not-free_all-2-clause-value : goal.returns-then-not-free_all-2-clause-value
returns-then-not-free_all-2-clause-value c =
    let rows = c.args.rows.now in
    let before = c.split_at_mut-before.result.0.now in
    let back = c.split_at_mut-before.result.1.now in
    let own = c.split_at_mut-own.result.0.now in
    let after = c.split_at_mut-own.result.1.now in
    let split : IsSplit rows before back own after c.args.at =
    record {
      within = c.requires.at;
      before_is = c.split_at_mut-before.ensures.front;
      back_is = c.split_at_mut-before.ensures.back;
      own_is = c.split_at_mut-own.ensures.front;
      after_is = c.split_at_mut-own.ensures.back;
    } in
    let same = ap (λ (row : TableauRow). row.numbers) (own_row rows before back own after c.args.at split _ c.index-own-0.result c.own.view_is) in
    let numbers = c.as_slice.ensures.value ∙ same in
    let again : c.as_slice-2.result.now ≡ c.as_slice.result.now = c.as_slice-2.ensures.value ∙ sym c.as_slice.ensures.value in
    let first = c.if-not-free_all.ensures.value in
    let second = rw again at c.if-not-free_all-2.ensures.value in
    both first second ∙ sym (fits_split rows before back own after c.args.at split c.args.column c.as_slice.result.now numbers)

pub returns-clause-value : goal.returns-clause-value
returns-clause-value c =
    let rows = c.args.rows.now in
    let before = c.split_at_mut-before.result.0.now in
    let back = c.split_at_mut-before.result.1.now in
    let own = c.split_at_mut-own.result.0.now in
    let after = c.split_at_mut-own.result.1.now in
    let split : IsSplit rows before back own after c.args.at =
    record {
      within = c.requires.at;
      before_is = c.split_at_mut-before.ensures.front;
      back_is = c.split_at_mut-before.ensures.back;
      own_is = c.split_at_mut-own.ensures.front;
      after_is = c.split_at_mut-own.ensures.back;
    } in
    let same = ap (λ (row : TableauRow). row.numbers) (own_row rows before back own after c.args.at split _ c.index-own-0.result c.own.view_is) in
    let numbers = c.as_slice.ensures.value ∙ same in
    let again : c.as_slice-2.result.now ≡ c.as_slice.result.now = c.as_slice-2.ensures.value ∙ sym c.as_slice.ensures.value in
    let first = c.if-not-free_all.ensures.value in
    let second = rw again at c.if-not-free_all-2.ensures.value in
    both first second ∙ sym (fits_split rows before back own after c.args.at split c.args.column c.as_slice.result.now numbers)

pub returns-clause-pivoted : goal.returns-clause-pivoted
returns-clause-pivoted c true_result =
    let rows = c.args.rows.now in
    let before = c.split_at_mut-before.result.0.now in
    let back = c.split_at_mut-before.result.1.now in
    let own = c.split_at_mut-own.result.0.now in
    let after = c.split_at_mut-own.result.1.now in
    let split : IsSplit rows before back own after c.args.at =
    record {
      within = c.requires.at;
      before_is = c.split_at_mut-before.ensures.front;
      back_is = c.split_at_mut-before.ensures.back;
      own_is = c.split_at_mut-own.ensures.front;
      after_is = c.split_at_mut-own.ensures.back;
    } in
    let same = ap (λ (row : TableauRow). row.numbers) (own_row rows before back own after c.args.at split _ c.index-own-0.result c.own.view_is) in
    let numbers = c.as_slice.ensures.value ∙ same in
    let again : c.as_slice-2.result.now ≡ c.as_slice.result.now = c.as_slice-2.ensures.value ∙ sym c.as_slice.ensures.value in
    let made = c.if-not-free_all.ensures.freed refl in
    let left = rw again at (c.if-not-free_all-2.ensures.freed refl) in
    pivoted_split rows before back own after c.args.at split c.args.column c.as_slice.result.now numbers c.free_all.new.rows c.free_all-2.new.rows _
    (ap (λ l. record { numbers = l; basic = c.args.column }) (sym c.as_slice.ensures.value)) made left

pub returns-clause-fits : goal.returns-clause-fits
returns-clause-fits c true_result =
    let rows = c.args.rows.now in
    let before = c.split_at_mut-before.result.0.now in
    let back = c.split_at_mut-before.result.1.now in
    let own = c.split_at_mut-own.result.0.now in
    let after = c.split_at_mut-own.result.1.now in
    let split : IsSplit rows before back own after c.args.at =
    record {
      within = c.requires.at;
      before_is = c.split_at_mut-before.ensures.front;
      back_is = c.split_at_mut-before.ensures.back;
      own_is = c.split_at_mut-own.ensures.front;
      after_is = c.split_at_mut-own.ensures.back;
    } in
    let same = ap (λ (row : TableauRow). row.numbers) (own_row rows before back own after c.args.at split _ c.index-own-0.result c.own.view_is) in
    let own_fits = rw (sym same) at (c.requires.fits c.args.at no_row c.requires.at) in
    fits_joined rows before back own after c.args.at split c.free_all.new.rows c.free_all-2.new.rows _
    (c.if-not-free_all.ensures.fits refl) own_fits (c.if-not-free_all-2.ensures.fits refl)
