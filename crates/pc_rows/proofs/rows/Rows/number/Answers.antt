use Rattle.std.proofs.Common.{◌≡◌, ◌∙◌, arith, to_z, of_z, w64}
use Rattle.std.proofs.lemmas.Int.{ints}
use Rattle.pc_rows.proofs.Storing.{number_is, number_past, row_within}
use Rattle.pc_rows.proofs.rows.Rows.number.Goals as goal

pub returns-then-self-column : goal.returns-then-self-column
returns-then-self-column c = number_past _ _ _ _ _ _ c.self.invariant c.self.view_is c.requires c.if-self-column.true

pub overflow_mul-place : goal.overflow_mul-place
overflow_mul-place c =
    let within = row_within _ _ _ _ _ c.self.invariant c.self.view_is c.requires in
    omega (arith, within, c.self.invariant.short)

pub overflow_add-place : goal.overflow_add-place
overflow_add-place c =
    let within = row_within _ _ _ _ _ c.self.invariant c.self.view_is c.requires in
    omega (arith, within, c.self.invariant.short, c.if-self-column.false)

pub get-requires : goal.get-requires
get-requires c =
    let within = row_within _ _ _ _ _ c.self.invariant c.self.view_is c.requires in
    omega (arith, within, c.if-self-column.false)

pub returns : goal.returns
returns c =
    let same : to_z w64 (of_z w64 c.get.result) ≡ c.get.result = omega (arith, ints) in
    same ∙ c.get.ensures ∙ number_is _ _ _ _ _ _ c.self.view_is c.requires (omega (arith, c.if-self-column.false))
