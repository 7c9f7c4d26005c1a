use Rattle.std.proofs.Common.{◌≡◌, ◌∷◌, [], ◌++◌, pos, get_or, arith, rules, w64, to_z, of_z, ◌∙◌}
use Rattle.std.proofs.lemmas.Int.{ints}
use Rattle.pc_desk_answers.proofs.Repeats.{fields_step}
use Rattle.pc_desk_answers.proofs.repeated.fields_of.Goals as goal

pub loop-place-preserved : goal.loop-place-preserved
loop-place-preserved c =
    let column = c.index-columns-place.result in
    let cell = get_or c.args.cells.now c.loop-place.place (pos 0) in
    let same : to_z w64 (of_z w64 cell) ≡ cell = omega (arith, ints) in
    let made = rw (same, c.index-columns-place.is) at c.in_ok-field.ensures in
    let pushed : c.push.new.self ≡ c.loop-place.fields ++ c.in_ok-field.field ∷ [] = search rules in
    rw (pushed, made) (fields_step c.loop-place.fields c.args.columns.now c.args.cells.now c.loop-place.place column (pos 0) c.loop-place-test.true c.if-cells-place.false ∙ c.loop-place.invariant)
