use Rattle.std.proofs.Common.{rules, ◌≡◌, ℕ, [], ◌∷◌, ◌++◌, List, Ok, false, length, length-append, ◌<◌, arith, ◌∙◌}
use Rattle.std.specs.List.{list_any}
use Rattle.std.specs.Str.{bytes_eq}
use Rattle.std.proofs.lemmas.Result.{err_from_is_err_and}
use Rattle.csv.specs.Records.{fields_of}
use Rattle.pc_model.specs.Refusals.{StopsAs}
use Rattle.pc_schema.proofs.Names.{name_at, names_step, names_stop, more_names}
use Rattle.pc_schema.proofs.kind.read_names.Goals as goal

pub returns-in_err-name-clause-answers : goal.returns-in_err-name-clause-answers
returns-in_err-name-clause-answers c =
    let names = c.loop-place.names in
    let place = c.loop-place.place in
    let inside : place < length (fields_of c.args.row.now) = omega arith in
    let found : StopsAs c.in_err-name.field-0.0 (name_at names (fields_of c.args.row.now) place) = rw (c.is_among.ensures, c.as_slice.ensures, c.field-text.ensures) at c.in_err-name.ensures.answers in
    let p = err_from_is_err_and c.from_residual.result c.from_residual.ensures.1 in
    rw (p.1, p.2, c.loop-place.invariant.gives)
    (names_stop c.in_err-name.field-0.0 names (fields_of c.args.row.now) place inside found)

pub loop-place-preserved : goal.loop-place-preserved
loop-place-preserved c =
    let names = c.loop-place.names in
    let place = c.loop-place.place in
    let name : List ℕ = c.in_ok-name.name in
    let inside : place < length (fields_of c.args.row.now) = omega arith in
    let pushed : c.push.new.self ≡ names ++ name ∷ [] = search rules in
    let found : name_at names (fields_of c.args.row.now) place ≡ Ok name = rw (c.is_among.ensures, c.as_slice.ensures, c.field-text.ensures) at c.in_ok-name.ensures.answers in
    let free : list_any (bytes_eq name) names ≡ false = rw c.in_ok-name.ensures.same (rw (c.is_among.ensures, c.as_slice.ensures) at c.in_ok-name.ensures.free) in
    rw pushed (record {
      gives = c.loop-place.invariant.gives ∙ names_step names (fields_of c.args.row.now) place name inside found;
      own = more_names names name c.loop-place.invariant.own c.in_ok-name.ensures.name free;
      count = omega (arith, length-append names (name ∷ []));
    })
