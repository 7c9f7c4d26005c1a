use Rattle.std.proofs.Common.{rules, ◌≡◌, ℕ, [], ◌∷◌, ◌++◌, Ok, Err, get_or, length, length-append, ◌<◌, ◌∙◌, sym, arith}
use Rattle.std.proofs.lemmas.Result.{err_from_is_err_and}
use Rattle.csv.specs.Records.{fields_of}
use Rattle.pc_rows.specs.RowFile.{place_in}
use Rattle.pc_rows.proofs.Places.{places_step, places_err}
use Rattle.pc_rows.proofs.header.find_places.Goals as goal

pub returns-in_err-place-clause-answers : goal.returns-in_err-place-clause-answers
returns-in_err-place-clause-answers c =
    let columns = c.args.columns.now in
    let fields = fields_of c.args.header.now in
    let at = c.loop-column.column-index in
    let inside : at < length columns = omega arith in
    let found : place_in (get_or columns at c.column-item.result).name fields ≡ Err c.in_err-place.field-0.0 = rw (← c.column-item.is) (rw c.as_bytes.ensures at (sym c.in_err-place.ensures)) in
    let p = err_from_is_err_and c.from_residual.result c.from_residual.ensures.1 in
    rw (p.1, p.2, c.loop-column.invariant.gives)
    (places_err c.loop-column.places columns fields at c.column-item.result c.in_err-place.field-0.0 inside found)

pub loop-column-preserved : goal.loop-column-preserved
loop-column-preserved c =
    let columns = c.args.columns.now in
    let fields = fields_of c.args.header.now in
    let at = c.loop-column.column-index in
    let places = c.loop-column.places in
    let place : ℕ = c.in_ok-place.place in
    let inside : at < length columns = omega arith in
    let pushed : c.push.new.self ≡ places ++ place ∷ [] = search rules in
    let found : place_in (get_or columns at c.column-item.result).name fields ≡ Ok place = rw (← c.column-item.is) (rw c.as_bytes.ensures at (sym c.in_ok-place.ensures)) in
    rw pushed (record {
      gives = c.loop-column.invariant.gives ∙ places_step places columns fields at place c.column-item.result inside found;
      count = omega (arith, length-append places (place ∷ []));
    })
