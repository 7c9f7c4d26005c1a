use Rattle.std.proofs.Common.{◌≡◌, ◌∙◌, ◌<◌, drop, get_or, length, sym, ap, arith}
use Rattle.std.proofs.lemmas.List.Sums.{fold_more}
use Rattle.csv.specs.Reading.{default_config, records, strip_bom}
use Rattle.csv.specs.Records.{fields_of}
use Rattle.pc_desk_schema.specs.declared.found.Found.{Found}
use Rattle.pc_desk_schema.specs.Draft.{nothing_found, with_next}
use Rattle.pc_desk_schema.proofs.found.found_for.Goals as goal

pub loop-name-preserved : goal.loop-name-preserved
loop-name-preserved c =
    let header = fields_of c.args.header.now in
    let rows = drop 1 (records default_config (strip_bom c.args.text.now)) in
    let names = c.args.names.now in
    let at = c.loop-name.name-index in
    let inside : at < length names = omega arith in
    let next : c.in_ok-found.found ≡ with_next header rows c.loop-name.found (get_or names at c.name-item.result) = rw (← c.name-item.is) (rw c.as_slice.ensures at c.in_ok-found.ensures.value) in
    record {
      found = next ∙ ap (λ (f : Found). with_next header rows f (get_or names at c.name-item.result)) c.loop-name.invariant.found ∙ sym (fold_more (with_next header rows) nothing_found names at c.name-item.result inside);
      sound = c.in_ok-found.ensures.sound;
      count = omega (arith, c.in_ok-found.ensures.count, c.loop-name.invariant.count);
    }
