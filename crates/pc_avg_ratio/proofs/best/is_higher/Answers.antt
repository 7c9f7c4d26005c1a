use Rattle.std.proofs.Common.{◌∙◌, sym, arith}
use Rattle.std.specs.Prelude.{pos, ◌≤ℤ◌}
use Rattle.std.proofs.lemmas.Int.{ints}
use Rattle.pc_avg_ratio.specs.Fractional.{rows_with}
use Rattle.pc_avg_ratio.proofs.BestSoFar.{counts_at, read_at, no_rows_there}
use Rattle.pc_avg_ratio.proofs.best.is_higher.Goals as goal

pub returns-then-rows_with-le0-clause-no_higher : goal.returns-then-rows_with-le0-clause-no_higher
returns-then-rows_with-le0-clause-no_higher c =
    let counts = c.as_slice-counts.ensures ∙ read_at c.args.found.now c.args.place c.index-found-place.result c.requires.inside c.index-found-place.is in
    let none : rows_with c.args.f.now (counts_at c.args.found.now c.args.place) ≤ℤ pos 0 = rw (sym counts) (omega (arith, ints)) in
    λ same. no_rows_there c.args.f.now c.args.found.now c.args.best c.args.place none
