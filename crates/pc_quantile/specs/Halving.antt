-- A step of halving the candidates of an end.
use Rattle.std.specs.Prelude.{◌+◌, ℕ, ℤ, List}
use Rattle.pc_agg_search.specs.declared.extreme.Extreme.{Extreme}
use Rattle.pc_agg_search.specs.declared.probes.ProbeVerdict.{ProbeVerdict}
use Rattle.pc_agg_search.specs.declared.probes.ProbeVerdict.TheVariants as verdicts
use Rattle.pc_agg_search.specs.declared.probes.Probed.{Probed}
use Rattle.pc_agg_search.specs.Wants.{IsProbed, IsSure}
use Rattle.pc_quantile.specs.declared.climb.Halved.{Halved}
use Rattle.pc_quantile.specs.declared.climb.Halved.TheVariants as halves
use Rattle.pc_quantile.specs.declared.measure.Measure.{Measure}
use Rattle.pc_quantile.specs.Climbing.{program_after, want_after}
use Rattle.pc_quantile.specs.Measure.{cells_for}

-- past the rung in the middle, or up to it
abbrev pub halved : ℕ → ℕ → ℕ → List (List ℕ) → ProbeVerdict → Halved
halved from to middle found (verdicts.Empty tree) = halves.Empty
halved from to middle found (verdicts.Short tree) = halves.Within (record { from = middle + 1; to = to; found = found })
halved from to middle found verdicts.Open = halves.Within (record { from = from; to = middle; found = found })

-- what the search for counts that pass the rung after this one says
abbrev pub IsProbedAfter : Measure → Extreme → List ℤ → ℕ → List (List ℕ) → Probed → Type 0
IsProbedAfter m extreme rungs place found probed =
    IsProbed (program_after (cells_for m) extreme m.asked.now rungs place) (want_after m.seen.now extreme m.asked.now rungs place) m.problem.nodes found probed

abbrev pub IsSureAfter : Measure → Extreme → List ℤ → ℕ → Probed → Type 0
IsSureAfter m extreme rungs place probed = IsSure (program_after (cells_for m) extreme m.asked.now rungs place) (want_after m.seen.now extreme m.asked.now rungs place) probed
