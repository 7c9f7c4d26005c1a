-- What a search for wanted counts makes of a bound.
use Rattle.std.specs.Prelude.{ℤ, pos, int_le, int_lt, Bool, false, cond, ℕ, List, ◌++◌, Option}
use Rattle.pc_model.specs.declared.tree.Tree.{Tree}
use Rattle.pc_agg_search.specs.declared.want.Want.{Want}
use Rattle.pc_agg_search.specs.declared.want.Want.TheVariants as wants
use Rattle.pc_agg_search.specs.declared.probes.ProbeVerdict.TheVariants as verdicts
use Rattle.pc_agg_search.specs.declared.probes.Probed.{Probed}
use Rattle.pc_agg_search.specs.Limits.{found_of}

-- whether no counts of so much worth are wanted
abbrev pub is_under : Want → ℤ → Bool
is_under wants.Any n = false
is_under wants.Gaining n = int_le n (pos 0)
is_under wants.Without n = int_lt n (pos 0)
is_under (wants.From least) n = int_lt n least

abbrev pub within : Want → ℤ → Tree → List (List ℕ) → Option (List ℕ) → Probed
within want most tree found best = record {
  verdict = cond (is_under want most) (verdicts.Short tree) verdicts.Open;
  found = found ++ found_of best;
}
