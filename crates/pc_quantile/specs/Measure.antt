-- What a quantile is sought over.
use Rattle.std.specs.Prelude.{◌≡◌, ◌==◌, ◌≤◌, ℤ, nat_abs, Bool, not, List, length, All}
use Rattle.pc_num.specs.Scaled.{greatest_size}
use Rattle.pc_model.specs.Boxes.{IsAreaOf}
use Rattle.pc_proof.specs.Setting.{Setting}
use Rattle.pc_agg_search.specs.Posed.{AsksNumbers}
use Rattle.pc_agg_search.specs.Problem.{IsPosed, setting_of}
use Rattle.pc_quantile.specs.declared.measure.Measure.{Measure}
use Rattle.pc_quantile.specs.Measured.{least_of}

-- rows were observed
abbrev pub has_numbers : List ℤ → Bool
has_numbers seen = not (length seen == 0)

-- what the cells alone say
abbrev pub cells_for : Measure → Setting
cells_for m = setting_of m.problem

-- a share of more than none and at most one, and so many numbers as a file of rows has, each no greater than those of a schema
pub record IsMeasured (m : Measure) : Type 0 where
  pub posed : IsPosed m.problem
  pub query : m.problem.query.now ≡ least_of m.asked.now
  pub numbers : AsksNumbers m.problem
  pub chosen : IsAreaOf m.problem.schema.now m.asked.now.chosen
  pub some : 1 ≤ m.asked.now.p
  pub most : m.asked.now.p ≤ m.asked.now.q
  pub few : m.asked.now.q ≤ 1000
  pub few_seen : length m.seen.now ≤ 1_000_000
  pub small_seen : All (λ number. nat_abs number ≤ greatest_size) m.seen.now
