-- The fractions of a document.
use Rattle.std.specs.Prelude.{◌≤◌, ◌*◌, ◌^◌, nat_abs, pos, ◌<ℤ◌, ◌≤ℤ◌}
use Rattle.pc_num.specs.declared.Frac.{Frac}

-- a denominator above 0, and numbers of the sizes that a value can have
pub record IsMeasured (value : Frac) : Type 0 where
  pub positive : pos 0 <ℤ value.den
  pub few : value.den ≤ℤ pos (3 * 10 ^ 16)
  pub small : nat_abs value.num ≤ 3 * 10 ^ 31
