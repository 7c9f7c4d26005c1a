-- A constraint by what a fold says of the hidden rows in its predicate.
use Rattle.std.specs.Prelude.{ℕ, ◌+◌, ◌-◌, ℤ, min, ◌++◌, codes, decimal, Option, Some, None}
use Rattle.pc_model.specs.declared.region.Side.{Side}
use Rattle.pc_model.specs.declared.region.Side.TheVariants.{Span}
use Rattle.pc_model.specs.declared.region.Region.{Region}
use Rattle.pc_model.specs.declared.area.Area.{Area}
use Rattle.pc_model.specs.declared.constraint.When.TheVariants.{Boxes}
use Rattle.pc_model.specs.declared.constraint.Constraint.{Constraint}
use Rattle.pc_model.specs.Regions.{whole_side}
use Rattle.pc_gen.specs.Draws.{after, draw}
use Rattle.pc_gen.specs.Generated.{branch_kind, day_kind, price_kind, region_of}

-- from the least to the greatest price, and each price where there are none
abbrev pub price_side : Option ℤ → Option ℤ → Side
price_side (Some least) (Some greatest) = Span least greatest
price_side (Some least) None = whole_side price_kind
price_side None greatest = whole_side price_kind

abbrev pub priced_region : Option ℤ → Option ℤ → Region
priced_region least greatest = region_of (whole_side branch_kind) (whole_side day_kind) (price_side least greatest)

-- the constraint on a predicate with so many hidden rows, of such prices
abbrev pub constraint_by : ℕ → Area → ℕ → Option ℤ → Option ℤ → ℕ → Constraint
constraint_by number when count least greatest state = record {
  name = codes "g" ++ decimal number;
  when = Boxes when;
  values = priced_region least greatest;
  least = count - min count (draw 3 state);
  most = count + draw 3 (after 1 state);
}
