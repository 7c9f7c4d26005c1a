-- What is shown as left.
use Rattle.std.specs.Prelude.{◌≡◌, Option, Some, None}
use Rattle.pc_model.specs.Aggregate.{Ratio, IsSame}
use Rattle.pc_model.specs.Right.{End}

-- both ends are this value, and there are none where there is no value
abbrev pub AreValue : Option Ratio → Option (End × End) → Type 0
AreValue None ends = ends ≡ None
AreValue (Some value) None = ⊥
AreValue (Some value) (Some ends) = IsSame value ends.0.value × IsSame value ends.1.value
