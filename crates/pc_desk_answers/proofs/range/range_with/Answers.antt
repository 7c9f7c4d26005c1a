use Rattle.std.proofs.Common.{refl}
use Rattle.pc_desk_answers.proofs.range.range_with.Goals as goal

pub returns : goal.returns
returns c =
    rw (c.in_ok-low.ensures, c.in_ok-high.ensures, c.in_ok-width.ensures, c.units_of-least.ensures.value, c.units_of-greatest.ensures.value, c.places_of.ensures.value) refl
