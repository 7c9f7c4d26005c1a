-- Where a number stands to another, and whether more rows like one move an end out.
use Rattle.std.specs.Prelude.{ℤ, ◌*ℤ◌, int_lt, if◌then◌else◌, Bool, true, false}
use Rattle.pc_num.specs.declared.fraction.Frac.{Frac}
use Rattle.pc_model.specs.declared.query.Agg.{Agg}
use Rattle.pc_model.specs.declared.query.Agg.TheVariants.{Count, Sum, Min, Max, Avg}
use Rattle.pc_desk_parts.specs.declared.asked.Side.{Side}
use Rattle.pc_desk_parts.specs.declared.asked.Side.TheVariants.{Low, High}
use Rattle.pc_desk_parts.specs.declared.pulls.Pull.{Pull}
use Rattle.pc_desk_parts.specs.declared.pulls.Pull.TheVariants.{More, Fewer, Neither}
use Rattle.pc_desk_parts.specs.declared.stands.Stand.{Stand}
use Rattle.pc_desk_parts.specs.declared.stands.Stand.TheVariants.{Below, At, Above}

-- where a number stands to a fraction, whose `den` is above 0
unfoldable pub stand_to : Frac → ℤ → Stand
stand_to value number =
    if int_lt (number *ℤ value.den) value.num then Below
    else if int_lt value.num (number *ℤ value.den) then Above
    else At

abbrev pub is_at : Stand → Bool
is_at Below = false
is_at At = true
is_at Above = false

abbrev pub is_stand : Stand → Stand → Bool
is_stand Below Below = true
is_stand Below At = false
is_stand Below Above = false
is_stand At stand = is_at stand
is_stand Above Below = false
is_stand Above At = false
is_stand Above Above = true

-- further out is above of the greatest value and below of the least
abbrev pub is_outward : Side → Stand → Bool
is_outward Low Below = true
is_outward Low At = false
is_outward Low Above = false
is_outward High Below = false
is_outward High At = false
is_outward High Above = true

-- of rows that add: those that add outward, inward or nothing
abbrev pub pull_adding : Side → Stand → Pull
pull_adding Low Below = More
pull_adding Low At = Neither
pull_adding Low Above = Fewer
pull_adding High Below = Fewer
pull_adding High At = Neither
pull_adding High Above = More

-- of rows whose number is the end: without them it might lie further in, or it is as far out as they can bring it
abbrev pub pull_being : Agg → Side → Pull
pull_being Count side = Neither
pull_being Sum side = Neither
pull_being Min Low = Neither
pull_being Min High = Fewer
pull_being Max Low = Fewer
pull_being Max High = Neither
pull_being Avg side = Neither

-- of rows about a quantile: the more of them stand further out, and the fewer elsewhere, the further out it lies
abbrev pub pull_standing : Side → Stand → Pull
pull_standing Low Below = More
pull_standing Low At = Fewer
pull_standing Low Above = Fewer
pull_standing High Below = Fewer
pull_standing High At = Fewer
pull_standing High Above = More
