-- The ways in which rows make up an end, and what one row is to it.
use Rattle.std.specs.Prelude.{ℕ, ℤ, pos, ◌*ℤ◌, ◌&&◌, Bool, true, nat_abs, Option, option_map}
use Rattle.pc_num.specs.declared.fraction.Frac.{Frac}
use Rattle.pc_model.specs.declared.row.Row.{Row}
use Rattle.pc_model.specs.declared.query.Agg.{Agg}
use Rattle.pc_model.specs.declared.query.Agg.TheVariants.{Count, Sum, Min, Max, Avg}
use Rattle.pc_model.specs.declared.query.Query.{Query}
use Rattle.pc_model.specs.Aggregate.{asked, is_in_group, number_at}
use Rattle.pc_model.specs.Membership.{is_in}
use Rattle.pc_desk_parts.specs.declared.asked.Asked.{Asked}
use Rattle.pc_desk_parts.specs.declared.asked.Reached.{Reached}
use Rattle.pc_desk_parts.specs.declared.asked.Seen.{Seen}
use Rattle.pc_desk_parts.specs.declared.asked.Seen.TheVariants as seens
use Rattle.pc_desk_parts.specs.declared.asked.Side.{Side}
use Rattle.pc_desk_parts.specs.declared.part.Adds.{Adds}
use Rattle.pc_desk_parts.specs.declared.part.Adds.TheVariants.{Nothing, Amount, Stands}
use Rattle.pc_desk_parts.specs.declared.pulls.Pull.{Pull}
use Rattle.pc_desk_parts.specs.declared.pulls.Way.{Way}
use Rattle.pc_desk_parts.specs.declared.pulls.Way.TheVariants.{Adding, Being, Standing}
use Rattle.pc_desk_parts.specs.declared.stands.Stand.{Stand}
use Rattle.pc_desk_parts.specs.Stands.{is_at, pull_adding, pull_being, pull_standing, stand_to}

-- a row that the query speaks of
abbrev pub is_counted : Query → Option ℕ → Row → Bool
is_counted query name row = is_in query.chosen row && is_in_group query.group name row

-- the row's number in the query's column, of which a count has none
abbrev pub number_of : Query → Row → Option ℤ
number_of query row = option_map (number_at row) query.column

-- what a row adds where rows add up: of a count 1
abbrev pub worth_by : Agg → ℤ → ℤ
worth_by Count number = pos 1
worth_by Sum number = number
worth_by Min number = number
worth_by Max number = number
worth_by Avg number = number

abbrev pub worth : Query → Row → ℤ
worth query row = worth_by query.agg (asked query row)

-- rows add up to an end, or their number is the end, or they stand about it
abbrev pub way_by : Agg → Way
way_by Count = Adding
way_by Sum = Adding
way_by Min = Being
way_by Max = Being
way_by Avg = Adding

abbrev pub way_of : Agg → Seen → Way
way_of agg (seens.Folded folded) = way_by agg
way_of agg (seens.Numbers numbers) = Standing

abbrev pub way_for : Asked → Way
way_for ask = way_of ask.query.now.agg ask.seen

-- a row that would leave the end where it is adds this
abbrev pub centre_by : Agg → Frac → Frac
centre_by Count value = record { num = pos 0; den = pos 1 }
centre_by Sum value = record { num = pos 0; den = pos 1 }
centre_by Min value = value
centre_by Max value = value
centre_by Avg value = value

-- where the row's number stands to the end
abbrev pub stand_of : Asked → Reached → Row → Stand
stand_of ask reached row = stand_to reached.value (asked ask.query.now row)

-- ---- which lost rows are told, and what they add

abbrev pub is_told_by : Way → Stand → Bool
is_told_by Adding stand = true
is_told_by Being stand = is_at stand
is_told_by Standing stand = true

-- a row that the query speaks of; where rows are the end, one whose number it is
abbrev pub is_told : Asked → Reached → Row → Bool
is_told ask reached row =
    is_counted ask.query.now ask.name row && is_told_by (way_for ask) (stand_of ask reached row)

abbrev pub adds_by : Way → Stand → ℤ → Adds
adds_by Adding stand amount = Amount amount
adds_by Being stand amount = Nothing
adds_by Standing stand amount = Stands stand

-- what so many such rows add
abbrev pub adds_of : Asked → Reached → ℕ → Row → Adds
adds_of ask reached times row =
    adds_by (way_for ask) (stand_of ask reached row) (pos times *ℤ worth ask.query.now row)

abbrev pub size_of : Adds → ℕ
size_of Nothing = 0
size_of (Amount amount) = nat_abs amount
size_of (Stands stand) = 0

-- ---- what more of them would do

abbrev pub pull_by : Way → Agg → Side → Stand → Stand → Pull
pull_by Adding agg side added stand = pull_adding side added
pull_by Being agg side added stand = pull_being agg side
pull_by Standing agg side added stand = pull_standing side stand

-- whether more rows like this one, or fewer, would move the end further out
abbrev pub pull_of : Asked → Reached → Row → Pull
pull_of ask reached row =
    pull_by (way_for ask) ask.query.now.agg reached.side
    (stand_to (centre_by ask.query.now.agg reached.value) (worth ask.query.now row)) (stand_of ask reached row)
