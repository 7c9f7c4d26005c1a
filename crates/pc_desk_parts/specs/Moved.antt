-- How one more row moves an end.
use Rattle.std.specs.Prelude.{◌*ℤ◌, ◌<ℤ◌}
use Rattle.pc_model.specs.Aggregate.{Ratio, IsSame}
use Rattle.pc_desk_parts.specs.declared.asked.Side.{Side}
use Rattle.pc_desk_parts.specs.declared.asked.Side.TheVariants.{Low, High}
use Rattle.pc_desk_parts.specs.declared.pulls.Pull.{Pull}
use Rattle.pc_desk_parts.specs.declared.pulls.Pull.TheVariants.{More, Fewer, Neither}
use Rattle.pc_desk_parts.specs.declared.stands.Stand.{Stand}
use Rattle.pc_desk_parts.specs.declared.stands.Stand.TheVariants.{Below, At, Above}

-- where a value stands to another, of which both have a `den` above 0
abbrev pub StandsTo : Stand → Ratio → Ratio → Type 0
StandsTo Below v w = (v.num *ℤ w.den) <ℤ (w.num *ℤ v.den)
StandsTo At v w = IsSame v w
StandsTo Above v w = (w.num *ℤ v.den) <ℤ (v.num *ℤ w.den)

-- where the value goes that one more row leads to
abbrev pub moved : Side → Pull → Stand
moved Low More = Below
moved Low Fewer = Above
moved Low Neither = At
moved High More = Above
moved High Fewer = Below
moved High Neither = At
