use Rattle.std.proofs.Common.{map, ap, ◌∙◌}
use Rattle.pc_group.specs.Wanted.{area_of}
use Rattle.pc_group.proofs.Areas.{none_wanted}
use Rattle.pc_group.proofs.wanted.areas_of.Goals as goal

pub loop-query-init : goal.loop-query-init
loop-query-init c = c.new-areas.ensures ∙ ap (map area_of) (none_wanted c.args.schema.now)
