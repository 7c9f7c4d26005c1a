use Rattle.std.proofs.Common.{◌≡◌, drop}
use Rattle.std.specs.List.{find, list_all}
use Rattle.pc_desk_schema.specs.Numbers.{fits_at}
use Rattle.pc_desk_schema.proofs.numbers.scale_among.Given as goal

abbrev pub invariant-loop-scale : goal.invariant-loop-scale
invariant-loop-scale l = find (λ scale. list_all (fits_at scale) l.texts) (drop l.scale-index l.scales) ≡ find (λ scale. list_all (fits_at scale) l.texts) l.scales
