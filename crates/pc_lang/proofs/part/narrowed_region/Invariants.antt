use Rattle.std.proofs.Common.{◌≡◌, length, drop}
use Rattle.pc_model.specs.Regions.{whole_region}
use Rattle.pc_lang.specs.Parts.{narrowed_by}
use Rattle.pc_lang.proofs.part.narrowed_region.Given as goal

-- what the atoms that are left leave of the sides is what all of them leave
abbrev pub invariant-loop-atom : goal.invariant-loop-atom
invariant-loop-atom l = record {
  left : narrowed_by l.columns (drop l.atom-index l.atoms) l.sides.items ≡ narrowed_by l.schema.columns l.part.atoms (whole_region l.schema).sides;
  even : length l.columns ≡ length l.sides.items;
}
