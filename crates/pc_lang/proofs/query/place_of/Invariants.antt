use Rattle.std.proofs.Common.{◌≡◌, drop}
use Rattle.pc_lang.specs.Meaning.{has_names_as, place_from}
use Rattle.pc_lang.proofs.query.place_of.Given as goal

-- what is left decides
abbrev pub invariant-loop-place : goal.invariant-loop-place
invariant-loop-place l = place_from (has_names_as l.of_names) 0 l.schema.columns l.name ≡ place_from (has_names_as l.of_names) l.place (drop l.place l.schema.columns) l.name
