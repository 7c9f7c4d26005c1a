-- The regions of parts, as far as a loop has come.
use Rattle.std.proofs.Common.{◌≡◌, ℕ, ◌+◌, ◌<◌, ◌≤◌, List, [], ◌∷◌, ◌++◌, length, get_or, drop, Ok, refl, add-one, drop-cons}
use Rattle.std.proofs.lemmas.List.{drop_all}
use Rattle.pc_model.specs.declared.fault.ReadStop.{ReadStop}
use Rattle.pc_model.specs.declared.fault.ReadStop.TheVariants as stops
use Rattle.pc_model.specs.declared.schema.Schema.{Schema}
use Rattle.pc_model.specs.declared.region.Region.{Region}
use Rattle.pc_model.specs.Refusals.{StopsAs}
use Rattle.pc_lang_grammar.specs.declared.syntax.Part.{Part}
use Rattle.pc_lang.specs.Areas.{regions_from}
use Rattle.pc_lang.specs.Parts.{region_of}

pub regions_step : (schema : Schema) (before : List Region) (parts : List Part) (i : ℕ) (part : Part) (found : Region) → i < length parts → part ≡ get_or parts i part → region_of schema part ≡ Ok found → regions_from schema before (drop i parts) ≡ regions_from schema (before ++ found ∷ []) (drop (i + 1) parts)
unfolding regions_from
regions_step schema before parts i part found inside same here = rw (drop-cons parts i part inside, ← same, add-one, here) refl

pub regions_stop : (stop : ReadStop) (schema : Schema) (before : List Region) (parts : List Part) (i : ℕ) (part : Part) → i < length parts → part ≡ get_or parts i part → StopsAs stop (region_of schema part) → StopsAs stop (regions_from schema before (drop i parts))
unfolding regions_from
regions_stop (stops.Reason reason) schema before parts i part inside same here = rw (drop-cons parts i part inside, ← same, here) refl
regions_stop stops.Memory schema before parts i part inside same here = tt

pub regions_end : (schema : Schema) (before : List Region) (parts : List Part) (i : ℕ) → length parts ≤ i → regions_from schema before (drop i parts) ≡ Ok before
unfolding regions_from
regions_end schema before parts i past = rw (drop_all i parts past) refl

pub ruleset steps = (regions_step, regions_stop, regions_end)
