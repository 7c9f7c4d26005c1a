-- The pictures that are written so far, and those that are left.
use Rattle.std.proofs.Common.{◌≡◌, ◌<◌, ℕ, length, arith, List, [], ◌∷◌, ◌++◌, refl, append_assoc}
use Rattle.std.specs.List.{flat_map}
use Rattle.std.proofs.lemmas.List.{append-nil}
use Rattle.pc_desk_table.specs.declared.entry.Entry.{Entry}
use Rattle.pc_desk_draw.specs.Charts.{chart_text, legend, part_text}
use Rattle.pc_desk_draw.specs.Questions.{pictures_of}

pub parts_step : (text : List ℕ) (entries picture after : List Entry) → pictures_of entries ≡ picture ∷ pictures_of after → (text ++ part_text picture) ++ flat_map part_text (pictures_of after) ≡ text ++ flat_map part_text (pictures_of entries)
parts_step text entries picture after is = rw is (append_assoc text (part_text picture) (flat_map part_text (pictures_of after)))

pub parts_end : (text : List ℕ) (entries : List Entry) → entries ≡ [] → text ++ flat_map part_text (pictures_of entries) ≡ text
unfolding pictures_of
parts_end text entries is = rw is (append-nil text)

pub ruleset steps = (parts_step, parts_end)

pub nothing : (entries : List Entry) → length entries < 1 → chart_text entries ≡ []
unfolding chart_text
nothing [] none = refl
nothing (entry ∷ rest) none = absurd (let no : ⊥ = omega (arith, none) in no)

pub something : (entries : List Entry) → 0 < length entries → chart_text entries ≡ flat_map part_text (pictures_of entries) ++ legend
unfolding chart_text
something [] some = absurd (let no : ⊥ = omega (arith, some) in no)
something (entry ∷ rest) some = refl

pub ruleset whole = (nothing, something)
