-- The pictures that are written so far, and those that are left.
use Rattle.std.proofs.Common.{◌≡◌, ℕ, ◌+◌, List, [], ◌∷◌, ◌++◌, append_assoc}
use Rattle.std.proofs.lemmas.List.{append-nil}
use Rattle.pc_desk_table.specs.declared.entry.Entry.{Entry}
use Rattle.pc_desk_draw.specs.Questions.{pictures_of}
use Rattle.pc_desk_draw.specs.Sizes.{height_of}
use Rattle.pc_desk_draw.specs.Pictures.{part_elements, parts_from}

pub parts_step : (text : List ℕ) (top : ℕ) (entries picture after : List Entry) → pictures_of entries ≡ picture ∷ pictures_of after → (text ++ part_elements top picture) ++ parts_from (top + height_of picture) (pictures_of after) ≡ text ++ parts_from top (pictures_of entries)
unfolding parts_from
parts_step text top entries picture after is = rw is (append_assoc text (part_elements top picture) (parts_from (top + height_of picture) (pictures_of after)))

pub parts_end : (text : List ℕ) (top : ℕ) (entries : List Entry) → entries ≡ [] → text ++ parts_from top (pictures_of entries) ≡ text
unfolding parts_from pictures_of
parts_end text top entries is = rw is (append-nil text)

pub ruleset steps = (parts_step, parts_end)
