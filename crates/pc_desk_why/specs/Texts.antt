-- The texts of the cells of a part.
use Rattle.std.specs.Prelude.{ℕ, ℤ, List, [], ◌∷◌, ◌++◌, codes, decimal, flat_map, Option, Some, None, slice_get}
use Rattle.std.specs.List.{concat}
use Rattle.pc_num.specs.Put.{scaled_text}
use Rattle.pc_model.specs.declared.constraint.Constraint.{Constraint}
use Rattle.pc_desk_parts.specs.declared.part.Hold.{Hold}
use Rattle.pc_desk_parts.specs.declared.part.Hold.TheVariants.{Least, Most, Schema, Values, When as Predicate}
use Rattle.pc_desk_parts.specs.declared.stands.Stand.{Stand}
use Rattle.pc_desk_parts.specs.declared.stands.Stand.TheVariants.{Above, At, Below}
use Rattle.pc_desk_short.specs.ShortTexts.{name_in}
use Rattle.pc_desk_table.specs.Texts.{shown}

-- a number in units of the last of so many places
abbrev pub number_text : ℤ → ℕ → List ℕ
number_text number places = shown (scaled_text number places)

abbrev pub stand_word : Stand → List ℕ
stand_word Below = codes "below"
stand_word At = codes "at"
stand_word Above = codes "above"

-- ---- names

abbrev pub name_at : List Constraint → ℕ → List ℕ
name_at constraints place = name_in (slice_get constraints place)

unfoldable pub next_name : List Constraint → ℕ → List ℕ
next_name constraints place = codes " " ++ name_at constraints place

unfoldable pub names_after : List Constraint → List ℕ → List ℕ
names_after constraints places = flat_map (next_name constraints) places

-- with a blank between each two
abbrev pub names_text : List Constraint → List ℕ → List ℕ
names_text constraints [] = []
names_text constraints (first ∷ rest) = shown (name_at constraints first ++ names_after constraints rest)

-- ---- what holds

abbrev pub most_found : Option Constraint → ℕ
most_found None = 0
most_found (Some c) = c.most

abbrev pub most_at : List Constraint → ℕ → ℕ
most_at constraints place = most_found (slice_get constraints place)

abbrev pub least_found : Option Constraint → ℕ
least_found None = 0
least_found (Some c) = c.least

abbrev pub least_at : List Constraint → ℕ → ℕ
least_at constraints place = least_found (slice_get constraints place)

-- a limit of a constraint: `orders most 6`
unfoldable pub limit_text : List Constraint → ℕ → List ℕ → ℕ → List ℕ
limit_text constraints place word limit = name_at constraints place ++ concat (codes " " ∷ word ∷ codes " " ∷ decimal limit ∷ [])

unfoldable pub word_text : List Constraint → ℕ → List ℕ → List ℕ
word_text constraints place word = name_at constraints place ++ word

unfoldable pub hold_text : List Constraint → Hold → List ℕ
hold_text constraints (Most place) = limit_text constraints place (codes "most") (most_at constraints place)
hold_text constraints (Least place) = limit_text constraints place (codes "least") (least_at constraints place)
hold_text constraints (Values place) = word_text constraints place (codes " values")
hold_text constraints (Predicate place) = word_text constraints place (codes " when")
hold_text constraints Schema = codes "schema"

unfoldable pub next_hold : List Constraint → Hold → List ℕ
next_hold constraints hold = codes "; " ++ hold_text constraints hold

unfoldable pub holds_after : List Constraint → List Hold → List ℕ
holds_after constraints holds = flat_map (next_hold constraints) holds

abbrev pub holds_text : List Constraint → List Hold → List ℕ
holds_text constraints [] = []
holds_text constraints (first ∷ rest) = shown (hold_text constraints first ++ holds_after constraints rest)
