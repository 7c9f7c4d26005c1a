-- The fields of a column as names.
use Rattle.std.specs.Prelude.{ℕ, ◌-◌, ◌==◌, ◌&&◌, ◌||◌, not, Bool, List, [], ◌∷◌, ◌++◌, length, fold, nat_lt, Option, Some, None, if◌then◌else◌}
use Rattle.std.specs.List.{count_by, list_all, list_any}
use Rattle.std.specs.Str.{bytes_eq}
use Rattle.pc_model.specs.Texts.{is_name}
use Rattle.pc_desk_schema.specs.Dates.{is_date}
use Rattle.pc_desk_schema.specs.Numbers.{is_number, is_past_limit}

-- the greatest number of names
abbrev pub name_limit : ℕ
name_limit = 128

-- more of the fields are so than are not
abbrev pub are_most : (List ℕ → Bool) → List (List ℕ) → Bool
are_most test texts = nat_lt (length texts - count_by test texts) (count_by test texts)

-- a text that may stand as a name, a number or a date among others too, but no number that is not read
abbrev pub may_name : List ℕ → Bool
may_name text = is_name text && not (is_past_limit text)

-- each may stand as a name, and they are not mostly numbers or mostly dates
abbrev pub are_names : List (List ℕ) → Bool
are_names texts = list_all may_name texts && not (are_most is_number texts) && not (are_most is_date texts)

-- these texts, and one more unless it is one of them; none is taken to those that are too many
abbrev pub with_text : List (List ℕ) → List ℕ → List (List ℕ)
with_text before text = if list_any (bytes_eq text) before || nat_lt name_limit (length before) then before else before ++ text ∷ []

-- the different texts after these, in order of the first of each, as far as they are not too many
abbrev pub different_from : List (List ℕ) → List (List ℕ) → List (List ℕ)
different_from before texts = fold with_text before texts

-- one at least, and not too many
abbrev pub few : List (List ℕ) → Option (List (List ℕ))
few names = if (length names == 0) || nat_lt name_limit (length names) then None else Some names

-- the different texts, where they are names
unfoldable pub names_of : List (List ℕ) → Option (List (List ℕ))
names_of texts = if are_names texts then few (different_from [] texts) else None
