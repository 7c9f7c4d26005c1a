-- Where a record begins in a text of comma-separated values, and on which line a place is.
use Rattle.std.specs.Prelude.{ℕ, zero, suc, ◌+◌, ◌-◌, ◌==◌, ◌&&◌, ◌||◌, not, Bool, false, List, [], ◌∷◌, codes, decimal, take, Option, Some, None, if◌then◌else◌}
use Rattle.std.specs.List.{concat}
use Rattle.pc_desk_records.specs.declared.begin.Stance.{Stance}
use Rattle.pc_desk_records.specs.declared.begin.Stance.TheVariants as stances
use Rattle.pc_desk_records.specs.declared.begin.Passage.{Passage}

-- does a record begin with the byte? Empty lines are none.
abbrev pub begins : Stance → ℕ → Bool
begins stances.Between byte = not (byte == 13) && not (byte == 10)
begins other byte = false

abbrev pub in_field : ℕ → Stance
in_field byte = if byte == 44 then stances.Opening else (if (byte == 13) || (byte == 10) then stances.Between else stances.Plain)

abbrev pub opening : ℕ → Stance
opening byte = if byte == 34 then stances.Quoted else in_field byte

abbrev pub in_quotes : ℕ → Stance
in_quotes byte = if byte == 34 then stances.Quote else stances.Quoted

abbrev pub behind_quote : ℕ → Stance
behind_quote byte = if byte == 34 then stances.Quoted else in_field byte

abbrev pub stance_after : Stance → ℕ → Stance
stance_after stances.Between byte = opening byte
stance_after stances.Opening byte = opening byte
stance_after stances.Plain byte = in_field byte
stance_after stances.Quoted byte = in_quotes byte
stance_after stances.Quote byte = behind_quote byte

abbrev pub is_there : Passage → ℕ → Bool
is_there passage byte = (passage.left == 0) && begins passage.stance byte

abbrev pub left_after : Passage → ℕ → ℕ
left_after passage byte = if begins passage.stance byte then passage.left - 1 else passage.left

abbrev pub passed : Passage → ℕ → Passage
passed passage byte = record { stance = stance_after passage.stance byte; left = left_after passage byte }

-- the place at which the sought record begins, among bytes from a place on
unfoldable pub begin_from : Passage → ℕ → List ℕ → Option ℕ
begin_from passage place [] = None
begin_from passage place (byte ∷ rest) = if is_there passage byte then Some place else begin_from (passed passage byte) (place + 1) rest

-- the place at which the record begins before which so many stand
unfoldable pub begin_of : ℕ → List ℕ → Option ℕ
begin_of before text = begin_from (record { stance = stances.Between; left = before }) 0 text

abbrev pub one_for : ℕ → ℕ
one_for byte = if byte == 10 then 1 else 0

unfoldable pub feeds_in : List ℕ → ℕ
feeds_in [] = 0
feeds_in (byte ∷ rest) = one_for byte + feeds_in rest

-- the line on which a place is, from 1
abbrev pub line_at : ℕ → List ℕ → ℕ
line_at place text = feeds_in (take place text) + 1

-- the item before which so many stand
unfoldable pub nth : {X : Type 0} → ℕ → List X → Option X
nth n [] = None
nth zero (x ∷ rest) = Some x
nth (suc n) (x ∷ rest) = nth n rest

abbrev pub line_text : ℕ → List ℕ
line_text line = concat (codes " (line " ∷ decimal line ∷ codes "): " ∷ [])

abbrev pub front_at : Option ℕ → List ℕ → List ℕ
front_at None text = codes ": "
front_at (Some place) text = line_text (line_at place text)

-- the line on which the record begins that has this number, from 1, before what is told of it
unfoldable pub front_text : ℕ → List ℕ → List ℕ
front_text number text = front_at (begin_of (number - 1) text) text
