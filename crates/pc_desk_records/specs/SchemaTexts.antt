-- What is told of a schema file that is refused.
use Rattle.std.specs.Prelude.{ℕ, ℤ, pos, ◌+◌, List, [], ◌∷◌, ◌++◌, codes, decimal, Option, Some, None}
use Rattle.std.specs.List.{concat}
use Rattle.pc_model.specs.declared.fault.Reason.{Reason}
use Rattle.pc_model.specs.declared.fault.Reason.TheVariants as reasons
use Rattle.pc_model.specs.Texts.{text_of}
use Rattle.pc_schema.specs.declared.halt.Halt.{Halt}
use Rattle.pc_schema.specs.declared.halt.Halt.TheVariants as halts
use Rattle.pc_schema.specs.declared.halt.Wanted.{Wanted}
use Rattle.pc_schema.specs.declared.halt.Wanted.TheVariants as wants
use Rattle.pc_schema.specs.declared.tell.SchemaTold.{SchemaTold}
use Rattle.pc_schema.specs.Told.{told_of}
use Rattle.pc_desk_records.specs.Beginnings.{front_text}
use Rattle.pc_desk_records.specs.RowTexts.{line_end, text_in}
use Rattle.pc_desk_records.specs.Shown.{counted, shown_after}

-- what may stand in a field that gives nothing of what is wanted there
abbrev pub wanted_text : Wanted → List ℕ
wanted_text wants.Name = codes ": a name of 1 to 64 bytes, without control characters, is to stand there"
wanted_text wants.Kind = codes ", and there may stand int, dec or cat"
wanted_text wants.Scale = codes ": a scale of 0 to 6 decimals is to stand there"
wanted_text (wants.Number scale) = codes ": a number is to stand there"

-- a number has at most 10^15 units of its last place
abbrev pub limit_text : Wanted → List ℕ
limit_text (wants.Number scale) = concat (codes ": a number of at most 1000000000000000 is to stand there, without the point of its " ∷ decimal scale ∷ codes " decimals" ∷ [])
limit_text other = wanted_text other

abbrev pub decimals_text : Wanted → List ℕ
decimals_text (wants.Number scale) = concat (codes ": a number with " ∷ decimal scale ∷ codes " decimals at most is to stand there" ∷ [])
decimals_text other = wanted_text other

abbrev pub want_text : Reason → Wanted → List ℕ
want_text reasons.RepeatedName wanted = codes ", which stands before already"
want_text reasons.EmptySpan wanted = codes ", which is below the number before it"
want_text reasons.PastLimit wanted = limit_text wanted
want_text reasons.TooManyDecimals wanted = decimals_text wanted
want_text other wanted = wanted_text wanted

abbrev pub field_text : ℕ → Reason → Wanted → List ℕ → List ℕ
field_text place reason wanted field =
    concat (codes "field " ∷ decimal (place + 1) ∷ shown_after (codes " is ") field ∷ want_text reason wanted ∷ [])

abbrev pub count_text : ℕ → List ℕ
count_text fields = concat (counted fields (codes " field") (codes " fields") ∷ codes ": int has 4, dec has 5, cat has 3 to 130" ∷ [])

abbrev pub halt_text : List ℕ → Halt → List ℕ
halt_text field halts.Room = codes "a schema has 12 columns at most"
halt_text field (halts.Count fields reason) = count_text fields
halt_text field (halts.Field place wanted reason) = field_text place reason wanted field

unfoldable pub record_text : List ℕ → SchemaTold → List ℕ
record_text text told = concat (front_text told.place text ∷ halt_text told.field told.halt ∷ line_end ∷ [])

abbrev pub told_text : List ℕ → Option SchemaTold → List ℕ
told_text text None = []
told_text text (Some told) = record_text text told

-- what stands behind the number of the record for which a schema file is refused: the line on which it begins, what its
-- reader stopped at, and what may stand there
unfoldable pub schema_text : List ℕ → List ℕ
schema_text bytes = told_text (text_in (text_of bytes)) (told_of bytes)
