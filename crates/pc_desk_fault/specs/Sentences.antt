-- What is told of a reason alone.
use Rattle.std.specs.Prelude.{ℕ, List, [], ◌∷◌, codes}
use Rattle.std.specs.List.{concat}
use Rattle.pc_model.specs.declared.fault.Reason.{Reason}
use Rattle.pc_model.specs.declared.fault.Reason.TheVariants as reasons
use Rattle.pc_desk_wants.specs.Told.{line_break}

abbrev pub sentence : Reason → List ℕ
sentence reasons.NotUtf8 = codes "the file is to be saved as UTF-8"
sentence reasons.BadName = codes "a name has 1 to 64 bytes of UTF-8, none of them of a control character"
sentence reasons.NoHeader = codes "a schema has a record for each column, and a row file begins with a record of their names"
sentence reasons.UnknownColumn = codes "a column is named as it is in the schema, byte for byte"
sentence reasons.MissingColumn = codes "the header names each column of the schema, with commas between the names"
sentence reasons.RepeatedName = codes "a name stands once, and so does a line of `outside`"
sentence reasons.BadKind = codes "the second field is `int`, `dec` or `cat`"
sentence reasons.BadNumber = codes "a number is digits, with a sign before them or not, and with a point and digits after them or not; a number of rows and those of a quantile are digits alone"
sentence reasons.PastLimit = codes "a number is at most 1,000,000,000,000,000, its point left out at the scale of its column; a number of rows is at most 10,000,000, and those of a quantile are from 1 to 1,000"
sentence reasons.TooManyDecimals = codes "a number has no more decimals than its column, but for zeros"
sentence reasons.OutsideDomain = codes "a number is from the least to the greatest of its column, and a row that is dropped is one of those that are held"
sentence reasons.UnknownName = codes "a name is one of those of its column, byte for byte, and a constraint that is dropped is one of those that are held"
sentence reasons.FieldCount = codes "a row has as many fields as the header, or in a script as the schema has columns"
sentence reasons.TooMany = codes "there are at most 12 columns, 128 names of a column, 1,000,000 rows, 20 constraints, 4 parts of an area, 10,000 lines of a script and 1,000 questions of it"
sentence reasons.BadToken = codes "no sign, name or number begins somewhere in it"
sentence reasons.Unexpected = codes "it is not as the grammar has it"
sentence reasons.EmptySpan = codes "the first number is at most the second, and something is left of what the column may hold"
sentence reasons.LeastOverMost = codes "the least number of rows is at most the greatest, and the first number of a quantile at most the second"
sentence reasons.WrongKind = codes "a number is stated of a column of numbers and a name of one of names, all but a count ask for a column of numbers, and `group by` for one of names"
sentence reasons.TooLong = codes "a file has at most 67,108,864 bytes, and a document at most 268,435,456"

-- .. in a line of its own
unfoldable pub sentence_line : Reason → List ℕ
sentence_line reason = concat (codes "    " ∷ sentence reason ∷ line_break ∷ [])
