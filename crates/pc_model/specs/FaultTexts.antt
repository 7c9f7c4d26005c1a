-- How reasons and files are printed.
use Rattle.std.specs.Prelude.{ℕ, List, codes}
use Rattle.pc_model.specs.declared.fault.FileKind.{FileKind}
use Rattle.pc_model.specs.declared.fault.FileKind.TheVariants as kinds
use Rattle.pc_model.specs.declared.fault.Reason.{Reason}
use Rattle.pc_model.specs.declared.fault.Reason.TheVariants as reasons

abbrev pub number_of : Reason → ℕ
number_of reasons.NotUtf8 = 1
number_of reasons.BadName = 2
number_of reasons.NoHeader = 3
number_of reasons.UnknownColumn = 4
number_of reasons.MissingColumn = 5
number_of reasons.RepeatedName = 6
number_of reasons.BadKind = 7
number_of reasons.BadNumber = 8
number_of reasons.PastLimit = 9
number_of reasons.TooManyDecimals = 10
number_of reasons.OutsideDomain = 11
number_of reasons.UnknownName = 12
number_of reasons.FieldCount = 13
number_of reasons.TooMany = 14
number_of reasons.BadToken = 15
number_of reasons.Unexpected = 16
number_of reasons.EmptySpan = 17
number_of reasons.LeastOverMost = 18
number_of reasons.WrongKind = 19
number_of reasons.TooLong = 20

abbrev pub name_of : Reason → List ℕ
name_of reasons.NotUtf8 = codes "NotUtf8"
name_of reasons.BadName = codes "BadName"
name_of reasons.NoHeader = codes "NoHeader"
name_of reasons.UnknownColumn = codes "UnknownColumn"
name_of reasons.MissingColumn = codes "MissingColumn"
name_of reasons.RepeatedName = codes "RepeatedName"
name_of reasons.BadKind = codes "BadKind"
name_of reasons.BadNumber = codes "BadNumber"
name_of reasons.PastLimit = codes "PastLimit"
name_of reasons.TooManyDecimals = codes "TooManyDecimals"
name_of reasons.OutsideDomain = codes "OutsideDomain"
name_of reasons.UnknownName = codes "UnknownName"
name_of reasons.FieldCount = codes "FieldCount"
name_of reasons.TooMany = codes "TooMany"
name_of reasons.BadToken = codes "BadToken"
name_of reasons.Unexpected = codes "Unexpected"
name_of reasons.EmptySpan = codes "EmptySpan"
name_of reasons.LeastOverMost = codes "LeastOverMost"
name_of reasons.WrongKind = codes "WrongKind"
name_of reasons.TooLong = codes "TooLong"

abbrev pub file_name_of : FileKind → List ℕ
file_name_of kinds.Schema = codes "schema"
file_name_of kinds.Rows = codes "rows"
file_name_of kinds.Constraints = codes "constraints"
file_name_of kinds.Query = codes "query"
file_name_of kinds.Document = codes "document"
file_name_of kinds.Script = codes "script"
file_name_of kinds.Limits = codes "limits"
