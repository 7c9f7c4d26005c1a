-- What is told of a reason where nothing of the line can be pointed at.
use Rattle.std.specs.Prelude.{ℕ, List, codes}
use Rattle.pc_model.specs.declared.fault.Reason.{Reason}
use Rattle.pc_model.specs.declared.fault.Reason.TheVariants as reasons

abbrev pub sentence : Reason → List ℕ
sentence reasons.TooMany = codes "there are at most 20 constraints, and four parts between the `or`s"
sentence reasons.RepeatedName = codes "a line of this name stands before, and a name stands once"
sentence reasons.BadNumber = codes "a number of rows, and those of a quantile, are digits alone"
sentence reasons.PastLimit = codes "there are at most 10000000 rows, and the numbers of a quantile go from 1 to 1000"
sentence reasons.LeastOverMost = codes "the first number is greater than the second"
sentence reasons.UnknownName = codes "no line before has this name"
sentence reason = codes "the schema does not have what stands there"
