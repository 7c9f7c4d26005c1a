-- The parts of an end.
use Rattle.std.specs.Prelude.{◌≡◌, pos, ◌<ℤ◌, Bool, List, ◌++◌, IsPermutation, IsSortedBy}
use Rattle.std.specs.List.Sorted.{IsStableBy}
use Rattle.std.specs.Ordering.{is_lt, nat_cmp}
use Rattle.pc_model.specs.Accepted.{AreConstraints, IsQuery}
use Rattle.pc_model.specs.Possible.{IsPossible}
use Rattle.pc_model.specs.Runs.{AreRuns, rows_of}
use Rattle.pc_model.specs.WellFormed.{IsWellFormed}
use Rattle.pc_desk_parts.specs.declared.asked.Asked.{Asked}
use Rattle.pc_desk_parts.specs.declared.asked.Reached.{Reached}
use Rattle.pc_desk_parts.specs.declared.part.Part.{Part}
use Rattle.pc_desk_parts.specs.Ends.{size_of}
use Rattle.pc_desk_parts.specs.Lost.{lost_parts}
use Rattle.pc_desk_parts.specs.Made.{observed_parts}

-- what is asked is well-formed, and the lost rows that reach the end are possible
pub record IsReached (ask : Asked) (reached : Reached) : Type 0 where
  pub schema : IsWellFormed ask.schema.now
  pub constraints : AreConstraints ask.schema.now ask.constraints.now
  pub query : IsQuery ask.schema.now ask.query.now
  pub runs : AreRuns reached.runs.now
  pub possible : IsPossible ask.schema.now ask.constraints.now (rows_of reached.runs.now)
  pub positive : pos 0 <ℤ reached.value.den

-- a part that adds more than another, whatever the sign
abbrev pub adds_more : Part → Part → Bool
adds_more part other = is_lt (nat_cmp (size_of other.adds) (size_of part.adds))

-- the parts in an order in which none adds more than one before it, and those that add the same stand as they did
pub record AreOrdered (parts ordered : List Part) : Type 0 where
  pub same : IsPermutation parts ordered
  pub falling : IsSortedBy adds_more ordered
  pub stable : IsStableBy adds_more parts ordered

-- those of observed rows, and then those of lost rows in order
pub record ArePartsOf (ask : Asked) (reached : Reached) (parts : List Part) : Type 0 where
  pub lost : List Part
  pub whole : parts ≡ observed_parts ask reached ++ lost
  pub ordered : AreOrdered (lost_parts ask reached) lost
