-- The first two cells of each constraint, as far as a pass over the cells has come.
use Rattle.std.specs.Prelude.{◌≡◌, ℕ, ◌+◌, ◌<◌, List, length, Option, Some, None, MatchOption, slice_index_or}
use Rattle.pc_program_bound.specs.declared.program.Program.{Program}
use Rattle.pc_program_bound.specs.Allocation.{constraints_of}
use Rattle.pc_program.specs.Settled.{HasNoneIn, IsFirstIn}
use Rattle.pc_program.specs.declared.members.Members.{Members}

-- the next cell from a place up to another, if there is one
abbrev pub IsNextIn : Program → ℕ → ℕ → ℕ → Option ℕ → Type 0
IsNextIn p k from to found = MatchOption found (HasNoneIn p k from to) (IsFirstIn p k from to)

-- where to look for a second cell: nowhere before there is a first
abbrev pub place_after : Option ℕ → ℕ → ℕ
place_after None to = to
place_after (Some first) to = first + 1

pub record AreFirstTwo (p : Program) (k to : ℕ) (members : Members) : Type 0 where
  pub first : IsNextIn p k 0 to members.first
  pub second : IsNextIn p k (place_after members.first to) to members.second

abbrev pub no_members : Members
no_members = record { first = None; second = None }

abbrev pub members_at : List Members → ℕ → Members
members_at found k = slice_index_or found k no_members

pub record AreGathered (p : Program) (found : List Members) (to : ℕ) : Type 0 where
  pub sized : length found ≡ constraints_of p
  pub each : (k : ℕ) → k < constraints_of p → AreFirstTwo p k to (members_at found k)

-- a cell more, where there are fewer than two
abbrev pub placed : Option ℕ → Option ℕ → ℕ → Members
placed None second cell = record { first = Some cell; second = second }
placed (Some first) None cell = record { first = Some first; second = Some cell }
placed (Some first) (Some second) cell = record { first = Some first; second = Some second }

abbrev pub with_cell : Members → ℕ → Members
with_cell members cell = placed members.first members.second cell
