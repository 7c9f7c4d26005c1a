-- The keys at which the end of a least or a greatest number can stand, and the programs that test them.
use Rattle.std.specs.Prelude.{◌≡◌, ⊤, ℕ, suc, ◌<◌, ◌-◌, ◌⊎◌, ℤ, ◌≤ℤ◌, ◌<ℤ◌, int_lt, int_le, true, List, length, map, ◌++◌, All, Any, Option, Some, None, IfSome, MatchOption}
use Rattle.pc_model.specs.declared.tree.Tree.{Tree}
use Rattle.pc_model.specs.Cells.{Class}
use Rattle.pc_program_bound.specs.declared.program.Program.{Program}
use Rattle.pc_program_bound.specs.Sums.{int_at}
use Rattle.pc_proof.specs.Setting.{Setting, cells, on_chosen, counting, program_for, program_without}
use Rattle.pc_branch_licences.specs.Pools.{AreLawful}
use Rattle.pc_agg_search.specs.declared.extreme.Extreme.{Extreme}
use Rattle.pc_agg.specs.declared.ladder.Test.{Test}
use Rattle.pc_agg.specs.declared.ladder.Test.TheVariants.{Reach, Avoid}
use Rattle.pc_agg.specs.declared.ladder.Ladder.{Ladder}
use Rattle.pc_agg.specs.declared.climb.Climbed.{Climbed}
use Rattle.pc_agg.specs.declared.climb.Climbed.TheVariants as climbs
use Rattle.pc_agg.specs.declared.climb.Standing.{Standing}
use Rattle.pc_agg_search.specs.declared.want.Want.{Want}
use Rattle.pc_agg_search.specs.Fitting.{IsVoidTree}
use Rattle.pc_agg_search.specs.Keys.{key_of}
use Rattle.pc_agg_search.specs.Wants.{IsDoubt, IsFound, FallsShort}

-- rows of the cells that reach a key; or lists without rows of the cells that fall short of it
abbrev pub reaches : Setting → Extreme → ℤ → Program
reaches s extreme key = program_for s (counting (λ class. int_le key (key_of s extreme class)))

abbrev pub avoids : Setting → Extreme → ℤ → Program
avoids s extreme key = program_without s (λ class. int_lt (key_of s extreme class) key)

abbrev pub rung_program : Setting → Extreme → Test → ℤ → Program
rung_program s extreme Reach key = reaches s extreme key
rung_program s extreme Avoid key = avoids s extreme key

-- ---- the rungs

-- no chosen cell has a key between
abbrev pub AreApart : Setting → Extreme → ℤ → ℤ → Type 0
AreApart s extreme below above = All (λ (class : Class). class.chosen ≡ true → (key_of s extreme class ≤ℤ below) ⊎ (above ≤ℤ key_of s extreme class)) (cells s)

-- a chosen cell has the key
abbrev pub IsKey : Setting → Extreme → ℤ → Type 0
IsKey s extreme key = Any (λ (class : Class). (class.chosen ≡ true) × (key_of s extreme class ≡ key)) (cells s)

abbrev pub AllUpTo : Setting → Extreme → ℤ → Type 0
AllUpTo s extreme key = All (λ (class : Class). class.chosen ≡ true → key_of s extreme class ≤ℤ key) (cells s)

abbrev pub AllFrom : Setting → Extreme → ℤ → Type 0
AllFrom s extreme key = All (λ (class : Class). class.chosen ≡ true → key ≤ℤ key_of s extreme class) (cells s)

-- the keys of chosen cells above what was observed, and below them that, where it is there
abbrev pub IsReachRung : Setting → Extreme → Option ℤ → List ℤ → ℕ → Type 0
IsReachRung s extreme seen rungs place =
    (IsKey s extreme (int_at rungs place) × IfSome seen (λ m. m <ℤ int_at rungs place))
    ⊎ ((suc place ≡ length rungs) × (seen ≡ Some (int_at rungs place)))

-- the keys of chosen cells below what was observed, and above them that, where it is there
abbrev pub IsAvoidRung : Setting → Extreme → Option ℤ → List ℤ → ℕ → Type 0
IsAvoidRung s extreme seen rungs place =
    (IsKey s extreme (int_at rungs place) ⊎ (seen ≡ Some (int_at rungs place)))
    × IfSome seen (λ m. int_at rungs place ≤ℤ m)

abbrev pub IsRung : Setting → Extreme → Test → Option ℤ → List ℤ → ℕ → Type 0
IsRung s extreme Reach seen rungs place = IsReachRung s extreme seen rungs place
IsRung s extreme Avoid seen rungs place = IsAvoidRung s extreme seen rungs place

-- the first rung: no key is above it, or it is what was observed
abbrev pub IsTop : Setting → Extreme → Test → Option ℤ → ℤ → Type 0
IsTop s extreme Reach seen first = AllUpTo s extreme first
IsTop s extreme Avoid seen first = MatchOption seen (AllUpTo s extreme first) (λ m. first ≡ m)

-- the last rung: no key is below it, or it is what was observed
abbrev pub IsBottom : Setting → Extreme → Test → Option ℤ → ℤ → Type 0
IsBottom s extreme Reach seen last = MatchOption seen (AllFrom s extreme last) (λ m. last ≡ m)
IsBottom s extreme Avoid seen last = AllFrom s extreme last

pub record AreRungs (s : Setting) (extreme : Extreme) (test : Test) (seen : Option ℤ) (rungs : List ℤ) : Type 0 where
  pub falling : (place : ℕ) → suc place < length rungs → int_at rungs (suc place) <ℤ int_at rungs place
  pub apart : (place : ℕ) → suc place < length rungs → AreApart s extreme (int_at rungs (suc place)) (int_at rungs place)
  pub each : (place : ℕ) → place < length rungs → IsRung s extreme test seen rungs place
  pub top : 0 < length rungs → IsTop s extreme test seen (int_at rungs 0)
  pub bottom : 0 < length rungs → IsBottom s extreme test seen (int_at rungs (length rungs - 1))
  pub absent : length rungs ≡ 0 → (seen ≡ None) × All (λ (class : Class). class.chosen ≡ true → ⊥) (cells s)

-- the keys of a ladder are those of the cells
abbrev pub IsLadder : Setting → Ladder → Type 0
IsLadder s ladder = ladder.keys ≡ map (on_chosen (key_of s ladder.extreme)) (cells s)

abbrev pub program_at : Setting → Ladder → ℕ → Program
program_at s ladder place = rung_program s ladder.extreme ladder.test (int_at ladder.rungs place)

-- ---- where an end stands

-- the rung before is not reached, or cannot be avoided
abbrev pub IsStep : Setting → ℕ → Ladder → Want → ℕ → Option Tree → Type 0
IsStep s budget ladder want place None = place ≡ 0
IsStep s budget ladder want place (Some tree) = (before : ℕ) × (place ≡ suc before) × FallsShort (program_at s ladder before) want budget tree

-- the rungs before are shown not to be ends, and this one, unless it is the last, is in doubt
pub record IsStanding (s : Setting) (budget : ℕ) (ladder : Ladder) (want : Want) (found : List (List ℕ)) (standing : Standing) : Type 0 where
  pub inside : standing.place < length ladder.rungs
  pub more : List (List ℕ)
  pub grown : standing.found ≡ found ++ more
  pub lawful : All (AreLawful s) more
  pub step : IsStep s budget ladder want standing.place standing.tree
  pub doubt : suc standing.place < length ladder.rungs → IsDoubt (program_at s ladder standing.place) want budget standing.found

-- where an end stands, or that there is no list
abbrev pub IsClimbed : Setting → ℕ → Ladder → Want → List (List ℕ) → Climbed → Type 0
IsClimbed s budget ladder want found (climbs.At standing) = IsStanding s budget ladder want found standing
IsClimbed s budget ladder want found (climbs.Empty tree) = IsVoidTree s budget tree

-- no search was cut short
abbrev pub IsClimbedSurely : Setting → Ladder → Want → Climbed → Type 0
IsClimbedSurely s ladder want (climbs.At standing) =
    suc standing.place < length ladder.rungs → Any (IsFound (program_at s ladder standing.place) want) standing.found
IsClimbedSurely s ladder want (climbs.Empty tree) = ⊤
