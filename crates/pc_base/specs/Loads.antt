-- What a load gives.
use Rattle.std.specs.Prelude.{◌≡◌, ℕ, ◌+◌, ◌<◌, ◌≤◌, ◌⊎◌, ⊤, List, [], ◌∷◌, length, take, Option, Some, IsSomeAnd, IfSome}
use Rattle.pc_base.specs.declared.outside.Loaded.{Loaded}
use Rattle.pc_base.specs.declared.outside.Loaded.TheVariants.{Whole, Long, Failed, Memory}
use Rattle.pc_base.specs.Counts.{Rose, next_count}
use Rattle.pc_base.specs.Files.{Files, file_of, IsAbsent}

-- all bytes of the file, or one more than the limit of a longer one
abbrev pub Gives : Option Files → List ℕ → ℕ → Loaded → List ℕ → Type 0
Gives told name limit Whole into =
    (length into ≤ limit) × IfSome told (λ files. file_of files name ≡ Some into)
Gives told name limit Long into =
    (length into ≡ limit + 1) × IfSome told (λ files. IsSomeAnd (file_of files name) (λ bytes. (into ≡ take (limit + 1) bytes) × (limit < length bytes)))
Gives told name limit Failed into = ⊤
Gives told name limit Memory into = ⊤

-- a failure has a fault, or a name that is not held
abbrev pub HasLoadCause : Option Files → List ℕ → ℕ → ℕ → Loaded → Type 0
HasLoadCause told name before now Failed = Rose before now ⊎ IsAbsent told name
HasLoadCause told name before now Whole = ⊤
HasLoadCause told name before now Long = ⊤
HasLoadCause told name before now Memory = ⊤

-- what a load of these bytes leaves, where it finds them
abbrev pub Copies : List ℕ → ℕ → Loaded → List ℕ → Type 0
Copies bytes limit Whole into = (length bytes ≤ limit) × (into ≡ bytes)
Copies bytes limit Long into = (limit < length bytes) × (into ≡ take (limit + 1) bytes)
Copies bytes limit Failed into = ⊥
Copies bytes limit Memory into = ⊤

-- each failure is counted, and nothing else is
abbrev pub CountsFault : ℕ → Loaded → ℕ → Type 0
CountsFault before Failed now = now ≡ next_count before
CountsFault before Whole now = now ≡ before
CountsFault before Long now = now ≡ before
CountsFault before Memory now = now ≡ before

-- a load: the name, and what was done
abbrev pub Load : Type 0
Load = List ℕ × Loaded

-- these loads, one after the other and no other, lead from the old shelf to the new
abbrev pub Chain : {S : Type 0} → (S → List ℕ → Loaded → S → Type 0) → S → S → List Load → Type 0
Chain leads old new [] = new ≡ old
Chain {S} leads old new (load ∷ loads) = (next : S) × leads old load.0 load.1 next × Chain leads next new loads
