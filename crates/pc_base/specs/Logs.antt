-- What a log of loads keeps.
use Rattle.std.specs.Prelude.{◌≡◌, ◌≢◌, ℕ, ⊤, List, [], ◌∷◌, ◌++◌}
use Rattle.pc_base.specs.declared.outside.Loaded.{Loaded}
use Rattle.pc_base.specs.declared.outside.Loaded.TheVariants.{Memory}
use Rattle.pc_base.specs.Loads.{Load}

-- the load is kept behind those that were there, unless memory was wanting
abbrev pub IsLogged : List Load → List ℕ → Loaded → List Load → Type 0
IsLogged old name loaded new = loaded ≢ Memory → new ≡ old ++ (name, loaded) ∷ []

-- none of the loads wanted memory
abbrev pub HadMemory : List Load → Type 0
HadMemory [] = ⊤
HadMemory (load ∷ loads) = (load.1 ≢ Memory) × HadMemory loads
