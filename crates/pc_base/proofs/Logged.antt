-- A log of loads, load by load.
use Rattle.std.proofs.Common.{◌≡◌, List, [], ◌∷◌, ◌++◌, sym, ap, ◌∙◌, append_assoc, append-nil}
use Rattle.pc_base.specs.Loads.{Load, Chain}
use Rattle.pc_base.specs.Logs.{IsLogged, HadMemory}

-- what has a log has got the loads that led to it
pub chain_is_logged : {S : Type 0} (log : S → List Load) (old new : S) (loads : List Load)
    → Chain (λ before name loaded after. IsLogged (log before) name loaded (log after)) old new loads → HadMemory loads → log new ≡ log old ++ loads
chain_is_logged log old new [] same had = ap log same ∙ sym (append-nil (log old))
chain_is_logged log old new (load ∷ loads) did had =
    chain_is_logged log did.0 new loads did.2 had.1 ∙ ap (λ front. front ++ loads) (did.1 had.0) ∙ append_assoc (log old) (load ∷ []) loads
