-- A likely value that is written again and compared, where it is good.
use Rattle.std.proofs.Common.{◌≡◌, ◌&&◌, Bool, false, List, ℕ, Option, Some, None, refl, sym, ap}
use Rattle.std.specs.Prelude.{IfSome, bytes_eq, if◌then◌else◌}
use Rattle.pc_document_format.specs.Formats.{if_spelled}

-- a likely value that is not good is none
pub none_kept : {A : Type 0} (text : A → List ℕ) (is_good : A → Bool) (line : List ℕ) (likely : Option A) → IfSome likely (λ x. is_good x ≡ false) → None ≡ if_spelled text is_good line likely
none_kept text is_good line None refused = refl
none_kept text is_good line (Some x) refused = ap (λ (test : Bool). if test && bytes_eq (text x) line then Some x else None) (sym refused)
