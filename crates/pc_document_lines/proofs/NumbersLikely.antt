-- What is read of a line where no likely value is good.
use Rattle.std.proofs.Common.{◌≡◌, ◌&&◌, List, ℕ, refl, ap, sym, Bool, true, false, Option, Some, None, if◌then◌else◌}
use Rattle.std.specs.Prelude.{bytes_eq}
use Rattle.pc_document_format.specs.Formats.{if_spelled}
use Rattle.pc_document_lines.specs.Likely.{IsLikely}

-- no likely value is good
pub none_likely : {A : Type 0} (text : A → List ℕ) (is_good : A → Bool) (line : List ℕ) (likely : Option A) → IsLikely is_good likely None → None ≡ if_spelled text is_good line likely
none_likely text is_good line None refused = refl
none_likely text is_good line (Some x) refused = ap (λ (test : Bool). if test && bytes_eq (text x) line then Some x else None) (sym refused)

-- a test that fails with any other before it
pub both_false : (test other : Bool) → other ≡ false → (test && other) ≡ false
both_false true other e = e
both_false false other e = refl
