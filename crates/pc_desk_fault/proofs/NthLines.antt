-- The lines that are left before the one that is sought.
use Rattle.std.proofs.Common.{◌≡◌, ◌≢◌, ℕ, zero, suc, ◌-◌, List, [], ◌∷◌, refl, arith}
use Rattle.std.specs.Prelude.{Some, None}
use Rattle.pc_lang.specs.Files.{lines_of}
use Rattle.pc_desk_fault.specs.Lines.{nth}

passed : {X : Type 0} (left : ℕ) (x : X) (rest : List X) → left ≢ 0 → nth left (x ∷ rest) ≡ nth (left - 1) rest
unfolding nth
passed zero x rest some = absurd (some refl)
passed (suc left) x rest some = let e : suc left - 1 ≡ left = omega arith in rw e refl

found : {X : Type 0} (left : ℕ) (x : X) (rest : List X) → left ≡ 0 → nth left (x ∷ rest) ≡ Some x
unfolding nth
found zero x rest none = refl
found (suc left) x rest none = absurd (omega (arith, none))

pub line_passed : (left : ℕ) (text line after : List ℕ) → lines_of text ≡ line ∷ lines_of after → left ≢ 0 → nth left (lines_of text) ≡ nth (left - 1) (lines_of after)
line_passed left text line after cut some = rw cut (passed left line (lines_of after) some)

pub line_found : (left : ℕ) (text line after : List ℕ) → lines_of text ≡ line ∷ lines_of after → left ≡ 0 → nth left (lines_of text) ≡ Some line
line_found left text line after cut none = rw cut (found left line (lines_of after) none)

pub ruleset steps = (line_passed, line_found)

pub last_found : (left : ℕ) (text : List ℕ) → left ≡ 0 → nth left (text ∷ []) ≡ Some text
last_found left text none = found left text [] none

pub none_last : (left : ℕ) (text : List ℕ) → left ≢ 0 → nth left (text ∷ []) ≡ None
unfolding nth
none_last left text some = passed left text [] some

pub ruleset lasts = (last_found, none_last)
