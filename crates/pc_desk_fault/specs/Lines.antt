-- What is told of a line of a file.
use Rattle.std.specs.Prelude.{◌≡◌, ℕ, zero, suc, List, [], ◌∷◌, codes, Option, Some, None}
use Rattle.std.specs.List.{concat}
use Rattle.pc_model.specs.declared.fault.Reason.{Reason}
use Rattle.pc_lang_grammar.specs.declared.want.LineWant.TheVariants as lines
use Rattle.pc_lang_grammar.specs.declared.want.Want.TheVariants as wants
use Rattle.pc_lang.specs.Files.{without_return}
use Rattle.pc_desk_wants.specs.Shown.{shown}
use Rattle.pc_desk_wants.specs.Told.{line_break}
use Rattle.pc_desk_fault.specs.declared.meanings.Form.TheVariants as forms
use Rattle.pc_desk_fault.specs.Texts.{IsToldFor}

-- the item before which so many stand
unfoldable pub nth : {X : Type 0} → ℕ → List X → Option X
nth n [] = None
nth zero (x ∷ rest) = Some x
nth (suc n) (x ∷ rest) = nth n rest

-- the line itself, and what is told of it
unfoldable pub line_told : List ℕ → List ℕ → List ℕ
line_told line told = concat (codes ": " ∷ shown line ∷ line_break ∷ told ∷ [])

-- what is told of the line of a constraint
abbrev pub IsLineTold : List ℕ → Reason → List ℕ → List ℕ → Type 0
IsLineTold schema reason line out = (told : List ℕ) × IsToldFor forms.Line schema reason [] line (wants.Line lines.Head) told × (out ≡ line_told line told)

-- .. that a file has, or not
abbrev pub IsPlaceTold : List ℕ → Reason → Option (List ℕ) → List ℕ → Type 0
IsPlaceTold schema reason (Some line) out = IsLineTold schema reason (without_return line) out
IsPlaceTold schema reason None out = out ≡ line_break
