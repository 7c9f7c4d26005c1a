-- What is told of a query.
use Rattle.std.specs.Prelude.{◌≡◌, ℕ, ◌-◌, List, [], ◌∷◌, codes, length, take, drop, bytes_eq, Option, Some, None, option_and_then, if◌then◌else◌}
use Rattle.std.specs.List.{concat}
use Rattle.pc_model.specs.declared.fault.Reason.{Reason}
use Rattle.pc_lang_grammar.specs.declared.want.QuantileWant.TheVariants as quantiles
use Rattle.pc_lang_grammar.specs.declared.want.Want.TheVariants as wants
use Rattle.pc_script.specs.Script.{after_blanks}
use Rattle.pc_desk_wants.specs.Told.{line_break}
use Rattle.pc_desk_fault.specs.declared.meanings.Form.TheVariants as forms
use Rattle.pc_desk_fault.specs.Texts.{IsToldFor}

-- what stands after a front, where a text has it
abbrev pub after : List ℕ → List ℕ → Option (List ℕ)
after front text = if bytes_eq (take (length front) text) front then Some (drop (length front) text) else None

-- what stands after `median(`, with blanks before each of them or none
unfoldable pub of_median : List ℕ → Option (List ℕ)
of_median text = option_and_then (λ rest. after (codes "(") (after_blanks rest)) (after (codes "median") (after_blanks text))

-- a text without so many bytes at its end
abbrev pub before : ℕ → List ℕ → List ℕ
before left text = take (length text - left) text

-- the column of a median is read as that of a quantile is
abbrev pub IsMedianTold : List ℕ → Reason → List ℕ → Option (List ℕ) → List ℕ → Type 0
IsMedianTold schema reason text (Some rest) told = IsToldFor forms.Query schema reason (before (length rest) text) rest (wants.Quantile quantiles.Column) told
IsMedianTold schema reason text None told = IsToldFor forms.Query schema reason [] text wants.Asked told

unfoldable pub query_told : List ℕ → List ℕ
query_told told = concat (line_break ∷ told ∷ [])

abbrev pub IsQueryTold : List ℕ → Reason → List ℕ → List ℕ → Type 0
IsQueryTold schema reason text out = (told : List ℕ) × IsMedianTold schema reason text (of_median text) told × (out ≡ query_told told)
