-- What is told of a text that is read, and whose meaning is refused.
use Rattle.std.specs.Prelude.{◌≡◌, ℕ, List, Result, Ok, Err}
use Rattle.pc_model.specs.declared.fault.Fault.{Fault}
use Rattle.pc_model.specs.declared.fault.Reason.{Reason}
use Rattle.pc_model.specs.declared.schema.Schema.{Schema}
use Rattle.pc_lang_tokens.specs.declared.token.Token.{Token}
use Rattle.pc_desk_meanings.specs.Meanings.{TellsLine, TellsQuery}
use Rattle.pc_desk_fault.specs.declared.meanings.Form.{Form}
use Rattle.pc_desk_fault.specs.declared.meanings.Form.TheVariants as forms
use Rattle.pc_desk_fault.specs.Sentences.{sentence_line}

-- of the line of a constraint and of a query, by their tokens
abbrev pub TellsMeaning : Form → Schema → List Token → Reason → List ℕ → Type 0
TellsMeaning forms.Line schema list reason told = TellsLine schema list reason told
TellsMeaning forms.Query schema list reason told = TellsQuery schema list reason told

-- .. where there are a schema and tokens
abbrev pub IsMeant : Form → Result Schema Fault → Result (List Token) Reason → Reason → List ℕ → Type 0
IsMeant form (Ok schema) (Ok list) reason told = TellsMeaning form schema list reason told
IsMeant form (Ok schema) (Err other) reason told = told ≡ sentence_line reason
IsMeant form (Err fault) tokens reason told = told ≡ sentence_line reason
