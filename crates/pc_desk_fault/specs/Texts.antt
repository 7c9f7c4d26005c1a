-- What is told of a text for a reason.
use Rattle.std.specs.Prelude.{Bool, true, false, ℕ, List}
use Rattle.pc_model.specs.declared.fault.Reason.{Reason}
use Rattle.pc_model.specs.declared.fault.Reason.TheVariants as reasons
use Rattle.pc_lang_grammar.specs.declared.want.Want.{Want}
use Rattle.pc_lang_tokens.specs.Lexing.{tokens_of}
use Rattle.pc_schema.specs.SchemaFile.{schema_of}
use Rattle.pc_desk_wants.specs.Told.{IsTold}
use Rattle.pc_desk_fault.specs.declared.meanings.Form.{Form}
use Rattle.pc_desk_fault.specs.Meanings.{IsMeant}

-- is a text refused so before its meaning is asked for?
abbrev pub is_of_reading : Reason → Bool
is_of_reading reasons.BadToken = true
is_of_reading reasons.Unexpected = true
is_of_reading reason = false

-- where reading stops in a text behind a front of its line, which wants this first, or what is told of its meaning
abbrev pub IsToldBy : Bool → Form → List ℕ → Reason → List ℕ → List ℕ → Want → List ℕ → Type 0
IsToldBy true form schema reason front text start told = IsTold front text start told
IsToldBy false form schema reason front text start told = IsMeant form (schema_of schema) (tokens_of text) reason told

abbrev pub IsToldFor : Form → List ℕ → Reason → List ℕ → List ℕ → Want → List ℕ → Type 0
IsToldFor form schema reason front text start told = IsToldBy (is_of_reading reason) form schema reason front text start told
