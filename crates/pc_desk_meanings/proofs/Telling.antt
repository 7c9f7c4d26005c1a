-- What is told is of the condition that was found.
use Rattle.std.proofs.Common.{◌≡◌, ℕ, List}
use Rattle.std.specs.Prelude.{IfSome, Option}
use Rattle.pc_model.specs.declared.fault.Reason.{Reason}
use Rattle.pc_model.specs.declared.schema.Schema.{Schema}
use Rattle.pc_lang_tokens.specs.declared.token.Token.{Token}
use Rattle.pc_desk_meanings.specs.declared.atom.Atom.{Atom}
use Rattle.pc_desk_meanings.specs.Atoms.{IsRefusedAtom}
use Rattle.pc_desk_meanings.specs.Meanings.{TellsLine, TellsQuery, before_frequency, line_words, lined, query_words, words_in}

pub tells_line : (schema : Schema) (list clauses : List Token) (reason : Reason) (found : Option Atom) (text : List ℕ) → clauses ≡ before_frequency list → IfSome found (IsRefusedAtom schema clauses) → text ≡ lined (line_words schema list clauses reason found) → TellsLine schema list reason text
tells_line schema list clauses reason found text is refused told =
    record { found = found; refused = rw is at refused; told = rw is at told }

pub tells_query : (schema : Schema) (list : List Token) (reason : Reason) (found : Option Atom) (text : List ℕ) → IfSome found (IsRefusedAtom schema list) → text ≡ lined (query_words schema list reason (words_in schema list reason found)) → TellsQuery schema list reason text
tells_query schema list reason found text refused told = record { found = found; refused = refused; told = told }

pub ruleset line_told = (tells_line)

pub ruleset query_told = (tells_query)
