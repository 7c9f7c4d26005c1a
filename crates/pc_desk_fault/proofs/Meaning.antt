-- What is told of a meaning, from what is read.
use Rattle.std.proofs.Common.{◌≡◌, ℕ, List, Ok, Err, sym, subst}
use Rattle.pc_model.specs.declared.fault.Fault.{Fault}
use Rattle.pc_model.specs.declared.fault.Reason.{Reason}
use Rattle.pc_model.specs.declared.schema.Schema.{Schema}
use Rattle.pc_lang_tokens.specs.declared.tokens.Tokens.{Tokens}
use Rattle.pc_lang_tokens.specs.Lexing.{tokens_of}
use Rattle.pc_lang_tokens.specs.Places.{AreTokens, BeginsNone}
use Rattle.pc_schema.specs.SchemaFile.{schema_of}
use Rattle.pc_desk_fault.specs.declared.meanings.Form.{Form}
use Rattle.pc_desk_fault.specs.Meanings.{IsMeant, TellsMeaning}
use Rattle.pc_desk_fault.specs.Sentences.{sentence_line}

module _ (form : Form) (reason : Reason) (text told : List ℕ) where
  pub schema_read : (bytes : List ℕ) (schema : Schema) → schema_of bytes ≡ Ok schema → IsMeant form (Ok schema) (tokens_of text) reason told → IsMeant form (schema_of bytes) (tokens_of text) reason told
  schema_read bytes schema is means = subst (λ found. IsMeant form found (tokens_of text) reason told) (sym is) means

  pub no_schema : (bytes : List ℕ) (fault : Fault) → schema_of bytes ≡ Err fault → told ≡ sentence_line reason → IsMeant form (schema_of bytes) (tokens_of text) reason told
  no_schema bytes fault is e = subst (λ found. IsMeant form found (tokens_of text) reason told) (sym is) e

  pub list_read : (schema : Schema) (tokens : Tokens) → AreTokens text tokens → TellsMeaning form schema tokens.list reason told → IsMeant form (Ok schema) (tokens_of text) reason told
  list_read schema tokens are means = subst (λ list. IsMeant form (Ok schema) list reason told) (sym are.all) means

  pub no_list : (schema : Schema) (place : ℕ) → BeginsNone text place → told ≡ sentence_line reason → IsMeant form (Ok schema) (tokens_of text) reason told
  no_list schema place none e = subst (λ list. IsMeant form (Ok schema) list reason told) (sym none.refused) e

pub ruleset schemas = (schema_read, no_schema)

pub ruleset lists = (list_read, no_list)
