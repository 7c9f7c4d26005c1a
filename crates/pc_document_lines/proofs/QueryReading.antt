-- A query is read from the text of its line.
use Rattle.std.proofs.Common.{◌≡◌, ℕ, true, List, Option, Some, None, Result, Ok, Err, refl, sym, ap, ◌∙◌, subst, inl, inr}
use Rattle.std.specs.Prelude.{bytes_eq, drop}
use Rattle.std.specs.Str.{IsUtf8}
use Rattle.std.proofs.lemmas.Bool.{cases_Bool}
use Rattle.std.proofs.lemmas.Slice.Eq.{bytes_eq-Decides}
use Rattle.std.proofs.lemmas.Str.{IsUtf8-from_is_utf8}
use Rattle.pc_model.specs.declared.fault.FileKind.TheVariants as files
use Rattle.pc_model.specs.declared.fault.Fault.{Fault}
use Rattle.pc_model.specs.declared.fault.Reason.{Reason}
use Rattle.pc_model.specs.declared.schema.Schema.{Schema}
use Rattle.pc_model.specs.declared.query.Query.{Query}
use Rattle.pc_model.specs.Accepted.{IsQuery}
use Rattle.pc_model.specs.Refusals.{placed}
use Rattle.pc_model.specs.WellFormed.{IsWellFormed}
use Rattle.pc_lang_tokens.proofs.ScaledTexts.{numbers_are_spelled}
use Rattle.pc_lang_tokens.proofs.TextBytes.{tokens_text_is_text}
use Rattle.pc_lang.specs.Canonical.{query_text}
use Rattle.pc_lang.specs.Files.{query_at, query_from}
use Rattle.pc_lang.proofs.CanonicalSpelled.{question_spelled}
use Rattle.pc_document_format.specs.Formats.{if_spelled}
use Rattle.pc_document_lines.specs.TokenLines.{likely_query, query_if, query_line_text, read_query_line}
use Rattle.pc_document_lines.proofs.QueriesBack.{line_is_query}

-- ---- the line

-- a likely query is read if it is spelled so
pub line_some : (schema : Schema) (line : List ℕ) (query : Query) (found : Option Query) → likely_query schema line ≡ Some query → found ≡ if_spelled (query_line_text schema) (λ one. true) line (Some query) → found ≡ read_query_line schema line
unfolding read_query_line
line_some schema line query found likely spelled = spelled ∙ sym (ap (if_spelled (query_line_text schema) (λ one. true) line) likely)

-- where none is read
pub line_none : (schema : Schema) (line : List ℕ) → read_query_line schema line ≡ None → None ≡ read_query_line schema line
line_none schema line none = sym none

pub ruleset steps = (line_some, line_none)

-- ---- the likely query

-- what a query is spelled by is text
query_is_text : (schema : Schema) (query : Query) → IsWellFormed schema → IsQuery schema query → IsUtf8 (query_text schema query)
unfolding query_text
query_is_text schema query formed asked =
    IsUtf8-from_is_utf8 _ (tokens_text_is_text _ (question_spelled (λ value scale small. numbers_are_spelled value scale) schema query formed asked))

-- it stands after the word and its space
text_after : (schema : Schema) (query : Query) → drop 6 (query_line_text schema query) ≡ query_text schema query
unfolding query_line_text
text_after schema query = refl

-- bytes that are no text are no line of a query
pub no_text : (schema : Schema) (line : List ℕ) → IsWellFormed schema → (IsUtf8 (drop 6 line) → ⊥) → read_query_line schema line ≡ None
unfolding read_query_line
no_text schema line formed none = by_likely (likely_query schema line) refl
  where
    by_likely : (found : Option Query) → likely_query schema line ≡ found → if_spelled (query_line_text schema) (λ one. true) line found ≡ None
    by_likely None e = refl
    by_likely (Some query) e = elim (cases_Bool (bytes_eq (query_line_text schema query) line)) [
      | inl same ↦
          let is = (bytes_eq-Decides (query_line_text schema query) line).0 same in
          let text : query_text schema query ≡ drop 6 line = sym (text_after schema query) ∙ ap (drop 6) is in
          absurd (none (subst IsUtf8 text (query_is_text schema query formed (line_is_query schema line query formed e))))
      | inr other ↦ rw other refl
    ]

-- a likely query is what the text spells
likely_from : (schema : Schema) (line : List ℕ) (result : Result Query Reason) → query_from schema (drop 6 line) ≡ result → likely_query schema line ≡ query_if result
unfolding likely_query
likely_from schema line result e = ap query_if e

-- a query at a place among others is what the text spells
ok_placed : (place : ℕ) (result : Result Query Reason) (query : Query) → placed files.Query place result ≡ Ok query → result ≡ Ok query
ok_placed place (Ok found) query e = let same : found ≡ query = cc in ap Ok same
ok_placed place (Err reason) query e = cc

-- a fault there says that it spells none
err_placed : (place : ℕ) (result : Result Query Reason) (fault : Fault) → placed files.Query place result ≡ Err fault → query_if result ≡ None
err_placed place (Ok found) fault e = cc
err_placed place (Err reason) fault e = refl

-- what is read of the text is likely
pub likely_read : (schema : Schema) (line text : List ℕ) (place : ℕ) (query : Query) → text ≡ drop 6 line → query_at schema place text ≡ Ok query → likely_query schema line ≡ Some query
likely_read schema line text place query is read =
    likely_from schema line (Ok query) (ap (query_from schema) (sym is) ∙ ok_placed place (query_from schema text) query read)

-- where that is a fault, no query is read
pub none_read : (schema : Schema) (line text : List ℕ) (place : ℕ) (fault : Fault) → text ≡ drop 6 line → query_at schema place text ≡ Err fault → read_query_line schema line ≡ None
unfolding read_query_line
none_read schema line text place fault is read =
    let none : likely_query schema line ≡ None = likely_from schema line (query_from schema text) (ap (query_from schema) (sym is)) ∙ err_placed place (query_from schema text) fault read in
    ap (if_spelled (query_line_text schema) (λ one. true) line) none

pub ruleset likely_steps = (no_text, likely_read, none_read)
