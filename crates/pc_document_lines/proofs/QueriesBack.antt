-- The line of a query is read as that query.
use Rattle.std.proofs.Common.{◌≡◌, ℕ, true, List, ◌++◌, Some, None, Result, Ok, Err, refl, ap}
use Rattle.std.specs.Prelude.{codes, drop, nat_le}
use Rattle.std.specs.List.{list_all}
use Rattle.pc_model.specs.declared.fault.Reason.{Reason}
use Rattle.pc_model.specs.declared.schema.Schema.{Schema}
use Rattle.pc_model.specs.declared.query.Agg.TheVariants as aggs
use Rattle.pc_model.specs.declared.query.Query.{Query}
use Rattle.pc_model.specs.Accepted.{IsQuery}
use Rattle.pc_model.specs.Regions.{whole_area}
use Rattle.pc_model.specs.WellFormed.{IsWellFormed}
use Rattle.pc_model.proofs.Areas.{whole_is_area}
use Rattle.pc_lang_tokens.proofs.ScaledTexts.{numbers_are_spelled}
use Rattle.pc_lang_tokens.proofs.TextBytes.{tokens_text_printed}
use Rattle.pc_lang.specs.Canonical.{query_text}
use Rattle.pc_lang.specs.Files.{query_from, question_from}
use Rattle.pc_lang.specs.Meaning.{query_of}
use Rattle.pc_lang.proofs.AcceptedQuestions.{is_query}
use Rattle.pc_lang.proofs.Bound.{bound}
use Rattle.pc_lang.proofs.CanonicalSpelled.{question_spelled}
use Rattle.pc_lang.proofs.ReadBack.{query_reads_back}
use Rattle.pc_document_format.specs.Formats.{IsLine, IsSpelled}
use Rattle.pc_document_format.specs.Lines.{feeds_in}
use Rattle.pc_document_format.proofs.Spelled.{spelled_line}
use Rattle.pc_document_lines.specs.TokenLines.{begins_query, likely_query, query_if, query_line_text, read_query_line}
use Rattle.pc_document_lines.proofs.TokensOf.{printed_plain}

-- no control character is in the text of a query
query_printed : (schema : Schema) (query : Query) → IsWellFormed schema → IsQuery schema query → list_all (λ byte. nat_le 32 byte) (query_text schema query) ≡ true
unfolding query_text
query_printed schema query formed asked =
    tokens_text_printed _ (question_spelled (λ value scale small. numbers_are_spelled value scale) schema query formed asked)

-- no line feed is in its line
line_plain : (schema : Schema) (query : Query) → IsWellFormed schema → IsQuery schema query → feeds_in (query_line_text schema query) ≡ 0
unfolding query_line_text
line_plain schema query formed asked = printed_plain (codes "query " ++ query_text schema query) (query_printed schema query formed asked)

-- the likely query of a query's line is that query
query_back : (schema : Schema) (query : Query) → IsWellFormed schema → IsQuery schema query → likely_query schema (query_line_text schema query) ≡ Some query
unfolding likely_query query_line_text
query_back schema query formed asked = ap query_if (query_reads_back schema query formed asked)

-- what a text spells is a query of the schema
text_is_query : (schema : Schema) (text : List ℕ) (query : Query) → IsWellFormed schema → query_from schema text ≡ Ok query → IsQuery schema query
unfolding query_from
text_is_query schema text query formed e =
    let question = bound (query_of schema) (question_from text) query e in
    is_query schema question.value query formed question.gives

-- a query is there where a text spells one
some_ok : (result : Result Query Reason) (query : Query) → query_if result ≡ Some query → result ≡ Ok query
some_ok (Ok found) query e = let same : found ≡ query = cc in ap Ok same
some_ok (Err reason) query e = absurd (none e)
  where
    none : None ≡ Some query → ⊥
    none f = cc

-- What is read is a query of the schema.
pub line_is_query : (schema : Schema) (line : List ℕ) (query : Query) → IsWellFormed schema → likely_query schema line ≡ Some query → IsQuery schema query
unfolding likely_query
line_is_query schema line query formed e = text_is_query schema (drop 6 line) query formed (some_ok (query_from schema (drop 6 line)) query e)

-- the count of all rows is a query
count_of_all : (schema : Schema) → IsWellFormed schema → IsQuery schema (record { agg = aggs.Count; column = None; chosen = whole_area schema; group = None })
count_of_all schema formed = record { chosen = whole_is_area schema formed; measured = refl; grouped = tt }

-- what is asked of a line that is written again and compared
spelled : (schema : Schema) → IsWellFormed schema → IsSpelled (IsQuery schema) (query_line_text schema) (λ query. true) (likely_query schema)
spelled schema formed = record {
  some = record { agg = aggs.Count; column = None; chosen = whole_area schema; group = None };
  some_good = count_of_all schema formed;
  tested = λ query asked. refl;
  holds = λ line query e tested. line_is_query schema line query formed e;
  plain = λ query asked. line_plain schema query formed asked;
  back = λ query asked. query_back schema query formed asked;
}

-- The line of a query is read as that query, and nothing else is.
pub query_line : (schema : Schema) → IsWellFormed schema → IsLine (IsQuery schema) (query_line_text schema) (read_query_line schema)
unfolding read_query_line
query_line schema formed = spelled_line (query_line_text schema) (λ query. true) (likely_query schema) (spelled schema formed)

-- It begins as one.
pub query_begins : (schema : Schema) (query : Query) → begins_query (query_line_text schema query) ≡ true
unfolding query_line_text
query_begins schema query = refl
