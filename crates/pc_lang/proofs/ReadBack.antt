-- Canonical text is read back as what it was written for.
use Rattle.std.proofs.Common.{◌≡◌, ℕ, zero, suc, ◌+◌, ◌-◌, ◌<◌, ◌≤◌, ◌==◌, Bool, true, false, List, [], ◌∷◌, ◌++◌, length, get_or, All, Ok, refl, ◌∙◌, arith, append_assoc}
use Rattle.std.specs.Prelude.{nat_le}
use Rattle.std.specs.List.{list_all}
use Rattle.std.specs.Str.{IsUtf8}
use Rattle.std.proofs.lemmas.Bool.{and_parts, le-ltb}
use Rattle.std.proofs.lemmas.Bool.Decides.{nat_tests}
use Rattle.std.proofs.lemmas.List.{append-nil}
use Rattle.std.proofs.lemmas.List.Elements.{All-head, All-tail}
use Rattle.std.proofs.lemmas.List.Splits.{slice_split-cons_yes, slice_split-cons_no}
use Rattle.std.proofs.lemmas.Str.{is_utf8-from_IsUtf8, IsUtf8-from_is_utf8, IsUtf8-append, IsUtf8-from_ascii, IsUtf8-nil}
use Rattle.std.proofs.lemmas.Str.Ascii.{IsAscii-cons, IsAscii-nil}
use Rattle.pc_model.specs.declared.schema.Schema.{Schema}
use Rattle.pc_model.specs.declared.constraint.When.{When}
use Rattle.pc_model.specs.declared.constraint.When.TheVariants.{Boxes, Outside}
use Rattle.pc_model.specs.declared.constraint.Constraint.{Constraint}
use Rattle.pc_model.specs.declared.query.Query.{Query}
use Rattle.pc_model.specs.Accepted.{AreConstraints, IsQuery}
use Rattle.pc_model.specs.Texts.{file_limit, text_of, without_mark}
use Rattle.pc_model.specs.WellFormed.{IsWellFormed}
use Rattle.pc_lang_tokens.specs.declared.token.Token.{Token}
use Rattle.pc_lang_tokens.specs.Texts.{are_spelled, tokens_text}
use Rattle.pc_lang_tokens.proofs.FirstBytes.{BeginsPlainly, outside_begins, tokens_text_begins}
use Rattle.pc_lang_tokens.proofs.ScaledTexts.{numbers_are_spelled}
use Rattle.pc_lang_tokens.proofs.TextBytes.{tokens_text_printed, tokens_text_is_text}
use Rattle.pc_lang_tokens.proofs.TextSizes.{is_short, tokens_text_short, name_is_short, number_is_short, symbol_is_short, word_is_short}
use Rattle.pc_lang_tokens.proofs.TokensBack.{tokens_read_back}
use Rattle.pc_lang_grammar.specs.Grammar.{head_tokens, line_tokens, question_tokens}
use Rattle.pc_lang_grammar.proofs.Complete.{line_again, question_again}
use Rattle.pc_lang.specs.Canonical.{constraint_text, constraints_text, head_for, line_for, query_text, question_for}
use Rattle.pc_lang.specs.Files.{line_from, question_from, constraint_from, constraints_after, constraints_from, constraints_of, is_passed_over, lines_of, query_from, with_line, without_return, ends_with_return}
use Rattle.pc_lang.proofs.Appending.{text_none, text_more}
use Rattle.pc_lang.proofs.CanonicalTokens.{lines_fit}
use Rattle.pc_lang.proofs.CanonicalSpelled.{lines_spelled, question_spelled}
use Rattle.pc_lang.proofs.CanonicalLength.{line_text_length, constraints_fit}
use Rattle.pc_lang.proofs.ConstraintsAgain.{constraints_again}
use Rattle.pc_lang.proofs.QueriesAgain.{query_again}

abbrev is_printed : ℕ → Bool
is_printed byte = nat_le 32 byte

-- the text of a line without its line feed
abbrev pub line_text : Schema → Constraint → List ℕ
line_text schema c = tokens_text (line_tokens (line_for schema c))

-- Queries.

pub query_reads_back : (schema : Schema) (query : Query) → IsWellFormed schema → IsQuery schema query → query_from schema (query_text schema query) ≡ Ok query
unfolding query_from question_from query_text
query_reads_back schema query formed accepted =
    let spelled = question_spelled (λ value scale small. numbers_are_spelled value scale) schema query formed accepted in
    rw (tokens_read_back (question_tokens (question_for schema query)) spelled, question_again (question_for schema query)) (query_again schema query formed accepted)

-- Lines.

abbrev AreSpelledLines : Schema → List Constraint → Type 0
AreSpelledLines schema constraints = All (λ (c : Constraint). are_spelled (line_tokens (line_for schema c)) ≡ true) constraints

spelled_lines : (schema : Schema) (constraints : List Constraint) → IsWellFormed schema → AreConstraints schema constraints → AreSpelledLines schema constraints
spelled_lines schema constraints formed accepted = lines_spelled (λ value scale small. numbers_are_spelled value scale) schema constraints formed accepted

constraint_reads_back : (schema : Schema) (before : List Constraint) (c : Constraint) (after : List Constraint) → IsWellFormed schema → AreConstraints schema (before ++ c ∷ after) → are_spelled (line_tokens (line_for schema c)) ≡ true → constraint_from schema before (line_text schema c) ≡ Ok c
unfolding constraint_from line_from
constraint_reads_back schema before c after formed accepted spelled =
    rw (tokens_read_back (line_tokens (line_for schema c)) spelled, line_again (line_for schema c)) (constraints_again schema before c after formed accepted)

head_begins : (schema : Schema) (name : List ℕ) (when : When) (body rest : List Token) → BeginsPlainly (tokens_text ((head_tokens (head_for schema name when) ++ body) ++ rest))
unfolding head_for head_tokens
head_begins schema name (Boxes area) body rest = tokens_text_begins name _
head_begins schema name Outside body rest = outside_begins _

line_begins : (schema : Schema) (c : Constraint) → BeginsPlainly (line_text schema c)
unfolding line_for line_tokens
line_begins schema c = head_begins schema c.name c.when _ _

not_passed_over : (text : List ℕ) → BeginsPlainly text → is_passed_over text ≡ false
unfolding is_passed_over
not_passed_over text begins = rw (begins.form, begins.no_blank) begins.no_comment

-- a printed byte is no return
last_printed : (text : List ℕ) (byte : ℕ) (rest : List ℕ) → text ≡ byte ∷ rest → list_all is_printed text ≡ true → ends_with_return text ≡ false
last_printed text byte rest form printed = rw form (by_length (byte ∷ rest) (length (byte ∷ rest) - 1) (omega arith) (rw form at printed))
  where
    by_length : (xs : List ℕ) (i : ℕ) → i < length xs → list_all is_printed xs ≡ true → (get_or xs i 0 == 13) ≡ false
    by_length [] i inside all = absurd (omega arith)
    by_length (x ∷ xs) zero inside all = let p = (and_parts (is_printed x) (list_all is_printed xs) all).0 in grind (arith, nat_tests, p)
    by_length (x ∷ xs) (suc i) inside all = by_length xs i (omega arith) (and_parts (is_printed x) (list_all is_printed xs) all).1

line_without_return : (schema : Schema) (c : Constraint) → are_spelled (line_tokens (line_for schema c)) ≡ true → without_return (line_text schema c) ≡ line_text schema c
unfolding without_return
line_without_return schema c spelled =
    let begins = line_begins schema c in
    let printed = tokens_text_printed (line_tokens (line_for schema c)) spelled in
    rw (last_printed (line_text schema c) begins.byte begins.rest begins.form printed) refl

line_reads_back : (schema : Schema) (before : List Constraint) (c : Constraint) (after : List Constraint) → IsWellFormed schema → AreConstraints schema (before ++ c ∷ after) → are_spelled (line_tokens (line_for schema c)) ≡ true → with_line schema before (without_return (line_text schema c)) ≡ Ok (before ++ c ∷ [])
unfolding with_line
line_reads_back schema before c after formed accepted spelled =
    rw (line_without_return schema c spelled, not_passed_over (line_text schema c) (line_begins schema c), constraint_reads_back schema before c after formed accepted spelled) refl

-- a printed line before a line feed is the first of the lines
first_of : (line rest : List ℕ) → list_all is_printed line ≡ true → lines_of (line ++ 10 ∷ rest) ≡ line ∷ lines_of rest
first_of [] rest printed = slice_split-cons_yes (λ byte. byte == 10) 10 rest refl
first_of (byte ∷ line) rest printed =
    let p = and_parts (is_printed byte) (list_all is_printed line) printed in
    let other : (byte == 10) ≡ false = (let q = p.0 in grind (arith, nat_tests, q)) in
    slice_split-cons_no (λ byte. byte == 10) byte (line ++ 10 ∷ rest) other ∙ rw (first_of line rest p.1) refl

lines_split : (schema : Schema) (c : Constraint) (rest : List Constraint) → are_spelled (line_tokens (line_for schema c)) ≡ true → lines_of (constraints_text schema (c ∷ rest)) ≡ line_text schema c ∷ lines_of (constraints_text schema rest)
unfolding constraint_text
lines_split schema c rest spelled =
    rw (text_more schema c rest, append_assoc) (first_of (line_text schema c) (constraints_text schema rest) (tokens_text_printed (line_tokens (line_for schema c)) spelled))

empty_line : (schema : Schema) (before : List Constraint) → with_line schema before (without_return []) ≡ Ok before
unfolding with_line without_return is_passed_over
empty_line schema before = refl

lines_read_back : (schema : Schema) (place : ℕ) (before after : List Constraint) → IsWellFormed schema → AreConstraints schema (before ++ after) → AreSpelledLines schema after → constraints_from schema place before (lines_of (constraints_text schema after)) ≡ Ok (before ++ after)
unfolding constraints_from
lines_read_back schema place before [] formed accepted spelled = rw (text_none schema, empty_line schema before, append-nil) refl
lines_read_back schema place before (c ∷ after) formed accepted spelled =
    let head = All-head (λ (d : Constraint). are_spelled (line_tokens (line_for schema d)) ≡ true) c after spelled in
    let tail = All-tail (λ (d : Constraint). are_spelled (line_tokens (line_for schema d)) ≡ true) c after spelled in
    let whole : (before ++ c ∷ []) ++ after ≡ before ++ c ∷ after = rw append_assoc refl in
    rw (lines_split schema c after head, line_reads_back schema before c after formed accepted head)
    (lines_read_back schema (place + 1) (before ++ c ∷ []) after formed (rw whole accepted) tail ∙ rw whole refl)

-- The file.

line_feed_is_text : IsUtf8 (10 ∷ [])
line_feed_is_text = IsUtf8-from_ascii (10 ∷ []) (IsAscii-cons 10 [] (omega arith) IsAscii-nil)

constraints_are_text : (schema : Schema) (constraints : List Constraint) → AreSpelledLines schema constraints → IsUtf8 (constraints_text schema constraints)
unfolding constraint_text
constraints_are_text schema [] spelled = rw (text_none schema) IsUtf8-nil
constraints_are_text schema (c ∷ rest) spelled =
    let head = All-head (λ (d : Constraint). are_spelled (line_tokens (line_for schema d)) ≡ true) c rest spelled in
    let tail = All-tail (λ (d : Constraint). are_spelled (line_tokens (line_for schema d)) ≡ true) c rest spelled in
    let line = IsUtf8-from_is_utf8 (line_text schema c) (tokens_text_is_text (line_tokens (line_for schema c)) head) in
    rw (text_more schema c rest)
    (IsUtf8-append (line_text schema c ++ 10 ∷ []) (constraints_text schema rest) (IsUtf8-append (line_text schema c) (10 ∷ []) line line_feed_is_text) (constraints_are_text schema rest tail))

plain_keeps : (text : List ℕ) → BeginsPlainly text → (rest : List ℕ) → without_mark (text ++ rest) ≡ text ++ rest
unfolding without_mark
plain_keeps text begins rest = rw begins.form (by_rest (begins.rest ++ rest))
  where
    by_rest : (more : List ℕ) → without_mark (begins.byte ∷ more) ≡ begins.byte ∷ more
    by_rest [] = refl
    by_rest (a ∷ []) = refl
    by_rest (a ∷ b ∷ more) = rw begins.no_mark refl

no_mark : (schema : Schema) (constraints : List Constraint) → without_mark (constraints_text schema constraints) ≡ constraints_text schema constraints
unfolding without_mark constraint_text
no_mark schema [] = rw (text_none schema) refl
no_mark schema (c ∷ rest) = rw (text_more schema c rest, append_assoc) (plain_keeps (line_text schema c) (line_begins schema c) (10 ∷ constraints_text schema rest))

short_lines : (schema : Schema) (constraints : List Constraint) → IsWellFormed schema → AreConstraints schema constraints → All (λ (c : Constraint). length (constraint_text schema c) ≤ 3000000) constraints
short_lines schema constraints formed accepted =
    let short = lines_fit is_short symbol_is_short word_is_short name_is_short (λ value scale small few. number_is_short value scale few) schema constraints formed accepted in
    λ k d inside. line_text_length schema (get_or constraints k d) formed (accepted.servable k d inside) (tokens_text_short (line_tokens (line_for schema (get_or constraints k d))) (short k d inside))

file_again : (schema : Schema) (constraints : List Constraint) → IsWellFormed schema → AreConstraints schema constraints → text_of (constraints_text schema constraints) ≡ Ok (constraints_text schema constraints)
unfolding text_of
file_again schema constraints formed accepted =
    let small = constraints_fit schema constraints accepted.few (short_lines schema constraints formed accepted) in
    let text = is_utf8-from_IsUtf8 (constraints_text schema constraints) (constraints_are_text schema constraints (spelled_lines schema constraints formed accepted)) in
    rw (le-ltb file_limit (length (constraints_text schema constraints)) small, text, no_mark schema constraints) refl

pub constraints_read_back : (schema : Schema) (constraints : List Constraint) → IsWellFormed schema → AreConstraints schema constraints → constraints_of schema (constraints_text schema constraints) ≡ Ok constraints
unfolding constraints_after
constraints_read_back schema constraints formed accepted =
    rw (file_again schema constraints formed accepted) (lines_read_back schema 1 [] constraints formed accepted (spelled_lines schema constraints formed accepted))
