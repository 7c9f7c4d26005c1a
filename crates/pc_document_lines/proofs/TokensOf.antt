-- Lines of tokens: what is read of one is its tokens, and it has no line feed.
use Rattle.std.proofs.Common.{◌≡◌, ◌≢◌, ◌≤◌, ◌<◌, ◌^◌, ℕ, zero, suc, true, List, [], ◌∷◌, ◌++◌, length, get_or, All, AllPairs, Some, None, arith, refl, ap, ◌∙◌, subst, slice_get}
use Rattle.std.specs.Prelude.{pos, unsigned_abs, nat_le}
use Rattle.std.specs.List.{list_all}
use Rattle.std.proofs.lemmas.Bool.{and_from, and_parts, leb-true, ne_eqb}
use Rattle.std.proofs.lemmas.List.Elements.{All-head, All-tail}
use Rattle.pc_model.specs.declared.schema.Column.{Column}
use Rattle.pc_model.specs.declared.schema.Schema.{Schema}
use Rattle.pc_model.specs.Texts.{is_name}
use Rattle.pc_model.specs.WellFormed.{IsColumn, IsKind, IsWellFormed}
use Rattle.pc_model.proofs.Lists.{AllPairs-head, AllPairs-tail, bytes_eq-other, bytes_eq-same}
use Rattle.pc_model.proofs.Names.{is_name_of}
use Rattle.pc_lang_tokens.specs.declared.token.Token.{Token}
use Rattle.pc_lang_tokens.specs.declared.token.Token.TheVariants as tokens
use Rattle.pc_lang_tokens.specs.Lexing.{tokens_of}
use Rattle.pc_lang_tokens.specs.Spelling.{is_bare}
use Rattle.pc_lang_tokens.specs.Texts.{are_spelled, is_spelled, texts_after, token_text, tokens_text}
use Rattle.pc_lang_tokens.proofs.Fronts.{bare_is_name, text_bare}
use Rattle.pc_lang_tokens.proofs.TextBytes.{tokens_text_printed}
use Rattle.pc_lang_tokens.proofs.TokensBack.{tokens_read_back}
use Rattle.pc_lang.specs.Canonical.{name_at}
use Rattle.pc_lang.proofs.QueriesAgain.{name_at-suc, name_at-zero}
use Rattle.pc_document_format.specs.Lines.{feeds_in}
use Rattle.pc_document_lines.specs.Numbers.{count_text, likely_count}
use Rattle.pc_document_lines.specs.TokenLines.{Tokens, column_in, place_in, tokens_if}
use Rattle.pc_document_lines.proofs.NumbersBack.{numbers_again}

-- ---- a line of tokens

-- the numbers and names of the tokens are numbers and names
abbrev pub AreSpelled : Tokens → Type 0
AreSpelled list = list_all is_spelled list ≡ true

-- the same in the words of the tokens' crate
are_spelled_so : (list : Tokens) → AreSpelled list → are_spelled list ≡ true
unfolding are_spelled
are_spelled_so list are = are

-- the tokens of a line are read as those tokens
pub tokens_again : (list : Tokens) → AreSpelled list → tokens_if (tokens_of (tokens_text list)) ≡ list
tokens_again list are = ap tokens_if (tokens_read_back list (are_spelled_so list are))

-- printed bytes are no line feeds
pub printed_plain : (text : List ℕ) → list_all (λ byte. nat_le 32 byte) text ≡ true → feeds_in text ≡ 0
unfolding feeds_in
printed_plain [] printed = refl
printed_plain (byte ∷ text) printed =
    let parts = and_parts (nat_le 32 byte) (list_all (λ other. nat_le 32 other) text) printed in
    let above : 32 ≤ byte = leb-true 32 byte parts.0 in
    rw (ne_eqb byte 10 (λ e. omega (arith, above, e))) (printed_plain text parts.1)

-- no line feed is in a line of tokens
pub tokens_plain : (list : Tokens) → AreSpelled list → feeds_in (tokens_text list) ≡ 0
tokens_plain list are = printed_plain (tokens_text list) (tokens_text_printed list (are_spelled_so list are))

-- the first token, and those after it
pub text_opens : (first : Token) (rest : Tokens) → tokens_text (first ∷ rest) ≡ token_text first ++ texts_after first rest
unfolding tokens_text
text_opens first rest = refl

-- a token before others
pub spelled_more : (list : Tokens) (text : List ℕ) → is_name text ≡ true → AreSpelled list → AreSpelled (tokens.Name text ∷ list)
spelled_more list text is are = and_from (is_name text) (list_all is_spelled list) is are

-- a word that is not reserved is a name, and is written as it stands
pub bare_name : (text : List ℕ) → is_bare text ≡ true → is_name text ≡ true
bare_name text bare = is_name_of text (bare_is_name text bare)

-- its token is written as it stands
pub bare_text : (text : List ℕ) → is_bare text ≡ true → token_text (tokens.Name text) ≡ text
unfolding token_text
bare_text text bare = text_bare text bare

-- ---- numbers

-- a count is read as that count
pub count_again : (n : ℕ) → n < 10 ^ 64 → likely_count (count_text n) ≡ n
count_again n small = ap unsigned_abs (numbers_again (pos n) 0 small)

-- ---- places of names

-- the place of a name among names of which no two are the same
pub place_again : (names : List (List ℕ)) (place : ℕ) → AllPairs (λ (a b : List ℕ). a ≢ b) names → place < length names → place_in names (get_or names place []) ≡ place
unfolding place_in
place_again [] place different inside = absurd (omega (arith, inside))
place_again (first ∷ rest) zero different inside = rw (bytes_eq-same first) refl
place_again (first ∷ rest) (suc place) different inside =
    let within : place < length rest = omega (arith, inside) in
    let other = AllPairs-head (λ (a b : List ℕ). a ≢ b) first rest different place [] within in
    rw (bytes_eq-other first (get_or rest place []) other, place_again rest place (AllPairs-tail (λ (a b : List ℕ). a ≢ b) first rest different) within) (omega arith)

-- no two columns have one name
abbrev HaveOwnNames : Column → Column → Type 0
HaveOwnNames a b = a.name ≢ b.name

-- what holds of all columns holds of the one at a place
pub column_of_all : (P : Column → Type 0) (columns : List Column) (place : ℕ) (column : Column) → All P columns → slice_get columns place ≡ Some column → P column
column_of_all P [] place column all is = absurd (none column is)
  where
    none : (x : Column) → None ≡ Some x → ⊥
    none x e = cc
column_of_all P (first ∷ rest) zero column all is =
    let same : first ≡ column = cc in
    subst P same (All-head P first rest all)
column_of_all P (first ∷ rest) (suc place) column all is = column_of_all P rest place column (All-tail P first rest all) is

-- the name at the place of a column is the column's
name_is : (columns : List Column) (place : ℕ) (column : Column) → slice_get columns place ≡ Some column → name_at columns place ≡ column.name
name_is [] place column is = absurd (none column is)
  where
    none : (x : Column) → None ≡ Some x → ⊥
    none x e = cc
name_is (first ∷ rest) zero column is =
    let same : first ≡ column = cc in
    name_at-zero first rest ∙ ap (λ (other : Column). other.name) same
name_is (first ∷ rest) (suc place) column is = name_at-suc first rest place ∙ name_is rest place column is

-- the place of a column's name is that of the column
column_again : (columns : List Column) (place : ℕ) (column : Column) → AllPairs HaveOwnNames columns → slice_get columns place ≡ Some column → column_in columns column.name ≡ place
unfolding column_in
column_again [] place column own is = absurd (none column is)
  where
    none : (x : Column) → None ≡ Some x → ⊥
    none x e = cc
column_again (first ∷ rest) zero column own is =
    let same : first ≡ column = cc in
    rw (← same, bytes_eq-same first.name) refl
column_again (first ∷ rest) (suc place) column own is =
    let other = column_of_all (HaveOwnNames first) rest place column (AllPairs-head HaveOwnNames first rest own) is in
    rw (bytes_eq-other first.name column.name other, column_again rest place column (AllPairs-tail HaveOwnNames first rest own) is) (omega arith)

-- a column of a well-formed schema: its name is one, and tells its place
pub record IsColumnAt (schema : Schema) (place : ℕ) (column : Column) : Type 0 where
  pub is : slice_get schema.columns place ≡ Some column
  pub kind : IsKind column.kind
  pub named : is_name (name_at schema.columns place) ≡ true
  pub again : column_in schema.columns (name_at schema.columns place) ≡ place

-- each column of a well-formed schema is such a one
pub column_at : (schema : Schema) (place : ℕ) (column : Column) → IsWellFormed schema → slice_get schema.columns place ≡ Some column → IsColumnAt schema place column
column_at schema place column formed is =
    let name = name_is schema.columns place column is in
    let about = column_of_all IsColumn schema.columns place column formed.columns.all is in
    record {
      is = is;
      kind = about.kind;
      named = ap is_name name ∙ is_name_of column.name about.name;
      again = ap (column_in schema.columns) name ∙ column_again schema.columns place column formed.columns.own_names is;
    }
