-- A node of a tree of cuts is put as tokens, and read from those of its line.
use Rattle.std.proofs.Common.{◌≡◌, ◌≤◌, ◌<◌, ◌||◌, ℕ, suc, ◌+◌, Bool, true, false, List, [], ◌∷◌, ◌++◌, length, get_or, drop, Option, Some, None, arith, refl, sym, ap, ◌∙◌, append_assoc, add-one, drop-cons}
use Rattle.std.specs.Prelude.{bytes_eq, IfSome}
use Rattle.std.specs.List.{list_any}
use Rattle.std.proofs.lemmas.List.{drop_all}
use Rattle.std.proofs.lemmas.Option.{slice_get_read}
use Rattle.pc_model.specs.declared.schema.Kind.{Kind}
use Rattle.pc_model.specs.declared.schema.Kind.TheVariants.{Int, Dec, Cat}
use Rattle.pc_model.specs.declared.schema.Column.{Column}
use Rattle.pc_model.specs.declared.schema.Schema.{Schema}
use Rattle.pc_model.specs.declared.tree.Cut.TheVariants.{Among}
use Rattle.pc_model.specs.declared.tree.CutNode.{CutNode}
use Rattle.pc_model.specs.declared.tree.CutNode.TheVariants as cut_nodes
use Rattle.pc_model.specs.CutTrees.{column_of}
use Rattle.pc_model.specs.WellFormed.{IsKind, IsWellFormed}
use Rattle.pc_lang_tokens.specs.declared.token.Symbol.TheVariants as symbols
use Rattle.pc_lang_tokens.specs.declared.token.Token.{Token}
use Rattle.pc_lang_tokens.specs.declared.token.Token.TheVariants as tokens
use Rattle.pc_lang_tokens.specs.Lexing.{tokens_of}
use Rattle.pc_lang.specs.Claims.{bits_of, is_among}
use Rattle.pc_document_format.specs.Formats.{if_spelled}
use Rattle.pc_document_lines.specs.TokenLines.{Tokens, bare_cut, column_in, cut_at, cut_by, cut_node_of_tokens, cut_node_text, is_cut_node, is_cut_of, is_name_token, kind_of, likely_cut_node, more_names, names_in, names_of, read_cut_node, token_at, tokens_if}
use Rattle.pc_document_lines.proofs.Keeping.{none_kept}

-- ---- the line

-- the places of its parts are not told
pub bare_text : (schema : Schema) (node : CutNode) → cut_node_text schema (bare_cut node) ≡ cut_node_text schema node
unfolding cut_node_text
bare_text schema (cut_nodes.Leaf mark) = refl
bare_text schema (cut_nodes.Inner cut first second) = refl

-- where no likely node is good, none is read
pub node_none : (schema : Schema) (line : List ℕ) (list : Tokens) → list ≡ tokens_if (tokens_of line) → IfSome (cut_node_of_tokens schema list) (λ node. is_cut_node schema node ≡ false) → None ≡ read_cut_node schema line
unfolding read_cut_node likely_cut_node
node_none schema line list is refused = none_kept (cut_node_text schema) (is_cut_node schema) line _ (rw is at refused)

-- a likely node is read if it is spelled so
pub node_some : (schema : Schema) (line : List ℕ) (list : Tokens) (node : CutNode) (found : Option CutNode) → list ≡ tokens_if (tokens_of line) → cut_node_of_tokens schema list ≡ Some node → found ≡ if_spelled (cut_node_text schema) (is_cut_node schema) line (Some node) → found ≡ read_cut_node schema line
unfolding read_cut_node likely_cut_node
node_some schema line list node found is likely spelled =
    spelled ∙ sym (ap (if_spelled (cut_node_text schema) (is_cut_node schema) line) (ap (cut_node_of_tokens schema) (sym is) ∙ likely))

pub ruleset line_steps = (node_none, node_some)

-- ---- the tokens that are put

-- what is known of the kind of a column at a place
pub kind_of_column : (schema : Schema) (place : ℕ) (column : Column) → IsWellFormed schema → place < length schema.columns → column ≡ get_or schema.columns place column → IsKind column.kind
kind_of_column schema place column formed inside at = rw at (formed.columns.all place column inside).kind

-- a name more
pub names_more : (list : Tokens) (names : List (List ℕ)) (i : ℕ) (d : List ℕ) → i < length names → (list ++ tokens.Symbol symbols.Comma ∷ tokens.Name (get_or names i d) ∷ []) ++ more_names (drop (i + 1) names) ≡ list ++ more_names (drop i names)
unfolding more_names
names_more list names i d inside = rw (add-one, drop-cons names i d) (append_assoc list (tokens.Symbol symbols.Comma ∷ tokens.Name (get_or names i d) ∷ []) (more_names (drop (suc i) names)))

-- no name is left, and the set ends
pub names_end : (list : Tokens) (names : List (List ℕ)) (i : ℕ) → length names ≤ i → list ++ more_names (drop i names) ≡ list ++ tokens.Symbol symbols.CloseSet ∷ []
unfolding more_names
names_end list names i past = rw (drop_all i names past) refl

pub ruleset names_steps = (names_more, names_end)

-- ---- the column of a cut

-- the column that is looked for
pub column_here : (columns : List Column) (name : List ℕ) (i : ℕ) (column : Column) → i < length columns → column ≡ get_or columns i column → bytes_eq column.name name ≡ true → i + column_in (drop i columns) name ≡ i
unfolding column_in
column_here columns name i column inside at same = rw (drop-cons columns i column inside, ← at, same) (omega arith)

-- another column
pub column_later : (columns : List Column) (name : List ℕ) (i : ℕ) (column : Column) → i < length columns → column ≡ get_or columns i column → bytes_eq column.name name ≡ false → (i + 1) + column_in (drop (i + 1) columns) name ≡ i + column_in (drop i columns) name
unfolding column_in
column_later columns name i column inside at differs = rw (drop-cons columns i column inside, ← at, differs, add-one) (omega arith)

-- no column is left
pub column_none : (columns : List Column) (name : List ℕ) (i : ℕ) → length columns ≤ i → i + column_in (drop i columns) name ≡ i
unfolding column_in
column_none columns name i past = rw (drop_all i columns past) (omega arith)

pub ruleset place_steps = (column_here, column_later, column_none)

-- a cut is of the column that it is made for
pub column_is : (kind : Option Kind) (column : ℕ) (token : Token) (rest : Tokens) → column_of (cut_by kind column token rest) ≡ column
column_is kind column (tokens.Symbol which) rest = refl
column_is kind column (tokens.Reserved word) rest = refl
column_is kind column (tokens.Number text) rest = refl
column_is kind column (tokens.Name name) rest = refl

-- ---- what a cut divides by

-- no set is empty
pub no_names : (kind : Kind) (column : ℕ) → is_cut_of (Among column 0) (Some kind) ≡ false
no_names (Int low high) column = refl
no_names (Dec scale low high) column = refl
no_names (Cat names) column = refl

-- no names have no bits
no_bits : (names : List (List ℕ)) → bits_of [] names ≡ 0
unfolding bits_of
no_bits [] = refl
no_bits (name ∷ rest) = rw (no_bits rest) refl

-- of no tokens
empty_set : (kind : Kind) (column : ℕ) → is_cut_of (Among column (bits_of (names_of []) (names_in (Some kind)))) (Some kind) ≡ false
unfolding names_of
empty_set (Int low high) column = refl
empty_set (Dec scale low high) column = refl
empty_set (Cat names) column = ap (λ bits. is_cut_of (Among column bits) (Some (Cat names))) (no_bits names)

-- ---- the names among tokens

-- a name among tokens is one of their names
pub among_tokens : (list : Tokens) (name : List ℕ) → list_any (is_name_token name) list ≡ is_among (names_of list) name
unfolding names_of
among_tokens [] name = refl
among_tokens (tokens.Symbol which ∷ rest) name = among_tokens rest name
among_tokens (tokens.Reserved word ∷ rest) name = among_tokens rest name
among_tokens (tokens.Number text ∷ rest) name = among_tokens rest name
among_tokens (tokens.Name other ∷ rest) name = ap (λ (test : Bool). bytes_eq other name || test) (among_tokens rest name)

-- tokens that end before the third divide by nothing
pub none_divided : (kind : Kind) (column : ℕ) (list : Tokens) → length list ≤ 2 → is_cut_of (cut_by (Some kind) column (token_at list 2) (drop 3 list)) (Some kind) ≡ false
none_divided kind column [] short = empty_set kind column
none_divided kind column (a ∷ []) short = empty_set kind column
none_divided kind column (a ∷ b ∷ []) short = empty_set kind column
none_divided kind column (a ∷ b ∷ c ∷ rest) short = absurd (omega arith)

-- the third token divides
pub third_divides : (kind : Kind) (column : ℕ) (list : Tokens) (token : Token) → 2 < length list → token ≡ get_or list 2 token → cut_by (Some kind) column token (drop 3 list) ≡ cut_by (Some kind) column (token_at list 2) (drop 3 list)
third_divides kind column [] token inside at = absurd (omega arith)
third_divides kind column (a ∷ []) token inside at = absurd (omega arith)
third_divides kind column (a ∷ b ∷ []) token inside at = absurd (omega arith)
third_divides kind column (a ∷ b ∷ c ∷ rest) token inside at = ap (λ (t : Token). cut_by (Some kind) column t rest) at

pub ruleset divided_steps = (none_divided, third_divides)

-- ---- the column of the cut that is read

-- the kind of the column at a place decides
pub column_some : (schema : Schema) (list : Tokens) (place : ℕ) (column : Column) → place < length schema.columns → column ≡ get_or schema.columns place column → cut_by (Some column.kind) place (token_at list 2) (drop 3 list) ≡ cut_at schema place list
column_some schema list place column inside at =
    sym (ap (λ found. cut_by (kind_of found) place (token_at list 2) (drop 3 list)) (slice_get_read schema.columns (length schema.columns) place column refl inside at))

pub ruleset column_steps = (column_some)
