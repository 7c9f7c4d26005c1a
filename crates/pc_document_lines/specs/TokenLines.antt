-- The lines that hold names: runs, cuts and leaves, the name of a group, and queries.
use Rattle.std.specs.Prelude.{◌≡◌, ℕ, zero, suc, unsigned_abs, ◌+◌, ◌^◌, ◌&&◌, ℤ, pos, Bool, true, false, List, [], ◌∷◌, ◌++◌, length, get_or, codes, decimal, drop, take, Option, Some, None, Result, Ok, Err, bytes_eq, nat_lt, nat_le, slice_get, if◌then◌else◌}
use Rattle.std.specs.List.{concat}
use Rattle.pc_num.specs.Scaled.{greatest_size}
use Rattle.pc_num.specs.Put.{scaled_text}
use Rattle.pc_model.specs.declared.fault.Reason.{Reason}
use Rattle.pc_model.specs.declared.schema.Kind.{Kind}
use Rattle.pc_model.specs.declared.schema.Kind.TheVariants.{Int, Dec, Cat}
use Rattle.pc_model.specs.declared.schema.Column.{Column}
use Rattle.pc_model.specs.declared.schema.Schema.{Schema}
use Rattle.pc_model.specs.declared.row.Run.{Run}
use Rattle.pc_model.specs.declared.query.Query.{Query}
use Rattle.pc_model.specs.declared.tree.Cut.{Cut}
use Rattle.pc_model.specs.declared.tree.Cut.TheVariants.{At, Among}
use Rattle.pc_model.specs.declared.tree.LeafMark.{LeafMark}
use Rattle.pc_model.specs.declared.tree.LeafMark.TheVariants.{Barren, Class}
use Rattle.pc_model.specs.declared.tree.CutNode.{CutNode}
use Rattle.pc_model.specs.declared.tree.CutNode.TheVariants as cut_nodes
use Rattle.pc_model.specs.CutTrees.{column_of}
use Rattle.pc_model.specs.Places.{is_below}
use Rattle.pc_lang_tokens.specs.declared.token.Symbol.TheVariants as symbols
use Rattle.pc_lang_tokens.specs.declared.token.Word.TheVariants as words
use Rattle.pc_lang_tokens.specs.declared.token.Token.{Token}
use Rattle.pc_lang_tokens.specs.declared.token.Token.TheVariants as tokens
use Rattle.pc_lang_tokens.specs.Lexing.{tokens_of}
use Rattle.pc_lang_tokens.specs.Spelling.{name_text}
use Rattle.pc_lang_tokens.specs.Texts.{tokens_text}
use Rattle.pc_lang.specs.Canonical.{names_from, query_text, name_at}
use Rattle.pc_lang.specs.Claims.{bits_of}
use Rattle.pc_lang.specs.Files.{query_from}
use Rattle.pc_document_format.specs.Formats.{read_spelled}
use Rattle.pc_proof.specs.Form.{IsFormedCutNode}
use Rattle.pc_report.specs.Report.{kind_name, scale_in}
use Rattle.pc_report.specs.RunLines as report
use Rattle.pc_document_lines.specs.Numbers.{count_text, likely_number, likely_count, is_within}

-- ---- tokens

abbrev pub Tokens : Type 0
Tokens = List Token

-- the number of a token, and its name
abbrev pub number_of : Token → ℤ
number_of (tokens.Symbol which) = pos 0
number_of (tokens.Reserved word) = pos 0
number_of (tokens.Number text) = likely_number text
number_of (tokens.Name name) = pos 0

abbrev pub name_of : Token → List ℕ
name_of (tokens.Symbol which) = []
name_of (tokens.Reserved word) = []
name_of (tokens.Number text) = []
name_of (tokens.Name name) = name

-- a token that no line has
abbrev pub no_token : Token
no_token = tokens.Symbol symbols.Star

abbrev pub token_at : Tokens → ℕ → Token
token_at list place = get_or list place no_token

abbrev pub tokens_if : Result Tokens Reason → Tokens
tokens_if (Ok list) = list
tokens_if (Err reason) = []

-- the place of the first of the names that is this one, or their number
unfoldable pub place_in : List (List ℕ) → List ℕ → ℕ
place_in [] name = 0
place_in (first ∷ rest) name = if bytes_eq first name then 0 else place_in rest name + 1

unfoldable pub column_in : List Column → List ℕ → ℕ
column_in [] name = 0
column_in (first ∷ rest) name = if bytes_eq first.name name then 0 else column_in rest name + 1

-- ---- runs

-- a line of a report without its end
unfoldable pub run_text : Schema → Run → List ℕ
run_text schema run = (codes "run " ++ decimal run.times ++ codes ": ") ++ report.fields_text schema.columns run.row.cells

-- the number of a field
abbrev pub field_number : Kind → Token → ℤ
field_number (Int low high) token = number_of token
field_number (Dec scale low high) token = number_of token
field_number (Cat names) token = pos (place_in names (name_of token))

-- the numbers of the fields, a comma between two of them, the first of which is at a place
unfoldable pub fields_at : List Column → ℕ → Tokens → List ℤ
fields_at [] place list = []
fields_at (column ∷ columns) place list = field_number column.kind (token_at list place) ∷ fields_at columns (place + 2) list

unfoldable pub run_of_tokens : Schema → Tokens → Option Run
run_of_tokens schema list = Some (record { row = record { cells = fields_at schema.columns 3 list }; times = unsigned_abs (number_of (token_at list 1)) })

unfoldable pub likely_run : Schema → List ℕ → Option Run
likely_run schema line = run_of_tokens schema (tokens_if (tokens_of line))

abbrev pub is_cell : Kind → ℤ → Bool
is_cell (Int low high) cell = is_within greatest_size cell
is_cell (Dec scale low high) cell = is_within greatest_size cell
is_cell (Cat names) cell = is_below (length names) cell

-- one number per column
unfoldable pub are_cells : List Column → List ℤ → Bool
are_cells [] [] = true
are_cells [] (cell ∷ cells) = false
are_cells (column ∷ columns) [] = false
are_cells (column ∷ columns) (cell ∷ cells) = is_cell column.kind cell && are_cells columns cells

unfoldable pub is_run : Schema → Run → Bool
is_run schema run = nat_le run.times (10 ^ 18) && are_cells schema.columns run.row.cells

unfoldable pub read_run : Schema → List ℕ → Option Run
read_run schema line = read_spelled (run_text schema) (is_run schema) (likely_run schema) line

abbrev pub begins_run : List ℕ → Bool
begins_run line = bytes_eq (take 4 line) (codes "run ")

-- ---- cuts and leaves

abbrev pub kind_of : Option Column → Option Kind
kind_of None = None
kind_of (Some column) = Some column.kind

abbrev pub kind_at : Schema → ℕ → Option Kind
kind_at schema place = kind_of (slice_get schema.columns place)

-- names after a comma each, and the end of the set
unfoldable pub more_names : List (List ℕ) → Tokens
more_names [] = tokens.Symbol symbols.CloseSet ∷ []
more_names (name ∷ rest) = tokens.Symbol symbols.Comma ∷ tokens.Name name ∷ more_names rest

unfoldable pub set_tokens : List (List ℕ) → Tokens
set_tokens [] = tokens.Symbol symbols.OpenSet ∷ tokens.Symbol symbols.CloseSet ∷ []
set_tokens (name ∷ rest) = tokens.Symbol symbols.OpenSet ∷ tokens.Name name ∷ more_names rest

-- the names of a column of names
abbrev pub names_in : Option Kind → List (List ℕ)
names_in None = []
names_in (Some (Int low high)) = []
names_in (Some (Dec scale low high)) = []
names_in (Some (Cat names)) = names

abbrev pub scale_at : Option Kind → ℕ
scale_at None = 0
scale_at (Some kind) = scale_in kind

-- a number with the column's decimals, or the names of the first part in the order of the schema
abbrev pub divided_tokens : Schema → Cut → Tokens
divided_tokens schema (At column at) = tokens.Number (scaled_text at (scale_at (kind_at schema column))) ∷ []
divided_tokens schema (Among column bits) = set_tokens (names_from bits 0 (names_in (kind_at schema column)))

abbrev pub side_token : Bool → Token
side_token true = tokens.Reserved words.In
side_token false = tokens.Name (codes "out")

abbrev pub mark_tokens : LeafMark → Tokens
mark_tokens Barren = tokens.Name (codes "barren") ∷ []
mark_tokens (Class mask chosen) = tokens.Number (count_text mask) ∷ side_token chosen ∷ []

abbrev pub cut_node_tokens : Schema → CutNode → Tokens
cut_node_tokens schema (cut_nodes.Inner cut first second) = tokens.Name (codes "cut") ∷ tokens.Name (name_at schema.columns (column_of cut)) ∷ divided_tokens schema cut
cut_node_tokens schema (cut_nodes.Leaf mark) = tokens.Name (codes "leaf") ∷ mark_tokens mark

unfoldable pub cut_node_text : Schema → CutNode → List ℕ
cut_node_text schema node = tokens_text (cut_node_tokens schema node)

-- ---- reading cuts and leaves

-- the names of tokens, whatever stands between them
unfoldable pub names_of : Tokens → List (List ℕ)
names_of [] = []
names_of (tokens.Symbol which ∷ rest) = names_of rest
names_of (tokens.Reserved word ∷ rest) = names_of rest
names_of (tokens.Number text ∷ rest) = names_of rest
names_of (tokens.Name name ∷ rest) = name ∷ names_of rest

abbrev pub is_name_token : List ℕ → Token → Bool
is_name_token name (tokens.Symbol which) = false
is_name_token name (tokens.Reserved word) = false
is_name_token name (tokens.Number text) = false
is_name_token name (tokens.Name other) = bytes_eq other name

-- the cut of a column of a kind by these tokens
abbrev pub cut_by : Option Kind → ℕ → Token → Tokens → Cut
cut_by kind column (tokens.Symbol which) rest = Among column (bits_of (names_of rest) (names_in kind))
cut_by kind column (tokens.Reserved word) rest = Among column 0
cut_by kind column (tokens.Number text) rest = At column (likely_number text)
cut_by kind column (tokens.Name name) rest = Among column 0

abbrev pub cut_at : Schema → ℕ → Tokens → Cut
cut_at schema column list = cut_by (kind_at schema column) column (token_at list 2) (drop 3 list)

abbrev pub is_in : Token → Bool
is_in (tokens.Symbol which) = false
is_in (tokens.Reserved word) = true
is_in (tokens.Number text) = false
is_in (tokens.Name name) = false

abbrev pub mark_by : Token → Token → LeafMark
mark_by (tokens.Symbol which) side = Barren
mark_by (tokens.Reserved word) side = Barren
mark_by (tokens.Number text) side = Class (likely_count text) (is_in side)
mark_by (tokens.Name name) side = Barren

unfoldable pub cut_node_of_tokens : Schema → Tokens → Option CutNode
cut_node_of_tokens schema list =
    if bytes_eq (name_of (token_at list 0)) (codes "leaf") then Some (cut_nodes.Leaf (mark_by (token_at list 1) (token_at list 2)))
    else Some (cut_nodes.Inner (cut_at schema (column_in schema.columns (name_of (token_at list 1))) list) 0 0)

unfoldable pub likely_cut_node : Schema → List ℕ → Option CutNode
likely_cut_node schema line = cut_node_of_tokens schema (tokens_if (tokens_of line))

abbrev pub is_cut_of : Cut → Option Kind → Bool
is_cut_of cut None = false
is_cut_of (At column at) (Some (Int low high)) = is_within greatest_size at
is_cut_of (At column at) (Some (Dec scale low high)) = is_within greatest_size at
is_cut_of (At column at) (Some (Cat names)) = false
is_cut_of (Among column bits) (Some (Int low high)) = false
is_cut_of (Among column bits) (Some (Dec scale low high)) = false
is_cut_of (Among column bits) (Some (Cat names)) = nat_lt 0 bits && nat_lt bits (2 ^ length names)

abbrev pub is_mark : LeafMark → Bool
is_mark Barren = true
is_mark (Class mask chosen) = nat_lt mask (2 ^ 32)

unfoldable pub is_cut_node : Schema → CutNode → Bool
is_cut_node schema (cut_nodes.Inner cut first second) = is_cut_of cut (kind_at schema (column_of cut))
is_cut_node schema (cut_nodes.Leaf mark) = is_mark mark

unfoldable pub read_cut_node : Schema → List ℕ → Option CutNode
read_cut_node schema line = read_spelled (cut_node_text schema) (is_cut_node schema) (likely_cut_node schema) line

-- a node without the places of its parts, which its line does not tell
abbrev pub bare_cut : CutNode → CutNode
bare_cut (cut_nodes.Leaf mark) = cut_nodes.Leaf mark
bare_cut (cut_nodes.Inner cut first second) = cut_nodes.Inner cut 0 0

abbrev pub is_inner : CutNode → Bool
is_inner (cut_nodes.Leaf mark) = false
is_inner (cut_nodes.Inner cut first second) = true

pub record IsBareCut (schema : Schema) (node : CutNode) : Type 0 where
  pub placeless : bare_cut node ≡ node
  pub good : IsFormedCutNode schema node

-- ---- the name of a group

abbrev pub kind_names : Kind → List (List ℕ)
kind_names (Int low high) = []
kind_names (Dec scale low high) = []
kind_names (Cat names) = names

abbrev pub group_text_of : Option Column → ℕ → List ℕ
group_text_of None place = []
group_text_of (Some column) place = concat (codes "group " ∷ name_text column.name ∷ codes " = " ∷ name_text (kind_name column.kind place) ∷ [])

unfoldable pub group_text : Schema → ℕ → ℕ → List ℕ
group_text schema group place = group_text_of (slice_get schema.columns group) place

-- the first place, from one on, of so many names whose line this is
unfoldable pub group_found : Schema → ℕ → ℕ → ℕ → List ℕ → Option ℕ
group_found schema group place zero line = None
group_found schema group place (suc count) line = if bytes_eq (group_text schema group place) line then Some place else group_found schema group (place + 1) count line

abbrev pub names_count : Option Column → ℕ
names_count None = 0
names_count (Some column) = length (kind_names column.kind)

unfoldable pub read_group : Schema → ℕ → List ℕ → Option ℕ
read_group schema group line = group_found schema group 0 (names_count (slice_get schema.columns group)) line

-- ---- queries

unfoldable pub query_line_text : Schema → Query → List ℕ
query_line_text schema query = codes "query " ++ query_text schema query

abbrev pub begins_query : List ℕ → Bool
begins_query line = bytes_eq (take 6 line) (codes "query ")

abbrev pub query_if : Result Query Reason → Option Query
query_if (Ok query) = Some query
query_if (Err reason) = None

unfoldable pub likely_query : Schema → List ℕ → Option Query
likely_query schema line = query_if (query_from schema (drop 6 line))

-- whatever query is read is one of the schema
unfoldable pub read_query_line : Schema → List ℕ → Option Query
read_query_line schema line = read_spelled (query_line_text schema) (λ query. true) (likely_query schema) line
