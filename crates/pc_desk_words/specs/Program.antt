-- The program as `clap` reads it: which verbs it has, and which options and words each takes.
use Rattle.std.specs.Prelude.{ℕ, pos, true, false, [], ◌∷◌, codes, Some}
use Rattle.clap.specs.Words.{App, Rule, Shape, Text, new_app, new_rule, with_rule}
use Rattle.clap.specs.Simple.{new_shape}
use Rattle.clap.specs.declared.builder.action.ArgAction.TheVariants.{Append, SetTrue}
use Rattle.clap.specs.declared.builder.value_parser.ValueParser.{ValueParser}
use Rattle.clap.specs.declared.builder.value_parser.ValueParser.TheVariants as parsers

-- the most nodes of one search that words may ask for
abbrev pub most_nodes : ℕ
most_nodes = 100_000

-- the most queries of a call
abbrev pub most_queries : ℕ
most_queries = 16

-- by how many per cent limits may be widened at most
abbrev pub most_widen : ℕ
most_widen = 1_000

-- the most lost rows that words may tell of
abbrev pub most_lost : ℕ
most_lost = 10_000_000

-- what its value has to be is asked of the parser
abbrev pub form_rule : ValueParser → Rule
form_rule forms = record (new_rule (codes "as")) {
  long = Some (codes "as");
  value_names = 1;
  parser = Some forms;
  defaults = codes "text" ∷ [];
}

abbrev pub nodes_rule : Rule
nodes_rule = record (new_rule (codes "nodes")) {
  long = Some (codes "nodes");
  value_names = 1;
  parser = Some (parsers.Signed (pos 1) (pos most_nodes));
  defaults = codes "10000" ∷ [];
}

-- which factor a text spells is told by `scale_of`
abbrev pub scale_rule : Rule
scale_rule = record (new_rule (codes "scale")) {
  long = Some (codes "scale");
  value_names = 1;
  parser = Some parsers.String;
  defaults = codes "1" ∷ [];
}

-- a word that has to be there
abbrev pub file_rule : Text → Rule
file_rule id = record (new_rule id) { value_names = 1; required = true }

-- any text may be the value, and no default stands for it
abbrev pub text_rule : Text → Rule
text_rule id = record (new_rule id) { long = Some id; value_names = 1 }

-- a flag
abbrev pub sort_rule : Rule
sort_rule = record (new_rule (codes "sort")) { long = Some (codes "sort"); action = Some SetTrue }

-- what divides rows has to be said
abbrev pub division_rule : Rule
division_rule = record (new_rule (codes "by")) { long = Some (codes "by"); value_names = 1; required = true }

abbrev pub widen_rule : Rule
widen_rule = record (new_rule (codes "widen")) {
  long = Some (codes "widen");
  value_names = 1;
  parser = Some (parsers.Unsigned 0 most_widen);
  defaults = codes "0" ∷ [];
}

abbrev pub lost_rule : Rule
lost_rule = record (new_rule (codes "lost")) {
  long = Some (codes "lost");
  value_names = 1;
  parser = Some (parsers.Unsigned 1 most_lost);
}

-- the most columns that may be wanted: no schema has more
abbrev pub most_columns : ℕ
most_columns = 12

abbrev pub column_rule : Rule
column_rule = record (new_rule (codes "column")) {
  value_names = 1;
  range = Some (record { start_inclusive = 1; end_inclusive = most_columns });
  action = Some Append;
}

abbrev pub query_rule : Rule
query_rule = record (new_rule (codes "query")) {
  value_names = 1;
  range = Some (record { start_inclusive = 1; end_inclusive = most_queries });
  action = Some Append;
  required = true;
}

abbrev pub with_both : App → Rule → Rule → App
with_both app first second = with_rule (with_rule app first) second

-- the options and files of `ask`, `session`, `why` and `weigh`, and what stands last
abbrev pub with_words : App → Rule → Rule → App
with_words app form last =
    with_both (with_both (with_both app form nodes_rule)
    (file_rule (codes "schema")) (file_rule (codes "rows")))
    (file_rule (codes "constraints")) last

abbrev pub verb : ValueParser → Text → Rule → Shape
verb forms name last = (with_words (new_app name) (form_rule forms) last).top

abbrev pub ask_verb : ValueParser → Shape
ask_verb forms = verb forms (codes "ask") query_rule

abbrev pub session_verb : ValueParser → Shape
session_verb forms = verb forms (codes "session") (file_rule (codes "script"))

abbrev pub why_verb : ValueParser → Shape
why_verb forms = verb forms (codes "why") query_rule

abbrev pub weigh_verb : ValueParser → Shape
weigh_verb forms =
    (with_both (with_words (new_app (codes "weigh")) (form_rule forms) (file_rule (codes "query"))) (text_rule (codes "by")) sort_rule).top

abbrev pub try_verb : ValueParser → Shape
try_verb forms =
    (with_both (with_rule (with_both (new_app (codes "try")) (form_rule forms) scale_rule)
    (file_rule (codes "schema")))
    (file_rule (codes "constraints")) (file_rule (codes "rows"))).top

abbrev pub opens_verb : ValueParser → Shape
opens_verb forms =
    (with_both (with_rule (new_app (codes "opens")) (form_rule forms))
    (file_rule (codes "schema")) (file_rule (codes "constraints"))).top

-- which rows are meant, and which of them are counted together
abbrev pub with_cells : App → App
with_cells app = with_both (with_rule app division_rule) (text_rule (codes "where")) (text_rule (codes "per"))

abbrev pub history_verb : Shape
history_verb =
    (with_both (with_both (with_cells (new_app (codes "history"))) widen_rule lost_rule)
    (file_rule (codes "schema")) (file_rule (codes "rows"))).top

-- a schema, constraints, and what stands last
abbrev pub listing_verb : Text → Text → Shape
listing_verb name last =
    (with_both (with_rule (new_app name) (file_rule (codes "schema"))) (file_rule (codes "constraints")) (file_rule last)).top

abbrev pub limit_verb : Shape
limit_verb = listing_verb (codes "limit") (codes "limits")

abbrev pub sql_verb : Shape
sql_verb = listing_verb (codes "sql") (codes "table")

abbrev pub schema_verb : Shape
schema_verb = (with_both (new_app (codes "schema")) (file_rule (codes "rows")) column_rule).top

-- a verb has to be named, and without a word help is told
abbrev pub desk_shape : Shape
desk_shape = record (new_shape (codes "pc_desk")) {
  is_leaf = false;
  no_binary_name = true;
  has_version = true;
  subcommand_required = true;
  arg_required_else_help = true;
}

-- by what the forms of `ask` and `session` may be, those of `why` and `weigh`, and those of `try` and `opens`
abbrev pub desk_with : ValueParser → ValueParser → ValueParser → App
desk_with forms drawn sheets = record {
  top = desk_shape;
  subs = ask_verb forms ∷ session_verb forms ∷ why_verb drawn ∷ weigh_verb drawn ∷ try_verb sheets ∷ opens_verb sheets ∷ history_verb ∷ limit_verb ∷ schema_verb ∷ sql_verb ∷ [];
}

-- any text may stand as a form here: which it names is told by `form_named`, `drawn_form_named` and `sheet_form_named`
abbrev pub desk_app : App
desk_app = desk_with parsers.String parsers.String parsers.String
