-- Which words are a command.
use Rattle.std.specs.Prelude.{ℕ, ◌≤◌, nat_lt, nat_le, ◌==◌, ◌&&◌, ◌||◌, not, Bool, true, false, List, [], ◌∷◌, codes, take, drop, length, bytes_eq, Option, Some, None, is_some, option_map, option_and_then, if◌then◌else◌}
use Rattle.std.specs.Char.{is_ascii_digit}
use Rattle.std.specs.List.{list_all}
use Rattle.std.specs.Str.Parse.{digits_value}
use Rattle.pc_run_words.specs.declared.form.Form.{Form}
use Rattle.pc_run_words.specs.declared.form.Form.TheVariants as forms

-- of `bound`, and of `prove`: how many nodes each search may have, the names of its three files, and the texts of its queries
pub record BoundNames : Type 0 where
  pub nodes : ℕ
  pub schema : List ℕ
  pub rows : List ℕ
  pub constraints : List ℕ
  pub queries : List (List ℕ)

-- of `show`: the names of its two files
pub record ShowNames : Type 0 where
  pub schema : List ℕ
  pub constraints : List ℕ

-- of `conflict`: how many nodes each search may have, and the names of its two files
pub record ConflictNames : Type 0 where
  pub nodes : ℕ
  pub files : ShowNames

-- of `quantile`: how many nodes each search may have, the names of its three files, and the text of its query
pub record QuantileNames : Type 0 where
  pub nodes : ℕ
  pub schema : List ℕ
  pub rows : List ℕ
  pub constraints : List ℕ
  pub query : List ℕ

-- of `check`: the names of its four files
pub record CheckNames : Type 0 where
  pub schema : List ℕ
  pub rows : List ℕ
  pub constraints : List ℕ
  pub document : List ℕ

-- of `session`: how many nodes each search may have, and the names of its four files
pub record SessionNames : Type 0 where
  pub nodes : ℕ
  pub schema : List ℕ
  pub rows : List ℕ
  pub constraints : List ℕ
  pub script : List ℕ

-- of `gen`: what its draws begin with, and how large its case is
pub record GenNumbers : Type 0 where
  pub seed : ℕ
  pub size : ℕ

-- a command with its values
pub data Asked : Type 0 where
  bound : BoundNames → Asked
  prove : BoundNames → Asked
  check : CheckNames → Asked
  show : ShowNames → Asked
  conflict : ConflictNames → Asked
  quantile : QuantileNames → Asked
  session : SessionNames → Asked
  gen : GenNumbers → Asked

-- ---- the words after the command

-- the value of `--nodes`, where it is given, and the plain words
pub record Given : Type 0 where
  pub value : Option (List ℕ)
  pub plain : List (List ℕ)

-- begins with `-`, and is longer than that
abbrev pub is_option : List ℕ → Bool
is_option [] = false
is_option (byte ∷ []) = false
is_option (byte ∷ next ∷ rest) = byte == 45

-- the value in a word `--nodes=VALUE`
abbrev pub value_in : List ℕ → Option (List ℕ)
value_in word = if bytes_eq (take 8 word) (codes "--nodes=") then Some (drop 8 word) else None

abbrev pub with_plain : List ℕ → Given → Given
with_plain word given = record given { plain = word ∷ given.plain }

-- a word that begins like an option is `--nodes`, if the command has it, and only once
abbrev pub after_option : Bool → List ℕ → Option (List ℕ) → (Bool → Option (List ℕ) → Option Given) → Option Given
after_option has_nodes word value next =
    if not has_nodes || is_some value then None
    else (if bytes_eq word (codes "--nodes") then next true None
    else option_and_then (λ found. next false (Some found)) (value_in word))

-- a word where none waits for its value: after `--` all words are plain
abbrev pub after_word : Bool → List ℕ → List (List ℕ) → Option (List ℕ) → (Bool → Option (List ℕ) → Option Given) → Option Given
after_word has_nodes word rest value next =
    if bytes_eq word (codes "--") then Some (record { value = value; plain = rest })
    else (if is_option word then after_option has_nodes word value next
    else option_map (with_plain word) (next false value))

-- the words from one place on, where the word before is `--nodes` and waits for its value, or what value was given
unfoldable pub given_in : Bool → List (List ℕ) → Bool → Option (List ℕ) → Option Given
given_in has_nodes [] waits value = if waits then None else Some (record { value = value; plain = [] })
given_in has_nodes (word ∷ rest) waits value =
    if waits then given_in has_nodes rest false (Some word)
    else after_word has_nodes word rest value (given_in has_nodes rest)

abbrev pub given : Bool → List (List ℕ) → Option Given
given has_nodes words = given_in has_nodes words false None

-- ---- numbers

-- the number that a word of digits alone spells, from a least one to a greatest one
unfoldable pub number_of : ℕ → ℕ → List ℕ → Option ℕ
number_of least most word =
    if nat_lt 0 (length word) && list_all is_ascii_digit word && nat_le least (digits_value 10 word) && nat_le (digits_value 10 word) most
    then Some (digits_value 10 word)
    else None

-- the most nodes of one search that words may ask for, and how many there are without `--nodes`
abbrev pub most_nodes : ℕ
most_nodes = 100_000

abbrev pub usual_nodes : ℕ
usual_nodes = 10_000

abbrev pub budget_of : Option (List ℕ) → Option ℕ
budget_of None = Some usual_nodes
budget_of (Some word) = number_of 1 most_nodes word

abbrev pub most_seed : ℕ
most_seed = 4_294_967_295

abbrev pub most_size : ℕ
most_size = 1_000

abbrev pub query_limit : ℕ
query_limit = 16

-- ---- commands

-- three files, and one query or more
abbrev pub names_at : List (List ℕ) → ℕ → Option BoundNames
names_at (schema ∷ rows ∷ constraints ∷ query ∷ queries) nodes =
    if nat_lt (length queries) query_limit
    then Some (record { nodes = nodes; schema = schema; rows = rows; constraints = constraints; queries = query ∷ queries })
    else None
names_at words nodes = None

-- four files
abbrev pub check_at : List (List ℕ) → Option Asked
check_at (schema ∷ rows ∷ constraints ∷ document ∷ []) = Some (check (record { schema = schema; rows = rows; constraints = constraints; document = document }))
check_at words = None

-- two files
abbrev pub show_at : List (List ℕ) → Option ShowNames
show_at (schema ∷ constraints ∷ []) = Some (record { schema = schema; constraints = constraints })
show_at words = None

abbrev pub contradicted : ℕ → ShowNames → Asked
contradicted nodes files = conflict (record { nodes = nodes; files = files })

-- three files and one query
abbrev pub quantile_at : List (List ℕ) → ℕ → Option Asked
quantile_at (schema ∷ rows ∷ constraints ∷ query ∷ []) nodes =
    Some (quantile (record { nodes = nodes; schema = schema; rows = rows; constraints = constraints; query = query }))
quantile_at words nodes = None

-- four files, the last of which is a script
abbrev pub session_at : List (List ℕ) → ℕ → Option Asked
session_at (schema ∷ rows ∷ constraints ∷ script ∷ []) nodes =
    Some (session (record { nodes = nodes; schema = schema; rows = rows; constraints = constraints; script = script }))
session_at words nodes = None

-- two numbers
abbrev pub gen_with : List ℕ → List ℕ → Option Asked
gen_with seed size =
    option_and_then (λ from. option_map (λ much. gen (record { seed = from; size = much })) (number_of 1 most_size size)) (number_of 0 most_seed seed)

abbrev pub gen_at : List (List ℕ) → Option Asked
gen_at (seed ∷ size ∷ []) = gen_with seed size
gen_at words = None

-- what a command makes of its plain words, and of how many nodes each search may have
abbrev pub made_at : Form → List (List ℕ) → ℕ → Option Asked
made_at forms.Bound words nodes = option_map bound (names_at words nodes)
made_at forms.Prove words nodes = option_map prove (names_at words nodes)
made_at forms.Check words nodes = check_at words
made_at forms.Show words nodes = option_map show (show_at words)
made_at forms.Conflict words nodes = option_map (contradicted nodes) (show_at words)
made_at forms.Quantile words nodes = quantile_at words nodes
made_at forms.Session words nodes = session_at words nodes
made_at forms.Gen words nodes = gen_at words

-- whether it takes `--nodes`
abbrev pub has_nodes : Form → Bool
has_nodes forms.Bound = true
has_nodes forms.Prove = true
has_nodes forms.Check = false
has_nodes forms.Show = false
has_nodes forms.Conflict = true
has_nodes forms.Quantile = true
has_nodes forms.Session = true
has_nodes forms.Gen = false

-- its name
abbrev pub form_named : List ℕ → Option Form
form_named name =
    if bytes_eq name (codes "bound") then Some forms.Bound
    else (if bytes_eq name (codes "prove") then Some forms.Prove
    else (if bytes_eq name (codes "check") then Some forms.Check
    else (if bytes_eq name (codes "show") then Some forms.Show
    else (if bytes_eq name (codes "conflict") then Some forms.Conflict
    else (if bytes_eq name (codes "quantile") then Some forms.Quantile
    else (if bytes_eq name (codes "session") then Some forms.Session
    else (if bytes_eq name (codes "gen") then Some forms.Gen
    else None)))))))

abbrev pub made_of : Form → Given → Option Asked
made_of form words = option_and_then (made_at form words.plain) (budget_of words.value)

abbrev pub command_with : Form → List (List ℕ) → Option Asked
command_with form words = option_and_then (made_of form) (given (has_nodes form) words)

-- the first word says which command it is
abbrev pub command_of : List (List ℕ) → Option Asked
command_of [] = None
command_of (name ∷ words) = option_and_then (λ form. command_with form words) (form_named name)

-- ---- what holds of the numbers of a command

-- a number of nodes that words may ask for
pub record IsBudget (nodes : ℕ) : Type 0 where
  pub some : 1 ≤ nodes
  pub few : nodes ≤ most_nodes

-- a size that words may ask for
pub record IsSize (size : ℕ) : Type 0 where
  pub some : 1 ≤ size
  pub small : size ≤ most_size
