-- The commands of `clap` that read the words after a command's name, and what a parse by them finds.
use Rattle.std.specs.Prelude.{◌≡◌, Bool, true, false, List, [], ◌∷◌, codes, ⊤, Option, Some, None, option_map, unwrap_or}
use Rattle.clap.specs.Words.{App, Rule, Text, new_app, new_rule, first_value, found_of, matched_of, raw_values}
use Rattle.clap.specs.declared.builder.action.ArgAction.TheVariants.{Set, Append}
use Rattle.clap.specs.declared.parser.matches.ArgMatches.{ArgMatches}
use Rattle.pc_run_words.specs.Words.{Given, budget_of, given}

abbrev pub nodes_rule : Rule
nodes_rule = record (new_rule (codes "nodes")) { long = Some (codes "nodes"); action = Some Set }

-- each plain word is a use of its own
abbrev pub plain_rule : Rule
plain_rule = record (new_rule (codes "words")) { action = Some Append }

abbrev pub rules_for : Bool → List Rule
rules_for true = nodes_rule ∷ plain_rule ∷ []
rules_for false = plain_rule ∷ []

abbrev pub bare_app : Text → App
bare_app name =
    let app = new_app name in
    record app { top = record app.top { no_binary_name = true; disable_help_flag = true; disable_version_flag = true } }

-- all words are arguments, and none asks for help
abbrev pub parser_app : Text → Bool → App
parser_app name has_nodes =
    let app = bare_app name in
    record app { top = record app.top { rules = rules_for has_nodes } }

abbrev pub value_found : ArgMatches → Option Text
value_found found = first_value (found_of found) (codes "nodes")

abbrev pub plain_found : ArgMatches → List Text
plain_found found = unwrap_or (option_map raw_values (matched_of (found_of found) (codes "words"))) []

-- no command has these words: one that has `--nodes` wants a number there
abbrev pub IsRefused : Bool → Option Given → Type 0
IsRefused has_nodes None = ⊤
IsRefused has_nodes (Some words) = (has_nodes ≡ true) × (budget_of words.value ≡ None)

-- what was found is what the words give
pub record Holds (found : ArgMatches) (words : Option Given) : Type 0 where
  pub are : Given
  pub given : words ≡ Some are
  pub value : value_found found ≡ are.value
  pub plain : plain_found found ≡ are.plain

abbrev pub IsFound : Bool → List Text → Option ArgMatches → Type 0
IsFound has_nodes words None = IsRefused has_nodes (given has_nodes words)
IsFound has_nodes words (Some found) = Holds found (given has_nodes words)
