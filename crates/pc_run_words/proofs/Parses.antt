-- What a parse of the words gives, by `clap`'s clauses, is what the definitions say of them.
use Rattle.std.proofs.Common.{◌≡◌, ◌∙◌, ◌&&◌, Bool, true, false, List, [], ◌∷◌, Option, None, codes, refl, sym, ap, subst, map, inl, inr, string_bytes, String}
use Rattle.std.specs.Prelude.{unwrap_or}
use Rattle.std.specs.List.{AllByRecursion}
use Rattle.std.specs.Str.{IsUtf8}
use Rattle.std.proofs.lemmas.Str.{IsUtf8-string_bytes}
use Rattle.clap.specs.Words.{HasMatchesOf, all_of, first_of, found_of, is_simple, is_simple_and_free, fault_of, matches_of, takes}
use Rattle.clap.specs.Simple.{built}
use Rattle.clap.specs.Takes.{built_takes, level_passes}
use Rattle.clap.specs.Walk.{Text, idle, nothing_held, walk_from}
use Rattle.clap.specs.declared.parser.matches.ArgMatches.{ArgMatches}
use Rattle.clap.proofs.FaultLemmas.{leaf_fault}
use Rattle.clap.proofs.TakesLemmas.{leaf_takes}
use Rattle.clap.proofs.WalkLemmas.{first_value-rows, raw_values-rows}
use Rattle.pc_run_words.specs.Words.{Given, given}
use Rattle.pc_run_words.specs.Parsers.{Holds, IsRefused, parser_app}
use Rattle.pc_run_words.proofs.Agreement.{Agrees, IsTaken, agrees_bare, agrees_nodes, fault_from, Stands}
use Rattle.pc_run_words.proofs.FoundRows.{finished_rows, plain_of_rows, rows_with, value_of_rows}
use Rattle.pc_run_words.proofs.WordSteps.{IsFaulty, shape}

nothing_stands : (has_nodes : Bool) → Stands has_nodes [] None None []
nothing_stands has_nodes = record { nodes_first = true; settled = refl; passes = refl }

agrees : (name : Text) (has_nodes : Bool) (words : List Text) → AllByRecursion IsUtf8 words → Agrees name has_nodes (walk_from nothing_held) words [] (given has_nodes words)
agrees name true words texts = (agrees_nodes name words texts).0 [] None idle None [] tt (nothing_stands true)
agrees name false words texts = agrees_bare name words texts [] None idle None [] tt (nothing_stands false)

-- ---- the parsers

is_simple_parser : (name : Text) (has_nodes : Bool) → is_simple (parser_app name has_nodes) ≡ true
is_simple_parser name true = refl
is_simple_parser name false = refl

pub is_free_parser : (name : Text) (has_nodes : Bool) → is_simple_and_free (parser_app name has_nodes) ≡ true
is_free_parser name true = refl
is_free_parser name false = refl

faults : (name : Text) (has_nodes : Bool) (words : List Text) → fault_of (parser_app name has_nodes) words ≡ fault_from name has_nodes (walk_from nothing_held) words
faults name has_nodes words = leaf_fault (built (parser_app name has_nodes)) nothing_held words refl

level_is : (name : Text) (has_nodes : Bool) (words : List Text) (reading : Option Given) → IsTaken name has_nodes (walk_from nothing_held) words [] reading
    → level_passes (shape name has_nodes) [] nothing_held words false ≡ true
level_is name true words reading taken = rw (taken.walks, taken.ends) refl
level_is name false words reading taken = rw (taken.walks, taken.ends) refl

is_taken : (name : Text) (has_nodes : Bool) (words : List Text) (reading : Option Given) → IsTaken name has_nodes (walk_from nothing_held) words [] reading
    → takes (parser_app name has_nodes) words ≡ true
is_taken name has_nodes words reading taken =
    ap (λ test. test && built_takes (built (parser_app name has_nodes)) nothing_held words) (is_simple_parser name has_nodes)
    ∙ leaf_takes (built (parser_app name has_nodes)) nothing_held words refl (level_is name has_nodes words reading taken)

rows_are : (name : Text) (has_nodes : Bool) (words : List Text) (reading : Option Given) (taken : IsTaken name has_nodes (walk_from nothing_held) words [] reading)
    → matches_of (parser_app name has_nodes) words ≡ rows_with taken.are.value taken.are.plain taken.nodes_first
rows_are name has_nodes words reading taken = finished_rows has_nodes _ ∙ taken.rows

module _ (name : Text) (has_nodes : Bool) (words : List Text) (texts : AllByRecursion IsUtf8 words) where
  pub found_holds : (found : ArgMatches) → HasMatchesOf (parser_app name has_nodes) words found → fault_of (parser_app name has_nodes) words ≡ []
      → Holds found (given has_nodes words)
  found_holds found matches none = elim (agrees name has_nodes words texts) [
    | inl taken ↦
        let rows = (matches (is_simple_parser name has_nodes)).0 ∙ rows_are name has_nodes words (given has_nodes words) taken in
        record {
          are = taken.are;
          given = taken.given;
          value = first_value-rows (found_of found) (codes "nodes") ∙ ap (first_of (codes "nodes")) rows ∙ value_of_rows taken.are.value taken.are.plain taken.nodes_first;
          plain = ap (λ all. unwrap_or all []) (raw_values-rows (found_of found) (codes "words") ∙ ap (all_of (codes "words")) rows)
              ∙ plain_of_rows taken.are.value taken.are.plain taken.nodes_first;
        }
    | inr fails ↦ absurd (subst IsFaulty (sym (faults name has_nodes words) ∙ none) fails.0)
  ]

  pub refused_by : (takes (parser_app name has_nodes) words ≡ true → ⊥) → IsRefused has_nodes (given has_nodes words)
  refused_by refused = elim (agrees name has_nodes words texts) [
    | inl taken ↦ absurd (refused (is_taken name has_nodes words (given has_nodes words) taken))
    | inr fails ↦ fails.1
  ]

pub all_texts : {Z : Type 0} (words : List (String Z)) → AllByRecursion IsUtf8 (map string_bytes words)
all_texts [] = tt
all_texts (word ∷ rest) = (IsUtf8-string_bytes word, all_texts rest)
