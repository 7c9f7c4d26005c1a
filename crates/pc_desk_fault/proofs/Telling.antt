-- What is told, from its parts.
use Rattle.std.proofs.Common.{◌≡◌, ℕ, List, []}
use Rattle.pc_model.specs.declared.fault.Reason.{Reason}
use Rattle.pc_lang_grammar.specs.declared.want.LineWant.TheVariants as lines_want
use Rattle.pc_lang_grammar.specs.declared.want.Want.TheVariants as wants
use Rattle.pc_script.specs.Script.{first_word}
use Rattle.pc_desk_fault.specs.declared.meanings.Form.TheVariants as forms
use Rattle.pc_desk_fault.specs.Lines.{IsLineTold, line_told}
use Rattle.pc_desk_fault.specs.Queries.{IsMedianTold, IsQueryTold, of_median, query_told}
use Rattle.pc_desk_fault.specs.Scripts.{IsCommandTold, IsScriptLineTold, command_of}
use Rattle.pc_desk_fault.specs.Texts.{IsToldFor}

pub line_is_told : (schema : List ℕ) (reason : Reason) (line told out : List ℕ) → IsToldFor forms.Line schema reason [] line (wants.Line lines_want.Head) told → out ≡ line_told line told → IsLineTold schema reason line out
line_is_told schema reason line told out is e = (told, is, e)

pub ruleset lines = (line_is_told)

pub query_is_told : (schema : List ℕ) (reason : Reason) (text told out : List ℕ) → IsMedianTold schema reason text (of_median text) told → out ≡ query_told told → IsQueryTold schema reason text out
query_is_told schema reason text told out is e = (told, is, e)

pub ruleset queries = (query_is_told)

pub script_line_is_told : (schema : List ℕ) (reason : Reason) (line told out : List ℕ) → IsCommandTold (command_of (first_word line)) schema reason line told → out ≡ line_told line told → IsScriptLineTold schema reason line out
script_line_is_told schema reason line told out is e = (told, is, e)

pub ruleset scripts = (script_line_is_told)
