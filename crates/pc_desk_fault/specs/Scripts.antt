-- What is told of a line of a script.
use Rattle.std.specs.Prelude.{◌≡◌, ℕ, Bool, true, false, List, length, codes, bytes_eq, Option, Some, None, if◌then◌else◌}
use Rattle.pc_model.specs.declared.fault.Reason.{Reason}
use Rattle.pc_model.specs.declared.fault.Reason.TheVariants as reasons
use Rattle.pc_lang_grammar.specs.declared.want.LineWant.TheVariants as lines
use Rattle.pc_lang_grammar.specs.declared.want.QueryWant.TheVariants as queries
use Rattle.pc_lang_grammar.specs.declared.want.Want.{Want}
use Rattle.pc_lang_grammar.specs.declared.want.Want.TheVariants as wants
use Rattle.pc_lang.specs.Files.{without_return}
use Rattle.pc_script.specs.Script.{after_word, first_word}
use Rattle.pc_desk_wants.specs.Told.{IsTold, line_break, word_told}
use Rattle.pc_desk_fault.specs.declared.meanings.Form.{Form}
use Rattle.pc_desk_fault.specs.declared.meanings.Form.TheVariants as forms
use Rattle.pc_desk_fault.specs.declared.scripts.Command.{Command}
use Rattle.pc_desk_fault.specs.declared.scripts.Command.TheVariants as commands
use Rattle.pc_desk_fault.specs.declared.scripts.Thing.{Thing}
use Rattle.pc_desk_fault.specs.declared.scripts.Thing.TheVariants as things
use Rattle.pc_desk_fault.specs.Lines.{line_told}
use Rattle.pc_desk_fault.specs.Queries.{before}
use Rattle.pc_desk_fault.specs.Sentences.{sentence_line}
use Rattle.pc_desk_fault.specs.Texts.{IsToldFor, is_of_reading}

abbrev pub command_of : List ℕ → Command
command_of word =
    if bytes_eq word (codes "ask") then commands.Ask
    else (if bytes_eq word (codes "add") then commands.Add
    else (if bytes_eq word (codes "drop") then commands.Drop else commands.Unknown))

abbrev pub thing_of : List ℕ → Thing
thing_of word = if bytes_eq word (codes "row") then things.Row else (if bytes_eq word (codes "rule") then things.Rule else things.Unknown)

-- how many lines there are, and which names are held, no text of a line tells
abbrev pub is_of_script : Reason → Bool
is_of_script reasons.TooMany = true
is_of_script reasons.RepeatedName = true
is_of_script reason = false

-- a word of a line before the rest, where one of these may stand
abbrev pub at_word : Bool → Reason → List ℕ → List ℕ → List ℕ → List ℕ → List ℕ
at_word true reason line word rest words = word_told (before (length word) (before (length rest) line)) word words
at_word false reason line word rest words = sentence_line reason

abbrev pub word_text : Reason → List ℕ → List ℕ → List ℕ → List ℕ → List ℕ
word_text reason line word rest words = at_word (is_of_reading reason) reason line word rest words

-- a query or a constraint at the end of a line
abbrev pub IsEndTold : Bool → Form → List ℕ → Reason → List ℕ → List ℕ → Want → List ℕ → Type 0
IsEndTold true form schema reason line rest start told = told ≡ sentence_line reason
IsEndTold false form schema reason line rest start told = IsToldFor form schema reason (before (length rest) line) rest start told

-- the name of a constraint at the end of a line
abbrev pub IsNameTold : Bool → Reason → List ℕ → List ℕ → List ℕ → Type 0
IsNameTold true reason line rest told = IsTold (before (length rest) line) rest (wants.Line lines.Rule) told
IsNameTold false reason line rest told = told ≡ sentence_line reason

abbrev pub IsAddedTold : Thing → List ℕ → Reason → List ℕ → List ℕ → List ℕ → Type 0
IsAddedTold things.Row schema reason line text told = told ≡ sentence_line reason
IsAddedTold things.Rule schema reason line text told = IsEndTold (is_of_script reason) forms.Line schema reason line (after_word text) (wants.Line lines.Head) told
IsAddedTold things.Unknown schema reason line text told = told ≡ word_text reason line (first_word text) (after_word text) (codes "`row` or `rule`")

abbrev pub IsDroppedTold : Thing → Reason → List ℕ → List ℕ → List ℕ → Type 0
IsDroppedTold things.Row reason line text told = told ≡ sentence_line reason
IsDroppedTold things.Rule reason line text told = IsNameTold (is_of_reading reason) reason line (after_word text) told
IsDroppedTold things.Unknown reason line text told = told ≡ word_text reason line (first_word text) (after_word text) (codes "`row` or `rule`")

abbrev pub IsCommandTold : Command → List ℕ → Reason → List ℕ → List ℕ → Type 0
IsCommandTold commands.Ask schema reason line told = IsEndTold (is_of_script reason) forms.Query schema reason line (after_word line) (wants.Query queries.Measure) told
IsCommandTold commands.Add schema reason line told = IsAddedTold (thing_of (first_word (after_word line))) schema reason line (after_word line) told
IsCommandTold commands.Drop schema reason line told = IsDroppedTold (thing_of (first_word (after_word line))) reason line (after_word line) told
IsCommandTold commands.Unknown schema reason line told = told ≡ word_text reason line (first_word line) (after_word line) (codes "`ask`, `add` or `drop`")

abbrev pub IsScriptLineTold : List ℕ → Reason → List ℕ → List ℕ → Type 0
IsScriptLineTold schema reason line out = (told : List ℕ) × IsCommandTold (command_of (first_word line)) schema reason line told × (out ≡ line_told line told)

-- .. that a script has, or not
abbrev pub IsScriptPlaceTold : List ℕ → Reason → Option (List ℕ) → List ℕ → Type 0
IsScriptPlaceTold schema reason (Some line) out = IsScriptLineTold schema reason (without_return line) out
IsScriptPlaceTold schema reason None out = out ≡ line_break
