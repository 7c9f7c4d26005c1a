-- What is told of a line or a query that is refused for what it says.
use Rattle.std.specs.Prelude.{◌≡◌, ℕ, ◌-◌, ◌==◌, Bool, true, false, List, [], ◌∷◌, ◌++◌, codes, length, take, Option, Some, None, IfSome, if◌then◌else◌}
use Rattle.std.specs.List.{concat}
use Rattle.pc_model.specs.declared.fault.Reason.{Reason}
use Rattle.pc_model.specs.declared.fault.Reason.TheVariants as reasons
use Rattle.pc_model.specs.declared.schema.Schema.{Schema}
use Rattle.pc_model.specs.FaultTexts.{number_of}
use Rattle.pc_lang_tokens.specs.declared.token.Token.{Token}
use Rattle.pc_desk_meanings.specs.declared.atom.Atom.{Atom}
use Rattle.pc_desk_meanings.specs.Atoms.{IsRefusedAtom}
use Rattle.pc_desk_meanings.specs.Pieces.{atom_words, grouped_words, measured_words, spelled}
use Rattle.pc_desk_meanings.specs.Words.{sentence}

abbrev pub lined : List ℕ → List ℕ
lined words = concat (codes "    " ∷ words ∷ (10 ∷ []) ∷ [])

abbrev same_reason : Reason → Reason → Bool
same_reason one other = number_of one == number_of other

-- ---- a line of constraints

-- the tokens without those of the least and the greatest number of rows
abbrev pub before_frequency : List Token → List Token
before_frequency list = take (length list - 4) list

abbrev front_of : List Token → Reason → List ℕ
front_of list reasons.RepeatedName = spelled list 0 1
front_of list reasons.BadNumber = spelled list (length list - 3) (length list)
front_of list reasons.PastLimit = spelled list (length list - 3) (length list)
front_of list reasons.LeastOverMost = spelled list (length list - 3) (length list)
front_of list other = []

abbrev colon_behind : List ℕ → List ℕ
colon_behind text = if length text == 0 then [] else text ++ codes ": "

-- what a reason speaks of that is no condition's
unfoldable pub other_words : List Token → Reason → List ℕ
other_words list reason = colon_behind (front_of list reason) ++ sentence reason

abbrev pub or_else : Option (List ℕ) → List ℕ → List ℕ
or_else (Some words) other = words
or_else None other = other

-- the words of a condition, where it is refused for this reason
abbrev pub words_in : Schema → List Token → Reason → Option Atom → Option (List ℕ)
words_in schema clauses reason (Some atom) = if same_reason atom.reason reason then Some (atom_words schema clauses atom) else None
words_in schema clauses reason None = None

abbrev pub line_words : Schema → List Token → List Token → Reason → Option Atom → List ℕ
line_words schema list clauses reason found = or_else (words_in schema clauses reason found) (other_words list reason)

pub record TellsLine (schema : Schema) (list : List Token) (reason : Reason) (text : List ℕ) : Type 0 where
  pub found : Option Atom
  pub refused : IfSome found (IsRefusedAtom schema (before_frequency list))
  pub told : text ≡ lined (line_words schema list (before_frequency list) reason found)

-- ---- a query

-- the column that is measured, a condition, or the column of the groups: the first of them that is refused for this reason
unfoldable pub query_words : Schema → List Token → Reason → Option (List ℕ) → List ℕ
query_words schema list reason words =
    or_else (measured_words schema.columns list reason) (or_else words (or_else (grouped_words schema.columns list reason) (sentence reason)))

pub record TellsQuery (schema : Schema) (list : List Token) (reason : Reason) (text : List ℕ) : Type 0 where
  pub found : Option Atom
  pub refused : IfSome found (IsRefusedAtom schema list)
  pub told : text ≡ lined (query_words schema list reason (words_in schema list reason found))
