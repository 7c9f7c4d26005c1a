-- Which condition of a text is refused.
use Rattle.std.specs.Prelude.{◌≡◌, ◌≤◌, ⊤, ℕ, ◌-◌, List, [], ◌∷◌, ◌++◌, codes, length, take, drop, Option, Some, None, Result, Ok, Err, IsOk}
use Rattle.pc_model.specs.declared.fault.Reason.{Reason}
use Rattle.pc_model.specs.declared.schema.Schema.{Schema}
use Rattle.pc_lang_tokens.specs.declared.token.Token.{Token}
use Rattle.pc_lang_tokens.specs.Texts.{tokens_text}
use Rattle.pc_lang.specs.Files.{query_from}
use Rattle.pc_desk_meanings.specs.declared.atom.Atom.{Atom}
use Rattle.pc_desk_meanings.specs.declared.atom.Clause.{Clause}

-- the tokens from one place up to another
abbrev pub between : ℕ → ℕ → List Token → List Token
between start end tokens = take (end - start) (drop start tokens)

-- the query that chooses by these conditions
unfoldable pub choosing : List Token → List ℕ
choosing atoms = codes "count where " ++ tokens_text atoms

-- what is found is the reason for which nothing is read
abbrev pub IsRefusedFor : {A : Type 0} → Result A Reason → Option Reason → Type 0
IsRefusedFor read None = IsOk read
IsRefusedFor read (Some reason) = read ≡ Err reason

abbrev pub IsRefusal : Schema → List Token → Option Reason → Type 0
IsRefusal schema atoms found = IsRefusedFor (query_from schema (choosing atoms)) found

-- the conditions of the part up to and with this one are refused for this reason
pub record IsRefusedAtom (schema : Schema) (tokens : List Token) (atom : Atom) : Type 0 where
  pub behind : atom.part ≤ atom.start
  pub before : atom.start ≤ atom.end
  pub within : atom.end ≤ length tokens
  pub refused : query_from schema (choosing (between atom.part atom.end tokens)) ≡ Err atom.reason

-- it begins before a place
pub record IsClauseIn (place : ℕ) (clause : Clause) : Type 0 where
  pub part : clause.part ≤ clause.start
  pub start : clause.start ≤ place
