-- What is told of a condition, and of the columns of a query.
use Rattle.std.specs.Prelude.{ℕ, ◌-◌, Bool, true, false, not, List, [], ◌∷◌, ◌++◌, codes, bytes_eq, drop, get_or, length, min, position, slice_get, Option, Some, None, if◌then◌else◌}
use Rattle.std.specs.List.{concat, list_any}
use Rattle.pc_model.specs.declared.fault.Reason.{Reason}
use Rattle.pc_model.specs.declared.fault.Reason.TheVariants as reasons
use Rattle.pc_model.specs.declared.schema.Column.{Column}
use Rattle.pc_model.specs.declared.schema.Kind.{Kind}
use Rattle.pc_model.specs.declared.schema.Kind.TheVariants as kinds
use Rattle.pc_model.specs.declared.schema.Schema.{Schema}
use Rattle.pc_lang_tokens.specs.declared.token.Symbol.TheVariants as symbols
use Rattle.pc_lang_tokens.specs.declared.token.Word.TheVariants as words
use Rattle.pc_lang_tokens.specs.declared.token.Token.{Token}
use Rattle.pc_lang_tokens.specs.declared.token.Token.TheVariants as tokens
use Rattle.pc_lang_tokens.specs.Texts.{tokens_text}
use Rattle.pc_desk_meanings.specs.declared.atom.Atom.{Atom}
use Rattle.pc_desk_meanings.specs.Atoms.{between}
use Rattle.pc_desk_meanings.specs.Columns.{column_in, of_column}

-- the tokens from one place up to another, as far as there are so many
abbrev pub spelled : List Token → ℕ → ℕ → List ℕ
spelled list start end = tokens_text (between (min start (min end (length list))) (min end (length list)) list)

-- ---- a condition

abbrev pub name_at : List Token → List ℕ
name_at (tokens.Name name ∷ rest) = name
name_at other = []

abbrev pub name_of : Token → List ℕ
name_of (tokens.Name name) = name
name_of other = []

abbrev pub behind : List Token → List Token
behind [] = []
behind (first ∷ rest) = rest

abbrev pub names_of : Kind → List (List ℕ)
names_of (kinds.Cat names) = names
names_of other = []

abbrev names_if : Option Column → List (List ℕ)
names_if (Some column) = names_of column.kind
names_if None = []

unfoldable pub names_for : List Column → List ℕ → List (List ℕ)
names_for columns name = names_if (column_in columns name)

abbrev pub is_among : List (List ℕ) → List ℕ → Bool
is_among names name = list_any (λ other. bytes_eq other name) names

abbrev pub is_stranger : List (List ℕ) → Token → Bool
is_stranger names (tokens.Name name) = not (is_among names name)
is_stranger names other = false

abbrev pub name_if : Option Token → List ℕ
name_if (Some token) = name_of token
name_if None = []

abbrev name_where : List Token → Option ℕ → List ℕ
name_where said (Some place) = name_if (slice_get said place)
name_where said None = []

-- the first name that is not among these
unfoldable pub stranger_in : List (List ℕ) → List Token → List ℕ
stranger_in names said = name_where said (position (is_stranger names) said)

-- the number behind a column and what compares it
abbrev pub number_in : List Token → List ℕ
number_in (column ∷ sign ∷ tokens.Number text ∷ rest) = text
number_in other = []

abbrev pub value_of : List Column → List ℕ → List Token → Reason → List ℕ
value_of columns name said reasons.UnknownName = stranger_in (names_for columns name) (behind said)
value_of columns name said reasons.TooManyDecimals = number_in said
value_of columns name said other = []

abbrev pub said_words : List Token → List ℕ → List ℕ
said_words said has = concat (tokens_text said ∷ codes ": " ∷ has ∷ [])

abbrev with_said : Reason → List Token → List ℕ → List ℕ
with_said reasons.UnknownColumn said has = has
with_said other said has = said_words said has

abbrev words_of : Schema → List Token → Reason → List ℕ
words_of schema said reason =
    with_said reason said (of_column schema.columns (name_at said) reason (value_of schema.columns (name_at said) said reason))

-- a condition, and what the schema has under the name of its column
unfoldable pub atom_words : Schema → List Token → Atom → List ℕ
atom_words schema list atom = words_of schema (between atom.start atom.end list) atom.reason

-- ---- the columns of a query

abbrev pub has_names : Kind → Bool
has_names (kinds.Cat names) = true
has_names other = false

abbrev pub is_wrong : Option Column → Reason → Bool → Bool
is_wrong None reasons.UnknownColumn of_names = true
is_wrong (Some column) reasons.WrongKind true = not (has_names column.kind)
is_wrong (Some column) reasons.WrongKind false = has_names column.kind
is_wrong column reason of_names = false

abbrev pub kind_words : Reason → Bool → List ℕ
kind_words reasons.WrongKind true = codes ", and a column of names is to stand there"
kind_words reasons.WrongKind false = codes ", and a column of numbers is to stand there"
kind_words reason of_names = []

-- of a column where one of names, or else of numbers, is to stand
unfoldable pub wanted_words : List Column → List ℕ → Reason → Bool → Option (List ℕ)
wanted_words columns name reason of_names =
    if is_wrong (column_in columns name) reason of_names then Some (of_column columns name reason [] ++ kind_words reason of_names) else None

abbrev pub first_name : List Token → Option (List ℕ)
first_name (tokens.Name name ∷ rest) = Some name
first_name other = None

-- what stands behind a number and a comma, where the tokens begin with them
abbrev pub behind_number : List Token → List Token
behind_number (tokens.Number text ∷ tokens.Symbol symbols.Comma ∷ rest) = rest
behind_number other = other

-- .. behind a word and a parenthesis, which a median is read without
abbrev pub behind_word : List Token → List Token
behind_word (tokens.Reserved word ∷ tokens.Symbol symbols.OpenGroup ∷ rest) = rest
behind_word other = other

abbrev pub measured_name : List Token → Option (List ℕ)
measured_name list = first_name (behind_number (behind_number (behind_word list)))

abbrev group_pair : List Token → Option (List ℕ)
group_pair (tokens.Reserved words.By ∷ tokens.Name name ∷ []) = Some name
group_pair other = None

-- the name behind a `by` at the end
abbrev pub grouped_name : List Token → Option (List ℕ)
grouped_name list = group_pair (drop (length list - 2) list)

abbrev wanted_if : List Column → Option (List ℕ) → Reason → Bool → Option (List ℕ)
wanted_if columns (Some name) reason of_names = wanted_words columns name reason of_names
wanted_if columns None reason of_names = None

abbrev pub measured_words : List Column → List Token → Reason → Option (List ℕ)
measured_words columns list reason = wanted_if columns (measured_name list) reason false

abbrev pub grouped_words : List Column → List Token → Reason → Option (List ℕ)
grouped_words columns list reason = wanted_if columns (grouped_name list) reason true
