-- Which numbers or names of a column a claim states.
use Rattle.std.specs.Prelude.{ℕ, ◌+◌, ◌*◌, Bool, ℤ, pos, ◌+ℤ◌, ◌-ℤ◌, List, [], ◌∷◌, bytes_eq, Result, Ok, Err, if◌then◌else◌}
use Rattle.std.specs.List.{list_all, list_any}
use Rattle.pc_model.specs.declared.fault.Reason.{Reason}
use Rattle.pc_model.specs.declared.fault.Reason.TheVariants as reasons
use Rattle.pc_model.specs.declared.schema.Kind.{Kind}
use Rattle.pc_model.specs.declared.schema.Kind.TheVariants.{Int, Dec, Cat}
use Rattle.pc_model.specs.declared.region.Side.{Side}
use Rattle.pc_model.specs.declared.region.Side.TheVariants.{Span, Names}
use Rattle.pc_model.specs.Numbers.{number_of}
use Rattle.pc_model.specs.Refusals.{◌>>=◌}
use Rattle.pc_lang_grammar.specs.declared.syntax.Claim.{Claim}
use Rattle.pc_lang_grammar.specs.declared.syntax.Claim.TheVariants as claims

abbrev pub span : ℤ → ℤ → Result Side Reason
span low high = Ok (Span low high)

-- what a claim states of numbers from low to high, by the last place: no number at all where the first end is above the
-- second
unfoldable pub stated_numbers : ℕ → ℤ → ℤ → Claim → Result Side Reason
stated_numbers scale low high (claims.Number text) = number_of scale text >>= λ n. span n n
stated_numbers scale low high (claims.Name name) = Err reasons.WrongKind
stated_numbers scale low high (claims.AtLeast text) = number_of scale text >>= λ n. span n high
stated_numbers scale low high (claims.AtMost text) = number_of scale text >>= λ n. span low n
stated_numbers scale low high (claims.Above text) = number_of scale text >>= λ n. span (n +ℤ pos 1) high
stated_numbers scale low high (claims.Below text) = number_of scale text >>= λ n. span low (n -ℤ pos 1)
stated_numbers scale low high (claims.Within from_text upto_text) = number_of scale from_text >>= λ from. number_of scale upto_text >>= λ upto. span from upto
stated_numbers scale low high (claims.Among first others) = Err reasons.WrongKind

abbrev pub is_among : List (List ℕ) → List ℕ → Bool
is_among names name = list_any (λ other. bytes_eq other name) names

abbrev pub bit_if : Bool → ℕ
bit_if test = if test then 1 else 0

-- the bits of the names that are stated, the first name's the last bit
unfoldable pub bits_of : List (List ℕ) → List (List ℕ) → ℕ
bits_of stated [] = 0
bits_of stated (name ∷ rest) = bit_if (is_among stated name) + 2 * bits_of stated rest

-- a set of names of the column
unfoldable pub set_of : List (List ℕ) → List (List ℕ) → Result Side Reason
set_of names stated = if list_all (is_among names) stated then Ok (Names (bits_of stated names)) else Err reasons.UnknownName

-- what a claim states of a column of names
unfoldable pub stated_names : List (List ℕ) → Claim → Result Side Reason
stated_names names (claims.Number text) = Err reasons.WrongKind
stated_names names (claims.Name name) = set_of names (name ∷ [])
stated_names names (claims.AtLeast text) = Err reasons.WrongKind
stated_names names (claims.AtMost text) = Err reasons.WrongKind
stated_names names (claims.Above text) = Err reasons.WrongKind
stated_names names (claims.Below text) = Err reasons.WrongKind
stated_names names (claims.Within from_text upto_text) = Err reasons.WrongKind
stated_names names (claims.Among first others) = set_of names (first ∷ others)

-- what a claim states of a column
unfoldable pub stated : Kind → Claim → Result Side Reason
stated (Int low high) claim = stated_numbers 0 low high claim
stated (Dec scale low high) claim = stated_numbers scale low high claim
stated (Cat names) claim = stated_names names claim
