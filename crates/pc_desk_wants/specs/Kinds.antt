-- The kinds of tokens that are told to stand at a place.
use Rattle.std.specs.Prelude.{Bool, is_some, List, [], ◌∷◌}
use Rattle.std.specs.List.{filter}
use Rattle.pc_lang_tokens.specs.declared.token.Symbol.TheVariants as symbols
use Rattle.pc_lang_tokens.specs.declared.token.Word.TheVariants as words
use Rattle.pc_lang_grammar.specs.declared.want.Want.{Want}
use Rattle.pc_lang_grammar.specs.declared.want.Kind.{Kind}
use Rattle.pc_lang_grammar.specs.declared.want.Kind.TheVariants as kinds
use Rattle.pc_lang_grammar.specs.Wants.{next}

-- all kinds, in the order in which they are told
unfoldable pub all_kinds : List Kind
all_kinds =
    kinds.Name ∷ kinds.Number
    ∷ kinds.Reserved words.True ∷ kinds.Reserved words.Outside
    ∷ kinds.Reserved words.Count ∷ kinds.Reserved words.Sum ∷ kinds.Reserved words.Min ∷ kinds.Reserved words.Max ∷ kinds.Reserved words.Avg ∷ kinds.Reserved words.Quantile
    ∷ kinds.Symbol symbols.OpenGroup ∷ kinds.Symbol symbols.CloseGroup ∷ kinds.Symbol symbols.Star ∷ kinds.Symbol symbols.Colon
    ∷ kinds.Symbol symbols.Equal ∷ kinds.Symbol symbols.AtLeast ∷ kinds.Symbol symbols.AtMost ∷ kinds.Symbol symbols.Above ∷ kinds.Symbol symbols.Below ∷ kinds.Reserved words.In
    ∷ kinds.Symbol symbols.OpenSet ∷ kinds.Symbol symbols.Dots
    ∷ kinds.Reserved words.And ∷ kinds.Reserved words.Or ∷ kinds.Symbol symbols.Arrow ∷ kinds.Symbol symbols.Comma ∷ kinds.Symbol symbols.CloseSet
    ∷ kinds.Reserved words.Where ∷ kinds.Reserved words.Group ∷ kinds.Reserved words.By
    ∷ []

-- may a token of this kind stand where this is wanted?
abbrev pub may_come : Want → Kind → Bool
may_come want kind = is_some (next want kind)

-- the kinds that may stand there
unfoldable pub told_kinds : Want → List Kind
told_kinds want = filter (may_come want) all_kinds
