-- What may stand at each place of a line of a constraint, of a query and of that of a quantile.
use Rattle.std.specs.Prelude.{Bool, true, false, Option, Some, None, option_map}
use Rattle.pc_lang_tokens.specs.declared.token.Symbol.{Symbol}
use Rattle.pc_lang_tokens.specs.declared.token.Symbol.TheVariants as symbols
use Rattle.pc_lang_tokens.specs.declared.token.Word.{Word}
use Rattle.pc_lang_tokens.specs.declared.token.Word.TheVariants as words
use Rattle.pc_lang_tokens.specs.declared.token.Token.{Token}
use Rattle.pc_lang_tokens.specs.declared.token.Token.TheVariants as tokens
use Rattle.pc_lang_grammar.specs.declared.want.Clause.{Clause}
use Rattle.pc_lang_grammar.specs.declared.want.Clause.TheVariants as clauses
use Rattle.pc_lang_grammar.specs.declared.want.ClauseWant.{ClauseWant}
use Rattle.pc_lang_grammar.specs.declared.want.ClauseWant.TheVariants as within
use Rattle.pc_lang_grammar.specs.declared.want.LineWant.{LineWant}
use Rattle.pc_lang_grammar.specs.declared.want.LineWant.TheVariants as lines
use Rattle.pc_lang_grammar.specs.declared.want.QueryWant.{QueryWant}
use Rattle.pc_lang_grammar.specs.declared.want.QueryWant.TheVariants as queries
use Rattle.pc_lang_grammar.specs.declared.want.QuantileWant.{QuantileWant}
use Rattle.pc_lang_grammar.specs.declared.want.QuantileWant.TheVariants as quantiles
use Rattle.pc_lang_grammar.specs.declared.want.Want.{Want}
use Rattle.pc_lang_grammar.specs.declared.want.Want.TheVariants as wants
use Rattle.pc_lang_grammar.specs.declared.want.Kind.{Kind}
use Rattle.pc_lang_grammar.specs.declared.want.Kind.TheVariants as kinds

abbrev pub kind_of : Token → Kind
kind_of (tokens.Symbol symbol) = kinds.Symbol symbol
kind_of (tokens.Reserved word) = kinds.Reserved word
kind_of (tokens.Number text) = kinds.Number
kind_of (tokens.Name name) = kinds.Name

-- ---- what stands behind a token

unfoldable pub next_in_line : LineWant → Kind → Option Want
next_in_line lines.Head kinds.Name = Some (wants.Line lines.Colon)
next_in_line lines.Head (kinds.Reserved words.Outside) = Some (wants.Line lines.Arrow)
next_in_line lines.Colon (kinds.Symbol symbols.Colon) = Some (wants.Clause clauses.Predicate within.Part)
next_in_line lines.Arrow (kinds.Symbol symbols.Arrow) = Some (wants.Clause clauses.Values within.Part)
next_in_line lines.Least kinds.Number = Some (wants.Line lines.Dots)
next_in_line lines.Dots (kinds.Symbol symbols.Dots) = Some (wants.Line lines.Most)
next_in_line lines.Most kinds.Number = Some wants.End
next_in_line lines.Rule kinds.Name = Some wants.End
next_in_line lines.Rule (kinds.Reserved words.Outside) = Some wants.End
next_in_line want kind = None

-- a further part, or what follows the clause; values have one part
abbrev pub after_part : Clause → Kind → Option Want
after_part clauses.Predicate (kinds.Reserved words.Or) = Some (wants.Clause clauses.Predicate within.Part)
after_part clauses.Predicate (kinds.Symbol symbols.Arrow) = Some (wants.Clause clauses.Values within.Part)
after_part clauses.Values (kinds.Symbol symbols.Comma) = Some (wants.Line lines.Least)
after_part clauses.Chosen (kinds.Reserved words.Or) = Some (wants.Clause clauses.Chosen within.Part)
after_part clauses.Chosen (kinds.Reserved words.Group) = Some (wants.Query queries.By)
after_part clauses.Measured (kinds.Reserved words.Or) = Some (wants.Clause clauses.Measured within.Part)
after_part clause kind = None

abbrev pub compared : Symbol → Option ClauseWant
compared symbols.Equal = Some within.Either
compared symbols.AtLeast = Some within.Number
compared symbols.AtMost = Some within.Number
compared symbols.Above = Some within.Number
compared symbols.Below = Some within.Number
compared symbol = None

unfoldable pub next_in_clause : Clause → ClauseWant → Kind → Option Want
next_in_clause clause within.Part kinds.Name = Some (wants.Clause clause within.Claim)
next_in_clause clause within.Part (kinds.Reserved words.True) = Some (wants.Clause clause within.Truth)
next_in_clause clause within.Column kinds.Name = Some (wants.Clause clause within.Claim)
next_in_clause clause within.Claim (kinds.Symbol symbol) = option_map (wants.Clause clause) (compared symbol)
next_in_clause clause within.Claim (kinds.Reserved words.In) = Some (wants.Clause clause within.Inside)
next_in_clause clause within.Either kinds.Number = Some (wants.Clause clause within.Joint)
next_in_clause clause within.Either kinds.Name = Some (wants.Clause clause within.Joint)
next_in_clause clause within.Number kinds.Number = Some (wants.Clause clause within.Joint)
next_in_clause clause within.Inside kinds.Number = Some (wants.Clause clause within.Dots)
next_in_clause clause within.Inside (kinds.Symbol symbols.OpenSet) = Some (wants.Clause clause within.Member)
next_in_clause clause within.Dots (kinds.Symbol symbols.Dots) = Some (wants.Clause clause within.Number)
next_in_clause clause within.Member kinds.Name = Some (wants.Clause clause within.Next)
next_in_clause clause within.Next (kinds.Symbol symbols.Comma) = Some (wants.Clause clause within.Member)
next_in_clause clause within.Next (kinds.Symbol symbols.CloseSet) = Some (wants.Clause clause within.Joint)
next_in_clause clause within.Joint (kinds.Reserved words.And) = Some (wants.Clause clause within.Column)
next_in_clause clause within.Joint kind = after_part clause kind
next_in_clause clause within.Truth kind = after_part clause kind
next_in_clause clause want kind = None

abbrev pub measured : Word → Option QueryWant
measured words.Count = Some queries.Counted
measured words.Sum = Some queries.Open
measured words.Min = Some queries.Open
measured words.Max = Some queries.Open
measured words.Avg = Some queries.Open
measured word = None

unfoldable pub next_in_query : QueryWant → Kind → Option Want
next_in_query queries.Measure (kinds.Reserved word) = option_map wants.Query (measured word)
next_in_query queries.Counted (kinds.Symbol symbols.OpenGroup) = Some (wants.Query queries.Star)
next_in_query queries.Counted (kinds.Reserved words.Where) = Some (wants.Clause clauses.Chosen within.Part)
next_in_query queries.Counted (kinds.Reserved words.Group) = Some (wants.Query queries.By)
next_in_query queries.Star (kinds.Symbol symbols.Star) = Some (wants.Query queries.Close)
next_in_query queries.Open (kinds.Symbol symbols.OpenGroup) = Some (wants.Query queries.Column)
next_in_query queries.Column kinds.Name = Some (wants.Query queries.Close)
next_in_query queries.Close (kinds.Symbol symbols.CloseGroup) = Some (wants.Query queries.Tail)
next_in_query queries.Tail (kinds.Reserved words.Where) = Some (wants.Clause clauses.Chosen within.Part)
next_in_query queries.Tail (kinds.Reserved words.Group) = Some (wants.Query queries.By)
next_in_query queries.By (kinds.Reserved words.By) = Some (wants.Query queries.Group)
next_in_query queries.Group kinds.Name = Some wants.End
next_in_query want kind = None

unfoldable pub next_in_quantile : QuantileWant → Kind → Option Want
next_in_quantile quantiles.Word (kinds.Reserved words.Quantile) = Some (wants.Quantile quantiles.Open)
next_in_quantile quantiles.Open (kinds.Symbol symbols.OpenGroup) = Some (wants.Quantile quantiles.First)
next_in_quantile quantiles.First kinds.Number = Some (wants.Quantile quantiles.FirstEnd)
next_in_quantile quantiles.FirstEnd (kinds.Symbol symbols.Comma) = Some (wants.Quantile quantiles.Second)
next_in_quantile quantiles.Second kinds.Number = Some (wants.Quantile quantiles.SecondEnd)
next_in_quantile quantiles.SecondEnd (kinds.Symbol symbols.Comma) = Some (wants.Quantile quantiles.Column)
next_in_quantile quantiles.Column kinds.Name = Some (wants.Quantile quantiles.Close)
next_in_quantile quantiles.Close (kinds.Symbol symbols.CloseGroup) = Some (wants.Quantile quantiles.Tail)
next_in_quantile quantiles.Tail (kinds.Reserved words.Where) = Some (wants.Clause clauses.Measured within.Part)
next_in_quantile want kind = None

abbrev pub next_asked : Kind → Option Want
next_asked (kinds.Reserved words.Quantile) = Some (wants.Quantile quantiles.Open)
next_asked kind = next_in_query queries.Measure kind

-- what may stand behind a token of this kind where this is wanted, or none where it may not stand there
unfoldable pub next : Want → Kind → Option Want
next (wants.Line want) kind = next_in_line want kind
next (wants.Clause clause want) kind = next_in_clause clause want kind
next (wants.Query want) kind = next_in_query want kind
next (wants.Quantile want) kind = next_in_quantile want kind
next wants.Asked kind = next_asked kind
next wants.End kind = None

-- ---- where a text may end

abbrev pub closes : Clause → ClauseWant → Bool
closes clauses.Chosen within.Joint = true
closes clauses.Chosen within.Truth = true
closes clauses.Measured within.Joint = true
closes clauses.Measured within.Truth = true
closes clause want = false

unfoldable pub may_end : Want → Bool
may_end wants.End = true
may_end (wants.Query queries.Counted) = true
may_end (wants.Query queries.Tail) = true
may_end (wants.Quantile quantiles.Tail) = true
may_end (wants.Clause clause want) = closes clause want
may_end want = false
