-- A list of rows has a quantile just where its numbers have a least one.
use Rattle.std.proofs.Common.{ℕ, ◌≤◌, ℤ, List, [], ◌∷◌, IsSome, refl, sym, ap, subst, arith}
use Rattle.std.specs.Prelude.{◌↔◌, option_map}
use Rattle.std.specs.List.{reduce}
use Rattle.std.specs.Int.{int_min}
use Rattle.pc_model.specs.declared.row.Row.{Row}
use Rattle.pc_model.specs.declared.query.Agg.{Agg}
use Rattle.pc_model.specs.Aggregate.{whole, value_of}
use Rattle.pc_model.specs.Right.{value_for}
use Rattle.pc_proof.specs.Setting.{Setting}
use Rattle.pc_lang.specs.declared.quantile.Quantile.{Quantile}
use Rattle.pc_quantile.specs.Measured.{IsAskedIn, numbers_of, quantile_of}
use Rattle.pc_quantile.specs.Quantile.{quantile}
use Rattle.pc_quantile.proofs.Shares.{there_is_one}

there_alike : (p q : ℕ) (numbers : List ℤ) → 1 ≤ p → p ≤ q → (IsSome (quantile p q numbers) ↔ IsSome (option_map whole (reduce int_min numbers)))
there_alike p q [] some most = (λ none. none, λ none. none)
there_alike p q (x ∷ xs) some most = (λ found. refl, λ found. there_is_one p q (x ∷ xs) some most (omega arith))

pub with_least : (s : Setting) (asked : Quantile) (lost : List Row) → IsAskedIn s asked → (IsSome (quantile_of s.question asked lost) ↔ IsSome (value_for s.question lost))
with_least s asked lost is =
    subst (λ (agg : Agg). IsSome (quantile_of s.question asked lost) ↔ IsSome (value_of agg (numbers_of s.question lost))) (sym (ap (λ query. query.agg) is.query))
    (there_alike asked.p asked.q (numbers_of s.question lost) is.well.some is.well.most)
