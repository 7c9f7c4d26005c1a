-- The aggregate of rows is the value of what they come to.
use Rattle.std.proofs.Common.{◌≡◌, ℕ, zero, suc, ℤ, pos, List, [], ◌∷◌, length, Option, Some, None, IfSome, IsSome, refl, ap, ap₂, ◌∙◌, arith}
use Rattle.std.specs.Prelude.{option_map}
use Rattle.std.proofs.lemmas.Int.{ints}
use Rattle.std.proofs.lemmas.List.{length-map}
use Rattle.pc_model.specs.declared.row.Row.{Row}
use Rattle.pc_model.specs.declared.query.Agg.{Agg}
use Rattle.pc_model.specs.declared.query.Agg.TheVariants.{Count, Sum, Min, Max, Avg}
use Rattle.pc_model.specs.declared.query.Folded.{Folded}
use Rattle.pc_model.specs.Aggregate.{whole, asked, int_sum, value_of}
use Rattle.pc_model.specs.Right.{Question, value_for}
use Rattle.pc_proof.specs.Observed.{ComesTo}
use Rattle.pc_proof.specs.Setting.{Setting, seen, seen_numbers}
use Rattle.pc_check_rules.specs.declared.scene.Scene.{Scene}
use Rattle.pc_check_rules.specs.Scene.{HasMeasure, IsSceneOf}
use Rattle.pc_check.specs.Totals.{average_of, total_value, question_with}

-- what is known where there is a column
known : (column : Option ℕ) (P : Type 0) → IsSome column → IfSome column (λ _. P) → P
known None P some is = cc
known (Some column) P some is = is

average_is : (numbers : List ℤ) (sum : ℤ) (count : ℕ) → int_sum numbers ≡ sum → pos (length numbers) ≡ pos count → value_of Avg numbers ≡ average_of sum count
average_is [] sum zero sum_is many = refl
average_is [] sum (suc count) sum_is many = absurd (omega (arith, ints, many))
average_is (x ∷ numbers) sum zero sum_is many = absurd (omega (arith, ints, many))
average_is (x ∷ numbers) sum (suc count) sum_is many = ap₂ (λ n d. Some (record { num = n; den = d })) sum_is many

module _ (q : Question) (total : Folded) (comes : ComesTo q total) where
  how_many : pos (length (seen_numbers q)) ≡ pos total.count
  how_many = ap pos (length-map (seen q) (asked q.query)) ∙ comes.count

  value_by : (agg : Agg) → HasMeasure agg q.query.column → value_of agg (seen_numbers q) ≡ total_value agg total
  value_by Count measured = ap (λ n. Some (whole n)) how_many
  value_by Sum measured = ap (λ n. Some (whole n)) (known q.query.column _ measured comes.sum)
  value_by Min measured = ap (option_map whole) (known q.query.column _ measured comes.least)
  value_by Max measured = ap (option_map whole) (known q.query.column _ measured comes.greatest)
  value_by Avg measured = average_is (seen_numbers q) total.sum total.count (known q.query.column _ measured comes.sum) how_many

pub value_with : (scene : Scene) (s : Setting) (lost : List Row) (total : Folded) → IsSceneOf scene s → ComesTo (question_with s.question lost) total
    → value_for s.question lost ≡ total_value scene.agg total
value_with scene s lost total of_scene comes =
    value_by (question_with s.question lost) total comes s.question.query.agg of_scene.measured ∙ ap (λ agg. total_value agg total) of_scene.agg_is
