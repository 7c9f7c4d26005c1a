-- What is made of the folds of observed and lost rows is what they come to together.
use Rattle.std.proofs.Common.{◌≡◌, ◌+◌, ◌*◌, ◌≤◌, ◌^◌, ◌+ℤ◌, List, None, sym, subst, arith}
use Rattle.std.specs.Prelude.{nat_abs}
use Rattle.std.specs.List.{AllPass}
use Rattle.std.proofs.lemmas.Int.{ints}
use Rattle.pc_num.specs.Signs.{Fits}
use Rattle.pc_model.specs.declared.schema.Schema.{Schema}
use Rattle.pc_model.specs.declared.row.Row.{Row}
use Rattle.pc_model.specs.declared.query.Query.{Query}
use Rattle.pc_model.specs.declared.query.Folded.{Folded}
use Rattle.pc_model.specs.Folds.{IsFold}
use Rattle.pc_model.specs.Membership.{in_domain}
use Rattle.pc_model.specs.Possible.{IsPossible}
use Rattle.pc_proof.specs.Observed.{ComesTo}
use Rattle.pc_proof.specs.Setting.{Setting}
use Rattle.pc_proof.specs.Table.{greater_of, lesser_of}
use Rattle.pc_check_rules.specs.Scene.{IsJudged}
use Rattle.pc_check.specs.declared.matter.Matter.{Matter}
use Rattle.pc_check.specs.Totals.{question_with}
use Rattle.pc_check.specs.Verdicts.{IsMatterOf, asked_of}
use Rattle.pc_check.proofs.FoldedRows.{fold_small, lost_come}
use Rattle.pc_check.proofs.Joining.{joined_come}
use Rattle.pc_check.proofs.ManyRows.{possible_few}

module _ (matter : Matter) (s : Setting) (of_matter : IsMatterOf matter s) (judged : IsJudged matter.scene) (rows : List Row)
    (possible : IsPossible matter.schema.now matter.scene.constraints.now rows) (lost total : Folded) (fold : IsFold matter.asked.now None rows lost) where
  asked_fold : IsFold (asked_of s.question) None rows lost
  asked_fold = subst (λ (query : Query). IsFold query None rows lost) (sym of_matter.asked_is) fold

  in_schema : AllPass (in_domain s.question.schema) rows
  in_schema = subst (λ (schema : Schema). AllPass (in_domain schema) rows) (sym of_matter.schema_is) possible.allowed

  small : nat_abs lost.sum ≤ 2 * 10 ^ 25
  small =
      fold_small s.question.schema (asked_of s.question) rows lost of_matter.posed.formed in_schema asked_fold
      (possible_few matter.schema.now matter.scene.constraints.now rows judged.limited possible)

  fits : Fits (matter.scene.seen.sum +ℤ lost.sum)
  fits = omega (arith, ints, small, judged.counted.small)

  pub total_comes : total.count ≡ matter.scene.seen.count + lost.count → (Fits (matter.scene.seen.sum +ℤ lost.sum) → total.sum ≡ matter.scene.seen.sum +ℤ lost.sum)
      → total.least ≡ lesser_of matter.scene.seen.least lost.least → total.greatest ≡ greater_of matter.scene.seen.greatest lost.greatest
      → ComesTo (question_with s.question rows) total
  total_comes count sum least greatest =
      joined_come s.question rows matter.scene.seen lost total of_matter.scene.comes_to (lost_come s.question rows lost of_matter.posed asked_fold)
      (record { count = count; sum = sum fits; least = least; greatest = greatest })
