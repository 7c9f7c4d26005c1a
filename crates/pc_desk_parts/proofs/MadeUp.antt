-- The parts of a count, a sum and an average make up the end.
use Rattle.std.proofs.Common.{◌≡◌, ◌∙◌, ℕ, ◌+◌, ◌&&◌, ℤ, pos, ◌+ℤ◌, ◌*ℤ◌, Bool, true, false, List, [], ◌∷◌, ◌++◌, filter, map, length, Option, Some, None, refl, sym, ap, subst, arith}
use Rattle.std.specs.Prelude.{IsSomeAnd}
use Rattle.std.proofs.lemmas.Int.{ints}
use Rattle.std.proofs.lemmas.List.{length-map, length-append}
use Rattle.std.proofs.lemmas.List.Sums.{length-filter, sum_by-append}
use Rattle.std.proofs.lemmas.List.Sorted.{sum_by-IsPermutation}
use Rattle.pc_model.specs.declared.row.Row.{Row}
use Rattle.pc_model.specs.declared.row.Run.{Run}
use Rattle.pc_model.specs.declared.query.Agg.{Agg}
use Rattle.pc_model.specs.declared.query.Agg.TheVariants.{Count, Sum, Avg}
use Rattle.pc_model.specs.declared.query.Query.{Query}
use Rattle.pc_model.specs.declared.query.Folded.{Folded}
use Rattle.pc_model.specs.Aggregate.{Ratio, IsSame, asked, int_sum, kept, value_of, whole}
use Rattle.pc_model.specs.Folds.{IsFold, sum_at}
use Rattle.pc_model.specs.Right.{Question}
use Rattle.pc_model.specs.Runs.{rows_of}
use Rattle.pc_proof.specs.Setting.{seen_numbers, seen_sum}
use Rattle.pc_proof.proofs.Seen.{all_numbers, keeps, int_sum-append, lost_numbers, numbers_split}
use Rattle.pc_desk_parts.specs.declared.asked.Asked.{Asked}
use Rattle.pc_desk_parts.specs.declared.asked.Reached.{Reached}
use Rattle.pc_desk_parts.specs.declared.asked.Seen.TheVariants as seens
use Rattle.pc_desk_parts.specs.declared.part.Part.{Part}
use Rattle.pc_desk_parts.specs.declared.pulls.Way.{Way}
use Rattle.pc_desk_parts.specs.declared.pulls.Way.TheVariants.{Adding}
use Rattle.pc_desk_parts.specs.Ends.{adds_by, is_told, is_told_by, stand_of, way_by, way_for, way_of, worth, worth_by}
use Rattle.pc_desk_parts.specs.Lost.{lost_part, lost_parts}
use Rattle.pc_desk_parts.specs.Made.{added_part, observed_parts, seen_parts}
use Rattle.pc_desk_parts.specs.Parts.{ArePartsOf}
use Rattle.pc_desk_parts.specs.Sums.{AverageTo, MakeUp, amount_of, amounts, question_of, rows_in}
use Rattle.pc_desk_parts.proofs.AddedRuns.{amounts-permutation, runs_add, runs_have}
use Rattle.pc_desk_parts.proofs.Runs.{rows_where}

pub and_true : (b : Bool) → b && true ≡ b
and_true true = refl
and_true false = refl

-- ---- lost rows that add

module _ (ask : Asked) (reached : Reached) (observed : List Row) (adding : way_for ask ≡ Adding) where
  abbrev q : Question
  q = question_of ask observed

  abbrev lost : List Row
  lost = rows_of reached.runs.now

  told_is : (run : Run) → is_told ask reached run.row ≡ keeps q run.row
  told_is run = ap (λ (way : Way). keeps q run.row && is_told_by way (stand_of ask reached run.row)) adding ∙ and_true (keeps q run.row)

  amount_is : (run : Run) → amount_of (lost_part ask reached run).adds ≡ pos run.times *ℤ worth ask.query.now run.row
  amount_is run = ap (λ (way : Way). amount_of (adds_by way (stand_of ask reached run.row) (pos run.times *ℤ worth ask.query.now run.row))) adding

  pub lost_add : amounts (lost_parts ask reached) ≡ int_sum (map (worth ask.query.now) (filter (keeps q) lost))
  lost_add = runs_add (λ (run : Run). is_told ask reached run.row) (lost_part ask reached) (keeps q) told_is (worth ask.query.now) amount_is reached.runs.now

  pub lost_have : rows_in (lost_parts ask reached) ≡ length (filter (keeps q) lost)
  lost_have =
      runs_have (λ (run : Run). is_told ask reached run.row) (lost_part ask reached) (keeps q) told_is (λ run. refl) reached.runs.now
      ∙ sym (rows_where (keeps q) reached.runs.now) ∙ sym (length-filter (keeps q) lost)

  -- all of them, where the observed ones have this
  module _ (parts : List Part) (are : ArePartsOf ask reached parts) (count : ℕ) (amount : ℤ) (is : observed_parts ask reached ≡ added_part count amount) where
    whole_is : parts ≡ added_part count amount ++ are.lost
    whole_is = are.whole ∙ ap (λ (first : List Part). first ++ are.lost) is

    pub all_add : amounts parts ≡ amount +ℤ int_sum (map (worth ask.query.now) (filter (keeps q) lost))
    all_add =
        ap amounts whole_is ∙ ap (λ n. amount +ℤ n) (amounts-permutation (lost_parts ask reached) are.lost are.ordered.same ∙ lost_add)

    pub all_have : rows_in parts ≡ count + length (filter (keeps q) lost)
    all_have =
        let later = sum_by-IsPermutation (λ (part : Part). part.rows) (lost_parts ask reached) are.lost are.ordered.same ∙ lost_have in
        ap rows_in whole_is ∙ sum_by-append (λ (part : Part). part.rows) (added_part count amount) are.lost ∙ omega (arith, later)

-- ---- by the aggregate

ones : (rows : List Row) → int_sum (map (λ (row : Row). pos 1) rows) ≡ pos (length rows)
ones [] = refl
ones (row ∷ rows) = omega (arith, ints, ones rows)

nothing : (rows : List Row) → pos 0 ≡ int_sum (map (λ (row : Row). pos 0) rows)
nothing [] = refl
nothing (row ∷ rows) = omega (arith, ints, nothing rows)

by_column : (query : Query) (column : Option ℕ) (rows : List Row) → sum_at column rows ≡ int_sum (map (asked (record query { column = column })) rows)
by_column query None rows = nothing rows
by_column query (Some column) rows = refl

-- the sum of a fold is that of the rows that the query keeps, also where there is no column
sum_is : (q : Question) (folded : Folded) → IsFold q.query q.name q.observed folded → folded.sum ≡ seen_sum q
sum_is q folded fold = fold.sum ∙ by_column q.query q.query.column (kept q.query q.name q.observed)

module _ (ask : Asked) (reached : Reached) (observed : List Row) (folded : Folded) (value : Ratio) (seen : ask.seen ≡ seens.Folded folded)
    (fold : IsFold ask.query.now ask.name observed folded) (parts : List Part) (are : ArePartsOf ask reached parts) where
  abbrev question : Question
  question = question_of ask observed

  abbrev rows : List Row
  rows = rows_of reached.runs.now

  abbrev numbers : List ℤ
  numbers = all_numbers question rows

  pub many : pos (length numbers) ≡ pos (folded.count + length (filter (keeps question) rows))
  many =
      ap pos (ap length (numbers_split question rows) ∙ length-append (seen_numbers question) (lost_numbers question rows))
      ∙ omega (arith, ints, length-map (kept ask.query.now ask.name observed) (asked ask.query.now), length-map (filter (keeps question) rows) (asked ask.query.now), fold.count)

  pub made_counts : ask.query.now.agg ≡ Count → IsSomeAnd (value_of Count numbers) (λ v. IsSame v value) → MakeUp Count value parts
  made_counts is given =
      let adding = ap (λ (agg : Agg). way_of agg ask.seen) is ∙ ap (way_of Count) seen in
      let first = ap (λ (agg : Agg). seen_parts agg reached.value ask.seen) is ∙ ap (seen_parts Count reached.value) seen in
      let add = all_add ask reached observed adding parts are folded.count (pos folded.count) first in
      let lost = ap (λ (agg : Agg). int_sum (map (λ (row : Row). worth_by agg (asked ask.query.now row)) (filter (keeps question) rows))) is ∙ ones (filter (keeps question) rows) in
      let total : amounts parts ≡ pos (length numbers) = add ∙ ap (λ n. pos folded.count +ℤ n) lost ∙ sym many in
      subst (λ (z : ℤ). IsSame (whole z) value) (sym total) given

  total_is : (agg : Agg) → ask.query.now.agg ≡ agg → way_by agg ≡ Adding → seen_parts agg reached.value (seens.Folded folded) ≡ added_part folded.count folded.sum
      → ((number : ℤ) → worth_by agg number ≡ number) → (amounts parts ≡ int_sum numbers) × (rows_in parts ≡ length numbers)
  total_is agg is way first plain =
      let adding = ap (λ (a : Agg). way_of a ask.seen) is ∙ ap (way_of agg) seen ∙ way in
      let own = ap (λ (a : Agg). seen_parts a reached.value ask.seen) is ∙ ap (seen_parts agg reached.value) seen ∙ first in
      let add = all_add ask reached observed adding parts are folded.count folded.sum own in
      let have = all_have ask reached observed adding parts are folded.count folded.sum own in
      let lost = ap (λ (a : Agg). int_sum (map (λ (row : Row). worth_by a (asked ask.query.now row)) (filter (keeps question) rows))) is in
      let same = plainly (filter (keeps question) rows) in
      let sums = ap int_sum (numbers_split question rows) ∙ int_sum-append (seen_numbers question) (lost_numbers question rows) in
      (add ∙ ap (λ n. folded.sum +ℤ n) (lost ∙ same) ∙ ap (λ n. n +ℤ int_sum (lost_numbers question rows)) (sum_is question folded fold) ∙ sym sums, omega (arith, ints, have, many))
    where
      plainly : (rows : List Row) → int_sum (map (λ (row : Row). worth_by agg (asked ask.query.now row)) rows) ≡ int_sum (map (asked ask.query.now) rows)
      plainly [] = refl
      plainly (row ∷ rows) = ap (λ n. n +ℤ int_sum (map (λ (row : Row). worth_by agg (asked ask.query.now row)) rows)) (plain (asked ask.query.now row)) ∙ ap (λ n. asked ask.query.now row +ℤ n) (plainly rows)

  pub made_sums : ask.query.now.agg ≡ Sum → IsSomeAnd (value_of Sum numbers) (λ v. IsSame v value) → MakeUp Sum value parts
  made_sums is given = subst (λ (z : ℤ). IsSame (whole z) value) (sym (total_is Sum is refl refl (λ n. refl)).0) given

  average : (numbers : List ℤ) → amounts parts ≡ int_sum numbers → rows_in parts ≡ length numbers → IsSomeAnd (value_of Avg numbers) (λ v. IsSame v value) → AverageTo value parts
  average [] add have given = absurd given
  average (x ∷ xs) add have given = record {
    some = omega (arith, have);
    same = rw (add, have) given;
  }

  pub made_averages : ask.query.now.agg ≡ Avg → IsSomeAnd (value_of Avg numbers) (λ v. IsSame v value) → MakeUp Avg value parts
  made_averages is given = let total = total_is Avg is refl refl (λ n. refl) in average numbers total.0 total.1 given
