-- Of a quantile, the parts tell how many rows stand on each side of the end.
use Rattle.std.proofs.Common.{◌≡◌, ◌∙◌, ℕ, ◌+◌, ◌==◌, ◌&&◌, ℤ, pos, ◌*ℤ◌, Bool, true, false, cond, List, [], ◌∷◌, ◌++◌, filter, map, None, refl, sym, ap, ap₂, arith, Bor}
use borrow.Author.Tests.{eqb-true}
use Rattle.std.specs.List.{count_by}
use Rattle.std.proofs.lemmas.List.Sums.{sum_by-append, sum_by-cons}
use Rattle.std.proofs.lemmas.List.Sorted.{sum_by-IsPermutation}
use Rattle.pc_model.specs.declared.row.Row.{Row}
use Rattle.pc_model.specs.declared.row.Run.{Run}
use Rattle.pc_model.specs.Aggregate.{asked, kept}
use Rattle.pc_model.specs.Right.{Question}
use Rattle.pc_model.specs.Runs.{rows_of}
use Rattle.pc_num.specs.declared.fraction.Frac.{Frac}
use Rattle.pc_proof.specs.Setting.{seen_numbers}
use Rattle.pc_proof.proofs.Seen.{all_numbers, keeps, lost_numbers, numbers_split}
use Rattle.pc_desk_parts.specs.declared.asked.Asked.{Asked}
use Rattle.pc_desk_parts.specs.declared.asked.Reached.{Reached}
use Rattle.pc_desk_parts.specs.declared.asked.Seen.TheVariants as seens
use Rattle.pc_desk_parts.specs.declared.part.Adds.TheVariants.{Stands}
use Rattle.pc_desk_parts.specs.declared.part.Part.{Part}
use Rattle.pc_desk_parts.specs.declared.pulls.Way.{Way}
use Rattle.pc_desk_parts.specs.declared.pulls.Way.TheVariants.{Standing}
use Rattle.pc_desk_parts.specs.declared.stands.Stand.{Stand}
use Rattle.pc_desk_parts.specs.declared.stands.Stand.TheVariants.{Below, At, Above}
use Rattle.pc_desk_parts.specs.Ends.{adds_by, is_told, is_told_by, stand_of, way_for, way_of, worth}
use Rattle.pc_desk_parts.specs.Lost.{lost_part, lost_parts}
use Rattle.pc_desk_parts.specs.Made.{count_at, observed_part, observed_parts, seen_parts, standing_part, standing_parts}
use Rattle.pc_desk_parts.specs.Parts.{ArePartsOf}
use Rattle.pc_desk_parts.specs.Stands.{is_stand, stand_to}
use Rattle.pc_desk_parts.specs.Sums.{question_of, rows_standing, stands_so}
use Rattle.pc_desk_parts.proofs.AddedRuns.{runs_stand}
use Rattle.pc_desk_parts.proofs.MadeUp.{and_true}

-- how many numbers pass, of the rows that are kept
pub kept_passing : (test : Row → Bool) (number : Row → ℤ) (passes : ℤ → Bool) (rows : List Row)
    → count_by passes (map number (filter test rows)) ≡ count_by (λ (row : Row). test row && passes (number row)) rows
kept_passing test number passes [] = refl
kept_passing test number passes (row ∷ rows) =
    by_test (test row) refl ∙ ap (λ n. cond (test row && passes (number row)) 1 0 + n) (kept_passing test number passes rows)
    ∙ sym (sum_by-cons (λ (other : Row). cond (test other && passes (number other)) 1 0) row rows)
  where
    by_test : (b : Bool) → test row ≡ b
        → count_by passes (map number (cond b (row ∷ filter test rows) (filter test rows))) ≡ cond (test row && passes (number row)) 1 0 + count_by passes (map number (filter test rows))
    by_test true is =
        sum_by-cons (λ (n : ℤ). cond (passes n) 1 0) (number row) (map number (filter test rows))
        ∙ ap (λ (b : Bool). cond (b && passes (number row)) 1 0 + count_by passes (map number (filter test rows))) (sym is)
    by_test false is =
        let none : count_by passes (map number (filter test rows)) ≡ 0 + count_by passes (map number (filter test rows)) = omega arith in
        none ∙ ap (λ (b : Bool). cond (b && passes (number row)) 1 0 + count_by passes (map number (filter test rows))) (sym is)

standing-append : (stand : Stand) (parts more : List Part) → rows_standing stand (parts ++ more) ≡ rows_standing stand parts + rows_standing stand more
standing-append stand = sum_by-append (λ (part : Part). cond (stands_so stand part.adds) part.rows 0)

-- ---- observed rows

one_part : (stand other : Stand) (count : ℕ) → rows_standing stand (standing_part other count) ≡ cond (is_stand stand other) count 0
one_part stand other count = by_test (count == 0) refl
  where
    nothing : (b : Bool) → ◌≡◌ {A = ℕ} 0 (cond b 0 0)
    nothing true = refl
    nothing false = refl

    by_test : (b : Bool) → (count == 0) ≡ b → rows_standing stand (cond b [] (observed_part count None (Stands other) ∷ [])) ≡ cond (is_stand stand other) count 0
    by_test true is = nothing (is_stand stand other) ∙ ap (λ (n : ℕ). cond (is_stand stand other) n 0) (sym (eqb-true count 0 is))
    by_test false is = omega arith

module _ (below at above : ℕ) where
  abbrev three : List Part
  three = standing_part Below below ++ standing_part At at ++ standing_part Above above

  three_stand : (stand : Stand) → rows_standing stand three ≡ cond (is_stand stand Below) below 0 + cond (is_stand stand At) at 0 + cond (is_stand stand Above) above 0
  three_stand stand =
      standing-append stand (standing_part Below below ++ standing_part At at) (standing_part Above above)
      ∙ ap₂ (λ (a b : ℕ). a + b) (standing-append stand (standing_part Below below) (standing_part At at) ∙ ap₂ (λ (a b : ℕ). a + b) (one_part stand Below below) (one_part stand At at))
      (one_part stand Above above)

seen_stand : (value : Frac) (numbers : List ℤ) (stand : Stand) → rows_standing stand (standing_parts value numbers) ≡ count_at value stand numbers
seen_stand value numbers Below = three_stand (count_at value Below numbers) (count_at value At numbers) (count_at value Above numbers) Below ∙ omega arith
seen_stand value numbers At = three_stand (count_at value Below numbers) (count_at value At numbers) (count_at value Above numbers) At ∙ omega arith
seen_stand value numbers Above = three_stand (count_at value Below numbers) (count_at value At numbers) (count_at value Above numbers) Above ∙ omega arith

-- ---- all rows

module _ (ask : Asked) (reached : Reached) (observed : List Row) (numbers : Bor (List ℤ)) (seen : ask.seen ≡ seens.Numbers numbers)
    (own : numbers.now ≡ map (asked ask.query.now) (kept ask.query.now ask.name observed)) (parts : List Part) (are : ArePartsOf ask reached parts) (stand : Stand) where
  abbrev q : Question
  q = question_of ask observed

  abbrev rows : List Row
  rows = rows_of reached.runs.now

  abbrev passes : ℤ → Bool
  passes number = is_stand stand (stand_to reached.value number)

  standing : way_for ask ≡ Standing
  standing = ap (way_of ask.query.now.agg) seen

  told_is : (run : Run) → is_told ask reached run.row ≡ keeps q run.row
  told_is run = ap (λ (way : Way). keeps q run.row && is_told_by way (stand_of ask reached run.row)) standing ∙ and_true (keeps q run.row)

  stands_is : (run : Run) → stands_so stand (lost_part ask reached run).adds ≡ passes (asked ask.query.now run.row)
  stands_is run = ap (λ (way : Way). stands_so stand (adds_by way (stand_of ask reached run.row) (pos run.times *ℤ worth ask.query.now run.row))) standing

  lost_stand : rows_standing stand (lost_parts ask reached) ≡ count_by passes (lost_numbers q rows)
  lost_stand =
      runs_stand (λ (run : Run). is_told ask reached run.row) (lost_part ask reached) (keeps q) told_is (λ run. refl) stand (λ (row : Row). passes (asked ask.query.now row)) stands_is reached.runs.now
      ∙ sym (kept_passing (keeps q) (asked ask.query.now) passes rows)

  observed_stand : rows_standing stand (observed_parts ask reached) ≡ count_by passes (seen_numbers q)
  observed_stand =
      ap (λ s. rows_standing stand (seen_parts ask.query.now.agg reached.value s)) seen
      ∙ seen_stand reached.value numbers.now stand ∙ ap (count_at reached.value stand) own

  pub all_stand : rows_standing stand parts ≡ count_at reached.value stand (all_numbers q rows)
  all_stand =
      ap (rows_standing stand) are.whole ∙ standing-append stand (observed_parts ask reached) are.lost
      ∙ ap₂ (λ (a b : ℕ). a + b) observed_stand (sum_by-IsPermutation (λ (part : Part). cond (stands_so stand part.adds) part.rows 0) (lost_parts ask reached) are.lost are.ordered.same ∙ lost_stand)
      ∙ sym (ap (count_by passes) (numbers_split q rows) ∙ sum_by-append (λ (n : ℤ). cond (passes n) 1 0) (seen_numbers q) (lost_numbers q rows))
