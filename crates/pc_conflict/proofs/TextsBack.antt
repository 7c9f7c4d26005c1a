-- An answer to which constraints contradict each other is read back from its text.
use Rattle.std.proofs.Common.{◌≡◌, ℕ, zero, suc, ◌<◌, ◌==◌, Bool, true, false, List, [], ◌∷◌, ◌++◌, length, codes, All, AllPairs, inl, inr, refl, sym, ap, ap₂, subst, ◌∙◌, append_assoc, arith}
use Rattle.std.specs.List.{AllZip, list_all}
use Rattle.std.proofs.lemmas.List.{append-nil, append_cancel_left, append_cancel_right}
use Rattle.std.proofs.lemmas.List.Elements.{All-nil, All-push, All-weaker}
use Rattle.std.proofs.lemmas.List.Kept.{AllPairs-filter}
use Rattle.std.proofs.lemmas.List.Quantifiers.{all_pairs_push}
use Rattle.pc_model.specs.declared.schema.Schema.{Schema}
use Rattle.pc_model.specs.declared.row.Run.{Run}
use Rattle.pc_model.specs.declared.constraint.Constraint.{Constraint}
use Rattle.pc_model.specs.Accepted.{AreConstraints}
use Rattle.pc_model.specs.WellFormed.{IsWellFormed}
use Rattle.pc_report.specs.Report.{titled_text}
use Rattle.pc_report.specs.RunLines.{run_line, run_lines}
use Rattle.pc_report.specs.Shown.{AreShownRuns}
use Rattle.pc_report.proofs.BlocksBack.{is_printed}
use Rattle.pc_report.proofs.RunsBack.{is_r, runs_back}
use Rattle.pc_report.proofs.RunsShown.{possible_runs_are_shown}
use Rattle.pc_report.proofs.Stops.{fronts_equal, same_tail, starts, unlike_at, unlike_starts}
use Rattle.pc_conflict.specs.declared.conflict.Conflict.{Conflict}
use Rattle.pc_conflict.specs.declared.conflict.Conflict.TheVariants.{Possible, Core, Undecided}
use Rattle.pc_conflict.specs.Conflicts.{IsConflict}
use Rattle.pc_conflict.specs.Core.{IsCore, IsFreeWithout, other_than}
use Rattle.pc_conflict.specs.Deleting.{ArePlaces}
use Rattle.pc_conflict.specs.Deletion.{at_places, AreKept, IsNext, IsNextTest, StandFor}
use Rattle.pc_conflict.specs.Texts.{conflict_text, core_text, rule_at, rules_text, undecided_text, without_text, withouts_text}
use Rattle.pc_conflict.proofs.Parts.{accepted_still}
use Rattle.pc_conflict.proofs.RulesBack.{rules_back, rules_printed}
use Rattle.pc_conflict.proofs.Steps.{AllZip-weaker}
use Rattle.pc_conflict.proofs.Tested.{are_places, later_there, others_there}
use Rattle.pc_conflict.proofs.Withouts.{next_member, no_lists, no_members}

-- ---- what is shown of an answer

-- its places are there, and its runs are read back from their lines
abbrev pub IsShownConflict : Schema → List Constraint → Conflict → Type 0
IsShownConflict schema constraints (Possible runs) = AreShownRuns schema runs
IsShownConflict schema constraints (Core members without) = All (λ place. place < length constraints) members × AllZip (λ (member : ℕ) (runs : List Run). AreShownRuns schema runs) members without
IsShownConflict schema constraints (Undecided tested) = All (λ place. place < length constraints) tested

abbrev Rising : List ℕ → Type 0
Rising places = AllPairs (λ (a b : ℕ). a < b) places

-- what the tests before a place keep stands before it, each place below the next
module _ (schema : Schema) (constraints : List Constraint) where
  next_kept : (place : ℕ) (before kept : List ℕ) → All (λ member. member < place) before × Rising before → IsNext schema constraints place before kept → All (λ member. member < suc place) kept × Rising kept
  next_kept place before kept are (inl out) =
      rw (out.1) (All-weaker (λ member. member < place) (λ member. member < suc place) (λ member lt. omega (arith, lt)) before are.0, are.1)
  next_kept place before kept are (inr more) =
      rw (more.1) (
        All-push (λ member. member < suc place) before place (All-weaker (λ member. member < place) (λ member. member < suc place) (λ member lt. omega (arith, lt)) before are.0) (omega arith),
        all_pairs_push (λ (a b : ℕ). a < b) before place are.1 are.0,
      )

  kept_places : (place : ℕ) (kept : List ℕ) → AreKept schema constraints place kept → All (λ member. member < place) kept × Rising kept
  kept_places zero kept are = rw (are.1) (All-nil (λ member. member < 0), λ i j d before here. absurd (omega (arith, here)))
  kept_places (suc place) kept are = next_kept place are.0 kept (kept_places place are.0 are.1) are.2

  tested_inside : (tested : List ℕ) → IsNextTest schema constraints tested → All (λ place. place < length constraints) tested
  tested_inside tested (inl all) = rw all (later_there constraints 0)
  tested_inside tested (inr next) =
      let place = next.0 in
      let kept = next.1 in
      let here : place < length constraints = next.2 in
      let are = kept_places place kept next.3 in
      rw (next.4)
      (are_places constraints kept place (suc place) (omega arith) (All-weaker (λ member. member < place) (λ member. member < length constraints) (λ member lt. omega (arith, lt, here)) kept are.0) are.1 are.0).inside

module _ (schema : Schema) (constraints : List Constraint) (formed : IsWellFormed schema) (accepted : AreConstraints schema constraints) where
  part_shown : (part : List Constraint) (runs : List Run) → AreConstraints schema part → StandFor schema part runs → AreShownRuns schema runs
  part_shown part runs are stands = possible_runs_are_shown schema part runs formed are.few are.small stands.each_stands stands.possible

  -- the places of a core are those of a list that the tests keep, and so are all but one of them
  others_are : (members : List ℕ) (member : ℕ) → All (λ place. place < length constraints) members → Rising members → ArePlaces constraints (other_than member members)
  others_are members member inside rising = record { inside = others_there constraints members member inside; rising = AllPairs-filter (λ (a b : ℕ). a < b) _ members rising }

  core_shown : (members : List ℕ) (without : List (List Run)) → IsCore schema constraints members without → AllZip (λ (member : ℕ) (runs : List Run). AreShownRuns schema runs) members without
  core_shown members without core =
      let rising = (kept_places schema constraints (length constraints) members core.kept).1 in
      AllZip-weaker (λ place. place < length constraints) (IsFreeWithout schema constraints members) (λ (member : ℕ) (runs : List Run). AreShownRuns schema runs)
      (λ member runs inside stands. part_shown (at_places constraints (other_than member members)) runs (accepted_still schema constraints (other_than member members) (others_are members member core.places rising) accepted) stands)
      members without core.places core.each

  shown : (budget : ℕ) (answer : Conflict) → IsConflict schema constraints budget answer → IsShownConflict schema constraints answer
  shown budget (Possible runs) is = part_shown constraints runs accepted is
  shown budget (Core members without) is = (is.places, core_shown members without is)
  shown budget (Undecided tested) is = tested_inside schema constraints tested is.next

-- ---- lines

titled_opens : (schema : Schema) (title : List ℕ) (runs : List Run) (r : List ℕ) → titled_text schema title runs ++ r ≡ title ++ 10 ∷ (run_lines schema runs ++ r)
unfolding titled_text
titled_opens schema title runs r =
    append_assoc title (10 ∷ (run_lines schema runs ++ [])) r ∙ ap (λ (lines : List ℕ). title ++ 10 ∷ (lines ++ r)) (append-nil (run_lines schema runs))

runs_start : (fits : ℕ → Bool) → fits 114 ≡ false → (schema : Schema) (runs : List Run) → starts fits (run_lines schema runs) ≡ false
unfolding run_lines run_line
runs_start fits other schema [] = refl
runs_start fits other schema (run ∷ runs) = other

module _ (schema : Schema) (constraints : List Constraint) where
  without_opens : (member : ℕ) (runs : List Run) (r : List ℕ) → without_text schema constraints member runs ++ r ≡ (codes "without " ++ rule_at constraints member) ++ 10 ∷ (run_lines schema runs ++ r)
  unfolding without_text
  without_opens member runs r = titled_opens schema (codes "without " ++ rule_at constraints member) runs r

  withouts_open : (member : ℕ) (members : List ℕ) (runs : List Run) (lists : List (List Run)) →
      withouts_text schema constraints (member ∷ members) (runs ∷ lists) ≡ codes "without " ++ (rule_at constraints member ++ 10 ∷ (run_lines schema runs ++ withouts_text schema constraints members lists))
  withouts_open member members runs lists = next_member schema constraints member members runs lists ∙ without_opens member runs (withouts_text schema constraints members lists)

  withouts_start : (fits : ℕ → Bool) (members : List ℕ) (lists : List (List Run)) → fits 119 ≡ false → starts fits (withouts_text schema constraints members lists) ≡ false
  withouts_start fits [] lists other = ap (starts fits) (no_members schema constraints lists)
  withouts_start fits (member ∷ members) [] other = ap (starts fits) (no_lists schema constraints (member ∷ members))
  withouts_start fits (member ∷ members) (runs ∷ lists) other = ap (starts fits) (withouts_open member members runs lists) ∙ other

  withouts_back : (members : List ℕ) (lists others : List (List Run)) → IsWellFormed schema → AllZip (λ (member : ℕ) (runs : List Run). AreShownRuns schema runs) members lists → AllZip (λ (member : ℕ) (runs : List Run). AreShownRuns schema runs) members others →
      withouts_text schema constraints members lists ≡ withouts_text schema constraints members others → lists ≡ others
  withouts_back [] [] [] formed are also e = refl
  withouts_back [] (x ∷ xs) ys formed are also e = absurd are
  withouts_back [] [] (y ∷ ys) formed are also e = absurd also
  withouts_back (member ∷ members) [] ys formed are also e = absurd are
  withouts_back (member ∷ members) (x ∷ xs) [] formed are also e = absurd also
  withouts_back (member ∷ members) (x ∷ xs) (y ∷ ys) formed are also e =
      let opened = append_cancel_left (rule_at constraints member) _ _ (append_cancel_left (codes "without ") _ _ (sym (withouts_open member members x xs) ∙ e ∙ withouts_open member members y ys)) in
      let first = runs_back schema x y _ _ formed are.0 also.0 (withouts_start is_r members xs refl) (withouts_start is_r members ys refl) (same_tail 10 10 _ _ opened) in
      ap₂ (λ (runs : List Run) (lists : List (List Run)). runs ∷ lists) first.0 (withouts_back members xs ys formed are.1 also.1 first.1)

-- ---- the first line, and those after it

abbrev first_line : List Constraint → Conflict → List ℕ
first_line constraints (Possible runs) = codes "conflict none"
first_line constraints (Core members without) = codes "conflict " ++ rules_text constraints members
first_line constraints (Undecided tested) = codes "conflict undecided"

abbrev later_lines : Schema → List Constraint → Conflict → List ℕ
later_lines schema constraints (Possible runs) = run_lines schema runs
later_lines schema constraints (Core members without) = withouts_text schema constraints members without
later_lines schema constraints (Undecided tested) = codes "tested " ++ (rules_text constraints tested ++ 10 ∷ [])

module _ (schema : Schema) (constraints : List Constraint) where
  opens : (answer : Conflict) → conflict_text schema constraints answer ≡ first_line constraints answer ++ 10 ∷ later_lines schema constraints answer
  unfolding titled_text core_text undecided_text
  opens (Possible runs) = ap (λ (lines : List ℕ). codes "conflict none" ++ 10 ∷ lines) (append-nil (run_lines schema runs))
  opens (Core members without) = ap (λ (lines : List ℕ). codes "conflict " ++ (rules_text constraints members ++ 10 ∷ lines)) (append-nil (withouts_text schema constraints members without))
  opens (Undecided tested) = refl

  module _ (formed : IsWellFormed schema) (accepted : AreConstraints schema constraints) where
    first_printed : (answer : Conflict) → IsShownConflict schema constraints answer → list_all is_printed (first_line constraints answer) ≡ true
    first_printed (Possible runs) is = refl
    first_printed (Core members without) is = rules_printed schema constraints accepted members is.0
    first_printed (Undecided tested) is = refl

    abbrev IsRead : Conflict → Conflict → Type 0
    IsRead answer other =
        IsShownConflict schema constraints answer → IsShownConflict schema constraints other → first_line constraints answer ≡ first_line constraints other →
        later_lines schema constraints answer ≡ later_lines schema constraints other → answer ≡ other

    -- the second line tells runs, or none, from members and from what is tested
    never_core : (runs : List Run) (members : List ℕ) (without : List (List Run)) → IsShownConflict schema constraints (Core members without) → codes "conflict none" ≡ codes "conflict " ++ rules_text constraints members →
        run_lines schema runs ≡ withouts_text schema constraints members without → ⊥
    never_core runs [] without is first e = unlike_at 9 _ _ first refl
    never_core runs (member ∷ members) [] is first e = absurd is.1
    never_core runs (member ∷ members) (list ∷ lists) is first e =
        unlike_starts (λ byte. byte == 119) _ _ (e ∙ withouts_open schema constraints member members list lists) (runs_start (λ byte. byte == 119) refl schema runs) refl

    never_tested : (runs : List Run) (r : List ℕ) → run_lines schema runs ≡ codes "tested " ++ r → ⊥
    never_tested runs r e = unlike_starts (λ byte. byte == 116) _ _ e (runs_start (λ byte. byte == 116) refl schema runs) refl

    never_both : (members : List ℕ) (without : List (List Run)) (r : List ℕ) → withouts_text schema constraints members without ≡ codes "tested " ++ r → ⊥
    never_both members without r e = unlike_starts (λ byte. byte == 116) _ _ e (withouts_start schema constraints (λ byte. byte == 116) members without refl) refl

    same_core : (members others : List ℕ) (without lists : List (List Run)) → members ≡ others → IsShownConflict schema constraints (Core members without) → IsShownConflict schema constraints (Core others lists) →
        withouts_text schema constraints members without ≡ withouts_text schema constraints others lists → Core members without ≡ Core others lists
    same_core members others without lists same is other e =
        let also = subst (λ (places : List ℕ). AllZip (λ (member : ℕ) (runs : List Run). AreShownRuns schema runs) places lists) (sym same) other.1 in
        let texts = subst (λ (places : List ℕ). withouts_text schema constraints members without ≡ withouts_text schema constraints places lists) (sym same) e in
        ap₂ (λ (places : List ℕ) (runs : List (List Run)). Core places runs) same (withouts_back schema constraints members without lists formed is.1 also texts)

    lines_back : (answer other : Conflict) → IsRead answer other
    lines_back (Possible runs) (Possible more) is its first later =
        ap Possible (runs_back schema runs more [] [] formed is its refl refl (append-nil (run_lines schema runs) ∙ later ∙ sym (append-nil (run_lines schema more)))).0
    lines_back (Possible runs) (Core members without) is its first later = absurd (never_core runs members without its first later)
    lines_back (Possible runs) (Undecided tested) is its first later = absurd (never_tested runs _ later)
    lines_back (Core members without) (Possible runs) is its first later = absurd (never_core runs members without is (sym first) (sym later))
    lines_back (Core members without) (Core others lists) is its first later =
        same_core members others without lists (rules_back schema constraints accepted members others is.0 its.0 (append_cancel_left (codes "conflict ") _ _ first)) is its later
    lines_back (Core members without) (Undecided tested) is its first later = absurd (never_both members without _ later)
    lines_back (Undecided tested) (Possible runs) is its first later = absurd (never_tested runs _ (sym later))
    lines_back (Undecided tested) (Core members without) is its first later = absurd (never_both members without _ (sym later))
    lines_back (Undecided tested) (Undecided more) is its first later =
        let texts = append_cancel_right (rules_text constraints tested) (rules_text constraints more) (10 ∷ []) (append_cancel_left (codes "tested ") _ _ later) in
        ap Undecided (rules_back schema constraints accepted tested more is its texts)

    shown_back : (answer other : Conflict) → IsShownConflict schema constraints answer → IsShownConflict schema constraints other → conflict_text schema constraints answer ≡ conflict_text schema constraints other → answer ≡ other
    shown_back answer other is its e =
        let both = fronts_equal is_printed (first_line constraints answer) (first_line constraints other) _ _ (first_printed answer is) (first_printed other its) refl refl (sym (opens answer) ∙ e ∙ opens other) in
        lines_back answer other is its both.0 (same_tail 10 10 _ _ both.1)

pub texts_tell : (schema : Schema) (constraints : List Constraint) (nodes budget : ℕ) (answer other : Conflict) → IsWellFormed schema → AreConstraints schema constraints → IsConflict schema constraints nodes answer → IsConflict schema constraints budget other →
    conflict_text schema constraints answer ≡ conflict_text schema constraints other → answer ≡ other
texts_tell schema constraints nodes budget answer other formed accepted is its e =
    shown_back schema constraints formed accepted answer other (shown schema constraints formed accepted nodes answer is) (shown schema constraints formed accepted budget other its) e
