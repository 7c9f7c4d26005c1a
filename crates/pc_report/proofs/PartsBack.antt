-- Relations, lacks and marks are read back from their lines.
use Rattle.std.proofs.Common.{◌≡◌, ℕ, ◌==◌, Bool, false, List, ◌∷◌, ◌++◌, codes, refl, sym, ap, ap₂, ◌∙◌, append_assoc}
use Rattle.std.proofs.lemmas.List.{append-nil, append_cancel_left}
use Rattle.pc_model.specs.declared.schema.Schema.{Schema}
use Rattle.pc_model.specs.declared.row.Run.{Run}
use Rattle.pc_model.specs.Right.{Lack, Mark, Relation, always, exact, impossible, never, outer, possible, silent, sometimes, undecided, unsettled}
use Rattle.pc_model.specs.WellFormed.{IsWellFormed}
use Rattle.pc_report.specs.Report.{lack_text, line_break, mark_text, relation_text, titled_text, with_text, without_text}
use Rattle.pc_report.specs.RunLines.{run_lines}
use Rattle.pc_report.specs.Shown.{AreShownRuns, IsShownLack, IsShownMark, IsShownRelation}
use Rattle.pc_report.proofs.RunsBack.{is_r, runs_back}
use Rattle.pc_report.proofs.Stops.{same_tail, starts, unlike_at, unlike_starts}

-- ---- titled runs

titled_opens : (schema : Schema) (title : List ℕ) (runs : List Run) (r : List ℕ) → titled_text schema title runs ++ r ≡ title ++ 10 ∷ (run_lines schema runs ++ r)
unfolding titled_text
titled_opens schema title runs r = rw (append-nil (run_lines schema runs)) (append_assoc title (10 ∷ run_lines schema runs) r)

titled_back : (schema : Schema) (title : List ℕ) (xs ys : List Run) (r s : List ℕ) → IsWellFormed schema → AreShownRuns schema xs → AreShownRuns schema ys → starts is_r r ≡ false → starts is_r s ≡ false → titled_text schema title xs ++ r ≡ titled_text schema title ys ++ s → (xs ≡ ys) × (r ≡ s)
titled_back schema title xs ys r s formed are others stop end e =
    let opened = append_cancel_left title _ _ (sym (titled_opens schema title xs r) ∙ e ∙ titled_opens schema title ys s) in
    runs_back schema xs ys r s formed are others stop end (same_tail 10 10 _ _ opened)

-- ---- relations

pub relation_back : (schema : Schema) (a b : Relation) (r s : List ℕ) → IsWellFormed schema → IsShownRelation schema a → IsShownRelation schema b → starts is_r r ≡ false → starts is_r s ≡ false → relation_text schema a ++ r ≡ relation_text schema b ++ s → (a ≡ b) × (r ≡ s)
unfolding titled_text
relation_back schema (possible xs) (possible ys) r s formed are others stop end e =
    let both = titled_back schema (codes "relation possible") xs ys r s formed are others stop end e in (ap possible both.0, both.1)
relation_back schema impossible impossible r s formed are others stop end e =
    (refl, append_cancel_left (codes "relation impossible" ++ line_break) r s e)
relation_back schema undecided undecided r s formed are others stop end e =
    (refl, append_cancel_left (codes "relation undecided" ++ line_break) r s e)
relation_back schema a b r s formed are others stop end e = absurd (unlike_at 9 _ _ e refl)

-- ---- lacks

-- the byte that a line of a lack begins with
abbrev pub is_n : ℕ → Bool
is_n byte = byte == 110

sometimes_opens : (schema : Schema) (without with' : List Run) (r : List ℕ) → lack_text schema (sometimes without with') ++ r ≡ titled_text schema (codes "none sometimes") without ++ (titled_text schema (codes "some") with' ++ r)
unfolding without_text with_text
sometimes_opens schema without with' r = append_assoc (titled_text schema (codes "none sometimes") without) (titled_text schema (codes "some") with') r

some_stops : (schema : Schema) (with' : List Run) (r : List ℕ) → starts is_r (titled_text schema (codes "some") with' ++ r) ≡ false
unfolding titled_text
some_stops schema with' r = refl

sometimes_back : (schema : Schema) (without other with' more : List Run) (r s : List ℕ) → IsWellFormed schema → AreShownRuns schema without × AreShownRuns schema with' → AreShownRuns schema other × AreShownRuns schema more → starts is_r r ≡ false → starts is_r s ≡ false → lack_text schema (sometimes without with') ++ r ≡ lack_text schema (sometimes other more) ++ s → (sometimes without with' ≡ sometimes other more) × (r ≡ s)
sometimes_back schema without other with' more r s formed are others stop end e =
    let first = titled_back schema (codes "none sometimes") without other _ _ formed are.0 others.0 (some_stops schema with' r) (some_stops schema more s) (sym (sometimes_opens schema without with' r) ∙ e ∙ sometimes_opens schema other more s) in
    let second = titled_back schema (codes "some") with' more r s formed are.1 others.1 stop end first.1 in
    (ap₂ sometimes first.0 second.0, second.1)

pub lack_back : (schema : Schema) (a b : Lack) (r s : List ℕ) → IsWellFormed schema → IsShownLack schema a → IsShownLack schema b → starts is_r r ≡ false → starts is_r s ≡ false → starts is_n r ≡ false → starts is_n s ≡ false → lack_text schema a ++ r ≡ lack_text schema b ++ s → (a ≡ b) × (r ≡ s)
unfolding titled_text without_text with_text
lack_back schema silent silent r s formed are others stop end none nor e = (refl, e)
lack_back schema never never r s formed are others stop end none nor e =
    (refl, append_cancel_left (codes "none never" ++ line_break) r s e)
lack_back schema (sometimes without with') (sometimes other more) r s formed are others stop end none nor e =
    sometimes_back schema without other with' more r s formed are others stop end e
lack_back schema always always r s formed are others stop end none nor e =
    (refl, append_cancel_left (codes "none always" ++ line_break) r s e)
lack_back schema unsettled unsettled r s formed are others stop end none nor e =
    (refl, append_cancel_left (codes "none undecided" ++ line_break) r s e)
lack_back schema silent b r s formed are others stop end none nor e = absurd (unlike_starts is_n _ _ e none refl)
lack_back schema a silent r s formed are others stop end none nor e = absurd (unlike_starts is_n _ _ (sym e) nor refl)
lack_back schema a b r s formed are others stop end none nor e = absurd (unlike_at 5 _ _ e refl)

-- ---- marks

pub mark_back : (schema : Schema) (a b : Mark) (r s : List ℕ) → IsWellFormed schema → IsShownMark schema a → IsShownMark schema b → starts is_r r ≡ false → starts is_r s ≡ false → mark_text schema a ++ r ≡ mark_text schema b ++ s → (a ≡ b) × (r ≡ s)
unfolding titled_text
mark_back schema (exact xs) (exact ys) r s formed are others stop end e =
    let both = titled_back schema (codes " exact") xs ys r s formed are others stop end e in (ap exact both.0, both.1)
mark_back schema outer outer r s formed are others stop end e = (refl, append_cancel_left (codes " outer" ++ line_break) r s e)
mark_back schema (exact xs) outer r s formed are others stop end e = absurd (unlike_at 1 _ _ e refl)
mark_back schema outer (exact ys) r s formed are others stop end e = absurd (unlike_at 1 _ _ e refl)
