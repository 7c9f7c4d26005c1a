-- The runs of rows and counts: what each place adds, and that each says at least once.
use Rattle.std.proofs.Common.{◌≡◌, ℕ, zero, suc, ◌+◌, ◌<◌, ◌≤◌, List, [], ◌∷◌, ◌++◌, length, get_or, drop, refl, sym, ap, ◌∙◌, add-one, drop-cons, arith}
use Rattle.std.proofs.lemmas.List.{drop_all, append_assoc, append-nil}
use Rattle.std.specs.List.{All}
use Rattle.std.proofs.lemmas.List.Elements.{All-nil, All-cons, All-head, All-tail}
use Rattle.pc_model.specs.declared.row.Row.{Row}
use Rattle.pc_model.specs.declared.row.Run.{Run}
use Rattle.pc_model.specs.Runs.{runs_from, AreRuns}

-- ---- as far as a loop has come

-- a place whose count is 0 adds nothing
pub runs_from-none : (rows : List Row) (counts : List ℕ) (i : ℕ) (r : Row) (d : ℕ) → i < length rows → i < length counts → get_or counts i d ≡ 0 →
    runs_from (drop i rows) (drop i counts) ≡ runs_from (drop (i + 1) rows) (drop (i + 1) counts)
runs_from-none rows counts i r d in_rows in_counts none = rw (add-one, drop-cons rows i r, drop-cons counts i d, none) refl

-- another count adds a run to those made
pub runs_from-some : (made : List Run) (rows : List Row) (counts : List ℕ) (i : ℕ) (r : Row) (d n : ℕ) → i < length rows → i < length counts → n ≡ get_or counts i d → 0 < n →
    (made ++ record { times = n; row = get_or rows i r } ∷ []) ++ runs_from (drop (i + 1) rows) (drop (i + 1) counts) ≡ made ++ runs_from (drop i rows) (drop i counts)
runs_from-some made rows counts i r d zero in_rows in_counts same some = absurd (omega arith)
runs_from-some made rows counts i r d (suc n) in_rows in_counts same some =
    append_assoc made (record { times = suc n; row = get_or rows i r } ∷ []) (runs_from (drop (i + 1) rows) (drop (i + 1) counts))
    ∙ ap (λ later. made ++ later) (rw (add-one, drop-cons rows i r, drop-cons counts i d, sym same) refl)

-- nothing is left
pub runs_from_end : (made : List Run) (rows : List Row) (counts : List ℕ) (i : ℕ) → length rows ≤ i → made ++ runs_from (drop i rows) (drop i counts) ≡ made
runs_from_end made rows counts i past = rw (drop_all i rows past) (append-nil made)

pub ruleset steps = (runs_from-none, runs_from-some, runs_from_end)

-- ---- all of the runs

pub runs_from-stand : (rows : List Row) (counts : List ℕ) → AreRuns (runs_from rows counts)
runs_from-stand [] counts = All-nil (λ (run : Run). 1 ≤ run.times)
runs_from-stand (row ∷ rows) [] = All-nil (λ (run : Run). 1 ≤ run.times)
runs_from-stand (row ∷ rows) (zero ∷ counts) = runs_from-stand rows counts
runs_from-stand (row ∷ rows) (suc n ∷ counts) = All-cons (λ (run : Run). 1 ≤ run.times) (record { times = suc n; row = row }) (runs_from rows counts) (omega arith) (runs_from-stand rows counts)

-- what holds of each row holds of the row of each run
pub All-runs_from : (P : Row → Type 0) (rows : List Row) (counts : List ℕ) → All P rows → All (λ (run : Run). P run.row) (runs_from rows counts)
All-runs_from P [] counts each = All-nil (λ (run : Run). P run.row)
All-runs_from P (row ∷ rows) [] each = All-nil (λ (run : Run). P run.row)
All-runs_from P (row ∷ rows) (zero ∷ counts) each = All-runs_from P rows counts (All-tail P row rows each)
All-runs_from P (row ∷ rows) (suc n ∷ counts) each =
    All-cons (λ (run : Run). P run.row) (record { times = suc n; row = row }) (runs_from rows counts) (All-head P row rows each) (All-runs_from P rows counts (All-tail P row rows each))
