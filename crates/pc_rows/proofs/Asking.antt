-- The numbers of the rows up to a place, from those of the rows before it.
use Rattle.std.proofs.Common.{Bool, cond, not, ◌≡◌, ◌∙◌, ◌+◌, ◌<◌, ◌≤◌, ℕ, true, false, ℤ, List, [], ◌∷◌, ◌++◌, length, map, take, None, refl, ap, arith}
use Rattle.std.proofs.lemmas.List.Filters.{length-filter_both}
use Rattle.std.proofs.lemmas.List.{length-map, map-append, take_more, take_all}
use Rattle.pc_model.specs.declared.row.Row.{Row}
use Rattle.pc_model.specs.declared.query.Query.{Query}
use Rattle.pc_model.specs.Aggregate.{asked, kept}
use Rattle.pc_model.specs.Membership.{is_in, row_from as row}
use Rattle.pc_rows.specs.Groups.{keeps}
use Rattle.pc_rows.specs.Stored.{row_at}
use Rattle.pc_rows.proofs.Folding.{keeps_all, kept_yes, kept_no}

-- the numbers of the rows before the place
abbrev pub numbers_to : Query → List Row → ℕ → List ℤ
numbers_to query rows place = map (asked query) (kept query None (take place rows))

pub numbers_more : (query : Query) (rows : List Row) (place : ℕ) → place < length rows →
    numbers_to query rows (place + 1) ≡ cond (is_in query.chosen (row_at rows place)) (numbers_to query rows place ++ asked query (row_at rows place) ∷ []) (numbers_to query rows place)
numbers_more query rows place below = by_test (is_in query.chosen (row_at rows place)) refl
  where
    longer : kept query None (take (place + 1) rows) ≡ kept query None (take place rows ++ row_at rows place ∷ [])
    longer = ap (kept query None) (take_more rows place (row []) below)

    by_test : (test : Bool) → is_in query.chosen (row_at rows place) ≡ test →
        numbers_to query rows (place + 1) ≡ cond test (numbers_to query rows place ++ asked query (row_at rows place) ∷ []) (numbers_to query rows place)
    by_test true keeping =
        ap (map (asked query)) (longer ∙ kept_yes query None (take place rows) (row_at rows place) (keeps_all query (row_at rows place) true keeping))
        ∙ map-append (asked query) (kept query None (take place rows)) (row_at rows place ∷ [])
    by_test false other =
        ap (map (asked query)) (longer ∙ kept_no query None (take place rows) (row_at rows place) (keeps_all query (row_at rows place) false other))

pub numbers_all : (query : Query) (rows : List Row) (place : ℕ) → length rows ≤ place → numbers_to query rows place ≡ map (asked query) (kept query None rows)
numbers_all query rows place past = ap (λ all. map (asked query) (kept query None all)) (take_all place rows past)

pub few_numbers : (query : Query) (rows : List Row) → length (map (asked query) (kept query None rows)) ≤ length rows
few_numbers query rows = omega (arith, length-map (kept query None rows) (asked query), length-filter_both (keeps query None) (λ row. not (keeps query None row)) (λ row. refl) rows)
