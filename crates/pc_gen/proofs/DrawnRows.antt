-- Rows that are drawn one after the other: how many and how wide they are, and that the schema allows them.
use Rattle.std.proofs.Common.{◌≡◌, ◌∙◌, ℕ, zero, suc, ◌+◌, ◌*◌, ◌<◌, ◌&&◌, nat_lt, true, ℤ, pos, List, [], ◌∷◌, ◌++◌, length, All, refl, ap, sym, subst, arith}
use Rattle.std.specs.List.{AllPass}
use Rattle.std.proofs.Math.Path.{ap₂}
use Rattle.std.proofs.lemmas.Bool.{and_from, lt-ltb}
use Rattle.std.proofs.lemmas.Int.{ints}
use Rattle.std.proofs.lemmas.List.Elements.{All-nil, All-cons}
use Rattle.pc_model.specs.declared.row.Row.{Row}
use Rattle.pc_model.specs.Membership.{allows, in_domain, is_between, row_from as row}
use Rattle.pc_model.proofs.Between.{between_from}
use Rattle.pc_gen.specs.Draws.{after, draw}
use Rattle.pc_gen.specs.Generated.{after_rows, drawn_row, drawn_rows, generated_schema}
use Rattle.pc_gen.proofs.Stepping.{after_after, after_none, draw_below}

pub row_is : (state second third : ℕ) (branch day price : ℕ) (x y z : ℤ) → branch ≡ draw 4 state → second ≡ after 1 state → day ≡ draw 31 second → third ≡ after 1 second → price ≡ draw 100001 third → x ≡ pos branch → y ≡ pos (1 + day) → z ≡ pos price → row (x ∷ y ∷ z ∷ []) ≡ drawn_row state
row_is state second third branch day price x y z branch_is second_is day_is third_is price_is x_is y_is z_is =
    let last : third ≡ after 2 state = third_is ∙ ap (after 1) second_is ∙ after_after 1 1 state in
    let day_of : day ≡ draw 31 (after 1 state) = day_is ∙ ap (draw 31) second_is in
    let price_of : price ≡ draw 100001 (after 2 state) = price_is ∙ ap (draw 100001) last in
    ap (λ a. row (a ∷ y ∷ z ∷ [])) (x_is ∙ ap pos branch_is)
    ∙ ap (λ a. row (pos (draw 4 state) ∷ a ∷ z ∷ [])) (y_is ∙ ap (λ n. pos (1 + n)) day_of)
    ∙ ap (λ a. row (pos (draw 4 state) ∷ pos (1 + draw 31 (after 1 state)) ∷ a ∷ [])) (z_is ∙ ap pos price_of)

pub after_more : (count state : ℕ) → after 3 (after_rows count state) ≡ after_rows (count + 1) state
after_more count state =
    let same : 3 + 3 * count ≡ 3 * (count + 1) = omega arith in
    after_after 3 (3 * count) state ∙ ap (λ n. after n state) same

pub rows_more : (count state : ℕ) → drawn_rows (count + 1) state ≡ drawn_rows count state ++ drawn_row (after_rows count state) ∷ []
unfolding drawn_rows
rows_more zero state = ap (λ s. drawn_row s ∷ []) (sym (after_none state))
rows_more (suc count) state =
    let same : 3 * count + 3 ≡ 3 * suc count = omega arith in
    let last : after_rows count (after 3 state) ≡ after_rows (suc count) state = after_after (3 * count) 3 state ∙ ap (λ n. after n state) same in
    let one_more : suc count + 1 ≡ suc (count + 1) = omega arith in
    ap (λ n. drawn_rows n state) one_more
    ∙ ap (λ rows. drawn_row state ∷ rows) (rows_more count (after 3 state) ∙ ap (λ s. drawn_rows count (after 3 state) ++ drawn_row s ∷ []) last)

pub no_rows : (state : ℕ) → drawn_rows 0 state ≡ []
unfolding drawn_rows
no_rows state = refl

pub length_rows : (count state : ℕ) → length (drawn_rows count state) ≡ count
unfolding drawn_rows
length_rows zero state = refl
length_rows (suc count) state = ap suc (length_rows count (after 3 state))

abbrev pub IsWide : Row → Type 0
IsWide found = length found.cells ≡ 3

pub rows_wide : (count state : ℕ) → All (λ (found : Row). length found.cells ≡ 3) (drawn_rows count state)
unfolding drawn_rows
rows_wide zero state = All-nil IsWide
rows_wide (suc count) state = All-cons IsWide (drawn_row state) (drawn_rows count (after 3 state)) refl (rows_wide count (after 3 state))

-- ---- as far as a loop has come

pub rows_alike : (rows : List Row) (count state here : ℕ) (cells : List ℤ) → rows ≡ drawn_rows count state → row cells ≡ drawn_row here → All (λ (other : Row). length other.cells ≡ length cells) rows
rows_alike rows count state here cells rows_are cells_are =
    let three : 3 ≡ length cells = sym (ap (λ (found : Row). length found.cells) cells_are) in
    subst (λ found. All (λ (other : Row). length other.cells ≡ length cells) found) (sym rows_are) (λ k d inside. rows_wide count state k d inside ∙ three)

pub rows_step : (rows : List Row) (count state here : ℕ) (cells : List ℤ) → rows ≡ drawn_rows count state → here ≡ after_rows count state → row cells ≡ drawn_row here → rows ++ row cells ∷ [] ≡ drawn_rows (count + 1) state
rows_step rows count state here cells rows_are here_is cells_are =
    ap₂ (λ (before : List Row) (last : Row). before ++ last ∷ []) rows_are (cells_are ∙ ap drawn_row here_is) ∙ sym (rows_more count state)

-- ---- the domain

numbers_allowed : (branch day price : ℕ) → branch < 4 → day < 31 → price < 100001 → in_domain generated_schema (row (pos branch ∷ pos (1 + day) ∷ pos price ∷ [])) ≡ true
unfolding in_domain allows
numbers_allowed branch day price few short cheap =
    and_from (nat_lt branch 4) (is_between (pos 1) (pos 31) (pos (1 + day)) && (is_between (pos 0) (pos 100000) (pos price) && true)) (lt-ltb branch 4 few)
    (and_from (is_between (pos 1) (pos 31) (pos (1 + day))) (is_between (pos 0) (pos 100000) (pos price) && true)
    (between_from (pos 1) (pos 31) (pos (1 + day)) (omega (arith, ints)) (omega (arith, ints)))
    (and_from (is_between (pos 0) (pos 100000) (pos price)) true
    (between_from (pos 0) (pos 100000) (pos price) (omega (arith, ints)) (omega (arith, ints))) refl))

row_allowed : (state : ℕ) → in_domain generated_schema (drawn_row state) ≡ true
row_allowed state =
    numbers_allowed (draw 4 state) (draw 31 (after 1 state)) (draw 100001 (after 2 state))
    (draw_below 4 state (omega arith)) (draw_below 31 (after 1 state) (omega arith)) (draw_below 100001 (after 2 state) (omega arith))

pub rows_allowed : (count state : ℕ) → AllPass (in_domain generated_schema) (drawn_rows count state)
unfolding drawn_rows
rows_allowed zero state = All-nil (λ (found : Row). in_domain generated_schema found ≡ true)
rows_allowed (suc count) state = All-cons (λ (found : Row). in_domain generated_schema found ≡ true) (drawn_row state) (drawn_rows count (after 3 state)) (row_allowed state) (rows_allowed count (after 3 state))
