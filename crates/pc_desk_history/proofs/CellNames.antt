-- The names of cells are names, and no two are the same.
use Rattle.std.proofs.Common.{◌≡◌, ◌≢◌, ◌∙◌, ℕ, ◌+◌, ◌<◌, ◌≤◌, ◌^◌, ◌%◌, ◌&&◌, true, List, [], ◌∷◌, ◌++◌, length, drop, decimal, refl, sym, ap, arith, subst, append-nil}
use Rattle.std.specs.List.{list_all}
use Rattle.std.proofs.lemmas.Bool.{and_from}
use Rattle.std.proofs.lemmas.Bool.Decides.{nat_tests}
use Rattle.std.proofs.lemmas.Fmt.{decimal_by_steps, decimal_injective, length-decimal-le}
use Rattle.std.proofs.lemmas.List.Folds.{list_all-append}
use Rattle.pc_model.specs.Texts.{IsName}
use Rattle.pc_model.proofs.PlainNames.{is_plain, plain_name}
use Rattle.pc_desk_history.specs.Draft.{cell_name}

plain_digit : (digit : ℕ) → digit < 10 → is_plain (48 + digit) ≡ true
plain_digit digit small = grind (arith, nat_tests)

plain_digits : (number : ℕ) → number < 2 ^ 64 → list_all is_plain (decimal number) ≡ true
plain_digits number small =
    decimal_by_steps (λ n digits. list_all is_plain digits ≡ true)
    (λ n below. and_from (is_plain (48 + n)) true (plain_digit n below) refl)
    (λ n digits more before. list_all-append is_plain digits ((48 + n % 10) ∷ []) ∙ and_from (list_all is_plain digits) (is_plain (48 + n % 10) && true) before
    (and_from (is_plain (48 + n % 10)) true (plain_digit (n % 10) (omega arith)) refl))
    number small

pub cell_is_named : (number : ℕ) → number < 100 → IsName (cell_name number)
cell_is_named number small =
    let digits = ap (list_all is_plain) (append-nil (decimal number)) ∙ plain_digits number (omega arith) in
    let few : length (decimal number) ≤ 2 = length-decimal-le 2 number (omega arith) small (omega arith) in
    let long : length (decimal number ++ []) ≤ 2 = subst (λ (text : List ℕ). length text ≤ 2) (sym (append-nil (decimal number))) few in
    plain_name (cell_name number) digits (omega arith) (omega (arith, long))

pub cells_are_named_apart : (a b : ℕ) → a < b → b < 100 → cell_name a ≢ cell_name b
cells_are_named_apart a b less small same =
    let ends = sym (append-nil (decimal a)) ∙ ap (drop 4) same ∙ append-nil (decimal b) in
    let equal : a ≡ b = decimal_injective a b (omega arith) (omega arith) ends in
    omega (arith, equal)
