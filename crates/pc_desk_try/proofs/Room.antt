-- Which classes have room: each of their constraints lets a row be lost.
use Rattle.std.proofs.Common.{◌≡◌, ◌∙◌, ℕ, ◌+◌, ◌<◌, ◌≤◌, ◌||◌, Bool, true, false, cond, not, List, [], ◌∷◌, ◌++◌, All, filter, get_or, length, map, take, refl, sym, ap, arith, append-nil, true≢false}
use Rattle.std.specs.List.{AllPass, enumerate_from, list_all}
use Rattle.std.proofs.lemmas.Bool.{and_from}
use Rattle.std.proofs.lemmas.List.{map-append, take_all}
use Rattle.std.proofs.lemmas.List.Elements.{filter_more}
use Rattle.std.proofs.lemmas.List.Folds.{list_all-append, list_all_at}
use Rattle.std.proofs.lemmas.List.FromFn.{get_or-enumerate_from, length-enumerate_from}
use Rattle.std.proofs.lemmas.List.Sums.{AllPass-from_list_all, list_all-from_AllPass}
use Rattle.pc_model.specs.declared.constraint.Constraint.{Constraint}
use Rattle.pc_model.specs.declared.row.Row.{Row}
use Rattle.pc_model.specs.Cells.{mask_of}
use Rattle.pc_model.specs.Membership.{is_under}
use Rattle.pc_model.specs.Places.{has_bit}
use Rattle.pc_cells_laws.proofs.Masks.{bits_by-bit}
use Rattle.pc_cells.specs.declared.cells.Cell.{Cell}
use Rattle.pc_desk_table.proofs.Enumerated.{enumerate_more}
use Rattle.pc_desk_try.specs.declared.opening.Opening.{Opening}
use Rattle.pc_desk_try.specs.Openings.{has_room, is_open, is_open_cell, lets_lose, opening_of, openings_in}

-- ---- as far as a loop has come

module _ (mask : ℕ) (constraints : List Constraint) where
  abbrev entries : List (ℕ × Constraint)
  entries = enumerate_from 0 constraints

  entry_at : (place : ℕ) (c : Constraint) → place < length constraints → get_or entries place (place, c) ≡ (place, get_or constraints place c)
  entry_at place c here =
      let same : 0 + place ≡ place = omega arith in
      get_or-enumerate_from 0 constraints place (place, c) here ∙ ap (λ (n : ℕ). (n, get_or constraints place c)) same

  inside : (place : ℕ) → place < length constraints → place < length entries
  inside place here = let long = length-enumerate_from 0 constraints in omega (arith, long, here)

  pub open_more : (place : ℕ) (c : Constraint) → place < length constraints → is_open (take place constraints) mask ≡ true → lets_lose mask (place, get_or constraints place c) ≡ true
      → is_open (take (place + 1) constraints) mask ≡ true
  open_more place c here before one =
      ap (list_all (lets_lose mask)) (enumerate_more constraints place c here)
      ∙ list_all-append (lets_lose mask) (enumerate_from 0 (take place constraints)) ((place, get_or constraints place c) ∷ [])
      ∙ and_from _ _ before (and_from _ _ one refl)

  pub shut_at : (place : ℕ) (c : Constraint) → place < length constraints → lets_lose mask (place, get_or constraints place c) ≡ false → is_open constraints mask ≡ false
  shut_at place c here lets = list_all_at (lets_lose mask) entries place (place, c) (inside place here) (ap (lets_lose mask) (entry_at place c here) ∙ lets)

  pub open_all : (place : ℕ) → length constraints ≤ place → is_open (take place constraints) mask ≡ true → is_open constraints mask ≡ true
  open_all place past lets = ap (λ (cs : List Constraint). is_open cs mask) (sym (take_all place constraints past)) ∙ lets

map_one : (test : Bool) (cell : Cell) → map opening_of (cond test (cell ∷ []) []) ≡ cond test (opening_of cell ∷ []) []
map_one true cell = refl
map_one false cell = refl

module _ (constraints : List Constraint) (cells : List Cell) (place : ℕ) (d : Cell) (here : place < length cells) where
  abbrev before : List Opening
  before = openings_in constraints (take place cells)

  opened_more : openings_in constraints (take (place + 1) cells) ≡ before ++ cond (is_open_cell constraints (get_or cells place d)) (opening_of (get_or cells place d) ∷ []) []
  opened_more =
      ap (map opening_of) (filter_more (is_open_cell constraints) cells place d here)
      ∙ map-append opening_of (filter (is_open_cell constraints) (take place cells)) (cond (is_open_cell constraints (get_or cells place d)) (get_or cells place d ∷ []) [])
      ∙ ap (λ (more : List Opening). before ++ more) (map_one (is_open_cell constraints (get_or cells place d)) (get_or cells place d))

  pub opened_in : is_open_cell constraints (get_or cells place d) ≡ true → openings_in constraints (take (place + 1) cells) ≡ before ++ opening_of (get_or cells place d) ∷ []
  opened_in is = opened_more ∙ ap (λ (test : Bool). before ++ cond test (opening_of (get_or cells place d) ∷ []) []) is

  pub opened_out : is_open_cell constraints (get_or cells place d) ≡ false → openings_in constraints (take (place + 1) cells) ≡ before
  opened_out is = opened_more ∙ ap (λ (test : Bool). before ++ cond test (opening_of (get_or cells place d) ∷ []) []) is ∙ append-nil before

-- ---- of a row's class

from_either : (under room : Bool) → (not under || room) ≡ true → under ≡ true → room ≡ true
from_either true room either there = either
from_either false room either there = absurd (true≢false (sym there))

either_from : (under room : Bool) → (under ≡ true → room ≡ true) → (not under || room) ≡ true
either_from true room holds = holds refl
either_from false room holds = refl

module _ (constraints : List Constraint) (row : Row) where
  abbrev HasRoom : Constraint → Type 0
  HasRoom c = is_under constraints c row ≡ true → has_room c ≡ true

  abbrev mask : ℕ
  mask = mask_of constraints row

  bit_of : (place : ℕ) (c : Constraint) → place < length constraints → has_bit mask place ≡ is_under constraints (get_or constraints place c) row
  bit_of place c here = bits_by-bit (λ (other : Constraint). is_under constraints other row) constraints place c here

  pub open_of_room : All HasRoom constraints → is_open constraints mask ≡ true
  open_of_room all = list_all-from_AllPass (lets_lose mask) (entries mask constraints) passes
    where
      passes : AllPass (lets_lose mask) (enumerate_from 0 constraints)
      passes = λ place entry there.
          let long = length-enumerate_from 0 constraints in
          let here : place < length constraints = omega (arith, long, there) in
          let c = get_or constraints place entry.1 in
          let same : 0 + place ≡ place = omega arith in
          let is = get_or-enumerate_from 0 constraints place entry here ∙ ap (λ (n : ℕ). (n, c)) same in
          ap (lets_lose mask) is ∙ ap (λ (under : Bool). not under || has_room c) (bit_of place entry.1 here) ∙ either_from (is_under constraints c row) (has_room c) (all place entry.1 here)

  pub room_of_open : is_open constraints mask ≡ true → All HasRoom constraints
  room_of_open lets = λ place d here.
      let c = get_or constraints place d in
      let passes = AllPass-from_list_all (lets_lose mask) (entries mask constraints) lets in
      from_either (is_under constraints c row) (has_room c)
      (ap (λ (under : Bool). not under || has_room c) (sym (bit_of place d here)) ∙ ap (lets_lose mask) (sym (entry_at mask constraints place d here)) ∙ passes place (place, d) (inside mask constraints place here))
