-- What is listed so far, and what is made of the items that are left.
use Rattle.std.proofs.Common.{◌≡◌, ℕ, suc, ◌+◌, ◌<◌, ◌≤◌, List, [], ◌∷◌, ◌++◌, length, map, get_or, drop, pos, refl, ap, inl, inr, add-one, drop-cons, append_assoc}
use Rattle.std.proofs.lemmas.Bool.{cases_Bool}
use Rattle.std.proofs.lemmas.List.{append-nil, drop_all}
use Rattle.pc_model.specs.declared.constraint.Constraint.{Constraint}
use Rattle.pc_model.specs.declared.region.Side.{Side}
use Rattle.pc_model.specs.declared.schema.Column.{Column}
use Rattle.pc_model.specs.Places.{is_place_of}
use Rattle.pc_model.proofs.Pieces.{pieces_step, pieces_past, pieces_spent}
use Rattle.pc_desk_sql.specs.Readings.{placed}
use Rattle.pc_desk_sql.specs.Spelled.{constraint_text, known_text, line_text, side_text, test_texts}
use Rattle.pc_desk_sql.specs.Statement.{line_of}
use Rattle.pc_desk_sql.specs.Tests.{chosen_names, known, name_if, tests_of}

-- ---- names of a set

chosen-cons : (bits place : ℕ) (name : List ℕ) (rest : List (List ℕ)) → chosen_names bits place (name ∷ rest) ≡ name_if bits place name ++ chosen_names bits (place + 1) rest
unfolding chosen_names
chosen-cons bits place name rest = elim (cases_Bool (is_place_of bits (pos place))) [ inl set ↦ rw set refl | inr unset ↦ rw unset refl ]

pub names_step : (chosen : List (List ℕ)) (bits : ℕ) (names : List (List ℕ)) (i : ℕ) (name : List ℕ) → i < length names → (chosen ++ name_if bits i (get_or names i name)) ++ chosen_names bits (i + 1) (drop (i + 1) names) ≡ chosen ++ chosen_names bits i (drop i names)
names_step chosen bits names i name inside =
    rw (drop-cons names i name inside, chosen-cons bits i (get_or names i name) (drop (suc i) names), add-one) (append_assoc chosen (name_if bits i (get_or names i name)) _)

pub names_past : (chosen : List (List ℕ)) (bits : ℕ) (names : List (List ℕ)) (i : ℕ) → length names ≤ i → chosen ++ chosen_names bits i (drop i names) ≡ chosen
names_past chosen bits names i past = rw (drop_all i names past) (unfold chosen_names in append-nil chosen)

pub ruleset names_steps = (names_step, names_past)

-- ---- items with their places

module _ {X : Type 0} (text : ℕ → X → List ℕ) where
  placed-cons : (place : ℕ) (item : X) (items : List X) → placed text place (item ∷ items) ≡ text place item ∷ placed text (place + 1) items
  unfolding placed
  placed-cons place item items = refl

  placed-nil : (place : ℕ) → placed text place [] ≡ []
  unfolding placed
  placed-nil place = refl

  pub placed_step : (texts : List (List ℕ)) (items : List X) (i : ℕ) (item : X) → i < length items → (texts ++ text i (get_or items i item) ∷ []) ++ placed text (i + 1) (drop (i + 1) items) ≡ texts ++ placed text i (drop i items)
  placed_step texts items i item inside =
      rw (drop-cons items i item inside, placed-cons i (get_or items i item) (drop (suc i) items), add-one) (append_assoc texts (text i (get_or items i item) ∷ []) _)

  pub placed_past : (texts : List (List ℕ)) (items : List X) (i : ℕ) → length items ≤ i → texts ++ placed text i (drop i items) ≡ texts
  placed_past texts items i past = rw (drop_all i items past, placed-nil i) (append-nil texts)

pub ruleset placed_steps = (placed_step, placed_past)

pub lines_placed : (columns : List Column) (constraints all : List Constraint) (place : ℕ) → placed (constraint_text columns all) place constraints ≡ placed (line_text columns) place (map (line_of columns all) constraints)
unfolding placed constraint_text
lines_placed columns [] all place = refl
lines_placed columns (c ∷ constraints) all place = ap (λ rest. line_text columns place (line_of columns all c) ∷ rest) (lines_placed columns constraints all (place + 1))

-- ---- tests of a box

-- that each field is known
pub known_is : (columns : List Column) → test_texts columns (known columns) ≡ map known_text columns
unfolding test_texts
known_is [] = refl
known_is (column ∷ columns) = ap (λ rest. known_text column ∷ rest) (known_is columns)

abbrev test_piece : Column → Side → List (List ℕ)
test_piece column side = side_text column side ∷ []

abbrev tests_for : List Column → List Side → List (List ℕ)
tests_for columns sides = test_texts columns (tests_of columns sides)

next_test : (column : Column) (columns : List Column) (side : Side) (sides : List Side) → tests_for (column ∷ columns) (side ∷ sides) ≡ test_piece column side ++ tests_for columns sides
unfolding test_texts tests_of side_text
next_test column columns side sides = refl

no_columns : (sides : List Side) → tests_for [] sides ≡ []
unfolding test_texts tests_of
no_columns sides = refl

no_sides : (columns : List Column) → tests_for columns [] ≡ []
unfolding test_texts tests_of
no_sides [] = refl
no_sides (column ∷ columns) = refl

pub tests_step : (texts : List (List ℕ)) (columns : List Column) (sides : List Side) (i : ℕ) (column : Column) (side : Side) → i < length columns → i < length sides → (texts ++ side_text (get_or columns i column) (get_or sides i side) ∷ []) ++ test_texts (drop (i + 1) columns) (tests_of (drop (i + 1) columns) (drop (i + 1) sides)) ≡ texts ++ test_texts (drop i columns) (tests_of (drop i columns) (drop i sides))
tests_step = pieces_step tests_for test_piece next_test

pub tests_past : (texts : List (List ℕ)) (columns : List Column) (sides : List Side) (i : ℕ) → length columns ≤ i → texts ++ test_texts (drop i columns) (tests_of (drop i columns) (drop i sides)) ≡ texts
tests_past = pieces_past tests_for no_columns

pub tests_spent : (texts : List (List ℕ)) (columns : List Column) (sides : List Side) (i : ℕ) → length sides ≤ i → texts ++ test_texts (drop i columns) (tests_of (drop i columns) (drop i sides)) ≡ texts
tests_spent = pieces_spent tests_for no_sides

pub ruleset test_steps = (tests_step, tests_past, tests_spent)
