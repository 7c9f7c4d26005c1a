-- The lines that close boxes: how many they are, what rows they speak of, and that they are constraints.
use Rattle.std.proofs.Common.{◌≡◌, ◌≢◌, ◌∙◌, ℕ, suc, ◌+◌, ◌-◌, ◌*◌, ◌<◌, ◌≤◌, ◌||◌, Bool, true, List, [], ◌∷◌, All, AllPairs, drop, length, take, refl, sym, ap, arith, length-drop}
use Rattle.std.proofs.lemmas.Grind.{div_ceil_times}
use Rattle.std.proofs.lemmas.List.{length-take, take-append-drop}
use Rattle.std.proofs.lemmas.List.Elements.{All-nil, All-cons, All-head, All-tail, All-drop, All-take}
use Rattle.std.proofs.lemmas.List.Folds.{list_any-append}
use Rattle.std.proofs.lemmas.List.Kept.{AllPairs-cons}
use Rattle.pc_model.specs.declared.constraint.Constraint.{Constraint}
use Rattle.pc_model.specs.declared.region.Region.{Region}
use Rattle.pc_model.specs.declared.row.Row.{Row}
use Rattle.pc_model.specs.declared.schema.Schema.{Schema}
use Rattle.pc_model.specs.Boxes.{box_limit}
use Rattle.pc_model.specs.Membership.{has, is_named_by_some}
use Rattle.pc_model.specs.Regions.{is_region_of}
use Rattle.pc_model.proofs.Lists.{AllPairs-head, AllPairs-tail}
use Rattle.pc_desk_limit.specs.Closing.{AreRegions}
use Rattle.pc_desk_limit.specs.Lines.{closing_line, closing_lines, lines_for}
use Rattle.pc_desk_limit.proofs.Left.{in_some}

module _ (schema : Schema) where
  none_left : (names : List (List ℕ)) → closing_lines schema names [] ≡ []
  none_left [] = refl
  none_left (name ∷ names) = refl

  -- ---- how many

  -- by less than one line more than are needed
  lines_needed : (names : List (List ℕ)) (boxes : List Region) → length (closing_lines schema names boxes) * box_limit < length boxes + box_limit
  lines_needed [] boxes = omega arith
  lines_needed (name ∷ names) [] = omega arith
  lines_needed (name ∷ names) (box ∷ boxes) =
      by_rest (drop box_limit (box ∷ boxes)) (length-drop box_limit (box ∷ boxes)) (lines_needed names (drop box_limit (box ∷ boxes)))
    where
      by_rest : (rest : List Region) → length rest ≡ suc (length boxes) - box_limit →
          length (closing_lines schema names rest) * box_limit < length rest + box_limit →
          suc (length (closing_lines schema names rest)) * box_limit < suc (length boxes) + box_limit
      by_rest [] left h = let none = ap length (none_left names) in omega (arith, none)
      by_rest (other ∷ others) left h = let some : length (other ∷ others) ≡ suc (length others) = refl in omega (arith, some, left, h)

  pub lines_few : (names : List (List ℕ)) (boxes : List Region) → length (closing_lines schema names boxes) ≤ lines_for boxes
  lines_few names boxes =
      let most = lines_needed names boxes in
      let rounded : length boxes ≤ lines_for boxes * box_limit = (div_ceil_times (length boxes) box_limit (omega arith)).0 in
      fewer (length (closing_lines schema names boxes)) (lines_for boxes) (length boxes) most rounded
    where
      fewer : (lines limit count : ℕ) → lines * box_limit < count + box_limit → count ≤ limit * box_limit → lines ≤ limit
      fewer lines limit count most rounded = omega arith

  -- ---- of which rows they speak

  pub lines_in : (names : List (List ℕ)) (boxes : List Region) (row : Row) → length boxes ≤ length names * box_limit →
      is_named_by_some (closing_lines schema names boxes) row ≡ in_some boxes row
  lines_in [] [] row enough = refl
  lines_in [] (box ∷ boxes) row enough = let none : length (box ∷ boxes) ≤ 0 = enough in absurd (omega (arith, none))
  lines_in (name ∷ names) [] row enough = refl
  lines_in (name ∷ names) (box ∷ boxes) row enough =
      let all = box ∷ boxes in
      let some : suc (length boxes) ≤ suc (length names) * box_limit = enough in
      let left : length (drop box_limit all) ≡ suc (length boxes) - box_limit = length-drop box_limit all in
      ap (λ (later : Bool). in_some (take box_limit all) row || later) (lines_in names (drop box_limit all) row (omega (arith, some, left)))
      ∙ sym (list_any-append (λ (b : Region). has b row) (take box_limit all) (drop box_limit all))
      ∙ ap (λ (bs : List Region). in_some bs row) (take-append-drop box_limit all)

  -- ---- each of them

  -- what holds of each line of such names, whichever boxes of the schema it has
  module _ (Q : List ℕ → Type 0) (P : Constraint → Type 0)
      (each : (name : List ℕ) (boxes : List Region) → Q name → 1 ≤ length boxes → length boxes ≤ box_limit → AreRegions schema boxes →
      P (closing_line schema name boxes)) where
    pub lines_each : (names : List (List ℕ)) (boxes : List Region) → All Q names → AreRegions schema boxes → All P (closing_lines schema names boxes)
    lines_each [] boxes named are = All-nil P
    lines_each (name ∷ names) [] named are = All-nil P
    lines_each (name ∷ names) (box ∷ boxes) named are =
        let all = box ∷ boxes in
        let is_region = λ (b : Region). is_region_of schema b ≡ true in
        let long = length-take box_limit all in
        All-cons P (closing_line schema name (take box_limit all)) (closing_lines schema names (drop box_limit all))
        (each name (take box_limit all) (All-head Q name names named) (omega (arith, long)) (omega (arith, long)) (All-take is_region box_limit all are))
        (lines_each names (drop box_limit all) (All-tail Q name names named) (All-drop is_region box_limit all are))

  -- no two lines have one name
  pub lines_apart : (names : List (List ℕ)) (boxes : List Region) → AllPairs (λ a b. a ≢ b) names → AreRegions schema boxes →
      AllPairs (λ (a b : Constraint). a.name ≢ b.name) (closing_lines schema names boxes)
  lines_apart [] boxes different are = λ i j d before inside. absurd (omega arith)
  lines_apart (name ∷ names) [] different are = λ i j d before inside. absurd (omega arith)
  lines_apart (name ∷ names) (box ∷ boxes) different are =
      let all = box ∷ boxes in
      let left = All-drop (λ (b : Region). is_region_of schema b ≡ true) box_limit all are in
      AllPairs-cons (λ (a b : Constraint). a.name ≢ b.name) (closing_line schema name (take box_limit all)) (closing_lines schema names (drop box_limit all))
      (lines_each (λ other. name ≢ other) (λ (c : Constraint). name ≢ c.name) (λ other bs unlike some few own. unlike)
      names (drop box_limit all) (AllPairs-head (λ a b. a ≢ b) name names different) left)
      (lines_apart names (drop box_limit all) (AllPairs-tail (λ a b. a ≢ b) name names different) left)
