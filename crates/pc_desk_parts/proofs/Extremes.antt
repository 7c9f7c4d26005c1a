-- Of the least and the greatest there is a part, and each has the end for its number.
use Rattle.std.proofs.Common.{◌≡◌, ◌∙◌, ◌⊎◌, ℕ, ◌+◌, ◌≤◌, ◌&&◌, ℤ, Bool, true, false, cond, List, [], ◌∷◌, ◌++◌, All, filter, fold, length, get_or, Option, Some, None, refl, sym, ap, subst, arith}
use Rattle.std.proofs.Common.{inl, inr}
use Rattle.std.specs.Bool.{⊤}
use Rattle.std.specs.Prelude.{IsSomeAnd, option_map}
use Rattle.std.specs.Int.{int_max, int_min}
use Rattle.std.specs.List.{count_by, reduce}
use Rattle.std.proofs.lemmas.Bool.{and_parts}
use Rattle.std.proofs.lemmas.Int.{ints, clamps}
use Rattle.std.proofs.lemmas.List.{length-append}
use Rattle.std.proofs.lemmas.List.Elements.{All-append, All-cons, All-map, All-nil}
use Rattle.std.proofs.lemmas.List.Sums.{fold-append, sum_by-cons}
use Rattle.std.proofs.lemmas.List.Sorted.{All-permutation, length_permutation}
use Rattle.pc_num.specs.declared.fraction.Frac.{Frac}
use Rattle.pc_model.specs.declared.row.Row.{Row}
use Rattle.pc_model.specs.declared.row.Run.{Run}
use Rattle.pc_model.specs.declared.query.Query.{Query}
use Rattle.pc_model.specs.Aggregate.{Ratio, IsSame, asked, number_at, whole}
use Rattle.pc_model.specs.Right.{Question}
use Rattle.pc_model.specs.Runs.{rows_of}
use Rattle.pc_proof.specs.Setting.{seen_numbers}
use Rattle.pc_proof.specs.Table.{ratio_of}
use Rattle.pc_proof.proofs.Numbers.{All-kept}
use Rattle.pc_proof.proofs.Seen.{all_numbers, keeps, lost_numbers, numbers_split}
use Rattle.pc_desk_parts.specs.declared.asked.Asked.{Asked}
use Rattle.pc_desk_parts.specs.declared.asked.Reached.{Reached}
use Rattle.pc_desk_parts.specs.declared.part.Part.{Part}
use Rattle.pc_desk_parts.specs.declared.part.Adds.TheVariants.{Nothing}
use Rattle.pc_desk_parts.specs.declared.pulls.Way.{Way}
use Rattle.pc_desk_parts.specs.declared.pulls.Way.TheVariants.{Being}
use Rattle.pc_desk_parts.specs.Ends.{is_told, is_told_by, stand_of, way_for}
use Rattle.pc_desk_parts.specs.Lost.{lost_part, lost_parts}
use Rattle.pc_desk_parts.specs.Made.{number_part, observed_part, observed_parts}
use Rattle.pc_desk_parts.specs.Parts.{ArePartsOf}
use Rattle.pc_desk_parts.specs.Stands.{is_at, stand_to}
use Rattle.pc_desk_parts.specs.Sums.{AreOfValue, IsOfValue, question_of, rows_in}
use Rattle.pc_desk_parts.proofs.AddedRuns.{runs_have}
use Rattle.pc_desk_parts.proofs.Runs.{rows_where}
use Rattle.pc_desk_parts.proofs.Sides.{kept_passing}
use Rattle.pc_desk_parts.proofs.Standing.{at_is, is_of_at, times_one}

-- ---- the best of numbers is one of them

module _ (pick : ℤ → ℤ → ℤ) (either : (a b : ℤ) → (pick a b ≡ a) ⊎ (pick a b ≡ b)) (passes : ℤ → Bool) where
  more_pass : (x : ℤ) (xs : List ℤ) → 1 ≤ count_by passes xs → 1 ≤ count_by passes (x ∷ xs)
  more_pass x xs some = omega (arith, some, sum_by-cons (λ (n : ℤ). cond (passes n) 1 0) x xs)

  one_passes : (x : ℤ) (xs : List ℤ) → passes x ≡ true → 1 ≤ count_by passes (x ∷ xs)
  one_passes x xs is =
      let here : ◌≡◌ {A = ℕ} (cond (passes x) 1 0) 1 = ap (λ (b : Bool). cond b 1 0) is in
      omega (arith, here, sum_by-cons (λ (n : ℤ). cond (passes n) 1 0) x xs)

  folded_passes : (x : ℤ) (xs : List ℤ) → passes (fold pick x xs) ≡ true → (passes x ≡ true) ⊎ (1 ≤ count_by passes xs)
  folded_passes x [] is = inl is
  folded_passes x (y ∷ xs) is = from_rest (folded_passes (pick x y) xs is) (either x y)
    where
      from_rest : ((passes (pick x y) ≡ true) ⊎ (1 ≤ count_by passes xs)) → ((pick x y ≡ x) ⊎ (pick x y ≡ y)) → (passes x ≡ true) ⊎ (1 ≤ count_by passes (y ∷ xs))
      from_rest (inr some) one = inr (more_pass y xs some)
      from_rest (inl is) (inl first) = inl (ap passes (sym first) ∙ is)
      from_rest (inl is) (inr second) = inr (one_passes y xs (ap passes (sym second) ∙ is))

  -- the best of two lists is that of the first, or one of the second
  pub best_passes : (xs ys : List ℤ) → IsSomeAnd (reduce pick (xs ++ ys)) (λ m. passes m ≡ true)
      → IsSomeAnd (reduce pick xs) (λ m. passes m ≡ true) ⊎ (1 ≤ count_by passes ys)
  best_passes [] [] is = absurd is
  best_passes [] (y ∷ ys) is = of_second (folded_passes y ys is)
    where
      of_second : ((passes y ≡ true) ⊎ (1 ≤ count_by passes ys)) → ⊥ ⊎ (1 ≤ count_by passes (y ∷ ys))
      of_second (inl one) = inr (one_passes y ys one)
      of_second (inr some) = inr (more_pass y ys some)
  best_passes (x ∷ xs) ys is = folded_passes (fold pick x xs) ys (ap passes (sym (fold-append pick x xs ys)) ∙ is)

pub min_either : (a b : ℤ) → (int_min a b ≡ a) ⊎ (int_min a b ≡ b)
min_either a b = grind (arith, ints, clamps)

pub max_either : (a b : ℤ) → (int_max a b ≡ a) ⊎ (int_max a b ≡ b)
max_either a b = grind (arith, ints, clamps)

-- ---- numbers at a value

same_from_at : (value : Frac) (number : ℤ) → is_at (stand_to value number) ≡ true → IsSame (whole number) (ratio_of value)
same_from_at value number at = is_of_at value number at ∙ sym (times_one value.num)

at_from_same : (value : Frac) (number : ℤ) → IsSame (whole number) (ratio_of value) → is_at (stand_to value number) ≡ true
at_from_same value number same = ap is_at (at_is value number (same ∙ times_one value.num))

-- ---- observed rows

module _ (value : Frac) where
  number_part_is : (best : Option ℤ) → All (IsOfValue (ratio_of value)) (number_part value best)
  number_part_is None = All-nil (IsOfValue (ratio_of value))
  number_part_is (Some number) = by_test (is_at (stand_to value number)) refl
    where
      by_test : (b : Bool) → is_at (stand_to value number) ≡ b → All (IsOfValue (ratio_of value)) (cond b (observed_part 1 (Some number) Nothing ∷ []) [])
      by_test true at = All-cons (IsOfValue (ratio_of value)) (observed_part 1 (Some number) Nothing) [] (same_from_at value number at) (All-nil (IsOfValue (ratio_of value)))
      by_test false other = All-nil (IsOfValue (ratio_of value))

  number_part_some : (best : Option ℤ) → IsSomeAnd best (λ m. is_at (stand_to value m) ≡ true) → 1 ≤ length (number_part value best)
  number_part_some None at = absurd at
  number_part_some (Some number) at =
      let one : length (number_part value (Some number)) ≡ 1 = ap (λ (b : Bool). length (cond b (observed_part 1 (Some number) Nothing ∷ []) [])) at in
      omega (arith, one)

-- ---- all rows

some_parts : (parts : List Part) → 1 ≤ rows_in parts → 1 ≤ length parts
some_parts [] some = some
some_parts (part ∷ parts) some = omega arith

of_number : (query : Query) (column : Option ℕ) (row : Row) (value : Ratio) → IsSomeAnd column (λ (at : ℕ). ⊤) → IsSame (whole (asked (record query { column = column }) row)) value
    → IsSomeAnd (option_map (number_at row) column) (λ number. IsSame (whole number) value)
of_number query None row value there same = absurd there
of_number query (Some column) row value there same = same

module _ (ask : Asked) (reached : Reached) (observed : List Row) (being : way_for ask ≡ Being) (there : IsSomeAnd ask.query.now.column (λ (at : ℕ). ⊤)) where
  abbrev q : Question
  q = question_of ask observed

  abbrev rows : List Row
  rows = rows_of reached.runs.now

  abbrev passes : ℤ → Bool
  passes number = is_at (stand_to reached.value number)

  told_is : (run : Run) → is_told ask reached run.row ≡ (keeps q run.row && passes (asked ask.query.now run.row))
  told_is run = ap (λ (way : Way). keeps q run.row && is_told_by way (stand_of ask reached run.row)) being

  lost_are : All (IsOfValue (ratio_of reached.value)) (lost_parts ask reached)
  lost_are =
      All-map (IsOfValue (ratio_of reached.value)) (lost_part ask reached) (filter (λ (run : Run). is_told ask reached run.row) reached.runs.now)
      (All-kept (λ (run : Run). is_told ask reached run.row) (λ (run : Run). IsOfValue (ratio_of reached.value) (lost_part ask reached run)) reached.runs.now each)
    where
      each : All (λ (run : Run). is_told ask reached run.row ≡ true → IsOfValue (ratio_of reached.value) (lost_part ask reached run)) reached.runs.now
      each = λ place d here told.
          let run = get_or reached.runs.now place d in
          let at = (and_parts (keeps q run.row) (passes (asked ask.query.now run.row)) (sym (told_is run) ∙ told)).1 in
          of_number ask.query.now ask.query.now.column run.row (ratio_of reached.value) there (same_from_at reached.value (asked ask.query.now run.row) at)

  lost_some : 1 ≤ count_by passes (lost_numbers q rows) → 1 ≤ length (lost_parts ask reached)
  lost_some some =
      let have =
      runs_have (λ (run : Run). is_told ask reached run.row) (lost_part ask reached) (λ (row : Row). keeps q row && passes (asked ask.query.now row)) told_is (λ run. refl) reached.runs.now
      ∙ sym (rows_where (λ (row : Row). keeps q row && passes (asked ask.query.now row)) reached.runs.now) ∙ sym (kept_passing (keeps q) (asked ask.query.now) passes rows) in
      some_parts (lost_parts ask reached) (omega (arith, have, some))

  module _ (parts : List Part) (are : ArePartsOf ask reached parts) (best : Option ℤ) (is : observed_parts ask reached ≡ number_part reached.value best) where
    whole_is : parts ≡ number_part reached.value best ++ are.lost
    whole_is = are.whole ∙ ap (λ (first : List Part). first ++ are.lost) is

    parts_are : All (IsOfValue (ratio_of reached.value)) parts
    parts_are =
        subst (All (IsOfValue (ratio_of reached.value))) (sym whole_is)
        (All-append (IsOfValue (ratio_of reached.value)) (number_part reached.value best) are.lost (number_part_is reached.value best)
        (All-permutation (IsOfValue (ratio_of reached.value)) (lost_parts ask reached) are.lost are.ordered.same lost_are))

    long : length parts ≡ length (number_part reached.value best) + length (lost_parts ask reached)
    long =
        ap length whole_is ∙ length-append (number_part reached.value best) are.lost
        ∙ ap (λ n. length (number_part reached.value best) + n) (length_permutation (lost_parts ask reached) are.lost are.ordered.same)

    pub extreme_parts : (pick : ℤ → ℤ → ℤ) → ((a b : ℤ) → (pick a b ≡ a) ⊎ (pick a b ≡ b)) → reduce pick (seen_numbers q) ≡ best
        → IsSomeAnd (reduce pick (all_numbers q rows)) (λ m. IsSame (whole m) (ratio_of reached.value)) → AreOfValue (ratio_of reached.value) parts
    extreme_parts pick either best_is given = record { some = from_either (best_passes pick either passes (seen_numbers q) (lost_numbers q rows) at); each = parts_are }
      where
        at_some : (m : Option ℤ) → IsSomeAnd m (λ n. IsSame (whole n) (ratio_of reached.value)) → IsSomeAnd m (λ n. passes n ≡ true)
        at_some None same = same
        at_some (Some n) same = at_from_same reached.value n same

        at : IsSomeAnd (reduce pick (seen_numbers q ++ lost_numbers q rows)) (λ m. passes m ≡ true)
        at = subst (λ (numbers : List ℤ). IsSomeAnd (reduce pick numbers) (λ m. passes m ≡ true)) (numbers_split q rows) (at_some (reduce pick (all_numbers q rows)) given)

        from_either : IsSomeAnd (reduce pick (seen_numbers q)) (λ m. passes m ≡ true) ⊎ (1 ≤ count_by passes (lost_numbers q rows)) → 1 ≤ length parts
        from_either (inl seen) =
            let some = number_part_some reached.value best (subst (λ (b : Option ℤ). IsSomeAnd b (λ m. passes m ≡ true)) best_is seen) in
            omega (arith, long, some)
        from_either (inr lost) = omega (arith, long, lost_some lost)
