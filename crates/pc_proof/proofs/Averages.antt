-- The average: what its proofs show holds of every possible list.
use Rattle.std.proofs.Common.{◌≡◌, ℤ, pos, neg_ℤ, ◌+ℤ◌, ◌-ℤ◌, ◌*ℤ◌, ◌≤ℤ◌, ◌<ℤ◌, Bool, true, false, cond, List, [], ◌∷◌, length, map, get_or, All, Option, Some, None, IfSome, IsSomeAnd, ◌⊎◌, ⊎_elim, sym, ap, ◌∙◌, true≢false, arith}
use lib.IntN.{*ℤ_comm}
use Rattle.std.specs.List.{reduce}
use Rattle.std.specs.Int.{int_min, int_max}
use Rattle.std.proofs.lemmas.Int.{ints, clamps}
use Rattle.std.proofs.lemmas.List.Elements.{All-contains}
use Rattle.pc_model.specs.declared.row.Row.{Row}
use Rattle.pc_model.specs.declared.query.Agg.TheVariants.{Avg}
use Rattle.pc_model.specs.declared.tree.Tree.{Tree}
use Rattle.pc_model.specs.Membership.{is_in}
use Rattle.pc_model.specs.Aggregate.{Ratio, whole, IsAtMost, asked, int_sum, value_of}
use Rattle.pc_model.specs.Right.{IsPossibleFor}
use Rattle.pc_model.specs.Cells.{Class}
use Rattle.pc_program_bound.specs.SplitTrees.{IsWithin}
use Rattle.pc_program_bound.proofs.Ring.{mul-add, mul_mono}
use Rattle.pc_proof.specs.Setting.{Setting, area_of, seen_count, seen_sum, seen_least, seen_greatest, seen_numbers, cells, low_in, high_in, on_chosen}
use Rattle.pc_proof.specs.Table.{limit, bound_for, high_program, low_program, IsSound, Shows, above_ratio, below_ratio, seen_above, left_over, fewest, raised_by, lowered_by, greater_of, lesser_of, chosen_cells, greatest_number, least_number}
use Rattle.pc_proof.specs.Unbroken.{IsWellPosed}
use Rattle.pc_proof.proofs.Ends.{AsksNumbers}
use Rattle.pc_proof.proofs.Fractions.{mul_above, at_most_trans, spread_over, spread_under}
use Rattle.pc_proof.proofs.Gains.{IsSettledFor, gains_of, gains_within, shown_gains}
use Rattle.pc_proof.proofs.Groups.{keeps_area}
use Rattle.pc_proof.proofs.Kept.{kept_count, kept_sum, kept_some, cell_of, in_cells, between}
use Rattle.pc_proof.proofs.Numbers.{All-kept_back, each_under_greatest, each_over_least, sum_under, sum_over}
use Rattle.pc_proof.proofs.Seen.{keeps, all_numbers, how_many, what_sum, of_all, from_lost, int_sum_mono}

-- ---- sums of what rows are above a ratio, and below it

module _ {X : Type 0} (q p : ℤ) (test : X → Bool) (f : X → ℤ) where
  abbrev sum_of : List X → ℤ
  sum_of xs = int_sum (map (λ x. cond (test x) (f x) (pos 0)) xs)

  abbrev count_of : List X → ℤ
  count_of xs = int_sum (map (λ x. cond (test x) (pos 1) (pos 0)) xs)

  sum_over_ratio : (xs : List X) → int_sum (map (λ x. cond (test x) (q *ℤ f x -ℤ p) (pos 0)) xs) ≡ q *ℤ sum_of xs -ℤ p *ℤ count_of xs
  sum_over_ratio [] = omega (arith, ints)
  sum_over_ratio (x ∷ xs) = by_test (test x) (sum_over_ratio xs)
    where
      by_test : (passes : Bool) → int_sum (map (λ y. cond (test y) (q *ℤ f y -ℤ p) (pos 0)) xs) ≡ q *ℤ sum_of xs -ℤ p *ℤ count_of xs →
          cond passes (q *ℤ f x -ℤ p) (pos 0) +ℤ int_sum (map (λ y. cond (test y) (q *ℤ f y -ℤ p) (pos 0)) xs) ≡
          q *ℤ (cond passes (f x) (pos 0) +ℤ sum_of xs) -ℤ p *ℤ (cond passes (pos 1) (pos 0) +ℤ count_of xs)
      by_test true later = omega (arith, ints, later, mul-add q (f x) (sum_of xs), mul-add p (pos 1) (count_of xs))
      by_test false later = omega (arith, ints, later, mul-add q (pos 0) (sum_of xs), mul-add p (pos 0) (count_of xs))

  sum_under_ratio : (xs : List X) → int_sum (map (λ x. cond (test x) (p -ℤ q *ℤ f x) (pos 0)) xs) ≡ p *ℤ count_of xs -ℤ q *ℤ sum_of xs
  sum_under_ratio [] = omega (arith, ints)
  sum_under_ratio (x ∷ xs) = by_test (test x) (sum_under_ratio xs)
    where
      by_test : (passes : Bool) → int_sum (map (λ y. cond (test y) (p -ℤ q *ℤ f y) (pos 0)) xs) ≡ p *ℤ count_of xs -ℤ q *ℤ sum_of xs →
          cond passes (p -ℤ q *ℤ f x) (pos 0) +ℤ int_sum (map (λ y. cond (test y) (p -ℤ q *ℤ f y) (pos 0)) xs) ≡
          p *ℤ (cond passes (pos 1) (pos 0) +ℤ count_of xs) -ℤ q *ℤ (cond passes (f x) (pos 0) +ℤ sum_of xs)
      by_test true later = omega (arith, ints, later, mul-add q (f x) (sum_of xs), mul-add p (pos 1) (count_of xs))
      by_test false later = omega (arith, ints, later, mul-add q (pos 0) (sum_of xs), mul-add p (pos 0) (count_of xs))

-- ---- one row

kept_above : (kept chosen : Bool) (q p n high : ℤ) → pos 0 <ℤ q → kept ≡ chosen → n ≤ℤ high → cond kept (q *ℤ n -ℤ p) (pos 0) ≤ℤ cond chosen (q *ℤ high -ℤ p) (pos 0)
kept_above true true q p n high above same under = let more = mul_mono q n high (omega (arith, ints)) under in omega (arith, ints, more)
kept_above false false q p n high above same under = omega (arith, ints)
kept_above true false q p n high above same under = absurd (true≢false same)
kept_above false true q p n high above same under = absurd (true≢false (sym same))

kept_below : (kept chosen : Bool) (q p n low : ℤ) → pos 0 <ℤ q → kept ≡ chosen → low ≤ℤ n → cond kept (p -ℤ q *ℤ n) (pos 0) ≤ℤ cond chosen (p -ℤ q *ℤ low) (pos 0)
kept_below true true q p n low above same over = let more = mul_mono q low n (omega (arith, ints)) over in omega (arith, ints, more)
kept_below false false q p n low above same over = omega (arith, ints)
kept_below true false q p n low above same over = absurd (true≢false same)
kept_below false true q p n low above same over = absurd (true≢false (sym same))

-- ---- what is left over

within_left : (n gains seen : ℤ) (most : Option ℤ) → IsWithin gains most → n ≤ℤ (seen +ℤ gains) → n ≤ℤ left_over seen most
within_left n gains seen None within few = absurd within
within_left n gains seen (Some k) within few = most (int_max k (neg_ℤ limit)) (omega (arith, ints, clamps, within))
  where
    most : (bound : ℤ) → gains ≤ℤ bound → n ≤ℤ int_max (pos 0) (seen +ℤ bound)
    most bound under = omega (arith, ints, clamps, under, few)

some_left : (seen : ℤ) (most : Option ℤ) → pos 0 ≤ℤ left_over seen most
some_left seen None = omega (arith, ints)
some_left seen (Some k) = at_least (seen +ℤ int_max k (neg_ℤ limit))
  where
    at_least : (n : ℤ) → pos 0 ≤ℤ int_max (pos 0) n
    at_least n = omega (arith, ints, clamps)

-- ---- numbers under the greatest of two, and over the least

greater_left : (a b : Option ℤ) (n : ℤ) → IsSomeAnd a (λ g. n ≤ℤ g) → IsSomeAnd (greater_of a b) (λ g. n ≤ℤ g)
greater_left None b n under = absurd under
greater_left (Some x) None n under = under
greater_left (Some x) (Some y) n under = omega (arith, ints, clamps, under)

greater_right : (a b : Option ℤ) (n : ℤ) → IsSomeAnd b (λ g. n ≤ℤ g) → IsSomeAnd (greater_of a b) (λ g. n ≤ℤ g)
greater_right None b n under = under
greater_right (Some x) None n under = absurd under
greater_right (Some x) (Some y) n under = omega (arith, ints, clamps, under)

lesser_left : (a b : Option ℤ) (n : ℤ) → IsSomeAnd a (λ m. m ≤ℤ n) → IsSomeAnd (lesser_of a b) (λ m. m ≤ℤ n)
lesser_left None b n over = absurd over
lesser_left (Some x) None n over = over
lesser_left (Some x) (Some y) n over = omega (arith, ints, clamps, over)

lesser_right : (a b : Option ℤ) (n : ℤ) → IsSomeAnd b (λ m. m ≤ℤ n) → IsSomeAnd (lesser_of a b) (λ m. m ≤ℤ n)
lesser_right None b n over = over
lesser_right (Some x) None n over = absurd over
lesser_right (Some x) (Some y) n over = omega (arith, ints, clamps, over)

some_higher : (o : Option ℤ) (m n : ℤ) → m ≤ℤ n → IsSomeAnd o (λ g. n ≤ℤ g) → IsSomeAnd o (λ g. m ≤ℤ g)
some_higher None m n below under = absurd under
some_higher (Some g) m n below under = omega (arith, ints, below, under)

some_lower : (o : Option ℤ) (m n : ℤ) → m ≤ℤ n → IsSomeAnd o (λ l. l ≤ℤ m) → IsSomeAnd o (λ l. l ≤ℤ n)
some_lower None m n below over = absurd over
some_lower (Some l) m n below over = omega (arith, ints, below, over)

-- the number that passes, and what each of a list is beside it
some_of_all : (o : Option ℤ) (P : ℤ → Type 0) (R : ℤ → ℤ → Type 0) (xs : List ℤ) → IsSomeAnd o P → All (λ n. IsSomeAnd o (λ g. R n g)) xs → (g : ℤ) × P g × All (λ n. R n g) xs
some_of_all None P R xs passes each = absurd passes
some_of_all (Some g) P R xs passes each = (g, passes, each)

-- ---- the average as a ratio

average_if : (xs : List ℤ) (P : Ratio → Type 0) → (pos 1 ≤ℤ pos (length xs) → P (record { num = int_sum xs; den = pos (length xs) })) → IfSome (value_of Avg xs) P
average_if [] P holds = tt
average_if (x ∷ xs) P holds = holds (omega (arith, ints))

module _ (s : Setting) (posed : IsWellPosed s.question) (tree : IsSettledFor s) (lost : List Row) (possible : IsPossibleFor s.question lost)
    (asks : AsksNumbers s.question.schema s.question.query) where
  abbrev numbers : List ℤ
  numbers = all_numbers s.question lost

  abbrev sum : ℤ
  sum = int_sum numbers

  abbrev count : ℤ
  count = pos (length numbers)

  abbrev average : Ratio
  average = record { num = sum; den = count }

  -- ---- by a ratio

  module _ (r : Ratio) (steep : pos 0 <ℤ r.den) where
    spread_high : (r.den *ℤ kept_sum s lost -ℤ r.num *ℤ kept_count s lost) ≤ℤ gains_of s (on_chosen (above_ratio s r)) lost
    spread_high =
        let within = int_sum_mono (λ (row : Row). cond (keeps s.question row) (r.den *ℤ asked s.question.query row -ℤ r.num) (pos 0)) (λ (row : Row). on_chosen (above_ratio s r) (cell_of s row)) lost
        (λ place d inside.
        kept_above (keeps s.question (get_or lost place d)) (is_in (area_of s.question) (get_or lost place d)) r.den r.num (asked s.question.query (get_or lost place d)) (high_in s (cell_of s (get_or lost place d))) steep
        (keeps_area s.question posed (get_or lost place d)) (between s posed tree lost possible asks place d inside).1) in
        omega (arith, ints, within, sum_over_ratio r.den r.num (keeps s.question) (asked s.question.query) lost)

    spread_low : (r.num *ℤ kept_count s lost -ℤ r.den *ℤ kept_sum s lost) ≤ℤ gains_of s (on_chosen (below_ratio s r)) lost
    spread_low =
        let within = int_sum_mono (λ (row : Row). cond (keeps s.question row) (r.num -ℤ r.den *ℤ asked s.question.query row) (pos 0)) (λ (row : Row). on_chosen (below_ratio s r) (cell_of s row)) lost
        (λ place d inside.
        kept_below (keeps s.question (get_or lost place d)) (is_in (area_of s.question) (get_or lost place d)) r.den r.num (asked s.question.query (get_or lost place d)) (low_in s (cell_of s (get_or lost place d))) steep
        (keeps_area s.question posed (get_or lost place d)) (between s posed tree lost possible asks place d inside).0) in
        omega (arith, ints, within, sum_under_ratio r.den r.num (keeps s.question) (asked s.question.query) lost)

    -- how far the sum is above the ratio, and how far below it
    high_left : (r.den *ℤ sum -ℤ r.num *ℤ count) ≤ℤ (seen_above s.question r +ℤ gains_of s (on_chosen (above_ratio s r)) lost)
    high_left =
        let whole_sum = ap (λ n. r.den *ℤ n) (what_sum s.question lost) ∙ mul-add r.den (seen_sum s.question) (kept_sum s lost) in
        let whole_count = ap (λ n. r.num *ℤ n) (how_many s.question lost) ∙ mul-add r.num (seen_count s.question) (kept_count s lost) in
        omega (arith, ints, whole_sum, whole_count, spread_high)

    low_left : (r.num *ℤ count -ℤ r.den *ℤ sum) ≤ℤ (neg_ℤ (seen_above s.question r) +ℤ gains_of s (on_chosen (below_ratio s r)) lost)
    low_left =
        let whole_sum = ap (λ n. r.den *ℤ n) (what_sum s.question lost) ∙ mul-add r.den (seen_sum s.question) (kept_sum s lost) in
        let whole_count = ap (λ n. r.num *ℤ n) (how_many s.question lost) ∙ mul-add r.num (seen_count s.question) (kept_count s lost) in
        omega (arith, ints, whole_sum, whole_count, spread_low)

  -- the fewest rows with a value are no more than there are
  few_enough : pos 1 ≤ℤ count → fewest s.question ≤ℤ count
  few_enough some = few (seen_count s.question) (omega (arith, ints, how_many s.question lost, kept_some s lost))
    where
      few : (n : ℤ) → n ≤ℤ count → int_max n (pos 1) ≤ℤ count
      few n below = omega (arith, ints, clamps, below, some)

  fewest_some : pos 1 ≤ℤ fewest s.question
  fewest_some = some (seen_count s.question)
    where
      some : (n : ℤ) → pos 1 ≤ℤ int_max n (pos 1)
      some n = omega (arith, ints, clamps)

  -- ---- by the numbers that rows can have

  abbrev highest : Option ℤ
  highest = reduce int_max (map (high_in s) (chosen_cells s))

  abbrev lowest : Option ℤ
  lowest = reduce int_min (map (low_in s) (chosen_cells s))

  numbers_under : All (λ n. IsSomeAnd (greatest_number s) (λ g. n ≤ℤ g)) numbers
  numbers_under =
      of_all s.question lost (λ n. IsSomeAnd (greatest_number s) (λ g. n ≤ℤ g))
      (λ place d inside. greater_left (seen_greatest s.question) highest (get_or (seen_numbers s.question) place d) (each_under_greatest (seen_numbers s.question) place d inside))
      (from_lost s.question lost (λ n. IsSomeAnd (greatest_number s) (λ g. n ≤ℤ g))
      (λ place d inside kept.
      let row = get_or lost place d in
      greater_right (seen_greatest s.question) highest (asked s.question.query row)
      (some_higher highest (asked s.question.query row) (high_in s (cell_of s row)) (between s posed tree lost possible asks place d inside).1
      (All-contains (λ (class : Class). class.chosen ≡ true → IsSomeAnd highest (λ g. high_in s class ≤ℤ g)) (cells s) (cell_of s row)
      (All-kept_back (λ (class : Class). class.chosen) (high_in s) (λ n. IsSomeAnd highest (λ g. n ≤ℤ g)) (cells s) (each_under_greatest (map (high_in s) (chosen_cells s))))
      (in_cells s posed tree lost possible place d inside) (sym (keeps_area s.question posed row) ∙ kept)))))

  numbers_over : All (λ n. IsSomeAnd (least_number s) (λ m. m ≤ℤ n)) numbers
  numbers_over =
      of_all s.question lost (λ n. IsSomeAnd (least_number s) (λ m. m ≤ℤ n))
      (λ place d inside. lesser_left (seen_least s.question) lowest (get_or (seen_numbers s.question) place d) (each_over_least (seen_numbers s.question) place d inside))
      (from_lost s.question lost (λ n. IsSomeAnd (least_number s) (λ m. m ≤ℤ n))
      (λ place d inside kept.
      let row = get_or lost place d in
      lesser_right (seen_least s.question) lowest (asked s.question.query row)
      (some_lower lowest (low_in s (cell_of s row)) (asked s.question.query row) (between s posed tree lost possible asks place d inside).0
      (All-contains (λ (class : Class). class.chosen ≡ true → IsSomeAnd lowest (λ m. m ≤ℤ low_in s class)) (cells s) (cell_of s row)
      (All-kept_back (λ (class : Class). class.chosen) (low_in s) (λ n. IsSomeAnd lowest (λ m. m ≤ℤ n)) (cells s) (each_over_least (map (low_in s) (chosen_cells s))))
      (in_cells s posed tree lost possible place d inside) (sym (keeps_area s.question posed row) ∙ kept)))))

  module _ (v : Ratio) (above : pos 0 <ℤ v.den) where
    under_greatest : (g : ℤ) → All (λ n. n ≤ℤ g) numbers → IsAtMost (whole g) v → pos 1 ≤ℤ count → IsAtMost average v
    under_greatest g each within some =
        at_most_trans average (whole g) v (omega (arith, ints, some)) (omega (arith, ints)) above (omega (arith, ints, sum_under g numbers each)) within

    over_least : (m : ℤ) → All (λ n. m ≤ℤ n) numbers → IsAtMost v (whole m) → pos 1 ≤ℤ count → IsAtMost v average
    over_least m each from some =
        at_most_trans v (whole m) average above (omega (arith, ints)) (omega (arith, ints, some)) from (omega (arith, ints, sum_over m numbers each))

    pub avg_high_values : IsSomeAnd (greatest_number s) (λ g. IsAtMost (whole g) v) → IfSome (value_of Avg numbers) (λ x. IsAtMost x v)
    avg_high_values shows =
        let found = some_of_all (greatest_number s) (λ g. IsAtMost (whole g) v) (λ n g. n ≤ℤ g) numbers shows numbers_under in
        average_if numbers (λ x. IsAtMost x v) (under_greatest found.0 found.2 found.1)

    pub avg_low_values : IsSomeAnd (least_number s) (λ m. IsAtMost v (whole m)) → IfSome (value_of Avg numbers) (λ x. IsAtMost v x)
    avg_low_values shows =
        let found = some_of_all (least_number s) (λ m. IsAtMost v (whole m)) (λ n m. m ≤ℤ n) numbers shows numbers_over in
        average_if numbers (λ x. IsAtMost v x) (over_least found.0 found.2 found.1)

    -- ---- by a tree at the value

    pub avg_high : (t : Tree) → Shows (high_program s Avg v) t (λ k. (seen_above s.question v +ℤ k) ≤ℤ pos 0) → IfSome (value_of Avg numbers) (λ x. IsAtMost x v)
    avg_high t shows =
        let found = shown_gains s posed.formed tree lost possible (on_chosen (above_ratio s v)) t (λ k. (seen_above s.question v +ℤ k) ≤ℤ pos 0) shows in
        average_if numbers (λ x. IsAtMost x v) (λ some. omega (arith, ints, high_left v above, found.1, found.2, *ℤ_comm v.den sum))

    pub avg_low : (t : Tree) → Shows (low_program s Avg v) t (λ k. (k -ℤ seen_above s.question v) ≤ℤ pos 0) → IfSome (value_of Avg numbers) (λ x. IsAtMost v x)
    avg_low t shows =
        let found = shown_gains s posed.formed tree lost possible (on_chosen (below_ratio s v)) t (λ k. (k -ℤ seen_above s.question v) ≤ℤ pos 0) shows in
        average_if numbers (λ x. IsAtMost v x) (λ some. omega (arith, ints, low_left v above, found.1, found.2, *ℤ_comm v.den sum))

    -- ---- by a tree at a ratio

    module _ (r : Ratio) (steep : pos 0 <ℤ r.den) (t : Tree) where
      raised_holds : IsSound (high_program s Avg r) t → pos 1 ≤ℤ count → IsAtMost average (raised_by s r t)
      raised_holds sound some =
          let left = within_left (r.den *ℤ sum -ℤ r.num *ℤ count) (gains_of s (on_chosen (above_ratio s r)) lost) (seen_above s.question r) (bound_for (high_program s Avg r) t)
          (gains_within s posed.formed tree lost possible (on_chosen (above_ratio s r)) t sound) (high_left r steep) in
          spread_over r.den r.num sum count (fewest s.question) (left_over (seen_above s.question r) (bound_for (high_program s Avg r) t)) fewest_some (few_enough some)
          (some_left (seen_above s.question r) (bound_for (high_program s Avg r) t))
          (added (r.den *ℤ sum) (r.num *ℤ count) (left_over (seen_above s.question r) (bound_for (high_program s Avg r) t)) left)
        where
          added : (a b e : ℤ) → (a -ℤ b) ≤ℤ e → a ≤ℤ (b +ℤ e)
          added a b e few = omega (arith, ints, few)

      lowered_holds : IsSound (low_program s Avg r) t → pos 1 ≤ℤ count → IsAtMost (lowered_by s r t) average
      lowered_holds sound some =
          let left = within_left (r.num *ℤ count -ℤ r.den *ℤ sum) (gains_of s (on_chosen (below_ratio s r)) lost) (neg_ℤ (seen_above s.question r)) (bound_for (low_program s Avg r) t)
          (gains_within s posed.formed tree lost possible (on_chosen (below_ratio s r)) t sound) (low_left r steep) in
          spread_under r.den r.num sum count (fewest s.question) (left_over (neg_ℤ (seen_above s.question r)) (bound_for (low_program s Avg r) t)) fewest_some (few_enough some)
          (some_left (neg_ℤ (seen_above s.question r)) (bound_for (low_program s Avg r) t))
          (added (r.num *ℤ count) (r.den *ℤ sum) (left_over (neg_ℤ (seen_above s.question r)) (bound_for (low_program s Avg r) t)) left)
        where
          added : (a b e : ℤ) → (a -ℤ b) ≤ℤ e → a ≤ℤ (b +ℤ e)
          added a b e few = omega (arith, ints, few)

      spread_above : pos 0 <ℤ (r.den *ℤ fewest s.question)
      spread_above = mul_above r.den (fewest s.question) steep (above_none (fewest s.question) fewest_some)
        where
          above_none : (n : ℤ) → pos 1 ≤ℤ n → pos 0 <ℤ n
          above_none n some = omega (arith, ints, some)

      pub avg_high_at : IsSound (high_program s Avg r) t × IsSomeAnd (greatest_number s) (λ g. IsAtMost (raised_by s r t) v ⊎ IsAtMost (whole g) v) → IfSome (value_of Avg numbers) (λ x. IsAtMost x v)
      avg_high_at shows =
          let found = some_of_all (greatest_number s) (λ g. IsAtMost (raised_by s r t) v ⊎ IsAtMost (whole g) v) (λ n g. n ≤ℤ g) numbers shows.1 numbers_under in
          average_if numbers (λ x. IsAtMost x v)
          (λ some.
          ⊎_elim (λ within. at_most_trans average (raised_by s r t) v (omega (arith, ints, some)) spread_above above (raised_holds shows.0 some) within)
          (λ within. under_greatest found.0 found.2 within some) found.1)

      pub avg_low_at : IsSound (low_program s Avg r) t × IsSomeAnd (least_number s) (λ m. IsAtMost v (lowered_by s r t) ⊎ IsAtMost v (whole m)) → IfSome (value_of Avg numbers) (λ x. IsAtMost v x)
      avg_low_at shows =
          let found = some_of_all (least_number s) (λ m. IsAtMost v (lowered_by s r t) ⊎ IsAtMost v (whole m)) (λ n m. m ≤ℤ n) numbers shows.1 numbers_over in
          average_if numbers (λ x. IsAtMost v x)
          (λ some.
          ⊎_elim (λ from. at_most_trans v (lowered_by s r t) average above spread_above (omega (arith, ints, some)) from (lowered_holds shows.0 some))
          (λ from. over_least found.0 found.2 from some) found.1)
