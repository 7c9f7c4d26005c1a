-- Constraints that are short allow no lost rows: of possible rows the weights come to 0 or more, and to no more than room less needs.
use Rattle.std.proofs.Common.{◌≡◌, ◌∙◌, ℕ, zero, suc, ◌+◌, ◌*◌, ◌<◌, ◌≤◌, ℤ, pos, negsuc, ◌+ℤ◌, ◌*ℤ◌, ◌≤ℤ◌, Bool, true, false, cond, List, [], ◌∷◌, All, flat_map, get_or, length, map, if◌then◌else◌, refl, sym, ap, ap₂, arith, true≢false}
use Rattle.std.specs.List.{enumerate_from}
use Rattle.std.proofs.lemmas.Int.{ints}
use Rattle.std.proofs.lemmas.List.Elements.{All-head, All-tail}
use Rattle.std.proofs.lemmas.List.Sums.{get_or-le-sum_by, sum_by-append}
use Rattle.std.proofs.Math.Nat.{mul-le-mul_left}
use Rattle.pc_model.specs.declared.constraint.Constraint.{Constraint}
use Rattle.pc_model.specs.declared.row.Row.{Row}
use Rattle.pc_model.specs.declared.schema.Schema.{Schema}
use Rattle.pc_model.specs.Aggregate.{int_sum}
use Rattle.pc_model.specs.Membership.{is_under}
use Rattle.pc_model.specs.Possible.{IsPossible, Meets, count_of}
use Rattle.pc_model.proofs.Tallies.{count_by-cons}
use Rattle.pc_program_bound.specs.Sums.{int_at}
use Rattle.pc_program_bound.proofs.Ring.{mul-more}
use Rattle.pc_desk_try.specs.Openings.{CanBeLost, has_room}
use Rattle.pc_desk_short.specs.declared.claim.Claim.{Claim}
use Rattle.pc_desk_short.specs.declared.claim.Limit.{Limit}
use Rattle.pc_desk_short.specs.declared.claim.Limit.TheVariants.{Least, Most}
use Rattle.pc_desk_short.specs.Shortage.{IsShort, claim_at, claim_of, is_claimed, needed, room, rows_of, total_of, weight_at, weight_of}

-- ---- sums

regroup : (a b c d : ℤ) → (a +ℤ b) +ℤ (c +ℤ d) ≡ (a +ℤ c) +ℤ (b +ℤ d)
regroup a b c d = omega (arith, ints)

joined : (a b c d : ℕ) (w v : ℤ) → (pos a +ℤ w) ≤ℤ pos b → (pos c +ℤ v) ≤ℤ pos d → (pos (a + c) +ℤ (w +ℤ v)) ≤ℤ pos (b + d)
joined a b c d w v first second = omega (arith, ints, first, second)

more_often : (test : Bool) (w : ℤ) (n : ℕ) → w *ℤ pos (cond test 1 0 + n) ≡ cond test w (pos 0) +ℤ w *ℤ pos n
more_often true w n = let e : 1 + n ≡ suc n = omega arith in ap (λ (k : ℕ). w *ℤ pos k) e ∙ mul-more w n
more_often false w n = let e : 0 + n ≡ n = omega arith in ap (λ (k : ℕ). w *ℤ pos k) e ∙ nothing (w *ℤ pos n)
  where
    nothing : (x : ℤ) → x ≡ pos 0 +ℤ x
    nothing x = omega (arith, ints)

-- ---- one constraint

abbrev claims_by : Limit → ℕ → ℤ → Constraint → List Claim
claims_by limit place weight c = if is_claimed limit weight then claim_of limit place weight c ∷ [] else []

abbrev total_if : Limit → ℕ → ℤ → Constraint → Bool → ℕ
total_if limit place weight c test = total_of (if test then claim_of limit place weight c ∷ [] else [])

claimed : (place : ℕ) (w : ℤ) (c : Constraint) (n : ℕ) → c.least ≤ n → n ≤ c.most
    → (pos (total_of (claims_by Least place w c)) +ℤ w *ℤ pos n) ≤ℤ pos (total_of (claims_by Most place w c))
claimed place (pos zero) c n enough few =
    let low : is_claimed Least (pos 0) ≡ false = refl in
    let high : is_claimed Most (pos 0) ≡ false = refl in
    omega (arith, ints, ap (total_if Least place (pos 0) c) low, ap (total_if Most place (pos 0) c) high)
claimed place (pos (suc k)) c n enough few =
    let low : is_claimed Least (pos (suc k)) ≡ false = grind (arith, ints) in
    let high : is_claimed Most (pos (suc k)) ≡ true = grind (arith, ints) in
    let most : suc k * n ≤ suc k * c.most = mul-le-mul_left (suc k) few in
    rw (ap (total_if Least place (pos (suc k)) c) low, ap (total_if Most place (pos (suc k)) c) high) (omega (arith, ints, most))
claimed place (negsuc k) c n enough few =
    let low : is_claimed Least (negsuc k) ≡ true = grind (arith, ints) in
    let high : is_claimed Most (negsuc k) ≡ false = grind (arith, ints) in
    let least : suc k * c.least ≤ suc k * n = mul-le-mul_left (suc k) enough in
    rw (ap (total_if Least place (negsuc k) c) low, ap (total_if Most place (negsuc k) c) high) (omega (arith, ints, least))

module _ (constraints : List Constraint) (weights : List ℤ) where
  -- a constraint's weight, as often as it speaks of a row
  abbrev worth_at : List Row → ℕ × Constraint → ℤ
  worth_at rows entry = int_at weights entry.0 *ℤ pos (count_of constraints entry.1 rows)

  abbrev worth : List (ℕ × Constraint) → List Row → ℤ
  worth entries rows = int_sum (map (worth_at rows) entries)

  abbrev row_worth : List (ℕ × Constraint) → Row → ℤ
  row_worth entries row = int_sum (map (weight_at constraints weights row) entries)

  worth_none : (entries : List (ℕ × Constraint)) → worth entries [] ≡ pos 0
  worth_none [] = refl
  worth_none (entry ∷ entries) = ap₂ (λ (x y : ℤ). x +ℤ y) (nothing (int_at weights entry.0)) (worth_none entries)
    where
      nothing : (w : ℤ) → w *ℤ pos 0 ≡ pos 0
      nothing w = omega (arith, ints)

  worth_more : (entries : List (ℕ × Constraint)) (row : Row) (rows : List Row) → worth entries (row ∷ rows) ≡ row_worth entries row +ℤ worth entries rows
  worth_more [] row rows = refl
  worth_more (entry ∷ entries) row rows =
      let first : worth_at (row ∷ rows) entry ≡ weight_at constraints weights row entry +ℤ worth_at rows entry =
      ap (λ (n : ℕ). int_at weights entry.0 *ℤ pos n) (count_by-cons (is_under constraints entry.1) row rows)
      ∙ more_often (is_under constraints entry.1 row) (int_at weights entry.0) (count_of constraints entry.1 rows) in
      ap₂ (λ (x y : ℤ). x +ℤ y) first (worth_more entries row rows)
      ∙ regroup (weight_at constraints weights row entry) (worth_at rows entry) (row_worth entries row) (worth entries rows)

  -- rows of which none weighs less than 0
  worth_served : (entries : List (ℕ × Constraint)) (rows : List Row) → All (λ (row : Row). pos 0 ≤ℤ row_worth entries row) rows → pos 0 ≤ℤ worth entries rows
  worth_served entries [] all = rw (worth_none entries) (omega (arith, ints))
  worth_served entries (row ∷ rows) all =
      let first = All-head (λ (found : Row). pos 0 ≤ℤ row_worth entries found) row rows all in
      let later = worth_served entries rows (All-tail (λ (found : Row). pos 0 ≤ℤ row_worth entries found) row rows all) in
      rw (worth_more entries row rows) (sum first later)
    where
      sum : {x y : ℤ} → pos 0 ≤ℤ x → pos 0 ≤ℤ y → pos 0 ≤ℤ (x +ℤ y)
      sum h k = omega (arith, ints, h, k)

  worth_within : (place : ℕ) (cs : List Constraint) (rows : List Row) → All (λ (c : Constraint). Meets constraints c rows) cs
      → (pos (total_of (flat_map (claim_at Least weights) (enumerate_from place cs))) +ℤ worth (enumerate_from place cs) rows)
      ≤ℤ pos (total_of (flat_map (claim_at Most weights) (enumerate_from place cs)))
  worth_within place [] rows all = omega (arith, ints)
  worth_within place (c ∷ cs) rows all =
      let meets = All-head (λ (other : Constraint). Meets constraints other rows) c cs all in
      let later = worth_within (place + 1) cs rows (All-tail (λ (other : Constraint). Meets constraints other rows) c cs all) in
      let first = claimed place (int_at weights place) c (count_of constraints c rows) meets.enough meets.not_more in
      rw (
        sum_by-append rows_of (claim_at Least weights (place, c)) (flat_map (claim_at Least weights) (enumerate_from (place + 1) cs)),
        sum_by-append rows_of (claim_at Most weights (place, c)) (flat_map (claim_at Most weights) (enumerate_from (place + 1) cs)),
      ) (joined (total_of (claim_at Least weights (place, c))) (total_of (claim_at Most weights (place, c)))
      (total_of (flat_map (claim_at Least weights) (enumerate_from (place + 1) cs))) (total_of (flat_map (claim_at Most weights) (enumerate_from (place + 1) cs)))
      (worth_at rows (place, c)) (worth (enumerate_from (place + 1) cs) rows) first later)

-- ---- rows that are possible can be lost

some_most : (c : Constraint) (n : ℕ) → 1 ≤ n → n ≤ c.most → has_room c ≡ true
some_most c n some few = grind (arith, some, few)

counted : (under : Bool) (n : ℕ) → under ≡ true → cond under 1 0 ≤ n → 1 ≤ n
counted true n is within = within
counted false n is within = absurd (true≢false (sym is))

module _ (schema : Schema) (constraints : List Constraint) (rows : List Row) (possible : IsPossible schema constraints rows) where
  lost_at : (place : ℕ) (d : Row) → place < length rows → CanBeLost schema constraints (get_or rows place d)
  lost_at place d here = record {
    allowed = possible.allowed place d here;
    lawful = record { covered = possible.covered place d here; kept = λ k c inside. (possible.meets k c inside).in_values place d here };
    room = λ k other inside under.
        let c = get_or constraints k other in
        some_most c (count_of constraints c rows)
        (counted (is_under constraints c (get_or rows place d)) (count_of constraints c rows) under (get_or-le-sum_by (λ (row : Row). cond (is_under constraints c row) 1 0) rows place d here))
        (possible.meets k other inside).not_more;
  }

  pub short_is_impossible : (weights : List ℤ) → IsShort schema constraints weights → ⊥
  short_is_impossible weights short =
      let all : All (λ (row : Row). pos 0 ≤ℤ weight_of constraints weights row) rows = λ place d here. short.served (get_or rows place d) (lost_at place d here) in
      let served = worth_served constraints weights (enumerate_from 0 constraints) rows all in
      let within = worth_within constraints weights 0 constraints rows possible.meets in
      too_much (needed constraints weights) (room constraints weights) (worth constraints weights (enumerate_from 0 constraints) rows) short.short served within
    where
      too_much : (need allowed : ℕ) (w : ℤ) → allowed < need → pos 0 ≤ℤ w → (pos need +ℤ w) ≤ℤ pos allowed → ⊥
      too_much need allowed w less served within = omega (arith, ints, less, served, within)
