-- Programs of rungs that have the same gains and caps, as neighbours, the statements of ends and licences name them.
use Rattle.std.proofs.Common.{◌≡◌, ℕ, ℤ, pos, neg_ℤ, ◌*ℤ◌, ◌≤ℤ◌, ◌<ℤ◌, Bool, true, false, cond, ◌&&◌, ◌⊎◌, inl, inr, List, [], ◌∷◌, map, get_or, All, refl, sym, ap, ap₂, ◌∙◌, arith}
use Rattle.std.specs.Prelude.{int_le, int_lt}
use Rattle.std.proofs.lemmas.Int.{ints, by_lt_z}
use Rattle.std.proofs.lemmas.List.Elements.{All-head, All-tail}
use Rattle.pc_model.specs.Aggregate.{whole}
use Rattle.pc_model.specs.Cells.{Class}
use Rattle.pc_model.specs.declared.query.Agg.TheVariants.{Min, Max}
use Rattle.pc_program_bound.specs.CellPrograms.{cap_of}
use Rattle.pc_proof.specs.Setting.{Setting, cells, low_in, high_in, on_chosen, counting, open_cap, program_for, program_without}
use Rattle.pc_proof.specs.Table.{one, high_program, low_program}
use Rattle.pc_branch_licences.specs.Licensed.{upto_low, from_high, under_high, over_low}
use Rattle.pc_agg_search.specs.declared.extreme.Extreme.{Extreme}
use Rattle.pc_agg_search.specs.declared.extreme.Extreme.TheVariants.{Low, High}
use Rattle.pc_agg_search.specs.Keys.{key_of}
use Rattle.pc_agg.specs.Rungs.{reaches, avoids, AreApart, AllFrom}

-- ---- tests of whole numbers

lt_both : (a b c d : ℤ) → (a <ℤ b → c <ℤ d) → (c <ℤ d → a <ℤ b) → int_lt a b ≡ int_lt c d
lt_both a b c d to from = by_lt_z a b
    (λ less. let other = to less in let x : int_lt a b ≡ true = grind (arith, ints, less) in let y : int_lt c d ≡ true = grind (arith, ints, other) in x ∙ sym y)
    (λ over. by_lt_z c d (λ less. absurd (omega (arith, ints, over, from less)))
    (λ also. let x : int_lt a b ≡ false = grind (arith, ints, over) in let y : int_lt c d ≡ false = grind (arith, ints, also) in x ∙ sym y))

le_both : (a b c d : ℤ) → (a ≤ℤ b → c ≤ℤ d) → (c ≤ℤ d → a ≤ℤ b) → int_le a b ≡ int_le c d
le_both a b c d to from = by_lt_z b a
    (λ less. by_lt_z d c (λ also. let x : int_le a b ≡ false = grind (arith, ints, less) in let y : int_le c d ≡ false = grind (arith, ints, also) in x ∙ sym y)
    (λ le. absurd (omega (arith, ints, less, from le))))
    (λ le. let other = to le in let x : int_le a b ≡ true = grind (arith, ints, le) in let y : int_le c d ≡ true = grind (arith, ints, other) in x ∙ sym y)

-- below a number that is turned, and at most it
turned_lt : (a b : ℤ) → int_lt a (neg_ℤ b) ≡ int_lt b (neg_ℤ a)
turned_lt a b = lt_both a (neg_ℤ b) b (neg_ℤ a) (λ less. omega (arith, ints, less)) (λ less. omega (arith, ints, less))

lt_turned : (a b : ℤ) → int_lt (neg_ℤ a) b ≡ int_lt (neg_ℤ b) a
lt_turned a b = lt_both (neg_ℤ a) b (neg_ℤ b) a (λ less. omega (arith, ints, less)) (λ less. omega (arith, ints, less))

turned_le : (a b : ℤ) → int_le a (neg_ℤ b) ≡ int_le b (neg_ℤ a)
turned_le a b = le_both a (neg_ℤ b) b (neg_ℤ a) (λ le. omega (arith, ints, le)) (λ le. omega (arith, ints, le))

le_turned : (a b : ℤ) → int_le (neg_ℤ a) b ≡ int_le (neg_ℤ b) a
le_turned a b = le_both (neg_ℤ a) b (neg_ℤ b) a (λ le. omega (arith, ints, le)) (λ le. omega (arith, ints, le))

unit : (n : ℤ) → n *ℤ pos 1 ≡ n
unit n = omega (arith, ints)

-- a number is not between two others
le_by_lt : (below above n : ℤ) → below <ℤ above → (n ≤ℤ below) ⊎ (above ≤ℤ n) → int_le above n ≡ int_lt below n
le_by_lt below above n rises (inl le) =
    let x : int_le above n ≡ false = grind (arith, ints, rises, le) in let y : int_lt below n ≡ false = grind (arith, ints, le) in x ∙ sym y
le_by_lt below above n rises (inr le) =
    let x : int_le above n ≡ true = grind (arith, ints, le) in let y : int_lt below n ≡ true = grind (arith, ints, rises, le) in x ∙ sym y

lt_by_le : (below above n : ℤ) → below <ℤ above → (n ≤ℤ below) ⊎ (above ≤ℤ n) → int_lt n above ≡ int_le n below
lt_by_le below above n rises (inl le) =
    let x : int_lt n above ≡ true = grind (arith, ints, rises, le) in let y : int_le n below ≡ true = grind (arith, ints, le) in x ∙ sym y
lt_by_le below above n rises (inr le) =
    let x : int_lt n above ≡ false = grind (arith, ints, le) in let y : int_le n below ≡ false = grind (arith, ints, rises, le) in x ∙ sym y

le_is : (a b : ℤ) → a ≤ℤ b → int_le a b ≡ true
le_is a b le = grind (arith, ints, le)

lt_is_not : (a b : ℤ) → b ≤ℤ a → int_lt a b ≡ false
lt_is_not a b le = grind (arith, ints, le)

-- ---- gains and caps that agree

map_agree : {X Y : Type 0} (f g : X → Y) (xs : List X) → All (λ x. f x ≡ g x) xs → map f xs ≡ map g xs
map_agree f g [] agree = refl
map_agree f g (x ∷ xs) agree = ap₂ (λ y ys. y ∷ ys) (All-head (λ x. f x ≡ g x) x xs agree) (map_agree f g xs (All-tail (λ x. f x ≡ g x) x xs agree))

-- only chosen cells are looked at
if_chosen : {Y : Type 0} (chosen p q : Bool) (yes_is no_is : Y) → (chosen ≡ true → p ≡ q) → cond (chosen && p) yes_is no_is ≡ cond (chosen && q) yes_is no_is
if_chosen true p q yes_is no_is same = ap (λ b. cond b yes_is no_is) (same refl)
if_chosen false p q yes_is no_is same = refl

all_chosen : (chosen p : Bool) → (chosen ≡ true → p ≡ true) → cond (chosen && p) (pos 1) (pos 0) ≡ cond chosen (pos 1) (pos 0)
all_chosen true p same = ap (λ b. cond b (pos 1) (pos 0)) (same refl)
all_chosen false p same = refl

module _ (s : Setting) where
  abbrev Agree : (Class → Bool) → (Class → Bool) → Type 0
  Agree p q = All (λ (class : Class). class.chosen ≡ true → p class ≡ q class) (cells s)

  counting_same : (p q : Class → Bool) → Agree p q → program_for s (counting p) ≡ program_for s (counting q)
  counting_same p q agree =
      ap (λ gains. record (program_for s (counting p)) { gain = gains })
      (map_agree (counting p) (counting q) (cells s) (λ k d inside. let class = get_or (cells s) k d in if_chosen class.chosen (p class) (q class) (pos 1) (pos 0) (agree k d inside)))

  without_same : (p q : Class → Bool) → Agree p q → program_without s p ≡ program_without s q
  without_same p q agree =
      ap (λ caps. record (program_for s (on_chosen one)) { cap = caps })
      (map_agree (open_cap s p) (open_cap s q) (cells s) (λ k d inside. let class = get_or (cells s) k d in if_chosen class.chosen (p class) (q class) 0 (cap_of s.question.constraints class) (agree k d inside)))

  each_same : (p q : Class → Bool) → ((class : Class) → p class ≡ q class) → Agree p q
  each_same p q same k d inside chosen = same (get_or (cells s) k d)

  -- ---- neighbours

  pub reach_neighbours : (e : Extreme) (below above : ℤ) → AreApart s e below above → below <ℤ above → reaches s e above ≡ program_for s (counting (λ class. int_lt below (key_of s e class)))
  reach_neighbours e below above apart rises =
      counting_same (λ class. int_le above (key_of s e class)) (λ class. int_lt below (key_of s e class))
      (λ k d inside chosen. le_by_lt below above (key_of s e (get_or (cells s) k d)) rises (apart k d inside chosen))

  pub avoid_neighbours : (e : Extreme) (below above : ℤ) → AreApart s e below above → below <ℤ above → avoids s e above ≡ program_without s (λ class. int_le (key_of s e class) below)
  avoid_neighbours e below above apart rises =
      without_same (λ class. int_lt (key_of s e class) above) (λ class. int_le (key_of s e class) below)
      (λ k d inside chosen. lt_by_le below above (key_of s e (get_or (cells s) k d)) rises (apart k d inside chosen))

  -- ---- the last rung

  pub reach_all : (e : Extreme) (last : ℤ) → AllFrom s e last → reaches s e last ≡ program_for s (on_chosen one)
  reach_all e last all =
      ap (λ gains. record (program_for s (on_chosen one)) { gain = gains })
      (map_agree (counting (λ class. int_le last (key_of s e class))) (on_chosen one) (cells s)
      (λ k d inside. let class = get_or (cells s) k d in all_chosen class.chosen (int_le last (key_of s e class)) (λ chosen. le_is last (key_of s e class) (all k d inside chosen))))

  pub avoid_all : (e : Extreme) (last : ℤ) → AllFrom s e last → avoids s e last ≡ program_for s (on_chosen one)
  avoid_all e last all =
      ap (λ caps. record (program_for s (on_chosen one)) { cap = caps })
      (map_agree (open_cap s (λ class. int_lt (key_of s e class) last)) (cap_of s.question.constraints) (cells s)
      (λ k d inside. let class = get_or (cells s) k d in none_closed class.chosen (int_lt (key_of s e class) last) (cap_of s.question.constraints class) (λ chosen. lt_is_not (key_of s e class) last (all k d inside chosen))))
    where
      none_closed : (chosen closed : Bool) (cap : ℕ) → (chosen ≡ true → closed ≡ false) → cond (chosen && closed) 0 cap ≡ cap
      none_closed true closed cap not_closed = ap (λ b. cond b 0 cap) (not_closed refl)
      none_closed false closed cap not_closed = refl

  -- ---- the programs of the statements

  pub low_min_is : (key : ℤ) → low_program s Min (whole (neg_ℤ key)) ≡ program_for s (counting (λ class. int_lt key (key_of s Low class)))
  low_min_is key =
      counting_same (λ class. int_lt (low_in s class *ℤ pos 1) (neg_ℤ key)) (λ class. int_lt key (neg_ℤ (low_in s class)))
      (each_same (λ class. int_lt (low_in s class *ℤ pos 1) (neg_ℤ key)) (λ class. int_lt key (neg_ℤ (low_in s class)))
      (λ class. ap (λ n. int_lt n (neg_ℤ key)) (unit (low_in s class)) ∙ turned_lt (low_in s class) key))

  pub high_max_is : (key : ℤ) → high_program s Max (whole key) ≡ program_for s (counting (λ class. int_lt key (key_of s High class)))
  high_max_is key =
      counting_same (λ class. int_lt key (high_in s class *ℤ pos 1)) (λ class. int_lt key (high_in s class))
      (each_same (λ class. int_lt key (high_in s class *ℤ pos 1)) (λ class. int_lt key (high_in s class)) (λ class. ap (int_lt key) (unit (high_in s class))))

  pub high_min_is : (key : ℤ) → high_program s Min (whole key) ≡ program_without s (λ class. int_le (key_of s High class) key)
  high_min_is key =
      without_same (λ class. int_le (high_in s class *ℤ pos 1) key) (λ class. int_le (high_in s class) key)
      (each_same (λ class. int_le (high_in s class *ℤ pos 1) key) (λ class. int_le (high_in s class) key) (λ class. ap (λ n. int_le n key) (unit (high_in s class))))

  pub low_max_is : (key : ℤ) → low_program s Max (whole (neg_ℤ key)) ≡ program_without s (λ class. int_le (key_of s Low class) key)
  low_max_is key =
      without_same (λ class. int_le (neg_ℤ key) (low_in s class *ℤ pos 1)) (λ class. int_le (neg_ℤ (low_in s class)) key)
      (each_same (λ class. int_le (neg_ℤ key) (low_in s class *ℤ pos 1)) (λ class. int_le (neg_ℤ (low_in s class)) key)
      (λ class. ap (int_le (neg_ℤ key)) (unit (low_in s class)) ∙ le_turned key (low_in s class)))

  -- ---- the programs of the licences

  pub upto_low_is : (key : ℤ) → program_for s (counting (upto_low s (neg_ℤ key))) ≡ reaches s Low key
  upto_low_is key =
      counting_same (upto_low s (neg_ℤ key)) (λ class. int_le key (neg_ℤ (low_in s class)))
      (each_same (upto_low s (neg_ℤ key)) (λ class. int_le key (neg_ℤ (low_in s class))) (λ class. turned_le (low_in s class) key))

  pub from_high_is : (key : ℤ) → program_for s (counting (from_high s key)) ≡ reaches s High key
  from_high_is key = refl

  pub under_high_is : (key : ℤ) → program_without s (under_high s key) ≡ avoids s High key
  under_high_is key = refl

  pub over_low_is : (key : ℤ) → program_without s (over_low s (neg_ℤ key)) ≡ avoids s Low key
  over_low_is key =
      without_same (over_low s (neg_ℤ key)) (λ class. int_lt (neg_ℤ (low_in s class)) key)
      (each_same (over_low s (neg_ℤ key)) (λ class. int_lt (neg_ℤ (low_in s class)) key) (λ class. lt_turned key (low_in s class)))
