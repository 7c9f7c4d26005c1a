-- Where the fold of a group stands, and the folds of several groups with one row more.
use Rattle.std.proofs.Common.{◌≡◌, ◌≢◌, ◌∙◌, ℕ, suc, ◌+◌, ◌<◌, ◌≤◌, Bool, true, false, ℤ, pos, int_lt, nat_abs, ◌<ℤ◌, inl, inr, List, [], ◌∷◌, length, get_or, replicate, Option, Some, None, refl, ap, sym, subst, arith, All}
use Rattle.std.specs.Prelude.{◌⊎◌, AllPairs, slice_set}
use Rattle.std.specs.List.{AllZip}
use Rattle.std.proofs.lemmas.Bool.{cases_order}
use Rattle.std.proofs.lemmas.Int.{ints}
use Rattle.std.proofs.lemmas.List.{length-set, length-replicate, get_or-replicate, get_or-set_same, get_or-set_other}
use Rattle.pc_model.specs.declared.row.Row.{Row}
use Rattle.pc_model.specs.declared.query.Query.{Query}
use Rattle.pc_model.specs.declared.query.Folded.{Folded}
use Rattle.pc_model.specs.Aggregate.{number_at}
use Rattle.pc_model.specs.Folds.{IsFold}
use Rattle.pc_model.specs.Membership.{is_in, is_between}
use Rattle.pc_model.proofs.Between.{between_parts, between_from}
use Rattle.pc_rows.specs.Folds.{IsWithRow, IsSmall}
use Rattle.pc_rows.specs.Groups.{name_limit, name_at, IsSlotAt, AreSlotsBelow, AreSlotsOf, IsSlotFor, keeps, IsGroupOf}
use Rattle.pc_rows.specs.Stored.{row_at}
use Rattle.pc_rows.proofs.Folding.{IsFoldedTo, fold_none, fold_yes, fold_no, fold_all}

-- ---- slots

-- no name has a slot yet
pub no_slots : (names : List ℕ) (slots : List (Option ℕ)) → slots ≡ replicate name_limit None → AreSlotsBelow names 0 slots
no_slots names slots e = record {
  long = rw e (length-replicate {A = Option ℕ} name_limit None);
  each = λ place inside. let none : get_or slots place None ≡ None = rw e (get_or-replicate name_limit place None None inside) in rw none (λ i short. absurd (omega arith));
}

module _ (names : List ℕ) (index : ℕ) (slots : List (Option ℕ)) (small : name_at names index < name_limit) (before : AreSlotsBelow names index slots) where
  still_none : (place : ℕ) → place ≢ name_at names index → IsSlotAt names index place None → (i : ℕ) → i < index + 1 → (i ≡ index) ⊎ ((i < index) ⊎ (index < i)) → name_at names i ≢ place
  still_none place differs none i lt (inl same) e = differs (sym e ∙ ap (name_at names) same)
  still_none place differs none i lt (inr (inl below)) e = none i below e
  still_none place differs none i lt (inr (inr above)) e = absurd (omega (arith, above, lt))

  other : (place : ℕ) → place ≢ name_at names index → (slot : Option ℕ) → IsSlotAt names index place slot → IsSlotAt names (index + 1) place slot
  other place differs None none = λ i lt. still_none place differs none i lt (cases_order i index)
  other place differs (Some at) found = (omega (arith, found.0), found.1)

  by_place : (place : ℕ) → place < name_limit → (place ≡ name_at names index) ⊎ ((place < name_at names index) ⊎ (name_at names index < place)) →
      IsSlotAt names (index + 1) place (get_or (slice_set slots (name_at names index) (Some index)) place None)
  by_place place lt (inl e) = rw (e, get_or-set_same slots (name_at names index) (Some index) None (omega (arith, small, before.long))) (omega arith, refl)
  by_place place lt (inr order) =
      let differs : place ≢ name_at names index = not_same order in
      rw (get_or-set_other slots (name_at names index) place (Some index) None differs) (other place differs _ (before.each place lt))
    where
      not_same : ((place < name_at names index) ⊎ (name_at names index < place)) → place ≢ name_at names index
      not_same (inl below) e = absurd (omega (arith, below, e))
      not_same (inr above) e = absurd (omega (arith, above, e))

  pub one_slot : AreSlotsBelow names (index + 1) (slice_set slots (name_at names index) (Some index))
  one_slot = record {
    long = length-set slots (name_at names index) (Some index) ∙ before.long;
    each = λ place lt. by_place place lt (cases_order place (name_at names index));
  }

pub all_slots : (names : List ℕ) (index : ℕ) (slots : List (Option ℕ)) → index ≡ length names → AreSlotsBelow names index slots → AreSlotsOf names slots
all_slots names index slots e before = rw e at before

-- ---- the slot of a number

module _ (names : List ℕ) (slots : List (Option ℕ)) (small : All (λ (name : ℕ). name < name_limit) names) (held : AreSlotsOf names slots) where
  -- a place past the slots is no name's
  pub slot_past : (place : ℕ) → length slots ≤ place → IsSlotFor names (pos place) None
  slot_past place past i lt e =
      let name : name_at names i < name_limit = small i 0 lt in
      let same : name_at names i ≡ place = omega (arith, ints, e) in
      absurd (omega (arith, name, same, past, held.long))

  pub slot_held : (place : ℕ) → place < length slots → IsSlotFor names (pos place) (get_or slots place None)
  slot_held place inside = by_slot _ (held.each place (omega (arith, inside, held.long)))
    where
      by_slot : (slot : Option ℕ) → IsSlotAt names (length names) place slot → IsSlotFor names (pos place) slot
      by_slot None none = λ i lt e. none i lt (omega (arith, ints, e))
      by_slot (Some index) some = (some.0, ap pos some.1)

  pub slot_some : (number : ℤ) (slot : Option ℕ) → int_lt number (pos 0) ≡ false → nat_abs number < length slots → slot ≡ get_or slots (nat_abs number) None → IsSlotFor names number slot
  slot_some number slot above inside is =
      let whole : number ≡ pos (nat_abs number) = grind (arith, ints, above) in
      subst (λ found. IsSlotFor names found slot) (sym whole) (rw is (slot_held (nat_abs number) inside))

-- a number below 0 is no name's place
pub slot_below : (names : List ℕ) (number : ℤ) → number <ℤ pos 0 → IsSlotFor names number None
slot_below names number below i lt e = absurd (omega (arith, ints, below, e))

-- ---- the group of a row

-- a row of the area whose number in the group column is the place of that name, or of none
module _ (query : Query) (names : List ℕ) (row : Row) (column : ℕ) (grouped : query.group ≡ Some column) (chosen : is_in query.chosen row ≡ true) (differ : AllPairs (λ (a b : ℕ). a ≢ b) names) where
  in_group : (name : ℕ) → pos name ≡ number_at row column → keeps query (Some name) row ≡ true
  in_group name e = rw (chosen, grouped, ← e) (between_from (pos name) (pos name) (pos name) (omega (arith, ints)) (omega (arith, ints)))

  not_in_group : (name : ℕ) → pos name ≢ number_at row column → keeps query (Some name) row ≡ false
  not_in_group name differs = rw (chosen, grouped) (by_test (is_between (pos name) (pos name) (number_at row column)) refl)
    where
      by_test : (test : Bool) → is_between (pos name) (pos name) (number_at row column) ≡ test → test ≡ false
      by_test false e = refl
      by_test true e = let both = between_parts (pos name) (pos name) (number_at row column) e in absurd (differs (omega (arith, ints, both.0, both.1)))

  pub group_from_slot : (slot : Option ℕ) → IsSlotFor names (number_at row column) slot → IsGroupOf query names row slot
  group_from_slot None none = λ i lt. not_in_group (name_at names i) (none i lt)
  group_from_slot (Some index) some = (some.0, in_group (name_at names index) some.1, λ i lt differs. not_in_group (name_at names i) (other_name i lt differs))
    where
      two_names : (i : ℕ) → i < length names → (i ≡ index) ⊎ ((i < index) ⊎ (index < i)) → i ≢ index → name_at names i ≢ name_at names index
      two_names i lt (inl same) differs e = absurd (differs same)
      two_names i lt (inr (inl below)) differs e = differ i index 0 below some.0 e
      two_names i lt (inr (inr above)) differs e = differ index i 0 above lt (sym e)

      other_name : (i : ℕ) → i < length names → i ≢ index → pos (name_at names i) ≢ number_at row column
      other_name i lt differs e = two_names i lt (cases_order i index) differs (omega (arith, ints, e, some.1))

-- a row outside the area is in no group
pub group_outside : (query : Query) (names : List ℕ) (row : Row) → is_in query.chosen row ≡ false → IsGroupOf query names row None
group_outside query names row outside = λ i lt. rw outside refl

-- ---- the folds of groups

pub record AreFoldedTo (query : Query) (names : List ℕ) (rows : List Row) (place : ℕ) (folds : List Folded) : Type 0 where
  pub long : length folds ≡ length names
  pub each : (i : ℕ) (d : Folded) → i < length names → IsFoldedTo query (Some (name_at names i)) rows place (get_or folds i d)

pub folds_none : (query : Query) (names : List ℕ) (rows : List Row) (folds : List Folded) → folds ≡ replicate (length names) (record { count = 0; sum = pos 0; least = None; greatest = None }) →
    AreFoldedTo query names rows 0 folds
folds_none query names rows folds e = record {
  long = rw e (length-replicate (length names) _);
  each = λ i d lt. rw (e, get_or-replicate (length names) i (record { count = 0; sum = pos 0; least = None; greatest = None }) d lt) (fold_none query (Some (name_at names i)) rows);
}

module _ (query : Query) (names : List ℕ) (rows : List Row) (place : ℕ) (folds : List Folded) (below : place < length rows) (before : AreFoldedTo query names rows place folds) where
  pub folds_stay : (slot : Option ℕ) → IsGroupOf query names (row_at rows place) slot → ((index : ℕ) → slot ≡ Some index → ⊥) → AreFoldedTo query names rows (place + 1) folds
  folds_stay None none other = record {
    long = before.long;
    each = λ i d lt. fold_no query (Some (name_at names i)) rows place (get_or folds i d) below (before.each i d lt) (none i lt);
  }
  folds_stay (Some index) some other = absurd (other index refl)

  module _ (index : ℕ) (more : Folded) (found : IsGroupOf query names (row_at rows place) (Some index)) where
    pub folds_more : (old : Folded) → old ≡ get_or folds index old → IsWithRow query.column old (row_at rows place) more → IsSmall more → AreFoldedTo query names rows (place + 1) (slice_set folds index more)
    folds_more old old_is with small = record {
      long = length-set folds index more ∙ before.long;
      each = λ i d lt. by_index i d lt (cases_order i index);
    }
      where
        there : index < length folds
        there = omega (arith, found.0, before.long)

        stays : (i : ℕ) (d : Folded) → i < length names → i ≢ index → IsFoldedTo query (Some (name_at names i)) rows (place + 1) (get_or (slice_set folds index more) i d)
        stays i d lt differs =
            rw (get_or-set_other folds index i more d differs) (fold_no query (Some (name_at names i)) rows place (get_or folds i d) below (before.each i d lt) (found.2 i lt differs))

        by_index : (i : ℕ) (d : Folded) → i < length names → (i ≡ index) ⊎ ((i < index) ⊎ (index < i)) → IsFoldedTo query (Some (name_at names i)) rows (place + 1) (get_or (slice_set folds index more) i d)
        by_index i d lt (inl e) =
            let was : IsFoldedTo query (Some (name_at names index)) rows place old = subst (IsFoldedTo query (Some (name_at names index)) rows place) (sym old_is) (before.each index old found.0) in
            rw (e, get_or-set_same folds index more d there) (fold_yes query (Some (name_at names index)) rows place old more below was found.1 with small)
        by_index i d lt (inr (inl less)) = stays i d lt (λ e. absurd (omega (arith, less, e)))
        by_index i d lt (inr (inr above)) = stays i d lt (λ e. absurd (omega (arith, above, e)))

pub folds_all : (query : Query) (names : List ℕ) (rows : List Row) (place : ℕ) (folds : List Folded) → length rows ≤ place → AreFoldedTo query names rows place folds →
    AllZip (λ (name : ℕ) (folded : Folded). IsFold query (Some name) rows folded) names folds
folds_all query names rows place folds past done =
    AllZip-from_places names folds (sym done.long) (λ i d lt. fold_all query (Some (name_at names i)) rows place (get_or folds i d) past (done.each i d lt))
  where
    AllZip-from_places : (names : List ℕ) (folds : List Folded) → length names ≡ length folds → ((i : ℕ) (d : Folded) → i < length names → IsFold query (Some (name_at names i)) rows (get_or folds i d)) →
        AllZip (λ (name : ℕ) (folded : Folded). IsFold query (Some name) rows folded) names folds
    AllZip-from_places [] [] e each = tt
    AllZip-from_places [] (fold ∷ folds) e each = absurd (omega (arith, e))
    AllZip-from_places (name ∷ names) [] e each = absurd (omega (arith, e))
    AllZip-from_places (name ∷ names) (fold ∷ folds) e each = (each 0 fold (omega arith), AllZip-from_places names folds (omega (arith, e)) (λ i d lt. each (suc i) d (omega (arith, lt))))
