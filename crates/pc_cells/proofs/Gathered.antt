-- The cells of the leaves so far, and what one more leaf adds to them.
use Rattle.std.proofs.Common.{◌≡◌, ℕ, suc, ◌+◌, ◌||◌, cond, not, if◌then◌else◌, Bool, true, false, List, [], ◌∷◌, ◌++◌, map, filter, get_or, All, AllPairs, refl, sym, ap, subst, ◌∙◌, true≢false, arith}
use Rattle.std.specs.List.{list_any, position_or_len}
use Rattle.std.proofs.lemmas.Bool.{false_from_ne_true}
use Rattle.std.proofs.lemmas.List.{map-append}
use Rattle.std.proofs.lemmas.List.Elements.{All-head, All-tail}
use Rattle.std.proofs.lemmas.List.Folds.{Any-from_list_any, list_any-from_Any}
use Rattle.pc_model.specs.declared.region.Region.{Region}
use Rattle.pc_model.specs.declared.tree.Leaf.{Leaf}
use Rattle.pc_model.specs.declared.tree.LeafMark.TheVariants as marks
use Rattle.pc_model.specs.Cells.{Class, is_class, is_mark_of, is_leaf_of, classes_of, boxes_of}
use Rattle.pc_model.proofs.Lists.{AllPairs-head, AllPairs-tail}
use Rattle.pc_cells_laws.proofs.Classes.{is_class-same, is_class-itself, is_class-turned}
use Rattle.pc_cells_laws.proofs.Cells.{classes_of-listed, classes-append, classes-append_barren, boxes-append_same, boxes-append_other, classes_of-differ}
use Rattle.pc_cells.specs.declared.cells.Cell.{Cell}
use Rattle.pc_cells.specs.contracts.gather.ClassKeyPartialEq.TheImpl as key_eq
use Rattle.pc_cells.specs.declared.gather.ClassKey.{ClassKey}
use Rattle.pc_cells.specs.declared.gather.Gathering.{Gathering}
use Rattle.pc_cells.specs.Found.{cell_of, cells_of}
use Rattle.pc_cells.specs.Gathering.{class_of_key, IsGatheredFrom, with_leaf_at}

-- ---- a class and its key

-- keys are equal where their classes are
abbrev is_key : ClassKey → ClassKey → Bool
is_key a b = key_eq.eq-value.it a b

is_key-is_class : (a b : ClassKey) → is_key a b ≡ is_class (class_of_key a) (class_of_key b)
is_key-is_class a b = by_sides a.mask b.mask a.chosen b.chosen
  where
    by_sides : (m n : ℕ) (x y : Bool) → is_key (record { mask = m; chosen = x }) (record { mask = n; chosen = y }) ≡ is_class (record { mask = m; chosen = x }) (record { mask = n; chosen = y })
    by_sides m n true true = refl
    by_sides m n true false = refl
    by_sides m n false true = refl
    by_sides m n false false = refl

listed_key : (key : ClassKey) (keys : List ClassKey) → list_any (is_key key) keys ≡ list_any (is_class (class_of_key key)) (map class_of_key keys)
listed_key key [] = refl
listed_key key (x ∷ keys) = rw (is_key-is_class key x, listed_key key keys) refl

place_of_key : (key : ClassKey) (keys : List ClassKey) → position_or_len (is_key key) keys ≡ position_or_len (is_class (class_of_key key)) (map class_of_key keys)
place_of_key key [] = refl
place_of_key key (x ∷ keys) = rw (is_key-is_class key x, place_of_key key keys) refl

-- the place of a class that stands at the end
place_at_end : (class : Class) (classes : List Class) → list_any (is_class class) classes ≡ false → position_or_len (is_class class) classes ≡ position_or_len (is_class class) (classes ++ class ∷ [])
place_at_end class [] none = rw (is_class-itself class) refl
place_at_end class (c ∷ classes) none = by_test (is_class class c) refl none (place_at_end class classes)
  where
    by_test : (same : Bool) → is_class class c ≡ same → (same || list_any (is_class class) classes) ≡ false → (list_any (is_class class) classes ≡ false → position_or_len (is_class class) classes ≡ position_or_len (is_class class) (classes ++ class ∷ [])) →
        cond (not same) (1 + position_or_len (is_class class) classes) 0 ≡ cond (not same) (1 + position_or_len (is_class class) (classes ++ class ∷ [])) 0
    by_test true e listed later = refl
    by_test false e listed later = ap (λ n. 1 + n) (later listed)

with_leaf_after : (cell : Cell) (cells : List Cell) (place : ℕ) (region : Region) → with_leaf_at (cell ∷ cells) (1 + place) region ≡ cell ∷ with_leaf_at cells place region
with_leaf_after cell cells place region = let next : 1 + place ≡ suc place = omega arith in rw next refl

-- ---- one more leaf of a class

module _ (leaves : List Leaf) (region : Region) (class : Class) where
  abbrev last : Leaf
  last = record { region = region; mark = marks.Class class.mask class.chosen }

  abbrev more : List Leaf
  more = leaves ++ last ∷ []

  abbrev is_listed : List Class → Bool
  is_listed classes = list_any (is_class class) classes

  -- no leaf so far is of a class that is not listed
  no_boxes : is_listed (classes_of leaves) ≡ false → boxes_of leaves class ≡ []
  no_boxes none = no_leaf leaves (false_from_ne_true (list_any (is_leaf_of class) leaves) (λ some. true≢false (sym (listed some) ∙ none)))
    where
      no_leaf : (others : List Leaf) → list_any (is_leaf_of class) others ≡ false → boxes_of others class ≡ []
      no_leaf [] fails = refl
      no_leaf (leaf ∷ others) fails = by_test (is_leaf_of class leaf) fails (no_leaf others)
        where
          by_test : (test : Bool) → (test || list_any (is_leaf_of class) others) ≡ false → (list_any (is_leaf_of class) others ≡ false → boxes_of others class ≡ []) →
              map (λ (l : Leaf). l.region) (cond test (leaf ∷ filter (is_leaf_of class) others) (filter (is_leaf_of class) others)) ≡ []
          by_test true e later = absurd (true≢false e)
          by_test false e later = later e

      listed : list_any (is_leaf_of class) leaves ≡ true → is_listed (classes_of leaves) ≡ true
      listed some =
          let found = classes_of-listed leaves class (Any-from_list_any (is_leaf_of class) leaves some) in
          list_any-from_Any (is_class class) (classes_of leaves) (found.0, class, found.1, found.2, is_class-itself class)

  -- the cells after a new class is listed
  with_empty : (listed : Bool) → is_listed (classes_of leaves) ≡ listed →
      (if not listed then cells_of leaves ++ record { mask = class.mask; chosen = class.chosen; leaves = [] } ∷ [] else cells_of leaves) ≡
      map (cell_of leaves) (cond listed (classes_of leaves) (classes_of leaves ++ class ∷ []))
  with_empty true e = refl
  with_empty false e = ap (λ boxes. cells_of leaves ++ record { mask = class.mask; chosen = class.chosen; leaves = boxes } ∷ []) (sym (no_boxes e)) ∙ sym (map-append (cell_of leaves) (classes_of leaves) (class ∷ []))

  -- the cells of other classes stay
  other_cell : (c : Class) → is_class c class ≡ false → cell_of leaves c ≡ cell_of more c
  other_cell c other = ap (λ boxes. record { mask = c.mask; chosen = c.chosen; leaves = boxes }) (sym (boxes-append_other leaves last c other))

  other_cells : (classes : List Class) → All (λ c. is_class c class ≡ false) classes → map (cell_of leaves) classes ≡ map (cell_of more) classes
  other_cells [] others = refl
  other_cells (c ∷ classes) others =
      rw (other_cell c (All-head (λ x. is_class x class ≡ false) c classes others), other_cells classes (All-tail (λ x. is_class x class ≡ false) c classes others)) refl

  own_cell : (c : Class) → is_class c class ≡ true → record { mask = c.mask; chosen = c.chosen; leaves = boxes_of leaves c ++ region ∷ [] } ≡ cell_of more c
  own_cell c same = ap (λ boxes. record { mask = c.mask; chosen = c.chosen; leaves = boxes }) (sym (boxes-append_same leaves last c same))

  differ_from : (c : Class) (classes : List Class) → is_class class c ≡ true → All (λ x. is_class c x ≡ false) classes → All (λ x. is_class x class ≡ false) classes
  differ_from c classes same apart k d inside =
      false_from_ne_true (is_class (get_or classes k d) class) (λ also. true≢false (sym (subst (λ (x : Class). is_class x (get_or classes k d) ≡ true) (is_class-same class c same) (is_class-turned (get_or classes k d) class also)) ∙ apart k d inside))

  at_place : (classes : List Class) → is_listed classes ≡ true → AllPairs (λ (a b : Class). is_class a b ≡ false) classes →
      with_leaf_at (map (cell_of leaves) classes) (position_or_len (is_class class) classes) region ≡ map (cell_of more) classes
  at_place [] listed apart = absurd (true≢false (sym listed))
  at_place (c ∷ classes) listed apart = by_test (is_class class c) refl listed (λ later. at_place classes later (AllPairs-tail (λ (a b : Class). is_class a b ≡ false) c classes apart))
    where
      by_test : (same : Bool) → is_class class c ≡ same → (same || is_listed classes) ≡ true →
          (is_listed classes ≡ true → with_leaf_at (map (cell_of leaves) classes) (position_or_len (is_class class) classes) region ≡ map (cell_of more) classes) →
          with_leaf_at (cell_of leaves c ∷ map (cell_of leaves) classes) (cond (not same) (1 + position_or_len (is_class class) classes) 0) region ≡ cell_of more c ∷ map (cell_of more) classes
      by_test true e found later =
          let rest = other_cells classes (differ_from c classes e (AllPairs-head (λ (a b : Class). is_class a b ≡ false) c classes apart)) in
          rw (own_cell c (is_class-turned class c e), rest) refl
      by_test false e found later =
          let turned = false_from_ne_true (is_class c class) (λ also. true≢false (sym (is_class-turned c class also) ∙ e)) in
          with_leaf_after (cell_of leaves c) (map (cell_of leaves) classes) (position_or_len (is_class class) classes) region ∙ rw (← other_cell c turned, later found) refl

  -- a class stands among the classes with it
  listed_with : (listed : Bool) → is_listed (classes_of leaves) ≡ listed → is_listed (cond listed (classes_of leaves) (classes_of leaves ++ class ∷ [])) ≡ true
  listed_with true e = e
  listed_with false e = at_end (classes_of leaves)
    where
      or_true : (test : Bool) → (test || true) ≡ true
      or_true true = refl
      or_true false = refl

      at_end : (classes : List Class) → is_listed (classes ++ class ∷ []) ≡ true
      at_end [] = rw (is_class-itself class) refl
      at_end (c ∷ classes) = rw (at_end classes) (or_true (is_class class c))

  place_with : (listed : Bool) → is_listed (classes_of leaves) ≡ listed → position_or_len (is_class class) (classes_of leaves) ≡ position_or_len (is_class class) (cond listed (classes_of leaves) (classes_of leaves ++ class ∷ []))
  place_with true e = refl
  place_with false e = place_at_end class (classes_of leaves) e

  -- the cells with the region in the cell of its class
  more_cells : with_leaf_at (if not (is_listed (classes_of leaves)) then cells_of leaves ++ record { mask = class.mask; chosen = class.chosen; leaves = [] } ∷ [] else cells_of leaves) (position_or_len (is_class class) (classes_of leaves)) region ≡ cells_of more
  more_cells =
      let test = is_listed (classes_of leaves) in
      let known : classes_of more ≡ cond test (classes_of leaves) (classes_of leaves ++ class ∷ []) = classes-append leaves last in
      rw (with_empty test refl, place_with test refl, known)
      (at_place (cond test (classes_of leaves) (classes_of leaves ++ class ∷ [])) (listed_with test refl) (subst (AllPairs (λ (a b : Class). is_class a b ≡ false)) known (classes_of-differ more)))

  more_classes : classes_of more ≡ (if is_listed (classes_of leaves) then classes_of leaves else classes_of leaves ++ class ∷ [])
  more_classes = classes-append leaves last

-- ---- what is gathered

module _ (gathering new : Gathering) (key : ClassKey) (region : Region) (is_new : Bool) (place : ℕ) (cells : List Cell)
    (keys_are : new.classes.keys ≡ (if list_any (is_key key) gathering.classes.keys then gathering.classes.keys else gathering.classes.keys ++ key ∷ []))
    (added : is_new ≡ not (list_any (is_key key) gathering.classes.keys))
    (index : place ≡ position_or_len (is_key key) gathering.classes.keys)
    (cells_are : cells ≡ (if is_new then gathering.cells.items ++ record { mask = key.mask; chosen = key.chosen; leaves = [] } ∷ [] else gathering.cells.items))
    (new_are : new.cells.items ≡ with_leaf_at cells place region)
    (leaves : List Leaf) (gathered : IsGatheredFrom leaves gathering) where
  listed_as : list_any (is_key key) gathering.classes.keys ≡ list_any (is_class (class_of_key key)) (classes_of leaves)
  listed_as = listed_key key gathering.classes.keys ∙ ap (list_any (is_class (class_of_key key))) gathered.classes

  new_keys : (listed : Bool) → map class_of_key (if listed then gathering.classes.keys else gathering.classes.keys ++ key ∷ []) ≡ (if listed then classes_of leaves else classes_of leaves ++ class_of_key key ∷ [])
  new_keys true = gathered.classes
  new_keys false = map-append class_of_key gathering.classes.keys (key ∷ []) ∙ ap (λ (classes : List Class). classes ++ class_of_key key ∷ []) gathered.classes

  pub gathered_more : IsGatheredFrom (leaves ++ record { region = region; mark = marks.Class key.mask key.chosen } ∷ []) new
  gathered_more = record {
    classes = ap (map class_of_key) keys_are ∙ new_keys (list_any (is_key key) gathering.classes.keys)
        ∙ ap (λ test. if test then classes_of leaves else classes_of leaves ++ class_of_key key ∷ []) listed_as ∙ sym (more_classes leaves region (class_of_key key));
    cells = new_are
        ∙ rw (cells_are, added, index, gathered.cells, listed_as, place_of_key key gathering.classes.keys, gathered.classes) (more_cells leaves region (class_of_key key));
  }

-- a leaf without rows that can be lost changes nothing
pub gathered_barren : (gathering : Gathering) (leaves : List Leaf) (leaf : Leaf) → leaf.mark ≡ marks.Barren → IsGatheredFrom leaves gathering → IsGatheredFrom (leaves ++ leaf ∷ []) gathering
gathered_barren gathering leaves leaf barren gathered =
    let classes = classes-append_barren leaves leaf barren in
    let others : (class : Class) → boxes_of (leaves ++ leaf ∷ []) class ≡ boxes_of leaves class = λ class. boxes-append_other leaves leaf class (ap (is_mark_of class) barren) in
    record { classes = gathered.classes ∙ sym classes; cells = gathered.cells ∙ same_cells (classes_of leaves) others ∙ ap (map (cell_of (leaves ++ leaf ∷ []))) (sym classes) }
  where
    same_cells : (classes : List Class) → ((class : Class) → boxes_of (leaves ++ leaf ∷ []) class ≡ boxes_of leaves class) → map (cell_of leaves) classes ≡ map (cell_of (leaves ++ leaf ∷ [])) classes
    same_cells [] others = refl
    same_cells (c ∷ classes) others = rw (others c, same_cells classes others) refl
