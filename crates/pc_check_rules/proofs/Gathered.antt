-- The cells of the leaves so far, and what one more leaf adds to them.
use Rattle.std.proofs.Common.{◌≡◌, ℕ, suc, ◌+◌, ◌<◌, ◌||◌, cond, not, if◌then◌else◌, Bool, true, false, ℤ, pos, List, [], ◌∷◌, ◌++◌, length, map, filter, get_or, All, AllPairs, refl, sym, ap, subst, ◌∙◌, true≢false, arith, fold}
use Rattle.std.specs.Prelude.{slice_set, slice_index_or, unwrap_or}
use Rattle.std.specs.Int.{int_min, int_max}
use Rattle.std.specs.List.{list_any, position_or_len, reduce}
use Rattle.std.proofs.lemmas.Bool.{false_from_ne_true}
use Rattle.std.proofs.lemmas.List.{map-append, get_or_default}
use Rattle.std.proofs.lemmas.List.Elements.{All-nil, All-cons, All-head, All-tail}
use Rattle.std.proofs.lemmas.List.Folds.{Any-from_list_any, list_any-from_Any}
use Rattle.pc_model.specs.declared.region.Region.{Region}
use Rattle.pc_model.specs.declared.tree.Leaf.{Leaf}
use Rattle.pc_model.specs.declared.tree.LeafMark.TheVariants as marks
use Rattle.pc_model.specs.Cells.{Class, is_class, is_mark_of, is_leaf_of, classes_of, boxes_of, low_at, high_at, least_low, greatest_high}
use Rattle.pc_model.proofs.Lists.{AllPairs-head, AllPairs-tail}
use Rattle.pc_cells_laws.proofs.Classes.{is_class-same, is_class-itself, is_class-turned}
use Rattle.pc_cells_laws.proofs.Cells.{classes_of-listed, boxes_of-some, classes-append, classes-append_barren, classes-append_listed, classes-append_new, boxes-append_same, boxes-append_other, classes_of-differ}
use Rattle.pc_check_rules.specs.declared.cells.GatheredCell.{GatheredCell}
use Rattle.pc_check_rules.specs.contracts.cells.ClassKeyPartialEq.TheImpl as key_eq
use Rattle.pc_check_rules.specs.declared.cells.ClassKey.{ClassKey}
use Rattle.pc_check_rules.specs.declared.cells.Gathering.{Gathering}
use Rattle.pc_check_rules.specs.Cells.{class_of_cell, cell_of, cells_from, HasEnds, class_of_key, IsGatheredFrom, cell_of_box, widened, no_cell, with_box}

-- ---- a class and its key

-- keys are equal where their classes are
abbrev is_key : ClassKey → ClassKey → Bool
is_key a b = key_eq.eq-value.it a b

is_key-is_class : (a b : ClassKey) → is_key a b ≡ is_class (class_of_key a) (class_of_key b)
is_key-is_class a b = by_sides a.mask b.mask a.chosen b.chosen
  where
    by_sides : (m n : ℕ) (x y : Bool) → is_key (record { mask = m; chosen = x }) (record { mask = n; chosen = y }) ≡ is_class (record { mask = m; chosen = x }) (record { mask = n; chosen = y })
    by_sides m n true true = refl
    by_sides m n true false = refl
    by_sides m n false true = refl
    by_sides m n false false = refl

listed_key : (key : ClassKey) (keys : List ClassKey) → list_any (is_key key) keys ≡ list_any (is_class (class_of_key key)) (map class_of_key keys)
listed_key key [] = refl
listed_key key (x ∷ keys) = rw (is_key-is_class key x, listed_key key keys) refl

place_of_key : (key : ClassKey) (keys : List ClassKey) → position_or_len (is_key key) keys ≡ position_or_len (is_class (class_of_key key)) (map class_of_key keys)
place_of_key key [] = refl
place_of_key key (x ∷ keys) = rw (is_key-is_class key x, place_of_key key keys) refl

-- ---- an end with one box more

fold-push : (g : ℤ → ℤ → ℤ) (f : Region → ℤ) (boxes : List Region) (box : Region) (a : ℤ) → fold g a (map f (boxes ++ box ∷ [])) ≡ g (fold g a (map f boxes)) (f box)
fold-push g f [] box a = refl
fold-push g f (b ∷ boxes) box a = fold-push g f boxes box (g a (f b))

end-push : (g : ℤ → ℤ → ℤ) (f : Region → ℤ) (boxes : List Region) (box : Region) → 0 < length boxes
    → unwrap_or (reduce g (map f (boxes ++ box ∷ []))) (pos 0) ≡ g (unwrap_or (reduce g (map f boxes)) (pos 0)) (f box)
end-push g f [] box some = absurd (omega (arith, some))
end-push g f (b ∷ boxes) box some = fold-push g f boxes box (f b)

-- ---- one more leaf of a class

module _ (column : ℕ) (leaves : List Leaf) (region : Region) (class : Class) where
  abbrev last : Leaf
  last = record { region = region; mark = marks.Class class.mask class.chosen }

  abbrev more : List Leaf
  more = leaves ++ last ∷ []

  abbrev is_listed : List Class → Bool
  is_listed classes = list_any (is_class class) classes

  abbrev wider : GatheredCell → GatheredCell
  wider cell = widened cell (cell_of_box column (record { mask = class.mask; chosen = class.chosen }) region)

  abbrev with_wider : List GatheredCell → ℕ → List GatheredCell
  with_wider cells place = slice_set cells place (wider (slice_index_or cells place no_cell))

  abbrev cell_with : Class → List Region → GatheredCell
  cell_with c boxes = record { mask = c.mask; chosen = c.chosen; low = least_low column boxes; high = greatest_high column boxes }

  -- no leaf so far is of a class that is not listed
  no_boxes : is_listed (classes_of leaves) ≡ false → boxes_of leaves class ≡ []
  no_boxes none = no_leaf leaves (false_from_ne_true (list_any (is_leaf_of class) leaves) (λ some. true≢false (sym (listed some) ∙ none)))
    where
      no_leaf : (others : List Leaf) → list_any (is_leaf_of class) others ≡ false → boxes_of others class ≡ []
      no_leaf [] fails = refl
      no_leaf (leaf ∷ others) fails = by_test (is_leaf_of class leaf) fails (no_leaf others)
        where
          by_test : (test : Bool) → (test || list_any (is_leaf_of class) others) ≡ false → (list_any (is_leaf_of class) others ≡ false → boxes_of others class ≡ []) →
              map (λ (l : Leaf). l.region) (cond test (leaf ∷ filter (is_leaf_of class) others) (filter (is_leaf_of class) others)) ≡ []
          by_test true e later = absurd (true≢false e)
          by_test false e later = later e

      listed : list_any (is_leaf_of class) leaves ≡ true → is_listed (classes_of leaves) ≡ true
      listed some =
          let found = classes_of-listed leaves class (Any-from_list_any (is_leaf_of class) leaves some) in
          list_any-from_Any (is_class class) (classes_of leaves) (found.0, class, found.1, found.2, is_class-itself class)

  -- the cells of other classes stay
  other_cell : (c : Class) → is_class c class ≡ false → cell_of column leaves c ≡ cell_of column more c
  other_cell c other = ap (cell_with c) (sym (boxes-append_other leaves last c other))

  other_cells : (classes : List Class) → All (λ c. is_class c class ≡ false) classes → map (cell_of column leaves) classes ≡ map (cell_of column more) classes
  other_cells [] others = refl
  other_cells (c ∷ classes) others =
      rw (other_cell c (All-head (λ x. is_class x class ≡ false) c classes others), other_cells classes (All-tail (λ x. is_class x class ≡ false) c classes others)) refl

  -- .. and that of the class is wider
  own_cell : (c : Class) → is_class c class ≡ true → 0 < length (boxes_of leaves c) → wider (cell_of column leaves c) ≡ cell_of column more c
  own_cell c same some =
      let low = end-push int_min (low_at column) (boxes_of leaves c) region some in
      let high = end-push int_max (high_at column) (boxes_of leaves c) region some in
      by_ends (least_low column (boxes_of leaves c ++ region ∷ [])) (int_min (least_low column (boxes_of leaves c)) (low_at column region)) (greatest_high column (boxes_of leaves c ++ region ∷ []))
      (int_max (greatest_high column (boxes_of leaves c)) (high_at column region)) (sym low) (sym high)
      ∙ ap (cell_with c) (sym (boxes-append_same leaves last c same))
    where
      by_ends : (low wide_low high wide_high : ℤ) → wide_low ≡ low → wide_high ≡ high
          → ◌≡◌ {A = GatheredCell} (record { mask = c.mask; chosen = c.chosen; low = wide_low; high = wide_high }) (record { mask = c.mask; chosen = c.chosen; low = low; high = high })
      by_ends low wide_low high wide_high e d = rw (e, d) refl

  differ_from : (c : Class) (classes : List Class) → is_class class c ≡ true → All (λ x. is_class c x ≡ false) classes → All (λ x. is_class x class ≡ false) classes
  differ_from c classes same apart k d inside =
      false_from_ne_true (is_class (get_or classes k d) class) (λ also. true≢false (sym (subst (λ (x : Class). is_class x (get_or classes k d) ≡ true) (is_class-same class c same) (is_class-turned (get_or classes k d) class also)) ∙ apart k d inside))

  abbrev HasBox : Class → Type 0
  HasBox c = 0 < length (boxes_of leaves c)

  with_wider-after : (cell : GatheredCell) (cells : List GatheredCell) (place : ℕ) → with_wider (cell ∷ cells) (1 + place) ≡ cell ∷ with_wider cells place
  with_wider-after cell cells place = let next : 1 + place ≡ suc place = omega arith in rw next refl

  at_place : (classes : List Class) → is_listed classes ≡ true → AllPairs (λ (a b : Class). is_class a b ≡ false) classes → All HasBox classes →
      with_wider (map (cell_of column leaves) classes) (position_or_len (is_class class) classes) ≡ map (cell_of column more) classes
  at_place [] listed apart boxed = absurd (true≢false (sym listed))
  at_place (c ∷ classes) listed apart boxed =
      by_test (is_class class c) refl listed (λ later. at_place classes later (AllPairs-tail (λ (a b : Class). is_class a b ≡ false) c classes apart) (All-tail HasBox c classes boxed))
    where
      by_test : (same : Bool) → is_class class c ≡ same → (same || is_listed classes) ≡ true →
          (is_listed classes ≡ true → with_wider (map (cell_of column leaves) classes) (position_or_len (is_class class) classes) ≡ map (cell_of column more) classes) →
          with_wider (cell_of column leaves c ∷ map (cell_of column leaves) classes) (cond (not same) (1 + position_or_len (is_class class) classes) 0) ≡ cell_of column more c ∷ map (cell_of column more) classes
      by_test true e found later =
          let rest = other_cells classes (differ_from c classes e (AllPairs-head (λ (a b : Class). is_class a b ≡ false) c classes apart)) in
          let own = own_cell c (is_class-turned class c e) (All-head HasBox c classes boxed) in
          ap (λ (cell : GatheredCell). cell ∷ map (cell_of column leaves) classes) own ∙ ap (λ (cells : List GatheredCell). cell_of column more c ∷ cells) rest
      by_test false e found later =
          let turned = false_from_ne_true (is_class c class) (λ also. true≢false (sym (is_class-turned c class also) ∙ e)) in
          with_wider-after (cell_of column leaves c) (map (cell_of column leaves) classes) (position_or_len (is_class class) classes)
          ∙ ap (λ (cell : GatheredCell). cell ∷ with_wider (map (cell_of column leaves) classes) (position_or_len (is_class class) classes)) (other_cell c turned)
          ∙ ap (λ (cells : List GatheredCell). cell_of column more c ∷ cells) (later found)

  -- the cells where the class is listed, and where it is new
  old_cells : is_listed (classes_of leaves) ≡ true → with_wider (cells_from column leaves) (position_or_len (is_class class) (classes_of leaves)) ≡ cells_from column more
  old_cells listed =
      let known = classes-append_listed leaves last class refl listed in
      at_place (classes_of leaves) listed (classes_of-differ leaves) (λ k d inside. boxes_of-some leaves (get_or (classes_of leaves) k d) (k, inside, get_or_default (classes_of leaves) k (get_or (classes_of leaves) k d) d inside))
      ∙ ap (map (cell_of column more)) (sym known)

  unlisted : (classes : List Class) → is_listed classes ≡ false → All (λ c. is_class c class ≡ false) classes
  unlisted [] none = All-nil (λ c. is_class c class ≡ false)
  unlisted (c ∷ classes) none = by_test (is_class class c) refl none (unlisted classes)
    where
      by_test : (same : Bool) → is_class class c ≡ same → (same || is_listed classes) ≡ false → (is_listed classes ≡ false → All (λ x. is_class x class ≡ false) classes)
          → All (λ x. is_class x class ≡ false) (c ∷ classes)
      by_test true e fails later = absurd (true≢false fails)
      by_test false e fails later =
          All-cons (λ x. is_class x class ≡ false) c classes (false_from_ne_true (is_class c class) (λ also. true≢false (sym (is_class-turned c class also) ∙ e))) (later fails)

  new_cells : is_listed (classes_of leaves) ≡ false
      → cells_from column leaves ++ record { mask = class.mask; chosen = class.chosen; low = low_at column region; high = high_at column region } ∷ [] ≡ cells_from column more
  new_cells none =
      let known = classes-append_new leaves last class refl none in
      let boxes : boxes_of more class ≡ region ∷ [] = boxes-append_same leaves last class (is_class-itself class) ∙ ap (λ (found : List Region). found ++ region ∷ []) (no_boxes none) in
      ap (λ (cells : List GatheredCell). cells ++ cell_with class (region ∷ []) ∷ []) (other_cells (classes_of leaves) (unlisted (classes_of leaves) none))
      ∙ ap (λ (found : List Region). map (cell_of column more) (classes_of leaves) ++ cell_with class found ∷ []) (sym boxes)
      ∙ sym (map-append (cell_of column more) (classes_of leaves) (class ∷ []))
      ∙ ap (map (cell_of column more)) (sym known)

  more_classes : classes_of more ≡ (if is_listed (classes_of leaves) then classes_of leaves else classes_of leaves ++ class ∷ [])
  more_classes = classes-append leaves last

-- ---- what is gathered

module _ (gathering new : Gathering) (key : ClassKey) (region : Region) (is_new : Bool) (place column : ℕ)
    (keys_are : new.classes.keys ≡ (if list_any (is_key key) gathering.classes.keys then gathering.classes.keys else gathering.classes.keys ++ key ∷ []))
    (added : is_new ≡ not (list_any (is_key key) gathering.classes.keys))
    (index : place ≡ position_or_len (is_key key) gathering.classes.keys)
    (new_are : new.cells.items ≡ with_box gathering.cells.items (cell_of_box column key region) is_new place)
    (leaves : List Leaf) (gathered : IsGatheredFrom column leaves gathering) where
  listed_as : list_any (is_key key) gathering.classes.keys ≡ list_any (is_class (class_of_key key)) (classes_of leaves)
  listed_as = listed_key key gathering.classes.keys ∙ ap (list_any (is_class (class_of_key key))) gathered.classes

  place_as : place ≡ position_or_len (is_class (class_of_key key)) (classes_of leaves)
  place_as = index ∙ place_of_key key gathering.classes.keys ∙ ap (position_or_len (is_class (class_of_key key))) gathered.classes

  new_keys : (listed : Bool) → map class_of_key (if listed then gathering.classes.keys else gathering.classes.keys ++ key ∷ []) ≡ (if listed then classes_of leaves else classes_of leaves ++ class_of_key key ∷ [])
  new_keys true = gathered.classes
  new_keys false = map-append class_of_key gathering.classes.keys (key ∷ []) ∙ ap (λ (classes : List Class). classes ++ class_of_key key ∷ []) gathered.classes

  by_listed : (listed : Bool) → list_any (is_class (class_of_key key)) (classes_of leaves) ≡ listed
      → with_box (cells_from column leaves) (cell_of_box column key region) (not listed) (position_or_len (is_class (class_of_key key)) (classes_of leaves))
      ≡ cells_from column (leaves ++ record { region = region; mark = marks.Class key.mask key.chosen } ∷ [])
  by_listed true e = old_cells column leaves region (class_of_key key) e
  by_listed false e = new_cells column leaves region (class_of_key key) e

  pub gathered_more : IsGatheredFrom column (leaves ++ record { region = region; mark = marks.Class key.mask key.chosen } ∷ []) new
  gathered_more = record {
    classes = ap (map class_of_key) keys_are ∙ new_keys (list_any (is_key key) gathering.classes.keys)
        ∙ ap (λ test. if test then classes_of leaves else classes_of leaves ++ class_of_key key ∷ []) listed_as ∙ sym (more_classes column leaves region (class_of_key key));
    cells = new_are
        ∙ ap (λ (cells : List GatheredCell). with_box cells (cell_of_box column key region) is_new place) gathered.cells
        ∙ ap (λ test. with_box (cells_from column leaves) (cell_of_box column key region) test place) (added ∙ ap not listed_as)
        ∙ ap (λ at. with_box (cells_from column leaves) (cell_of_box column key region) (not (list_any (is_class (class_of_key key)) (classes_of leaves))) at) place_as
        ∙ by_listed (list_any (is_class (class_of_key key)) (classes_of leaves)) refl;
  }

-- a leaf without rows that can be lost changes nothing
pub gathered_barren : (gathering : Gathering) (column : ℕ) (leaves : List Leaf) (leaf : Leaf) → leaf.mark ≡ marks.Barren → IsGatheredFrom column leaves gathering → IsGatheredFrom column (leaves ++ leaf ∷ []) gathering
gathered_barren gathering column leaves leaf barren gathered =
    let classes = classes-append_barren leaves leaf barren in
    let others : (class : Class) → boxes_of (leaves ++ leaf ∷ []) class ≡ boxes_of leaves class = λ class. boxes-append_other leaves leaf class (ap (is_mark_of class) barren) in
    record { classes = gathered.classes ∙ sym classes; cells = gathered.cells ∙ same_cells (classes_of leaves) others ∙ ap (map (cell_of column (leaves ++ leaf ∷ []))) (sym classes) }
  where
    same_cells : (classes : List Class) → ((class : Class) → boxes_of (leaves ++ leaf ∷ []) class ≡ boxes_of leaves class) → map (cell_of column leaves) classes ≡ map (cell_of column (leaves ++ leaf ∷ [])) classes
    same_cells [] others = refl
    same_cells (c ∷ classes) others =
        ap (λ (boxes : List Region). (let cell : GatheredCell = record { mask = c.mask; chosen = c.chosen; low = least_low column boxes; high = greatest_high column boxes } in cell) ∷ map (cell_of column leaves) classes) (sym (others c))
        ∙ ap (λ (cells : List GatheredCell). cell_of column (leaves ++ leaf ∷ []) c ∷ cells) (same_cells classes others)

-- ---- what the cells are

same_classes : (column : ℕ) (leaves : List Leaf) (classes : List Class) → map class_of_cell (map (cell_of column leaves) classes) ≡ classes
same_classes column leaves [] = refl
same_classes column leaves (c ∷ classes) = ap (λ (later : List Class). c ∷ later) (same_classes column leaves classes)

pub classes-from_cells : (column : ℕ) (leaves : List Leaf) (cells : List GatheredCell) → cells ≡ cells_from column leaves → map class_of_cell cells ≡ classes_of leaves
classes-from_cells column leaves cells e = ap (map class_of_cell) e ∙ same_classes column leaves (classes_of leaves)

have_ends : (column : ℕ) (leaves : List Leaf) (classes : List Class) → All (HasEnds column leaves) (map (cell_of column leaves) classes)
have_ends column leaves [] = All-nil (HasEnds column leaves)
have_ends column leaves (c ∷ classes) = All-cons (HasEnds column leaves) (cell_of column leaves c) (map (cell_of column leaves) classes) (record { low_is = refl; high_is = refl }) (have_ends column leaves classes)

pub ends-from_cells : (column : ℕ) (leaves : List Leaf) (cells : List GatheredCell) → cells ≡ cells_from column leaves → All (HasEnds column leaves) cells
ends-from_cells column leaves cells e = subst (All (HasEnds column leaves)) (sym e) (have_ends column leaves (classes_of leaves))

pub ruleset cell_laws = (classes-from_cells, ends-from_cells)
