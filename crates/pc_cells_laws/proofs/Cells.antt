-- The classes of leaves and the boxes of a class: which are listed, and what one more leaf adds.
use Rattle.std.proofs.Common.{◌≡◌, zero, suc, ◌<◌, ◌≤◌, ◌&&◌, ◌||◌, cond, not, Bool, true, false, List, [], ◌∷◌, ◌++◌, length, map, filter, All, Any, AllPairs, Contains, refl, sym, ap, subst, ◌∙◌, true≢false, arith}
use Rattle.std.specs.List.{list_any}
use Rattle.std.proofs.lemmas.List.{append-nil, map-append, length-map}
use Rattle.std.proofs.lemmas.Bool.{false_from_ne_true}
use Rattle.std.proofs.lemmas.List.Elements.{All-cons, All-map, All-filter, filter-append, All-nil}
use Rattle.std.proofs.lemmas.List.Folds.{Any-from_list_any, list_any-from_Any}
use Rattle.std.proofs.lemmas.Map.Views.{Contains-from_any}
use Rattle.pc_model.specs.declared.region.Region.{Region}
use Rattle.pc_model.specs.declared.tree.Leaf.{Leaf}
use Rattle.pc_model.specs.declared.tree.LeafMark.{LeafMark}
use Rattle.pc_model.specs.declared.tree.LeafMark.TheVariants as marks
use Rattle.pc_model.specs.Cells.{Class, is_class, is_mark_of, is_leaf_of, with_mark, classes_of, boxes_of}
use Rattle.pc_model.proofs.Lists.{AllPairs-head, AllPairs-tail}
use Rattle.pc_cells_laws.proofs.Classes.{is_class-same, is_class-itself, is_class-turned}

-- ---- which classes are listed

abbrev is_listed : Class → List Class → Bool
is_listed class classes = list_any (is_class class) classes

-- the classes that differ from one
abbrev others : Class → List Class → List Class
others first classes = filter (λ class. not (is_class first class)) classes

-- a class that differs is listed among those that differ, if at all
listed-others : (first class : Class) (classes : List Class) → is_class class first ≡ false → is_listed class (others first classes) ≡ is_listed class classes
listed-others first class [] other = refl
listed-others first class (c ∷ classes) other = by_same (is_class first c) refl ∙ ap (λ later. is_class class c || later) (listed-others first class classes other)
  where
    by_same : (same : Bool) → is_class first c ≡ same → is_listed class (cond (not same) (c ∷ others first classes) (others first classes)) ≡ (is_class class c || is_listed class (others first classes))
    by_same true e = ap (λ test. test || is_listed class (others first classes)) (sym (subst (λ (one : Class). is_class class one ≡ false) (is_class-same first c e) other))
    by_same false e = refl

-- a class is listed if and only if a leaf has it
classes_of-any : (class : Class) (leaves : List Leaf) → is_listed class (classes_of leaves) ≡ list_any (is_leaf_of class) leaves
classes_of-any class [] = refl
classes_of-any class (leaf ∷ leaves) = by_mark leaf.mark ∙ ap (λ later. is_leaf_of class leaf || later) (classes_of-any class leaves)
  where
    by_first : (first : Class) (same : Bool) → is_class class first ≡ same → (same || is_listed class (others first (classes_of leaves))) ≡ (same || is_listed class (classes_of leaves))
    by_first first true e = refl
    by_first first false e = listed-others first class (classes_of leaves) e

    by_mark : (mark : LeafMark) → is_listed class (with_mark mark (classes_of leaves)) ≡ (is_mark_of class mark || is_listed class (classes_of leaves))
    by_mark marks.Barren = refl
    by_mark (marks.Class mask chosen) = let first : Class = record { mask = mask; chosen = chosen } in by_first first (is_class class first) refl

pub listed-from_contained : (class : Class) (classes : List Class) → Contains classes class → is_listed class classes ≡ true
listed-from_contained class classes found = list_any-from_Any (is_class class) classes (found.0, class, found.1, found.2, is_class-itself class)

pub classes_of-listed : (leaves : List Leaf) (class : Class) → Any (λ (leaf : Leaf). is_leaf_of class leaf ≡ true) leaves → Contains (classes_of leaves) class
classes_of-listed leaves class found =
    Contains-from_any is_class-same class (classes_of leaves) (classes_of-any class leaves ∙ list_any-from_Any (is_leaf_of class) leaves found)

pub leaf_of_listed : (leaves : List Leaf) (class : Class) → Contains (classes_of leaves) class → Any (λ (leaf : Leaf). is_leaf_of class leaf ≡ true) leaves
leaf_of_listed leaves class listed =
    Any-from_list_any (is_leaf_of class) leaves (sym (classes_of-any class leaves) ∙ listed-from_contained class (classes_of leaves) listed)

-- ---- the boxes of a class

some_kept : (X : Type 0) (test : X → Bool) (xs : List X) → list_any test xs ≡ true → 0 < length (filter test xs)
some_kept X test [] found = absurd (true≢false (sym found))
some_kept X test (x ∷ xs) found = by_test (test x) found (some_kept X test xs)
  where
    by_test : (kept : Bool) → (kept || list_any test xs) ≡ true → (list_any test xs ≡ true → 0 < length (filter test xs)) → 0 < length (cond kept (x ∷ filter test xs) (filter test xs))
    by_test true e later = omega arith
    by_test false e later = later e

few_kept : (X : Type 0) (test : X → Bool) (xs : List X) → length (filter test xs) ≤ length xs
few_kept X test [] = omega arith
few_kept X test (x ∷ xs) = by_test (test x) (few_kept X test xs)
  where
    by_test : (kept : Bool) → length (filter test xs) ≤ length xs → length (cond kept (x ∷ filter test xs) (filter test xs)) ≤ suc (length xs)
    by_test true few = omega arith
    by_test false few = omega arith

abbrev region_of : Leaf → Region
region_of leaf = leaf.region

pub boxes_of-some : (leaves : List Leaf) (class : Class) → Contains (classes_of leaves) class → 0 < length (boxes_of leaves class)
boxes_of-some leaves class listed =
    let some = some_kept Leaf (is_leaf_of class) leaves (sym (classes_of-any class leaves) ∙ listed-from_contained class (classes_of leaves) listed) in
    omega (arith, length-map (filter (is_leaf_of class) leaves) region_of)

pub boxes_of-few : (leaves : List Leaf) (class : Class) → length (boxes_of leaves class) ≤ length leaves
boxes_of-few leaves class = omega (arith, length-map (filter (is_leaf_of class) leaves) region_of, few_kept Leaf (is_leaf_of class) leaves)

pub boxes_of-all : (P : Region → Type 0) (leaves : List Leaf) (class : Class) → All (λ (leaf : Leaf). P leaf.region) leaves → All P (boxes_of leaves class)
boxes_of-all P leaves class all = All-map P region_of (filter (is_leaf_of class) leaves) (All-filter (is_leaf_of class) (λ (leaf : Leaf). P leaf.region) leaves all)

-- a box of the class that passes a test is that of a leaf of the class
pub boxes_of-any : (test : Region → Bool) (leaves : List Leaf) (class : Class) → list_any test (boxes_of leaves class) ≡ list_any (λ (leaf : Leaf). is_leaf_of class leaf && test leaf.region) leaves
boxes_of-any test [] class = refl
boxes_of-any test (leaf ∷ leaves) class = by_class (is_leaf_of class leaf) ∙ ap (λ later. (is_leaf_of class leaf && test leaf.region) || later) (boxes_of-any test leaves class)
  where
    by_class : (same : Bool) →
        list_any test (map region_of (cond same (leaf ∷ filter (is_leaf_of class) leaves) (filter (is_leaf_of class) leaves))) ≡ ((same && test leaf.region) || list_any test (boxes_of leaves class))
    by_class true = refl
    by_class false = refl

-- ---- one more leaf

-- the classes with that of a further mark at the end, if it is not listed yet
abbrev pub with_last : LeafMark → List Class → List Class
with_last marks.Barren classes = classes
with_last (marks.Class mask chosen) classes =
    cond (is_listed (record { mask = mask; chosen = chosen }) classes) classes (classes ++ record { mask = mask; chosen = chosen } ∷ [])

same_last : (first last : Class) (classes : List Class) → is_class last first ≡ true → others first (classes ++ last ∷ []) ≡ others first classes
same_last first last classes same =
    filter-append (λ class. not (is_class first class)) classes (last ∷ [])
    ∙ ap (λ test. others first classes ++ cond (not test) (last ∷ []) []) (is_class-turned last first same) ∙ append-nil (others first classes)

other_last : (first last : Class) (classes : List Class) → is_class last first ≡ false → others first (classes ++ last ∷ []) ≡ others first classes ++ last ∷ []
other_last first last classes other =
    let turned = false_from_ne_true (is_class first last) (λ same. true≢false (sym (is_class-turned first last same) ∙ other)) in
    filter-append (λ class. not (is_class first class)) classes (last ∷ []) ∙ ap (λ test. others first classes ++ cond (not test) (last ∷ []) []) turned

first_and_last : (first last : Class) (classes : List Class) →
    first ∷ others first (cond (is_listed last classes) classes (classes ++ last ∷ [])) ≡
    cond (is_listed last (first ∷ others first classes)) (first ∷ others first classes) ((first ∷ others first classes) ++ last ∷ [])
first_and_last first last classes = by_same (is_class last first) (is_listed last classes) refl refl
  where
    by_same : (same listed : Bool) → is_class last first ≡ same → is_listed last classes ≡ listed →
        first ∷ others first (cond listed classes (classes ++ last ∷ [])) ≡
        cond (same || is_listed last (others first classes)) (first ∷ others first classes) ((first ∷ others first classes) ++ last ∷ [])
    by_same true true e f = refl
    by_same true false e f = ap (λ later. first ∷ later) (same_last first last classes e)
    by_same false true e f = rw (listed-others first last classes e, f) refl
    by_same false false e f = rw (listed-others first last classes e, f) (ap (λ later. first ∷ later) (other_last first last classes e))

with_both : (first last : LeafMark) (classes : List Class) → with_mark first (with_last last classes) ≡ with_last last (with_mark first classes)
with_both marks.Barren last classes = refl
with_both (marks.Class mask chosen) marks.Barren classes = refl
with_both (marks.Class mask chosen) (marks.Class other side) classes = first_and_last (record { mask = mask; chosen = chosen }) (record { mask = other; chosen = side }) classes

with_last-none : (mark : LeafMark) → with_mark mark [] ≡ with_last mark []
with_last-none marks.Barren = refl
with_last-none (marks.Class mask chosen) = refl

pub classes-append : (leaves : List Leaf) (last : Leaf) → classes_of (leaves ++ last ∷ []) ≡ with_last last.mark (classes_of leaves)
classes-append [] last = with_last-none last.mark
classes-append (leaf ∷ leaves) last = ap (with_mark leaf.mark) (classes-append leaves last) ∙ with_both leaf.mark last.mark (classes_of leaves)

-- the three cases of it
pub classes-append_barren : (leaves : List Leaf) (last : Leaf) → last.mark ≡ marks.Barren → classes_of (leaves ++ last ∷ []) ≡ classes_of leaves
classes-append_barren leaves last barren = classes-append leaves last ∙ ap (λ mark. with_last mark (classes_of leaves)) barren

pub classes-append_listed : (leaves : List Leaf) (last : Leaf) (class : Class) → last.mark ≡ marks.Class class.mask class.chosen → list_any (is_class class) (classes_of leaves) ≡ true →
    classes_of (leaves ++ last ∷ []) ≡ classes_of leaves
classes-append_listed leaves last class marked listed =
    classes-append leaves last ∙ ap (λ mark. with_last mark (classes_of leaves)) marked ∙ ap (λ test. cond test (classes_of leaves) (classes_of leaves ++ class ∷ [])) listed

pub classes-append_new : (leaves : List Leaf) (last : Leaf) (class : Class) → last.mark ≡ marks.Class class.mask class.chosen → list_any (is_class class) (classes_of leaves) ≡ false →
    classes_of (leaves ++ last ∷ []) ≡ classes_of leaves ++ class ∷ []
classes-append_new leaves last class marked new =
    classes-append leaves last ∙ ap (λ mark. with_last mark (classes_of leaves)) marked ∙ ap (λ test. cond test (classes_of leaves) (classes_of leaves ++ class ∷ [])) new

pub boxes-append : (leaves : List Leaf) (last : Leaf) (class : Class) →
    boxes_of (leaves ++ last ∷ []) class ≡ cond (is_leaf_of class last) (boxes_of leaves class ++ last.region ∷ []) (boxes_of leaves class)
boxes-append leaves last class = ap (map region_of) (filter-append (is_leaf_of class) leaves (last ∷ [])) ∙ by_class (is_leaf_of class last)
  where
    by_class : (same : Bool) → map region_of (filter (is_leaf_of class) leaves ++ cond same (last ∷ []) []) ≡ cond same (boxes_of leaves class ++ last.region ∷ []) (boxes_of leaves class)
    by_class true = map-append region_of (filter (is_leaf_of class) leaves) (last ∷ [])
    by_class false = ap (map region_of) (append-nil (filter (is_leaf_of class) leaves))

pub boxes-append_same : (leaves : List Leaf) (last : Leaf) (class : Class) → is_leaf_of class last ≡ true → boxes_of (leaves ++ last ∷ []) class ≡ boxes_of leaves class ++ last.region ∷ []
boxes-append_same leaves last class same = boxes-append leaves last class ∙ ap (λ test. cond test (boxes_of leaves class ++ last.region ∷ []) (boxes_of leaves class)) same

pub boxes-append_other : (leaves : List Leaf) (last : Leaf) (class : Class) → is_leaf_of class last ≡ false → boxes_of (leaves ++ last ∷ []) class ≡ boxes_of leaves class
boxes-append_other leaves last class other = boxes-append leaves last class ∙ ap (λ test. cond test (boxes_of leaves class ++ last.region ∷ []) (boxes_of leaves class)) other

-- ---- no class is listed twice

all_others : (first : Class) (classes : List Class) → All (λ class. is_class first class ≡ false) (others first classes)
all_others first [] = All-nil (λ class. is_class first class ≡ false)
all_others first (c ∷ classes) = by_same (is_class first c) refl (all_others first classes)
  where
    by_same : (same : Bool) → is_class first c ≡ same → All (λ class. is_class first class ≡ false) (others first classes) →
        All (λ class. is_class first class ≡ false) (cond (not same) (c ∷ others first classes) (others first classes))
    by_same true e later = later
    by_same false e later = All-cons (λ class. is_class first class ≡ false) c (others first classes) e later

abbrev Differ : Class → Class → Type 0
Differ a b = is_class a b ≡ false

pairs_with_first : (first : Class) (classes : List Class) → All (Differ first) classes → AllPairs Differ classes → AllPairs Differ (first ∷ classes)
pairs_with_first first classes all pairs zero zero d before inside = absurd (omega arith)
pairs_with_first first classes all pairs zero (suc j) d before inside = all j d (omega arith)
pairs_with_first first classes all pairs (suc i) zero d before inside = absurd (omega arith)
pairs_with_first first classes all pairs (suc i) (suc j) d before inside = pairs i j d (omega arith) (omega arith)

pairs_of_others : (first : Class) (classes : List Class) → AllPairs Differ classes → AllPairs Differ (others first classes)
pairs_of_others first [] pairs = pairs
pairs_of_others first (c ∷ classes) pairs = by_test (not (is_class first c)) (pairs_of_others first classes (AllPairs-tail Differ c classes pairs))
  where
    by_test : (kept : Bool) → AllPairs Differ (others first classes) → AllPairs Differ (cond kept (c ∷ others first classes) (others first classes))
    by_test true later = pairs_with_first c (others first classes) (All-filter (λ class. not (is_class first class)) (Differ c) classes (AllPairs-head Differ c classes pairs)) later
    by_test false later = later

pub classes_of-differ : (leaves : List Leaf) → AllPairs (λ (a b : Class). is_class a b ≡ false) (classes_of leaves)
classes_of-differ [] = λ i j d before inside. absurd (omega arith)
classes_of-differ (leaf ∷ leaves) = by_mark leaf.mark (classes_of-differ leaves)
  where
    by_mark : (mark : LeafMark) → AllPairs Differ (classes_of leaves) → AllPairs Differ (with_mark mark (classes_of leaves))
    by_mark marks.Barren later = later
    by_mark (marks.Class mask chosen) later =
        let first : Class = record { mask = mask; chosen = chosen } in
        pairs_with_first first (others first (classes_of leaves)) (all_others first (classes_of leaves)) (pairs_of_others first (classes_of leaves) later)
