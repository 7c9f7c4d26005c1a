-- One more constraint wants few cuts: each that is needed where the rest is settled uses up an open face of it.
use Rattle.std.proofs.Common.{◌≡◌, ℕ, ◌+◌, ◌*◌, ◌≤◌, cond, Bool, true, false, List, [], ◌∷◌, ◌++◌, length, get_or, if◌then◌else◌, ◌⊎◌, ◌<◌, inl, inr, refl, sym, ◌∙◌, ap, subst, true≢false, arith, All, Any}
use Rattle.std.proofs.lemmas.List.{get_or_default}
use Rattle.pc_model.specs.declared.region.Region.{Region}
use Rattle.pc_model.specs.declared.area.Area.{Area}
use Rattle.pc_model.specs.declared.constraint.When.{When}
use Rattle.pc_model.specs.declared.constraint.When.TheVariants.{Boxes, Outside}
use Rattle.pc_model.specs.declared.constraint.Constraint.{Constraint}
use Rattle.pc_model.specs.declared.tree.Cut.{Cut}
use Rattle.pc_model.specs.declared.tree.LeafMark.TheVariants.{Barren, Class}
use Rattle.pc_model.specs.CutTrees.{IsInside, IsApart, IsInsideArea, first_part, second_part}
use Rattle.pc_model.specs.Places.{has_bit}
use Rattle.pc_model.specs.Cells.{IsApartFromNamed, IsInsideWhen, IsApartFromWhen, SpeaksOfAll, SpeaksOfNone, IsUnder, IsSettledAt, IsRuledOut}
use Rattle.pc_box.specs.Boxes.{AreAlike, IsBox, IsAlikeToWhen, IsAlikeTo}
use Rattle.pc_box.specs.Cuts.{Divides}
use Rattle.pc_box.specs.Sides.{regions_meet}
use Rattle.pc_cells_tree.specs.Decisions.{CanBeSettled, IsCutThroughWhen, IsCutFor, IsNeeded}
use Rattle.pc_cells_tree.specs.Faces.{value_faces, faces_with, faces_for, IsSpentBy}
use Rattle.pc_cells_tree.specs.Linked.{IsSimple}
use Rattle.pc_cells_tree.specs.Stances.{open_faces, IsCutThrough, no_box, box_in, IsCutThroughArea}
use Rattle.pc_cells_tree.specs.Standings.{IsBeside}
use Rattle.pc_cells_tree.proofs.AreaStances.{both_ways, both_ways_when, both_ways_named}
use Rattle.pc_cells_tree.proofs.Stances.{faces_few, faces-from_inside}
use Rattle.pc_cells_tree.proofs.Choices.{meet-from_rows}
use Rattle.pc_cells_tree.proofs.Lists.{any_split, any_longer, all_shorter, last_of}
use Rattle.pc_cells_tree.proofs.Peeled.{first_faces, second_faces, first_apart, second_apart, peeled}

-- ---- the constraint of the cut

module _ (rest : List Constraint) (last : Constraint) (part : Region) (cut : Cut) (filled : IsBox part) where
  abbrev more : List Constraint
  more = rest ++ last ∷ []

  -- the constraint that a predicate and values are of wants the cut
  abbrev Wants : When → Region → Type 0
  Wants when values = (IsInsideWhen more part when × IsCutThrough part values cut) ⊎ IsCutThroughWhen part when cut

  -- what all rows of the box are under with one constraint more, they were under before
  all_before : (when : When) → IsInsideWhen more part when → IsInsideWhen rest part when
  all_before (Boxes area) inside = inside
  all_before Outside beside = all_shorter (IsBeside part) rest last beside

  not_through_apart : (when : When) → IsApartFromNamed part when → IsCutThroughWhen part when cut → ⊥
  not_through_apart (Boxes area) apart through =
      let (k, region, there, is, crossed) = through.through in
      crossed.across.not_apart (subst (IsApart part) is (apart k region there))
  not_through_apart Outside apart through = absurd through

  not_through : (when : When) → IsInsideWhen rest part when ⊎ IsApartFromWhen rest part when → IsCutThroughWhen part when cut → ⊥
  not_through (Boxes area) (inl inside) through = through.not_inside inside
  not_through (Boxes area) (inr apart) through = not_through_apart (Boxes area) apart through
  not_through Outside says through = absurd through

  -- a constraint of which all rows of the box are, or none, wants no cut
  not_cut_for : (c : Constraint) (bit : Bool) → cond bit (IsUnder rest part c) (SpeaksOfNone rest part c) → IsCutFor more part cut c → ⊥
  not_cut_for c true says (inl through) = through.1.across.not_inside says.values
  not_cut_for c true says (inr through) = not_through c.when (inl says.when) through
  not_cut_for c false says (inl through) = both_ways_when rest part c.when filled (all_before c.when through.0) says
  not_cut_for c false says (inr through) = not_through c.when (inr says) through

  -- nor does one of a box that is apart from its area, where some area holds the box
  not_beside_wants : (when : When) (values : Region) → IsApartFromNamed part when → (All (IsBeside part) more → ⊥) → Wants when values → ⊥
  not_beside_wants (Boxes area) values apart some (inl through) = both_ways_named part (Boxes area) filled through.0 apart
  not_beside_wants (Boxes area) values apart some (inr through) = not_through_apart (Boxes area) apart through
  not_beside_wants Outside values apart some (inl through) = some through.0
  not_beside_wants Outside values apart some (inr through) = absurd through

  none_beside : All (IsBeside part) rest → (All (IsBeside part) more → ⊥) → Any (IsCutFor more part cut) rest → ⊥
  none_beside beside some (k, c, inside, is, wants) = not_beside_wants c.when c.values (subst (IsBeside part) is (beside k c inside)) some wants

  module _ (chosen : Area) (needed : IsNeeded more chosen part cut) where
    -- no constraint that ruled the box out still speaks of all of it
    not_ruled : (k : ℕ) (c : Constraint) → k < length rest → get_or rest k c ≡ c → SpeaksOfAll more part c → IsApart part c.values → ⊥
    not_ruled k c inside is all apart = needed.open_still (Barren, inl (any_longer (IsRuledOut more part) rest last (k, c, inside, is, (all, apart))))

    -- so it is outside, and with the last constraint some area holds the box
    none_by_ruled : (k : ℕ) (c : Constraint) (when : When) → c.when ≡ when → k < length rest → get_or rest k c ≡ c → IsInsideWhen rest part when → IsApart part c.values →
        Any (IsCutFor more part cut) rest → ⊥
    none_by_ruled k c (Boxes area) e inside is all apart found = not_ruled k c inside is (subst (IsInsideWhen more part) (sym e) all) apart
    none_by_ruled k c Outside e inside is beside apart found = none_beside beside (λ still. not_ruled k c inside is (subst (IsInsideWhen more part) (sym e) still) apart) found

    not_of_rest : CanBeSettled rest chosen part → Any (IsCutFor more part cut) rest → ⊥
    not_of_rest (Barren, inl (k, c, inside, is, ruled)) found = none_by_ruled k c c.when refl inside is ruled.0 ruled.1 found
    not_of_rest (Barren, inr silent) (k, c, inside, is, wants) = not_cut_for c false (subst (SpeaksOfNone rest part) is (silent k c inside)) wants
    not_of_rest (Class mask side, settled) (k, c, inside, is, wants) = not_cut_for c (has_bit mask k) (subst (IsSettledAt rest part mask k) is (settled.each k c inside)) wants

    for_last : CanBeSettled rest chosen part → IsInsideArea part chosen → IsCutFor more part cut last
    for_last settled inside = by_cases needed.through
      where
        last_one : Any (IsCutFor more part cut) rest ⊎ IsCutFor more part cut last → IsCutFor more part cut last
        last_one (inl found) = absurd (not_of_rest settled found)
        last_one (inr wants) = wants

        by_cases : Any (IsCutFor more part cut) more ⊎ IsCutThroughArea part chosen cut → IsCutFor more part cut last
        by_cases (inl found) = last_one (any_split (IsCutFor more part cut) rest last found)
        by_cases (inr through) = absurd (through.not_inside inside)

-- ---- counting

fewer_if : (p q : Bool) (m n : ℕ) → (q ≡ false → p ≡ false) → m ≤ n → (if p then m else 0) ≤ (if q then n else 0)
fewer_if false true m n less at_most = omega arith
fewer_if false false m n less at_most = omega arith
fewer_if true true m n less at_most = at_most
fewer_if true false m n less at_most = absurd (true≢false (less refl))

at_most_if : (p : Bool) (m : ℕ) → (if p then m else 0) ≤ m
at_most_if true m = omega arith
at_most_if false m = omega arith

none_if : (p : Bool) (m : ℕ) → p ≡ false → (if p then m else 0) ≡ 0
none_if p m e = rw e refl

all_if : (p : Bool) (m : ℕ) → p ≡ true → (if p then m else 0) ≡ m
all_if p m e = rw e refl

module _ (values part : Region) (cut : Cut) (divided : Divides part cut) (values_alike : AreAlike part values) where
  abbrev first : Region
  first = first_part part cut

  abbrev second : Region
  second = second_part part cut

  first_values : value_faces values first ≤ value_faces values part
  first_values = fewer_if (regions_meet first values) (regions_meet part values) (open_faces first values) (open_faces part values)
      (first_apart part cut divided values values_alike) (first_faces part cut divided values values_alike)

  second_values : value_faces values second ≤ value_faces values part
  second_values = fewer_if (regions_meet second values) (regions_meet part values) (open_faces second values) (open_faces part values)
      (second_apart part cut divided values values_alike) (second_faces part cut divided values values_alike)

  -- a cut along a face of the values, where nothing else is open
  spent_alone : IsCutThrough part values cut → value_faces values first + value_faces values second + 1 ≤ value_faces values part
  spent_alone through = by_part (peeled part cut divided values values_alike through.along)
    where
      whole : value_faces values part ≡ open_faces part values
      whole = all_if (regions_meet part values) (open_faces part values) (meet-from_rows part values values_alike through.across.not_apart)

      by_part : ((regions_meet first values ≡ false) × (open_faces second values + 1 ≤ open_faces part values)) ⊎ ((regions_meet second values ≡ false) × (open_faces first values + 1 ≤ open_faces part values)) →
          value_faces values first + value_faces values second + 1 ≤ value_faces values part
      by_part (inl p) = omega (arith, whole, none_if (regions_meet first values) (open_faces first values) p.0, at_most_if (regions_meet second values) (open_faces second values), p.1)
      by_part (inr p) = omega (arith, whole, none_if (regions_meet second values) (open_faces second values) p.0, at_most_if (regions_meet first values) (open_faces first values), p.1)

  -- ---- where the predicate has one box

  module _ (box : Region) (filled : IsBox part) (box_alike : AreAlike part box) where
    abbrev both_faces : Region → ℕ
    both_faces piece = if regions_meet piece box then open_faces piece box + value_faces values piece else 0

    first_all : both_faces first ≤ open_faces first box + value_faces values first
    first_all = at_most_if (regions_meet first box) (open_faces first box + value_faces values first)

    second_all : both_faces second ≤ open_faces second box + value_faces values second
    second_all = at_most_if (regions_meet second box) (open_faces second box + value_faces values second)

    -- a cut along a face of the predicate
    spent_box : IsCutThrough part box cut → both_faces first + both_faces second + 1 ≤ both_faces part
    spent_box through = by_part (peeled part cut divided box box_alike through.along)
      where
        whole : both_faces part ≡ open_faces part box + value_faces values part
        whole = all_if (regions_meet part box) (open_faces part box + value_faces values part) (meet-from_rows part box box_alike through.across.not_apart)

        by_part : ((regions_meet first box ≡ false) × (open_faces second box + 1 ≤ open_faces part box)) ⊎ ((regions_meet second box ≡ false) × (open_faces first box + 1 ≤ open_faces part box)) →
            both_faces first + both_faces second + 1 ≤ both_faces part
        by_part (inl p) = omega (arith, whole, none_if (regions_meet first box) (open_faces first box + value_faces values first) p.0, second_all, second_values, p.1)
        by_part (inr p) = omega (arith, whole, none_if (regions_meet second box) (open_faces second box + value_faces values second) p.0, first_all, first_values, p.1)

    -- one along a face of the values, where the predicate has no open face left
    spent_values : IsInside part box → IsCutThrough part values cut → both_faces first + both_faces second + 1 ≤ both_faces part
    spent_values all through =
        omega (
          arith,
          all_if (regions_meet part box) (open_faces part box + value_faces values part) (meet-from_rows part box box_alike (λ apart. both_ways part box filled all apart)),
          faces-from_inside part box box_alike all,
          first_all,
          second_all,
          first_faces part cut divided box box_alike,
          second_faces part cut divided box box_alike,
          spent_alone through,
        )

-- ---- the last constraint

-- what some box of an area of one has, its first has
alone : (area : Area) (P : Region → Type 0) → length area.boxes ≡ 1 → Any P area.boxes → P (box_in area.boxes 0)
alone area P one (k, x, inside, is, held) =
    let first : k ≡ 0 = omega (arith, inside, one) in
    let there : 0 < length area.boxes = omega (arith, one) in
    subst P (sym is ∙ ap (λ place. get_or area.boxes place x) first ∙ get_or_default area.boxes 0 x no_box there) held

module _ (all : List Constraint) (part : Region) (cut : Cut) (divided : Divides part cut) (filled : IsBox part) where
  spent : (when : When) (values : Region) → IsSimple when → IsAlikeToWhen part when → AreAlike part values → (IsInsideWhen all part when × IsCutThrough part values cut) ⊎ IsCutThroughWhen part when cut →
      faces_with when (value_faces values (first_part part cut)) (first_part part cut) + faces_with when (value_faces values (second_part part cut)) (second_part part cut) + 1 ≤
      faces_with when (value_faces values part) part
  spent (Boxes area) values one alike values_alike (inl through) =
      spent_values values part cut divided values_alike (box_in area.boxes 0) filled (alike 0 no_box (omega (arith, one))) (alone area (IsInside part) one through.0) through.1
  spent (Boxes area) values one alike values_alike (inr through) =
      spent_box values part cut divided values_alike (box_in area.boxes 0) filled (alike 0 no_box (omega (arith, one))) (alone area (λ (region : Region). IsCutThrough part region cut) one through.through)
  spent Outside values one alike values_alike (inl through) = spent_alone values part cut divided values_alike through.1
  spent Outside values one alike values_alike (inr through) = absurd through

-- ---- what is used up, and how much there is

pub needed_spent : (rest : List Constraint) (last : Constraint) (chosen : Area) → IsSimple last.when → IsSpentBy rest (rest ++ last ∷ []) chosen (faces_for last)
needed_spent rest last chosen simple part cut fits settled inside needed =
    let alike = last_of (IsAlikeTo part) rest last fits.each in
    spent (rest ++ last ∷ []) part cut needed.divides fits.filled last.when last.values simple alike.when alike.values (for_last rest last part cut fits.filled chosen needed settled inside)

values_most : (values part : Region) → value_faces values part ≤ 2 * length part.sides
values_most values part = omega (arith, at_most_if (regions_meet part values) (open_faces part values), faces_few part.sides values.sides)

with_most : (when : When) (more : ℕ) (part : Region) → faces_with when more part ≤ 2 * length part.sides + more
with_most (Boxes area) more part =
    omega (arith, at_most_if (regions_meet part (box_in area.boxes 0)) (open_faces part (box_in area.boxes 0) + more), faces_few part.sides (box_in area.boxes 0).sides)
with_most Outside more part = omega arith

pub faces_most : (c : Constraint) (part : Region) → faces_for c part ≤ 4 * length part.sides
faces_most c part = omega (arith, with_most c.when (value_faces c.values part) part, values_most c.values part)
