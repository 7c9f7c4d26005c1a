-- What constraints say of a box, from the last one to the first, and what is done with the box.
use Rattle.std.proofs.Common.{◌≡◌, ℕ, zero, suc, ◌+◌, ◌*◌, ◌/◌, ◌<◌, ◌≤◌, ◌^◌, cond, Bool, true, false, List, [], ◌∷◌, length, get_or, drop, refl, sym, ◌∙◌, ap, subst, arith, pow-suc, inl, inr, All, Any, length-drop}
use Rattle.std.specs.Prelude.{⊤, Option, Some, None}
use Rattle.std.specs.Int.{bit_at}
use Rattle.std.proofs.lemmas.Bool.{cond_both, eqb-false}
use Rattle.std.proofs.lemmas.List.{drop_all, drop_more, get_or_default}
use Rattle.std.proofs.lemmas.Nat.Bits.{bit_at_lowest, bit_at-suc, bit_at-zero, bit_at-lt}
use Rattle.std.proofs.Math.Pow.{pow_mono}
use Rattle.pc_model.specs.declared.region.Region.{Region}
use Rattle.pc_model.specs.declared.area.Area.{Area}
use Rattle.pc_model.specs.declared.constraint.When.{When}
use Rattle.pc_model.specs.declared.constraint.When.TheVariants.{Boxes, Outside}
use Rattle.pc_model.specs.declared.constraint.Constraint.{Constraint}
use Rattle.pc_model.specs.declared.tree.Cut.{Cut}
use Rattle.pc_model.specs.declared.tree.LeafMark.TheVariants.{Barren, Class}
use Rattle.pc_model.specs.Accepted.{constraint_limit}
use Rattle.pc_model.specs.CutTrees.{IsInside}
use Rattle.pc_model.specs.Places.{has_bit}
use Rattle.pc_model.specs.Cells.{IsInsideWhen, IsApartFromWhen, SpeaksOfAll, SpeaksOfNone, IsUnder, IsRuledOut, IsSettledAt, IsSettledSide, IsSettledClass, IsBarren}
use Rattle.pc_box.specs.Boxes.{AreAlike, IsBox, IsAlikeToWhen, IsAlikeTo}
use Rattle.pc_cells_tree.specs.declared.stance.Stance.{Stance}
use Rattle.pc_cells_tree.specs.declared.stance.Stance.TheVariants.{Inside, Apart, Across}
use Rattle.pc_cells_tree.specs.declared.area_stance.AreaStance.{AreaStance}
use Rattle.pc_cells_tree.specs.declared.area_stance.AreaStance.TheVariants as areas
use Rattle.pc_cells_tree.specs.declared.standing.Crossing.{Crossing}
use Rattle.pc_cells_tree.specs.declared.standing.Standing.{Standing}
use Rattle.pc_cells_tree.specs.declared.standing.Standing.TheVariants.{OfAll, OfNone, Open}
use Rattle.pc_cells_tree.specs.declared.decision.Finding.{Finding}
use Rattle.pc_cells_tree.specs.declared.decision.Finding.TheVariants.{Broken, Crossed, Under}
use Rattle.pc_cells_tree.specs.Stances.{IsAcross, IsAlong, IsCutThrough, IsStance, no_box, box_in, IsAcrossAt, IsCutThroughArea, IsAreaStance}
use Rattle.pc_cells_tree.specs.Standings.{is_of_values, place_in, is_before, IsAcrossWhen, IsCrossedBy, IsCrossing, region_of, HasBoxAt, IsStanding, IsStandingAt}
use Rattle.pc_cells_tree.specs.Decisions.{HasBitAt, IsComparable, IsMaskOf, IsRegionOf, HasRegionIn, HasShortMask, IsFound, IsWithCrossing, with_bit, CanBeSettled, IsCutThroughWhen, IsCutFor, IsNeeded}
use Rattle.pc_cells_tree.proofs.AreaStances.{filled_by, both_ways, both_ways_when, not_beside}
use Rattle.pc_cells_tree.proofs.Choices.{divided-along}
use Rattle.pc_cells_tree.proofs.Lists.{any_at, none_from}

-- ---- a box that has rows

-- a constraint of which all rows of the box are, or none
not_ruled_out : (all : List Constraint) (part : Region) (c : Constraint) (bit : Bool) → IsBox part → cond bit (IsUnder all part c) (SpeaksOfNone all part c) → IsRuledOut all part c → ⊥
not_ruled_out all part c true filled says ruled = both_ways part c.values filled says.values ruled.1
not_ruled_out all part c false filled says ruled = both_ways_when all part c.when filled ruled.0 says

none_by_mask : (all : List Constraint) (part : Region) (cs : List Constraint) (mask : ℕ) → IsBox part → IsMaskOf all part cs mask → Any (IsRuledOut all part) cs → ⊥
none_by_mask all part cs mask filled found (k, c, inside, is, ruled) =
    not_ruled_out all part c (has_bit mask k) filled (subst (IsSettledAt all part mask k) is (found.each k c inside)) ruled

-- ---- one constraint more

low_bit : (bit : Bool) (mask : ℕ) → has_bit (2 * mask + cond bit 1 0) 0 ≡ bit
low_bit true mask = let e : bit_at (2 * mask + 1) 0 ≡ 1 = omega (arith, bit_at_lowest (2 * mask + 1)) in rw e refl
low_bit false mask = let e : bit_at (2 * mask + 0) 0 ≡ 0 = omega (arith, bit_at_lowest (2 * mask + 0)) in rw e refl

higher_bit : (bit : Bool) (mask place : ℕ) → has_bit (2 * mask + cond bit 1 0) (suc place) ≡ has_bit mask place
higher_bit true mask place = let e : (2 * mask + 1) / 2 ≡ mask = omega arith in rw (bit_at-suc (2 * mask + 1) place, e) refl
higher_bit false mask place = let e : (2 * mask + 0) / 2 ≡ mask = omega arith in rw (bit_at-suc (2 * mask + 0) place, e) refl

-- what a constraint says of a box, as a bit
abbrev IsBitOf : List Constraint → Region → Constraint → Bool → Type 0
IsBitOf all part c bit = cond bit (IsUnder all part c) (SpeaksOfNone all part c)

mask-cons : (all : List Constraint) (part : Region) (c : Constraint) (cs : List Constraint) (bit : Bool) (mask : ℕ) → IsBitOf all part c bit → IsMaskOf all part cs mask →
    IsMaskOf all part (c ∷ cs) (2 * mask + cond bit 1 0)
mask-cons all part c cs bit mask says later = record { short = shorter bit; each = by_place }
  where
    shorter : (bit : Bool) → 2 * mask + cond bit 1 0 < 2 ^ length (c ∷ cs)
    shorter true = let twice : 2 ^ length (c ∷ cs) ≡ 2 * 2 ^ length cs = pow-suc 2 (length cs) ∙ omega arith in omega (arith, later.short, twice)
    shorter false = let twice : 2 ^ length (c ∷ cs) ≡ 2 * 2 ^ length cs = pow-suc 2 (length cs) ∙ omega arith in omega (arith, later.short, twice)

    by_place : (place : ℕ) (d : Constraint) → place < length (c ∷ cs) → IsSettledAt all part (2 * mask + cond bit 1 0) place (get_or (c ∷ cs) place d)
    by_place zero d inside = rw (low_bit bit mask) says
    by_place (suc place) d inside = rw (higher_bit bit mask place) (later.each place d (omega arith))

-- ---- at a place

pub some_of : (cs : List Constraint) (k : ℕ) → k < length cs → Constraint
some_of [] k inside = absurd (omega (arith, inside))
some_of (c ∷ cs) k inside = c

module _ (part : Region) (cs : List Constraint) (place : ℕ) (d : Constraint) (inside : place < length cs) where
  abbrev this : Constraint
  this = get_or cs place d

  same_at : (e : Constraint) → this ≡ get_or cs place e
  same_at e = get_or_default cs place d e inside

  pub values_alike : All (IsAlikeTo part) cs → AreAlike part this.values
  values_alike alike = (alike place d inside).values

  filled : All (IsAlikeTo part) cs → IsBox part
  filled alike = filled_by part this.values (values_alike alike)

  -- where this one does not rule the box out
  none_here : (IsRuledOut cs part this → ⊥) → (Any (IsRuledOut cs part) (drop (place + 1) cs) → ⊥) → Any (IsRuledOut cs part) (drop place cs) → ⊥
  none_here first later = none_from (IsRuledOut cs part) cs place d inside first later

  found_bit : (bit : Bool) (later : Finding) → All (IsAlikeTo part) cs → IsBitOf cs part this bit → IsFound part cs (place + 1) later → IsFound part cs place (with_bit bit later)
  found_bit bit Broken alike says found = found
  found_bit bit (Crossed crossing) alike says found = (found.0, none_here (not_ruled_out cs part this bit (filled alike) says) found.1)
  found_bit bit (Under mask) alike says found =
      subst (λ piece. IsMaskOf cs part piece (2 * mask + cond bit 1 0)) (sym (drop_more cs place d inside)) (mask-cons cs part this (drop (place + 1) cs) bit mask says found)

  found_crossing : (crossing : Crossing) (later after : Finding) → All (IsAlikeTo part) cs → IsCrossing cs part crossing → (IsRuledOut cs part this → ⊥) → IsWithCrossing crossing later after →
      IsFound part cs (place + 1) later → IsFound part cs place after
  found_crossing crossing Broken after alike crossed first e found = subst (IsFound part cs place) (sym e) found
  found_crossing crossing (Crossed other) after alike crossed first e found =
      subst (IsFound part cs place) (sym e)
      (cond_both (is_before other crossing) other crossing (λ kept. IsFound part cs place (Crossed kept))
      (λ kept. (found.0, none_here first found.1)) (λ new. (crossed, none_here first found.1)))
  found_crossing crossing (Under mask) after alike crossed first e found =
      subst (IsFound part cs place) (sym e) (crossed, none_here first (none_by_mask cs part (drop (place + 1) cs) mask (filled alike) found))

  module _ (standing : Standing) (stands : IsStandingAt cs part place standing) where
    stands_as : (other : Standing) → standing ≡ other → IsStanding cs part this other
    stands_as other e = subst (IsStanding cs part this) e (stands d)

    pub found-none_of : (later : Finding) → All (IsAlikeTo part) cs → standing ≡ OfNone → IsFound part cs (place + 1) later → IsFound part cs place (with_bit false later)
    found-none_of later alike e found = found_bit false later alike (stands_as OfNone e) found

    opened : (crossing : Crossing) (later after : Finding) → All (IsAlikeTo part) cs → standing ≡ Open crossing → IsWithCrossing crossing later after →
        IsFound part cs (place + 1) later → IsFound part cs place after
    opened crossing later after alike e gives found =
        let open_to = stands_as (Open crossing) e in
        found_crossing crossing later after alike open_to.is_crossing (λ ruled. open_to.not_all ruled.0) gives found

    module _ (values : Stance) (also : IsStance part this.values values) where
      pub found-inside : (later : Finding) → All (IsAlikeTo part) cs → standing ≡ OfAll → values ≡ Inside → IsFound part cs (place + 1) later → IsFound part cs place (with_bit true later)
      found-inside later alike e f found = found_bit true later alike (record { when = stands_as OfAll e; values = subst (IsStance part this.values) f also }) found

      pub bit-inside : standing ≡ OfAll → values ≡ Inside → HasBitAt cs part place (Some true)
      bit-inside e f = λ c. record {
        when = subst (λ (other : Constraint). SpeaksOfAll cs part other) (same_at c) (stands_as OfAll e);
        values = subst (λ (other : Constraint). IsInside part other.values) (same_at c) (subst (IsStance part this.values) f also);
      }

      pub found-broken : standing ≡ OfAll → values ≡ Apart → IsFound part cs place Broken
      found-broken e f = any_at (IsRuledOut cs part) cs place d inside (stands_as OfAll e, subst (IsStance part this.values) f also)

      pub found-across_values : (faces : ℕ) (later after : Finding) → All (IsAlikeTo part) cs → standing ≡ OfAll → values ≡ Across faces →
          IsWithCrossing (record { place = place; box_place = None; faces = faces }) later after → IsFound part cs (place + 1) later → IsFound part cs place after
      found-across_values faces later after alike e f gives found =
          let across : IsAcross part this.values = subst (IsStance part this.values) f also in
          found_crossing (record { place = place; box_place = None; faces = faces }) later after alike
          (record { there = inside; crossed = λ c. subst (λ (other : Constraint). SpeaksOfAll cs part other × IsAcross part other.values) (same_at c) (stands_as OfAll e, across) }) (λ ruled. across.not_apart ruled.1)
          gives found

-- one of which it is known
pub found-told : (part : Region) (cs : List Constraint) (place : ℕ) (bit : Bool) (later : Finding) → place < length cs → All (IsAlikeTo part) cs → HasBitAt cs part place (Some bit) → IsFound part cs (place + 1) later →
    IsFound part cs place (with_bit bit later)
found-told part cs place bit later inside alike says found =
    let d = some_of cs place inside in
    found_bit part cs place d inside bit later alike (says d) found

pub found-open : (part : Region) (cs : List Constraint) (place : ℕ) (inside : place < length cs) (standing : Standing) (crossing : Crossing) (later after : Finding) → All (IsAlikeTo part) cs →
    IsStandingAt cs part place standing → standing ≡ Open crossing → IsWithCrossing crossing later after → IsFound part cs (place + 1) later → IsFound part cs place after
found-open part cs place inside standing crossing later after alike stands e gives found = opened part cs place (some_of cs place inside) inside standing stands crossing later after alike e gives found

-- the mask of the later constraints has room for a bit
pub short_mask : (part : Region) (cs : List Constraint) (place : ℕ) (later : Finding) → length cs ≤ constraint_limit → place < length cs → IsFound part cs (place + 1) later → HasShortMask later
short_mask part cs place Broken few inside found = tt
short_mask part cs place (Crossed cut) few inside found = tt
short_mask part cs place (Under mask) few inside found =
    let fewer : length (drop (place + 1) cs) ≤ constraint_limit = omega (arith, length-drop (place + 1) cs, few) in
    let less : 2 ^ length (drop (place + 1) cs) ≤ 2 ^ constraint_limit = pow_mono fewer in
    omega (arith, found.short, less)

pub ruleset tells = (short_mask)

pub ruleset steps = (values_alike, found-none_of, found-inside, found-broken, found-across_values, short_mask)

-- ---- all constraints

-- nothing is said of no constraint
pub found-none : (part : Region) (cs : List Constraint) (place : ℕ) → length cs ≤ place → IsFound part cs place (Under 0)
found-none part cs place past = rw (drop_all place cs past) (record { short = omega arith; each = λ i c inside. absurd (omega arith) })

pub ruleset rounds = (found-none)

-- ---- masks without bits

-- a mask without bits is 0
zero_mask : (n mask : ℕ) → mask < 2 ^ n → ((k : ℕ) → k < n → has_bit mask k ≡ false) → mask ≡ 0
zero_mask zero mask short none = omega (arith, short)
zero_mask (suc n) mask short none =
    let twice : 2 ^ suc n ≡ 2 * 2 ^ n = pow-suc 2 n ∙ omega arith in
    let half : mask / 2 ≡ 0 = zero_mask n (mask / 2) (omega (arith, short, twice)) (λ k inside. rw (sym (bit_at-suc mask k)) (none (suc k) (omega (arith, inside)))) in
    let low = eqb-false (bit_at mask 0) 1 (none 0 (omega arith)) in
    omega (arith, half, low, bit_at-lt mask 0, bit_at_lowest mask)

-- constraints of which none speaks of any row have no bit
silent_mask : (part : Region) (cs : List Constraint) (mask : ℕ) → IsBox part → IsMaskOf cs part cs mask → All (SpeaksOfNone cs part) cs → mask ≡ 0
silent_mask part cs mask filled found silent =
    zero_mask (length cs) mask found.short
    (λ k inside. let d = some_of cs k inside in by_bit (has_bit mask k) (get_or cs k d) (found.each k d inside) (silent k d inside))
  where
    by_bit : (bit : Bool) (c : Constraint) → IsBitOf cs part c bit → SpeaksOfNone cs part c → bit ≡ false
    by_bit false c says none = refl
    by_bit true c says none = absurd (both_ways_when cs part c.when filled says.when none)

no_bits : (part : Region) (cs : List Constraint) → IsMaskOf cs part cs 0 → All (SpeaksOfNone cs part) cs
no_bits part cs found = λ place d inside. by_bit _ (has_bit 0 place) (rw (bit_at-zero place) refl) (found.each place d inside)
  where
    by_bit : (c : Constraint) (bit : Bool) → bit ≡ false → IsBitOf cs part c bit → SpeaksOfNone cs part c
    by_bit c false e says = says
    by_bit c true e says = absurd (cc)

-- ---- the region that is crossed

across_named : (part : Region) (when : When) (place : ℕ) → IsAcrossWhen part when place → IsAcross part (region_of when place)
across_named part (Boxes area) place across = across.across
across_named part Outside place across = absurd across

alike_named : (part : Region) (when : When) (place : ℕ) → IsAlikeToWhen part when → IsAcrossWhen part when place → AreAlike part (region_of when place)
alike_named part (Boxes area) place alike across = alike place no_box across.there
alike_named part Outside place alike across = absurd across

there_named : (part : Region) (when : When) (place : ℕ) → IsAcrossWhen part when place → HasBoxAt when place
there_named part (Boxes area) place across = across.there
there_named part Outside place across = absurd across

cut_through_area : (part : Region) (area : Area) (place : ℕ) (cut : Cut) → IsAcrossAt part area.boxes place → IsAlong part (box_in area.boxes place) cut → IsCutThroughArea part area cut
cut_through_area part area place cut across along = record {
  not_inside = across.not_inside;
  through = any_at (λ (region : Region). IsCutThrough part region cut) area.boxes place no_box across.there (record { across = across.across; along = along });
}

cut_named : (part : Region) (when : When) (place : ℕ) (cut : Cut) → IsAcrossWhen part when place → IsAlong part (region_of when place) cut → IsCutThroughWhen part when cut
cut_named part (Boxes area) place cut across along = cut_through_area part area place cut across along
cut_named part Outside place cut across along = absurd across

module _ (all : List Constraint) (part : Region) (place : ℕ) (c : Constraint) where
  abbrev region_in : Bool → Region
  region_in within = cond within c.values (region_of c.when place)

  across_region : (within : Bool) → IsCrossedBy all part within place c → IsAcross part (region_in within)
  across_region true crossed = crossed.1
  across_region false crossed = across_named part c.when place crossed

  alike_region : (within : Bool) → IsAlikeTo part c → IsCrossedBy all part within place c → AreAlike part (region_in within)
  alike_region true alike crossed = alike.values
  alike_region false alike crossed = alike_named part c.when place alike.when crossed

  there_region : (within : Bool) → IsCrossedBy all part within place c → cond within ⊤ (HasBoxAt c.when place)
  there_region true crossed = tt
  there_region false crossed = there_named part c.when place crossed

  cut_for : (within : Bool) (cut : Cut) → IsCrossedBy all part within place c → IsAlong part (region_in within) cut → IsCutFor all part cut c
  cut_for true cut crossed along = inl (crossed.0, record { across = crossed.1; along = along })
  cut_for false cut crossed along = inr (cut_named part c.when place cut crossed along)

-- the region that is read
module _ (cs : List Constraint) (crossing : Crossing) (d : Constraint) (there : crossing.place < length cs) where
  pub region-values : crossing.box_place ≡ None → IsRegionOf cs crossing (get_or cs crossing.place d).values
  region-values e = λ c.
      let other : Constraint = get_or cs crossing.place c in
      subst (λ (found : Option ℕ). (get_or cs crossing.place d).values ≡ cond (is_of_values found) other.values (region_of other.when (place_in found))) (sym e)
      (ap (λ (other : Constraint). other.values) (get_or_default cs crossing.place d c there))

  pub region-box : (region : Region) (place : ℕ) → crossing.box_place ≡ Some place → region ≡ region_of (get_or cs crossing.place d).when place → IsRegionOf cs crossing region
  region-box region place e is = λ c.
      let other : Constraint = get_or cs crossing.place c in
      subst (λ (found : Option ℕ). region ≡ cond (is_of_values found) other.values (region_of other.when (place_in found))) (sym e)
      (is ∙ ap (λ (other : Constraint). region_of other.when place) (get_or_default cs crossing.place d c there))

  pub region-there : (place : ℕ) → crossing.box_place ≡ Some place → HasRegionIn cs crossing → HasBoxAt (get_or cs crossing.place d).when place
  region-there place e has = subst (λ (found : Option ℕ). cond (is_of_values found) ⊤ (HasBoxAt (get_or cs crossing.place d).when (place_in found))) e (has d)

pub ruleset regions = (region-values, region-box, region-there)

-- ---- no mark fits a box that crosses a region

module _ (cs : List Constraint) (chosen : Area) (part : Region) (filled : IsBox part) where
  open_named : (when : When) (place : ℕ) (bit : Bool) → IsAcrossWhen part when place → cond bit (IsInsideWhen cs part when) (IsApartFromWhen cs part when) → ⊥
  open_named (Boxes area) place true across says = across.not_inside says
  open_named (Boxes area) place false across says = not_beside part area place across says
  open_named Outside place bit across says = absurd across

  open_for : (within bit : Bool) (place : ℕ) (c : Constraint) → IsCrossedBy cs part within place c → IsBitOf cs part c bit → ⊥
  open_for true true place c crossed says = crossed.1.not_inside says.values
  open_for true false place c crossed says = both_ways_when cs part c.when filled crossed.0 says
  open_for false true place c crossed says = open_named c.when place true crossed says.when
  open_for false false place c crossed says = open_named c.when place false crossed says

  pub open_crossed : (crossing : Crossing) (d : Constraint) → IsCrossing cs part crossing → (Any (IsRuledOut cs part) cs → ⊥) → CanBeSettled cs chosen part → ⊥
  open_crossed crossing d found none (Barren, inl ruled) = none ruled
  open_crossed crossing d found none (Barren, inr silent) =
      open_for (is_of_values crossing.box_place) false (place_in crossing.box_place) (get_or cs crossing.place d) (found.crossed d) (silent crossing.place d found.there)
  open_crossed crossing d found none (Class mask side, settled) =
      open_for (is_of_values crossing.box_place) (has_bit mask crossing.place) (place_in crossing.box_place) (get_or cs crossing.place d) (found.crossed d) (settled.each crossing.place d found.there)

  open_by_mask : (mask place : ℕ) → IsMaskOf cs part cs mask → (mask ≡ 0 → ⊥) → IsAcrossAt part chosen.boxes place → CanBeSettled cs chosen part → ⊥
  open_by_mask mask place found some across (Barren, inl ruled) = none_by_mask cs part cs mask filled found ruled
  open_by_mask mask place found some across (Barren, inr silent) = some (silent_mask part cs mask filled found silent)
  open_by_mask mask place found some across (Class other side, settled) = by_side side settled.side
    where
      by_side : (side : Bool) → IsSettledSide part chosen side → ⊥
      by_side true says = across.not_inside says
      by_side false says = not_beside part chosen place across says

-- ---- what is done

module _ (part : Region) (cs : List Constraint) (chosen : Area) (fits : IsComparable cs chosen part) where
  module _ (crossing : Crossing) (region : Region) (found : IsCrossing cs part crossing × (Any (IsRuledOut cs part) cs → ⊥)) (is : IsRegionOf cs crossing region) where
    abbrev first : Constraint
    first = some_of cs crossing.place found.0.there

    abbrev here : Constraint
    here = get_or cs crossing.place first

    region_alike : AreAlike part region
    region_alike = rw (is first) (alike_region cs part (place_in crossing.box_place) here (is_of_values crossing.box_place) (fits.each crossing.place first found.0.there) (found.0.crossed first))

    region_across : IsAcross part region
    region_across = rw (is first) (across_region cs part (place_in crossing.box_place) here (is_of_values crossing.box_place) (found.0.crossed first))

    needed_crossed : (cut : Cut) → IsAlong part region cut → IsNeeded cs chosen part cut
    needed_crossed cut along = record {
      divides = divided-along part region cut region_alike region_across.not_apart along;
      open_still = open_crossed cs chosen part fits.filled crossing first found.0 found.1;
      through = inl (any_at (IsCutFor cs part cut) cs crossing.place first found.0.there (cut_for cs part (place_in crossing.box_place) here (is_of_values crossing.box_place) cut (found.0.crossed first) (rw (is first) at along)));
    }

  module _ (finding : Finding) (found : IsFound part cs 0 finding) where
    pub barren-broken : finding ≡ Broken → IsBarren cs part
    barren-broken e = inl (subst (IsFound part cs 0) e found)

    pub barren-silent : (mask : ℕ) → finding ≡ Under mask → mask ≡ 0 → IsBarren cs part
    barren-silent mask e none = inr (no_bits part cs (subst (IsMaskOf cs part cs) none (subst (IsFound part cs 0) e found)))

    pub masked : (mask : ℕ) → finding ≡ Under mask → IsMaskOf cs part cs mask
    masked mask e = subst (IsFound part cs 0) e found

    pub crossed-there : (crossing : Crossing) → finding ≡ Crossed crossing → crossing.place < length cs
    crossed-there crossing e = (subst (IsFound part cs 0) e found).0.there

    pub crossed-has : (crossing : Crossing) → finding ≡ Crossed crossing → HasRegionIn cs crossing
    crossed-has crossing e = let crossed = (subst (IsFound part cs 0) e found).0 in λ c. there_region cs part (place_in crossing.box_place) (get_or cs crossing.place c) (is_of_values crossing.box_place) (crossed.crossed c)

    pub crossed-alike : (crossing : Crossing) (region : Region) → finding ≡ Crossed crossing → IsRegionOf cs crossing region → AreAlike part region
    crossed-alike crossing region e is = region_alike crossing region (subst (IsFound part cs 0) e found) is

    pub crossed-open : (crossing : Crossing) (region : Region) → finding ≡ Crossed crossing → IsRegionOf cs crossing region → IsInside part region → ⊥
    crossed-open crossing region e is = (region_across crossing region (subst (IsFound part cs 0) e found) is).not_inside

    pub crossed-needed : (crossing : Crossing) (region : Region) (cut : Cut) → finding ≡ Crossed crossing → IsRegionOf cs crossing region → IsAlong part region cut → IsNeeded cs chosen part cut
    crossed-needed crossing region cut e is along = needed_crossed crossing region (subst (IsFound part cs 0) e found) is cut along

  pub class-masked : (mask : ℕ) (side : Bool) → 0 < mask → IsMaskOf cs part cs mask → IsSettledSide part chosen side → IsSettledClass cs chosen part mask side
  class-masked mask side some found says = record { some = some; short = found.short; each = found.each; side = says }

  pub chosen-inside : (stance : AreaStance) → IsAreaStance part chosen stance → stance ≡ areas.Inside → IsSettledSide part chosen true
  chosen-inside stance says e = subst (IsAreaStance part chosen) e says

  pub chosen-apart : (stance : AreaStance) → IsAreaStance part chosen stance → stance ≡ areas.Apart → IsSettledSide part chosen false
  chosen-apart stance says e = subst (IsAreaStance part chosen) e says

  -- the box of the chosen area that is crossed, as it is read
  module _ (stance : AreaStance) (place faces : ℕ) (says : IsAreaStance part chosen stance) (e : stance ≡ areas.Across place faces) where
    across_chosen : IsAcrossAt part chosen.boxes place
    across_chosen = subst (IsAreaStance part chosen) e says

    pub chosen-there : (boxes : List Region) → boxes ≡ chosen.boxes → place < length boxes
    chosen-there boxes same = rw same across_chosen.there

    module _ (boxes : List Region) (d : Region) (same : boxes ≡ chosen.boxes) where
      read_is : get_or boxes place d ≡ box_in chosen.boxes place
      read_is = rw same (get_or_default chosen.boxes place d no_box across_chosen.there)

      pub chosen-alike : AreAlike part (get_or boxes place d)
      chosen-alike = rw read_is (fits.side place no_box across_chosen.there)

      pub chosen-open : IsInside part (get_or boxes place d) → ⊥
      chosen-open = rw read_is across_chosen.across.not_inside

      pub chosen-needed : (mask : ℕ) (cut : Cut) → 0 < mask → IsMaskOf cs part cs mask → IsAlong part (get_or boxes place d) cut → IsNeeded cs chosen part cut
      chosen-needed mask cut some found along =
          let along_it : IsAlong part (box_in chosen.boxes place) cut = subst (λ region. IsAlong part region cut) read_is along in
          record {
            divides = divided-along part (box_in chosen.boxes place) cut (fits.side place no_box across_chosen.there) across_chosen.across.not_apart along_it;
            open_still = open_by_mask cs chosen part fits.filled mask place found (λ none. omega (arith, some, none)) across_chosen;
            through = inr (cut_through_area part chosen place cut across_chosen along_it);
          }

pub ruleset ends = (barren-broken, barren-silent, masked, crossed-there, crossed-has)

pub ruleset sides = (class-masked, chosen-inside, chosen-apart, chosen-there, chosen-alike, chosen-open)
