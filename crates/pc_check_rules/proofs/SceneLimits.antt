-- Programs made of limited constraints have lists of the right lengths, and ends in order.
use Rattle.std.proofs.Common.{◌≡◌, ℕ, ◌≤◌, ◌<◌, ◌/◌, min, ℤ, cond, Bool, true, false, ◌&&◌, List, [], ◌∷◌, length, map, get_or, fold, All, refl, sym, ◌∙◌, arith}
use Rattle.std.specs.Prelude.{if◌then◌else◌, unwrap_or}
use Rattle.std.specs.List.{reduce}
use Rattle.std.proofs.lemmas.List.{length-map, get_or-map}
use Rattle.std.proofs.lemmas.List.Elements.{All-nil, All-cons, All-head, All-tail}
use Rattle.pc_model.specs.declared.constraint.Constraint.{Constraint}
use Rattle.pc_model.specs.declared.query.Agg.{Agg}
use Rattle.pc_model.specs.declared.query.Agg.TheVariants.{Count, Sum, Min, Max, Avg}
use Rattle.pc_model.specs.Aggregate.{Ratio}
use Rattle.pc_model.specs.Cells.{Class}
use Rattle.pc_model.specs.Places.{has_bit}
use Rattle.pc_program_bound.specs.declared.program.Program.{Program}
use Rattle.pc_program_bound.specs.Allocation.{IsProgram}
use Rattle.pc_program_bound.specs.CellPrograms.{members, cap_of}
use Rattle.pc_program_bound.proofs.CellPlaces.{no_class, no_constraint, cell_inside, constraint_inside, cap_is, floor_is, least_is, most_is}
use Rattle.pc_check_rules.specs.declared.cells.GatheredCell.{GatheredCell}
use Rattle.pc_check_rules.specs.declared.extreme.Extreme.{Extreme}
use Rattle.pc_check_rules.specs.declared.extreme.Extreme.TheVariants.{Low, High}
use Rattle.pc_check_rules.specs.Cells.{class_of_cell}
use Rattle.pc_check_rules.specs.Scene.{AreLimited}
use Rattle.pc_check_rules.specs.Programs.{is_closed, gain_towards, open_caps, program_on, open_on, with_closed, program_towards}

-- ---- no cap is above the greatest `most`

fold_at_most : (n first : ℕ) (numbers : List ℕ) → first ≤ n → fold min first numbers ≤ n
fold_at_most n first [] small = small
fold_at_most n first (m ∷ numbers) small = fold_at_most n (min first m) numbers (omega arith)

abbrev most_of : Constraint → ℕ
most_of c = c.most

abbrev least_most : List Constraint → ℕ
least_most cs = unwrap_or (reduce min (map most_of cs)) 0

cap_small : (n mask : ℕ) (cs : List Constraint) → All (λ (c : Constraint). c.most ≤ n) cs → least_most (members mask cs) ≤ n
cap_small n mask [] each = omega arith
cap_small n mask (c ∷ cs) each =
    by_bit (has_bit mask 0) (All-head (λ (d : Constraint). d.most ≤ n) c cs each) (cap_small n (mask / 2) cs (All-tail (λ (d : Constraint). d.most ≤ n) c cs each))
  where
    by_bit : (bit : Bool) → c.most ≤ n → least_most (members (mask / 2) cs) ≤ n → least_most (if bit then c ∷ members (mask / 2) cs else members (mask / 2) cs) ≤ n
    by_bit true first later = fold_at_most n c.most (map most_of (members (mask / 2) cs)) first
    by_bit false first later = later

-- ---- a program of cells

module _ (constraints : List Constraint) (limited : AreLimited constraints) (cells : List GatheredCell) (gains : List ℤ) (sized : length gains ≡ length cells) where
  abbrev classes : List Class
  classes = map class_of_cell cells

  abbrev program : Program
  program = program_on constraints cells gains

  as_masks : (xs : List ℕ) → length xs ≡ length cells → length xs ≡ length program.masks
  as_masks xs long = omega (arith, long, length-map classes (λ (class : Class). class.mask), length-map cells class_of_cell)

  cap_within : (i : ℕ) → i < length program.masks → get_or program.cap i 0 ≤ 1_000_000_000
  cap_within i h =
      let there = cell_inside constraints classes gains i h in
      let small = cap_small 1_000_000_000 (get_or classes i no_class).mask constraints limited.small in
      omega (arith, small, cap_is constraints classes gains i there)

  pub on_program : IsProgram program
  on_program = record {
    mosts = length-map constraints (λ (c : Constraint). c.most) ∙ sym (length-map constraints (λ (c : Constraint). c.least));
    floors = length-map classes (λ (class : Class). 0) ∙ sym (length-map classes (λ (class : Class). class.mask));
    caps = length-map classes (cap_of constraints) ∙ sym (length-map classes (λ (class : Class). class.mask));
    gains = omega (arith, sized, length-map classes (λ (class : Class). class.mask), length-map cells class_of_cell);
    few = omega (arith, limited.few, length-map constraints (λ (c : Constraint). c.least));
    ordered = λ j h.
        let there = constraint_inside constraints classes gains j h in
        let ordered = limited.ordered j no_constraint there in
        omega (arith, ordered, least_is constraints classes gains j there, most_is constraints classes gains j there);
    boxed = λ i h. omega (arith, floor_is constraints classes gains i (cell_inside constraints classes gains i h));
    small_most = λ j h.
        let there = constraint_inside constraints classes gains j h in
        let small = limited.small j no_constraint there in
        omega (arith, small, most_is constraints classes gains j there);
    small_cap = cap_within;
  }

-- ---- with closed cells

cap_lowered : (shut : Bool) (cap n : ℕ) → cap ≤ n → cond shut 0 cap ≤ n
cap_lowered true cap n small = omega arith
cap_lowered false cap n small = small

caps_lowered : (n : ℕ) (extreme : Extreme) (v : Ratio) (cells : List GatheredCell) (caps : List ℕ) → All (λ cap. cap ≤ n) caps → All (λ cap. cap ≤ n) (open_caps extreme v cells caps)
caps_lowered n extreme v [] caps small = All-nil (λ cap. cap ≤ n)
caps_lowered n extreme v (cell ∷ cells) [] small = All-nil (λ cap. cap ≤ n)
caps_lowered n extreme v (cell ∷ cells) (cap ∷ caps) small =
    All-cons (λ k. k ≤ n) (cond (cell.chosen && is_closed extreme v cell) 0 cap) (open_caps extreme v cells caps)
    (cap_lowered (cell.chosen && is_closed extreme v cell) cap n (All-head (λ k. k ≤ n) cap caps small))
    (caps_lowered n extreme v cells caps (All-tail (λ k. k ≤ n) cap caps small))

as_many : (extreme : Extreme) (v : Ratio) (cells : List GatheredCell) (caps : List ℕ) → length caps ≡ length cells → length (open_caps extreme v cells caps) ≡ length cells
as_many extreme v [] caps sized = refl
as_many extreme v (cell ∷ cells) [] sized = sized
as_many extreme v (cell ∷ cells) (cap ∷ caps) sized =
    let shorter : length caps ≡ length cells = omega (arith, sized) in
    let later = as_many extreme v cells caps shorter in
    omega (arith, later)

-- as many caps as cells, and none is great
record HaveCaps (p : Program) (count : ℕ) : Type 0 where
  program : IsProgram p
  sized : length p.masks ≡ count
  small : All (λ cap. cap ≤ 1_000_000_000) p.cap
  floors : (i : ℕ) → i < length p.masks → get_or p.floor i 0 ≡ 0

closed_program : (extreme : Extreme) (v : Ratio) (cells : List GatheredCell) (p : Program) → HaveCaps p (length cells) → IsProgram (with_closed extreme v cells p)
closed_program extreme v cells p have =
    let was = have.program in
    let long : length p.cap ≡ length cells = was.caps ∙ have.sized in
    let many = as_many extreme v cells p.cap long in
    let small = caps_lowered 1_000_000_000 extreme v cells p.cap have.small in
    record {
      mosts = was.mosts;
      floors = was.floors;
      caps = many ∙ sym have.sized;
      gains = was.gains;
      few = was.few;
      ordered = was.ordered;
      boxed = λ i h. omega (arith, have.floors i h);
      small_most = was.small_most;
      small_cap = λ i h. small i 0 (omega (arith, h, many, have.sized));
    }

module _ (constraints : List Constraint) (limited : AreLimited constraints) (cells : List GatheredCell) (v : Ratio) where
  open_program : (extreme : Extreme) (agg : Agg) → IsProgram (open_on extreme constraints cells agg v)
  open_program extreme agg = on_program constraints limited cells (map (gain_towards extreme agg v) cells) (length-map cells (gain_towards extreme agg v))

  have_caps : (extreme : Extreme) (agg : Agg) → HaveCaps (open_on extreme constraints cells agg v) (length cells)
  have_caps extreme agg =
      let gains = map (gain_towards extreme agg v) cells in
      let classes_are = map class_of_cell cells in
      record {
        program = open_program extreme agg;
        sized = length-map classes_are (λ (class : Class). class.mask) ∙ length-map cells class_of_cell;
        small = λ i d h.
            let there : i < length classes_are = omega (arith, h, length-map classes_are (cap_of constraints)) in
            let small = cap_small 1_000_000_000 (get_or classes_are i no_class).mask constraints limited.small in
            omega (arith, small, get_or-map (cap_of constraints) classes_are i no_class d there);
        floors = λ i h. floor_is constraints classes_are gains i (cell_inside constraints classes_are gains i h);
      }

  pub towards_program : (extreme : Extreme) (agg : Agg) → IsProgram (program_towards extreme constraints cells agg v)
  towards_program High Count = open_program High Count
  towards_program High Sum = open_program High Sum
  towards_program High Min = closed_program High v cells (open_on High constraints cells Min v) (have_caps High Min)
  towards_program High Max = open_program High Max
  towards_program High Avg = open_program High Avg
  towards_program Low Count = open_program Low Count
  towards_program Low Sum = open_program Low Sum
  towards_program Low Min = open_program Low Min
  towards_program Low Max = closed_program Low v cells (open_on Low constraints cells Max v) (have_caps Low Max)
  towards_program Low Avg = open_program Low Avg
