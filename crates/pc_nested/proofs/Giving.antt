-- A constraint is filled, cell by cell.
use Rattle.std.proofs.Common.{◌≡◌, ℕ, ◌+◌, ◌-◌, ◌<◌, ◌≤◌, true, true≢false, inl, inr, List, length, set, refl, sym, ◌∙◌, subst, arith, get_or-set_same, get_or-set_other, length-set}
use Rattle.std.specs.Prelude.{ℤ, pos, ◌+ℤ◌, ◌≤ℤ◌, false}
use Rattle.std.proofs.lemmas.Int.{ints, by_lt_z}
use Rattle.std.proofs.lemmas.Bool.{cases_eq, cases_lt}
use Rattle.pc_program_bound.specs.declared.program.Program.{Program}
use Rattle.pc_program_bound.specs.Sums.{nat_at, int_at}
use Rattle.pc_program_bound.specs.Allocation.{cells_of, total}
use Rattle.pc_program.specs.Settled.{is_in}
use Rattle.pc_nested.specs.Filled.{AreSmall, AreBelow, IsChosen, IsDearest, HasNoRoom, IsTopPrice, IsFilling}
use Rattle.pc_nested.proofs.Totals.{total_mono, total_added}

-- nothing is added yet
pub IsFilling-none : (p : Program) (k : ℕ) (lows highs : List ℕ) (price : ℤ) (left target : ℕ) → AreBelow p lows highs → IsTopPrice p k lows highs price
    → (total p lows k +ℤ pos left) ≡ pos target → IsFilling p k lows highs lows price left target
IsFilling-none p k lows highs price left target ordered top is = record {
  long = refl;
  others = λ i h out. refl;
  chosen = λ i h member. record {
    above = omega arith;
    below = ordered i h;
    full = λ less. elim (cases_lt (nat_at lows i) (nat_at highs i)) [
      | inl room ↦ let most = top.top i h member room in absurd (omega (arith, ints, less, most))
      | inr none ↦ let le = ordered i h in omega (arith, none, le)
    ];
    empty = λ more. refl;
  };
  total = is;
  small = top.small;
}

-- one cell more
pub IsFilling-more : (p : Program) (k : ℕ) (lows highs counts : List ℕ) (price : ℤ) (left target cell count share : ℕ) → AreSmall p
    → length counts ≡ cells_of p → IsDearest p k counts highs (cells_of p) cell → count ≡ nat_at counts cell + share → share ≤ left
    → count ≤ nat_at highs cell → IsFilling p k lows highs counts price left target
    → (after : ℕ) → after + share ≡ left → IsFilling p k lows highs (set counts cell count) (int_at p.gain cell) after target
IsFilling-more p k lows highs counts price left target cell count share gains sized dearest is few room filling after rest = record {
  long = length-set counts cell count ∙ filling.long;
  others = λ i h out. get_or-set_other counts cell i count 0 (λ e. true≢false (sym dearest.member ∙ subst (λ n. is_in p n k ≡ false) e out))
      ∙ filling.others i h out;
  chosen = λ i h member. elim (cases_eq i cell) [
    | inl e ↦ subst (λ n. IsChosen (int_at p.gain n) (nat_at lows n) (nat_at highs n) (int_at p.gain cell) (nat_at (set counts cell count) n)) (sym e) here
    | inr apart ↦
        subst (λ n. IsChosen (int_at p.gain i) (nat_at lows i) (nat_at highs i) (int_at p.gain cell) n) (sym (get_or-set_other counts cell i count 0 apart)) (there i h member)
  ];
  total =
      let all = total_added p counts k cell count share sized dearest.there dearest.member is in
      let before = filling.total in
      omega (arith, ints, all, before, rest);
  small = let fits = gains cell dearest.there in omega (arith, fits);
}
  where
    low : nat_at lows cell ≤ nat_at counts cell
    low = (filling.chosen cell dearest.there dearest.member).above

    -- the dearest cell is at most as dear as the price before
    falls : int_at p.gain cell ≤ℤ price
    falls = by_lt_z price (int_at p.gain cell)
        (λ less. let full = (filling.chosen cell dearest.there dearest.member).full less in let some = dearest.room in absurd (omega (arith, full, some)))
        (λ h. h)

    here : IsChosen (int_at p.gain cell) (nat_at lows cell) (nat_at highs cell) (int_at p.gain cell) (nat_at (set counts cell count) cell)
    here =
        let new : nat_at (set counts cell count) cell ≡ count = get_or-set_same counts cell count 0 (let t = dearest.there in omega (arith, sized, t)) in
        record {
          above = omega (arith, new, low, is);
          below = omega (arith, new, room);
          full = λ less. absurd (omega (arith, ints, less));
          empty = λ less. absurd (omega (arith, ints, less));
        }

    there : (i : ℕ) → i < cells_of p → is_in p i k ≡ true → IsChosen (int_at p.gain i) (nat_at lows i) (nat_at highs i) (int_at p.gain cell) (nat_at counts i)
    there i h member =
        let chosen = filling.chosen i h member in
        record {
          above = chosen.above;
          below = chosen.below;
          full = λ less. elim (cases_lt (nat_at counts i) (nat_at highs i)) [
            | inl some ↦ let most = dearest.dearest i h member some in absurd (omega (arith, ints, less, most))
            | inr none ↦ let le = chosen.below in omega (arith, none, le)
          ];
          empty = λ more. chosen.empty (omega (arith, ints, more, falls));
        }

-- where no cell has room, nothing is left
pub none_left : (p : Program) (k : ℕ) (lows highs counts : List ℕ) (price : ℤ) (left target : ℕ) → HasNoRoom p k counts highs (cells_of p)
    → pos target ≤ℤ total p highs k → IsFilling p k lows highs counts price left target → left ≡ 0
none_left p k lows highs counts price left target none enough filling =
    let most = total_mono p highs counts k none in
    let is = filling.total in
    omega (arith, ints, most, enough, is)

-- as a call of each ends
pub begin_filling : (p : Program) (k : ℕ) (lows highs : List ℕ) (price : ℤ) (all left target : ℕ) → AreBelow p lows highs → IsTopPrice p k lows highs price
    → pos all ≡ total p lows k → all + left ≡ target → IsFilling p k lows highs lows price left target
begin_filling p k lows highs price all left target ordered top is sum =
    IsFilling-none p k lows highs price left target ordered top (omega (arith, ints, is, sum))

pub few_rows : (p : Program) (k : ℕ) (lows : List ℕ) (all target : ℕ) → pos all ≡ total p lows k → total p lows k ≤ℤ pos target → all ≤ target
few_rows p k lows all target is few = omega (arith, ints, is, few)

pub filled_none : (p : Program) (k : ℕ) (lows highs counts : List ℕ) (price : ℤ) (left target : ℕ) → HasNoRoom p k counts highs (cells_of p)
    → pos target ≤ℤ total p highs k → IsFilling p k lows highs counts price left target → IsFilling p k lows highs counts price 0 target
filled_none p k lows highs counts price left target none enough filling =
    subst (λ n. IsFilling p k lows highs counts price n target) (none_left p k lows highs counts price left target none enough filling) filling

pub filled_all : (p : Program) (k : ℕ) (lows highs counts : List ℕ) (price : ℤ) (left target : ℕ) → left ≤ 0
    → IsFilling p k lows highs counts price left target → IsFilling p k lows highs counts price 0 target
filled_all p k lows highs counts price left target none filling =
    subst (λ n. IsFilling p k lows highs counts price n target) (omega (arith, none)) filling

pub ruleset beginning = (begin_filling, few_rows)

pub ruleset filled = (filled_none, filled_all)

-- a cell is given its share
pub filled_cell : (p : Program) (k : ℕ) (highs counts : List ℕ) (price : ℤ) (left cell share : ℕ) (gain : ℤ) → AreSmall p → length counts ≡ cells_of p
    → IsDearest p k counts highs (cells_of p) cell → share ≤ left → nat_at counts cell + share ≤ nat_at highs cell → gain ≡ int_at p.gain cell
    → (lows : List ℕ) (target : ℕ) → IsFilling p k lows highs counts price left target
    → IsFilling p k lows highs (set counts cell (nat_at counts cell + share)) gain (left - share) target
filled_cell p k highs counts price left cell share gain gains sized dearest few room e lows target filling =
    rw e (IsFilling-more p k lows highs counts price left target cell (nat_at counts cell + share) share gains sized dearest refl few room filling (left - share) (omega (arith, few)))

pub filled_sized : (counts : List ℕ) (cell count n : ℕ) → length counts ≡ n → length (set counts cell count) ≡ n
filled_sized counts cell count n sized = length-set counts cell count ∙ sized

pub dearest_room : (p : Program) (k : ℕ) (counts highs : List ℕ) (cell : ℕ) → IsDearest p k counts highs (cells_of p) cell
    → (cell < cells_of p) × (nat_at counts cell < nat_at highs cell)
dearest_room p k counts highs cell dearest = (dearest.there, dearest.room)

pub ruleset filled_cells = (filled_cell, filled_sized, dearest_room)
