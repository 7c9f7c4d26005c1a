-- A constraint with no cell, with one or with two is settled by what its rows are shared out to.
use Rattle.std.proofs.Common.{◌≡◌, ◌≢◌, ℕ, ◌+◌, ◌<◌, ◌≤◌, ◌^◌, ◌⊎◌, inl, inr, Bool, true, false, true≢false, cond, List, length, set, refl, ap, sym, ◌∙◌, subst, arith, get_or-set_same, get_or-set_other, length-set}
use Rattle.std.specs.Prelude.{ℤ, pos, ◌*ℤ◌, nat_abs, int_lt}
use Rattle.std.proofs.lemmas.Int.{ints}
use Rattle.std.proofs.lemmas.Bool.{cases_eq, cases_lt}
use Rattle.pc_program_bound.specs.declared.program.Program.{Program}
use Rattle.pc_program_bound.specs.Sums.{nat_at, int_at}
use Rattle.pc_program_bound.specs.Allocation.{cells_of, total}
use Rattle.pc_program.specs.declared.sharing.Shared.{Shared}
use Rattle.pc_program.specs.declared.sharing.Supply.{Supply}
use Rattle.pc_program.specs.Sharing.{IsReached, IsSharedOut}
use Rattle.pc_program.specs.Settled.{is_in, HasOneBits, IsDone, IsShort, IsSettled, IsFirstFrom, HasNoneFrom}
use Rattle.pc_program.proofs.Spikes.{total-none, total-one, total-two}

-- ---- parts

reached-same : (gain : ℤ) (cap count : ℕ) (by : ℤ) (g : ℤ) (c n : ℕ) → g ≡ gain → c ≡ cap → n ≡ count → IsReached gain cap count by → IsReached g c n by
reached-same gain cap count by g c n e1 e2 e3 reached = rw (e1, e2, e3) reached

-- a multiplier is 0 or one of the gains
by-small : (by g h : ℤ) → nat_abs g < 2 ^ 87 → nat_abs h < 2 ^ 87 → (by ≡ pos 0) ⊎ ((by ≡ g) ⊎ (by ≡ h)) → nat_abs by < 2 ^ 87
by-small by g h first second (inl e) = rw e (omega arith)
by-small by g h first second (inr (inl e)) = rw e first
by-small by g h first second (inr (inr e)) = rw e second

-- a total within its ends, where each cell of the constraint is as it should be
IsDone-from_total : (p : Program) (counts : List ℕ) (by : ℤ) (k t : ℕ) → total p counts k ≡ pos t → nat_at p.least k ≤ t → t ≤ nat_at p.most k
    → by *ℤ pos t ≡ by *ℤ pos (cond (int_lt (pos 0) by) (nat_at p.most k) (nat_at p.least k)) → nat_abs by < 2 ^ 87
    → ((i : ℕ) → i < cells_of p → is_in p i k ≡ true → (nat_at counts i ≤ nat_at p.cap i) × IsReached (int_at p.gain i) (nat_at p.cap i) (nat_at counts i) by)
    → IsDone p counts by k
IsDone-from_total p counts by k t is enough not_more reached small cells = record {
  inside = λ i h member. (cells i h member).0;
  reached = λ i h member. (cells i h member).1;
  enough = rw is (omega (arith, ints));
  not_more = rw is (omega (arith, ints));
  total_reached = ap (λ x. by *ℤ x) is ∙ reached;
  small = small;
}

-- ---- no cell

pub IsShort-none : (p : Program) (k : ℕ) → HasNoneFrom p k 0 → 0 < nat_at p.least k → IsShort p k
IsShort-none p k none some = rw (total-none p p.cap k (λ i h. none i (omega arith) h)) (omega (arith, ints))

pub IsSettled-none : (p : Program) (k : ℕ) → HasNoneFrom p k 0 → nat_at p.least k ≤ 0 → (counts : List ℕ) → IsSettled p counts counts (pos 0) k
IsSettled-none p k none few counts = record {
  done = IsDone-from_total p counts (pos 0) k 0 (total-none p counts k (λ i h. none i (omega arith) h)) few (omega arith) nothing (omega arith)
      (λ i h member. absurd (true≢false (sym member ∙ none i (omega arith) h)));
  kept = record { long = refl; others = λ i h out. refl };
}
  where
    nothing : pos 0 *ℤ pos 0 ≡ pos 0 *ℤ pos (cond (int_lt (pos 0) (pos 0)) (nat_at p.most k) (nat_at p.least k))
    nothing = omega (arith, ints)

-- ---- one cell

others-one : (p : Program) (k a : ℕ) → IsFirstFrom p k 0 a → HasNoneFrom p k (a + 1) → (i : ℕ) → i < cells_of p → i ≢ a → is_in p i k ≡ false
others-one p k a first none i h apart = elim (cases_lt i a) [ inl below ↦ first.before i (omega arith) below | inr above ↦ none i (omega arith) h ]

pub IsShort-one : (p : Program) (k a m n : ℕ) → IsFirstFrom p k 0 a → HasNoneFrom p k (a + 1) → m ≡ nat_at p.cap a → n ≡ 0
    → m + n < nat_at p.least k → IsShort p k
IsShort-one p k a m n first none cap empty few =
    let is = total-one p p.cap k a first.there first.member (others-one p k a first none) in
    omega (arith, ints, is, cap, empty, few)

pub IsSettled-one : (p : Program) (k a : ℕ) (counts : List ℕ) (s : Shared) (x y : Supply) → HasOneBits p → length counts ≡ cells_of p
    → IsFirstFrom p k 0 a → HasNoneFrom p k (a + 1) → x.cap ≡ nat_at p.cap a → x.gain ≡ int_at p.gain a → y.cap ≡ 0 → y.gain ≡ x.gain
    → IsSharedOut (nat_at p.least k) (nat_at p.most k) x y s → IsSettled p counts (set counts a s.first) s.by k
IsSettled-one p k a counts s x y one_bits sized first none cap gain empty same shared =
    let there : a < length counts = omega (arith, sized, first.there) in
    let out = others-one p k a first none in
    let here : nat_at (set counts a s.first) a ≡ s.first = get_or-set_same counts a s.first 0 there in
    let second : s.first + s.second ≡ s.first = omega (arith, shared.second_inside, empty) in
    let is : total p (set counts a s.first) k ≡ pos (s.first + s.second) =
    total-one p (set counts a s.first) k a first.there first.member out ∙ ap (λ n. pos n) (here ∙ sym second) in
    let small = one_bits.small a first.there in
    let gain_small : nat_abs x.gain < 2 ^ 87 = rw gain small in
    let same_small : nat_abs y.gain < 2 ^ 87 = rw (same, gain) small in
    record {
      done = IsDone-from_total p (set counts a s.first) s.by k (s.first + s.second) is shared.enough shared.not_more shared.total_reached
          (by-small s.by x.gain y.gain gain_small same_small shared.by_is)
          (λ i h member. elim (cases_eq i a) [
            | inl e ↦ subst (λ n. (nat_at (set counts a s.first) n ≤ nat_at p.cap n) × IsReached (int_at p.gain n) (nat_at p.cap n) (nat_at (set counts a s.first) n) s.by) (sym e)
                (omega (arith, here, cap, shared.first_inside), reached-same x.gain x.cap s.first s.by _ _ _ (sym gain) (sym cap) here shared.first_reached)
            | inr apart ↦ absurd (true≢false (sym member ∙ out i h apart))
          ]);
      kept = record {
        long = length-set counts a s.first;
        others = λ i h outside. get_or-set_other counts a i s.first 0 (λ e. true≢false (sym first.member ∙ subst (λ n. is_in p n k ≡ false) e outside));
      };
    }

-- ---- two cells

others-two : (p : Program) (k a b : ℕ) → HasOneBits p → IsFirstFrom p k 0 a → IsFirstFrom p k (a + 1) b
    → (i : ℕ) → i < cells_of p → i ≢ a → i ≢ b → is_in p i k ≡ false
others-two p k a b one_bits first second i h apart afar = elim (cases_lt i a) [
  | inl below ↦ first.before i (omega arith) below
  | inr above ↦ elim (cases_lt i b) [
    | inl between ↦ second.before i (omega arith) between
    | inr past ↦ by_test (is_in p i k) refl (omega arith)
  ]
]
  where
    by_test : (test : Bool) → is_in p i k ≡ test → b < i → is_in p i k ≡ false
    by_test true e past = absurd (one_bits.two a b i k (omega (arith, second.past)) past h first.member second.member e)
    by_test false e past = e

pub IsShort-two : (p : Program) (k a b m n : ℕ) → HasOneBits p → IsFirstFrom p k 0 a → IsFirstFrom p k (a + 1) b → m ≡ nat_at p.cap a
    → n ≡ nat_at p.cap b → m + n < nat_at p.least k → IsShort p k
IsShort-two p k a b m n one_bits first second cap cap2 few =
    let is = total-two p p.cap k a b (omega (arith, second.past)) second.there first.member second.member (others-two p k a b one_bits first second) in
    omega (arith, ints, is, cap, cap2, few)

pub IsSettled-two : (p : Program) (k a b : ℕ) (counts : List ℕ) (s : Shared) (x y : Supply) → HasOneBits p → length counts ≡ cells_of p
    → IsFirstFrom p k 0 a → IsFirstFrom p k (a + 1) b → x.cap ≡ nat_at p.cap a → x.gain ≡ int_at p.gain a → y.cap ≡ nat_at p.cap b → y.gain ≡ int_at p.gain b
    → IsSharedOut (nat_at p.least k) (nat_at p.most k) x y s → IsSettled p counts (set (set counts a s.first) b s.second) s.by k
IsSettled-two p k a b counts s x y one_bits sized first second cap1 gain1 cap2 gain2 shared =
    let one = set counts a s.first in
    let both = set one b s.second in
    let order : a < b = omega (arith, second.past) in
    let long : length one ≡ length counts = length-set counts a s.first in
    let there : a < length counts = omega (arith, sized, first.there) in
    let there2 : b < length one = omega (arith, sized, second.there, long) in
    let out = others-two p k a b one_bits first second in
    let here1 : nat_at both a ≡ s.first = get_or-set_other one b a s.second 0 (λ e. omega arith) ∙ get_or-set_same counts a s.first 0 there in
    let here2 : nat_at both b ≡ s.second = get_or-set_same one b s.second 0 there2 in
    let is : total p both k ≡ pos (s.first + s.second) =
    total-two p both k a b order second.there first.member second.member out ∙ ap (λ n. pos n) (omega (arith, here1, here2)) in
    let small1 : nat_abs x.gain < 2 ^ 87 = rw gain1 (one_bits.small a first.there) in
    let small2 : nat_abs y.gain < 2 ^ 87 = rw gain2 (one_bits.small b second.there) in
    record {
      done = IsDone-from_total p both s.by k (s.first + s.second) is shared.enough shared.not_more shared.total_reached
          (by-small s.by x.gain y.gain small1 small2 shared.by_is)
          (λ i h member. elim (cases_eq i a) [
            | inl e ↦ subst (λ n. (nat_at both n ≤ nat_at p.cap n) × IsReached (int_at p.gain n) (nat_at p.cap n) (nat_at both n) s.by) (sym e)
                (omega (arith, here1, cap1, shared.first_inside), reached-same x.gain x.cap s.first s.by _ _ _ (sym gain1) (sym cap1) here1 shared.first_reached)
            | inr apart ↦ elim (cases_eq i b) [
              | inl e ↦ subst (λ n. (nat_at both n ≤ nat_at p.cap n) × IsReached (int_at p.gain n) (nat_at p.cap n) (nat_at both n) s.by) (sym e)
                  (omega (arith, here2, cap2, shared.second_inside), reached-same y.gain y.cap s.second s.by _ _ _ (sym gain2) (sym cap2) here2 shared.second_reached)
              | inr afar ↦ absurd (true≢false (sym member ∙ out i h apart afar))
            ]
          ]);
      kept = record {
        long = length-set one b s.second ∙ long;
        others = λ i h outside.
            get_or-set_other one b i s.second 0 (λ e. true≢false (sym second.member ∙ subst (λ n. is_in p n k ≡ false) e outside))
            ∙ get_or-set_other counts a i s.first 0 (λ e. true≢false (sym first.member ∙ subst (λ n. is_in p n k ≡ false) e outside));
      };
    }

pub ruleset none = (IsShort-none, IsSettled-none)
