-- What a tree shows whose program has no counts that are looked for.
use Rattle.std.proofs.Common.{◌≡◌, ℕ, ℤ, pos, neg_ℤ, ◌≤ℤ◌, Option, Some, None, refl, arith}
use Rattle.std.specs.Prelude.{IfSome, MatchOption, ⊤}
use Rattle.std.specs.Int.{int_max}
use Rattle.std.proofs.lemmas.Int.{ints, clamps}
use Rattle.pc_model.specs.declared.tree.Tree.{Tree}
use Rattle.pc_program_bound.specs.declared.program.Program.{Program}
use Rattle.pc_branch_licences.proofs.NodeCounts.{few_nodes}
use Rattle.pc_proof.specs.Setting.{Setting, seen_count}
use Rattle.pc_proof.specs.Table.{limit as bound_limit, bound_for, IsSound, Shows, ShowsForced}
use Rattle.pc_agg_search.specs.declared.want.Want.{Want}
use Rattle.pc_agg_search.specs.declared.want.Want.TheVariants as wants
use Rattle.pc_agg_search.specs.declared.limit.Limit.{Limit}
use Rattle.pc_agg_search.specs.Fitting.{IsFitTree, IsSmallTree}
use Rattle.pc_agg_search.specs.Limits.{IsLimit, IsEmpty}
use Rattle.pc_agg_search.specs.Wants.{IsUnder, FallsShort}

-- what is not wanted is worth at most 0
abbrev IsLow : Want → Type 0
IsLow wants.Any = ⊤
IsLow wants.Gaining = ⊤
IsLow wants.Without = ⊤
IsLow (wants.From least) = least ≤ℤ pos 1

under_small : (want : Want) (k : ℤ) → IsLow want → IsUnder want k → k ≤ℤ pos 0
under_small wants.Any k low under = absurd under
under_small wants.Gaining k low under = under
under_small wants.Without k low under = omega (arith, ints, under)
under_small (wants.From least) k low under = omega (arith, ints, low, under)

all_small : (want : Want) (k : Option ℤ) → IsLow want → MatchOption k ⊤ (IsUnder want) → IfSome k (λ x. x ≤ℤ bound_limit)
all_small want None low under = tt
all_small want (Some k) low under = omega (arith, ints, under_small want k low under)

pub sound_short : (p : Program) (want : Want) (budget : ℕ) (tree : Tree) → IsLow want → FallsShort p want budget tree → IsSound p tree
sound_short p want budget tree low short = record { proves = short.proves; small = all_small want (bound_for p tree) low short.under }

pass_none : (k : Option ℤ) → MatchOption k ⊤ (IsUnder wants.Gaining) → IfSome k (λ x. int_max x (neg_ℤ bound_limit) ≤ℤ pos 0)
pass_none None under = tt
pass_none (Some k) under = omega (arith, ints, clamps, under)

pass_some : (k : Option ℤ) → MatchOption k ⊤ (IsUnder wants.Without) → IfSome k (λ x. int_max x (neg_ℤ bound_limit) ≤ℤ neg_ℤ (pos 1))
pass_some None under = tt
pass_some (Some k) under = omega (arith, ints, clamps, under)

-- no row is gained, and each list has a row
pub shows_no_gain : (p : Program) (budget : ℕ) (tree : Tree) → FallsShort p wants.Gaining budget tree → Shows p tree (λ k. k ≤ℤ pos 0)
shows_no_gain p budget tree short = record { sound = sound_short p wants.Gaining budget tree tt short; passes = pass_none (bound_for p tree) short.under }

pub shows_some_row : (p : Program) (budget : ℕ) (tree : Tree) → FallsShort p wants.Without budget tree → Shows p tree (λ k. k ≤ℤ neg_ℤ (pos 1))
shows_some_row p budget tree short = record { sound = sound_short p wants.Without budget tree tt short; passes = pass_some (bound_for p tree) short.under }

-- lists with a value do not avoid the cells
forced_any : (P : ℤ → Type 0) (k : Option ℤ) → MatchOption k ⊤ (IsUnder wants.Any) → IfSome k P
forced_any P None under = tt
forced_any P (Some k) under = absurd under

pub shows_forced_any : (s : Setting) (p : Program) (budget : ℕ) (tree : Tree) → FallsShort p wants.Any budget tree → ShowsForced s p tree
shows_forced_any s p budget tree short = record { sound = sound_short p wants.Any budget tree tt short; forced = forced_any (λ k. (seen_count s.question ≡ pos 0) × (k ≤ℤ pos 0)) (bound_for p tree) short.under }

forced_gaining : (P : Type 0) (k : Option ℤ) → P → MatchOption k ⊤ (IsUnder wants.Gaining) → IfSome k (λ x. P × (x ≤ℤ pos 0))
forced_gaining P None there under = tt
forced_gaining P (Some k) there under = (there, under)

pub shows_forced_gaining : (s : Setting) (p : Program) (budget : ℕ) (tree : Tree) → seen_count s.question ≡ pos 0 → FallsShort p wants.Gaining budget tree → ShowsForced s p tree
shows_forced_gaining s p budget tree none short =
    record { sound = sound_short p wants.Gaining budget tree tt short; forced = forced_gaining (seen_count s.question ≡ pos 0) (bound_for p tree) none short.under }

-- a tree of void leaves falls short of anything, and one that falls short of any counts has void leaves alone
pub empty_short : (p : Program) (want : Want) (budget : ℕ) (tree : Tree) → IsEmpty p budget tree → FallsShort p want budget tree
empty_short p want budget tree empty = record { preorder = empty.preorder; proves = empty.proves; under = rw empty.none tt; search = empty.search; fits = empty.fits }

no_bound : (k : Option ℤ) → MatchOption k ⊤ (IsUnder wants.Any) → k ≡ None
no_bound None under = refl
no_bound (Some k) under = absurd under

pub short_empty : (p : Program) (budget : ℕ) (tree : Tree) → FallsShort p wants.Any budget tree → IsEmpty p budget tree
short_empty p budget tree short = record { preorder = short.preorder; proves = short.proves; none = no_bound (bound_for p tree) short.under; search = short.search; fits = short.fits }

-- its numbers fit
pub small_short : (p : Program) (want : Want) (budget : ℕ) (tree : Tree) → FallsShort p want budget tree → IsSmallTree budget tree
small_short p want budget tree short = record { fits = record { preorder = short.preorder; leaves = short.fits }; few = few_nodes p budget None tree short.preorder short.search }

pub fit_limit : (p : Program) (budget : ℕ) (limit : Limit) → IsLimit p budget limit → IsFitTree limit.tree
fit_limit p budget limit is = record { preorder = is.preorder; leaves = is.fits }

pub small_limit : (p : Program) (budget : ℕ) (limit : Limit) → IsLimit p budget limit → IsSmallTree budget limit.tree
small_limit p budget limit is = record { fits = fit_limit p budget limit is; few = few_nodes p budget None limit.tree is.preorder is.search }
