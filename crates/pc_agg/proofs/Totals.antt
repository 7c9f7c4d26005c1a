-- What searches of totals settle, and the lists that they find.
use Rattle.std.proofs.Common.{◌≡◌, ℕ, ◌<◌, ◌≤◌, ◌^◌, ℤ, pos, neg_ℤ, nat_abs, ◌≤ℤ◌, ◌<ℤ◌, Bool, true, false, cond, inl, inr, ◌⊎◌, List, [], ◌∷◌, length, map, All, Option, Some, None, Result, Ok, Err, refl, sym, ap, ap₂, subst, ◌∙◌, arith}
use Rattle.std.specs.Prelude.{int_lt, slice_index_or, IfSome, IfOk, MatchOption, ⊤}
use Rattle.std.proofs.lemmas.Int.{ints, clamps}
use Rattle.std.proofs.lemmas.List.{length-map, get_or_default}
use Rattle.std.proofs.lemmas.List.Elements.{All-cons, All-nil, All-head, All-tail}
use Rattle.std.proofs.lemmas.Slice.Zip.{AllZip-long}
use Rattle.pc_model.specs.declared.row.Row.{Row}
use Rattle.pc_model.specs.declared.tree.Tree.{Tree}
use Rattle.pc_model.specs.Cells.{Class, IsRowOf}
use Rattle.pc_model.specs.Runs.{runs_from}
use Rattle.pc_program_bound.specs.declared.program.Program.{Program}
use Rattle.pc_program_bound.specs.Allocation.{IsProgram, IsAllocation}
use Rattle.pc_program_bound.specs.CellPrograms.{program_with}
use Rattle.pc_proof.specs.declared.answer.Relation.TheVariants as relations
use Rattle.pc_proof.specs.declared.answer.Lack.TheVariants as lacks
use Rattle.pc_proof.specs.declared.answer.Why.TheVariants as whys
use Rattle.pc_proof.specs.Setting.{Setting, cells, program_for}
use Rattle.pc_proof.specs.Table.{one, minus_one, bound_for, IsSound, Cross}
use Rattle.pc_branch_licences.specs.Pools.{AreLawful}
use Rattle.pc_branch_licences.specs.Wanted.{any, LeavesOpen}
use Rattle.pc_branch_licences.proofs.Trees.{licence-open}
use Rattle.pc_agg_search.specs.declared.limit.Limit.{Limit}
use Rattle.pc_agg.specs.declared.settling.Settled.{Settled}
use Rattle.pc_agg.specs.declared.settling.Total.{Total}
use Rattle.pc_agg.specs.declared.settling.Total.TheVariants as totals
use Rattle.pc_agg_search.specs.Limits.{IsLimit, IsReached, IsCutShort, IsEmpty}
use Rattle.pc_agg.specs.Settling.{AreRowsOfCells, AreOpenTotals, IsLimitOfGain, IsSettled, IsLeftOpen, IsTotal, IsTotalOf, left_open, settled_after}
use Rattle.pc_agg.specs.ShownRows.{AreShownLow}
use Rattle.pc_agg_search.proofs.Empty.{void_tree}
use Rattle.pc_agg_search.proofs.Shorts.{small_limit}
use Rattle.pc_agg.proofs.Ending.{within_limit}

-- what holds of a good result by two clauses, one of which has a premise
pub ok_both : {X E D : Type 0} (r : Result X E) (P Q R : X → Type 0) → IfOk r P → (D → IfOk r Q) → ((x : X) → P x → (D → Q x) → R x) → IfOk r R
ok_both (Ok x) P Q R first second join = join x first second
ok_both (Err e) P Q R first second join = tt

-- ---- gains

module _ (u : Setting) where
  -- ---- a list

  pub sized_rows : (picks : List Row) (counts : List ℕ) → AreRowsOfCells u picks → AreLawful u counts → length picks ≡ length counts
  sized_rows picks counts rows lawful =
      AllZip-long (IsRowOf u.question.schema u.question.constraints u.question.query.chosen) (cells u) picks rows ∙ sym (lawful.sized ∙ length-map (cells u) (λ (class : Class). class.mask))

  pub settled_listed : (budget : ℕ) (picks : List Row) (found : List (List ℕ)) (settled : Settled) → AreRowsOfCells u picks → AreShownLow u (runs_from picks (slice_index_or found 0 [])) → 0 < length found → All (AreLawful u) found →
      settled ≡ record { relation = relations.Possible (runs_from picks (slice_index_or found 0 [])); lack = lacks.Silent; found = found } → IsSettled u budget settled
  settled_listed budget picks found settled rows shown some lawful is =
      subst (IsSettled u budget) (sym is) (record {
        relation = record {
          picks = picks;
          counts = slice_index_or found 0 [];
          rows = rows;
          there = (0, some, get_or_default found 0 (slice_index_or found 0 []) [] some);
          runs_are = refl;
        };
        lack = refl;
        lawful = lawful;
        shown = shown;
      })

  pub settled_only : (budget : ℕ) (picks : List Row) (counts : List ℕ) (found : List (List ℕ)) (settled : Settled) → AreRowsOfCells u picks → AreShownLow u (runs_from picks (slice_index_or found 0 [])) → AreLawful u counts → found ≡ counts ∷ [] →
      settled ≡ record { relation = relations.Possible (runs_from picks (slice_index_or found 0 [])); lack = lacks.Silent; found = found } → IsSettled u budget settled
  settled_only budget picks counts found settled rows shown lawful only is =
      settled_listed budget picks found settled rows shown (omega (arith, ap length only)) (subst (All (AreLawful u)) (sym only) (All-cons (AreLawful u) counts [] lawful (All-nil (AreLawful u)))) is

  -- ---- nothing

  pub settled_void : (budget : ℕ) (gains : List ℤ) (tree : Tree) (settled : Settled) → IsEmpty (program_with u.question.constraints (cells u) gains) budget tree →
      settled ≡ record { relation = relations.Impossible (whys.Void tree); lack = lacks.Silent; found = [] } → IsSettled u budget settled
  settled_void budget gains tree settled empty is =
      subst (IsSettled u budget) (sym is) (record { relation = let void = void_tree u gains budget tree empty in (void.shows, void.small); lack = refl; lawful = All-nil (AreLawful u); shown = tt })

  -- ---- totals

  pub lawful_found : (gain : Class → ℤ) (found : Option (List ℕ)) → IfSome found (IsAllocation (program_for u gain) (program_for u gain).floor (program_for u gain).cap) → IfSome found (AreLawful u)
  lawful_found gain None allowed = tt
  lawful_found gain (Some counts) allowed = record { sized = allowed.sized; within = allowed.within; met = allowed.met }

  left_of : (p : Program) (budget : ℕ) (found : Limit) → IsProgram p → IsLimit p budget found → found.found ≡ None → LeavesOpen p budget found.most any
  left_of p budget found program is none_found = by_why is.why
    where
      by_why : IsReached p found.most found.found ⊎ IsCutShort p budget found.most found.found found.tree → LeavesOpen p budget found.most any
      by_why (inl reached) = absurd (rw none_found at reached)
      by_why (inr cut) = licence-open p budget found.most found.found any _ program cut.licence cut.whole none_found

  pub total_of : (p : Program) (budget : ℕ) (found : Limit) (total : Total) → IsProgram p → IsLimit p budget found → IsTotalOf u found total → IsTotal u budget p total
  total_of p budget found (totals.Settled settled) program is of = of.2 budget
  total_of p budget found (totals.Open left) program is of =
      subst (IsLeftOpen p budget) (sym of.1) (record { limit_is = is; left = left_of p budget found program is of.0 })

  -- ---- both totals

  crosses : (a b : Option ℤ) (most fewest : ℤ) → MatchOption a ⊤ (λ k. k ≤ℤ most) → MatchOption b ⊤ (λ k. k ≤ℤ fewest) → nat_abs most ≤ 10 ^ 37 → nat_abs fewest ≤ 10 ^ 37 → most <ℤ neg_ℤ fewest → Cross a b
  crosses None b most fewest first second small also less = tt
  crosses (Some x) None most fewest first second small also less = tt
  crosses (Some x) (Some y) most fewest first second small also less = omega (arith, ints, clamps, first, second, small, also, less)

  sound_within : (p : Program) (budget : ℕ) (found : Limit) → IsLimit p budget found → IsSound p found.tree
  sound_within p budget found is = record { proves = is.proves; small = within_limit (bound_for p found.tree) found.most is.within is.small }

  pub settled_open : (budget : ℕ) (most fewest : Limit) → IsLeftOpen (program_for u one) budget most → IsLeftOpen (program_for u minus_one) budget fewest → IsSettled u budget (left_open most fewest)
  settled_open budget most fewest is_most is_fewest = by_test (int_lt most.most (neg_ℤ fewest.most)) refl
    where
      by_test : (test : Bool) → int_lt most.most (neg_ℤ fewest.most) ≡ test →
          IsSettled u budget (cond test (record { relation = relations.Impossible (whys.Cross most.tree fewest.tree); lack = lacks.Silent; found = [] }) (record { relation = relations.Undecided; lack = lacks.Silent; found = [] }))
      by_test true e = record {
        relation = (
          (
            sound_within (program_for u one) budget most is_most.limit_is,
            sound_within (program_for u minus_one) budget fewest is_fewest.limit_is,
            crosses (bound_for (program_for u one) most.tree) (bound_for (program_for u minus_one) fewest.tree) most.most fewest.most is_most.limit_is.within is_fewest.limit_is.within is_most.limit_is.small is_fewest.limit_is.small (omega (arith, ints, e)),
          ),
          (small_limit (program_for u one) budget most is_most.limit_is, small_limit (program_for u minus_one) budget fewest is_fewest.limit_is),
        );
        lack = refl;
        lawful = All-nil (AreLawful u);
        shown = tt;
      }
      by_test false e = record {
        relation = record { none = refl; most = most.most; fewest = fewest.most; by_most = is_most.left; by_fewest = is_fewest.left; meet = λ less. absurd (omega (arith, ints, e, less)) };
        lack = refl;
        lawful = All-nil (AreLawful u);
        shown = tt;
      }

  pub settled_by_fewest : (budget : ℕ) (most : Limit) (fewest : Total) → IsLeftOpen (program_for u one) budget most → IsTotal u budget (program_for u minus_one) fewest → IsSettled u budget (settled_after most fewest)
  settled_by_fewest budget most (totals.Settled settled) is_most is = is
  settled_by_fewest budget most (totals.Open fewest) is_most is = settled_open budget most fewest is_most is

  -- ---- ends that are totals

  all_alike : (xs : List Class) (gain : Class → ℤ) (g : ℤ) → All (λ z. z ≡ g) (map gain xs) → map gain xs ≡ map (λ (x : Class). g) xs
  all_alike [] gain g alike = refl
  all_alike (x ∷ xs) gain g alike =
      ap₂ ◌∷◌ (All-head (λ z. z ≡ g) (gain x) (map gain xs) alike) (all_alike xs gain g (All-tail (λ z. z ≡ g) (gain x) (map gain xs) alike))

  limit_of_total : (budget : ℕ) (g : ℤ) (limit : Limit) → IsLimitOfGain u budget limit → All (λ z. z ≡ g) limit.program.gain → IsLimit (program_for u (λ _. g)) budget limit
  limit_of_total budget g limit (gain, is) alike =
      let gains = subst (λ (p : Program). All (λ z. z ≡ g) p.gain) is.program alike in
      subst (λ l. IsLimit (program_with u.question.constraints (cells u) l) budget limit) (all_alike (cells u) gain g gains) is

  pub open_totals : (budget : ℕ) (low high : Limit) (settled : Settled) → IsProgram (program_for u one) → IsProgram (program_for u minus_one)
      → IsLimitOfGain u budget low → IsLimitOfGain u budget high → AreOpenTotals low high
      → settled ≡ record { relation = relations.Undecided; lack = lacks.Silent; found = [] } → IsSettled u budget settled
  open_totals budget low high settled most_program fewest_program low_is high_is totals is =
      let most = limit_of_total budget (pos 1) high high_is totals.highs in
      let fewest = limit_of_total budget (neg_ℤ (pos 1)) low low_is totals.lows in
      subst (IsSettled u budget) (sym is) (record {
        relation = record {
          none = refl;
          most = high.most;
          fewest = low.most;
          by_most = left_of (program_for u one) budget high most_program most totals.none_high;
          by_fewest = left_of (program_for u minus_one) budget low fewest_program fewest totals.none_low;
          meet = totals.apart;
        };
        lack = refl;
        lawful = All-nil (AreLawful u);
        shown = tt;
      })
