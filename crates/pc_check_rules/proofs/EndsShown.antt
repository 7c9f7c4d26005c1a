-- What a tree shows of an end, by its bound.
use Rattle.std.proofs.Common.{◌≡◌, ℤ, pos, neg_ℤ, ◌+ℤ◌, ◌-ℤ◌, ◌*ℤ◌, ◌≤ℤ◌, Option, Some, None, sym, ap₂, subst, true≢false, arith}
use Rattle.std.specs.Prelude.{◌↔◌, IfSome, IsSome}
use Rattle.std.specs.Int.{int_max}
use Rattle.std.proofs.lemmas.Int.{ints, clamps}
use Rattle.pc_model.specs.declared.query.Agg.{Agg}
use Rattle.pc_model.specs.declared.query.Agg.TheVariants.{Count, Sum, Min, Max, Avg}
use Rattle.pc_model.specs.declared.query.Folded.{Folded}
use Rattle.pc_model.specs.declared.tree.Tree.{Tree}
use Rattle.pc_model.specs.Aggregate.{Ratio, whole, IsAtMost}
use Rattle.pc_model.specs.Right.{Question}
use Rattle.pc_program_bound.specs.declared.program.Program.{Program}
use Rattle.pc_program_bound.specs.SplitTrees.{tree_of, Proves}
use Rattle.pc_proof.specs.declared.answer.Proof.TheVariants as proofs
use Rattle.pc_proof.specs.Setting.{Setting, seen_count, seen_sum, seen_least, seen_greatest}
use Rattle.pc_proof.specs.Table.{limit, bound_for, IsSound, Shows, ShowsForced, ShowsHigh, ShowsLow, seen_above, high_program, low_program}
use Rattle.pc_proof.specs.Observed.{ComesTo}
use Rattle.pc_check_rules.specs.declared.extreme.Extreme.{Extreme}
use Rattle.pc_check_rules.specs.declared.extreme.Extreme.TheVariants.{Low, High}
use Rattle.pc_check_rules.specs.Scene.{HasMeasure}
use Rattle.pc_check_rules.specs.Programs.{table_program}
use Rattle.pc_check_rules.specs.Shown.{IsSmall, counted, observed_above, HighAt, LowAt, EndAt}
use Rattle.pc_check_rules.specs.Findings.{ShowsEnd}

-- ---- a bound that passes

counted_some : (most : Option ℤ) (P : ℤ → Type 0) → IfSome (counted most) P → IfSome most (λ k. P (int_max k (neg_ℤ limit)))
counted_some None P passes = passes
counted_some (Some k) P passes = passes

some_counted : (most : Option ℤ) (P : ℤ → Type 0) → IfSome most (λ k. P (int_max k (neg_ℤ limit))) → IfSome (counted most) P
some_counted None P passes = passes
some_counted (Some k) P passes = passes

abbrev Forced : Setting → ℤ → Type 0
Forced s k = (seen_count s.question ≡ pos 0) × (k ≤ℤ pos 0)

forced_some : (s : Setting) (o : Option ℤ) → IfSome (counted o) (Forced s) → IfSome o (Forced s)
forced_some s None h = h
forced_some s (Some k) h = (h.0, omega (arith, ints, clamps, h.1))

some_forced : (s : Setting) (o : Option ℤ) → IfSome o (Forced s) → IfSome (counted o) (Forced s)
some_forced s None h = h
some_forced s (Some k) h = (h.0, omega (arith, ints, clamps, h.1))

module _ (p : Program) (t : Tree) (proves : Proves p p.floor p.cap (tree_of t.nodes)) (most : Option ℤ) (is : most ≡ bound_for p t) where
  sound : IsSmall most → IsSound p t
  sound small = record { proves = proves; small = subst IsSmall is small }

  -- beside another fact
  pub sound_with : (Q : Type 0) → (IsSmall most × Q) ↔ (IsSound p t × Q)
  sound_with Q = (λ h. (sound h.0, h.1), λ h. (subst IsSmall (sym is) h.0.small, h.1))

  shows_if : (P : ℤ → Type 0) → (IsSmall most × IfSome (counted most) P) ↔ Shows p t P
  shows_if P = (
    λ h. record { sound = sound h.0; passes = counted_some (bound_for p t) P (subst (λ o. IfSome (counted o) P) is h.1) },
    λ shown. (subst IsSmall (sym is) shown.sound.small, subst (λ o. IfSome (counted o) P) (sym is) (some_counted (bound_for p t) P shown.passes)),
  )

  with_other : (P : ℤ → Type 0) (Q : Type 0) → (IsSmall most × (IfSome (counted most) P × Q)) ↔ (Shows p t P × Q)
  with_other P Q = (
    λ h. ((shows_if P).0 (h.0, h.1.0), h.1.1),
    λ shown. let h = (shows_if P).1 shown.0 in (h.0, (h.1, shown.1)),
  )

  forced_if : (s : Setting) → (IsSmall most × IfSome (counted most) (Forced s)) ↔ ShowsForced s p t
  forced_if s = (
    λ h. record { sound = sound h.0; forced = forced_some s (bound_for p t) (subst (λ o. IfSome (counted o) (Forced s)) is h.1) },
    λ shown. (subst IsSmall (sym is) shown.sound.small, subst (λ o. IfSome (counted o) (Forced s)) (sym is) (some_forced s (bound_for p t) shown.forced)),
  )

-- ---- by what the observed rows come to

known : {X : Type 0} (o : Option X) (P : Type 0) → IsSome o → IfSome o (λ _. P) → P
known None P some found = absurd (true≢false (sym some))
known (Some x) P some found = found

module _ (s : Setting) (seen : Folded) (comes : ComesTo s.question seen) where
  abbrev q : Question
  q = s.question

  pub sum_is : IsSome q.query.column → seen_sum q ≡ seen.sum
  sum_is measured = known q.query.column (seen_sum q ≡ seen.sum) measured comes.sum

  pub least_is : IsSome q.query.column → seen_least q ≡ seen.least
  least_is measured = known q.query.column (seen_least q ≡ seen.least) measured comes.least

  pub greatest_is : IsSome q.query.column → seen_greatest q ≡ seen.greatest
  greatest_is measured = known q.query.column (seen_greatest q ≡ seen.greatest) measured comes.greatest

  pub above_is : (v : Ratio) → IsSome q.query.column → seen_above q v ≡ observed_above seen v
  above_is v measured = ap₂ (λ sum count. v.den *ℤ sum -ℤ v.num *ℤ count) (sum_is measured) comes.count

-- ---- a proof by tree

module _ (s : Setting) (seen : Folded) (comes : ComesTo s.question seen) (v : Ratio) (t : Tree) (most : Option ℤ) where
  -- the tree's lines hold, and this is its bound
  abbrev IsOf : Program → Type 0
  IsOf p = Proves p p.floor p.cap (tree_of t.nodes) × (most ≡ bound_for p t)

  high_tree : (agg : Agg) → HasMeasure agg s.question.query.column → IsOf (high_program s agg v) → (IsSmall most × HighAt agg seen v (counted most)) ↔ ShowsHigh s agg v (proofs.Tree t)
  high_tree Count measured of =
      subst (λ count. (IsSmall most × IfSome (counted most) (λ k. IsAtMost (whole (count +ℤ k)) v)) ↔ ShowsHigh s Count v (proofs.Tree t)) comes.count
      (shows_if (high_program s Count v) t of.0 most of.1 (λ k. IsAtMost (whole (seen_count s.question +ℤ k)) v))
  high_tree Sum measured of =
      subst (λ sum. (IsSmall most × IfSome (counted most) (λ k. IsAtMost (whole (sum +ℤ k)) v)) ↔ ShowsHigh s Sum v (proofs.Tree t)) (sum_is s seen comes measured)
      (shows_if (high_program s Sum v) t of.0 most of.1 (λ k. IsAtMost (whole (seen_sum s.question +ℤ k)) v))
  high_tree Min measured of =
      subst (λ count. (IsSmall most × IfSome (counted most) (λ k. (count ≡ pos 0) × (k ≤ℤ pos 0))) ↔ ShowsHigh s Min v (proofs.Tree t)) comes.count
      (forced_if (high_program s Min v) t of.0 most of.1 s)
  high_tree Max measured of =
      subst (λ greatest. (IsSmall most × (IfSome (counted most) (λ k. k ≤ℤ pos 0) × IfSome greatest (λ g. IsAtMost (whole g) v))) ↔ ShowsHigh s Max v (proofs.Tree t)) (greatest_is s seen comes measured)
      (with_other (high_program s Max v) t of.0 most of.1 (λ k. k ≤ℤ pos 0) (IfSome (seen_greatest s.question) (λ g. IsAtMost (whole g) v)))
  high_tree Avg measured of =
      subst (λ above. (IsSmall most × IfSome (counted most) (λ k. (above +ℤ k) ≤ℤ pos 0)) ↔ ShowsHigh s Avg v (proofs.Tree t)) (above_is s seen comes v measured)
      (shows_if (high_program s Avg v) t of.0 most of.1 (λ k. (seen_above s.question v +ℤ k) ≤ℤ pos 0))

  low_tree : (agg : Agg) → HasMeasure agg s.question.query.column → IsOf (low_program s agg v) → (IsSmall most × LowAt agg seen v (counted most)) ↔ ShowsLow s agg v (proofs.Tree t)
  low_tree Count measured of =
      subst (λ count. (IsSmall most × IfSome (counted most) (λ k. IsAtMost v (whole (count -ℤ k)))) ↔ ShowsLow s Count v (proofs.Tree t)) comes.count
      (shows_if (low_program s Count v) t of.0 most of.1 (λ k. IsAtMost v (whole (seen_count s.question -ℤ k))))
  low_tree Sum measured of =
      subst (λ sum. (IsSmall most × IfSome (counted most) (λ k. IsAtMost v (whole (sum -ℤ k)))) ↔ ShowsLow s Sum v (proofs.Tree t)) (sum_is s seen comes measured)
      (shows_if (low_program s Sum v) t of.0 most of.1 (λ k. IsAtMost v (whole (seen_sum s.question -ℤ k))))
  low_tree Min measured of =
      subst (λ least. (IsSmall most × (IfSome (counted most) (λ k. k ≤ℤ pos 0) × IfSome least (λ m. IsAtMost v (whole m)))) ↔ ShowsLow s Min v (proofs.Tree t)) (least_is s seen comes measured)
      (with_other (low_program s Min v) t of.0 most of.1 (λ k. k ≤ℤ pos 0) (IfSome (seen_least s.question) (λ m. IsAtMost v (whole m))))
  low_tree Max measured of =
      subst (λ count. (IsSmall most × IfSome (counted most) (λ k. (count ≡ pos 0) × (k ≤ℤ pos 0))) ↔ ShowsLow s Max v (proofs.Tree t)) comes.count
      (forced_if (low_program s Max v) t of.0 most of.1 s)
  low_tree Avg measured of =
      subst (λ above. (IsSmall most × IfSome (counted most) (λ k. (k -ℤ above) ≤ℤ pos 0)) ↔ ShowsLow s Avg v (proofs.Tree t)) (above_is s seen comes v measured)
      (shows_if (low_program s Avg v) t of.0 most of.1 (λ k. (k -ℤ seen_above s.question v) ≤ℤ pos 0))

  pub end_tree : (extreme : Extreme) (agg : Agg) → HasMeasure agg s.question.query.column → IsOf (table_program extreme s agg v)
      → (IsSmall most × EndAt extreme agg seen v (counted most)) ↔ ShowsEnd extreme s agg v (proofs.Tree t)
  end_tree High agg measured of = high_tree agg measured of
  end_tree Low agg measured of = low_tree agg measured of
