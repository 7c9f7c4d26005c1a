-- How large an end of a count or a sum is.
use Rattle.std.proofs.Common.{◌≡◌, ℕ, ◌≤◌, ◌^◌, ℤ, pos, ◌+ℤ◌, Bool, true, false, true≢false, cond, List, [], ◌∷◌, map, All, refl, sym, subst, arith}
use Rattle.std.specs.Prelude.{nat_abs}
use Rattle.std.specs.List.{AllZip}
use Rattle.std.proofs.lemmas.Int.{ints}
use Rattle.std.proofs.lemmas.List.{length-map}
use Rattle.std.proofs.lemmas.List.Elements.{All-nil, All-cons, All-map}
use Rattle.pc_num.specs.Scaled.{greatest_size}
use Rattle.pc_model.specs.declared.schema.Schema.{Schema}
use Rattle.pc_model.specs.declared.row.Row.{Row}
use Rattle.pc_model.specs.declared.constraint.Constraint.{Constraint}
use Rattle.pc_model.specs.declared.tree.CutNode.{CutNode}
use Rattle.pc_model.specs.declared.query.Agg.{Agg}
use Rattle.pc_model.specs.declared.query.Agg.TheVariants.{Count, Sum, Min, Max, Avg}
use Rattle.pc_model.specs.declared.query.Query.{Query}
use Rattle.pc_model.specs.declared.query.Folded.{Folded}
use Rattle.pc_model.specs.Accepted.{AreConstraints}
use Rattle.pc_model.specs.Aggregate.{asked}
use Rattle.pc_model.specs.Cells.{Class, IsSettledTree, leaves_in}
use Rattle.pc_model.specs.Membership.{in_domain, is_in}
use Rattle.pc_model.specs.Right.{always_has_value}
use Rattle.pc_model.specs.WellFormed.{IsWellFormed}
use Rattle.pc_cells_laws.proofs.Cells.{classes_of-differ}
use Rattle.pc_proof.specs.Setting.{Setting, cells}
use Rattle.pc_proof.specs.Form.{IsFormedWhole, IsFormedValue}
use Rattle.pc_agg_search.specs.declared.extreme.Extreme.{Extreme}
use Rattle.pc_agg_search.specs.declared.extreme.Extreme.TheVariants.{Low, High}
use Rattle.pc_agg_search.specs.Ends.{gain_towards, adds, signed, IsPick}
use Rattle.pc_agg_search.specs.Settings.{unseen}
use Rattle.pc_agg_search.proofs.ManyCells.{many_cells, worth_at_most}
use Rattle.pc_proof.proofs.RowNumbers.{asked_small}
use Rattle.pc_agg_search.proofs.SettledPrograms.{have_rows}
use Rattle.pc_agg.specs.declared.aim.Aim.{Aim}
use Rattle.pc_agg.specs.Marks.{IsAim}
use Rattle.pc_agg.specs.Observed.{folded_value}

-- ---- what a row adds

if_small : (test : Bool) (n : ℤ) → nat_abs n ≤ greatest_size → nat_abs (cond test n (pos 0)) ≤ greatest_size
if_small true n small = small
if_small false n small = omega arith

adds_small : (schema : Schema) (agg : Agg) (query : Query) (row : Row) → IsWellFormed schema → in_domain schema row ≡ true → nat_abs (adds agg query row) ≤ greatest_size
adds_small schema Count query row formed allowed = if_small (is_in query.chosen row) (pos 1) (omega arith)
adds_small schema Sum query row formed allowed = if_small (is_in query.chosen row) (asked query row) (asked_small schema query row formed allowed)
adds_small schema Min query row formed allowed = omega arith
adds_small schema Max query row formed allowed = omega arith
adds_small schema Avg query row formed allowed = omega arith

signed_small : (extreme : Extreme) (n : ℤ) → nat_abs n ≤ greatest_size → nat_abs (signed extreme n) ≤ greatest_size
signed_small Low n small = omega (arith, ints, small)
signed_small High n small = small

-- ---- what cells gain

module _ (s : Setting) (formed : IsWellFormed s.question.schema) (agg : Agg) (extreme : Extreme) where
  abbrev IsSmallGain : Class → Type 0
  IsSmallGain class = nat_abs (gain_towards s agg extreme class) ≤ greatest_size

  gain_small : (class : Class) (row : Row) → IsPick s agg extreme class row → IsSmallGain class
  gain_small class row pick =
      subst (λ n. nat_abs n ≤ greatest_size) pick.adds
      (signed_small extreme (adds agg s.question.query row) (adds_small s.question.schema agg s.question.query row formed pick.of_cell.allowed))

  each_small : (classes : List Class) (picks : List Row) → AllZip (IsPick s agg extreme) classes picks → All IsSmallGain classes
  each_small [] [] picked = All-nil IsSmallGain
  each_small [] (row ∷ picks) picked = absurd picked
  each_small (class ∷ classes) [] picked = absurd picked
  each_small (class ∷ classes) (row ∷ picks) picked = All-cons IsSmallGain class classes (gain_small class row picked.0) (each_small classes picks picked.1)

-- ---- an end

module _ (schema : Schema) (constraints : List Constraint) (query : Query) (nodes : List CutNode) (formed : IsWellFormed schema) (limited : AreConstraints schema constraints)
    (tree : IsSettledTree schema constraints query.chosen nodes) (budget : ℕ) (extreme : Extreme) (aim : Aim) (is : IsAim (unseen schema constraints query nodes) query.agg budget extreme aim) where
  abbrev u : Setting
  u = unseen schema constraints query nodes

  abbrev gains : List ℤ
  gains = map (gain_towards u query.agg extreme) (cells u)

  most_small : nat_abs aim.limit.most ≤ 10 ^ 30
  most_small =
      let rows = have_rows schema constraints query.chosen nodes formed tree in
      let many = many_cells schema constraints query.chosen (cells u) rows (classes_of-differ (leaves_in schema nodes)) in
      let small = All-map (λ g. nat_abs g ≤ greatest_size) (gain_towards u query.agg extreme) (cells u) (each_small u formed query.agg extreme (cells u) aim.picks is.picked) in
      let most = worth_at_most constraints (cells u) gains schema limited many (length-map (cells u) (gain_towards u query.agg extreme)) (greatest_size) small in
      let gained = is.limit.gained in
      omega (arith, ints, most, gained)

  module _ (seen : Folded) (few_seen : seen.count ≤ 1_000_000) (small_seen : nat_abs seen.sum ≤ 2 ^ 83) where
    abbrev number : ℤ
    number = folded_value query.agg seen +ℤ signed extreme aim.limit.most

    seen_small : (agg : Agg) → nat_abs (folded_value agg seen) ≤ 2 ^ 83
    seen_small Count = omega (arith, few_seen)
    seen_small Sum = small_seen
    seen_small Min = omega arith
    seen_small Max = omega arith
    seen_small Avg = omega arith

    signed_most : (extreme : Extreme) → nat_abs (signed extreme aim.limit.most) ≤ 10 ^ 30
    signed_most Low = let small = most_small in omega (arith, ints, small)
    signed_most High = most_small

    number_small : nat_abs number ≤ 10 ^ 31
    number_small =
        let seen_part = seen_small query.agg in
        let most_part = signed_most extreme in
        omega (arith, ints, seen_part, most_part)

    pub end_value : always_has_value query.agg ≡ true → IsFormedValue query.agg (record { num = number; den = pos 1 })
    end_value always = by_agg query.agg always (record { one = refl; small = number_small })
      where
        by_agg : (agg : Agg) → always_has_value agg ≡ true → IsFormedWhole (record { num = number; den = pos 1 }) → IsFormedValue agg (record { num = number; den = pos 1 })
        by_agg Count always whole = whole
        by_agg Sum always whole = whole
        by_agg Min always whole = whole
        by_agg Max always whole = whole
        by_agg Avg always whole = absurd (true≢false (sym always))
