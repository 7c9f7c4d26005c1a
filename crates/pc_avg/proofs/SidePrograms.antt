-- The programs of a side are those that the statements of an average's ends name.
use Rattle.std.proofs.Common.{◌≡◌, ℕ, zero, suc, ◌<◌, ℤ, pos, neg_ℤ, ◌-ℤ◌, ◌*ℤ◌, Bool, true, false, cond, List, length, map, get_or, IsSomeAnd, refl, sym, ap, ap₂, subst, ◌∙◌, arith}
use Rattle.std.proofs.lemmas.Int.{ints}
use Rattle.std.proofs.lemmas.List.{length-map, get_or-map}
use Rattle.pc_model.specs.declared.schema.Schema.{Schema}
use Rattle.pc_model.specs.declared.row.Row.{Row}
use Rattle.pc_model.specs.declared.constraint.Constraint.{Constraint}
use Rattle.pc_model.specs.declared.tree.CutNode.{CutNode}
use Rattle.pc_model.specs.declared.query.Agg.TheVariants.{Avg}
use Rattle.pc_model.specs.declared.query.Query.{Query}
use Rattle.pc_model.specs.declared.query.Folded.{Folded}
use Rattle.pc_model.specs.Accepted.{IsNumeric, IsColumnWhere, Measures}
use Rattle.pc_model.specs.Aggregate.{Ratio, asked, int_sum}
use Rattle.pc_model.specs.Cells.{Class}
use Rattle.pc_model.specs.Right.{Question}
use Rattle.pc_program_bound.specs.declared.program.Program.{Program}
use Rattle.pc_program_bound.specs.Sums.{int_at}
use Rattle.pc_program_bound.specs.Allocation.{cells_of}
use Rattle.pc_program_bound.proofs.CellPlaces.{no_class}
use Rattle.pc_simplex_tableau.specs.Numbers.{table}
use Rattle.pc_simplex_tableau.proofs.Products.{mul-neg, neg-mul}
use Rattle.pc_proof.specs.Setting.{Setting, cells, low_in, on_chosen, program_for, seen_count, seen_sum}
use Rattle.pc_proof.specs.Setting.{seen as seen_rows}
use Rattle.pc_proof.specs.Table.{one, above_ratio, below_ratio, seen_above}
use Rattle.pc_proof.proofs.Numbers.{none_from_length}
use Rattle.pc_agg_search.specs.declared.extreme.Extreme.{Extreme}
use Rattle.pc_agg_search.specs.declared.extreme.Extreme.TheVariants.{Low, High}
use Rattle.pc_agg_search.specs.Asked.{Asking, setting_for}
use Rattle.pc_agg_search.specs.Ends.{signed}
use Rattle.pc_agg_search.specs.Keys.{key_of}
use Rattle.pc_agg_search.specs.Settings.{unseen}
use Rattle.pc_agg_search.specs.Wants.{most_chosen}
use Rattle.pc_agg_search.proofs.ListedPrograms.{table_mapped}
use Rattle.pc_agg.proofs.Ending as ending
use Rattle.pc_agg.proofs.SeenNumbers.{some_here}
use Rattle.pc_avg_ratio.specs.declared.fractional.Fractional.{Fractional}
use Rattle.pc_avg_ratio.specs.Fractional.{gain_over, program_at, over_before}
use Rattle.pc_avg.specs.declared.sides.Side.{Side}
use Rattle.pc_avg.specs.Sides.{IsSide}

-- at a low end a side's ratio is turned back
abbrev pub turned_ratio : Extreme → Ratio → Ratio
turned_ratio extreme r = record { num = signed extreme r.num; den = r.den }

-- how far a row's number can be beyond a ratio, and how far the observed sum is, times the denominator
abbrev pub over_ratio : Extreme → Setting → Ratio → Class → ℤ
over_ratio High s r class = above_ratio s r class
over_ratio Low s r class = below_ratio s r class

abbrev pub seen_over : Extreme → Question → Ratio → ℤ
seen_over High q r = seen_above q r
seen_over Low q r = neg_ℤ (seen_above q r)

-- ---- one cell

by_chosen : (chosen : Bool) (key q p : ℤ) → q *ℤ cond chosen key (pos 0) -ℤ p *ℤ cond chosen (pos 1) (pos 0) ≡ cond chosen (q *ℤ key -ℤ p) (pos 0)
by_chosen true key q p = omega (arith, ints)
by_chosen false key q p = omega (arith, ints)

over_key : (extreme : Extreme) (s : Setting) (r : Ratio) (class : Class) → r.den *ℤ key_of s extreme class -ℤ r.num ≡ over_ratio extreme s (turned_ratio extreme r) class
over_key High s r class = refl
over_key Low s r class = omega (arith, ints, mul-neg r.den (low_in s class))

module _ (u : Setting) (extreme : Extreme) (f : Fractional) (rows_are : f.rows ≡ most_chosen u) (sums_are : f.sums ≡ program_for u (on_chosen (key_of u extreme))) (r : Ratio) where
  abbrev gain : Class → ℤ
  gain = on_chosen (over_ratio extreme u (turned_ratio extreme r))

  gain_at : (i : ℕ) → i < length (cells u) → gain_over f r i ≡ gain (get_or (cells u) i no_class)
  gain_at i inside =
      let class = get_or (cells u) i no_class in
      let key : int_at f.sums.gain i ≡ on_chosen (key_of u extreme) class =
      ap (λ (p : Program). int_at p.gain i) sums_are ∙ get_or-map (on_chosen (key_of u extreme)) (cells u) i no_class (pos 0) inside in
      let row : int_at f.rows.gain i ≡ on_chosen one class = ap (λ (p : Program). int_at p.gain i) rows_are ∙ get_or-map (on_chosen one) (cells u) i no_class (pos 0) inside in
      ap₂ (λ a b. r.den *ℤ a -ℤ r.num *ℤ b) key row ∙ by_chosen class.chosen (key_of u extreme class) r.den r.num
      ∙ ap (λ n. cond class.chosen n (pos 0)) (over_key extreme u r class)

  pub program_is : program_at f r ≡ program_for u gain
  program_is =
      ap (λ (p : Program). record p { gain = table (cells_of p) (gain_over f r) }) rows_are
      ∙ ap (λ (gains : List ℤ). record (most_chosen u) { gain = gains })
      (ap (λ n. table n (gain_over f r)) (length-map (cells u) (λ (class : Class). class.mask)) ∙ table_mapped (gain_over f r) gain (cells u) no_class (pos 0) gain_at)

-- ---- what was observed

over_turned : (extreme : Extreme) (q : Question) (r : Ratio) (sum count : ℤ) → sum ≡ signed extreme (seen_sum q) → count ≡ seen_count q →
    r.den *ℤ sum -ℤ r.num *ℤ count ≡ seen_over extreme q (turned_ratio extreme r)
over_turned High q r sum count sum_is count_is = ap₂ (λ a b. r.den *ℤ a -ℤ r.num *ℤ b) sum_is count_is
over_turned Low q r sum count sum_is count_is =
    ap₂ (λ a b. r.den *ℤ a -ℤ r.num *ℤ b) sum_is count_is ∙ omega (arith, ints, mul-neg r.den (seen_sum q), neg-mul r.num (seen_count q))

signed_zero : (extreme : Extreme) (n : ℤ) → n ≡ pos 0 → pos 0 ≡ signed extreme n
signed_zero High n none = sym none
signed_zero Low n none = omega (arith, ints, none)

none_seen : (q : Question) → seen_count q ≡ pos 0 → seen_sum q ≡ pos 0
none_seen q none = ap (λ (rows : List Row). int_sum (map (asked q.query) rows)) (none_from_length (seen_rows q) (omega (arith, ints, none)))

module _ (schema : Schema) (constraints : List Constraint) (query : Query) (seen : Folded) (nodes : List CutNode) (asking : Asking schema constraints query seen) (agg_is : query.agg ≡ Avg) where
  abbrev u : Setting
  u = unseen schema constraints query nodes

  abbrev s : Setting
  s = setting_for schema constraints query seen nodes asking

  pub numbered : IsSomeAnd query.column (IsColumnWhere IsNumeric schema)
  numbered = subst (λ agg. Measures schema agg query.column) agg_is asking.well.measured

  module _ (extreme : Extreme) (side : Side) (is : IsSide u seen extreme side) where
    pub side_count : pos side.fraction.count ≡ seen_count s.question
    side_count = ap pos is.count_is ∙ sym asking.comes_to.count

    pub side_sum : side.fraction.sum ≡ signed extreme (seen_sum s.question)
    side_sum = by_count seen.count refl
      where
        by_count : (n : ℕ) → seen.count ≡ n → side.fraction.sum ≡ signed extreme (seen_sum s.question)
        by_count zero none = is.fractional.none (is.count_is ∙ none) ∙ signed_zero extreme (seen_sum s.question) (none_seen s.question (asking.comes_to.count ∙ ap pos none))
        by_count (suc n) some =
            is.sum_is (omega (arith, some))
            ∙ ap (signed extreme) (sym (some_here query.column (IsColumnWhere IsNumeric schema) (seen_sum s.question ≡ seen.sum) numbered asking.comes_to.sum))

    pub over_is : (r : Ratio) → over_before side.fraction r ≡ seen_over extreme s.question (turned_ratio extreme r)
    over_is r = over_turned extreme s.question r side.fraction.sum (pos side.fraction.count) side_sum side_count

    pub side_program : (r : Ratio) → program_at side.fraction r ≡ ending.program_at extreme s Avg (turned_ratio extreme r)
    side_program r = program_is u extreme side.fraction is.rows_are is.sums_are r ∙ by_side extreme
      where
        by_side : (e : Extreme) → program_for u (on_chosen (over_ratio e u (turned_ratio e r))) ≡ ending.program_at e s Avg (turned_ratio e r)
        by_side High = refl
        by_side Low = refl
