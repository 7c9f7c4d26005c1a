-- What the bound of a tree, the observed rows and the numbers of rows show, where each is known.
use Rattle.std.specs.Prelude.{◌≡◌, ℤ, pos, neg_ℤ, ◌+ℤ◌, ◌-ℤ◌, ◌*ℤ◌, ◌≤ℤ◌, ◌⊎◌, List, map, filter, Option, Some, None, IfSome, IsSomeAnd, option_map}
use Rattle.std.specs.List.{reduce}
use Rattle.std.specs.Int.{int_min, int_max}
use Rattle.pc_model.specs.declared.query.Agg.{Agg}
use Rattle.pc_model.specs.declared.query.Agg.TheVariants.{Count, Sum, Min, Max, Avg}
use Rattle.pc_model.specs.declared.query.Folded.{Folded}
use Rattle.pc_model.specs.Aggregate.{Ratio, whole, IsAtMost}
use Rattle.pc_num.specs.declared.Frac.{Frac}
use Rattle.pc_proof.specs.Table.{ratio_of, limit, greater_of, lesser_of}
use Rattle.pc_check_rules.specs.declared.cells.GatheredCell.{GatheredCell}
use Rattle.pc_check_rules.specs.declared.scene.Scene.{Scene}
use Rattle.pc_check_rules.specs.declared.extreme.Extreme.{Extreme}
use Rattle.pc_check_rules.specs.declared.extreme.Extreme.TheVariants.{Low, High}

-- ---- bounds

-- no number above the limit
abbrev pub IsSmall : Option ℤ → Type 0
IsSmall most = IfSome most (λ k. k ≤ℤ limit)

-- a number below the negative of the limit counts as that
abbrev pub counted : Option ℤ → Option ℤ
counted most = option_map (λ k. int_max k (neg_ℤ limit)) most

-- ---- at a ratio

-- how far the observed sum is above it, times its denominator
abbrev pub observed_above : Folded → Ratio → ℤ
observed_above seen r = r.den *ℤ seen.sum -ℤ r.num *ℤ pos seen.count

abbrev pub fewest_rows : Folded → ℤ
fewest_rows seen = int_max (pos seen.count) (pos 1)

-- what is left over, and nothing where no list is possible
abbrev pub rest_over : ℤ → Option ℤ → ℤ
rest_over before None = pos 0
rest_over before (Some k) = int_max (pos 0) (before +ℤ k)

abbrev pub raised_at : Folded → Ratio → Option ℤ → Ratio
raised_at seen r bound = record { num = r.num *ℤ fewest_rows seen +ℤ rest_over (observed_above seen r) bound; den = r.den *ℤ fewest_rows seen }

abbrev pub lowered_at : Folded → Ratio → Option ℤ → Ratio
lowered_at seen r bound = record { num = r.num *ℤ fewest_rows seen -ℤ rest_over (neg_ℤ (observed_above seen r)) bound; den = r.den *ℤ fewest_rows seen }

-- ---- the numbers that a row can have

abbrev pub chosen_only : List GatheredCell → List GatheredCell
chosen_only cells = filter (λ (cell : GatheredCell). cell.chosen) cells

abbrev pub greatest_on : List GatheredCell → Option ℤ → Option ℤ
greatest_on cells seen = greater_of seen (reduce int_max (map (λ (cell : GatheredCell). cell.high) (chosen_only cells)))

abbrev pub least_on : List GatheredCell → Option ℤ → Option ℤ
least_on cells seen = lesser_of seen (reduce int_min (map (λ (cell : GatheredCell). cell.low) (chosen_only cells)))

-- ---- what shows an end

-- the bound of a tree of its program
abbrev pub HighAt : Agg → Folded → Ratio → Option ℤ → Type 0
HighAt Count seen v bound = IfSome bound (λ k. IsAtMost (whole (pos seen.count +ℤ k)) v)
HighAt Sum seen v bound = IfSome bound (λ k. IsAtMost (whole (seen.sum +ℤ k)) v)
HighAt Min seen v bound = IfSome bound (λ k. (pos seen.count ≡ pos 0) × (k ≤ℤ pos 0))
HighAt Max seen v bound = IfSome bound (λ k. k ≤ℤ pos 0) × IfSome seen.greatest (λ g. IsAtMost (whole g) v)
HighAt Avg seen v bound = IfSome bound (λ k. (observed_above seen v +ℤ k) ≤ℤ pos 0)

abbrev pub LowAt : Agg → Folded → Ratio → Option ℤ → Type 0
LowAt Count seen v bound = IfSome bound (λ k. IsAtMost v (whole (pos seen.count -ℤ k)))
LowAt Sum seen v bound = IfSome bound (λ k. IsAtMost v (whole (seen.sum -ℤ k)))
LowAt Min seen v bound = IfSome bound (λ k. k ≤ℤ pos 0) × IfSome seen.least (λ m. IsAtMost v (whole m))
LowAt Max seen v bound = IfSome bound (λ k. (pos seen.count ≡ pos 0) × (k ≤ℤ pos 0))
LowAt Avg seen v bound = IfSome bound (λ k. (k -ℤ observed_above seen v) ≤ℤ pos 0)

abbrev pub EndAt : Extreme → Agg → Folded → Ratio → Option ℤ → Type 0
EndAt High agg seen v bound = HighAt agg seen v bound
EndAt Low agg seen v bound = LowAt agg seen v bound

-- the bound of a tree at a ratio
abbrev pub RatioAt : Extreme → List GatheredCell → Folded → Ratio → Ratio → Option ℤ → Type 0
RatioAt High cells seen v r bound = IsSomeAnd (greatest_on cells seen.greatest) (λ g. IsAtMost (raised_at seen r bound) v ⊎ IsAtMost (whole g) v)
RatioAt Low cells seen v r bound = IsSomeAnd (least_on cells seen.least) (λ m. IsAtMost v (lowered_at seen r bound) ⊎ IsAtMost v (whole m))

-- the observed rows
abbrev pub RowsAt : Extreme → Agg → Folded → Ratio → Type 0
RowsAt High Min seen v = IsSomeAnd seen.least (λ m. IsAtMost (whole m) v)
RowsAt Low Max seen v = IsSomeAnd seen.greatest (λ g. IsAtMost v (whole g))
RowsAt extreme agg seen v = ⊥

-- the numbers that rows can have
abbrev pub ValuesAt : Extreme → Agg → List GatheredCell → Folded → Ratio → Type 0
ValuesAt High Avg cells seen v = IsSomeAnd (greatest_on cells seen.greatest) (λ g. IsAtMost (whole g) v)
ValuesAt Low Avg cells seen v = IsSomeAnd (least_on cells seen.least) (λ m. IsAtMost v (whole m))
ValuesAt extreme agg cells seen v = ⊥

-- ---- .. in a scene

abbrev pub EndShows : Extreme → Scene → Frac → Option ℤ → Type 0
EndShows extreme scene value bound = EndAt extreme scene.agg scene.seen (ratio_of value) bound

abbrev pub RatioShows : Extreme → Scene → Frac → Frac → Option ℤ → Type 0
RatioShows extreme scene value ratio bound = RatioAt extreme scene.cells.now scene.seen (ratio_of value) (ratio_of ratio) bound

abbrev pub ValuesShow : Extreme → Scene → Frac → Type 0
ValuesShow extreme scene value = ValuesAt extreme scene.agg scene.cells.now scene.seen (ratio_of value)
