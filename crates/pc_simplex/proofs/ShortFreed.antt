-- An objective row in short form that is freed of the basic columns, row by row.
use Rattle.std.proofs.Common.{◌≡◌, ℕ, ◌+◌, ◌<◌, ◌&&◌, not, Bool, true, List, [], ◌∷◌, map, length, refl, ap, ap₂, sym, subst, ◌∙◌, add-one}
use Rattle.std.specs.List.{list_all}
use Rattle.pc_simplex_tableau.specs.Tableau.{TableauRow, Tableau, row_at, freed_aim, does_freed_aim_fit}
use Rattle.pc_simplex_tableau.specs.Relaxation.{freed_by, does_freed_by_fit, freed_below, do_freed_below_fit, has_helper}
use Rattle.pc_simplex_tableau.proofs.Freed.{freed_aim_is}
use Rattle.pc_simplex_short.specs.Short.{ShortSetting, spelled, spelled_row}
use Rattle.pc_simplex_short.specs.Kept.{IsShort}
use Rattle.pc_simplex_short.proofs.Spelled.{row_at-spelled, rows-spelled, value-spelled}
use Rattle.pc_simplex.specs.Phases.{is_left}
use Rattle.pc_simplex.specs.Shorts.{is_left_short, has_left}
use Rattle.pc_simplex.proofs.FreedRows.{freed_below-zero, freed_below-suc, fit_below-zero, fit_below-suc}

-- the objective row is freed of the basic columns of the first n rows, and all numbers fitted
pub record IsFreedTo (f : ShortSetting) (n : ℕ) (start t : Tableau) : Type 0 where
  pub decides : do_freed_below_fit n (spelled f start) ≡ true
  pub same : spelled f t ≡ freed_below n (spelled f start)
  pub many : length t.rows ≡ length start.rows
  pub short : IsShort f t

pub freed_start : (f : ShortSetting) (start : Tableau) → IsShort f start → IsFreedTo f 0 start start
freed_start f start short = record {
  decides = fit_below-zero (spelled f start);
  same = sym (freed_below-zero (spelled f start));
  many = refl;
  short = short;
}

both_pass : (a b : Bool) → a ≡ true → b ≡ true → (a && b) ≡ true
both_pass a b first second = rw (first, second) refl

pub freed_more : (f : ShortSetting) (n basic : ℕ) (start t next : Tableau) → n < length t.rows → basic ≡ (row_at t n).basic
    → does_freed_aim_fit basic (row_at (spelled f t) n).numbers (spelled f t) ≡ true
    → spelled f next ≡ freed_aim basic (row_at (spelled f t) n).numbers (spelled f t) → IsShort f next
    → IsFreedTo f n start t → IsFreedTo f (n + 1) start next
freed_more f n basic start t next lt e fits is short h =
    let own : basic ≡ (row_at (spelled f t) n).basic = e ∙ ap (λ (row : TableauRow). row.basic) (sym (row_at-spelled f t n lt)) in
    let by : spelled f next ≡ freed_by n (spelled f t) = is ∙ ap (λ b. freed_aim b (row_at (spelled f t) n).numbers (spelled f t)) own in
    let fit : does_freed_by_fit n (spelled f t) ≡ true = sym (ap (λ b. does_freed_aim_fit b (row_at (spelled f t) n).numbers (spelled f t)) own) ∙ fits in
    let kept = freed_aim_is basic (row_at (spelled f t) n).numbers (spelled f t) in
    let rows : length next.rows ≡ length t.rows = sym (rows-spelled f next) ∙ ap (λ (s : Tableau). length s.rows) (is ∙ kept) ∙ rows-spelled f t in
    record {
      decides = ap (λ m. do_freed_below_fit m (spelled f start)) (add-one n) ∙ fit_below-suc n (spelled f start)
          ∙ both_pass (do_freed_below_fit n (spelled f start)) (does_freed_by_fit n (freed_below n (spelled f start))) h.decides
          (subst (λ s. does_freed_by_fit n s ≡ true) h.same fit);
      same = by ∙ ap (freed_by n) h.same ∙ sym (freed_below-suc n (spelled f start)) ∙ ap (λ m. freed_below m (spelled f start)) (sym (add-one n));
      many = rows ∙ h.many;
      short = short;
    }

-- ---- helpers that are left

left_is : (f : ShortSetting) (turned : List Bool) (row : TableauRow) → is_left f.columns (spelled_row f turned row) ≡ is_left_short f row
left_is f turned row = rw (value-spelled f turned row.numbers) refl

none_left : (f : ShortSetting) (turned : List Bool) (rows : List TableauRow)
    → list_all (λ row. not (is_left f.columns row)) (map (spelled_row f turned) rows) ≡ list_all (λ row. not (is_left_short f row)) rows
none_left f turned [] = refl
none_left f turned (row ∷ rows) = ap₂ (λ a b. not a && b) (left_is f turned row) (none_left f turned rows)

pub has_left-spelled : (f : ShortSetting) (t : Tableau) → has_left f t.rows ≡ has_helper f.columns (spelled f t)
has_left-spelled f t = ap not (sym (none_left f t.turned t.rows))
