-- What rows come to for a query they come to for each other one with the same column, area and group.
use Rattle.std.proofs.Common.{◌≡◌, ℕ, List, length, Option, refl, ap, ◌∙◌}
use Rattle.std.specs.Int.{int_min, int_max}
use Rattle.pc_model.specs.declared.query.Query.{Query}
use Rattle.pc_model.specs.declared.query.Folded.{Folded}
use Rattle.pc_model.specs.declared.row.Row.{Row}
use Rattle.pc_model.specs.Aggregate.{kept}
use Rattle.pc_model.specs.Folds.{sum_at, best_at}
use Rattle.pc_check.specs.Seen.{AskAlike, IsSeenFor}

same_kept : (query other : Query) (name : Option ℕ) (rows : List Row) → AskAlike query other → kept query name rows ≡ kept other name rows
same_kept query other name rows alike = rw (alike.chosen, alike.group) refl

pub seen_for_alike : (query other : Query) (name : Option ℕ) (rows : List Row) (folded : Folded) → AskAlike query other → IsSeenFor query name rows folded → IsSeenFor other name rows folded
seen_for_alike query other name rows folded alike seen =
    let same = same_kept query other name rows alike in
    let fold = seen.folded_is in
    record {
      folded_is = record {
        count = fold.count ∙ ap length same;
        sum = fold.sum ∙ ap (λ list. sum_at query.column list) same ∙ ap (λ c. sum_at c (kept other name rows)) alike.column;
        least = fold.least ∙ ap (λ list. best_at int_min query.column list) same ∙ ap (λ c. best_at int_min c (kept other name rows)) alike.column;
        greatest = fold.greatest ∙ ap (λ list. best_at int_max query.column list) same ∙ ap (λ c. best_at int_max c (kept other name rows)) alike.column;
      };
      few = seen.few;
    }
