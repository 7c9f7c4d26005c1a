use Rattle.std.proofs.Common.{◌++◌, List, [], ◌∷◌, ap, ap₂, length, sym, ◌∙◌}
use Rattle.pc_desk_table.specs.declared.sheet.Title.{Title}
use Rattle.pc_desk_table.specs.declared.sheet_columns.SheetColumn.{SheetColumn}
use Rattle.pc_desk_table.specs.Sheets.{sheet_column}
use Rattle.pc_desk_table.proofs.Enumerated.{map_enumerate_more}
use Rattle.pc_desk_table.proofs.sheet_columns.sheet_columns.Goals as goal

pub loop-place-preserved : goal.loop-place-preserved
loop-place-preserved c =
    let at = c.loop-place in
    let rows = c.args.rows.now in
    let count = length c.args.titles.now in
    let column = c.in_ok-column.ensures ∙ ap (λ (title : Title). sheet_column count rows (at.place, title)) c.index-titles-place.is in
    c.in_ok-push.ensures.items ∙ ap₂ (λ (columns : List SheetColumn) (next : SheetColumn). columns ++ next ∷ []) at.invariant column
    ∙ sym (map_enumerate_more (sheet_column count rows) c.args.titles.now at.place _ c.loop-place-test.true)
