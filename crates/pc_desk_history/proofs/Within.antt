-- Of rows of the domain, those of a cell are chosen.
use Rattle.std.proofs.Common.{◌≡◌, true, List, All, get_or}
use Rattle.std.specs.List.{AllPass}
use Rattle.std.proofs.lemmas.List.Folds.{list_any_at}
use Rattle.pc_model.specs.declared.area.Area.{Area}
use Rattle.pc_model.specs.declared.row.Row.{Row}
use Rattle.pc_model.specs.declared.schema.Schema.{Schema}
use Rattle.pc_model.specs.Membership.{in_domain, is_in}
use Rattle.pc_desk_history.specs.Laws.{AreWithin}

abbrev pub AreChosen : List Row → Area → Area → Type 0
AreChosen rows chosen cell = All (λ row. is_in cell row ≡ true → is_in chosen row ≡ true) rows

pub cells_chosen : (schema : Schema) (rows : List Row) (chosen : Area) (cells : List Area) → AllPass (in_domain schema) rows → AreWithin schema chosen cells →
    All (AreChosen rows chosen) cells
cells_chosen schema rows chosen cells allowed within k d there = λ place default inside held.
    let row = get_or rows place default in
    within row (allowed place default inside) (list_any_at (λ (cell : Area). is_in cell row) cells k d there held)
