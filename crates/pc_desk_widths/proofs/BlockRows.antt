-- The rows of blocks, as far as a loop has come.
use Rattle.std.proofs.Common.{◌≡◌, ◌∙◌, ℕ, ◌+◌, ◌<◌, List, [], ◌∷◌, ◌++◌, get_or, length, take, ap, append-nil}
use Rattle.std.specs.List.{enumerate_from, flat_map}
use Rattle.std.proofs.lemmas.List.Concat.{flat_map-append}
use Rattle.pc_model.specs.declared.constraint.Constraint.{Constraint}
use Rattle.pc_desk_table.specs.declared.sheet.Cell.{Cell}
use Rattle.pc_desk_table.proofs.Enumerated.{enumerate_more}
use Rattle.pc_desk_weigh.specs.declared.weighed.Weighed.{Weighed}
use Rattle.pc_desk_widths.specs.Shown.{block_rows, weigh_rows}

pub rows_more : (constraints : List Constraint) (places : ℕ) (all : List Weighed) (orders : List (List ℕ)) (block : ℕ) (d : List ℕ) → block < length orders
    → weigh_rows constraints places all (take (block + 1) orders) ≡ weigh_rows constraints places all (take block orders) ++ block_rows constraints places all (block, get_or orders block d)
rows_more constraints places all orders block d here =
    let rows = block_rows constraints places all in
    ap (flat_map rows) (enumerate_more orders block d here)
    ∙ flat_map-append rows (enumerate_from 0 (take block orders)) ((block, get_or orders block d) ∷ [])
    ∙ ap (λ (more : List (List Cell)). flat_map rows (enumerate_from 0 (take block orders)) ++ more) (append-nil (rows (block, get_or orders block d)))
