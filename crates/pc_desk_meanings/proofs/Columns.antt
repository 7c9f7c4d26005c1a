-- The names of columns, as far as a loop has come.
use Rattle.std.proofs.Common.{◌≡◌, ℕ, ◌≤◌, List, [], ◌∷◌, ◌++◌, length, drop, sym, append_assoc}
use Rattle.std.proofs.lemmas.List.{append-nil, drop_all}
use Rattle.pc_model.specs.declared.schema.Column.{Column}
use Rattle.pc_desk_meanings.specs.Columns.{names_in}

pub one_more : (done : List (List ℕ)) (column : Column) (rest : List Column) → done ++ names_in (column ∷ rest) ≡ (done ++ column.name ∷ []) ++ names_in rest
unfolding names_in
one_more done column rest = sym (append_assoc done (column.name ∷ []) (names_in rest))

pub no_more : (done : List (List ℕ)) (place : ℕ) (columns : List Column) → length columns ≤ place → done ++ names_in (drop place columns) ≡ done
unfolding names_in
no_more done place columns past = rw (drop_all place columns past) (append-nil done)

pub ruleset steps = (one_more, no_more)
