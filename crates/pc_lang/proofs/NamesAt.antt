-- The name of the column at a place, by what a list has there.
use Rattle.std.proofs.Common.{◌≡◌, ℕ, zero, suc, ◌<◌, ◌≤◌, List, [], ◌∷◌, length, get_or, refl, ap, sym, ◌∙◌, arith}
use Rattle.pc_model.specs.declared.schema.Column.{Column}
use Rattle.pc_lang.specs.Canonical.{name_at}
use Rattle.pc_lang.proofs.QueriesAgain.{name_at-suc, name_at-zero}

name_at-get_or : (columns : List Column) (place : ℕ) (d : Column) → place < length columns → name_at columns place ≡ (get_or columns place d).name
name_at-get_or [] place d inside = absurd (omega arith)
name_at-get_or (column ∷ rest) zero d inside = name_at-zero column rest
name_at-get_or (column ∷ rest) (suc place) d inside = rw (name_at-suc column rest place) (name_at-get_or rest place d (omega arith))

pub named_at : (columns : List Column) (place : ℕ) (column : Column) → place < length columns → column ≡ get_or columns place column → name_at columns place ≡ column.name
named_at columns place column inside found = name_at-get_or columns place column inside ∙ ap (λ (c : Column). c.name) (sym found)

pub unnamed_at : (columns : List Column) (place : ℕ) → length columns ≤ place → name_at columns place ≡ []
unnamed_at [] place past = unfold name_at in refl
unnamed_at (column ∷ rest) zero past = absurd (omega arith)
unnamed_at (column ∷ rest) (suc place) past = rw (name_at-suc column rest place) (unnamed_at rest place (omega arith))

pub ruleset steps = (named_at, unnamed_at)
