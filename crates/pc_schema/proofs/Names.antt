-- The names of a column, as far as a loop has come, and a name that is not taken.
use Rattle.std.proofs.Common.{◌≡◌, ◌≢◌, ℕ, ◌+◌, ◌<◌, ◌≤◌, length, get_or, drop, false, List, [], ◌∷◌, ◌++◌, Result, Ok, Err, refl, sym, arith, add-one, drop-cons, length-append}
use Rattle.std.specs.List.{list_any}
use Rattle.std.specs.Str.{bytes_eq}
use Rattle.std.proofs.lemmas.Bool.{both_ways}
use Rattle.std.proofs.lemmas.List.{drop_all}
use Rattle.std.proofs.lemmas.List.Elements.{All-push}
use Rattle.std.proofs.lemmas.List.Folds.{list_any_at}
use Rattle.std.proofs.lemmas.List.Quantifiers.{all_pairs_push}
use Rattle.std.proofs.lemmas.Slice.Eq.{bytes_eq-Decides}
use Rattle.pc_model.specs.declared.fault.Reason.{Reason}
use Rattle.pc_model.specs.declared.fault.ReadStop.{ReadStop}
use Rattle.pc_model.specs.declared.fault.ReadStop.TheVariants as stops
use Rattle.pc_model.specs.Refusals.{StopsAs}
use Rattle.pc_model.specs.declared.schema.Column.{Column}
use Rattle.pc_model.specs.Texts.{IsName}
use Rattle.pc_model.specs.WellFormed.{AreColumns, AreNames, IsColumn}
use Rattle.pc_records.specs.Fields.{field}
use Rattle.pc_schema.specs.SchemaFile.{name_of, names_from, is_taken, LackName}

-- what the field at a place is among the names before
abbrev pub name_at : List (List ℕ) → List (List ℕ) → ℕ → Result (List ℕ) Reason
name_at before fields place = name_of (list_any (bytes_eq (field fields place)) before) (field fields place)

pub names_step : (before fields : List (List ℕ)) (place : ℕ) (name : List ℕ) → place < length fields → name_at before fields place ≡ Ok name → names_from before (drop place fields) ≡ names_from (before ++ name ∷ []) (drop (place + 1) fields)
unfolding names_from
names_step before fields place name inside e = rw (add-one, drop-cons fields place [], e) refl

pub names_end : (before fields : List (List ℕ)) (place : ℕ) → length fields ≤ place → names_from before (drop place fields) ≡ Ok before
unfolding names_from
names_end before fields place past = rw (drop_all place fields past) refl

names_err : (before fields : List (List ℕ)) (place : ℕ) (reason : Reason) → place < length fields → name_at before fields place ≡ Err reason → names_from before (drop place fields) ≡ Err reason
unfolding names_from
names_err before fields place reason inside e = rw (drop-cons fields place [], e) refl

pub names_stop : (stop : ReadStop) (before fields : List (List ℕ)) (place : ℕ) → place < length fields → StopsAs stop (name_at before fields place) → StopsAs stop (names_from before (drop place fields))
names_stop (stops.Reason reason) before fields place inside e = names_err before fields place reason inside e
names_stop stops.Memory before fields place inside e = tt

pub lacks_name : (columns : List Column) (name : List ℕ) → is_taken columns name ≡ false → LackName name columns
lacks_name columns name free k d inside same =
    both_ways _ free (list_any_at (λ (column : Column). bytes_eq name column.name) columns k d inside ((bytes_eq-Decides name (get_or columns k d).name).1 (sym same)))

pub lacks_text : (names : List (List ℕ)) (name : List ℕ) → list_any (bytes_eq name) names ≡ false → (k : ℕ) (d : List ℕ) → k < length names → get_or names k d ≢ name
lacks_text names name free k d inside same =
    both_ways _ free (list_any_at (bytes_eq name) names k d inside ((bytes_eq-Decides name (get_or names k d)).1 (sym same)))

pub more_names : (names : List (List ℕ)) (name : List ℕ) → AreNames names → IsName name → list_any (bytes_eq name) names ≡ false → AreNames (names ++ name ∷ [])
more_names names name are is free = record {
  all = All-push IsName names name are.all is;
  different = all_pairs_push (λ a b. a ≢ b) names name are.different (lacks_text names name free);
}

pub more_columns : (columns : List Column) (column : Column) → AreColumns columns → IsColumn column → length columns < 12 → LackName column.name columns → AreColumns (columns ++ column ∷ [])
more_columns columns column are is room fresh = record {
  few = omega (arith, length-append columns (column ∷ []));
  all = All-push IsColumn columns column are.all is;
  own_names = all_pairs_push (λ (a b : Column). a.name ≢ b.name) columns column are.own_names fresh;
}

pub ruleset steps = (names_step, names_end, more_names)
