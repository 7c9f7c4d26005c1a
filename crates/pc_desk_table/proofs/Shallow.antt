-- The data of what is shown has no float, and does not go deep.
use Rattle.std.specs.Prelude.{⊤}
use Rattle.std.specs.Ordering.{match_ordering}
use Rattle.std.specs.Cmp.Lexicographic.{slice_cmp}
use Rattle.std.proofs.Common.{◌≡◌, ℕ, ◌+◌, ◌≤◌, List, [], ◌∷◌, ◌++◌, false, Option, Some, None, Ordering, Less, Equal, Greater, nat_cmp, map, fold, refl, arith}
use Rattle.std.proofs.lemmas.Bool.{or_from, or_parts}
use Rattle.serde_json.specs.Data.{Data, null, string, array, object, Members, no_members, member, put, depth, items_depth, members_depth}
use Rattle.serde_json.specs.View.{items_of}
use Rattle.serde_json.specs.Written.{has_float, items_have_float, members_have_float}
use Rattle.pc_desk_table.specs.declared.entry.End.{End}
use Rattle.pc_desk_table.specs.declared.entry.Entry.{Entry}
use Rattle.pc_desk_table.specs.declared.entry.Field.{Field}
use Rattle.pc_desk_table.specs.declared.entry.Group.{Group}
use Rattle.pc_desk_table.specs.declared.entry.Range.{Range}
use Rattle.pc_desk_table.specs.declared.entry.Repeated.{Repeated}
use Rattle.pc_desk_table.specs.declared.entry.SaidLack.{SaidLack}
use Rattle.pc_desk_table.specs.declared.entry.Value.{Value}
use Rattle.std.specs.List.{enumerate_from}
use Rattle.pc_desk_table.specs.declared.sheet.Cell.{Cell}
use Rattle.pc_desk_table.specs.declared.sheet.Cell.TheVariants as kinds
use Rattle.pc_desk_table.specs.declared.sheet.Sheet.{Sheet}
use Rattle.pc_desk_table.specs.declared.sheet.Title.{Title}
use Rattle.pc_desk_table.specs.Sheets.{cell_at, cell_data, put_cell, sheet_row_data, sheet_data}
use Rattle.pc_desk_table.specs.Json.{data_of, end_data, end_pairs, entry_data, group_pairs, lack_data, line_pairs, object_of, observed_data, put_field, put_pair, question_pairs, range_pairs, repeated_data, repeated_pairs}

-- data without a float that goes so deep at most
abbrev pub IsPlain : ℕ → Data → Type 0
IsPlain n d = (has_float d ≡ false) × (depth d ≤ n)

-- as all that is no list and no object is
flat : (n : ℕ) → IsPlain n null
flat n = (refl, omega arith)

abbrev ArePlain : ℕ → Members → Type 0
ArePlain n ms = (members_have_float ms ≡ false) × (members_depth ms ≤ n)

-- the same of pairs that are put
abbrev Fit : ℕ → List (List ℕ × Data) → Type 0
Fit n [] = ⊤
Fit n (pair ∷ pairs) = IsPlain n pair.1 × Fit n pairs

either : (o : Ordering) (n : ℕ) (a b c : Members) → ArePlain n a → ArePlain n b → ArePlain n c → ArePlain n (match_ordering o a b c)
either Less n a b c x y z = x
either Equal n a b c x y z = y
either Greater n a b c x y z = z

with_member : (n : ℕ) (k : List ℕ) (d : Data) (ms : Members) → IsPlain n d → ArePlain n ms → ArePlain n (member k d ms)
with_member n k d ms h g = (or_from _ _ h.0 g.0, (let deep = h.1 in let deeper = g.1 in omega arith))

first_of : (n : ℕ) (k : List ℕ) (d : Data) (ms : Members) → ArePlain n (member k d ms) → IsPlain n d
first_of n k d ms h = ((or_parts _ _ h.0).0, (let deep = h.1 in omega arith))

rest_of : (n : ℕ) (k : List ℕ) (d : Data) (ms : Members) → ArePlain n (member k d ms) → ArePlain n ms
rest_of n k d ms h = ((or_parts _ _ h.0).1, (let deep = h.1 in omega arith))

put_plain : (n : ℕ) (k : List ℕ) (d : Data) (ms : Members) → IsPlain n d → ArePlain n ms → ArePlain n (put k d ms)
put_plain n k d no_members h g = with_member n k d no_members h g
put_plain n k d (member l e ms) h g =
    let later = rest_of n l e ms g in
    either (slice_cmp nat_cmp k l) n _ _ _
    (with_member n k d (member l e ms) h g)
    (with_member n l d ms h later)
    (with_member n l e (put k d ms) (first_of n l e ms g) (put_plain n k d ms h later))

pairs_plain : (n : ℕ) (found : Members) (pairs : List (List ℕ × Data)) → ArePlain n found → Fit n pairs → ArePlain n (fold put_pair found pairs)
pairs_plain n found [] g h = g
pairs_plain n found (pair ∷ pairs) g h = pairs_plain n (put pair.0 pair.1 found) pairs (put_plain n pair.0 pair.1 found h.0 g) h.1

fields_plain : (found : Members) (fields : List Field) → ArePlain 0 found → ArePlain 0 (fold put_field found fields)
fields_plain found [] g = g
fields_plain found (field ∷ fields) g = fields_plain (put field.column (string field.text) found) fields (put_plain 0 field.column (string field.text) found (flat 0) g)

fit_append : (n : ℕ) (xs ys : List (List ℕ × Data)) → Fit n xs → Fit n ys → Fit n (xs ++ ys)
fit_append n [] ys h g = g
fit_append n (x ∷ xs) ys h g = (h.0, fit_append n xs ys h.1 g)

object_plain : (n : ℕ) (ms : Members) → ArePlain n ms → IsPlain (n + 1) (object ms)
object_plain n ms h = (h.0, (let deep = h.1 in omega arith))

object_of_plain : (n : ℕ) (pairs : List (List ℕ × Data)) → Fit n pairs → IsPlain (n + 1) (object_of pairs)
object_of_plain n pairs h = object_plain n _ (pairs_plain n no_members pairs (refl, omega arith) h)

module _ {X : Type 0} (f : X → Data) (n : ℕ) (each : (x : X) → IsPlain n (f x)) where
  items_plain : (xs : List X) → (items_have_float (items_of (map f xs)) ≡ false) × (items_depth (items_of (map f xs)) ≤ n)
  items_plain [] = (refl, omega arith)
  items_plain (x ∷ xs) =
      let here = each x in
      let later = items_plain xs in
      (or_from _ _ here.0 later.0, (let deep = here.1 in let deeper = later.1 in omega arith))

  array_plain : (xs : List X) → IsPlain (n + 1) (array (items_of (map f xs)))
  array_plain xs = let all = items_plain xs in (all.0, (let deep = all.1 in omega arith))

repeated_plain : (repeated : Repeated) → IsPlain 2 (repeated_data repeated)
repeated_plain repeated =
    object_of_plain 1 (repeated_pairs repeated) (flat 1, (object_plain 0 (fold put_field no_members repeated.fields) (fields_plain no_members repeated.fields (refl, omega arith)), tt))

end_plain : (end : End) → IsPlain 4 (end_data end)
end_plain end = object_of_plain 3 (end_pairs end) (flat 3, (flat 3, (array_plain repeated_data 2 repeated_plain end.rows, tt)))

lack_plain : (lack : Option SaidLack) → IsPlain 4 (lack_data lack)
lack_plain None = flat 4
lack_plain (Some lack) = flat 4

observed_plain : (observed : Option Value) → IsPlain 4 (observed_data observed)
observed_plain None = flat 4
observed_plain (Some shown) = flat 4

line_fits : (line : Option ℕ) → Fit 4 (line_pairs line)
line_fits None = tt
line_fits (Some line) = (flat 4, tt)

group_fits : (group : Option Group) → Fit 4 (group_pairs group)
group_fits None = (flat 4, (flat 4, tt))
group_fits (Some group) = (flat 4, (flat 4, tt))

range_fits : (range : Option Range) → Fit 4 (range_pairs range)
range_fits None = (flat 4, (flat 4, (flat 4, (flat 4, (flat 4, tt)))))
range_fits (Some range) = (end_plain range.low, (end_plain range.high, (flat 4, (flat 4, (flat 4, tt)))))

question_fits : (entry : Entry) → Fit 4 (question_pairs entry)
question_fits entry = (flat 4, (flat 4, (lack_plain entry.lack, (observed_plain entry.observed, tt))))

entry_plain : (entry : Entry) → IsPlain 5 (entry_data entry)
unfolding entry_data
entry_plain entry =
    object_of_plain 4 _
    (fit_append 4 _ _ (fit_append 4 _ _ (fit_append 4 _ _ (line_fits entry.line) (question_fits entry)) (group_fits entry.group)) (range_fits entry.range))

pub data_plain : (entries : List Entry) → IsPlain 6 (data_of entries)
unfolding data_of
data_plain entries = array_plain entry_data 5 entry_plain entries

-- ---- of a sheet

cell_plain : (cell : Cell) → IsPlain 0 (cell_data cell)
cell_plain kinds.Empty = flat 0
cell_plain (kinds.Word text) = flat 0
cell_plain (kinds.Count count) = flat 0
cell_plain (kinds.Truth truth) = flat 0

cells_plain : (row : List Cell) (found : Members) (entries : List (ℕ × Title)) → ArePlain 0 found → ArePlain 0 (fold (put_cell row) found entries)
cells_plain row found [] g = g
cells_plain row found (entry ∷ entries) g =
    cells_plain row (put_cell row found entry) entries (put_plain 0 entry.1.name (cell_data (cell_at row entry.0)) found (cell_plain (cell_at row entry.0)) g)

sheet_row_plain : (titles : List Title) (row : List Cell) → IsPlain 5 (sheet_row_data titles row)
sheet_row_plain titles row =
    let shallow = object_plain 0 (fold (put_cell row) no_members (enumerate_from 0 titles)) (cells_plain row no_members (enumerate_from 0 titles) (refl, omega arith)) in
    (shallow.0, (let deep = shallow.1 in omega arith))

pub sheet_plain : (sheet : Sheet) → IsPlain 6 (sheet_data sheet)
unfolding sheet_data
sheet_plain sheet = array_plain (sheet_row_data sheet.titles) 5 (sheet_row_plain sheet.titles) sheet.rows
