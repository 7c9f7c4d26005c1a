-- A table that was written is read back.
use Rattle.std.specs.List.{flat_map}
use Rattle.std.proofs.Common.{◌≡◌, Bool, true, false, List, [], ◌∷◌, Some, map, refl, sym, ap, subst, ◌∙◌}
use Rattle.csv.specs.Machine.{next_record}
use Rattle.csv.specs.Reading.{AreRecords, Reached, default_config, strip_bom}
use Rattle.csv.specs.Writing.{fields_text, is_blank, read_back}
use Rattle.csv.specs.declared.parser.State.TheVariants as st
use Rattle.csv.proofs.RoundTrip.{read-write}
use Rattle.pc_desk_table.specs.declared.entry.Entry.{Entry}
use Rattle.pc_desk_table.specs.Reading.{IsReadAs, records_of, records_with}
use Rattle.pc_desk_table.specs.Table.{fields_of, has_lines, header, record_text, table_text, table_with}

-- no record is of no field
header_stays : (lined : Bool) → read_back (header lined) ≡ header lined
header_stays true = refl
header_stays false = refl

fields_stay : (lined : Bool) (entry : Entry) → read_back (fields_of lined entry) ≡ fields_of lined entry
fields_stay true entry = refl
fields_stay false entry = refl

-- .. and no table starts with the mark of an order of bytes
starts_plain : (lined : Bool) (entries : List Entry) → strip_bom (table_with lined entries) ≡ table_with lined entries
unfolding strip_bom fields_text is_blank
starts_plain true entries = refl
starts_plain false entries = refl

entries_back : (lined : Bool) (entries : List Entry)
    → Reached default_config st.StartRecord (flat_map (record_text lined) entries) (map (fields_of lined) entries) st.StartRecord []
unfolding Reached
entries_back lined [] = (refl, refl)
entries_back lined (entry ∷ rest) =
    let after = flat_map (record_text lined) rest in (
      (fields_of lined entry, st.StartRecord, after),
      read-write (fields_of lined entry) after ∙ ap (λ fields. Some (fields, st.StartRecord, after)) (fields_stay lined entry),
      refl,
      entries_back lined rest,
    )

table_back : (lined : Bool) (entries : List Entry) → AreRecords default_config st.StartRecord (table_with lined entries) (records_with lined entries)
unfolding Reached next_record
table_back lined entries =
    let after = flat_map (record_text lined) entries in (
      st.StartRecord,
      [],
      (
        (header lined, st.StartRecord, after),
        read-write (header lined) after ∙ ap (λ fields. Some (fields, st.StartRecord, after)) (header_stays lined),
        refl,
        entries_back lined entries,
      ),
      refl,
    )

pub tables_are_read_back : (entries : List Entry) → IsReadAs (table_text entries) (records_of entries)
unfolding IsReadAs table_text records_of
tables_are_read_back entries =
    subst (λ text. AreRecords default_config st.StartRecord text (records_with (has_lines entries) entries)) (sym (starts_plain (has_lines entries) entries)) (table_back (has_lines entries) entries)
