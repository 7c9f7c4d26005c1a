-- What holds of symbols, of words, of names and of the texts of small numbers, holds of all tokens of canonical lines and
-- questions.
use Rattle.std.proofs.Common.{◌≡◌, ℕ, zero, suc, ◌+◌, ◌≤◌, ◌++◌, Bool, true, List, [], ◌∷◌, length, get_or, map, All, ℤ, pos, refl, ◌∙◌, inl, inr, arith, Option, Some, None}
use Rattle.std.specs.Prelude.{IfSome, IsSomeAnd, slice_get}
use Rattle.std.specs.List.{list_all}
use Rattle.std.specs.Cmp.Lexicographic.{pointwise}
use Rattle.std.specs.Ordering.{int_eq}
use Rattle.std.proofs.lemmas.Bool.{and_from, and_parts, cases_Bool, false≢true}
use Rattle.std.proofs.lemmas.List.Elements.{All-head, All-tail}
use Rattle.std.proofs.lemmas.List.Folds.{list_all-append}
use Rattle.pc_num.specs.Put.{scaled_text}
use Rattle.pc_model.specs.declared.schema.Kind.{Kind}
use Rattle.pc_model.specs.declared.schema.Kind.TheVariants.{Int, Dec, Cat}
use Rattle.pc_model.specs.declared.schema.Column.{Column}
use Rattle.pc_model.specs.declared.schema.Schema.{Schema}
use Rattle.pc_model.specs.declared.region.Side.{Side}
use Rattle.pc_model.specs.declared.region.Side.TheVariants.{Span, Names}
use Rattle.pc_model.specs.declared.region.Region.{Region}
use Rattle.pc_model.specs.declared.area.Area.{Area}
use Rattle.pc_model.specs.declared.constraint.When.{When}
use Rattle.pc_model.specs.declared.constraint.When.TheVariants.{Boxes, Outside}
use Rattle.pc_model.specs.declared.constraint.Constraint.{Constraint}
use Rattle.pc_model.specs.declared.query.Agg.{Agg}
use Rattle.pc_model.specs.declared.query.Agg.TheVariants as aggs
use Rattle.pc_model.specs.declared.query.Query.{Query}
use Rattle.pc_model.specs.Accepted.{AreConstraints, HasNames, IsColumnWhere, IsNameFor, IsNumeric, IsQuery, Measures, frequency_limit}
use Rattle.pc_model.specs.Boxes.{IsAreaOf, IsServable, IsWhenOf}
use Rattle.pc_model.specs.Places.{is_place_of}
use Rattle.pc_model.specs.Regions.{is_region_of, is_side_of, whole_side}
use Rattle.pc_model.specs.Texts.{IsName, is_name}
use Rattle.pc_model.specs.WellFormed.{IsColumn, IsKind, IsSmall, IsWellFormed}
use Rattle.pc_model.proofs.Names.{is_name_of}
use Rattle.pc_lang_tokens.specs.declared.token.Symbol.{Symbol}
use Rattle.pc_lang_tokens.specs.declared.token.Symbol.TheVariants as symbols
use Rattle.pc_lang_tokens.specs.declared.token.Word.{Word}
use Rattle.pc_lang_tokens.specs.declared.token.Word.TheVariants as words
use Rattle.pc_lang_tokens.specs.declared.token.Token.{Token}
use Rattle.pc_lang_tokens.specs.declared.token.Token.TheVariants as tokens
use Rattle.pc_lang_grammar.specs.declared.syntax.Atom.{Atom}
use Rattle.pc_lang_grammar.specs.Grammar.{aggregate_tokens, atom_tokens, claim_tokens, frequency_tokens, further_atoms, further_names, further_parts, group_tokens, head_tokens, joined_atoms, line_tokens, measure_tokens, part_tokens, quantile_tokens, question_tokens, ways_tokens, where_tokens}
use Rattle.pc_lang.specs.Canonical.{are_whole, atoms_for, chosen_for, count_text, group_for, head_for, line_for, measure_for, name_at, names_claim, names_from, part_for, question_for, same_side, side_atoms, side_claim, span_claim, ways_for}
use Rattle.pc_lang.specs.declared.quantile.Quantile.{Quantile}
use Rattle.pc_lang.specs.Quantiles.{IsQuantile, quantile_question_for}
use Rattle.pc_lang.proofs.AreasOfParts.{AreRegions}
use Rattle.pc_lang.proofs.NamedSets.{some_name}
use Rattle.pc_lang.proofs.QueriesAgain.{name_at-suc, name_at-zero}
use Rattle.pc_lang.proofs.SidesAgain.{ends_small, set_of_test}

names_are_names : (bits place : ℕ) (names : List (List ℕ)) → All IsName names → list_all is_name (names_from bits place names) ≡ true
unfolding names_from
names_are_names bits place [] all = refl
names_are_names bits place (name ∷ rest) all =
    let later = names_are_names bits (place + 1) rest (All-tail IsName name rest all) in
    elim (cases_Bool (is_place_of bits (pos place))) [
      | inl set ↦ rw set (and_from (is_name name) (list_all is_name (names_from bits (place + 1) rest)) (is_name_of name (All-head IsName name rest all)) later)
      | inr unset ↦ rw unset later
    ]

column_named : (Fits : Kind → Type 0) (columns : List Column) (place : ℕ) → All IsColumn columns → IsSomeAnd (slice_get columns place) (λ (column : Column). Fits column.kind) → is_name (name_at columns place) ≡ true
column_named Fits [] place all at = absurd at
column_named Fits (column ∷ rest) zero all at = rw (name_at-zero column rest) (is_name_of column.name (All-head IsColumn column rest all).name)
column_named Fits (column ∷ rest) (suc place) all at = rw (name_at-suc column rest place) (column_named Fits rest place (All-tail IsColumn column rest all) at)

module _ (fits : Token → Bool) (of_symbol : (which : Symbol) → fits (tokens.Symbol which) ≡ true) (of_word : (word : Word) → fits (tokens.Reserved word) ≡ true) (of_name : (name : List ℕ) → is_name name ≡ true → fits (tokens.Name name) ≡ true) (of_number : (value : ℤ) (scale : ℕ) → IsSmall value → scale ≤ 6 → fits (tokens.Number (scaled_text value scale)) ≡ true) where
  AllFit : List Token → Type 0
  AllFit list = list_all fits list ≡ true

  AllFit-append : (first second : List Token) → AllFit first → AllFit second → AllFit (first ++ second)
  unfolding AllFit
  AllFit-append first second a b = list_all-append fits first second ∙ and_from (list_all fits first) (list_all fits second) a b

  AllFit-name : (name : List ℕ) (rest : List Token) → is_name name ≡ true → AllFit rest → AllFit (tokens.Name name ∷ rest)
  unfolding AllFit
  AllFit-name name rest is later = and_from (fits (tokens.Name name)) (list_all fits rest) (of_name name is) later

  AllFit-symbol : (which : Symbol) (rest : List Token) → AllFit rest → AllFit (tokens.Symbol which ∷ rest)
  unfolding AllFit
  AllFit-symbol which rest later = and_from (fits (tokens.Symbol which)) (list_all fits rest) (of_symbol which) later

  AllFit-word : (word : Word) (rest : List Token) → AllFit rest → AllFit (tokens.Reserved word ∷ rest)
  unfolding AllFit
  AllFit-word word rest later = and_from (fits (tokens.Reserved word)) (list_all fits rest) (of_word word) later

  further_fit : (names : List (List ℕ)) → list_all is_name names ≡ true → AllFit (further_names names)
  further_fit [] e = unfold AllFit in refl
  further_fit (name ∷ rest) e =
      let parts = and_parts (is_name name) (list_all is_name rest) e in
      AllFit-symbol symbols.Comma (tokens.Name name ∷ further_names rest) (AllFit-name name (further_names rest) parts.0 (further_fit rest parts.1))

  set_fits : (stated : List (List ℕ)) → (stated ≡ [] → ⊥) → list_all is_name stated ≡ true → AllFit (claim_tokens (names_claim stated))
  unfolding claim_tokens AllFit
  set_fits [] some e = absurd (some refl)
  set_fits (name ∷ []) some e =
      let parts = and_parts (is_name name) true e in
      rw (of_symbol symbols.Equal, of_name name parts.0) refl
  set_fits (first ∷ second ∷ others) some e =
      let parts = and_parts (is_name first) (list_all is_name (second ∷ others)) e in
      let close : AllFit (tokens.Symbol symbols.CloseSet ∷ []) = rw (of_symbol symbols.CloseSet) refl in
      AllFit-word words.In (tokens.Symbol symbols.OpenSet ∷ tokens.Name first ∷ further_names (second ∷ others) ++ (tokens.Symbol symbols.CloseSet ∷ []))
      (AllFit-symbol symbols.OpenSet (tokens.Name first ∷ further_names (second ∷ others) ++ (tokens.Symbol symbols.CloseSet ∷ []))
      (AllFit-name first (further_names (second ∷ others) ++ (tokens.Symbol symbols.CloseSet ∷ [])) parts.0
      (AllFit-append (further_names (second ∷ others)) (tokens.Symbol symbols.CloseSet ∷ []) (further_fit (second ∷ others) parts.1) close)))

  span_fits : (scale : ℕ) (from upto : ℤ) → scale ≤ 6 → IsSmall from → IsSmall upto → AllFit (claim_tokens (span_claim scale from upto))
  unfolding claim_tokens span_claim AllFit
  span_fits scale from upto few small_from small_upto =
      elim (cases_Bool (int_eq from upto)) [
        | inl one ↦ rw (one, of_symbol symbols.Equal, of_number from scale small_from few) refl
        | inr more ↦ rw (more, of_word words.In, of_number from scale small_from few, of_symbol symbols.Dots, of_number upto scale small_upto few) refl
      ]

  claim_fits : (kind : Kind) (side : Side) → IsKind kind → is_side_of kind side ≡ true → AllFit (claim_tokens (side_claim kind side))
  unfolding side_claim
  claim_fits (Int low high) (Span from upto) is e = let small = ends_small low high from upto is e in span_fits 0 from upto (omega arith) small.0 small.1
  claim_fits (Dec scale low high) (Span from upto) is e = let small = ends_small low high from upto is.1 e in span_fits scale from upto is.0 small.0 small.1
  claim_fits (Cat names) (Names bits) is e =
      let set = set_of_test (length names) bits e in
      set_fits (names_from bits 0 names) (some_name names bits is.own.different set.some set.small) (names_are_names bits 0 names is.own.all)
  claim_fits (Int low high) (Names bits) is e = absurd (false≢true e)
  claim_fits (Dec scale low high) (Names bits) is e = absurd (false≢true e)
  claim_fits (Cat names) (Span from upto) is e = absurd (false≢true e)

  atom_fits : (column : Column) (side : Side) → IsColumn column → is_side_of column.kind side ≡ true → AllFit (atom_tokens (record { column = column.name; claim = side_claim column.kind side }))
  unfolding atom_tokens
  atom_fits column side is e = AllFit-name column.name (claim_tokens (side_claim column.kind side)) (is_name_of column.name is.name) (claim_fits column.kind side is.kind e)

  -- the tokens of each atom
  AtomsFit : List Atom → Type 0
  AtomsFit atoms = list_all (λ (atom : Atom). list_all fits (atom_tokens atom)) atoms ≡ true

  side_fits : (column : Column) (side : Side) (rest : List Atom) → IsColumn column → is_side_of column.kind side ≡ true → AtomsFit rest → AtomsFit (side_atoms column side ++ rest)
  unfolding AtomsFit AllFit side_atoms
  side_fits column side rest is e later =
      elim (cases_Bool (same_side side (whole_side column.kind))) [
        | inl whole ↦ rw whole later
        | inr part ↦ rw (part, atom_fits column side is e) later
      ]

  atoms_fit : (columns : List Column) (sides : List Side) → All IsColumn columns → pointwise (λ (column : Column). is_side_of column.kind) columns sides ≡ true → AtomsFit (atoms_for columns sides)
  unfolding AtomsFit atoms_for
  atoms_fit [] sides all e = refl
  atoms_fit (column ∷ columns) [] all e = absurd (false≢true e)
  atoms_fit (column ∷ columns) (side ∷ sides) all e =
      let parts = and_parts (is_side_of column.kind side) (pointwise (λ (c : Column). is_side_of c.kind) columns sides) e in
      side_fits column side (atoms_for columns sides) (All-head IsColumn column columns all) parts.0
      (atoms_fit columns sides (All-tail IsColumn column columns all) parts.1)

  further_atoms_fit : (atoms : List Atom) → AtomsFit atoms → AllFit (further_atoms atoms)
  unfolding AtomsFit AllFit
  further_atoms_fit [] e = refl
  further_atoms_fit (atom ∷ rest) e =
      let parts = and_parts (list_all fits (atom_tokens atom)) (list_all (λ (a : Atom). list_all fits (atom_tokens a)) rest) e in
      AllFit-word words.And (atom_tokens atom ++ further_atoms rest) (AllFit-append (atom_tokens atom) (further_atoms rest) parts.0 (further_atoms_fit rest parts.1))

  joined_fit : (atoms : List Atom) → AtomsFit atoms → AllFit (joined_atoms atoms)
  unfolding AtomsFit AllFit
  joined_fit [] e = rw (of_word words.True) refl
  joined_fit (atom ∷ rest) e =
      let parts = and_parts (list_all fits (atom_tokens atom)) (list_all (λ (a : Atom). list_all fits (atom_tokens a)) rest) e in
      AllFit-append (atom_tokens atom) (further_atoms rest) parts.0 (further_atoms_fit rest parts.1)

  part_fits : (schema : Schema) (region : Region) → IsWellFormed schema → is_region_of schema region ≡ true → AllFit (part_tokens (part_for schema region))
  unfolding is_region_of part_tokens
  part_fits schema region is e = joined_fit (atoms_for schema.columns region.sides) (atoms_fit schema.columns region.sides is.columns.all e)

  further_parts_fit : (schema : Schema) (boxes : List Region) → IsWellFormed schema → AreRegions schema boxes → AllFit (further_parts (map (part_for schema) boxes))
  further_parts_fit schema [] is are = unfold AllFit in refl
  further_parts_fit schema (box ∷ rest) is are =
      let first = part_tokens (part_for schema box) in
      let others = further_parts (map (part_for schema) rest) in
      let here = All-head (λ (b : Region). is_region_of schema b ≡ true) box rest are in
      let later = All-tail (λ (b : Region). is_region_of schema b ≡ true) box rest are in
      AllFit-word words.Or (first ++ others) (AllFit-append first others (part_fits schema box is here) (further_parts_fit schema rest is later))

  boxes_fit : (schema : Schema) (boxes : List Region) → IsWellFormed schema → 1 ≤ length boxes → AreRegions schema boxes → AllFit (ways_tokens (ways_for schema boxes))
  unfolding ways_tokens ways_for
  boxes_fit schema [] is some are = absurd (omega arith)
  boxes_fit schema (box ∷ rest) is some are =
      let here = All-head (λ (b : Region). is_region_of schema b ≡ true) box rest are in
      let later = All-tail (λ (b : Region). is_region_of schema b ≡ true) box rest are in
      AllFit-append (part_tokens (part_for schema box)) (further_parts (map (part_for schema) rest)) (part_fits schema box is here) (further_parts_fit schema rest is later)

  ways_fit : (schema : Schema) (area : Area) → IsWellFormed schema → IsAreaOf schema area → AllFit (ways_tokens (ways_for schema area.boxes))
  ways_fit schema area is of = boxes_fit schema area.boxes is of.some of.each

  head_fits : (schema : Schema) (name : List ℕ) (when : When) → IsWellFormed schema → IsWhenOf schema when → IsNameFor when name → AllFit (head_tokens (head_for schema name when))
  unfolding head_tokens head_for
  head_fits schema name (Boxes area) is of named =
      let ways = ways_tokens (ways_for schema area.boxes) in
      AllFit-name name (tokens.Symbol symbols.Colon ∷ ways) (is_name_of name named) (AllFit-symbol symbols.Colon ways (ways_fit schema area is of))
  head_fits schema name Outside is of named = AllFit-word words.Outside [] (unfold AllFit in refl)

  counts_fit : (least most : ℕ) → least ≤ frequency_limit → most ≤ frequency_limit → AllFit (frequency_tokens (count_text least) (count_text most))
  unfolding AllFit
  counts_fit least most small_least small_most =
      rw (of_symbol symbols.Comma, of_number (pos least) 0 (omega arith) (omega arith), of_symbol symbols.Dots, of_number (pos most) 0 (omega arith) (omega arith)) refl

  pub line_fits : (schema : Schema) (c : Constraint) → IsWellFormed schema → IsServable schema c → c.most ≤ frequency_limit → IsNameFor c.when c.name → list_all fits (line_tokens (line_for schema c)) ≡ true
  unfolding AllFit line_tokens line_for
  line_fits schema c is servable small named =
      let ordered = servable.ordered in
      let head = head_tokens (head_for schema c.name c.when) in
      let values = part_tokens (part_for schema c.values) in
      let counts = frequency_tokens (count_text c.least) (count_text c.most) in
      let body = AllFit-append head (tokens.Symbol symbols.Arrow ∷ values) (head_fits schema c.name c.when is servable.when_area named) (AllFit-symbol symbols.Arrow values (part_fits schema c.values is servable.value_region)) in
      AllFit-append (head ++ tokens.Symbol symbols.Arrow ∷ values) counts body (counts_fit c.least c.most (omega (arith, ordered)) small)

  -- the lines of constraints
  pub lines_fit : (schema : Schema) (constraints : List Constraint) → IsWellFormed schema → AreConstraints schema constraints → All (λ (c : Constraint). list_all fits (line_tokens (line_for schema c)) ≡ true) constraints
  lines_fit schema constraints is are = λ k d inside. line_fits schema (get_or constraints k d) is (are.servable k d inside) (are.small k d inside) (are.named k d inside)

  aggregate_fits : (word : Word) (name : List ℕ) → is_name name ≡ true → AllFit (aggregate_tokens word name)
  unfolding AllFit
  aggregate_fits word name e = rw (of_word word, of_symbol symbols.OpenGroup, of_name name e, of_symbol symbols.CloseGroup) refl

  measure_fits : (schema : Schema) (agg : Agg) (column : Option ℕ) → IsWellFormed schema → Measures schema agg column → AllFit (measure_tokens (measure_for schema agg column))
  unfolding measure_tokens measure_for AllFit
  measure_fits schema aggs.Count column is none = rw (of_word words.Count) refl
  measure_fits schema aggs.Sum (Some place) is at = aggregate_fits words.Sum (name_at schema.columns place) (column_named IsNumeric schema.columns place is.columns.all at)
  measure_fits schema aggs.Min (Some place) is at = aggregate_fits words.Min (name_at schema.columns place) (column_named IsNumeric schema.columns place is.columns.all at)
  measure_fits schema aggs.Max (Some place) is at = aggregate_fits words.Max (name_at schema.columns place) (column_named IsNumeric schema.columns place is.columns.all at)
  measure_fits schema aggs.Avg (Some place) is at = aggregate_fits words.Avg (name_at schema.columns place) (column_named IsNumeric schema.columns place is.columns.all at)
  measure_fits schema aggs.Sum None is at = absurd at
  measure_fits schema aggs.Min None is at = absurd at
  measure_fits schema aggs.Max None is at = absurd at
  measure_fits schema aggs.Avg None is at = absurd at

  chosen_fits : (schema : Schema) (area : Area) → IsWellFormed schema → IsAreaOf schema area → AllFit (where_tokens (chosen_for schema area))
  chosen_fits schema area is of =
      elim (cases_Bool (are_whole schema area.boxes)) [
        | inl whole ↦ rw whole (unfold AllFit in refl)
        | inr part ↦ rw part (AllFit-word words.Where (ways_tokens (ways_for schema area.boxes)) (ways_fit schema area is of))
      ]

  group_fits : (schema : Schema) (group : Option ℕ) → IsWellFormed schema → IfSome group (IsColumnWhere HasNames schema) → AllFit (group_tokens (group_for schema group))
  unfolding AllFit
  group_fits schema None is at = refl
  group_fits schema (Some place) is at = rw (of_word words.Group, of_word words.By, of_name (name_at schema.columns place) (column_named HasNames schema.columns place is.columns.all at)) refl

  pub question_fits : (schema : Schema) (q : Query) → IsWellFormed schema → IsQuery schema q → list_all fits (question_tokens (question_for schema q)) ≡ true
  unfolding AllFit question_tokens question_for
  question_fits schema q is asked =
      let measure = measure_tokens (measure_for schema q.agg q.column) in
      let chosen = where_tokens (chosen_for schema q.chosen) in
      let group = group_tokens (group_for schema q.group) in
      AllFit-append (measure ++ chosen) group
      (AllFit-append measure chosen (measure_fits schema q.agg q.column is asked.measured) (chosen_fits schema q.chosen is asked.chosen))
      (group_fits schema q.group is asked.grouped)

  pub quantile_fits : (schema : Schema) (asked : Quantile) → IsWellFormed schema → IsQuantile schema asked → list_all fits (quantile_tokens (quantile_question_for schema asked)) ≡ true
  unfolding AllFit quantile_tokens quantile_question_for
  quantile_fits schema asked is accepted =
      let few = accepted.few in
      let most = accepted.most in
      let named = column_named IsNumeric schema.columns asked.column is.columns.all accepted.numeric in
      rw (
        of_word words.Quantile,
        of_symbol symbols.OpenGroup,
        of_number (pos asked.p) 0 (omega (arith, few, most)) (omega arith),
        of_symbol symbols.Comma,
        of_number (pos asked.q) 0 (omega (arith, few)) (omega arith),
        of_name (name_at schema.columns asked.column) named,
        of_symbol symbols.CloseGroup,
      ) (chosen_fits schema asked.chosen is accepted.chosen)
