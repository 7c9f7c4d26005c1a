-- The line of the name of a group is read as that name's place.
use Rattle.std.proofs.Common.{◌≡◌, ◌≤◌, ◌<◌, ℕ, zero, suc, ◌+◌, Bool, true, false, List, [], ◌∷◌, ◌++◌, length, get_or, Option, Some, None, arith, refl, sym, ap, ◌∙◌, inl, inr, if◌then◌else◌}
use Rattle.std.specs.Prelude.{bytes_eq, codes, IsSomeAnd, slice_get}
use Rattle.std.proofs.lemmas.Bool.{cases_Bool, cases_order, false≢true}
use Rattle.std.proofs.lemmas.Slice.Eq.{bytes_eq-Decides}
use Rattle.pc_model.specs.declared.schema.Kind.{Kind}
use Rattle.pc_model.specs.declared.schema.Kind.TheVariants.{Int, Dec, Cat}
use Rattle.pc_model.specs.declared.schema.Column.{Column}
use Rattle.pc_model.specs.declared.schema.Schema.{Schema}
use Rattle.pc_model.specs.Accepted.{HasNames, IsColumnWhere}
use Rattle.pc_model.specs.Texts.{IsName}
use Rattle.pc_model.specs.WellFormed.{AreValues, IsColumn, IsKind, IsWellFormed}
use Rattle.pc_model.proofs.Lists.{bytes_eq-same}
use Rattle.pc_model.proofs.Names.{is_name_of}
use Rattle.pc_lang_tokens.specs.declared.token.Symbol.TheVariants as symbols
use Rattle.pc_lang_tokens.specs.declared.token.Word.TheVariants as words
use Rattle.pc_lang_tokens.specs.declared.token.Token.TheVariants as tokens
use Rattle.pc_lang_tokens.specs.Lexing.{tokens_of}
use Rattle.pc_lang_tokens.specs.Spelling.{name_text}
use Rattle.pc_lang_tokens.specs.Texts.{token_text, tokens_text}
use Rattle.pc_lang_tokens.proofs.TokensBack.{after_cons, after_nil}
use Rattle.pc_document_format.specs.Formats.{IsLine}
use Rattle.pc_document_format.specs.Lines.{feeds_in}
use Rattle.pc_proof.specs.Form.{IsGroupName}
use Rattle.pc_report.proofs.NamesBack.{same_place}
use Rattle.pc_document_lines.specs.TokenLines.{Tokens, group_found, group_text, names_count, read_group, tokens_if}
use Rattle.pc_document_lines.proofs.TokensOf.{AreSpelled, column_of_all, spelled_more, text_opens, tokens_again, tokens_plain}

-- ---- the line is the text of its tokens

-- the tokens of the line of a name
abbrev group_tokens : List ℕ → List ℕ → Tokens
group_tokens column name = tokens.Reserved words.Group ∷ tokens.Name column ∷ tokens.Symbol symbols.Equal ∷ tokens.Name name ∷ []

-- the line is their text
group_written : (column name : List ℕ) → codes "group " ++ (name_text column ++ (codes " = " ++ (name_text name ++ []))) ≡ tokens_text (group_tokens column name)
unfolding token_text
group_written column name =
    sym (text_opens (tokens.Reserved words.Group) (tokens.Name column ∷ tokens.Symbol symbols.Equal ∷ tokens.Name name ∷ [])
    ∙ rw (after_cons (tokens.Reserved words.Group) (tokens.Name column) (tokens.Symbol symbols.Equal ∷ tokens.Name name ∷ []), after_cons (tokens.Name column) (tokens.Symbol symbols.Equal) (tokens.Name name ∷ []), after_cons (tokens.Symbol symbols.Equal) (tokens.Name name) [], after_nil (tokens.Name name)) refl)

-- ---- the texts of a column of names

-- The lines of a group: one for each name, which tells its place.
record AreGroups (schema : Schema) (group : ℕ) (count : ℕ) : Type 0 where
  some : 0 < count
  counted : names_count (slice_get schema.columns group) ≡ count
  into : (place : ℕ) → IsGroupName schema (Some group) (Some place) → place < count
  from : (place : ℕ) → place < count → IsGroupName schema (Some group) (Some place)
  apart : (p q : ℕ) → p < count → q < count → group_text schema group p ≡ group_text schema group q → p ≡ q
  plain : (place : ℕ) → place < count → feeds_in (group_text schema group place) ≡ 0

module _ (schema : Schema) (group : ℕ) (column : Column) (names : List (List ℕ)) (is : slice_get schema.columns group ≡ Some column) (kind : column.kind ≡ Cat names) (named : IsName column.name) (are : AreValues names) where
  -- the tokens for the name at a place
  abbrev list_at : ℕ → Tokens
  list_at place = group_tokens column.name (get_or names place [])

  -- the line of a place is their text
  text_is : (place : ℕ) → group_text schema group place ≡ tokens_text (list_at place)
  unfolding group_text
  text_is place = rw (is, kind) (group_written column.name (get_or names place []))

  -- they are spelled
  list_spelled : (place : ℕ) → place < length names → AreSpelled (list_at place)
  list_spelled place inside =
      let last = spelled_more [] (get_or names place []) (is_name_of (get_or names place []) (are.own.all place [] inside)) refl in
      spelled_more (tokens.Symbol symbols.Equal ∷ tokens.Name (get_or names place []) ∷ []) column.name (is_name_of column.name named) last

  -- the tokens tell the name
  same_name : (a b : List ℕ) → group_tokens column.name a ≡ group_tokens column.name b → a ≡ b
  same_name a b e = cc

  -- lines of different places differ
  texts_apart : (p q : ℕ) → p < length names → q < length names → group_text schema group p ≡ group_text schema group q → p ≡ q
  texts_apart p q inside within e =
      let texts = sym (text_is p) ∙ e ∙ text_is q in
      let lists = sym (tokens_again (list_at p) (list_spelled p inside)) ∙ ap (λ text. tokens_if (tokens_of text)) texts ∙ tokens_again (list_at q) (list_spelled q within) in
      same_place names [] p q are.own.different inside within (same_name (get_or names p []) (get_or names q []) lists)

  -- so the column has lines that tell their places
  are_groups : AreGroups schema group (length names)
  are_groups = record {
    some = let some = are.some in omega (arith, some);
    counted = rw (is, kind) refl;
    into = λ place good. rw (is, kind) at good;
    from = λ place inside. rw (is, kind) inside;
    apart = texts_apart;
    plain = λ place inside. ap feeds_in (text_is place) ∙ tokens_plain (list_at place) (list_spelled place inside);
  }

-- each column of names of a well-formed schema has
groups_at : (schema : Schema) (group : ℕ) → IsWellFormed schema → IsColumnWhere HasNames schema group → (count : ℕ) × AreGroups schema group count
groups_at schema group formed has = by_column (slice_get schema.columns group) refl has
  where
    by_kind : (column : Column) (kind : Kind) → slice_get schema.columns group ≡ Some column → column.kind ≡ kind → IsName column.name → IsKind kind → HasNames kind → (count : ℕ) × AreGroups schema group count
    by_kind column (Int low high) is e name kind h = absurd h
    by_kind column (Dec scale low high) is e name kind h = absurd h
    by_kind column (Cat names) is e name kind h = (length names, are_groups schema group column names is e name kind)

    by_column : (found : Option Column) → slice_get schema.columns group ≡ found → IsSomeAnd found (λ (column : Column). HasNames column.kind) → (count : ℕ) × AreGroups schema group count
    by_column None is h = absurd h
    by_column (Some column) is h =
        let about = column_of_all IsColumn schema.columns group column formed.columns.all is in
        by_kind column column.kind is refl about.name about.kind h

-- ---- the place of a line

module _ (schema : Schema) (group : ℕ) where
  -- of lines that tell their places, that of a place is found there
  found_again : (total start count place : ℕ) → ((p q : ℕ) → p < total → q < total → group_text schema group p ≡ group_text schema group q → p ≡ q) → start + count ≤ total → start ≤ place → place < start + count → group_found schema group start count (group_text schema group place) ≡ Some place
  unfolding group_found
  found_again total start zero place apart few after before = absurd (omega (arith, after, before))
  found_again total start (suc count) place apart few after before =
      elim (cases_Bool (bytes_eq (group_text schema group start) (group_text schema group place))) [
        | inl same ↦
            let is = apart start place (omega (arith, few)) (omega (arith, few, before)) ((bytes_eq-Decides (group_text schema group start) (group_text schema group place)).0 same) in
            rw same (ap Some is)
        | inr other ↦
            let further = later start place after other in
            rw other (found_again total (start + 1) count place apart (omega (arith, few)) further (omega (arith, before)))
      ]
    where
      later : (p q : ℕ) → p ≤ q → bytes_eq (group_text schema group p) (group_text schema group q) ≡ false → p + 1 ≤ q
      later p q order other = elim (cases_order p q) [
        | inl same ↦ absurd (false≢true (sym other ∙ ap (λ n. bytes_eq (group_text schema group p) (group_text schema group n)) (sym same) ∙ bytes_eq-same (group_text schema group p)))
        | inr apart ↦ elim apart [
          | inl before ↦ omega (arith, before)
          | inr after ↦ absurd (omega (arith, order, after))
        ]
      ]

  -- a place whose line this is
  abbrev IsFoundAt : ℕ → List ℕ → ℕ → Type 0
  IsFoundAt most line place = (place < most) × (line ≡ group_text schema group place)

  -- what is found is such a place
  found_at : (start count : ℕ) (line : List ℕ) (place : ℕ) → group_found schema group start count line ≡ Some place → IsFoundAt (start + count) line place
  unfolding group_found
  found_at start zero line place e = absurd (none e)
    where
      none : None ≡ Some place → ⊥
      none f = cc
  found_at start (suc count) line place e =
      by_test (bytes_eq (group_text schema group start) line) refl e (found_at (start + 1) count line place)
    where
      by_test : (test : Bool) → bytes_eq (group_text schema group start) line ≡ test → (if test then Some start else group_found schema group (start + 1) count line) ≡ Some place → (group_found schema group (start + 1) count line ≡ Some place → IsFoundAt (start + 1 + count) line place) → IsFoundAt (start + suc count) line place
      by_test true is f others =
          let same : start ≡ place = cc in
          (omega (arith, same), sym ((bytes_eq-Decides (group_text schema group start) line).0 is) ∙ ap (group_text schema group) same)
      by_test false is f others =
          let known = others f in
          (omega (arith, known.0), known.1)

  -- what is read is looked for from the first name on
  read_is : (count : ℕ) (line : List ℕ) → names_count (slice_get schema.columns group) ≡ count → read_group schema group line ≡ group_found schema group 0 count line
  unfolding read_group
  read_is count line counted = ap (λ n. group_found schema group 0 n line) counted

  -- of lines that tell their places, a line
  line_of : (count : ℕ) → AreGroups schema group count → IsLine (λ place. IsGroupName schema (Some group) (Some place)) (group_text schema group) (read_group schema group)
  line_of count are = record {
    some = 0;
    some_good = are.from 0 are.some;
    complete = λ place good. read_is count (group_text schema group place) are.counted ∙ found_again count 0 count place are.apart (omega arith) (omega arith) (let inside = are.into place good in omega (arith, inside));
    sound = λ line place e. let known = found_at 0 count line place (sym (read_is count line are.counted) ∙ e) in (are.from place (let inside = known.0 in omega (arith, inside)), known.1);
    plain = λ place good. are.plain place (are.into place good);
  }

-- The line of the name of a group is read as that name's place, and nothing else is.
pub group_line : (schema : Schema) (group : ℕ) → IsWellFormed schema → IsColumnWhere HasNames schema group → IsLine (λ place. IsGroupName schema (Some group) (Some place)) (group_text schema group) (read_group schema group)
group_line schema group formed has = let found = groups_at schema group formed has in line_of schema group found.0 found.1
