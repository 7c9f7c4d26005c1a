-- Canonical lines have few tokens.
use Rattle.std.proofs.Common.{◌≡◌, ℕ, ◌+◌, ◌*◌, ◌≤◌, ◌++◌, List, [], ◌∷◌, length, map, All, ℤ, pos, refl, inl, inr, arith, length-append}
use Rattle.std.specs.Ordering.{int_eq}
use Rattle.std.proofs.lemmas.Bool.{cases_Bool}
use Rattle.std.proofs.lemmas.List.Elements.{All-head, All-tail}
use Rattle.pc_model.specs.declared.schema.Kind.{Kind}
use Rattle.pc_model.specs.declared.schema.Kind.TheVariants.{Int, Dec, Cat}
use Rattle.pc_model.specs.declared.schema.Column.{Column}
use Rattle.pc_model.specs.declared.schema.Schema.{Schema}
use Rattle.pc_model.specs.declared.region.Side.{Side}
use Rattle.pc_model.specs.declared.region.Side.TheVariants.{Span, Names}
use Rattle.pc_model.specs.declared.region.Region.{Region}
use Rattle.pc_model.specs.declared.constraint.When.{When}
use Rattle.pc_model.specs.declared.constraint.When.TheVariants.{Boxes, Outside}
use Rattle.pc_model.specs.declared.constraint.Constraint.{Constraint}
use Rattle.pc_model.specs.Accepted.{constraint_limit}
use Rattle.pc_model.specs.Boxes.{IsServable, IsWhenOf, box_limit}
use Rattle.pc_model.specs.Places.{is_place_of}
use Rattle.pc_model.specs.Regions.{whole_side}
use Rattle.pc_model.specs.Texts.{file_limit}
use Rattle.pc_model.specs.WellFormed.{IsColumn, IsKind, IsWellFormed}
use Rattle.pc_lang_tokens.specs.declared.token.Symbol.TheVariants as symbols
use Rattle.pc_lang_tokens.specs.declared.token.Token.TheVariants as tokens
use Rattle.pc_lang_tokens.specs.Texts.{tokens_text}
use Rattle.pc_lang_grammar.specs.declared.syntax.Atom.{Atom}
use Rattle.pc_lang_grammar.specs.Grammar.{atom_tokens, claim_tokens, frequency_tokens, further_atoms, further_names, further_parts, head_tokens, joined_atoms, line_tokens, part_tokens, ways_tokens}
use Rattle.pc_lang.specs.Canonical.{atoms_for, constraint_text, constraints_text, count_text, head_for, line_for, names_claim, names_from, part_for, same_side, side_atoms, side_claim, span_claim, ways_for}

further_length : (names : List (List ℕ)) → length (further_names names) ≡ 2 * length names
further_length [] = refl
further_length (name ∷ rest) = let later = further_length rest in omega (arith, later)

names_from-fewer : (bits place : ℕ) (names : List (List ℕ)) → length (names_from bits place names) ≤ length names
unfolding names_from
names_from-fewer bits place [] = omega arith
names_from-fewer bits place (name ∷ rest) =
    let later = names_from-fewer bits (place + 1) rest in
    elim (cases_Bool (is_place_of bits (pos place))) [ inl set ↦ rw set (omega (arith, later)) | inr unset ↦ rw unset (omega (arith, later)) ]

set_length : (stated : List (List ℕ)) → length stated ≤ 128 → length (claim_tokens (names_claim stated)) ≤ 258
unfolding claim_tokens
set_length [] few = omega arith
set_length (name ∷ []) few = omega arith
set_length (first ∷ second ∷ others) few =
    let size = length-append (further_names (second ∷ others)) (tokens.Symbol symbols.CloseSet ∷ []) in
    let further = further_length (second ∷ others) in
    omega (arith, size, further)

span_length : (scale : ℕ) (from upto : ℤ) → length (claim_tokens (span_claim scale from upto)) ≤ 258
unfolding claim_tokens span_claim
span_length scale from upto = elim (cases_Bool (int_eq from upto)) [ inl one ↦ rw one (omega arith) | inr more ↦ rw more (omega arith) ]

claim_length : (kind : Kind) (side : Side) → IsKind kind → length (claim_tokens (side_claim kind side)) ≤ 258
unfolding side_claim claim_tokens
claim_length (Int low high) (Span from upto) is = span_length 0 from upto
claim_length (Dec scale low high) (Span from upto) is = span_length scale from upto
claim_length (Cat names) (Names bits) is =
    let fewer = names_from-fewer bits 0 names in
    let few = is.few in
    set_length (names_from bits 0 names) (omega (arith, fewer, few))
claim_length (Int low high) (Names bits) is = omega arith
claim_length (Dec scale low high) (Names bits) is = omega arith
claim_length (Cat names) (Span from upto) is = omega arith

-- the tokens of atoms, each with an `and`
side_length : (column : Column) (side : Side) (rest : List Atom) (room : ℕ) → IsColumn column → length (further_atoms rest) ≤ room → length (further_atoms (side_atoms column side ++ rest)) ≤ 260 + room
unfolding side_atoms atom_tokens
side_length column side rest room is fits =
    let claim = claim_tokens (side_claim column.kind side) in
    let one = claim_length column.kind side is.kind in
    let size = length-append claim (further_atoms rest) in
    elim (cases_Bool (same_side side (whole_side column.kind))) [
      | inl whole ↦ rw whole (omega (arith, fits))
      | inr part ↦ rw part (omega (arith, size, one, fits))
    ]

atoms_length : (columns : List Column) (sides : List Side) → All IsColumn columns → length (further_atoms (atoms_for columns sides)) ≤ 260 * length columns
unfolding atoms_for
atoms_length [] sides all = omega arith
atoms_length (column ∷ columns) [] all = omega arith
atoms_length (column ∷ columns) (side ∷ sides) all =
    let later = atoms_length columns sides (All-tail IsColumn column columns all) in
    let step = side_length column side (atoms_for columns sides) (260 * length columns) (All-head IsColumn column columns all) later in
    omega (arith, step)

joined_length : (atoms : List Atom) → length (joined_atoms atoms) ≤ length (further_atoms atoms) + 1
joined_length [] = omega arith
joined_length (atom ∷ rest) = omega arith

part_length : (schema : Schema) (region : Region) → IsWellFormed schema → length (part_tokens (part_for schema region)) ≤ 3121
unfolding part_tokens
part_length schema region is =
    let few = is.columns.few in
    let atoms = atoms_length schema.columns region.sides is.columns.all in
    let joined = joined_length (atoms_for schema.columns region.sides) in
    omega (arith, few, atoms, joined)

further_parts_length : (schema : Schema) (boxes : List Region) → IsWellFormed schema → length (further_parts (map (part_for schema) boxes)) ≤ 3122 * length boxes
further_parts_length schema [] is = omega arith
further_parts_length schema (box ∷ rest) is =
    let one = part_length schema box is in
    let later = further_parts_length schema rest is in
    let size = length-append (part_tokens (part_for schema box)) (further_parts (map (part_for schema) rest)) in
    omega (arith, one, later, size)

ways_length : (schema : Schema) (boxes : List Region) → IsWellFormed schema → 1 ≤ length boxes → length boxes ≤ box_limit → length (ways_tokens (ways_for schema boxes)) ≤ 12487
unfolding ways_tokens ways_for
ways_length schema [] is some few = absurd (omega arith)
ways_length schema (first ∷ others) is some few =
    let one = part_length schema first is in
    let later = further_parts_length schema others is in
    let size = length-append (part_tokens (part_for schema first)) (further_parts (map (part_for schema) others)) in
    omega (arith, few, one, later, size)

head_length : (schema : Schema) (name : List ℕ) (when : When) → IsWellFormed schema → IsWhenOf schema when → length (head_tokens (head_for schema name when)) ≤ 12489
unfolding head_tokens head_for
head_length schema name (Boxes area) is of = let ways = ways_length schema area.boxes is of.some of.few in omega (arith, ways)
head_length schema name Outside is of = omega arith

pub line_length : (schema : Schema) (c : Constraint) → IsWellFormed schema → IsServable schema c → length (line_tokens (line_for schema c)) ≤ 16000
unfolding line_tokens line_for
line_length schema c is servable =
    let head = head_tokens (head_for schema c.name c.when) in
    let values = part_tokens (part_for schema c.values) in
    let counts = frequency_tokens (count_text c.least) (count_text c.most) in
    let inner = length-append head (tokens.Symbol symbols.Arrow ∷ values) in
    let outer = length-append (head ++ tokens.Symbol symbols.Arrow ∷ values) counts in
    let first = head_length schema c.name c.when is servable.when_area in
    let second = part_length schema c.values is in
    omega (arith, inner, outer, first, second)

-- a line of which each token takes few bytes
pub line_text_length : (schema : Schema) (c : Constraint) → IsWellFormed schema → IsServable schema c → length (tokens_text (line_tokens (line_for schema c))) ≤ 131 * length (line_tokens (line_for schema c)) → length (constraint_text schema c) ≤ 3000000
unfolding constraint_text
line_text_length schema c is servable short =
    let few = line_length schema c is servable in
    let end = length-append (tokens_text (line_tokens (line_for schema c))) (10 ∷ []) in
    omega (arith, short, few, end)

texts_length : (schema : Schema) (constraints : List Constraint) → All (λ (c : Constraint). length (constraint_text schema c) ≤ 3000000) constraints → length (constraints_text schema constraints) ≤ 3000000 * length constraints
unfolding constraints_text
texts_length schema [] short = omega arith
texts_length schema (c ∷ rest) short =
    let first = All-head (λ (d : Constraint). length (constraint_text schema d) ≤ 3000000) c rest short in
    let later = texts_length schema rest (All-tail (λ (d : Constraint). length (constraint_text schema d) ≤ 3000000) c rest short) in
    let size = length-append (constraint_text schema c) (constraints_text schema rest) in
    omega (arith, first, later, size)

-- the canonical text of constraints fits a file
pub constraints_fit : (schema : Schema) (constraints : List Constraint) → length constraints ≤ constraint_limit → All (λ (c : Constraint). length (constraint_text schema c) ≤ 3000000) constraints → length (constraints_text schema constraints) ≤ file_limit
constraints_fit schema constraints few short = let all = texts_length schema constraints short in omega (arith, few, all)
