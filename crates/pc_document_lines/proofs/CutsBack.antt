-- The line of a node of a tree of cuts is read as that node.
use Rattle.std.proofs.Common.{◌≡◌, ◌≢◌, ◌<◌, ◌/◌, ◌^◌, ℕ, ◌+◌, Bool, true, false, List, [], ◌∷◌, length, All, AllPairs, Option, Some, None, arith, refl, sym, ap, ◌∙◌, inl, inr, if◌then◌else◌}
use Rattle.std.specs.Prelude.{pos, codes, nat_abs, nat_lt, IsSomeAnd, slice_get}
use Rattle.std.specs.List.{list_all}
use Rattle.std.proofs.lemmas.Bool.{and_from, and_parts, cases_Bool, false≢true, le-leb, leb-true, lt-ltb, ltb-true}
use Rattle.std.proofs.lemmas.List.Elements.{All-head, All-tail}
use Rattle.pc_num.specs.Scaled.{greatest_size}
use Rattle.pc_model.specs.declared.schema.Kind.{Kind}
use Rattle.pc_model.specs.declared.schema.Kind.TheVariants.{Int, Dec, Cat}
use Rattle.pc_model.specs.declared.schema.Column.{Column}
use Rattle.pc_model.specs.declared.schema.Schema.{Schema}
use Rattle.pc_model.specs.declared.tree.Cut.{Cut}
use Rattle.pc_model.specs.declared.tree.Cut.TheVariants.{At, Among}
use Rattle.pc_model.specs.declared.tree.LeafMark.{LeafMark}
use Rattle.pc_model.specs.declared.tree.LeafMark.TheVariants.{Barren, Class}
use Rattle.pc_model.specs.declared.tree.CutNode.{CutNode}
use Rattle.pc_model.specs.declared.tree.CutNode.TheVariants as cut_nodes
use Rattle.pc_model.specs.CutTrees.{column_of}
use Rattle.pc_model.specs.Places.{is_place_of}
use Rattle.pc_model.specs.Texts.{IsName, is_name}
use Rattle.pc_model.specs.WellFormed.{IsKind, IsWellFormed}
use Rattle.pc_model.proofs.Names.{is_name_of}
use Rattle.pc_lang_tokens.specs.declared.token.Token.{Token}
use Rattle.pc_lang_tokens.specs.declared.token.Token.TheVariants as tokens
use Rattle.pc_lang_tokens.specs.Spelling.{is_bare, is_reserved, is_word, reserved}
use Rattle.pc_lang_tokens.proofs.ScaledTexts.{numbers_are_spelled}
use Rattle.pc_lang.specs.Canonical.{name_at, names_from}
use Rattle.pc_lang.specs.Claims.{bits_of}
use Rattle.pc_lang.proofs.NamedSets.{bits_again}
use Rattle.pc_document_format.specs.Formats.{IsLine, IsSpelled}
use Rattle.pc_document_format.specs.Lines.{feeds_in}
use Rattle.pc_document_format.proofs.Spelled.{spelled_line}
use Rattle.pc_proof.specs.Form.{IsFormedCut, IsFormedCutNode, IsFormedCutOf, IsFormedMarkOf}
use Rattle.pc_document_lines.specs.TokenLines.{IsBareCut, Tokens, bare_cut, column_in, cut_at, cut_node_of_tokens, cut_node_text, cut_node_tokens, divided_tokens, is_cut_node, is_cut_of, kind_at, kind_of, likely_cut_node, mark_tokens, more_names, names_in, names_of, read_cut_node, scale_at, set_tokens, side_token}
use Rattle.pc_document_lines.proofs.NumbersBack.{numbers_again}
use Rattle.pc_document_lines.proofs.TokensOf.{AreSpelled, IsColumnAt, bare_name, column_at, count_again, spelled_more, tokens_again, tokens_plain}

-- ---- the column of a cut

-- the column that a cut is of, and what is asked of the cut there
record IsCutAt (schema : Schema) (cut : Cut) (column : Column) : Type 0 where
  place : IsColumnAt schema (column_of cut) column
  formed : IsFormedCutOf cut column.kind

-- each cut in form is of such a column
cut_column : (schema : Schema) (cut : Cut) → IsWellFormed schema → IsFormedCut schema cut → (column : Column) × IsCutAt schema cut column
cut_column schema cut formed is = by_column (slice_get schema.columns (column_of cut)) refl is
  where
    by_column : (found : Option Column) → slice_get schema.columns (column_of cut) ≡ found → IsSomeAnd found (λ (column : Column). IsFormedCutOf cut column.kind) → (column : Column) × IsCutAt schema cut column
    by_column None e has = absurd has
    by_column (Some column) e has = (column, record { place = column_at schema (column_of cut) column formed e; formed = has })

-- ---- the tokens are spelled

-- the words of nodes are written as they stand
cut_is_bare : is_bare (codes "cut") ≡ true
unfolding is_bare is_word is_reserved reserved
cut_is_bare = refl

-- the word of a leaf
leaf_is_bare : is_bare (codes "leaf") ≡ true
unfolding is_bare is_word is_reserved reserved
leaf_is_bare = refl

-- the word of a leaf where none can be lost
barren_is_bare : is_bare (codes "barren") ≡ true
unfolding is_bare is_word is_reserved reserved
barren_is_bare = refl

-- the word of a leaf that is not chosen
out_is_bare : is_bare (codes "out") ≡ true
unfolding is_bare is_word is_reserved reserved
out_is_bare = refl

-- names after a comma each are spelled
more_spelled : (names : List (List ℕ)) → list_all is_name names ≡ true → AreSpelled (more_names names)
unfolding more_names
more_spelled [] are = refl
more_spelled (name ∷ rest) are =
    let parts = and_parts (is_name name) (list_all is_name rest) are in
    spelled_more (more_names rest) name parts.0 (more_spelled rest parts.1)

-- a set of names is spelled
set_spelled : (names : List (List ℕ)) → list_all is_name names ≡ true → AreSpelled (set_tokens names)
unfolding set_tokens
set_spelled [] are = refl
set_spelled (name ∷ rest) are =
    let parts = and_parts (is_name name) (list_all is_name rest) are in
    spelled_more (more_names rest) name parts.0 (more_spelled rest parts.1)

-- the names of a set are names
chosen_are_names : (bits place : ℕ) (names : List (List ℕ)) → All IsName names → list_all is_name (names_from bits place names) ≡ true
unfolding names_from
chosen_are_names bits place [] all = refl
chosen_are_names bits place (name ∷ rest) all =
    let later = chosen_are_names bits (place + 1) rest (All-tail IsName name rest all) in
    elim (cases_Bool (is_place_of bits (pos place))) [
      | inl set ↦ rw set (and_from (is_name name) (list_all is_name (names_from bits (place + 1) rest)) (is_name_of name (All-head IsName name rest all)) later)
      | inr unset ↦ rw unset later
    ]

-- the set of a cut in form is spelled
column_names_spelled : (column bits : ℕ) (kind : Kind) → IsKind kind → IsFormedCutOf (Among column bits) kind → AreSpelled (set_tokens (names_from bits 0 (names_in (Some kind))))
column_names_spelled column bits (Int low high) is formed = absurd formed
column_names_spelled column bits (Dec scale low high) is formed = absurd formed
column_names_spelled column bits (Cat names) is formed = set_spelled (names_from bits 0 names) (chosen_are_names bits 0 names is.own.all)

-- what a cut in form divides by is spelled
divided_spelled : (schema : Schema) (cut : Cut) (column : Column) → IsCutAt schema cut column → AreSpelled (divided_tokens schema cut)
divided_spelled schema (At column at) found is = and_from _ true (numbers_are_spelled at (scale_at (kind_at schema column))) refl
divided_spelled schema (Among column bits) found is = rw is.place.is (column_names_spelled column bits found.kind is.place.kind is.formed)

-- each mark is spelled
mark_spelled : (mark : LeafMark) → AreSpelled (mark_tokens mark)
mark_spelled Barren = spelled_more [] (codes "barren") (bare_name (codes "barren") barren_is_bare) refl
mark_spelled (Class mask chosen) = and_from _ _ (numbers_are_spelled (pos mask) 0) (by_side chosen)
  where
    by_side : (side : Bool) → AreSpelled (side_token side ∷ [])
    by_side true = refl
    by_side false = spelled_more [] (codes "out") (bare_name (codes "out") out_is_bare) refl

-- a node in form is spelled
node_spelled : (schema : Schema) (node : CutNode) → IsWellFormed schema → IsFormedCutNode schema node → AreSpelled (cut_node_tokens schema node)
node_spelled schema (cut_nodes.Leaf mark) formed is = spelled_more (mark_tokens mark) (codes "leaf") (bare_name (codes "leaf") leaf_is_bare) (mark_spelled mark)
node_spelled schema (cut_nodes.Inner cut first second) formed is =
    let at = cut_column schema cut formed is in
    let rest = spelled_more (divided_tokens schema cut) (name_at schema.columns (column_of cut)) at.1.place.named (divided_spelled schema cut at.0 at.1) in
    spelled_more (tokens.Name (name_at schema.columns (column_of cut)) ∷ divided_tokens schema cut) (codes "cut") (bare_name (codes "cut") cut_is_bare) rest

-- ---- back from the tokens

-- the names of names after a comma each
more_named : (names : List (List ℕ)) → names_of (more_names names) ≡ names
unfolding names_of more_names
more_named [] = refl
more_named (name ∷ rest) = ap (λ names. name ∷ names) (more_named rest)

-- the cut of the tokens of a set
set_again : (schema : Schema) (column : ℕ) (a b : Token) (names : List (List ℕ)) → cut_at schema column (a ∷ b ∷ set_tokens names) ≡ Among column (bits_of names (names_in (kind_at schema column)))
unfolding set_tokens names_of
set_again schema column a b [] = refl
set_again schema column a b (name ∷ rest) = ap (λ names. Among column (bits_of (name ∷ names) (names_in (kind_at schema column)))) (more_named rest)

-- the names of bits have those bits
whole_bits : (names : List (List ℕ)) (bits : ℕ) → AllPairs (λ (a b : List ℕ). a ≢ b) names → bits < 2 ^ length names → bits_of (names_from bits 0 names) names ≡ bits
whole_bits names bits different small =
    let size : length names ≡ length names + 0 = omega arith in
    let e : bits_of (names_from bits 0 names) names ≡ bits / 1 = bits_again bits 0 names different (rw size at small) in
    omega (arith, e)

-- so have those of a cut in form
kind_bits : (column bits : ℕ) (kind : Kind) → IsKind kind → IsFormedCutOf (Among column bits) kind → bits_of (names_from bits 0 (names_in (Some kind))) (names_in (Some kind)) ≡ bits
kind_bits column bits (Int low high) is formed = absurd formed
kind_bits column bits (Dec scale low high) is formed = absurd formed
kind_bits column bits (Cat names) is formed = whole_bits names bits is.own.different formed.1

-- the cut of the tokens of a cut is that cut
cut_again : (schema : Schema) (cut : Cut) (column : Column) (a b : Token) → IsCutAt schema cut column → cut_at schema (column_of cut) (a ∷ b ∷ divided_tokens schema cut) ≡ cut
cut_again schema (At column at) found a b is = ap (At column) (numbers_again at (scale_at (kind_at schema column)) (small found.kind is.formed))
  where
    small : (kind : Kind) → IsFormedCutOf (At column at) kind → nat_abs at < 10 ^ 64
    small kind formed = let size = formed.1 in omega (arith, size)
cut_again schema (Among column bits) found a b is =
    set_again schema column a b (names_from bits 0 (names_in (kind_at schema column)))
    ∙ ap (Among column) (rw is.place.is (kind_bits column bits found.kind is.place.kind is.formed))

-- the leaf of the tokens of a leaf is that leaf
mark_again : (schema : Schema) (mark : LeafMark) → IsFormedMarkOf mark → cut_node_of_tokens schema (tokens.Name (codes "leaf") ∷ mark_tokens mark) ≡ Some (cut_nodes.Leaf mark)
unfolding cut_node_of_tokens
mark_again schema Barren is = refl
mark_again schema (Class mask true) is = rw (count_again mask (omega (arith, is))) refl
mark_again schema (Class mask false) is = rw (count_again mask (omega (arith, is))) refl

-- what is read after the word of a cut
inner_opens : (schema : Schema) (name : List ℕ) (list : Tokens) →
    cut_node_of_tokens schema (tokens.Name (codes "cut") ∷ tokens.Name name ∷ list) ≡ Some (cut_nodes.Inner (cut_at schema (column_in schema.columns name) (tokens.Name (codes "cut") ∷ tokens.Name name ∷ list)) 0 0)
unfolding cut_node_of_tokens
inner_opens schema name list = refl

-- the node of the tokens of a node is that node, without places
node_again : (schema : Schema) (node : CutNode) → IsWellFormed schema → IsFormedCutNode schema node → cut_node_of_tokens schema (cut_node_tokens schema node) ≡ Some (bare_cut node)
node_again schema (cut_nodes.Leaf mark) formed is = mark_again schema mark is
node_again schema (cut_nodes.Inner cut first second) formed is =
    let at = cut_column schema cut formed is in
    let name = name_at schema.columns (column_of cut) in
    inner_opens schema name (divided_tokens schema cut)
    ∙ rw at.1.place.again (ap (λ (again : Cut). Some (cut_nodes.Inner again 0 0)) (cut_again schema cut at.0 (tokens.Name (codes "cut")) (tokens.Name name) at.1))

-- the likely node of a node's line is that node, without places
node_back : (schema : Schema) (node : CutNode) → IsWellFormed schema → IsFormedCutNode schema node → likely_cut_node schema (cut_node_text schema node) ≡ Some (bare_cut node)
unfolding likely_cut_node cut_node_text
node_back schema node formed is = ap (cut_node_of_tokens schema) (tokens_again (cut_node_tokens schema node) (node_spelled schema node formed is)) ∙ node_again schema node formed is

-- no line feed is in a node's line
node_plain : (schema : Schema) (node : CutNode) → IsWellFormed schema → IsFormedCutNode schema node → feeds_in (cut_node_text schema node) ≡ 0
unfolding cut_node_text
node_plain schema node formed is = tokens_plain (cut_node_tokens schema node) (node_spelled schema node formed is)

-- ---- sizes

-- a cut in form of a column passes the test
kind_tested : (cut : Cut) (kind : Kind) → IsFormedCutOf cut kind → is_cut_of cut (Some kind) ≡ true
kind_tested (At column at) (Int low high) formed = le-leb (nat_abs at) greatest_size formed.1
kind_tested (At column at) (Dec scale low high) formed = le-leb (nat_abs at) greatest_size formed.1
kind_tested (At column at) (Cat names) formed = absurd formed.0
kind_tested (Among column bits) (Int low high) formed = absurd formed
kind_tested (Among column bits) (Dec scale low high) formed = absurd formed
kind_tested (Among column bits) (Cat names) formed = and_from (nat_lt 0 bits) (nat_lt bits (2 ^ length names)) (lt-ltb 0 bits formed.0) (lt-ltb bits (2 ^ length names) formed.1)

-- a cut that passes the test is in form
tested_kind : (cut : Cut) (kind : Kind) → is_cut_of cut (Some kind) ≡ true → IsFormedCutOf cut kind
tested_kind (At column at) (Int low high) e = (tt, leb-true (nat_abs at) greatest_size e)
tested_kind (At column at) (Dec scale low high) e = (tt, leb-true (nat_abs at) greatest_size e)
tested_kind (At column at) (Cat names) e = absurd (false≢true e)
tested_kind (Among column bits) (Int low high) e = absurd (false≢true e)
tested_kind (Among column bits) (Dec scale low high) e = absurd (false≢true e)
tested_kind (Among column bits) (Cat names) e =
    let parts = and_parts (nat_lt 0 bits) (nat_lt bits (2 ^ length names)) e in
    (ltb-true 0 bits parts.0, ltb-true bits (2 ^ length names) parts.1)

-- the same where the column is looked for
cut_tested : (cut : Cut) (found : Option Column) → IsSomeAnd found (λ (column : Column). IsFormedCutOf cut column.kind) → is_cut_of cut (kind_of found) ≡ true
cut_tested cut None is = absurd is
cut_tested cut (Some column) is = kind_tested cut column.kind is

-- and the other way round
tested_cut : (cut : Cut) (found : Option Column) → is_cut_of cut (kind_of found) ≡ true → IsSomeAnd found (λ (column : Column). IsFormedCutOf cut column.kind)
tested_cut cut None e = absurd (false≢true e)
tested_cut cut (Some column) e = tested_kind cut column.kind e

-- a node in form passes the test
node_tested : (schema : Schema) (node : CutNode) → IsFormedCutNode schema node → is_cut_node schema node ≡ true
unfolding is_cut_node
node_tested schema (cut_nodes.Leaf Barren) is = refl
node_tested schema (cut_nodes.Leaf (Class mask chosen)) is = lt-ltb mask (2 ^ 32) is
node_tested schema (cut_nodes.Inner cut first second) is = cut_tested cut (slice_get schema.columns (column_of cut)) is

-- a node that passes the test is in form
tested_node : (schema : Schema) (node : CutNode) → is_cut_node schema node ≡ true → IsFormedCutNode schema node
unfolding is_cut_node
tested_node schema (cut_nodes.Leaf Barren) e = tt
tested_node schema (cut_nodes.Leaf (Class mask chosen)) e = ltb-true mask (2 ^ 32) e
tested_node schema (cut_nodes.Inner cut first second) e = tested_cut cut (slice_get schema.columns (column_of cut)) e

-- ---- what is read has no places

-- one of two nodes that have no places has none
one_of_both : (test : Bool) (a b node : CutNode) → bare_cut a ≡ a → bare_cut b ≡ b → (if test then Some a else Some b) ≡ Some node → bare_cut node ≡ node
one_of_both true a b node first second e = let same : a ≡ node = cc in ap bare_cut (sym same) ∙ first ∙ same
one_of_both false a b node first second e = let same : b ≡ node = cc in ap bare_cut (sym same) ∙ second ∙ same

-- what is read of tokens has no places
read_bare : (schema : Schema) (list : Tokens) (node : CutNode) → cut_node_of_tokens schema list ≡ Some node → bare_cut node ≡ node
unfolding cut_node_of_tokens
read_bare schema list node e = one_of_both _ _ _ node refl refl e

-- so has what is likely of a line
likely_bare : (schema : Schema) (line : List ℕ) (node : CutNode) → likely_cut_node schema line ≡ Some node → bare_cut node ≡ node
unfolding likely_cut_node
likely_bare schema line node e = read_bare schema _ node e

-- what is asked of a line that is written again and compared
spelled : (schema : Schema) → IsWellFormed schema → IsSpelled (IsBareCut schema) (cut_node_text schema) (is_cut_node schema) (likely_cut_node schema)
spelled schema formed = record {
  some = cut_nodes.Leaf Barren;
  some_good = record { placeless = refl; good = tt };
  tested = λ node is. node_tested schema node is.good;
  holds = λ line node e tested. record { placeless = likely_bare schema line node e; good = tested_node schema node tested };
  plain = λ node is. node_plain schema node formed is.good;
  back = λ node is. node_back schema node formed is.good ∙ ap Some is.placeless;
}

-- The line of a node of a tree of cuts is read as that node, and nothing else is.
pub cut_line : (schema : Schema) → IsWellFormed schema → IsLine (IsBareCut schema) (cut_node_text schema) (read_cut_node schema)
unfolding read_cut_node
cut_line schema formed = spelled_line (cut_node_text schema) (is_cut_node schema) (likely_cut_node schema) (spelled schema formed)
