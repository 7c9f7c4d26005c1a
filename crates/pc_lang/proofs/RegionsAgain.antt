-- What is written of a region stands for that region.
use Rattle.std.proofs.Common.{◌≡◌, ◌≢◌, ℕ, ◌++◌, Bool, true, false, List, [], ◌∷◌, map, All, AllPairs, refl, ap, ◌∙◌, inl, inr, Ok, Err, sym, ap₂}
use Rattle.std.specs.Prelude.{Result, bytes_eq, ⊤}
use Rattle.std.specs.Cmp.Lexicographic.{pointwise}
use Rattle.std.specs.Ordering.{int_eq}
use Rattle.std.proofs.lemmas.Bool.{and_parts, cases_Bool, eqb-true, false≢true}
use Rattle.std.proofs.lemmas.Bool.Decides.{Decides-int_eq}
use Rattle.std.proofs.lemmas.List.Elements.{All-head, All-tail}
use Rattle.pc_model.specs.declared.fault.Reason.{Reason}
use Rattle.pc_model.specs.declared.schema.Column.{Column}
use Rattle.pc_model.specs.declared.schema.Schema.{Schema}
use Rattle.pc_model.specs.declared.region.Side.{Side}
use Rattle.pc_model.specs.declared.region.Side.TheVariants.{Span, Names}
use Rattle.pc_model.specs.declared.region.Region.{Region}
use Rattle.pc_model.specs.Refusals.{◌>>=◌}
use Rattle.pc_model.specs.Regions.{is_region_of, is_side_of, whole_side}
use Rattle.pc_model.specs.WellFormed.{IsColumn, IsWellFormed}
use Rattle.pc_lang_grammar.specs.declared.syntax.Atom.{Atom}
use Rattle.pc_lang.specs.Canonical.{atoms_for, part_for, same_side, side_atoms, side_claim}
use Rattle.pc_lang.specs.Parts.{narrowed, narrowed_by, region_of}
use Rattle.pc_model.proofs.Lists.{AllPairs-head, AllPairs-tail, bytes_eq-other, bytes_eq-same}
use Rattle.pc_lang.proofs.SidesAgain.{narrowed_again}

abbrev pub whole_of : Column → Side
whole_of column = whole_side column.kind

abbrev is_side_in : Column → Side → Bool
is_side_in column side = is_side_of column.kind side

abbrev HaveOwnNames : Column → Column → Type 0
HaveOwnNames a b = a.name ≢ b.name

-- the same side
pub side_of_test : (side other : Side) → same_side side other ≡ true → side ≡ other
side_of_test (Span low high) (Span other_low other_high) e =
    let parts = and_parts (int_eq low other_low) (int_eq high other_high) e in
    ap₂ (λ a b. Span a b) ((Decides-int_eq low other_low).0 parts.0) ((Decides-int_eq high other_high).0 parts.1)
side_of_test (Names bits) (Names other_bits) e = ap (λ (n : ℕ). Names n) (eqb-true bits other_bits e)
side_of_test (Span low high) (Names bits) e = absurd (false≢true e)
side_of_test (Names bits) (Span low high) e = absurd (false≢true e)

-- no atom names this column
abbrev NameOthers : List ℕ → List Atom → Type 0
NameOthers name [] = ⊤
NameOthers name (atom ∷ rest) = (bytes_eq name atom.column ≡ false) × NameOthers name rest

NameOthers-append : (name : List ℕ) (atoms others : List Atom) → NameOthers name atoms → NameOthers name others → NameOthers name (atoms ++ others)
NameOthers-append name [] others here there = there
NameOthers-append name (atom ∷ rest) others here there = (here.0, NameOthers-append name rest others here.1 there)

NameOthers-side : (name : List ℕ) (column : Column) (side : Side) → name ≢ column.name → NameOthers name (side_atoms column side)
unfolding side_atoms
NameOthers-side name column side other =
    elim (cases_Bool (same_side side (whole_of column))) [
      | inl whole ↦ rw whole tt
      | inr part ↦ rw part (bytes_eq-other name column.name other, tt)
    ]

NameOthers-columns : (column : Column) (columns : List Column) (sides : List Side) → All (HaveOwnNames column) columns → NameOthers column.name (atoms_for columns sides)
unfolding atoms_for
NameOthers-columns column [] sides own = tt
NameOthers-columns column (next ∷ rest) [] own = tt
NameOthers-columns column (next ∷ rest) (side ∷ sides) own =
    NameOthers-append column.name (side_atoms next side) (atoms_for rest sides)
    (NameOthers-side column.name next side (All-head (HaveOwnNames column) next rest own))
    (NameOthers-columns column rest sides (All-tail (HaveOwnNames column) next rest own))

abbrev after_side : Side → List Side → Result (List Side) Reason
after_side side others = Ok (side ∷ others)

other_atom : (column : Column) (columns : List Column) (atom : Atom) (side : Side) (sides : List Side) → bytes_eq column.name atom.column ≡ false → narrowed (column ∷ columns) atom (side ∷ sides) ≡ (narrowed columns atom sides >>= after_side side)
unfolding narrowed
other_atom column columns atom side sides other = rw other refl

past_atom : (column : Column) (columns : List Column) (atom : Atom) (rest : List Atom) (side : Side) (sides : List Side) → bytes_eq column.name atom.column ≡ false → (less : Result (List Side) Reason) → narrowed columns atom sides ≡ less
    → ((left : List Side) → narrowed_by (column ∷ columns) rest (side ∷ left) ≡ (narrowed_by columns rest left >>= after_side side))
    → narrowed_by (column ∷ columns) (atom ∷ rest) (side ∷ sides) ≡ (narrowed_by columns (atom ∷ rest) sides >>= after_side side)
unfolding narrowed_by
past_atom column columns atom rest side sides other (Ok left) e later = rw (other_atom column columns atom side sides other, e) (later left)
past_atom column columns atom rest side sides other (Err reason) e later = rw (other_atom column columns atom side sides other, e) refl

-- atoms of other columns leave the first side
past_first : (column : Column) (columns : List Column) (atoms : List Atom) (side : Side) (sides : List Side) → NameOthers column.name atoms → narrowed_by (column ∷ columns) atoms (side ∷ sides) ≡ (narrowed_by columns atoms sides >>= after_side side)
unfolding narrowed_by
past_first column columns [] side sides others = refl
past_first column columns (atom ∷ rest) side sides others =
    past_atom column columns atom rest side sides others.0 (narrowed columns atom sides) refl (λ left. past_first column columns rest side left others.1)

-- the atom of a side that is not whole
own_atom : (column : Column) (columns : List Column) (side : Side) (sides : List Side) (rest : List Atom) → IsColumn column → is_side_of column.kind side ≡ true → narrowed_by (column ∷ columns) (record { column = column.name; claim = side_claim column.kind side } ∷ rest) (whole_of column ∷ sides) ≡ narrowed_by (column ∷ columns) rest (side ∷ sides)
unfolding narrowed_by narrowed
own_atom column columns side sides rest is e = rw (bytes_eq-same column.name, narrowed_again column.kind side is.kind e) refl

own_atoms : (column : Column) (columns : List Column) (side : Side) (sides : List Side) (rest : List Atom) → IsColumn column → is_side_of column.kind side ≡ true → narrowed_by (column ∷ columns) (side_atoms column side ++ rest) (whole_of column ∷ sides) ≡ narrowed_by (column ∷ columns) rest (side ∷ sides)
unfolding side_atoms
own_atoms column columns side sides rest is e =
    elim (cases_Bool (same_side side (whole_of column))) [
      | inl whole ↦ rw whole (ap (λ (first : Side). narrowed_by (column ∷ columns) rest (first ∷ sides)) (sym (side_of_test side (whole_of column) whole)))
      | inr part ↦ rw part (own_atom column columns side sides rest is e)
    ]

sides_again : (columns : List Column) (sides : List Side) → All IsColumn columns → AllPairs HaveOwnNames columns → pointwise is_side_in columns sides ≡ true → narrowed_by columns (atoms_for columns sides) (map whole_of columns) ≡ Ok sides
unfolding atoms_for
sides_again [] [] all own e = unfold narrowed_by in refl
sides_again [] (side ∷ sides) all own e = absurd (false≢true e)
sides_again (column ∷ columns) [] all own e = absurd (false≢true e)
sides_again (column ∷ columns) (side ∷ sides) all own e =
    let parts = and_parts (is_side_in column side) (pointwise is_side_in columns sides) e in
    let others = atoms_for columns sides in
    let later = sides_again columns sides (All-tail IsColumn column columns all) (AllPairs-tail HaveOwnNames column columns own) parts.1 in
    let own_names = NameOthers-columns column columns sides (AllPairs-head HaveOwnNames column columns own) in
    own_atoms column columns side (map whole_of columns) others (All-head IsColumn column columns all) parts.0
    ∙ past_first column columns others side (map whole_of columns) own_names
    ∙ ap (λ (found : Result (List Side) Reason). found >>= after_side side) later

pub region_again : (schema : Schema) (region : Region) → IsWellFormed schema → is_region_of schema region ≡ true → region_of schema (part_for schema region) ≡ Ok region
unfolding region_of is_region_of
region_again schema r is e = rw (sides_again schema.columns r.sides is.columns.all is.columns.own_names e) refl
