-- The sides that atoms narrow, as far as a loop has come.
use Rattle.std.proofs.Common.{◌≡◌, ℕ, ◌+◌, ◌<◌, ◌≤◌, Bool, true, false, List, [], ◌∷◌, ◌++◌, length, take, drop, get_or, set, bytes_eq, suc, if◌then◌else◌, add-one, subst, Result, Ok, Err, pos, refl, ap, ◌∙◌, arith, append_assoc}
use Rattle.std.proofs.lemmas.List.{drop_all, drop_more, take_more, set_split}
use Rattle.pc_model.specs.declared.fault.Reason.{Reason}
use Rattle.pc_model.specs.declared.fault.Reason.TheVariants as reasons
use Rattle.pc_model.specs.declared.schema.Column.{Column}
use Rattle.pc_model.specs.declared.schema.Schema.{Schema}
use Rattle.pc_model.specs.declared.region.Side.{Side}
use Rattle.pc_model.specs.declared.region.Side.TheVariants.{Span}
use Rattle.pc_model.specs.Refusals.{◌>>=◌}
use Rattle.pc_model.specs.Regions.{whole_region}
use Rattle.pc_lang_grammar.specs.declared.syntax.Atom.{Atom}
use Rattle.pc_lang_grammar.specs.declared.syntax.Part.{Part}
use Rattle.pc_lang.specs.Parts.{narrowed, narrowed_side, narrowed_by, region_of}
use Rattle.pc_lang.proofs.Bound.{bound}

-- sides with others before them
abbrev pub after : List Side → Result (List Side) Reason → Result (List Side) Reason
after front sides = sides >>= λ others. Ok (front ++ others)

after_one : (front : List Side) (side : Side) (sides : Result (List Side) Reason) → after front (sides >>= λ others. Ok (side ∷ others)) ≡ after (front ++ side ∷ []) sides
after_one front side (Ok others) = rw append_assoc refl
after_one front side (Err reason) = refl

after_set : (sides : List Side) (place : ℕ) → place < length sides → (less : Result Side Reason) → after (take place sides) (less >>= λ one. Ok (one ∷ drop (place + 1) sides)) ≡ (less >>= λ one. Ok (set sides place one))
after_set sides place inside (Ok one) = rw (add-one, set_split sides place one inside) refl
after_set sides place inside (Err reason) = refl

narrowed_other : (column : Column) (columns : List Column) (atom : Atom) (side : Side) (sides : List Side) → bytes_eq column.name atom.column ≡ false → narrowed (column ∷ columns) atom (side ∷ sides) ≡ (narrowed columns atom sides >>= λ others. Ok (side ∷ others))
unfolding narrowed
narrowed_other column columns atom side sides other = rw other refl

narrowed_here : (column : Column) (columns : List Column) (atom : Atom) (side : Side) (sides : List Side) → bytes_eq column.name atom.column ≡ true → narrowed (column ∷ columns) atom (side ∷ sides) ≡ (narrowed_side column.kind atom.claim side >>= λ less. Ok (less ∷ sides))
unfolding narrowed
narrowed_here column columns atom side sides same = rw same refl

-- a list that has no such place
abbrev nothing : Side
nothing = Span (pos 0) (pos 0)

-- a column of another name
pub column_passed : (columns : List Column) (atom : Atom) (sides : List Side) (place : ℕ) (column : Column) → length columns ≡ length sides → place < length columns → column ≡ get_or columns place column → bytes_eq column.name atom.column ≡ false → after (take place sides) (narrowed (drop place columns) atom (drop place sides)) ≡ after (take (place + 1) sides) (narrowed (drop (place + 1) columns) atom (drop (place + 1) sides))
column_passed columns atom sides place column even inside is other =
    let within : place < length sides = omega arith in
    let side = get_or sides place nothing in
    rw (drop_more columns place column inside, drop_more sides place nothing within, ← is, take_more sides place nothing within, narrowed_other column (drop (place + 1) columns) atom side (drop (place + 1) sides) other)
    (after_one (take place sides) side (narrowed (drop (place + 1) columns) atom (drop (place + 1) sides)))

-- the side of the column that the atom names
pub column_found : (columns : List Column) (atom : Atom) (sides : List Side) (place : ℕ) (column : Column) (side : Side) → length columns ≡ length sides → place < length columns → column ≡ get_or columns place column → side ≡ get_or sides place side → bytes_eq column.name atom.column ≡ true → after (take place sides) (narrowed (drop place columns) atom (drop place sides)) ≡ (narrowed_side column.kind atom.claim side >>= λ less. Ok (set sides place less))
column_found columns atom sides place column side even inside is here same =
    let within : place < length sides = omega arith in
    rw (drop_more columns place column inside, drop_more sides place side within, ← is, ← here, narrowed_here column (drop (place + 1) columns) atom side (drop (place + 1) sides) same)
    (after_set sides place within (narrowed_side column.kind atom.claim side))

-- what the atom leaves of that side decides
pub found_narrows : (columns : List Column) (atom : Atom) (sides : List Side) (place : ℕ) (column : Column) (side less : Side) → length columns ≡ length sides → place < length columns → column ≡ get_or columns place column → side ≡ get_or sides place side → bytes_eq column.name atom.column ≡ true → narrowed columns atom sides ≡ after (take place sides) (narrowed (drop place columns) atom (drop place sides)) → narrowed_side column.kind atom.claim side ≡ Ok less → narrowed columns atom sides ≡ Ok (set sides place less)
found_narrows columns atom sides place column side less even inside is here same left e =
    left ∙ column_found columns atom sides place column side even inside is here same ∙ rw e refl

pub found_fails : (columns : List Column) (atom : Atom) (sides : List Side) (place : ℕ) (column : Column) (side : Side) (reason : Reason) → length columns ≡ length sides → place < length columns → column ≡ get_or columns place column → side ≡ get_or sides place side → bytes_eq column.name atom.column ≡ true → narrowed columns atom sides ≡ after (take place sides) (narrowed (drop place columns) atom (drop place sides)) → narrowed_side column.kind atom.claim side ≡ Err reason → narrowed columns atom sides ≡ Err reason
found_fails columns atom sides place column side reason even inside is here same left e =
    left ∙ column_found columns atom sides place column side even inside is here same ∙ rw e refl

pub columns_end : (columns : List Column) (atom : Atom) (sides : List Side) (place : ℕ) → length columns ≤ place → after (take place sides) (narrowed (drop place columns) atom (drop place sides)) ≡ Err reasons.UnknownColumn
unfolding narrowed
columns_end columns atom sides place past = rw (drop_all place columns past) refl

pub ruleset column_steps = (column_passed, columns_end)

by_name : (P : List Column → List Side → List Side → Type 0) (atom : Atom) →
    ((column : Column) (columns : List Column) (side : Side) (sides : List Side) (less : Side) → bytes_eq column.name atom.column ≡ true → narrowed_side column.kind atom.claim side ≡ Ok less → P (column ∷ columns) (side ∷ sides) (less ∷ sides)) →
    ((column : Column) (columns : List Column) (side : Side) (sides others : List Side) → bytes_eq column.name atom.column ≡ false → narrowed columns atom sides ≡ Ok others → P columns sides others → P (column ∷ columns) (side ∷ sides) (side ∷ others)) →
    (column : Column) (columns : List Column) (side : Side) (sides less : List Side) (test : Bool) → bytes_eq column.name atom.column ≡ test →
    (if test then (narrowed_side column.kind atom.claim side >>= λ less. Ok (less ∷ sides)) else (narrowed columns atom sides >>= λ others. Ok (side ∷ others))) ≡ Ok less →
    ((others : List Side) → narrowed columns atom sides ≡ Ok others → P columns sides others) → P (column ∷ columns) (side ∷ sides) less
by_name P atom here later column columns side sides less true same e rest =
    let b = bound (λ (less : Side). Ok (less ∷ sides)) (narrowed_side column.kind atom.claim side) less e in
    let is : b.value ∷ sides ≡ less = (let gives = b.gives in cc) in
    subst (P (column ∷ columns) (side ∷ sides)) is (here column columns side sides b.value same b.is)
by_name P atom here later column columns side sides less false other e rest =
    let b = bound (λ (others : List Side). Ok (side ∷ others)) (narrowed columns atom sides) less e in
    let is : side ∷ b.value ≡ less = (let gives = b.gives in cc) in
    subst (P (column ∷ columns) (side ∷ sides)) is (later column columns side sides b.value other b.is (rest b.value b.is))

-- what holds of the sides that an atom leaves, by the columns up to the one that it names
pub narrowed_induction : (P : List Column → List Side → List Side → Type 0) (atom : Atom) →
    ((column : Column) (columns : List Column) (side : Side) (sides : List Side) (less : Side) → bytes_eq column.name atom.column ≡ true → narrowed_side column.kind atom.claim side ≡ Ok less → P (column ∷ columns) (side ∷ sides) (less ∷ sides)) →
    ((column : Column) (columns : List Column) (side : Side) (sides others : List Side) → bytes_eq column.name atom.column ≡ false → narrowed columns atom sides ≡ Ok others → P columns sides others → P (column ∷ columns) (side ∷ sides) (side ∷ others)) →
    (columns : List Column) (sides less : List Side) → narrowed columns atom sides ≡ Ok less → P columns sides less
unfolding narrowed
narrowed_induction P atom here later [] sides less e = cc
narrowed_induction P atom here later (column ∷ columns) [] less e = cc
narrowed_induction P atom here later (column ∷ columns) (side ∷ sides) less e =
    by_name P atom here later column columns side sides less (bytes_eq column.name atom.column) refl e (narrowed_induction P atom here later columns sides)

-- an atom leaves as many sides
pub as_many : (columns : List Column) (atom : Atom) (sides less : List Side) → narrowed columns atom sides ≡ Ok less → length less ≡ length sides
as_many columns atom sides less e =
    narrowed_induction (λ columns sides less. length less ≡ length sides) atom
    (λ column columns side sides less same left. refl)
    (λ column columns side sides others other found even. ap suc even)
    columns sides less e

-- the next atom
pub atom_narrows : (columns : List Column) (atoms : List Atom) (sides less : List Side) (place : ℕ) (atom : Atom) → place < length atoms → atom ≡ get_or atoms place atom → narrowed columns atom sides ≡ Ok less → narrowed_by columns (drop place atoms) sides ≡ narrowed_by columns (drop (place + 1) atoms) less
unfolding narrowed_by
atom_narrows columns atoms sides less place atom inside is found = rw (drop_more atoms place atom inside, ← is, found) refl

pub atom_fails : (columns : List Column) (atoms : List Atom) (sides : List Side) (place : ℕ) (atom : Atom) (reason : Reason) → place < length atoms → atom ≡ get_or atoms place atom → narrowed columns atom sides ≡ Err reason → narrowed_by columns (drop place atoms) sides ≡ Err reason
unfolding narrowed_by
atom_fails columns atoms sides place atom reason inside is found = rw (drop_more atoms place atom inside, ← is, found) refl

pub atoms_end : (columns : List Column) (atoms : List Atom) (sides : List Side) (place : ℕ) → length atoms ≤ place → narrowed_by columns (drop place atoms) sides ≡ Ok sides
unfolding narrowed_by
atoms_end columns atoms sides place past = rw (drop_all place atoms past) refl

pub ruleset atom_steps = (atom_narrows, atom_fails, atoms_end)

pub sides_give : (schema : Schema) (part : Part) (sides : List Side) → narrowed_by schema.columns part.atoms (whole_region schema).sides ≡ Ok sides → region_of schema part ≡ Ok (record { sides = sides })
unfolding region_of
sides_give schema part sides e = rw e refl

pub sides_fail : (schema : Schema) (part : Part) (reason : Reason) → narrowed_by schema.columns part.atoms (whole_region schema).sides ≡ Err reason → region_of schema part ≡ Err reason
unfolding region_of
sides_fail schema part reason e = rw e refl
