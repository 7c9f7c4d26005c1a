-- What is appended for the items of a list, as far as a loop has come.
use Rattle.std.proofs.Common.{◌≡◌, ℕ, ◌+◌, ◌<◌, ◌≤◌, List, [], ◌∷◌, ◌++◌, length, get_or, drop, add-one, drop-cons, append_assoc}
use Rattle.std.specs.List.{flat_map}
use Rattle.std.proofs.lemmas.List.{append-nil, drop_all}
use Rattle.pc_lang_tokens.specs.declared.token.Symbol.TheVariants as symbols
use Rattle.pc_lang_tokens.specs.declared.token.Word.TheVariants as words
use Rattle.pc_lang_tokens.specs.declared.token.Token.{Token}
use Rattle.pc_lang_tokens.specs.declared.token.Token.TheVariants as tokens
use Rattle.pc_lang_grammar.specs.declared.syntax.Atom.{Atom}
use Rattle.pc_lang_grammar.specs.declared.syntax.Part.{Part}
use Rattle.pc_lang_grammar.specs.Grammar.{atom_tokens, further_atoms, further_names, further_parts, part_tokens}

more : {X A : Type 0} (f : X → List A) (items : List A) (xs : List X) (i : ℕ) (d : X) → i < length xs → (items ++ f (get_or xs i d)) ++ flat_map f (drop (i + 1) xs) ≡ items ++ flat_map f (drop i xs)
more f items xs i d inside = rw (add-one, drop-cons xs i d inside) (append_assoc items (f (get_or xs i d)) _)

none_left : {X A : Type 0} (f : X → List A) (items : List A) (xs : List X) (i : ℕ) → length xs ≤ i → items ++ flat_map f (drop i xs) ≡ items
none_left f items xs i past = rw (drop_all i xs past) (append-nil items)

pub atoms_more : (items : List Token) (atoms : List Atom) (i : ℕ) (d : Atom) → i < length atoms → (items ++ tokens.Reserved words.And ∷ atom_tokens (get_or atoms i d)) ++ further_atoms (drop (i + 1) atoms) ≡ items ++ further_atoms (drop i atoms)
atoms_more items atoms i d inside = more (λ (atom : Atom). tokens.Reserved words.And ∷ atom_tokens atom) items atoms i d inside

pub atoms_end : (items : List Token) (atoms : List Atom) (i : ℕ) → length atoms ≤ i → items ++ further_atoms (drop i atoms) ≡ items
atoms_end items atoms i past = none_left (λ (atom : Atom). tokens.Reserved words.And ∷ atom_tokens atom) items atoms i past

pub ruleset atom_steps = (atoms_more, atoms_end)

pub parts_more : (items : List Token) (parts : List Part) (i : ℕ) (d : Part) → i < length parts → (items ++ tokens.Reserved words.Or ∷ part_tokens (get_or parts i d)) ++ further_parts (drop (i + 1) parts) ≡ items ++ further_parts (drop i parts)
parts_more items parts i d inside = more (λ (part : Part). tokens.Reserved words.Or ∷ part_tokens part) items parts i d inside

pub parts_end : (items : List Token) (parts : List Part) (i : ℕ) → length parts ≤ i → items ++ further_parts (drop i parts) ≡ items
parts_end items parts i past = none_left (λ (part : Part). tokens.Reserved words.Or ∷ part_tokens part) items parts i past

pub ruleset part_steps = (parts_more, parts_end)

pub names_more : (items : List Token) (names : List (List ℕ)) (i : ℕ) (d : List ℕ) → i < length names → (items ++ tokens.Symbol symbols.Comma ∷ tokens.Name (get_or names i d) ∷ []) ++ further_names (drop (i + 1) names) ≡ items ++ further_names (drop i names)
names_more items names i d inside = more (λ (name : List ℕ). tokens.Symbol symbols.Comma ∷ tokens.Name name ∷ []) items names i d inside

pub names_end : (items : List Token) (names : List (List ℕ)) (i : ℕ) → length names ≤ i → items ++ further_names (drop i names) ≡ items
names_end items names i past = none_left (λ (name : List ℕ). tokens.Symbol symbols.Comma ∷ tokens.Name name ∷ []) items names i past

pub ruleset name_steps = (names_more, names_end)
