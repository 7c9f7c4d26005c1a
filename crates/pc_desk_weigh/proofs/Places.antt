-- Changes and constraints, as far as a loop has come.
use Rattle.std.proofs.Common.{◌≡◌, ℕ, ◌+◌, ◌<◌, ◌≤◌, List, [], ◌∷◌, ◌++◌, Option, flat_map, map, get_or, length, take, take_all, refl, sym, ap, append-nil, ◌∙◌}
use Rattle.std.specs.List.{enumerate_from}
use Rattle.std.proofs.lemmas.List.Concat.{flat_map-append}
use Rattle.pc_model.specs.declared.constraint.Constraint.{Constraint}
use Rattle.pc_model.specs.declared.schema.Schema.{Schema}
use Rattle.pc_desk_table.proofs.Enumerated.{enumerate_more, map_enumerate_more}
use Rattle.pc_desk_weigh.specs.declared.change.Change.{Change}
use Rattle.pc_desk_weigh.specs.Changes.{changed, changed_at, changes_if, changes_of}

module _ (schema : Schema) (constraints : List Constraint) (place : ℕ) where
  module _ (asked : Option ℕ) where
    pub changes_none : [] ≡ changes_of schema [] asked
    unfolding changes_of
    changes_none = refl

    pub changes_more : (c : Constraint) → place < length constraints → c ≡ get_or constraints place c → (held new : List Change) → held ≡ changes_of schema (take place constraints) asked
        → new ≡ held ++ changes_if schema asked (place, c) → new ≡ changes_of schema (take (place + 1) constraints) asked
    unfolding changes_of
    changes_more c here is held new before one =
        let f = changes_if schema asked in
        let so_far = flat_map f (enumerate_from 0 (take place constraints)) in
        one ∙ ap (λ (items : List Change). items ++ f (place, c)) before
        ∙ ap (λ (d : Constraint). so_far ++ f (place, d)) is
        ∙ sym (ap (flat_map f) (enumerate_more constraints place c here)
        ∙ flat_map-append f (enumerate_from 0 (take place constraints)) ((place, get_or constraints place c) ∷ [])
        ∙ ap (λ (more : List Change). so_far ++ more) (append-nil (f (place, get_or constraints place c))))

    pub changes_all : length constraints ≤ place → (all : List Change) → all ≡ changes_of schema (take place constraints) asked → all ≡ changes_of schema constraints asked
    changes_all past all is = is ∙ ap (λ (cs : List Constraint). changes_of schema cs asked) (take_all place constraints past)

  module _ (change : Change) where
    pub changed_none : [] ≡ changed schema [] change
    unfolding changed
    changed_none = refl

    pub changed_more : (c : Constraint) → place < length constraints → c ≡ get_or constraints place c → (held new : List Constraint) (next : Constraint) → held ≡ changed schema (take place constraints) change
        → next ≡ changed_at schema change (place, c) → new ≡ held ++ next ∷ [] → new ≡ changed schema (take (place + 1) constraints) change
    unfolding changed
    changed_more c here is held new next before at one =
        let f = changed_at schema change in
        let so_far = map f (enumerate_from 0 (take place constraints)) in
        one ∙ ap (λ (items : List Constraint). items ++ next ∷ []) before
        ∙ ap (λ (d : Constraint). so_far ++ d ∷ []) (at ∙ ap (λ (d : Constraint). f (place, d)) is)
        ∙ sym (map_enumerate_more f constraints place c here)

    pub changed_all : length constraints ≤ place → (all : List Constraint) → all ≡ changed schema (take place constraints) change → all ≡ changed schema constraints change
    changed_all past all is = is ∙ ap (λ (cs : List Constraint). changed schema cs change) (take_all place constraints past)
