-- What is explained of one question after the other.
use Rattle.std.proofs.Common.{◌≡◌, ◌<◌, ◌≤◌, ℕ, ◌+◌, List, [], ◌∷◌, ◌++◌, length, flat_map, take, get_or, sym, ap, subst, ◌∙◌}
use Rattle.std.proofs.lemmas.List.{flat_map_more, take_all, take_more}
use Rattle.pc_model.specs.declared.schema.Schema.{Schema}
use Rattle.pc_desk_answers.specs.declared.question.Question.{Question}
use Rattle.pc_desk_answers.specs.Blocks.{Asked, Ground, asked, asked_by}
use Rattle.pc_desk_answers.proofs.Shown.{zipped_append}
use Rattle.pc_desk_why.specs.declared.explained.Explained.{Explained}
use Rattle.pc_desk_why.specs.Explained.{AreExplained, Explains}

module _ (ground : Ground) (schema : Schema) where
  pub none_explained : AreExplained ground (asked schema []) []
  unfolding asked
  none_explained = tt

  pub next_explained : (questions : List Question) (i : ℕ) (question : Question) (before more : List Explained) → i < length questions → question ≡ get_or questions i question →
      AreExplained ground (asked schema (take i questions)) before → AreExplained ground (asked_by schema question) more → AreExplained ground (asked schema (take (i + 1) questions)) (before ++ more)
  unfolding asked
  next_explained questions i question before more inside is first later =
      let next : take (i + 1) questions ≡ take i questions ++ question ∷ [] = take_more questions i question inside ∙ ap (λ (q : Question). take i questions ++ q ∷ []) (sym is) in
      let both = zipped_append (Explains ground) (flat_map (asked_by schema) (take i questions)) before (asked_by schema question) more first later in
      subst (λ (qs : List Question). AreExplained ground (flat_map (asked_by schema) qs) (before ++ more)) (sym next)
      (subst (λ (wants : List Asked). AreExplained ground wants (before ++ more)) (flat_map_more (asked_by schema) [] (take i questions) question) both)

  pub all_explained : (questions : List Question) (i : ℕ) (all : List Explained) → length questions ≤ i → AreExplained ground (asked schema (take i questions)) all → AreExplained ground (asked schema questions) all
  all_explained questions i all past each = subst (λ (qs : List Question). AreExplained ground (asked schema qs) all) (take_all i questions past) each
