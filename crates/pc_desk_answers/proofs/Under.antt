-- The entries under each of several lists of constraints, one list after the other.
use Rattle.std.proofs.Common.{◌≡◌, ◌<◌, ◌≤◌, ℕ, ◌+◌, List, [], ◌∷◌, ◌++◌, length, take, get_or, sym, ap, subst, ◌∙◌}
use Rattle.std.proofs.lemmas.List.{take_all, take_more}
use Rattle.std.proofs.lemmas.Slice.Zip.{all_zipped_more}
use Rattle.pc_model.specs.declared.constraint.Constraint.{Constraint}
use Rattle.pc_desk_table.specs.declared.entry.Entry.{Entry}
use Rattle.pc_desk_answers.specs.Blocks.{AreShown, AreShownUnder, Asked, Ground, ground_under}

module _ (ground : Ground) (wanted : List Asked) where
  abbrev ShowsUnder : List Constraint → List Entry → Type 0
  ShowsUnder constraints entries = AreShown (ground_under ground constraints) wanted entries

  pub none_under : AreShownUnder ground wanted [] []
  none_under = tt

  pub next_under : (lists : List (List Constraint)) (i : ℕ) (list : List Constraint) (before : List (List Entry)) (entries : List Entry) → i < length lists → list ≡ get_or lists i list →
      AreShownUnder ground wanted (take i lists) before → AreShown (ground_under ground list) wanted entries → AreShownUnder ground wanted (take (i + 1) lists) (before ++ entries ∷ [])
  next_under lists i list before entries inside is first later =
      let next : take (i + 1) lists ≡ take i lists ++ list ∷ [] = take_more lists i list inside ∙ ap (λ (c : List Constraint). take i lists ++ c ∷ []) (sym is) in
      subst (λ (cs : List (List Constraint)). AreShownUnder ground wanted cs (before ++ entries ∷ [])) (sym next)
      (all_zipped_more ShowsUnder (take i lists) before list entries first later)

  pub all_under : (lists : List (List Constraint)) (i : ℕ) (all : List (List Entry)) → length lists ≤ i → AreShownUnder ground wanted (take i lists) all → AreShownUnder ground wanted lists all
  all_under lists i all past shown = subst (λ (cs : List (List Constraint)). AreShownUnder ground wanted cs all) (take_all i lists past) shown
