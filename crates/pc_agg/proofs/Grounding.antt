-- What searches of the chosen rows say of the relation and of the lack.
use Rattle.std.proofs.Common.{◌≡◌, ℕ, ◌<◌, ◌≤◌, ℤ, Bool, true, false, List, ◌++◌, length, map, All, Any, refl, sym, ap, subst, ◌∙◌, arith}
use Rattle.std.proofs.lemmas.List.{append_assoc, length-append, length-map, get_or-map}
use Rattle.std.proofs.lemmas.List.Elements.{All-append, All-map}
use Rattle.pc_model.specs.declared.tree.Tree.{Tree}
use Rattle.pc_model.specs.Cells.{Class}
use Rattle.pc_program_bound.specs.declared.program.Program.{Program}
use Rattle.pc_cells.specs.declared.cells.Cell.{Cell}
use Rattle.pc_cells.specs.Found.{class_of_cell}
use Rattle.pc_proof.specs.declared.answer.NeverBy.TheVariants as nevers
use Rattle.pc_proof.specs.declared.answer.Relation.{Relation}
use Rattle.pc_proof.specs.declared.answer.Relation.TheVariants as relations
use Rattle.pc_proof.specs.declared.answer.Why.{Why}
use Rattle.pc_proof.specs.Setting.{Setting, cells, on_chosen, program_for}
use Rattle.pc_proof.specs.Table.{one, minus_one}
use Rattle.pc_proof.specs.Unbroken.{IsDecided}
use Rattle.pc_branch_licences.specs.Pools.{AreLawful}
use Rattle.pc_agg.specs.declared.grounds.Grounded.{Grounded}
use Rattle.pc_agg.specs.declared.grounds.Grounded.TheVariants as grounded
use Rattle.pc_agg.specs.declared.grounds.Lacking.{Lacking}
use Rattle.pc_agg.specs.declared.grounds.Lacking.TheVariants as lackings
use Rattle.pc_agg_search.specs.declared.probes.Probed.{Probed}
use Rattle.pc_agg_search.specs.declared.probes.ProbeVerdict.TheVariants as verdicts
use Rattle.pc_agg_search.specs.declared.want.Want.{Want}
use Rattle.pc_agg_search.specs.declared.want.Want.TheVariants as wants
use Rattle.pc_agg_search.specs.Fitting.{IsVoidTree}
use Rattle.pc_agg_search.specs.Flat.{flat_tree}
use Rattle.pc_agg_search.specs.Wants.{want_for, most_chosen, fewest_chosen}
use Rattle.pc_agg.specs.Grounds.{HasValues, AreGrounds, AreAlways, AreGroundsSurely, IsKept, IsLacking, IsLackingSurely, IsUnlistedIfNone}
use Rattle.pc_agg_search.specs.declared.problem.Problem.{Problem}
use Rattle.pc_agg_search.specs.Problem.{IsPosed, setting_of}
use Rattle.pc_agg.specs.Settling.{IsRelation, IsUnlisted}
use Rattle.pc_agg_search.specs.Wants.{FallsShort, IsDoubt, IsFound, IsProbed, IsSure, IsVerdict}
use Rattle.pc_agg_search.proofs.Empty.{void_tree}
use Rattle.pc_agg.proofs.Flat.{flat_none}
use Rattle.pc_agg.proofs.Lacks.{unlisted_grown, lacking_grown, surely_grown}
use Rattle.pc_agg_search.proofs.PosedPrograms.{own_classes}
use Rattle.pc_agg_search.proofs.Shorts.{shows_no_gain, shows_some_row, short_empty, small_short}

any_map : {X Y : Type 0} (P : Y → Type 0) (f : X → Y) (xs : List X) → Any (λ x. P (f x)) xs → Any P (map f xs)
any_map P f xs some = (some.0, f some.1, omega (arith, some.2, length-map xs f), get_or-map f xs some.0 some.1 (f some.1) some.2 ∙ ap f some.3, some.4)

-- ---- what a search found

module _ (u : Setting) (gain : Class → ℤ) (want : Want) (budget : ℕ) (found : List (List ℕ)) (probed : Probed) (is : IsProbed (program_for u gain) want budget found probed) where
  more_lawful : All (AreLawful u) is.more
  more_lawful place d inside = let own = is.allowed place d inside in record { sized = own.sized; within = own.within; met = own.met }

  pub probed_lawful : All (AreLawful u) found → All (AreLawful u) probed.found
  probed_lawful lawful = subst (All (AreLawful u)) (sym is.grown) (All-append (AreLawful u) found is.more lawful more_lawful)

  pub probed_totals : IsUnlistedIfNone u budget found → IsUnlistedIfNone u budget probed.found
  probed_totals totals = subst (IsUnlistedIfNone u budget) (sym is.grown) (unlisted_grown u budget found is.more totals)

  pub probed_lacking : (observed : Bool) (lack : Lacking) → IsLacking u observed budget found lack → IsLacking u observed budget probed.found lack
  probed_lacking observed lack lacks = subst (λ l. IsLacking u observed budget l lack) (sym is.grown) (lacking_grown u observed budget found is.more lack lacks)

  pub probed_surely : (lack : Lacking) → IsLackingSurely u found lack → IsLackingSurely u probed.found lack
  probed_surely lack sure = subst (λ l. IsLackingSurely u l lack) (sym is.grown) (surely_grown u found is.more lack sure)

  pub probed_some : 0 < length found → 0 < length probed.found
  probed_some some = subst (λ l. 0 < length l) (sym is.grown) (omega (arith, some, length-append found is.more))

  pub probed_empty : (tree : Tree) → probed.verdict ≡ verdicts.Empty tree → IsVoidTree u budget tree
  probed_empty tree same = void_tree u (map gain (cells u)) budget tree (subst (IsVerdict (program_for u gain) want budget probed.found) same is.verdict)

  pub probed_short : (tree : Tree) → probed.verdict ≡ verdicts.Short tree → FallsShort (program_for u gain) want budget tree
  probed_short tree same = subst (IsVerdict (program_for u gain) want budget probed.found) same is.verdict

  pub probed_open : probed.verdict ≡ verdicts.Open → IsDoubt (program_for u gain) want budget probed.found
  probed_open same = subst (IsVerdict (program_for u gain) want budget probed.found) same is.verdict

  pub probed_sure : probed.verdict ≡ verdicts.Open → IsSure (program_for u gain) want probed → Any (IsFound (program_for u gain) want) probed.found
  probed_sure same sure = subst (λ v. IsSure (program_for u gain) want (record { verdict = v; found = probed.found })) same sure

-- what was found before that is kept too
pub kept_on : (before found more : List (List ℕ)) → found ≡ before ++ more → (ground : Grounded) → IsKept found ground → IsKept before ground
kept_on before found more grown (grounded.Impossible why) kept = tt
kept_on before found more grown (grounded.Always tree all) kept = (more ++ kept.0, kept.1 ∙ ap (λ list. list ++ kept.0) grown ∙ append_assoc before more kept.0)
kept_on before found more grown (grounded.Open left) kept = (more ++ kept.0, kept.1 ∙ ap (λ list. list ++ kept.0) grown ∙ append_assoc before more kept.0)

-- ---- the search for lists without a chosen row

module _ (u : Setting) (budget : ℕ) (found : List (List ℕ)) (probed : Probed) (is : IsProbed (fewest_chosen u) wants.Without budget found probed) where
  pub fewest_short : (tree : Tree) → probed.verdict ≡ verdicts.Short tree → IsLacking u false budget probed.found (lackings.Never (nevers.Tree tree))
  fewest_short tree same =
      let short = probed_short u (on_chosen minus_one) wants.Without budget found probed is tree same in
      (refl, shows_some_row (fewest_chosen u) budget tree short, small_short (fewest_chosen u) wants.Without budget tree short)

  pub fewest_open : probed.verdict ≡ verdicts.Open → IsLacking u false budget probed.found lackings.Open
  fewest_open same = (refl, probed_open u (on_chosen minus_one) wants.Without budget found probed is same)

-- ---- the search for lists with a value

pub most_probed : (u : Setting) (observed : Bool) (budget : ℕ) (found : List (List ℕ)) (probed : Probed) (p : Program) (want : Want) → p ≡ most_chosen u → want ≡ want_for observed → IsProbed p want budget found probed →
    IsProbed (most_chosen u) (want_for observed) budget found probed
most_probed u observed budget found probed p want same wanted is =
    subst (λ q. IsProbed q (want_for observed) budget found probed) same (subst (λ w. IsProbed p w budget found probed) wanted is)

pub most_sure : (u : Setting) (observed : Bool) (probed : Probed) (p : Program) (want : Want) → p ≡ most_chosen u → want ≡ want_for observed → IsSure p want probed → IsSure (most_chosen u) (want_for observed) probed
most_sure u observed probed p want same wanted is = subst (λ q. IsSure q (want_for observed) probed) same (subst (λ w. IsSure p w probed) wanted is)

module _ (u : Setting) (observed : Bool) (budget : ℕ) (found : List (List ℕ)) (lawful : All (AreLawful u) found) (totals : IsUnlistedIfNone u budget found) (probed : Probed)
    (is : IsProbed (most_chosen u) (want_for observed) budget found probed) where
  -- where rows were observed, any list would do
  pub most_none : (tree : Tree) → probed.verdict ≡ verdicts.Short tree → observed ≡ true → IsVoidTree u budget tree
  most_none tree same seen =
      let short = probed_short u (on_chosen one) (want_for observed) budget found probed is tree same in
      void_tree u (most_chosen u).gain budget tree (short_empty (most_chosen u) budget tree (subst (λ o. FallsShort (most_chosen u) (want_for o) budget tree) seen short))

  pub most_always : (tree : Tree) → probed.verdict ≡ verdicts.Short tree → observed ≡ false → AreAlways u observed budget tree probed.found
  most_always tree same unseen =
      let short = probed_short u (on_chosen one) (want_for observed) budget found probed is tree same in
      record {
        unseen = unseen;
        lawful = probed_lawful u (on_chosen one) (want_for observed) budget found probed is lawful;
        totals = probed_totals u (on_chosen one) (want_for observed) budget found probed is totals;
        shows = shows_no_gain (most_chosen u) budget tree (subst (λ o. FallsShort (most_chosen u) (want_for o) budget tree) unseen short);
        small = small_short (most_chosen u) (want_for observed) budget tree short;
      }

  pub most_open : (lack : Lacking) → probed.verdict ≡ verdicts.Open → HasValues u observed → IsLacking u observed budget found lack → AreGrounds u observed budget (record { lacking = lack; found = probed.found })
  most_open lack same some lacks = record {
    some = some;
    lawful = probed_lawful u (on_chosen one) (want_for observed) budget found probed is lawful;
    totals = probed_totals u (on_chosen one) (want_for observed) budget found probed is totals;
    lacking_is = probed_lacking u (on_chosen one) (want_for observed) budget found probed is observed lack lacks;
    doubt = probed_open u (on_chosen one) (want_for observed) budget found probed is same;
  }

  pub most_surely : (lack : Lacking) → probed.verdict ≡ verdicts.Open → 0 < length found → IsLackingSurely u found lack → IsSure (most_chosen u) (want_for observed) probed →
      AreGroundsSurely u observed (record { lacking = lack; found = probed.found })
  most_surely lack same some lacks sure = record {
    listed = probed_some u (on_chosen one) (want_for observed) budget found probed is some;
    lacking_surely = probed_surely u (on_chosen one) (want_for observed) budget found probed is lack lacks;
    found_some = probed_sure u (on_chosen one) (want_for observed) budget found probed is same sure;
  }

-- ---- where no cell is chosen, or some is

module _ (problem : Problem) (posed : IsPosed problem) where
  abbrev u : Setting
  u = setting_of problem

  classes : map class_of_cell problem.cells.now.cells ≡ cells u
  classes = own_classes problem posed

  pub some_chosen : Any (λ (cell : Cell). cell.chosen ≡ true) problem.cells.now.cells → HasValues u false
  some_chosen some = subst (Any (λ (class : Class). class.chosen ≡ true)) classes (any_map (λ (class : Class). class.chosen ≡ true) class_of_cell problem.cells.now.cells some)

  pub none_chosen : (budget : ℕ) (found : List (List ℕ)) → 1 ≤ budget → All (λ (cell : Cell). cell.chosen ≡ true → ⊥) problem.cells.now.cells → All (AreLawful u) found → IsUnlistedIfNone u budget found →
      AreAlways u false budget (flat_tree (length problem.constraints.now)) found
  none_chosen budget found some never lawful totals = record {
    unseen = refl;
    lawful = lawful;
    totals = totals;
    shows = shows_no_gain (most_chosen u) budget (flat_tree (length problem.constraints.now)) flat;
    small = small_short (most_chosen u) wants.Gaining budget (flat_tree (length problem.constraints.now)) flat;
  }
    where
      flat : FallsShort (most_chosen u) wants.Gaining budget (flat_tree (length problem.constraints.now))
      flat =
          flat_none problem.schema.now problem.constraints.now problem.query.now problem.cells.now.tree.nodes posed.formed posed.limited posed.found.tree budget some
          (subst (All (λ (class : Class). class.chosen ≡ true → ⊥)) classes (All-map (λ (class : Class). class.chosen ≡ true → ⊥) class_of_cell problem.cells.now.cells never))

-- ---- what the totals settle

pub totals_left : (u : Setting) (budget : ℕ) (found : List (List ℕ)) (relation : Relation) → IsRelation u budget found relation → ((why : Why) → relation ≡ relations.Impossible why → ⊥) → IsUnlistedIfNone u budget found
totals_left u budget found (relations.Possible runs) is never none = absurd (omega (arith, is.there.1, ap length none))
totals_left u budget found (relations.Impossible why) is never none = absurd (never why refl)
totals_left u budget found relations.Undecided is never none = subst (IsUnlisted u budget) none is

pub listed_left : (u : Setting) (budget : ℕ) (found : List (List ℕ)) (relation : Relation) → IsRelation u budget found relation → ((why : Why) → relation ≡ relations.Impossible why → ⊥) → IsDecided relation → 0 < length found
listed_left u budget found (relations.Possible runs) is never decided = omega (arith, is.there.1)
listed_left u budget found (relations.Impossible why) is never decided = absurd (never why refl)
listed_left u budget found relations.Undecided is never decided = absurd decided
