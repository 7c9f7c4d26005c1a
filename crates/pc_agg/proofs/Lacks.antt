-- The relation and the lack that what was found makes break no rule, and where they stay open they are licensed.
use Rattle.std.proofs.Common.{◌≡◌, ℕ, ◌<◌, pos, ◌<ℤ◌, Bool, true, false, inl, inr, ◌⊎◌, List, [], ◌∷◌, ◌++◌, length, All, Any, Contains, refl, sym, ap, subst, ◌∙◌, arith}
use Rattle.std.proofs.lemmas.List.Elements.{All-contains, All-cons, All-nil, Contains-append_left}
use Rattle.pc_model.specs.declared.schema.Schema.{Schema}
use Rattle.pc_model.specs.declared.row.Row.{Row}
use Rattle.pc_model.specs.declared.row.Run.{Run}
use Rattle.pc_model.specs.declared.constraint.Constraint.{Constraint}
use Rattle.pc_model.specs.declared.query.Query.{Query}
use Rattle.pc_model.specs.declared.query.Folded.{Folded}
use Rattle.pc_model.specs.declared.tree.CutNode.{CutNode}
use Rattle.pc_model.specs.WellFormed.{IsWellFormed}
use Rattle.pc_model.specs.Cells.{IsRowOf, IsSettledTree}
use Rattle.pc_model.specs.Right.{always_has_value}
use Rattle.pc_model.specs.Right as plain
use Rattle.pc_model.specs.Runs.{runs_from}
use Rattle.pc_model.specs.declared.area.Area.{Area}
use Rattle.pc_program_bound.specs.declared.program.Program.{Program}
use Rattle.pc_witness.proofs.Zipped.{AllZip-weaker}
use Rattle.pc_proof.specs.declared.answer.NeverBy.{NeverBy}
use Rattle.pc_proof.specs.declared.answer.NeverBy.TheVariants as nevers
use Rattle.pc_proof.specs.declared.answer.Lack.{Lack}
use Rattle.pc_proof.specs.declared.answer.Lack.TheVariants as lacks
use Rattle.pc_proof.specs.declared.answer.Answer.{Answer}
use Rattle.pc_proof.specs.Setting.{Setting, cells, seen_count}
use Rattle.pc_proof.specs.Unbroken.{IsDecided, GivesNone, GivesSome, plain_relation}
use Rattle.pc_branch_licences.specs.Licensed.{LicensedLack, IsSettledLack}
use Rattle.pc_branch_licences.specs.Picked.{AreOfCells, IsOfCell}
use Rattle.pc_branch_licences.specs.Pools.{AreLawful, ShownFrom}
use Rattle.pc_branch_licences.specs.Shown.{counts_of_runs}
use Rattle.pc_branch_licences.specs.Wanted as wanted
use Rattle.pc_branch_licences.proofs.Attaining.{lacking, giving}
use Rattle.pc_branch_licences.proofs.Found.{shown-found}
use Rattle.pc_agg.specs.declared.grounds.Lacking.{Lacking}
use Rattle.pc_agg.specs.declared.grounds.Lacking.TheVariants as lackings
use Rattle.pc_agg_search.specs.declared.want.Want.{Want}
use Rattle.pc_agg_search.specs.declared.want.Want.TheVariants as wants
use Rattle.pc_agg_search.specs.Asked.{Asking, setting_for}
use Rattle.pc_agg.specs.Extremes.{relation_from, IsOpenLack, IsLackFrom}
use Rattle.pc_agg_search.specs.Wants.{want_for, most_chosen, fewest_chosen}
use Rattle.pc_agg.specs.Grounds.{IsLacking, IsLackingSurely, IsUnlistedIfNone}
use Rattle.pc_agg_search.specs.Settings.{unseen}
use Rattle.pc_agg.specs.Settling.{AreRowsOfCells, IsRelation}
use Rattle.pc_agg_search.specs.Wants.{IsFound, IsDoubt}
use Rattle.pc_agg.proofs.Attained.{counted_runs}
use Rattle.pc_agg.proofs.Owing.{IsLackDone}
use Rattle.pc_agg.proofs.Questions.{posed, tree_for}
use Rattle.pc_agg.proofs.StandEnds.{none_held, left_open}

-- ---- what was found grows

pub any_grown : {X : Type 0} (P : X → Type 0) (xs ys : List X) → Any P xs → Any P (xs ++ ys)
any_grown P xs ys some = let there = Contains-append_left xs ys some.1 (some.0, some.2, some.3) in (there.0, some.1, there.1, there.2, some.4)

pub doubt_grown : (p : Program) (want : Want) (budget : ℕ) (found more : List (List ℕ)) → IsDoubt p want budget found → IsDoubt p want budget (found ++ more)
doubt_grown p want budget found more (inl some) = inl (any_grown (IsFound p want) found more some)
doubt_grown p want budget found more (inr left) = inr left

-- where nothing was found in the end, nothing was before
pub none_before : (found more : List (List ℕ)) → found ++ more ≡ [] → found ≡ []
none_before [] more none = refl
none_before (counts ∷ found) more none = absurd (omega (arith, ap length none))

pub unlisted_grown : (u : Setting) (budget : ℕ) (found more : List (List ℕ)) → IsUnlistedIfNone u budget found → IsUnlistedIfNone u budget (found ++ more)
unlisted_grown u budget found more totals none = totals (none_before found more none)

pub lacking_grown : (u : Setting) (observed : Bool) (budget : ℕ) (found more : List (List ℕ)) (lack : Lacking) → IsLacking u observed budget found lack → IsLacking u observed budget (found ++ more) lack
lacking_grown u observed budget found more (lackings.Never nevers.Rows) is = is
lacking_grown u observed budget found more (lackings.Never (nevers.Tree t)) is = is
lacking_grown u observed budget found more lackings.Open is = (is.0, doubt_grown (fewest_chosen u) wants.Without budget found more is.1)

pub surely_grown : (u : Setting) (found more : List (List ℕ)) (lack : Lacking) → IsLackingSurely u found lack → IsLackingSurely u (found ++ more) lack
surely_grown u found more (lackings.Never by') is = tt
surely_grown u found more lackings.Open is = any_grown (IsFound (fewest_chosen u) wants.Without) found more is

-- ---- the relation

pub relation_is : (u : Setting) (budget : ℕ) (picks : List Row) (found : List (List ℕ)) → AreRowsOfCells u picks → IsUnlistedIfNone u budget found → IsRelation u budget found (relation_from picks found)
relation_is u budget picks [] rows totals = totals refl
relation_is u budget picks (counts ∷ more) rows totals = record { picks = picks; counts = counts; rows = rows; there = (0, omega arith, refl); runs_are = refl }

pub relation_may : (picks : List Row) (found : List (List ℕ)) → plain.is_impossible (plain_relation (relation_from picks found)) ≡ false
relation_may picks [] = refl
relation_may picks (counts ∷ more) = refl

pub relation_decided : (picks : List Row) (found : List (List ℕ)) → 0 < length found → IsDecided (relation_from picks found)
relation_decided picks [] some = absurd (omega (arith, some))
relation_decided picks (counts ∷ more) some = tt

-- ---- the lack

-- whether rows were observed, as the code sees it
pub record IsObserving (s : Setting) (observed : Bool) : Type 0 where
  pub some : observed ≡ true → pos 0 <ℤ seen_count s.question
  pub none : observed ≡ false → seen_count s.question ≡ pos 0

module _ (schema : Schema) (constraints : List Constraint) (query : Query) (seen : Folded) (nodes : List CutNode) (formed : IsWellFormed schema) (tree : IsSettledTree schema constraints query.chosen nodes)
    (budget : ℕ) (asking : Asking schema constraints query seen) (lacks_value : always_has_value query.agg ≡ false) (observed : Bool) where
  abbrev u : Setting
  u = unseen schema constraints query nodes

  abbrev s : Setting
  s = setting_for schema constraints query seen nodes asking

  module _ (observing : IsObserving s observed) (picks : List Row) (rows : AreRowsOfCells u picks) (found : List (List ℕ)) (lawful : All (AreLawful u) found) where
    of_cells : AreOfCells s picks
    of_cells =
        AllZip-weaker (IsRowOf schema constraints query.chosen) (IsOfCell s) (λ class row of. subst (λ (area : Area). IsRowOf schema constraints area class row) (sym asking.area) of) (cells u) picks rows

    abbrev IsThere : List Run → Type 0
    IsThere runs = Contains found (counts_of_runs s runs)

    listed : (p : Program) (want : Want) (runs : List Run) → Any (λ counts. IsFound p want counts × (runs ≡ runs_from picks counts)) found → IsThere runs
    listed p want runs some =
        let own = subst (AreLawful u) some.3 (lawful some.0 some.1 some.2) in
        let counted = counted_runs schema constraints query seen nodes formed asking picks some.1 rows own in
        subst (Contains found) (sym (ap (counts_of_runs s) some.4.1 ∙ counted)) (some.0, some.2, some.3)

    gives_none : (runs : List Run) → seen_count s.question ≡ pos 0 → Any (λ counts. IsFound (fewest_chosen u) wants.Without counts × (runs ≡ runs_from picks counts)) found → GivesNone s.question runs
    gives_none runs none some =
        let own = subst (AreLawful u) some.3 (lawful some.0 some.1 some.2) in
        subst (GivesNone s.question) (sym some.4.1)
        (lacking s picks some.1 (posed schema constraints query seen nodes formed asking) (tree_for schema constraints query seen nodes formed asking tree) of_cells own lacks_value none some.4.0.1)

    gives_some : (runs : List Run) → Any (λ counts. IsFound (most_chosen u) wants.Gaining counts × (runs ≡ runs_from picks counts)) found → GivesSome s.question runs
    gives_some runs some =
        let own = subst (AreLawful u) some.3 (lawful some.0 some.1 some.2) in
        subst (GivesSome s.question) (sym some.4.1)
        (giving s picks some.1 (posed schema constraints query seen nodes formed asking) (tree_for schema constraints query seen nodes formed asking tree) of_cells own some.4.0.1)

    never_done : (by' : NeverBy) → IsLacking u observed budget found (lackings.Never by') → IsLackDone s budget found (lacks.Never by')
    never_done nevers.Rows is = record { holds = observing.some is; silent = sym lacks_value; given = refl; from = All-nil IsThere; licensed = λ answer from. tt; searched = tt; fits = tt }
    never_done (nevers.Tree t) is = record { holds = is.1; silent = sym lacks_value; given = refl; from = All-nil IsThere; licensed = λ answer from. tt; searched = is.2.few; fits = is.2.fits }

    undecided_by : (answer : Answer) → ShownFrom s found answer → seen_count s.question ≡ pos 0 → IsDoubt (fewest_chosen u) wants.Without budget found → IsDoubt (most_chosen u) wants.Gaining budget found →
        All (λ counts. IsFound (fewest_chosen u) wants.Without counts → ⊥) found ⊎ All (λ counts. IsFound (most_chosen u) wants.Gaining counts → ⊥) found → LicensedLack s budget answer lacks.Undecided
    undecided_by answer from none fewest most (inl away) =
        let left = left_open found (fewest_chosen u) wants.Without budget fewest away in
        (none, inl (left.0, shown-found s budget answer found (fewest_chosen u) left.0 wanted.without left.1 from (none_held found (fewest_chosen u) wants.Without away), left.2))
    undecided_by answer from none fewest most (inr away) =
        let left = left_open found (most_chosen u) wants.Gaining budget most away in
        (none, inr (left.0, shown-found s budget answer found (most_chosen u) left.0 wanted.some left.1 from (none_held found (most_chosen u) wants.Gaining away), left.2))

    open_done : (lack : Lack) → seen_count s.question ≡ pos 0 → IsDoubt (fewest_chosen u) wants.Without budget found → IsDoubt (most_chosen u) wants.Gaining budget found → IsOpenLack u picks found lack → IsLackDone s budget found lack
    open_done (lacks.Sometimes without given) none fewest most is = record {
      holds = (gives_none without none is.0, gives_some given is.1);
      silent = sym lacks_value;
      given = refl;
      from =
          All-cons IsThere without (given ∷ []) (listed (fewest_chosen u) wants.Without without is.0)
          (All-cons IsThere given [] (listed (most_chosen u) wants.Gaining given is.1) (All-nil IsThere));
      licensed = λ answer from. tt;
      searched = tt;
      fits = tt;
    }
    open_done lacks.Undecided none fewest most is = record {
      holds = tt;
      silent = sym lacks_value;
      given = refl;
      from = All-nil IsThere;
      licensed = λ answer from. undecided_by answer from none fewest most is;
      searched = tt;
      fits = tt;
    }
    open_done lacks.Silent none fewest most is = absurd is
    open_done (lacks.Never by') none fewest most is = absurd is
    open_done (lacks.Always by') none fewest most is = absurd is

    -- the lack that the code answers
    pub lack_done : (lack : Lacking) (answered : Lack) → IsLacking u observed budget found lack → IsDoubt (most_chosen u) (want_for observed) budget found → IsLackFrom u picks found lack answered → IsLackDone s budget found answered
    lack_done (lackings.Never by') answered is most from = subst (IsLackDone s budget found) (sym from) (never_done by' is)
    lack_done lackings.Open answered is most from = open_done answered (observing.none is.0) is.1 (subst (λ o. IsDoubt (most_chosen u) (want_for o) budget found) is.0 most) from

-- where no search was cut short, the lack is settled
pub lack_settled : (u : Setting) (observed : Bool) (budget : ℕ) (picks : List Row) (found : List (List ℕ)) (lack : Lacking) (answered : Lack) → IsLacking u observed budget found lack → IsLackingSurely u found lack →
    Any (IsFound (most_chosen u) (want_for observed)) found → IsLackFrom u picks found lack answered → IsSettledLack answered
lack_settled u observed budget picks found (lackings.Never by') answered is sure some from = subst IsSettledLack (sym from) tt
lack_settled u observed budget picks found lackings.Open answered is sure some from = by_lack answered from
  where
    refuted : (p : Program) (want : Want) → Any (IsFound p want) found → All (λ counts. IsFound p want counts → ⊥) found → ⊥
    refuted p want some none = All-contains (λ counts. IsFound p want counts → ⊥) found some.1 none (some.0, some.2, some.3) some.4

    by_lack : (answered : Lack) → IsOpenLack u picks found answered → IsSettledLack answered
    by_lack (lacks.Sometimes without given) from = tt
    by_lack lacks.Undecided (inl none) = refuted (fewest_chosen u) wants.Without sure none
    by_lack lacks.Undecided (inr none) = refuted (most_chosen u) wants.Gaining (subst (λ o. Any (IsFound (most_chosen u) (want_for o)) found) is.0 some) none
    by_lack lacks.Silent from = tt
    by_lack (lacks.Never by') from = tt
    by_lack (lacks.Always by') from = tt
