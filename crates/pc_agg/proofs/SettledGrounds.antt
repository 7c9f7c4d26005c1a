-- What is settled over the grounds of an aggregate that can lack a value owes what it must.
use Rattle.std.proofs.Common.{◌≡◌, ℕ, ◌<◌, pos, Bool, false, List, length, All, Contains, None, refl, sym, ap, ap₂, subst, ◌∙◌, Result, Ok, Err, true≢false, Any, nat_lt, ltb-true, ltb-false, arith}
use Rattle.std.specs.Prelude.{◌||◌, IfOk}
use Rattle.std.proofs.lemmas.Int.{ints}
use Rattle.std.proofs.lemmas.List.Elements.{All-nil}
use Rattle.pc_model.specs.declared.schema.Schema.{Schema}
use Rattle.pc_model.specs.declared.row.Row.{Row}
use Rattle.pc_model.specs.declared.row.Run.{Run}
use Rattle.pc_model.specs.declared.constraint.Constraint.{Constraint}
use Rattle.pc_model.specs.declared.query.Query.{Query}
use Rattle.pc_model.specs.declared.query.Folded.{Folded}
use Rattle.pc_model.specs.declared.tree.CutNode.{CutNode}
use Rattle.pc_model.specs.declared.tree.Tree.{Tree}
use Rattle.pc_model.specs.Accepted.{AreConstraints}
use Rattle.pc_agg_search.specs.Easy.{IsEasy}
use Rattle.pc_model.specs.WellFormed.{IsWellFormed}
use Rattle.pc_model.specs.Cells.{IsSettledTree}
use Rattle.pc_model.specs.Right.{always_has_value}
use Rattle.pc_model.specs.Right as plain
use Rattle.pc_proof.specs.declared.answer.AlwaysBy.TheVariants as alwayses
use Rattle.pc_proof.specs.declared.answer.Answer.{Answer}
use Rattle.pc_proof.specs.declared.answer.Lack.{Lack}
use Rattle.pc_proof.specs.declared.answer.Lack.TheVariants as lacks
use Rattle.pc_proof.specs.declared.answer.Relation.{Relation}
use Rattle.pc_proof.specs.Setting.{Setting}
use Rattle.pc_proof.specs.Unbroken.{HoldsLack, plain_lack}
use Rattle.pc_branch_licences.specs.Licensed.{LicensedLack, IsSettledLack}
use Rattle.pc_branch_licences.specs.Pools.{AreLawful, ShownFrom}
use Rattle.pc_branch_licences.specs.Searched.{LackSearched}
use Rattle.pc_branch_licences.specs.Shown.{runs_of_lack, counts_of_runs}
use Rattle.pc_agg.specs.declared.grounds.Grounds.{Grounds}
use Rattle.pc_agg.specs.declared.grounds.Grounded.{Grounded}
use Rattle.pc_agg.specs.declared.grounds.Grounded.TheVariants as grounded
use Rattle.pc_agg.specs.declared.settling.Settled.{Settled}
use Rattle.pc_agg_search.specs.declared.extreme.Extreme.TheVariants.{Low}
use Rattle.pc_agg_search.specs.Asked.{Asking, setting_for}
use Rattle.pc_agg_search.specs.Fitting.{IsFitLack}
use Rattle.pc_agg.specs.Extremes.{relation_from, HasLawful, IsLackFrom, IsSettledOver, IsSettledFrom}
use Rattle.pc_agg.specs.Grounds.{IsGrounded, IsGroundedSurely, IsUnlistedIfNone}
use Rattle.pc_agg.specs.Owed.{OwesSettled, CanGive, IsGiving, MayGiveOne, LeavesLack}
use Rattle.pc_agg_search.specs.Settings.{unseen}
use Rattle.pc_agg.specs.Settling.{AreRowsOfCells}
use Rattle.pc_agg.specs.ShownRows.{IsShownRow}
use Rattle.pc_agg.proofs.Giving.{is_undecided, settled_lack, can_give, may_give, surely_giving, lack_left}
use Rattle.pc_agg.proofs.Lacks.{relation_is, relation_may, relation_decided, IsObserving, lack_done, lack_settled}
use Rattle.pc_agg.proofs.Owing.{settled_with, settled_impossible}
use Rattle.pc_agg.proofs.Totals.{sized_rows}

pub grounded_lawful : (u : Setting) (observed : Bool) (budget : ℕ) (ground : Grounded) → IsGrounded u observed budget ground → HasLawful u ground
grounded_lawful u observed budget (grounded.Impossible why) is = tt
grounded_lawful u observed budget (grounded.Always tree found) is = is.lawful
grounded_lawful u observed budget (grounded.Open grounds) is = is.lawful

-- what was found for what is settled is lawful
pub settled_lawful : (u : Setting) (ground : Grounded) (settled : Settled) → HasLawful u ground → IsSettledFrom u ground settled → All (AreLawful u) settled.found
settled_lawful u (grounded.Impossible why) settled lawful from = subst (λ (x : Settled). All (AreLawful u) x.found) (sym from) (All-nil (AreLawful u))
settled_lawful u (grounded.Always tree found) settled lawful from = subst (All (AreLawful u)) (sym from.0.found_is) lawful
settled_lawful u (grounded.Open grounds) settled lawful from = subst (All (AreLawful u)) (sym from.0.found_is) lawful

pub sized_found : (u : Setting) (picks : List Row) (found : List (List ℕ)) → AreRowsOfCells u picks → All (AreLawful u) found → All (λ counts. length picks ≡ length counts) found
sized_found u picks found rows lawful place d inside = sized_rows u picks _ rows (lawful place d inside)

-- what is settled, over a row of each cell
pub settled_always : (u : Setting) (ground : Grounded) (tree : Tree) (picks passed : List Row) (found also : List (List ℕ)) (relation : Relation) → ground ≡ grounded.Always tree found → AreRowsOfCells u picks → All (IsShownRow u None Low) picks →
    passed ≡ picks → also ≡ found → relation ≡ relation_from passed also → IsSettledFrom u ground (record { relation = relation; lack = lacks.Always (alwayses.Tree tree); found = found })
settled_always u ground tree picks passed found also relation same rows shown picked listed is =
    subst (λ g. IsSettledFrom u g (record { relation = relation; lack = lacks.Always (alwayses.Tree tree); found = found })) (sym same)
    (record { picks = picks; rows = rows; shown = shown; relation_is = is ∙ ap₂ relation_from picked listed; found_is = refl }, refl)

pub settled_open : (u : Setting) (ground : Grounded) (grounds : Grounds) (picks passed : List Row) (settled : Settled) → ground ≡ grounded.Open grounds → AreRowsOfCells u picks → All (IsShownRow u None Low) picks → passed ≡ picks →
    settled.relation ≡ relation_from passed grounds.found → IsLackFrom u passed grounds.found grounds.lacking settled.lack → settled.found ≡ grounds.found → IsSettledFrom u ground settled
settled_open u ground grounds picks passed settled same rows shown picked is from listed =
    subst (λ g. IsSettledFrom u g settled) (sym same) (
      record { picks = picks; rows = rows; shown = shown; relation_is = is ∙ ap (λ p. relation_from p grounds.found) picked; found_is = listed },
      subst (λ p. IsLackFrom u p grounds.found grounds.lacking settled.lack) picked from,
    )

-- what holds of a good result by three clauses
pub ok_all : {X E : Type 0} (r : Result X E) (P Q R S : X → Type 0) → IfOk r P → IfOk r Q → IfOk r R → ((x : X) → P x → Q x → R x → S x) → IfOk r S
ok_all (Ok x) P Q R S first second third join = join x first second third
ok_all (Err e) P Q R S first second third join = tt

module _ (schema : Schema) (constraints : List Constraint) (query : Query) (seen : Folded) (nodes : List CutNode) (formed : IsWellFormed schema) (limited : AreConstraints schema constraints)
    (tree : IsSettledTree schema constraints query.chosen nodes) (budget : ℕ) (asking : Asking schema constraints query seen) (lacks_value : always_has_value query.agg ≡ false) where
  abbrev u : Setting
  u = unseen schema constraints query nodes

  abbrev s : Setting
  s = setting_for schema constraints query seen nodes asking

  abbrev IsThere : List (List ℕ) → List Run → Type 0
  IsThere found runs = Contains found (counts_of_runs s runs)

  -- a list of the first counts, and a lack that is known
  settled_over : (found : List (List ℕ)) (settled : Settled) (lack : Lack) → IsSettledOver u found settled → settled.lack ≡ lack → All (AreLawful u) found → IsUnlistedIfNone u budget found →
      plain.is_silent (plain_lack lack) ≡ false → HoldsLack s lack → LackSearched s budget lack → IsFitLack query.agg lack → All (IsThere found) (runs_of_lack lack) → ((answer : Answer) → ShownFrom s found answer → LicensedLack s budget answer lack) →
      (IsEasy schema constraints → (0 < length found) × IsSettledLack lack) → (plain.is_always (plain_lack lack) ≡ false → CanGive s × MayGiveOne s budget found) → (lack ≡ lacks.Undecided → LeavesLack s budget found) →
      (IsEasy schema constraints → plain.is_always (plain_lack lack) ≡ false → Any (IsGiving s) found) → OwesSettled s budget settled.relation settled.lack settled.found
  settled_over found settled lack is same lawful totals silent holds searched fits from licensed sure gives open_lack surely =
      let owed =
      settled_with schema constraints query seen nodes formed limited tree budget asking found (relation_from is.picks found) lack lawful (relation_is u budget is.picks found is.rows totals)
      (silent ∙ sym (ap₂ ◌||◌ lacks_value (relation_may is.picks found))) holds searched fits from licensed
      (λ nested. let own = sure nested in (relation_decided is.picks found own.0, own.1)) (λ no ends. gives ends.1) open_lack (λ nested no ends. surely nested ends.1) in
      subst (OwesSettled s budget settled.relation settled.lack) (sym is.found_is)
      (subst (λ relation. OwesSettled s budget relation settled.lack found) (sym is.relation_is)
      (subst (λ l. OwesSettled s budget (relation_from is.picks found) l found) (sym same) owed))

  settled_lack_left : (lack : Lack) (found : List (List ℕ)) → is_undecided lack ≡ false → lack ≡ lacks.Undecided → LeavesLack s budget found
  settled_lack_left lack found settled same = absurd (settled_lack lack settled same)

  pub owes_grounded : (observed : Bool) → IsObserving s observed → (ground : Grounded) (settled : Settled) → IsGrounded u observed budget ground →
      (IsEasy schema constraints → IsGroundedSurely u observed ground) → IsSettledFrom u ground settled → OwesSettled s budget settled.relation settled.lack settled.found
  owes_grounded observed observing (grounded.Impossible why) settled is sure from =
      subst (λ (x : Settled). OwesSettled s budget x.relation x.lack x.found) (sym from)
      (settled_impossible schema constraints query seen nodes formed limited tree budget asking why is.0 is.1)
  owes_grounded observed observing (grounded.Always by_tree found) settled is sure from =
      settled_over found settled (lacks.Always (alwayses.Tree by_tree)) from.0 from.1 is.lawful is.totals refl (observing.none is.unseen, is.shows) is.small.few is.small.fits (All-nil (IsThere found)) (λ answer shown. tt)
      (λ nested. (sure nested, tt)) (λ may. absurd (true≢false may)) (settled_lack_left (lacks.Always (alwayses.Tree by_tree)) found refl) (λ nested may. absurd (true≢false may))
  owes_grounded observed observing (grounded.Open grounds) settled is sure from =
      let done =
      lack_done schema constraints query seen nodes formed tree budget asking lacks_value observed observing from.0.picks from.0.rows grounds.found is.lawful grounds.lacking settled.lack
      is.lacking_is is.doubt from.1 in
      settled_over grounds.found settled settled.lack from.0 refl is.lawful is.totals (done.silent ∙ lacks_value) done.holds done.searched done.fits done.from done.licensed
      (λ nested.
      let own = sure nested in
      (own.listed, lack_settled u observed budget from.0.picks grounds.found grounds.lacking settled.lack is.lacking_is own.lacking_surely own.found_some from.1))
      (λ may'. (
        can_give schema constraints query seen nodes budget asking observed observing is.some,
        may_give schema constraints query seen nodes budget asking observed grounds.found observing is.doubt,
      ))
      (lack_left schema constraints query seen nodes budget asking observed from.0.picks grounds.found grounds.lacking settled.lack observing is.lawful is.lacking_is from.1)
      (λ nested may'. surely_giving schema constraints query seen nodes budget asking observed grounds.found observing (sure nested).found_some)

-- whether rows were observed, by their number
pub observing_count : (schema : Schema) (constraints : List Constraint) (query : Query) (seen : Folded) (nodes : List CutNode) (asking : Asking schema constraints query seen) →
    IsObserving (setting_for schema constraints query seen nodes asking) (nat_lt 0 seen.count)
observing_count schema constraints query seen nodes asking = record {
  some = λ is. let more = ltb-true 0 seen.count is in omega (arith, ints, more, asking.comes_to.count);
  none = λ is. let none = ltb-false 0 seen.count is in asking.comes_to.count ∙ ap pos (omega (arith, none));
}
