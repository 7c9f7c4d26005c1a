-- Whether counts that were found give a value, and what an undecided lack leaves open.
use Rattle.std.proofs.Common.{◌≡◌, ℕ, ◌<◌, pos, ◌≤ℤ◌, ◌<ℤ◌, Bool, true, false, cond, inl, inr, List, [], ◌∷◌, map, get_or, All, Any, refl, sym, ap, subst, ◌∙◌, true≢false, arith}
use Rattle.std.specs.Prelude.{◌*ℤ◌}
use Rattle.std.proofs.lemmas.Int.{ints}
use Rattle.std.proofs.lemmas.List.{get_or-map}
use Rattle.pc_model.specs.declared.row.Row.{Row}
use Rattle.pc_model.specs.declared.schema.Schema.{Schema}
use Rattle.pc_model.specs.declared.constraint.Constraint.{Constraint}
use Rattle.pc_model.specs.declared.query.Query.{Query}
use Rattle.pc_model.specs.declared.query.Folded.{Folded}
use Rattle.pc_model.specs.declared.tree.CutNode.{CutNode}
use Rattle.pc_program_bound.specs.Sums.{nat_at, int_at}
use Rattle.pc_program_bound.specs.Allocation.{cells_of, worth}
use Rattle.pc_program_bound.proofs.CellPlaces.{no_class, cell_inside}
use Rattle.pc_program_bound.proofs.SumBelow.{sum_below_mono, sum_below-none}
use Rattle.pc_proof.specs.declared.answer.Lack.{Lack}
use Rattle.pc_proof.specs.declared.answer.Lack.TheVariants as lacks
use Rattle.pc_proof.specs.Setting.{Setting, cells, on_chosen, seen_count}
use Rattle.pc_proof.specs.Table.{one}
use Rattle.pc_branch_licences.specs.Pools.{AreLawful}
use Rattle.pc_agg_search.specs.declared.want.Want.TheVariants as wants
use Rattle.pc_agg_search.specs.Asked.{Asking, setting_for}
use Rattle.pc_agg_search.specs.Settings.{unseen}
use Rattle.pc_agg_search.specs.Wants.{want_for, most_chosen, fewest_chosen, IsFound, IsDoubt}
use Rattle.pc_agg.specs.declared.grounds.Lacking.{Lacking}
use Rattle.pc_agg.specs.declared.grounds.Lacking.TheVariants as lackings
use Rattle.pc_agg.specs.Extremes.{IsOpenLack, IsLackFrom}
use Rattle.pc_agg.specs.Grounds.{HasValues, IsLacking}
use Rattle.pc_agg.specs.Owed.{CanGive, IsGiving, MayGiveOne, LeavesLack}
use Rattle.pc_agg.proofs.Lacks.{IsObserving}
use Rattle.pc_agg.proofs.StandEnds.{left_open}

-- ---- lacks that differ

abbrev pub is_undecided : Lack → Bool
is_undecided lacks.Undecided = true
is_undecided lacks.Silent = false
is_undecided (lacks.Never by') = false
is_undecided (lacks.Sometimes without given) = false
is_undecided (lacks.Always by') = false

pub settled_lack : (lack : Lack) → is_undecided lack ≡ false → lack ≡ lacks.Undecided → ⊥
settled_lack lack settled same = true≢false (sym (ap is_undecided same) ∙ settled)

-- ---- chosen rows

one_some : (chosen : Bool) (n : ℕ) → pos 0 ≤ℤ (cond chosen (pos 1) (pos 0) *ℤ pos n)
one_some true n = omega (arith, ints)
one_some false n = omega (arith, ints)

pub worth_some : (s : Setting) (counts : List ℕ) → pos 0 ≤ℤ worth (most_chosen s) counts
worth_some s counts =
    let each = λ (i : ℕ) (h : i < cells_of (most_chosen s)).
    subst (λ g. pos 0 ≤ℤ (g *ℤ pos (nat_at counts i)))
    (sym (get_or-map (on_chosen one) (cells s) i no_class (pos 0) (cell_inside s.question.constraints (cells s) (map (on_chosen one) (cells s)) i h)))
    (one_some (get_or (cells s) i no_class).chosen (nat_at counts i)) in
    let none = sum_below-none (cells_of (most_chosen s)) (λ i. pos 0) (λ i h. refl) in
    let more = sum_below_mono (cells_of (most_chosen s)) (λ i. pos 0) (λ i. int_at (most_chosen s).gain i *ℤ pos (nat_at counts i)) each in
    omega (arith, ints, none, more)

any_of : {X : Type 0} (P Q : X → Type 0) (xs : List X) → ((x : X) → P x → Q x) → Any P xs → Any Q xs
any_of P Q xs so some = (some.0, some.1, some.2, some.3, so some.1 some.4)

module _ (schema : Schema) (constraints : List Constraint) (query : Query) (seen : Folded) (nodes : List CutNode) (budget : ℕ) (asking : Asking schema constraints query seen) where
  abbrev u : Setting
  u = unseen schema constraints query nodes

  abbrev s : Setting
  s = setting_for schema constraints query seen nodes asking

  gives_observed : (counts : List ℕ) → pos 0 <ℤ seen_count s.question → IsGiving s counts
  gives_observed counts some = omega (arith, ints, some, worth_some s counts)

  gives_chosen : (counts : List ℕ) → IsFound (most_chosen u) wants.Gaining counts → IsGiving s counts
  gives_chosen counts found = omega (arith, ints, found.1)

  found_gives : (observed : Bool) (found : List (List ℕ)) → IsObserving s observed → Any (IsFound (most_chosen u) (want_for observed)) found → Any (IsGiving s) found
  found_gives true found observing some = any_of _ (IsGiving s) found (λ counts is. gives_observed counts (observing.some refl)) some
  found_gives false found observing some = any_of _ (IsGiving s) found gives_chosen some

  pub surely_giving : (observed : Bool) (found : List (List ℕ)) → IsObserving s observed → Any (IsFound (most_chosen u) (want_for observed)) found → Any (IsGiving s) found
  surely_giving observed found observing some = found_gives observed found observing some

  pub may_give : (observed : Bool) (found : List (List ℕ)) → IsObserving s observed → IsDoubt (most_chosen u) (want_for observed) budget found → MayGiveOne s budget found
  may_give true [] observing doubt = inr (inl (observing.some refl, refl))
  may_give true (counts ∷ found) observing doubt = inl (0, counts, omega arith, refl, gives_observed counts (observing.some refl))
  may_give false found observing (inl some) = inl (found_gives false found observing some)
  may_give false found observing (inr left) = inr (inr (observing.none refl, left.0, left.1, left.2))

  pub can_give : (observed : Bool) → IsObserving s observed → HasValues u observed → CanGive s
  can_give true observing has = inl (observing.some refl)
  can_give false observing has = inr has

  module _ (found : List (List ℕ)) (lawful : All (AreLawful u) found) (none : seen_count s.question ≡ pos 0) where
    leaves : (lack : Lack) (picks : List Row) → IsDoubt (fewest_chosen u) wants.Without budget found → IsOpenLack u picks found lack → lack ≡ lacks.Undecided → LeavesLack s budget found
    leaves lack picks doubt is same = by (subst (IsOpenLack u picks found) same is)
      where
        by : IsOpenLack u picks found lacks.Undecided → LeavesLack s budget found
        by (inl away) =
            let left = left_open found (fewest_chosen u) wants.Without budget doubt away in (
              none,
              inl (
                λ place d inside few.
                    let own = lawful place d inside in
                    away place d inside (record { sized = own.sized; within = own.within; met = own.met }, few),
                left.0,
                left.1,
                left.2,
              ),
            )
        by (inr away) = (
          none,
          inr (λ place d inside gives.
              let own = lawful place d inside in
              away place d inside (record { sized = own.sized; within = own.within; met = own.met }, omega (arith, ints, gives, none))),
        )

  -- what is left of the lack that the code answers
  pub lack_left : (observed : Bool) (picks : List Row) (found : List (List ℕ)) (lacking : Lacking) (lack : Lack) → IsObserving s observed → All (AreLawful u) found → IsLacking u observed budget found lacking →
      IsLackFrom u picks found lacking lack → lack ≡ lacks.Undecided → LeavesLack s budget found
  lack_left observed picks found (lackings.Never by') lack observing lawful is from same = absurd (settled_lack (lacks.Never by') refl (sym from ∙ same))
  lack_left observed picks found lackings.Open lack observing lawful is from same = leaves found lawful (observing.none is.0) lack picks is.1 from same
