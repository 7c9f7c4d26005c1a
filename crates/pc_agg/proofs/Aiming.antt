-- The aims of both ends, and what their searches found.
use Rattle.std.proofs.Common.{◌≡◌, ◌==◌, ℕ, ◌<◌, ℤ, true, false, true≢false, List, [], ◌∷◌, ◌++◌, length, map, replicate, All, Contains, Option, Some, None, refl, sym, ap, subst, ◌∙◌, arith, eqb-true}
use Rattle.std.specs.Prelude.{IfSome, slice_index_or}
use Rattle.std.proofs.lemmas.List.{length-map}
use Rattle.std.proofs.lemmas.List.Elements.{All-append, All-cons, All-nil, Contains-append_left, Contains-append_right}
use Rattle.std.proofs.lemmas.Slice.Zip.{AllZip-long}
use Rattle.pc_model.specs.declared.schema.Schema.{Schema}
use Rattle.pc_model.specs.declared.constraint.Constraint.{Constraint}
use Rattle.pc_model.specs.declared.tree.CutNode.{CutNode}
use Rattle.pc_model.specs.declared.query.Agg.{Agg}
use Rattle.pc_model.specs.declared.query.Folded.{Folded}
use Rattle.pc_model.specs.declared.query.Query.{Query}
use Rattle.pc_model.specs.Accepted.{AreConstraints}
use Rattle.pc_model.specs.Cells.{Class}
use Rattle.pc_program_bound.specs.Allocation.{IsProgram, IsAllocation, cells_of}
use Rattle.pc_program_bound.specs.CellPrograms.{program_with}
use Rattle.pc_branch.specs.Ends.{HasSmallGains}
use Rattle.pc_proof.specs.declared.answer.Answer.{Answer}
use Rattle.pc_proof.specs.declared.answer.End.{End}
use Rattle.pc_proof.specs.declared.answer.Relation.{Relation}
use Rattle.pc_proof.specs.declared.answer.Relation.TheVariants.{Possible, Impossible, Undecided}
use Rattle.pc_proof.specs.Setting.{Setting, cells, program_for}
use Rattle.pc_branch_licences.specs.Pools.{AreLawful}
use Rattle.pc_agg.specs.declared.aim.Aim.{Aim}
use Rattle.pc_agg_search.specs.declared.extreme.Extreme.{Extreme}
use Rattle.pc_agg_search.specs.declared.extreme.Extreme.TheVariants.{Low, High}
use Rattle.pc_agg_search.specs.Limits.{found_of}
use Rattle.pc_agg.specs.Answered.{answer_over, CanEnd, IsAnswer, IsEnd}
use Rattle.pc_agg_search.specs.Ends.{gain_towards, IsPick, program_towards}
use Rattle.pc_agg.specs.Marks.{IsAim, IsAmong}
use Rattle.pc_agg_search.specs.Settings.{unseen}
use Rattle.pc_agg_search.proofs.ProgramEnds.{is_program}
use Rattle.pc_agg.proofs.Totals.{lawful_found}
use Rattle.pc_agg_search.proofs.ListedPrograms.{map_alike}

-- ---- what two searches found

lawful_of : (u : Setting) (found : Option (List ℕ)) → IfSome found (AreLawful u) → All (AreLawful u) (found_of found)
lawful_of u None lawful = All-nil (AreLawful u)
lawful_of u (Some counts) lawful = All-cons (AreLawful u) counts [] lawful (All-nil (AreLawful u))

among_left : (own other : Option (List ℕ)) → IfSome own (Contains (found_of own ++ found_of other))
among_left None other = tt
among_left (Some counts) other = Contains-append_left (counts ∷ []) (found_of other) counts (0, omega arith, refl)

among_right : (other own : Option (List ℕ)) → IfSome own (Contains (found_of other ++ found_of own))
among_right other None = tt
among_right other (Some counts) = Contains-append_right (found_of other) (counts ∷ []) counts (0, omega arith, refl)

-- where nothing was found, neither search found anything
among_none : (first second : Option (List ℕ)) (found : List (List ℕ)) → found_of first ++ found_of second ≡ [] → IfSome first (Contains found) × IfSome second (Contains found)
among_none None None found none = (tt, tt)
among_none None (Some counts) found none = absurd (omega (arith, ap length none))
among_none (Some counts) second found none = absurd (omega (arith, ap length none))

module _ (schema : Schema) (constraints : List Constraint) (query : Query) (nodes : List CutNode) (limited : AreConstraints schema constraints) where
  abbrev u : Setting
  u = unseen schema constraints query nodes

  pub towards_program : (agg : Agg) (extreme : Extreme) → IsProgram (program_towards u agg extreme)
  towards_program agg extreme = is_program constraints (cells u) (map (gain_towards u agg extreme) (cells u)) schema limited (length-map (cells u) (gain_towards u agg extreme))

  pub even_program : (gain : ℤ) → IsProgram (program_for u (λ _. gain))
  even_program gain = is_program constraints (cells u) (map (λ (class : Class). gain) (cells u)) schema limited (length-map (cells u) (λ (class : Class). gain))

  -- the program of one gain for all cells
  pub even_is : (gain : ℤ) (classes : List Class) (gains : List ℤ) (count : ℕ) → classes ≡ cells u → count ≡ length classes → gains ≡ replicate count gain → program_with constraints (cells u) gains ≡ program_for u (λ _. gain)
  even_is gain classes gains count same long is =
      ap (program_with constraints (cells u)) (is ∙ ap (λ n. replicate n gain) (long ∙ ap length same) ∙ map_alike gain (cells u))

  module _ (agg : Agg) (budget : ℕ) (low_side high_side : Extreme) (low high : Aim) (is_low : IsAim u agg budget low_side low) (is_high : IsAim u agg budget high_side high) where
    abbrev both : List (List ℕ)
    both = found_of low.limit.found ++ found_of high.limit.found

    pub lawful_both : All (AreLawful u) both
    lawful_both =
        All-append (AreLawful u) (found_of low.limit.found) (found_of high.limit.found)
        (lawful_of u low.limit.found (lawful_found u (gain_towards u agg low_side) low.limit.found is_low.limit.allowed))
        (lawful_of u high.limit.found (lawful_found u (gain_towards u agg high_side) high.limit.found is_high.limit.allowed))

    pub low_among : IsAmong both low.limit
    low_among = among_left low.limit.found high.limit.found

    pub high_among : IsAmong both high.limit
    high_among = among_right low.limit.found high.limit.found

    pub none_among_both : (found : List (List ℕ)) → both ≡ [] → IsAmong found low.limit × IsAmong found high.limit
    none_among_both found none = among_none low.limit.found high.limit.found found none

  rows_of_aim : (agg : Agg) (budget : ℕ) (extreme : Extreme) (aim : Aim) → IsAim u agg budget extreme aim → length aim.picks ≡ length (cells u)
  rows_of_aim agg budget extreme aim is = AllZip-long (IsPick u agg extreme) (cells u) aim.picks is.picked

  pub can_end : (agg : Agg) (budget : ℕ) (extreme : Extreme) (aim : Aim) (found : List (List ℕ)) → IsAim u agg budget extreme aim → All (AreLawful u) found → CanEnd found aim
  can_end agg budget extreme aim found is lawful = record {
    program = subst IsProgram same (towards_program agg extreme);
    gains = subst HasSmallGains same is.limit.gains;
    allowed = subst (λ p. All (IsAllocation p p.floor p.cap) found) same allowed_all;
    picked = rows_of_aim agg budget extreme aim is ∙ sym (length-map (cells u) (λ (class : Class). class.mask)) ∙ ap cells_of same;
    small = is.limit.small;
  }
    where
      same : program_towards u agg extreme ≡ aim.limit.program
      same = sym is.limit.program

      allowed_all : All (IsAllocation (program_towards u agg extreme) (program_towards u agg extreme).floor (program_towards u agg extreme).cap) found
      allowed_all place d inside = let own = lawful place d inside in record { sized = own.sized; within = own.within; met = own.met }

  -- a row of each cell for the first counts that were found
  pub sized_first : (agg : Agg) (budget : ℕ) (extreme : Extreme) (aim : Aim) (found : List (List ℕ)) → IsAim u agg budget extreme aim → All (AreLawful u) found → 0 < length found → length aim.picks ≡ length (slice_index_or found 0 [])
  sized_first agg budget extreme aim found is lawful some =
      rows_of_aim agg budget extreme aim is ∙ sym ((lawful 0 [] some).sized ∙ length-map (cells u) (λ (class : Class). class.mask))

-- ---- whether something was found

pub some_of : (found : List (List ℕ)) → (length found == 0) ≡ false → 0 < length found
some_of [] test = absurd (true≢false test)
some_of (counts ∷ more) test = omega arith

pub none_of : (found joined : List (List ℕ)) → found ≡ joined → (length found == 0) ≡ true → joined ≡ []
none_of [] joined is test = sym is
none_of (counts ∷ more) joined is test = let short = eqb-true (length (counts ∷ more)) 0 test in absurd (omega (arith, short))

-- ---- the answer over both ends

pub answer_ends : (seen : Folded) (agg : Agg) (relation : Relation) (found : List (List ℕ)) (low high : Aim) (low_end high_end : End) (answer : Answer) → IsEnd seen agg Low found low low_end → IsEnd seen agg High found high high_end →
    answer ≡ answer_over relation low_end high_end → IsAnswer seen agg relation found low high answer
answer_ends seen agg (Impossible why) found low high low_end high_end answer low_is high_is is = is
answer_ends seen agg (Possible runs) found low high low_end high_end answer low_is high_is is = record { low_end = low_end; high_end = high_end; low_is = low_is; high_is = high_is; answer_is = is }
answer_ends seen agg Undecided found low high low_end high_end answer low_is high_is is = record { low_end = low_end; high_end = high_end; low_is = low_is; high_is = high_is; answer_is = is }
