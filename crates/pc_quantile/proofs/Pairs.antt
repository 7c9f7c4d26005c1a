-- Both ends of a quantile, over what the searches of both found.
use Rattle.std.proofs.Common.{◌≡◌, ℕ, ◌≤◌, ℤ, pos, Bool, inl, inr, List, length, ◌++◌, All, Any, sym, ap, subst, ◌∙◌}
use Rattle.std.specs.Prelude.{nat_abs}
use Rattle.std.proofs.lemmas.List.{append_assoc, length-map}
use Rattle.std.proofs.lemmas.List.Elements.{All-append}
use Rattle.std.proofs.lemmas.Slice.Zip.{AllZip-long}
use Rattle.pc_num.specs.Scaled.{greatest_size}
use Rattle.pc_model.specs.declared.row.Row.{Row}
use Rattle.pc_model.specs.Cells.{Class, IsRowOf}
use Rattle.pc_program_bound.specs.declared.program.Program.{Program}
use Rattle.pc_program_bound.specs.Allocation.{cells_of}
use Rattle.pc_proof.specs.Setting.{Setting, cells}
use Rattle.pc_branch_licences.specs.Pools.{AreLawful}
use Rattle.pc_agg.specs.Settling.{AreRowsOfCells}
use Rattle.pc_agg.proofs.Lacks.{any_grown, doubt_grown}
use Rattle.pc_agg_search.specs.declared.extreme.Extreme.{Extreme}
use Rattle.pc_agg_search.specs.declared.extreme.Extreme.TheVariants.{Low, High}
use Rattle.pc_agg_search.specs.Keys.{IsAtEnd}
use Rattle.pc_agg_search.specs.Wants.{IsDoubt, IsFound, IsMet, most_chosen, want_for}
use Rattle.pc_lang.specs.declared.quantile.Quantile.{Quantile}
use Rattle.pc_quantile.specs.declared.bounds.Pair.{Pair}
use Rattle.pc_quantile.specs.declared.stand.Stand.{Stand}
use Rattle.pc_quantile.specs.declared.stand.Stood.{Stood}
use Rattle.pc_quantile.specs.declared.stand.Stood.TheVariants as stoods
use Rattle.pc_quantile.specs.Answered.{AreStands, CanEnd, IsPair, IsPairSurely, pair_at}
use Rattle.pc_quantile.specs.Climbing.{AreWanted, IsStand, IsStood, IsStoodAt, IsStoodSurely}

-- ---- a stand, as more is found

stand_grown : (u : Setting) (budget : ℕ) (seen : List ℤ) (extreme : Extreme) (asked : Quantile) (found more : List (List ℕ)) (stand : Stand) → IsStand u budget seen extreme asked found stand →
    IsStand u budget seen extreme asked (found ++ more) stand
stand_grown u budget seen extreme asked found more stand is = record {
  rungs = is.rungs;
  are_rungs = is.are_rungs;
  place = is.place;
  inside = is.inside;
  key_is = is.key_is;
  held = is.held;
  wanted = is.wanted;
  doubt = doubt_grown stand.program stand.want budget found more is.doubt;
  program = is.program;
  small = is.small;
  picked = is.picked;
}

-- ---- both ends

module _ (u : Setting) (budget : ℕ) (seen : List ℤ) (asked : Quantile) (before : List (List ℕ)) (low : Stand) (first : List (List ℕ)) (low_at : IsStoodAt u budget seen Low asked before low first) where
  pub lawful_first : All (AreLawful u) before → All (AreLawful u) first
  lawful_first lawful = subst (All (AreLawful u)) (sym low_at.grown) (All-append (AreLawful u) before low_at.more lawful low_at.lawful)

  pub doubt_first : (observed : Bool) → IsDoubt (most_chosen u) (want_for observed) budget before → IsDoubt (most_chosen u) (want_for observed) budget first
  doubt_first observed doubt = subst (IsDoubt (most_chosen u) (want_for observed) budget) (sym low_at.grown) (doubt_grown (most_chosen u) (want_for observed) budget before low_at.more doubt)

  pub chosen_first : (observed : Bool) → Any (IsFound (most_chosen u) (want_for observed)) before → Any (IsFound (most_chosen u) (want_for observed)) first
  chosen_first observed some =
      subst (Any (IsFound (most_chosen u) (want_for observed))) (sym low_at.grown) (any_grown (IsFound (most_chosen u) (want_for observed)) before low_at.more some)

  module _ (high : Stand) (found : List (List ℕ)) (high_at : IsStoodAt u budget seen High asked first high found) where
    stands_from : AreStands u budget seen asked before low high found
    stands_from = record {
      more = low_at.more ++ high_at.more;
      grown = high_at.grown ∙ ap (λ l. l ++ high_at.more) low_at.grown ∙ append_assoc before low_at.more high_at.more;
      lawful = All-append (AreLawful u) low_at.more high_at.more low_at.lawful high_at.lawful;
      low_stands = subst (λ l. IsStand u budget seen Low asked l low) (sym high_at.grown) (stand_grown u budget seen Low asked first high_at.more low low_at.stand_is);
      high_stands = high_at.stand_is;
    }

    low_surely : Any (IsFound low.program low.want) first → Any (IsFound low.program low.want) found
    low_surely some = subst (Any (IsFound low.program low.want)) (sym high_at.grown) (any_grown (IsFound low.program low.want) first high_at.more some)

  pub pair_from : (stood : Stood) (pair : Pair) → IsStood u budget seen High asked first stood → pair ≡ pair_at low stood → IsPair u budget seen asked before pair
  pair_from (stoods.At on) pair high_at is = subst (IsPair u budget seen asked before) (sym is) (stands_from on.stand on.found high_at)
  pair_from stoods.Empty pair void is = subst (IsPair u budget seen asked before) (sym is) void

  pub pair_surely : (stood : Stood) (pair : Pair) → IsStood u budget seen High asked first stood → pair ≡ pair_at low stood → Any (IsFound low.program low.want) first → IsStoodSurely stood → IsPairSurely pair
  pair_surely (stoods.At on) pair high_at is some surely = subst IsPairSurely (sym is) (low_surely on.stand on.found high_at some, surely)
  pair_surely stoods.Empty pair void is some surely = subst IsPairSurely (sym is) tt

-- ---- what the ends hand to the answer

-- lawful counts are as many as rows of the cells
pub picks_sized : (u : Setting) (picks : List Row) (found : List (List ℕ)) → AreRowsOfCells u picks → All (AreLawful u) found → All (λ counts. length picks ≡ length counts) found
picks_sized u picks found rows lawful place d inside =
    AllZip-long (IsRowOf u.question.schema u.question.constraints u.question.query.chosen) (cells u) picks rows ∙ sym (length-map (cells u) (λ (class : Class). class.mask)) ∙ sym (lawful place d inside).sized

module _ (u : Setting) (budget : ℕ) (seen : List ℤ) (asked : Quantile) (before : List (List ℕ)) (low high : Stand) (found : List (List ℕ)) (stands : AreStands u budget seen asked before low high found)
    (own : All (AreLawful u) before) where
  pub lawful_both : All (AreLawful u) found
  lawful_both = subst (All (AreLawful u)) (sym stands.grown) (All-append (AreLawful u) before stands.more own stands.lawful)

  -- the program of a stand has the masks and the frequencies of all others
  can_end : (extreme : Extreme) (stand : Stand) → IsStand u budget seen extreme asked found stand → CanEnd u found stand
  can_end extreme stand is = (
    record {
      program = is.program;
      gains = is.small;
      met = met_by is.wanted;
      picked = AllZip-long (IsAtEnd u extreme) (cells u) stand.picks is.picked ∙ sym (sized_by is.wanted);
      small = subst (λ key. nat_abs key ≤ greatest_size) (sym is.key_is) (is.are_rungs.small is.place (pos 0) is.inside);
    },
    AllZip-long (IsAtEnd u extreme) (cells u) stand.picks is.picked,
  )
    where
      IsMetBy : Program → Type 0
      IsMetBy p = All (IsMet p) found

      met_by : AreWanted u seen extreme asked is.rungs is.place stand.program stand.want → All (IsMet stand.program) found
      met_by (inl after) = subst IsMetBy (sym after.1) (λ place d inside. let counts = lawful_both place d inside in record { sized = counts.sized; met = counts.met })
      met_by (inr last) = subst IsMetBy (sym last.1) (λ place d inside. let counts = lawful_both place d inside in record { sized = counts.sized; met = counts.met })

      sized_by : AreWanted u seen extreme asked is.rungs is.place stand.program stand.want → cells_of stand.program ≡ length (cells u)
      sized_by (inl after) = ap cells_of after.1 ∙ length-map (cells u) (λ (class : Class). class.mask)
      sized_by (inr last) = ap cells_of last.1 ∙ length-map (cells u) (λ (class : Class). class.mask)

  pub can_low : CanEnd u found low
  can_low = can_end Low low stands.low_stands

  pub can_high : CanEnd u found high
  can_high = can_end High high stands.high_stands
