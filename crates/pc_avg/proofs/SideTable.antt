-- What the table of proofs and licences asks of an end of an average, high or low, from what a side says.
use Rattle.std.proofs.Common.{◌≡◌, ℕ, ◌≤◌, ◌^◌, ℤ, pos, neg_ℤ, nat_abs, ◌+ℤ◌, ◌-ℤ◌, ◌*ℤ◌, ◌≤ℤ◌, ◌<ℤ◌, ◌⊎◌, inl, inr, List, Option, Some, None, MatchOption, IsSomeAnd, refl, sym, ap, ap₂, subst, ◌∙◌, arith}
use Rattle.std.specs.Prelude.{IfSome, ⊤}
use Rattle.std.proofs.lemmas.Int.{ints}
use Rattle.pc_num.specs.declared.fraction.Frac.{Frac}
use Rattle.pc_model.specs.declared.row.Run.{Run}
use Rattle.pc_model.specs.declared.query.Agg.{Agg}
use Rattle.pc_model.specs.declared.query.Agg.TheVariants.{Avg}
use Rattle.pc_model.specs.declared.tree.Tree.{Tree}
use Rattle.pc_model.specs.Aggregate.{Ratio, whole, IsAtMost, IsSame}
use Rattle.pc_model.specs.Right.{IsAttained}
use Rattle.pc_simplex_tableau.proofs.Products.{neg-mul}
use Rattle.pc_branch.specs.Licence.{Splits, leaf, split, IsLicence}
use Rattle.pc_program_bound.specs.declared.program.Program.{Program}
use Rattle.pc_program_bound.specs.SplitTrees.{less_caps, more_floors}
use Rattle.pc_proof.specs.declared.answer.Answer.{Answer}
use Rattle.pc_proof.specs.declared.answer.End.{End}
use Rattle.pc_proof.specs.declared.answer.Proof.TheVariants as proofs
use Rattle.pc_proof.specs.Setting.{Setting}
use Rattle.pc_proof.specs.Table.{ratio_of, bound_for, left_over, seen_above, fewest, raised_by, lowered_by, high_program, low_program, IsSound, ShowsHigh, ShowsLow}
use Rattle.pc_proof.specs.Unbroken.{HoldsMark, MayShow}
use Rattle.pc_branch_licences.specs.Licensed.{IsSpent, MayGive}
use Rattle.pc_branch_licences.specs.Wanted.{nothing, EndsInNone}
use Rattle.pc_agg_search.specs.declared.extreme.Extreme.{Extreme}
use Rattle.pc_agg_search.specs.declared.extreme.Extreme.TheVariants.{Low, High}
use Rattle.pc_agg_search.specs.Ends.{signed, HoldsEnd}
use Rattle.pc_agg.proofs.Ending.{ShowsEnd, LicensedEnd, SearchedEnd}
use Rattle.pc_agg.proofs.Ending as ending
use Rattle.pc_avg_ratio.specs.Highest.{IsTreeWithin}
use Rattle.pc_avg_ratio.specs.Highest as highest
use Rattle.pc_avg.proofs.SideNumbers.{outermost_number}
use Rattle.pc_avg.proofs.SidePrograms.{turned_ratio, seen_over}
use Rattle.pc_avg.proofs.SideRatios.{same_turns, most_turns, shows_within}

abbrev pub program_end : Extreme → Setting → Ratio → Program
program_end extreme s v = ending.program_at extreme s Avg v

-- what is left over at a ratio, spread over the fewest rows
abbrev pub beyond_by : Extreme → Setting → Ratio → Tree → Ratio
beyond_by High s r t = raised_by s r t
beyond_by Low s r t = lowered_by s r t

pub some_is : (o : Option ℤ) (n : ℤ) (P : ℤ → Type 0) → o ≡ Some n → P n → IsSomeAnd o P
some_is o n P is holds = subst (λ (x : Option ℤ). IsSomeAnd x P) (sym is) holds

pub if_match : (k : Option ℤ) (P : ℤ → Type 0) → MatchOption k ⊤ P → IfSome k P
if_match None P holds = tt
if_match (Some x) P holds = holds

pub holds_as : (extreme : Extreme) (s : Setting) (end : End) → s.question.query.agg ≡ Avg → HoldsMark s end.value end.mark → MayShow end.mark end.proof → ShowsEnd extreme s Avg (ratio_of end.value) end.proof → HoldsEnd s extreme end
holds_as High s end is marked kind shows = record { marked = marked; shown = subst (λ (agg : Agg). ShowsHigh s agg (ratio_of end.value) end.proof) (sym is) shows; kind = kind }
holds_as Low s end is marked kind shows = record { marked = marked; shown = subst (λ (agg : Agg). ShowsLow s agg (ratio_of end.value) end.proof) (sym is) shows; kind = kind }

-- ---- by a tree at the value

pub shows_tree : (extreme : Extreme) (s : Setting) (budget : ℕ) (tree : Tree) (v : Ratio) (most : ℤ) → IsTreeWithin (program_end extreme s v) budget tree most → (seen_over extreme s.question v +ℤ most) ≤ℤ pos 0 →
    nat_abs (seen_over extreme s.question v) ≤ 10 ^ 37 → ShowsEnd extreme s Avg v (proofs.Tree tree)
shows_tree High s budget tree v most is few small =
    shows_within (high_program s Avg v) budget tree (seen_above s.question v) most (λ k. (seen_above s.question v +ℤ k) ≤ℤ pos 0) is few small (λ x pass. pass)
shows_tree Low s budget tree v most is few small =
    shows_within (low_program s Avg v) budget tree (neg_ℤ (seen_above s.question v)) most (λ k. (k -ℤ seen_above s.question v) ≤ℤ pos 0) is few small (λ x pass. omega (arith, ints, pass))

pub tree_searched : (extreme : Extreme) (s : Setting) (budget : ℕ) (tree : Tree) (v : Ratio) (most : ℤ) → IsTreeWithin (program_end extreme s v) budget tree most → SearchedEnd extreme s budget Avg v (proofs.Tree tree)
tree_searched High s budget tree v most is = record { preorder = is.preorder; search = is.search }
tree_searched Low s budget tree v most is = record { preorder = is.preorder; search = is.search }

-- ---- by what is left over at a ratio

pub at_searched : (extreme : Extreme) (s : Setting) (budget : ℕ) (tree : Tree) (v : Ratio) (r : Frac) (most : ℤ) → IsTreeWithin (program_end extreme s (ratio_of r)) budget tree most → SearchedEnd extreme s budget Avg v (proofs.At r tree)
at_searched High s budget tree v r most is = record { preorder = is.preorder; search = is.search }
at_searched Low s budget tree v r most is = record { preorder = is.preorder; search = is.search }

pub beyond_is : (extreme : Extreme) (s : Setting) (r : Ratio) (tree : Tree) (d left : ℤ) → fewest s.question ≡ d →
    left_over (seen_over extreme s.question (turned_ratio extreme r)) (bound_for (program_end extreme s (turned_ratio extreme r)) tree) ≡ left →
    beyond_by extreme s (turned_ratio extreme r) tree ≡ turned_ratio extreme (record { num = r.num *ℤ d +ℤ left; den = r.den *ℤ d })
beyond_is High s r tree d left fewest_is left_is = ap₂ (λ (n e : ℤ). record { num = r.num *ℤ n +ℤ e; den = r.den *ℤ n }) fewest_is left_is
beyond_is Low s r tree d left fewest_is left_is =
    ap₂ (λ (n e : ℤ). record { num = neg_ℤ r.num *ℤ n -ℤ e; den = r.den *ℤ n }) fewest_is left_is
    ∙ ap (λ (n : ℤ). record { num = n; den = r.den *ℤ d }) (omega (arith, ints, neg-mul r.num d))

same_least : (v a : Ratio) → IsSame v a → IsAtMost a v
same_least v a same = omega (arith, ints, same)

same_greatest : (v a : Ratio) → IsSame v a → IsAtMost v a
same_greatest v a same = omega (arith, ints, same)

pub shows_at : (extreme : Extreme) (s : Setting) (r : Frac) (tree : Tree) (v a : Ratio) (key : ℤ) → IsSound (program_end extreme s (ratio_of r)) tree → outermost_number extreme s ≡ Some (signed extreme key) →
    beyond_by extreme s (ratio_of r) tree ≡ turned_ratio extreme a → highest.IsLesser v a (whole key) → ShowsEnd extreme s Avg (turned_ratio extreme v) (proofs.At r tree)
shows_at High s r tree v a key sound number raised (inl by') =
    (sound, some_is (outermost_number High s) key (λ g. IsAtMost (raised_by s (ratio_of r) tree) v ⊎ IsAtMost (whole g) v) number (inl (subst (λ (x : Ratio). IsAtMost x v) (sym raised) (same_least v a by'.0))))
shows_at High s r tree v a key sound number raised (inr by') =
    (sound, some_is (outermost_number High s) key (λ g. IsAtMost (raised_by s (ratio_of r) tree) v ⊎ IsAtMost (whole g) v) number (inr (same_least v (whole key) by'.0)))
shows_at Low s r tree v a key sound number raised (inl by') = (
  sound,
  some_is (outermost_number Low s) (neg_ℤ key) (λ m. IsAtMost (turned_ratio Low v) (lowered_by s (ratio_of r) tree) ⊎ IsAtMost (turned_ratio Low v) (whole m)) number
      (inl (subst (λ (x : Ratio). IsAtMost (turned_ratio Low v) x) (sym raised) (same_greatest (turned_ratio Low v) (turned_ratio Low a) (same_turns Low v a by'.0)))),
)
shows_at Low s r tree v a key sound number raised (inr by') = (
  sound,
  some_is (outermost_number Low s) (neg_ℤ key) (λ m. IsAtMost (turned_ratio Low v) (lowered_by s (ratio_of r) tree) ⊎ IsAtMost (turned_ratio Low v) (whole m)) number
      (inr (same_greatest (turned_ratio Low v) (whole (neg_ℤ key)) (same_turns Low v (whole key) by'.0))),
)

-- the lesser of two is the greater of both turned
lesser_turned : (v a b : Ratio) → highest.IsLesser v a b →
    (IsSame (turned_ratio Low v) (turned_ratio Low a) × IsAtMost (turned_ratio Low b) (turned_ratio Low a))
    ⊎ (IsSame (turned_ratio Low v) (turned_ratio Low b) × IsAtMost (turned_ratio Low a) (turned_ratio Low b))
lesser_turned v a b (inl by') = inl (same_turns Low v a by'.0, most_turns a b by'.1)
lesser_turned v a b (inr by') = inr (same_turns Low v b by'.0, most_turns b a by'.1)

pub none_ends : (p : Program) (floors caps : List ℕ) (tree : Splits) → EndsInNone p nothing floors caps tree
none_ends p floors caps leaf = λ point mult relaxed whole has. has
none_ends p floors caps (split cell at less more) = (none_ends p floors (less_caps caps cell at) less, none_ends p (more_floors floors cell at) caps more)

pub licence_spent : (s : Setting) (budget : ℕ) (answer : Answer) (p : Program) (most : ℤ) (tree : Splits) → IsLicence p budget most tree → IsSpent s budget answer p most nothing
licence_spent s budget answer p most tree licence = record {
  left = record { tree = tree; licence = licence; leaves = none_ends p p.floor p.cap tree };
  found = λ place d inside allowed has. has;
}

pub licensed_at : (extreme : Extreme) (s : Setting) (budget : ℕ) (answer : Answer) (r : Frac) (tree : Tree) (v a : Ratio) (key most : ℤ) (runs : List Run) →
    outermost_number extreme s ≡ Some (signed extreme key) → beyond_by extreme s (ratio_of r) tree ≡ turned_ratio extreme a → highest.IsLesser v a (whole key) →
    IsSpent s budget answer (program_end extreme s (ratio_of r)) most nothing → IsAttained s.question (ratio_of r) runs → IfSome (bound_for (program_end extreme s (ratio_of r)) tree) (λ k. k ≤ℤ most) →
    pos 0 <ℤ left_over (seen_over extreme s.question (ratio_of r)) (bound_for (program_end extreme s (ratio_of r)) tree) → LicensedEnd extreme s budget answer Avg (turned_ratio extreme v) (proofs.At r tree)
licensed_at High s budget answer r tree v a key most runs number raised lesser spent attained within over = record {
  most = most;
  spent = spent;
  runs = runs;
  attained = attained;
  within = within;
  over = over;
  value = some_is (outermost_number High s) key (λ g. highest.IsLesser v (raised_by s (ratio_of r) tree) (whole g)) number
      (subst (λ (x : Ratio). highest.IsLesser v x (whole key)) (sym raised) lesser);
}
licensed_at Low s budget answer r tree v a key most runs number raised lesser spent attained within over = record {
  most = most;
  spent = spent;
  runs = runs;
  attained = attained;
  within = within;
  over = over;
  value = some_is (outermost_number Low s) (neg_ℤ key)
      (λ m. (IsSame (turned_ratio Low v) (lowered_by s (ratio_of r) tree) × IsAtMost (whole m) (lowered_by s (ratio_of r) tree))
      ⊎ (IsSame (turned_ratio Low v) (whole m) × IsAtMost (lowered_by s (ratio_of r) tree) (whole m))) number
      (subst (λ (x : Ratio). (IsSame (turned_ratio Low v) x × IsAtMost (whole (neg_ℤ key)) x) ⊎ (IsSame (turned_ratio Low v) (whole (neg_ℤ key)) × IsAtMost x (whole (neg_ℤ key)))) (sym raised)
      (lesser_turned v a (whole key) lesser));
}

-- ---- by values

whole_most : (n : ℤ) → IsAtMost (whole n) (whole n)
whole_most n = omega (arith, ints)

pub shows_values : (extreme : Extreme) (s : Setting) (key : ℤ) → outermost_number extreme s ≡ Some (signed extreme key) → ShowsEnd extreme s Avg (whole (signed extreme key)) proofs.Values
shows_values High s key number = some_is (outermost_number High s) key (λ g. IsAtMost (whole g) (whole key)) number (whole_most key)
shows_values Low s key number = some_is (outermost_number Low s) (neg_ℤ key) (λ m. IsAtMost (whole (neg_ℤ key)) (whole m)) number (whole_most (neg_ℤ key))

pub values_searched : (extreme : Extreme) (s : Setting) (budget : ℕ) (v : Ratio) → SearchedEnd extreme s budget Avg v proofs.Values
values_searched High s budget v = tt
values_searched Low s budget v = tt

pub licensed_values : (extreme : Extreme) (s : Setting) (budget : ℕ) (answer : Answer) (key : ℤ) → outermost_number extreme s ≡ Some (signed extreme key) → MayGive s budget answer →
    LicensedEnd extreme s budget answer Avg (whole (signed extreme key)) proofs.Values
licensed_values High s budget answer key number may = (some_is (outermost_number High s) key (λ g. IsSame (whole key) (whole g)) number refl, may)
licensed_values Low s budget answer key number may = (some_is (outermost_number Low s) (neg_ℤ key) (λ m. IsSame (whole (neg_ℤ key)) (whole m)) number refl, may)
