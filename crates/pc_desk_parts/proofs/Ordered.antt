-- A sort by how much parts add.
use Rattle.std.proofs.Common.{◌≡◌, List, ap, Bor, Ordering}
use denote.Param.Members.{Mut}
use Rattle.std.specs.Prelude.{IsPermutation}
use Rattle.std.specs.List.Sorted.{IsSortedByClosure, IsStableByClosure}
use Rattle.std.specs.Ordering.{is_lt, nat_cmp}
use Rattle.std.proofs.lemmas.Fn.{always_returns_same}
use Rattle.std.proofs.lemmas.List.Sorted.{IsStrictWeakOrder-flip, ranks_by}
use Rattle.std.specs.Cmp.{IsStrictWeakOrder, nat_cmp_total}
use Rattle.std.specs.Fn.{Called}
use Rattle.pc_desk_parts.specs.declared.part.Part.{Part}
use Rattle.pc_desk_parts.specs.Ends.{size_of}
use Rattle.pc_desk_parts.specs.Parts.{AreOrdered, adds_more}

more_is_order : IsStrictWeakOrder adds_more
more_is_order = IsStrictWeakOrder-flip (λ (a b : Part). is_lt (nat_cmp (size_of a.adds) (size_of b.adds))) (ranks_by nat_cmp_total (λ (part : Part). size_of part.adds))

-- where each call compares what the second part adds with what the first adds
pub compared : {F : Type 0} (g : Mut F (Bor Part × (Bor Part × Unit {0})) Ordering) (f : F) (parts ordered : List Part)
    → IsPermutation parts ordered → IsSortedByClosure g f ordered → IsStableByClosure g f parts ordered
    → ((a : Bor Part × (Bor Part × Unit {0})) (r : Ordering) (f' : F) → Called g f a r f' → (r ≡ nat_cmp (size_of a.1.0.now.adds) (size_of a.0.now.adds)) × (f' ≡ f))
    → AreOrdered parts ordered
compared g f parts ordered same sorted stable calls =
    let compares = always_returns_same g (λ a r. is_lt r ≡ adds_more a.0.now a.1.0.now) f (λ a r f' k. (ap is_lt (calls a r f' k).0, (calls a r f' k).1)) in
    record {
      same = same;
      falling = sorted adds_more more_is_order compares;
      stable = stable adds_more more_is_order compares;
    }
