-- What a sink holds after a put of a text.
use Rattle.std.proofs.Common.{◌≡◌, ◌≤◌, ◌+◌, ℕ, ◌++◌, List, take, Option, Some, None, IfSome, ap, arith, refl}
use Rattle.pc_base.specs.declared.outside.Put.{Put}
use Rattle.pc_base.specs.declared.outside.Put.TheVariants.{All, Failed, Memory}
use Rattle.pc_base.specs.Puts.{Leaves}
use Rattle.pc_base.specs.Shelves.{IsPut, SinkState}
use Rattle.pc_files.specs.Writing.{IsUntouched, Writes, Writing}

written_from : (kept left : Option (List ℕ)) (text : List ℕ) → Leaves kept left text All → IfSome kept (λ before. left ≡ Some (before ++ text))
written_from None None text leaves = tt
written_from None (Some new) text leaves = absurd leaves
written_from (Some old) None text leaves = absurd leaves
written_from (Some old) (Some new) text leaves = ap Some leaves

front_from : (kept left : Option (List ℕ)) (text : List ℕ) → Leaves kept left text Failed → IfSome kept (λ before. (n : ℕ) × (left ≡ Some (before ++ take n text)))
front_from None None text leaves = tt
front_from None (Some new) text leaves = absurd leaves
front_from (Some old) None text leaves = absurd leaves
front_from (Some old) (Some new) text leaves = (leaves.0, ap Some leaves.1)

kept_from : (kept left : Option (List ℕ)) (text : List ℕ) → Leaves kept left text Memory → left ≡ kept
kept_from None None text leaves = refl
kept_from None (Some new) text leaves = absurd leaves
kept_from (Some old) None text leaves = absurd leaves
kept_from (Some old) (Some new) text leaves = ap Some leaves

pub writes : (before after : SinkState) (text : List ℕ) (put : Put) → IsPut before text put after → Writes (record { before = before; after = after }) text put
writes before after text All done = record { no_fault = done.cause; whole = written_from before.kept after.kept text done.leaves }
writes before after text Failed done = record { rose = done.cause; front = front_from before.kept after.kept text done.leaves }
writes before after text Memory done = record { nothing_put = kept_from before.kept after.kept text done.leaves; one_fault = done.one_fault }

-- where nothing was put
pub untouched : (writing : Writing) → writing.after ≡ writing.before → IsUntouched writing
untouched writing still =
    let same : writing.after.faults ≡ writing.before.faults = ap (λ (state : SinkState). state.faults) still in
    let no_less : writing.before.faults ≤ writing.after.faults = omega (arith, same) in
    let no_more : writing.after.faults ≤ writing.before.faults + 1 = omega (arith, same) in
    record { nothing_put = ap (λ (state : SinkState). state.kept) still; one_fault = record { no_less = no_less; no_more = no_more } }
