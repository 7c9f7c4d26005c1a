-- What a writer took while a piece is written bit by bit.
use Rattle.std.proofs.Common.{arith, ◌≡◌, ℕ, List, [], ◌∷◌, ◌++◌, length, take, drop, Option, Some, None, is_some, true≢false, refl, sym, ap, subst, ◌∙◌, append_assoc, append-nil, take-append-drop, ◌-◌, length-drop}
use Rattle.std.proofs.Math.Seq.{take-append_seam}
use Rattle.std.proofs.lemmas.List.{take_all}
use Rattle.std.proofs.KnownBytes.{Appends-nil, Appends-trans, Appends-kept}
use Rattle.std.specs.Io.KnownBytes.{Appends, Keeps}
use Rattle.pc_base.specs.declared.outside.Put.TheVariants.{All, Failed}
use Rattle.pc_base.specs.Puts.{Leaves}

-- a front of the piece was taken, and the rest is left
pub record IsUpTo (before now : Option (List ℕ)) (piece rest : List ℕ) : Type 0 where
  pub front : List ℕ
  pub taken : Appends before now front
  pub cut : front ++ rest ≡ piece

pub at_first : (before : Option (List ℕ)) (piece : List ℕ) → IsUpTo before before piece piece
at_first before piece = record { front = []; taken = Appends-nil before; cut = refl }

-- a write took so many of the rest
pub one_more : (before now after : Option (List ℕ)) (piece rest : List ℕ) (count : ℕ) → IsUpTo before now piece rest
    → Appends now after (take count rest) → IsUpTo before after piece (take (length rest - count) (drop count rest))
one_more before now after piece rest count so_far took = subst (λ left. IsUpTo before after piece left)
    (sym (take_all (length rest - count) (drop count rest) (omega (arith, length-drop count rest)))) record {
      front = so_far.front ++ take count rest;
      taken = Appends-trans before now after so_far.front (take count rest) so_far.taken took;
      cut = append_assoc so_far.front (take count rest) (drop count rest) ∙ ap (λ all. so_far.front ++ all) (take-append-drop count rest) ∙ so_far.cut;
    }

-- a write that failed took nothing more
pub none_more : (before now after : Option (List ℕ)) (piece rest : List ℕ) → IsUpTo before now piece rest → Keeps now after → IsUpTo before after piece rest
none_more before now after piece rest so_far kept = record
    { front = so_far.front; taken = Appends-kept before now after so_far.front so_far.taken kept; cut = so_far.cut }

-- what was taken is a front of the piece
pub a_front : (before now : Option (List ℕ)) (piece rest : List ℕ) → IsUpTo before now piece rest → (n : ℕ) × Appends before now (take n piece)
a_front before now piece rest so_far = (
  length so_far.front,
  subst (λ front. Appends before now front) (sym (ap (take (length so_far.front)) (sym so_far.cut) ∙ take-append_seam so_far.front rest)) so_far.taken,
)

-- with nothing left it is the whole piece
pub all_taken : (before now : Option (List ℕ)) (piece rest : List ℕ) → length rest ≡ 0 → IsUpTo before now piece rest → Appends before now piece
all_taken before now piece [] none so_far = subst (λ all. Appends before now all) (sym (append-nil so_far.front) ∙ so_far.cut) so_far.taken
all_taken before now piece (byte ∷ rest) none so_far = absurd (omega (arith, none))

-- what a steady writer took of a piece is what a put leaves
pub leaves_all : (before after : Option (List ℕ)) (piece : List ℕ) → is_some before ≡ is_some after → Appends before after piece → Leaves before after piece All
leaves_all None None piece same took = tt
leaves_all None (Some new) piece same took = absurd (true≢false (sym same))
leaves_all (Some old) None piece same took = absurd took
leaves_all (Some old) (Some new) piece same took = took

pub leaves_front : (before after : Option (List ℕ)) (piece : List ℕ) → is_some before ≡ is_some after
    → (n : ℕ) × Appends before after (take n piece) → Leaves before after piece Failed
leaves_front None None piece same took = tt
leaves_front None (Some new) piece same took = absurd (true≢false (sym same))
leaves_front (Some old) None piece same took = absurd took.1
leaves_front (Some old) (Some new) piece same took = took
