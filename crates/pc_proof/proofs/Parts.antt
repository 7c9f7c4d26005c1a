-- Demands on a list are those on its parts.
use Rattle.std.proofs.Common.{List, [], ◌∷◌, ◌++◌, All}
use Rattle.std.proofs.lemmas.List.Elements.{All-nil, All-cons, All-head, All-tail, All-append}
use Rattle.pc_proof.specs.Setting.{Setting}
use Rattle.pc_proof.specs.Demands.{Placed, Holds}

pub All-front : {X : Type 0} (P : X → Type 0) (xs ys : List X) → All P (xs ++ ys) → All P xs
All-front P [] ys all = All-nil P
All-front P (x ∷ xs) ys all = All-cons P x xs (All-head P x (xs ++ ys) all) (All-front P xs ys (All-tail P x (xs ++ ys) all))

pub All-back : {X : Type 0} (P : X → Type 0) (xs ys : List X) → All P (xs ++ ys) → All P ys
All-back P [] ys all = all
All-back P (x ∷ xs) ys all = All-back P xs ys (All-tail P x (xs ++ ys) all)

module _ (s : Setting) where
  pub one-holds : (d : Placed) → Holds s d → All (Holds s) (d ∷ [])
  one-holds d held = All-cons (Holds s) d [] held (All-nil (Holds s))

  pub the-one : (d : Placed) → All (Holds s) (d ∷ []) → Holds s d
  the-one d all = All-head (Holds s) d [] all

  pub two-hold : (d e : Placed) → Holds s d → Holds s e → All (Holds s) (d ∷ e ∷ [])
  two-hold d e held other = All-cons (Holds s) d (e ∷ []) held (one-holds e other)

  pub the-second : (d e : Placed) → All (Holds s) (d ∷ e ∷ []) → Holds s e
  the-second d e all = the-one e (All-tail (Holds s) d (e ∷ []) all)

  -- a demand, and those of two parts after it
  pub parts-hold : (d : Placed) (ds es : List Placed) → Holds s d → All (Holds s) ds → All (Holds s) es → All (Holds s) ((d ∷ ds) ++ es)
  parts-hold d ds es held first second = All-append (Holds s) (d ∷ ds) es (All-cons (Holds s) d ds held first) second

  pub the-parts : (d : Placed) (ds es : List Placed) → All (Holds s) ((d ∷ ds) ++ es) → Holds s d × All (Holds s) ds × All (Holds s) es
  the-parts d ds es all =
      let front = All-front (Holds s) (d ∷ ds) es all in
      (All-head (Holds s) d ds front, All-tail (Holds s) d ds front, All-back (Holds s) (d ∷ ds) es all)

  -- two parts, and a demand after them
  pub last-holds : (ds es : List Placed) (d : Placed) → All (Holds s) ds → All (Holds s) es → Holds s d → All (Holds s) (ds ++ es ++ d ∷ [])
  last-holds ds es d first second held =
      All-append (Holds s) (ds ++ es) (d ∷ []) (All-append (Holds s) ds es first second) (one-holds d held)

  pub the-last : (ds : List Placed) (d : Placed) → All (Holds s) (ds ++ d ∷ []) → Holds s d
  the-last ds d all = the-one d (All-back (Holds s) ds (d ∷ []) all)
