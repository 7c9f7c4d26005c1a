-- Verdicts on demands of which one or some come first, what ends a judgement of them, and what the lines of a search tree show together.
use Rattle.std.proofs.Common.{ℕ, ◌+◌, List, [], ◌∷◌, ◌++◌, All, Option, Some, None, Result, Ok, Err, refl, inl, inr}
use Rattle.std.proofs.lemmas.List.Elements.{All-cons, All-head, All-tail, All-append}
use Rattle.pc_program_bound.specs.declared.program.Program.{Program}
use Rattle.pc_program_bound.specs.SplitTrees.{SplitTree, bound, void, split, size_of, less_caps, more_floors, Proves}
use Rattle.pc_proof.specs.Setting.{Setting}
use Rattle.pc_proof.specs.Demands.{Placed, Holds, IsFirstBroken, Judges, splits, bounds, voids, split_demands}
use Rattle.pc_proof.proofs.Parts.{the-one, the-parts}
use Rattle.pc_check_rules.specs.declared.halt.Halt.{Halt}
use Rattle.pc_check_rules.specs.declared.halt.Halt.TheVariants as halts
use Rattle.pc_check_rules.specs.Halts.{HaltsAs, Gives, HaltsIn, Finds}

-- where the first demand holds, the verdict is that on the others
pub judges-further : (s : Setting) (d : Placed) (ds : List Placed) (verdict : Option (ℕ × ℕ)) → Holds s d → Judges s ds verdict → Judges s (d ∷ ds) verdict
judges-further s d ds None held all = All-cons (Holds s) d ds held all
judges-further s d ds (Some broken) held first = inr (held, first)

-- where it does not, it is the first that is broken
pub judges-here : (s : Setting) (d : Placed) (ds : List Placed) → (Holds s d → ⊥) → Judges s (d ∷ ds) (Some (d.line, d.rule))
judges-here s d ds broken = inl (broken, refl, refl)

first-front : (s : Setting) (ds es : List Placed) (line rule : ℕ) → IsFirstBroken s line rule ds → IsFirstBroken s line rule (ds ++ es)
first-front s [] es line rule broken = absurd broken
first-front s (d ∷ ds) es line rule (inl here) = inl here
first-front s (d ∷ ds) es line rule (inr later) = inr (later.0, first-front s ds es line rule later.1)

first-back : (s : Setting) (ds es : List Placed) (line rule : ℕ) → All (Holds s) ds → IsFirstBroken s line rule es → IsFirstBroken s line rule (ds ++ es)
first-back s [] es line rule held broken = broken
first-back s (d ∷ ds) es line rule held broken = inr (All-head (Holds s) d ds held, first-back s ds es line rule (All-tail (Holds s) d ds held) broken)

-- a verdict on the first part that names a rule is that on the whole
pub judges-front : (s : Setting) (ds es : List Placed) (broken : ℕ × ℕ) → Judges s ds (Some broken) → Judges s (ds ++ es) (Some broken)
judges-front s ds es broken first = first-front s ds es broken.0 broken.1 first

-- where the first part holds, the verdict is that on the second
pub judges-back : (s : Setting) (ds es : List Placed) (verdict : Option (ℕ × ℕ)) → Judges s ds None → Judges s es verdict → Judges s (ds ++ es) verdict
judges-back s ds es None held all = All-append (Holds s) ds es held all
judges-back s ds es (Some broken) held first = first-back s ds es broken.0 broken.1 held first

-- ---- what ends a judgement

-- what is so of each broken line is so of the one that ends it
pub halts_as : (Q R : ℕ → ℕ → Type 0) → ((line rule : ℕ) → Q line rule → R line rule) → (halt : Halt) → HaltsAs Q halt → HaltsAs R halt
halts_as Q R moves (halts.Broken line rule) broken = moves line rule broken
halts_as Q R moves halts.Memory broken = tt

-- .. and so with what is shown
pub gives_as : {X : Type 0} (P O : X → Type 0) (Q R : ℕ → ℕ → Type 0) → ((shown : X) → P shown → O shown) → ((line rule : ℕ) → Q line rule → R line rule)
    → (result : Result X Halt) → Gives P Q result → Gives O R result
gives_as P O Q R shows moves (Ok shown) given = shows shown given
gives_as P O Q R shows moves (Err halt) given = halts_as Q R moves halt given

module _ (s : Setting) (ds es : List Placed) where
  -- a broken line of the first part is the first of the whole
  pub stops : (halt : Halt) → HaltsIn s ds halt → HaltsIn s (ds ++ es) halt
  stops halt broken =
      halts_as (λ line rule. Judges s ds (Some (line, rule))) (λ line rule. Judges s (ds ++ es) (Some (line, rule))) (λ line rule. judges-front s ds es (line, rule)) halt broken

  -- where the first part has none, what is found of the second is found of the whole
  pub goes_on : {X : Type 0} (P : X → Type 0) (result : Result X Halt) → Judges s ds None → Finds s es P result → Finds s (ds ++ es) P result
  goes_on P result held found =
      gives_as (λ shown. Judges s es None × P shown) (λ shown. Judges s (ds ++ es) None × P shown) (λ line rule. Judges s es (Some (line, rule)))
      (λ line rule. Judges s (ds ++ es) (Some (line, rule))) (λ shown given. (judges-back s ds es None held given.0, given.1))
      (λ line rule broken. judges-back s ds es (Some (line, rule)) held broken) result found

-- ---- a search tree

-- lines that hold make a tree that proves its bound
pub proves-from_demands : (s : Setting) (line : ℕ) (p : Program) (floors caps : List ℕ) (t : SplitTree) → All (Holds s) (split_demands line p floors caps t) → Proves p floors caps t
proves-from_demands s line p floors caps (bound m) all = the-one s (record { line = line; rule = 8; demand = bounds p m }) all
proves-from_demands s line p floors caps (void m) all = the-one s (record { line = line; rule = 8; demand = voids p floors caps m }) all
proves-from_demands s line p floors caps (split cell at t u) all =
    let first = split_demands (line + 1) p floors (less_caps caps cell at) t in
    let second = split_demands (line + 1 + size_of t) p (more_floors floors cell at) caps u in
    let parts = the-parts s (record { line = line; rule = 7; demand = splits p floors caps cell at }) first second all in (
      parts.0.0,
      parts.0.1,
      parts.0.2,
      proves-from_demands s (line + 1) p floors (less_caps caps cell at) t parts.1,
      proves-from_demands s (line + 1 + size_of t) p (more_floors floors cell at) caps u parts.2,
    )
