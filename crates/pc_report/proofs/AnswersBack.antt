-- Answers are read back from their lines.
use Rattle.std.proofs.Common.{◌≡◌, ℕ, ◌||◌, Bool, true, false, List, [], ◌++◌, Option, Some, None, if◌then◌else◌, refl, sym, ap, ◌∙◌, append_assoc}
use Rattle.std.specs.Option.{is_none}
use Rattle.std.proofs.lemmas.Bool.{false≢true, or_right, true≢false}
use Rattle.pc_model.specs.declared.schema.Schema.{Schema}
use Rattle.pc_model.specs.declared.query.Query.{Query}
use Rattle.pc_model.specs.Right as plain
use Rattle.pc_model.specs.Right.{Answer, End, Lack, always_has_value, is_always, is_impossible, is_silent}
use Rattle.pc_model.specs.WellFormed.{IsWellFormed}
use Rattle.pc_report.specs.Report.{answer_text, end_text, ends_text, lack_text, relation_text, titled_text, values_text, without_text}
use Rattle.pc_report.specs.Shown.{AreShownEnds, IsShownAnswer, IsShownLack}
use Rattle.pc_report.proofs.EndsBack.{ends_back}
use Rattle.pc_report.proofs.PartsBack.{is_n, lack_back, relation_back}
use Rattle.pc_report.proofs.RunsBack.{is_r}
use Rattle.pc_report.proofs.Stops.{starts, starts_unless}

-- a text that an answer ends before
pub record EndsAnswer (r : List ℕ) : Type 0 where
  pub run : starts is_r r ≡ false
  pub none : starts is_n r ≡ false

-- ---- what follows

ends_stop : (fits : ℕ → Bool) (schema : Schema) (query : Query) (ends : Option (End × End)) (r : List ℕ) → fits 108 ≡ false → starts fits r ≡ false → starts fits (ends_text schema query ends ++ r) ≡ false
unfolding end_text
ends_stop fits schema query None r low stop = stop
ends_stop fits schema query (Some ends) r low stop = low

abbrev ends_unless : Bool → Schema → Query → Option (End × End) → List ℕ
ends_unless always schema query ends = if always then [] else ends_text schema query ends

unless_stop : (fits : ℕ → Bool) (always : Bool) (schema : Schema) (query : Query) (ends : Option (End × End)) (r : List ℕ) → fits 108 ≡ false → starts fits r ≡ false → starts fits (ends_unless always schema query ends ++ r) ≡ false
unless_stop fits always schema query ends r low stop =
    starts_unless fits always (ends_text schema query ends) r stop (ends_stop fits schema query ends r low stop)

lack_stop : (schema : Schema) (lack : Lack) (r : List ℕ) → starts is_r r ≡ false → starts is_r (lack_text schema lack ++ r) ≡ false
unfolding without_text titled_text
lack_stop schema plain.silent r stop = stop
lack_stop schema plain.never r stop = refl
lack_stop schema (plain.sometimes without with') r stop = refl
lack_stop schema plain.always r stop = refl
lack_stop schema plain.unsettled r stop = refl

values_open : (schema : Schema) (query : Query) (lack : Lack) (ends : Option (End × End)) (r : List ℕ) → values_text schema query lack ends ++ r ≡ lack_text schema lack ++ (ends_unless (is_always lack) schema query ends ++ r)
values_open schema query lack ends r = append_assoc (lack_text schema lack) (ends_unless (is_always lack) schema query ends) r

values_stop : (schema : Schema) (query : Query) (lack : Lack) (ends : Option (End × End)) (r : List ℕ) → starts is_r r ≡ false → starts is_r (values_text schema query lack ends ++ r) ≡ false
values_stop schema query lack ends r stop =
    rw (values_open schema query lack ends r) (lack_stop schema lack _ (unless_stop is_r (is_always lack) schema query ends r refl stop))

-- ---- lacks and ends

no_ends : (ends : Option (End × End)) → is_none ends ≡ true → ends ≡ None
no_ends None none = refl
no_ends (Some ends) none = absurd (false≢true none)

silent_is : (lack : Lack) → is_silent lack ≡ true → lack ≡ plain.silent
silent_is plain.silent is = refl
silent_is plain.never is = absurd (false≢true is)
silent_is (plain.sometimes without with') is = absurd (false≢true is)
silent_is plain.always is = absurd (false≢true is)
silent_is plain.unsettled is = absurd (false≢true is)

-- what is shown of a lack and of ends
record AreShownValues (schema : Schema) (query : Query) (lack : Lack) (ends : Option (End × End)) : Type 0 where
  lacking : IsShownLack schema lack
  both : AreShownEnds schema query.agg ends

unless_back : (always never : Bool) (schema : Schema) (query : Query) (a b : Option (End × End)) (r s : List ℕ) → always ≡ never → IsWellFormed schema → AreShownEnds schema query.agg a → AreShownEnds schema query.agg b → is_none a ≡ always → is_none b ≡ never → EndsAnswer r → EndsAnswer s → ends_unless always schema query a ++ r ≡ ends_unless never schema query b ++ s → (a ≡ b) × (r ≡ s)
unless_back true true schema query a b r s same formed are others absent gone stop end e = (no_ends a absent ∙ sym (no_ends b gone), e)
unless_back true false schema query a b r s same formed are others absent gone stop end e = absurd (true≢false same)
unless_back false true schema query a b r s same formed are others absent gone stop end e = absurd (false≢true same)
unless_back false false schema query a b r s same formed are others absent gone stop end e =
    ends_back schema query a b r s formed (absent ∙ sym gone) are others stop.run end.run e

values_back : (schema : Schema) (query : Query) (lack other : Lack) (a b : Option (End × End)) (r s : List ℕ) → IsWellFormed schema → AreShownValues schema query lack a → AreShownValues schema query other b → is_none a ≡ is_always lack → is_none b ≡ is_always other → EndsAnswer r → EndsAnswer s → values_text schema query lack a ++ r ≡ values_text schema query other b ++ s → (lack ≡ other) × (a ≡ b) × (r ≡ s)
values_back schema query lack other a b r s formed are others absent gone stop end e =
    let test = is_always lack in
    let test' = is_always other in
    let first = lack_back schema lack other (ends_unless test schema query a ++ r) (ends_unless test' schema query b ++ s) formed are.lacking others.lacking
    (unless_stop is_r test schema query a r refl stop.run) (unless_stop is_r test' schema query b s refl end.run)
    (unless_stop is_n test schema query a r refl stop.none) (unless_stop is_n test' schema query b s refl end.none)
    (sym (values_open schema query lack a r) ∙ e ∙ values_open schema query other b s) in
    let last = unless_back test test' schema query a b r s (ap is_always first.0) formed are.both others.both absent gone stop end first.1 in
    (first.0, last.0, last.1)

abbrev values_unless : Bool → Schema → Query → Lack → Option (End × End) → List ℕ
values_unless impossible schema query lack ends = if impossible then [] else values_text schema query lack ends

rest_back : (none never : Bool) (schema : Schema) (query : Query) (lack other : Lack) (a b : Option (End × End)) (r s : List ℕ) → none ≡ never → IsWellFormed schema → AreShownValues schema query lack a → AreShownValues schema query other b
    → is_silent lack ≡ (always_has_value query.agg || none) → is_silent other ≡ (always_has_value query.agg || never)
    → is_none a ≡ (none || is_always lack) → is_none b ≡ (never || is_always other)
    → EndsAnswer r → EndsAnswer s → values_unless none schema query lack a ++ r ≡ values_unless never schema query other b ++ s → (lack ≡ other) × (a ≡ b) × (r ≡ s)
rest_back true true schema query lack other a b r s same formed are others silent quiet absent gone stop end e =
    let certain = or_right (always_has_value query.agg) true refl in
    (silent_is lack (silent ∙ certain) ∙ sym (silent_is other (quiet ∙ certain)), no_ends a absent ∙ sym (no_ends b gone), e)
rest_back true false schema query lack other a b r s same formed are others silent quiet absent gone stop end e = absurd (true≢false same)
rest_back false true schema query lack other a b r s same formed are others silent quiet absent gone stop end e = absurd (false≢true same)
rest_back false false schema query lack other a b r s same formed are others silent quiet absent gone stop end e =
    values_back schema query lack other a b r s formed are others absent gone stop end e

-- ---- answers

answer_opens : (schema : Schema) (query : Query) (a : Answer) (r : List ℕ) → answer_text schema query a ++ r ≡ relation_text schema a.relation ++ (values_unless (is_impossible a.relation) schema query a.lack a.ends ++ r)
unfolding answer_text
answer_opens schema query a r = append_assoc (relation_text schema a.relation) (values_unless (is_impossible a.relation) schema query a.lack a.ends) r

rest_stop : (none : Bool) (schema : Schema) (query : Query) (a : Answer) (r : List ℕ) → EndsAnswer r → starts is_r (values_unless none schema query a.lack a.ends ++ r) ≡ false
rest_stop none schema query a r stop = starts_unless is_r none (values_text schema query a.lack a.ends) r stop.run (values_stop schema query a.lack a.ends r stop.run)

same_answer : (a b : Answer) → a.relation ≡ b.relation → a.lack ≡ b.lack → a.ends ≡ b.ends → a ≡ b
same_answer a b relation lack ends = λ i. record { relation = relation i; lack = lack i; ends = ends i }

pub answer_back : (schema : Schema) (query : Query) (a b : Answer) (r s : List ℕ) → IsWellFormed schema → IsShownAnswer schema query a → IsShownAnswer schema query b → EndsAnswer r → EndsAnswer s → answer_text schema query a ++ r ≡ answer_text schema query b ++ s → (a ≡ b) × (r ≡ s)
answer_back schema query a b r s formed is other stop end e =
    let none = is_impossible a.relation in
    let never = is_impossible b.relation in
    let first = relation_back schema a.relation b.relation (values_unless none schema query a.lack a.ends ++ r) (values_unless never schema query b.lack b.ends ++ s) formed is.relation other.relation
    (rest_stop none schema query a r stop) (rest_stop never schema query b s end) (sym (answer_opens schema query a r) ∙ e ∙ answer_opens schema query b s) in
    let last = rest_back none never schema query a.lack b.lack a.ends b.ends r s (ap is_impossible first.0) formed (record { lacking = is.lack; both = is.ends }) (record { lacking = other.lack; both = other.ends })
    is.silent other.silent is.absent other.absent stop end first.1 in
    (same_answer a b first.0 last.0 last.1, last.2)
