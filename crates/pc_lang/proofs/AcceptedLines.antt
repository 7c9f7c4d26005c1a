-- The constraints up to a line are well-formed where those before it are.
use Rattle.std.proofs.Common.{◌≡◌, ◌≢◌, ℕ, ◌≤◌, nat_le, nat_lt, false, true≢false, List, [], ◌∷◌, ◌++◌, length, get_or, bytes_eq, Result, Ok, Err, IfOk, ltb-false, if◌then◌else◌, ◌<◌, ℤ, unsigned_abs, refl, sym, subst, ◌∙◌, arith}
use Rattle.std.specs.Char.{is_ascii_digit}
use Rattle.std.specs.List.{list_all}
use Rattle.std.proofs.lemmas.List.{length-append}
use Rattle.std.proofs.lemmas.List.Elements.{All-push}
use Rattle.std.proofs.lemmas.List.Folds.{list_any_at}
use Rattle.std.proofs.lemmas.List.Quantifiers.{all_pairs_push}
use Rattle.std.proofs.lemmas.Slice.Eq.{bytes_eq-Decides}
use Rattle.std.proofs.lemmas.Bool.Decides.{nat_tests}
use Rattle.pc_model.specs.declared.fault.Reason.{Reason}
use Rattle.pc_model.specs.declared.fault.Reason.TheVariants as reasons
use Rattle.pc_model.specs.declared.fault.ReadStop.{ReadStop}
use Rattle.pc_model.specs.declared.schema.Schema.{Schema}
use Rattle.pc_model.specs.declared.region.Region.{Region}
use Rattle.pc_model.specs.declared.constraint.When.{When}
use Rattle.pc_model.specs.declared.constraint.When.TheVariants.{Boxes, Outside}
use Rattle.pc_model.specs.declared.constraint.Constraint.{Constraint}
use Rattle.pc_model.specs.Accepted.{AreConstraints, IsNameFor, constraint_limit, frequency_limit}
use Rattle.pc_model.specs.Boxes.{IsServable, IsWhenOf}
use Rattle.pc_model.specs.Numbers.{number_of}
use Rattle.pc_model.specs.Refusals.{◌>>=◌, Answers}
use Rattle.pc_model.specs.WellFormed.{IsWellFormed}
use Rattle.pc_model.proofs.Names.{name_is}
use Rattle.pc_lang_grammar.specs.declared.syntax.Head.{Head}
use Rattle.pc_lang_grammar.specs.declared.syntax.Head.TheVariants as heads
use Rattle.pc_lang_grammar.specs.declared.syntax.Line.{Line}
use Rattle.pc_lang.specs.Areas.{area_of}
use Rattle.pc_lang.specs.Meaning.{IsNamed, boxes, constraint_of, count_of, at_most_limit, has_name, in_order, name_of, new_constraint, when_of}
use Rattle.pc_lang.specs.Parts.{region_of}
use Rattle.pc_lang.proofs.AreasOfParts.{is_area}
use Rattle.pc_lang.proofs.Bound.{bound, passed, granted}
use Rattle.pc_lang.proofs.RegionsOfParts.{is_region}

count_is_small : (text : List ℕ) (count : ℕ) → count_of text ≡ Ok count → count ≤ frequency_limit
unfolding count_of
count_is_small text count e =
    let digits = granted (list_all is_ascii_digit text) reasons.BadNumber (number_of 0 text >>= λ n. at_most_limit (unsigned_abs n)) count e in
    let number = bound (λ (n : ℤ). at_most_limit (unsigned_abs n)) (number_of 0 text) count digits.1 in
    let within = passed (nat_lt frequency_limit (unsigned_abs number.value)) reasons.PastLimit (Ok (unsigned_abs number.value)) count number.gives in
    let same : unsigned_abs number.value ≡ count = (let is = within.1 in cc) in
    rw (← same) (ltb-false frequency_limit (unsigned_abs number.value) within.0)

-- no constraint has a name that was not found
unnamed : (before : List Constraint) (name : List ℕ) → has_name before name ≡ false → (k : ℕ) (d : Constraint) → k < length before → (get_or before k d).name ≢ name
unnamed before name none k d inside same =
    absurd (true≢false (sym (list_any_at (λ (c : Constraint). bytes_eq c.name name) before k d inside ((bytes_eq-Decides (get_or before k d).name name).1 same)) ∙ none))

is_when : (schema : Schema) (head : Head) (when : When) → IsWellFormed schema → when_of schema head ≡ Ok when → IsWhenOf schema when
unfolding when_of
is_when schema (heads.Named name ways) when formed e =
    let b = bound boxes (area_of schema ways) when e in
    let same : Boxes b.value ≡ when = (let gives = b.gives in cc) in
    subst (λ (w : When). IsWhenOf schema w) same (is_area schema ways b.value formed b.is)
is_when schema heads.Outside when formed e = let same : Outside ≡ when = cc in subst (λ (w : When). IsWhenOf schema w) same tt

own_name : (schema : Schema) (head : Head) (when : When) → when_of schema head ≡ Ok when → IsNamed head → IsNameFor when (name_of head)
unfolding when_of
own_name schema (heads.Named name ways) when e named =
    let b = bound boxes (area_of schema ways) when e in
    let same : Boxes b.value ≡ when = (let gives = b.gives in cc) in
    subst (λ (w : When). IsNameFor w name) same (name_is name named)
own_name schema heads.Outside when e named = let same : Outside ≡ when = cc in subst (λ (w : When). IsNameFor w []) same refl

abbrev after_least : Line → When → Region → ℕ → Result Constraint Reason
after_least line when values least = count_of line.most >>= λ most. in_order (name_of line.head) when values least most

abbrev after_values : Line → When → Region → Result Constraint Reason
after_values line when values = count_of line.least >>= after_least line when values

abbrev after_when : Schema → Line → When → Result Constraint Reason
after_when schema line when = region_of schema line.values >>= after_values line when

-- a constraint that fits the others, if its name is new
record Fits (schema : Schema) (line : Line) (c : Constraint) : Type 0 where
  servable : IsServable schema c
  small : c.most ≤ frequency_limit
  named : c.name ≡ name_of line.head
  own : IsNamed line.head → IsNameFor c.when c.name

new_fits : (schema : Schema) (line : Line) (c : Constraint) → IsWellFormed schema → new_constraint schema line ≡ Ok c → Fits schema line c
unfolding new_constraint
new_fits schema line c formed e =
    let when = bound (after_when schema line) (when_of schema line.head) c e in
    let values = bound (after_values line when.value) (region_of schema line.values) c when.gives in
    let least = bound (after_least line when.value values.value) (count_of line.least) c values.gives in
    let most = bound (λ (most : ℕ). in_order (name_of line.head) when.value values.value least.value most) (count_of line.most) c least.gives in
    let made : Constraint = record { name = name_of line.head; when = when.value; values = values.value; least = least.value; most = most.value } in
    let ordered = passed (nat_lt most.value least.value) reasons.LeastOverMost (Ok made) c most.gives in
    let same : made ≡ c = (let is = ordered.1 in cc) in
    subst (λ (c : Constraint). Fits schema line c) {x = record { name = name_of line.head; when = when.value; values = values.value; least = least.value; most = most.value }} same (record {
      servable = record {
        when_area = is_when schema line.head when.value formed when.is;
        value_region = is_region schema line.values values.value formed values.is;
        ordered = ltb-false most.value least.value ordered.0;
      };
      small = count_is_small line.most most.value most.is;
      named = refl;
      own = own_name schema line.head when.value when.is;
    })

pub is_accepted : (schema : Schema) (before : List Constraint) (line : Line) (c : Constraint) → IsWellFormed schema → constraint_of schema before line ≡ Ok c → AreConstraints schema before → IsNamed line.head → AreConstraints schema (before ++ c ∷ [])
unfolding constraint_of
is_accepted schema before line c formed e are named =
    let room = passed (nat_le constraint_limit (length before)) reasons.TooMany (if has_name before (name_of line.head) then Err reasons.RepeatedName else new_constraint schema line) c e in
    let fresh = passed (has_name before (name_of line.head)) reasons.RepeatedName (new_constraint schema line) c room.1 in
    let fits = new_fits schema line c formed fresh.1 in
    let few : length before < 20 = (let h = room.0 in grind (arith, nat_tests)) in
    record {
      few = omega (arith, few, length-append before (c ∷ []));
      servable = All-push (IsServable schema) before c are.servable fits.servable;
      small = All-push (λ (c : Constraint). c.most ≤ frequency_limit) before c are.small fits.small;
      named = All-push (λ (c : Constraint). IsNameFor c.when c.name) before c are.named (fits.own named);
      own_names = all_pairs_push (λ (a b : Constraint). a.name ≢ b.name) before c are.own_names (λ k d inside same. unnamed before (name_of line.head) fresh.0 k d inside (same ∙ fits.named));
    }

pub line_is_accepted : (schema : Schema) (before : List Constraint) (line : Line) (result : Result Constraint ReadStop) → IsWellFormed schema → Answers result (constraint_of schema before line) → IfOk result (λ c. AreConstraints schema before → IsNamed line.head → AreConstraints schema (before ++ c ∷ []))
line_is_accepted schema before line (Ok c) formed e = λ are named. is_accepted schema before line c formed e are named
line_is_accepted schema before line (Err stop) formed e = tt
