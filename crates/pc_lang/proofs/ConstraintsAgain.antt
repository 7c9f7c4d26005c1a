-- The canonical line of a constraint stands for that constraint.
use Rattle.std.proofs.Common.{◌≡◌, ◌≢◌, ℕ, ◌+◌, ◌/◌, ◌%◌, ◌^◌, ◌<◌, ◌≤◌, ◌++◌, true, false, List, [], ◌∷◌, length, All, AllPairs, pos, decimal, nat_le, refl, ◌∙◌, arith, Ok, append-nil, le-ltb, length-append}
use Rattle.std.specs.Prelude.{bytes_eq}
use Rattle.std.specs.Char.{is_ascii_digit}
use Rattle.std.specs.List.{list_all}
use Rattle.std.proofs.lemmas.Bool.{and_from, le-leb, lt-leb, or_from}
use Rattle.std.proofs.lemmas.Fmt.{decimal_by_steps_wide}
use Rattle.std.proofs.lemmas.List.Elements.{All-head, All-tail}
use Rattle.std.proofs.lemmas.List.Folds.{list_all-append}
use Rattle.pc_num.specs.Put.{scaled_text}
use Rattle.pc_model.specs.declared.schema.Schema.{Schema}
use Rattle.pc_model.specs.declared.constraint.Constraint.{Constraint}
use Rattle.pc_model.specs.Accepted.{AreConstraints, IsNameFor, constraint_limit, frequency_limit}
use Rattle.pc_model.specs.Boxes.{IsServable}
use Rattle.pc_model.specs.WellFormed.{IsSmall, IsWellFormed}
use Rattle.pc_lang.specs.Canonical.{count_text, line_for}
use Rattle.pc_lang.specs.Meaning.{constraint_of, count_of, has_name, name_of, new_constraint}
use Rattle.pc_model.proofs.Lists.{AllPairs-head, AllPairs-tail, bytes_eq-other}
use Rattle.pc_lang.proofs.AreasAgain.{head_named, when_again}
use Rattle.pc_lang.proofs.RegionsAgain.{region_again}
use Rattle.pc_model.proofs.NumberTexts.{number_again}

abbrev AreDigits : ℕ → List ℕ → Type 0
AreDigits n text = list_all is_ascii_digit text ≡ true

is_digit : (digit : ℕ) → digit < 10 → is_ascii_digit (48 + digit) ≡ true
is_digit digit small = and_from (nat_le 48 (48 + digit)) (nat_le (48 + digit) 57) (le-leb 48 (48 + digit) (omega arith)) (le-leb (48 + digit) 57 (omega arith))

one_digit : (n : ℕ) → n < 10 → AreDigits n ((48 + n) ∷ [])
one_digit n small = rw (is_digit n small) refl

more_digits : (n : ℕ) (text : List ℕ) → 10 ≤ n → AreDigits (n / 10) text → AreDigits n (text ++ ((48 + n % 10) ∷ []))
more_digits n text large before =
    list_all-append is_ascii_digit text ((48 + n % 10) ∷ [])
    ∙ and_from (list_all is_ascii_digit text) (list_all is_ascii_digit ((48 + n % 10) ∷ [])) before (one_digit (n % 10) (omega arith))

decimal_digits : (n : ℕ) → n < 10 ^ 64 → list_all is_ascii_digit (decimal n) ≡ true
decimal_digits n small = decimal_by_steps_wide AreDigits one_digit more_digits n small

pub count_digits : (n : ℕ) → n ≤ frequency_limit → list_all is_ascii_digit (count_text n) ≡ true
unfolding scaled_text
count_digits n small =
    let whole : n / 1 ≡ n = omega arith in
    rw (append-nil (decimal (n / 1)), whole) (decimal_digits n (omega arith))

-- the text of a number of rows is read back
pub count_again : (n : ℕ) → n ≤ frequency_limit → count_of (count_text n) ≡ Ok n
unfolding count_of
count_again n small =
    let is_small : IsSmall (pos n) = omega arith in
    rw (count_digits n small, number_again 0 (pos n) is_small, le-ltb frequency_limit n small) refl

pub constraint_again : (schema : Schema) (c : Constraint) → IsWellFormed schema → IsServable schema c → c.most ≤ frequency_limit → IsNameFor c.when c.name → new_constraint schema (line_for schema c) ≡ Ok c
unfolding new_constraint line_for
constraint_again schema c is servable small named =
    let ordered = servable.ordered in
    rw (
      when_again schema c.name c.when is servable.when_area,
      region_again schema c.values is servable.value_region,
      count_again c.least (omega (arith, ordered)),
      count_again c.most small,
      le-ltb c.most c.least ordered,
      head_named schema c.name c.when named,
    ) refl

All-middle : {X : Type 0} (P : X → Type 0) (before : List X) (x : X) (after : List X) → All P (before ++ x ∷ after) → P x
All-middle P [] x after all = All-head P x after all
All-middle P (first ∷ rest) x after all = All-middle P rest x after (All-tail P first (rest ++ x ∷ after) all)

abbrev HaveOwnNames : Constraint → Constraint → Type 0
HaveOwnNames a b = a.name ≢ b.name

new_name : (before : List Constraint) (c : Constraint) (after : List Constraint) → AllPairs HaveOwnNames (before ++ c ∷ after) → has_name before c.name ≡ false
new_name [] c after own = refl
new_name (first ∷ rest) c after own =
    let other = All-middle (HaveOwnNames first) rest c after (AllPairs-head HaveOwnNames first (rest ++ c ∷ after) own) in
    or_from (bytes_eq first.name c.name) (has_name rest c.name) (bytes_eq-other first.name c.name other) (new_name rest c after (AllPairs-tail HaveOwnNames first (rest ++ c ∷ after) own))

-- each line stands for its constraint, after those before it
pub constraints_again : (schema : Schema) (before : List Constraint) (c : Constraint) (after : List Constraint) → IsWellFormed schema → AreConstraints schema (before ++ c ∷ after) → constraint_of schema before (line_for schema c) ≡ Ok c
unfolding constraint_of
constraints_again schema before c after is are =
    let few = are.few in
    let size = length-append before (c ∷ after) in
    let room : nat_le constraint_limit (length before) ≡ false = lt-leb constraint_limit (length before) (omega (arith, few, size)) in
    let named = All-middle (λ (d : Constraint). IsNameFor d.when d.name) before c after are.named in
    let own : has_name before (name_of (line_for schema c).head) ≡ false = unfold line_for in rw (head_named schema c.name c.when named) (new_name before c after are.own_names) in
    let again = constraint_again schema c is (All-middle (IsServable schema) before c after are.servable) (All-middle (λ (d : Constraint). d.most ≤ frequency_limit) before c after are.small) named in
    rw (room, own, again) refl
