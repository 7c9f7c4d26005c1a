-- The format of as many values as lines begin so.
use Rattle.std.proofs.Common.{◌≡◌, ◌⊎◌, ⊎_elim, ℕ, zero, suc, ◌≤◌, Bool, true, List, [], ◌∷◌, ◌++◌, length, Ok, Err, refl, sym, ap, ◌∙◌, subst, arith, append_assoc, if◌then◌else◌, inr}
use Rattle.std.specs.List.{All}
use Rattle.std.proofs.lemmas.List.{append-nil, length-append}
use Rattle.std.proofs.lemmas.List.Elements.{All-nil, All-cons, All-head, All-tail, All-append}
use Rattle.std.proofs.lemmas.Bool.{cases_Bool}
use Rattle.pc_document_format.specs.Formats.{Lines, Found, IsPlain, ArePlain, IsFault, IsFormat, Begins, Ends, any, read_many, read_many_in, read_joined, items_text, first_line}
use Rattle.pc_document_format.proofs.Results.{ok_parts, ok_err, first_same, IsBoth, IsFirst, both_found, first_or_second, both_are, first_fails, second_fails}

begins_more : (begins : List ℕ → Bool) (a b : Lines) → Begins begins (first_line a) → Begins begins (first_line (a ++ b))
begins_more begins [] b is = absurd is
begins_more begins (line ∷ a) b is = is

-- lines that begin so are shorter without their first part
fewer : (begins : List ℕ → Bool) (a b : Lines) (n : ℕ) → Begins begins (first_line a) → length (a ++ b) ≤ suc n → length b ≤ n
fewer begins [] b n is most = absurd is
fewer begins (line ∷ a) b n is most = omega (arith, length-append a b)

none_left : (begins : List ℕ → Bool) (a b : Lines) → Begins begins (first_line a) → length (a ++ b) ≤ 0 → ⊥
none_left begins [] b is most = is
none_left begins (line ∷ a) b is most = omega arith

module _ {A : Type 0} (Good : A → Type 0) (text : A → Lines) (read : Lines → Found A) (begins : List ℕ → Bool) (format : IsFormat Good text any read) (starts : (x : A) → Good x → Begins begins (first_line (text x))) where
  abbrev lines_of : List A → Lines
  lines_of xs = items_text text xs

  abbrev others : ℕ → A → Lines → Found (List A)
  others n x = read_many_in begins read n

  abbrev with_first : A → List A → List A
  with_first x xs = x ∷ xs

  -- where a line begins so, one is read and then the others
  many_step : (n : ℕ) (lines : Lines) → Begins begins (first_line lines) → read_many_in begins read (suc n) lines ≡ read_joined read (others n) with_first lines
  unfolding read_many_in
  many_step n [] is = absurd is
  many_step n (line ∷ lines) is = ap (λ (test : Bool). if test then read_joined read (others n) with_first (line ∷ lines) else Ok ([], line ∷ lines)) is

  -- where none begins so, nothing is read
  many_end : (n : ℕ) (lines : Lines) → Ends {A = A} begins [] (first_line lines) → read_many_in begins read n lines ≡ Ok ([], lines)
  unfolding read_many_in
  many_end zero lines ends = refl
  many_end (suc n) [] ends = refl
  many_end (suc n) (line ∷ lines) ends = ap (λ (test : Bool). if test then read_joined read (others n) with_first (line ∷ lines) else Ok ([], line ∷ lines)) ends

  begins_or_ends : (lines : Lines) → Begins begins (first_line lines) ⊎ Ends {A = A} begins [] (first_line lines)
  begins_or_ends [] = inr tt
  begins_or_ends (line ∷ lines) = cases_Bool (begins line)

  complete_in : (xs : List A) (n : ℕ) (rest : Lines) → All Good xs → Ends begins xs (first_line rest) → length (lines_of xs ++ rest) ≤ n → read_many_in begins read n (lines_of xs ++ rest) ≡ Ok (xs, rest)
  complete_in [] n rest good ends most = many_end n rest ends
  complete_in (x ∷ xs) zero rest good ends most = absurd (none_left begins (text x) (lines_of xs ++ rest) (starts x (All-head Good x xs good)) (subst (λ (lines : Lines). length lines ≤ 0) (append_assoc (text x) (lines_of xs) rest) most))
  complete_in (x ∷ xs) (suc n) rest good ends most =
      let good_x : Good x = All-head Good x xs good in
      let after : Lines = lines_of xs ++ rest in
      let parts : (text x ++ lines_of xs) ++ rest ≡ text x ++ after = append_assoc (text x) (lines_of xs) rest in
      let few : length after ≤ n = fewer begins (text x) after n (starts x good_x) (subst (λ (lines : Lines). length lines ≤ suc n) parts most) in
      let again = complete_in xs n rest (All-tail Good x xs good) ends few in
      ap (read_many_in begins read (suc n)) parts
      ∙ many_step n (text x ++ after) (begins_more begins (text x) after (starts x good_x))
      ∙ both_are read (others n) with_first (text x ++ after) after rest x xs (format.complete x after good_x tt) again

  abbrev IsRead : List A → Lines → Lines → Type 0
  IsRead xs lines rest = All Good xs × (lines ≡ lines_of xs ++ rest) × Ends begins xs (first_line rest)

  nothing_read : (n : ℕ) (lines rest : Lines) (xs : List A) → Ends {A = A} begins [] (first_line lines) → read_many_in begins read n lines ≡ Ok (xs, rest) → IsRead xs lines rest
  nothing_read n lines rest xs ends e =
      let parts = ok_parts [] xs lines rest (sym (many_end n lines ends) ∙ e) in
      subst (λ (ys : List A). IsRead ys lines rest) parts.0 (All-nil Good, parts.1, subst (λ (left : Lines). Ends {A = A} begins [] (first_line left)) parts.1 ends)

  sound_in : (n : ℕ) (lines rest : Lines) (xs : List A) → length lines ≤ n → read_many_in begins read n lines ≡ Ok (xs, rest) → IsRead xs lines rest
  sound_in zero lines rest xs most e = nothing_read zero lines rest xs (none_at_all lines most) e
    where
      none_at_all : (ls : Lines) → length ls ≤ 0 → Ends {A = A} begins [] (first_line ls)
      none_at_all [] few = tt
      none_at_all (line ∷ ls) few = absurd (omega arith)
  sound_in (suc n) lines rest xs most e = ⊎_elim (read_more (sound_in n)) (λ (ends : Ends {A = A} begins [] (first_line lines)). nothing_read (suc n) lines rest xs ends e) (begins_or_ends lines)
    where
      read_more : ((ls left : Lines) (ys : List A) → length ls ≤ n → read_many_in begins read n ls ≡ Ok (ys, left) → IsRead ys ls left) → Begins begins (first_line lines) → IsRead xs lines rest
      read_more again is =
          let b : IsBoth read (others n) with_first lines rest xs = both_found read (others n) with_first lines rest xs (sym (many_step n lines is) ∙ e) in
          let one : Good b.x × (lines ≡ text b.x ++ b.middle) × Unit {0} = format.sound lines b.middle b.x b.found in
          let few : length b.middle ≤ n = fewer begins (text b.x) b.middle n (starts b.x one.0) (subst (λ (ls : Lines). length ls ≤ suc n) one.1 most) in
          let two : IsRead b.y b.middle rest = again b.middle rest b.y few b.last in
          let whole : lines ≡ (text b.x ++ lines_of b.y) ++ rest = one.1 ∙ ap (λ (ls : Lines). text b.x ++ ls) two.1 ∙ sym (append_assoc (text b.x) (lines_of b.y) rest) in
          subst (λ (ys : List A). IsRead ys lines rest) b.is (All-cons Good b.x b.y one.0 two.0, whole, two.2)

  -- a fault, with any fuel that is enough
  record IsFaultIn (lines left : Lines) : Type 0 where
    before : Lines
    parts : lines ≡ before ++ left
    value : List A
    good : All Good value
    after : Lines
    goes_on : lines_of value ≡ before ++ after
    stays : (line : List ℕ) (more other : Lines) (m : ℕ) → left ≡ line ∷ more → length (before ++ line ∷ other) ≤ m → read_many_in begins read m (before ++ line ∷ other) ≡ Err (line ∷ other)

  some_fuel : (lines : Lines) (m : ℕ) → Begins begins (first_line lines) → length lines ≤ m → (k : ℕ) × (m ≡ suc k)
  some_fuel lines zero is most = absurd (none_left begins lines [] is (subst (λ (ls : Lines). length ls ≤ 0) (sym (append-nil lines)) most))
  some_fuel lines (suc k) is most = (k, refl)

  -- reading ends in the first value
  head_fault : (lines left : Lines) → Begins begins (first_line lines) → read lines ≡ Err left → IsFaultIn lines left
  head_fault lines left is e = record {
    before = f.before;
    parts = f.parts;
    value = f.value ∷ [];
    good = All-cons Good f.value [] f.good (All-nil Good);
    after = f.after;
    goes_on = append-nil (text f.value) ∙ f.goes_on;
    stays = stays;
  }
    where
      f : IsFault Good text read lines left
      f = format.fault lines left e

      stays : (line : List ℕ) (more other : Lines) (m : ℕ) → left ≡ line ∷ more → length (f.before ++ line ∷ other) ≤ m → read_many_in begins read m (f.before ++ line ∷ other) ≡ Err (line ∷ other)
      stays line more other m same most =
          let seen : first_line lines ≡ first_line (f.before ++ line ∷ other) =
          ap first_line (f.parts ∙ ap (λ (ls : Lines). f.before ++ ls) same) ∙ first_same f.before line more other in
          let begun : Begins begins (first_line (f.before ++ line ∷ other)) = subst (Begins begins) seen is in
          let fuel = some_fuel (f.before ++ line ∷ other) m begun most in
          ap (λ (k : ℕ). read_many_in begins read k (f.before ++ line ∷ other)) fuel.1
          ∙ many_step fuel.0 (f.before ++ line ∷ other) begun
          ∙ first_fails read (others fuel.0) with_first (f.before ++ line ∷ other) (line ∷ other) (f.stays line more other same)

  -- reading ends after it
  tail_fault : (lines middle left : Lines) (x : A) → read lines ≡ Ok (x, middle) → IsFaultIn middle left → IsFaultIn lines left
  tail_fault lines middle left x e f = record {
    before = text x ++ f.before;
    parts = one.1 ∙ ap (λ (ls : Lines). text x ++ ls) f.parts ∙ sym (append_assoc (text x) f.before left);
    value = x ∷ f.value;
    good = All-cons Good x f.value one.0 f.good;
    after = f.after;
    goes_on = ap (λ (ls : Lines). text x ++ ls) f.goes_on ∙ sym (append_assoc (text x) f.before f.after);
    stays = stays;
  }
    where
      one : Good x × (lines ≡ text x ++ middle) × Unit {0}
      one = format.sound lines middle x e

      stays : (line : List ℕ) (more other : Lines) (m : ℕ) → left ≡ line ∷ more → length ((text x ++ f.before) ++ line ∷ other) ≤ m → read_many_in begins read m ((text x ++ f.before) ++ line ∷ other) ≡ Err (line ∷ other)
      stays line more other m same most =
          let after : Lines = f.before ++ line ∷ other in
          let apart : (text x ++ f.before) ++ line ∷ other ≡ text x ++ after = append_assoc (text x) f.before (line ∷ other) in
          let begun : Begins begins (first_line (text x ++ after)) = begins_more begins (text x) after (starts x one.0) in
          let enough : length (text x ++ after) ≤ m = subst (λ (ls : Lines). length ls ≤ m) apart most in
          let fuel = some_fuel (text x ++ after) m begun enough in
          let few : length after ≤ fuel.0 = fewer begins (text x) after fuel.0 (starts x one.0) (subst (λ (k : ℕ). length (text x ++ after) ≤ k) fuel.1 enough) in
          ap (read_many_in begins read m) apart
          ∙ ap (λ (k : ℕ). read_many_in begins read k (text x ++ after)) fuel.1
          ∙ many_step fuel.0 (text x ++ after) begun
          ∙ second_fails read (others fuel.0) with_first (text x ++ after) after (line ∷ other) x (format.complete x after one.0 tt) (f.stays line more other fuel.0 same few)

  no_fault : (n : ℕ) (lines left : Lines) → Ends {A = A} begins [] (first_line lines) → read_many_in begins read n lines ≡ Err left → ⊥
  no_fault n lines left ends e = ok_err {A = List A} [] lines left (sym (many_end n lines ends) ∙ e)

  fault_in : (n : ℕ) (lines left : Lines) → read_many_in begins read n lines ≡ Err left → IsFaultIn lines left
  unfolding read_many_in
  fault_in zero lines left e = absurd (ok_err {A = List A} [] lines left e)
  fault_in (suc n) lines left e = ⊎_elim (one_more (fault_in n)) (λ (ends : Ends {A = A} begins [] (first_line lines)). absurd (no_fault (suc n) lines left ends e)) (begins_or_ends lines)
    where
      one_more : ((ls after : Lines) → read_many_in begins read n ls ≡ Err after → IsFaultIn ls after) → Begins begins (first_line lines) → IsFaultIn lines left
      one_more again is = ⊎_elim (head_fault lines left is) (λ (s : IsFirst read (others n) lines left). tail_fault lines s.middle left s.x s.found (again s.middle left s.last)) (first_or_second read (others n) with_first lines left (sym (many_step n lines is) ∙ e))

  many_fault : (lines left : Lines) → read_many begins read lines ≡ Err left → IsFault (All Good) lines_of (read_many begins read) lines left
  many_fault lines left e =
      let f = fault_in (length lines) lines left e in
      record { before = f.before; parts = f.parts; value = f.value; good = f.good; after = f.after; goes_on = f.goes_on; stays = λ line more other same. f.stays line more other (length (f.before ++ line ∷ other)) same (omega arith) }

  none_begin : (ls : Lines) → length ls ≤ 0 → Ends {A = A} begins [] (first_line ls)
  none_begin [] few = tt
  none_begin (line ∷ lines) few = absurd (omega arith)

  -- how many values there may be does not matter, where it is enough
  same_in : (n m : ℕ) (lines : Lines) → length lines ≤ n → length lines ≤ m → read_many_in begins read n lines ≡ read_many_in begins read m lines
  same_in zero m lines few more = many_end zero lines (none_begin lines few) ∙ sym (many_end m lines (none_begin lines few))
  same_in (suc n) zero lines few more = many_end (suc n) lines (none_begin lines more) ∙ sym (many_end zero lines (none_begin lines more))
  same_in (suc n) (suc m) lines few more =
      ⊎_elim (λ is. many_step n lines is ∙ joined_same (same_in n m) is (read lines) refl ∙ sym (many_step m lines is))
      (λ (ends : Ends {A = A} begins [] (first_line lines)). many_end (suc n) lines ends ∙ sym (many_end (suc m) lines ends)) (begins_or_ends lines)
    where
      joined_same : ((ls : Lines) → length ls ≤ n → length ls ≤ m → read_many_in begins read n ls ≡ read_many_in begins read m ls) → Begins begins (first_line lines)
          → (found : Found A) → read lines ≡ found → read_joined read (others n) with_first lines ≡ read_joined read (others m) with_first lines
      joined_same again is (Err left) e = rw e refl
      joined_same again is (Ok (x, left)) e =
          let one : Good x × (lines ≡ text x ++ left) × Unit {0} = format.sound lines left x e in
          let few_n = fewer begins (text x) left n (starts x one.0) (subst (λ (ls : Lines). length ls ≤ suc n) one.1 few) in
          let few_m = fewer begins (text x) left m (starts x one.0) (subst (λ (ls : Lines). length ls ≤ suc m) one.1 more) in
          let same = again left few_n few_m in
          rw e (rw same refl)

  -- after a value it does not matter how many there might have been with it
  pub many_fuel : (x : A) (lines : Lines) (line : List ℕ) (rest left : Lines) → lines ≡ line ∷ rest → begins line ≡ true → read lines ≡ Ok (x, left)
      → read_many_in begins read (length rest) left ≡ read_many begins read left
  many_fuel x lines line rest left is first found =
      let one : Good x × (lines ≡ text x ++ left) × Unit {0} = format.sound lines left x found in
      let whole : length (text x ++ left) ≤ suc (length rest) = subst (λ (ls : Lines). length ls ≤ suc (length rest)) (sym is ∙ one.1) (omega arith) in
      same_in (length rest) (length left) left (fewer begins (text x) left (length rest) (starts x one.0) whole) (omega arith)

  plain_in : (xs : List A) → All Good xs → ArePlain (lines_of xs)
  plain_in [] good = All-nil IsPlain
  plain_in (x ∷ xs) good = All-append IsPlain (text x) (lines_of xs) (format.plain x (All-head Good x xs good)) (plain_in xs (All-tail Good x xs good))

  in_module : IsFormat (All Good) lines_of (Ends begins) (read_many begins read)
  in_module = record {
    some = [];
    some_good = All-nil Good;
    complete = λ xs rest good ends. complete_in xs (length (lines_of xs ++ rest)) rest good ends (omega arith);
    sound = λ lines rest xs e. sound_in (length lines) lines rest xs (omega arith) e;
    fault = many_fault;
    plain = plain_in;
  }

-- Of the format of a value, whose first line begins so, one of as many as begin so.
pub many_format : {A : Type 0} {Good : A → Type 0} {text : A → Lines} {read : Lines → Found A} (begins : List ℕ → Bool) → IsFormat Good text any read → ((x : A) → Good x → Begins begins (first_line (text x))) → IsFormat (All Good) (items_text text) (Ends begins) (read_many begins read)
many_format {A} {Good} {text} {read} begins format starts = in_module Good text read begins format starts
