-- What tests of signed numbers tell.
use Rattle.std.proofs.Common.{◌≡◌, ℤ, ◌≤ℤ◌, int_le, Bool, true, false, T, refl, sym, subst}
use Rattle.std.specs.Int.Signed.{le_z_yes}
use Rattle.std.proofs.lemmas.Bool.{and_parts, and_from}
use Rattle.pc_model.specs.Membership.{is_between}

pub le_from_test : (a b : ℤ) → int_le a b ≡ true → a ≤ℤ b
le_from_test a b h = le_z_yes (subst T (sym h) tt)

true_from_T : (b : Bool) → T b → b ≡ true
true_from_T true h = refl
true_from_T false h = absurd h

pub test_from_le : (a b : ℤ) → a ≤ℤ b → int_le a b ≡ true
test_from_le a b h = true_from_T (int_le a b) h.le

pub between_parts : (low high n : ℤ) → is_between low high n ≡ true → (low ≤ℤ n) × (n ≤ℤ high)
between_parts low high n h =
    let p = and_parts (int_le low n) (int_le n high) h in
    (le_from_test low n p.0, le_from_test n high p.1)

pub between_from : (low high n : ℤ) → low ≤ℤ n → n ≤ℤ high → is_between low high n ≡ true
between_from low high n a b = and_from (int_le low n) (int_le n high) (test_from_le low n a) (test_from_le n high b)
