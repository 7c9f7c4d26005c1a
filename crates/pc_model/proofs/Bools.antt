-- Tests that agree, and tests joined by `and`.
use Rattle.std.proofs.Common.{◌≡◌, ◌&&◌, Bool, true, false, refl, sym}
use Rattle.std.proofs.Math.Bool.{and-true, and-false}

pub same_tests : (x y : Bool) → (x ≡ true → y ≡ true) → (y ≡ true → x ≡ true) → x ≡ y
same_tests true true to from = refl
same_tests true false to from = sym (to refl)
same_tests false true to from = from refl
same_tests false false to from = refl

pub and_last : (a b c : Bool) → ((a && b) && c) ≡ ((a && c) && b)
and_last true true c = sym (and-true c)
and_last true false c = sym (and-false c)
and_last false b c = refl
