-- What a result was made of.
use Rattle.std.proofs.Common.{◌≡◌, Bool, true, false, if◌then◌else◌, Result, Ok, Err, refl}
use Rattle.pc_model.specs.declared.fault.Reason.{Reason}
use Rattle.pc_model.specs.Refusals.{◌>>=◌}

-- a value that comes of another one
pub record Bound {A B : Type 0} (f : A → Result B Reason) (r : Result A Reason) (y : B) : Type 0 where
  pub value : A
  pub is : r ≡ Ok value
  pub gives : f value ≡ Ok y

pub bound : {A B : Type 0} (f : A → Result B Reason) (r : Result A Reason) (y : B) → (r >>= f) ≡ Ok y → Bound f r y
bound f (Ok x) y e = record { value = x; is = refl; gives = e }
bound f (Err reason) y e = cc

-- a value where a test does not refuse
pub passed : {A : Type 0} (test : Bool) (reason : Reason) (r : Result A Reason) (y : A) → (if test then Err reason else r) ≡ Ok y → (test ≡ false) × (r ≡ Ok y)
passed true reason r y e = cc
passed false reason r y e = (refl, e)

pub granted : {A : Type 0} (test : Bool) (reason : Reason) (r : Result A Reason) (y : A) → (if test then r else Err reason) ≡ Ok y → (test ≡ true) × (r ≡ Ok y)
granted true reason r y e = (refl, e)
granted false reason r y e = cc
