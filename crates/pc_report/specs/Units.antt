-- Averages in the unit of their column. A value is kept in units of the column's last place.
use Rattle.std.specs.Prelude.{◌≡◌, List, Option, ℕ, zero, suc, ◌+◌, ◌*◌, ◌/◌, ◌%◌, ◌^◌, pos, ◌<ℤ◌, ◌≤ℤ◌, unsigned_abs, Bool, IfSome}
use Rattle.pc_num.specs.Put.{frac_text}
use Rattle.pc_num.specs.Scaled.{signed}
use Rattle.pc_num.specs.Signs.{Fits, differ}
use Rattle.pc_num.specs.declared.fraction.Frac.{Frac}
use Rattle.pc_model.specs.declared.query.Agg.{Agg}
use Rattle.pc_model.specs.declared.query.Agg.TheVariants as aggs
use Rattle.pc_model.specs.Aggregate.{Ratio}
use Rattle.pc_model.specs.Right.{End}
use Rattle.pc_proof.specs.declared.document.Block.{Block}
use Rattle.pc_proof.specs.Unbroken.{plain_ends}

-- ---- lowest terms

-- the greatest common divisor, by so many remainders at most
unfoldable pub divisor_in : ℕ → ℕ → ℕ → ℕ
divisor_in zero a b = a
divisor_in (suc n) a zero = a
divisor_in (suc n) a (suc b) = divisor_in n (suc b) (a % suc b)

abbrev pub divisor : ℕ → ℕ → ℕ
divisor a b = divisor_in (b + 1) a b

-- a / b in lowest terms
abbrev pub lowest : ℕ → ℕ → ℕ × ℕ
lowest a b = (a / divisor a b, b / divisor a b)

-- ---- units

-- the fraction of two sizes, below 0 where `minus` is set
abbrev pub with_sign : Bool → ℕ × ℕ → Frac
with_sign minus sizes = record { num = signed minus sizes.0; den = pos sizes.1 }

-- a fraction of units of the last place, over 10 ^ scale and in lowest terms
unfoldable pub in_column : ℕ → Frac → Frac
in_column scale value = with_sign (differ value.num value.den) (lowest (unsigned_abs value.num) (unsigned_abs value.den * 10 ^ scale))

abbrev pub average_text : ℕ → Frac → List ℕ
average_text scale value = frac_text (in_column scale value)

-- ---- what can be printed

-- an average that can be printed
pub record IsAverage (value : Frac) : Type 0 where
  pub above : pos 0 <ℤ value.den
  pub small : value.den ≤ℤ pos 30_000_000_000_000_000
  pub fits : Fits value.num

-- a ratio as the code holds it
abbrev pub frac_of : Ratio → Frac
frac_of ratio = record { num = ratio.num; den = ratio.den }

-- both ends, where there are ends
abbrev pub AreAverages : Option (End × End) → Type 0
AreAverages ends = IfSome ends (λ (ends : End × End). IsAverage (frac_of ends.0.value) × IsAverage (frac_of ends.1.value))

-- the value of an aggregate can be printed
abbrev pub IsPrintable : Agg → Frac → Type 0
IsPrintable agg value = agg ≡ aggs.Avg → IsAverage value

-- both ends of an aggregate can be printed
abbrev pub ArePrintable : Agg → Option (End × End) → Type 0
ArePrintable agg ends = agg ≡ aggs.Avg → AreAverages ends

-- a block whose ends can be printed
abbrev pub HasAverages : Block → Type 0
HasAverages block = ArePrintable block.query.agg (plain_ends block.answer.ends)
