-- The pieces of a division hold what the boxes have, each number in one.
use Rattle.std.proofs.Common.{◌≡◌, ℕ, ◌<◌, ◌≤◌, ◌^◌, ◌&&◌, nat_lt, int_le, int_lt, Bool, true, false, ℤ, List, [], All, length, if◌then◌else◌, refl, sym, arith, true≢false, ltb-true}
use Rattle.std.specs.Prelude.{AllPairs, min}
use Rattle.std.specs.List.{list_any}
use Rattle.std.proofs.Math.Pow.{pow_mono}
use Rattle.std.proofs.lemmas.Bool.{and_parts}
use Rattle.std.proofs.lemmas.Int.{ints}
use Rattle.pc_model.specs.declared.region.Side.{Side}
use Rattle.pc_model.specs.declared.region.Side.TheVariants.{Span, Names}
use Rattle.pc_model.specs.Membership.{holds}
use Rattle.pc_model.specs.Regions.{is_set_in, is_side_of, is_span_in}
use Rattle.pc_model.proofs.Between.{le_from_test, between_parts}
use Rattle.pc_model.specs.WellFormed.{IsKind}
use Rattle.pc_model.specs.declared.schema.Kind.{Kind}
use Rattle.pc_model.specs.declared.schema.Kind.TheVariants.{Int, Dec, Cat}
use Rattle.pc_desk_divide.specs.declared.division.Pieces.{Pieces}
use Rattle.pc_desk_divide.specs.declared.division.Pieces.TheVariants as pieces
use Rattle.pc_desk_divide.specs.Pieces.{Cuts, names_of, pieces_of_side, ranges_of, ranges_with, width}
use Rattle.pc_desk_divide.proofs.CutLists.{ShareNoNumber}
use Rattle.pc_desk_divide.proofs.EqualRanges.{lesser}
use Rattle.pc_desk_divide.proofs.NamePieces.{names_apart, names_are, names_cover}
use Rattle.pc_desk_divide.proofs.RangePieces.{ranges_apart, ranges_are, ranges_cover}
use Rattle.pc_desk_divide.proofs.Widths.{width_ends}

-- sides of a kind, of which no two share a number, and which hold what a side holds
pub record AreCut (test : Side → Bool) (side : Side) (found : List Side) : Type 0 where
  pub each : All (λ (piece : Side). test piece ≡ true) found
  pub apart : AllPairs ShareNoNumber found
  pub cover : (n : ℤ) → holds side n ≡ true → list_any (λ (piece : Side). holds piece n) found ≡ true

ranges_are_cut : (least greatest low high : ℤ) (parts : ℕ) → 1 ≤ parts → is_span_in least greatest (Span low high) ≡ true → AreCut (is_span_in least greatest) (Span low high) (ranges_of parts low high)
unfolding ranges_of holds
ranges_are_cut least greatest low high parts some is = by_test (int_lt high low) refl
  where
    by_test : (test : Bool) → int_lt high low ≡ test → AreCut (is_span_in least greatest) (Span low high) (if test then [] else ranges_with low (width low high) (min parts (width low high)))
    by_test true e =
        let p = and_parts (int_le low high) (int_le high greatest) (and_parts (int_le least low) (int_le low high && int_le high greatest) is).1 in
        let ordered = le_from_test low high p.0 in
        absurd (grind (arith, ints, e, ordered))
    by_test false e =
        let q = and_parts (int_le least low) (int_le low high && int_le high greatest) is in
        let p = and_parts (int_le low high) (int_le high greatest) q.1 in
        let ordered = le_from_test low high p.0 in
        let few = lesser parts (width low high) in
        let one : 1 ≤ width low high = omega arith in
        let any : 0 < min parts (width low high) = grind (arith, some, one) in
        let ends = width_ends low high ordered in
        record {
          each = ranges_are low high (width low high) (min parts (width low high)) any few ends least greatest (le_from_test least low q.0) (le_from_test high greatest p.1);
          apart = ranges_apart low high (width low high) (min parts (width low high)) any few ends;
          cover = λ n held. let b = between_parts low high n held in ranges_cover low high (width low high) (min parts (width low high)) any few ends n b.0 b.1;
        }

names_are_cut : (count bits : ℕ) → count ≤ 128 → is_set_in count (Names bits) ≡ true → AreCut (is_set_in count) (Names bits) (names_of bits)
names_are_cut count bits few is =
    let small = ltb-true bits (2 ^ count) (and_parts (nat_lt 0 bits) (nat_lt bits (2 ^ count)) is).1 in
    let wide : 2 ^ count ≤ 2 ^ 128 = pow_mono few in
    record {
      each = names_are count bits small;
      apart = names_apart bits;
      cover = λ n held. names_cover bits n (omega (arith, small, wide)) held;
    }

-- ---- a division of the schema

pub pieces_are_cut : (kind : Kind) (by : Pieces) (side : Side) → IsKind kind → Cuts by kind → is_side_of kind side ≡ true → AreCut (is_side_of kind) side (pieces_of_side by side)
unfolding pieces_of_side
pieces_are_cut (Int low high) pieces.Names side formed cuts is = absurd cuts
pieces_are_cut (Dec scale low high) pieces.Names side formed cuts is = absurd cuts
pieces_are_cut (Cat names) pieces.Names (Names bits) formed cuts is = names_are_cut (length names) bits formed.few is
pieces_are_cut (Cat names) pieces.Names (Span low high) formed cuts is = absurd (true≢false (sym is))
pieces_are_cut (Int low high) (pieces.Ranges parts) (Span a b) formed cuts is = ranges_are_cut low high a b parts cuts.1 is
pieces_are_cut (Int low high) (pieces.Ranges parts) (Names bits) formed cuts is = absurd (true≢false (sym is))
pieces_are_cut (Dec scale low high) (pieces.Ranges parts) (Span a b) formed cuts is = ranges_are_cut low high a b parts cuts.1 is
pieces_are_cut (Dec scale low high) (pieces.Ranges parts) (Names bits) formed cuts is = absurd (true≢false (sym is))
pieces_are_cut (Cat names) (pieces.Ranges parts) side formed cuts is = absurd cuts.0
