-- Values and ends are read back from their lines.
use Rattle.std.proofs.Common.{◌≡◌, ℕ, zero, suc, ◌≤◌, false, ℤ, List, [], ◌∷◌, ◌++◌, codes, Option, Some, None, slice_get, arith, refl, sym, ap, ap₂, ◌∙◌, append_assoc}
use Rattle.std.specs.Option.{is_none}
use Rattle.std.proofs.lemmas.Bool.{false≢true, true≢false}
use Rattle.std.proofs.lemmas.List.{append-nil, append_cancel_left}
use Rattle.std.proofs.lemmas.List.Elements.{All-head, All-tail}
use Rattle.pc_num.specs.Put.{scaled_text}
use Rattle.pc_num.specs.declared.fraction.Frac.{Frac}
use Rattle.pc_model.specs.declared.schema.Kind.{Kind}
use Rattle.pc_model.specs.declared.schema.Kind.TheVariants.{Int, Dec, Cat}
use Rattle.pc_model.specs.declared.schema.Column.{Column}
use Rattle.pc_model.specs.declared.schema.Schema.{Schema}
use Rattle.pc_model.specs.declared.query.Agg.{Agg}
use Rattle.pc_model.specs.declared.query.Agg.TheVariants as aggs
use Rattle.pc_model.specs.declared.query.Query.{Query}
use Rattle.pc_model.specs.Aggregate.{Ratio}
use Rattle.pc_model.specs.Right.{End, Mark, exact, outer}
use Rattle.pc_model.specs.WellFormed.{IsWellFormed}
use Rattle.pc_report.specs.Report.{end_text, ends_text, mark_text, scale_at, scale_for, scale_in, titled_text, value_text}
use Rattle.pc_report.specs.RunLines.{HasScale, HaveScales}
use Rattle.pc_report.specs.Shown.{AreShownEnds, IsShownEnd, IsShownValue, IsWhole}
use Rattle.pc_report.specs.Units.{frac_of}
use Rattle.pc_report.proofs.AveragesBack.{EndsFraction, average_back}
use Rattle.pc_report.proofs.NumbersBack.{scaled_back}
use Rattle.pc_report.proofs.PartsBack.{mark_back}
use Rattle.pc_report.proofs.RunsBack.{is_r}
use Rattle.pc_report.proofs.Scales.{HaveScales-from_well_formed}
use Rattle.pc_report.proofs.Stops.{starts}

-- ---- scales

few_in : (kind : Kind) → HasScale kind → scale_in kind ≤ 6
few_in (Int low high) has = omega arith
few_in (Dec scale low high) has = has
few_in (Cat names) has = omega arith

few_at : (columns : List Column) (place : ℕ) → HaveScales columns → scale_at (slice_get columns place) ≤ 6
few_at [] place have = omega arith
few_at (column ∷ columns) zero have = few_in column.kind (All-head (λ (column : Column). HasScale column.kind) column columns have)
few_at (column ∷ columns) (suc place) have = few_at columns place (All-tail (λ (column : Column). HasScale column.kind) column columns have)

pub few_for : (schema : Schema) (column : Option ℕ) → IsWellFormed schema → scale_for schema column ≤ 6
few_for schema None formed = omega arith
few_for schema (Some place) formed = few_at schema.columns place (HaveScales-from_well_formed schema formed)

-- ---- values

whole_back : (scale : ℕ) (a b : Frac) (r s : List ℕ) → IsWhole a → IsWhole b → EndsFraction r → EndsFraction s → scaled_text a.num scale ++ r ≡ scaled_text b.num scale ++ s → (a ≡ b) × (r ≡ s)
whole_back scale a b r s is other stop end e =
    let fits = is.fits in
    let small = other.fits in
    let nums = scaled_back scale a.num b.num r s (omega (arith, fits)) (omega (arith, small)) stop.digit end.digit e in
    (ap₂ (λ (num den : ℤ). record { num = num; den = den }) nums.0 (is.one ∙ sym other.one), nums.1)

value_back : (schema : Schema) (agg : Agg) (column : Option ℕ) (a b : Frac) (r s : List ℕ) → IsWellFormed schema → IsShownValue agg a → IsShownValue agg b → EndsFraction r → EndsFraction s → value_text schema agg column a ++ r ≡ value_text schema agg column b ++ s → (a ≡ b) × (r ≡ s)
unfolding value_text
value_back schema aggs.Count column a b r s formed is other stop end e = whole_back 0 a b r s is other stop end e
value_back schema aggs.Sum column a b r s formed is other stop end e = whole_back (scale_for schema column) a b r s is other stop end e
value_back schema aggs.Min column a b r s formed is other stop end e = whole_back (scale_for schema column) a b r s is other stop end e
value_back schema aggs.Max column a b r s formed is other stop end e = whole_back (scale_for schema column) a b r s is other stop end e
value_back schema aggs.Avg column a b r s formed is other stop end e = average_back (scale_for schema column) a b r s (few_for schema column formed) is other stop end e

-- ---- ends

mark_ends : (schema : Schema) (mark : Mark) (r : List ℕ) → EndsFraction (mark_text schema mark ++ r)
unfolding titled_text
mark_ends schema (exact runs) r = record { digit = refl; slash = refl }
mark_ends schema outer r = record { digit = refl; slash = refl }

four_parts : (a b c d r : List ℕ) → (a ++ (b ++ (c ++ (d ++ [])))) ++ r ≡ a ++ (b ++ (c ++ (d ++ r)))
four_parts a b c d r = rw (append-nil d, append_assoc a (b ++ (c ++ d)) r, append_assoc b (c ++ d) r) (ap (λ (rest : List ℕ). a ++ (b ++ rest)) (append_assoc c d r))

end_opens : (schema : Schema) (query : Query) (name : List ℕ) (end : End) (r : List ℕ) → end_text schema query name end ++ r ≡ name ++ (codes " " ++ (value_text schema query.agg query.column (frac_of end.value) ++ (mark_text schema end.mark ++ r)))
unfolding end_text
end_opens schema query name end r = four_parts name (codes " ") (value_text schema query.agg query.column (frac_of end.value)) (mark_text schema end.mark) r

end_back : (schema : Schema) (query : Query) (name : List ℕ) (a b : End) (r s : List ℕ) → IsWellFormed schema → IsShownEnd schema query.agg a → IsShownEnd schema query.agg b → starts is_r r ≡ false → starts is_r s ≡ false → end_text schema query name a ++ r ≡ end_text schema query name b ++ s → (a ≡ b) × (r ≡ s)
end_back schema query name a b r s formed is other stop end e =
    let opened = append_cancel_left name _ _ (sym (end_opens schema query name a r) ∙ e ∙ end_opens schema query name b s) in
    let value = value_back schema query.agg query.column (frac_of a.value) (frac_of b.value) _ _ formed is.value other.value (mark_ends schema a.mark r) (mark_ends schema b.mark s) (append_cancel_left (codes " ") _ _ opened) in
    let mark = mark_back schema a.mark b.mark r s formed is.mark other.mark stop end value.1 in
    (ap₂ (λ (number : Ratio) (said : Mark). record { value = number; mark = said }) (ap (λ (f : Frac). record { num = f.num; den = f.den }) value.0) mark.0, mark.1)

both_open : (schema : Schema) (query : Query) (ends : End × End) (r : List ℕ) → ends_text schema query (Some ends) ++ r ≡ end_text schema query (codes "low") ends.0 ++ (end_text schema query (codes "high") ends.1 ++ r)
both_open schema query ends r = append_assoc (end_text schema query (codes "low") ends.0) (end_text schema query (codes "high") ends.1) r

high_stops : (schema : Schema) (query : Query) (end : End) (r : List ℕ) → starts is_r (end_text schema query (codes "high") end ++ r) ≡ false
unfolding end_text
high_stops schema query end r = refl

pub ends_back : (schema : Schema) (query : Query) (a b : Option (End × End)) (r s : List ℕ) → IsWellFormed schema → is_none a ≡ is_none b → AreShownEnds schema query.agg a → AreShownEnds schema query.agg b → starts is_r r ≡ false → starts is_r s ≡ false → ends_text schema query a ++ r ≡ ends_text schema query b ++ s → (a ≡ b) × (r ≡ s)
ends_back schema query None None r s formed alike are others stop end e = (refl, e)
ends_back schema query None (Some b) r s formed alike are others stop end e = absurd (true≢false alike)
ends_back schema query (Some a) None r s formed alike are others stop end e = absurd (false≢true alike)
ends_back schema query (Some a) (Some b) r s formed alike are others stop end e =
    let low = end_back schema query (codes "low") a.0 b.0 _ _ formed are.0 others.0 (high_stops schema query a.1 r) (high_stops schema query b.1 s) (sym (both_open schema query a r) ∙ e ∙ both_open schema query b s) in
    let high = end_back schema query (codes "high") a.1 b.1 r s formed are.1 others.1 stop end low.1 in
    (ap₂ (λ (first last : End). Some (first, last)) low.0 high.0, high.1)
