-- The schema and the queries of generated cases.
use Rattle.std.proofs.Common.{◌≡◌, ℕ, true, pos, List, [], ◌∷◌, All, Option, Some, None, refl, arith}
use Rattle.std.specs.Prelude.{codes}
use Rattle.std.specs.List.{list_all}
use Rattle.std.proofs.lemmas.Int.{ints}
use Rattle.std.proofs.lemmas.List.Elements.{All-nil, All-cons}
use Rattle.pc_model.specs.declared.schema.Column.{Column}
use Rattle.pc_model.specs.declared.query.Agg.{Agg}
use Rattle.pc_model.specs.declared.query.Agg.TheVariants.{Count, Sum, Min, Max, Avg}
use Rattle.pc_model.specs.declared.query.Query.{Query}
use Rattle.pc_model.specs.Accepted.{IsQuery, Measures}
use Rattle.pc_model.specs.Texts.{IsName}
use Rattle.pc_model.specs.WellFormed.{IsColumn, IsSpan, AreValues, IsWellFormed}
use Rattle.pc_model.proofs.Areas.{whole_is_area}
use Rattle.pc_gen.specs.Generated.{branch_kind, column_named, day_kind, generated_queries, generated_schema, price_column, price_kind, query_of_all}
use Rattle.pc_model.proofs.PlainNames.{apart, are_apart, is_plain, plain_name}

abbrev branches : List (List ℕ)
branches = codes "A" ∷ codes "B" ∷ codes "C" ∷ codes "D" ∷ []

short_name : (byte : ℕ) → list_all is_plain (byte ∷ []) ≡ true → IsName (byte ∷ [])
short_name byte plain = plain_name (byte ∷ []) plain (omega arith) (omega arith)

branches_named : All IsName branches
branches_named =
    All-cons IsName (codes "A") (codes "B" ∷ codes "C" ∷ codes "D" ∷ []) (short_name 65 refl)
    (All-cons IsName (codes "B") (codes "C" ∷ codes "D" ∷ []) (short_name 66 refl)
    (All-cons IsName (codes "C") (codes "D" ∷ []) (short_name 67 refl)
    (All-cons IsName (codes "D") [] (short_name 68 refl) (All-nil IsName))))

branch_values : AreValues branches
unfolding are_apart
branch_values = record {
  some = omega arith;
  few = omega arith;
  own = record { all = branches_named; different = apart (λ (name : List ℕ). name) branches refl };
}

day_span : IsSpan (pos 1) (pos 31)
day_span = record { small_low = omega arith; small_high = omega arith; ordered = omega (arith, ints) }

price_span : IsSpan (pos 0) (pos 100000)
price_span = record { small_low = omega arith; small_high = omega arith; ordered = omega (arith, ints) }

abbrev branch_column : Column
branch_column = column_named (codes "branch") branch_kind

abbrev day_column : Column
day_column = column_named (codes "day") day_kind

abbrev prices : Column
prices = column_named (codes "price") price_kind

columns_formed : All IsColumn (branch_column ∷ day_column ∷ prices ∷ [])
columns_formed =
    All-cons IsColumn branch_column (day_column ∷ prices ∷ []) (record { name = plain_name (codes "branch") refl (omega arith) (omega arith); kind = branch_values })
    (All-cons IsColumn day_column (prices ∷ []) (record { name = plain_name (codes "day") refl (omega arith) (omega arith); kind = day_span })
    (All-cons IsColumn prices [] (record { name = plain_name (codes "price") refl (omega arith) (omega arith); kind = (omega arith, price_span) }) (All-nil IsColumn)))

pub schema_formed : IsWellFormed generated_schema
unfolding are_apart
schema_formed = record {
  some = omega arith;
  columns = record { few = omega arith; all = columns_formed; own_names = apart (λ (column : Column). column.name) (branch_column ∷ day_column ∷ prices ∷ []) refl };
}

-- ---- queries

abbrev pub IsQueryOfAll : Query → Type 0
IsQueryOfAll query = IsQuery generated_schema query × (query.group ≡ None)

of_all : (agg : Agg) (column : Option ℕ) → Measures generated_schema agg column → IsQueryOfAll (query_of_all agg column)
of_all agg column measured = (record { chosen = whole_is_area generated_schema schema_formed; measured = measured; grouped = tt }, refl)

abbrev count : Query
count = query_of_all Count None

abbrev of_prices : Agg → Query
of_prices agg = query_of_all agg (Some price_column)

pub queries_asked : All IsQueryOfAll generated_queries
queries_asked =
    All-cons IsQueryOfAll count (of_prices Sum ∷ of_prices Min ∷ of_prices Max ∷ of_prices Avg ∷ []) (of_all Count None refl)
    (All-cons IsQueryOfAll (of_prices Sum) (of_prices Min ∷ of_prices Max ∷ of_prices Avg ∷ []) (of_all Sum (Some price_column) tt)
    (All-cons IsQueryOfAll (of_prices Min) (of_prices Max ∷ of_prices Avg ∷ []) (of_all Min (Some price_column) tt)
    (All-cons IsQueryOfAll (of_prices Max) (of_prices Avg ∷ []) (of_all Max (Some price_column) tt)
    (All-cons IsQueryOfAll (of_prices Avg) [] (of_all Avg (Some price_column) tt) (All-nil IsQueryOfAll)))))
