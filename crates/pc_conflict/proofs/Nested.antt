-- Some of constraints any two of which are nested are so too, though more rows may be outside them.
use Rattle.std.proofs.Common.{◌≡◌, ◌⊎◌, true, not, List, Contains, inl, inr, sym, ap, ◌∙◌}
use Rattle.std.proofs.lemmas.Bool.{false≢true}
use Rattle.std.proofs.lemmas.List.Folds.{list_any_at}
use Rattle.pc_model.specs.declared.schema.Schema.{Schema}
use Rattle.pc_model.specs.declared.row.Row.{Row}
use Rattle.pc_model.specs.declared.constraint.When.{When}
use Rattle.pc_model.specs.declared.constraint.When.TheVariants.{Boxes, Outside}
use Rattle.pc_model.specs.declared.constraint.Constraint.{Constraint}
use Rattle.pc_model.specs.Membership.{AreTwoNested, in_domain, is_meant, is_named, is_named_by_some}

abbrev AreNestedWhens : Schema → List Constraint → When → When → Type 0
AreNestedWhens schema constraints when other =
    ((row : Row) → in_domain schema row ≡ true → is_meant constraints when row ≡ true → is_meant constraints other row ≡ true → ⊥)
    ⊎ (((row : Row) → in_domain schema row ≡ true → is_meant constraints when row ≡ true → is_meant constraints other row ≡ true)
    ⊎ ((row : Row) → in_domain schema row ≡ true → is_meant constraints other row ≡ true → is_meant constraints when row ≡ true))

-- what is of no constraint's area and of the area of one
module _ (rest : List Constraint) (row : Row) where
  not_named : is_named_by_some rest row ≡ true → not (is_named_by_some rest row) ≡ true → ⊥
  not_named named out = false≢true (ap not (sym named) ∙ out)

  names_one : (c : Constraint) → Contains rest c → is_named c.when row ≡ true → is_named_by_some rest row ≡ true
  names_one c there names = list_any_at (λ (d : Constraint). is_named d.when row) rest there.0 c there.1 (ap (λ (d : Constraint). is_named d.when row) there.2 ∙ names)

module _ (schema : Schema) (whole rest : List Constraint) where
  abbrev IsAmong : When → Type 0
  IsAmong when = (row : Row) → is_named when row ≡ true → is_named_by_some rest row ≡ true

  nested_still : (when other : When) → IsAmong when → IsAmong other → AreNestedWhens schema whole when other → AreNestedWhens schema rest when other
  nested_still (Boxes area) (Boxes box) here there nested = nested
  nested_still (Boxes area) Outside here there nested = inl (λ row within meant out. not_named rest row (here row meant) out)
  nested_still Outside (Boxes box) here there nested = inl (λ row within out meant. not_named rest row (there row meant) out)
  nested_still Outside Outside here there nested = inr (inl (λ row within out. out))

  pub two_still : (c other : Constraint) → Contains rest c → Contains rest other → AreTwoNested schema whole c other → AreTwoNested schema rest c other
  two_still c other here there nested = nested_still c.when other.when (λ row names. names_one rest row c here names) (λ row names. names_one rest row other there names) nested
