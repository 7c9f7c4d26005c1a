-- What a box that is inside a predicate, or apart from it, says of its rows.
use Rattle.std.proofs.Common.{◌≡◌, true, false, not, Bool, List, refl, sym, true≢false}
use Rattle.std.proofs.lemmas.Bool.{false_from_ne_true}
use Rattle.std.proofs.lemmas.List.Elements.{All-contains}
use Rattle.std.proofs.lemmas.List.Folds.{Any-from_list_any, list_any-from_Any}
use Rattle.std.specs.Prelude.{Any}
use Rattle.pc_model.specs.declared.row.Row.{Row}
use Rattle.pc_model.specs.declared.region.Region.{Region}
use Rattle.pc_model.specs.declared.area.Area.{Area}
use Rattle.pc_model.specs.declared.constraint.When.{When}
use Rattle.pc_model.specs.declared.constraint.When.TheVariants.{Boxes, Outside}
use Rattle.pc_model.specs.declared.constraint.Constraint.{Constraint}
use Rattle.pc_model.specs.Membership.{has, is_in, is_named, is_named_by_some, is_meant}
use Rattle.pc_model.specs.CutTrees.{IsApart, IsInsideArea, IsApartFromArea}
use Rattle.pc_model.specs.Cells.{IsInsideNamed, IsApartFromNamed, IsInsideWhen, IsApartFromWhen}

module _ (box : Region) (row : Row) (held : has box row ≡ true) where
  pub in-from_inside : (area : Area) → IsInsideArea box area → is_in area row ≡ true
  in-from_inside area inside =
      list_any-from_Any (λ (b : Region). has b row) area.boxes (inside.0, inside.1, inside.2, inside.3, inside.4 row held)

  pub out-from_apart : (area : Area) → IsApartFromArea box area → is_in area row ≡ true → ⊥
  out-from_apart area apart taken =
      let found = Any-from_list_any (λ (b : Region). has b row) area.boxes taken in
      All-contains (IsApart box) area.boxes found.1 apart (found.0, found.2, found.3) row held found.4

  named-from_inside : (when : When) → IsInsideNamed box when → is_named when row ≡ true
  named-from_inside (Boxes area) inside = in-from_inside area inside
  named-from_inside Outside inside = absurd inside

  named-from_apart : (when : When) → IsApartFromNamed box when → is_named when row ≡ true → ⊥
  named-from_apart (Boxes area) apart named = out-from_apart area apart named
  named-from_apart Outside apart named = absurd (true≢false (sym named))

  module _ (constraints : List Constraint) where
    named_somewhere : Any (λ (c : Constraint). IsInsideNamed box c.when) constraints → is_named_by_some constraints row ≡ true
    named_somewhere some =
        list_any-from_Any (λ (c : Constraint). is_named c.when row) constraints (some.0, some.1, some.2, some.3, named-from_inside some.1.when some.4)

    pub meant-from_inside : (when : When) → IsInsideWhen constraints box when → is_meant constraints when row ≡ true
    meant-from_inside (Boxes area) inside = in-from_inside area inside
    meant-from_inside Outside inside = rw (false_from_ne_true (is_named_by_some constraints row) named_nowhere) refl
      where
        named_nowhere : is_named_by_some constraints row ≡ true → ⊥
        named_nowhere named =
            let found = Any-from_list_any (λ (c : Constraint). is_named c.when row) constraints named in
            named-from_apart found.1.when
            (All-contains (λ (c : Constraint). IsApartFromNamed box c.when) constraints found.1 inside (found.0, found.2, found.3)) found.4

    pub meant-from_apart : (when : When) → IsApartFromWhen constraints box when → is_meant constraints when row ≡ true → ⊥
    meant-from_apart (Boxes area) apart meant = out-from_apart area apart meant
    meant-from_apart Outside apart meant = clash (is_named_by_some constraints row) (named_somewhere apart) meant
      where
        clash : (named : Bool) → named ≡ true → not named ≡ true → ⊥
        clash true e f = true≢false (sym f)
        clash false e f = true≢false (sym e)
