-- The texts between commas, as far as a loop has come.
use Rattle.std.proofs.Common.{◌≡◌, ℕ, List, [], ◌∷◌, Result, Ok, Err, refl}
use Rattle.pc_model.specs.declared.schema.Column.{Column}
use Rattle.pc_model.specs.Refusals.{◌>>=◌}
use Rattle.pc_desk_divide.specs.declared.division.Division.{Division}
use Rattle.pc_desk_divide.specs.declared.fault.DivisionFault.{DivisionFault}
use Rattle.pc_desk_divide.specs.declared.fault.DivisionFault.TheVariants as faults
use Rattle.pc_desk_divide.specs.Reading.{RefusesAs, divisions_after, texts_of, with_division}

module _ (columns : List Column) (before : List Division) where
  -- the texts after one that is read
  pub text_step : (text first rest : List ℕ) (after : List Division) → texts_of text ≡ first ∷ texts_of rest → with_division columns before first ≡ Ok after → divisions_after columns before (texts_of text) ≡ divisions_after columns after (texts_of rest)
  unfolding divisions_after
  text_step text first rest after split read = rw (split, read) refl

  -- a text that is refused
  text_refused : (text first rest : List ℕ) (fault : DivisionFault) → texts_of text ≡ first ∷ texts_of rest → with_division columns before first ≡ Err fault → divisions_after columns before (texts_of text) ≡ Err fault
  unfolding divisions_after
  text_refused text first rest fault split refused = rw (split, refused) refl

  last_of : (read : Result (List Division) DivisionFault) → (read >>= λ after. divisions_after columns after []) ≡ read
  unfolding divisions_after
  last_of (Ok after) = refl
  last_of (Err fault) = refl

  -- the last text
  pub text_last : (text : List ℕ) → texts_of text ≡ text ∷ [] → divisions_after columns before (texts_of text) ≡ with_division columns before text
  unfolding divisions_after
  text_last text split = rw split (last_of (with_division columns before text))

  pub refusal_step : (text first rest : List ℕ) (fault : DivisionFault) → texts_of text ≡ first ∷ texts_of rest → RefusesAs fault (with_division columns before first) → RefusesAs fault (divisions_after columns before (texts_of text))
  refusal_step text first rest faults.Empty split refused = text_refused text first rest faults.Empty split refused
  refusal_step text first rest (faults.NoColumn said) split refused = text_refused text first rest (faults.NoColumn said) split refused
  refusal_step text first rest (faults.Twice said) split refused = text_refused text first rest (faults.Twice said) split refused
  refusal_step text first rest (faults.NoParts said) split refused = text_refused text first rest (faults.NoParts said) split refused
  refusal_step text first rest (faults.WrongParts said) split refused = text_refused text first rest (faults.WrongParts said) split refused
  refusal_step text first rest (faults.NamesWithParts said) split refused = text_refused text first rest (faults.NamesWithParts said) split refused
  refusal_step text first rest faults.Memory split refused = tt
