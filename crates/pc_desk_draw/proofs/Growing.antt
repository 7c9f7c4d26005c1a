-- The size of the pictures so far, and of those that are left.
use Rattle.std.proofs.Common.{◌≡◌, ℕ, suc, ◌+◌, ◌<◌, ◌≤◌, max, List, [], ◌∷◌, length, get_or, drop, add-one, drop-cons, refl, arith}
use Rattle.std.proofs.lemmas.List.{drop_all}
use Rattle.pc_desk_table.specs.declared.entry.Entry.{Entry}
use Rattle.pc_desk_draw.specs.Questions.{pictures_of}
use Rattle.pc_desk_draw.specs.declared.size.Size.{Size}
use Rattle.pc_desk_draw.specs.Sizes.{grown, grown_by, longest}
use Rattle.pc_desk_draw.specs.Texts.{answer_text}

pub size_step : (size : Size) (entries picture after : List Entry) → pictures_of entries ≡ picture ∷ pictures_of after → grown_by (grown size picture) (pictures_of after) ≡ grown_by size (pictures_of entries)
unfolding grown_by
size_step size entries picture after is = rw is refl

pub size_end : (size : Size) (entries : List Entry) → entries ≡ [] → grown_by size (pictures_of entries) ≡ size
unfolding grown_by pictures_of
size_end size entries is = rw is refl

pub ruleset sizes = (size_step, size_end)

max_again : (columns one more : ℕ) → max (max one columns) more ≡ max columns (max one more)
max_again columns one more = omega arith

module _ (entries : List Entry) (i columns : ℕ) where
  pub longest_step : (entry : Entry) → entry ≡ get_or entries i entry → i < length entries → max (max (length (answer_text entry)) columns) (longest (drop (i + 1) entries)) ≡ max columns (longest (drop i entries))
  unfolding longest
  longest_step entry is inside = rw (add-one, drop-cons entries i entry inside, ← is) (max_again columns (length (answer_text entry)) (longest (drop (suc i) entries)))

  pub longest_end : length entries ≤ i → max columns (longest (drop i entries)) ≡ columns
  unfolding longest
  longest_end end = rw (drop_all i entries end) (omega arith)

pub ruleset lengths = (longest_step, longest_end)
