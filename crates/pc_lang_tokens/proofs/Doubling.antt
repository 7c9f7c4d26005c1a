-- A name with each quote twice, as far as a loop has come.
use Rattle.std.proofs.Common.{◌≡◌, ◌≤◌, ◌<◌, ℕ, ◌+◌, List, ◌++◌, length, drop, get_or, add-one, drop-cons, append_assoc}
use Rattle.std.proofs.lemmas.List.{append-nil, drop_all}
use Rattle.pc_lang_tokens.specs.Spelling.{byte_text, doubled}

pub doubled_step : (items name : List ℕ) (i d : ℕ) → i < length name → (items ++ byte_text (get_or name i d)) ++ doubled (drop (i + 1) name) ≡ items ++ doubled (drop i name)
unfolding doubled
doubled_step items name i d inside = rw (add-one, drop-cons name i d inside) (append_assoc items (byte_text (get_or name i d)) _)

pub doubled_end : (items name : List ℕ) (i : ℕ) → length name ≤ i → items ++ doubled (drop i name) ≡ items
unfolding doubled
doubled_end items name i past = rw (drop_all i name past) (append-nil items)

pub ruleset doubled_steps = (doubled_step, doubled_end)
