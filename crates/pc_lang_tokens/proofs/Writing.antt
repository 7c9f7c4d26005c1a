-- Tokens that are written one after another, as far as a loop has come.
use Rattle.std.proofs.Common.{◌≡◌, ◌≤◌, ◌<◌, ℕ, ◌+◌, List, ◌++◌, length, drop, get_or, add-one, drop-cons, append_assoc}
use Rattle.std.proofs.lemmas.List.{append-nil, drop_all}
use Rattle.pc_lang_tokens.specs.declared.token.Token.{Token}
use Rattle.pc_lang_tokens.specs.Texts.{next_text, texts_after}

pub next_step : (items : List ℕ) (last : Token) (list : List Token) (i : ℕ) (d : Token) → i < length list → (items ++ next_text last (get_or list i d)) ++ texts_after (get_or list i d) (drop (i + 1) list) ≡ items ++ texts_after last (drop i list)
unfolding texts_after
next_step items last list i d inside = rw (add-one, drop-cons list i d inside) (append_assoc items (next_text last (get_or list i d)) _)

pub next_end : (items : List ℕ) (last : Token) (list : List Token) (i : ℕ) → length list ≤ i → items ++ texts_after last (drop i list) ≡ items
unfolding texts_after
next_end items last list i past = rw (drop_all i list past) (append-nil items)

pub ruleset after_steps = (next_step, next_end)
