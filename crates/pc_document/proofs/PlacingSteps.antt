-- Nodes of trees get the places of their parts one after another, in the list that has them.
use Rattle.std.proofs.Common.{◌≡◌, ℕ, ◌+◌, ◌<◌, ◌≤◌, Bool, List, [], ◌∷◌, ◌++◌, length, map, take, drop, get_or, set, refl, sym, ap, ◌∙◌, arith, append_assoc}
use Rattle.std.proofs.lemmas.List.{append-nil, length-drop, length-map, drop-map, map-set, set-get_or, get_or-map, get_or_past, get_or_default, take_all, take_more_set, drop_all, drop-set-lt, at_drop_more}
use Rattle.pc_document.specs.Spans.{ArePast, span}

no_node : span 1 [] ≡ 0
unfolding span
no_node = refl

module _ {A : Type 0} (f : A → Bool) (list : List A) (i : ℕ) (past : List ℕ) (known : ArePast (map f list) past 0) (inside : i < length list) where
  -- what is noted at the place after a node is where the tree that begins there ends
  second_is : get_or past (i + 1) (i + 1) ≡ i + 1 + span 1 (map f (drop (i + 1) list))
  second_is = over (drop (i + 1) list) refl
    where
      over : (rest : List A) → drop (i + 1) list ≡ rest → get_or past (i + 1) (i + 1) ≡ i + 1 + span 1 (map f rest)
      over [] left =
          let many = known.as_many in
          let long = length-map list f in
          let short = length-drop (i + 1) list in
          let ends = ap length left in
          get_or_past past (i + 1) (i + 1) (omega arith) ∙ (let none = no_node in omega arith)
      over (y ∷ rest) left =
          let many = known.as_many in
          let long = length-map list f in
          let short = length-drop (i + 1) list in
          let goes_on = ap length left in
          get_or_default past (i + 1) (i + 1) 0 (omega arith) ∙ known.each (i + 1) (omega arith) (omega arith)
          ∙ ap (λ (flags : List Bool). i + 1 + span 1 flags) (drop-map f (i + 1) list ∙ ap (map f) left)

-- how nodes of a kind get places
module _ {A : Type 0} (f : A → Bool) (put : ℕ → ℕ → A → A) (from : ℕ → List A → List A) where
  -- a node more
  pub place_more : ((k : ℕ) (x : A) (rest : List A) → from k (x ∷ rest) ≡ put (k + 1) (k + 1 + span 1 (map f rest)) x ∷ from (k + 1) rest)
      → (list : List A) (i : ℕ) (past : List ℕ) (d y : A) → ArePast (map f list) past 0 → i < length list → y ≡ put (i + 1) (get_or past (i + 1) (i + 1)) (get_or list i d)
      → take (i + 1) (set list i y) ++ from (i + 1) (drop (i + 1) (set list i y)) ≡ take i list ++ from i (drop i list)
  place_more step list i past d y known inside y_is =
      let rest = drop (i + 1) list in
      let front : take (i + 1) (set list i y) ≡ take i list ++ y ∷ [] = take_more_set list i y inside in
      let back : drop (i + 1) (set list i y) ≡ drop (i + 1) list = drop-set-lt (i + 1) list i y (omega arith) in
      let here = at_drop_more (from i) list i d inside ∙ step i (get_or list i d) rest in
      let placed = y_is ∙ ap (λ n. put (i + 1) n (get_or list i d)) (second_is f list i past known inside) in
      rw (front, back) (append_assoc (take i list) (y ∷ []) (from (i + 1) rest) ∙ ap (λ (later : List A). take i list ++ later) (ap (λ z. z ∷ from (i + 1) rest) placed ∙ sym here))

  pub place_end : ((k : ℕ) → from k [] ≡ []) → (list : List A) (i : ℕ) → length list ≤ i → take i list ++ from i (drop i list) ≡ list
  place_end none list i past_all = ap (λ (later : List A). take i list ++ later) (ap (from i) (drop_all i list past_all) ∙ none i) ∙ append-nil (take i list) ∙ take_all i list past_all

-- a node that is put for one of its kind leaves the kinds
pub kinds_kept : {A : Type 0} (f : A → Bool) (list : List A) (i : ℕ) (d y : A) → i < length list → f y ≡ f (get_or list i d) → map f (set list i y) ≡ map f list
kinds_kept f list i d y inside same =
    let here : f y ≡ get_or (map f list) i (f d) = same ∙ sym (get_or-map f list i d (f d) inside) in
    map-set f list i y ∙ ap (λ b. set (map f list) i b) here ∙ set-get_or (map f list) i (f d)
