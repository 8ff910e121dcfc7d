-- A list of images is searched, changed or taken from as the list itself is.
use Rattle.std.proofs.Common.{◌≡◌, ◌+◌, ◌≤◌, Bool, true, false, cond, ◌||◌, List, [], ◌∷◌, map, Some, sym, refl, ap, ◌∙◌, inl, inr, arith}
use Rattle.std.specs.Option.{option_map}
use Rattle.map_model.specs.Lists.{one, count, has, found, last, front, moved, taken, changed}
use Rattle.map_layout.specs.Layout.{Among}

module _ {X Y : Type 0} (p : X → Bool) (q : Y → Bool) (f : X → Y) (agree : (x : X) → q (f x) ≡ p x) where
  pub count_map : (l : List X) → count q (map f l) ≡ count p l
  count_map [] = refl
  count_map (x ∷ l) = let h = count_map l in let k = ap one (agree x) in omega arith

  pub has_map : (l : List X) → has q (map f l) ≡ has p l
  has_map [] = refl
  has_map (x ∷ l) = ap (λ b. b || has q (map f l)) (agree x) ∙ ap (λ b. p x || b) (has_map l)

  pub found_map : (l : List X) → found q (map f l) ≡ option_map f (found p l)
  found_map [] = refl
  found_map (x ∷ l) =
      ap (λ b. cond b (Some (f x)) (found q (map f l))) (agree x)
      ∙ elim (p x) as (λ b. cond b (Some (f x)) (found q (map f l)) ≡ option_map f (cond b (Some x) (found p l))) [ true ↦ refl | false ↦ found_map l ]

  map_last : (x : X) (l : List X) → last (f x) (map f l) ≡ f (last x l)
  map_last x [] = refl
  map_last x (y ∷ l) = map_last y l

  map_front : (x : X) (l : List X) → front (f x) (map f l) ≡ map f (front x l)
  map_front x [] = refl
  map_front x (y ∷ l) = ap (λ z. f x ∷ z) (map_front y l)

  map_moved : (l : List X) → moved (map f l) ≡ map f (moved l)
  map_moved [] = refl
  map_moved (x ∷ l) = ap (λ z. z ∷ front (f x) (map f l)) (map_last x l) ∙ ap (λ z. f (last x l) ∷ z) (map_front x l)

  pub map_taken : (l : List X) → map f (taken p l) ≡ taken q (map f l)
  map_taken [] = refl
  map_taken (x ∷ l) =
      elim (p x) as (λ b. map f (cond b (moved l) (x ∷ taken p l)) ≡ cond b (moved (map f l)) (f x ∷ taken q (map f l)))
      [ true ↦ sym (map_moved l) | false ↦ ap (λ z. f x ∷ z) (map_taken l) ]
      ∙ ap (λ b. cond b (moved (map f l)) (f x ∷ taken q (map f l))) (sym (agree x))

  -- what is not changed has the same image as before, and the image of what is changed is changed
  pub map_changed : (g : X → Y) (h : X → X) (k : Y → Y) (l : List X) → count p l ≤ 1
      → ((x : X) → Among x l → p x ≡ false → g x ≡ f x) → ((x : X) → Among x l → p x ≡ true → g (h x) ≡ k (f x))
      → map g (changed p h l) ≡ changed q k (map f l)
  map_changed g h k [] c same more = refl
  map_changed g h k (x ∷ l) c same more =
      elim (p x) as (λ b. p x ≡ b → one b + count p l ≤ 1 → map g (cond b (h x ∷ l) (x ∷ changed p h l)) ≡ cond b (k (f x) ∷ map f l) (f x ∷ changed q k (map f l))) [
        | true ↦ λ e d. ap (λ z. z ∷ map g l) (more x (inl refl) e) ∙ ap (λ z. k (f x) ∷ z) (rest l (omega arith) (λ y a n. same y (inr a) n))
        | false ↦ λ e d. ap (λ z. z ∷ map g (changed p h l)) (same x (inl refl) e) ∙ ap (λ z. f x ∷ z) (map_changed g h k l (omega arith) (λ y a n. same y (inr a) n) (λ y a n. more y (inr a) n))
      ] refl c
      ∙ ap (λ b. cond b (k (f x) ∷ map f l) (f x ∷ changed q k (map f l))) (sym (agree x))
    where
      rest : (m : List X) → count p m ≡ 0 → ((y : X) → Among y m → p y ≡ false → g y ≡ f y) → map g m ≡ map f m
      rest [] z s = refl
      rest (y ∷ m) z s =
          elim (p y) as (λ b. p y ≡ b → one b + count p m ≡ 0 → g y ∷ map g m ≡ f y ∷ map f m) [
            | true ↦ λ e d. absurd (omega arith)
            | false ↦ λ e d. ap (λ v. v ∷ map g m) (s y (inl refl) e) ∙ ap (λ v. f y ∷ v) (rest m (omega arith) (λ w a n. s w (inr a) n))
          ] refl z

-- the images agree on what is there
pub map_same : {X Y : Type 0} (f g : X → Y) (l : List X) → ((x : X) → Among x l → f x ≡ g x) → map f l ≡ map g l
map_same f g [] h = refl
map_same f g (x ∷ l) h = ap (λ z. z ∷ map f l) (h x (inl refl)) ∙ ap (λ z. g x ∷ z) (map_same f g l (λ y a. h y (inr a)))
