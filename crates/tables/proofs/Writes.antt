-- What a table holds after a write. A table of rows `xs`, each w numbers by `cells`, with zeros behind, is `filled N
-- (flat_map cells xs)`: so is the table after a row is pushed, replaced or removed, and a column is swept. Assumes
-- nothing.
use mathlib.Core.Path.{◌≡◌, refl, sym, ap, ◌∙◌}
use mathlib.Core.List.{List, [], ◌∷◌, ◌++◌, map, flat_map, append_assoc}
use Prim.Native.Nat.{ℕ, zero, suc, ◌+◌, ◌*◌, ◌-◌, ◌<◌, ◌≤◌}
use native.Mathlib.Nat.{suc-mul, zero-mul, suc-add, add-mul}
use native.Mathlib.Numerals.{add-one}
use native.Mathlib.Omega.{arith}
use lib.IntN.{ℤ, pos}
use lib.ListN.{length, get_or, set, take, drop, replicate, length-append, length-replicate, length-map, length-drop}
use lib.ListN.{take-append-drop, get_or-append, replicate-append-replicate}
use lib.Seq.{paste, split_at, set_split, drop-drop, take_at, drop_at, take_all, drop-append-add, get_or-append-add}
use lib.Seq.{set-append_left, length-take-le}
use mathlib.Core.Logic.{inl, inr}
use Rattle.lists.specs.Tables.{sweep}
use Rattle.lists.proofs.Bools.{which}
use Rattle.tables.specs.Tables.{filled, same_z, replace_at, closed}
use Rattle.tables.proofs.Order.{replace_length}
use Rattle.tables.proofs.Filled.{Wide, flat_length}

-- ---- parts of a list

module _ {A : Type 0} where
  -- the middle part replaced by one as long
  pub paste_mid : (a b c s : List A) (m n : ℕ) → length a ≡ m → length b ≡ n → length s ≡ n
      → paste (a ++ (b ++ c)) m s n ≡ a ++ (s ++ c)
  paste_mid a b c s m n ha hb hs =
      rw (take_at a (b ++ c) m ha, take_all n s (omega arith), ← ha, drop-append-add a (b ++ c) n, drop_at b c n hb)
      (append_assoc a s c)

  -- the part before the last moved down over the one before it, and the last replaced
  pub close_up : (p c q z s : List A) (m w k : ℕ) → length p ≡ m → length c ≡ w → length q ≡ k → length s ≡ w
      → paste (paste (p ++ (c ++ (q ++ z))) m (drop (m + w) (p ++ (c ++ (q ++ z)))) k) (m + k) s w ≡ p
      ++ (q ++ (s ++ z))
  close_up p c q z s m w k hp hc hq hs =
      let l = p ++ (c ++ (q ++ z)) in
      let d = drop k (c ++ (q ++ z)) in
      let from : drop (m + w) l ≡ q ++ z = ap (λ (j : ℕ). drop (j + w) l) (sym hp)
      ∙ drop-append-add p (c ++ (q ++ z)) w ∙ drop_at c (q ++ z) w hc in
      let past : drop (m + k) l ≡ d = ap (λ (j : ℕ). drop (j + k) l) (sym hp) ∙ drop-append-add p (c ++ (q ++ z)) k in
      let turn : k + w ≡ w + k = omega arith in
      let last : drop w d ≡ z = drop-drop w k (c ++ (q ++ z)) ∙ ap (λ (j : ℕ). drop j (c ++ (q ++ z))) turn
      ∙ sym (drop-drop k w (c ++ (q ++ z))) ∙ ap (drop k) (drop_at c (q ++ z) w hc) ∙ drop_at q z k hq in
      let room : w ≤ length d = simp (length-drop, length-append) (omega arith) in
      let front : length (p ++ q) ≡ m + k = length-append p q ∙ omega arith in
      let inner : paste l m (drop (m + w) l) k ≡ (p ++ q) ++ (take w d ++ z) =
      rw (from, take_at p (c ++ (q ++ z)) m hp, take_at q z k hq, past)
      (ap (λ (r : List A). (p ++ q) ++ r) (sym (take-append-drop w d) ∙ ap (λ (r : List A). take w d ++ r) last)) in
      ap (λ (r : List A). paste r (m + k) s w) inner
      ∙ paste_mid (p ++ q) (take w d) z s (m + k) w front (length-take-le w d room) hs ∙ append_assoc p q (s ++ z)

  set_past : (a b : List A) (j : ℕ) (v : A) → set (a ++ b) (length a + j) v ≡ a ++ set b j v
  set_past [] b j v = ap (λ (k : ℕ). set b k v) (omega arith)
  set_past (x ∷ a) b j v = rw suc-add (ap (λ (l : List A). x ∷ l) (set_past a b j v))

-- the middle part has a number stored
pub set_mid : {A : Type 0} (a b c : List A) (m k : ℕ) (v : A) → length a ≡ m → k < length b
    → set (a ++ (b ++ c)) (m + k) v ≡ a ++ (set b k v ++ c)
set_mid a b c m k v ha hk = rw (← ha, set_past a (b ++ c) k v, set-append_left b c k v hk)

-- ---- rows of w numbers

module _ {A : Type 0} (w : ℕ) (cells : A → List ℤ) where
  pub flat_append : (xs ys : List A) → flat_map cells (xs ++ ys) ≡ flat_map cells xs ++ flat_map cells ys
  unfolding flat_map
  flat_append [] ys = refl
  flat_append (x ∷ xs) ys = rw (flat_append xs ys) (sym (append_assoc (cells x) (flat_map cells xs) (flat_map cells ys)))

  -- a row in the middle
  split : (pre post : List A) (x : A) (rest : List ℤ) → flat_map cells (pre ++ x ∷ post) ++ rest ≡ flat_map cells pre
      ++ (cells x ++ (flat_map cells post ++ rest))
  unfolding flat_map
  split pre post x rest = rw (flat_append pre (x ∷ post), append_assoc, append_assoc)

  -- ---- a row pushed after the last

  pub pushed : (N : ℕ) (xs : List A) (x : A) → Wide w cells xs → length (cells x) ≡ w → length xs * w + w ≤ N
      → paste (filled N (flat_map cells xs)) (length xs * w) (cells x) w ≡ filled N (flat_map cells (xs ++ x ∷ []))
  unfolding flat_map
  pushed N xs x h k fits =
      let z = N - length (flat_map cells xs) - w in
      let long = flat_length w cells xs h in
      let room : N - length (flat_map cells xs) ≡ w + z = omega arith in
      let more : length (flat_map cells (xs ++ x ∷ [])) ≡ length (flat_map cells xs) + w =
      rw (flat_append xs (x ∷ [])) (simp length-append (omega arith)) in
      let left : N - length (flat_map cells (xs ++ x ∷ [])) ≡ z = omega arith in
      ap (λ (r : List ℤ). paste (flat_map cells xs ++ r) (length xs * w) (cells x) w)
      (ap (λ (n : ℕ). replicate n (pos 0)) room ∙ sym (replicate-append-replicate w z (pos 0)))
      ∙ paste_mid (flat_map cells xs) (replicate w (pos 0)) (replicate z (pos 0)) (cells x) (length xs * w) w long
      (length-replicate w (pos 0)) k
      ∙ sym (split xs [] x (replicate z (pos 0)))
      ∙ ap (λ (n : ℕ). flat_map cells (xs ++ x ∷ []) ++ replicate n (pos 0)) (sym left)

  -- ---- a row in the middle

  module _ (N : ℕ) (pre post : List A) (x y : A) (h : Wide w cells pre) (hx : length (cells x) ≡ w)
      (hy : length (cells y) ≡ w) where
    -- as many numbers as before
    long_as : length (flat_map cells (pre ++ y ∷ post)) ≡ length (flat_map cells (pre ++ x ∷ post))
    unfolding flat_map
    long_as = rw (flat_append pre (x ∷ post), flat_append pre (y ∷ post)) (simp length-append (omega arith))

    refill : flat_map cells pre ++ (cells y
        ++ (flat_map cells post ++ replicate (N - length (flat_map cells (pre ++ x ∷ post))) (pos 0)))
        ≡ filled N (flat_map cells (pre ++ y ∷ post))
    refill =
        sym (split pre post y (replicate (N - length (flat_map cells (pre ++ x ∷ post))) (pos 0)))
        ∙ ap (λ (n : ℕ). flat_map cells (pre ++ y ∷ post) ++ replicate (N - n) (pos 0)) (sym long_as)

    -- it is replaced
    pub replaced : paste (filled N (flat_map cells (pre ++ x ∷ post))) (length pre * w) (cells y) w
        ≡ filled N (flat_map cells (pre ++ y ∷ post))
    replaced =
        let z = replicate (N - length (flat_map cells (pre ++ x ∷ post))) (pos 0) in
        ap (λ (r : List ℤ). paste r (length pre * w) (cells y) w) (split pre post x z)
        ∙ paste_mid (flat_map cells pre) (cells x) (flat_map cells post ++ z) (cells y) (length pre * w) w
        (flat_length w cells pre h) hx hy
        ∙ refill

  -- it is gone
  pub removed : (N : ℕ) (pre post : List A) (x : A) (n : ℕ) → Wide w cells pre → length (cells x) ≡ w
      → Wide w cells post → length pre + suc (length post) ≡ n → n * w ≤ N
      → closed w (filled N (flat_map cells (pre ++ x ∷ post))) n (length pre) ≡ filled N (flat_map cells (pre ++ post))
  unfolding flat_map
  removed N pre post x n h hx hp en fits =
      let m = length pre * w in
      let k = length post * w in
      let all = length (flat_map cells (pre ++ x ∷ post)) in
      let size : n * w ≡ m + w + k = rw (← en) (scaled (length pre) (length post)) in
      let long : all ≡ m + w + k = rw (flat_append pre (x ∷ post))
      (simp length-append (omega (arith, flat_length w cells pre h, flat_length w cells post hp))) in
      let short : length (flat_map cells (pre ++ post)) ≡ m + k =
      rw (flat_append pre post) (simp length-append
      (omega (arith, flat_length w cells pre h, flat_length w cells post hp))) in
      let e₁ : n * w - (m + w) ≡ k = omega arith in
      let e₂ : n * w - w ≡ m + k = omega arith in
      let left : w + (N - all) ≡ N - length (flat_map cells (pre ++ post)) = omega arith in
      let z = replicate (N - all) (pos 0) in
      let l = flat_map cells pre ++ (cells x ++ (flat_map cells post ++ z)) in
      ap (λ (r : List ℤ). closed w r n (length pre)) (split pre post x z)
      ∙ ap (λ (j : ℕ). paste (paste l m (drop (m + w) l) j) (n * w - w) (replicate w (pos 0)) w) e₁
      ∙ ap (λ (j : ℕ). paste (paste l m (drop (m + w) l) k) j (replicate w (pos 0)) w) e₂
      ∙ close_up (flat_map cells pre) (cells x) (flat_map cells post) z (replicate w (pos 0)) m w k
      (flat_length w cells pre h) hx (flat_length w cells post hp) (length-replicate w (pos 0))
      ∙ ap (λ (r : List ℤ). flat_map cells pre ++ (flat_map cells post ++ r))
      (replicate-append-replicate w (N - all) (pos 0) ∙ ap (λ (j : ℕ). replicate j (pos 0)) left)
      ∙ sym (append_assoc (flat_map cells pre) (flat_map cells post) _)
      ∙ ap (λ (r : List ℤ). r ++ replicate (N - length (flat_map cells (pre ++ post))) (pos 0))
      (sym (flat_append pre post))
    where
      scaled : (a b : ℕ) → (a + suc b) * w ≡ a * w + w + b * w
      scaled a b = omega (arith, add-mul a (suc b) w, suc-mul b w)

  -- ---- the same by its place

  wide-take : (i : ℕ) (xs : List A) → Wide w cells xs → Wide w cells (take i xs)
  wide-take zero xs h = tt
  wide-take (suc i) [] h = tt
  wide-take (suc i) (x ∷ xs) h = (h.0, wide-take i xs h.1)

  wide-drop : (i : ℕ) (xs : List A) → Wide w cells xs → Wide w cells (drop i xs)
  wide-drop zero xs h = h
  wide-drop (suc i) [] h = tt
  wide-drop (suc i) (x ∷ xs) h = wide-drop i xs h.1

  wide_at : (xs : List A) (i : ℕ) (d : A) → Wide w cells xs → i < length xs → length (cells (get_or xs i d)) ≡ w
  wide_at [] i d h t = absurd (omega arith)
  wide_at (x ∷ xs) zero d h t = h.0
  wide_at (x ∷ xs) (suc i) d h t = wide_at xs i d h.1 (omega arith)

  module _ (N : ℕ) (xs : List A) (i : ℕ) (d : A) (h : Wide w cells xs) (t : i < length xs) where
    place : length (take i xs) ≡ i
    place = length-take-le i xs (omega arith)

    module _ (y : A) (hy : length (cells y) ≡ w) where
      pub replaced_at : paste (filled N (flat_map cells xs)) (i * w) (cells y) w ≡ filled N (flat_map cells (set xs i y))
      replaced_at =
          ap (λ (r : List A). paste (filled N (flat_map cells r)) (i * w) (cells y) w) (split_at xs i d t)
          ∙ ap (λ (j : ℕ). paste (filled N (flat_map cells (take i xs ++ get_or xs i d ∷ drop (suc i) xs))) (j * w)
          (cells y) w) (sym place)
          ∙ replaced N (take i xs) (drop (suc i) xs) (get_or xs i d) y (wide-take i xs h) (wide_at xs i d h t) hy
          ∙ ap (λ (r : List A). filled N (flat_map cells r)) (sym (set_split xs i y t))

    pub removed_at : length xs * w ≤ N → closed w (filled N (flat_map cells xs)) (length xs) i
        ≡ filled N (flat_map cells (take i xs ++ drop (suc i) xs))
    removed_at fits =
        let n = length xs in
        let parts : length (take i xs) + suc (length (drop (suc i) xs)) ≡ n =
        rw (place, length-drop (suc i) xs) (omega arith) in
        ap (λ (r : List A). closed w (filled N (flat_map cells r)) n i) (split_at xs i d t)
        ∙ ap (closed w (filled N (flat_map cells (take i xs ++ get_or xs i d ∷ drop (suc i) xs))) n) (sym place)
        ∙ removed N (take i xs) (drop (suc i) xs) (get_or xs i d) n (wide-take i xs h) (wide_at xs i d h t)
        (wide-drop (suc i) xs h) parts fits

  pub wide-set : (xs : List A) (i : ℕ) (y : A) → Wide w cells xs → length (cells y) ≡ w → Wide w cells (set xs i y)
  wide-set [] i y h k = tt
  wide-set (x ∷ xs) zero y h k = (k, h.1)
  wide-set (x ∷ xs) (suc i) y h k = (h.0, wide-set xs i y h.1 k)

  -- ---- a sweep of the rows

  pub wide-map : (f : A → A) → ((x : A) → length (cells x) ≡ w → length (cells (f x)) ≡ w) → (xs : List A)
      → Wide w cells xs → Wide w cells (map f xs)
  wide-map f width [] h = tt
  wide-map f width (x ∷ xs) h = (width x h.0, wide-map f width xs h.1)

  module _ (g : List ℤ → ℕ → List ℤ) (f : A → A)
      (step : (p rest : List ℤ) (a : ℕ) (x : A) → length p ≡ a * w → length (cells x) ≡ w
      → g (p ++ (cells x ++ rest)) a ≡ p ++ (cells (f x) ++ rest))
      (width : (x : A) → length (cells x) ≡ w → length (cells (f x)) ≡ w) where
    swept_from : (xs : List A) (p rest : List ℤ) (a : ℕ) → Wide w cells xs → length p ≡ a * w
        → sweep g (p ++ (flat_map cells xs ++ rest)) a (length xs) ≡ p ++ (flat_map cells (map f xs) ++ rest)
    unfolding flat_map
    swept_from [] p rest a h e = refl
    swept_from (x ∷ xs) p rest a h e =
        let later = flat_map cells xs ++ rest in
        let n = length xs in
        let next : length (p ++ cells (f x)) ≡ (a + 1) * w = length-append p (cells (f x))
        ∙ rw (add-one, suc-mul) (omega (arith, width x h.0)) in
        ap (λ (r : List ℤ). sweep g (g (p ++ r) a) (a + 1) n) (append_assoc (cells x) (flat_map cells xs) rest)
        ∙ ap (λ (r : List ℤ). sweep g r (a + 1) n)
        (step p later a x e h.0 ∙ sym (append_assoc p (cells (f x)) later))
        ∙ swept_from xs (p ++ cells (f x)) rest (a + 1) h.1 next
        ∙ append_assoc p (cells (f x)) (flat_map cells (map f xs) ++ rest)
        ∙ ap (λ (r : List ℤ). p ++ r) (sym (append_assoc (cells (f x)) (flat_map cells (map f xs)) rest))

    pub swept : (N : ℕ) (xs : List A) → Wide w cells xs → sweep g (filled N (flat_map cells xs)) 0 (length xs)
        ≡ filled N (flat_map cells (map f xs))
    swept N xs h =
        let e : length (flat_map cells xs) ≡ length (flat_map cells (map f xs)) = flat_length w cells xs h
        ∙ ap (λ (n : ℕ). n * w) (sym (length-map xs f))
        ∙ sym (flat_length w cells (map f xs) (wide-map f width xs h)) in
        swept_from xs [] (replicate (N - length (flat_map cells xs)) (pos 0)) 0 h (sym (zero-mul w))
        ∙ ap (λ (n : ℕ). flat_map cells (map f xs) ++ replicate (N - n) (pos 0)) e

  -- `new` for `old` in column k
  module _ (old new : ℤ) (k : ℕ) (f : A → A) (t : k < w)
      (row : (x : A) → replace_at old new (cells x) k ≡ cells (f x)) where
    replace_width : (x : A) → length (cells x) ≡ w → length (cells (f x)) ≡ w
    replace_width x e = ap length (sym (row x)) ∙ replace_length old new (cells x) k ∙ e

    replace_step : (p rest : List ℤ) (a : ℕ) (x : A) → length p ≡ a * w → length (cells x) ≡ w
        → replace_at old new (p ++ (cells x ++ rest)) (a * w + k) ≡ p ++ (cells (f x) ++ rest)
    replace_step p rest a x e h =
        let inside : k < length (cells x) = omega arith in
        let here : get_or (p ++ (cells x ++ rest)) (a * w + k) (pos 0) ≡ get_or (cells x) k (pos 0) =
        ap (λ (m : ℕ). get_or (p ++ (cells x ++ rest)) (m + k) (pos 0)) (sym e)
        ∙ get_or-append-add p (cells x ++ rest) k (pos 0) ∙ get_or-append (cells x) rest (pos 0) k inside in
        replace_alike here (set_mid p (cells x) rest (a * w) k new e inside)
        ∙ ap (λ (r : List ℤ). p ++ (r ++ rest)) (row x)
      where
        replace_alike : get_or (p ++ (cells x ++ rest)) (a * w + k) (pos 0) ≡ get_or (cells x) k (pos 0)
            → set (p ++ (cells x ++ rest)) (a * w + k) new ≡ p ++ (set (cells x) k new ++ rest)
            → replace_at old new (p ++ (cells x ++ rest)) (a * w + k) ≡ p ++ (replace_at old new (cells x) k ++ rest)
        replace_alike here stores = elim
            (which (same_z (get_or (cells x) k (pos 0)) old)) [ inl q ↦ rw (here, q) stores | inr q ↦ rw (here, q) refl ]

    pub column_swept : (N : ℕ) (xs : List A) → Wide w cells xs
        → sweep (λ l i. replace_at old new l (i * w + k)) (filled N (flat_map cells xs)) 0 (length xs)
        ≡ filled N (flat_map cells (map f xs))
    column_swept = swept (λ l i. replace_at old new l (i * w + k)) f replace_step replace_width
