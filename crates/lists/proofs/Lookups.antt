-- Rows by their numbers: looked up, left out, replaced. Assumes nothing.
use mathlib.Core.Path.{◌≡◌, refl, sym, ap, ◌∙◌, subst}
use mathlib.Core.Logic.{◌⊎◌, inl, inr, ◌≢◌}
use mathlib.Core.Bool.{Bool, true, false, cond, not, true≢false}
use mathlib.Core.List.Memᴰ
use mathlib.Core.List.{List, [], ◌∷◌, map, Memᴰ}
use mathlib.Core.List.Permᴰ
use mathlib.Core.List.{Permᴰ}
use mathlib.Core.List.{map-id, ◌++◌}
use mathlib.Core.Option
use mathlib.Core.Option.{Option, none, some, get_or}
use Prim.Native.Nat.{ℕ, suc}
use Rattle.lists.specs.Tests.{same}
use Rattle.lists.specs.Scans.{find, is_some, keep}
use Rattle.lists.specs.Members.{Distinct}
use Rattle.lists.proofs.Bools.{same_refl, same_true, same_false, differ}
use Rattle.lists.proofs.Keeps.{keep-map, keep_all}
use Rattle.lists.proofs.Members.{found, map_same}
use Rattle.lists.proofs.Perms.{perm_length}
use lib.ListN.{length}

-- `look` reads the row with a number, `has` says whether there is one, `without` leaves it out

module _ {A : Type 0} (number : A → ℕ) where
  abbrev pub look : A → List A → ℕ → A
  look u l n = get_or (find (λ r. same (number r) n) l) u

  abbrev pub has : List A → ℕ → Bool
  has l n = is_some (find (λ r. same (number r) n) l)

  abbrev pub without : ℕ → List A → List A
  without n l = keep (λ r. not (same (number r) n)) l

  -- the row with the number n replaced in its place
  abbrev pub replaced : ℕ → A → List A → List A
  replaced n x l = map (λ r. cond (same (number r) n) x r) l

  -- a row is found by its number, where none stands twice
  pub find_row_lem : (l : List A) → Distinct (map number l) → (r : A) → Memᴰ r l
      → find (λ x. same (number x) (number r)) l ≡ some r
  find_row_lem [] dis r m = absurd (Memᴰ.not-nil m)
  find_row_lem (y ∷ l) dis r m = go (find_row_lem l dis.1 r) (Memᴰ.cases_cons m)
    where
      go : (Memᴰ r l → find (λ x. same (number x) (number r)) l ≡ some r) → (r ≡ y) ⊎ Memᴰ r l
          → find (λ x. same (number x) (number r)) (y ∷ l) ≡ some r
      go later (inl e) = rw (e, same_refl (number y))
      go later (inr k) = rw (same_false (number y) (number r) (λ e. dis.0 (Memᴰ.cast e (Memᴰ.map number k)))) (later k)

  pub look_at : (u : A) (l : List A) {r : A} → Distinct (map number l) → Memᴰ r l → look u l (number r) ≡ r
  look_at u l {r} dis m = rw (find_row_lem l dis r m)

  -- a number that is found is that of a row, and the other way round
  pub look_row : (u : A) (l : List A) (n : ℕ) → has l n ≡ true
      → Memᴰ (look u l n) l × (number (look u l n) ≡ n)
  look_row u l n h = let r = found (λ x. same (number x) n) u l h in (r.0, same_true (number (look u l n)) n r.1)

  pub number_has : (u : A) (l : List A) (n : ℕ) → has l n ≡ true → Memᴰ n (map number l)
  number_has u l n h = Memᴰ.cast (sym (look_row u l n h).1) (Memᴰ.map number (look_row u l n h).0)

  pub has_number : (l : List A) (n : ℕ) → Memᴰ n (map number l) → has l n ≡ true
  has_number [] n k = absurd (Memᴰ.not-nil k)
  has_number (x ∷ l) n k = go (same (number x) n) refl (Memᴰ.cases_cons k) (has_number l n)
    where
      go : (b : Bool) → same (number x) n ≡ b → (n ≡ number x) ⊎ Memᴰ n (map number l)
          → (Memᴰ n (map number l) → has l n ≡ true)
          → is_some (cond b (some x) (find (λ r. same (number r) n) l)) ≡ true
      go true e j ih = refl
      go false e (inl q) ih = absurd (differ (number x) n e (sym q))
      go false e (inr j) ih = ih j

  -- rows mapped by a function that keeps their numbers
  module _ (f : A → A) (l : List A) (n : ℕ) (keeps : (r : A) → Memᴰ r l → number (f r) ≡ number r) where
    pub find-map : find (λ x. same (number x) n) (map f l) ≡ Option.map f (find (λ x. same (number x) n) l)
    find-map = go l keeps
      where
        step : (b : Bool) (q : A) (o : Option A)
            → cond b (some (f q)) (Option.map f o) ≡ Option.map f (cond b (some q) o)
        step true q o = refl
        step false q o = refl

        go : (l : List A) → ((r : A) → Memᴰ r l → number (f r) ≡ number r)
            → find (λ x. same (number x) n) (map f l) ≡ Option.map f (find (λ x. same (number x) n) l)
        go [] h = refl
        go (q ∷ l) h = rw (h q (Memᴰ.head refl), go l (λ r k. h r (Memᴰ.tail k)))
            (step (same (number q) n) q (find (λ x. same (number x) n) l))

    pub has_map : is_some (find (λ x. same (number x) n) (map f l)) ≡ is_some (find (λ x. same (number x) n) l)
    has_map = rw find-map (step (find (λ x. same (number x) n) l))
      where
        step : (o : Option A) → is_some (Option.map f o) ≡ is_some o
        step none = refl
        step (some a) = refl

  -- one row replaced: the numbers stay, and each row is the new one or an old one of another number
  pub replaced_numbers : (n : ℕ) (x : A) (l : List A) → number x ≡ n → map number (replaced n x l) ≡ map number l
  replaced_numbers n x [] e = refl
  replaced_numbers n x (y ∷ l) e = (λ i. step (same (number y) n) refl i ∷ replaced_numbers n x l e i)
    where
      step : (b : Bool) → same (number y) n ≡ b → number (cond b x y) ≡ number y
      step true q = e ∙ sym (same_true (number y) n q)
      step false q = refl

  pub replaced_in : (n : ℕ) (x : A) (l : List A) {y : A} → Memᴰ y (replaced n x l)
      → (y ≡ x) ⊎ (Memᴰ y l × (same (number y) n ≡ false))
  replaced_in n x l {y} k = go (Memᴰ.of_map (λ r. cond (same (number r) n) x r) l k)
    where
      pick : (r : A) → Memᴰ r l → (b : Bool) → same (number r) n ≡ b → cond b x r ≡ y
          → (y ≡ x) ⊎ (Memᴰ y l × (same (number y) n ≡ false))
      pick r j true q e = inl (sym e)
      pick r j false q e = inr (Memᴰ.cast (sym e) j, ap (λ (z : A). same (number z) n) (sym e) ∙ q)

      go : (r : A) × Memᴰ r l × (cond (same (number r) n) x r ≡ y)
          → (y ≡ x) ⊎ (Memᴰ y l × (same (number y) n ≡ false))
      go w = pick w.0 w.1 (same (number w.0) n) refl w.2

  -- one row left out: so is its number
  pub without_numbers : (n : ℕ) (l : List A) → map number (without n l) ≡ keep (λ k. not (same k n)) (map number l)
  without_numbers n l = sym (keep-map number (λ r. not (same (number r) n)) (λ k. not (same k n)) l (λ r k. refl))

-- ---- rows mapped, appended, left out

module _ {A : Type 0} (num : A → ℕ) where
  abbrev numbered : ℕ → A → Bool
  numbered n r = same (num r) n

  -- rows mapped by a function that keeps their numbers
  module _ (f : A → A) where
    -- the row is mapped
    pub look_map : (u : A) (rs : List A) (n : ℕ) → ((r : A) → Memᴰ r rs → num (f r) ≡ num r) → has num rs n ≡ true
        → look num u (map f rs) n ≡ f (look num u rs n)
    look_map u rs n h k = rw (find-map num f rs n h) (step (find (numbered n) rs) k)
      where
        step : (o : Option A) → is_some o ≡ true → get_or (Option.map f o) u ≡ f (get_or o u)
        step none e = absurd (true≢false (sym e))
        step (some a) e = refl

    -- what f leaves of a row is read as it was, whatever the number
    pub look_kept : {B : Type 0} (g : A → B) (u : A) (rs : List A) (n : ℕ)
        → ((r : A) → Memᴰ r rs → num (f r) ≡ num r) → ((r : A) → g (f r) ≡ g r)
        → g (look num u (map f rs) n) ≡ g (look num u rs n)
    look_kept {B} g u rs n h k = rw (find-map num f rs n h) (step (find (numbered n) rs))
      where
        step : (o : Option A) → g (get_or (Option.map f o) u) ≡ g (get_or o u)
        step none = refl
        step (some a) = k a

  -- rows appended
  find-append : (rs ss : List A) (n : ℕ)
      → find (numbered n) (rs ++ ss) ≡ cond (has num rs n) (find (numbered n) rs) (find (numbered n) ss)
  find-append [] ss n = refl
  find-append (q ∷ rs) ss n = rw (find-append rs ss n) (step (same (num q) n))
    where
      step : (b : Bool) → cond b (some q) (cond (has num rs n) (find (numbered n) rs) (find (numbered n) ss))
          ≡ cond (is_some (cond b (some q) (find (numbered n) rs))) (cond b (some q) (find (numbered n) rs))
          (find (numbered n) ss)
      step true = refl
      step false = refl

  pub look_first : (u : A) (rs ss : List A) (n : ℕ) → has num rs n ≡ true → look num u (rs ++ ss) n ≡ look num u rs n
  look_first u rs ss n h = rw (find-append rs ss n, h)

  pub look_second : (u : A) (rs ss : List A) (n : ℕ) → has num rs n ≡ false → look num u (rs ++ ss) n ≡ look num u ss n
  look_second u rs ss n h = rw (find-append rs ss n, h)

  pub look_one : (u q : A) → look num u (q ∷ []) (num q) ≡ q
  look_one u q = rw (same_refl (num q))

  -- rows left out
  find_without : (e : ℕ) (rs : List A) (n : ℕ) → n ≢ e → find (numbered n) (without num e rs) ≡ find (numbered n) rs
  find_without e [] n h = refl
  find_without e (q ∷ rs) n h = step (same (num q) e) refl (find_without e rs n h)
    where
      step : (b : Bool) → same (num q) e ≡ b → find (numbered n) (without num e rs) ≡ find (numbered n) rs
          → find (numbered n) (cond (not b) (q ∷ without num e rs) (without num e rs)) ≡ find (numbered n) (q ∷ rs)
      step true s ih = rw (same_false (num q) n (λ p. h (sym p ∙ same_true (num q) e s))) ih
      step false s ih = rw ih

  pub has_without : (e : ℕ) (rs : List A) (n : ℕ) → n ≢ e → has num (without num e rs) n ≡ has num rs n
  has_without e rs n h = ap is_some (find_without e rs n h)

  pub look_without : (u : A) (e : ℕ) (rs : List A) (n : ℕ) → n ≢ e → look num u (without num e rs) n ≡ look num u rs n
  look_without u e rs n h = ap (λ (o : Option A). get_or o u) (find_without e rs n h)

  pub look_none : (u : A) (rs : List A) (n : ℕ) → has num rs n ≡ false → look num u rs n ≡ u
  look_none u rs n h = step (find (numbered n) rs) h
    where
      step : (o : Option A) → is_some o ≡ false → get_or o u ≡ u
      step none e = refl
      step (some a) e = absurd (true≢false e)

  -- nothing to leave out
  without_none : (e : ℕ) (rs : List A) → (Memᴰ e (map num rs) → ⊥) → without num e rs ≡ rs
  without_none e rs h = keep_all _ rs (λ r k. rw (same_false (num r) e (λ p. h (Memᴰ.cast (sym p) (Memᴰ.map num k)))))

  -- a row put before the others, which were without it
  pub without_perm : (u : A) (rs : List A) (e : ℕ) → Distinct (map num rs) → has num rs e ≡ true
      → Permᴰ rs (look num u rs e ∷ without num e rs)
  without_perm u [] e dis h = absurd (true≢false (sym h))
  without_perm u (q ∷ rs) e dis h = step (same (num q) e) refl (without_perm u rs e dis.1) h
    where
      step : (b : Bool) → same (num q) e ≡ b
          → (has num rs e ≡ true → Permᴰ rs (look num u rs e ∷ without num e rs))
          → is_some (cond b (some q) (find (numbered e) rs)) ≡ true
          → Permᴰ (q ∷ rs) (get_or (cond b (some q) (find (numbered e) rs)) u
          ∷ cond (not b) (q ∷ without num e rs) (without num e rs))
      step true s ih k = Permᴰ.cons refl
          (subst (Permᴰ rs) (sym (without_none e rs (λ j. dis.0 (Memᴰ.cast (same_true (num q) e s) j))))
          (Permᴰ.refl rs))
      step false s ih k = Permᴰ.trans (Permᴰ.cons refl (ih k)) (Permᴰ.swap refl refl)

-- one number left out of a list that has it once
pub length_without : (g : ℕ) (fs : List ℕ) → Distinct fs → Memᴰ g fs
    → length fs ≡ suc (length (keep (λ f. not (same f g)) fs))
length_without g fs dis k =
    perm_length (without_perm (λ (n : ℕ). n) 0 fs g (subst Distinct (sym (map-id fs)) dis)
    (has_number (λ (n : ℕ). n) fs g (subst (λ (l : List ℕ). Memᴰ g l) (sym (map-id fs)) k)))

-- ---- one row told apart by its number

module _ {A : Type 0} (num : A → ℕ) where
  -- the row x between those before and after it
  pub record Located (x : A) (l : List A) : Type 0 where
    pub before : List A
    pub after : List A
    pub is : l ≡ before ++ (x ∷ after)
    pub others : without num (num x) l ≡ before ++ after
    pub changed : (f : A → A) → map (λ r. cond (same (num r) (num x)) (f r) r) l ≡ before ++ (f x ∷ after)

  pub located : (l : List A) → Distinct (map num l) → {x : A} → Memᴰ x l → Located x l
  located [] dis m = absurd (Memᴰ.not-nil m)
  located (q ∷ l) dis {x} m = go (Memᴰ.cases_cons m) (λ k. located l dis.1 k)
    where
      here : (q : A) → (Memᴰ (num q) (map num l) → ⊥) → Located q (q ∷ l)
      here q once =
          record {
            before = [];
            after = l;
            is = refl;
            others = rw (same_refl (num q)) (keep_all (λ r. not (same (num r) (num q))) l (λ r k. ap not (other r k)));
            changed = λ f. rw (same_refl (num q))
                (ap (λ (k : List A). f q ∷ k)
                (map_same (λ r. cond (same (num r) (num q)) (f r) r) l (λ r k. rw (other r k))));
          }
        where
          other : (r : A) → Memᴰ r l → same (num r) (num q) ≡ false
          other r k = same_false (num r) (num q) (λ e. once (Memᴰ.cast (sym e) (Memᴰ.map num k)))

      there : Memᴰ x l → Located x l → Located x (q ∷ l)
      there k f =
          record {
            before = q ∷ f.before;
            after = f.after;
            is = ap (λ (k : List A). q ∷ k) f.is;
            others = rw differs (ap (λ (k : List A). q ∷ k) f.others);
            changed = λ g. rw differs (ap (λ (k : List A). q ∷ k) (f.changed g));
          }
        where
          differs : same (num q) (num x) ≡ false
          differs = same_false (num q) (num x) (λ e. dis.0 (Memᴰ.cast e (Memᴰ.map num k)))

      go : (x ≡ q) ⊎ Memᴰ x l → (Memᴰ x l → Located x l) → Located x (q ∷ l)
      go (inl e) ih = subst (λ (y : A). Located y (q ∷ l)) (sym e) (here q dis.0)
      go (inr k) ih = there k (ih k)
