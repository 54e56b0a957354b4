-- Lines do not depend on what faces and pieces are called: over any neighbours, a naming that tells all of them apart.
-- Assumes nothing.
use mathlib.Core.Path.{◌≡◌, refl, sym, ap, ◌∙◌}
use mathlib.Core.Bool.{Bool, true, false, cond, not, beq, ◌&&◌, ◌||◌}
use mathlib.Core.List.Memᴰ
use mathlib.Core.List.{List, [], ◌∷◌, ◌++◌, map, map-append, Memᴰ}
use mathlib.Core.Option
use mathlib.Core.Option.{Option, none, some}
use Prim.Native.Nat.{ℕ, zero, suc}
use lib.Dec.{ltb}
use lib.ListN.{length, length-map}
use Rattle.lists.specs.Tests.{same}
use Rattle.lists.proofs.Bools.{agree, same_eq, same_true}
use Rattle.lists.proofs.Keeps.{keep_in, keep-map}
use Rattle.nesting.specs.Contents.{is_it, Line, line, listed, fresh, others, each, lines, complete}
use Rattle.nesting.specs.Claims.{Part}
use Rattle.nesting.proofs.Walks.{keys, each_none, Sound, lines_sound, line_sound}

abbrev pub renamed : (Bool → ℕ → ℕ) → Line → Line
renamed num l = line l.depth l.piece (num l.piece l.number)

complete-renamed : (f : Line → Line) (n : ℕ) (o : Option (List Line))
    → complete n (Option.map (map f) o) ≡ Option.map (map f) (complete n o)
complete-renamed f n none = refl
complete-renamed f n (some ls) =
    ap (λ v. cond (ltb v n) none (some (map f ls))) (length-map ls f) ∙ go (ltb (length ls) n)
  where
    go : (short : Bool) → cond short none (some (map f ls)) ≡ Option.map (map f) (cond short none (some ls))
    go true = refl
    go false = refl

module _ (beneath beneath' : Bool → ℕ → List ℕ) (num : Bool → ℕ → ℕ) (all : List Part)
    (closed : (b : Bool) (x y : ℕ) → Memᴰ y (beneath b x) → Memᴰ (not b, y) all)
    (under : (b : Bool) (x : ℕ) → Memᴰ (b, x) all → map (num (not b)) (beneath b x) ≡ beneath' b (num b x))
    (apart : (b : Bool) (x y : ℕ) → Memᴰ (b, x) all → Memᴰ (b, y) all → num b x ≡ num b y → x ≡ y) where
  -- ---- tests by number and by name

  same-named : (b : Bool) (x y : ℕ) → Memᴰ (b, x) all → Memᴰ (b, y) all
      → same (num b x) (num b y) ≡ same x y
  same-named b x y m k = agree (same (num b x) (num b y)) (same x y)
      (λ e. same_eq x y (apart b x y m k (same_true (num b x) (num b y) e)))
      (λ e. same_eq (num b x) (num b y) (ap (num b) (same_true x y e)))

  part_named : (b c : Bool) (x y : ℕ) → Memᴰ (b, x) all → Memᴰ (c, y) all
      → beq b c && same (num b x) (num c y) ≡ beq b c && same x y
  part_named true true x y m k = same-named true x y m k
  part_named true false x y m k = refl
  part_named false true x y m k = refl
  part_named false false x y m k = same-named false x y m k

  listed-named : (b : Bool) (x : ℕ) → Memᴰ (b, x) all → (ls : List Line)
      → ((z : Part) → Memᴰ z (keys ls) → Memᴰ z all)
      → listed (map (renamed num) ls) b (num b x) ≡ listed ls b x
  listed-named b x m [] inside = refl
  listed-named b x m (l ∷ ls) inside =
      let here = part_named l.piece b l.number x (inside (l.piece, l.number) (Memᴰ.head refl)) m in
      let later = listed-named b x m ls (λ z k. inside z (Memᴰ.tail k)) in
      λ i. here i || later i

  -- the one that led to something of kind b, by number and by name
  abbrev Led : Bool → Option ℕ → Option ℕ → Type 0
  Led b led led' = (y : ℕ) → Memᴰ (not b, y) all → is_it (num (not b) y) led' ≡ is_it y led

  led_here : (b : Bool) (x : ℕ) → Memᴰ (b, x) all → Led (not b) (some x) (some (num b x))
  led_here true x m y k = same-named true y x k m
  led_here false x m y k = same-named false y x k m

  others-named : (b : Bool) (x : ℕ) (led led' : Option ℕ) → Memᴰ (b, x) all → Led b led led'
      → others led' (beneath' b (num b x)) ≡ map (num (not b)) (others led (beneath b x))
  others-named b x led led' m at = ap (others led') (sym (under b x m))
      ∙ keep-map (num (not b)) (λ y. not (is_it y led)) (λ y. not (is_it y led')) (beneath b x)
      (λ y k. ap not (at y (closed b x y k)))

  -- ---- lines

  abbrev Within : List Line → Type 0
  Within = Sound beneath all closed

  abbrev LinesNamed : ℕ → Type 0
  LinesNamed k = (b : Bool) (x : ℕ) (led led' : Option ℕ) (d : ℕ) (ls : List Line) → Memᴰ (b, x) all
      → Led b led led' → Within ls → lines k beneath' b (num b x) led' d (map (renamed num) ls)
      ≡ Option.map (map (renamed num)) (lines k beneath b x led d ls)

  -- what is listed for y under x, by number and by name
  abbrev down : ℕ → Bool → ℕ → ℕ → ℕ → List Line → Option (List Line)
  down k b x d y = lines k beneath (not b) y (some x) (suc d)

  abbrev down' : ℕ → Bool → ℕ → ℕ → ℕ → List Line → Option (List Line)
  down' k b x d y = lines k beneath' (not b) y (some (num b x)) (suc d)

  -- for each of ws in turn, from the lines o on
  abbrev EachNamed : ℕ → Bool → ℕ → ℕ → List ℕ → Option (List Line) → Type 0
  EachNamed k b x d ws o = each (down' k b x d) (map (num (not b)) ws) (Option.map (map (renamed num)) o)
      ≡ Option.map (map (renamed num)) (each (down k b x d) ws o)

  none_named : (k : ℕ) (b : Bool) (x d : ℕ) (ws : List ℕ) → EachNamed k b x d ws none
  none_named k b x d ws = each_none (down' k b x d) (map (num (not b)) ws)
      ∙ sym (ap (Option.map (map (renamed num))) (each_none (down k b x d) ws))

  each-named : (k : ℕ) → LinesNamed k → (b : Bool) (x d : ℕ) → Memᴰ (b, x) all → (ws : List ℕ)
      → ((w : ℕ) → Memᴰ w ws → Memᴰ (not b, w) all) → (ls : List Line) → Within ls
      → EachNamed k b x d ws (some ls)
  each-named k ih b x d m [] at ls s = refl
  each-named k ih b x d m (w ∷ ws) at ls s =
      ap (each (down' k b x d) (map (num (not b)) ws))
      (ih (not b) w (some x) (some (num b x)) (suc d) ls here (led_here b x m) s)
      ∙ go (down k b x d w ls) refl (each-named k ih b x d m ws (λ v n. at v (Memᴰ.tail n)))
    where
      here : Memᴰ (not b, w) all
      here = at w (Memᴰ.head refl)

      go : (o : Option (List Line)) → down k b x d w ls ≡ o
          → ((mid : List Line) → Within mid → EachNamed k b x d ws (some mid)) → EachNamed k b x d ws o
      go none e rest = none_named k b x d ws
      go (some mid) e rest = rest mid (lines_sound beneath all closed k (not b) w (some x) (suc d) ls mid here e s)

  lines-named : (k : ℕ) → LinesNamed k
  unfolding lines
  lines-named zero b x led led' d ls m at s = refl
  lines-named (suc k) b x led led' d ls m at s =
      (λ i. each (down' k b x d) (others-named b x led led' m at i)
      (fresh (listed-named b x m ls s.inside i) (map (renamed num) ls) (line d b (num b x))))
      ∙ go (listed ls b x) refl (each-named k (lines-named k) b x d m ws near)
    where
      ws : List ℕ
      ws = others led (beneath b x)

      near : (w : ℕ) → Memᴰ w ws → Memᴰ (not b, w) all
      near w j = closed b x w (keep_in (λ y. not (is_it y led)) (beneath b x) j).0

      go : (o : Bool) → listed ls b x ≡ o → ((mid : List Line) → Within mid → EachNamed k b x d ws (some mid))
          → each (down' k b x d) (map (num (not b)) ws) (fresh o (map (renamed num) ls) (line d b (num b x)))
          ≡ Option.map (map (renamed num)) (each (down k b x d) ws (fresh o ls (line d b x)))
      go true e rest = none_named k b x d ws
      go false e rest =
          ap (λ l. each (down' k b x d) (map (num (not b)) ws) (some l))
          (sym (map-append (renamed num) ls (line d b x ∷ [])))
          ∙ rest (ls ++ line d b x ∷ []) (line_sound beneath all closed b x d ls m e s)

  pub contents-renamed : Memᴰ (false, 0) all → num false 0 ≡ 0 → (n : ℕ)
      → complete n (lines (suc n) beneath' false 0 none 0 [])
      ≡ Option.map (map (renamed num)) (complete n (lines (suc n) beneath false 0 none 0 []))
  contents-renamed m e n =
      ap (λ x. complete n (lines (suc n) beneath' false x none 0 [])) (sym e)
      ∙ ap (complete n) (lines-named (suc n) false 0 none none 0 [] m (λ y k. refl)
      (record { once = tt; inside = λ z k. absurd (Memᴰ.not-nil k) }))
      ∙ complete-renamed (renamed num) n (lines (suc n) beneath false 0 none 0 [])
