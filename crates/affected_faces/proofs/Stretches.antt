-- The boundary of a face, edge by edge: an edge that the face does not border may come, go or change. Assumes nothing.
use mathlib.Core.Path.{◌≡◌, refl, sym, ap, ◌∙◌, subst}
use mathlib.Core.Bool.{Bool, true, false, cond, not}
use mathlib.Core.List.Memᴰ
use mathlib.Core.List.{List, [], ◌∷◌, ◌++◌, map, flat_map, Memᴰ, append-nil}
use mathlib.Core.Logic.{◌≢◌}
use Prim.Native.Nat.{ℕ, zero, suc}
use Rattle.lists.specs.Tests.{same}
use Rattle.lists.specs.Scans.{keep}
use Rattle.lists.specs.Members.{Distinct}
use Rattle.lists.proofs.Bools.{same_true, same_false}
use Rattle.lists.proofs.Lookups.{without}
use Rattle.plane.specs.declared.Point.{Point}
use Rattle.curves.specs.Curves.{points}
use Rattle.map.specs.Rows.{Edge, Map, edge, borders, boundary, box_of, rectangle}
use Rattle.map.proofs.Laws.{edge_row_lem}
use Rattle.map_laws.proofs.Readings.{number_of}
use Rattle.affected_faces.specs.Affected.{faces_beside}

-- what an edge adds to the boundary of the face f
abbrev pub part : ℕ → Edge → List Point
part f e = cond (borders f e) (points e.curve) []

-- that, with the number of the edge
pub record Stretch : Type 0 where
  pub number : ℕ
  pub part : List Point

abbrev pub stretch_of : ℕ → Edge → Stretch
stretch_of f e = record { number = e.number; part = part f e }

abbrev pub stretches : ℕ → Map → List Stretch
stretches f m = map (stretch_of f) m.edges

abbrev pub stretch_number : Stretch → ℕ
stretch_number s = s.number

-- the points of all of them
abbrev pub along : List Stretch → List Point
along ss = flat_map (λ s. s.part) ss

boundary-along : (f : ℕ) (es : List Edge) → boundary es f ≡ along (map (stretch_of f) es)
unfolding flat_map
boundary-along f [] = refl
boundary-along f (e ∷ es) = go (borders f e) (boundary-along f es)
  where
    go : (b : Bool) → boundary es f ≡ along (map (stretch_of f) es)
        → flat_map (λ (e : Edge). points e.curve) (cond b (e ∷ keep (borders f) es) (keep (borders f) es))
        ≡ cond b (points e.curve) [] ++ along (map (stretch_of f) es)
    go true h = ap (λ (l : List Point). points e.curve ++ l) h
    go false h = h

-- the same points, the same rectangle
pub same-rectangle : (f : ℕ) (m m' : Map) → along (stretches f m') ≡ along (stretches f m)
    → rectangle m'.edges f ≡ rectangle m.edges f
unfolding rectangle
same-rectangle zero m m' h = refl
same-rectangle (suc f) m m' h =
    ap box_of (boundary-along (suc f) m'.edges ∙ h ∙ sym (boundary-along (suc f) m.edges))

-- ---- stretches put in, left out and replaced

-- stretches without points, put last
pub along_more : (ss ts : List Stretch) → along ts ≡ [] → along (ss ++ ts) ≡ along ss
unfolding flat_map
along_more [] ts h = h
along_more (s ∷ ss) ts h = ap (λ (l : List Point). s.part ++ l) (along_more ss ts h)

pub along_one : (s : Stretch) → s.part ≡ [] → along (s ∷ []) ≡ []
unfolding flat_map
along_one s h = append-nil s.part ∙ h

pub along-two : (s t : Stretch) → s.part ≡ [] → t.part ≡ [] → along (s ∷ t ∷ []) ≡ []
unfolding flat_map
along-two s t h k = λ i. h i ++ (k i ++ [])

-- the stretches with the number e have no points
abbrev pub Blank : ℕ → List Stretch → Type 0
Blank e ss = (s : Stretch) → Memᴰ s ss → s.number ≡ e → s.part ≡ []

pub along_without : (e : ℕ) (ss : List Stretch) → Blank e ss → along (without stretch_number e ss) ≡ along ss
unfolding flat_map
along_without e [] h = refl
along_without e (s ∷ ss) h = go (same s.number e) refl (along_without e ss (λ t k. h t (Memᴰ.tail k)))
  where
    go : (b : Bool) → same s.number e ≡ b → along (without stretch_number e ss) ≡ along ss
        → along (cond (not b) (s ∷ without stretch_number e ss) (without stretch_number e ss)) ≡ s.part ++ along ss
    go true q ih =
        ih ∙ ap (λ (l : List Point). l ++ along ss) (sym (h s (Memᴰ.head refl) (same_true s.number e q)))
    go false q ih = ap (λ (l : List Point). s.part ++ l) ih

-- the stretch x for those with the number e
abbrev pub replaced : ℕ → Stretch → Stretch → Stretch
replaced e x s = cond (same s.number e) x s

pub along_replaced : (e : ℕ) (x : Stretch) (ss : List Stretch) → x.part ≡ [] → Blank e ss
    → along (map (replaced e x) ss) ≡ along ss
unfolding flat_map
along_replaced e x [] n h = refl
along_replaced e x (s ∷ ss) n h =
    go (same s.number e) refl (along_replaced e x ss n (λ t k. h t (Memᴰ.tail k)))
  where
    go : (b : Bool) → same s.number e ≡ b → along (map (replaced e x) ss) ≡ along ss
        → (cond b x s).part ++ along (map (replaced e x) ss) ≡ s.part ++ along ss
    go true q ih = λ i. (n ∙ sym (h s (Memᴰ.head refl) (same_true s.number e q))) i ++ ih i
    go false q ih = ap (λ (l : List Point). s.part ++ l) ih

-- ---- an edge that the face does not border

-- it is neither of the sides
pub record Off (f l r : ℕ) : Type 0 where
  pub left : f ≢ l
  pub right : f ≢ r

pub off_sides : (f : ℕ) (e : Edge) → (Memᴰ f (faces_beside e) → ⊥) → Off f e.left e.right
off_sides f e h = record { left = λ q. h (Memᴰ.head q); right = λ q. h (Memᴰ.tail (Memᴰ.head q)) }

pub off_part : (f : ℕ) (e : Edge) → Off f e.left e.right → part f e ≡ []
off_part f e h =
    rw (same_false e.left f (λ q. h.left (sym q)), same_false e.right f (λ q. h.right (sym q)))

-- the edge e of a map
module _ (f : ℕ) (m : Map) (dis : Distinct (map number_of m.edges)) (e : ℕ)
    (off : Off f (edge m e).left (edge m e).right) where
  -- is any row with its number
  pub row_off : (r : Edge) → Memᴰ r m.edges → r.number ≡ e → Off f r.left r.right
  row_off r k q =
      subst (λ (x : Edge). Off f x.left x.right) (sym (ap (edge m) q) ∙ edge_row_lem m dis r k) off

  pub off_blank : Blank e (stretches f m)
  off_blank s k q = go (Memᴰ.of_map (stretch_of f) m.edges k)
    where
      go : (r : Edge) × Memᴰ r m.edges × (stretch_of f r ≡ s) → s.part ≡ []
      go x =
          sym (ap (λ (s : Stretch). s.part) x.2)
          ∙ off_part f x.0 (row_off x.0 x.1 (ap stretch_number x.2 ∙ q))
