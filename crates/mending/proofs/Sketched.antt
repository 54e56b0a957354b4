-- `sketched` is form but for the links, the faces on rings and departures in one direction. Assumes nothing.
use mathlib.Core.Path.{◌≡◌, sym, ◌∙◌}
use mathlib.Core.Logic.{inl, inr}
use mathlib.Core.Bool.{Bool, true, ◌&&◌, true≢false}
use mathlib.Core.List.{Memᴰ}
use Rattle.lists.specs.Scans.{all_of}
use Rattle.lists.proofs.Bools.{which, not-true, and-true, and_is}
use Rattle.lists.proofs.Members.{all_each, each_all}
use Rattle.map.specs.Rows.{Edge, Map, Lent, map_of, has_node, has_edge, has_face, face_rows, rectangle}
use Rattle.map.specs.Form.{ranged, numbers, in_face, edge_names, named, curve_fits, departures_differ, bare_marked}
use Rattle.map.specs.Form.{links_once, links_meet, rings_bear_one, formed, has_box, boxed, in_form}
use Rattle.map.proofs.Laws.{formed_is, names, in_form_is}
use Rattle.mending.specs.Mend.{sides_named, sketched}
use Rattle.mending.specs.Claims.{links_named, SketchedButFor}

-- the conditions on rows that `sketched` keeps
pub record Sketch (m : Map) : Type 0 where
  pub rising : numbers m ≡ true
  pub faces : all_of (λ n. in_face m n.face) m.nodes ≡ true
  pub sides : all_of (sides_named m) m.edges ≡ true
  pub curves : all_of (curve_fits m) m.edges ≡ true
  pub bare : bare_marked m ≡ true

-- those that it leaves out
pub record Linking (m : Map) : Type 0 where
  pub departures : departures_differ m ≡ true
  pub links : all_of (links_named m) m.edges ≡ true
  pub once : links_once m ≡ true
  pub meet : links_meet m ≡ true
  pub rings : rings_bear_one m ≡ true

-- the face rows have the rectangles that the edges give
abbrev pub Boxed : Lent → Type 0
Boxed l = all_of (has_box (rectangle (map_of l).edges)) (face_rows l) ≡ true

pub sketched_is : (l : Lent) → sketched l ≡ true → (ranged l ≡ true) × Sketch (map_of l) × Boxed l
unfolding sketched boxed
sketched_is l h =
    let h₀ = and-true _ (boxed l) h in
    let h₁ = and-true _ (bare_marked (map_of l)) h₀.0 in
    let h₂ = and-true _ (all_of (curve_fits (map_of l)) (map_of l).edges) h₁.0 in
    let h₃ = and-true _ (all_of (sides_named (map_of l)) (map_of l).edges) h₂.0 in
    let h₄ = and-true _ (all_of (λ n. in_face (map_of l) n.face) (map_of l).nodes) h₃.0 in
    let h₅ = and-true (ranged l) (numbers (map_of l)) h₄.0 in
    (h₅.0, record { rising = h₅.1; faces = h₄.1; sides = h₃.1; curves = h₂.1; bare = h₁.1 }, h₀.1)

is_sketched : (l : Lent) → ranged l ≡ true → Sketch (map_of l) → Boxed l → sketched l ≡ true
unfolding sketched boxed
is_sketched l r k b =
    and_is (and_is (and_is (and_is (and_is (and_is r k.rising) k.faces) k.sides) k.curves) k.bare) b

-- ---- both make a map in form

module _ (m : Map) where
  -- the names of a row: nodes and faces, and edges
  name_both : (e : Edge) → edge_names m e ≡ true → (sides_named m e ≡ true) × (links_named m e ≡ true)
  name_both e h =
      let h₁ = and-true _ (has_face m e.right) h in
      let h₂ = and-true _ (has_face m e.left) h₁.0 in
      let h₃ = and-true _ (has_edge m e.next_right.edge) h₂.0 in
      let h₄ = and-true (has_node m e.start && has_node m e.end) (has_edge m e.next_left.edge) h₃.0 in
      (and_is (and_is h₄.0 h₂.1) h₁.1, and_is h₄.1 h₃.1)

  both_name : (e : Edge) → sides_named m e ≡ true → links_named m e ≡ true → edge_names m e ≡ true
  both_name e h k =
      let h₁ = and-true _ (has_face m e.right) h in
      let h₂ = and-true (has_node m e.start && has_node m e.end) (has_face m e.left) h₁.0 in
      let k₁ = and-true (has_edge m e.next_left.edge) (has_edge m e.next_right.edge) k in
      and_is (and_is (and_is (and_is h₂.0 k₁.0) k₁.1) h₂.1) h₁.1

  formed-parts : formed m ≡ true → Sketch m × Linking m
  unfolding named
  formed-parts h =
      let f = formed_is m h in
      let row : (e : Edge) → Memᴰ e m.edges → (sides_named m e ≡ true) × (links_named m e ≡ true) =
      λ e k. name_both e (names m h e k) in (
        record {
          rising = f.rising;
          faces = (and-true (all_of (λ n. in_face m n.face) m.nodes) (all_of (edge_names m) m.edges) f.named).0;
          sides = each_all (sides_named m) m.edges (λ e k. (row e k).0);
          curves = f.curves;
          bare = f.bare;
        },
        record {
          departures = f.departures;
          links = each_all (links_named m) m.edges (λ e k. (row e k).1);
          once = f.once;
          meet = f.meet;
          rings = f.rings;
        },
      )

  pub parts-formed : Sketch m → Linking m → formed m ≡ true
  unfolding formed named
  parts-formed s k =
      let row : (e : Edge) → Memᴰ e m.edges → edge_names m e ≡ true =
      λ e i. both_name e (all_each (sides_named m) m.edges s.sides e i)
      (all_each (links_named m) m.edges k.links e i) in
      let names = and_is s.faces (each_all (edge_names m) m.edges row) in
      and_is (and_is (and_is (and_is (and_is (and_is (and_is s.rising names) s.curves) k.departures) s.bare)
      k.once) k.meet) k.rings

pub in_form-sketched : (l : Lent) → in_form l ≡ true → (sketched l ≡ true) × Linking (map_of l)
in_form-sketched l h =
    let k = in_form_is l h in
    let p = formed-parts (map_of l) k.formed in
    (is_sketched l k.ranged p.0 k.boxed, p.1)

sketched-in_form : (l : Lent) → sketched l ≡ true → Linking (map_of l) → in_form l ≡ true
unfolding in_form boxed
sketched-in_form l h k = let s = sketched_is l h in and_is (and_is s.0 (parts-formed (map_of l) s.1 k)) s.2

pub sketched_but_for : SketchedButFor
sketched_but_for l =
    elim (which (in_form l)) [
      | inl e ↦ e ∙ sym (there e)
      | inr e ↦ e ∙ sym (not-true _ (λ q. true≢false (sym (back q) ∙ e)))
    ]
  where
    m : Map
    m = map_of l

    rest : Bool
    rest = sketched l && departures_differ m && all_of (links_named m) m.edges && links_once m && links_meet m
        && rings_bear_one m

    there : in_form l ≡ true → rest ≡ true
    there h =
        let p = in_form-sketched l h in
        let k = p.1 in
        and_is (and_is (and_is (and_is (and_is p.0 k.departures) k.links) k.once) k.meet) k.rings

    back : rest ≡ true → in_form l ≡ true
    back h =
        let h₁ = and-true _ (rings_bear_one m) h in
        let h₂ = and-true _ (links_meet m) h₁.0 in
        let h₃ = and-true _ (links_once m) h₂.0 in
        let h₄ = and-true _ (all_of (links_named m) m.edges) h₃.0 in
        let h₅ = and-true (sketched l) (departures_differ m) h₄.0 in
        sketched-in_form l h₅.0
        (record { departures = h₅.1; links = h₄.1; once = h₃.1; meet = h₂.1; rings = h₁.1 })
