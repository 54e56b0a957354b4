-- How many rows and numbers each edit takes. Assumes nothing.
use mathlib.Core.Path.{◌≡◌, refl, sym, ap, ◌∙◌, subst}
use mathlib.Core.Logic.{◌≢◌}
use mathlib.Core.Bool.{Bool, true, false, cond, not, ◌&&◌}
use mathlib.Core.List.Memᴰ
use mathlib.Core.List.{List, [], ◌∷◌, map, Memᴰ}
use Prim.Native.Nat.{ℕ, suc, ◌+◌, ◌≤◌, min}
use native.Mathlib.Nat.{add-zero}
use native.Mathlib.Omega.{arith}
use lib.ListN.{length, length-map, length-append}
use Rattle.lists.specs.Tests.{same, bit}
use Rattle.lists.proofs.Bools.{same_refl, same_eq, same_false}
use Rattle.lists.proofs.Keeps.{keep_has, keep-le, keep-lt}
use Rattle.lists.proofs.Rising.{rising_distinct}
use Rattle.plane.specs.declared.Point.{Point}
use Rattle.curves.specs.Curves.{Curve, start_way}
use Rattle.planar_maps.specs.Map.{fwd}
use Rattle.map.specs.declared.Variant.{Variant}
use Rattle.map.specs.declared.Variant.TheVariants.{New, Mod}
use Rattle.map.specs.Rows.{Edge, Map, edge, has_node, has_edge, at_nodes, at_edge, counts}
use Rattle.map.specs.Darts.{bears}
use Rattle.map.specs.Links.{corner_face}
use Rattle.map.specs.Edits.{is_new, is_mod, add_iso_node, move_iso_node, remove_iso_node, drawn, undrawn, add_iso_edge}
use Rattle.map.specs.Edits.{remove_iso_edge, change_edge_geom, split, heal, drawn_in, splits_face, split_face, shared_out}
use Rattle.map.specs.Edits.{add_edge, renamed, renamed_faces, makes_face, face_left, remove_edge}
use Rattle.map.proofs.Laws.{edge_there_lem}
use Rattle.map_laws.proofs.Readings.{bears_row, Outline, outline_of, outlines}
use Rattle.map_laws.proofs.Reasons.{new_faces}
use Rattle.map_laws.proofs.Outlines.{drawn_outline, drawn-shape, unlink-shape, less_outline, marked, raised, counts_are}
use Rattle.map_laws.proofs.Outlines.{undrawn-next}
use Rattle.map_laws.proofs.Faces.{bears_in, corner_in}
use Rattle.grown.proofs.Numbers.Ranked.{RankedMap, ranked_faces}
use Rattle.grown.proofs.Numbers.Faces.{split_count}
use Rattle.grown.proofs.Numbers.Edges.{drawn_ranked, outline_at, ranked_distinct}
use Rattle.grown.proofs.Numbers.Add.{drawn_has}
use Rattle.grown.proofs.Numbers.Remove.{row_sides, renamed_list, renamed-next}
use Rattle.grown.proofs.Numbers.Split.{split_outlines, split_outlines_lem, placing}
use Rattle.grown.proofs.Numbers.Heal.{joint_of, healed_outline, heal_outlines, heal_outlines_lem}

-- m' has at most so many more rows than m, and has given out so many numbers
pub record Taken (m m' : Map) (a b c x y z : ℕ) : Type 0 where
  pub nodes : length m'.nodes ≤ length m.nodes + a
  pub edges : length (outlines m') ≤ length (outlines m) + b
  pub faces : length m'.faces ≤ length m.faces + c
  pub next : m'.next ≡ raised (counts x y z) m.next

none_more : (n : ℕ) → n ≤ n + 0
none_more n = omega arith

none_given : (m : Map) → m.next ≡ raised (counts 0 0 0) m.next
none_given m = counts_are (sym (add-zero _)) (sym (add-zero _)) (sym (add-zero _))

pub add_node-taken : (p : Point) (m : Map) → Taken m (add_iso_node p m) 1 0 0 1 0 0
unfolding add_iso_node
add_node-taken p m = record {
  nodes = simp length-append (omega arith);
  edges = none_more _;
  faces = none_more _;
  next = refl;
}

pub move_node-taken : (n : ℕ) (p : Point) (m : Map) → Taken m (move_iso_node n p m) 0 0 0 0 0 0
unfolding move_iso_node at_nodes
move_node-taken n p m = record {
  nodes = simp length-map (omega arith);
  edges = none_more _;
  faces = none_more _;
  next = none_given m;
}

pub remove_node-taken : (n : ℕ) (m : Map) → Taken m (remove_iso_node n m) 0 0 0 0 0 0
unfolding remove_iso_node
remove_node-taken n m = record {
  nodes = omega (arith, keep-le (λ r. not (same r.number n)) m.nodes);
  edges = none_more _;
  faces = none_more _;
  next = none_given m;
}

pub change-taken : (e : ℕ) (c : Curve) (m : Map) → Taken m (change_edge_geom e c m) 0 0 0 0 0 0
unfolding change_edge_geom at_edge
change-taken e c m = record {
  nodes = none_more _;
  edges = simp length-map (omega arith);
  faces = none_more _;
  next = none_given m;
}

drawn-taken : (u v : ℕ) (c : Curve) (f : ℕ) (m : Map) → Taken m (drawn u v c f m) 0 1 0 0 1 0
drawn-taken u v c f m =
    let s = drawn-shape u v c f m in
    let e = length-append (outlines m) (drawn_outline m.next.edges u v f ∷ []) in
    let n = length-map m.nodes (marked u v) in
    record {
      nodes = rw s.nodes (omega arith);
      edges = omega (arith, ap length s.outlines);
      faces = rw s.faces (none_more _);
      next = s.next ∙ counts_are (sym (add-zero _)) refl (sym (add-zero _));
    }

pub add-lone-taken : (u v : ℕ) (c : Curve) (m : Map) → Taken m (add_iso_edge u v c m) 0 1 0 0 1 0
unfolding add_iso_edge
add-lone-taken u v c m = drawn-taken u v c _ m

undrawn-taken : (e f : ℕ) (m : Map) → Taken m (undrawn e f m) 0 0 0 0 0 0
unfolding undrawn at_nodes
undrawn-taken e f m =
    let s = unlink-shape e m in
    record {
      nodes = simp length-map (omega (arith, ap length s.nodes));
      edges = omega (arith, ap length s.outlines, keep-le (λ o. not (same o.arc.num e)) (outlines m));
      faces = omega (arith, ap length s.faces);
      next = s.next ∙ none_given m;
    }

pub remove_lone_taken : (e : ℕ) (m : Map) → Taken m (remove_iso_edge e m) 0 0 0 0 0 0
unfolding remove_iso_edge
remove_lone_taken e m = undrawn-taken e _ m

-- ---- split and heal

pub split-taken : (how : Variant) (e : ℕ) (p : Point) (m : Map) → has_edge m e ≡ true
    → Taken m (split how e p m) 1 1 0 1 (cond (is_mod how) 1 2) 0
unfolding split
split-taken how e p m h = record {
  nodes = simp length-append (omega arith);
  edges = omega (arith, ap length (split_outlines_lem how e p m), count how);
  faces = none_more _;
  next = refl;
}
  where
    less : suc (length (less_outline e (outlines m))) ≤ length (outlines m)
    less = keep-lt (λ o. not (same o.arc.num e)) (outlines m) (Memᴰ.map outline_of (edge_there_lem m e h).0)
        (ap not (same_eq (edge m e).number e (edge_there_lem m e h).1))

    count : (k : Variant) → length (split_outlines k e m.next.nodes m.next.edges (outline_of (edge m e))
        (outlines m)) ≤ length (outlines m) + 1
    count Mod = simp (length-append, length-map) (omega arith)
    count New = simp length-append (omega (arith, less))

pub heal-taken : (how : Variant) (e f : ℕ) (m : Map) → has_edge m e ≡ true → e ≢ f
    → Taken m (heal how e f m) 0 0 0 0 (cond (is_mod how) 0 1) 0
unfolding heal
heal-taken how e f m h ne = record {
  nodes = omega (arith, keep-le (λ r. not (same r.number (joint_of m e f))) m.nodes);
  edges = omega (arith, ap length (heal_outlines_lem how e f m), count how);
  faces = none_more _;
  next = refl;
}
  where
    here : Memᴰ (outline_of (edge m e)) (less_outline f (outlines m))
    here = keep_has (λ o. not (same o.arc.num f)) (outlines m) (Memᴰ.map outline_of (edge_there_lem m e h).0)
        (ap not (same_false (edge m e).number f (λ q. ne (sym (edge_there_lem m e h).1 ∙ q))))

    less : suc (length (less_outline e (less_outline f (outlines m)))) ≤ length (less_outline f (outlines m))
    less = keep-lt (λ o. not (same o.arc.num e)) (less_outline f (outlines m)) here
        (ap not (same_eq (edge m e).number e (edge_there_lem m e h).1))

    count : (k : Variant) → length (heal_outlines k e f (healed_outline k e f m) (outlines m)) ≤ length (outlines m) + 0
    count Mod =
        let x = keep-le (λ o. not (same o.arc.num f)) (map (placing e (healed_outline Mod e f m)) (outlines m)) in
        let y = length-map (outlines m) (placing e (healed_outline Mod e f m)) in
        omega arith
    count New =
        let x = keep-le (λ o. not (same o.arc.num f)) (outlines m) in
        simp length-append (omega (arith, less))

-- ---- faces

-- the face of the new edge, on both sides
drawn-bears : (u v : ℕ) (c : Curve) (f : ℕ) (m : Map) → RankedMap (drawn u v c f m)
    → bears (drawn u v c f m) (fwd m.next.edges) ≡ f
drawn-bears u v c f m r = bears_row (drawn u v c f m) (fwd m.next.edges)
    ∙ ap (λ (o : Outline). o.left) (sym
    (outline_at (drawn u v c f m) m.next.edges (ranked_distinct (drawn u v c f m) r)
    (drawn_outline m.next.edges u v f) there refl))
  where
    there : Memᴰ (drawn_outline m.next.edges u v f) (outlines (drawn u v c f m))
    there = subst (λ (os : List Outline). Memᴰ (drawn_outline m.next.edges u v f) os)
        (sym (drawn-shape u v c f m).outlines) (Memᴰ.append_right (outlines m) (Memᴰ.head refl))

split_face-taken : (how : Variant) (e : ℕ) (m : Map) → has_edge m e ≡ true → RankedMap m
    → Taken m (split_face how e m) 0 0 1 0 0 (cond (is_new how && not (same (bears m (fwd e)) 0)) 2 1)
unfolding split_face shared_out
split_face-taken how e m h r = record {
  nodes = simp length-map (omega arith);
  edges = simp length-map (omega arith);
  faces = let old = bears m (fwd e) in omega (
    arith,
    split_count old m.next.faces m.faces (bears_in m (fwd e) h (ranked_faces m r))
        (rising_distinct m.faces r.faces.rises) (is_new how && not (same old 0)),
  );
  next = refl;
}

pub add_edge-taken : (how : Variant) (u v : ℕ) (c : Curve) (m : Map) → has_node m u ≡ true → RankedMap m
    → Taken m (add_edge how u v c m) 0 1 (bit (splits_face u v c m)) 0 1 (new_faces how m u v c)
unfolding add_edge
add_edge-taken how u v c m h r = go (splits_face u v c m)
  where
    f : ℕ
    f = corner_face m u (start_way c)

    one : Taken m (drawn_in u v c m) 0 1 0 0 1 0
    one = drawn-taken u v c f m

    joined : RankedMap (drawn_in u v c m)
    joined = drawn_ranked u v c f m (corner_in m u (start_way c) h (ranked_faces m r)) r

    two : Taken (drawn_in u v c m) (split_face how m.next.edges (drawn_in u v c m)) 0 0 1 0 0
        (cond (is_new how && not (same (bears (drawn_in u v c m) (fwd m.next.edges)) 0)) 2 1)
    two = split_face-taken how m.next.edges (drawn_in u v c m) (drawn_has u v c f m) joined

    bits : (g : Bool) → cond g 2 1 ≡ 1 + bit g
    bits true = refl
    bits false = refl

    go : (b : Bool) → Taken m (cond b (split_face how m.next.edges (drawn_in u v c m)) (drawn_in u v c m)) 0 1
        (bit b) 0 1 (bit b + bit (b && is_new how && not (same (corner_face m u (start_way c)) 0)))
    go true =
        let z : cond (is_new how && not (same (bears (drawn_in u v c m) (fwd m.next.edges)) 0)) 2 1
        ≡ 1 + bit (is_new how && not (same (corner_face m u (start_way c)) 0)) =
        bits (is_new how && not (same (bears (drawn_in u v c m) (fwd m.next.edges)) 0))
        ∙ ap (λ (g : ℕ). 1 + bit (is_new how && not (same g 0))) (drawn-bears u v c f m joined) in
        record {
          nodes = omega (arith, one.nodes, two.nodes);
          edges = omega (arith, one.edges, two.edges);
          faces = omega (arith, one.faces, two.faces);
          next = two.next ∙ ap (raised (counts 0 0 _)) one.next
              ∙ counts_are (add-zero _) (add-zero _) (omega (arith, z));
        }
    go false = one

-- ---- an edge removed

renamed_count : (makes : Bool) (x : Edge) (a : ℕ) (fs : List ℕ) → Memᴰ x.left fs → x.left ≢ a
    → length (renamed_list makes x (cond makes a (min x.left x.right)) fs) ≤ length fs + 0
renamed_count true x a fs k ne =
    let gone : same x.left (renamed x a x.left) ≡ false = rw (same_refl x.left) (same_false x.left a ne) in
    let less = keep-lt (λ g. same g (renamed x a g)) fs k gone in
    simp length-append (omega arith)
renamed_count false x a fs k ne = omega (arith, keep-le (λ g. same g (renamed x (min x.left x.right) g)) fs)

renamed_lengths : (x : Edge) (f : ℕ) (m : Map) → (length (renamed_faces x f m).nodes ≡ length m.nodes)
    × (length (outlines (renamed_faces x f m)) ≡ length (outlines m))
unfolding renamed_faces
renamed_lengths x f m = (length-map m.nodes _, simp length-map)

pub remove_edge-taken : (how : Variant) (e : ℕ) (m : Map) → has_edge m e ≡ true → RankedMap m
    → Taken m (remove_edge how e m) 0 0 0 0 0 (bit (makes_face how e m))
unfolding remove_edge
remove_edge-taken how e m h r =
    let f = face_left how e m in
    let after = renamed_faces (edge m e) f m in
    let t = undrawn-taken e f after in
    let size = renamed_lengths (edge m e) f m in
    let k = (row_sides m e h r).0 in
    record {
      nodes = omega (arith, t.nodes, size.0);
      edges = omega (arith, t.edges, size.1);
      faces = renamed_count (makes_face how e m) (edge m e) m.next.faces m.faces k
          (λ q. let b = r.faces.bounds (edge m e).left k in omega arith);
      next = ap (raised (counts 0 0 (bit (makes_face how e m)))) (undrawn-next e f after ∙ renamed-next (edge m e) f m);
    }
