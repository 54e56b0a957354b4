-- A good map is sound, by document 01's four statements. Assumes nothing.
use mathlib.Core.Path.{◌≡◌, sym, ap, ◌∙◌}
use mathlib.Core.Logic.{◌⊎◌, inl, inr}
use mathlib.Core.Bool.{true}
use mathlib.Core.List.Memᴰ
use mathlib.Core.List.{Memᴰ}
use Prim.Native.Nat.{ℕ}
use native.Mathlib.Omega.{arith}
use lib.ListN.{length-map}
use Rattle.lists.proofs.Perms.{distinct_injective}
use Rattle.geometry.specs.Spots.{Spot, At}
use Rattle.geometry.specs.Drawing.{OnCurve}
use Rattle.geometry.proofs.Edits.{node_shared_lem}
use Rattle.map.specs.Rows.{Node, Edge, Map, node, has_node}
use Rattle.map.specs.Sound.{Sound, AtNode, Ends}
use Rattle.map.proofs.Linked.{rings_bear_one_lem}
use Rattle.map.proofs.Laws.{node_there_lem}
use Rattle.map_laws.proofs.Readings.{arc_of, has_number}
use Rattle.map_laws.proofs.RowChanges.{node_number}
use Rattle.grown.specs.Good.{Good}
use Rattle.grown.proofs.Curves.Apart.{curves_clear_lem}
use Rattle.grown.proofs.Forms.{good_formed}

module _ (m : Map) (g : Good m) where
  -- the nodes of an edge exist
  has_start : (e : Edge) → Memᴰ e m.edges → has_node m e.start ≡ true
  has_start e k = has_number node_number m.nodes e.start
      (g.woven.planar.within.starts (arc_of e) (Memᴰ.map arc_of k))

  has_end : (e : Edge) → Memᴰ e m.edges → has_node m e.end ≡ true
  has_end e k = has_number node_number m.nodes e.end (g.woven.planar.within.ends (arc_of e) (Memᴰ.map arc_of k))

  has_either : (e : Edge) → Memᴰ e m.edges → (n : ℕ) → (n ≡ e.start) ⊎ (n ≡ e.end) → has_node m n ≡ true
  has_either e k n (inl q) = ap (has_node m) q ∙ has_start e k
  has_either e k n (inr q) = ap (has_node m) q ∙ has_end e k

  -- nodes on one point are one node
  one-node : (i j : ℕ) → has_node m i ≡ true → has_node m j ≡ true → (node m i).at ≡ (node m j).at → i ≡ j
  one-node i j h k e =
      let p = node_there_lem m i h in
      let q = node_there_lem m j k in
      sym p.1 ∙ ap node_number (distinct_injective (λ (n : Node). n.at) m.nodes g.surveyed.places (node m i)
      (node m j) p.0 q.0 e) ∙ q.1

  curves : (a b : Edge) → Memᴰ a m.edges → Memᴰ b m.edges → (a.number ≡ b.number → ⊥) → (P : Spot)
      → OnCurve P a.curve → OnCurve P b.curve → AtNode m a b P
  curves a b i j ne P p q =
      go
      (node_shared_lem (λ n. (node m n).at) a.curve b.curve a.start a.end b.start b.end
      (sym (g.surveyed.anchored a i).start) (sym (g.surveyed.anchored a i).end)
      (sym (g.surveyed.anchored b j).start) (sym (g.surveyed.anchored b j).end)
      (λ x y u v. one-node x y (has_either a i x u) (has_either b j y v))
      (curves_clear_lem m g.surveyed a b i j (λ e. ne (ap (λ (r : Edge). r.number) e))) P p q)
    where
      ends : (e : Edge) (n : ℕ) → has_node m n ≡ true → (n ≡ e.start) ⊎ (n ≡ e.end) → Ends e (node m n)
      ends e n h (inl x) = inl (sym x ∙ sym (node_there_lem m n h).1)
      ends e n h (inr x) = inr (sym x ∙ sym (node_there_lem m n h).1)

      go : (n : ℕ) × At P (node m n).at × ((n ≡ a.start) ⊎ (n ≡ a.end)) × ((n ≡ b.start) ⊎ (n ≡ b.end))
          → AtNode m a b P
      go x = let h = has_either a i x.0 x.2 in
          record {
            node = node m x.0;
            row = (node_there_lem m x.0 h).0;
            ends_a = ends a x.0 h x.2;
            ends_b = ends b x.0 h x.3;
            there = x.1;
          }

  pub good_sound : Sound m
  good_sound = record {
    links_once = g.woven.planar.linked.perm;
    rings_bear_one = rings_bear_one_lem m (good_formed m g);
    curves_apart = curves;
    sum = let n = length-map m.nodes node_number in let e = length-map m.edges arc_of in
        omega (arith, g.woven.planar.euler);
  }
