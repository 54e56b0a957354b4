-- A face shared out between the two sides of an edge: each ring goes whole to one side, and new numbers go back to old
-- ones. Assumes nothing.
use mathlib.Core.Path.{◌≡◌, refl, sym, ap, ◌∙◌}
use mathlib.Core.Logic.{◌⊎◌, inl, inr, ◌≢◌}
use mathlib.Core.Bool.{Bool, true, false, cond, true≢false}
use mathlib.Core.List.{List, Memᴰ}
use Prim.Native.Nat.{ℕ, suc, ◌≤◌, ◌<◌}
use native.Mathlib.Omega.{arith}
use lib.ListN.{length}
use Rattle.lists.specs.Members.{Distinct}
use Rattle.lists.proofs.Bools.{same_false, same_eq, not-true}
use Rattle.planar_maps.specs.Map.{Dart, rev, Linked}
use Rattle.planar_maps.specs.Pieces.{nums}
use Rattle.planar_maps.proofs.Rings.{rev_in}
use Rattle.map.specs.Rows.{Map, node, edge}
use Rattle.map.specs.Darts.{arcs, directed, leaves, next, bears, ring, among, lowest_edge}
use Rattle.map.specs.Faces.{encloses}
use Rattle.map.specs.Edits.{Shares, side_of_point, side_of_ring, side_of_dart}
use Rattle.map_laws.proofs.Rings.{among_has, among_in, ring_here, ring_leads, ring_has, ring_alike, leads_back}
use Rattle.map_laws.proofs.Rings.{lowest_same}
use Rattle.grown.proofs.Numbers.Faces.{shares_of, split_list, split_count}

-- ---- what a directed edge comes to bear

module _ (m : Map) (s : Shares) where
  -- one of the two new numbers, or what it bore
  pub side_new : (d : Dart) → bears m d ≡ s.old → (side_of_dart m s d ≡ s.ref) ⊎ (side_of_dart m s d ≡ s.other)
  unfolding side_of_dart side_of_ring side_of_point
  side_new d e = rw (same_eq (bears m d) s.old e)
      (go (among s.ref_ring d) (among s.other_ring d)
      (encloses m s.ref_ring (node m (edge m (lowest_edge d.edge (ring m d))).start).at))
    where
      go : (x y z : Bool) → (cond x s.ref (cond y s.other (cond z s.ref s.other)) ≡ s.ref)
          ⊎ (cond x s.ref (cond y s.other (cond z s.ref s.other)) ≡ s.other)
      go true y z = inl refl
      go false true z = inr refl
      go false false true = inl refl
      go false false false = inr refl

  pub side_old : (d : Dart) → bears m d ≢ s.old → side_of_dart m s d ≡ bears m d
  unfolding side_of_dart
  side_old d ne = rw (same_false (bears m d) s.old ne)

  side_ref : (d : Dart) → bears m d ≡ s.old → among s.ref_ring d ≡ true → side_of_dart m s d ≡ s.ref
  unfolding side_of_dart
  side_ref d e h = rw (same_eq (bears m d) s.old e, h)

  side_other : (d : Dart) → bears m d ≡ s.old → among s.ref_ring d ≡ false → among s.other_ring d ≡ true
      → side_of_dart m s d ≡ s.other
  unfolding side_of_dart
  side_other d e h k = rw (same_eq (bears m d) s.old e, h, k)

-- ---- in a linked map

-- two rings that are apart, seen from either
pub apart-rev : (m : Map) → Linked (arcs m) (leaves m) (next m) (bears m) → Distinct (nums (arcs m)) → (c d : Dart)
    → Memᴰ c (directed m) → Memᴰ d (directed m) → among (ring m c) d ≡ false → among (ring m d) c ≡ false
apart-rev m l dis c d i j h = not-true (among (ring m d) c)
    (λ e. true≢false
    (sym (among_has (ring m c) (ring_has m l dis c i
    (leads_back m l dis j (ring_leads m l dis d j (among_in (ring m d) c e))))) ∙ h))

-- the rings of a directed edge x and of its reverse
module _ (m : Map) (l : Linked (arcs m) (leaves m) (next m) (bears m)) (dis : Distinct (nums (arcs m))) (s : Shares)
    (x : Dart) (i : Memᴰ x (directed m))
    (ref-ring : s.ref_ring ≡ ring m x) (other-ring : s.other_ring ≡ ring m (rev x)) where
  -- along the links it is one number
  pub side_keeps : (d : Dart) → Memᴰ d (directed m) → side_of_dart m s (next m d) ≡ side_of_dart m s d
  unfolding side_of_dart side_of_ring
  side_keeps d k = rw (
    ref-ring,
    other-ring,
    l.keeps d k,
    ring_alike m l dis x i d k,
    ring_alike m l dis (rev x) (rev_in (arcs m) i) d k,
    lowest_same m l dis k (1, refl),
  )

  module _ (apart : among (ring m x) (rev x) ≡ false) (on : bears m x ≡ s.old)
      (on-rev : bears m (rev x) ≡ s.old) where
    -- the two sides
    pub side_x : side_of_dart m s x ≡ s.ref
    side_x = side_ref m s x on (ap (λ r. among r x) ref-ring ∙ among_has (ring m x) (ring_here m l dis x i))

    pub side_rev : side_of_dart m s (rev x) ≡ s.other
    side_rev = side_other m s (rev x) on-rev (ap (λ r. among r (rev x)) ref-ring ∙ apart)
        (ap (λ r. among r (rev x)) other-ring ∙ among_has (ring m (rev x))
        (ring_here m l dis (rev x) (rev_in (arcs m) i)))

-- ---- the numbers of the two sides

-- fs were the faces, all below `fresh`, and fs' are they now
pub record Sharing (s : Shares) (fresh : ℕ) (fs fs' : List ℕ) : Type 0 where
  pub differ : s.ref ≢ s.other
  pub ref_new : (s.ref ≡ s.old) ⊎ (fresh ≤ s.ref)
  pub other_new : (s.other ≡ s.old) ⊎ (fresh ≤ s.other)
  pub count : length fs' ≡ suc (length fs)

module _ (old a : ℕ) (fs : List ℕ) (dis : Distinct fs) (below : (g : ℕ) → Memᴰ g fs → g < a)
    (there : Memᴰ old fs) (left right : List Dart) where
  pub sharing : (goes is_left : Bool) → Sharing (shares_of goes is_left old a left right) a fs (split_list goes old a fs)
  sharing true true =
      record {
        differ = λ p. omega arith;
        ref_new = inr (omega arith);
        other_new = inr (omega arith);
        count = split_count old a fs there dis true;
      }
  sharing true false =
      record {
        differ = λ p. omega arith;
        ref_new = inr (omega arith);
        other_new = inr (omega arith);
        count = split_count old a fs there dis true;
      }
  sharing false true = record {
    differ = λ p. omega (arith, below old there);
    ref_new = inr (omega arith);
    other_new = inl refl;
    count = split_count old a fs there dis false;
  }
  sharing false false = record {
    differ = λ p. omega (arith, below old there);
    ref_new = inr (omega arith);
    other_new = inl refl;
    count = split_count old a fs there dis false;
  }
