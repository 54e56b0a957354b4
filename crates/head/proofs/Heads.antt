-- The head of a map whose rows and next numbers changed, and the room that is left where neither 20 nor 21 holds.
-- Assumes nothing.
use mathlib.Core.Path.{◌≡◌, sym, ap, ◌∙◌}
use mathlib.Core.Bool.{Bool, true, false, ◌||◌, true≢false}
use Prim.Native.Nat.{ℕ, suc, ◌+◌, ◌-◌, ◌≤◌}
use native.Mathlib.Omega.{arith}
use lib.Dec.{lit<}
use lib.IntN.{ℤ, pos, nat_abs}
use lib.ListN.{length}
use borrow.Author.Tests.{ltb-false}
use Rattle.map.specs.declared.Counts.{Counts}
use Rattle.map.specs.declared.Head.{Head}
use Rattle.map.specs.Limits.{last_number, is_record, limit_of}
use Rattle.map.specs.Rows.{Map, head_of}
use Rattle.map.specs.Reasons.{first_reason}
use Rattle.map.proofs.Reasons.{first_zero}
use Rattle.map.proofs.PointLimits.{record_back}
use Rattle.head.specs.Heads.{UpTo, Counted, Left, changed_head, full_at, spent_at, room_at}

-- the head of a map by its counts and next numbers
pub head_changed : (h : Head) (m : Map) (more less given : Counts) → is_record h.points ≡ true
    → length m.nodes + less.nodes ≡ nat_abs h.nodes + more.nodes
    → length m.edges + less.edges ≡ nat_abs h.edges + more.edges
    → length m.faces + less.faces ≡ nat_abs h.faces + more.faces
    → m.next.nodes ≡ nat_abs h.next_node + given.nodes
    → m.next.edges ≡ nat_abs h.next_edge + given.edges
    → m.next.faces ≡ nat_abs h.next_face + given.faces
    → head_of (limit_of h.points) m ≡ changed_head h more less given
unfolding changed_head
head_changed h m more less given k n e f a b c =
    λ i. record {
      nodes = pos (left_over (length m.nodes) less.nodes (nat_abs h.nodes + more.nodes) n i);
      edges = pos (left_over (length m.edges) less.edges (nat_abs h.edges + more.edges) e i);
      faces = pos (left_over (length m.faces) less.faces (nat_abs h.faces + more.faces) f i);
      next_node = pos (a i);
      next_edge = pos (b i);
      next_face = pos (c i);
      points = record_back h.points k i;
    }
  where
    left_over : (x y z : ℕ) → x + y ≡ z → x ≡ z - y
    left_over x y z e = omega arith

-- a count that an edit leaves as it was
pub unchanged : (n : ℕ) → n + 0 - 0 ≡ n
unchanged n = omega arith

-- a map in tables as they were
pub head_same : {h : Head} → Counted h → (m : Map) → length m.nodes ≡ nat_abs h.nodes
    → length m.edges ≡ nat_abs h.edges → length m.faces ≡ nat_abs h.faces
    → m.next.nodes ≡ nat_abs h.next_node → m.next.edges ≡ nat_abs h.next_edge
    → m.next.faces ≡ nat_abs h.next_face → head_of (limit_of h.points) m ≡ h
head_same {h} k m n e f a b c =
    λ i. record {
      nodes = (ap pos n ∙ sym k.nodes.natural) i;
      edges = (ap pos e ∙ sym k.edges.natural) i;
      faces = (ap pos f ∙ sym k.faces.natural) i;
      next_node = (ap pos a ∙ sym k.next_node.natural) i;
      next_edge = (ap pos b ∙ sym k.next_edge.natural) i;
      next_face = (ap pos c ∙ sym k.next_face.natural) i;
      points = record_back h.points k.recorded i;
    }

-- a wider limit
pub wider : {n k : ℕ} {z : ℤ} → n ≤ k → UpTo n z → UpTo k z
wider le u = record { natural = u.natural; most = omega (arith, u.most) }

-- neither 20 nor 21 holds
three-left : (a b c : Bool) → a || b || c ≡ false → (a ≡ false) × (b ≡ false) × (c ≡ false)
three-left false false false e = (e, e, e)
three-left false false true e = absurd (true≢false e)
three-left false true c e = absurd (true≢false e)
three-left true b c e = absurd (true≢false e)

-- the reason that was asked of a room as it was handed on
pub room_told : {s t : Counts} (h : Head) (rows numbers : Counts) {r : ℕ} → s ≡ t
    → r ≡ first_reason (room_at s h rows numbers) → first_reason (room_at t h rows numbers) ≡ r
room_told h rows numbers e k = sym (k ∙ ap (λ (s : Counts). first_reason (room_at s h rows numbers)) e)

pub room_left : (s : Counts) (h : Head) (rows numbers : Counts) → first_reason (room_at s h rows numbers) ≡ 0
    → Left s h rows numbers
unfolding full_at spent_at
room_left s h rows numbers e =
    let a = first_zero 20 _ _ (lit< tt) e in
    let b = first_zero 21 _ _ (lit< tt) a.1 in
    let p = three-left _ _ _ a.0 in
    let q = three-left _ _ _ b.0 in
    record {
      nodes = ltb-false s.nodes (nat_abs h.nodes + rows.nodes) p.0;
      edges = ltb-false s.edges (nat_abs h.edges + rows.edges) p.1;
      faces = ltb-false s.faces (nat_abs h.faces + rows.faces) p.2;
      next_node = ltb-false (suc last_number) (nat_abs h.next_node + numbers.nodes) q.0;
      next_edge = ltb-false (suc last_number) (nat_abs h.next_edge + numbers.edges) q.1;
      next_face = ltb-false (suc last_number) (nat_abs h.next_face + numbers.faces) q.2;
    }
