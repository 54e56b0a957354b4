-- The join of two arcs at a common end. Assumes nothing.
use mathlib.Core.Path.{◌≡◌, refl, sym, ap, ◌∙◌}
use mathlib.Core.Bool.{Bool, true, false}
use mathlib.Core.List.Memᴰ
use mathlib.Core.List.{List, [], ◌∷◌, ◌++◌, Memᴰ}
use mathlib.Core.Logic.{◌⊎◌, inl, inr, ◌≢◌}
use Prim.Native.Nat.{ℕ, suc, ◌+◌}
use lib.ListN.{length}
use Rattle.plane.specs.declared.Point.{Point}
use Rattle.plane.specs.Segments.{straight_between}
use Rattle.curves.specs.Curves.{last_of, second_of, before_last}
use Rattle.curves.specs.Edits.{dropped, join_here, join}
use Rattle.geometry.specs.Spots.{Spot, At, SameWay}
use Rattle.geometry.specs.Meaning.{On, Differ, SimpleArc, Simple, Some, End, Clear}
use Rattle.geometry.proofs.Segments.{at_one}
use Rattle.geometry.proofs.Meeting.{straight_between-true}
use Rattle.geometry.proofs.Alike.{Alike, alike_refl, alike_sym, alike_cons, alike_insert}
use Rattle.geometry.proofs.Chains.{on_front, on_back, on_split, last_append, differ_join, Closing, Cut}
use Rattle.geometry.proofs.Chains.{simple-join, simple-arc}
use Rattle.geometry.proofs.Cutting.{second_append, before-append}

-- with the joint dropped, or not
pub join_alike : (a : Point) (r s : List Point) → Some r → Some s → Alike a (r ++ s) (join a r s)
join_alike a [] s h k = absurd h
join_alike a (m ∷ []) [] h k = absurd k
join_alike a (m ∷ []) (y ∷ s) h k = go (straight_between a m y) refl
  where
    go : (b : Bool) → straight_between a m y ≡ b → Alike a (m ∷ y ∷ s) (join_here b m (y ∷ s))
    go true e = alike_sym (alike_insert (straight_between-true a m y e) s)
    go false e = alike_refl a (m ∷ y ∷ s) tt
join_alike a (b ∷ c ∷ r) s h k = alike_cons a b (join_alike b (c ∷ r) s tt k)

pub join_count : (a : Point) (r s : List Point) → (length (join a r s) ≡ length (r ++ s))
    ⊎ (suc (length (join a r s)) ≡ length (r ++ s))
join_count a [] s = inl refl
join_count a (m ∷ []) s = go (dropped a m s)
  where
    go : (b : Bool) → (length (join_here b m s) ≡ suc (length s)) ⊎ (suc (length (join_here b m s)) ≡ suc (length s))
    go true = inr refl
    go false = inl refl
join_count a (b ∷ c ∷ r) s = go (join_count b (c ∷ r) s)
  where
    go : {x y : ℕ} → (x ≡ y) ⊎ (suc x ≡ y) → (suc x ≡ suc y) ⊎ (suc (suc x) ≡ suc y)
    go (inl e) = inl (ap suc e)
    go (inr e) = inr (ap suc e)

module _ (a : Point) (r s : List Point) (h : Some r) (k : Some s) where
  pub join_some : Some (join a r s)
  join_some = (join_alike a r s h k).some'

  pub join_last : last_of a (join a r s) ≡ last_of (last_of a r) s
  join_last = sym (join_alike a r s h k).last ∙ last_append a r s

  pub join_differ : Differ a r → Differ (last_of a r) s → Differ a (join a r s)
  join_differ d e = (join_alike a r s h k).differ (differ_join a r s d e)

-- no point is new
pub join-given : (a : Point) (r s : List Point) {p : Point} → Memᴰ p (join a r s)
    → Memᴰ p r ⊎ Memᴰ p s
join-given a [] s k = inr k
join-given a (m ∷ []) s {p} k = go (dropped a m s) k
  where
    go : (t : Bool) → Memᴰ p (join_here t m s) → Memᴰ p (m ∷ []) ⊎ Memᴰ p s
    go true j = inr j
    go false j = elim (Memᴰ.cases_cons j) [ inl e ↦ inl (Memᴰ.head e) | inr i ↦ inr i ]
join-given a (b ∷ c ∷ r) s {p} k = go (λ j. join-given b (c ∷ r) s j) (Memᴰ.cases_cons k)
  where
    go : (Memᴰ p (join b (c ∷ r) s) → Memᴰ p (c ∷ r) ⊎ Memᴰ p s)
        → (p ≡ b) ⊎ Memᴰ p (join b (c ∷ r) s) → Memᴰ p (b ∷ c ∷ r) ⊎ Memᴰ p s
    go ih (inl e) = inl (Memᴰ.head e)
    go ih (inr j) = elim (ih j) [ inl i ↦ inl (Memᴰ.tail i) | inr i ↦ inr i ]

-- j ∷ is what a ∷ r and m ∷ s, with m the last point of a ∷ r, become
pub record Joined (a : Point) (r s j : List Point) : Type 0 where
  pub some : Some j
  pub last : last_of a j ≡ last_of (last_of a r) s
  pub simple : Simple a j
  pub differ : Differ a j
  pub on_first : (P : Spot) → On P a r → On P a j
  pub on_second : (P : Spot) → On P (last_of a r) s → On P a j
  pub on_either : (P : Spot) → On P a j → On P a r ⊎ On P (last_of a r) s
  pub start : SameWay a (second_of a r) a (second_of a j)
  pub finish : SameWay (last_of (last_of a r) s) (before_last (last_of a r) s) (last_of a j) (before_last a j)
  pub count : (length j ≡ length r + length s) ⊎ (suc (length j) ≡ length r + length s)

pub simple_some : (a : Point) (r s : List Point) → Some r → Differ a r → Cut a r s → Simple a (r ++ s)
simple_some a [] s h n c = absurd h
simple_some a (b ∷ r) s h n c = simple-join a b r s n.0 c

pub join-joined : (a : Point) (r s : List Point) → Some r → Some s → Differ a r → Differ (last_of a r) s → SimpleArc a r
    → SimpleArc (last_of a r) s → Closing a r s → Joined a r s (join a r s)
join-joined a r s h k n n' f g c =
    let w = join_alike a r s h k in
    record {
      some = w.some';
      last = join_last a r s h k;
      simple = w.simple (simple_some a r s h n (record { front = f; back = g; closing = c }));
      differ = join_differ a r s h k n n';
      on_first = λ P o. w.on P (on_front P a r s o);
      on_second = λ P o. w.on P (on_back P a r s o);
      on_either = λ P o. on_split P a r s (w.on' P o);
      start = rw (second_append a r s h) at w.start;
      finish = rw (last_append a r s, before-append a r s k) at w.finish;
      count = rw lib.ListN.length-append at (join_count a r s);
    }

-- curves that share common ends only, where they have a common end
pub clear_closing : (a : Point) (r s : List Point) → Clear a r (last_of a r) s → Closing a r s
clear_closing a r s h P o p = go (h P o p).0 (h P o p).1
  where
    go : End P a r → End P (last_of a r) s → At P (last_of a r) ⊎ (At P a × (last_of (last_of a r) s ≡ a))
    go (inr e) f = inl e
    go (inl e) (inl f) = inl f
    go (inl e) (inr f) = inr (e, at_one f e)

-- two simple curves that share common ends only, with far ends that are not the joint
pub heal-joined : (a : Point) (r s : List Point) → Some r → Some s → Differ a r → Differ (last_of a r) s
    → last_of a r ≢ a → last_of (last_of a r) s ≢ last_of a r
    → Simple a r → Simple (last_of a r) s → Clear a r (last_of a r) s → Joined a r s (join a r s)
heal-joined a r s h k n n' e e' f g c =
    join-joined a r s h k n n' (simple-arc a r e f) (simple-arc (last_of a r) s e' g) (clear_closing a r s c)
