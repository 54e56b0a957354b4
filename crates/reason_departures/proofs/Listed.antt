-- The departures from a node listed: what is listed is a position, its turn among the listed is its turn at the node,
-- and a scan of the list is a scan of all positions. Assumes nothing.
use mathlib.Core.Path.{◌≡◌, sym, ap, ◌∙◌, subst}
use mathlib.Core.Bool.{Bool, true, false, ◌&&◌}
use mathlib.Core.List.{List, Memᴰ}
use Prim.Native.Nat.{ℕ, ◌+◌, ◌*◌, ◌<◌}
use native.Mathlib.Numerals.{add-one}
use lib.IntN.{ℤ}
use lib.ListN.{length, get_or, drop}
use lib.Seq.{drop-cons}
use Rattle.lists.specs.Tests.{same}
use Rattle.lists.specs.Scans.{any_of, keep}
use Rattle.lists.proofs.Keeps.{keep_in}
use Rattle.curves.specs.Curves.{Run}
use Rattle.rotation.specs.Law.{lawful_next}
use Rattle.map_rows.specs.Rows.{EdgeRows}
use Rattle.tables.proofs.Numbers.{get_d_in}
use Rattle.tables.proofs.Order.{same_is}
use Rattle.darts.specs.Positions.{side_cell, way_with}
use Rattle.links.specs.Linking.{Known, positions, leaves_node}
use Rattle.links.proofs.ByRows.{known_of}
use Rattle.links.proofs.FirstMet.{position_below}
use Rattle.reason_departures.specs.Turning.{turns_at}
use Rattle.reason_departures.proofs.Scans.{any_keep}

-- the departures from the node
pub record Listing (l : List ℤ) (n : ℕ) (node : ℤ) (ds : List ℕ) : Type 0 where
  pub is : ds ≡ keep (leaves_node l node) (positions n)

module _ {l : List ℤ} {n : ℕ} {node : ℤ} {ds : List ℕ} (g : Listing l n node ds) where
  -- a scan of the whole list
  pub listed_any : (f : ℕ → Bool) → any_of f ds ≡ any_of (λ p. leaves_node l node p && f p) (positions n)
  listed_any f = ap (any_of f) g.is ∙ any_keep f (leaves_node l node) (positions n)

  module _ (k : ℕ) (h : k < length ds) where
    -- what is listed leaves the node
    listed_in : Memᴰ (get_or ds k 0) (keep (leaves_node l node) (positions n))
    listed_in = subst (λ (u : List ℕ). Memᴰ (get_or ds k 0) u) g.is (get_d_in ds k 0 h)

    pub listed_below : get_or ds k 0 < n * 2
    listed_below = position_below n (get_or ds k 0) (keep_in (leaves_node l node) (positions n) listed_in).0

    -- its turn
    pub listed-turn : (own : ℕ) (c : List ℤ) → lawful_next (way_with l own c) same (get_or ds k 0) ds
        ≡ turns_at l n own c (get_or ds k 0)
    listed-turn own c =
        let at = same_is (side_cell l (get_or ds k 0) 1) node (keep_in (leaves_node l node) (positions n) listed_in).1 in
        ap (lawful_next (way_with l own c) same (get_or ds k 0))
        (g.is ∙ ap (λ (z : ℤ). keep (leaves_node l z) (positions n)) (sym at))

    -- a turn of the loop
    pub listed_hit : (f : ℕ → Bool) → f (get_or ds k 0) ≡ true → any_of f (drop k ds) ≡ true
    listed_hit f e = rw (drop-cons ds k 0 h, e)

    pub listed_miss : (f : ℕ → Bool) → f (get_or ds k 0) ≡ false → any_of f (drop k ds) ≡ any_of f (drop (k + 1) ds)
    listed_miss f e = rw (drop-cons ds k 0 h, e, add-one k)

  -- the directions of all can be read
  pub listed_known : EdgeRows l n → (own : ℕ) (c : List ℤ) → Run c → (k : ℕ) → k < length ds → Known l own c (get_or ds k 0)
  listed_known t own c run k h = known_of t (λ o. run) (get_or ds k 0) (listed_below k h)
