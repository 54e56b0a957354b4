-- The sides of edges found in tables are those of the map's edges: of an edge that is named, before a ticket, and of
-- the last, after it. Assumes nothing.
use Rattle.std.specs.Prelude.{Option, Some, None}
use mathlib.Core.Path.{◌≡◌, refl, sym, ap, ◌∙◌}
use mathlib.Core.Bool.{false, true≢false}
use mathlib.Core.List.{List, [], ◌∷◌, map, flat_map, map-map}
use Prim.Native.Nat.{ℕ, zero, suc, ◌-◌, ◌<◌}
use native.Mathlib.Omega.{arith}
use lib.IntN.{ℤ, pos, nat_abs}
use lib.ListN.{length, get_or, replicate}
use Rattle.lists.specs.Tables.{place}
use Rattle.tables.specs.Tables.{same_z, column, filled}
use Rattle.tables.proofs.Filled.{Wide, rows_flat}
use Rattle.map.specs.declared.Head.{Head}
use Rattle.map.specs.Limits.{edge_width}
use Rattle.map.specs.Rows.{Edge, Map, edge, map_of, lent, edge_of, edge_cells}
use Rattle.map.specs.Reasons.{no_edge}
use Rattle.map_rows.specs.Rows.{edges_of, edge_at}
use Rattle.map_rows.proofs.Rows.{edges_get_d, edges_length}
use Rattle.outcomes.specs.Outcomes.{Formed}
use Rattle.outcomes.proofs.Formed.{edge_none}
use Rattle.outcomes.proofs.FoundRows.{edge_in, edge-number, edge_is}
use Rattle.affected_faces.specs.Affected.{faces_beside, faces_beside_last}
use Rattle.edit_rectangles.specs.FacePairs.{pair_of, pair_found, pair_named}

-- ---- an edge that is named

module _ {nodes edges faces : List ℤ} {h : Head} (f : Formed nodes edges faces h) where
  abbrev m : Map
  m = map_of (lent nodes edges faces h)

  pub pair_named_lem : (z : ℤ) → no_edge m z ≡ false
      → pair_named edges (nat_abs h.edges) z ≡ pair_of (edge m (nat_abs z))
  pair_named_lem z e = go (place (same_z z) 0 (column edge_width edges (nat_abs h.edges))) refl
    where
      go : (p : Option ℕ) → place (same_z z) 0 (column edge_width edges (nat_abs h.edges)) ≡ p
          → pair_found edges p ≡ pair_of (edge m (nat_abs z))
      go (Some i) q = ap pair_of (sym (edge_is f i (edge_in f z i q)))
          ∙ ap (λ (y : ℤ). pair_of (edge m (nat_abs y))) (sym (edge-number f z i q))
      go None q = absurd (true≢false (sym (edge_none f z q) ∙ e))

-- ---- the last edge

get_d_beside : (es : List Edge) (d : Edge) (k : ℕ) → k < length es
    → get_or (map faces_beside es) k [] ≡ faces_beside (get_or es k d)
get_d_beside [] d k b = absurd (omega arith)
get_d_beside (e ∷ es) d zero b = refl
get_d_beside (e ∷ es) d (suc k) b = get_d_beside es d k (omega arith)

module _ (es : List Edge) (wide : Wide edge_width edge_cells es) (n : ℕ) {l : List ℤ}
    (cells : filled n (flat_map edge_cells es) ≡ l) where
  -- the rows written are read again, but for their links
  pub rows_back : edges_of l (length es) ≡ map (λ e. edge_of (edge_cells e)) es
  rows_back = ap (λ (x : List ℤ). edges_of x (length es)) (sym cells)
      ∙ ap (map edge_of) (rows_flat edge_width edge_cells es (replicate (n - length (flat_map edge_cells es)) (pos 0)) wide)
      ∙ map-map edge_of edge_cells es

  beside_back : map faces_beside (edges_of l (length es)) ≡ map faces_beside es
  unfolding edge_of edge_cells
  beside_back = ap (map faces_beside) rows_back ∙ map-map faces_beside (λ e. edge_of (edge_cells e)) es

  pub last_pair : (k : ℕ) → length es ≡ suc k → faces_beside_last es ≡ faces_beside (edge_at l k)
  last_pair k e =
      let b : k < length es = omega arith in
      let last : length es - 1 ≡ k = omega arith in
      let d = edge_at l 0 in
      ap (λ (i : ℕ). get_or (map faces_beside es) i []) last
      ∙ ap (λ (x : List (List ℕ)). get_or x k []) (sym beside_back)
      ∙ get_d_beside (edges_of l (length es)) d k (omega (arith, edges_length l (length es)))
      ∙ ap faces_beside (edges_get_d l (length es) k d b)
