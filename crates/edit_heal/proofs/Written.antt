-- A table of edge rows after two of them are healed into one: the row in the place of the first, or last. Assumes
-- nothing.
use mathlib.Core.Path.{◌≡◌, refl, sym, ap, ◌∙◌, subst}
use mathlib.Core.Bool.{cond}
use mathlib.Core.List.{List, [], ◌∷◌, ◌++◌, map, flat_map}
use Prim.Native.Nat.{ℕ, ◌*◌, ◌-◌, ◌≤◌, ◌<◌}
use native.Mathlib.Omega.{arith}
use lib.IntN.{ℤ}
use lib.ListN.{length, get_or, set, length-append, length-set}
use lib.Seq.{paste, get_or-set_other}
use Rattle.lists.specs.Tests.{same}
use Rattle.lists.specs.Members.{Distinct}
use Rattle.map.specs.declared.Variant.{Variant}
use Rattle.map.specs.declared.Variant.TheVariants.{New, Mod}
use Rattle.map.specs.Limits.{edge_width}
use Rattle.map.specs.Rows.{Edge, edge_cells, without_edge}
use Rattle.map.specs.Edits.{is_mod}
use Rattle.tables.specs.Tables.{closed, filled}
use Rattle.tables.proofs.Writes.{pushed, replaced_at, removed_at, wide-set}
use Rattle.tables.proofs.Filled.{Wide}
use Rattle.tables.proofs.Numbers.{without_at, changed_at_lem}
use Rattle.edit_heal.specs.Heals.{closed_up, healed_written}
use Rattle.edit_heal.proofs.Lists.{less, closed_below, less_length, less_at, less_distinct, less_wide}
use Rattle.edit_heal.proofs.Lists.{set-numbers}

abbrev own_number : Edge → ℕ
own_number e = e.number

-- the edges after it, by the numbers of the two
abbrev pub healed_edges : Variant → ℕ → ℕ → Edge → List Edge → List Edge
healed_edges how a b row ys =
    cond (is_mod how) (without_edge b (map (λ (r : Edge). cond (same r.number a) row r) ys))
    (without_edge a (without_edge b ys) ++ row ∷ [])

-- row k written
abbrev written_at : List ℤ → ℕ → List ℤ → List ℤ
written_at t k r = paste t (k * edge_width) r edge_width

module _ (N : ℕ) (ys : List Edge) (wide : Wide edge_width edge_cells ys) (once : Distinct (map own_number ys)) (i j : ℕ)
    (hi : i < length ys) (hj : j < length ys) (apart : i ≡ j → ⊥) (row d : Edge)
    (width : length (edge_cells row) ≡ edge_width) (fits : length ys * edge_width ≤ N) where
  abbrev table_of : List Edge → List ℤ
  table_of es = filled N (flat_map edge_cells es)

  abbrev a : ℕ
  a = (get_or ys i d).number

  abbrev b : ℕ
  b = (get_or ys j d).number

  -- ---- the number is kept

  module _ (kept : row.number ≡ a) where
    set_once : Distinct (map own_number (set ys i row))
    set_once = subst Distinct (sym (set-numbers own_number ys i row d kept)) once

    set_long : length (set ys i row) ≡ length ys
    set_long = length-set ys i row

    kept_edges : healed_edges Mod a b row ys ≡ less j (set ys i row)
    kept_edges =
        ap (without_edge b) (changed_at_lem own_number (λ (r : Edge). row) ys once i d hi)
        ∙ ap (λ (k : ℕ). without_edge k (set ys i row))
        (ap own_number (sym (get_or-set_other ys i j row d (λ e. apart (sym e)))))
        ∙ without_at own_number (set ys i row) set_once j d (omega (arith, set_long))

    kept_table : closed edge_width (written_at (table_of ys) i (edge_cells row)) (length ys) j
        ≡ table_of (healed_edges Mod a b row ys)
    kept_table =
        (λ k. closed edge_width (replaced_at edge_width edge_cells N ys i d wide hi row width k) (sym set_long k) j)
        ∙ removed_at edge_width edge_cells N (set ys i row) j d (wide-set edge_width edge_cells ys i row wide width)
        (omega (arith, set_long)) (rw set_long fits)
        ∙ ap table_of (sym kept_edges)

    kept_length : length (healed_edges Mod a b row ys) ≡ length ys - 1
    kept_length = ap length kept_edges ∙ less_length j (set ys i row) (omega (arith, set_long))
        ∙ ap (λ (n : ℕ). n - 1) set_long

  -- ---- it is new

  zs : List Edge
  zs = less j ys

  zs_long : length zs ≡ length ys - 1
  unfolding zs
  zs_long = less_length j ys hj

  place_in : closed_up i j < length zs
  place_in = let k = closed_below (length ys) i j hi hj apart in omega (arith, zs_long)

  ws : List Edge
  ws = less (closed_up i j) zs

  ws_long : length ws ≡ length ys - 2
  unfolding ws
  ws_long = less_length (closed_up i j) zs place_in ∙ omega (arith, zs_long)

  new_edges : healed_edges New a b row ys ≡ ws ++ row ∷ []
  unfolding ws zs
  new_edges =
      ap (λ (r : List Edge). without_edge a r ++ row ∷ []) (without_at own_number ys once j d hj)
      ∙ ap (λ (k : ℕ). without_edge k (less j ys) ++ row ∷ []) (ap own_number (sym (less_at ys i j d apart)))
      ∙ ap (λ (r : List Edge). r ++ row ∷ [])
      (without_at own_number (less j ys) (less_distinct own_number j ys once) (closed_up i j) d place_in)

  new_table : written_at (closed edge_width (closed edge_width (table_of ys) (length ys) j) (length ys - 1) (closed_up i j))
      (length ys - 2) (edge_cells row) ≡ table_of (healed_edges New a b row ys)
  unfolding ws zs
  new_table =
      let wz = less_wide edge_width edge_cells j ys wide in
      let first : closed edge_width (table_of ys) (length ys) j ≡ table_of zs =
      removed_at edge_width edge_cells N ys j d wide hj fits in
      let second : closed edge_width (table_of zs) (length zs) (closed_up i j) ≡ table_of ws =
      removed_at edge_width edge_cells N zs (closed_up i j) d wz place_in (omega (arith, zs_long)) in
      let third : written_at (table_of ws) (length ws) (edge_cells row) ≡ table_of (ws ++ row ∷ []) =
      pushed edge_width edge_cells N ws row (less_wide edge_width edge_cells (closed_up i j) zs wz) width
      (omega (arith, ws_long, hi, hj)) in
      (λ k. written_at (closed edge_width (first k) (sym zs_long k) (closed_up i j)) (length ys - 2) (edge_cells row))
      ∙ (λ k. written_at (second k) (sym ws_long k) (edge_cells row)) ∙ third ∙ ap table_of (sym new_edges)

  new_length : length (healed_edges New a b row ys) ≡ length ys - 1
  new_length = ap length new_edges ∙ length-append ws (row ∷ []) ∙ omega (arith, ws_long, place_in, zs_long)

  -- ---- both

  pub healed_table : (how : Variant) → (how ≡ Mod → row.number ≡ a)
      → healed_written how (table_of ys) (length ys) i j (edge_cells row) ≡ table_of (healed_edges how a b row ys)
  healed_table Mod k = kept_table (k refl)
  healed_table New k = new_table

  pub healed_length : (how : Variant) → (how ≡ Mod → row.number ≡ a) → length (healed_edges how a b row ys)
      ≡ length ys - 1
  healed_length Mod k = kept_length (k refl)
  healed_length New k = new_length
