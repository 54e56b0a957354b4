-- The call's answer, reason by reason, and what tables in form give the walks. Assumes nothing.
use Rattle.std.specs.Prelude.{Some, None}
use mathlib.Core.Path.{◌≡◌, refl, ap, ap₂, ◌∙◌}
use mathlib.Core.Bool.{Bool, true, false, cond, not, ◌&&◌}
use mathlib.Core.List.{List, [], ◌∷◌, flat_map}
use Prim.Native.Nat.{ℕ, zero, suc, ◌<◌, ◌≤◌}
use native.Mathlib.Omega.{arith}
use lib.Dec.{T, ltb}
use lib.IntN.{ℤ, pos, negsuc, nat_abs}
use lib.ListN.{length}
use lib.Signed.{non_neg}
use Rattle.lists.specs.Tests.{same}
use Rattle.lists.specs.Scans.{any_of, keep}
use Rattle.lists.specs.Tables.{place}
use Rattle.lists.proofs.Bools.{≡→T}
use Rattle.planar_maps.specs.Map.{Dart, Linked}
use Rattle.tables.specs.Tables.{same_z, column}
use Rattle.map.specs.declared.Head.{Head}
use Rattle.map.specs.Limits.{face_width}
use Rattle.map.specs.Rows.{Map, Lent, map_of, whole, edge, lent}
use Rattle.map.specs.Darts.{arcs, directed, leaves, next, bears, ring, lower, firsts}
use Rattle.map.specs.Reasons.{first_reason, no_face}
use Rattle.map.specs.Ticket.{Listed, lent_reasons, ring_numbers, face_edges, list_unless, edges_of_face}
use Rattle.map_laws.proofs.Rings.{ring-same}
use Rattle.map_rows.specs.Rows.{edge_map}
use Rattle.map_rows.proofs.Rows.{face_number_in}
use Rattle.map_rows.proofs.Lookups.{face_found, face_missing}
use Rattle.head.specs.Heads.{counts_of}
use Rattle.form_ranges.specs.Ranges.{map_in}
use Rattle.form_ranges.proofs.Parts.{face_rows_lem, edge_rows_lem, map_is}
use Rattle.form.proofs.Lent.{lent_first, lent_passed}
use Rattle.form.proofs.Parts.{InForm, whole_room}
use Rattle.face_edges.specs.Listing.{Rings}
use Rattle.map.proofs.Linked as form-linked

-- ---- the answer

abbrev pub refused : List ℤ → ℕ → Listed
refused list r = record { list = list; answer = record { refusal = r; value = pos 0 } }

unless_refused : (list written : List ℤ) (n : ℕ) → 0 < n → list_unless list written n ≡ refused list n
unless_refused list written zero some = absurd (omega arith)
unless_refused list written (suc n) some = refl

module _ (l : Lent) (f : ℤ) (list : List ℤ) where
  -- 1 or 2
  pub turned : {n : ℕ} → 0 < n → first_reason (lent_reasons l) ≡ n → edges_of_face l f list ≡ refused list n
  unfolding edges_of_face
  turned {n} some e =
      let written = face_edges (map_of l) (nat_abs f) in
      ap (list_unless list written) (lent_first l _ some e) ∙ unless_refused list written n some

  module _ (none : first_reason (lent_reasons l) ≡ 0) where
    pub face_missed : no_face (map_of l) f ≡ true → edges_of_face l f list ≡ refused list 4
    unfolding edges_of_face first_reason
    face_missed e = rw (lent_passed l _ none, e)

    pub from_here : no_face (map_of l) f ≡ false → (written : List ℤ) → face_edges (map_of l) (nat_abs f) ≡ written
        → edges_of_face l f list ≡ list_unless list written (cond (ltb (length list) (length written)) 20 0)
    unfolding edges_of_face first_reason
    from_here k written is = rw (lent_passed l _ none, k, is)

-- ---- rings are read from the edges

keep_same : (p q : Dart → Bool) → ((d : Dart) → p d ≡ q d) → (l : List Dart) → keep p l ≡ keep q l
keep_same p q h [] = refl
keep_same p q h (d ∷ l) = rw (h d, keep_same p q h l)

flat_same : (f g : Dart → List ℤ) → ((d : Dart) → f d ≡ g d) → (l : List Dart) → flat_map f l ≡ flat_map g l
unfolding flat_map
flat_same f g h [] = refl
flat_same f g h (d ∷ l) = rw (h d, flat_same f g h l)

module _ (nodes edges faces : List ℤ) (h : Head) where
  rings_same : (d : Dart) → ring (map_in nodes edges faces (counts_of h) h) d ≡ ring (edge_map edges (nat_abs h.edges)) d
  unfolding next edge
  rings_same = ring-same (map_in nodes edges faces (counts_of h) h) (edge_map edges (nat_abs h.edges)) (λ d. refl) refl

  bears-same : (f : ℕ) (l : List Dart) → keep (λ d. same (bears (map_in nodes edges faces (counts_of h) h) d) f) l
      ≡ keep (λ d. same (bears (edge_map edges (nat_abs h.edges)) d) f) l
  unfolding bears edge
  bears-same f l = refl

  firsts_same : firsts (map_in nodes edges faces (counts_of h) h) ≡ firsts (edge_map edges (nat_abs h.edges))
  unfolding firsts
  firsts_same = keep_same (λ d. not (any_of (λ c. lower c d) (ring (map_in nodes edges faces (counts_of h) h) d)))
      (λ d. not (any_of (λ c. lower c d) (ring (edge_map edges (nat_abs h.edges)) d)))
      (λ d. ap (λ (r : List Dart). not (any_of (λ c. lower c d) r)) (rings_same d))
      (directed (edge_map edges (nat_abs h.edges)))

  pub edges_are : (f : ℕ) → face_edges (map_of (lent nodes edges faces h)) f
      ≡ face_edges (edge_map edges (nat_abs h.edges)) f
  unfolding face_edges
  edges_are f =
      let m = map_in nodes edges faces (counts_of h) h in
      let e = edge_map edges (nat_abs h.edges) in
      ap (λ (m : Map). flat_map (λ d. ring_numbers (ring m d)) (keep (λ d. same (bears m d) f) (firsts m)))
      (map_is nodes edges faces h)
      ∙ flat_same (λ d. ring_numbers (ring m d)) (λ d. ring_numbers (ring e d)) (λ d. ap ring_numbers (rings_same d))
      (keep (λ d. same (bears m d) f) (firsts m))
      ∙ ap (flat_map (λ d. ring_numbers (ring e d)))
      (bears-same f (firsts m) ∙ ap (keep (λ d. same (bears e d) f)) firsts_same)

  module _ (k : InForm nodes edges faces (counts_of h) h) where
    linked_edges : Linked (arcs (edge_map edges (nat_abs h.edges))) (leaves (edge_map edges (nat_abs h.edges)))
        (next (edge_map edges (nat_abs h.edges))) (bears (edge_map edges (nat_abs h.edges)))
    unfolding leaves next bears edge
    linked_edges = form-linked.linked (map_in nodes edges faces (counts_of h) h) k.formed

    pub rings_of : whole (lent nodes edges faces h) ≡ true → Rings edges (nat_abs h.edges)
    rings_of w =
        let r = whole_room nodes edges faces h w in
        record {
          rows = edge_rows_lem k.named;
          small = omega (arith, r.1, k.named.in_order.in_ranges.counted.edges_fit);
          once = form-linked.edges_once (map_in nodes edges faces (counts_of h) h) k.formed;
          linked = linked_edges;
        }

    -- ---- the face

    pub face_there : (z : ℤ) (i : ℕ) → place (same_z z) 0 (column face_width faces (nat_abs h.faces)) ≡ Some i
        → T (non_neg z) × (nat_abs z ≤ 999999) × (no_face (map_of (lent nodes edges faces h)) z ≡ false)
    face_there z i e =
        let r = face_rows_lem k.named.in_order in
        let f = face_found faces (nat_abs h.faces) r.ranges z i e in
        let n = (face_number_in r i f.0).1 in (
          ≡→T (non_neg z) (ap non_neg f.1),
          omega (arith, n, ap nat_abs f.1),
          ap (λ (m : Map). no_face m z) (map_is nodes edges faces h)
              ∙ ap₂ (λ (a b : Bool). not (a && b)) (ap non_neg f.1) f.2,
        )

    pub face_none : (z : ℤ) → place (same_z z) 0 (column face_width faces (nat_abs h.faces)) ≡ None
        → no_face (map_of (lent nodes edges faces h)) z ≡ true
    face_none (pos m) e = ap (λ (x : Map). no_face x (pos m)) (map_is nodes edges faces h)
        ∙ ap not (face_missing faces (nat_abs h.faces) (face_rows_lem k.named.in_order).ranges m e)
    face_none (negsuc m) e = refl
