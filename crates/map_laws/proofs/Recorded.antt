-- The record of points: a map keeps the one that it is created for, and 5 and 18 are all that it decides. Assumes
-- nothing.
use mathlib.Core.Path.{◌≡◌, refl, sym, ap, ◌∙◌}
use mathlib.Core.Bool.{Bool, true, false, not}
use mathlib.Core.Logic.{◌≢◌, inl, inr}
use mathlib.Core.List.{List, [], ◌∷◌, ◌++◌}
use mathlib.Core.Option.{Option, none, some}
use Prim.Native.Nat.{ℕ, zero, suc}
use native.Mathlib.Nat.{le_trans}
use native.Mathlib.Omega.{arith}
use borrow.Author.Tests.{le-ltb, ltb-false, not-false}
use lib.Dec.{ltb, lit<}
use lib.IntN.{ℤ, pos, nat_abs}
use lib.ListN.{length}
use Rattle.lists.proofs.Bools.{which, and_is}
use Rattle.curves.specs.Curves.{Curve, points, is_run_to, max_points}
use Rattle.curves.proofs.Runs.{run_wider}
use Rattle.map.specs.declared.Variant.TheVariants.{New, Mod}
use Rattle.map.specs.Limits.{TwelvePoints, most_points, is_record, limit_of}
use Rattle.map.specs.Rows.{Map, Lent, Sizes, map_of, sizes_of, sizes_for, lent_with, whole}
use Rattle.map.specs.Form.{ranged, boxed, in_form}
use Rattle.map.specs.Tickets.{Ticket, AddIsoNode, MoveIsoNode, RemoveIsoNode, AddIsoEdge, RemoveIsoEdge, ChangeEdgeGeom}
use Rattle.map.specs.Tickets.{NewEdgesSplit, ModEdgeSplit, NewEdgeHeal, ModEdgeHeal, AddEdgeNewFaces, AddEdgeModFace}
use Rattle.map.specs.Tickets.{RemEdgeNewFace, RemEdgeModFace, read}
use Rattle.map.specs.Edits.{healed_curve}
use Rattle.map.specs.Reasons.{Reasons, first_reason, reasons, curve_ticket_reasons, add_iso_edge_reasons}
use Rattle.map.specs.Reasons.{change_geom_reasons, add_edge_reasons}
use Rattle.map.specs.Ticket.{Outcome, carried, lent_reasons, unless, judged, ticket, create_reasons, created_unless}
use Rattle.map.specs.Ticket.{emptied}
use Rattle.map.specs.Grow.{after}
use Rattle.map.proofs.PointLimits.{most-fits, record_back}
use Rattle.map.proofs.RoundTrip.{ranged_is}
use Rattle.map.proofs.Reasons.{first_hit, first_miss, first_zero}
use Rattle.map.proofs.Laws.{in_form_is}
use Rattle.map_laws.specs.Claims.{RecordsCreated, RecordStays, for_twelve, TwelveAlike}

-- ---- the map is created with it

created : (l : Lent) (k : ℤ) (n : ℕ) → first_reason (create_reasons l k) ≡ n
    → let o = created_unless l (sizes_for (limit_of k) l) n in o.answer.refusal ≡ 0 → o.lent.head.points ≡ k
unfolding lent_with
created l k zero e h =
    let e₂ = first_zero 2 (not (is_record k)) [] (lit< tt) (first_zero 1 (not (whole l)) _ (lit< tt) e).1 in
    record_back k (not-false (is_record k) e₂.0)
created l k (suc n) e h = absurd (omega arith)

pub records_created : RecordsCreated
unfolding emptied
records_created l k = created l k (first_reason (create_reasons l k)) refl

-- ---- no ticket changes it

module _ (l : Lent) where
  -- a ticket that 1 and 2 let pass leaves the record that it found
  kept : (rs : Reasons) (c : Map × ℤ) (n : ℕ) → first_reason (lent_reasons l ++ rs) ≡ n
      → (unless l n c).lent.head.points ≡ l.head.points
  unfolding lent_with
  kept rs c zero e =
      let e₁ = first_zero 1 (not (whole l)) _ (lit< tt) e in
      let e₂ = first_zero 2 (not (in_form l)) _ (lit< tt) e₁.1 in
      record_back l.head.points
      (ranged_is l (in_form_is l (not-false (in_form l) e₂.0)).ranged).recorded
  kept rs c (suc n) e = refl

  judged_kept : (t : Option Ticket) → (judged l (map_of l) t).lent.head.points ≡ l.head.points
  judged_kept none = refl
  judged_kept (some t) = kept (reasons (sizes_of l) (map_of l) t) (carried (map_of l) t) _ refl

  ticket_kept : (t : List ℤ) → (ticket l t).lent.head.points ≡ l.head.points
  unfolding ticket
  ticket_kept t = judged_kept (read t)

pub record_stays : RecordStays
unfolding after
record_stays l [] = refl
record_stays l (t ∷ ts) = record_stays (ticket l t).lent ts ∙ ticket_kept l t

-- ---- 5 and 18 are all that it decides

-- the same room, for 12 points
abbrev twelve : Sizes → Sizes
twelve s = record { nodes = s.nodes; edges = s.edges; faces = s.faces; limit = TwelvePoints }

-- a reason that holds for 6 points and may fail for 12, in its place: where it is not the answer, nothing changes
one_reason : (n : ℕ) (b b' : Bool) (rs : Reasons) → (b ≡ false → b' ≡ false) → first_reason ((n, b) ∷ rs) ≢ n
    → first_reason ((n, b') ∷ rs) ≡ first_reason ((n, b) ∷ rs)
one_reason n b b' rs wider other = elim (which b) [
  | inl h ↦ absurd (other (first_hit n b rs h))
  | inr h ↦ first_miss n b' rs (wider h) ∙ sym (first_miss n b rs h)
]

-- behind a reason that both have
behind : (n k : ℕ) (b : Bool) (rs rs' : Reasons) → (first_reason rs ≢ k → first_reason rs' ≡ first_reason rs)
    → first_reason ((n, b) ∷ rs) ≢ k → first_reason ((n, b) ∷ rs') ≡ first_reason ((n, b) ∷ rs)
behind n k b rs rs' later other = elim (which b) [
  | inl h ↦ first_hit n b rs' h ∙ sym (first_hit n b rs h)
  | inr h ↦ first_miss n b rs' h ∙ later (λ e. other (first_miss n b rs h ∙ e)) ∙ sym (first_miss n b rs h)
]

module _ (s : Sizes) where
  drawn : (missing : Bool) (sent : List ℤ) (rest : Curve → Reasons)
      → first_reason (curve_ticket_reasons s missing sent rest) ≢ 5
      → first_reason (curve_ticket_reasons (twelve s) missing sent rest)
      ≡ first_reason (curve_ticket_reasons s missing sent rest)
  drawn missing sent rest = behind 4 5 missing _ _ (one_reason 5 _ (not (is_run_to max_points sent)) _
      (λ h. ap not (run_wider (most-fits s.limit) sent (not-false (is_run_to (most_points s.limit) sent) h))))

  healed : (b₄ b₁₆ b₁₇ : Bool) (n : ℕ) (rest : Reasons)
      → first_reason ((4, b₄) ∷ (16, b₁₆) ∷ (17, b₁₇) ∷ (18, ltb (most_points s.limit) n) ∷ rest) ≢ 18
      → first_reason ((4, b₄) ∷ (16, b₁₆) ∷ (17, b₁₇) ∷ (18, ltb max_points n) ∷ rest)
      ≡ first_reason ((4, b₄) ∷ (16, b₁₆) ∷ (17, b₁₇) ∷ (18, ltb (most_points s.limit) n) ∷ rest)
  healed b₄ b₁₆ b₁₇ n rest =
      behind 4 18 b₄ _ _ (behind 16 18 b₁₆ _ _ (behind 17 18 b₁₇ _ _ (one_reason 18 _ (ltb max_points n) rest
      (λ h. le-ltb max_points n (le_trans (ltb-false (most_points s.limit) n h) (most-fits s.limit))))))

  module _ (m : Map) where
    reasons_alike : (t : Ticket) → first_reason (reasons s m t) ≢ 5 → first_reason (reasons s m t) ≢ 18
        → first_reason (reasons (twelve s) m t) ≡ first_reason (reasons s m t)
    unfolding reasons
    reasons_alike (AddIsoNode f x y) h₅ h₁₈ = refl
    reasons_alike (MoveIsoNode n x y) h₅ h₁₈ = refl
    reasons_alike (RemoveIsoNode n) h₅ h₁₈ = refl
    reasons_alike (AddIsoEdge u v sent) h₅ h₁₈ = drawn _ sent (add_iso_edge_reasons s m (nat_abs u) (nat_abs v)) h₅
    reasons_alike (RemoveIsoEdge e) h₅ h₁₈ = refl
    reasons_alike (ChangeEdgeGeom e sent) h₅ h₁₈ = drawn _ sent (change_geom_reasons m (nat_abs e)) h₅
    reasons_alike (NewEdgesSplit e x y) h₅ h₁₈ = refl
    reasons_alike (ModEdgeSplit e x y) h₅ h₁₈ = refl
    reasons_alike (NewEdgeHeal e f) h₅ h₁₈ =
        healed _ _ _ (length (points (healed_curve m (nat_abs e) (nat_abs f)))) _ h₁₈
    reasons_alike (ModEdgeHeal e f) h₅ h₁₈ =
        healed _ _ _ (length (points (healed_curve m (nat_abs e) (nat_abs f)))) [] h₁₈
    reasons_alike (AddEdgeNewFaces u v sent) h₅ h₁₈ = drawn _ sent (add_edge_reasons New s m (nat_abs u) (nat_abs v)) h₅
    reasons_alike (AddEdgeModFace u v sent) h₅ h₁₈ = drawn _ sent (add_edge_reasons Mod s m (nat_abs u) (nat_abs v)) h₅
    reasons_alike (RemEdgeNewFace e) h₅ h₁₈ = refl
    reasons_alike (RemEdgeModFace e) h₅ h₁₈ = refl

-- ---- the same tables with 12 recorded

module _ (l : Lent) (form : in_form l ≡ true) where
  wider_ranged : ranged (for_twelve l) ≡ true
  unfolding ranged
  wider_ranged =
      let r = ranged_is l (in_form_is l form).ranged in
      let counts = and_is (and_is r.nodes r.edges) r.faces in
      let nexts = and_is r.next_node (and_is r.next_edge (and_is r.next_face refl)) in
      and_is (and_is (and_is (and_is (and_is (and_is (and_is (and_is counts nexts) refl) r.node_rest) r.edge_rest)
      r.face_rest) r.node_rows_lem) r.edge_rows_lem) r.face_rows_lem

  wider_form : in_form (for_twelve l) ≡ true
  unfolding in_form boxed map_of
  wider_form = let i = in_form_is l form in and_is (and_is wider_ranged i.formed) i.boxed

  same-lent : lent_reasons (for_twelve l) ≡ lent_reasons l
  unfolding whole
  same-lent i = (1, not (whole l)) ∷ (2, not ((wider_form ∙ sym form) i)) ∷ []

  -- behind 1 and 2
  after-lent : (b₁ b₂ : Bool) (rs rs' : Reasons)
      → (first_reason rs ≢ 5 → first_reason rs ≢ 18 → first_reason rs' ≡ first_reason rs)
      → first_reason ((1, b₁) ∷ (2, b₂) ∷ rs) ≢ 5 → first_reason ((1, b₁) ∷ (2, b₂) ∷ rs) ≢ 18
      → first_reason ((1, b₁) ∷ (2, b₂) ∷ rs') ≡ first_reason ((1, b₁) ∷ (2, b₂) ∷ rs)
  unfolding first_reason
  after-lent true b₂ rs rs' later h₅ h₁₈ = refl
  after-lent false true rs rs' later h₅ h₁₈ = refl
  after-lent false false rs rs' later h₅ h₁₈ = later h₅ h₁₈

  -- an outcome with 12 recorded
  abbrev recorded : Outcome → Outcome
  recorded o = record { lent = for_twelve o.lent; answer = o.answer }

  unless_alike : (n : ℕ) (c : Map × ℤ) → unless (for_twelve l) n c ≡ recorded (unless l n c)
  unfolding lent_with
  unless_alike zero c = refl
  unless_alike (suc n) c = refl

  refusal_is : (n : ℕ) (c : Map × ℤ) → (unless l n c).answer.refusal ≡ n
  refusal_is zero c = refl
  refusal_is (suc n) c = refl

  judged_alike : (t : Option Ticket) → (judged l (map_of l) t).answer.refusal ≢ 5
      → (judged l (map_of l) t).answer.refusal ≢ 18
      → judged (for_twelve l) (map_of l) t ≡ recorded (judged l (map_of l) t)
  judged_alike none h₅ h₁₈ = ap (λ (rs : Reasons). record {
    lent = for_twelve l;
    answer = record { refusal = first_reason (rs ++ (3, true) ∷ []); value = pos 0 };
  }) same-lent
  judged_alike (some t) h₅ h₁₈ =
      let m = map_of l in
      let n = first_reason (lent_reasons l ++ reasons (sizes_of l) m t) in
      let e = refusal_is n (carried m t) in
      ap (λ (k : ℕ). unless (for_twelve l) k (carried m t))
      (ap (λ (rs : Reasons). first_reason (rs ++ reasons (twelve (sizes_of l)) m t)) same-lent
      ∙ after-lent _ _ _ _ (reasons_alike (sizes_of l) m t) (λ q. h₅ (e ∙ q)) (λ q. h₁₈ (e ∙ q)))
      ∙ unless_alike n (carried m t)

pub twelve_alike : TwelveAlike
unfolding ticket map_of
twelve_alike l t form h₅ h₁₈ = judged_alike l form (read t) h₅ h₁₈
