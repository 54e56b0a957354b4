-- The edits by kind, on the list of all curves; the point that two edges share is that of a node ending both. Assumes
-- nothing.
use mathlib.Core.Path.{◌≡◌, refl, sym, ◌∙◌, subst}
use mathlib.Core.Bool.{Bool, true, false}
use mathlib.Core.List.{List, [], ◌∷◌, ◌++◌, append_assoc, append-nil}
use mathlib.Core.Logic.{◌⊎◌, inl, inr, ◌≢◌}
use Prim.Native.Nat.{ℕ}
use Rattle.plane.specs.declared.Point.{Point}
use Rattle.lists.specs.Members.{All}
use Rattle.curves.specs.Curves.{Curve, last_point}
use Rattle.curves.specs.Tests.{meet_wrongly, is_simple}
use Rattle.curves.specs.Edits.{front, back, joined, course}
use Rattle.geometry.specs.Spots.{Spot, spot, At}
use Rattle.geometry.specs.Meaning.{Some, Differ}
use Rattle.geometry.specs.Drawing.{OnCurve, ClearCurves, NoEnd, Drawn}
use Rattle.geometry.proofs.Drawing.{Taken, take, put-taken, add, split-drawn, heal-taken, common_point}

-- ---- by kind

-- kind 6: another curve in the same place
pub change : (xs ys : List Curve) (c d : Curve) → Some d.rest → Differ d.first d.rest → is_simple d ≡ true
    → All (λ e. meet_wrongly d e ≡ false) (xs ++ ys)
    → Drawn (xs ++ (c ∷ ys)) → Drawn (xs ++ (d ∷ ys))
change xs ys c d s n e w h = add xs ys d s n e w (take xs ys c h).drawn

-- kinds 5, 13, 14
pub remove : (xs ys : List Curve) (c : Curve) → Drawn (xs ++ (c ∷ ys)) → Drawn (xs ++ ys)
remove xs ys c h = (take xs ys c h).drawn

-- kinds 4, 11, 12
pub append : (xs : List Curve) (c : Curve) → Some c.rest → Differ c.first c.rest → is_simple c ≡ true
    → All (λ e. meet_wrongly c e ≡ false) xs → Drawn xs → Drawn (xs ++ (c ∷ []))
append xs c s n e w h = add xs [] c s n e (subst (All (λ e. meet_wrongly c e ≡ false)) (sym (append-nil xs)) w)
    (subst Drawn (sym (append-nil xs)) h)

module _ (xs ys : List Curve) (m : Point) (c : Curve) (n : c.first ≢ m) (l : last_point c ≢ m) (o : OnCurve (spot m) c)
    (d : Drawn (xs ++ (c ∷ ys))) where
  -- kind 7: the edge goes, both halves come last
  pub split_new : Drawn ((xs ++ ys) ++ (front m c ∷ back m c ∷ []))
  split_new =
      subst Drawn (append_assoc (xs ++ ys) (front m c ∷ []) (back m c ∷ []))
      (split-drawn xs ys (xs ++ ys) [] ((xs ++ ys) ++ (front m c ∷ [])) [] m c n l o d (append-nil (xs ++ ys))
      (append-nil ((xs ++ ys) ++ (front m c ∷ []))))

  -- kind 8: the front half stays in place, the back half comes last
  pub split-mod : Drawn ((xs ++ (front m c ∷ ys)) ++ (back m c ∷ []))
  split-mod = split-drawn xs ys xs ys (xs ++ (front m c ∷ ys)) [] m c n l o d refl (append-nil (xs ++ (front m c ∷ ys)))

-- c and d stand in the list, either first; s and t say which of them is taken the other way round. The join can stand
-- anywhere in what is left.
module _ (us vs ws : List Curve) (c d : Curve) (s t : Bool)
    (joint : (course t d).first ≡ last_point (course s c)) (open_c : last_point (course s c) ≢ (course s c).first)
    (open_d : last_point (course t d) ≢ (course t d).first)
    (away : All (NoEnd (last_point (course s c))) ((us ++ vs) ++ ws)) where
  pub heal_cd : Drawn (us ++ (c ∷ vs ++ (d ∷ ws))) → Taken (joined (course s c) (course t d)) ((us ++ vs) ++ ws)
  heal_cd h = heal-taken us (vs ++ (d ∷ ws)) (us ++ vs) ws c d s t
      (sym (append_assoc us vs (d ∷ ws))) h joint open_c open_d away

  pub heal_dc : Drawn (us ++ (d ∷ vs ++ (c ∷ ws))) → Taken (joined (course s c) (course t d)) ((us ++ vs) ++ ws)
  heal_dc h =
      subst (Taken (joined (course s c) (course t d))) (sym (append_assoc us vs ws))
      (heal-taken (us ++ (d ∷ vs)) ws us (vs ++ ws) c d s t (append_assoc us (d ∷ vs) ws)
      (subst Drawn (sym (append_assoc us (d ∷ vs) (c ∷ ws))) h)
      joint open_c open_d (subst (All (NoEnd (last_point (course s c)))) (append_assoc us vs ws) away))

-- kind 9: the join comes last
pub last_place : (l : List Curve) {c : Curve} → Taken c l → Drawn (l ++ (c ∷ []))
last_place l t = put-taken l [] (sym (append-nil l)) t

-- kind 10: it stands where the one or the other curve stood
pub first_place_lem : (us vs ws : List Curve) {c : Curve} → Taken c ((us ++ vs) ++ ws) → Drawn (us ++ (c ∷ vs ++ ws))
first_place_lem us vs ws t = put-taken us (vs ++ ws) (append_assoc us vs ws) t

pub second_place : (us vs ws : List Curve) {c : Curve} → Taken c ((us ++ vs) ++ ws) → Drawn ((us ++ vs) ++ (c ∷ ws))
second_place us vs ws t = put-taken (us ++ vs) ws refl t

-- ---- nodes

-- the edges c from s to t and d from s' to t', where nodes on one point are one node
pub node_shared_lem : (place : ℕ → Point) (c d : Curve) (s t s' t' : ℕ) → place s ≡ c.first → place t ≡ last_point c
    → place s' ≡ d.first → place t' ≡ last_point d
    → ((m n : ℕ) → (m ≡ s) ⊎ (m ≡ t) → (n ≡ s') ⊎ (n ≡ t') → place m ≡ place n → m ≡ n) → ClearCurves c d
    → (P : Spot) → OnCurve P c → OnCurve P d → (n : ℕ) × At P (place n) × ((n ≡ s) ⊎ (n ≡ t)) × ((n ≡ s') ⊎ (n ≡ t'))
node_shared_lem place c d s t s' t' es et es' et' inj h P o p = go (common_point c d h P o p)
  where
    second : (n : ℕ) (q : Point) → (n ≡ s) ⊎ (n ≡ t) → place n ≡ q → (q ≡ d.first) ⊎ (q ≡ last_point d) → (n ≡ s')
        ⊎ (n ≡ t')
    second n q k e (inl f) = inl (inj n s' k (inl refl) (e ∙ f ∙ sym es'))
    second n q k e (inr f) = inr (inj n t' k (inr refl) (e ∙ f ∙ sym et'))

    first : (q : Point) → At P q → (q ≡ c.first) ⊎ (q ≡ last_point c) → (q ≡ d.first) ⊎ (q ≡ last_point d) → (n : ℕ)
        × At P (place n) × ((n ≡ s) ⊎ (n ≡ t)) × ((n ≡ s') ⊎ (n ≡ t'))
    first q k (inl e) f = (s, subst (At P) (e ∙ sym es) k, inl refl, second s q (inl refl) (es ∙ sym e) f)
    first q k (inr e) f = (t, subst (At P) (e ∙ sym et) k, inr refl, second t q (inr refl) (et ∙ sym e) f)

    go : (q : Point) × At P q × ((q ≡ c.first) ⊎ (q ≡ last_point c)) × ((q ≡ d.first) ⊎ (q ≡ last_point d)) → (n : ℕ)
        × At P (place n) × ((n ≡ s) ⊎ (n ≡ t)) × ((n ≡ s') ⊎ (n ≡ t'))
    go w = first w.0 w.1 w.2 w.3
