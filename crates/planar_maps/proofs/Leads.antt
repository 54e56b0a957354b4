-- Where a function leads. Assumes nothing.
use mathlib.Core.Path.{refl, ap, subst}
use mathlib.Core.List.{List, Memᴰ}
use Prim.Native.Nat.{ℕ, zero, suc}
use Rattle.lists.specs.Tests.{iterate}
use Rattle.planar_maps.specs.Map.{Dart}
use Rattle.planar_maps.specs.Rings.{Leads}

-- what f keeps holds wherever f leads
pub leads_keep : (P : Dart → Type 0) (f : Dart → Dart) → ((d : Dart) → P d → P (f d)) → {c d : Dart} → P c
    → Leads f c d → P d
leads_keep P f h {c} pc r = subst P r.1 (go r.0)
  where
    go : (k : ℕ) → P (iterate k f c)
    go zero = pc
    go (suc k) = h (iterate k f c) (go k)

pub leads_on : {f : Dart → Dart} {c d : Dart} → Leads f c d → Leads f c (f d)
leads_on {f} r = (suc r.0, ap f r.1)

pub leads_join : {f : Dart → Dart} {b c d : Dart} → Leads f b c → Leads f c d → Leads f b d
leads_join {f} {b} r q = leads_keep (λ x. Leads f b x) f (λ x p. leads_on p) r q

-- g leads from image to image of each step of f, among the darts ds: so it does wherever f leads
pub leads_through : (f g φ : Dart → Dart) (ds : List Dart) → ((d : Dart) → Memᴰ d ds → Memᴰ (f d) ds)
    → ((d : Dart) → Memᴰ d ds → Leads g (φ d) (φ (f d))) → {c d : Dart} → Memᴰ c ds → Leads f c d
    → Leads g (φ c) (φ d)
leads_through f g φ ds into step {c} m r = (leads_keep (λ d. Memᴰ d ds × Leads g (φ c) (φ d)) f
    (λ d h. (into d h.0, leads_join h.1 (step d h.0))) (m, (zero, refl)) r).1
