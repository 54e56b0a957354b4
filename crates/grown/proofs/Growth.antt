-- A ticket that nothing turns down leaves a good map good, for all fourteen kinds; the empty map is good. Assumes
-- nothing.
use mathlib.Core.Path.{◌≡◌, refl}
use mathlib.Core.Bool.{true}
use mathlib.Core.List.Memᴰ
use native.Mathlib.Omega.{arith}
use Prim.Native.Nat.{ℕ}
use lib.IntN.{nat_abs}
use Rattle.plane.specs.declared.Point.{Point}
use Rattle.curves.specs.Curves.{Curve, point}
use Rattle.planar_maps.proofs.Moves.{planar_empty}
use Rattle.map.specs.declared.Variant.{Variant}
use Rattle.map.specs.declared.Variant.TheVariants.{New, Mod}
use Rattle.map.specs.Rows.{Map, Sizes, empty_map, has_edge}
use Rattle.map.specs.Darts.{leaves, next, bears}
use Rattle.map.specs.Tickets.{Ticket, AddIsoNode, MoveIsoNode, RemoveIsoNode, AddIsoEdge, RemoveIsoEdge, ChangeEdgeGeom}
use Rattle.map.specs.Tickets.{NewEdgesSplit, ModEdgeSplit, NewEdgeHeal, ModEdgeHeal, AddEdgeNewFaces, AddEdgeModFace}
use Rattle.map.specs.Tickets.{RemEdgeNewFace, RemEdgeModFace}
use Rattle.map.specs.Edits.{split, heal, add_edge, remove_edge}
use Rattle.map.specs.Reasons.{first_reason, reasons, curve_in}
use Rattle.map.specs.Ticket.{carried}
use Rattle.map.proofs.Opened.{opened}
use Rattle.map_laws.proofs.Reasons.{Split, Heal, AddEdge, add_node_lem, move_node_lem, remove_node_lem, add-lone, remove_lone}
use Rattle.map_laws.proofs.Reasons.{change, split_new, split-mod, heal_new, heal-mod, add_new, add-mod, remove_new}
use Rattle.map_laws.proofs.Reasons.{remove_mod}
use Rattle.grown.specs.Good.{Good, Numbered, Woven, Surveyed, InPlane}
use Rattle.grown.proofs.Numbers.Carried.{ranked_kept, numbered_kept}
use Rattle.grown.proofs.Curves.Kinds.{surveyed_1, surveyed_2, surveyed_3, surveyed_4, surveyed_5, surveyed_6}
use Rattle.grown.proofs.Curves.Kinds.{surveyed_split, surveyed_add, surveyed_remove}
use Rattle.grown.proofs.Curves.Heal.{surveyed_heal}
use Rattle.grown.proofs.Law.Lawful.{Lawful, good_lawful}
use Rattle.grown.proofs.Law.Carried.{carried_obeys}
use Rattle.grown.proofs.Plane.Change.{planar_1, planar_2, planar_3, planar_6}
use Rattle.grown.proofs.Plane.Split.{planar_split}
use Rattle.grown.proofs.Plane.Heal.{planar_heal}
use Rattle.grown.proofs.Plane.Reached.{plane_reached, reached_borne}
use Rattle.grown.proofs.Plane.Join.{planar_4}
use Rattle.grown.proofs.Plane.Add.{planar_added}
use Rattle.grown.proofs.Plane.RemoveLone.{planar_5}
use Rattle.grown.proofs.Plane.Remove.{planar_removed}

-- links and face numbers, and curves
record PlaneAndCurves (m : Map) : Type 0 where
  planar : InPlane m
  surveyed : Surveyed m

module _ (s : Sizes) (m : Map) (g : Good m) where
  abbrev L : Lawful m
  L = good_lawful m g

  abbrev o : InPlane m
  o = g.woven.planar

  split_kept : (how : Variant) (e : ℕ) (p : Point) → Split how s m e p → PlaneAndCurves (split how e p m)
  split_kept how e p k = record { planar = planar_split m L s e p how k o; surveyed = surveyed_split m g how s e p k }

  heal_kept : (how : Variant) (e f : ℕ) → Heal m e f → PlaneAndCurves (heal how e f m)
  heal_kept how e f k = record { planar = planar_heal m L e f k how o; surveyed = surveyed_heal m g e f k how }

  add_kept : (how : Variant) (u v : ℕ) (c : Curve) → AddEdge how s m u v c → PlaneAndCurves (add_edge how u v c m)
  add_kept how u v c k = record { planar = planar_added how s m u v c g k; surveyed = surveyed_add m g how s u v c k }

  remove_kept : (how : Variant) (e : ℕ) → has_edge m e ≡ true → PlaneAndCurves (remove_edge how e m)
  remove_kept how e k = record { planar = planar_removed how e m g k; surveyed = surveyed_remove m g how e }

  kept : (t : Ticket) → first_reason (reasons s m t) ≡ 0 → PlaneAndCurves (carried m t).0
  unfolding carried
  kept (AddIsoNode f x y) h =
      record { planar = planar_1 m (point x y) L o; surveyed = surveyed_1 m g s (point x y) (add_node_lem s m f x y h) }
  kept (MoveIsoNode n x y) h =
      record {
        planar = planar_2 m (nat_abs n) (point x y) o;
        surveyed = surveyed_2 m g (nat_abs n) (point x y) (move_node_lem s m n x y h);
      }
  kept (RemoveIsoNode n) h =
      let k = remove_node_lem s m n h in
      record { planar = planar_3 m (nat_abs n) L o k.has k.isolated; surveyed = surveyed_3 m g (nat_abs n) k }
  kept (AddIsoEdge u v c) h =
      let k = add-lone s m u v c h in
      record {
        planar = planar_4 s m (nat_abs u) (nat_abs v) (curve_in c) L k o;
        surveyed = surveyed_4 m g s (nat_abs u) (nat_abs v) (curve_in c) k;
      }
  kept (RemoveIsoEdge e) h =
      let k = remove_lone s m e h in
      record { planar = planar_5 m (nat_abs e) g k; surveyed = surveyed_5 m g (nat_abs e) }
  kept (ChangeEdgeGeom e c) h =
      let k = change s m e c h in
      record { planar = planar_6 m (nat_abs e) (curve_in c) o; surveyed = surveyed_6 m g (nat_abs e) (curve_in c) k }
  kept (NewEdgesSplit e x y) h = split_kept New (nat_abs e) (point x y) (split_new s m e x y h)
  kept (ModEdgeSplit e x y) h = split_kept Mod (nat_abs e) (point x y) (split-mod s m e x y h)
  kept (NewEdgeHeal e f) h = heal_kept New (nat_abs e) (nat_abs f) (heal_new s m e f h).0
  kept (ModEdgeHeal e f) h = heal_kept Mod (nat_abs e) (nat_abs f) (heal-mod s m e f h)
  kept (AddEdgeNewFaces u v c) h = add_kept New (nat_abs u) (nat_abs v) (curve_in c) (add_new s m u v c h)
  kept (AddEdgeModFace u v c) h = add_kept Mod (nat_abs u) (nat_abs v) (curve_in c) (add-mod s m u v c h)
  kept (RemEdgeNewFace e) h = remove_kept New (nat_abs e) (remove_new s m e h).has
  kept (RemEdgeModFace e) h = remove_kept Mod (nat_abs e) (remove_mod s m e h)

  -- the map after it is good
  pub good_kept : (t : Ticket) → first_reason (reasons s m t) ≡ 0 → Good (carried m t).0
  good_kept t h = record { numbered = numbered_kept s m g t h woven; woven = woven; surveyed = (kept t h).surveyed }
    where
      -- the law is kept on all tables, and each face is reached, hence borne
      woven : Woven (carried m t).0
      woven = record {
        planar = (kept t h).planar;
        law = carried_obeys s m L t h;
        borne =
            reached_borne (carried m t).0 (plane_reached (carried m t).0 (kept t h).planar (ranked_kept s m g t h));
      }

-- ---- the empty map

empty-numbered : Numbered empty_map
unfolding opened
empty-numbered = record {
  numbers = refl;
  named = refl;
  marked = refl;
  first_node = omega arith;
  first_edge = omega arith;
  next_node = omega arith;
  next_edge = omega arith;
  next_face = omega arith;
}

pub empty_good : Good empty_map
empty_good = record {
  numbered = empty-numbered;
  woven = record {
    planar = planar_empty (leaves empty_map) (next empty_map) (bears empty_map);
    law = λ n d k. absurd (Memᴰ.not-nil k);
    borne = λ f k ne. absurd (ne (Memᴰ.eq_of_singleton k));
  };
  surveyed = record {
    drawn = record { good = tt; clear = tt };
    kept = λ e k. absurd (Memᴰ.not-nil k);
    anchored = λ e k. absurd (Memᴰ.not-nil k);
    nodes_in_range = λ n k. absurd (Memᴰ.not-nil k);
    places = tt;
  };
}
