-- What each kind does to the numbers of the three tables, on all maps: some stay, and the next ones are given. Assumes
-- nothing.
use mathlib.Core.Path.{◌≡◌, refl, sym, ap, ◌∙◌, subst}
use mathlib.Core.Bool.{Bool, true, false, cond, not, ◌&&◌}
use mathlib.Core.List.{List, [], ◌∷◌, ◌++◌, map, map-map, map-append, append-nil}
use Prim.Native.Nat.{ℕ, ◌+◌, ◌-◌}
use native.Mathlib.Nat.{add-zero}
use native.Mathlib.Omega.{arith}
use lib.IntN.{nat_abs}
use Rattle.lists.specs.Tests.{same, bit}
use Rattle.lists.specs.Scans.{keep}
use Rattle.lists.specs.Tables.{table}
use Rattle.lists.proofs.Keeps.{keep_all, keep-both}
use Rattle.lists.proofs.Lookups.{without, without_numbers, replaced_numbers}
use Rattle.lists.proofs.Maps.{map_twice}
use Rattle.plane.specs.declared.Point.{Point}
use Rattle.curves.specs.Curves.{Curve, start_way, point}
use Rattle.planar_maps.specs.Map.{fwd}
use Rattle.map.specs.declared.Counts.{Counts}
use Rattle.map.specs.declared.Variant.{Variant}
use Rattle.map.specs.declared.Variant.TheVariants.{New, Mod}
use Rattle.map.specs.Rows.{Map, edge, counts, at_nodes, at_edge}
use Rattle.map.specs.Darts.{bears}
use Rattle.map.specs.Links.{redirect, lead, link_in, link_edge, unlink_edge, corner_face}
use Rattle.map.specs.Edits.{add_iso_node, move_iso_node, remove_iso_node, drawn, undrawn, add_iso_edge, remove_iso_edge}
use Rattle.map.specs.Edits.{change_edge_geom, is_new, split, heal, drawn_in, splits_face, shared_out, split_face}
use Rattle.map.specs.Edits.{add_edge, lower_face, makes_face, renamed, renamed_faces, remove_edge}
use Rattle.map.specs.Tickets.{Ticket, AddIsoNode, MoveIsoNode, RemoveIsoNode, AddIsoEdge, RemoveIsoEdge, ChangeEdgeGeom}
use Rattle.map.specs.Tickets.{NewEdgesSplit, ModEdgeSplit, NewEdgeHeal, ModEdgeHeal, AddEdgeNewFaces, AddEdgeModFace}
use Rattle.map.specs.Tickets.{RemEdgeNewFace, RemEdgeModFace}
use Rattle.map.specs.Reasons.{curve_in}
use Rattle.map.specs.Ticket.{carried}
use Rattle.map_laws.proofs.Outlines.{drawn-shape}
use Rattle.grown.specs.Claims.{Given, NumbersGiven, node_numbers, edge_numbers}
use Rattle.grown.proofs.Curves.Survey.{Line, Place, line_of, place_of, lines, places, line_number, place_number}
use Rattle.grown.proofs.Curves.Sites.{moved}
use Rattle.grown.proofs.Curves.Rows.{Becomes, new_line, redrawn, add_iso_node_becomes, move_iso_node_becomes}
use Rattle.grown.proofs.Curves.Rows.{remove_iso_node_becomes, add_iso_edge_becomes, remove_iso_edge_becomes}
use Rattle.grown.proofs.Curves.Rows.{change_edge_geom_becomes, add_edge_becomes, remove_edge_becomes}
use Rattle.grown.proofs.Curves.Halves.{replaced, healed_row, split_new_becomes, split_mod_becomes}
use Rattle.grown.proofs.Curves.Halves.{heal_new_becomes, heal_mod_becomes}

-- ---- one table

-- some stay, and k numbers are given
pub record Takes (before : List ℕ) (next : ℕ) (after : List ℕ) (k : ℕ) : Type 0 where
  pub stays : ℕ → Bool
  pub numbers : after ≡ keep stays before ++ table (λ n. n) next k

pub given_of : {before after : List ℕ} {next k : ℕ} (then : ℕ) → Takes before next after k → then ≡ next + k
    → Given before next after then
given_of {before} {after} {next} {k} then t e = record {
  rises = omega arith;
  stays = t.stays;
  numbers = t.numbers
      ∙ ap (λ (j : ℕ). keep t.stays before ++ table (λ n. n) next j) (left then k e);
}
  where
    left : (a b : ℕ) → a ≡ next + b → b ≡ a - next
    left a b q = omega arith

all_kept : (xs : List ℕ) → keep (λ n. true) xs ≡ xs
all_kept xs = keep_all (λ n. true) xs (λ n k. refl)

-- the same numbers; some of them; and then k numbers more
pub takes_none : {before after : List ℕ} {next : ℕ} → after ≡ before → Takes before next after 0
takes_none {before} e = record { stays = λ n. true; numbers = e ∙ sym (append-nil _ ∙ all_kept before) }

takes_less : {before after : List ℕ} {next : ℕ} (p : ℕ → Bool) → after ≡ keep p before → Takes before next after 0
takes_less p e = record { stays = p; numbers = e ∙ sym (append-nil _) }

takes_more : {before after : List ℕ} {next : ℕ} (k : ℕ) → after ≡ before ++ table (λ n. n) next k
    → Takes before next after k
takes_more {before} {next = next} k e = record {
  stays = λ n. true;
  numbers = e ∙ ap (λ (l : List ℕ). l ++ table (λ n. n) next k) (sym (all_kept before));
}

-- ---- rows by their numbers

module _ {A : Type 0} (number : A → ℕ) (next : ℕ) (xs : List A) where
  rows_same : (ys : List A) → map number ys ≡ map number xs → Takes (map number xs) next (map number ys) 0
  rows_same ys e = takes_none e

  rows_more : (x : A) → number x ≡ next → Takes (map number xs) next (map number (xs ++ x ∷ [])) 1
  rows_more x e = takes_more 1 (map-append number xs (x ∷ []) ∙ ap (λ (n : ℕ). map number xs ++ n ∷ []) e)

  rows_less : (n : ℕ) → Takes (map number xs) next (map number (without number n xs)) 0
  rows_less n = takes_less (λ k. not (same k n)) (without_numbers number n xs)

-- the numbers of rows by those of what is made of them
by_rows : {A B : Type 0} (f : A → B) (number : B → ℕ) {next k : ℕ} (xs ys : List A) {bs : List B} → map f ys ≡ bs
    → Takes (map number (map f xs)) next (map number bs) k
    → Takes (map (λ x. number (f x)) xs) next (map (λ x. number (f x)) ys) k
by_rows f number {next} {k} xs ys e t = record {
  stays = t.stays;
  numbers = sym (map-map number f ys) ∙ ap (map number) e ∙ t.numbers
      ∙ ap (λ (l : List ℕ). keep t.stays l ++ table (λ n. n) next k) (map-map number f xs);
}

-- ---- what a ticket takes of all three tables

pub record AllTake (m m' : Map) (a b c : ℕ) : Type 0 where
  pub nodes : Takes (node_numbers m) m.next.nodes (node_numbers m') a
  pub edges : Takes (edge_numbers m) m.next.edges (edge_numbers m') b
  pub faces : Takes m.faces m.next.faces m'.faces c
  pub next_node : m'.next.nodes ≡ m.next.nodes + a
  pub next_edge : m'.next.edges ≡ m.next.edges + b
  pub next_face : m'.next.faces ≡ m.next.faces + c

pub take-given : {m m' : Map} {a b c : ℕ} → AllTake m m' a b c → NumbersGiven m m'
take-given {m' = m'} t = record {
  nodes = given_of m'.next.nodes t.nodes t.next_node;
  edges = given_of m'.next.edges t.edges t.next_edge;
  faces = given_of m'.next.faces t.faces t.next_face;
}

-- nodes and edges by their places and lines
becomes_take : {m m' : Map} {ls : List Line} {ps : List Place} {a b c : ℕ} → Becomes m' ls ps
    → Takes (map place_number (places m)) m.next.nodes (map place_number ps) a
    → Takes (map line_number (lines m)) m.next.edges (map line_number ls) b
    → Takes m.faces m.next.faces m'.faces c
    → m'.next.nodes ≡ m.next.nodes + a → m'.next.edges ≡ m.next.edges + b
    → m'.next.faces ≡ m.next.faces + c → AllTake m m' a b c
becomes_take {m} {m'} h p q r i j k = record {
  nodes = by_rows place_of place_number m.nodes m'.nodes h.places p;
  edges = by_rows line_of line_number m.edges m'.edges h.lines q;
  faces = r;
  next_node = i;
  next_edge = j;
  next_face = k;
}

still : (n : ℕ) → n ≡ n + 0
still n = sym (add-zero n)

-- nothing is given
pub none_given : (m : Map) → NumbersGiven m m
none_given m = take-given (record {
  nodes = takes_none refl;
  edges = takes_none refl;
  faces = takes_none refl;
  next_node = still m.next.nodes;
  next_edge = still m.next.edges;
  next_face = still m.next.faces;
})

-- a face split: one or two new faces, and the old one gone with two
record FaceSplit (m m' : Map) : Type 0 where
  new : ℕ
  faces : Takes m.faces m.next.faces m'.faces new
  next_node : m'.next.nodes ≡ m.next.nodes
  next_edge : m'.next.edges ≡ m.next.edges
  next_face : m'.next.faces ≡ m.next.faces + new

split_face-take : (how : Variant) (e : ℕ) (m : Map) → FaceSplit m (split_face how e m)
unfolding split_face shared_out
split_face-take how e m = record {
  new = cond goes 2 1;
  faces = list goes (bears m (fwd e));
  next_node = add-zero m.next.nodes;
  next_edge = add-zero m.next.edges;
  next_face = refl;
}
  where
    goes : Bool
    goes = is_new how && not (same (bears m (fwd e)) 0)

    list : (b : Bool) (old : ℕ) → let a = m.next.faces in
        Takes m.faces a
        (cond b (keep (λ f. not (same f old)) m.faces ++ a ∷ cond b (a + 1) old ∷ []) (m.faces ++ a ∷ []))
        (cond b 2 1)
    list true old = record { stays = λ f. not (same f old); numbers = refl }
    list false old = takes_more 1 refl

-- ---- the kinds, on all maps

module _ (m : Map) where
  abbrev PlacesTake : List Place → ℕ → Type 0
  PlacesTake ps a = Takes (map place_number (places m)) m.next.nodes (map place_number ps) a

  abbrev LinesTake : List Line → ℕ → Type 0
  LinesTake ls b = Takes (map line_number (lines m)) m.next.edges (map line_number ls) b

  same_places : PlacesTake (places m) 0
  same_places = rows_same place_number m.next.nodes (places m) (places m) refl

  same_lines : LinesTake (lines m) 0
  same_lines = rows_same line_number m.next.edges (lines m) (lines m) refl

  same_faces : Takes m.faces m.next.faces m.faces 0
  same_faces = takes_none refl

  more_places : (p : Place) → p.number ≡ m.next.nodes → PlacesTake (places m ++ p ∷ []) 1
  more_places = rows_more place_number m.next.nodes (places m)

  less_places : (n : ℕ) → PlacesTake (without place_number n (places m)) 0
  less_places = rows_less place_number m.next.nodes (places m)

  more_lines : (l : Line) → l.number ≡ m.next.edges → LinesTake (lines m ++ l ∷ []) 1
  more_lines = rows_more line_number m.next.edges (lines m)

  less_lines : (e : ℕ) → LinesTake (without line_number e (lines m)) 0
  less_lines = rows_less line_number m.next.edges (lines m)

  add_node-take : (p : Point) → AllTake m (add_iso_node p m) 1 0 0
  unfolding add_iso_node
  add_node-take p = becomes_take (add_iso_node_becomes p m) (more_places _ refl) same_lines same_faces refl refl refl

  move_node-take : (n : ℕ) (p : Point) → AllTake m (move_iso_node n p m) 0 0 0
  unfolding move_iso_node at_nodes
  move_node-take n p = becomes_take (move_iso_node_becomes n p m)
      (rows_same place_number m.next.nodes (places m) (map (moved n p) (places m))
      (replaced_numbers place_number n (record { number = n; at = p }) (places m) refl))
      same_lines same_faces (still _) (still _) (still _)

  remove_node-take : (n : ℕ) → AllTake m (remove_iso_node n m) 0 0 0
  unfolding remove_iso_node
  remove_node-take n = becomes_take (remove_iso_node_becomes n m) (less_places n) same_lines same_faces
      (still _) (still _) (still _)

  add-lone-take : (u v : ℕ) (c : Curve) → AllTake m (add_iso_edge u v c m) 0 1 0
  unfolding add_iso_edge drawn at_nodes link_edge link_in lead redirect at_edge
  add-lone-take u v c = becomes_take (add_iso_edge_becomes u v c m) same_places (more_lines _ refl) same_faces refl refl
      refl

  remove_lone_take : (e : ℕ) → AllTake m (remove_iso_edge e m) 0 0 0
  unfolding remove_iso_edge undrawn at_nodes unlink_edge redirect
  remove_lone_take e = becomes_take (remove_iso_edge_becomes e m) same_places (less_lines e) same_faces
      (still _) (still _) (still _)

  change-take : (e : ℕ) (c : Curve) → AllTake m (change_edge_geom e c m) 0 0 0
  unfolding change_edge_geom at_edge
  change-take e c = becomes_take (change_edge_geom_becomes e c m) same_places
      (rows_same line_number m.next.edges (lines m) (map put (lines m))
      (map_twice line_number put line_number (lines m) (λ l k. go (same l.number e) l)))
      same_faces (still _) (still _) (still _)
    where
      put : Line → Line
      put l = cond (same l.number e) (redrawn c l) l

      go : (b : Bool) (l : Line) → line_number (cond b (redrawn c l) l) ≡ line_number l
      go true l = refl
      go false l = refl

  split_new_take : (e : ℕ) (p : Point) → AllTake m (split New e p m) 1 2 0
  unfolding split
  split_new_take e p = becomes_take (split_new_becomes e p m) (more_places _ refl)
      (record {
        stays = λ k. not (same k e);
        numbers = map-append line_number (without line_number e (lines m)) (_ ∷ _ ∷ [])
            ∙ ap (λ (l : List ℕ). l ++ m.next.edges ∷ (m.next.edges + 1) ∷ [])
            (without_numbers line_number e (lines m));
      }) same_faces refl refl refl

  split-mod-take : (e : ℕ) (p : Point) → AllTake m (split Mod e p m) 1 1 0
  unfolding split
  split-mod-take e p = becomes_take (split_mod_becomes e p m) (more_places _ refl)
      (takes_more 1 (map-append line_number (map (replaced e _) (lines m)) (_ ∷ [])
      ∙ ap (λ (l : List ℕ). l ++ m.next.edges ∷ []) (replaced_numbers line_number e _ (lines m) refl)))
      same_faces refl refl refl

  heal_new_take : (e f : ℕ) → AllTake m (heal New e f m) 0 1 0
  unfolding heal
  heal_new_take e f = becomes_take (heal_new_becomes e f m) (less_places _)
      (record {
        stays = λ k. not (same k f) && not (same k e);
        numbers = map-append line_number (without line_number e (without line_number f (lines m))) (_ ∷ [])
            ∙ ap (λ (l : List ℕ). l ++ m.next.edges ∷ [])
            (without_numbers line_number e (without line_number f (lines m))
            ∙ ap (keep (λ k. not (same k e))) (without_numbers line_number f (lines m))
            ∙ keep-both (λ k. not (same k f)) (λ k. not (same k e)) (map line_number (lines m)));
      }) same_faces refl refl refl

  heal-mod-take : (e f : ℕ) → AllTake m (heal Mod e f m) 0 0 0
  unfolding heal
  heal-mod-take e f = becomes_take (heal_mod_becomes e f m) (less_places _)
      (takes_less (λ k. not (same k f)) (without_numbers line_number f (map (replaced e (healed_row e e f m)) (lines m))
      ∙ ap (keep (λ k. not (same k f))) (replaced_numbers line_number e (healed_row e e f m) (lines m) refl)))
      same_faces refl refl refl

  -- an edge drawn, and then perhaps a face split
  add_edge-take : (how : Variant) (u v : ℕ) (c : Curve) → NumbersGiven m (add_edge how u v c m)
  unfolding add_edge
  add_edge-take how u v c = go (splits_face u v c m) (add_edge_becomes how u v c m)
    where
      drawing : Map
      drawing = drawn_in u v c m

      faces : drawing.faces ≡ m.faces
      faces = (drawn-shape u v c (corner_face m u (start_way c)) m).faces

      next : drawing.next ≡ counts m.next.nodes (m.next.edges + 1) m.next.faces
      next = (drawn-shape u v c (corner_face m u (start_way c)) m).next

      parted : FaceSplit drawing (split_face how m.next.edges drawing)
      parted = split_face-take how m.next.edges drawing

      go : (b : Bool) → let m' = cond b (split_face how m.next.edges drawing) drawing in
          Becomes m' (lines m ++ (new_line m.next.edges u v c ∷ [])) (places m) → NumbersGiven m m'
      go true h =
          take-given (becomes_take h same_places (more_lines _ refl)
          (subst (λ (n : Counts). Takes m.faces n.faces (split_face how m.next.edges drawing).faces
          parted.new) next (subst (λ (fs : List ℕ). Takes fs drawing.next.faces
          (split_face how m.next.edges drawing).faces parted.new) faces parted.faces))
          (parted.next_node ∙ ap (λ (n : Counts). n.nodes) next ∙ still _)
          (parted.next_edge ∙ ap (λ (n : Counts). n.edges) next)
          (parted.next_face ∙ ap (λ (n : Counts). n.faces + parted.new) next))
      go false h = take-given (becomes_take h same_places (more_lines _ refl) (takes_none faces)
          (ap (λ (n : Counts). n.nodes) next ∙ still _) (ap (λ (n : Counts). n.edges) next)
          (ap (λ (n : Counts). n.faces) next ∙ still _))

  remove_edge-take : (how : Variant) (e : ℕ) → AllTake m (remove_edge how e m) 0 0 (bit (makes_face how e m))
  unfolding remove_edge renamed_faces undrawn at_nodes unlink_edge redirect
  remove_edge-take how e = becomes_take (remove_edge_becomes how e m) same_places (less_lines e) (go (makes_face how e m))
      refl refl refl
    where
      go : (b : Bool) → let f = cond b m.next.faces (lower_face e m) in
          let left = keep (λ g. same g (renamed (edge m e) f g)) m.faces in
          Takes m.faces m.next.faces (cond b (left ++ f ∷ []) left) (bit b)
      go true = record { stays = λ g. same g (renamed (edge m e) m.next.faces g); numbers = refl }
      go false = takes_less (λ g. same g (renamed (edge m e) (lower_face e m) g)) refl

  pub carried-given : (t : Ticket) → NumbersGiven m (carried m t).0
  unfolding carried
  carried-given (AddIsoNode f x y) = take-given (add_node-take (point x y))
  carried-given (MoveIsoNode n x y) = take-given (move_node-take (nat_abs n) (point x y))
  carried-given (RemoveIsoNode n) = take-given (remove_node-take (nat_abs n))
  carried-given (AddIsoEdge u v c) = take-given (add-lone-take (nat_abs u) (nat_abs v) (curve_in c))
  carried-given (RemoveIsoEdge e) = take-given (remove_lone_take (nat_abs e))
  carried-given (ChangeEdgeGeom e c) = take-given (change-take (nat_abs e) (curve_in c))
  carried-given (NewEdgesSplit e x y) = take-given (split_new_take (nat_abs e) (point x y))
  carried-given (ModEdgeSplit e x y) = take-given (split-mod-take (nat_abs e) (point x y))
  carried-given (NewEdgeHeal e f) = take-given (heal_new_take (nat_abs e) (nat_abs f))
  carried-given (ModEdgeHeal e f) = take-given (heal-mod-take (nat_abs e) (nat_abs f))
  carried-given (AddEdgeNewFaces u v c) = add_edge-take New (nat_abs u) (nat_abs v) (curve_in c)
  carried-given (AddEdgeModFace u v c) = add_edge-take Mod (nat_abs u) (nat_abs v) (curve_in c)
  carried-given (RemEdgeNewFace e) = take-given (remove_edge-take New (nat_abs e))
  carried-given (RemEdgeModFace e) = take-given (remove_edge-take Mod (nat_abs e))
