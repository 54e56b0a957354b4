-- Contents of any map (specs/Claims.antt): a greater bound on the depth changes nothing, and for a map in form they are
-- the list by its rule where that has each face and each piece once. Assumes nothing.
use mathlib.Core.Path.{◌≡◌, refl, sym, ap, ◌∙◌, subst}
use mathlib.Core.Logic.{◌↔◌}
use mathlib.Core.Bool.{Bool, true, false, cond, not, true≢false}
use mathlib.Core.List.Memᴰ
use mathlib.Core.List.{List, [], ◌∷◌, map, flat_map, Memᴰ}
use mathlib.Core.List.Permᴰ
use mathlib.Core.Option.{Option, none, some, get_or}
use Prim.Native.Nat.{ℕ, zero, suc, ◌+◌, ◌≤◌}
use native.Mathlib.Omega.{arith}
use borrow.Author.Tests.{ltb-false, le-ltb}
use lib.Dec.{ltb}
use lib.IntN.{ℤ}
use lib.ListN.{length, length-map, length-append}
use Rattle.lists.specs.Tests.{same}
use Rattle.lists.specs.Scans.{is_some}
use Rattle.lists.specs.Members.{Distinct}
use Rattle.lists.proofs.Counts.{count_keep}
use Rattle.lists.proofs.Keeps.{keep_in, distinct_keep}
use Rattle.lists.proofs.Perms.{perm_length, perm_of_distinct, perm_distinct, distinct_map, distinct_append}
use Rattle.planar_maps.specs.Pieces.{pieces}
use Rattle.map.specs.Rows.{Map, Lent, map_of, whole}
use Rattle.map.specs.Darts.{piece_of, piece_count}
use Rattle.map.specs.Form.{formed, in_form}
use Rattle.map.specs.Reasons.{first_reason}
use Rattle.map.specs.Ticket.{list_unless}
use Rattle.map.proofs.Laws.{formed_is, in_form_is}
use Rattle.map_laws.proofs.Faces.{formed_faces}
use Rattle.nesting.specs.Contents.{piece_rows, part_count, is_in, listed_under, Line, lines, complete}
use Rattle.nesting.specs.Contents.{contents}
use Rattle.nesting.specs.Contents.{line_cells, contents_of}
use Rattle.nesting.specs.Claims.{Part, part_of, faces_and_pieces, Once, by_rule, DepthEnough, ContentsExact}
use Rattle.nesting.specs.Claims.{Exactly28}
use Rattle.nesting.proofs.Walks.{keys, Sound, lines_rule, rule_lines, lines_sound, depth_alike}

-- ---- faces and pieces

pub pieces_are : (m : Map) → length (piece_rows m) ≡ piece_count m
unfolding pieces piece_rows
pieces_are m = sym (count_keep (λ n. same (piece_of m n) n) (map (λ r. r.number) m.nodes))

pub parts_are : (m : Map) → length (faces_and_pieces m) ≡ part_count m
parts_are m = simp (length-append, length-map) (ap (λ n. length m.faces + n) (pieces_are m))

pub face_part : (m : Map) {f : ℕ} → Memᴰ f m.faces → Memᴰ (false, f) (faces_and_pieces m)
face_part m k = Memᴰ.append_left (map (λ p. (true, p)) (piece_rows m)) (Memᴰ.map (λ f. (false, f)) k)

pub piece_part : (m : Map) {p : ℕ} → Memᴰ p (piece_rows m) → Memᴰ (true, p) (faces_and_pieces m)
piece_part m k = Memᴰ.append_right (map (λ f. (false, f)) m.faces) (Memᴰ.map (λ p. (true, p)) k)

-- what is under a face or a piece is a piece or a face
pub under_part : (m : Map) (b : Bool) (x y : ℕ) → Memᴰ y (listed_under m b x)
    → Memᴰ (not b, y) (faces_and_pieces m)
unfolding listed_under
under_part m false f p k = piece_part m (keep_in (λ p. is_in m p f) (piece_rows m) k).0
under_part m true p f k = face_part m (keep_in (λ f. is_in m p f) m.faces k).0

-- ---- the bound on the depth

pub depth_enough : DepthEnough
depth_enough m k le =
    depth_alike (listed_under m) ((false, 0) ∷ faces_and_pieces m) (λ b x y h. Memᴰ.tail (under_part m b x y h)) k
    (suc (part_count m)) false 0 none 0 [] (Memᴰ.head refl)
    (record { once = tt; inside = λ z h. absurd (Memᴰ.not-nil h) }) (omega (arith, parts_are m))
    (omega (arith, parts_are m))

-- ---- contents

-- the lines are complete
pub complete_some : (n : ℕ) (o : Option (List Line)) (ls : List Line) → complete n o ≡ some ls
    → (o ≡ some ls) × (n ≤ length ls)
complete_some n none ls e = absurd (let z : ◌≡◌ {A = ℕ} 0 1 = cc in omega arith)
complete_some n (some ks) ls e = go (ltb (length ks) n) refl e
  where
    go : (b : Bool) → ltb (length ks) n ≡ b → cond b none (some ks) ≡ some ls → (some ks ≡ some ls) × (n ≤ length ls)
    go true q e = absurd (let z : ◌≡◌ {A = ℕ} 0 1 = cc in omega arith)
    go false q e = let r : ks ≡ ls = cc in (e, omega (arith, ltb-false, ap length r))

some_complete : (n : ℕ) (o : Option (List Line)) (ls : List Line) → o ≡ some ls → n ≤ length ls → complete n o ≡ some ls
some_complete n o ls e le = ap (complete n) e ∙ ap (λ b. cond b none (some ls)) (le-ltb (length ls) n le)

-- where face 0 exists, lines for as many as there are faces and pieces are contents, and each is listed once
module _ (m : Map) (zero_in : Memᴰ 0 m.faces) where
  pub lines_once : (k : ℕ) (ls : List Line) → lines k (listed_under m) false 0 none 0 [] ≡ some ls
      → part_count m ≤ length ls
      → Once m ls
  lines_once k ls e le = perm_of_distinct (keys ls) (faces_and_pieces m) s.once s.inside
      (omega (arith, parts_are m, length-map ls part_of))
    where
      s : Sound (listed_under m) (faces_and_pieces m) (under_part m) ls
      s = lines_sound (listed_under m) (faces_and_pieces m) (under_part m) k false 0 none 0 [] ls (face_part m zero_in) e
          (record { once = tt; inside = λ z h. absurd (Memᴰ.not-nil h) })

  pub lines-contents : (k : ℕ) → suc (part_count m) ≤ k → (ls : List Line)
      → lines k (listed_under m) false 0 none 0 [] ≡ some ls → part_count m ≤ length ls → contents m ≡ some ls
  unfolding contents
  lines-contents k le ls e full = some_complete (part_count m) _ ls (sym (depth_enough m k le) ∙ e) full

  contents-lines : (k : ℕ) → suc (part_count m) ≤ k → (ls : List Line) → contents m ≡ some ls
      → (lines k (listed_under m) false 0 none 0 [] ≡ some ls) × (part_count m ≤ length ls)
  unfolding contents
  contents-lines k le ls e = let r = complete_some (part_count m) _ ls e in (depth_enough m k le ∙ r.0, r.1)

-- in form, face 0 exists, and no face and no piece stands twice
module _ (m : Map) (h : formed m ≡ true) where
  pub zero_in : Memᴰ 0 m.faces
  zero_in = (formed_faces m h).zero

  pub faces_once : Distinct m.faces
  faces_once = (formed_is m h).numbers.faces.distinct

  pub pieces_once : Distinct (piece_rows m)
  unfolding piece_rows
  pieces_once = distinct_keep (λ n. same (piece_of m n) n) (map (λ r. r.number) m.nodes)
      (formed_is m h).numbers.nodes.distinct

  pub parts_once : Distinct (faces_and_pieces m)
  parts_once = distinct_append (map (λ f. (false, f)) m.faces) (map (λ p. (true, p)) (piece_rows m))
      (of false m.faces faces_once) (of true (piece_rows m) pieces_once) apart
    where
      of : (b : Bool) (xs : List ℕ) → Distinct xs → Distinct {A = Part} (map (λ x. (b, x)) xs)
      of b xs dis = distinct_map (λ (x : ℕ). (b, x)) xs dis (λ x y j k e. ap (λ (z : Part). z.1) e)

      apart : (z : Part) → Memᴰ z (map (λ f. (false, f)) m.faces)
          → Memᴰ z (map (λ p. (true, p)) (piece_rows m)) → ⊥
      apart z j k =
          let p = Memᴰ.of_map (λ (f : ℕ). (false, f)) m.faces j in
          let q = Memᴰ.of_map (λ (p : ℕ). (true, p)) (piece_rows m) k in
          true≢false (ap (λ (z : Part). z.0) (q.2 ∙ sym p.2))

pub contents_exact : ContentsExact
contents_exact m h k le ls = (there, back)
  where
    there : contents m ≡ some ls → (by_rule k m ≡ ls) × Once m ls
    there e =
        let r = contents-lines m (zero_in m h) k le ls e in (
          sym (lines_rule (listed_under m) k false 0 none 0 [] ls r.0).0,
          lines_once m (zero_in m h) k ls r.0
              r.1,
        )

    back : (by_rule k m ≡ ls) × Once m ls → contents m ≡ some ls
    back (e, once) = lines-contents m (zero_in m h) k le ls
        (rule_lines (listed_under m) k (part_count m) false 0 none 0 [] (subst (λ l. Distinct (keys l)) (sym e) distinct)
        (omega (arith, ap length e, all)) (omega arith) ∙ ap some e) (omega (arith, all))
      where
        distinct : Distinct (keys ls)
        distinct = perm_distinct (Permᴰ.symm once) (parts_once m h)

        all : length ls ≡ part_count m
        all = sym (length-map ls part_of) ∙ perm_length once ∙ parts_are m

-- ---- the answer

-- 1 not whole, 2 not in form, 28 no contents, 20 too short
abbrev pub reason : Bool → Bool → Bool → Bool → ℕ
reason a b c d = first_reason ((1, not a) ∷ (2, not b) ∷ (28, not c) ∷ (20, d) ∷ [])

abbrev pub short : Lent → List ℤ → Bool
short l list = ltb (length list) (length (flat_map line_cells (get_or (contents (map_of l)) [])))

pub refusal_is : (l : Lent) (list : List ℤ)
    → (contents_of l list).answer.refusal ≡ reason (whole l) (in_form l) (is_some (contents (map_of l))) (short l list)
unfolding contents_of
refusal_is l list = go (flat_map line_cells (get_or (contents (map_of l)) []))
    (reason (whole l) (in_form l) (is_some (contents (map_of l))) (short l list))
  where
    go : (written : List ℤ) (n : ℕ) → (list_unless list written n).answer.refusal ≡ n
    go written zero = refl
    go written (suc n) = refl

-- where there are contents 28 is no reason, where there are none it is the first after 1 and 2
pub not_28 : (a b d : Bool) → reason a b true d ≡ 28 → ⊥
unfolding first_reason
not_28 true true true e = omega arith
not_28 true true false e = omega arith
not_28 true false d e = omega arith
not_28 false b d e = omega arith

is_28 : (a b d : Bool) → a ≡ true → b ≡ true → reason a b false d ≡ 28
unfolding first_reason
is_28 a b d p q = rw (p, q)

pub exactly_28 : Exactly28
exactly_28 l list w f k le = (there, λ off. refusal_is l list ∙ back off (contents (map_of l)) refl)
  where
    exact : (ls : List Line) → (contents (map_of l) ≡ some ls) ↔ (by_rule k (map_of l) ≡ ls) × Once (map_of l) ls
    exact = contents_exact (map_of l) (in_form_is l f).formed k le

    there : (contents_of l list).answer.refusal ≡ 28 → Once (map_of l) (by_rule k (map_of l)) → ⊥
    there e once = not_28 (whole l) (in_form l) (short l list)
        (sym (ap (λ o. reason (whole l) (in_form l) (is_some o) (short l list)) ((exact _).1 (refl, once)))
        ∙ sym (refusal_is l list) ∙ e)

    back : (Once (map_of l) (by_rule k (map_of l)) → ⊥) → (o : Option (List Line)) → contents (map_of l) ≡ o
        → reason (whole l) (in_form l) (is_some o) (short l list) ≡ 28
    back off none e = is_28 (whole l) (in_form l) (short l list) w f
    back off (some ls) e = absurd (off (subst (Once (map_of l)) (sym ((exact ls).0 e).0) ((exact ls).0 e).1))
