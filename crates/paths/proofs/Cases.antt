-- Worked examples: routes on networks made from the empty one, by computation.
use mathlib.Core.Path.{◌≡◌, refl}
use mathlib.Core.Bool.{cond}
use mathlib.Core.List.{List, [], ◌∷◌, ◌++◌, map}
use Prim.Native.Nat.{ℕ, ◌*◌}
use lib.IntN.{ℤ, pos, negsuc}
use lib.ListN.{replicate}
use Rattle.lists.specs.Tests.{same}
use Rattle.lists.specs.Scans.{fold}
use Rattle.planar_maps.specs.Map.{bwd}
use Rattle.network.specs.Rows.{Lent, node_width, link_width}
use Rattle.network.specs.Operation.{operation, created}
use Rattle.paths.specs.Walks.{Hop}
use Rattle.paths.specs.Nearest.{Near}
use Rattle.paths.specs.Route.{examined, length_of, bound_of, refusal_of, route_written}
use Rattle.paths.proofs.Opened.{opened}

-- ---- how networks are made, and how answers are written

-- tables of zeros, with room for 9 rows each
abbrev blank : Lent
blank =
    record {
      nodes = replicate (9 * node_width) (pos 0);
      links = replicate (9 * link_width) (pos 0);
      head = record { nodes = pos 0; links = pos 0; next_node = pos 0; next_link = pos 0; year = pos 0 };
    }

-- what operations leave of the empty network of 2005
unfoldable pub made : List (List ℕ) → Lent
made ts = fold (λ l t. (operation l (map pos t)).lent) (created blank (pos 2005)).lent ts

-- 0, length and bound; or a refusal alone
abbrev found : ℕ → ℕ → ℕ × ℕ × ℕ
found n b = (0, n, b)

abbrev no : ℕ → ℕ × ℕ × ℕ
no r = (r, 0, 0)

-- a call with room for 99 numbers
abbrev route : Lent → ℤ → ℤ → ℤ → ℕ × ℕ × ℕ
route l start goal k =
    let r = refusal_of l start goal k 99 in
    let way = found (length_of l start goal k) (bound_of l start goal k) in
    cond (same r 0) way (no r)

abbrev at : ℕ → ℕ → Near
at n d = record { node = n; far = d }

-- ---- a row of four nodes with a long way round from the first to the last, and a node apart

abbrev row : List (List ℕ)
row =
    (1 ∷ 0 ∷ 0 ∷ []) ∷ (1 ∷ 1 ∷ 0 ∷ []) ∷ (1 ∷ 2 ∷ 0 ∷ []) ∷ (1 ∷ 3 ∷ 0 ∷ []) ∷ (1 ∷ 9 ∷ 9 ∷ [])
    ∷ (4 ∷ 1 ∷ 2 ∷ 0 ∷ 0 ∷ 1 ∷ 0 ∷ [])
    ∷ (4 ∷ 2 ∷ 3 ∷ 1 ∷ 0 ∷ 2 ∷ 0 ∷ [])
    ∷ (4 ∷ 3 ∷ 4 ∷ 2 ∷ 0 ∷ 3 ∷ 0 ∷ [])
    ∷ (4 ∷ 1 ∷ 4 ∷ 0 ∷ 0 ∷ 0 ∷ 9 ∷ 3 ∷ 9 ∷ 3 ∷ 0 ∷ [])
    ∷ []

-- from 1 to 4: examined, then the next nearest, then by the long way, then not at all
pub fewer :
    map (route (made row) (pos 1) (pos 4)) (pos 9223372036854775807 ∷ pos 4 ∷ pos 3 ∷ pos 2 ∷ pos 1 ∷ pos 0 ∷ [])
    ≡ found 3 3 ∷ found 3 3 ∷ found 3 3 ∷ found 21 2 ∷ found 21 1 ∷ no 33 ∷ []
unfolding opened made
fewer = refl

-- a node to itself: k of 0 or below examines nothing, the start neither
pub itself : map (route (made row) (pos 2) (pos 2)) (pos 9 ∷ pos 1 ∷ pos 0 ∷ negsuc 0 ∷ negsuc 9223372036854775807 ∷ [])
    ≡ found 0 0 ∷ found 0 0 ∷ no 33 ∷ no 33 ∷ no 33 ∷ []
unfolding opened made
itself = refl

-- a node apart: 33 until every reachable node was examined; from there no node but itself is reachable
pub out_of_reach : map (route (made row) (pos 1) (pos 5)) (pos 0 ∷ pos 1 ∷ pos 3 ∷ pos 4 ∷ pos 9 ∷ [])
    ≡ no 33 ∷ no 33 ∷ no 33 ∷ no 32 ∷ no 32 ∷ []
unfolding opened made
out_of_reach = refl

pub alone : map (route (made row) (pos 5) (pos 1)) (pos 0 ∷ pos 1 ∷ pos 2 ∷ []) ≡ no 33 ∷ no 32 ∷ no 32 ∷ []
unfolding opened made
alone = refl

-- two hops to go, and no link: 33 with a small k, a route with a larger one
pub larger : map (route (made row) (pos 2) (pos 4)) (pos 1 ∷ pos 2 ∷ pos 3 ∷ pos 4 ∷ [])
    ≡ no 33 ∷ found 22 1 ∷ found 2 2 ∷ found 2 2 ∷ []
unfolding opened made
larger = refl

-- room by the nodes examined, even where the answer is shorter: two nodes, one link, k 99. It comes after 32 and 33
pub room :
    let two = made ((1 ∷ 0 ∷ 0 ∷ []) ∷ (1 ∷ 3 ∷ 4 ∷ []) ∷ (4 ∷ 1 ∷ 2 ∷ 0 ∷ 0 ∷ 3 ∷ 4 ∷ []) ∷ []) in
    map (refusal_of two (pos 1) (pos 2) (pos 99)) (4 ∷ 3 ∷ 0 ∷ [])
    ++ map (refusal_of two (pos 1) (pos 2) (pos 1)) (3 ∷ 2 ∷ [])
    ++ map (λ k. refusal_of (made row) (pos 1) (pos 5) k 0) (pos 1 ∷ pos 9 ∷ [])
    ≡ 0 ∷ 20 ∷ 20 ∷ 0 ∷ 20 ∷ 33 ∷ 32 ∷ []
unfolding opened made
room = refl

-- a link without a curve anywhere is 27, also from a node to itself; a missing node comes before
pub bare :
    let l = made (row ++ (4 ∷ 5 ∷ 5 ∷ []) ∷ []) in
    route l (pos 1) (pos 4) (pos 9) ∷ route l (pos 1) (pos 1) (pos 0) ∷ route l (pos 6) (pos 1) (pos 9)
    ∷ route l (pos 1) (negsuc 0) (pos 9) ∷ []
    ≡ no 27 ∷ no 27 ∷ no 4 ∷ no 4 ∷ []
unfolding opened made
bare = refl

-- ---- ties: three nodes 1 away from 4, of which 1 and 3 have links to 5

abbrev star : List (List ℕ)
star =
    (1 ∷ 6 ∷ 5 ∷ []) ∷ (1 ∷ 4 ∷ 5 ∷ []) ∷ (1 ∷ 5 ∷ 6 ∷ []) ∷ (1 ∷ 5 ∷ 5 ∷ []) ∷ (1 ∷ 7 ∷ 5 ∷ [])
    ∷ (4 ∷ 3 ∷ 4 ∷ 5 ∷ 6 ∷ 5 ∷ 5 ∷ [])
    ∷ (4 ∷ 4 ∷ 2 ∷ 5 ∷ 5 ∷ 4 ∷ 5 ∷ [])
    ∷ (4 ∷ 1 ∷ 4 ∷ 6 ∷ 5 ∷ 5 ∷ 5 ∷ [])
    ∷ (4 ∷ 3 ∷ 5 ∷ 5 ∷ 6 ∷ 7 ∷ 6 ∷ 7 ∷ 5 ∷ [])
    ∷ (4 ∷ 1 ∷ 5 ∷ 6 ∷ 5 ∷ 7 ∷ 5 ∷ [])
    ∷ []

-- the lower number is examined first
pub in_order : examined (made star) (pos 4) (pos 9) ≡ at 4 0 ∷ at 1 1 ∷ at 2 1 ∷ at 3 1 ∷ at 5 2 ∷ []
unfolding opened made
in_order = refl

pub ties : map (route (made star) (pos 4) (pos 5)) (pos 1 ∷ pos 2 ∷ pos 3 ∷ pos 4 ∷ pos 5 ∷ [])
    ≡ no 33 ∷ found 2 1 ∷ found 2 1 ∷ found 2 2 ∷ found 2 2 ∷ []
unfolding opened made
ties = refl

-- ---- the list: links walked backwards are negative, the remainder is untouched

abbrev back : ℕ → ℕ → ℕ → Hop
back k u v = record { dart = bwd k; from = u; to = v; long = 1 }

pub list :
    let home = back 3 4 3 ∷ back 2 3 2 ∷ back 1 2 1 ∷ [] in
    route_written (made row) (pos 4) (pos 1) (pos 9) home (map pos (7 ∷ 7 ∷ 7 ∷ 7 ∷ 7 ∷ 7 ∷ 8 ∷ []))
    ≡ pos 3 ∷ pos 3 ∷ negsuc 2 ∷ negsuc 1 ∷ negsuc 0 ∷ pos 7 ∷ pos 8 ∷ []
unfolding opened made
list = refl
