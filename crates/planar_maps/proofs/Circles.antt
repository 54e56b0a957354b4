-- Chords close circles (specs/Chords.antt). With Euler's sum there are as many as faces but one (`chords-length`), and
-- a cycle, a set of edges that crosses each cut an even number of times, is known from the chords in it
-- (`cycle_of_chords`): in a forest no set of edges but the empty one is a cycle. Assumes nothing.
use mathlib.Core.Path.{◌≡◌, refl, sym, ◌∙◌}
use mathlib.Core.Logic.{◌⊎◌, inl, inr}
use mathlib.Core.Bool.{Bool, true, false, ◌&&◌}
use mathlib.Core.List.Memᴰ
use mathlib.Core.List.{List, [], ◌∷◌, Memᴰ}
use Prim.Native.Nat.{ℕ, suc, ◌+◌}
use native.Mathlib.Omega.{arith}
use lib.ListN.{length}
use Rattle.lists.specs.Tests.{◌⊕◌, same}
use Rattle.lists.specs.Scans.{odd_count}
use Rattle.lists.specs.Members.{Distinct}
use Rattle.lists.proofs.Bools.{eq1, which, same_refl, same_true, differ, ⊕-self, &&-false}
use Rattle.lists.proofs.Members.{each-cons}
use Rattle.lists.proofs.Counts.{count_cong, count_all}
use Rattle.lists.proofs.Sums.{sum-zero}
use Rattle.planar_maps.specs.Map.{Arc, across, Cycle}
use Rattle.planar_maps.specs.Pieces.{Chain, label, pieces, Within, along, stay}
use Rattle.planar_maps.proofs.Chains.{label_of_chain, chain_of_label, pieces_loop, pieces_bridge}
use Rattle.planar_maps.specs.Chords.{chords}

-- an edge put before es closes a circle: its ends are connected
pub closes : Arc → List Arc → Bool
closes a es = same (label es a.from) (label es a.to)

pub chords_yes : (a : Arc) (es : List Arc) → closes a es ≡ true → chords (a ∷ es) ≡ a ∷ chords es
unfolding chords closes
chords_yes a es e = rw e

pub chords_no : (a : Arc) (es : List Arc) → closes a es ≡ false → chords (a ∷ es) ≡ chords es
unfolding chords closes
chords_no a es e = rw e

pub closes_chain : (a : Arc) (es : List Arc) → closes a es ≡ true → Chain es a.from a.to
unfolding closes
closes_chain a es e = chain_of_label es a.from a.to (same_true (label es a.from) (label es a.to) e)

within_rest : {nodes : List ℕ} {a : Arc} {es : List Arc} → Within nodes (a ∷ es) → Within nodes es
within_rest w = record { starts = λ b m. w.starts b (Memᴰ.tail m); ends = λ b m. w.ends b (Memᴰ.tail m) }

pieces_none : (nodes : List ℕ) → pieces nodes [] ≡ length nodes
unfolding pieces label
pieces_none nodes = count_cong (λ n. same n n) (λ n. true) nodes (λ n m. same_refl n) ∙ count_all nodes

chords_none : length (chords []) ≡ 0
unfolding chords
chords_none = refl

-- each edge is a chord or connects two pieces
pub chords-length : (nodes : List ℕ) (es : List Arc) → Distinct nodes → Within nodes es
    → length (chords es) + length nodes ≡ length es + pieces nodes es
unfolding closes
chords-length nodes [] dis w = omega (arith, chords_none, pieces_none nodes)
chords-length nodes (a ∷ es) dis w = step (chords-length nodes es dis (within_rest w)) (which (closes a es))
  where
    step : length (chords es) + length nodes ≡ length es + pieces nodes es
        → (closes a es ≡ true) ⊎ (closes a es ≡ false)
        → length (chords (a ∷ es)) + length nodes ≡ suc (length es) + pieces nodes (a ∷ es)
    step ih (inl e) = rw (chords_yes a es e) (omega (arith, ih, pieces_loop nodes a es (closes_chain a es e)))
    step ih (inr e) =
        rw (chords_no a es e)
        (omega (
          arith,
          ih,
          pieces_bridge nodes a es dis w
              (λ p. differ (label es a.from) (label es a.to) e (label_of_chain p)),
        ))

-- an edge that closes no circle is in no cycle: the nodes connected with its start are a cut that it alone crosses
bridge_out : (a : Arc) (es : List Arc) (c : ℕ → Bool) → closes a es ≡ false → Cycle (a ∷ es) c → c a.num ≡ false
unfolding closes
bridge_out a es c e cycle = eq1 (λ x. x) (λ x. x && true ⊕ false) tt (c a.num) ∙ sym split ∙ cycle X
  where
    X : ℕ → Bool
    X n = same (label es a.from) (label es n)

    rest : odd_count es (λ b. c b.num && across X b) ≡ false
    rest = sum-zero es (λ b. c b.num && across X b)
        (λ b m. rw (label_of_chain (along b m stay), ⊕-self (same (label es a.from) (label es b.to)))
        (&&-false (c b.num)))

    split : c a.num && across X a ⊕ odd_count es (λ b. c b.num && across X b) ≡ c a.num && true ⊕ false
    split = rw (rest, same_refl (label es a.from), e)

-- a cycle that has no chord has no edge
pub cycle_of_chords : (es : List Arc) (c : ℕ → Bool) → Cycle es c
    → ((a : Arc) → Memᴰ a (chords es) → c a.num ≡ false) → (a : Arc) → Memᴰ a es → c a.num ≡ false
cycle_of_chords [] c cycle h = λ a m. absurd (Memᴰ.not-nil m)
cycle_of_chords (a ∷ es) c cycle h = step (cycle_of_chords es c) (which (closes a es))
  where
    before : c a.num ≡ false → Cycle es c
    before out X = rw out at (cycle X)

    step : (Cycle es c → ((b : Arc) → Memᴰ b (chords es) → c b.num ≡ false) → (b : Arc) → Memᴰ b es
        → c b.num ≡ false) → (closes a es ≡ true) ⊎ (closes a es ≡ false)
        → (b : Arc) → Memᴰ b (a ∷ es) → c b.num ≡ false
    step ih (inl e) = each-cons {p = λ b. c b.num ≡ false} out (ih (before out) (λ b m. all b (Memᴰ.tail m)))
      where
        all : (b : Arc) → Memᴰ b (a ∷ chords es) → c b.num ≡ false
        all = rw (chords_yes a es e) at h

        out : c a.num ≡ false
        out = all a (Memᴰ.head refl)
    step ih (inr e) = each-cons {p = λ b. c b.num ≡ false} out (ih (before out) (rw (chords_no a es e) at h))
      where
        out : c a.num ≡ false
        out = bridge_out a es c e cycle
