-- All lines from face row 0 on: its own line, then what is under it. Assumes nothing.
use Rattle.std.specs.Prelude.{Option as Left, Some, None}
use Rattle.std.specs.Option.{option_eq}
use mathlib.Core.Path.{◌≡◌, refl, sym, ap, ◌∙◌, subst}
use mathlib.Core.Bool.{Bool, true, false, cond, true≢false}
use mathlib.Core.List.Memᴰ
use mathlib.Core.List.{List, [], ◌∷◌}
use mathlib.Core.Option.{none, some}
use Prim.Native.Nat.{ℕ, zero, suc, ◌-◌, ◌*◌, ◌≤◌}
use native.Mathlib.Omega.{arith}
use lib.Dec.{eqb}
use lib.ListN.{length, get_or, set, replicate}
use borrow.Author.Tests.{eqb-true, eqb-false, lt-ltb, le-ltb}
use Rattle.lists.specs.Tests.{same}
use Rattle.lists.proofs.Bools.{same_refl}
use Rattle.lists.proofs.Members.{no_member}
use Rattle.lists.proofs.Keeps.{keep_all}
use Rattle.piece_faces.specs.Bits.{span, vertex_of, related}
use Rattle.nesting.specs.Contents.{line, each, lines, complete}
use Rattle.nesting.specs.Claims.{Part}
use Rattle.outline_rows.specs.Listing.{SoFar, Told, Lists, listed_from, noted_lines, AllParts, Outlined}
use Rattle.outline_rows.proofs.Rows.{rows_all}
use Rattle.outline_rows.proofs.States.{sound, one_more}
use Rattle.outline_rows.proofs.Steps.{alike}

-- an array of zeros
pub zeros : (n i : ℕ) → ◌≡◌ {A = ℕ} (get_or (replicate n 0) i 0) 0
zeros zero i = refl
zeros (suc n) zero = refl
zeros (suc n) (suc i) = zeros n i

-- nothing is listed yet
none_yet : (all : List Part) (notes seen : List ℕ) → ((i : ℕ) → get_or seen i 0 ≡ 0)
    → SoFar all (length all) notes seen []
none_yet all notes seen blank = record {
  count = omega arith;
  noted = refl;
  once = tt;
  inside = λ z m. absurd (Memᴰ.not-nil m);
  marked = λ b x h. ap (λ n. same n 0) (blank (vertex_of b x)) ∙ same_refl 0;
}

-- the first line, then what is under it
opened : (beneath : Bool → ℕ → List ℕ) (n : ℕ) → lines (suc n) beneath false 0 none 0 []
    ≡ each (λ y. lines n beneath true y (some 0) 1) (beneath false 0) (some (line 0 false 0 ∷ []))
unfolding lines
opened beneath n = ap (λ ws. each (λ y. lines n beneath true y (some 0) 1) ws (some (line 0 false 0 ∷ [])))
    (keep_all (λ y. true) (beneath false 0) (λ y m. refl))

pub some_parts : {g : List ℕ} {parts : ℕ} → AllParts g parts → 1 ≤ parts
some_parts whole =
    let some : (length whole.all ≡ 0) → ⊥ = λ e. no_member whole.all e whole.zero_in in
    omega (arith, whole.count)

module _ (g : List ℕ) (parts : ℕ) (whole : AllParts g parts) (notes seen : List ℕ) (fits : parts * 2 ≤ length notes)
    (marks : length seen ≡ span * 2) (blank : (i : ℕ) → get_or seen i 0 ≡ 0) where
  abbrev all : List Part
  all = whole.all

  first : SoFar all (parts - 1) (set (set notes (parts * 2 - 2) 0) (parts * 2 - 1) 0) (set seen 0 1)
      (line 0 false 0 ∷ [])
  first = one_more g all whole.closed parts notes seen []
      (subst (λ n. SoFar all n notes seen []) whole.count (none_yet all notes seen blank)) 0 false 0 0 refl
      (omega arith) (some_parts whole) fits marks whole.zero_in refl

  all_lines : lines (suc parts) (related g) false 0 none 0 []
      ≡ listed_from g false 0 0 span 1 (parts - 1) (line 0 false 0 ∷ [])
  all_lines = opened (related g) parts
      ∙ alike g false 0 1 (omega arith) parts (parts - 1) all whole.closed (related g false 0)
      (λ w m. whole.closed false 0 w m) (line 0 false 0 ∷ []) (sound g all whole.closed (parts - 1) _ _ _ first)
      (omega (arith, whole.count)) (omega (arith, whole.count, some_parts whole))
      ∙ ap (λ ws. each (λ y. lines (parts - 1) (related g) true y (some 0) 1) ws (some (line 0 false 0 ∷ [])))
      (sym (rows_all g 0 span (omega arith)))

  -- nothing is left exactly where no line is missed
  told : (notes₂ seen₂ : List ℕ) (r : Left ℕ)
      → Told all notes₂ seen₂ (listed_from g false 0 0 span 1 (parts - 1) (line 0 false 0 ∷ [])) r
      → Outlined g parts notes₂ (option_eq eqb r (Some 0))
  told notes₂ seen₂ None e = record {
    lists = λ q. absurd (true≢false (sym q));
    none_is = λ q. ap (complete parts) (all_lines ∙ e);
  }
  told notes₂ seen₂ (Some k) t =
      let after = t.0 in
      let s = t.2 in
      let completed = ap (complete parts) (all_lines ∙ t.1) in
      record {
        lists = λ q.
            let e : k ≡ 0 = eqb-true k 0 q in
            let long : length after ≡ parts = omega (arith, s.count, whole.count) in
            completed ∙ ap (λ b. cond b none (some after)) (le-ltb (length after) parts (omega arith))
            ∙ ap some (s.noted ∙ ap (λ n. noted_lines notes₂ n (length after)) whole.count
            ∙ ap (noted_lines notes₂ parts) long);
        none_is = λ q.
            let e : (k ≡ 0) → ⊥ = eqb-false k 0 q in
            completed ∙ ap (λ b. cond b none (some after))
            (lt-ltb (length after) parts (omega (arith, s.count, whole.count)));
      }

  pub outlined : (notes₁ seen₁ : List ℕ)
      → (notes₁ ≡ set (set notes (parts * 2 - 2) 0) (parts * 2 - 1) 0) × (seen₁ ≡ set seen 0 1)
      → (notes₂ seen₂ : List ℕ) (r : Left ℕ) → Lists g false 0 0 span 1 (parts - 1) notes₁ seen₁ notes₂ seen₂ r
      → Outlined g parts notes₂ (option_eq eqb r (Some 0))
  outlined notes₁ seen₁ noted notes₂ seen₂ r t = told notes₂ seen₂ r (t.told all (line 0 false 0 ∷ []) whole.closed
      (subst (λ w. SoFar all (parts - 1) notes₁ w (line 0 false 0 ∷ [])) (sym noted.1)
      (subst (λ w. SoFar all (parts - 1) w (set seen 0 1) (line 0 false 0 ∷ [])) (sym noted.0) first)))
