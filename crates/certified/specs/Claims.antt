-- A map that passes the tests is as good as grown, whatever made it. Proved in proofs/Certified.antt (`certified_iff`)
-- and proofs/Tables.antt (the others).
use Rattle.std.specs.Prelude.{◌≡◌, ◌↔◌, true, List, ℤ}
use Rattle.map.specs.Rows.{Map, Lent, Sizes, map_of, whole}
use Rattle.map.specs.Form.{in_form}
use Rattle.map.specs.Grow.{after, grow}
use Rattle.grown.specs.Good.{Good}
use Rattle.grown.specs.Claims.{GrownMap, Limited}
use Rattle.certified.specs.Certified.{certified, certifies}

-- a map passes just when it has what every grown map has
abbrev pub CertifiedIff : Type 0
CertifiedIff = (m : Map) → (certified m ≡ true) ↔ Good m

-- whole tables in form pass just when their map has it
abbrev pub CertifiesIff : Type 0
CertifiesIff = (l : Lent) → whole l ≡ true → in_form l ≡ true → (certifies l ≡ true) ↔ Good (map_of l)

-- tables that pass are, after any list of tickets, what grown tables are
abbrev pub CertifiedGrows : Type 0
CertifiedGrows = (l : Lent) → certifies l ≡ true → (ts : List (List ℤ)) → GrownMap (after l ts).lent

-- and pass again
abbrev pub CertifiedStays : Type 0
CertifiedStays = (l : Lent) → certifies l ≡ true → (ts : List (List ℤ)) → certifies (after l ts).lent ≡ true

-- all grown tables within the limits pass
abbrev pub GrownCertified : Type 0
GrownCertified = (s : Sizes) → Limited s → (ts : List (List ℤ)) → certifies (grow s ts).lent ≡ true
