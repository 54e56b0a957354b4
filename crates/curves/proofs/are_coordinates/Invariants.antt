-- `curves::are_coordinates` meets its contract: the rest are coordinates if and only if all are. Assumes nothing.
use mathlib.Core.Path.{◌≡◌}
use lib.ListN.{drop}
use Rattle.lists.specs.Scans.{all_of}
use Rattle.curves.specs.Curves.{coordinate}
use Rattle.curves.proofs.are_coordinates.Given as goal

abbrev pub invariant-loop-z : goal.invariant-loop-z
invariant-loop-z l = all_of coordinate (drop l.z-index l.c) ≡ all_of coordinate l.c
