-- Every definition opened at once: `unfolding opened` lets closed examples compute.
-- Written by tests/generate_opened.py.
use Rattle.network.proofs.Opened as below
use Rattle.paths.specs.Nearest.{steps, next_nearest, examine, nearest}
use Rattle.paths.specs.Route.{route_length, route_bound, route_reasons}
use Rattle.paths.specs.Walks.{curve_length, hops}

unfoldable pub opened : Unit {0}
unfolding below.opened steps next_nearest examine nearest route_length route_bound route_reasons curve_length hops
opened = tt
