-- Every list of tickets can be handed in, as the claims have it.
use Rattle.ticket_lists.specs.Claims.{EveryList}
use Rattle.ticket_lists.proofs.Written.{every_list}

pub handed_in_lem : EveryList
handed_in_lem = every_list
