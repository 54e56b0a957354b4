-- The link falls.
use Rattle.form_links.proofs.+chain_has_way.Given as goal

abbrev pub decreases-chain_has_way : goal.decreases-chain_has_way
decreases-chain_has_way l = l.last
