-- `form_links::link_fits` meets its contract. Assumes nothing.
use mathlib.Core.Path.{refl}
use Rattle.lists.specs.Tests.{same}
use Rattle.form_links.proofs.link_fits.Goals as goal

pub returns : goal.returns
unfolding same
returns c = refl
