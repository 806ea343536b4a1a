-- A wrapped product, then a wrapped sum. Assumes nothing.
use Rattle.draws.proofs.Picks.{next-wraps}
use Rattle.draws.proofs.next_state.Goals as goal

pub returns : goal.returns
returns c = next-wraps c.args.state
