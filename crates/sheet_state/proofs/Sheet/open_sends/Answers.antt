-- Only the first send marks the map; before the mesh line a send, or the end, is a bad line. Assumes nothing.
use Rattle.theory_sheet.specs.Sheet.{opening}
use Rattle.sheet_state.proofs.Changes.{bad, said}
use Rattle.sheet_state.proofs.Sheet.open_sends.Goals as goal

pub returns-in-Start : goal.returns-in-Start
unfolding opening
returns-in-Start c = bad c.says.ensures (λ n. rw c.in-Start.is)

pub returns-in-Sends : goal.returns-in-Sends
unfolding opening
returns-in-Sends c = said c.requires c.says-in-Sends.ensures (λ n. rw c.in-Sends.is)
