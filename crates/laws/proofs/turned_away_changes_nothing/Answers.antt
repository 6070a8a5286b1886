use Rattle.laws.proofs.Calls.{turned_away}
use Rattle.laws.proofs.turned_away_changes_nothing.Goals as goal

pub returns : goal.returns
returns c = turned_away
