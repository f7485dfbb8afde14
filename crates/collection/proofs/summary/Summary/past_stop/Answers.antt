use Rattle.collection.specs.Fragments.{PastStop}
use Rattle.collection.specs.Kept.{shown}
use Rattle.collection.proofs.Hearing.{either_told}
use Rattle.collection.proofs.summary.Summary.past_stop.Goals as goal

pub returns : goal.returns
returns c = either_told c.args.self PastStop (shown c.args.packet) c.past_new.result c.stops_below.result c.past_new.ensures c.stops_below.ensures
