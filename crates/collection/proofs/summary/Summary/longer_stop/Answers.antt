use Rattle.collection.specs.Fragments.{LongerStop}
use Rattle.collection.specs.Kept.{shown}
use Rattle.collection.proofs.Hearing.{either_told}
use Rattle.collection.proofs.summary.Summary.longer_stop.Goals as goal

pub returns : goal.returns
returns c = either_told c.args.self LongerStop (shown c.args.packet) c.longer_new.result c.longer_heard.result c.longer_new.ensures c.longer_heard.ensures
