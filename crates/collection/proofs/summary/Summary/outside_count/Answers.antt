use Rattle.collection.specs.Fragments.{OutsideCount}
use Rattle.collection.specs.Kept.{shown}
use Rattle.collection.proofs.Hearing.{either_told}
use Rattle.collection.proofs.summary.Summary.outside_count.Goals as goal

pub returns : goal.returns
returns c = either_told c.args.self OutsideCount (shown c.args.packet) c.outside_new.result c.outside_said.result c.outside_new.ensures c.outside_said.ensures
