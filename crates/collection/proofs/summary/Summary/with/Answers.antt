use Rattle.collection.specs.Kept.{shown}
use Rattle.collection.proofs.Taking.{taken, fragment_ranged}
use Rattle.collection.proofs.summary.Summary.with.Goals as goal

pub returns : goal.returns
returns c = taken c.args.self _ (shown c.args.packet) (fragment_ranged c.args.packet) c.with.ensures c.stop_with.ensures c.count_with.ensures c.length_with.ensures
