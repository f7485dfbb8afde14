use Rattle.collection.proofs.Joining.{counted_all}
use Rattle.collection.proofs.summary.Summary.heard_count.Goals as goal

pub returns : goal.returns
returns c = λ ps piece o. counted_all ps c.args.self piece o c.count.result c.count.ensures
