use Rattle.sender.proofs.Issues.{ids_differ, issues_in_order}
use Rattle.sender.proofs.ids.Issuer.new.Goals as goal

pub returns-clause-in_order : goal.returns-clause-in_order
returns-clause-in_order c = issues_in_order

pub returns-clause-ids_differ : goal.returns-clause-ids_differ
returns-clause-ids_differ c = ids_differ
