use Rattle.sender.proofs.Joins.{portions_join}
use Rattle.sender.proofs.Lawful.{packets_lawful}
use Rattle.sender.proofs.open.OpenSender.begin.Goals as goal

pub returns-clause-portions_join : goal.returns-clause-portions_join
returns-clause-portions_join c = portions_join

pub returns-clause-packets_lawful : goal.returns-clause-packets_lawful
returns-clause-packets_lawful c = packets_lawful
