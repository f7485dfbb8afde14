use Rattle.history.proofs.Answers.{one_answer}
use Rattle.history.proofs.Existence.{some_answer}
use Rattle.history.proofs.Fetches.{fetched_if_whole, fetched_once}
use Rattle.history.proofs.Orders.{orders_agree}
use Rattle.history.proofs.histories_agree.Goals as goal

pub returns : goal.returns
returns c = record { one_answer = one_answer; some_answer = some_answer; fetched_if_whole = fetched_if_whole; fetched_once = fetched_once; any_order = orders_agree }
