use Rattle.collection.proofs.Pinning.{flip, no_self, answers_pinned}
use Rattle.collection.proofs.Sending.{sent_heard}
use Rattle.collection.proofs.laws.laws_stand.Goals as goal

pub returns : goal.returns
returns c = record { contradiction = record { flips = flip; never = no_self }; pinned = answers_pinned; sent = sent_heard }
