-- A message given to one sender in portions, from first to last.
use Rattle.std.specs.Prelude.{◌≡◌, ℕ, ◌*◌, List, [], ◌∷◌, ◌++◌, take}
use Rattle.std.specs.List.{flat_map}
use Rattle.wire.specs.declared.refusal.Refusal.{Refusal}
use Rattle.sender.specs.Packets.{Plan, LawfulPlan, packets_from, packets_of, bytes_of}
use Rattle.sender.specs.Sending.{Sending, new_sending, full_size, Took, Added, Unadded, Ended}

-- the message that portions make
abbrev pub whole : List (List ℕ) → List ℕ
whole qs = flat_map (λ q. q) qs

-- calls of one new sender, one after the other: the portions that it took, all that it wrote, and the sender after
pub data Sends (p : Plan) : List (List ℕ) → List ℕ → Sending → Type 0 where
  send_none : Sends p [] [] (new_sending p)
  send_more : {qs : List (List ℕ)} {out q was new : List ℕ} {n : ℕ} {s t : Sending}
      → Sends p qs out s → Added s q was new n t → Sends p (qs ++ q ∷ []) (out ++ take (n * full_size p) new) t
  send_refused : {qs : List (List ℕ)} {out q was new : List ℕ} {e : Refusal} {s t : Sending}
      → Sends p qs out s → Unadded s q was new e t → Sends p qs out t

-- however a message is cut into portions, what is written, with the last packet, is the packets of the message
pub record PortionsSent (p : Plan) (m out : List ℕ) (s : Sending) : Type 0 where
  pub same_plan : s.plan ≡ p
  pub took : Took s m
  -- before the last packet, those that are sure
  pub so_far : out ≡ bytes_of (packets_from p m 0 s.sent)
  pub all_written : (was new : List ℕ) (n : ℕ) → Ended s was new n → out ++ take n new ≡ bytes_of (packets_of p m)

abbrev pub PortionsJoin : Type 0
PortionsJoin = (p : Plan) (qs : List (List ℕ)) (out : List ℕ) (s : Sending) → LawfulPlan p → Sends p qs out s
    → PortionsSent p (whole qs) out s
