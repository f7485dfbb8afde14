-- Calls of a receiver with their answers: its history.
use Rattle.std.specs.Prelude.{ℕ, ◌+◌, Bool, true, false, cond, not, List, [], ◌∷◌, map, ◌==◌}
use Rattle.wire.specs.declared.refusal.Layer.{Layer}
use Rattle.wire.specs.declared.refusal.Layer.TheVariants as layer

pub data Call : Type 0 where
  -- a datagram arrives, with these bytes
  arrives : List ℕ → Call
  -- the message of an id is fetched, into a buffer of so many bytes
  fetches : List ℕ → ℕ → Call
  ticks : Call
  -- the state of an id is asked for
  asks : List ℕ → Call

-- the state of an id
pub data State : Type 0 where
  is_none : State
  -- how many numbers were heard, and the lowest that was not
  is_gathering : ℕ → ℕ → State
  -- the length of the message
  is_whole : ℕ → State
  is_spoiled : State
  is_fetched : State

pub data Reply : Type 0 where
  kept : Reply
  repeated : Reply
  completed : Reply
  -- a refusal's number, place and layer
  refused : ℕ → ℕ → Layer → Reply
  -- the bytes that a fetch hands out
  delivered : List ℕ → Reply
  done : Reply
  -- the state, and how many arrivals were refused
  told : State → ℕ → Reply

-- the receiver refuses by this number; it points at no place
abbrev pub refused_by : ℕ → Reply
refused_by n = refused n 0 layer.Receiver

pub record Said : Type 0 where
  pub call : Call
  pub reply : Reply

-- the last call first
abbrev pub History : Type 0
History = List Said

abbrev pub none_yet : History
none_yet = []

abbrev pub calls : History → List Call
calls h = map (λ (s : Said). s.call) h

-- an arrival that is not refused
abbrev pub accepted : Reply → Bool
accepted kept = true
accepted repeated = true
accepted completed = true
accepted (refused n place by) = false
accepted (delivered bytes) = false
accepted done = false
accepted (told v n) = false

-- a packet of an id in a stay that is so answered is heard: any but one answered 22
abbrev pub audible : Reply → Bool
audible kept = true
audible repeated = true
audible completed = true
audible (refused n place by) = not (n == 22)
audible (delivered bytes) = false
audible done = false
audible (told v n) = false

-- a fetch that succeeds
abbrev pub hands_over : Reply → Bool
hands_over kept = false
hands_over repeated = false
hands_over completed = false
hands_over (refused n place by) = false
hands_over (delivered bytes) = true
hands_over done = false
hands_over (told v n) = false

-- 1 for a refused arrival, 0 for any other call
abbrev pub refusals_in : Call → Reply → ℕ
refusals_in (arrives xs) r = cond (accepted r) 0 1
refusals_in (fetches i n) r = 0
refusals_in ticks r = 0
refusals_in (asks i) r = 0

-- how many arrivals were refused
abbrev pub refusals : History → ℕ
refusals [] = 0
refusals (s ∷ h) = refusals_in s.call s.reply + refusals h

-- up to which number they are counted
abbrev pub most_refusals : ℕ
most_refusals = 4294967295
