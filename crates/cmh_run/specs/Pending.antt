-- What processes have sent, by what each sent at once.
use Rattle.std.specs.Prelude.{ℕ, ◌<◌, List, [], ◌∷◌, All, length, map}
use Rattle.cmh_process.specs.declared.message.Message.{Message}
use Rattle.cmh_run.specs.Config.{query, reply}
use Rattle.cmh_run.specs.declared.pending.Sent.{Sent}
use Rattle.cmh_run.specs.declared.pending.Sent.TheVariants.{Queries, Reply}
use Rattle.cmh_run.specs.declared.send.Sender.{Sender}

-- the sender's query to each of these
abbrev pub queries_of : Sender → List ℕ → List Message
queries_of sender receivers =
    map (λ (r : ℕ). query sender.initiator sender.number sender.process r) receivers

-- the messages that were sent at once
abbrev pub messages_sent : Sent → List Message
messages_sent (Queries sender receivers) = queries_of sender receivers.now
messages_sent (Reply sender to) =
    reply sender.initiator sender.number sender.process to ∷ []

-- each of these sends a message
abbrev pub EachSends : List Sent → Type 0
EachSends sent = All (λ (s : Sent). 0 < length (messages_sent s)) sent
