-- What a step gives, with one thing added at the end.
use Rattle.std.specs.Prelude.{ℕ, List, [], ◌∷◌, ◌++◌, map}
use Rattle.vp_base.specs.declared.entry.Commit.{Commit}
use Rattle.vp_base.specs.declared.entry.LogRecord.{LogRecord}
use Rattle.vp_base.specs.declared.message.Message.{Message}
use Rattle.vp_base.specs.declared.message.Sent.{Sent}
use Rattle.vp_base.specs.declared.answer.Answer.{Answer}
use Rattle.vp_base.specs.declared.event.Effects.{Effects}

abbrev pub with_entry : LogRecord → Effects → Effects
with_entry entry e = record e { records = e.records ++ entry ∷ [] }

abbrev pub with_commit : Commit → Effects → Effects
with_commit commit e = record e { commits = e.commits ++ commit ∷ [] }

abbrev pub with_reply : Answer → ℕ → Effects → Effects
with_reply answer to e = record e { replies = e.replies ++ (record { to = to; answer = answer }) ∷ [] }

abbrev pub with_message : ℕ → Message → ℕ → Effects → Effects
with_message from message to e = record e { messages = e.messages ++ (record { from = from; to = to; message = message }) ∷ [] }

-- several messages at once
abbrev pub with_sent : List Sent → Effects → Effects
with_sent messages e = record e { messages = e.messages ++ messages }

-- to each of the sites a message of its own, or the same one to all
abbrev pub letters : ℕ → (ℕ → Message) → List ℕ → List Sent
letters from message_to sites = map (λ q. record { from = from; to = q; message = message_to q }) sites

abbrev pub with_each_message : ℕ → (ℕ → Message) → List ℕ → Effects → Effects
with_each_message from message_to sites e = with_sent (letters from message_to sites) e

abbrev pub with_messages : ℕ → Message → List ℕ → Effects → Effects
with_messages from message sites e = with_each_message from (λ q. message) sites e
