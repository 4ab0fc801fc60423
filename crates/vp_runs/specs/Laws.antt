-- What holds of every run of a node.
use Rattle.std.specs.Prelude.{◌≡◌, ℕ, true, ◌+◌, ◌<◌, ◌^◌, List, [], ◌∷◌, ◌++◌, Some}
use Rattle.std.specs.List.{AllByRecursion}
use Rattle.vp_base.specs.Calls.{IsCall}
use Rattle.vp_bytes.specs.Fields.{IsSite}
use Rattle.vp_model.specs.Types.{LogRecord, Sent, Reply, Call}
use Rattle.vp_model.specs.Types.input
use Rattle.vp_model.specs.Words.{has, value_at}
use Rattle.vp_model.specs.Catalogue.{Catalogue, sites_of}
use Rattle.vp_model.specs.Durable.{DurableState, apply_all}
use Rattle.vp_model.specs.Site.{SiteState}
use Rattle.vp_model.specs.Step.{durable_of}
use Rattle.vp_catalog.specs.Document.{IsCatalogue}
use Rattle.vp_records.specs.Batches.{IsBatch}
use Rattle.vp_laws.specs.Shapes.{IsShaped, IsAnswer}
use Rattle.vp_laws.specs.ShapeLaws.{message_frame, reply_frame}
use Rattle.vp_outside.specs.declared.datagram.Datagram.{Datagram}
use Rattle.vp_wire.specs.declared.frame.Frame.{Frame}
use Rattle.vp_wire.specs.Grammar.{IsFrame, IsSpelling}
use Rattle.vp_stable.specs.Halves.{save_batches}
use Rattle.vp_runs.specs.declared.arrival.Arrival.TheVariants.{Gives}
use Rattle.vp_runs.specs.Arrivals.{arrival, site_at}
use Rattle.vp_runs.specs.Keeping.{durable_in, kept_with}
use Rattle.vp_runs.specs.Turns.{Turn, datagram_to, turn_on}
use Rattle.vp_runs.specs.Runs.{one_turn, node_run}
use Rattle.vp_laws.specs.Answering.{answers}
use Rattle.vp_runs.specs.Asking.{answer_of, call_frame}

-- one more datagram is one more turn
abbrev pub RunsGoOn : Type 0
RunsGoOn = (catalogue : Catalogue) (id : ℕ) (batches : List (List LogRecord)) (arrived : List Datagram) (d : Datagram) →
    node_run catalogue id batches (arrived ++ d ∷ []) ≡ one_turn catalogue d (node_run catalogue id batches arrived)

-- ---- what a log keeps

-- One checkpoint of the durable part replaces all batches that fold to it: it sets just the copies that the site has.
abbrev pub CheckpointsFold : Type 0
CheckpointsFold = (catalogue : Catalogue) (id : ℕ) (batches : List (List LogRecord)) →
    durable_in catalogue id (save_batches (durable_in catalogue id batches) batches) ≡ durable_in catalogue id batches

-- if records take the durable part that a log keeps to this one, the log keeps this one after them
abbrev pub StepsFold : Type 0
StepsFold = (catalogue : Catalogue) (id : ℕ) (d : DurableState) (records : List LogRecord) (batches : List (List LogRecord)) →
    apply_all records (durable_in catalogue id batches) ≡ d → durable_in catalogue id (kept_with d records batches) ≡ d

-- the site of a run has the durable part that its log keeps
abbrev pub RunsKeepTheDurablePart : Type 0
RunsKeepTheDurablePart = (catalogue : Catalogue) (id : ℕ) (batches : List (List LogRecord)) (arrived : List Datagram) →
    durable_of (node_run catalogue id batches arrived).node.site ≡ durable_in catalogue id (node_run catalogue id batches arrived).node.batches

-- ---- what can be encoded

-- It is an encoded frame, and goes to a port.
abbrev pub IsFramed : Datagram → Type 0
IsFramed d = (d.port < 2 ^ 16) × ((frame : Frame) × IsSpelling frame d.bytes)

-- The site has its form, and what the turn gives can be appended and was encoded.
pub record IsTurn (catalogue : Catalogue) (turn : Turn) : Type 0 where
  pub site_is : IsShaped catalogue turn.site
  pub batch_is : IsBatch turn.batch
  pub datagrams_are : AllByRecursion IsFramed turn.datagrams

-- the same, whatever comes to a site of its form
abbrev pub TurnsAreShaped : Type 0
TurnsAreShaped = (catalogue : Catalogue) (site : SiteState) (d : Datagram) → IsCatalogue catalogue → IsShaped catalogue site → d.port < 2 ^ 16 →
    IsTurn catalogue (turn_on catalogue site (arrival catalogue site.id d))

-- From batches of the right form, where a life is left, the site has its form after each turn, and all that was handed over is frames.
abbrev pub RunsAreShaped : Type 0
RunsAreShaped = (catalogue : Catalogue) (id : ℕ) (batches : List (List LogRecord)) (arrived : List Datagram) →
    IsCatalogue catalogue → has (sites_of catalogue) id ≡ true → AllByRecursion IsBatch batches → (durable_in catalogue id batches).life + 1 < 2 ^ 32 → AllByRecursion (λ (d : Datagram). d.port < 2 ^ 16) arrived →
    IsShaped catalogue (node_run catalogue id batches arrived).node.site × AllByRecursion IsFramed (node_run catalogue id batches arrived).datagrams

-- ---- between nodes and clients

-- a message that a site sends from its port is read by its receiver as that message from that site
abbrev pub MessagesArrive : Type 0
MessagesArrive = (catalogue : Catalogue) (sent : Sent) (port : ℕ) → IsCatalogue catalogue → IsFrame (message_frame sent) → value_at sent.from catalogue.sites ≡ Some port →
    arrival catalogue sent.to (datagram_to port (message_frame sent)) ≡ Gives (input.Message sent.from sent.message)

-- a client's call is read by its site as that call, from the client's port
abbrev pub CallsArrive : Type 0
CallsArrive = (catalogue : Catalogue) (site own : ℕ) (words : Call) → IsSite site → IsCall words → site_at catalogue own ≡ 0 →
    arrival catalogue site (datagram_to own (call_frame site words)) ≡ Gives (input.Call own words)

-- a site's reply to a call is read as its answer, if it comes from the site's port
abbrev pub RepliesArrive : Type 0
RepliesArrive = (port site : ℕ) (words : Call) (reply : Reply) → IsSite site → IsAnswer reply.answer → answers words reply.answer ≡ true →
    answer_of port site words (datagram_to port (reply_frame site reply)) ≡ Some reply.answer
