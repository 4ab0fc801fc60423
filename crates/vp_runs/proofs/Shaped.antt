-- What comes to a node is an input of its form, and what a node keeps and gives has its form.
use Rattle.std.proofs.Common.{◌≡◌, ℕ, ◌<◌, ◌^◌, Bool, true, false, List, [], ◌∷◌, flat_map, map, refl, arith, Result, Ok, Err, ◌==◌}
use Rattle.std.specs.Prelude.{Option, Some, None}
use Rattle.std.specs.List.{AllByRecursion}
use Rattle.std.specs.Option.{option_map_or}
use Rattle.vp_text.specs.Meaning.{Answers}
use Rattle.vp_model.specs.Types.{LogRecord, Sent, Reply}
use Rattle.vp_model.specs.Words.{for_each, has, value_at}
use Rattle.vp_model.specs.Catalogue.{Catalogue, sites_of, start_copies}
use Rattle.vp_model.specs.Durable.{DurableState, empty_durable, apply_all}
use Rattle.vp_model.specs.Site.{SiteState}
use Rattle.vp_model.specs.Step.{step}
use Rattle.vp_catalog.specs.Document.{IsCatalogue, AreSites}
use Rattle.vp_records.specs.Batches.{IsBatch}
use Rattle.vp_laws.specs.Shapes.{IsDurable, IsShaped, IsSent, IsReply}
use Rattle.vp_laws.specs.ShapeLaws.{message_frame, reply_frame}
use Rattle.vp_laws.proofs.Lists.Items.{all_append, all_map}
use Rattle.vp_laws.proofs.Shapes.Fold.{all_applied}
use Rattle.vp_laws.proofs.Shapes.Log.{fresh_is_durable, sent_is_frame, reply_is_frame}
use Rattle.vp_laws.proofs.Shapes.Steps.{starts_are_shaped, steps_are_shaped}
use Rattle.vp_outside.specs.declared.datagram.Datagram.{Datagram}
use Rattle.vp_wire.specs.declared.frame.Frame.{Frame}
use Rattle.vp_wire.specs.declared.frame.Body.{Body}
use Rattle.vp_wire.specs.declared.frame.Body.TheVariants as body
use Rattle.vp_wire.specs.Decoded.{read_frame}
use Rattle.vp_wire.specs.Grammar.{IsBody, IsFrame, IsSpelling}
use Rattle.vp_wire.proofs.Decoded.{bytes_are_read}
use Rattle.vp_wire.proofs.Later.{body_later}
use Rattle.vp_wire.proofs.CallForms.{call_of}
use Rattle.vp_contents.specs.Versions.{version_of}
use Rattle.vp_contents.specs.declared.version.Version.TheVariants as versions
use Rattle.vp_stable.specs.Halves.{apply_batches}
use Rattle.vp_runs.specs.declared.arrival.Arrival.{Arrival}
use Rattle.vp_runs.specs.declared.arrival.Arrival.TheVariants.{Bad, Stray, Stops, Gives}
use Rattle.vp_runs.specs.Arrivals.{IsArrival, is_for, arrival_in, arrival_of, arrival}
use Rattle.vp_runs.specs.Keeping.{durable_in}
use Rattle.vp_runs.specs.Turns.{datagram_to, message_datagram, reply_datagram, datagrams_of, turn_on}
use Rattle.vp_runs.specs.Runs.{NodeRun, start_of, one_turn, node_run}
use Rattle.vp_runs.specs.Laws.{IsFramed, IsTurn, TurnsAreShaped, RunsAreShaped}

-- ---- what comes

body_arrives : (port from to : ℕ) (b : Body) → port < 2 ^ 16 → IsBody versions.Second from to b → IsArrival (arrival_in port from b)
body_arrives port from to (body.Message message) p h = (h.0, h.2)
body_arrives port from to (body.Call call) p h = (p, call_of call h.2)
body_arrives port from to (body.Reply answer) p h = tt
body_arrives port from to body.Tick p h = tt
body_arrives port from to body.ProbeNow p h = tt
body_arrives port from to body.Stop p h = tt

read_arrives : (catalogue : Catalogue) (id port : ℕ) (bytes : List ℕ) (read : Result Frame ℕ) → port < 2 ^ 16 → Answers IsSpelling (λ (f : Frame). f) (λ (at : ℕ). Some at) bytes read → IsArrival (arrival_of catalogue id port read)
read_arrives catalogue id port bytes (Err at) p h = tt
read_arrives catalogue id port bytes (Ok frame) p h = go (is_for catalogue id port frame) refl
  where
    go : (for_it : Bool) → is_for catalogue id port frame ≡ for_it → IsArrival (arrival_of catalogue id port (Ok frame))
    go true e = rw e (body_arrives port frame.from frame.to frame.body p (body_later (version_of frame.version) frame.from frame.to frame.body h.allowed.2))
    go false e = rw e tt

pub arrives : (catalogue : Catalogue) (id : ℕ) (d : Datagram) → d.port < 2 ^ 16 → IsArrival (arrival catalogue id d)
unfolding arrival
arrives catalogue id d p = read_arrives catalogue id d.port d.bytes (read_frame d.bytes) p (bytes_are_read d.bytes)

-- ---- what is handed over

framed : (port : ℕ) (frame : Frame) → port < 2 ^ 16 → IsFrame frame → IsFramed (datagram_to port frame)
framed port frame p h = (p, (frame, record { is = refl; allowed = h }))

port_fits : (above to port : ℕ) (sites : List (ℕ × ℕ)) → AreSites above sites → value_at to sites ≡ Some port → port < 2 ^ 16
port_fits above to port [] h e = absurd cc
port_fits above to port (s ∷ sites) h e = go (s.0 == to) refl (λ f. port_fits s.0 to port sites h.1 f)
  where
    go : (here : Bool) → (s.0 == to) ≡ here → (value_at to sites ≡ Some port → port < 2 ^ 16) → port < 2 ^ 16
    go true f more = let same : s.1 ≡ port = cc in omega (arith, same, h.0.port_fits)
    go false f more = more cc

module _ (catalogue : Catalogue) (id : ℕ) (k : IsCatalogue catalogue) (listed : has (sites_of catalogue) id ≡ true) where
  message_framed : (sent : Sent) → IsSent id sent → AllByRecursion IsFramed (message_datagram catalogue sent)
  message_framed sent h = go (value_at sent.to catalogue.sites) refl
    where
      go : (found : Option ℕ) → value_at sent.to catalogue.sites ≡ found → AllByRecursion IsFramed (option_map_or (λ port. datagram_to port (message_frame sent) ∷ []) found [])
      go None e = tt
      go (Some port) e = (framed port (message_frame sent) (port_fits 0 sent.to port catalogue.sites k.so_far.sites_are e) (sent_is_frame catalogue id sent k listed h), tt)

  messages_framed : (messages : List Sent) → AllByRecursion (IsSent id) messages → AllByRecursion IsFramed (flat_map (message_datagram catalogue) messages)
  messages_framed [] h = tt
  messages_framed (sent ∷ messages) h = all_append IsFramed (message_datagram catalogue sent) _ (message_framed sent h.0) (messages_framed messages h.1)

  replies_framed : (replies : List Reply) → AllByRecursion IsReply replies → AllByRecursion IsFramed (map (reply_datagram id) replies)
  replies_framed replies h = all_map IsReply IsFramed (reply_datagram id) (λ reply i. framed reply.to (reply_frame id reply) i.0 (reply_is_frame catalogue id reply k listed i)) replies h

-- ---- turns

pub turn_shaped : (catalogue : Catalogue) (site : SiteState) (what : Arrival) → IsCatalogue catalogue → IsShaped catalogue site → IsArrival what → IsTurn catalogue (turn_on catalogue site what)
unfolding turn_on datagrams_of
turn_shaped catalogue site (Bad at) k s i = record { site_is = s; batch_is = tt; datagrams_are = tt }
turn_shaped catalogue site Stray k s i = record { site_is = s; batch_is = tt; datagrams_are = tt }
turn_shaped catalogue site Stops k s i = record { site_is = s; batch_is = tt; datagrams_are = tt }
turn_shaped catalogue site (Gives given) k s i =
    let o = step catalogue site given in
    let q = steps_are_shaped catalogue site given k s i in
    record {
      site_is = q.0;
      batch_is = q.1.records_are;
      datagrams_are = all_append IsFramed _ _ (messages_framed catalogue site.id k s.listed o.effects.messages q.1.messages_are) (replies_framed catalogue site.id k s.listed o.effects.replies q.1.replies_are);
    }

pub turns_are_shaped : TurnsAreShaped
turns_are_shaped catalogue site d k s p = turn_shaped catalogue site (arrival catalogue site.id d) k s (arrives catalogue site.id d p)

-- ---- runs

folded_durable : (catalogue : Catalogue) (id : ℕ) (batches : List (List LogRecord)) (d : DurableState) → AllByRecursion IsBatch batches → IsDurable catalogue id d → IsDurable catalogue id (apply_batches batches d)
folded_durable catalogue id [] d h i = i
folded_durable catalogue id (batch ∷ batches) d h i = folded_durable catalogue id batches (apply_all batch d) h.1 (all_applied catalogue id batch d h.0 i)

module _ (catalogue : Catalogue) (k : IsCatalogue catalogue) where
  abbrev Fits : NodeRun → Type 0
  Fits run = IsShaped catalogue run.node.site × AllByRecursion IsFramed run.datagrams

  one_fits : (stopped : Bool) (d : Datagram) (run : NodeRun) → run.stopped ≡ stopped → d.port < 2 ^ 16 → Fits run → Fits (one_turn catalogue d run)
  unfolding one_turn
  one_fits true d run s p h = rw s h
  one_fits false d run s p h =
      let q = turns_are_shaped catalogue run.node.site d k h.0 p in
      rw s (q.site_is, all_append IsFramed run.datagrams _ h.1 q.datagrams_are)

  many_fit : (arrived : List Datagram) (run : NodeRun) → AllByRecursion (λ (d : Datagram). d.port < 2 ^ 16) arrived → Fits run → Fits (for_each arrived (one_turn catalogue) run)
  many_fit [] run p h = h
  many_fit (d ∷ arrived) run p h = many_fit arrived (one_turn catalogue d run) p.1 (one_fits run.stopped d run refl p.0 h)

pub runs_are_shaped : RunsAreShaped
unfolding node_run
runs_are_shaped catalogue id batches arrived k listed are left ports =
    let durable = folded_durable catalogue id batches (empty_durable (start_copies catalogue id)) are (fresh_is_durable catalogue id k) in
    many_fit catalogue k arrived (start_of catalogue id batches) ports (starts_are_shaped catalogue id (durable_in catalogue id batches) k listed durable left, tt)
