-- What a datagram gives to a process, an event of the schedule gives to the site.
use Rattle.std.proofs.Common.{◌≡◌, ◌∙◌, ap, sym, subst, ℕ, Bool, true, false, cond, List, [], ◌∷◌, ◌++◌, refl, inl, inr, Ok}
use Rattle.std.specs.Prelude.{Some, ◌==◌, ◌&&◌}
use Rattle.std.specs.List.{Contains}
use Rattle.std.proofs.lemmas.Bool.{eqb-true}
use Rattle.vp_model.specs.Types.{Input, Sent, Message, Answer}
use Rattle.vp_model.specs.Types.event
use Rattle.vp_model.specs.Types.input
use Rattle.vp_model.specs.Catalogue.{Catalogue}
use Rattle.vp_model.specs.Site.{SiteState}
use Rattle.vp_model.specs.World.{WorldState, Run, site_of, happens}
use Rattle.vp_laws.specs.ShapeLaws.{IsWorld, message_frame}
use Rattle.vp_laws.proofs.Lists.Members.{Has, has_of}
use Rattle.vp_laws.proofs.Lists.Items.{all_at}
use Rattle.vp_laws.proofs.Worlds.Occurs.{Gives}
use Rattle.vp_wire.specs.declared.frame.Frame.{Frame}
use Rattle.vp_wire.specs.declared.frame.Body.TheVariants as body
use Rattle.vp_wire.specs.Grammar.{IsFrame, frame_of, frame_bytes}
use Rattle.vp_wire.specs.Decoded.{read_frame}
use Rattle.vp_outside.specs.declared.datagram.Datagram.{Datagram}
use Rattle.vp_runs.specs.declared.arrival.Arrival.TheVariants as arrives
use Rattle.vp_runs.specs.Arrivals.{is_for, arrival_of, arrival}
use Rattle.vp_runs.proofs.Arriving.{reads_again}
use Rattle.vp_ports.specs.Ports.{site_from, input_from}
use Rattle.vp_network.specs.Cluster.{Act, ClusterState, IsHonest}
use Rattle.vp_network.specs.Schedules.{no_port}
use Rattle.vp_network.proofs.Extending.{Does, at_up, delivers}
use Rattle.vp_network.proofs.Coming.{IsGiven, numbered}
use Rattle.vp_network.proofs.Linked.{IsKnown, Linked, Runs, site_there}

-- the message that these bytes are, if they are read as one
pub record IsOf (w : WorldState) (id from : ℕ) (message : Message) : Type 0 where
  pub sent : Sent
  pub has : Has w.sent sent
  pub to_is : sent.to ≡ id
  pub same : input.Message sent.from sent.message ≡ input.Message from message

module _ (catalogue here : Catalogue) (id : ℕ) (w : WorldState) (world : IsWorld catalogue w) (d : Datagram) (from : ℕ) (message : Message) (comes : arrival here id d ≡ arrives.Gives (input.Message from message)) where
  as_read : (f : Frame) → IsFrame f → d.bytes ≡ frame_bytes f → arrival_of here id d.port (Ok f) ≡ arrives.Gives (input.Message from message)
  unfolding arrival
  as_read f is bytes = ap (arrival_of here id d.port) (sym (ap read_frame bytes ∙ reads_again f is)) ∙ comes

  of_sent : (m : Sent) → Has w.sent m → d.bytes ≡ frame_bytes (message_frame m) → IsOf w id from message
  of_sent m h bytes = go (m.to == id) refl (m.from == _) (as_read (message_frame m) (all_at (λ sent. IsFrame (message_frame sent)) w.sent world.sent_are m h) bytes)
    where
      go : (b : Bool) → (m.to == id) ≡ b → (e : Bool) → cond (b && e) (arrives.Gives (input.Message m.from m.message)) arrives.Stray ≡ arrives.Gives (input.Message from message) → IsOf w id from message
      go true t true q = record { sent = m; has = h; to_is = eqb-true m.to id t; same = cc }
      go true t false q = cc
      go false t e q = cc

  of_reply : (site : ℕ) (a : Answer) → IsFrame (frame_of site 0 (body.Reply a)) → d.bytes ≡ frame_bytes (frame_of site 0 (body.Reply a)) → IsOf w id from message
  of_reply site a is bytes = go (is_for here id d.port (frame_of site 0 (body.Reply a))) (as_read (frame_of site 0 (body.Reply a)) is bytes)
    where
      go : (b : Bool) → cond b arrives.Stray arrives.Stray ≡ arrives.Gives (input.Message from message) → IsOf w id from message
      go true q = cc
      go false q = cc

  pub known_is : (acts : List Act) → IsKnown w acts d.bytes → IsOf w id from message
  known_is acts (inl (m, h, bytes)) = of_sent m h bytes
  known_is acts (inr r) = of_reply r.a.site r.reply.answer r.framed r.is

module _ (catalogue here : Catalogue) (id : ℕ) (c : ClusterState) (run : Run) (l : Linked catalogue c run) (world : IsWorld catalogue run.world) (x : SiteState) (r : Runs catalogue id c run.world x)
    (d : Datagram) (honest : IsHonest here (Contains c.handed) id d) where
  abbrev w : WorldState
  w = run.world

  abbrev x0 : SiteState
  x0 = site_from no_port x

  up : site_of w id ≡ Some x0
  up = site_there catalogue id c w x r

  known : (from : ℕ) (message : Message) → arrival here id d ≡ arrives.Gives (input.Message from message) → IsOf w id from message
  known from message comes =
      let h = honest from message comes in
      known_is catalogue here id w world d from message comes c.acts (subst (IsKnown w c.acts) h.2 (l.handed h.0 (has_of c.handed h.0 h.1)))

  delivered : (m : Sent) → Has w.sent m → m.to ≡ id → Does catalogue w id x0 (input.Message m.from m.message)
  delivered m h to =
      let n = numbered w m h in
      subst (λ id. Does catalogue w id x0 (input.Message m.from m.message)) to
      (record {
        e = event.Deliver n.0;
        event_is = tt;
        single = tt;
        gives = Gives.came n.0 m refl n.1 refl;
        delivered = w.delivered ++ n.0 ∷ [];
        moved = delivers catalogue w x0 n.0 m (ap (site_of w) to ∙ up) l.uncut n.1;
      })

  pub does : (given : Input) → IsGiven given → arrival here id d ≡ arrives.Gives given → Does catalogue w id x0 (input_from no_port given)
  unfolding happens
  does (input.Call port words) form comes = record { e = event.Call id words; event_is = form; single = tt; gives = Gives.called words refl; delivered = w.delivered; moved = at_up catalogue w id x0 (input.Call 0 words) up }
  does (input.Message from message) form comes = let m = known from message comes in subst (Does catalogue w id x0) m.same (delivered m.sent m.has m.to_is)
  does input.Tick form comes = record { e = event.Tick id; event_is = tt; single = tt; gives = Gives.ticked refl; delivered = w.delivered; moved = at_up catalogue w id x0 input.Tick up }
  does input.Probe form comes = record { e = event.Probe id; event_is = tt; single = tt; gives = Gives.probed refl; delivered = w.delivered; moved = at_up catalogue w id x0 input.Probe up }
