-- Each input that an event gives to a site comes to the site's node as a datagram.
use Rattle.std.proofs.Common.{◌≡◌, ◌≢◌, ◌∙◌, ap, sym, subst, ℕ, ◌≤◌, ◌<◌, Bool, true, false, cond, List, ◌∷◌, [], refl, arith, ⊎_elim}
use Rattle.std.specs.Prelude.{Some, ◌==◌, find, option_map}
use Rattle.std.specs.Option.{option_map_or}
use Rattle.std.proofs.lemmas.Bool.Decides.{nat_tests}
use Rattle.vp_catalog.specs.Document.{IsCatalogue, AreSites}
use Rattle.vp_bytes.specs.Fields.{IsSite}
use Rattle.vp_model.specs.Types.{Event, Input, Sent}
use Rattle.vp_model.specs.Types.input
use Rattle.vp_model.specs.Words.{keys, value_at}
use Rattle.vp_model.specs.Catalogue.{Catalogue, sites_of}
use Rattle.vp_model.specs.World.{WorldState}
use Rattle.vp_laws.specs.ShapeLaws.{IsEvent, message_frame}
use Rattle.vp_laws.proofs.Lists.Members.{Has, has_none, has_cons}
use Rattle.vp_laws.proofs.Worlds.Occurs.{Gives}
use Rattle.vp_laws.proofs.Worlds.Scenes.{message_at-has}
use Rattle.vp_outside.specs.declared.datagram.Datagram.{Datagram}
use Rattle.vp_wire.specs.declared.frame.Body.TheVariants as body
use Rattle.vp_wire.specs.Grammar.{IsFrame, frame_of}
use Rattle.vp_runs.specs.declared.arrival.Arrival.TheVariants as arrives
use Rattle.vp_runs.specs.Arrivals.{arrival, site_at}
use Rattle.vp_runs.specs.Asking.{call_frame}
use Rattle.vp_runs.specs.Turns.{datagram_to}
use Rattle.vp_runs.proofs.Arriving.{messages_arrive, calls_arrive, reads_again}
use Rattle.vp_laws.proofs.Lists.Numbers.{eq_self}

-- ---- the catalogue

-- port 0 is no site's
none_at : (above : ℕ) (sites : List (ℕ × ℕ)) → AreSites above sites → option_map_or (λ (site : ℕ × ℕ). site.0) (find (λ (site : ℕ × ℕ). site.1 == 0) sites) 0 ≡ 0
none_at above [] h = refl
none_at above (s ∷ sites) h = rw (other s.1 h.0.port_some) (none_at s.0 sites h.1)
  where
    other : (port : ℕ) → 1 ≤ port → (port == 0) ≡ false
    other port some = grind (arith, nat_tests, some)

is_site : (above : ℕ) (sites : List (ℕ × ℕ)) → AreSites above sites → (id : ℕ) → Has (keys sites) id → IsSite id
is_site above [] h id k = absurd (has_none id k)
is_site above (s ∷ sites) h id k = ⊎_elim (λ (same : s.0 ≡ id). subst IsSite same (some above s.0 h.0.higher, h.0.fits)) (λ (more : Has (keys sites) id). is_site s.0 sites h.1 id more) (has_cons s.0 (keys sites) id k)
  where
    some : (a b : ℕ) → a < b → 1 ≤ b
    some a b lt = omega arith

pub has_port : (sites : List (ℕ × ℕ)) (id : ℕ) → Has (keys sites) id → (port : ℕ) × (value_at id sites ≡ Some port)
has_port [] id k = absurd (has_none id k)
has_port (s ∷ sites) id k = go (s.0 == id) refl (has_port sites id)
  where
    different : (s.0 == id) ≡ false → s.0 ≢ id
    different e same = grind (arith, nat_tests, e, same)

    go : (b : Bool) → (s.0 == id) ≡ b → (Has (keys sites) id → (port : ℕ) × (value_at id sites ≡ Some port)) → (port : ℕ) × (option_map (λ (p : ℕ × ℕ). p.1) (cond b (Some s) (find (λ (p : ℕ × ℕ). p.0 == id) sites)) ≡ Some port)
    go true e rest = (s.1, refl)
    go false e rest = rest (⊎_elim (λ (same : s.0 ≡ id). absurd (different e same)) (λ (more : Has (keys sites) id). more) (has_cons s.0 (keys sites) id k))

-- ---- datagrams

module _ (catalogue : Catalogue) (k : IsCatalogue catalogue) (id : ℕ) (listed : Has (sites_of catalogue) id) where
  pub own : IsSite id
  own = is_site 0 catalogue.sites k.so_far.sites_are id listed

  pub no_port : site_at catalogue 0 ≡ 0
  no_port = none_at 0 catalogue.sites k.so_far.sites_are

  pub tick_comes : arrival catalogue id (datagram_to 0 (frame_of 0 id body.Tick)) ≡ arrives.Gives input.Tick
  unfolding arrival
  tick_comes = rw (reads_again (frame_of 0 id body.Tick) (omega arith, omega arith, (refl, own)), eq_self id, no_port) refl

  pub probe_comes : arrival catalogue id (datagram_to 0 (frame_of 0 id body.ProbeNow)) ≡ arrives.Gives input.Probe
  unfolding arrival
  probe_comes = rw (reads_again (frame_of 0 id body.ProbeNow) (omega arith, omega arith, (refl, own)), eq_self id, no_port) refl

  pub comes : (e : Event) (w : WorldState) (given : Input) → IsEvent e → ((m : Sent) → Has w.sent m → IsFrame (message_frame m) × Has (sites_of catalogue) m.from) → Gives e w id given
      → (d : Datagram) × (arrival catalogue id d ≡ arrives.Gives given)
  comes e w given i sent (Gives.called words is) = let c = rw is at i in (datagram_to 0 (call_frame id words), calls_arrive catalogue id 0 words own c no_port)
  comes e w given i sent (Gives.came n m is at to) =
      let f = sent m (message_at-has w n m at) in
      let port = has_port catalogue.sites m.from f.1 in
      let d = datagram_to port.0 (message_frame m) in
      (d, ap (λ (n : ℕ). arrival catalogue n d) (sym to) ∙ messages_arrive catalogue m port.0 k f.0 port.1)
  comes e w given i sent (Gives.ticked is) = (datagram_to 0 (frame_of 0 id body.Tick), tick_comes)
  comes e w given i sent (Gives.probed is) = (datagram_to 0 (frame_of 0 id body.ProbeNow), probe_comes)
