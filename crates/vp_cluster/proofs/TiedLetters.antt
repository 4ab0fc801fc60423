-- The letter that an event brings to a site, and the letters of the messages of a step.
use Rattle.std.proofs.Common.{◌≡◌, ◌≢◌, ◌∙◌, ap, sym, ℕ, ◌-◌, Bool, true, false, cond, List, ◌∷◌, [], ◌++◌, map, refl, arith}
use Rattle.std.specs.Prelude.{Option, Some, None, ◌==◌, nat_eq, slice_get, find, flat_map, option_map}
use Rattle.std.specs.Option.{option_map_or}
use Rattle.std.specs.List.{IsDistinct}
use Rattle.std.proofs.lemmas.Bool.Decides.{nat_tests}
use Rattle.std.proofs.lemmas.Option.{slice_get-map}
use Rattle.vp_catalog.specs.Document.{IsCatalogue}
use Rattle.vp_model.specs.Types.{Event, Input, Sent}
use Rattle.vp_model.specs.Types.event
use Rattle.vp_model.specs.Words.{keys, value_at}
use Rattle.vp_model.specs.Catalogue.{Catalogue, sites_of}
use Rattle.vp_model.specs.World.{WorldState, message_at}
use Rattle.vp_laws.specs.ShapeLaws.{IsEvent, message_frame}
use Rattle.vp_laws.proofs.Lists.Members.{Has, has_first, has_more}
use Rattle.vp_laws.proofs.Worlds.Occurs.{Gives}
use Rattle.vp_laws.proofs.Worlds.Scenes.{message_at-has}
use Rattle.vp_laws.proofs.Lists.Items.{all_at}
use Rattle.vp_outside.specs.declared.datagram.Datagram.{Datagram}
use Rattle.vp_wire.specs.declared.frame.Frame.{Frame}
use Rattle.vp_wire.specs.declared.frame.Body.TheVariants as body
use Rattle.vp_wire.specs.Grammar.{IsFrame, frame_of, frame_bytes}
use Rattle.vp_runs.specs.declared.arrival.Arrival.TheVariants as arrives
use Rattle.vp_runs.specs.Arrivals.{arrival}
use Rattle.vp_runs.specs.Asking.{call_frame}
use Rattle.vp_runs.specs.Turns.{datagram_to, message_datagram}
use Rattle.vp_runs.proofs.Arriving.{messages_arrive, calls_arrive}
use Rattle.vp_runs.proofs.Datagrams.{has_port, own, no_port, tick_comes, probe_comes}
use Rattle.vp_cluster.specs.Letter.{Letter, as_received}
use Rattle.vp_cluster.specs.Letters.{letter_to, sent_from, letter_of, port_of, letter_for}

-- ---- ports

abbrev ports : List (ℕ × ℕ) → List ℕ
ports sites = map (λ (site : ℕ × ℕ). site.1) sites

another : (p q : ℕ) → nat_eq p q ≡ false → p ≢ q
another p q e same = grind (arith, nat_tests, e, same)

-- the port of a site among these, whether the first of them is that site or not
abbrev At : ℕ × ℕ → List (ℕ × ℕ) → Bool → ℕ → ℕ → Type 0
At s sites here a port = option_map (λ (p : ℕ × ℕ). p.1) (cond here (Some s) (find (λ (p : ℕ × ℕ). p.0 == a) sites)) ≡ Some port

has_its_port : (a port : ℕ) (sites : List (ℕ × ℕ)) → value_at a sites ≡ Some port → Has (ports sites) port
has_its_port a port [] at = absurd cc
has_its_port a port (s ∷ sites) at = go (s.0 == a) at (has_its_port a port sites)
  where
    go : (here : Bool) → At s sites here a port → (value_at a sites ≡ Some port → Has (ports sites) port) → Has (s.1 ∷ ports sites) port
    go true at more = let same : s.1 ≡ port = cc in rw (← same) (has_first s.1 (ports sites))
    go false at more = has_more s.1 (ports sites) port (more at)

pub has_site : (sites : List (ℕ × ℕ)) (a port : ℕ) → value_at a sites ≡ Some port → Has (keys sites) a
has_site [] a port at = absurd cc
has_site (s ∷ sites) a port at = go (s.0 == a) refl at (has_site sites a port)
  where
    it : (s.0 == a) ≡ true → s.0 ≡ a
    it e = grind (arith, nat_tests, e)

    go : (here : Bool) → (s.0 == a) ≡ here → At s sites here a port → (value_at a sites ≡ Some port → Has (keys sites) a) → Has (s.0 ∷ keys sites) a
    go true e at more = rw (← it e) (has_first s.0 (keys sites))
    go false e at more = has_more s.0 (keys sites) a (more at)

-- two sites have two ports
ports_apart : (a b p q : ℕ) (sites : List (ℕ × ℕ)) → IsDistinct nat_eq (ports sites) → value_at a sites ≡ Some p → value_at b sites ≡ Some q → a ≢ b → p ≢ q
unfolding IsDistinct
ports_apart a b p q [] h at bt n = absurd cc
ports_apart a b p q (s ∷ sites) h at bt n = go (s.0 == a) (s.0 == b) refl refl at bt (ports_apart a b p q sites h.1)
  where
    other : (r : ℕ) (c : ℕ) → value_at c sites ≡ Some r → s.1 ≢ r
    other r c ct = another s.1 r (all_at (λ r. nat_eq s.1 r ≡ false) (ports sites) h.0 r (has_its_port c r sites ct))

    both : (s.0 == a) ≡ true → (s.0 == b) ≡ true → ⊥
    both e f = n (grind (arith, nat_tests, e, f))

    go : (x y : Bool) → (s.0 == a) ≡ x → (s.0 == b) ≡ y → At s sites x a p → At s sites y b q → (value_at a sites ≡ Some p → value_at b sites ≡ Some q → a ≢ b → p ≢ q) → p ≢ q
    go true true e f at bt more = absurd (both e f)
    go true false e f at bt more = let same : s.1 ≡ p = cc in λ pq. other q b bt (same ∙ pq)
    go false true e f at bt more = let same : s.1 ≡ q = cc in λ pq. other p a at (same ∙ sym pq)
    go false false e f at bt more = more at bt n

module _ (catalogue : Catalogue) (k : IsCatalogue catalogue) where
  pub ports_differ : (a b p q : ℕ) → value_at a catalogue.sites ≡ Some p → value_at b catalogue.sites ≡ Some q → a ≢ b → p ≢ q
  ports_differ a b p q at bt n = ports_apart a b p q catalogue.sites k.so_far.ports_differ at bt n

  -- ---- what comes to a site

  -- the letter comes to the site as this input
  pub record Brings (s : ℕ) (given : Input) (letter : Letter) : Type 0 where
    pub to_is : value_at s catalogue.sites ≡ Some letter.to
    pub comes : arrival catalogue s (as_received letter) ≡ arrives.Gives given

  abbrev pub Brought : Event → List Letter → ℕ → Input → Type 0
  Brought e letters s given = (letter : Letter) × (letter_of catalogue letters e ≡ Some letter) × Brings s given letter

  abbrev from_client : ℕ → Frame → Letter
  from_client port frame = record { from = 0; to = port; bytes = frame_bytes frame }

  to_client : (s port : ℕ) (frame : Frame) → value_at s catalogue.sites ≡ Some port → letter_to catalogue s frame ≡ Some (from_client port frame)
  to_client s port frame at = ap (option_map (λ port. from_client port frame)) at

  port_is : (s port : ℕ) → value_at s catalogue.sites ≡ Some port → port_of catalogue s ≡ port
  port_is s port at = ap (λ (o : Option ℕ). option_map_or (λ port. port) o 0) at

  found : (w : WorldState) (n : ℕ) (m : Sent) → message_at w n ≡ Some m → letter_of catalogue (map (letter_for catalogue) w.sent) (event.Deliver n) ≡ Some (letter_for catalogue m)
  found w n m at = go (n == 0) at
    where
      go : (none : Bool) → cond none None (slice_get w.sent (n - 1)) ≡ Some m → cond none None (slice_get (map (letter_for catalogue) w.sent) (n - 1)) ≡ Some (letter_for catalogue m)
      go true at = absurd cc
      go false at = slice_get-map (letter_for catalogue) w.sent (n - 1) ∙ ap (option_map (letter_for catalogue)) at

  pub brought : (e : Event) (w : WorldState) (s : ℕ) (given : Input) → IsEvent e → ((m : Sent) → Has w.sent m → IsFrame (message_frame m) × Has (sites_of catalogue) m.from) → Has (sites_of catalogue) s → Gives e w s given
      → Brought e (map (letter_for catalogue) w.sent) s given
  brought e w s given i sent listed (Gives.called words is) =
      let p = has_port catalogue.sites s listed in
      let c = rw is at i in
      rw is (from_client p.0 (call_frame s words), to_client s p.0 (call_frame s words) p.1, record { to_is = p.1; comes = calls_arrive catalogue s 0 words (own catalogue k s listed) c (no_port catalogue k s listed) })
  brought e w s given i sent listed (Gives.came n m is at to) =
      let f = sent m (message_at-has w n m at) in
      let from = has_port catalogue.sites m.from f.1 in
      let p = has_port catalogue.sites s listed in
      let there : value_at m.to catalogue.sites ≡ Some p.0 = ap (λ (s : ℕ). value_at s catalogue.sites) to ∙ p.1 in
      rw is (
        letter_for catalogue m,
        found w n m at,
        record {
          to_is = p.1 ∙ ap Some (sym (port_is m.to p.0 there));
          comes =
              ap (λ (n : ℕ). arrival catalogue n (as_received (letter_for catalogue m))) (sym to)
              ∙ ap (λ (port : ℕ). arrival catalogue m.to (datagram_to port (message_frame m))) (port_is m.from from.0 from.1)
              ∙ messages_arrive catalogue m from.0 k f.0 from.1;
        },
      )
  brought e w s given i sent listed (Gives.ticked is) =
      let p = has_port catalogue.sites s listed in
      rw is (from_client p.0 (frame_of 0 s body.Tick), to_client s p.0 (frame_of 0 s body.Tick) p.1, record { to_is = p.1; comes = tick_comes catalogue k s listed })
  brought e w s given i sent listed (Gives.probed is) =
      let p = has_port catalogue.sites s listed in
      rw is (from_client p.0 (frame_of 0 s body.ProbeNow), to_client s p.0 (frame_of 0 s body.ProbeNow) p.1, record { to_is = p.1; comes = probe_comes catalogue k s listed })

  -- ---- what a step sends

  letter_is : (m : Sent) (from to : ℕ) → value_at m.from catalogue.sites ≡ Some from → value_at m.to catalogue.sites ≡ Some to → sent_from from (datagram_to to (message_frame m)) ≡ letter_for catalogue m
  letter_is m from to f t = rw (sym (port_is m.from from f), sym (port_is m.to to t)) refl

  -- the datagrams of a step's messages are their letters
  pub posted : (s port : ℕ) → value_at s catalogue.sites ≡ Some port → (messages : List Sent) → ((m : Sent) → Has messages m → (m.from ≡ s) × Has (sites_of catalogue) m.to)
      → map (sent_from port) (flat_map (message_datagram catalogue) messages) ≡ map (letter_for catalogue) messages
  posted s port at [] all = refl
  posted s port at (m ∷ ms) all =
      let q = all m (has_first m ms) in
      let to = has_port catalogue.sites m.to q.1 in
      let from : value_at m.from catalogue.sites ≡ Some port = ap (λ (s : ℕ). value_at s catalogue.sites) q.0 ∙ at in
      let one : message_datagram catalogue m ≡ datagram_to to.0 (message_frame m) ∷ [] = ap (λ (o : Option ℕ). option_map_or (λ port. datagram_to port (message_frame m) ∷ []) o []) to.1 in
      ap (λ (ds : List Datagram). map (sent_from port) (ds ++ flat_map (message_datagram catalogue) ms)) one
      ∙ ap (λ (letter : Letter). letter ∷ map (sent_from port) (flat_map (message_datagram catalogue) ms)) (letter_is m port to.0 from to.1)
      ∙ ap (λ (letters : List Letter). letter_for catalogue m ∷ letters) (posted s port at ms (λ m h. all m (has_more _ ms m h)))
