-- What a step keeps and sends about views, at its own site.
use Rattle.std.proofs.Common.{◌≡◌, ◌⊎◌, ◌∙◌, ap, sym, ℕ, Bool, true, false, List, [], ◌∷◌, ◌++◌, ⊎_elim, append-nil}
use Rattle.std.specs.Prelude.{Some, None}
use Rattle.vp_model.specs.Types.{ViewId, View, Message, Sent, Input, Refreshing}
use Rattle.vp_model.specs.Types.message
use Rattle.vp_model.specs.Site.{ViewState, SiteState, Stepped, letters}
use Rattle.vp_laws.proofs.Lists.Members.{Has, has_none, has_cases, has_one_is, map_has}
use Rattle.vp_laws.proofs.Lists.Views.{AtMost, Precedes, AtMost-trans}
use Rattle.vp_laws.proofs.Moves.Table.{Comes}

-- at most one of held, waiting and inviting is there, with the promise as its identifier; a site is among the members
-- of what it holds or invites to, invites to identifiers of its own, and waits for those of others
pub record Tidy (x : SiteState) : Type 0 where
  pub held : (v : View) → x.held ≡ Some v → (v.id ≡ x.promise) × (x.waiting ≡ None) × (x.inviting ≡ None) × Has v.members x.id
  pub waiting : (i : ViewId) → x.waiting ≡ Some i → (i ≡ x.promise) × (x.held ≡ None) × (x.inviting ≡ None)
  pub inviting : (b : ViewId × List ℕ) → x.inviting ≡ Some b → (b.0 ≡ x.promise) × (x.held ≡ None) × (x.waiting ≡ None) × (b.0.site ≡ x.id) × Has b.1 x.id

-- where a refresh is in a held view alone, there is none while no view is held
pub none_refreshed : (x : SiteState) → ((r : Refreshing) → Has x.refresh r → (v : View) × (x.held ≡ Some v)) → x.held ≡ None → (r : Refreshing) → Has x.refresh r → ⊥
none_refreshed x held_then e r h = let q = held_then r h in let z = q.1 in cc

abbrev pub ViewComes : Input → View → Type 0
ViewComes given v = (p : ℕ) × Comes given p (message.ViewCommit v.id v.members)

abbrev pub InviteComes : Input → ViewId → Type 0
InviteComes given i = (p : ℕ) × Comes given p (message.Invite i)

abbrev pub IsNew : SiteState → ViewId × List ℕ → Type 0
IsNew x b = Precedes x.promise b.0 × (b.0.site ≡ x.id) × (b.1 ≡ x.id ∷ [])

-- the invitation has one more acceptor
abbrev pub HasGrown : SiteState → Input → ViewId × List ℕ → Type 0
HasGrown x given b = (old : ViewId × List ℕ) × (p : ℕ) × (x.inviting ≡ Some old) × Comes given p (message.Accept b.0) × (b.0 ≡ old.0) × ((a : ℕ) → Has b.1 a → Has old.1 a ⊎ (p ≡ a))

abbrev pub letter : ℕ → ℕ → Message → Sent
letter from to words = record { from = from; to = to; message = words }

-- what a site may send of views in a step from x to y
abbrev pub MaySend : SiteState → Input → ViewState → Message → Type 0
MaySend x given y (message.Invite i) = AtMost i y.promise × (i.site ≡ x.id)
MaySend x given y (message.Accept i) = AtMost i y.promise
MaySend x given y (message.Stale i w) = InviteComes given i × (w ≡ x.promise)
MaySend x given y (message.ViewCommit i ms) = (x.inviting ≡ Some (i, ms)) × (y.held ≡ Some (record { id = i; members = ms }))
MaySend x given y m = Unit {0}

pub record Local (x : SiteState) (given : Input) (o : Stepped) : Type 0 where
  pub id : o.site.id ≡ x.id
  pub rises : AtMost x.promise o.site.promise
  pub origin : (o.site.promise ≡ x.promise) ⊎ ((o.site.promise.site ≡ x.id) ⊎ InviteComes given o.site.promise)
  pub tidy : Tidy o.site
  pub held : (v : View) → o.site.held ≡ Some v → (x.held ≡ Some v) ⊎ ((x.inviting ≡ Some (v.id, v.members)) ⊎ ViewComes given v)
  pub waiting : (i : ViewId) → o.site.waiting ≡ Some i → (x.waiting ≡ Some i) ⊎ (InviteComes given i × Precedes x.promise i)
  pub inviting : (b : ViewId × List ℕ) → o.site.inviting ≡ Some b → (x.inviting ≡ Some b) ⊎ (IsNew x b ⊎ HasGrown x given b)
  pub sent : (m : Sent) → Has o.effects.messages m → (m.from ≡ x.id) × MaySend x given o.site.views m.message

-- a message that says nothing of views
abbrev pub is_quiet : Message → Bool
is_quiet (message.Invite i) = false
is_quiet (message.Accept i) = false
is_quiet (message.Stale i w) = false
is_quiet (message.ViewCommit i ms) = false
is_quiet m = true

pub quiet-may : (x : SiteState) (given : Input) (y : ViewState) (m : Message) → is_quiet m ≡ true → MaySend x given y m
quiet-may x given y (message.Invite i) e = cc
quiet-may x given y (message.Accept i) e = cc
quiet-may x given y (message.Stale i w) e = cc
quiet-may x given y (message.ViewCommit i ms) e = cc
quiet-may x given y m e = tt

-- with the same views, what was sent may still be sent
module _ (x : SiteState) (given : Input) where
  -- the rows that leave the views alone, and send only what says nothing of them
  pub beside : (o e : Stepped) (more : List Sent) → e.site.id ≡ o.site.id → e.site.views ≡ o.site.views → e.effects.messages ≡ o.effects.messages ++ more → ((m : Sent) → Has more m → (m.from ≡ o.site.id) × (is_quiet m.message ≡ true)) → Local x given o → Local x given e
  beside o e more i v ms quiet l = record {
    id = i ∙ l.id;
    rises = rw v l.rises;
    origin = rw v l.origin;
    tidy = record { held = rw (v, i) l.tidy.held; waiting = rw v l.tidy.waiting; inviting = rw (v, i) l.tidy.inviting };
    held = rw v l.held;
    waiting = rw v l.waiting;
    inviting = rw v l.inviting;
    sent = λ m h. ⊎_elim (λ old. rw v (l.sent m old)) (λ new. ((quiet m new).0 ∙ l.id, quiet-may x given e.site.views m.message (quiet m new).1)) (has_cases o.effects.messages more m (rw ms at h));
  }

  pub silent : (o e : Stepped) → e.site.id ≡ o.site.id → e.site.views ≡ o.site.views → e.effects.messages ≡ o.effects.messages → Local x given o → Local x given e
  silent o e i v ms l = beside o e [] i v (ms ∙ sym (append-nil o.effects.messages)) (λ m h. absurd (has_none m h)) l

  pub letters_quiet : (from : ℕ) (message_to : ℕ → Message) (sites : List ℕ) → ((q : ℕ) → is_quiet (message_to q) ≡ true) → (m : Sent) → Has (letters from message_to sites) m → (m.from ≡ from) × (is_quiet m.message ≡ true)
  letters_quiet from message_to sites quiet m h =
      let r = map_has (λ (q : ℕ). letter from q (message_to q)) sites m h in (sym (ap (λ (m : Sent). m.from) r.2), rw (sym (ap (λ (m : Sent). m.message) r.2)) (quiet r.0))

  pub letter_quiet : (from to : ℕ) (words : Message) → is_quiet words ≡ true → (m : Sent) → Has (letter from to words ∷ []) m → (m.from ≡ from) × (is_quiet m.message ≡ true)
  letter_quiet from to words quiet m h = let e = has_one_is _ m h in (sym (ap (λ (m : Sent). m.from) e), rw (sym (ap (λ (m : Sent). m.message) e)) quiet)

  -- what was sent may be sent still, as the promise rises at a site without a view
  pub may_rise : (a b : ViewState) (m : Message) → AtMost a.promise b.promise → a.held ≡ None → MaySend x given a m → MaySend x given b m
  may_rise a b (message.Invite i) up none h = (AtMost-trans i a.promise b.promise h.0 up, h.1)
  may_rise a b (message.Accept i) up none h = AtMost-trans i a.promise b.promise h up
  may_rise a b (message.Stale i w) up none h = h
  may_rise a b (message.ViewCommit i ms) up none h = absurd (let e = h.1 in cc)
  may_rise a b m up none h = tt
