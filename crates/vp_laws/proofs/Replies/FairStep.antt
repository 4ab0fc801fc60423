-- A step's refusals are justified by its own moment.
use Rattle.std.proofs.Common.{◌≡◌, ◌≢◌, ◌∙◌, ap, sym, subst, ℕ, Bool, true, false, List, refl, arith}
use Rattle.std.specs.Prelude.{Option, Some, None, ◌==◌, ◌&&◌, not}
use Rattle.std.specs.List.{list_any}
use Rattle.std.specs.Option.{option_map_or}
use Rattle.std.proofs.lemmas.Bool.{eqb-true, or_left, or_right}
use Rattle.std.proofs.lemmas.Bool.Decides.{nat_tests}
use Rattle.std.proofs.lemmas.Slice.Eq.{bytes_eq-Decides}
use Rattle.vp_model.specs.Types.{TxnId, ViewId, View, Owner, Obstacle, Call, Answer, Reply, Message, Sent, Event, Input, Pending, Live}
use Rattle.vp_model.specs.Types.answer
use Rattle.vp_model.specs.Types.event
use Rattle.vp_model.specs.Types.input
use Rattle.vp_model.specs.Types.message
use Rattle.vp_model.specs.Types.obstacle
use Rattle.vp_model.specs.Types.shown
use Rattle.vp_model.specs.Words.{same_txn, same_view, is_view}
use Rattle.vp_model.specs.Catalogue.{Catalogue, find_record}
use Rattle.vp_model.specs.Locks.{conflict}
use Rattle.vp_model.specs.Site.{SiteState, Stepped}
use Rattle.vp_model.specs.World.{WorldState, Moment, site_of}
use Rattle.vp_model.specs.Answers.{is_live}
use Rattle.vp_model.specs.Messages.{held_id}
use Rattle.vp_model.specs.Told.{answers_in, messages_in, is_call, call_in}
use Rattle.vp_model.specs.Justified.{Request, bars, was_barred, is_barred_by, is_delivery, call_request, message_request, request_of, site_named, is_step_of, is_request, tested_before, tested_after, blocks, is_named, says_held, gave_held, was_blocked, refuses, is_held_by, is_other_view, is_same_view, handles, held_other, left_then, closed_then, delivered_by, takes_refusal, is_called, is_pending, answers_call}
use Rattle.vp_laws.proofs.Lists.Members.{Has, both_true, any_of}
use Rattle.vp_laws.proofs.Lists.Changes.{mapped_has}
use Rattle.vp_model.proofs.SameTxn.{same_txn-is, same_txn-self}
use Rattle.vp_laws.proofs.Moves.Table.{Comes, Requests, Asks}
use Rattle.vp_laws.proofs.Moves.LocalViews.{letter}
use Rattle.vp_laws.proofs.Worlds.Occurs.{Gives}
use Rattle.vp_laws.proofs.Moves.Reasons.{Called, IsCallOf, Operates, told_to}
use Rattle.vp_laws.proofs.Lists.LockTables.{same_owner-self}
use Rattle.vp_laws.proofs.Lists.Numbers.{eq_not, eq_self}

-- the moment is a step of the site s, from x to o
pub record IsStep (m : Moment) (w : WorldState) (s : ℕ) (x : SiteState) (given : Input) (o : Stepped) : Type 0 where
  pub before : m.before ≡ w
  pub first : ℕ
  pub shown : m.line.shown ≡ shown.Step o.effects.commits first o.effects.messages o.effects.replies
  pub gives : Gives m.line.event w s given
  pub up : site_of w s ≡ Some x
  pub after : site_of m.after s ≡ Some o.site

pub same_view-self : (v : ViewId) → same_view v v ≡ true
same_view-self v = grind (arith, nat_tests)

pub same_now : (v : Option ViewId) → is_same_view v v ≡ true
same_now None = refl
same_now (Some v) = same_view-self v

pub named_site : (e : Event) (w : WorldState) (s : ℕ) (given : Input) → Gives e w s given → site_named w e ≡ Some s
named_site e w s given (Gives.called words is) = rw is refl
named_site e w s given (Gives.came k m is at to) = rw (is, at, to) refl
named_site e w s given (Gives.ticked is) = rw is refl
named_site e w s given (Gives.probed is) = rw is refl

call_asks : (catalogue : Catalogue) (e : Event) (w : WorldState) (s : ℕ) (given : Input) → Gives e w s given → (port : ℕ) (words : Call) → given ≡ input.Call port words → request_of catalogue w e ≡ call_request catalogue words
call_asks catalogue e w s given (Gives.called calls is) port words c = let same : calls ≡ words = cc in rw (is, same) refl
call_asks catalogue e w s given (Gives.came k m is at to) port words c = cc
call_asks catalogue e w s given (Gives.ticked is) port words c = cc
call_asks catalogue e w s given (Gives.probed is) port words c = cc

message_asks : (catalogue : Catalogue) (e : Event) (w : WorldState) (s : ℕ) (given : Input) → Gives e w s given → (from : ℕ) (words : Message) → Comes given from words → request_of catalogue w e ≡ message_request words
message_asks catalogue e w s given (Gives.called calls is) from words c = cc
message_asks catalogue e w s given (Gives.came k m is at to) from words c = let same : m.message ≡ words = cc in rw (is, at, same) refl
message_asks catalogue e w s given (Gives.ticked is) from words c = cc
message_asks catalogue e w s given (Gives.probed is) from words c = cc

-- the call that comes is that of the event
pub called_event : (e : Event) (w : WorldState) (s : ℕ) (given : Input) → Gives e w s given → (port : ℕ) (words : Call) → given ≡ input.Call port words → e ≡ event.Call s words
called_event e w s given (Gives.called calls is) port words c = let same : calls ≡ words = cc in rw (is, same) refl
called_event e w s given (Gives.came k m is at to) port words c = cc
called_event e w s given (Gives.ticked is) port words c = cc
called_event e w s given (Gives.probed is) port words c = cc

called_in : (e : Event) (w : WorldState) (s : ℕ) (given : Input) → Gives e w s given → (port : ℕ) (words : Call) → given ≡ input.Call port words → call_in e ≡ Some words
called_in e w s given gives port words c = ap call_in (called_event e w s given gives port words c)

sent_is : (m : Sent) (from to : ℕ) (words : Message) → m.from ≡ from → m.to ≡ to → m.message ≡ words → m ≡ letter from to words
sent_is m from to words p q r = rw (← p, ← q, ← r) refl

delivered_is : (e : Event) (w : WorldState) (s : ℕ) (given : Input) → Gives e w s given → (from : ℕ) (words : Message) → Comes given from words → delivered_by w e ≡ Some (letter from s words)
delivered_is e w s given (Gives.called calls is) from words c = cc
delivered_is e w s given (Gives.came k m is at to) from words c =
    let sender : m.from ≡ from = cc in
    let same : m.message ≡ words = cc in
    rw is (at ∙ ap (λ (m : Sent). Some m) (sent_is m from s words sender to same))
delivered_is e w s given (Gives.ticked is) from words c = cc
delivered_is e w s given (Gives.probed is) from words c = cc

delivered_event : (e : Event) (w : WorldState) (s : ℕ) (given : Input) → Gives e w s given → (from : ℕ) (words : Message) → Comes given from words → is_delivery e ≡ true
delivered_event e w s given (Gives.called calls is) from words c = cc
delivered_event e w s given (Gives.came k m is at to) from words c = rw is refl
delivered_event e w s given (Gives.ticked is) from words c = cc
delivered_event e w s given (Gives.probed is) from words c = cc

uncalled_event : (e : Event) (w : WorldState) (s : ℕ) (given : Input) → Gives e w s given → is_delivery e ≡ true → (port : ℕ) (words : Call) → given ≡ input.Call port words → ⊥
uncalled_event e w s given (Gives.called calls is) delivery port words c = let z = ap is_delivery is in cc
uncalled_event e w s given (Gives.came k m is at to) delivery port words c = cc
uncalled_event e w s given (Gives.ticked is) delivery port words c = cc
uncalled_event e w s given (Gives.probed is) delivery port words c = cc

in_turn : (a b c : Bool) → a ≡ true → b ≡ true → c ≡ true → ((a && b) && c) ≡ true
in_turn a b c p q r = rw (p, q, r) refl

joined : (a b c : Bool) → a ≡ true → b ≡ true → c ≡ true → (a && (b && c)) ≡ true
joined a b c p q r = rw (p, q, r) refl

module _ (catalogue : Catalogue) (m : Moment) (w : WorldState) (s : ℕ) (x : SiteState) (given : Input) (o : Stepped) (is : IsStep m w s x given o) where
  pub step_here : is_step_of s m ≡ true
  step_here = rw (is.shown, is.before, named_site m.line.event w s given is.gives, eq_self s) refl

  pub tested_x : (test : SiteState → Bool) → test x ≡ true → tested_before s test m ≡ true
  tested_x test e = rw (is.before, is.up, e) refl

  pub tested_o : (test : SiteState → Bool) (b : Bool) → test o.site ≡ b → tested_after s test m ≡ b
  tested_o test b e = rw (is.after, e) refl

  -- the call that comes is answered under its number, and number 0 as the first
  pub called_now : (txn : TxnId) (number : ℕ) → IsCallOf given txn number → answers_call txn number m ≡ true
  called_now txn number c = or_left (is_called txn number m) _ (rw (called_in m.line.event w s given is.gives c.port c.words c.comes, c.own) refl)

  pub called_first : (txn : TxnId) → IsCallOf given txn 0 → answers_call txn 1 m ≡ true
  called_first txn c = or_left (is_called txn 1 m) _ (rw (called_in m.line.event w s given is.gives c.port c.words c.comes) (or_right (is_call txn 1 c.words) _ c.own))

  -- and so is one that waits
  pub pending_now : (t : Live) (p : Pending) → Has x.live t → t.pending ≡ Some p → t.txn.site ≡ s → answers_call t.txn p.number m ≡ true
  pending_now t p h e at =
      let waits : list_any (is_pending t.txn p.number) x.live ≡ true = any_of (is_pending t.txn p.number) x.live t h (rw (e, same_txn-self t.txn) (eq_self p.number)) in
      or_right (is_called t.txn p.number m) _
      (subst (λ (k : ℕ). tested_before k (λ site. list_any (is_pending t.txn p.number) site.live) m ≡ true) (sym at) (tested_x (λ site. list_any (is_pending t.txn p.number) site.live) waits))

  pub blocks_x : (txn : TxnId) (holder : Owner) (rec : ℕ) (exclusive : Bool) → conflict rec exclusive txn x.locks ≡ Some holder → tested_before s (blocks txn holder (rec, exclusive)) m ≡ true
  blocks_x txn holder rec exclusive e = tested_x (blocks txn holder (rec, exclusive)) (rw e (same_owner-self holder))

  -- the request of the step is this one, and passes the test
  pub handles_now : (r : Request) (test : Request → Bool) → request_of catalogue w m.line.event ≡ Some r → test r ≡ true → handles catalogue s r.txn r.number test m ≡ true
  handles_now r test asks e =
      let request : request_of catalogue m.before m.line.event ≡ Some r = rw is.before asks in
      rw request (joined (is_step_of s m) (is_request r.txn r.number r) (test r) step_here (rw (same_txn-self r.txn, eq_self r.number) refl) e)

  pub replied : (port : ℕ) (a : Answer) → Has o.effects.replies (told_to port a) → Has (answers_in m.line) a
  replied port a h = rw is.shown (mapped_has (λ (r : Reply). r.answer) o.effects.replies (told_to port a) h)

  -- the call of an operation, as a request
  pub operation_asks : (t : Live) (p : Pending) (name : List ℕ) (rec : ℕ) (exclusive : Bool) → Called given t p → Operates p.call name exclusive → find_record catalogue name ≡ Some rec → request_of catalogue w m.line.event ≡ Some (record { txn = t.txn; number = p.number; lock = Some (rec, exclusive); view = None })
  operation_asks t p name rec exclusive c op found = call_asks catalogue m.line.event w s given is.gives p.port p.call c.comes ∙ go exclusive op
    where
      both : (txn : TxnId) (n : ℕ) → (same_txn txn t.txn && (n == p.number)) ≡ true → (txn ≡ t.txn) × (n ≡ p.number)
      both txn n e = let q = both_true (same_txn txn t.txn) (n == p.number) e in (same_txn-is txn t.txn q.0, eqb-true n p.number q.1)

      go : (exclusive : Bool) → Operates p.call name exclusive → call_request catalogue p.call ≡ Some (record { txn = t.txn; number = p.number; lock = Some (rec, exclusive); view = None })
      go exclusive (Operates.reads txn n e) = let q = both txn n (rw e at c.own) in rw (e, found, q.0, q.1) refl
      go exclusive (Operates.writes txn n value e) = let q = both txn n (rw e at c.own) in rw (e, found, q.0, q.1) refl
      go exclusive (Operates.deletes txn n e) = let q = both txn n (rw e at c.own) in rw (e, found, q.0, q.1) refl
      go exclusive (Operates.weighs txn n table e) = let q = both txn n (rw e at c.own) in rw (e, found, q.0, q.1) refl

  says : (txn : TxnId) (number : ℕ) (name : List ℕ) (holder : Owner) → says_held txn number name s holder (answer.LockHeld txn number name s holder) ≡ true
  says txn number name holder = rw (same_txn-self txn, eq_self number, (bytes_eq-Decides name name).1 refl, eq_self s) (same_owner-self holder)

  pub named_here : (name : List ℕ) (rec : ℕ) → find_record catalogue name ≡ Some rec → is_named catalogue name rec ≡ true
  named_here name rec found = rw (found, eq_self rec) refl

  -- a lock here forbade the call
  pub blocked_here : (t : Live) (p : Pending) (name : List ℕ) (rec : ℕ) (exclusive : Bool) (holder : Owner) → Called given t p → Operates p.call name exclusive → find_record catalogue name ≡ Some rec → conflict rec exclusive t.txn x.locks ≡ Some holder → t.txn.site ≡ s → Has (answers_in m.line) (answer.LockHeld t.txn p.number name s holder) → was_blocked catalogue t.txn p.number name s holder m ≡ true
  blocked_here t p name rec exclusive holder c op found e own told =
      let r : Request = record { txn = t.txn; number = p.number; lock = Some (rec, exclusive); view = None } in
      let here : (s == t.txn.site) ≡ true = subst (λ (k : ℕ). (s == k) ≡ true) (sym own) (eq_self s) in
      let gave : gave_held t.txn p.number name s holder m ≡ true = rw here (any_of (says_held t.txn p.number name s holder) (answers_in m.line) (answer.LockHeld t.txn p.number name s holder) told (says t.txn p.number name holder)) in
      handles_now r (λ request. option_map_or (λ lock. is_named catalogue name lock.0 && tested_before s (blocks t.txn holder lock) m) request.lock false && gave_held t.txn p.number name s holder m) (operation_asks t p name rec exclusive c op found)
      (rw (named_here name rec found, blocks_x t.txn holder rec exclusive e) gave)

  sent_now : (to : ℕ) (words : Message) (test : Sent → Bool) → Has o.effects.messages (letter s to words) → test (letter s to words) ≡ true → list_any test (messages_in m.line.shown) ≡ true
  sent_now to words test h e = rw is.shown (any_of test o.effects.messages (letter s to words) h e)

  -- the request for a lock on a copy here
  asked_for : (from : ℕ) (txn : TxnId) (view : ViewId) (number rec : ℕ) (exclusive : Bool) → Requests given from txn view number rec exclusive → request_of catalogue w m.line.event ≡ Some (record { txn = txn; number = number; lock = Some (rec, exclusive); view = Some view })
  asked_for from txn view number rec exclusive (Requests.reads c) = message_asks catalogue m.line.event w s given is.gives from (message.ReadRequest txn view number rec) c
  asked_for from txn view number rec exclusive (Requests.writes c) = message_asks catalogue m.line.event w s given is.gives from (message.WriteRequest txn view number rec) c

  -- a lock here forbade a request of another site
  pub blocked_there : (from : ℕ) (txn : TxnId) (view : ViewId) (number rec : ℕ) (exclusive : Bool) (holder : Owner) (name : List ℕ) → Requests given from txn view number rec exclusive → conflict rec exclusive txn x.locks ≡ Some holder → Has o.effects.messages (letter s from (message.Refuse txn number (obstacle.Held holder))) → find_record catalogue name ≡ Some rec → s ≢ txn.site → was_blocked catalogue txn number name s holder m ≡ true
  blocked_there from txn view number rec exclusive holder name asks e sent found away =
      let r : Request = record { txn = txn; number = number; lock = Some (rec, exclusive); view = Some view } in
      let there : (s == txn.site) ≡ false = eq_not s txn.site away in
      let refused : list_any (refuses txn number (is_held_by holder)) (messages_in m.line.shown) ≡ true = sent_now from (message.Refuse txn number (obstacle.Held holder)) (refuses txn number (is_held_by holder)) sent (rw (same_txn-self txn, eq_self number) (same_owner-self holder)) in
      let gave : gave_held txn number name s holder m ≡ true = rw there refused in
      handles_now r (λ request. option_map_or (λ lock. is_named catalogue name lock.0 && tested_before s (blocks txn holder lock) m) request.lock false && gave_held txn number name s holder m) (asked_for from txn view number rec exclusive asks)
      (rw (named_here name rec found, blocks_x txn holder rec exclusive e) gave)

  -- a bar here forbade a request of another site
  pub barred_there : (from : ℕ) (txn : TxnId) (view : ViewId) (number rec : ℕ) (exclusive : Bool) (i t : ℕ) (name : List ℕ) → Requests given from txn view number rec exclusive → bars catalogue w.journal rec i t x ≡ true → Has o.effects.messages (letter s from (message.Refuse txn number (obstacle.Barred i t))) → find_record catalogue name ≡ Some rec → was_barred catalogue txn number name i t m ≡ true
  barred_there from txn view number rec exclusive i t name asks e sent found =
      let r : Request = record { txn = txn; number = number; lock = Some (rec, exclusive); view = Some view } in
      let refused : list_any (refuses txn number (is_barred_by i t)) (messages_in m.line.shown) ≡ true = sent_now from (message.Refuse txn number (obstacle.Barred i t)) (refuses txn number (is_barred_by i t)) sent (rw (same_txn-self txn, eq_self number, eq_self i) (eq_self t)) in
      let barred : tested_before s (bars catalogue m.before.journal rec i t) m ≡ true = subst (λ (v : WorldState). tested_before s (bars catalogue v.journal rec i t) m ≡ true) (sym is.before) (tested_x (bars catalogue w.journal rec i t) e) in
      let site : site_named m.before m.line.event ≡ Some s = rw is.before (named_site m.line.event w s given is.gives) in
      let all : handles catalogue s txn number
      (λ request.
      option_map_or (λ (lock : ℕ × Bool). is_named catalogue name lock.0 && tested_before s (bars catalogue m.before.journal lock.0 i t) m) request.lock false
      && list_any (refuses txn number (is_barred_by i t)) (messages_in m.line.shown)) m ≡ true = handles_now r
      (λ request.
      option_map_or (λ (lock : ℕ × Bool). is_named catalogue name lock.0 && tested_before s (bars catalogue m.before.journal lock.0 i t) m) request.lock false
      && list_any (refuses txn number (is_barred_by i t)) (messages_in m.line.shown)) (asked_for from txn view number rec exclusive asks)
      (rw (named_here name rec found, barred) refused) in
      subst (λ (o : Option ℕ).
      option_map_or
      (λ at. handles catalogue at txn number
      (λ request.
      option_map_or (λ (lock : ℕ × Bool). is_named catalogue name lock.0 && tested_before at (bars catalogue m.before.journal lock.0 i t) m) request.lock false
      && list_any (refuses txn number (is_barred_by i t)) (messages_in m.line.shown)) m) o false ≡ true) (sym site) all

  -- a message is delivered
  pub delivers : (from : ℕ) (words : Message) → Comes given from words → is_delivery m.line.event ≡ true
  delivers from words c = delivered_event m.line.event w s given is.gives from words c

  -- and is no call
  pub delivered_uncalled : is_delivery m.line.event ≡ true → (port : ℕ) (words : Call) → given ≡ input.Call port words → ⊥
  delivered_uncalled e port words c = uncalled_event m.line.event w s given is.gives e port words c

  -- a request of another site named a view that is not held here
  pub other_there : (from : ℕ) (txn : TxnId) (view : ViewId) (number : ℕ) → Asks given from txn view number → Has o.effects.messages (letter s from (message.Refuse txn number (obstacle.OtherView (held_id x)))) → held_other catalogue txn number s view (held_id x) m ≡ true
  other_there from txn view number asks sent = go asks
    where
      refused : list_any (refuses txn number (is_other_view (held_id x))) (messages_in m.line.shown) ≡ true
      refused = sent_now from (message.Refuse txn number (obstacle.OtherView (held_id x))) (refuses txn number (is_other_view (held_id x))) sent (rw (same_txn-self txn, eq_self number) (same_now (held_id x)))

      by : (lock : Option (ℕ × Bool)) → request_of catalogue w m.line.event ≡ Some (record { txn = txn; number = number; lock = lock; view = Some view }) → held_other catalogue txn number s view (held_id x) m ≡ true
      by lock e =
          let now : tested_before s (λ site. is_same_view (held_id site) (held_id x)) m ≡ true = tested_x (λ site. is_same_view (held_id site) (held_id x)) (same_now (held_id x)) in
          handles_now (record { txn = txn; number = number; lock = lock; view = Some view })
          (λ request. is_view request.view view && tested_before s (λ site. is_same_view (held_id site) (held_id x)) m && list_any (refuses txn number (is_other_view (held_id x))) (messages_in m.line.shown)) e
          (in_turn (is_view (Some view) view) (tested_before s (λ site. is_same_view (held_id site) (held_id x)) m) (list_any (refuses txn number (is_other_view (held_id x))) (messages_in m.line.shown)) (same_view-self view) now refused)

      go : Asks given from txn view number → held_other catalogue txn number s view (held_id x) m ≡ true
      go (Asks.reads rec c) = by (Some (rec, false)) (message_asks catalogue m.line.event w s given is.gives from (message.ReadRequest txn view number rec) c)
      go (Asks.writes rec c) = by (Some (rec, true)) (message_asks catalogue m.line.event w s given is.gives from (message.WriteRequest txn view number rec) c)
      go (Asks.prepares reads writes c) = by None (message_asks catalogue m.line.event w s given is.gives from (message.Prepare txn view number reads writes) c)

  -- the site has left the view
  pub left_now : (v : View) → x.held ≡ Some v → o.site.held ≡ None → left_then s v.id m ≡ true
  left_now v held gone =
      let before : tested_before s (λ site. is_view (held_id site) v.id) m ≡ true = tested_x (λ site. is_view (held_id site) v.id) (rw held (same_view-self v.id)) in
      let now : tested_after s (λ site. is_view (held_id site) v.id) m ≡ false = tested_o (λ site. is_view (held_id site) v.id) false (rw gone refl) in
      rw (step_here, before, now) refl

  -- and the step has closed the transaction
  pub closed_now : (txn : TxnId) → txn.site ≡ s → is_live txn x.live ≡ true → is_live txn o.site.live ≡ false → closed_then txn m ≡ true
  closed_now txn at was gone =
      let before : tested_before s (λ site. is_live txn site.live) m ≡ true = tested_x (λ site. is_live txn site.live) was in
      let now : tested_after s (λ site. is_live txn site.live) m ≡ false = tested_o (λ site. is_live txn site.live) false gone in
      subst (λ (k : ℕ). (tested_before k (λ site. is_live txn site.live) m && not (tested_after k (λ site. is_live txn site.live) m)) ≡ true) (sym at) (rw (before, now) refl)

  -- and took this refusal
  pub took_refusal : (from : ℕ) (txn : TxnId) (number : ℕ) (why : Obstacle) (test : Obstacle → Bool) → Comes given from (message.Refuse txn number why) → test why ≡ true → takes_refusal txn number from test m ≡ true
  took_refusal from txn number why test c e =
      let t : delivered_by m.before m.line.event ≡ Some (letter from s (message.Refuse txn number why)) = rw is.before (delivered_is m.line.event w s given is.gives from (message.Refuse txn number why) c) in
      rw t (rw (eq_self from, same_txn-self txn, eq_self number) e)
