-- A property that is only about a site's own transactions and what is sent for them is kept by all moves but the coordinator's.
use Rattle.std.proofs.Common.{◌≡◌, ◌∙◌, ap, sym, subst, ℕ, Bool, true, false, List, [], ◌∷◌, ◌++◌, refl}
use Rattle.std.specs.Prelude.{Option, Some, None, ◌==◌, not, filter}
use Rattle.vp_model.specs.Types.{TxnId, Stored, Message, Sent, Commit, Input, Refreshing, Doubt, Decision}
use Rattle.vp_model.specs.Types.input
use Rattle.vp_model.specs.Types.message
use Rattle.vp_model.specs.Catalogue.{Catalogue}
use Rattle.vp_model.specs.Durable.{doubt_of}
use Rattle.vp_model.specs.Site.{CoordinatorState, SiteState, Lent, Stepped, begin_step, lent, put_back, letters}
use Rattle.vp_model.specs.Refresh.{unlist, end_refresh, start_refresh, other_holders}
use Rattle.vp_model.specs.Views.{other_sites, drop_view, start_inviting, hold}
use Rattle.vp_model.specs.Messages.{accept, on_accept, on_stale, grant, end_here}
use Rattle.vp_model.specs.Step.{fix, ask_again, resend_one}
use Rattle.vp_laws.proofs.Lists.Members.{Has, has_one_is, map_has}
use Rattle.vp_laws.proofs.Moves.Table.{next_view, OfCoordinator, Back, SendsBack, Table, AsksAgain}
use Rattle.vp_laws.proofs.Moves.LocalViews.{letter}
use Rattle.vp_laws.proofs.Moves.Frames.{judged, take-cases}

-- a message that no coordinator sends for a transaction of its own
abbrev pub is_aside : Message → Bool
is_aside (message.ReadRequest txn view number rec) = false
is_aside (message.WriteRequest txn view number rec) = false
is_aside (message.Prepare txn view number reads writes) = false
is_aside (message.Outcome txn commit) = false
is_aside m = true

again_aside : (catalogue : Catalogue) (x : SiteState) (given : Input) (o : Stepped) (to : ℕ) (m : Message) → AsksAgain catalogue x given o to m → is_aside m ≡ true
again_aside catalogue x given o to _ (AsksAgain.refresh view r e h v q) = refl
again_aside catalogue x given o to m a = refl

pub record Aside (x : SiteState) (m : Sent) : Type 0 where
  pub from : m.from ≡ x.id
  pub aside : is_aside m.message ≡ true

pub letters_aside : (x : SiteState) (message_to : ℕ → Message) (sites : List ℕ) → ((q : ℕ) → is_aside (message_to q) ≡ true) → (m : Sent) → Has (letters x.id message_to sites) m → Aside x m
letters_aside x message_to sites quiet m h =
    let r = map_has (λ (q : ℕ). letter x.id q (message_to q)) sites m h in record { from = sym (ap (λ (m : Sent). m.from) r.2); aside = rw (sym (ap (λ (m : Sent). m.message) r.2)) (quiet r.0) }

pub letter_aside : (x : SiteState) (to : ℕ) (words : Message) → is_aside words ≡ true → (m : Sent) → Has (letter x.id to words ∷ []) m → Aside x m
letter_aside x to words quiet m h = let e = has_one_is _ m h in record { from = sym (ap (λ (m : Sent). m.from) e); aside = rw (sym (ap (λ (m : Sent). m.message) e)) quiet }

-- R speaks of the coordinator's state, and of the messages and the entries so far
module _ (catalogue : Catalogue) (x : SiteState) (given : Input) (R : CoordinatorState → List Sent → List Commit → Type 0) where
  pub record OnCoordinator (o : Stepped) : Type 0 where
    pub id : o.site.id ≡ x.id
    pub kept : R o.site.coordinator o.effects.messages o.effects.commits

  abbrev pub OnLent : Lent → Type 0
  OnLent l = R l.coordinator l.effects.messages l.effects.commits

  -- what its own moves have to keep
  pub record Keeps : Type 0 where
    pub aside : (c : CoordinatorState) (ms more : List Sent) (cs : List Commit) → ((m : Sent) → Has more m → Aside x m) → R c ms cs → R c (ms ++ more) cs
    pub starts : R x.coordinator [] []
    pub moves : OfCoordinator catalogue x given OnLent
    pub sends_back : (from : ℕ) (m : Message) → SendsBack x given from m → R x.coordinator (letter x.id from m ∷ []) []
    pub resends : (c : CoordinatorState) (d : Decision) (ms : List Sent) (cs : List Commit) → given ≡ input.Tick → Has c.decisions d → R c ms cs → R c (ms ++ letters x.id (λ q. message.Outcome d.txn true) d.waiting) cs

module _ (catalogue : Catalogue) (x : SiteState) (given : Input) (R : CoordinatorState → List Sent → List Commit → Type 0) (k : Keeps catalogue x given R) where
  abbrev P : Stepped → Type 0
  P = OnCoordinator catalogue x given R

  pub only_begins : P (begin_step x)
  only_begins = record { id = refl; kept = k.starts }

  silent : (o e : Stepped) → e.site.id ≡ o.site.id → e.site.coordinator ≡ o.site.coordinator → e.effects.messages ≡ o.effects.messages → e.effects.commits ≡ o.effects.commits → P o → P e
  silent o e i c ms cs p = record { id = i ∙ p.id; kept = rw (c, ms, cs) p.kept }

  more : (o e : Stepped) (ms : List Sent) → e.site.id ≡ o.site.id → e.site.coordinator ≡ o.site.coordinator → e.effects.messages ≡ o.effects.messages ++ ms → e.effects.commits ≡ o.effects.commits → ((m : Sent) → Has ms m → Aside x m) → P o → P e
  more o e ms i c same cs quiet p = record { id = i ∙ p.id; kept = rw (c, same, cs) (k.aside o.site.coordinator o.effects.messages ms o.effects.commits quiet p.kept) }

  at_id : (a b : ℕ) (message_to : ℕ → Message) (sites : List ℕ) → b ≡ a → ((m : Sent) → Has (letters a message_to sites) m → Aside x m) → (m : Sent) → Has (letters b message_to sites) m → Aside x m
  at_id a b message_to sites e all m h = all m (rw e at h)

  many : (o e : Stepped) (message_to : ℕ → Message) (sites : List ℕ) → e.site.id ≡ o.site.id → e.site.coordinator ≡ o.site.coordinator → e.effects.messages ≡ o.effects.messages ++ letters o.site.id message_to sites → e.effects.commits ≡ o.effects.commits → ((q : ℕ) → is_aside (message_to q) ≡ true) → P o → P e
  many o e message_to sites i c same cs quiet p = more o e (letters o.site.id message_to sites) i c same cs (at_id x.id o.site.id message_to sites p.id (letters_aside x message_to sites quiet)) p

  one : (o : Stepped) (to : ℕ) (words : Message) → is_aside words ≡ true → o.site.id ≡ x.id → o.site.coordinator ≡ x.coordinator → o.effects.messages ≡ letter x.id to words ∷ [] → o.effects.commits ≡ [] → P o
  one o to words quiet i c ms cs = more (begin_step x) o (letter x.id to words ∷ []) i c ms cs (letter_aside x to words quiet) only_begins

  ends_refresh : (r : Refreshing) (own : Stored) (o : Stepped) → P o → P (end_refresh catalogue r own o)
  unfolding end_refresh unlist
  ends_refresh r own o p = silent (judged catalogue r own o) _ refl refl refl refl (take-cases P catalogue r own o (silent o _ refl refl refl refl p) p (silent o _ refl refl refl refl p))

  ends_here : (from : ℕ) (txn : TxnId) (commit : Bool) (doubt : Option Doubt) → P (end_here from txn commit doubt (begin_step x))
  unfolding end_here
  ends_here from txn true None = one _ from (message.Ack txn) refl refl refl refl refl
  ends_here from txn false None = silent (begin_step x) _ refl refl refl refl only_begins
  ends_here from txn true (Some d) = one _ from (message.Ack txn) refl refl refl refl refl
  ends_here from txn false (Some d) = silent (begin_step x) _ refl refl refl refl only_begins

  resent : (d : Decision) (o : Stepped) → given ≡ input.Tick → Has o.site.decisions d → P o → P (put_back o (resend_one o.site.id d (lent o)))
  unfolding resend_one
  resent d o c h p = record { id = p.id; kept = subst (λ (a : ℕ). R o.site.coordinator (o.effects.messages ++ letters a (λ q. message.Outcome d.txn true) d.waiting) o.effects.commits) (sym p.id) (k.resends o.site.coordinator d o.effects.messages o.effects.commits c h p.kept) }

  own : OfCoordinator catalogue x given (Back x P)
  own = let m = k.moves in record {
    begin = λ port view e g u. record { id = refl; kept = m.begin port view e g u };
    answers = λ words port why y. record { id = refl; kept = m.answers words port why y };
    take_lock = λ t rec exclusive stored h i a v c. record { id = refl; kept = m.take_lock t rec exclusive stored h i a v c };
    complete = λ t p deed l h g y e q. record { id = refl; kept = m.complete t p deed l h g y e q.kept };
    read_at = λ t p rec q h n r a w c o y. record { id = refl; kept = m.read_at t p rec q h n r a w c o y };
    write_at = λ t p rec value l h n w a e o d y v q. record { id = refl; kept = m.write_at t p rec value l h n w a e o d y v q.kept };
    prepare_parts = λ t p h i g e. record { id = refl; kept = m.prepare_parts t p h i g e };
    still_waits = λ t p from h e g f c. record { id = refl; kept = m.still_waits t p from h e g f c };
    decide = λ t n d. record { id = refl; kept = m.decide t n d };
    close = λ t why l n a z y q. record { id = refl; kept = m.close t why l n a z y q.kept };
    mark_calls = λ l c z q. record { id = refl; kept = m.mark_calls l c z q.kept };
    acknowledge = λ from txn c w. record { id = refl; kept = m.acknowledge from txn c w };
  }

  pub only_table : Table catalogue x given P
  unfolding on_accept on_stale grant drop_view start_inviting accept hold fix ask_again start_refresh
  only_table = record {
    sends_back = λ from m t. record { id = refl; kept = k.sends_back from m t };
    asks_again = λ o ms all p. more o _ ms refl refl refl refl (λ m h. let q = all m h in record { from = q.0 ∙ p.id; aside = again_aside catalogue x given o m.to m.message q.1 }) p;
    drop_view = λ l e z p. silent (put_back (begin_step x) l) (drop_view (put_back (begin_step x) l)) refl refl refl refl p;
    start_inviting = λ o s left p. many o (start_inviting catalogue (next_view x) o) (λ q. message.Invite (next_view x)) (other_sites catalogue o.site.id) refl refl refl refl (λ q. refl) p;
    accept = λ from id o c e left p. many o (accept from id o) (λ q. message.Accept id) (from ∷ []) refl refl refl refl (λ q. refl) p;
    accepted = λ from id c. silent (begin_step x) _ refl refl refl refl only_begins;
    seen = λ from id promise c. silent (begin_step x) _ refl refl refl refl only_begins;
    hold = λ from id members c e. silent (begin_step x) _ refl refl refl refl only_begins;
    heard = λ from view c e. silent (begin_step x) _ refl refl refl refl only_begins;
    fix = λ view c e. many (begin_step x) (fix view (begin_step x)) (λ q. message.ViewCommit view.id view.members) (filter (λ q. not (q == x.id)) view.members) refl refl refl refl (λ q. refl) only_begins;
    without_wait = λ id c i w. silent (begin_step x) _ refl refl refl refl only_begins;
    probe = λ view c e. many (begin_step x) _ (λ q. message.Probe view.id) (other_sites catalogue x.id) refl refl refl refl (λ q. refl) only_begins;
    answers_inviting = λ port c s p. silent _ _ refl refl refl refl p;
    start_refresh = λ view rec o e h p. many o (start_refresh catalogue view rec o) (λ q. message.RefreshRequest view.id rec) (other_holders catalogue o.site rec) refl refl refl refl (λ q. refl) p;
    end_refresh = λ rec r own o e a d v p. ends_refresh r own o p;
    keep_answer = λ from view rec stored r c e f g. silent (begin_step x) _ refl refl refl refl only_begins;
    grant_read = λ from txn view number rec stored c e n v f u. one _ from (message.ReadAnswer txn number stored.value) refl refl refl refl refl;
    grant_write = λ from txn view number rec stored c e n v f u. one _ from (message.WriteAnswer txn number) refl refl refl refl refl;
    vote_reading = λ from txn view number reads writes part c e n d f v a w. one _ from (message.Vote part.txn) refl refl refl refl refl;
    vote_writing = λ from txn view number reads writes part c e n d f v a w. one _ from (message.Vote part.txn) refl refl refl refl refl;
    end_here = λ from txn commit c. ends_here from txn commit (doubt_of txn x.doubts);
    coordinator = own;
    resend_one = λ d o c h p. resent d o c h p;
  }
