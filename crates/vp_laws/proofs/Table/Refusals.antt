-- The refusals that a step sends: each refuses the request that came, for a bar, a conflicting lock or another view.
use Rattle.std.proofs.Common.{◌≡◌, ◌∙◌, ap, sym, ℕ, Bool, true, false, List, [], ◌∷◌, ◌++◌, refl, ⊎_elim, append-nil}
use Rattle.std.specs.Prelude.{Option, Some, None, ◌==◌, not, filter}
use Rattle.vp_model.specs.Types.{ViewId, TxnId, Stored, Owner, Obstacle, Message, Sent, Input, Refreshing, Pending, Live, Ending, Doubt, Decision}
use Rattle.vp_base.specs.declared.site.Ending.TheVariants.{Committed}
use Rattle.vp_model.specs.Types.message
use Rattle.vp_model.specs.Types.obstacle
use Rattle.vp_model.specs.Words.{value_at}
use Rattle.vp_model.specs.Catalogue.{Catalogue}
use Rattle.vp_model.specs.Durable.{doubt_of}
use Rattle.vp_model.specs.Locks.{conflict}
use Rattle.vp_model.specs.Site.{SiteState, Lent, Stepped, begin_step, lent, put_back, letters, send}
use Rattle.vp_model.specs.Transactions.{keep_writes, complete}
use Rattle.vp_model.specs.Refresh.{unlist, end_refresh, start_refresh, other_holders}
use Rattle.vp_model.specs.Views.{other_sites, drop_view, start_inviting, hold}
use Rattle.vp_model.specs.Calls.{start_txn, take_lock, read_at, write_at, prepare_parts, prepare_for}
use Rattle.vp_model.specs.Messages.{held_id, holds_view, accept, on_accept, on_stale, grant, end_here}
use Rattle.vp_model.specs.Step.{step, fix, mark_calls, ask_again, resend_one}
use Rattle.vp_laws.proofs.Lists.Members.{Has, has_none, has_one_is, has_cases, map_has}
use Rattle.vp_laws.proofs.Moves.Frames.{Ends, close-ends, decided-ends, decide-cases, judged, take-cases}
use Rattle.vp_laws.proofs.Moves.Table.{next_view, lent_at, Requests, Asks, Back, SendsBack, Table, AsksAgain}
use Rattle.vp_laws.proofs.Moves.Rows.{step-keeps}
use Rattle.vp_laws.proofs.Moves.LocalViews.{letter}

-- why the request that came from the site is refused
pub data Refused (x : SiteState) (given : Input) (from : ℕ) (txn : TxnId) (number : ℕ) : Obstacle → Type 0 where
  held : (view : ViewId) (rec : ℕ) (exclusive : Bool) (holder : Owner) → Requests given from txn view number rec exclusive → conflict rec exclusive txn x.locks ≡ Some holder → Refused x given from txn number (obstacle.Held holder)
  barred : (view : ViewId) (rec : ℕ) (exclusive : Bool) (bar : ℕ × ℕ) → Requests given from txn view number rec exclusive → holds_view x view ≡ true → value_at rec x.bars ≡ Some bar → Refused x given from txn number (obstacle.Barred bar.0 bar.1)
  other : (view : ViewId) → Asks given from txn view number → holds_view x view ≡ false → Refused x given from txn number (obstacle.OtherView (held_id x))

abbrev pub RefuseSays : SiteState → Input → ℕ → ℕ → Message → Type 0
RefuseSays x given from to (message.Refuse txn number why) = (from ≡ x.id) × Refused x given to txn number why
RefuseSays x given from to m = Unit {0}

pub record Refuses (x : SiteState) (given : Input) (o : Stepped) : Type 0 where
  pub id : o.site.id ≡ x.id
  pub sent : (m : Sent) → Has o.effects.messages m → RefuseSays x given m.from m.to m.message

abbrev is_other : Message → Bool
is_other (message.Refuse txn number why) = false
is_other m = true

unrefused : (x : SiteState) (given : Input) (from to : ℕ) (m : Message) → is_other m ≡ true → RefuseSays x given from to m
unrefused x given from to (message.Refuse txn number why) e = cc
unrefused x given from to m e = tt

module _ (catalogue : Catalogue) (x : SiteState) (given : Input) where
  abbrev P : Stepped → Type 0
  P = Refuses x given

  begins : P (begin_step x)
  begins = record { id = refl; sent = λ m h. absurd (has_none m h) }

  more : (o e : Stepped) (ms : List Sent) → e.site.id ≡ o.site.id → e.effects.messages ≡ o.effects.messages ++ ms → ((m : Sent) → Has ms m → is_other m.message ≡ true) → P o → P e
  more o e ms i same quiet p = record {
    id = i ∙ p.id;
    sent = λ m h. ⊎_elim (λ old. p.sent m old) (λ new. unrefused x given m.from m.to m.message (quiet m new)) (has_cases o.effects.messages ms m (rw same at h));
  }

  silent : (o e : Stepped) → e.site.id ≡ o.site.id → e.effects.messages ≡ o.effects.messages → P o → P e
  silent o e i same p = more o e [] i (same ∙ sym (append-nil o.effects.messages)) (λ m h. absurd (has_none m h)) p

  letters_other : (from : ℕ) (message_to : ℕ → Message) (sites : List ℕ) → ((q : ℕ) → is_other (message_to q) ≡ true) → (m : Sent) → Has (letters from message_to sites) m → is_other m.message ≡ true
  letters_other from message_to sites quiet m h = let r = map_has (λ (q : ℕ). letter from q (message_to q)) sites m h in rw (sym (ap (λ (m : Sent). m.message) r.2)) (quiet r.0)

  many : (o e : Stepped) (from : ℕ) (message_to : ℕ → Message) (sites : List ℕ) → e.site.id ≡ o.site.id → e.effects.messages ≡ o.effects.messages ++ letters from message_to sites → ((q : ℕ) → is_other (message_to q) ≡ true) → P o → P e
  many o e from message_to sites i same quiet p = more o e (letters from message_to sites) i same (letters_other from message_to sites quiet) p

  one : (o : Stepped) (to : ℕ) (words : Message) → is_other words ≡ true → o.site.id ≡ x.id → o.effects.messages ≡ letter x.id to words ∷ [] → P o
  one o to words quiet i ms = more (begin_step x) o (letter x.id to words ∷ []) i ms (λ m h. rw (sym (ap (λ (m : Sent). m.message) (has_one_is (letter x.id to words) m h))) quiet) begins

  refusal : (o : Stepped) (to : ℕ) (txn : TxnId) (number : ℕ) (why : Obstacle) → Refused x given to txn number why → o.site.id ≡ x.id → o.effects.messages ≡ letter x.id to (message.Refuse txn number why) ∷ [] → P o
  refusal o to txn number why r i ms = record {
    id = i;
    sent = λ m h. rw (← has_one_is (letter x.id to (message.Refuse txn number why)) m (rw ms at h)) (refl, r);
  }

  ends_refresh : (r : Refreshing) (own : Stored) (o : Stepped) → P o → P (end_refresh catalogue r own o)
  unfolding end_refresh unlist
  ends_refresh r own o p = silent (judged catalogue r own o) _ refl refl (take-cases P catalogue r own o (silent o _ refl refl p) p (silent o _ refl refl p))

  ends_here : (from : ℕ) (txn : TxnId) (commit : Bool) (doubt : Option Doubt) → P (end_here from txn commit doubt (begin_step x))
  unfolding end_here
  ends_here from txn true None = one _ from (message.Ack txn) refl refl refl
  ends_here from txn false None = silent (begin_step x) _ refl refl begins
  ends_here from txn true (Some d) = one _ from (message.Ack txn) refl refl refl
  ends_here from txn false (Some d) = silent (begin_step x) _ refl refl begins

  resent : (d : Decision) (o : Stepped) → P o → P (put_back o (resend_one o.site.id d (lent o)))
  unfolding resend_one
  resent d o p = many o _ o.site.id (λ q. message.Outcome d.txn true) d.waiting refl refl (λ q. refl) p

  abbrev K : Lent → Type 0
  K = Back x P

  hushed : (l now : Lent) → now.effects.messages ≡ l.effects.messages → K l → K now
  hushed l now same q = silent (put_back (begin_step x) l) (put_back (begin_step x) now) refl same q

  says : (l now : Lent) (message_to : ℕ → Message) (sites : List ℕ) → now.effects.messages ≡ l.effects.messages ++ letters x.id message_to sites → ((q : ℕ) → is_other (message_to q) ≡ true) → K l → K now
  says l now message_to sites same quiet q = many (put_back (begin_step x) l) (put_back (begin_step x) now) x.id message_to sites refl same quiet q

  ends : (t : Live) (why : Ending) (commit : Bool) (l now : Lent) → Ends x.id t why commit l now → K l → K now
  ends t why commit l now e q = says l now (λ q. message.Outcome t.txn commit) t.parts e.messages (λ q. refl) q

  keeps_writes : (t : Live) → K (keep_writes catalogue x.id t (lent_at x))
  unfolding keep_writes
  keeps_writes t = hushed (lent_at x) _ refl begins

  writes_at : (t : Live) (p : Pending) (rec : ℕ) (sites : List ℕ) (l : Lent) → K l → K (write_at x.id t p rec sites l)
  unfolding write_at
  writes_at t p rec sites l q = says l _ (λ q. message.WriteRequest t.txn t.view p.number rec) sites refl (λ q. refl) q

  sent_back : (from : ℕ) (m : Message) → SendsBack x given from m → P (send m from (begin_step x))
  sent_back from _ (SendsBack.refuse_view txn view number a e) = refusal _ from txn number (obstacle.OtherView (held_id x)) (Refused.other view a e) refl refl
  sent_back from _ (SendsBack.refuse_lock txn view number rec exclusive holder r e n c) = refusal _ from txn number (obstacle.Held holder) (Refused.held view rec exclusive holder r c) refl refl
  sent_back from _ (SendsBack.refuse_bar txn view number rec exclusive bar r e n b) = refusal _ from txn number (obstacle.Barred bar.0 bar.1) (Refused.barred view rec exclusive bar r e b) refl refl
  sent_back from m t = one _ from m refl refl refl

  again_other : (o : Stepped) (to : ℕ) (m : Message) → AsksAgain catalogue x given o to m → is_other m ≡ true
  again_other o to _ (AsksAgain.refresh view r e h v q) = refl
  again_other o to m a = refl

  table : Table catalogue x given P
  unfolding on_accept on_stale grant drop_view start_inviting accept hold fix ask_again start_refresh start_txn take_lock read_at prepare_parts complete mark_calls
  table = record {
    sends_back = λ from m t. sent_back from m t;
    asks_again = λ o ms all p. more o _ ms refl refl (λ m h. again_other o m.to m.message (all m h).1) p;
    drop_view = λ l e z p. silent (put_back (begin_step x) l) (drop_view (put_back (begin_step x) l)) refl refl p;
    start_inviting = λ o s left p. many o (start_inviting catalogue (next_view x) o) o.site.id (λ q. message.Invite (next_view x)) (other_sites catalogue o.site.id) refl refl (λ q. refl) p;
    accept = λ from id o c e left p. many o (accept from id o) o.site.id (λ q. message.Accept id) (from ∷ []) refl refl (λ q. refl) p;
    accepted = λ from id c. silent (begin_step x) _ refl refl begins;
    seen = λ from id promise c. silent (begin_step x) _ refl refl begins;
    hold = λ from id members c e. silent (begin_step x) _ refl refl begins;
    heard = λ from view c e. silent (begin_step x) _ refl refl begins;
    fix = λ view c e. many (begin_step x) (fix view (begin_step x)) x.id (λ q. message.ViewCommit view.id view.members) (filter (λ q. not (q == x.id)) view.members) refl refl (λ q. refl) begins;
    without_wait = λ id c i w. silent (begin_step x) _ refl refl begins;
    probe = λ view c e. many (begin_step x) _ x.id (λ q. message.Probe view.id) (other_sites catalogue x.id) refl refl (λ q. refl) begins;
    answers_inviting = λ port c s p. silent _ _ refl refl p;
    start_refresh = λ view rec o e h p. many o (start_refresh catalogue view rec o) o.site.id (λ q. message.RefreshRequest view.id rec) (other_holders catalogue o.site rec) refl refl (λ q. refl) p;
    end_refresh = λ rec r own o e a d v p. ends_refresh r own o p;
    keep_answer = λ from view rec stored r c e f g. silent (begin_step x) _ refl refl begins;
    grant_read = λ from txn view number rec stored c e n v f u. one _ from (message.ReadAnswer txn number stored.value) refl refl refl;
    grant_write = λ from txn view number rec stored c e n v f u. one _ from (message.WriteAnswer txn number) refl refl refl;
    vote_reading = λ from txn view number reads writes part c e n d f v a w. one _ from (message.Vote part.txn) refl refl refl;
    vote_writing = λ from txn view number reads writes part c e n d f v a w. one _ from (message.Vote part.txn) refl refl refl;
    end_here = λ from txn commit c. ends_here from txn commit (doubt_of txn x.doubts);
    coordinator = record {
      begin = λ port view e g u. hushed (lent_at x) _ refl begins;
      answers = λ words port why y. hushed (lent_at x) _ refl begins;
      take_lock = λ t rec exclusive stored h i a v c. hushed (lent_at x) _ refl begins;
      complete = λ t p deed l h g y e q. hushed l _ refl q;
      read_at = λ t p rec q h n r a w c o y. one _ q (message.ReadRequest t.txn t.view p.number rec) refl refl refl;
      write_at = λ t p rec value l h n w a e o d y v q. writes_at t p rec (other_holders catalogue x rec) l q;
      prepare_parts = λ t p h i g e. says (lent_at x) _ (prepare_for catalogue t p) t.parts refl (λ q. refl) begins;
      still_waits = λ t p from h e m f c. hushed (lent_at x) _ refl begins;
      decide = λ t n d. decide-cases K catalogue x.id t (lent_at x) (λ e. ends t Committed true _ _ (decided-ends x.id t (lent_at x)) begins) (λ e. ends t Committed true _ _ (decided-ends x.id t _) (keeps_writes t));
      close = λ t why l n a z y q. ends t why false l _ (close-ends x.id t why l) q;
      mark_calls = λ l c z q. hushed l _ refl q;
      acknowledge = λ from txn c w. hushed (lent_at x) _ refl begins;
    };
    resend_one = λ d o c h p. resent d o p;
  }

pub refusals-step : (catalogue : Catalogue) (x : SiteState) (given : Input) → Refuses x given (step catalogue x given)
refusals-step catalogue x given = step-keeps catalogue x given (Refuses x given) (table catalogue x given) (begins catalogue x given)
