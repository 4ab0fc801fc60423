-- What a step replies: an end of a transaction that it decides or closes now, or that has ended before; and each entry is replied.
use Rattle.std.proofs.Common.{◌≡◌, ◌∙◌, map, append-nil, ap, sym, subst, ℕ, Bool, true, false, List, [], ◌∷◌, ◌++◌, refl, ⊎_elim}
use Rattle.std.specs.Prelude.{Option, Some, None}
use Rattle.vp_model.specs.Types.{TxnId, Commit, Input, Stored, Effects, Answer, Reply, Pending, Live, Ending, Refreshing, Doubt}
use Rattle.vp_base.specs.declared.site.Ending.TheVariants.{Committed}
use Rattle.vp_model.specs.Types.answer
use Rattle.vp_model.specs.Types.op
use Rattle.vp_model.specs.Words.{without_first}
use Rattle.vp_model.specs.Catalogue.{Catalogue}
use Rattle.vp_model.specs.Durable.{doubt_of}
use Rattle.vp_model.specs.Site.{reply, CoordinatorState, SiteState, Lent, Stepped, begin_step, put_back}
use Rattle.vp_model.specs.Transactions.{deed_answer, Deed, entry_of, answer_of, with_pending_reply, finish, close, keep_writes, decided, decide, complete}
use Rattle.vp_model.specs.Refresh.{unlist, end_refresh, start_refresh}
use Rattle.vp_model.specs.Views.{drop_view, start_inviting, invite, hold}
use Rattle.vp_model.specs.Calls.{start_txn, take_lock, read_at, write_at, prepare_parts}
use Rattle.vp_model.specs.Messages.{accept, on_accept, on_stale, grant, end_here}
use Rattle.vp_model.specs.Step.{fix, mark, mark_calls, ask_again, resend_one, inquire, step}
use Rattle.vp_laws.proofs.Lists.Members.{Has, has_none, has_one, has_one_is, has_cases, has_left, map_has}
use Rattle.vp_laws.proofs.Lists.Names.{Apart, named, without_gone}
use Rattle.vp_laws.proofs.Lists.Changes.{without_first_has}
use Rattle.vp_laws.proofs.Moves.Frames.{close-ends, close-commits, decided-commits, decide-cases, judged, take-cases}
use Rattle.vp_laws.proofs.Moves.Table.{next_view, lent_at, Handled, IsNext, Completes, Decides, is_abort, is_end, Replies, Answered, Back, Table}
use Rattle.vp_laws.proofs.Table.Led.{Led}
use Rattle.vp_laws.proofs.Table.Endings.{NotLive, WasLive}
use Rattle.vp_laws.proofs.Moves.OnlyCoordinator.{OnCoordinator, only_table, only_begins}
use Rattle.vp_laws.proofs.Table.Steps.{Steps, completes_effects, locked_effects, keeps as steps_keeps}
use Rattle.vp_laws.proofs.Moves.Rows.{step-keeps}

-- why an answer is given
pub data Said (x : SiteState) (given : Input) (live : List Live) (cs : List Commit) (a : Answer) : Type 0 where
  nothing : Replies x a → Said x given live cs a
  unable : (t : Live) (p : Pending) (name : List ℕ) (inside total : ℕ) → Has x.live t → IsNext given t p → cs ≡ [] → answer.Inaccessible t.txn p.number name inside total ≡ a → Said x given live cs a
  commits : (e : Commit) (number : ℕ) → Has cs e → answer.Committed e.txn number ≡ a → Said x given live cs a
  ended : (txn : TxnId) (number : ℕ) (why : Ending) → WasLive x txn → NotLive live txn → is_abort why ≡ true → cs ≡ [] → answer_of txn number why ≡ a → Said x given live cs a

-- an entry is replied
abbrev pub IsReplied : List Reply → Commit → Type 0
IsReplied replies e = (r : Reply) × (number : ℕ) × Has replies r × (answer.Committed e.txn number ≡ r.answer)

pub record Replying (x : SiteState) (given : Input) (live : List Live) (cs : List Commit) (replies : List Reply) : Type 0 where
  pub said : (r : Reply) → Has replies r → Said x given live cs r.answer
  pub entered : (e : Commit) → Has cs e → IsReplied replies e

said_fewer : (x : SiteState) (given : Input) (live now : List Live) (cs : List Commit) (a : Answer) → ((txn : TxnId) → NotLive live txn → NotLive now txn) → Said x given live cs a → Said x given now cs a
said_fewer x given live now cs a sub (Said.nothing r) = Said.nothing r
said_fewer x given live now cs a sub (Said.unable t p name inside total h next quiet is) = Said.unable t p name inside total h next quiet is
said_fewer x given live now cs a sub (Said.commits e number h is) = Said.commits e number h is
said_fewer x given live now cs a sub (Said.ended txn number why was none abort quiet is) = Said.ended txn number why was (sub txn none) abort quiet is

-- a transaction that ends with a pending call is told its end
with_pending : TxnId → Ending → Option Pending → List Reply
with_pending txn why None = []
with_pending txn why (Some p) = (record { to = p.port; answer = answer_of txn p.number why }) ∷ []

pending_is : (txn : TxnId) (why : Ending) (p : Option Pending) (r : Reply) → Has (with_pending txn why p) r → (number : ℕ) × (answer_of txn number why ≡ r.answer)
unfolding with_pending
pending_is txn why None r h = absurd (has_none r h)
pending_is txn why (Some p) r h = (p.number, ap (λ (r : Reply). r.answer) (has_one_is _ r h))

reply_replies : (txn : TxnId) (why : Ending) (p : Option Pending) (e : Effects) → (with_pending_reply txn why p e).replies ≡ e.replies ++ with_pending txn why p
unfolding with_pending
reply_replies txn why None e = sym (append-nil e.replies)
reply_replies txn why (Some p) e = refl

close_replies : (id : ℕ) (t : Live) (why : Ending) (l : Lent) → (close id t why l).effects.replies ≡ l.effects.replies ++ with_pending t.txn why t.pending
unfolding close finish
close_replies id t why l = reply_replies t.txn why t.pending _

decided_replies : (id : ℕ) (t : Live) (l : Lent) → (decided id t l).effects.replies ≡ l.effects.replies ++ with_pending t.txn Committed t.pending
unfolding decided finish
decided_replies id t l = reply_replies t.txn Committed t.pending _

-- what a call that is done is told is no end
deed_no_end : (txn : TxnId) (number : ℕ) (deed : Deed) → is_end (deed_answer txn number deed) ≡ false
deed_no_end txn number (Deed.operates (op.Read rec None)) = refl
deed_no_end txn number (Deed.operates (op.Read rec (Some value))) = refl
deed_no_end txn number (Deed.operates (op.Write rec None)) = refl
deed_no_end txn number (Deed.operates (op.Write rec (Some value))) = refl
deed_no_end txn number (Deed.weighs rec table) = refl

module _ (catalogue : Catalogue) (x : SiteState) (given : Input) (led : Led x) (apart : Apart x.live) where
  abbrev S : Stepped → Type 0
  S = OnCoordinator catalogue x given (Steps catalogue x given)

  abbrev b : Table catalogue x given S
  b = only_table catalogue x given (Steps catalogue x given) (steps_keeps catalogue x given led apart)

  pub record P (o : Stepped) : Type 0 where
    pub base : S o
    pub replying : Replying x given o.site.live o.effects.commits o.effects.replies

  none_yet : (live : List Live) → Replying x given live [] []
  none_yet live = record { said = λ r h. absurd (has_none r h); entered = λ e h. absurd (has_none e h) }

  starts : P (begin_step x)
  starts = record { base = only_begins catalogue x given (Steps catalogue x given) (steps_keeps catalogue x given led apart); replying = none_yet x.live }

  -- the same transactions, entries and replies
  silent : (o e : Stepped) → S e → e.site.coordinator ≡ o.site.coordinator → e.effects.commits ≡ o.effects.commits → e.effects.replies ≡ o.effects.replies → P o → P e
  silent o e base c cs rs p = record { base = base; replying = rw (ap (λ (c : CoordinatorState). c.live) c, cs, rs) p.replying }

  -- no reply so far
  quiet : (e : Stepped) → S e → e.effects.commits ≡ [] → e.effects.replies ≡ [] → P e
  quiet e base cs rs = record { base = base; replying = rw (cs, rs) (none_yet e.site.live) }

  said_as : (live : List Live) (words : Answer) → Answered x given words → Said x given live [] words
  said_as live words (Answered.replies r) = Said.nothing r
  said_as live words (Answered.unable t p name inside total h next is) = Said.unable t p name inside total h next refl is

  -- one reply that changes nothing
  one : (e : Stepped) (r : Reply) → S e → e.effects.commits ≡ [] → e.effects.replies ≡ r ∷ [] → Answered x given r.answer → P e
  one e r base cs rs why = record { base = base; replying = rw (cs, rs) (record { said = λ q h. said_as e.site.live q.answer (subst (λ (r : Reply). Answered x given r.answer) (has_one_is r q h) why); entered = λ c h. absurd (has_none c h) }) }

  abbrev K : Lent → Type 0
  K = Back x P

  closes : (t : Live) (why : Ending) (l : Lent) → S (put_back (begin_step x) (close x.id t why l)) → Handled x t → is_abort why ≡ true → l.effects.commits ≡ [] → K l → K (close x.id t why l)
  closes t why l base n abort none p =
      let e = close-ends x.id t why l in
      let same : (close x.id t why l).live ≡ without_first (named t.txn) l.live = ap (λ (c : CoordinatorState). c.live) e.coordinator in
      let cs : (close x.id t why l).effects.commits ≡ [] = close-commits x.id t why l ∙ none in
      record {
        base = base;
        replying = rw (same, cs, close_replies x.id t why l) (record {
          said = λ r h. ⊎_elim
              (λ old. said_fewer x given l.live (without_first (named t.txn) l.live) [] r.answer (λ txn gone u k. gone u (without_first_has (named t.txn) l.live u k)) (subst (λ (cs : List Commit). Said x given l.live cs r.answer) none (p.replying.said r old)))
              (λ new. let q = pending_is t.txn why t.pending r new in
              Said.ended t.txn q.0 why (n.was, n.live, sym (ap (λ (t : Live). t.txn) n.same)) (λ u k. without_gone t.txn l.live p.base.kept.apart u k) abort refl q.1)
              (has_cases l.effects.replies (with_pending t.txn why t.pending) r h);
          entered = λ c h. absurd (has_none c h);
        });
      }

  pending_there : (t : Live) → Decides catalogue x given t → (p : Pending) × (t.pending ≡ Some p)
  pending_there t (Decides.alone was p here next commit alone same) = (p, ap (λ (t : Live). t.pending) same)
  pending_there t (Decides.voted p from here last comes commit) = (p, last.pending)

  decides : (t : Live) → Decides catalogue x given t → S (put_back (begin_step x) (decide catalogue x.id t (lent_at x))) → K (decide catalogue x.id t (lent_at x))
  unfolding keep_writes with_pending
  decides t d base = record {
    base = base;
    replying = decide-cases (λ (l : Lent). Replying x given l.live l.effects.commits l.effects.replies) catalogue x.id t (lent_at x)
        (λ none. entering (lent_at x) (decided x.id t (lent_at x)) (decided-commits x.id t (lent_at x)) (decided_replies x.id t (lent_at x)) refl refl)
        (λ some. entering (keep_writes catalogue x.id t (lent_at x)) (decided x.id t (keep_writes catalogue x.id t (lent_at x))) (decided-commits x.id t (keep_writes catalogue x.id t (lent_at x))) (decided_replies x.id t (keep_writes catalogue x.id t (lent_at x))) refl refl);
  }
    where
      entry : Commit
      entry = entry_of t

      entering : (l now : Lent) → now.effects.commits ≡ l.effects.commits ++ entry ∷ [] → now.effects.replies ≡ l.effects.replies ++ with_pending t.txn Committed t.pending → l.effects.commits ≡ [] → l.effects.replies ≡ [] → Replying x given now.live now.effects.commits now.effects.replies
      entering l now cs rs none quiet =
          let q = pending_there t d in
          let r : Reply = record { to = q.0.port; answer = answer.Committed t.txn q.0.number } in
          let all : now.effects.replies ≡ r ∷ [] = rs ∙ ap (λ (rs : List Reply). rs ++ with_pending t.txn Committed t.pending) quiet ∙ ap (λ (p : Option Pending). with_pending t.txn Committed p) q.1 in
          let one : now.effects.commits ≡ entry ∷ [] = cs ∙ ap (λ (cs : List Commit). cs ++ entry ∷ []) none in
          rw (all, one) (record {
            said = λ a h. Said.commits entry q.0.number (has_one entry) (ap (λ (r : Reply). r.answer) (has_one_is r a h));
            entered = λ c h. (r, q.0.number, has_one r, ap (λ (c : Commit). answer.Committed c.txn q.0.number) (sym (has_one_is entry c h)));
          })

  marks : (l : Lent) → S (put_back (begin_step x) (mark_calls l)) → K l → K (mark_calls l)
  unfolding mark_calls
  marks l base p = record {
    base = base;
    replying = record {
      said = λ r h. said_fewer x given l.live (map mark l.live) l.effects.commits r.answer (λ txn gone u k. let q = map_has mark l.live u k in (λ same. gone q.0 q.1 (ap (λ (t : Live). t.txn) q.2 ∙ same))) (p.replying.said r h);
      entered = p.replying.entered;
    };
  }

  pub completed_words : (t : Live) (p : Pending) (deed : Deed) (l : Lent) → Completes catalogue x given t p deed l → is_end (deed_answer t.txn p.number deed) ≡ false
  completed_words t p deed l c = deed_no_end t.txn p.number deed

  completes : (t : Live) (p : Pending) (deed : Deed) (l : Lent) → S (put_back (begin_step x) (complete t p deed l)) → Completes catalogue x given t p deed l → K (complete t p deed l)
  unfolding complete
  completes t p deed l base g =
      let e = completes_effects catalogue x given t p deed l g in
      let words = deed_answer t.txn p.number deed in
      one _ (record { to = p.port; answer = words }) base (ap (λ (e : Effects). e.commits) e) (ap (λ (e : Effects). e.replies ++ (record { to = p.port; answer = words }) ∷ []) e) (Answered.replies (Replies.other (completed_words t p deed l g)))

  -- a refresh ends: the same replies
  same_taken : (r : Refreshing) (own : Stored) (o : Stepped) → ((judged catalogue r own o).site.coordinator ≡ o.site.coordinator) × ((judged catalogue r own o).effects.commits ≡ o.effects.commits) × ((judged catalogue r own o).effects.replies ≡ o.effects.replies)
  same_taken r own o = take-cases (λ (e : Stepped). (e.site.coordinator ≡ o.site.coordinator) × (e.effects.commits ≡ o.effects.commits) × (e.effects.replies ≡ o.effects.replies)) catalogue r own o (refl, refl, refl) (refl, refl, refl) (refl, refl, refl)

  ends_refresh : (r : Refreshing) (own : Stored) (o : Stepped) → S (end_refresh catalogue r own o) → P o → P (end_refresh catalogue r own o)
  unfolding end_refresh unlist
  ends_refresh r own o base p = let q = same_taken r own o in silent o _ base q.0 q.1 q.2 p

  ends_here : (from : ℕ) (txn : TxnId) (commit : Bool) (doubt : Option Doubt) → S (end_here from txn commit doubt (begin_step x)) → P (end_here from txn commit doubt (begin_step x))
  unfolding end_here
  ends_here from txn true None base = quiet _ base refl refl
  ends_here from txn false None base = quiet _ base refl refl
  ends_here from txn true (Some d) base = quiet _ base refl refl
  ends_here from txn false (Some d) base = quiet _ base refl refl

  told_inviting : (port : ℕ) → S (reply (answer.Inviting (next_view x)) port (invite catalogue (begin_step x))) → P (invite catalogue (begin_step x)) → P (reply (answer.Inviting (next_view x)) port (invite catalogue (begin_step x)))
  told_inviting port base p = record {
    base = base;
    replying = record {
      said = λ r h. ⊎_elim
          (λ old. p.replying.said r old)
          (λ new. Said.nothing (subst (λ (r : Reply). Replies x r.answer) (has_one_is (record { to = port; answer = answer.Inviting (next_view x) }) r new) (Replies.other refl)))
          (has_cases (invite catalogue (begin_step x)).effects.replies ((record { to = port; answer = answer.Inviting (next_view x) }) ∷ []) r h);
      entered = λ e h. let q = p.replying.entered e h in (q.0, q.1, has_left _ _ q.0 q.2, q.3);
    };
  }

  pub table : Table catalogue x given P
  unfolding drop_view on_stale on_accept hold fix ask_again start_inviting accept grant start_refresh resend_one inquire start_txn take_lock read_at write_at prepare_parts
  table = record {
    sends_back = λ from m t. quiet _ (b.sends_back from m t) refl refl;
    asks_again = λ o ms all p. silent o _ (b.asks_again o ms all p.base) refl refl refl p;
    drop_view = λ l e z p. silent (put_back (begin_step x) l) _ (b.drop_view l e z p.base) refl refl refl p;
    start_inviting = λ o s l p. silent o _ (b.start_inviting o s l p.base) refl refl refl p;
    accept = λ from id o c e l p. silent o _ (b.accept from id o c e l p.base) refl refl refl p;
    accepted = λ from id c. quiet _ (b.accepted from id c) refl refl;
    seen = λ from id promise c. quiet _ (b.seen from id promise c) refl refl;
    hold = λ from id members c e. quiet _ (b.hold from id members c e) refl refl;
    heard = λ from view c e. quiet _ (b.heard from view c e) refl refl;
    fix = λ view c e. quiet _ (b.fix view c e) refl refl;
    without_wait = λ id c i w. quiet _ (b.without_wait id c i w) refl refl;
    probe = λ view c e. quiet _ (b.probe view c e) refl refl;
    answers_inviting = λ port c s p. told_inviting port (b.answers_inviting port c s p.base) p;
    start_refresh = λ view rec o e h p. silent o _ (b.start_refresh view rec o e h p.base) refl refl refl p;
    end_refresh = λ rec r own o e a d v p. ends_refresh r own o (b.end_refresh rec r own o e a d v p.base) p;
    keep_answer = λ from view rec stored r c e f g. quiet _ (b.keep_answer from view rec stored r c e f g) refl refl;
    grant_read = λ from txn view number rec stored c e n v f u. quiet _ (b.grant_read from txn view number rec stored c e n v f u) refl refl;
    grant_write = λ from txn view number rec stored c e n v f u. quiet _ (b.grant_write from txn view number rec stored c e n v f u) refl refl;
    vote_reading = λ from txn view number reads writes part c e n d f v a w. quiet _ (b.vote_reading from txn view number reads writes part c e n d f v a w) refl refl;
    vote_writing = λ from txn view number reads writes part c e n d f v a w. quiet _ (b.vote_writing from txn view number reads writes part c e n d f v a w) refl refl;
    end_here = λ from txn commit c. ends_here from txn commit (doubt_of txn x.doubts) (b.end_here from txn commit c);
    coordinator = let m = b.coordinator in record {
      begin = λ port view e g u. one _ _ (m.begin port view e g u) refl refl (Answered.replies (Replies.other refl));
      answers = λ words port why y. one _ _ (m.answers words port why y) refl refl why;
      take_lock = λ t rec exclusive stored h i a v c. quiet _ (m.take_lock t rec exclusive stored h i a v c) refl refl;
      complete = λ t p deed l h g y e q. completes t p deed l (m.complete t p deed l h g y e q.base) g;
      read_at = λ t p rec q h n r a w c o y. quiet _ (m.read_at t p rec q h n r a w c o y) refl refl;
      write_at = λ t p rec value l h n w a e o d y v q. let f = locked_effects x t rec l d in quiet _ (m.write_at t p rec value l h n w a e o d y v q.base) (ap (λ (e : Effects). e.commits) f) (ap (λ (e : Effects). e.replies) f);
      prepare_parts = λ t p h i g e. quiet _ (m.prepare_parts t p h i g e) refl refl;
      still_waits = λ t p from h e g f c. quiet _ (m.still_waits t p from h e g f c) refl refl;
      decide = λ t n d. decides t d (m.decide t n d);
      close = λ t why l n a z y q. closes t why l (m.close t why l n a z y q.base) n a z q;
      mark_calls = λ l c z q. marks l (m.mark_calls l c z q.base) q;
      acknowledge = λ from txn c w. quiet _ (m.acknowledge from txn c w) refl refl;
    };
    resend_one = λ d o c h p. silent o _ (b.resend_one d o c h p.base) refl refl refl p;
  }

pub replies-step : (catalogue : Catalogue) (x : SiteState) (given : Input) → Led x → Apart x.live → Replying x given (step catalogue x given).site.live (step catalogue x given).effects.commits (step catalogue x given).effects.replies
replies-step catalogue x given led apart = (step-keeps catalogue x given (P catalogue x given led apart) (table catalogue x given led apart) (starts catalogue x given led apart)).replying
