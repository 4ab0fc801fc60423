-- Which records are under refresh after a step: each has a copy here, and was under refresh before or is of a view that is joined now.
use Rattle.std.proofs.Common.{◌≡◌, ◌≢◌, ◌⊎◌, ◌∙◌, ap, sym, subst, ℕ, Bool, true, false, cond, List, [], map, refl, ⊎_elim}
use Rattle.std.specs.Prelude.{Option, Some, None, filter, not, ◌==◌, nat_lt}
use Rattle.vp_model.specs.Types.{TxnId, View, Input, Stored, Live, Ending, Refreshing, Doubt}
use Rattle.vp_model.specs.Words.{put_at, keys}
use Rattle.vp_model.specs.Catalogue.{Catalogue}
use Rattle.vp_model.specs.Locks.{without_guard}
use Rattle.vp_model.specs.Durable.{doubt_of}
use Rattle.vp_model.specs.Site.{Here, SiteState, Lent, Stepped, begin_step, put_back}
use Rattle.vp_model.specs.Transactions.{last_changes, entry_of, writes_held, close, keep_writes, decide, complete}
use Rattle.vp_model.specs.Refresh.{newest, unlist, end_refresh, start_refresh}
use Rattle.vp_model.specs.Views.{drop_view, start_inviting, hold}
use Rattle.vp_model.specs.Calls.{start_txn, take_lock, read_at, write_at, prepare_parts}
use Rattle.vp_model.specs.Messages.{with_answer, accept, on_accept, on_stale, grant, end_here}
use Rattle.vp_model.specs.Step.{fix, mark_calls, ask_again, resend_one, inquire, step}
use Rattle.vp_laws.proofs.Lists.Members.{Has, has_none, map_has, filter_has, both_true}
use Rattle.vp_laws.proofs.Lists.Changes.{put_has}
use Rattle.vp_laws.proofs.Lists.Views.{is_view_is}
use Rattle.vp_laws.proofs.Moves.Frames.{close-ends, decided-ends, decide-cases, judged, take-cases}
use Rattle.vp_laws.proofs.Moves.LocalViews.{Tidy, none_refreshed}
use Rattle.vp_laws.proofs.Moves.Table.{Left, Joined, lent_at, Back, Table}
use Rattle.vp_laws.proofs.Moves.Rows.{step-keeps}
use Rattle.vp_records.proofs.Held.{replaced_keys, written_keys}

-- none of the records under refresh is this one
abbrev pub IsUnlisted : List Refreshing → ℕ → Type 0
IsUnlisted refresh rec = (r : Refreshing) → Has refresh r → r.rec ≢ rec

-- it was under refresh in the same view, or the view was joined now
pub data ListedNow (x : SiteState) (o : Stepped) (rec : ℕ) : Type 0 where
  still : (r : Refreshing) → Has x.refresh r → r.rec ≡ rec → o.site.held ≡ x.held → ListedNow x o rec
  joined : (view : View) → o.site.held ≡ Some view → (x.waiting ≡ Some view.id) ⊎ (x.inviting ≡ Some (view.id, view.members)) → ListedNow x o rec

pub record Listing (catalogue : Catalogue) (x : SiteState) (given : Input) (o : Stepped) : Type 0 where
  -- no record gets its first copy here
  pub copied : keys o.site.copies ≡ keys x.copies
  -- what is under refresh has a copy here
  pub listed : (r : Refreshing) → Has o.site.refresh r → Has (keys x.copies) r.rec
  -- since when
  pub since : (r : Refreshing) → Has o.site.refresh r → ListedNow x o r.rec

module _ (catalogue : Catalogue) (x : SiteState) (given : Input) (tidy : Tidy x) (held_then : (r : Refreshing) → Has x.refresh r → (v : View) × (x.held ≡ Some v)) (all : (r : Refreshing) → Has x.refresh r → Has (keys x.copies) r.rec) where
  abbrev P : Stepped → Type 0
  P = Listing catalogue x given

  pub starts : P (begin_step x)
  starts = record { copied = refl; listed = all; since = λ r h. ListedNow.still r h refl refl }

  since_on : (o e : Stepped) (rec : ℕ) → e.site.held ≡ o.site.held → ListedNow x o rec → ListedNow x e rec
  since_on o e rec v (ListedNow.still r h is same_view) = ListedNow.still r h is (v ∙ same_view)
  since_on o e rec v (ListedNow.joined view now origin) = ListedNow.joined view (v ∙ now) origin

  -- the same records in the same view
  fewer : (o e : Stepped) → e.site.held ≡ o.site.held → keys e.site.copies ≡ keys o.site.copies → ((r : Refreshing) → Has e.site.refresh r → (q : Refreshing) × Has o.site.refresh q × (q.rec ≡ r.rec)) → P o → P e
  fewer o e v c sub p = record {
    copied = c ∙ p.copied;
    listed = λ r h. let q = sub r h in subst (Has (keys x.copies)) q.2 (p.listed q.0 q.1);
    since = λ r h. let q = sub r h in since_on o e r.rec v (subst (ListedNow x o) q.2 (p.since q.0 q.1));
  }

  same : (o e : Stepped) → e.site.held ≡ o.site.held → keys e.site.copies ≡ keys o.site.copies → e.site.refresh ≡ o.site.refresh → P o → P e
  same o e v c r p = fewer o e v c (λ q h. (q, rw r at h, refl)) p

  -- or no record is under refresh
  fresh : (o e : Stepped) → keys e.site.copies ≡ keys o.site.copies → ((r : Refreshing) → Has e.site.refresh r → ⊥) → P o → P e
  fresh o e c none p = record { copied = c ∙ p.copied; listed = λ q h. absurd (none q h); since = λ q h. absurd (none q h) }

  drops : (l : Lent) → P (put_back (begin_step x) l) → P (drop_view (put_back (begin_step x) l))
  unfolding drop_view
  drops l p = fresh (put_back (begin_step x) l) (drop_view (put_back (begin_step x) l)) refl (λ r h. has_none r h) p

  left_none : (o : Stepped) → Left x o → (r : Refreshing) → Has o.site.refresh r → ⊥
  left_none o l r h = has_none r (rw l.refresh at h)

  takes : (r : Refreshing) (own : Stored) (o : Stepped) → P o → P (judged catalogue r own o)
  takes r own o p = take-cases P catalogue r own o (same o _ refl (replaced_keys r.rec (newest own r.answers) o.site.copies) refl p) p (same o _ refl refl refl p)

  finishes : (r : Refreshing) (own : Stored) (o : Stepped) → P o → P (end_refresh catalogue r own o)
  unfolding end_refresh unlist
  finishes r own o p = removes (judged catalogue r own o) (takes r own o p)
    where
      removes : (n : Stepped) → P n → P (record n { site = record n.site { here = record n.site.here { locks = without_guard r.rec n.site.locks }; refresh = filter (λ other. not (other.rec == r.rec)) n.site.refresh } })
      removes n g = fewer n _ refl refl (λ q h. (q, (filter_has (λ (other : Refreshing). not (other.rec == r.rec)) n.site.refresh q h).0, refl)) g

  refreshes : (view : View) (rec : ℕ) (o : Stepped) → Joined x view o → Has (keys o.site.copies) rec → P o → P (start_refresh catalogue view rec o)
  unfolding start_refresh
  refreshes view rec o j there p = record {
    copied = p.copied;
    listed = λ r h. ⊎_elim
        (λ (new : r ≡ record { rec = rec; answers = [] }). subst (Has (keys x.copies)) (sym (ap (λ (r : Refreshing). r.rec) new)) (subst (λ (ks : List ℕ). Has ks rec) p.copied there))
        (λ old. p.listed r old)
        (put_has (λ (a : Refreshing) (b : Refreshing). a.rec == b.rec) (λ (a : Refreshing) (b : Refreshing). nat_lt a.rec b.rec) (record { rec = rec; answers = [] }) o.site.refresh r h);
    since = λ r h. ListedNow.joined view j.held j.origin;
  }

  keeps_answer : (rec from : ℕ) (stored : Stored) → P (record (begin_step x) { site = record x { refresh = map (with_answer rec from stored) x.refresh } })
  keeps_answer rec from stored = fewer (begin_step x) _ refl refl (λ r h. let q = map_has (with_answer rec from stored) x.refresh r h in (q.0, q.1, sym (rec_same q.0) ∙ ap (λ (r : Refreshing). r.rec) q.2)) starts
    where
      rec_same : (r : Refreshing) → (with_answer rec from stored r).rec ≡ r.rec
      rec_same r = go (r.rec == rec)
        where
          go : (b : Bool) → (cond b (record r { answers = put_at from stored r.answers }) r).rec ≡ r.rec
          go true = refl
          go false = refl

  ends_here : (from : ℕ) (txn : TxnId) (commit : Bool) (doubt : Option Doubt) → P (end_here from txn commit doubt (begin_step x))
  unfolding end_here
  ends_here from txn true None = same (begin_step x) _ refl refl refl starts
  ends_here from txn false None = same (begin_step x) _ refl refl refl starts
  ends_here from txn false (Some d) = same (begin_step x) _ refl refl refl starts
  ends_here from txn true (Some d) = same (begin_step x) _ refl (written_keys d.view d.writes x.copies) refl starts

  abbrev K : Lent → Type 0
  K = Back x P

  quiet : (l now : Lent) → keys now.copies ≡ keys l.copies → K l → K now
  quiet l now c p = same (put_back (begin_step x) l) (put_back (begin_step x) now) refl c refl p

  closes : (t : Live) (why : Ending) (l : Lent) → K l → K (close x.id t why l)
  closes t why l p = quiet l (close x.id t why l) (ap (λ (h : Here). keys h.copies) (close-ends x.id t why l).here) p

  decides : (t : Live) → K (decide catalogue x.id t (lent_at x))
  unfolding keep_writes
  decides t = decide-cases K catalogue x.id t (lent_at x)
      (λ e. quiet (lent_at x) _ (ap (λ (h : Here). keys h.copies) (decided-ends x.id t (lent_at x)).here) starts)
      (λ e. let l = keep_writes catalogue x.id t (lent_at x) in quiet (lent_at x) _ (ap (λ (h : Here). keys h.copies) (decided-ends x.id t l).here ∙ written_keys t.view (writes_held catalogue x.id (last_changes (entry_of t))) x.copies) starts)

  pub table : Table catalogue x given P
  unfolding on_stale on_accept hold fix ask_again start_inviting accept grant start_txn take_lock complete read_at write_at prepare_parts mark_calls resend_one inquire
  table = record {
    sends_back = λ from m t. same (begin_step x) _ refl refl refl starts;
    asks_again = λ o ms all p. same o _ refl refl refl p;
    drop_view = λ l e z p. drops l p;
    start_inviting = λ o s l p. fresh o _ refl (left_none o l) p;
    accept = λ from id o c e l p. fresh o _ refl (left_none o l) p;
    accepted = λ from id c. same (begin_step x) _ refl refl refl starts;
    seen = λ from id promise c. same (begin_step x) _ refl refl refl starts;
    hold = λ from id members c e. fresh (begin_step x) _ refl (none_refreshed x held_then (tidy.waiting id (is_view_is x.waiting id (both_true _ _ e).0)).1) starts;
    heard = λ from view c e. same (begin_step x) _ refl refl refl starts;
    fix = λ view c e. fresh (begin_step x) _ refl (none_refreshed x held_then (tidy.inviting (view.id, view.members) e).1) starts;
    without_wait = λ id c i w. same (begin_step x) _ refl refl refl starts;
    probe = λ view c e. same (begin_step x) _ refl refl refl starts;
    answers_inviting = λ port c s p. same _ _ refl refl refl p;
    start_refresh = λ view rec o e h p. refreshes view rec o e h p;
    end_refresh = λ rec r own o e a d v p. finishes r own o p;
    keep_answer = λ from view rec stored r c e f g. keeps_answer rec from stored;
    grant_read = λ from txn view number rec stored c e n v f u. same (begin_step x) _ refl refl refl starts;
    grant_write = λ from txn view number rec stored c e n v f u. same (begin_step x) _ refl refl refl starts;
    vote_reading = λ from txn view number reads writes part c e n d f v a w. same (begin_step x) _ refl refl refl starts;
    vote_writing = λ from txn view number reads writes part c e n d f v a w. same (begin_step x) _ refl refl refl starts;
    end_here = λ from txn commit c. ends_here from txn commit (doubt_of txn x.doubts);
    coordinator = record {
      begin = λ port view e g u. quiet (lent_at x) _ refl starts;
      answers = λ words port why y. quiet (lent_at x) _ refl starts;
      take_lock = λ t rec exclusive stored h i a v c. quiet (lent_at x) _ refl starts;
      complete = λ t p deed l h g y e q. quiet l _ refl q;
      read_at = λ t p rec q h n r a w c o y. quiet (lent_at x) _ refl starts;
      write_at = λ t p rec value l h n w a e o d y v q. quiet l _ refl q;
      prepare_parts = λ t p h i g e. quiet (lent_at x) _ refl starts;
      still_waits = λ t p from h e m f c. quiet (lent_at x) _ refl starts;
      decide = λ t n d. decides t;
      close = λ t why l n a z y q. closes t why l q;
      mark_calls = λ l c z q. quiet l _ refl q;
      acknowledge = λ from txn c w. quiet (lent_at x) _ refl starts;
    };
    resend_one = λ d o c h p. same o _ refl refl refl p;
  }

pub listing-step : (catalogue : Catalogue) (x : SiteState) (given : Input) → Tidy x → ((r : Refreshing) → Has x.refresh r → (v : View) × (x.held ≡ Some v)) → ((r : Refreshing) → Has x.refresh r → Has (keys x.copies) r.rec) → Listing catalogue x given (step catalogue x given)
listing-step catalogue x given tidy held_then all = step-keeps catalogue x given (Listing catalogue x given) (table catalogue x given tidy held_then all) (starts catalogue x given tidy held_then all)
