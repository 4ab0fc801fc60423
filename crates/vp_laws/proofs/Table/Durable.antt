-- What a step forces to the log, applied to the durable part before it, is the durable part after it.
use Rattle.std.proofs.Common.{◌≡◌, ℕ, Bool, true, false, List, [], ◌∷◌, ◌++◌, refl, arith}
use Rattle.std.specs.Prelude.{Option, Some, None}
use Rattle.vp_model.specs.Types.{ViewId, TxnId, Stored, Message, LogRecord, Input, Live, Ending, Refreshing, Doubt}
use Rattle.vp_base.specs.declared.site.Ending.TheVariants.{Committed}
use Rattle.vp_model.specs.Types.log_record
use Rattle.vp_model.specs.Types.message
use Rattle.vp_model.specs.Words.{replace_at}
use Rattle.vp_model.specs.Catalogue.{Catalogue}
use Rattle.vp_model.specs.Durable.{DurableState, apply, apply_all, doubt_of, without_doubt}
use Rattle.vp_model.specs.Site.{SiteState, Lent, Stepped, begin_step, force, change_copies}
use Rattle.vp_model.specs.Transactions.{keep_writes, complete}
use Rattle.vp_model.specs.Refresh.{newest, unlist, end_refresh, start_refresh}
use Rattle.vp_model.specs.Views.{drop_view, start_inviting, hold}
use Rattle.vp_model.specs.Calls.{start_txn, take_lock, read_at, write_at, prepare_parts}
use Rattle.vp_model.specs.Messages.{accept, on_accept, on_stale, grant, end_here}
use Rattle.vp_model.specs.Step.{durable_of, step, fix, mark_calls, ask_again, resend_one, inquire}
use Rattle.vp_laws.proofs.Moves.Frames.{Ends, close-ends, decided-ends, decide-cases, take-cases}
use Rattle.vp_laws.proofs.Moves.Table.{lent_at, Back, Table}
use Rattle.vp_laws.proofs.Moves.Rows.{step-keeps}

pub apply_all-force : (records : List LogRecord) (r : LogRecord) (d : DurableState) → apply_all (records ++ r ∷ []) d ≡ apply r (apply_all records d)
apply_all-force [] r d = refl
apply_all-force (first ∷ records) r d = apply_all-force records r (apply first d)

-- the records so far make the durable part so far
abbrev pub Folds : DurableState → Stepped → Type 0
Folds d o = apply_all o.effects.records d ≡ durable_of o.site

without_doubt-none : (txn : TxnId) (doubts : List Doubt) → doubt_of txn doubts ≡ None → without_doubt txn doubts ≡ doubts
without_doubt-none txn [] h = refl
without_doubt-none txn (d ∷ doubts) h = let rest = without_doubt-none txn doubts in grind (arith, rest, h)

module _ (catalogue : Catalogue) (x : SiteState) (given : Input) where
  abbrev K : Lent → Type 0
  K = Back x (Folds (durable_of x))

  ends : (t : Live) (why : Ending) (commit : Bool) (l now : Lent) → Ends x.id t why commit l now → K l → K now
  ends t why commit l now e h = rw (e.records, e.here, e.coordinator) h

  keeps_writes : (t : Live) (l : Lent) → K l → K (keep_writes catalogue x.id t l)
  unfolding keep_writes apply
  keeps_writes t l h = grind (arith, apply_all-force)

  takes_copy : (rec : ℕ) (best : Stored) (o : Stepped) → Folds (durable_of x) o → Folds (durable_of x) (force (log_record.Copy rec best) (change_copies (replace_at rec best) o))
  unfolding apply
  takes_copy rec best o h = grind (arith, apply_all-force)

  ends_refresh : (r : Refreshing) (own : Stored) (o : Stepped) → Folds (durable_of x) o → Folds (durable_of x) (end_refresh catalogue r own o)
  unfolding end_refresh unlist
  ends_refresh r own o h = take-cases (Folds (durable_of x)) catalogue r own o (takes_copy r.rec (newest own r.answers) o h) h h

  ends_here : (from : ℕ) (txn : TxnId) (commit : Bool) (doubt : Option Doubt) → doubt_of txn x.doubts ≡ doubt → Folds (durable_of x) (end_here from txn commit doubt (begin_step x))
  unfolding end_here apply
  ends_here from txn true None e = grind (arith, without_doubt-none, e)
  ends_here from txn false None e = grind (arith, without_doubt-none, e)
  ends_here from txn true (Some d) e = grind (arith, e)
  ends_here from txn false (Some d) e = grind (arith, e)

  invites : (id : ViewId) (o : Stepped) → Folds (durable_of x) o → Folds (durable_of x) (start_inviting catalogue id o)
  unfolding start_inviting apply
  invites id o h = grind (arith, apply_all-force)

  accepts : (from : ℕ) (id : ViewId) (o : Stepped) → Folds (durable_of x) o → Folds (durable_of x) (accept from id o)
  unfolding accept apply
  accepts from id o h = grind (arith, apply_all-force)

  grants : (from : ℕ) (txn : TxnId) (view : ViewId) (rec : ℕ) (exclusive : Bool) (answer : Message) → Folds (durable_of x) (grant txn view rec exclusive answer from (begin_step x))
  unfolding grant
  grants from txn view rec exclusive answer = grind arith

  pub table : Table catalogue x given (Folds (durable_of x))
  unfolding start_txn take_lock complete read_at write_at prepare_parts mark_calls grant on_stale on_accept hold fix drop_view start_refresh ask_again resend_one inquire apply
  table = record {
    sends_back = λ from m t. refl;
    asks_again = λ o ms all p. p;
    drop_view = λ l e z h. h;
    start_inviting = λ o s left h. invites _ o h;
    accept = λ from id o c e left h. accepts from id o h;
    accepted = λ from id c. refl;
    seen = λ from id promise c. refl;
    hold = λ from id members c e. refl;
    heard = λ from view c e. refl;
    fix = λ view c e. refl;
    without_wait = λ id c i w. refl;
    probe = λ view c e. refl;
    start_refresh = λ view rec o e q h. h;
    end_refresh = λ rec r own o e a d v h. ends_refresh r own o h;
    keep_answer = λ from view rec stored r c e f g. refl;
    grant_read = λ from txn view number rec stored c e n v f u. grants from txn view rec false (message.ReadAnswer txn number stored.value);
    grant_write = λ from txn view number rec stored c e n v f u. grants from txn view rec true (message.WriteAnswer txn number);
    vote_reading = λ from txn view number reads writes part c e n d f v a w. refl;
    vote_writing = λ from txn view number reads writes part c e n d f v a w. refl;
    end_here = λ from txn commit c. ends_here from txn commit (doubt_of txn x.doubts) refl;
    coordinator = record {
      begin = λ port view e g u. refl;
      answers = λ words port why y. refl;
      take_lock = λ t rec exclusive stored q i a v c. refl;
      complete = λ t p deed l q g y e h. h;
      read_at = λ t p rec q l n r a w c o y. refl;
      write_at = λ t p rec value l q n w a e o d y v h. h;
      prepare_parts = λ t p q i g e. refl;
      still_waits = λ t p from q e m f c. refl;
      decide = λ t q d. decide-cases K catalogue x.id t (lent_at x) (λ e. ends t Committed true _ _ (decided-ends x.id t (lent_at x)) refl) (λ e. ends t Committed true _ _ (decided-ends x.id t _) (keeps_writes t (lent_at x) refl));
      close = λ t why l q a z y h. ends t why false l _ (close-ends x.id t why l) h;
      mark_calls = λ l c z h. h;
      acknowledge = λ from txn c w. refl;
    };
    answers_inviting = λ port c s h. h;
    resend_one = λ d o c q h. h;
  }

pub step-folds : (catalogue : Catalogue) (x : SiteState) (given : Input) → apply_all (step catalogue x given).effects.records (durable_of x) ≡ durable_of (step catalogue x given).site
step-folds catalogue x given = step-keeps catalogue x given (Folds (durable_of x)) (table catalogue x given) refl
