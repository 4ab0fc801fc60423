-- A site and the effects of its step so far are well formed, and stay so after a single change.
use Rattle.std.proofs.Common.{◌≡◌, ◌<◌, ◌∙◌, subst, ℕ, suc, ◌^◌, Bool, false, cond, List, [], ◌∷◌, ◌++◌, map}
use Rattle.std.specs.Prelude.{Option, Some, None, IfSome, fold, nat_lt, ◌==◌, ◌||◌}
use Rattle.std.specs.List.{AllByRecursion}
use Rattle.vp_base.specs.Identifiers.{IsView, IsTxn}
use Rattle.vp_bytes.specs.Fields.{IsSite, IsOwner}
use Rattle.vp_contents.specs.Changes.{IsPut, IsChange}
use Rattle.vp_contents.specs.Contents.{IsContent}
use Rattle.vp_contents.specs.Tables.{IsMaybeTable}
use Rattle.vp_contents.specs.declared.version.Version.TheVariants as versions
use Rattle.vp_records.specs.Records.{IsLogRecord}
use Rattle.vp_model.specs.Types.{Put, Change, ViewId, TxnId, Stored, Owner, Answer, Message, LogRecord, Commit, Sent, Effects, Lock, Refreshing, Doubt}
use Rattle.vp_model.specs.Types.puts
use Rattle.vp_model.specs.Words.{for_each, value_at, change_at, replace_at, same_txn, put_txn, put_at, txn_before}
use Rattle.vp_model.specs.Catalogue.{Catalogue, Table}
use Rattle.vp_model.specs.Durable.{with_put, with_new_table, changed, with_writes, doubt_of}
use Rattle.vp_model.specs.Locks.{lesser, conflict, holds, raised, with_lock}
use Rattle.vp_model.specs.Site.{Bars, change_bars, ViewState, ParticipantState, CoordinatorState, SiteState, Stepped, with_entry, with_commit, with_reply, with_message, with_sent, letters, with_each_message, change_views, change_locks, change_copies, change_participant, change_refresh}
use Rattle.vp_model.specs.Refresh.{newer, newest}
use Rattle.vp_model.specs.Messages.{with_answer}
use Rattle.vp_model.specs.Step.{known}
use Rattle.vp_laws.proofs.Lists.Members.{find_has}
use Rattle.vp_laws.proofs.Lists.Changes.{value_has}
use Rattle.vp_laws.specs.Shapes.{IsBar, IsMessage, IsAnswer, IsStored, IsDoubt, AreCopies, AreDoubts, AreViews, IsLock, IsPart, IsRefreshing, IsCoordinator, IsShaped, IsShort, IsSent, IsReply, AreShaped}
use Rattle.vp_laws.proofs.Lists.Items.{all_at, all_append, all_and_one, all_filter, all_put, all_map}
use Rattle.vp_laws.proofs.Lists.Keeps.{by_test}
use Rattle.vp_records.proofs.Held.{changed_keys, replaced_keys}
use Rattle.vp_laws.proofs.Shapes.Numbers.{IsRising}

pub record Forms (catalogue : Catalogue) (x : SiteState) (o : Stepped) : Type 0 where
  pub site_is : IsShaped catalogue o.site
  pub same : o.site.id ≡ x.id
  pub gives : AreShaped x.id o.effects

-- ---- what is given

abbrev IsSmall : Sent → Type 0
IsSmall sent = IsShort sent.message

module _ (id : ℕ) (e : Effects) (a : AreShaped id e) where
  pub gives_entry : (entry : LogRecord) → IsLogRecord entry → AreShaped id (with_entry entry e)
  gives_entry entry i = record { records_are = all_and_one IsLogRecord e.records entry a.records_are i; messages_are = a.messages_are; short_are = a.short_are; replies_are = a.replies_are }

  pub gives_commit : (commit : Commit) → AreShaped id (with_commit commit e)
  gives_commit commit = record { records_are = a.records_are; messages_are = a.messages_are; short_are = a.short_are; replies_are = a.replies_are }

  pub gives_reply : (answer : Answer) (to : ℕ) → to < 2 ^ 16 → IsAnswer answer → AreShaped id (with_reply answer to e)
  gives_reply answer to fits i = record { records_are = a.records_are; messages_are = a.messages_are; short_are = a.short_are; replies_are = all_and_one IsReply e.replies (record { to = to; answer = answer }) a.replies_are (fits, i) }

  pub gives_message : (from : ℕ) (message : Message) (to : ℕ) → from ≡ id → IsSite to → IsMessage message → IsShort message → AreShaped id (with_message from message to e)
  gives_message from message to own s i small = record { records_are = a.records_are; messages_are = all_and_one (IsSent id) e.messages (record { from = from; to = to; message = message }) a.messages_are (own, s, i); short_are = all_and_one IsSmall e.messages (record { from = from; to = to; message = message }) a.short_are small; replies_are = a.replies_are }

  pub gives_sent : (messages : List Sent) → AllByRecursion (IsSent id) messages → AllByRecursion IsSmall messages → AreShaped id (with_sent messages e)
  gives_sent messages i small = record { records_are = a.records_are; messages_are = all_append (IsSent id) e.messages messages a.messages_are i; short_are = all_append IsSmall e.messages messages a.short_are small; replies_are = a.replies_are }

  pub gives_each : (from : ℕ) (message_to : ℕ → Message) (sites : List ℕ) → from ≡ id → AllByRecursion IsSite sites → ((q : ℕ) → IsMessage (message_to q)) → ((q : ℕ) → IsShort (message_to q)) → AreShaped id (with_each_message from message_to sites e)
  gives_each from message_to sites own s i small = gives_sent (letters from message_to sites) (all_map IsSite (IsSent id) (λ q. record { from = from; to = q; message = message_to q }) (λ q h. (own, h, i q)) sites s) (all_map IsSite IsSmall (λ q. record { from = from; to = q; message = message_to q }) (λ q h. small q) sites s)

-- ---- what changes

module _ (catalogue : Catalogue) (x : SiteState) (o : Stepped) (p : Forms catalogue x o) where
  pub with_gives : (e : Effects) → AreShaped x.id e → Forms catalogue x (record o { effects = e })
  with_gives e a = record { site_is = p.site_is; same = p.same; gives = a }

  pub with_views : (f : ViewState → ViewState) → AreViews (f o.site.views) → Forms catalogue x (change_views f o)
  with_views f v = let s = p.site_is in record {
    site_is = record { listed = s.listed; lived = s.lived; life_fits = s.life_fits; views_are = v; locks_are = s.locks_are; copies_are = s.copies_are; bars_are = s.bars_are; parts_are = s.parts_are; doubts_are = s.doubts_are; refresh_are = s.refresh_are; coordinator_is = s.coordinator_is };
    same = p.same;
    gives = p.gives;
  }

  pub with_locks : (f : List Lock → List Lock) → AllByRecursion IsLock (f o.site.here.locks) → Forms catalogue x (change_locks f o)
  with_locks f v = let s = p.site_is in record {
    site_is = record { listed = s.listed; lived = s.lived; life_fits = s.life_fits; views_are = s.views_are; locks_are = v; copies_are = s.copies_are; bars_are = s.bars_are; parts_are = s.parts_are; doubts_are = s.doubts_are; refresh_are = s.refresh_are; coordinator_is = s.coordinator_is };
    same = p.same;
    gives = p.gives;
  }

  pub with_copies : (f : List (ℕ × Stored) → List (ℕ × Stored)) → AreCopies catalogue o.site.id (f o.site.here.copies) → Forms catalogue x (change_copies f o)
  with_copies f v = let s = p.site_is in record {
    site_is = record { listed = s.listed; lived = s.lived; life_fits = s.life_fits; views_are = s.views_are; locks_are = s.locks_are; copies_are = v; bars_are = s.bars_are; parts_are = s.parts_are; doubts_are = s.doubts_are; refresh_are = s.refresh_are; coordinator_is = s.coordinator_is };
    same = p.same;
    gives = p.gives;
  }

  pub with_bars : (f : Bars → Bars) → AllByRecursion IsBar (f o.site.here.bars) → Forms catalogue x (change_bars f o)
  with_bars f v = let s = p.site_is in record {
    site_is = record { listed = s.listed; lived = s.lived; life_fits = s.life_fits; views_are = s.views_are; locks_are = s.locks_are; copies_are = s.copies_are; bars_are = v; parts_are = s.parts_are; doubts_are = s.doubts_are; refresh_are = s.refresh_are; coordinator_is = s.coordinator_is };
    same = p.same;
    gives = p.gives;
  }

  pub with_participant : (f : ParticipantState → ParticipantState) → AllByRecursion IsPart (f o.site.participant).parts → AreDoubts (f o.site.participant).doubts → Forms catalogue x (change_participant f o)
  with_participant f v d = let s = p.site_is in record {
    site_is = record { listed = s.listed; lived = s.lived; life_fits = s.life_fits; views_are = s.views_are; locks_are = s.locks_are; copies_are = s.copies_are; bars_are = s.bars_are; parts_are = v; doubts_are = d; refresh_are = s.refresh_are; coordinator_is = s.coordinator_is };
    same = p.same;
    gives = p.gives;
  }

  pub with_refresh : (f : List Refreshing → List Refreshing) → AllByRecursion IsRefreshing (f o.site.refresh) → Forms catalogue x (change_refresh f o)
  with_refresh f v = let s = p.site_is in record {
    site_is = record { listed = s.listed; lived = s.lived; life_fits = s.life_fits; views_are = s.views_are; locks_are = s.locks_are; copies_are = s.copies_are; bars_are = s.bars_are; parts_are = s.parts_are; doubts_are = s.doubts_are; refresh_are = v; coordinator_is = s.coordinator_is };
    same = p.same;
    gives = p.gives;
  }

  pub with_coordinator : (c : CoordinatorState) → IsCoordinator catalogue c → Forms catalogue x (record o { site = record o.site { coordinator = c } })
  with_coordinator c v = let s = p.site_is in record {
    site_is = record { listed = s.listed; lived = s.lived; life_fits = s.life_fits; views_are = s.views_are; locks_are = s.locks_are; copies_are = s.copies_are; bars_are = s.bars_are; parts_are = s.parts_are; doubts_are = s.doubts_are; refresh_are = s.refresh_are; coordinator_is = v };
    same = p.same;
    gives = p.gives;
  }

-- ---- locks

raised_is : (rec : ℕ) (exclusive : Bool) (owner : Owner) (lock : Lock) → IsLock lock → IsLock (raised rec exclusive owner lock)
raised_is rec exclusive owner lock i = by_test IsLock _ (record lock { exclusive = lock.exclusive || exclusive }) lock (λ e. i) (λ e. i)

pub with_lock_is : (rec : ℕ) (exclusive : Bool) (owner : Owner) (locks : List Lock) → IsOwner owner → AllByRecursion IsLock locks → AllByRecursion IsLock (with_lock rec exclusive owner locks)
with_lock_is rec exclusive owner locks i h =
    by_test (AllByRecursion IsLock) (holds rec false owner locks) (map (raised rec exclusive owner) locks) (locks ++ (record { rec = rec; exclusive = exclusive; owner = owner }) ∷ [])
    (λ e. all_map IsLock IsLock (raised rec exclusive owner) (raised_is rec exclusive owner) locks h) (λ e. all_and_one IsLock locks _ h i)

lesser_is : (best : Option Owner) (owner : Owner) → IfSome best IsOwner → IsOwner owner → IsOwner (lesser best owner)
lesser_is None owner b i = i
lesser_is (Some best) owner b i = by_test IsOwner _ owner best (λ e. i) (λ e. b)

least_is : (best : Option Owner) (locks : List Lock) → IfSome best IsOwner → AllByRecursion IsLock locks → IfSome (fold (λ best lock. Some (lesser best lock.owner)) best locks) IsOwner
least_is best [] b h = b
least_is best (lock ∷ locks) b h = least_is (Some (lesser best lock.owner)) locks (lesser_is best lock.owner b h.0) h.1

pub some_at : {A : Type 0} (P : A → Type 0) (o : Option A) (a : A) → IfSome o P → o ≡ Some a → P a
some_at P o a h e = rw e at h

pub conflict_is : (rec : ℕ) (exclusive : Bool) (txn : TxnId) (locks : List Lock) (holder : Owner) → AllByRecursion IsLock locks → conflict rec exclusive txn locks ≡ Some holder → IsOwner holder
conflict_is rec exclusive txn locks holder h e = some_at IsOwner _ holder (least_is None _ tt (all_filter IsLock _ locks h)) e

pub bar_is : (rec : ℕ) (bar : ℕ × ℕ) (bars : Bars) → AllByRecursion IsBar bars → value_at rec bars ≡ Some bar → (bar.0 < 2 ^ 32) × (bar.1 < 2 ^ 32)
bar_is rec bar bars h e = let q = value_has rec bars bar e in subst (λ (b : ℕ × ℕ). (b.0 < 2 ^ 32) × (b.1 < 2 ^ 32)) q.2 (all_at IsBar bars h q.0 q.1)

-- ---- copies

pub replace_is : (catalogue : Catalogue) (id rec : ℕ) (stored : Stored) (copies : List (ℕ × Stored)) → IsStored stored → AreCopies catalogue id copies → AreCopies catalogue id (replace_at rec stored copies)
replace_is catalogue id rec stored copies i a = record {
  held = replaced_keys rec stored copies ∙ a.held;
  stored = all_map (λ (c : ℕ × Stored). IsStored c.1) (λ (c : ℕ × Stored). IsStored c.1) (λ (p : ℕ × Stored). cond (p.0 == rec) (rec, stored) p) (λ p h. by_test (λ (c : ℕ × Stored). IsStored c.1) (p.0 == rec) (rec, stored) p (λ e. i) (λ e. h)) copies a.stored;
}

changed_is : (date : ViewId) (change : Change) (stored : Stored) → IsView date → IsChange versions.Second change → IsStored stored → IsStored (changed date change stored)
changed_is date change stored v c i = (put_is change.put c.0, table_is change.table c.1, v)
  where
    put_is : (put : Put) → IsPut versions.Second put → IsContent versions.Second (with_put put stored.value)
    put_is puts.Keep p = i.0
    put_is puts.Absent p = tt
    put_is (puts.Value value) p = p

    table_is : (table : Option Table) → IsMaybeTable versions.Second table → IsMaybeTable versions.Second (with_new_table table stored.table)
    table_is None t = i.1
    table_is (Some table) t = t

change_at_is : (catalogue : Catalogue) (id rec : ℕ) (date : ViewId) (change : Change) (copies : List (ℕ × Stored)) → IsView date → IsChange versions.Second change → AreCopies catalogue id copies → AreCopies catalogue id (change_at rec (changed date change) copies)
change_at_is catalogue id rec date change copies v c a = record {
  held = changed_keys rec (changed date change) copies ∙ a.held;
  stored = all_map (λ (c : ℕ × Stored). IsStored c.1) (λ (c : ℕ × Stored). IsStored c.1) (λ (p : ℕ × Stored). cond (p.0 == rec) (rec, changed date change p.1) p) (λ p h. by_test (λ (c : ℕ × Stored). IsStored c.1) (p.0 == rec) (rec, changed date change p.1) p (λ e. changed_is date change p.1 v c h) (λ e. h)) copies a.stored;
}

pub writes_are : (catalogue : Catalogue) (id least : ℕ) (date : ViewId) (writes : List (ℕ × Change)) (copies : List (ℕ × Stored)) → IsView date → IsRising least writes → AreCopies catalogue id copies → AreCopies catalogue id (with_writes date writes copies)
writes_are catalogue id least date [] copies v h a = a
writes_are catalogue id least date (w ∷ writes) copies v h a = writes_are catalogue id (suc w.0) date writes _ v h.3 (change_at_is catalogue id w.0 date w.1 copies v h.2 a)

pub copy_is : (copies : List (ℕ × Stored)) (rec : ℕ) (stored : Stored) → AllByRecursion (λ (c : ℕ × Stored). IsStored c.1) copies → value_at rec copies ≡ Some stored → IsStored stored
copy_is copies rec stored h e = let q = value_has rec copies stored e in rw (← q.2) (all_at (λ (c : ℕ × Stored). IsStored c.1) copies h q.0 q.1)

pub newest_is : (own : Stored) (answers : List (ℕ × Stored)) → IsStored own → AllByRecursion (λ (a : ℕ × Stored). IsStored a.1) answers → IsStored (newest own answers)
newest_is own [] i h = i
newest_is own (a ∷ answers) i h = newest_is (newer own a.1) answers (by_test IsStored _ a.1 own (λ e. h.0) (λ e. i)) h.1

pub answer_is : (rec from : ℕ) (stored : Stored) (r : Refreshing) → IsStored stored → IsRefreshing r → IsRefreshing (with_answer rec from stored r)
answer_is rec from stored r i h = by_test IsRefreshing (r.rec == rec) (record r { answers = put_at from stored r.answers }) r (λ e. (h.0, all_put (λ (a : ℕ × Stored). IsStored a.1) (λ (a : ℕ × Stored) (b : ℕ × Stored). a.0 == b.0) (λ (a : ℕ × Stored) (b : ℕ × Stored). nat_lt a.0 b.0) (from, stored) r.answers i h.1)) (λ e. h)

-- ---- doubts

pub doubt_is : (txn : TxnId) (doubts : List Doubt) (d : Doubt) → AreDoubts doubts → doubt_of txn doubts ≡ Some d → IsDoubt d
doubt_is txn doubts d a e = all_at IsDoubt doubts a.each d (find_has (λ (d : Doubt). same_txn d.txn txn) doubts d e)

doubts_known : (doubts : List Doubt) (txns : List TxnId) → AllByRecursion IsDoubt doubts → AllByRecursion IsTxn txns → AllByRecursion IsTxn (for_each doubts (λ (d : Doubt). put_txn d.txn) txns)
doubts_known [] txns h t = t
doubts_known (d ∷ doubts) txns h t = doubts_known doubts (put_txn d.txn txns) h.1 (all_put IsTxn same_txn txn_before d.txn txns h.0.0 t)

pub known_are : (p : ParticipantState) → AllByRecursion IsPart p.parts → AreDoubts p.doubts → AllByRecursion IsTxn (known p)
known_are p h a = doubts_known p.doubts (map (λ part. part.txn) p.parts) a.each (all_map IsPart IsTxn (λ part. part.txn) (λ part i. i.0) p.parts h)
