-- What the ends of transactions leave of the coordinator's state, and what they send; what the end of a refresh removes.
use Rattle.std.proofs.Common.{◌≡◌, ◌∙◌, ℕ, Bool, true, false, cond, List, [], ◌∷◌, ◌++◌, refl}
use Rattle.std.specs.Prelude.{Option, Some, None}
use Rattle.vp_model.specs.Types.{TxnId, Effects, Pending, Live, Ending, Stored, Refreshing}
use Rattle.vp_base.specs.declared.site.Ending.TheVariants.{Committed}
use Rattle.vp_model.specs.Types.owner
use Rattle.vp_model.specs.Types.log_record
use Rattle.vp_model.specs.Types.message
use Rattle.vp_model.specs.Catalogue.{Catalogue, Table, accessible_by, table_or}
use Rattle.vp_model.specs.Words.{is_empty, view_before, replace_at}
use Rattle.vp_model.specs.Locks.{without_owner}
use Rattle.vp_model.specs.Site.{Lent, letters, Stepped, force, change_copies, change_bars}
use Rattle.vp_model.specs.Transactions.{last_changes, entry_of, with_pending_reply, finish, close, close_all, with_finished, keep_writes, decided, decide}
use Rattle.vp_model.specs.Refresh.{members, newest, take_newer, with_bar, take_or_bar}
use Rattle.vp_model.proofs.SameTxn.{same_txn-self}
use Rattle.vp_laws.proofs.Lists.Keeps.{by_test}

-- a transaction has ended: its parts are told whether it commits, and its locks go
pub record Ends (id : ℕ) (t : Live) (why : Ending) (commit : Bool) (l now : Lent) : Type 0 where
  pub here : now.here ≡ record l.here { locks = without_owner (owner.Txn t.txn) l.here.locks }
  pub coordinator : now.coordinator ≡ with_finished t why l.coordinator
  pub messages : now.effects.messages ≡ l.effects.messages ++ letters id (λ q. message.Outcome t.txn commit) t.parts
  pub records : now.effects.records ≡ l.effects.records

reply-messages : (txn : TxnId) (why : Ending) (p : Option Pending) (e : Effects) → (with_pending_reply txn why p e).messages ≡ e.messages
reply-messages txn why None e = refl
reply-messages txn why (Some p) e = refl

reply-records : (txn : TxnId) (why : Ending) (p : Option Pending) (e : Effects) → (with_pending_reply txn why p e).records ≡ e.records
reply-records txn why None e = refl
reply-records txn why (Some p) e = refl

reply-commits : (txn : TxnId) (why : Ending) (p : Option Pending) (e : Effects) → (with_pending_reply txn why p e).commits ≡ e.commits
reply-commits txn why None e = refl
reply-commits txn why (Some p) e = refl

pub close-ends : (id : ℕ) (t : Live) (why : Ending) (l : Lent) → Ends id t why false l (close id t why l)
unfolding close finish
close-ends id t why l = record { here = refl; coordinator = refl; messages = reply-messages t.txn why t.pending _; records = reply-records t.txn why t.pending _ }

pub close-commits : (id : ℕ) (t : Live) (why : Ending) (l : Lent) → (close id t why l).effects.commits ≡ l.effects.commits
unfolding close finish
close-commits id t why l = reply-commits t.txn why t.pending _

pub decided-ends : (id : ℕ) (t : Live) (l : Lent) → Ends id t Committed true l (decided id t l)
unfolding decided finish
decided-ends id t l = record { here = refl; coordinator = refl; messages = reply-messages t.txn Committed t.pending _; records = reply-records t.txn Committed t.pending _ }

pub decided-commits : (id : ℕ) (t : Live) (l : Lent) → (decided id t l).effects.commits ≡ l.effects.commits ++ (entry_of t) ∷ []
unfolding decided finish
decided-commits id t l = reply-commits t.txn Committed t.pending _

-- after all live ones have been closed, none is live
closed_first : (id : ℕ) (t : Live) (ts : List Live) (why : Ending) (l : Lent) → l.live ≡ t ∷ ts → (close id t why l).live ≡ ts
unfolding close finish
closed_first id t ts why l e = rw (e, same_txn-self t.txn) refl

pub close_all-none : (id : ℕ) (why : Live → Ending) (live : List Live) (l : Lent) → l.live ≡ live → (close_all id why live l).live ≡ []
close_all-none id why [] l e = e
close_all-none id why (t ∷ live) l e = close_all-none id why live (close id t (why t) l) (closed_first id t live (why t) l e)

-- a decision, with writes and without
pub decide-cases : (Q : Lent → Type 0) (catalogue : Catalogue) (id : ℕ) (t : Live) (l : Lent) → (is_empty (last_changes (entry_of t)) ≡ true → Q (decided id t l)) → (is_empty (last_changes (entry_of t)) ≡ false → Q (decided id t (keep_writes catalogue id t l))) → Q (decide catalogue id t l)
unfolding decide
decide-cases Q catalogue id t l none some = go (is_empty (last_changes (entry_of t))) none some
  where
    go : (b : Bool) → (b ≡ true → Q (decided id t l)) → (b ≡ false → Q (decided id t (keep_writes catalogue id t l))) → Q (decided id t (cond b l (keep_writes catalogue id t l)))
    go true p q = p refl
    go false p q = q refl

-- what closing never touches
pub record Beside (l now : Lent) : Type 0 where
  pub copies : now.copies ≡ l.copies
  pub seq : now.seq ≡ l.seq
  pub decisions : now.decisions ≡ l.decisions

close-beside : (id : ℕ) (t : Live) (why : Ending) (l : Lent) → Beside l (close id t why l)
unfolding close finish
close-beside id t why l = record { copies = refl; seq = refl; decisions = refl }

Beside-trans : (a b c : Lent) → Beside a b → Beside b c → Beside a c
Beside-trans a b c p q = record { copies = q.copies ∙ p.copies; seq = q.seq ∙ p.seq; decisions = q.decisions ∙ p.decisions }

pub close_all-beside : (id : ℕ) (why : Live → Ending) (live : List Live) (l : Lent) → Beside l (close_all id why live l)
close_all-beside id why [] l = record { copies = refl; seq = refl; decisions = refl }
close_all-beside id why (t ∷ live) l = Beside-trans l _ _ (close-beside id t (why t) l) (close_all-beside id why live (close id t (why t) l))

-- the table of the newest copy, by which the end of a refresh judges; and what it does then, before the record is unlisted
abbrev pub judging : Catalogue → Refreshing → Stored → Table
judging catalogue r own = table_or catalogue r.rec (newest own r.answers).table

abbrev pub judged : Catalogue → Refreshing → Stored → Stepped → Stepped
judged catalogue r own o = take_or_bar r.rec own (newest own r.answers) (judging catalogue r own) o

-- a copy is replaced where another one is newer, or stays; or its record is barred
pub judged-cases : (P : Stepped → Type 0) (catalogue : Catalogue) (r : Refreshing) (own : Stored) (o : Stepped) → (accessible_by (judging catalogue r own) (members o.site) ≡ true → P (force (log_record.Copy r.rec (newest own r.answers)) (change_copies (replace_at r.rec (newest own r.answers)) o))) → P o → P (change_bars (with_bar r.rec (judging catalogue r own) (members o.site)) o) → P (judged catalogue r own o)
unfolding take_newer
judged-cases P catalogue r own o newer older barred = by_test P (accessible_by (judging catalogue r own) (members o.site)) _ _ (λ a. by_test P (view_before own.date (newest own r.answers).date) _ _ (λ e. newer a) (λ e. older)) (λ a. barred)

pub take-cases : (P : Stepped → Type 0) (catalogue : Catalogue) (r : Refreshing) (own : Stored) (o : Stepped) → P (force (log_record.Copy r.rec (newest own r.answers)) (change_copies (replace_at r.rec (newest own r.answers)) o)) → P o → P (change_bars (with_bar r.rec (judging catalogue r own) (members o.site)) o) → P (judged catalogue r own o)
take-cases P catalogue r own o newer older barred = judged-cases P catalogue r own o (λ a. newer) older barred
