-- What a message does to the transactions that this site began: answers, refusals, votes, acknowledgements and inquiries.
use Rattle.std.specs.Prelude.{ℕ, Bool, not, ◌==◌, ◌&&◌, if◌then◌else◌, List, filter, Option, Some, None}
use Rattle.std.specs.List.{list_any}
use Rattle.vp_model.specs.Types.{TxnId, Call, Message, Obstacle, Pending, Live, Decision}
use Rattle.vp_base.specs.declared.site.Ending.TheVariants.{LockHeld, ViewChanged, Inaccessible}
use Rattle.vp_model.specs.Types.call
use Rattle.vp_model.specs.Types.log_record
use Rattle.vp_model.specs.Types.message
use Rattle.vp_model.specs.Types.obstacle
use Rattle.vp_model.specs.Words.{◌|>◌, for_some, same_txn, has, is_empty}
use Rattle.vp_model.specs.Catalogue.{Catalogue, find_record}
use Rattle.vp_model.specs.Durable.{acknowledged}
use Rattle.vp_model.specs.Site.{CoordinatorState, Lent, lent_force, lent_send, lent_coordinator}
use Rattle.vp_model.specs.Transactions.{live_of, close, decide, complete, wait_for}
use Rattle.vp_model.specs.Calls.{answer_read, change_asked}

-- where the transaction is live, and its pending call waits for the site
unfoldable pub with_missing : TxnId → ℕ → (Live → Pending → Lent → Lent) → Lent → Lent
with_missing txn from f l = l |> for_some (live_of txn l.live) (λ t. for_some t.pending (if_missing t))
  where
    if_missing : Live → Pending → Lent → Lent
    if_missing t p l = if has p.missing from then f t p l else l

-- the site is no longer missing; where none is, the call is done
abbrev pub count_in : ℕ → Live → Pending → (Lent → Lent) → Lent → Lent
count_in from t p done l =
    let missing = filter (λ q. not (q == from)) p.missing in
    if is_empty missing then done l else wait_for t p missing l

abbrev pub read_answered : Catalogue → ℕ → ℕ → Option (List ℕ) → Live → Pending → Call → Lent → Lent
read_answered catalogue from number value t p (call.Read txn n name) l =
    if p.number == number
    then l |> for_some (find_record catalogue name) (λ rec. count_in from t p (answer_read t p rec value))
    else l
read_answered catalogue from number value t p _ l = l

unfoldable pub on_read_answer : Catalogue → ℕ → TxnId → ℕ → Option (List ℕ) → Lent → Lent
on_read_answer catalogue from txn number value l =
    with_missing txn from (λ t p. read_answered catalogue from number value t p p.call) l

abbrev pub write_answered : Catalogue → ℕ → ℕ → Live → Pending → Lent → Lent
write_answered catalogue from number t p l =
    if p.number == number
    then l |> for_some (change_asked catalogue p.call) (λ deed. count_in from t p (complete t p deed))
    else l

unfoldable pub on_write_answer : Catalogue → ℕ → TxnId → ℕ → Lent → Lent
on_write_answer catalogue from txn number l = with_missing txn from (write_answered catalogue from number) l

-- the record that a call names
abbrev pub record_name : Call → Option (List ℕ)
record_name (call.Read txn number name) = Some name
record_name (call.Write txn number name value) = Some name
record_name (call.Delete txn number name) = Some name
record_name (call.Weigh txn number name table) = Some name
record_name _ = None

-- a lock of another owner or a bar closes a transaction by its call on a record, and another view by any call
abbrev pub refused_by : ℕ → Obstacle → Call → ℕ → Live → Lent → Lent
refused_by id (obstacle.Held holder) words from t l = l |> for_some (record_name words) (λ name. close id t (LockHeld name from holder))
refused_by id (obstacle.OtherView now) words from t l = close id t (ViewChanged from t.view now) l
refused_by id (obstacle.Barred inside total) words from t l = l |> for_some (record_name words) (λ name. close id t (Inaccessible name inside total))

unfoldable pub on_refuse : ℕ → ℕ → TxnId → ℕ → Obstacle → Lent → Lent
on_refuse id from txn number why l =
    with_missing txn from (λ t p l. if p.number == number then refused_by id why p.call from t l else l) l

abbrev pub voted : Catalogue → ℕ → ℕ → Live → Pending → Call → Lent → Lent
voted catalogue id from t p (call.Commit txn number) l = count_in from t p (decide catalogue id t) l
voted catalogue id from t p _ l = l

unfoldable pub on_vote : Catalogue → ℕ → ℕ → TxnId → Lent → Lent
on_vote catalogue id from txn l = with_missing txn from (λ t p. voted catalogue id from t p p.call) l

abbrev pub waits_for : TxnId → ℕ → List Decision → Bool
waits_for txn site decisions = list_any (λ (d : Decision). same_txn d.txn txn && has d.waiting site) decisions

abbrev pub with_acknowledged : TxnId → ℕ → CoordinatorState → CoordinatorState
with_acknowledged txn from c = record c { decisions = acknowledged txn from c.decisions }

unfoldable pub on_ack : ℕ → TxnId → Lent → Lent
on_ack from txn l =
    if waits_for txn from l.decisions
    then l
    |> lent_force (log_record.Acked txn from)
    |> lent_coordinator (with_acknowledged txn from)
    else l

abbrev pub is_live : TxnId → List Live → Bool
is_live txn live = list_any (λ t. same_txn t.txn txn) live

abbrev pub is_decided : TxnId → List Decision → Bool
is_decided txn decisions = list_any (λ (d : Decision). same_txn d.txn txn) decisions

-- a coordinator without a decision answers abort, as presumed abort has it
unfoldable pub on_inquire : ℕ → ℕ → TxnId → Lent → Lent
on_inquire id from txn l =
    if (txn.site == id) && not (is_live txn l.live)
    then lent_send id (message.Outcome txn (is_decided txn l.decisions)) from l
    else l

-- the messages that the coordinator handles
unfoldable pub on_answer : Catalogue → ℕ → ℕ → Message → Lent → Lent
on_answer catalogue id from (message.ReadAnswer txn number value) l = on_read_answer catalogue from txn number value l
on_answer catalogue id from (message.WriteAnswer txn number) l = on_write_answer catalogue from txn number l
on_answer catalogue id from (message.Refuse txn number why) l = on_refuse id from txn number why l
on_answer catalogue id from (message.Vote txn) l = on_vote catalogue id from txn l
on_answer catalogue id from (message.Ack txn) l = on_ack from txn l
on_answer catalogue id from (message.Inquire txn) l = on_inquire id from txn l
on_answer catalogue id from _ l = l
