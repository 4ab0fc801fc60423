-- The texts of messages, as a trace has them, with records by name.
use Rattle.std.specs.Prelude.{ℕ, Bool, true, false, List, [], ◌∷◌, ◌++◌, flat_map, codes, Option, Some, None}
use Rattle.std.specs.Fmt.{decimal}
use Rattle.vp_model.specs.Types.{ViewId, TxnId, Put, Change, Stored, Obstacle, Message}
use Rattle.vp_model.specs.Types.puts
use Rattle.vp_model.specs.Types.message
use Rattle.vp_model.specs.Types.obstacle
use Rattle.vp_model.specs.Catalogue.{Catalogue, name_of}
use Rattle.vp_model.specs.Texts.Fields.{view_text, held_text, txn_text, owner_text, call_name_text, sites_text, table_text}

abbrev pub read_text : Catalogue → ℕ → List ℕ
read_text catalogue rec = codes " r " ++ name_of catalogue rec

abbrev pub put_text : Catalogue → ℕ → Put → List ℕ
put_text catalogue rec puts.Keep = []
put_text catalogue rec puts.Absent = codes " d " ++ name_of catalogue rec
put_text catalogue rec (puts.Value value) = codes " w " ++ (name_of catalogue rec ++ 32 ∷ value)

abbrev pub write_text : Catalogue → ℕ × Change → List ℕ
write_text catalogue write = put_text catalogue write.0 write.1.put

abbrev pub given_text : Catalogue → ℕ → Option (List (ℕ × ℕ)) → List ℕ
given_text catalogue rec None = []
given_text catalogue rec (Some table) = codes " t " ++ (name_of catalogue rec ++ table_text table)

abbrev pub own_table_text : Option (List (ℕ × ℕ)) → List ℕ
own_table_text None = []
own_table_text (Some table) = table_text table

-- an answer to a refresh: the view and the record, the content, the date, and the table of its own
abbrev pub copy_text : List ℕ → Option (List ℕ) → Stored → List ℕ
copy_text asked (Some value) c = codes "refresh-answer " ++ (asked ++ 32 ∷ (value ++ 32 ∷ (view_text c.date ++ own_table_text c.table)))
copy_text asked None c = codes "refresh-absent " ++ (asked ++ 32 ∷ (view_text c.date ++ own_table_text c.table))

abbrev pub obstacle_text : Obstacle → List ℕ
obstacle_text (obstacle.Held owner) = codes "held " ++ owner_text owner
obstacle_text (obstacle.OtherView now) = codes "view " ++ held_text now
obstacle_text (obstacle.Barred inside total) = codes "barred " ++ (decimal inside ++ (codes " of " ++ decimal total))

abbrev pub outcome_text : Bool → List ℕ
outcome_text true = codes " commit"
outcome_text false = codes " abort"

-- what each request for a lock or a vote begins with: the transaction, its view and the number of its call
abbrev pub request_text : List ℕ → TxnId → ViewId → ℕ → List ℕ
request_text word txn view number = word ++ (txn_text txn ++ 32 ∷ (view_text view ++ 32 ∷ decimal number))

abbrev pub message_text : Catalogue → Message → List ℕ
message_text catalogue (message.Invite id) = codes "invite " ++ view_text id
message_text catalogue (message.Accept id) = codes "accept " ++ view_text id
message_text catalogue (message.Stale id promise) = codes "stale " ++ (view_text id ++ 32 ∷ view_text promise)
message_text catalogue (message.ViewCommit id members) = codes "view " ++ (view_text id ++ 32 ∷ sites_text members)
message_text catalogue (message.ReadRequest txn view number rec) =
    request_text (codes "read-request ") txn view number ++ 32 ∷ name_of catalogue rec
message_text catalogue (message.ReadAnswer txn number (Some value)) = codes "read-answer " ++ (call_name_text txn number ++ 32 ∷ value)
message_text catalogue (message.ReadAnswer txn number None) = codes "read-absent " ++ call_name_text txn number
message_text catalogue (message.WriteRequest txn view number rec) =
    request_text (codes "write-request ") txn view number ++ 32 ∷ name_of catalogue rec
message_text catalogue (message.WriteAnswer txn number) = codes "write-answer " ++ call_name_text txn number
message_text catalogue (message.Refuse txn number why) = codes "refuse " ++ (call_name_text txn number ++ 32 ∷ obstacle_text why)
message_text catalogue (message.Prepare txn view number reads writes) =
    request_text (codes "prepare ") txn view number ++ (flat_map (read_text catalogue) reads
    ++ (flat_map (write_text catalogue) writes ++ flat_map (λ (w : ℕ × Change). given_text catalogue w.0 w.1.table) writes))
message_text catalogue (message.Vote txn) = codes "vote " ++ txn_text txn
message_text catalogue (message.Outcome txn commit) = codes "outcome " ++ (txn_text txn ++ outcome_text commit)
message_text catalogue (message.Ack txn) = codes "ack " ++ txn_text txn
message_text catalogue (message.Inquire txn) = codes "inquire " ++ txn_text txn
message_text catalogue (message.RefreshRequest view rec) = codes "refresh-request " ++ (view_text view ++ 32 ∷ name_of catalogue rec)
message_text catalogue (message.RefreshAnswer view rec stored) = copy_text (view_text view ++ 32 ∷ name_of catalogue rec) stored.value stored
message_text catalogue (message.Probe view) = codes "probe " ++ view_text view
