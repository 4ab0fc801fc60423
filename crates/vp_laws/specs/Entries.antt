-- What the journal says of transactions, and what the votes on a live one have left.
use Rattle.std.specs.Prelude.{◌≡◌, ℕ, false, Some, true}
use Rattle.std.specs.List.{Contains}
use Rattle.vp_model.specs.Types.{TxnId, ViewId, View, Commit, Live, Op, Doubt}
use Rattle.vp_model.specs.Types.op
use Rattle.vp_model.specs.Types.message
use Rattle.vp_model.specs.Words.{keys, is_empty, value_at, view_before}
use Rattle.vp_model.specs.Catalogue.{Catalogue, Table, accessible_by, has_holders}
use Rattle.vp_model.specs.Headline.{table_after}
use Rattle.vp_model.specs.OneCopy.{order}
use Rattle.vp_model.specs.Site.{SiteState}
use Rattle.vp_model.specs.Transactions.{last_changes, entry_of, writes_held}
use Rattle.vp_model.specs.World.{Place, WorldState, place_of, site_of}
use Rattle.std.specs.Prelude.{Option, None, List, [], filter}

abbrev pub doubts_in : Option Place → List Doubt
doubts_in None = []
doubts_in (Some place) = place.durable.doubts

-- what a site is in doubt about, be it up or down
abbrev pub doubts_of : WorldState → ℕ → List Doubt
doubts_of w site = doubts_in (place_of site w.places)

-- as long as a transaction is live, each site that voted on it and holds a record that it changed is in doubt about it, in its
-- view and with its last changes there
abbrev pub VotesLeaveDoubts : Catalogue → WorldState → Type 0
VotesLeaveDoubts catalogue w =
    (from to : ℕ) (txn : TxnId) (x : SiteState) (t : Live) → Contains w.sent (record { from = from; to = to; message = message.Vote txn }) → site_of w txn.site ≡ Some x → Contains x.live t → t.txn ≡ txn → is_empty (writes_held catalogue from (last_changes (entry_of t))) ≡ false → Contains (doubts_of w from) (record { txn = txn; view = t.view; writes = writes_held catalogue from (last_changes (entry_of t)) })

-- the record of an operation
abbrev pub record_in : Op → ℕ
record_in (op.Read rec value) = rec
record_in (op.Write rec value) = rec

-- the table of a record in force in a view: the one that the entries of lower views leave
abbrev pub table_in_force : Catalogue → List Commit → ℕ → ViewId → Table
table_in_force catalogue journal rec view = table_after catalogue rec (filter (λ (e : Commit). view_before e.view view) (order journal))

-- each entry is of an agreed view of which its coordinator is a member, and whose members have, by the table in force there, more than
-- half of the weight of each record that it uses or changes; to give a record a table is to change it
abbrev pub EntriesAreAccessible : Catalogue → WorldState → Type 0
EntriesAreAccessible catalogue w =
    (e : Commit) → Contains w.journal e → (v : View) × Contains w.agreed v × (v.id ≡ e.view) × Contains v.members e.txn.site × ((operation : Op) → Contains e.ops operation → accessible_by (table_in_force catalogue w.journal (record_in operation) v.id) v.members ≡ true)
    × ((rec : ℕ) → Contains (keys (last_changes e)) rec → accessible_by (table_in_force catalogue w.journal rec v.id) v.members ≡ true)

-- each table that an entry gives a record has the record's holders, and by it too the members of the entry's view have more than half
-- of the weight
abbrev pub TablesAreAccessible : Catalogue → WorldState → Type 0
TablesAreAccessible catalogue w =
    (e : Commit) (rec : ℕ) (table : Table) → Contains w.journal e → value_at rec e.tables ≡ Some table → (v : View) × Contains w.agreed v × (v.id ≡ e.view) × (has_holders catalogue rec table ≡ true) × (accessible_by table v.members ≡ true)
