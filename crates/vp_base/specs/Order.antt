-- The order of views, of transactions and of the owners of locks.
use Rattle.std.specs.Prelude.{Bool, true, false, ◌&&◌, ◌||◌, ◌==◌, nat_lt}
use Rattle.vp_base.specs.declared.ids.ViewId.{ViewId}
use Rattle.vp_base.specs.declared.ids.TxnId.{TxnId}
use Rattle.vp_base.specs.declared.entry.Owner.{Owner}
use Rattle.vp_base.specs.declared.entry.Owner.TheVariants.{Txn, Refresh}

-- views are ordered by number and then by site
abbrev pub same_view : ViewId → ViewId → Bool
same_view v w = (v.number == w.number) && (v.site == w.site)

abbrev pub view_before : ViewId → ViewId → Bool
view_before v w = nat_lt v.number w.number || ((v.number == w.number) && nat_lt v.site w.site)

-- transactions are ordered by site, then life, then place
abbrev pub same_txn : TxnId → TxnId → Bool
same_txn t u = (t.site == u.site) && (t.life == u.life) && (t.seq == u.seq)

abbrev pub txn_before : TxnId → TxnId → Bool
txn_before t u =
    nat_lt t.site u.site
    || ((t.site == u.site) && (nat_lt t.life u.life || ((t.life == u.life) && nat_lt t.seq u.seq)))

-- owners are ordered by transaction, and refresh comes last
abbrev pub same_owner : Owner → Owner → Bool
same_owner (Txn t) (Txn u) = same_txn t u
same_owner (Txn t) Refresh = false
same_owner Refresh (Txn u) = false
same_owner Refresh Refresh = true

abbrev pub owner_before : Owner → Owner → Bool
owner_before (Txn t) (Txn u) = txn_before t u
owner_before (Txn t) Refresh = true
owner_before Refresh o = false
