-- Two live transactions of one view do not use a record that one of them has written: they would have conflicting locks at a site.
use Rattle.std.proofs.Common.{◌≡◌, ◌≢◌, ◌∙◌, sym, subst, ℕ, Bool, true, false, List, refl, inr, ⊎_elim}
use Rattle.std.specs.Prelude.{Option, Some, None}
use Rattle.vp_laws.proofs.Journal.Changed.{operation_changed, HasChanged}
use Rattle.vp_model.specs.Types.{View, Op, Stored, Live}
use Rattle.vp_model.specs.Types.op
use Rattle.vp_model.specs.Types.owner
use Rattle.vp_model.specs.Words.{value_at}
use Rattle.vp_model.specs.Catalogue.{Catalogue, holders}
use Rattle.vp_model.specs.Refresh.{other_holders_in}
use Rattle.vp_model.specs.Site.{SiteState}
use Rattle.vp_laws.specs.Entries.{record_in}
use Rattle.vp_laws.proofs.Lists.Members.{Has}
use Rattle.vp_laws.proofs.Lists.Changes.{mapped_has}
use Rattle.vp_laws.proofs.Lists.Views.{same_site}
use Rattle.vp_laws.proofs.Lists.LockTables.{HasLock}
use Rattle.vp_laws.proofs.Table.Led.{IsOf}
use Rattle.vp_laws.proofs.Table.Copies.{value_pair}
use Rattle.vp_laws.proofs.Table.Leaves.{Uses}
use Rattle.vp_laws.proofs.Worlds.Scenes.{Scene, plain_at}
use Rattle.vp_laws.proofs.Invariant.Shares.{HasRequest}
use Rattle.vp_laws.proofs.Invariant.Ops.{HasUsed}
use Rattle.vp_laws.proofs.Invariant.Answers.{HasRead}
use Rattle.vp_laws.proofs.Invariant.Entered.{AgreedAs}
use Rattle.vp_laws.proofs.Invariant.HasLeft.{HasLeft}
use Rattle.vp_laws.proofs.Invariant.Used.{HasAnswered, LockedAt}
use Rattle.vp_laws.proofs.Invariant.Held.{holds_copy, copy_held}
use Rattle.vp_laws.proofs.Copies.Weights.{force_holder}
use Rattle.vp_laws.proofs.Invariant.Reading.{InvReading}
use Rattle.vp_laws.proofs.Copies.OwnUse.{view_is}
use Rattle.vp_laws.proofs.Invariant.Copies.{InvCopies}
use Rattle.vp_laws.proofs.Invariant.Refresh.{InvRefresh}
use Rattle.vp_laws.proofs.Keeping.Entered.{other_holder}
use Rattle.vp_laws.proofs.Keeping.Guards.{txn_same}
use Rattle.vp_laws.proofs.Invariant.Known.{Known}

-- the transaction has used the record at the site: it is live there and has the lock, or the site has answered for it
pub data UsedAt (w : Scene) (q : ℕ) (t : Live) (rec : ℕ) (exclusive : Bool) : Type 0 where
  own : (y : SiteState) → plain_at w q ≡ Some y → Has y.live t → HasLock rec exclusive (owner.Txn t.txn) y.locks → UsedAt w q t rec exclusive
  answered : HasAnswered w q t.txn rec exclusive → UsedAt w q t rec exclusive

-- where it has used the record of an operation: at a holder in its view
pub record UsedSome (catalogue : Catalogue) (w : Scene) (t : Live) (v : View) (rec : ℕ) : Type 0 where
  pub site : ℕ
  pub holder : Has (holders catalogue rec) site
  pub member : Has v.members site
  pub exclusive : Bool
  pub used : UsedAt w site t rec exclusive

module _ (catalogue : Catalogue) (w : Scene) (k : Known catalogue w) (copies : InvCopies catalogue w) (refresh : InvRefresh catalogue w) (reading : InvReading catalogue w) where
  -- a site that holds its view has the lock
  locked_at : (j : ℕ) (y : SiteState) (t : Live) → plain_at w j ≡ Some y → Has y.live t → (q rec : ℕ) (exclusive : Bool) → UsedAt w q t rec exclusive → (z : SiteState) (v : View) → plain_at w q ≡ Some z → z.held ≡ Some v → v.id ≡ t.view → HasLock rec exclusive (owner.Txn t.txn) z.locks
  locked_at j y t up live q rec exclusive (UsedAt.own a there h lock) z v up_z held same = let is : a ≡ z = (let b = up_z in cc) in subst (λ (y : SiteState). HasLock rec exclusive (owner.Txn t.txn) y.locks) is lock
  locked_at j y t up live q rec exclusive (UsedAt.answered a) z v up_z held same = ⊎_elim
      (λ (l : HasLeft w q t.view). absurd (l.unused z up_z (Uses.held v held same)))
      (λ (l : LockedAt w q t.txn rec exclusive). let is : l.0 ≡ z = (let b = l.1 in let c = up_z in cc) in subst (λ (y : SiteState). HasLock rec exclusive (owner.Txn t.txn) y.locks) is l.2)
      (k.used.used j q rec exclusive y t up live a)

  one_owner : (q : ℕ) (z : SiteState) (t u : Live) (rec : ℕ) (exclusive : Bool) → plain_at w q ≡ Some z → HasLock rec true (owner.Txn t.txn) z.locks → HasLock rec exclusive (owner.Txn u.txn) z.locks → t.txn ≡ u.txn
  one_owner q z t u rec exclusive up a b = txn_same t.txn u.txn (sym a.by ∙ (k.guards.site q z up).apart a.lock b.lock t.txn u.txn a.has b.has (a.on ∙ sym b.on) (a.strong refl) a.by b.by ∙ b.by)

  pub apart_used : (j i : ℕ) (y z : SiteState) (t u : Live) → plain_at w j ≡ Some y → Has y.live t → plain_at w i ≡ Some z → Has z.live u → t.view ≡ u.view → (q rec : ℕ) (exclusive : Bool) → UsedAt w q t rec true → UsedAt w q u rec exclusive → t.txn ≡ u.txn
  apart_used j i y z t u up live up_u live_u same q rec exclusive (UsedAt.own a there h lock) b =
      let of : IsOf a t = (k.led.site q a there).live t h in
      one_owner q a t u rec exclusive there lock (locked_at i z u up_u live_u q rec exclusive b a of.0 there of.1 (of.2 ∙ same))
  apart_used j i y z t u up live up_u live_u same q rec exclusive (UsedAt.answered a) (UsedAt.own b there h lock) =
      let of : IsOf b u = (k.led.site q b there).live u h in
      one_owner q b t u rec exclusive there (locked_at j y t up live q rec true (UsedAt.answered a) b of.0 there of.1 (of.2 ∙ sym same)) lock
  apart_used j i y z t u up live up_u live_u same q rec exclusive (UsedAt.answered a) (UsedAt.answered b) = k.used.conflict j i q rec exclusive y z t u up live up_u live_u same a b

  module _ (j : ℕ) (y : SiteState) (t : Live) (up : plain_at w j ≡ Some y) (live : Has y.live t) (v : View) (agreed : AgreedAs w t.view v) where
    id : y.id ≡ j
    id = (k.views.site j y up).id

    held : y.held ≡ Some v
    held = view_is catalogue w k j y t up live v agreed

    -- what it wrote it has used at each holder in the view
    pub written_at : (rec q : ℕ) → HasChanged t rec → Has (holders catalogue rec) q → Has v.members q → UsedAt w q t rec true
    written_at rec q wrote holder member = ⊎_elim
        (λ (here : q ≡ j). UsedAt.own y (rw here up) live (((k.guards.site j y up).own t live).wrote rec wrote (holds_copy catalogue w j y up (k.views.site j y up).kept k.held rec (rw here at holder))))
        (λ (other : q ≢ j). UsedAt.answered (HasAnswered.wrote ((k.answers.live j y t up live).wrote rec wrote q (subst (λ (held : Option View). Has (other_holders_in catalogue y.id held rec) q) (sym held) (other_holder catalogue y.id rec q v holder member (λ z. other (z ∙ id)))))))
        (same_site q j)

    wrote_some : (rec : ℕ) → HasChanged t rec → UsedSome catalogue w t v rec
    wrote_some rec wrote =
        let q = force_holder catalogue w k refresh rec v (refresh.uses j y t rec v up live (inr wrote) agreed).usable in
        record { site = q.0; holder = q.1; member = q.2; exclusive = true; used = written_at rec q.0 wrote q.1 q.2 }

    -- a site that has answered a read is a holder in the view
    pub read_from : (rec q : ℕ) → HasRead w q t.txn rec → Has (holders catalogue rec) q × Has v.members q
    read_from rec q r =
        let request : HasRequest w r.0 q t.txn r.2 r.1 rec false = HasRequest.to_read r.5 in
        let b = k.led.asked _ r.5 in
        let viewed : t.view ≡ r.2 = (k.shares.says _ r.5).live y t (rw (((k.led.site j y up).names t live).0 ∙ id) up) live refl in
        let same : b.0 ≡ v = k.views.unique b.0 v b.1 agreed.0 (b.2 ∙ sym viewed ∙ sym agreed.1) in
        (refresh.asked r.0 q r.1 rec t.txn r.2 false request, subst (λ (v : View). Has v.members q) same b.3)

    read_some : (rec : ℕ) (value : Option (List ℕ)) → Has t.ops (op.Read rec value) → UsedSome catalogue w t v rec
    read_some rec value h = go (value_at rec y.copies) refl
      where
        elsewhere : (q : ℕ) → HasRead w q t.txn rec → UsedSome catalogue w t v rec
        elsewhere q r = let a = read_from rec q r in record { site = q; holder = a.0; member = a.1; exclusive = false; used = UsedAt.answered (HasAnswered.read r) }

        go : (c : Option Stored) → value_at rec y.copies ≡ c → UsedSome catalogue w t v rec
        go (Some stored) e =
            let copied = mapped_has (λ (p : ℕ × Stored). p.0) y.copies (rec, stored) (value_pair rec y.copies stored e) in
            record {
              site = j;
              holder = copy_held catalogue w j y up (k.views.site j y up).kept k.held rec copied;
              member = subst (Has v.members) id ((k.views.site j y up).tidy.held v held).3;
              exclusive = false;
              used = UsedAt.own y up live (((k.guards.site j y up).own t live).read rec value h copied);
            }
        go None e = ⊎_elim (λ wrote. wrote_some rec wrote) (λ r. elsewhere r.0 r.1) (reading.done j y t rec value up live h e)

    op_some : (operation : Op) → Has t.ops operation → UsedSome catalogue w t v (record_in operation)
    op_some (op.Read rec value) h = read_some rec value h
    op_some (op.Write rec value) h = wrote_some rec (operation_changed t rec value h)

    pub used_some : (rec : ℕ) → HasUsed t.ops rec → UsedSome catalogue w t v rec
    used_some rec h = subst (UsedSome catalogue w t v) h.2 (op_some h.0 h.1)

  -- so no other one has used what it wrote
  pub no_conflict : (j i : ℕ) (y z : SiteState) (t u : Live) → plain_at w j ≡ Some y → Has y.live t → plain_at w i ≡ Some z → Has z.live u → (v : View) → AgreedAs w t.view v → t.view ≡ u.view → (rec : ℕ) → HasUsed u.ops rec → HasChanged t rec → t.txn ≡ u.txn
  no_conflict j i y z t u up live up_u live_u v agreed same rec h wrote =
      let q = used_some i z u up_u live_u v (agreed.0, agreed.1 ∙ same) rec h in
      apart_used j i y z t u up live up_u live_u same q.site rec q.exclusive (written_at j y t up live v agreed rec q.site wrote q.holder q.member) q.used
