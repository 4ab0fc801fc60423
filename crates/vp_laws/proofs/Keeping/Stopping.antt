-- No transaction of a lower view is decided any more that wrote a record which is closed for a view.
use Rattle.std.proofs.Common.{◌≡◌, ◌≢◌, ◌∙◌, ap, sym, subst, ℕ, true, false, List, ⊎_elim}
use Rattle.std.specs.Prelude.{Some}
use Rattle.vp_model.specs.Types.{Change, ViewId, TxnId, View, Commit, Input, Live}
use Rattle.vp_model.specs.Types.message
use Rattle.vp_model.specs.Words.{is_empty, has, keys}
use Rattle.vp_model.specs.Catalogue.{Catalogue, holders, weights_of, accessible}
use Rattle.vp_model.specs.Transactions.{entry_of, last_changes, writes_held}
use Rattle.vp_model.specs.Site.{SiteState, Stepped}
use Rattle.vp_catalog.proofs.Majorities.{accessible_share}
use Rattle.vp_laws.proofs.Lists.Members.{Has, has_from_test, map_has, filter_keeps, has_of, has_test}
use Rattle.vp_laws.proofs.Lists.Changes.{mapped_has, some_not_empty}
use Rattle.vp_laws.proofs.Lists.Views.{Precedes, same_site}
use Rattle.vp_laws.proofs.Moves.LocalViews.{letter}
use Rattle.vp_laws.proofs.Table.Led.{IsOf, Led}
use Rattle.vp_laws.proofs.Table.Steps.{EnteredFor, Steps}
use Rattle.vp_laws.proofs.Table.Shares.{Shares}
use Rattle.vp_laws.proofs.Table.Leaves.{Uses}
use Rattle.vp_laws.proofs.Worlds.Scenes.{Scene, plain_at, Acted}
use Rattle.vp_laws.proofs.Invariant.Shares.{InDoubt, InvShares}
use Rattle.vp_laws.proofs.Invariant.Entered.{AgreedAs, InvEntered}
use Rattle.vp_laws.proofs.Invariant.Closed.{ClosedAt}
use Rattle.vp_laws.proofs.Journal.ValuesAfter.{Wrote}

-- two sets of sites in which a record is accessible share a holder
pub shared_holder : (catalogue : Catalogue) (rec : ℕ) (sites others : List ℕ) → accessible catalogue rec sites ≡ true → accessible catalogue rec others ≡ true → (q : ℕ) × Has (holders catalogue rec) q × Has sites q × Has others q
shared_holder catalogue rec sites others a b =
    let q = accessible_share catalogue rec sites others a b in
    (q.holder.0, mapped_has (λ (w : ℕ × ℕ). w.0) (weights_of catalogue rec) q.holder (has_of (weights_of catalogue rec) q.holder q.listed), has_from_test sites q.holder.0 q.inside, has_from_test others q.holder.0 q.among_others)

-- and one in which it is accessible has a holder
pub in_force_holder : (catalogue : Catalogue) (rec : ℕ) (sites : List ℕ) → accessible catalogue rec sites ≡ true → (q : ℕ) × Has (holders catalogue rec) q × Has sites q
in_force_holder catalogue rec sites a = let q = shared_holder catalogue rec sites sites a a in (q.0, q.1, q.2)

module _ (catalogue : Catalogue) (w new : Scene) (s : ℕ) (x : SiteState) (given : Input) (o : Stepped) (up : plain_at w s ≡ Some x) (id : x.id ≡ s) (led : Led x) (shares : InvShares catalogue w) (shares_now : InvShares catalogue new) (entered_now : InvEntered catalogue new) (steps : Steps catalogue x given o.site.coordinator o.effects.messages o.effects.commits) (p : Shares x given o) (st : Acted w new s x o) where
  -- a holder in its view which has left it for a view for which the record is closed there
  pub met_stops : (e : Commit) (v : View) (rec q : ℕ) (i : ViewId) → Has o.effects.commits e → AgreedAs new e.view v → Wrote e rec → Has (holders catalogue rec) q → Has v.members q → Precedes e.view i → ClosedAt w q rec i → ⊥
  met_stops e v rec q i h agreed wrote holder member below c = ⊎_elim
      (λ (own : q ≡ e.txn.site). (c.left e.view below).unused x (rw (own ∙ site) up) (Uses.held of.0 of.1 (of.2 ∙ viewed)))
      (λ (other : q ≢ e.txn.site). certain other)
      (same_site q e.txn.site)
    where
      f : EnteredFor catalogue x given e
      f = steps.entered e h

      named : f.handled.was.txn ≡ e.txn
      named = sym (ap (λ (t : Live). t.txn) f.handled.same) ∙ ap (λ (e : Commit). e.txn) f.is

      viewed : f.handled.was.view ≡ e.view
      viewed = sym (ap (λ (t : Live). t.view) f.handled.same) ∙ ap (λ (e : Commit). e.view) f.is

      done : f.handled.was.ops ≡ e.ops
      done = sym (ap (λ (t : Live). t.ops) f.handled.same) ∙ ap (λ (e : Commit). e.ops) f.is

      site : e.txn.site ≡ s
      site = ap (λ (t : TxnId). t.site) (sym named) ∙ (led.names f.handled.was f.handled.live).0 ∙ id

      of : IsOf x f.handled.was
      of = led.live f.handled.was f.handled.live

      writes : Has (keys (writes_held catalogue q (last_changes e))) rec
      writes =
          let r = map_has (λ (p : ℕ × Change). p.0) (last_changes e) rec wrote in
          let k = filter_keeps (λ (w : ℕ × Change). has (holders catalogue w.0) q) (last_changes e) r.0 r.1 (has_test (holders catalogue r.0.0) q (subst (λ (n : ℕ). Has (holders catalogue n) q) (sym r.2) holder)) in
          subst (Has (keys (writes_held catalogue q (last_changes e)))) r.2 (mapped_has (λ (p : ℕ × Change). p.0) _ r.0 k)

      some : is_empty (writes_held catalogue q (last_changes e)) ≡ false
      some = let r = map_has (λ (p : ℕ × Change). p.0) _ rec writes in some_not_empty _ r.0 r.1

      whole : entry_of f.handled.was ≡ e
      whole = sym (ap entry_of f.handled.same) ∙ f.is

      doubted : q ≢ e.txn.site → InDoubt w q e.txn
      doubted other =
          let vote = entered_now.voted e q (st.enters e h) (record { view = v; agreed = agreed; rec = rec; wrote = wrote; holder = holder; member = member }) other in
          ⊎_elim
          (λ old. shares.says (letter q vote.0 (message.Vote e.txn)) old x f.handled.was (rw site up) f.handled.live named (subst (λ (e : Commit). is_empty (writes_held catalogue q (last_changes e)) ≡ false) (sym whole) some))
          (λ more. absurd (other (p.from (letter q vote.0 (message.Vote e.txn)) more ∙ id ∙ sym site)))
          (st.sent (letter q vote.0 (message.Vote e.txn)) vote.1)

      certain : q ≢ e.txn.site → ⊥
      certain other =
          let d = doubted other in
          let g = (shares.doubts q d.0 d.1).0 in
          let says = shares_now.entry e (st.enters e h) g.0 q d.0.view g.1 g.2 d.0.writes (subst (λ (t : TxnId). Has new.sent (letter g.0 q (message.Prepare t d.0.view g.1 g.2 d.0.writes))) d.2 (st.moved.sent _ g.3)) in
          c.certain d.0 d.1 (subst (λ (ws : List (ℕ × Change)). Has (keys ws) rec) says.1 writes) (subst (λ (j : ViewId). Precedes j i) says.0 below)
