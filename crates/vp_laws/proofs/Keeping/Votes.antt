-- Prepares still belong to pending commits, and each vote has its prepare.
use Rattle.std.proofs.Common.{◌≡◌, ◌≢◌, ◌∙◌, ap, sym, subst, ℕ, List, ⊎_elim}
use Rattle.std.specs.Prelude.{Some}
use Rattle.vp_model.specs.Transactions.{writes_held, last_changes, entry_of}
use Rattle.vp_model.specs.Types.{Commit, Change, ViewId, TxnId, Message, Input, Live}
use Rattle.vp_model.specs.Types.message
use Rattle.vp_model.specs.Catalogue.{Catalogue, start_copies}
use Rattle.vp_model.specs.Durable.{DurableState, empty_durable}
use Rattle.vp_model.specs.Site.{SiteState, Stepped}
use Rattle.vp_model.specs.Step.{start}
use Rattle.vp_model.specs.World.{start_world}
use Rattle.vp_laws.proofs.Lists.Members.{Has}
use Rattle.vp_laws.proofs.Lists.Views.{same_site}
use Rattle.vp_laws.specs.Votes.{is_commit}
use Rattle.vp_laws.proofs.Moves.Table.{Comes, next_name}
use Rattle.vp_laws.proofs.Lists.Names.{Apart}
use Rattle.vp_laws.proofs.Worlds.Scenes.{Scene, scene_of, up_in, plain_at, Acted, kept_at}
use Rattle.vp_laws.proofs.Table.Led.{Leads, MayAsk}
use Rattle.vp_laws.proofs.Table.Votes.{SameCall, LiveFrom, IsPrepared, Prepares, MayVote, Votes, operating_not, some_not}
use Rattle.vp_laws.proofs.Invariant.Names.{UsedTxn, InvNames}
use Rattle.vp_laws.proofs.Worlds.Events.{Arrives}
use Rattle.vp_laws.proofs.Lists.Numbers.{one_above}
use Rattle.vp_laws.proofs.Invariant.Votes.{InvVotes, Voted, Prepared}
use Rattle.vp_laws.proofs.Worlds.Sites.{Quiet, QuietIs, live_still, quiet_is, start_sent, started}

prepared_same : (catalogue : Catalogue) (t u : Live) (to : ℕ) (view : ViewId) (number : ℕ) (reads : List ℕ) (writes : List (ℕ × Change)) → t.view ≡ u.view → entry_of t ≡ entry_of u → t.remote ≡ u.remote → t.parts ≡ u.parts → SameCall u.pending t.pending → IsPrepared catalogue u to view number reads writes → IsPrepared catalogue t to view number reads writes
prepared_same catalogue t u to view number reads writes v o r p c q =
    let n = c q.pending q.waits in
    record {
      pending = n.0;
      waits = n.1;
      commit = ap is_commit n.2 ∙ q.commit;
      numbered = n.3 ∙ q.numbered;
      part = rw p q.part;
      in_view = v ∙ q.in_view;
      has_read = rw r q.has_read;
      has_written = ap (λ (e : Commit). writes_held catalogue to (last_changes e)) o ∙ q.has_written;
    }

module _ (catalogue : Catalogue) (w new : Scene) (s : ℕ) (x : SiteState) (given : Input) (o : Stepped) (was : plain_at w s ≡ Some x) (id : x.id ≡ s) (arrives : Arrives w s given) (names : InvNames w) (inv : InvVotes catalogue w) (leads : Leads x o) (l : Votes catalogue x given o) (st : Acted w new s x o) where
  -- a live transaction now, at the moving site
  prepared_here : (txn : TxnId) (to : ℕ) (view : ViewId) (number : ℕ) (reads : List ℕ) (writes : List (ℕ × Change)) → UsedTxn w txn → txn.site ≡ s → ((u : Live) → Has x.live u → u.txn ≡ txn → IsPrepared catalogue u to view number reads writes) → (t : Live) → LiveFrom x t → t.txn ≡ txn → IsPrepared catalogue t to view number reads writes
  prepared_here txn to view number reads writes used here all t (LiveFrom.same u h n v p r k c) e = prepared_same catalogue t u to view number reads writes v p r k c (all u h (sym n ∙ e))
  prepared_here txn to view number reads writes used here all t (LiveFrom.operating u h n idle) e =
      let q = all u h (sym n ∙ e) in
      absurd (⊎_elim (λ none. some_not u.pending q.pending q.waits none) (λ doing. operating_not u.pending q.pending doing.0 q.waits doing.1 q.commit doing.2) idle)
  prepared_here txn to view number reads writes used here all t (LiveFrom.new n) e =
      let same : txn ≡ next_name x = sym e ∙ n in
      absurd (one_above txn.seq x.seq (used.seq x (rw here was) (sym (ap (λ (t : TxnId). t.life) same))) (ap (λ (t : TxnId). t.seq) same))

  prepared_lasts : (to : ℕ) (m : Message) → (from : ℕ) → Has w.sent (record { from = from; to = to; message = m }) → Prepared catalogue w to m → Prepared catalogue new to m
  prepared_lasts to (message.Prepare txn view number reads writes) from sent h = λ y t up live e. ⊎_elim
      (λ (here : txn.site ≡ s).
      let n = st.now in
      let z = rw here at up in
      let same : o.site ≡ y = cc in
      prepared_here txn to view number reads writes (names.sent _ sent).0.0 here (λ u q g. h x u (rw here was) q g) t (l.live t (rw (← same) at live)) e)
      (λ (n : txn.site ≢ s). h y t (rw (ap up_in (st.moved.others txn.site n)) at up) live e)
      (same_site txn.site s)
  prepared_lasts to m from sent h = tt

  prepared_new : (from to : ℕ) (m : Message) → MayAsk x from to m → Prepares catalogue o.site.live to m → Prepared catalogue new to m
  prepared_new from to (message.Prepare txn view number reads writes) (v, held, i, member, other, site, life, seq, f) h = λ y t up live e.
      let here : txn.site ≡ s = site ∙ id in
      let n = st.now in
      let z = rw here at up in
      let same : o.site ≡ y = cc in
      h t (rw (← same) at live) e
  prepared_new from to m a h = tt

  voted_lasts : (from : ℕ) (m : Message) → Voted w from m → Voted new from m
  voted_lasts from (message.Vote txn) h = (h.0, h.1, h.2, h.3, h.4, st.moved.sent _ h.5)
  voted_lasts from m h = tt

  came : (to : ℕ) (txn : TxnId) (view : ViewId) (number : ℕ) (reads : List ℕ) (writes : List (ℕ × Change)) → Comes given to (message.Prepare txn view number reads writes) → Has w.sent (record { from = to; to = s; message = message.Prepare txn view number reads writes })
  came to txn view number reads writes c = rw c at arrives

  voted_new : (from to : ℕ) (m : Message) → from ≡ s → MayVote given to m → Voted new from m
  voted_new from to (message.Vote txn) f (view, number, reads, writes, c) = (to, view, number, reads, writes, rw f (st.moved.sent _ (came to txn view number reads writes c)))
  voted_new from to m f h = tt

  pub votes_keep : InvVotes catalogue new
  votes_keep = record {
    site = λ k y h. ⊎_elim (λ (here : k ≡ s). let z = rw here at h in let n = st.now in let same : o.site ≡ y = cc in subst (λ (y : SiteState). Apart y.live) same l.apart)
        (λ (n : k ≢ s). inv.site k y (rw (ap up_in (st.moved.others k n)) at h)) (same_site k s);
    prepared = λ m h. ⊎_elim (λ old. prepared_lasts m.to m.message m.from old (inv.prepared m old)) (λ sent. prepared_new m.from m.to m.message (leads.sent m sent) (l.prepares m sent)) (st.sent m h);
    voted = λ m h. ⊎_elim (λ old. voted_lasts m.from m.message (inv.voted m old)) (λ sent. let q = l.votes m sent in voted_new m.from m.to m.message (q.0 ∙ id) q.1) (st.sent m h);
  }

start_apart : (catalogue : Catalogue) (s : ℕ) (d : DurableState) → Apart (start catalogue s d).live
unfolding start
start_apart catalogue s d = tt

pub votes_starts : (catalogue : Catalogue) → InvVotes catalogue (scene_of (start_world catalogue))
votes_starts catalogue = record {
  site = λ s x up. subst (λ (x : SiteState). Apart x.live) (started catalogue s x up) (start_apart catalogue s (empty_durable (start_copies catalogue s)));
  prepared = λ m h. absurd (start_sent catalogue m h);
  voted = λ m h. absurd (start_sent catalogue m h);
}

pub votes_quiet : (catalogue : Catalogue) (w new : Scene) (s : ℕ) → Quiet catalogue w new s → InvVotes catalogue w → InvVotes catalogue new
votes_quiet catalogue w new s q inv = record {
  site = λ k y up. site_at k y (quiet_is catalogue w new s q k y up);
  prepared = λ m h. prepared_still m.to m.message (inv.prepared m (rw q.sent at h));
  voted = λ m h. voted_still m.from m.message (inv.voted m (rw q.sent at h));
}
  where
    site_at : (k : ℕ) (y : SiteState) → QuietIs catalogue w s k y → Apart y.live
    site_at k y (QuietIs.here e same) = subst (λ (y : SiteState). Apart y.live) same (start_apart catalogue s (kept_at w s))
    site_at k y (QuietIs.other n old) = inv.site k y old

    prepared_still : (to : ℕ) (m : Message) → Prepared catalogue w to m → Prepared catalogue new to m
    prepared_still to (message.Prepare txn view number reads writes) h = λ y t up live e. h y t (live_still catalogue w s txn.site y t live (quiet_is catalogue w new s q txn.site y up)) live e
    prepared_still to m h = tt

    voted_still : (from : ℕ) (m : Message) → Voted w from m → Voted new from m
    voted_still from (message.Vote txn) h = (h.0, h.1, h.2, h.3, h.4, q.moved.sent _ h.5)
    voted_still from m h = tt
