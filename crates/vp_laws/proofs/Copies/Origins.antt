-- Where each copy in the world after a step comes from: it is untouched, or is written by a transaction in doubt that commits or by
-- an entry of the step, or a refresh brought it.
use Rattle.std.proofs.Common.{◌≡◌, ◌≢◌, ◌⊎◌, ◌∙◌, ap, sym, subst, ℕ, Bool, true, false, refl, inl, inr, ⊎_elim}
use Rattle.std.specs.Prelude.{Some}
use Rattle.vp_model.specs.Types.{Change, ViewId, TxnId, Commit, Input, Stored, Doubt}
use Rattle.vp_model.specs.Types.message
use Rattle.vp_model.specs.Words.{keys, value_at, same_view}
use Rattle.vp_model.specs.Catalogue.{Catalogue, holders}
use Rattle.vp_model.specs.Durable.{DurableState, doubt_of}
use Rattle.vp_model.specs.Transactions.{last_changes, writes_held}
use Rattle.vp_model.specs.Site.{SiteState, Stepped}
use Rattle.vp_model.specs.Step.{durable_of}
use Rattle.vp_laws.proofs.Lists.Members.{Has}
use Rattle.vp_laws.proofs.Lists.Views.{AtMost, Precedes, same_is, same_from, same_site}
use Rattle.vp_laws.proofs.Moves.LocalViews.{letter}
use Rattle.vp_laws.proofs.Moves.Table.{Comes}
use Rattle.vp_laws.specs.Decisions.{dated_at}
use Rattle.vp_laws.proofs.Table.Copies.{value_pair}
use Rattle.vp_laws.proofs.Table.CopyAt.{OwnCopy, CopyAt, Refreshed}
use Rattle.vp_laws.proofs.Table.Shares.{OutcomeComes}
use Rattle.vp_laws.proofs.Worlds.Scenes.{Scene, kept_at}
use Rattle.vp_laws.proofs.Invariant.Dated.{IsDated}
use Rattle.vp_laws.proofs.Invariant.Held.{copy_value}
use Rattle.vp_laws.proofs.Copies.OneDoubt.{doubt_found}
use Rattle.vp_laws.proofs.Copies.Facts.{copy_dated, copy_holder, closed_above}
use Rattle.vp_laws.proofs.Worlds.Sites.{KeptIs, kept_is}
use Rattle.vp_laws.proofs.Keeping.NewEntries.{doubted, doubt_stays, Doubted}
use Rattle.vp_laws.proofs.Copies.Opening.{stops}
use Rattle.vp_laws.proofs.Keeping.Does.{Does}
use Rattle.vp_laws.proofs.Invariant.Copies.{FromView}
use Rattle.vp_laws.proofs.Invariant.Refresh.{InvRefresh}
use Rattle.vp_laws.proofs.Keeping.Guards.{strictly}
use Rattle.vp_laws.proofs.Keeping.Listed.{wrote_here}
use Rattle.vp_laws.proofs.Invariant.Known.{Known}
use Rattle.vp_laws.proofs.Journal.ValuesAfter.{Wrote}

module _ (catalogue : Catalogue) (w new : Scene) (s : ℕ) (x : SiteState) (given : Input) (o : Stepped) (k : Known catalogue w) (n : Known catalogue new) (d : Does catalogue w new s x given o) where
  -- the copy was there, and nothing of this step has written it
  pub record Untouched (j rec : ℕ) (c : Stored) : Type 0 where
    pub was : value_at rec (kept_at w j).copies ≡ Some c
    -- a doubt on it whose commit came is here still
    pub outcome : j ≡ s → (from : ℕ) (u : Doubt) → Comes given from (message.Outcome u.txn true) → doubt_of u.txn x.doubts ≡ Some u → Has (keys u.writes) rec → Has o.site.doubts u
    pub entered : j ≡ s → (e : Commit) → Has o.effects.commits e → Wrote e rec → ⊥

  -- it is of a doubt here that commits now and is gone
  pub record Applied (j rec : ℕ) (c : Stored) : Type 0 where
    pub here : j ≡ s
    pub from : ℕ
    pub doubt : Doubt
    pub write : ℕ × Change
    pub old : Stored
    pub comes : Comes given from (message.Outcome doubt.txn true)
    pub was : Has (kept_at w j).doubts doubt
    pub wrote : Has doubt.writes write
    pub before : Has (kept_at w j).copies (write.0, old)
    pub is : dated_at doubt.view write old ≡ (rec, c)
    pub gone : (v : Doubt) → Has (kept_at new j).doubts v → v.txn ≢ doubt.txn

  -- it is of an entry of this step
  pub record Written (j rec : ℕ) (c : Stored) : Type 0 where
    pub here : j ≡ s
    pub entry : Commit
    pub write : ℕ × Change
    pub old : Stored
    pub entered : Has o.effects.commits entry
    pub wrote : Has (writes_held catalogue x.id (last_changes entry)) write
    pub before : Has (kept_at w j).copies (write.0, old)
    pub is : dated_at entry.view write old ≡ (rec, c)

  pub data Own (j rec : ℕ) (c : Stored) : Type 0 where
    old : Untouched j rec c → Own j rec c
    outcome : Applied j rec c → Own j rec c
    entered : Written j rec c → Own j rec c

  -- or a refresh that was asked for in the held view brought it, and it is not older than the own one
  pub record Brought (j rec : ℕ) (c : Stored) : Type 0 where
    pub here : j ≡ s
    pub own : Stored
    pub from : Own j rec own
    pub newer : AtMost own.date c.date
    pub refreshed : Refreshed catalogue x given o.site.doubts rec c

  pub data Origin (j rec : ℕ) (c : Stored) : Type 0 where
    plain : Own j rec c → Origin j rec c
    brought : Brought j rec c → Origin j rec c

  at_was : (j : ℕ) → j ≡ s → durable_of x ≡ kept_at w j
  at_was j z = d.here.kept ∙ ap (kept_at w) (sym z)

  at_now : (j : ℕ) → j ≡ s → kept_at new j ≡ durable_of o.site
  at_now j z = ap (kept_at new) z ∙ d.st.kept_now

  own_of : (j rec : ℕ) (c : Stored) → j ≡ s → OwnCopy catalogue x given o.site.doubts o.effects.commits (rec, c) → Own j rec c
  own_of j rec c z (OwnCopy.still h untaken) = Own.old (record {
    was = was;
    outcome = λ e. untaken.outcome;
    entered = λ e g h wrote. untaken.entered g h (subst (λ (i : ℕ). Has (keys (writes_held catalogue i (last_changes g))) rec) (sym d.here.id) (wrote_here catalogue g s rec (subst (Has (holders catalogue rec)) z (copy_holder catalogue w k j rec c was)) wrote));
  })
    where
      was : value_at rec (kept_at w j).copies ≡ Some c
      was = subst (λ (k : DurableState). value_at rec k.copies ≡ Some c) (at_was j z) (copy_value catalogue w s x d.up d.here.kept k.held rec c h)
  own_of j rec c z (OwnCopy.outcome from u b comes h there first before is gone) = Own.outcome (record {
    here = z;
    from = from;
    doubt = u;
    write = b;
    old = first;
    comes = comes;
    was = subst (λ (k : DurableState). Has k.doubts u) (at_was j z) h;
    wrote = there;
    before = subst (λ (k : DurableState). Has k.copies (b.0, first)) (at_was j z) before;
    is = is;
    gone = λ v q. gone v (subst (λ (k : DurableState). Has k.doubts v) (at_now j z) q);
  })
  own_of j rec c z (OwnCopy.entered e b h there first before is) = Own.entered (record {
    here = z;
    entry = e;
    write = b;
    old = first;
    entered = h;
    wrote = there;
    before = subst (λ (k : DurableState). Has k.copies (b.0, first)) (at_was j z) before;
    is = is;
  })

  pub origin : (j rec : ℕ) (c : Stored) → value_at rec (kept_at new j).copies ≡ Some c → Origin j rec c
  origin j rec c h = go (kept_is w new s x o d.st j)
    where
      from_copy : j ≡ s → CopyAt catalogue x given o.site.doubts o.effects.commits (rec, c) → Origin j rec c
      from_copy z (CopyAt.here own) = Origin.plain (own_of j rec c z own)
      from_copy z (CopyAt.refreshed b own le r) = Origin.brought (record { here = z; own = b; from = own_of j rec b z own; newer = le; refreshed = r })

      go : KeptIs w new s (durable_of o.site) j → Origin j rec c
      go (KeptIs.other m is) = Origin.plain (Own.old (record {
        was = subst (λ (k : DurableState). value_at rec k.copies ≡ Some c) is h;
        outcome = λ z. absurd (m z);
        entered = λ z. absurd (m z);
      }))
      go (KeptIs.here z is) = from_copy z (d.unlisting.base.0.copies (rec, c) (value_pair rec o.site.copies c (subst (λ (k : DurableState). value_at rec k.copies ≡ Some c) is h)))

  -- a doubt on an untouched copy that is gone was aborted, so its transaction has no entry
  pub gone_aborted : (j rec : ℕ) (c : Stored) (u : Doubt) → Untouched j rec c → Has (kept_at w j).doubts u → Has (keys u.writes) rec → Has (kept_at new j).doubts u ⊎ ((e : Commit) → Has w.journal e → e.txn ≢ u.txn)
  gone_aborted j rec c u t there on = ⊎_elim (λ still. inl still) (λ (over : (j ≡ s) × OutcomeComes given u.txn). ended over.0 over.1.0 over.1.1 over.1.2) (doubt_stays catalogue w new s x given o k n d j u there)
    where
      ended : j ≡ s → (from : ℕ) (commit : Bool) → Comes given from (message.Outcome u.txn commit) → Has (kept_at new j).doubts u ⊎ ((e : Commit) → Has w.journal e → e.txn ≢ u.txn)
      ended z from true comes =
          let e = (k.ends.told (letter from s (message.Outcome u.txn true)) (d.came from _ comes)).1 in
          let found = doubt_found catalogue w k.shares e.0 e.1 j u there (sym e.2) in
          inl (subst (λ (k : DurableState). Has k.doubts u) (sym (at_now j z)) (t.outcome z from u comes (subst (λ (k : DurableState). doubt_of u.txn k.doubts ≡ Some u) (sym (at_was j z)) found) on))
      ended z from false comes = inr (λ e h named. k.settled.aborted e from s h (subst (λ (t : TxnId). Has w.sent (letter from s (message.Outcome t false))) (sym named) (d.came from _ comes)) (u, subst (λ (j : ℕ). Has (kept_at w j).doubts u) z there, sym named))

  -- a new entry that wrote an untouched copy is of its date's view, and is in doubt there
  pub meets : (j rec : ℕ) (c : Stored) → Untouched j rec c → FromView catalogue w j rec c.date → InvRefresh catalogue w → (e : Commit) → Has o.effects.commits e → Wrote e rec → AtMost e.view c.date → Doubted catalogue w new s x given o k n d e j rec × (e.view ≡ c.date)
  meets j rec c t from refresh e h wrote le = go (same_view e.view c.date) refl
    where
      dated : IsDated w rec c.date
      dated = copy_dated catalogue w k j rec c t.was

      holder : Has (holders catalogue rec) j
      holder = copy_holder catalogue w k j rec c t.was

      member : FromView catalogue w j rec c.date → e.view ≡ c.date → Doubted catalogue w new s x given o k n d e j rec
      member (FromView.closed v agreed later m opened) is = absurd (stops catalogue w new s x given o k n d refresh e v rec h wrote (subst (λ (i : ViewId). Precedes i v.id) (sym is) later) opened)
      member (FromView.member v agreed m) is = ⊎_elim
          (λ (z : j ≡ s). absurd (t.entered z e h wrote))
          (λ other. doubted catalogue w new s x given o k n d e j rec v h (d.st.moved.agreed v agreed.0, agreed.1 ∙ sym is) m holder wrote other)
          (same_site j s)

      go : (b : Bool) → same_view e.view c.date ≡ b → Doubted catalogue w new s x given o k n d e j rec × (e.view ≡ c.date)
      go true q = let is = same_is e.view c.date q in (member from is, is)
      go false q =
          let a = closed_above catalogue w k refresh j rec c.date e.view from dated (strictly e.view c.date le (λ is. unlike q is)) in
          absurd (stops catalogue w new s x given o k n d refresh e a.view rec h wrote a.above a.opened)
        where
          unlike : same_view e.view c.date ≡ false → e.view ≡ c.date → ⊥
          unlike q is = let z = same_from e.view c.date is in cc
