-- What an entry of a step means for others: it belongs to a live transaction here, each other holder of what it wrote is in doubt
-- about it, and nothing here is in doubt about that or under refresh.
use Rattle.std.proofs.Common.{◌≡◌, ◌≢◌, ◌⊎◌, ◌∙◌, ap, sym, subst, ℕ, Bool, false, List, [], ◌∷◌, ◌++◌, refl, inl, inr, ⊎_elim, append-nil}
use Rattle.std.specs.Prelude.{Some}
use Rattle.vp_model.specs.Types.{Change, TxnId, View, Message, Commit, Input, Part, Live, Refreshing, Doubt}
use Rattle.vp_model.specs.Types.message
use Rattle.vp_model.specs.Words.{is_empty, same_txn, keys}
use Rattle.vp_model.specs.Catalogue.{Catalogue, holders}
use Rattle.vp_model.specs.Durable.{DurableState}
use Rattle.vp_model.specs.Transactions.{entry_of, last_changes, writes_held}
use Rattle.vp_model.specs.Site.{SiteState, Stepped}
use Rattle.vp_model.specs.Step.{durable_of}
use Rattle.vp_model.proofs.SameTxn.{same_txn-not}
use Rattle.vp_laws.proofs.Lists.Members.{Has, has_none, has_one_is, has_first, map_has, any_false}
use Rattle.vp_laws.proofs.Moves.LocalViews.{letter}
use Rattle.vp_laws.proofs.Moves.Table.{Comes, Decides}
use Rattle.vp_laws.proofs.Table.Led.{IsOf}
use Rattle.vp_laws.proofs.Table.Shares.{Prepared, DoubtNow, OutcomeComes}
use Rattle.vp_laws.proofs.Worlds.Scenes.{Scene, kept_in, kept_at}
use Rattle.vp_laws.proofs.Invariant.Shares.{InDoubt}
use Rattle.vp_laws.proofs.Invariant.Entered.{AgreedAs}
use Rattle.vp_laws.proofs.Invariant.Held.{holds_copy}
use Rattle.vp_laws.proofs.Worlds.Sites.{KeptIs, kept_is}
use Rattle.vp_laws.proofs.Keeping.Does.{Does}
use Rattle.vp_laws.proofs.Keeping.Guards.{txn_same}
use Rattle.vp_laws.proofs.Keeping.Listed.{wrote_here, not_below_itself}
use Rattle.vp_laws.proofs.Keeping.Settled.{doubt_was}
use Rattle.vp_laws.proofs.Invariant.Known.{Known}
use Rattle.vp_laws.proofs.Lists.Changes.{some_not_empty}
use Rattle.vp_laws.proofs.Journal.ValuesAfter.{Wrote}

module _ (catalogue : Catalogue) (w new : Scene) (s : ℕ) (x : SiteState) (given : Input) (o : Stepped) (k : Known catalogue w) (n : Known catalogue new) (d : Does catalogue w new s x given o) where
  -- the journal stays, or has one more entry
  pub data JournalNow : Type 0 where
    stays : new.journal ≡ w.journal → JournalNow
    longer : (e : Commit) → Has o.effects.commits e → new.journal ≡ w.journal ++ e ∷ [] → JournalNow

  pub journal_now : JournalNow
  journal_now = ⊎_elim
      (λ (none : o.effects.commits ≡ []). JournalNow.stays (d.st.journal ∙ ap (λ (cs : List Commit). w.journal ++ cs) none ∙ append-nil w.journal))
      (λ (one : (e : Commit) × (o.effects.commits ≡ e ∷ [])). JournalNow.longer one.0 (rw one.1 (has_first one.0 [])) (d.st.journal ∙ ap (λ (cs : List Commit). w.journal ++ cs) one.1))
      d.endings.once

  -- a step has one entry, where it has any
  pub journal_with : (e : Commit) → Has o.effects.commits e → new.journal ≡ w.journal ++ e ∷ []
  journal_with e h = ⊎_elim
      (λ (none : o.effects.commits ≡ []). absurd (has_none e (rw none at h)))
      (λ (one : (g : Commit) × (o.effects.commits ≡ g ∷ [])). d.st.journal ∙ ap (λ (cs : List Commit). w.journal ++ cs) one.1 ∙ ap (λ (g : Commit). w.journal ++ g ∷ []) (has_one_is one.0 e (rw one.1 at h)))
      d.endings.once

  pub one_entry : (e g : Commit) → Has o.effects.commits e → Has o.effects.commits g → e ≡ g
  one_entry e g h i = ⊎_elim
      (λ (none : o.effects.commits ≡ []). absurd (has_none e (rw none at h)))
      (λ (one : (c : Commit) × (o.effects.commits ≡ c ∷ [])). sym (has_one_is one.0 e (rw one.1 at h)) ∙ has_one_is one.0 g (rw one.1 at i))
      d.endings.once

  -- no message but a vote makes an entry
  abbrev pub is_vote : Message → Type 0
  is_vote m = (txn : TxnId) × (m ≡ message.Vote txn)

  pub none_entered : (from : ℕ) (m : Message) → Comes given from m → (is_vote m → ⊥) → (e : Commit) → Has o.effects.commits e → ⊥
  none_entered from m c not e h = go (d.steps.entered e h).was (d.steps.entered e h).decides
    where
      go : (t : Live) → Decides catalogue x given t → ⊥
      go t (Decides.alone was p here next commit alone same) = let z = sym c ∙ next.comes in cc
      go t (Decides.voted p from here last comes commit) = not (t.txn, (let z = sym c ∙ comes in cc))

  pub journal_same : (from : ℕ) (m : Message) → Comes given from m → (is_vote m → ⊥) → new.journal ≡ w.journal
  journal_same from m c not = go journal_now
    where
      go : JournalNow → new.journal ≡ w.journal
      go (JournalNow.stays e) = e
      go (JournalNow.longer e h is) = absurd (none_entered from m c not e h)

  -- the transaction of a new entry
  pub record Entering (e : Commit) : Type 0 where
    pub was : Live
    pub live : Has x.live was
    pub named : was.txn ≡ e.txn
    pub viewed : was.view ≡ e.view
    pub done : entry_of was ≡ e
    pub site : e.txn.site ≡ s
    -- the view that is held
    pub view : View
    pub held : x.held ≡ Some view
    pub is : view.id ≡ e.view

  pub entering : (e : Commit) → Has o.effects.commits e → Entering e
  entering e h =
      let f = d.steps.entered e h in
      let u = f.handled.was in
      let named : u.txn ≡ e.txn = sym (ap (λ (t : Live). t.txn) f.handled.same) ∙ ap (λ (e : Commit). e.txn) f.is in
      let viewed : u.view ≡ e.view = sym (ap (λ (t : Live). t.view) f.handled.same) ∙ ap (λ (e : Commit). e.view) f.is in
      let of : IsOf x u = d.led.live u f.handled.live in
      record {
        was = u;
        live = f.handled.live;
        named = named;
        viewed = viewed;
        done = sym (ap entry_of f.handled.same) ∙ f.is;
        site = ap (λ (t : TxnId). t.site) (sym named) ∙ (d.led.names u f.handled.live).0 ∙ d.here.id;
        view = of.0;
        held = of.1;
        is = of.2 ∙ viewed;
      }

  -- it is agreed
  pub entering_agreed : (e : Commit) (f : Entering e) → AgreedAs w e.view f.view
  entering_agreed e f = (d.here.held f.view f.held, f.is)

  -- a doubt of an entry's transaction is of its view, with its writes
  pub doubt_says : (e : Commit) → Has new.journal e → (j : ℕ) (u : Doubt) → Has (kept_at w j).doubts u → u.txn ≡ e.txn → (e.view ≡ u.view) × (writes_held catalogue j (last_changes e) ≡ u.writes)
  doubt_says e h j u there named =
      let q = (k.shares.doubts j u there).0 in
      let says = n.shares.entry e h q.0 j u.view q.1 q.2 u.writes (subst (λ (t : TxnId). Has new.sent (letter q.0 j (message.Prepare t u.view q.1 q.2 u.writes))) named (d.st.moved.sent _ q.3)) in
      (says.0, says.1)

  -- each other holder in the view of what it wrote is in doubt about it, before the step and after it
  pub record Doubted (e : Commit) (j rec : ℕ) : Type 0 where
    pub doubt : Doubt
    pub was : Has (kept_at w j).doubts doubt
    pub now : Has (kept_at new j).doubts doubt
    pub named : doubt.txn ≡ e.txn
    pub viewed : e.view ≡ doubt.view
    pub on : Has (keys doubt.writes) rec

  pub doubted : (e : Commit) (j rec : ℕ) (v : View) → Has o.effects.commits e → AgreedAs new e.view v → Has v.members j → Has (holders catalogue rec) j → Wrote e rec → j ≢ s → Doubted e j rec
  doubted e j rec v h agreed member holder wrote other =
      let f = entering e h in
      let vote = n.entered.voted e j (d.st.enters e h) (record { view = v; agreed = agreed; rec = rec; wrote = wrote; holder = holder; member = member }) (λ z. other (z ∙ f.site)) in
      let writes = wrote_here catalogue e j rec holder wrote in
      let doubt : InDoubt w j e.txn = ⊎_elim
      (λ old. k.shares.says (letter j vote.0 (message.Vote e.txn)) old x f.was (rw f.site d.up) f.live f.named (rw f.done (some writes)))
      (λ more. absurd (other (d.shares.from (letter j vote.0 (message.Vote e.txn)) more ∙ d.here.id)))
      (d.st.sent (letter j vote.0 (message.Vote e.txn)) vote.1) in
      let says = doubt_says e (d.st.enters e h) j doubt.0 doubt.1 doubt.2 in
      record {
        doubt = doubt.0;
        was = doubt.1;
        now = subst (λ (k : DurableState). Has k.doubts doubt.0) (sym (ap kept_in (d.st.moved.others j other))) doubt.1;
        named = doubt.2;
        viewed = says.0;
        on = subst (λ (ws : List (ℕ × Change)). Has (keys ws) rec) says.1 writes;
      }
    where
      some : Has (keys (writes_held catalogue j (last_changes e))) rec → is_empty (writes_held catalogue j (last_changes e)) ≡ false
      some writes = let r = map_has (λ (p : ℕ × Change). p.0) _ _ writes in some_not_empty _ r.0 r.1

  -- here nothing is in doubt on what it wrote
  pub certain_was : (e : Commit) (rec : ℕ) → Has o.effects.commits e → Wrote e rec → Has (holders catalogue rec) s → (u : Doubt) → Has x.doubts u → Has (keys u.writes) rec → ⊥
  certain_was e rec h wrote holder u there on =
      let f = entering e h in
      let locks = k.guards.site s x d.up in
      let own = (locks.own f.was f.live).wrote rec (subst (λ (e : Commit). Wrote e rec) (sym f.done) wrote) (holds_copy catalogue w s x d.up d.here.kept k.held rec holder) in
      let its = locks.doubted u rec there on in
      let same : u.txn ≡ f.was.txn = txn_same u.txn f.was.txn (sym its.by ∙ locks.apart its.lock own.lock u.txn f.was.txn its.has own.has (its.on ∙ sym own.on) (its.strong refl) its.by own.by ∙ own.by) in
      (d.below.doubts u there).1 (ap (λ (t : TxnId). t.site) same ∙ (d.led.names f.was f.live).0)

  pub certain_now : (e : Commit) (rec : ℕ) → Has o.effects.commits e → Wrote e rec → Has (holders catalogue rec) s → (u : Doubt) → Has o.site.doubts u → Has (keys u.writes) rec → ⊥
  certain_now e rec h wrote holder u there on = go (d.shares.doubts u there)
    where
      go : DoubtNow x given u → ⊥
      go (DoubtNow.still old) = certain_was e rec h wrote holder u old on
      go (DoubtNow.fresh from part reads writes a some is) = none_entered from (message.Prepare part.txn a.view a.number reads writes) a.comes (λ q. let z = q.1 in cc) e h

  -- and it is not under refresh
  pub not_listed : (e : Commit) (r : Refreshing) → Has o.effects.commits e → Has x.refresh r → Wrote e r.rec → ⊥
  not_listed e r h listed wrote =
      let f = entering e h in
      let locks = k.guards.site s x d.up in
      let lock = (locks.own f.was f.live).wrote r.rec (subst (λ (e : Commit). Wrote e r.rec) (sym f.done) wrote) (k.listed.listed s x r d.up listed) in
      let low = locks.lower r listed in
      let u = low.3 lock.lock f.was.txn lock.has lock.on lock.by in
      let says = doubt_says e (d.st.enters e h) s u.0 (subst (λ (k : DurableState). Has k.doubts u.0) d.here.kept u.1) (u.2 ∙ f.named) in
      let same : f.view ≡ low.0 = (let a = f.held in let b = low.1 in cc) in
      not_below_itself u.0.view low.0.id u.3 (sym says.0 ∙ sym f.is ∙ ap (λ (v : View). v.id) same)

  -- what an old entry's view was
  pub agreed_was : (e : Commit) (v : View) → Has w.journal e → AgreedAs new e.view v → AgreedAs w e.view v
  agreed_was e v h a =
      let q = k.led.entry e h in
      let same : q.0 ≡ v = n.views.unique q.0 v (d.st.moved.agreed q.0 q.1) a.0 (q.2 ∙ sym a.1) in
      (subst (Has w.agreed) same q.1, a.1)

  -- what has become of a doubt: it stays, or its outcome came
  pub doubt_stays : (j : ℕ) (u : Doubt) → Has (kept_at w j).doubts u → Has (kept_at new j).doubts u ⊎ ((j ≡ s) × OutcomeComes given u.txn)
  doubt_stays j u h = go (kept_is w new s x o d.st j)
    where
      go : KeptIs w new s (durable_of o.site) j → Has (kept_at new j).doubts u ⊎ ((j ≡ s) × OutcomeComes given u.txn)
      go (KeptIs.other m same) = inl (subst (λ (k : DurableState). Has k.doubts u) (sym same) h)
      go (KeptIs.here z same) = ⊎_elim
          (λ still. inl (subst (λ (k : DurableState). Has k.doubts u) (sym same) still))
          (λ over. inr (z, over))
          (d.shares.stays u (subst (λ (k : DurableState). Has k.doubts u) (ap (kept_at w) z ∙ sym d.here.kept) h))

  -- and where it is from: it was there, or a prepare came for it now
  pub record Fresh (j : ℕ) (u : Doubt) : Type 0 where
    pub here : j ≡ s
    pub from : ℕ
    pub part : Part
    pub reads : List ℕ
    pub writes : List (ℕ × Change)
    pub prepared : Prepared x given from part reads writes
    pub is : (record { txn = part.txn; view = part.view; writes = writes }) ≡ u

  pub doubt_from : (j : ℕ) (u : Doubt) → Has (kept_at new j).doubts u → Has (kept_at w j).doubts u ⊎ Fresh j u
  doubt_from j u h = go (kept_is w new s x o d.st j)
    where
      made : j ≡ s → DoubtNow x given u → Has (kept_at w j).doubts u ⊎ Fresh j u
      made z (DoubtNow.still old) = inl (subst (λ (k : DurableState). Has k.doubts u) (d.here.kept ∙ ap (kept_at w) (sym z)) old)
      made z (DoubtNow.fresh from part reads writes a some is) = inr (record { here = z; from = from; part = part; reads = reads; writes = writes; prepared = a; is = is })

      go : KeptIs w new s (durable_of o.site) j → Has (kept_at w j).doubts u ⊎ Fresh j u
      go (KeptIs.other m same) = inl (subst (λ (k : DurableState). Has k.doubts u) same h)
      go (KeptIs.here z same) = made z (d.shares.doubts u (subst (λ (k : DurableState). Has k.doubts u) same h))

  -- no other doubt here was of its transaction
  pub fresh_name : (j : ℕ) (u : Doubt) → Fresh j u → (v : Doubt) → Has (kept_at w j).doubts v → v.txn ≢ u.txn
  fresh_name j u f v there named = same_txn-not v.txn f.part.txn (any_false (λ (u : Doubt). same_txn u.txn f.part.txn) x.doubts f.prepared.certain v (subst (λ (k : DurableState). Has k.doubts v) (ap (kept_at w) f.here ∙ sym d.here.kept) there)) (named ∙ ap (λ (u : Doubt). u.txn) (sym f.is))

  -- the journal stays, and no outcome came
  pub fresh_same : (j : ℕ) (u : Doubt) → Fresh j u → new.journal ≡ w.journal
  fresh_same j u f = journal_same f.from (message.Prepare f.part.txn f.prepared.view f.prepared.number f.reads f.writes) f.prepared.comes (λ q. let z = q.1 in cc)

  pub fresh_no_outcome : (j : ℕ) (u : Doubt) → Fresh j u → (from : ℕ) (txn : TxnId) (commit : Bool) → Comes given from (message.Outcome txn commit) → ⊥
  fresh_no_outcome j u f from txn commit c = let z = sym f.prepared.comes ∙ c in cc

  -- a new doubt is of no transaction with an entry
  pub fresh_not_entered : (j : ℕ) (u : Doubt) → Fresh j u → Has (kept_at new j).doubts u → (e : Commit) → Has new.journal e → e.txn ≢ u.txn
  fresh_not_entered j u f there e h named =
      let was = doubt_was catalogue w new s x given o d.up d.arrives d.here.id d.here.kept k.views n.views d.led k.led k.ends k.shares (λ t q. k.ops.live s x t d.up q) k.entered n.entered n.below k.settled d.waits d.endings d.steps d.shares d.leaves d.st e j (rw (← (fresh_same j u f)) h) (u, there, sym named) in
      fresh_name j u f was.0 was.1 (was.2 ∙ named)
