-- What was asked for a live transaction stays current, and what it has done was answered.
use Rattle.std.proofs.Common.{◌≡◌, ◌≢◌, ◌∙◌, ap, sym, subst, ℕ, ◌+◌, ◌≤◌, true, List, [], ◌∷◌, ◌++◌, refl, arith, inl, inr, ⊎_elim, length}
use Rattle.std.specs.Prelude.{Option, Some, not, ◌==◌}
use Rattle.vp_laws.proofs.Journal.Changed.{read_alters_none, change_there, changed_by, alters, HasChanged}
use Rattle.vp_model.specs.Types.{Commit, TxnId, View, Sent, Message, Input, Pending, Live}
use Rattle.vp_model.specs.Types.message
use Rattle.vp_model.specs.Words.{keys, is_empty}
use Rattle.vp_model.specs.Catalogue.{Catalogue}
use Rattle.vp_model.specs.Site.{SiteState, Stepped, Lent}
use Rattle.vp_model.specs.Transactions.{last_changes, entry_of, deed_answer, Deed}
use Rattle.vp_model.specs.Refresh.{other_holders_in, other_holders}
use Rattle.vp_model.specs.Step.{mark}
use Rattle.vp_laws.proofs.Lists.Members.{Has, has_none, has_one, has_one_is, has_cases, filter_keeps}
use Rattle.vp_laws.proofs.Lists.Views.{same_site}
use Rattle.vp_laws.proofs.Moves.LocalViews.{letter}
use Rattle.vp_laws.proofs.Moves.Table.{record_of, Comes, next_name, IsNext, Reads, Changes, Counts, remaining, Completes}
use Rattle.vp_laws.proofs.Table.Votes.{some_not}
use Rattle.vp_laws.proofs.Table.Steps.{LiveNow, Only, SentFor, Steps}
use Rattle.vp_laws.proofs.Moves.OnlyCoordinator.{is_aside}
use Rattle.vp_laws.proofs.Invariant.Names.{UsedTxn, InvNames}
use Rattle.vp_laws.proofs.Invariant.Shares.{InvShares}
use Rattle.vp_laws.proofs.Invariant.Ops.{LiveOk}
use Rattle.vp_laws.proofs.Worlds.Scenes.{Scene, plain_at, Acted, scene_of}
use Rattle.vp_laws.proofs.Worlds.Events.{Arrives, came_in}
use Rattle.vp_laws.proofs.Worlds.Sites.{NowIs, now_is, Quiet, QuietIs, quiet_is, start_sent, started_idle, live_still}
use Rattle.vp_laws.proofs.Lists.Numbers.{one_above, not_same}
use Rattle.vp_laws.proofs.Lists.Changes.{longer, is_none, empty_not}
use Rattle.vp_laws.proofs.Moves.Calls.{waiting, done, reading, writing, read_not_write, reads_same, writes_same, unmarked, no_commit_reads, no_commit_writes, same_writes}
use Rattle.vp_laws.proofs.Invariant.Answers.{Current, Asks, HasRead, AnswersOk, InvAnswers, WritesTo, HasWrote, AskSays}
use Rattle.vp_laws.proofs.Keeping.Endings.{fresh}
use Rattle.vp_model.specs.World.{start_world}

up_to_next : (a b c : ℕ) → a ≡ b + 1 → c ≡ b + 1 → a ≤ c
up_to_next a b c e f = omega arith

at_most_next : (a b c : ℕ) → a ≤ b → c ≡ b + 1 → a ≤ c
at_most_next a b c e f = omega arith

-- the call of a pending call with other sites missing is the same
same_reads : (catalogue : Catalogue) (p a : Pending) (rec : ℕ) → p.call ≡ a.call → Reads catalogue a rec → Reads catalogue p rec
same_reads catalogue p a rec e r = record { txn = r.txn; number = r.number; name = r.name; words = e ∙ r.words; found = r.found }

-- what an asked call is stays so for the same call
abbrev Stable : (Pending → Type 0) → Type 0
Stable Asked = (p a : Pending) → p.call ≡ a.call → Asked p → Asked a

marked_current : (Asked : Pending → Type 0) → Stable Asked → (number : ℕ) (u : Live) → Current Asked number u → Current Asked number (mark u)
marked_current Asked stable number u h = ⊎_elim (λ old. inl old)
    (λ (q : (p : Pending) × (u.pending ≡ Some p) × (p.number ≡ number) × Asked p). inr (record q.0 { marked = true }, rw q.1 refl, q.2, stable q.0 (record q.0 { marked = true }) refl q.3)) h

module _ (catalogue : Catalogue) (w new : Scene) (s : ℕ) (x : SiteState) (given : Input) (o : Stepped) (up : plain_at w s ≡ Some x) (id : x.id ≡ s) (arrives : Arrives w s given) (names : InvNames w) (owned : (t : Live) → Has x.live t → t.txn.site ≡ x.id) (shares : InvShares catalogue w) (ops : (u : Live) → Has x.live u → LiveOk catalogue x.id x.held u) (inv : InvAnswers catalogue w) (c : Steps catalogue x given o.site.coordinator o.effects.messages o.effects.commits) (st : Acted w new s x o) where
  stays : (m : Sent) → Has w.sent m → Has new.sent m
  stays = st.moved.sent

  module _ (Asked : Pending → Type 0) (stable : Stable Asked) where
    -- the request is current still, for what the transaction has become
    current_now : (number : ℕ) (t : Live) → ((u : Live) → Has x.live u → u.txn ≡ t.txn → Current Asked number u) → t.txn ≢ next_name x → LiveNow catalogue x given t → Current Asked number t
    current_now number t was n (LiveNow.still h) = was t h refl
    current_now number t was n (LiveNow.marked u h tick e) = subst (Current Asked number) e (marked_current Asked stable number u (was u h (ap (λ (t : Live). t.txn) e)))
    current_now number t was n (LiveNow.waits u p from h f m l k e) = subst (Current Asked number) e (⊎_elim (λ old. inl old)
        (λ (q : (p : Pending) × (u.pending ≡ Some p) × (p.number ≡ number) × Asked p).
        let same : q.0 ≡ p = (let a = q.1 in cc) in
        inr (record p { missing = remaining from p }, refl, ap (λ (p : Pending). p.number) (sym same) ∙ q.2, stable q.0 (record p { missing = remaining from p }) (ap (λ (p : Pending). p.call) same) q.3))
        (was u h (ap (λ (t : Live). t.txn) e)))
    current_now number t was n (LiveNow.completed u p deed l h k e) = subst (Current Asked number) e (⊎_elim
        (λ old. inl (at_most_next number (length u.answers) (length (u.answers ++ deed_answer u.txn p.number deed ∷ [])) old (longer u.answers (deed_answer u.txn p.number deed))))
        (λ (q : (p : Pending) × (u.pending ≡ Some p) × (p.number ≡ number) × Asked p). inl (up_to_next number (length u.answers) (length (u.answers ++ deed_answer u.txn p.number deed ∷ [])) (sym q.2 ∙ (ops u h).next q.0 q.1) (longer u.answers (deed_answer u.txn p.number deed))))
        (was u h (ap (λ (t : Live). t.txn) e)))
    current_now number t was n (LiveNow.reads u p rec q h a e) = subst (Current Asked number) e (⊎_elim (λ old. inl old) (λ (q : (p : Pending) × (u.pending ≡ Some p) × (p.number ≡ number) × Asked p). absurd (some_not u.pending q.0 q.1 a.next.idle)) (was u h (ap (λ (t : Live). t.txn) e)))
    current_now number t was n (LiveNow.writes u p rec value h a e) = subst (Current Asked number) e (⊎_elim (λ old. inl old) (λ (q : (p : Pending) × (u.pending ≡ Some p) × (p.number ≡ number) × Asked p). absurd (some_not u.pending q.0 q.1 a.next.idle)) (was u h (ap (λ (t : Live). t.txn) e)))
    current_now number t was n (LiveNow.prepares u p h a e) = subst (Current Asked number) e (⊎_elim (λ old. inl old) (λ (q : (p : Pending) × (u.pending ≡ Some p) × (p.number ≡ number) × Asked p). absurd (some_not u.pending q.0 q.1 a.next.idle)) (was u h (ap (λ (t : Live). t.txn) e)))
    current_now number t was n (LiveNow.begins view h e) = absurd (n (ap (λ (t : Live). t.txn) (sym e)))

    asks_last : (txn : TxnId) (number : ℕ) → UsedTxn w txn → AskSays w txn number Asked → AskSays new txn number Asked
    asks_last txn number used h = λ y t g k e. go y t (now_is w new s x o st txn.site y g) k e
      where
        go : (y : SiteState) (t : Live) → NowIs w s o.site txn.site y → Has y.live t → t.txn ≡ txn → Current Asked number t
        go y t (NowIs.other n g) k e = h y t g k e
        go y t (NowIs.here z same) k e =
            current_now number t (λ u q f. h x u (rw z up) q (f ∙ e)) (λ f. fresh w s x up id txn used (sym e ∙ f)) (c.live t (subst (λ (y : SiteState). Has y.live t) (sym same) k))

    asks_new : (u now : Live) (p : Pending) → Has x.live u → now.txn ≡ u.txn → now.pending ≡ Some p → Asked p → Only o.site.live now → AskSays new u.txn p.number Asked
    asks_new u now p h name pending asked only = λ y t g k e. go y t (now_is w new s x o st u.txn.site y g) k e
      where
        go : (y : SiteState) (t : Live) → NowIs w s o.site u.txn.site y → Has y.live t → t.txn ≡ u.txn → Current Asked p.number t
        go y t (NowIs.other n g) k e = absurd (n (owned u h ∙ id))
        go y t (NowIs.here z same) k e =
            let is : t ≡ now = only t (subst (λ (y : SiteState). Has y.live t) (sym same) k) (e ∙ sym name) in
            inr (p, ap (λ (t : Live). t.pending) is ∙ pending, refl, asked)

  reads_stable : (rec : ℕ) → Stable (λ p. Reads catalogue p rec)
  reads_stable rec p a e r = same_reads catalogue a p rec (sym e) r

  writes_stable : (rec : ℕ) → Stable (WritesTo catalogue rec)
  writes_stable rec p a e r = (r.0, same_writes catalogue a p rec r.0 (sym e) r.1)

  asks_lasts : (m : Sent) → Has w.sent m → (from to : ℕ) (words : Message) → letter from to words ≡ m → Asks catalogue w words → Asks catalogue new words
  asks_lasts m h from to (message.ReadRequest txn view number rec) e q = asks_last (λ p. Reads catalogue p rec) (reads_stable rec) txn number (names.sent (letter from to (message.ReadRequest txn view number rec)) (rw e h)).0.0 q
  asks_lasts m h from to (message.WriteRequest txn view number rec) e q = asks_last (WritesTo catalogue rec) (writes_stable rec) txn number (names.sent (letter from to (message.WriteRequest txn view number rec)) (rw e h)).0.0 q
  asks_lasts m h from to words e q = tt

  aside_asks : (m : Message) → is_aside m ≡ true → Asks catalogue new m
  aside_asks (message.ReadRequest txn view number rec) e = cc
  aside_asks (message.WriteRequest txn view number rec) e = cc
  aside_asks m e = tt

  asks_sent : (m : Sent) → SentFor catalogue x given o.site.live m → Asks catalogue new m.message
  asks_sent m (SentFor.aside a) = aside_asks m.message a.aside
  asks_sent m (SentFor.outcome txn commit g e) = subst (Asks catalogue new) (sym e) tt
  asks_sent m (SentFor.reads u p rec q h a only e) = subst (λ (m : Sent). Asks catalogue new m.message) e (asks_new (λ p. Reads catalogue p rec) (reads_stable rec) u (reading u p rec q) (record p { missing = q ∷ [] }) h refl refl (same_reads catalogue (record p { missing = q ∷ [] }) p rec refl a.reads) only)
  asks_sent m (SentFor.writes u p rec value q h a k only e) = subst (λ (m : Sent). Asks catalogue new m.message) e (asks_new (WritesTo catalogue rec) (writes_stable rec) u (writing u p (other_holders catalogue x rec)) (record p { missing = other_holders catalogue x rec }) h refl refl (value, same_writes catalogue (record p { missing = other_holders catalogue x rec }) p rec value refl a.writes) only)
  asks_sent m (SentFor.prepares u p q h a k only e) = subst (λ (m : Sent). Asks catalogue new m.message) e tt

  -- the site that answers the pending call has answered for the record
  wrote_now : (u : Live) (p : Pending) (from rec : ℕ) (deed : Deed) → Has x.live u → u.pending ≡ Some p → Changes catalogue p rec deed → Comes given from (message.WriteAnswer u.txn p.number) → HasWrote new from u.txn rec
  wrote_now u p from rec value h e r g =
      let sent = came_in w s given arrives from (message.WriteAnswer u.txn p.number) g in
      let q = shares.says _ sent in
      let k : Current (WritesTo catalogue q.1) p.number u = inv.asks _ q.2 x u (rw (owned u h ∙ id) up) h refl in
      ⊎_elim (λ low. absurd (one_above p.number (length u.answers) low ((ops u h).next p e)))
      (λ (z : (a : Pending) × (u.pending ≡ Some a) × (a.number ≡ p.number) × WritesTo catalogue q.1 a).
      let same : z.0 ≡ p = (let b = z.1 in cc) in
      let is : q.1 ≡ rec = writes_same catalogue p q.1 rec z.3.0 value (same_writes catalogue p z.0 q.1 z.3.0 (ap (λ (p : Pending). p.call) (sym same)) z.3.1) r in
      subst (HasWrote new from u.txn) is (s, p.number, q.0, stays _ sent, stays _ q.2)) k

  read_now : (u : Live) (p : Pending) (from rec : ℕ) (value : Option (List ℕ)) → Has x.live u → u.pending ≡ Some p → Reads catalogue p rec → Comes given from (message.ReadAnswer u.txn p.number value) → HasRead new from u.txn rec
  read_now u p from rec value h e r g =
      let sent = came_in w s given arrives from (message.ReadAnswer u.txn p.number value) g in
      let q = shares.says _ sent in
      let k : Current (λ p. Reads catalogue p q.1) p.number u = inv.asks _ q.2 x u (rw (owned u h ∙ id) up) h refl in
      ⊎_elim (λ low. absurd (one_above p.number (length u.answers) low ((ops u h).next p e)))
      (λ (z : (a : Pending) × (u.pending ≡ Some a) × (a.number ≡ p.number) × Reads catalogue a q.1).
      let same : z.0 ≡ p = (let b = z.1 in cc) in
      let is : q.1 ≡ rec = reads_same catalogue p q.1 rec (same_reads catalogue p z.0 q.1 (ap (λ (p : Pending). p.call) (sym same)) z.3) r in
      subst (HasRead new from u.txn) is (s, p.number, q.0, value, stays _ sent, stays _ q.2)) k

  wrote_stays : (q : ℕ) (txn : TxnId) (rec : ℕ) → HasWrote w q txn rec → HasWrote new q txn rec
  wrote_stays q txn rec h = (h.0, h.1, h.2, stays _ h.3, stays _ h.4)

  read_stays : (q : ℕ) (txn : TxnId) (rec : ℕ) → HasRead w q txn rec → HasRead new q txn rec
  read_stays q txn rec h = (h.0, h.1, h.2, h.3, stays _ h.4, stays _ h.5)

  lasts : (id : ℕ) (held : Option View) (t : Live) → AnswersOk catalogue w id held t → AnswersOk catalogue new id held t
  lasts id held t h = record {
    wrote = λ rec k q z. wrote_stays q t.txn rec (h.wrote rec k q z);
    writing = λ p rec value e r q z. ⊎_elim (λ still. inl still) (λ g. inr (wrote_stays q t.txn rec g)) (h.writing p rec value e r q z);
    remote = λ r k. ⊎_elim (λ g. inl (read_stays r.0 t.txn r.1 g)) (λ still. inr still) (h.remote r k);
  }

  only_from : (p : Pending) (from q : ℕ) → is_empty (remaining from p) ≡ true → Has p.missing q → q ≡ from
  only_from p from q e h = ⊎_elim (λ it. it) (λ (n : q ≢ from). absurd (has_none q (rw (is_none (remaining from p) e) at (filter_keeps (λ (a : ℕ). not (a == from)) p.missing q h (not_same q from n))))) (same_site q from)

  abbrev Fine : Live → Type 0
  Fine t = AnswersOk catalogue new x.id x.held t

  before : (u : Live) → Has x.live u → Fine u
  before u h = lasts x.id x.held u (inv.live s x u up h)

  -- the answer counts for a pending write, or for a pending read
  counted_write : (u : Live) (p : Pending) (from rec : ℕ) (deed : Deed) → Has x.live u → u.pending ≡ Some p → Counts catalogue given u p from → Changes catalogue p rec deed → HasWrote new from u.txn rec
  counted_write u p from rec value h e (Counts.read other v g r) w = read_not_write catalogue p other rec value r w
  counted_write u p from rec value h e (Counts.changed other v g r) w = wrote_now u p from rec value h e w g
  counted_write u p from rec value h e (Counts.voted g k) w = no_commit_writes catalogue p rec value k w

  counted_read : (u : Live) (p : Pending) (from rec : ℕ) → Has x.live u → u.pending ≡ Some p → Counts catalogue given u p from → Reads catalogue p rec → HasRead new from u.txn rec
  counted_read u p from rec h e (Counts.read other v g r) w = read_now u p from rec v h e w g
  counted_read u p from rec h e (Counts.changed other v g r) w = read_not_write catalogue p rec other v w r
  counted_read u p from rec h e (Counts.voted g k) w = no_commit_reads catalogue p rec k w

  waits_fine : (u : Live) (p : Pending) (from : ℕ) → Has x.live u → u.pending ≡ Some p → Counts catalogue given u p from → Fine (waiting u p (remaining from p))
  waits_fine u p from h f k = let b = before u h in record {
    wrote = b.wrote;
    writing = λ a rec value e r q z.
        let is : record p { missing = remaining from p } ≡ a = cc in
        let w = same_writes catalogue p a rec value (ap (λ (p : Pending). p.call) is) r in
        ⊎_elim (λ still. ⊎_elim
        (λ (it : q ≡ from). inr (rw it (counted_write u p from rec value h f k w)))
        (λ (n : q ≢ from). inl (rw (← (ap (λ (p : Pending). p.missing) is)) (filter_keeps (λ (a : ℕ). not (a == from)) p.missing q still (not_same q from n))))
        (same_site q from)) (λ g. inr g) (b.writing p rec value f w q z);
    remote = λ r z. ⊎_elim (λ g. inl g)
        (λ (a : (a : Pending) × (u.pending ≡ Some a) × Reads catalogue a r.1 × Has a.missing r.0).
        let same : a.0 ≡ p = (let b = a.1 in cc) in
        let reads = same_reads catalogue p a.0 r.1 (ap (λ (p : Pending). p.call) (sym same)) a.2 in
        let still : Has p.missing r.0 = rw (ap (λ (p : Pending). p.missing) (sym same)) a.3 in
        ⊎_elim (λ (it : r.0 ≡ from). inl (rw it (counted_read u p from r.1 h f k reads)))
        (λ (n : r.0 ≢ from). inr (record p { missing = remaining from p }, refl, same_reads catalogue (record p { missing = remaining from p }) p r.1 refl reads, filter_keeps (λ (a : ℕ). not (a == from)) p.missing r.0 still (not_same r.0 from n)))
        (same_site r.0 from)) (b.remote r z);
  }

  -- an operation is done: what was pending has been answered
  done_fine : (u : Live) (p : Pending) (deed : Deed) → Has x.live u → ((rec : ℕ) → (alters deed rec ≡ true) × (record_of deed ≡ rec) → (q : ℕ) → Has (other_holders_in catalogue x.id x.held rec) q → HasWrote new q u.txn rec) → ((p : Pending) (r : ℕ × ℕ) → u.pending ≡ Some p → Reads catalogue p r.1 → Has p.missing r.0 → HasRead new r.0 u.txn r.1) → Fine (done u p deed)
  done_fine u p deed h wrote read = let b = before u h in record {
    wrote = λ rec k q z. ⊎_elim (λ old. b.wrote rec old q z) (λ more. wrote rec more q z) (changed_by u p deed rec k);
    writing = λ p rec value e r q z. cc;
    remote = λ r z. ⊎_elim (λ g. inl g) (λ (a : (a : Pending) × (u.pending ≡ Some a) × Reads catalogue a r.1 × Has a.missing r.0). inl (read a.0 r a.1 a.2 a.3)) (b.remote r z);
  }

  idle_reads : (u : Live) (p : Pending) → IsNext given u p → (a : Pending) (r : ℕ × ℕ) → u.pending ≡ Some a → Reads catalogue a r.1 → Has a.missing r.0 → HasRead new r.0 u.txn r.1
  idle_reads u p next a r e k m = absurd (some_not u.pending a e next.idle)

  completed_fine : (u : Live) (p : Pending) (deed : Deed) (l : Lent) → Has x.live u → Completes catalogue x given u p deed l → Fine (done u p deed)
  completed_fine u p deed l h (Completes.own_write rec value next r a v o e) = done_fine u p deed h (λ n f. read_alters_none deed rec n value o f.0) (idle_reads u p next)
  completed_fine u p deed l h (Completes.own_copy rec stored next r a v k f o e) = done_fine u p deed h (λ n g. read_alters_none deed rec n stored.value o g.0) (idle_reads u p next)
  completed_fine u p deed l h (Completes.change_again rec value next r a wrote e) = done_fine u p deed h
      (λ n f q k. (before u h).wrote n (subst (HasChanged u) (sym r.on ∙ f.1) (change_there (last_changes (entry_of u)) rec value wrote)) q k) (idle_reads u p next)
  completed_fine u p deed l h (Completes.change_alone rec next r a v none e) = done_fine u p deed h
      (λ n f q k. absurd (empty_not (other_holders_in catalogue x.id x.held n) q (rw (← (sym r.on ∙ f.1)) none) k)) (idle_reads u p next)
  completed_fine u p deed l h (Completes.read_answered from rec value g last r o e) = done_fine u p deed h (λ n f. read_alters_none deed rec n value o f.0)
      (λ a k f reads m.
      let same : a ≡ p = (let b = last.pending in cc) in
      let it : k.0 ≡ from = only_from p from k.0 last.last (rw (ap (λ (p : Pending). p.missing) (sym same)) m) in
      rw it (read_now u p from k.1 value h last.pending (same_reads catalogue p a k.1 (ap (λ (p : Pending). p.call) (sym same)) reads) g))
  completed_fine u p deed l h (Completes.change_answered from rec g last r e) = done_fine u p deed h
      (λ n f q k.
      let is : rec ≡ n = sym r.on ∙ f.1 in
      subst (HasWrote new q u.txn) is (⊎_elim
      (λ still. rw (only_from p from q last.last still) (wrote_now u p from rec deed h last.pending r g))
      (λ done. done) ((before u h).writing p rec deed last.pending r q (rw is k))))
      (λ a k f reads m. let same : a ≡ p = (let b = last.pending in cc) in read_not_write catalogue p k.1 rec deed (same_reads catalogue p a k.1 (ap (λ (p : Pending). p.call) (sym same)) reads) r)

  asked_fine : (u now : Live) → Fine u → now.txn ≡ u.txn → entry_of now ≡ entry_of u → (rec : ℕ) → HasChanged now rec → (q : ℕ) → Has (other_holders_in catalogue x.id x.held rec) q → HasWrote new q now.txn rec
  asked_fine u now b name same rec k q z = rw name (b.wrote rec (subst (λ (e : Commit). Has (keys (last_changes e)) rec) same k) q z)

  old_read : (u : Live) (p : Pending) → Fine u → IsNext given u p → (r : ℕ × ℕ) → Has u.remote r → HasRead new r.0 u.txn r.1
  old_read u p b next r z = ⊎_elim (λ g. g) (λ (a : (a : Pending) × (u.pending ≡ Some a) × Reads catalogue a r.1 × Has a.missing r.0). absurd (some_not u.pending a.0 a.1 next.idle)) (b.remote r z)

  live_fine : (t : Live) → LiveNow catalogue x given t → Fine t
  live_fine t (LiveNow.still h) = before t h
  live_fine t (LiveNow.marked u h tick e) = subst Fine e (let b = before u h in record {
    wrote = b.wrote;
    writing = λ p rec value f r q z. let a = unmarked u.pending p f in ⊎_elim (λ still. inl (rw (← (ap (λ (p : Pending). p.missing) a.2)) still)) (λ g. inr g) (b.writing a.0 rec value a.1 (same_writes catalogue a.0 p rec value (ap (λ (p : Pending). p.call) a.2) r) q z);
    remote = λ r z. ⊎_elim (λ g. inl g) (λ (a : (a : Pending) × (u.pending ≡ Some a) × Reads catalogue a r.1 × Has a.missing r.0). inr (record a.0 { marked = true }, rw a.1 refl, same_reads catalogue (record a.0 { marked = true }) a.0 r.1 refl a.2, a.3)) (b.remote r z);
  })
  live_fine t (LiveNow.waits u p from h f m l k e) = subst Fine e (waits_fine u p from h f k)
  live_fine t (LiveNow.completed u p deed l h k e) = subst Fine e (completed_fine u p deed l h k)
  live_fine t (LiveNow.reads u p rec q h a e) = subst Fine e (let b = before u h in record {
    wrote = asked_fine u (reading u p rec q) b refl refl;
    writing = λ n other value f r c z. let is : record p { missing = q ∷ [] } ≡ n = cc in read_not_write catalogue p rec other value a.reads (same_writes catalogue p n other value (ap (λ (p : Pending). p.call) is) r);
    remote = λ r z. ⊎_elim (λ old. inl (old_read u p b a.next r old))
        (λ more. let is = has_one_is (q, rec) r more in inr (record p { missing = q ∷ [] }, refl, subst (λ (n : ℕ). Reads catalogue (record p { missing = q ∷ [] }) n) (ap (λ (r : ℕ × ℕ). r.1) is) (same_reads catalogue (record p { missing = q ∷ [] }) p rec refl a.reads), subst (Has (q ∷ [])) (ap (λ (r : ℕ × ℕ). r.0) is) (has_one q)))
        (has_cases u.remote ((q, rec) ∷ []) r z);
  })
  live_fine t (LiveNow.writes u p rec value h a e) = subst Fine e (let b = before u h in record {
    wrote = asked_fine u (writing u p (other_holders catalogue x rec)) b refl refl;
    writing = λ n other v f r q z.
        let is : record p { missing = other_holders catalogue x rec } ≡ n = cc in
        let same = writes_same catalogue p rec other value v a.writes (same_writes catalogue p n other v (ap (λ (p : Pending). p.call) is) r) in
        inl (rw (← (ap (λ (p : Pending). p.missing) is), same) z);
    remote = λ r z. inl (old_read u p b a.next r z);
  })
  live_fine t (LiveNow.prepares u p h a e) = subst Fine e (let b = before u h in record {
    wrote = asked_fine u (waiting u p u.parts) b refl refl;
    writing = λ n rec value f r q z. let is : record p { missing = u.parts } ≡ n = cc in no_commit_writes catalogue p rec value a.commit (same_writes catalogue p n rec value (ap (λ (p : Pending). p.call) is) r);
    remote = λ r z. inl (old_read u p b a.next r z);
  })
  live_fine t (LiveNow.begins view h e) = subst Fine e (record { wrote = λ rec k q z. absurd (has_none _ k); writing = λ p rec value f r q z. cc; remote = λ r z. absurd (has_none r z) })

  pub answers_keep : ((t : Live) → Has o.site.live t → x.held ≡ o.site.held) → o.site.id ≡ x.id → InvAnswers catalogue new
  answers_keep held same_id = record {
    asks = λ m h. ⊎_elim (λ old. asks_lasts m old m.from m.to m.message refl (inv.asks m old)) (λ more. asks_sent m (c.sent m more)) (st.sent m h);
    live = λ k y t h q. live_at k y t q (now_is w new s x o st k y h);
  }
    where
      live_at : (k : ℕ) (y : SiteState) (t : Live) → Has y.live t → NowIs w s o.site k y → AnswersOk catalogue new y.id y.held t
      live_at k y t q (NowIs.other n old) = lasts y.id y.held t (inv.live k y t old q)
      live_at k y t q (NowIs.here e same) =
          let here : Has o.site.live t = subst (λ (y : SiteState). Has y.live t) (sym same) q in
          subst (λ (y : SiteState). AnswersOk catalogue new y.id y.held t) same
          (subst (λ (i : ℕ). AnswersOk catalogue new i o.site.held t) (sym same_id) (subst (λ (v : Option View). AnswersOk catalogue new x.id v t) (held t here) (live_fine t (c.live t here))))

module _ (catalogue : Catalogue) (w new : Scene) (s : ℕ) (q : Quiet catalogue w new s) (inv : InvAnswers catalogue w) where
  sent_on : (m : Sent) → Has w.sent m → Has new.sent m
  sent_on m h = rw q.sent h

  asks_on : (Asked : Pending → Type 0) (txn : TxnId) (number : ℕ) → AskSays w txn number Asked → AskSays new txn number Asked
  asks_on Asked txn number h = λ y t g k e. h y t (live_still catalogue w s txn.site y t k (quiet_is catalogue w new s q txn.site y g)) k e

  message_on : (m : Message) → Asks catalogue w m → Asks catalogue new m
  message_on (message.ReadRequest txn view number rec) h = asks_on (λ p. Reads catalogue p rec) txn number h
  message_on (message.WriteRequest txn view number rec) h = asks_on (WritesTo catalogue rec) txn number h
  message_on m h = tt

  live_on : (k : ℕ) (y : SiteState) (t : Live) → Has y.live t → QuietIs catalogue w s k y → AnswersOk catalogue new y.id y.held t
  live_on k y t g is = let h = inv.live k y t (live_still catalogue w s k y t g is) g in record {
    wrote = λ rec a b z. let f = h.wrote rec a b z in (f.0, f.1, f.2, sent_on _ f.3, sent_on _ f.4);
    writing = λ p rec value e r b z. ⊎_elim (λ still. inl still) (λ (f : HasWrote w b t.txn rec). inr (f.0, f.1, f.2, sent_on _ f.3, sent_on _ f.4)) (h.writing p rec value e r b z);
    remote = λ r z. ⊎_elim (λ (f : HasRead w r.0 t.txn r.1). inl (f.0, f.1, f.2, f.3, sent_on _ f.4, sent_on _ f.5)) (λ still. inr still) (h.remote r z);
  }

  pub answers_quiet : InvAnswers catalogue new
  answers_quiet = record {
    asks = λ m h. message_on m.message (inv.asks m (rw q.sent at h));
    live = λ k y t h g. live_on k y t g (quiet_is catalogue w new s q k y h);
  }

pub answers_starts : (catalogue : Catalogue) → InvAnswers catalogue (scene_of (start_world catalogue))
answers_starts catalogue = record {
  asks = λ m h. absurd (start_sent catalogue m h);
  live = λ s x t h k. absurd (started_idle catalogue s x t h k);
}
