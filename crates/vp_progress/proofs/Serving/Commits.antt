-- The transaction commits: its parts are asked for their votes, it is decided, and each part is told.
use Rattle.std.proofs.Common.{◌≡◌, ◌≢◌, ◌⊎◌, ◌∙◌, ap, sym, subst, ℕ, ◌+◌, Bool, true, false, List, [], ◌∷◌, ◌++◌, length, refl, arith, ⊎_elim, inl, inr, append-nil}
use Rattle.std.specs.Prelude.{Option, Some, None, ◌==◌, ◌&&◌, ◌||◌, not, filter}
use Rattle.std.proofs.lemmas.Bool.{eq-eqb, eqb-true}
use Rattle.vp_model.specs.Types.{Change, ViewId, TxnId, View, Commit, Message, Owner, Lock, Pending, Live}
use Rattle.vp_model.specs.Types.call
use Rattle.vp_model.specs.Types.input
use Rattle.vp_model.specs.Types.message
use Rattle.vp_model.specs.Types.owner
use Rattle.vp_model.specs.Words.{has, for_each, is_empty, keys, put_number, same_owner}
use Rattle.vp_model.specs.Catalogue.{Catalogue, holders}
use Rattle.vp_model.specs.Durable.{doubt_of}
use Rattle.vp_model.specs.Locks.{holds}
use Rattle.vp_model.specs.Site.{SiteState, Stepped, begin_step, put_back}
use Rattle.vp_model.specs.Transactions.{last_changes, entry_of, writes_held, decide}
use Rattle.vp_model.specs.Messages.{holds_view, has_all_locks, end_here}
use Rattle.vp_model.specs.Calls.{handling, handled, records_read_at, prepare_for, prepare_parts, commit}
use Rattle.vp_model.specs.Step.{step}
use Rattle.vp_model.specs.World.{WorldState, site_of}
use Rattle.vp_laws.specs.Votes.{is_commit}
use Rattle.vp_laws.proofs.Lists.Members.{Has, has_none, has_one, has_one_is, has_first, has_more, has_test, has_from_test, filter_has, map_has, any_of}
use Rattle.vp_laws.proofs.Lists.Changes.{all_from, mapped_has}
use Rattle.vp_laws.proofs.Lists.Views.{put_only, same_site}
use Rattle.vp_laws.proofs.Lists.LockTables.{HasLock, same_owner-self}
use Rattle.vp_laws.proofs.Moves.LocalViews.{letter}
use Rattle.vp_laws.proofs.Moves.Table.{Reads, lent_at}
use Rattle.vp_laws.proofs.Moves.Calls.{waiting, no_commit_reads}
use Rattle.vp_laws.proofs.Table.Leaves.{Uses}
use Rattle.vp_laws.proofs.Table.Waits.{IsWaited}
use Rattle.vp_laws.proofs.Worlds.Scenes.{scene_of}
use Rattle.vp_laws.proofs.Invariant.Answers.{AnswersOk}
use Rattle.vp_laws.proofs.Invariant.HasLeft.{HasLeft}
use Rattle.vp_laws.proofs.Journal.Changed.{HasChanged}
use Rattle.vp_laws.proofs.Invariant.Used.{HasAnswered, LockedAt}
use Rattle.vp_laws.proofs.Invariant.Known.{Known}
use Rattle.vp_progress.proofs.Calm.{serves_since}
use Rattle.vp_progress.proofs.Can.{Can, can_now, can_then, Each, one_by_one}
use Rattle.vp_progress.proofs.Acts.{Did, Since, stays_since, sends_since}
use Rattle.vp_progress.proofs.Started.{Past}
use Rattle.vp_progress.proofs.Based.{other_as}
use Rattle.vp_progress.proofs.Certain.{ended_commits, outcome_says, decisions_at}
use Rattle.vp_progress.proofs.Acknowledged.{Acks, acks}
use Rattle.vp_progress.proofs.Current.{holds_it}
use Rattle.vp_progress.proofs.Serving.Rows.{commits_alone, commits_asking, commits}
use Rattle.vp_progress.proofs.Serving.Answers.{votes_counted}
use Rattle.vp_progress.proofs.Serving.Parts.{votes, outcome_ends}
use Rattle.vp_progress.proofs.Serving.Sites.{Rest, IsResting, Lends, leads_first, votes_on, doubt_settled, ends_resting}
use Rattle.vp_progress.proofs.Serving.Leading.{asks_votes, Decided, decides}
use Rattle.vp_progress.proofs.Serving.Worlds.{Stand, Serving, Exchanged, calls, comes, still_stand, same_journal, led_in, own_moves, exchanges}
use Rattle.vp_progress.proofs.Serving.Waiting.{left_of, Asked, Counted, counts, exchanged, waits_all}
use Rattle.vp_progress.proofs.Serving.Operations.{is_other}

-- as votes are asked for, all parts are there
abbrev none_away : List ℕ → List ℕ
none_away sites = []

none_waited : (sites : List ℕ) (j : ℕ) → Has (none_away sites) j → Has sites j
none_waited sites j h = absurd (has_none j h)

none_kept : (sites : List ℕ) (k j : ℕ) → Has (none_away sites) j → j ≢ k → Has (none_away (left_of k sites)) j
none_kept sites k j h n = absurd (has_none j h)

-- a lock that is there passes the test
holds_from : (rec : ℕ) (exclusive : Bool) (o : Owner) (locks : List Lock) → HasLock rec exclusive o locks → holds rec exclusive o locks ≡ true
holds_from rec exclusive o locks h = any_of (λ (lock : Lock). (lock.rec == rec) && (not exclusive || lock.exclusive) && same_owner lock.owner o) locks h.lock h.has (rw (eq-eqb h.lock.rec rec h.on, subst (λ (a : Owner). same_owner a o ≡ true) (sym h.by) (same_owner-self o)) (strong exclusive h.lock.exclusive h.strong))
  where
    strong : (a b : Bool) → (a ≡ true → b ≡ true) → ((not a || b) && true) ≡ true
    strong true b f = rw (f refl) refl
    strong false b f = refl

-- a record that is read at a site was asked for there
read_from : (items : List (ℕ × ℕ)) (recs : List ℕ) (n : ℕ) → Has (for_each items (λ (asked : ℕ × ℕ) (recs : List ℕ). put_number asked.1 recs) recs) n → Has recs n ⊎ ((a : ℕ × ℕ) × Has items a × (a.1 ≡ n))
read_from [] recs n h = inl h
read_from (a ∷ items) recs n h = ⊎_elim
    (λ old. ⊎_elim (λ was. inl was) (λ one. inr (a, has_first a items, one)) (put_only a.1 recs n old))
    (λ (more : (b : ℕ × ℕ) × Has items b × (b.1 ≡ n)). inr (more.0, has_more a items more.0 more.1, more.2))
    (read_from items (put_number a.1 recs) n h)

read_there : (k : ℕ) (remote : List (ℕ × ℕ)) (rec : ℕ) → Has (records_read_at k remote) rec → Has remote (k, rec)
read_there k remote rec h =
    ⊎_elim (λ none. absurd (has_none rec none))
    (λ (a : (a : ℕ × ℕ) × Has (filter (λ (asked : ℕ × ℕ). asked.0 == k) remote) a × (a.1 ≡ rec)).
    let f = filter_has (λ (asked : ℕ × ℕ). asked.0 == k) remote a.0 a.1 in
    let site : a.0.0 ≡ k = eqb-true a.0.0 k f.1 in
    subst (λ (r : ℕ). Has remote (k, r)) a.2 (subst (λ (s : ℕ). Has remote (s, a.0.1)) site f.0))
    (read_from (filter (λ (asked : ℕ × ℕ). asked.0 == k) remote) [] rec h)

module _ (catalogue : Catalogue) (ns : List ℕ) (v : View) (q : ℕ) (lead : Has ns q) (rest : ℕ → Rest) (among : (k : ℕ) → Has v.members k → Has ns k) (members : (k : ℕ) → Has ns k → Has v.members k) (past : Past) where
  abbrev Goes : Live → List ℕ → WorldState → Type 0
  Goes t missing w = Serving catalogue ns v q rest among past t missing w

  abbrev Reaches : WorldState → (WorldState → Type 0) → Type 0
  Reaches w Q = Can catalogue (serves_since past.told q ns) w Q

  -- ---- a part has all its locks

  module _ (t : Live) (w : WorldState) (f : Goes t [] w) (p : Pending) (pending : t.pending ≡ Some p) (committing : is_commit p.call ≡ true) (k : ℕ) (here : Has ns k) (n : k ≢ q) where
    abbrev part_site : SiteState
    part_site = (f.others k here n).at

    abbrev lends_there : Lends v (rest k) t.txn part_site
    lends_there = (f.others k here n).lends

    live_here : Has f.at.live t
    live_here = subst (λ (ts : List Live). Has ts t) (sym f.leads.live) (has_one t)

    view_is : t.view ≡ v.id
    view_is = (led_in catalogue ns v q rest among past t [] w f).0

    answered_for : AnswersOk catalogue (scene_of w) f.at.id f.at.held t
    answered_for = f.known.answers.live q f.at t f.up live_here

    lock_there : (rec : ℕ) (exclusive : Bool) → HasAnswered (scene_of w) k t.txn rec exclusive → HasLock rec exclusive (owner.Txn t.txn) part_site.locks
    lock_there rec exclusive h = ⊎_elim
        (λ (left : HasLeft (scene_of w) k t.view). absurd (left.unused part_site (f.others k here n).up (Uses.held v lends_there.held (sym view_is))))
        (λ (a : LockedAt (scene_of w) k t.txn rec exclusive). let same : a.0 ≡ part_site = (let z = sym a.1 ∙ (f.others k here n).up in grind (arith, z)) in subst (λ (x : SiteState). HasLock rec exclusive (owner.Txn t.txn) x.locks) same a.2)
        (f.known.used.used q k rec exclusive f.at t f.up live_here h)

    written_there : (rec : ℕ) → Has (keys (writes_held catalogue k (last_changes (entry_of t)))) rec → HasChanged t rec × Has (holders catalogue rec) k
    written_there rec h =
        let m = map_has (λ (w : ℕ × Change). w.0) (writes_held catalogue k (last_changes (entry_of t))) rec h in
        let g = filter_has (λ (w : ℕ × Change). has (holders catalogue w.0) k) (last_changes (entry_of t)) m.0 m.1 in
        let changed = mapped_has (λ (w : ℕ × Change). w.0) (last_changes (entry_of t)) m.0 g.0 in
        (subst (HasChanged t) m.2 changed, subst (λ (r : ℕ). Has (holders catalogue r) k) m.2 (has_from_test (holders catalogue m.0.0) k g.1))

    write_locked : (rec : ℕ) → Has (keys (writes_held catalogue k (last_changes (entry_of t)))) rec → holds rec true (owner.Txn t.txn) part_site.locks ≡ true
    write_locked rec h =
        let wrote = written_there rec h in
        let id = (f.known.views.site q f.at f.up).id in
        holds_from rec true (owner.Txn t.txn) part_site.locks (lock_there rec true (HasAnswered.wrote (answered_for.wrote rec wrote.0 k (is_other catalogue f.at.id rec k v f.at.held f.leads.held (members k here) (λ same. n (same ∙ id)) wrote.1))))

    read_locked : (rec : ℕ) → Has (records_read_at k t.remote) rec → holds rec false (owner.Txn t.txn) part_site.locks ≡ true
    read_locked rec h = ⊎_elim
        (λ read. holds_from rec false (owner.Txn t.txn) part_site.locks (lock_there rec false (HasAnswered.read read)))
        (λ waits. absurd (no_read waits.0 waits.1 waits.2))
        (answered_for.remote (k, rec) (read_there k t.remote rec h))
      where
        no_read : (a : Pending) → t.pending ≡ Some a → Reads catalogue a rec → ⊥
        no_read a e r = let same : p ≡ a = (let z = sym pending ∙ e in grind (arith, z)) in no_commit_reads catalogue a rec (subst (λ (p : Pending). is_commit p.call ≡ true) same committing) r

    all_locked : has_all_locks part_site.locks t.txn (records_read_at k t.remote) (writes_held catalogue k (last_changes (entry_of t))) ≡ true
    all_locked = rw (
      all_from (λ (rec : ℕ). holds rec true (owner.Txn t.txn) part_site.locks) (keys (writes_held catalogue k (last_changes (entry_of t)))) write_locked,
      all_from (λ (rec : ℕ). holds rec false (owner.Txn t.txn) part_site.locks) (records_read_at k t.remote) read_locked,
    ) refl

    -- and votes
    votes_there : (part : Has t.parts k) (number : ℕ) → Since past.told w (letter q k (message.Prepare t.txn t.view number (records_read_at k t.remote) (writes_held catalogue k (last_changes (entry_of t))))) → Reaches w (Exchanged catalogue ns v q rest among past t [] k (message.Vote t.txn) w)
    votes_there part number sent =
        let reads = records_read_at k t.remote in
        let writes = writes_held catalogue k (last_changes (entry_of t)) in
        let holding : holds_view part_site t.view ≡ true = subst (λ (i : ViewId). holds_view part_site i ≡ true) (sym view_is) (holds_it part_site v lends_there.held) in
        let takes = ⊎_elim (λ none. absurd (has_none k none)) (λ there. there) ((f.others k here n).part part) in
        exchanges catalogue ns v q rest among past lead t [] w k here n f part (message.Prepare t.txn t.view number reads writes) (message.Vote t.txn) sent
        (votes_on v (rest k) t.txn part_site lends_there q writes (step catalogue part_site (input.Message q (message.Prepare t.txn t.view number reads writes))) (λ rec h. (f.free rec (written_there rec h).0).quiet k here)
        (votes catalogue part_site q t.txn t.view number reads writes holding lends_there.new takes all_locked))

  -- ---- it is decided

  abbrev pub RestsAt : ℕ → WorldState → Type 0
  RestsAt k w = (x : SiteState) × (site_of w k ≡ Some x) × IsResting v (rest k) x

  -- the site is told the outcome
  record IsTold (txn : TxnId) (k : ℕ) (w : WorldState) : Type 0 where
    at : SiteState
    up : site_of w k ≡ Some at
    lends : Lends v (rest k) txn at
    told : Since past.told w (letter q k (message.Outcome txn true))

  -- at its own site all rests, but that a decision on it waits for other sites
  record Owes (txn : TxnId) (w : WorldState) : Type 0 where
    at : SiteState
    up : site_of w q ≡ Some at
    rests : IsResting v (record (rest q) { decisions = at.decisions }) at
    waits : (u : TxnId) (k : ℕ) → IsWaited at.decisions u k → IsWaited (rest q).decisions u k ⊎ ((u ≡ txn) × Has ns k × (k ≢ q))

  -- another site rests, and the decision on it doesn't wait for that site
  abbrev HasEnded : TxnId → ℕ → WorldState → Type 0
  HasEnded txn k w = RestsAt k w × (IsWaited (decisions_at (site_of w q)) txn k → IsWaited (rest q).decisions txn k)

  record Over (entry : Commit) (w : WorldState) : Type 0 where
    known : Known catalogue (scene_of w)
    stand : Stand past.told ns w
    same : w.journal ≡ past.entries ++ entry ∷ []
    own : Owes entry.txn w
    site : (k : ℕ) → Has ns k → k ≢ q → HasEnded entry.txn k w ⊎ IsTold entry.txn k w

  decided_world : (was t : Live) (w new : WorldState) (f : Goes was [] w) → was.txn ≡ t.txn → was.parts ≡ t.parts → Known catalogue (scene_of new) → Did w new q f.at (put_back (begin_step f.at) (decide catalogue f.at.id t (lent_at f.at))) → Over (entry_of t) new
  decided_world was t w new f named parts known d = record {
    known = known;
    stand = still_stand catalogue ns v q rest among past.told w new q f.at _ f.stand d;
    same = same_journal catalogue ns v q rest among w new q f.at _ past.entries (entry_of t ∷ []) f.same d g.commits;
    own = record {
      at = (put_back (begin_step f.at) (decide catalogue f.at.id t (lent_at f.at))).site;
      up = d.acted.now;
      rests = record { held = f.leads.held; live = g.live; parts = f.leads.parts; refresh = f.leads.refresh; doubts = f.leads.doubts; decisions = λ u k waits. waits; bars = g.bars; locks = g.locks };
      waits = λ u k waits. ⊎_elim (λ old. inl old) (λ (part : (u ≡ t.txn) × Has t.parts k). let i = (led_in catalogue ns v q rest among past was [] w f).1 k (subst (λ (ks : List ℕ). Has ks k) (sym parts) part.1) in inr (part.0, i.0, i.1)) (g.decisions u k waits);
    };
    site = λ k here other. elsewhere k here other (has t.parts k) refl;
  }
    where
      g : Decided (rest q) f.at.id t (decide catalogue f.at.id t (lent_at f.at))
      g = decides (rest q) catalogue f.at.id was t (lent_at f.at) named (leads_first v (rest q) was f.at f.leads)

      elsewhere : (k : ℕ) → Has ns k → k ≢ q → (b : Bool) → has t.parts k ≡ b → HasEnded t.txn k new ⊎ IsTold t.txn k new
      elsewhere k here n true e = inr (let o = f.others k here n in record {
        at = o.at;
        up = other_as d k n ∙ o.up;
        lends = subst (λ (u : TxnId). Lends v (rest k) u o.at) named o.lends;
        told = sends_since past.told f.stand.grown d _ (subst (λ (i : ℕ). Has (decide catalogue f.at.id t (lent_at f.at)).effects.messages (letter i k (message.Outcome t.txn true))) (f.known.views.site q f.at f.up).id (g.tells k (has_from_test t.parts k e)));
      })
      elsewhere k here n false e = inl (let o = f.others k here n in (
        (o.at, other_as d k n ∙ o.up, o.rests (λ h. let a = has_test t.parts k (subst (λ (ks : List ℕ). Has ks k) parts h) in let z = sym a ∙ e in cc)),
        (λ waits. ⊎_elim
            (λ old. old)
            (λ (part : (t.txn ≡ t.txn) × Has t.parts k). absurd (let z = sym (has_test t.parts k part.1) ∙ e in cc))
            (g.decisions t.txn k (subst (λ (o : Option SiteState). IsWaited (decisions_at o) t.txn k) d.acted.now waits))),
      ))

  -- ---- each part is told, and acknowledges

  abbrev OnceEnded : TxnId → ℕ → WorldState → Type 0
  OnceEnded txn k w = k ≢ q → HasEnded txn k w

  -- the part has ended, and its acknowledgement has come
  module _ (entry : Commit) (k : ℕ) (w mid new : WorldState) (n : k ≢ q) (f : Over entry w) (x : SiteState) (o : Stepped) (d : Did w mid k x o) (none : o.effects.commits ≡ []) (rests : IsResting v (rest k) o.site) (known : Known catalogue (scene_of new)) (c : Did mid new q f.own.at (step catalogue f.own.at (input.Message k (message.Ack entry.txn)))) where
    abbrev after : Stepped
    after = step catalogue f.own.at (input.Message k (message.Ack entry.txn))

    row : Acks f.own.at k entry.txn after
    row = acks catalogue f.own.at k entry.txn

    as_was : (j : ℕ) → j ≢ k → j ≢ q → site_of new j ≡ site_of w j
    as_was j other away = other_as c j away ∙ other_as d j other

    mine : HasEnded entry.txn k new
    mine = ((o.site, other_as c k n ∙ d.acted.now, rests), (λ waits. absurd (row.gone (subst (λ (o : Option SiteState). IsWaited (decisions_at o) entry.txn k) c.acted.now waits))))

    waited : (j : ℕ) → IsWaited (decisions_at (site_of new q)) entry.txn j → IsWaited (decisions_at (site_of w q)) entry.txn j
    waited j waits = subst (λ (o : Option SiteState). IsWaited (decisions_at o) entry.txn j) (sym f.own.up) (row.less entry.txn j (subst (λ (o : Option SiteState). IsWaited (decisions_at o) entry.txn j) c.acted.now waits))

    stays_ended : (j : ℕ) → j ≢ q → HasEnded entry.txn j w → HasEnded entry.txn j new
    stays_ended j away h = ⊎_elim
        (λ (same : j ≡ k). subst (λ (j : ℕ). HasEnded entry.txn j new) (sym same) mine)
        (λ (other : j ≢ k). ((h.0.0, as_was j other away ∙ h.0.1, h.0.2), (λ waits. h.1 (waited j waits))))
        (same_site j k)

    owes : Owes entry.txn new
    owes = record {
      at = after.site;
      up = c.acted.now;
      rests = record {
        held = ap (λ (x : SiteState). x.held) row.site ∙ f.own.rests.held;
        live = ap (λ (x : SiteState). x.live) row.site ∙ f.own.rests.live;
        parts = ap (λ (x : SiteState). x.parts) row.site ∙ f.own.rests.parts;
        refresh = ap (λ (x : SiteState). x.refresh) row.site ∙ f.own.rests.refresh;
        doubts = ap (λ (x : SiteState). x.doubts) row.site ∙ f.own.rests.doubts;
        decisions = λ u p waits. waits;
        bars = ap (λ (x : SiteState). x.bars) row.site ∙ f.own.rests.bars;
        locks = λ l there. f.own.rests.locks l (subst (λ (x : SiteState). Has x.locks l) row.site there);
      };
      waits = λ u p waits. f.own.waits u p (row.less u p waits);
    }

    stand_mid : Stand past.told ns mid
    stand_mid = still_stand catalogue ns v q rest among past.told w mid k x o f.stand d

    same_mid : mid.journal ≡ past.entries ++ entry ∷ []
    same_mid = same_journal catalogue ns v q rest among w mid k x o (past.entries ++ entry ∷ []) [] f.same d none ∙ append-nil (past.entries ++ entry ∷ [])

    acked_world : Each (Over entry) (OnceEnded entry.txn) (k ∷ []) w new
    acked_world = record {
      still = record {
        known = known;
        stand = still_stand catalogue ns v q rest among past.told mid new q f.own.at after stand_mid c;
        same = same_journal catalogue ns v q rest among mid new q f.own.at after (past.entries ++ entry ∷ []) [] same_mid c row.commits ∙ append-nil (past.entries ++ entry ∷ []);
        own = owes;
        site = λ j there away. ⊎_elim
            (λ (same : j ≡ k). inl (subst (λ (j : ℕ). HasEnded entry.txn j new) (sym same) mine))
            (λ (other : j ≢ k). ⊎_elim
            (λ (h : HasEnded entry.txn j w). inl (stays_ended j away h))
            (λ (b : IsTold entry.txn j w). inr (record { at = b.at; up = as_was j other away ∙ b.up; lends = b.lends; told = stays_since past.told c _ (stays_since past.told d _ b.told) }))
            (f.site j there away))
            (same_site j k);
      };
      done = λ j h away. subst (λ (j : ℕ). HasEnded entry.txn j new) (has_one_is k j h) mine;
      stays = λ j h away. stays_ended j away (h away);
    }

  told_one : (entry : Commit) (k : ℕ) (w : WorldState) → Has ns k → Over entry w → Reaches w (Each (Over entry) (OnceEnded entry.txn) (k ∷ []) w)
  told_one entry k w here f = ⊎_elim
      (λ (same : k ≡ q). can_now catalogue (serves_since past.told q ns) _ w (record { still = f; done = λ j h away. absurd (away (sym (has_one_is k j h) ∙ same)); stays = λ j h. h }))
      (λ (n : k ≢ q). ⊎_elim
      (λ (r : HasEnded entry.txn k w). can_now catalogue (serves_since past.told q ns) _ w (record { still = f; done = λ j h away. subst (λ (j : ℕ). HasEnded entry.txn j w) (has_one_is k j h) r; stays = λ j h. h }))
      (λ (a : IsTold entry.txn k w). told_there n a)
      (f.site k here n))
      (same_site k q)
    where
      told_there : k ≢ q → IsTold entry.txn k w → Reaches w (Each (Over entry) (OnceEnded entry.txn) (k ∷ []) w)
      told_there n a =
          comes catalogue ns v q rest among past.told _ w f.known k a.at here a.up q (message.Outcome entry.txn true) a.told lead f.stand
          λ mid known d.
          let doubt = doubt_of entry.txn a.at.doubts in
          let is = outcome_ends catalogue a.at q entry.txn true (doubt_settled v (rest k) entry.txn a.at a.lends) in
          let said = sends_since past.told f.stand.grown d _ (subst (λ (s : ℕ). Has (step catalogue a.at (input.Message q (message.Outcome entry.txn true))).effects.messages (letter s q (message.Ack entry.txn))) (f.known.views.site k a.at a.up).id (outcome_says catalogue a.at q entry.txn)) in
          comes catalogue ns v q rest among past.told _ mid known q f.own.at lead (other_as d q (λ same. n (sym same)) ∙ f.own.up) k (message.Ack entry.txn) said here (still_stand catalogue ns v q rest among past.told w mid k a.at _ f.stand d)
          λ new later c. can_now catalogue (serves_since past.told q ns) _ new
          (acked_world entry k w mid new n f a.at (end_here q entry.txn true doubt (begin_step a.at)) (subst (Did w mid k a.at) is d) (ended_commits a.at q entry.txn true doubt) (ends_resting v (rest k) entry.txn a.at a.lends q true doubt) later c)

  -- the transaction has committed, and nothing is left of it
  pub record Committed (entry : Commit) (w : WorldState) : Type 0 where
    pub stand : Stand past.told ns w
    pub same : w.journal ≡ past.entries ++ entry ∷ []
    pub rests : (k : ℕ) → Has ns k → RestsAt k w

  -- once all have acknowledged, its own site rests too
  own_rests : (entry : Commit) (w : WorldState) → Over entry w → ((k : ℕ) → Has ns k → OnceEnded entry.txn k w) → RestsAt q w
  own_rests entry w f done =
      let r = f.own.rests in (
        f.own.at,
        f.own.up,
        record {
          held = r.held;
          live = r.live;
          parts = r.parts;
          refresh = r.refresh;
          doubts = r.doubts;
          decisions = λ u k waits. ⊎_elim
              (λ old. old)
              (λ (part : (u ≡ entry.txn) × Has ns k × (k ≢ q)).
              let here : IsWaited (decisions_at (site_of w q)) entry.txn k = subst (λ (o : Option SiteState). IsWaited (decisions_at o) entry.txn k) (sym f.own.up) (subst (λ (u : TxnId). IsWaited f.own.at.decisions u k) part.0 waits) in
              subst (λ (u : TxnId). IsWaited (rest q).decisions u k) (sym part.0) ((done k part.1 part.2).1 here))
              (f.own.waits u k waits);
          bars = r.bars;
          locks = r.locks;
        },
      )

  told_all : (entry : Commit) (w : WorldState) → Over entry w → Reaches w (Committed entry)
  told_all entry w f =
      can_then catalogue (serves_since past.told q ns) (Each (Over entry) (OnceEnded entry.txn) ns w) (Committed entry) w
      (one_by_one catalogue (serves_since past.told q ns) (Over entry) (OnceEnded entry.txn) ns (told_one entry) ns (λ k h. h) w f)
      λ new e. can_now catalogue (serves_since past.told q ns) (Committed entry) new (record {
        stand = e.still.stand;
        same = e.still.same;
        rests = λ k here. ⊎_elim (λ (own : k ≡ q). subst (λ (k : ℕ). RestsAt k new) (sym own) (own_rests entry new e.still e.done)) (λ other. (e.done k here other).0) (same_site k q);
      })

  -- ---- the call

  module _ (t : Live) (w : WorldState) (f : Goes t [] w) (idle : t.pending ≡ None) where
    abbrev number : ℕ
    number = length t.answers + 1

    abbrev commit_call : Pending
    commit_call = handled 0 number (call.Commit t.txn number)

    abbrev Fin : WorldState → Type 0
    Fin u = Committed (entry_of t) u

    abbrev vote_ask : ℕ → Message
    vote_ask k = prepare_for catalogue t commit_call k

    vote_one : (missing : List ℕ) (k : ℕ) (u : WorldState) → Has t.parts k → Has missing k → Goes (waiting t commit_call missing) [] u → Asked catalogue ns v q lead rest among past t commit_call vote_ask Fin none_away none_waited none_kept missing u → Reaches u (Counted catalogue ns v q lead rest among past t commit_call vote_ask Fin none_away none_waited none_kept missing k u)
    vote_one missing k u part waits g asked =
        let now = waiting t commit_call missing in
        let p = record commit_call { missing = missing } in
        let i = (led_in catalogue ns v q rest among past now [] u g).1 k part in
        exchanged catalogue ns v q lead rest among past t commit_call vote_ask Fin none_away none_waited none_kept missing k u (message.Vote t.txn)
        (votes_there now u g p refl refl k i.0 i.1 part number (asked k waits))
        λ mid e. counts catalogue ns v q lead rest among past t commit_call vote_ask Fin none_away none_waited none_kept missing k mid e.serving i.0 waits e.takes (message.Vote t.txn) e.answered
        (decide catalogue e.serving.at.id now)
        (votes_counted catalogue k now p refl (has_test missing k waits) e.serving.at t.txn number e.serving.leads.live refl)
        λ all new known d. told_all (entry_of t) new (decided_world now now mid new e.serving refl refl known d)

    pub commits_all : Reaches w Fin
    commits_all =
        calls catalogue ns v q rest among past.told Fin w f.known f.at f.up (call.Commit t.txn number) refl
        λ new known d. go new known d (is_empty t.parts) refl
      where
        row : step catalogue f.at (input.Call 0 (call.Commit t.txn number)) ≡ put_back (begin_step f.at) (commit catalogue f.at.id t commit_call (lent_at f.at))
        row = commits catalogue f.at t number f.leads.live refl idle

        go : (new : WorldState) → Known catalogue (scene_of new) → Did w new q f.at (step catalogue f.at (input.Call 0 (call.Commit t.txn number))) → (b : Bool) → is_empty t.parts ≡ b → Reaches new Fin
        go new known d true e =
            let is = row ∙ ap (put_back (begin_step f.at)) (commits_alone catalogue f.at.id f.at.held t (lent_at f.at) commit_call e) in
            told_all (entry_of t) new (decided_world t (handling t commit_call) w new f refl refl known (subst (Did w new q f.at) is d))
        go new known d false e =
            let is = row ∙ ap (put_back (begin_step f.at)) (commits_asking catalogue f.at.id f.at.held t (lent_at f.at) commit_call e) in
            let a = asks_votes (rest q) t (lent_at f.at) (leads_first v (rest q) t f.at f.leads) catalogue f.at.id commit_call in
            let now = subst (Did w new q f.at) is d in
            let id = (f.known.views.site q f.at f.up).id in
            waits_all catalogue ns v q lead rest among past t commit_call vote_ask Fin none_away none_waited none_kept t.parts vote_one (length t.parts) t.parts new (λ k h. h) (omega arith) e
            (own_moves catalogue ns v q rest among past t (waiting t commit_call t.parts) [] [] w new f _ known now a.0 refl f.free (λ k h. h)
            (λ k h. let i = (led_in catalogue ns v q rest among past t [] w f).1 k h in let o = f.others k i.0 i.1 in ⊎_elim (λ none. absurd (has_none k none)) (λ there. inr (o.at, o.up, there)) (o.part h)))
            (λ k h. sends_since past.told f.stand.grown now _ (subst (λ (i : ℕ). Has (prepare_parts catalogue f.at.id t commit_call (lent_at f.at)).effects.messages (letter i k (vote_ask k))) id (a.1 k h)))
