-- A transaction begins at a site where all rests, and does what a client wishes, one operation after the other.
use Rattle.std.proofs.Common.{◌≡◌, ◌≢◌, ◌∙◌, ap, sym, subst, ℕ, ◌+◌, ◌-◌, ◌^◌, ◌<◌, ◌≤◌, Bool, true, false, List, [], ◌∷◌, length, refl, arith, inr, append-nil}
use Rattle.std.specs.Prelude.{Some, None, ◌==◌, not, sum_by}
use Rattle.std.specs.List.{AllByRecursion}
use Rattle.std.proofs.lemmas.Bool.Decides.{nat_tests}
use Rattle.std.proofs.lemmas.List.Sums.{sum_by-cons}
use Rattle.vp_model.specs.Types.{TxnId, View, Op, Commit, Part, Live, Doubt}
use Rattle.vp_model.specs.Types.call
use Rattle.vp_model.specs.Words.{has_txn, same_txn, for_each}
use Rattle.vp_model.specs.Catalogue.{Catalogue, Table, find_record}
use Rattle.vp_model.specs.Durable.{without_doubt}
use Rattle.vp_model.specs.Site.{SiteState}
use Rattle.vp_model.specs.Transactions.{entry_of, Deed, with_operation, with_table}
use Rattle.vp_model.specs.Calls.{begun, size_of}
use Rattle.vp_model.specs.World.{WorldState, site_of}
use Rattle.vp_model.proofs.SameTxn.{same_txn-is, same_txn-other}
use Rattle.vp_laws.proofs.Lists.Members.{Has, has_none, any_true}
use Rattle.vp_laws.proofs.Moves.Table.{next_name, lent_at}
use Rattle.vp_laws.proofs.Journal.UpTo.{filter_all}
use Rattle.vp_laws.proofs.Worlds.Scenes.{scene_of}
use Rattle.vp_laws.proofs.Invariant.Names.{UsedTxn}
use Rattle.vp_laws.proofs.Invariant.Known.{Known}
use Rattle.vp_laws.proofs.Keeping.Endings.{fresh}
use Rattle.vp_progress.specs.Clients.{Wish, name_in, bytes_in, FitATransaction, FulfilAll, MayGive}
use Rattle.vp_progress.proofs.Calm.{serves_since}
use Rattle.vp_progress.proofs.Can.{Can, can_now, can_then}
use Rattle.vp_progress.proofs.Acts.{Did}
use Rattle.vp_progress.proofs.Started.{Past}
use Rattle.vp_progress.proofs.Based.{other_as}
use Rattle.vp_progress.proofs.Serving.Rows.{begins}
use Rattle.vp_progress.proofs.Serving.Sites.{Rest, IsResting, Lends}
use Rattle.vp_progress.proofs.Serving.Leading.{leads_begun}
use Rattle.vp_progress.proofs.Serving.Worlds.{IsUnused, Stand, Serving, calls, still_stand, same_journal}
use Rattle.vp_progress.proofs.Serving.Operations.{Done, fulfils_one}
use Rattle.vp_progress.proofs.Serving.Commits.{RestsAt, Committed, commits_all}

-- ---- a name that was never given

not_ended : (txns : List TxnId) (txn : TxnId) → (Has txns txn → ⊥) → has_txn txns txn ≡ false
not_ended txns txn none = go (has_txn txns txn) refl
  where
    go : (b : Bool) → has_txn txns txn ≡ b → b ≡ false
    go false e = refl
    go true e = let a = any_true (λ (u : TxnId). same_txn u txn) txns e in absurd (none (subst (Has txns) (same_txn-is a.0 txn a.2) a.1))

new_doubt : (ds : List Doubt) (txn : TxnId) → ((d : Doubt) → Has ds d → d.txn ≢ txn) → without_doubt txn ds ≡ ds
new_doubt ds txn none = filter_all (λ (d : Doubt). not (same_txn d.txn txn)) ds (λ d h. let e = same_txn-other d.txn txn (none d h) in rw e refl)

module _ (catalogue : Catalogue) (ns : List ℕ) (v : View) (q : ℕ) (lead : Has ns q) (rest : ℕ → Rest) (among : (k : ℕ) → Has v.members k → Has ns k) (members : (k : ℕ) → Has ns k → Has v.members k) (past : Past) where
  abbrev Goes : Live → WorldState → Type 0
  Goes t w = Serving catalogue ns v q rest among past t [] w

  abbrev Reaches : WorldState → (WorldState → Type 0) → Type 0
  Reaches w Q = Can catalogue (serves_since past.told q ns) w Q

  abbrev pub AtRest : ℕ → WorldState → Type 0
  AtRest k w = RestsAt catalogue ns v q lead rest among members past k w

  -- all rests
  pub record Resting (w : WorldState) : Type 0 where
    pub known : Known catalogue (scene_of w)
    pub stand : Stand past.told ns w
    pub same : w.journal ≡ past.entries
    pub rests : (k : ℕ) → Has ns k → AtRest k w

  abbrev pub Grantable : Wish → Type 0
  Grantable wish = (rec : ℕ) × (find_record catalogue (name_in wish) ≡ Some rec) × IsUnused catalogue ns v q rest among rec × MayGive catalogue v.members wish

  -- a new transaction of the site
  record Begun (x : SiteState) (w : WorldState) : Type 0 where
    goes : Goes (begun (next_name x) v.id) w

  begins_one : (w : WorldState) (f : Resting w) → (x : SiteState) → site_of w q ≡ Some x → (x.seq == 2 ^ 32 - 1) ≡ false → Reaches w (Begun x)
  begins_one w f x up left =
      let own = f.rests q lead in
      let same : own.0 ≡ x = (let z = sym own.1 ∙ up in grind (arith, z)) in
      let r : IsResting v (rest q) x = subst (IsResting v (rest q)) same own.2 in
      let txn = next_name x in
      let id = (f.known.views.site q x up).id in
      let unused : UsedTxn (scene_of w) txn → ⊥ = (λ u. fresh (scene_of w) q x up id txn u refl) in
      calls catalogue ns v q rest among past.told (Begun x) w f.known x up call.Begin refl
      λ new known d0.
      let d = subst (Did w new q x) (begins catalogue x v r.held r.live left) d0 in
      let g = leads_begun (rest q) txn 0 v.id (lent_at x) r.live r.locks r.decisions r.bars refl in
      can_now catalogue (serves_since past.told q ns) (Begun x) new (record {
        goes = record {
          known = known;
          stand = still_stand catalogue ns v q rest among past.told w new q x _ f.stand d;
          same = same_journal catalogue ns v q rest among w new q x _ past.entries [] f.same d g.commits ∙ append-nil past.entries;
          at = _;
          up = d.acted.now;
          leads = record { held = r.held; live = g.live; parts = r.parts; refresh = r.refresh; doubts = r.doubts; decisions = g.decisions; bars = g.bars; locks = g.locks };
          free = λ rec h. absurd (has_none rec h);
          others = λ k here n.
              let y = f.rests k here in
              let names = f.known.names.site k y.0 y.1 in
              record {
                at = y.0;
                up = other_as d k n ∙ y.1;
                lends = lends_new y.0 (rest k) txn y.2 (λ h. unused (names.ended txn h)) (λ a h e. unused (subst (UsedTxn (scene_of w)) e (names.doubts a h).0));
                part = λ h. absurd (has_none k h);
                rests = λ none. y.2;
              };
        };
      })
    where
      lends_new : (y : SiteState) (r : Rest) (txn : TxnId) → IsResting v r y → (Has y.ended txn → ⊥) → ((a : Doubt) → Has y.doubts a → a.txn ≢ txn) → Lends v r txn y
      lends_new y r txn h ended doubts = record {
        held = h.held;
        live = h.live;
        refresh = h.refresh;
        decisions = h.decisions;
        bars = h.bars;
        doubts = new_doubt y.doubts txn doubts ∙ h.doubts;
        parts = λ p there. absurd (has_none p (subst (λ (ps : List Part). Has ps p) h.parts there));
        locks = λ l there. inr (h.locks l there);
        new = not_ended y.ended txn ended;
        settled = λ d rec there named. absurd (doubts d there named);
      }

  -- ---- all wishes

  record Fulfilled (t : Live) (wishes : List Wish) (w : WorldState) : Type 0 where
    now : Live
    deeds : List Deed
    goes : Goes now w
    idle : now.pending ≡ None
    fulfil : FulfilAll catalogue wishes deeds
    more : now.ops ≡ for_each deeds with_operation t.ops
    tables : now.tables ≡ for_each deeds with_table t.tables
    named : now.txn ≡ t.txn

  all_wishes : (wishes : List Wish) (t : Live) (w : WorldState) → Goes t w → t.pending ≡ None → length t.answers + length wishes ≤ 64 → size_of t + sum_by bytes_in wishes ≤ 15360 → AllByRecursion Grantable wishes → Reaches w (Fulfilled t wishes)
  all_wishes [] t w f idle few small h = can_now catalogue (serves_since past.told q ns) _ w (record { now = t; deeds = []; goes = f; idle = idle; fulfil = tt; more = refl; tables = refl; named = refl })
  all_wishes (wish ∷ wishes) t w f idle few small h =
      let bytes = sum_by-cons bytes_in wish wishes in
      can_then catalogue (serves_since past.told q ns) (Done catalogue ns v q lead rest among past t wish) (Fulfilled t (wish ∷ wishes)) w
      (fulfils_one catalogue ns v q lead rest among past t w f idle (omega (arith, few)) wish (omega (arith, small, bytes)) h.0.0 h.0.1 h.0.2 h.0.3)
      λ mid d.
      can_then catalogue (serves_since past.told q ns) (Fulfilled d.now wishes) (Fulfilled t (wish ∷ wishes)) mid
      (all_wishes wishes d.now mid d.goes d.idle (let longer = d.answers in omega (arith, few, longer)) (let larger = d.size in omega (arith, small, bytes, larger)) h.1)
      λ new e. can_now catalogue (serves_since past.told q ns) _ new (record {
        now = e.now;
        deeds = d.deed ∷ e.deeds;
        goes = e.goes;
        idle = e.idle;
        fulfil = (d.fulfils, e.fulfil);
        more = e.more ∙ ap (λ (ops : List Op). for_each e.deeds with_operation ops) d.ops;
        tables = e.tables ∙ ap (λ (ts : List (ℕ × Table)). for_each e.deeds with_table ts) d.tables;
        named = e.named ∙ d.named;
      })

  -- what the client gets
  pub record Serves (wishes : List Wish) (w : WorldState) : Type 0 where
    pub entry : Commit
    pub own : entry.txn.site ≡ q
    pub deeds : List Deed
    pub fulfilled : FulfilAll catalogue wishes deeds
    pub ops : entry.ops ≡ for_each deeds with_operation []
    pub tables : entry.tables ≡ for_each deeds with_table []
    pub committed : Committed catalogue ns v q lead rest among members past entry w

  pub serves_all : (wishes : List Wish) (w : WorldState) → Resting w → (x : SiteState) → site_of w q ≡ Some x → x.seq < 2 ^ 32 - 1 → FitATransaction wishes → AllByRecursion Grantable wishes → Reaches w (Serves wishes)
  serves_all wishes w f x up left fits grantable =
      let t = begun (next_name x) v.id in
      let id = (f.known.views.site q x up).id in
      can_then catalogue (serves_since past.told q ns) (Begun x) (Serves wishes) w (begins_one w f x up (grind (arith, nat_tests, left)))
      λ w1 b. can_then catalogue (serves_since past.told q ns) (Fulfilled t wishes) (Serves wishes) w1 (all_wishes wishes t w1 b.goes refl (let few = fits.few in omega (arith, few)) (let small = fits.small in omega (arith, small)) grantable)
      λ w2 e. can_then catalogue (serves_since past.told q ns) (Committed catalogue ns v q lead rest among members past (entry_of e.now)) (Serves wishes) w2 (commits_all catalogue ns v q lead rest among members past e.now w2 e.goes e.idle)
      λ new c. can_now catalogue (serves_since past.told q ns) (Serves wishes) new (record {
        entry = entry_of e.now;
        own = ap (λ (u : TxnId). u.site) e.named ∙ id;
        deeds = e.deeds;
        fulfilled = e.fulfil;
        ops = e.more;
        tables = e.tables;
        committed = c;
      })
