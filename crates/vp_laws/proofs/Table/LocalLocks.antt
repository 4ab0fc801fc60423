-- The locks of one site: who owns them, which ones a doubt, a refresh and a live transaction here have, and what keeps it so.
use Rattle.std.proofs.Common.{◌≡◌, ◌≢◌, ◌⊎◌, ◌∙◌, sym, subst, ℕ, Bool, true, false, cond, List, [], ◌∷◌, refl, arith, inl, inr, ⊎_elim}
use Rattle.std.specs.Prelude.{Option, Some, None, filter, not, ◌==◌, ◌&&◌}
use Rattle.std.specs.List.{list_any}
use Rattle.std.proofs.lemmas.Bool.Decides.{nat_tests}
use Rattle.std.proofs.lemmas.Bool.{or_right}
use Rattle.vp_laws.proofs.Journal.Changed.{HasChanged}
use Rattle.vp_model.specs.Transactions.{Deed}
use Rattle.vp_model.specs.Types.{ViewId, TxnId, View, Lock, Part, Pending, Live, Refreshing, Doubt}
use Rattle.vp_model.specs.Types.op
use Rattle.vp_model.specs.Types.owner
use Rattle.vp_model.specs.Words.{same_txn, same_owner, without_first, keys, opening}
use Rattle.vp_model.specs.Catalogue.{Catalogue}
use Rattle.vp_model.specs.Durable.{without_doubt}
use Rattle.vp_model.specs.Locks.{with_lock, with_guard, without_guard, without_owner}
use Rattle.vp_model.specs.Site.{ParticipantState}
use Rattle.vp_model.specs.Views.{has_part, has_doubt, outlasts_for, outlasts}
use Rattle.vp_laws.proofs.Lists.Members.{Has, has_none, has_first, has_more, has_cons, filter_has, filter_keeps, any_true, any_false}
use Rattle.vp_model.proofs.SameTxn.{same_txn-is, same_txn-not, same_txn-self, same_txn-other, same_txn-clash}
use Rattle.vp_laws.proofs.Lists.Names.{Apart, named, without_gone}
use Rattle.vp_laws.proofs.Lists.Changes.{without_first_has}
use Rattle.vp_laws.proofs.Lists.LockTables.{NoConflict, IsFree, HasLock, lock_origin, locked, guarded, lock_kept, lock_taken, fewer_locks, lock_stays}
use Rattle.vp_laws.proofs.Lists.Views.{Precedes}
use Rattle.vp_laws.proofs.Moves.Table.{Reads, Changes}

-- the transaction is live here, or has a part or a doubt here
abbrev pub IsKnown : List Live → List Part → List Doubt → TxnId → Type 0
IsKnown live parts doubts txn = ((t : Live) × Has live t × (t.txn ≡ txn)) ⊎ (((p : Part) × Has parts p × (p.txn ≡ txn)) ⊎ ((d : Doubt) × Has doubts d × (d.txn ≡ txn)))

-- it is in doubt here in a lower view
abbrev pub LowerDoubt : List Doubt → ViewId → TxnId → Type 0
LowerDoubt doubts view txn = (d : Doubt) × Has doubts d × (d.txn ≡ txn) × Precedes d.view view

-- what a live transaction has used of the copies here it has locked
pub record OwnLocks (catalogue : Catalogue) (copied : List ℕ) (locks : List Lock) (t : Live) : Type 0 where
  -- each record that it read and that has a copy here
  pub read : (rec : ℕ) (value : Option (List ℕ)) → Has t.ops (op.Read rec value) → Has copied rec → HasLock rec false (owner.Txn t.txn) locks
  -- each one that it changed, exclusively
  pub wrote : (rec : ℕ) → HasChanged t rec → Has copied rec → HasLock rec true (owner.Txn t.txn) locks
  -- a pending read asks another site only where there is no copy here
  pub reading : (p : Pending) (rec : ℕ) → t.pending ≡ Some p → Reads catalogue p rec → Has copied rec → ⊥
  -- a pending write has its lock on the copy here
  pub writing : (p : Pending) (rec : ℕ) (deed : Deed) → t.pending ≡ Some p → Changes catalogue p rec deed → Has copied rec → HasLock rec true (owner.Txn t.txn) locks

pub record LocksOk (catalogue : Catalogue) (live : List Live) (parts : List Part) (doubts : List Doubt) (refresh : List Refreshing) (held : Option View) (copied : List ℕ) (locks : List Lock) : Type 0 where
  -- two locks of transactions on one record, of which one is exclusive, have one owner
  pub apart : NoConflict locks
  -- a transaction with a lock is live here, or has a part or a doubt here
  pub owners : (l : Lock) (txn : TxnId) → Has locks l → l.owner ≡ owner.Txn txn → IsKnown live parts doubts txn
  -- a doubt has the exclusive locks of its writes
  pub doubted : (d : Doubt) (rec : ℕ) → Has doubts d → Has (keys d.writes) rec → HasLock rec true (owner.Txn d.txn) locks
  -- a record under refresh has its guard, and each guard is of one
  pub listed : (r : Refreshing) → Has refresh r → HasLock r.rec true owner.Refresh locks
  pub guard : (l : Lock) → Has locks l → l.owner ≡ owner.Refresh → (r : Refreshing) × Has refresh r × (r.rec ≡ l.rec)
  -- then a view above the opening one is held, and other locks on the record are of doubts of lower views
  pub lower : (r : Refreshing) → Has refresh r → (v : View) × (held ≡ Some v) × Precedes opening v.id × ((l : Lock) (txn : TxnId) → Has locks l → l.rec ≡ r.rec → l.owner ≡ owner.Txn txn → LowerDoubt doubts v.id txn)
  -- live transactions have locked what they have used here
  pub own : (t : Live) → Has live t → OwnLocks catalogue copied locks t

pub without_first_keeps : {X : Type 0} (test : X → Bool) (xs : List X) (a : X) → Has xs a → test a ≡ false → Has (without_first test xs) a
without_first_keeps test [] a h e = absurd (has_none a h)
without_first_keeps test (x ∷ xs) a h e = go (test x) refl (λ q. without_first_keeps test xs a q e)
  where
    go : (b : Bool) → test x ≡ b → (Has xs a → Has (without_first test xs) a) → Has (cond b xs (x ∷ without_first test xs)) a
    go true t rest = ⊎_elim (λ (one : x ≡ a). absurd (let z : test a ≡ true = rw (← one) t in cc)) (λ more. more) (has_cons x xs a h)
    go false t rest = ⊎_elim (λ (one : x ≡ a). rw one (has_first a _)) (λ more. has_more x _ a (rest more)) (has_cons x xs a h)

not_that : (a b : TxnId) → a ≢ b → not (same_txn a b) ≡ true
not_that a b n = rw (same_txn-other a b n) refl

-- more locks on what there is
own_more : (catalogue : Catalogue) (copied : List ℕ) (locks now : List Lock) (t : Live) → ((rec : ℕ) (exclusive : Bool) → HasLock rec exclusive (owner.Txn t.txn) locks → HasLock rec exclusive (owner.Txn t.txn) now) → OwnLocks catalogue copied locks t → OwnLocks catalogue copied now t
own_more catalogue copied locks now t more h = record {
  read = λ rec value k c. more rec false (h.read rec value k c);
  wrote = λ rec k c. more rec true (h.wrote rec k c);
  reading = h.reading;
  writing = λ p rec value e w c. more rec true (h.writing p rec value e w c);
}

module _ (catalogue : Catalogue) (live : List Live) (parts : List Part) (doubts : List Doubt) (refresh : List Refreshing) (held : Option View) (copied : List ℕ) (locks : List Lock) (ok : LocksOk catalogue live parts doubts refresh held copied locks) where
  -- a lock that no other forbids is not on a record under refresh
  not_listed : (rec : ℕ) (exclusive : Bool) (txn : TxnId) → IsFree rec exclusive (owner.Txn txn) locks → (r : Refreshing) → Has refresh r → rec ≡ r.rec → ⊥
  not_listed rec exclusive txn free r h e =
      let g = ok.listed r h in
      let z = sym g.by ∙ free g.lock g.has (g.on ∙ sym e) (or_right exclusive g.lock.exclusive (g.strong refl)) in cc

  -- a transaction that is known takes a lock
  pub takes : (rec : ℕ) (exclusive : Bool) (txn : TxnId) → IsFree rec exclusive (owner.Txn txn) locks → IsKnown live parts doubts txn → LocksOk catalogue live parts doubts refresh held copied (with_lock rec exclusive (owner.Txn txn) locks)
  takes rec exclusive txn free known = record {
    apart = locked rec exclusive txn locks free ok.apart;
    owners = λ l u h e. ⊎_elim (λ old. ok.owners l u old e) (λ (new : (l.rec ≡ rec) × (l.owner ≡ owner.Txn txn)). let z = sym new.1 ∙ e in let same : txn ≡ u = cc in rw (← same) known) (lock_origin rec exclusive (owner.Txn txn) locks l h);
    doubted = λ d r h k. lock_kept r true (owner.Txn d.txn) rec exclusive (owner.Txn txn) locks (ok.doubted d r h k);
    listed = λ r h. lock_kept r.rec true owner.Refresh rec exclusive (owner.Txn txn) locks (ok.listed r h);
    guard = λ l h e. ⊎_elim (λ old. ok.guard l old e) (λ (new : (l.rec ≡ rec) × (l.owner ≡ owner.Txn txn)). absurd (let z = sym new.1 ∙ e in cc)) (lock_origin rec exclusive (owner.Txn txn) locks l h);
    lower = λ r h. let q = ok.lower r h in (q.0, q.1, q.2, (λ l u k on by. ⊎_elim (λ old. q.3 l u old on by) (λ (new : (l.rec ≡ rec) × (l.owner ≡ owner.Txn txn)). absurd (not_listed rec exclusive txn free r h (sym new.0 ∙ on))) (lock_origin rec exclusive (owner.Txn txn) locks l k)));
    own = λ t h. own_more catalogue copied locks _ t (λ r e k. lock_kept r e (owner.Txn t.txn) rec exclusive (owner.Txn txn) locks k) (ok.own t h);
  }

  -- other live transactions, of the same names
  pub renews : (now : List Live) → ((u : Live) → Has live u → (t : Live) × Has now t × (t.txn ≡ u.txn)) → ((t : Live) → Has now t → OwnLocks catalogue copied locks t) → LocksOk catalogue now parts doubts refresh held copied locks
  renews now names own = record {
    apart = ok.apart;
    owners = λ l txn h e. ⊎_elim (λ (q : (t : Live) × Has live t × (t.txn ≡ txn)). let r = names q.0 q.1 in inl (r.0, r.1, r.2 ∙ q.2)) (λ rest. inr rest) (ok.owners l txn h e);
    doubted = ok.doubted;
    listed = ok.listed;
    guard = ok.guard;
    lower = ok.lower;
    own = own;
  }

  -- other parts and doubts
  pub shares_change : (now : List Part) (more : List Doubt) → ((txn : TxnId) → ((p : Part) × Has parts p × (p.txn ≡ txn)) → ((p : Part) × Has now p × (p.txn ≡ txn)) ⊎ ((d : Doubt) × Has more d × (d.txn ≡ txn))) → ((d : Doubt) → Has doubts d → Has more d) → ((d : Doubt) (rec : ℕ) → Has more d → Has (keys d.writes) rec → HasLock rec true (owner.Txn d.txn) locks) → LocksOk catalogue live now more refresh held copied locks
  shares_change now more known stays has = record {
    apart = ok.apart;
    owners = λ l txn h e. ⊎_elim (λ t. inl t) (λ rest. ⊎_elim (λ p. inr (known txn p)) (λ (d : (d : Doubt) × Has doubts d × (d.txn ≡ txn)). inr (inr (d.0, stays d.0 d.1, d.2))) rest) (ok.owners l txn h e);
    doubted = has;
    listed = ok.listed;
    guard = ok.guard;
    lower = λ r h. let q = ok.lower r h in (q.0, q.1, q.2, (λ l u k on by. let d = q.3 l u k on by in (d.0, stays d.0 d.1, d.2, d.3)));
    own = ok.own;
  }

  -- another view, where no record is under refresh
  pub views_change : (now : Option View) → ((r : Refreshing) → Has refresh r → held ≡ now) → LocksOk catalogue live parts doubts refresh now copied locks
  views_change now same = record {
    apart = ok.apart;
    owners = ok.owners;
    doubted = ok.doubted;
    listed = ok.listed;
    guard = ok.guard;
    lower = λ r h. let q = ok.lower r h in (q.0, sym (same r h) ∙ q.1, q.2, q.3);
    own = ok.own;
  }

  -- a transaction of this site ends
  pub ends : (txn : TxnId) → Apart live → ((d : Doubt) → Has doubts d → d.txn ≢ txn) → LocksOk catalogue (without_first (named txn) live) parts doubts refresh held copied (without_owner (owner.Txn txn) locks)
  ends txn away no_doubt = record {
    apart = fewer_locks (λ (lock : Lock). not (same_owner lock.owner (owner.Txn txn))) locks ok.apart;
    owners = λ l u h e. let f = filter_has (λ (lock : Lock). not (same_owner lock.owner (owner.Txn txn))) locks l h in
        ⊎_elim (λ (q : (t : Live) × Has live t × (t.txn ≡ u)). inl (q.0, without_first_keeps (named txn) live q.0 q.1 (same_txn-other q.0.txn txn (other l u e f.1 q.2)), q.2)) (λ rest. inr rest) (ok.owners l u f.0 e);
    doubted = λ d rec h k. lock_stays rec true (owner.Txn d.txn) (owner.Txn txn) locks (same_txn-other d.txn txn (no_doubt d h)) (ok.doubted d rec h k);
    listed = λ r h. lock_stays r.rec true owner.Refresh (owner.Txn txn) locks refl (ok.listed r h);
    guard = λ l h e. ok.guard l (filter_has _ locks l h).0 e;
    lower = λ r h. let q = ok.lower r h in (q.0, q.1, q.2, (λ l u k on by. q.3 l u (filter_has _ locks l k).0 on by));
    own = λ t h. own_more catalogue copied locks _ t (λ rec e k. lock_stays rec e (owner.Txn t.txn) (owner.Txn txn) locks (same_txn-other t.txn txn (without_gone txn live away t h)) k) (ok.own t (without_first_has (named txn) live t h));
  }
    where
      other : (l : Lock) (u : TxnId) → l.owner ≡ owner.Txn u → not (same_owner l.owner (owner.Txn txn)) ≡ true → {a : TxnId} → a ≡ u → a ≢ txn
      other l u e n {a} same is = same_txn-clash (u) txn (rw e at n) (sym same ∙ is)

  -- a transaction of another site ends here
  pub ends_part : (txn : TxnId) → ((t : Live) → Has live t → t.txn ≢ txn) → LocksOk catalogue live (filter (λ (p : Part). not (same_txn p.txn txn)) parts) (without_doubt txn doubts) refresh held copied (without_owner (owner.Txn txn) locks)
  ends_part txn over = record {
    apart = fewer_locks (λ (lock : Lock). not (same_owner lock.owner (owner.Txn txn))) locks ok.apart;
    owners = λ l u h e. let f = filter_has (λ (lock : Lock). not (same_owner lock.owner (owner.Txn txn))) locks l h in known u (differs l u e f.1) (ok.owners l u f.0 e);
    doubted = λ d rec h k. let f = filter_has (λ (d : Doubt). not (same_txn d.txn txn)) doubts d h in lock_stays rec true (owner.Txn d.txn) (owner.Txn txn) locks (same_txn-other d.txn txn (same_txn-clash d.txn txn f.1)) (ok.doubted d rec f.0 k);
    listed = λ r h. lock_stays r.rec true owner.Refresh (owner.Txn txn) locks refl (ok.listed r h);
    guard = λ l h e. ok.guard l (filter_has _ locks l h).0 e;
    lower = λ r h. let q = ok.lower r h in (q.0, q.1, q.2, (λ l u k on by. let f = filter_has (λ (lock : Lock). not (same_owner lock.owner (owner.Txn txn))) locks l k in let d = q.3 l u f.0 on by in (d.0, doubt_stays d.0 d.1 (λ z. differs l u by f.1 (sym d.2 ∙ z)), d.2, d.3)));
    own = λ t h. own_more catalogue copied locks _ t (λ rec e k. lock_stays rec e (owner.Txn t.txn) (owner.Txn txn) locks (same_txn-other t.txn txn (over t h)) k) (ok.own t h);
  }
    where
      differs : (l : Lock) (u : TxnId) → l.owner ≡ owner.Txn u → not (same_owner l.owner (owner.Txn txn)) ≡ true → u ≢ txn
      differs l u e n = same_txn-clash u txn (rw e at n)

      doubt_stays : (d : Doubt) → Has doubts d → d.txn ≢ txn → Has (without_doubt txn doubts) d
      doubt_stays d h n = filter_keeps (λ (d : Doubt). not (same_txn d.txn txn)) doubts d h (not_that d.txn txn n)

      known : (u : TxnId) → u ≢ txn → IsKnown live parts doubts u → IsKnown live (filter (λ (p : Part). not (same_txn p.txn txn)) parts) (without_doubt txn doubts) u
      known u n (inl t) = inl t
      known u n (inr (inl (p, h, e))) = inr (inl (p, filter_keeps (λ (p : Part). not (same_txn p.txn txn)) parts p h (not_that p.txn txn (λ z. n (sym e ∙ z))), e))
      known u n (inr (inr (d, h, e))) = inr (inr (d, doubt_stays d h (λ z. n (sym e ∙ z)), e))

  -- the site leaves its view: only the exclusive locks of doubts stay
  pub leaves : (p : ParticipantState) → p.parts ≡ parts → p.doubts ≡ doubts → live ≡ [] → LocksOk catalogue live [] doubts [] None copied (filter (outlasts p) locks)
  leaves p same_parts same_doubts none = record {
    apart = fewer_locks (outlasts p) locks ok.apart;
    owners = λ l u h e. let f = filter_has (outlasts p) locks l h in inr (inr (kept l u e f.1 (ok.owners l u f.0 e)));
    doubted = λ d rec h k. let q = ok.doubted d rec h k in record { lock = q.lock; has = filter_keeps (outlasts p) locks q.lock q.has (stays d h q.lock.exclusive (q.strong refl) q.lock q.by refl); on = q.on; by = q.by; strong = q.strong };
    listed = λ r h. absurd (has_none r h);
    guard = λ l h e. absurd (no_guard l e (filter_has (outlasts p) locks l h).1);
    lower = λ r h. absurd (has_none r h);
    own = λ t h. absurd (has_none t (rw none at h));
  }
    where
      no_guard : (l : Lock) → l.owner ≡ owner.Refresh → outlasts p l ≡ true → ⊥
      no_guard l e t = let z : outlasts_for p l.exclusive owner.Refresh ≡ true = rw e at t in cc

      of_doubt : (d : Doubt) → Has doubts d → has_doubt d.txn p.doubts ≡ true
      of_doubt d h = any_is (λ (e : Doubt). same_txn e.txn d.txn) p.doubts d (rw same_doubts h) (same_txn-self d.txn)
        where
          any_is : (test : Doubt → Bool) (ds : List Doubt) (d : Doubt) → Has ds d → test d ≡ true → list_any test ds ≡ true
          any_is test ds d h t = go (list_any test ds) refl
            where
              go : (b : Bool) → list_any test ds ≡ b → b ≡ true
              go true e = refl
              go false e = absurd (let z = any_false test ds e d h in cc)

      stays : (d : Doubt) → Has doubts d → (b : Bool) → b ≡ true → (l : Lock) → l.owner ≡ owner.Txn d.txn → l.exclusive ≡ b → outlasts p l ≡ true
      stays d h b t l e x = rw (e, x, t, of_doubt d h) refl

      kept : (l : Lock) (u : TxnId) → l.owner ≡ owner.Txn u → outlasts p l ≡ true → IsKnown live parts doubts u → (d : Doubt) × Has doubts d × (d.txn ≡ u)
      kept l u e t (inl (a, h, f)) = absurd (has_none a (rw none at h))
      kept l u e t (inr (inr d)) = d
      kept l u e t (inr (inl (a, h, f))) = go (has_doubt u p.doubts) refl (has_part u p.parts) refl (rw e at t)
        where
          go : (b : Bool) → has_doubt u p.doubts ≡ b → (c : Bool) → has_part u p.parts ≡ c → cond b l.exclusive (not c) ≡ true → (d : Doubt) × Has doubts d × (d.txn ≡ u)
          go true z c y q = let r = any_true (λ (e : Doubt). same_txn e.txn u) p.doubts z in (r.0, subst (λ (ds : List Doubt). Has ds r.0) same_doubts r.1, same_txn-is r.0.txn u r.2)
          go false z true y q = cc
          go false z false y q = absurd (same_txn-not a.txn u (any_false (λ (p : Part). same_txn p.txn u) p.parts y a (rw same_parts h)) f)

  -- the refresh of a copy begins: each other lock on it is of a doubt
  pub begins_refresh : (rec : ℕ) (v : View) → held ≡ Some v → Precedes opening v.id → ((l : Lock) (txn : TxnId) → Has locks l → l.owner ≡ owner.Txn txn → LowerDoubt doubts v.id txn) → (now : List Refreshing) → ((r : Refreshing) → Has now r → (r.rec ≡ rec) ⊎ Has refresh r) → ((r : Refreshing) → Has refresh r → (s : Refreshing) × Has now s × (s.rec ≡ r.rec)) → ((s : Refreshing) × Has now s × (s.rec ≡ rec)) → LocksOk catalogue live parts doubts now held copied (with_guard rec locks)
  begins_refresh rec v in_view up lower now from stays there = record {
    apart = guarded rec locks ok.apart;
    owners = λ l u h e. ⊎_elim (λ old. ok.owners l u old e) (λ (new : (l.rec ≡ rec) × (l.owner ≡ owner.Refresh)). absurd (let z = sym new.1 ∙ e in cc)) (lock_origin rec true owner.Refresh locks l h);
    doubted = λ d r h k. lock_kept r true (owner.Txn d.txn) rec true owner.Refresh locks (ok.doubted d r h k);
    listed = λ r h. ⊎_elim (λ (e : r.rec ≡ rec). rw e (lock_taken rec true owner.Refresh locks)) (λ old. lock_kept r.rec true owner.Refresh rec true owner.Refresh locks (ok.listed r old)) (from r h);
    guard = λ l h e. ⊎_elim (λ old. let q = ok.guard l old e in let r = stays q.0 q.1 in (r.0, r.1, r.2 ∙ q.2)) (λ (new : (l.rec ≡ rec) × (l.owner ≡ owner.Refresh)). (there.0, there.1, there.2 ∙ sym new.0)) (lock_origin rec true owner.Refresh locks l h);
    lower = λ r h. (v, in_view, up, (λ l u k on by. ⊎_elim (λ old. lower l u old by) (λ (new : (l.rec ≡ rec) × (l.owner ≡ owner.Refresh)). absurd (let z = sym new.1 ∙ by in cc)) (lock_origin rec true owner.Refresh locks l k)));
    own = λ t h. own_more catalogue copied locks _ t (λ r e k. lock_kept r e (owner.Txn t.txn) rec true owner.Refresh locks k) (ok.own t h);
  }

  -- and ends
  pub ends_refresh : (rec : ℕ) → LocksOk catalogue live parts doubts (filter (λ other. not (other.rec == rec)) refresh) held copied (without_guard rec locks)
  ends_refresh rec = record {
    apart = fewer_locks unguarded locks ok.apart;
    owners = λ l u h e. ok.owners l u (filter_has unguarded locks l h).0 e;
    doubted = λ d r h k. txn_stays r true d.txn (ok.doubted d r h k);
    listed = λ r h. let f = filter_has (λ (other : Refreshing). not (other.rec == rec)) refresh r h in let g = ok.listed r f.0 in record { lock = g.lock; has = filter_keeps unguarded locks g.lock g.has (elsewhere g.lock (same_number g.on f.1)); on = g.on; by = g.by; strong = g.strong };
    guard = λ l h e. let f = filter_has unguarded locks l h in let q = ok.guard l f.0 e in (q.0, filter_keeps (λ (other : Refreshing). not (other.rec == rec)) refresh q.0 q.1 (not_it l q.0 q.2 e f.1), q.2);
    lower = λ r h. let q = ok.lower r (filter_has _ refresh r h).0 in (q.0, q.1, q.2, (λ l u k on by. q.3 l u (filter_has unguarded locks l k).0 on by));
    own = λ t h. own_more catalogue copied locks _ t (λ r e k. txn_stays r e t.txn k) (ok.own t h);
  }
    where
      unguarded : Lock → Bool
      unguarded lock = not ((lock.rec == rec) && same_owner lock.owner owner.Refresh)

      of_txn : (b : Bool) → not (b && false) ≡ true
      of_txn true = refl
      of_txn false = refl

      txn_stays : (r : ℕ) (e : Bool) (txn : TxnId) → HasLock r e (owner.Txn txn) locks → HasLock r e (owner.Txn txn) (filter unguarded locks)
      txn_stays r e txn h = record { lock = h.lock; has = filter_keeps unguarded locks h.lock h.has (rw h.by (of_txn (h.lock.rec == rec))); on = h.on; by = h.by; strong = h.strong }

      same_number : {a b : ℕ} → a ≡ b → not (b == rec) ≡ true → (a == rec) ≡ false
      same_number {a} {b} e n = grind (arith, nat_tests, e, n)

      elsewhere : (l : Lock) → (l.rec == rec) ≡ false → unguarded l ≡ true
      elsewhere l e = rw e refl

      not_it : (l : Lock) (r : Refreshing) → r.rec ≡ l.rec → l.owner ≡ owner.Refresh → unguarded l ≡ true → not (r.rec == rec) ≡ true
      not_it l r same e t = rw same (go (l.rec == rec) (rw e at t))
        where
          go : (b : Bool) → not (b && true) ≡ true → not b ≡ true
          go true q = cc
          go false q = refl
