-- The last vote of a transaction commits it, and a copy that may be read is read.
use Rattle.std.proofs.Common.{◌≡◌, ⊎_elim, ◌∙◌, ap, sym, subst, ℕ, ◌+◌, Bool, true, false, List, [], ◌∷◌, refl, arith, length}
use Rattle.std.specs.Prelude.{Option, Some, None, ◌==◌, ◌&&◌, not, nat_le, nat_lt, filter}
use Rattle.std.specs.List.{list_any}
use Rattle.std.proofs.lemmas.Bool.Decides.{nat_tests}
use Rattle.std.proofs.lemmas.Bool.{eq-eqb}
use Rattle.vp_model.specs.Types.{TxnId, View, Call, Stored, Owner, Lock, Effects, Pending, Live}
use Rattle.vp_base.specs.declared.site.Ending.TheVariants.{Committed}
use Rattle.vp_model.specs.Types.answer
use Rattle.vp_model.specs.Types.call
use Rattle.vp_model.specs.Types.input
use Rattle.vp_model.specs.Types.op
use Rattle.vp_model.specs.Types.owner
use Rattle.vp_model.specs.Words.{same_txn, same_owner, has, is_empty, value_at, keys}
use Rattle.vp_model.specs.Catalogue.{Catalogue, holders}
use Rattle.vp_model.specs.Locks.{conflicting, conflict, least_owner}
use Rattle.vp_model.specs.Site.{SiteState, Lent}
use Rattle.vp_model.specs.Transactions.{entry_of, deed_answer, Deed, live_of, last_writes, with_pending_reply, finish, keep_writes, decided, decide, complete}
use Rattle.vp_model.specs.Refresh.{is_open, members_in}
use Rattle.vp_model.specs.Calls.{take_lock, lock_here, with_record, read, new_call, live_call, on_txn_call, own_call, on_call}
use Rattle.vp_model.specs.Answers.{with_missing, voted, on_vote, on_answer}
use Rattle.vp_model.specs.Messages.{on_message}
use Rattle.vp_model.specs.Step.{on_input, step}
use Rattle.vp_model.specs.Headline.{is_locked}
use Rattle.vp_model.specs.World.{Schedule, run_of}
use Rattle.vp_laws.specs.Votes.{is_commit}
use Rattle.vp_laws.specs.Completeness.{LastVotesCommit, IsNextOperation, ReadableCopiesAreRead}
use Rattle.vp_laws.proofs.Journal.Changed.{operation_changed}
use Rattle.vp_laws.proofs.Lists.Members.{Has, has_of, contains, has_none, has_first, has_more, has_cons, any_false, any_of, either_false, both_true, not_true, has_test}
use Rattle.vp_model.proofs.SameTxn.{same_txn-is, same_txn-self}
use Rattle.vp_laws.proofs.Lists.Names.{Apart}
use Rattle.vp_laws.proofs.Lists.Changes.{mapped_has}
use Rattle.vp_laws.proofs.Lists.LockTables.{HasLock}
use Rattle.vp_laws.proofs.Moves.Frames.{decided-commits, decide-cases}
use Rattle.vp_laws.proofs.Moves.Coordinator.{unbarred}
use Rattle.vp_laws.proofs.Moves.Table.{lent_at}
use Rattle.vp_laws.proofs.Table.Copies.{value_pair}
use Rattle.vp_laws.proofs.Worlds.Scenes.{scene_of}
use Rattle.vp_laws.proofs.Worlds.Events.{in_last}
use Rattle.vp_laws.proofs.Invariant.Held.{copy_held}
use Rattle.vp_laws.proofs.Invariant.Known.{Known}
use Rattle.vp_laws.proofs.Lists.Pairs.{last_written, value_key}
use Rattle.vp_laws.proofs.Keeping.Known.{known_last}

-- a live transaction is found by its name
live_found : (live : List Live) → Apart live → (t : Live) → Has live t → live_of t.txn live ≡ Some t
live_found [] apart t h = absurd (has_none t h)
live_found (u ∷ live) apart t h = ⊎_elim
    (λ (one : u ≡ t). let e : same_txn u.txn t.txn ≡ true = rw one (same_txn-self t.txn) in rw e (ap (λ (u : Live). Some u) one))
    (λ more. go (same_txn u.txn t.txn) refl more (live_found live apart.1 t more))
    (has_cons u live t h)
  where
    go : (b : Bool) → same_txn u.txn t.txn ≡ b → Has live t → live_of t.txn live ≡ Some t → live_of t.txn (u ∷ live) ≡ Some t
    go true e more rest = absurd (apart.0 t more (sym (same_txn-is u.txn t.txn e)))
    go false e more rest = rw e rest

-- no other site is missing
none_else : (missing : List ℕ) (from : ℕ) → ((q : ℕ) → Has missing q → q ≡ from) → is_empty (filter (λ q. not (q == from)) missing) ≡ true
none_else [] from h = refl
none_else (q ∷ missing) from h = let e : (q == from) ≡ true = eq-eqb q from (h q (has_first q missing)) in rw e (none_else missing from (λ p k. h p (has_more q missing p k)))

pending_reply : (txn : TxnId) (o : Option Pending) (p : Pending) (e : Effects) → o ≡ Some p → e.replies ≡ [] → (with_pending_reply txn Committed o e).replies ≡ (record { to = p.port; answer = answer.Committed txn p.number }) ∷ []
pending_reply txn o p e is none = rw (is, none) refl

-- a decision makes the entry and answers the commit
record Decided (t : Live) (p : Pending) (l : Lent) : Type 0 where
  commits : l.effects.commits ≡ (entry_of t) ∷ []
  replies : l.effects.replies ≡ (record { to = p.port; answer = answer.Committed t.txn p.number }) ∷ []

decides : (catalogue : Catalogue) (x : SiteState) (t : Live) (p : Pending) → t.pending ≡ Some p → Decided t p (decide catalogue x.id t (lent_at x))
unfolding keep_writes decided finish
decides catalogue x t p pending = decide-cases (Decided t p) catalogue x.id t (lent_at x)
    (λ none. record { commits = decided-commits x.id t (lent_at x); replies = pending_reply t.txn t.pending p _ pending refl })
    (λ some. record { commits = decided-commits x.id t (keep_writes catalogue x.id t (lent_at x)); replies = pending_reply t.txn t.pending p _ pending refl })

vote_decides : (catalogue : Catalogue) (x : SiteState) (from : ℕ) (t : Live) (p : Pending) → live_of t.txn x.live ≡ Some t → t.pending ≡ Some p → is_commit p.call ≡ true → has p.missing from ≡ true → is_empty (filter (λ q. not (q == from)) p.missing) ≡ true → on_vote catalogue x.id from t.txn (lent_at x) ≡ decide catalogue x.id t (lent_at x)
unfolding on_vote with_missing
vote_decides catalogue x from t p live pending commit missing last = let done = go p.call commit in grind (arith, live, pending, missing, done)
  where
    go : (words : Call) → is_commit words ≡ true → voted catalogue x.id from t p words (lent_at x) ≡ decide catalogue x.id t (lent_at x)
    go (call.Commit txn number) e = rw last refl
    go (call.Read txn number name) e = cc
    go (call.Write txn number name value) e = cc
    go (call.Delete txn number name) e = cc
    go (call.Weigh txn number name table) e = cc
    go (call.Abort txn number) e = cc
    go call.Begin e = cc
    go call.Regroup e = cc

known_now : (s : Schedule) → Known s.catalogue (scene_of (run_of s).world)
known_now s = in_last s.catalogue (Known s.catalogue) (known_last s.catalogue) s.events

pub last_votes_commit : (s : Schedule) → LastVotesCommit s.catalogue (run_of s).world
unfolding step on_input on_message on_answer
last_votes_commit s site from x t p up there pending commit waits =
    let h = has_of x.live t there in
    let apart = (known_now s).votes.site site x up in
    let missing = has_test p.missing from (has_of p.missing from waits.0) in
    let last = none_else p.missing from (λ q k. waits.1 q (contains p.missing q k)) in
    let same = vote_decides s.catalogue x from t p (live_found x.live apart t h) pending commit missing last in
    let d = decides s.catalogue x t p pending in
    (ap (λ (l : Lent). l.effects.commits) same ∙ d.commits, ap (λ (l : Lent). l.effects.replies) same ∙ d.replies)

-- a record without an exclusive lock is free for a read
nothing_conflicts : (rec : ℕ) (o : Owner) (locks : List Lock) → list_any (is_locked rec) locks ≡ false → conflicting rec false o locks ≡ []
nothing_conflicts rec o [] e = refl
nothing_conflicts rec o (l ∷ locks) e =
    let q = either_false (is_locked rec l) (list_any (is_locked rec) locks) e in rw (shared l q.0) (nothing_conflicts rec o locks q.1)
  where
    shared : (l : Lock) → is_locked rec l ≡ false → ((l.rec == rec) && l.exclusive && not (same_owner l.owner o)) ≡ false
    shared l e = grind (arith, e)

shut : (rec : ℕ) (l : Lock) → l.rec ≡ rec → l.exclusive ≡ true → is_locked rec l ≡ false → ⊥
shut rec l on high e = let z : (l.rec == rec) ≡ true = eq-eqb l.rec rec on in let y : is_locked rec l ≡ true = rw (z, high) refl in cc

copied_key : (rec : ℕ) (copies : List (ℕ × Stored)) (copy : Stored) → value_at rec copies ≡ Some copy → Has (keys copies) rec
copied_key rec copies copy e = mapped_has (λ (c : ℕ × Stored). c.0) copies (rec, copy) (value_pair rec copies copy e)

module _ (catalogue : Catalogue) (x : SiteState) (t : Live) (port number rec : ℕ) (name : List ℕ) (copy : Stored) (live : live_of t.txn x.live ≡ Some t) (next : IsNextOperation catalogue t number name rec) where
  old : nat_le number (length t.answers) ≡ false
  old = let e = next.next in grind (arith, nat_tests, e)

  skips : nat_lt (length t.answers + 1) number ≡ false
  skips = let e = next.next in grind (arith, nat_tests, e)

  many : nat_le 64 (length t.answers) ≡ false
  many = let e = next.few in grind (arith, nat_tests, e)

  read_answers : value_at rec x.bars ≡ None → list_any (has (members_in x.held)) (holders catalogue rec) ≡ true → value_at rec (last_writes t.ops) ≡ None → value_at rec x.copies ≡ Some copy → conflict rec false t.txn x.locks ≡ None → (step catalogue x (input.Call port (call.Read t.txn number name))).effects.replies ≡ (record { to = port; answer = deed_answer t.txn number (Deed.operates (op.Read rec copy.value)) }) ∷ []
  unfolding step on_input on_call own_call on_txn_call live_call new_call with_record read lock_here take_lock complete
  read_answers open_bar held unwritten copied free = rw (live, old, skips, next.idle, next.found, many, open_bar, held, unwritten, copied, free) refl

pub readable_copies_are_read : (s : Schedule) → ReadableCopiesAreRead s.catalogue (run_of s).world
readable_copies_are_read s site port number rec name x t copy up there next copied readable =
    read_answers s.catalogue x t port number rec name copy (live_found x.live ((known_now s).votes.site site x up) t (has_of x.live t there)) next (unbarred x rec parts.0) a_holder unwritten copied (ap least_owner (nothing_conflicts rec (owner.Txn t.txn) x.locks parts.1))
  where
    parts : (is_open x rec ≡ true) × (list_any (is_locked rec) x.locks ≡ false)
    parts = let q = both_true (is_open x rec) (not (list_any (is_locked rec) x.locks)) readable in (q.0, not_true (list_any (is_locked rec) x.locks) q.1)

    live : Has x.live t
    live = has_of x.live t there

    -- the site itself is a holder in the view
    a_holder : list_any (has (members_in x.held)) (holders s.catalogue rec) ≡ true
    a_holder =
        let k = known_now s in
        let of = (k.led.site site x up).live t live in
        let own = k.views.site site x up in
        let member = subst (Has of.0.members) own.id (own.tidy.held of.0 of.1).3 in
        any_of (has (members_in x.held)) (holders s.catalogue rec) site (copy_held s.catalogue (scene_of (run_of s).world) site x up own.kept k.held rec (copied_key rec x.copies copy copied))
        (subst (λ (held : Option View). has (members_in held) site ≡ true) (sym of.1) (has_test of.0.members site member))

    locked : HasLock rec true (owner.Txn t.txn) x.locks → ⊥
    locked l = shut rec l.lock l.on (l.strong refl) (any_false (is_locked rec) x.locks parts.1 l.lock l.has)

    -- what the transaction wrote here is locked exclusively
    written : (value : Option (List ℕ)) → value_at rec (last_writes t.ops) ≡ Some value → ⊥
    written value e =
        let p = value_key rec (last_writes t.ops) value e in
        let w = last_written t.ops p.0 p.1 in
        locked ((((known_now s).guards.site site x up).own t (has_of x.live t there)).wrote rec (operation_changed t rec w.0 (subst (λ (n : ℕ). Has t.ops (op.Write n w.0)) p.2 w.1)) (copied_key rec x.copies copy copied))

    unwritten : value_at rec (last_writes t.ops) ≡ None
    unwritten = go (value_at rec (last_writes t.ops)) refl
      where
        go : (o : Option (Option (List ℕ))) → value_at rec (last_writes t.ops) ≡ o → o ≡ None
        go None e = refl
        go (Some value) e = absurd (written value e)
