-- The ends that are replied are true: `committed` for transactions with an entry, and another end for none that ever has one.
use Rattle.std.proofs.Common.{◌≡◌, ◌≢◌, ◌∙◌, ◌≤◌, ap, sym, subst, ℕ, Bool, true, false, List, [], map, refl, arith, ⊎_elim}
use Rattle.std.specs.Prelude.{Some, None, not, ◌&&◌, ◌||◌}
use Rattle.std.specs.Option.{option_map_or}
use Rattle.std.proofs.lemmas.Bool.{or_left, or_right}
use Rattle.std.specs.List.{list_any, list_all}
use Rattle.std.proofs.lemmas.Bool.Decides.{nat_tests}
use Rattle.vp_model.specs.Types.{TxnId, Commit, Input, Answer, Reply, Shown, Pending, Live, Ending, Finished}
use Rattle.vp_base.specs.declared.site.Ending.TheVariants.{Inaccessible, Committed, Aborted, LockHeld, ViewChanged, TimedOut}
use Rattle.vp_model.specs.Types.answer
use Rattle.vp_model.specs.Words.{same_txn}
use Rattle.vp_model.specs.Catalogue.{Catalogue}
use Rattle.vp_model.specs.Durable.{DurableState}
use Rattle.vp_model.specs.Transactions.{answer_of}
use Rattle.vp_model.specs.Site.{SiteState, Stepped}
use Rattle.vp_model.specs.Step.{step}
use Rattle.vp_model.specs.Answers.{is_live}
use Rattle.vp_model.specs.World.{Moment, Schedule, WorldState, moments_of, journal_of, site_of}
use Rattle.vp_model.specs.Told.{replies_in, answers_in}
use Rattle.vp_laws.specs.Catalogues.{IsWhole}
use Rattle.vp_model.specs.Headline.{has_entry, is_committed, commits_in, lives_in, agrees_with, ends_true_at, EndsAreTrue}
use Rattle.vp_model.specs.Justified.{refused_number, barred_number}
use Rattle.vp_laws.proofs.Replies.RefusedCalls.{refused_of, barred_of}
use Rattle.vp_laws.proofs.Lists.Members.{Has, has_none, map_has, any_true, any_false}
use Rattle.vp_laws.proofs.Lists.Changes.{mapped_has, all_from}
use Rattle.vp_model.proofs.SameTxn.{same_txn-is}
use Rattle.vp_laws.proofs.Moves.Table.{is_abort, is_end, IsNext, Replies}
use Rattle.vp_laws.proofs.Table.Endings.{NotLive, WasLive}
use Rattle.vp_laws.proofs.Table.Replies.{Said}
use Rattle.vp_laws.proofs.Worlds.Scenes.{Scene, scene_of, plain_at, kept_at, acted}
use Rattle.vp_laws.proofs.Worlds.Events.{in_each}
use Rattle.vp_laws.proofs.Worlds.Sites.{now_is, Quiet, quiet_is, live_still}
use Rattle.vp_laws.proofs.Invariant.Names.{UsedTxn}
use Rattle.vp_laws.proofs.Invariant.Endings.{HasEntry, Over}
use Rattle.vp_laws.proofs.Keeping.NewEntries.{entering}
use Rattle.vp_laws.proofs.Worlds.Moments.{MomentOf, moment_of, later_on}
use Rattle.vp_laws.proofs.Keeping.Does.{Does, does}
use Rattle.vp_laws.proofs.Invariant.OwnEnds.{InvOwnEnds}
use Rattle.vp_laws.proofs.Keeping.Names.{used_lasts, own_used, quiet_grows}
use Rattle.vp_laws.proofs.Invariant.Known.{Known}
use Rattle.vp_laws.proofs.Invariant.Invariant.{Invariant}
use Rattle.vp_laws.proofs.Order.Invariant.{invariant_last}
use Rattle.vp_laws.proofs.Lists.Numbers.{at_most_equal}

-- tests of the journal

itself : (t u : TxnId) → t ≡ u → same_txn t u ≡ true
itself t u e = grind (arith, nat_tests, e)

pub entry_found : (journal : List Commit) (e : Commit) (txn : TxnId) → Has journal e → e.txn ≡ txn → has_entry journal txn ≡ true
entry_found journal e txn h same = go (has_entry journal txn) refl
  where
    go : (b : Bool) → has_entry journal txn ≡ b → b ≡ true
    go true q = refl
    go false q = let t = any_false (λ (c : Commit). same_txn c.txn txn) journal q e h in let z = itself e.txn txn same in cc

pub entry_none : (journal : List Commit) (txn : TxnId) → ((e : Commit) → Has journal e → e.txn ≢ txn) → has_entry journal txn ≡ false
entry_none journal txn none = go (has_entry journal txn) refl
  where
    go : (b : Bool) → has_entry journal txn ≡ b → b ≡ false
    go false q = refl
    go true q = let r = any_true (λ (c : Commit). same_txn c.txn txn) journal q in absurd (none r.0 r.1 (same_txn-is r.0.txn txn r.2))

agrees_other : (by : WorldState) (last : List Commit) (a : Answer) → is_end a ≡ false → agrees_with by last a ≡ true
agrees_other by last (answer.Committed txn number) e = cc
agrees_other by last (answer.Aborted txn number) e = cc
agrees_other by last (answer.LockHeld txn number name at owner) e = cc
agrees_other by last (answer.ViewChanged txn number at held now) e = cc
agrees_other by last (answer.TimedOut txn number at) e = cc
agrees_other by last (answer.Inaccessible txn number name inside total) e = cc
agrees_other by last a e = refl

agrees_abort : (by : WorldState) (last : List Commit) (txn : TxnId) (number : ℕ) (why : Ending) → is_abort why ≡ true → has_entry last txn ≡ false → agrees_with by last (answer_of txn number why) ≡ true
agrees_abort by last txn number Committed e none = cc
agrees_abort by last txn number Aborted e none = rw none refl
agrees_abort by last txn number (LockHeld name at owner) e none = rw none refl
agrees_abort by last txn number (ViewChanged at held now) e none = rw none refl
agrees_abort by last txn number (TimedOut at) e none = rw none refl
agrees_abort by last txn number (Inaccessible name inside total) e none = let z : not (has_entry last txn) ≡ true = rw none refl in or_right (lives_in by txn) (not (has_entry last txn)) z

-- a reply that says that a transaction was refused says its end
refused_ends : (txn : TxnId) (a : Answer) (j : ℕ) → refused_number txn a ≡ Some j → is_end a ≡ false → ⊥
refused_ends txn (answer.LockHeld t number name at holder) j e f = cc
refused_ends txn (answer.ViewChanged t number at held now) j e f = cc
refused_ends txn _ j e f = cc

-- and so does one that ends it by `inaccessible`
barred_ends : (txn : TxnId) (a : Answer) (j : ℕ) → barred_number txn a ≡ Some j → is_end a ≡ false → ⊥
barred_ends txn (answer.Inaccessible t number name inside total) j e f = cc
barred_ends txn _ j e f = cc

-- the transaction is over without an entry, and gets none later
pub record EndedAt (w : Scene) (txn : TxnId) : Type 0 where
  pub used : UsedTxn w txn
  pub over : Over w txn
  pub none : (e : Commit) → Has w.journal e → e.txn ≢ txn

module _ (catalogue : Catalogue) where
  abbrev I : Scene → Type 0
  I = Invariant catalogue

  pub ended_step : (w new : Scene) (s : ℕ) (x : SiteState) (given : Input) (o : Stepped) (k : Known catalogue w) (n : Known catalogue new) (d : Does catalogue w new s x given o) (txn : TxnId) → EndedAt w txn → EndedAt new txn
  ended_step w new s x given o k n d txn h = record {
    used = used_lasts w new s d.st.moved d.grows txn h.used;
    over = λ y up t live same.
        let old = d.was txn.site y t (subst (UsedTxn w) (sym same) h.used) live (now_is w new s x o d.st txn.site y up) in
        h.over old.site old.up_then old.u old.here (old.named ∙ same);
    none = λ e there same. ⊎_elim
        (λ old. h.none e old same)
        (λ more. let f = entering catalogue w new s x given o k n d e more in h.over x (rw (ap (λ (t : TxnId). t.site) (sym same) ∙ f.site) d.up) f.was f.live (f.named ∙ same))
        (d.st.entered e there);
  }

  pub ended_quiet : (w new : Scene) (s : ℕ) → Quiet catalogue w new s → (txn : TxnId) → EndedAt w txn → EndedAt new txn
  ended_quiet w new s q txn h = record {
    used = used_lasts w new s q.moved (quiet_grows catalogue w new s q) txn h.used;
    over = λ y up t live same. h.over y (live_still catalogue w s txn.site y t live (quiet_is catalogue w new s q txn.site y up)) t live same;
    none = λ e there. h.none e (rw q.journal at there);
  }

  pub ended_keeps : (txn : TxnId) (w : Scene) (what : Shown) (new : Scene) → MomentOf catalogue w what new → I w → I new → EndedAt w txn → EndedAt new txn
  ended_keeps txn w what new (MomentOf.same e rs cs) inv now h = subst (λ (w : Scene). EndedAt w txn) (sym e) h
  ended_keeps txn w what new (MomentOf.quiet s q rs cs) inv now h = ended_quiet w new s q txn h
  ended_keeps txn w what new (MomentOf.steps s x given first up r is e) inv now h =
      let o = step catalogue x given in
      let k = inv.known in
      let n = (subst I e now).known in
      subst (λ (w : Scene). EndedAt w txn) (sym e) (ended_step w (acted w s x o) s x given o k n (does catalogue w s x given up r k) txn h)

  -- what one step replies
  module _ (w new : Scene) (s : ℕ) (x : SiteState) (given : Input) (o : Stepped) (k : Known catalogue w) (n : Known catalogue new) (d : Does catalogue w new s x given o) (kept : InvOwnEnds w) where
    finished_ended : (f : Finished) → Has x.finished f → ((e : Commit) → Has w.journal e → e.txn ≢ f.txn) → EndedAt w f.txn
    finished_ended f h none =
        let names = (k.ends.settled s x d.up).names f h in
        let at : f.txn.site ≡ s = names.0 ∙ d.here.id in
        record {
          used = record {
            life = rw at (at_most_equal f.txn.life (kept_at w s).life (names.1 ∙ ap (λ (d : DurableState). d.life) d.here.kept));
            seq = λ y up e. let same : x ≡ y = (let z = rw at at up in let q = d.up in cc) in subst (λ (y : SiteState). f.txn.seq ≤ y.seq) same names.2;
          };
          over = λ y up t live same. let is : x ≡ y = (let z = rw at at up in let q = d.up in cc) in (k.ends.settled s x d.up).finished f t h (subst (λ (y : SiteState). Has y.live t) (sym is) live) same;
          none = none;
        }

    -- one that is closed now
    closed_ended : (txn : TxnId) → WasLive x txn → NotLive o.site.live txn → o.effects.commits ≡ [] → EndedAt new txn
    closed_ended txn was gone quiet = record {
      used = used_lasts w new s d.st.moved d.grows txn (subst (UsedTxn w) was.2 (own_used w s x d.up d.here.id (ap (λ (d : DurableState). d.life) (sym d.here.kept)) d.led was.0 was.1));
      over = λ y up t live same. let is : o.site ≡ y = (let z = rw at at up in let q = d.st.now in cc) in gone t (subst (λ (y : SiteState). Has y.live t) (sym is) live) same;
      none = λ e there same. ⊎_elim
          (λ old. k.ends.entry e old x (rw (ap (λ (t : TxnId). t.site) same ∙ at) d.up) was.0 was.1 (was.2 ∙ sym same))
          (λ more. has_none e (rw quiet at more))
          (d.st.entered e there);
    }
      where
        at : txn.site ≡ s
        at = ap (λ (t : TxnId). t.site) (sym was.2) ∙ (d.led.names was.0 was.1).0 ∙ d.here.id

    -- a transaction that a reply says was refused is over without an entry
    finished_refused : (f : Finished) (number : ℕ) (a : Answer) (txn : TxnId) (j : ℕ) → Has x.finished f → answer_of f.txn number f.ending ≡ a → refused_number txn a ≡ Some j → EndedAt new txn
    finished_refused f number a txn j h is e =
        let own : refused_number txn (answer_of f.txn number f.ending) ≡ Some j = ap (refused_number txn) is ∙ e in
        subst (EndedAt new) (refused_of f.txn txn number f.ending j own).0 (⊎_elim
        (λ (q : (f.ending ≡ Committed) × HasEntry w f.txn). absurd (unrefused q.0 own))
        (λ (q : (is_abort f.ending ≡ true) × ((e : Commit) → Has w.journal e → e.txn ≢ f.txn)). ended_step w new s x given o k n d f.txn (finished_ended f h q.1))
        (k.ends.finished s x f d.up h))
      where
        unrefused : f.ending ≡ Committed → refused_number txn (answer_of f.txn number f.ending) ≡ Some j → ⊥
        unrefused c e = let z : refused_number txn (answer_of f.txn number f.ending) ≡ None = rw c refl in cc

    nothing_refused : (a : Answer) (txn : TxnId) (j : ℕ) → Replies x a → refused_number txn a ≡ Some j → EndedAt new txn
    nothing_refused a txn j (Replies.other e) q = absurd (refused_ends txn a j q e)
    nothing_refused a txn j (Replies.kept t h there) q = absurd (refused_ends txn a j q (kept.live s x t a d.up h there))
    nothing_refused a txn j (Replies.kept_end f h there) q = ⊎_elim (λ e. absurd (refused_ends txn a j q e)) (λ (r : (number : ℕ) × (answer_of f.txn number f.ending ≡ a)). finished_refused f r.0 a txn j h r.1 q) (kept.finished s x f a d.up h there)
    nothing_refused a txn j (Replies.over f number h is) q = finished_refused f number a txn j h is q

    pub said_refused : (a : Answer) (txn : TxnId) (j : ℕ) → Said x given o.site.live o.effects.commits a → refused_number txn a ≡ Some j → EndedAt new txn
    said_refused a txn j (Said.nothing r) q = nothing_refused a txn j r q
    said_refused a txn j (Said.unable t p name inside total h next quiet is) q = let z : refused_number txn a ≡ None = rw (← is) refl in cc
    said_refused a txn j (Said.commits e number h is) q = let z : refused_number txn a ≡ None = rw (← is) refl in cc
    said_refused a txn j (Said.ended u number why was gone abort quiet is) q =
        let own : refused_number txn (answer_of u number why) ≡ Some j = ap (refused_number txn) is ∙ q in
        subst (EndedAt new) (refused_of u txn number why j own).0 (closed_ended u was gone quiet)

    -- and so is one that `inaccessible` says that a message ended
    barred_over : (f : Finished) (number : ℕ) (a : Answer) (txn : TxnId) (j : ℕ) → Has x.finished f → answer_of f.txn number f.ending ≡ a → barred_number txn a ≡ Some j → EndedAt new txn
    barred_over f number a txn j h is e =
        let own : barred_number txn (answer_of f.txn number f.ending) ≡ Some j = ap (barred_number txn) is ∙ e in
        subst (EndedAt new) (barred_of f.txn txn number f.ending j own).0 (⊎_elim
        (λ (q : (f.ending ≡ Committed) × HasEntry w f.txn). absurd (let z = sym own ∙ ap (λ (why : Ending). barred_number txn (answer_of f.txn number why)) q.0 in cc))
        (λ (q : (is_abort f.ending ≡ true) × ((e : Commit) → Has w.journal e → e.txn ≢ f.txn)). ended_step w new s x given o k n d f.txn (finished_ended f h q.1))
        (k.ends.finished s x f d.up h))

    nothing_barred : (a : Answer) (txn : TxnId) (j : ℕ) → Replies x a → barred_number txn a ≡ Some j → EndedAt new txn
    nothing_barred a txn j (Replies.other e) q = absurd (barred_ends txn a j q e)
    nothing_barred a txn j (Replies.kept t h there) q = absurd (barred_ends txn a j q (kept.live s x t a d.up h there))
    nothing_barred a txn j (Replies.kept_end f h there) q = ⊎_elim (λ e. absurd (barred_ends txn a j q e)) (λ (r : (number : ℕ) × (answer_of f.txn number f.ending ≡ a)). barred_over f r.0 a txn j h r.1 q) (kept.finished s x f a d.up h there)
    nothing_barred a txn j (Replies.over f number h is) q = barred_over f number a txn j h is q

    pub said_barred : (a : Answer) (txn : TxnId) (j : ℕ) → Said x given o.site.live o.effects.commits a → ((t : Live) (p : Pending) → IsNext given t p → ⊥) → barred_number txn a ≡ Some j → EndedAt new txn
    said_barred a txn j (Said.nothing r) message q = nothing_barred a txn j r q
    said_barred a txn j (Said.unable t p name inside total h next quiet is) message q = absurd (message t p next)
    said_barred a txn j (Said.commits e number h is) message q = let z : barred_number txn a ≡ None = rw (← is) refl in cc
    said_barred a txn j (Said.ended u number why was gone abort quiet is) message q =
        subst (EndedAt new) (barred_of u txn number why j (ap (barred_number txn) is ∙ q)).0 (closed_ended u was gone quiet)

    replied : (e : Commit) → Has o.effects.commits e → list_any (is_committed e.txn) (map (λ (r : Reply). r.answer) o.effects.replies) ≡ true
    replied e h =
        let q = d.replying.entered e h in
        found (map (λ (r : Reply). r.answer) o.effects.replies) q.0.answer (mapped_has (λ (r : Reply). r.answer) o.effects.replies q.0 q.2) (subst (λ (a : Answer). is_committed e.txn a ≡ true) q.3 (itself e.txn e.txn refl))
      where
        found : (answers : List Answer) (a : Answer) → Has answers a → is_committed e.txn a ≡ true → list_any (is_committed e.txn) answers ≡ true
        found answers a there t = go (list_any (is_committed e.txn) answers) refl
          where
            go : (b : Bool) → list_any (is_committed e.txn) answers ≡ b → b ≡ true
            go true q = refl
            go false q = let z = any_false (is_committed e.txn) answers q a there in cc

    module _ (by : WorldState) (journal : by.journal ≡ new.journal) (at : site_of by s ≡ Some o.site) (last : List Commit) (later : (txn : TxnId) → EndedAt new txn → has_entry last txn ≡ false) where
      found_in : (txn : TxnId) → has_entry new.journal txn ≡ true → has_entry by.journal txn ≡ true
      found_in txn e = subst (λ (es : List Commit). has_entry es txn ≡ true) (sym journal) e

      -- the end of a finished transaction
      finished_agrees : (f : Finished) (number : ℕ) (a : Answer) → Has x.finished f → answer_of f.txn number f.ending ≡ a → agrees_with by last a ≡ true
      finished_agrees f number a h is = ⊎_elim
          (λ (q : (f.ending ≡ Committed) × HasEntry w f.txn).
          subst (λ (a : Answer). agrees_with by last a ≡ true) (ap (answer_of f.txn number) (sym q.0) ∙ is) (found_in f.txn (entry_found new.journal q.1.0 f.txn (d.st.moved.journal q.1.0 q.1.1) q.1.2)))
          (λ (q : (is_abort f.ending ≡ true) × ((e : Commit) → Has w.journal e → e.txn ≢ f.txn)).
          subst (λ (a : Answer). agrees_with by last a ≡ true) is (agrees_abort by last f.txn number f.ending q.0 (later f.txn (ended_step w new s x given o k n d f.txn (finished_ended f h q.1)))))
          (k.ends.finished s x f d.up h)

      nothing_agrees : (a : Answer) → Replies x a → agrees_with by last a ≡ true
      nothing_agrees a (Replies.other e) = agrees_other by last a e
      nothing_agrees a (Replies.kept t h there) = agrees_other by last a (kept.live s x t a d.up h there)
      nothing_agrees a (Replies.kept_end f h there) = ⊎_elim (λ e. agrees_other by last a e) (λ (q : (number : ℕ) × (answer_of f.txn number f.ending ≡ a)). finished_agrees f q.0 a h q.1) (kept.finished s x f a d.up h there)
      nothing_agrees a (Replies.over f number h is) = finished_agrees f number a h is

      -- a live transaction goes on, or has no entry
      unable_agrees : (t : Live) (number : ℕ) (name : List ℕ) (inside total : ℕ) → Has x.live t → o.effects.commits ≡ [] → agrees_with by last (answer.Inaccessible t.txn number name inside total) ≡ true
      unable_agrees t number name inside total h quiet = go (is_live t.txn o.site.live) refl
        where
          site : t.txn.site ≡ s
          site = (d.led.names t h).0 ∙ d.here.id

          go : (b : Bool) → is_live t.txn o.site.live ≡ b → (lives_in by t.txn || not (has_entry last t.txn)) ≡ true
          go true e = or_left (lives_in by t.txn) (not (has_entry last t.txn)) (subst (λ (k : ℕ). option_map_or (λ (y : SiteState). is_live t.txn y.live) (site_of by k) false ≡ true) (sym site) (rw at e))
          go false e =
              let gone : NotLive o.site.live t.txn = (λ u k same. let z = any_false (λ (u : Live). same_txn u.txn t.txn) o.site.live e u k in let y = itself u.txn t.txn same in cc) in
              let none : not (has_entry last t.txn) ≡ true = (let q = later t.txn (closed_ended t.txn (t, h, refl) gone quiet) in rw q refl) in
              or_right (lives_in by t.txn) (not (has_entry last t.txn)) none

      said_agrees : (a : Answer) → Said x given o.site.live o.effects.commits a → agrees_with by last a ≡ true
      said_agrees a (Said.nothing r) = nothing_agrees a r
      said_agrees a (Said.unable t p name inside total h next quiet is) = subst (λ (a : Answer). agrees_with by last a ≡ true) is (unable_agrees t p.number name inside total h quiet)
      said_agrees a (Said.commits e number h is) = subst (λ (a : Answer). agrees_with by last a ≡ true) is (found_in e.txn (entry_found new.journal e e.txn (d.st.enters e h) refl))
      said_agrees a (Said.ended txn number why was gone abort quiet is) = subst (λ (a : Answer). agrees_with by last a ≡ true) is (agrees_abort by last txn number why abort (later txn (closed_ended txn was gone quiet)))

  -- a moment
  ends_true : (last : List Commit) (m : Moment) → MomentOf catalogue (scene_of m.before) m.line.shown (scene_of m.after) → I (scene_of m.before) → I (scene_of m.after) → ((txn : TxnId) → EndedAt (scene_of m.after) txn → has_entry last txn ≡ false) → ends_true_at last m ≡ true
  ends_true last m (MomentOf.same e rs cs) inv now later = rw (rs, cs) refl
  ends_true last m (MomentOf.quiet s q rs cs) inv now later = rw (rs, cs) refl
  ends_true last m (MomentOf.steps s x given first up r is e) inv now later =
      let w = scene_of m.before in
      let o = step catalogue x given in
      let new = acted w s x o in
      let k = inv.known in
      let n = (subst I e now).known in
      let d = does catalogue w s x given up r k in
      let later_new = λ (txn : TxnId) (h : EndedAt new txn). later txn (subst (λ (w : Scene). EndedAt w txn) (sym e) h) in
      let journal : m.after.journal ≡ new.journal = ap (λ (w : Scene). w.journal) e in
      let at : plain_at (scene_of m.after) s ≡ Some o.site = subst (λ (w : Scene). plain_at w s ≡ Some o.site) (sym e) d.st.now in
      let rs : replies_in m.line.shown ≡ o.effects.replies = ap replies_in is in
      let cs : commits_in m.line.shown ≡ o.effects.commits = ap commits_in is in
      both (list_all (agrees_with m.after last) (answers_in m.line)) _
      (ap (λ (rs : List Reply). list_all (agrees_with m.after last) (map (λ (r : Reply). r.answer) rs)) rs
      ∙ all_from (agrees_with m.after last) (map (λ (r : Reply). r.answer) o.effects.replies) (λ a h. let q = map_has (λ (r : Reply). r.answer) o.effects.replies a h in subst (λ (a : Answer). agrees_with m.after last a ≡ true) q.2 (said_agrees w new s x given o k n d inv.own_ends m.after journal at last later_new q.0.answer (d.replying.said q.0 q.1))))
      (ap (λ (cs : List Commit). list_all (λ (commit : Commit). list_any (is_committed commit.txn) (answers_in m.line)) cs) cs
      ∙ ap (λ (rs : List Reply). list_all (λ (commit : Commit). list_any (is_committed commit.txn) (map (λ (r : Reply). r.answer) rs)) o.effects.commits) rs
      ∙ all_from (λ (commit : Commit). list_any (is_committed commit.txn) (map (λ (r : Reply). r.answer) o.effects.replies)) o.effects.commits (λ c h. replied w new s x given o k n d inv.own_ends c h))
    where
      both : (a b : Bool) → a ≡ true → b ≡ true → (a && b) ≡ true
      both a b p q = rw (p, q) refl

pub ends_told : (s : Schedule) → IsWhole s.catalogue → EndsAreTrue s
ends_told s whole = all_from (ends_true_at (journal_of s)) (moments_of s) (λ m h.
    let good = in_each s.catalogue (Invariant s.catalogue) (invariant_last s.catalogue whole) s.events m h in
    ends_true s.catalogue (journal_of s) m (moment_of s.catalogue (Invariant s.catalogue) (invariant_last s.catalogue whole) (λ w. Unit {0}) (λ w what new is a b u. tt) s.events m h) good.0 good.1
    (λ txn ended. entry_none (journal_of s) txn (later_on s.catalogue (Invariant s.catalogue) (invariant_last s.catalogue whole) (λ w. EndedAt w txn) (ended_keeps s.catalogue txn) s.events m h ended).none))
