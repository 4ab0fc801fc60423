-- What was asked of other sites, in every world: a request for a lock to write is of a record that the transaction has changed or is
-- changing, each prepare has the changes of all that was asked, and what is asked for a transaction names one view.
use Rattle.std.proofs.Common.{◌≡◌, ◌⊎◌, ◌∙◌, ap, sym, subst, ℕ, true, List, [], ◌∷◌, refl, arith, ⊎_elim, inl, inr}
use Rattle.std.specs.Prelude.{Option, Some, None}
use Rattle.vp_model.specs.Types.{Change, ViewId, TxnId, Sent, Message, Input, Pending, Live}
use Rattle.vp_model.specs.Types.message
use Rattle.vp_model.specs.Types.op
use Rattle.vp_model.specs.Words.{has, keys, value_at}
use Rattle.vp_model.specs.Catalogue.{Catalogue, holders}
use Rattle.vp_model.specs.Site.{SiteState, Lent, Stepped}
use Rattle.vp_model.specs.Transactions.{Deed, last_changes, entry_of, writes_held}
use Rattle.vp_model.specs.Refresh.{other_holders}
use Rattle.vp_model.specs.Calls.{prepare_for}
use Rattle.vp_model.specs.Durable.{DurableState}
use Rattle.vp_model.specs.Step.{mark, step, start}
use Rattle.vp_laws.specs.Votes.{is_commit}
use Rattle.vp_laws.proofs.Lists.Members.{Has, has_none, has_right, has_one, filter_has, filter_keeps, map_has, has_test}
use Rattle.vp_laws.proofs.Lists.Changes.{mapped_has}
use Rattle.vp_laws.proofs.Lists.Names.{apart_unique}
use Rattle.vp_laws.proofs.Moves.LocalViews.{letter}
use Rattle.vp_laws.proofs.Lists.Numbers.{eq_self}
use Rattle.vp_laws.proofs.Journal.Play.{value_put}
use Rattle.vp_laws.proofs.Journal.LastChanges.{unchanged_ungiven}
use Rattle.vp_laws.proofs.Journal.Changed.{HasChanged, changed_on, change_there, operation_changed}
use Rattle.vp_laws.proofs.Moves.Table.{Changes, IsNext, remaining, Completes}
use Rattle.vp_laws.proofs.Moves.Calls.{waiting, done, writing, read_not_write, read_not_write_asked, writes_same, same_writes, no_commit_writes}
use Rattle.vp_laws.proofs.Moves.OnlyCoordinator.{is_aside}
use Rattle.vp_laws.proofs.Invariant.Shares.{OneView, Says}
use Rattle.vp_laws.proofs.Table.Steps.{LiveNow, SentFor, AskingWrite, AskingVotes}
use Rattle.vp_laws.proofs.Table.Votes.{some_not}
use Rattle.vp_laws.proofs.Worlds.Scenes.{Scene, plain_at, kept_at, acted}
use Rattle.vp_laws.proofs.Worlds.Sites.{NowIs, now_is, Quiet, QuietIs, quiet_is, start_sent, With, with_last}
use Rattle.vp_laws.proofs.Worlds.Events.{Arrives, Lasts}
use Rattle.vp_laws.proofs.Invariant.Known.{Known}
use Rattle.vp_laws.proofs.Keeping.Endings.{fresh}
use Rattle.vp_laws.proofs.Keeping.Known.{known_last}
use Rattle.vp_laws.proofs.Keeping.Does.{Does, does}

-- its pending call changes the record
abbrev pub IsChanging : Catalogue → Live → ℕ → Type 0
IsChanging catalogue t rec = (p : Pending) × (deed : Deed) × (t.pending ≡ Some p) × Changes catalogue p rec deed

abbrev pub AsksWrite : Scene → ℕ → TxnId → ℕ → Type 0
AsksWrite w to txn rec = (from : ℕ) × (view : ViewId) × (number : ℕ) × Has w.sent (letter from to (message.WriteRequest txn view number rec))

-- the transaction and the view that a request or a prepare names
abbrev pub names_view : Message → Option (TxnId × ViewId)
names_view (message.ReadRequest txn view number rec) = Some (txn, view)
names_view (message.WriteRequest txn view number rec) = Some (txn, view)
names_view (message.Prepare txn view number reads writes) = Some (txn, view)
names_view m = None

abbrev pair_of : TxnId → ViewId → TxnId × ViewId
pair_of txn view = (txn, view)

abbrev pub naming : TxnId → ViewId → Option (TxnId × ViewId)
naming txn view = Some (txn, view)

pub record InvAsked (catalogue : Catalogue) (w : Scene) : Type 0 where
  -- it goes to a holder
  pub holder : (to rec : ℕ) (txn : TxnId) → AsksWrite w to txn rec → Has (holders catalogue rec) to
  -- of a live transaction it is of what that has changed or is changing
  pub live : (s : ℕ) (x : SiteState) (t : Live) (to rec : ℕ) → plain_at w s ≡ Some x → Has x.live t → AsksWrite w to t.txn rec → HasChanged t rec ⊎ IsChanging catalogue t rec
  -- each prepare to the same site changes it
  pub prepared : (to rec from : ℕ) (txn : TxnId) (view : ViewId) (number : ℕ) (reads : List ℕ) (writes : List (ℕ × Change)) → AsksWrite w to txn rec → Has w.sent (letter from to (message.Prepare txn view number reads writes)) → Has (keys writes) rec
  -- a transaction has one view
  pub view : (m n : Sent) (txn : TxnId) (u v : ViewId) → Has w.sent m → Has w.sent n → names_view m.message ≡ naming txn u → names_view n.message ≡ naming txn v → u ≡ v

-- ---- what was changed is among the last changes

-- a change that is done has changed its record
change_done : (catalogue : Catalogue) (t : Live) (p : Pending) (rec : ℕ) (deed : Deed) → Changes catalogue p rec deed → HasChanged (done t p deed) rec
change_done catalogue t p rec (Deed.operates (op.Read r value)) c = absurd (read_not_write_asked catalogue p (Deed.operates (op.Read r value)) r value refl c)
change_done catalogue t p rec (Deed.operates (op.Write r value)) c = operation_changed (done t p (Deed.operates (op.Write r value))) rec value
    (has_right t.ops (op.Write r value ∷ []) (op.Write rec value) (subst (λ (n : ℕ). Has (op.Write r value ∷ []) (op.Write n value)) c.on (has_one (op.Write r value))))
change_done catalogue t p rec (Deed.weighs r table) c = go (value_at rec (last_changes (entry_of now))) refl
  where
    now : Live
    now = done t p (Deed.weighs r table)

    given : value_at rec now.tables ≡ Some table
    given = value_put rec r table t.tables ∙ (let self = eq_self rec in let on : r ≡ rec = c.on in rw (on, self) refl)

    go : (o : Option Change) → value_at rec (last_changes (entry_of now)) ≡ o → HasChanged now rec
    go None f = absurd (let z = sym given ∙ unchanged_ungiven (entry_of now) rec f in cc)
    go (Some change) f = change_there (last_changes (entry_of now)) rec change f

held_key : (catalogue : Catalogue) (t : Live) (to rec : ℕ) → HasChanged t rec → Has (holders catalogue rec) to → Has (keys (writes_held catalogue to (last_changes (entry_of t)))) rec
held_key catalogue t to rec h holder =
    let m = map_has (λ (w : ℕ × Change). w.0) (last_changes (entry_of t)) rec h in
    subst (Has (keys (writes_held catalogue to (last_changes (entry_of t))))) m.2
    (mapped_has (λ (w : ℕ × Change). w.0) (writes_held catalogue to (last_changes (entry_of t))) m.0 (filter_keeps (λ (w : ℕ × Change). has (holders catalogue w.0) to) (last_changes (entry_of t)) m.0 m.1 (has_test (holders catalogue m.0.0) to (subst (λ (r : ℕ). Has (holders catalogue r) to) (sym m.2) holder))))

-- ---- one step

module _ (catalogue : Catalogue) (w : Scene) (s : ℕ) (x : SiteState) (given : Input) (new : Scene) (o : Stepped) (d : Does catalogue w new s x given o) (k : Known catalogue w) (inv : InvAsked catalogue w) where
  -- no call is pending as the next one comes
  idle_not : {C : Type 0} (u : Live) (p q : Pending) → IsNext given u p → u.pending ≡ Some q → C
  idle_not u p q next e = absurd (some_not u.pending q e next.idle)

  -- a request that goes out now
  record AskedNow (to rec : ℕ) (txn : TxnId) : Type 0 where
    was : Live
    live : Has x.live was
    pending : Pending
    deed : Deed
    asking : AskingWrite catalogue x given was pending rec deed
    holder : Has (other_holders catalogue x rec) to
    only : (t : Live) → Has o.site.live t → t.txn ≡ txn → t ≡ writing was pending (other_holders catalogue x rec)
    named : was.txn ≡ txn

  asked : (to rec : ℕ) (txn : TxnId) → AsksWrite new to txn rec → AsksWrite w to txn rec ⊎ AskedNow to rec txn
  asked to rec txn a = ⊎_elim (λ old. inl (a.0, a.1, a.2, old)) (λ more. inr (go (d.steps.sent (letter a.0 to (message.WriteRequest txn a.1 a.2 rec)) more))) (d.st.sent (letter a.0 to (message.WriteRequest txn a.1 a.2 rec)) a.3)
    where
      go : SentFor catalogue x given o.site.live (letter a.0 to (message.WriteRequest txn a.1 a.2 rec)) → AskedNow to rec txn
      go (SentFor.aside b) = let z = b.aside in cc
      go (SentFor.outcome t commit f e) = cc
      go (SentFor.reads u p r q h b only e) = let z = ap (λ (m : Sent). m.message) e in cc
      go (SentFor.prepares u p q h b part only e) = let z = ap (λ (m : Sent). m.message) e in cc
      go (SentFor.writes u p r deed q h b other only e) =
          let to_is : q ≡ to = ap (λ (m : Sent). m.to) e in
          let words : message.WriteRequest u.txn u.view p.number r ≡ message.WriteRequest txn a.1 a.2 rec = ap (λ (m : Sent). m.message) e in
          let rec_is : r ≡ rec = cc in
          let name : u.txn ≡ txn = cc in
          record {
            was = u;
            live = h;
            pending = p;
            deed = deed;
            asking = subst (λ (r : ℕ). AskingWrite catalogue x given u p r deed) rec_is b;
            holder = subst (λ (r : ℕ). Has (other_holders catalogue x r) to) rec_is (subst (Has (other_holders catalogue x r)) to_is other);
            only = λ t there same. subst (λ (r : ℕ). t ≡ writing u p (other_holders catalogue x r)) rec_is (only t there (same ∙ sym name));
            named = name;
          }

  -- what it asked before is of what it has changed, or is changing
  was_asked : (u : Live) → Has x.live u → (to rec : ℕ) → AsksWrite w to u.txn rec → HasChanged u rec ⊎ IsChanging catalogue u rec
  was_asked u h to rec a = inv.live s x u to rec d.up h a

  changed_idle : (u : Live) (p : Pending) → Has x.live u → IsNext given u p → (to rec : ℕ) → AsksWrite w to u.txn rec → HasChanged u rec
  changed_idle u p h next to rec a = ⊎_elim (λ changed. changed) (λ (pending : IsChanging catalogue u rec). idle_not u p pending.0 next pending.2) (was_asked u h to rec a)

  other_call : (u : Live) (rec : ℕ) (now : Live) (a q : Pending) → IsChanging catalogue u rec → u.pending ≡ Some a → now.pending ≡ Some q → q.call ≡ a.call → IsChanging catalogue now rec
  other_call u rec now a q h is then same =
      let one : h.0 ≡ a = (let z = sym h.2 ∙ is in grind (arith, z)) in
      (q, h.1, then, same_writes catalogue q h.0 rec h.1 (same ∙ ap (λ (p : Pending). p.call) (sym one)) h.3)

  -- the change that was pending is done
  completed_changes : (u : Live) (p : Pending) (deed : Deed) (l : Lent) (rec : ℕ) → Completes catalogue x given u p deed l → IsChanging catalogue u rec → HasChanged (done u p deed) rec
  completed_changes u p deed l rec (Completes.own_write r value next reads a v o e) h = idle_not u p h.0 next h.2
  completed_changes u p deed l rec (Completes.own_copy r stored next reads a v c f o e) h = idle_not u p h.0 next h.2
  completed_changes u p deed l rec (Completes.change_again r before next changes may v e) h = idle_not u p h.0 next h.2
  completed_changes u p deed l rec (Completes.change_alone r next changes may v n e) h = idle_not u p h.0 next h.2
  completed_changes u p deed l rec (Completes.read_answered from r value c last reads o e) h =
      let one : h.0 ≡ p = (let z = sym h.2 ∙ last.pending in grind (arith, z)) in
      read_not_write catalogue p r rec h.1 reads (subst (λ (p : Pending). Changes catalogue p rec h.1) one h.3)
  completed_changes u p deed l rec (Completes.change_answered from r c last changes e) h =
      let one : h.0 ≡ p = (let z = sym h.2 ∙ last.pending in grind (arith, z)) in
      let same : r ≡ rec = writes_same catalogue p r rec deed h.1 changes (subst (λ (p : Pending). Changes catalogue p rec h.1) one h.3) in
      subst (HasChanged (done u p deed)) same (change_done catalogue u p r deed changes)

  marked_call_of : (u : Live) (rec : ℕ) → IsChanging catalogue u rec → IsChanging catalogue (mark u) rec
  marked_call_of u rec p = (record p.0 { marked = true }, p.1, rw p.2 refl, same_writes catalogue (record p.0 { marked = true }) p.0 rec p.1 refl p.3)

  -- of a transaction that is live here now
  live_here : (t : Live) → Has o.site.live t → (to rec : ℕ) → AsksWrite w to t.txn rec → HasChanged t rec ⊎ IsChanging catalogue t rec
  live_here t h to rec a = go (d.steps.live t h)
    where
      as_was : (u : Live) → t.txn ≡ u.txn → AsksWrite w to u.txn rec
      as_was u e = (a.0, a.1, a.2, subst (λ (n : TxnId). Has w.sent (letter a.0 to (message.WriteRequest n a.1 a.2 rec))) e a.3)

      go : LiveNow catalogue x given t → HasChanged t rec ⊎ IsChanging catalogue t rec
      go (LiveNow.still q) = was_asked t q to rec a
      go (LiveNow.marked u q tick e) = subst (λ (t : Live). HasChanged t rec ⊎ IsChanging catalogue t rec) e
          (⊎_elim (λ changed. inl changed) (λ (p : IsChanging catalogue u rec). inr (marked_call_of u rec p)) (was_asked u q to rec (as_was u (ap (λ (t : Live). t.txn) (sym e)))))
      go (LiveNow.waits u p from q f m l c e) = subst (λ (t : Live). HasChanged t rec ⊎ IsChanging catalogue t rec) e
          (⊎_elim (λ changed. inl changed) (λ (b : IsChanging catalogue u rec). inr (other_call u rec (waiting u p (remaining from p)) p (record p { missing = remaining from p }) b f refl refl)) (was_asked u q to rec (as_was u (ap (λ (t : Live). t.txn) (sym e)))))
      go (LiveNow.completed u p deed l q c e) = inl (subst (λ (t : Live). HasChanged t rec) e
          (⊎_elim (λ changed. changed_on u p deed rec changed) (λ (b : IsChanging catalogue u rec). completed_changes u p deed l rec c b) (was_asked u q to rec (as_was u (ap (λ (t : Live). t.txn) (sym e))))))
      go (LiveNow.reads u p r j q asking e) = inl (subst (λ (t : Live). HasChanged t rec) e (changed_idle u p q asking.next to rec (as_was u (ap (λ (t : Live). t.txn) (sym e)))))
      go (LiveNow.writes u p r deed q asking e) = inl (subst (λ (t : Live). HasChanged t rec) e (changed_idle u p q asking.next to rec (as_was u (ap (λ (t : Live). t.txn) (sym e)))))
      go (LiveNow.prepares u p q asking e) = inl (subst (λ (t : Live). HasChanged t rec) e (changed_idle u p q asking.next to rec (as_was u (ap (λ (t : Live). t.txn) (sym e)))))
      go (LiveNow.begins view held e) = absurd (fresh w s x d.up d.here.id t.txn (k.names.sent _ a.3).0.0 (ap (λ (t : Live). t.txn) (sym e)))

  asked_live : (j : ℕ) (y : SiteState) (t : Live) (to rec : ℕ) → NowIs w s o.site j y → Has y.live t → t.txn.site ≡ j → AsksWrite new to t.txn rec → HasChanged t rec ⊎ IsChanging catalogue t rec
  asked_live j y t to rec now h own a = ⊎_elim
      (λ old. before now h old)
      (λ (more : AskedNow to rec t.txn). goes_out now h more)
      (asked to rec t.txn a)
    where
      before : NowIs w s o.site j y → Has y.live t → AsksWrite w to t.txn rec → HasChanged t rec ⊎ IsChanging catalogue t rec
      before (NowIs.here e same) h a = live_here t (subst (λ (y : SiteState). Has y.live t) (sym same) h) to rec a
      before (NowIs.other n up) h a = inv.live j y t to rec up h a

      goes_out : NowIs w s o.site j y → Has y.live t → AskedNow to rec t.txn → HasChanged t rec ⊎ IsChanging catalogue t rec
      goes_out (NowIs.here e same) h b =
          let is = b.only t (subst (λ (y : SiteState). Has y.live t) (sym same) h) refl in
          inr (subst (λ (t : Live). IsChanging catalogue t rec) (sym is) (record b.pending { missing = other_holders catalogue x rec }, b.deed, refl, same_writes catalogue (record b.pending { missing = other_holders catalogue x rec }) b.pending rec b.deed refl b.asking.writes))
      goes_out (NowIs.other n up) h b = absurd (n (sym own ∙ ap (λ (n : TxnId). n.site) (sym b.named) ∙ (d.led.names b.was b.live).0 ∙ d.here.id))

  -- a prepare that goes out now
  record PreparedNow (to : ℕ) (txn : TxnId) (writes : List (ℕ × Change)) : Type 0 where
    was : Live
    live : Has x.live was
    pending : Pending
    asking : AskingVotes given was pending
    named : was.txn ≡ txn
    all : writes_held catalogue to (last_changes (entry_of was)) ≡ writes

  prepared_now : (from to number : ℕ) (txn : TxnId) (view : ViewId) (reads : List ℕ) (writes : List (ℕ × Change)) → Has o.effects.messages (letter from to (message.Prepare txn view number reads writes)) → PreparedNow to txn writes
  prepared_now from to number txn view reads writes h = go (d.steps.sent _ h)
    where
      go : SentFor catalogue x given o.site.live (letter from to (message.Prepare txn view number reads writes)) → PreparedNow to txn writes
      go (SentFor.aside b) = let z = b.aside in cc
      go (SentFor.outcome t commit f e) = cc
      go (SentFor.reads u p r q h b only e) = let z = ap (λ (m : Sent). m.message) e in cc
      go (SentFor.writes u p r value q h b other only e) = let z = ap (λ (m : Sent). m.message) e in cc
      go (SentFor.prepares u p q h b part only e) =
          let to_is : q ≡ to = ap (λ (m : Sent). m.to) e in
          let words : prepare_for catalogue u p q ≡ message.Prepare txn view number reads writes = ap (λ (m : Sent). m.message) e in
          let name : u.txn ≡ txn = cc in
          let all : writes_held catalogue q (last_changes (entry_of u)) ≡ writes = cc in
          record { was = u; live = h; pending = p; asking = b; named = name; all = subst (λ (q : ℕ). writes_held catalogue q (last_changes (entry_of u)) ≡ writes) to_is all }

  holder_now : (to rec : ℕ) (txn : TxnId) → AsksWrite new to txn rec → Has (holders catalogue rec) to
  holder_now to rec txn a = ⊎_elim (λ old. inv.holder to rec txn old) (λ (b : AskedNow to rec txn). (filter_has _ (holders catalogue rec) to b.holder).0) (asked to rec txn a)

  -- one call is no change and a commit
  two_calls : {C : Type 0} (u v : Live) (p q : Pending) (rec : ℕ) (deed : Deed) → IsNext given u p → Changes catalogue p rec deed → IsNext given v q → is_commit q.call ≡ true → C
  two_calls u v p q rec deed a changes b commit =
      let same : p.call ≡ q.call = (let z = sym a.comes ∙ b.comes in cc) in
      no_commit_writes catalogue p rec deed (ap is_commit same ∙ commit) changes

  prepared_with : (to rec from : ℕ) (txn : TxnId) (view : ViewId) (number : ℕ) (reads : List ℕ) (writes : List (ℕ × Change)) → AsksWrite new to txn rec → Has new.sent (letter from to (message.Prepare txn view number reads writes)) → Has (keys writes) rec
  prepared_with to rec from txn view number reads writes a h = ⊎_elim
      (λ old_prepare. ⊎_elim (λ old. inv.prepared to rec from txn view number reads writes old old_prepare) (λ (b : AskedNow to rec txn). asks_after b old_prepare) (asked to rec txn a))
      (λ now. ⊎_elim (λ old. votes_after old (prepared_now from to number txn view reads writes now)) (λ (b : AskedNow to rec txn). (let c = prepared_now from to number txn view reads writes now in two_calls b.was c.was b.pending c.pending rec b.deed b.asking.next b.asking.writes c.asking.next c.asking.commit)) (asked to rec txn a))
      (d.st.sent _ h)
    where
      -- nothing more is asked for a transaction whose votes are asked for
      asks_after : AskedNow to rec txn → Has w.sent (letter from to (message.Prepare txn view number reads writes)) → Has (keys writes) rec
      asks_after b old =
          let site : txn.site ≡ s = ap (λ (n : TxnId). n.site) (sym b.named) ∙ (d.led.names b.was b.live).0 ∙ d.here.id in
          let r = k.votes.prepared _ old x b.was (subst (λ (j : ℕ). plain_at w j ≡ Some x) (sym site) d.up) b.live b.named in
          idle_not b.was b.pending r.pending b.asking.next r.waits

      votes_after : AsksWrite w to txn rec → PreparedNow to txn writes → Has (keys writes) rec
      votes_after old c =
          let mine : AsksWrite w to c.was.txn rec = subst (λ (n : TxnId). AsksWrite w to n rec) (sym c.named) old in
          let changed = changed_idle c.was c.pending c.live c.asking.next to rec mine in
          subst (λ (ws : List (ℕ × Change)). Has (keys ws) rec) c.all (held_key catalogue c.was to rec changed (inv.holder to rec txn old))

  -- what names a view now is of a live transaction, in its view
  record NamesNow (txn : TxnId) (u : ViewId) : Type 0 where
    was : Live
    live : Has x.live was
    named : was.txn ≡ txn
    view : was.view ≡ u

  names_now : (m : Sent) (txn : TxnId) (u : ViewId) → Has o.effects.messages m → names_view m.message ≡ naming txn u → NamesNow txn u
  names_now m txn u h e = go (d.steps.sent m h)
    where
      none_aside : (m : Message) → is_aside m ≡ true → names_view m ≡ naming txn u → ⊥
      none_aside (message.ReadRequest t v n r) a e = cc
      none_aside (message.WriteRequest t v n r) a e = cc
      none_aside (message.Prepare t v n r ws) a e = cc
      none_aside m a e = let z = e in cc

      from_live : (v : Live) → Has x.live v → naming v.txn v.view ≡ naming txn u → NamesNow txn u
      from_live v q e = let pair : pair_of v.txn v.view ≡ pair_of txn u = cc in record { was = v; live = q; named = ap (λ (p : TxnId × ViewId). p.0) pair; view = ap (λ (p : TxnId × ViewId). p.1) pair }

      go : SentFor catalogue x given o.site.live m → NamesNow txn u
      go (SentFor.aside b) = absurd (none_aside m.message b.aside e)
      go (SentFor.outcome t commit f is) = let z = ap names_view (sym is) ∙ e in cc
      go (SentFor.reads v p r q h b only is) = from_live v h (ap (λ (m : Sent). names_view m.message) is ∙ e)
      go (SentFor.writes v p r value q h b other only is) = from_live v h (ap (λ (m : Sent). names_view m.message) is ∙ e)
      go (SentFor.prepares v p q h b part only is) = from_live v h (ap (λ (m : Sent). names_view m.message) is ∙ e)

  -- what named one before is of the view of the live transaction
  named_before : (m : Sent) (u : ViewId) (v : Live) → Has w.sent m → names_view m.message ≡ naming v.txn u → Has x.live v → v.view ≡ u
  named_before m u v h e q = go m.message e (k.shares.says m h)
    where
      site : v.txn.site ≡ s
      site = (d.led.names v q).0 ∙ d.here.id

      up_there : plain_at w v.txn.site ≡ Some x
      up_there = subst (λ (j : ℕ). plain_at w j ≡ Some x) (sym site) d.up

      of_view : (txn : TxnId) (i : ViewId) → naming txn i ≡ naming v.txn u → OneView w txn i → v.view ≡ u
      of_view txn i e one = let pair : pair_of txn i ≡ pair_of v.txn u = cc in let name : v.txn ≡ txn = ap (λ (p : TxnId × ViewId). p.0) (sym pair) in let is : i ≡ u = ap (λ (p : TxnId × ViewId). p.1) pair in one.live x v (subst (λ (j : TxnId). plain_at w j.site ≡ Some x) name up_there) q name ∙ is

      go : (words : Message) → names_view words ≡ naming v.txn u → Says catalogue w m.from m.to words → v.view ≡ u
      go (message.ReadRequest txn view number rec) e says = of_view txn view e says
      go (message.WriteRequest txn view number rec) e says = of_view txn view e says
      go (message.Prepare txn view number reads writes) e says = of_view txn view e says
      go words e says = let z = e in cc

  one_view : (m n : Sent) (txn : TxnId) (u v : ViewId) → Has new.sent m → Has new.sent n → names_view m.message ≡ naming txn u → names_view n.message ≡ naming txn v → u ≡ v
  one_view m n txn u v h i e f = ⊎_elim
      (λ old. ⊎_elim (λ old2. inv.view m n txn u v old old2 e f) (λ now. sym (mixed n m v u now old f e)) (d.st.sent n i))
      (λ now. ⊎_elim (λ old. mixed m n u v now old e f) (λ now2. both now now2) (d.st.sent n i))
      (d.st.sent m h)
    where
      mixed : (m n : Sent) (u v : ViewId) → Has o.effects.messages m → Has w.sent n → names_view m.message ≡ naming txn u → names_view n.message ≡ naming txn v → u ≡ v
      mixed m n u v now old e f =
          let a = names_now m txn u now e in
          sym a.view ∙ named_before n v a.was old (f ∙ ap (λ (t : TxnId). naming t v) (sym a.named)) a.live

      both : Has o.effects.messages m → Has o.effects.messages n → u ≡ v
      both now now2 =
          let a = names_now m txn u now e in
          let b = names_now n txn v now2 f in
          let same = apart_unique x.live (k.votes.site s x d.up) a.was b.was a.live b.live (a.named ∙ sym b.named) in
          sym a.view ∙ ap (λ (t : Live). t.view) same ∙ b.view

asked_acts : (catalogue : Catalogue) (w : Scene) (s : ℕ) (x : SiteState) (given : Input) → plain_at w s ≡ Some x → Arrives w s given → Known catalogue w → Known catalogue (acted w s x (step catalogue x given)) → InvAsked catalogue w → InvAsked catalogue (acted w s x (step catalogue x given))
asked_acts catalogue w s x given up r k n inv =
    let o = step catalogue x given in
    let new = acted w s x o in
    let d = does catalogue w s x given up r k in
    record {
      holder = holder_now catalogue w s x given new o d k inv;
      live = λ j y t to rec there h a. asked_live catalogue w s x given new o d k inv j y t to rec (now_is w new s x o d.st j y there) h (((n.led.site j y there).names t h).0 ∙ (n.views.site j y there).id) a;
      prepared = prepared_with catalogue w s x given new o d k inv;
      view = one_view catalogue w s x given new o d k inv;
    }

start_live : (catalogue : Catalogue) (s : ℕ) (d : DurableState) → (start catalogue s d).live ≡ []
unfolding start
start_live catalogue s d = refl

asked_quiet : (catalogue : Catalogue) (w new : Scene) (s : ℕ) → Quiet catalogue w new s → InvAsked catalogue w → InvAsked catalogue new
asked_quiet catalogue w new s q inv = record {
  holder = λ to rec txn a. inv.holder to rec txn (was to txn rec a);
  live = λ j y t to rec there h a. at_site j y t to rec (quiet_is catalogue w new s q j y there) h (was to t.txn rec a);
  prepared = λ to rec from txn view number reads writes a h. inv.prepared to rec from txn view number reads writes (was to txn rec a) (subst (λ (ms : List Sent). Has ms (letter from to (message.Prepare txn view number reads writes))) q.sent h);
  view = λ m n txn u v h i. inv.view m n txn u v (subst (λ (ms : List Sent). Has ms m) q.sent h) (subst (λ (ms : List Sent). Has ms n) q.sent i);
}
  where
    was : (to : ℕ) (txn : TxnId) (rec : ℕ) → AsksWrite new to txn rec → AsksWrite w to txn rec
    was to txn rec a = (a.0, a.1, a.2, subst (λ (ms : List Sent). Has ms (letter a.0 to (message.WriteRequest txn a.1 a.2 rec))) q.sent a.3)

    at_site : (j : ℕ) (y : SiteState) (t : Live) (to rec : ℕ) → QuietIs catalogue w s j y → Has y.live t → AsksWrite w to t.txn rec → HasChanged t rec ⊎ IsChanging catalogue t rec
    at_site j y t to rec (QuietIs.here e same) h a = absurd (has_none t (subst (λ (ts : List Live). Has ts t) (ap (λ (y : SiteState). y.live) (sym same) ∙ start_live catalogue s (kept_at w s)) h))
    at_site j y t to rec (QuietIs.other e up) h a = inv.live j y t to rec up h a

pub asked_last : (catalogue : Catalogue) → Lasts catalogue (With (Known catalogue) (InvAsked catalogue))
asked_last catalogue = with_last catalogue (Known catalogue) (InvAsked catalogue) (known_last catalogue) (record {
  starts = record {
    holder = λ to rec txn a. absurd (start_sent catalogue _ a.3);
    live = λ s x t to rec up h a. absurd (start_sent catalogue _ a.3);
    prepared = λ to rec from txn view number reads writes a h. absurd (start_sent catalogue _ h);
    view = λ m n txn u v h i e f. absurd (start_sent catalogue m h);
  };
  acts = λ w s x given up r k inv. asked_acts catalogue w s x given up r k ((known_last catalogue).acts w s x given up r k) inv;
  quiet = λ w new s q k inv. asked_quiet catalogue w new s q inv;
})
