-- Reads are still of what was not written, or were answered elsewhere.
use Rattle.std.proofs.Common.{◌≡◌, ◌⊎◌, ◌∙◌, ap, sym, subst, ℕ, List, [], ◌∷◌, refl, inl, inr, ⊎_elim}
use Rattle.std.specs.Prelude.{Option, Some, None}
use Rattle.vp_laws.proofs.Journal.Changed.{HasChanged}
use Rattle.vp_model.specs.Types.{Commit, TxnId, Input, Stored, Pending, Live}
use Rattle.vp_model.specs.Types.op
use Rattle.vp_model.specs.Words.{keys, value_at}
use Rattle.vp_model.specs.Catalogue.{Catalogue}
use Rattle.vp_model.specs.Transactions.{last_changes, entry_of, last_writes}
use Rattle.vp_model.specs.Refresh.{other_holders}
use Rattle.vp_model.specs.Site.{SiteState, Stepped}
use Rattle.vp_laws.specs.Votes.{is_commit}
use Rattle.vp_laws.proofs.Lists.Members.{Has, has_none}
use Rattle.vp_laws.proofs.Lists.Changes.{mapped_has}
use Rattle.vp_laws.proofs.Moves.Table.{Reads, remaining}
use Rattle.vp_laws.proofs.Table.Steps.{LiveNow}
use Rattle.vp_laws.proofs.Worlds.Scenes.{Scene, scene_of}
use Rattle.vp_laws.proofs.Worlds.Sites.{NowIs, now_is, quiet_is, started_idle, live_still, Quiet}
use Rattle.vp_laws.proofs.Invariant.Answers.{HasRead}
use Rattle.vp_laws.proofs.Moves.Calls.{read_not_write, reads_same, same_call, unmarked_call}
use Rattle.vp_laws.proofs.Keeping.Does.{Does}
use Rattle.vp_laws.proofs.Invariant.Reading.{InvReading, ReadElsewhere}
use Rattle.vp_laws.proofs.Invariant.Known.{Known}
use Rattle.vp_laws.proofs.Lists.Pairs.{not_copied, value_key}
use Rattle.vp_model.specs.World.{start_world}

none_from : (rec : ℕ) (a b : List (ℕ × Stored)) → keys a ≡ keys b → value_at rec a ≡ None → value_at rec b ≡ None
none_from rec a b same none = go (value_at rec b) refl
  where
    go : (o : Option Stored) → value_at rec b ≡ o → value_at rec b ≡ None
    go None e = e
    go (Some v) e =
        let p = value_key rec b v e in
        absurd (not_copied rec a none (subst (λ (ks : List ℕ). Has ks rec) (sym same) (subst (Has (keys b)) p.2 (mapped_has (λ (p : ℕ × Stored). p.0) b p.0 p.1))))

module _ (catalogue : Catalogue) (w new : Scene) (s : ℕ) (x : SiteState) (given : Input) (o : Stepped) (k : Known catalogue w) (n : Known catalogue new) (d : Does catalogue w new s x given o) (inv : InvReading catalogue w) where
  pending_now : (t : Live) → LiveNow catalogue x given t → (p : Pending) (rec : ℕ) → t.pending ≡ Some p → Reads catalogue p rec → value_at rec (last_writes t.ops) ≡ None
  pending_now t (LiveNow.still h) p rec e r = inv.pending s x t p rec d.up h e r
  pending_now t (LiveNow.marked u h tick is) p rec e r =
      let q = unmarked_call u.pending p (ap (λ (t : Live). t.pending) is ∙ e) in
      rw (← (ap (λ (t : Live). t.ops) is)) (inv.pending s x u q.0 rec d.up h q.1 (same_call catalogue p q.0 rec q.2 r))
  pending_now t (LiveNow.waits u a from h f m l c is) p rec e r =
      let z : record a { missing = remaining from a } ≡ p = (let y = ap (λ (t : Live). t.pending) is ∙ e in cc) in
      rw (← (ap (λ (t : Live). t.ops) is)) (inv.pending s x u a rec d.up h f (same_call catalogue p a rec (ap (λ (p : Pending). p.call) z) r))
  pending_now t (LiveNow.completed u a deed l h c is) p rec e r = absurd (let y = ap (λ (t : Live). t.pending) is ∙ e in cc)
  pending_now t (LiveNow.reads u a other q h asks is) p rec e r =
      let z : record a { missing = q ∷ [] } ≡ p = (let y = ap (λ (t : Live). t.pending) is ∙ e in cc) in
      let same = reads_same catalogue a other rec asks.reads (same_call catalogue p a rec (ap (λ (p : Pending). p.call) z) r) in
      rw (← (ap (λ (t : Live). t.ops) is), ← same) asks.unwritten
  pending_now t (LiveNow.writes u a other value h asks is) p rec e r =
      let z : record a { missing = other_holders catalogue x other } ≡ p = (let y = ap (λ (t : Live). t.pending) is ∙ e in cc) in
      read_not_write catalogue a rec other value (same_call catalogue p a rec (ap (λ (p : Pending). p.call) z) r) asks.writes
  pending_now t (LiveNow.prepares u a h asks is) p rec e r =
      let z : record a { missing = u.parts } ≡ p = (let y = ap (λ (t : Live). t.pending) is ∙ e in cc) in
      absurd (let y = ap is_commit (ap (λ (p : Pending). p.call) z ∙ r.words) in let q = asks.commit in cc)
  pending_now t (LiveNow.begins view h is) p rec e r = absurd (let y = ap (λ (t : Live). t.pending) is ∙ e in cc)

  read_stays : (u t : Live) (rec : ℕ) → u.txn ≡ t.txn → entry_of u ≡ entry_of t → HasChanged u rec ⊎ ReadElsewhere w u rec → HasChanged t rec ⊎ ReadElsewhere new t rec
  read_stays u t rec named done h = ⊎_elim
      (λ (wrote : HasChanged u rec). inl (subst (λ (e : Commit). Has (keys (last_changes e)) rec) done wrote))
      (λ (r : ReadElsewhere w u rec). inr (r.0, subst (λ (txn : TxnId). HasRead new r.0 txn rec) named (r.1.0, r.1.1, r.1.2, r.1.3, d.st.moved.sent _ r.1.4, d.st.moved.sent _ r.1.5)))
      h

  -- a transaction that has done the same as one before the step
  done_same : (u t : Live) (rec : ℕ) (value : Option (List ℕ)) → Has x.live u → u.txn ≡ t.txn → entry_of u ≡ entry_of t → Has t.ops (op.Read rec value) → value_at rec o.site.copies ≡ None → HasChanged t rec ⊎ ReadElsewhere new t rec
  done_same u t rec value h named done there none = read_stays u t rec named done (inv.done s x u rec value d.up h (subst (λ (e : Commit). Has e.ops (op.Read rec value)) (sym done) there) (none_from rec o.site.copies x.copies d.guards.copied none))

  done_now : (t : Live) → Has o.site.live t → LiveNow catalogue x given t → (rec : ℕ) (value : Option (List ℕ)) → Has t.ops (op.Read rec value) → value_at rec o.site.copies ≡ None → HasChanged t rec ⊎ ReadElsewhere new t rec
  done_now t live (LiveNow.still h) rec value there none = done_same t t rec value h refl refl there none
  done_now t live (LiveNow.marked u h tick is) rec value there none = done_same u t rec value h (ap (λ (t : Live). t.txn) is) (ap entry_of is) there none
  done_now t live (LiveNow.waits u a from h f m l c is) rec value there none = done_same u t rec value h (ap (λ (t : Live). t.txn) is) (ap entry_of is) there none
  done_now t live (LiveNow.reads u a other q h asks is) rec value there none = done_same u t rec value h (ap (λ (t : Live). t.txn) is) (ap entry_of is) there none
  done_now t live (LiveNow.writes u a other v h asks is) rec value there none = done_same u t rec value h (ap (λ (t : Live). t.txn) is) (ap entry_of is) there none
  done_now t live (LiveNow.prepares u a h asks is) rec value there none = done_same u t rec value h (ap (λ (t : Live). t.txn) is) (ap entry_of is) there none
  done_now t live (LiveNow.begins view h is) rec value there none = absurd (has_none _ (rw (← (ap (λ (t : Live). t.ops) is)) at there))
  done_now t live (LiveNow.completed u a deed l h c is) rec value there none = ⊎_elim
      (λ wrote. inl wrote)
      (λ asked. ⊎_elim
      (λ (r : HasRead new asked.0 t.txn rec). inr (asked.0, r))
      (λ pending. absurd (let y = ap (λ (t : Live). t.pending) is ∙ pending.1 in cc))
      ((n.answers.live s o.site t d.st.now live).remote (asked.0, rec) asked.1))
      ((n.reads.live s o.site t d.st.now live).done rec value there (not_copied rec o.site.copies none))

  pub reading_keep : InvReading catalogue new
  reading_keep = record {
    pending = λ j y t p rec up h e r. pending_at j y t p rec h e r (now_is w new s x o d.st j y up);
    done = λ j y t rec value up h there none. done_at j y t rec value h there none (now_is w new s x o d.st j y up);
  }
    where
      pending_at : (j : ℕ) (y : SiteState) (t : Live) (p : Pending) (rec : ℕ) → Has y.live t → t.pending ≡ Some p → Reads catalogue p rec → NowIs w s o.site j y → value_at rec (last_writes t.ops) ≡ None
      pending_at j y t p rec h e r (NowIs.other m old) = inv.pending j y t p rec old h e r
      pending_at j y t p rec h e r (NowIs.here z same) = pending_now t (d.steps.live t (subst (λ (y : SiteState). Has y.live t) (sym same) h)) p rec e r

      done_at : (j : ℕ) (y : SiteState) (t : Live) (rec : ℕ) (value : Option (List ℕ)) → Has y.live t → Has t.ops (op.Read rec value) → value_at rec y.copies ≡ None → NowIs w s o.site j y → HasChanged t rec ⊎ ReadElsewhere new t rec
      done_at j y t rec value h there none (NowIs.other m old) = read_stays t t rec refl refl (inv.done j y t rec value old h there none)
      done_at j y t rec value h there none (NowIs.here z same) =
          let live = subst (λ (y : SiteState). Has y.live t) (sym same) h in
          done_now t live (d.steps.live t live) rec value there (subst (λ (y : SiteState). value_at rec y.copies ≡ None) (sym same) none)

pub reading_starts : (catalogue : Catalogue) → InvReading catalogue (scene_of (start_world catalogue))
reading_starts catalogue = record {
  pending = λ s x t p rec up h e r. absurd (started_idle catalogue s x t up h);
  done = λ s x t rec value up h there none. absurd (started_idle catalogue s x t up h);
}

pub reading_quiet : (catalogue : Catalogue) (w new : Scene) (s : ℕ) → Quiet catalogue w new s → InvReading catalogue w → InvReading catalogue new
reading_quiet catalogue w new s q inv = record {
  pending = λ j y t p rec up h e r. inv.pending j y t p rec (live_still catalogue w s j y t h (quiet_is catalogue w new s q j y up)) h e r;
  done = λ j y t rec value up h there none. ⊎_elim
      (λ wrote. inl wrote)
      (λ (r : ReadElsewhere w t rec). inr (r.0, (r.1.0, r.1.1, r.1.2, r.1.3, rw q.sent r.1.4, rw q.sent r.1.5)))
      (inv.done j y t rec value (live_still catalogue w s j y t h (quiet_is catalogue w new s q j y up)) h there none);
}
