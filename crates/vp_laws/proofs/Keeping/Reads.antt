-- What is read without a copy here was asked of another site.
use Rattle.std.proofs.Common.{Option, ◌≡◌, ◌⊎◌, ◌∙◌, ap, sym, subst, ℕ, List, [], ◌∷◌, inl, inr, ⊎_elim}
use Rattle.vp_laws.proofs.Journal.Changed.{changed_on, written_changed, HasChanged, operation_there}
use Rattle.vp_model.specs.Types.{Input, Pending, Live, Stored}
use Rattle.vp_model.specs.Types.op
use Rattle.vp_model.specs.Words.{keys}
use Rattle.vp_model.specs.Catalogue.{Catalogue}
use Rattle.vp_model.specs.Transactions.{Deed}
use Rattle.vp_model.specs.Refresh.{other_holders}
use Rattle.vp_model.specs.Site.{SiteState, Stepped, Lent}
use Rattle.vp_laws.specs.Votes.{is_commit}
use Rattle.vp_laws.proofs.Lists.Members.{Has, has_none, has_one, has_left, has_right}
use Rattle.vp_laws.proofs.Moves.Table.{remaining, Completes}
use Rattle.vp_laws.proofs.Table.Steps.{LiveNow, Steps}
use Rattle.vp_laws.proofs.Table.Copies.{value_pair}
use Rattle.vp_laws.proofs.Table.Locks.{Guards}
use Rattle.vp_laws.proofs.Lists.Changes.{mapped_has}
use Rattle.vp_laws.proofs.Worlds.Scenes.{Scene, Acted, acted, scene_of}
use Rattle.vp_laws.proofs.Worlds.Sites.{NowIs, now_is, quiet_is, started_idle, Quiet, live_still}
use Rattle.vp_laws.proofs.Moves.Calls.{read_not_write, read_not_write_asked, reads_same, same_call, unmarked_call}
use Rattle.vp_laws.proofs.Invariant.Reads.{HasAsked, ReadsOk, InvReads}
use Rattle.vp_model.specs.World.{start_world}

module _ (catalogue : Catalogue) (x : SiteState) (given : Input) (all : (u : Live) → Has x.live u → ReadsOk catalogue (keys x.copies) u) where
  abbrev Ok : Live → Type 0
  Ok t = ReadsOk catalogue (keys x.copies) t

  -- the operation that is done
  new_read : (u : Live) (p : Pending) (deed : Deed) (l : Lent) → Has x.live u → Completes catalogue x given u p deed l → (rec : ℕ) (value : Option (List ℕ)) → deed ≡ Deed.operates (op.Read rec value) → (Has (keys x.copies) rec → ⊥) → HasChanged u rec ⊎ HasAsked u rec
  new_read u p deed l h (Completes.own_write r v next reads a w e g) rec value is none =
      let z = sym e ∙ is in
      let same : r ≡ rec = cc in
      inl (subst (HasChanged u) same (written_changed u r v w))
  new_read u p deed l h (Completes.own_copy r stored next reads a w copy free e g) rec value is none =
      let z = sym e ∙ is in
      let same : r ≡ rec = cc in
      absurd (none (rw (← same) (mapped_has (λ (p : ℕ × Stored). p.0) x.copies (r, stored) (value_pair r x.copies stored copy))))
  new_read u p deed l h (Completes.change_again r before next w a k g) rec value is none = read_not_write_asked catalogue p deed rec value is w
  new_read u p deed l h (Completes.change_alone r next w a k n g) rec value is none = read_not_write_asked catalogue p deed rec value is w
  new_read u p deed l h (Completes.read_answered from r v c last reads e g) rec value is none =
      let z = sym e ∙ is in
      let same : r ≡ rec = cc in
      inr (rw (← same) ((all u h).asked p r last.pending reads))
  new_read u p deed l h (Completes.change_answered from r c last w g) rec value is none = read_not_write_asked catalogue p deed rec value is w

  pub reads_now : (t : Live) → LiveNow catalogue x given t → Ok t
  reads_now t (LiveNow.still h) = all t h
  reads_now t (LiveNow.marked u h tick e) = let b = all u h in subst Ok e (record {
    done = b.done;
    asked = λ p rec f r. let q = unmarked_call u.pending p f in b.asked q.0 rec q.1 (same_call catalogue p q.0 rec q.2 r);
  })
  reads_now t (LiveNow.waits u p from h f m l k e) = let b = all u h in subst Ok e (record {
    done = b.done;
    asked = λ a rec g r. let is : record p { missing = remaining from p } ≡ a = cc in b.asked p rec f (same_call catalogue a p rec (ap (λ (p : Pending). p.call) is) r);
  })
  reads_now t (LiveNow.completed u p deed l h c e) = let b = all u h in subst Ok e (record {
    done = λ rec value k none. ⊎_elim
        (λ old. ⊎_elim (λ w. inl (changed_on u p deed rec w)) (λ a. inr a) (b.done rec value old none))
        (λ new. ⊎_elim (λ w. inl (changed_on u p deed rec w)) (λ a. inr a) (new_read u p deed l h c rec value new none))
        (operation_there u.ops deed _ k);
    asked = λ a rec g r. cc;
  })
  reads_now t (LiveNow.reads u p rec q h a e) = let b = all u h in subst Ok e (record {
    done = λ r value k none. ⊎_elim (λ w. inl w) (λ (g : HasAsked u r). inr (g.0, has_left u.remote ((q, rec) ∷ []) _ g.1)) (b.done r value k none);
    asked = λ c r g s.
        let is : record p { missing = q ∷ [] } ≡ c = cc in
        let same = reads_same catalogue p rec r a.reads (same_call catalogue c p r (ap (λ (p : Pending). p.call) is) s) in
        (q, has_right u.remote ((q, rec) ∷ []) _ (rw (← same) (has_one (q, rec))));
  })
  reads_now t (LiveNow.writes u p rec value h a e) = let b = all u h in subst Ok e (record {
    done = b.done;
    asked = λ c r g s. let is : record p { missing = other_holders catalogue x rec } ≡ c = cc in read_not_write catalogue p r rec value (same_call catalogue c p r (ap (λ (p : Pending). p.call) is) s) a.writes;
  })
  reads_now t (LiveNow.prepares u p h a e) = let b = all u h in subst Ok e (record {
    done = b.done;
    asked = λ c r g s. absurd (let is : record p { missing = u.parts } ≡ c = cc in let z = ap is_commit (ap (λ (p : Pending). p.call) is ∙ s.words) in let y = a.commit in cc);
  })
  reads_now t (LiveNow.begins view h e) = subst Ok e (record { done = λ rec value k none. absurd (has_none _ k); asked = λ p rec g r. cc })

pub reads_starts : (catalogue : Catalogue) → InvReads catalogue (scene_of (start_world catalogue))
reads_starts catalogue = record { live = λ s x t up h. absurd (started_idle catalogue s x t up h) }

pub reads_acts : (catalogue : Catalogue) (w : Scene) (s : ℕ) (x : SiteState) (given : Input) (o : Stepped) → ((t : Live) → LiveNow catalogue x given t → ReadsOk catalogue (keys x.copies) t) → Steps catalogue x given o.site.coordinator o.effects.messages o.effects.commits → Guards catalogue x given o → Acted w (acted w s x o) s x o → InvReads catalogue w → InvReads catalogue (acted w s x o)
reads_acts catalogue w s x given o ok c g st inv = record { live = λ k y t h q. go k y t q (now_is w (acted w s x o) s x o st k y h) }
  where
    go : (k : ℕ) (y : SiteState) (t : Live) → Has y.live t → NowIs w s o.site k y → ReadsOk catalogue (keys y.copies) t
    go k y t q (NowIs.other n old) = inv.live k y t old q
    go k y t q (NowIs.here e same) = subst (λ (y : SiteState). ReadsOk catalogue (keys y.copies) t) same (rw g.copied (ok t (c.live t (subst (λ (y : SiteState). Has y.live t) (sym same) q))))

pub reads_quiet : (catalogue : Catalogue) (w new : Scene) (s : ℕ) → Quiet catalogue w new s → InvReads catalogue w → InvReads catalogue new
reads_quiet catalogue w new s q inv = record { live = λ k y t g h. inv.live k y t (live_still catalogue w s k y t h (quiet_is catalogue w new s q k y g)) h }
