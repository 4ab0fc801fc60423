-- A site that is in doubt about a transaction ends the doubt as the journal says.
use Rattle.std.proofs.Common.{◌≡◌, ◌⊎◌, ◌∙◌, sym, subst, ℕ, Bool, true, false, inl, inr, ⊎_elim}
use Rattle.std.specs.Prelude.{Some}
use Rattle.std.specs.List.{Contains}
use Rattle.vp_model.specs.Types.{TxnId, Message, Input, Doubt}
use Rattle.vp_model.specs.Types.message
use Rattle.vp_model.specs.Catalogue.{Catalogue}
use Rattle.vp_model.specs.Durable.{DurableState}
use Rattle.vp_model.specs.Site.{SiteState}
use Rattle.vp_model.specs.Step.{step}
use Rattle.vp_model.specs.World.{WorldState, Schedule, Moment, site_of, moments_of, journal_of}
use Rattle.vp_model.specs.Headline.{has_entry}
use Rattle.vp_laws.specs.Catalogues.{IsWhole}
use Rattle.vp_laws.specs.Decisions.{MayCome, Forces, DecisionsAgree}
use Rattle.vp_laws.proofs.Lists.Members.{Has, has_of, contains}
use Rattle.vp_laws.proofs.Moves.LocalViews.{letter}
use Rattle.vp_laws.proofs.Moves.Table.{Comes}
use Rattle.vp_laws.proofs.Table.CopiesForced.{copies_come}
use Rattle.vp_laws.proofs.Keeping.Once.{once_each}
use Rattle.vp_laws.proofs.Table.Outcomes.{IsForced, doubts-step, outcomes-step}
use Rattle.vp_laws.proofs.Worlds.Scenes.{scene_of, kept_at}
use Rattle.vp_laws.proofs.Worlds.Events.{in_each}
use Rattle.vp_laws.proofs.Worlds.Moments.{moment_of, later_on}
use Rattle.vp_laws.proofs.Replies.EndsTrue.{entry_found, entry_none, EndedAt, ended_keeps}
use Rattle.vp_laws.proofs.Invariant.Known.{Known}
use Rattle.vp_laws.proofs.Invariant.Invariant.{Invariant}
use Rattle.vp_laws.proofs.Order.Invariant.{invariant_last}

sent_to : (w : WorldState) (s : ℕ) (given : Input) (from : ℕ) (m : Message) → MayCome w s given → Comes given from m → Has w.sent (letter from s m)
sent_to w s given from m may c = has_of w.sent (letter from s m) (subst (MayCome w s) c may)

module _ (catalogue : Catalogue) (w : WorldState) (k : Known catalogue (scene_of w)) (s : ℕ) (x : SiteState) (given : Input) (txn : TxnId) (up : site_of w s ≡ Some x) (may : MayCome w s given) where
  pub commit_entered : Forces catalogue x given txn true → has_entry w.journal txn ≡ true
  commit_entered h =
      let q = outcomes-step catalogue x given txn true (has_of _ _ h) in
      let e = (k.ends.told _ (sent_to w s given q.from (message.Outcome txn true) may q.comes)).1 in
      entry_found w.journal e.0 txn e.1 e.2

  pub abort_ended : Forces catalogue x given txn false → EndedAt (scene_of w) txn
  abort_ended h =
      let q = outcomes-step catalogue x given txn false (has_of _ _ h) in
      let sent = sent_to w s given q.from (message.Outcome txn false) may q.comes in
      let doubted : Has (kept_at (scene_of w) s).doubts q.doubt = subst (λ (d : DurableState). Has d.doubts q.doubt) (k.views.site s x up).kept q.there in
      record {
        used = (k.names.sent _ sent).0.0;
        over = k.ends.told _ sent;
        none = λ e there same. k.settled.aborted e q.from s there (subst (λ (t : TxnId). Has w.sent (letter q.from s (message.Outcome t false))) (sym same) sent) (q.doubt, doubted, q.named ∙ sym same);
      }

doubts_end : (catalogue : Catalogue) (x : SiteState) (given : Input) (d : Doubt) → Contains x.doubts d → Contains (step catalogue x given).site.doubts d ⊎ ((commit : Bool) × Forces catalogue x given d.txn commit)
doubts_end catalogue x given d h = ⊎_elim
    (λ here. inl (contains _ d here))
    (λ (ends : IsForced (step catalogue x given) d.txn). inr (ends.0, contains _ _ ends.1))
    (doubts-step catalogue x given d (has_of _ d h))

pub decisions_agreed : (s : Schedule) → IsWhole s.catalogue → (m : Moment) → Contains (moments_of s) m → DecisionsAgree s.catalogue (journal_of s) m.before
decisions_agreed s whole m there site x given up may =
    let h = has_of (moments_of s) m there in
    let good = in_each s.catalogue (Invariant s.catalogue) (invariant_last s.catalogue whole) s.events m h in
    let k = good.0.known in
    record {
      ends = doubts_end s.catalogue x given;
      copies = copies_come s.catalogue x given (k.views.site site x up).tidy (λ r here. let q = (k.guards.site site x up).lower r here in (q.0, q.1))
          (once_each s.catalogue (scene_of m.before) site x given (k.views.site site x up).kept k.ends k.shares (λ from letter comes. sent_to m.before site given from letter may comes));
      commits = λ txn forced. commit_entered s.catalogue m.before k site x given txn up may forced;
      aborts = λ txn forced.
          let is = moment_of s.catalogue (Invariant s.catalogue) (invariant_last s.catalogue whole) (λ w. EndedAt w txn) (ended_keeps s.catalogue txn) s.events m h in
          let ended = ended_keeps s.catalogue txn (scene_of m.before) m.line.shown (scene_of m.after) is good.0 good.1 (abort_ended s.catalogue m.before k site x given txn up may forced) in
          entry_none (journal_of s) txn (later_on s.catalogue (Invariant s.catalogue) (invariant_last s.catalogue whole) (λ w. EndedAt w txn) (ended_keeps s.catalogue txn) s.events m h ended).none;
    }
