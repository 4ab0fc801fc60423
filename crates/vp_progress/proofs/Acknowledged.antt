-- Decisions end: each of these sites that one waits for is told again, and acknowledges.
use Rattle.std.proofs.Common.{◌≡◌, ◌∙◌, ap, sym, subst, ℕ, Bool, true, false, cond, List, [], ◌∷◌, refl, ⊎_elim}
use Rattle.std.specs.Prelude.{Option, flat_map, map}
use Rattle.vp_model.specs.Types.{TxnId, View, Doubt, Decision}
use Rattle.vp_model.specs.Types.input
use Rattle.vp_model.specs.Types.log_record
use Rattle.vp_model.specs.Types.message
use Rattle.vp_model.specs.Catalogue.{Catalogue}
use Rattle.vp_model.specs.Site.{SiteState, Stepped, begin_step, put_back, lent_coordinator, lent_force}
use Rattle.vp_model.specs.Answers.{waits_for, with_acknowledged, on_ack, on_answer}
use Rattle.vp_model.specs.Messages.{on_message}
use Rattle.vp_model.specs.Step.{on_input, step}
use Rattle.vp_model.specs.World.{WorldState, site_of}
use Rattle.vp_laws.proofs.Lists.Members.{Has, has_one_is, map_has}
use Rattle.vp_laws.proofs.Lists.Changes.{mapped_has}
use Rattle.vp_laws.proofs.Lists.Views.{same_site}
use Rattle.vp_laws.proofs.Journal.Order.{flat_has, has_flat}
use Rattle.vp_laws.proofs.Moves.LocalViews.{letter}
use Rattle.vp_laws.proofs.Moves.Table.{lent_at}
use Rattle.vp_laws.proofs.Table.Waits.{IsWaited}
use Rattle.vp_laws.proofs.Worlds.Scenes.{scene_of}
use Rattle.vp_laws.proofs.Invariant.Known.{Known}
use Rattle.vp_progress.proofs.Calm.{calms}
use Rattle.vp_progress.proofs.Can.{Can, can_now, can_then, Each, one_by_one}
use Rattle.vp_progress.proofs.Acts.{Did, sends_since, by_tick, by_letter}
use Rattle.vp_progress.proofs.Started.{Past}
use Rattle.vp_progress.proofs.Based.{moves_on, other_as, OneEach}
use Rattle.vp_progress.proofs.Sending.{ticks_held, tick_tells}
use Rattle.vp_progress.proofs.Refreshed.{Asking, asking_along}
use Rattle.vp_progress.proofs.Held.{Holds, Quiet}
use Rattle.vp_progress.proofs.Certain.{outcome_says, doubts_at, decisions_at, Fewer, unmoved, quiet_on, quiet_moves, after_outcome, ends_all}
use Rattle.vp_progress.proofs.Decided.{WaitLess, waited_from, not_waited, acknowledged_from}

-- ---- an acknowledgement comes

-- nothing but decisions changes, and none on the transaction waits for that site
pub record Acks (x : SiteState) (from : ℕ) (txn : TxnId) (o : Stepped) : Type 0 where
  pub site : o.site ≡ record x { coordinator = record x.coordinator { decisions = o.site.decisions } }
  pub commits : o.effects.commits ≡ []
  pub less : WaitLess o.site.decisions x.decisions
  pub gone : IsWaited o.site.decisions txn from → ⊥

pub acks : (catalogue : Catalogue) (x : SiteState) (from : ℕ) (txn : TxnId) → Acks x from txn (step catalogue x (input.Message from (message.Ack txn)))
unfolding step on_input on_message on_answer on_ack
acks catalogue x from txn = go (waits_for txn from x.decisions) refl
  where
    go : (b : Bool) → waits_for txn from x.decisions ≡ b → Acks x from txn (put_back (begin_step x) (cond b (lent_coordinator (with_acknowledged txn from) (lent_force (log_record.Acked txn from) (lent_at x))) (lent_at x)))
    go true e = record {
      site = refl;
      commits = refl;
      less = λ u p w. let a = acknowledged_from txn from x.decisions w.0 w.1 p w.3 in (a.0, a.1, a.2 ∙ w.2, a.3);
      gone = λ w. let a = acknowledged_from txn from x.decisions w.0 w.1 from w.3 in a.4 w.2 refl;
    }
    go false e = record { site = refl; commits = refl; less = λ u p w. w; gone = not_waited txn from x.decisions e }

-- ---- worlds in which only decisions and doubts go

-- decisions wait for no one for whom they didn't
abbrev pub LessWaited : WorldState → WorldState → Type 0
LessWaited w new = (k : ℕ) → WaitLess (decisions_at (site_of new k)) (decisions_at (site_of w k))

-- no decision of one of these sites waits for one of them
abbrev pub AreTold : List ℕ → WorldState → Type 0
AreTold ns w = (q p : ℕ) (txn : TxnId) → Has ns q → Has ns p → IsWaited (decisions_at (site_of w q)) txn p → ⊥

pub still_told : (ns : List ℕ) (w new : WorldState) → ((k : ℕ) → decisions_at (site_of new k) ≡ decisions_at (site_of w k)) → AreTold ns w → AreTold ns new
still_told ns w new same f q p txn here there waits = f q p txn here there (subst (λ (ds : List Decision). IsWaited ds txn p) (same q) waits)

module _ (catalogue : Catalogue) (ns : List ℕ) (past : Past) (v : View) where
  abbrev Q : WorldState → Type 0
  Q w = Quiet catalogue ns past v w

  -- the acknowledgement has come
  record Acked (q from : ℕ) (txn : TxnId) (w new : WorldState) : Type 0 where
    quiet : Q new
    doubts : (k : ℕ) → doubts_at (site_of new k) ≡ doubts_at (site_of w k)
    less : LessWaited w new
    gone : IsWaited (decisions_at (site_of new q)) txn from → ⊥

  after_ack : (q from : ℕ) (txn : TxnId) (w new : WorldState) (here : Has ns q) (f : Q w) → Known catalogue (scene_of new) → Did w new q (f.holds q here).at (step catalogue (f.holds q here).at (input.Message from (message.Ack txn))) → Acked q from txn w new
  after_ack q from txn w new here f k d =
      let g = f.holds q here in
      let x = g.at in
      let o = step catalogue x (input.Message from (message.Ack txn)) in
      let a = acks catalogue x from txn in
      let asks : Asking catalogue o.site = subst (Asking catalogue) (sym a.site) (λ rec r e. asking_along catalogue x (record x { coordinator = record x.coordinator { decisions = o.site.decisions } }) r refl refl refl (g.asks rec r e)) in
      let held : Holds catalogue v q new = record { at = o.site; up = d.acted.now; held = ap (λ (x : SiteState). x.held) a.site ∙ g.held; live = ap (λ (x : SiteState). x.live) a.site ∙ g.live; parts = ap (λ (x : SiteState). x.parts) a.site ∙ g.parts; asks = asks } in
      let same : o.site.doubts ≡ x.doubts = ap (λ (x : SiteState). x.doubts) a.site in
      record {
        quiet = quiet_moves catalogue ns past v q x o w new f k d a.commits held (subst OneEach (sym same) (f.one q x g.up));
        doubts = λ s. ⊎_elim (λ (one : s ≡ q). rw one (ap doubts_at d.acted.now ∙ same ∙ ap doubts_at (sym g.up))) (λ n. ap doubts_at (other_as d s n)) (same_site s q);
        less = λ s. ⊎_elim
            (λ (one : s ≡ q). subst (λ (s : ℕ). WaitLess (decisions_at (site_of new s)) (decisions_at (site_of w s))) (sym one)
            (λ u p waits. subst (λ (o : Option SiteState). IsWaited (decisions_at o) u p) (sym g.up) (a.less u p (subst (λ (o : Option SiteState). IsWaited (decisions_at o) u p) d.acted.now waits))))
            (λ n u p waits. subst (λ (o : Option SiteState). IsWaited (decisions_at o) u p) (other_as d s n) waits)
            (same_site s q);
        gone = λ waits. a.gone (subst (λ (o : Option SiteState). IsWaited (decisions_at o) txn from) d.acted.now waits);
      }

  -- no doubt is new, and no decision waits for one more
  record Telling (start w : WorldState) : Type 0 where
    quiet : Q w
    fewer : Fewer start w
    less : LessWaited start w

  telling_on : (a b c : WorldState) → Telling a b → Telling b c → Telling a c
  telling_on a b c f g = record { quiet = g.quiet; fewer = λ k d h. f.fewer k d (g.fewer k d h); less = λ k u p waits. f.less k u p (g.less k u p waits) }

  -- the decision of the first site on the transaction doesn't wait for the other
  abbrev IsTold : ℕ × TxnId × ℕ → WorldState → Type 0
  IsTold a w = IsWaited (decisions_at (site_of w a.0)) a.1 a.2 → ⊥

  -- a site that is waited for is told, and acknowledges
  tells : (q p : ℕ) (txn : TxnId) (w : WorldState) → Has ns q → Has ns p → Q w → IsWaited (decisions_at (site_of w q)) txn p → Can catalogue (calms past.told ns) w (λ new. Telling w new × IsTold (q, txn, p) new)
  tells q p txn w here there f waits =
      let g = f.holds q here in
      let x = g.at in
      let ok = f.base.known.views.site q x g.up in
      let tidy = ok.tidy.held v g.held in
      let mine : IsWaited x.decisions txn p = subst (λ (o : Option SiteState). IsWaited (decisions_at o) txn p) g.up waits in
      let ticks = ticks_held catalogue x v tidy.2 tidy.1 g.held g.live in
      by_tick catalogue past.told ns _ w q x f.base.known here g.up
      λ mid k m.
      let base1 = moves_on catalogue ns past w mid q x _ f.base k m ticks.commits in
      let same1 = unmoved w mid q x _ g.up m ticks.site in
      let f1 = quiet_on catalogue ns past v w mid f base1 same1 in
      let c = f1.holds p there in
      let outcome : Has (step catalogue x input.Tick).effects.messages (letter x.id p (message.Outcome txn true)) = subst (λ (t : TxnId). Has (step catalogue x input.Tick).effects.messages (letter x.id p (message.Outcome t true))) mine.2 (tick_tells catalogue x v mine.0 p tidy.2 tidy.1 g.held g.live mine.1 mine.3) in
      let told = sends_since past.told f.base.grown m _ (subst (λ (s : ℕ). Has (step catalogue x input.Tick).effects.messages (letter s p (message.Outcome txn true))) ok.id outcome) in
      by_letter catalogue past.told ns _ mid p c.at k there c.up q (message.Outcome txn true) refl told here (base1.joined q p here there)
      λ mid2 k2 m2.
      let e = after_outcome catalogue ns past v p q txn true mid mid2 there f1 k2 m2 in
      let id = (k.views.site p c.at c.up).id in
      let said = sends_since past.told base1.grown m2 _ (subst (λ (s : ℕ). Has (step catalogue c.at (input.Message q (message.Outcome txn true))).effects.messages (letter s q (message.Ack txn))) id (outcome_says catalogue c.at q txn)) in
      let y = e.quiet.holds q here in
      by_letter catalogue past.told ns _ mid2 q y.at k2 here y.up p (message.Ack txn) refl said there (e.quiet.base.joined p q there here)
      λ new k3 m3.
      let a = after_ack q p txn mid2 new here e.quiet k3 m3 in
      can_now catalogue (calms past.told ns) _ new (
        record {
          quiet = a.quiet;
          fewer = λ s d h. subst (λ (o : Option SiteState). Has (doubts_at o) d) (same1 s) (e.fewer s d (subst (λ (ds : List Doubt). Has ds d) (a.doubts s) h));
          less = λ s u r h. subst (λ (ds : List Decision). IsWaited ds u r) (e.decided s ∙ ap decisions_at (same1 s)) (a.less s u r h);
        },
        a.gone,
      )

  -- each decision of these sites, with each of these sites
  abbrev with_each : ℕ → Decision → List (ℕ × TxnId × ℕ)
  with_each q d = map (λ (p : ℕ). (q, d.txn, p)) ns

  abbrev asked_of : WorldState → ℕ → List (ℕ × TxnId × ℕ)
  asked_of w q = flat_map (with_each q) (decisions_at (site_of w q))

  between : (w : WorldState) (a : ℕ × TxnId × ℕ) → Has (flat_map (asked_of w) ns) a → Has ns a.0 × Has ns a.2
  between w a there =
      let q = flat_has (asked_of w) ns a there in
      let d = flat_has (with_each q.0) (decisions_at (site_of w q.0)) a q.2 in
      let p = map_has (λ (p : ℕ). (q.0, d.0.txn, p)) ns a d.2 in
      (subst (λ (b : ℕ × TxnId × ℕ). Has ns b.0) p.2 q.1, subst (λ (b : ℕ × TxnId × ℕ). Has ns b.2) p.2 p.1)

  ends_one : (start : WorldState) (a : ℕ × TxnId × ℕ) (w : WorldState) → Has (flat_map (asked_of start) ns) a → Telling start w → Can catalogue (calms past.told ns) w (Each (Telling start) IsTold (a ∷ []) w)
  ends_one start a w there f = go (between start a there) (waits_for a.1 a.2 (decisions_at (site_of w a.0))) refl
    where
      go : Has ns a.0 × Has ns a.2 → (b : Bool) → waits_for a.1 a.2 (decisions_at (site_of w a.0)) ≡ b → Can catalogue (calms past.told ns) w (Each (Telling start) IsTold (a ∷ []) w)
      go both false e = can_now catalogue (calms past.told ns) _ w (record { still = f; done = λ b h. subst (λ (b : ℕ × TxnId × ℕ). IsTold b w) (has_one_is a b h) (not_waited a.1 a.2 (decisions_at (site_of w a.0)) e); stays = λ b told. told })
      go both true e =
          can_then catalogue (calms past.told ns) (λ new. Telling w new × IsTold a new) _ w (tells a.0 a.2 a.1 w both.0 both.1 f.quiet (waited_from a.1 a.2 (decisions_at (site_of w a.0)) e))
          λ new n. can_now catalogue (calms past.told ns) _ new (record {
            still = telling_on start w new f n.0;
            done = λ b h. subst (λ (b : ℕ × TxnId × ℕ). IsTold b new) (has_one_is a b h) n.1;
            stays = λ b told waits. told (n.0.less b.0 b.1 b.2 waits);
          })

  ends_decisions : (w : WorldState) → Q w → Can catalogue (calms past.told ns) w (λ new. Telling w new × AreTold ns new)
  ends_decisions w f =
      let all = flat_map (asked_of w) ns in
      can_then catalogue (calms past.told ns) (Each (Telling w) IsTold all w) _ w
      (one_by_one catalogue (calms past.told ns) (Telling w) IsTold all (ends_one w) all (λ a h. h) w (record { quiet = f; fewer = λ k d h. h; less = λ k u p waits. waits }))
      λ new e. can_now catalogue (calms past.told ns) _ new (
        e.still,
        (λ q p txn here there waits.
            let old = e.still.less q txn p waits in
            let asked = has_flat (with_each q) (decisions_at (site_of w q)) old.0 (q, old.0.txn, p) old.1 (mapped_has (λ (p : ℕ). (q, old.0.txn, p)) ns p there) in
            e.done (q, old.0.txn, p) (has_flat (asked_of w) ns q (q, old.0.txn, p) here asked) (subst (λ (t : TxnId). IsWaited (decisions_at (site_of new q)) t p) (sym old.2) waits)),
      )

  -- each doubt of a coordinator among these sites has ended, and each wait of a decision of one of them for another
  pub record Settled (w : WorldState) : Type 0 where
    pub quiet : Q w
    pub clear : (q : ℕ) → Has ns q → (d : Doubt) → Has (doubts_at (site_of w q)) d → Has ns d.txn.site → ⊥
    pub told : AreTold ns w

  pub settles : (w : WorldState) → Q w → Can catalogue (calms past.told ns) w Settled
  settles w f =
      can_then catalogue (calms past.told ns) _ Settled w (ends_all catalogue ns past v ns (λ q h. h) w f)
      λ mid m. can_then catalogue (calms past.told ns) (λ new. Telling mid new × AreTold ns new) Settled mid (ends_decisions mid m.0)
      λ new n. can_now catalogue (calms past.told ns) Settled new (record { quiet = n.0.quiet; clear = λ q h d there near. m.2 q h d (n.0.fewer q d there) near; told = n.1 })
