-- One site invites to a view above every promise, and the others accept it, one after the other.
use Rattle.std.proofs.Common.{◌≡◌, ◌≢◌, ◌⊎◌, ◌∙◌, ap, sym, subst, ℕ, ◌+◌, ◌-◌, ◌<◌, ◌≤◌, ◌^◌, true, false, List, [], ◌∷◌, refl, arith, ⊎_elim, inl, inr}
use Rattle.std.specs.Prelude.{Option, Some, None, ◌==◌, not, max, nat_eq, nat_lt}
use Rattle.std.proofs.lemmas.Bool.Decides.{nat_tests}
use Rattle.vp_model.specs.Types.{ViewId}
use Rattle.vp_model.specs.Types.call
use Rattle.vp_model.specs.Types.input
use Rattle.vp_model.specs.Types.message
use Rattle.vp_model.specs.Words.{view_before, put_number}
use Rattle.vp_model.specs.Catalogue.{Catalogue, sites_of}
use Rattle.vp_model.specs.Durable.{DurableState}
use Rattle.vp_model.specs.Site.{ViewState, SiteState}
use Rattle.vp_model.specs.Views.{highest, is_spent}
use Rattle.vp_model.specs.Step.{step}
use Rattle.vp_model.specs.World.{Place, WorldState, place_of, site_of}
use Rattle.vp_laws.proofs.Lists.Members.{Has, has_none, has_one_is, has_one, has_cons, has_test, filter_keeps}
use Rattle.vp_laws.proofs.Lists.Changes.{put_new}
use Rattle.vp_laws.proofs.Lists.Views.{same_site, put_keeps, put_only}
use Rattle.vp_laws.proofs.Moves.Table.{next_view}
use Rattle.vp_laws.proofs.Moves.LocalViews.{letter}
use Rattle.vp_laws.proofs.Worlds.Scenes.{scene_of, kept_in, promise_at}
use Rattle.vp_laws.proofs.Invariant.Known.{Known}
use Rattle.vp_progress.specs.Whole.{promised_number}
use Rattle.vp_progress.proofs.Calm.{calms, carries}
use Rattle.vp_progress.proofs.Can.{Can, can_now, Each, one_by_one}
use Rattle.vp_progress.proofs.Acts.{Did, Since, sends_since, stays_since, by_regroup, by_carried}
use Rattle.vp_progress.proofs.Started.{IsUp, Past, Started}
use Rattle.vp_progress.proofs.Based.{Based, moves_on, other_as, greatest}
use Rattle.vp_progress.proofs.Rows.{invites, awaits, accepts, regroup_commits, regroup_sends, awaits_commits, counts, counts_commits}

pub promised_is : (o : Option Place) → promised_number o ≡ (kept_in o).promise.number
promised_is None = refl
promised_is (Some p) = refl

pub not_spent : (a b n : ℕ) → a < n → b < n → (max a b == n) ≡ false
not_spent a b n p q = grind (arith, nat_tests)

one_above : (a b : ℕ) → a ≤ b → a < b + 1
one_above a b h = omega (arith, h)

below_highest : (a promise seen : ℕ) → a ≤ promise → a ≤ max promise seen
below_highest a promise seen h = omega (arith, h)

pub below : (a b : ViewId) → a.number < b.number → view_before a b ≡ true
below a b h = grind (arith, nat_tests)

pub unlike : (q r : ℕ) → q ≢ r → not (q == r) ≡ true
unlike q r n = let e : (q == r) ≡ false = grind (arith, nat_tests, n) in rw e refl

abbrev pub acceptors : Option (ViewId × List ℕ) → List ℕ
acceptors None = []
acceptors (Some b) = b.1

-- it may accept the view
pub record Ready (id : ViewId) (q : ℕ) (w : WorldState) : Type 0 where
  pub at : SiteState
  pub up : site_of w q ≡ Some at
  pub low : at.promise.number < id.number

-- it has accepted the view, and the site r, which invites, knows that
pub record Accepted (id : ViewId) (r q : ℕ) (w : WorldState) : Type 0 where
  pub at : SiteState
  pub up : site_of w q ≡ Some at
  pub waiting : at.waiting ≡ Some id
  pub counted : (x : SiteState) → site_of w r ≡ Some x → Has (acceptors x.inviting) q

module _ (catalogue : Catalogue) (ns : List ℕ) (past : Past) where
  -- the site r invites to the view: those that have accepted are among these sites, and each other one has accepted too, or may
  pub record Invited (id : ViewId) (r : ℕ) (w : WorldState) : Type 0 where
    pub base : Based catalogue ns past w
    pub sent : (q : ℕ) → Has ns q → q ≢ r → Since past.told w (letter r q (message.Invite id))
    pub leader : SiteState
    pub up : site_of w r ≡ Some leader
    pub accepted : List ℕ
    pub inviting : leader.inviting ≡ Some (id, accepted)
    pub own : Has accepted r
    pub among : (q : ℕ) → Has accepted q → Has ns q
    pub site : (q : ℕ) → Has ns q → q ≢ r → Ready id q w ⊎ Accepted id r q w

  -- ---- the invitation

  -- the site r has invited above each promise
  pub regrouped : (w new : WorldState) (r : ℕ) (x : SiteState) → ((q : ℕ) → Has ns q → Has (sites_of catalogue) q) → Based catalogue ns past w → ((q : ℕ) → Has ns q → IsUp q w) → Has ns r → site_of w r ≡ Some x → is_spent x.views ≡ false → ((q : ℕ) → Has ns q → (promise_at (scene_of w) q).number ≤ highest x.views)
      → Known catalogue (scene_of new) → Did w new r x (step catalogue x (input.Call 0 call.Regroup)) → Invited (next_view x) r new
  regrouped w new r x sub base up here mine free top k d =
      let ok = base.known.views.site r x mine in
      record {
        base = moves_on catalogue ns past w new r x _ base k d (regroup_commits catalogue x 0 free);
        sent = λ q h n. sends_since past.told base.grown d _ (subst (λ (s : ℕ). Has (step catalogue x (input.Call 0 call.Regroup)).effects.messages (letter s q (message.Invite (next_view x)))) ok.id (regroup_sends catalogue x 0 q free (filter_keeps (λ q. not (q == x.id)) (sites_of catalogue) q (sub q h) (unlike q x.id (rw ok.id n)))));
        leader = (step catalogue x (input.Call 0 call.Regroup)).site;
        up = d.acted.now;
        accepted = x.id ∷ [];
        inviting = ap (λ (v : ViewState). v.inviting) (invites catalogue x 0 free);
        own = rw ok.id (has_one r);
        among = λ q h. subst (Has ns) (sym ok.id ∙ has_one_is x.id q h) here;
        site = λ q h n.
            let y = up q h in
            inl (record {
              at = y.0;
              up = other_as d q n ∙ y.1;
              low = rw (ap (λ (i : DurableState). i.promise.number) (base.known.views.site q y.0 y.1).kept) (one_above _ (highest x.views) (top q h));
            });
      }

  pub invites_all : (w : WorldState) (first : ℕ) (rest : List ℕ) → ns ≡ first ∷ rest → ((q : ℕ) → Has ns q → Has (sites_of catalogue) q) → Started catalogue ns past w → Can catalogue (calms past.told ns) w (λ new. (id : ViewId) × (r : ℕ) × Has ns r × Invited id r new)
  invites_all w first rest is sub f =
      let known = f.fit.known in
      let g = greatest (λ q. (promise_at (scene_of w) q).number) first rest in
      let r = g.0 in
      let here : Has ns r = subst (λ (l : List ℕ). Has l r) (sym is) g.1 in
      let u = f.up r here in
      let x = u.0 in
      let mine : x.promise ≡ promise_at (scene_of w) r = ap (λ (d : DurableState). d.promise) (known.views.site r x u.1).kept in
      let low : x.promise.number < 2 ^ 64 - 1 = rw (ap (λ (i : ViewId). i.number) mine, ← (promised_is (place_of r w.places))) (f.fit.unspent.promised r (has_test ns r here)) in
      let free : is_spent x.views ≡ false = not_spent x.promise.number x.seen (2 ^ 64 - 1) low (f.fit.unspent.seen r x (has_test ns r here) u.1) in
      by_regroup catalogue past.told ns _ w r x known here u.1
      λ new k d. can_now catalogue (calms past.told ns) _ new (
        next_view x,
        r,
        here,
        regrouped w new r x sub (record { known = known; joined = f.joined; same = f.fit.same; grown = f.fit.grown }) f.up here u.1 free (λ q h. below_highest _ x.promise.number x.seen (rw (ap (λ (i : ViewId). i.number) mine) (g.2 q (subst (λ (l : List ℕ). Has l q) is h)))) k d,
      )

  -- ---- the acceptances

  module _ (id : ViewId) (r : ℕ) (lead : Has ns r) where
    abbrev Has_accepted : ℕ → WorldState → Type 0
    Has_accepted q w = q ≢ r → Accepted id r q w

    -- the invitation comes to a site that may accept, and its acceptance comes back
    takes : (q : ℕ) (w : WorldState) → Has ns q → q ≢ r → (f : Invited id r w) → Ready id q w → Can catalogue (carries past.told ns) w (Each (Invited id r) Has_accepted (q ∷ []) w)
    takes q w here n f a =
        let ok = f.base.known.views.site q a.at a.up in
        let b = below a.at.promise id a.low in
        let turned : r ≢ q = λ (same : r ≡ q). n (sym same) in
        by_carried catalogue past.told ns _ w q a.at f.base.known here a.up r (message.Invite id) refl (f.sent q here n) lead (f.base.joined r q lead here)
        λ mid k d.
        let base = moves_on catalogue ns past w mid q a.at _ f.base k d (awaits_commits catalogue a.at r id b) in
        let up_r = other_as d r turned ∙ f.up in
        let answer = sends_since past.told f.base.grown d _ (subst (λ (s : ℕ). Has (step catalogue a.at (input.Message r (message.Invite id))).effects.messages (letter s r (message.Accept id))) ok.id (accepts catalogue a.at r id b)) in
        by_carried catalogue past.told ns _ mid r f.leader k lead up_r q (message.Accept id) refl answer here (base.joined q r here lead)
        λ new k2 e.
        let now : (step catalogue f.leader (input.Message q (message.Accept id))).site.inviting ≡ Some (id, put_number q f.accepted) = counts catalogue f.leader q id f.accepted f.inviting in
        let grown : (c : ℕ) → Has f.accepted c → (x : SiteState) → site_of new r ≡ Some x → Has (acceptors x.inviting) c = λ c h x u. let same : (step catalogue f.leader (input.Message q (message.Accept id))).site ≡ x = (let z = sym e.acted.now ∙ u in grind (arith, z)) in rw (← same, now) (put_keeps q f.accepted c h) in
        let mine : Accepted id r q new = record {
          at = (step catalogue a.at (input.Message r (message.Invite id))).site;
          up = other_as e q n ∙ d.acted.now;
          waiting = ap (λ (v : ViewState). v.waiting) (awaits catalogue a.at r id b);
          counted = λ x u. let same : (step catalogue f.leader (input.Message q (message.Accept id))).site ≡ x = (let z = sym e.acted.now ∙ u in grind (arith, z)) in rw (← same, now) (put_new nat_eq nat_lt q f.accepted);
        } in
        let old : (c : ℕ) → c ≢ q → c ≢ r → Accepted id r c w → Accepted id r c new = λ c p p2 g. record {
          at = g.at;
          up = other_as e c p2 ∙ other_as d c p ∙ g.up;
          waiting = g.waiting;
          counted = grown c (rw f.inviting at (g.counted f.leader f.up));
        } in
        can_now catalogue (carries past.told ns) _ new (record {
          still = record {
            base = moves_on catalogue ns past mid new r f.leader _ base k2 e (counts_commits catalogue f.leader q id);
            sent = λ c h p. stays_since past.told e _ (stays_since past.told d _ (f.sent c h p));
            leader = (step catalogue f.leader (input.Message q (message.Accept id))).site;
            up = e.acted.now;
            accepted = put_number q f.accepted;
            inviting = now;
            own = put_keeps q f.accepted r f.own;
            among = λ c h. ⊎_elim (λ was. f.among c was) (λ (same : q ≡ c). subst (Has ns) same here) (put_only q f.accepted c h);
            site = λ c h p. ⊎_elim (λ (same : c ≡ q). inr (rw same mine)) (λ (other : c ≢ q). ⊎_elim (λ (y : Ready id c w). inl (record { at = y.at; up = other_as e c p ∙ other_as d c other ∙ y.up; low = y.low })) (λ g. inr (old c other p g)) (f.site c h p)) (same_site c q);
          };
          done = λ c h p. ⊎_elim (λ (same : q ≡ c). subst (λ (c : ℕ). Accepted id r c new) same mine) (λ more. absurd (has_none c more)) (has_cons q [] c h);
          stays = λ c g p. ⊎_elim (λ (same : c ≡ q). rw same mine) (λ (other : c ≢ q). old c other p (g p)) (same_site c q);
        })

    accepts_one : (q : ℕ) (w : WorldState) → Has ns q → Invited id r w → Can catalogue (carries past.told ns) w (Each (Invited id r) Has_accepted (q ∷ []) w)
    accepts_one q w here f =
        ⊎_elim
        (λ (same : q ≡ r). can_now catalogue (carries past.told ns) _ w (record { still = f; done = λ c h p. ⊎_elim (λ (one : q ≡ c). absurd (p (sym one ∙ same))) (λ more. absurd (has_none c more)) (has_cons q [] c h); stays = λ c g. g }))
        (λ (n : q ≢ r). ⊎_elim (λ (a : Ready id q w). takes q w here n f a) (λ (a : Accepted id r q w). can_now catalogue (carries past.told ns) _ w (record { still = f; done = λ c h p. ⊎_elim (λ (one : q ≡ c). subst (λ (c : ℕ). Accepted id r c w) one a) (λ more. absurd (has_none c more)) (has_cons q [] c h); stays = λ c g. g })) (f.site q here n))
        (same_site q r)

    pub accepts_all : (w : WorldState) → Invited id r w → Can catalogue (carries past.told ns) w (Each (Invited id r) Has_accepted ns w)
    accepts_all w f = one_by_one catalogue (carries past.told ns) (Invited id r) Has_accepted ns accepts_one ns (λ a h. h) w f
