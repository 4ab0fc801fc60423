-- In every world of every schedule the sites that sites know of are in the catalogue, and so are the senders and receivers of
-- messages.
use Rattle.std.proofs.Common.{◌≡◌, ◌∙◌, ap, sym, subst, ℕ, ◌≤◌, true, List, [], ◌∷◌, map, refl, arith, ⊎_elim}
use Rattle.std.specs.Prelude.{Option, Some, None, nat_eq, nat_lt, flat_map, ◌==◌}
use Rattle.vp_catalog.specs.Document.{IsCatalogue}
use Rattle.vp_model.specs.Types.{Change, ViewId, TxnId, Message, Sent, Input, Lock, Live, Doubt, Decision}
use Rattle.vp_model.specs.Types.owner
use Rattle.vp_model.specs.Words.{opening, has, put_number, for_each}
use Rattle.vp_model.specs.Catalogue.{Catalogue, sites_of, start_copies}
use Rattle.vp_model.specs.Durable.{DurableState, empty_durable, apply}
use Rattle.vp_model.specs.Site.{SiteState, Stepped}
use Rattle.vp_model.specs.Refresh.{other_holders}
use Rattle.vp_model.specs.Step.{step, start, durable_of, locks_in_doubt}
use Rattle.vp_model.specs.World.{Place, place_of, start_place, start_world, run_of}
use Rattle.vp_laws.proofs.Lists.Members.{Has, has_none, has_cases, has_more, has_first, map_has, any_of, all_of}
use Rattle.vp_laws.proofs.Lists.Changes.{put_has}
use Rattle.vp_laws.proofs.Lists.Views.{AtMost}
use Rattle.vp_laws.proofs.Worlds.Scenes.{Scene, scene_of, kept_in, up_in, plain_at, kept_at, promise_at, acted, stepping, up-place}
use Rattle.vp_laws.proofs.Worlds.Sites.{NowIs, now_is, KeptIs, kept_is, Quiet, QuietIs, quiet_is, quiet_kept, With, Beside, with_last, start_at}
use Rattle.vp_laws.proofs.Worlds.Events.{Arrives, Lasts, in_last}
use Rattle.vp_laws.proofs.Table.Views.{local-step}
use Rattle.vp_laws.proofs.Table.Names.{OwnerNamed, Named, Names}
use Rattle.vp_laws.proofs.Table.Steps.{LiveNow, steps-step}
use Rattle.vp_laws.proofs.Invariant.Views.{InvViews}
use Rattle.vp_laws.proofs.Invariant.Known.{Known}
use Rattle.vp_laws.proofs.Keeping.Known.{known_last}
use Rattle.vp_laws.specs.Routes.{IsBetweenSites, MessagesGoBetweenSites}
use Rattle.vp_laws.proofs.Shapes.Catalogue.{listed_is}
use Rattle.vp_laws.proofs.Moves.Table.{Comes}
use Rattle.vp_laws.proofs.Routes.Holders.{other_holders_stand}
use Rattle.vp_laws.proofs.Routes.TableRoutes.{OfSite, AnyView, Routed, routes-step}
use Rattle.vp_laws.proofs.Lists.Numbers.{eq_self}

put_each : {P : ℕ → Type 0} (ns ms : List ℕ) → ((n : ℕ) → Has ns n → P n) → ((n : ℕ) → Has ms n → P n) → (q : ℕ) → Has (for_each ns put_number ms) q → P q
put_each [] ms new old q h = old q h
put_each {P} (n ∷ ns) ms new old q h =
    put_each ns (put_number n ms) (λ m g. new m (has_more n ns m g)) (λ m g. ⊎_elim (λ (is : m ≡ n). subst P (sym is) (new n (has_first n ns))) (λ was. old m was) (put_has nat_eq nat_lt n ms m g)) q h

module _ (catalogue : Catalogue) (k : IsCatalogue catalogue) where
  abbrev S : ℕ → Type 0
  S q = Has (sites_of catalogue) q

  abbrev N : TxnId → Type 0
  N = OfSite catalogue k

  abbrev A : ViewId → Type 0
  A = AnyView catalogue k

  -- the transactions that a site has kept are of sites of the catalogue
  pub record KeptRoutes (d : DurableState) : Type 0 where
    -- those in doubt
    pub doubts : (a : Doubt) → Has d.doubts a → N a.txn
    -- those that are decided
    pub decisions : (a : Decision) → Has d.decisions a → N a.txn
    -- and whom decisions wait for are such sites
    pub waiting : (a : Decision) → Has d.decisions a → (q : ℕ) → Has a.waiting q → S q

  -- whom a site knows of, and between whom messages go, are sites of the catalogue
  pub record InvRoutes (w : Scene) : Type 0 where
    -- the transactions named at a site that is up are of such sites
    pub names : (s : ℕ) (x : SiteState) → plain_at w s ≡ Some x → Names N A x
    -- the parts of its live transactions are at such sites
    pub parts : (s : ℕ) (x : SiteState) (t : Live) → plain_at w s ≡ Some x → Has x.live t → (q : ℕ) → Has t.parts q → S q
    -- so it is of what a site has kept, up or down
    pub kept : (s : ℕ) → KeptRoutes (kept_at w s)
    -- each message goes from such a site to such a site, and names their transactions alone
    pub sent : (m : Sent) → Has w.sent m → S m.from × S m.to × Named N A m.message

  -- ---- a site that starts

  locks_of : (doubts : List Doubt) → ((d : Doubt) → Has doubts d → N d.txn) → (l : Lock) → Has (flat_map locks_in_doubt doubts) l → OwnerNamed N A l.owner
  locks_of [] all l h = absurd (has_none l h)
  locks_of (d ∷ doubts) all l h =
      ⊎_elim (λ here. let r = map_has (λ (w : ℕ × Change). record { rec = w.0; exclusive = true; owner = owner.Txn d.txn }) d.writes l here in subst (OwnerNamed N A) (ap (λ (l : Lock). l.owner) r.2) (all d (has_first d doubts)))
      (λ later. locks_of doubts (λ e q. all e (has_more d doubts e q)) l later)
      (has_cases (locks_in_doubt d) (flat_map locks_in_doubt doubts) l h)

  start_names : (s : ℕ) (d : DurableState) → KeptRoutes d → Names N A (start catalogue s d)
  unfolding start
  start_names s d h = record {
    held = λ v e. tt;
    parts = λ p q. absurd (has_none p q);
    doubts = λ a q. (h.doubts a q, tt);
    ended = λ t q. absurd (has_none t q);
    decisions = h.decisions;
    locks = locks_of d.doubts h.doubts;
    copies = λ c q. tt;
    answers = λ r a q p. absurd (has_none r q);
  }

  no_parts : (s : ℕ) (d : DurableState) (x : SiteState) (t : Live) → start catalogue s d ≡ x → Has x.live t → (q : ℕ) → Has t.parts q → S q
  unfolding start
  no_parts s d x t same h q p = absurd (none t (rw (← same) at h))
    where
      none : (t : Live) → Has (start catalogue s d).live t → ⊥
      none t h = has_none t h

  empty_kept : (s : ℕ) → KeptRoutes (empty_durable (start_copies catalogue s))
  empty_kept s = record { doubts = λ a h. absurd (has_none a h); decisions = λ a h. absurd (has_none a h); waiting = λ a h. absurd (has_none a h) }

  starts_so : InvRoutes (scene_of (start_world catalogue))
  unfolding start_world apply
  starts_so = record {
    names = λ s x h. at_start s x (place_of s (map (start_place catalogue) (sites_of catalogue))) refl h;
    parts = λ s x t h. no_parts_at s x t (place_of s (map (start_place catalogue) (sites_of catalogue))) refl h;
    kept = λ s. kept_start s (place_of s (map (start_place catalogue) (sites_of catalogue))) refl;
    sent = λ m h. absurd (has_none m h);
  }
    where
      started : (s : ℕ) (x : SiteState) (p : Place) → place_of s (map (start_place catalogue) (sites_of catalogue)) ≡ Some p → p.up ≡ Some x → start catalogue s (empty_durable (start_copies catalogue s)) ≡ x
      started s x p e up = let all = start_at catalogue s (sites_of catalogue) p e in let a = ap (λ (p : Place). p.up) all.1 in cc

      at_start : (s : ℕ) (x : SiteState) (o : Option Place) → place_of s (map (start_place catalogue) (sites_of catalogue)) ≡ o → up_in o ≡ Some x → Names N A x
      at_start s x None e up = cc
      at_start s x (Some p) e up = subst (Names N A) (started s x p e up) (start_names s (empty_durable (start_copies catalogue s)) (empty_kept s))

      no_parts_at : (s : ℕ) (x : SiteState) (t : Live) (o : Option Place) → place_of s (map (start_place catalogue) (sites_of catalogue)) ≡ o → up_in o ≡ Some x → Has x.live t → (q : ℕ) → Has t.parts q → S q
      no_parts_at s x t None e up = cc
      no_parts_at s x t (Some p) e up = no_parts s (empty_durable (start_copies catalogue s)) x t (started s x p e up)

      started_kept : (s : ℕ) → KeptRoutes (start_place catalogue s).durable
      started_kept s = let e = empty_kept s in record { doubts = e.doubts; decisions = e.decisions; waiting = e.waiting }

      kept_start : (s : ℕ) (o : Option Place) → place_of s (map (start_place catalogue) (sites_of catalogue)) ≡ o → KeptRoutes (kept_in (place_of s (map (start_place catalogue) (sites_of catalogue))))
      kept_start s None e = subst KeptRoutes (sym (ap kept_in e)) (record { doubts = λ a h. absurd (has_none a h); decisions = λ a h. absurd (has_none a h); waiting = λ a h. absurd (has_none a h) })
      kept_start s (Some p) e = let all = start_at catalogue s (sites_of catalogue) p e in subst KeptRoutes (sym (ap kept_in e ∙ ap (λ (p : Place). p.durable) (sym all.1))) (started_kept s)

  -- ---- who may be invited

  above_opening : (v : ViewId) → 1 ≤ v.site → AtMost v opening → ⊥
  above_opening v some h = grind (arith, some, h)

  is_known : (w : Scene) → InvViews catalogue w → (v : ViewId) → 1 ≤ v.site → (a : ℕ) → AtMost v (promise_at w a) → S a
  is_known w views v some a h = go (place_of a w.places) refl
    where
      go : (o : Option Place) → place_of a w.places ≡ o → S a
      go None e = absurd (above_opening v some (subst (λ (o : Option Place). AtMost v (kept_in o).promise) e h))
      go (Some p) e = views.known a p e

  -- ---- a step

  parts_now : (x : SiteState) (given : Input) → ((t : Live) → Has x.live t → (q : ℕ) → Has t.parts q → S q) → (t : Live) → LiveNow catalogue x given t → (q : ℕ) → Has t.parts q → S q
  parts_now x given all t (LiveNow.still h) q p = all t h q p
  parts_now x given all t (LiveNow.marked u h tick e) q p = all u h q (rw (← e) at p)
  parts_now x given all t (LiveNow.waits u r from h pending missing more c e) q p = all u h q (rw (← e) at p)
  parts_now x given all t (LiveNow.completed u r deed l h c e) q p = all u h q (rw (← e) at p)
  parts_now x given all t (LiveNow.reads u r rec n h a e) q p =
      let z : Has (put_number n u.parts) q = rw (← e) at p in
      ⊎_elim (λ (new : q ≡ n). subst S (sym new) (other_holders_stand catalogue k x.id x.held rec n a.holder)) (λ old. all u h q old) (put_has nat_eq nat_lt n u.parts q z)
  parts_now x given all t (LiveNow.writes u r rec value h a e) q p =
      let z : Has (for_each (other_holders catalogue x rec) put_number u.parts) q = rw (← e) at p in
      put_each (other_holders catalogue x rec) u.parts (λ n g. other_holders_stand catalogue k x.id x.held rec n g) (λ n g. all u h n g) q z
  parts_now x given all t (LiveNow.prepares u r h a e) q p = all u h q (rw (← e) at p)
  parts_now x given all t (LiveNow.begins view h e) q p = absurd (has_none q (rw (← e) at p))

  module _ (w : Scene) (s : ℕ) (x : SiteState) (given : Input) (up : plain_at w s ≡ Some x) (a : Arrives w s given) (known : Known catalogue w) (inv : InvRoutes w) where
    views : InvViews catalogue w
    views = known.views

    abbrev o : Stepped
    o = step catalogue x given

    here : S x.id
    here = let p = up-place (place_of s w.places) x up in subst S (sym (views.site s x up).id) (views.known s p.0 p.1)

    came : (from : ℕ) (m : Message) → Comes given from m → S from × Named N A m
    came from m c = let z = inv.sent (record { from = from; to = s; message = m }) (rw c at a) in (z.0, z.2)

    waits : (d : Decision) → Has x.decisions d → (q : ℕ) → Has d.waiting q → S q
    waits d h q p = (inv.kept s).waiting d (rw (ap (λ (d : DurableState). d.decisions) (views.site s x up).kept) at h) q p

    invited : (b : ViewId × List ℕ) → x.inviting ≡ Some b → (q : ℕ) → Has b.1 q → S q
    invited b i q h =
        let ok = views.site s x up in
        let own : b.0.site ≡ x.id = (ok.tidy.inviting b i).3 in
        let some : 1 ≤ b.0.site = rw own (listed_is catalogue k x.id (any_of (λ (m : ℕ). m == x.id) (sites_of catalogue) x.id here (eq_self x.id))).0 in
        is_known w views b.0 some q (ok.acceptors b q i h)

    routed : Routed catalogue k o
    routed =
        routes-step catalogue k x given (views.site s x up).tidy (known.led.site s x up) (inv.names s x up) here waits (λ t h q p. inv.parts s x t up h q p) invited came

    live_now : (t : Live) → Has o.site.live t → (q : ℕ) → Has t.parts q → S q
    live_now t h = parts_now x given (λ t h q p. inv.parts s x t up h q p) t ((steps-step catalogue x given (known.led.site s x up) (known.votes.site s x up)).kept.live t h)

    kept_now : KeptRoutes (durable_of o.site)
    kept_now = record { doubts = λ d h. (routed.0.names.doubts d h).0; decisions = routed.0.names.decisions; waiting = routed.1.waiting }

    acts_so : InvRoutes (acted w s x o)
    acts_so =
        let ok = views.site s x up in
        let l = local-step catalogue x given ok.tidy in
        let st = stepping catalogue w s x given up ok.kept l in
        record {
          names = λ n y h. names_at n y (now_is w _ s x o st n y h);
          parts = λ n y t h p. parts_at n y t p (now_is w _ s x o st n y h);
          kept = λ n. kept_at_now n (kept_is w _ s x o st n);
          sent = λ m h. ⊎_elim (λ old. inv.sent m old) (λ new. (subst S (sym (l.sent m new).0) here, routed.1.sent m new, routed.0.sent m new)) (st.sent m h);
        }
      where
        names_at : (n : ℕ) (y : SiteState) → NowIs w s o.site n y → Names N A y
        names_at n y (NowIs.here e same) = subst (Names N A) same routed.0.names
        names_at n y (NowIs.other e old) = inv.names n y old

        parts_at : (n : ℕ) (y : SiteState) (t : Live) → Has y.live t → NowIs w s o.site n y → (q : ℕ) → Has t.parts q → S q
        parts_at n y t h (NowIs.here e same) = live_now t (rw (← same) at h)
        parts_at n y t h (NowIs.other e old) = inv.parts n y t old h

        kept_at_now : (n : ℕ) → KeptIs w (acted w s x o) s (durable_of o.site) n → KeptRoutes (kept_at (acted w s x o) n)
        kept_at_now n (KeptIs.here e same) = subst KeptRoutes (sym same) kept_now
        kept_at_now n (KeptIs.other e same) = subst KeptRoutes (sym same) (inv.kept n)

  -- ---- a crash or a restart

  quiet_so : (w new : Scene) (s : ℕ) → Quiet catalogue w new s → InvRoutes w → InvRoutes new
  quiet_so w new s q inv = record {
    names = λ n y h. names_at n y (quiet_is catalogue w new s q n y h);
    parts = λ n y t h p. parts_at n y t p (quiet_is catalogue w new s q n y h);
    kept = λ n. record {
      doubts = λ a h. (inv.kept n).doubts a (rw (quiet_kept catalogue w new s q (λ (d : DurableState). d.doubts) q.doubts n) at h);
      decisions = λ a h. (inv.kept n).decisions a (rw (quiet_kept catalogue w new s q (λ (d : DurableState). d.decisions) q.decisions n) at h);
      waiting = λ a h. (inv.kept n).waiting a (rw (quiet_kept catalogue w new s q (λ (d : DurableState). d.decisions) q.decisions n) at h);
    };
    sent = λ m h. inv.sent m (rw q.sent at h);
  }
    where
      names_at : (n : ℕ) (y : SiteState) → QuietIs catalogue w s n y → Names N A y
      names_at n y (QuietIs.here e same) = subst (Names N A) same (start_names s (kept_at w s) (inv.kept s))
      names_at n y (QuietIs.other e old) = inv.names n y old

      parts_at : (n : ℕ) (y : SiteState) (t : Live) → Has y.live t → QuietIs catalogue w s n y → (q : ℕ) → Has t.parts q → S q
      parts_at n y t h (QuietIs.here e same) = no_parts s (kept_at w s) y t same h
      parts_at n y t h (QuietIs.other e old) = inv.parts n y t old h

  routes_beside : Beside catalogue (Known catalogue) InvRoutes
  routes_beside = record {
    starts = starts_so;
    acts = λ w s x given up a known inv. acts_so w s x given up a known inv;
    quiet = λ w new s q known inv. quiet_so w new s q inv;
  }

  pub routes_last : Lasts catalogue (With (Known catalogue) InvRoutes)
  routes_last = with_last catalogue (Known catalogue) InvRoutes (known_last catalogue) routes_beside

pub messages_go_between_sites : MessagesGoBetweenSites
messages_go_between_sites s k =
    let inv = in_last s.catalogue (With (Known s.catalogue) (InvRoutes s.catalogue k)) (routes_last s.catalogue k) s.events in
    all_of (IsBetweenSites s.catalogue) (run_of s).world.sent (λ m h. let z = inv.more.sent m h in record { from_is = listed m.from z.0; to_is = listed m.to z.1 })
  where
    listed : (q : ℕ) → Has (sites_of s.catalogue) q → has (sites_of s.catalogue) q ≡ true
    listed q h = any_of (λ (m : ℕ). m == q) (sites_of s.catalogue) q h (eq_self q)
