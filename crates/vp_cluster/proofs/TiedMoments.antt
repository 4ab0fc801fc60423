-- Nodes that do what one moment brings stay tied to it.
use Rattle.std.proofs.Common.{◌≡◌, ◌≢◌, ◌∙◌, ap, sym, subst, ℕ, ◌+◌, ◌-◌, ◌^◌, ◌==◌, cond, true, false, arith, List, ◌∷◌, [], ◌++◌, map, refl, ⊎_elim}
use Rattle.std.specs.Prelude.{Option, Some, None, is_some, option_map, option_and_then, flat_map}
use Rattle.std.specs.Option.{option_map_or}
use Rattle.std.proofs.lemmas.Bool.Decides.{nat_tests}
use Rattle.std.proofs.lemmas.List.{map-append}
use Rattle.std.proofs.lemmas.List.Sums.{fold-append}
use Rattle.vp_catalog.specs.Document.{IsCatalogue}
use Rattle.vp_model.specs.Types.{LogRecord, Event, Sent, Effects}
use Rattle.vp_model.specs.Types.event
use Rattle.vp_model.specs.Words.{value_at}
use Rattle.vp_model.specs.Catalogue.{Catalogue, sites_of}
use Rattle.vp_model.specs.Durable.{DurableState, apply_all}
use Rattle.vp_model.specs.Site.{SiteState, Stepped}
use Rattle.vp_model.specs.Step.{step, start, durable_of}
use Rattle.vp_model.specs.Told.{is_step}
use Rattle.vp_model.specs.World.{Place, Moment, place_of, site_of, after_step, restart_place}
use Rattle.vp_laws.proofs.Lists.Members.{Has, has_right}
use Rattle.vp_laws.proofs.Lists.Views.{same_site}
use Rattle.vp_laws.proofs.Worlds.Scenes.{place-id}
use Rattle.vp_laws.proofs.Table.Views.{local-step}
use Rattle.vp_laws.proofs.Table.Durable.{step-folds}
use Rattle.vp_runs.specs.Keeping.{durable_in, kept_with}
use Rattle.vp_runs.specs.Runs.{start_node, after_turn}
use Rattle.vp_runs.specs.Turns.{Turn, step_turn, message_datagram}
use Rattle.vp_runs.specs.Kept.{with_life, kept_after, kept_in as batches_in}
use Rattle.vp_runs.proofs.Happened.{Leaves, LeavesIt, LeavesOthers, Acts, put_down, RestartEffect, IsPlain, Effect, happened}
use Rattle.vp_runs.proofs.Folds.{folds_on}
use Rattle.vp_node.specs.declared.turned.TurnEffects.{TurnEffects}
use Rattle.vp_world.specs.Asked.{Asked, life_start, restart_asked}
use Rattle.vp_world.specs.Places.{Did}
use Rattle.vp_world.specs.Steps.{asked_of, DoesEvent}
use Rattle.vp_cluster.specs.Letter.{Letter, as_received}
use Rattle.vp_cluster.specs.Letters.{sent_from, letter_of, letter_for}
use Rattle.vp_cluster.specs.Hosts.{HostValue, IsAt, node_at, turn_at, Takes, Crashes, Restarts}
use Rattle.vp_cluster.specs.Ports.{host_at, ChangesOf}
use Rattle.vp_cluster.specs.Nodes.{NodesValue, Comes, Posts, ChangesHost, Does}
use Rattle.vp_cluster.specs.Clusters.{HasSite, AreTied}
use Rattle.vp_cluster.proofs.TiedLetters.{ports_differ, Brings, posted}
use Rattle.vp_cluster.proofs.Lent.{none_lent}
use Rattle.vp_cluster.proofs.Acting.{Facts, Folds}
use Rattle.vp_cluster.proofs.Acting as acting

-- a place that starts, or can't
spent_none : (catalogue : Catalogue) (place : Place) → place.durable.life ≡ 2 ^ 32 - 1 → life_start catalogue place.id place.durable ≡ None
spent_none catalogue place spent = let last : (place.durable.life == 2 ^ 32 - 1) ≡ true = grind (arith, nat_tests, spent) in rw last refl

left_some : (catalogue : Catalogue) (place : Place) → place.durable.life ≢ 2 ^ 32 - 1 → life_start catalogue place.id place.durable ≡ Some (start catalogue place.id place.durable)
left_some catalogue place left = let more : (place.durable.life == 2 ^ 32 - 1) ≡ false = grind (arith, nat_tests, left) in rw more refl

module _ (catalogue : Catalogue) (m : Moment) (moments : List Moment) (old new : NodesValue) where
  abbrev pub Before : ℕ → ℕ → Type 0
  Before = HasSite catalogue moments m.before old

  abbrev pub After : ℕ → ℕ → Type 0
  After = HasSite catalogue (moments ++ m ∷ []) m.after new

  abbrev batches : ℕ → List (List LogRecord)
  batches id = batches_in catalogue id moments

  more_batches : (id : ℕ) → batches_in catalogue id (moments ++ m ∷ []) ≡ kept_after catalogue id m (batches id)
  more_batches id = fold-append (λ (batches : List (List LogRecord)) (m : Moment). kept_after catalogue id m batches) (with_life 1 []) moments (m ∷ [])

  -- ---- one site

  turns : (id port : ℕ) (place : Place) (log : List (List LogRecord) → List (List LogRecord)) → Leaves catalogue m id (Some place) log → (host : HostValue) → host_at port new.hosts ≡ Some host → host.id ≡ id → IsAt (log (batches id)) place.up host → After id port
  turns id port place log l host there id_is at = record {
    place = place;
    place_is = l.place_is;
    host = host;
    host_is = there;
    id_is = id_is;
    at = subst (λ (b : List (List LogRecord)). IsAt b place.up host) (sym (more_batches id ∙ l.log_is (batches id))) at;
  }

  stays : (id port : ℕ) → Before id port → LeavesIt catalogue m id → host_at port new.hosts ≡ host_at port old.hosts → After id port
  stays id port h l same = turns id port h.place (λ b. b) (record { place_is = l.place_is ∙ h.place_is; log_is = l.log_is }) h.host (same ∙ h.host_is) h.id_is h.at

  pub folds_now : Effect catalogue m → (id port : ℕ) → Before id port → Has (sites_of catalogue) id → Folds catalogue moments m.before → (place : Place) → place_of id m.after.places ≡ Some place
      → durable_in catalogue id (batches_in catalogue id (moments ++ m ∷ [])) ≡ place.durable
  folds_now e id port h listed folds place now =
      let (next, there, done) = happened catalogue m id h.place h.place_is (batches id) e in
      let same : next ≡ place = (let z = sym there ∙ now in cc) in
      ap (durable_in catalogue id) (more_batches id)
      ∙ folds_on catalogue id m.line.event m.before h.place next (batches id) (kept_after catalogue id m (batches id)) done (folds id h.place h.place_is listed)
      ∙ ap (λ (p : Place). p.durable) same

  -- ---- a change of the host of a site

  module _ (k : IsCatalogue catalogue) (s : ℕ) (does : HostValue → HostValue → Type 0) (changes : ChangesOf catalogue s does old.hosts new.hosts) where
    others_stay : (id port : ℕ) → value_at id catalogue.sites ≡ Some port → id ≢ s → host_at port new.hosts ≡ host_at port old.hosts
    others_stay id port at n = go (value_at s catalogue.sites) refl
      where
        go : (o : Option ℕ) → value_at s catalogue.sites ≡ o → host_at port new.hosts ≡ host_at port old.hosts
        go None none = ap (host_at port) (changes.nowhere none)
        go (Some q) there = (changes.there q there).others port (ports_differ catalogue k id s port q at there n)

    -- this one is the site itself, or another one
    pub changed : LeavesOthers catalogue m s → ((id port : ℕ) → value_at id catalogue.sites ≡ Some port → Before id port)
        → ((port : ℕ) (h : Before s port) (host : HostValue) → host_at port new.hosts ≡ Some host → does h.host host → After s port)
        → (id port : ℕ) → value_at id catalogue.sites ≡ Some port → After id port
    changed others tied own id port at =
        ⊎_elim
        (λ (same : id ≡ s).
        let there : value_at s catalogue.sites ≡ Some port = ap (λ (id : ℕ). value_at id catalogue.sites) (sym same) ∙ at in
        let h = tied s port there in
        let c = (changes.there port there).there h.host h.host_is in
        subst (λ (id : ℕ). After id port) (sym same) (own port h c.0 c.1 c.2))
        (λ (n : id ≢ s). stays id port (tied id port at) (others id n) (others_stay id port at n))
        (same_site id s)

module _ (catalogue : Catalogue) (k : IsCatalogue catalogue) (m : Moment) (moments : List Moment) (old new : NodesValue) (facts : Facts catalogue m) (tied : AreTied catalogue moments m.before old) (folds : Folds catalogue moments m.before)
    (does : DoesEvent Does catalogue m.line.event m.before old new) where
  abbrev Tied : Type 0
  Tied = AreTied catalogue (moments ++ m ∷ []) m.after new

  abbrev Sites : Type 0
  Sites = (id port : ℕ) → value_at id catalogue.sites ≡ Some port → After catalogue m moments old new id port

  abbrev log : ℕ → List (List LogRecord)
  log id = batches_in catalogue id moments

  listed : (id port : ℕ) → value_at id catalogue.sites ≡ Some port → Has (sites_of catalogue) id
  listed id port at = facts.views.known id (tied.sites id port at).place (tied.sites id port at).place_is

  abbrev Done : Option Asked → Type 0
  Done o = Did Does o old new

  -- if nothing is asked for, nothing is done
  nothing_done : asked_of catalogue m.line.event m.before ≡ None → new ≡ old
  nothing_done none = subst Done none does

  letters_stay : m.after.sent ≡ m.before.sent → new.letters ≡ old.letters → new.letters ≡ map (letter_for catalogue) m.after.sent
  letters_stay sent same = same ∙ tied.letters ∙ ap (map (letter_for catalogue)) (sym sent)

  tied_so : new.catalogue ≡ old.catalogue → Sites → new.letters ≡ map (letter_for catalogue) m.after.sent → Tied
  tied_so same sites letters = record { catalogue_is = same ∙ tied.catalogue_is; sites = sites; letters = letters }

  -- the same if nothing is done
  tied_still : new ≡ old → Sites → m.after.sent ≡ m.before.sent → Tied
  tied_still same sites sent = tied_so (ap (λ (nodes : NodesValue). nodes.catalogue) same) sites (letters_stay sent (ap (λ (nodes : NodesValue). nodes.letters) same))

  -- only the host of this site may change, and it doesn't
  unchanged : new ≡ old → (s : ℕ) → ChangesOf catalogue s (λ h host. host ≡ h) old.hosts new.hosts
  unchanged same s = record { there = λ port e. record { there = λ host found. (host, ap (host_at port) hosts ∙ found, refl); others = λ other differs. ap (host_at other) hosts }; nowhere = λ none. hosts }
    where
      hosts : new.hosts ≡ old.hosts
      hosts = ap (λ (nodes : NodesValue). nodes.hosts) same

  -- ---- a step

  module _ (s : ℕ) (a : Acts catalogue m s) (others : LeavesOthers catalogue m s) where
    abbrev effects : Effects
    effects = (step catalogue a.x a.given).effects

    abbrev taken : Turn
    taken = step_turn catalogue a.x.id (step catalogue a.x a.given)

    abbrev letter : (letter : Letter) × (letter_of catalogue old.letters m.line.event ≡ Some letter) × Brings catalogue k s a.given letter
    letter = acting.letter catalogue k m moments old facts tied s a

    posts : Posts m.line.event a.x old new
    posts = subst Done (acting.lent catalogue k m moments old facts tied s a) does

    comes : Comes letter.0 a.x old new
    comes =
        let same : posts.letter ≡ letter.0 = (let z = sym posts.letter_is ∙ ap (λ (c : Catalogue). letter_of c old.letters m.line.event) tied.catalogue_is ∙ letter.1 in cc) in
        subst (λ (letter : Letter). Comes letter a.x old new) same posts.comes

    abbrev turn_effects : TurnEffects
    turn_effects = comes.1

    abbrev own : HasSite catalogue moments m.before old s letter.0.to
    own = acting.own catalogue k m moments old facts tied s a

    is_id : a.x.id ≡ s
    is_id = acting.is_id catalogue k m moments old facts tied s a

    host_now : (after : HostValue) × (host_at letter.0.to new.hosts ≡ Some after) × Takes old.catalogue (as_received letter.0) a.x own.host after comes.0 turn_effects
    host_now = comes.2.there own.host own.host_is

    turn_is : turn_at old.catalogue a.x (as_received letter.0) ≡ taken
    turn_is = acting.turn_is catalogue k m moments old facts tied s a

    done : IsAt (after_turn (node_at a.x (log s)) taken).batches (Some taken.site) host_now.0
    done =
        let was = subst (λ (up : Option SiteState). IsAt (log s) up own.host) (acting.up_is catalogue k m moments old facts tied s a) own.at in
        subst (λ (turn : Turn). IsAt (after_turn (node_at a.x (log s)) turn).batches (Some turn.site) host_now.0) turn_is (host_now.2.up (log s) was)

    messages_are : turn_effects.effects.messages ≡ effects.messages
    messages_are =
        let stepped = host_now.2.stepped a.given (acting.comes catalogue k m moments old facts tied s a) in
        ap (λ (o : Stepped). o.effects.messages) stepped ∙ ap (λ (c : Catalogue). (step c a.x a.given).effects.messages) tied.catalogue_is

    left : (after_step (step catalogue a.x a.given) own.place).durable ≡ durable_of (step catalogue a.x a.given).site
    left = ap (apply_all effects.records) (acting.durable_is catalogue k m moments old facts tied s a) ∙ step-folds catalogue a.x a.given

    own_now : HasSite catalogue (moments ++ m ∷ []) m.after new s letter.0.to
    own_now =
        let place = after_step (step catalogue a.x a.given) own.place in
        turns catalogue m moments old new s letter.0.to place (kept_with place.durable effects.records) (a.here own.place own.place_is) host_now.0 host_now.1 (host_now.2.stays.same_id ∙ own.id_is)
        (subst (λ (d : DurableState). IsAt (kept_with d effects.records (log s)) place.up host_now.0) (sym left) done)

    site_now : (id port : ℕ) → value_at id catalogue.sites ≡ Some port → HasSite catalogue (moments ++ m ∷ []) m.after new id port
    site_now id port at =
        ⊎_elim
        (λ (same : id ≡ s).
        let there : value_at s catalogue.sites ≡ Some port = ap (λ (id : ℕ). value_at id catalogue.sites) (sym same) ∙ at in
        let to : letter.0.to ≡ port = (let z = sym letter.2.to_is ∙ there in cc) in
        subst (λ (id : ℕ). HasSite catalogue (moments ++ m ∷ []) m.after new id port) (sym same) (subst (HasSite catalogue (moments ++ m ∷ []) m.after new s) to own_now))
        (λ (n : id ≢ s). stays catalogue m moments old new id port (tied.sites id port at) (others id n) (comes.2.others port (ports_differ catalogue k id s port letter.0.to at letter.2.to_is n)))
        (same_site id s)

    -- each message is from this site to one of the catalogue
    from_here : (sent : Sent) → Has effects.messages sent → (sent.from ≡ s) × Has (sites_of catalogue) sent.to
    from_here sent h =
        let local = local-step catalogue a.x a.given (facts.views.site s a.x a.up).tidy in
        ((local.sent sent h).0 ∙ is_id, facts.routed sent (subst (λ (all : List Sent). Has all sent) (sym a.sent_is) (has_right m.before.sent effects.messages sent h)))

    letters_more : map (sent_from letter.0.to) (flat_map (message_datagram old.catalogue) turn_effects.effects.messages) ≡ map (letter_for catalogue) effects.messages
    letters_more =
        ap (λ (messages : List Sent). map (sent_from letter.0.to) (flat_map (message_datagram old.catalogue) messages)) messages_are
        ∙ ap (λ (c : Catalogue). map (sent_from letter.0.to) (flat_map (message_datagram c) effects.messages)) tied.catalogue_is
        ∙ posted catalogue k s letter.0.to letter.2.to_is effects.messages from_here

    letters_now : new.letters ≡ map (letter_for catalogue) m.after.sent
    letters_now =
        comes.3 ∙ ap (λ (letters : List Letter). old.letters ++ letters) letters_more
        ∙ ap (λ (letters : List Letter). letters ++ map (letter_for catalogue) effects.messages) tied.letters
        ∙ sym (map-append (letter_for catalogue) m.before.sent effects.messages)
        ∙ ap (map (letter_for catalogue)) (sym a.sent_is)

    acted : Tied
    acted = tied_so posts.same_catalogue site_now letters_now

  -- ---- a crash

  module _ (s : ℕ) (is : m.line.event ≡ event.Crash s) (sent : m.after.sent ≡ m.before.sent) (own : (place : Place) → place_of s m.before.places ≡ Some place → Leaves catalogue m s (Some (put_down place)) (λ b. b)) (others : LeavesOthers catalogue m s) where
    crash_asked : asked_of catalogue m.line.event m.before ≡ option_map (λ _. Asked.crashes s) (site_of m.before s)
    crash_asked = ap (λ (e : Event). asked_of catalogue e m.before) is

    goes_down : (port : ℕ) (h : HasSite catalogue moments m.before old s port) (host : HostValue) → host_at port new.hosts ≡ Some host → host.id ≡ h.host.id → IsAt (log s) None host → HasSite catalogue (moments ++ m ∷ []) m.after new s port
    goes_down port h host there id at = turns catalogue m moments old new s port (put_down h.place) (λ b. b) (own h.place h.place_is) host there (id ∙ h.id_is) at

    -- a site that is down stays down
    down_already : site_of m.before s ≡ None → Tied
    down_already none =
        let same : new ≡ old = nothing_done (crash_asked ∙ ap (option_map (λ _. Asked.crashes s)) none) in
        tied_still same
        (changed catalogue m moments old new k s (λ h host. host ≡ h) (unchanged same s) others tied.sites
        (λ port h host there is. goes_down port h host there (ap (λ (host : HostValue). host.id) is)
        (subst (λ (host : HostValue). IsAt (log s) None host) (sym is)
        (subst (λ (up : Option SiteState). IsAt (log s) up h.host) (ap (option_and_then (λ (place : Place). place.up)) (sym h.place_is) ∙ none) h.at))))
        sent

    crashes_now : (x : SiteState) → site_of m.before s ≡ Some x → Tied
    crashes_now x up =
        let done : ChangesHost s (Crashes old.catalogue) old new = subst Done (crash_asked ∙ ap (option_map (λ _. Asked.crashes s)) up) does in
        let changes = subst (λ (c : Catalogue). ChangesOf c s (Crashes c) old.hosts new.hosts) tied.catalogue_is done.hosts in
        tied_so done.same_catalogue
        (changed catalogue m moments old new k s (Crashes catalogue) changes others tied.sites (λ port h host there crashes. goes_down port h host there crashes.stays.same_id (crashes.down (log s) h.place.up h.at)))
        (letters_stay sent done.letters_stay)

    crashed : Tied
    crashed = go (site_of m.before s) refl
      where
        go : (o : Option SiteState) → site_of m.before s ≡ o → Tied
        go None none = down_already none
        go (Some x) up = crashes_now x up

  -- ---- a restart

  module _ (s port : ℕ) (h : HasSite catalogue moments m.before old s port) (host : HostValue) (there : host_at port new.hosts ≡ Some host) where
    it : host.id ≡ h.host.id → LeavesIt catalogue m s → IsAt (log s) h.place.up host → HasSite catalogue (moments ++ m ∷ []) m.after new s port
    it id l at = turns catalogue m moments old new s port h.place (λ b. b) (record { place_is = l.place_is ∙ h.place_is; log_is = l.log_is }) host there (id ∙ h.id_is) at

    -- a site that is up stays up
    up_already : (x : SiteState) → h.place.up ≡ Some x → host ≡ h.host → RestartEffect catalogue m s h.place → HasSite catalogue (moments ++ m ∷ []) m.after new s port
    up_already x u same (RestartEffect.is_up y v l) = it (ap (λ (host : HostValue). host.id) same) l (subst (λ (host : HostValue). IsAt (log s) h.place.up host) (sym same) h.at)
    up_already x u same (RestartEffect.spent down life l) = absurd (let z = sym u ∙ down in cc)
    up_already x u same (RestartEffect.starts down left l) = absurd (let z = sym u ∙ down in cc)

    module _ (restarts : Restarts catalogue (life_start catalogue h.place.id h.place.durable) h.host host) where
      folded : durable_in catalogue h.host.id (log s) ≡ h.place.durable
      folded = ap (λ (id : ℕ). durable_in catalogue id (log s)) h.id_is ∙ folds s h.place h.place_is (facts.views.known s h.place h.place_is)

      at_now : (site : Option SiteState) → life_start catalogue h.place.id h.place.durable ≡ site → IsAt (option_map_or (λ _. (start_node catalogue h.host.id (log s)).batches) site (log s)) site host
      at_now site is = subst (λ (site : Option SiteState). IsAt (option_map_or (λ _. (start_node catalogue h.host.id (log s)).batches) site (log s)) site host) is (restarts.at (log s) h.place.up h.at)

      begun : IsAt (start_node catalogue h.host.id (log s)).batches (Some (start catalogue h.place.id h.place.durable)) host → IsAt (with_life (h.place.durable.life + 1) (log s)) (restart_place catalogue h.place).up host
      begun at = subst (λ (d : DurableState). IsAt (with_life (d.life + 1) (log s)) (Some (start catalogue h.place.id h.place.durable)) host) folded at

      restarted_so : h.place.up ≡ None → RestartEffect catalogue m s h.place → HasSite catalogue (moments ++ m ∷ []) m.after new s port
      restarted_so none (RestartEffect.is_up x u l) = absurd (let z = sym u ∙ none in cc)
      restarted_so none (RestartEffect.spent down life l) = it restarts.stays.same_id l (subst (λ (up : Option SiteState). IsAt (log s) up host) (sym down) (at_now None (spent_none catalogue h.place life)))
      restarted_so none (RestartEffect.starts down left l) =
          turns catalogue m moments old new s port (restart_place catalogue h.place) (with_life (h.place.durable.life + 1)) l host there (restarts.stays.same_id ∙ h.id_is)
          (begun (at_now (Some (start catalogue h.place.id h.place.durable)) (left_some catalogue h.place left)))

  module _ (s : ℕ) (is : m.line.event ≡ event.Restart s) (sent : m.after.sent ≡ m.before.sent) (own : (place : Place) → place_of s m.before.places ≡ Some place → RestartEffect catalogue m s place) (others : LeavesOthers catalogue m s) where
    restart_is_asked : (found : Option Place) → place_of s m.before.places ≡ found → asked_of catalogue m.line.event m.before ≡ option_and_then (restart_asked catalogue) found
    restart_is_asked found at = ap (λ (e : Event). asked_of catalogue e m.before) is ∙ ap (option_and_then (restart_asked catalogue)) at

    -- nothing is asked for
    restarts_nothing : new ≡ old → ((port : ℕ) (h : HasSite catalogue moments m.before old s port) → (x : SiteState) × (h.place.up ≡ Some x)) → Tied
    restarts_nothing same up =
        tied_still same
        (changed catalogue m moments old new k s (λ h host. host ≡ h) (unchanged same s) others tied.sites
        (λ port h host there is. up_already s port h host there (up port h).0 (up port h).1 is (own h.place h.place_is)))
        sent

    -- a site that is down starts
    restarts_now : (place : Place) → place_of s m.before.places ≡ Some place → place.up ≡ None → ChangesHost place.id (Restarts old.catalogue (life_start catalogue place.id place.durable)) old new → Tied
    restarts_now place at down done =
        let hosts = subst (λ (c : Catalogue). ChangesOf c place.id (Restarts c (life_start catalogue place.id place.durable)) old.hosts new.hosts) tied.catalogue_is done.hosts in
        let changes = subst (λ (id : ℕ). ChangesOf catalogue id (Restarts catalogue (life_start catalogue place.id place.durable)) old.hosts new.hosts) (place-id s m.before.places place at) hosts in
        tied_so done.same_catalogue
        (changed catalogue m moments old new k s (Restarts catalogue (life_start catalogue place.id place.durable)) changes others tied.sites
        (λ port h host there restarts.
        let same : place ≡ h.place = (let z = sym at ∙ h.place_is in cc) in
        restarted_so s port h host there (subst (λ (place : Place). Restarts catalogue (life_start catalogue place.id place.durable) h.host host) same restarts)
        (ap (λ (place : Place). place.up) (sym same) ∙ down) (own h.place h.place_is)))
        (letters_stay sent done.letters_stay)

    restarted : Tied
    restarted = go (place_of s m.before.places) refl
      where
        by_up : (place : Place) → place_of s m.before.places ≡ Some place → (up : Option SiteState) → place.up ≡ up → Done (cond (is_some up) None (Some (Asked.restarts place.id (life_start catalogue place.id place.durable)))) → Tied
        by_up place at None down does_so = restarts_now place at down does_so
        by_up place at (Some x) up does_so = restarts_nothing does_so (λ port h. let same : h.place ≡ place = (let z = sym h.place_is ∙ at in cc) in (x, ap (λ (place : Place). place.up) same ∙ up))

        go : (found : Option Place) → place_of s m.before.places ≡ found → Tied
        go None at = restarts_nothing (nothing_done (restart_is_asked None at)) (λ port h. absurd (let z = sym h.place_is ∙ at in cc))
        go (Some place) at = by_up place at place.up refl (subst Done (restart_is_asked (Some place) at) does)

  -- ---- any moment

  quiet : IsPlain m.line.event → is_step m.line.shown ≡ false → m.after.sent ≡ m.before.sent → ((id : ℕ) → LeavesIt catalogue m id) → Tied
  quiet plain none sent all =
      let same : new ≡ old = nothing_done (none_lent catalogue m.before m.line.event plain (ap (λ (n : Moment). is_step n.line.shown) (sym facts.next_is) ∙ none)) in
      tied_still same (λ id port at. stays catalogue m moments old new id port (tied.sites id port at) (all id) (ap (host_at port) (ap (λ (nodes : NodesValue). nodes.hosts) same))) sent

  pub tied_on : Effect catalogue m → Tied
  tied_on (Effect.acts s a others) = acted s a others
  tied_on (Effect.crashes s is sent own others) = crashed s is sent own others
  tied_on (Effect.restarts s is sent own others) = restarted s is sent own others
  tied_on (Effect.stands plain none sent all) = quiet plain none sent all
