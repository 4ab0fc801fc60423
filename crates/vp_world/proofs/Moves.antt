-- The moves of the definitions, as the code makes them.
use Rattle.std.proofs.Common.{◌≡◌, ◌≤◌, ◌==◌, ◌+◌, ◌-◌, ◌^◌, ◌++◌, ℕ, Bool, true, false, if◌then◌else◌, is_some, List, [], ◌∷◌, length, find, Option, Some, None, option_map, option_and_then, option_to_list, Result, Ok, Err, OnOk, IfOk, refl, sym, ap, subst, ◌∙◌, arith}
use Rattle.std.specs.Option.{option_map_or}
use Rattle.std.proofs.lemmas.Bool.Decides.{nat_tests}
use Rattle.std.specs.List.{list_any}
use Rattle.vp_model.specs.Types.{ViewId, View, Sent, Input, Shown}
use Rattle.vp_model.specs.Types.event
use Rattle.vp_model.specs.Types.input
use Rattle.vp_model.specs.Types.shown
use Rattle.vp_model.specs.Words.{same_view, change_first}
use Rattle.vp_model.specs.Catalogue.{Catalogue}
use Rattle.vp_model.specs.Site.{SiteState}
use Rattle.vp_model.specs.Step.{step}
use Rattle.vp_model.specs.World.{Place, WorldState, Moved, shows, place_of, site_of, is_cut, change_place, fixed_view, after_step, site_step, at_site, deliver, crash, restart_place, restart_from, restart, happens, message_at, same_pair}
use Rattle.vp_world.specs.declared.place.PlaceEffects.{PlaceEffects}
use Rattle.vp_world.specs.declared.end.WorldEnd.{WorldEnd}
use Rattle.vp_mail.specs.Posted.{Posted, message_in}
use Rattle.vp_world.specs.Limits.{Does, too_many, with_line}
use Rattle.vp_world.specs.Places.{newly_agreed, place_effects, site_in, stepped_place, crashed_place, restarted_place, restart_line}
use Rattle.vp_world.specs.Steps.{takes_in, line_of}

-- changes of the first item that passes a test

module _ {A : Type 0} (test : A → Bool) where
  -- it matters only what is done to that item
  pub changed_to : (f g : A → A) (x : A) (xs : List A) → find test xs ≡ Some x → f x ≡ g x → change_first test f xs ≡ change_first test g xs
  changed_to f g x [] at e = refl
  changed_to f g x (y ∷ ys) at e = let rest = changed_to f g x ys in grind (arith, nat_tests, at, e, rest)

  pub changed_no : (f : A → A) (xs : List A) → find test xs ≡ None → change_first test f xs ≡ xs
  changed_no f [] at = refl
  changed_no f (y ∷ ys) at = let rest = changed_no f ys in grind (arith, nat_tests, at, rest)

  pub changed_back : (f : A → A) (x : A) (xs : List A) → find test xs ≡ Some x → f x ≡ x → change_first test f xs ≡ xs
  changed_back f x [] at e = refl
  changed_back f x (y ∷ ys) at e = let rest = changed_back f x ys in grind (arith, nat_tests, at, e, rest)

  pub found_passes : (x : A) (xs : List A) → find test xs ≡ Some x → test x ≡ true
  found_passes x [] at = cc
  found_passes x (y ∷ ys) at = let rest = found_passes x ys in grind (arith, nat_tests, at, rest)

-- a step

agreed_is : (inviting : Option (ViewId × List ℕ)) (held : Option View) → option_to_list (newly_agreed (option_map (λ i. i.0) inviting) held) ≡ fixed_view inviting held
agreed_is None held = refl
agreed_is (Some i) None = refl
agreed_is (Some i) (Some v) =
    elim (same_view v.id i.0) as (λ b. option_to_list (if b then Some v else None) ≡ (if b then v ∷ [] else [])) [ true ↦ refl | false ↦ refl ]

module _ (catalogue : Catalogue) (id : ℕ) (given : Input) where
  stepped_where : (site : SiteState) (places : List Place) (found : Option Place) → place_of id places ≡ found → option_and_then (λ place. place.up) found ≡ Some site → change_place id (stepped_place catalogue given) places ≡ change_place id (after_step (step catalogue site given)) places
  stepped_where site places None at e = cc
  stepped_where site places (Some p) at e =
      changed_to (λ (q : Place). q.id == id) (stepped_place catalogue given) (after_step (step catalogue site given)) p places at (ap (λ up. option_map_or (λ x. after_step (step catalogue x given) p) up p) e)

  idle_where : (places : List Place) (found : Option Place) → place_of id places ≡ found → option_and_then (λ place. place.up) found ≡ None → change_place id (stepped_place catalogue given) places ≡ places
  idle_where places None at e = changed_no (λ (q : Place). q.id == id) (stepped_place catalogue given) places at
  idle_where places (Some p) at e =
      changed_back (λ (q : Place). q.id == id) (stepped_place catalogue given) p places at (ap (λ up. option_map_or (λ x. after_step (step catalogue x given) p) up p) e)

  module _ (w : WorldState) where
    stepped : List Place
    stepped = change_place id (stepped_place catalogue given) w.places

    step_takes : (site : SiteState) → site_of w id ≡ Some site → site_step catalogue id site given w ≡ takes_in (place_effects site (step catalogue site given)) (record w { places = stepped })
    unfolding site_step stepped
    step_takes site up =
        rw (stepped_where site w.places (place_of id w.places) refl up, agreed_is site.inviting (step catalogue site given).site.held) refl

    takes_where : (t : PlaceEffects) (found : Option SiteState) → site_of w id ≡ found → Some t ≡ option_map (λ site. place_effects site (step catalogue site given)) found → option_map_or (λ site. site_step catalogue id site given w) found (shows w (shown.Down id)) ≡ takes_in t (record w { places = stepped })
    takes_where t None up e = cc
    takes_where t (Some site) up e =
        let same : place_effects site (step catalogue site given) ≡ t = cc in
        step_takes site up ∙ ap (λ u. takes_in u (record w { places = stepped })) same

    down_where : (found : Option SiteState) → site_of w id ≡ found → None ≡ option_map (λ site. place_effects site (step catalogue site given)) found → option_map_or (λ site. site_step catalogue id site given w) found (shows w (shown.Down id)) ≡ shows (record w { places = stepped }) (shown.Down id)
    unfolding stepped
    down_where None up e = rw (idle_where w.places (place_of id w.places) refl up) refl
    down_where (Some site) up e = cc

  module _ (w : WorldState) (r : Option PlaceEffects) (old new : List Place) (now : old ≡ w.places) (e : r ≡ option_map (λ site. place_effects site (step catalogue site given)) (site_in id old)) (p : new ≡ change_place id (stepped_place catalogue given) old) where
    at_site_takes : (t : PlaceEffects) → r ≡ Some t → at_site catalogue id given w ≡ takes_in t (record w { places = new })
    unfolding at_site stepped
    at_site_takes t is = rw (p, now) (takes_where w t (site_of w id) refl (sym is ∙ e ∙ ap (λ places. option_map (λ site. place_effects site (step catalogue site given)) (site_in id places)) now))

    at_site_down : r ≡ None → at_site catalogue id given w ≡ shows (record w { places = new }) (shown.Down id)
    unfolding at_site stepped
    at_site_down is = rw (p, now) (down_where w (site_of w id) refl (sym is ∙ e ∙ ap (λ places. option_map (λ site. place_effects site (step catalogue site given)) (site_in id places)) now))

    -- an input comes to a site, which does its step if it is up
    pub at_site_gives : at_site catalogue id given w ≡ line_of id r (record w { places = new })
    at_site_gives = by_result r refl
      where
        by_result : (x : Option PlaceEffects) → r ≡ x → at_site catalogue id given w ≡ line_of id x (record w { places = new })
        by_result None is = at_site_down is
        by_result (Some t) is = at_site_takes t is

-- a delivery

module _ (catalogue : Catalogue) (k : ℕ) (sent : Sent) (w : WorldState) (old : List Place) (now : old ≡ w.places) (up : Bool) (e : up ≡ is_some (site_in sent.to old)) where
  deliver_down : up ≡ false → deliver catalogue k sent w ≡ shows w (shown.Down sent.to)
  unfolding deliver
  deliver_down is = let h : is_some (site_in sent.to w.places) ≡ false = rw (← now) (sym e ∙ is) in grind (arith, nat_tests, h)

  module _ (parted : Bool) (c : parted ≡ list_any (same_pair sent.from sent.to) w.cuts) (is : up ≡ true) where
    deliver_parted : parted ≡ true → deliver catalogue k sent w ≡ shows w (shown.Parted sent.from sent.to)
    unfolding deliver
    deliver_parted cut =
        let h : is_some (site_in sent.to w.places) ≡ true = rw (← now) (sym e ∙ is) in
        let d : is_cut w sent.from sent.to ≡ true = sym c ∙ cut in
        grind (arith, nat_tests, h, d)

    deliver_comes : parted ≡ false → (mail : Posted) → mail ≡ record { sent = w.sent; delivered = w.delivered ++ k ∷ [] } → deliver catalogue k sent w ≡ at_site catalogue sent.to (input.Message sent.from sent.message) (record w { sent = mail.sent; delivered = mail.delivered })
    unfolding deliver at_site
    deliver_comes whole mail m =
        let h : is_some (site_in sent.to w.places) ≡ true = rw (← now) (sym e ∙ is) in
        let d : is_cut w sent.from sent.to ≡ false = sym c ∙ whole in
        rw m (grind (arith, nat_tests, h, d))

module _ (catalogue : Catalogue) (k : ℕ) (w : WorldState) where
  pub no_message : message_at w k ≡ None → happens catalogue (event.Deliver k) w ≡ shows w shown.NoMessage
  unfolding happens
  no_message e = rw e refl

  some_message : (sent : Sent) → message_at w k ≡ Some sent → happens catalogue (event.Deliver k) w ≡ deliver catalogue k sent w
  unfolding happens
  some_message sent e = rw e refl

  module _ (sent : Sent) (at : message_at w k ≡ Some sent) (from to : ℕ) (f : from ≡ sent.from) (t : to ≡ sent.to) (up : Bool) (e : up ≡ is_some (site_in to w.places)) where
    here : up ≡ is_some (site_in sent.to w.places)
    here = rw (← t) e

    pub delivers_down : up ≡ false → happens catalogue (event.Deliver k) w ≡ shows w (shown.Down to)
    delivers_down is = rw t (some_message sent at ∙ deliver_down catalogue k sent w w.places refl up here is)

    module _ (parted : Bool) (c : parted ≡ list_any (same_pair from to) w.cuts) (is : up ≡ true) where
      between : parted ≡ list_any (same_pair sent.from sent.to) w.cuts
      between = rw (← f, ← t) c

      pub delivers_parted : parted ≡ true → happens catalogue (event.Deliver k) w ≡ shows w (shown.Parted from to)
      delivers_parted cut = rw (f, t) (some_message sent at ∙ deliver_parted catalogue k sent w w.places refl up here parted between is cut)

      -- what the mail lends is the message that it had
      pub delivers_lent : parted ≡ false → (mail : Posted) → mail ≡ record { sent = w.sent; delivered = w.delivered ++ k ∷ [] } → (lent : Sent) → message_in k mail.sent ≡ Some lent → (given : Input) → given ≡ input.Message lent.from lent.message
          → happens catalogue (event.Deliver k) w ≡ at_site catalogue to given (record w { sent = mail.sent; delivered = mail.delivered })
      delivers_lent whole mail m lent l given i =
          let both : Some lent ≡ Some sent = sym l ∙ ap (λ (p : Posted). message_in k p.sent) m ∙ at in
          let same : lent ≡ sent = cc in
          rw (i, same, t) (some_message sent at ∙ deliver_comes catalogue k sent w w.places refl up here parted between is whole mail m)

-- a crash and a restart

module _ (id : ℕ) (w : WorldState) (old : List Place) (now : old ≡ w.places) where
  pub crash_up : (up : Bool) → up ≡ is_some (site_in id old) → up ≡ true → (new : List Place) → new ≡ change_place id crashed_place old → crash id w ≡ shows (record w { places = new }) shown.Nothing
  unfolding crash
  crash_up up e is new p =
      let h : is_some (site_in id w.places) ≡ true = rw (← now) (sym e ∙ is) in
      rw (p, now) (grind (arith, nat_tests, h))

  pub crash_down : (up : Bool) → up ≡ is_some (site_in id old) → up ≡ false → crash id w ≡ shows w (shown.Down id)
  unfolding crash
  crash_down up e is = let h : is_some (site_in id w.places) ≡ false = rw (← now) (sym e ∙ is) in grind (arith, nat_tests, h)

  module _ (catalogue : Catalogue) where
    -- the place that is found is the one of that number
    restarts_down : (p : Place) → place_of id w.places ≡ Some p → p.up ≡ None → (spent : Bool) → (p.durable.life == 2 ^ 32 - 1) ≡ spent → restart_from catalogue p w ≡ shows (record w { places = change_place id (restarted_place catalogue) w.places }) (restart_line p)
    restarts_down p at u true s =
        let same : restarted_place catalogue p ≡ p = rw (u, s) refl in
        rw (u, s, changed_back (λ (q : Place). q.id == id) (restarted_place catalogue) p w.places at same) refl
    restarts_down p at u false s =
        let named : p.id ≡ id = grind (arith, nat_tests, found_passes (λ (q : Place). q.id == id) p w.places at) in
        let same : restarted_place catalogue p ≡ restart_place catalogue p = rw (u, s) refl in
        let all : change_place id (restarted_place catalogue) w.places ≡ change_place id (restart_place catalogue) w.places = changed_to (λ (q : Place). q.id == id) (restarted_place catalogue) (restart_place catalogue) p w.places at same in
        rw (u, s, all, named) refl

    restarts_at : (p : Place) → place_of id w.places ≡ Some p → (up : Option SiteState) → p.up ≡ up → restart_from catalogue p w ≡ shows (record w { places = change_place id (restarted_place catalogue) w.places }) (restart_line p)
    restarts_at p at (Some site) u =
        let same : restarted_place catalogue p ≡ p = rw u refl in
        rw (u, changed_back (λ (q : Place). q.id == id) (restarted_place catalogue) p w.places at same) refl
    restarts_at p at None u = restarts_down p at u (p.durable.life == 2 ^ 32 - 1) refl

    restarts_where : (found : Option Place) → place_of id w.places ≡ found → option_map_or (λ place. restart_from catalogue place w) found (shows w shown.Nothing) ≡ shows (record w { places = change_place id (restarted_place catalogue) w.places }) (option_map_or restart_line found shown.Nothing)
    restarts_where None at = rw (changed_no (λ (q : Place). q.id == id) (restarted_place catalogue) w.places at) refl
    restarts_where (Some p) at = restarts_at p at p.up refl

    pub restarts_so : (new : List Place) → new ≡ change_place id (restarted_place catalogue) old → restart catalogue id w ≡ shows (record w { places = new }) (option_map_or restart_line (place_of id old) shown.Nothing)
    unfolding restart
    restarts_so new p = rw (p, now) (restarts_where (place_of id w.places) refl)

-- the line of a restart has no messages and no commits
pub restart_sends_none : (found : Option Place) (w : WorldState) → with_line (option_map_or restart_line found shown.Nothing) w ≡ w
restart_sends_none None w = refl
restart_sends_none (Some p) w = by_life (is_some p.up) (p.durable.life == 2 ^ 32 - 1)
  where
    by_life : (up spent : Bool) → with_line (if up then shown.Up p.id else (if spent then shown.LivesSpent (2 ^ 32 - 1) else shown.Life (p.durable.life + 1))) w ≡ w
    by_life true spent = refl
    by_life false true = refl
    by_life false false = refl

-- what a move does

few_is_within : (sent : List Sent) → length sent ≤ 2000000 → too_many sent ≡ None
few_is_within sent few = grind (arith, nat_tests, few)

pub does_along : (m n : Moved) (new : WorldState) (r : Result Shown WorldEnd) → m ≡ n → Does n new r → Does m new r
does_along m n new r e h = subst (λ (x : Moved). Does x new r) (sym e) h

pub does_shown : (m : Moved) (new : WorldState) (line : Shown) → length (with_line line new).sent ≤ 2000000 → m ≡ shows (with_line line new) line → Does m new (Ok line)
does_shown m new line few e = does_along m (shows (with_line line new) line) new (Ok line) e (refl, few_is_within (with_line line new).sent few)

-- two clauses of a result that is Ok
pub both_ok : {T E A : Type 0} (r : Result T E) (B P : T → Type 0) → ((x : T) → A → B x → P x) → OnOk r A → IfOk r B → IfOk r P
both_ok (Ok x) B P f a b = f x a b
both_ok (Err e) B P f a b = tt
