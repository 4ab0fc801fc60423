-- Where no turn of a merge can be done, no schedule that fits goes past it.
use Rattle.std.proofs.Common.{◌≡◌, ◌≢◌, ◌∙◌, ap, sym, subst, ℕ, ◌-◌, zero, suc, false, List, ◌∷◌, [], ◌++◌, refl, append-nil, append_assoc, ⊎_elim}
use Rattle.std.proofs.lemmas.List.{append_cancel_left}
use Rattle.vp_model.specs.Types.{Event, Input, Sent, Message}
use Rattle.vp_model.specs.Types.input
use Rattle.vp_model.specs.Catalogue.{Catalogue, sites_of}
use Rattle.vp_model.specs.World.{Place, Moment, Run, next, moment, one_step, run_of}
use Rattle.vp_laws.proofs.Lists.Members.{Has}
use Rattle.vp_laws.proofs.Lists.Views.{same_site}
use Rattle.vp_laws.proofs.Moves.LocalViews.{letter}
use Rattle.vp_laws.proofs.Worlds.Occurs.{run-keeps}
use Rattle.vp_runs.specs.declared.arrival.Arrival.{Arrival}
use Rattle.vp_runs.specs.declared.arrival.Arrival.TheVariants.{Bad, Stray, Stops, Gives}
use Rattle.vp_fitting.specs.Asked.{Due, asks}
use Rattle.vp_fitting.specs.Fitting.{Deed, again_then, asked_then, asked_from, deeds_at, deeds_of}
use Rattle.vp_fitting.specs.Merged.{can_take, is_ready}
use Rattle.vp_fitting.proofs.Deeds.{IsHeard, Does, Did, did}
use Rattle.vp_fitting.proofs.Alone.{Alone, alone, deeds_on, sent-more, deeds_on-append, first_alone, deeds-more, AgreesIn, agrees_starts, step_agrees}
use Rattle.vp_fitting.proofs.Messages.{WaitsFor, asked_by, waits_for}

-- the one is a beginning of the other
abbrev pub Starts : List Deed → List Deed → Type 0
Starts front all = (rest : List Deed) × (front ++ rest ≡ all)

-- what a site is asked next: nothing, or to take a message that is none of these
pub data Halts (all : List Sent) (s : ℕ) : List Deed → Type 0 where
  ends : Halts all s []
  waits : (from : ℕ) (m : Message) (more : List Deed) → ((x : Sent) → Has all x → x ≢ letter from s m) → Halts all s (Deed.takes (input.Message from m) ∷ more)

-- each site is asked so much, then it halts; and in doing that it sends nothing but these messages
pub record Holds (catalogue : Catalogue) (all : List Sent) (asked bound : ℕ → List Deed) : Type 0 where
  pub halts : (id : ℕ) → Has (sites_of catalogue) id → (tail : List Deed) × (asked id ≡ bound id ++ tail) × Halts all id tail
  pub sends : (id : ℕ) → Has (sites_of catalogue) id → (m : Sent) → Has (alone catalogue id (bound id)).sent m → Has all m

module _ (catalogue : Catalogue) (all : List Sent) (asked bound : ℕ → List Deed) (h : Holds catalogue all asked bound) where
  abbrev Fits : Run → Type 0
  Fits run = (id : ℕ) → Has (sites_of catalogue) id → Starts (deeds_of id run.moments) (asked id)

  abbrev Stays : Run → Type 0
  Stays run = (id : ℕ) → Has (sites_of catalogue) id → Starts (deeds_of id run.moments) (bound id)

  -- nothing else is sent
  pub sent_before : (run : Run) → AgreesIn catalogue run → Stays run → (m : Sent) → Has run.world.sent m → Has all m
  sent_before run a stays m has =
      let by = a.sent_by m has in
      let front = stays by.0 by.1 in
      h.sends by.0 by.1 m (subst (λ (deeds : List Deed). Has (alone catalogue by.0 deeds).sent m) front.1 (sent-more catalogue by.0 (deeds_of by.0 run.moments) front.0 m by.2))

  module _ (number : ℕ) (e : Event) (run : Run) (a : AgreesIn catalogue run) where
    abbrev m : Moment
    m = moment number run.world e (next catalogue e run.world)

    abbrev more : List Moment
    more = run.moments ++ m ∷ []

    fits_before : ((id : ℕ) → Has (sites_of catalogue) id → Starts (deeds_of id more) (asked id)) → Fits run
    fits_before fits id l =
        let f = fits id l in
        (deeds_at id m ++ f.0, sym (append_assoc (deeds_of id run.moments) (deeds_at id m) f.0) ∙ ap (λ (deeds : List Deed). deeds ++ f.0) (sym (deeds-more id run.moments m)) ∙ f.1)

    still : (id : ℕ) → deeds_at id m ≡ [] → Starts (deeds_of id run.moments) (bound id) → Starts (deeds_of id more) (bound id)
    still id none front = (front.0, ap (λ (deeds : List Deed). deeds ++ front.0) (deeds-more id run.moments m ∙ ap (λ (more : List Deed). deeds_of id run.moments ++ more) none ∙ append-nil (deeds_of id run.moments)) ∙ front.1)

    module _ (stays : Stays run) (s : ℕ) (old : Place) (d : Deed) (it : Does catalogue m s old d) (listed : Has (sites_of catalogue) s) (rest : List Deed) (fits : (deeds_of s run.moments ++ d ∷ []) ++ rest ≡ asked s) where
      abbrev front : List Deed
      front = deeds_of s run.moments

      halted : (tail : List Deed) → Halts all s tail → d ∷ rest ≡ tail → ⊥
      halted _ Halts.ends e = absurd cc
      halted _ (Halts.waits from message more none) e =
          let same : d ≡ Deed.takes (input.Message from message) = cc in
          let heard : Has run.world.sent (letter from s message) = subst (λ (d : Deed). IsHeard run.world s d) same it.heard in
          none (letter from s message) (sent_before run a stays (letter from s message) heard) refl

      on : (r tail : List Deed) → front ++ r ≡ bound s → asked s ≡ bound s ++ tail → Halts all s tail → Starts (front ++ d ∷ []) (bound s)
      on [] tail b e halts =
          let same : front ++ d ∷ rest ≡ front ++ tail = sym (append_assoc front (d ∷ []) rest) ∙ fits ∙ e ∙ ap (λ (deeds : List Deed). deeds ++ tail) (sym b ∙ append-nil front) in
          absurd (halted tail halts (append_cancel_left front (d ∷ rest) tail same))
      on (c ∷ r) tail b e halts =
          let same : front ++ d ∷ rest ≡ front ++ (c ∷ r ++ tail) = sym (append_assoc front (d ∷ []) rest) ∙ fits ∙ e ∙ ap (λ (deeds : List Deed). deeds ++ tail) (sym b) ∙ append_assoc front (c ∷ r) tail in
          let next_is : d ∷ rest ≡ c ∷ (r ++ tail) = append_cancel_left front (d ∷ rest) (c ∷ r ++ tail) same in
          let one : d ≡ c = cc in
          (r, append_assoc front (d ∷ []) r ∙ ap (λ (d : Deed). front ++ d ∷ r) one ∙ b)

      goes_on : Starts (front ++ d ∷ []) (bound s)
      goes_on = let b = stays s listed in let t = h.halts s listed in on b.0 t.0 b.1 t.1 t.2

    stays_on : Did catalogue m → Stays run → ((id : ℕ) → Has (sites_of catalogue) id → Starts (deeds_of id more) (asked id)) → (id : ℕ) → Has (sites_of catalogue) id → Starts (deeds_of id more) (bound id)
    stays_on (Did.stands places sent none) stays fits id l = still id (none id).0 (stays id l)
    stays_on (Did.does s old d it) stays fits id l = ⊎_elim
        (λ (same : id ≡ s). own same)
        (λ (n : id ≢ s). still id (it.only.others id n).0 (stays id l))
        (same_site id s)
      where
        deeds_are : deeds_of s more ≡ deeds_of s run.moments ++ d ∷ []
        deeds_are = deeds-more s run.moments m ∙ ap (λ (more : List Deed). deeds_of s run.moments ++ more) it.only.deeds

        own : id ≡ s → Starts (deeds_of id more) (bound id)
        own same =
            let listed : Has (sites_of catalogue) s = subst (Has (sites_of catalogue)) same l in
            let f = fits s listed in
            let r = goes_on stays s old d it listed f.0 (ap (λ (deeds : List Deed). deeds ++ f.0) (sym deeds_are) ∙ f.1) in
            subst (λ (id : ℕ). Starts (deeds_of id more) (bound id)) (sym same) (r.0, ap (λ (deeds : List Deed). deeds ++ r.0) deeds_are ∙ r.1)

  pub record Held (run : Run) : Type 0 where
    pub agrees : AgreesIn catalogue run
    pub stays : Fits run → Stays run

  held_step : (number : ℕ) (e : Event) (run : Run) → Held run → Held (one_step catalogue number e run)
  unfolding one_step
  held_step number e run k =
      record {
        agrees = step_agrees catalogue number e run k.agrees;
        stays = λ fits. stays_on number e run k.agrees (did catalogue number e run.world) (k.stays (fits_before number e run k.agrees fits)) fits;
      }

  pub held_last : (events : List Event) → Held (run_of (record { catalogue = catalogue; events = events }))
  held_last events = run-keeps catalogue Held (record { starts = record { agrees = agrees_starts catalogue; stays = λ fits id l. (bound id, refl) }; steps = held_step }) events

-- ---- a site that waits

-- the starts before its next turn
abbrev pub starts_left : ℕ → List Due → List Deed
starts_left life [] = []
starts_left life (d ∷ dues) = again_then (d.life - life) []

again_append : (n : ℕ) (after : List Deed) → again_then n after ≡ again_then n [] ++ after
again_append zero after = refl
again_append (suc n) after = ap (λ (deeds : List Deed). Deed.crashes ∷ Deed.restarts ∷ deeds) (again_append n after)

module _ (catalogue : Catalogue) (id : ℕ) where
  again_sends : (n : ℕ) (a : Alone) → (deeds_on catalogue id (again_then n []) a).sent ≡ a.sent
  again_sends zero a = refl
  again_sends (suc n) a = again_sends n _ ∙ append-nil (a.sent ++ []) ∙ append-nil a.sent

  -- starts send nothing
  pub starts_send : (deeds : List Deed) (life : ℕ) (dues : List Due) → (alone catalogue id (deeds ++ starts_left life dues)).sent ≡ (alone catalogue id deeds).sent
  unfolding alone
  starts_send deeds life [] = ap (λ (deeds : List Deed). (deeds_on catalogue id deeds (first_alone catalogue id)).sent) (append-nil deeds)
  starts_send deeds life (d ∷ dues) =
      ap (λ (a : Alone). a.sent) (deeds_on-append catalogue id deeds (again_then (d.life - life) []) (first_alone catalogue id))
      ∙ again_sends (d.life - life) (deeds_on catalogue id deeds (first_alone catalogue id))

-- the turn is of a message that none of these is
pub record WaitsAt (all : List Sent) (s : ℕ) (d : Due) : Type 0 where
  pub given : Input
  pub asks_is : asks s d.turn.frame ≡ Gives given
  pub waits : WaitsFor all s given

pub waits_at : (all : List Sent) (s : ℕ) (d : Due) → can_take all s d ≡ false → WaitsAt all s d
waits_at all s d e = by (asks s d.turn.frame) refl e
  where
    by : (a : Arrival) → asks s d.turn.frame ≡ a → is_ready all s a ≡ false → WaitsAt all s d
    by (Gives given) is f = record { given = given; asks_is = is; waits = waits_for all s d.turn.frame given (asked_by s d.turn.frame given is) f }
    by (Bad at) is f = absurd cc
    by Stray is f = absurd cc
    by Stops is f = absurd cc

-- so the site halts there
pub waits_halt : (all : List Sent) (s life : ℕ) (d : Due) (dues : List Due) → WaitsAt all s d
    → (given : Input) × (more : List Deed) × (asked_from s life (d ∷ dues) ≡ starts_left life (d ∷ dues) ++ Deed.takes given ∷ more) × Halts all s (Deed.takes given ∷ more)
waits_halt all s life d dues w =
    let it = w.waits in
    let a : asks s d.turn.frame ≡ Gives (input.Message it.from it.message) = w.asks_is ∙ ap Gives it.given_is in
    let more = asked_from s d.life dues in (
      input.Message it.from it.message,
      more,
      ap (λ (a : Arrival). again_then (d.life - life) (asked_then a more)) a ∙ again_append (d.life - life) (Deed.takes (input.Message it.from it.message) ∷ more),
      Halts.waits it.from it.message more it.none,
    )
