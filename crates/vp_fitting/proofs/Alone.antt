-- What a site is, has sent and has given depends on its deeds alone.
use Rattle.std.proofs.Common.{◌≡◌, ◌≢◌, ◌∙◌, ap, sym, subst, ℕ, List, ◌∷◌, [], ◌++◌, refl, append-nil, append_assoc, ⊎_elim}
use Rattle.std.specs.Prelude.{Some}
use Rattle.std.proofs.lemmas.List.Concat.{flat_map-append}
use Rattle.vp_model.specs.Types.{Event, Sent}
use Rattle.vp_model.specs.Catalogue.{Catalogue, sites_of}
use Rattle.vp_model.specs.World.{Place, WorldState, Moment, Run, place_of, start_place, start_world, next, moment, one_step, run_of}
use Rattle.vp_laws.proofs.Lists.Members.{Has, has_none, has_cases, has_left, has_right}
use Rattle.vp_laws.proofs.Lists.Views.{same_site}
use Rattle.vp_laws.proofs.Worlds.Occurs.{run-keeps}
use Rattle.vp_laws.proofs.Worlds.Sites.{start_at}
use Rattle.vp_runs.proofs.Through.{starts_at}
use Rattle.vp_fitting.specs.Fitting.{Deed, deeds_at, deeds_of, given_at, given_by}
use Rattle.vp_fitting.proofs.Deeds.{Outcome, done_by, Does, Did, did}

-- ---- a site alone

-- where its deeds have led it, the messages that it has sent, and the frames of each of its steps
pub record Alone : Type 0 where
  pub place : Place
  pub sent : List Sent
  pub given : List (List (List ℕ))

abbrev pub more_of : Outcome → Alone → Alone
more_of o a = record { place = o.place; sent = a.sent ++ o.messages; given = a.given ++ o.given }

abbrev pub deed_on : Catalogue → ℕ → Deed → Alone → Alone
deed_on catalogue id d a = more_of (done_by catalogue id d a.place) a

abbrev pub deeds_on : Catalogue → ℕ → List Deed → Alone → Alone
deeds_on catalogue id [] a = a
deeds_on catalogue id (d ∷ deeds) a = deeds_on catalogue id deeds (deed_on catalogue id d a)

abbrev pub first_alone : Catalogue → ℕ → Alone
first_alone catalogue id = record { place = start_place catalogue id; sent = []; given = [] }

unfoldable pub alone : Catalogue → ℕ → List Deed → Alone
alone catalogue id deeds = deeds_on catalogue id deeds (first_alone catalogue id)

module _ (catalogue : Catalogue) (id : ℕ) where
  pub deeds_on-append : (xs ys : List Deed) (a : Alone) → deeds_on catalogue id (xs ++ ys) a ≡ deeds_on catalogue id ys (deeds_on catalogue id xs a)
  deeds_on-append [] ys a = refl
  deeds_on-append (x ∷ xs) ys a = deeds_on-append xs ys (deed_on catalogue id x a)

  pub alone-none : alone catalogue id [] ≡ first_alone catalogue id
  unfolding alone
  alone-none = refl

  pub alone-more : (deeds : List Deed) (d : Deed) → alone catalogue id (deeds ++ d ∷ []) ≡ deed_on catalogue id d (alone catalogue id deeds)
  unfolding alone
  alone-more deeds d = deeds_on-append deeds (d ∷ []) (first_alone catalogue id)

  -- what it has sent stays sent
  still_sent : (deeds : List Deed) (a : Alone) (m : Sent) → Has a.sent m → Has (deeds_on catalogue id deeds a).sent m
  still_sent [] a m h = h
  still_sent (d ∷ deeds) a m h = still_sent deeds (deed_on catalogue id d a) m (has_left a.sent _ m h)

  pub sent-more : (deeds more : List Deed) (m : Sent) → Has (alone catalogue id deeds).sent m → Has (alone catalogue id (deeds ++ more)).sent m
  unfolding alone
  sent-more deeds more m h = rw (deeds_on-append deeds more (first_alone catalogue id)) (still_sent more (deeds_on catalogue id deeds (first_alone catalogue id)) m h)

  -- what it has given stays before what it gives
  given_on : (deeds : List Deed) (a : Alone) → (more : List (List (List ℕ))) × ((deeds_on catalogue id deeds a).given ≡ a.given ++ more)
  given_on [] a = ([], sym (append-nil a.given))
  given_on (d ∷ deeds) a =
      let o = done_by catalogue id d a.place in
      let rest = given_on deeds (deed_on catalogue id d a) in
      (o.given ++ rest.0, rest.1 ∙ append_assoc a.given o.given rest.0)

  pub given-more : (deeds more : List Deed) → (rest : List (List (List ℕ))) × ((alone catalogue id (deeds ++ more)).given ≡ (alone catalogue id deeds).given ++ rest)
  unfolding alone
  given-more deeds more = rw (deeds_on-append deeds more (first_alone catalogue id)) (given_on more (deeds_on catalogue id deeds (first_alone catalogue id)))

-- ---- in a world

-- each site of the world is where its deeds have led it, and what was sent is what they have sent
pub record Agrees (catalogue : Catalogue) (w : WorldState) (deeds : ℕ → List Deed) (given : ℕ → List (List (List ℕ))) : Type 0 where
  pub known : (id : ℕ) (place : Place) → place_of id w.places ≡ Some place → Has (sites_of catalogue) id
  pub places : (id : ℕ) → Has (sites_of catalogue) id → place_of id w.places ≡ Some (alone catalogue id (deeds id)).place
  pub given_is : (id : ℕ) → Has (sites_of catalogue) id → (alone catalogue id (deeds id)).given ≡ given id
  pub sent_by : (m : Sent) → Has w.sent m → (id : ℕ) × Has (sites_of catalogue) id × Has (alone catalogue id (deeds id)).sent m
  pub sends : (id : ℕ) → Has (sites_of catalogue) id → (m : Sent) → Has (alone catalogue id (deeds id)).sent m → Has w.sent m

-- one moment more
pub deeds-more : (id : ℕ) (moments : List Moment) (m : Moment) → deeds_of id (moments ++ m ∷ []) ≡ deeds_of id moments ++ deeds_at id m
deeds-more id moments m = flat_map-append (deeds_at id) moments (m ∷ []) ∙ ap (λ (more : List Deed). deeds_of id moments ++ more) (append-nil (deeds_at id m))

pub given_by-more : (id : ℕ) (moments : List Moment) (m : Moment) → given_by id (moments ++ m ∷ []) ≡ given_by id moments ++ given_at id m
given_by-more id moments m = flat_map-append (given_at id) moments (m ∷ []) ∙ ap (λ (more : List (List (List ℕ))). given_by id moments ++ more) (append-nil (given_at id m))

module _ (catalogue : Catalogue) (moments : List Moment) (m : Moment) where
  abbrev Before : Type 0
  Before = Agrees catalogue m.before (λ id. deeds_of id moments) (λ id. given_by id moments)

  abbrev After : Type 0
  After = Agrees catalogue m.after (λ id. deeds_of id (moments ++ m ∷ [])) (λ id. given_by id (moments ++ m ∷ []))

  -- a site that does nothing in the moment
  same_deeds : (id : ℕ) → deeds_at id m ≡ [] → deeds_of id (moments ++ m ∷ []) ≡ deeds_of id moments
  same_deeds id none = deeds-more id moments m ∙ ap (λ (more : List Deed). deeds_of id moments ++ more) none ∙ append-nil (deeds_of id moments)

  same_given : (id : ℕ) → given_at id m ≡ [] → given_by id (moments ++ m ∷ []) ≡ given_by id moments
  same_given id none = given_by-more id moments m ∙ ap (λ (more : List (List (List ℕ))). given_by id moments ++ more) none ∙ append-nil (given_by id moments)

  same_alone : (id : ℕ) → deeds_at id m ≡ [] → alone catalogue id (deeds_of id (moments ++ m ∷ [])) ≡ alone catalogue id (deeds_of id moments)
  same_alone id none = ap (alone catalogue id) (same_deeds id none)

  stands_agree : m.after.places ≡ m.before.places → m.after.sent ≡ m.before.sent → ((id : ℕ) → (deeds_at id m ≡ []) × (given_at id m ≡ [])) → Before → After
  stands_agree places sent none h =
      record {
        known = λ id place at. h.known id place (sym (ap (place_of id) places) ∙ at);
        places = λ id l. ap (place_of id) places ∙ h.places id l ∙ ap (λ (a : Alone). Some a.place) (sym (same_alone id (none id).0));
        given_is = λ id l. ap (λ (a : Alone). a.given) (same_alone id (none id).0) ∙ h.given_is id l ∙ sym (same_given id (none id).1);
        sent_by = λ x has. let r = h.sent_by x (subst (λ (all : List Sent). Has all x) sent has) in (r.0, r.1, subst (λ (a : Alone). Has a.sent x) (sym (same_alone r.0 (none r.0).0)) r.2);
        sends = λ id l x has. subst (λ (all : List Sent). Has all x) (sym sent) (h.sends id l x (subst (λ (a : Alone). Has a.sent x) (same_alone id (none id).0) has));
      }

  module _ (s : ℕ) (old : Place) (d : Deed) (it : Does catalogue m s old d) (h : Before) where
    abbrev o : Outcome
    o = done_by catalogue s d old

    listed : Has (sites_of catalogue) s
    listed = h.known s old it.at

    old_is : (alone catalogue s (deeds_of s moments)).place ≡ old
    old_is = let z = sym (h.places s listed) ∙ it.at in cc

    own : alone catalogue s (deeds_of s (moments ++ m ∷ [])) ≡ more_of o (alone catalogue s (deeds_of s moments))
    own =
        ap (alone catalogue s) (deeds-more s moments m ∙ ap (λ (more : List Deed). deeds_of s moments ++ more) it.only.deeds)
        ∙ alone-more catalogue s (deeds_of s moments) d
        ∙ ap (λ (p : Place). more_of (done_by catalogue s d p) (alone catalogue s (deeds_of s moments))) old_is

    other : (id : ℕ) → id ≢ s → alone catalogue id (deeds_of id (moments ++ m ∷ [])) ≡ alone catalogue id (deeds_of id moments)
    other id n = same_alone id (it.only.others id n).0

    does_agree : After
    does_agree =
        record {
          known = λ id place at. ⊎_elim (λ (same : id ≡ s). subst (Has (sites_of catalogue)) (sym same) listed) (λ (n : id ≢ s). h.known id place (sym (it.others id n) ∙ at)) (same_site id s);
          places = λ id l. ⊎_elim
              (λ (same : id ≡ s). subst (λ (k : ℕ). place_of k m.after.places ≡ Some (alone catalogue k (deeds_of k (moments ++ m ∷ []))).place) (sym same) (it.now ∙ ap (λ (a : Alone). Some a.place) (sym own)))
              (λ (n : id ≢ s). it.others id n ∙ h.places id l ∙ ap (λ (a : Alone). Some a.place) (sym (other id n)))
              (same_site id s);
          given_is = λ id l. ⊎_elim
              (λ (same : id ≡ s). subst (λ (k : ℕ). (alone catalogue k (deeds_of k (moments ++ m ∷ []))).given ≡ given_by k (moments ++ m ∷ [])) (sym same)
              (ap (λ (a : Alone). a.given) own ∙ ap (λ (before : List (List (List ℕ))). before ++ o.given) (h.given_is s listed)
              ∙ ap (λ (more : List (List (List ℕ))). given_by s moments ++ more) (sym it.only.made) ∙ sym (given_by-more s moments m)))
              (λ (n : id ≢ s). ap (λ (a : Alone). a.given) (other id n) ∙ h.given_is id l ∙ sym (same_given id (it.only.others id n).1))
              (same_site id s);
          sent_by = λ x has. ⊎_elim
              (λ (was : Has m.before.sent x). let r = h.sent_by x was in (r.0, r.1, still r.0 x r.2))
              (λ (new : Has o.messages x). (s, listed, subst (λ (a : Alone). Has a.sent x) (sym own) (has_right (alone catalogue s (deeds_of s moments)).sent o.messages x new)))
              (has_cases m.before.sent o.messages x (subst (λ (all : List Sent). Has all x) it.sent has));
          sends = λ id l x has. subst (λ (all : List Sent). Has all x) (sym it.sent) (⊎_elim
              (λ (same : id ≡ s). own_sends x (subst (λ (k : ℕ). Has (alone catalogue k (deeds_of k (moments ++ m ∷ []))).sent x) same has))
              (λ (n : id ≢ s). has_left m.before.sent o.messages x (h.sends id l x (subst (λ (a : Alone). Has a.sent x) (other id n) has)))
              (same_site id s));
        }
      where
        still : (id : ℕ) (x : Sent) → Has (alone catalogue id (deeds_of id moments)).sent x → Has (alone catalogue id (deeds_of id (moments ++ m ∷ []))).sent x
        still id x has = subst (λ (deeds : List Deed). Has (alone catalogue id deeds).sent x) (sym (deeds-more id moments m)) (sent-more catalogue id (deeds_of id moments) (deeds_at id m) x has)

        own_sends : (x : Sent) → Has (alone catalogue s (deeds_of s (moments ++ m ∷ []))).sent x → Has (m.before.sent ++ o.messages) x
        own_sends x has = ⊎_elim
            (λ (was : Has (alone catalogue s (deeds_of s moments)).sent x). has_left m.before.sent o.messages x (h.sends s listed x was))
            (λ (new : Has o.messages x). has_right m.before.sent o.messages x new)
            (has_cases (alone catalogue s (deeds_of s moments)).sent o.messages x (subst (λ (a : Alone). Has a.sent x) own has))

  pub agree_on : Did catalogue m → Before → After
  agree_on (Did.does s old d it) h = does_agree s old d it h
  agree_on (Did.stands places sent none) h = stands_agree places sent none h

-- ---- in each schedule

abbrev pub AgreesIn : Catalogue → Run → Type 0
AgreesIn catalogue run = Agrees catalogue run.world (λ id. deeds_of id run.moments) (λ id. given_by id run.moments)

module _ (catalogue : Catalogue) where
  starts_agree : Agrees catalogue (start_world catalogue) (λ id. []) (λ id. [])
  unfolding start_world
  starts_agree =
      record {
        known = λ id place at. (start_at catalogue id (sites_of catalogue) place at).0;
        places = λ id l. starts_at catalogue id l ∙ ap (λ (a : Alone). Some a.place) (sym (alone-none catalogue id));
        given_is = λ id l. ap (λ (a : Alone). a.given) (alone-none catalogue id);
        sent_by = λ m h. absurd (has_none m h);
        sends = λ id l m h. absurd (has_none m (subst (λ (a : Alone). Has a.sent m) (alone-none catalogue id) h));
      }

  pub step_agrees : (number : ℕ) (e : Event) (run : Run) → AgreesIn catalogue run → AgreesIn catalogue (one_step catalogue number e run)
  unfolding one_step
  step_agrees number e run h = agree_on catalogue run.moments (moment number run.world e (next catalogue e run.world)) (did catalogue number e run.world) h

  pub agrees_starts : AgreesIn catalogue (record { moments = []; world = start_world catalogue })
  agrees_starts = starts_agree

  pub agrees_last : (events : List Event) → AgreesIn catalogue (run_of (record { catalogue = catalogue; events = events }))
  agrees_last events = run-keeps catalogue (AgreesIn catalogue) (record { starts = agrees_starts; steps = step_agrees }) events
