-- The arrows of a picture are those of its deliveries, and its stubs those of the messages that never come.
use Rattle.std.proofs.Common.{◌≡◌, ◌∙◌, ℕ, Bool, true, false, List, [], ◌∷◌, ◌++◌, refl, sym, ap, subst, append_assoc, ⊎_elim, inl, inr, arith, ◌+◌, length}
use Rattle.std.specs.Prelude.{◌⊎◌, ◌||◌, not, if◌then◌else◌, is_some, Option, Some, None, option_to_list, slice_get}
use Rattle.std.specs.List.{Contains, filter_map}
use Rattle.std.proofs.lemmas.List.Elements.{Contains-append_left, Contains-append_cases}
use Rattle.std.proofs.lemmas.Option.{slice_get_within}
use Rattle.vp_model.specs.Types.{Event}
use Rattle.vp_model.specs.Types.event
use Rattle.vp_model.specs.Words.{has}
use Rattle.vp_model.specs.Catalogue.{Catalogue}
use Rattle.vp_model.specs.World.{Moment, Schedule, WorldState, moments_of, next, start_world}
use Rattle.vp_pictures.specs.Pictures.{stub, stub_of}
use Rattle.vp_pictures.specs.Places.{top}
use Rattle.vp_pictures.specs.Sheets.{mark_at}
use Rattle.vp_pictures.specs.Steps.{arrow_kind, arrow_of, cut_of, delivery, is_drawn}
use Rattle.vp_pictures.specs.declared.shape.Ink.TheVariants as ink
use Rattle.vp_pictures.specs.declared.shape.Shape.{Shape}
use Rattle.vp_pictures.specs.declared.shape.Shape.TheVariants as shape
use Rattle.vp_pictures.specs.declared.sheet.Mark.{Mark}
use Rattle.vp_pictures.specs.declared.sheet.Part.{Part}
use Rattle.vp_pictures.specs.declared.sheet.Sheet.{Sheet}
use Rattle.vp_drawing.specs.Claims.{IsArrow, IsStub, comes, is_arrow}
use Rattle.vp_drawing.specs.Rows.{Sending, Turn, row_after}
use Rattle.vp_drawing.proofs.Adding.{arrows_in, came_in, delivered, delivered_to, turned}
use Rattle.vp_drawing.proofs.Layers.{layer}
use Rattle.vp_drawing.proofs.Lists.{flat_in, has_in, in_first, in_flat, in_has, in_none, in_one, in_option, kept_flat, place_in, places}
use Rattle.vp_drawing.proofs.Marks.{known_mark, mark_known, mark_sent, marked, sent_mark, sheet}
use Rattle.vp_drawing.proofs.Turns.{Follows, after_append, at_place, deliver_comes, follows_split, found, lines_so, numbered_so, part_so, schedule_follows, sent_grows, sent_known, there, top_sheet, top_tops, world_after}

kind_layer : (b : Bool) (x y x' y' : ℕ) → layer (shape.Line (if b then ink.Comes else ink.Lost) x y x' y') ≡ 1
kind_layer true x y x' y' = refl
kind_layer false x y x' y' = refl

module _ (s : Schedule) (part : Part) where
  abbrev c : Catalogue
  c = s.catalogue

  abbrev ms : List Moment
  ms = moments_of s

  abbrev of : List Moment → Sheet
  of l = sheet c part l

  abbrev drawn : Turn ms → Bool
  drawn t = is_drawn part t.now.number

  abbrev first : WorldState
  first = start_world c

  split : (t : Turn ms) → Follows c first t.earlier × Follows c (world_after first t.earlier) (t.now ∷ t.later)
  split t = follows_split c first t.earlier (t.now ∷ t.later) (subst (Follows c first) t.all (schedule_follows s))

  -- ---- arrows

  module _ (t : Turn ms) where
    abbrev before : Sheet
    before = of t.earlier

    kind_so : (k : ℕ) (x : Sending t.earlier k) → t.now.line.event ≡ event.Deliver k → arrow_kind t.now.line.shown ≡ (if comes t.now.before x.sent then ink.Comes else ink.Lost)
    kind_so k x delivers =
        let w = world_after first t.earlier in
        let is = (split t).1.0 in
        ap (λ (m : Moment). arrow_kind m.line.shown) is
        ∙ ap (λ e. arrow_kind (next c e w).shown) delivers
        ∙ deliver_comes c k x.sent w (sent_known c first t.earlier k x (split t).0)
        ∙ ap (λ w. if comes w x.sent then ink.Comes else ink.Lost) (sym (ap (λ (m : Moment). m.before) is))

    arrow_so : (k : ℕ) (x : Sending t.earlier k) → t.now.line.event ≡ event.Deliver k
        → arrow_of c (arrow_kind t.now.line.shown) (marked c part x) before.lines ≡ arrow_of c (if comes t.now.before x.sent then ink.Comes else ink.Lost) (marked c part x) (row_after c part t.earlier)
    arrow_so k x delivers =
        ap (λ kind. arrow_of c kind (marked c part x) before.lines) (kind_so k x delivers)
        ∙ ap (λ r. arrow_of c (if comes t.now.before x.sent then ink.Comes else ink.Lost) (marked c part x) r) (lines_so c part t.earlier)

    module _ (a : Shape) where
      of_known : (k : ℕ) (x : Sending t.earlier k) → t.now.line.event ≡ event.Deliver k → Contains (option_to_list (delivery c (drawn t) t.now.line.shown before.lines (marked c part x))) a → IsArrow s part a
      of_known k x delivers h = go (is_drawn part x.turn.now.number || drawn t) refl (in_option _ a h)
        where
          go : (b : Bool) → (is_drawn part x.turn.now.number || drawn t) ≡ b → (if b then Some (arrow_of c (arrow_kind t.now.line.shown) (marked c part x) before.lines) else None) ≡ Some a → IsArrow s part a
          go true e h =
              let same : arrow_of c (arrow_kind t.now.line.shown) (marked c part x) before.lines ≡ a = cc in
              record { delivery = t; k = k; event_is = delivers; sending = x; drawn = e; is = sym same ∙ arrow_so k x delivers }
          go false e h = cc

      of_mark : (k : ℕ) → t.now.line.event ≡ event.Deliver k → (o : Option Mark) → mark_at before k ≡ o → Contains (delivered_to c (drawn t) t.now.line.shown before.lines o) a → IsArrow s part a
      of_mark k delivers None e h = absurd (in_none a h)
      of_mark k delivers (Some m) e h =
          let it = mark_known c part t.earlier (split t).0 k m e in
          of_known k it.0 delivers (subst (λ m. Contains (option_to_list (delivery c (drawn t) t.now.line.shown before.lines m)) a) it.1 h)

      of_event : (e : Event) → t.now.line.event ≡ e → Contains (delivered c (drawn t) e t.now.line.shown before) a → IsArrow s part a
      of_event (event.Deliver k) is h = of_mark k is (mark_at before k) refl h
      of_event (event.Call site words) is h = absurd (in_none a h)
      of_event (event.Flow count) is h = absurd (in_none a h)
      of_event (event.Tick site) is h = absurd (in_none a h)
      of_event (event.Probe site) is h = absurd (in_none a h)
      of_event (event.Cut x y) is h = absurd (in_none a h)
      of_event (event.Heal x y) is h = absurd (in_none a h)
      of_event (event.Crash site) is h = absurd (in_none a h)
      of_event (event.Restart site) is h = absurd (in_none a h)

  -- the line of a cut or a heal is no arrow
  abbrev IsCut : Shape → Type 0
  IsCut a = (is_arrow a ≡ false) × (layer a ≡ 1)

  of_cut : (b : Bool) (y : ℕ) (e : Event) (a : Shape) → Contains (if b then option_to_list (cut_of c y e) else []) a → IsCut a
  of_cut false y e a h = absurd (in_none a h)
  of_cut true y (event.Cut p q) a h = subst IsCut (in_one _ a h) (refl, refl)
  of_cut true y (event.Heal p q) a h = subst IsCut (in_one _ a h) (refl, refl)
  of_cut true y (event.Call site words) a h = absurd (in_none a h)
  of_cut true y (event.Deliver k) a h = absurd (in_none a h)
  of_cut true y (event.Flow count) a h = absurd (in_none a h)
  of_cut true y (event.Tick site) a h = absurd (in_none a h)
  of_cut true y (event.Probe site) a h = absurd (in_none a h)
  of_cut true y (event.Crash site) a h = absurd (in_none a h)
  of_cut true y (event.Restart site) a h = absurd (in_none a h)

  arrows_are : (t : Turn ms) → arrows_in c t.now (before t) ≡ delivered c (drawn t) t.now.line.event t.now.line.shown (before t) ++ (if drawn t then option_to_list (cut_of c (top (before t).lines + 18) t.now.line.event) else [])
  arrows_are t = rw (part_so c part t.earlier) refl

  pub arrows_only : (a : Shape) → Contains (of ms).arrows a → IsArrow s part a ⊎ IsCut a
  arrows_only a h =
      ⊎_elim (λ old. absurd (in_none a (subst (λ (l : List Shape). Contains l a) (top_tops c part).arrows_are old)))
      (λ new. let t = new.0 in
      ⊎_elim (λ here. inl (of_event t a t.now.line.event refl here)) (λ there. inr (of_cut (drawn t) (top (before t).lines + 18) t.now.line.event a there))
      (Contains-append_cases (delivered c (drawn t) t.now.line.event t.now.line.shown (before t)) (if drawn t then option_to_list (cut_of c (top (before t).lines + 18) t.now.line.event) else []) a (subst (λ (l : List Shape). Contains l a) (arrows_are t) new.1)))
      (found c (λ (s : Sheet). s.arrows) (arrows_in c) (λ m s. (turned c m s).arrows_are) ms (top_sheet c part) a h)

  pub arrow_layer : (a : Shape) → IsArrow s part a → layer a ≡ 1
  arrow_layer a it = subst (λ a. layer a ≡ 1) (sym it.is) (kind_layer (comes it.delivery.now.before it.sending.sent) _ _ _ _)

  pub arrow_there : (a : Shape) → IsArrow s part a → Contains (of ms).arrows a
  arrow_there a it =
      let t = it.delivery in
      let x = it.sending in
      let what = t.now.line.shown in
      let r = (before t).lines in
      let new : delivered c (drawn t) t.now.line.event what (before t) ≡ a ∷ [] =
      ap (λ e. delivered c (drawn t) e what (before t)) it.event_is
      ∙ ap (delivered_to c (drawn t) what r) (known_mark c part t.earlier (split t).0 it.k x)
      ∙ ap (λ b. option_to_list (if b then Some (arrow_of c (arrow_kind what) (marked c part x) r) else None)) it.drawn
      ∙ ap (λ a. a ∷ []) (arrow_so t it.k x it.event_is ∙ sym it.is) in
      there c (λ (s : Sheet). s.arrows) (arrows_in c) (λ m s. (turned c m s).arrows_are) ms (top_sheet c part) t a
      (subst (λ (l : List Shape). Contains l a) (sym (arrows_are t))
      (Contains-append_left (delivered c (drawn t) t.now.line.event what (before t)) _ a (subst (λ (l : List Shape). Contains l a) (sym new) (in_first a []))))

  -- ---- which messages came

  abbrev came : List ℕ
  came = (of ms).came

  came_there : (k : ℕ) (x : Sending ms k) (m : Moment) → Contains x.turn.later m → m.line.event ≡ event.Deliver k → Contains came k
  came_there k x m later delivers =
      let at = place_in x.turn.later m later in
      let t : Turn ms = record {
        earlier = x.turn.earlier ++ x.turn.now ∷ at.0;
        now = m;
        later = at.1;
        all = x.turn.all ∙ ap (λ (l : List Moment). x.turn.earlier ++ x.turn.now ∷ l) at.2 ∙ sym (append_assoc x.turn.earlier (x.turn.now ∷ at.0) (m ∷ at.1));
      } in
      let y : Sending t.earlier k = record {
        turn = record { earlier = x.turn.earlier; now = x.turn.now; later = at.0; all = refl };
        commits = x.commits;
        first = x.first;
        messages = x.messages;
        replies = x.replies;
        did = x.did;
        place = x.place;
        sent = x.sent;
        listed = x.listed;
        numbered = x.numbered;
      } in
      let new : came_in m.line.event (before t) ≡ k ∷ [] = ap (λ e. came_in e (before t)) delivers ∙ ap (λ o. if is_some o then k ∷ [] else []) (known_mark c part t.earlier (split t).0 k y) in
      there c (λ (s : Sheet). s.came) (λ m s. came_in m.line.event s) (λ m s. (turned c m s).came_are) ms (top_sheet c part) t k (subst (λ l. Contains l k) (sym new) (in_first k []))

  abbrev Delivered : ℕ → Turn ms → Type 0
  Delivered k t = (t.now.line.event ≡ event.Deliver k) × Sending t.earlier k

  came_found : (k : ℕ) → Contains came k → (t : Turn ms) × Delivered k t
  came_found k h =
      ⊎_elim (λ old. absurd (in_none k (subst (λ l. Contains l k) (top_tops c part).came_are old))) (λ new. (new.0, of_came new.0 new.0.now.line.event refl new.1))
      (found c (λ (s : Sheet). s.came) (λ m s. came_in m.line.event s) (λ m s. (turned c m s).came_are) ms (top_sheet c part) k h)
    where
      of_known : (t : Turn ms) (j : ℕ) → t.now.line.event ≡ event.Deliver j → (o : Option Mark) → mark_at (before t) j ≡ o → Contains (if is_some o then j ∷ [] else []) k → Delivered k t
      of_known t j is None e h = absurd (in_none k h)
      of_known t j is (Some m) e h = subst (λ k. Delivered k t) (in_one j k h) (is, (mark_known c part t.earlier (split t).0 j m e).0)

      of_came : (t : Turn ms) (e : Event) → t.now.line.event ≡ e → Contains (came_in e (before t)) k → Delivered k t
      of_came t (event.Deliver j) is h = of_known t j is (mark_at (before t) j) refl h
      of_came t (event.Call site words) is h = absurd (in_none k h)
      of_came t (event.Flow count) is h = absurd (in_none k h)
      of_came t (event.Tick site) is h = absurd (in_none k h)
      of_came t (event.Probe site) is h = absurd (in_none k h)
      of_came t (event.Cut x y) is h = absurd (in_none k h)
      of_came t (event.Heal x y) is h = absurd (in_none k h)
      of_came t (event.Crash site) is h = absurd (in_none k h)
      of_came t (event.Restart site) is h = absurd (in_none k h)

  -- no message is delivered before it is sent
  not_before : (k : ℕ) (x : Sending ms k) (t : Turn ms) → Sending t.earlier k → (rest : List Moment) → x.turn.earlier ≡ t.earlier ++ rest → ⊥
  not_before k x t y rest same =
      let w = world_after first t.earlier in
      let j = length (world_after first y.turn.earlier).sent + y.place in
      let earlier = numbered_so c first t.earlier k y (split t).0 in
      let got : slice_get w.sent j ≡ Some y.sent = sym (at_place w.sent k j (omega (arith, earlier))) ∙ sent_known c first t.earlier k y (split t).0 in
      let within = slice_get_within w.sent j y.sent got in
      let later = numbered_so c first ms k x (schedule_follows s) in
      let onward = follows_split c first t.earlier rest (subst (Follows c first) same (split x.turn).0) in
      let grows = sent_grows c w rest onward.1 in
      let more : length (world_after first x.turn.earlier).sent ≡ length w.sent + grows.0 = ap (λ (l : List Moment). length (world_after first l).sent) same ∙ ap (λ (w : WorldState). length w.sent) (after_append first t.earlier rest) ∙ grows.1 in
      omega (arith, earlier, within, later, more)

  -- ---- stubs

  abbrev kept : Mark → Option Shape
  kept m = stub_of c came m

  pub stubs_only : (a : Shape) → Contains (filter_map kept (of ms).marks) a → IsStub s part a
  stubs_only a h =
      let it = in_flat (λ m. option_to_list (kept m)) (of ms).marks a (subst (λ (l : List Shape). Contains l a) (kept_flat kept (of ms).marks) h) in
      let x = mark_sent c part ms (schedule_follows s) it.0 it.1 in
      of_known it.0.number x.0 (subst (λ m. kept m ≡ Some a) x.1 (in_option (kept it.0) a it.2))
    where
      of_known : (k : ℕ) (x : Sending ms k) → kept (marked c part x) ≡ Some a → IsStub s part a
      of_known k x h = go (is_drawn part x.turn.now.number) refl (has came k) refl h
        where
          go : (d : Bool) → is_drawn part x.turn.now.number ≡ d → (b : Bool) → has came k ≡ b → (if not d || b then None else Some (stub c (marked c part x))) ≡ Some a → IsStub s part a
          go true e false f h =
              let same : stub c (marked c part x) ≡ a = cc in
              record { k = k; sending = x; drawn = e; never = λ m later delivers. let there = has_in came k (came_there k x m later delivers) in cc; is = sym same }
          go true e true f h = cc
          go false e b f h = cc

  pub stub_layer : (a : Shape) → IsStub s part a → layer a ≡ 2
  stub_layer a it = subst (λ a. layer a ≡ 2) (sym it.is) refl

  pub stub_there : (a : Shape) → IsStub s part a → Contains (filter_map kept (of ms).marks) a
  stub_there a it =
      let x = it.sending in
      let k = it.k in
      let new : kept (marked c part x) ≡ Some a =
      ap (λ d. if not d || has came k then None else Some (stub c (marked c part x))) it.drawn
      ∙ ap (λ b. if not true || b then None else Some (stub c (marked c part x))) (not_came (has came k) refl)
      ∙ ap (λ (a : Shape). Some a) (sym it.is) in
      subst (λ (l : List Shape). Contains l a) (sym (kept_flat kept (of ms).marks))
      (flat_in (λ m. option_to_list (kept m)) (of ms).marks (marked c part x) a (sent_mark c part ms (schedule_follows s) k x) (subst (λ o. Contains (option_to_list o) a) (sym new) (in_first a [])))
    where
      never_came : Contains came it.k → ⊥
      never_came h =
          let at = came_found it.k h in
          let t = at.0 in
          let x = it.sending in
          ⊎_elim (λ before. not_before it.k x t at.1.1 before.0 before.1) (λ later. it.never t.now later at.1.0)
          (places t.earlier x.turn.earlier t.now x.turn.now t.later x.turn.later (sym t.all ∙ x.turn.all))

      not_came : (b : Bool) → has came it.k ≡ b → has came it.k ≡ false
      not_came true e = absurd (never_came (in_has came it.k e))
      not_came false e = e
