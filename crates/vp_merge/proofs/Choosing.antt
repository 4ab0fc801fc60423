-- Which site takes the next turn, by the tracks.
use Rattle.std.proofs.Common.{◌≡◌, ◌≢◌, ◌∙◌, ap, sym, subst, Bool, true, false, cond, ℕ, zero, suc, ◌+◌, List, [], ◌∷◌, Some, None, map, set, refl, arith}
use Rattle.std.specs.Prelude.{Option, ◌==◌, slice_get}
use Rattle.std.specs.List.{AllByRecursion, position_from}
use Rattle.std.specs.Option.{option_map_or}
use Rattle.std.proofs.lemmas.Bool.{false≢true, eqb-true}
use Rattle.vp_laws.specs.Catalogues.{AreApart}
use Rattle.vp_laws.proofs.Lists.Members.{Has, contains, has_first, has_more}
use Rattle.vp_laws.proofs.Lists.Numbers.{eq_self, eq_not}
use Rattle.vp_recording.specs.declared.recording.Recording.{Recording}
use Rattle.vp_fitting.specs.Asked.{Due}
use Rattle.vp_fitting.specs.Merged.{Choice, Track as Left, choose_due, first_of, first_track, with_track}
use Rattle.vp_merge.specs.Dues.{due_of}
use Rattle.vp_merge.specs.Merging.{choice_at, left_of}
use Rattle.vp_merge.specs.Tracks.{can_go, is_ready_by, track_of}
use Rattle.vp_merge.specs.declared.numbers.FrameNumbers.{FrameNumbers}
use Rattle.vp_merge.specs.declared.track.NextTurn.{NextTurn}
use Rattle.vp_merge.specs.declared.track.Track.{Track}

abbrev pub sites_in : List Track → List ℕ
sites_in ts = map (λ (t : Track). t.site) ts

-- ---- what is left, by the tracks

module _ (recordings : List Recording) where
  apart_others : (ts : List Track) (n : ℕ) → (Has (sites_in ts) n → ⊥) → AllByRecursion (λ (t : Track). t.site ≢ n) ts
  apart_others [] n none = tt
  apart_others (t ∷ ts) n none = (
    (λ (e : t.site ≡ n). none (subst (Has (sites_in (t ∷ ts))) e (has_first t.site (sites_in ts)))),
    apart_others ts n (λ h. none (has_more t.site (sites_in ts) n h)),
  )

  later : (t : Track) (ts xs : List Track) → AllByRecursion (λ (x : Track). x.site ≢ t.site) xs → AllByRecursion (λ (x : Track). left_of recordings ts x.site ≡ track_of x) xs → AllByRecursion (λ (x : Track). left_of recordings (t ∷ ts) x.site ≡ track_of x) xs
  later t ts [] apart h = tt
  later t ts (x ∷ xs) apart h = (rw (eq_not x.site t.site apart.0) h.0, later t ts xs apart.1 h.1)

  pub left_fits : (ts : List Track) → AreApart (sites_in ts) → AllByRecursion (λ (t : Track). left_of recordings ts t.site ≡ track_of t) ts
  left_fits [] apart = tt
  left_fits (t ∷ ts) apart = (rw (eq_self t.site) refl, later t ts ts (apart_others ts t.site (λ h. apart.0 (contains (sites_in ts) t.site h))) (left_fits ts apart.1))

  -- at first
  first_left : (ts : List Track) → AllByRecursion (λ (t : Track). track_of t ≡ first_track recordings t.site) ts → (id : ℕ) → left_of recordings ts id ≡ first_track recordings id
  first_left [] h id = refl
  first_left (t ∷ ts) h id = go (id == t.site) refl (first_left ts h.1 id)
    where
      go : (b : Bool) → (id == t.site) ≡ b → left_of recordings ts id ≡ first_track recordings id → cond b (track_of t) (left_of recordings ts id) ≡ first_track recordings id
      go true e rest = h.0 ∙ ap (first_track recordings) (sym (eqb-true id t.site e))
      go false e rest = rest

  pub left_first : (ts : List Track) → AllByRecursion (λ (t : Track). track_of t ≡ first_track recordings t.site) ts → left_of recordings ts ≡ first_track recordings
  left_first ts h = λ i id. first_left ts h id i

  -- one track changed
  module _ (new : Track) (track : Left) (is : track_of new ≡ track) where
    site_there : (ts : List Track) (i : ℕ) (t : Track) → slice_get ts i ≡ Some t → Has (sites_in ts) t.site
    site_there [] i t at = absurd cc
    site_there (x ∷ ts) zero t at = let here : x ≡ t = cc in subst (λ (z : Track). Has (sites_in (x ∷ ts)) z.site) here (has_first x.site (sites_in ts))
    site_there (x ∷ ts) (suc i) t at = has_more x.site (sites_in ts) t.site (site_there ts i t at)

    set_left : (ts : List Track) (i : ℕ) (t : Track) → slice_get ts i ≡ Some t → t.site ≡ new.site → AreApart (sites_in ts) → (id : ℕ) → left_of recordings (set ts i new) id ≡ with_track new.site track (left_of recordings ts) id
    set_left [] i t at same apart id = absurd cc
    set_left (x ∷ ts) zero t at same apart id =
        let here : x ≡ t = cc in
        go (id == new.site) (id == x.site) (ap (λ k. id == k) (ap (λ (z : Track). z.site) here ∙ same))
      where
        go : (b c : Bool) → c ≡ b → cond b (track_of new) (left_of recordings ts id) ≡ cond b track (cond c (track_of x) (left_of recordings ts id))
        go true c e = is
        go false true e = absurd (false≢true (sym e))
        go false false e = refl
    set_left (x ∷ ts) (suc i) t at same apart id = go (id == x.site) refl (id == new.site) refl (set_left ts i t at same apart.1 id)
      where
        go : (b : Bool) → (id == x.site) ≡ b → (c : Bool) → (id == new.site) ≡ c → left_of recordings (set ts i new) id ≡ cond c track (left_of recordings ts id)
            → cond b (track_of x) (left_of recordings (set ts i new) id) ≡ cond c track (cond b (track_of x) (left_of recordings ts id))
        go true p true q rest =
            let e : t.site ≡ x.site = same ∙ sym (eqb-true id new.site q) ∙ eqb-true id x.site p in
            absurd (apart.0 (contains (sites_in ts) x.site (subst (Has (sites_in ts)) e (site_there ts i t at))))
        go true p false q rest = refl
        go false p c q rest = rest

    pub left_set : (ts : List Track) (i : ℕ) (t : Track) → slice_get ts i ≡ Some t → t.site ≡ new.site → AreApart (sites_in ts) → left_of recordings (set ts i new) ≡ with_track new.site track (left_of recordings ts)
    left_set ts i t at same apart = λ j id. set_left ts i t at same apart id j

pub there_site : (ts : List Track) (i : ℕ) (t : Track) → slice_get ts i ≡ Some t → Has (sites_in ts) t.site
there_site [] i t at = absurd cc
there_site (x ∷ ts) zero t at = let here : x ≡ t = cc in subst (λ (z : Track). Has (sites_in (x ∷ ts)) z.site) here (has_first x.site (sites_in ts))
there_site (x ∷ ts) (suc i) t at = has_more x.site (sites_in ts) t.site (there_site ts i t at)

-- the sites stay where the site of the changed one does
pub set_sites : (ts : List Track) (i : ℕ) (t new : Track) → slice_get ts i ≡ Some t → t.site ≡ new.site → sites_in (set ts i new) ≡ sites_in ts
set_sites [] i t new at same = refl
set_sites (x ∷ ts) zero t new at same = let here : x ≡ t = cc in ap (λ n. n ∷ sites_in ts) (sym same ∙ ap (λ (z : Track). z.site) (sym here))
set_sites (x ∷ ts) (suc i) t new at same = ap (λ ns. x.site ∷ ns) (set_sites ts i t new at same)

pub all_set : (P : Track → Type 0) (ts : List Track) (i : ℕ) (new : Track) → AllByRecursion P ts → P new → AllByRecursion P (set ts i new)
all_set P [] i new h p = tt
all_set P (x ∷ ts) zero new h p = (p, h.1)
all_set P (x ∷ ts) (suc i) new h p = (h.0, all_set P ts i new h.1 p)

pub all_there : (P : Track → Type 0) (ts : List Track) (i : ℕ) (t : Track) → AllByRecursion P ts → slice_get ts i ≡ Some t → P t
all_there P [] i t h at = absurd cc
all_there P (x ∷ ts) zero t h at = let here : x ≡ t = cc in subst P here h.0
all_there P (x ∷ ts) (suc i) t h at = all_there P ts i t h.1 at

-- ---- which one goes

module _ (numbers : FrameNumbers) (passes : ℕ → Due → Bool) (left : ℕ → Left) where
  -- the track is that of its site, and its next turn passes where it can be done
  pub record Agrees (t : Track) : Type 0 where
    pub left_is : left t.site ≡ track_of t
    pub passes_is : (n : NextTurn) → t.next ≡ Some n → passes t.site (due_of n.due) ≡ is_ready_by numbers t.site n.place n.asked

  pub record Picked (ts : List Track) (i : ℕ) : Type 0 where
    pub track : Track
    pub at : slice_get ts i ≡ Some track
    pub next : NextTurn
    pub next_is : track.next ≡ Some next
    pub choice : first_of passes (sites_in ts) left ≡ choice_at track

  goes : (t : Track) → can_go numbers t ≡ true → (n : NextTurn) × (t.next ≡ Some n)
  goes t e = by t.next refl
    where
      by : (o : Option NextTurn) → t.next ≡ o → (n : NextTurn) × (t.next ≡ Some n)
      by None p = absurd (false≢true (sym (ap (λ (o : Option NextTurn). option_map_or (λ (n : NextTurn). is_ready_by numbers t.site n.place n.asked) o false) p) ∙ e))
      by (Some n) p = (n, p)

  -- the site of the first one, whose turn passes or not
  one : (t : Track) (other : Option Choice) → Agrees t → choose_due passes t.site (left t.site).dues other ≡ cond (can_go numbers t) (choice_at t) other
  one t other a = by t.next refl
    where
      by : (o : Option NextTurn) → t.next ≡ o → choose_due passes t.site (left t.site).dues other ≡ cond (can_go numbers t) (choice_at t) other
      by None p = rw (a.left_is, p) refl
      by (Some n) p = rw (a.left_is, p, a.passes_is n p) refl

  none_first : (t : Track) (ts : List Track) (b : Bool) → can_go numbers t ≡ b → (i : ℕ) → Agrees t → (position_from (can_go numbers) (i + 1) ts ≡ None → first_of passes (sites_in ts) left ≡ None)
      → cond b (Some i) (position_from (can_go numbers) (i + 1) ts) ≡ None → first_of passes (sites_in (t ∷ ts)) left ≡ None
  none_first t ts true p i a rest z = absurd cc
  none_first t ts false p i a rest z = one t (first_of passes (sites_in ts) left) a ∙ ap (λ b. cond b (choice_at t) (first_of passes (sites_in ts) left)) p ∙ rest z

  pub none_goes : (ts : List Track) (i : ℕ) → AllByRecursion Agrees ts → position_from (can_go numbers) i ts ≡ None → first_of passes (sites_in ts) left ≡ None
  none_goes [] i a e = refl
  none_goes (t ∷ ts) i a e = none_first t ts (can_go numbers t) refl i a.0 (none_goes ts (i + 1) a.1) e

  pub record PickedFrom (ts : List Track) (j i : ℕ) : Type 0 where
    pub place : ℕ
    pub is : i ≡ j + place
    pub picked : Picked ts place

  some_first : (t : Track) (ts : List Track) (b : Bool) → can_go numbers t ≡ b → (j i : ℕ) → Agrees t → (position_from (can_go numbers) (j + 1) ts ≡ Some i → PickedFrom ts (j + 1) i)
      → cond b (Some j) (position_from (can_go numbers) (j + 1) ts) ≡ Some i → PickedFrom (t ∷ ts) j i
  some_first t ts true p j i a rest z =
      let same : j ≡ i = cc in
      let n = goes t p in
      record {
        place = 0;
        is = omega (arith, same);
        picked = record { track = t; at = refl; next = n.0; next_is = n.1; choice = one t (first_of passes (sites_in ts) left) a ∙ ap (λ b. cond b (choice_at t) (first_of passes (sites_in ts) left)) p };
      }
  some_first t ts false p j i a rest z =
      let r = rest z in
      let q = r.picked in
      record {
        place = suc r.place;
        is = (let w = r.is in omega (arith, w));
        picked = record { track = q.track; at = q.at; next = q.next; next_is = q.next_is; choice = one t (first_of passes (sites_in ts) left) a ∙ ap (λ b. cond b (choice_at t) (first_of passes (sites_in ts) left)) p ∙ q.choice };
      }

  pub some_goes : (ts : List Track) (j i : ℕ) → AllByRecursion Agrees ts → position_from (can_go numbers) j ts ≡ Some i → PickedFrom ts j i
  some_goes [] j i a e = absurd cc
  some_goes (t ∷ ts) j i a e = some_first t ts (can_go numbers t) refl j i a.0 (some_goes ts (j + 1) i a.1) e

  -- where a place is found
  pub picks : (ts : List Track) (i : ℕ) → AllByRecursion Agrees ts → position_from (can_go numbers) 0 ts ≡ Some i → Picked ts i
  picks ts i a e =
      let r = some_goes ts 0 i a e in
      let same : r.place ≡ i = (let w = r.is in omega (arith, w)) in
      subst (Picked ts) same r.picked
