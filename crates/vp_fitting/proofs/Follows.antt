-- How far a site has come in what its recordings ask.
use Rattle.std.proofs.Common.{◌≡◌, ◌∙◌, ap, sym, subst, ℕ, ◌+◌, ◌-◌, ◌≤◌, ◌<◌, ◌^◌, suc, Bool, true, false, cond, List, ◌∷◌, [], ◌++◌, length, refl, arith, append_assoc, ⊎_elim}
use Rattle.std.specs.Prelude.{⊤, ◌==◌}
use Rattle.std.proofs.lemmas.Bool.{eqb-true}
use Rattle.vp_model.specs.Types.{Input}
use Rattle.vp_runs.specs.declared.arrival.Arrival.{Arrival}
use Rattle.vp_runs.specs.declared.arrival.Arrival.TheVariants.{Bad, Stray, Stops, Gives}
use Rattle.vp_recording.specs.declared.recording.Recording.{Recording}
use Rattle.vp_recording.specs.declared.recording.Turn.{Turn}
use Rattle.vp_recording.specs.Recordings.{AreAbove}
use Rattle.vp_fitting.specs.Asked.{Due, dues_in, dues_from, dues_of, outs_of, asks}
use Rattle.vp_fitting.specs.Fitting.{Deed, again_then, asked_then, asked_from, asked_of}
use Rattle.vp_fitting.specs.Merged.{tells}
use Rattle.vp_fitting.specs.Laws.{IsTold, AreTold}
use Rattle.vp_laws.proofs.Lists.Members.{Has, has_none, has_cons, has_first, has_more}

-- ---- turns in lives that rise

abbrev pub AreDue : ℕ → List Due → Type 0
AreDue life [] = ⊤
AreDue life (d ∷ dues) = (life ≤ d.life) × (d.life < 2 ^ 32) × AreDue d.life dues

due_from : (a b : ℕ) (dues : List Due) → a ≤ b → AreDue b dues → AreDue a dues
due_from a b [] le h = tt
due_from a b (d ∷ dues) le h = ((let z = h.0 in omega (arith, z, le)), h.1, h.2)

due_in : (life : ℕ) (ended : Bool) (number : ℕ) (turns : List Turn) (more : List Due) → life < 2 ^ 32 → AreDue life more → AreDue life (dues_in life ended number turns ++ more)
due_in life ended number [] more fits h = h
due_in life ended number (t ∷ turns) more fits h = (omega arith, fits, due_in life ended (number + 1) turns more fits h)

pub dues_rise : (site life number : ℕ) (recordings : List Recording) → AreAbove site life recordings → ((r : Recording) → Has recordings r → r.life < 2 ^ 32) → AreDue (life + 1) (dues_from site number recordings)
dues_rise site life number [] above fits = tt
dues_rise site life number (r ∷ recordings) above fits =
    go (r.site == site) refl above.1 (λ more. dues_rise site r.life (number + length r.turns) recordings more rest) (λ more. dues_rise site life number recordings more rest)
  where
    rest : (r2 : Recording) → Has recordings r2 → r2.life < 2 ^ 32
    rest r2 h = fits r2 (has_more r recordings r2 h)

    go : (b : Bool) → (r.site == site) ≡ b → AreAbove site (cond b r.life life) recordings
        → (AreAbove site r.life recordings → AreDue (r.life + 1) (dues_from site (number + length r.turns) recordings)) → (AreAbove site life recordings → AreDue (life + 1) (dues_from site number recordings))
        → AreDue (life + 1) (cond b (dues_in r.life r.ended number r.turns ++ dues_from site (number + length r.turns) recordings) (dues_from site number recordings))
    go true t more here other =
        let up : life < r.life = above.0 (eqb-true r.site site t) in
        due_from (life + 1) r.life _ (omega (arith, up)) (due_in r.life r.ended number r.turns _ (fits r (has_first r recordings)) (due_from r.life (r.life + 1) _ (omega arith) (here more)))
    go false t more here other = other more

-- ---- numbers

-- turns that are numbered from this number on
abbrev pub AreNumbered : ℕ → List Due → Type 0
AreNumbered n [] = ⊤
AreNumbered n (d ∷ dues) = (d.number ≡ n) × AreNumbered (n + 1) dues

numbered_in : (life : ℕ) (ended : Bool) (n : ℕ) (turns : List Turn) (more : List Due) → AreNumbered (n + length turns) more → AreNumbered n (dues_in life ended n turns ++ more)
numbered_in life ended n [] more h = let e : n + 0 ≡ n = omega arith in subst (λ (n : ℕ). AreNumbered n more) e h
numbered_in life ended n (t ∷ turns) more h =
    let e : n + suc (length turns) ≡ (n + 1) + length turns = omega arith in
    (refl, numbered_in life ended (n + 1) turns more (subst (λ (n : ℕ). AreNumbered n more) e h))

pub dues_numbered : (site n : ℕ) (recordings : List Recording) → AreNumbered n (dues_from site n recordings)
dues_numbered site n [] = tt
dues_numbered site n (r ∷ recordings) = go (r.site == site) (dues_numbered site (n + length r.turns) recordings) (dues_numbered site n recordings)
  where
    go : (b : Bool) → AreNumbered (n + length r.turns) (dues_from site (n + length r.turns) recordings) → AreNumbered n (dues_from site n recordings)
        → AreNumbered n (cond b (dues_in r.life r.ended n r.turns ++ dues_from site (n + length r.turns) recordings) (dues_from site n recordings))
    go true here other = numbered_in r.life r.ended n r.turns (dues_from site (n + length r.turns) recordings) here
    go false here other = other

number_above : (n : ℕ) (dues : List Due) → AreNumbered n dues → (d : Due) → Has dues d → n ≤ d.number
number_above n [] h d has = absurd (has_none d has)
number_above n (e ∷ dues) h d has = ⊎_elim
    (λ (same : e ≡ d). let z : e.number ≡ d.number = ap (λ (d : Due). d.number) same in let y = h.0 in omega (arith, z, y))
    (λ (more : Has dues d). let z = number_above (n + 1) dues h.1 d more in omega (arith, z))
    (has_cons e dues d has)

-- a number is of one turn
pub one_due : (n : ℕ) (dues : List Due) → AreNumbered n dues → (a b : Due) → Has dues a → Has dues b → a.number ≡ b.number → a ≡ b
one_due n [] h a b ha hb e = absurd (has_none a ha)
one_due n (d ∷ dues) h a b ha hb e = ⊎_elim
    (λ (here : d ≡ a). ⊎_elim
    (λ (too : d ≡ b). sym here ∙ too)
    (λ (more : Has dues b). absurd (let z = number_above (n + 1) dues h.1 b more in let y : d.number ≡ a.number = ap (λ (d : Due). d.number) here in let x = h.0 in omega (arith, z, y, x, e)))
    (has_cons d dues b hb))
    (λ (more : Has dues a). ⊎_elim
    (λ (here : d ≡ b). absurd (let z = number_above (n + 1) dues h.1 a more in let y : d.number ≡ b.number = ap (λ (d : Due). d.number) here in let x = h.0 in omega (arith, z, y, x, e)))
    (λ (too : Has dues b). one_due (n + 1) dues h.1 a b more too e)
    (has_cons d dues b hb))
    (has_cons d dues a ha)

-- ---- what is asked at a turn

no_lives : (n : ℕ) → n - n ≡ 0
no_lives n = omega arith

-- in the life of the turn nothing is before its input
pub asked_here : (id : ℕ) (d : Due) (dues : List Due) → asked_from id d.life (d ∷ dues) ≡ asked_then (asks id d.turn.frame) (asked_from id d.life dues)
asked_here id d dues = ap (λ (n : ℕ). again_then n (asked_then (asks id d.turn.frame) (asked_from id d.life dues))) (no_lives d.life)

one_less : (a b : ℕ) → a < b → b - a ≡ suc (b - (a + 1))
one_less a b h = omega (arith, h)

-- in a life before it a crash and a start do
pub asked_again : (id life : ℕ) (d : Due) (dues : List Due) → life < d.life → asked_from id life (d ∷ dues) ≡ Deed.crashes ∷ Deed.restarts ∷ asked_from id (life + 1) (d ∷ dues)
asked_again id life d dues up = ap (λ (n : ℕ). again_then n (asked_then (asks id d.turn.frame) (asked_from id d.life dues))) (one_less life d.life up)

-- ---- how far a site has come

module _ (recordings : List Recording) (id : ℕ) where
  pub record Follows (deeds : List Deed) (given : List (List (List ℕ))) (life : ℕ) (dues : List Due) : Type 0 where
    pub due : AreDue life dues
    pub asked : deeds ++ asked_from id life dues ≡ asked_of id recordings
    pub told : (more : List (List (List ℕ))) → AreTold id dues more → AreTold id (dues_of id recordings) (given ++ more)
    pub back : (more : List (List (List ℕ))) → AreTold id (dues_of id recordings) (given ++ more) → AreTold id dues more
    pub before : List Due
    pub part : before ++ dues ≡ dues_of id recordings

  pub follows_first : AreDue 1 (dues_of id recordings) → Follows [] [] 1 (dues_of id recordings)
  follows_first due = record { due = due; asked = refl; told = λ more h. h; back = λ more h. h; before = []; part = refl }

  pub follows_same : (deeds new : List Deed) (given made : List (List (List ℕ))) (life : ℕ) (dues : List Due) → new ≡ deeds → made ≡ given → Follows deeds given life dues → Follows new made life dues
  follows_same deeds new given made life dues d g h = rw (d, g) h

  module _ (deeds : List Deed) (given : List (List (List ℕ))) (d : Due) (dues : List Due) where
    pub follows_again : (life : ℕ) → life < d.life → Follows deeds given life (d ∷ dues) → Follows ((deeds ++ Deed.crashes ∷ []) ++ Deed.restarts ∷ []) given (life + 1) (d ∷ dues)
    follows_again life up h =
        let rest = asked_from id (life + 1) (d ∷ dues) in
        record {
          due = (omega (arith, up), h.due.1, h.due.2);
          asked = append_assoc (deeds ++ Deed.crashes ∷ []) (Deed.restarts ∷ []) rest ∙ append_assoc deeds (Deed.crashes ∷ []) (Deed.restarts ∷ rest) ∙ ap (λ (more : List Deed). deeds ++ more) (sym (asked_again id life d dues up)) ∙ h.asked;
          told = h.told;
          back = h.back;
          before = h.before;
          part = h.part;
        }

    pub asked_now : Follows deeds given d.life (d ∷ dues) → deeds ++ asked_then (asks id d.turn.frame) (asked_from id d.life dues) ≡ asked_of id recordings
    asked_now h = ap (λ (more : List Deed). deeds ++ more) (sym (asked_here id d dues)) ∙ h.asked

    parts : Follows deeds given d.life (d ∷ dues) → (before : List Due) × (before ++ dues ≡ dues_of id recordings)
    parts h = (h.before ++ d ∷ [], append_assoc h.before (d ∷ []) dues ∙ h.part)

    -- the turn gives an input, of which came these frames
    pub follows_takes : (input : Input) (made : List (List ℕ)) → asks id d.turn.frame ≡ Gives input → tells d.short (outs_of d) made ≡ true → Follows deeds given d.life (d ∷ dues)
        → Follows (deeds ++ Deed.takes input ∷ []) (given ++ made ∷ []) d.life dues
    follows_takes input made a t h =
        record {
          due = h.due.2;
          asked = append_assoc deeds (Deed.takes input ∷ []) (asked_from id d.life dues) ∙ ap (λ (a : Arrival). deeds ++ asked_then a (asked_from id d.life dues)) (sym a) ∙ asked_now h;
          told = λ more k. subst (AreTold id (dues_of id recordings)) (sym (append_assoc given (made ∷ []) more)) (h.told (made ∷ more) (subst (λ (a : Arrival). IsTold d a (AreTold id dues) (made ∷ more)) (sym a) (made, more, refl, t, k)));
          back = λ more k.
              let z : AreTold id (d ∷ dues) (made ∷ more) = h.back (made ∷ more) (subst (AreTold id (dues_of id recordings)) (append_assoc given (made ∷ []) more) k) in
              rest_of more (subst (λ (a : Arrival). IsTold d a (AreTold id dues) (made ∷ more)) a z);
          before = (parts h).0;
          part = (parts h).1;
        }
      where
        rest_of : (more : List (List (List ℕ))) → IsTold d (Gives input) (AreTold id dues) (made ∷ more) → AreTold id dues more
        rest_of more k = let same : k.1 ≡ more = (let z = k.2 in cc) in subst (AreTold id dues) same k.4

    -- it stops the node, and nothing is recorded as handed over
    pub follows_stops : asks id d.turn.frame ≡ Stops → outs_of d ≡ [] → Follows deeds given d.life (d ∷ dues) → Follows deeds given d.life dues
    follows_stops a none h =
        record {
          due = h.due.2;
          asked = ap (λ (a : Arrival). deeds ++ asked_then a (asked_from id d.life dues)) (sym a) ∙ asked_now h;
          told = λ more k. h.told more (subst (λ (a : Arrival). IsTold d a (AreTold id dues) more) (sym a) (none, k));
          back = λ more k. (rest_of more (subst (λ (a : Arrival). IsTold d a (AreTold id dues) more) a (h.back more k)));
          before = (parts h).0;
          part = (parts h).1;
        }
      where
        rest_of : (more : List (List (List ℕ))) → IsTold d Stops (AreTold id dues) more → AreTold id dues more
        rest_of more k = k.1

    -- ---- where the recording isn't what was given, no schedule that has done the same so far gives what it says

    abbrev Onward : List (List (List ℕ)) → Type 0
    Onward more = AreTold id (dues_of id recordings) (given ++ more)

    came_to : (a : Arrival) (more : List (List (List ℕ))) → asks id d.turn.frame ≡ a → Follows deeds given d.life (d ∷ dues) → Onward more → IsTold d a (AreTold id dues) more
    came_to a more is h k = subst (λ (b : Arrival). IsTold d b (AreTold id dues) more) is (h.back more k)

    pub gives_other : (input : Input) (made : List (List ℕ)) (more : List (List (List ℕ))) → asks id d.turn.frame ≡ Gives input → tells d.short (outs_of d) made ≡ false → Follows deeds given d.life (d ∷ dues)
        → Onward (made ∷ more) → ⊥
    gives_other input made more is unlike h k =
        let r = came_to (Gives input) (made ∷ more) is h k in
        let same : r.0 ≡ made = (let z = r.2 in cc) in
        let yes : tells d.short (outs_of d) made ≡ true = subst (λ (m : List (List ℕ)). tells d.short (outs_of d) m ≡ true) same r.3 in
        absurd cc

    none_stop : (short : Bool) (outs : List (List ℕ)) → outs ≡ [] → tells short outs [] ≡ false → ⊥
    none_stop true [] e f = absurd cc
    none_stop false [] e f = absurd cc
    none_stop short (out ∷ outs) e f = absurd cc

    pub stops_other : (more : List (List (List ℕ))) → asks id d.turn.frame ≡ Stops → tells d.short (outs_of d) [] ≡ false → Follows deeds given d.life (d ∷ dues) → Onward more → ⊥
    stops_other more is unlike h k = none_stop d.short (outs_of d) (came_to Stops more is h k).0 unlike

    pub bad_other : (at : ℕ) (more : List (List (List ℕ))) → asks id d.turn.frame ≡ Bad at → Follows deeds given d.life (d ∷ dues) → Onward more → ⊥
    bad_other at more is h k = came_to (Bad at) more is h k

    pub stray_other : (more : List (List (List ℕ))) → asks id d.turn.frame ≡ Stray → Follows deeds given d.life (d ∷ dues) → Onward more → ⊥
    stray_other more is h k = came_to Stray more is h k

-- a frame that stops a node is recorded without datagrams
pub none_recorded : (short : Bool) (outs : List (List ℕ)) → tells short outs [] ≡ true → outs ≡ []
none_recorded short [] e = refl
none_recorded short (out ∷ outs) e = absurd cc
