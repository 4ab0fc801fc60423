-- Tables of weights are read exactly.
use Rattle.std.proofs.Common.{◌≡◌, ℕ, zero, suc, ◌+◌, ◌<◌, ◌≤◌, Bool, true, false, List, [], ◌∷◌, ◌++◌, length, Result, Ok, Err, refl, sym, ap, subst, ◌∙◌, arith}
use Rattle.std.specs.Prelude.{◌==◌, ◌&&◌, flat_map, nat_lt, if◌then◌else◌}
use Rattle.std.specs.Fmt.{decimal}
use Rattle.std.proofs.lemmas.List.{append-nil}
use Rattle.std.proofs.lemmas.List.Concat.{flat_map-cons}
use Rattle.std.proofs.lemmas.Bool.{false≢true, eqb-true, eq-eqb, ltb-true, ltb-false, and_parts}
use Rattle.vp_text.specs.Tokens.{IsLiteral, IsNumber}
use Rattle.vp_text.specs.Reading.{◌>>=◌, is_digit}
use Rattle.vp_text.proofs.Exact.{Apart, Parts, IsRight, Exact, right, exact_from, exact_as, Then, Made, made_exact, one_value, ok_value, done}
use Rattle.vp_text.proofs.Numbers.{number_exact}
use Rattle.vp_text.proofs.Fields.{Outside, literal_then, number_then, literal_outside}
use Rattle.vp_text.proofs.Choices.{GoesOn, then_goes, literal_goes, made_goes, number_goes, follows_from}
use Rattle.vp_text.proofs.Repeats.{made_right, with_front, regroup}
use Rattle.vp_base.specs.Tables.{IsShare, AreShares, IsTable}
use Rattle.vp_model.specs.Texts.Fields.{weight_text, table_text}
use Rattle.vp_schedule.specs.TableReading.{begins_space, goes_on, with_first, share_at, shares_at, table_at}
use Rattle.vp_schedule.proofs.Tails.{IsTail, tail_right}

-- ---- a site and its weight

abbrev ShareParts : ℕ → ℕ × ℕ → List ℕ → Type 0
ShareParts above = Then (IsLiteral (32 ∷ [])) (λ _. Then (IsNumber (above + 1) 16) (λ site. Then (IsLiteral (58 ∷ [])) (λ _. Made (IsNumber 1 65535) (λ weight. (site, weight)))))

abbrev pub ShareText : ℕ → ℕ × ℕ → List ℕ → Type 0
ShareText above share text = IsShare above share × (text ≡ weight_text share)

share_to : (above : ℕ) (w : ℕ × ℕ) (t : List ℕ) → ShareParts above w t → ShareText above w t
share_to above w t h =
    let s = h.after in
    let n = s.after.after in
    subst (λ (w : ℕ × ℕ). ShareText above w t) (sym n.is) (
      record { higher = omega (arith, s.before.above); site_fits = s.before.below; some = n.spelled.above; fits = n.spelled.below },
      rw (h.parts, h.before, s.parts, s.before.is, s.after.parts, s.after.before, n.spelled.is) refl,
    )

share_from : (above : ℕ) (w : ℕ × ℕ) (t : List ℕ) → ShareText above w t → ShareParts above w t
share_from above w t h = record {
  first = tt;
  front = 32 ∷ [];
  back = decimal w.0 ++ 58 ∷ decimal w.1;
  before = refl;
  parts = h.1;
  after = record {
    first = w.0;
    front = decimal w.0;
    back = 58 ∷ decimal w.1;
    before = record { is = refl; above = omega (arith, h.0.higher); below = h.0.site_fits };
    parts = refl;
    after = record {
      first = tt;
      front = 58 ∷ [];
      back = decimal w.1;
      before = refl;
      parts = refl;
      after = record { from = w.1; spelled = record { is = refl; above = h.0.some; below = h.0.fits }; is = refl };
    };
  };
}

parts_exact : (above : ℕ) → above < 16 → Exact (ShareParts above) (share_at above)
unfolding share_at
parts_exact above room =
    literal_then (32 ∷ []) (number_then (above + 1) 16 (omega (arith, room)) (omega arith) (λ site. literal_outside is_digit (58 ∷ []) refl)
    (λ site. literal_then (58 ∷ []) (made_exact (λ weight. (site, weight)) (number_exact 1 65535 (omega arith) (omega arith)))))

share_exact : (above : ℕ) → above < 16 → Exact (ShareText above) (share_at above)
share_exact above room = exact_as (share_to above) (share_from above) (parts_exact above room)

parts_go : (above : ℕ) → above < 16 → GoesOn is_digit (ShareParts above)
parts_go above room =
    literal_goes is_digit (32 ∷ []) (then_goes is_digit (one_value (number_exact (above + 1) 16 (omega (arith, room)) (omega arith))) (follows_from is_digit (number_goes (above + 1) 16 (omega arith)) (λ site. literal_outside is_digit (58 ∷ []) refl))
    (λ site. literal_goes is_digit (58 ∷ []) (made_goes is_digit (number_goes 1 65535 (omega arith)))))

share_goes : (above : ℕ) → GoesOn is_digit (ShareText above)
share_goes above = λ a b text x r before longer.
    parts_go above (omega (arith, before.0.higher, before.0.site_fits)) a b text x r (share_from above a text before) (share_from above b (text ++ x ∷ r) longer)

-- ---- those after it

abbrev pub Others : ℕ → List (ℕ × ℕ) → List ℕ → Type 0
Others above ws text = AreShares above ws × (text ≡ table_text ws)

-- the text of one more begins with a space
abbrev rest_of : ℕ × ℕ → List (ℕ × ℕ) → List ℕ
rest_of w ws = (decimal w.0 ++ 58 ∷ decimal w.1) ++ table_text ws

spaced : (w : ℕ × ℕ) (ws : List (ℕ × ℕ)) → table_text (w ∷ ws) ≡ 32 ∷ rest_of w ws
spaced w ws = flat_map-cons weight_text w ws

abbrev Step : ℕ → List (ℕ × ℕ) → List ℕ → Type 0
Step above = Then (ShareText above) (λ w. Made (Others w.0) (λ ws. w ∷ ws))

step_to : (above : ℕ) (ws : List (ℕ × ℕ)) (t : List ℕ) → Step above ws t → Others above ws t
step_to above ws t h =
    let w = h.first in
    let more = h.after.from in
    subst (λ (ws : List (ℕ × ℕ)). Others above ws t) (sym h.after.is) (
      (h.before.0, h.after.spelled.0),
      h.parts ∙ ap (λ (x : List ℕ). x ++ h.back) h.before.1 ∙ ap (λ (x : List ℕ). weight_text w ++ x) h.after.spelled.1 ∙ sym (flat_map-cons weight_text w more),
    )

step_from : (above : ℕ) (w : ℕ × ℕ) (ws : List (ℕ × ℕ)) (t : List ℕ) → Others above (w ∷ ws) t → Step above (w ∷ ws) t
step_from above w ws t h = record {
  first = w;
  front = weight_text w;
  back = table_text ws;
  before = (h.0.0, refl);
  after = record { from = ws; spelled = (h.0.1, refl); is = refl };
  parts = h.1 ∙ flat_map-cons weight_text w ws;
}

step_spaced : (above : ℕ) (ws : List (ℕ × ℕ)) (t : List ℕ) → Step above ws t → (u : List ℕ) × (t ≡ 32 ∷ u)
step_spaced above ws t h = ((decimal h.first.0 ++ 58 ∷ decimal h.first.1) ++ h.back, h.parts ∙ ap (λ (x : List ℕ). x ++ h.back) h.before.1)

others_tail : (w : ℕ × ℕ) → IsTail is_digit (Made (Others w.0) (λ ws. w ∷ ws))
others_tail w b c t h = go h.from h.spelled
  where
    go : (ws : List (ℕ × ℕ)) → Others w.0 ws (c ∷ t) → is_digit c ≡ false
    go [] o = absurd (let no : c ∷ t ≡ [] = o.1 in cc)
    go (v ∷ vs) o = let space : c ≡ 32 = (let all : c ∷ t ≡ 32 ∷ rest_of v vs = o.1 ∙ spaced v vs in cc) in ap is_digit space

no_others : (w : ℕ × ℕ) → (ws : List (ℕ × ℕ)) × Made (Others w.0) (λ ws. w ∷ ws) ws []
no_others w = (w ∷ [], record { from = []; spelled = (tt, refl); is = refl })

not_apart : (t u bytes v : List ℕ) → t ≡ 32 ∷ u → bytes ≡ 32 ∷ v → Apart t bytes → ⊥
not_apart t u bytes v e f h = (subst (λ (b : List ℕ). Apart (32 ∷ u) b) f (subst (λ (t : List ℕ). Apart t bytes) e h)) refl

not_parts : (t u bytes v : List ℕ) → t ≡ 32 ∷ u → bytes ≡ 32 ∷ v → Parts t bytes → ⊥
not_parts t u bytes v e f h = (subst (λ (b : List ℕ). Parts (32 ∷ u) b) f (subst (λ (t : List ℕ). Parts t bytes) e h)) refl

-- where none may come, nothing is read
module _ (above : ℕ) (bytes : List ℕ) (stops : (w : ℕ × ℕ) (ws : List (ℕ × ℕ)) (t : List ℕ) → Others above (w ∷ ws) t → Apart t bytes) where
  apart_all : (ws : List (ℕ × ℕ)) (t : List ℕ) → Others above ws t → Apart t bytes
  apart_all [] t h = subst (λ (t : List ℕ). Apart t bytes) (sym h.1) tt
  apart_all (w ∷ ws) t h = stops w ws t h

  abbrev none_read : List ℕ → Result (List (ℕ × ℕ) × List ℕ) ℕ
  none_read b = Ok ([], b)

  none_again : (ws : List (ℕ × ℕ)) (text rest : List ℕ) → bytes ≡ text ++ rest → Others above ws text → none_read bytes ≡ Ok (ws, rest)
  none_again [] text rest at h = ap none_read (at ∙ ap (λ (t : List ℕ). t ++ rest) h.1)
  none_again (w ∷ ws) text rest at h =
      let is : text ≡ 32 ∷ rest_of w ws = h.1 ∙ spaced w ws in
      absurd (not_apart text (rest_of w ws) bytes (rest_of w ws ++ rest) is (at ∙ ap (λ (t : List ℕ). t ++ rest) is) (stops w ws text h))

  none_right : IsRight (Others above) bytes (Ok ([], bytes))
  none_right = record {
    ok = λ ws rest h.
        let same : ([], bytes) ≡ (ws, rest) = ok_value ([], bytes) (ws, rest) h in
        let here : bytes ≡ rest = ap (λ (p : List (ℕ × ℕ) × List ℕ). p.1) same in
        record {
          text = [];
          spelled = subst (λ (ws : List (ℕ × ℕ)). Others above ws []) (ap (λ (p : List (ℕ × ℕ) × List ℕ). p.0) same) (tt, refl);
          parts = here;
          ends = λ b r k. subst (Apart r) here (apart_all b r k);
        };
    err = λ left h. absurd (let no : done ([], bytes) ≡ Err left = h in cc);
    again = λ ws text rest at k ends. none_again ws text rest at k;
  }

-- where one has to come
module _ (above : ℕ) (room : above < 16) (cs : List ℕ) {r : Result (List (ℕ × ℕ) × List ℕ) ℕ} (e : IsRight (Step above) (32 ∷ cs) r) where
  some_ends : (text rest : List ℕ) (ws : List (ℕ × ℕ)) → Step above ws text → ((b : List (ℕ × ℕ)) (s : List ℕ) → Step above b (text ++ s) → Apart s rest) → (b : List (ℕ × ℕ)) (s : List ℕ) → Others above b (text ++ s) → Apart s rest
  some_ends text rest ws h ends [] s k =
      let u = step_spaced above ws text h in
      absurd (let no : (32 ∷ u.0) ++ s ≡ [] = ap (λ (t : List ℕ). t ++ s) (sym u.1) ∙ k.1 in cc)
  some_ends text rest ws h ends (w ∷ b) s k = ends (w ∷ b) s (step_from above w b (text ++ s) k)

  begun : (front rest : List ℕ) (ws : List (ℕ × ℕ)) (more : List ℕ) → 32 ∷ cs ≡ front ++ rest → Step above ws (front ++ more) → ((b : List (ℕ × ℕ)) (s : List ℕ) → Step above b (front ++ s) → Parts s rest) → (s : List ℕ) → front ++ s ≡ [] → ⊥
  begun [] rest ws more at h diverges s none =
      let u = step_spaced above ws more h in
      not_parts more u.0 rest cs u.1 (sym at) (diverges ws more h)
  begun (c ∷ front) rest ws more at h diverges s none = cc

  some_diverges : (front rest : List ℕ) (ws : List (ℕ × ℕ)) (more : List ℕ) → 32 ∷ cs ≡ front ++ rest → Step above ws (front ++ more) → ((b : List (ℕ × ℕ)) (s : List ℕ) → Step above b (front ++ s) → Parts s rest) → (b : List (ℕ × ℕ)) (s : List ℕ) → Others above b (front ++ s) → Parts s rest
  some_diverges front rest ws more at h diverges [] s k = absurd (begun front rest ws more at h diverges s k.1)
  some_diverges front rest ws more at h diverges (w ∷ b) s k = diverges (w ∷ b) s (step_from above w b (front ++ s) k)

  some_again : (ws : List (ℕ × ℕ)) (text rest : List ℕ) → 32 ∷ cs ≡ text ++ rest → Others above ws text → ((b : List (ℕ × ℕ)) (s : List ℕ) → Others above b (text ++ s) → Apart s rest) → r ≡ Ok (ws, rest)
  some_again [] text rest at h ends =
      let w : ℕ × ℕ = (above + 1, 1) in
      let here : rest ≡ 32 ∷ cs = sym (at ∙ ap (λ (t : List ℕ). t ++ rest) h.1) in
      let next : Others above (w ∷ []) (table_text (w ∷ [])) = ((record { higher = omega arith; site_fits = omega (arith, room); some = omega arith; fits = omega arith }, tt), refl) in
      let apart = ends (w ∷ []) (table_text (w ∷ [])) (subst (Others above (w ∷ [])) (ap (λ (t : List ℕ). t ++ table_text (w ∷ [])) (sym h.1)) next) in
      absurd (not_apart (table_text (w ∷ [])) (rest_of w []) rest cs (spaced w []) here apart)
  some_again (w ∷ ws) text rest at h ends = e.again (w ∷ ws) text rest at (step_from above w ws text h) (λ b s k. ends b s (step_to above b (text ++ s) k))

  some_right : IsRight (Others above) (32 ∷ cs) r
  some_right = record {
    ok = λ ws rest h. let p = e.ok ws rest h in record { text = p.text; spelled = step_to above ws p.text p.spelled; parts = p.parts; ends = some_ends p.text rest ws p.spelled p.ends };
    err = λ left h. let p = e.err left h in record {
      front = p.front;
      rest = p.rest;
      parts = p.parts;
      left_is = p.left_is;
      begins = record { value = p.begins.value; more = p.begins.more; spelled = step_to above p.begins.value (p.front ++ p.begins.more) p.begins.spelled };
      diverges = some_diverges p.front p.rest p.begins.value p.begins.more p.parts p.begins.spelled p.diverges;
    };
    again = λ ws text rest at k ends. some_again ws text rest at k ends;
  }

no_room : (above : ℕ) (bytes : List ℕ) → 16 ≤ above → (w : ℕ × ℕ) (ws : List (ℕ × ℕ)) (t : List ℕ) → Others above (w ∷ ws) t → Apart t bytes
no_room above bytes le w ws t h = absurd (omega (arith, le, h.0.0.higher, h.0.0.site_fits))

no_space : (above : ℕ) (bytes : List ℕ) → begins_space bytes ≡ false → (w : ℕ × ℕ) (ws : List (ℕ × ℕ)) (t : List ℕ) → Others above (w ∷ ws) t → Apart t bytes
no_space above bytes off w ws t h = subst (λ (t : List ℕ). Apart t bytes) (sym (h.1 ∙ spaced w ws)) (go bytes off)
  where
    go : (bytes : List ℕ) → begins_space bytes ≡ false → Apart (32 ∷ rest_of w ws) bytes
    go [] off = tt
    go (c ∷ cs) off = λ same. false≢true (sym off ∙ eq-eqb c 32 (sym same))

-- the reading of a share and those after it, given that of those after it
step_right : (above n : ℕ) (room : above < 16) (bytes : List ℕ) → ((next : ℕ) → above < next → (mid : List ℕ) → IsRight (Others next) mid (shares_at n next mid))
    → IsRight (Step above) bytes (share_at above bytes >>= λ share. with_first share.0 (shares_at n share.0.0 share.1))
step_right above n room bytes rest =
    let e = share_exact above room in
    tail_right (ShareText above) (λ (w : ℕ × ℕ). Made (Others w.0) (λ ws. w ∷ ws)) is_digit (one_value e) (share_goes above) others_tail no_others (right e bytes)
    (λ w mid h. made_right (λ ws. w ∷ ws) (rest w.0 (e.ok bytes w mid h).spelled.0.higher mid))

-- a share more, or none
reads_on : (above n : ℕ) → ((next : ℕ) → above < next → (mid : List ℕ) → IsRight (Others next) mid (shares_at n next mid)) → (bytes : List ℕ) → IsRight (Others above) bytes (shares_at (suc n) above bytes)
unfolding shares_at
reads_on above n rest bytes = go (nat_lt above 16) refl bytes
  where
    here : above < 16 → (bytes : List ℕ) → IsRight (Step above) bytes (share_at above bytes >>= λ share. with_first share.0 (shares_at n share.0.0 share.1))
    here room bytes = step_right above n room bytes rest

    spaced : nat_lt above 16 ≡ true → (c : ℕ) (cs : List ℕ) (b : Bool) → (c == 32) ≡ b
        → IsRight (Others above) (c ∷ cs) (if b then (share_at above (c ∷ cs) >>= λ share. with_first share.0 (shares_at n share.0.0 share.1)) else Ok ([], c ∷ cs))
    spaced on c cs true is =
        let room : above < 16 = ltb-true above 16 on in
        let space : 32 ≡ c = sym (eqb-true c 32 is) in
        subst (λ (c : ℕ). IsRight (Others above) (c ∷ cs) (share_at above (c ∷ cs) >>= λ share. with_first share.0 (shares_at n share.0.0 share.1))) space (some_right above room cs (here room (32 ∷ cs)))
    spaced on c cs false is = none_right above (c ∷ cs) (no_space above (c ∷ cs) is)

    spaced_or_not : nat_lt above 16 ≡ true → (bytes : List ℕ)
        → IsRight (Others above) bytes (if begins_space bytes then (share_at above bytes >>= λ share. with_first share.0 (shares_at n share.0.0 share.1)) else Ok ([], bytes))
    spaced_or_not on [] = none_right above [] (no_space above [] refl)
    spaced_or_not on (c ∷ cs) = spaced on c cs (c == 32) refl

    go : (b : Bool) → nat_lt above 16 ≡ b → (bytes : List ℕ)
        → IsRight (Others above) bytes (if b && begins_space bytes then (share_at above bytes >>= λ share. with_first share.0 (shares_at n share.0.0 share.1)) else Ok ([], bytes))
    go true on bytes = spaced_or_not on bytes
    go false off bytes = none_right above bytes (no_room above bytes (ltb-false above 16 off))

reads : (n above : ℕ) → 16 ≤ above + n → (bytes : List ℕ) → IsRight (Others above) bytes (shares_at n above bytes)
unfolding shares_at
reads zero above le bytes = none_right above bytes (no_room above bytes (omega (arith, le)))
reads (suc n) above le bytes = reads_on above n (λ next lt mid. reads n next (omega (arith, le, lt)) mid) bytes

-- ---- tables

abbrev pub TableText : List (ℕ × ℕ) → List ℕ → Type 0
TableText table text = IsTable table × (text ≡ table_text table)

few_shares : (above : ℕ) (ws : List (ℕ × ℕ)) → above ≤ 16 → AreShares above ws → above + length ws ≤ 16
few_shares above [] le h = omega (arith, le)
few_shares above (w ∷ ws) le h = let rest = few_shares w.0 ws h.0.site_fits h.1 in omega (arith, rest, h.0.higher)

table_to : (table : List (ℕ × ℕ)) (t : List ℕ) → Step 0 table t → TableText table t
table_to table t h =
    let o = step_to 0 table t h in
    (record { held = omega (arith, ap length h.after.is); few = omega (arith, few_shares 0 table (omega arith) o.0); shares_are = o.0 }, o.1)

table_from : (table : List (ℕ × ℕ)) (t : List ℕ) → TableText table t → Step 0 table t
table_from [] t h = absurd (omega (arith, h.0.held))
table_from (w ∷ ws) t h = step_from 0 w ws t (h.0.shares_are, h.1)

pub table_exact : Exact TableText table_at
unfolding table_at
table_exact = exact_as table_to table_from (exact_from (λ bytes. step_right 0 16 (omega arith) bytes (λ next lt mid. reads 16 next (omega arith) mid)))

pub table_outside : (admits : ℕ → Bool) → admits 32 ≡ false → (table : List (ℕ × ℕ)) (t : List ℕ) → TableText table t → Outside admits t
table_outside admits off [] t h = absurd (omega (arith, h.0.held))
table_outside admits off (w ∷ ws) t h = subst (Outside admits) (sym (h.1 ∙ spaced w ws)) off

-- ---- the loop over the sites

-- what is still to be read after a turn
abbrev pub Left : List (ℕ × ℕ) → ℕ → List ℕ → Result (List (ℕ × ℕ) × List ℕ) ℕ → Type 0
Left front above bytes total = (n : ℕ) × (16 ≤ above + n) × (with_front front (shares_at n above bytes) ≡ total)

pub table_start : (bytes : List ℕ) (w : ℕ × ℕ) (rest : List ℕ) → share_at 0 bytes ≡ Ok (w, rest) → Left (w ∷ []) w.0 rest (table_at bytes)
unfolding table_at
table_start bytes w rest e = (16, omega arith, rw e refl)

pub table_fails : (bytes : List ℕ) (left : ℕ) → share_at 0 bytes ≡ Err left → table_at bytes ≡ Err left
unfolding table_at
table_fails bytes left e = rw e refl

shares_step : (n above : ℕ) (bytes : List ℕ) (w : ℕ × ℕ) (rest : List ℕ) → goes_on above bytes ≡ true → share_at above bytes ≡ Ok (w, rest) → shares_at (suc n) above bytes ≡ with_first w (shares_at n w.0 rest)
unfolding shares_at
shares_step n above bytes w rest on e = rw (on, e) refl

shares_stop : (n above : ℕ) (bytes : List ℕ) → goes_on above bytes ≡ false → shares_at n above bytes ≡ Ok ([], bytes)
unfolding shares_at
shares_stop zero above bytes off = refl
shares_stop (suc n) above bytes off = rw off refl

shares_err : (n above : ℕ) (bytes : List ℕ) (left : ℕ) → goes_on above bytes ≡ true → share_at above bytes ≡ Err left → shares_at (suc n) above bytes ≡ Err left
unfolding shares_at
shares_err n above bytes left on e = rw (on, e) refl

below_last : (above : ℕ) (bytes : List ℕ) → goes_on above bytes ≡ true → above < 16
below_last above bytes on = ltb-true above 16 (and_parts (nat_lt above 16) (begins_space bytes) on).0

pub shares_go : (front : List (ℕ × ℕ)) (above : ℕ) (bytes : List ℕ) (w : ℕ × ℕ) (rest : List ℕ) (total : Result (List (ℕ × ℕ) × List ℕ) ℕ) → goes_on above bytes ≡ true → share_at above bytes ≡ Ok (w, rest) → above < w.0 → Left front above bytes total
    → Left (front ++ w ∷ []) w.0 rest total
shares_go front above bytes w rest total on e lt l = go l.0 l.1 l.2
  where
    go : (n : ℕ) → 16 ≤ above + n → with_front front (shares_at n above bytes) ≡ total → Left (front ++ w ∷ []) w.0 rest total
    go zero le so_far = absurd (omega (arith, le, below_last above bytes on))
    go (suc n) le so_far =
        (n, omega (arith, le, lt), sym (regroup front w (shares_at n w.0 rest)) ∙ sym (ap (with_front front) (shares_step n above bytes w rest on e)) ∙ so_far)

pub shares_end : (front : List (ℕ × ℕ)) (above : ℕ) (bytes : List ℕ) (total : Result (List (ℕ × ℕ) × List ℕ) ℕ) → goes_on above bytes ≡ false → Left front above bytes total → total ≡ Ok (front, bytes)
shares_end front above bytes total off l =
    sym l.2 ∙ ap (with_front front) (shares_stop l.0 above bytes off) ∙ ap (λ (ws : List (ℕ × ℕ)). Ok (ws, bytes)) (append-nil front)

pub shares_fail : (front : List (ℕ × ℕ)) (above : ℕ) (bytes : List ℕ) (left : ℕ) (total : Result (List (ℕ × ℕ) × List ℕ) ℕ) → goes_on above bytes ≡ true → share_at above bytes ≡ Err left → Left front above bytes total → total ≡ Err left
shares_fail front above bytes left total on e l = go l.0 l.1 l.2
  where
    go : (n : ℕ) → 16 ≤ above + n → with_front front (shares_at n above bytes) ≡ total → total ≡ Err left
    go zero le so_far = absurd (omega (arith, le, below_last above bytes on))
    go (suc n) le so_far = sym so_far ∙ ap (with_front front) (shares_err n above bytes left on e)

-- what is read is a table
pub table_read : (bytes : List ℕ) (table : List (ℕ × ℕ)) (rest : List ℕ) → table_at bytes ≡ Ok (table, rest) → IsTable table
table_read bytes table rest e = (table_exact.ok bytes table rest e).spelled.0
