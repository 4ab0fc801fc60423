-- The messages on a sheet are those that were sent.
use Rattle.std.proofs.Common.{◌≡◌, ◌∙◌, ℕ, zero, suc, Bool, true, false, List, [], ◌∷◌, ◌++◌, refl, sym, ap, subst, ⊎_elim, arith, length-append, ◌+◌, length}
use Rattle.std.specs.Prelude.{⊤, if◌then◌else◌, Some, slice_get}
use Rattle.std.specs.List.{Contains}
use Rattle.vp_model.specs.Types.{Commit, Reply, Sent, Shown}
use Rattle.vp_model.specs.Types.shown
use Rattle.vp_model.specs.Catalogue.{Catalogue}
use Rattle.vp_model.specs.Texts.Messages.{message_text}
use Rattle.vp_model.specs.World.{Moment, WorldState, next, start_world}
use Rattle.vp_pictures.specs.Sheets.{mark_at}
use Rattle.vp_pictures.specs.Steps.{is_drawn}
use Rattle.vp_pictures.specs.declared.sheet.Mark.{Mark}
use Rattle.vp_pictures.specs.declared.sheet.Part.{Part}
use Rattle.vp_pictures.specs.declared.sheet.Sheet.{Sheet}
use Rattle.vp_drawing.specs.Moments.{draw_moment, draw_moments}
use Rattle.vp_drawing.specs.Rows.{Sending, Turn, row_after, row_sent}
use Rattle.vp_drawing.proofs.Adding.{mark, marks_in, marks_of, marks_shown, turned}
use Rattle.vp_drawing.proofs.Lists.{at_in, in_cases, in_first, in_none, in_rest}
use Rattle.vp_drawing.proofs.Turns.{Follows, IsFirst, at_place, follows_split, found, lines_so, messages_in, next_sends, part_so, there, top_sheet, top_tops, world_after}

-- ---- the messages of one step

abbrev pub row_at : Bool → ℕ → ℕ → ℕ
row_at drawn r i = if drawn then r + i else r

row_zero : (drawn : Bool) (r : ℕ) → r ≡ row_at drawn r 0
row_zero true r = omega arith
row_zero false r = refl

row_next : (drawn : Bool) (r i : ℕ) → row_at drawn (if drawn then r + 1 else r) i ≡ row_at drawn r (suc i)
row_next true r i = omega arith
row_next false r i = refl

-- the row of a message in a step that begins on row l, after these commits
line_so : (drawn : Bool) (l c i : ℕ) → row_at drawn (let r = if drawn then l + 1 else l in if drawn then r + c else r) i ≡ l + (if drawn then 1 + c + i else 0)
line_so true l c i = omega arith
line_so false l c i = omega arith

module _ (catalogue : Catalogue) (drawn : Bool) where
  abbrev the_mark : ℕ → ℕ → Sent → Mark
  the_mark r n sent = mark catalogue drawn r n sent

  same_mark : (r r' n n' : ℕ) (sent : Sent) → r ≡ r' → n ≡ n' → the_mark r n sent ≡ the_mark r' n' sent
  same_mark r r' n n' sent e f = ap (λ k. the_mark k n sent) e ∙ ap (λ k. the_mark r' k sent) f

  marks_found : (r n : ℕ) (messages : List Sent) (m : Mark) → Contains (marks_of catalogue drawn r n messages) m
      → (i : ℕ) × (sent : Sent) × (slice_get messages i ≡ Some sent) × (m ≡ the_mark (row_at drawn r i) (n + i) sent)
  marks_found r n [] m h = absurd (in_none m h)
  marks_found r n (sent ∷ rest) m h =
      let next = if drawn then r + 1 else r in
      ⊎_elim (λ e. (0, sent, refl, sym e ∙ same_mark r (row_at drawn r 0) n (n + 0) sent (row_zero drawn r) (omega arith)))
      (λ later. let it = marks_found next (n + 1) rest m later in
      (suc it.0, it.1, it.2, it.3 ∙ same_mark (row_at drawn next it.0) (row_at drawn r (suc it.0)) (n + 1 + it.0) (n + suc it.0) it.1 (row_next drawn r it.0) (omega arith)))
      (in_cases (the_mark r n sent) m (marks_of catalogue drawn next (n + 1) rest) h)

  marks_there : (r n : ℕ) (messages : List Sent) (i : ℕ) (sent : Sent) → slice_get messages i ≡ Some sent → Contains (marks_of catalogue drawn r n messages) (the_mark (row_at drawn r i) (n + i) sent)
  marks_there r n [] i sent e = cc
  marks_there r n (x ∷ rest) zero sent e =
      let same : x ≡ sent = cc in
      subst (Contains (marks_of catalogue drawn r n (x ∷ rest)))
      (same_mark r (row_at drawn r 0) n (n + 0) x (row_zero drawn r) (omega arith) ∙ ap (the_mark (row_at drawn r 0) (n + 0)) same)
      (in_first (the_mark r n x) (marks_of catalogue drawn (if drawn then r + 1 else r) (n + 1) rest))
  marks_there r n (x ∷ rest) (suc i) sent e =
      let next = if drawn then r + 1 else r in
      in_rest (the_mark r n x) (the_mark (row_at drawn r (suc i)) (n + suc i) sent) (marks_of catalogue drawn next (n + 1) rest)
      (subst (Contains (marks_of catalogue drawn next (n + 1) rest)) (same_mark (row_at drawn next i) (row_at drawn r (suc i)) (n + 1 + i) (n + suc i) sent (row_next drawn r i) (omega arith)) (marks_there next (n + 1) rest i sent e))

  marks_count : (r n : ℕ) (messages : List Sent) → length (marks_of catalogue drawn r n messages) ≡ length messages
  marks_count r n [] = refl
  marks_count r n (sent ∷ rest) = let more = marks_count (if drawn then r + 1 else r) (n + 1) rest in omega (arith, more)

  shown_count : (r n : ℕ) (what : Shown) → length (marks_shown catalogue drawn r n what) ≡ length (messages_in what)
  shown_count r n (shown.Step commits first messages replies) = marks_count (if drawn then r + length commits else r) n messages
  shown_count r n shown.Nothing = refl
  shown_count r n shown.NoMessage = refl
  shown_count r n (shown.Down site) = refl
  shown_count r n (shown.Parted from to) = refl
  shown_count r n (shown.Up site) = refl
  shown_count r n (shown.Life life) = refl
  shown_count r n (shown.LivesSpent life) = refl

-- ---- they are numbered in the order in which they were sent

abbrev Numbered : ℕ → List Mark → Type 0
Numbered n [] = ⊤
Numbered n (m ∷ ms) = (m.number ≡ n + 1) × Numbered (n + 1) ms

numbered_append : (n : ℕ) (a b : List Mark) → Numbered n a → Numbered (n + length a) b → Numbered n (a ++ b)
numbered_append n [] b ha hb = subst (λ k. Numbered k b) (omega arith) hb
numbered_append n (m ∷ a) b ha hb = (ha.0, numbered_append (n + 1) a b ha.1 (subst (λ k. Numbered k b) (omega arith) hb))

numbered_get : (n : ℕ) (ms : List Mark) (i : ℕ) (m : Mark) → Numbered n ms → slice_get ms i ≡ Some m → m.number ≡ n + i + 1
numbered_get n [] i m h e = cc
numbered_get n (x ∷ ms) zero m h e = let same : x ≡ m = cc in let it : m.number ≡ n + 1 = rw same at h.0 in omega (arith, it)
numbered_get n (x ∷ ms) (suc i) m h e = let it = numbered_get (n + 1) ms i m h.1 e in omega (arith, it)

numbered_at : (n : ℕ) (ms : List Mark) (m : Mark) → Numbered n ms → Contains ms m → (i : ℕ) × (m.number ≡ n + i + 1) × (slice_get ms i ≡ Some m)
numbered_at n [] m h c = absurd (in_none m c)
numbered_at n (x ∷ ms) m h c =
    ⊎_elim (λ e. let it : m.number ≡ n + 1 = rw e at h.0 in (0, omega (arith, it), ap (λ (m : Mark). Some m) e))
    (λ later. let it = numbered_at (n + 1) ms m h.1 later in let number = it.1 in (suc it.0, omega (arith, number), it.2))
    (in_cases x m ms c)

marks_numbered : (catalogue : Catalogue) (drawn : Bool) (r n : ℕ) (messages : List Sent) → Numbered n (marks_of catalogue drawn r n messages)
marks_numbered catalogue drawn r n [] = tt
marks_numbered catalogue drawn r n (sent ∷ rest) = (refl, marks_numbered catalogue drawn (if drawn then r + 1 else r) (n + 1) rest)

shown_numbered : (catalogue : Catalogue) (drawn : Bool) (r n : ℕ) (what : Shown) → Numbered n (marks_shown catalogue drawn r n what)
shown_numbered catalogue drawn r n (shown.Step commits first messages replies) = marks_numbered catalogue drawn (if drawn then r + length commits else r) n messages
shown_numbered catalogue drawn r n shown.Nothing = tt
shown_numbered catalogue drawn r n shown.NoMessage = tt
shown_numbered catalogue drawn r n (shown.Down site) = tt
shown_numbered catalogue drawn r n (shown.Parted from to) = tt
shown_numbered catalogue drawn r n (shown.Up site) = tt
shown_numbered catalogue drawn r n (shown.Life life) = tt
shown_numbered catalogue drawn r n (shown.LivesSpent life) = tt

module _ (catalogue : Catalogue) where
  sheet_numbered : (ms : List Moment) (s : Sheet) → Numbered 0 s.marks → Numbered 0 (draw_moments catalogue ms s).marks
  sheet_numbered [] s h = h
  sheet_numbered (m ∷ ms) s h =
      let drawn = is_drawn s.part m.number in
      let r = if drawn then s.lines + 1 else s.lines in
      sheet_numbered ms (draw_moment catalogue m s)
      (subst (Numbered 0) (sym (turned catalogue m s).marks_are)
      (numbered_append 0 s.marks (marks_in catalogue m s) h (subst (λ k. Numbered k (marks_in catalogue m s)) (omega arith) (shown_numbered catalogue drawn r (length s.marks) m.line.shown))))

  -- as many as there are
  sheet_count : (w : WorldState) (ms : List Moment) (s : Sheet) → Follows catalogue w ms → length s.marks ≡ length w.sent → length (draw_moments catalogue ms s).marks ≡ length (world_after w ms).sent
  sheet_count w [] s all same = same
  sheet_count w (m ∷ ms) s all same =
      let drawn = is_drawn s.part m.number in
      let r = if drawn then s.lines + 1 else s.lines in
      let marks : length (draw_moment catalogue m s).marks ≡ length s.marks + length (marks_in catalogue m s) = ap length (turned catalogue m s).marks_are ∙ length-append s.marks (marks_in catalogue m s) in
      let what : m.line.shown ≡ (next catalogue m.line.event w).shown = ap (λ (m : Moment). m.line.shown) all.0 in
      let new : length (marks_in catalogue m s) ≡ length (messages_in (next catalogue m.line.event w).shown) = shown_count catalogue drawn r (length s.marks) m.line.shown ∙ ap (λ what. length (messages_in what)) what in
      let sent : length m.after.sent ≡ length w.sent + length (messages_in (next catalogue m.line.event w).shown) =
      ap (λ (m : Moment). length m.after.sent) all.0 ∙ ap length (next_sends catalogue m.line.event w).sent ∙ length-append w.sent (messages_in (next catalogue m.line.event w).shown) in
      sheet_count m.after ms (draw_moment catalogue m s) all.1 (omega (arith, marks, new, sent, same))

module _ (catalogue : Catalogue) (part : Part) where
  abbrev pub sheet : List Moment → Sheet
  sheet ms = draw_moments catalogue ms (top_sheet catalogue part)

  abbrev pub FollowsAll : List Moment → Type 0
  FollowsAll ms = Follows catalogue (start_world catalogue) ms

  numbered_all : (ms : List Moment) → Numbered 0 (sheet ms).marks
  numbered_all ms = sheet_numbered catalogue ms (top_sheet catalogue part) (subst (Numbered 0) (sym (top_tops catalogue part).marks_are) tt)

  pub count_all : (ms : List Moment) → FollowsAll ms → length (sheet ms).marks ≡ length (world_after (start_world catalogue) ms).sent
  unfolding start_world
  count_all ms all = sheet_count catalogue (start_world catalogue) ms (top_sheet catalogue part) all (ap length (top_tops catalogue part).marks_are)

  -- what is kept of a message that was sent
  abbrev pub marked : {ms : List Moment} {k : ℕ} → Sending ms k → Mark
  marked {ms} {k} x = record {
    number = k;
    line = row_sent catalogue part x;
    is_drawn = is_drawn part x.turn.now.number;
    from = x.sent.from;
    to = x.sent.to;
    text = message_text catalogue x.sent.message;
  }

  module _ (ms : List Moment) (all : FollowsAll ms) where
    abbrev Of : ℕ → Mark → Type 0
    Of k m = (x : Sending ms k) × (m ≡ marked x)

    module _ (t : Turn ms) where
      abbrev before : Sheet
      before = sheet t.earlier

      abbrev drawn : Bool
      drawn = is_drawn part t.now.number

      abbrev begins : ℕ
      begins = let l = row_after catalogue part t.earlier in if drawn then l + 1 else l

      split : FollowsAll t.earlier × Follows catalogue (world_after (start_world catalogue) t.earlier) (t.now ∷ t.later)
      split = follows_split catalogue (start_world catalogue) t.earlier (t.now ∷ t.later) (subst FollowsAll t.all all)

      count : length before.marks ≡ length (world_after (start_world catalogue) t.earlier).sent
      count = count_all t.earlier split.0

      marks_are : marks_in catalogue t.now before ≡ marks_shown catalogue drawn begins (length before.marks) t.now.line.shown
      marks_are = rw (part_so catalogue part t.earlier, lines_so catalogue part t.earlier) refl

      pub first_so : (commits : List Commit) (first : ℕ) (messages : List Sent) (replies : List Reply) → t.now.line.shown ≡ shown.Step commits first messages replies → first ≡ length before.marks + 1
      first_so commits first messages replies did =
          let w = world_after (start_world catalogue) t.earlier in
          let shows : (next catalogue t.now.line.event w).shown ≡ shown.Step commits first messages replies = sym (ap (λ (m : Moment). m.line.shown) split.1.0) ∙ did in
          let first_is : first ≡ length w.sent + 1 = subst (IsFirst w) shows (next_sends catalogue t.now.line.event w).first in
          first_is ∙ ap (λ n. n + 1) (sym count)

      of_step : (m : Mark) (what : Shown) → t.now.line.shown ≡ what → Contains (marks_shown catalogue drawn begins (length before.marks) what) m → Of m.number m
      of_step m (shown.Step commits first messages replies) did h =
          let n = length before.marks in
          let l = row_after catalogue part t.earlier in
          let c = length commits in
          let it = marks_found catalogue drawn (if drawn then begins + c else begins) n messages m h in
          let first_is = first_so commits first messages replies did in
          let number : m.number ≡ n + it.0 + 1 = ap (λ (m : Mark). m.number) it.3 in
          let x : Sending ms m.number = record { turn = t; commits = commits; first = first; messages = messages; replies = replies; did = did; place = it.0; sent = it.1; listed = it.2; numbered = omega (arith, first_is, number) } in
          (x, it.3 ∙ same_line (row_at drawn (if drawn then begins + c else begins) it.0) (n + it.0 + 1) m.number x (line_so drawn l c it.0) (sym number))
        where
          same_line : (line number k : ℕ) (x : Sending ms k) → line ≡ row_sent catalogue part x → number ≡ k
              → record { number = number; line = line; is_drawn = is_drawn part x.turn.now.number; from = x.sent.from; to = x.sent.to; text = message_text catalogue x.sent.message } ≡ marked x
          same_line line number k x e f = rw (e, f) refl
      of_step m shown.Nothing did h = absurd (in_none m h)
      of_step m shown.NoMessage did h = absurd (in_none m h)
      of_step m (shown.Down site) did h = absurd (in_none m h)
      of_step m (shown.Parted from to) did h = absurd (in_none m h)
      of_step m (shown.Up site) did h = absurd (in_none m h)
      of_step m (shown.Life life) did h = absurd (in_none m h)
      of_step m (shown.LivesSpent life) did h = absurd (in_none m h)

    -- each mark is of a message that was sent
    pub mark_sent : (m : Mark) → Contains (sheet ms).marks m → Of m.number m
    mark_sent m h =
        ⊎_elim (λ old. absurd (in_none m (subst (λ (l : List Mark). Contains l m) (top_tops catalogue part).marks_are old)))
        (λ new. of_step new.0 m new.0.now.line.shown refl (subst (λ (l : List Mark). Contains l m) (marks_are new.0) new.1))
        (found catalogue (λ (s : Sheet). s.marks) (marks_in catalogue) (λ m s. (turned catalogue m s).marks_are) ms (top_sheet catalogue part) m h)

    -- and each message that was sent has one
    pub sent_mark : (k : ℕ) (x : Sending ms k) → Contains (sheet ms).marks (marked x)
    sent_mark k x =
        let t = x.turn in
        let n = length (before t).marks in
        let l = row_after catalogue part t.earlier in
        let c = length x.commits in
        let r = if drawn t then begins t + c else begins t in
        let first_is = first_so t x.commits x.first x.messages x.replies x.did in
        let numbered = x.numbered in
        let number : n + x.place + 1 ≡ k = omega (arith, first_is, numbered) in
        let listed = marks_there catalogue (drawn t) r n x.messages x.place x.sent x.listed in
        let line = line_so (drawn t) l c x.place in
        there catalogue (λ (s : Sheet). s.marks) (marks_in catalogue) (λ m s. (turned catalogue m s).marks_are) ms (top_sheet catalogue part) t (marked x)
        (subst (λ (l : List Mark). Contains l (marked x)) (sym (marks_are t ∙ ap (λ what. marks_shown catalogue (drawn t) (begins t) n what) x.did))
        (subst (Contains (marks_of catalogue (drawn t) r n x.messages)) (same_line (row_at (drawn t) r x.place) (n + x.place + 1) line number) listed))
      where
        same_line : (line number : ℕ) → line ≡ row_sent catalogue part x → number ≡ k
            → record { number = number; line = line; is_drawn = is_drawn part x.turn.now.number; from = x.sent.from; to = x.sent.to; text = message_text catalogue x.sent.message } ≡ marked x
        same_line line number e f = rw (e, f) refl

    pub known_mark : (k : ℕ) (x : Sending ms k) → mark_at (sheet ms) k ≡ Some (marked x)
    known_mark k x =
        let it = numbered_at 0 (sheet ms).marks (marked x) (numbered_all ms) (sent_mark k x) in
        let number = it.1 in
        at_place (sheet ms).marks k it.0 (omega (arith, number)) ∙ it.2

    pub mark_known : (k : ℕ) (m : Mark) → mark_at (sheet ms) k ≡ Some m → Of k m
    mark_known zero m e = cc
    mark_known (suc j) m e =
        let got : slice_get (sheet ms).marks j ≡ Some m = sym (at_place (sheet ms).marks (suc j) j (omega arith)) ∙ e in
        let number = numbered_get 0 (sheet ms).marks j m (numbered_all ms) got in
        let same : m.number ≡ suc j = omega (arith, number) in
        subst (λ k. Of k m) same (mark_sent m (at_in (sheet ms).marks j m got))
