-- What a turn's frame asks of its site, and the message that it is.
use Rattle.std.proofs.Common.{◌≡◌, ◌≢◌, ◌∙◌, ap, sym, subst, ℕ, ◌+◌, ◌-◌, suc, Bool, true, false, cond, List, ◌∷◌, [], refl, arith, Result, Ok, Err, ⊎_elim}
use Rattle.std.specs.Prelude.{Option, Some, None, ◌==◌, slice_get, is_some, option_map}
use Rattle.std.specs.List.{position_from}
use Rattle.std.specs.Str.{bytes_eq}
use Rattle.std.proofs.lemmas.Bool.{eqb-true}
use Rattle.std.proofs.lemmas.Slice.Eq.{bytes_eq-Decides}
use Rattle.vp_text.specs.Meaning.{Answers}
use Rattle.vp_base.specs.Calls.{IsCall}
use Rattle.vp_model.specs.Types.{Call, Input, Message, Sent}
use Rattle.vp_model.specs.Types.event
use Rattle.vp_model.specs.Types.input
use Rattle.vp_model.specs.World.{WorldState, message_at}
use Rattle.vp_wire.specs.declared.frame.Frame.{Frame}
use Rattle.vp_wire.specs.declared.frame.Body.{Body}
use Rattle.vp_wire.specs.declared.frame.Body.TheVariants as body
use Rattle.vp_wire.specs.Decoded.{read_frame}
use Rattle.vp_wire.specs.Grammar.{IsBody, IsFrame, IsSpelling, frame_bytes, frame_in}
use Rattle.vp_wire.proofs.Decoded.{bytes_are_read}
use Rattle.vp_wire.proofs.Told.{one_frame}
use Rattle.vp_wire.proofs.Later.{body_later}
use Rattle.vp_wire.proofs.CallForms.{call_of}
use Rattle.vp_contents.specs.Versions.{version_of}
use Rattle.vp_contents.specs.declared.version.Version.TheVariants as versions
use Rattle.vp_laws.specs.ShapeLaws.{message_frame}
use Rattle.vp_laws.proofs.Lists.Members.{Has, has_none, has_cons}
use Rattle.vp_laws.proofs.Lists.Numbers.{eq_not}
use Rattle.vp_laws.proofs.Moves.LocalViews.{letter}
use Rattle.vp_runs.specs.declared.arrival.Arrival.TheVariants.{Stray, Gives}
use Rattle.vp_fitting.specs.Asked.{asks, asks_body, asks_of}
use Rattle.vp_fitting.specs.Merged.{same_sent, lowest, event_of}

-- ---- what a frame asks

-- the input that the bytes are to the site
pub data AskedBy (s : ℕ) (bytes : List ℕ) : Input → Type 0 where
  called : (words : Call) → IsCall words → AskedBy s bytes (input.Call 0 words)
  sent : (from : ℕ) (m : Message) → IsFrame (message_frame (letter from s m)) → AskedBy s bytes (input.Message from m)
  ticked : AskedBy s bytes input.Tick
  probed : AskedBy s bytes input.Probe

body_asks : (s : ℕ) (bytes : List ℕ) (version from to : ℕ) (b : Body) → IsBody versions.Second from to b → (given : Input) → asks_body s (frame_in version from to b) b ≡ Gives given → AskedBy s bytes given
body_asks s bytes version from to (body.Message m) form given e = go (to == s) refl e
  where
    go : (here : Bool) → (to == s) ≡ here → cond here (Gives (input.Message from m)) Stray ≡ Gives given → AskedBy s bytes given
    go true t q =
        let to_is : to ≡ s = eqb-true to s t in
        let same : input.Message from m ≡ given = cc in
        subst (AskedBy s bytes) same (AskedBy.sent from m (omega arith, omega arith, subst (λ (to : ℕ). IsBody versions.Second from to (body.Message m)) to_is form))
    go false t q = absurd cc
body_asks s bytes version from to (body.Call words) form given e = go (to == s) e
  where
    go : (here : Bool) → cond here (Gives (input.Call 0 words)) Stray ≡ Gives given → AskedBy s bytes given
    go true q = let same : input.Call 0 words ≡ given = cc in subst (AskedBy s bytes) same (AskedBy.called words (call_of words form.2))
    go false q = absurd cc
body_asks s bytes version from to (body.Reply answer) form given e = go (to == s) e
  where
    go : (here : Bool) → cond here Stray Stray ≡ Gives given → AskedBy s bytes given
    go true q = absurd cc
    go false q = absurd cc
body_asks s bytes version from to body.Tick form given e = go (to == s) e
  where
    go : (here : Bool) → cond here (Gives input.Tick) Stray ≡ Gives given → AskedBy s bytes given
    go true q = let same : input.Tick ≡ given = cc in subst (AskedBy s bytes) same AskedBy.ticked
    go false q = absurd cc
body_asks s bytes version from to body.ProbeNow form given e = go (to == s) e
  where
    go : (here : Bool) → cond here (Gives input.Probe) Stray ≡ Gives given → AskedBy s bytes given
    go true q = let same : input.Probe ≡ given = cc in subst (AskedBy s bytes) same AskedBy.probed
    go false q = absurd cc
body_asks s bytes version from to body.Stop form given e = absurd cc

pub asked_by : (s : ℕ) (bytes : List ℕ) (given : Input) → asks s bytes ≡ Gives given → AskedBy s bytes given
unfolding asks
asked_by s bytes given e = go (read_frame bytes) (bytes_are_read bytes) e
  where
    go : (read : Result Frame ℕ) → Answers IsSpelling (λ (f : Frame). f) (λ (at : ℕ). Some at) bytes read → asks_of s read ≡ Gives given → AskedBy s bytes given
    go (Ok f) a q = body_asks s bytes f.version f.from f.to f.body (body_later (version_of f.version) f.from f.to f.body a.allowed.2) given q
    go (Err at) a q = absurd cc

-- ---- the lowest number of a message

-- the place of the first item that passes
pub record IsPlaced {X : Type 0} (test : X → Bool) (i : ℕ) (xs : List X) (k : ℕ) : Type 0 where
  pub following : ℕ
  pub k_is : k ≡ i + following
  pub item : X
  pub there : slice_get xs following ≡ Some item
  pub passes : test item ≡ true

module _ {X : Type 0} (test : X → Bool) where
  placed : (xs : List X) (i k : ℕ) → position_from test i xs ≡ Some k → IsPlaced test i xs k
  placed [] i k e = absurd cc
  placed (x ∷ xs) i k e = go (test x) refl e (placed xs (i + 1) k)
    where
      go : (b : Bool) → test x ≡ b → cond b (Some i) (position_from test (i + 1) xs) ≡ Some k → (position_from test (i + 1) xs ≡ Some k → IsPlaced test (i + 1) xs k) → IsPlaced test i (x ∷ xs) k
      go true t q rest = let same : i ≡ k = cc in record { following = 0; k_is = omega (arith, same); item = x; there = refl; passes = t }
      go false t q rest = let r = rest q in record { following = suc r.following; k_is = (let z = r.k_is in omega (arith, z)); item = r.item; there = r.there; passes = r.passes }

  none_placed : (xs : List X) (i : ℕ) → position_from test i xs ≡ None → (x : X) → Has xs x → test x ≡ false
  none_placed [] i e x h = absurd (has_none x h)
  none_placed (y ∷ xs) i e x h = go (test y) refl e (none_placed xs (i + 1))
    where
      go : (b : Bool) → test y ≡ b → cond b (Some i) (position_from test (i + 1) xs) ≡ None → (position_from test (i + 1) xs ≡ None → (x : X) → Has xs x → test x ≡ false) → test x ≡ false
      go true t q rest = absurd cc
      go false t q rest = ⊎_elim (λ (same : y ≡ x). subst (λ (z : X). test z ≡ false) same t) (λ (more : Has xs x). rest q x more) (has_cons y xs x h)

same_bytes : (xs ys : List ℕ) → xs ≡ ys → bytes_eq xs ys ≡ true
same_bytes xs ys e = (bytes_eq-Decides xs ys).1 e

equal_bytes : (xs ys : List ℕ) → bytes_eq xs ys ≡ true → xs ≡ ys
equal_bytes xs ys e = (bytes_eq-Decides xs ys).0 e

pub joined : (f g t u : ℕ) (m n : Message) → f ≡ g → t ≡ u → m ≡ n → letter f t m ≡ letter g u n
joined f g t u m n a b c = rw (a, b, c) refl

-- messages with the same frame are one
one_message : (a b : Sent) → IsFrame (message_frame a) → IsFrame (message_frame b) → same_sent a b ≡ true → a ≡ b
one_message a b fa fb e =
    let bytes = equal_bytes (frame_bytes (message_frame a)) (frame_bytes (message_frame b)) e in
    let same : message_frame a ≡ message_frame b = one_frame (message_frame a) (message_frame b) (frame_bytes (message_frame a)) (record { is = refl; allowed = fa }) (record { is = bytes; allowed = fb }) in
    sent_of a b same
  where
    body_of : Body → Message → Message
    body_of (body.Message m) other = m
    body_of _ other = other

    sent_of : (a b : Sent) → message_frame a ≡ message_frame b → a ≡ b
    sent_of a b same =
        let from : a.from ≡ b.from = ap (λ (f : Frame). f.from) same in
        let to : a.to ≡ b.to = ap (λ (f : Frame). f.to) same in
        let it : a.message ≡ b.message = ap (λ (f : Frame). body_of f.body a.message) same in
        joined a.from b.from a.to b.to a.message b.message from to it

-- the lowest number is of that message
pub lowest_is : (m : Sent) (w : WorldState) (k : ℕ) → lowest m w.sent ≡ Some k → IsFrame (message_frame m) → ((x : Sent) → message_at w k ≡ Some x → IsFrame (message_frame x)) → message_at w k ≡ Some m
unfolding lowest
lowest_is m w k e frame frames =
    let p = placed (same_sent m) w.sent 1 k e in
    let at : message_at w k ≡ Some p.item = found k p.following p.k_is p.item p.there in
    at ∙ ap (λ (x : Sent). Some x) (sym (one_message m p.item frame (frames p.item at) p.passes))
  where
    found : (k j : ℕ) → k ≡ 1 + j → (x : Sent) → slice_get w.sent j ≡ Some x → message_at w k ≡ Some x
    found k j is x there =
        let some : k ≢ 0 = λ z. omega (arith, is, z) in
        let before : k - 1 ≡ j = omega (arith, is) in
        rw (eq_not k 0 some, before) there

-- where there is none, no message that was sent has its frame
pub lowest_none : (m : Sent) (all : List Sent) → lowest m all ≡ None → (x : Sent) → Has all x → frame_bytes (message_frame x) ≢ frame_bytes (message_frame m)
unfolding lowest
lowest_none m all e x h same =
    let no : same_sent m x ≡ false = none_placed (same_sent m) all 1 e x h in
    let yes : same_sent m x ≡ true = same_bytes (frame_bytes (message_frame m)) (frame_bytes (message_frame x)) (sym same) in
    absurd cc

-- ---- a turn that waits

-- the message that the site waits for, which no step has sent
pub record WaitsFor (all : List Sent) (s : ℕ) (given : Input) : Type 0 where
  pub from : ℕ
  pub message : Message
  pub given_is : given ≡ input.Message from message
  pub none : (x : Sent) → Has all x → x ≢ letter from s message

not_mapped : (o : Option ℕ) → is_some (option_map event.Deliver o) ≡ false → o ≡ None
not_mapped None e = refl
not_mapped (Some k) e = absurd cc

pub waits_for : (all : List Sent) (s : ℕ) (bytes : List ℕ) (given : Input) → AskedBy s bytes given → is_some (event_of all s given) ≡ false → WaitsFor all s given
waits_for all s bytes _ (AskedBy.called words call) e = absurd cc
waits_for all s bytes _ (AskedBy.sent from m frame) e =
    record {
      from = from;
      message = m;
      given_is = refl;
      none = λ x h same. lowest_none (letter from s m) all (not_mapped (lowest (letter from s m) all) e) x h (ap (λ (x : Sent). frame_bytes (message_frame x)) same);
    }
waits_for all s bytes _ AskedBy.ticked e = absurd cc
waits_for all s bytes _ AskedBy.probed e = absurd cc
