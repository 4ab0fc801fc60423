-- The event of a turn by the index is that of the definition.
use Rattle.std.proofs.Common.{◌≡◌, ◌∙◌, ap, sym, subst, Bool, true, false, cond, ℕ, suc, ◌≤◌, List, Some, None, Result, Ok, Err, length, refl, arith}
use Rattle.std.specs.Prelude.{Option, option_map, option_and_then, is_some, IfSome, ◌==◌}
use Rattle.std.proofs.lemmas.Bool.{false≢true, eqb-true}
use Rattle.vp_model.specs.Types.{Call, Input, Message, Sent}
use Rattle.vp_model.specs.Types.event
use Rattle.vp_model.specs.Types.input
use Rattle.vp_model.specs.Words.{has}
use Rattle.vp_contents.specs.Versions.{version_of}
use Rattle.vp_contents.specs.declared.version.Version.TheVariants as versions
use Rattle.vp_wire.specs.declared.frame.Frame.{Frame}
use Rattle.vp_wire.specs.declared.frame.Body.{Body}
use Rattle.vp_wire.specs.declared.frame.Body.TheVariants as body
use Rattle.vp_wire.specs.Decoded.{read_frame}
use Rattle.vp_wire.specs.Grammar.{IsBody, IsFrame, fields, frame_bytes, frame_of}
use Rattle.vp_laws.specs.Shapes.{IsInput}
use Rattle.vp_laws.specs.ShapeLaws.{message_frame}
use Rattle.vp_laws.proofs.Moves.LocalViews.{letter}
use Rattle.vp_runs.specs.Arrivals.{IsArrival}
use Rattle.vp_runs.specs.declared.arrival.Arrival.{Arrival}
use Rattle.vp_runs.specs.declared.arrival.Arrival.TheVariants.{Bad, Stray, Stops, Gives}
use Rattle.vp_fitting.specs.Asked.{asks, asks_body, asks_of}
use Rattle.vp_fitting.specs.Merged.{event_of, is_ready, own_events, lowest, events_in}
use Rattle.vp_fitting.proofs.Messages.{AskedBy, asked_by}
use Rattle.vp_merge.specs.Numbers.{sent_again, as_sent, entry_of, number_at, number_of, place_of, IsIndex, HasTurn}
use Rattle.vp_merge.specs.Played.{IsPut}
use Rattle.vp_merge.specs.Tracks.{event_by, own_event, is_ready_by}
use Rattle.vp_merge.specs.declared.numbers.FrameNumbers.{FrameNumbers}
use Rattle.vp_merge.proofs.Entries.{number_there}
use Rattle.vp_merge.proofs.Index.{position-within}

-- the frame of a turn that takes a message is sent as that of the message
asked_frame : (site : ℕ) (recorded : List ℕ) (from : ℕ) (m : Message) → asks site recorded ≡ Gives (input.Message from m) → as_sent recorded ≡ frame_bytes (message_frame (letter from site m))
unfolding asks as_sent
asked_frame site recorded from m e = go (read_frame recorded) e
  where
    no_call : (here : Bool) (words : Call) → cond here (Gives (input.Call 0 words)) Stray ≡ Gives (input.Message from m) → ⊥
    no_call true words q = cc
    no_call false words q = cc

    other : (here : Bool) (given : Input) → cond here (Gives given) Stray ≡ Gives (input.Message from m) → given ≡ input.Message from m
    other true given q = cc
    other false given q = absurd cc

    no_reply : (here : Bool) → cond here Stray Stray ≡ Gives (input.Message from m) → ⊥
    no_reply true q = cc
    no_reply false q = cc

    here_is : (here : Bool) (given : Input) → cond here (Gives given) Stray ≡ Gives (input.Message from m) → here ≡ true
    here_is true given q = refl
    here_is false given q = absurd cc

    same_letter : (k l : ℕ) (n : Message) → input.Message k n ≡ input.Message from m → l ≡ site → frame_bytes (frame_of k l (body.Message n)) ≡ frame_bytes (message_frame (letter from site m))
    same_letter k l n given to =
        let a : k ≡ from = cc in
        let b : n ≡ m = cc in
        rw (a, b, to) refl

    of_body : (f : Frame) (b : Body) → asks_body site f b ≡ Gives (input.Message from m) → frame_bytes (frame_of f.from f.to b) ≡ frame_bytes (message_frame (letter from site m))
    of_body f (body.Message n) q = same_letter f.from f.to n (other (f.to == site) (input.Message f.from n) q) (eqb-true f.to site (here_is (f.to == site) (input.Message f.from n) q))
    of_body f (body.Call words) q = absurd (no_call (f.to == site) words q)
    of_body f (body.Reply answer) q = absurd (no_reply (f.to == site) q)
    of_body f body.Tick q = let bad : input.Tick ≡ input.Message from m = other (f.to == site) input.Tick q in absurd cc
    of_body f body.ProbeNow q = let bad : input.Probe ≡ input.Message from m = other (f.to == site) input.Probe q in absurd cc
    of_body f body.Stop q = absurd cc

    go : (read : Result Frame ℕ) → asks_of site read ≡ Gives (input.Message from m) → sent_again read recorded ≡ frame_bytes (message_frame (letter from site m))
    go (Ok f) q = of_body f f.body q
    go (Err at) q = absurd cc

five : (f : Frame) → 5 ≤ length (frame_bytes f)
five f =
    let more : length (frame_bytes f) ≡ suc (suc (suc (suc (suc (length (fields (version_of f.version) f.body)))))) = refl in
    omega (arith, more)

-- what is asked of a site has its form
pub asks_form : (site : ℕ) (recorded : List ℕ) (a : Arrival) → asks site recorded ≡ a → IsArrival a
asks_form site recorded (Gives given) e = of given (asked_by site recorded given e)
  where
    body_form : (f : Frame) → IsFrame f → IsBody (version_of f.version) f.from f.to f.body
    body_form f h = h.2

    of : (given : Input) → AskedBy site recorded given → IsInput given
    of _ (AskedBy.called words call) = (omega arith, call)
    of _ (AskedBy.sent from m form) = let b : IsBody versions.Second from site (body.Message m) = body_form (message_frame (letter from site m)) form in (b.0, b.2)
    of _ AskedBy.ticked = tt
    of _ AskedBy.probed = tt
asks_form site recorded (Bad at) e = tt
asks_form site recorded Stray e = tt
asks_form site recorded Stops e = tt

module _ (numbers : FrameNumbers) (all : List Sent) (index : IsIndex numbers all) (site : ℕ) (place : Option ℕ) (recorded : List ℕ) (is : place ≡ place_of numbers (as_sent recorded)) (there : HasTurn numbers recorded) where
  abbrev frame : List ℕ
  frame = as_sent recorded

  -- that of a message is long enough
  long : (from : ℕ) (m : Message) → asks site recorded ≡ Gives (input.Message from m) → 5 ≤ length frame
  long from m e = subst (λ (bytes : List ℕ). 5 ≤ length bytes) (sym (asked_frame site recorded from m e)) (five (message_frame (letter from site m)))

  number_is : 5 ≤ length frame → number_at numbers place ≡ number_of frame all
  number_is long = ap (number_at numbers) is ∙ number_there numbers frame ∙ by (entry_of numbers frame) refl (there long)
    where
      by : (o : Option (Option ℕ)) → entry_of numbers frame ≡ o → is_some o ≡ true → option_and_then (λ (number : Option ℕ). number) o ≡ number_of frame all
      by None e some = absurd (false≢true some)
      by (Some number) e some = index frame number e

  by_asked : (given : Input) → AskedBy site recorded given → asks site recorded ≡ Gives given → event_by numbers site place given ≡ event_of all site given
  unfolding lowest
  by_asked _ (AskedBy.called words call) e = refl
  by_asked _ (AskedBy.sent from m form) e = ap (option_map event.Deliver) (number_is (long from m e) ∙ ap (λ bytes. number_of bytes all) (asked_frame site recorded from m e))
  by_asked _ AskedBy.ticked e = refl
  by_asked _ AskedBy.probed e = refl

  same_event : (given : Input) → asks site recorded ≡ Gives given → event_by numbers site place given ≡ event_of all site given
  same_event given e = by_asked given (asked_by site recorded given e) e

  pub same_ready : (a : Arrival) → asks site recorded ≡ a → is_ready_by numbers site place a ≡ is_ready all site a
  same_ready (Gives given) e = ap is_some (same_event given e)
  same_ready (Bad at) e = refl
  same_ready Stray e = refl
  same_ready Stops e = refl

  pub same_events : (a : Arrival) → asks site recorded ≡ a → events_in (own_event numbers site place a) ≡ own_events all site a
  same_events (Gives given) e = ap events_in (same_event given e)
  same_events (Bad at) e = refl
  same_events Stray e = refl
  same_events Stops e = refl

  -- the event is one of a schedule
  module _ (sites : List ℕ) (known : has sites site ≡ true) (few : length all ≤ 2000000) where
    delivered : (o : Option ℕ) → number_of frame all ≡ o → IfSome (option_map event.Deliver o) (IsPut sites)
    delivered None e = tt
    delivered (Some k) e = let w = position-within _ all 1 k e in (tt, (omega (arith, w.0), omega (arith, w.1, few)))

    pub event_is_put : (a : Arrival) → asks site recorded ≡ a → IsArrival a → IfSome (own_event numbers site place a) (IsPut sites)
    event_is_put (Gives (input.Call port words)) e form = (tt, (known, form.1))
    event_is_put (Gives (input.Message from message)) e form = subst (λ (o : Option ℕ). IfSome (option_map event.Deliver o) (IsPut sites)) (sym (number_is (long from message e))) (delivered (number_of frame all) refl)
    event_is_put (Gives input.Tick) e form = (tt, known)
    event_is_put (Gives input.Probe) e form = (tt, known)
    event_is_put (Bad at) e form = tt
    event_is_put Stray e form = tt
    event_is_put Stops e form = tt
