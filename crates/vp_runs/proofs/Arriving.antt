-- What nodes and clients hand over is read as the same at the other one.
use Rattle.std.proofs.Common.{◌≡◌, ℕ, Bool, true, false, List, [], ◌∷◌, map, refl, ap, arith, Result, Ok, Err, find, ◌==◌, nat_eq}
use Rattle.std.specs.Prelude.{Some}
use Rattle.std.specs.List.{AllByRecursion, IsDistinct}
use Rattle.std.specs.Option.{option_map_or}
use Rattle.std.proofs.lemmas.Bool.Decides.{nat_tests}
use Rattle.vp_text.specs.Meaning.{Answers}
use Rattle.vp_model.specs.Words.{value_at}
use Rattle.vp_laws.specs.ShapeLaws.{message_frame, reply_frame}
use Rattle.vp_wire.specs.declared.frame.Frame.{Frame}
use Rattle.vp_wire.specs.Decoded.{read_frame}
use Rattle.vp_wire.specs.Grammar.{IsFrame, IsSpelling, frame_bytes}
use Rattle.vp_wire.proofs.Decoded.{bytes_are_read}
use Rattle.vp_wire.proofs.Told.{one_frame}
use Rattle.vp_wire.proofs.CallForms.{call_in}
use Rattle.vp_runs.specs.Arrivals.{arrival}
use Rattle.vp_runs.specs.Asking.{answer_of, call_frame}
use Rattle.vp_runs.specs.Laws.{MessagesArrive, CallsArrive, RepliesArrive}
use Rattle.vp_laws.proofs.Lists.Numbers.{eq_self}

-- what was encoded is read back
pub reads_again : (f : Frame) → IsFrame f → read_frame (frame_bytes f) ≡ Ok f
reads_again f h = go (read_frame (frame_bytes f)) (bytes_are_read (frame_bytes f))
  where
    go : (read : Result Frame ℕ) → Answers IsSpelling (λ (f : Frame). f) (λ (at : ℕ). Some at) (frame_bytes f) read → read ≡ Ok f
    go (Ok g) a = ap Ok (one_frame g f (frame_bytes f) a (record { is = refl; allowed = h }))
    go (Err at) a = absurd (a.none f (record { is = refl; allowed = h }))

-- ---- ports

abbrev at_port : ℕ → List (ℕ × ℕ) → ℕ
at_port port sites = option_map_or (λ (site : ℕ × ℕ). site.0) (find (λ (site : ℕ × ℕ). site.1 == port) sites) 0

-- the port of a later site in the list differs from this site's
other_port : (own from port : ℕ) (sites : List (ℕ × ℕ)) → AllByRecursion (λ p. nat_eq own p ≡ false) (map (λ (site : ℕ × ℕ). site.1) sites) → value_at from sites ≡ Some port → (own == port) ≡ false
other_port own from port [] h e = absurd cc
other_port own from port (s ∷ sites) h e = go (s.0 == from) refl (λ f. other_port own from port sites h.1 f)
  where
    go : (here : Bool) → (s.0 == from) ≡ here → (value_at from sites ≡ Some port → (own == port) ≡ false) → (own == port) ≡ false
    go true f more = let same : s.1 ≡ port = cc in rw (← same) h.0
    go false f more = more cc

-- if the ports differ, the site with that port is the one that is found for it
owner_of : (from port : ℕ) (sites : List (ℕ × ℕ)) → IsDistinct nat_eq (map (λ (site : ℕ × ℕ). site.1) sites) → value_at from sites ≡ Some port → at_port port sites ≡ from
unfolding IsDistinct
owner_of from port [] h e = absurd cc
owner_of from port (s ∷ sites) h e = go (s.0 == from) refl (λ f. owner_of from port sites h.1 f) (λ f. other_port s.1 from port sites h.0 f)
  where
    go : (here : Bool) → (s.0 == from) ≡ here → (value_at from sites ≡ Some port → at_port port sites ≡ from) → (value_at from sites ≡ Some port → (s.1 == port) ≡ false) → at_port port (s ∷ sites) ≡ from
    go true f more other =
        let same : s.1 ≡ port = cc in
        let it : s.0 ≡ from = grind (arith, nat_tests, f) in
        let found : (s.1 == port) ≡ true = rw same (eq_self port) in
        rw found it
    go false f more other =
        let rest : value_at from sites ≡ Some port = cc in
        rw (other rest) (more rest)

pub messages_arrive : MessagesArrive
unfolding arrival
messages_arrive catalogue sent port k h e =
    rw (reads_again (message_frame sent) h, eq_self sent.to, owner_of sent.from port catalogue.sites k.so_far.ports_differ e, eq_self sent.from) refl

pub calls_arrive : CallsArrive
unfolding arrival
calls_arrive catalogue site own words s h e = rw (reads_again (call_frame site words) (omega arith, omega arith, (refl, s, call_in words h)), eq_self site, e) refl

pub replies_arrive : RepliesArrive
unfolding answer_of
replies_arrive port site words reply s h e = rw (eq_self port, reads_again (reply_frame site reply) (omega arith, omega arith, (s, refl, h)), eq_self site, e) refl
