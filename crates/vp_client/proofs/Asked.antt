-- Asking, datagram by datagram.
use Rattle.std.proofs.Common.{◌≡◌, ◌∙◌, ℕ, ◌+◌, ◌≤◌, List, [], ◌∷◌, ◌++◌, length, take, refl, ap, arith, inl, inr, false, ◌==◌}
use Rattle.std.specs.Prelude.{Option, Some, None, Ok, Err}
use Rattle.std.specs.Option.{option_map_or}
use Rattle.vp_model.specs.Types.{Answer, Call}
use Rattle.vp_outside.specs.Causes.{count_after}
use Rattle.vp_outside.specs.Links.{LinkState, Gave, StaysBound, Receives, Sends, received_datagram}
use Rattle.vp_outside.specs.declared.sink.OutFault.{OutFault}
use Rattle.vp_outside.specs.declared.sink.OutFault.TheVariants as output
use Rattle.vp_outside.specs.declared.datagram.Datagram.{Datagram}
use Rattle.vp_outside.proofs.Passed.{count_more, count_none, gave_more, gave_none, hands_none, one_longer}
use Rattle.vp_runs.specs.Asking.{first_answer, answer_of, call_frame}
use Rattle.vp_wire.specs.Grammar.{frame_bytes}
use Rattle.vp_client.specs.Asked.{IsSent, Asks, of_output}
use Rattle.vp_client.specs.declared.asking.AskFault.TheVariants as faults

-- These datagrams came so far, and none of them has an answer.
pub record SoFar (port site : ℕ) (words : Call) (count : ℕ) (old new : LinkState) : Type 0 where
  pub sent : IsSent port site words old new
  pub arrived : List Datagram
  pub gave : Gave old.left new.left arrived
  pub counted : new.given ≡ count_after old.given (length arrived)
  pub many : length arrived ≡ count
  pub none : first_answer port site words arrived ≡ None
  pub stays : StaysBound old new
  pub same_faults : new.faults ≡ old.faults
  pub same_losses : new.losses ≡ old.losses

-- the first answer, if none came before
pub first_after : (port site : ℕ) (words : Call) (front : List Datagram) (d : Datagram) → first_answer port site words front ≡ None → first_answer port site words (front ++ d ∷ []) ≡ option_map_or Some (answer_of port site words d) None
first_after port site words [] d h = refl
first_after port site words (x ∷ front) d h = go (answer_of port site words x) refl (λ e. first_after port site words front d e)
  where
    go : (found : Option Answer) → answer_of port site words x ≡ found → (first_answer port site words front ≡ None → first_answer port site words (front ++ d ∷ []) ≡ option_map_or Some (answer_of port site words d) None) → first_answer port site words (x ∷ front ++ d ∷ []) ≡ option_map_or Some (answer_of port site words d) None
    go None e more = rw e (more (rw e at h))
    go (Some a) e more = let no : Some a ≡ None = rw e at h in absurd cc

other_port : (port site : ℕ) (words : Call) (d : Datagram) → (d.port == port) ≡ false → answer_of port site words d ≡ None
unfolding answer_of
other_port port site words d e = rw e refl

-- what came from the port is found as it came
pub at_port : (port site : ℕ) (words : Call) (from count : ℕ) (buf : List ℕ) (found : Option Answer) → from ≡ port
    → answer_of port site words (record { port = port; bytes = take count buf }) ≡ found → answer_of port site words (received_datagram (from, count) buf) ≡ found
at_port port site words from count buf found e h = rw e h

-- ---- the calls of the link

module _ (port site : ℕ) (words : Call) (turns : ℕ) (old : LinkState) where
  pub unsent : (new : LinkState) (why : OutFault) → Sends {T = Unit {0}} port (frame_bytes (call_frame site words)) old new (Err why) → Asks port site words turns old new (Err (of_output why))
  unsent new output.Failed s = (
    inr (s.cause.failed refl),
    (
      [],
      record {
        sent = s.handed (λ q. cc);
        came = record { gave = gave_none old.left new.left s.gives_none.same_left; counted = s.gives_none.same_given ∙ count_none old.given; few = omega arith };
        none = refl;
      },
    ),
  )
  unsent new output.NoMemory s = (
    inr (hands_none old.handed new.handed (s.no_memory refl)),
    ([], record { gave = gave_none old.left new.left s.gives_none.same_left; counted = s.gives_none.same_given ∙ count_none old.given; few = omega arith }),
  )

  pub begun : (new : LinkState) (t : Unit {0}) → Sends port (frame_bytes (call_frame site words)) old new (Ok t) → SoFar port site words 0 old new
  begun new t s = record {
    sent = s.handed (λ q. cc);
    arrived = [];
    gave = gave_none old.left new.left s.gives_none.same_left;
    counted = s.gives_none.same_given ∙ count_none old.given;
    many = refl;
    none = refl;
    stays = s.stays;
    same_faults = s.same_faults;
    same_losses = s.cause.ok;
  }

  module _ {E : Type 0} (count : ℕ) (mid new : LinkState) (buf buf' : List ℕ) (r : ℕ × ℕ) (h : SoFar port site words count old mid) (s : Receives {E = E} buf buf' mid new (Ok r)) where
    abbrev d : Datagram
    d = received_datagram r buf'

    sent_still : IsSent port site words old new
    sent_still = rw s.hands_none.same_handed h.sent

    gave_all : Gave old.left new.left (h.arrived ++ d ∷ [])
    gave_all = gave_more old.left mid.left new.left h.arrived d h.gave s.told

    counted_all : new.given ≡ count_after old.given (length (h.arrived ++ d ∷ []))
    counted_all = s.given ∙ ap (λ n. count_after n 1) h.counted ∙ count_more old.given (length h.arrived) ∙ ap (count_after old.given) (omega (arith, one_longer h.arrived d))

    pub goes_on : answer_of port site words d ≡ None → SoFar port site words (count + 1) old new
    goes_on e = record {
      sent = sent_still;
      arrived = h.arrived ++ d ∷ [];
      gave = gave_all;
      counted = counted_all;
      many = let m = h.many in omega (arith, one_longer h.arrived d, m);
      none = first_after port site words h.arrived d h.none ∙ ap (λ (o : Option Answer). option_map_or Some o None) e;
      stays = record { same_port = s.stays.same_port ∙ h.stays.same_port; same_bound = s.stays.same_bound ∙ h.stays.same_bound };
      same_faults = s.cause.ok ∙ h.same_faults;
      same_losses = s.hands_none.same_losses ∙ h.same_losses;
    }

    pub goes_past : (r.0 == port) ≡ false → SoFar port site words (count + 1) old new
    goes_past e = goes_on (other_port port site words d e)

    pub answered : (a : Answer) → count + 1 ≤ turns → answer_of port site words d ≡ Some a → Asks port site words turns old new (Ok a)
    answered a few e = record {
      sent = sent_still;
      front = h.arrived;
      last = d;
      came = record { gave = gave_all; counted = counted_all; few = let m = h.many in omega (arith, one_longer h.arrived d, m, few) };
      none_before = h.none;
      is = first_after port site words h.arrived d h.none ∙ ap (λ (o : Option Answer). option_map_or Some o None) e;
    }

    pub forgotten : count + 1 ≤ turns → Asks port site words turns old new (Err faults.NoMemory)
    forgotten few = (inl sent_still, (h.arrived ++ d ∷ [], record { gave = gave_all; counted = counted_all; few = let m = h.many in omega (arith, one_longer h.arrived d, m, few) }))
