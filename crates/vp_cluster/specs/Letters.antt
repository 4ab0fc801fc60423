-- The letters of clients and of messages, and which one an event brings to a site.
use Rattle.std.specs.Prelude.{ℕ, ◌≤◌, ◌-◌, ◌==◌, if◌then◌else◌, List, [], ◌∷◌, length, take, drop, slice_get, Option, None, option_map}
use Rattle.std.specs.Option.{option_map_or}
use Rattle.vp_model.specs.Types.{Event, Sent}
use Rattle.vp_model.specs.Types.event
use Rattle.vp_model.specs.Words.{value_at}
use Rattle.vp_model.specs.Catalogue.{Catalogue}
use Rattle.vp_laws.specs.ShapeLaws.{message_frame}
use Rattle.vp_outside.specs.declared.datagram.Datagram.{Datagram}
use Rattle.vp_wire.specs.declared.frame.Frame.{Frame}
use Rattle.vp_wire.specs.declared.frame.Body.TheVariants as body
use Rattle.vp_wire.specs.Grammar.{frame_of, frame_bytes}
use Rattle.vp_runs.specs.Asking.{call_frame}
use Rattle.vp_cluster.specs.Letter.{Letter}
use Rattle.vp_cluster.specs.declared.sent_letters.LetterSpan.{LetterSpan}

-- the frame in a letter from port 0, which is no site's, to the port of the site
abbrev pub letter_to : Catalogue → ℕ → Frame → Option Letter
letter_to catalogue site frame = option_map (λ port. record { from = 0; to = port; bytes = frame_bytes frame }) (value_at site catalogue.sites)

-- letter K, counted from 1
abbrev pub in_order : ℕ → List Letter → Option Letter
in_order k letters = if k == 0 then None else slice_get letters (k - 1)

-- the letter that the event brings to a site, if these letters were sent so far
abbrev pub letter_of : Catalogue → List Letter → Event → Option Letter
letter_of catalogue letters (event.Call site words) = letter_to catalogue site (call_frame site words)
letter_of catalogue letters (event.Deliver k) = in_order k letters
letter_of catalogue letters (event.Tick site) = letter_to catalogue site (frame_of 0 site body.Tick)
letter_of catalogue letters (event.Probe site) = letter_to catalogue site (frame_of 0 site body.ProbeNow)
letter_of catalogue letters _ = None

-- a datagram that was sent from this port
abbrev pub sent_from : ℕ → Datagram → Letter
sent_from port d = record { from = port; to = d.port; bytes = d.bytes }

-- the port of a site; 0 where the catalogue lacks it
abbrev pub port_of : Catalogue → ℕ → ℕ
port_of catalogue site = option_map_or (λ port. port) (value_at site catalogue.sites) 0

-- the letter of a message
abbrev pub letter_for : Catalogue → Sent → Letter
letter_for catalogue sent = record { from = port_of catalogue sent.from; to = port_of catalogue sent.to; bytes = frame_bytes (message_frame sent) }

-- the index where the bytes of these letters begin; they end at this end
abbrev pub start_in : ℕ → List LetterSpan → ℕ
start_in end [] = end
start_in end (f ∷ fs) = f.start

-- the letters whose bytes are side by side in these
abbrev pub letters_in : List ℕ → List LetterSpan → List Letter
letters_in bytes [] = []
letters_in bytes (f ∷ fs) =
    record { from = f.from; to = f.to; bytes = drop f.start (take (start_in (length bytes) fs) bytes) } ∷ letters_in bytes fs

-- each letter ends at or after its start, and none after that end
abbrev pub AreInOrder : ℕ → List LetterSpan → Type 0
AreInOrder end [] = Unit {0}
AreInOrder end (f ∷ fs) = (f.start ≤ start_in end fs) × AreInOrder end fs
