-- One turn of a node: what a datagram that comes does.
use Rattle.std.specs.Prelude.{ℕ, Bool, true, false, List, [], ◌∷◌, ◌++◌, map, flat_map, codes}
use Rattle.std.specs.Option.{option_map_or}
use Rattle.std.specs.Fmt.{decimal}
use Rattle.hex.specs.Hex.{encode_lower}
use Rattle.vp_text.specs.Documents.{word_line}
use Rattle.vp_model.specs.Types.{LogRecord, Commit, Sent, Reply, Effects}
use Rattle.vp_model.specs.Words.{value_at}
use Rattle.vp_model.specs.Catalogue.{Catalogue}
use Rattle.vp_model.specs.Site.{SiteState, Stepped}
use Rattle.vp_model.specs.Step.{step}
use Rattle.vp_laws.specs.ShapeLaws.{message_frame, reply_frame}
use Rattle.vp_outside.specs.declared.datagram.Datagram.{Datagram}
use Rattle.vp_wire.specs.declared.frame.Frame.{Frame}
use Rattle.vp_wire.specs.Grammar.{frame_bytes}
use Rattle.vp_runs.specs.declared.arrival.Arrival.{Arrival}
use Rattle.vp_runs.specs.declared.arrival.Arrival.TheVariants.{Bad, Stray, Stops, Gives}

-- ---- datagrams

abbrev pub datagram_to : ℕ → Frame → Datagram
datagram_to port frame = record { port = port; bytes = frame_bytes frame }

-- a message goes to its receiver's port; nothing goes to a site that the catalogue lacks
abbrev pub message_datagram : Catalogue → Sent → List Datagram
message_datagram catalogue sent = option_map_or (λ port. datagram_to port (message_frame sent) ∷ []) (value_at sent.to catalogue.sites) []

abbrev pub reply_datagram : ℕ → Reply → Datagram
reply_datagram id reply = datagram_to reply.to (reply_frame id reply)

-- what a step hands to the link: messages, and then replies
unfoldable pub datagrams_of : Catalogue → ℕ → Effects → List Datagram
datagrams_of catalogue id effects = flat_map (message_datagram catalogue) effects.messages ++ map (reply_datagram id) effects.replies

-- ---- the turn

-- the site after a turn, what it forces to its log, its commits, what it hands to the link, and whether the run ends
pub record Turn : Type 0 where
  pub site : SiteState
  pub batch : List LogRecord
  pub commits : List Commit
  pub datagrams : List Datagram
  pub stop : Bool

abbrev pub quiet_turn : SiteState → Bool → Turn
quiet_turn site stop = record { site = site; batch = []; commits = []; datagrams = []; stop = stop }

abbrev pub step_turn : Catalogue → ℕ → Stepped → Turn
step_turn catalogue id o =
    record {
      site = o.site;
      batch = o.effects.records;
      commits = o.effects.commits;
      datagrams = datagrams_of catalogue id o.effects;
      stop = false;
    }

unfoldable pub turn_on : Catalogue → SiteState → Arrival → Turn
turn_on catalogue site (Bad at) = quiet_turn site false
turn_on catalogue site Stray = quiet_turn site false
turn_on catalogue site Stops = quiet_turn site true
turn_on catalogue site (Gives given) = step_turn catalogue site.id (step catalogue site given)

-- ---- the recording

-- the line with the bytes that came, and with what they are
abbrev pub arrival_line : List ℕ → Arrival → List ℕ
arrival_line bytes (Bad at) = word_line (codes "bad ") (decimal at)
arrival_line bytes Stray = word_line (codes "stray ") (encode_lower bytes)
arrival_line bytes Stops = word_line (codes "in ") (encode_lower bytes)
arrival_line bytes (Gives given) = word_line (codes "in ") (encode_lower bytes)

abbrev pub out_line : Datagram → List ℕ
out_line d = word_line (codes "out ") (encode_lower d.bytes)

abbrev pub turn_lines : Datagram → Arrival → Turn → List (List ℕ)
turn_lines d what turn = arrival_line d.bytes what ∷ map out_line turn.datagrams

abbrev pub start_line : ℕ → List ℕ
start_line life = word_line (codes "start ") (decimal life)

abbrev pub end_line : List ℕ
end_line = codes "end\n"
