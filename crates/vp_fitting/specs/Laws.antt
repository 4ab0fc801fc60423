-- What holds of each merge, under any limits.
use Rattle.std.specs.Prelude.{◌≡◌, ◌≢◌, ◌⊎◌, ℕ, true, List, [], ◌∷◌, None}
use Rattle.std.specs.List.{AllByRecursion, Contains}
use Rattle.vp_model.specs.Types.{Counted, Sent, Event}
use Rattle.vp_model.specs.Catalogue.{Catalogue, sites_of}
use Rattle.vp_model.specs.Limits.{Limits, limit_reached}
use Rattle.vp_model.specs.World.{Schedule, run_of, moments_of}
use Rattle.vp_catalog.specs.Document.{IsCatalogue}
use Rattle.vp_model.specs.Types.input
use Rattle.vp_laws.specs.ShapeLaws.{IsEvent}
use Rattle.vp_runs.specs.declared.arrival.Arrival.{Arrival}
use Rattle.vp_runs.specs.declared.arrival.Arrival.TheVariants.{Bad, Stray, Stops, Gives}
use Rattle.vp_recording.specs.Recordings.{AreOfNodes}
use Rattle.vp_fitting.specs.Asked.{Due, asks, dues_of, outs_of}
use Rattle.vp_fitting.specs.Fitting.{FitsWhole, IsFitting, given_by}
use Rattle.vp_fitting.specs.Merged.{Merge, merged, tells}
use Rattle.vp_recording.specs.declared.recording.Recording.{Recording}

abbrev pub over : Catalogue → List Event → Schedule
over catalogue events = record { catalogue = catalogue; events = events }

-- ---- what is recorded as handed over is what was given

-- The turn is its site's, and its datagrams are the frames that its step gave; a frame that ends the node gives none. The rest is of what was
-- given after it.
abbrev pub IsTold : Due → Arrival → (List (List (List ℕ)) → Type 0) → List (List (List ℕ)) → Type 0
IsTold d (Gives input) rest given = (made : List (List ℕ)) × (more : List (List (List ℕ))) × (given ≡ made ∷ more) × (tells d.short (outs_of d) made ≡ true) × rest more
IsTold d Stops rest given = (outs_of d ≡ []) × rest given
IsTold d (Bad at) rest given = ⊥
IsTold d Stray rest given = ⊥

abbrev pub AreTold : ℕ → List Due → List (List (List ℕ)) → Type 0
AreTold site [] given = given ≡ []
AreTold site (d ∷ dues) given = IsTold d (asks site d.turn.frame) (AreTold site dues) given

-- A schedule does all that the recordings ask, and gives what they say.
pub record MatchesAll (s : Schedule) (recordings : List Recording) : Type 0 where
  pub fits : FitsWhole s recordings
  pub told : (id : ℕ) → Contains (sites_of s.catalogue) id → AreTold id (dues_of id recordings) (given_by id (moments_of s))

-- ---- the laws

-- A whole merge is a schedule that does all that the recordings ask and gives what they say, and exceeds no limit.
pub record IsWhole (limits : Limits) (catalogue : Catalogue) (recordings : List Recording) (events : List Event) : Type 0 where
  pub matches : MatchesAll (over catalogue events) recordings
  pub calls : AllByRecursion IsEvent events
  pub within : limit_reached limits (over catalogue events) ≡ None

abbrev pub MergesMatch : Type 0
MergesMatch = (limits : Limits) (catalogue : Catalogue) (recordings : List Recording) (events : List Event) →
    IsCatalogue catalogue → AreOfNodes catalogue recordings → merged limits catalogue recordings ≡ Merge.whole events → IsWhole limits catalogue recordings events

-- No schedule that fits sends the message that this turn takes, at any time.
abbrev pub IsNeverSent : Catalogue → List Recording → ℕ → ℕ → Type 0
IsNeverSent catalogue recordings site number = (s : Schedule) → s.catalogue ≡ catalogue → IsFitting s recordings →
    (d : Due) → Contains (dues_of site recordings) d → d.number ≡ number → (sent : Sent) → Contains (run_of s).world.sent sent → sent.to ≡ site → asks site d.turn.frame ≢ Gives (input.Message sent.from sent.message)

-- Where no further turn can be done, no schedule that fits sends the message that the turn waits for.
abbrev pub UnsentIsNeverSent : Type 0
UnsentIsNeverSent = (limits : Limits) (catalogue : Catalogue) (recordings : List Recording) (site number : ℕ) →
    IsCatalogue catalogue → AreOfNodes catalogue recordings → merged limits catalogue recordings ≡ Merge.unsent site number → IsNeverSent catalogue recordings site number

-- Where some schedule does all that the recordings ask and gives what they say, the merge is whole, or a limit ends it.
abbrev pub FittingRecordingsMerge : Type 0
FittingRecordingsMerge = (limits : Limits) (catalogue : Catalogue) (recordings : List Recording) (s : Schedule) →
    IsCatalogue catalogue → AreOfNodes catalogue recordings → s.catalogue ≡ catalogue → MatchesAll s recordings →
    ((events : List Event) × (merged limits catalogue recordings ≡ Merge.whole events)) ⊎ ((what : Counted) × (merged limits catalogue recordings ≡ Merge.too_long what))
