-- What is printed of a schedule that the generator makes.
use Rattle.std.specs.Prelude.{◌≡◌, ℕ, ⊤, List, ◌++◌, Option, Some, None, Result, Ok, Err, true}
use Rattle.vp_base.specs.declared.memory.NoMemory.{NoMemory}
use Rattle.vp_model.specs.Types.{Counted}
use Rattle.vp_model.specs.Headline.{IsSerial}
use Rattle.vp_model.specs.Limits.{world_limits}
use Rattle.vp_model.specs.Generated.{generating, generated_catalogue, made, made_within, limit_made}
use Rattle.vp_model.specs.Texts.Schedule.{schedule_text}
use Rattle.vp_model.specs.Texts.Trace.{printed_lines}
use Rattle.vp_text.specs.Printing.{is_begun}
use Rattle.vp_status.specs.Refused.{limit_text}
use Rattle.vp_replay.specs.Summary.{replies_of, summary_text}
use Rattle.vp_replay.specs.declared.generating.GeneratedRun.{GeneratedRun}
use Rattle.vp_status.specs.declared.status.Status.{Status}
use Rattle.vp_status.specs.declared.status.Status.TheVariants as status
use Rattle.vp_world.specs.Known.{Known}
use Rattle.vp_world.specs.Limits.{limit_of}
use Rattle.vp_world.specs.declared.end.WorldEnd.{WorldEnd}
use Rattle.vp_world.specs.declared.end.WorldEnd.TheVariants as end

-- The schedule is made and played to its end, or a limit ends it, and the events before the one that was refused are there.
abbrev pub Makes : ℕ → ℕ → Result Known WorldEnd → GeneratedRun → Type 0
Makes seed count (Ok known) m =
    (limit_made world_limits seed count ≡ None)
    × (known ≡ record { catalogue = generated_catalogue; world = (generating seed count).run.world })
    × (m.events ≡ (made seed count).events)
    × (m.replies ≡ replies_of (printed_lines (made seed count)))
Makes seed count (Err (end.Limit what limit)) m =
    (limit_made world_limits seed count ≡ Some what) × (limit ≡ limit_of what) × (m.events ≡ (made_within world_limits seed count).events)
Makes seed count (Err end.NoMemory) m = ⊤

-- Its text is appended; if a limit ends it, the text of the events before the one that was refused; if memory runs out, a beginning of
-- that.
abbrev pub Generates : ℕ → ℕ → Result (Option WorldEnd) NoMemory → List ℕ → List ℕ → Type 0
Generates seed count (Ok None) old new = (limit_made world_limits seed count ≡ None) × (new ≡ old ++ schedule_text (made seed count))
Generates seed count (Ok (Some (end.Limit what limit))) old new =
    (limit_made world_limits seed count ≡ Some what) × (limit ≡ limit_of what) × (new ≡ old ++ schedule_text (made_within world_limits seed count))
Generates seed count (Ok (Some end.NoMemory)) old new = ⊥
Generates seed count (Err e) old new = is_begun old (schedule_text (made_within world_limits seed count)) new ≡ true

-- what is printed of it at each status
abbrev pub IsGenerated : ℕ → ℕ → Status → List ℕ → Type 0
IsGenerated seed count status.Done text = (limit_made world_limits seed count ≡ None) × (text ≡ schedule_text (made seed count))
IsGenerated seed count status.Limit text =
    (counted : Counted)
    × (limit_made world_limits seed count ≡ Some counted)
    × (text ≡ schedule_text (made_within world_limits seed count) ++ limit_text (limit_of counted))
IsGenerated seed count _ text = ⊥

-- what is printed of its run: the commits that are counted are serial
abbrev pub IsSoaked : ℕ → ℕ → Status → List ℕ → Type 0
IsSoaked seed count status.Done text =
    (limit_made world_limits seed count ≡ None) × IsSerial (made seed count) × (text ≡ summary_text (made seed count))
IsSoaked seed count status.Limit text =
    (counted : Counted) × (limit_made world_limits seed count ≡ Some counted) × (text ≡ limit_text (limit_of counted))
IsSoaked seed count _ text = ⊥
