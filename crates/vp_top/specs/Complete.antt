-- What a run prints by its words and its input, if nothing fails.
use Rattle.std.specs.Prelude.{◌≡◌, ◌≤◌, ◌<◌, ◌⊎◌, ℕ, true, false, List, [], ◌∷◌, ◌++◌, length, take, codes, Option, Some, None, Ok}
use Rattle.std.specs.Io.KnownBytes.{Appends}
use Rattle.vp_model.specs.Types.{Answer, Call, Counted}
use Rattle.vp_model.specs.Words.{value_at}
use Rattle.vp_model.specs.Catalogue.{Catalogue}
use Rattle.vp_model.specs.World.{Schedule}
use Rattle.vp_model.specs.Limits.{world_limits, limit_reached, trace_text_within}
use Rattle.vp_model.specs.Generated.{made, made_within, limit_made}
use Rattle.vp_model.specs.Texts.Answers.{answer_text}
use Rattle.vp_model.specs.Texts.History.{history_text}
use Rattle.vp_model.specs.Texts.Schedule.{schedule_text}
use Rattle.vp_model.specs.Texts.Trace.{trace_text}
use Rattle.vp_catalog.specs.Document.{Answered}
use Rattle.vp_schedule.specs.Document.{IsScheduleText}
use Rattle.vp_onecopy.specs.Passing.{AnsweredAll}
use Rattle.vp_onecopy.specs.declared.map.History.{History}
use Rattle.vp_outside.specs.Causes.{Rose}
use Rattle.vp_outside.specs.Disk.{DiskState}
use Rattle.vp_outside.specs.Input.{SourceState}
use Rattle.vp_outside.specs.Links.{LinkState}
use Rattle.vp_outside.specs.Output.{SinkState}
use Rattle.vp_outside.specs.declared.datagram.Datagram.{Datagram}
use Rattle.vp_runs.specs.Asking.{first_answer}
use Rattle.vp_client.specs.Asked.{HasFailed}
use Rattle.vp_gateway.specs.Lines.{all_lines}
use Rattle.vp_gateway.specs.Opening.{IsHead, Refuses}
use Rattle.vp_gateway.specs.Served.{bound_at}
use Rattle.vp_gateway.specs.Sessions.{HasAnswered, talk}
use Rattle.vp_gateway.specs.declared.end.GateEnd.{GateEnd}
use Rattle.vp_serving.specs.Serving.{Outside, outside}
use Rattle.vp_top.specs.Audits.{AuditGives}
use Rattle.vp_top.specs.NodeEnds.{IsCalm, DecidedByLog}
use Rattle.vp_procedure.specs.Document.{IsProcedureText}
use Rattle.vp_procedure.specs.declared.draft.ProcedureInput.{ProcedureInput}
use Rattle.vp_recording.specs.Document.{IsRecordedText}
use Rattle.vp_recording.specs.declared.draft.RecordingSet.{RecordingSet}
use Rattle.vp_replay.specs.Checked.{IsVerdict, IsMisspelled}
use Rattle.vp_replay.specs.Logged.{IsLogged}
use Rattle.vp_replay.specs.Replayed.{IsRefused, limit_of}
use Rattle.vp_replay.specs.Summary.{summary_text}
use Rattle.vp_words.specs.Commands.{command_of}
use Rattle.vp_words.specs.declared.words.Command.{Command}
use Rattle.vp_words.specs.declared.words.Command.TheVariants as commands
use Rattle.vp_words.specs.declared.words.Signal.{Signal}
use Rattle.vp_top.specs.Ends.{Ends}
use Rattle.vp_top.specs.GatewayEnds.{last_line, status_of}
use Rattle.vp_top.specs.Merges.{IsUnrecorded, MergeGives}
use Rattle.vp_top.specs.Procedures.{IsNoProcedure, ProcedureGives}
use Rattle.vp_top.specs.SessionTexts.{IsToldSession}
use Rattle.vp_top.specs.Program.{AreOf, IsNoCatalogue, Reads, has_all, most_bytes, usage_text}
use Rattle.vp_status.specs.Refused.{limit_text}
use Rattle.vp_status.specs.declared.status.Status.{Status}
use Rattle.vp_status.specs.declared.status.Status.TheVariants as status

-- ---- what a run is given

-- The source said that it had these bytes, and no count of failures rose, of the source or of the sink.
pub record IsGiven (bytes : List ℕ) (source source' : SourceState) (o : Outside) : Type 0 where
  pub left : source.left ≡ Some bytes
  pub no_source_fault : Rose source.faults source'.faults → ⊥
  pub no_sink_fault : Rose o.sink.faults o.sink'.faults → ⊥

-- The sink's count did not rise.
abbrev pub CanPrint : SourceState → SourceState → Outside → Type 0
CanPrint source source' o = Rose o.sink.faults o.sink'.faults → ⊥

-- The source said so, neither count rose, and no call of the link failed.
abbrev pub IsLinked : List ℕ → SourceState → SourceState → Outside → Type 0
IsLinked bytes source source' o = IsGiven bytes source source' o × (HasFailed o.link o.link' → ⊥)

-- There are no more bytes than an input may have.
abbrev pub Fits : List ℕ → Type 0
Fits bytes = length bytes ≤ most_bytes

-- No limit of the world is reached.
abbrev pub IsWithinLimits : Schedule → Type 0
IsWithinLimits schedule = limit_reached world_limits schedule ≡ None

-- The bytes are no text that the command takes.
abbrev pub IsNoTextOf : Command → List ℕ → Type 0
IsNoTextOf commands.Replay bytes = (schedule : Schedule) → IsScheduleText schedule bytes → ⊥
IsNoTextOf commands.Logs bytes = (schedule : Schedule) → IsScheduleText schedule bytes → ⊥
IsNoTextOf commands.Check bytes = (history : History) → AnsweredAll bytes (Ok history) → ⊥
IsNoTextOf (commands.Generate seed count) bytes = ⊥
IsNoTextOf (commands.Soak seed count) bytes = ⊥
IsNoTextOf (commands.Gateway own turns site) bytes = ⊥
IsNoTextOf commands.Merge bytes = (it : RecordingSet) → IsRecordedText it bytes → ⊥
IsNoTextOf (commands.Proc own turns site) bytes = (it : ProcedureInput) → IsProcedureText it bytes → ⊥
IsNoTextOf _ bytes = (catalogue : Catalogue) → Answered bytes (Ok catalogue) → ⊥

-- The one fault of the bytes, as a text of the command's, is printed, with its place or with the limit that it exceeds.
abbrev pub TellsFaultOf : Command → List ℕ → Status → List ℕ → Type 0
TellsFaultOf commands.Replay bytes end text = IsRefused bytes end text
TellsFaultOf commands.Logs bytes end text = IsRefused bytes end text
TellsFaultOf commands.Check bytes end text = IsMisspelled bytes end text
TellsFaultOf (commands.Generate seed count) bytes end text = ⊥
TellsFaultOf (commands.Soak seed count) bytes end text = ⊥
TellsFaultOf (commands.Gateway own turns site) bytes end text = ⊥
TellsFaultOf commands.Merge bytes end text = IsUnrecorded bytes end text
TellsFaultOf (commands.Proc own turns site) bytes end text = IsNoProcedure bytes end text
TellsFaultOf _ bytes end text = IsNoCatalogue bytes end text

-- the site at which a command is done
abbrev pub site_of : Command → Option ℕ
site_of (commands.Node site log turns) = Some site
site_of (commands.Client own turns site call) = Some site
site_of (commands.Signal site given) = Some site
site_of _ = None

-- What the logs of an audit give was printed, and that is no fault of the disk; or memory ran out.
abbrev pub IsAudited : Catalogue → List (ℕ × List ℕ) → Outside → Status → Type 0
IsAudited catalogue logs o status.DiskFault = ⊥
IsAudited catalogue logs o end = ((text : List ℕ) × AuditGives catalogue logs o.disk o.disk' end text × Appends o.sink.held o.sink'.held text) ⊎ (end ≡ status.NoMemory)

-- ---- what comes of a session

-- The bytes are a session, all its lines were answered, and the answers alone were printed.
pub record IsAnsweredSession (own turns site : ℕ) (bytes : List ℕ) (o : Outside) : Type 0 where
  pub head : List ℕ
  pub port : ℕ
  pub is : IsHead site port head
  pub body : List ℕ
  pub parts : bytes ≡ head ++ body
  pub answered : HasAnswered port site turns (talk o.sink o.sink' (bound_at own o.link) o.link') (all_lines body)

-- A front of the bytes is no head with the site; that alone was told, and the link was not called.
pub record IsRefusedSession (site : ℕ) (bytes : List ℕ) (source' : SourceState) (o : Outside) (told : Status) : Type 0 where
  pub fault : GateEnd
  pub front : List ℕ
  pub rest : List ℕ
  pub parts : bytes ≡ front ++ rest
  pub refused : Refuses site source' front fault
  pub told_is : told ≡ status_of fault
  pub text : List ℕ
  pub text_is : last_line fault ≡ Some text
  pub printed : Appends o.sink.held o.sink'.held text
  pub uncalled : o.link' ≡ o.link

-- what the status says of a session of these bytes, unless the sink, the link or memory failed
abbrev pub IsSessionOf : ℕ → ℕ → ℕ → List ℕ → SourceState → Outside → Status → Type 0
IsSessionOf own turns site bytes source' o status.Done = IsAnsweredSession own turns site bytes o
IsSessionOf own turns site bytes source' o status.SinkFault = Unit {0}
IsSessionOf own turns site bytes source' o status.LinkFault = Unit {0}
IsSessionOf own turns site bytes source' o status.NoMemory = Unit {0}
IsSessionOf own turns site bytes source' o told = IsRefusedSession site bytes source' o told

-- ---- what comes of a procedure

-- Its line was printed, or memory ran out.
abbrev pub IsTold : ℕ → ℕ → ℕ → ℕ → ProcedureInput → Outside → Status → Type 0
IsTold own turns port site it o end =
    ((text : List ℕ) × ProcedureGives own turns port site it.procedure o.link o.link' end text × Appends o.sink.held o.sink'.held text) ⊎ (end ≡ status.NoMemory)

-- ---- the claims, over disks in such a state

module _ {D : Type 0} (state : D → DiskState) where
  -- Each run of the words over such objects prints all of a text with this property, with its status, or runs out of memory.
  abbrev pub ComesTo : List (List ℕ) → (SourceState → SourceState → Outside → Type 0) → (Status → List ℕ → Type 0) → Type 0
  ComesTo words Over Told =
      (source source' : SourceState) (link link' : LinkState) (sink sink' : SinkState) (disk disk' : D) (end : Status) →
      Ends words source source' (outside link link' sink sink' (state disk) (state disk')) end → Over source source' (outside link link' sink sink' (state disk) (state disk')) →
      ((text : List ℕ) × Told end text × Appends sink.held sink'.held text) ⊎ (end ≡ status.NoMemory)

  -- Each such run ends with this status and prints this text, or runs out of memory.
  abbrev pub EndsWith : List (List ℕ) → (SourceState → SourceState → Outside → Type 0) → Status → List ℕ → Type 0
  EndsWith words Over told printed = ComesTo words Over (λ end text. (end ≡ told) × (text ≡ printed))

  -- ---- what is asked for is done

  -- A schedule within the limits is replayed.
  abbrev pub SchedulesAreReplayed : Type 0
  SchedulesAreReplayed =
      (words : List (List ℕ)) (bytes : List ℕ) (schedule : Schedule) →
      command_of words ≡ Some commands.Replay → Fits bytes → IsScheduleText schedule bytes → IsWithinLimits schedule →
      EndsWith words (IsGiven bytes) status.Done (trace_text schedule ++ history_text schedule)

  -- The logs that a schedule within the limits leaves are printed.
  abbrev pub LogsAreTold : Type 0
  LogsAreTold =
      (words : List (List ℕ)) (bytes : List ℕ) (schedule : Schedule) →
      command_of words ≡ Some commands.Logs → Fits bytes → IsScheduleText schedule bytes → IsWithinLimits schedule →
      ComesTo words (IsGiven bytes) (λ end text. (end ≡ status.Done) × IsLogged schedule text)

  -- A history gets its verdict.
  abbrev pub HistoriesAreChecked : Type 0
  HistoriesAreChecked =
      (words : List (List ℕ)) (bytes : List ℕ) (history : History) →
      command_of words ≡ Some commands.Check → Fits bytes → AnsweredAll bytes (Ok history) →
      ComesTo words (IsGiven bytes) (IsVerdict history)

  -- The schedule of a seed and a count is made, if no limit of the world is reached.
  abbrev pub SchedulesAreGenerated : Type 0
  SchedulesAreGenerated =
      (words : List (List ℕ)) (seed count : ℕ) →
      command_of words ≡ Some (commands.Generate seed count) → limit_made world_limits seed count ≡ None →
      EndsWith words CanPrint status.Done (schedule_text (made seed count))

  -- It is played, and its run is counted.
  abbrev pub RunsAreCounted : Type 0
  RunsAreCounted =
      (words : List (List ℕ)) (seed count : ℕ) →
      command_of words ≡ Some (commands.Soak seed count) → limit_made world_limits seed count ≡ None →
      EndsWith words CanPrint status.Done (summary_text (made seed count))

  -- The answer to a call that is among the datagrams that the link had left, as many as are waited for, is printed.
  abbrev pub AnswersArePrinted : Type 0
  AnswersArePrinted =
      (words : List (List ℕ)) (own turns site port : ℕ) (call : Call) (bytes : List ℕ) (catalogue : Catalogue) (left : List Datagram) (a : Answer) →
      command_of words ≡ Some (commands.Client own turns site call) → Fits bytes → Answered bytes (Ok catalogue) → value_at site catalogue.sites ≡ Some port →
      first_answer port site call (take turns left) ≡ Some a →
      EndsWith words (λ source source' o. IsLinked bytes source source' o × (o.link.left ≡ Some left)) status.Done (answer_text a ++ 10 ∷ [])

  -- A signal is sent, and nothing is printed.
  abbrev pub SignalsAreSent : Type 0
  SignalsAreSent =
      (words : List (List ℕ)) (site port : ℕ) (given : Signal) (bytes : List ℕ) (catalogue : Catalogue) →
      command_of words ≡ Some (commands.Signal site given) → Fits bytes → Answered bytes (Ok catalogue) → value_at site catalogue.sites ≡ Some port →
      EndsWith words (IsLinked bytes) status.Done []

  -- A node ends as its log decides.
  abbrev pub NodesEndByTheirLogs : Type 0
  NodesEndByTheirLogs =
      (words : List (List ℕ)) (site port turns : ℕ) (log bytes : List ℕ) (catalogue : Catalogue) →
      command_of words ≡ Some (commands.Node site log turns) → Fits bytes → Answered bytes (Ok catalogue) → value_at site catalogue.sites ≡ Some port →
      (source source' : SourceState) (link link' : LinkState) (sink sink' : SinkState) (disk disk' : D) (end : Status) →
      Ends words source source' (outside link link' sink sink' (state disk) (state disk')) end → IsGiven bytes source source' (outside link link' sink sink' (state disk) (state disk'))
      → IsCalm (outside link link' sink sink' (state disk) (state disk')) → DecidedByLog catalogue site log (outside link link' sink sink' (state disk) (state disk')) end

  -- The result of an audit whose sites are all in the catalogue is printed, if no call of the disk fails: the report on what the batches
  -- of the logs make, or the first damaged log. One with a site that the catalogue lacks gets the usage line.
  pub record LogsAreAudited : Type 0 where
    pub audited : (words : List (List ℕ)) (logs : List (ℕ × List ℕ)) (bytes : List ℕ) (catalogue : Catalogue) →
        command_of words ≡ Some (commands.Audit logs) → Fits bytes → Answered bytes (Ok catalogue) → has_all catalogue logs ≡ true →
        (source source' : SourceState) (link link' : LinkState) (sink sink' : SinkState) (disk disk' : D) (end : Status) →
        Ends words source source' (outside link link' sink sink' (state disk) (state disk')) end → IsGiven bytes source source' (outside link link' sink sink' (state disk) (state disk'))
        → (Rose (state disk).faults (state disk').faults → ⊥) → IsAudited catalogue logs (outside link link' sink sink' (state disk) (state disk')) end
    pub missing : (words : List (List ℕ)) (logs : List (ℕ × List ℕ)) (bytes : List ℕ) (catalogue : Catalogue) →
        command_of words ≡ Some (commands.Audit logs) → Fits bytes → Answered bytes (Ok catalogue) → has_all catalogue logs ≡ false →
        EndsWith words (IsGiven bytes) status.Usage usage_text

  -- The schedule that is put together of recordings is printed, or the turn that ends it, or the limit.
  abbrev pub RecordingsAreMerged : Type 0
  RecordingsAreMerged =
      (words : List (List ℕ)) (bytes : List ℕ) (it : RecordingSet) →
      command_of words ≡ Some commands.Merge → Fits bytes → IsRecordedText it bytes →
      ComesTo words (IsGiven bytes) (MergeGives it)

  -- A procedure at a site of its catalogue is run, and the line of its end is printed. At another site it gets the usage line.
  pub record ProceduresAreRun : Type 0 where
    pub run : (words : List (List ℕ)) (own turns site port : ℕ) (bytes : List ℕ) (it : ProcedureInput) →
        command_of words ≡ Some (commands.Proc own turns site) → Fits bytes → IsProcedureText it bytes → value_at site it.catalog.sites ≡ Some port →
        (source source' : SourceState) (link link' : LinkState) (sink sink' : SinkState) (disk disk' : D) (end : Status) →
        Ends words source source' (outside link link' sink sink' (state disk) (state disk')) end → IsGiven bytes source source' (outside link link' sink sink' (state disk) (state disk'))
        → IsTold own turns port site it (outside link link' sink sink' (state disk) (state disk')) end
    pub missing : (words : List (List ℕ)) (own turns site : ℕ) (bytes : List ℕ) (it : ProcedureInput) →
        command_of words ≡ Some (commands.Proc own turns site) → Fits bytes → IsProcedureText it bytes → value_at site it.catalog.sites ≡ None →
        EndsWith words (IsGiven bytes) status.Usage usage_text

  -- Of a session of any bytes it is told, whatever ends it, which lines were answered, and with what. One of no more bytes than an input
  -- has, of a source that doesn't fail, is answered line by line to its end, or its head is refused.
  pub record SessionsAreAnswered : Type 0 where
    pub told : (words : List (List ℕ)) (own turns site : ℕ) (bytes : List ℕ) →
        command_of words ≡ Some (commands.Gateway own turns site) →
        (source source' : SourceState) (link link' : LinkState) (sink sink' : SinkState) (disk disk' : D) (end : Status) →
        Ends words source source' (outside link link' sink sink' (state disk) (state disk')) end → source.left ≡ Some bytes
        → IsToldSession own turns site bytes source source' (outside link link' sink sink' (state disk) (state disk')) end
    pub calm : (words : List (List ℕ)) (own turns site : ℕ) (bytes : List ℕ) →
        command_of words ≡ Some (commands.Gateway own turns site) → Fits bytes →
        (source source' : SourceState) (link link' : LinkState) (sink sink' : SinkState) (disk disk' : D) (end : Status) →
        Ends words source source' (outside link link' sink sink' (state disk) (state disk')) end → source.left ≡ Some bytes → (Rose source.faults source'.faults → ⊥)
        → IsSessionOf own turns site bytes source' (outside link link' sink sink' (state disk) (state disk')) end

  -- ---- what can't be done is refused

  -- Words that are no command's get the usage line.
  abbrev pub OtherWordsAreRefused : Type 0
  OtherWordsAreRefused = (words : List (List ℕ)) → command_of words ≡ None → EndsWith words CanPrint status.Usage usage_text

  -- An input that is too long is refused by each command that reads its input.
  abbrev pub LongInputsAreRefused : Type 0
  LongInputsAreRefused =
      (words : List (List ℕ)) (bytes : List ℕ) → AreOf Reads words → most_bytes < length bytes →
      EndsWith words (IsGiven bytes) status.Limit (codes "limit bytes 16777216\n")

  -- The fault of an input that is no text of the command's is printed.
  abbrev pub MalformedInputsAreRefused : Type 0
  MalformedInputsAreRefused =
      (words : List (List ℕ)) (bytes : List ℕ) (command : Command) → command_of words ≡ Some command → Fits bytes → IsNoTextOf command bytes →
      ComesTo words (IsGiven bytes) (TellsFaultOf command bytes)

  -- A site that the catalogue lacks gets the usage line.
  abbrev pub MissingSitesAreRefused : Type 0
  MissingSitesAreRefused =
      (words : List (List ℕ)) (site : ℕ) (bytes : List ℕ) (catalogue : Catalogue) (command : Command) →
      command_of words ≡ Some command → site_of command ≡ Some site → Fits bytes → Answered bytes (Ok catalogue) → value_at site catalogue.sites ≡ None →
      EndsWith words (IsGiven bytes) status.Usage usage_text

  -- A limit of the world that is reached is printed, after what is printed of the steps before.
  pub record LimitsAreTold : Type 0 where
    pub replayed : (words : List (List ℕ)) (bytes : List ℕ) (schedule : Schedule) (counted : Counted) →
        command_of words ≡ Some commands.Replay → Fits bytes → IsScheduleText schedule bytes → limit_reached world_limits schedule ≡ Some counted →
        EndsWith words (IsGiven bytes) status.Limit (trace_text_within world_limits schedule ++ limit_text (limit_of counted))
    pub logged : (words : List (List ℕ)) (bytes : List ℕ) (schedule : Schedule) (counted : Counted) →
        command_of words ≡ Some commands.Logs → Fits bytes → IsScheduleText schedule bytes → limit_reached world_limits schedule ≡ Some counted →
        EndsWith words (IsGiven bytes) status.Limit (limit_text (limit_of counted))
    pub generated : (words : List (List ℕ)) (seed count : ℕ) (counted : Counted) →
        command_of words ≡ Some (commands.Generate seed count) → limit_made world_limits seed count ≡ Some counted →
        EndsWith words CanPrint status.Limit (schedule_text (made_within world_limits seed count) ++ limit_text (limit_of counted))
    pub soaked : (words : List (List ℕ)) (seed count : ℕ) (counted : Counted) →
        command_of words ≡ Some (commands.Soak seed count) → limit_made world_limits seed count ≡ Some counted →
        EndsWith words CanPrint status.Limit (limit_text (limit_of counted))
