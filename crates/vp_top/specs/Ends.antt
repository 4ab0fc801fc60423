-- How a run ends: what was taken from the source, what the sink got, the states of the link and the disk, and which count rose.
use Rattle.std.specs.Prelude.{◌≡◌, ◌≤◌, ◌⊎◌, ℕ, true, List, length, Some}
use Rattle.std.specs.Io.KnownBytes.{Appends}
use Rattle.vp_model.specs.Catalogue.{Catalogue}
use Rattle.vp_outside.specs.Causes.{Rose}
use Rattle.vp_outside.specs.Input.{SourceState, IsEnded, Took}
use Rattle.vp_outside.specs.Links.{LinkState}
use Rattle.vp_outside.specs.Output.{SinkState, AppendsPrefix}
use Rattle.vp_serving.specs.Serving.{Outside}
use Rattle.vp_words.specs.Commands.{command_of}
use Rattle.vp_words.specs.declared.words.Command.{Command}
use Rattle.vp_words.specs.declared.words.Command.TheVariants as commands
use Rattle.vp_gateway.specs.Served.{gate}
use Rattle.vp_top.specs.Audits.{AuditGives, KeepsLogs}
use Rattle.vp_top.specs.GatewayEnds.{GatewayEnds}
use Rattle.vp_top.specs.NodeEnds.{NodeEnds, HasCause, DecidedIfCalm}
use Rattle.vp_top.specs.Program.{most_bytes, Reads, AreOf, IsCatalogueOf, IsDefined, IsPlaced, MayCall}
use Rattle.vp_status.specs.Printing.{Prints}
use Rattle.vp_status.specs.declared.status.Status.{Status}
use Rattle.vp_status.specs.declared.status.Status.TheVariants as status

module _ (words : List (List ℕ)) (source source' : SourceState) (link link' : LinkState) where
  -- The run took these bytes from its source, and the words define this status and this text for them.
  pub record Defines (end : Status) (text : List ℕ) : Type 0 where
    pub bytes : List ℕ
    pub took : Took bytes source source'
    pub defined : IsDefined words bytes (IsEnded source') link link' end text

  -- If memory runs out, the link was not called, or was left as the command may leave it.
  abbrev pub LeavesLink : Type 0
  LeavesLink = (link' ≡ link) ⊎ ((command : Command) × (command_of words ≡ Some command) × ((bytes : List ℕ) × Took bytes source source' × MayCall command bytes link link'))

-- ---- a text is printed

module _ (words : List (List ℕ)) (source source' : SourceState) (link link' : LinkState) (sink sink' : SinkState) where
  -- all of the text that is defined went to the sink
  pub record IsPrinted (end : Status) : Type 0 where
    pub text : List ℕ
    pub defines : Defines words source source' link link' end text
    pub appended : Appends sink.held sink'.held text

  -- a prefix of a text that is defined went to the sink
  pub record IsCut : Type 0 where
    pub end : Status
    pub text : List ℕ
    pub defines : Defines words source source' link link' end text
    pub appended : AppendsPrefix sink.held sink'.held text

  -- the sink was not called
  abbrev pub IsSilent : Type 0
  IsSilent = sink' ≡ sink

  abbrev pub EndsInText : Status → Type 0
  EndsInText status.SourceFault = AreOf Reads words × Rose source.faults source'.faults × IsSilent × (link' ≡ link)
  EndsInText status.SinkFault = Rose sink.faults sink'.faults × IsCut
  EndsInText status.NoMemory = IsCut ⊎ (IsSilent × LeavesLink words source source' link link')
  EndsInText end = IsPrinted end

-- ---- a node serves

-- The words are those of a node, and its catalogue was read.
pub record IsNode (words : List (List ℕ)) (source source' : SourceState) (catalogue : Catalogue) (site : ℕ) (log : List ℕ) (turns : ℕ) : Type 0 where
  pub words_are : command_of words ≡ Some (commands.Node site log turns)
  pub bytes : List ℕ
  pub fits : length bytes ≤ most_bytes
  pub took : Took bytes source source'
  pub ended : IsEnded source'
  pub port : ℕ
  pub placed : IsPlaced bytes catalogue site port

pub record EndsAsNode (words : List (List ℕ)) (source source' : SourceState) (o : Outside) (end : Status) : Type 0 where
  pub catalogue : Catalogue
  pub site : ℕ
  pub log : List ℕ
  pub turns : ℕ
  pub node : IsNode words source source' catalogue site log turns
  pub ends : NodeEnds catalogue site turns log o end
  pub cause : HasCause catalogue site log o end
  pub decided : DecidedIfCalm catalogue site log o end

-- ---- logs are audited

-- The words are those of an audit, and its catalogue was read, which has all its sites.
pub record IsAudit (words : List (List ℕ)) (source source' : SourceState) (catalogue : Catalogue) (logs : List (ℕ × List ℕ)) : Type 0 where
  pub words_are : command_of words ≡ Some (commands.Audit logs)
  pub bytes : List ℕ
  pub fits : length bytes ≤ most_bytes
  pub took : Took bytes source source'
  pub ended : IsEnded source'
  pub placed : IsCatalogueOf bytes catalogue logs true

-- What the logs give was printed, or memory ran out before.
abbrev pub PrintsAudit : Catalogue → List (ℕ × List ℕ) → Outside → Status → Type 0
PrintsAudit catalogue logs o end =
    ((told : Status) × (text : List ℕ) × AuditGives catalogue logs o.disk o.disk' told text × Prints told text o.sink o.sink' end)
    ⊎ ((end ≡ status.NoMemory) × (o.sink' ≡ o.sink))

pub record EndsAsAudit (words : List (List ℕ)) (source source' : SourceState) (o : Outside) (end : Status) : Type 0 where
  pub catalogue : Catalogue
  pub logs : List (ℕ × List ℕ)
  pub audit : IsAudit words source source' catalogue logs
  pub prints : PrintsAudit catalogue logs o end
  pub kept : KeepsLogs o.disk o.disk'
  pub uncalled : o.link' ≡ o.link

-- ---- a gateway answers a session

-- The words are those of a gateway, which takes its input line by line.
pub record EndsAsGateway (words : List (List ℕ)) (source source' : SourceState) (o : Outside) (end : Status) : Type 0 where
  pub own : ℕ
  pub turns : ℕ
  pub site : ℕ
  pub words_are : command_of words ≡ Some (commands.Gateway own turns site)
  pub ends : GatewayEnds own turns site (gate source source' o.sink o.sink' o.link o.link') end

-- ---- the run

-- a node served, or logs were audited
abbrev pub EndsOnDisk : List (List ℕ) → SourceState → SourceState → Outside → Status → Type 0
EndsOnDisk words source source' o end = EndsAsNode words source source' o end ⊎ EndsAsAudit words source source' o end

-- what the status of a run says: a text was printed, or the disk was called, or a session was answered
abbrev pub Ends : List (List ℕ) → SourceState → SourceState → Outside → Status → Type 0
Ends words source source' o end = EndsInText words source source' o.link o.link' o.sink o.sink' end ⊎ EndsOnDisk words source source' o end ⊎ EndsAsGateway words source source' o end
