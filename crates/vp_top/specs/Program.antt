-- What the program defines for its words, for the bytes that it takes from its source, and for the state of its link.
use Rattle.std.specs.Prelude.{◌≡◌, ◌<◌, ◌≤◌, ◌⊎◌, ⊤, ℕ, Bool, false, List, [], is_some, length, codes, Some, None, Ok, Err}
use Rattle.std.specs.List.{list_all}
use Rattle.vp_model.specs.Words.{value_at}
use Rattle.vp_model.specs.Catalogue.{Catalogue}
use Rattle.vp_catalog.specs.Document.{Answered, IsOnly}
use Rattle.vp_catalog.specs.declared.fault.CatalogFault.{CatalogFault}
use Rattle.vp_catalog.specs.declared.fault.CatalogFault.TheVariants as faults
use Rattle.vp_outside.specs.Links.{LinkState}
use Rattle.vp_status.specs.Refused.{bad_line_text, twice_text, limit_text}
use Rattle.vp_status.specs.declared.status.Status.{Status}
use Rattle.vp_status.specs.declared.status.Status.TheVariants as status
use Rattle.vp_words.specs.Commands.{command_of}
use Rattle.vp_words.specs.declared.words.Command.{Command}
use Rattle.vp_words.specs.declared.words.Command.TheVariants as commands
use Rattle.vp_replay.specs.Checked.{IsCheckAnswer}
use Rattle.vp_replay.specs.Generated.{IsGenerated, IsSoaked}
use Rattle.vp_replay.specs.Logged.{IsLogsAnswer}
use Rattle.vp_replay.specs.Replayed.{IsReplayAnswer}
use Rattle.vp_top.specs.Asked.{ClientGives, ClientLeaves, SignalGives, SignalLeaves}
use Rattle.vp_top.specs.Merges.{IsMergeAnswer}
use Rattle.vp_top.specs.Procedures.{IsNoProcedure, LacksSite, IsAtSite, ProcedureGives, ProcedureLeaves}

-- the most bytes that an input may have
abbrev pub most_bytes : ℕ
most_bytes = 16777216

abbrev pub usage_text : List ℕ
usage_text = codes "usage: vpdb replay|check|node|client|tick|probe|stop|generate|soak|logs|merge|audit|proc|gateway\n"

-- ---- at a site of a catalogue

-- what is printed for a text that is no catalogue
abbrev pub TellsFault : CatalogFault → Status → List ℕ → Type 0
TellsFault (faults.BadLine line at) status.BadLine text = text ≡ bad_line_text line at
TellsFault (faults.Twice line) status.BadLine text = text ≡ twice_text line
TellsFault (faults.TooMany line limit) status.Limit text = text ≡ limit_text limit
TellsFault _ _ text = ⊥

pub record IsNoCatalogue (bytes : List ℕ) (end : Status) (text : List ℕ) : Type 0 where
  pub fault : CatalogFault
  pub answered : Answered bytes (Err fault)
  pub only : IsOnly bytes (Err fault)
  pub tells : TellsFault fault end text

-- The catalogue lacks the site, and the usage line is printed.
pub record HasNoSite (bytes : List ℕ) (site : ℕ) (end : Status) (text : List ℕ) : Type 0 where
  pub catalogue : Catalogue
  pub answered : Answered bytes (Ok catalogue)
  pub only : IsOnly bytes (Ok catalogue)
  pub missing : value_at site catalogue.sites ≡ None
  pub end_is : end ≡ status.Usage
  pub text_is : text ≡ usage_text

-- what is printed if the input has no such site
abbrev pub IsNowhere : List ℕ → ℕ → Status → List ℕ → Type 0
IsNowhere bytes site end text = IsNoCatalogue bytes end text ⊎ HasNoSite bytes site end text

-- The input is this catalogue and no other, in which the site has this port.
pub record IsPlaced (bytes : List ℕ) (catalogue : Catalogue) (site port : ℕ) : Type 0 where
  pub answered : Answered bytes (Ok catalogue)
  pub only : IsOnly bytes (Ok catalogue)
  pub there : value_at site catalogue.sites ≡ Some port

-- the catalogue has the sites of all these logs
abbrev pub has_all : Catalogue → List (ℕ × List ℕ) → Bool
has_all catalogue logs = list_all (λ log. is_some (value_at log.0 catalogue.sites)) logs

-- The input is this catalogue and no other, and has all their sites, or hasn't.
pub record IsCatalogueOf (bytes : List ℕ) (catalogue : Catalogue) (logs : List (ℕ × List ℕ)) (all : Bool) : Type 0 where
  pub answered : Answered bytes (Ok catalogue)
  pub only : IsOnly bytes (Ok catalogue)
  pub there : has_all catalogue logs ≡ all

-- what is printed if the input lacks a site of these logs
abbrev pub LacksSites : List ℕ → List (ℕ × List ℕ) → Status → List ℕ → Type 0
LacksSites bytes logs end text =
    IsNoCatalogue bytes end text ⊎ (((catalogue : Catalogue) × IsCatalogueOf bytes catalogue logs false) × (end ≡ status.Usage) × (text ≡ usage_text))

-- what is printed at a site, by its port; if the input has no such site, the link is not called
pub record IsToldAt (bytes : List ℕ) (site : ℕ) (told : ℕ → Type 0) : Type 0 where
  pub catalogue : Catalogue
  pub port : ℕ
  pub placed : IsPlaced bytes catalogue site port
  pub is : told port

abbrev pub AtSite : List ℕ → ℕ → LinkState → LinkState → (ℕ → Status → List ℕ → Type 0) → Status → List ℕ → Type 0
AtSite bytes site link link' gives end text = (IsNowhere bytes site end text × (link' ≡ link)) ⊎ IsToldAt bytes site (λ port. gives port end text)

-- ---- a procedure

-- what is printed for an input that is a procedure's, or isn't, or has no such site
abbrev pub IsProcedureAnswer : ℕ → ℕ → ℕ → List ℕ → LinkState → LinkState → Status → List ℕ → Type 0
IsProcedureAnswer own turns site bytes link link' end text =
    (IsNoProcedure bytes end text × (link' ≡ link))
    ⊎ ((LacksSite bytes site × (end ≡ status.Usage) × (text ≡ usage_text) × (link' ≡ link))
    ⊎ IsAtSite bytes site (λ p port. ProcedureGives own turns port site p link link' end text))

-- how its run may leave the link if memory runs out
abbrev pub MayRun : ℕ → ℕ → ℕ → List ℕ → LinkState → LinkState → Type 0
MayRun own turns site bytes link link' = (link' ≡ link) ⊎ IsAtSite bytes site (λ p port. ProcedureLeaves own turns port site p link link')

-- ---- the commands

-- The text that a command defines for its input at each status; no other status is possible. A node that serves prints as it goes, and
-- defines no text; an audit of sites that are there has its text by its logs.
abbrev pub IsAnswer : Command → List ℕ → LinkState → LinkState → Status → List ℕ → Type 0
IsAnswer commands.Replay bytes link link' end text = IsReplayAnswer bytes end text
IsAnswer commands.Check bytes link link' end text = IsCheckAnswer bytes end text
IsAnswer (commands.Generate seed count) bytes link link' end text = IsGenerated seed count end text
IsAnswer (commands.Soak seed count) bytes link link' end text = IsSoaked seed count end text
IsAnswer commands.Logs bytes link link' end text = IsLogsAnswer bytes end text
IsAnswer (commands.Node site log turns) bytes link link' end text = AtSite bytes site link link' (λ port end text. ⊥) end text
IsAnswer (commands.Client own turns site call) bytes link link' end text = AtSite bytes site link link' (λ port. ClientGives own turns port site call link link') end text
IsAnswer (commands.Signal site given) bytes link link' end text = AtSite bytes site link link' (λ port. SignalGives port site given link link') end text
IsAnswer (commands.Audit logs) bytes link link' end text = LacksSites bytes logs end text × (link' ≡ link)
IsAnswer (commands.Gateway own turns site) bytes link link' end text = ⊥
IsAnswer commands.Merge bytes link link' end text = IsMergeAnswer bytes end text
IsAnswer (commands.Proc own turns site) bytes link link' end text = IsProcedureAnswer own turns site bytes link link' end text

-- how a command may leave its link if memory runs out
abbrev pub MayCall : Command → List ℕ → LinkState → LinkState → Type 0
MayCall (commands.Client own turns site call) bytes link link' = (link' ≡ link) ⊎ IsToldAt bytes site (λ port. ClientLeaves own turns port site call link link')
MayCall (commands.Signal site given) bytes link link' = (link' ≡ link) ⊎ IsToldAt bytes site (λ port. SignalLeaves port site given link link')
MayCall (commands.Proc own turns site) bytes link link' = MayRun own turns site bytes link link'
MayCall _ bytes link link' = link' ≡ link

-- the command reads its input to the end before it does anything
abbrev pub Reads : Command → Type 0
Reads (commands.Generate seed count) = ⊥
Reads (commands.Soak seed count) = ⊥
Reads (commands.Gateway own turns site) = ⊥
Reads _ = ⊤

-- the command calls its link
abbrev pub Calls : Command → Type 0
Calls (commands.Node site log turns) = ⊤
Calls (commands.Client own turns site call) = ⊤
Calls (commands.Signal site given) = ⊤
Calls (commands.Gateway own turns site) = ⊤
Calls (commands.Proc own turns site) = ⊤
Calls _ = ⊥

-- the command calls its disk
abbrev pub CallsDisk : Command → Type 0
CallsDisk (commands.Node site log turns) = ⊤
CallsDisk (commands.Audit logs) = ⊤
CallsDisk _ = ⊥

-- the command takes its input line by line
abbrev pub IsForGateway : Command → Type 0
IsForGateway (commands.Gateway own turns site) = ⊤
IsForGateway _ = ⊥

-- the words are those of a command with this property
abbrev pub AreOf : (Command → Type 0) → List (List ℕ) → Type 0
AreOf P words = (command : Command) × (command_of words ≡ Some command) × P command

-- A command reads its input to the end, and that is not too long; or it reads nothing.
abbrev pub HasRead : Command → List ℕ → Type 0 → Type 0
HasRead (commands.Generate seed count) bytes ended = bytes ≡ []
HasRead (commands.Soak seed count) bytes ended = bytes ≡ []
HasRead (commands.Gateway own turns site) bytes ended = bytes ≡ []
HasRead _ bytes ended = (length bytes ≤ most_bytes) × ended

-- The words are a command's, its input was read, and this is its answer.
pub record IsAnswered (words : List (List ℕ)) (bytes : List ℕ) (ended : Type 0) (link link' : LinkState) (end : Status) (text : List ℕ) : Type 0 where
  pub command : Command
  pub words_are : command_of words ≡ Some command
  pub read : HasRead command bytes ended
  pub answer : IsAnswer command bytes link link' end text

-- The words are those of a command that reads its input, and that is too long.
abbrev pub IsTooLong : List (List ℕ) → List ℕ → List ℕ → Type 0
IsTooLong words bytes text = AreOf Reads words × (most_bytes < length bytes) × (text ≡ codes "limit bytes 16777216\n")

-- The words are no command's.
abbrev pub IsNoCommand : List (List ℕ) → List ℕ → List ℕ → Type 0
IsNoCommand words bytes text = (command_of words ≡ None) × (bytes ≡ []) × (text ≡ usage_text)

-- The text that the program defines for its words at each status, if it took these bytes from its source, and found its end or didn't.
abbrev pub IsDefined : List (List ℕ) → List ℕ → Type 0 → LinkState → LinkState → Status → List ℕ → Type 0
IsDefined words bytes ended link link' status.Usage text = (IsNoCommand words bytes text × (link' ≡ link)) ⊎ IsAnswered words bytes ended link link' status.Usage text
IsDefined words bytes ended link link' status.Limit text = (IsTooLong words bytes text × (link' ≡ link)) ⊎ IsAnswered words bytes ended link link' status.Limit text
IsDefined words bytes ended link link' end text = IsAnswered words bytes ended link link' end text
