-- How a run ends.
use Rattle.std.proofs.Common.{◌≡◌, ◌∙◌, ◌≤◌, ℕ, List, [], length, true, refl, sym, ap, subst, arith, inl, inr, ⊎_elim, is_some}
use Rattle.std.proofs.KnownBytes.{Consumes-nil}
use Rattle.std.specs.Prelude.{⊤, Some, Result, Ok, Err}
use Rattle.std.specs.Io.KnownBytes.{Appends}
use Rattle.vp_model.specs.Types.{Answer}
use Rattle.vp_model.specs.Words.{has, keys, value_at}
use Rattle.vp_catalog.specs.declared.fault.CatalogFault.{CatalogFault}
use Rattle.vp_catalog.specs.declared.fault.CatalogFault.TheVariants as faults
use Rattle.vp_records.proofs.Held.{is_there}
use Rattle.vp_outside.specs.Input.{SourceState, IsEnded, Took}
use Rattle.vp_outside.specs.Links.{LinkState}
use Rattle.vp_outside.specs.Output.{SinkState}
use Rattle.vp_client.specs.declared.asking.AskFault.{AskFault}
use Rattle.vp_client.specs.declared.asking.AskFault.TheVariants as ask
use Rattle.vp_procedure.specs.declared.fault.ProcedureFault.{ProcedureFault}
use Rattle.vp_procedure.specs.declared.fault.ProcedureFault.TheVariants as texts
use Rattle.vp_proc.specs.declared.ended.End.{End}
use Rattle.vp_proc.specs.declared.ended.End.TheVariants as ends
use Rattle.vp_proc.specs.declared.ended.Ended.{Ended}
use Rattle.vp_status.specs.Printing.{Prints}
use Rattle.vp_status.specs.declared.status.Status.{Status}
use Rattle.vp_status.specs.declared.status.Status.TheVariants as status
use Rattle.vp_words.specs.Commands.{command_of}
use Rattle.vp_words.specs.declared.words.Command.{Command}
use Rattle.vp_words.specs.declared.words.Command.TheVariants as commands
use Rattle.vp_top.specs.Asked.{Tells, ClientGives, SignalGives}
use Rattle.vp_top.specs.Ends.{Defines, EndsInText}
use Rattle.vp_top.specs.Plans.{Plans, PlansFor}
use Rattle.vp_top.specs.Procedures.{TellsProcedure, TellsRun, end_status}
use Rattle.vp_top.specs.Program.{HasRead, IsAnswer, IsAnswered, IsDefined, IsNowhere, IsProcedureAnswer, LacksSites, Reads, TellsFault, most_bytes}
use Rattle.vp_top.specs.declared.plan.Plan.{Plan}
use Rattle.vp_top.specs.declared.plan.Plan.TheVariants as plans

-- ---- the statuses of texts

-- No text has the status of a fault of the source or the sink, nor the one for memory that ran out.
abbrev HasText : Status → Type 0
HasText status.NoMemory = ⊥
HasText status.SourceFault = ⊥
HasText status.SinkFault = ⊥
HasText _ = ⊤

fault_has : (fault : CatalogFault) (end : Status) (text : List ℕ) → TellsFault fault end text → HasText end
fault_has (faults.BadLine line at) status.NoMemory text t = t
fault_has (faults.BadLine line at) status.SourceFault text t = t
fault_has (faults.BadLine line at) status.SinkFault text t = t
fault_has (faults.Twice line) status.NoMemory text t = t
fault_has (faults.Twice line) status.SourceFault text t = t
fault_has (faults.Twice line) status.SinkFault text t = t
fault_has (faults.TooMany line limit) status.NoMemory text t = t
fault_has (faults.TooMany line limit) status.SourceFault text t = t
fault_has (faults.TooMany line limit) status.SinkFault text t = t
fault_has faults.NoMemory status.NoMemory text t = t
fault_has faults.NoMemory status.SourceFault text t = t
fault_has faults.NoMemory status.SinkFault text t = t
fault_has _ _ text t = tt

tells_has : (answered : Result Answer AskFault) (end : Status) (text : List ℕ) → Tells answered end text → HasText end
tells_has (Ok a) status.NoMemory text t = t
tells_has (Ok a) status.SourceFault text t = t
tells_has (Ok a) status.SinkFault text t = t
tells_has (Err (ask.NoAnswer count)) status.NoMemory text t = t
tells_has (Err (ask.NoAnswer count)) status.SourceFault text t = t
tells_has (Err (ask.NoAnswer count)) status.SinkFault text t = t
tells_has (Err ask.LinkFault) status.NoMemory text t = t
tells_has (Err ask.LinkFault) status.SourceFault text t = t
tells_has (Err ask.LinkFault) status.SinkFault text t = t
tells_has (Err ask.NoMemory) status.NoMemory text t = t
tells_has (Err ask.NoMemory) status.SourceFault text t = t
tells_has (Err ask.NoMemory) status.SinkFault text t = t
tells_has _ _ text t = tt

nowhere_has : (bytes : List ℕ) (site : ℕ) (end : Status) (text : List ℕ) → IsNowhere bytes site end text → HasText end
nowhere_has bytes site end text n = ⊎_elim (λ none. fault_has none.fault end text none.tells) (λ missing. subst HasText (sym missing.end_is) tt) n

lacking_has : (bytes : List ℕ) (logs : List (ℕ × List ℕ)) (end : Status) (text : List ℕ) → LacksSites bytes logs end text → HasText end
lacking_has bytes logs end text n = ⊎_elim (λ none. fault_has none.fault end text none.tells) (λ lacks. subst HasText (sym lacks.1) tt) n

-- ---- of a procedure

end_has : (end : End) → HasText (end_status end)
end_has (ends.Done number) = tt
end_has (ends.NotNumber line) = tt
end_has (ends.Overflow line) = tt
end_has (ends.Failed code) = tt
end_has (ends.Refused a) = tt

run_has : (ran : Result Ended AskFault) (end : Status) (text : List ℕ) → TellsRun ran end text → HasText end
run_has (Ok ended) end text t = subst HasText (sym t.0) (end_has ended.end)
run_has (Err (ask.NoAnswer count)) end text t = subst HasText (sym t.0) tt
run_has (Err ask.LinkFault) end text t = subst HasText (sym t.0) tt
run_has (Err ask.NoMemory) end text t = absurd t

text_has : (fault : ProcedureFault) (end : Status) (text : List ℕ) → TellsProcedure fault end text → HasText end
text_has (texts.BadLine line at) end text t = subst HasText (sym t.0) tt
text_has (texts.Twice line) end text t = subst HasText (sym t.0) tt
text_has (texts.TooMany line limit) end text t = subst HasText (sym t.0) tt
text_has texts.NoMemory end text t = absurd t

procedure_has : (own turns site : ℕ) (bytes : List ℕ) (link link' : LinkState) (end : Status) (text : List ℕ) → IsProcedureAnswer own turns site bytes link link' end text → HasText end
procedure_has own turns site bytes link link' end text (inl refused) = text_has refused.0.fault end text refused.0.told
procedure_has own turns site bytes link link' end text (inr (inl lacks)) = subst HasText (sym lacks.1) tt
procedure_has own turns site bytes link link' end text (inr (inr at)) = ⊎_elim (λ run. run_has run.0 end text run.2) (λ unbound. subst HasText (sym unbound.1) tt) at.4

module _ (bytes text : List ℕ) (link link' : LinkState) where
  client_has : (own turns port site : ℕ) (end : Status) → (words : _) → ClientGives own turns port site words link link' end text → HasText end
  client_has own turns port site end words g = ⊎_elim (λ asked. tells_has asked.answered end text asked.tells) (λ unbound. subst HasText (sym unbound.1) tt) g

  signal_has : (port site : ℕ) (end : Status) → (given : _) → SignalGives port site given link link' end text → HasText end
  signal_has port site status.NoMemory given g = g
  signal_has port site status.SourceFault given g = g
  signal_has port site status.SinkFault given g = g
  signal_has port site _ given g = tt

  answer_has : (command : Command) (end : Status) → IsAnswer command bytes link link' end text → HasText end
  answer_has commands.Replay status.NoMemory a = a
  answer_has commands.Replay status.SourceFault a = a
  answer_has commands.Replay status.SinkFault a = a
  answer_has commands.Check status.NoMemory a = a
  answer_has commands.Check status.SourceFault a = a
  answer_has commands.Check status.SinkFault a = a
  answer_has (commands.Generate seed count) status.NoMemory a = a
  answer_has (commands.Generate seed count) status.SourceFault a = a
  answer_has (commands.Generate seed count) status.SinkFault a = a
  answer_has (commands.Soak seed count) status.NoMemory a = a
  answer_has (commands.Soak seed count) status.SourceFault a = a
  answer_has (commands.Soak seed count) status.SinkFault a = a
  answer_has commands.Logs status.NoMemory a = a
  answer_has commands.Logs status.SourceFault a = a
  answer_has commands.Logs status.SinkFault a = a
  answer_has (commands.Node site log turns) end a = ⊎_elim (λ nowhere. nowhere_has bytes site end text nowhere.0) (λ told. absurd told.is) a
  answer_has (commands.Client own turns site words) end a = ⊎_elim (λ nowhere. nowhere_has bytes site end text nowhere.0) (λ told. client_has own turns told.port site end words told.is) a
  answer_has (commands.Signal site given) end a = ⊎_elim (λ nowhere. nowhere_has bytes site end text nowhere.0) (λ told. signal_has told.port site end given told.is) a
  answer_has (commands.Audit logs) end a = lacking_has bytes logs end text a.0
  answer_has (commands.Gateway own turns site) end a = absurd a
  answer_has commands.Merge status.NoMemory a = a
  answer_has commands.Merge status.SourceFault a = a
  answer_has commands.Merge status.SinkFault a = a
  answer_has (commands.Proc own turns site) end a = procedure_has own turns site bytes link link' end text a
  answer_has _ _ a = tt

-- ---- what is defined

module _ (words : List (List ℕ)) (source source' : SourceState) (link link' : LinkState) where
  pub answered_is : (bytes : List ℕ) (ended : Type 0) (end : Status) (text : List ℕ) → IsAnswered words bytes ended link link' end text → IsDefined words bytes ended link link' end text
  answered_is bytes ended status.Usage text a = inr a
  answered_is bytes ended status.Limit text a = inr a
  answered_is bytes ended _ text a = a

  defined_has : (bytes : List ℕ) (ended : Type 0) (end : Status) (text : List ℕ) → IsDefined words bytes ended link link' end text → HasText end
  defined_has bytes ended status.NoMemory text d = answer_has bytes text link link' d.command status.NoMemory d.answer
  defined_has bytes ended status.SourceFault text d = answer_has bytes text link link' d.command status.SourceFault d.answer
  defined_has bytes ended status.SinkFault text d = answer_has bytes text link link' d.command status.SinkFault d.answer
  defined_has bytes ended _ text d = tt

  -- a command that reads no input takes nothing
  unread : (command : Command) → (Reads command → ⊥) → HasRead command [] (IsEnded source)
  unread (commands.Generate seed count) none = refl
  unread (commands.Soak seed count) none = refl
  unread (commands.Gateway own turns site) none = refl
  unread commands.Replay none = absurd (none tt)
  unread commands.Check none = absurd (none tt)
  unread commands.Logs none = absurd (none tt)
  unread (commands.Node site log turns) none = absurd (none tt)
  unread (commands.Client own turns site call) none = absurd (none tt)
  unread (commands.Signal site given) none = absurd (none tt)
  unread (commands.Audit logs) none = absurd (none tt)
  unread commands.Merge none = absurd (none tt)
  unread (commands.Proc own turns site) none = absurd (none tt)

pub plans_unread : (words : List (List ℕ)) (source : SourceState) (link link' : LinkState) (command : Command) (plan : Plan) → command_of words ≡ Some command → (Reads command → ⊥) → PlansFor command [] link link' plan → Plans words source source link link' plan
plans_unread words source link link' command (plans.Print told) is none p = record {
  bytes = [];
  took = record { bytes_gone = Consumes-nil source.left; counted = omega arith };
  defined = answered_is words source source link link' [] (IsEnded source) told.status told.text.items (record { command = command; words_are = is; read = unread words source source link link' command none; answer = p });
}
plans_unread words source link link' command (plans.Serve catalogue site log turns) is none p = absurd (none (subst Reads (sym p.0) tt))
plans_unread words source link link' command (plans.Audit catalogue logs) is none p = absurd (none (subst Reads (sym p.0) tt))
plans_unread words source link link' command (plans.Answer it) is none p = (is ∙ ap (λ (c : Command). Some c) p.0, refl, p.1)

-- a command that reads its input has read these bytes
has_read : (command : Command) (bytes : List ℕ) (ended : Type 0) → Reads command → length bytes ≤ most_bytes → ended → HasRead command bytes ended
has_read (commands.Generate seed count) bytes ended reads fits at_end = absurd reads
has_read (commands.Soak seed count) bytes ended reads fits at_end = absurd reads
has_read (commands.Gateway own turns site) bytes ended reads fits at_end = absurd reads
has_read commands.Replay bytes ended reads fits at_end = (fits, at_end)
has_read commands.Check bytes ended reads fits at_end = (fits, at_end)
has_read commands.Logs bytes ended reads fits at_end = (fits, at_end)
has_read (commands.Node site log turns) bytes ended reads fits at_end = (fits, at_end)
has_read (commands.Client own turns site call) bytes ended reads fits at_end = (fits, at_end)
has_read (commands.Signal site given) bytes ended reads fits at_end = (fits, at_end)
has_read (commands.Audit logs) bytes ended reads fits at_end = (fits, at_end)
has_read commands.Merge bytes ended reads fits at_end = (fits, at_end)
has_read (commands.Proc own turns site) bytes ended reads fits at_end = (fits, at_end)

module _ (words : List (List ℕ)) (source source' : SourceState) (link link' : LinkState) (command : Command) (is : command_of words ≡ Some command) (reads : Reads command) where
  pub plans_read : (bytes : List ℕ) (plan : Plan) → Took bytes source source' → length bytes ≤ most_bytes → IsEnded source' → PlansFor command bytes link link' plan → Plans words source source' link link' plan
  plans_read bytes (plans.Print told) took fits at_end p = record {
    bytes = bytes;
    took = took;
    defined = answered_is words source source' link link' bytes (IsEnded source') told.status told.text.items (record { command = command; words_are = is; read = has_read command bytes (IsEnded source') reads fits at_end; answer = p });
  }
  plans_read bytes (plans.Serve catalogue site log turns) took fits at_end p = (
    record { words_are = is ∙ ap (λ (c : Command). Some c) p.0; bytes = bytes; fits = fits; took = took; ended = at_end; port = p.1.0; placed = p.1.1 },
    p.2,
  )
  plans_read bytes (plans.Audit catalogue logs) took fits at_end p = (
    record { words_are = is ∙ ap (λ (c : Command). Some c) p.0; bytes = bytes; fits = fits; took = took; ended = at_end; placed = p.1 },
    p.2,
  )
  plans_read bytes (plans.Answer it) took fits at_end p = absurd (subst Reads p.0 reads)

-- ---- what is printed

module _ (words : List (List ℕ)) (source source' : SourceState) (link link' : LinkState) (sink sink' : SinkState) where
  whole : (end : Status) (text : List ℕ) → HasText end → Defines words source source' link link' end text → Appends sink.held sink'.held text → EndsInText words source source' link link' sink sink' end
  whole status.NoMemory text has d a = absurd has
  whole status.SourceFault text has d a = absurd has
  whole status.SinkFault text has d a = absurd has
  whole _ text has d a = record { text = text; defines = d; appended = a }

  pub printed : (end told : Status) (text : List ℕ) → Defines words source source' link link' end text → Prints end text sink sink' told → EndsInText words source source' link link' sink sink' told
  printed end told text d p =
      let Text = EndsInText words source source' link link' sink sink' in
      let has = defined_has words source source' link link' d.bytes (IsEnded source') end text d.defined in
      ⊎_elim (λ all. subst Text (sym all.0) (whole end text has d all.1))
      (λ part. ⊎_elim (λ failed. subst Text (sym failed.0) (failed.2, record { end = end; text = text; defines = d; appended = failed.1 }))
      (λ none. subst Text (sym none.0) (inl (record { end = end; text = text; defines = d; appended = none.1 }))) part) p

-- ---- a site of a catalogue

-- a site with a port is a site
pub listed : (site port : ℕ) (sites : List (ℕ × ℕ)) → value_at site sites ≡ Some port → has (keys sites) site ≡ true
listed site port sites is = sym (is_there site sites) ∙ ap is_some is
