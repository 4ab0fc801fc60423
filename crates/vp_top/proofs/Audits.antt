-- What an audit prints, if nothing fails.
use Rattle.std.proofs.Common.{◌≡◌, ◌∙◌, ap, sym, subst, refl, ℕ, true, false, List, inl, inr, ◌⊎◌}
use Rattle.std.specs.Prelude.{Some, Ok}
use Rattle.std.specs.Io.KnownBytes.{Appends}
use Rattle.vp_model.specs.Catalogue.{Catalogue}
use Rattle.vp_catalog.specs.Document.{Answered, IsOnly}
use Rattle.vp_outside.specs.Causes.{Rose}
use Rattle.vp_outside.specs.Input.{SourceState}
use Rattle.vp_serving.specs.Serving.{Outside}
use Rattle.vp_top.specs.Audits.{AuditGives}
use Rattle.vp_status.specs.Printing.{Prints}
use Rattle.vp_status.specs.declared.status.Status.{Status}
use Rattle.vp_status.specs.declared.status.Status.TheVariants as status
use Rattle.vp_words.specs.Commands.{command_of}
use Rattle.vp_words.specs.declared.words.Command.TheVariants as commands
use Rattle.vp_top.specs.Complete.{Fits, IsAudited, IsGiven}
use Rattle.vp_top.specs.Ends.{Ends, EndsAsAudit, EndsAsNode, EndsOnDisk, IsPrinted, PrintsAudit}
use Rattle.vp_top.specs.Program.{has_all}
use Rattle.vp_top.proofs.Answering.{answer_is, audit_bytes, no_gateway, printed, same_command}
use Rattle.vp_top.proofs.Completing.{not_lacking, same_catalogue}

module _ (words : List (List ℕ)) (logs : List (ℕ × List ℕ)) (bytes : List ℕ) (catalogue : Catalogue) (w : command_of words ≡ Some (commands.Audit logs))
    (answered : Answered bytes (Ok catalogue)) (source source' : SourceState) (o : Outside) (given : IsGiven bytes source source' o) where
  -- another catalogue or other logs were not audited
  same_logs : (end : Status) (a : EndsAsAudit words source source' o end) → a.logs ≡ logs
  same_logs end a = let same : commands.Audit a.logs ≡ commands.Audit logs = same_command words (commands.Audit logs) (commands.Audit a.logs) w a.audit.words_are in cc

  same_sites : (end : Status) (a : EndsAsAudit words source source' o end) → a.catalogue ≡ catalogue
  same_sites end a =
      let all = audit_bytes words source source' o (commands.Audit logs) w tt bytes given end a in
      same_catalogue bytes catalogue a.catalogue answered (subst (λ d. IsOnly d (Ok a.catalogue)) all a.audit.placed.only)

  no_node : (end : Status) → EndsAsNode words source source' o end → ⊥
  no_node end n =
      let bad : commands.Node n.site n.log n.turns ≡ commands.Audit logs = same_command words (commands.Audit logs) (commands.Node n.site n.log n.turns) w n.node.words_are in cc

  -- nothing is audited if a site is missing
  pub none_audited : has_all catalogue logs ≡ false → (end : Status) → EndsOnDisk words source source' o end → ⊥
  none_audited missing end (inl n) = no_node end n
  none_audited missing end (inr a) =
      let bad : true ≡ false = sym a.audit.placed.there ∙ ap (λ (c : Catalogue). has_all c a.logs) (same_sites end a) ∙ ap (has_all catalogue) (same_logs end a) ∙ missing in cc

  module _ (calm : Rose o.disk.faults o.disk'.faults → ⊥) where
    no_fault : (text : List ℕ) → AuditGives catalogue logs o.disk o.disk' status.DiskFault text → ⊥
    no_fault text g = calm g.0.2.1

    from_text : (end : Status) (text : List ℕ) → AuditGives catalogue logs o.disk o.disk' end text → Appends o.sink.held o.sink'.held text → IsAudited catalogue logs o end
    from_text status.DiskFault text g a = no_fault text g
    from_text _ text g a = inl (text, g, a)

    from_memory : (end : Status) → end ≡ status.NoMemory → IsAudited catalogue logs o end
    from_memory end is = subst (IsAudited catalogue logs o) (sym is) (inr refl)

    from_prints : (told end : Status) (text : List ℕ) → AuditGives catalogue logs o.disk o.disk' told text → Prints told text o.sink o.sink' end → IsAudited catalogue logs o end
    from_prints told end text g (inl all) = from_text end text (subst (λ (s : Status). AuditGives catalogue logs o.disk o.disk' s text) (sym all.0) g) all.1
    from_prints told end text g (inr (inl failed)) = absurd (given.no_sink_fault failed.2)
    from_prints told end text g (inr (inr memory)) = from_memory end memory.0

    by_logs : (end : Status) → PrintsAudit catalogue logs o end → IsAudited catalogue logs o end
    by_logs end (inl p) = from_prints p.0 end p.1 p.2 p.3
    by_logs end (inr memory) = from_memory end memory.0

    pub audit_ends : Fits bytes → has_all catalogue logs ≡ true → (end : Status) → Ends words source source' o end → IsAudited catalogue logs o end
    audit_ends fits there end (inr (inr g)) = absurd (no_gateway words source source' o (commands.Audit logs) w (λ is. is) end g)
    audit_ends fits there end (inr (inl (inl n))) = absurd (no_node end n)
    audit_ends fits there end (inr (inl (inr a))) =
        by_logs end (subst (λ (c : Catalogue). PrintsAudit c logs o end) (same_sites end a) (subst (λ (l : List (ℕ × List ℕ)). PrintsAudit a.catalogue l o end) (same_logs end a) a.prints))
    audit_ends fits there end (inl e) = go (printed words source source' o end e (λ reads. given.no_source_fault) given.no_sink_fault)
      where
        go : IsPrinted words source source' o.link o.link' o.sink o.sink' end ⊎ (end ≡ status.NoMemory) → IsAudited catalogue logs o end
        go (inl p) = absurd (not_lacking bytes logs catalogue answered there end p.text (answer_is words source source' o (commands.Audit logs) w tt bytes given fits end p).0)
        go (inr memory) = from_memory end memory
