-- What each command prints, by its input: what the input asks for, or its one fault.
use Rattle.std.proofs.Common.{◌≡◌, ◌≢◌, ◌∙◌, ap, sym, subst, refl, ℕ, true, false, List, ◌++◌, inl, inr, ◌⊎◌}
use Rattle.std.specs.Prelude.{Some, None, Ok, Err}
use Rattle.vp_model.specs.Types.{Counted}
use Rattle.vp_model.specs.Catalogue.{Catalogue}
use Rattle.vp_model.specs.Words.{value_at}
use Rattle.vp_model.specs.World.{Schedule}
use Rattle.vp_model.specs.Limits.{world_limits, limit_reached, trace_text_within}
use Rattle.vp_model.specs.Generated.{made, made_within, limit_made}
use Rattle.vp_model.specs.Texts.Schedule.{schedule_text}
use Rattle.vp_model.specs.Texts.Trace.{trace_text}
use Rattle.vp_model.specs.Texts.History.{history_text}
use Rattle.vp_catalog.specs.Document.{Answered}
use Rattle.vp_catalog.specs.Document.{IsOnly as IsOnlyCatalogue}
use Rattle.vp_catalog.specs.declared.fault.CatalogFault.{CatalogFault}
use Rattle.vp_catalog.specs.declared.fault.CatalogFault.TheVariants as catalog_faults
use Rattle.vp_outside.specs.Links.{LinkState}
use Rattle.vp_outside.specs.Input.{SourceState}
use Rattle.vp_serving.specs.Serving.{Outside}
use Rattle.vp_words.specs.Commands.{command_of}
use Rattle.vp_top.specs.Ends.{EndsOnDisk}
use Rattle.vp_top.proofs.Answering.{audit_bytes, node_bytes, same_command}
use Rattle.vp_top.proofs.Merges.{unrecorded}
use Rattle.vp_top.proofs.Procedures.{no_procedure}
use Rattle.vp_schedule.specs.Document.{IsScheduleText}
use Rattle.vp_schedule.specs.Document.{IsOnly as IsOnlySchedule}
use Rattle.vp_schedule.specs.declared.fault.ScheduleFault.{ScheduleFault}
use Rattle.vp_schedule.specs.declared.fault.ScheduleFault.TheVariants as schedule_faults
use Rattle.vp_onecopy.specs.Passing.{AnsweredAll, IsOnly}
use Rattle.vp_onecopy.specs.declared.map.History.{History}
use Rattle.vp_onecopy.specs.declared.fault.HistoryFault.{HistoryFault}
use Rattle.vp_onecopy.specs.declared.fault.HistoryFault.TheVariants as history_faults
use Rattle.vp_top.specs.Asked.{ClientGives, SignalGives}
use Rattle.vp_replay.specs.Checked.{IsCheckAnswer, IsVerdict, IsChecked, IsMisspelled, Finds}
use Rattle.vp_replay.specs.Generated.{IsGenerated, IsSoaked}
use Rattle.vp_replay.specs.Replayed.{Gives, IsPlayAnswer, IsPlayed, IsRefused, Tells, limit_of}
use Rattle.vp_replay.specs.Logged.{IsLogged, Leaves}
use Rattle.vp_replay.specs.Summary.{summary_text}
use Rattle.vp_top.specs.Program.{AtSite, LacksSites, Reads, IsAnswer, IsNoCatalogue, TellsFault, has_all, usage_text}
use Rattle.vp_top.specs.Complete.{IsGiven, IsNoTextOf, TellsFaultOf, site_of}
use Rattle.vp_status.specs.Refused.{limit_text}
use Rattle.vp_status.specs.declared.status.Status.{Status}
use Rattle.vp_status.specs.declared.status.Status.TheVariants as status
use Rattle.vp_words.specs.declared.words.Command.{Command}
use Rattle.vp_words.specs.declared.words.Command.TheVariants as commands

-- ---- a schedule that is played

module _ (bytes : List ℕ) where
  tells_none : (end : Status) (text : List ℕ) → Tells schedule_faults.NoMemory end text → ⊥
  tells_none status.BadLine text told = told
  tells_none status.Limit text told = told
  tells_none _ text told = told

  some_fault : (f : ScheduleFault) (end : Status) (text : List ℕ) → Tells f end text → f ≢ schedule_faults.NoMemory
  some_fault f end text told is = tells_none end text (subst (λ (f : ScheduleFault). Tells f end text) is told)

  no_refusal : (schedule : Schedule) → IsScheduleText schedule bytes → (end : Status) (text : List ℕ) → IsRefused bytes end text → ⊥
  no_refusal schedule spelled end text r =
      let same = r.only (Ok schedule) spelled
      (λ bad. some_fault r.fault end text r.told (let is : Err r.fault ≡ Err schedule_faults.NoMemory = bad in cc))
      (λ bad. cc) in cc

  same_schedule : (s t : Schedule) → IsScheduleText s bytes → IsOnlySchedule bytes (Ok t) → t ≡ s
  same_schedule s t spelled only = let same = only (Ok s) spelled (λ bad. cc) (λ bad. cc) in cc

  module _ (gives : Schedule → Status → List ℕ → Type 0) where
    play_is : (end : Status) (text : List ℕ) → IsPlayAnswer gives bytes end text → IsPlayed gives bytes end text ⊎ IsRefused bytes end text
    play_is status.Done text a = inl a
    play_is status.BadLine text a = inr a
    play_is status.Limit text a = a
    play_is _ text a = absurd a

    pub played : (schedule : Schedule) → IsScheduleText schedule bytes → (end : Status) (text : List ℕ) → IsPlayAnswer gives bytes end text → gives schedule end text
    played schedule spelled end text a = go (play_is end text a)
      where
        go : IsPlayed gives bytes end text ⊎ IsRefused bytes end text → gives schedule end text
        go (inl p) = subst (λ (s : Schedule). gives s end text) (same_schedule schedule p.schedule spelled p.only) p.gives
        go (inr r) = absurd (no_refusal schedule spelled end text r)

    refused : ((schedule : Schedule) → IsScheduleText schedule bytes → ⊥) → (end : Status) (text : List ℕ) → IsPlayAnswer gives bytes end text → IsRefused bytes end text
    refused none end text a = go (play_is end text a)
      where
        go : IsPlayed gives bytes end text ⊎ IsRefused bytes end text → IsRefused bytes end text
        go (inl p) = absurd (none p.schedule p.spelled)
        go (inr r) = r

module _ (schedule : Schedule) where
  module _ (within : limit_reached world_limits schedule ≡ None) where
    unlimited : (counted : Counted) → limit_reached world_limits schedule ≡ Some counted → ⊥
    unlimited counted reached = let bad : None ≡ Some counted = sym within ∙ reached in cc

    pub replay_within : (end : Status) (text : List ℕ) → Gives schedule end text → (end ≡ status.Done) × (text ≡ trace_text schedule ++ history_text schedule)
    replay_within status.Done text g = (refl, g.printed)
    replay_within status.Limit text g = absurd (unlimited g.counted g.reached)
    replay_within _ text g = absurd g

    pub logs_within : (end : Status) (text : List ℕ) → Leaves schedule end text → (end ≡ status.Done) × IsLogged schedule text
    logs_within status.Done text g = (refl, g)
    logs_within status.Limit text g = absurd (unlimited g.counted g.reached)
    logs_within _ text g = absurd g

  module _ (counted : Counted) (beyond : limit_reached world_limits schedule ≡ Some counted) where
    limited : limit_reached world_limits schedule ≡ None → ⊥
    limited within = let bad : None ≡ Some counted = sym within ∙ beyond in cc

    same_limit : (other : Counted) → limit_reached world_limits schedule ≡ Some other → other ≡ counted
    same_limit other reached = let same : Some other ≡ Some counted = sym reached ∙ beyond in cc

    pub replay_limited : (end : Status) (text : List ℕ) → Gives schedule end text → (end ≡ status.Limit) × (text ≡ trace_text_within world_limits schedule ++ limit_text (limit_of counted))
    replay_limited status.Done text g = absurd (limited g.whole)
    replay_limited status.Limit text g = (refl, g.printed ∙ ap (λ (c : Counted). trace_text_within world_limits schedule ++ limit_text (limit_of c)) (same_limit g.counted g.reached))
    replay_limited _ text g = absurd g

    pub logs_limited : (end : Status) (text : List ℕ) → Leaves schedule end text → (end ≡ status.Limit) × (text ≡ limit_text (limit_of counted))
    logs_limited status.Done text g = absurd (limited g.whole)
    logs_limited status.Limit text g = (refl, g.printed ∙ ap (λ (c : Counted). limit_text (limit_of c)) (same_limit g.counted g.reached))
    logs_limited _ text g = absurd g

-- ---- a schedule that is made

module _ (seed count : ℕ) where
  module _ (within : limit_made world_limits seed count ≡ None) where
    unbounded : (counted : Counted) → limit_made world_limits seed count ≡ Some counted → ⊥
    unbounded counted reached = let bad : None ≡ Some counted = sym within ∙ reached in cc

    pub generated_within : (end : Status) (text : List ℕ) → IsGenerated seed count end text → (end ≡ status.Done) × (text ≡ schedule_text (made seed count))
    generated_within status.Done text g = (refl, g.1)
    generated_within status.Limit text g = absurd (unbounded g.0 g.1)
    generated_within _ text g = absurd g

    pub soaked_within : (end : Status) (text : List ℕ) → IsSoaked seed count end text → (end ≡ status.Done) × (text ≡ summary_text (made seed count))
    soaked_within status.Done text g = (refl, g.2)
    soaked_within status.Limit text g = absurd (unbounded g.0 g.1)
    soaked_within _ text g = absurd g

  module _ (counted : Counted) (beyond : limit_made world_limits seed count ≡ Some counted) where
    bounded : limit_made world_limits seed count ≡ None → ⊥
    bounded within = let bad : None ≡ Some counted = sym within ∙ beyond in cc

    same_bound : (other : Counted) → limit_made world_limits seed count ≡ Some other → other ≡ counted
    same_bound other reached = let same : Some other ≡ Some counted = sym reached ∙ beyond in cc

    pub generated_limited : (end : Status) (text : List ℕ) → IsGenerated seed count end text → (end ≡ status.Limit) × (text ≡ schedule_text (made_within world_limits seed count) ++ limit_text (limit_of counted))
    generated_limited status.Done text g = absurd (bounded g.0)
    generated_limited status.Limit text g = (refl, g.2 ∙ ap (λ (c : Counted). schedule_text (made_within world_limits seed count) ++ limit_text (limit_of c)) (same_bound g.0 g.1))
    generated_limited _ text g = absurd g

    pub soaked_limited : (end : Status) (text : List ℕ) → IsSoaked seed count end text → (end ≡ status.Limit) × (text ≡ limit_text (limit_of counted))
    soaked_limited status.Done text g = absurd (bounded g.0)
    soaked_limited status.Limit text g = (refl, g.2 ∙ ap (λ (c : Counted). limit_text (limit_of c)) (same_bound g.0 g.1))
    soaked_limited _ text g = absurd g

-- ---- a history

module _ (bytes : List ℕ) where
  finds_none : (end : Status) (text : List ℕ) → Finds history_faults.NoMemory end text → ⊥
  finds_none status.BadLine text found = found
  finds_none _ text found = found

  check_is : (end : Status) (text : List ℕ) → IsCheckAnswer bytes end text → IsChecked bytes end text ⊎ IsMisspelled bytes end text
  check_is status.Done text a = inl a
  check_is status.Differs text a = inl a
  check_is status.BadLine text a = inr a
  check_is _ text a = absurd a

  found_some : (f : HistoryFault) (end : Status) (text : List ℕ) → Finds f end text → f ≢ history_faults.NoMemory
  found_some f end text found is = finds_none end text (subst (λ (f : HistoryFault). Finds f end text) is found)

  no_fault : (history : History) → AnsweredAll bytes (Ok history) → (end : Status) (text : List ℕ) → IsMisspelled bytes end text → ⊥
  no_fault history spelled end text r =
      let same = r.only (Ok history) spelled
      (λ bad. found_some r.fault end text r.told (let is : Err r.fault ≡ Err history_faults.NoMemory = bad in cc))
      (λ bad. cc) in cc

  same_history : (h k : History) → AnsweredAll bytes (Ok h) → IsOnly bytes (Ok k) → k ≡ h
  same_history h k spelled only = let same = only (Ok h) spelled (λ bad. cc) (λ bad. cc) in cc

  pub checked : (history : History) → AnsweredAll bytes (Ok history) → (end : Status) (text : List ℕ) → IsCheckAnswer bytes end text → IsVerdict history end text
  checked history spelled end text a = go (check_is end text a)
    where
      go : IsChecked bytes end text ⊎ IsMisspelled bytes end text → IsVerdict history end text
      go (inl r) = subst (λ (h : History). IsVerdict h end text) (same_history history r.history spelled r.only) r.verdict
      go (inr r) = absurd (no_fault history spelled end text r)

  misspelled : ((history : History) → AnsweredAll bytes (Ok history) → ⊥) → (end : Status) (text : List ℕ) → IsCheckAnswer bytes end text → IsMisspelled bytes end text
  misspelled none end text a = go (check_is end text a)
    where
      go : IsChecked bytes end text ⊎ IsMisspelled bytes end text → IsMisspelled bytes end text
      go (inl r) = absurd (none r.history r.spelled)
      go (inr r) = r

-- ---- a site of a catalogue

module _ (bytes : List ℕ) where
  tells_no_memory : (end : Status) (text : List ℕ) → TellsFault catalog_faults.NoMemory end text → ⊥
  tells_no_memory status.BadLine text told = told
  tells_no_memory status.Limit text told = told
  tells_no_memory _ text told = told

  told_some : (f : CatalogFault) (end : Status) (text : List ℕ) → TellsFault f end text → f ≢ catalog_faults.NoMemory
  told_some f end text told is = tells_no_memory end text (subst (λ (f : CatalogFault). TellsFault f end text) is told)

  no_bad_line : (catalogue : Catalogue) → Answered bytes (Ok catalogue) → (end : Status) (text : List ℕ) → IsNoCatalogue bytes end text → ⊥
  no_bad_line catalogue answered end text r =
      let same = r.only (Ok catalogue) answered
      (λ bad. told_some r.fault end text r.tells (let is : Err r.fault ≡ Err catalog_faults.NoMemory = bad in cc))
      (λ bad. cc) in cc

  pub same_catalogue : (c t : Catalogue) → Answered bytes (Ok c) → IsOnlyCatalogue bytes (Ok t) → t ≡ c
  same_catalogue c t answered only = let same = only (Ok c) answered (λ bad. cc) (λ bad. cc) in cc

  module _ (site : ℕ) (link link' : LinkState) (gives : ℕ → Status → List ℕ → Type 0) where
    abbrev Told : Status → List ℕ → Type 0
    Told end text = AtSite bytes site link link' gives end text

    module _ (catalogue : Catalogue) (answered : Answered bytes (Ok catalogue)) where
      pub at_port : (port : ℕ) → value_at site catalogue.sites ≡ Some port → (end : Status) (text : List ℕ) → Told end text → gives port end text
      at_port port there end text (inl (inl none, uncalled)) = absurd (no_bad_line catalogue answered end text none)
      at_port port there end text (inl (inr missing, uncalled)) =
          let same = same_catalogue catalogue missing.catalogue answered missing.only in
          let bad : None ≡ Some port = sym missing.missing ∙ ap (λ (c : Catalogue). value_at site c.sites) same ∙ there in cc
      at_port port there end text (inr t) =
          let same = same_catalogue catalogue t.catalogue answered t.placed.only in
          let ports : Some t.port ≡ Some port = sym t.placed.there ∙ ap (λ (c : Catalogue). value_at site c.sites) same ∙ there in
          let is : t.port ≡ port = cc in
          subst (λ (n : ℕ). gives n end text) is t.is

      missing_at : value_at site catalogue.sites ≡ None → (end : Status) (text : List ℕ) → Told end text → (end ≡ status.Usage) × (text ≡ usage_text)
      missing_at none end text (inl (inl fault, uncalled)) = absurd (no_bad_line catalogue answered end text fault)
      missing_at none end text (inl (inr missing, uncalled)) = (missing.end_is, missing.text_is)
      missing_at none end text (inr t) =
          let same = same_catalogue catalogue t.catalogue answered t.placed.only in
          let bad : None ≡ Some t.port = sym none ∙ ap (λ (c : Catalogue). value_at site c.sites) (sym same) ∙ t.placed.there in cc

    no_catalogue : ((catalogue : Catalogue) → Answered bytes (Ok catalogue) → ⊥) → (end : Status) (text : List ℕ) → Told end text → IsNoCatalogue bytes end text
    no_catalogue none end text (inl (inl fault, uncalled)) = fault
    no_catalogue none end text (inl (inr missing, uncalled)) = absurd (none missing.catalogue missing.answered)
    no_catalogue none end text (inr t) = absurd (none t.catalogue t.placed.answered)

  module _ (logs : List (ℕ × List ℕ)) where
    no_audit : ((catalogue : Catalogue) → Answered bytes (Ok catalogue) → ⊥) → (end : Status) (text : List ℕ) → LacksSites bytes logs end text → IsNoCatalogue bytes end text
    no_audit none end text (inl fault) = fault
    no_audit none end text (inr lacks) = absurd (none lacks.0.0 lacks.0.1.answered)

    module _ (catalogue : Catalogue) (answered : Answered bytes (Ok catalogue)) where
      pub lacking_told : (end : Status) (text : List ℕ) → LacksSites bytes logs end text → (end ≡ status.Usage) × (text ≡ usage_text)
      lacking_told end text (inl fault) = absurd (no_bad_line catalogue answered end text fault)
      lacking_told end text (inr lacks) = (lacks.1, lacks.2)

      pub not_lacking : has_all catalogue logs ≡ true → (end : Status) (text : List ℕ) → LacksSites bytes logs end text → ⊥
      not_lacking all end text (inl fault) = no_bad_line catalogue answered end text fault
      not_lacking all end text (inr lacks) =
          let same = same_catalogue catalogue lacks.0.0 answered lacks.0.1.only in
          let bad : false ≡ true = sym lacks.0.1.there ∙ ap (λ (c : Catalogue). has_all c logs) same ∙ all in cc

-- ---- what each command refuses

module _ (bytes : List ℕ) (link link' : LinkState) where
  pub fault_told : (c : Command) → IsNoTextOf c bytes → (end : Status) (text : List ℕ) → IsAnswer c bytes link link' end text → TellsFaultOf c bytes end text
  fault_told commands.Replay none end text a = refused bytes Gives none end text a
  fault_told commands.Logs none end text a = refused bytes Leaves none end text a
  fault_told commands.Check none end text a = misspelled bytes none end text a
  fault_told (commands.Generate seed count) none end text a = absurd none
  fault_told (commands.Soak seed count) none end text a = absurd none
  fault_told (commands.Gateway own turns site) none end text a = absurd none
  fault_told (commands.Node site log turns) none end text a = no_catalogue bytes site link link' (λ port end text. ⊥) none end text a
  fault_told (commands.Client own turns site call) none end text a = no_catalogue bytes site link link' (λ port. ClientGives own turns port site call link link') none end text a
  fault_told (commands.Signal site given) none end text a = no_catalogue bytes site link link' (λ port. SignalGives port site given link link') none end text a
  fault_told (commands.Audit logs) none end text a = no_audit bytes logs none end text a.0
  fault_told commands.Merge none end text a = unrecorded bytes none end text a
  fault_told (commands.Proc own turns site) none end text a = no_procedure own turns site bytes link link' none end text a

  module _ (catalogue : Catalogue) (answered : Answered bytes (Ok catalogue)) (site : ℕ) (missing : value_at site catalogue.sites ≡ None) where
    lacks : (other : ℕ) → Some other ≡ Some site → value_at other catalogue.sites ≡ None
    lacks other is = let same : other ≡ site = cc in subst (λ (n : ℕ). value_at n catalogue.sites ≡ None) (sym same) missing

    pub missing_told : (c : Command) → site_of c ≡ Some site → (end : Status) (text : List ℕ) → IsAnswer c bytes link link' end text → (end ≡ status.Usage) × (text ≡ usage_text)
    missing_told (commands.Node s log turns) is end text a = missing_at bytes s link link' (λ port end text. ⊥) catalogue answered (lacks s is) end text a
    missing_told (commands.Client own turns s call) is end text a = missing_at bytes s link link' (λ port. ClientGives own turns port s call link link') catalogue answered (lacks s is) end text a
    missing_told (commands.Signal s given) is end text a = missing_at bytes s link link' (λ port. SignalGives port s given link link') catalogue answered (lacks s is) end text a
    missing_told commands.Replay is end text a = cc
    missing_told commands.Logs is end text a = cc
    missing_told commands.Check is end text a = cc
    missing_told (commands.Generate seed count) is end text a = cc
    missing_told (commands.Soak seed count) is end text a = cc
    missing_told (commands.Audit logs) is end text a = cc
    missing_told (commands.Gateway own turns s) is end text a = cc
    missing_told commands.Merge is end text a = cc
    missing_told (commands.Proc own turns s) is end text a = cc

pub text_reads : (c : Command) (bytes : List ℕ) → IsNoTextOf c bytes → Reads c
text_reads (commands.Generate seed count) bytes none = none
text_reads (commands.Soak seed count) bytes none = none
text_reads (commands.Gateway own turns site) bytes none = none
text_reads _ bytes none = tt

pub site_reads : (c : Command) (site : ℕ) → site_of c ≡ Some site → Reads c
site_reads (commands.Generate seed count) site is = cc
site_reads (commands.Soak seed count) site is = cc
site_reads (commands.Gateway own turns s) site is = cc
site_reads _ site is = tt

-- ---- the disk is not called if the input is not fit for it

module _ (words : List (List ℕ)) (source source' : SourceState) (o : Outside) (c : Command) (w : command_of words ≡ Some c) (bytes : List ℕ) (given : IsGiven bytes source source' o) where
  pub no_disk_on : IsNoTextOf c bytes → (end : Status) → EndsOnDisk words source source' o end → ⊥
  no_disk_on none end (inr a) =
      let same = same_command words c (commands.Audit a.logs) w a.audit.words_are in
      let all = audit_bytes words source source' o c w (text_reads c bytes none) bytes given end a in
      let no : IsNoTextOf (commands.Audit a.logs) bytes = subst (λ (c : Command). IsNoTextOf c bytes) (sym same) none in
      no a.catalogue (subst (λ d. Answered d (Ok a.catalogue)) all a.audit.placed.answered)
  no_disk_on none end (inl n) =
      let same = same_command words c (commands.Node n.site n.log n.turns) w n.node.words_are in
      let all = node_bytes words source source' o c w (text_reads c bytes none) bytes given end n in
      let no : IsNoTextOf (commands.Node n.site n.log n.turns) bytes = subst (λ (c : Command). IsNoTextOf c bytes) (sym same) none in
      no n.catalogue (subst (λ d. Answered d (Ok n.catalogue)) all n.node.placed.answered)

  pub no_disk_at : (site : ℕ) → site_of c ≡ Some site → (catalogue : Catalogue) → Answered bytes (Ok catalogue) → value_at site catalogue.sites ≡ None → (end : Status) → EndsOnDisk words source source' o end → ⊥
  no_disk_at site at catalogue answered missing end (inr a) =
      let same = same_command words c (commands.Audit a.logs) w a.audit.words_are in
      let bad : None ≡ Some site = ap site_of same ∙ at in cc
  no_disk_at site at catalogue answered missing end (inl n) =
      let same = same_command words c (commands.Node n.site n.log n.turns) w n.node.words_are in
      let all = node_bytes words source source' o c w (site_reads c site at) bytes given end n in
      let only = subst (λ d. IsOnlyCatalogue d (Ok n.catalogue)) all n.node.placed.only in
      let sites : Some n.site ≡ Some site = ap site_of same ∙ at in
      let is : n.site ≡ site = cc in
      let catalogues = same_catalogue bytes catalogue n.catalogue answered only in
      let bad : None ≡ Some n.node.port = sym missing ∙ ap (λ (s : ℕ). value_at s catalogue.sites) (sym is) ∙ ap (λ (k : Catalogue). value_at n.site k.sites) (sym catalogues) ∙ n.node.placed.there in cc
