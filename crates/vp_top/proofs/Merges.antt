-- What `merge` prints of recordings, or of an input that is none.
use Rattle.std.proofs.Common.{◌≡◌, ◌≢◌, ◌∙◌, ap, sym, subst, ℕ, List, inl, inr, ◌⊎◌, ⊎_elim}
use Rattle.std.specs.Prelude.{Result, Ok, Err}
use Rattle.vp_model.specs.Types.{Counted, Event}
use Rattle.vp_model.specs.Limits.{world_limits}
use Rattle.vp_model.specs.Catalogue.{Catalogue}
use Rattle.vp_model.specs.World.{Schedule}
use Rattle.vp_model.specs.Texts.Schedule.{schedule_text}
use Rattle.vp_catalog.specs.Document.{IsCatalogue}
use Rattle.vp_schedule.specs.Document.{IsSchedule}
use Rattle.vp_recording.specs.Document.{Answered, IsOnly}
use Rattle.vp_recording.specs.Recordings.{AreOfNodes}
use Rattle.vp_recording.specs.declared.draft.RecordingSet.{RecordingSet}
use Rattle.vp_recording.specs.declared.fault.RecordingFault.{RecordingFault}
use Rattle.vp_recording.specs.declared.fault.RecordingFault.TheVariants as faults
use Rattle.vp_fitting.specs.Laws.{FittingRecordingsMerge, IsWhole, MergesMatch, over}
use Rattle.vp_fitting.specs.Merged.{Merge}
use Rattle.vp_merge.specs.Merges.{Merges}
use Rattle.vp_merge.specs.declared.fault.MergeFault.{MergeFault}
use Rattle.vp_merge.specs.declared.fault.MergeFault.TheVariants as ends
use Rattle.vp_status.specs.Refused.{limit_text}
use Rattle.vp_status.specs.declared.status.Status.{Status}
use Rattle.vp_status.specs.declared.status.Status.TheVariants as status
use Rattle.vp_top.specs.Merges.{AreUnmatched, IsMerged, IsMergeAnswer, IsPutTogether, IsUnrecorded, MergeGives, TellsMerge, TellsRecording, merge_of}

-- ---- recordings of nodes

module _ (it : RecordingSet) (catalogue : IsCatalogue it.catalog) (nodes : AreOfNodes it.catalog it.recordings) (fit : MergesMatch) (merge : FittingRecordingsMerge) where
  -- a schedule that matches them would be put together, or be too long
  unmatched : (end : Merge) → merge_of it ≡ end → ((events : List Event) → end ≡ Merge.whole events → ⊥) → ((what : Counted) → end ≡ Merge.too_long what → ⊥) → AreUnmatched it
  unmatched end is whole long s same all = ⊎_elim (λ w. whole w.0 (sym is ∙ w.1)) (λ l. long l.0 (sym is ∙ l.1)) (merge world_limits it.catalog it.recordings s catalogue nodes same all)

  whole : (s : Schedule) → Merges it.catalog it.recordings (Ok s) → (text : List ℕ) → text ≡ schedule_text s → IsPutTogether it text
  whole s m text t =
      let is : IsWhole world_limits it.catalog it.recordings s.events = fit world_limits it.catalog it.recordings s.events catalogue nodes m.1 in
      record {
        events = s.events;
        merges = m.1;
        matches = is.matches;
        within = is.within;
        spelled = (subst (λ (c : Catalogue). IsSchedule (over c s.events)) m.0 m.2, sym (t ∙ ap (λ (c : Catalogue). schedule_text (over c s.events)) m.0));
      }

  pub gives : (r : Result Schedule MergeFault) → Merges it.catalog it.recordings r → (end : Status) (text : List ℕ) → TellsMerge r end text → MergeGives it end text
  gives (Ok s) m status.Done text t = whole s m text t
  gives (Ok s) m _ text t = absurd t
  gives (Err (ends.Unsent site turn)) m status.Unsent text t = record {
    site = site;
    turn = turn;
    merges = m.0;
    never = m.1;
    unmatched = unmatched (Merge.unsent site turn) m.0 (λ events e. cc) (λ what e. cc);
    printed = t;
  }
  gives (Err (ends.Unsent site turn)) m _ text t = absurd t
  gives (Err (ends.Differs site turn)) m status.TurnDiffers text t = record {
    site = site;
    turn = turn;
    merges = m;
    unmatched = unmatched (Merge.unlike site turn) m (λ events e. cc) (λ what e. cc);
    printed = t;
  }
  gives (Err (ends.Differs site turn)) m _ text t = absurd t
  gives (Err (ends.Limit what limit)) m status.Limit text t = record { counted = what; merges = m.0; printed = t ∙ ap limit_text m.1 }
  gives (Err (ends.Limit what limit)) m _ text t = absurd t
  gives (Err ends.NoMemory) m status.Done text t = absurd t
  gives (Err ends.NoMemory) m status.Unsent text t = absurd t
  gives (Err ends.NoMemory) m status.TurnDiffers text t = absurd t
  gives (Err ends.NoMemory) m status.Limit text t = absurd t
  gives (Err ends.NoMemory) m _ text t = absurd t

-- ---- the input

module _ (bytes : List ℕ) where
  tells_none : (end : Status) (text : List ℕ) → TellsRecording faults.NoMemory end text → ⊥
  tells_none status.BadLine text told = told
  tells_none status.Limit text told = told
  tells_none _ text told = told

  some_fault : (f : RecordingFault) (end : Status) (text : List ℕ) → TellsRecording f end text → f ≢ faults.NoMemory
  some_fault f end text told is = tells_none end text (subst (λ (f : RecordingFault). TellsRecording f end text) is told)

  merge_is : (end : Status) (text : List ℕ) → IsMergeAnswer bytes end text → IsMerged bytes end text ⊎ IsUnrecorded bytes end text
  merge_is status.Done text a = inl a
  merge_is status.Unsent text a = inl a
  merge_is status.TurnDiffers text a = inl a
  merge_is status.BadLine text a = inr a
  merge_is status.Limit text a = a
  merge_is _ text a = absurd a

  no_fault : (it : RecordingSet) → Answered bytes (Ok it) → (end : Status) (text : List ℕ) → IsUnrecorded bytes end text → ⊥
  no_fault it spelled end text r =
      let same = r.only (Ok it) spelled
      (λ bad. some_fault r.fault end text r.told (let is : Err r.fault ≡ Err faults.NoMemory = bad in cc))
      (λ bad. cc) in cc

  same_recorded : (a b : RecordingSet) → Answered bytes (Ok a) → IsOnly bytes (Ok b) → b ≡ a
  same_recorded a b spelled only = let same = only (Ok a) spelled (λ bad. cc) (λ bad. cc) in cc

  pub merge_told : (it : RecordingSet) → Answered bytes (Ok it) → (end : Status) (text : List ℕ) → IsMergeAnswer bytes end text → MergeGives it end text
  merge_told it spelled end text a = go (merge_is end text a)
    where
      go : IsMerged bytes end text ⊎ IsUnrecorded bytes end text → MergeGives it end text
      go (inl r) = subst (λ (d : RecordingSet). MergeGives d end text) (same_recorded it r.recorded spelled r.only) r.gives
      go (inr r) = absurd (no_fault it spelled end text r)

  pub unrecorded : ((it : RecordingSet) → Answered bytes (Ok it) → ⊥) → (end : Status) (text : List ℕ) → IsMergeAnswer bytes end text → IsUnrecorded bytes end text
  unrecorded none end text a = go (merge_is end text a)
    where
      go : IsMerged bytes end text ⊎ IsUnrecorded bytes end text → IsUnrecorded bytes end text
      go (inl r) = absurd (none r.recorded r.spelled)
      go (inr r) = r
