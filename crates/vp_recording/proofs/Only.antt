-- Of a text one answer is right, but for want of memory.
use Rattle.std.proofs.Common.{◌≡◌, ◌≢◌, ℕ, ◌+◌, List, length, Result, Ok, Err, refl, sym, ap, subst, ◌∙◌, inl, inr}
use Rattle.std.proofs.lemmas.Bool.{false≢true}
use Rattle.vp_text.specs.Documents.{IsFaultyLine}
use Rattle.vp_text.proofs.Determined.{Stops, whole_same, bad_same, faulty_same, bad_not_faulty}
use Rattle.vp_catalog.specs.declared.entry.Entry.TheVariants as entry
use Rattle.vp_heads.specs.declared.line.HeadLine.TheVariants as heads_kind
use Rattle.vp_recording.specs.declared.line.RecordingLine.{RecordingLine}
use Rattle.vp_recording.specs.declared.line.RecordingLine.TheVariants as kind
use Rattle.vp_recording.specs.declared.draft.RecordingDraft.{RecordingDraft}
use Rattle.vp_recording.specs.declared.draft.RecordingSet.{RecordingSet}
use Rattle.vp_recording.specs.declared.fault.RecordingFault.{RecordingFault}
use Rattle.vp_recording.specs.declared.fault.RecordingFault.TheVariants as faults
use Rattle.vp_recording.specs.Drafts.{LineText, blank, after, Onward, Spends, Repeats, Overfills}
use Rattle.vp_recording.specs.Document.{IsRecordedText, IsBadPlace, Answered, IsOnly, recorded_of}
use Rattle.vp_recording.proofs.Steps.{said}
use Rattle.vp_recording.proofs.Answering.{lines_plain, spends_stop, whole_not}

abbrev Stopped : (RecordingDraft → RecordingLine → Type 0) → List ℕ → ℕ → Type 0
Stopped = IsFaultyLine blank after LineText Onward

repeats_stop : Stops blank after LineText Onward Repeats
repeats_stop d (kind.Head (heads_kind.Entry (entry.Site site port))) f o = false≢true (sym o ∙ f)
repeats_stop d (kind.Head (heads_kind.Entry (entry.Record placed))) f o = false≢true (sym o.1 ∙ f.1)
repeats_stop d (kind.Head heads_kind.Key) f o = f
repeats_stop d (kind.Node site) f o = f
repeats_stop d (kind.Start life) f o = f
repeats_stop d (kind.In frame) f o = f
repeats_stop d (kind.Out frame) f o = f
repeats_stop d kind.Bad f o = f
repeats_stop d kind.Stray f o = f
repeats_stop d kind.End f o = f
repeats_stop d kind.LinkFault f o = f
repeats_stop d kind.DiskFault f o = f

overfills_stop : Stops blank after LineText Onward Overfills
overfills_stop d (kind.Head (heads_kind.Entry (entry.Site site port))) f o = f
overfills_stop d (kind.Head (heads_kind.Entry (entry.Record placed))) f o = false≢true (sym o.0 ∙ f)
overfills_stop d (kind.Head heads_kind.Key) f o = f
overfills_stop d (kind.Node site) f o = f
overfills_stop d (kind.Start life) f o = f
overfills_stop d (kind.In frame) f o = f
overfills_stop d (kind.Out frame) f o = f
overfills_stop d kind.Bad f o = f
overfills_stop d kind.Stray f o = f
overfills_stop d kind.End f o = f
overfills_stop d kind.LinkFault f o = f
overfills_stop d kind.DiskFault f o = f

-- a line has one fault
abbrev AreApart : (RecordingDraft → RecordingLine → Type 0) → (RecordingDraft → RecordingLine → Type 0) → Type 0
AreApart F G = (d : RecordingDraft) (e : RecordingLine) → F d e → G d e → ⊥

twice_many : AreApart Repeats Overfills
twice_many d (kind.Head (heads_kind.Entry (entry.Site site port))) f g = g
twice_many d (kind.Head (heads_kind.Entry (entry.Record placed))) f g = false≢true (sym f.0 ∙ g)
twice_many d (kind.Head heads_kind.Key) f g = f
twice_many d (kind.Node site) f g = f
twice_many d (kind.Start life) f g = f
twice_many d (kind.In frame) f g = f
twice_many d (kind.Out frame) f g = f
twice_many d kind.Bad f g = f
twice_many d kind.Stray f g = f
twice_many d kind.End f g = f
twice_many d kind.LinkFault f g = f
twice_many d kind.DiskFault f g = f

spent_twice : AreApart Spends Repeats
spent_twice d (kind.Head line) f g = f
spent_twice d (kind.Node site) f g = g
spent_twice d (kind.Start life) f g = f
spent_twice d (kind.In frame) f g = f
spent_twice d (kind.Out frame) f g = f
spent_twice d kind.Bad f g = f
spent_twice d kind.Stray f g = f
spent_twice d kind.End f g = f
spent_twice d kind.LinkFault f g = f
spent_twice d kind.DiskFault f g = f

spent_many : AreApart Spends Overfills
spent_many d (kind.Head line) f g = f
spent_many d (kind.Node site) f g = g
spent_many d (kind.Start life) f g = f
spent_many d (kind.In frame) f g = f
spent_many d (kind.Out frame) f g = f
spent_many d kind.Bad f g = f
spent_many d kind.Stray f g = f
spent_many d kind.End f g = f
spent_many d kind.LinkFault f g = f
spent_many d kind.DiskFault f g = f

module _ (text : List ℕ) where
  one_fault : (F : RecordingDraft → RecordingLine → Type 0) → Stops blank after LineText Onward F → (l m : ℕ) → Stopped F text l → Stopped F text m → l ≡ m
  one_fault F stops l m f g =
      let same = faulty_same blank after LineText Onward F F stops stops text (lines_plain text) l m f g in
      sym f.number ∙ ap (λ (x : List RecordingLine). length x + 1) same.lines ∙ g.number

  two_faults : (F G : RecordingDraft → RecordingLine → Type 0) → AreApart F G → Stops blank after LineText Onward F → Stops blank after LineText Onward G → (l m : ℕ) → Stopped F text l → Stopped G text m → ⊥
  two_faults F G apart f_stops g_stops l m f g =
      let same = faulty_same blank after LineText Onward F G f_stops g_stops text (lines_plain text) l m f g in
      apart (said g.lines) g.entry (subst (F (said g.lines)) same.entry (subst (λ (x : List RecordingLine). F (said x) f.entry) same.lines f.fault)) g.fault

  one_place : (l i m k : ℕ) → IsBadPlace text l i → IsBadPlace text m k → (l ≡ m) × (i ≡ k)
  one_place l i m k a b = elim a [
    | inl x ↦ elim b [
      | inl y ↦ bad_same blank after LineText Onward text (lines_plain text) l m i k x y
      | inr y ↦ absurd (bad_not_faulty blank after LineText Onward Spends spends_stop text (lines_plain text) l y.0 i x y.3)
    ]
    | inr x ↦ elim b [
      | inl y ↦ absurd (bad_not_faulty blank after LineText Onward Spends spends_stop text (lines_plain text) m x.0 k y x.3)
      | inr y ↦ (x.1 ∙ ap (λ (n : ℕ). n + 1) (one_fault Spends spends_stop x.0 y.0 x.3 y.3) ∙ sym y.1, x.2 ∙ sym y.2)
    ]
  ]

  place_not : (F : RecordingDraft → RecordingLine → Type 0) → AreApart Spends F → Stops blank after LineText Onward F → (l i m : ℕ) → IsBadPlace text l i → Stopped F text m → ⊥
  place_not F apart stops l i m a f = elim a [
    | inl x ↦ bad_not_faulty blank after LineText Onward F stops text (lines_plain text) l m i x f
    | inr x ↦ two_faults Spends F apart spends_stop stops x.0 m x.3 f
  ]

  ok_ok : (a b : RecordingSet) → IsRecordedText a text → IsRecordedText b text → a ≡ b
  ok_ok a b h k = sym h.says ∙ ap (λ (x : List RecordingLine). recorded_of (said x)) (whole_same blank after LineText Onward text (lines_plain text) h.lines k.lines h.lines_are k.lines_are) ∙ k.says

  abbrev NoMemory : Result RecordingSet RecordingFault
  NoMemory = Err faults.NoMemory

  answers_same : (r s : Result RecordingSet RecordingFault) → Answered text r → Answered text s → r ≢ NoMemory → s ≢ NoMemory → s ≡ r
  answers_same (Ok s) (Ok r) a b t u = ap (λ (x : RecordingSet). Ok x) (sym (ok_ok s r a b))
  answers_same (Ok s) (Err (faults.BadLine m k)) a b t u = absurd (b.1 s a)
  answers_same (Ok s) (Err (faults.Twice m)) a b t u = absurd (whole_not Repeats repeats_stop text s m a b)
  answers_same (Ok s) (Err (faults.TooMany m limit)) a b t u = absurd (whole_not Overfills overfills_stop text s m a b.1)
  answers_same (Err (faults.BadLine l i)) (Ok s) a b t u = absurd (a.1 s b)
  answers_same (Err (faults.BadLine l i)) (Err (faults.BadLine m k)) a b t u =
      let same = one_place m k l i b.0 a.0 in
      rw (same.0, same.1) refl
  answers_same (Err (faults.BadLine l i)) (Err (faults.Twice m)) a b t u = absurd (place_not Repeats spent_twice repeats_stop l i m a.0 b)
  answers_same (Err (faults.BadLine l i)) (Err (faults.TooMany m limit)) a b t u = absurd (place_not Overfills spent_many overfills_stop l i m a.0 b.1)
  answers_same (Err (faults.Twice l)) (Ok s) a b t u = absurd (whole_not Repeats repeats_stop text s l b a)
  answers_same (Err (faults.Twice l)) (Err (faults.BadLine m k)) a b t u = absurd (place_not Repeats spent_twice repeats_stop m k l b.0 a)
  answers_same (Err (faults.Twice l)) (Err (faults.Twice m)) a b t u = ap (λ (x : ℕ). Err (faults.Twice x)) (one_fault Repeats repeats_stop m l b a)
  answers_same (Err (faults.Twice l)) (Err (faults.TooMany m limit)) a b t u = absurd (two_faults Repeats Overfills twice_many repeats_stop overfills_stop l m a b.1)
  answers_same (Err (faults.TooMany l limit)) (Ok s) a b t u = absurd (whole_not Overfills overfills_stop text s l b a.1)
  answers_same (Err (faults.TooMany l limit)) (Err (faults.BadLine m k)) a b t u = absurd (place_not Overfills spent_many overfills_stop m k l b.0 a.1)
  answers_same (Err (faults.TooMany l limit)) (Err (faults.Twice m)) a b t u = absurd (two_faults Repeats Overfills twice_many repeats_stop overfills_stop m l b a.1)
  answers_same (Err (faults.TooMany l i)) (Err (faults.TooMany m k)) a b t u = rw (one_fault Overfills overfills_stop m l b.1 a.1, b.0, a.0) refl
  answers_same (Err faults.NoMemory) s a b t u = absurd (t refl)
  answers_same r (Err faults.NoMemory) a b t u = absurd (u refl)

  pub only : (r : Result RecordingSet RecordingFault) → Answered text r → IsOnly text r
  only r a = λ other b t u. answers_same r other a b t u
