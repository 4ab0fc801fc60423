-- How the commands end if nothing outside fails.
use Rattle.std.proofs.Common.{◌≡◌, ◌∙◌, ◌≤◌, ◌⊎◌, ℕ, List, [], ◌∷◌, ◌++◌, refl, sym, ap, subst, arith, inl, inr}
use Rattle.std.specs.Prelude.{Option, Some, None, Result, Ok, Err}
use Rattle.std.specs.Io.KnownBytes.{Appends}
use Rattle.std.proofs.lemmas.List.{append-nil}
use Rattle.vp_model.specs.Types.{Answer}
use Rattle.vp_model.specs.Catalogue.{Catalogue}
use Rattle.vp_model.specs.Texts.Answers.{answer_text}
use Rattle.vp_outside.specs.Causes.{Rose}
use Rattle.vp_outside.specs.Output.{SinkState}
use Rattle.vp_outside.specs.declared.sink.OutFault.{OutFault}
use Rattle.vp_outside.specs.declared.sink.OutFault.TheVariants as output
use Rattle.vp_client.specs.Claims.{AnswersAreGiven}
use Rattle.vp_client.specs.declared.asking.AskFault.{AskFault}
use Rattle.vp_client.specs.declared.asking.AskFault.TheVariants as faults
use Rattle.vp_node.specs.Nodes.{IsSpent}
use Rattle.vp_serving.specs.Serving.{Outside, Serves}
use Rattle.vp_serving.specs.declared.end.End.{End}
use Rattle.vp_serving.specs.declared.end.End.TheVariants as ends
use Rattle.vp_top.specs.Asked.{Tells as TellsAnswer}
use Rattle.vp_top.specs.Claims.{AnswersAreTold, SignalsAreDone}
use Rattle.vp_status.specs.Lines.{bad_log_text, lives_spent_text}
use Rattle.vp_top.specs.NodeEnds.{NodeEnds, IsCalm, DecidedByLog, attached_to, end_of_attach, last_line, status_of}
use Rattle.vp_status.specs.Printing.{Prints}
use Rattle.vp_status.specs.declared.status.Status.{Status}
use Rattle.vp_status.specs.declared.status.Status.TheVariants as status

rose_later : (a b c : ℕ) → a ≤ b → Rose b c → Rose a c
rose_later a b c h r = omega (arith, h, r)

-- what is printed after nothing
appends_after : (a b c : Option (List ℕ)) (line : List ℕ) → Appends a b [] → Appends b c line → Appends a c line
appends_after None b c line h k = tt
appends_after (Some xs) None c line h k = absurd h
appends_after (Some xs) (Some ys) None line h k = absurd k
appends_after (Some xs) (Some ys) (Some zs) line h k = k ∙ ap (λ (l : List ℕ). l ++ line) (h ∙ append-nil xs)

module _ (catalogue : Catalogue) (id turns : ℕ) (name : List ℕ) (o : Outside) (calm : IsCalm o) where
  abbrev Decided : Status → Type 0
  Decided told = DecidedByLog catalogue id name o told

  module _ (sink : SinkState) where
    abbrev ServesThere : End → Type 0
    ServesThere end = Serves catalogue id turns (record o { disk = attached_to name o.disk; sink' = sink }) end

    served_decided : (end : End) → ServesThere end → Appends sink.held o.sink'.held (last_line end) → o.sink'.faults ≡ sink.faults → Decided (status_of end)
    served_decided ends.Stopped s printed same = record { batches = s.whole.course.batches; had = s.whole.course.had; lives = s.whole.course.lives }
    served_decided ends.TurnsDone s printed same = record { batches = s.whole.course.batches; had = s.whole.course.had; lives = s.whole.course.lives }
    served_decided ends.LinkFault s printed same = absurd (calm.link s.0)
    served_decided ends.DiskFault s printed same = absurd (calm.disk s.0)
    served_decided ends.WriteFault s printed same = absurd (calm.sink (subst (Rose o.sink.faults) (sym same) s.0))
    served_decided (ends.BadLog half at) s printed same = record {
      half = half;
      at = at;
      bad = s.1;
      printed = appends_after o.sink.held sink.held o.sink'.held (bad_log_text half at) s.0.idle.did.writes printed;
    }
    served_decided (ends.LivesSpent life) s printed same = record {
      spent = subst (λ n. IsSpent catalogue id n (attached_to name o.disk)) s.1.0 s.1;
      printed = appends_after o.sink.held sink.held o.sink'.held lives_spent_text s.0.idle.did.writes printed;
    }
    served_decided ends.NoMemory s printed same = tt

    served_told : (end : End) (told : Status) → ServesThere end → o.sink.faults ≤ sink.faults → Prints (status_of end) (last_line end) sink o.sink' told → Decided told
    served_told end told s later (inl t) = subst Decided (sym t.0) (served_decided end s t.1 t.2)
    served_told end told s later (inr (inl t)) = absurd (calm.sink (rose_later o.sink.faults sink.faults o.sink'.faults later t.2))
    served_told end told s later (inr (inr t)) = subst Decided (sym t.0) tt

  unattached_told : (fault : OutFault) (told : Status) → (fault ≡ output.Failed → ⊥) → Prints (status_of (end_of_attach fault)) (last_line (end_of_attach fault)) o.sink o.sink' told → Decided told
  unattached_told output.Failed told calm_disk t = absurd (calm_disk refl)
  unattached_told output.NoMemory told calm_disk (inl t) = subst Decided (sym t.0) tt
  unattached_told output.NoMemory told calm_disk (inr (inl t)) = absurd (calm.sink t.2)
  unattached_told output.NoMemory told calm_disk (inr (inr t)) = subst Decided (sym t.0) tt

  pub decided : (told : Status) → NodeEnds catalogue id turns name o told → Decided told
  decided told (inl h) = served_told h.sink h.end told h.serves h.later h.tells
  decided told (inr h) = unattached_told h.fault told (λ e. calm.disk (h.attaches.cause.failed (ap Err e))) h.tells

-- ---- a client's call, and a signal

answer_told : (a : Answer) (answered : Result Answer AskFault) (end : Status) (text : List ℕ) → (answered ≡ Ok a) ⊎ (answered ≡ Err faults.NoMemory) → TellsAnswer answered end text
    → (end ≡ status.Done) × (text ≡ answer_text a ++ 10 ∷ [])
answer_told a answered end text (inl e) t = done end (subst (λ x. TellsAnswer x end text) e t)
  where
    done : (end : Status) → TellsAnswer (Ok a) end text → (end ≡ status.Done) × (text ≡ answer_text a ++ 10 ∷ [])
    done status.Done t = (refl, t)
    done _ t = absurd t
answer_told a answered end text (inr e) t = let no : TellsAnswer (Err faults.NoMemory) end text = subst (λ x. TellsAnswer x end text) e t in absurd no

module _ (given : AnswersAreGiven) where
  pub answers_are_told : AnswersAreTold
  answers_are_told own turns port site words old new end text left a (inl h) calm is there = answer_told a h.answered end text (given port site words turns old new h.answered left a h.asks calm is there) h.tells
  answers_are_told own turns port site words old new end text left a (inr h) calm is there = absurd (calm (inl h.0.rose))

pub signals_are_done : SignalsAreDone
signals_are_done port site given old new status.Done text h calm = refl
signals_are_done port site given old new status.LinkFault text (inl u, told) calm = absurd (calm (inl u.rose))
signals_are_done port site given old new status.LinkFault text (inr s, told) calm = absurd (calm (inr s.1))
signals_are_done port site given old new _ text h calm = absurd h
