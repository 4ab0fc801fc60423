-- Where each finished transaction of a step comes from: it was finished, or it was live and ends now, with its answers and that
-- end.
use Rattle.std.proofs.Common.{◌≡◌, ◌⊎◌, ap, Bool, true, false, List, [], ◌∷◌, ◌++◌, inl, inr, ⊎_elim}
use Rattle.vp_model.specs.Types.{Sent, Commit, Input, Live, Ending, Finished}
use Rattle.vp_base.specs.declared.site.Ending.TheVariants.{Committed}
use Rattle.vp_model.specs.Catalogue.{Catalogue}
use Rattle.vp_model.specs.Site.{CoordinatorState, SiteState, Lent}
use Rattle.vp_model.specs.Transactions.{answers_after, close, decided, keep_writes, decide, complete}
use Rattle.vp_model.specs.Calls.{start_txn, take_lock, read_at, write_at, prepare_parts}
use Rattle.vp_model.specs.Step.{mark_calls, step}
use Rattle.vp_laws.proofs.Lists.Members.{Has, has_one_is, has_cases}
use Rattle.vp_laws.proofs.Moves.Frames.{Ends, close-ends, decided-ends, decide-cases}
use Rattle.vp_laws.proofs.Moves.Table.{lent_at, Handled, OfCoordinator}
use Rattle.vp_laws.proofs.Moves.Rows.{step-keeps}
use Rattle.vp_laws.proofs.Moves.OnlyCoordinator.{OnCoordinator, Keeps, only_begins, only_table}
use Rattle.vp_laws.proofs.Lists.Changes.{at_most_has}

pub record EndsNow (x : SiteState) (f : Finished) : Type 0 where
  pub handled : Live
  pub live : Handled x handled
  pub why : Ending
  pub is : record { txn = handled.txn; answers = answers_after handled why; ending = why } ≡ f

abbrev pub FinishedNow : SiteState → CoordinatorState → List Sent → List Commit → Type 0
FinishedNow x c ms cs = (f : Finished) → Has c.finished f → Has x.finished f ⊎ EndsNow x f

module _ (catalogue : Catalogue) (x : SiteState) (given : Input) where
  abbrev L : Lent → Type 0
  L l = FinishedNow x l.coordinator l.effects.messages l.effects.commits

  ends : (t : Live) (why : Ending) (commit : Bool) (l now : Lent) → Handled x t → Ends x.id t why commit l now → L l → L now
  ends t why commit l now n e p f h = ⊎_elim
      (λ old. p f old)
      (λ new. inr (record { handled = t; live = n; why = why; is = has_one_is _ f new }))
      (has_cases l.finished ((record { txn = t.txn; answers = answers_after t why; ending = why }) ∷ []) f (at_most_has 1024 (l.finished ++ (record { txn = t.txn; answers = answers_after t why; ending = why }) ∷ []) f (rw (ap (λ (c : CoordinatorState). c.finished) e.coordinator) at h)))

  starts : FinishedNow x x.coordinator [] []
  starts f h = inl h

  decides : (t : Live) → Handled x t → L (decide catalogue x.id t (lent_at x))
  unfolding keep_writes
  decides t n = decide-cases L catalogue x.id t (lent_at x)
      (λ none. ends t Committed true (lent_at x) (decided x.id t (lent_at x)) n (decided-ends x.id t (lent_at x)) starts)
      (λ some. ends t Committed true (keep_writes catalogue x.id t (lent_at x)) (decided x.id t (keep_writes catalogue x.id t (lent_at x))) n (decided-ends x.id t (keep_writes catalogue x.id t (lent_at x))) starts)

  moves : OfCoordinator catalogue x given L
  unfolding start_txn take_lock complete read_at write_at prepare_parts mark_calls
  moves = record {
    begin = λ port view e g u. starts;
    answers = λ words port why y. starts;
    take_lock = λ t rec exclusive stored h i a v c. starts;
    complete = λ t p deed l h g y e r. r;
    read_at = λ t p rec q h n r a w c o y. starts;
    write_at = λ t p rec value l h n w a e o d y v r. r;
    prepare_parts = λ t p h i g e. starts;
    still_waits = λ t p from h e m f c. starts;
    decide = λ t n d. decides t n;
    close = λ t why l n a z y r. ends t why false l (close x.id t why l) n (close-ends x.id t why l) r;
    mark_calls = λ l c z r. r;
    acknowledge = λ from txn c w. starts;
  }

  keeps : Keeps catalogue x given (FinishedNow x)
  keeps = record { aside = λ c ms more cs quiet r. r; starts = starts; moves = moves; sends_back = λ from m t. starts; resends = λ c d ms cs tick h r. r }

pub finished-step : (catalogue : Catalogue) (x : SiteState) (given : Input) → OnCoordinator catalogue x given (FinishedNow x) (step catalogue x given)
finished-step catalogue x given =
    let k = keeps catalogue x given in
    step-keeps catalogue x given (OnCoordinator catalogue x given (FinishedNow x)) (only_table catalogue x given (FinishedNow x) k) (only_begins catalogue x given (FinishedNow x) k)
