-- Where a step makes an entry, each transaction that is live after the step was live before it, and is unchanged.
use Rattle.std.proofs.Common.{◌≡◌, ◌⊎◌, ◌∙◌, ap, true, List, [], refl, inl, inr}
use Rattle.vp_model.specs.Types.{Sent, Commit, Input, Effects, Live}
use Rattle.vp_base.specs.declared.site.Ending.TheVariants.{Committed}
use Rattle.vp_model.specs.Catalogue.{Catalogue}
use Rattle.vp_model.specs.Site.{CoordinatorState, SiteState, Lent}
use Rattle.vp_model.specs.Transactions.{decided, keep_writes, decide, complete}
use Rattle.vp_model.specs.Calls.{start_txn, take_lock, read_at, write_at, prepare_parts}
use Rattle.vp_model.specs.Step.{mark_calls, step}
use Rattle.vp_laws.proofs.Lists.Members.{Has}
use Rattle.vp_laws.proofs.Lists.Names.{named}
use Rattle.vp_laws.proofs.Lists.Changes.{without_first_has}
use Rattle.vp_laws.proofs.Moves.Frames.{Ends, close-commits, decided-ends, decide-cases}
use Rattle.vp_laws.proofs.Moves.Table.{lent_at, OfCoordinator}
use Rattle.vp_laws.proofs.Moves.Rows.{step-keeps}
use Rattle.vp_laws.proofs.Moves.OnlyCoordinator.{OnCoordinator, Keeps, only_begins, only_table}
use Rattle.vp_laws.proofs.Table.Steps.{locked_effects, completes_effects}

abbrev pub Alone : SiteState → CoordinatorState → List Sent → List Commit → Type 0
Alone x c ms cs = (cs ≡ []) ⊎ ((t : Live) → Has c.live t → Has x.live t)

module _ (catalogue : Catalogue) (x : SiteState) (given : Input) where
  abbrev L : Lent → Type 0
  L l = Alone x l.coordinator l.effects.messages l.effects.commits

  ends : (t : Live) (l now : Lent) → l.live ≡ x.live → Ends x.id t Committed true l now → L now
  ends t l now same e = inr (λ u h. let q = without_first_has (named t.txn) l.live u (rw (ap (λ (c : CoordinatorState). c.live) e.coordinator) at h) in rw same at q)

  decides : (t : Live) → L (decide catalogue x.id t (lent_at x))
  unfolding keep_writes
  decides t = decide-cases L catalogue x.id t (lent_at x)
      (λ none. ends t (lent_at x) (decided x.id t (lent_at x)) refl (decided-ends x.id t (lent_at x)))
      (λ some. ends t (keep_writes catalogue x.id t (lent_at x)) (decided x.id t (keep_writes catalogue x.id t (lent_at x))) refl (decided-ends x.id t (keep_writes catalogue x.id t (lent_at x))))

  moves : OfCoordinator catalogue x given L
  unfolding start_txn take_lock complete read_at write_at prepare_parts mark_calls
  moves = record {
    begin = λ port view e g u. inl refl;
    answers = λ words port why y. inl refl;
    take_lock = λ t rec exclusive stored h i a v c. inl refl;
    complete = λ t p deed l h g y e r. inl (ap (λ (e : Effects). e.commits) (completes_effects catalogue x given t p deed l g));
    read_at = λ t p rec q h n r a w c o y. inl refl;
    write_at = λ t p rec value l h n w a e o d y v r. inl (ap (λ (e : Effects). e.commits) (locked_effects x t rec l d));
    prepare_parts = λ t p h i g e. inl refl;
    still_waits = λ t p from h e m f c. inl refl;
    decide = λ t n d. decides t;
    close = λ t why l n a z y r. inl (close-commits x.id t why l ∙ z);
    mark_calls = λ l c z r. inl z.commits;
    acknowledge = λ from txn c w. inl refl;
  }

  keeps : Keeps catalogue x given (Alone x)
  keeps = record { aside = λ c ms more cs quiet r. r; starts = inl refl; moves = moves; sends_back = λ from m t. inl refl; resends = λ c d ms cs tick h r. r }

pub alone-step : (catalogue : Catalogue) (x : SiteState) (given : Input) → OnCoordinator catalogue x given (Alone x) (step catalogue x given)
alone-step catalogue x given =
    let k = keeps catalogue x given in
    step-keeps catalogue x given (OnCoordinator catalogue x given (Alone x)) (only_table catalogue x given (Alone x) k) (only_begins catalogue x given (Alone x) k)
