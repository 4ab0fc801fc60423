-- A site takes a name by the call that begins a transaction, and by nothing else.
use Rattle.std.proofs.Common.{◌≡◌, ℕ, ◌+◌, ◌≤◌, List}
use Rattle.vp_model.specs.Types.{Sent, Commit, Input}
use Rattle.vp_model.specs.Types.call
use Rattle.vp_model.specs.Types.input
use Rattle.vp_model.specs.Catalogue.{Catalogue}
use Rattle.vp_model.specs.Site.{CoordinatorState, SiteState, Lent}
use Rattle.vp_model.specs.Transactions.{finish, close, keep_writes, decided, complete}
use Rattle.vp_model.specs.Calls.{start_txn, take_lock, read_at, write_at, prepare_parts}
use Rattle.vp_model.specs.Step.{mark_calls, step}
use Rattle.vp_laws.proofs.Moves.Table.{OfCoordinator, lent_at}
use Rattle.vp_laws.proofs.Moves.Frames.{decide-cases}
use Rattle.vp_laws.proofs.Moves.OnlyCoordinator.{OnCoordinator, Keeps, only_table, only_begins}
use Rattle.vp_laws.proofs.Moves.Rows.{step-keeps}

module _ (catalogue : Catalogue) (x : SiteState) (given : Input) (most : ℕ) (low : x.seq ≤ most) (begins : (port : ℕ) → given ≡ input.Call port call.Begin → x.seq + 1 ≤ most) where
  abbrev R : CoordinatorState → List Sent → List Commit → Type 0
  R c ms cs = c.seq ≤ most

  abbrev L : Lent → Type 0
  L l = R l.coordinator l.effects.messages l.effects.commits

  moves : OfCoordinator catalogue x given L
  unfolding start_txn take_lock complete read_at write_at prepare_parts mark_calls keep_writes decided close finish
  moves = record {
    begin = λ port view h c s. begins port c;
    answers = λ words port r s. low;
    take_lock = λ t rec exclusive stored h i a v c. low;
    complete = λ t p deed l h c n e q. q;
    read_at = λ t p rec q h n r a w c o y. low;
    write_at = λ t p rec deed l h n w a v o y f e q. q;
    prepare_parts = λ t p h n c e. low;
    still_waits = λ t p from h e m f c. low;
    decide = λ t h d. decide-cases L catalogue x.id t (lent_at x) (λ e. low) (λ e. low);
    close = λ t why l h a e c q. q;
    mark_calls = λ l c d q. q;
    acknowledge = λ from txn c w. low;
  }

  keeps : Keeps catalogue x given R
  keeps = record { aside = λ c ms more cs quiet r. r; starts = low; moves = moves; sends_back = λ from m t. low; resends = λ c d ms cs tick h r. r }

  pub named-step : (step catalogue x given).site.seq ≤ most
  named-step = (step-keeps catalogue x given (OnCoordinator catalogue x given R) (only_table catalogue x given R keeps) (only_begins catalogue x given R keeps)).kept
