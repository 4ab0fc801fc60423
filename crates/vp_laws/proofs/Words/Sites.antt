-- The laws of locks and copies in the words of the contracts.
use Rattle.std.proofs.Common.{◌≡◌, ◌∙◌, sym, subst, ℕ, List, refl, ⊎_elim}
use Rattle.std.specs.Prelude.{Option, Some, None}
use Rattle.vp_model.specs.Types.{Stored}
use Rattle.vp_model.specs.World.{Place, Schedule, run_of, place_of}
use Rattle.vp_model.specs.Transactions.{last_changes}
use Rattle.vp_model.specs.Words.{keys}
use Rattle.vp_laws.specs.Sites.{LocksAreApart, copies_in, CopiesAreDated}
use Rattle.vp_laws.proofs.Lists.Members.{Has, has_of, contains}
use Rattle.vp_laws.proofs.Worlds.Scenes.{kept_in}
use Rattle.vp_laws.proofs.Worlds.Events.{in_last}
use Rattle.vp_laws.proofs.Keeping.Guards.{txn_same}
use Rattle.vp_laws.proofs.Invariant.Known.{Known}
use Rattle.vp_laws.proofs.Keeping.Known.{known_last}

pub locks_apart : (s : Schedule) → LocksAreApart (run_of s).world
locks_apart s site x a b t u up h k same strong f g =
    let known = in_last s.catalogue (Known s.catalogue) (known_last s.catalogue) s.events in
    txn_same t u (sym f ∙ (known.guards.site site x up).apart a b t u (has_of x.locks a h) (has_of x.locks b k) same strong f g ∙ g)

copies_same : (o : Option Place) → copies_in o ≡ (kept_in o).copies
copies_same None = refl
copies_same (Some p) = refl

pub copies_dated : (s : Schedule) → CopiesAreDated (run_of s).world
copies_dated s site c h later =
    let w = (run_of s).world in
    let known = in_last s.catalogue (Known s.catalogue) (known_last s.catalogue) s.events in
    let there = subst (λ (cs : List (ℕ × Stored)). Has cs c) (copies_same (place_of site w.places)) (has_of _ c h) in
    ⊎_elim (λ e. absurd (later e)) (λ q. (q.0, contains w.journal q.0 q.1, contains (keys (last_changes q.0)) c.0 q.2, q.3)) (known.dated.copies site c there)
