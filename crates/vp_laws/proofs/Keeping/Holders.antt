-- A record that the tests of a call let through, without a copy here, has a holder at another site of the view.
use Rattle.std.proofs.Common.{◌≡◌, ◌≢◌, ◌∙◌, subst, ℕ, Bool, true, false, cond, List, refl}
use Rattle.std.specs.Prelude.{Option, Some, None, not, ◌&&◌, ◌==◌}
use Rattle.std.specs.List.{list_any}
use Rattle.vp_model.specs.Transactions.{Deed}
use Rattle.vp_model.specs.Words.{first_some, has, value_at}
use Rattle.vp_model.specs.Calls.{short, short_by, short_of_holders}
use Rattle.vp_model.specs.Catalogue.{Catalogue, holders, total}
use Rattle.vp_model.specs.Refresh.{members_in, other_holders}
use Rattle.vp_model.specs.Site.{SiteState}
use Rattle.vp_laws.proofs.Lists.Members.{Has, any_true, filter_keeps}
use Rattle.vp_laws.proofs.Lists.Numbers.{eq_not}
use Rattle.vp_laws.proofs.Lists.Pairs.{not_copied}
use Rattle.vp_laws.proofs.Worlds.Scenes.{Scene, plain_at}
use Rattle.vp_laws.proofs.Moves.Coordinator.{none_first}
use Rattle.vp_laws.proofs.Invariant.Held.{holds_copy}
use Rattle.vp_laws.proofs.Invariant.Known.{Known}

-- a member that holds the record
pub some_holder : (catalogue : Catalogue) (rec : ℕ) (members : List ℕ) → short_of_holders catalogue rec members ≡ None → (q : ℕ) × Has (holders catalogue rec) q × (has members q ≡ true)
some_holder catalogue rec members none = go (list_any (has members) (holders catalogue rec)) refl none
  where
    go : (b : Bool) → list_any (has members) (holders catalogue rec) ≡ b → cond {A = Option (ℕ × ℕ)} b None (Some (0, total catalogue rec)) ≡ None → (q : ℕ) × Has (holders catalogue rec) q × (has members q ≡ true)
    go true e n = any_true (has members) (holders catalogue rec) e
    go false e n = cc

pub holder_elsewhere : (catalogue : Catalogue) (w : Scene) (s : ℕ) (x : SiteState) → plain_at w s ≡ Some x → Known catalogue w → (rec : ℕ) (deed : Deed) → short catalogue x.held x.bars rec deed ≡ None → value_at rec x.copies ≡ None → (q : ℕ) × Has (other_holders catalogue x rec) q
holder_elsewhere catalogue w s x up k rec deed enough none =
    let members = members_in x.held in
    let rest = none_first (short_by deed members) (first_some (value_at rec x.bars) (short_of_holders catalogue rec members)) enough in
    let q = some_holder catalogue rec members (none_first (value_at rec x.bars) (short_of_holders catalogue rec members) rest) in
    let other : q.0 ≢ x.id = (λ z. not_copied rec x.copies none (holds_copy catalogue w s x up (k.views.site s x up).kept k.held rec (subst (Has (holders catalogue rec)) (z ∙ (k.views.site s x up).id) q.1))) in
    (q.0, filter_keeps (λ (q : ℕ). has members q && not (q == x.id)) (holders catalogue rec) q.0 q.1 (both q.2 (eq_not q.0 x.id other)))
  where
    both : {a b : Bool} → a ≡ true → b ≡ false → (a && not b) ≡ true
    both e f = rw (e, f) refl
