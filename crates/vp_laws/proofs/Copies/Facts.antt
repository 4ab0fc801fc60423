-- What follows from the invariant of copies in one world: a date closes its record, and so does a view above it.
use Rattle.std.proofs.Common.{inr, ◌≡◌, ◌∙◌, sym, subst, ℕ, arith, ⊎_elim}
use Rattle.std.specs.Prelude.{Some}
use Rattle.vp_model.specs.Types.{ViewId, View, Commit, Stored, Doubt}
use Rattle.vp_model.specs.Words.{keys, opening, value_at}
use Rattle.vp_model.specs.Catalogue.{Catalogue, holders}
use Rattle.vp_laws.proofs.Lists.Members.{Has}
use Rattle.vp_laws.proofs.Lists.Changes.{mapped_has}
use Rattle.vp_laws.proofs.Lists.Views.{AtMost, Precedes, not_both, opening_least}
use Rattle.vp_laws.proofs.Journal.Order.{Precedes-trans}
use Rattle.vp_laws.proofs.Worlds.Scenes.{Scene, kept_at}
use Rattle.vp_laws.proofs.Table.Copies.{value_pair}
use Rattle.vp_laws.proofs.Invariant.Entered.{AgreedAs}
use Rattle.vp_laws.proofs.Invariant.Dated.{IsDated}
use Rattle.vp_laws.proofs.Invariant.Held.{holder_kept}
use Rattle.vp_laws.proofs.Invariant.Copies.{FromView, InvCopies}
use Rattle.vp_laws.proofs.Invariant.Refresh.{InvRefresh}
use Rattle.vp_laws.proofs.Invariant.Known.{Known}
use Rattle.vp_laws.proofs.Invariant.Closed.{Open}
use Rattle.vp_laws.proofs.Journal.ValuesAfter.{Wrote}

pub still_below : (a b c : ViewId) → AtMost a b → Precedes b c → Precedes a c
still_below a b c p q = omega arith

-- one of two identifiers is below the other, or they are the same
-- the record is closed for a view above this one, of which the site is a member
pub record ClosedAbove (catalogue : Catalogue) (w : Scene) (s rec : ℕ) (j : ViewId) : Type 0 where
  pub view : View
  pub agreed : Has w.agreed view
  pub member : Has view.members s
  pub above : Precedes j view.id
  pub opened : Open catalogue w rec view

module _ (catalogue : Catalogue) (w : Scene) (k : Known catalogue w) where
  pub copy_dated : (s rec : ℕ) (c : Stored) → value_at rec (kept_at w s).copies ≡ Some c → IsDated w rec c.date
  copy_dated s rec c e = k.dated.copies s (rec, c) (value_pair rec (kept_at w s).copies c e)

  pub copy_holder : (s rec : ℕ) (c : Stored) → value_at rec (kept_at w s).copies ≡ Some c → Has (holders catalogue rec) s
  copy_holder s rec c e = holder_kept catalogue w s rec k.held (mapped_has (λ (p : ℕ × Stored). p.0) (kept_at w s).copies (rec, c) (value_pair rec (kept_at w s).copies c e))

module _ (catalogue : Catalogue) (w : Scene) (k : Known catalogue w) (refresh : InvRefresh catalogue w) where
  -- the view of an entry
  pub entry_closes : (e : Commit) (rec : ℕ) (v : View) → Has w.journal e → Wrote e rec → AgreedAs w e.view v → Open catalogue w rec v
  entry_closes e rec v h wrote a =
      refresh.entry e v rec h a (inr wrote)

  pub closed_above : (s rec : ℕ) (date j : ViewId) → FromView catalogue w s rec date → IsDated w rec date → Precedes j date → ClosedAbove catalogue w s rec j
  closed_above s rec date j (FromView.closed v agreed later member opened) dated below = record { view = v; agreed = agreed; member = member; above = Precedes-trans j date v.id below later; opened = opened }
  closed_above s rec date j (FromView.member v agreed member) dated below = ⊎_elim
      (λ (first : date ≡ opening). absurd (not_both j opening (subst (Precedes j) first below) (opening_least j)))
      (λ (q : (e : Commit) × Has w.journal e × Wrote e rec × (e.view ≡ date)).
      let c = entry_closes q.0 rec v q.1 q.2 (agreed.0, agreed.1 ∙ sym q.3) in
      record { view = v; agreed = agreed.0; member = member; above = subst (Precedes j) (sym agreed.1) below; opened = c })
      dated

module _ (catalogue : Catalogue) (w : Scene) (k : Known catalogue w) (copies : InvCopies catalogue w) (refresh : InvRefresh catalogue w) where
  pub copy_closed : (s rec : ℕ) (c : Stored) (j : ViewId) → value_at rec (kept_at w s).copies ≡ Some c → Precedes j c.date → ClosedAbove catalogue w s rec j
  copy_closed s rec c j e below = closed_above catalogue w k refresh s rec c.date j (copies.from s rec c e) (copy_dated catalogue w k s rec c e) below

  -- no doubt on the record is of a view below the date of the copy
  pub no_doubt_below : (s rec : ℕ) (c : Stored) (u : Doubt) → value_at rec (kept_at w s).copies ≡ Some c → Has (kept_at w s).doubts u → Has (keys u.writes) rec → Precedes u.view c.date → ⊥
  no_doubt_below s rec c u e there on below =
      let a = copy_closed s rec c u.view e below in
      (a.opened.closed s (copy_holder catalogue w k s rec c e) a.member).certain u there on a.above
