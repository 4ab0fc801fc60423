-- A copy that may be used and is not under refresh has the value after the entries of the held view and all lower ones, where each
-- doubt on it belongs to a transaction without an entry.
use Rattle.std.proofs.Common.{◌≡◌, ◌≢◌, ◌∙◌, ap, sym, subst, ℕ, Bool, true, false, List, refl, ⊎_elim}
use Rattle.std.specs.Prelude.{Option, Some, None, option_map, slice_get}
use Rattle.vp_model.specs.Types.{ViewId, View, Commit, Stored, Doubt}
use Rattle.vp_model.specs.Words.{same_view, keys, value_at}
use Rattle.vp_model.specs.Catalogue.{Catalogue, holders, start_values}
use Rattle.vp_model.specs.Durable.{DurableState}
use Rattle.vp_model.specs.Site.{SiteState}
use Rattle.vp_model.specs.Refresh.{is_open, refreshing_of}
use Rattle.vp_model.specs.Step.{durable_of}
use Rattle.vp_laws.proofs.Lists.Members.{Has}
use Rattle.vp_laws.proofs.Lists.Views.{AtMost, Precedes, same_is, same_from}
use Rattle.vp_laws.proofs.Worlds.Scenes.{Scene, plain_at, kept_at}
use Rattle.vp_laws.proofs.Invariant.Shares.{InvShares}
use Rattle.vp_laws.proofs.Journal.ValuesAfter.{content_of, Content, started, Wrote, value_after, value_up_to, value_between, without_none}
use Rattle.vp_laws.proofs.Journal.ValuesGrow.{doubt_or_none}
use Rattle.vp_laws.proofs.Copies.Brought.{doubt_on}
use Rattle.vp_laws.proofs.Invariant.Copies.{InvCopies}
use Rattle.vp_laws.proofs.Keeping.Guards.{strictly}

-- where no entry between two views wrote the record, its value after both is the same
pub after_between : (catalogue : Catalogue) (journal : List Commit) (c d : ViewId) (rec : ℕ) → AtMost c d → ((f : Commit) → Has journal f → Precedes c f.view → AtMost f.view d → Wrote f rec → ⊥) → value_after catalogue journal d rec ≡ value_after catalogue journal c rec
after_between catalogue journal c d rec h none = go (slice_get (start_values catalogue) rec)
  where
    go : (o : Option (Option (List ℕ))) → option_map (λ start. value_up_to rec (started start) journal d) o ≡ option_map (λ start. value_up_to rec (started start) journal c) o
    go None = refl
    go (Some start) = ap (λ (v : Content). Some v) (value_between rec (started start) journal c d h none)

not_same : (i : ViewId) → same_view i i ≡ false → ⊥
not_same i e = let t : same_view i i ≡ true = same_from i i refl in cc

module _ (catalogue : Catalogue) (w : Scene) (shares : InvShares catalogue w) (inv : InvCopies catalogue w) (s rec : ℕ) (x : SiteState) (v : View) (c : Stored) (up : plain_at w s ≡ Some x) (kept : durable_of x ≡ kept_at w s) (held : x.held ≡ Some v) (usable : is_open x rec ≡ true) (unlisted : refreshing_of rec x.refresh ≡ None) (copy : value_at rec x.copies ≡ Some c) (agreed : Has w.agreed v) (member : Has v.members s) (holder : Has (holders catalogue rec) s) (dated : AtMost c.date v.id) (unentered : (d : Doubt) → Has (kept_at w s).doubts d → Has (keys d.writes) rec → (e : Commit) → Has w.journal e → e.txn ≢ d.txn) where
  copy_kept : value_at rec (kept_at w s).copies ≡ Some c
  copy_kept = subst (λ (k : DurableState). value_at rec k.copies ≡ Some c) kept copy

  -- an entry of the held view that wrote it would be in doubt here
  none_in_held : (f : Commit) → Has w.journal f → Wrote f rec → Precedes c.date f.view → f.view ≡ v.id → ⊥
  none_in_held f h wrote above is =
      let d = inv.above s rec c f v copy_kept h wrote above (agreed, sym is) member in
      unentered d.0 d.1 (doubt_on catalogue w shares f s rec d.0 h wrote holder d.1 d.2) f h (sym d.2)

  none_after : (f : Commit) → Has w.journal f → Precedes c.date f.view → AtMost f.view v.id → Wrote f rec → ⊥
  none_after f h above below wrote = go (same_view f.view v.id) refl
    where
      apart : same_view f.view v.id ≡ false → f.view ≡ v.id → ⊥
      apart e is = let z : same_view v.id v.id ≡ false = subst (λ (i : ViewId). same_view i v.id ≡ false) is e in not_same v.id z

      go : (b : Bool) → same_view f.view v.id ≡ b → ⊥
      go true e = none_in_held f h wrote above (same_is f.view v.id e)
      go false e = inv.between s rec x v c f up held usable unlisted copy h wrote above (strictly f.view v.id below (apart e))

  at_date : value_after catalogue w.journal c.date rec ≡ Some (content_of c)
  at_date = ⊎_elim
      (λ (q : (u : Doubt) × Has (kept_at w s).doubts u × Has (keys u.writes) rec × (u.view ≡ c.date)).
      subst (λ (es : List Commit). value_after catalogue es c.date rec ≡ Some (content_of c)) (without_none q.0.txn w.journal (unentered q.0 q.1 q.2)) (inv.value_in_doubt s rec c q.0 copy_kept (q.1, q.2, q.3)))
      (λ none. inv.value s rec c copy_kept (λ d on. none d on.0 on.1 on.2))
      (doubt_or_none (kept_at w s).doubts rec c.date)

  pub usable_value : value_after catalogue w.journal v.id rec ≡ Some (content_of c)
  usable_value = after_between catalogue w.journal c.date v.id rec dated none_after ∙ at_date
