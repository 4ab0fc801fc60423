-- A copy that an entry of the step changes has the content after the entries of its view and all lower ones: the copy before had the
-- content so far, and the entry is added to it.
use Rattle.std.proofs.Common.{◌≡◌, ◌≢◌, ◌∙◌, ap, sym, subst, ℕ, true, List, refl}
use Rattle.std.specs.Prelude.{Option, Some, None, option_map, slice_get}
use Rattle.vp_model.specs.Types.{Commit, Input, Stored, Doubt}
use Rattle.vp_model.specs.Words.{keys, value_at}
use Rattle.vp_model.specs.Catalogue.{Catalogue, holders, start_values}
use Rattle.vp_model.specs.Durable.{DurableState}
use Rattle.vp_model.specs.Transactions.{last_changes}
use Rattle.vp_model.specs.Refresh.{is_open, refreshing_of}
use Rattle.vp_model.specs.Site.{SiteState, Stepped}
use Rattle.vp_model.specs.Step.{durable_of}
use Rattle.vp_laws.proofs.Lists.Members.{Has}
use Rattle.vp_laws.proofs.Lists.Views.{AtMost, AtMost-same, AtMost-along, not_both}
use Rattle.vp_laws.proofs.Worlds.Scenes.{Scene, kept_at}
use Rattle.vp_laws.proofs.Invariant.Held.{copy_value, holds_copy}
use Rattle.vp_laws.proofs.Journal.LastChanges.{last_change}
use Rattle.vp_laws.proofs.Journal.ValuesAfter.{Content, content_of, started, made, Wrote, value_after, value_up_to, value_written}
use Rattle.vp_laws.proofs.Keeping.NewEntries.{Entering, entering, journal_with, certain_was, not_listed}
use Rattle.vp_laws.proofs.Copies.Origins.{Written}
use Rattle.vp_laws.proofs.Copies.OwnUse.{lock_open}
use Rattle.vp_laws.proofs.Copies.Refreshes.{unlisted_none}
use Rattle.vp_laws.proofs.Copies.Usable.{usable_value}
use Rattle.vp_laws.proofs.Copies.Writes.{written_date, there_last, wrote}
use Rattle.vp_laws.proofs.Keeping.Does.{Does}
use Rattle.vp_laws.proofs.Invariant.Copies.{InvCopies}
use Rattle.vp_laws.proofs.Invariant.Refresh.{InvRefresh}
use Rattle.vp_laws.proofs.Invariant.Known.{Known}

module _ (catalogue : Catalogue) (w new : Scene) (s : ℕ) (x : SiteState) (given : Input) (o : Stepped) (k : Known catalogue w) (n : Known catalogue new) (d : Does catalogue w new s x given o) (copies : InvCopies catalogue w) (refresh : InvRefresh catalogue w) (j rec : ℕ) (c : Stored) (holder : Has (holders catalogue rec) j) (b : Written catalogue w new s x given o k n d j rec c) where
  f : Entering catalogue w new s x given o k n d b.entry
  f = entering catalogue w new s x given o k n d b.entry b.entered

  date_is : b.entry.view ≡ c.date
  date_is = written_date catalogue w new s x given o k n d copies refresh j rec c holder b

  changed : Wrote b.entry rec
  changed = wrote catalogue w new s x given o k n d copies refresh j rec c holder b

  rec_is : b.write.0 ≡ rec
  rec_is = ap (λ (p : ℕ × Stored). p.0) b.is

  held_here : Has (holders catalogue rec) s
  held_here = subst (Has (holders catalogue rec)) b.here holder

  kept_here : durable_of x ≡ kept_at w j
  kept_here = d.here.kept ∙ ap (kept_at w) (sym b.here)

  old_there : Has x.copies (rec, b.old)
  old_there = subst (λ (n : ℕ). Has x.copies (n, b.old)) rec_is (subst (λ (k : DurableState). Has k.copies (b.write.0, b.old)) (sym kept_here) b.before)

  usable : is_open x rec ≡ true
  usable = lock_open catalogue w k s x f.was d.up f.live rec true
      (((k.guards.site s x d.up).own f.was f.live).wrote rec (subst (λ (e : Commit). Wrote e rec) (sym f.done) changed) (holds_copy catalogue w s x d.up d.here.kept k.held rec held_here))

  unlisted : refreshing_of rec x.refresh ≡ None
  unlisted = unlisted_none rec x.refresh (λ r h is. not_listed catalogue w new s x given o k n d b.entry r b.entered h (subst (Wrote b.entry) (sym is) changed))

  dated : AtMost b.old.date f.view.id
  dated = AtMost-along (d.below.copies (rec, b.old) old_there) refl (d.here.tidy.held f.view f.held).0

  unentered : (u : Doubt) → Has (kept_at w s).doubts u → Has (keys u.writes) rec → (e : Commit) → Has w.journal e → e.txn ≢ u.txn
  unentered u there on e h same = certain_was catalogue w new s x given o k n d b.entry rec b.entered changed held_here u (subst (λ (k : DurableState). Has k.doubts u) (sym d.here.kept) there) on

  before_is : value_after catalogue w.journal f.view.id rec ≡ Some (content_of b.old)
  before_is =
      usable_value catalogue w k.shares copies s rec x f.view b.old d.up d.here.kept f.held usable unlisted
      (copy_value catalogue w s x d.up d.here.kept k.held rec b.old old_there)
      (d.here.held f.view f.held) (subst (Has f.view.members) d.here.id (d.here.tidy.held f.view f.held).3) held_here dated unentered

  change_is : value_at rec (last_changes b.entry) ≡ Some b.write.1
  change_is =
      subst (λ (n : ℕ). value_at n (last_changes b.entry) ≡ Some b.write.1) rec_is
      (last_change b.entry b.write (there_last catalogue w new s x given o k n d copies refresh j rec c holder b))

  pub written_value : value_after catalogue new.journal c.date rec ≡ Some (content_of c)
  written_value = go (slice_get (start_values catalogue) rec) refl
    where
      go : (q : Option (Option (List ℕ))) → slice_get (start_values catalogue) rec ≡ q → option_map (λ start. value_up_to rec (started start) new.journal c.date) q ≡ Some (content_of c)
      go None e =
          let z = subst (λ (q : Option (Option (List ℕ))). option_map (λ start. value_up_to rec (started start) w.journal f.view.id) q ≡ Some (content_of b.old)) e before_is in
          cc
      go (Some first) e =
          let z : Some (value_up_to rec (started first) w.journal f.view.id) ≡ Some (content_of b.old) = subst (λ (q : Option (Option (List ℕ))). option_map (λ start. value_up_to rec (started start) w.journal f.view.id) q ≡ Some (content_of b.old)) e before_is in
          let old_is : value_up_to rec (started first) w.journal f.view.id ≡ content_of b.old = cc in
          ap (λ (v : Content). Some v) (
          ap (λ (es : List Commit). value_up_to rec (started first) es c.date) (journal_with catalogue w new s x given o k n d b.entry b.entered)
          ∙ value_written rec (started first) w.journal b.entry c.date b.write.1 (AtMost-same b.entry.view c.date date_is) change_is (λ g h above le q. not_both b.entry.view g.view above (AtMost-along le refl date_is))
          ∙ ap (made b.write.1) (ap (value_up_to rec (started first) w.journal) (sym (f.is ∙ date_is)) ∙ old_is)
          ∙ ap (λ (p : ℕ × Stored). content_of p.1) b.is
          )
