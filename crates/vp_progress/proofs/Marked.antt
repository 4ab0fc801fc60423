-- In every world: a lock of a transaction in doubt, at a site that does not hold the doubt's view, is on a record that the doubt writes.
use Rattle.std.proofs.Common.{◌≡◌, ◌⊎◌, ◌∙◌, ap, sym, subst, ℕ, Bool, true, false, List, [], ◌∷◌, refl, ⊎_elim, inl, inr}
use Rattle.std.specs.Prelude.{Some, flat_map}
use Rattle.vp_model.specs.Types.{Change, ViewId, TxnId, Sent, Message, Input, Lock, Doubt}
use Rattle.vp_model.specs.Types.message
use Rattle.vp_model.specs.Types.owner
use Rattle.vp_model.specs.Words.{keys}
use Rattle.vp_model.specs.Catalogue.{Catalogue, start_copies}
use Rattle.vp_model.specs.Durable.{DurableState, empty_durable}
use Rattle.vp_model.specs.Site.{SiteState, Stepped}
use Rattle.vp_model.specs.Step.{locks_in_doubt, step, start, durable_of}
use Rattle.vp_model.specs.World.{start_world}
use Rattle.vp_laws.proofs.Lists.Members.{Has, has_none, has_first, has_more, has_cases, map_has}
use Rattle.vp_laws.proofs.Lists.Changes.{mapped_has}
use Rattle.vp_laws.proofs.Moves.LocalViews.{letter}
use Rattle.vp_laws.proofs.Moves.Table.{Comes}
use Rattle.vp_laws.proofs.Worlds.Scenes.{Scene, scene_of, plain_at, kept_at, acted}
use Rattle.vp_laws.proofs.Worlds.Sites.{NowIs, now_is, KeptIs, kept_is, Quiet, QuietIs, quiet_is, quiet_kept, started, start_kept, With, with_last}
use Rattle.vp_laws.proofs.Worlds.Events.{Arrives, Lasts}
use Rattle.vp_laws.proofs.Invariant.Known.{Known}
use Rattle.vp_laws.proofs.Keeping.Known.{known_last}
use Rattle.vp_laws.proofs.Keeping.Does.{does}
use Rattle.vp_progress.proofs.Asked.{AsksWrite, InvAsked, names_view, naming, asked_last}
use Rattle.vp_progress.proofs.Marks.{HoldsNow, SharedHeld, FromExclusive, Marked, marked-step}

pub record InvMarked (w : Scene) : Type 0 where
  -- an exclusive lock of another site's transaction was asked for
  pub asked : (s : ℕ) (x : SiteState) (l : Lock) (txn : TxnId) → plain_at w s ≡ Some x → Has x.locks l → l.exclusive ≡ true → l.owner ≡ owner.Txn txn → (txn.site ≡ s) ⊎ AsksWrite w s txn l.rec
  -- what a doubt writes was asked for
  pub kept : (s : ℕ) (d : Doubt) (rec : ℕ) → Has (kept_at w s).doubts d → Has (keys d.writes) rec → AsksWrite w s d.txn rec
  -- a shared lock of a transaction in doubt is of the view that is held
  pub shared : (s : ℕ) (x : SiteState) → plain_at w s ≡ Some x → SharedHeld x.held x.doubts x.locks

abbrev pub Base : Catalogue → Scene → Type 0
Base catalogue w = With (Known catalogue) (InvAsked catalogue) w

asks_more : (w new : Scene) → ((m : Sent) → Has w.sent m → Has new.sent m) → (to : ℕ) (txn : TxnId) (rec : ℕ) → AsksWrite w to txn rec → AsksWrite new to txn rec
asks_more w new on to txn rec a = (a.0, a.1, a.2, on _ a.3)

-- what a site locks as it starts
record FromDoubt (doubts : List Doubt) (l : Lock) : Type 0 where
  doubt : Doubt
  there : Has doubts doubt
  by : l.owner ≡ owner.Txn doubt.txn
  on : Has (keys doubt.writes) l.rec
  exclusive : l.exclusive ≡ true

from_doubts : (doubts : List Doubt) (l : Lock) → Has (flat_map locks_in_doubt doubts) l → FromDoubt doubts l
from_doubts [] l h = absurd (has_none l h)
from_doubts (d ∷ doubts) l h = ⊎_elim
    (λ one. let m = map_has (λ (w : ℕ × Change). record { rec = w.0; exclusive = true; owner = owner.Txn d.txn }) d.writes l one in record {
      doubt = d;
      there = has_first d doubts;
      by = ap (λ (l : Lock). l.owner) (sym m.2);
      on = subst (Has (keys d.writes)) (ap (λ (l : Lock). l.rec) m.2) (mapped_has (λ (w : ℕ × Change). w.0) d.writes m.0 m.1);
      exclusive = ap (λ (l : Lock). l.exclusive) (sym m.2);
    })
    (λ more. let f = from_doubts doubts l more in record { doubt = f.doubt; there = has_more d doubts f.doubt f.there; by = f.by; on = f.on; exclusive = f.exclusive })
    (has_cases (locks_in_doubt d) (flat_map locks_in_doubt doubts) l h)

start_locks : (catalogue : Catalogue) (s : ℕ) (d : DurableState) → (start catalogue s d).locks ≡ flat_map locks_in_doubt d.doubts
unfolding start
start_locks catalogue s d = refl

same_txn_of : (a b : TxnId) (l : Lock) → l.owner ≡ owner.Txn a → l.owner ≡ owner.Txn b → a ≡ b
same_txn_of a b l p q = let z = sym p ∙ q in cc

module _ (catalogue : Catalogue) (w : Scene) (s : ℕ) (x : SiteState) (given : Input) (up : plain_at w s ≡ Some x) (r : Arrives w s given) (base : Base catalogue w) (inv : InvMarked w) where
  abbrev k : Known catalogue w
  k = base.base

  abbrev o : Stepped
  o = step catalogue x given

  abbrev new : Scene
  new = acted w s x o

  n : Known catalogue (acted w s x (step catalogue x given))
  n = (known_last catalogue).acts w s x given up r base.base

  came_view : (from : ℕ) (m : Message) (d : Doubt) (view : ViewId) → Comes given from m → names_view m ≡ naming d.txn view → Has x.doubts d → view ≡ d.view
  came_view from m d view c e h =
      let does_it = does catalogue w s x given up r base.base in
      let says = base.base.shares.doubts s d (subst (λ (k : DurableState). Has k.doubts d) (base.base.views.site s x up).kept h) in
      base.more.view (letter from s m) (letter says.0.0 s (message.Prepare d.txn d.view says.0.1 says.0.2 d.writes)) d.txn view d.view (does_it.came from m c) says.0.3 e refl

  marks : Marked x given (step catalogue x given)
  marks = marked-step catalogue x given (base.base.views.site s x up).tidy (base.base.led.site s x up) (base.base.below.site s x up) (inv.shared s x up) came_view

  asked_here : (l : Lock) (txn : TxnId) → Has (step catalogue x given).site.locks l → l.exclusive ≡ true → l.owner ≡ owner.Txn txn → (txn.site ≡ s) ⊎ AsksWrite (acted w s x (step catalogue x given)) s txn l.rec
  asked_here l txn h ex by = go (marks.0 l txn h ex by)
    where
      go : FromExclusive x given txn l.rec → (txn.site ≡ s) ⊎ AsksWrite (acted w s x (step catalogue x given)) s txn l.rec
      go (FromExclusive.locked_before lock) = ⊎_elim (λ own. inl own) (λ a. inr (asks_more w (acted w s x (step catalogue x given)) (does catalogue w s x given up r base.base).st.moved.sent s txn l.rec (subst (AsksWrite w s txn) lock.on a))) (inv.asked s x lock.lock txn up lock.has (lock.strong refl) lock.by)
      go (FromExclusive.of_this_site u q named) = inl (ap (λ (t : TxnId). t.site) (sym named) ∙ ((base.base.led.site s x up).names u q).0 ∙ (base.base.views.site s x up).id)
      go (FromExclusive.asked_now from number view c) = let d = does catalogue w s x given up r base.base in inr (from, view, number, d.st.moved.sent _ (d.came from _ c))

  acts : InvMarked (acted w s x (step catalogue x given))
  acts =
      let d = does catalogue w s x given up r base.base in
      record {
        asked = λ j y l txn there h ex by. asked_at j y l txn (now_is w (acted w s x (step catalogue x given)) s x (step catalogue x given) d.st j y there) h ex by;
        kept = λ j a rec h wrote. kept_at_site j a rec (kept_is w (acted w s x (step catalogue x given)) s x (step catalogue x given) d.st j) h wrote;
        shared = λ j y there. shared_at j y (now_is w (acted w s x (step catalogue x given)) s x (step catalogue x given) d.st j y there);
      }
    where
      more : (to : ℕ) (txn : TxnId) (rec : ℕ) → AsksWrite w to txn rec → AsksWrite (acted w s x (step catalogue x given)) to txn rec
      more = asks_more w (acted w s x (step catalogue x given)) (does catalogue w s x given up r base.base).st.moved.sent

      asked_at : (j : ℕ) (y : SiteState) (l : Lock) (txn : TxnId) → NowIs w s (step catalogue x given).site j y → Has y.locks l → l.exclusive ≡ true → l.owner ≡ owner.Txn txn → (txn.site ≡ j) ⊎ AsksWrite (acted w s x (step catalogue x given)) j txn l.rec
      asked_at j y l txn (NowIs.here e same) h ex by = subst (λ (j : ℕ). (txn.site ≡ j) ⊎ AsksWrite (acted w s x (step catalogue x given)) j txn l.rec) (sym e) (asked_here l txn (subst (λ (y : SiteState). Has y.locks l) (sym same) h) ex by)
      asked_at j y l txn (NowIs.other m there) h ex by = ⊎_elim (λ own. inl own) (λ a. inr (more j txn l.rec a)) (inv.asked j y l txn there h ex by)

      kept_at_site : (j : ℕ) (a : Doubt) (rec : ℕ) → KeptIs w (acted w s x (step catalogue x given)) s (durable_of (step catalogue x given).site) j → Has (kept_at (acted w s x (step catalogue x given)) j).doubts a → Has (keys a.writes) rec → AsksWrite (acted w s x (step catalogue x given)) j a.txn rec
      kept_at_site j a rec (KeptIs.other m same) h wrote = more j a.txn rec (inv.kept j a rec (subst (λ (k : DurableState). Has k.doubts a) same h) wrote)
      kept_at_site j a rec (KeptIs.here e now) h wrote =
          let there : Has (step catalogue x given).site.doubts a = subst (λ (k : DurableState). Has k.doubts a) now h in
          let lock = (n.guards.site s (step catalogue x given).site (does catalogue w s x given up r base.base).st.now).doubted a rec there wrote in
          ⊎_elim
          (λ (own : a.txn.site ≡ s). absurd (((n.below.kept j).doubts a h).1 (own ∙ sym e)))
          (λ asked. subst (λ (j : ℕ). AsksWrite (acted w s x (step catalogue x given)) j a.txn rec) (sym e) (subst (AsksWrite (acted w s x (step catalogue x given)) s a.txn) lock.on asked))
          (asked_here lock.lock a.txn lock.has (lock.strong refl) lock.by)

      shared_at : (j : ℕ) (y : SiteState) → NowIs w s (step catalogue x given).site j y → SharedHeld y.held y.doubts y.locks
      shared_at j y (NowIs.here e same) = subst (λ (y : SiteState). SharedHeld y.held y.doubts y.locks) same marks.1
      shared_at j y (NowIs.other m there) = inv.shared j y there

quiet_marked : (catalogue : Catalogue) (w new : Scene) (s : ℕ) → Quiet catalogue w new s → InvMarked w → InvMarked new
quiet_marked catalogue w new s q inv = record {
  asked = λ j y l txn there h ex by. asked_at j y l txn (quiet_is catalogue w new s q j y there) h ex by;
  kept = λ j d rec h wrote. more j d.txn rec (inv.kept j d rec (subst (λ (ds : List Doubt). Has ds d) (quiet_kept catalogue w new s q (λ (k : DurableState). k.doubts) q.doubts j) h) wrote);
  shared = λ j y there. shared_at j y (quiet_is catalogue w new s q j y there);
}
  where
    more : (to : ℕ) (txn : TxnId) (rec : ℕ) → AsksWrite w to txn rec → AsksWrite new to txn rec
    more = asks_more w new q.moved.sent

    from_start : (y : SiteState) (l : Lock) → start catalogue s (kept_at w s) ≡ y → Has y.locks l → FromDoubt (kept_at w s).doubts l
    from_start y l same h = from_doubts (kept_at w s).doubts l (subst (λ (ls : List Lock). Has ls l) (ap (λ (y : SiteState). y.locks) (sym same) ∙ start_locks catalogue s (kept_at w s)) h)

    asked_at : (j : ℕ) (y : SiteState) (l : Lock) (txn : TxnId) → QuietIs catalogue w s j y → Has y.locks l → l.exclusive ≡ true → l.owner ≡ owner.Txn txn → (txn.site ≡ j) ⊎ AsksWrite new j txn l.rec
    asked_at j y l txn (QuietIs.here e same) h ex by =
        let f = from_start y l same h in
        inr (subst (λ (j : ℕ). AsksWrite new j txn l.rec) (sym e) (subst (λ (t : TxnId). AsksWrite new s t l.rec) (same_txn_of f.doubt.txn txn l f.by by) (more s f.doubt.txn l.rec (inv.kept s f.doubt l.rec f.there f.on))))
    asked_at j y l txn (QuietIs.other m there) h ex by = ⊎_elim (λ own. inl own) (λ a. inr (more j txn l.rec a)) (inv.asked j y l txn there h ex by)

    shared_at : (j : ℕ) (y : SiteState) → QuietIs catalogue w s j y → SharedHeld y.held y.doubts y.locks
    shared_at j y (QuietIs.here e same) d l hd hl by sh = absurd (let f = from_start y l same hl in let z = sym f.exclusive ∙ sh in cc)
    shared_at j y (QuietIs.other m there) d l hd hl by sh = inv.shared j y there d l hd hl by sh

marked_starts : (catalogue : Catalogue) → InvMarked (scene_of (start_world catalogue))
marked_starts catalogue = record {
  asked = λ s x l txn up h ex by. absurd (none s x l up h);
  kept = λ s d rec h wrote. absurd (has_none d (subst (λ (ds : List Doubt). Has ds d) (start_kept catalogue s).doubts h));
  shared = λ s x up d l hd hl by sh. absurd (none s x l up hl);
}
  where
    none : (s : ℕ) (x : SiteState) (l : Lock) → plain_at (scene_of (start_world catalogue)) s ≡ Some x → Has x.locks l → ⊥
    none s x l up h = has_none l (subst (λ (ls : List Lock). Has ls l) (ap (λ (x : SiteState). x.locks) (sym (started catalogue s x up)) ∙ start_locks catalogue s (empty_durable (start_copies catalogue s))) h)

abbrev pub AllKnown : Catalogue → Scene → Type 0
AllKnown catalogue w = With (Base catalogue) InvMarked w

pub marked_last : (catalogue : Catalogue) → Lasts catalogue (AllKnown catalogue)
marked_last catalogue = with_last catalogue (Base catalogue) InvMarked (asked_last catalogue) (record {
  starts = marked_starts catalogue;
  acts = λ w s x given up r base inv. acts catalogue w s x given up r base inv;
  quiet = λ w new s q base inv. quiet_marked catalogue w new s q inv;
})

-- a lock of a doubt whose view is not held is on what it writes
pub doubt_lock : (catalogue : Catalogue) (w : Scene) → AllKnown catalogue w → (s : ℕ) (x : SiteState) (d : Doubt) (l : Lock) → plain_at w s ≡ Some x → Has x.doubts d → Has x.locks l → l.owner ≡ owner.Txn d.txn → (HoldsNow x.held d.view → ⊥) → Has (keys d.writes) l.rec
doubt_lock catalogue w all s x d l up hd hl by away = go l.exclusive refl
  where
    there : Has (kept_at w s).doubts d
    there = subst (λ (k : DurableState). Has k.doubts d) (all.base.base.views.site s x up).kept hd

    go : (b : Bool) → l.exclusive ≡ b → Has (keys d.writes) l.rec
    go false e = absurd (away (all.more.shared s x up d l hd hl by e))
    go true e = ⊎_elim
        (λ (own : d.txn.site ≡ s). absurd (((all.base.base.below.kept s).doubts d there).1 own))
        (λ asked. let says = all.base.base.shares.doubts s d there in all.base.more.prepared s l.rec says.0.0 d.txn d.view says.0.1 says.0.2 d.writes asked says.0.3)
        (all.more.asked s x l d.txn up hl e by)
