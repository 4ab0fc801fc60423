-- What one step of a site of which all is known does: every later proof on a step uses this.
use Rattle.std.proofs.Common.{◌≡◌, ◌∙◌, ◌≤◌, inl, ap, sym, subst, ℕ, Bool}
use Rattle.std.specs.Prelude.{Some}
use Rattle.vp_model.specs.Types.{View, Input, Message, Live, Refreshing}
use Rattle.vp_model.specs.Words.{keys, value_at}
use Rattle.vp_model.specs.Catalogue.{Catalogue}
use Rattle.vp_model.specs.Durable.{DurableState}
use Rattle.vp_model.specs.Site.{SiteState, Stepped, begin_step}
use Rattle.vp_model.specs.Step.{step}
use Rattle.vp_laws.proofs.Lists.Members.{Has}
use Rattle.vp_laws.proofs.Moves.LocalViews.{letter, Local}
use Rattle.vp_laws.proofs.Moves.Table.{Comes}
use Rattle.vp_laws.proofs.Table.Views.{local-step}
use Rattle.vp_laws.proofs.Table.Led.{Led, led-step}
use Rattle.vp_laws.proofs.Table.Below.{Below}
use Rattle.vp_laws.proofs.Table.Endings.{Endings, endings-step}
use Rattle.vp_laws.proofs.Table.Steps.{Steps, steps-step}
use Rattle.vp_laws.proofs.Table.Shares.{Shares, shares-step}
use Rattle.vp_laws.proofs.Table.Finished.{FinishedNow, finished-step}
use Rattle.vp_laws.proofs.Table.Replies.{Replying, replies-step}
use Rattle.vp_laws.proofs.Table.Alone.{Alone, alone-step}
use Rattle.vp_laws.proofs.Table.Waits.{Waits, waits-step}
use Rattle.vp_laws.proofs.Table.Leaves.{Leaves, leaves-step}
use Rattle.vp_laws.proofs.Moves.Both.{both}
use Rattle.vp_laws.proofs.Table.CopyAt.{CopiesAt, starts as copies_start, table as copies_table}
use Rattle.vp_laws.proofs.Table.Listed.{IsUnlisted, Listing, starts as listed_start, table as listed_table}
use Rattle.vp_laws.proofs.Table.Barred.{Barring, starts as barred_start, table as barred_table}
use Rattle.vp_laws.proofs.Table.Locks.{Guards, guards-step, starts as locks_start, table as locks_table}
use Rattle.vp_laws.proofs.Table.Copies.{Copies, copies-step}
use Rattle.vp_laws.proofs.Keeping.Once.{once_each}
use Rattle.vp_laws.proofs.Table.Unlisted.{Base, Unlisting, unlisting-step}
use Rattle.vp_laws.proofs.Table.Covered.{BarFrom, Quits, bar_from, quits}
use Rattle.vp_laws.proofs.Worlds.Scenes.{Scene, plain_at, Acted, acted, stepping}
use Rattle.vp_laws.proofs.Worlds.Events.{Arrives, came_in}
use Rattle.vp_laws.proofs.Worlds.Sites.{NowIs}
use Rattle.vp_laws.proofs.Invariant.Views.{SiteOk}
use Rattle.vp_laws.proofs.Invariant.Names.{UsedTxn}
use Rattle.vp_laws.proofs.Invariant.Used.{HasAnswered}
use Rattle.vp_laws.proofs.Keeping.Endings.{fresh}
use Rattle.vp_laws.proofs.Keeping.Guards.{outcomes, awaited, invited}
use Rattle.vp_laws.proofs.Keeping.Names.{Grows}
use Rattle.vp_laws.proofs.Keeping.Used.{Was, Split, was, split, owned}
use Rattle.vp_laws.proofs.Invariant.Known.{Known}
use Rattle.vp_laws.proofs.Lists.Numbers.{at_most_equal}

-- one step of the site s, which was x and has done o, from w to new
pub record Does (catalogue : Catalogue) (w new : Scene) (s : ℕ) (x : SiteState) (given : Input) (o : Stepped) : Type 0 where
  -- the site was up
  pub up : plain_at w s ≡ Some x
  -- what came was sent to it
  pub arrives : Arrives w s given
  -- a message that came was sent
  pub came : (from : ℕ) (m : Message) → Comes given from m → Has w.sent (letter from s m)
  -- the site by its promise and views
  pub here : SiteOk w s x
  -- its own transactions
  pub led : Led x
  -- its parts, doubts and dates
  pub below : Below x
  -- what the step says of views
  pub local : Local x given o
  -- how transactions end in it
  pub endings : Endings x given o.site.coordinator o.effects.messages o.effects.commits
  -- where its live transactions, requests and entries come from
  pub steps : Steps catalogue x given o.site.coordinator o.effects.messages o.effects.commits
  -- where its parts, doubts and answers come from
  pub shares : Shares x given o
  -- names that were used stay so
  pub grows : Grows w new s
  -- where finished transactions come from
  pub finished : FinishedNow x o.site.coordinator o.effects.messages o.effects.commits
  -- what it replies
  pub replying : Replying x given o.site.live o.effects.commits o.effects.replies
  -- a step with an entry changes no other live transaction
  pub alone : Alone x o.site.coordinator o.effects.messages o.effects.commits
  -- whom its decisions wait for
  pub waits : Waits catalogue x given o.site.coordinator o.effects.messages o.effects.commits
  -- what it gives up
  pub leaves : Leaves x given o
  -- its locks after the step
  pub guards : Guards catalogue x given o
  -- where copies and kept answers come from
  pub copies : Copies catalogue x given o
  -- why a record is not under refresh
  pub unlisting : Unlisting catalogue x given o
  -- why one that has a copy here is not
  pub quits : (rec : ℕ) (v : View) → o.site.held ≡ Some v → Has (keys x.copies) rec → IsUnlisted o.site.refresh rec → Quits catalogue x given o rec
  -- where bars are from
  pub bar_from : (rec : ℕ) (v : View) (bar : ℕ × ℕ) → o.site.held ≡ Some v → value_at rec o.site.bars ≡ Some bar → IsUnlisted o.site.refresh rec → BarFrom catalogue x given o rec bar
  -- what a live transaction of a used name was before
  pub was : (j : ℕ) (y : SiteState) (t : Live) → UsedTxn w t.txn → Has y.live t → NowIs w s o.site j y → Was w j t
  -- an answer was given before, or is given now
  pub split : (j : ℕ) (y : SiteState) (t : Live) → NowIs w s o.site j y → Has y.live t → (q rec : ℕ) (exclusive : Bool) → HasAnswered new q t.txn rec exclusive → Split w s x given o j t q rec exclusive
  -- what the step changes of the world
  pub st : Acted w new s x o

pub does : (catalogue : Catalogue) (w : Scene) (s : ℕ) (x : SiteState) (given : Input) → plain_at w s ≡ Some x → Arrives w s given → Known catalogue w → Does catalogue w (acted w s x (step catalogue x given)) s x given (step catalogue x given)
does catalogue w s x given up r k =
    let o = step catalogue x given in
    let ok = k.views.site s x up in
    let led = k.led.site s x up in
    let below = k.below.site s x up in
    let apart = k.votes.site s x up in
    let settled = k.ends.settled s x up in
    let locks = k.guards.site s x up in
    let leads = led-step catalogue x given ok.tidy led in
    let over = outcomes catalogue w s x given up r k.views led k.led below k.ends k.shares k.entered in
    let waits_for = awaited catalogue w s x given up r k.views led k.led below k.ends k.shares k.entered in
    let invites_to = invited catalogue w s x given up r k.views led k.led below k.ends k.shares k.entered in
    let locks_now = guards-step catalogue x given ok.tidy led below apart locks over waits_for invites_to in
    let st = stepping catalogue w s x given up ok.kept (local-step catalogue x given ok.tidy) in
    let once = once_each catalogue w s x given ok.kept k.ends k.shares (came_in w s given r) in
    let in_view : (a : Refreshing) → Has x.refresh a → (v : View) × (x.held ≡ Some v) = (λ a h. let q = locks.lower a h in (q.0, q.1)) in
    let listed : (a : Refreshing) → Has x.refresh a → Has (keys x.copies) a.rec = (λ a h. k.listed.listed s x a up h) in
    let barred = k.barred.site s x up in
    let locks_begin = locks_start catalogue x given ok.tidy led below apart locks over waits_for invites_to in
    let locks_moves = locks_table catalogue x given ok.tidy led below apart locks over waits_for invites_to in
    let begun : Base catalogue x given (begin_step x) = (copies_start catalogue x given ok.tidy in_view once, (listed_start catalogue x given ok.tidy in_view listed, barred_start catalogue x given ok.tidy locks_moves locks_begin barred)) in
    let unlists = unlisting-step catalogue x given
    (both catalogue x given (CopiesAt catalogue x given) (λ (o : Stepped). Listing catalogue x given o × Barring catalogue x given o) (copies_table catalogue x given ok.tidy in_view once)
    (both catalogue x given (Listing catalogue x given) (Barring catalogue x given) (listed_table catalogue x given ok.tidy in_view listed) (barred_table catalogue x given ok.tidy locks_moves locks_begin barred)))
    begun in
    record {
      up = up;
      arrives = r;
      came = came_in w s given r;
      here = ok;
      led = led;
      below = below;
      local = local-step catalogue x given ok.tidy;
      endings = (endings-step catalogue x given led apart settled (λ d h. fresh w s x up ok.id d.txn ((k.names.site s x up).decisions d h))).kept;
      steps = (steps-step catalogue x given led apart).kept;
      shares = shares-step catalogue x given;
      grows = record {
        life = at_most_equal _ _ (ap (λ (d : DurableState). d.life) (sym ok.kept) ∙ sym (ap (λ (d : DurableState). d.life) st.kept_now ∙ leads.life));
        seq = λ y h. let same : o.site ≡ y = (let z = st.now in cc) in inl (x, up, ap (λ (y : SiteState). y.life) (sym same) ∙ leads.life, subst (λ (y : SiteState). x.seq ≤ y.seq) same leads.seq);
      };
      finished = (finished-step catalogue x given).kept;
      replying = replies-step catalogue x given led apart;
      alone = (alone-step catalogue x given).kept;
      waits = (waits-step catalogue x given settled.decisions).kept;
      leaves = leaves-step catalogue x given;
      guards = locks_now;
      copies = copies-step catalogue x given ok.tidy in_view once;
      unlisting = unlists;
      quits = quits catalogue x given (λ e. (led.idle e).1) barred ok.tidy unlists;
      bar_from = bar_from catalogue x given (λ e. (led.idle e).1) barred ok.tidy unlists;
      was = was catalogue w (acted w s x o) s x given up r ok.id (ap (λ (d : DurableState). d.promise) ok.kept) k.views k.led (owned catalogue w k.views k.led) k.names k.ends k.shares k.answers k.used (steps-step catalogue x given led apart).kept (shares-step catalogue x given) (leaves-step catalogue x given) locks_now st;
      split = split catalogue w (acted w s x o) s x given up r ok.id (ap (λ (d : DurableState). d.promise) ok.kept) k.views k.led (owned catalogue w k.views k.led) k.names k.ends k.shares k.answers k.used (steps-step catalogue x given led apart).kept (shares-step catalogue x given) (leaves-step catalogue x given) locks_now st;
      st = st;
    }
