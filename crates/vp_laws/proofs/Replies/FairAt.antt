-- The moments so far justify what is refused: the messages that refuse, the ends that are kept, and each answer of a step.
use Rattle.std.proofs.Common.{◌≡◌, ◌≢◌, ℕ, ◌+◌, ◌≤◌, Bool, true, false, List, ◌++◌, refl, length}
use Rattle.std.specs.Prelude.{Option, Some, ◌&&◌, slice_get}
use Rattle.vp_model.specs.Types.{Change, TxnId, ViewId, Owner, Obstacle, Answer, Message, Sent, Live, Finished}
use Rattle.vp_model.specs.Types.answer
use Rattle.vp_model.specs.Types.message
use Rattle.vp_model.specs.Types.obstacle
use Rattle.vp_model.specs.Words.{is_view}
use Rattle.vp_model.specs.Catalogue.{Catalogue, find_record}
use Rattle.vp_model.specs.Site.{SiteState}
use Rattle.vp_model.specs.Transactions.{answer_of}
use Rattle.vp_model.specs.World.{Moment}
use Rattle.vp_model.specs.Told.{answers_in}
use Rattle.vp_model.specs.Justified.{justified, was_blocked, was_barred, held_other, refused_number, barred_number, is_delivery, site_named}
use Rattle.vp_laws.proofs.Lists.Members.{Has, has_left}
use Rattle.vp_laws.proofs.Moves.LocalViews.{letter}
use Rattle.vp_laws.proofs.Worlds.Scenes.{Scene, plain_at}
use Rattle.vp_laws.proofs.Invariant.Shares.{HasRequest, request_more}
use Rattle.vp_laws.proofs.Replies.EndsTrue.{EndedAt}
use Rattle.vp_laws.proofs.Table.Fair.{is_free}
use Rattle.vp_laws.proofs.Replies.Fair.{WasBegun, Once, Fair, fair_more, is_site}
use Rattle.vp_laws.proofs.Table.Kept.{is_report}
use Rattle.vp_laws.proofs.Invariant.Invariant.{Invariant}

-- a site was asked for a part of the transaction, in the view
pub data IsAsked (w : Scene) (q from : ℕ) (txn : TxnId) (view : ViewId) (number : ℕ) : Type 0 where
  to_read : (rec : ℕ) → Has w.sent (letter q from (message.ReadRequest txn view number rec)) → IsAsked w q from txn view number
  to_write : (rec : ℕ) → Has w.sent (letter q from (message.WriteRequest txn view number rec)) → IsAsked w q from txn view number
  to_prepare : (reads : List ℕ) (writes : List (ℕ × Change)) → Has w.sent (letter q from (message.Prepare txn view number reads writes)) → IsAsked w q from txn view number

-- the site was asked, and a moment shows why it refused
pub data RefuseFair (catalogue : Catalogue) (w : Scene) (past : List Moment) (from : ℕ) (txn : TxnId) (number : ℕ) : Obstacle → Type 0 where
  blocked : (view : ViewId) (rec : ℕ) (exclusive : Bool) (holder : Owner) (q : ℕ) → HasRequest w q from txn view number rec exclusive → (m : Moment) → Has past m → ((name : List ℕ) → find_record catalogue name ≡ Some rec → from ≢ txn.site → was_blocked catalogue txn number name from holder m ≡ true) → RefuseFair catalogue w past from txn number (obstacle.Held holder)
  barred : (view : ViewId) (rec : ℕ) (exclusive : Bool) (inside total q : ℕ) → HasRequest w q from txn view number rec exclusive → (m : Moment) → Has past m → ((name : List ℕ) → find_record catalogue name ≡ Some rec → (was_barred catalogue txn number name inside total m && is_site (site_named m.before m.line.event) from) ≡ true) → RefuseFair catalogue w past from txn number (obstacle.Barred inside total)
  elsewhere : (view : ViewId) (now : Option ViewId) (q : ℕ) → IsAsked w q from txn view number → is_view now view ≡ false → Once past (held_other catalogue txn number from view now) → RefuseFair catalogue w past from txn number (obstacle.OtherView now)

abbrev pub RefuseOk : Catalogue → Scene → List Moment → ℕ → Message → Type 0
RefuseOk catalogue w past from (message.Refuse txn number why) = RefuseFair catalogue w past from txn number why
RefuseOk catalogue w past from m = Unit {0}

-- the number of an answer that names a lock, a view or weights of the transaction
abbrev pub named_number : TxnId → Answer → Option ℕ
named_number txn (answer.Inaccessible t number name inside total) = barred_number txn (answer.Inaccessible t number name inside total)
named_number txn a = refused_number txn a

-- the answers that a finished transaction keeps, and its end for each larger number
pub record FairEnd (catalogue : Catalogue) (past : List Moment) (f : Finished) : Type 0 where
  pub answers : (a : Answer) → Has f.answers a → Fair catalogue past a
  pub later : (n : ℕ) → length f.answers ≤ n → Fair catalogue past (answer_of f.txn n f.ending)
  -- a refusal that it keeps has the number of its place
  pub numbered : (i : ℕ) (a : Answer) (n : ℕ) → slice_get f.answers i ≡ Some a → named_number f.txn a ≡ Some n → n ≡ i + 1

pub record FairAt (catalogue : Catalogue) (w : Scene) (past : List Moment) : Type 0 where
  -- the whole invariant
  pub inv : Invariant catalogue w
  -- each refusal that was sent is justified
  pub sent : (m : Sent) → Has w.sent m → RefuseOk catalogue w past m.from m.message
  -- a transaction that a reply says was refused is over
  pub told : (m : Moment) → Has past m → (a : Answer) → Has (answers_in m.line) a → (txn : TxnId) (n : ℕ) → refused_number txn a ≡ Some n → EndedAt w txn
  -- and so is one that `inaccessible` ended, by a message
  pub barred : (m : Moment) → Has past m → is_delivery m.line.event ≡ true → (a : Answer) → Has (answers_in m.line) a → (txn : TxnId) (n : ℕ) → barred_number txn a ≡ Some n → EndedAt w txn
  -- each live transaction was begun in its view
  pub live : (s : ℕ) (x : SiteState) (t : Live) → plain_at w s ≡ Some x → Has x.live t → WasBegun past t.txn t.view
  -- what a finished transaction may answer is justified
  pub finished : (s : ℕ) (x : SiteState) (f : Finished) → plain_at w s ≡ Some x → Has x.finished f → FairEnd catalogue past f

-- more moments, and more messages
asked_more : (w new : Scene) → ((m : Sent) → Has w.sent m → Has new.sent m) → (q from : ℕ) (txn : TxnId) (view : ViewId) (number : ℕ) → IsAsked w q from txn view number → IsAsked new q from txn view number
asked_more w new on q from txn view number (IsAsked.to_read rec h) = IsAsked.to_read rec (on _ h)
asked_more w new on q from txn view number (IsAsked.to_write rec h) = IsAsked.to_write rec (on _ h)
asked_more w new on q from txn view number (IsAsked.to_prepare reads writes h) = IsAsked.to_prepare reads writes (on _ h)

refuse_more : (catalogue : Catalogue) (w new : Scene) (past more : List Moment) → ((m : Sent) → Has w.sent m → Has new.sent m) → (from : ℕ) (txn : TxnId) (number : ℕ) (why : Obstacle) → RefuseFair catalogue w past from txn number why → RefuseFair catalogue new (past ++ more) from txn number why
refuse_more catalogue w new past more on from txn number why (RefuseFair.blocked view rec exclusive holder q asked m h f) = RefuseFair.blocked view rec exclusive holder q (request_more w new on q from txn view number rec exclusive asked) m (has_left past more m h) f
refuse_more catalogue w new past more on from txn number why (RefuseFair.barred view rec exclusive inside total q asked m h f) = RefuseFair.barred view rec exclusive inside total q (request_more w new on q from txn view number rec exclusive asked) m (has_left past more m h) f
refuse_more catalogue w new past more on from txn number why (RefuseFair.elsewhere view now q asked e o) = RefuseFair.elsewhere view now q (asked_more w new on q from txn view number asked) e (record { moment = o.moment; has = has_left past more o.moment o.has; passes = o.passes })

pub refuse_on : (catalogue : Catalogue) (w new : Scene) (past more : List Moment) → ((m : Sent) → Has w.sent m → Has new.sent m) → (from : ℕ) (m : Message) → RefuseOk catalogue w past from m → RefuseOk catalogue new (past ++ more) from m
refuse_on catalogue w new past more on from (message.Refuse txn number why) h = refuse_more catalogue w new past more on from txn number why h
refuse_on catalogue w new past more on from m h = tt

pub end_more : (catalogue : Catalogue) (past more : List Moment) (f : Finished) → FairEnd catalogue past f → FairEnd catalogue (past ++ more) f
end_more catalogue past more f e = record { answers = λ a h. fair_more catalogue past more a (e.answers a h); later = λ n h. fair_more catalogue past more _ (e.later n h); numbered = e.numbered }

pub free_justified : (catalogue : Catalogue) (past : List Moment) (m : Moment) (a : Answer) → is_free a ≡ true → justified catalogue past m a ≡ true
free_justified catalogue past m (answer.Inaccessible txn number name inside total) e = cc
free_justified catalogue past m (answer.LockHeld txn number name at owner) e = cc
free_justified catalogue past m (answer.ViewChanged txn number at held now) e = cc
free_justified catalogue past m _ e = refl

pub report_fair : (catalogue : Catalogue) (past : List Moment) (a : Answer) → is_report a ≡ true → Fair catalogue past a
report_fair catalogue past (answer.Inaccessible txn number name inside total) e = cc
report_fair catalogue past (answer.LockHeld txn number name at owner) e = cc
report_fair catalogue past (answer.ViewChanged txn number at held now) e = cc
report_fair catalogue past _ e = tt
