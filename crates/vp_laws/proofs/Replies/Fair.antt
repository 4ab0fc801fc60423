-- When the moments so far justify a refusal, and that they go on to do so.
use Rattle.std.proofs.Common.{◌≡◌, ◌≢◌, sym, subst, ℕ, Bool, true, false, cond, List, ◌++◌, refl, arith}
use Rattle.std.specs.Prelude.{Option, Some, None, is_some, not, ◌==◌, ◌&&◌, if◌then◌else◌}
use Rattle.std.specs.Option.{option_map_or}
use Rattle.std.proofs.lemmas.Bool.{eqb-true, or_right}
use Rattle.std.specs.List.{list_any}
use Rattle.std.proofs.lemmas.Bool.Decides.{nat_tests}
use Rattle.vp_model.specs.Types.{TxnId, ViewId, Owner, Answer, Line}
use Rattle.vp_model.specs.Types.answer
use Rattle.vp_model.specs.Words.{is_view}
use Rattle.vp_model.specs.Catalogue.{Catalogue}
use Rattle.vp_model.specs.World.{Moment}
use Rattle.vp_model.specs.Told.{answers_in}
use Rattle.vp_model.specs.Justified.{was_barred, is_barred_by, closed_by_bar, barred_in, refused_in, site_named, was_blocked, held_other, is_held_by, is_other_view, left_then, closed_then, closed_in, takes_refusal, closed_by_lock, closed_by_view, told_from, tells_end, is_begun, begun_in, refused_once, justified}
use Rattle.vp_laws.proofs.Replies.RefusedCalls.{Refusal, refusal_is, refusal_more, refused_more, barred_more}
use Rattle.vp_laws.proofs.Lists.Members.{Has, has_left, any_of, both_true}
use Rattle.vp_laws.proofs.Lists.Numbers.{eq_not}
use Rattle.vp_laws.proofs.Table.ToldLines.{lines_in}

-- the transaction was begun in the view
pub record WasBegun (past : List Moment) (txn : TxnId) (view : ViewId) : Type 0 where
  pub moment : Moment
  pub has : Has past moment
  pub told : list_any (is_begun txn view) (answers_in moment.line) ≡ true

-- some moment passes the test
pub record Once (past : List Moment) (test : Moment → Bool) : Type 0 where
  pub moment : Moment
  pub has : Has past moment
  pub passes : test moment ≡ true

-- the transaction was closed in a step that passes the test
abbrev pub ClosedIn : List Moment → TxnId → (Moment → Bool) → Type 0
ClosedIn past txn test = Once past (λ m. closed_then txn m && test m)

-- the named site is this one
abbrev pub is_site : Option ℕ → ℕ → Bool
is_site None at = false
is_site (Some site) at = site == at

-- a lock closed it: here in the step that found the lock, or there, and the refusal was taken in the closing step
pub data ByLock (catalogue : Catalogue) (past : List Moment) (txn : TxnId) (name : List ℕ) (at : ℕ) (holder : Owner) (refused : ℕ) : Type 0 where
  here : at ≡ txn.site → ClosedIn past txn (was_blocked catalogue txn refused name at holder) → ByLock catalogue past txn name at holder refused
  there : at ≢ txn.site → ClosedIn past txn (takes_refusal txn refused at (is_held_by holder)) → Once past (was_blocked catalogue txn refused name at holder) → ByLock catalogue past txn name at holder refused

-- another view at a site closed it
pub record ByView (catalogue : Catalogue) (past : List Moment) (txn : TxnId) (at : ℕ) (held : ViewId) (now : Option ViewId) (refused : ℕ) : Type 0 where
  pub closes : ClosedIn past txn (takes_refusal txn refused at (is_other_view now))
  pub other : Once past (held_other catalogue txn refused at held now)

-- a bar of another site closed it: that site refused by the bar in one step, and the refusal was taken in the closing step
pub record ByBar (catalogue : Catalogue) (past : List Moment) (txn : TxnId) (name : List ℕ) (inside total refused : ℕ) : Type 0 where
  pub at : ℕ
  pub closes : ClosedIn past txn (takes_refusal txn refused at (is_barred_by inside total))
  pub barred : Once past (λ m. was_barred catalogue txn refused name inside total m && is_site (site_named m.before m.line.event) at)

pub data OtherView (catalogue : Catalogue) (past : List Moment) (txn : TxnId) (number at : ℕ) (held : ViewId) : Option ViewId → Type 0 where
  left : at ≡ txn.site → ClosedIn past txn (left_then at held) → OtherView catalogue past txn number at held None
  other : (now : Option ViewId) → at ≢ txn.site → is_view now held ≡ false → Refusal (refused_in past txn) number (ByView catalogue past txn at held now) → OtherView catalogue past txn number at held now

-- the answer is justified, whenever it is given; of those that name weights the one that ended its transaction
abbrev pub Fair : Catalogue → List Moment → Answer → Type 0
Fair catalogue past (answer.LockHeld txn number name at holder) = Refusal (refused_in past txn) number (ByLock catalogue past txn name at holder)
Fair catalogue past (answer.ViewChanged txn number at held now) = WasBegun past txn held × OtherView catalogue past txn number at held now
Fair catalogue past (answer.Inaccessible txn number name inside total) = Refusal (barred_in past txn) number (ByBar catalogue past txn name inside total)
Fair catalogue past a = Unit {0}

-- where the answer names a view, no operation was told under its number or a larger one
abbrev pub Untold : List Line → Answer → Type 0
Untold lines (answer.ViewChanged txn number at held now) = told_from lines txn number ≡ false
Untold lines a = Unit {0}

-- where the answer names a lock, a view or weights, the moment says the end of its transaction to a call of this number
abbrev pub TellsEnd : Moment → Answer → Type 0
TellsEnd m (answer.LockHeld txn number name at holder) = tells_end txn number m ≡ true
TellsEnd m (answer.ViewChanged txn number at held now) = tells_end txn number m ≡ true
TellsEnd m (answer.Inaccessible txn number name inside total) = tells_end txn number m ≡ true
TellsEnd m a = Unit {0}

once_more : (past more : List Moment) (test : Moment → Bool) → Once past test → Once (past ++ more) test
once_more past more test o = record { moment = o.moment; has = has_left past more o.moment o.has; passes = o.passes }

both : (a b : Bool) → a ≡ true → b ≡ true → (a && b) ≡ true
both a b p q = rw (p, q) refl

pub closes : (past : List Moment) (txn : TxnId) (test : Moment → Bool) (m : Moment) → Has past m → closed_then txn m ≡ true → test m ≡ true → ClosedIn past txn test
closes past txn test m h closed e = record { moment = m; has = h; passes = both (closed_then txn m) (test m) closed e }

pub begun_more : (past more : List Moment) (txn : TxnId) (view : ViewId) → WasBegun past txn view → WasBegun (past ++ more) txn view
begun_more past more txn view o = record { moment = o.moment; has = has_left past more o.moment o.has; told = o.told }

lock_more : (catalogue : Catalogue) (past more : List Moment) (txn : TxnId) (name : List ℕ) (at : ℕ) (holder : Owner) (refused : ℕ) → ByLock catalogue past txn name at holder refused → ByLock catalogue (past ++ more) txn name at holder refused
lock_more catalogue past more txn name at holder refused (ByLock.here e c) = ByLock.here e (once_more past more _ c)
lock_more catalogue past more txn name at holder refused (ByLock.there e c o) = ByLock.there e (once_more past more _ c) (once_more past more _ o)

view_more : (catalogue : Catalogue) (past more : List Moment) (txn : TxnId) (at : ℕ) (held : ViewId) (now : Option ViewId) (refused : ℕ) → ByView catalogue past txn at held now refused → ByView catalogue (past ++ more) txn at held now refused
view_more catalogue past more txn at held now refused b = record { closes = once_more past more _ b.closes; other = once_more past more _ b.other }

bar_more : (catalogue : Catalogue) (past more : List Moment) (txn : TxnId) (name : List ℕ) (inside total refused : ℕ) → ByBar catalogue past txn name inside total refused → ByBar catalogue (past ++ more) txn name inside total refused
bar_more catalogue past more txn name inside total refused b = record { at = b.at; closes = once_more past more _ b.closes; barred = once_more past more _ b.barred }

other_more : (catalogue : Catalogue) (past more : List Moment) (txn : TxnId) (number at : ℕ) (held : ViewId) (now : Option ViewId) → OtherView catalogue past txn number at held now → OtherView catalogue (past ++ more) txn number at held now
other_more catalogue past more txn number at held now (OtherView.left own o) = OtherView.left own (once_more past more _ o)
other_more catalogue past more txn number at held now (OtherView.other w n e o) = OtherView.other w n e (refusal_more (refused_in past txn) (refused_in (past ++ more) txn) number _ _ (refused_more txn past more) (view_more catalogue past more txn at held w) o)

pub fair_more : (catalogue : Catalogue) (past more : List Moment) (a : Answer) → Fair catalogue past a → Fair catalogue (past ++ more) a
fair_more catalogue past more (answer.LockHeld txn number name at holder) h = refusal_more (refused_in past txn) (refused_in (past ++ more) txn) number _ _ (refused_more txn past more) (lock_more catalogue past more txn name at holder) h
fair_more catalogue past more (answer.ViewChanged txn number at held now) h = (begun_more past more txn held h.0, other_more catalogue past more txn number at held now h.1)
fair_more catalogue past more (answer.Inaccessible txn number name inside total) h = refusal_more (barred_in past txn) (barred_in (past ++ more) txn) number _ _ (barred_more txn past more) (bar_more catalogue past more txn name inside total) h
fair_more catalogue past more a h = tt

any_once : (past : List Moment) (test : Moment → Bool) → Once past test → list_any test past ≡ true
any_once past test o = any_of test past o.moment o.has o.passes

pub begun_is : (past : List Moment) (txn : TxnId) (view : ViewId) → WasBegun past txn view → begun_in past txn view ≡ true
begun_is past txn view o = any_of (λ (m : Moment). list_any (is_begun txn view) (answers_in m.line)) past o.moment o.has o.told

pub eq_same : (a b : ℕ) → a ≡ b → (a == b) ≡ true
eq_same a b e = grind (arith, nat_tests, e)

pub first_of : (b p q : Bool) → b ≡ true → p ≡ true → cond b p q ≡ true
first_of b p q e h = rw e h

pub second_of : (b p q : Bool) → b ≡ false → q ≡ true → cond b p q ≡ true
second_of b p q e h = rw e h

lock_passes : (catalogue : Catalogue) (past : List Moment) (txn : TxnId) (name : List ℕ) (at : ℕ) (holder : Owner) (n : ℕ) → ByLock catalogue past txn name at holder n → closed_by_lock catalogue past txn name at holder n ≡ true
lock_passes catalogue past txn name at holder n (ByLock.here e c) = first_of (at == txn.site) _ _ (eq_same at txn.site e) (any_once past _ c)
lock_passes catalogue past txn name at holder n (ByLock.there e c o) =
    second_of (at == txn.site) _ _ (eq_not at txn.site e) (both (closed_in past txn (takes_refusal txn n at (is_held_by holder))) (list_any (was_blocked catalogue txn n name at holder) past) (any_once past _ c) (any_once past _ o))

view_passes : (catalogue : Catalogue) (past : List Moment) (txn : TxnId) (at : ℕ) (held : ViewId) (now : Option ViewId) (n : ℕ) → ByView catalogue past txn at held now n → closed_by_view catalogue past txn at held now n ≡ true
view_passes catalogue past txn at held now n b =
    both (closed_in past txn (takes_refusal txn n at (is_other_view now))) (list_any (held_other catalogue txn n at held now) past) (any_once past _ b.closes) (any_once past _ b.other)

bar_passes : (catalogue : Catalogue) (past : List Moment) (txn : TxnId) (name : List ℕ) (i t n : ℕ) → ByBar catalogue past txn name i t n → closed_by_bar catalogue past txn name i t n ≡ true
bar_passes catalogue past txn name i t n b =
    let m = b.barred.moment in
    let p = both_true (was_barred catalogue txn n name i t m) (is_site (site_named m.before m.line.event) b.at) b.barred.passes in
    any_of (λ (m : Moment). was_barred catalogue txn n name i t m && option_map_or (λ at. closed_in past txn (takes_refusal txn n at (is_barred_by i t))) (site_named m.before m.line.event) false) past m b.barred.has
    (both (was_barred catalogue txn n name i t m) _ p.0 (closed_at (site_named m.before m.line.event) p.1))
  where
    closed_at : (o : Option ℕ) → is_site o b.at ≡ true → option_map_or (λ at. closed_in past txn (takes_refusal txn n at (is_barred_by i t))) o false ≡ true
    closed_at None e = cc
    closed_at (Some at) e = subst (λ (at : ℕ). closed_in past txn (takes_refusal txn n at (is_barred_by i t)) ≡ true) (sym (eqb-true at b.at e)) (any_once past _ b.closes)

pub fair_justified : (catalogue : Catalogue) (past : List Moment) (m : Moment) (a : Answer) → Fair catalogue past a → Untold (lines_in past) a → TellsEnd m a → justified catalogue past m a ≡ true
fair_justified catalogue past m (answer.LockHeld txn number name at holder) f untold ends =
    both (tells_end txn number m) _ ends (refusal_is (refused_in past txn) number _ (closed_by_lock catalogue past txn name at holder) (lock_passes catalogue past txn name at holder) f)
fair_justified catalogue past m (answer.ViewChanged txn number at held now) f untold ends =
    both _ _ (both _ (not (told_from (lines_in past) txn number)) (both (tells_end txn number m) (begun_in past txn held) ends (begun_is past txn held f.0)) (negated (told_from (lines_in past) txn number) untold)) (go now f.1)
  where
    negated : (b : Bool) → b ≡ false → not b ≡ true
    negated b e = rw e refl

    go : (now : Option ViewId) → OtherView catalogue past txn number at held now → (if at == txn.site then not (is_some now) && closed_in past txn (left_then at held) else not (is_view now held) && refused_once past txn number (closed_by_view catalogue past txn at held now)) ≡ true
    go now (OtherView.left own o) = first_of (at == txn.site) _ _ (eq_same at txn.site own) (any_once past _ o)
    go now (OtherView.other w not_here e r) = second_of (at == txn.site) _ _ (eq_not at txn.site not_here) (both (not (is_view w held)) _ (negated (is_view w held) e) (refusal_is (refused_in past txn) number _ (closed_by_view catalogue past txn at held w) (view_passes catalogue past txn at held w) r))
fair_justified catalogue past m (answer.Inaccessible txn number name inside total) f untold ends =
    or_right _ _ (both (tells_end txn number m) _ ends (refusal_is (barred_in past txn) number _ (closed_by_bar catalogue past txn name inside total) (bar_passes catalogue past txn name inside total) f))
fair_justified catalogue past m _ f untold ends = refl
