-- Which replies tell that a transaction begins: one reply of a call that begins the next one, with its view.
use Rattle.std.proofs.Common.{◌≡◌, ◌≢◌, ◌∙◌, ap, sym, subst, ℕ, ◌+◌, true, List, [], ◌∷◌, ◌++◌, map, refl, ⊎_elim}
use Rattle.std.specs.Prelude.{Option, Some, None, filter_map, option_map, option_to_list}
use Rattle.vp_model.specs.Types.{TxnId, ViewId, Answer, Reply, Commit, Input, Pending, Live, Ending}
use Rattle.vp_base.specs.declared.site.Ending.TheVariants.{Committed, Aborted, LockHeld, ViewChanged, TimedOut, Inaccessible}
use Rattle.vp_model.specs.Types.answer
use Rattle.vp_model.specs.Catalogue.{Catalogue}
use Rattle.vp_model.specs.Headline.{view_begun}
use Rattle.vp_model.specs.Site.{CoordinatorState, SiteState}
use Rattle.vp_model.specs.Transactions.{answer_of, deed_answer, put_live, with_finished}
use Rattle.vp_model.specs.Calls.{begun}
use Rattle.vp_model.specs.Step.{mark, step}
use Rattle.vp_model.proofs.SameTxn.{same_txn-self, same_txn-other}
use Rattle.vp_laws.proofs.Lists.Members.{Has, has_none, has_first, has_more, has_cons, has_cases, has_one_is, map_has}
use Rattle.vp_laws.proofs.Lists.Changes.{without_first_has}
use Rattle.vp_laws.proofs.Lists.Names.{Apart, named, change_cases}
use Rattle.vp_laws.proofs.Moves.Calls.{done, waiting}
use Rattle.vp_laws.proofs.Moves.Table.{next_view, next_name}
use Rattle.vp_laws.proofs.Moves.Reasons.{Tells, Goes, is_plain, told_to, last_reply, Front}
use Rattle.vp_laws.proofs.Moves.FrontSteps.{step-front}
use Rattle.vp_laws.proofs.Table.Kept.{AnswersKept, kept_has, deed_report, is_report}

abbrev pub begun_by : Answer → Option TxnId
begun_by (answer.Begun txn view) = Some txn
begun_by _ = None

-- none of these replies tells it
abbrev pub NoneBegun : List Reply → Type 0
NoneBegun rs = (r : Reply) → Has rs r → begun_by r.answer ≡ None

-- the views that the replies tell a transaction as it begins
abbrev pub begun_among : TxnId → List Reply → List ViewId
begun_among u rs = filter_map (view_begun u) (map (λ (r : Reply). r.answer) rs)

unbegun : (u : TxnId) (a : Answer) → begun_by a ≡ None → view_begun u a ≡ None
unbegun u (answer.Begun txn view) e = absurd cc
unbegun u _ e = refl

pub none_among : (u : TxnId) (rs : List Reply) → NoneBegun rs → begun_among u rs ≡ []
none_among u [] none = refl
none_among u (r ∷ rs) none = let z = unbegun u r.answer (none r (has_first r rs)) in rw z (none_among u rs (λ q h. none q (has_more r rs q h)))

pub one_among : (txn : TxnId) (view : ViewId) (port : ℕ) (rs : List Reply) → NoneBegun rs → begun_among txn (told_to port (answer.Begun txn view) ∷ rs) ≡ view ∷ []
one_among txn view port rs none = let z = same_txn-self txn in rw z (ap (λ (vs : List ViewId). view ∷ vs) (none_among txn rs none))

pub others_among : (u txn : TxnId) (view : ViewId) (port : ℕ) (rs : List Reply) → txn ≢ u → NoneBegun rs → begun_among u (told_to port (answer.Begun txn view) ∷ rs) ≡ []
others_among u txn view port rs n none = let z = same_txn-other txn u n in rw z (none_among u rs none)

plain_none : (a : Answer) → is_plain a ≡ true → begun_by a ≡ None
plain_none (answer.Begun txn view) e = absurd cc
plain_none _ e = refl

report_none : (a : Answer) → is_report a ≡ true → begun_by a ≡ None
report_none (answer.Begun txn view) e = absurd cc
report_none _ e = refl

end_none : (txn : TxnId) (number : ℕ) (why : Ending) → begun_by (answer_of txn number why) ≡ None
end_none txn number Committed = refl
end_none txn number Aborted = refl
end_none txn number (LockHeld name at owner) = refl
end_none txn number (ViewChanged at held now) = refl
end_none txn number (TimedOut at) = refl
end_none txn number (Inaccessible name inside total) = refl

-- a step begins no transaction, or the next one
pub data Begins (x : SiteState) (c : CoordinatorState) (rs : List Reply) : Type 0 where
  none_now : c.seq ≡ x.seq → NoneBegun rs → Begins x c rs
  next_now : (port : ℕ) (view : ViewId) (more : List Reply) → c.seq ≡ x.seq + 1 → rs ≡ told_to port (answer.Begun (next_name x) view) ∷ more → NoneBegun more → Begins x c rs

-- a live transaction was there before, in its view, or begins in it
pub data LiveBegun (x : SiteState) (rs : List Reply) (t : Live) : Type 0 where
  was : (u : Live) → Has x.live u → u.txn ≡ t.txn → u.view ≡ t.view → LiveBegun x rs t
  begins : (port : ℕ) (more : List Reply) → t.txn ≡ next_name x → rs ≡ told_to port (answer.Begun (next_name x) t.view) ∷ more → NoneBegun more → LiveBegun x rs t

pub record BegunNow (x : SiteState) (c : CoordinatorState) (rs : List Reply) : Type 0 where
  pub replies : Begins x c rs
  pub live : (t : Live) → Has c.live t → LiveBegun x rs t

module _ (catalogue : Catalogue) (x : SiteState) (given : Input) (after : SiteState) (kept : AnswersKept x.coordinator) (apart : Apart x.live) where
  abbrev G : CoordinatorState → List Reply → List Commit → Type 0
  G c rs cs = BegunNow x c rs

  nothing : NoneBegun []
  nothing r h = absurd (has_none r h)

  one_reply : (port : ℕ) (a : Answer) → begun_by a ≡ None → NoneBegun (told_to port a ∷ [])
  one_reply port a none r h = subst (λ (r : Reply). begun_by r.answer ≡ None) (has_one_is (told_to port a) r h) none

  both : (rs more : List Reply) → NoneBegun rs → NoneBegun more → NoneBegun (rs ++ more)
  both rs more a b r h = ⊎_elim (λ old. a r old) (λ new. b r new) (has_cases rs more r h)

  last_none : (t : Live) (why : Ending) → NoneBegun (last_reply t why)
  last_none t why r h = go t.pending h
    where
      go : (p : Option Pending) → Has (option_to_list (option_map (λ p. told_to p.port (answer_of t.txn p.number why)) p)) r → begun_by r.answer ≡ None
      go None q = absurd (has_none r q)
      go (Some p) q = one_reply p.port (answer_of t.txn p.number why) (end_none t.txn p.number why) r q

  tells_none : (port : ℕ) (words : Answer) → Tells catalogue x given port words → begun_by words ≡ None
  tells_none _ words (Tells.plain w e port called c is) = plain_none w e
  tells_none _ _ (Tells.inaccessible t p name rec exclusive deed weights at op f a e) = refl
  tells_none _ words (Tells.again t number w h e c) = report_none w (kept.live t h w (kept_has number t.answers w e))
  tells_none _ words (Tells.finished_again f number w h e c) = ⊎_elim
      (λ report. report_none w report)
      (λ (q : (n : ℕ) × (w ≡ answer_of f.txn n f.ending)). ap begun_by q.1 ∙ end_none f.txn q.0 f.ending)
      (kept.finished f h w (kept_has number f.answers w e))
  tells_none _ words (Tells.ended f number h e c) = end_none f.txn number f.ending

  -- more replies, none of which tells it, and fewer live transactions
  replies_more : (c now : CoordinatorState) (rs more : List Reply) → now.seq ≡ c.seq → NoneBegun more → Begins x c rs → Begins x now (rs ++ more)
  replies_more c now rs more same quiet (Begins.none_now seq none) = Begins.none_now (same ∙ seq) (both rs more none quiet)
  replies_more c now rs more same quiet (Begins.next_now port view rest seq is none) = Begins.next_now port view (rest ++ more) (same ∙ seq) (ap (λ (l : List Reply). l ++ more) is) (both rest more none quiet)

  replies_same : (c now : CoordinatorState) (rs : List Reply) → now.seq ≡ c.seq → Begins x c rs → Begins x now rs
  replies_same c now rs same (Begins.none_now seq none) = Begins.none_now (same ∙ seq) none
  replies_same c now rs same (Begins.next_now port view rest seq is none) = Begins.next_now port view rest (same ∙ seq) is none

  live_more : (rs more : List Reply) (t : Live) → NoneBegun more → LiveBegun x rs t → LiveBegun x (rs ++ more) t
  live_more rs more t quiet (LiveBegun.was u h a b) = LiveBegun.was u h a b
  live_more rs more t quiet (LiveBegun.begins port rest a is none) = LiveBegun.begins port (rest ++ more) a (ap (λ (l : List Reply). l ++ more) is) (both rest more none quiet)

  goes_on : (c now : CoordinatorState) (rs more : List Reply) → now.seq ≡ c.seq → ((t : Live) → Has now.live t → Has c.live t) → NoneBegun more → BegunNow x c rs → BegunNow x now (rs ++ more)
  goes_on c now rs more same fewer quiet g = record { replies = replies_more c now rs more same quiet g.replies; live = λ t h. live_more rs more t quiet (g.live t (fewer t h)) }

  -- no transaction begins
  stays : (c : CoordinatorState) (rs : List Reply) → c.seq ≡ x.seq → ((t : Live) → Has c.live t → Has x.live t) → NoneBegun rs → BegunNow x c rs
  stays c rs same fewer quiet = record { replies = Begins.none_now same quiet; live = λ t h. LiveBegun.was t (fewer t h) refl refl }

  moves : (t u : Live) (rs : List Reply) → Has x.live t → t.txn ≡ u.txn → t.view ≡ u.view → NoneBegun rs → BegunNow x (put_live u x.coordinator) rs
  moves t u rs there named viewed quiet = record {
    replies = Begins.none_now refl quiet;
    live = λ a h. ⊎_elim
        (λ (is : a ≡ u). LiveBegun.was t there (named ∙ ap (λ (t : Live). t.txn) (sym is)) (viewed ∙ ap (λ (t : Live). t.view) (sym is)))
        (λ old. LiveBegun.was a old.0 refl refl)
        (change_cases u x.live apart a h);
  }

  goes_same : (t u : Live) (p : Pending) → Goes t p u → (t.txn ≡ u.txn) × (t.view ≡ u.view)
  goes_same t u p (Goes.reads rec q) = (refl, refl)
  goes_same t u p (Goes.writes sites) = (refl, refl)
  goes_same t u p (Goes.prepares sites) = (refl, refl)

  marked : (rs : List Reply) (t : Live) → LiveBegun x rs t → LiveBegun x rs (mark t)
  marked rs t (LiveBegun.was u h a b) = LiveBegun.was u h a b
  marked rs t (LiveBegun.begins port rest a is none) = LiveBegun.begins port rest a is none

  front : Front catalogue x given after G
  front = record {
    begin = λ port view held c.
        let t = begun (next_name x) view.id in
        record {
          replies = Begins.next_now port view.id [] refl refl nothing;
          live = λ a h. ⊎_elim
              (λ old. LiveBegun.was a old refl refl)
              (λ (new : Has (t ∷ []) a). subst (LiveBegun x (told_to port (answer.Begun (next_name x) view.id) ∷ [])) (has_one_is t a new) (LiveBegun.begins port [] refl refl nothing))
              (has_cases x.live (t ∷ []) a h);
        };
    tells = λ words port t. stays x.coordinator (told_to port words ∷ []) refl (λ a h. h) (one_reply port words (tells_none port words t));
    complete = λ t p deed l h d z. moves t (done t p deed) (told_to p.port (deed_answer t.txn p.number deed) ∷ []) h refl refl (one_reply p.port (deed_answer t.txn p.number deed) (report_none (deed_answer t.txn p.number deed) (deed_report t.txn p.number deed)));
    goes = λ t u p at g. moves t u [] at.live (goes_same t u p g).0 (goes_same t u p g).1 nothing;
    still = λ t p sites a. moves t (waiting t p sites) [] a.live refl refl nothing;
    decide = λ t c n d w v f s. stays (with_finished t Committed c) (last_reply t Committed) s (λ a h. rw (← v) (without_first_has (named t.txn) c.live a h)) (last_none t Committed);
    close = λ t why c rs n w g. goes_on c (with_finished t why c) rs (last_reply t why) refl (λ a h. without_first_has (named t.txn) c.live a h) (last_none t why) g;
    marks = λ c rs g. record {
      replies = replies_same c (record c { live = map mark c.live }) rs refl g.replies;
      live = λ a h. let r = map_has mark c.live a h in subst (LiveBegun x rs) r.2 (marked rs r.0 (g.live r.0 r.1));
    };
    acknowledge = λ txn from. stays _ [] refl (λ a h. h) nothing;
    inviting = λ c rs port is g. goes_on c c rs (told_to port (answer.Inviting (next_view x)) ∷ []) refl (λ a h. h) (one_reply port (answer.Inviting (next_view x)) refl) g;
  }

pub begun-step : (catalogue : Catalogue) (x : SiteState) (given : Input) → AnswersKept x.coordinator → Apart x.live → let o = step catalogue x given in BegunNow x o.site.coordinator o.effects.replies
begun-step catalogue x given kept apart =
    step-front catalogue x given (λ c rs cs. BegunNow x c rs) (front catalogue x given (step catalogue x given).site kept apart) (stays catalogue x given (step catalogue x given).site kept apart x.coordinator [] refl (λ t h. h) (λ r h. absurd (has_none r h)))

-- a reply tells it of the next name alone
pub begins_next : (x : SiteState) (c : CoordinatorState) (rs : List Reply) → Begins x c rs → (r : Reply) (txn : TxnId) → Has rs r → begun_by r.answer ≡ Some txn → next_name x ≡ txn
begins_next x c rs (Begins.none_now same none) r txn h b = absurd (let z = none r h in cc)
begins_next x c rs (Begins.next_now port view more same is none) r txn h b = ⊎_elim
    (λ (one : told_to port (answer.Begun (next_name x) view) ≡ r). let z = ap (λ (r : Reply). begun_by r.answer) one ∙ b in cc)
    (λ later. absurd (let z = none r later in cc))
    (has_cons (told_to port (answer.Begun (next_name x) view)) more r (subst (λ (l : List Reply). Has l r) is h))
