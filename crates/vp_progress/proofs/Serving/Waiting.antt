-- A call that waits for other sites is done: each of them is asked, answers, and its answer is counted.
use Rattle.std.proofs.Common.{◌≡◌, ◌≢◌, ◌⊎◌, ◌∙◌, ap, sym, subst, ℕ, zero, suc, ◌≤◌, Bool, true, false, cond, List, [], ◌∷◌, length, refl, arith, ⊎_elim, inl, inr}
use Rattle.std.specs.Prelude.{not, filter, ◌==◌}
use Rattle.vp_model.specs.Types.{View, Sent, Message, Pending, Live}
use Rattle.vp_model.specs.Types.input
use Rattle.vp_model.specs.Words.{is_empty}
use Rattle.vp_model.specs.Catalogue.{Catalogue}
use Rattle.vp_model.specs.Site.{Lent, begin_step, put_back}
use Rattle.vp_model.specs.Answers.{count_in}
use Rattle.vp_model.specs.Step.{step}
use Rattle.vp_model.specs.World.{WorldState}
use Rattle.vp_laws.proofs.Lists.Members.{Has, has_first, filter_has, filter_keeps}
use Rattle.vp_laws.proofs.Lists.Changes.{empty_not}
use Rattle.vp_laws.proofs.Lists.Views.{same_site}
use Rattle.vp_laws.proofs.Lists.Numbers.{eq_self, not_same}
use Rattle.vp_laws.proofs.Moves.LocalViews.{letter}
use Rattle.vp_laws.proofs.Moves.Table.{lent_at}
use Rattle.vp_laws.proofs.Moves.Calls.{waiting}
use Rattle.vp_laws.proofs.Worlds.Scenes.{scene_of}
use Rattle.vp_laws.proofs.Invariant.Known.{Known}
use Rattle.vp_progress.proofs.Calm.{serves_since}
use Rattle.vp_progress.proofs.Can.{Can, can_now, can_then}
use Rattle.vp_progress.proofs.Acts.{Did, Since, stays_since}
use Rattle.vp_progress.proofs.Started.{Past}
use Rattle.vp_progress.proofs.Serving.Sites.{Rest, leads_first}
use Rattle.vp_progress.proofs.Serving.Leading.{waits}
use Rattle.vp_progress.proofs.Serving.Answers.{counts_last, counts_one}
use Rattle.vp_progress.proofs.Serving.Worlds.{TakesAt, Serving, Exchanged, comes, led_in, own_moves}

-- the sites that are left
abbrev pub left_of : ℕ → List ℕ → List ℕ
left_of k sites = filter (λ (j : ℕ). not (j == k)) sites

filter_length : (test : ℕ → Bool) (xs : List ℕ) → length (filter test xs) ≤ length xs
filter_length test [] = omega arith
filter_length test (x ∷ xs) = go (test x) (filter_length test xs)
  where
    go : (b : Bool) → length (filter test xs) ≤ length xs → length (cond b (x ∷ filter test xs) (filter test xs)) ≤ suc (length xs)
    go true h = omega (arith, h)
    go false h = omega (arith, h)

pub still_left : (sites : List ℕ) (k j : ℕ) → Has sites j → j ≢ k → Has (left_of k sites) j
still_left sites k j h n = filter_keeps (λ (j : ℕ). not (j == k)) sites j h (not_same j k n)

was_left : (k : ℕ) (sites : List ℕ) (j : ℕ) → Has (left_of k sites) j → Has sites j
was_left k sites j h = (filter_has (λ (j : ℕ). not (j == k)) sites j h).0

fewer_left : (k : ℕ) (sites : List ℕ) → length (left_of k (k ∷ sites)) ≤ length sites
fewer_left k sites = let self = eq_self k in rw self (filter_length (λ (j : ℕ). not (j == k)) sites)

module _ (catalogue : Catalogue) (ns : List ℕ) (v : View) (q : ℕ) (lead : Has ns q) (rest : ℕ → Rest) (among : (k : ℕ) → Has v.members k → Has ns k) (past : Past) (t : Live) (p : Pending) (ask : ℕ → Message) (Fin : WorldState → Type 0)
    (away : List ℕ → List ℕ) (waited : (sites : List ℕ) (j : ℕ) → Has (away sites) j → Has sites j) (kept : (sites : List ℕ) (k j : ℕ) → Has (away sites) j → j ≢ k → Has (away (left_of k sites)) j) where
  -- the call waits for these sites; the parts of some of them are not there yet
  abbrev pub Waits : List ℕ → WorldState → Type 0
  Waits missing w = Serving catalogue ns v q rest among past (waiting t p missing) (away missing) w

  abbrev call_of : List ℕ → Pending
  call_of missing = record p { missing = missing }

  -- each of these sites is asked
  abbrev pub Asked : List ℕ → WorldState → Type 0
  Asked missing w = (k : ℕ) → Has missing k → Since past.told w (letter q k (ask k))

  -- the site has answered: the call is done, or it waits for those that are left
  pub data Counted (missing : List ℕ) (k : ℕ) (w new : WorldState) : Type 0 where
    over : Fin new → Counted missing k w new
    more : is_empty (left_of k missing) ≡ false → Waits (left_of k missing) new → ((m : Sent) → Since past.told w m → Since past.told new m) → Counted missing k w new

  -- all parts have come
  abbrev pub AllTake : WorldState → Type 0
  AllTake w = (k : ℕ) → Has t.parts k → TakesAt t.txn k w

  take_but : (missing : List ℕ) (k : ℕ) (w : WorldState) → Waits missing w → TakesAt t.txn k w → (j : ℕ) → Has t.parts j → Has (away (left_of k missing)) j ⊎ TakesAt t.txn j w
  take_but missing k w f takes j part =
      let i = (led_in catalogue ns v q rest among past (waiting t p missing) (away missing) w f).1 j part in
      let o = f.others j i.0 i.1 in
      ⊎_elim
      (λ waits. ⊎_elim (λ (one : j ≡ k). inr (subst (λ (j : ℕ). TakesAt t.txn j w) (sym one) takes)) (λ (n : j ≢ k). inl (kept missing k j waits n)) (same_site j k))
      (λ there. inr (o.at, o.up, there))
      (o.part part)

  -- an answer is counted
  pub counts : (missing : List ℕ) (k : ℕ) (w : WorldState) (f : Waits missing w) → Has ns k → Has missing k → TakesAt t.txn k w → (answer : Message) → Since past.told w (letter k q answer) → (finish : Lent → Lent)
      → step catalogue f.at (input.Message k answer) ≡ put_back (begin_step f.at) (count_in k (waiting t p missing) (call_of missing) finish (lent_at f.at))
      → (AllTake w → (new : WorldState) → Known catalogue (scene_of new) → Did w new q f.at (put_back (begin_step f.at) (finish (lent_at f.at))) → Can catalogue (serves_since past.told q ns) new Fin)
      → Can catalogue (serves_since past.told q ns) w (Counted missing k w)
  counts missing k w f here there takes answer sent finish row ends =
      comes catalogue ns v q rest among past.told (Counted missing k w) w f.known q f.at lead f.up k answer sent here f.stand
      λ new known d. go new known d (is_empty (left_of k missing)) refl
    where
      go : (new : WorldState) → Known catalogue (scene_of new) → Did w new q f.at (step catalogue f.at (input.Message k answer)) → (b : Bool) → is_empty (left_of k missing) ≡ b → Can catalogue (serves_since past.told q ns) new (Counted missing k w)
      go new known d true e =
          let is = row ∙ ap (put_back (begin_step f.at)) (counts_last k (waiting t p missing) (call_of missing) finish (lent_at f.at) e) in
          can_then catalogue (serves_since past.told q ns) Fin (Counted missing k w) new
          (ends (λ j part. ⊎_elim (λ more. absurd (empty_not (left_of k missing) j e (waited (left_of k missing) j more))) (λ there. there) (take_but missing k w f takes j part)) new known (subst (Did w new q f.at) is d))
          (λ last fin. can_now catalogue (serves_since past.told q ns) _ last (Counted.over fin))
      go new known d false e =
          let is = row ∙ ap (put_back (begin_step f.at)) (counts_one k (waiting t p missing) (call_of missing) finish (lent_at f.at) e) in
          let now = subst (Did w new q f.at) is d in
          can_now catalogue (serves_since past.told q ns) _ new (Counted.more e
          (own_moves catalogue ns v q rest among past (waiting t p missing) (waiting t p (left_of k missing)) (away missing) (away (left_of k missing)) w new f _ known now
          (waits (rest q) (waiting t p missing) (lent_at f.at) (leads_first v (rest q) (waiting t p missing) f.at f.leads) (call_of missing) (left_of k missing))
          refl f.free (λ j h. h) (take_but missing k w f takes))
          (stays_since past.told d))

  -- what was sent before is sent
  since : (missing : List ℕ) (k : ℕ) (w mid : WorldState) → ((m : Sent) → Since past.told w m → Since past.told mid m) → (new : WorldState) → Counted missing k mid new → Counted missing k w new
  since missing k w mid on new (Counted.over fin) = Counted.over fin
  since missing k w mid on new (Counted.more e g sent) = Counted.more e g (λ m h. sent m (on m h))

  -- an answer comes, and is counted
  pub exchanged : (missing : List ℕ) (k : ℕ) (w : WorldState) (answer : Message) → Can catalogue (serves_since past.told q ns) w (Exchanged catalogue ns v q rest among past (waiting t p missing) (away missing) k answer w) → ((mid : WorldState) → Exchanged catalogue ns v q rest among past (waiting t p missing) (away missing) k answer w mid → Can catalogue (serves_since past.told q ns) mid (Counted missing k mid)) → Can catalogue (serves_since past.told q ns) w (Counted missing k w)
  exchanged missing k w answer c onward =
      can_then catalogue (serves_since past.told q ns) (Exchanged catalogue ns v q rest among past (waiting t p missing) (away missing) k answer w) (Counted missing k w) w c
      λ mid e. can_then catalogue (serves_since past.told q ns) (Counted missing k mid) (Counted missing k w) mid (onward mid e) (λ new d. can_now catalogue (serves_since past.told q ns) _ new (since missing k w mid e.sent new d))

  goes_on : (missing : List ℕ) (k : ℕ) (w new : WorldState) → Counted missing k w new → (is_empty (left_of k missing) ≡ false → Waits (left_of k missing) new → ((m : Sent) → Since past.told w m → Since past.told new m) → Can catalogue (serves_since past.told q ns) new Fin) → Can catalogue (serves_since past.told q ns) new Fin
  goes_on missing k w new (Counted.over fin) onward = can_now catalogue (serves_since past.told q ns) Fin new fin
  goes_on missing k w new (Counted.more e g sent) onward = onward e g sent

  -- one after the other
  pub waits_all : (all : List ℕ) → ((missing : List ℕ) (k : ℕ) (w : WorldState) → Has all k → Has missing k → Waits missing w → Asked missing w → Can catalogue (serves_since past.told q ns) w (Counted missing k w)) → (n : ℕ) (missing : List ℕ) (w : WorldState) → ((k : ℕ) → Has missing k → Has all k) → length missing ≤ n → is_empty missing ≡ false → Waits missing w → Asked missing w → Can catalogue (serves_since past.told q ns) w Fin
  waits_all all one n [] w sub few some f asked = cc
  waits_all all one zero (k ∷ missing) w sub few some f asked = absurd (omega (arith, few))
  waits_all all one (suc n) (k ∷ missing) w sub few some f asked =
      can_then catalogue (serves_since past.told q ns) (Counted (k ∷ missing) k w) Fin w (one (k ∷ missing) k w (sub k (has_first k missing)) (has_first k missing) f asked)
      λ new c. goes_on (k ∷ missing) k w new c
      (λ e g sent. let less = fewer_left k missing in waits_all all one n (left_of k (k ∷ missing)) new (λ j h. sub j (was_left k (k ∷ missing) j h)) (omega (arith, few, less)) e g (λ j h. sent _ (asked j (was_left k (k ∷ missing) j h))))
