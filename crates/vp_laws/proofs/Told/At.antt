-- What the lines so far report, in the world after them: of each live transaction its operations and its pending call; of each
-- entry its operations; of a name that was never given, nothing; and each answer that a site keeps was reported.
use Rattle.std.proofs.Common.{◌≡◌, ◌∙◌, ap, subst, ℕ, Bool, true, false, List, [], ◌∷◌, refl, length}
use Rattle.std.specs.Prelude.{Option, Some, None, is_some, ◌==◌, ◌&&◌, not}
use Rattle.std.specs.Option.{option_map_or}
use Rattle.std.specs.List.{list_any, cons_option}
use Rattle.std.proofs.lemmas.Bool.{eqb-true}
use Rattle.vp_model.specs.Types.{TxnId, Call, Answer, Reply, Commit, Event, Input, Line, Live}
use Rattle.vp_model.specs.Types.call
use Rattle.vp_model.specs.Types.event
use Rattle.vp_model.specs.Types.input
use Rattle.vp_model.specs.Words.{same_txn, first, value_at, for_each}
use Rattle.vp_model.specs.Catalogue.{Catalogue}
use Rattle.vp_model.specs.Site.{SiteState}
use Rattle.vp_model.specs.Refresh.{other_holders}
use Rattle.vp_model.specs.World.{WorldState}
use Rattle.vp_model.specs.Told.{answers_in, is_step, call_in, reported, put_first, is_early_refusal, is_call, takes}
use Rattle.vp_laws.proofs.Table.ToldLines.{Report, IsReported, Tells, IsUnheard}
use Rattle.vp_laws.proofs.Lists.Members.{Has, has_none, has_first, has_more, both_true, any_false}
use Rattle.vp_model.proofs.SameTxn.{same_txn-is}
use Rattle.vp_laws.proofs.Worlds.Scenes.{Scene, plain_at}
use Rattle.vp_laws.proofs.Keeping.Holders.{holder_elsewhere}
use Rattle.vp_laws.proofs.Invariant.Names.{UsedTxn}
use Rattle.vp_laws.proofs.Table.Calls.{IsCallOf, HasHolders}
use Rattle.vp_laws.proofs.Table.Told.{IsKept, told_of}
use Rattle.vp_laws.proofs.Table.ToldCalls.{TellsCall}
use Rattle.vp_laws.proofs.Worlds.Occurs.{Gives}
use Rattle.vp_laws.proofs.Invariant.Known.{Known}

pub record ToldAt (catalogue : Catalogue) (w : Scene) (lines : List Line) : Type 0 where
  -- all that is known of sites and messages
  pub known : Known catalogue w
  -- the lines tell each live transaction's operations, and the call that is pending
  pub live : (s : ℕ) (x : SiteState) (t : Live) → plain_at w s ≡ Some x → Has x.live t → TellsCall catalogue lines t.txn (length t.answers) t.pending t.ops
  -- and each entry's operations
  pub entries : (e : Commit) → Has w.journal e → Tells catalogue lines e.txn e.ops
  -- of a transaction whose name was not used they tell nothing
  pub fresh : (u : TxnId) → (UsedTxn w u → ⊥) → IsUnheard lines u
  -- an answer that a site keeps was reported
  pub kept : (s : ℕ) (x : SiteState) (a : Answer) → plain_at w s ≡ Some x → IsKept x a → IsReported lines a

-- replies that were given before change no reports
pub same_reports : (u : TxnId) (rs : List Reply) (before : List Report) → ((r : Reply) → Has rs r → (v : Report) → reported u r.answer ≡ Some v → is_some (value_at v.0 before) ≡ true) → for_each (told_of u rs) put_first before ≡ before
same_reports u [] before h = refl
same_reports u (r ∷ rs) before h = go (reported u r.answer) refl (same_reports u rs before (λ q k. h q (has_more r rs q k)))
  where
    put_known : (v : Report) → is_some (value_at v.0 before) ≡ true → put_first v before ≡ before
    put_known v e = rw e refl

    go : (o : Option Report) → reported u r.answer ≡ o → for_each (told_of u rs) put_first before ≡ before → for_each (cons_option o (told_of u rs)) put_first before ≡ before
    go None e rest = rest
    go (Some v) e rest = ap (λ (b : List Report). for_each (told_of u rs) put_first b) (put_known v (h r (has_first r rs) v e)) ∙ rest

-- what a line that takes a number is
pub record IsTaking (u : TxnId) (k : ℕ) (l : Line) : Type 0 where
  pub words : Call
  pub call : call_in l.event ≡ Some words
  pub own : is_call u k words ≡ true
  pub late : (a : Answer) → Has (answers_in l) a → is_early_refusal a ≡ false

pub taking : (u : TxnId) (k : ℕ) (l : Line) → takes u k l ≡ true → IsTaking u k l
taking u k l e = go (call_in l.event) refl e
  where
    parts : (a b c : Bool) → (a && b && not c) ≡ true → (a ≡ true) × (c ≡ false)
    parts true true true e = cc
    parts true true false e = (refl, refl)
    parts true false c e = cc
    parts false b c e = cc

    go : (o : Option Call) → call_in l.event ≡ o → (option_map_or (is_call u k) o false && is_step l.shown && not (list_any is_early_refusal (answers_in l))) ≡ true → IsTaking u k l
    go None c q = let z = (parts false (is_step l.shown) (list_any is_early_refusal (answers_in l)) q).0 in cc
    go (Some words) c q = let p = parts (is_call u k words) (is_step l.shown) (list_any is_early_refusal (answers_in l)) q in record { words = words; call = c; own = p.0; late = any_false is_early_refusal (answers_in l) p.1 }

-- a call that is not refused early takes its number
none_early : (answers : List Answer) → ((a : Answer) → Has answers a → is_early_refusal a ≡ false) → list_any is_early_refusal answers ≡ false
none_early [] h = refl
none_early (a ∷ answers) h = rw (h a (has_first a answers)) (none_early answers (λ b k. h b (has_more a answers b k)))

pub takes_now : (u : TxnId) (k : ℕ) (l : Line) (words : Call) → call_in l.event ≡ Some words → is_call u k words ≡ true → is_step l.shown ≡ true → ((a : Answer) → Has (answers_in l) a → is_early_refusal a ≡ false) → takes u k l ≡ true
takes_now u k l words call own stepped late =
    ap (λ (o : Option Call). option_map_or (is_call u k) o false && is_step l.shown && not (list_any is_early_refusal (answers_in l))) call
    ∙ ap (λ (b : Bool). b && is_step l.shown && not (list_any is_early_refusal (answers_in l))) own
    ∙ ap (λ (b : Bool). true && b && not (list_any is_early_refusal (answers_in l))) stepped
    ∙ ap (λ (b : Bool). true && true && not b) (none_early (answers_in l) late)

-- a line that shows no step takes no number
pub unstepped : (u : TxnId) (k : ℕ) (l : Line) → is_step l.shown ≡ false → takes u k l ≡ false
unstepped u k l e = go (option_map_or (is_call u k) (call_in l.event) false) (is_step l.shown) (not (list_any is_early_refusal (answers_in l))) e
  where
    go : (a b c : Bool) → b ≡ false → (a && b && c) ≡ false
    go true b c e = rw e refl
    go false b c e = refl

called : (u t : TxnId) (k n : ℕ) → (same_txn t u && (n == k)) ≡ true → ◌≡◌ {A = TxnId × ℕ} (u, k) (t, n)
called u t k n e = let p = both_true (same_txn t u) (n == k) e in rw (same_txn-is t u p.0, eqb-true n k p.1) refl

pub call_of : (u : TxnId) (k : ℕ) (words : Call) → is_call u k words ≡ true → IsCallOf u k words
call_of u k (call.Read t n name) e = subst (λ (p : TxnId × ℕ). IsCallOf u k (call.Read p.0 p.1 name)) (called u t k n e) (IsCallOf.of_read name)
call_of u k (call.Write t n name value) e = subst (λ (p : TxnId × ℕ). IsCallOf u k (call.Write p.0 p.1 name value)) (called u t k n e) (IsCallOf.of_write name value)
call_of u k (call.Delete t n name) e = subst (λ (p : TxnId × ℕ). IsCallOf u k (call.Delete p.0 p.1 name)) (called u t k n e) (IsCallOf.of_delete name)
call_of u k (call.Weigh t n name table) e = subst (λ (p : TxnId × ℕ). IsCallOf u k (call.Weigh p.0 p.1 name table)) (called u t k n e) (IsCallOf.of_weigh name table)
call_of u k (call.Commit t n) e = subst (λ (p : TxnId × ℕ). IsCallOf u k (call.Commit p.0 p.1)) (called u t k n e) IsCallOf.of_commit
call_of u k (call.Abort t n) e = subst (λ (p : TxnId × ℕ). IsCallOf u k (call.Abort p.0 p.1)) (called u t k n e) IsCallOf.of_abort
call_of u k call.Begin e = cc
call_of u k call.Regroup e = cc

-- the call of an event, and the input that it gives
pub gives_call : (e : Event) (w : WorldState) (s : ℕ) (given : Input) (port : ℕ) (words : Call) → Gives e w s given → given ≡ input.Call port words → e ≡ event.Call s words
gives_call e w s given port words (Gives.called said is) c = let same : said ≡ words = cc in is ∙ ap (event.Call s) same
gives_call e w s given port words (Gives.came k m is at to) c = cc
gives_call e w s given port words (Gives.ticked is) c = cc
gives_call e w s given port words (Gives.probed is) c = cc

pub call_gives : (e : Event) (w : WorldState) (s : ℕ) (given : Input) (words : Call) → Gives e w s given → call_in e ≡ Some words → given ≡ input.Call 0 words
call_gives e w s given words (Gives.called said is) c = let same : said ≡ words = (let z = ap call_in is in cc) in ap (input.Call 0) same
call_gives e w s given words (Gives.came k m is at to) c = let z = ap call_in is in cc
call_gives e w s given words (Gives.ticked is) c = let z = ap call_in is in cc
call_gives e w s given words (Gives.probed is) c = let z = ap call_in is in cc

first_of_some : (xs : List ℕ) (q : ℕ) → Has xs q → (n : ℕ) × (first xs ≡ Some n)
first_of_some [] q h = absurd (has_none q h)
first_of_some (x ∷ xs) q h = (x, refl)

-- a record that may be used has a holder among the members
pub has_holders : (catalogue : Catalogue) (w : Scene) (s : ℕ) (x : SiteState) → plain_at w s ≡ Some x → Known catalogue w → HasHolders catalogue x
has_holders catalogue w s x up k rec deed enough none = let q = holder_elsewhere catalogue w s x up k rec deed enough none in first_of_some (other_holders catalogue x rec) q.0 q.1
