-- Answers come to the site of the transaction, whose call waits for them: which row each takes.
use Rattle.std.proofs.Common.{◌≡◌, ◌∙◌, ap, ℕ, true, false, List, [], ◌∷◌, refl}
use Rattle.std.specs.Prelude.{Option, Some}
use Rattle.vp_model.specs.Types.{TxnId, Pending, Live}
use Rattle.vp_model.specs.Types.call
use Rattle.vp_model.specs.Types.input
use Rattle.vp_model.specs.Types.message
use Rattle.vp_model.specs.Words.{has, is_empty}
use Rattle.vp_model.specs.Catalogue.{Catalogue, find_record}
use Rattle.vp_model.specs.Site.{SiteState, Lent, begin_step, put_back}
use Rattle.vp_model.specs.Transactions.{Deed, complete, decide, wait_for}
use Rattle.vp_model.specs.Calls.{answer_read, change_asked}
use Rattle.vp_model.specs.Answers.{with_missing, count_in, read_answered, on_read_answer, write_answered, on_write_answer, voted, on_vote, on_answer}
use Rattle.vp_model.specs.Messages.{on_message}
use Rattle.vp_model.specs.Step.{on_input, step}
use Rattle.vp_model.proofs.SameTxn.{same_txn-self}
use Rattle.vp_laws.proofs.Lists.Numbers.{eq_self}
use Rattle.vp_laws.proofs.Moves.Table.{lent_at, remaining}

-- the last answer does the call, and another one leaves fewer sites missing
pub counts_last : (from : ℕ) (t : Live) (p : Pending) (finish : Lent → Lent) (l : Lent) → is_empty (remaining from p) ≡ true → count_in from t p finish l ≡ finish l
counts_last from t p finish l e = rw e refl

pub counts_one : (from : ℕ) (t : Live) (p : Pending) (finish : Lent → Lent) (l : Lent) → is_empty (remaining from p) ≡ false → count_in from t p finish l ≡ wait_for t p (remaining from p) l
counts_one from t p finish l e = rw e refl

module _ (catalogue : Catalogue) (from : ℕ) (t : Live) (p : Pending) (waits : t.pending ≡ Some p) (missing : has p.missing from ≡ true) where
  missing_is : (l : Lent) (f : Live → Pending → Lent → Lent) → l.live ≡ t ∷ [] → with_missing t.txn from f l ≡ f t p l
  unfolding with_missing
  missing_is l f live = rw (live, same_txn-self t.txn, waits, missing) refl

  read_is : (l : Lent) (txn : TxnId) (number : ℕ) (name : List ℕ) (value : Option (List ℕ)) (rec : ℕ) → l.live ≡ t ∷ [] → p.call ≡ call.Read txn number name → find_record catalogue name ≡ Some rec → on_read_answer catalogue from t.txn p.number value l ≡ count_in from t p (answer_read t p rec value) l
  unfolding on_read_answer
  read_is l txn number name value rec live words found = missing_is l (λ t q. read_answered catalogue from p.number value t q q.call) live ∙ rw (words, eq_self p.number, found) refl

  change_is : (l : Lent) (deed : Deed) → l.live ≡ t ∷ [] → change_asked catalogue p.call ≡ Some deed → on_write_answer catalogue from t.txn p.number l ≡ count_in from t p (complete t p deed) l
  unfolding on_write_answer
  change_is l deed live asked = missing_is l (write_answered catalogue from p.number) live ∙ rw (eq_self p.number, asked) refl

  vote_is : (id : ℕ) (l : Lent) (txn : TxnId) (number : ℕ) → l.live ≡ t ∷ [] → p.call ≡ call.Commit txn number → on_vote catalogue id from t.txn l ≡ count_in from t p (decide catalogue id t) l
  unfolding on_vote
  vote_is id l txn number live words = missing_is l (λ t q. voted catalogue id from t q q.call) live ∙ rw words refl

  -- ---- the steps

  pub reads_answered : (x : SiteState) (txn : TxnId) (number : ℕ) (name : List ℕ) (value : Option (List ℕ)) (rec : ℕ) → x.live ≡ t ∷ [] → p.call ≡ call.Read txn number name → find_record catalogue name ≡ Some rec → step catalogue x (input.Message from (message.ReadAnswer t.txn p.number value)) ≡ put_back (begin_step x) (count_in from t p (answer_read t p rec value) (lent_at x))
  unfolding step on_input on_message on_answer
  reads_answered x txn number name value rec live words found = ap (put_back (begin_step x)) (read_is (lent_at x) txn number name value rec live words found)

  pub changes_answered : (x : SiteState) (deed : Deed) → x.live ≡ t ∷ [] → change_asked catalogue p.call ≡ Some deed → step catalogue x (input.Message from (message.WriteAnswer t.txn p.number)) ≡ put_back (begin_step x) (count_in from t p (complete t p deed) (lent_at x))
  unfolding step on_input on_message on_answer
  changes_answered x deed live asked = ap (put_back (begin_step x)) (change_is (lent_at x) deed live asked)

  pub votes_counted : (x : SiteState) (txn : TxnId) (number : ℕ) → x.live ≡ t ∷ [] → p.call ≡ call.Commit txn number → step catalogue x (input.Message from (message.Vote t.txn)) ≡ put_back (begin_step x) (count_in from t p (decide catalogue x.id t) (lent_at x))
  unfolding step on_input on_message on_answer
  votes_counted x txn number live words = ap (put_back (begin_step x)) (vote_is x.id (lent_at x) txn number live words)
