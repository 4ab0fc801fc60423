-- Laws of playing transactions one after the other.
use Rattle.std.proofs.Common.{◌≡◌, ◌<◌, ◌+◌, ◌-◌, ℕ, ◌∙◌, ap, sym, true, false, List, [], ◌∷◌, ◌++◌, length, take, drop, refl, arith, get_or, subst}
use Rattle.std.specs.Prelude.{Option, Some, None, Result, Ok, Err, IfOk, option_and_then}
use Rattle.std.proofs.lemmas.List.{take-append-drop, drop_more, take_more}
use Rattle.std.proofs.lemmas.Bool.{false≢true, false_from_ne_true}
use Rattle.std.proofs.lemmas.Slice.Eq.{bytes_eq-Decides}
use Rattle.vp_model.specs.Types.{TxnId, Op, Commit}
use Rattle.vp_model.specs.Words.{same_content}
use Rattle.vp_model.specs.OneCopy.{Values, play_one, play, serial}
use Rattle.vp_onecopy.specs.Playing.{op_record, Misreads, IsFirstMisread, Plays}
use Rattle.vp_onecopy.specs.Checking.{IsFirstDifference, Decides, Tells}
use Rattle.vp_base.specs.declared.memory.NoMemory.{NoMemory}
use Rattle.vp_onecopy.specs.declared.playing.PlayFault.{PlayFault}
use Rattle.vp_onecopy.specs.declared.playing.PlayFault.TheVariants as faults
use Rattle.vp_onecopy.specs.declared.checking.Verdict.{Verdict}
use Rattle.vp_model.proofs.PlayedInParts.{play-append, serial-append}

split_at : (list : List Commit) (i : ℕ) (commit : Commit) → i < length list → commit ≡ get_or list i commit → list ≡ take i list ++ commit ∷ drop (i + 1) list
split_at list i commit l is = sym (take-append-drop i list) ∙ ap (λ x. take i list ++ x) (drop_more list i commit l ∙ ap (λ x. x ∷ drop (i + 1) list) (sym is))

-- one more transaction
pub serial_more : (start : Values) (list : List Commit) (i : ℕ) (commit : Commit) (mid after : Values) → i < length list → commit ≡ get_or list i commit
    → serial start (take i list) ≡ Some mid → play mid commit.ops ≡ Some after → serial start (take (i + 1) list) ≡ Some after
serial_more start list i commit mid after l is so_far one =
    let parts : take (i + 1) list ≡ take i list ++ commit ∷ [] = take_more list i commit l ∙ ap (λ x. take i list ++ x ∷ []) (sym is) in
    ap (serial start) parts ∙ serial-append start (take i list) (commit ∷ []) ∙ ap (option_and_then (λ n. serial n (commit ∷ []))) so_far ∙ ap (option_and_then (λ n. serial n [])) one

-- a list with a read of another value can't be played

content_is : (a b : Option (List ℕ)) → same_content a b ≡ true → a ≡ b
content_is None None e = refl
content_is None (Some b) e = absurd (false≢true e)
content_is (Some a) None e = absurd (false≢true e)
content_is (Some a) (Some b) e = ap Some ((bytes_eq-Decides a b).0 e)

fails : (m : Values) (operation : Op) (rec : ℕ) (kept read : Option (List ℕ)) → Misreads m operation rec kept read → play_one m operation ≡ None
fails m operation rec kept read h =
    let differ : same_content read kept ≡ false = false_from_ne_true (same_content read kept) (λ e. h.differs (sym (content_is read kept e))) in
    rw (h.is, h.stands, differ) refl

play_none : (before : Values) (ops : List Op) (after : Values) (place rec : ℕ) (kept read : Option (List ℕ)) → IsFirstMisread before ops after place rec kept read → play before ops ≡ None
play_none before ops after place rec kept read h =
    ap (play before) h.reached.parts ∙ play-append before h.front (h.operation ∷ h.back) ∙ ap (option_and_then (λ n. play n (h.operation ∷ h.back))) h.reached.played
    ∙ ap (option_and_then (λ n. play n h.back)) (fails after h.operation rec kept read h.misread)

first_difference : (start : Values) (list : List Commit) (i : ℕ) (commit : Commit) (mid after : Values) (txn : TxnId) (place rec : ℕ) (kept read : Option (List ℕ)) → i < length list → commit ≡ get_or list i commit
    → serial start (take i list) ≡ Some mid → commit.txn ≡ txn → IsFirstMisread mid commit.ops after place rec kept read → IsFirstDifference start list txn place rec kept read
first_difference start list i commit mid after txn place rec kept read l is so_far same h = record {
  front = take i list;
  commit = commit;
  back = drop (i + 1) list;
  parts = split_at list i commit l is;
  txn_is = same;
  before = mid;
  played = so_far;
  after = after;
  misread = h;
  not_serial =
      ap (serial start) (split_at list i commit l is) ∙ serial-append start (take i list) (commit ∷ drop (i + 1) list) ∙ ap (option_and_then (λ n. serial n (commit ∷ drop (i + 1) list))) so_far
      ∙ ap (option_and_then (λ n. serial n (drop (i + 1) list))) (play_none mid commit.ops after place rec kept read h);
}

-- the place of the read

at_length : (front : List Op) (x : Op) (back : List Op) (d : Op) → get_or (front ++ x ∷ back) (length front) d ≡ x
at_length [] x back d = refl
at_length (y ∷ front) x back d = at_length front x back d

record_there : (before : Values) (ops : List Op) (after : Values) (place rec : ℕ) (kept read : Option (List ℕ)) → IsFirstMisread before ops after place rec kept read
    → (x : Op) → x ≡ get_or ops (place - 1) x → rec ≡ op_record x
record_there before ops after place rec kept read h x is =
    let here : place - 1 ≡ length h.front = omega (arith, h.place_is) in
    let same : x ≡ h.operation = is ∙ ap (λ n. get_or ops n x) here ∙ ap (λ (l : List Op). get_or l (length h.front) x) h.reached.parts ∙ at_length h.front h.operation h.back x in
    sym (ap op_record (same ∙ h.misread.is))

-- a transaction that can't be played
pub decided : (start : Values) (list : List Commit) (i : ℕ) (commit : Commit) (mid after : Values) (fault : PlayFault) (result : Result Verdict NoMemory) → i < length list → commit ≡ get_or list i commit
    → serial start (take i list) ≡ Some mid → Plays mid commit.ops after (Err fault) → IfOk result (Tells commit fault) → IfOk result (Decides start list)
decided start list i commit mid after fault (Err e) l is so_far h told = tt
decided start list i commit mid after (faults.Differs place kept read) (Ok verdict) l is so_far (rec, h) (x, at, same) =
    let there : IsFirstMisread mid commit.ops after place (op_record x) kept read =
    subst (λ (r : ℕ). IsFirstMisread mid commit.ops after place r kept read) (record_there mid commit.ops after place rec kept read h x at) h in
    subst (Decides start list) (sym same) (first_difference start list i commit mid after commit.txn place (op_record x) kept read l is so_far refl there)
decided start list i commit mid after faults.NoMemory (Ok verdict) l is so_far h told = absurd told
