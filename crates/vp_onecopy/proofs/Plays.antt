-- Laws of playing operations one after the other.
use Rattle.std.proofs.Common.{◌≡◌, ◌<◌, ◌+◌, ℕ, ◌∙◌, ap, sym, subst, refl, true, false, List, [], ◌∷◌, ◌++◌, length, take, drop, arith, get_or}
use Rattle.std.specs.Prelude.{⊤, Option, Some, None, Result, Ok, Err, option_and_then}
use Rattle.std.specs.Result.{IsErrAnd}
use Rattle.std.proofs.lemmas.List.{take-append-drop, drop_more, take_more, length-take-le}
use Rattle.std.proofs.lemmas.Option.{slice_get-get_or}
use Rattle.std.proofs.lemmas.Bool.{true≢false}
use Rattle.std.proofs.lemmas.Slice.Eq.{bytes_eq-Decides}
use Rattle.vp_model.specs.Types.{Op}
use Rattle.vp_model.specs.Types.op
use Rattle.vp_model.specs.Words.{same_content}
use Rattle.vp_model.specs.OneCopy.{Values, play_one, play}
use Rattle.vp_model.proofs.PlayedInParts.{play-append}
use Rattle.vp_onecopy.specs.Playing.{Misreads, Plays, PlaysOne}
use Rattle.vp_onecopy.specs.declared.playing.PlayFault.{PlayFault}
use Rattle.vp_onecopy.specs.declared.playing.PlayFault.TheVariants as faults

pub err_is : (result : Result ⊤ PlayFault) (fault : PlayFault) → IsErrAnd result (λ e. e ≡ fault) → result ≡ Err fault
err_is (Ok x) fault h = absurd h
err_is (Err e) fault h = ap Err h

content_is_self : (a : Option (List ℕ)) → same_content a a ≡ true
content_is_self None = refl
content_is_self (Some v) = (bytes_eq-Decides v v).1 refl

content_is_same : (a b : Option (List ℕ)) → a ≡ b → same_content a b ≡ true
content_is_same a b e = subst (λ (x : Option (List ℕ)). same_content a x ≡ true) e (content_is_self a)

pub misread : (m : Values) (operation : Op) (rec : ℕ) (value kept read : Option (List ℕ)) → operation ≡ op.Read rec value → rec < length m → kept ≡ get_or m rec kept
    → same_content value kept ≡ false → read ≡ value → (r : ℕ) × Misreads m operation r kept read
misread m operation rec value kept read o l is differ same = (
  rec,
  record {
    is = o ∙ ap (op.Read rec) (sym same);
    stands = slice_get-get_or m rec kept l ∙ ap Some (sym is);
    differs = λ e. true≢false (sym (content_is_same value kept (sym same ∙ sym e)) ∙ differ);
  },
)

split_at : (ops : List Op) (i : ℕ) (operation : Op) → i < length ops → operation ≡ get_or ops i operation → ops ≡ take i ops ++ operation ∷ drop (i + 1) ops
split_at ops i operation l is = sym (take-append-drop i ops) ∙ ap (λ x. take i ops ++ x) (drop_more ops i operation l ∙ ap (λ x. x ∷ drop (i + 1) ops) (sym is))

-- one more operation
pub plays_more : (before : Values) (ops : List Op) (i : ℕ) (operation : Op) (mid after : Values) → i < length ops → operation ≡ get_or ops i operation
    → play before (take i ops) ≡ Some mid → play_one mid operation ≡ Some after → play before (take (i + 1) ops) ≡ Some after
plays_more before ops i operation mid after l is so_far one =
    let parts : take (i + 1) ops ≡ take i ops ++ operation ∷ [] = take_more ops i operation l ∙ ap (λ x. take i ops ++ x ∷ []) (sym is) in
    ap (play before) parts ∙ play-append before (take i ops) (operation ∷ []) ∙ ap (option_and_then (λ n. play n (operation ∷ []))) so_far ∙ ap (option_and_then (λ n. play n [])) one

-- the operation that can't be played
pub plays_stop : (before : Values) (ops : List Op) (i : ℕ) (operation : Op) (mid after : Values) (fault : PlayFault) → i < length ops → operation ≡ get_or ops i operation
    → play before (take i ops) ≡ Some mid → after ≡ mid → PlaysOne mid (i + 1) operation after (Err fault) → Plays before ops after (Err fault)
plays_stop before ops i operation mid after (faults.Differs place kept read) l is so_far same one = (
  one.1,
  record {
    front = take i ops;
    operation = operation;
    back = drop (i + 1) ops;
    reached = record { parts = split_at ops i operation l is; played = so_far ∙ ap Some (sym same) };
    place_is = one.0 ∙ ap (λ n. n + 1) (sym (length-take-le i ops (omega arith)));
    misread = one.2;
  },
)
plays_stop before ops i operation mid after faults.NoMemory l is so_far same one = record {
  front = take i ops;
  back = drop i ops;
  reached = record { parts = sym (take-append-drop i ops); played = so_far ∙ ap Some (sym same) };
}
