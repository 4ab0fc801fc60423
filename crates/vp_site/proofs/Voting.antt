-- The vote of a part is as the row of the definitions says.
use Rattle.std.proofs.Common.{◌≡◌, ℕ, Bool, true, false, List, [], ◌∷◌, refl, sym, ap, ◌∙◌}
use Rattle.std.specs.Prelude.{Option, Some, None, not, if◌then◌else◌}
use Rattle.std.specs.Option.{option_map_or}
use Rattle.vp_model.specs.Types.{ViewId, TxnId, Change, Part}
use Rattle.vp_model.specs.Types.log_record
use Rattle.vp_model.specs.Types.message
use Rattle.vp_model.specs.Words.{◌|>◌, for_some, is_view, same_txn, has_txn, is_empty}
use Rattle.vp_model.specs.Site.{ParticipantState, Stepped, send, force, change_participant}
use Rattle.vp_model.specs.Views.{part_of, has_doubt}
use Rattle.vp_model.specs.Messages.{holds_view, has_all_locks, with_vote, with_new_doubt, vote, first_vote, on_prepare}
use Rattle.vp_model.proofs.SameTxn.{same_txn-is}
use Rattle.vp_participant.specs.Ballots.{ballot, ballot_of, first_ballot}
use Rattle.vp_participant.specs.Refusals.{id_of, vote_refusal}
use Rattle.vp_participant.specs.declared.participant.Voted.{Voted}
use Rattle.vp_participant.specs.declared.participant.Voted.TheVariants as voted
use Rattle.vp_participant.specs.declared.fault.PrepareFault.TheVariants as vote_fault
use Rattle.vp_site.specs.Ballots.{with_ballot, cast}

-- a part is found under its transaction
part_is : (txn : TxnId) (parts : List Part) (part : Part) → part_of txn parts ≡ Some part → part.txn ≡ txn
part_is txn [] part e = cc
part_is txn (first ∷ parts) part e = go (same_txn first.txn txn) refl e (part_is txn parts part)
  where
    go : (b : Bool) → same_txn first.txn txn ≡ b → (if b then Some first else part_of txn parts) ≡ Some part → (part_of txn parts ≡ Some part → part.txn ≡ txn) → part.txn ≡ txn
    go true is q rest = let z = same_txn-is first.txn txn is in cc
    go false is q rest = rest q

module _ (from : ℕ) (view : ViewId) (number : ℕ) (reads : List ℕ) (writes : List (ℕ × Change)) (o : Stepped) where
  first_cast : (part : Part) → first_vote part reads writes from o ≡ cast part.txn from (first_ballot part reads writes o.site.locks o.site.participant) o
  unfolding first_vote first_ballot
  first_cast part = go (has_all_locks o.site.locks part.txn reads writes) (is_empty writes)
    where
      go : (all none : Bool) → (if not all then o else (if none then o |> change_participant (with_vote part) |> send (message.Vote part.txn) from else o |> change_participant (with_new_doubt part writes) |> force (log_record.Yes part.txn part.view writes) |> send (message.Vote part.txn) from)) ≡ cast part.txn from (if not all then (voted.Silent, o.site.participant) else (if none then (voted.Yes None, with_vote part o.site.participant) else (voted.Yes (Some (log_record.Yes part.txn part.view writes)), with_new_doubt part writes o.site.participant))) o
      go false none = refl
      go true true = refl
      go true false = refl

  vote_cast : (part : Part) → vote reads writes from part o ≡ cast part.txn from (ballot_of part reads writes o.site.locks o.site.participant) o
  vote_cast part = go part.voted
    where
      go : (b : Bool) → (if b then send (message.Vote part.txn) from o else first_vote part reads writes from o) ≡ cast part.txn from (if b then (voted.Yes None, o.site.participant) else first_ballot part reads writes o.site.locks o.site.participant) o
      go true = refl
      go false = first_cast part

  pub prepare_cast : (txn : TxnId) → holds_view o.site view ≡ true → has_txn o.site.ended txn ≡ false → on_prepare from txn view number reads writes o ≡ cast txn from (ballot txn reads writes o.site.locks o.site.participant) o
  unfolding on_prepare ballot
  prepare_cast txn holds lives = rw (holds, lives) (go (has_doubt txn o.site.doubts) (part_of txn o.site.parts) (part_is txn o.site.parts))
    where
      go : (d : Bool) (p : Option Part) → ((part : Part) → p ≡ Some part → part.txn ≡ txn) → (if d then send (message.Vote txn) from o else o |> for_some p (vote reads writes from)) ≡ cast txn from (if d then (voted.Yes None, o.site.participant) else option_map_or (λ part. ballot_of part reads writes o.site.locks o.site.participant) p (voted.Silent, o.site.participant)) o
      go true p is = refl
      go false None is = refl
      go false (Some part) is = vote_cast part ∙ ap (λ t. cast t from (ballot_of part reads writes o.site.locks o.site.participant) o) (is part refl)

  -- the same for a vote that was not refused
  pub prepare_row : (txn : TxnId) (v : Voted) (p : ParticipantState) → None ≡ vote_refusal o.site.held txn view o.site.participant → (v, p) ≡ ballot txn reads writes o.site.locks o.site.participant → with_ballot txn from v (change_participant (λ q. p) o) ≡ on_prepare from txn view number reads writes o
  prepare_row txn v p none e =
      let h = admitted (is_view (id_of o.site.held) view) (has_txn o.site.ended txn) none in
      ap (λ (b : Voted × ParticipantState). cast txn from b o) e ∙ sym (prepare_cast txn h.0 h.1)
    where
      admitted : (a b : Bool) → None ≡ (if not a then Some (vote_fault.OtherView (id_of o.site.held)) else (if b then Some vote_fault.Ended else None)) → (a ≡ true) × (b ≡ false)
      admitted false b q = cc
      admitted true true q = cc
      admitted true false q = (refl, refl)
