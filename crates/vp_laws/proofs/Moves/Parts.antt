-- What a site keeps of parts and doubts where one is found, or a part is inserted.
use Rattle.std.proofs.Common.{◌≡◌, ◌⊎◌, Bool, true, false, cond, List, arith, inr}
use Rattle.std.specs.Prelude.{Some, ◌||◌}
use Rattle.vp_model.specs.Types.{ViewId, TxnId, Part}
use Rattle.vp_model.specs.Words.{same_txn, txn_before}
use Rattle.vp_model.specs.Site.{ParticipantState}
use Rattle.vp_model.specs.Views.{part_of, has_part, has_doubt}
use Rattle.vp_model.specs.Messages.{put_part, with_part}
use Rattle.vp_laws.proofs.Lists.Members.{Has, find_has}
use Rattle.vp_laws.proofs.Lists.Changes.{put_has}

pub part_there : (txn : TxnId) (parts : List Part) (part : Part) → part_of txn parts ≡ Some part → Has parts part
part_there txn parts part e = find_has (λ (p : Part). same_txn p.txn txn) parts part e

-- a part that is there is a new one, or was there
pub with_part_has : (p : ParticipantState) (txn : TxnId) (view : ViewId) (a : Part) → Has (with_part txn view p).parts a → (a ≡ record { txn = txn; view = view; voted = false }) ⊎ Has p.parts a
with_part_has p txn view a h = go (has_part txn p.parts || has_doubt txn p.doubts) h
  where
    go : (b : Bool) → Has (cond b p (record p { parts = put_part (record { txn = txn; view = view; voted = false }) p.parts })).parts a → (a ≡ record { txn = txn; view = view; voted = false }) ⊎ Has p.parts a
    go true q = inr q
    go false q = put_has (λ (a : Part) (b : Part). same_txn a.txn b.txn) (λ (a : Part) (b : Part). txn_before a.txn b.txn) (record { txn = txn; view = view; voted = false }) p.parts a q

pub with_part_doubts : (p : ParticipantState) (txn : TxnId) (view : ViewId) → (with_part txn view p).doubts ≡ p.doubts
with_part_doubts p txn view = grind arith

pub with_part_ended : (p : ParticipantState) (txn : TxnId) (view : ViewId) → (with_part txn view p).ended ≡ p.ended
with_part_ended p txn view = grind arith
