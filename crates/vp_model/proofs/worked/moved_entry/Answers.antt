use Rattle.vp_model.proofs.Computed.MovedEntry.{movedentry-journal, movedentry-serial, movedentry-told, movedentry-held, movedentry-another}
use Rattle.vp_model.proofs.worked.moved_entry.Goals as goal

pub returns-clause-journal : goal.returns-clause-journal
returns-clause-journal c = movedentry-journal

pub returns-clause-serial : goal.returns-clause-serial
returns-clause-serial c = movedentry-serial

pub returns-clause-told : goal.returns-clause-told
returns-clause-told c = movedentry-told

pub returns-clause-held : goal.returns-clause-held
returns-clause-held c = movedentry-held

pub returns-clause-another : goal.returns-clause-another
returns-clause-another c = movedentry-another
