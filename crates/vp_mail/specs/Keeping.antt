-- How a message is kept.
use Rattle.vp_model.specs.Types.{Message, Sent, TxnId}
use Rattle.vp_model.specs.Types.message
use Rattle.vp_mail.specs.declared.kept.Brief.{Brief}
use Rattle.vp_mail.specs.declared.kept.Brief.TheVariants as brief
use Rattle.vp_mail.specs.declared.kept.Form.{Form}
use Rattle.vp_mail.specs.declared.kept.Form.TheVariants as form

-- the message that says this of the transaction
abbrev pub brief_of : TxnId → Brief → Message
brief_of txn (brief.WriteAnswer number) = message.WriteAnswer txn number
brief_of txn brief.Vote = message.Vote txn
brief_of txn (brief.Outcome commit) = message.Outcome txn commit
brief_of txn brief.Ack = message.Ack txn

-- the message that is kept in this form
abbrev pub sent_as : Form → Sent
sent_as (form.RefreshRequest from to rec site number) = record { from = from; to = to; message = message.RefreshRequest (record { number = number; site = site }) rec }
sent_as (form.Brief from to txn brief) = record { from = from; to = to; message = brief_of txn brief }
sent_as (form.Other sent) = sent
