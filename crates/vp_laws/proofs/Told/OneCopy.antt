-- The laws on one copy put together: each schedule over a whole catalogue is one copy.
use Rattle.vp_model.specs.World.{Schedule}
use Rattle.vp_model.specs.Headline.{IsOneCopy}
use Rattle.vp_laws.specs.Catalogues.{IsWhole}
use Rattle.vp_laws.proofs.Words.Entries.{committed_once}
use Rattle.vp_laws.proofs.Words.Readable.{serial_played, copies_read}
use Rattle.vp_laws.proofs.Replies.EndsTrue.{ends_told}
use Rattle.vp_laws.proofs.Told.Runs.{operations_told}
use Rattle.vp_laws.proofs.Told.Begun.{views_true}
use Rattle.vp_laws.proofs.Told.ReportsFit.{reports_fit}
use Rattle.vp_laws.proofs.Told.FairTold.{refusals_justified}

pub one_copy_told : (s : Schedule) → IsWhole s.catalogue → IsOneCopy s
one_copy_told s whole = record {
  serial = serial_played s whole;
  told = record { operations = operations_told s; once = committed_once s; fits = reports_fit s };
  views = views_true s;
  copies = copies_read s whole;
  ends = ends_told s whole;
  refusals = refusals_justified s whole;
}
