use Rattle.vp_laws.proofs.Told.ReportsFit.{reports_fit}
use Rattle.vp_laws.proofs.claims.replies_fit_calls.Goals as goal

pub returns : goal.returns
returns c = reports_fit
