use Rattle.vp_laws.proofs.Words.Readable.{serial_played}
use Rattle.vp_laws.proofs.claims.commits_are_serial.Goals as goal

pub returns : goal.returns
returns c = serial_played
