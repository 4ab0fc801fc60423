use Rattle.std.proofs.Common.{rules}
use Rattle.vp_adapters.proofs.Files.{Changes-of_files, MaybeCut-same}
use Rattle.vp_adapters.proofs.log_files.LogFilesDisk.cut.Goals as goal

pub returns-in_err-counted-clause-cut : goal.returns-in_err-counted-clause-cut
returns-in_err-counted-clause-cut g c = Changes-of_files (MaybeCut-same c.args.length) (search rules)

pub returns-clause-cut : goal.returns-clause-cut
returns-clause-cut g c = Changes-of_files (MaybeCut-same c.args.length) (search rules)
