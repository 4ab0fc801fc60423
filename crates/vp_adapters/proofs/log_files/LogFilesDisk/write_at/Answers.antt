use Rattle.std.proofs.Common.{rules, length}
use Rattle.vp_adapters.proofs.Files.{Changes-of_files, Torn-same}
use Rattle.vp_adapters.proofs.log_files.LogFilesDisk.write_at.Goals as goal

pub returns-in_err-counted-clause-written : goal.returns-in_err-counted-clause-written
returns-in_err-counted-clause-written g c = Changes-of_files (Torn-same c.args.at (length c.args.piece.now)) (search rules)

pub returns-clause-written : goal.returns-clause-written
returns-clause-written g c = Changes-of_files (Torn-same c.args.at (length c.args.piece.now)) (search rules)
