use Rattle.std.proofs.Common.{◌≡◌, IfSome, pos}
use Rattle.std.specs.Fd.{file_raw_fd}
use Rattle.vp_adapters.proofs.streams.ClosedStreams.hold.Given as goal

abbrev pub invariant-loop : goal.invariant-loop
invariant-loop g l = IfSome l.closed.input (λ file. file_raw_fd file ≡ pos 0)
    × IfSome l.closed.output (λ file. file_raw_fd file ≡ pos 1)
    × IfSome l.closed.error (λ file. file_raw_fd file ≡ pos 2)
