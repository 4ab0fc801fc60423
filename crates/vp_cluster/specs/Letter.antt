-- Datagrams between the ports of a cluster.
use Rattle.std.specs.Prelude.{ℕ, List}
use Rattle.vp_outside.specs.declared.datagram.Datagram.{Datagram}

-- a datagram on its way from one port to another
pub record Letter : Type 0 where
  pub from : ℕ
  pub to : ℕ
  pub bytes : List ℕ

-- a letter as its receiver gets it
abbrev pub as_received : Letter → Datagram
as_received letter = record { port = letter.from; bytes = letter.bytes }
