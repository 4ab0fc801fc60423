use Rattle.vp_top.proofs.Sessions.{session_ends}
use Rattle.vp_top.proofs.ToldSessions.{session_told}
use Rattle.vp_top.proofs.claims.sessions_are_answered.Goals as goal

pub returns : goal.returns
returns g c = record {
  told = λ words own turns site bytes w source source' link link' sink sink' disk disk' end e left. session_told words own turns site bytes w source source' _ left end e;
  calm = λ words own turns site bytes w fits source source' link link' sink sink' disk disk' end e left calm. session_ends words own turns site bytes w fits source source' _ left calm end e;
}
