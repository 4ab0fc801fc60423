use Rattle.std.proofs.Common.{rules, refl, arith, drop, length-append}
use Rattle.std.proofs.lemmas.List.{length-take-le, length-drop}
use Rattle.vp_adapters.proofs.socket.SocketLink.receive.Goals as goal

pub returns-in-Ok : goal.returns-in-Ok
returns-in-Ok g c =
    let front = length-take-le 16384 c.args.buf.now c.requires.room in
    record {
      within = omega (arith, front, c.recv_from.auto.buf, c.in-Ok.ensures);
      room = omega (arith, front, c.recv_from.auto.buf, length-append c.recv_from.new.buf (drop 16384 c.args.buf.now), length-drop 16384 c.args.buf.now);
      told = tt;
      given = search rules;
      stays = record { same_port = refl; same_bound = refl };
      hands_none = record { same_handed = refl; same_losses = refl };
      cause = record { later = omega arith; failed = tt; ok = refl };
    }
