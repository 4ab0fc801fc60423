use Rattle.vp_top.proofs.Answering.{answer_told, no_disk, unread_told}
use Rattle.vp_top.proofs.Completing.{played, replay_limited, logs_limited, generated_limited, soaked_limited}
use Rattle.vp_replay.specs.Replayed.{Gives}
use Rattle.vp_replay.specs.Logged.{Leaves}
use Rattle.vp_words.specs.declared.words.Command.TheVariants as commands
use Rattle.vp_top.proofs.claims.limits_are_told.Goals as goal

pub returns : goal.returns
returns g c = record {
  replayed = λ words bytes schedule counted w fits spelled beyond source source' link link' sink sink' disk disk' end e given.
      answer_told words source source' _ commands.Replay w tt bytes given fits _ (λ end text a. replay_limited schedule counted beyond end text (played bytes Gives schedule spelled end text a)) (no_disk words source source' _ commands.Replay w (λ is. is)) end e;
  logged = λ words bytes schedule counted w fits spelled beyond source source' link link' sink sink' disk disk' end e given.
      answer_told words source source' _ commands.Logs w tt bytes given fits _ (λ end text a. logs_limited schedule counted beyond end text (played bytes Leaves schedule spelled end text a)) (no_disk words source source' _ commands.Logs w (λ is. is)) end e;
  generated = λ words seed count counted w beyond source source' link link' sink sink' disk disk' end e calm.
      unread_told words source source' _ (commands.Generate seed count) w (λ is. is) calm _ (λ bytes end text a. generated_limited seed count counted beyond end text a) (λ is. is) (λ is. is) end e;
  soaked = λ words seed count counted w beyond source source' link link' sink sink' disk disk' end e calm.
      unread_told words source source' _ (commands.Soak seed count) w (λ is. is) calm _ (λ bytes end text a. soaked_limited seed count counted beyond end text a) (λ is. is) (λ is. is) end e;
}
