use Rattle.std.proofs.Common.{◌≡◌, ℕ, List, []}
use Rattle.vp_outside.specs.Links.{LinkState}
use Rattle.vp_client.specs.Asked.{HasFailed}
use Rattle.vp_top.specs.Asked.{SignalGives}
use Rattle.vp_top.specs.Claims.{SignalsAreDone}
use Rattle.vp_top.proofs.Answering.{answer_told, no_disk}
use Rattle.vp_top.proofs.Completing.{at_port}
use Rattle.vp_status.specs.declared.status.Status.{Status}
use Rattle.vp_status.specs.declared.status.Status.TheVariants as status
use Rattle.vp_words.specs.declared.words.Signal.{Signal}
use Rattle.vp_words.specs.declared.words.Command.TheVariants as commands
use Rattle.vp_top.proofs.claims.signals_are_sent.Goals as goal

module _ (port site : ℕ) (given : Signal) (link link' : LinkState) (law : SignalsAreDone) (calm : HasFailed link link' → ⊥) where
  silent : (end : Status) (text : List ℕ) → end ≡ status.Done → SignalGives port site given link link' end text → text ≡ []
  silent status.Done text is g = g.2
  silent _ text is g = cc

  done : (end : Status) (text : List ℕ) → SignalGives port site given link link' end text → (end ≡ status.Done) × (text ≡ [])
  done end text g = let is = law port site given link link' end text g calm in (is, silent end text is g)

pub returns : goal.returns
returns g c words site port given bytes catalogue w fits answered there source source' link link' sink sink' disk disk' end e linked =
    answer_told words source source' _ (commands.Signal site given) w tt bytes linked.0 fits _
    (λ end text told. done port site given link link' c.signals_are_done.ensures linked.1 end text (at_port bytes site link link' (λ port. SignalGives port site given link link') catalogue answered port there end text told))
    (no_disk words source source' _ (commands.Signal site given) w (λ is. is)) end e
