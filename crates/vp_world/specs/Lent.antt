-- Inputs whose messages and calls are lent.
use Rattle.vp_model.specs.Types.{Input}
use Rattle.vp_base.specs.declared.event.Input.TheVariants as input
use Rattle.vp_world.specs.declared.lent.Form.{Form}
use Rattle.vp_world.specs.declared.lent.Form.TheVariants as form

-- the input of which this is lent
abbrev pub lent_as : Form → Input
lent_as (form.Call call) = input.Call 0 call.now
lent_as (form.Message sent) = input.Message sent.now.from sent.now.message
lent_as form.Tick = input.Tick
lent_as form.Probe = input.Probe
