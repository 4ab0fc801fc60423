-- What the program is to do once its words are tested and its input is read.
use Rattle.std.specs.Prelude.{◌≡◌, ℕ, true, List, Some}
use Rattle.vp_outside.specs.Input.{SourceState}
use Rattle.vp_outside.specs.Links.{LinkState}
use Rattle.vp_words.specs.Commands.{command_of}
use Rattle.vp_words.specs.declared.words.Command.{Command}
use Rattle.vp_words.specs.declared.words.Command.TheVariants as commands
use Rattle.vp_top.specs.Ends.{Defines, IsAudit, IsNode}
use Rattle.vp_top.specs.Program.{IsAnswer, IsCatalogueOf, IsNowhere, IsPlaced, LacksSites}
use Rattle.vp_top.specs.declared.plan.Plan.{Plan}
use Rattle.vp_top.specs.declared.plan.Plan.TheVariants as plans
use Rattle.vp_top.specs.declared.plan.SiteLookup.{SiteLookup}
use Rattle.vp_top.specs.declared.plan.SiteLookup.TheVariants as founds

-- the site in the catalogue, or what is printed if there is none
abbrev pub IsFound : List ℕ → ℕ → SiteLookup → Type 0
IsFound bytes site (founds.At catalogue port) = IsPlaced bytes catalogue site port
IsFound bytes site (founds.Nowhere told) = IsNowhere bytes site told.status told.text.items

-- a command with this input: its text, the node that is to serve, the logs that are to be audited, or the session that is to be answered
abbrev pub PlansFor : Command → List ℕ → LinkState → LinkState → Plan → Type 0
PlansFor command bytes link link' (plans.Print told) = IsAnswer command bytes link link' told.status told.text.items
PlansFor command bytes link link' (plans.Serve catalogue site log turns) =
    (command ≡ commands.Node site log turns) × ((port : ℕ) × IsPlaced bytes catalogue site port) × (link' ≡ link)
PlansFor command bytes link link' (plans.Audit catalogue logs) = (command ≡ commands.Audit logs) × IsCatalogueOf bytes catalogue logs true × (link' ≡ link)
PlansFor command bytes link link' (plans.Answer it) = (command ≡ commands.Gateway it.port it.turns it.site) × (link' ≡ link)

-- the plan of an audit of these logs
abbrev pub IsAuditPlan : List ℕ → List (ℕ × List ℕ) → Plan → Type 0
IsAuditPlan bytes logs (plans.Print told) = LacksSites bytes logs told.status told.text.items
IsAuditPlan bytes logs (plans.Audit catalogue named) = (named ≡ logs) × IsCatalogueOf bytes catalogue logs true
IsAuditPlan bytes logs _ = ⊥

-- the same for the words and what was taken from the source
abbrev pub Plans : List (List ℕ) → SourceState → SourceState → LinkState → LinkState → Plan → Type 0
Plans words source source' link link' (plans.Print told) = Defines words source source' link link' told.status told.text.items
Plans words source source' link link' (plans.Serve catalogue site log turns) = IsNode words source source' catalogue site log turns × (link' ≡ link)
Plans words source source' link link' (plans.Audit catalogue logs) = IsAudit words source source' catalogue logs × (link' ≡ link)
Plans words source source' link link' (plans.Answer it) = (command_of words ≡ Some (commands.Gateway it.port it.turns it.site)) × (source' ≡ source) × (link' ≡ link)
