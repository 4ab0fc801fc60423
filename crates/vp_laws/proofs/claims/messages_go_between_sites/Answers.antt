use Rattle.vp_laws.proofs.Routes.InvRoutes.{messages_go_between_sites}
use Rattle.vp_laws.proofs.claims.messages_go_between_sites.Goals as goal

pub returns : goal.returns
returns c = messages_go_between_sites
