-- Promises and membership: what each site has promised, and which views are agreed.
use Rattle.std.proofs.Common.{◌≡◌, ◌≢◌, ℕ, List}
use Rattle.std.specs.Prelude.{Some}
use Rattle.vp_model.specs.Types.{ViewId, View, Sent, Message}
use Rattle.vp_model.specs.Types.message
use Rattle.vp_model.specs.Words.{opening}
use Rattle.vp_model.specs.Catalogue.{Catalogue, sites_of}
use Rattle.vp_model.specs.Site.{SiteState}
use Rattle.vp_model.specs.Step.{durable_of}
use Rattle.vp_model.specs.World.{Place, place_of}
use Rattle.vp_laws.proofs.Lists.Members.{Has}
use Rattle.vp_laws.proofs.Lists.Views.{AtMost, Precedes}
use Rattle.vp_laws.proofs.Moves.LocalViews.{Tidy}
use Rattle.vp_laws.proofs.Worlds.Scenes.{Scene, plain_at, kept_at, promise_at}

-- no identifier is above what its site has used
abbrev pub Used : Scene → ViewId → Type 0
Used w i = AtMost i (promise_at w i.site)

-- a site that is up
pub record SiteOk (w : Scene) (s : ℕ) (x : SiteState) : Type 0 where
  -- it is the site of its number
  pub id : x.id ≡ s
  -- what it would find in its log is what it has kept
  pub kept : durable_of x ≡ kept_at w s
  -- its promise, and the view that it holds, awaits or invites to, fit each other
  pub tidy : Tidy x
  -- the view that it holds is agreed
  pub held : (v : View) → x.held ≡ Some v → Has w.agreed v
  -- it awaits a view of another site, above the opening one
  pub awaits : (i : ViewId) → x.waiting ≡ Some i → (i.site ≢ s) × Precedes opening i
  -- who has accepted its view has promised it
  pub acceptors : (b : ViewId × List ℕ) (a : ℕ) → x.inviting ≡ Some b → Has b.1 a → AtMost b.0 (promise_at w a)
  -- the view that it invites to is not agreed
  pub unfixed : (b : ViewId × List ℕ) (v : View) → x.inviting ≡ Some b → Has w.agreed v → b.0 ≡ v.id → ⊥

-- a message of views names no view above what its site has used; an accepted one is promised, a settled one agreed
abbrev pub Told : Scene → ℕ → Message → Type 0
Told w from (message.Invite i) = Used w i
Told w from (message.Accept i) = AtMost i (promise_at w from)
Told w from (message.Stale i p) = Used w i × Used w p
Told w from (message.ViewCommit i members) = Has w.agreed (record { id = i; members = members })
Told w from m = Unit {0}

-- an agreed view
pub record ViewOk (w : Scene) (v : View) : Type 0 where
  -- its name is not above what its site has used
  pub own : Used w v.id
  -- each member has promised it
  pub members : (a : ℕ) → Has v.members a → AtMost v.id (promise_at w a)

pub record InvViews (catalogue : Catalogue) (w : Scene) : Type 0 where
  -- each site that is up
  pub site : (s : ℕ) (x : SiteState) → plain_at w s ≡ Some x → SiteOk w s x
  -- each place is of a site of the catalogue
  pub known : (s : ℕ) (p : Place) → place_of s w.places ≡ Some p → Has (sites_of catalogue) s
  -- no promise is above what the site of its name has used
  pub promise : (s : ℕ) → Used w (promise_at w s)
  -- each message
  pub told : (m : Sent) → Has w.sent m → Told w m.from m.message
  -- each agreed view
  pub view : (v : View) → Has w.agreed v → ViewOk w v
  -- one view has one identifier
  pub unique : (u v : View) → Has w.agreed u → Has w.agreed v → u.id ≡ v.id → u ≡ v
  -- the opening view, of all sites, is agreed
  pub opening : Has w.agreed (record { id = opening; members = sites_of catalogue })
