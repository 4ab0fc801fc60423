-- The lives of a node on one log.
use Rattle.std.specs.Prelude.{◌≡◌, ℕ, false, List, [], ◌∷◌, ◌++◌, Option, IfSome}
use Rattle.vp_model.specs.Types.{LogRecord}
use Rattle.vp_model.specs.Words.{for_each}
use Rattle.vp_model.specs.Catalogue.{Catalogue}
use Rattle.vp_model.specs.Site.{SiteState}
use Rattle.vp_outside.specs.declared.datagram.Datagram.{Datagram}
use Rattle.vp_runs.specs.Runs.{node_run}

-- the batches that a site's node leaves, one life after the other, each a run over these datagrams
abbrev pub left_by : Catalogue → ℕ → List (List Datagram) → List (List LogRecord)
left_by catalogue id lives = for_each lives (λ arrived batches. (node_run catalogue id batches arrived).node.batches) []

-- A log is one that lives of the site's node have left; if the site is up, the last of them is in this state of the site.
pub record IsOfNode (catalogue : Catalogue) (id : ℕ) (batches : List (List LogRecord)) (up : Option SiteState) : Type 0 where
  pub past : List (List Datagram)
  pub last : List Datagram
  pub left : batches ≡ left_by catalogue id (past ++ last ∷ [])
  pub goes_on : (node_run catalogue id (left_by catalogue id past) last).stopped ≡ false
  pub up_is : IfSome up (λ site. site ≡ (node_run catalogue id (left_by catalogue id past) last).node.site)
