-- All that is known of the sites and messages of a world, each part by its name.
use Rattle.vp_model.specs.Catalogue.{Catalogue}
use Rattle.vp_laws.proofs.Worlds.Scenes.{Scene}
use Rattle.vp_laws.proofs.Invariant.Views.{InvViews}
use Rattle.vp_laws.proofs.Invariant.Led.{InvLed}
use Rattle.vp_laws.proofs.Invariant.Below.{InvBelow}
use Rattle.vp_laws.proofs.Invariant.Names.{InvNames}
use Rattle.vp_laws.proofs.Invariant.Votes.{InvVotes}
use Rattle.vp_laws.proofs.Invariant.Endings.{InvEndings}
use Rattle.vp_laws.proofs.Invariant.Shares.{InvShares}
use Rattle.vp_laws.proofs.Invariant.Ops.{InvOps}
use Rattle.vp_laws.proofs.Invariant.Answers.{InvAnswers}
use Rattle.vp_laws.proofs.Invariant.Entered.{InvEntered}
use Rattle.vp_laws.proofs.Invariant.Lived.{InvLived}
use Rattle.vp_laws.proofs.Invariant.Settled.{InvSettled}
use Rattle.vp_laws.proofs.Invariant.Guards.{InvGuards}
use Rattle.vp_laws.proofs.Invariant.Used.{InvUsed}
use Rattle.vp_laws.proofs.Invariant.Dated.{InvDated}
use Rattle.vp_laws.proofs.Invariant.Reads.{InvReads}
use Rattle.vp_laws.proofs.Invariant.Held.{InvHeld}
use Rattle.vp_laws.proofs.Invariant.Listed.{InvListed}
use Rattle.vp_laws.proofs.Invariant.Barred.{InvBarred}
use Rattle.vp_laws.proofs.Invariant.Repeated.{InvRepeated}

-- a part is a record of clauses in the file of its name
pub record Known (catalogue : Catalogue) (w : Scene) : Type 0 where
  -- promises and agreed views
  pub views : InvViews catalogue w
  -- transactions and what is asked for them are of agreed views
  pub led : InvLed w
  -- nothing is dated above a promise
  pub below : InvBelow w
  -- no name is above what was used
  pub names : InvNames w
  -- prepares and votes
  pub votes : InvVotes catalogue w
  -- outcomes, decisions and entries of transactions that are over
  pub ends : InvEndings w
  -- parts, doubts and what answers answer
  pub shares : InvShares catalogue w
  -- what live transactions have done and ask
  pub ops : InvOps catalogue w
  -- what was answered to them
  pub answers : InvAnswers catalogue w
  -- who has voted on entries
  pub entered : InvEntered catalogue w
  -- each site has begun a life
  pub lived : InvLived w
  -- who has still to apply entries
  pub settled : InvSettled catalogue w
  -- the locks of each site
  pub guards : InvGuards catalogue w
  -- what others hold locked for live transactions
  pub used : InvUsed catalogue w
  -- dates are of entries
  pub dated : InvDated catalogue w
  -- what is read elsewhere was asked for
  pub reads : InvReads catalogue w
  -- each site has the copies that it holds
  pub held : InvHeld catalogue w
  -- what is under refresh
  pub listed : InvListed catalogue w
  -- what is barred
  pub barred : InvBarred w
  -- the answers that may be repeated
  pub repeated : InvRepeated w
