-- What is lent to a row that has taken a transaction out of its table.
use Rattle.vp_model.specs.Types.{Live}
use Rattle.vp_model.specs.Site.{Lent, lent_coordinator}
use Rattle.vp_model.specs.Transactions.{put_live}

-- what is lent, with t in its place
abbrev pub in_place : Live → Lent → Lent
in_place t l = lent_coordinator (put_live t) l
