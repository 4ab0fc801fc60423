-- What an answer of another site does to the call that waits for it.
use Rattle.std.specs.Prelude.{ℕ, ◌==◌, Bool, true, false, if◌then◌else◌, Option, Some, None, option_map}
use Rattle.vp_model.specs.Types.{ViewId, Call, Obstacle, Pending, Live, Ending}
use Rattle.vp_base.specs.declared.site.Ending.TheVariants.{LockHeld, ViewChanged, Inaccessible}
use Rattle.vp_model.specs.Types.call
use Rattle.vp_model.specs.Types.obstacle
use Rattle.vp_model.specs.Words.{for_some}
use Rattle.vp_model.specs.Catalogue.{Catalogue, find_record}
use Rattle.vp_model.specs.Site.{Lent}
use Rattle.vp_model.specs.Transactions.{Deed, close}
use Rattle.vp_model.specs.Calls.{change_asked}
use Rattle.vp_model.specs.Answers.{record_name}

-- the record that is read by a call with this number
abbrev pub wanted_read : Catalogue → ℕ → Pending → Call → Option ℕ
wanted_read catalogue number p (call.Read txn n name) = if p.number == number then find_record catalogue name else None
wanted_read catalogue number p _ = None

-- what is changed by a call with this number
abbrev pub wanted_change : Catalogue → ℕ → Pending → Option Deed
wanted_change catalogue number p = if p.number == number then change_asked catalogue p.call else None

abbrev pub is_commit : Call → Bool
is_commit (call.Commit txn number) = true
is_commit _ = false

-- how a transaction of this view ends where a site has refused its call
abbrev pub refused_end : ℕ → Obstacle → ViewId → Call → Option Ending
refused_end from (obstacle.Held holder) view words = option_map (λ name. LockHeld name from holder) (record_name words)
refused_end from (obstacle.OtherView now) view words = Some (ViewChanged from view now)
refused_end from (obstacle.Barred inside total) view words = option_map (λ name. Inaccessible name inside total) (record_name words)

abbrev pub refusal : ℕ → ℕ → Obstacle → ViewId → Pending → Option Ending
refusal from number why view p = if p.number == number then refused_end from why view p.call else None

-- what a refusal does to the transaction whose call waits
abbrev pub refusal_at : ℕ → ℕ → ℕ → Obstacle → Live → Pending → Lent → Lent
refusal_at id from number why t p l = for_some (refusal from number why t.view p) (close id t) l
