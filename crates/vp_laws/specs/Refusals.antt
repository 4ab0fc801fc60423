-- The refusals after which a site is as it was.
use Rattle.std.specs.Prelude.{◌≡◌, Bool, true, false, not, [], ◌∷◌}
use Rattle.std.specs.List.{Contains}
use Rattle.vp_model.specs.Types.{Answer, Reply, Input}
use Rattle.vp_model.specs.Types.answer
use Rattle.vp_model.specs.Types.input
use Rattle.vp_model.specs.Catalogue.{Catalogue}
use Rattle.vp_model.specs.Site.{SiteState}
use Rattle.vp_model.specs.Step.{step}
use Rattle.vp_model.specs.Told.{is_early_refusal}

abbrev pub is_message : Input → Bool
is_message (input.Message from m) = true
is_message _ = false

-- the call is not done: a call that begins or regroups, or a call on a transaction that does not use up its number. An `inaccessible` that a
-- message brings is the end of its transaction
abbrev pub is_not_done : Input → Answer → Bool
is_not_done given (answer.NoView promise) = true
is_not_done given (answer.Spent number) = true
is_not_done given answer.TooManyLive = true
is_not_done given (answer.Inaccessible txn number name inside total) = not (is_message given)
is_not_done given words = is_early_refusal words

-- a step with such a reply leaves the whole site as it was: it gives no other reply, and sends, forces and commits nothing
abbrev pub RefusalsChangeNothing : Type 0
RefusalsChangeNothing =
    (catalogue : Catalogue) (site : SiteState) (given : Input) (r : Reply) → Contains (step catalogue site given).effects.replies r → is_not_done given r.answer ≡ true →
    step catalogue site given ≡ record { site = site; effects = record { records = []; commits = []; messages = []; replies = r ∷ [] } }
