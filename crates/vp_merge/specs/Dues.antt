-- The turns that are left of a site's recordings.
use Rattle.std.specs.Prelude.{◌≡◌, ⊤, ◌+◌, List, [], ◌∷◌, ◌++◌, length, Option, Some, None, Result, Ok, Err}
use Rattle.vp_base.specs.declared.memory.NoMemory.{NoMemory}
use Rattle.vp_fitting.specs.Asked.{Due, dues_in, dues_from}
use Rattle.vp_merge.specs.declared.dues.Due.{Due as DueHere}
use Rattle.vp_merge.specs.declared.dues.Dues.{Dues}

abbrev pub due_of : DueHere → Due
due_of d = record { life = d.life; number = d.number; turn = d.turn.now; short = d.short }

abbrev pub dues_left : Dues → List Due
dues_left q = dues_in q.life q.ended q.number q.turns.now ++ dues_from q.site (q.number + length q.turns.now) q.recordings.now

-- The first of the turns was taken from the others, unless memory ran out; or there was none.
abbrev pub NextOf : Result (Option DueHere) NoMemory → List Due → List Due → Type 0
NextOf (Ok None) old new = old ≡ []
NextOf (Ok (Some d)) old new = old ≡ due_of d ∷ new
NextOf (Err e) old new = ⊤
