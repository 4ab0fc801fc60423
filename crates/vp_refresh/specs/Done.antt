-- What comes out of a refresh.
use Rattle.std.specs.Prelude.{ℕ, List}
use Rattle.vp_model.specs.Types.{Stored, Refreshing}
use Rattle.vp_model.specs.Catalogue.{Catalogue, Table, table_or, weight_inside, weight_total}
use Rattle.vp_model.specs.Refresh.{newest}
use Rattle.vp_refresh.specs.declared.done.Done.{Done}

-- a copy with the weights of its record by this table
abbrev pub with_sums : List ℕ → Stored → Table → Done
with_sums members stored t = record { stored = stored; inside = weight_inside members t; total = weight_total t }

-- the newest copy, with the weights by its table
abbrev pub done_of : Catalogue → List ℕ → Stored → Refreshing → Done
done_of catalogue members own r =
    let best = newest own r.answers in
    with_sums members best (table_or catalogue r.rec best.table)
