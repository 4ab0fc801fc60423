-- What a replay prints.
use Rattle.std.proofs.Common.{◌≡◌, ◌∙◌, ap, ℕ, List, [], ◌++◌, map}
use Rattle.std.specs.Prelude.{Ok}
use Rattle.vp_model.specs.Types.{Commit}
use Rattle.vp_model.specs.Catalogue.{Catalogue}
use Rattle.vp_model.specs.OneCopy.{order}
use Rattle.vp_model.specs.World.{Schedule}
use Rattle.vp_model.specs.Texts.Trace.{trace_text}
use Rattle.vp_model.specs.Texts.History.{history_lines}
use Rattle.vp_schedule.specs.Document.{IsSchedule}
use Rattle.vp_laws.specs.Catalogues.{IsWhole}
use Rattle.vp_laws.proofs.Lists.Catalogues.{whole_catalogue}
use Rattle.vp_timely.proofs.Sound.{all_sound}
use Rattle.vp_cluster.specs.Ran.{Runs}
use Rattle.vp_cluster.specs.declared.cluster.Ran.{Ran}
use Rattle.vp_replay.specs.Replayed.{IsDone}

-- the history of a journal
abbrev pub ended : Catalogue → List Commit → List ℕ
ended catalogue journal = history_lines (map (λ entry. entry.name) catalogue.records) (map (λ entry. entry.start) catalogue.records) (order journal)

pub replay_is_done : (s : Schedule) (ran : Ran) (mid text : List ℕ) → IsSchedule s → Runs s (Ok ran) [] mid → text ≡ mid ++ ended s.catalogue ran.commits → IsDone s text
replay_is_done s ran mid text schedule runs e = record {
  whole = runs.0;
  printed = e ∙ ap (λ t. t ++ ended s.catalogue ran.commits) runs.1 ∙ ap (λ journal. trace_text s ++ ended s.catalogue journal) runs.2;
  sound = all_sound s whole_is;
}
  where
    whole_is : IsWhole s.catalogue
    whole_is = whole_catalogue s.catalogue schedule.catalogue_is.so_far
