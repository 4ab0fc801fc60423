-- Where every view that a site holds is the opening one, so is the view of each entry; hence the order by views is that of the
-- journal.
use Rattle.std.proofs.Common.{◌≡◌, ◌∙◌, ap, sym, subst, ℕ, true, List, [], ◌∷◌, refl, append-nil, ⊎_elim}
use Rattle.std.specs.Prelude.{Some, IsSome, flat_map}
use Rattle.vp_model.specs.Types.{ViewId, View, Commit, Event, Input, Live}
use Rattle.vp_model.specs.Words.{same_view, opening, for_each, put_view}
use Rattle.vp_model.specs.Catalogue.{Catalogue, start_values}
use Rattle.vp_model.specs.Site.{SiteState}
use Rattle.vp_model.specs.Step.{step}
use Rattle.vp_model.specs.World.{WorldState, Moved, Moment, Run, Schedule, moment, next, one_step, site_of, site_step, journal_of}
use Rattle.vp_model.specs.OneCopy.{serial, views_of, in_view, order}
use Rattle.vp_laws.specs.Catalogues.{IsWhole}
use Rattle.vp_laws.specs.OneView.{StaysInOpening, PlaysAsCommitted}
use Rattle.vp_laws.proofs.Lists.Members.{Has, has_left, has_right, has_one, has_first, has_more, has_cases, contains}
use Rattle.vp_laws.proofs.Lists.Views.{same_from}
use Rattle.vp_laws.proofs.Worlds.Scenes.{Scene, scene_of, acted}
use Rattle.vp_laws.proofs.Worlds.Events.{Arrives}
use Rattle.vp_laws.proofs.Worlds.Sites.{start_entered}
use Rattle.vp_laws.proofs.Table.Led.{IsOf}
use Rattle.vp_laws.proofs.Table.Steps.{EnteredFor}
use Rattle.vp_laws.proofs.Worlds.Occurs.{Occurs, occurs, RunLasts, run-keeps}
use Rattle.vp_laws.proofs.Told.Runs.{RunTold, start_told, one_step-told, operations_told}
use Rattle.vp_laws.proofs.Words.Entries.{committed_once}
use Rattle.vp_laws.proofs.Told.ReportsFit.{reports_fit}
use Rattle.vp_laws.proofs.Words.Readable.{serial_played}
use Rattle.vp_laws.proofs.Keeping.Does.{Does, does}
use Rattle.vp_laws.proofs.Invariant.Known.{Known}

abbrev AreOpening : List Commit → Type 0
AreOpening journal = (e : Commit) → Has journal e → e.view ≡ opening

one_view : (e : Commit) (journal : List Commit) → AreOpening (e ∷ journal) → views_of (e ∷ journal) ≡ opening ∷ []
one_view e journal all = ap (λ (v : ViewId). for_each journal (λ (c : Commit). put_view c.view) (put_view v [])) (all e (has_first e journal)) ∙ rest journal (λ c h. all c (has_more e journal c h))
  where
    rest : (cs : List Commit) → AreOpening cs → for_each cs (λ (c : Commit). put_view c.view) (opening ∷ []) ≡ opening ∷ []
    rest [] all = refl
    rest (c ∷ cs) all =
        ap (λ (v : ViewId). for_each cs (λ (c : Commit). put_view c.view) (put_view v (opening ∷ []))) (all c (has_first c cs)) ∙ rest cs (λ d h. all d (has_more c cs d h))

all_in_view : (journal : List Commit) → AreOpening journal → in_view journal opening ≡ journal
all_in_view [] all = refl
all_in_view (e ∷ journal) all =
    let here : same_view e.view opening ≡ true = same_from e.view opening (all e (has_first e journal)) in rw here (ap (λ (es : List Commit). e ∷ es) (all_in_view journal (λ c h. all c (has_more e journal c h))))

ordered : (journal : List Commit) → AreOpening journal → order journal ≡ journal
ordered [] all = refl
ordered (e ∷ journal) all = ap (flat_map (in_view (e ∷ journal))) (one_view e journal all) ∙ append-nil (in_view (e ∷ journal) opening) ∙ all_in_view (e ∷ journal) all

-- the entries of a run so far
abbrev InOpening : List Moment → Type 0
InOpening ms = (m : Moment) → Has ms m → (site : ℕ) (x : SiteState) (v : View) → site_of m.before site ≡ Some x → x.held ≡ Some v → v.id ≡ opening

abbrev RunOpening : Catalogue → Run → Type 0
RunOpening catalogue run = RunTold catalogue run × (InOpening run.moments → AreOpening run.world.journal)

-- an entry of a step has the view that its site holds as the step begins
step_opening : (catalogue : Catalogue) (w : WorldState) (s : ℕ) (x : SiteState) (given : Input) → site_of w s ≡ Some x → Arrives (scene_of w) s given → Known catalogue (scene_of w) → ((v : View) → x.held ≡ Some v → v.id ≡ opening) → AreOpening (step catalogue x given).effects.commits
step_opening catalogue w s x given up arrives k held e entered =
    ap (λ (c : Commit). c.view) (sym q.is) ∙ ap (λ (t : Live). t.view) q.handled.same ∙ sym member.2 ∙ held member.0 member.1
  where
    d : Does catalogue (scene_of w) (acted (scene_of w) s x (step catalogue x given)) s x given (step catalogue x given)
    d = does catalogue (scene_of w) s x given up arrives k

    q : EnteredFor catalogue x given e
    q = d.steps.entered e entered

    member : IsOf x q.handled.was
    member = (k.led.site s x up).live q.handled.was q.handled.live

occurred : (catalogue : Catalogue) (e : Event) (w : WorldState) (m : Moved) → Known catalogue (scene_of w) → ((site : ℕ) (x : SiteState) (v : View) → site_of w site ≡ Some x → x.held ≡ Some v → v.id ≡ opening) → AreOpening w.journal → Occurs catalogue e w m → AreOpening m.world.journal
unfolding site_step
occurred catalogue e w m k held before (Occurs.stands same none) = λ c h. before c (rw (ap (λ (z : Scene). z.journal) same) at h)
occurred catalogue e w m k held before (Occurs.crashes s same none) = λ c h. before c (rw (ap (λ (z : Scene). z.journal) same) at h)
occurred catalogue e w m k held before (Occurs.restarts s place at_place down id same none) = λ c h. before c (rw (ap (λ (z : Scene). z.journal) same) at h)
occurred catalogue e w m k held before (Occurs.acts s x given v same up arrives gives is) = λ c h. stepped c (rw (ap (λ (m : Moved). m.world.journal) is) at h)
  where
    stepped : (c : Commit) → Has (site_step catalogue s x given v).world.journal c → c.view ≡ opening
    stepped c h = ⊎_elim
        (λ old. before c (rw (ap (λ (z : Scene). z.journal) same) at old))
        (λ new. step_opening catalogue w s x given up arrives k (λ v e. held s x v up e) c new)
        (has_cases v.journal (step catalogue x given).effects.commits c h)

entries_on : (catalogue : Catalogue) (number : ℕ) (e : Event) (run : Run) → RunOpening catalogue run → InOpening (one_step catalogue number e run).moments → AreOpening (one_step catalogue number e run).world.journal
unfolding one_step
entries_on catalogue number e run h all =
    let m0 = moment number run.world e (next catalogue e run.world) in
    occurred catalogue e run.world (next catalogue e run.world) h.0.known (all m0 (has_right run.moments (m0 ∷ []) m0 (has_one m0))) (h.1 (λ m k. all m (has_left run.moments (m0 ∷ []) m k))) (occurs catalogue e run.world)

opening_lasts : (catalogue : Catalogue) → RunLasts catalogue (RunOpening catalogue)
opening_lasts catalogue = record {
  starts = (start_told catalogue, λ ms e h. absurd (start_entered catalogue e h));
  steps = λ number e run h. (one_step-told catalogue number e run h.0, entries_on catalogue number e run h);
}

pub plays_as_committed : (s : Schedule) → IsWhole s.catalogue → StaysInOpening s → PlaysAsCommitted s
plays_as_committed s whole stays =
    let entries = (run-keeps s.catalogue (RunOpening s.catalogue) (opening_lasts s.catalogue) s.events).1 (λ m h site x v up held. stays m site x v (contains _ m h) up held) in
    record {
      serial = subst (λ (es : List Commit). IsSome (serial (start_values s.catalogue) es)) (ordered (journal_of s) entries) (serial_played s whole);
      told = record { operations = operations_told s; once = committed_once s; fits = reports_fit s };
    }
