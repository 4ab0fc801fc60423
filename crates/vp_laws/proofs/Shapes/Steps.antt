-- Each step keeps a site well formed, and a site starts well formed.
use Rattle.std.proofs.Common.{◌≡◌, ◌<◌, ℕ, ◌+◌, ◌^◌, true, List, [], ◌∷◌, map, flat_map, refl, arith}
use Rattle.std.specs.Prelude.{Option, Some, None, IfSome, ◌==◌, ◌&&◌}
use Rattle.std.specs.List.{AllByRecursion}
use Rattle.vp_base.specs.Identifiers.{IsView, IsTxn}
use Rattle.vp_catalog.specs.Document.{IsCatalogue}
use Rattle.vp_model.specs.Types.{Change, View, Input, Doubt}
use Rattle.vp_model.specs.Types.owner
use Rattle.vp_model.specs.Words.{has, same_view, opening}
use Rattle.vp_model.specs.Catalogue.{Catalogue, sites_of}
use Rattle.vp_model.specs.Durable.{DurableState, doubt_of}
use Rattle.vp_model.specs.Site.{SiteState, begin_step, put_back}
use Rattle.vp_model.specs.Views.{invite}
use Rattle.vp_model.specs.Step.{step, start, durable_of, locks_in_doubt, view_at_start}
use Rattle.vp_laws.proofs.Moves.Table.{Table}
use Rattle.vp_laws.proofs.Moves.Rows.{step-keeps}
use Rattle.vp_laws.specs.Shapes.{IsDoubt, IsInput, IsDurable, IsLock, IsShaped, AreShaped}
use Rattle.vp_laws.proofs.Lists.Items.{all_append}
use Rattle.vp_laws.proofs.Shapes.Moves.{Forms}
use Rattle.vp_laws.proofs.Shapes.Views as views
use Rattle.vp_laws.proofs.Shapes.Parts as parts
use Rattle.vp_laws.proofs.Shapes.Coordinator as own
use Rattle.vp_laws.proofs.Lists.Keeps.{by_test}

pub table : (catalogue : Catalogue) → IsCatalogue catalogue → (x : SiteState) → IsShaped catalogue x → (given : Input) → IsInput given → Table catalogue x given (Forms catalogue x)
table catalogue k x sx given came = record {
  sends_back = λ from m t. parts.sends_back catalogue k x sx given came from m t;
  asks_again = λ o ms all p. parts.asks_again catalogue k x sx given came o ms all p;
  drop_view = λ l e z p. views.drops catalogue k x sx given came (put_back (begin_step x) l) p;
  start_inviting = λ o s left p. views.invites catalogue k x sx given came o s p;
  accept = λ from id o c e left p. views.accepts catalogue k x sx given came from id o c p;
  accepted = λ from id c. views.accepted catalogue k x sx given came from id c;
  seen = λ from id promise c. views.seen_now catalogue k x sx given came from id promise c;
  hold = λ from id members c e. views.holds_now catalogue k x sx given came (record { id = id; members = members }) (begin_step x) (views.came_is given from _ came c).1.0 (views.starts catalogue k x sx given came);
  heard = λ from view c e. views.hears catalogue k x sx given came from;
  fix = λ view c e. views.fixes catalogue k x sx given came view e;
  without_wait = λ id c i w. views.waits_no_more catalogue k x sx given came;
  probe = λ view c e. views.probes catalogue k x sx given came view e;
  answers_inviting = λ port c s p. views.says_inviting catalogue k x sx given came port (invite catalogue (begin_step x)) c s p;
  start_refresh = λ view rec o j h p. parts.starts_refresh catalogue k x sx given came view rec o j h p;
  end_refresh = λ rec r own o f a d e p. parts.ends_refresh catalogue k x sx given came rec r own o f e p;
  keep_answer = λ from view rec stored r c e f g. parts.keeps_answer catalogue k x sx given came from view rec stored c;
  grant_read = λ from txn view number rec stored c e n v f u. parts.grants_read catalogue k x sx given came from txn view number rec stored c v;
  grant_write = λ from txn view number rec stored c e n v f u. parts.grants_write catalogue k x sx given came from txn view number rec c;
  vote_reading = λ from txn view number reads writes part c e n d f v a w. parts.votes_reading catalogue k x sx given came from txn view number reads writes part c f;
  vote_writing = λ from txn view number reads writes part c e n d f v a w. parts.votes_writing catalogue k x sx given came from txn view number reads writes part c f;
  end_here = λ from txn commit c. parts.ends_here catalogue k x sx given came from txn commit (doubt_of txn x.doubts) refl c;
  coordinator = record {
    begin = λ port view e g u. own.starts_txn catalogue k x sx given came port view e g u;
    answers = λ words port why y. own.says catalogue k x sx given came words port y;
    take_lock = λ t rec exclusive stored h i a v c. own.takes_lock catalogue k x sx given came t rec exclusive h;
    complete = λ t p deed l h g y e q. own.completes catalogue k x sx given came t p deed l h g y q;
    read_at = λ t p rec q h n r a w c o y. own.reads_at catalogue k x sx given came t p rec q h n r o y;
    write_at = λ t p rec deed l h n w a e o d y v q. own.writes_at catalogue k x sx given came t p rec deed l h n w a.fits o y q;
    prepare_parts = λ t p h n g e. own.prepares catalogue k x sx given came t p h n g e;
    still_waits = λ t p from h e m f c. own.still_waits catalogue k x sx given came t p from h e f;
    decide = λ t n d. own.decides catalogue k x sx given came t d;
    close = λ t why l n a z y q. own.closes catalogue k x sx given came t why l y q;
    mark_calls = λ l c z q. own.marks catalogue k x sx given came l q;
    acknowledge = λ from txn c w. own.acknowledges catalogue k x sx given came from txn c;
  };
  resend_one = λ d o c h p. own.resends catalogue k x sx given came d o h p;
}

-- a step of a well-formed site on an input of its form
pub step_forms : (catalogue : Catalogue) (site : SiteState) (given : Input) → IsCatalogue catalogue → IsShaped catalogue site → IsInput given → Forms catalogue site (step catalogue site given)
step_forms catalogue site given k shaped came = step-keeps catalogue site given (Forms catalogue site) (table catalogue k site shaped given came) (views.starts catalogue k site shaped given came)

pub steps_are_shaped : (catalogue : Catalogue) (site : SiteState) (given : Input) → IsCatalogue catalogue → IsShaped catalogue site → IsInput given →
    IsShaped catalogue (step catalogue site given).site × AreShaped site.id (step catalogue site given).effects
steps_are_shaped catalogue site given k shaped came = let p = step_forms catalogue site given k shaped came in (p.site_is, p.gives)

-- ---- starts

doubt_locks : (txn : _) (writes : List (ℕ × Change)) → IsTxn txn → AllByRecursion IsLock (map (λ (w : ℕ × Change). record { rec = w.0; exclusive = true; owner = owner.Txn txn }) writes)
doubt_locks txn [] t = tt
doubt_locks txn (w ∷ writes) t = (t, doubt_locks txn writes t)

doubts_locks : (doubts : List Doubt) → AllByRecursion IsDoubt doubts → AllByRecursion IsLock (flat_map locks_in_doubt doubts)
doubts_locks [] h = tt
doubts_locks (d ∷ doubts) h = all_append IsLock (locks_in_doubt d) (flat_map locks_in_doubt doubts) (doubt_locks d.txn d.writes h.0.0) (doubts_locks doubts h.1)

first_view : (catalogue : Catalogue) (d : DurableState) → IfSome (view_at_start catalogue d) (λ view. IsView view.id)
first_view catalogue d = by_test (λ (o : Option View). IfSome o (λ view. IsView view.id)) ((d.life == 0) && same_view d.promise opening) (Some (record { id = opening; members = sites_of catalogue })) None
    (λ e. record { number_fits = omega arith; site_fits = omega arith; opening = λ q. refl; made = λ q. absurd (omega (arith, q)) }) (λ e. tt)

-- a site that starts from a durable part of its form, where a life is left
pub starts_are_shaped : (catalogue : Catalogue) (id : ℕ) (d : DurableState) → IsCatalogue catalogue → has (sites_of catalogue) id ≡ true → IsDurable catalogue id d → d.life + 1 < 2 ^ 32 → IsShaped catalogue (start catalogue id d)
unfolding start
starts_are_shaped catalogue id d k listed h left = record {
  listed = listed;
  lived = omega arith;
  life_fits = left;
  views_are = record { promise_is = h.promise; seen_fits = omega arith; held_is = first_view catalogue d; waiting_is = tt; inviting_is = tt };
  locks_are = doubts_locks d.doubts h.doubts_are.each;
  copies_are = h.copies_are;
  bars_are = tt;
  parts_are = tt;
  doubts_are = h.doubts_are;
  refresh_are = tt;
  coordinator_is = record { seq_fits = omega arith; live_are = tt; finished_are = tt; decisions_are = h.decisions_are };
}

-- the durable part of a site that is up
pub shaped_durable : (catalogue : Catalogue) (site : SiteState) → IsShaped catalogue site → IsDurable catalogue site.id (durable_of site)
shaped_durable catalogue site s = record { promise = s.views_are.promise_is; life = s.life_fits; copies_are = s.copies_are; doubts_are = s.doubts_are; decisions_are = s.coordinator_is.decisions_are }
