use Rattle.std.proofs.Common.{rules, ◌≡◌, ◌∙◌, ap, sym, subst, ℕ, true, false, Err, [], List, refl}
use Rattle.std.specs.Prelude.{IfSome, Option, ◌-◌, ◌&&◌}
use Rattle.std.proofs.lemmas.Result.{err_from_is_err_and}
use Rattle.vp_model.specs.Types.{Event}
use Rattle.vp_model.specs.Catalogue.{Catalogue, sites_of}
use Rattle.vp_model.specs.Words.{has}
use Rattle.vp_outside.specs.declared.datagram.Datagram.{Datagram}
use Rattle.vp_fitting.specs.Merged.{is_own}
use Rattle.vp_merge.specs.Lives.{Lives, StartsLives, Takes, TakesEvent}
use Rattle.vp_merge.specs.Merging.{TakesTurn}
use Rattle.vp_merge.specs.Telling.{bytes_of}
use Rattle.vp_merge.specs.Played.{IsPut}
use Rattle.vp_merge.specs.declared.fault.MergeFault.TheVariants as faults
use Rattle.vp_merge.proofs.Going.{no_next, site_listed, event_put, lives_end, event_ends, unlike, taken}
use Rattle.vp_merge.proofs.merging.Merging.take_turn.Goals as goal

pub unreachable-requires : goal.unreachable-requires
unreachable-requires c =
    no_next [] c.args.self c.requires.merging c.args.place c.requires.ready c.index_mut-track.result.now c.index_mut-track.ensures.value (sym c.take.ensures.value ∙ c.in_default.is)

pub start_lives-requires-clause-listed : goal.start_lives-requires-clause-listed
start_lives-requires-clause-listed c = site_listed [] c.args.self c.requires.merging c.args.place c.requires.ready c.index_mut-track.result.now c.index_mut-track.ensures.value

pub take_event-requires-clause-listed : goal.take_event-requires-clause-listed
take_event-requires-clause-listed c =
    let it = c.in_ok-played.ensures in
    subst (λ (k : Catalogue). has (sites_of k) c.index_mut-track.result.now.site ≡ true) (sym it.catalogue) (site_listed [] c.args.self c.requires.merging c.args.place c.requires.ready c.index_mut-track.result.now c.index_mut-track.ensures.value)

pub take_event-requires-clause-put : goal.take_event-requires-clause-put
take_event-requires-clause-put c =
    let it = c.in_ok-played.ensures in
    let next_is = sym c.take.ensures.value ∙ c.in-Some.is in
    subst (λ (k : Catalogue). IfSome c.in_ok-event.event (IsPut (sites_of k))) (sym it.catalogue)
    (subst (λ (e : Option Event). IfSome e (IsPut (sites_of c.args.self.played.world.catalogue))) (sym c.in_ok-event.ensures)
    (event_put [] c.args.self c.requires.merging c.args.place c.requires.ready c.index_mut-track.result.now c.index_mut-track.ensures.value c.in-Some.next next_is))

pub returns-in_err-played : goal.returns-in_err-played
returns-in_err-played c = λ recordings.
    let why = c.in_err-played.field-0.0 in
    let is : c.from_residual-in_err-played.result ≡ Err why = search rules in
    let next_is = sym c.take.ensures.value ∙ c.in-Some.is in
    subst (TakesTurn c.args.self.played.world.catalogue recordings c.args.self) (sym is)
    (lives_end recordings c.args.self c.requires.merging c.args.place c.requires.ready c.index_mut-track.result.now c.index_mut-track.ensures.value c.in-Some.next next_is why
    (subst (λ (lives : ℕ). StartsLives c.index_mut-track.result.now.site lives c.args.self.played (Err why)) c.saturating_sub.ensures c.in_err-played.ensures))

pub returns-in_err-played-2 : goal.returns-in_err-played-2
returns-in_err-played-2 c = λ recordings.
    let t = c.index_mut-track.result.now in
    let n = c.in-Some.next in
    let mid = c.in_ok-played.played in
    let why = c.in_err-played-2.field-0.0 in
    let is : c.from_residual-in_err-played-2.result ≡ Err why = search rules in
    let next_is = sym c.take.ensures.value ∙ c.in-Some.is in
    let lives : Lives t.site (n.due.life - t.life) c.args.self.played mid = subst (λ (lives : ℕ). Lives t.site lives c.args.self.played mid) c.saturating_sub.ensures c.in_ok-played.ensures in
    subst (TakesTurn c.args.self.played.world.catalogue recordings c.args.self) (sym is)
    (event_ends recordings c.args.self c.requires.merging c.args.place c.requires.ready t c.index_mut-track.ensures.value n next_is mid c.take_event.new.numbers lives why
    (subst (λ (e : Option Event). TakesEvent t.site e n.due.short (bytes_of n.due.turn.now.outs) mid (Err why) c.args.self.numbers c.take_event.new.numbers) c.in_ok-event.ensures
    (subst (λ (outs : List Datagram). TakesEvent t.site c.in_ok-event.event n.due.short (bytes_of outs) mid (Err why) c.args.self.numbers c.take_event.new.numbers) c.as_slice-outs.ensures c.in_err-played-2.ensures)))

pub returns-then-not-is_told : goal.returns-then-not-is_told
returns-then-not-is_told c = λ recordings.
    let t = c.index_mut-track.result.now in
    let n = c.in-Some.next in
    let mid = c.in_ok-played.played in
    let new = c.in_ok-played-2.played in
    let told = c.in_ok-played-2.told in
    let next_is = sym c.take.ensures.value ∙ c.in-Some.is in
    let lives : Lives t.site (n.due.life - t.life) c.args.self.played mid = subst (λ (lives : ℕ). Lives t.site lives c.args.self.played mid) c.saturating_sub.ensures c.in_ok-played.ensures in
    let no : (is_own n.asked && told) ≡ false = search rules in
    unlike recordings c.args.self c.requires.merging c.args.place c.requires.ready t c.index_mut-track.ensures.value n next_is mid new told c.take_event.new.numbers lives
    (subst (λ (e : Option Event). Takes t.site e n.due.short (bytes_of n.due.turn.now.outs) mid new told c.args.self.numbers c.take_event.new.numbers) c.in_ok-event.ensures
    (subst (λ (outs : List Datagram). Takes t.site c.in_ok-event.event n.due.short (bytes_of outs) mid new told c.args.self.numbers c.take_event.new.numbers) c.as_slice-outs.ensures c.in_ok-played-2.ensures))
    no

pub returns : goal.returns
returns c = λ recordings.
    let t = c.index_mut-track.result.now in
    let n = c.in-Some.next in
    let mid = c.in_ok-played.played in
    let new = c.in_ok-played-2.played in
    let told = c.in_ok-played-2.told in
    let next_is = sym c.take.ensures.value ∙ c.in-Some.is in
    let lives : Lives t.site (n.due.life - t.life) c.args.self.played mid = subst (λ (lives : ℕ). Lives t.site lives c.args.self.played mid) c.saturating_sub.ensures c.in_ok-played.ensures in
    let yes : (is_own n.asked && told) ≡ true = search rules in
    taken recordings c.args.self c.requires.merging c.args.place c.requires.ready t c.index_mut-track.ensures.value n next_is mid new told c.take_event.new.numbers lives
    (subst (λ (e : Option Event). Takes t.site e n.due.short (bytes_of n.due.turn.now.outs) mid new told c.args.self.numbers c.take_event.new.numbers) c.in_ok-event.ensures
    (subst (λ (outs : List Datagram). Takes t.site c.in_ok-event.event n.due.short (bytes_of outs) mid new told c.args.self.numbers c.take_event.new.numbers) c.as_slice-outs.ensures c.in_ok-played-2.ensures))
    c.advance.new.self yes c.advance.ensures.site c.in_ok-advance.ensures.left c.in_ok-advance.ensures.is _ refl refl refl

pub returns-in_err-advance : goal.returns-in_err-advance
returns-in_err-advance c = λ recordings.
    let why = err_from_is_err_and c.from_residual-in_err-advance.result c.from_residual-in_err-advance.ensures.1 in
    let is : c.from_residual-in_err-advance.result ≡ Err faults.NoMemory = why.1 ∙ ap Err why.2 in
    subst (TakesTurn c.args.self.played.world.catalogue recordings c.args.self) (sym is) tt
