-- Events that mend and bring no prepare, so that no site comes into a new doubt by them; and those of them that no site begins itself.
use Rattle.std.proofs.Common.{◌≡◌, ◌<◌, arith, ℕ, Bool, true, false, List, [], ◌∷◌, ◌++◌}
use Rattle.std.specs.Prelude.{Option, Some, None, not, ◌&&◌, nat_lt}
use Rattle.std.specs.List.{AllByRecursion}
use Rattle.std.proofs.lemmas.Bool.Decides.{nat_tests}
use Rattle.vp_model.specs.Types.{Sent, Message, Event}
use Rattle.vp_model.specs.Types.event
use Rattle.vp_model.specs.Types.message
use Rattle.vp_model.specs.Words.{has}
use Rattle.vp_model.specs.Catalogue.{Catalogue}
use Rattle.vp_model.specs.World.{WorldState, message_at, next}
use Rattle.vp_laws.proofs.Lists.Members.{both_true}
use Rattle.vp_progress.specs.Going.{EachPasses, IsFresh, is_within, mends, serves}

abbrev pub is_prepare : Message → Bool
is_prepare (message.Prepare txn view number reads writes) = true
is_prepare m = false

abbrev pub is_calm : Option Sent → Bool
is_calm None = true
is_calm (Some m) = not (is_prepare m.message)

abbrev pub calms : ℕ → List ℕ → WorldState → Event → Bool
calms told ns w (event.Deliver k) = nat_lt told k && (is_within ns (message_at w k) && is_calm (message_at w k))
calms told ns w e = mends ns w e

pub calm_mends : (told : ℕ) (ns : List ℕ) (w : WorldState) (e : Event) → calms told ns w e ≡ true → mends ns w e ≡ true
calm_mends told ns w (event.Deliver k) e = (both_true (is_within ns (message_at w k)) (is_calm (message_at w k)) (both_true (nat_lt told k) (is_within ns (message_at w k) && is_calm (message_at w k)) e).1).0
calm_mends told ns w (event.Call site words) e = e
calm_mends told ns w (event.Flow count) e = e
calm_mends told ns w (event.Tick site) e = e
calm_mends told ns w (event.Probe site) e = e
calm_mends told ns w (event.Cut a b) e = e
calm_mends told ns w (event.Heal a b) e = e
calm_mends told ns w (event.Crash site) e = e
calm_mends told ns w (event.Restart site) e = e

-- a pair is healed, or a site starts
abbrev pub opens : List ℕ → WorldState → Event → Bool
opens ns w (event.Heal a b) = has ns a && has ns b
opens ns w (event.Restart site) = has ns site
opens ns w e = false

-- the same, or a message comes that isn't a prepare
abbrev pub carries : ℕ → List ℕ → WorldState → Event → Bool
carries told ns w (event.Deliver k) = nat_lt told k && (is_within ns (message_at w k) && is_calm (message_at w k))
carries told ns w (event.Heal a b) = has ns a && has ns b
carries told ns w (event.Restart site) = has ns site
carries told ns w e = false

pub open_carries : (told : ℕ) (ns : List ℕ) (w : WorldState) (e : Event) → opens ns w e ≡ true → carries told ns w e ≡ true
open_carries told ns w (event.Heal a b) e = e
open_carries told ns w (event.Restart site) e = e
open_carries told ns w (event.Deliver k) e = cc
open_carries told ns w (event.Call site words) e = cc
open_carries told ns w (event.Flow count) e = cc
open_carries told ns w (event.Tick site) e = cc
open_carries told ns w (event.Probe site) e = cc
open_carries told ns w (event.Cut a b) e = cc
open_carries told ns w (event.Crash site) e = cc

pub carry_calm : (told : ℕ) (ns : List ℕ) (w : WorldState) (e : Event) → carries told ns w e ≡ true → calms told ns w e ≡ true
carry_calm told ns w (event.Deliver k) e = e
carry_calm told ns w (event.Call site words) e = cc
carry_calm told ns w (event.Flow count) e = cc
carry_calm told ns w (event.Tick site) e = cc
carry_calm told ns w (event.Probe site) e = cc
carry_calm told ns w (event.Cut a b) e = cc
carry_calm told ns w (event.Heal a b) e = e
carry_calm told ns w (event.Crash site) e = cc
carry_calm told ns w (event.Restart site) e = e

pub each_mends : (catalogue : Catalogue) (told : ℕ) (ns : List ℕ) (events : List Event) (w : WorldState) → EachPasses catalogue (calms told ns) w events → EachPasses catalogue (mends ns) w events
each_mends catalogue told ns [] w h = tt
each_mends catalogue told ns (e ∷ events) w h = (calm_mends told ns w e h.0, each_mends catalogue told ns events (next catalogue e w).world h.1)

-- ---- what passes delivers nothing that was sent before

is_later : (a b : ℕ) → nat_lt a b ≡ true → a < b
is_later a b e = grind (arith, nat_tests, e)

pub calm_fresh : (told : ℕ) (ns : List ℕ) (w : WorldState) (e : Event) → calms told ns w e ≡ true → IsFresh told e
calm_fresh told ns w (event.Deliver k) e = is_later told k (both_true (nat_lt told k) (is_within ns (message_at w k) && is_calm (message_at w k)) e).0
calm_fresh told ns w (event.Call site words) e = tt
calm_fresh told ns w (event.Flow count) e = tt
calm_fresh told ns w (event.Tick site) e = tt
calm_fresh told ns w (event.Probe site) e = tt
calm_fresh told ns w (event.Cut a b) e = tt
calm_fresh told ns w (event.Heal a b) e = tt
calm_fresh told ns w (event.Crash site) e = tt
calm_fresh told ns w (event.Restart site) e = tt

pub each_fresh : (catalogue : Catalogue) (test : WorldState → Event → Bool) (told : ℕ) → ((w : WorldState) (e : Event) → test w e ≡ true → IsFresh told e) → (events : List Event) (w : WorldState) → EachPasses catalogue test w events → AllByRecursion (IsFresh told) events
each_fresh catalogue test told sub [] w h = tt
each_fresh catalogue test told sub (e ∷ events) w h = (sub w e h.0, each_fresh catalogue test told sub events (next catalogue e w).world h.1)

pub both_fresh : (told : ℕ) (front back : List Event) → AllByRecursion (IsFresh told) front → AllByRecursion (IsFresh told) back → AllByRecursion (IsFresh told) (front ++ back)
both_fresh told [] back p q = q
both_fresh told (e ∷ front) back p q = (p.0, both_fresh told front back p.1 q)

-- what serves a client at a site, by messages that were sent after the first so many
abbrev pub serves_since : ℕ → ℕ → List ℕ → WorldState → Event → Bool
serves_since told q ns w (event.Deliver k) = nat_lt told k && is_within ns (message_at w k)
serves_since told q ns w e = serves q ns w e

pub since_serves : (told q : ℕ) (ns : List ℕ) (w : WorldState) (e : Event) → serves_since told q ns w e ≡ true → serves q ns w e ≡ true
since_serves told q ns w (event.Deliver k) e = (both_true (nat_lt told k) (is_within ns (message_at w k)) e).1
since_serves told q ns w (event.Call site words) e = e
since_serves told q ns w (event.Flow count) e = e
since_serves told q ns w (event.Tick site) e = e
since_serves told q ns w (event.Probe site) e = e
since_serves told q ns w (event.Cut a b) e = e
since_serves told q ns w (event.Heal a b) e = e
since_serves told q ns w (event.Crash site) e = e
since_serves told q ns w (event.Restart site) e = e

pub since_fresh : (told q : ℕ) (ns : List ℕ) (w : WorldState) (e : Event) → serves_since told q ns w e ≡ true → IsFresh told e
since_fresh told q ns w (event.Deliver k) e = is_later told k (both_true (nat_lt told k) (is_within ns (message_at w k)) e).0
since_fresh told q ns w (event.Call site words) e = tt
since_fresh told q ns w (event.Flow count) e = tt
since_fresh told q ns w (event.Tick site) e = tt
since_fresh told q ns w (event.Probe site) e = tt
since_fresh told q ns w (event.Cut a b) e = tt
since_fresh told q ns w (event.Heal a b) e = tt
since_fresh told q ns w (event.Crash site) e = tt
since_fresh told q ns w (event.Restart site) e = tt
