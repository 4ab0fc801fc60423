-- The events that a schedule may have over the sites of its catalogue, with their texts.
use Rattle.std.specs.Prelude.{◌≡◌, ◌≢◌, ℕ, ◌≤◌, List, true}
use Rattle.vp_model.specs.Types.{Event}
use Rattle.vp_model.specs.Types.event
use Rattle.vp_model.specs.Words.{has}
use Rattle.vp_model.specs.Texts.Calls.{event_text}
use Rattle.vp_base.specs.Calls.{IsCall}

abbrev pub IsListed : List ℕ → ℕ → Type 0
IsListed sites site = has sites site ≡ true

-- a number from 1 to most
abbrev pub IsCount : ℕ → ℕ → Type 0
IsCount most n = (1 ≤ n) × (n ≤ most)

-- two different sites of the list
abbrev pub IsPair : List ℕ → ℕ → ℕ → Type 0
IsPair sites a b = IsListed sites a × IsListed sites b × (a ≢ b)

abbrev pub IsEvent : List ℕ → Event → Type 0
IsEvent sites (event.Call site words) = IsListed sites site × IsCall words
IsEvent sites (event.Deliver k) = IsCount 2000000 k
IsEvent sites (event.Flow count) = IsCount 100000 count
IsEvent sites (event.Tick site) = IsListed sites site
IsEvent sites (event.Probe site) = IsListed sites site
IsEvent sites (event.Cut a b) = IsPair sites a b
IsEvent sites (event.Heal a b) = IsPair sites a b
IsEvent sites (event.Crash site) = IsListed sites site
IsEvent sites (event.Restart site) = IsListed sites site

-- The text is that of an event, as its line has it.
pub record IsEventText (sites : List ℕ) (e : Event) (text : List ℕ) : Type 0 where
  pub is : text ≡ event_text e
  pub allowed : IsEvent sites e
