-- A letter that comes changes the nodes as it changes their hosts.
use Rattle.std.proofs.Common.{◌≡◌, sym, subst, List, ◌++◌, map}
use Rattle.std.specs.Prelude.{Option, Some, Result, Ok, Err, OnOk, flat_map}
use Rattle.vp_model.specs.Types.{Event}
use Rattle.vp_model.specs.Catalogue.{Catalogue}
use Rattle.vp_model.specs.Site.{SiteState}
use Rattle.vp_runs.specs.Turns.{message_datagram}
use Rattle.vp_node.specs.declared.turned.TurnEffects.{TurnEffects}
use Rattle.vp_cluster.specs.Hosts.{HostValue, Stops, Takes}
use Rattle.vp_cluster.specs.Letter.{Letter, as_received}
use Rattle.vp_cluster.specs.Letters.{sent_from, letter_of}
use Rattle.vp_cluster.specs.Ports.{ChangesAt}
use Rattle.vp_cluster.specs.declared.host.StoppedLog.{StoppedLog}
use Rattle.vp_cluster.specs.Nodes.{NodesValue, Comes, Posts, StopsWith}

pub letter_came : (letter : Letter) (site after : SiteState) (turn_effects : TurnEffects) (catalogue : Catalogue) (hosts next : List HostValue) (letters more : List Letter) (old : NodesValue)
    → record { catalogue = catalogue; hosts = hosts; letters = letters } ≡ old
    → ChangesAt letter.to (λ host next. Takes catalogue (as_received letter) site host next after turn_effects) hosts next → more ≡ letters ++ map (sent_from letter.to) (flat_map (message_datagram catalogue) turn_effects.effects.messages)
    → Comes letter site old (record { catalogue = catalogue; hosts = next; letters = more })
letter_came letter site after turn_effects catalogue hosts next letters more old is changes put =
    subst (λ (old : NodesValue). Comes letter site old (record { catalogue = catalogue; hosts = next; letters = more })) is (after, turn_effects, changes, put)

pub letter_stops : (letter : Letter) (site : SiteState) (catalogue : Catalogue) (hosts next : List HostValue) (letters : List Letter) (left : Option StoppedLog) (old new : NodesValue)
    → record { catalogue = catalogue; hosts = hosts; letters = letters } ≡ old → new.hosts ≡ next → ChangesAt letter.to (λ host next. Stops catalogue (as_received letter) site host next left) hosts next → StopsWith letter site left old new
letter_stops letter site catalogue hosts next letters left old new is same changes =
    subst (λ (old : NodesValue). StopsWith letter site left old new) is
    (subst (λ (next : List HostValue). ChangesAt letter.to (λ host next. Stops catalogue (as_received letter) site host next left) hosts next) (sym same) changes)

-- the event's letter has come, if there was memory for that
pub letter_posts : {T E : Type 0} (r : Result T E) (letter : Letter) (e : Event) (site : SiteState) (old new : NodesValue) → Some letter ≡ letter_of old.catalogue old.letters e → OnOk r (Comes letter site old new) → OnOk r (new.catalogue ≡ old.catalogue) → OnOk r (Posts e site old new)
letter_posts (Ok x) letter e site old new is comes same = record { letter = letter; letter_is = sym is; comes = comes; same_catalogue = same }
letter_posts (Err x) letter e site old new is comes same = tt
