-- What happened to several processes, in one list, in the order of its moments.
use Rattle.std.specs.Prelude.{◌≡◌, ⊤, ℕ, ◌≤◌, nat_lt, List, [], ◌∷◌, ◌++◌, map, filter}
use Rattle.std.specs.List.{Contains, AllByRecursion}
use Rattle.vp_model.specs.Catalogue.{Catalogue}
use Rattle.vp_outside.specs.declared.datagram.Datagram.{Datagram}
use Rattle.vp_network.specs.Cluster.{ClusterState, Happening, new_cluster, whose, after, cluster, MayAlone, ComesHonestly, MayAll}
use Rattle.vp_network.specs.Apart.{own}

-- What happened to a process, and at which moment, by one clock for all: for a turn, the moment when its datagram was taken.
pub record Timed : Type 0 where
  pub moment : ℕ
  pub what : Happening

-- none is of an earlier moment than one before it
abbrev pub AreInOrder : List Timed → Type 0
AreInOrder [] = ⊤
AreInOrder (t ∷ all) = AllByRecursion (λ (later : Timed). t.moment ≤ later.moment) all × AreInOrder all

abbrev pub happenings_of : List Timed → List Happening
happenings_of all = map (λ (t : Timed). t.what) all

abbrev pub before : ℕ → List Timed → List Timed
before moment all = filter (λ (t : Timed). nat_lt t.moment moment) all

-- the cluster in which things happened to this one process alone
abbrev pub cluster_alone : Catalogue → ℕ → List Timed → ClusterState
cluster_alone catalogue id all = cluster catalogue (own id (happenings_of all))

-- each of them may happen to its process once those before it have, whatever the network brings
abbrev pub MayAllAlone : Catalogue → List Happening → ClusterState → Type 0
MayAllAlone catalogue [] c = ⊤
MayAllAlone catalogue (h ∷ happenings) c = MayAlone catalogue h c × MayAllAlone catalogue happenings (after catalogue h c)

-- It was handed over in the turn of some process whose own datagram was taken before this moment.
abbrev pub IsHandedBefore : Catalogue → List Timed → ℕ → Datagram → Type 0
IsHandedBefore catalogue all moment d = (id : ℕ) × Contains (cluster_alone catalogue id (before moment all)).handed d

-- Each message came after it was handed over.
abbrev pub ComeAfter : Catalogue → List Timed → Type 0
ComeAfter catalogue all =
    (front rest : List Timed) (t : Timed) → all ≡ front ++ t ∷ rest → ComesHonestly catalogue (IsHandedBefore catalogue all t.moment) t.what (cluster_alone catalogue (whose t.what) front)

-- What happened to all processes, put in the order of its moments, may happen, if what happened to each process may, whatever the network
-- brings, and each message came after it was handed over.
abbrev pub ProcessesMakeClusters : Type 0
ProcessesMakeClusters = (catalogue : Catalogue) (all : List Timed) → AreInOrder all → ((id : ℕ) → MayAllAlone catalogue (own id (happenings_of all)) (new_cluster catalogue)) → ComeAfter catalogue all
    → MayAll catalogue (happenings_of all) (new_cluster catalogue)
