-- What happened to several processes may happen, in the order of its moments.
use Rattle.std.proofs.Common.{◌≡◌, ◌∙◌, ap, sym, subst, ℕ, ◌≤◌, arith, Bool, true, false, cond, List, [], ◌∷◌, ◌++◌, refl}
use Rattle.std.specs.Prelude.{Option, Some, None, IfSome, ◌==◌, nat_lt, option_and_then}
use Rattle.std.specs.List.{Contains, AllByRecursion}
use Rattle.std.specs.Option.{option_map_or}
use Rattle.std.proofs.lemmas.Bool.Decides.{nat_tests}
use Rattle.std.proofs.lemmas.List.{append_assoc, map-append}
use Rattle.std.proofs.lemmas.List.Elements.{filter-append}
use Rattle.vp_model.specs.Words.{for_each}
use Rattle.vp_model.specs.Catalogue.{Catalogue}
use Rattle.vp_laws.proofs.Lists.Members.{Has, has_left, has_of, contains}
use Rattle.vp_laws.proofs.Lists.Numbers.{eq_self}
use Rattle.vp_outside.specs.declared.datagram.Datagram.{Datagram}
use Rattle.vp_runs.specs.Arrivals.{arrival}
use Rattle.vp_runs.specs.Turns.{turn_on}
use Rattle.vp_network.specs.Cluster.{Process, ClusterState, Happening, new_cluster, process_of, known_catalogue, whose, datagram_of, after, cluster, IsLeft, MayAlone, IsHonest, ComesHonestly, MayAll}
use Rattle.vp_network.specs.Apart.{own}
use Rattle.vp_network.specs.Together.{Timed, AreInOrder, happenings_of, before, MayAllAlone, IsHandedBefore, ComeAfter, ProcessesMakeClusters}
use Rattle.vp_network.proofs.Apart.{given, makes, processes_are_apart}

module _ (catalogue : Catalogue) where
  -- ---- what depends on one process alone

  abbrev knows : Option Process → Catalogue
  knows o = record catalogue { sites = option_map_or (λ (p : Process). p.sites) o [] }

  allows : (h : Happening) (c e : ClusterState) → process_of (whose h) c.processes ≡ process_of (whose h) e.processes → MayAlone catalogue h e → MayAlone catalogue h c
  allows (Happening.Starts id sites) c e same may = may
  allows (Happening.Comes id d) c e same may = tt
  allows (Happening.Dies id left) c e same may = subst (λ (o : Option Process). IfSome (option_and_then (λ (p : Process). p.up) o) (λ site. IsLeft catalogue id left site)) (sym same) may
  allows (Happening.Breaks id d left sent) c e same may =
      subst (λ (o : Option Process). IfSome (option_and_then (λ (p : Process). p.up) o) (λ site. IsLeft catalogue id left (turn_on (knows o) site (arrival (knows o) site.id d)).site)) (sym same) may

  -- what was handed over in one cluster was in the other
  comes : (P Q : Datagram → Type 0) → ((d : Datagram) → P d → Q d) → (h : Happening) (c e : ClusterState) → process_of (whose h) c.processes ≡ process_of (whose h) e.processes
      → ComesHonestly catalogue P h e → ComesHonestly catalogue Q h c
  comes P Q more h c e same honest = go (datagram_of h) (subst (λ (o : Option Process). IfSome (datagram_of h) (λ d. IsHonest (knows o) P (whose h) d)) (sym same) honest)
    where
      go : (o : Option Datagram) → IfSome o (λ d. IsHonest (known_catalogue catalogue (whose h) c) P (whose h) d) → IfSome o (λ d. IsHonest (known_catalogue catalogue (whose h) c) Q (whose h) d)
      go None honest = tt
      go (Some d) honest = λ from message is. let it = honest from message is in (it.0, more it.0 it.1, it.2)

  -- ---- lists of happenings

  alone_at : (xs ys : List Happening) (y : Happening) (c : ClusterState) → MayAllAlone catalogue (xs ++ y ∷ ys) c → MayAlone catalogue y (for_each xs (after catalogue) c)
  alone_at [] ys y c h = h.0
  alone_at (x ∷ xs) ys y c h = alone_at xs ys y (after catalogue x c) h.1

  own_at : (xs ys : List Happening) (y : Happening) → own (whose y) (xs ++ y ∷ ys) ≡ own (whose y) xs ++ y ∷ own (whose y) ys
  own_at xs ys y = filter-append (λ h. whose h == whose y) xs (y ∷ ys) ∙ ap (λ (b : Bool). own (whose y) xs ++ cond b (y ∷ own (whose y) ys) (own (whose y) ys)) (eq_self (whose y))

  over_more : (xs ys : List Happening) (c : ClusterState) → for_each (xs ++ ys) (after catalogue) c ≡ for_each ys (after catalogue) (for_each xs (after catalogue) c)
  over_more [] ys c = refl
  over_more (x ∷ xs) ys c = over_more xs ys (after catalogue x c)

  -- what was handed over stays handed over
  stays : (hs : List Happening) (c : ClusterState) (d : Datagram) → Has c.handed d → Has (for_each hs (after catalogue) c).handed d
  stays [] c d has = has
  stays (h ∷ hs) c d has =
      let m = makes catalogue (whose h) h c in
      stays hs (after catalogue h c) d (subst (λ ds. Has ds d) (sym m.handed) (has_left c.handed (given catalogue (whose h) h (process_of (whose h) c.processes)) d has))

  -- ---- what happened before a moment

  none_before : (moment : ℕ) (all : List Timed) → AllByRecursion (λ (later : Timed). moment ≤ later.moment) all → before moment all ≡ []
  none_before moment [] h = refl
  none_before moment (t ∷ all) h = ap (λ (b : Bool). cond b (t ∷ before moment all) (before moment all)) (not_less t.moment moment h.0) ∙ none_before moment all h.1
    where
      not_less : (m n : ℕ) → n ≤ m → nat_lt m n ≡ false
      not_less m n le = grind (arith, nat_tests, le)

  no_earlier : (m n : ℕ) (all : List Timed) → m ≤ n → AllByRecursion (λ (later : Timed). n ≤ later.moment) all → AllByRecursion (λ (later : Timed). m ≤ later.moment) all
  no_earlier m n [] le h = tt
  no_earlier m n (t ∷ all) le h = (omega (arith, le, h.0), no_earlier m n all le h.1)

  -- it is the beginning of what is listed before the moment
  record Begins (moment : ℕ) (front all : List Timed) : Type 0 where
    first : List Timed
    later : List Timed
    is : front ≡ first ++ later
    before_is : before moment all ≡ first

  begins : (front rest : List Timed) (t : Timed) → AreInOrder (front ++ t ∷ rest) → Begins t.moment front (front ++ t ∷ rest)
  begins [] rest t order = record { first = []; later = []; is = refl; before_is = none_before t.moment (t ∷ rest) (omega arith, order.0) }
  begins (f ∷ front) rest t order = go (nat_lt f.moment t.moment) refl (begins front rest t order.1)
    where
      not_before : (m n : ℕ) → nat_lt m n ≡ false → n ≤ m
      not_before m n e = grind (arith, nat_tests, e)

      test : (b : Bool) → nat_lt f.moment t.moment ≡ b → before t.moment (f ∷ front ++ t ∷ rest) ≡ cond b (f ∷ before t.moment (front ++ t ∷ rest)) (before t.moment (front ++ t ∷ rest))
      test b e = ap (λ (c : Bool). cond c (f ∷ before t.moment (front ++ t ∷ rest)) (before t.moment (front ++ t ∷ rest))) e

      go : (b : Bool) → nat_lt f.moment t.moment ≡ b → Begins t.moment front (front ++ t ∷ rest) → Begins t.moment (f ∷ front) (f ∷ front ++ t ∷ rest)
      go true e b = record { first = f ∷ b.first; later = b.later; is = ap (λ ts. f ∷ ts) b.is; before_is = test true e ∙ ap (λ ts. f ∷ ts) b.before_is }
      go false e b = record { first = []; later = f ∷ front; is = refl; before_is = test false e ∙ none_before t.moment (front ++ t ∷ rest) (no_earlier t.moment f.moment (front ++ t ∷ rest) (not_before f.moment t.moment e) order.0) }

  -- ---- the whole

  abbrev so_far : List Timed → ClusterState
  so_far front = for_each (happenings_of front) (after catalogue) (new_cluster catalogue)

  abbrev own_so_far : ℕ → List Timed → ClusterState
  own_so_far id front = for_each (own id (happenings_of front)) (after catalogue) (new_cluster catalogue)

  same_process : (front : List Timed) (id : ℕ) → process_of id (so_far front).processes ≡ process_of id (own_so_far id front).processes
  same_process front id = (processes_are_apart catalogue (new_cluster catalogue) (happenings_of front) id).process

  handed_by_then : (front rest : List Timed) (t : Timed) → AreInOrder (front ++ t ∷ rest) → (d : Datagram) → IsHandedBefore catalogue (front ++ t ∷ rest) t.moment d → Contains (so_far front).handed d
  unfolding cluster
  handed_by_then front rest t order d (id, has) =
      let b = begins front rest t order in
      let of_first : Contains (own_so_far id b.first).handed d = subst (λ ts. Contains (own_so_far id ts).handed d) b.before_is has in
      let in_first = (processes_are_apart catalogue (new_cluster catalogue) (happenings_of b.first) id).handed d of_first in
      let is : so_far front ≡ for_each (happenings_of b.later) (after catalogue) (so_far b.first) = ap so_far b.is ∙ ap (λ hs. for_each hs (after catalogue) (new_cluster catalogue)) (map-append (λ (t : Timed). t.what) b.first b.later) ∙ over_more (happenings_of b.first) (happenings_of b.later) (new_cluster catalogue) in
      contains _ d (subst (λ (c : ClusterState). Has c.handed d) (sym is) (stays (happenings_of b.later) (so_far b.first) d (has_of _ d in_first)))

  module _ (all : List Timed) (order : AreInOrder all) (each : (id : ℕ) → MayAllAlone catalogue (own id (happenings_of all)) (new_cluster catalogue)) (come : ComeAfter catalogue all) where
    one_may : (front rest : List Timed) (t : Timed) → all ≡ front ++ t ∷ rest → MayAlone catalogue t.what (so_far front) × ComesHonestly catalogue (Contains (so_far front).handed) t.what (so_far front)
    unfolding cluster
    one_may front rest t e =
        let id = whose t.what in
        let own_is : own id (happenings_of all) ≡ own id (happenings_of front) ++ t.what ∷ own id (happenings_of rest) = ap (λ ts. own id (happenings_of ts)) e ∙ ap (own id) (map-append (λ (t : Timed). t.what) front (t ∷ rest)) ∙ own_at (happenings_of front) (happenings_of rest) t.what in
        let may = alone_at (own id (happenings_of front)) (own id (happenings_of rest)) t.what (new_cluster catalogue) (subst (λ hs. MayAllAlone catalogue hs (new_cluster catalogue)) own_is (each id)) in (
          allows t.what (so_far front) (own_so_far id front) (same_process front id) may,
          comes (IsHandedBefore catalogue all t.moment) (Contains (so_far front).handed)
              (λ d has. handed_by_then front rest t (subst AreInOrder e order) d (subst (λ ts. IsHandedBefore catalogue ts t.moment d) e has))
              t.what (so_far front) (own_so_far id front) (same_process front id) (come front rest t e),
        )

    all_may : (front rest : List Timed) → all ≡ front ++ rest → MayAll catalogue (happenings_of rest) (so_far front)
    all_may front [] e = tt
    all_may front (t ∷ rest) e =
        let next : so_far (front ++ t ∷ []) ≡ after catalogue t.what (so_far front) = ap (λ hs. for_each hs (after catalogue) (new_cluster catalogue)) (map-append (λ (t : Timed). t.what) front (t ∷ [])) ∙ over_more (happenings_of front) (t.what ∷ []) (new_cluster catalogue) in (
          one_may front rest t e,
          subst (MayAll catalogue (happenings_of rest)) next (all_may (front ++ t ∷ []) rest (e ∙ sym (append_assoc front (t ∷ []) rest))),
        )

pub processes_make_clusters : ProcessesMakeClusters
processes_make_clusters catalogue all order each come = all_may catalogue all order each come [] all refl
