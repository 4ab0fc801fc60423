-- Events are read exactly, and none goes on to a longer one by a newline.
use Rattle.std.proofs.Common.{◌≡◌, ℕ, ◌≤◌, ◌<◌, Bool, true, false, cond, eqb, List, [], ◌∷◌, ◌++◌, length, Result, refl, sym, ap, subst, ◌∙◌, arith, inl, inr}
use Rattle.std.specs.Fmt.{decimal}
use Rattle.std.specs.List.{AllByRecursion}
use Rattle.std.proofs.lemmas.Bool.{false≢true, eqb-true, or_cases, lt-ltb, le-ltb, cases_lt}
use Rattle.vp_text.specs.Meaning.{Begins}
use Rattle.vp_text.specs.Tokens.{IsLiteral, IsNumber}
use Rattle.vp_text.specs.Reading.{◌>>=◌, is_digit}
use Rattle.vp_text.proofs.Exact.{Exact, inhabited, right, exact_from, exact_as, Then, Made, made_exact, then_exact, then_right, one_value, Follows}
use Rattle.vp_text.proofs.Numbers.{number_exact}
use Rattle.vp_text.proofs.Fields.{literal_then, literal_outside}
use Rattle.vp_text.proofs.Choices.{follows_from}
use Rattle.vp_text.proofs.WordChoices.{Among, IsWordOf, all_apart, among_end, among_exact}
use Rattle.vp_model.specs.Types.{Event}
use Rattle.vp_model.specs.Types.event
use Rattle.vp_model.specs.Texts.Calls.{event_text, call_text}
use Rattle.vp_catalog.specs.Sites.{AllSites, IsSiteIn, site_at}
use Rattle.vp_catalog.proofs.Sites.{site_exact, site_goes, site_range}
use Rattle.vp_schedule.specs.declared.kind.EventKind.{EventKind}
use Rattle.vp_schedule.specs.declared.kind.EventKind.TheVariants.{Call, Deliver, Flow, Tick, Probe, Crash, Restart, Cut, Heal}
use Rattle.vp_schedule.specs.Grammar.{IsCallText}
use Rattle.vp_schedule.specs.Kinds.{word, single_kinds, all_kinds, kinds_over, kind_at}
use Rattle.vp_schedule.specs.Events.{IsListed, IsPair, IsEvent, IsEventText}
use Rattle.vp_schedule.specs.EventReading.{other_sites, pair_at, called_at, fields_at, event_at}
use Rattle.vp_schedule.proofs.Exact.{call_exact}
use Rattle.vp_schedule.proofs.OtherSites.{others_all, other_listed, listed_other}

-- the word of one of the kinds
abbrev IsKind : List EventKind → EventKind → List ℕ → Type 0
IsKind = IsWordOf word

-- ---- what follows the words

abbrev Pair : List ℕ → ℕ × ℕ → List ℕ → Type 0
Pair sites = Then (IsSiteIn sites 0) (λ a. Then (IsLiteral (32 ∷ [])) (λ _. Made (IsSiteIn (other_sites sites a) 0) (λ b. (a, b))))

abbrev Called : List ℕ → Event → List ℕ → Type 0
Called sites = Then (IsSiteIn sites 0) (λ site. Then (IsLiteral (32 ∷ [])) (λ _. Made IsCallText (λ words. event.Call site words)))

abbrev AtSite : List ℕ → (ℕ → Event) → Event → List ℕ → Type 0
AtSite sites make = Made (IsSiteIn sites 0) make

abbrev Counted : ℕ → (ℕ → Event) → Event → List ℕ → Type 0
Counted most make = Made (IsNumber 1 most) make

abbrev Paired : List ℕ → (ℕ → ℕ → Event) → Event → List ℕ → Type 0
Paired sites make = Made (Pair sites) (λ p. make p.0 p.1)

abbrev Fields : List ℕ → EventKind → Event → List ℕ → Type 0
Fields sites Call = Called sites
Fields sites Deliver = Counted 2000000 (λ k. event.Deliver k)
Fields sites Flow = Counted 100000 (λ count. event.Flow count)
Fields sites Tick = AtSite sites (λ site. event.Tick site)
Fields sites Probe = AtSite sites (λ site. event.Probe site)
Fields sites Crash = AtSite sites (λ site. event.Crash site)
Fields sites Restart = AtSite sites (λ site. event.Restart site)
Fields sites Cut = Paired sites (λ a b. event.Cut a b)
Fields sites Heal = Paired sites (λ a b. event.Heal a b)

-- ---- they are read exactly

-- There is a site; and where the list has two, each one has another.
pub record IsSites (sites : List ℕ) : Type 0 where
  pub all : AllSites sites
  pub some : (s : ℕ) × IsListed sites s
  pub others : 2 ≤ length sites → (site : ℕ) → (s : ℕ) × IsListed (other_sites sites site) s

spaced : {B : Type 0} (M : ℕ → B → List ℕ → Type 0) (sites : List ℕ) → IsSites sites → Follows (IsSiteIn sites 0) (λ site. Then (IsLiteral (32 ∷ [])) (λ _. M site))
spaced M sites h = follows_from is_digit (site_goes sites 0 h.all) (λ site. literal_outside is_digit (32 ∷ []) refl)

listed_exact : (sites : List ℕ) → IsSites sites → Exact (IsSiteIn sites 0) (site_at sites 0)
listed_exact sites h = site_exact sites 0 h.all h.some.0 h.some.1 (omega (arith, (site_range sites h.some.0 h.all h.some.1).0))

other_exact : (sites : List ℕ) → IsSites sites → 2 ≤ length sites → (a : ℕ) → Exact (IsSiteIn (other_sites sites a) 0) (site_at (other_sites sites a) 0)
other_exact sites h two a =
    let all = others_all sites a h.all in
    let s = h.others two a in
    site_exact (other_sites sites a) 0 all s.0 s.1 (omega (arith, (site_range (other_sites sites a) s.0 all s.1).0))

pair_exact : (sites : List ℕ) → IsSites sites → 2 ≤ length sites → Exact (Pair sites) (pair_at sites)
unfolding pair_at
pair_exact sites h two =
    then_exact (spaced (λ a. Made (IsSiteIn (other_sites sites a) 0) (λ b. (a, b))) sites h) (listed_exact sites h)
    (λ a. literal_then (32 ∷ []) (made_exact (λ b. (a, b)) (other_exact sites h two a)))

called_exact : (sites : List ℕ) → IsSites sites → Exact (Called sites) (called_at sites)
unfolding called_at
called_exact sites h = then_exact (spaced (λ site. Made IsCallText (λ words. event.Call site words)) sites h) (listed_exact sites h)
    (λ site. literal_then (32 ∷ []) (made_exact (λ words. event.Call site words) call_exact))

fields_exact : (sites : List ℕ) → IsSites sites → 2 ≤ length sites → (kind : EventKind) → Exact (Fields sites kind) (fields_at sites kind)
unfolding fields_at
fields_exact sites h two Call = called_exact sites h
fields_exact sites h two Deliver = made_exact (λ k. event.Deliver k) (number_exact 1 2000000 (omega arith) (omega arith))
fields_exact sites h two Flow = made_exact (λ count. event.Flow count) (number_exact 1 100000 (omega arith) (omega arith))
fields_exact sites h two Tick = made_exact (λ site. event.Tick site) (listed_exact sites h)
fields_exact sites h two Probe = made_exact (λ site. event.Probe site) (listed_exact sites h)
fields_exact sites h two Crash = made_exact (λ site. event.Crash site) (listed_exact sites h)
fields_exact sites h two Restart = made_exact (λ site. event.Restart site) (listed_exact sites h)
fields_exact sites h two Cut = made_exact (λ p. event.Cut p.0 p.1) (pair_exact sites h two)
fields_exact sites h two Heal = made_exact (λ p. event.Heal p.0 p.1) (pair_exact sites h two)

-- ---- the same without two sites: what follows the word of a pair is never reached

abbrev names_pair : EventKind → Bool
names_pair Call = false
names_pair Deliver = false
names_pair Flow = false
names_pair Tick = false
names_pair Probe = false
names_pair Crash = false
names_pair Restart = false
names_pair Cut = true
names_pair Heal = true

abbrev Single : List ℕ → EventKind → Event → List ℕ → Type 0
Single sites kind e text = cond (names_pair kind) (text ≡ []) (Fields sites kind e text)

single_exact : (sites : List ℕ) → IsSites sites → (kind : EventKind) → names_pair kind ≡ false → Exact (Single sites kind) (fields_at sites kind)
unfolding fields_at
single_exact sites h Call off = called_exact sites h
single_exact sites h Deliver off = made_exact (λ k. event.Deliver k) (number_exact 1 2000000 (omega arith) (omega arith))
single_exact sites h Flow off = made_exact (λ count. event.Flow count) (number_exact 1 100000 (omega arith) (omega arith))
single_exact sites h Tick off = made_exact (λ site. event.Tick site) (listed_exact sites h)
single_exact sites h Probe off = made_exact (λ site. event.Probe site) (listed_exact sites h)
single_exact sites h Crash off = made_exact (λ site. event.Crash site) (listed_exact sites h)
single_exact sites h Restart off = made_exact (λ site. event.Restart site) (listed_exact sites h)
single_exact sites h Cut off = absurd (false≢true (sym off))
single_exact sites h Heal off = absurd (false≢true (sym off))

single_has : (sites : List ℕ) → IsSites sites → (kind : EventKind) (b : Bool) → names_pair kind ≡ b → Begins (Single sites kind) []
single_has sites h kind false off = inhabited (single_exact sites h kind off)
single_has sites h kind true on = record { value = event.Flow 1; more = []; spelled = rw on refl }

all_single : (kinds : List EventKind) → AllByRecursion (λ kind. names_pair kind ≡ false) kinds → (kind : EventKind) → Among kinds kind → names_pair kind ≡ false
all_single [] all kind among = absurd among
all_single (k ∷ kinds) all kind among = elim among [
  | inl same ↦ ap names_pair same ∙ all.0
  | inr more ↦ all_single kinds all.1 kind more
]

single_only : (kind : EventKind) → Among single_kinds kind → names_pair kind ≡ false
single_only = all_single single_kinds (refl, (refl, (refl, (refl, (refl, (refl, (refl, tt)))))))

words_end : (M : EventKind → Event → List ℕ → Type 0) (kinds : List EventKind) → all_apart word kinds ≡ true → Follows (IsKind kinds) M
words_end M kinds apart = λ a a2 text x r b t before longer after. absurd (among_end word kinds apart a a2 text x r before longer)

abbrev read_by : List ℕ → List EventKind → List ℕ → Result (Event × List ℕ) ℕ
read_by sites kinds bytes = kind_at kinds bytes >>= λ x. fields_at sites x.0 x.1

all_parts_exact : (sites : List ℕ) → IsSites sites → 2 ≤ length sites → Exact (Then (IsKind all_kinds) (Fields sites)) (read_by sites all_kinds)
all_parts_exact sites h two = then_exact (words_end (Fields sites) all_kinds refl) (among_exact word Call (Deliver ∷ Flow ∷ Tick ∷ Probe ∷ Crash ∷ Restart ∷ Cut ∷ Heal ∷ []) refl) (fields_exact sites h two)

single_parts_exact : (sites : List ℕ) → IsSites sites → Exact (Then (IsKind single_kinds) (Single sites)) (read_by sites single_kinds)
single_parts_exact sites h =
    let words : Exact (IsKind single_kinds) (kind_at single_kinds) = among_exact word Call (Deliver ∷ Flow ∷ Tick ∷ Probe ∷ Crash ∷ Restart ∷ []) refl in
    exact_from (λ bytes. then_right (one_value words) (words_end (Single sites) single_kinds refl) (λ kind. single_has sites h kind (names_pair kind) refl) (right words bytes)
    (λ kind rest e. right (single_exact sites h kind (single_only kind (words.ok bytes kind rest e).spelled.among)) rest))

-- ---- the parts are the event's text

abbrev Said : List ℕ → EventKind → Event → List ℕ → Type 0
Said sites kind e back = IsEvent sites e × (word kind ++ back ≡ event_text e)

pair_to : (sites : List ℕ) (p : ℕ × ℕ) (back : List ℕ) → Pair sites p back → IsPair sites p.0 p.1 × (back ≡ decimal p.0 ++ 32 ∷ decimal p.1)
pair_to sites p back h =
    let a = h.first in
    let m = h.after.after in
    let b = m.from in
    let other = listed_other sites a b m.spelled.stands in
    subst (λ (p : ℕ × ℕ). IsPair sites p.0 p.1 × (back ≡ decimal p.0 ++ 32 ∷ decimal p.1)) (sym m.is)
    ((h.before.stands, other.0, other.1), h.parts ∙ rw (h.before.is, h.after.parts, h.after.before, m.spelled.is) refl)

fields_to : (sites : List ℕ) (kind : EventKind) (e : Event) (back : List ℕ) → Fields sites kind e back → Said sites kind e back
fields_to sites Call e back h =
    let m = h.after.after in
    let text : back ≡ decimal h.first ++ 32 ∷ call_text m.from = h.parts ∙ rw (h.before.is, h.after.parts, h.after.before, m.spelled.is) refl in
    subst (λ (e : Event). Said sites Call e back) (sym m.is) ((h.before.stands, m.spelled.allowed), ap (λ (x : List ℕ). word Call ++ x) text)
fields_to sites Deliver e back h = subst (λ (e : Event). Said sites Deliver e back) (sym h.is) ((h.spelled.above, h.spelled.below), ap (λ (x : List ℕ). word Deliver ++ x) h.spelled.is)
fields_to sites Flow e back h = subst (λ (e : Event). Said sites Flow e back) (sym h.is) ((h.spelled.above, h.spelled.below), ap (λ (x : List ℕ). word Flow ++ x) h.spelled.is)
fields_to sites Tick e back h = subst (λ (e : Event). Said sites Tick e back) (sym h.is) (h.spelled.stands, ap (λ (x : List ℕ). word Tick ++ x) h.spelled.is)
fields_to sites Probe e back h = subst (λ (e : Event). Said sites Probe e back) (sym h.is) (h.spelled.stands, ap (λ (x : List ℕ). word Probe ++ x) h.spelled.is)
fields_to sites Crash e back h = subst (λ (e : Event). Said sites Crash e back) (sym h.is) (h.spelled.stands, ap (λ (x : List ℕ). word Crash ++ x) h.spelled.is)
fields_to sites Restart e back h = subst (λ (e : Event). Said sites Restart e back) (sym h.is) (h.spelled.stands, ap (λ (x : List ℕ). word Restart ++ x) h.spelled.is)
fields_to sites Cut e back h =
    let p = pair_to sites h.from back h.spelled in
    subst (λ (e : Event). Said sites Cut e back) (sym h.is) (p.0, ap (λ (x : List ℕ). word Cut ++ x) p.1)
fields_to sites Heal e back h =
    let p = pair_to sites h.from back h.spelled in
    subst (λ (e : Event). Said sites Heal e back) (sym h.is) (p.0, ap (λ (x : List ℕ). word Heal ++ x) p.1)

listed_text : (sites : List ℕ) → AllSites sites → (site : ℕ) → IsListed sites site → IsSiteIn sites 0 site (decimal site)
listed_text sites all site h = record { is = refl; stands = h; higher = omega (arith, (site_range sites site all h).0) }

pair_from : (sites : List ℕ) → AllSites sites → (a b : ℕ) → IsPair sites a b → Pair sites (a, b) (decimal a ++ 32 ∷ decimal b)
pair_from sites all a b h = record {
  first = a;
  front = decimal a;
  back = 32 ∷ decimal b;
  before = listed_text sites all a h.0;
  parts = refl;
  after = record {
    first = tt;
    front = 32 ∷ [];
    back = decimal b;
    before = refl;
    parts = refl;
    after = record { from = b; spelled = listed_text (other_sites sites a) (others_all sites a all) b (other_listed sites a b h.1 h.2); is = refl };
  };
}

abbrev kind_of : Event → EventKind
kind_of (event.Call site words) = Call
kind_of (event.Deliver k) = Deliver
kind_of (event.Flow count) = Flow
kind_of (event.Tick site) = Tick
kind_of (event.Probe site) = Probe
kind_of (event.Cut a b) = Cut
kind_of (event.Heal a b) = Heal
kind_of (event.Crash site) = Crash
kind_of (event.Restart site) = Restart

-- what follows the word of an event
record Following (sites : List ℕ) (e : Event) : Type 0 where
  back : List ℕ
  fields : Fields sites (kind_of e) e back
  is : event_text e ≡ word (kind_of e) ++ back

fields_from : (sites : List ℕ) → AllSites sites → (e : Event) → IsEvent sites e → Following sites e
fields_from sites all (event.Call site words) h = record {
  back = decimal site ++ 32 ∷ call_text words;
  is = refl;
  fields = record {
    first = site;
    front = decimal site;
    back = 32 ∷ call_text words;
    before = listed_text sites all site h.0;
    parts = refl;
    after = record { first = tt; front = 32 ∷ []; back = call_text words; before = refl; parts = refl; after = record { from = words; spelled = record { is = refl; allowed = h.1 }; is = refl } };
  };
}
fields_from sites all (event.Deliver k) h = record { back = decimal k; is = refl; fields = record { from = k; spelled = record { is = refl; above = h.0; below = h.1 }; is = refl } }
fields_from sites all (event.Flow count) h = record { back = decimal count; is = refl; fields = record { from = count; spelled = record { is = refl; above = h.0; below = h.1 }; is = refl } }
fields_from sites all (event.Tick site) h = record { back = decimal site; is = refl; fields = record { from = site; spelled = listed_text sites all site h; is = refl } }
fields_from sites all (event.Probe site) h = record { back = decimal site; is = refl; fields = record { from = site; spelled = listed_text sites all site h; is = refl } }
fields_from sites all (event.Crash site) h = record { back = decimal site; is = refl; fields = record { from = site; spelled = listed_text sites all site h; is = refl } }
fields_from sites all (event.Restart site) h = record { back = decimal site; is = refl; fields = record { from = site; spelled = listed_text sites all site h; is = refl } }
fields_from sites all (event.Cut a b) h = record { back = decimal a ++ 32 ∷ decimal b; is = refl; fields = record { from = (a, b); spelled = pair_from sites all a b h; is = refl } }
fields_from sites all (event.Heal a b) h = record { back = decimal a ++ 32 ∷ decimal b; is = refl; fields = record { from = (a, b); spelled = pair_from sites all a b h; is = refl } }

all_among : (kind : EventKind) → Among all_kinds kind
all_among Call = inl refl
all_among Deliver = inr (inl refl)
all_among Flow = inr (inr (inl refl))
all_among Tick = inr (inr (inr (inl refl)))
all_among Probe = inr (inr (inr (inr (inl refl))))
all_among Crash = inr (inr (inr (inr (inr (inl refl)))))
all_among Restart = inr (inr (inr (inr (inr (inr (inl refl))))))
all_among Cut = inr (inr (inr (inr (inr (inr (inr (inl refl)))))))
all_among Heal = inr (inr (inr (inr (inr (inr (inr (inr (inl refl))))))))

single_among : (kind : EventKind) → names_pair kind ≡ false → Among single_kinds kind
single_among Call off = inl refl
single_among Deliver off = inr (inl refl)
single_among Flow off = inr (inr (inl refl))
single_among Tick off = inr (inr (inr (inl refl)))
single_among Probe off = inr (inr (inr (inr (inl refl))))
single_among Crash off = inr (inr (inr (inr (inr (inl refl)))))
single_among Restart off = inr (inr (inr (inr (inr (inr (inl refl))))))
single_among Cut off = absurd (false≢true (sym off))
single_among Heal off = absurd (false≢true (sym off))

only_same : (s a : ℕ) → IsListed (s ∷ []) a → s ≡ a
only_same s a h = elim (or_cases (eqb s a) false h) [ inl same ↦ eqb-true s a same | inr other ↦ absurd (false≢true other) ]

few_same : (sites : List ℕ) (a b : ℕ) → length sites < 2 → IsListed sites a → IsListed sites b → a ≡ b
few_same [] a b few h k = absurd (false≢true h)
few_same (s ∷ []) a b few h k = sym (only_same s a h) ∙ only_same s b k
few_same (s ∷ t ∷ sites) a b few h k = absurd (omega arith)

no_pair : (sites : List ℕ) → length sites < 2 → (e : Event) → IsEvent sites e → names_pair (kind_of e) ≡ false
no_pair sites few (event.Call site words) h = refl
no_pair sites few (event.Deliver k) h = refl
no_pair sites few (event.Flow count) h = refl
no_pair sites few (event.Tick site) h = refl
no_pair sites few (event.Probe site) h = refl
no_pair sites few (event.Cut a b) h = absurd (h.2 (few_same sites a b few h.0 h.1))
no_pair sites few (event.Heal a b) h = absurd (h.2 (few_same sites a b few h.0 h.1))
no_pair sites few (event.Crash site) h = refl
no_pair sites few (event.Restart site) h = refl

event_to : (sites : List ℕ) (kind : EventKind) (e : Event) (front back t : List ℕ) → front ≡ word kind → Fields sites kind e back → t ≡ front ++ back → IsEventText sites e t
event_to sites kind e front back t is h parts =
    let f = fields_to sites kind e back h in
    record { is = parts ∙ ap (λ (x : List ℕ). x ++ back) is ∙ f.1; allowed = f.0 }

all_to : (sites : List ℕ) (e : Event) (t : List ℕ) → Then (IsKind all_kinds) (Fields sites) e t → IsEventText sites e t
all_to sites e t h = event_to sites h.first e h.front h.back t h.before.is h.after h.parts

all_from : (sites : List ℕ) → AllSites sites → (e : Event) (t : List ℕ) → IsEventText sites e t → Then (IsKind all_kinds) (Fields sites) e t
all_from sites all e t h =
    let b = fields_from sites all e h.allowed in
    record { first = kind_of e; front = word (kind_of e); back = b.back; before = record { is = refl; among = all_among (kind_of e) }; after = b.fields; parts = h.is ∙ b.is }

single_to : (sites : List ℕ) (e : Event) (t : List ℕ) → Then (IsKind single_kinds) (Single sites) e t → IsEventText sites e t
single_to sites e t h = event_to sites h.first e h.front h.back t h.before.is (rw (single_only h.first h.before.among) at h.after) h.parts

single_from : (sites : List ℕ) → AllSites sites → length sites < 2 → (e : Event) (t : List ℕ) → IsEventText sites e t → Then (IsKind single_kinds) (Single sites) e t
single_from sites all few e t h =
    let b = fields_from sites all e h.allowed in
    let off = no_pair sites few e h.allowed in
    record { first = kind_of e; front = word (kind_of e); back = b.back; before = record { is = refl; among = single_among (kind_of e) off }; after = rw off b.fields; parts = h.is ∙ b.is }

pub event_exact : (sites : List ℕ) → IsSites sites → Exact (IsEventText sites) (event_at sites)
unfolding event_at
event_exact sites h = elim (cases_lt (length sites) 2) [
  | inl few ↦
      let kinds : kinds_over sites ≡ single_kinds = rw (lt-ltb (length sites) 2 few) refl in
      subst (λ (kinds : List EventKind). Exact (IsEventText sites) (read_by sites kinds)) (sym kinds) (exact_as (single_to sites) (single_from sites h.all few) (single_parts_exact sites h))
  | inr two ↦
      let kinds : kinds_over sites ≡ all_kinds = rw (le-ltb (length sites) 2 two) refl in
      subst (λ (kinds : List EventKind). Exact (IsEventText sites) (read_by sites kinds)) (sym kinds) (exact_as (all_to sites) (all_from sites h.all) (all_parts_exact sites h two))
]
