-- The lines of a catalogue are read exactly.
use Rattle.std.proofs.Common.{◌≡◌, ℕ, suc, ◌+◌, ◌<◌, ◌≤◌, Bool, true, false, cond, ltb, leb, List, [], ◌∷◌, ◌++◌, length, Result, refl, sym, ap, subst, ◌∙◌, append_assoc, arith, inl, inr}
use Rattle.std.specs.Prelude.{codes, flat_map, nat_lt}
use Rattle.std.specs.Fmt.{decimal}
use Rattle.std.proofs.lemmas.List.Concat.{flat_map-cons}
use Rattle.std.proofs.lemmas.Bool.{false≢true, lt-ltb, ltb-true, ltb-false, le-leb, leb-true, leb-false, and_parts, and_cases, and_from, or_cases, or_left, or_right}
use Rattle.vp_text.specs.Tokens.{IsLiteral, IsWord, IsNumber, Either, HasItems}
use Rattle.vp_text.specs.Reading.{is_digit, either}
use Rattle.vp_text.specs.Classes.{has, most}
use Rattle.vp_text.specs.declared.class.Class.TheVariants as classes
use Rattle.vp_text.proofs.Exact.{Exact, Then, Made, made_exact, exact_as, then_exact, one_value}
use Rattle.vp_text.proofs.Words.{literal_exact}
use Rattle.vp_text.proofs.Numbers.{number_exact}
use Rattle.vp_text.proofs.Fields.{literal_then, word_then, number_then, literal_outside, made_outside, Outside}
use Rattle.vp_text.proofs.Choices.{GoesOn, then_goes, literal_goes, made_goes, number_goes, follows_from, either_exact, clear_keys, literal_opens, IsClear, Opens}
use Rattle.vp_text.proofs.Repeats.{Repeats, items_exact}
use Rattle.vp_base.specs.Words.{IsName, IsValue}
use Rattle.vp_model.specs.Words as words
use Rattle.vp_model.specs.Catalogue.{Catalogue, RecordEntry, sites_of}
use Rattle.vp_model.specs.Texts.Fields.{weight_text}
use Rattle.vp_catalog.specs.declared.entry.Entry.{Entry}
use Rattle.vp_catalog.specs.declared.entry.Entry.TheVariants.{Site, Record}
use Rattle.vp_catalog.specs.Sites.{AllSites, IsSiteIn}
use Rattle.vp_catalog.specs.Entries.{IsWeight, AreWeights, last_from, last_site, EntryText}
use Rattle.vp_catalog.specs.EntryReading.{some_above, weight_at, others_at, weights_at, record_of, record_at, port_at, may_add_site, may_add_record, entry_at}
use Rattle.vp_catalog.proofs.Sites.{site_exact, site_goes, has_cons, has_here, has_later}

-- ---- a holder

abbrev WeightParts : List ℕ → ℕ → ℕ × ℕ → List ℕ → Type 0
WeightParts sites above = Then (IsLiteral (32 ∷ [])) (λ _. Then (IsSiteIn sites above) (λ site. Then (IsLiteral (58 ∷ [])) (λ _. Made (IsNumber 1 65535) (λ weight. (site, weight)))))

-- ` N:W`, a holder above the given one
abbrev WeightText : List ℕ → ℕ → ℕ × ℕ → List ℕ → Type 0
WeightText sites above weight text = IsWeight sites above weight × (text ≡ weight_text weight)

weight_to : (sites : List ℕ) (above : ℕ) (w : ℕ × ℕ) (t : List ℕ) → WeightParts sites above w t → WeightText sites above w t
weight_to sites above w t h =
    let s = h.after in
    let n = s.after.after in
    subst (λ (w : ℕ × ℕ). WeightText sites above w t) (sym n.is) (
      record { stands = s.before.stands; higher = s.before.higher; some = n.spelled.above; fits = n.spelled.below },
      rw (h.parts, h.before, s.parts, s.before.is, s.after.parts, s.after.before, n.spelled.is) refl,
    )

weight_from : (sites : List ℕ) (above : ℕ) (w : ℕ × ℕ) (t : List ℕ) → WeightText sites above w t → WeightParts sites above w t
weight_from sites above w t h = record {
  first = tt;
  front = 32 ∷ [];
  back = decimal w.0 ++ 58 ∷ decimal w.1;
  before = refl;
  parts = h.1;
  after = record {
    first = w.0;
    front = decimal w.0;
    back = 58 ∷ decimal w.1;
    before = record { is = refl; stands = h.0.stands; higher = h.0.higher };
    parts = refl;
    after = record {
      first = tt;
      front = 58 ∷ [];
      back = decimal w.1;
      before = refl;
      parts = refl;
      after = record { from = w.1; spelled = record { is = refl; above = h.0.some; below = h.0.fits }; is = refl };
    };
  };
}

-- a site of the list that is above the given one
abbrev pub Above : List ℕ → ℕ → Type 0
Above sites above = (s : ℕ) × (words.has sites s ≡ true) × (above < s)

above_from : (sites : List ℕ) (above : ℕ) → some_above sites above ≡ true → Above sites above
above_from [] above e = absurd (false≢true e)
above_from (x ∷ sites) above e = elim (or_cases (nat_lt above x) (some_above sites above) e) [
  | inl lt ↦ (x, has_here x x sites refl, ltb-true above x lt)
  | inr more ↦ let w = above_from sites above more in (w.0, has_later x w.0 sites w.1, w.2)
]

weight_parts_exact : (sites : List ℕ) (above : ℕ) → AllSites sites → Above sites above → Exact (WeightParts sites above) (weight_at sites above)
unfolding weight_at
weight_parts_exact sites above all some =
    literal_then (32 ∷ []) (then_exact (follows_from is_digit (site_goes sites above all) (λ site. literal_outside is_digit (58 ∷ []) refl)) (site_exact sites above all some.0 some.1 some.2)
    (λ site. literal_then (58 ∷ []) (made_exact (λ weight. (site, weight)) (number_exact 1 65535 (omega arith) (omega arith)))))

weight_exact : (sites : List ℕ) (above : ℕ) → AllSites sites → Above sites above → Exact (WeightText sites above) (weight_at sites above)
weight_exact sites above all some = exact_as (weight_to sites above) (weight_from sites above) (weight_parts_exact sites above all some)

parts_go : (sites : List ℕ) (above : ℕ) → AllSites sites → Above sites above → GoesOn is_digit (WeightParts sites above)
parts_go sites above all some =
    literal_goes is_digit (32 ∷ []) (then_goes is_digit (one_value (site_exact sites above all some.0 some.1 some.2)) (follows_from is_digit (site_goes sites above all) (λ site. literal_outside is_digit (58 ∷ []) refl))
    (λ site. literal_goes is_digit (58 ∷ []) (made_goes is_digit (number_goes 1 65535 (omega arith)))))

weight_goes : (sites : List ℕ) (above : ℕ) → AllSites sites → GoesOn is_digit (WeightText sites above)
weight_goes sites above all = λ a a2 text x r before longer.
    parts_go sites above all (a.0, before.0.stands, before.0.higher) a a2 text x r (weight_from sites above a text before) (weight_from sites above a2 (text ++ x ∷ r) longer)

weight_opens : (sites : List ℕ) (above : ℕ) → Opens (32 ∷ []) (WeightText sites above)
weight_opens sites above = λ w t h. (decimal w.0 ++ 58 ∷ decimal w.1, h.1)

-- ---- the holders of a record

abbrev Others : List ℕ → ℕ → List (ℕ × ℕ) → List ℕ → Type 0
Others sites above = HasItems (some_above sites) (λ above weight. weight.0) (WeightText sites) (10 ∷ []) above

others_repeat : (sites : List ℕ) → AllSites sites → Repeats (some_above sites) (λ above weight. weight.0) (WeightText sites) (weight_at sites) (32 ∷ []) (10 ∷ []) is_digit
others_repeat sites all = record {
  exact = λ above on. weight_exact sites above all (above_from sites above on);
  opens = λ above. weight_opens sites above;
  goes = λ above. weight_goes sites above all;
  apart = refl;
  back = refl;
  key_some = omega arith;
  key_outside = refl;
  ending_outside = refl;
}

others_exact : (sites : List ℕ) (above : ℕ) → AllSites sites → Exact (Others sites above) (λ bytes. others_at sites (suc (length bytes)) above bytes)
others_exact sites above all = items_exact (some_above sites) (λ above weight. weight.0) (WeightText sites) (weight_at sites) (32 ∷ []) (10 ∷ []) is_digit (others_repeat sites all) above

others_outside : (sites : List ℕ) (above : ℕ) (ws : List (ℕ × ℕ)) (t : List ℕ) → Others sites above ws t → Outside is_digit t
others_outside sites above [] t h = subst (Outside is_digit) (sym h) refl
others_outside sites above (w ∷ ws) t h = subst (Outside is_digit) (sym (h.5 ∙ ap (λ (z : List ℕ). z ++ h.1) h.3.1)) refl

abbrev WeightsParts : List ℕ → List (ℕ × ℕ) → List ℕ → Type 0
WeightsParts sites = Then (WeightText sites 0) (λ first. Made (Others sites first.0) (λ others. first ∷ others))

weights_exact : (sites : List ℕ) → AllSites sites → Above sites 0 → Exact (WeightsParts sites) (weights_at sites)
unfolding weights_at
weights_exact sites all some =
    then_exact (follows_from is_digit (weight_goes sites 0 all) (λ first ws t m. others_outside sites first.0 m.from t m.spelled)) (weight_exact sites 0 all some)
    (λ first. made_exact (λ others. first ∷ others) (others_exact sites first.0 all))

some_is : (sites : List ℕ) (above s : ℕ) → words.has sites s ≡ true → above < s → some_above sites above ≡ true
some_is [] above s h lt = absurd (false≢true h)
some_is (x ∷ sites) above s h lt = elim (has_cons x s sites h) [
  | inl same ↦ or_left (nat_lt above x) (some_above sites above) (lt-ltb above x (subst (λ (y : ℕ). above < y) (sym same) lt))
  | inr more ↦ or_right (nat_lt above x) (some_above sites above) (some_is sites above s more lt)
]

-- the text of some holders, and the newline
abbrev weights_text : List (ℕ × ℕ) → List ℕ
weights_text ws = flat_map weight_text ws ++ 10 ∷ []

others_to : (sites : List ℕ) (above : ℕ) (ws : List (ℕ × ℕ)) (t : List ℕ) → Others sites above ws t → AreWeights sites above ws × (t ≡ weights_text ws)
others_to sites above [] t h = (tt, h)
others_to sites above (w ∷ ws) t h =
    let rest = others_to sites w.0 ws h.1 h.4 in (
      (h.3.0, rest.0),
      h.5 ∙ ap (λ (x : List ℕ). x ++ h.1) h.3.1 ∙ ap (λ (x : List ℕ). weight_text w ++ x) rest.1 ∙ sym (append_assoc (weight_text w) (flat_map weight_text ws) (10 ∷ [])) ∙ ap (λ (x : List ℕ). x ++ 10 ∷ []) (sym (flat_map-cons weight_text w ws)),
    )

others_from : (sites : List ℕ) (above : ℕ) (ws : List (ℕ × ℕ)) (t : List ℕ) → AreWeights sites above ws → t ≡ weights_text ws → Others sites above ws t
others_from sites above [] t h e = e
others_from sites above (w ∷ ws) t h e = (
  weight_text w,
  weights_text ws,
  some_is sites above w.0 h.0.stands h.0.higher,
  (h.0, refl),
  others_from sites w.0 ws (weights_text ws) h.1 refl,
  e ∙ ap (λ (x : List ℕ). x ++ 10 ∷ []) (flat_map-cons weight_text w ws) ∙ append_assoc (weight_text w) (flat_map weight_text ws) (10 ∷ []),
)

-- at least one holder, ascending
record Held (sites : List ℕ) (ws : List (ℕ × ℕ)) (t : List ℕ) : Type 0 where
  held : 0 < length ws
  are : AreWeights sites 0 ws
  text : t ≡ weights_text ws

weights_to : (sites : List ℕ) (ws : List (ℕ × ℕ)) (t : List ℕ) → WeightsParts sites ws t → Held sites ws t
weights_to sites ws t h =
    let o = others_to sites h.first.0 h.after.from h.back h.after.spelled in
    subst (λ (ws : List (ℕ × ℕ)). Held sites ws t) (sym h.after.is) (record {
      held = omega arith;
      are = (h.before.0, o.0);
      text = h.parts ∙ ap (λ (x : List ℕ). x ++ h.back) h.before.1 ∙ ap (λ (x : List ℕ). weight_text h.first ++ x) o.1 ∙ sym (append_assoc (weight_text h.first) (flat_map weight_text h.after.from) (10 ∷ []))
          ∙ ap (λ (x : List ℕ). x ++ 10 ∷ []) (sym (flat_map-cons weight_text h.first h.after.from));
    })

weights_from : (sites : List ℕ) (ws : List (ℕ × ℕ)) (t : List ℕ) → 0 < length ws → AreWeights sites 0 ws → t ≡ weights_text ws → WeightsParts sites ws t
weights_from sites [] t some h e = absurd (omega arith)
weights_from sites (w ∷ ws) t some h e = record {
  first = w;
  front = weight_text w;
  back = weights_text ws;
  before = (h.0, refl);
  after = record { from = ws; spelled = others_from sites w.0 ws (weights_text ws) h.1 refl; is = refl };
  parts = e ∙ ap (λ (x : List ℕ). x ++ 10 ∷ []) (flat_map-cons weight_text w ws) ∙ append_assoc (weight_text w) (flat_map weight_text ws) (10 ∷ []);
}

weights_outside : (sites : List ℕ) (ws : List (ℕ × ℕ)) (t : List ℕ) → WeightsParts sites ws t → Outside (has classes.Value) t
weights_outside sites ws t h = subst (Outside (has classes.Value)) (sym (h.parts ∙ ap (λ (x : List ℕ). x ++ h.back) h.before.1)) refl

-- ---- the lines

abbrev PortParts : ℕ → Entry → List ℕ → Type 0
PortParts last = Then (IsLiteral (codes "site ")) (λ _. Then (IsNumber (last + 1) 16) (λ site. Then (IsLiteral (32 ∷ [])) (λ _. Then (IsNumber 1 65535) (λ port. Made (IsLiteral (10 ∷ [])) (λ _. Site site port)))))

port_exact : (last : ℕ) → last < 16 → Exact (PortParts last) (port_at last)
unfolding port_at
port_exact last room =
    literal_then (codes "site ") (number_then (last + 1) 16 (omega arith) (omega arith) (λ site. literal_outside is_digit (32 ∷ []) refl)
    (λ site. literal_then (32 ∷ []) (number_then 1 65535 (omega arith) (omega arith) (λ port. made_outside is_digit (10 ∷ []) refl)
    (λ port. made_exact (λ u. Site site port) (literal_exact (10 ∷ []))))))

abbrev RecordParts : List ℕ → Entry → List ℕ → Type 0
RecordParts sites = Then (IsLiteral (codes "record ")) (λ _. Then IsName (λ name. Then (IsLiteral (32 ∷ [])) (λ _. Then IsValue (λ start. Made (WeightsParts sites) (λ ws. Record (record_of name start ws))))))

record_exact : (sites : List ℕ) → AllSites sites → Above sites 0 → Exact (RecordParts sites) (record_at sites)
unfolding record_at
record_exact sites all some =
    literal_then (codes "record ") (word_then (has classes.Name) (most classes.Name) 97 refl (omega arith) (λ name. literal_outside (has classes.Name) (32 ∷ []) refl)
    (λ name. literal_then (32 ∷ []) (word_then (has classes.Value) (most classes.Value) 97 refl (omega arith) (λ start entry t m. weights_outside sites m.from t m.spelled)
    (λ start. made_exact (λ ws. Record (record_of name start ws)) (weights_exact sites all some)))))

port_to : (c : Catalogue) → length c.records ≡ 0 → (e : Entry) (t : List ℕ) → PortParts (last_site c) e t → EntryText c e t
port_to c none e t h =
    let s = h.after in
    let p = s.after.after in
    subst (λ (e : Entry). EntryText c e t) (sym p.after.is) (record {
      first = none;
      site_is = record { higher = omega (arith, s.before.above); fits = s.before.below; port_some = p.before.above; port_fits = p.before.below };
      is = rw (h.parts, h.before, s.parts, s.before.is, s.after.parts, s.after.before, p.parts, p.before.is, p.after.spelled) refl;
    })

word_self : {admits : ℕ → Bool} {size : ℕ} (word t : List ℕ) → IsWord admits size word t → IsWord admits size word word
word_self {admits = admits} {size = size} word t h = subst (λ (x : List ℕ). IsWord admits size word x) (sym h.is) h

record_to : (c : Catalogue) (e : Entry) (t : List ℕ) → RecordParts (sites_of c) e t → EntryText c e t
record_to c e t h =
    let n = h.after in
    let v = n.after.after in
    let ws = v.after.from in
    let w = weights_to (sites_of c) ws v.back v.after.spelled in
    subst (λ (e : Entry). EntryText c e t) (sym v.after.is) (record {
      record_is = record { name_is = word_self n.first n.front n.before; start_is = word_self v.first v.front v.before; held = w.held; weights_are = w.are };
      is = rw (h.parts, h.before, n.parts, ← n.before.is, n.after.parts, n.after.before, v.parts, ← v.before.is, w.text) refl;
    })

either_to : (c : Catalogue) → length c.records ≡ 0 → (e : Entry) (t : List ℕ) → Either (PortParts (last_site c)) (RecordParts (sites_of c)) e t → EntryText c e t
either_to c none e t h = elim h [ inl s ↦ port_to c none e t s | inr r ↦ record_to c e t r ]

port_from : (c : Catalogue) (site port : ℕ) (t : List ℕ) → EntryText c (Site site port) t → PortParts (last_site c) (Site site port) t
port_from c site port t h = record {
  first = tt;
  front = codes "site ";
  back = decimal site ++ 32 ∷ (decimal port ++ 10 ∷ []);
  before = refl;
  parts = h.is;
  after = record {
    first = site;
    front = decimal site;
    back = 32 ∷ (decimal port ++ 10 ∷ []);
    before = record { is = refl; above = omega (arith, h.site_is.higher); below = h.site_is.fits };
    parts = refl;
    after = record {
      first = tt;
      front = 32 ∷ [];
      back = decimal port ++ 10 ∷ [];
      before = refl;
      parts = refl;
      after = record { first = port; front = decimal port; back = 10 ∷ []; before = record { is = refl; above = h.site_is.port_some; below = h.site_is.port_fits }; parts = refl; after = record { from = tt; spelled = refl; is = refl } };
    };
  };
}

record_from : (c : Catalogue) (entry : RecordEntry) (t : List ℕ) → EntryText c (Record entry) t → RecordParts (sites_of c) (Record entry) t
record_from c entry t h =
    let r = h.record_is in
    let weights = weights_text entry.weights in
    record {
      first = tt;
      front = codes "record ";
      back = entry.name ++ 32 ∷ (entry.start ++ weights);
      before = refl;
      parts = h.is;
      after = record {
        first = entry.name;
        front = entry.name;
        back = 32 ∷ (entry.start ++ weights);
        before = r.name_is;
        parts = refl;
        after = record {
          first = tt;
          front = 32 ∷ [];
          back = entry.start ++ weights;
          before = refl;
          parts = refl;
          after = record {
            first = entry.start;
            front = entry.start;
            back = weights;
            before = r.start_is;
            parts = refl;
            after = record { from = entry.weights; spelled = weights_from (sites_of c) entry.weights weights r.held r.weights_are refl; is = refl };
          };
        };
      };
    }

either_from : (c : Catalogue) (e : Entry) (t : List ℕ) → EntryText c e t → Either (PortParts (last_site c)) (RecordParts (sites_of c)) e t
either_from c (Site site port) t h = inl (port_from c site port t h)
either_from c (Record entry) t h = inr (record_from c entry t h)

-- ---- where each kind of line may come

-- The lines before say sites from 1 to 16, and a record only after a site.
pub record IsBegun (c : Catalogue) : Type 0 where
  pub sites_are : AllSites (sites_of c)
  pub site_first : 0 < length c.records → 0 < length c.sites

some_site : (c : Catalogue) → IsBegun c → 0 < length c.sites → Above (sites_of c) 0
some_site c b some = first c.sites b.sites_are some
  where
    first : (sites : List (ℕ × ℕ)) → AllSites (words.keys sites) → 0 < length sites → Above (words.keys sites) 0
    first [] all some = absurd (omega arith)
    first (s ∷ sites) all some = (s.0, has_here s.0 s.0 (words.keys sites) refl, omega (arith, all.0.0))

pub held_at : (sites ws : List (ℕ × ℕ)) → 0 < length ws → AreWeights (words.keys sites) 0 ws → 0 < length sites
held_at sites [] some h = absurd (omega arith)
held_at [] (w ∷ ws) some h = absurd (false≢true h.0.stands)
held_at (s ∷ sites) (w ∷ ws) some h = omega arith

last_some : (sites : List (ℕ × ℕ)) → 16 ≤ last_from 0 sites → 0 < length sites
last_some [] le = absurd (omega arith)
last_some (s ∷ sites) le = omega arith

may_add_site_is : (c : Catalogue) → may_add_site c ≡ true → (length c.records ≡ 0) × (last_site c < 16)
may_add_site_is c on =
    let h = and_parts (leb (length c.records) 0) (ltb (last_site c) 16) on in
    (omega (arith, leb-true (length c.records) 0 h.0), ltb-true (last_site c) 16 h.1)

no_site : (c : Catalogue) → may_add_site c ≡ false → (site port : ℕ) (t : List ℕ) → EntryText c (Site site port) t → ⊥
no_site c off site port t h =
    let none : leb (length c.records) 0 ≡ true = le-leb (length c.records) 0 (omega (arith, h.first)) in
    let room : ltb (last_site c) 16 ≡ true = lt-ltb (last_site c) 16 (omega (arith, h.site_is.higher, h.site_is.fits)) in
    false≢true (sym off ∙ and_from (leb (length c.records) 0) (ltb (last_site c) 16) none room)

begun_some : (c : Catalogue) → IsBegun c → may_add_site c ≡ false → 0 < length c.sites
begun_some c b off = elim (and_cases (leb (length c.records) 0) (ltb (last_site c) 16) off) [
  | inl full ↦ b.site_first (leb-false (length c.records) 0 full)
  | inr last ↦ last_some c.sites (ltb-false (last_site c) 16 last)
]

only_record : (c : Catalogue) → may_add_site c ≡ false → (e : Entry) (t : List ℕ) → EntryText c e t → RecordParts (sites_of c) e t
only_record c off (Site site port) t h = absurd (no_site c off site port t h)
only_record c off (Record entry) t h = record_from c entry t h

only_site : (c : Catalogue) → may_add_record c ≡ false → (e : Entry) (t : List ℕ) → EntryText c e t → PortParts (last_site c) e t
only_site c off (Site site port) t h = port_from c site port t h
only_site c off (Record entry) t h = absurd (false≢true (sym off ∙ lt-ltb 0 (length c.sites) (held_at c.sites entry.weights h.record_is.held h.record_is.weights_are)))

opens_port : (last : ℕ) → Opens (codes "site ") (PortParts last)
opens_port last = literal_opens (codes "site ")

opens_record : (sites : List ℕ) → Opens (codes "record ") (RecordParts sites)
opens_record sites = literal_opens (codes "record ")

clear_port : (last : ℕ) (sites : List ℕ) → IsClear (PortParts last) (RecordParts sites)
clear_port last sites = clear_keys (codes "site ") (codes "record ") refl (opens_port last) (opens_record sites)

clear_record : (last : ℕ) (sites : List ℕ) → IsClear (RecordParts sites) (PortParts last)
clear_record last sites = clear_keys (codes "record ") (codes "site ") refl (opens_record sites) (opens_port last)

-- a site line may come, and perhaps also a record line
site_exact_at : (c : Catalogue) → IsBegun c → may_add_site c ≡ true → (b : Bool) → may_add_record c ≡ b
    → Exact (EntryText c) (λ bytes. cond b (either (port_at (last_site c) bytes) (record_at (sites_of c) bytes)) (port_at (last_site c) bytes))
site_exact_at c b on true more =
    let m = may_add_site_is c on in
    exact_as (either_to c m.0) (either_from c)
    (either_exact (clear_port (last_site c) (sites_of c)) (clear_record (last_site c) (sites_of c)) (port_exact (last_site c) m.1) (record_exact (sites_of c) b.sites_are (some_site c b (ltb-true 0 (length c.sites) more))))
site_exact_at c b on false more =
    let m = may_add_site_is c on in
    exact_as (port_to c m.0) (only_site c more) (port_exact (last_site c) m.1)

pub entry_exact : (c : Catalogue) → IsBegun c → Exact (EntryText c) (entry_at c)
unfolding entry_at
entry_exact c b = go (may_add_site c) refl
  where
    sited : List ℕ → Result (Entry × List ℕ) ℕ
    sited bytes = cond (may_add_record c) (either (port_at (last_site c) bytes) (record_at (sites_of c) bytes)) (port_at (last_site c) bytes)

    go : (may : Bool) → may_add_site c ≡ may → Exact (EntryText c) (λ bytes. cond may (sited bytes) (record_at (sites_of c) bytes))
    go true on = site_exact_at c b on (may_add_record c) refl
    go false off = exact_as (record_to c) (only_record c off) (record_exact (sites_of c) b.sites_are (some_site c b (begun_some c b off)))
