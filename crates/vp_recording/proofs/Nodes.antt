-- Recordings that are read are of nodes.
use Rattle.std.proofs.Common.{◌≡◌, ◌≢◌, ℕ, ◌-◌, ◌^◌, ◌≤◌, ◌<◌, zero, suc, Bool, true, false, cond, List, [], ◌∷◌, ◌++◌, length, get_or, set, map, refl, sym, ap, subst, ◌∙◌, arith, ⊎_elim, append-nil}
use Rattle.std.specs.Prelude.{⊤, Option, Some, None, ◌==◌, is_some, option_map}
use Rattle.std.specs.List.{AllByRecursion, Contains}
use Rattle.std.proofs.lemmas.Bool.{eqb-true, eq-eqb, false≢true}
use Rattle.std.proofs.lemmas.List.{map-append, length-set, get_or-set_same, get_or-set_other}
use Rattle.std.proofs.lemmas.List.Elements.{Contains-append_right}
use Rattle.vp_text.proofs.Items.{all_append}
use Rattle.vp_model.specs.Words.{has}
use Rattle.vp_model.specs.Catalogue.{sites_of}
use Rattle.vp_catalog.specs.Document.{IsCatalogue}
use Rattle.vp_catalog.specs.Sites.{AllSites}
use Rattle.vp_catalog.proofs.Sites.{site_range, has_cons, has_later}
use Rattle.vp_heads.specs.declared.head.Head.{Head}
use Rattle.vp_heads.specs.declared.line.HeadLine.{HeadLine}
use Rattle.vp_heads.specs.declared.line.HeadLine.TheVariants as heads_kind
use Rattle.vp_heads.specs.Heads as heads
use Rattle.vp_recording.specs.declared.recording.Recording.{Recording}
use Rattle.vp_recording.specs.declared.recording.Turn.{Turn}
use Rattle.vp_recording.specs.declared.draft.RecordingDraft.{RecordingDraft}
use Rattle.vp_recording.specs.declared.draft.RecordingSet.{RecordingSet}
use Rattle.vp_recording.specs.declared.line.RecordingLine.{RecordingLine}
use Rattle.vp_recording.specs.declared.line.RecordingLine.TheVariants as kind
use Rattle.vp_recording.specs.Lines.{key}
use Rattle.vp_recording.specs.Drafts.{sites_said, last_life, life_named, with_turn, with_block, turn_closed, block_closed, start_recording, after}
use Rattle.vp_recording.specs.Document.{recorded_of, IsRecordedText}
use Rattle.vp_recording.specs.Recordings.{AreAbove, AreOfNodes}
use Rattle.vp_recording.proofs.Steps.{said, Lines, sites_are, catalogue_said}

-- ---- lives, as sites with numbers

abbrev pub Lives : Type 0
Lives = List (ℕ × ℕ)

abbrev pub life_of : Recording → ℕ × ℕ
life_of r = (r.site, r.life)

abbrev pub lives_in : Option Recording → Lives
lives_in None = []
lives_in (Some r) = life_of r ∷ []

abbrev pub lives_said : RecordingDraft → Lives
lives_said d = map life_of d.recordings ++ lives_in d.block

abbrev pub Rise : ℕ → ℕ → Lives → Type 0
Rise site life [] = ⊤
Rise site life (p ∷ lives) = ((p.0 ≡ site) → life < p.1) × Rise site (cond (p.0 == site) p.1 life) lives

abbrev pub last_of : ℕ → ℕ → Lives → ℕ
last_of site life [] = life
last_of site life (p ∷ lives) = last_of site (cond (p.0 == site) p.1 life) lives

rise_push : (site life : ℕ) (lives : Lives) (p : ℕ × ℕ) → Rise site life lives → (p.0 ≡ site → last_of site life lives < p.1) → Rise site life (lives ++ p ∷ [])
rise_push site life [] p h up = (up, tt)
rise_push site life (q ∷ lives) p h up = (h.0, rise_push site (cond (q.0 == site) q.1 life) lives p h.1 up)

last_push : (site life : ℕ) (lives : Lives) (p : ℕ × ℕ) → last_of site life (lives ++ p ∷ []) ≡ cond (p.0 == site) p.1 (last_of site life lives)
last_push site life [] p = refl
last_push site life (q ∷ lives) p = last_push site (cond (q.0 == site) q.1 life) lives p

above_of : (site life : ℕ) (recordings : List Recording) → Rise site life (map life_of recordings) → AreAbove site life recordings
above_of site life [] h = tt
above_of site life (r ∷ recordings) h = (h.0, above_of site (cond (r.site == site) r.life life) recordings h.1)

-- ---- what the lines say of lives

closed_lives : (turn : Option Turn) (block : Option Recording) → lives_in (option_map (with_turn turn) block) ≡ lives_in block
closed_lives turn None = refl
closed_lives None (Some r) = refl
closed_lives (Some t) (Some r) = refl

pushed_lives : (ended : Bool) (recordings : List Recording) (block : Option Recording) → map life_of (with_block ended block recordings) ≡ map life_of recordings ++ lives_in block
pushed_lives ended recordings None = sym (append-nil (map life_of recordings))
pushed_lives ended recordings (Some r) = map-append life_of recordings ((record r { ended = ended }) ∷ [])

turn_lives : (d : RecordingDraft) → lives_said (turn_closed d) ≡ lives_said d
turn_lives d = ap (λ (lives : Lives). map life_of d.recordings ++ lives) (closed_lives d.turn d.block)

recorded_lives : (ended : Bool) (d : RecordingDraft) → map life_of (with_block ended (option_map (with_turn d.turn) d.block) d.recordings) ≡ lives_said d
recorded_lives ended d = pushed_lives ended d.recordings (option_map (with_turn d.turn) d.block) ∙ ap (λ (lives : Lives). map life_of d.recordings ++ lives) (closed_lives d.turn d.block)

block_lives : (ended : Bool) (d : RecordingDraft) → lives_said (block_closed ended d) ≡ lives_said d
block_lives ended d = append-nil (map life_of (with_block ended (option_map (with_turn d.turn) d.block) d.recordings)) ∙ recorded_lives ended d

-- ---- what holds of a draft

abbrev pub IsLife : List ℕ → ℕ × ℕ → Type 0
IsLife sites p = (has sites p.0 ≡ true) × (p.1 < 2 ^ 32)

pub record Kept (sites : List ℕ) (lives : Lives) (numbers : List ℕ) : Type 0 where
  pub all : AllByRecursion (IsLife sites) lives
  pub count : length numbers ≡ 16
  pub rise : (site : ℕ) → has sites site ≡ true → Rise site 0 lives × (last_of site 0 lives ≤ last_life site numbers)

pub record Holds (d : RecordingDraft) : Type 0 where
  pub kept : Kept (sites_said d) (lives_said d) d.lives
  pub named : (site : ℕ) → d.named ≡ Some site → (has (sites_said d) site ≡ true) × (d.block ≡ None)
  pub unopened : d.head.opened ≡ false → (lives_said d ≡ []) × (d.named ≡ None)

none_kept : (sites numbers : List ℕ) → length numbers ≡ 16 → Kept sites [] numbers
none_kept sites numbers count = record { all = tt; count = count; rise = λ site on. (tt, (omega arith)) }

same_lives : (sites : List ℕ) (a b : Lives) (numbers : List ℕ) → a ≡ b → Kept sites b numbers → Kept sites a numbers
same_lives sites a b numbers e k = subst (λ (lives : Lives). Kept sites lives numbers) (sym e) k

-- one life more
module _ (sites : List ℕ) (all : AllSites sites) (lives : Lives) (numbers : List ℕ) (k : Kept sites lives numbers) (site life : ℕ) (on : has sites site ≡ true) (up : last_life site numbers < life) (fits : life ≤ 2 ^ 32 - 1) where
  within : site - 1 < length numbers
  within = let r = site_range sites site all on in let c = k.count in omega (arith, r.0, r.1, c)

  apart : (other : ℕ) → has sites other ≡ true → other ≢ site → other - 1 ≢ site - 1
  apart other on_too n same = let r = site_range sites site all on in let q = site_range sites other all on_too in n (omega (arith, r.0, q.0, same))

  risen : (other : ℕ) → has sites other ≡ true → (b : Bool) → (site == other) ≡ b → Rise other 0 (lives ++ (site, life) ∷ []) × (last_of other 0 (lives ++ (site, life) ∷ []) ≤ last_life other (set numbers (site - 1) life))
  risen other on_too true e =
      let same : site ≡ other = eqb-true site other e in
      let old = k.rise other on_too in
      let below : last_of other 0 lives < life = (let z = old.1 in let y = subst (λ (s : ℕ). last_life s numbers < life) same up in omega (arith, z, y)) in
      let now : last_life other (set numbers (site - 1) life) ≡ life = ap (λ (s : ℕ). get_or (set numbers (site - 1) life) (s - 1) 0) (sym same) ∙ get_or-set_same numbers (site - 1) life 0 within in (
        rise_push other 0 lives (site, life) old.0 (λ s. below),
        rw (last_push other 0 lives (site, life), e, now) (omega arith),
      )
  risen other on_too false e =
      let n : other ≢ site = λ same. false≢true (sym e ∙ eq-eqb site other (sym same)) in
      let old = k.rise other on_too in
      let now : last_life other (set numbers (site - 1) life) ≡ last_life other numbers = get_or-set_other numbers (site - 1) (other - 1) life 0 (apart other on_too n) in (
        rise_push other 0 lives (site, life) old.0 (λ same. absurd (n (sym same))),
        rw (last_push other 0 lives (site, life), e, now) old.1,
      )

  one_more : Kept sites (lives ++ (site, life) ∷ []) (set numbers (site - 1) life)
  one_more =
      record {
        all = all_append (IsLife sites) lives ((site, life) ∷ []) k.all ((on, (omega (arith, fits))), tt);
        count = length-set numbers (site - 1) life ∙ k.count;
        rise = λ other on_too. risen other on_too (site == other) refl;
      }

-- ---- from line to line

none_some : {X : Type 0} (o : Option X) → o ≡ None → is_some o ≡ true → ⊥
none_some o e f = false≢true (ap is_some (sym e) ∙ f)

opened_not : (b : Bool) → b ≡ true → b ≡ false → ⊥
opened_not b on off = false≢true (sym off ∙ on)

-- a line of a block, and `node`, are after the line `recordings`
keeps : (d e : RecordingDraft) → e.head ≡ d.head → e.lives ≡ d.lives → lives_said e ≡ lives_said d → d.head.opened ≡ true → ((site : ℕ) → e.named ≡ Some site → (has (sites_said e) site ≡ true) × (e.block ≡ None)) → Holds d → Holds e
keeps d e head lives said on named h =
    record {
      kept = subst (λ (sites : List ℕ). Kept sites (lives_said e) e.lives) (ap (λ (x : Head). sites_of x.catalog) (sym head))
          (subst (λ (numbers : List ℕ). Kept (sites_said d) (lives_said e) numbers) (sym lives) (same_lives (sites_said d) (lives_said e) (lives_said d) d.lives said h.kept));
      named = named;
      unopened = λ off. absurd (opened_not d.head.opened on (ap (λ (x : Head). x.opened) (sym head) ∙ off));
    }

free_named : (d : RecordingDraft) (site : ℕ) → d.named ≡ None → d.named ≡ Some site → ⊥
free_named d site e f = let z = sym e ∙ f in cc

head_opens : (d : RecordingDraft) (line : HeadLine) (t : List ℕ) → heads.LineText key d.head line t → d.head.opened ≡ false
head_opens d (heads_kind.Entry entry) t h = h.0
head_opens d heads_kind.Key t h = h.0

starts : (named : Option ℕ) (life : ℕ) (d : RecordingDraft) → d.named ≡ named → d.head.opened ≡ true → AllSites (sites_said d) → is_some named ≡ true → life_named named d.lives < life → life ≤ 2 ^ 32 - 1 → Holds d → Holds (start_recording named life d)
starts None life d is on all some up fits h = absurd (false≢true some)
starts (Some site) life d is on all some up fits h =
    let n = h.named site is in
    let before : lives_said d ≡ map life_of d.recordings = ap (λ (block : Option Recording). map life_of d.recordings ++ lives_in block) n.1 ∙ append-nil (map life_of d.recordings) in
    record {
      kept = one_more (sites_said d) all (map life_of d.recordings) d.lives (same_lives (sites_said d) (map life_of d.recordings) (lives_said d) d.lives (sym before) h.kept) site life n.0 up fits;
      named = λ site e. absurd cc;
      unopened = λ off. absurd (opened_not d.head.opened on off);
    }

pub holds : (es : List RecordingLine) (t : List ℕ) → Lines es t → Holds (said es)
holds [] t h = record { kept = none_kept [] _ refl; named = λ site e. absurd cc; unopened = λ off. (refl, refl) }
holds (kind.Head line ∷ es) t h =
    let old = holds es h.0 h.2 in
    let none = old.unopened (head_opens (said es) line h.1 h.3) in
    record {
      kept = same_lives _ (lives_said (said es)) [] (said es).lives none.0 (none_kept _ (said es).lives old.kept.count);
      named = λ site e. absurd (free_named (said es) site none.1 e);
      unopened = λ off. none;
    }
holds (kind.Node site ∷ es) t h =
    let d = said es in
    keeps d (after d (kind.Node site)) refl refl (block_lives false d) h.3.0.opened (λ s e. (let same : site ≡ s = cc in subst (λ (s : ℕ). has (sites_said d) s ≡ true) same h.3.1, refl)) (holds es h.0 h.2)
holds (kind.Start life ∷ es) t h = starts (said es).named life (said es) refl h.3.0 (sites_are es h.0 h.2 h.3.0).all h.3.1 h.3.2 h.3.3 (holds es h.0 h.2)
holds (kind.In frame ∷ es) t h =
    let d = said es in
    keeps d (after d (kind.In frame)) refl refl (turn_lives d) h.3.0.free.opened (λ s e. absurd (free_named d s h.3.0.free.unnamed e)) (holds es h.0 h.2)
holds (kind.Out frame ∷ es) t h =
    let d = said es in
    keeps d (after d (kind.Out frame)) refl refl refl h.3.0.free.opened (λ s e. absurd (free_named d s h.3.0.free.unnamed e)) (holds es h.0 h.2)
holds (kind.Bad ∷ es) t h =
    let d = said es in
    keeps d (after d kind.Bad) refl refl (turn_lives d) h.3.0.free.opened (λ s e. absurd (free_named d s h.3.0.free.unnamed e)) (holds es h.0 h.2)
holds (kind.Stray ∷ es) t h =
    let d = said es in
    keeps d (after d kind.Stray) refl refl (turn_lives d) h.3.0.free.opened (λ s e. absurd (free_named d s h.3.0.free.unnamed e)) (holds es h.0 h.2)
holds (kind.End ∷ es) t h =
    let d = said es in
    keeps d (after d kind.End) refl refl (block_lives true d) h.3.0.free.opened (λ s e. absurd (free_named d s h.3.0.free.unnamed e)) (holds es h.0 h.2)
holds (kind.LinkFault ∷ es) t h =
    let d = said es in
    keeps d (after d kind.LinkFault) refl refl (block_lives true d) h.3.0.free.opened (λ s e. absurd (free_named d s h.3.0.free.unnamed e)) (holds es h.0 h.2)
holds (kind.DiskFault ∷ es) t h =
    let d = said es in
    keeps d (after d kind.DiskFault) refl refl (block_lives true d) h.3.0.free.opened (λ s e. absurd (free_named d s h.3.0.free.unnamed e)) (holds es h.0 h.2)

-- ---- the recordings

contains_of : (xs : List ℕ) (s : ℕ) → has xs s ≡ true → Contains xs s
contains_of [] s h = absurd (false≢true h)
contains_of (x ∷ xs) s h = ⊎_elim (λ (same : x ≡ s). (0, (omega arith), same)) (λ (more : has xs s ≡ true). Contains-append_right (x ∷ []) xs s (contains_of xs s more)) (has_cons x s xs h)

has_of : (xs : List ℕ) (s : ℕ) → Contains xs s → has xs s ≡ true
has_of [] s h = absurd (let z = h.1 in omega (arith, z))
has_of (x ∷ xs) s (zero, lt, e) = rw (eq-eqb x s e) refl
has_of (x ∷ xs) s (suc i, lt, e) = has_later x s xs (has_of xs s (i, (omega (arith, lt)), e))

life_at : (sites : List ℕ) (recordings : List Recording) → AllByRecursion (IsLife sites) (map life_of recordings) → (r : Recording) → Contains recordings r → IsLife sites (life_of r)
life_at sites [] h r c = absurd (let z = c.1 in omega (arith, z))
life_at sites (q ∷ recordings) h r (zero, lt, e) = subst (λ (r : Recording). IsLife sites (life_of r)) e h.0
life_at sites (q ∷ recordings) h r (suc i, lt, e) = life_at sites recordings h.1 r (i, (omega (arith, lt)), e)

pub recorded_nodes : (it : RecordingSet) (text : List ℕ) → IsRecordedText it text → IsCatalogue it.catalog × AreOfNodes it.catalog it.recordings
recorded_nodes it text h =
    let d = said h.lines in
    let k = (holds h.lines text h.lines_are).kept in
    let lives : map life_of (recorded_of d).recordings ≡ lives_said d = recorded_lives false d in
    let all : AllByRecursion (IsLife (sites_said d)) (map life_of (recorded_of d).recordings) = subst (AllByRecursion (IsLife (sites_said d))) (sym lives) k.all in
    subst (λ (it : RecordingSet). IsCatalogue it.catalog × AreOfNodes it.catalog it.recordings) h.says (
      catalogue_said h.lines text h.lines_are h.opened,
      record {
        listed = λ r c. contains_of (sites_said d) r.site (life_at (sites_said d) (recorded_of d).recordings all r c).0;
        lives = λ r c. (life_at (sites_said d) (recorded_of d).recordings all r c).1;
        rise = λ site c. above_of site 0 (recorded_of d).recordings (subst (Rise site 0) (sym lives) (k.rise site (has_of (sites_said d) site c)).0);
      },
    )
