-- The lines of recordings are read exactly.
use Rattle.std.proofs.Common.{◌≡◌, ℕ, ◌+◌, ◌-◌, ◌^◌, ◌≤◌, ◌<◌, Bool, true, false, cond, List, [], ◌∷◌, ◌++◌, refl, sym, ap, subst, ◌∙◌, arith, inl, inr}
use Rattle.std.specs.Prelude.{codes, Option, Some, None, is_some}
use Rattle.std.specs.Fmt.{decimal}
use Rattle.std.proofs.lemmas.Bool.{false≢true}
use Rattle.hex.specs.Hex.{encode_lower}
use Rattle.vp_text.specs.Tokens.{IsLiteral, IsNumber, Either}
use Rattle.vp_text.specs.Reading as text
use Rattle.vp_text.proofs.Exact.{Exact, exact_as, Then, Made, made_exact, then_exact}
use Rattle.vp_text.proofs.Words.{literal_exact}
use Rattle.vp_text.proofs.Fields.{literal_then, number_then, made_outside}
use Rattle.vp_text.proofs.Choices.{GoesOn, follows_from}
use Rattle.vp_text.proofs.Items.{all_at}
use Rattle.vp_model.specs.Words.{has}
use Rattle.vp_catalog.specs.Sites.{AllSites, IsSiteIn}
use Rattle.vp_catalog.proofs.Sites.{site_exact, site_goes, site_range}
use Rattle.vp_heads.specs.Heads as heads
use Rattle.vp_heads.specs.HeadReading.{head_at}
use Rattle.vp_heads.specs.declared.line.HeadLine.{HeadLine}
use Rattle.vp_heads.specs.declared.line.HeadLine.TheVariants as heads_kind
use Rattle.vp_recording.specs.declared.draft.RecordingDraft.{RecordingDraft}
use Rattle.vp_recording.specs.declared.line.RecordingLine.{RecordingLine}
use Rattle.vp_recording.specs.declared.line.RecordingLine.TheVariants as kind
use Rattle.vp_recording.specs.Hex.{IsDatagram, IsHex, most_bytes}
use Rattle.vp_recording.specs.Lines.{key, hex_line, number_line}
use Rattle.vp_recording.specs.Drafts.{sites_said, life_before, IsFree, IsWithin, LineText}
use Rattle.vp_recording.specs.LineReading.{frame_at, count_at, in_at, out_at, stray_at, bad_at, start_at, node_at, word_at, ending_at, within_at, after_turn_at, free_at, head_line_at, line_at}
use Rattle.vp_recording.specs.Hex as hex
use Rattle.vp_recording.proofs.HexExact.{bytes_exact, digits_in}
use Rattle.vp_recording.proofs.FirstBytes.{BeginsSo, BeginsElse, by_first_exact, either_else}

-- ---- fields and the end of a line

abbrev FrameText : List ℕ → List ℕ → List ℕ → Type 0
FrameText word = Then (IsLiteral word) (λ _. Then IsHex (λ frame. Made (IsLiteral (10 ∷ [])) (λ u. frame)))

abbrev CountText : List ℕ → ℕ → ℕ → ℕ → List ℕ → Type 0
CountText word least most = Then (IsLiteral word) (λ _. Then (IsNumber least most) (λ n. Made (IsLiteral (10 ∷ [])) (λ u. n)))

hex_goes : GoesOn hex.is_digit IsHex
hex_goes a a2 t x r before longer = all_at (λ c. hex.is_digit c ≡ true) t x r (digits_in a2 (t ++ x ∷ r) longer)

frame_exact : (word : List ℕ) → Exact (FrameText word) (frame_at word)
unfolding frame_at
frame_exact word =
    literal_then word (then_exact (follows_from hex.is_digit hex_goes (λ frame. made_outside hex.is_digit (10 ∷ []) refl)) bytes_exact
    (λ frame. made_exact (λ u. frame) (literal_exact (10 ∷ []))))

count_exact : (word : List ℕ) (least most : ℕ) → least ≤ most → most < 2 ^ 64 → Exact (CountText word least most) (count_at word least most)
unfolding count_at
count_exact word least most le fits =
    literal_then word (number_then least most le fits (λ n. made_outside text.is_digit (10 ∷ []) refl) (λ n. made_exact (λ u. n) (literal_exact (10 ∷ []))))

frame_spelled : (word : List ℕ) (frame t : List ℕ) → FrameText word frame t → IsDatagram frame × (t ≡ hex_line word frame)
frame_spelled word frame t h =
    let m = h.after in
    let same : frame ≡ m.first = m.after.is in
    (subst IsDatagram (sym same) m.before.datagram, h.parts ∙ rw (h.before, m.parts, m.before.is, m.after.spelled, same) refl)

frame_text : (word : List ℕ) (frame t : List ℕ) → IsDatagram frame → t ≡ hex_line word frame → FrameText word frame t
frame_text word frame t d is = record {
  first = tt;
  front = word;
  back = encode_lower frame ++ 10 ∷ [];
  before = refl;
  parts = is;
  after = record { first = frame; front = encode_lower frame; back = 10 ∷ []; before = record { is = refl; datagram = d }; parts = refl; after = record { from = tt; spelled = refl; is = refl } };
}

count_spelled : (word : List ℕ) (least most n : ℕ) (t : List ℕ) → CountText word least most n t → (least ≤ n) × (n ≤ most) × (t ≡ number_line word n)
count_spelled word least most n t h =
    let m = h.after in
    let same : n ≡ m.first = m.after.is in
    (subst (λ (n : ℕ). least ≤ n) (sym same) m.before.above, subst (λ (n : ℕ). n ≤ most) (sym same) m.before.below, h.parts ∙ rw (h.before, m.parts, m.before.is, m.after.spelled, same) refl)

count_text : (word : List ℕ) (least most n : ℕ) (t : List ℕ) → least ≤ n → n ≤ most → t ≡ number_line word n → CountText word least most n t
count_text word least most n t a b is = record {
  first = tt;
  front = word;
  back = decimal n ++ 10 ∷ [];
  before = refl;
  parts = is;
  after = record { first = n; front = decimal n; back = 10 ∷ []; before = record { is = refl; above = a; below = b }; parts = refl; after = record { from = tt; spelled = refl; is = refl } };
}

-- ---- each line

abbrev InLine : RecordingLine → List ℕ → Type 0
InLine = Made (FrameText (codes "in ")) (λ frame. kind.In frame)

abbrev OutLine : RecordingLine → List ℕ → Type 0
OutLine = Made (FrameText (codes "out ")) (λ frame. kind.Out frame)

abbrev StrayLine : RecordingLine → List ℕ → Type 0
StrayLine = Made (FrameText (codes "stray ")) (λ frame. kind.Stray)

abbrev BadLine : RecordingLine → List ℕ → Type 0
BadLine = Made (CountText (codes "bad ") 0 most_bytes) (λ n. kind.Bad)

abbrev StartLine : ℕ → RecordingLine → List ℕ → Type 0
StartLine before = Made (CountText (codes "start ") (before + 1) (2 ^ 32 - 1)) (λ life. kind.Start life)

abbrev NodeLine : List ℕ → RecordingLine → List ℕ → Type 0
NodeLine sites = Then (IsLiteral (codes "node ")) (λ _. Then (IsSiteIn sites 0) (λ site. Made (IsLiteral (10 ∷ [])) (λ u. kind.Node site)))

abbrev WordLine : List ℕ → RecordingLine → RecordingLine → List ℕ → Type 0
WordLine word line = Made (IsLiteral word) (λ u. line)

in_exact : Exact InLine in_at
unfolding in_at
in_exact = made_exact (λ frame. kind.In frame) (frame_exact (codes "in "))

out_exact : Exact OutLine out_at
unfolding out_at
out_exact = made_exact (λ frame. kind.Out frame) (frame_exact (codes "out "))

-- of bytes that are passed over no more than that is kept
stray_exact : Exact StrayLine stray_at
unfolding stray_at
stray_exact = made_exact (λ frame. kind.Stray) (frame_exact (codes "stray "))

bad_exact : Exact BadLine bad_at
unfolding bad_at
bad_exact = made_exact (λ n. kind.Bad) (count_exact (codes "bad ") 0 most_bytes (omega arith) (omega arith))

start_exact : (before : ℕ) → before < 2 ^ 32 - 1 → Exact (StartLine before) (start_at before)
unfolding start_at
start_exact before left = made_exact (λ life. kind.Start life) (count_exact (codes "start ") (before + 1) (2 ^ 32 - 1) (omega (arith, left)) (omega arith))

word_exact : (word : List ℕ) (line : RecordingLine) → Exact (WordLine word line) (word_at word line)
unfolding word_at
word_exact word line = made_exact (λ u. line) (literal_exact word)

-- the sites of a catalogue
pub record AreSites (sites : List ℕ) : Type 0 where
  pub all : AllSites sites
  pub some : (s : ℕ) × (has sites s ≡ true)

node_exact : (sites : List ℕ) → AreSites sites → Exact (NodeLine sites) (node_at sites)
unfolding node_at
node_exact sites h =
    literal_then (codes "node ") (then_exact (follows_from text.is_digit (site_goes sites 0 h.all) (λ site. made_outside text.is_digit (10 ∷ []) refl))
    (site_exact sites 0 h.all h.some.0 h.some.1 (omega (arith, (site_range sites h.some.0 h.all h.some.1).0)))
    (λ site. made_exact (λ u. kind.Node site) (literal_exact (10 ∷ []))))

-- ---- which of them is there

in_so : BeginsSo 105 InLine
in_so a t h = let s = h.spelled in (codes "n " ++ s.back, s.parts ∙ ap (λ (x : List ℕ). x ++ s.back) s.before)

out_so : BeginsSo 111 OutLine
out_so a t h = let s = h.spelled in (codes "ut " ++ s.back, s.parts ∙ ap (λ (x : List ℕ). x ++ s.back) s.before)

stray_so : BeginsSo 115 StrayLine
stray_so a t h = let s = h.spelled in (codes "tray " ++ s.back, s.parts ∙ ap (λ (x : List ℕ). x ++ s.back) s.before)

bad_so : BeginsSo 98 BadLine
bad_so a t h = let s = h.spelled in (codes "ad " ++ s.back, s.parts ∙ ap (λ (x : List ℕ). x ++ s.back) s.before)

node_so : (sites : List ℕ) → BeginsSo 110 (NodeLine sites)
node_so sites a t s = (codes "ode " ++ s.back, s.parts ∙ ap (λ (x : List ℕ). x ++ s.back) s.before)

abbrev EndLine : RecordingLine → List ℕ → Type 0
EndLine = WordLine (codes "end\n") kind.End

abbrev LinkLine : RecordingLine → List ℕ → Type 0
LinkLine = WordLine (codes "link fault\n") kind.LinkFault

abbrev DiskLine : RecordingLine → List ℕ → Type 0
DiskLine = WordLine (codes "disk fault\n") kind.DiskFault

end_so : BeginsSo 101 EndLine
end_so a t h = (codes "nd\n", h.spelled)

link_so : BeginsSo 108 LinkLine
link_so a t h = (codes "ink fault\n", h.spelled)

disk_so : BeginsSo 100 DiskLine
disk_so a t h = (codes "isk fault\n", h.spelled)

module _ (sites : List ℕ) where
  abbrev DiskOr : RecordingLine → List ℕ → Type 0
  DiskOr = Either DiskLine (NodeLine sites)

  abbrev LinkOr : RecordingLine → List ℕ → Type 0
  LinkOr = Either LinkLine DiskOr

  abbrev EndOr : RecordingLine → List ℕ → Type 0
  EndOr = Either EndLine LinkOr

  abbrev StrayOr : RecordingLine → List ℕ → Type 0
  StrayOr = Either StrayLine EndOr

  abbrev BadOr : RecordingLine → List ℕ → Type 0
  BadOr = Either BadLine StrayOr

  abbrev pub InOr : RecordingLine → List ℕ → Type 0
  InOr = Either InLine BadOr

  abbrev pub OutOr : RecordingLine → List ℕ → Type 0
  OutOr = Either OutLine InOr

  node_else : (c : ℕ) → (110 ≡ c → ⊥) → BeginsElse c (NodeLine sites)
  node_else c n = λ a t h. let z = node_so sites a t h in (110, z.0, z.1, n)

  disk_else : (c : ℕ) → (110 ≡ c → ⊥) → (100 ≡ c → ⊥) → BeginsElse c DiskOr
  disk_else c n d = either_else c 100 d disk_so (node_else c n)

  link_else : (c : ℕ) → (110 ≡ c → ⊥) → (100 ≡ c → ⊥) → (108 ≡ c → ⊥) → BeginsElse c LinkOr
  link_else c n d l = either_else c 108 l link_so (disk_else c n d)

  end_else : (c : ℕ) → (110 ≡ c → ⊥) → (100 ≡ c → ⊥) → (108 ≡ c → ⊥) → (101 ≡ c → ⊥) → BeginsElse c EndOr
  end_else c n d l e = either_else c 101 e end_so (link_else c n d l)

  stray_else : (c : ℕ) → (110 ≡ c → ⊥) → (100 ≡ c → ⊥) → (108 ≡ c → ⊥) → (101 ≡ c → ⊥) → (115 ≡ c → ⊥) → BeginsElse c StrayOr
  stray_else c n d l e s = either_else c 115 s stray_so (end_else c n d l e)

  bad_else : (c : ℕ) → (110 ≡ c → ⊥) → (100 ≡ c → ⊥) → (108 ≡ c → ⊥) → (101 ≡ c → ⊥) → (115 ≡ c → ⊥) → (98 ≡ c → ⊥) → BeginsElse c BadOr
  bad_else c n d l e s b = either_else c 98 b bad_so (stray_else c n d l e s)

  in_else : (c : ℕ) → (110 ≡ c → ⊥) → (100 ≡ c → ⊥) → (108 ≡ c → ⊥) → (101 ≡ c → ⊥) → (115 ≡ c → ⊥) → (98 ≡ c → ⊥) → (105 ≡ c → ⊥) → BeginsElse c InOr
  in_else c n d l e s b i = either_else c 105 i in_so (bad_else c n d l e s b)

  module _ (h : AreSites sites) where
    ending_exact : Exact EndOr (ending_at sites)
    unfolding ending_at
    ending_exact =
        by_first_exact 101 end_so (link_else 101 (λ e. omega (arith, e)) (λ e. omega (arith, e)) (λ e. omega (arith, e))) (word_exact (codes "end\n") kind.End)
        (by_first_exact 108 link_so (disk_else 108 (λ e. omega (arith, e)) (λ e. omega (arith, e))) (word_exact (codes "link fault\n") kind.LinkFault)
        (by_first_exact 100 disk_so (node_else 100 (λ e. omega (arith, e))) (word_exact (codes "disk fault\n") kind.DiskFault) (node_exact sites h)))

    within_exact : Exact InOr (within_at sites)
    unfolding within_at
    within_exact =
        by_first_exact 105 in_so (bad_else 105 (λ e. omega (arith, e)) (λ e. omega (arith, e)) (λ e. omega (arith, e)) (λ e. omega (arith, e)) (λ e. omega (arith, e)) (λ e. omega (arith, e))) in_exact
        (by_first_exact 98 bad_so (stray_else 98 (λ e. omega (arith, e)) (λ e. omega (arith, e)) (λ e. omega (arith, e)) (λ e. omega (arith, e)) (λ e. omega (arith, e))) bad_exact
        (by_first_exact 115 stray_so (end_else 115 (λ e. omega (arith, e)) (λ e. omega (arith, e)) (λ e. omega (arith, e)) (λ e. omega (arith, e))) stray_exact ending_exact))

    after_turn_exact : Exact OutOr (after_turn_at sites)
    unfolding after_turn_at
    after_turn_exact =
        by_first_exact 111 out_so (in_else 111 (λ e. omega (arith, e)) (λ e. omega (arith, e)) (λ e. omega (arith, e)) (λ e. omega (arith, e)) (λ e. omega (arith, e)) (λ e. omega (arith, e)) (λ e. omega (arith, e))) out_exact within_exact

-- ---- they are the lines of a draft

module _ (d : RecordingDraft) where
  abbrev L : RecordingLine → List ℕ → Type 0
  L = LineText d

  abbrev s : List ℕ
  s = sites_said d

  node_to : IsFree d → (e : RecordingLine) (t : List ℕ) → NodeLine s e t → L e t
  node_to free e t h =
      let m = h.after in
      subst (λ (e : RecordingLine). L e t) (sym m.after.is) (free, m.before.stands, h.parts ∙ rw (h.before, m.parts, m.before.is, m.after.spelled) refl)

  node_line : AllSites s → (site : ℕ) (t : List ℕ) → has s site ≡ true → t ≡ number_line (codes "node ") site → NodeLine s (kind.Node site) t
  node_line all site t on is = record {
    first = tt;
    front = codes "node ";
    back = decimal site ++ 10 ∷ [];
    before = refl;
    parts = is;
    after = record {
      first = site;
      front = decimal site;
      back = 10 ∷ [];
      before = record { is = refl; stands = on; higher = omega (arith, (site_range s site all on).0) };
      parts = refl;
      after = record { from = tt; spelled = refl; is = refl };
    };
  }

  within_to : IsWithin d → (e : RecordingLine) (t : List ℕ) → InOr s e t → L e t
  within_to w e t h = elim h [
    | inl x ↦ let f = frame_spelled (codes "in ") x.from t x.spelled in subst (λ (e : RecordingLine). L e t) (sym x.is) (w, f.0, f.1)
    | inr h ↦ elim h [
      | inl x ↦ let n = count_spelled (codes "bad ") 0 most_bytes x.from t x.spelled in subst (λ (e : RecordingLine). L e t) (sym x.is) (w, (x.from, n.1, n.2))
      | inr h ↦ elim h [
        | inl x ↦ let f = frame_spelled (codes "stray ") x.from t x.spelled in subst (λ (e : RecordingLine). L e t) (sym x.is) (w, (x.from, f.0, f.1))
        | inr h ↦ elim h [
          | inl x ↦ subst (λ (e : RecordingLine). L e t) (sym x.is) (w, x.spelled)
          | inr h ↦ elim h [
            | inl x ↦ subst (λ (e : RecordingLine). L e t) (sym x.is) (w, x.spelled)
            | inr h ↦ elim h [
              | inl x ↦ subst (λ (e : RecordingLine). L e t) (sym x.is) (w, x.spelled)
              | inr n ↦ node_to w.free e t n
            ]
          ]
        ]
      ]
    ]
  ]

  turn_to : IsWithin d → is_some d.turn ≡ true → (e : RecordingLine) (t : List ℕ) → OutOr s e t → L e t
  turn_to w on e t h = elim h [
    | inl x ↦ let f = frame_spelled (codes "out ") x.from t x.spelled in subst (λ (e : RecordingLine). L e t) (sym x.is) (w, on, f.0, f.1)
    | inr h ↦ within_to w e t h
  ]

  closed_head : d.head.opened ≡ true → (line : HeadLine) (t : List ℕ) → heads.LineText key d.head line t → ⊥
  closed_head on line t h = false≢true (sym (opens line h) ∙ on)
    where
      opens : (line : HeadLine) → heads.LineText key d.head line t → d.head.opened ≡ false
      opens (heads_kind.Entry entry) h = h.0
      opens heads_kind.Key h = h.0

  no_start : is_some d.named ≡ false → (life : ℕ) (t : List ℕ) → L (kind.Start life) t → ⊥
  no_start off life t h = false≢true (sym off ∙ h.1)

  module _ (on : d.head.opened ≡ true) (off : is_some d.named ≡ false) (all : AllSites s) where
    within_from : is_some d.turn ≡ false → (e : RecordingLine) (t : List ℕ) → L e t → InOr s e t
    within_from none (kind.Head line) t h = absurd (closed_head on line t h)
    within_from none (kind.Node site) t h = inr (inr (inr (inr (inr (inr (node_line all site t h.1 h.2))))))
    within_from none (kind.Start life) t h = absurd (no_start off life t h)
    within_from none (kind.In frame) t h = inl (record { from = frame; spelled = frame_text (codes "in ") frame t h.1 h.2; is = refl })
    within_from none (kind.Out frame) t h = absurd (false≢true (sym none ∙ h.1))
    within_from none kind.Bad t h = inr (inl (record { from = h.1.0; spelled = count_text (codes "bad ") 0 most_bytes h.1.0 t (omega arith) h.1.1 h.1.2; is = refl }))
    within_from none kind.Stray t h = inr (inr (inl (record { from = h.1.0; spelled = frame_text (codes "stray ") h.1.0 t h.1.1 h.1.2; is = refl })))
    within_from none kind.End t h = inr (inr (inr (inl (record { from = tt; spelled = h.1; is = refl }))))
    within_from none kind.LinkFault t h = inr (inr (inr (inr (inl (record { from = tt; spelled = h.1; is = refl })))))
    within_from none kind.DiskFault t h = inr (inr (inr (inr (inr (inl (record { from = tt; spelled = h.1; is = refl }))))))

    turn_from : (e : RecordingLine) (t : List ℕ) → L e t → OutOr s e t
    turn_from (kind.Head line) t h = absurd (closed_head on line t h)
    turn_from (kind.Node site) t h = inr (inr (inr (inr (inr (inr (inr (node_line all site t h.1 h.2)))))))
    turn_from (kind.Start life) t h = absurd (no_start off life t h)
    turn_from (kind.In frame) t h = inr (inl (record { from = frame; spelled = frame_text (codes "in ") frame t h.1 h.2; is = refl }))
    turn_from (kind.Out frame) t h = inl (record { from = frame; spelled = frame_text (codes "out ") frame t h.2 h.3; is = refl })
    turn_from kind.Bad t h = inr (inr (inl (record { from = h.1.0; spelled = count_text (codes "bad ") 0 most_bytes h.1.0 t (omega arith) h.1.1 h.1.2; is = refl })))
    turn_from kind.Stray t h = inr (inr (inr (inl (record { from = h.1.0; spelled = frame_text (codes "stray ") h.1.0 t h.1.1 h.1.2; is = refl }))))
    turn_from kind.End t h = inr (inr (inr (inr (inl (record { from = tt; spelled = h.1; is = refl })))))
    turn_from kind.LinkFault t h = inr (inr (inr (inr (inr (inl (record { from = tt; spelled = h.1; is = refl }))))))
    turn_from kind.DiskFault t h = inr (inr (inr (inr (inr (inr (inl (record { from = tt; spelled = h.1; is = refl })))))))

    node_from : is_some d.block ≡ false → (e : RecordingLine) (t : List ℕ) → L e t → NodeLine s e t
    node_from none (kind.Head line) t h = absurd (closed_head on line t h)
    node_from none (kind.Node site) t h = node_line all site t h.1 h.2
    node_from none (kind.Start life) t h = absurd (no_start off life t h)
    node_from none (kind.In frame) t h = absurd (false≢true (sym none ∙ h.0.goes_on))
    node_from none (kind.Out frame) t h = absurd (false≢true (sym none ∙ h.0.goes_on))
    node_from none kind.Bad t h = absurd (false≢true (sym none ∙ h.0.goes_on))
    node_from none kind.Stray t h = absurd (false≢true (sym none ∙ h.0.goes_on))
    node_from none kind.End t h = absurd (false≢true (sym none ∙ h.0.goes_on))
    node_from none kind.LinkFault t h = absurd (false≢true (sym none ∙ h.0.goes_on))
    node_from none kind.DiskFault t h = absurd (false≢true (sym none ∙ h.0.goes_on))

  none_is : {X : Type 0} (o : Option X) → is_some o ≡ false → o ≡ None
  none_is None e = refl
  none_is (Some x) e = absurd cc

  free_exact : d.head.opened ≡ true → is_some d.named ≡ false → AreSites s → Exact L (free_at d)
  unfolding free_at
  free_exact on off h = by (is_some d.block) refl
    where
      free : IsFree d
      free = record { opened = on; unnamed = none_is d.named off }

      turns : (b : Bool) → is_some d.turn ≡ b → IsWithin d → Exact L (λ bytes. cond b (after_turn_at s bytes) (within_at s bytes))
      turns true e w = exact_as (turn_to w e) (turn_from on off h.all) (after_turn_exact s h)
      turns false e w = exact_as (within_to w) (within_from on off h.all e) (within_exact s h)

      by : (b : Bool) → is_some d.block ≡ b → Exact L (λ bytes. cond b (cond (is_some d.turn) (after_turn_at s bytes) (within_at s bytes)) (node_at s bytes))
      by true e = turns (is_some d.turn) refl (record { free = free; goes_on = e })
      by false e = exact_as (node_to free) (node_from on off h.all e) (node_exact s h)

  -- ---- after `node`

  start_to : d.head.opened ≡ true → is_some d.named ≡ true → (e : RecordingLine) (t : List ℕ) → StartLine (life_before d) e t → L e t
  start_to on some e t h =
      let n = count_spelled (codes "start ") (life_before d + 1) (2 ^ 32 - 1) h.from t h.spelled in
      subst (λ (e : RecordingLine). L e t) (sym h.is) (on, some, (let z = n.0 in omega (arith, z)), n.1, n.2)

  named_free : is_some d.named ≡ true → IsFree d → ⊥
  named_free some free = false≢true (ap is_some (sym free.unnamed) ∙ some)

  start_from : d.head.opened ≡ true → is_some d.named ≡ true → (e : RecordingLine) (t : List ℕ) → L e t → StartLine (life_before d) e t
  start_from on some (kind.Head line) t h = absurd (closed_head on line t h)
  start_from on some (kind.Node site) t h = absurd (named_free some h.0)
  start_from on some (kind.Start life) t h = record { from = life; spelled = count_text (codes "start ") (life_before d + 1) (2 ^ 32 - 1) life t (let z = h.2 in omega (arith, z)) h.3 h.4; is = refl }
  start_from on some (kind.In frame) t h = absurd (named_free some h.0.free)
  start_from on some (kind.Out frame) t h = absurd (named_free some h.0.free)
  start_from on some kind.Bad t h = absurd (named_free some h.0.free)
  start_from on some kind.Stray t h = absurd (named_free some h.0.free)
  start_from on some kind.End t h = absurd (named_free some h.0.free)
  start_from on some kind.LinkFault t h = absurd (named_free some h.0.free)
  start_from on some kind.DiskFault t h = absurd (named_free some h.0.free)

  -- ---- before the line `recordings`

  abbrev Head : RecordingLine → List ℕ → Type 0
  Head = Made (heads.LineText key d.head) (λ line. kind.Head line)

  head_to : (e : RecordingLine) (t : List ℕ) → Head e t → L e t
  head_to e t h = subst (λ (e : RecordingLine). L e t) (sym h.is) h.spelled

  unopened : d.head.opened ≡ false → IsFree d → ⊥
  unopened off free = false≢true (sym off ∙ free.opened)

  head_from : d.head.opened ≡ false → (e : RecordingLine) (t : List ℕ) → L e t → Head e t
  head_from off (kind.Head line) t h = record { from = line; spelled = h; is = refl }
  head_from off (kind.Node site) t h = absurd (unopened off h.0)
  head_from off (kind.Start life) t h = absurd (false≢true (sym off ∙ h.0))
  head_from off (kind.In frame) t h = absurd (unopened off h.0.free)
  head_from off (kind.Out frame) t h = absurd (unopened off h.0.free)
  head_from off kind.Bad t h = absurd (unopened off h.0.free)
  head_from off kind.Stray t h = absurd (unopened off h.0.free)
  head_from off kind.End t h = absurd (unopened off h.0.free)
  head_from off kind.LinkFault t h = absurd (unopened off h.0.free)
  head_from off kind.DiskFault t h = absurd (unopened off h.0.free)

  head_exact : d.head.opened ≡ false → Exact (heads.LineText key d.head) (head_at key d.head.catalog) → Exact L (head_line_at d)
  unfolding head_line_at
  head_exact off e = exact_as head_to (head_from off) (made_exact (λ line. kind.Head line) e)

  pub line_exact : (d.head.opened ≡ false → Exact (heads.LineText key d.head) (head_at key d.head.catalog)) → (d.head.opened ≡ true → AreSites s) → life_before d < 2 ^ 32 - 1 → Exact L (line_at d)
  unfolding line_at
  line_exact entries sites left = by d.head.opened refl
    where
      names : d.head.opened ≡ true → (b : Bool) → is_some d.named ≡ b → Exact L (λ bytes. cond b (start_at (life_before d) bytes) (free_at d bytes))
      names on true e = exact_as (start_to on e) (start_from on e) (start_exact (life_before d) left)
      names on false e = free_exact on e (sites on)

      by : (b : Bool) → d.head.opened ≡ b → Exact L (λ bytes. cond b (cond (is_some d.named) (start_at (life_before d) bytes) (free_at d bytes)) (head_line_at d bytes))
      by true on = names on (is_some d.named) refl
      by false off = head_exact off (entries off)
