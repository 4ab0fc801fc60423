-- What there is in a picture, and its text.
use Rattle.std.proofs.Common.{◌≡◌, ◌∙◌, ℕ, true, List, [], ◌∷◌, ◌++◌, refl, sym, ap, subst, append_assoc, ⊎_elim, arith}
use Rattle.std.specs.Prelude.{Option, Some, None}
use Rattle.std.specs.List.{Contains, cons_option, filter_map, flat_map}
use Rattle.std.proofs.lemmas.Grind.{flat_map-append}
use Rattle.std.specs.Option.{option_map_or}
use Rattle.vp_model.specs.Catalogue.{Catalogue}
use Rattle.vp_model.specs.World.{Schedule}
use Rattle.vp_pictures.specs.Pictures.{edges, size_text, stub_of, stub_text}
use Rattle.vp_pictures.specs.Shapes.{shape_text}
use Rattle.vp_pictures.specs.Style.{style}
use Rattle.vp_pictures.specs.declared.shape.Ink.TheVariants as ink
use Rattle.vp_pictures.specs.declared.shape.Shape.{Shape}
use Rattle.vp_pictures.specs.declared.shape.Shape.TheVariants as shape
use Rattle.vp_pictures.specs.declared.sheet.Mark.{Mark}
use Rattle.vp_pictures.specs.declared.sheet.Part.{Part}
use Rattle.vp_pictures.specs.declared.sheet.Sheet.{Sheet}
use Rattle.vp_drawing.specs.Claims.{ArrowsAreDrawn, BarsAreDrawn, Has, OutcomesAreDrawn, ShapesAreWritten, StubsAreDrawn, TextsAreApart, is_arrow, is_bar, is_life, is_stub}
use Rattle.vp_drawing.specs.Moments.{sheet_of}
use Rattle.vp_drawing.proofs.Arrows.{arrow_layer, arrow_there, arrows_only, stub_layer, stub_there, stubs_only}
use Rattle.vp_drawing.proofs.Bars.{IsOfSite, bar_layer, bar_there, bars_only, life_there, lock_there}
use Rattle.vp_drawing.proofs.Layers.{differs, in_layers, layer, to_arrows, to_bars, to_stubs, to_texts}
use Rattle.vp_drawing.proofs.Lists.{place_in}
use Rattle.vp_drawing.proofs.Texts.{commit_there, delivery_there, has_rows, message_there, number_there, other_there, reason_there, reply_there, texts_layer, view_there}

module _ (s : Schedule) (part : Part) (a : Shape) where
  abbrev sheet : Sheet
  sheet = sheet_of s part

  abbrev stubs : List Shape
  stubs = filter_map (stub_of s.catalogue sheet.came) sheet.marks

  bar_in : Contains sheet.bars a → Has s part a
  bar_in h = to_bars sheet.bars sheet.arrows stubs sheet.texts a h

  pub text_in : Contains sheet.texts a → Has s part a
  text_in h = to_texts sheet.bars sheet.arrows stubs sheet.texts a h

  arrow_level : Contains sheet.arrows a → layer a ≡ 1
  arrow_level h = ⊎_elim (λ it. arrow_layer s part a it) (λ it. it.1) (arrows_only s part a h)

  -- a shape that is there is in the layer that is its own
  module _ {A : Type 0} (n : ℕ) (level : layer a ≡ n) where
    in_bars : n ≡ 0 → (Contains sheet.bars a → A) → Has s part a → A
    in_bars is f h = in_layers sheet.bars sheet.arrows stubs sheet.texts a f (λ h. let l = arrow_level h in absurd (omega (arith, level, is, l))) (λ h. let l = stub_layer s part a (stubs_only s part a h) in absurd (omega (arith, level, is, l))) (λ h. let l = texts_layer s part a h in absurd (omega (arith, level, is, l))) h

    in_arrows : n ≡ 1 → (Contains sheet.arrows a → A) → Has s part a → A
    in_arrows is f h = in_layers sheet.bars sheet.arrows stubs sheet.texts a (λ h. let l = bar_layer s part a (bars_only s part a h) in absurd (omega (arith, level, is, l))) f (λ h. let l = stub_layer s part a (stubs_only s part a h) in absurd (omega (arith, level, is, l))) (λ h. let l = texts_layer s part a h in absurd (omega (arith, level, is, l))) h

    in_stubs : n ≡ 2 → (Contains stubs a → A) → Has s part a → A
    in_stubs is f h = in_layers sheet.bars sheet.arrows stubs sheet.texts a (λ h. let l = bar_layer s part a (bars_only s part a h) in absurd (omega (arith, level, is, l))) (λ h. let l = arrow_level h in absurd (omega (arith, level, is, l))) f (λ h. let l = texts_layer s part a h in absurd (omega (arith, level, is, l))) h

  the_bars : layer a ≡ 0 → Has s part a → IsOfSite s part a
  the_bars level h = in_bars 0 level refl (λ h. bars_only s part a h) h

-- ---- which layer is a shape's own

arrow_test : (a : Shape) → is_arrow a ≡ true → layer a ≡ 1
arrow_test (shape.Line ink.Comes x y x' y') e = refl
arrow_test (shape.Line ink.Lost x y x' y') e = refl
arrow_test _ e = cc

stub_test : (a : Shape) → is_stub a ≡ true → layer a ≡ 2
stub_test (shape.Line ink.Never x y x' y') e = refl
stub_test _ e = cc

life_test : (a : Shape) → is_life a ≡ true → layer a ≡ 0
life_test (shape.Line ink.Life x y x' y') e = refl
life_test _ e = cc

bar_test : (wide : ℕ) (a : Shape) → is_bar wide a ≡ true → layer a ≡ 0
bar_test wide (shape.Bar colour x y width height) e = refl
bar_test wide _ e = cc

-- ---- the laws

pub arrows : ArrowsAreDrawn
arrows s part a test = (
  λ h. in_arrows s part a 1 (arrow_test a test) refl (λ h. ⊎_elim (λ it. it) (λ cut. let no = cut.0 in cc) (arrows_only s part a h)) h,
  λ it. to_arrows (sheet s part a).bars (sheet s part a).arrows (stubs s part a) (sheet s part a).texts a (arrow_there s part a it),
)

pub stubs_all : StubsAreDrawn
stubs_all s part a test = (
  λ h. in_stubs s part a 2 (stub_test a test) refl (λ h. stubs_only s part a h) h,
  λ it. to_stubs (sheet s part a).bars (sheet s part a).arrows (stubs s part a) (sheet s part a).texts a (stub_there s part a it),
)

pub bars_all : BarsAreDrawn
bars_all = record {
  lives = λ s part a test. (
    λ h. ⊎_elim (λ it. it) (λ other. ⊎_elim (λ it. absurd (differs is_life a _ it.is test refl)) (λ it. absurd (differs is_life a _ it.is test refl)) other) (the_bars s part a (life_test a test) h),
    λ it. bar_in s part a (life_there s part a it),
  );
  views = λ s part a test. (
    λ h. ⊎_elim (λ it. absurd (differs (is_bar 8) a _ it.is test refl)) (λ other. ⊎_elim (λ it. it) (λ it. absurd (differs (is_bar 8) a _ it.is test refl)) other) (the_bars s part a (bar_test 8 a test) h),
    λ it. bar_in s part a (bar_there s part a it),
  );
  locks = λ s part a test. (
    λ h. ⊎_elim (λ it. absurd (differs (is_bar 3) a _ it.is test refl)) (λ other. ⊎_elim (λ it. absurd (differs (is_bar 3) a _ it.is test refl)) (λ it. it) other) (the_bars s part a (bar_test 3 a test) h),
    λ it. bar_in s part a (lock_there s part a it),
  );
}

pub outcomes : OutcomesAreDrawn
outcomes = record {
  events = λ s part t is. record {
    number_is = text_in s part _ (number_there s part t is);
    event_is = λ none. let it = other_there s part t is none in (it.0, text_in s part _ it.1);
    reason_is = λ some. let it = reason_there s part t is some in (it.0, text_in s part _ it.1);
    message_is = λ k x delivers. let it = delivery_there s part t is k x delivers in (it.0, text_in s part _ it.1);
  };
  outcomes = λ s part t is commits first messages replies did. record {
    commits_are = λ i commit e. let it = commit_there s part t is commits first messages replies did i commit e in (it.0, text_in s part _ it.1);
    messages_are = λ i sent e. let it = message_there s part t is commits first messages replies did i sent e in (it.0, text_in s part _ it.1);
    replies_are = λ i reply e. let it = reply_there s part t is commits first messages replies did i reply e in (it.0, text_in s part _ it.1);
  };
  views = λ s part t is view e. let it = view_there s part t is view e in (it.0, text_in s part _ it.1);
}

pub rows : TextsAreApart
rows s part = has_rows s part

-- ---- the text

abbrev Written : Shape → List ℕ → Type 0
Written a text = (before : List ℕ) × (after : List ℕ) × (text ≡ before ++ (shape_text a ++ after))

written_left : (a : Shape) (x y : List ℕ) → Written a x → Written a (x ++ y)
written_left a x y w = (w.0, w.1 ++ y, ap (λ l. l ++ y) w.2 ∙ append_assoc w.0 (shape_text a ++ w.1) y ∙ ap (λ l. w.0 ++ l) (append_assoc (shape_text a) w.1 y))

written_right : (a : Shape) (x y : List ℕ) → Written a y → Written a (x ++ y)
written_right a x y w = (x ++ w.0, w.1, ap (λ l. x ++ l) w.2 ∙ sym (append_assoc x w.0 (shape_text a ++ w.1)))

written_flat : (a : Shape) (l : List Shape) → Contains l a → Written a (flat_map shape_text l)
written_flat a l h =
    let at = place_in l a h in
    (flat_map shape_text at.0, flat_map shape_text at.1, ap (flat_map shape_text) at.2 ∙ flat_map-append shape_text at.0 (a ∷ at.1))

stubs_written : (catalogue : Catalogue) (came : List ℕ) (marks : List Mark) → flat_map (stub_text catalogue came) marks ≡ flat_map shape_text (filter_map (stub_of catalogue came) marks)
stubs_written catalogue came [] = refl
stubs_written catalogue came (m ∷ marks) = ap (λ l. stub_text catalogue came m ++ l) (stubs_written catalogue came marks) ∙ go (stub_of catalogue came m)
  where
    go : (o : Option Shape) → option_map_or shape_text o [] ++ flat_map shape_text (filter_map (stub_of catalogue came) marks) ≡ flat_map shape_text (cons_option o (filter_map (stub_of catalogue came) marks))
    go None = refl
    go (Some a) = refl

pub written : ShapesAreWritten
written s part a h =
    let c = s.catalogue in
    let it = sheet s part a in
    let bars = flat_map shape_text it.bars in
    let arrows = flat_map shape_text it.arrows in
    let drawn = flat_map (stub_text c it.came) it.marks in
    let texts = flat_map shape_text it.texts in
    in_layers it.bars it.arrows (stubs s part a) it.texts a
    (λ h. written_right a (size_text it) _ (written_right a style _ (written_left a bars _ (written_flat a it.bars h))))
    (λ h. written_right a (size_text it) _ (written_right a style _ (written_right a bars _ (written_left a arrows _ (written_flat a it.arrows h)))))
    (λ h. written_right a (size_text it) _ (written_right a style _ (written_right a bars _ (written_right a arrows _ (written_left a drawn _ (subst (Written a) (sym (stubs_written c it.came it.marks)) (written_flat a (stubs s part a) h)))))))
    (λ h. written_right a (size_text it) _ (written_right a style _ (written_right a bars _ (written_right a arrows _ (written_right a drawn _ (written_right a edges _ (written_left a texts _ (written_flat a it.texts h))))))))
    h
