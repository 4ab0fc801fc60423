-- The four layers of a picture: bars below, then arrows, stubs, and texts on top.
use Rattle.std.proofs.Common.{◌≡◌, ◌∙◌, ℕ, Bool, true, false, List, ◌++◌, sym, subst, ⊎_elim}
use Rattle.std.specs.List.{Contains}
use Rattle.std.proofs.lemmas.List.Elements.{Contains-append_left, Contains-append_right, Contains-append_cases}
use Rattle.vp_pictures.specs.declared.shape.Ink.TheVariants as ink
use Rattle.vp_pictures.specs.declared.shape.Shape.{Shape}
use Rattle.vp_pictures.specs.declared.shape.Shape.TheVariants as shape

abbrev pub layer : Shape → ℕ
layer (shape.Bar colour x y width height) = 0
layer (shape.Line ink.Life x y x' y') = 0
layer (shape.Line ink.Never x y x' y') = 2
layer (shape.Line kind x y x' y') = 1
layer (shape.Text kind x y words) = 3

-- a shape isn't what a test tells from it
pub differs : (test : Shape → Bool) (a b : Shape) → a ≡ b → test a ≡ true → test b ≡ false → ⊥
differs test a b same passes fails = let e : test b ≡ true = subst (λ x. test x ≡ true) same passes in cc

module _ (bars arrows stubs texts : List Shape) (a : Shape) where
  abbrev Whole : Type 0
  Whole = Contains (bars ++ (arrows ++ (stubs ++ texts))) a

  pub to_bars : Contains bars a → Whole
  to_bars h = Contains-append_left bars _ a h

  pub to_arrows : Contains arrows a → Whole
  to_arrows h = Contains-append_right bars (arrows ++ (stubs ++ texts)) a (Contains-append_left arrows (stubs ++ texts) a h)

  pub to_stubs : Contains stubs a → Whole
  to_stubs h = Contains-append_right bars (arrows ++ (stubs ++ texts)) a (Contains-append_right arrows (stubs ++ texts) a (Contains-append_left stubs texts a h))

  pub to_texts : Contains texts a → Whole
  to_texts h = Contains-append_right bars (arrows ++ (stubs ++ texts)) a (Contains-append_right arrows (stubs ++ texts) a (Contains-append_right stubs texts a h))

  pub in_layers : {A : Type 0} → (Contains bars a → A) → (Contains arrows a → A) → (Contains stubs a → A) → (Contains texts a → A) → Whole → A
  in_layers b c d e h =
      ⊎_elim b (λ h. ⊎_elim c (λ h. ⊎_elim d e (Contains-append_cases stubs texts a h)) (Contains-append_cases arrows (stubs ++ texts) a h)) (Contains-append_cases bars (arrows ++ (stubs ++ texts)) a h)

  pub not_there : {A : Type 0} (m n : ℕ) → layer a ≡ m → layer a ≡ n → (m ≡ n → ⊥) → A
  not_there m n e f differ = absurd (differ (sym e ∙ f))
