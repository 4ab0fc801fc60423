-- The texts of calls.
use Rattle.std.specs.Prelude.{◌≡◌, ℕ, List}
use Rattle.vp_base.specs.Calls.{IsCall}
use Rattle.vp_model.specs.Types.{Call}
use Rattle.vp_model.specs.Texts.Calls.{call_text}

-- The text is that of a call, as it follows its site.
pub record IsCallText (words : Call) (text : List ℕ) : Type 0 where
  pub is : text ≡ call_text words
  pub allowed : IsCall words
