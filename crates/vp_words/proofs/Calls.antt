-- Calls of words.
use Rattle.std.proofs.Common.{◌≡◌, ℕ, Bool, true, false, cond, List, [], ◌∷◌, Option, Some, None, Result, Ok, Err, refl, sym, ap, ◌∙◌}
use Rattle.std.specs.Prelude.{option_and_then, option_map}
use Rattle.std.specs.Str.{bytes_eq}
use Rattle.std.proofs.lemmas.List.{append-nil}
use Rattle.std.proofs.lemmas.Slice.Eq.{bytes_eq-Decides}
use Rattle.clap.specs.Walk.{Row, Text}
use Rattle.vp_model.specs.Types.{Call}
use Rattle.vp_model.specs.Texts.Calls.{call_text}
use Rattle.vp_schedule.specs.Grammar.{IsCallText}
use Rattle.vp_schedule.specs.Reading.{call_at}
use Rattle.vp_schedule.proofs.Exact.{call_exact}
use Rattle.vp_text.proofs.Exact.{Apart}
use Rattle.vp_words.specs.Commands.{call}
use Rattle.vp_words.specs.Parsed.{client_command, client_operands}
use Rattle.vp_words.specs.declared.words.Command.TheVariants as commands

abbrev chosen : List ℕ → Result (Call × List ℕ) ℕ → Option Call
chosen word r = elim r [ Ok read ↦ cond (bytes_eq word (call_text read.0)) (Some read.0) None | Err left ↦ None ]

-- a word that is the text of a call
pub call_some : (word : List ℕ) (c : Call) → IsCallText c word → Some c ≡ call word
unfolding call
call_some word c h =
    let read : call_at word ≡ Ok (c, []) = ap call_at (sym (append-nil word)) ∙ call_exact.again c word [] h (λ b r l. apart r) in
    let same : bytes_eq word (call_text c) ≡ true = (bytes_eq-Decides word (call_text c)).1 h.is in
    sym (ap (chosen word) read ∙ ap (λ (b : Bool). cond b (Some c) None) same)
  where
    apart : (r : List ℕ) → Apart r []
    apart [] = tt
    apart (x ∷ r) = tt

-- a word that is none
pub call_none : (word : List ℕ) → ((c : Call) → IsCallText c word → ⊥) → None ≡ call word
unfolding call
call_none word none = sym (go (call_at word) refl)
  where
    go : (r : Result (Call × List ℕ) ℕ) → call_at word ≡ r → chosen word r ≡ None
    go (Ok read) e = tested (bytes_eq word (call_text read.0)) refl
      where
        tested : (b : Bool) → bytes_eq word (call_text read.0) ≡ b → cond b (Some read.0) None ≡ None
        tested true same = absurd (none read.0 (record { is = (bytes_eq-Decides word (call_text read.0)).0 same; allowed = (call_exact.ok word read.0 read.1 e).spelled.allowed }))
        tested false same = refl
    go (Err left) e = refl

-- ---- the command of a client's call

module _ (rows : List Row) (o : ℕ × ℕ × ℕ × Text) (is : Some o ≡ client_operands rows) where
  with_call : client_command rows ≡ option_map (λ call. commands.Client o.0 o.1 o.2 call) (call o.3)
  with_call = ap (option_and_then (λ o. option_map (λ call. commands.Client o.0 o.1 o.2 call) (call o.3))) (sym is)

  pub called_some : (c : Call) → IsCallText c o.3 → Some (commands.Client o.0 o.1 o.2 c) ≡ client_command rows
  called_some c h = sym (with_call ∙ ap (option_map (λ call. commands.Client o.0 o.1 o.2 call)) (sym (call_some o.3 c h)))

  pub called_none : ((c : Call) → IsCallText c o.3 → ⊥) → None ≡ client_command rows
  called_none none = sym (with_call ∙ ap (option_map (λ call. commands.Client o.0 o.1 o.2 call)) (sym (call_none o.3 none)))
