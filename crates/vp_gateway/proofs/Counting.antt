-- At which end a count of failures rises.
use Rattle.std.proofs.Common.{◌≡◌, ℕ, ◌≤◌, Bool, true, false, List, refl, subst, arith, Result, Ok, Err}
use Rattle.vp_catalog.specs.declared.fault.CatalogFault.{CatalogFault}
use Rattle.vp_catalog.specs.declared.fault.CatalogFault.TheVariants as lines
use Rattle.vp_outside.specs.Causes.{Rose}
use Rattle.vp_outside.specs.Input.{SourceState, HasInputCause}
use Rattle.vp_outside.specs.Output.{HasOutCause}
use Rattle.vp_outside.specs.Links.{LinkState}
use Rattle.vp_outside.specs.declared.source.InputFault.{InputFault}
use Rattle.vp_outside.specs.declared.source.InputFault.TheVariants as input
use Rattle.vp_outside.specs.declared.sink.OutFault.{OutFault}
use Rattle.vp_outside.specs.declared.sink.OutFault.TheVariants as output
use Rattle.vp_lines.specs.Ahead.{Ahead}
use Rattle.vp_gateway.specs.declared.end.GateEnd.{GateEnd}
use Rattle.vp_gateway.specs.declared.end.GateEnd.TheVariants as ends
use Rattle.vp_gateway.specs.declared.asked.LineRequest.{LineRequest}
use Rattle.vp_gateway.specs.Causes.{RisesAt}
use Rattle.vp_gateway.specs.Ends.{end_of, end_of_input, end_of_output, end_of_catalog}
use Rattle.vp_gateway.specs.Opening.{Opens, end_by_limit}
use Rattle.vp_gateway.specs.Sessions.{Talk}
use Rattle.vp_gateway.specs.Answering.{Says, AnswersLine}

module _ {E : Type 0} (at : E) (before now : ℕ) where
  -- a count that is as it was, at another end
  pub stays : (end : E) → (end ≡ at → ⊥) → now ≡ before → RisesAt at end before now
  stays end other same = record { later = omega (arith, same); rose = λ is. absurd (other is); same = λ _. same }

  pub rises : before ≤ now → Rose before now → RisesAt at at before now
  rises later rose = record { later = later; rose = λ _. rose; same = λ other. absurd (other refl) }

  -- a count that was still the same when it was looked at in between
  pub since : (mid : ℕ) (end : E) → mid ≡ before → RisesAt at end mid now → RisesAt at end before now
  since mid end same h = subst (λ n. RisesAt at end n now) same h

-- ---- faults that were passed on

pub input_rises : (T : Type 0) (e : InputFault) (before now : ℕ) → HasInputCause {T = T} before now (Err e) → RisesAt ends.ReadFault (end_of_input e) before now
input_rises T input.Failed before now h = rises ends.ReadFault before now h.later (h.failed refl)
input_rises T input.TooLong before now h = stays ends.ReadFault before now ends.Limit (λ (e : ends.Limit ≡ ends.ReadFault). cc) (h.too_long refl)
input_rises T input.NoMemory before now h = stays ends.ReadFault before now ends.NoMemory (λ (e : ends.NoMemory ≡ ends.ReadFault). cc) (h.no_memory refl)

pub output_rises : (T : Type 0) (e : OutFault) (before now : ℕ) → HasOutCause {T = T} before now (Err e) → RisesAt ends.WriteFault (end_of_output e) before now
output_rises T output.Failed before now h = rises ends.WriteFault before now h.later (h.failed refl)
output_rises T output.NoMemory before now h = stays ends.WriteFault before now ends.NoMemory (λ (e : ends.NoMemory ≡ ends.WriteFault). cc) (h.no_memory refl)

-- an input's fault is none of the sink's
pub input_unput : (e : InputFault) → end_of_input e ≡ ends.WriteFault → ⊥
input_unput input.Failed e = let no : ends.ReadFault ≡ ends.WriteFault = e in cc
input_unput input.TooLong e = let no : ends.Limit ≡ ends.WriteFault = e in cc
input_unput input.NoMemory e = let no : ends.NoMemory ≡ ends.WriteFault = e in cc

-- a catalogue's fault is none of the source's
pub catalog_untaken : (e : CatalogFault) → end_of_catalog e ≡ ends.ReadFault → ⊥
catalog_untaken (lines.BadLine line at) e = let no : ends.BadLine line at ≡ ends.ReadFault = e in cc
catalog_untaken (lines.Twice line) e = let no : ends.Twice line ≡ ends.ReadFault = e in cc
catalog_untaken (lines.TooMany line limit) e = let no : ends.TooMany line limit ≡ ends.ReadFault = e in cc
catalog_untaken lines.NoMemory e = let no : ends.NoMemory ≡ ends.ReadFault = e in cc

-- ---- the ends of a line

pub said_unput : {T : Type 0} (port site turns : ℕ) (view : T → List ℕ) (line : LineRequest) (old new : LinkState) (end : GateEnd) → Says port site turns view line old new (Err end) → end ≡ ends.WriteFault → ⊥
said_unput port site turns view line old new ends.WriteFault h e = h
said_unput port site turns view line old new ends.LinkFault h e = cc
said_unput port site turns view line old new ends.NoMemory h e = cc
said_unput port site turns view line old new ends.Done h e = h
said_unput port site turns view line old new (ends.BadLine l at) h e = h
said_unput port site turns view line old new (ends.Twice l) h e = h
said_unput port site turns view line old new (ends.TooMany l limit) h e = h
said_unput port site turns view line old new ends.NoSite h e = h
said_unput port site turns view line old new ends.ReadFault h e = h
said_unput port site turns view line old new ends.Limit h e = h

pub answered_untaken : (port site turns : ℕ) (line : LineRequest) (t : Talk) (r : Result (Unit {0}) GateEnd) → AnswersLine port site turns line t r → end_of r ≡ ends.ReadFault → ⊥
answered_untaken port site turns line t (Ok u) h e = let no : ends.Done ≡ ends.ReadFault = e in cc
answered_untaken port site turns line t (Err ends.WriteFault) h e = let no : ends.WriteFault ≡ ends.ReadFault = e in cc
answered_untaken port site turns line t (Err ends.LinkFault) h e = let no : ends.LinkFault ≡ ends.ReadFault = e in cc
answered_untaken port site turns line t (Err ends.NoMemory) h e = let no : ends.NoMemory ≡ ends.ReadFault = e in cc
answered_untaken port site turns line t (Err ends.Done) h e = h
answered_untaken port site turns line t (Err (ends.BadLine l at)) h e = h
answered_untaken port site turns line t (Err (ends.Twice l)) h e = h
answered_untaken port site turns line t (Err (ends.TooMany l limit)) h e = h
answered_untaken port site turns line t (Err ends.NoSite) h e = h
answered_untaken port site turns line t (Err ends.ReadFault) h e = h
answered_untaken port site turns line t (Err ends.Limit) h e = h

-- ---- the ends of the head

pub opened_unput : (site : ℕ) (ahead : Ahead) (source source' : SourceState) (end : GateEnd) → Opens site ahead source source' (Err end) → end ≡ ends.WriteFault → ⊥
opened_unput site ahead source source' ends.WriteFault h e = h
opened_unput site ahead source source' ends.Done h e = h
opened_unput site ahead source source' ends.LinkFault h e = h
opened_unput site ahead source source' ends.ReadFault h e = cc
opened_unput site ahead source source' ends.Limit h e = cc
opened_unput site ahead source source' ends.NoMemory h e = cc
opened_unput site ahead source source' (ends.BadLine l at) h e = cc
opened_unput site ahead source source' (ends.Twice l) h e = cc
opened_unput site ahead source source' (ends.TooMany l limit) h e = cc
opened_unput site ahead source source' ends.NoSite h e = cc

-- a limit in place of a refusal is no fault of the source
pub limited_rises : (spent : Bool) (end : GateEnd) (before now : ℕ) → RisesAt ends.ReadFault end before now → RisesAt ends.ReadFault (end_by_limit spent end) before now
limited_rises true (ends.BadLine line at) before now h = stays ends.ReadFault before now ends.Limit (λ (e : ends.Limit ≡ ends.ReadFault). cc) (h.same (λ (e : ends.BadLine line at ≡ ends.ReadFault). cc))
limited_rises true (ends.Twice line) before now h = stays ends.ReadFault before now ends.Limit (λ (e : ends.Limit ≡ ends.ReadFault). cc) (h.same (λ (e : ends.Twice line ≡ ends.ReadFault). cc))
limited_rises true (ends.TooMany line limit) before now h = stays ends.ReadFault before now ends.Limit (λ (e : ends.Limit ≡ ends.ReadFault). cc) (h.same (λ (e : ends.TooMany line limit ≡ ends.ReadFault). cc))
limited_rises true ends.NoSite before now h = stays ends.ReadFault before now ends.Limit (λ (e : ends.Limit ≡ ends.ReadFault). cc) (h.same (λ (e : ends.NoSite ≡ ends.ReadFault). cc))
limited_rises true ends.Done before now h = h
limited_rises true ends.ReadFault before now h = h
limited_rises true ends.WriteFault before now h = h
limited_rises true ends.LinkFault before now h = h
limited_rises true ends.Limit before now h = h
limited_rises true ends.NoMemory before now h = h
limited_rises false end before now h = h
