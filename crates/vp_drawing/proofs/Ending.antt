-- How a run of the program ends.
use Rattle.std.proofs.Common.{◌≡◌, ◌∙◌, ℕ, List, sym, ap, subst, inl, inr, ⊎_elim}
use Rattle.std.specs.Prelude.{⊤, ◌≤◌, ◌<◌, length, codes, Some, None, Ok}
use Rattle.std.specs.Io.KnownBytes.{Appends}
use Rattle.vp_model.specs.Catalogue.{Catalogue}
use Rattle.vp_model.specs.World.{Schedule}
use Rattle.vp_outside.specs.Input.{SourceState, IsEnded, Took}
use Rattle.vp_outside.specs.Output.{SinkState}
use Rattle.vp_pictures.specs.Pictures.{picture_text}
use Rattle.vp_pictures.specs.declared.sheet.Part.{Part}
use Rattle.vp_pictures.specs.declared.sheet.Sheet.{Sheet}
use Rattle.vp_status.specs.Printing.{Prints}
use Rattle.vp_status.specs.declared.status.Status.{Status}
use Rattle.vp_status.specs.declared.status.Status.TheVariants as status
use Rattle.vp_drawing.specs.Answers.{IsDrawn, Shows}
use Rattle.vp_drawing.specs.Drawings.{DrawsSchedule}
use Rattle.vp_drawing.specs.Ends.{Defines, Ends, Reads, most_bytes}
use Rattle.vp_drawing.specs.Words.{part_of, usage_text}

-- ---- a schedule

pub shows_done : (s : Schedule) (catalogue : Catalogue) (part : Part) (sheet : Sheet) (text : List ℕ) → catalogue ≡ s.catalogue → DrawsSchedule s part (Ok sheet) → text ≡ picture_text catalogue sheet → Shows part s status.Done text
shows_done s catalogue part sheet text same draws printed = (draws.0, printed ∙ ap (λ c. picture_text c sheet) same ∙ ap (picture_text s.catalogue) draws.1)

-- ---- the input

module _ (part : Part) (source source' : SourceState) where
  pub read_is : (bytes : List ℕ) → Took bytes source source' → IsEnded source' → length bytes ≤ most_bytes → (end : Status) (text : List ℕ) → IsDrawn part bytes end text → Reads part source source' end text
  read_is bytes took ended fits status.Limit text drawn = inr (record { bytes = bytes; took = took; ended = ended; fits = fits; drawn = drawn })
  read_is bytes took ended fits _ text drawn = record { bytes = bytes; took = took; ended = ended; fits = fits; drawn = drawn }

  pub too_long_is : (bytes : List ℕ) → most_bytes < length bytes → Took bytes source source' → (end : Status) (text : List ℕ) → end ≡ status.Limit → text ≡ codes "limit bytes 16777216\n" → Reads part source source' end text
  too_long_is bytes long took end text is said = rw is (inl (record { bytes = bytes; took = took; long = long; text_is = said }))

module _ (words : List (List ℕ)) (source source' : SourceState) where
  -- the words ask for no picture
  pub usage_is : part_of words ≡ None → source' ≡ source → (end : Status) (text : List ℕ) → end ≡ status.Usage → text ≡ usage_text → Defines words source source' end text
  usage_is none same end text is said = rw is (none, same, said)

  -- they ask for one
  pub answer_is : (part : Part) → part_of words ≡ Some part → (end : Status) (text : List ℕ) → Reads part source source' end text → Defines words source source' end text
  answer_is part asked status.Usage text reads = absurd reads.drawn
  answer_is part asked _ text reads = (part, asked, reads)

pub ruleset reading = (read_is, too_long_is)

pub ruleset defining = (usage_is, answer_is)

-- ---- what is printed

-- No text has the status of a fault of the source or the sink, nor the one for memory that ran out.
abbrev HasText : Status → Type 0
HasText status.NoMemory = ⊥
HasText status.SourceFault = ⊥
HasText status.SinkFault = ⊥
HasText _ = ⊤

module _ (words : List (List ℕ)) (source source' : SourceState) (sink sink' : SinkState) where
  has_text : (end : Status) (text : List ℕ) → Defines words source source' end text → HasText end
  has_text status.NoMemory text d = d.2.drawn
  has_text status.SourceFault text d = d.2.drawn
  has_text status.SinkFault text d = d.2.drawn
  has_text _ text d = tt

  whole : (end : Status) (text : List ℕ) → HasText end → Defines words source source' end text → Appends sink.held sink'.held text → Ends words source source' sink sink' end
  whole status.NoMemory text has d a = absurd has
  whole status.SourceFault text has d a = absurd has
  whole status.SinkFault text has d a = absurd has
  whole _ text has d a = record { text = text; defines = d; appended = a }

  pub printed : (end told : Status) (text : List ℕ) → Defines words source source' end text → Prints end text sink sink' told → Ends words source source' sink sink' told
  printed end told text d p =
      let Text = Ends words source source' sink sink' in
      ⊎_elim (λ all. subst Text (sym all.0) (whole end text (has_text end text d) d all.1))
      (λ part. ⊎_elim (λ failed. subst Text (sym failed.0) (failed.2, record { end = end; text = text; defines = d; appended = failed.1 }))
      (λ none. subst Text (sym none.0) (inl (record { end = end; text = text; defines = d; appended = none.1 }))) part) p
