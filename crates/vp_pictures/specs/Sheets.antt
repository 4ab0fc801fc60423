-- What is put on a sheet.
use Rattle.std.specs.Prelude.{ℕ, ◌+◌, ◌-◌, ◌*◌, ◌==◌, max, if◌then◌else◌, List, [], ◌∷◌, ◌++◌, length, slice_get, Option, Some, None, option_map}
use Rattle.vp_model.specs.Types.{Event}
use Rattle.vp_model.specs.Types.event
use Rattle.vp_pictures.specs.Places.{top}
use Rattle.vp_pictures.specs.declared.shape.Ink.{Ink}
use Rattle.vp_pictures.specs.declared.shape.Shape.TheVariants as shape
use Rattle.vp_pictures.specs.declared.sheet.Mark.{Mark}
use Rattle.vp_pictures.specs.declared.sheet.Sheet.{Sheet}

abbrev pub next_line : Sheet → Sheet
next_line s = record s { lines = s.lines + 1 }

-- a text on this line; and one after which the next line begins
abbrev pub add_text : ℕ → Ink → List ℕ → Sheet → Sheet
add_text x ink text s = record s { wide = max s.wide (x + 8 * length text); texts = s.texts ++ shape.Text ink x (top s.lines + 13) text ∷ [] }

abbrev pub add_text_line : ℕ → Ink → List ℕ → Sheet → Sheet
add_text_line x ink text s = next_line (add_text x ink text s)

-- the message that was sent as number k
abbrev pub mark_at : Sheet → ℕ → Option Mark
mark_at s k = if k == 0 then None else slice_get s.marks (k - 1)

-- the site at whose lifeline an event is drawn
abbrev pub site_drawn : Event → Sheet → Option ℕ
site_drawn (event.Call site words) s = Some site
site_drawn (event.Deliver k) s = option_map (λ (m : Mark). m.to) (mark_at s k)
site_drawn (event.Flow count) s = None
site_drawn (event.Tick site) s = Some site
site_drawn (event.Probe site) s = Some site
site_drawn (event.Cut a b) s = Some a
site_drawn (event.Heal a b) s = Some a
site_drawn (event.Crash site) s = Some site
site_drawn (event.Restart site) s = Some site
