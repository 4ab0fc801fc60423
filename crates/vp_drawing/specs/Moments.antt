-- What is drawn of a schedule.
use Rattle.std.specs.Prelude.{ℕ, List, [], Option, option_and_then}
use Rattle.vp_model.specs.Types.{View}
use Rattle.vp_model.specs.Words.{for_each}
use Rattle.vp_model.specs.Catalogue.{Catalogue}
use Rattle.vp_model.specs.Site.{SiteState}
use Rattle.vp_model.specs.Justified.{site_named}
use Rattle.vp_model.specs.World.{WorldState, Moment, Schedule, moments_of, site_of}
use Rattle.vp_pictures.specs.Heads.{head}
use Rattle.vp_pictures.specs.Steps.{draw_line}
use Rattle.vp_pictures.specs.declared.sheet.Part.{Part}
use Rattle.vp_pictures.specs.declared.sheet.Sheet.{Sheet}
use Rattle.vp_drawing.specs.Looks.{held_id, newly_joined, looks_of}

abbrev pub held_at : WorldState → ℕ → Option View
held_at w site = option_and_then (λ (s : SiteState). s.held) (site_of w site)

-- the view that the site of the moment's step holds after it and not before
abbrev pub joined_in : Moment → Option View
joined_in m = option_and_then (λ site. newly_joined (held_id (held_at m.before site)) (held_at m.after site)) (site_named m.before m.line.event)

-- a moment: its line, how the sites look after it, and the view that is joined by it
abbrev pub draw_moment : Catalogue → Moment → Sheet → Sheet
draw_moment catalogue m sheet = draw_line catalogue m.number m.line (looks_of m.after) (joined_in m) sheet

abbrev pub draw_moments : Catalogue → List Moment → Sheet → Sheet
draw_moments catalogue moments sheet = for_each moments (draw_moment catalogue) sheet

-- the sheet before anything is drawn
abbrev pub blank : Part → Sheet
blank part = record { part = part; lines = 0; wide = 400; marks = []; came = []; bars = []; arrows = []; texts = [] }

-- a part of a schedule: the head, and then the moments from the first to the last
abbrev pub sheet_of : Schedule → Part → Sheet
sheet_of s part = draw_moments s.catalogue (moments_of s) (head s.catalogue (blank part))
