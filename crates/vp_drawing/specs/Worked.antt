-- A worked picture. Its lines were written by hand from what a picture is to be, before the program drew it.
use Rattle.std.specs.Prelude.{◌≡◌, ℕ, List, [], ◌∷◌, ◌++◌, codes}
use Rattle.std.specs.List.{flat_map}
use Rattle.vp_model.specs.Types.event
use Rattle.vp_model.specs.World.{Schedule}
use Rattle.vp_pictures.specs.Pictures.{picture_text}
use Rattle.vp_pictures.specs.Style.{style}
use Rattle.vp_pictures.specs.declared.sheet.Part.{Part}
use Rattle.vp_drawing.specs.Moments.{sheet_of}

abbrev pub whole : Part
whole = record { from = 1; to = 100000 }

-- Both sites send a probe. Site 2 crashes; the first probe is lost at it, and comes in its second life. The other one never comes.
abbrev pub schedule : Schedule
schedule = record {
  catalogue = record { sites = ((1, 7001) ∷ (2, 7002) ∷ []); records = (record { name = codes "x"; start = codes "10"; weights = ((1, 1) ∷ (2, 1) ∷ []) } ∷ []) };
  events = event.Probe 1 ∷ event.Probe 2 ∷ event.Crash 2 ∷ event.Deliver 1 ∷ event.Restart 2 ∷ event.Deliver 1 ∷ [];
}

abbrev pub line : List ℕ → List ℕ
line words = words ++ codes "\n"

-- Lifelines are at 60 and 340, and bars 4 to their left. Of the rows, each 18 high from 12 on, the head has four; then the moments have
-- two, two, one, two, two and one, so the last one ends at 264. Site 2 is down at the third and the fourth one, and holds no view in its
-- second life.
abbrev pub bars : List (List ℕ)
bars =
    codes "<line class=\"l\" x1=\"60\" y1=\"84\" x2=\"60\" y2=\"120\"/>"
    ∷ codes "<rect class=\"v0\" x=\"56\" y=\"84\" width=\"8\" height=\"36\"/>"
    ∷ codes "<line class=\"l\" x1=\"340\" y1=\"84\" x2=\"340\" y2=\"120\"/>"
    ∷ codes "<rect class=\"v0\" x=\"336\" y=\"84\" width=\"8\" height=\"36\"/>"
    ∷ codes "<line class=\"l\" x1=\"60\" y1=\"120\" x2=\"60\" y2=\"156\"/>"
    ∷ codes "<rect class=\"v0\" x=\"56\" y=\"120\" width=\"8\" height=\"36\"/>"
    ∷ codes "<line class=\"l\" x1=\"340\" y1=\"120\" x2=\"340\" y2=\"156\"/>"
    ∷ codes "<rect class=\"v0\" x=\"336\" y=\"120\" width=\"8\" height=\"36\"/>"
    ∷ codes "<line class=\"l\" x1=\"60\" y1=\"156\" x2=\"60\" y2=\"174\"/>"
    ∷ codes "<rect class=\"v0\" x=\"56\" y=\"156\" width=\"8\" height=\"18\"/>"
    ∷ codes "<line class=\"l\" x1=\"60\" y1=\"174\" x2=\"60\" y2=\"210\"/>"
    ∷ codes "<rect class=\"v0\" x=\"56\" y=\"174\" width=\"8\" height=\"36\"/>"
    ∷ codes "<line class=\"l\" x1=\"60\" y1=\"210\" x2=\"60\" y2=\"246\"/>"
    ∷ codes "<rect class=\"v0\" x=\"56\" y=\"210\" width=\"8\" height=\"36\"/>"
    ∷ codes "<line class=\"l\" x1=\"340\" y1=\"210\" x2=\"340\" y2=\"246\"/>"
    ∷ codes "<line class=\"l\" x1=\"60\" y1=\"246\" x2=\"60\" y2=\"264\"/>"
    ∷ codes "<rect class=\"v0\" x=\"56\" y=\"246\" width=\"8\" height=\"18\"/>"
    ∷ codes "<line class=\"l\" x1=\"340\" y1=\"246\" x2=\"340\" y2=\"264\"/>"
    ∷ []

-- From the middle of the row of the first message, 111, to that of each of its deliveries, from edge to edge; from 147 the stub of the
-- second one.
abbrev pub arrows : List (List ℕ)
arrows =
    codes "<line class=\"x\" x1=\"65\" y1=\"111\" x2=\"335\" y2=\"183\"/>"
    ∷ codes "<line class=\"a\" x1=\"65\" y1=\"111\" x2=\"335\" y2=\"255\"/>"
    ∷ codes "<line class=\"s\" x1=\"335\" y1=\"147\" x2=\"311\" y2=\"147\"/>"
    ∷ []

abbrev pub texts : List (List ℕ)
texts =
    codes "<use class=\"b\" xlink:href=\"#texts\"/>"
    ∷ codes "<g id=\"texts\">"
    ∷ codes "<text class=\"h\" x=\"56\" y=\"25\">site 1</text>"
    ∷ codes "<text class=\"n\" x=\"126\" y=\"25\">port 7001</text>"
    ∷ codes "<text class=\"h\" x=\"336\" y=\"25\">site 2</text>"
    ∷ codes "<text class=\"n\" x=\"406\" y=\"25\">port 7002</text>"
    ∷ codes "<text class=\"e\" x=\"56\" y=\"43\">x: weight 1/2</text>"
    ∷ codes "<text class=\"e\" x=\"336\" y=\"43\">x: weight 1/2</text>"
    ∷ codes "<text class=\"n\" x=\"56\" y=\"61\">bar: the view held; thin, purple bar: a copy locked for its refresh; stub: a message that never comes</text>"
    ∷ codes "<text class=\"w\" x=\"76\" y=\"79\">view 0@0, members 1 2: may use 1 of 1 records</text>"
    ∷ codes "<text class=\"n\" x=\"4\" y=\"97\">1</text>"
    ∷ codes "<text class=\"e\" x=\"76\" y=\"97\">probe 1</text>"
    ∷ codes "<text class=\"m\" x=\"98\" y=\"115\">#1 to 2: probe 0@0</text>"
    ∷ codes "<text class=\"n\" x=\"4\" y=\"133\">2</text>"
    ∷ codes "<text class=\"e\" x=\"356\" y=\"133\">probe 2</text>"
    ∷ codes "<text class=\"m\" x=\"378\" y=\"151\">#2 to 1: probe 0@0</text>"
    ∷ codes "<text class=\"n\" x=\"4\" y=\"169\">3</text>"
    ∷ codes "<text class=\"e\" x=\"356\" y=\"169\">crash 2</text>"
    ∷ codes "<text class=\"n\" x=\"4\" y=\"187\">4</text>"
    ∷ codes "<text class=\"e\" x=\"356\" y=\"187\">#1 probe 0@0</text>"
    ∷ codes "<text class=\"d\" x=\"356\" y=\"205\">lost: down is site 2</text>"
    ∷ codes "<text class=\"n\" x=\"4\" y=\"223\">5</text>"
    ∷ codes "<text class=\"e\" x=\"356\" y=\"223\">restart 2</text>"
    ∷ codes "<text class=\"w\" x=\"356\" y=\"241\">begins life 2</text>"
    ∷ codes "<text class=\"n\" x=\"4\" y=\"259\">6</text>"
    ∷ codes "<text class=\"e\" x=\"356\" y=\"259\">#1 probe 0@0</text>"
    ∷ codes "</g>"
    ∷ codes "</svg>"
    ∷ []

abbrev pub head : List ℕ
head = line (codes "<svg xmlns=\"http://www.w3.org/2000/svg\" xmlns:xlink=\"http://www.w3.org/1999/xlink\" version=\"1.1\" width=\"864\" height=\"276\">")

-- This is its picture.
abbrev pub PictureIsWorked : Type 0
PictureIsWorked = picture_text schedule.catalogue (sheet_of schedule whole) ≡ head ++ (style ++ flat_map line (bars ++ (arrows ++ texts)))
