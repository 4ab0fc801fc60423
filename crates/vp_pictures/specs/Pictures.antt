-- The SVG of a sheet.
use Rattle.std.specs.Prelude.{ℕ, ◌+◌, ◌||◌, not, if◌then◌else◌, List, [], ◌++◌, Option, Some, None, codes}
use Rattle.std.specs.List.{filter_map, flat_map}
use Rattle.std.specs.Option.{option_map_or}
use Rattle.vp_model.specs.Words.{has}
use Rattle.vp_model.specs.Catalogue.{Catalogue}
use Rattle.vp_pictures.specs.Places.{column, edge, stub_end, top}
use Rattle.vp_pictures.specs.Shapes.{attribute, shape_text}
use Rattle.vp_pictures.specs.Style.{style}
use Rattle.vp_pictures.specs.declared.shape.Ink.TheVariants as ink
use Rattle.vp_pictures.specs.declared.shape.Shape.{Shape}
use Rattle.vp_pictures.specs.declared.shape.Shape.TheVariants as shape
use Rattle.vp_pictures.specs.declared.sheet.Mark.{Mark}
use Rattle.vp_pictures.specs.declared.sheet.Sheet.{Sheet}

-- the stub of a message: short, from where it was sent
abbrev pub stub : Catalogue → Mark → Shape
stub catalogue m =
    let from = column catalogue m.from in
    let to = column catalogue m.to in
    shape.Line ink.Never (edge from to) (top m.line + 9) (stub_end from to) (top m.line + 9)

-- a message that is drawn and never comes has one
abbrev pub stub_of : Catalogue → List ℕ → Mark → Option Shape
stub_of catalogue came m = if not m.is_drawn || has came m.number then None else Some (stub catalogue m)

abbrev pub stub_text : Catalogue → List ℕ → Mark → List ℕ
stub_text catalogue came m = option_map_or shape_text (stub_of catalogue came m) []

-- the shapes of a picture: the bars below, then the arrows and the stubs, and the texts on top
abbrev pub shapes_of : Catalogue → Sheet → List Shape
shapes_of catalogue s = s.bars ++ (s.arrows ++ (filter_map (stub_of catalogue s.came) s.marks ++ s.texts))

-- as wide as its texts, as high as its lines
unfoldable pub size_text : Sheet → List ℕ
size_text s =
    attribute (codes "<svg xmlns=\"http://www.w3.org/2000/svg\" xmlns:xlink=\"http://www.w3.org/1999/xlink\" version=\"1.1\" width=\"") s.wide
    ++ (attribute (codes " height=\"") (top s.lines + 12) ++ codes ">\n")

-- the white edges of all texts, which are below them, and the beginning of the texts
abbrev pub edges : List ℕ
edges = codes "<use class=\"b\" xlink:href=\"#texts\"/>\n<g id=\"texts\">\n"

-- the texts on top of their edges, and the end
abbrev pub texts_text : Sheet → List ℕ
texts_text s = edges ++ (flat_map shape_text s.texts ++ codes "</g>\n</svg>\n")

-- the bars below, then the arrows and the stubs, and the texts on top
abbrev pub picture_text : Catalogue → Sheet → List ℕ
picture_text catalogue s =
    size_text s
    ++ (style
    ++ (flat_map shape_text s.bars
    ++ (flat_map shape_text s.arrows
    ++ (flat_map (stub_text catalogue s.came) s.marks ++ texts_text s))))
