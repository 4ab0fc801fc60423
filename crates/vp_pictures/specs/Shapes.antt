-- How shapes are written in SVG.
use Rattle.std.specs.Prelude.{ℕ, ◌==◌, if◌then◌else◌, List, [], ◌∷◌, ◌++◌, codes}
use Rattle.std.specs.Fmt.{decimal}
use Rattle.std.specs.List.{flat_map}
use Rattle.vp_pictures.specs.declared.shape.Ink.{Ink}
use Rattle.vp_pictures.specs.declared.shape.Ink.TheVariants as ink
use Rattle.vp_pictures.specs.declared.shape.Shape.{Shape}
use Rattle.vp_pictures.specs.declared.shape.Shape.TheVariants as shape

-- the class of a shape, which gives its style
abbrev pub ink_word : Ink → List ℕ
ink_word ink.Site = codes "h"
ink_word ink.Faint = codes "n"
ink_word ink.Event = codes "e"
ink_word ink.Commit = codes "k"
ink_word ink.Message = codes "m"
ink_word ink.Reply = codes "r"
ink_word ink.Refusal = codes "f"
ink_word ink.View = codes "w"
ink_word ink.Idle = codes "d"
ink_word ink.Life = codes "l"
ink_word ink.Comes = codes "a"
ink_word ink.Lost = codes "x"
ink_word ink.Never = codes "s"
ink_word ink.Cut = codes "c"
ink_word ink.Heal = codes "j"

-- a byte that would begin an element or a reference, or end an attribute, is written as a reference
abbrev pub escape : ℕ → List ℕ
escape byte =
    if byte == 60 then codes "&lt;" else (if byte == 38 then codes "&amp;" else (if byte == 34 then codes "&quot;" else byte ∷ []))

abbrev pub escape_bytes : List ℕ → List ℕ
escape_bytes bytes = flat_map escape bytes

-- an attribute that is a number
abbrev pub attribute : List ℕ → ℕ → List ℕ
attribute name number = name ++ (decimal number ++ 34 ∷ [])

abbrev pub shape_text : Shape → List ℕ
shape_text (shape.Text kind x y text) =
    codes "<text class=\""
    ++ (ink_word kind ++ (attribute (codes "\" x=\"") x ++ (attribute (codes " y=\"") y ++ (codes ">" ++ (escape_bytes text ++ codes "</text>\n")))))
shape_text (shape.Line kind x1 y1 x2 y2) =
    codes "<line class=\""
    ++ (ink_word kind
    ++ (attribute (codes "\" x1=\"") x1
    ++ (attribute (codes " y1=\"") y1 ++ (attribute (codes " x2=\"") x2 ++ (attribute (codes " y2=\"") y2 ++ codes "/>\n")))))
shape_text (shape.Bar colour x y width height) =
    attribute (codes "<rect class=\"v") colour
    ++ (attribute (codes " x=\"") x
    ++ (attribute (codes " y=\"") y ++ (attribute (codes " width=\"") width ++ (attribute (codes " height=\"") height ++ codes "/>\n"))))
