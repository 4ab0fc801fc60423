-- The style of the texts, lines and bars of a picture, by their classes.
use Rattle.std.specs.Prelude.{ℕ, List, ◌++◌, codes}

abbrev pub texts : List ℕ
texts = codes "<style type=\"text/css\">\ntext{font:12px monospace;fill:#222}.b{stroke:#fff;stroke-width:4px;stroke-linejoin:round}\n"

abbrev pub inks : List ℕ
inks = codes ".h{font-weight:bold;font-size:14px}.n{fill:#999}.k{font-weight:bold;fill:#000}.m{fill:#666}.r{fill:#05c}.f{fill:#c00;font-weight:bold}.w{fill:#060}.d{fill:#b50}\n"

abbrev pub lines : List ℕ
lines = codes "line{stroke:#999}.a{stroke:#777;marker-end:url(#arrow)}.x{stroke:#b50;marker-end:url(#cross)}.s{stroke:#777;marker-end:url(#stop)}\n.c{stroke:#b50;stroke-dasharray:6 3}.j{stroke:#080;stroke-dasharray:6 3}\n"

abbrev pub colours : List ℕ
colours = codes ".v0{fill:#bbb}.v1{fill:#8cf}.v2{fill:#fc6}.v3{fill:#9d9}.v4{fill:#f99}.v5{fill:#c9f}.v6{fill:#fe6}.v7{fill:#6dd}.v8{fill:#db8}.v9{fill:#f9d}.v10{fill:#aac}.v11{fill:#be6}.v12{fill:#c0c}\n"

abbrev pub arrow : List ℕ
arrow = codes "</style>\n<defs>\n<marker id=\"arrow\" markerWidth=\"9\" markerHeight=\"8\" refX=\"8\" refY=\"4\" orient=\"auto\"><path d=\"M0,0 L8,4 L0,8 z\" fill=\"#777\"/></marker>\n"

abbrev pub ends : List ℕ
ends = codes "<marker id=\"cross\" markerWidth=\"10\" markerHeight=\"10\" refX=\"5\" refY=\"5\" orient=\"auto\"><path d=\"M1,1 L9,9 M1,9 L9,1\" stroke=\"#b50\" stroke-width=\"2\"/></marker>\n<marker id=\"stop\" markerWidth=\"4\" markerHeight=\"10\" refX=\"2\" refY=\"5\" orient=\"auto\"><path d=\"M2,0 L2,10\" stroke=\"#777\" stroke-width=\"2\"/></marker>\n"

abbrev pub page : List ℕ
page = codes "</defs>\n<rect width=\"100%\" height=\"100%\" fill=\"#fff\"/>\n"

unfoldable pub style : List ℕ
style = texts ++ (inks ++ (lines ++ (colours ++ (arrow ++ (ends ++ page)))))
