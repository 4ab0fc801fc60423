use Rattle.std.proofs.Common.{◌++◌, ◌∙◌, ap, append_assoc, codes, ℕ, List}
use Rattle.std.specs.List.{flat_map}
use Rattle.vp_pictures.specs.Shapes.{shape_text}
use Rattle.vp_pictures.specs.Pictures.{edges}
use Rattle.vp_pictures.proofs.sheet.Sheet.print_texts.Goals as goal

-- src/head.rt:207:5
pub returns : goal.returns
returns c =
    let old = c.args.out.now.items in
    let texts = flat_map shape_text c.as_slice.result.now in
    c.in_ok-extend_from_slice-2.ensures.items
    ∙ ap (λ (l : List ℕ). l ++ codes "</g>\n</svg>\n") (c.in_ok-print_shapes.ensures ∙ ap (λ (l : List ℕ). l ++ texts) c.in_ok-extend_from_slice.ensures.items)
    ∙ append_assoc (old ++ edges) texts (codes "</g>\n</svg>\n")
    ∙ append_assoc old edges (texts ++ codes "</g>\n</svg>\n")
    ∙ ap (λ s. old ++ (edges ++ (flat_map shape_text s ++ codes "</g>\n</svg>\n"))) c.as_slice.ensures
