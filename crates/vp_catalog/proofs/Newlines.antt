-- Each line of a catalogue has one newline, at its end, so no line begins another.
use Rattle.std.proofs.Common.{ℕ, List, [], ◌∷◌, ◌++◌, refl, sym, ap, subst, ◌∙◌, arith, append_assoc}
use Rattle.std.specs.Prelude.{codes, flat_map}
use Rattle.std.specs.Fmt.{decimal}
use Rattle.std.proofs.lemmas.List.Concat.{flat_map-cons}
use Rattle.vp_text.specs.Documents.{HasNoNewline, IsLine}
use Rattle.vp_text.proofs.Newlines.{both, decimal_clean, key_clean, last_line, line_push}
use Rattle.vp_base.proofs.Newlines.{name_clean, value_clean}
use Rattle.vp_model.specs.Catalogue.{Catalogue, sites_of}
use Rattle.vp_model.specs.Texts.Fields.{weight_text}
use Rattle.vp_catalog.specs.declared.entry.Entry.{Entry}
use Rattle.vp_catalog.specs.declared.entry.Entry.TheVariants.{Site, Record}
use Rattle.vp_catalog.specs.Sites.{AllSites}
use Rattle.vp_catalog.specs.Entries.{IsWeight, AreWeights, EntryText}
use Rattle.vp_catalog.proofs.Sites.{site_range}

weight_clean : (sites : List ℕ) (above : ℕ) (w : ℕ × ℕ) → AllSites sites → IsWeight sites above w → HasNoNewline (weight_text w)
weight_clean sites above w all h =
    let r = site_range sites w.0 all h.stands in
    (λ e. omega arith, both (decimal w.0) (58 ∷ decimal w.1) (decimal_clean w.0 (omega (arith, r.1))) (λ e. omega arith, decimal_clean w.1 (omega (arith, h.fits))))

weights_line : (sites : List ℕ) (above : ℕ) (ws : List (ℕ × ℕ)) → AllSites sites → AreWeights sites above ws → IsLine (flat_map weight_text ws ++ 10 ∷ [])
weights_line sites above [] all h = last_line
weights_line sites above (w ∷ ws) all h =
    let line = line_push (weight_text w) (flat_map weight_text ws ++ 10 ∷ []) (weight_clean sites above w all h.0) (weights_line sites w.0 ws all h.1) in
    subst IsLine (sym (ap (λ (x : List ℕ). x ++ 10 ∷ []) (flat_map-cons weight_text w ws) ∙ append_assoc (weight_text w) (flat_map weight_text ws) (10 ∷ []))) line

-- ---- the lines

pub entry_is_line : (c : Catalogue) → AllSites (sites_of c) → (e : Entry) (t : List ℕ) → EntryText c e t → IsLine t
entry_is_line c all (Site site port) t h =
    let s = h.site_is in
    subst IsLine (sym h.is) (line_push (codes "site ") (decimal site ++ 32 ∷ (decimal port ++ 10 ∷ [])) (key_clean (codes "site ") refl)
    (line_push (decimal site) (32 ∷ (decimal port ++ 10 ∷ [])) (decimal_clean site (omega (arith, s.fits)))
    (line_push (32 ∷ []) (decimal port ++ 10 ∷ []) (λ e. omega arith, tt) (line_push (decimal port) (10 ∷ []) (decimal_clean port (omega (arith, s.port_fits))) last_line))))
entry_is_line c all (Record entry) t h =
    let r = h.record_is in
    let weights = flat_map weight_text entry.weights ++ 10 ∷ [] in
    subst IsLine (sym h.is) (line_push (codes "record ") (entry.name ++ 32 ∷ (entry.start ++ weights)) (key_clean (codes "record ") refl)
    (line_push entry.name (32 ∷ (entry.start ++ weights)) (name_clean entry.name r.name_is)
    (line_push (32 ∷ []) (entry.start ++ weights) (λ e. omega arith, tt) (line_push entry.start weights (value_clean entry.start r.start_is) (weights_line (sites_of c) 0 entry.weights all r.weights_are)))))
