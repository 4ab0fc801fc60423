-- The text of a catalogue is the text of its lines.
use Rattle.std.proofs.Common.{◌≡◌, ℕ, ◌≤◌, ◌<◌, List, [], ◌∷◌, ◌++◌, length, map, refl, sym, ap, subst, ◌∙◌, append_assoc, arith, Bool, false}
use Rattle.std.specs.Prelude.{flat_map, nat_eq}
use Rattle.std.specs.List.{list_any, AllByRecursion, IsDistinct}
use Rattle.std.specs.Str.{bytes_eq}
use Rattle.std.proofs.lemmas.List.{length-append, append-nil}
use Rattle.std.proofs.lemmas.List.Concat.{flat_map-cons}
use Rattle.std.proofs.lemmas.Bool.{lt-leb}
use Rattle.vp_model.specs.Words.{keys}
use Rattle.vp_model.specs.Catalogue.{Catalogue, RecordEntry}
use Rattle.vp_model.specs.Texts.Schedule.{site_line, record_line, catalogue_text}
use Rattle.vp_catalog.specs.declared.entry.Entry.{Entry}
use Rattle.vp_catalog.specs.declared.entry.Entry.TheVariants as kind
use Rattle.vp_catalog.specs.Entries.{IsSite, IsRecord, last_from, last_site, after, Onward}
use Rattle.vp_catalog.specs.Document.{AreSites, IsCatalogue}
use Rattle.vp_catalog.proofs.Steps.{Lines, all_said, last_from-push}

-- some lines with this text, which say this catalogue
pub record Spelled (c : Catalogue) (text : List ℕ) : Type 0 where
  pub lines : List Entry
  pub lines_are : Lines lines text
  pub says : all_said lines ≡ c

-- a key differs from those before it
apart_mid : {X K : Type 0} (key : X → K) (same : K → K → Bool) (seen : List X) (x : X) (xs : List X) → IsDistinct same (map key (seen ++ x ∷ xs)) → list_any (λ y. same (key y) (key x)) seen ≡ false
unfolding IsDistinct
apart_mid key same [] x xs d = refl
apart_mid {X = X} {K = K} key same (y ∷ seen) x xs d = rw (at seen d.0) (apart_mid key same seen x xs d.1)
  where
    at : (zs : List X) → AllByRecursion (λ k. same (key y) k ≡ false) (map key (zs ++ x ∷ xs)) → same (key y) (key x) ≡ false
    at [] a = a.0
    at (z ∷ zs) a = at zs a.1

abbrev with_sites : List (ℕ × ℕ) → Catalogue
with_sites sites = record { sites = sites; records = [] }

abbrev with_records : List (ℕ × ℕ) → List RecordEntry → Catalogue
with_records sites records = record { sites = sites; records = records }

more_sites : (seen xs : List (ℕ × ℕ)) (text : List ℕ) → Spelled (with_sites seen) text → AreSites (last_from 0 seen) xs → IsDistinct nat_eq (map (λ s. s.1) (seen ++ xs)) → Spelled (with_sites (seen ++ xs)) (text ++ flat_map site_line xs)
more_sites seen [] text s a d = subst (λ (v : List (ℕ × ℕ)). Spelled (with_sites v) (text ++ [])) (sym (append-nil seen)) (subst (Spelled (with_sites seen)) (sym (append-nil text)) s)
more_sites seen (x ∷ xs) text s a d =
    let c = with_sites seen in
    let e = kind.Site x.0 x.1 in
    let line : Spelled (with_sites (seen ++ x ∷ [])) (text ++ site_line x) = record {
      lines = e ∷ s.lines;
      lines_are = (
        text,
        site_line x,
        s.lines_are,
        record { first = ap (λ (c : Catalogue). length c.records) s.says; site_is = subst (λ (c : Catalogue). IsSite (last_site c) x) (sym s.says) a.0; is = refl },
        subst (λ (c : Catalogue). Onward c e) (sym s.says) (apart_mid (λ (y : ℕ × ℕ). y.1) nat_eq seen x xs d),
        refl,
      );
      says = ap (λ (c : Catalogue). after c e) s.says;
    } in
    let group : (seen ++ x ∷ []) ++ xs ≡ seen ++ x ∷ xs = append_assoc seen (x ∷ []) xs in
    let rest = more_sites (seen ++ x ∷ []) xs (text ++ site_line x) line (subst (λ n. AreSites n xs) (sym (last_from-push 0 seen x)) a.1) (subst (λ (v : List (ℕ × ℕ)). IsDistinct nat_eq (map (λ s. s.1) v)) (sym group) d) in
    let text_is : (text ++ site_line x) ++ flat_map site_line xs ≡ text ++ flat_map site_line (x ∷ xs) = append_assoc text (site_line x) (flat_map site_line xs) ∙ ap (λ (t : List ℕ). text ++ t) (sym (flat_map-cons site_line x xs)) in
    subst (λ (v : List (ℕ × ℕ)). Spelled (with_sites v) (text ++ flat_map site_line (x ∷ xs))) group (subst (Spelled (with_sites ((seen ++ x ∷ []) ++ xs))) text_is rest)

more_records : (sites : List (ℕ × ℕ)) (seen xs : List RecordEntry) (text : List ℕ) → Spelled (with_records sites seen) text → AllByRecursion (IsRecord (keys sites)) xs → IsDistinct bytes_eq (map (λ e. e.name) (seen ++ xs)) → length (seen ++ xs) ≤ 256
    → Spelled (with_records sites (seen ++ xs)) (text ++ flat_map record_line xs)
more_records sites seen [] text s a d few = subst (λ (v : List RecordEntry). Spelled (with_records sites v) (text ++ [])) (sym (append-nil seen)) (subst (Spelled (with_records sites seen)) (sym (append-nil text)) s)
more_records sites seen (x ∷ xs) text s a d few =
    let c = with_records sites seen in
    let e = kind.Record x in
    let room : length seen < 256 = omega (arith, few, length-append seen (x ∷ xs)) in
    let line : Spelled (with_records sites (seen ++ x ∷ [])) (text ++ record_line x) = record {
      lines = e ∷ s.lines;
      lines_are = (
        text,
        record_line x,
        s.lines_are,
        record { record_is = subst (λ (c : Catalogue). IsRecord (keys c.sites) x) (sym s.says) a.0; is = refl },
        subst (λ (c : Catalogue). Onward c e) (sym s.says) (lt-leb 256 (length seen) room, apart_mid (λ (y : RecordEntry). y.name) bytes_eq seen x xs d),
        refl,
      );
      says = ap (λ (c : Catalogue). after c e) s.says;
    } in
    let group : (seen ++ x ∷ []) ++ xs ≡ seen ++ x ∷ xs = append_assoc seen (x ∷ []) xs in
    let rest = more_records sites (seen ++ x ∷ []) xs (text ++ record_line x) line a.1 (subst (λ (v : List RecordEntry). IsDistinct bytes_eq (map (λ e. e.name) v)) (sym group) d) (omega (arith, few, ap length group)) in
    let text_is : (text ++ record_line x) ++ flat_map record_line xs ≡ text ++ flat_map record_line (x ∷ xs) = append_assoc text (record_line x) (flat_map record_line xs) ∙ ap (λ (t : List ℕ). text ++ t) (sym (flat_map-cons record_line x xs)) in
    subst (λ (v : List RecordEntry). Spelled (with_records sites v) (text ++ flat_map record_line (x ∷ xs))) group (subst (Spelled (with_records sites ((seen ++ x ∷ []) ++ xs))) text_is rest)

pub spelled : (c : Catalogue) → IsCatalogue c → Spelled c (catalogue_text c)
spelled c w =
    let start : Spelled (with_sites []) [] = record { lines = []; lines_are = refl; says = refl } in
    let sites = more_sites [] c.sites [] start w.so_far.sites_are w.so_far.ports_differ in
    more_records c.sites [] c.records (flat_map site_line c.sites) sites w.so_far.records_are w.so_far.names_differ w.so_far.few
