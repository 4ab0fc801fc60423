-- The one copy after the entries of a view and all lower ones is defined, where the whole order can be played; and what can be
-- played on it still can be, when an entry of a lower view is added that wrote nothing which is used above.
use Rattle.std.proofs.Common.{◌≡◌, ◌∙◌, ap, sym, subst, Bool, true, false, List, [], ◌∷◌, ◌++◌, refl, ⊎_elim}
use Rattle.std.specs.Prelude.{Some, option_and_then, flat_map}
use Rattle.std.proofs.lemmas.List.{append_assoc}
use Rattle.vp_model.specs.Types.{ViewId, Op, Commit}
use Rattle.vp_model.specs.Words.{view_before}
use Rattle.vp_model.specs.OneCopy.{Values, play, serial, views_of, in_view, order, content}
use Rattle.vp_model.proofs.PlayedInParts.{serial-append}
use Rattle.vp_laws.proofs.Journal.Play.{and_then}
use Rattle.vp_laws.proofs.Lists.Members.{Has, has_right, has_cases, has_one_is}
use Rattle.vp_laws.proofs.Lists.Views.{Precedes, AtMost-trans, Precedes-at_most, from_before, not_before}
use Rattle.vp_laws.proofs.Journal.Order.{Rising, Split, Precedes-trans, views_rising, flat_has, order_has, order_more}
use Rattle.vp_laws.proofs.Journal.Playing.{WritesNone, up_to_own, serial_agrees, agrees_behind}
use Rattle.vp_laws.proofs.Journal.UpTo.{upto, in_at, up_to_from, upto_all, upto_none, upto_append, upto_has}

-- the entries of views up to one come first
upto_first : (journal : List Commit) (v : ViewId) (vs : List ViewId) → Rising vs → (rest : List Commit) × (flat_map (in_view journal) vs ≡ upto v (flat_map (in_view journal) vs) ++ rest)
upto_first journal v [] h = ([], refl)
upto_first journal v (u ∷ vs) h = go (view_before v u) refl (upto_first journal v vs h.1)
  where
    here : List Commit
    here = in_view journal u

    later : List Commit
    later = flat_map (in_view journal) vs

    above : Precedes v u → (f : Commit) → Has (here ++ later) f → Precedes v f.view
    above p f q = ⊎_elim
        (λ first. rw (in_at journal u f first) p)
        (λ more. let r = flat_has (in_view journal) vs f more in rw (in_at journal r.0 f r.2) (Precedes-trans v u r.0 p (h.0 r.0 r.1)))
        (has_cases here later f q)

    go : (b : Bool) → view_before v u ≡ b → (rest : List Commit) × (later ≡ upto v later ++ rest) → (rest : List Commit) × (here ++ later ≡ upto v (here ++ later) ++ rest)
    go true e r = (here ++ later, sym (ap (λ (l : List Commit). l ++ (here ++ later)) (upto_none v (here ++ later) (above (from_before v u e)))))
    go false e r =
        let all : upto v here ≡ here = upto_all v here (λ f q. rw (in_at journal u f q) (up_to_from v u e)) in
        (r.0, ap (λ (l : List Commit). here ++ l) r.1 ∙ sym (append_assoc here (upto v later) r.0) ∙ ap (λ (l : List Commit). l ++ r.0) (sym (upto_append v here later ∙ ap (λ (l : List Commit). l ++ upto v later) all)))

pub content_there : (start : Values) (journal : List Commit) (v : ViewId) (n : Values) → serial start (order journal) ≡ Some n → (m : Values) × (content start journal v ≡ Some m)
content_there start journal v n h =
    let r = upto_first journal v (views_of journal) (views_rising journal) in
    let t = and_then (serial start (upto v (order journal))) (λ (m : Values). serial m r.0) n (sym (serial-append start (upto v (order journal)) r.0) ∙ ap (serial start) (sym r.1) ∙ h) in
    (t.0, t.1)

module _ (start : Values) (journal : List Commit) (e : Commit) where
  abbrev s : Split e (order journal) (order (journal ++ e ∷ []))
  s = order_more journal e

  pub plays_above : (d : ViewId) (a b m n : Values) (ops : List Op) → Precedes e.view d → content start journal e.view ≡ Some a → play a e.ops ≡ Some b → content start journal d ≡ Some m → play m ops ≡ Some n → ((f : Commit) → Has journal f → Precedes e.view f.view → WritesNone e f.ops) → WritesNone e ops → (p : Values) × (r : Values) × (content start (journal ++ e ∷ []) d ≡ Some p) × (play p ops ≡ Some r)
  plays_above d a b m n ops below f g c h none_above none =
      let behind = upto d s.behind in
      let last : Commit = record { txn = e.txn; view = d; ops = ops; tables = [] } in
      let low : serial start s.before ≡ Some a = ap (serial start) (sym (up_to_own start journal e)) ∙ f in
      let first : upto d s.before ≡ s.before = upto_all d s.before (λ c q. AtMost-trans c.view e.view d (s.low c q) (Precedes-at_most e.view d below)) in
      let then : serial a behind ≡ Some m = sym (serial-append start s.before behind ∙ ap (option_and_then (λ (m : Values). serial m behind)) low) ∙ ap (serial start) (sym (ap (upto d) s.was ∙ upto_append d s.before s.behind ∙ ap (λ (l : List Commit). l ++ behind) first)) ∙ c in
      let all : serial a (behind ++ last ∷ []) ≡ Some n = serial-append a behind (last ∷ []) ∙ ap (option_and_then (λ (m : Values). serial m (last ∷ []))) then ∙ ap (option_and_then (λ (m : Values). Some m)) h in
      let i = serial_agrees e (behind ++ last ∷ []) a b n (agrees_behind e a b g) all (λ c q. ⊎_elim
      (λ old. let k = upto_has d s.behind c old in none_above c (order_has journal c (subst (λ (l : List Commit). Has l c) (sym s.was) (has_right s.before s.behind c k.0))) (s.high c k.0))
      (λ more. subst (λ (c : Commit). WritesNone e c.ops) (has_one_is last c more) none)
      (has_cases behind (last ∷ []) c q)) in
      let now = and_then (serial b behind) (λ (m : Values). serial m (last ∷ [])) i.0 (sym (serial-append b behind (last ∷ [])) ∙ i.1) in
      let end = and_then (play now.0 ops) (λ (m : Values). Some m) i.0 now.2 in
      let keeps : upto d (e ∷ s.behind) ≡ e ∷ behind = (let t = not_before d e.view (Precedes-at_most e.view d below) in rw t refl) in
      let order_now : upto d (order (journal ++ e ∷ [])) ≡ s.before ++ e ∷ behind = ap (upto d) s.now ∙ upto_append d s.before (e ∷ s.behind) ∙ ap (λ (l : List Commit). l ++ upto d (e ∷ s.behind)) first ∙ ap (λ (l : List Commit). s.before ++ l) keeps in (
        now.0,
        end.0,
        ap (serial start) order_now ∙ serial-append start s.before (e ∷ behind) ∙ ap (option_and_then (λ (m : Values). serial m (e ∷ behind))) low ∙ ap (option_and_then (λ (m : Values). serial m behind)) g ∙ now.1,
        end.1,
      )
