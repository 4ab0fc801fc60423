-- The value of each copy after a step is the one after the entries of its date and all lower views, except the entry of a doubt of
-- that view.
use Rattle.std.proofs.Common.{◌≡◌, ◌≢◌, ◌∙◌, ap, sym, subst, ℕ, Bool, true, false, List, [], ◌∷◌, ◌++◌, refl, ⊎_elim}
use Rattle.std.specs.Prelude.{Some}
use Rattle.vp_model.specs.Types.{ViewId, TxnId, Commit, Input, Stored, Doubt}
use Rattle.vp_model.specs.Words.{keys, same_txn}
use Rattle.vp_model.specs.Catalogue.{Catalogue}
use Rattle.vp_model.specs.Site.{SiteState, Stepped}
use Rattle.vp_laws.proofs.Lists.Members.{Has, has_none, has_cases, has_one_is}
use Rattle.vp_model.proofs.SameTxn.{same_txn-is, same_txn-not}
use Rattle.vp_laws.proofs.Lists.Views.{AtMost, AtMost-same}
use Rattle.vp_laws.proofs.Table.Shares.{OutcomeComes}
use Rattle.vp_laws.proofs.Worlds.Scenes.{Scene, kept_at}
use Rattle.vp_laws.proofs.Journal.Places.{Once, last_split, stands, once_later}
use Rattle.vp_laws.proofs.Journal.ValuesAfter.{content_of, Wrote, value_after, without_entry, without_more, without_same, without_none}
use Rattle.vp_laws.proofs.Journal.ValuesGrow.{after_more, doubt_or_none}
use Rattle.vp_laws.proofs.Keeping.NewEntries.{JournalNow, journal_now, doubt_says, doubt_stays, Fresh, doubt_from, fresh_name, fresh_same, fresh_no_outcome, fresh_not_entered}
use Rattle.vp_laws.proofs.Copies.Origins.{Untouched, gone_aborted, meets}
use Rattle.vp_laws.proofs.Keeping.Does.{Does}
use Rattle.vp_laws.proofs.Invariant.Copies.{DoubtOn, InvCopies}
use Rattle.vp_laws.proofs.Invariant.Refresh.{InvRefresh}
use Rattle.vp_laws.proofs.Invariant.Known.{Known}

module _ (catalogue : Catalogue) (w new : Scene) (s : ℕ) (x : SiteState) (given : Input) (o : Stepped) (k : Known catalogue w) (n : Known catalogue new) (d : Does catalogue w new s x given o) (copies : InvCopies catalogue w) (refresh : InvRefresh catalogue w) where
  -- the value as the journal grows
  pub value_now : (date : ViewId) (rec : ℕ) → ((e : Commit) → Has o.effects.commits e → Wrote e rec → AtMost e.view date → ⊥) → value_after catalogue new.journal date rec ≡ value_after catalogue w.journal date rec
  value_now date rec none = go (journal_now catalogue w new s x given o k n d)
    where
      go : JournalNow catalogue w new s x given o k n d → value_after catalogue new.journal date rec ≡ value_after catalogue w.journal date rec
      go (JournalNow.stays e) = rw e refl
      go (JournalNow.longer e h is) = rw is (after_more catalogue w.journal e date rec (none e h))

  without_now : (txn : TxnId) (date : ViewId) (rec : ℕ) → ((e : Commit) → Has o.effects.commits e → e.txn ≢ txn → Wrote e rec → AtMost e.view date → ⊥) → value_after catalogue (without_entry txn new.journal) date rec ≡ value_after catalogue (without_entry txn w.journal) date rec
  without_now txn date rec none = go (journal_now catalogue w new s x given o k n d)
    where
      go : JournalNow catalogue w new s x given o k n d → value_after catalogue (without_entry txn new.journal) date rec ≡ value_after catalogue (without_entry txn w.journal) date rec
      go (JournalNow.stays e) = rw e refl
      go (JournalNow.longer e h is) = by_name (same_txn e.txn txn) refl
        where
          grown : (es : List Commit) → without_entry txn (w.journal ++ e ∷ []) ≡ es → value_after catalogue es date rec ≡ value_after catalogue (without_entry txn w.journal) date rec → value_after catalogue (without_entry txn new.journal) date rec ≡ value_after catalogue (without_entry txn w.journal) date rec
          grown es same value = ap (λ (es : List Commit). value_after catalogue (without_entry txn es) date rec) is ∙ ap (λ (es : List Commit). value_after catalogue es date rec) same ∙ value

          by_name : (b : Bool) → same_txn e.txn txn ≡ b → value_after catalogue (without_entry txn new.journal) date rec ≡ value_after catalogue (without_entry txn w.journal) date rec
          by_name true q = grown (without_entry txn w.journal) (without_same txn w.journal e (same_txn-is e.txn txn q)) refl
          by_name false q =
              let other = same_txn-not e.txn txn q in
              grown (without_entry txn w.journal ++ e ∷ []) (without_more txn w.journal e other) (after_more catalogue (without_entry txn w.journal) e date rec (none e h other))

  -- a copy that is untouched

  pub old_value : (j rec : ℕ) (c : Stored) → Untouched catalogue w new s x given o k n d j rec c → ((u : Doubt) → DoubtOn new j rec c.date u → ⊥) → value_after catalogue new.journal c.date rec ≡ Some (content_of c)
  old_value j rec c t none = value_now c.date rec (λ e h wrote le. let q = meets catalogue w new s x given o k n d j rec c t (copies.from j rec c t.was) refresh e h wrote le in none q.0.doubt (q.0.now, q.0.on, sym q.0.viewed ∙ q.1)) ∙ before
    where
      aborted : (u : Doubt) → DoubtOn w j rec c.date u → ((e : Commit) → Has w.journal e → e.txn ≢ u.txn) → value_after catalogue w.journal c.date rec ≡ Some (content_of c)
      aborted u on no_entry = subst (λ (es : List Commit). value_after catalogue es c.date rec ≡ Some (content_of c)) (without_none u.txn w.journal no_entry) (copies.value_in_doubt j rec c u t.was on)

      before : value_after catalogue w.journal c.date rec ≡ Some (content_of c)
      before = ⊎_elim
          (λ (q : (u : Doubt) × Has (kept_at w j).doubts u × Has (keys u.writes) rec × (u.view ≡ c.date)). ⊎_elim (λ still. absurd (none q.0 (still, q.2, q.3))) (λ no_entry. aborted q.0 (q.1, q.2, q.3) no_entry) (gone_aborted catalogue w new s x given o k n d j rec c q.0 t q.1 q.2))
          (λ none_then. copies.value j rec c t.was (λ u on. none_then u on.0 on.1 on.2))
          (doubt_or_none (kept_at w j).doubts rec c.date)

  pub old_in_doubt : (j rec : ℕ) (c : Stored) (u : Doubt) → Untouched catalogue w new s x given o k n d j rec c → DoubtOn new j rec c.date u → value_after catalogue (without_entry u.txn new.journal) c.date rec ≡ Some (content_of c)
  old_in_doubt j rec c u t on = ⊎_elim
      (λ was. without_now u.txn c.date rec (λ e h other wrote le. let q = meets catalogue w new s x given o k n d j rec c t (copies.from j rec c t.was) refresh e h wrote le in other (sym q.0.named ∙ n.guards.writes j q.0.doubt u rec q.0.now on.0 q.0.on on.1)) ∙ copies.value_in_doubt j rec c u t.was (was, on.1, on.2))
      (λ f. first f)
      (doubt_from catalogue w new s x given o k n d j u on.0)
    where
      first : Fresh catalogue w new s x given o k n d j u → value_after catalogue (without_entry u.txn new.journal) c.date rec ≡ Some (content_of c)
      first f =
          let all = without_none u.txn new.journal (fresh_not_entered catalogue w new s x given o k n d j u f on.0) in
          ap (λ (es : List Commit). value_after catalogue es c.date rec) (all ∙ fresh_same catalogue w new s x given o k n d j u f)
          ∙ copies.value j rec c t.was (λ v was. ⊎_elim
          (λ still. fresh_name catalogue w new s x given o k n d j u f v was.0 (n.guards.writes j v u rec still on.0 was.1 on.1))
          (λ (over : (j ≡ s) × OutcomeComes given v.txn). fresh_no_outcome catalogue w new s x given o k n d j u f over.1.0 v.txn over.1.1 over.1.2)
          (doubt_stays catalogue w new s x given o k n d j v was.0))

  pub old_last : (j rec : ℕ) (c : Stored) (u : Doubt) (front back : List Commit) (e f : Commit) → Untouched catalogue w new s x given o k n d j rec c → DoubtOn new j rec c.date u → new.journal ≡ front ++ e ∷ back → e.txn ≡ u.txn → Has back f → Wrote f rec → f.view ≢ e.view
  old_last j rec c u front back e f t on is named behind wrote same = ⊎_elim was first (doubt_from catalogue w new s x given o k n d j u on.0)
    where
      there : Has new.journal e
      there = rw is (stands front e back)

      first : Fresh catalogue w new s x given o k n d j u → ⊥
      first q = fresh_not_entered catalogue w new s x given o k n d j u q on.0 e there named

      was : Has (kept_at w j).doubts u → ⊥
      was h = go (journal_now catalogue w new s x given o k n d)
        where
          of_old : (b : List Commit) → w.journal ≡ front ++ e ∷ b → Has b f → ⊥
          of_old b then q = copies.last j rec c u front b e f t.was (h, on.1, on.2) then named q wrote same

          of_new : (g : Commit) → Has o.effects.commits g → g ≡ f → ⊥
          of_new g entered one =
              let says = doubt_says catalogue w new s x given o k n d e there j u h (sym named) in
              let at : g.view ≡ c.date = ap (λ (e : Commit). e.view) one ∙ same ∙ says.0 ∙ on.2 in
              let q = meets catalogue w new s x given o k n d j rec c t (copies.from j rec c t.was) refresh g entered (subst (λ (g : Commit). Wrote g rec) (sym one) wrote) (AtMost-same g.view c.date at) in
              once_later front back e f (subst (λ (es : List Commit). Once es) is n.ends.once) behind (ap (λ (e : Commit). e.txn) (sym one) ∙ sym q.0.named ∙ n.guards.writes j q.0.doubt u rec q.0.now on.0 q.0.on on.1 ∙ sym named)

          go : JournalNow catalogue w new s x given o k n d → ⊥
          go (JournalNow.stays z) = of_old back (sym z ∙ is) behind
          go (JournalNow.longer g entered z) = ⊎_elim
              (λ (end : (e ≡ g) × (back ≡ [])). has_none f (subst (λ (es : List Commit). Has es f) end.1 behind))
              (λ (q : (b : List Commit) × (back ≡ b ++ g ∷ []) × (w.journal ≡ front ++ e ∷ b)). ⊎_elim
              (λ old. of_old q.0 q.2 old)
              (λ last. of_new g entered (has_one_is g f last))
              (has_cases q.0 (g ∷ []) f (subst (λ (es : List Commit). Has es f) q.1 behind)))
              (last_split w.journal g front e back (sym z ∙ is))
