-- A site has only one doubt about the transaction of an entry, which is the one found by its name.
use Rattle.std.proofs.Common.{◌≡◌, ◌∙◌, ap, sym, subst, ℕ, Bool, true, false, cond, List, [], ◌∷◌, refl, ⊎_elim}
use Rattle.std.specs.Prelude.{Some, find}
use Rattle.vp_model.specs.Types.{TxnId, Commit, Doubt}
use Rattle.vp_model.specs.Types.message
use Rattle.vp_model.specs.Words.{same_txn}
use Rattle.vp_model.specs.Catalogue.{Catalogue}
use Rattle.vp_model.specs.Durable.{doubt_of}
use Rattle.vp_laws.proofs.Lists.Members.{Has, has_none, has_cons, find_has, find_true}
use Rattle.vp_model.proofs.SameTxn.{same_txn-is, same_txn-self}
use Rattle.vp_laws.proofs.Moves.LocalViews.{letter}
use Rattle.vp_laws.proofs.Worlds.Scenes.{Scene, kept_at}
use Rattle.vp_laws.proofs.Invariant.Shares.{InvShares}

doubt_is : (c d : Doubt) → c.txn ≡ d.txn → c.view ≡ d.view → c.writes ≡ d.writes → c ≡ d
doubt_is c d p q r = rw (p, q, r) refl

found : (d : Doubt) (doubts : List Doubt) → Has doubts d → (c : Doubt) × (doubt_of d.txn doubts ≡ Some c)
found d [] h = absurd (has_none d h)
found d (u ∷ doubts) h = go (same_txn u.txn d.txn) refl (λ k. found d doubts k)
  where
    go : (b : Bool) → same_txn u.txn d.txn ≡ b → (Has doubts d → (c : Doubt) × (doubt_of d.txn doubts ≡ Some c)) → (c : Doubt) × (cond b (Some u) (find (λ (u : Doubt). same_txn u.txn d.txn) doubts) ≡ Some c)
    go true e rest = (u, refl)
    go false e rest = ⊎_elim (λ (one : u ≡ d). absurd (let z : same_txn u.txn d.txn ≡ true = subst (λ (v : Doubt). same_txn v.txn d.txn ≡ true) (sym one) (same_txn-self d.txn) in cc)) (λ more. rest more) (has_cons u doubts d h)

module _ (catalogue : Catalogue) (w : Scene) (shares : InvShares catalogue w) (e : Commit) (h : Has w.journal e) (k : ℕ) where
  pub one_doubt : (c d : Doubt) → Has (kept_at w k).doubts c → Has (kept_at w k).doubts d → c.txn ≡ e.txn → d.txn ≡ e.txn → c ≡ d
  one_doubt c d there also p q =
      let a = (shares.doubts k c there).0 in
      let b = (shares.doubts k d also).0 in
      let first = shares.entry e h a.0 k c.view a.1 a.2 c.writes (subst (λ (t : TxnId). Has w.sent (letter a.0 k (message.Prepare t c.view a.1 a.2 c.writes))) p a.3) in
      let second = shares.entry e h b.0 k d.view b.1 b.2 d.writes (subst (λ (t : TxnId). Has w.sent (letter b.0 k (message.Prepare t d.view b.1 b.2 d.writes))) q b.3) in
      doubt_is c d (p ∙ sym q) (sym first.0 ∙ second.0) (sym first.1 ∙ second.1)

  pub doubt_found : (d : Doubt) → Has (kept_at w k).doubts d → d.txn ≡ e.txn → doubt_of d.txn (kept_at w k).doubts ≡ Some d
  doubt_found d there q =
      let f = found d (kept_at w k).doubts there in
      let c = f.0 in
      let named : c.txn ≡ d.txn = same_txn-is c.txn d.txn (find_true (λ (u : Doubt). same_txn u.txn d.txn) (kept_at w k).doubts c f.1) in
      let same = one_doubt c d (find_has (λ (u : Doubt). same_txn u.txn d.txn) (kept_at w k).doubts c f.1) there (named ∙ q) q in
      f.1 ∙ ap (λ (u : Doubt). Some u) same
