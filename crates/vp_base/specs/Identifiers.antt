-- The texts of views and transactions.
use Rattle.std.specs.Prelude.{◌≡◌, ℕ, ◌<◌, ◌≤◌, ◌^◌, List, ◌∷◌, ◌++◌}
use Rattle.std.specs.Fmt.{decimal}
use Rattle.vp_base.specs.declared.ids.ViewId.{ViewId}
use Rattle.vp_base.specs.declared.ids.TxnId.{TxnId}

-- A view has a number of 1 or more and a site from 1 to 16, or it is 0@0.
pub record IsView (view : ViewId) : Type 0 where
  pub number_fits : view.number < 2 ^ 64
  pub site_fits : view.site ≤ 16
  pub opening : view.number ≡ 0 → view.site ≡ 0
  pub made : 1 ≤ view.number → 1 ≤ view.site

-- NUMBER@SITE
abbrev pub view_text : ViewId → List ℕ
view_text view = decimal view.number ++ 64 ∷ decimal view.site

-- The text is that of a view.
pub record IsViewText (view : ViewId) (text : List ℕ) : Type 0 where
  pub is : text ≡ view_text view
  pub allowed : IsView view

-- The text is that of a view that isn't below the last one.
pub record IsViewFrom (last view : ViewId) (text : List ℕ) : Type 0 where
  pub spelled : IsViewText view text
  pub number_from : last.number ≤ view.number
  pub site_from : view.number ≡ last.number → last.site ≤ view.site

-- A transaction has a site from 1 to 16, and a life and a place in that life from 1 to 4294967295.
pub record IsTxn (txn : TxnId) : Type 0 where
  pub site_some : 1 ≤ txn.site
  pub site_fits : txn.site ≤ 16
  pub life_some : 1 ≤ txn.life
  pub life_fits : txn.life < 2 ^ 32
  pub seq_some : 1 ≤ txn.seq
  pub seq_fits : txn.seq < 2 ^ 32

-- SITE.LIFE.SEQ
abbrev pub txn_text : TxnId → List ℕ
txn_text txn = decimal txn.site ++ 46 ∷ (decimal txn.life ++ 46 ∷ decimal txn.seq)

-- The text is that of a transaction.
pub record IsTxnText (txn : TxnId) (text : List ℕ) : Type 0 where
  pub is : text ≡ txn_text txn
  pub allowed : IsTxn txn
