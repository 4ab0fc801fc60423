-- What a live transaction gives, or its pending call asks to give: a table with the record's holders, by which the members of the view that its
-- site holds have more than half of the weight.
use Rattle.std.proofs.Common.{◌≡◌, ◌∙◌, ap, sym, subst, ℕ, Bool, true, false, cond, List, [], ◌∷◌, refl}
use Rattle.std.specs.Prelude.{Option, Some, None, not, ◌==◌}
use Rattle.std.proofs.lemmas.Bool.{eqb-true}
use Rattle.vp_model.specs.Words.{value_at, first_some}
use Rattle.vp_model.specs.Transactions.{entry_of, Deed, with_table}
use Rattle.vp_model.specs.Types.{Commit, TxnId, View, ViewId, Input, Op, Pending, Live}
use Rattle.vp_model.specs.Catalogue.{Catalogue, Table, accessible_by, has_holders}
use Rattle.vp_model.specs.Site.{SiteState, Lent}
use Rattle.vp_model.specs.Refresh.{members_in, other_holders}
use Rattle.vp_model.specs.Calls.{change_asked, begun}
use Rattle.vp_model.specs.Step.{mark}
use Rattle.vp_laws.proofs.Lists.Members.{Has}
use Rattle.vp_laws.proofs.Journal.Play.{value_put}
use Rattle.vp_laws.proofs.Moves.Table.{May, remaining, Completes}
use Rattle.vp_laws.proofs.Table.Steps.{LiveNow}
use Rattle.vp_laws.proofs.Moves.Calls.{waiting, done, reading, writing, read_not_write, unmarked, no_commit_writes}

-- the table has the holders of the record, and by it the members have more than half of the weight
pub record MayWeigh (catalogue : Catalogue) (members : List ℕ) (rec : ℕ) (table : Table) : Type 0 where
  pub holders : has_holders catalogue rec table ≡ true
  pub enough : accessible_by table members ≡ true

-- what is done may give the table that it gives
abbrev pub MayGive : Catalogue → List ℕ → Deed → Type 0
MayGive catalogue members deed = (rec : ℕ) (table : Table) → deed ≡ Deed.weighs rec table → MayWeigh catalogue members rec table

-- a change that has passed the tests before its row may
pub may_give : (catalogue : Catalogue) (x : SiteState) (t : Live) (rec : ℕ) (deed : Deed) → May catalogue x t rec deed → MayGive catalogue (members_in x.held) deed
may_give catalogue x t rec (Deed.operates operation) a r table e = cc
may_give catalogue x t rec (Deed.weighs n given) a r table e =
    let same : n ≡ r = cc in
    let is : given ≡ table = cc in
    subst (λ (table : Table). MayWeigh catalogue (members_in x.held) r table) is (subst (λ (r : ℕ). MayWeigh catalogue (members_in x.held) r given) same (record {
      holders = not_false (has_holders catalogue n given) a.table;
      enough = no_weights (accessible_by given (members_in x.held)) _ _ a.enough;
    }))
  where
    not_false : (b : Bool) → not b ≡ false → b ≡ true
    not_false true q = refl
    not_false false q = cc

    no_weights : (b : Bool) (short : ℕ × ℕ) (o : Option (ℕ × ℕ)) → first_some (cond b None (Some short)) o ≡ None → b ≡ true
    no_weights true short o q = refl
    no_weights false short o q = cc

pub record LiveUses (catalogue : Catalogue) (held : Option View) (t : Live) : Type 0 where
  -- each table that it has given
  pub weighed : (rec : ℕ) (table : Table) → value_at rec t.tables ≡ Some table → MayWeigh catalogue (members_in held) rec table
  -- the table of its pending weigh
  pub weighing : (p : Pending) (rec : ℕ) (table : Table) → t.pending ≡ Some p → change_asked catalogue p.call ≡ Some (Deed.weighs rec table) → MayWeigh catalogue (members_in held) rec table

module _ (catalogue : Catalogue) (x : SiteState) (given : Input) (all : (u : Live) → Has x.live u → LiveUses catalogue x.held u) where
  abbrev Fits : ℕ → Table → Type 0
  Fits rec table = MayWeigh catalogue (members_in x.held) rec table

  marked_uses : (u : Live) → LiveUses catalogue x.held u → LiveUses catalogue x.held (mark u)
  marked_uses u h = record {
    weighed = h.weighed;
    weighing = λ p rec table e r. let q = unmarked u.pending p e in h.weighing q.0 rec table q.1 (ap (λ (p : Pending). change_asked catalogue p.call) q.2 ∙ r);
  }

  -- a call is asked of sites, and nothing more is done
  asking_uses : (u t : Live) (p : Pending) (sites : List ℕ) → LiveUses catalogue x.held u → entry_of t ≡ entry_of u → t.pending ≡ Some (record p { missing = sites }) → ((rec : ℕ) (table : Table) → change_asked catalogue p.call ≡ Some (Deed.weighs rec table) → Fits rec table) → LiveUses catalogue x.held t
  asking_uses u t p sites h same now weighs = record {
    weighed = λ rec table e. h.weighed rec table (subst (λ (e : Commit). value_at rec e.tables ≡ Some table) same e);
    weighing = λ a rec table e r. let is : record p { missing = sites } ≡ a = (let z = sym now ∙ e in cc) in weighs rec table (ap (λ (p : Pending). change_asked catalogue p.call) is ∙ r);
  }

  with_given : (tables : List (ℕ × Table)) (deed : Deed) → ((rec : ℕ) (table : Table) → value_at rec tables ≡ Some table → Fits rec table) → MayGive catalogue (members_in x.held) deed → (rec : ℕ) (table : Table) → value_at rec (with_table deed tables) ≡ Some table → Fits rec table
  with_given tables (Deed.operates operation) old new rec table e = old rec table e
  with_given tables (Deed.weighs r given) old new rec table e = go (r == rec) refl (sym (value_put rec r given tables) ∙ e)
    where
      go : (b : Bool) → (r == rec) ≡ b → cond b (Some given) (value_at rec tables) ≡ Some table → Fits rec table
      go true same q = let is : r ≡ rec = eqb-true r rec same in let gives : Deed.weighs r given ≡ Deed.weighs rec table = cc in new rec table gives
      go false same q = old rec table q

  done_uses : (u : Live) (p : Pending) (deed : Deed) → LiveUses catalogue x.held u → MayGive catalogue (members_in x.held) deed → LiveUses catalogue x.held (done u p deed)
  done_uses u p deed h gives = record {
    weighed = with_given u.tables deed h.weighed gives;
    weighing = λ p rec table e r. cc;
  }

  reads_give : (deed : Deed) (operation : Op) → deed ≡ Deed.operates operation → MayGive catalogue (members_in x.held) deed
  reads_give deed operation e rec table q = cc

  completed_uses : (u : Live) (p : Pending) (deed : Deed) (l : Lent) → LiveUses catalogue x.held u → Completes catalogue x given u p deed l → LiveUses catalogue x.held (done u p deed)
  completed_uses u p deed l h (Completes.own_write rec value next r a v o e) = done_uses u p deed h (reads_give deed _ o)
  completed_uses u p deed l h (Completes.own_copy rec stored next r a v c f o e) = done_uses u p deed h (reads_give deed _ o)
  completed_uses u p deed l h (Completes.change_again rec before next r a v e) = done_uses u p deed h (may_give catalogue x u rec deed a)
  completed_uses u p deed l h (Completes.change_alone rec next r a v n e) = done_uses u p deed h (may_give catalogue x u rec deed a)
  completed_uses u p deed l h (Completes.read_answered from rec value c last r o e) = done_uses u p deed h (reads_give deed _ o)
  completed_uses u p deed l h (Completes.change_answered from rec c last r e) = done_uses u p deed h (λ n table q. h.weighing p n table last.pending (r.asked ∙ ap (λ (d : Deed). Some d) q))

  begun_uses : (txn : TxnId) (view : ViewId) → LiveUses catalogue x.held (begun txn view)
  begun_uses txn view = record {
    weighed = λ rec table e. cc;
    weighing = λ p rec table e r. cc;
  }

  pub live_uses : (t : Live) → LiveNow catalogue x given t → LiveUses catalogue x.held t
  live_uses t (LiveNow.still h) = all t h
  live_uses t (LiveNow.marked u h tick e) = subst (LiveUses catalogue x.held) e (marked_uses u (all u h))
  live_uses t (LiveNow.waits u p from h f m l k e) =
      let a = all u h in
      subst (LiveUses catalogue x.held) e (asking_uses u (waiting u p (remaining from p)) p (remaining from p) a refl refl (λ rec table r. a.weighing p rec table f r))
  live_uses t (LiveNow.completed u p deed l h c e) = subst (LiveUses catalogue x.held) e (completed_uses u p deed l (all u h) c)
  live_uses t (LiveNow.reads u p rec q h a e) = subst (LiveUses catalogue x.held) e
      (asking_uses u (reading u p rec q) p (q ∷ []) (all u h) refl refl
      (λ other table r. read_not_write catalogue p rec other (Deed.weighs other table) a.reads (record { asked = r; on = refl })))
  live_uses t (LiveNow.writes u p rec deed h a e) = subst (LiveUses catalogue x.held) e
      (asking_uses u (writing u p (other_holders catalogue x rec)) p (other_holders catalogue x rec) (all u h) refl refl
      (λ other table r. let z : Some deed ≡ Some (Deed.weighs other table) = sym a.writes.asked ∙ r in let is : deed ≡ Deed.weighs other table = cc in may_give catalogue x u rec deed a.may other table is))
  live_uses t (LiveNow.prepares u p h a e) = subst (LiveUses catalogue x.held) e
      (asking_uses u (waiting u p u.parts) p u.parts (all u h) refl refl
      (λ rec table r. no_commit_writes catalogue p rec (Deed.weighs rec table) a.commit (record { asked = r; on = refl })))
  live_uses t (LiveNow.begins view h e) = subst (LiveUses catalogue x.held) e (begun_uses _ view.id)
