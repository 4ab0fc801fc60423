-- Each allowed line has one newline, at its end, so no line begins another.
use Rattle.std.proofs.Common.{ℕ, ◌^◌, ◌<◌, List, [], ◌∷◌, ◌++◌, refl, sym, subst, arith}
use Rattle.std.specs.Prelude.{codes, Some, None}
use Rattle.std.specs.Fmt.{decimal}
use Rattle.vp_text.specs.Documents.{HasNoNewline, IsLine}
use Rattle.vp_text.proofs.Newlines.{both, decimal_clean, key_clean, last_line, line_push}
use Rattle.vp_base.proofs.Among.{place_is_name}
use Rattle.vp_base.proofs.Newlines.{name_clean, value_clean, view_clean, txn_clean}
use Rattle.vp_model.specs.Types.{Op}
use Rattle.vp_model.specs.Types.op
use Rattle.vp_onecopy.specs.declared.line.HistoryLine.{HistoryLine}
use Rattle.vp_onecopy.specs.declared.line.HistoryLine.TheVariants.{Start, Commit, End}
use Rattle.vp_onecopy.specs.Lines.{AllNames, Before, OpText, OpsText, LineText}

op_clean : (names : List (List ℕ)) → AllNames names → (op : Op) (t : List ℕ) → OpText names op t → HasNoNewline t
op_clean names all (op.Read rec None) t h = subst HasNoNewline (sym h.2) (both (codes " a ") h.0 (key_clean (codes " a ") refl) (name_clean h.0 (place_is_name names rec h.0 all h.1)))
op_clean names all (op.Write rec None) t h = subst HasNoNewline (sym h.2) (both (codes " d ") h.0 (key_clean (codes " d ") refl) (name_clean h.0 (place_is_name names rec h.0 all h.1)))
op_clean names all (op.Read rec (Some value)) t h = subst HasNoNewline (sym h.3) (both (codes " r ") (h.0 ++ 32 ∷ value) (key_clean (codes " r ") refl) (both h.0 (32 ∷ value) (name_clean h.0 (place_is_name names rec h.0 all h.1)) (λ e. omega arith, value_clean value h.2)))
op_clean names all (op.Write rec (Some value)) t h = subst HasNoNewline (sym h.3) (both (codes " w ") (h.0 ++ 32 ∷ value) (key_clean (codes " w ") refl) (both h.0 (32 ∷ value) (name_clean h.0 (place_is_name names rec h.0 all h.1)) (λ e. omega arith, value_clean value h.2)))

ops_line : (names : List (List ℕ)) → AllNames names → (ops : List Op) (t : List ℕ) → OpsText names ops t → IsLine t
ops_line names all [] t h = subst IsLine (sym h) last_line
ops_line names all (op ∷ ops) t h = subst IsLine (sym h.5) (line_push h.0 h.1 (op_clean names all op h.0 h.3) (ops_line names all ops h.1 h.4))

pub line_is : (b : Before) → AllNames b.names → b.commits < 2 ^ 64 → (e : HistoryLine) (t : List ℕ) → LineText b e t → IsLine t
line_is b all fits (Start name value) t h = subst IsLine (sym h.parts) (line_push (codes "start ") (name ++ 32 ∷ (value ++ 10 ∷ [])) (key_clean (codes "start ") refl)
    (line_push name (32 ∷ (value ++ 10 ∷ [])) (name_clean name h.name_is) (line_push (32 ∷ []) (value ++ 10 ∷ []) (λ e. omega arith, tt) (line_push value (10 ∷ []) (value_clean value h.value_is) last_line))))
line_is b all fits (Commit commit) t h = subst IsLine (sym h.parts) (line_push (codes "commit ") (h.txn ++ 32 ∷ (h.view ++ h.ops)) (key_clean (codes "commit ") refl)
    (line_push h.txn (32 ∷ (h.view ++ h.ops)) (txn_clean commit.txn h.txn h.txn_is) (line_push (32 ∷ []) (h.view ++ h.ops) (λ e. omega arith, tt)
    (line_push h.view h.ops (view_clean commit.view h.view h.view_is.spelled) (ops_line b.names all commit.ops h.ops h.ops_are)))))
line_is b all fits End t h = subst IsLine (sym h) (line_push (codes "end ") (decimal b.commits ++ 10 ∷ []) (key_clean (codes "end ") refl) (line_push (decimal b.commits) (10 ∷ []) (decimal_clean b.commits fits) last_line))
