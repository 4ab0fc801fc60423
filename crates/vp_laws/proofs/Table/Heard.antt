-- What an answer says of a call that is done, be it an operation or a weigh.
use Rattle.std.proofs.Common.{◌≡◌, ◌∙◌, ap, sym, ℕ, Bool, true, false, cond, List, [], ◌∷◌, refl}
use Rattle.std.specs.Prelude.{Option, Some, None, filter_map, option_and_then, if◌then◌else◌}
use Rattle.std.specs.List.{cons_option}
use Rattle.vp_model.specs.Types.{TxnId, Answer}
use Rattle.vp_model.specs.Types.answer
use Rattle.vp_model.specs.Words.{same_txn}
use Rattle.vp_model.specs.Told.{reported, weighed}
use Rattle.vp_laws.proofs.Table.ToldLines.{Report}

-- a number, with the report of an operation or none for a weigh
abbrev pub Heard : Type 0
Heard = ℕ × Option (Option (Option (List ℕ)))

abbrev pub heard : TxnId → Answer → Option Heard
heard txn (answer.Value t number value) = if same_txn t txn then Some (number, Some (Some (Some value))) else None
heard txn (answer.Absent t number) = if same_txn t txn then Some (number, Some (Some None)) else None
heard txn (answer.Written t number) = if same_txn t txn then Some (number, Some None) else None
heard txn (answer.Deleted t number) = if same_txn t txn then Some (number, Some None) else None
heard txn (answer.Weighed t number) = if same_txn t txn then Some (number, None) else None
heard txn _ = None

abbrev report_in : Heard → Option Report
report_in (number, Some report) = Some (number, report)
report_in (number, None) = None

abbrev weigh_in : Heard → Option ℕ
weigh_in (number, Some report) = None
weigh_in (number, None) = Some number

pub heard_report : (u : TxnId) (a : Answer) → reported u a ≡ option_and_then report_in (heard u a)
heard_report u (answer.Value t number value) = go (same_txn t u)
  where
    go : (b : Bool) → cond b (Some (number, Some (Some value))) None ≡ option_and_then report_in (cond b (Some (number, Some (Some (Some value)))) None)
    go true = refl
    go false = refl
heard_report u (answer.Absent t number) = go (same_txn t u)
  where
    go : (b : Bool) → cond b (Some (number, Some None)) None ≡ option_and_then report_in (cond b (Some (number, Some (Some None))) None)
    go true = refl
    go false = refl
heard_report u (answer.Written t number) = go (same_txn t u)
  where
    go : (b : Bool) → cond b (Some (number, None)) None ≡ option_and_then report_in (cond b (Some (number, Some None)) None)
    go true = refl
    go false = refl
heard_report u (answer.Deleted t number) = go (same_txn t u)
  where
    go : (b : Bool) → cond b (Some (number, None)) None ≡ option_and_then report_in (cond b (Some (number, Some None)) None)
    go true = refl
    go false = refl
heard_report u (answer.Weighed t number) = go (same_txn t u)
  where
    go : (b : Bool) → None ≡ option_and_then report_in (cond b (Some (number, None)) None)
    go true = refl
    go false = refl
heard_report u _ = refl

pub heard_weigh : (u : TxnId) (a : Answer) → weighed u a ≡ option_and_then weigh_in (heard u a)
heard_weigh u (answer.Value t number value) = go (same_txn t u)
  where
    go : (b : Bool) → None ≡ option_and_then weigh_in (cond b (Some (number, Some (Some (Some value)))) None)
    go true = refl
    go false = refl
heard_weigh u (answer.Absent t number) = go (same_txn t u)
  where
    go : (b : Bool) → None ≡ option_and_then weigh_in (cond b (Some (number, Some (Some None))) None)
    go true = refl
    go false = refl
heard_weigh u (answer.Written t number) = go (same_txn t u)
  where
    go : (b : Bool) → None ≡ option_and_then weigh_in (cond b (Some (number, Some None)) None)
    go true = refl
    go false = refl
heard_weigh u (answer.Deleted t number) = go (same_txn t u)
  where
    go : (b : Bool) → None ≡ option_and_then weigh_in (cond b (Some (number, Some None)) None)
    go true = refl
    go false = refl
heard_weigh u (answer.Weighed t number) = go (same_txn t u)
  where
    go : (b : Bool) → cond b (Some number) None ≡ option_and_then weigh_in (cond b (Some (number, None)) None)
    go true = refl
    go false = refl
heard_weigh u _ = refl

-- what is in no answer is in none of its parts
pub unheard_report : (u : TxnId) (a : Answer) → heard u a ≡ None → reported u a ≡ None
unheard_report u a e = heard_report u a ∙ ap (option_and_then report_in) e

pub unheard_weigh : (u : TxnId) (a : Answer) → heard u a ≡ None → weighed u a ≡ None
unheard_weigh u a e = heard_weigh u a ∙ ap (option_and_then weigh_in) e

in_two : {X Y Z : Type 0} (f : X → Option Z) (g : X → Option Y) (h : Y → Option Z) → ((x : X) → f x ≡ option_and_then h (g x)) → (xs : List X) → filter_map f xs ≡ filter_map h (filter_map g xs)
in_two {X} {Y} {Z} f g h same [] = refl
in_two {X} {Y} {Z} f g h same (x ∷ xs) =
    ap (λ o. cons_option o (filter_map f xs)) (same x)
    ∙ ap (cons_option (option_and_then h (g x))) (in_two f g h same xs)
    ∙ go (g x)
  where
    go : (o : Option Y) → cons_option (option_and_then h o) (filter_map h (filter_map g xs)) ≡ filter_map h (cons_option o (filter_map g xs))
    go None = refl
    go (Some y) = refl

-- answers that say the same give the same reports, and the same weighs
pub same_told : (u : TxnId) (ws bs : List Answer) → filter_map (heard u) ws ≡ filter_map (heard u) bs → filter_map (reported u) ws ≡ filter_map (reported u) bs
same_told u ws bs e =
    in_two (reported u) (heard u) report_in (heard_report u) ws
    ∙ ap (filter_map report_in) e
    ∙ sym (in_two (reported u) (heard u) report_in (heard_report u) bs)

pub same_weighs : (u : TxnId) (ws bs : List Answer) → filter_map (heard u) ws ≡ filter_map (heard u) bs → filter_map (weighed u) ws ≡ filter_map (weighed u) bs
same_weighs u ws bs e =
    in_two (weighed u) (heard u) weigh_in (heard_weigh u) ws
    ∙ ap (filter_map weigh_in) e
    ∙ sym (in_two (weighed u) (heard u) weigh_in (heard_weigh u) bs)
