-- Expressions are read exactly, each with the word after it.
use Rattle.std.proofs.Common.{◌≡◌, ℕ, ◌-◌, Bool, true, false, List, [], ◌∷◌, ◌++◌, length, Result, Ok, refl, sym, ap, subst, ◌∙◌, arith, inl, inr, append_assoc}
use Rattle.std.specs.Prelude.{codes}
use Rattle.std.proofs.lemmas.List.{append-nil, length-append}
use Rattle.vp_text.specs.Reading.{is_digit}
use Rattle.vp_text.proofs.Exact.{Exact, Then, Made, Follows, one_value, made_exact, then_exact, exact_as, ok_value, at_err, Apart}
use Rattle.vp_text.proofs.Fields.{Outside, IsOutside}
use Rattle.vp_text.proofs.Choices.{GoesOn, follows_from, then_goes}
use Rattle.vp_text.proofs.WordChoices.{Among, IsWordOf, all_apart, among_end, among_exact}
use Rattle.vp_procedure.specs.declared.procedure.Term.{Term}
use Rattle.vp_procedure.specs.declared.procedure.Expr.{Expr}
use Rattle.vp_procedure.specs.declared.procedure.Expr.TheVariants as expr
use Rattle.vp_procedure.specs.declared.keyword.Keyword.{Keyword}
use Rattle.vp_procedure.specs.declared.keyword.Keyword.TheVariants as kw
use Rattle.vp_procedure.specs.Procedures.{IsTerm, IsExpr, term_text, expr_text}
use Rattle.vp_procedure.specs.Keywords.{word, ends_of, signs_of, keyword_at}
use Rattle.vp_procedure.specs.ExprReading.{sum_at, difference_at, after_term_at, expr_at}
use Rattle.vp_procedure.proofs.TermTexts.{TermText, term_exact, term_goes}

-- the word of one of the keywords
abbrev pub IsKeyword : List Keyword → Keyword → List ℕ → Type 0
IsKeyword = IsWordOf word

-- ---- nothing is read

abbrev pub Nothing : {A : Type 0} → A → A → List ℕ → Type 0
Nothing x a text = (a ≡ x) × (text ≡ [])

abbrev at_once : {A : Type 0} → A → List ℕ → Result (A × List ℕ) ℕ
at_once x bytes = Ok (x, bytes)

pub nothing_exact : {A : Type 0} (x : A) → Exact (Nothing x) (λ bytes. Ok (x, bytes))
nothing_exact {A = A} x = record {
  ok = λ bytes a rest e.
      let same = ok_value {A = A × List ℕ} (x, bytes) (a, rest) e in
      record {
        text = [];
        spelled = (sym (ap (λ (p : A × List ℕ). p.0) same), refl);
        parts = ap (λ (p : A × List ℕ). p.1) same;
        ends = λ b r h. subst (λ (r : List ℕ). Apart r rest) (sym h.1) tt;
      };
  err = λ bytes left e. absurd (at_err {A = A × List ℕ} (Ok (x, bytes)) (x, bytes) left refl e);
  again = λ a text rest h ends. subst (λ (t : List ℕ). at_once x (t ++ rest) ≡ at_once a rest) (sym h.1) (ap (λ (a : A). at_once a rest) (sym h.0));
}

-- ---- the words

ends_exact : (compared : Bool) → Exact (IsKeyword (ends_of compared)) (keyword_at (ends_of compared))
ends_exact true = among_exact word kw.Less (kw.Equal ∷ []) refl
ends_exact false = among_exact word kw.Newline [] refl

signs_exact : (compared : Bool) → Exact (IsKeyword (signs_of compared)) (keyword_at (signs_of compared))
signs_exact true = among_exact word kw.Plus (kw.Minus ∷ kw.Less ∷ kw.Equal ∷ []) refl
signs_exact false = among_exact word kw.Plus (kw.Minus ∷ kw.Newline ∷ []) refl

signs_apart : (compared : Bool) → all_apart word (signs_of compared) ≡ true
signs_apart true = refl
signs_apart false = refl

-- none of them begins with a digit
sign_outside : (compared : Bool) (k : Keyword) → Among (signs_of compared) k → Outside is_digit (word k)
sign_outside true k (inl e) = subst (λ (k : Keyword). Outside is_digit (word k)) (sym e) refl
sign_outside true k (inr (inl e)) = subst (λ (k : Keyword). Outside is_digit (word k)) (sym e) refl
sign_outside true k (inr (inr (inl e))) = subst (λ (k : Keyword). Outside is_digit (word k)) (sym e) refl
sign_outside true k (inr (inr (inr (inl e)))) = subst (λ (k : Keyword). Outside is_digit (word k)) (sym e) refl
sign_outside true k (inr (inr (inr (inr e)))) = absurd e
sign_outside false k (inl e) = subst (λ (k : Keyword). Outside is_digit (word k)) (sym e) refl
sign_outside false k (inr (inl e)) = subst (λ (k : Keyword). Outside is_digit (word k)) (sym e) refl
sign_outside false k (inr (inr (inl e))) = subst (λ (k : Keyword). Outside is_digit (word k)) (sym e) refl
sign_outside false k (inr (inr (inr e))) = absurd e

end_is_sign : (compared : Bool) (k : Keyword) → Among (ends_of compared) k → Among (signs_of compared) k
end_is_sign compared k h = inr (inr h)

outside_front : (has : ℕ → Bool) (p q : List ℕ) → Outside has p → Outside has (p ++ q)
outside_front has [] q h = absurd h
outside_front has (c ∷ p) q h = h

ends_outside : {B : Type 0} (compared : Bool) (make : Keyword → B) → IsOutside is_digit (Made (IsKeyword (ends_of compared)) make)
ends_outside compared make = λ b t m. subst (Outside is_digit) (sym m.spelled.is) (sign_outside compared m.from (end_is_sign compared m.from m.spelled.among))

signs_outside : {B : Type 0} (compared : Bool) (M : Keyword → B → List ℕ → Type 0) → IsOutside is_digit (Then (IsKeyword (signs_of compared)) M)
signs_outside compared M = λ b t m.
    subst (Outside is_digit) (sym m.parts) (outside_front is_digit m.front m.back (subst (Outside is_digit) (sym m.before.is) (sign_outside compared m.first m.before.among)))

-- ---- expressions

abbrev Ended : Type 0
Ended = Expr × Keyword

abbrev SecondText : (Term → Expr) → Bool → Ended → List ℕ → Type 0
SecondText make compared = Then TermText (λ b. Made (IsKeyword (ends_of compared)) (λ end. (make b, end)))

abbrev AfterText : Term → Bool → Keyword → Ended → List ℕ → Type 0
AfterText a compared kw.Plus = SecondText (λ b. expr.Sum a b) compared
AfterText a compared kw.Minus = SecondText (λ b. expr.Difference a b) compared
AfterText a compared end = Nothing (expr.Just a, end)

abbrev PartsText : Bool → Ended → List ℕ → Type 0
PartsText compared = Then TermText (λ a. Then (IsKeyword (signs_of compared)) (AfterText a compared))

second_follows : (make : Term → Expr) (compared : Bool) → Follows {B = Ended} TermText (λ b. Made (IsKeyword (ends_of compared)) (λ end. (make b, end)))
second_follows make compared = follows_from is_digit term_goes (λ b. ends_outside compared (λ end. (make b, end)))

sum_exact : (a : Term) (compared : Bool) → Exact (SecondText (λ b. expr.Sum a b) compared) (sum_at a compared)
unfolding sum_at
sum_exact a compared = then_exact (second_follows (λ b. expr.Sum a b) compared) term_exact (λ b. made_exact (λ end. (expr.Sum a b, end)) (ends_exact compared))

difference_exact : (a : Term) (compared : Bool) → Exact (SecondText (λ b. expr.Difference a b) compared) (difference_at a compared)
unfolding difference_at
difference_exact a compared = then_exact (second_follows (λ b. expr.Difference a b) compared) term_exact (λ b. made_exact (λ end. (expr.Difference a b, end)) (ends_exact compared))

after_exact : (a : Term) (compared : Bool) (k : Keyword) → Exact (AfterText a compared k) (after_term_at a compared k)
after_exact a compared kw.Plus = sum_exact a compared
after_exact a compared kw.Minus = difference_exact a compared
after_exact a compared kw.Read = nothing_exact (expr.Just a, kw.Read)
after_exact a compared kw.Set = nothing_exact (expr.Just a, kw.Set)
after_exact a compared kw.Write = nothing_exact (expr.Just a, kw.Write)
after_exact a compared kw.If = nothing_exact (expr.Just a, kw.If)
after_exact a compared kw.Else = nothing_exact (expr.Just a, kw.Else)
after_exact a compared kw.End = nothing_exact (expr.Just a, kw.End)
after_exact a compared kw.Fail = nothing_exact (expr.Just a, kw.Fail)
after_exact a compared kw.Result = nothing_exact (expr.Just a, kw.Result)
after_exact a compared kw.Less = nothing_exact (expr.Just a, kw.Less)
after_exact a compared kw.Equal = nothing_exact (expr.Just a, kw.Equal)
after_exact a compared kw.Newline = nothing_exact (expr.Just a, kw.Newline)

parts_exact : (compared : Bool) → Exact (PartsText compared) (expr_at compared)
unfolding expr_at
parts_exact compared =
    then_exact (follows_from is_digit term_goes (λ a. signs_outside compared (AfterText a compared))) term_exact
    (λ a. then_exact (λ k k2 text x r b t before longer after. absurd (among_end word (signs_of compared) (signs_apart compared) k k2 text x r before longer)) (signs_exact compared) (after_exact a compared))

-- ---- the parts are the text of the expression, and the word

-- an expression, and one of the words after it
pub record ExprText (compared : Bool) (it : Ended) (text : List ℕ) : Type 0 where
  pub expr_is : IsExpr it.0
  pub among : Among (ends_of compared) it.1
  pub is : text ≡ expr_text it.0 ++ word it.1

joined : (a b c d front back rest text : List ℕ) → text ≡ front ++ back → front ≡ a → back ≡ b ++ rest → rest ≡ c ++ d → text ≡ (a ++ (b ++ c)) ++ d
joined a b c d front back rest text e f g h =
    e ∙ rw (f, g, h) (sym (append_assoc a (b ++ c) d ∙ ap (λ (x : List ℕ). a ++ x) (append_assoc b c d)))

second_to : (make : Term → Expr) (sign : List ℕ) (a : Term) (compared : Bool) → IsTerm a → ((b : Term) → IsTerm b → IsExpr (make b)) → ((b : Term) → expr_text (make b) ≡ term_text a ++ (sign ++ term_text b))
    → (it : Ended) (front back rest text : List ℕ) → text ≡ front ++ back → front ≡ term_text a → back ≡ sign ++ rest → SecondText make compared it rest → ExprText compared it text
second_to make sign a compared first made spelled it front back rest text e f g h =
    let m = h.after in
    let rest_is : rest ≡ term_text h.first ++ word m.from = h.parts ∙ rw (h.before.1, m.spelled.is) refl in
    let whole : text ≡ expr_text (make h.first) ++ word m.from =
    joined (term_text a) sign (term_text h.first) (word m.from) front back rest text e f g rest_is ∙ ap (λ (x : List ℕ). x ++ word m.from) (sym (spelled h.first)) in
    subst (λ (it : Ended). ExprText compared it text) (sym m.is) (record { expr_is = made h.first h.before.0; among = m.spelled.among; is = whole })

just_to : (a : Term) (compared : Bool) (k : Keyword) → IsTerm a → Among (ends_of compared) k → (it : Ended) (front back rest text : List ℕ) → text ≡ front ++ back → front ≡ term_text a → back ≡ word k ++ rest
    → Nothing (expr.Just a, k) it rest → ExprText compared it text
just_to a compared k first among it front back rest text e f g h =
    subst (λ (it : Ended). ExprText compared it text) (sym h.0)
    (record { expr_is = first; among = among; is = e ∙ rw (f, g, h.1) (ap (λ (x : List ℕ). term_text a ++ x) (append-nil (word k))) })

ends_among : (compared : Bool) (k : Keyword) → (k ≡ kw.Plus → ⊥) → (k ≡ kw.Minus → ⊥) → Among (signs_of compared) k → Among (ends_of compared) k
ends_among compared k p m (inl e) = absurd (p e)
ends_among compared k p m (inr (inl e)) = absurd (m e)
ends_among compared k p m (inr (inr h)) = h

abbrev SignTo : Bool → Term → Keyword → Type 0
SignTo compared a k =
    (it : Ended) (front back rest text : List ℕ) → IsTerm a → Among (signs_of compared) k → text ≡ front ++ back → front ≡ term_text a → back ≡ word k ++ rest → AfterText a compared k it rest → ExprText compared it text

sign_to : (compared : Bool) (a : Term) (k : Keyword) → SignTo compared a k
sign_to compared a kw.Plus it front back rest text first among e f g h = second_to (λ b. expr.Sum a b) (codes " + ") a compared first (λ b t. (first, t)) (λ b. refl) it front back rest text e f g h
sign_to compared a kw.Minus it front back rest text first among e f g h = second_to (λ b. expr.Difference a b) (codes " - ") a compared first (λ b t. (first, t)) (λ b. refl) it front back rest text e f g h
sign_to compared a kw.Read it front back rest text first among e f g h = just_to a compared kw.Read first (ends_among compared kw.Read (λ e. cc) (λ e. cc) among) it front back rest text e f g h
sign_to compared a kw.Set it front back rest text first among e f g h = just_to a compared kw.Set first (ends_among compared kw.Set (λ e. cc) (λ e. cc) among) it front back rest text e f g h
sign_to compared a kw.Write it front back rest text first among e f g h = just_to a compared kw.Write first (ends_among compared kw.Write (λ e. cc) (λ e. cc) among) it front back rest text e f g h
sign_to compared a kw.If it front back rest text first among e f g h = just_to a compared kw.If first (ends_among compared kw.If (λ e. cc) (λ e. cc) among) it front back rest text e f g h
sign_to compared a kw.Else it front back rest text first among e f g h = just_to a compared kw.Else first (ends_among compared kw.Else (λ e. cc) (λ e. cc) among) it front back rest text e f g h
sign_to compared a kw.End it front back rest text first among e f g h = just_to a compared kw.End first (ends_among compared kw.End (λ e. cc) (λ e. cc) among) it front back rest text e f g h
sign_to compared a kw.Fail it front back rest text first among e f g h = just_to a compared kw.Fail first (ends_among compared kw.Fail (λ e. cc) (λ e. cc) among) it front back rest text e f g h
sign_to compared a kw.Result it front back rest text first among e f g h = just_to a compared kw.Result first (ends_among compared kw.Result (λ e. cc) (λ e. cc) among) it front back rest text e f g h
sign_to compared a kw.Less it front back rest text first among e f g h = just_to a compared kw.Less first (ends_among compared kw.Less (λ e. cc) (λ e. cc) among) it front back rest text e f g h
sign_to compared a kw.Equal it front back rest text first among e f g h = just_to a compared kw.Equal first (ends_among compared kw.Equal (λ e. cc) (λ e. cc) among) it front back rest text e f g h
sign_to compared a kw.Newline it front back rest text first among e f g h = just_to a compared kw.Newline first (ends_among compared kw.Newline (λ e. cc) (λ e. cc) among) it front back rest text e f g h

parts_to : (compared : Bool) (it : Ended) (t : List ℕ) → PartsText compared it t → ExprText compared it t
parts_to compared it t h =
    let m = h.after in
    sign_to compared h.first m.first it h.front h.back m.back t h.before.0 m.before.among h.parts h.before.1 (m.parts ∙ ap (λ (x : List ℕ). x ++ m.back) m.before.is) m.after

-- and the other way
after_nothing : (a : Term) (compared : Bool) (k : Keyword) → Among (ends_of compared) k → AfterText a compared k (expr.Just a, k) []
after_nothing a true kw.Plus (inl e) = absurd cc
after_nothing a true kw.Plus (inr (inl e)) = absurd cc
after_nothing a true kw.Plus (inr (inr e)) = absurd e
after_nothing a false kw.Plus (inl e) = absurd cc
after_nothing a false kw.Plus (inr e) = absurd e
after_nothing a true kw.Minus (inl e) = absurd cc
after_nothing a true kw.Minus (inr (inl e)) = absurd cc
after_nothing a true kw.Minus (inr (inr e)) = absurd e
after_nothing a false kw.Minus (inl e) = absurd cc
after_nothing a false kw.Minus (inr e) = absurd e
after_nothing a compared kw.Read h = (refl, refl)
after_nothing a compared kw.Set h = (refl, refl)
after_nothing a compared kw.Write h = (refl, refl)
after_nothing a compared kw.If h = (refl, refl)
after_nothing a compared kw.Else h = (refl, refl)
after_nothing a compared kw.End h = (refl, refl)
after_nothing a compared kw.Fail h = (refl, refl)
after_nothing a compared kw.Result h = (refl, refl)
after_nothing a compared kw.Less h = (refl, refl)
after_nothing a compared kw.Equal h = (refl, refl)
after_nothing a compared kw.Newline h = (refl, refl)

second_from : (make : Term → Expr) (compared : Bool) (b : Term) (k : Keyword) → IsTerm b → Among (ends_of compared) k → SecondText make compared (make b, k) (term_text b ++ word k)
second_from make compared b k t among = record {
  first = b;
  front = term_text b;
  back = word k;
  before = (t, refl);
  parts = refl;
  after = record { from = k; spelled = record { is = refl; among = among }; is = refl };
}

sign_from : (compared : Bool) (a : Term) (sign : Keyword) (it : Ended) (rest t : List ℕ) → IsTerm a → Among (signs_of compared) sign → AfterText a compared sign it rest → t ≡ term_text a ++ (word sign ++ rest) → PartsText compared it t
sign_from compared a sign it rest t first among after is = record {
  first = a;
  front = term_text a;
  back = word sign ++ rest;
  before = (first, refl);
  parts = is;
  after = record { first = sign; front = word sign; back = rest; before = record { is = refl; among = among }; parts = refl; after = after };
}

expr_from : (compared : Bool) (e : Expr) (k : Keyword) (t : List ℕ) → ExprText compared (e, k) t → PartsText compared (e, k) t
expr_from compared (expr.Just a) k t h =
    sign_from compared a k (expr.Just a, k) [] t h.expr_is (end_is_sign compared k h.among) (after_nothing a compared k h.among) (h.is ∙ ap (λ (x : List ℕ). term_text a ++ x) (sym (append-nil (word k))))
expr_from compared (expr.Sum a b) k t h =
    sign_from compared a kw.Plus (expr.Sum a b, k) (term_text b ++ word k) t h.expr_is.0 (inl refl) (second_from (λ b. expr.Sum a b) compared b k h.expr_is.1 h.among)
    (h.is ∙ append_assoc (term_text a) (codes " + " ++ term_text b) (word k) ∙ ap (λ (x : List ℕ). term_text a ++ x) (append_assoc (codes " + ") (term_text b) (word k)))
expr_from compared (expr.Difference a b) k t h =
    sign_from compared a kw.Minus (expr.Difference a b, k) (term_text b ++ word k) t h.expr_is.0 (inr (inl refl)) (second_from (λ b. expr.Difference a b) compared b k h.expr_is.1 h.among)
    (h.is ∙ append_assoc (term_text a) (codes " - " ++ term_text b) (word k) ∙ ap (λ (x : List ℕ). term_text a ++ x) (append_assoc (codes " - ") (term_text b) (word k)))

pub expr_exact : (compared : Bool) → Exact (ExprText compared) (expr_at compared)
expr_exact compared = exact_as (parts_to compared) (λ it t h. expr_from compared it.0 it.1 t h) (parts_exact compared)

-- ---- none goes on to a longer one

nothing_ends : {A : Type 0} (x : A) → GoesOn (λ c. false) (Nothing x)
nothing_ends x a b text y r before longer = absurd (omega (arith, ap length longer.1, length-append text (y ∷ r)))

word_ends : {B : Type 0} (compared : Bool) (make : Keyword → B) → GoesOn (λ c. false) (Made (IsKeyword (ends_of compared)) make)
word_ends compared make a b text x r before longer = absurd (among_end word (ends_of compared) (ends_apart compared) before.from longer.from text x r before.spelled longer.spelled)
  where
    ends_apart : (compared : Bool) → all_apart word (ends_of compared) ≡ true
    ends_apart true = refl
    ends_apart false = refl

second_ends : (make : Term → Expr) (compared : Bool) → GoesOn (λ c. false) (SecondText make compared)
second_ends make compared = then_goes (λ c. false) (one_value term_exact) (second_follows make compared) (λ b. word_ends compared (λ end. (make b, end)))

after_ends : (a : Term) (compared : Bool) (k : Keyword) → GoesOn (λ c. false) (AfterText a compared k)
after_ends a compared kw.Plus = second_ends (λ b. expr.Sum a b) compared
after_ends a compared kw.Minus = second_ends (λ b. expr.Difference a b) compared
after_ends a compared kw.Read = nothing_ends (expr.Just a, kw.Read)
after_ends a compared kw.Set = nothing_ends (expr.Just a, kw.Set)
after_ends a compared kw.Write = nothing_ends (expr.Just a, kw.Write)
after_ends a compared kw.If = nothing_ends (expr.Just a, kw.If)
after_ends a compared kw.Else = nothing_ends (expr.Just a, kw.Else)
after_ends a compared kw.End = nothing_ends (expr.Just a, kw.End)
after_ends a compared kw.Fail = nothing_ends (expr.Just a, kw.Fail)
after_ends a compared kw.Result = nothing_ends (expr.Just a, kw.Result)
after_ends a compared kw.Less = nothing_ends (expr.Just a, kw.Less)
after_ends a compared kw.Equal = nothing_ends (expr.Just a, kw.Equal)
after_ends a compared kw.Newline = nothing_ends (expr.Just a, kw.Newline)

sign_follows : (a : Term) (compared : Bool) → Follows (IsKeyword (signs_of compared)) (AfterText a compared)
sign_follows a compared = λ k k2 text x r b t before longer after. absurd (among_end word (signs_of compared) (signs_apart compared) k k2 text x r before longer)

parts_end : (compared : Bool) → GoesOn (λ c. false) (PartsText compared)
parts_end compared =
    then_goes (λ c. false) (one_value term_exact) (follows_from is_digit term_goes (λ a. signs_outside compared (AfterText a compared)))
    (λ a. then_goes (λ c. false) (one_value (signs_exact compared)) (sign_follows a compared) (after_ends a compared))

pub expr_ends : (compared : Bool) → GoesOn (λ c. false) (ExprText compared)
expr_ends compared a b text x r before longer = parts_end compared a b text x r (expr_from compared a.0 a.1 text before) (expr_from compared b.0 b.1 (text ++ x ∷ r) longer)
