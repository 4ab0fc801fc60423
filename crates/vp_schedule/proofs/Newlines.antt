-- An event has no newline.
use Rattle.std.proofs.Common.{◌≡◌, ℕ, List, [], ◌∷◌, ◌++◌, true, refl, sym, subst, arith}
use Rattle.std.specs.Prelude.{codes}
use Rattle.std.specs.Fmt.{decimal}
use Rattle.std.proofs.lemmas.Bool.{ne_eqb}
use Rattle.std.proofs.lemmas.List.Concat.{flat_map-cons}
use Rattle.vp_text.specs.Documents.{HasNoNewline, IsLine}
use Rattle.vp_text.proofs.Choices.{GoesOn}
use Rattle.vp_text.proofs.Items.{all_at}
use Rattle.vp_text.proofs.Newlines.{both, decimal_clean, clean, key_clean, last_line, line_push}
use Rattle.vp_base.specs.Identifiers.{txn_text}
use Rattle.vp_base.proofs.Newlines.{name_clean, value_clean, txn_clean}
use Rattle.vp_model.specs.Types.{TxnId, Call, Event}
use Rattle.vp_model.specs.Types.call
use Rattle.vp_model.specs.Types.event
use Rattle.vp_model.specs.Texts.Calls.{call_text, event_text}
use Rattle.vp_model.specs.Texts.Fields.{call_name_text, weight_text, table_text}
use Rattle.vp_catalog.specs.Sites.{AllSites}
use Rattle.vp_catalog.proofs.Sites.{site_range}
use Rattle.vp_base.specs.Calls.{IsNumbered, IsCall}
use Rattle.vp_base.specs.Tables.{IsShare, AreShares}
use Rattle.vp_schedule.specs.Events.{IsListed, IsEvent, IsEventText}
use Rattle.vp_schedule.proofs.Exact.{in_line}

-- ---- calls

numbered_clean : (txn : TxnId) (number : ℕ) → IsNumbered txn number → (deed : List ℕ) → HasNoNewline deed → HasNoNewline (call_name_text txn number ++ deed)
numbered_clean txn number h deed d =
    both (call_name_text txn number) deed (both (txn_text txn) (32 ∷ decimal number) (txn_clean txn (txn_text txn) (record { is = refl; allowed = h.txn_is })) (λ e. omega arith, decimal_clean number (omega (arith, h.fits)))) d

-- a table has none
share_clean : (above : ℕ) (share : ℕ × ℕ) → IsShare above share → HasNoNewline (weight_text share)
share_clean above share h =
    let site = decimal_clean share.0 (omega (arith, h.site_fits)) in
    let weight = decimal_clean share.1 (omega (arith, h.fits)) in
    (λ e. omega arith, both (decimal share.0) (58 ∷ decimal share.1) site (λ e. omega arith, weight))

shares_clean : (above : ℕ) (shares : List (ℕ × ℕ)) → AreShares above shares → HasNoNewline (table_text shares)
shares_clean above [] h = tt
shares_clean above (share ∷ shares) h =
    subst HasNoNewline (sym (flat_map-cons weight_text share shares)) (both (weight_text share) (table_text shares) (share_clean above share h.0) (shares_clean share.0 shares h.1))

call_clean : (words : Call) → IsCall words → HasNoNewline (call_text words)
call_clean call.Begin h = key_clean (codes "begin") refl
call_clean call.Regroup h = key_clean (codes "regroup") refl
call_clean (call.Read txn number name) h = numbered_clean txn number h.0 (codes " read " ++ name) (both (codes " read ") name (key_clean (codes " read ") refl) (name_clean name h.1))
call_clean (call.Write txn number name value) h =
    numbered_clean txn number h.0 (codes " write " ++ (name ++ 32 ∷ value)) (both (codes " write ") (name ++ 32 ∷ value) (key_clean (codes " write ") refl) (both name (32 ∷ value) (name_clean name h.1) (λ e. omega arith, value_clean value h.2)))
call_clean (call.Delete txn number name) h = numbered_clean txn number h.0 (codes " delete " ++ name) (both (codes " delete ") name (key_clean (codes " delete ") refl) (name_clean name h.1))
call_clean (call.Weigh txn number name table) h =
    numbered_clean txn number h.0 (codes " weigh " ++ (name ++ table_text table)) (both (codes " weigh ") (name ++ table_text table) (key_clean (codes " weigh ") refl) (both name (table_text table) (name_clean name h.1) (shares_clean 0 table h.2.shares_are)))
call_clean (call.Commit txn number) h = numbered_clean txn number h (codes " commit") (key_clean (codes " commit") refl)
call_clean (call.Abort txn number) h = numbered_clean txn number h (codes " abort") (key_clean (codes " abort") refl)

-- ---- events

site_clean : (sites : List ℕ) → AllSites sites → (site : ℕ) → IsListed sites site → HasNoNewline (decimal site)
site_clean sites all site h = decimal_clean site (omega (arith, (site_range sites site all h).1))

word_site_clean : (sites : List ℕ) → AllSites sites → (word : List ℕ) → clean word ≡ true → (site : ℕ) → IsListed sites site → HasNoNewline (word ++ decimal site)
word_site_clean sites all word e site h = both word (decimal site) (key_clean word e) (site_clean sites all site h)

pair_clean : (sites : List ℕ) → AllSites sites → (word : List ℕ) → clean word ≡ true → (a b : ℕ) → IsListed sites a → IsListed sites b → HasNoNewline (word ++ (decimal a ++ 32 ∷ decimal b))
pair_clean sites all word e a b h k = both word (decimal a ++ 32 ∷ decimal b) (key_clean word e) (both (decimal a) (32 ∷ decimal b) (site_clean sites all a h) (λ same. omega arith, site_clean sites all b k))

event_clean : (sites : List ℕ) → AllSites sites → (e : Event) → IsEvent sites e → HasNoNewline (event_text e)
event_clean sites all (event.Call site words) h =
    both (codes "call ") (decimal site ++ 32 ∷ call_text words) (key_clean (codes "call ") refl) (both (decimal site) (32 ∷ call_text words) (site_clean sites all site h.0) (λ same. omega arith, call_clean words h.1))
event_clean sites all (event.Deliver k) h = both (codes "deliver ") (decimal k) (key_clean (codes "deliver ") refl) (decimal_clean k (omega (arith, h.1)))
event_clean sites all (event.Flow count) h = both (codes "flow ") (decimal count) (key_clean (codes "flow ") refl) (decimal_clean count (omega (arith, h.1)))
event_clean sites all (event.Tick site) h = word_site_clean sites all (codes "tick ") refl site h
event_clean sites all (event.Probe site) h = word_site_clean sites all (codes "probe ") refl site h
event_clean sites all (event.Cut a b) h = pair_clean sites all (codes "cut ") refl a b h.0 h.1
event_clean sites all (event.Heal a b) h = pair_clean sites all (codes "heal ") refl a b h.0 h.1
event_clean sites all (event.Crash site) h = word_site_clean sites all (codes "crash ") refl site h
event_clean sites all (event.Restart site) h = word_site_clean sites all (codes "restart ") refl site h

pub event_is_line : (sites : List ℕ) → AllSites sites → (e : Event) → IsEvent sites e → IsLine (event_text e ++ 10 ∷ [])
event_is_line sites all e h = line_push (event_text e) (10 ∷ []) (event_clean sites all e h) last_line

pub event_goes : (sites : List ℕ) → AllSites sites → GoesOn in_line (IsEventText sites)
event_goes sites all = λ a a2 text x r before longer.
    let other = all_at (λ c. c ≡ 10 → ⊥) text x r (subst HasNoNewline (sym longer.is) (event_clean sites all a2 longer.allowed)) in
    rw (ne_eqb x 10 other) refl
