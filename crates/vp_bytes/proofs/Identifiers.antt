-- Views and transactions are read exactly.
use Rattle.std.proofs.Common.{length, ◌≡◌, ℕ, ◌^◌, ◌≤◌, ◌<◌, Bool, true, false, cond, eqb, List, [], ◌∷◌, ◌++◌, refl, sym, subst, ◌∙◌, ap, arith, inl, inr, nat_le}
use Rattle.std.proofs.lemmas.Bool.{cases_eq, eq-eqb, ne_eqb, and_from, and_parts, le-leb, leb-true}
use Rattle.byteorder.specs.Endian.{big_bytes}
use Rattle.vp_text.proofs.Exact.{Exact, Then, Made, made_exact, exact_as}
use Rattle.vp_base.specs.declared.ids.ViewId.{ViewId}
use Rattle.vp_base.specs.declared.ids.TxnId.{TxnId}
use Rattle.vp_base.specs.Identifiers.{IsView}
use Rattle.vp_base.specs.Reading.{view_of, txn_of, least_site, most_site}
use Rattle.vp_base.proofs.Views.{view_sites}
use Rattle.vp_bytes.specs.Fields.{number_bytes, view_bytes, txn_bytes, IsViewBytes, IsTxnBytes, IsNumberedBytes}
use Rattle.vp_bytes.specs.Reading.{byte_at, within, u64_at, u32_at, some_u32_at, view_at, txn_at, numbered_at}
use Rattle.vp_bytes.proofs.Free.{IsFree, IsByteOf, even_free, byte_free, byte_exact, free_then}
use Rattle.vp_bytes.proofs.NumberBytes.{IsNumberBytes, number_exact, number_free}

pub u64_exact : Exact (IsNumberBytes false 8) u64_at
unfolding u64_at
u64_exact = number_exact false 8 (omega arith)

pub u32_exact : Exact (IsNumberBytes false 4) u32_at
unfolding u32_at
u32_exact = number_exact false 4 (omega arith)

pub some_u32_exact : Exact (IsNumberBytes true 4) some_u32_at
unfolding some_u32_at
some_u32_exact = number_exact true 4 (omega arith)

-- a byte from least to most, where there is one
pub within_exact : (least most : ℕ) → least ≤ most → Exact (IsByteOf (within least most)) (byte_at (within least most))
within_exact least most some = byte_exact (within least most) least (and_from (nat_le least least) (nat_le least most) (le-leb least least (omega arith)) (le-leb least most some))

pub within_from : (least most c : ℕ) → least ≤ c → c ≤ most → within least most c ≡ true
within_from least most c above below = and_from (nat_le least c) (nat_le c most) (le-leb least c above) (le-leb c most below)

pub within_to : (least most c : ℕ) → within least most c ≡ true → (least ≤ c) × (c ≤ most)
within_to least most c h = let w = and_parts (nat_le least c) (nat_le c most) h in (leb-true least c w.0, leb-true c most w.1)

pub number_spelled : (n x : ℕ) → number_bytes n x ≡ big_bytes n x
unfolding number_bytes
number_spelled n x = refl

-- ---- views

view_spelled : (v : ViewId) → view_bytes v ≡ number_bytes 8 v.number ++ v.site ∷ []
unfolding view_bytes
view_spelled v = refl

abbrev ViewParts : ViewId → List ℕ → Type 0
ViewParts = Then (IsNumberBytes false 8) (λ number. Made (IsByteOf (within (least_site number) (most_site number))) (view_of number))

site_range : (number : ℕ) → least_site number ≤ most_site number
site_range number =
    let f : (b : Bool) → cond b 0 1 ≤ cond b 0 16 = λ b. elim b as (λ b. cond b 0 1 ≤ cond b 0 16) [ true ↦ omega arith | false ↦ omega arith ] in
    f (eqb number 0)

view_allowed : (number site : ℕ) → number < 2 ^ 64 → least_site number ≤ site → site ≤ most_site number → IsView (view_of number site)
view_allowed number site fits above below =
    elim (cases_eq number 0) [
      | inl none ↦
          let b : eqb number 0 ≡ true = eq-eqb number 0 none in
          let below : site ≤ 0 = (rw b at below) in
          record { number_fits = fits; site_fits = omega arith; opening = λ e. omega arith; made = λ e. absurd (omega arith) }
      | inr some ↦
          let b : eqb number 0 ≡ false = ne_eqb number 0 some in
          let above : 1 ≤ site = (rw b at above) in
          let below : site ≤ 16 = (rw b at below) in
          record { number_fits = fits; site_fits = omega arith; opening = λ e. absurd (some e); made = λ e. above }
    ]

view_to : (v : ViewId) (t : List ℕ) → ViewParts v t → IsViewBytes v t
view_to v t h =
    let n = h.before in
    let s = h.after in
    let sites = within_to (least_site h.first) (most_site h.first) s.from s.spelled.admitted in
    subst (λ (v : ViewId). IsViewBytes v t) (sym s.is) (record {
      is = rw (view_spelled (view_of h.first s.from), number_spelled 8 h.first, h.parts, n.is, s.spelled.is) refl;
      allowed = view_allowed h.first s.from n.fits sites.0 sites.1;
    })

view_from : (v : ViewId) (t : List ℕ) → IsViewBytes v t → ViewParts v t
view_from v t h =
    let sites = view_sites v.number v.site h.allowed in
    record {
      first = v.number;
      front = big_bytes 8 v.number;
      back = v.site ∷ [];
      before = record { is = refl; fits = h.allowed.number_fits; above = λ s. cc };
      after = record { from = v.site; spelled = record { is = refl; admitted = within_from (least_site v.number) (most_site v.number) v.site sites.0 sites.1 }; is = refl };
      parts = h.is ∙ view_spelled v ∙ ap (λ (b : List ℕ). b ++ v.site ∷ []) (number_spelled 8 v.number);
    }

pub view_exact : Exact IsViewBytes view_at
unfolding view_at
view_exact = exact_as view_to view_from (free_then (number_free false 8) u64_exact (λ number. made_exact (view_of number) (within_exact (least_site number) (most_site number) (site_range number))))

-- ---- transactions

pub txn_spelled : (t : TxnId) → txn_bytes t ≡ t.site ∷ (number_bytes 4 t.life ++ number_bytes 4 t.seq)
unfolding txn_bytes
txn_spelled t = refl

abbrev TxnParts : TxnId → List ℕ → Type 0
TxnParts = Then (IsByteOf (within 1 16)) (λ site. Then (IsNumberBytes true 4) (λ life. Made (IsNumberBytes true 4) (txn_of site life)))

txn_to : (v : TxnId) (t : List ℕ) → TxnParts v t → IsTxnBytes v t
txn_to v t h =
    let site = h.before in
    let life = h.after.before in
    let seq = h.after.after in
    let range = within_to 1 16 h.first site.admitted in
    subst (λ (v : TxnId). IsTxnBytes v t) (sym seq.is) (record {
      is = rw (txn_spelled (txn_of h.first h.after.first seq.from), number_spelled 4 h.after.first, number_spelled 4 seq.from, h.parts, site.is, h.after.parts, life.is, seq.spelled.is) refl;
      allowed = record { site_some = range.0; site_fits = range.1; life_some = life.above refl; life_fits = life.fits; seq_some = seq.spelled.above refl; seq_fits = seq.spelled.fits };
    })

txn_from : (v : TxnId) (t : List ℕ) → IsTxnBytes v t → TxnParts v t
txn_from v t h =
    let a = h.allowed in
    record {
      first = v.site;
      front = v.site ∷ [];
      back = big_bytes 4 v.life ++ big_bytes 4 v.seq;
      before = record { is = refl; admitted = within_from 1 16 v.site a.site_some a.site_fits };
      after = record {
        first = v.life;
        front = big_bytes 4 v.life;
        back = big_bytes 4 v.seq;
        before = record { is = refl; fits = a.life_fits; above = λ s. a.life_some };
        after = record { from = v.seq; spelled = record { is = refl; fits = a.seq_fits; above = λ s. a.seq_some }; is = refl };
        parts = refl;
      };
      parts = h.is ∙ txn_spelled v ∙ rw (number_spelled 4 v.life, number_spelled 4 v.seq) refl;
    }

pub txn_exact : Exact IsTxnBytes txn_at
unfolding txn_at
txn_exact = exact_as txn_to txn_from (free_then byte_free (within_exact 1 16 (omega arith)) (λ site. free_then (number_free true 4) some_u32_exact (λ life. made_exact (txn_of site life) some_u32_exact)))

txn_even : (v : TxnId) (t : List ℕ) → IsTxnBytes v t → length t ≡ 9
txn_even v t h =
    let spread : v.site ∷ (number_bytes 4 v.life ++ number_bytes 4 v.seq) ≡ v.site ∷ (big_bytes 4 v.life ++ big_bytes 4 v.seq) = rw (number_spelled 4 v.life, number_spelled 4 v.seq) refl in
    let whole : t ≡ v.site ∷ (big_bytes 4 v.life ++ big_bytes 4 v.seq) = h.is ∙ txn_spelled v ∙ spread in
    ap length whole

pub txn_free : IsFree IsTxnBytes
txn_free = even_free {L = IsTxnBytes} 9 txn_even

-- ---- a transaction and the number of a call

abbrev NumberedParts : TxnId × ℕ → List ℕ → Type 0
NumberedParts = Then IsTxnBytes (λ txn. Made (IsNumberBytes true 4) (λ number. (txn, number)))

numbered_to : (v : TxnId × ℕ) (t : List ℕ) → NumberedParts v t → IsNumberedBytes v t
numbered_to v t h =
    let number = h.after in
    subst (λ (v : TxnId × ℕ). IsNumberedBytes v t) (sym number.is) (record {
      is = rw (h.parts, h.before.is, number.spelled.is, number_spelled 4 number.from) refl;
      allowed = record { txn_is = h.before.allowed; some = number.spelled.above refl; fits = number.spelled.fits };
    })

numbered_from : (v : TxnId × ℕ) (t : List ℕ) → IsNumberedBytes v t → NumberedParts v t
numbered_from v t h = record {
  first = v.0;
  front = txn_bytes v.0;
  back = number_bytes 4 v.1;
  before = record { is = refl; allowed = h.allowed.txn_is };
  after = record { from = v.1; spelled = record { is = number_spelled 4 v.1; fits = h.allowed.fits; above = λ s. h.allowed.some }; is = refl };
  parts = h.is;
}

pub numbered_exact : Exact IsNumberedBytes numbered_at
unfolding numbered_at
numbered_exact = exact_as numbered_to numbered_from (free_then txn_free txn_exact (λ txn. made_exact (λ number. (txn, number)) some_u32_exact))
