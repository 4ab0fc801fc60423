-- Reading tables of weights from left to right. Nothing ends a table: it goes on where a space comes and a site is left.
use Rattle.std.specs.Prelude.{ℕ, zero, suc, ◌+◌, List, [], ◌∷◌, Bool, false, ◌==◌, ◌&&◌, nat_lt, if◌then◌else◌, Result, Ok}
use Rattle.vp_text.specs.Reading.{◌>>=◌, literal_at, number_at}

-- a site above the given one, and the weight of its copy
unfoldable pub share_at : ℕ → List ℕ → Result ((ℕ × ℕ) × List ℕ) ℕ
share_at above bytes = do
  space ← literal_at (32 ∷ []) bytes
  site ← number_at (above + 1) 16 space.1
  colon ← literal_at (58 ∷ []) site.1
  weight ← number_at 1 65535 colon.1
  Ok ((site.0, weight.0), weight.1)

abbrev pub begins_space : List ℕ → Bool
begins_space [] = false
begins_space (c ∷ cs) = c == 32

-- another weight has to come
abbrev pub goes_on : ℕ → List ℕ → Bool
goes_on above bytes = nat_lt above 16 && begins_space bytes

abbrev pub with_first : ℕ × ℕ → Result (List (ℕ × ℕ) × List ℕ) ℕ → Result (List (ℕ × ℕ) × List ℕ) ℕ
with_first share others = others >>= λ shares. Ok (share ∷ shares.0, shares.1)

-- the weights at sites above the given one, of which at most n are left
unfoldable pub shares_at : ℕ → ℕ → List ℕ → Result (List (ℕ × ℕ) × List ℕ) ℕ
shares_at zero above bytes = Ok ([], bytes)
shares_at (suc n) above bytes =
    if goes_on above bytes
    then (share_at above bytes >>= λ share. with_first share.0 (shares_at n share.0.0 share.1))
    else Ok ([], bytes)

unfoldable pub table_at : List ℕ → Result (List (ℕ × ℕ) × List ℕ) ℕ
table_at bytes = share_at 0 bytes >>= λ share. with_first share.0 (shares_at 16 share.0.0 share.1)
