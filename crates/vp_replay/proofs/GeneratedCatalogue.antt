-- The generator's catalogue is a catalogue, and its names and values are in their grammar.
use Rattle.std.proofs.Common.{◌≡◌, ◌∙◌, ap, sym, subst, refl, arith, ℕ, zero, suc, ◌+◌, ◌<◌, ◌≤◌, ◌/◌, ◌%◌, true, List, [], ◌∷◌, ◌++◌, length, map, ⊎_elim}
use Rattle.std.specs.Prelude.{codes, get_or, Result, Ok, Err, ◌≢◌}
use Rattle.std.proofs.Math.ListN.{get_or-append, length-append}
use Rattle.std.proofs.Math.Seq.{get_or-append_seam}
use Rattle.std.proofs.lemmas.List.{map-append, length-map}
use Rattle.std.proofs.lemmas.Bool.{cases_lt}
use Rattle.std.proofs.lemmas.Cmp.{nat_eq_equiv, nat_list_eq_equiv}
use Rattle.std.proofs.lemmas.Map.Made.{IsDistinct-from_count}
use Rattle.std.specs.List.{AllByRecursion}
use Rattle.std.specs.Fmt.{decimal, digits}
use Rattle.std.proofs.lemmas.Fmt.{AppendsLastDigit, decimal_from_appends, decimal_nonempty, length-decimal-le}
use Rattle.std.proofs.lemmas.Bool.Decides.{nat_tests}
use Rattle.vp_text.specs.Classes.{has}
use Rattle.vp_text.specs.declared.class.Class.TheVariants as classes
use Rattle.vp_text.proofs.Items.{all_append, all_each}
use Rattle.vp_text.proofs.Numbers.{IsDigit, decimal_digits}
use Rattle.vp_base.specs.Words.{IsName, IsValue}
use Rattle.vp_model.specs.Words.{put_number}
use Rattle.vp_model.specs.Words.{has as has_site}
use Rattle.vp_model.specs.Catalogue.{Catalogue, RecordEntry, sites_of}
use Rattle.vp_model.specs.Texts.Schedule.{catalogue_text}
use Rattle.vp_model.specs.Generated.{digits_of, decimal_of, numbers_below, generated_name, generated_record, generated_catalogue}
use Rattle.vp_catalog.specs.Entries.{IsSite, IsRecord, IsWeight, AreWeights}
use Rattle.vp_catalog.specs.Document.{AreSites, IsCatalogue, IsOnly}
use Rattle.vp_catalog.specs.declared.fault.CatalogFault.{CatalogFault}
use Rattle.vp_catalog.specs.declared.fault.CatalogFault.TheVariants as faults

-- ---- numbers

digits_append : AppendsLastDigit digits_of
digits_append = record { one = one; more = more }
  where
    one : (k n : ℕ) → n < 10 → digits_of (suc k) n ≡ (48 + n) ∷ []
    one k n lt = grind (arith, nat_tests, lt)

    more : (k n : ℕ) → 10 ≤ n → digits_of (suc k) n ≡ digits_of k (n / 10) ++ ((48 + n % 10) ∷ [])
    more k n le = grind (arith, nat_tests, le)

pub decimal_is : (n : ℕ) → n < 10000 → decimal_of n ≡ decimal n
decimal_is n lt = decimal_from_appends digits_of digits_append 4 n (omega arith) (length-decimal-le 4 n (omega arith) (omega arith) (omega arith))

digit_names : (c : ℕ) → IsDigit c → has classes.Name c ≡ true
digit_names c h = grind (arith, nat_tests, h)

digit_values : (c : ℕ) → IsDigit c → has classes.Value c ≡ true
digit_values c h = grind (arith, nat_tests, h)

pub number_is_value : (n : ℕ) → n < 1000 → IsValue (decimal_of n) (decimal_of n)
number_is_value n lt =
    rw (decimal_is n (omega arith))
    (record {
      is = refl;
      some = decimal_nonempty n (omega arith);
      short = let few = length-decimal-le 3 n (omega arith) (omega arith) (omega arith) in omega (arith, few);
      each = all_each IsDigit (λ c. has classes.Value c ≡ true) digit_values (decimal n) (decimal_digits n (omega arith));
    })

pub name_is : (i : ℕ) → i < 1000 → IsName (generated_name i) (generated_name i)
name_is i lt =
    rw (decimal_is i (omega arith))
    (record {
      is = refl;
      some = omega arith;
      short = let few = length-decimal-le 3 i (omega arith) (omega arith) (omega arith) in omega (arith, few);
      each = (refl, all_each IsDigit (λ c. has classes.Name c ≡ true) digit_names (decimal i) (decimal_digits i (omega arith)));
    })

-- ---- records

numbers_length : (n : ℕ) → length (numbers_below n) ≡ n
numbers_length zero = refl
numbers_length (suc n) = length-append (numbers_below n) (n ∷ []) ∙ ap (λ k. k + 1) (numbers_length n) ∙ omega arith

-- what is made of the numbers below n is made of i at the index i
pub made_at : {A : Type 0} (f : ℕ → A) (n i : ℕ) (d : A) → i < n → get_or (map f (numbers_below n)) i d ≡ f i
made_at f zero i d lt = absurd (omega (arith, lt))
made_at {A} f (suc n) i d lt =
    ap (λ (xs : List A). get_or xs i d) (map-append f (numbers_below n) (n ∷ []))
    ∙ ⊎_elim (λ less. get_or-append front (f n ∷ []) d i (rw count less) ∙ made_at f n i d less) (λ le. last (omega (arith, le, lt))) (cases_lt i n)
  where
    front : List A
    front = map f (numbers_below n)

    count : length front ≡ n
    count = length-map (numbers_below n) f ∙ numbers_length n

    last : i ≡ n → get_or (front ++ f n ∷ []) i d ≡ f i
    last same = ap (λ k. get_or (front ++ f n ∷ []) k d) (same ∙ sym count) ∙ get_or-append_seam front (f n) [] d ∙ ap f (sym same)

all_made : {A : Type 0} (P : A → Type 0) (f : ℕ → A) (n : ℕ) → ((i : ℕ) → i < n → P (f i)) → AllByRecursion P (map f (numbers_below n))
all_made P f zero each = tt
all_made P f (suc n) each =
    subst (AllByRecursion P) (sym (map-append f (numbers_below n) (n ∷ [])))
    (all_append P (map f (numbers_below n)) (f n ∷ []) (all_made P f n (λ i lt. each i (omega (arith, lt)))) (each n (omega arith), tt))

abbrev five : List ℕ
five = sites_of generated_catalogue

-- the sites of a record by the remainders of its number and the next two
abbrev holders_at : ℕ → ℕ → ℕ → List (ℕ × ℕ)
holders_at a b c = map (λ (site : ℕ). (site, 1)) (put_number (a + 1) (put_number (b + 1) (put_number (c + 1) [])))

pub record AreHolders (weights : List (ℕ × ℕ)) : Type 0 where
  pub some : 0 < length weights
  pub are : AreWeights five 0 weights

holder : (site above : ℕ) → has_site five site ≡ true → above < site → IsWeight five above (site, 1)
holder site above stands higher = record { stands = stands; higher = higher; some = omega arith; fits = omega arith }

three : (a b c : ℕ) → 0 < a → a < b → b < c → has_site five a ≡ true → has_site five b ≡ true → has_site five c ≡ true → AreHolders ((a, 1) ∷ (b, 1) ∷ (c, 1) ∷ [])
three a b c some ab bc x y z = record { some = omega arith; are = (holder a 0 x some, (holder b a y ab, (holder c b z bc, tt))) }

holders_are : (r : ℕ) → r < 5 → AreHolders (holders_at r ((r + 1) % 5) ((r + 2) % 5))
holders_are zero lt = three 1 2 3 (omega arith) (omega arith) (omega arith) refl refl refl
holders_are (suc zero) lt = three 2 3 4 (omega arith) (omega arith) (omega arith) refl refl refl
holders_are (suc (suc zero)) lt = three 3 4 5 (omega arith) (omega arith) (omega arith) refl refl refl
holders_are (suc (suc (suc zero))) lt = three 1 4 5 (omega arith) (omega arith) (omega arith) refl refl refl
holders_are (suc (suc (suc (suc zero)))) lt = three 1 2 5 (omega arith) (omega arith) (omega arith) refl refl refl
holders_are (suc (suc (suc (suc (suc r))))) lt = absurd (omega (arith, lt))

record_is : (i : ℕ) → i < 40 → IsRecord five (generated_record i)
record_is i lt =
    let next : (i + 1) % 5 ≡ (i % 5 + 1) % 5 = omega arith in
    let after : (i + 2) % 5 ≡ (i % 5 + 2) % 5 = omega arith in
    let h : AreHolders (holders_at (i % 5) ((i + 1) % 5) ((i + 2) % 5)) = rw (next, after) (holders_are (i % 5) (omega arith)) in
    record {
      name_is = name_is i (omega (arith, lt));
      start_is = record { is = refl; some = omega arith; short = omega arith; each = (refl, (refl, (refl, tt))) };
      held = h.some;
      weights_are = h.are;
    }

site : (above number port : ℕ) → above < number → number ≤ 16 → 1 ≤ port → port ≤ 65535 → IsSite above (number, port)
site above number port higher fits some port_fits = record { higher = higher; fits = fits; port_some = some; port_fits = port_fits }

sites_are : AreSites 0 generated_catalogue.sites
sites_are = (
  site 0 1 7001 (omega arith) (omega arith) (omega arith) (omega arith),
  (
    site 1 2 7002 (omega arith) (omega arith) (omega arith) (omega arith),
    (
      site 2 3 7003 (omega arith) (omega arith) (omega arith) (omega arith),
      (
        site 3 4 7004 (omega arith) (omega arith) (omega arith) (omega arith),
        (site 4 5 7005 (omega arith) (omega arith) (omega arith) (omega arith), tt),
      ),
    ),
  ),
)

pub generated_is : IsCatalogue generated_catalogue
generated_is = record {
  some = omega arith;
  so_far = record {
    sites_are = sites_are;
    ports_differ = IsDistinct-from_count nat_eq_equiv (map (λ (s : ℕ × ℕ). s.1) generated_catalogue.sites) refl;
    records_are = all_made (IsRecord five) generated_record 40 record_is;
    names_differ = IsDistinct-from_count nat_list_eq_equiv (map (λ (entry : RecordEntry). entry.name) generated_catalogue.records) refl;
    few = omega arith;
  };
}

-- ---- the text

pub generated_text : (text : List ℕ) → text ≡ codes "site 1 7001\nsite 2 7002\nsite 3 7003\nsite 4 7004\nsite 5 7005\nrecord r0 100 1:1 2:1 3:1\nrecord r1 100 2:1 3:1 4:1\nrecord r2 100 3:1 4:1 5:1\nrecord r3 100 1:1 4:1 5:1\nrecord r4 100 1:1 2:1 5:1\nrecord r5 100 1:1 2:1 3:1\nrecord r6 100 2:1 3:1 4:1\nrecord r7 100 3:1 4:1 5:1\nrecord r8 100 1:1 4:1 5:1\nrecord r9 100 1:1 2:1 5:1\nrecord r10 100 1:1 2:1 3:1\nrecord r11 100 2:1 3:1 4:1\nrecord r12 100 3:1 4:1 5:1\nrecord r13 100 1:1 4:1 5:1\nrecord r14 100 1:1 2:1 5:1\nrecord r15 100 1:1 2:1 3:1\nrecord r16 100 2:1 3:1 4:1\nrecord r17 100 3:1 4:1 5:1\nrecord r18 100 1:1 4:1 5:1\nrecord r19 100 1:1 2:1 5:1\nrecord r20 100 1:1 2:1 3:1\nrecord r21 100 2:1 3:1 4:1\nrecord r22 100 3:1 4:1 5:1\nrecord r23 100 1:1 4:1 5:1\nrecord r24 100 1:1 2:1 5:1\nrecord r25 100 1:1 2:1 3:1\nrecord r26 100 2:1 3:1 4:1\nrecord r27 100 3:1 4:1 5:1\nrecord r28 100 1:1 4:1 5:1\nrecord r29 100 1:1 2:1 5:1\nrecord r30 100 1:1 2:1 3:1\nrecord r31 100 2:1 3:1 4:1\nrecord r32 100 3:1 4:1 5:1\nrecord r33 100 1:1 4:1 5:1\nrecord r34 100 1:1 2:1 5:1\nrecord r35 100 1:1 2:1 3:1\nrecord r36 100 2:1 3:1 4:1\nrecord r37 100 3:1 4:1 5:1\nrecord r38 100 1:1 4:1 5:1\nrecord r39 100 1:1 2:1 5:1\n" → catalogue_text generated_catalogue ≡ text
unfolding digits
generated_text text e = sym e

module _ (text : List ℕ) (result : Result Catalogue CatalogFault) (is : catalogue_text generated_catalogue ≡ text) (only : IsOnly text result) where
  -- the result of reading its text is the catalogue, and no fault
  pub read_so : (c : Catalogue) → result ≡ Ok c → c ≡ generated_catalogue
  read_so c e = let same = only (Ok generated_catalogue) (generated_is, is) (λ bad. cc) (λ bad. cc) in cc

  pub no_fault : (fault : CatalogFault) → result ≡ Err fault → fault ≢ faults.NoMemory → ⊥
  no_fault fault e other = let same = only (Ok generated_catalogue) (generated_is, is) (λ bad. other (let f : Err fault ≡ Err faults.NoMemory = sym e ∙ bad in cc)) (λ bad. cc) in cc
