-- Items one after the other, up to the end of the bytes, are read exactly: where no list of items has these bytes, the place of the
-- fault is that of the fault in the item that can't be read.
use Rattle.std.proofs.Common.{◌≡◌, ℕ, zero, suc, ◌+◌, ◌-◌, ◌≤◌, ◌<◌, List, [], ◌∷◌, ◌++◌, length, take, Result, Ok, Err, refl, sym, ap, subst, ◌∙◌, append_assoc, arith, inl, inr}
use Rattle.std.proofs.lemmas.List.{append-nil, length-append}
use Rattle.std.proofs.lemmas.Bool.{cases_lt}
use Rattle.std.proofs.Math.Seq.{take-append-add, take-append_seam}
use Rattle.std.specs.List.{AllByRecursion, flat_map}
use Rattle.vp_text.specs.Meaning.{Begins, IsLongest, IsRefused}
use Rattle.vp_text.specs.Reading.{◌>>=◌}
use Rattle.vp_text.proofs.Exact.{Apart, Parts, IsFault, Exact, cut, bind_ok, bind_err, ok_value, one_value, done}
use Rattle.vp_text.proofs.Repeats.{regroup, with_front}
use Rattle.vp_bytes.specs.Fields.{Spelled}
use Rattle.vp_bytes.proofs.Free.{IsFree}
use Rattle.vp_records.specs.Reading.{each_at}

-- ---- facts on lists

goes_on : (r more : List ℕ) → Parts r (r ++ more) → ⊥
goes_on [] more h = h
goes_on (c ∷ r) more h = h refl

apart_on : (r more rest : List ℕ) → Parts r rest → Apart (r ++ more) rest
apart_on [] more rest h = absurd h
apart_on (x ∷ r) more [] h = tt
apart_on (x ∷ r) more (c ∷ rest) h = h

nothing_front : (a b : List ℕ) → [] ≡ a ++ b → b ≡ []
nothing_front [] b e = sym e
nothing_front (x ∷ a) b e = absurd cc

module _ {X : Type 0} (f : X → List ℕ) (F : X → Type 0) (item : List ℕ → Result (X × List ℕ) ℕ) where
  abbrev pub Each : List X → List ℕ → Type 0
  Each = Spelled (flat_map f) (AllByRecursion F)

  -- what must hold of the items
  pub record Items : Type 0 where
    pub exact : Exact (Spelled f F) item
    pub free : IsFree (Spelled f F)
    pub some : (x : X) → 0 < length (f x)

  one : (x : X) → F x → Spelled f F x (f x)
  one x a = record { is = refl; allowed = a }

  -- bytes that begin with an item begin with no other item
  first_same : Items → (x y : X) (s t : List ℕ) → F x → F y → f x ++ s ≡ f y ++ t → (x ≡ y) × (s ≡ t)
  first_same w x y s t a b e =
      elim (cut (f x) s (f y) t e) [
        | inl k ↦
            let g : (r : List ℕ) → f y ≡ f x ++ r → s ≡ r ++ t → (x ≡ y) × (s ≡ t) = λ r. elim r as (λ r. f y ≡ f x ++ r → s ≡ r ++ t → (x ≡ y) × (s ≡ t)) [
              | [] ↦ λ same rest. (one_value w.exact x y (f x) (one x a) (record { is = sym (append-nil (f x)) ∙ sym same; allowed = b }), rest)
              | c ∷ r ↦ λ same rest. absurd (w.free x y (f x) c r (one x a) (record { is = sym same; allowed = b }))
            ] in
            g k.0 k.1 k.2
        | inr k ↦ absurd (w.free y x (f y) k.0 k.1 (one y b) (record { is = sym k.2; allowed = a }))
      ]

  -- only one list has its bytes
  pub one_list : Items → (xs ys : List X) → AllByRecursion F xs → AllByRecursion F ys → flat_map f xs ≡ flat_map f ys → xs ≡ ys
  one_list w [] [] a b e = refl
  one_list w [] (y ∷ ys) a b e = absurd (omega (arith, w.some y, ap length e, length-append (f y) (flat_map f ys)))
  one_list w (x ∷ xs) [] a b e = absurd (omega (arith, w.some x, ap length e, length-append (f x) (flat_map f xs)))
  one_list w (x ∷ xs) (y ∷ ys) a b e =
      let k = first_same w x y (flat_map f xs) (flat_map f ys) a.0 b.0 e in
      rw (k.0, one_list w xs ys a.1 b.1 k.1) refl

  -- an item has at least one byte
  pub shorter : Items → (bytes : List ℕ) (x : X) (mid : List ℕ) → item bytes ≡ Ok (x, mid) → length mid < length bytes
  shorter w bytes x mid h =
      let p = w.exact.ok bytes x mid h in
      omega (arith, ap length p.parts, length-append p.text mid, ap length p.spelled.is, w.some x)

  -- ---- a fault

  -- The bytes before the rest begin a list of items, and no such list goes on as the rest does; and the bytes as a whole are no
  -- list of items.
  pub record Stops (bytes : List ℕ) (left : ℕ) : Type 0 where
    pub front : List ℕ
    pub rest : List ℕ
    pub parts : bytes ≡ front ++ rest
    pub left_is : length rest ≡ left
    pub begins : Begins Each front
    pub apart : (xs : List X) (r : List ℕ) → Each xs (front ++ r) → Apart r rest
    pub none : (xs : List X) → Each xs bytes → ⊥

  -- no longer beginning of the bytes begins a list
  longest : (bytes : List ℕ) (left : ℕ) (p : Stops bytes left) (n : ℕ) → n ≤ length bytes → Begins Each (take n bytes) → n ≤ length p.front
  longest bytes left p n le b =
      elim (cases_lt (length p.front) n) [
        | inl lt ↦
            let g : (rest : List ℕ) → p.rest ≡ rest → n ≤ length p.front = λ rest. elim rest as (λ rest. p.rest ≡ rest → n ≤ length p.front) [
              | [] ↦ λ e. omega (arith, le, ap length p.parts, length-append p.front p.rest, ap length e)
              | c ∷ cs ↦ λ e.
                  let k = n - suc (length p.front) in
                  let at : n ≡ length p.front + suc k = omega (arith, lt) in
                  let prefix : take n bytes ≡ p.front ++ c ∷ take k cs = ap (λ (m : ℕ). take m bytes) at ∙ ap (take (length p.front + suc k)) (p.parts ∙ ap (λ (x : List ℕ). p.front ++ x) e) ∙ take-append-add p.front (c ∷ cs) (suc k) in
                  let text : Each b.value (p.front ++ c ∷ (take k cs ++ b.more)) = subst (λ (x : List ℕ). Each b.value x) (ap (λ (x : List ℕ). x ++ b.more) prefix ∙ append_assoc p.front (c ∷ take k cs) b.more) b.spelled in
                  absurd (subst (Apart (c ∷ (take k cs ++ b.more))) e (p.apart b.value (c ∷ (take k cs ++ b.more)) text) refl)
            ] in
            g p.rest refl
        | inr le ↦ le
      ]

  pub stops_refused : (bytes : List ℕ) (left : ℕ) → Stops bytes left → (left ≤ length bytes) × IsRefused Each bytes (length bytes - left)
  stops_refused bytes left p =
      let size : length bytes ≡ length p.front + length p.rest = ap length p.parts ∙ length-append p.front p.rest in
      let at : length p.front ≡ length bytes - left = omega (arith, size, p.left_is) in
      let front : take (length p.front) bytes ≡ p.front = ap (take (length p.front)) p.parts ∙ take-append_seam p.front p.rest in
      let whole : IsLongest Each bytes (length p.front) = record { within = omega (arith, size); begins = subst (Begins Each) (sym front) p.begins; longest = λ n le b. longest bytes left p n le b } in
      (omega (arith, size, p.left_is), record { none = p.none; longest = subst (IsLongest Each bytes) at whole })

  -- ---- an item that can't be read

  never_first : Items → (bytes : List ℕ) (left : ℕ) (p : IsFault (Spelled f F) bytes left) (y : X) (c : ℕ) (s : List ℕ) → F y → p.front ≡ f y ++ c ∷ s → ⊥
  never_first w bytes left p y c s a e =
      let text : Spelled f F p.begins.value (f y ++ c ∷ (s ++ p.begins.more)) = subst (λ (x : List ℕ). Spelled f F p.begins.value x) (ap (λ (x : List ℕ). x ++ p.begins.more) e ∙ append_assoc (f y) (c ∷ s) p.begins.more) p.begins.spelled in
      w.free y p.begins.value (f y) c (s ++ p.begins.more) (one y a) text

  fault_apart : Items → (bytes : List ℕ) (left : ℕ) (p : IsFault (Spelled f F) bytes left) (xs : List X) (r : List ℕ) → Each xs (p.front ++ r) → Apart r p.rest
  fault_apart w bytes left p [] r h = subst (λ (x : List ℕ). Apart x p.rest) (sym (nothing_front p.front r (sym h.is))) tt
  fault_apart w bytes left p (y ∷ ys) r h =
      elim (cut p.front r (f y) (flat_map f ys) h.is) [
        | inl k ↦ subst (λ (x : List ℕ). Apart x p.rest) (sym k.2) (apart_on k.0 (flat_map f ys) p.rest (p.diverges y k.0 (record { is = sym k.1; allowed = h.allowed.0 })))
        | inr k ↦ absurd (never_first w bytes left p y k.0 k.1 h.allowed.0 k.2)
      ]

  fault_none : Items → (bytes : List ℕ) (left : ℕ) → IsFault (Spelled f F) bytes left → 0 < length bytes → (xs : List X) → Each xs bytes → ⊥
  fault_none w bytes left p some [] h = omega (arith, some, ap length h.is)
  fault_none w bytes left p some (y ∷ ys) h =
      elim (cut p.front p.rest (f y) (flat_map f ys) (sym p.parts ∙ h.is)) [
        | inl k ↦ goes_on k.0 (flat_map f ys) (subst (Parts k.0) k.2 (p.diverges y k.0 (record { is = sym k.1; allowed = h.allowed.0 })))
        | inr k ↦ never_first w bytes left p y k.0 k.1 h.allowed.0 k.2
      ]

  fault_stops : Items → (bytes : List ℕ) (left : ℕ) → IsFault (Spelled f F) bytes left → 0 < length bytes → Stops bytes left
  fault_stops w bytes left p some = record {
    front = p.front;
    rest = p.rest;
    parts = p.parts;
    left_is = p.left_is;
    begins = record { value = p.begins.value ∷ []; more = p.begins.more; spelled = record { is = p.begins.spelled.is ∙ sym (append-nil (f p.begins.value)); allowed = (p.begins.spelled.allowed, tt) } };
    apart = fault_apart w bytes left p;
    none = fault_none w bytes left p some;
  }

  -- ---- an item, and then a fault

  following : Items → (x : X) → F x → (tail : List ℕ) (ys : List X) → Each ys (f x ++ tail) → (zs : List X) × Each zs tail
  following w x a tail [] h = absurd (omega (arith, w.some x, ap length h.is, length-append (f x) tail))
  following w x a tail (y ∷ ys) h = let k = first_same w x y tail (flat_map f ys) a h.allowed.0 h.is in (ys, record { is = k.1; allowed = h.allowed.1 })

  after_item : Items → (x : X) → F x → (bytes mid : List ℕ) (left : ℕ) → bytes ≡ f x ++ mid → Stops mid left → Stops bytes left
  after_item w x a bytes mid left e p = record {
    front = f x ++ p.front;
    rest = p.rest;
    parts = e ∙ ap (λ (t : List ℕ). f x ++ t) p.parts ∙ sym (append_assoc (f x) p.front p.rest);
    left_is = p.left_is;
    begins = record { value = x ∷ p.begins.value; more = p.begins.more; spelled = record { is = append_assoc (f x) p.front p.begins.more ∙ ap (λ (t : List ℕ). f x ++ t) p.begins.spelled.is; allowed = (a, p.begins.spelled.allowed) } };
    apart = λ ys r h. let k = following w x a (p.front ++ r) ys (subst (Each ys) (append_assoc (f x) p.front r) h) in p.apart k.0 r k.1;
    none = λ ys h. let k = following w x a mid ys (subst (Each ys) e h) in p.none k.0 k.1;
  }

  -- ---- the reader

  -- what the result says of the bytes
  pub record Judged (bytes : List ℕ) (answer : Result (List X × List ℕ) ℕ) : Type 0 where
    pub ok : (xs : List X) (rest : List ℕ) → answer ≡ Ok (xs, rest) → Each xs bytes
    pub err : (left : ℕ) → answer ≡ Err left → Stops bytes left

  no_items : Judged [] (Ok ([], []))
  no_items = record {
    ok = λ xs rest h. let same : [] ≡ xs = ap (λ (p : List X × List ℕ). p.0) (ok_value ([], []) (xs, rest) h) in subst (λ (xs : List X). Each xs []) same (record { is = refl; allowed = tt });
    err = λ left h. absurd (let never : done ([], []) ≡ Err left = h in cc);
  }

  next_item : Items → (bytes : List ℕ) (others : List ℕ → Result (List X × List ℕ) ℕ) → 0 < length bytes → ((mid : List ℕ) → length mid < length bytes → Judged mid (others mid))
      → Judged bytes (item bytes >>= λ x. others x.1 >>= λ xs. Ok (x.0 ∷ xs.0, xs.1))
  next_item w bytes others some h = record {
    ok = λ xs rest e.
        let a = bind_ok (item bytes) (λ x. others x.1 >>= λ xs. Ok (x.0 ∷ xs.0, xs.1)) (xs, rest) e in
        let b = bind_ok (others a.0.1) (λ xs. Ok (a.0.0 ∷ xs.0, xs.1)) (xs, rest) a.2 in
        let p = w.exact.ok bytes a.0.0 a.0.1 a.1 in
        let q = (h a.0.1 (shorter w bytes a.0.0 a.0.1 a.1)).ok b.0.0 b.0.1 b.1 in
        let same : a.0.0 ∷ b.0.0 ≡ xs = ap (λ (p : List X × List ℕ). p.0) (ok_value (a.0.0 ∷ b.0.0, b.0.1) (xs, rest) b.2) in
        subst (λ (xs : List X). Each xs bytes) same (record { is = p.parts ∙ ap (λ (t : List ℕ). t ++ a.0.1) p.spelled.is ∙ ap (λ (t : List ℕ). f a.0.0 ++ t) q.is; allowed = (p.spelled.allowed, q.allowed) });
    err = λ left e.
        elim (bind_err (item bytes) (λ x. others x.1 >>= λ xs. Ok (x.0 ∷ xs.0, xs.1)) left e) [
          | inl a ↦ fault_stops w bytes left (w.exact.err bytes left a) some
          | inr a ↦
              elim (bind_err (others a.0.1) (λ xs. Ok (a.0.0 ∷ xs.0, xs.1)) left a.2) [
                | inl b ↦
                    let p = w.exact.ok bytes a.0.0 a.0.1 a.1 in
                    after_item w a.0.0 p.spelled.allowed bytes a.0.1 left (p.parts ∙ ap (λ (t : List ℕ). t ++ a.0.1) p.spelled.is) ((h a.0.1 (shorter w bytes a.0.0 a.0.1 a.1)).err left b)
                | inr b ↦ absurd (let never : done (a.0.0 ∷ b.0.0, b.0.1) ≡ Err left = b.2 in cc)
              ]
        ];
  }

  pub each_judged : Items → (fuel : ℕ) (bytes : List ℕ) → length bytes ≤ fuel → Judged bytes (each_at item fuel bytes)
  unfolding each_at
  each_judged w fuel [] le = no_items
  each_judged w zero (c ∷ cs) le = absurd (omega (arith, le))
  each_judged w (suc fuel) (c ∷ cs) le = next_item w (c ∷ cs) (each_at item fuel) (omega arith) (λ mid lt. each_judged w fuel mid (omega (arith, le, lt)))

  -- ---- the loop, one turn at a time

  -- what was read, and what is still to be read, with fuel enough
  pub record Turn (front : List X) (bytes : List ℕ) (total : Result (List X × List ℕ) ℕ) : Type 0 where
    pub fuel : ℕ
    pub enough : length bytes ≤ fuel
    pub so_far : with_front front (each_at item fuel bytes) ≡ total

  pub turn_next : Items → (front : List X) (bytes : List ℕ) (total : Result (List X × List ℕ) ℕ) (x : X) (rest : List ℕ) → 0 < length bytes → item bytes ≡ Ok (x, rest) → Turn front bytes total → Turn (front ++ x ∷ []) rest total
  unfolding each_at
  turn_next w front [] total x rest some h t = absurd (omega (arith, some))
  turn_next w front (c ∷ cs) total x rest some h t =
      let g : (fuel : ℕ) → t.fuel ≡ fuel → Turn (front ++ x ∷ []) rest total = λ fuel. elim fuel as (λ fuel. t.fuel ≡ fuel → Turn (front ++ x ∷ []) rest total) [
        | zero ↦ λ e. absurd (omega (arith, t.enough, e))
        | suc n ↦ λ e.
            let so_far = subst (λ (k : ℕ). with_front front (each_at item k (c ∷ cs)) ≡ total) e t.so_far in
            let one : with_front front (each_at item (suc n) (c ∷ cs)) ≡ with_front (front ++ x ∷ []) (each_at item n rest) = rw h (regroup front x (each_at item n rest)) in
            record { fuel = n; enough = omega (arith, t.enough, e, shorter w (c ∷ cs) x rest h); so_far = sym one ∙ so_far }
      ] in
      g t.fuel refl

  pub turn_last : (front : List X) (bytes : List ℕ) (total : Result (List X × List ℕ) ℕ) → length bytes ≡ 0 → Turn front bytes total → total ≡ Ok (front, bytes)
  unfolding each_at
  turn_last front [] total none t = sym t.so_far ∙ ap (λ (xs : List X). Ok (xs, [])) (append-nil front)
  turn_last front (c ∷ cs) total none t = absurd (omega (arith, none))

  pub turn_fails : (front : List X) (bytes : List ℕ) (total : Result (List X × List ℕ) ℕ) (left : ℕ) → 0 < length bytes → item bytes ≡ Err left → Turn front bytes total → total ≡ Err left
  unfolding each_at
  turn_fails front [] total left some h t = absurd (omega (arith, some))
  turn_fails front (c ∷ cs) total left some h t =
      let g : (fuel : ℕ) → t.fuel ≡ fuel → total ≡ Err left = λ fuel. elim fuel as (λ fuel. t.fuel ≡ fuel → total ≡ Err left) [
        | zero ↦ λ e. absurd (omega (arith, t.enough, e))
        | suc n ↦ λ e.
            let so_far = subst (λ (k : ℕ). with_front front (each_at item k (c ∷ cs)) ≡ total) e t.so_far in
            let one : with_front front (each_at item (suc n) (c ∷ cs)) ≡ Err left = rw h refl in
            sym so_far ∙ one
      ] in
      g t.fuel refl
