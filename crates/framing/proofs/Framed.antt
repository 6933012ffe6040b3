-- What holds of a framed file: the tests passed, and each kind's records stand together from the kind's first on. Assumes nothing.
use mathlib.Core.Path.{◌≡◌, refl, sym, ap, ◌∙◌}
use mathlib.Core.Bool.{Bool, true, false, cond, ◌||◌}
use mathlib.Core.Option.{some, none}
use mathlib.Core.List.{List, [], ◌∷◌, map}
use Prim.Native.Nat.{ℕ, zero, suc, ◌+◌, ◌/◌, ◌≤◌, ◌<◌}
use native.Mathlib.Nat.{add-zero}
use native.Mathlib.Omega.{arith}
use borrow.Author.Tests.{le-ltb, ne_eqb, leb-true, ltb-true, ltb-false, eqb-true, eqb-false}
use lib.Dec.{leb, ltb, eqb}
use lib.ListN.{length, get_or, take, length-take}
use lib.Seq.{get_or-take}
use Rattle.prelude.specs.Lists.{all, any, count, keep, map_from, ascending}
use Rattle.records.specs.Refusal.{odd_length, unordered_kinds, wrong_amounts, lowest}
use Rattle.records.specs.RefusalOf.{refusal_of, error_of}
use Rattle.records.specs.declared.refusals.Refusal.{Refusal}
use Rattle.records.specs.Bytes.{records, kind, of_kind}
use Rattle.framing.specs.Framing.{known, how_many, first_of, kinds, has_odd_length, has_unordered_kinds, has_wrong_amounts, framing}
use Rattle.framing.specs.Frame.{IsFrame}
use Rattle.framing.specs.declared.Frame.{Frame}
use Rattle.std.specs.Prelude.{Result, Ok}
use Rattle.records.proofs.Records.{record_at, get_or-records, length-records}
use Rattle.prelude.proofs.Counts.{impossible, and-true, count-le, length-keep, below_next, get_or-upto}
use Rattle.framing.proofs.FramingLaws.{all-ascending, all_known}

-- how many of a kind there are, of any file
pub length-of_kind : (k : ℕ) (s : List ℕ) → length (of_kind k s) ≡ how_many k s
length-of_kind k s = length-keep (λ r. eqb (kind r) k) (records s)

pub first-and-many : (k : ℕ) (s : List ℕ) → first_of k s + how_many k s ≤ length s / 16
first-and-many k s = omega (arith, below_next kind k (records s), count-le (λ r. ltb (kind r) (suc k)) (records s), length-records s)

-- ---- things that ascend by a key

module _ {A : Type 0} (key : A → ℕ) where
  -- from a key on none passes a test that no key from there on passes
  none_after : (p : A → Bool) (low : ℕ) → ((x : A) → low ≤ key x → p x ≡ false) → (xs : List A) (y : ℕ) → low ≤ y → ascending (y ∷ map key xs) ≡ true → count p xs ≡ 0
  unfolding count ascending
  none_after p low h [] y l e = refl
  none_after p low h (x ∷ xs) y l e =
      let t : (leb y (key x) ≡ true) × (ascending (key x ∷ map key xs) ≡ true) = and-true (leb y (key x)) (ascending (key x ∷ map key xs)) e in
      let m : y ≤ key x = leb-true y (key x) t.0 in
      rw (h x (omega arith)) (none_after p low h xs (key x) (omega arith) t.1)

  ascending-tail : (x : A) (xs : List A) → ascending (map key (x ∷ xs)) ≡ true → ascending (map key xs) ≡ true
  unfolding ascending
  ascending-tail x [] e = refl
  ascending-tail x (y ∷ ys) e = (and-true (leb (key x) (key y)) (ascending (map key (y ∷ ys))) e).1

  -- those of key k stand together, behind those below k
  together : (k : ℕ) (d : A) (xs : List A) (i : ℕ) → ascending (map key xs) ≡ true → i < count (λ x. eqb (key x) k) xs →
      get_or (keep (λ x. eqb (key x) k) xs) i d ≡ get_or xs (count (λ x. ltb (key x) k) xs + i) d
  unfolding count keep
  together k d [] i e h = absurd (omega arith)
  together k d (x ∷ xs) i e h = go (ltb (key x) k) refl (eqb (key x) k) refl i h (λ j. together k d xs j (ascending-tail x xs e))
    where
      go : (a : Bool) → ltb (key x) k ≡ a → (b : Bool) → eqb (key x) k ≡ b → (i : ℕ) → i < cond b (suc (count (λ x. eqb (key x) k) xs)) (count (λ x. eqb (key x) k) xs) →
          ((j : ℕ) → j < count (λ x. eqb (key x) k) xs → get_or (keep (λ x. eqb (key x) k) xs) j d ≡ get_or xs (count (λ x. ltb (key x) k) xs + j) d) →
          get_or (cond b (x ∷ keep (λ x. eqb (key x) k) xs) (keep (λ x. eqb (key x) k) xs)) i d
          ≡ get_or (x ∷ xs) (cond a (suc (count (λ x. ltb (key x) k) xs)) (count (λ x. ltb (key x) k) xs) + i) d
      go true ea true eb i h ih = let l : key x < k = ltb-true (key x) k ea in let m : key x ≡ k = eqb-true (key x) k eb in absurd (omega arith)
      go true ea false eb i h ih = ih i h ∙ ap (λ n. get_or (x ∷ xs) n d) (let m : suc (count (λ x. ltb (key x) k) xs + i) ≡ suc (count (λ x. ltb (key x) k) xs) + i = omega arith in m)
      go false ea true eb i h ih =
          let m : key x ≡ k = eqb-true (key x) k eb in
          let z : count (λ x. ltb (key x) k) xs ≡ 0 = none_after (λ x. ltb (key x) k) k (λ y l. le-ltb (key y) k l) xs (key x) (omega arith) e in
          at i h ih z
        where
          at : (i : ℕ) → i < suc (count (λ x. eqb (key x) k) xs) →
              ((j : ℕ) → j < count (λ x. eqb (key x) k) xs → get_or (keep (λ x. eqb (key x) k) xs) j d ≡ get_or xs (count (λ x. ltb (key x) k) xs + j) d) →
              count (λ x. ltb (key x) k) xs ≡ 0 →
              get_or (x ∷ keep (λ x. eqb (key x) k) xs) i d ≡ get_or (x ∷ xs) (count (λ x. ltb (key x) k) xs + i) d
          at zero h ih z = ap (λ n. get_or (x ∷ xs) n d) (let m : 0 ≡ count (λ x. ltb (key x) k) xs + 0 = omega arith in m)
          at (suc j) h ih z = ih j (omega arith) ∙ ap (λ n. get_or (x ∷ xs) n d) (let m : suc (count (λ x. ltb (key x) k) xs + j) ≡ count (λ x. ltb (key x) k) xs + suc j = omega arith in m)
      go false ea false eb i h ih =
          let l : k ≤ key x = ltb-false (key x) k ea in
          let n : key x ≡ k → ⊥ = eqb-false (key x) k eb in
          let z : count (λ x. eqb (key x) k) xs ≡ 0 = none_after (λ x. eqb (key x) k) (suc k) (λ y m. ne_eqb (key y) k (λ q. absurd (omega arith))) xs (key x) (omega arith) e in
          absurd (omega arith)

-- ---- a framed file

or-false : (a b : Bool) → (a || b) ≡ false → (a ≡ false) × (b ≡ false)
or-false true b e = impossible e
or-false false b e = (refl, e)

none_over : (f : ℕ → ℕ → Bool) (k : ℕ) (l : List ℕ) (j : ℕ) → j < length l → any (λ over. over) (map_from k f l) ≡ false → f (k + j) (get_or l j 0) ≡ false
unfolding any map_from
none_over f k [] j h e = absurd (omega arith)
none_over f k (x ∷ xs) zero h e = ap (λ n. f n x) (add-zero k) ∙ (or-false (f k x) (any (λ over. over) (map_from (suc k) f xs)) e).0
none_over f k (x ∷ xs) (suc j) h e =
    ap (λ n. f n (get_or xs j 0)) (let m : k + suc j ≡ suc k + j = omega arith in m)
    ∙ none_over f (suc k) xs j (omega arith) (or-false (f k x) (any (λ over. over) (map_from (suc k) f xs)) e).1

module _ (first : ℕ) (most s : List ℕ) (framed : framing first most s ≡ none) where
  tests-off : (has_odd_length first most s ≡ false) × (has_unordered_kinds first most s ≡ false) × (has_wrong_amounts first most s ≡ false)
  unfolding lowest
  tests-off = go (has_odd_length first most s) (has_unordered_kinds first most s) (has_wrong_amounts first most s) framed
    where
      go : (a b c : Bool) → cond a (some odd_length) (cond b (some unordered_kinds) (cond c (some wrong_amounts) none)) ≡ none → (a ≡ false) × (b ≡ false) × (c ≡ false)
      go true b c e = let z : ◌≡◌ {A = ℕ} 0 1 = cc in absurd (omega arith)
      go false true c e = let z : ◌≡◌ {A = ℕ} 0 1 = cc in absurd (omega arith)
      go false false true e = let z : ◌≡◌ {A = ℕ} 0 1 = cc in absurd (omega arith)
      go false false false e = (refl, refl, refl)

  pub framed-known : all (known first most) (kinds first most s) ≡ true
  framed-known = all_known first most s tests-off.1

  pub framed-ascending : ascending (kinds first most s) ≡ true
  framed-ascending = all-ascending first most s tests-off.1

  pub framed-most : (j : ℕ) → j < 9 → j < length most → how_many (first + j) s ≤ get_or most j 0
  framed-most j h l =
      ltb-false (get_or most j 0) (how_many (first + j) s)
      (ap (λ m. ltb m (how_many (first + j) s)) (sym (get_or-take 9 most j 0 h))
      ∙ none_over (λ k m. ltb m (how_many k s)) first (take 9 most) j (omega (arith, length-take 9 most)) (or-false (eqb (how_many first s) 0) _ tests-off.2).1)

  -- the thing of number i of a kind is the record of number i from the kind's first on
  pub framed-thing : (k i : ℕ) → i < how_many k s → get_or (of_kind k s) i [] ≡ record_at s (first_of k s + i)
  framed-thing k i h = together kind k [] (records s) i framed-ascending h ∙ get_or-records s (first_of k s + i) (omega (arith, first-and-many k s))

-- ---- what `frame_of` answers of it

module _ (first : ℕ) (most s : List ℕ) (r : Result Frame Refusal) (is : IsFrame first most s r) (f : Frame) (answer : r ≡ Ok f) where
  pub frame-framed : framing first most s ≡ none
  frame-framed = sym is.answer ∙ ap (error_of refusal_of) answer

  pub frame-count : (j : ℕ) → j < 9 → get_or f.counts j 0 ≡ how_many (first + j) s
  frame-count j h = ap (λ l. get_or l j 0) (is.counts f answer) ∙ get_or-upto (λ j. how_many (first + j) s) 0 9 j h
