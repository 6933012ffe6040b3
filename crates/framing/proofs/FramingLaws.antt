-- Laws of framing: the tests of the kinds one record at a time, the counts, and where a kind's records stand. Assumes nothing.
use mathlib.Core.Path.{◌≡◌, refl, sym, ap, ◌∙◌, subst}
use mathlib.Core.Bool.{Bool, true, false, not, ◌&&◌, ◌||◌}
use mathlib.Core.Option.{some, none}
use mathlib.Core.List.{List, [], ◌∷◌, map}
use Prim.Native.Nat.{ℕ, zero, suc, ◌+◌, ◌*◌, ◌/◌, ◌≤◌, ◌<◌, zero-le}
use native.Mathlib.Nat.{add-zero, zero-add, le_refl}
use native.Mathlib.Numerals.{add-one}
use native.Mathlib.Omega.{arith}
use borrow.Author.Tests.{lt-ltb, le-ltb, le-leb, lt-leb, leb-true, leb-false}
use lib.Dec.{leb, ltb, eqb}
use lib.ListN.{length, get_or, take, drop, length-take, drop_of_length-le}
use lib.Seq.{drop-cons}
use Rattle.prelude.specs.Lists.{all, any, count, upto, map_from, ascending}
use Rattle.prelude.proofs.Counts.{impossible, and-true, count-le, below_next, length_from, get_or-upto, is-table}
use Rattle.records.specs.Bytes.{byte, records, kind}
use Rattle.framing.specs.Framing.{known, how_many, first_of, kinds, has_odd_length, has_unordered_kinds, has_wrong_amounts, framing, counts, firsts}
use Rattle.records.specs.Refusal.{odd_length, unordered_kinds, wrong_amounts, lowest}
use Rattle.std.specs.Prelude.{Ok, Err}
use Rattle.records.specs.RefusalOf.{refusal_of}
use Rattle.records.specs.declared.refusals.Refusal as declared-refusal
use Rattle.framing.specs.Frame.{IsFrame, exceeds, sum_to}
use Rattle.records.proofs.Records.{record_at, byte-record, rest, rest-one, rest-none, length-records}

-- ---- kinds, known and ascending

module _ (first : ℕ) (most : List ℕ) where
  -- one is unknown, or they do not ascend from the latest on
  abbrev pub disorder : ℕ → List ℕ → Bool
  disorder latest ks = not (all (known first most) ks) || not (ascending (latest ∷ ks))

  true-or : (b : Bool) → (b || true) ≡ true
  true-or true = refl
  true-or false = refl

  pub unknown-one : (latest k : ℕ) (ks : List ℕ) → known first most k ≡ false → disorder latest (k ∷ ks) ≡ true
  unfolding all
  unknown-one latest k ks e = rw e

  pub descending-one : (latest k : ℕ) (ks : List ℕ) → k < latest → disorder latest (k ∷ ks) ≡ true
  unfolding ascending
  descending-one latest k ks h = rw (lt-leb latest k h) (true-or (not (all (known first most) (k ∷ ks))))

  pub next_one : (latest k : ℕ) (ks : List ℕ) → known first most k ≡ true → latest ≤ k → disorder latest (k ∷ ks) ≡ disorder k ks
  unfolding all ascending
  next_one latest k ks e h = rw (e, le-leb latest k h)

  -- at first the latest is the format's first kind
  pub disorder-first : (s : List ℕ) → has_unordered_kinds first most s ≡ disorder first (kinds first most s)
  unfolding all ascending
  disorder-first s = go (map kind (records s))
    where
      go : (ks : List ℕ) → (not (all (known first most) ks) || not (ascending ks)) ≡ disorder first ks
      go [] = refl
      go (k ∷ ks) = by (known first most k) refl (leb first k) refl
        where
          by : (a : Bool) → known first most k ≡ a → (b : Bool) → leb first k ≡ b →
              (not (a && all (known first most) ks) || not (ascending (k ∷ ks))) ≡ (not (a && all (known first most) ks) || not (b && ascending (k ∷ ks)))
          by false ea b eb = refl
          by true ea true eb = refl
          by true ea false eb = impossible (sym ea ∙ rw eb)

-- ---- a pass over the records

pub kind-record : (s : List ℕ) (i : ℕ) → kind (record_at s i) ≡ byte s (16 * i)
kind-record s i = byte-record s i 0 (omega arith) ∙ ap (byte s) (add-zero (16 * i))

pub kinds-one : (s : List ℕ) (i : ℕ) → i < length s / 16 → map kind (rest s i) ≡ byte s (16 * i) ∷ map kind (rest s (i + 1))
kinds-one s i h = ap (map kind) (rest-one s i h) ∙ ap (λ k. k ∷ map kind (rest s (i + 1))) (kind-record s i)

module _ (first : ℕ) (most : List ℕ) (k : ℕ) where
  pub known-not-above : first + length (take 9 most) ≤ k → known first most k ≡ false
  known-not-above h = rw (le-leb first k (omega arith), le-ltb k (first + length (take 9 most)) h)

  pub known-within : first ≤ k → k < first + length (take 9 most) → known first most k ≡ true
  known-within h l = rw (le-leb first k h, lt-ltb k (first + length (take 9 most)) l)

module _ (first : ℕ) (most s : List ℕ) (latest i : ℕ) (so_far : has_unordered_kinds first most s ≡ disorder first most latest (map kind (rest s i))) where
  pub at-unknown : i < length s / 16 → known first most (byte s (16 * i)) ≡ false → has_unordered_kinds first most s ≡ true
  at-unknown h e = so_far ∙ ap (disorder first most latest) (kinds-one s i h) ∙ unknown-one first most latest (byte s (16 * i)) (map kind (rest s (i + 1))) e

  pub at-descent : i < length s / 16 → byte s (16 * i) < latest → has_unordered_kinds first most s ≡ true
  at-descent h e = so_far ∙ ap (disorder first most latest) (kinds-one s i h) ∙ descending-one first most latest (byte s (16 * i)) (map kind (rest s (i + 1))) e

  pub at_next : i < length s / 16 → known first most (byte s (16 * i)) ≡ true → latest ≤ byte s (16 * i) →
      has_unordered_kinds first most s ≡ disorder first most (byte s (16 * i)) (map kind (rest s (i + 1)))
  at_next h e l = so_far ∙ ap (disorder first most latest) (kinds-one s i h) ∙ next_one first most latest (byte s (16 * i)) (map kind (rest s (i + 1))) e l

  pub at-end : i ≡ length s / 16 → has_unordered_kinds first most s ≡ false
  unfolding all ascending
  at-end e = so_far ∙ ap (λ rs. disorder first most latest (map kind rs)) (ap (rest s) e ∙ rest-none s)

-- ---- a pass over the limits

module _ (f : ℕ → ℕ → Bool) where
  -- those from number k on
  abbrev pub over : ℕ → List ℕ → Bool
  over k l = any (λ b. b) (map_from k f (drop k l))

  pub over-one : (k : ℕ) (l : List ℕ) → k < length l → over k l ≡ (f k (get_or l k 0) || over (k + 1) l)
  unfolding any map_from
  over-one k l h = ap (λ xs. any (λ b. b) (map_from k f xs)) (drop-cons l k 0 h) ∙ ap (λ n. f k (get_or l k 0) || over n l) (sym (add-one k))

  pub over_none : (k : ℕ) (l : List ℕ) → length l ≤ k → over k l ≡ false
  unfolding any map_from
  over_none k l h = rw (drop_of_length-le l h)

-- ---- sums of counts

pub sum_to-le : (ns : List ℕ) (j n : ℕ) → j ≤ n → sum_to j ns ≤ sum_to n ns
unfolding sum_to
sum_to-le ns j zero h = subst (λ i. sum_to i ns ≤ 0) (let e : 0 ≡ j = omega arith in e) zero-le
sum_to-le ns j (suc n) h = go (leb j n) refl (sum_to-le ns j n)
  where
    go : (b : Bool) → leb j n ≡ b → (j ≤ n → sum_to j ns ≤ sum_to n ns) → sum_to j ns ≤ sum_to n ns + get_or ns n 0
    go true e ih = let i : sum_to j ns ≤ sum_to n ns = ih (leb-true j n e) in omega arith
    go false e ih =
        let l : n < j = leb-false j n e in
        let m : j ≡ suc n = omega arith in
        rw m (le_refl (sum_to n ns + get_or ns n 0))

pub sum_to-next : (ns : List ℕ) (k : ℕ) → sum_to (k + 1) ns ≡ sum_to k ns + get_or ns k 0
unfolding sum_to
sum_to-next ns k = rw (add-one k)

-- ---- what passes

both_true : (a b : Bool) → (not a || not b) ≡ false → (a ≡ true) × (b ≡ true)
both_true true true e = (refl, refl)
both_true true false e = impossible e
both_true false b e = impossible e

module _ (first : ℕ) (most s : List ℕ) (ordered : has_unordered_kinds first most s ≡ false) where
  pub all_known : all (known first most) (kinds first most s) ≡ true
  all_known = (both_true (all (known first most) (kinds first most s)) (ascending (kinds first most s)) ordered).0

  pub all-ascending : ascending (kinds first most s) ≡ true
  all-ascending = (both_true (all (known first most) (kinds first most s)) (ascending (kinds first most s)) ordered).1

  none_before : first_of first s ≡ 0
  unfolding all count
  none_before = go (records s) all_known
    where
      go : (rs : List (List ℕ)) → all (known first most) (map kind rs) ≡ true → count (λ r. ltb (kind r) first) rs ≡ 0
      go [] e = refl
      go (r ∷ rs) e =
          let k : (known first most (kind r) ≡ true) × (all (known first most) (map kind rs) ≡ true) = and-true (known first most (kind r)) (all (known first most) (map kind rs)) e in
          let l : (leb first (kind r) ≡ true) × (ltb (kind r) (first + length (take 9 most)) ≡ true) = and-true (leb first (kind r)) (ltb (kind r) (first + length (take 9 most))) k.0 in
          rw (le-ltb (kind r) first (leb-true first (kind r) l.0)) (go rs k.1)

  pub firsts-sum : (j : ℕ) → j ≤ 9 → sum_to j (counts first most s) ≡ first_of (first + j) s
  unfolding sum_to
  firsts-sum zero h = sym none_before ∙ ap (λ k. first_of k s) (sym (add-zero first))
  firsts-sum (suc j) h =
      (λ x. firsts-sum j (omega arith) x + get_or-upto (λ j. how_many (first + j) s) 0 9 j (omega arith) x)
      ∙ sym (below_next kind (first + j) (records s)) ∙ ap (λ k. first_of k s) (let e : suc (first + j) ≡ first + suc j = omega arith in e)

  pub firsts-are : map (λ j. sum_to j (counts first most s)) (upto 9) ≡ firsts first most s
  firsts-are = is-table (λ j. first_of (first + j) s) 0 9 (map (λ j. sum_to j (counts first most s)) (upto 9)) (length_from (λ j. sum_to j (counts first most s)) 0 9)
      (λ j h. get_or-upto (λ j. sum_to j (counts first most s)) 0 9 j h ∙ firsts-sum j (omega arith))

pub first_of-le : (k : ℕ) (s : List ℕ) → first_of k s ≤ length s / 16
first_of-le k s = rw length-records at (count-le (λ r. ltb (kind r) k) (records s))

map_from-alike : {A B : Type 0} (f g : ℕ → A → B) (a b : ℕ) (l : List A) → ((j : ℕ) (x : A) → j < length l → f (a + j) x ≡ g (b + j) x) → map_from a f l ≡ map_from b g l
unfolding map_from
map_from-alike f g a b [] h = refl
map_from-alike f g a b (x ∷ xs) h =
    λ i. (ap (λ n. f n x) (sym (add-zero a)) ∙ h 0 x (omega arith) ∙ ap (λ n. g n x) (add-zero b)) i
    ∷ map_from-alike f g (suc a) (suc b) xs (λ j y l. ap (λ n. f n y) (let e : suc a + j ≡ a + suc j = omega arith in e) ∙ h (suc j) y (omega arith) ∙ ap (λ n. g n y) (let e : b + suc j ≡ suc b + j = omega arith in e)) i

pub exceeds-is : (first : ℕ) (most s : List ℕ) → exceeds (counts first most s) most ≡ has_wrong_amounts first most s
exceeds-is first most s =
    λ i. eqb ((get_or-upto (λ j. how_many (first + j) s) 0 9 0 (omega arith) ∙ ap (λ k. how_many k s) (add-zero first)) i) 0
    || any (λ over. over) (map_from-alike (λ j m. ltb m (get_or (counts first most s) j 0)) (λ k m. ltb m (how_many k s)) 0 first (take 9 most) alike i)
  where
    alike : (j m : ℕ) → j < length (take 9 most) → ltb m (get_or (counts first most s) (0 + j) 0) ≡ ltb m (how_many (first + j) s)
    alike j m h = ap (ltb m) (ap (λ n. get_or (counts first most s) n 0) (zero-add j) ∙ get_or-upto (λ j. how_many (first + j) s) 0 9 j (omega (arith, length-take 9 most)))

-- ---- the answers

module _ (first : ℕ) (most s : List ℕ) where
  framing-tests : (a b c : Bool) → has_odd_length first most s ≡ a → has_unordered_kinds first most s ≡ b → has_wrong_amounts first most s ≡ c →
      framing first most s ≡ lowest ((odd_length, a) ∷ (unordered_kinds, b) ∷ (wrong_amounts, c) ∷ [])
  framing-tests a b c ea eb ec = λ i. lowest ((odd_length, ea i) ∷ (unordered_kinds, eb i) ∷ (wrong_amounts, ec i) ∷ [])

  pub is_odd : has_odd_length first most s ≡ true → framing first most s ≡ some odd_length
  unfolding lowest
  is_odd a = framing-tests true _ _ a refl refl

  pub is-unordered : has_odd_length first most s ≡ false → has_unordered_kinds first most s ≡ true → framing first most s ≡ some unordered_kinds
  unfolding lowest
  is-unordered a b = framing-tests false true _ a b refl

  pub is-wrong : has_odd_length first most s ≡ false → has_unordered_kinds first most s ≡ false → has_wrong_amounts first most s ≡ true → framing first most s ≡ some wrong_amounts
  unfolding lowest
  is-wrong a b c = framing-tests false false true a b c

  pub is_none : has_odd_length first most s ≡ false → has_unordered_kinds first most s ≡ false → has_wrong_amounts first most s ≡ false → framing first most s ≡ none
  unfolding lowest
  is_none a b c = framing-tests false false false a b c

  pub refused-frame : (w : declared-refusal.Refusal) → framing first most s ≡ some (refusal_of w) → IsFrame first most s (Err w)
  refused-frame w e = record { answer = sym e; counts = λ f q. cc; firsts = λ f q. cc }

  pub accepted-frame : (ns fs : List ℕ) → framing first most s ≡ none → ns ≡ counts first most s → fs ≡ firsts first most s → IsFrame first most s (Ok record { counts = ns; firsts = fs })
  accepted-frame ns fs e n f = record { answer = sym e; counts = λ g q. cc; firsts = λ g q. cc }
