-- How many records of each kind stand before a record: none before the first, one more of its kind behind each; and that this is its number. Assumes nothing.
use mathlib.Core.Path.{◌≡◌, refl, sym, ap, ◌∙◌}
use mathlib.Core.Bool.{Bool, true, false, cond}
use mathlib.Core.List.{List, [], ◌∷◌}
use Prim.Native.Nat.{ℕ, zero, suc, ◌+◌, ◌*◌, ◌/◌, ◌≤◌, ◌<◌}
use native.Mathlib.Nat.{add-zero}
use native.Mathlib.Numerals.{add-one}
use native.Mathlib.Omega.{arith}
use borrow.Author.Tests.{eq-eqb, eqb-true, eqb-false}
use lib.Dec.{eqb}
use lib.ListN.{length, get_or, take, set, replicate, length-set, length-take, get_or-replicate}
use lib.Seq.{take-suc, get_or-set_same, get_or-set_other}
use Rattle.prelude.specs.Lists.{keep, count}
use Rattle.records.specs.Bytes.{byte, records, kind, of_kind}
use Rattle.records.proofs.Records.{record_at, get_or-records, length-records}
use Rattle.prelude.proofs.Counts.{count-le}
use Rattle.framing.proofs.FramingLaws.{kind-record}
use Rattle.prelude.proofs.Numbers.{count-append}
use Rattle.listing.specs.Listing.{number_of}

pub number-le : (s : List ℕ) (k n : ℕ) → number_of s k n ≤ n
number-le s k n = omega (arith, count-le (λ r. eqb (kind r) k) (take n (records s)), length-take n (records s))

module _ (s : List ℕ) (k n : ℕ) (h : n < length s / 16) where
  number_more : number_of s k (n + 1) ≡ number_of s k n + cond (eqb (byte s (16 * n)) k) 1 0
  unfolding count
  number_more =
      ap (λ m. number_of s k m) (add-one n)
      ∙ ap (count (λ r. eqb (kind r) k)) (take-suc (records s) n [] (omega (arith, length-records s)))
      ∙ count-append (λ r. eqb (kind r) k) (take n (records s)) (get_or (records s) n [] ∷ [])
      ∙ ap (λ r. number_of s k n + cond (eqb (kind r) k) 1 0) (get_or-records s n h)
      ∙ ap (λ b. number_of s k n + cond (eqb b k) 1 0) (kind-record s n)

-- ---- the number is the record's index among those of its kind, by which the model reads and names it

module _ {A : Type 0} (p : A → Bool) (d : A) where
  kept_at : (xs : List A) (n : ℕ) → n < length xs → p (get_or xs n d) ≡ true → get_or (keep p xs) (count p (take n xs)) d ≡ get_or xs n d
  unfolding keep count
  kept_at [] n h e = absurd (omega arith)
  kept_at (x ∷ xs) zero h e = ap (λ b. get_or (cond b (x ∷ keep p xs) (keep p xs)) 0 d) e
  kept_at (x ∷ xs) (suc n) h e = go (p x) (kept_at xs n (omega arith) e)
    where
      go : (b : Bool) → get_or (keep p xs) (count p (take n xs)) d ≡ get_or xs n d →
          get_or (cond b (x ∷ keep p xs) (keep p xs)) (cond b (suc (count p (take n xs))) (count p (take n xs))) d ≡ get_or xs n d
      go true q = q
      go false q = q

pub number-names : (s : List ℕ) (n : ℕ) → n < length s / 16 → get_or (of_kind (byte s (16 * n)) s) (number_of s (byte s (16 * n)) n) [] ≡ record_at s n
number-names s n h =
    kept_at (λ r. eqb (kind r) (byte s (16 * n))) [] (records s) n (omega (arith, length-records s))
    (ap (λ r. eqb (kind r) (byte s (16 * n))) (get_or-records s n h) ∙ eq-eqb (kind (record_at s n)) (byte s (16 * n)) (kind-record s n))
    ∙ get_or-records s n h

-- ---- in the code's array

-- it has the numbers of all kinds
pub record Counted (s : List ℕ) (n : ℕ) (counts : List ℕ) : Type 0 where
  pub places : length counts ≡ 256
  pub number : (k : ℕ) → k < 256 → get_or counts k 0 ≡ number_of s k n

pub counted_none : (s : List ℕ) → Counted s 0 (replicate 256 0)
unfolding count
counted_none s = record { places = refl; number = λ k h. get_or-replicate 256 k 0 0 h }

pub counted-more : (s : List ℕ) (n : ℕ) (counts : List ℕ) → n < length s / 16 → byte s (16 * n) < 256 → Counted s n counts →
    Counted s (n + 1) (set counts (byte s (16 * n)) (get_or counts (byte s (16 * n)) 0 + 1))
counted-more s n counts h low so_far = record {
  places = length-set counts (byte s (16 * n)) (get_or counts (byte s (16 * n)) 0 + 1) ∙ so_far.places;
  number = λ k l. go k l (eqb (byte s (16 * n)) k) refl;
}
  where
    go : (k : ℕ) → k < 256 → (b : Bool) → eqb (byte s (16 * n)) k ≡ b → get_or (set counts (byte s (16 * n)) (get_or counts (byte s (16 * n)) 0 + 1)) k 0 ≡ number_of s k (n + 1)
    go k l true e =
        let same : byte s (16 * n) ≡ k = eqb-true (byte s (16 * n)) k e in
        ap (λ j. get_or (set counts (byte s (16 * n)) (get_or counts (byte s (16 * n)) 0 + 1)) j 0) (sym same)
        ∙ get_or-set_same counts (byte s (16 * n)) (get_or counts (byte s (16 * n)) 0 + 1) 0 (omega (arith, so_far.places))
        ∙ ap (λ m. m + 1) (so_far.number (byte s (16 * n)) low ∙ ap (λ j. number_of s j n) same)
        ∙ sym (number_more s k n h ∙ ap (λ b. number_of s k n + cond b 1 0) e)
    go k l false e =
        get_or-set_other counts (byte s (16 * n)) k (get_or counts (byte s (16 * n)) 0 + 1) 0 (λ q. eqb-false (byte s (16 * n)) k e (sym q))
        ∙ so_far.number k l
        ∙ sym (number_more s k n h ∙ ap (λ b. number_of s k n + cond b 1 0) e ∙ add-zero (number_of s k n))
