-- What is written is read back, and what is read is written back; and the bounds of fields. Assumes nothing.
use mathlib.Core.Path.{◌≡◌, refl, sym, ap, ◌∙◌}
use mathlib.Core.Bool.{Bool, true, false, cond, ◌&&◌}
use mathlib.Core.List.{List, [], ◌∷◌, ◌++◌}
use Prim.Native.Nat.{ℕ, zero, suc, ◌+◌, ◌-◌, ◌*◌, ◌/◌, ◌%◌, ◌^◌, ◌≤◌, ◌<◌}
use native.Mathlib.Nat.{add-zero, add_assoc, lt_irrefl}
use native.Mathlib.Omega.{arith}
use borrow.Author.Tests.{lt-ltb, le-ltb, ltb-true, ltb-false}
use lib.Dec.{T, ltb}
use lib.ListN.{length, set, length-set}
use lib.Seq.{sets, get_or-set_same, get_or-set_other}
use lib.IntN.{ℤ, pos, negsuc}
use lib.Signed.{mag}
use Rattle.prelude.specs.Lists.{all}
use Rattle.records.specs.Bytes.{byte, two, four, signed, unsigned, two±, four±, bytes2, bytes4, bytes2±, bytes4±}
use Rattle.records.proofs.Records.{record_at, byte-record}

-- ---- two's complement, over the half h of the numbers

module _ (h : ℕ) where
  pub unsigned-low : (z : ℤ) → mag z < h → unsigned h z < 2 * h
  unsigned-low (pos n) l = omega arith
  unsigned-low (negsuc n) l = omega arith

  pub signed-unsigned : (z : ℤ) → mag z < h → signed h (unsigned h z) ≡ z
  signed-unsigned (pos n) l = rw (lt-ltb n h l)
  signed-unsigned (negsuc n) l =
      let out : ltb (2 * h - suc n) h ≡ false = le-ltb (2 * h - suc n) h (omega arith) in
      let back : 2 * h - suc (2 * h - suc n) ≡ n = omega arith in
      rw (out, back)

  module _ (n : ℕ) (l : n < 2 * h) where
    pub mag-signed : mag (signed h n) < h
    mag-signed = go (ltb n h) refl
      where
        go : (b : Bool) → ltb n h ≡ b → mag (cond b (pos n) (negsuc (2 * h - suc n))) < h
        go true e = ltb-true n h e
        go false e = let k : h ≤ n = ltb-false n h e in omega arith

    pub unsigned_signed : unsigned h (signed h n) ≡ n
    unsigned_signed = go (ltb n h)
      where
        go : (b : Bool) → unsigned h (cond b (pos n) (negsuc (2 * h - suc n))) ≡ n
        go true = refl
        go false = omega arith

-- ---- read back

pub two-bytes2 : (n : ℕ) → n < 2 ^ 16 → two (bytes2 n) 0 ≡ n
two-bytes2 n l = omega arith

pub four-bytes4 : (n : ℕ) → n < 2 ^ 32 → four (bytes4 n) 0 ≡ n
four-bytes4 n l =
    let low : n % 65536 % 256 + 256 * ((n % 65536 / 256) % 256) ≡ n % 65536 = two-bytes2 (n % 65536) (omega arith) in
    let high : n / 65536 % 256 + 256 * ((n / 65536 / 256) % 256) ≡ n / 65536 = two-bytes2 (n / 65536) (omega arith) in
    rw (low, high) (omega arith)

pub two±-bytes2± : (z : ℤ) → mag z < 2 ^ 15 → two± (bytes2± z) 0 ≡ z
two±-bytes2± z l = ap (signed (2 ^ 15)) (two-bytes2 (unsigned (2 ^ 15) z) (unsigned-low (2 ^ 15) z l)) ∙ signed-unsigned (2 ^ 15) z l

pub four±-bytes4± : (z : ℤ) → mag z < 2 ^ 31 → four± (bytes4± z) 0 ≡ z
four±-bytes4± z l = ap (signed (2 ^ 31)) (four-bytes4 (unsigned (2 ^ 31) z) (unsigned-low (2 ^ 31) z l)) ∙ signed-unsigned (2 ^ 31) z l

-- ---- of bytes

-- each is below 256
abbrev pub OfBytes : List ℕ → Type 0
OfBytes s = (k : ℕ) → byte s k < 256

pub of-bytes : (s : List ℕ) → T (all (λ b. ltb b 256) s) → OfBytes s
unfolding all
of-bytes [] t k = omega arith
of-bytes (b ∷ s) t zero = go (ltb b 256) refl t
  where
    go : (p : Bool) → ltb b 256 ≡ p → T (p && all (λ b. ltb b 256) s) → b < 256
    go true e u = ltb-true b 256 e
    go false e u = absurd u
of-bytes (b ∷ s) t (suc k) = of-bytes s (go (ltb b 256) t) k
  where
    go : (p : Bool) → T (p && all (λ b. ltb b 256) s) → T (all (λ b. ltb b 256) s)
    go true u = u
    go false u = absurd u

module _ (s : List ℕ) (bytes : OfBytes s) (k : ℕ) where
  pub two-low : two s k < 2 ^ 16
  two-low = omega (arith, bytes k, bytes (k + 1))

  pub four_low : four s k < 2 ^ 32
  four_low = omega (arith, bytes k, bytes (k + 1), bytes (k + 2), bytes (k + 2 + 1))

  pub two±-low : mag (two± s k) < 2 ^ 15
  two±-low = mag-signed (2 ^ 15) (two s k) two-low

  pub four±-low : mag (four± s k) < 2 ^ 31
  four±-low = mag-signed (2 ^ 31) (four s k) four_low

  -- written back
  pub bytes2-two : bytes2 (two s k) ≡ byte s k ∷ byte s (k + 1) ∷ []
  bytes2-two = λ i. low i ∷ high i ∷ []
    where
      low : two s k % 256 ≡ byte s k
      low = omega (arith, bytes k)

      high : (two s k / 256) % 256 ≡ byte s (k + 1)
      high = omega (arith, bytes k, bytes (k + 1))

module _ (s : List ℕ) (bytes : OfBytes s) (k : ℕ) where
  pub bytes4-four : bytes4 (four s k) ≡ byte s k ∷ byte s (k + 1) ∷ byte s (k + 2) ∷ byte s (k + 2 + 1) ∷ []
  bytes4-four = (λ i. bytes2 (low i) ++ bytes2 (high i)) ∙ (λ i. bytes2-two s bytes k i ++ bytes2-two s bytes (k + 2) i)
    where
      low : four s k % 65536 ≡ two s k
      low = omega (arith, two-low s bytes k)

      high : four s k / 65536 ≡ two s (k + 2)
      high = omega (arith, two-low s bytes k)

  pub bytes2±-two± : bytes2± (two± s k) ≡ byte s k ∷ byte s (k + 1) ∷ []
  bytes2±-two± = ap bytes2 (unsigned_signed (2 ^ 15) (two s k) (two-low s bytes k)) ∙ bytes2-two s bytes k

  pub bytes4±-four± : bytes4± (four± s k) ≡ byte s k ∷ byte s (k + 1) ∷ byte s (k + 2) ∷ byte s (k + 2 + 1) ∷ []
  bytes4±-four± = ap bytes4 (unsigned_signed (2 ^ 31) (four s k) (four_low s bytes k)) ∙ bytes4-four

-- ---- fields of two lists that agree

-- m bytes of s from k on are those of t from j on
abbrev pub Alike : List ℕ → ℕ → List ℕ → ℕ → ℕ → Type 0
Alike s k t j m = (d : ℕ) → d < m → byte s (k + d) ≡ byte t (j + d)

module _ (s : List ℕ) (k : ℕ) (t : List ℕ) (j : ℕ) where
  pub two-alike : Alike s k t j 2 → two s k ≡ two t j
  two-alike e = λ i. (ap (byte s) (sym (add-zero k)) ∙ e 0 (omega arith) ∙ ap (byte t) (add-zero j)) i + 256 * e 1 (omega arith) i

pub four-alike : (s : List ℕ) (k : ℕ) (t : List ℕ) (j : ℕ) → Alike s k t j 4 → four s k ≡ four t j
four-alike s k t j e =
    λ i. two-alike s k t j (λ d l. e d (omega arith)) i
    + 65536 * two-alike s (k + 2) t (j + 2) (λ d l. ap (byte s) (add_assoc k 2 d) ∙ e (2 + d) (omega arith) ∙ ap (byte t) (sym (add_assoc j 2 d))) i

-- a field of a record is one of the file
module _ (s : List ℕ) (n k : ℕ) where
  record-alike : (m : ℕ) → k + m ≤ 16 → Alike (record_at s n) k s (16 * n + k) m
  record-alike m h d l = byte-record s n (k + d) (omega arith) ∙ ap (byte s) (sym (add_assoc (16 * n) k d))

  pub two-record : k + 2 ≤ 16 → two (record_at s n) k ≡ two s (16 * n + k)
  two-record h = two-alike (record_at s n) k s (16 * n + k) (record-alike 2 h)

  pub four-record : k + 4 ≤ 16 → four (record_at s n) k ≡ four s (16 * n + k)
  four-record h = four-alike (record_at s n) k s (16 * n + k) (record-alike 4 h)

-- what was written is there, and the rest as it was
pub sets-before : (vs l : List ℕ) (i k : ℕ) → k < i → byte (sets l i vs) k ≡ byte l k
sets-before [] l i k h = refl
sets-before (v ∷ vs) l i k h = sets-before vs (set l i v) (suc i) k (omega arith) ∙ get_or-set_other l i k v 0 (λ e. lt_irrefl i (omega arith))

pub sets-after : (vs l : List ℕ) (i k : ℕ) → i + length vs ≤ k → byte (sets l i vs) k ≡ byte l k
sets-after [] l i k h = refl
sets-after (v ∷ vs) l i k h = sets-after vs (set l i v) (suc i) k (omega arith) ∙ get_or-set_other l i k v 0 (λ e. lt_irrefl i (omega arith))

pub sets-there : (vs l : List ℕ) (i : ℕ) → i + length vs ≤ length l → Alike (sets l i vs) i vs 0 (length vs)
sets-there [] l i h d b = absurd (omega arith)
sets-there (v ∷ vs) l i h zero b = sets-before vs (set l i v) (suc i) (i + 0) (omega arith) ∙ ap (byte (set l i v)) (add-zero i) ∙ get_or-set_same l i v 0 (omega arith)
sets-there (v ∷ vs) l i h (suc d) b =
    ap (byte (sets (set l i v) (suc i) vs)) (let e : i + suc d ≡ suc i + d = omega arith in e)
    ∙ sets-there vs (set l i v) (suc i) (omega (arith, length-set l i v)) d (omega arith)
    ∙ (let e : 0 + d ≡ d = omega arith in ap (byte vs) e ∙ ap (byte (v ∷ vs)) (let m : suc d ≡ 0 + suc d = omega arith in m))

-- a number written at a place is read there
module _ (l : List ℕ) (at : ℕ) where
  pub two-put : (n : ℕ) → at + 2 ≤ length l → n < 2 ^ 16 → two (sets l at (bytes2 n)) at ≡ n
  two-put n h b = two-alike (sets l at (bytes2 n)) at (bytes2 n) 0 (sets-there (bytes2 n) l at h) ∙ two-bytes2 n b

  pub four-put : (n : ℕ) → at + 4 ≤ length l → n < 2 ^ 32 → four (sets l at (bytes4 n)) at ≡ n
  four-put n h b = four-alike (sets l at (bytes4 n)) at (bytes4 n) 0 (sets-there (bytes4 n) l at h) ∙ four-bytes4 n b

  pub two±-put : (z : ℤ) → at + 2 ≤ length l → mag z < 2 ^ 15 → two± (sets l at (bytes2± z)) at ≡ z
  two±-put z h b = ap (signed (2 ^ 15)) (two-put (unsigned (2 ^ 15) z) h (unsigned-low (2 ^ 15) z b)) ∙ signed-unsigned (2 ^ 15) z b

  pub four±-put : (z : ℤ) → at + 4 ≤ length l → mag z < 2 ^ 31 → four± (sets l at (bytes4± z)) at ≡ z
  four±-put z h b = ap (signed (2 ^ 31)) (four-put (unsigned (2 ^ 31) z) h (unsigned-low (2 ^ 31) z b)) ∙ signed-unsigned (2 ^ 31) z b
