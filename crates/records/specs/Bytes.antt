-- "Records": bytes, little-endian fields, two's complement, records of 16 bytes and their kinds. Assumes nothing: these are definitions.
use Rattle.std.specs.Prelude.{cond, List, [], ◌∷◌, ◌++◌, ℕ, zero, suc, ◌+◌, ◌*◌, ◌-◌, ◌/◌, ◌%◌, ◌^◌, ltb, eqb, length, get_or, take, drop, ℤ, pos, negsuc}
use Rattle.prelude.specs.Lists.{keep, Lists}

-- Byte k of a list, bytes k and k + 1, bytes k to k + 3. A byte past the end is 0.
abbrev pub byte : List ℕ → ℕ → ℕ
byte s k = get_or s k 0

abbrev pub two : List ℕ → ℕ → ℕ
two s k = byte s k + 256 * byte s (k + 1)

abbrev pub four : List ℕ → ℕ → ℕ
four s k = two s k + 65536 * two s (k + 2)

-- Two's complement: of 2 h numbers those from h on stand for the negative ones.
abbrev pub signed : ℕ → ℕ → ℤ
signed h n = cond (ltb n h) (pos n) (negsuc (2 * h - suc n))

abbrev pub two± : List ℕ → ℕ → ℤ
two± s k = signed (2 ^ 15) (two s k)

abbrev pub four± : List ℕ → ℕ → ℤ
four± s k = signed (2 ^ 31) (four s k)

-- The other way.
abbrev pub bytes2 : ℕ → List ℕ
bytes2 n = n % 256 ∷ (n / 256) % 256 ∷ []

abbrev pub bytes4 : ℕ → List ℕ
bytes4 n = bytes2 (n % 65536) ++ bytes2 (n / 65536)

abbrev pub unsigned : ℕ → ℤ → ℕ
unsigned h (pos n) = n
unsigned h (negsuc n) = 2 * h - suc n

abbrev pub bytes2± : ℤ → List ℕ
bytes2± z = bytes2 (unsigned (2 ^ 15) z)

abbrev pub bytes4± : ℤ → List ℕ
bytes4± z = bytes4 (unsigned (2 ^ 31) z)

-- "Files are records of 16 bytes, no header": as many as whole ones fit.
unfoldable pub cut : ℕ → List ℕ → List (List ℕ)
cut zero s = []
cut (suc n) s = take 16 s ∷ cut n (drop 16 s)

abbrev pub records : List ℕ → List (List ℕ)
records s = cut (length s / 16) s

-- "Byte 0 is the kind."
abbrev pub kind : List ℕ → ℕ
kind r = byte r 0

-- "Things of a kind are counted from 0 in file order": the thing of number i is at index i.
abbrev pub of_kind : ℕ → List ℕ → List (List ℕ)
of_kind k s = keep (λ r. eqb (kind r) k) (records s)

-- what a proof that computes with these opens
unfoldable pub Bytes : Type 0
unfolding cut Lists
Bytes = Unit
