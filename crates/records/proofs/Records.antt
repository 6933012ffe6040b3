-- Laws of records: each by its number, those from a number on, and how many are of a kind. Assumes nothing.
use mathlib.Core.Path.{◌≡◌, refl, ap, ◌∙◌}
use mathlib.Core.List.{List, [], ◌∷◌}
use Prim.Native.Nat.{ℕ, zero, suc, ◌+◌, ◌-◌, ◌*◌, ◌/◌, ◌<◌}
use native.Mathlib.Nat.{sub-zero, sub_self}
use native.Mathlib.Omega.{arith}
use lib.ListN.{length, get_or, take, drop}
use lib.Seq.{drop-drop, get_or-take, get_or-drop}
use Rattle.records.specs.Bytes.{byte, cut, records}

-- the record of a number
abbrev pub record_at : List ℕ → ℕ → List ℕ
record_at s i = take 16 (drop (16 * i) s)

pub byte-record : (s : List ℕ) (i k : ℕ) → k < 16 → byte (record_at s i) k ≡ byte s (16 * i + k)
byte-record s i k h = get_or-take 16 (drop (16 * i) s) k 0 h ∙ get_or-drop (16 * i) s k 0

drop-sixteen : (s : List ℕ) (i : ℕ) → drop 16 (drop (16 * i) s) ≡ drop (16 * (i + 1)) s
drop-sixteen s i = drop-drop 16 (16 * i) s ∙ ap (λ n. drop n s) (let e : 16 * i + 16 ≡ 16 * (i + 1) = omega arith in e)

get_or-cut : (m n : ℕ) (s : List ℕ) → n < m → get_or (cut m s) n [] ≡ record_at s n
unfolding cut
get_or-cut zero n s h = absurd (omega arith)
get_or-cut (suc m) zero s h = refl
get_or-cut (suc m) (suc n) s h =
    get_or-cut m n (drop 16 s) (omega arith)
    ∙ ap (take 16) (drop-drop (16 * n) 16 s ∙ ap (λ k. drop k s) (let e : 16 + 16 * n ≡ 16 * suc n = omega arith in e))

pub get_or-records : (s : List ℕ) (n : ℕ) → n < length s / 16 → get_or (records s) n [] ≡ record_at s n
get_or-records s n h = get_or-cut (length s / 16) n s h

length_cut : (n : ℕ) (s : List ℕ) → length (cut n s) ≡ n
unfolding cut
length_cut zero s = refl
length_cut (suc n) s = ap suc (length_cut n (drop 16 s))

pub length-records : (s : List ℕ) → length (records s) ≡ length s / 16
length-records s = length_cut (length s / 16) s

-- the records from a number on
abbrev pub rest : List ℕ → ℕ → List (List ℕ)
rest s i = cut (length s / 16 - i) (drop (16 * i) s)

pub rest_all : (s : List ℕ) → rest s 0 ≡ records s
rest_all s = rw (sub-zero (length s / 16))

pub rest-none : (s : List ℕ) → rest s (length s / 16) ≡ []
unfolding cut
rest-none s = rw (sub_self (length s / 16))

pub rest-one : (s : List ℕ) (i : ℕ) → i < length s / 16 → rest s i ≡ record_at s i ∷ rest s (i + 1)
unfolding cut
rest-one s i h =
    ap (λ n. cut n (drop (16 * i) s)) (let e : length s / 16 - i ≡ suc (length s / 16 - (i + 1)) = omega arith in e)
    ∙ ap (λ l. record_at s i ∷ cut (length s / 16 - (i + 1)) l) (drop-sixteen s i)
