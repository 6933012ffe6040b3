-- Decimal digits: more depth than digits changes nothing, the last digit apart, and how many there are. Assumes nothing.
use mathlib.Core.Path.{◌≡◌, refl, ap, ◌∙◌, subst}
use mathlib.Core.Bool.{Bool, true, false, cond}
use mathlib.Core.List.{List, [], ◌∷◌, ◌++◌}
use Prim.Native.Nat.{ℕ, zero, suc, ◌+◌, ◌-◌, ◌*◌, ◌/◌, ◌%◌, ◌^◌, ◌≤◌, ◌<◌}
use native.Mathlib.Nat.{pow-suc}
use native.Mathlib.Omega.{arith}
use borrow.Author.Tests.{lt-ltb, le-ltb, ltb-false}
use lib.Dec.{ltb}
use lib.ListN.{length, length-append}
use lib.IntN.{ℤ, pos, negsuc}
use lib.Signed.{mag}
use Rattle.model.specs.Replay.{digits, decimal, signed_decimal, space}

-- the last digit after those before it
abbrev ending : ℕ → Bool → List ℕ → List ℕ
ending n b ds = cond b [] ds ++ ((48 + n % 10) ∷ [])

digits_step : (d n : ℕ) → digits (suc d) n ≡ ending n (ltb n 10) (digits d (n / 10))
unfolding digits
digits_step d n = refl

ending-same : (n : ℕ) (b : Bool) (ds es : List ℕ) → (b ≡ false → ds ≡ es) → ending n b ds ≡ ending n b es
ending-same n true ds es e = refl
ending-same n false ds es e = ap (ending n false) (e refl)

pub digits-deeper : (d n : ℕ) → n < 10 ^ suc d → digits (suc d) n ≡ digits (suc (suc d)) n
unfolding digits
digits-deeper zero n h = ending-same n (ltb n 10) (digits 0 (n / 10)) (digits 1 (n / 10)) (λ e. let k : 10 ≤ n = ltb-false n 10 e in absurd (omega arith))
digits-deeper (suc d) n h =
    ending-same n (ltb n 10) (digits (suc d) (n / 10)) (digits (suc (suc d)) (n / 10)) (λ e. digits-deeper d (n / 10) (let p : 10 ^ suc (suc d) ≡ 10 ^ suc d * 10 = pow-suc 10 (suc d) in omega arith))

-- so the depth is any that suffices
digits-enough : (k d n : ℕ) → n < 10 ^ suc d → k + suc d ≡ 20 → digits (suc d) n ≡ decimal n
digits-enough zero d n h e = ap (λ m. digits m n) (let f : suc d ≡ 20 = omega arith in f)
digits-enough (suc k) d n h e = digits-deeper d n h ∙ digits-enough k (suc d) n (let p : 10 ^ suc (suc d) ≡ 10 ^ suc d * 10 = pow-suc 10 (suc d) in omega arith) (omega arith)

-- ---- the last digit

pub decimal-one : (n : ℕ) → n < 10 → decimal n ≡ (48 + n % 10) ∷ []
decimal-one n h = digits_step 19 n ∙ ap (λ b. ending n b (digits 19 (n / 10))) (lt-ltb n 10 h)

pub decimal-more : (n : ℕ) → 10 ≤ n → n < 2 ^ 32 → decimal n ≡ decimal (n / 10) ++ ((48 + n % 10) ∷ [])
decimal-more n h l = digits_step 19 n ∙ ap (λ b. ending n b (digits 19 (n / 10))) (le-ltb n 10 h) ∙ ap (ending n false) (digits-deeper 18 (n / 10) (omega arith))

-- ---- how many

ending-length : (n d : ℕ) (b : Bool) (ds : List ℕ) → length ds ≤ d → length (ending n b ds) ≤ suc d
ending-length n d true ds h = omega arith
ending-length n d false ds h = omega (arith, length-append ds ((48 + n % 10) ∷ []))

pub length_digits : (d n : ℕ) → length (digits d n) ≤ d
unfolding digits
length_digits zero n = omega arith
length_digits (suc d) n = ending-length n d (ltb n 10) (digits d (n / 10)) (length_digits d (n / 10))

pub length-decimal : (d n : ℕ) → d < 20 → n < 10 ^ suc d → length (decimal n) ≤ suc d
length-decimal d n l h = subst (λ t. length t ≤ suc d) (digits-enough (19 - d) d n h (omega arith)) (length_digits (suc d) n)

pub decimal_of_32_bits : (n : ℕ) → n < 2 ^ 32 → length (decimal n) ≤ 10
decimal_of_32_bits n h = length-decimal 9 n (omega arith) (omega arith)

pub decimal_of_16_bits : (n : ℕ) → n < 2 ^ 16 → length (decimal n) ≤ 5
decimal_of_16_bits n h = length-decimal 4 n (omega arith) (omega arith)

pub fitting-field : (d n : ℕ) → d < 20 → n < 10 ^ suc d → length (space ∷ decimal n) ≤ suc (suc d)
fitting-field d n l h = omega (arith, length-decimal d n l h)

pub length-signed16 : (z : ℤ) → mag z < 2 ^ 15 → length (signed_decimal z) ≤ 6
length-signed16 (pos n) h = omega (arith, length-decimal 4 n (omega arith) (omega arith))
length-signed16 (negsuc n) h = omega (arith, length-decimal 4 (suc n) (omega arith) (omega arith))
