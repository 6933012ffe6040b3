-- Numbers of a line: decimal text is read as its number, and what is read as a number is its decimal text. Assumes nothing.
use mathlib.Core.Path.{◌≡◌, refl, sym, ap, ◌∙◌, subst}
use mathlib.Core.Bool.{Bool, true, false, not, cond, ◌&&◌}
use mathlib.Core.List.{List, [], ◌∷◌, ◌++◌, append_assoc}
use Prim.Native.Nat.{ℕ, zero, suc, ◌+◌, ◌-◌, ◌*◌, ◌/◌, ◌%◌, ◌^◌, ◌≤◌, ◌<◌}
use native.Mathlib.Omega.{arith}
use borrow.Author.Tests.{le-ltb, le-leb, leb-true, ltb-true, ltb-false, eqb-true, eqb-false, not-false}
use lib.Dec.{leb, ltb, eqb}
use Rattle.prelude.proofs.Counts.{and-true}
use Rattle.prelude.proofs.Numbers.{both_true}
use Rattle.records.specs.Bytes.{byte}
use Rattle.records.specs.Refusal.{broken_line, Out, val, ◌>>◌, fault_if}
use Rattle.model.specs.Replay.{decimal}
use Rattle.lines.proofs.Digits.{decimal-one, decimal-more}
use Rattle.guards.specs.Grammar.{Read, read, is_digit, digits_after, up_to, numeral}
use Rattle.guards.proofs.Values.{val_same, no_value, passed}

-- ---- one digit

pub digit-by : (b : ℕ) → 48 ≤ b → b ≤ 57 → is_digit b ≡ true
digit-by b l h = both_true (le-leb 48 b l) (le-leb b 57 h)

pub digit-least : (b : ℕ) → is_digit b ≡ true → 48 ≤ b
digit-least b e = leb-true 48 b (and-true (leb 48 b) (leb b 57) e).0

pub digit-most : (b : ℕ) → is_digit b ≡ true → b ≤ 57
digit-most b e = leb-true b 57 (and-true (leb 48 b) (leb b 57) e).1

pub digits-by : (n b : ℕ) (s : List ℕ) → digits_after n (b ∷ s) ≡ cond (is_digit b) (digits_after (10 * n + (b - 48)) s) (record { got = n; rest = b ∷ s })
unfolding digits_after
digits-by n b s = refl

digits_after-digit : (n b m : ℕ) (s : List ℕ) → is_digit b ≡ true → 10 * n + (b - 48) ≡ m → digits_after n (b ∷ s) ≡ digits_after m s
digits_after-digit n b m s e f = digits-by n b s ∙ rw (e, f) refl

pub digits_after-other : (n b : ℕ) (s : List ℕ) → is_digit b ≡ false → digits_after n (b ∷ s) ≡ record { got = n; rest = b ∷ s }
digits_after-other n b s e = digits-by n b s ∙ rw e refl

pub digits_after-end : (n : ℕ) (s : List ℕ) → is_digit (byte s 0) ≡ false → digits_after n s ≡ record { got = n; rest = s }
unfolding digits_after
digits_after-end n [] e = refl
digits_after-end n (b ∷ s) e = digits_after-other n b s e

-- ---- decimal text is read

module _ (n : ℕ) (r : List ℕ) where
  one-digit : n < 10 → digits_after 0 (decimal n ++ r) ≡ digits_after n r
  one-digit h = ap (λ ds. digits_after 0 (ds ++ r)) (decimal-one n h) ∙ digits_after-digit 0 (48 + n % 10) n r (digit-by (48 + n % 10) (omega arith) (omega arith)) (omega arith)

  more-digits : 10 ≤ n → n < 2 ^ 32 → digits_after 0 (decimal (n / 10) ++ (48 + n % 10) ∷ r) ≡ digits_after (n / 10) ((48 + n % 10) ∷ r) → digits_after 0 (decimal n ++ r) ≡ digits_after n r
  more-digits h l e =
      ap (λ ds. digits_after 0 (ds ++ r)) (decimal-more n h l)
      ∙ ap (digits_after 0) (append_assoc (decimal (n / 10)) ((48 + n % 10) ∷ []) r)
      ∙ e
      ∙ digits_after-digit (n / 10) (48 + n % 10) n r (digit-by (48 + n % 10) (omega arith) (omega arith)) (omega arith)

  by_digits : (b : Bool) → ltb n 10 ≡ b → n < 2 ^ 32 → digits_after 0 (decimal (n / 10) ++ (48 + n % 10) ∷ r) ≡ digits_after (n / 10) ((48 + n % 10) ∷ r) → digits_after 0 (decimal n ++ r) ≡ digits_after n r
  by_digits true e l f = one-digit (ltb-true n 10 e)
  by_digits false e l f = more-digits (ltb-false n 10 e) l f

-- by a bound on the number, which has a digit less behind its last
decimal-read : (m n : ℕ) (r : List ℕ) → n ≤ m → n < 2 ^ 32 → digits_after 0 (decimal n ++ r) ≡ digits_after n r
decimal-read zero n r h l = one-digit n r (omega arith)
decimal-read (suc m) n r h l = by_digits n r (ltb n 10) refl l (decimal-read m (n / 10) ((48 + n % 10) ∷ r) (omega arith) (omega arith))

pub digits_after-decimal : (n : ℕ) (r : List ℕ) → n < 2 ^ 32 → is_digit (byte r 0) ≡ false → digits_after 0 (decimal n ++ r) ≡ record { got = n; rest = r }
digits_after-decimal n r l e = decimal-read n n r (omega arith) l ∙ digits_after-end n r e

-- ---- its first digit

pub record Leading (n : ℕ) (ds : List ℕ) : Type 0 where
  pub first : ℕ
  pub others : List ℕ
  pub same : ds ≡ first ∷ others
  pub digit : is_digit first ≡ true
  -- 0 leads only itself
  pub lone : first ≡ 48 → (n ≡ 0) × (others ≡ [])

module _ (n : ℕ) where
  leads-itself : n < 10 → Leading n (decimal n)
  leads-itself h = record { first = 48 + n % 10; others = []; same = decimal-one n h; digit = digit-by (48 + n % 10) (omega arith) (omega arith); lone = λ e. (omega arith, refl) }

  leads-more : 10 ≤ n → n < 2 ^ 32 → Leading (n / 10) (decimal (n / 10)) → Leading n (decimal n)
  leads-more h l d =
      record {
        first = d.first;
        others = d.others ++ ((48 + n % 10) ∷ []);
        same = decimal-more n h l ∙ ap (λ ds. ds ++ ((48 + n % 10) ∷ [])) d.same;
        digit = d.digit;
        lone = λ e. let z : n / 10 ≡ 0 = (d.lone e).0 in absurd (omega arith);
      }

  leads-by : (b : Bool) → ltb n 10 ≡ b → n < 2 ^ 32 → Leading (n / 10) (decimal (n / 10)) → Leading n (decimal n)
  leads-by true e l d = leads-itself (ltb-true n 10 e)
  leads-by false e l d = leads-more (ltb-false n 10 e) l d

leading : (m n : ℕ) → n ≤ m → n < 2 ^ 32 → Leading n (decimal n)
leading zero n h l = leads-itself n (omega arith)
leading (suc m) n h l = leads-by n (ltb n 10) refl l (leading m (n / 10) (omega arith) (omega arith))

pub decimal-leading : (n : ℕ) → n < 2 ^ 32 → Leading n (decimal n)
decimal-leading n l = leading n n (omega arith) l

-- ---- a whole number

abbrev numeral_by : Bool → Bool → ℕ → Read ℕ → Out (Read ℕ)
numeral_by digit zeros most n = fault_if (not digit) broken_line >> (fault_if zeros broken_line >> up_to most n)

module _ (most n : ℕ) (r : List ℕ) (l : n < 2 ^ 32) (e : is_digit (byte r 0) ≡ false) where
  first-digit : (d : Leading n (decimal n)) → is_digit (byte (decimal n ++ r) 0) ≡ true
  first-digit d = ap (λ ds. is_digit (byte (ds ++ r) 0)) d.same ∙ d.digit

  no-zero-by : (c : ℕ) (others : List ℕ) (b : Bool) → eqb c 48 ≡ b → (c ≡ 48 → others ≡ []) → (b && is_digit (byte (others ++ r) 0)) ≡ false
  no-zero-by c others false f g = refl
  no-zero-by c others true f g = ap (λ ds. is_digit (byte (ds ++ r) 0)) (g (eqb-true c 48 f)) ∙ e

  no_zero : (d : Leading n (decimal n)) → (eqb (byte (decimal n ++ r) 0) 48 && is_digit (byte (decimal n ++ r) 1)) ≡ false
  no_zero d = ap (λ ds. eqb (byte (ds ++ r) 0) 48 && is_digit (byte (ds ++ r) 1)) d.same ∙ no-zero-by d.first d.others (eqb d.first 48) refl (λ f. (d.lone f).1)

  pub numeral-decimal : n ≤ most → numeral most (decimal n ++ r) ≡ read n r
  numeral-decimal h =
      let d : Leading n (decimal n) = decimal-leading n l in
      ap (λ t. numeral_by t (eqb (byte (decimal n ++ r) 0) 48 && is_digit (byte (decimal n ++ r) 1)) most (digits_after 0 (decimal n ++ r))) (first-digit d)
      ∙ ap (λ t. numeral_by true t most (digits_after 0 (decimal n ++ r))) (no_zero d)
      ∙ ap (up_to most) (digits_after-decimal n r l e)
      ∙ ap (λ t. fault_if t broken_line >> read n r) (le-ltb most n h)

-- ---- what is read is decimal text

-- more digits make no smaller number
pub digits_after-grows : (n : ℕ) (s : List ℕ) → n ≤ (digits_after n s).got
unfolding digits_after
digits_after-grows n [] = omega arith
digits_after-grows n (b ∷ s) = go (is_digit b) (digits_after-grows (10 * n + (b - 48)) s)
  where
    go : (t : Bool) → 10 * n + (b - 48) ≤ (digits_after (10 * n + (b - 48)) s).got → n ≤ (cond t (digits_after (10 * n + (b - 48)) s) (record { got = n; rest = b ∷ s })).got
    go true h = omega arith
    go false h = omega arith

-- the text of x
abbrev text : Read ℕ → List ℕ
text x = decimal x.got ++ x.rest

abbrev Told : List ℕ → Type 0
Told s = (n : ℕ) (x : Read ℕ) → digits_after n s ≡ x → 1 ≤ n → x.got < 2 ^ 32 → decimal n ++ s ≡ text x

module _ (n b : ℕ) (s : List ℕ) where
  digit-appended : is_digit b ≡ true → 1 ≤ n → 10 * n + (b - 48) < 2 ^ 32 → decimal n ++ b ∷ s ≡ decimal (10 * n + (b - 48)) ++ s
  digit-appended e l h =
      let low : 48 ≤ b = digit-least b e in
      let high : b ≤ 57 = digit-most b e in
      let m : (10 * n + (b - 48)) / 10 ≡ n = omega arith in
      let c : 48 + (10 * n + (b - 48)) % 10 ≡ b = omega arith in
      sym (append_assoc (decimal n) (b ∷ []) s) ∙ ap (λ ds. ds ++ s) (sym (decimal-more (10 * n + (b - 48)) (omega arith) h ∙ (λ i. decimal (m i) ++ (c i ∷ []))))

  told-by : (t : Bool) → is_digit b ≡ t → Told s → (x : Read ℕ) → digits_after n (b ∷ s) ≡ x → 1 ≤ n → x.got < 2 ^ 32 → decimal n ++ b ∷ s ≡ text x
  told-by true e f x g l h =
      let i : digits_after (10 * n + (b - 48)) s ≡ x = sym (digits_after-digit n b (10 * n + (b - 48)) s e refl) ∙ g in
      let most : 10 * n + (b - 48) ≤ x.got = subst (λ x. 10 * n + (b - 48) ≤ x.got) i (digits_after-grows (10 * n + (b - 48)) s) in
      digit-appended e l (omega arith) ∙ f (10 * n + (b - 48)) x i (omega arith) h
  told-by false e f x g l h = ap text (sym (digits_after-other n b s e) ∙ g)

digits_after-told : (s : List ℕ) → Told s
unfolding digits_after
digits_after-told [] n x e l h = ap text e
digits_after-told (b ∷ s) n x e l h = told-by n b s (is_digit b) refl (digits_after-told s) x e l h

-- the number is its text, of at most so much
pub record Numeral (most : ℕ) (s : List ℕ) (x : Read ℕ) : Type 0 where
  pub same : s ≡ decimal x.got ++ x.rest
  pub short : x.got ≤ most

module _ (b : ℕ) (s : List ℕ) (x : Read ℕ) (e : is_digit b ≡ true) (f : digits_after 0 (b ∷ s) ≡ x) where
  zero-told : b ≡ 48 → is_digit (byte s 0) ≡ false → b ∷ s ≡ text x
  zero-told g h = ap (λ c. c ∷ s) g ∙ ap (λ ds. ds ++ s) (sym (decimal-one 0 (omega arith))) ∙ ap text (sym (digits_after-digit 0 b 0 s e (omega arith) ∙ digits_after-end 0 s h) ∙ f)

  other-told : (b ≡ 48 → ⊥) → x.got < 2 ^ 32 → b ∷ s ≡ text x
  other-told g h =
      let low : 48 ≤ b = digit-least b e in
      let high : b ≤ 57 = digit-most b e in
      let c : b ≡ 48 + (b - 48) % 10 = omega (arith, g) in
      ap (λ c. c ∷ s) c
      ∙ ap (λ ds. ds ++ s) (sym (decimal-one (b - 48) (omega arith)))
      ∙ digits_after-told s (b - 48) x (sym (digits_after-digit 0 b (b - 48) s e (omega arith)) ∙ f) (omega (arith, g)) h

  number-told : (t : Bool) → eqb b 48 ≡ t → (t && is_digit (byte s 0)) ≡ false → x.got < 2 ^ 32 → b ∷ s ≡ text x
  number-told true g z h = zero-told (eqb-true b 48 g) z
  number-told false g z h = other-told (eqb-false b 48 g) h

pub numeral-told : (most : ℕ) (s : List ℕ) (x : Read ℕ) → most < 2 ^ 32 → numeral most s ≡ val x → Numeral most s x
numeral-told most [] x l e = no_value e
numeral-told most (b ∷ s) x l e =
    let n : Read ℕ = digits_after 0 (b ∷ s) in
    let f : (not (is_digit b) ≡ false) × ((fault_if (eqb b 48 && is_digit (byte s 0)) broken_line >> up_to most n) ≡ val x) = passed (not (is_digit b)) broken_line _ e in
    let g : ((eqb b 48 && is_digit (byte s 0)) ≡ false) × (up_to most n ≡ val x) = passed (eqb b 48 && is_digit (byte s 0)) broken_line _ f.1 in
    let h : (ltb most n.got ≡ false) × (val n ≡ val x) = passed (ltb most n.got) broken_line _ g.1 in
    let short : x.got ≤ most = subst (λ x. x.got ≤ most) (val_same h.1) (ltb-false most n.got h.0) in
    record { same = number-told b s x (not-false (is_digit b) f.0) (val_same h.1) (eqb b 48) refl g.0 (omega arith); short = short }
