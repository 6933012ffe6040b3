-- Texts written by loops: of one number after the other, and of a chain's members. Assumes nothing.
use mathlib.Core.Path.{◌≡◌, refl, sym, ap, ◌∙◌, subst}
use mathlib.Core.Bool.{Bool}
use mathlib.Core.List.{List, [], ◌++◌, append_assoc, append-nil}
use Prim.Native.Nat.{ℕ, ◌+◌, ◌*◌, ◌^◌, ◌≤◌, ◌<◌}
use native.Mathlib.Nat.{mul-add, mul-one}
use native.Mathlib.Omega.{arith}
use borrow.Rule.Slice.PartMut.{put_mid}
use lib.ListN.{length, get_or, take, drop}
use lib.Seq.{sets, sets-eq, take-length}
use Rattle.std.proofs.lemmas.Slice.{put_mid-paste}
use Rattle.prelude.specs.Lists.{gather, keep, from, upto}
use Rattle.records.specs.Wrote.{Wrote}
use Rattle.records.proofs.Wrote.{nothing-wrote, wrote_then}
use Rattle.machines.specs.Chains.{remaining, with_key, Chained}
use Rattle.machines.proofs.Chains.{At, chain-start, chain-all, chain_next, chain-one, chain-rises, chain-done}
use Rattle.twin_records.specs.Texts.{Puts}
use Rattle.prelude.proofs.Gathered.{gather_none, gather-cons, gather-more}

-- ---- a part of a buffer replaced

pub sets-part : (out bytes part : List ℕ) (at k : ℕ) → part ≡ bytes → k ≡ length bytes → at + k ≤ length out → put_mid at k out part ≡ sets out at bytes
sets-part out bytes part at k is long room =
    put_mid-paste at k out part bytes (length bytes) is (sym long) refl
    ∙ ap (λ t. take at out ++ t ++ drop (at + length bytes) out) (take-length bytes)
    ∙ sym (sets-eq bytes out at (omega arith))

-- ---- the texts of the numbers below n, one after the other

module _ (f : ℕ → List ℕ) {l : List ℕ} {at : ℕ} where
  pub texts-none : Wrote l at (gather f (upto 0)) l at
  unfolding from
  texts-none = rw (gather_none f) (nothing-wrote l at)

  pub texts-more : {m r : List ℕ} {j k n : ℕ} → Wrote l at (gather f (upto n)) m j → Wrote m j (f n) r k → Wrote l at (gather f (upto (n + 1))) r k
  texts-more {m} {r} {j} {k} {n} a b = subst (λ t. Wrote l at t r k) (sym (gather-more f n)) (wrote_then a b)

-- ---- the texts of the things of a key, along its chain

module _ (p : ℕ → Bool) (size : ℕ) (g : ℕ → List ℕ) (l : List ℕ) (at : ℕ) where
  -- those before a are written, none longer than a record
  pub record Along (m : List ℕ) (place a : ℕ) : Type 0 where
    pub at_hand : At p size a
    pub done : List ℕ
    pub wrote : Wrote l at done m place
    pub whole : done ++ gather g (remaining p size a) ≡ gather g (keep p (upto size))
    pub near : place ≤ at + 16 * a
    pub long : length m ≡ length l

  pub along-end : {m : List ℕ} {place a : ℕ} → Along m place a → a ≡ 65535 → (text : List ℕ) → gather g (keep p (upto size)) ≡ text → Puts l at text m place (2 ^ 20)
  along-end {m} {place} {a} c q text is = record {
    wrote =
        subst (λ t. Wrote l at t m place)
        (sym (append-nil c.done) ∙ ap (λ x. c.done ++ x) (sym (ap (gather g) (chain-done p size a q) ∙ gather_none g)) ∙ c.whole ∙ is)
        c.wrote;
    near = omega (arith, c.near);
  }

module _ (key : ℕ → ℕ) (keys size : ℕ) (first next : List ℕ) (is : Chained key keys size first next) (small : size < 65536) (k : ℕ) (one_key : k < keys)
    (g : ℕ → List ℕ) (l : List ℕ) (at : ℕ) where
  pub along-start : Along (with_key key k) size g l at l at (get_or first k 0)
  along-start = record {
    at_hand = chain-start key keys size first next is small k one_key (get_or first k 0) refl;
    done = [];
    wrote = nothing-wrote l at;
    whole = ap (gather g) (sym (chain-all key keys size first next is small k one_key (get_or first k 0) refl));
    near = omega arith;
    long = refl;
  }

  module _ {m : List ℕ} {place a : ℕ} (c : Along (with_key key k) size g l at m place a) (more : a ≡ 65535 → ⊥) where
    pub along-rises : a < get_or next a 0
    along-rises = chain-rises key keys size first next is small k one_key a (get_or next a 0) c.at_hand more refl

    pub along-more : {r : List ℕ} {then : ℕ} → length r ≡ length m → Puts m place (g a) r then 16 → Along (with_key key k) size g l at r then (get_or next a 0)
    along-more h w = record {
      at_hand = chain_next key keys size first next is small k one_key a (get_or next a 0) c.at_hand more refl;
      done = c.done ++ g a;
      wrote = wrote_then c.wrote w.wrote;
      whole =
          append_assoc c.done (g a) (gather g (remaining (with_key key k) size (get_or next a 0)))
          ∙ ap (λ x. c.done ++ x)
          (sym
          (ap (gather g) (chain-one key keys size first next is small k one_key a (get_or next a 0) c.at_hand more refl)
          ∙ gather-cons g a (remaining (with_key key k) size (get_or next a 0))))
          ∙ c.whole;
      near = omega (arith, c.near, w.near, along-rises);
      long = h ∙ c.long;
    }

-- ---- writers: each text not far

-- the texts of the numbers below i are written, none longer than a step
pub record Texts (f : ℕ → List ℕ) (step : ℕ) (l : List ℕ) (at : ℕ) (m : List ℕ) (next i : ℕ) : Type 0 where
  pub near : next ≤ at + step * i
  pub long : length m ≡ length l
  pub wrote : Wrote l at (gather f (upto i)) m next

module _ {f : ℕ → List ℕ} {step : ℕ} {l : List ℕ} {at : ℕ} where
  pub texts-start : Texts f step l at l at 0
  texts-start = record { near = omega arith; long = refl; wrote = texts-none f }

  pub texts-step : {m r : List ℕ} {j k i : ℕ} → Texts f step l at m j i → length r ≡ length m → Puts m j (f i) r k step → Texts f step l at r k (i + 1)
  texts-step {i = i} t e p = record {
    near = omega (arith, t.near, p.near, mul-add step i 1, mul-one step);
    long = e ∙ t.long;
    wrote = texts-more f t.wrote p.wrote;
  }

  pub texts-end : {n : ℕ} (text : List ℕ) → gather f (upto n) ≡ text → (far : ℕ) → step * n ≤ far → {m : List ℕ} {j i : ℕ} → Texts f step l at m j i → i ≡ n → Puts l at text m j far
  texts-end text e far h {m} {j} {i} t q = record {
    wrote = subst (λ x. Wrote l at x m j) (ap (λ k. gather f (upto k)) q ∙ e) t.wrote;
    near = let x = ap (λ k. step * k) q in omega (arith, t.near);
  }

-- a text put under another name
pub puts-as : {l m : List ℕ} {at next far : ℕ} (t : List ℕ) {u : List ℕ} → t ≡ u → Puts l at t m next far → Puts l at u m next far
puts-as {l} {m} {at} {next} {far} t e p = subst (λ x. Puts l at x m next far) e p

pub puts-nothing : (l : List ℕ) (at far : ℕ) → Puts l at [] l at far
puts-nothing l at far = record { wrote = nothing-wrote l at; near = omega arith }

pub puts_then : {l m r xs ys : List ℕ} {i j k a b : ℕ} (far : ℕ) → a + b ≤ far → Puts l i xs m j a → Puts m j ys r k b → Puts l i (xs ++ ys) r k far
puts_then far h p q = record { wrote = wrote_then p.wrote q.wrote; near = omega (arith, p.near, q.near) }

pub puts-far : {l m xs : List ℕ} {i j a : ℕ} (far : ℕ) → a ≤ far → Puts l i xs m j a → Puts l i xs m j far
puts-far far h p = record { wrote = p.wrote; near = omega (arith, p.near) }
