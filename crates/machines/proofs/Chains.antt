-- Chains in tables: as they are made, from the last thing down to the first, and as a loop goes along one. Assumes nothing.
use mathlib.Core.Path.{◌≡◌, refl, sym, ap, ◌∙◌}
use mathlib.Core.Bool.{Bool, true, false, cond}
use mathlib.Core.List.{List, [], ◌∷◌}
use Prim.Native.Nat.{ℕ, ◌+◌, ◌-◌, ◌≤◌, ◌<◌}
use native.Mathlib.Nat.{sub-zero}
use native.Mathlib.Omega.{arith}
use lib.Dec.{eqb}
use lib.ListN.{length, get_or, set, replicate, length-set, length-replicate, get_or-replicate}
use lib.Seq.{get_or-set_same, get_or-set_other}
use borrow.Author.Tests.{eq-eqb, ne_eqb, eqb-true, eqb-false}
use Rattle.prelude.specs.Lists.{keep, from, upto}
use Rattle.machines.specs.Chains.{earliest, remaining, with_key, Chained}
use Rattle.machines.proofs.ChainsEarliest.{Found, none_found, one_found, earliest-one, earliest-none}

-- ---- as they are made: tables of so many keys, and of room for so many things

module _ (key : ℕ → ℕ) (keys room size : ℕ) where
  -- filled down to thing a
  pub record Chains (first next : List ℕ) (a : ℕ) : Type 0 where
    pub bound : a ≤ size
    pub long : length first ≡ keys
    pub wide : length next ≡ room
    pub firsts : (k : ℕ) → k < keys → get_or first k 0 ≡ earliest (with_key key k) a (size - a)
    pub nexts : (b : ℕ) → a ≤ b → b < size → key b < keys → get_or next b 0 ≡ earliest (with_key key (key b)) (b + 1) (size - (b + 1))

  pub chains-none : Chains (replicate {A = ℕ} keys 65535) (replicate {A = ℕ} room 65535) size
  chains-none = record {
    bound = omega arith;
    long = length-replicate {A = ℕ} keys 65535;
    wide = length-replicate {A = ℕ} room 65535;
    firsts = λ k h. get_or-replicate {A = ℕ} keys k 65535 0 h ∙ sym (earliest-none (with_key key k) size);
    nexts = λ b l h _. absurd (omega arith);
  }

  -- a thing finds the one behind it, and becomes the first of its key
  pub chains-more : (first next : List ℕ) (u i : ℕ) → Chains first next (u + 1) → size ≤ room → key u ≡ i → i < keys → Chains (set first i u) (set next u (get_or first i 0)) u
  chains-more first next u i so_far small e h = record {
    bound = omega (arith, so_far.bound);
    long = length-set first i u ∙ so_far.long;
    wide = length-set next u (get_or first i 0) ∙ so_far.wide;
    firsts = λ k l. one k l (eqb (key u) k) refl ∙ sym (earliest-one (with_key key k) u size (omega (arith, so_far.bound)));
    nexts = λ b l m n. other b l m n (eqb b u) refl;
  }
    where
      one : (k : ℕ) → k < keys → (o : Bool) → eqb (key u) k ≡ o → get_or (set first i u) k 0 ≡ cond o u (earliest (with_key key k) (u + 1) (size - (u + 1)))
      one k l true d =
          let x : k ≡ i = sym (eqb-true (key u) k d) ∙ e in
          ap (λ m. get_or (set first i u) m 0) x ∙ get_or-set_same first i u 0 (omega (arith, so_far.long))
      one k l false d = get_or-set_other first i k u 0 (λ q. eqb-false (key u) k d (e ∙ sym q)) ∙ so_far.firsts k l

      other : (b : ℕ) → u ≤ b → b < size → key b < keys → (o : Bool) → eqb b u ≡ o →
          get_or (set next u (get_or first i 0)) b 0 ≡ earliest (with_key key (key b)) (b + 1) (size - (b + 1))
      other b l m n true d =
          let x : b ≡ u = eqb-true b u d in
          ap (λ n. get_or (set next u (get_or first i 0)) n 0) x
          ∙ get_or-set_same next u (get_or first i 0) 0 (omega (arith, so_far.wide, so_far.bound))
          ∙ so_far.firsts i h
          ∙ (λ j. earliest (with_key key (sym e j)) (u + 1) (size - (u + 1)))
          ∙ ap (λ n. earliest (with_key key (key n)) (n + 1) (size - (n + 1))) (sym x)
      other b l m n false d =
          let x : b ≡ u → ⊥ = eqb-false b u d in
          get_or-set_other next u b (get_or first i 0) 0 x ∙ so_far.nexts b (omega arith) m n

  pub chains-made : (first next : List ℕ) → Chains first next 0 → Chained key keys size first next
  chains-made first next all_of = record {
    first_of = λ k h. all_of.firsts k h ∙ ap (earliest (with_key key k) 0) (sub-zero size);
    next_of = λ a h l. all_of.nexts a (omega arith) h l;
  }

-- ---- as a loop goes along one: a is the thing at hand, or 65,535 at the end

-- what is known of a
pub record At (p : ℕ → Bool) (size a : ℕ) : Type 0 where
  pub bound : a < 65536
  pub known : (a ≡ 65535 → ⊥) → (a < size) × (p a ≡ true)

module _ (p : ℕ → Bool) (size : ℕ) (small : size < 65536) where
  at-earliest : (k a : ℕ) → a ≡ earliest p k (size - k) → At p size a
  at-earliest k a h = record { bound = go (eqb a 65535) refl; known = one }
    where
      one : (a ≡ 65535 → ⊥) → (a < size) × (p a ≡ true)
      one n = let f : Found p k size (earliest p k (size - k)) = one_found p k size small (λ d. n (h ∙ d)) in (omega (arith, f.before_end), ap p h ∙ f.passes)

      go : (b : Bool) → eqb a 65535 ≡ b → a < 65536
      go true d = omega (arith, eqb-true a 65535 d)
      go false d = omega (arith, (one (eqb-false a 65535 d)).0)

  pub remaining-is : (k a : ℕ) → a ≡ earliest p k (size - k) → keep p (from k (size - k)) ≡ remaining p size a
  remaining-is k a h = go (eqb (earliest p k (size - k)) 65535) refl ∙ ap (remaining p size) (sym h)
    where
      go : (b : Bool) → eqb (earliest p k (size - k)) 65535 ≡ b →
          keep p (from k (size - k)) ≡ cond b [] (earliest p k (size - k) ∷ keep p (from (earliest p k (size - k) + 1) (size - (earliest p k (size - k) + 1))))
      go true d = none_found p k size small (eqb-true (earliest p k (size - k)) 65535 d)
      go false d = (one_found p k size small (eqb-false (earliest p k (size - k)) 65535 d)).those

-- the end
pub chain-done : (p : ℕ → Bool) (size a : ℕ) → a ≡ 65535 → remaining p size a ≡ []
chain-done p size a h = ap (λ b. cond b [] (a ∷ keep p (from (a + 1) (size - (a + 1))))) (eq-eqb a 65535 h)

module _ (key : ℕ → ℕ) (keys size : ℕ) (first next : List ℕ) (is : Chained key keys size first next) (small : size < 65536) (k : ℕ) (one_key : k < keys) where
  -- at the start all things of the key remain
  module _ (a : ℕ) (named : a ≡ get_or first k 0) where
    from_first : a ≡ earliest (with_key key k) 0 (size - 0)
    from_first = named ∙ is.first_of k one_key ∙ ap (earliest (with_key key k) 0) (sym (sub-zero size))

    pub chain-start : At (with_key key k) size a
    chain-start = at-earliest (with_key key k) size small 0 a from_first

    pub chain-all : keep (with_key key k) (upto size) ≡ remaining (with_key key k) size a
    chain-all = ap (λ n. keep (with_key key k) (from 0 n)) (sym (sub-zero size)) ∙ remaining-is (with_key key k) size small 0 a from_first

  -- a step: what remains is a, and what remains at the next
  module _ (a a' : ℕ) (at : At (with_key key k) size a) (more : a ≡ 65535 → ⊥) (named : a' ≡ get_or next a 0) where
    from_next : a' ≡ earliest (with_key key k) (a + 1) (size - (a + 1))
    from_next =
        let e : key a ≡ k = eqb-true (key a) k (at.known more).1 in
        named ∙ is.next_of a (at.known more).0 (omega (arith, e)) ∙ ap (λ j. earliest (with_key key j) (a + 1) (size - (a + 1))) e

    pub chain_next : At (with_key key k) size a'
    chain_next = at-earliest (with_key key k) size small (a + 1) a' from_next

    pub chain-one : remaining (with_key key k) size a ≡ a ∷ remaining (with_key key k) size a'
    chain-one =
        ap (λ b. cond b [] (a ∷ keep (with_key key k) (from (a + 1) (size - (a + 1))))) (ne_eqb a 65535 more)
        ∙ ap (λ l. a ∷ l) (remaining-is (with_key key k) size small (a + 1) a' from_next)

    -- the next stands behind
    pub chain-rises : a < a'
    chain-rises = go (eqb a' 65535) refl
      where
        go : (b : Bool) → eqb a' 65535 ≡ b → a < a'
        go true d = omega (arith, eqb-true a' 65535 d, (at.known more).0)
        go false d = omega (arith, from_next, (one_found (with_key key k) (a + 1) size small (λ z. eqb-false a' 65535 d (from_next ∙ z))).from_start)
