-- A walk along a chain of the index: what is left of it at each record. Assumes nothing.
use mathlib.Core.Path.{◌≡◌, refl, sym, ap, ◌∙◌, subst}
use mathlib.Core.Bool.{Bool, true, false, cond}
use mathlib.Core.List.{List, [], ◌∷◌}
use Prim.Native.Nat.{ℕ, zero, suc, ◌+◌, ◌-◌, ◌≤◌, ◌<◌}
use native.Mathlib.Omega.{arith}
use lib.Dec.{eqb, ltb}
use lib.ListN.{get_or}
use borrow.Author.Tests.{ne_eqb, eqb-true, eqb-false, lt-ltb, le-ltb}
use Rattle.model.specs.Limits.{table_records}
use Rattle.prelude.specs.Lists.{keep, from}
use Rattle.machines.specs.Chains.{earliest, remaining}
use Rattle.machines.proofs.ChainsEarliest.{Found, none_found, one_found, earliest-one, earliest-none}
use Rattle.machines.proofs.Chains.{chain-done}
use Rattle.automata_steps.specs.Index.{owner_in, owned_by, NextOf}

-- of the numbers from k up to e that pass a test the walk is at n, or at none
pub record Here (p : ℕ → Bool) (k e n : ℕ) : Type 0 where
  pub bound : n < 65536
  pub known : (n ≡ 65535 → ⊥) → (k ≤ n) × (n < e) × (p n ≡ true)

module _ (p : ℕ → Bool) (e : ℕ) (small : e < 65536) where
  remaining-is : (k : ℕ) → keep p (from k (e - k)) ≡ remaining p e (earliest p k (e - k))
  remaining-is k = go (eqb (earliest p k (e - k)) 65535) refl
    where
      go : (b : Bool) → eqb (earliest p k (e - k)) 65535 ≡ b →
          keep p (from k (e - k)) ≡ cond b [] (earliest p k (e - k) ∷ keep p (from (earliest p k (e - k) + 1) (e - (earliest p k (e - k) + 1))))
      go true d = none_found p k e small (eqb-true (earliest p k (e - k)) 65535 d)
      go false d = (one_found p k e small (eqb-false (earliest p k (e - k)) 65535 d)).those

  module _ (k n : ℕ) (at : n ≡ earliest p k (e - k)) where
    found : (n ≡ 65535 → ⊥) → Found p k e (earliest p k (e - k))
    found l = one_found p k e small (λ d. l (at ∙ d))

    -- the first is named
    pub here-first : Here p k e n
    here-first = record { bound = go (eqb n 65535) refl; known = λ l. let f = found l in (omega (arith, f.from_start), omega (arith, f.before_end), ap p at ∙ f.passes) }
      where
        go : (b : Bool) → eqb n 65535 ≡ b → n < 65536
        go true d = omega (arith, eqb-true n 65535 d)
        go false d = omega (arith, (found (eqb-false n 65535 d)).before_end)

    pub all-remain : keep p (from k (e - k)) ≡ remaining p e n
    all-remain = remaining-is k ∙ ap (remaining p e) (sym at)

  -- what is named next stands behind
  pub rises : (n n' : ℕ) → n < e → n' ≡ earliest p (n + 1) (e - (n + 1)) → n < n'
  rises n n' h at = go (eqb n' 65535) refl
    where
      go : (b : Bool) → eqb n' 65535 ≡ b → n < n'
      go true d = omega (arith, eqb-true n' 65535 d)
      go false d = omega (arith, ((here-first (n + 1) n' at).known (eqb-false n' 65535 d)).0)

  module _ (k n n' : ℕ) (here : Here p k e n) (some-record : n ≡ 65535 → ⊥) (at : n' ≡ earliest p (n + 1) (e - (n + 1))) where
    -- the next is named
    pub here-next : Here p k e n'
    here-next =
        let h = here-first (n + 1) n' at in
        record { bound = h.bound; known = λ l. (omega (arith, (here.known some-record).0, (h.known l).0), (h.known l).1, (h.known l).2) }

    pub one_less : remaining p e n ≡ n ∷ remaining p e n'
    one_less = ap (λ b. cond b [] (n ∷ keep p (from (n + 1) (e - (n + 1))))) (ne_eqb n 65535 some-record) ∙ ap (λ l. n ∷ l) (all-remain (n + 1) n' at)

-- ---- the records of an owner

-- What is left to do of a whole: to run the rest of the owner's records, in the state so far.
pub record Walk {S X : Type 0} (run : List ℕ → S → X) (whole : X) (s : List ℕ) (start end o : ℕ) (state : S) (n : ℕ) : Type 0 where
  pub here : Here (owned_by s o) start end n
  pub left : whole ≡ run (remaining (owned_by s o) end n) state

module _ {S X : Type 0} {run : List ℕ → S → X} {whole : X} {s : List ℕ} {start end o : ℕ} (small : end ≤ table_records) where
  pub walk_from : (state : S) (n : ℕ) → n ≡ earliest (owned_by s o) start (end - start) → whole ≡ run (keep (owned_by s o) (from start (end - start))) state → Walk run whole s start end o state n
  walk_from state n at e = record {
    here = here-first (owned_by s o) end (omega arith) start n at;
    left = e ∙ ap (λ l. run l state) (all-remain (owned_by s o) end (omega arith) start n at);
  }

  module _ {state : S} {n : ℕ} (walk : Walk run whole s start end o state n) (some-record : n ≡ 65535 → ⊥) where
    -- a record of the kind, of this owner
    pub walk_at : (start ≤ n) × (n < end) × (owner_in s n ≡ o)
    walk_at = let k = walk.here.known some-record in (k.0, k.1, eqb-true (owner_in s n) o k.2)

    module _ (n' : ℕ) (at : n' ≡ earliest (owned_by s o) (n + 1) (end - (n + 1))) where
      walk-one : whole ≡ run (n ∷ remaining (owned_by s o) end n') state
      walk-one = walk.left ∙ ap (λ l. run l state) (one_less (owned_by s o) end (omega arith) start n n' walk.here some-record at)

      -- this record leaves another state
      pub walk-to : (state' : S) → ((rest : List ℕ) → run (n ∷ rest) state ≡ run rest state') → Walk run whole s start end o state' n'
      walk-to state' h = record {
        here = here-next (owned_by s o) end (omega arith) start n n' walk.here some-record at;
        left = walk-one ∙ h (remaining (owned_by s o) end n');
      }

    -- or ends the walk
    pub walk_ends : (x : X) → ((rest : List ℕ) → run (n ∷ rest) state ≡ x) → whole ≡ x
    walk_ends x h = let n' = earliest (owned_by s o) (n + 1) (end - (n + 1)) in walk-one n' refl ∙ h (remaining (owned_by s o) end n')

    module _ (next : List ℕ) (nexts : NextOf s start end next) where
      next_one : get_or next n 0 ≡ earliest (owned_by s o) (n + 1) (end - (n + 1))
      next_one = nexts n walk_at.0 walk_at.1 ∙ ap (λ k. earliest (owned_by s k) (n + 1) (end - (n + 1))) walk_at.2

      pub walk-rises : (n < get_or next n 0) × (get_or next n 0 < 65536)
      walk-rises = (
        rises (owned_by s o) end (omega arith) n (get_or next n 0) walk_at.1 next_one,
        (here-next (owned_by s o) end (omega arith) start n (get_or next n 0) walk.here some-record next_one).bound,
      )

      pub walk_more : (state' : S) → ((rest : List ℕ) → run (n ∷ rest) state ≡ run rest state') → Walk run whole s start end o state' (get_or next n 0)
      walk_more = walk-to (get_or next n 0) next_one

pub walk-done : {S X : Type 0} {run : List ℕ → S → X} {whole : X} {s : List ℕ} {start end o : ℕ} {state : S} {n : ℕ} →
    Walk run whole s start end o state n → n ≡ 65535 → whole ≡ run [] state
walk-done {run = run} {s = s} {end = end} {o = o} {state = state} {n = n} walk h = walk.left ∙ ap (λ l. run l state) (chain-done (owned_by s o) end n h)

-- ---- a chain of two kinds, one behind the other

-- a place of the chain, as the first kind sees it
abbrev pub up_to : ℕ → ℕ → ℕ
up_to m n = cond (ltb n m) n 65535

-- the walk is at the first from a number on that is not past m
pub record Ahead (p : ℕ → Bool) (m e n : ℕ) : Type 0 where
  pub since : ℕ
  pub early : since ≤ m
  pub at : n ≡ earliest p since (e - since)

module _ (p : ℕ → Bool) (m e : ℕ) (ordered : m ≤ e) (small : e < 65536) where
  -- from m on there is nothing below m
  none_below : up_to m (earliest p m (e - m)) ≡ 65535
  none_below = ap (λ b. cond b (earliest p m (e - m)) 65535) (le-ltb (earliest p m (e - m)) m (go (eqb (earliest p m (e - m)) 65535) refl))
    where
      go : (b : Bool) → eqb (earliest p m (e - m)) 65535 ≡ b → m ≤ earliest p m (e - m)
      go true d = omega (arith, eqb-true (earliest p m (e - m)) 65535 d)
      go false d = (one_found p m e small (eqb-false (earliest p m (e - m)) 65535 d)).from_start

  first_kind : (n k : ℕ) → n ≡ m - k → k ≤ m → earliest p k (m - k) ≡ up_to m (earliest p k (e - k))
  first_kind zero k h l = let z : k ≡ m = omega arith in subst (λ j. earliest p j (m - j) ≡ up_to m (earliest p j (e - j))) (sym z) (earliest-none p m ∙ sym none_below)
  first_kind (suc n) k h l =
      earliest-one p k m (omega arith)
      ∙ go (p k) (first_kind n (k + 1) (omega arith) (omega arith))
      ∙ sym (ap (up_to m) (earliest-one p k e (omega arith)))
    where
      go : (b : Bool) → earliest p (k + 1) (m - (k + 1)) ≡ up_to m (earliest p (k + 1) (e - (k + 1))) → cond b k (earliest p (k + 1) (m - (k + 1))) ≡ up_to m (cond b k (earliest p (k + 1) (e - (k + 1))))
      go true i = sym (ap (λ b. cond b k 65535) (lt-ltb k m (omega arith)))
      go false i = i

  second-kind : (n k : ℕ) → n ≡ m - k → k ≤ m → m ≤ earliest p k (e - k) → earliest p k (e - k) ≡ earliest p m (e - m)
  second-kind zero k h l b = let z : k ≡ m = omega arith in ap (λ j. earliest p j (e - j)) z
  second-kind (suc n) k h l b = earliest-one p k e (omega arith) ∙ go (p k) (subst (λ x. m ≤ x) (earliest-one p k e (omega arith)) b) (second-kind n (k + 1) (omega arith) (omega arith))
    where
      go : (t : Bool) → m ≤ cond t k (earliest p (k + 1) (e - (k + 1))) → (m ≤ earliest p (k + 1) (e - (k + 1)) → earliest p (k + 1) (e - (k + 1)) ≡ earliest p m (e - m)) →
          cond t k (earliest p (k + 1) (e - (k + 1))) ≡ earliest p m (e - m)
      go true c i = absurd (omega arith)
      go false c i = i c

  module _ {n : ℕ} (ahead : Ahead p m e n) where
    pub ahead-first : up_to m n ≡ earliest p ahead.since (m - ahead.since)
    ahead-first = ap (up_to m) ahead.at ∙ sym (first_kind (m - ahead.since) ahead.since refl ahead.early)

    pub ahead-second : m ≤ n → n ≡ earliest p m (e - m)
    ahead-second h = ahead.at ∙ second-kind (m - ahead.since) ahead.since refl ahead.early (omega (arith, ahead.at))
