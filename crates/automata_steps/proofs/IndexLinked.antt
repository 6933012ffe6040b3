-- The index as it is filled, from the last record of a kind down to the first: what stands in it is the earliest so far. Assumes nothing.
use mathlib.Core.Path.{◌≡◌, refl, sym, ap, ◌∙◌, subst}
use mathlib.Core.Logic.{inl, inr, ⊎_elim}
use mathlib.Core.Bool.{Bool, true, false, cond}
use mathlib.Core.List.{List}
use Prim.Native.Nat.{ℕ, ◌+◌, ◌*◌, ◌-◌, ◌≤◌, ◌<◌}
use native.Mathlib.Omega.{arith}
use lib.Dec.{eqb}
use lib.ListN.{length, get_or, set, replicate, length-set, length-replicate, get_or-replicate}
use lib.Seq.{get_or-set_same, get_or-set_other}
use borrow.Author.Tests.{eqb-true, eqb-false}
use Rattle.model.specs.Limits.{table_records}
use Rattle.machines.specs.Chains.{earliest}
use Rattle.machines.proofs.ChainsEarliest.{earliest-one, earliest-none}
use Rattle.automata_steps.specs.Index.{owner_in, owned_by, Linked, Vacant, Blank, Apart, Linkable, Links, table_keys}
use Rattle.automata_steps.specs.declared.index.Span.{Span}

pub apart-within : (lo hi start end k : ℕ) → lo ≤ start → end ≤ hi → Apart lo hi k → Apart start end k
apart-within lo hi start end k a b (inl h) = inl (omega arith)
apart-within lo hi start end k a b (inr h) = inr (omega arith)

module _ (s : List ℕ) (start end base owners : ℕ) (first₀ next₀ : List ℕ) where
  -- filled down to record n; what is not of this kind stays
  pub record Filling (first next : List ℕ) (n : ℕ) : Type 0 where
    pub above : start ≤ n
    pub below : n ≤ end
    pub keys : length first ≡ length first₀
    pub numbers : length next ≡ length next₀
    pub firsts : (o : ℕ) → o < owners → get_or first (base + o) 0 ≡ earliest (owned_by s o) n (end - n)
    pub nexts : (m : ℕ) → n ≤ m → m < end → get_or next m 0 ≡ earliest (owned_by s (owner_in s m)) (m + 1) (end - (m + 1))
    pub other_firsts : (k : ℕ) → Apart base (base + owners) k → get_or first k 0 ≡ get_or first₀ k 0
    pub other_nexts : (k : ℕ) → Apart start end k → get_or next k 0 ≡ get_or next₀ k 0

  pub filling-none : start ≤ end → ((o : ℕ) → o < owners → get_or first₀ (base + o) 0 ≡ 65535) → Filling first₀ next₀ end
  filling-none l h = record {
    above = l;
    below = omega arith;
    keys = refl;
    numbers = refl;
    firsts = λ o b. h o b ∙ sym (earliest-none (owned_by s o) end);
    nexts = λ m a b. absurd (omega arith);
    other_firsts = λ k a. refl;
    other_nexts = λ k a. refl;
  }

  -- record u goes before the first of its owner
  module _ (first next : List ℕ) (u i : ℕ) (so_far : Filling first next (u + 1)) (from_start : start ≤ u) (own : owner_in s u ≡ i) (in-range : i < owners)
      (room : base + owners ≤ length first₀) (space : end ≤ length next₀) where
    first-there : (o : ℕ) → o < owners → (b : Bool) → eqb (owner_in s u) o ≡ b → get_or (set first (base + i) u) (base + o) 0 ≡ cond b u (earliest (owned_by s o) (u + 1) (end - (u + 1)))
    first-there o l true d =
        let x : base + o ≡ base + i = ap (λ k. base + k) (sym (eqb-true (owner_in s u) o d) ∙ own) in
        ap (λ m. get_or (set first (base + i) u) m 0) x ∙ get_or-set_same first (base + i) u 0 (omega (arith, so_far.keys))
    first-there o l false d =
        get_or-set_other first (base + i) (base + o) u 0 (λ q. eqb-false (owner_in s u) o d (let z : i ≡ o = omega arith in own ∙ z)) ∙ so_far.firsts o l

    next-there : (m : ℕ) → u ≤ m → m < end → (b : Bool) → eqb m u ≡ b →
        get_or (set next u (get_or first (base + i) 0)) m 0 ≡ earliest (owned_by s (owner_in s m)) (m + 1) (end - (m + 1))
    next-there m l h true d =
        let x : m ≡ u = eqb-true m u d in
        ap (λ k. get_or (set next u (get_or first (base + i) 0)) k 0) x
        ∙ get_or-set_same next u (get_or first (base + i) 0) 0 (omega (arith, so_far.numbers, so_far.below))
        ∙ so_far.firsts i in-range
        ∙ (λ j. earliest (owned_by s (sym own j)) (u + 1) (end - (u + 1)))
        ∙ ap (λ k. earliest (owned_by s (owner_in s k)) (k + 1) (end - (k + 1))) (sym x)
    next-there m l h false d =
        let x : m ≡ u → ⊥ = eqb-false m u d in
        get_or-set_other next u m (get_or first (base + i) 0) 0 x ∙ so_far.nexts m (omega arith) h

    pub filling-more : Filling (set first (base + i) u) (set next u (get_or first (base + i) 0)) u
    filling-more = record {
      above = from_start;
      below = omega (arith, so_far.below);
      keys = length-set first (base + i) u ∙ so_far.keys;
      numbers = length-set next u (get_or first (base + i) 0) ∙ so_far.numbers;
      firsts = λ o l. first-there o l (eqb (owner_in s u) o) refl ∙ sym (earliest-one (owned_by s o) u end (omega (arith, so_far.below)));
      nexts = λ m l h. next-there m l h (eqb m u) refl;
      other_firsts = λ k a. get_or-set_other first (base + i) k u 0 (λ q. ⊎_elim (λ w. omega arith) (λ w. omega arith) a) ∙ so_far.other_firsts k a;
      other_nexts = λ k a. get_or-set_other next u k (get_or first (base + i) 0) 0 (λ q. ⊎_elim (λ w. omega arith) (λ w. omega (arith, so_far.below)) a) ∙ so_far.other_nexts k a;
    }

  pub filling-done : (first next : List ℕ) → Filling first next start → Linked s start end base owners first next
  filling-done first next f = record { first_of = f.firsts; next_of = f.nexts }

-- ---- one kind after the other

pub blank : Blank (replicate {A = ℕ} table_keys 65535)
blank = record { keys = length-replicate {A = ℕ} table_keys 65535; vacant = λ j a b. get_or-replicate {A = ℕ} table_keys j 65535 0 b }

pub linkable : (s : List ℕ) (sp : Span) (first next : List ℕ) → length first ≡ table_keys → sp.start ≤ sp.end → sp.end ≤ table_records → sp.end ≤ length next → 16 * sp.end ≤ length s → sp.base + sp.owners ≤ table_keys →
    ((n : ℕ) → sp.start ≤ n → n < sp.end → owner_in s n < sp.owners) → Vacant sp.base first → Linkable s sp first next
linkable s sp first next k a b l f c own v = record { keys = k; ordered = a; space = (b, l); read = f; room = c; own = own; empty = λ o h. v (sp.base + o) (omega arith) (omega arith) }

module _ {s : List ℕ} {sp : Span} {first next first' next' : List ℕ} (links : Links s sp first next first' next') where
  -- a kind that stands before stays linked
  pub linked-before : {start end base owners : ℕ} → Linked s start end base owners first next → base + owners ≤ sp.base → end ≤ sp.start → Linked s start end base owners first' next'
  linked-before {start} {end} {base} {owners} l b e = record {
    first_of = λ o h. links.other_firsts (base + o) (inl (omega arith)) ∙ l.first_of o h;
    next_of = λ n h k. links.other_nexts n (inl (omega arith)) ∙ l.next_of n h k;
  }

  -- the keys of kinds that stand behind name nothing yet
  pub vacant-behind : Vacant sp.base first → Vacant (sp.base + sp.owners) first'
  vacant-behind v k h l = links.other_firsts k (inr h) ∙ v k (omega arith) l

pub relinked : {s : List ℕ} {start end base owners : ℕ} {first next : List ℕ} (start' end' : ℕ) → Linked s start end base owners first next → start ≡ start' → end ≡ end' →
    Linked s start' end' base owners first next
relinked {s} {start} {end} {base} {owners} {first} {next} start' end' l a b =
    subst (λ e. Linked s start' e base owners first next) b (subst (λ x. Linked s x end base owners first next) a l)
