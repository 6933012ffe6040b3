-- Refusal 8 of a framed file, by its transitions' and its actions' numbers; and uses counted up to 2. Assumes nothing.
use mathlib.Core.Path.{◌≡◌, refl, sym, ap, ◌∙◌}
use mathlib.Core.Bool.{Bool, true, cond, ◌&&◌}
use mathlib.Core.List.{List, [], ◌∷◌, ◌++◌, append-nil}
use Prim.Native.Nat.{ℕ, zero, suc, ◌+◌, ◌-◌, min, ◌≤◌, ◌<◌}
use native.Mathlib.Nat.{sub-zero}
use native.Mathlib.Omega.{arith}
use lib.Dec.{eqb}
use lib.ListN.{length, get_or, replicate, length-replicate, get_or-replicate}
use Rattle.prelude.specs.Lists.{all, count, gather, from, upto}
use Rattle.records.specs.Bytes.{records}
use Rattle.expressions.specs.Nodes.{node_of, node_at}
use Rattle.expressions.specs.Sorts.{sort_of, is_number, is_truth}
use Rattle.expressions.specs.Uses.{add_uses, all_operands}
use Rattle.prelude.proofs.Loops.{left-more, left-none}
use Rattle.expressions.proofs.Uses.{times, adds-append, adds-length, adds-at, once}
use Rattle.model.specs.ChartSet.{read_charts, read_actions}
use Rattle.model.specs.Runs.{Action}
use Rattle.model.specs.ChartFile.{in_code, guard_nodes, assigned_nodes, all_actions, transition_guards, action_guards, guards, assigned, uses}
use Rattle.chart_records.specs.declared.Shape.{Shape}
use Rattle.chart_records.specs.Shape.{IsShape}
use Rattle.chart_records.specs.Places.{transition_at, place_at, action_at, node_part}
use Rattle.chart_checks.specs.Used.{guard_at, condition_at, assigned_at, operand_use, guard_use, action_use, all_uses, truths, numbers}
use Rattle.prelude.proofs.Maps.{gather-map, alike-upto}
use Rattle.chart_records.proofs.PlacesRead.{transitions-are, gather-actions, lookup-is, length-nodes, most-nodes}
use Rattle.prelude.proofs.Lists.{gather_append}
use Rattle.prelude.proofs.Numbers.{all_alike, all_append, all_both, count-append}
use Rattle.chart_checks.proofs.InCode.{place-in-code}

-- ---- gathered lists

module _ {A B : Type 0} where
  pub all-gather : (p : B → Bool) (f : A → List B) (xs : List A) → all p (gather f xs) ≡ all (λ x. all p (f x)) xs
  unfolding all gather
  all-gather p f [] = refl
  all-gather p f (x ∷ xs) = all_append p (f x) (gather f xs) ∙ ap (λ b. all p (f x) && b) (all-gather p f xs)

gather-alike : {B : Type 0} (f g : ℕ → List B) (n : ℕ) → ((i : ℕ) → i < n → f i ≡ g i) → gather f (upto n) ≡ gather g (upto n)
gather-alike f g n h = sym (gather-map f (λ l. l) (upto n)) ∙ ap (gather (λ l. l)) (alike-upto f g n h) ∙ gather-map g (λ l. l) (upto n)

-- gathered one after the other, or both from each: the same to a test, and to a count
module _ {A B : Type 0} (p : B → Bool) (f g : A → List B) where
  all-merge : (xs : List A) → all p (gather f xs ++ gather g xs) ≡ all p (gather (λ x. f x ++ g x) xs)
  all-merge xs =
      all_append p (gather f xs) (gather g xs)
      ∙ (λ i. all-gather p f xs i && all-gather p g xs i)
      ∙ sym (all-gather p (λ x. f x ++ g x) xs ∙ (λ i. all (λ x. all_append p (f x) (g x) i) xs) ∙ all_both (λ x. all p (f x)) (λ x. all p (g x)) xs)

  count-merge : (xs : List A) → count p (gather f xs ++ gather g xs) ≡ count p (gather (λ x. f x ++ g x) xs)
  unfolding gather count
  count-merge [] = refl
  count-merge (x ∷ xs) =
      let a : count p ((f x ++ gather f xs) ++ (g x ++ gather g xs)) ≡ count p (f x ++ gather f xs) + count p (g x ++ gather g xs) = count-append p (f x ++ gather f xs) (g x ++ gather g xs) in
      let b : count p (f x ++ gather f xs) ≡ count p (f x) + count p (gather f xs) = count-append p (f x) (gather f xs) in
      let c : count p (g x ++ gather g xs) ≡ count p (g x) + count p (gather g xs) = count-append p (g x) (gather g xs) in
      let d : count p ((f x ++ g x) ++ gather (λ x. f x ++ g x) xs) ≡ count p (f x ++ g x) + count p (gather (λ x. f x ++ g x) xs) = count-append p (f x ++ g x) (gather (λ x. f x ++ g x) xs) in
      let e : count p (f x ++ g x) ≡ count p (f x) + count p (g x) = count-append p (f x) (g x) in
      let h : count p (gather f xs ++ gather g xs) ≡ count p (gather f xs) + count p (gather g xs) = count-append p (gather f xs) (gather g xs) in
      let ih : count p (gather f xs ++ gather g xs) ≡ count p (gather (λ x. f x ++ g x) xs) = count-merge xs in
      omega arith

-- ---- all uses: what is counted from none on, in 1,024 places

module _ (s : List ℕ) (sh : Shape) where
  pub length-uses : length (all_uses s sh) ≡ 1024
  length-uses =
      adds-length (add_uses (add_uses (replicate 1024 0) (operand_use s sh)) (guard_use s sh)) (action_use s sh)
      ∙ adds-length (add_uses (replicate 1024 0) (operand_use s sh)) (guard_use s sh)
      ∙ adds-length (replicate 1024 0) (operand_use s sh)
      ∙ length-replicate {A = ℕ} 1024 0

three-uses : (u : List ℕ) (k : ℕ) (xs ys zs : List ℕ) → k < length u → get_or u k 0 ≡ 0 → get_or (add_uses (add_uses (add_uses u xs) ys) zs) k 0 ≡ min 2 (times k xs + times k ys + times k zs)
three-uses u k xs ys zs l z =
    let a : add_uses (add_uses (add_uses u xs) ys) zs ≡ add_uses u ((xs ++ ys) ++ zs) = ap (λ v. add_uses v zs) (sym (adds-append u xs ys)) ∙ sym (adds-append u (xs ++ ys) zs) in
    let b : get_or (add_uses u ((xs ++ ys) ++ zs)) k 0 ≡ min 2 (get_or u k 0 + times k ((xs ++ ys) ++ zs)) = adds-at k u ((xs ++ ys) ++ zs) l (omega arith) in
    let c : times k ((xs ++ ys) ++ zs) ≡ times k (xs ++ ys) + times k zs = count-append (λ n. eqb n k) (xs ++ ys) zs in
    let d : times k (xs ++ ys) ≡ times k xs + times k ys = count-append (λ n. eqb n k) xs ys in
    ap (λ v. get_or v k 0) a ∙ b ∙ ap (min 2) (omega arith)

-- ---- guards of transitions, and what actions use

module _ (s : List ℕ) (sh : Shape) (is : IsShape s sh) where
  pub guards-are : transition_guards (read_charts s) ≡ gather (guard_at s sh) (upto sh.transitions)
  guards-are = ap (gather (λ t. guard_nodes t.guard)) (transitions-are s sh is) ∙ gather-map (transition_at s sh) (λ t. guard_nodes t.guard) (upto sh.transitions)

  pub guards-is : truths (node_of (read_charts s).nodes) (transition_guards (read_charts s)) ≡ all (λ t. truths (node_at (node_part s sh)) (guard_at s sh t)) (upto sh.transitions)
  guards-is =
      (λ i. truths (lookup-is s sh is i) (guards-are i))
      ∙ all-gather (λ n. is_truth (sort_of (node_at (node_part s sh) n))) (guard_at s sh) (upto sh.transitions)

  module _ (in_code : all in_code (records s) ≡ true) where
    -- nodes that an action has, of all actions: those of the four places together are those of each
    module _ (f : Action → List ℕ) where
      abbrev whole : ℕ → List ℕ
      whole i = f (action_at s sh i).1

      abbrev part : ℕ → ℕ → List ℕ
      part place i = cond (eqb (place_at s sh i) place) (whole i) []

      abbrev parted : ℕ → List ℕ
      parted place = gather (part place) (upto sh.actions)

      parts_are : gather (λ x. f x.1) (all_actions (read_charts s)) ≡ parted 1 ++ parted 2 ++ parted 3 ++ parted 4
      parts_are =
          gather_append have (read_actions 1 s ++ read_actions 2 s ++ read_actions 3 s) (read_actions 4 s)
          ∙ ap (λ l. l ++ gather have (read_actions 4 s)) (gather_append have (read_actions 1 s ++ read_actions 2 s) (read_actions 3 s))
          ∙ ap (λ l. l ++ gather have (read_actions 3 s) ++ gather have (read_actions 4 s)) (gather_append have (read_actions 1 s) (read_actions 2 s))
          ∙ (λ i. gather-actions s sh is 1 have i ++ gather-actions s sh is 2 have i ++ gather-actions s sh is 3 have i ++ gather-actions s sh is 4 have i)
        where
          have : ℕ × Action → List ℕ
          have x = f x.1

      -- each action has one place of the four
      parts : (i : ℕ) → i < sh.actions → part 1 i ++ part 2 i ++ part 3 i ++ part 4 i ≡ whole i
      parts i h = go (place_at s sh i) (place-in-code s sh is in_code i h) (whole i)
        where
          go : (p : ℕ) → (1 ≤ p) × (p ≤ 4) → (l : List ℕ) → cond (eqb p 1) l [] ++ cond (eqb p 2) l [] ++ cond (eqb p 3) l [] ++ cond (eqb p 4) l [] ≡ l
          go zero b l = absurd (omega arith)
          go (suc zero) b l = append-nil (l ++ [] ++ []) ∙ append-nil (l ++ []) ∙ append-nil l
          go (suc (suc zero)) b l = append-nil (l ++ []) ∙ append-nil l
          go (suc (suc (suc zero))) b l = append-nil l
          go (suc (suc (suc (suc zero)))) b l = refl
          go (suc (suc (suc (suc (suc n))))) b l = absurd (omega arith)

      -- what tells two lists of nodes apart by no order tells the parts and the whole alike
      merged : {X : Type 0} (tell : List ℕ → X) (add : X → List ℕ → X) →
          ((xs ys : List ℕ) → tell (xs ++ ys) ≡ add (tell xs) ys) →
          ((g h : ℕ → List ℕ) → tell (gather g (upto sh.actions) ++ gather h (upto sh.actions)) ≡ tell (gather (λ i. g i ++ h i) (upto sh.actions))) →
          tell (gather (λ x. f x.1) (all_actions (read_charts s))) ≡ tell (gather whole (upto sh.actions))
      merged tell add append merge =
          ap tell parts_are
          ∙ behind (parted 1 ++ parted 2 ++ parted 3) (gather (λ i. part 1 i ++ part 2 i ++ part 3 i) (upto sh.actions)) (parted 4)
          (behind (parted 1 ++ parted 2) (gather (λ i. part 1 i ++ part 2 i) (upto sh.actions)) (parted 3) (merge (part 1) (part 2)) ∙ merge (λ i. part 1 i ++ part 2 i) (part 3))
          ∙ merge (λ i. part 1 i ++ part 2 i ++ part 3 i) (part 4)
          ∙ ap tell (gather-alike (λ i. part 1 i ++ part 2 i ++ part 3 i ++ part 4 i) whole sh.actions parts)
        where
          behind : (xs ys zs : List ℕ) → tell xs ≡ tell ys → tell (xs ++ zs) ≡ tell (ys ++ zs)
          behind xs ys zs e = append xs zs ∙ ap (λ t. add t zs) e ∙ sym (append ys zs)

      actions-all : (test : ℕ → Bool) → all test (gather (λ x. f x.1) (all_actions (read_charts s))) ≡ all (λ i. all test (whole i)) (upto sh.actions)
      actions-all test =
          merged (all test) (λ b l. b && all test l) (all_append test) (λ g h. all-merge test g h (upto sh.actions))
          ∙ all-gather test whole (upto sh.actions)

      actions-times : (k : ℕ) → times k (gather (λ x. f x.1) (all_actions (read_charts s))) ≡ times k (gather whole (upto sh.actions))
      actions-times k = merged (times k) (λ n l. n + times k l) (count-append (λ n. eqb n k)) (λ g h. count-merge (λ n. eqb n k) g h (upto sh.actions))

    pub actions-is :
        (truths (node_of (read_charts s).nodes) (action_guards (read_charts s)) && numbers (node_of (read_charts s).nodes) (assigned (read_charts s)))
        ≡ all (λ i. truths (node_at (node_part s sh)) (condition_at s sh i) && numbers (node_at (node_part s sh)) (assigned_at s sh i)) (upto sh.actions)
    actions-is =
        (λ j. truths (lookup-is s sh is j) (action_guards (read_charts s)) && numbers (lookup-is s sh is j) (assigned (read_charts s)))
        ∙ (λ j. actions-all (λ a. guard_nodes a.guard) (λ n. is_truth (sort_of (node_at (node_part s sh) n))) j && actions-all (λ a. assigned_nodes a.deed) (λ n. is_number (sort_of (node_at (node_part s sh) n))) j)
        ∙ sym (all_both (λ i. truths (node_at (node_part s sh)) (condition_at s sh i)) (λ i. numbers (node_at (node_part s sh)) (assigned_at s sh i)) (upto sh.actions))

    -- an action's guard and its assigned node, counted together
    action-times : (k : ℕ) → times k (action_guards (read_charts s)) + times k (assigned (read_charts s)) ≡ times k (action_use s sh)
    action-times k =
        (λ j. actions-times (λ a. guard_nodes a.guard) k j + actions-times (λ a. assigned_nodes a.deed) k j)
        ∙ sym (count-append (λ n. eqb n k) (gather (condition_at s sh) (upto sh.actions)) (gather (assigned_at s sh) (upto sh.actions)))
        ∙ count-merge (λ n. eqb n k) (condition_at s sh) (assigned_at s sh) (upto sh.actions)

    -- every node used exactly once
    use-at : (k : ℕ) → k < sh.nodes → eqb (get_or (all_uses s sh) k 0) 1 ≡ eqb (uses (read_charts s) k) 1
    use-at k h =
        ap (λ n. eqb n 1)
        (three-uses (replicate 1024 0) k (operand_use s sh) (guard_use s sh) (action_use s sh) (omega (arith, length-replicate {A = ℕ} 1024 0, most-nodes s sh is)) (get_or-replicate 1024 k 0 0 (omega (arith, most-nodes s sh is))))
        ∙ once (times k (operand_use s sh) + times k (guard_use s sh) + times k (action_use s sh))
        ∙ ap (λ n. eqb n 1) (sym summed)
      where
        summed : uses (read_charts s) k ≡ times k (operand_use s sh) + times k (guard_use s sh) + times k (action_use s sh)
        summed =
            (λ i. times k (all_operands (lookup-is s sh is i) (length-nodes s sh is i)) + times k (guards (read_charts s)) + times k (assigned (read_charts s)))
            ∙ omega (
              arith,
              count-append (λ n. eqb n k) (transition_guards (read_charts s)) (action_guards (read_charts s)),
              ap (times k) guards-are,
              action-times k,
            )

    pub used-is : all (λ n. eqb (uses (read_charts s) n) 1) (upto (length (read_charts s).nodes)) ≡ all (λ n. eqb (get_or (all_uses s sh) n 0) 1) (upto sh.nodes)
    used-is =
        ap (λ m. all (λ n. eqb (uses (read_charts s) n) 1) (upto m)) (length-nodes s sh is)
        ∙ sym (all_alike (λ n. eqb (get_or (all_uses s sh) n 0) 1) (λ n. eqb (uses (read_charts s) n) 1) sh.nodes use-at)

-- ---- a loop that counts the uses of one thing after the other

module _ (f : ℕ → List ℕ) (size : ℕ) where
  -- those below i are counted: u₀ with all of them is u with the others
  abbrev pub Gathered : List ℕ → List ℕ → ℕ → Type 0
  Gathered u₀ u i = (i ≤ size) × (length u ≡ length u₀) × (add_uses u₀ (gather f (upto size)) ≡ add_uses u (gather f (from i (size - i))))

  pub gathered_none : (u : List ℕ) → Gathered u u 0
  gathered_none u = (omega arith, refl, ap (λ k. add_uses u (gather f (from 0 k))) (sym (sub-zero size)))

  pub gathered-more : (u₀ u v : List ℕ) (i : ℕ) → Gathered u₀ u i → i < size → v ≡ add_uses u (f i) → Gathered u₀ v (i + 1)
  unfolding gather
  gathered-more u₀ u v i h l e = (
    omega arith,
    ap length e ∙ adds-length u (f i) ∙ h.1,
    h.2
        ∙ ap (λ r. add_uses u (gather f r)) (left-more i size l)
        ∙ adds-append u (f i) (gather f (from (i + 1) (size - (i + 1))))
        ∙ ap (λ w. add_uses w (gather f (from (i + 1) (size - (i + 1))))) (sym e),
  )

  pub gathered-all : (u₀ u : List ℕ) (i : ℕ) → Gathered u₀ u i → size ≤ i → u ≡ add_uses u₀ (gather f (upto size))
  unfolding gather add_uses
  gathered-all u₀ u i h l = sym (h.2 ∙ ap (λ r. add_uses u (gather f r)) (left-none i size l))

-- uses of two lists, one after the other
pub ruleset appended = (adds-append)
