-- Whatever is read as a tree is derived by the rules. Assumes nothing.
use mathlib.Core.Path.{◌≡◌, refl, sym, ap, ◌∙◌, subst}
use mathlib.Core.Bool.{Bool, true, false, cond}
use mathlib.Core.Option.{Option, some, none}
use mathlib.Core.List.{List, [], ◌∷◌, ◌++◌, append_assoc, append-nil}
use Prim.Native.Nat.{ℕ, zero, suc, ◌-◌, ◌^◌, ◌≤◌, ◌<◌}
use native.Mathlib.Omega.{arith}
use borrow.Author.Tests.{leb-true, leb-false}
use lib.Dec.{leb}
use lib.ListN.{drop}
use Rattle.prelude.specs.Lists.{case_of}
use Rattle.records.specs.Bytes.{byte}
use Rattle.records.specs.Refusal.{Out, val, ◌>>=◌}
use Rattle.model.specs.Replay.{decimal}
use Rattle.guards.specs.Trees.{Binary, Tree, negation, binary, choice, binary_level}
use Rattle.guards.specs.Texts.{sign}
use Rattle.guards.specs.Grammar.{Read, read, unspaced, operator_at, by_operator, past, numeral, read_variable, read_positive, read_negative, choice_at, binary_at, go_on, operand_at}
use Rattle.guards.specs.Rules.{Derives, named, positive, negative, enclosed, negated, joined, chosen, tighter}
use Rattle.guards.proofs.Values.{val_same, no_value, bound, case-by}
use Rattle.guards.proofs.Numerals.{Numeral, numeral-told}
use Rattle.guards.proofs.Derived.{choice-parts}
use Rattle.guards.proofs.Steps.{Level, binary_level-within}
use Rattle.guards.proofs.Fronts.{Front, Front-read, Front-spaced, Padded, padded, Front-padded, byte-first, Front-past, operator-found}

-- the next operator, if one comes, has that level at least
abbrev From : ℕ → List ℕ → Type 0
From j r = (o : Binary) (n : ℕ) → operator_at (unspaced r) ≡ some (o, n) → j ≤ binary_level o

-- behind bytes p, s is bytes that make them the tree, then r, where no operator of levels up to k comes next
pub record More (k : ℕ) (t : Tree) (p s r : List ℕ) : Type 0 where
  pub more : List ℕ
  pub same : s ≡ more ++ r
  pub tree : Derives k t (p ++ more)
  pub stops : From (suc k) r

pub record Correct (d : ℕ) : Type 0 where
  pub operand : (s : List ℕ) (x : Read Tree) → operand_at d s ≡ val x → Front 1 x.got s x.rest
  pub run : (k : ℕ) (s : List ℕ) (x : Read Tree) → 1 ≤ k → binary_at d k s ≡ val x → More k x.got [] s x.rest
  pub on :
      (j k : ℕ) (t : Tree) (p s : List ℕ) (x : Read Tree)
      → j ≤ k
      → From j s
      → Derives j t p
      → go_on d k t s ≡ val x
      → More k x.got p s x.rest
  pub whole : (s : List ℕ) (x : Read Tree) → choice_at d s ≡ val x → Front 7 x.got s x.rest

-- ---- names and constants

module _ (s : List ℕ) (x : Read Tree) where
  variable-derived : read_variable s ≡ val x → Front 0 x.got (118 ∷ s) x.rest
  variable-derived e = bound (numeral 63 s) _ e λ y f g.
      let n : Numeral 63 s y = numeral-told 63 s y (omega arith) f in
      Front-read g (record { front = 118 ∷ decimal y.got; same = ap (λ u. 118 ∷ u) n.same; tree = named n.short })

  negative-derived : read_negative s ≡ val x → Front 0 x.got (45 ∷ s) x.rest
  negative-derived e = bound (numeral (2 ^ 31) s) _ e λ y f g.
      let n : Numeral (2 ^ 31) s y = numeral-told (2 ^ 31) s y (omega arith) f in
      Front-read g (record { front = 45 ∷ decimal y.got; same = ap (λ u. 45 ∷ u) n.same; tree = negative n.short })

  positive-derived : read_positive s ≡ val x → Front 0 x.got s x.rest
  positive-derived e = bound (numeral (2 ^ 31 - 1) s) _ e λ y f g.
      let n : Numeral (2 ^ 31 - 1) s y = numeral-told (2 ^ 31 - 1) s y (omega arith) f in
      Front-read g (record { front = decimal y.got; same = n.same; tree = positive n.short })

-- ---- operands by their first byte

Front-tighter : {j : ℕ} {t : Tree} {s r : List ℕ} (k : ℕ) → j ≤ k → Front j t s r → Front k t s r
Front-tighter k l f = record { front = f.front; same = f.same; tree = tighter l f.tree }

Front-enclosed : {t : Tree} {s r : List ℕ} → Front 7 t s (41 ∷ r) → Front 0 t (40 ∷ s) r
Front-enclosed {r} f = record { front = 40 ∷ f.front ++ (41 ∷ []); same = ap (λ u. 40 ∷ u) (f.same ∙ sym (append_assoc f.front (41 ∷ []) r)); tree = enclosed f.tree }

Front-negated : {t : Tree} {s r : List ℕ} → Front 1 t s r → Front 1 (negation t) (33 ∷ s) r
Front-negated f = record { front = 33 ∷ f.front; same = ap (λ u. 33 ∷ u) f.same; tree = negated f.tree }

module _ (d : ℕ) (c : Correct d) (x : Read Tree) where
  enclosed-derived : (s : List ℕ) → (choice_at d s >>= λ t. past 41 t.rest >>= λ r. read t.got r) ≡ val x → Front 0 x.got (40 ∷ s) x.rest
  enclosed-derived s e =
      bound (choice_at d s) _ e λ y f e. bound (past 41 y.rest) _ e λ r g e. Front-read e (Front-enclosed (Front-past 41 r (λ z. omega arith) (c.whole s y f) g))

  negated-derived : (s : List ℕ) → (operand_at d s >>= λ t. read (negation t.got) t.rest) ≡ val x → Front 1 x.got (33 ∷ s) x.rest
  negated-derived s e = bound (operand_at d s) _ e λ y f e. Front-read e (Front-negated (c.operand s y f))

  abbrev operand_by : List ℕ → Out (Read Tree)
  operand_by r =
      case_of (byte r 0)
      ((40, choice_at d (drop 1 r) >>= λ t. past 41 t.rest >>= λ s. read t.got s)
      ∷ (33, operand_at d (drop 1 r) >>= λ t. read (negation t.got) t.rest)
      ∷ (118, read_variable (drop 1 r))
      ∷ (45, read_negative (drop 1 r))
      ∷ [])
      (read_positive r)

  -- behind the first byte
  behind-first : {k : ℕ} (a : ℕ) (r : List ℕ) → (a ≡ 0 → ⊥) → k ≤ 1 → byte r 0 ≡ a → Front k x.got (a ∷ drop 1 r) x.rest → Front 1 x.got r x.rest
  behind-first a r n l e f = subst (λ u. Front 1 x.got u x.rest) (sym (byte-first a r n e)) (Front-tighter 1 l f)

  bare-operand : (r : List ℕ) → operand_by r ≡ val x → Front 1 x.got r x.rest
  unfolding case_of
  bare-operand r e =
      case-by (byte r 0) 40 _ _ (val x) e (λ f g. behind-first 40 r (λ z. omega arith) (omega arith) f (enclosed-derived (drop 1 r) g)) λ e.
      case-by (byte r 0) 33 _ _ (val x) e (λ f g. behind-first 33 r (λ z. omega arith) (omega arith) f (negated-derived (drop 1 r) g)) λ e.
      case-by (byte r 0) 118 _ _ (val x) e (λ f g. behind-first 118 r (λ z. omega arith) (omega arith) f (variable-derived (drop 1 r) x g)) λ e.
      case-by (byte r 0) 45 _ _ (val x) e (λ f g. behind-first 45 r (λ z. omega arith) (omega arith) f (negative-derived (drop 1 r) x g)) λ e.
      Front-tighter 1 (omega arith) (positive-derived r x e)

  operand-derived : (s : List ℕ) → operand_at (suc d) s ≡ val x → Front 1 x.got s x.rest
  unfolding operand_at
  operand-derived s e = Front-spaced s x.rest (bare-operand (unspaced s) e)

-- ---- operators between operands

four-parts : (a b c e r : List ℕ) → a ++ (b ++ (c ++ (e ++ r))) ≡ a ++ (b ++ (c ++ e)) ++ r
four-parts a b c e r = simp append_assoc

five-parts : (p a b c e : List ℕ) → p ++ a ++ b ++ c ++ e ≡ p ++ (a ++ (b ++ (c ++ e)))
five-parts p a b c e = simp append_assoc

module _ (d : ℕ) (c : Correct d) (x : Read Tree) (j k : ℕ) (t : Tree) (p s : List ℕ) (l : j ≤ k) (from : From j s) (tree : Derives j t p) where
  ended : From (suc k) s → read t s ≡ val x → More k x.got p s x.rest
  ended h e = subst (λ x. More k x.got p s x.rest) (val_same e) (record { more = []; same = refl; tree = tighter l (subst (Derives j t) (sym (append-nil p)) tree); stops = h })

  went :
      (o : Binary) (n : ℕ)
      → operator_at (unspaced s) ≡ some (o, n)
      → binary_level o ≤ k
      → (binary_at d (binary_level o - 1) (drop n (unspaced s)) >>= λ u. go_on d k (binary o t u.got) u.rest) ≡ val x
      → More k x.got p s x.rest
  went o n f i e = bound (binary_at d (binary_level o - 1) (drop n (unspaced s))) _ e λ y g h.
      let w : Level o = binary_level-within o in
      let low : 2 ≤ binary_level o = w.low in
      let q : Padded j t p s (unspaced s) = padded p s tree in
      let m : More (binary_level o - 1) y.got [] (drop n (unspaced s)) y.rest = c.run (binary_level o - 1) (drop n (unspaced s)) y (omega arith) g in
      let z : More k x.got (p ++ q.spaces ++ sign o ++ m.more) y.rest x.rest =
      c.on (binary_level o) k (binary o t y.got) (p ++ q.spaces ++ sign o ++ m.more) y.rest x i (λ o n e. omega (arith, m.stops o n e)) (joined (tighter (from o n f) q.tree) m.tree) h in
      record {
        more = q.spaces ++ (sign o ++ (m.more ++ z.more));
        same =
            q.same
            ∙ ap (λ u. q.spaces ++ u) (operator-found (unspaced s) o n f ∙ ap (λ u. sign o ++ u) (m.same ∙ ap (λ u. m.more ++ u) z.same))
            ∙ four-parts q.spaces (sign o) m.more z.more x.rest;
        tree = subst (Derives k x.got) (five-parts p q.spaces (sign o) m.more z.more) z.tree;
        stops = z.stops;
      }

  abbrev on_by : Option (Binary × ℕ) → Out (Read Tree)
  on_by w = by_operator w k (read t s) (λ o n. binary_at d (binary_level o - 1) (drop n (unspaced s)) >>= λ u. go_on d k (binary o t u.got) u.rest)

  by-operator : (w : Option (Binary × ℕ)) → operator_at (unspaced s) ≡ w → on_by w ≡ val x → More k x.got p s x.rest
  by-operator none f e = ended (λ o n g. let z : ◌≡◌ {A = ℕ} 0 1 = cc in absurd (omega arith)) e
  by-operator (some y) f e = by_level (leb (binary_level y.0) k) refl e
    where
      looser : (o : Binary) (n : ℕ) → k < binary_level y.0 → operator_at (unspaced s) ≡ some (o, n) → k < binary_level o
      looser o n h g = let same : y ≡ (o, n) = cc in subst (λ z. k < binary_level z.0) same h

      by_level :
          (b : Bool)
          → leb (binary_level y.0) k ≡ b
          → cond b (binary_at d (binary_level y.0 - 1) (drop y.1 (unspaced s)) >>= λ u. go_on d k (binary y.0 t u.got) u.rest) (read t s) ≡ val x
          → More k x.got p s x.rest
      by_level true g e = went y.0 y.1 f (leb-true (binary_level y.0) k g) e
      by_level false g e = ended (λ o n h. looser o n (leb-false (binary_level y.0) k g) h) e

  on-derived : go_on (suc d) k t s ≡ val x → More k x.got p s x.rest
  unfolding go_on
  on-derived e = by-operator (operator_at (unspaced s)) refl e

module _ (d : ℕ) (c : Correct d) (x : Read Tree) (s : List ℕ) where
  run-derived : (k : ℕ) → 1 ≤ k → binary_at (suc d) k s ≡ val x → More k x.got [] s x.rest
  unfolding binary_at
  run-derived k l e = bound (operand_at d s) _ e λ y f g.
      let h : Front 1 y.got s y.rest = c.operand s y f in
      let m : More k x.got h.front y.rest x.rest = c.on 1 k y.got h.front y.rest x l (λ o n e. omega (arith, binary_level-within o)) h.tree g in
      record {
        more = h.front ++ m.more;
        same = h.same ∙ ap (λ u. h.front ++ u) m.same ∙ sym (append_assoc h.front m.more x.rest);
        tree = m.tree;
        stops = m.stops;
      }

-- ---- choices

Front-chosen : {t a b : Tree} {s v u r : List ℕ} → Front 6 t s (63 ∷ v) → Front 7 a v (58 ∷ u) → Front 7 b u r → Front 7 (choice t a b) s r
Front-chosen {r} f g h =
    record {
      front = f.front ++ (63 ∷ g.front) ++ (58 ∷ h.front);
      same = f.same ∙ ap (λ v. f.front ++ (63 ∷ v)) (g.same ∙ ap (λ u. g.front ++ (58 ∷ u)) h.same) ∙ sym (choice-parts f.front g.front h.front r);
      tree = chosen f.tree g.tree h.tree;
    }

module _ (d : ℕ) (c : Correct d) (x : Read Tree) (s : List ℕ) where
  condition : (y : Read Tree) → binary_at d 6 s ≡ val y → Front 6 y.got s y.rest
  condition y e = let m : More 6 y.got [] s y.rest = c.run 6 s y (omega arith) e in record { front = m.more; same = m.same; tree = m.tree }

  asked :
      (y : Read Tree) (v : List ℕ)
      → Front 6 y.got s (63 ∷ v)
      → (choice_at d v >>= λ a. past 58 a.rest >>= λ u. choice_at d u >>= λ b. read (choice y.got a.got b.got) b.rest) ≡ val x
      → Front 7 x.got s x.rest
  asked y v f e =
      bound (choice_at d v) _ e λ a g e.
      bound (past 58 a.rest) _ e λ u h e.
      bound (choice_at d u) _ e λ b i e. Front-read e (Front-chosen f (Front-past 58 u (λ z. omega arith) (c.whole v a g) h) (c.whole u b i))

  whole-derived : choice_at (suc d) s ≡ val x → Front 7 x.got s x.rest
  unfolding choice_at
  whole-derived e =
      bound (binary_at d 6 s) _ e λ y f e.
      case-by (byte (unspaced y.rest) 0) 63 _ _ (val x) e
      (λ g h. asked y (drop 1 (unspaced y.rest)) (subst (Front 6 y.got s) (byte-first 63 (unspaced y.rest) (λ z. omega arith) g) (Front-padded (condition y f))) h)
      (λ h. Front-read h (Front-tighter 7 (omega arith) (condition y f)))

-- ---- any depth

correct : (d : ℕ) → Correct d
unfolding choice_at
correct zero = record { operand = λ s x e. no_value e; run = λ k s x l e. no_value e; on = λ j k t p s x l f h e. no_value e; whole = λ s x e. no_value e }
correct (suc d) =
    let c : Correct d = correct d in
    record {
      operand = λ s x. operand-derived d c x s;
      run = λ k s x. run-derived d c x s k;
      on = λ j k t p s x. on-derived d c x j k t p s;
      whole = λ s x. whole-derived d c x s;
    }

pub choice_at-correct : (d : ℕ) (s : List ℕ) (x : Read Tree) → choice_at d s ≡ val x → Front 7 x.got s x.rest
choice_at-correct d = (correct d).whole
