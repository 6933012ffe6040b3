-- The law behind the translation: the first that holds, on the chart's side, is the one open edge, on the automaton's. Assumes nothing.
use mathlib.Core.Path.{◌≡◌, refl, sym, ap, ◌∙◌, subst}
use mathlib.Core.Logic.{◌⊎◌, inl, inr}
use mathlib.Core.Option.{Option, some, none}
use mathlib.Core.Bool.{Bool, true, false, not, cond, ◌||◌}
use mathlib.Core.List.{List, [], ◌∷◌, ◌++◌, map}
use Prim.Native.Nat.{ℕ}
use native.Mathlib.Omega.{arith}
use lib.Dec.{T, eqb, eqb→eq, eqb_refl}
use Rattle.prelude.specs.Lists.{mem, distinct}
use Rattle.records.specs.Refusal.{Refusal, Out, val, fault, ◌>>=◌, choose}
use Rattle.model.specs.Charts.{first_that}
use Rattle.model.specs.AutomataTable.{Literal}
use Rattle.model.specs.Automata.{reads, opens}
use Rattle.prelude.proofs.Bools.{and_left, and_right, or_right, to-left, is_true, is_false, of-true, eqb_comm}
use Rattle.prelude.proofs.Lists.{mem-cons, mem-apart}

-- those of a row before one of it
unfoldable pub row_before : ℕ → List ℕ → List ℕ
row_before t [] = []
row_before t (u ∷ us) = cond (eqb u t) [] (u ∷ row_before t us)

-- ---- open edges

module _ (R : ℕ → Out Bool) (u : ℕ) where
  opens-none : (L : List ℕ) → ((e : ℕ) → T (mem e L) → R e ≡ val (eqb e u)) → mem u L ≡ false → opens R L ≡ val []
  unfolding opens mem
  opens-none [] h n = refl
  opens-none (x ∷ xs) h n =
      rw (h x (to-left (eqb x x) (mem x xs) (eqb_refl x)), opens-none xs (λ e k. h e (mem-cons e x xs k)) (go (eqb x u) (mem u xs) n).1, (go (eqb x u) (mem u xs) n).0)
    where
      go : (a b : Bool) → (a || b) ≡ false → (a ≡ false) × (b ≡ false)
      go true b e = absurd (subst T e tt)
      go false b e = (refl, e)

  opens_one : (L : List ℕ) → ((e : ℕ) → T (mem e L) → R e ≡ val (eqb e u)) → T (distinct L) → T (mem u L) → opens R L ≡ val (u ∷ [])
  unfolding opens mem distinct
  opens_one [] h d m = absurd m
  opens_one (x ∷ xs) h d m =
      rw (h x (to-left (eqb x x) (mem x xs) (eqb_refl x)))
      (go (eqb x u) refl (opens_one xs (λ e k. h e (mem-cons e x xs k)) (and_right (not (mem x xs)) (distinct xs) d)))
    where
      go : (p : Bool) → eqb x u ≡ p → (T (mem u xs) → opens R xs ≡ val (u ∷ [])) →
          (opens R xs >>= λ os. val (cond p (x ∷ os) os)) ≡ val (u ∷ [])
      go true e ih =
          let same : x ≡ u = eqb→eq x u (of-true e) in
          rw (opens-none xs (λ k i. h k (mem-cons k x xs i)) (subst (λ n. mem n xs ≡ false) same (is_false (and_left (not (mem x xs)) (distinct xs) d))), same)
      go false e ih = rw (ih (or_right (eqb x u) (mem u xs) m e))

-- what is taken stands in the row
pub first_that-mem : (f : ℕ → Out Bool) (ts : List ℕ) (u : ℕ) → first_that f ts ≡ val (some u) → T (mem u ts)
unfolding first_that mem
first_that-mem f [] u e = absurd (val-idle u e)
  where
    val-idle : (u : ℕ) → ◌≡◌ {A = Out (Option ℕ)} (val none) (val (some u)) → ⊥
    val-idle u e = let z : ◌≡◌ {A = ℕ} 0 1 = cc in omega arith
first_that-mem f (t ∷ ts) u e = go (f t) refl e (first_that-mem f ts u)
  where
    go : (o : Out Bool) → f t ≡ o → choose o (val (some t)) (first_that f ts) ≡ val (some u) →
        (first_that f ts ≡ val (some u) → T (mem u ts)) → T (mem u (t ∷ ts))
    go (fault w) d e ih = let z : ◌≡◌ {A = ℕ} 0 1 = cc in absurd (omega arith)
    go (val true) d e ih = let k : t ≡ u = cc in to-left (eqb t u) (mem u ts) (subst (λ n. T (eqb t n)) k (eqb_refl t))
    go (val false) d e ih = mem-cons u t ts (ih e)

-- what the chart's answer says of an edge that must not take what it took
abbrev pub onward : Option ℕ → Out Bool → Out Bool
onward (some t) o = val false
onward none o = o

module _ (f : ℕ → Out Bool) (lit : Bool → ℕ → Literal) (g : Literal → Out Bool)
    (yes : (t : ℕ) → g (lit true t) ≡ f t) (no : (t : ℕ) → g (lit false t) ≡ choose (f t) (val false) (val true)) where
  -- reading must-nots in a row's order finds what the chart finds
  pub reads-nots : (ts : List ℕ) (rest : List Literal) →
      reads g (map (lit false) ts ++ rest) ≡ (first_that f ts >>= λ a. onward a (reads g rest))
  unfolding reads first_that
  reads-nots [] rest = refl
  reads-nots (t ∷ ts) rest = rw (no t) (go (f t) (reads-nots ts rest))
    where
      go : (o : Out Bool) →
          reads g (map (lit false) ts ++ rest) ≡ (first_that f ts >>= λ a. onward a (reads g rest)) →
          choose (choose o (val false) (val true)) (reads g (map (lit false) ts ++ rest)) (val false)
          ≡ (choose o (val (some t)) (first_that f ts) >>= λ a. onward a (reads g rest))
      go (fault w) ih = refl
      go (val true) ih = refl
      go (val false) ih = ih

  -- the literals of transition t's edge, and what reading them comes to
  abbrev pub own : ℕ → List ℕ → Out Bool
  own t row = reads g (map (lit false) (row_before t row) ++ (lit true t ∷ []))

  -- its own literal alone
  own-last : (t : ℕ) → reads g (lit true t ∷ []) ≡ f t
  unfolding reads
  own-last t = rw (yes t) (go (f t))
    where
      go : (o : Out Bool) → choose o (val true) (val false) ≡ o
      go (fault w) = refl
      go (val true) = refl
      go (val false) = refl

  -- a must-not in front
  abbrev pub past : Out Bool → Out Bool → Out Bool
  past o rest = choose o (val false) rest

  reads-not : (x : ℕ) (ls : List Literal) → reads g (lit false x ∷ ls) ≡ past (f x) (reads g ls)
  unfolding reads
  reads-not x ls = rw (no x) (go (f x))
    where
      go : (o : Out Bool) → choose (choose o (val false) (val true)) (reads g ls) (val false) ≡ past o (reads g ls)
      go (fault w) = refl
      go (val true) = refl
      go (val false) = refl

-- what the chart's outcome says of the reading of transition t's edge
abbrev pub Agrees : ℕ → Out (Option ℕ) → Out Bool → Type 0
Agrees t (fault w) b = (b ≡ fault w) ⊎ (b ≡ val false)
Agrees t (val (some u)) b = b ≡ val (eqb t u)
Agrees t (val none) b = b ≡ val false

module _ (f : ℕ → Out Bool) (lit : Bool → ℕ → Literal) (g : Literal → Out Bool)
    (yes : (t : ℕ) → g (lit true t) ≡ f t) (no : (t : ℕ) → g (lit false t) ≡ choose (f t) (val false) (val true)) where
  pub edge-agrees : (t : ℕ) (row : List ℕ) → T (distinct row) → T (mem t row) → Agrees t (first_that f row) (own f lit g yes no t row)
  unfolding first_that row_before mem distinct
  edge-agrees t [] d m = absurd m
  edge-agrees t (x ∷ xs) d m =
      go (eqb x t) refl (edge-agrees t xs (and_right (not (mem x xs)) (distinct xs) d))
    where
      -- t stands here, so it stands nowhere later
      here : (o : Out Bool) → x ≡ t → (a : Out (Option ℕ)) → first_that f xs ≡ a → Agrees t (choose o (val (some x)) a) o
      here (fault w) q a i = inl refl
      here (val true) q a i = rw q (ap val (sym (is_true (eqb_refl t))))
      here (val false) q (fault w) i = inr refl
      here (val false) q (val (some u)) i =
          ap val (sym (eqb_comm t u ∙ mem-apart t u xs (first_that-mem f xs u i) (subst (λ n. mem n xs ≡ false) q (is_false (and_left (not (mem x xs)) (distinct xs) d)))))
      here (val false) q (val none) i = refl

      go : (p : Bool) → eqb x t ≡ p →
          (T (mem t xs) → Agrees t (first_that f xs) (own f lit g yes no t xs)) →
          Agrees t (choose (f x) (val (some x)) (first_that f xs)) (reads g (map (lit false) (cond p [] (x ∷ row_before t xs)) ++ (lit true t ∷ [])))
      go true e ih =
          let q : x ≡ t = eqb→eq x t (of-true e) in
          rw (own-last f lit g yes no t ∙ ap f (sym q)) (here (f x) q (first_that f xs) refl)
      go false e ih = rw (reads-not f lit g yes no x (map (lit false) (row_before t xs) ++ (lit true t ∷ []))) (later (f x) (ih (or_right (eqb x t) (mem t xs) m e)))
        where
          later : (o : Out Bool) → Agrees t (first_that f xs) (own f lit g yes no t xs) →
              Agrees t (choose o (val (some x)) (first_that f xs)) (past f lit g yes no o (own f lit g yes no t xs))
          later (fault w) ih = inl refl
          later (val true) ih = ap val (sym (eqb_comm t x ∙ e))
          later (val false) ih = ih

-- the edge that goes with a chart's answer: a transition's has its number, i is the idle edge
abbrev pub edge_for : ℕ → Option ℕ → ℕ
edge_for i (some t) = t
edge_for i none = i

-- All edges together. L are the edges that leave, R their readings, i the idle one among them: the others agree with what the chart finds, and the idle one
-- is open exactly where the chart idles. Then the edge of the chart's answer is open and no second one, and a fault is the same fault.
module _ (R : ℕ → Out Bool) (i : ℕ) where
  fault-once : (w : Refusal) (L : List ℕ) → ((e : ℕ) → T (mem e L) → (R e ≡ fault w) ⊎ (R e ≡ val false)) → R i ≡ fault w → T (mem i L) → opens R L ≡ fault w
  unfolding opens mem
  fault-once w [] h hi m = absurd m
  fault-once w (x ∷ xs) h hi m = go (h x (to-left (eqb x x) (mem x xs) (eqb_refl x))) (fault-once w xs (λ e k. h e (mem-cons e x xs k)) hi)
    where
      differs : R x ≡ val false → eqb x i ≡ false
      differs e = tell (eqb x i) refl
        where
          tell : (p : Bool) → eqb x i ≡ p → p ≡ false
          tell false d = refl
          tell true d = let q : x ≡ i = eqb→eq x i (of-true d) in let z : ◌≡◌ {A = ℕ} 0 1 = cc in absurd (omega arith)

      go : (R x ≡ fault w) ⊎ (R x ≡ val false) → (T (mem i xs) → opens R xs ≡ fault w) →
          (R x >>= λ b. opens R xs >>= λ os. val (cond b (x ∷ os) os)) ≡ fault w
      go (inl e) ih = rw e
      go (inr e) ih = rw (e, ih (or_right (eqb x i) (mem i xs) m (differs e)))

  pub opens-agreeing : (o : Out (Option ℕ)) (L : List ℕ) → T (distinct L) → T (mem i L) →
      ((e : ℕ) → T (mem e L) → eqb e i ≡ false → Agrees e o (R e)) →
      R i ≡ (o >>= λ a. onward a (val true)) →
      ((u : ℕ) → o ≡ val (some u) → T (mem u L) × (eqb i u ≡ false)) →
      opens R L ≡ (o >>= λ a. val (edge_for i a ∷ []))
  opens-agreeing (fault w) L d m h hi ht = fault-once w L (λ e k. split e k (eqb e i) refl) hi m
    where
      split : (e : ℕ) → T (mem e L) → (p : Bool) → eqb e i ≡ p → (R e ≡ fault w) ⊎ (R e ≡ val false)
      split e k false q = h e k q
      split e k true q = inl (ap R (eqb→eq e i (of-true q)) ∙ hi)
  opens-agreeing (val (some u)) L d m h hi ht = opens_one R u L (λ e k. split e k (eqb e i) refl) d (ht u refl).0
    where
      split : (e : ℕ) → T (mem e L) → (p : Bool) → eqb e i ≡ p → R e ≡ val (eqb e u)
      split e k false q = h e k q
      split e k true q = rw (eqb→eq e i (of-true q)) (hi ∙ ap val (sym (ht u refl).1))
  opens-agreeing (val none) L d m h hi ht = opens_one R i L (λ e k. split e k (eqb e i) refl) d m
    where
      split : (e : ℕ) → T (mem e L) → (p : Bool) → eqb e i ≡ p → R e ≡ val (eqb e i)
      split e k false q = h e k q ∙ ap val (sym q)
      split e k true q = rw (eqb→eq e i (of-true q)) (hi ∙ ap val (sym (is_true (eqb_refl i))))

-- The law whole: a row of transitions with conditions f, edges L among which each of the row stands once, the idle edge i that is open where the chart idles,
-- and no others but such as are closed there and have the row's must-nots.
module _ (f : ℕ → Out Bool) (lit : Bool → ℕ → Literal) (g : Literal → Out Bool)
    (yes : (t : ℕ) → g (lit true t) ≡ f t) (no : (t : ℕ) → g (lit false t) ≡ choose (f t) (val false) (val true))
    (row L : List ℕ) (i : ℕ) (R : ℕ → Out Bool) where
  abbrev pub Closed : ℕ → Type 0
  Closed e = (mem e row ≡ false) × (R e ≡ (first_that f row >>= λ a. onward a (val false)))

  module _ (row-once : T (distinct row)) (edges-once : T (distinct L)) (has-idle : T (mem i L)) (idle-apart : mem i row ≡ false)
      (only : (e : ℕ) → T (mem e L) → eqb e i ≡ false → T (mem e row) ⊎ Closed e) (has : (t : ℕ) → T (mem t row) → T (mem t L))
      (reads-own : (t : ℕ) → T (mem t row) → R t ≡ own f lit g yes no t row) (reads-idle : R i ≡ (first_that f row >>= λ a. onward a (val true))) where
    closed-agrees : (e : ℕ) → mem e row ≡ false → (o : Out (Option ℕ)) → first_that f row ≡ o → Agrees e o (o >>= λ a. onward a (val false))
    closed-agrees e n (fault w) q = inl refl
    closed-agrees e n (val none) q = refl
    closed-agrees e n (val (some u)) q = ap val (sym (eqb_comm e u ∙ mem-apart e u row (first_that-mem f row u q) n))

    agrees : (e : ℕ) → T (mem e row) ⊎ Closed e → Agrees e (first_that f row) (R e)
    agrees e (inl m) = subst (λ b. Agrees e (first_that f row) b) (sym (reads-own e m)) (edge-agrees f lit g yes no e row row-once m)
    agrees e (inr c) = subst (λ b. Agrees e (first_that f row) b) (sym c.1) (closed-agrees e c.0 (first_that f row) refl)

    pub opens-first : opens R L ≡ (first_that f row >>= λ a. val (edge_for i a ∷ []))
    opens-first =
        opens-agreeing R i (first_that f row) L edges-once has-idle (λ e k n. agrees e (only e k n)) reads-idle
        (λ u e. let m : T (mem u row) = first_that-mem f row u e in (has u m, eqb_comm i u ∙ mem-apart i u row m idle-apart))
