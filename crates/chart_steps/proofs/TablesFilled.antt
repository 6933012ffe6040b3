-- The rows as they are filled, from the last number down to the first: what stands in them is the earliest so far. Assumes nothing.
use mathlib.Core.Path.{◌≡◌, refl, sym, ap, ◌∙◌}
use mathlib.Core.Bool.{Bool, true, false, cond, ◌&&◌}
use mathlib.Core.List.{List, []}
use Prim.Native.Nat.{ℕ, suc, ◌+◌, ◌-◌, ◌≤◌, ◌<◌, max}
use native.Mathlib.Omega.{arith}
use lib.Dec.{eqb}
use lib.ListN.{length, get_or, set, replicate, length-set, length-replicate, get_or-replicate}
use lib.Seq.{get_or-set_same, get_or-set_other}
use borrow.Author.Tests.{eqb-true, eqb-false, eq-eqb, ne_eqb}
use Rattle.prelude.specs.Lists.{from}
use Rattle.chart_steps.specs.Tables.{highest, earliest, row_entry}
use Rattle.machines.proofs.ChainsEarliest.{earliest-one, earliest-none}

-- ---- so many rows: each number u has a source and a priority

module _ (source priority : ℕ → ℕ) (size count : ℕ) where
  abbrev pub leaving : ℕ → ℕ → ℕ → Bool
  leaving st q u = eqb (source u) st && eqb (priority u) q

  -- filled down to t
  pub record Rows (rows : List (List ℕ)) (t : ℕ) : Type 0 where
    pub bound : t ≤ size
    pub long : length rows ≡ count
    pub wide : (st : ℕ) → st < count → length (get_or rows st []) ≡ 16
    pub filled : (st j : ℕ) → st < count → j < 16 → get_or (get_or rows st []) j 0 ≡ row_entry (earliest (leaving st (j + 1)) t (size - t))

  pub rows_none : Rows (replicate count (replicate {A = ℕ} 16 256)) size
  rows_none = record {
    bound = omega arith;
    long = length-replicate count (replicate {A = ℕ} 16 256);
    wide = λ st h. ap length (get_or-replicate count st (replicate {A = ℕ} 16 256) [] h) ∙ length-replicate {A = ℕ} 16 256;
    filled = λ st j h l.
        ap (λ r. get_or r j 0) (get_or-replicate count st (replicate {A = ℕ} 16 256) [] h) ∙ get_or-replicate {A = ℕ} 16 j 256 0 l ∙ sym (ap row_entry (earliest-none (leaving st (j + 1)) size));
  }

  module _ (rows : List (List ℕ)) (u i k : ℕ) (so_far : Rows rows (u + 1)) (at_source : source u ≡ i) (at-priority : priority u ≡ k + 1) (in_rows : i < count) (in_row : k < 16) (small : u < 256) where
    abbrev next_rows : List (List ℕ)
    next_rows = set rows i (set (get_or rows i []) k u)

    row_here : get_or next_rows i [] ≡ set (get_or rows i []) k u
    row_here = let l : i < length rows = omega (arith, so_far.long) in get_or-set_same rows i (set (get_or rows i []) k u) [] l

    row-there : (st : ℕ) → (st ≡ i → ⊥) → get_or next_rows st [] ≡ get_or rows st []
    row-there st n = get_or-set_other rows i st (set (get_or rows i []) k u) [] n

    wide-here : length (set (get_or rows i []) k u) ≡ 16
    wide-here = length-set (get_or rows i []) k u ∙ so_far.wide i in_rows

    place : (st j : ℕ) → st < count → j < 16 → get_or (get_or next_rows st []) j 0 ≡ cond (leaving st (j + 1) u) u (get_or (get_or rows st []) j 0)
    place st j h l = go (eqb (source u) st) refl (eqb (priority u) (j + 1)) refl
      where
        go : (a : Bool) → eqb (source u) st ≡ a → (b : Bool) → eqb (priority u) (j + 1) ≡ b → get_or (get_or next_rows st []) j 0 ≡ cond (a && b) u (get_or (get_or rows st []) j 0)
        go true e true d =
            let x : st ≡ i = sym (eqb-true (source u) st e) ∙ at_source in
            let y : j ≡ k = omega (arith, eqb-true (priority u) (j + 1) d, at-priority) in
            let w : k < length (get_or rows i []) = omega (arith, so_far.wide i in_rows) in
            (λ m. get_or (get_or next_rows (x m) []) (y m) 0) ∙ ap (λ r. get_or r k 0) row_here ∙ get_or-set_same (get_or rows i []) k u 0 w
        go true e false d =
            let x : st ≡ i = sym (eqb-true (source u) st e) ∙ at_source in
            let y : j ≡ k → ⊥ = λ q. eqb-false (priority u) (j + 1) d (at-priority ∙ ap (λ n. n + 1) (sym q)) in
            ap (λ m. get_or (get_or next_rows m []) j 0) x ∙ ap (λ r. get_or r j 0) row_here ∙ get_or-set_other (get_or rows i []) k j u 0 y ∙ ap (λ m. get_or (get_or rows m []) j 0) (sym x)
        go false e b d = ap (λ r. get_or r j 0) (row-there st (λ q. eqb-false (source u) st e (at_source ∙ sym q)))

    placed_one : (b : Bool) (e : ℕ) → cond b u (row_entry e) ≡ row_entry (cond b u e)
    placed_one true e = omega arith
    placed_one false e = refl

    pub rows_more : Rows (set rows i (set (get_or rows i []) k u)) u
    rows_more = record {
      bound = omega (arith, so_far.bound);
      long = length-set rows i (set (get_or rows i []) k u) ∙ so_far.long;
      wide = λ st h. widths st h (eqb st i) refl;
      filled = λ st j h l.
          place st j h l
          ∙ ap (cond (leaving st (j + 1) u) u) (so_far.filled st j h l)
          ∙ placed_one (leaving st (j + 1) u) (earliest (leaving st (j + 1)) (u + 1) (size - (u + 1)))
          ∙ sym (ap row_entry (earliest-one (leaving st (j + 1)) u size (omega (arith, so_far.bound))));
    }
      where
        widths : (st : ℕ) → st < count → (b : Bool) → eqb st i ≡ b → length (get_or next_rows st []) ≡ 16
        widths st h true e = ap (λ m. length (get_or next_rows m [])) (eqb-true st i e) ∙ ap length row_here ∙ wide-here
        widths st h false e = ap length (row-there st (eqb-false st i e)) ∙ so_far.wide st h

-- ---- an end for each row

module _ (source priority : ℕ → ℕ) (size : ℕ) where
  -- the priority of a number, if it leaves a state
  abbrev pub priority_from : ℕ → ℕ → ℕ
  priority_from st u = cond (eqb (source u) st) (priority u) 0

  -- the ends of rows that are filled down to t
  pub record Ended (rows : List (List ℕ)) (ends : List ℕ) (t : ℕ) : Type 0 where
    pub all : length ends ≡ 128
    pub exact : (st : ℕ) → st < 128 → get_or ends st 0 ≡ highest (priority_from st) (from t (size - t))
    pub short : (st : ℕ) → st < 128 → get_or ends st 0 ≤ 16
    pub empty : (st j : ℕ) → st < 128 → get_or ends st 0 ≤ j → j < 16 → get_or (get_or rows st []) j 0 ≡ 256

  pub ends-none : Ended (replicate 128 (replicate {A = ℕ} 16 256)) (replicate 128 0) size
  unfolding highest from
  ends-none = record {
    all = length-replicate {A = ℕ} 128 0;
    exact = λ st h. get_or-replicate {A = ℕ} 128 st 0 0 h ∙ sym (ap (λ n. highest (priority_from st) (from size n)) (let e : size - size ≡ 0 = omega arith in e));
    short = λ st h. omega (arith, get_or-replicate {A = ℕ} 128 st 0 0 h);
    empty = λ st j h _ l. ap (λ r. get_or r j 0) (get_or-replicate 128 st (replicate {A = ℕ} 16 256) [] h) ∙ get_or-replicate {A = ℕ} 16 j 256 0 l;
  }

  -- number u stands at place k of row i, and the row's end is past it
  module _ (rows : List (List ℕ)) (ends : List ℕ) (u i k : ℕ) (so_far : Ended rows ends (u + 1)) (long : length rows ≡ 128) (below : u < size) (at_source : source u ≡ i) (at-priority : priority u ≡ k + 1) (in_rows : i < 128) (in_row : k < 16) where
    abbrev end : ℕ
    end = max (get_or ends i 0) (k + 1)

    abbrev next_ends : List ℕ
    next_ends = set ends i end

    end-here : get_or next_ends i 0 ≡ end
    end-here = get_or-set_same ends i end 0 (omega (arith, so_far.all))

    down : (st : ℕ) → highest (priority_from st) (from u (size - u)) ≡ max (priority_from st u) (highest (priority_from st) (from (u + 1) (size - (u + 1))))
    unfolding highest from
    down st =
        ap (λ n. highest (priority_from st) (from u n)) (let e : size - u ≡ suc (size - (u + 1)) = omega arith in e)
        ∙ ap (λ n. max (priority_from st u) (highest (priority_from st) (from n (size - (u + 1))))) (let e : suc u ≡ u + 1 = omega arith in e)

    pub ends_more : Ended (set rows i (set (get_or rows i []) k u)) next_ends u
    ends_more = record {
      all = length-set ends i end ∙ so_far.all;
      exact = λ st h. exact-at st h (eqb st i) refl;
      short = λ st h. short-at st h (eqb st i) refl;
      empty = λ st j h le l. empty-at st j h le l (eqb st i) refl;
    }
      where
        exact-at : (st : ℕ) → st < 128 → (b : Bool) → eqb st i ≡ b → get_or next_ends st 0 ≡ highest (priority_from st) (from u (size - u))
        exact-at st h true e =
            let q : st ≡ i = eqb-true st i e in
            let f : priority_from st u ≡ k + 1 = rw (eq-eqb (source u) st (at_source ∙ sym q)) at-priority in
            let o : get_or ends i 0 ≡ highest (priority_from st) (from (u + 1) (size - (u + 1))) = ap (λ n. get_or ends n 0) (sym q) ∙ so_far.exact st h in
            ap (λ n. get_or next_ends n 0) q ∙ end-here ∙ max-swap (get_or ends i 0) (k + 1) ∙ (λ m. max (sym f m) (o m)) ∙ sym (down st)
          where
            max-swap : (a b : ℕ) → max a b ≡ max b a
            max-swap a b = omega arith
        exact-at st h false e =
            let f : priority_from st u ≡ 0 = rw (ne_eqb (source u) st (λ d. eqb-false st i e (sym d ∙ at_source))) refl in
            let o = so_far.exact st h in
            get_or-set_other ends i st end 0 (eqb-false st i e) ∙ o ∙ (let z : highest (priority_from st) (from (u + 1) (size - (u + 1))) ≡ max 0 (highest (priority_from st) (from (u + 1) (size - (u + 1)))) = omega arith in z) ∙ (λ m. max (sym f m) (highest (priority_from st) (from (u + 1) (size - (u + 1))))) ∙ sym (down st)

        short-at : (st : ℕ) → st < 128 → (b : Bool) → eqb st i ≡ b → get_or next_ends st 0 ≤ 16
        short-at st h true e =
            let a : get_or next_ends st 0 ≡ end = ap (λ n. get_or next_ends n 0) (eqb-true st i e) ∙ end-here in
            omega (arith, a, so_far.short i in_rows)
        short-at st h false e = let a : get_or next_ends st 0 ≡ get_or ends st 0 = get_or-set_other ends i st end 0 (eqb-false st i e) in omega (arith, a, so_far.short st h)

        empty-at : (st j : ℕ) → st < 128 → get_or next_ends st 0 ≤ j → j < 16 → (b : Bool) → eqb st i ≡ b → get_or (get_or (set rows i (set (get_or rows i []) k u)) st []) j 0 ≡ 256
        empty-at st j h le l true e =
            let q : st ≡ i = eqb-true st i e in
            let a : get_or next_ends st 0 ≡ end = ap (λ n. get_or next_ends n 0) q ∙ end-here in
            let b : get_or (set rows i (set (get_or rows i []) k u)) st [] ≡ set (get_or rows i []) k u = ap (λ n. get_or (set rows i (set (get_or rows i []) k u)) n []) q ∙ get_or-set_same rows i (set (get_or rows i []) k u) [] (omega (arith, long)) in
            ap (λ r. get_or r j 0) b ∙ get_or-set_other (get_or rows i []) k j u 0 (λ d. absurd (omega (arith, a, d))) ∙ so_far.empty i j in_rows (omega (arith, a)) l
        empty-at st j h le l false e =
            let d : st ≡ i → ⊥ = eqb-false st i e in
            let a : get_or next_ends st 0 ≡ get_or ends st 0 = get_or-set_other ends i st end 0 d in
            ap (λ r. get_or r j 0) (get_or-set_other rows i st (set (get_or rows i []) k u) [] d) ∙ so_far.empty st j h (omega (arith, a)) l
