-- The things of a kind of a framed file, of any format: their records stand together, from where the records of the lower kinds end. Assumes nothing.
use mathlib.Core.Path.{◌≡◌, refl, sym, ap, ◌∙◌}
use mathlib.Core.Bool.{Bool, true, false, cond, ◌&&◌}
use mathlib.Core.Option.{none}
use mathlib.Core.List.{List, [], ◌∷◌, map}
use Prim.Native.Nat.{ℕ, zero, suc, ◌+◌, ◌*◌, ◌^◌, ◌≤◌, ◌<◌}
use native.Mathlib.Omega.{arith}
use borrow.Author.Tests.{leb-true, le-ltb, ltb-true, ltb-false, eqb-true}
use lib.Dec.{leb, ltb, eqb}
use lib.ListN.{length, get_or, take, drop, length-take, get_or-eq_default, drop_of_length-le}
use lib.Seq.{get_or-take, get_or-drop}
use Rattle.prelude.specs.Lists.{all, keep, count, upto, case_of}
use Rattle.records.specs.Bytes.{byte, two, four, signed, records, kind, of_kind}
use Rattle.framing.specs.Framing.{limits, known, how_many, first_of, framing}
use Rattle.records.proofs.Records.{record_at, byte-record}
use Rattle.records.proofs.RoundTrips.{two-alike, four-alike}
use Rattle.prelude.proofs.Counts.{and-true, below_next, is-table, get_or-upto}
use Rattle.framing.proofs.Framed.{length-of_kind, framed-known, framed-thing}
use Rattle.expressions.specs.Nodes.{Node, unknown, node_by, read_node, node_of, node_at}
use Rattle.prelude.proofs.Maps.{map-map, alike-upto}
use Rattle.model.specs.ChartFile.{between}
use Rattle.prelude.proofs.Numbers.{both_true}

-- where a kind's records start
pub next-first : (s : List ℕ) (k : ℕ) → first_of (suc k) s ≡ first_of k s + how_many k s
next-first s k = below_next kind k (records s)

module _ (first : ℕ) (most s : List ℕ) (framed : framing first most s ≡ none) where
  -- as records
  pub things : (k : ℕ) → of_kind k s ≡ map (λ i. record_at s (first_of k s + i)) (upto (how_many k s))
  things k = is-table (λ i. record_at s (first_of k s + i)) [] (how_many k s) (of_kind k s) (length-of_kind k s) (framed-thing first most s framed k)

  -- as what is read of them
  pub read-things : {A : Type 0} (f : List ℕ → A) (k : ℕ) → map f (of_kind k s) ≡ map (λ i. f (record_at s (first_of k s + i))) (upto (how_many k s))
  read-things f k = ap (map f) (things k) ∙ map-map (λ i. record_at s (first_of k s + i)) f (upto (how_many k s))

  pub none_below : first_of first s ≡ 0
  unfolding all count
  none_below = go (records s) (framed-known first most s framed)
    where
      go : (rs : List (List ℕ)) → all (known first most) (map kind rs) ≡ true → count (λ r. ltb (kind r) first) rs ≡ 0
      go [] e = refl
      go (r ∷ rs) e =
          let k : (known first most (kind r) ≡ true) × (all (known first most) (map kind rs) ≡ true) = and-true (known first most (kind r)) (all (known first most) (map kind rs)) e in
          let l : leb first (kind r) ≡ true = (and-true (leb first (kind r)) (ltb (kind r) (first + length (limits first most))) k.0).0 in
          rw (le-ltb (kind r) first (leb-true first (kind r) l)) (go rs k.1)

  -- a whole list, by the numbers of its things
  pub things-read : {A : Type 0} (f : List ℕ → A) (g : ℕ → A) (k n at : ℕ) → n ≡ how_many k s → first_of k s ≡ at → ((i : ℕ) → i < n → f (record_at s (at + i)) ≡ g i) →
      map f (of_kind k s) ≡ map g (upto n)
  things-read f g k n at e d h =
      read-things f k
      ∙ (λ j. map (λ i. f (record_at s (d j + i))) (upto (sym e j)))
      ∙ alike-upto (λ i. f (record_at s (at + i))) g n h

-- ---- a test of all records, of the things of a kind

kept-too : {A : Type 0} (p q : A → Bool) (xs : List A) → all p xs ≡ true → all (λ x. p x && q x) (keep q xs) ≡ true
unfolding all keep
kept-too p q [] e = refl
kept-too p q (x ∷ xs) e =
    let t : (p x ≡ true) × (all p xs ≡ true) = and-true (p x) (all p xs) e in
    go (q x) refl t.0 (kept-too p q xs t.1)
  where
    go : (b : Bool) → q x ≡ b → p x ≡ true → all (λ x. p x && q x) (keep q xs) ≡ true → all (λ x. p x && q x) (cond b (x ∷ keep q xs) (keep q xs)) ≡ true
    go true f g h = both_true (both_true g f) h
    go false f g h = h

-- a number between two
pub ranged : (a b n : ℕ) → between a b n ≡ true → (a ≤ n) × (n ≤ b)
ranged a b n e = let t : (leb a n ≡ true) × (leb n b ≡ true) = and-true (leb a n) (leb n b) e in (leb-true a n t.0, leb-true n b t.1)

pub all_get_d : {A : Type 0} (p : A → Bool) (d : A) (xs : List A) (i : ℕ) → i < length xs → all p xs ≡ true → p (get_or xs i d) ≡ true
unfolding all
all_get_d p d [] i h e = absurd (omega arith)
all_get_d p d (x ∷ xs) zero h e = (and-true (p x) (all p xs) e).0
all_get_d p d (x ∷ xs) (suc i) h e = all_get_d p d xs i (omega arith) (and-true (p x) (all p xs) e).1

module _ (first : ℕ) (most s : List ℕ) (framed : framing first most s ≡ none) (p : List ℕ → Bool) (all_pass : all p (records s) ≡ true) where
  pub thing-passes : (k at i : ℕ) → first_of k s ≡ at → i < how_many k s → (p (record_at s (at + i)) ≡ true) × (kind (record_at s (at + i)) ≡ k)
  thing-passes k at i d h =
      let r = record_at s (at + i) in
      let t : (p r ≡ true) × (eqb (kind r) k ≡ true) =
      and-true (p r) (eqb (kind r) k)
      (ap (λ x. p x && eqb (kind x) k) (sym (framed-thing first most s framed k i h ∙ ap (λ n. record_at s (n + i)) d))
      ∙ all_get_d (λ x. p x && eqb (kind x) k) [] (of_kind k s) i (omega (arith, length-of_kind k s)) (kept-too p (λ x. eqb (kind x) k) (records s) all_pass))
      in
      (t.0, eqb-true (kind r) k t.1)

-- ---- nodes, by the part of a file that has the records of n of them, from record `at` on

module _ (s : List ℕ) (at n : ℕ) where
  abbrev pub part_of : List ℕ
  part_of = take (16 * n) (drop (16 * at) s)

  module _ (i : ℕ) (l : i < n) where
    byte-part : (k : ℕ) → k < 16 → byte (record_at s (at + i)) k ≡ byte (drop (16 * i) part_of) k
    byte-part k h =
        byte-record s (at + i) k h
        ∙ sym
        (get_or-drop (16 * i) part_of k 0
        ∙ get_or-take (16 * n) (drop (16 * at) s) (16 * i + k) 0 (omega arith)
        ∙ get_or-drop (16 * at) s (16 * i + k) 0
        ∙ ap (byte s) (let e : 16 * at + (16 * i + k) ≡ 16 * (at + i) + k = omega arith in e))

    pub node-part : read_node (record_at s (at + i)) ≡ node_at part_of i
    node-part =
        let r = record_at s (at + i) in
        let t = drop (16 * i) part_of in
        let two-part : (k : ℕ) → k + 2 ≤ 16 → two r k ≡ two t k = λ k h. two-alike r k t k (λ d b. byte-part (k + d) (omega arith)) in
        let four-part : four r 8 ≡ four t 8 = four-alike r 8 t 8 (λ d b. byte-part (8 + d) (omega arith)) in
        λ j. node_by (byte-part 1 (omega arith) j) (two-part 2 (omega arith) j) (two-part 4 (omega arith) j) (two-part 6 (omega arith) j) (signed (2 ^ 31) (four-part j))

  -- also past the end, where both are unknown
  pub node-lookup : (nodes : List Node) → length nodes ≡ n → nodes ≡ map (node_at part_of) (upto n) → (k : ℕ) → node_of nodes k ≡ node_at part_of k
  unfolding case_of
  node-lookup nodes long are k = go (ltb k n) refl
    where
      none_left : n ≤ k → drop (16 * k) part_of ≡ []
      none_left h = let l : length part_of ≤ 16 * k = omega (arith, length-take (16 * n) (drop (16 * at) s)) in drop_of_length-le part_of l

      go : (b : Bool) → ltb k n ≡ b → node_of nodes k ≡ node_at part_of k
      go true e = ap (λ l. get_or l k unknown) are ∙ get_or-upto (node_at part_of) unknown n k (ltb-true k n e)
      go false e =
          let h : n ≤ k = ltb-false k n e in
          get_or-eq_default nodes unknown (omega arith) ∙ sym (ap read_node (none_left h))
