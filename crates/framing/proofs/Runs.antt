-- A file as a run of each kind in turn: what the runs below a kind leave, and what all of them say of the file. Assumes nothing.
use mathlib.Core.Path.{◌≡◌, refl, sym, ap, ◌∙◌, subst}
use mathlib.Core.Bool.{Bool, true, false, not, cond, ◌&&◌, ◌||◌}
use mathlib.Core.List.{List, [], ◌∷◌, map}
use Prim.Native.Nat.{ℕ, zero, suc, ◌+◌, ◌-◌, ◌*◌, ◌/◌, ◌≤◌, ◌<◌}
use native.Mathlib.Nat.{add-zero, zero-add}
use native.Mathlib.Omega.{arith}
use borrow.Author.Tests.{ltb-true, ltb-false, le-leb, lt-leb, leb-true, leb-false, eq-eqb, ne_eqb, eqb-true, eqb-false}
use lib.Dec.{leb, ltb, eqb}
use lib.ListN.{length, get_or, take, set, replicate, length-set, length-take, get_or-replicate}
use lib.Seq.{get_or-set_same, get_or-set_other}
use Rattle.prelude.specs.Lists.{all, count, ascending}
use Rattle.records.specs.Bytes.{byte, kind}
use Rattle.framing.specs.Framing.{known, how_many, has_unordered_kinds, counts}
use Rattle.framing.specs.Frame.{IsRun}
use Rattle.records.proofs.Records.{rest, rest_all, rest-none, rest-one}
use Rattle.prelude.proofs.Counts.{is-table}
use Rattle.framing.proofs.FramingLaws.{disorder, disorder-first, kind-record, kinds-one, known-not-above, known-within, at-unknown, at-descent, at_next, at-end}

-- from one number on to another
walk : (Q : ℕ → Type 0) (i e : ℕ) → i ≤ e → Q i → ((m : ℕ) → i ≤ m → m < e → Q m → Q (m + 1)) → Q e
walk Q i e h q step = subst Q (let x : i + (e - i) ≡ e = omega arith in x) (go (e - i) (omega arith))
  where
    go : (d : ℕ) → i + d ≤ e → Q (i + d)
    go zero l = subst Q (sym (add-zero i)) q
    go (suc d) l = subst Q (let x : i + d + 1 ≡ i + suc d = omega arith in x) (step (i + d) (omega arith) (omega arith) (go d (omega arith)))

-- the records from a start on, below i, are of a kind
abbrev pub Running : List ℕ → ℕ → ℕ → ℕ → Type 0
Running s start k i = (j : ℕ) → start ≤ j → j < i → byte s (16 * j) ≡ k

-- ---- how many of a kind are among the records from i on

abbrev pub left : List ℕ → ℕ → ℕ → ℕ
left s k i = count (λ r. eqb (kind r) k) (rest s i)

module _ (s : List ℕ) (k i : ℕ) (h : i < length s / 16) where
  left_one : left s k i ≡ cond (eqb (byte s (16 * i)) k) (suc (left s k (i + 1))) (left s k (i + 1))
  unfolding count
  left_one = ap (count (λ r. eqb (kind r) k)) (rest-one s i h) ∙ ap (λ b. cond (eqb b k) (suc (left s k (i + 1))) (left s k (i + 1))) (kind-record s i)

  left-same : byte s (16 * i) ≡ k → left s k i ≡ suc (left s k (i + 1))
  left-same e = left_one ∙ ap (λ b. cond b (suc (left s k (i + 1))) (left s k (i + 1))) (eq-eqb (byte s (16 * i)) k e)

  left_other : (byte s (16 * i) ≡ k → ⊥) → left s k i ≡ left s k (i + 1)
  left_other e = left_one ∙ ap (λ b. cond b (suc (left s k (i + 1))) (left s k (i + 1))) (ne_eqb (byte s (16 * i)) k e)

pub left-none : (s : List ℕ) (k i : ℕ) → i ≡ length s / 16 → left s k i ≡ 0
unfolding count
left-none s k i e = ap (count (λ r. eqb (kind r) k)) (ap (rest s) e ∙ rest-none s)

module _ (s : List ℕ) (i k e : ℕ) (run : IsRun s i k e) where
  run-counts : left s k i ≡ (e - i) + left s k e
  run-counts =
      walk (λ m. left s k i ≡ (m - i) + left s k m) i e run.after (omega arith)
      (λ m l h q. let one : left s k m ≡ suc (left s k (m + 1)) = left-same s k m (let w = run.within in omega arith) (run.same m l h) in omega arith)

  run-leaves : (j : ℕ) → (k ≡ j → ⊥) → left s j i ≡ left s j e
  run-leaves j apart =
      walk (λ m. left s j i ≡ left s j m) i e run.after refl
      (λ m l h q. q ∙ left_other s j m (let w = run.within in omega arith) (λ at. apart (sym (run.same m l h) ∙ at)))

-- ---- kinds ascend from a kind on, and from the next, where none is of that kind

leb-raise : (a b : ℕ) → (b ≡ a → ⊥) → leb a b ≡ leb (a + 1) b
leb-raise a b apart = go (leb (a + 1) b) refl
  where
    go : (t : Bool) → leb (a + 1) b ≡ t → leb a b ≡ t
    go true e = let l : a + 1 ≤ b = leb-true (a + 1) b e in le-leb a b (omega arith)
    go false e = let l : b < a + 1 = leb-false (a + 1) b e in lt-leb a b (omega arith)

module _ (first : ℕ) (most s : List ℕ) where
  raised : (latest i : ℕ) → i ≤ length s / 16 → (i < length s / 16 → byte s (16 * i) ≡ latest → ⊥) →
      disorder first most latest (map kind (rest s i)) ≡ disorder first most (latest + 1) (map kind (rest s i))
  unfolding all ascending
  raised latest i h apart = go (ltb i (length s / 16)) refl
    where
      go : (t : Bool) → ltb i (length s / 16) ≡ t → disorder first most latest (map kind (rest s i)) ≡ disorder first most (latest + 1) (map kind (rest s i))
      go true t =
          let l : i < length s / 16 = ltb-true i (length s / 16) t in
          let x = byte s (16 * i) in
          let ks = map kind (rest s (i + 1)) in
          ap (disorder first most latest) (kinds-one s i l)
          ∙ ap (λ b. not (all (known first most) (x ∷ ks)) || not (b && ascending (x ∷ ks))) (leb-raise latest x (apart l))
          ∙ sym (ap (disorder first most (latest + 1)) (kinds-one s i l))
      go false t =
          let l : length s / 16 ≤ i = ltb-false i (length s / 16) t in
          let none : rest s i ≡ [] = ap (rest s) (let e : i ≡ length s / 16 = omega arith in e) ∙ rest-none s in
          ap (λ rs. disorder first most latest (map kind rs)) none ∙ sym (ap (λ rs. disorder first most (latest + 1) (map kind rs)) none)

  -- The runs of the kinds below the k-th end at record i. Refusal 2 is that of the records left, each count with those left is the file's, and from k on nothing is counted.
  pub record Tallied (ns : List ℕ) (k i : ℕ) : Type 0 where
    pub within : i ≤ length s / 16
    pub nine : length ns ≡ 9
    pub order : has_unordered_kinds first most s ≡ disorder first most (first + k) (map kind (rest s i))
    pub counted : (j : ℕ) → j < 9 → get_or ns j 0 + left s (first + j) i ≡ how_many (first + j) s
    pub none : (j : ℕ) → k ≤ j → j < 9 → get_or ns j 0 ≡ 0

  pub tallied-none : Tallied (replicate 9 0) 0 0
  tallied-none = record {
    within = omega arith;
    nine = refl;
    order = disorder-first first most s ∙ (λ x. disorder first most (sym (add-zero first) x) (map kind (sym (rest_all s) x)));
    counted = λ j h. (λ x. get_or-replicate 9 j 0 0 h x + count (λ r. eqb (kind r) (first + j)) (rest_all s x)) ∙ zero-add (how_many (first + j) s);
    none = λ j l h. get_or-replicate 9 j 0 0 h;
  }

  module _ (ns : List ℕ) (k i e : ℕ) (so_far : Tallied ns k i) (l : k < length (take 9 most)) (run : IsRun s i (first + k) e) where
    nine-at-most : k < 9
    nine-at-most = omega (arith, length-take 9 most)

    order-run : has_unordered_kinds first most s ≡ disorder first most (first + k) (map kind (rest s e))
    order-run =
        walk (λ m. has_unordered_kinds first most s ≡ disorder first most (first + k) (map kind (rest s m))) i e run.after so_far.order
        (λ m a b q.
        let same : byte s (16 * m) ≡ first + k = run.same m a b in
        at_next first most s (first + k) m q (let w = run.within in omega arith) (ap (known first most) same ∙ known-within first most (first + k) (omega arith) (omega arith)) (omega arith)
        ∙ ap (λ x. disorder first most x (map kind (rest s (m + 1)))) same)

    counted-run : (j : ℕ) → j < 9 → get_or (set ns k (e - i)) j 0 + left s (first + j) e ≡ how_many (first + j) s
    counted-run j h = go (eqb j k) refl
      where
        go : (t : Bool) → eqb j k ≡ t → get_or (set ns k (e - i)) j 0 + left s (first + j) e ≡ how_many (first + j) s
        go true t =
            let here : j ≡ k = eqb-true j k t in
            let had : get_or ns k 0 + left s (first + k) i ≡ how_many (first + k) s = so_far.counted k nine-at-most in
            let zero-had : get_or ns k 0 ≡ 0 = so_far.none k (omega arith) nine-at-most in
            let run-had : left s (first + k) i ≡ (e - i) + left s (first + k) e = run-counts s i (first + k) e run in
            rw (here, get_or-set_same ns k (e - i) 0 (let n = so_far.nine in omega (arith, nine-at-most))) (omega arith)
        go false t =
            let apart : j ≡ k → ⊥ = eqb-false j k t in
            (λ x. get_or-set_other ns k j (e - i) 0 apart x + sym (run-leaves s i (first + k) e run (first + j) (λ q. apart (omega arith))) x) ∙ so_far.counted j h

    pub tallied-more : Tallied (set ns k (e - i)) (k + 1) e
    tallied-more = record {
      within = run.within;
      nine = length-set ns k (e - i) ∙ so_far.nine;
      order = order-run ∙ raised (first + k) e run.within run.other ∙ ap (λ x. disorder first most x (map kind (rest s e))) (let x : first + k + 1 ≡ first + (k + 1) = omega arith in x);
      counted = counted-run;
      none = λ j a b. get_or-set_other ns k j (e - i) 0 (λ q. absurd (omega arith)) ∙ so_far.none j (omega arith) b;
    }

  -- all kinds have had their run: what is left is out of order, and where nothing is the counts are the file's
  module _ (ns : List ℕ) (k i : ℕ) (all_runs : Tallied ns k i) (kinds : k ≡ length (take 9 most)) where
    pub tallied-order : ltb i (length s / 16) ≡ has_unordered_kinds first most s
    tallied-order = go (ltb i (length s / 16)) refl
      where
        go : (t : Bool) → ltb i (length s / 16) ≡ t → t ≡ has_unordered_kinds first most s
        go true t =
            let l : i < length s / 16 = ltb-true i (length s / 16) t in
            by (ltb (byte s (16 * i)) (first + k)) refl l
          where
            by : (b : Bool) → ltb (byte s (16 * i)) (first + k) ≡ b → i < length s / 16 → true ≡ has_unordered_kinds first most s
            by true b l = sym (at-descent first most s (first + k) i all_runs.order l (ltb-true (byte s (16 * i)) (first + k) b))
            by false b l = sym (at-unknown first most s (first + k) i all_runs.order l (known-not-above first most (byte s (16 * i)) (omega (arith, ltb-false (byte s (16 * i)) (first + k) b))))
        go false t =
            let l : length s / 16 ≤ i = ltb-false i (length s / 16) t in
            let w = all_runs.within in
            sym (at-end first most s (first + k) i all_runs.order (omega arith))

    pub tallied-counts : ltb i (length s / 16) ≡ false → ns ≡ counts first most s
    tallied-counts t =
        let l : length s / 16 ≤ i = ltb-false i (length s / 16) t in
        let w = all_runs.within in
        is-table (λ j. how_many (first + j) s) 0 9 ns all_runs.nine
        (λ j h.
        let had : get_or ns j 0 + left s (first + j) i ≡ how_many (first + j) s = all_runs.counted j h in
        let gone : left s (first + j) i ≡ 0 = left-none s (first + j) i (omega arith) in
        omega arith)
