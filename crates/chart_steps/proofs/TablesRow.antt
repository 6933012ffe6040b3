-- A state's row, by the priorities: those of priority 1, then those of 2, …; and the tables name at most one of each. Assumes nothing.
use mathlib.Core.Path.{◌≡◌, refl, sym, ap, ◌∙◌}
use mathlib.Core.Bool.{Bool, true, false, not, cond, ◌&&◌, ◌||◌}
use mathlib.Core.List.{List, [], ◌∷◌, map}
use Prim.Native.Nat.{ℕ, zero, suc, ◌+◌, ◌≤◌, ◌<◌, max}
use native.Mathlib.Nat.{sub-zero}
use native.Mathlib.Omega.{arith}
use lib.Dec.{leb, ltb, eqb}
use lib.ListN.{length, get_or}
use borrow.Author.Tests.{le-leb, lt-ltb, eq-eqb, eqb-true, not-true}
use Rattle.prelude.specs.Lists.{keep, gather, from, upto, all, mem, distinct}
use Rattle.prelude.proofs.Counts.{impossible, and-true}
use Rattle.model.specs.ChartSet.{ChartSet, no_transition, read_charts, transition}
use Rattle.model.specs.Charts.{row}
use Rattle.model.specs.ChartFile.{priorities_differ}
use Rattle.chart_records.specs.declared.Shape.{Shape}
use Rattle.chart_records.specs.Places.{transition_at}
use Rattle.prelude.proofs.Maps.{keep-keep}
use Rattle.chart_records.proofs.PlacesRead.{transition-is, length-transitions, most-transitions}
use Rattle.chart_records.specs.Accepted.{Accepted}
use Rattle.chart_steps.specs.Tables.{head_or, earliest, named, leaves, row_entry, HasRows, highest, HasEnds}
use Rattle.machines.proofs.ChainsEarliest.{keep-alike, only_one}
use Rattle.chart_steps.proofs.Accepted.{all-kept, priority-known, differ}
use Rattle.chart_steps.proofs.TablesFilled.{leaving, Rows, priority_from, Ended}
use Rattle.prelude.proofs.Sorting.{sorted-buckets}

all_from : (p : ℕ → Bool) (k n : ℕ) → ((t : ℕ) → k ≤ t → t < k + n → p t ≡ true) → all p (from k n) ≡ true
unfolding all from
all_from p k zero h = refl
all_from p k (suc n) h = rw (h k (omega arith) (omega arith), all_from p (suc k) n (λ t a b. h t (omega arith) (omega arith)))

-- ---- one of each priority

module _ {A : Type 0} (p : A → Bool) (key : A → ℕ) (d : A) where
  kept-mem : (xs : List A) (b : ℕ) → b < length xs → p (get_or xs b d) ≡ true → mem (key (get_or xs b d)) (map key (keep p xs)) ≡ true
  unfolding mem keep
  kept-mem [] b h e = absurd (omega arith)
  kept-mem (x ∷ xs) zero h e = rw (e, eq-eqb (key x) (key x) refl)
  kept-mem (x ∷ xs) (suc b) h e = go (p x) (kept-mem xs b (omega arith) e)
    where
      go : (t : Bool) → mem (key (get_or xs b d)) (map key (keep p xs)) ≡ true → mem (key (get_or xs b d)) (map key (cond t (x ∷ keep p xs) (keep p xs))) ≡ true
      go true ih = rw ih (or-true (eqb (key x) (key (get_or xs b d))))
        where
          or-true : (a : Bool) → (a || true) ≡ true
          or-true true = refl
          or-true false = refl
      go false ih = ih

  -- of two that are kept the keys differ
  kept-apart : (xs : List A) (a b : ℕ) → a < b → b < length xs → p (get_or xs a d) ≡ true → p (get_or xs b d) ≡ true →
      distinct (map key (keep p xs)) ≡ true → key (get_or xs a d) ≡ key (get_or xs b d) → ⊥
  unfolding distinct keep
  kept-apart [] a b l h ea eb u q = absurd (omega arith)
  kept-apart (x ∷ xs) a zero l h ea eb u q = absurd (omega arith)
  kept-apart (x ∷ xs) zero (suc b) l h ea eb u q =
      let v : distinct (key x ∷ map key (keep p xs)) ≡ true = rw ea at u in
      let m : mem (key x) (map key (keep p xs)) ≡ true = rw q (kept-mem xs b (omega arith) eb) in
      let n : mem (key x) (map key (keep p xs)) ≡ false = not-true (mem (key x) (map key (keep p xs))) (and-true (not (mem (key x) (map key (keep p xs)))) (distinct (map key (keep p xs))) v).0 in
      impossible (sym m ∙ n)
  kept-apart (x ∷ xs) (suc a) (suc b) l h ea eb u q = kept-apart xs a b (omega arith) (omega arith) ea eb (go (p x) u) q
    where
      go : (t : Bool) → distinct (map key (cond t (x ∷ keep p xs) (keep p xs))) ≡ true → distinct (map key (keep p xs)) ≡ true
      go true u = (and-true (not (mem (key x) (map key (keep p xs)))) (distinct (map key (keep p xs))) u).1
      go false u = u

-- ---- rows

module _ (cs : ChartSet) (st : ℕ) where
  -- priorities are 1 to 16
  module _ (some-priority : (t : ℕ) → t < length cs.transitions → (1 ≤ (transition cs t).priority) × ((transition cs t).priority ≤ 16)) where
    pub row-by-priority : row cs st ≡ gather (λ q. keep (leaves cs st q) (upto (length cs.transitions))) (from 1 16)
    row-by-priority =
        sorted-buckets (λ t. (transition cs t).priority) 1 16 (keep (λ t. eqb (transition cs t).source st) (upto (length cs.transitions)))
        (all-kept fits fits (λ t. eqb (transition cs t).source st) (λ t e. refl) (upto (length cs.transitions)) (all_from fits 0 (length cs.transitions) (λ t l h. in-range t (omega arith))))
        ∙ (λ i. gather (λ q. keep-keep (λ t. eqb (transition cs t).source st) (λ t. eqb (transition cs t).priority q) (upto (length cs.transitions)) i) (from 1 16))
      where
        fits : ℕ → Bool
        fits t = leb 1 (transition cs t).priority && ltb (transition cs t).priority 17

        in-range : (t : ℕ) → t < length cs.transitions → fits t ≡ true
        in-range t h =
            let b : (1 ≤ (transition cs t).priority) × ((transition cs t).priority ≤ 16) = some-priority t h in
            rw (le-leb 1 (transition cs t).priority b.0, lt-ltb (transition cs t).priority 17 (omega arith))

    -- and differ where they leave the same state
    module _ (differ : priorities_differ cs st ≡ true) (small : length cs.transitions < 65536) where
      leaves-one : (q a b : ℕ) → a < b → b < length cs.transitions → leaves cs st q a ≡ true → leaves cs st q b ≡ true → ⊥
      leaves-one q a b l h ea eb =
          let x : (eqb (transition cs a).source st ≡ true) × (eqb (transition cs a).priority q ≡ true) = and-true _ _ ea in
          let y : (eqb (transition cs b).source st ≡ true) × (eqb (transition cs b).priority q ≡ true) = and-true _ _ eb in
          kept-apart (λ t. eqb t.source st) (λ t. t.priority) no_transition cs.transitions a b l h x.0 y.0 differ
          (eqb-true _ q x.1 ∙ sym (eqb-true _ q y.1))

      -- a place of the tables names all of its priority
      pub place-named : (q : ℕ) → keep (leaves cs st q) (upto (length cs.transitions)) ≡ named (earliest (leaves cs st q) 0 (length cs.transitions))
      place-named q = rw sub-zero at (only_one (leaves cs st q) 0 (length cs.transitions) small (leaves-one q))

      -- the row is what the tables name, place by place
      pub row_named : row cs st ≡ gather (λ q. named (earliest (leaves cs st q) 0 (length cs.transitions))) (from 1 16)
      row_named = row-by-priority ∙ (λ i. gather (λ q. place-named q i) (from 1 16))

highest-alike : (f g : ℕ → ℕ) (n k : ℕ) → ((i : ℕ) → i < k + n → f i ≡ g i) → highest f (from k n) ≡ highest g (from k n)
unfolding highest from
highest-alike f g zero k same = refl
highest-alike f g (suc n) k same = λ i. max (same k (omega arith) i) (highest-alike f g n (suc k) (λ j l. same j (omega arith)) i)

-- ---- the tables of an accepted file

abbrev pub source_at : List ℕ → Shape → ℕ → ℕ
source_at s sh u = (transition_at s sh u).source

abbrev pub priority_at : List ℕ → Shape → ℕ → ℕ
priority_at s sh u = (transition_at s sh u).priority

module _ (s : List ℕ) (sh : Shape) (ok : Accepted s sh) where
  pub rows_are : (rows : List (List ℕ)) → Rows (source_at s sh) (priority_at s sh) sh.transitions 128 rows 0 → HasRows (read_charts s) rows
  rows_are rows r st j h l =
      r.filled st j h l
      ∙ ap (λ l. row_entry (head_or 65535 l))
      (ap (λ n. keep (leaving (source_at s sh) (priority_at s sh) sh.transitions 128 st (j + 1)) (from 0 n)) (sub-zero sh.transitions)
      ∙ keep-alike (leaving (source_at s sh) (priority_at s sh) sh.transitions 128 st (j + 1)) (leaves (read_charts s) st (j + 1)) 0 sh.transitions
      (λ i a b. let m : i < sh.transitions = omega arith in λ k. eqb (sym (transition-is s sh ok.shape i m) k).source st && eqb (sym (transition-is s sh ok.shape i m) k).priority (j + 1))
      ∙ ap (λ n. keep (leaves (read_charts s) st (j + 1)) (from 0 n)) (sym (length-transitions s sh ok.shape)))

  pub ends-are : (rows : List (List ℕ)) (ends : List ℕ) → Ended (source_at s sh) (priority_at s sh) sh.transitions rows ends 0 → HasEnds (read_charts s) rows ends
  ends-are rows ends e = record {
    exact = λ st h.
        e.exact st h
        ∙ ap (λ n. highest (priority_from (source_at s sh) (priority_at s sh) sh.transitions st) (from 0 n)) (sub-zero sh.transitions)
        ∙ highest-alike (priority_from (source_at s sh) (priority_at s sh) sh.transitions st) (λ u. cond (eqb (transition (read_charts s) u).source st) (transition (read_charts s) u).priority 0) sh.transitions 0
        (λ i l. let m : i < sh.transitions = omega arith in λ k. cond (eqb (sym (transition-is s sh ok.shape i m) k).source st) (sym (transition-is s sh ok.shape i m) k).priority 0)
        ∙ ap (λ n. highest (λ u. cond (eqb (transition (read_charts s) u).source st) (transition (read_charts s) u).priority 0) (from 0 n)) (sym (length-transitions s sh ok.shape));
    short = e.short;
    empty = e.empty;
  }

  priorities : (t : ℕ) → t < length (read_charts s).transitions → (1 ≤ (transition (read_charts s) t).priority) × ((transition (read_charts s) t).priority ≤ 16)
  priorities t l =
      let m : t < sh.transitions = omega (arith, length-transitions s sh ok.shape) in
      let e : transition (read_charts s) t ≡ transition_at s sh t = transition-is s sh ok.shape t m in
      let k : (1 ≤ (transition_at s sh t).priority) × ((transition_at s sh t).priority ≤ 16) = priority-known s sh ok t m in
      let p : (transition (read_charts s) t).priority ≡ (transition_at s sh t).priority = ap (λ x. x.priority) e in
      (omega arith, omega arith)

  few : length (read_charts s).transitions < 65536
  few = omega (arith, length-transitions s sh ok.shape, most-transitions s sh ok.shape)

  -- a known state's row is what the tables name
  pub row_of : (st : ℕ) → st < sh.states → row (read_charts s) st ≡ gather (λ q. named (earliest (leaves (read_charts s) st q) 0 (length (read_charts s).transitions))) (from 1 16)
  row_of st h = row_named (read_charts s) st priorities (differ s sh ok st h) few

  -- and a place of it all of its priority
  pub place_of : (st q : ℕ) → st < sh.states →
      keep (leaves (read_charts s) st q) (upto (length (read_charts s).transitions)) ≡ named (earliest (leaves (read_charts s) st q) 0 (length (read_charts s).transitions))
  place_of st q h = place-named (read_charts s) st priorities (differ s sh ok st h) few q
