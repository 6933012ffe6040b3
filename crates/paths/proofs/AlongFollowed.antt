-- A path followed up to a step: the walk that it leads to, and the rows so far. Assumes nothing.
use mathlib.Core.Path.{◌≡◌, refl, sym, ap, ◌∙◌, subst}
use mathlib.Core.Bool.{Bool, true, false, cond, ◌&&◌}
use mathlib.Core.List.{List, [], ◌∷◌, ◌++◌, append-nil}
use Prim.Native.Nat.{ℕ, suc, ◌+◌, ◌*◌, ◌-◌, ◌≤◌, ◌<◌}
use native.Mathlib.Numerals.{add-one}
use native.Mathlib.Omega.{arith}
use borrow.Author.Tests.{ltb-true, ltb-false}
use lib.Dec.{ltb}
use lib.ListN.{length, get_or, take, drop, length-append, take-append-drop}
use lib.Seq.{sets, take-suc, take_all, drop-cons}
use Rattle.prelude.specs.Lists.{gather}
use Rattle.records.specs.Refusal.{broken_path, val, fault}
use Rattle.prelude.proofs.Counts.{and-true}
use Rattle.records.proofs.Wrote.{sets-append}
use Rattle.model.specs.ChartSet.{ChartSet}
use Rattle.model.specs.Translation.{Origin, from_transition, from_waiting, from_idling, transition_count, origin_of}
use Rattle.model.specs.PathBack.{Walk, Row, walk_start, step_fits, walked, rows_from, step_rows, led_back, row_words}
use Rattle.model.proofs.TranslationOrigins.{origin_of-edge_number, origin_of-idle}
use Rattle.paths.specs.Along.{all_fit, walk_along, rows_along}
use Rattle.paths.specs.LedOf.{counted}
use Rattle.paths.proofs.Along.{fit_append, walk-append, rows_append, led-is}

-- ---- words of rows

pub words_append : (xs ys : List Row) → row_words (xs ++ ys) ≡ row_words xs ++ row_words ys
unfolding gather
words_append [] ys = refl
words_append (x ∷ xs) ys = ap (λ t. x.cycle ∷ x.chart ∷ x.transition ∷ t) (words_append xs ys)

pub length-words : (xs : List Row) → length (row_words xs) ≡ 3 * length xs
unfolding gather
length-words [] = refl
length-words (x ∷ xs) = let e = length-words xs in omega arith

module _ (cs : ChartSet) (path : List ℕ) where
  abbrev before : ℕ → List ℕ
  before i = take i path

  -- the first i steps fit, and led here, with so many rows
  pub record Followed (i : ℕ) (w : Walk) (rows : ℕ) : Type 0 where
    pub within : i ≤ length path
    pub here : w ≡ walk_along cs (take i path) (walk_start cs)
    pub fit : all_fit cs (take i path) (walk_start cs) ≡ true
    pub many : rows ≡ length (rows_along cs (take i path) (walk_start cs))
    pub few : rows ≤ i

  pub followed-none : (w : Walk) → w ≡ walk_start cs → Followed 0 w 0
  unfolding all_fit walk_along rows_along
  followed-none w e = record { within = omega arith; here = e; fit = refl; many = refl; few = omega arith }

  next-step : (i : ℕ) → i < length path → take (i + 1) path ≡ take i path ++ (get_or path i 0 ∷ [])
  next-step i h = ap (λ n. take n path) (add-one i) ∙ take-suc path i 0 h

  -- the walk of one step more
  pub walk-next : (i : ℕ) → i < length path → walk_along cs (take (i + 1) path) (walk_start cs) ≡ walked cs (get_or path i 0) (walk_along cs (take i path) (walk_start cs))
  unfolding walk_along
  walk-next i h = ap (λ p. walk_along cs p (walk_start cs)) (next-step i h) ∙ walk-append cs (take i path) (get_or path i 0 ∷ []) (walk_start cs)

  few-rows : (e : ℕ) (w : Walk) → length (step_rows cs e w) ≤ 1
  few-rows e w = go (origin_of cs e)
    where
      go : (o : Origin) → length (rows_from cs o w) ≤ 1
      go (from_transition t) = omega arith
      go (from_waiting s) = omega arith
      go (from_idling s) = omega arith

  -- the rows of one step more
  pub rows_next : (i : ℕ) (w : Walk) (rows : ℕ) → Followed i w rows → i < length path →
      rows_along cs (take (i + 1) path) (walk_start cs) ≡ rows_along cs (take i path) (walk_start cs) ++ step_rows cs (get_or path i 0) w
  unfolding rows_along
  rows_next i w rows f h =
      ap (λ p. rows_along cs p (walk_start cs)) (next-step i h)
      ∙ rows_append cs (take i path) (get_or path i 0 ∷ []) (walk_start cs)
      ∙ ap (λ v. rows_along cs (take i path) (walk_start cs) ++ rows_along cs (get_or path i 0 ∷ []) v) (sym f.here)
      ∙ ap (λ t. rows_along cs (take i path) (walk_start cs) ++ t) (append-nil (step_rows cs (get_or path i 0) w))

  pub followed-more : (i : ℕ) (w : Walk) (rows : ℕ) → Followed i w rows → i < length path → step_fits cs (get_or path i 0) w ≡ true →
      (v : Walk) → v ≡ walked cs (get_or path i 0) w → (more : ℕ) → more ≡ rows + length (step_rows cs (get_or path i 0) w) → Followed (i + 1) v more
  unfolding all_fit walk_along
  followed-more i w rows f h t v ev more em = record {
    within = omega arith;
    here =
        ev
        ∙ ap (walked cs (get_or path i 0)) f.here
        ∙ sym (walk-next i h);
    fit =
        ap (λ p. all_fit cs p (walk_start cs)) (next-step i h)
        ∙ fit_append cs (take i path) (get_or path i 0 ∷ []) (walk_start cs)
        ∙ (λ j. f.fit j && ((subst (λ u. step_fits cs (get_or path i 0) u ≡ true) f.here t) j && true));
    many = let e : length (rows_along cs (take (i + 1) path) (walk_start cs)) ≡ length (rows_along cs (take i path) (walk_start cs)) + length (step_rows cs (get_or path i 0) w) =
        ap length (rows_next i w rows f h) ∙ length-append (rows_along cs (take i path) (walk_start cs)) (step_rows cs (get_or path i 0) w) in
        omega (arith, f.many);
    few = omega (arith, f.few, few-rows (get_or path i 0) w);
  }

  -- the whole path from its first steps
  fits_whole : (i : ℕ) → all_fit cs path (walk_start cs) ≡ (all_fit cs (take i path) (walk_start cs) && all_fit cs (drop i path) (walk_along cs (take i path) (walk_start cs)))
  fits_whole i = ap (λ p. all_fit cs p (walk_start cs)) (sym (take-append-drop i path)) ∙ fit_append cs (take i path) (drop i path) (walk_start cs)

  -- the step at i is asked of the walk that led to it
  step-whole : (i : ℕ) (w : Walk) (rows : ℕ) → Followed i w rows → i < length path →
      all_fit cs path (walk_start cs) ≡ (step_fits cs (get_or path i 0) w && all_fit cs (drop (suc i) path) (walked cs (get_or path i 0) w))
  unfolding all_fit
  step-whole i w rows f h =
      fits_whole i
      ∙ (λ j. f.fit j && all_fit cs (drop-cons path i 0 h j) (sym f.here j))

  pub followed-broken : (i : ℕ) (w : Walk) (rows : ℕ) → Followed i w rows → i < length path → step_fits cs (get_or path i 0) w ≡ false → counted (led_back cs path (walk_start cs)) ≡ fault broken_path
  followed-broken i w rows f h t =
      ap counted (led-is cs path (walk_start cs))
      ∙ ap (λ b. counted (cond b (val (rows_along cs path (walk_start cs))) (fault broken_path))) (step-whole i w rows f h ∙ ap (λ b. b && all_fit cs (drop (suc i) path) (walked cs (get_or path i 0) w)) t)

  pub followed-fits : (i : ℕ) (w : Walk) (rows : ℕ) → Followed i w rows → i < length path → all_fit cs path (walk_start cs) ≡ true → step_fits cs (get_or path i 0) w ≡ true
  followed-fits i w rows f h t = (and-true (step_fits cs (get_or path i 0) w) (all_fit cs (drop (suc i) path) (walked cs (get_or path i 0) w)) (sym (step-whole i w rows f h) ∙ t)).0

  -- no more rows than the whole has
  pub rows_whole : (i : ℕ) → length (rows_along cs (take i path) (walk_start cs)) ≤ length (rows_along cs path (walk_start cs))
  rows_whole i =
      let e : length (rows_along cs path (walk_start cs)) ≡ length (rows_along cs (take i path) (walk_start cs)) + length (rows_along cs (drop i path) (walk_along cs (take i path) (walk_start cs))) =
      ap (λ p. length (rows_along cs p (walk_start cs))) (sym (take-append-drop i path))
      ∙ ap length (rows_append cs (take i path) (drop i path) (walk_start cs))
      ∙ length-append (rows_along cs (take i path) (walk_start cs)) (rows_along cs (drop i path) (walk_along cs (take i path) (walk_start cs))) in
      omega arith

  -- what stands in the lent words
  abbrev pub written : List ℕ → ℕ → List ℕ
  written lent i = sets lent 0 (row_words (rows_along cs (take i path) (walk_start cs)))

  pub written_none : (lent : List ℕ) → written lent 0 ≡ lent
  unfolding rows_along gather
  written_none lent = refl

  pub written-more : (lent : List ℕ) (i : ℕ) (w : Walk) (rows : ℕ) → Followed i w rows → i < length path → written lent (i + 1) ≡ sets (written lent i) (3 * rows) (row_words (step_rows cs (get_or path i 0) w))
  written-more lent i w rows f h =
      ap (λ t. sets lent 0 (row_words t)) (rows_next i w rows f h)
      ∙ ap (sets lent 0) (words_append (rows_along cs (take i path) (walk_start cs)) (step_rows cs (get_or path i 0) w))
      ∙ sets-append (row_words (rows_along cs (take i path) (walk_start cs))) (row_words (step_rows cs (get_or path i 0) w)) lent 0
      ∙ ap (λ k. sets (written lent i) k (row_words (step_rows cs (get_or path i 0) w)))
      (let e : 0 + length (row_words (rows_along cs (take i path) (walk_start cs))) ≡ 3 * rows = omega (arith, length-words (rows_along cs (take i path) (walk_start cs)), f.many) in e)

  -- the rows of a step: how many, and their words, of so many transitions
  module _ (e : ℕ) (w : Walk) (transitions : ℕ) (are : transition_count cs ≡ transitions) where
    -- an edge of a transition has the transition's number; behind them, and past all edges, none came of one
    from-edge : {A : Type 0} (f : Origin → A) (none : A) → ((s : ℕ) → f (from_waiting s) ≡ none) → ((s : ℕ) → f (from_idling s) ≡ none) → f (origin_of cs e) ≡ cond (ltb e transitions) (f (from_transition e)) none
    from-edge f none wait idle = go (ltb e transitions) refl
      where
        go : (b : Bool) → ltb e transitions ≡ b → f (origin_of cs e) ≡ cond b (f (from_transition e)) none
        go true q = ap f (origin_of-edge_number cs (from_transition e) (let l : e < transitions = ltb-true e transitions q in omega (arith, are)))
        go false q = origin_of-idle cs f none wait idle e (let l : transitions ≤ e = ltb-false e transitions q in omega (arith, are))

    pub rows-many : length (step_rows cs e w) ≡ cond (ltb e transitions) 1 0
    rows-many = from-edge (λ o. length (rows_from cs o w)) 0 (λ s. refl) (λ s. refl)

    pub words_are : row_words (step_rows cs e w) ≡ cond (ltb e transitions) (w.cycles ∷ (w.position - 1) ∷ e ∷ []) []
    unfolding gather
    words_are = from-edge (λ o. row_words (rows_from cs o w)) [] (λ s. refl) (λ s. refl)

  -- a row more has room where all have
  pub room_next : (i : ℕ) (w : Walk) (rows n : ℕ) → Followed i w rows → i < length path → length (step_rows cs (get_or path i 0) w) ≡ 1 → 3 * length (rows_along cs path (walk_start cs)) ≤ n → 3 * rows + 3 ≤ n
  room_next i w rows n f h one room =
      let e : length (rows_along cs (take (i + 1) path) (walk_start cs)) ≡ length (rows_along cs (take i path) (walk_start cs)) + length (step_rows cs (get_or path i 0) w) =
      ap length (rows_next i w rows f h) ∙ length-append (rows_along cs (take i path) (walk_start cs)) (step_rows cs (get_or path i 0) w) in
      omega (arith, f.many, one, room, rows_whole (i + 1))

  pub followed-all : (i : ℕ) (w : Walk) (rows : ℕ) → Followed i w rows → length path ≤ i → counted (led_back cs path (walk_start cs)) ≡ val rows
  followed-all i w rows f h =
      let whole : take i path ≡ path = take_all i path h in
      ap counted (led-is cs path (walk_start cs))
      ∙ ap (λ b. counted (cond b (val (rows_along cs path (walk_start cs))) (fault broken_path))) (subst (λ p. all_fit cs p (walk_start cs) ≡ true) whole f.fit)
      ∙ ap val (sym (subst (λ p. rows ≡ length (rows_along cs p (walk_start cs))) whole f.many))
