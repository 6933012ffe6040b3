-- What `frame_of` answers, in the words of `Framing`, and the steps on the way. Assumes nothing: these are definitions.
use Rattle.std.specs.Prelude.{◌≡◌, Bool, true, false, ◌||◌, List, ℕ, zero, suc, ◌+◌, ◌*◌, ◌/◌, ◌≤◌, ◌<◌, ltb, eqb, length, get_or, take, Option, Some, None, Result, Ok}
use Rattle.prelude.specs.Lists.{any, map_from}
use Rattle.records.specs.RefusalOf.{refusal_of, error_of}
use Rattle.records.specs.declared.refusals.Refusal.{Refusal}
use Rattle.records.specs.Bytes.{byte}
use Rattle.framing.specs.Framing as F
use Rattle.framing.specs.declared.Frame.{Frame}

-- The refusal, or the frame.
pub record IsFrame (first : ℕ) (most s : List ℕ) (r : Result Frame Refusal) : Type 0 where
  pub answer : error_of refusal_of r ≡ F.framing first most s
  pub counts : (f : Frame) → r ≡ Ok f → f.counts ≡ F.counts first most s
  pub firsts : (f : Frame) → r ≡ Ok f → f.firsts ≡ F.firsts first most s

-- Records of one kind from one on, and the number of the first that is of another or is none.
pub record IsRun (s : List ℕ) (start k end : ℕ) : Type 0 where
  pub after : start ≤ end
  pub within : end ≤ length s / 16
  pub same : (i : ℕ) → start ≤ i → i < end → byte s (16 * i) ≡ k
  pub other : end < length s / 16 → byte s (16 * end) ≡ k → ⊥

-- One pass over the kinds: refusal 2, or how many of each.
abbrev pub IsTally : ℕ → List ℕ → List ℕ → Option (List ℕ) → Type 0
IsTally first most s None = F.has_unordered_kinds first most s ≡ true
IsTally first most s (Some ns) = (F.has_unordered_kinds first most s ≡ false) × (ns ≡ F.counts first most s)

-- Refusal 3, of counts: none of the first kind, or one above its limit.
abbrev pub exceeds : List ℕ → List ℕ → Bool
exceeds ns most = eqb (get_or ns 0 0) 0 || any (λ over. over) (map_from 0 (λ j m. ltb m (get_or ns j 0)) (take 9 most))

-- the sum of the first j numbers
unfoldable pub sum_to : ℕ → List ℕ → ℕ
sum_to zero ns = 0
sum_to (suc j) ns = sum_to j ns + get_or ns j 0
