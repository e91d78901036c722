-- Draws, and refusal 7. Growth takes its draws from any source; a tree's part of the two tapes is such a source.
use Rattle.std.specs.Prelude.{ℕ, suc, Bool, true, false, ◌&&◌, List, [], ◌∷◌, take, drop, Float}
use Rattle.std.specs.Float.Ieee.{lt, le}
use Rattle.rules.specs.Words.{each_once}

-- R7.1: an answer, or a bad draw at search n
pub data Out {ℓ} (A : Type ℓ) : Type ℓ where
  bad : ℕ → Out A
  ok : A → Out A

-- R7.1: f goes on from an answer; a bad draw ends all
unfoldable pub bind {ℓ κ} : {A : Type ℓ} {B : Type κ} → Out A → (A → Out B) → Out B
bind (bad n) f = bad n
bind (ok a) f = f a

-- R7.2: where draws come from: an order of the features for a search, a threshold between lowest and highest, and a count of searches done
pub record Source (S : Type 0) : Type 0 where
  pub shuffle : S → Out (List ℕ × S)
  pub threshold : S → Float → Float → Out (Float × S)
  pub done : S → S

-- R7.3: what is left of a tree's two tapes, and how many searches it made
pub record Tapes : Type 0 where
  pub words : List ℕ
  pub thresholds : List Float
  pub searches : ℕ

-- R7.4: a search's choice words, if they are a permutation of the features; where too few are left, they are not
unfoldable pub take_words : Bool → ℕ → Tapes → Out (List ℕ × Tapes)
take_words false n d = bad d.searches
take_words true n d = ok (take n d.words, record { words = drop n d.words; thresholds = d.thresholds; searches = d.searches })

-- R7.5
unfoldable pub take_threshold : Bool → Float → List Float → Tapes → Out (Float × Tapes)
take_threshold false t ts d = bad d.searches
take_threshold true t ts d = ok (t, record { words = d.words; thresholds = ts; searches = d.searches })

-- R7.5: the next threshold, if one is left and lowest <= t < highest
unfoldable pub next_threshold : List Float → Float → Float → Tapes → Out (Float × Tapes)
next_threshold [] lowest highest d = bad d.searches
next_threshold (t ∷ ts) lowest highest d = take_threshold (le lowest t && lt t highest) t ts d

-- R7.6
unfoldable pub tape : ℕ → Source Tapes
tape features =
    record {
      shuffle = λ d. take_words (each_once features (take features d.words)) features d;
      threshold = λ d lowest highest. next_threshold d.thresholds lowest highest d;
      done = λ d. record { words = d.words; thresholds = d.thresholds; searches = suc d.searches };
    }
