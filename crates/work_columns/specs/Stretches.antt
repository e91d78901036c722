-- Stretches of the work columns: parts of parts, and what a change of the same places of every column leaves. Assumes nothing.
use Prim.Native.Nat.{ℕ, zero, suc, ◌+◌, ◌-◌, ◌*◌, ◌<◌, ◌≤◌}
use Rattle.std.proofs.Common.{mul-le-mul_right, suc-mul, not-suc-le-zero, le_trans, lt_of_lt_of_le, add-one, ◌∙◌, subst}
use Rattle.std.proofs.Common.{inl, inr, take-append-drop, length-take, length-drop, take-take, take-add, length-take-le}
use Rattle.std.proofs.Math.Decide.{ℕ_discrete, dec_lt}
use native.Mathlib.Omega.{arith}
use Rattle.std.specs.Prelude.{◌≡◌, ◌⊎◌, ◌≢◌, take}
use Rattle.std.proofs.Math.Path.{refl, sym, ap}
use mathlib.Core.List.{List, ◌++◌, append_assoc}
use Rattle.std.proofs.Math.ListN.{length, drop, length-append}
use Rattle.std.proofs.Math.Seq.{take_at, drop_at, drop-drop}
use Rattle.std.proofs.lemmas.List.{take-append-le, drop-append-le}
use borrow.Rule.Slice.PartMut.{put_mid}
use Rattle.rules.specs.Words.{stretch}
use Rattle.lemmas.specs.Lists.{Every, every_take, every_drop, drop-take}
use Rattle.lemmas.specs.Work.{part}
use Rattle.work_columns.specs.Columns.{changed, in_columns}

-- ---- lists

-- column k ends where column k + 1 begins
pub column-end : (rows n k : ℕ) → k < n → k * rows + rows ≤ n * rows
column-end rows n k h = subst (λ m. m ≤ n * rows) (suc-mul k rows) (mul-le-mul_right rows h)

pub length-stretch : (a n : ℕ) (l : List ℕ) → a + n ≤ length l → length (stretch a n l) ≡ n
length-stretch a n l h = simp (length-take, length-drop) (omega arith)

-- a stretch of a stretch
pub stretch-in : (a n b m : ℕ) (l : List ℕ) → b + m ≤ n → stretch b m (stretch a n l) ≡ stretch (a + b) m l
stretch-in a n b m l h =
    ap (take m) (drop-take b n (drop a l)) ∙ take-take m (n - b) (drop b (drop a l)) (omega arith) ∙ ap (take m) (drop-drop b a l)

-- ---- what a change of n entries from a on leaves

changed-not : (a n : ℕ) (g : List ℕ → List ℕ) (l : List ℕ) → g (stretch a n l) ≡ stretch a n l → changed a n g l ≡ l
unfolding changed
changed-not a n g l e = ap (λ z. take a l ++ (z ++ drop n (drop a l))) e ∙ ap (λ z. take a l ++ z) (take-append-drop n (drop a l)) ∙ take-append-drop a l

module _ (a n : ℕ) (g : List ℕ → List ℕ) (l : List ℕ) (h : a + n ≤ length l) (y : length (g (stretch a n l)) ≡ n) where
  before-long : length (take a l) ≡ a
  before-long = length-take-le a l (omega arith)

  pub changed-long : length (changed a n g l) ≡ length l
  unfolding changed
  changed-long =
      length-append (take a l) (g (stretch a n l) ++ drop n (drop a l))
      ∙ ap (λ k. length (take a l) + k) (length-append (g (stretch a n l)) (drop n (drop a l)))
      ∙ (λ i. before-long i + (y i + (length-drop n (drop a l) ∙ ap (λ k. k - n) (length-drop a l)) i))
      ∙ whole (length l) h
    where
      whole : (m : ℕ) → a + n ≤ m → a + (n + (m - a - n)) ≡ m
      whole m h = omega arith

  pub changed-here : stretch a n (changed a n g l) ≡ g (stretch a n l)
  unfolding changed
  changed-here =
      ap (take n) (drop_at (take a l) (g (stretch a n l) ++ drop n (drop a l)) a before-long) ∙ take_at (g (stretch a n l)) (drop n (drop a l)) n y

  within : (b m : ℕ) (x z : List ℕ) → b + m ≤ length x → stretch b m (x ++ z) ≡ stretch b m x
  within b m x z k =
      ap (take m) (drop-append-le b x z (omega arith)) ∙ take-append-le m (drop b x) z (subst (λ w. m ≤ w) (sym (length-drop b x)) (omega arith))

  pub changed-before : (b m : ℕ) → b + m ≤ a → stretch b m (changed a n g l) ≡ stretch b m l
  unfolding changed
  changed-before b m k =
      let s : b + m ≤ length (take a l) = omega (arith, before-long) in
      within b m (take a l) (g (stretch a n l) ++ drop n (drop a l)) s ∙ sym (within b m (take a l) (drop a l) s) ∙ ap (stretch b m) (take-append-drop a l)

  pub changed-after : (b : ℕ) → a + n ≤ b → drop b (changed a n g l) ≡ drop b l
  unfolding changed
  changed-after b k =
      let e : a + n + (b - (a + n)) ≡ b = omega arith in
      ap (λ z. drop z (changed a n g l)) (sym e) ∙ sym (drop-drop (b - (a + n)) (a + n) (changed a n g l))
      ∙ ap (drop (b - (a + n))) (past ∙ drop-drop n a l) ∙ drop-drop (b - (a + n)) (a + n) l ∙ ap (λ z. drop z l) e
    where
      past : drop (a + n) (changed a n g l) ≡ drop n (drop a l)
      past =
          ap (drop (a + n)) (sym (append_assoc (take a l) (g (stretch a n l)) (drop n (drop a l))))
          ∙ drop_at (take a l ++ g (stretch a n l)) (drop n (drop a l)) (a + n) (length-append (take a l) (g (stretch a n l)) ∙ (λ i. before-long i + y i))

-- ---- parts of a column

-- the part from a to e of a part from b to f
pub part_in : (rows k b f a e : ℕ) (order : List ℕ) → b ≤ a → e ≤ f → a ≤ e → part rows k a e order ≡ stretch (a - b) (e - a) (part rows k b f order)
part_in rows k b f a e order h g o =
    sym (stretch-in (k * rows + b) (f - b) (a - b) (e - a) order (omega arith) ∙ ap (λ z. stretch z (e - a) order) (place (k * rows) a b h))
  where
    place : (z a b : ℕ) → b ≤ a → z + b + (a - b) ≡ z + a
    place z a b h = omega arith

-- a part is the part up to a place, and the part from there on
pub part_join : (rows k b a f : ℕ) (order : List ℕ) → b ≤ a → a ≤ f → part rows k b f order ≡ part rows k b a order ++ part rows k a f order
part_join rows k b a f order h g =
    ap (λ z. stretch (k * rows + b) z order) (width b a f h g) ∙ take-add (a - b) (f - a) (drop (k * rows + b) order)
    ∙ ap (λ z. part rows k b a order ++ take (f - a) z) (drop-drop (a - b) (k * rows + b) order ∙ ap (λ z. drop z order) (place (k * rows) a b h))
  where
    width : (b a f : ℕ) → b ≤ a → a ≤ f → f - b ≡ (a - b) + (f - a)
    width b a f h g = omega arith

    place : (z a b : ℕ) → b ≤ a → z + b + (a - b) ≡ z + a
    place z a b h = omega arith

pub part-long : (rows n k a e : ℕ) (order : List ℕ) → n * rows ≤ length order → k < n → a ≤ e → e ≤ rows → length (part rows k a e order) ≡ e - a
part-long rows n k a e order l h o g = length-stretch (k * rows + a) (e - a) order (omega (arith, column-end rows n k h))

pub part-every : (Q : ℕ → Type 0) (rows k b f a e : ℕ) (order : List ℕ) → b ≤ a → e ≤ f → a ≤ e → Every Q (part rows k b f order) → Every Q (part rows k a e order)
part-every Q rows k b f a e order h g o q =
    subst (Every Q) (sym (part_in rows k b f a e order h g o)) (every_take Q (e - a) (drop (a - b) (part rows k b f order)) (every_drop Q (a - b) (part rows k b f order) q))

-- ---- the same places of every column

-- a change that keeps how many there are
abbrev pub Keeps : (ℕ → List ℕ → List ℕ) → ℕ → ℕ → Type 0
Keeps g n m = (k : ℕ) → k < n → (l : List ℕ) → length l ≡ m → length (g k l) ≡ m

module _ (rows a e : ℕ) (g : ℕ → List ℕ → List ℕ) (order : List ℕ) (ordered : a ≤ e) (high : e ≤ rows) where
  fewer : (n : ℕ) → Keeps g (suc n) (e - a) → Keeps g n (e - a)
  fewer n y k h l = y k (omega arith) l

  ends : (n m : ℕ) → suc n * rows ≤ m → n * rows + rows ≤ m
  ends n m h = subst (λ z. z ≤ m) (suc-mul n rows) h

  -- column n of what the first n changes leave has room, and stays as long
  module _ (n : ℕ) (long : suc n * rows ≤ length order) (y : Keeps g (suc n) (e - a)) (same : length (in_columns rows a e g n order) ≡ length order) where
    pub here-room : n * rows + a + (e - a) ≤ length (in_columns rows a e g n order)
    here-room = omega (arith, same, ends n (length order) long)

    pub here-long : length (g n (stretch (n * rows + a) (e - a) (in_columns rows a e g n order))) ≡ e - a
    here-long = y n (omega arith) _ (length-stretch (n * rows + a) (e - a) (in_columns rows a e g n order) here-room)

  pub in-long : (n : ℕ) → n * rows ≤ length order → Keeps g n (e - a) → length (in_columns rows a e g n order) ≡ length order
  unfolding in_columns
  in-long zero l y = refl
  in-long (suc n) l y = go (in-long n (omega (arith, ends n (length order) l)) (fewer n y))
    where
      go : length (in_columns rows a e g n order) ≡ length order → length (in_columns rows a e g (suc n) order) ≡ length order
      go s = changed-long (n * rows + a) (e - a) (g n) (in_columns rows a e g n order) (here-room n l y s) (here-long n l y s) ∙ s

  -- one change more leaves the parts of other columns, and the parts beside its own
  past : (n : ℕ) (l : suc n * rows ≤ length order) (y : Keeps g (suc n) (e - a)) (k b f : ℕ) → b ≤ f → f ≤ rows → (k ≢ n) ⊎ ((f ≤ a) ⊎ (e ≤ b))
      → part rows k b f (in_columns rows a e g (suc n) order) ≡ part rows k b f (in_columns rows a e g n order)
  unfolding in_columns
  past n l y k b f o h c = go (in-long n (omega (arith, ends n (length order) l)) (fewer n y)) (dec_lt k n) (dec_lt n k) c
    where
      was : List ℕ
      was = in_columns rows a e g n order

      before : length was ≡ length order → k * rows + b + (f - b) ≤ n * rows + a → part rows k b f (in_columns rows a e g (suc n) order) ≡ part rows k b f was
      before s p = changed-before (n * rows + a) (e - a) (g n) was (here-room n l y s) (here-long n l y s) (k * rows + b) (f - b) p

      after : length was ≡ length order → n * rows + a + (e - a) ≤ k * rows + b → part rows k b f (in_columns rows a e g (suc n) order) ≡ part rows k b f was
      after s p = ap (take (f - b)) (changed-after (n * rows + a) (e - a) (g n) was (here-room n l y s) (here-long n l y s) (k * rows + b) p)

      level : ¬ (k < n) → ¬ (n < k) → k ≡ n
      level u v = omega arith

      go : length was ≡ length order → Dec (k < n) → Dec (n < k) → (k ≢ n) ⊎ ((f ≤ a) ⊎ (e ≤ b)) → part rows k b f (in_columns rows a e g (suc n) order) ≡ part rows k b f was
      go s (yes u) v c = before s (omega (arith, column-end rows n k u))
      go s (no u) (yes v) c = after s (omega (arith, column-end rows k n v))
      go s (no u) (no v) (inl d) = absurd (d (level u v))
      go s (no u) (no v) (inr (inl p)) = before s (omega (arith, ap (λ z. z * rows) (level u v)))
      go s (no u) (no v) (inr (inr p)) = after s (omega (arith, ap (λ z. z * rows) (level u v)))

  -- columns that no change has come to
  pub in-later : (n : ℕ) → n * rows ≤ length order → Keeps g n (e - a) → (k b f : ℕ) → n ≤ k → b ≤ f → f ≤ rows → part rows k b f (in_columns rows a e g n order) ≡ part rows k b f order
  unfolding in_columns
  in-later zero l y k b f u o h = refl
  in-later (suc n) l y k b f u o h =
      past n l y k b f o h (inl (above n k u)) ∙ in-later n (omega (arith, ends n (length order) l)) (fewer n y) k b f (omega arith) o h
    where
      above : (n k : ℕ) → suc n ≤ k → k ≢ n
      above n k u q = omega arith

  -- what lies beside the places
  pub in-beside : (n : ℕ) → n * rows ≤ length order → Keeps g n (e - a) → (k b f : ℕ) → (f ≤ a) ⊎ (e ≤ b) → b ≤ f → f ≤ rows → part rows k b f (in_columns rows a e g n order) ≡ part rows k b f order
  unfolding in_columns
  in-beside zero l y k b f c o h = refl
  in-beside (suc n) l y k b f c o h = past n l y k b f o h (inr c) ∙ in-beside n (omega (arith, ends n (length order) l)) (fewer n y) k b f c o h

  -- the places themselves
  pub in-here : (n : ℕ) → n * rows ≤ length order → Keeps g n (e - a) → (k : ℕ) → k < n → part rows k a e (in_columns rows a e g n order) ≡ g k (part rows k a e order)
  unfolding in_columns
  in-here zero l y k u = absurd (not-suc-le-zero u)
  in-here (suc n) l y k u = go (ℕ_discrete k n) (λ d. in-here n (omega (arith, ends n (length order) l)) (fewer n y) k (below k n u d))
    where
      below : (k n : ℕ) → k < suc n → k ≢ n → k < n
      below k n u d = omega (arith, d)

      turn : (s : length (in_columns rows a e g n order) ≡ length order) → part rows n a e (in_columns rows a e g (suc n) order) ≡ g n (part rows n a e (in_columns rows a e g n order))
      turn s = changed-here (n * rows + a) (e - a) (g n) (in_columns rows a e g n order) (here-room n l y s) (here-long n l y s)

      go : Dec (k ≡ n) → (k ≢ n → part rows k a e (in_columns rows a e g n order) ≡ g k (part rows k a e order)) → part rows k a e (in_columns rows a e g (suc n) order) ≡ g k (part rows k a e order)
      go (yes q) ih =
          ap (λ z. part rows z a e (in_columns rows a e g (suc n) order)) q ∙ turn (in-long n (omega (arith, ends n (length order) l)) (fewer n y))
          ∙ ap (g n) (in-later n (omega (arith, ends n (length order) l)) (fewer n y) n a e (omega arith) ordered high) ∙ ap (λ z. g z (part rows z a e order)) (sym q)
      go (no d) ih = past n l y k a e ordered high (inl d) ∙ ih d

-- ---- a loop over the columns: the first k are changed

-- after k columns
pub record Going (rows a e : ℕ) (g : ℕ → List ℕ → List ℕ) (n : ℕ) (order₀ order : List ℕ) (k : ℕ) : Type 0 where
  pub within : k ≤ n
  pub so : order ≡ in_columns rows a e g k order₀

module _ (rows a e : ℕ) (g : ℕ → List ℕ → List ℕ) (n : ℕ) (order₀ : List ℕ) where
  pub going_start : Going rows a e g n order₀ order₀ 0
  unfolding in_columns
  going_start = record { within = omega arith; so = refl }

  -- column k was lent from `low` on, and is back
  pub going-turn : (order new : List ℕ) (k low w : ℕ) → Going rows a e g n order₀ order k → k < n → low ≡ k * rows + a → w ≡ e - a → new ≡ g k (stretch low w order)
      → Going rows a e g n order₀ (put_mid low w order new) (k + 1)
  unfolding in_columns changed
  going-turn order new k low w s h p q r =
      record {
        within = omega arith;
        so =
            ap (put_mid low w order) r ∙ (λ i. changed (p i) (q i) (g k) (s.so i)) ∙ ap (λ z. in_columns rows a e g z order₀) (sym (add-one k));
      }

  pub going_done : (order : List ℕ) (k : ℕ) → Going rows a e g n order₀ order k → n ≤ k → order ≡ in_columns rows a e g n order₀
  going_done order k s h = s.so ∙ ap (λ z. in_columns rows a e g z order₀) (level s.within h)
    where
      level : k ≤ n → n ≤ k → k ≡ n
      level u v = omega arith

  module _ (ordered : a ≤ e) (high : e ≤ rows) (long : n * rows ≤ length order₀) (y : Keeps g n (e - a)) (order : List ℕ) (k : ℕ) (s : Going rows a e g n order₀ order k) where
    shorter : k * rows ≤ length order₀
    shorter = le_trans (mul-le-mul_right rows s.within) long

    pub going-long : length order ≡ length order₀
    going-long = ap length s.so ∙ in-long rows a e g order₀ ordered high k shorter (λ j h. y j (lt_of_lt_of_le h s.within))

    pub going-rest : part rows k a e order ≡ part rows k a e order₀
    going-rest = ap (part rows k a e) s.so ∙ in-later rows a e g order₀ ordered high k shorter (λ j h. y j (lt_of_lt_of_le h s.within)) k a e (omega arith) ordered high

    -- column k would stay as it is, and was passed over
    pub going-past : k < n → g k (part rows k a e order₀) ≡ part rows k a e order₀ → Going rows a e g n order₀ order (k + 1)
    unfolding in_columns
    going-past h same =
        record {
          within = omega arith;
          so =
              sym (changed-not (k * rows + a) (e - a) (g k) order (ap (g k) going-rest ∙ same ∙ sym going-rest))
              ∙ ap (changed (k * rows + a) (e - a) (g k)) s.so ∙ ap (λ z. in_columns rows a e g z order₀) (sym (add-one k));
        }
